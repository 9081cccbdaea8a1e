-- What is promised of mending: each byte in words of lines (Bytes), the listed changes made to a text (Made), clean texts (Clean), all of it in
-- one record (Promises); and what a call answers and leaves (Call).
pub mod Bytes
pub mod Made
pub mod Clean
pub mod Promises
pub mod Call
