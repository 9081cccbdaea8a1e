-- The date program: what each line of its input says, what it prints for it, and the words of the theorems.
pub mod Lines
pub mod States
pub mod Replies
pub mod Written
