-- What `unpack` answers for the whole of its input.
pub mod Input
