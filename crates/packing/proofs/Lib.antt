-- The buffers of pack have room for every series.
pub mod Room
