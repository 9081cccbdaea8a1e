-- Series stored end to end.
pub mod EndToEnd
