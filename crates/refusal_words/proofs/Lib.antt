-- What the functions that write a refusal leave in the output.
pub mod WrittenWords
