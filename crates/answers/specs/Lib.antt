-- What each function of the C interface answers.
pub mod Answers
