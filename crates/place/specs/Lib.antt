-- From two series and an instant to the apparent place (RULES, "Places"), and to the mount's answer.
pub mod Apparent
pub mod Place
pub mod Mount
pub mod Machine
