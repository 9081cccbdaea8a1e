-- Laws of the definitions of specs/.
pub mod Rising
pub mod Quarter
pub mod Halving
pub mod Turns
pub mod Steps
pub mod Latitudes
pub mod Figures
