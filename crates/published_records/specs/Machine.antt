-- What only the code needs: nothing here has to be believed.
pub mod Figures
pub mod Runs
pub mod Fillers
pub mod Parts
pub mod Indents
