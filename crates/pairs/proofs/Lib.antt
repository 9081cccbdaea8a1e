-- Laws of two values worked in step.
mod Lanes
