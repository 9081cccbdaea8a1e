-- Packed numbers: what they are (Numbers), and what only the code needs (Machine).
pub mod Numbers
pub mod Machine
