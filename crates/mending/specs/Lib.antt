-- Mending: what becomes of each byte of a text (Rule), the answer and what a call leaves (Answer), and what only the code needs (Machine).
pub mod Rule
pub mod Answer
pub mod Machine
