-- RULES, "Series, as text and packed": the printer.
pub mod Printer
pub mod Machine
