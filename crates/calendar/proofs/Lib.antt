-- The laws of the calendar, in reading order; Theorems has what is published.
-- Bounds of the definitions counted in naturals, and of the index of a year.
pub mod Bounds
-- A date exists in the count of naturals exactly where its fields keep their bounds; the leap years by cases.
pub mod Existing
-- A test of whole numbers as a test of naturals.
pub mod Compare
-- The first bad field is the same over whole numbers and counted in naturals.
pub mod FirstBad
-- Over naturals: the day number of a date exists and gives the date back.
pub mod DateToDay
-- Over naturals: the date of a day number exists and has that number.
pub mod DayToDate
-- The day number by the rules' formula is the one counted in naturals.
pub mod Formula
-- Dates of whole numbers brought to naturals and back, as the code does.
pub mod WholeDates
-- The date that the specs look for is the one that the code works out.
pub mod DatesFound
-- Each way through a public call ends in the answer that the specs define.
pub mod CallAnswers
-- Over whole numbers: date and day number, instant and date, each found from the other.
pub mod RoundTrips
-- The published theorems.
pub mod Theorems
