-- The laws: everything that is proved about the rules. Each file opens with a table of what it states.
--
--   First         the first place at which a test fails
--   Scans         the first refusal of several tests
--   Answers       when the number of an answer is 0
--   Tests         tests in order: whether all hold, or which is the first that fails
--   Runs          steps up to the first that fails, an answer carried along
--   Limits        what a setting within its limits gives (T1), and one that is clamped to them
--   All           whether a test holds at every place
--   Layout        record number, part, row and column (T4); the bytes of a part
--   Forms         the form that the code gives the tests of a part
--   Passing       the tests of a record, made without a branch, and of all records of a part
--   Parts         the parts read by their forms, one after the other, are the ticket
--   Refusals      when reading refuses, with which number and place (T3)
--   Passes        what a ticket that passes gives
--   Lifts         an exact sum, lifted so that it is not negative
--   Differences   how far the claims are from the exact sums
--   Decodes       what entries and claims are decoded to
--   Kinds         settings without a bias, and with one (B1, B3); where test 19 stands (O1)
--   Rounding      settings whose rounding number is 0 (O3)
--   Widths        a setting with another width (Q1)
--   Vectors       a setting with another number of vectors
pub mod First
pub mod Scans
pub mod Answers
pub mod Tests
pub mod Runs
pub mod Limits
pub mod All
pub mod Layout
pub mod Forms
pub mod Passing
pub mod Parts
pub mod Refusals
pub mod Passes
pub mod Lifts
pub mod Differences
pub mod Decodes
pub mod Kinds
pub mod Rounding
pub mod Widths
pub mod Vectors
