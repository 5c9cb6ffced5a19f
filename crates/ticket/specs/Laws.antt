-- The laws: everything that is proved about the rules. Each file opens with a table of what it states.
--
--   Tests         tests in order: whether all hold, or which is the first that fails
--   Runs          steps up to the first that fails, an answer carried along
--   Limits        what a setting within its limits gives (T1), and one that is clamped to them
--   All           whether a test holds at every place
--   Layout        record number, part, row and column (T4); the bytes of a part
--   Forms         the form that the code gives the tests of a part
--   Passing       the tests of a record, made without a branch, and of all records of a part
--   Parts         the parts read by their forms, one after the other, are the ticket
--   Passes        what a ticket that passes gives
--   Lifts         an exact sum, lifted so that it is not negative
--   Decodes       what entries and claims are decoded to
--   Widths        a setting with another width (Q1)
--   Vectors       a setting with another number of vectors
pub mod Tests
pub mod Runs
pub mod Limits
pub mod All
pub mod Layout
pub mod Forms
pub mod Passing
pub mod Parts
pub mod Passes
pub mod Lifts
pub mod Decodes
pub mod Widths
pub mod Vectors
