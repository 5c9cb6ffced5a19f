-- The laws: everything that is proved about the rules. Each file opens with a table of what it states.
--
--   Prefixes  the first elements of a list
--   Numbers   the numbers of a challenge file, as the code reads them
--   Checks    the check of the three files (P)
--   Starts    the beginnings of the files decide
--   Table     every answer is a row of the published table
--   Decimal   a number in decimal
--   Lines     the line of an answer, field after field
pub mod Prefixes
pub mod Numbers
pub mod Checks
pub mod Starts
pub mod Table
pub mod Decimal
pub mod Lines
