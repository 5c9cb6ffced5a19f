-- The laws: everything that is proved about the rules. Each file opens with a table of what it states.
--
--   Prefixes  the first elements of a list
--   Numbers   the numbers of a challenge file, as the code reads them
--   Starts    the beginnings of the files decide
--   Lines     the line of an answer, field after field
pub mod Prefixes
pub mod Numbers
pub mod Starts
pub mod Lines
