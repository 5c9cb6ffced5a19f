-- The laws: everything that is proved about the rules. Each file opens with a table of what it states.
--
--   Fills            lists that a loop fills, and parts of lists
pub mod Fills
