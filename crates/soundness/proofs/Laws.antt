-- The laws. Each file opens with a table of what it states.
--
--   Answers      every answer is a row of the published table (C2)
--   Demands      which lists are accepted, and how many (C3 to C6)
--   DrawnLists   which lists drawn from a set of numbers are accepted, and how many (N1, N2)
--   SixteenBit   the same of the lists of a 16-bit generator
pub mod Answers
pub mod Demands
pub mod DrawnLists
pub mod SixteenBit
