-- The laws: everything that is proved about the rules. Each file opens with a table of what it states.
--
--   Writes     records that are written to an output
--   Records    what the records of the written ticket hold
--   Operands   the operands and the bias, as the code tests and converts them
--   Answers    when each answer is given, and what the output then holds
--   Lines      the records of rows and of whole operands
--   Claims     quotient and remainder of a sum
--   Rows       the records of the claims, row by row
pub mod Writes
pub mod Records
pub mod Operands
pub mod Answers
pub mod Lines
pub mod Claims
pub mod Rows
