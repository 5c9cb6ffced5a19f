-- The laws: everything that is proved about the rules. Each file opens with a table of what it states.
--
--   Modulo      natural numbers modulo p
pub mod Modulo
