-- The laws: everything that is proved about the rules. Each file opens with a table of what it states.
--
--   Same       when two integers are the same, by the rule `same`
--   Sums       sums of lists of numbers against claims, one after the other
--   Claims     the claims of a ticket, by the lists that it is decoded to
--   Checks     the whole check, by what reading gives
--   Rounding   the check with the rounding number 0 (O3)
pub mod Same
pub mod Sums
pub mod Claims
pub mod Checks
pub mod Rounding
