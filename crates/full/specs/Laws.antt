-- The laws: everything that is proved about the rules. Each file opens with a table of what it states.
--
--   Sums       sums of lists of numbers against claims, one after the other
--   Claims     the claims of a ticket, by the lists that it is decoded to
pub mod Sums
pub mod Claims
