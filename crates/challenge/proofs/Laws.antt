-- The laws: everything that is proved about the rules. Each file opens with a table of what it states.
--
--   Lists      the tests of a challenge list
--   Shifts     sums of products in which one factor is shifted
--   Products   products with a vector
--   Rows       all rows of one vector
--   Sides      the two sides of a row
--   Vectors    all vectors of a list
--   Checks     the whole check (C1)
--   Single     one row by itself
--   Lengthened   a list with a vector at its end
--   Kinds      the check without a bias, and with one (B3)
--   Rounding   the check with the rounding number 0 (O3)
pub mod Lists
pub mod Shifts
pub mod Products
pub mod Rows
pub mod Sides
pub mod Vectors
pub mod Checks
pub mod Single
pub mod Lengthened
pub mod Kinds
pub mod Rounding
