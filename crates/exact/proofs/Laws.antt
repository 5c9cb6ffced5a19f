-- The laws. Each file opens with a table of what it states.
--
--   Products   a sum of products, as the code adds it up
--   Matrices   a matrix turned, and the products of a row with columns
pub mod Products
pub mod Matrices
