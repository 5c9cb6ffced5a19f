-- The laws: everything that is proved about the rules. Each file opens with a table of what it states.
--
--   IntegerSums      sums over the integers: their size and their least residues
--   FloorDivision    floor division over the integers
--   MatrixProducts   a product of matrices, and applied to a vector (Freivalds' identity)
--   Vectors          vectors as lists: one entry taken out, a list cut into vectors
--   Sets             sets of numbers, as lists of different ones
--   Drawn            lists of challenge vectors, and how many there are
--   Soundness        how many lists of challenge vectors a wrong product passes
--   Positions        rows and columns of a matrix, as a loop counts them
--   Fills            lists that a loop fills, and parts of lists
--   Bytes            numbers of four bytes
pub mod IntegerSums
pub mod FloorDivision
pub mod MatrixProducts
pub mod Vectors
pub mod Sets
pub mod Drawn
pub mod Soundness
pub mod Positions
pub mod Fills
pub mod Bytes
