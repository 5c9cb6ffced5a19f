-- The rules of a check that proceeds row by row, which a reader has to believe, the laws, and worked examples.
pub mod Rules
pub mod Laws
