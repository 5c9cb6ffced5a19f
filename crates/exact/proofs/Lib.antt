-- The rule of a sum of products modulo 2^32, which a reader has to believe, and the laws that the proofs cite.
pub mod Laws
