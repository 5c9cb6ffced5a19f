-- The rules of the full check, which a reader has to believe, and the laws that the proofs of its functions cite.
pub mod Laws
