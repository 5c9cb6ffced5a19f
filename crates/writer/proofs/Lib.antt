-- The rules of the ticket writer, which a reader has to believe, and the laws that the proofs of its functions cite.
pub mod Laws
