-- The rules of residue arithmetic, which a reader has to believe, the laws, which are proved from them, and worked examples.
pub mod Rules
pub mod Laws
