-- The rules of sums over the integers, which a reader has to believe, and the laws, which are proved from them.
pub mod Laws
