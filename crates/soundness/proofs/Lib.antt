-- What the answers of the challenge check mean: the laws, and worked examples.
pub mod Laws
pub mod Examples
