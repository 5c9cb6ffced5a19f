-- What the answers of the full check and of the writer mean, and that what is quoted is kept: the laws, and the marked examples of all calls.
pub mod Laws
mod Examples
