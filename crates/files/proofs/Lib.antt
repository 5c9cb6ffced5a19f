-- The rules of the program's files, which a reader has to believe, the laws over them, and examples.
pub mod Laws
pub mod Examples
