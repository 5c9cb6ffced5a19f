-- The rules of the quote, which a reader has to believe, and the laws that say what a quote means.
pub mod Rules
