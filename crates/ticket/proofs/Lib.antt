-- The rules of reading a ticket, which a reader has to believe, the laws, which are proved from them, and the ticket of the examples.
pub mod Laws
pub mod Examples
