-- The laws: everything that is proved about the rules. Each file opens with a table of what it states.
--
--   Widths   the smallest width with which a setting fits, and a setting tried with a width
--   Quotes   which quote is given when (Q2), and that the width is not read (Q1)
--   Kinds    the figures without a bias and with one
pub mod Widths
pub mod Quotes
pub mod Kinds
