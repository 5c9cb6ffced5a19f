-- The laws. Each file opens with a table of what it states.
--
--   Full      every answer of the full check is a row of the published table (F2), and which tickets it accepts (F3)
--   Writer    every answer of the writer is a row of the published table (W2); what the output holds afterwards
--   Written   the written ticket is accepted (W3), and is the only one (W4)
--   Quoted    what is quoted is what the writer and the checks report (Q3)
pub mod Full
pub mod Writer
pub mod Written
pub mod Quoted
