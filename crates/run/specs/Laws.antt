-- The laws: everything that is proved about the rules. Each file opens with a table of what it states.
--
--   States      states and their answers, as the code makes them (S1)
--   Additions   the lists of states, and additions to them (S1)
pub mod States
pub mod Additions
