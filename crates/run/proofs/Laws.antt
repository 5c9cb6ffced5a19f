-- The laws: everything that is proved about the rules. Each file opens with a table of what it states.
--
--   States      states and their answers, as the code makes them (S1)
--   Reasons     reasons told apart
--   Additions   the lists of states, and additions to them (S1)
--   Kept        what holds of every state that a run hands back
--   Table       every answer is a row of the published table (S2)
--   Runs        whole runs (S3, S4)
--   Demands     which final lists runs end complete with (S5)
pub mod States
pub mod Reasons
pub mod Additions
pub mod Kept
pub mod Table
pub mod Runs
pub mod Demands
