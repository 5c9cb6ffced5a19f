-- The whole check: the tests of the ticket, then those of the list, then the rows.
--
--   DecodeReady G t n   the ticket passes, and n numbers are room for its entries of A and its claims
use Rattle.std.specs.Prelude.{List, ℕ, ◌+◌, ◌*◌, ◌≤◌}
use Rattle.ticket.specs.declared.setting.Setting.{Setting}
use Rattle.ticket.specs.Laws.Passes.{Passed}

pub record DecodeReady (G : Setting) (t : List ℕ) (room : ℕ) : Type 0 where
  pub passed : Passed G t
  pub fits : G.rows * G.inner + G.rows * G.columns ≤ room
