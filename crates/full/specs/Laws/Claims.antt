-- The claims of a ticket, by the lists that it is decoded to, and the whole check.
--
--   Space G a b c       a numbers have room for the rows of A and for those of B, b for the columns of B, c for the claims
use Rattle.std.specs.Prelude.{ℕ, ◌*◌, ◌≤◌}
use Rattle.ticket.specs.declared.setting.Setting.{Setting}

pub record Space (G : Setting) (a b c : ℕ) : Type 0 where
  pub rows : (G.rows * G.inner ≤ a) × (G.inner * G.columns ≤ a)
  pub columns : G.inner * G.columns ≤ b
  pub claims : G.rows * G.columns ≤ c
