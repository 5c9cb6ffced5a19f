-- What rests on Layout.
--
--   size_past, start_past past the last part there are no records, and all come before
--   length_is             how many bytes a ticket has
--   start_of_b            the part that holds B starts at byte 8 · rows · inner
use Rattle.std.specs.Prelude.{◌≡◌, ℕ, ◌+◌, ◌*◌, ◌≤◌}
use Rattle.std.proofs.Common.{take_all}
use native.Mathlib.Omega.{arith}
use Rattle.std.proofs.Math.Path.{ap}
use Rattle.std.proofs.Math.ListN.{get_or-eq_default}
use Rattle.ticket.specs.declared.setting.Setting.{Setting}
use Rattle.ticket.specs.Rules.{no_part, parts, part, part_size, count, start, records, record_bytes, ticket_length, of_b, bias_columns}
use Rattle.ticket.proofs.Laws.Layout.{parts_are}

module _ (G : Setting) {w : ℕ} where
  pub size_past : 5 ≤ w → part_size (part G w) ≡ 0
  unfolding part
  size_past past = ap part_size (get_or-eq_default (parts G) no_part (omega (arith, (parts_are G).five)))

  pub start_past : 5 ≤ w → start G w ≡ records G
  unfolding start records
  start_past past = ap count (take_all w (parts G) (omega (arith, (parts_are G).five)))

pub length_is : (G : Setting)
    → ticket_length G ≡ 8 * (G.rows * G.inner + G.inner * G.columns + G.rows * bias_columns G + 2 * (G.rows * G.columns))
unfolding ticket_length
length_is G = ap (λ n. 8 * n) (parts_are G).all

pub start_of_b : (G : Setting) → record_bytes * start G of_b ≡ 8 * (G.rows * G.inner)
start_of_b G = ap (λ n. 8 * n) (parts_are G).start_b
