-- What rests on StartOfB.
--
--   longest_ticket, length_most   the most bytes that a ticket without a bias has within the limits, and that every ticket has
use Rattle.std.specs.Prelude.{◌+◌, ◌*◌, ◌≤◌}
use native.Mathlib.Omega.{arith}
use Rattle.ticket.specs.declared.setting.Setting.{Setting}
use Rattle.ticket.specs.Rules.{record_bytes, ticket_length, bias_columns}
use Rattle.ticket.specs.Laws.Limits.{Counts}
use Rattle.ticket.specs.Laws.Layout.{longest_ticket}
use Rattle.ticket.proofs.Laws.Layout.StartOfB.{length_is}

pub length_most : {G : Setting} → Counts G → ticket_length G ≤ longest_ticket + record_bytes * (G.rows * bias_columns G)
length_most {G} counts = omega (arith, length_is G)
