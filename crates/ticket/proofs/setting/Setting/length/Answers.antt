use Rattle.std.proofs.Common.{◌*◌, ap, ◌∙◌, arith}
use Rattle.ticket.specs.Rules.{record_bytes, ticket_length}
use Rattle.ticket.proofs.Laws.Layout.StartOfB.{start_past}
use Rattle.ticket.proofs.setting.Setting.length.Goals as goal

pub returns : goal.returns
unfolding ticket_length
returns c = ap (λ n. record_bytes * n) (c.start.ensures ∙ start_past _ (omega arith))
