use Rattle.ticket.proofs.Laws.Passing.{record_passing}
use Rattle.ticket.proofs.records.record_passes.Goals as goal

pub returns : goal.returns
returns c = record_passing _ _ _ _ _ c.formed.ensures c.value_at-value.ensures c.is_least.ensures c.in_range.ensures
