use Rattle.std.proofs.Common.{◌∙◌}
use Rattle.ticket.proofs.Laws.All.{all_none, all_next}
use Rattle.ticket.proofs.records.row_passes.Goals as goal

pub loop-column-init : goal.loop-column-init
loop-column-init c = all_none _

pub loop-column-preserved : goal.loop-column-preserved
loop-column-preserved c = all_next _ _ c.loop-column.invariant (c.record_passes-ok.ensures ∙ rw c.from.ensures)
