use Rattle.std.proofs.Common.{◌∙◌, arith}
use Rattle.residue.proofs.Laws.Powers.{power_within}
use Rattle.ticket.proofs.setting.Setting.half.Goals as goal

pub returns-else-width-eq0 : goal.returns-else-width-eq0
returns-else-width-eq0 c = rw (← c.clamped-width.ensures.0) (c.power_of_two.ensures ∙ power_within _ (omega arith))
