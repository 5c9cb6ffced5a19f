use Rattle.ticket.specs.Rules.{scale_and_bound_within, numbers_within}
use Rattle.ticket.proofs.setting.Setting.numbers_within.Goals as goal

pub returns : goal.returns
unfolding numbers_within scale_and_bound_within
returns c = rw (c.within.ensures, c.within-2.ensures, c.within-3.ensures)
