use Rattle.ticket.specs.Rules.{sizes_within}
use Rattle.ticket.proofs.setting.Setting.sizes_within.Goals as goal

pub returns : goal.returns
unfolding sizes_within
returns c = rw (c.within.ensures, c.within-2.ensures, c.within-3.ensures, c.within-4.ensures)
