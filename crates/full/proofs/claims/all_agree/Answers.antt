use Rattle.std.proofs.Common.{refl}
use Rattle.ticket.proofs.Laws.All.{all_none, all_next}
use Rattle.full.proofs.claims.all_agree.Goals as goal

pub loop-k-init : goal.loop-k-init
loop-k-init c = all_none _

pub loop-k-preserved : goal.loop-k-preserved
loop-k-preserved c = all_next c.loop-k.k _ c.loop-k.invariant refl
