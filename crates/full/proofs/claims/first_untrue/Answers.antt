use Rattle.std.proofs.Common.{sym, ◌∙◌, arith, ne_eqb}
use Rattle.ticket.proofs.Laws.All.{all_at}
use Rattle.ticket.proofs.Laws.First.{first_none, first_is}
use Rattle.full.proofs.claims.first_untrue.Goals as goal

pub returns-then-all_agree : goal.returns-then-all_agree
returns-then-all_agree c = first_none _ _ (all_at _ _ (sym c.all_agree.ensures ∙ c.if-all_agree.true))

pub returns-then-sum-lift : goal.returns-then-sum-lift
returns-then-sum-lift c = (first_is _ c.loop-j.j _ (omega arith) c.loop-j.invariant (ne_eqb _ _ c.if-sum-lift.true), omega arith)

pub returns : goal.returns
returns c = first_none _ _ (λ i l. c.loop-j.invariant i (omega arith))
