use borrow.Author.Count.{below_more}
use Rattle.std.proofs.Common.{sym, arith, rules}
use Rattle.ticket.proofs.Laws.Scans.{refusal_none}
use Rattle.challenge.proofs.Laws.Lists.{line_zero, line_other, vectors_refused}
use Rattle.challenge.proofs.lists.read_vectors.Goals as goal

pub returns-then-is_zero : goal.returns-then-is_zero
returns-then-is_zero c = vectors_refused _ _ (search rules) c.loop-t.invariant (search line_zero)

pub loop-t-preserved : goal.loop-t-preserved
loop-t-preserved c = below_more _ _ c.loop-t.invariant (search line_other)

pub returns : goal.returns
returns c = sym (refusal_none 0 _ _ (λ τ l. c.loop-t.invariant τ (omega arith)))
