use Rattle.std.proofs.Common.{inl, inr, arith}
use Rattle.std.proofs.lemmas.List.{set-get_or}
use Rattle.exact.proofs.Laws.Matrices.{row_sums_ended}
use Rattle.exact.proofs.matrices.row_sums.Goals as goal

pub returns-then-columns-start : goal.returns-then-columns-start
returns-then-columns-start c = rw set-get_or
    (row_sums_ended c.loop-sum.invariant.2 (omega (arith, c.loop-sum.invariant.0, c.loop-sum.invariant.1)) (inr (omega arith)))

pub returns : goal.returns
returns c = row_sums_ended c.loop-sum.invariant.2 (omega (arith, c.loop-sum.invariant.0, c.loop-sum.invariant.1)) (inl (omega arith))
