use native.Mathlib.Omega.{arith}
use mathlib.Core.Path.{sym}
use lib.Seq.{length-take-le}
use Rattle.challenge.proofs.Laws.Single.{line_numbers}
use Rattle.challenge.proofs.Laws.Single.RowMadeLem.{row_made_lem}
use Rattle.challenge.proofs.single.row_in.Goals as goal

pub returns : goal.returns
returns c = let pre = c.requires in
    row_made_lem _ _ _ _ _ _ _ (line_numbers pre.0 pre.1 c.line.ensures c.widen.ensures) (omega (arith, pre.1.inner))
    (sym (length-take-le _ _ (omega (arith, pre.1.inner, pre.0.vector.list.passed.counts.sizes)))) c.product_at-made.ensures c.widen-2.ensures
    c.line_balanced-balanced.ensures
