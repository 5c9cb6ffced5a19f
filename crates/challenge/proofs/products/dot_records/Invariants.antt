-- The loop keeps: the two words hold the sum of the first r products.
use Rattle.residue.proofs.Laws.Products.{HoldsSum}
use Rattle.challenge.specs.Laws.Products.{terms}
use Rattle.challenge.proofs.products.dot_records.Given as goal

abbrev pub invariant-loop-r : goal.invariant-loop-r
invariant-loop-r l = HoldsSum l.r (terms l.records l.start l.vector) l.sum.low l.sum.high
