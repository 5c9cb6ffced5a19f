-- The loop keeps: the two words hold the sum of the first c products.
use Rattle.std.proofs.Common.{◌*◌, get_or}
use Rattle.residue.proofs.Laws.Products.{HoldsSum}
use Rattle.challenge.proofs.products.wide_dot.Given as goal

abbrev pub invariant-loop-c : goal.invariant-loop-c
invariant-loop-c l = HoldsSum l.c (λ i. get_or l.list i 0 * get_or l.vector i 0) l.sum.low l.sum.high
