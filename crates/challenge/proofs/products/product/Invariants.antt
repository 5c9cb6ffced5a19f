-- The loop keeps: the numbers of u before this one are rows of the matrix times the vector.
use Rattle.algebra.specs.Laws.Fills.{Filled}
use Rattle.challenge.specs.Laws.Products.{rows_times}
use Rattle.challenge.proofs.products.product.Given as goal

abbrev pub invariant-loop-k : goal.invariant-loop-k
invariant-loop-k l = Filled 0 l.initial.u l.k (rows_times l.matrix l.vector) l.u
