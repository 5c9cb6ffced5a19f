-- The loop keeps: the first j numbers of the list are those of the vector, and of 32 bits.
use Rattle.std.proofs.Common.{ℕ, ◌^◌, ◌<◌, get_or}
use Rattle.algebra.specs.Laws.Fills.{Filled}
use Rattle.challenge.proofs.products.widen.Given as goal

abbrev pub invariant-loop-j : goal.invariant-loop-j
invariant-loop-j l = Filled 0 l.initial.list l.j (λ i. get_or l.vector i 0) l.list × ((i : ℕ) → i < l.j → get_or l.vector i 0 < 2 ^ 32)
