-- The loop keeps: the first k numbers of the list are those of wide, modulo 2^32.
use Rattle.std.proofs.Common.{◌%◌, ◌^◌, get_or}
use Rattle.algebra.specs.Laws.Fills.{Filled}
use Rattle.challenge.proofs.single.narrow.Given as goal

abbrev pub invariant-loop-k : goal.invariant-loop-k
invariant-loop-k l = Filled 0 l.initial.list l.k (λ i. get_or l.wide i 0 % 2 ^ 32) l.list
