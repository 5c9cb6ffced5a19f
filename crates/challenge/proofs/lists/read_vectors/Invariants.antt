-- The loop keeps: the vectors before t pass.
use Rattle.std.proofs.Common.{◌≡◌, ℕ, ◌<◌}
use Rattle.challenge.specs.Rules.{vector_number}
use Rattle.challenge.proofs.lists.read_vectors.Given as goal

abbrev pub invariant-loop-t : goal.invariant-loop-t
invariant-loop-t l = (τ : ℕ) → τ < l.t → vector_number l.fn.setting l.list τ ≡ 0
