-- The loop keeps: the first k numbers of the list are the first k words.
use Rattle.std.proofs.Common.{◌≡◌, ℕ, ◌*◌, ◌<◌, get_or}
use Rattle.files.specs.Rules.{number_bytes, word_at}
use Rattle.files.proofs.bytes.list_of.Given as goal

abbrev pub invariant-loop-k : goal.invariant-loop-k
invariant-loop-k l = (i : ℕ) → i < l.k → get_or l.list i 0 ≡ word_at l.bytes (number_bytes * i)
