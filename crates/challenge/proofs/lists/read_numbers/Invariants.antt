-- The loop keeps: the numbers before this one are least residues.
use Rattle.std.proofs.Common.{ℕ, ◌<◌, get_or}
use Rattle.residue.specs.Rules.{modulus}
use Rattle.challenge.proofs.lists.read_numbers.Given as goal

abbrev pub invariant-loop-k : goal.invariant-loop-k
invariant-loop-k l = (i : ℕ) → i < l.k → get_or l.list i 0 < modulus
