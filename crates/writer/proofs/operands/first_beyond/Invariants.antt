-- The loop keeps that no entry before k is beyond the bound.
use Rattle.std.proofs.Common.{ℕ, ◌<◌, ◌≤◌, get_or, pos, nat_abs}
use Rattle.writer.proofs.operands.first_beyond.Given as goal

abbrev pub invariant-loop-k : goal.invariant-loop-k
invariant-loop-k l = (i : ℕ) → i < l.k → nat_abs (get_or l.operand i (pos 0)) ≤ l.bound
