-- The loop keeps that the first j sums are what is claimed for them.
use Rattle.std.proofs.Common.{◌≡◌, ℕ, ◌<◌, true}
use Rattle.full.specs.Laws.Sums.{claimed_for}
use Rattle.full.proofs.claims.first_untrue.Given as goal

abbrev pub invariant-loop-j : goal.invariant-loop-j
invariant-loop-j l = (i : ℕ) → i < l.j → claimed_for l.sums l.claims l.lift i ≡ true
