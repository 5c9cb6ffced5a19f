-- The power of two, as callers know it.
--
--   power_within   2^k for an exponent up to 30
--   power_beyond   0 for an exponent above 30
use Rattle.std.specs.Prelude.{◌≡◌, ℕ, ◌^◌, ◌<◌, ◌≤◌}
use Rattle.std.proofs.Common.{le-leb}
use Rattle.std.proofs.lemmas.Bool.{lt-leb}
use Rattle.residue.specs.Rules.{power_of_two}

pub power_within : (k : ℕ) → k ≤ 30 → power_of_two k ≡ 2 ^ k
unfolding power_of_two
power_within k h = rw (le-leb k 30 h)

pub power_beyond : (k : ℕ) → 30 < k → power_of_two k ≡ 0
unfolding power_of_two
power_beyond k h = rw (lt-leb k 30 h)
