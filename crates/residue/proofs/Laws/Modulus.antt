-- The modulus of the delivery is prime (R1), and what else the crates above may know of it: that it has 31 bits.
--
--   prime_by_trial     a number up to 2^31 that passes the trial division up to its square root is prime
--   modulus_above      it is above 2^30
--   modulus_below      it is below 2^31
--   modulus_is         it is 2^31 - 1: for the proofs of this crate alone
-- the trial division tries 2 to last + 1
use Rattle.std.specs.Prelude.{◌≡◌, ℕ, ◌+◌, ◌-◌, ◌*◌, ◌%◌, ◌^◌, ◌<◌, T, nat_lt, refl}
use Rattle.std.proofs.Common.{arith, lit<}
use Rattle.residue.specs.Rules.{modulus, Prime}
use Rattle.residue.proofs.Laws.Primes.{undivided, prime_of_test, prime_positive, prime_odd}
pub mod PartnerModuli

abbrev last : ℕ
last = 46_339

pub prime_by_trial : (p : ℕ) → T (nat_lt 1 p) → T (nat_lt p ((last + 2) * (last + 2))) → T (undivided p last) → Prime p
prime_by_trial p above square trial = prime_of_test p last (lit< above) (lit< square) trial

pub modulus_above : 2 ^ 30 < modulus
unfolding modulus
modulus_above = lit< tt

pub modulus_below : modulus < 2 ^ 31
unfolding modulus
modulus_below = lit< tt

pub modulus_is : modulus ≡ 2 ^ 31 - 1
unfolding modulus
modulus_is = refl
