-- What rests on Modulus.
--
--   modulus_prime      the modulus is prime
--   modulus_positive   it is above 0
--   modulus_odd        it is odd
--   partner_moduli     the same argument serves the two other moduli that partners compute with
use Rattle.std.specs.Prelude.{◌≡◌, ◌%◌, ◌<◌}
use Rattle.std.proofs.Common.{arith}
use Rattle.residue.specs.Rules.{modulus, Prime}
use Rattle.residue.proofs.Laws.Primes.{undivided, prime_positive, prime_odd}
use Rattle.residue.proofs.Laws.Modulus.{modulus_above, prime_by_trial}

pub modulus_prime : Prime modulus
unfolding modulus undivided
modulus_prime = prime_by_trial modulus tt tt tt

pub modulus_positive : 0 < modulus
modulus_positive = prime_positive modulus_prime

pub modulus_odd : modulus % 2 ≡ 1
modulus_odd = prime_odd modulus_prime (omega (arith, modulus_above))

pub partner_moduli : Prime 2_013_265_921 × Prime 2_130_706_433
unfolding undivided
partner_moduli = (prime_by_trial 2_013_265_921 tt tt tt, prime_by_trial 2_130_706_433 tt tt tt)
