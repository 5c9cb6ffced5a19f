-- Natural numbers modulo p, as far as the kit does not have it.
--
--   mod_of_multiples   numbers that differ by multiples of p leave the same remainder
--   multiples_of_mod   and numbers that leave the same remainder differ by multiples of p
--   mod_mul_left       a factor may be reduced first
--   mod_mul            both factors may be reduced first
--   mod_once           a number from p to 2p is reduced by one subtraction
--   carried_words      it by two sums modulo 2^32
--   carried_low, carried_high   it for v in the lower half, and in the upper, where the sum passes p
--   pow_pow            a power of a power
--   factor_positive    a product that is above some number has no factor 0
use Rattle.std.specs.Prelude.{◌≡◌, ℕ, zero, suc, ◌+◌, ◌-◌, ◌*◌, ◌/◌, ◌%◌, ◌^◌, ◌<◌, ◌≤◌}
use Rattle.std.proofs.Math.Nat.{add-mul-mod_self_left, div-add-mod, div-eq_of_lt, div-eq_of_lt-le, mod-eq_of_lt, mod-add-mod, mod-eq-sub-mod, pow-zero}
use Rattle.std.proofs.Common.{mul_comm, pow-suc, zero-mul, suc-mul, mul-zero, sym, ap, ◌∙◌, pow-add}
use Rattle.std.proofs.Math.Decide.{dec_lt}
use native.Mathlib.Omega.{arith}
use Rattle.residue.specs.Laws.Modulo.{carried_sum}
pub mod CarriedHigh
pub mod CarriedSumLem

pub mod_of_multiples : (p a b x y : ℕ) → a + p * x ≡ b + p * y → a % p ≡ b % p
mod_of_multiples p a b x y e = sym (add-mul-mod_self_left a p x) ∙ ap (λ n. n % p) e ∙ add-mul-mod_self_left b p y

pub multiples_of_mod : (p a b : ℕ) → a % p ≡ b % p → a + p * (b / p) ≡ b + p * (a / p)
multiples_of_mod p a b e = omega (arith, div-add-mod a p, div-add-mod b p)

pub mod_mul_left : (p a b : ℕ) → (a % p * b) % p ≡ (a * b) % p
mod_mul_left p a b =
    mod_of_multiples p (a % p * b) (a * b) (a / p * b) 0 (omega (arith, ap (λ n. n * b) (div-add-mod a p)))

pub mod_mul : (p a b : ℕ) → (a % p * (b % p)) % p ≡ (a * b) % p
mod_mul p a b =
    mod_mul_left p a (b % p) ∙ ap (λ n. n % p) (mul_comm a (b % p)) ∙ mod_mul_left p b a ∙ ap (λ n. n % p) (mul_comm b a)

pub mod_once : (p x : ℕ) → p ≤ x → x < 2 * p → x % p ≡ x - p
mod_once p x low high = mod-eq-sub-mod low ∙ mod-eq_of_lt (omega arith)

pub carried_words : (p v s : ℕ) → ((v + s) % 2 ^ 32 + v / ((p + 1) / 2)) % 2 ^ 32 % (p + 1) ≡ carried_sum p v s
unfolding carried_sum
carried_words p v s = ap (λ n. n % (p + 1)) (mod-add-mod (v + s) (2 ^ 32) (v / ((p + 1) / 2)))

module _ (p : ℕ) (odd : p % 2 ≡ 1) (few : p < 2 ^ 31) (v s : ℕ) where
  pub carried_low : v < (p + 1) / 2 → v + s ≤ p → carried_sum p v s ≡ v + s
  unfolding carried_sum
  carried_low low most =
      let none : v / ((p + 1) / 2) ≡ 0 = div-eq_of_lt low in
      let same : v + s + 0 ≡ v + s = omega arith in
      let word : v + s < 2 ^ 32 = omega arith in
      let below : v + s < p + 1 = omega arith in
      rw (none, same, mod-eq_of_lt word, mod-eq_of_lt below)

pub pow_pow : (b m s : ℕ) → (b ^ m) ^ s ≡ b ^ (s * m)
pow_pow b m zero = pow-zero (b ^ m) ∙ sym (ap (λ n. b ^ n) (zero-mul m) ∙ pow-zero b)
pow_pow b m (suc s) =
    pow-suc (b ^ m) s ∙ ap (λ n. n * b ^ m) (pow_pow b m s) ∙ sym (ap (λ n. b ^ n) (suc-mul s m) ∙ pow-add b (s * m) m)

pub factor_positive : (a c n : ℕ) → n < a * c → 0 < c
factor_positive a zero n h = absurd (omega (arith, mul-zero a))
factor_positive a (suc c) n h = omega arith
