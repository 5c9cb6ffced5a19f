-- Primes: from a computed trial division to the definition, by one argument over the number (R1), and Euclid's lemma (R3).
--
--   undivided p k       the computed test: none of 2, 3, .., k + 1 divides p
--   prime_of_test       a number above 1 that passes the test, and is below (k + 2)², is prime
--   prime_positive      a prime is above 0
--   prime_odd           a prime above 2 is odd
--   product_zero        a product that is 0 modulo a prime has a factor that is 0 modulo it
use Rattle.std.specs.Prelude.{◌≡◌, ℕ, zero, suc, ◌+◌, ◌*◌, ◌/◌, ◌%◌, ◌<◌, ◌≤◌, Bool, true, false, T, ◌⊎◌, ◌==◌, ◌≢◌, refl}
use Rattle.std.proofs.Common.{le_refl, one-mul, mod-lt, mul_comm, mul-le-mul, pos_of_ne-zero, eq-zero-or-pos, arith, sym, ap, ◌∙◌, subst, inl, inr, ⊎_elim, eq-eqb}
use Rattle.std.proofs.Math.Nat.{zero-mod, mul-mod_right, div-add-mod}
use Rattle.std.proofs.Math.Decide.{ℕ_discrete, dec_lt}
use Rattle.residue.specs.Rules.{Prime}
use Rattle.residue.proofs.Laws.Modulo.{mod_of_multiples, mod_mul_left}

unfoldable pub undivided : ℕ → ℕ → Bool
undivided p zero = true
undivided p (suc k) = elim (p % (k + 2) == 0) [ true ↦ false | false ↦ undivided p k ]

-- a step of the test passed: this number does not divide, and the rest of the test passed
passed : (b r : Bool) → T (elim b as (λ _. Bool) [ true ↦ false | false ↦ r ]) → (b ≢ true) × T r
passed true r t = absurd t
passed false r t = (λ e. subst T (sym e) tt, t)

-- what the test says of each number that it tries
tried : (p k d : ℕ) → T (undivided p k) → 1 < d → d < k + 2 → p % d ≢ 0
unfolding undivided
tried p zero d t h l e = omega arith
tried p (suc k) d t h l e =
    let step = passed (p % (k + 2) == 0) (undivided p k) t in
    elim (ℕ_discrete d (k + 2)) [
      | yes q ↦ step.0 (eq-eqb (p % (k + 2)) 0 (rw q at e))
      | no f ↦ tried p k d step.1 h (omega arith) e
    ]

pub prime_of_test : (p k : ℕ) → 1 < p → p < (k + 2) * (k + 2) → T (undivided p k) → Prime p
prime_of_test p k h l t = record { above_one = h; divisors = divisors }
  where
    small : (d e : ℕ) → d * e ≡ p → 1 < d → d < k + 2 → ⊥
    small d e q m n = tried p k d t m n (rw (← q) (mul-mod_right d e))

    proper : (d e : ℕ) → d * e ≡ p → 1 < d → 1 < e → ⊥
    proper d e q m n =
        elim (dec_lt d (k + 2)) [
          | yes s ↦ small d e q m s
          | no f ↦ elim (dec_lt e (k + 2)) [
            | yes s ↦ small e d (mul_comm e d ∙ q) n s
            | no g ↦
                let a : k + 2 ≤ d = omega arith in
                let b : k + 2 ≤ e = omega arith in
                omega (arith, mul-le-mul a b)
          ]
        ]

    divisors : (d e : ℕ) → d * e ≡ p → (d ≡ 1) ⊎ (d ≡ p)
    divisors zero e q = absurd (omega arith)
    divisors (suc zero) e q = inl refl
    divisors (suc (suc d)) zero q = absurd (omega arith)
    divisors (suc (suc d)) (suc zero) q = inr (omega arith)
    divisors (suc (suc d)) (suc (suc e)) q = absurd (proper (suc (suc d)) (suc (suc e)) q (omega arith) (omega arith))

pub prime_positive : {p : ℕ} → Prime p → 0 < p
prime_positive prime = omega (arith, prime.above_one)

pub prime_odd : {p : ℕ} → Prime p → 2 < p → p % 2 ≡ 1
prime_odd {p} prime above =
    elim (ℕ_discrete (p % 2) 0) [
      | yes even ↦ absurd (⊎_elim (λ e. omega arith) (λ e. omega arith) (prime.divisors 2 (p / 2) (omega arith)))
      | no odd ↦ omega arith
    ]

-- a product that is 0 modulo p stays so with p % a for its factor a
remainder_zero : (p a b : ℕ) → (a * b) % p ≡ 0 → (p % a * b) % p ≡ 0
remainder_zero p a b e =
    let multiple : p * (a * b / p) ≡ a * b = omega (arith, div-add-mod (a * b) p) in
    mod_of_multiples p (p % a * b) 0 (p / a * (a * b / p)) b
    (omega (arith, ap (λ n. n * b) (div-add-mod p a), ap (λ n. n * (p / a)) multiple))
    ∙ zero-mod p

-- Euclid's lemma for a factor a from 1 to p - 1, by descent: p % a takes the place of a. The first number bounds a.
descent : (bound p a b : ℕ) → Prime p → a ≤ bound → 0 < a → a < p → (a * b) % p ≡ 0 → b % p ≡ 0
descent zero p a b prime l h k e = absurd (omega arith)
descent (suc bound) p a b prime l h k e =
    elim (ℕ_discrete a 1) [
      | yes one ↦ sym (ap (λ n. n * b % p) one ∙ ap (λ n. n % p) (one-mul b)) ∙ e
      | no more ↦
          let smaller : p % a < a = mod-lt p h in
          let proper : (p % a ≢ 0) =
          λ z. ⊎_elim more (λ q. omega arith) (prime.divisors a (p / a) (omega (arith, div-add-mod p a))) in
          descent bound p (p % a) b prime (omega arith) (pos_of_ne-zero proper) (omega arith) (remainder_zero p a b e)
    ]

pub product_zero : (p a b : ℕ) → Prime p → (a * b) % p ≡ 0 → (a % p ≡ 0) ⊎ (b % p ≡ 0)
product_zero p a b prime e =
    ⊎_elim inl
    (λ h. inr (descent (a % p) p (a % p) b prime (le_refl (a % p)) h (mod-lt a (prime_positive prime)) (mod_mul_left p a b ∙ e)))
    (eq-zero-or-pos (a % p))
