-- The first place at which a test fails, over the rule `first`.
--
--   joined         what holds at the first m places and at the n after them holds at all
--   true_or_false  a test holds or fails
--   first_none     where the test holds everywhere below n, there is no such place
--   first_is       the place is i, where the test fails there and holds before it
--   first_cong     tests that are equal below n have the same first place
--   first_within   it is at most n
--   first_before   before it the test holds
--   first_at       at it the test fails, where it is below n
--   all_or_first   where each number has P or N, all below n have P, or a first one has N
--   FirstFailure n f i, holds_or_first   either the test holds everywhere below n, or i is that place
use Rattle.ticket.specs.Rules.{first}
use Rattle.std.specs.Prelude.{◌≡◌, ℕ, zero, suc, ◌+◌, ◌-◌, ◌<◌, ◌≤◌, Bool, true, false, ◌⊎◌, refl}
use Rattle.std.proofs.Math.Decide.{ℕ_discrete, dec_le}
use Rattle.std.proofs.Common.{arith, inl, inr, ⊎_elim, sym, subst}

pub first_none : (n : ℕ) (f : ℕ → Bool) → ((k : ℕ) → k < n → f k ≡ true) → first n f ≡ n
unfolding first
first_none zero f h = refl
first_none (suc n) f h = rw (h 0 (omega arith), first_none n (λ k. f (suc k)) (λ k l. h (suc k) (omega arith)))

pub first_is : (n i : ℕ) (f : ℕ → Bool) → i < n → ((k : ℕ) → k < i → f k ≡ true) → f i ≡ false → first n f ≡ i
unfolding first
first_is zero i f l h e = omega arith
first_is (suc n) zero f l h e = rw e
first_is (suc n) (suc i) f l h e =
    rw (h 0 (omega arith), first_is n i (λ k. f (suc k)) (omega arith) (λ k l. h (suc k) (omega arith)) e)

pub joined : (P : ℕ → Type 0) {m n : ℕ} → ((k : ℕ) → k < m → P k) → ((k : ℕ) → k < n → P (m + k)) → (k : ℕ) → k < m + n → P k
joined P {m} early late k l =
    elim (dec_le m k) [
      | yes past ↦ let same : m + (k - m) ≡ k = omega arith in rw same at (late (k - m) (omega arith))
      | no before ↦ early k (omega arith)
    ]

pub true_or_false : (b : Bool) → (b ≡ true) ⊎ (b ≡ false)
true_or_false true = inl refl
true_or_false false = inr refl

pub record FirstFailure (n : ℕ) (f : ℕ → Bool) (i : ℕ) : Type 0 where
  pub within : i < n
  pub before : (k : ℕ) → k < i → f k ≡ true
  pub fails : f i ≡ false

-- where each number has P or has N, all below n have P, or there is a first one that has N
pub all_or_first : {P N : ℕ → Type 0} → ((k : ℕ) → P k ⊎ N k) → (n : ℕ)
    → ((k : ℕ) → k < n → P k) ⊎ ((i : ℕ) × (i < n) × ((k : ℕ) → k < i → P k) × N i)
all_or_first decided zero = inl (λ k l. absurd (omega arith))
all_or_first {P} decided (suc n) =
    ⊎_elim
    (λ h. ⊎_elim
    (λ p. inl (λ k l. elim (ℕ_discrete k n) [ yes d ↦ subst P (sym d) p | no d ↦ h k (omega arith) ]))
    (λ q. inr (n, omega arith, h, q))
    (decided n))
    (λ o. let within : o.0 < n = o.1 in inr (o.0, omega arith, o.2, o.3))
    (all_or_first decided n)

pub holds_or_first : (n : ℕ) (f : ℕ → Bool) → ((k : ℕ) → k < n → f k ≡ true) ⊎ ((i : ℕ) × FirstFailure n f i)
holds_or_first n f =
    ⊎_elim inl (λ o. inr (o.0, record { within = o.1; before = o.2; fails = o.3 })) (all_or_first (λ k. true_or_false (f k)) n)

module _ (n : ℕ) (f : ℕ → Bool) where
  -- the first place is n, and the test holds below it, or it is one at which the test fails first
  first_cases : ((first n f ≡ n) × ((k : ℕ) → k < n → f k ≡ true)) ⊎ FirstFailure n f (first n f)
  first_cases =
      ⊎_elim
      (λ h. inl (first_none n f h, h))
      (λ o. inr (rw (first_is n o.0 f o.1.within o.1.before o.1.fails) o.1))
      (holds_or_first n f)

  pub first_within : first n f ≤ n
  first_within = ⊎_elim (λ h. omega (arith, h.0)) (λ o. omega (arith, o.within)) first_cases

  pub first_before : (k : ℕ) → k < first n f → f k ≡ true
  first_before k l = ⊎_elim (λ h. h.1 k (omega (arith, h.0))) (λ o. o.before k l) first_cases

  pub first_at : first n f < n → f (first n f) ≡ false
  first_at l = ⊎_elim (λ h. absurd (omega (arith, h.0))) (λ o. o.fails) first_cases

pub first_cong : (n : ℕ) (f g : ℕ → Bool) → ((k : ℕ) → k < n → f k ≡ g k) → first n f ≡ first n g
unfolding first
first_cong zero f g h = refl
first_cong (suc n) f g h =
    rw (h 0 (omega arith), first_cong n (λ k. f (suc k)) (λ k. g (suc k)) (λ k l. h (suc k) (omega arith)))
