-- Sums of the first n values of a function, over the rule `sum`.
--
--   sum_none       no values come to 0
--   sum_more       one more value is added at the end
--   sum_cong       equal values have equal sums
--   sum_add        the sum of f i + g i is the sum of f plus the sum of g
--   sum_scale      a factor common to all values comes out in front
--   sum_below      values up to b come to n * b at most
--   sum_zero       values that are all 0 come to 0
--   sum_swap       rows first or columns first, a table has one sum
--   sum_mod_cong   values equal modulo p have sums equal modulo p
--   sum_mod        modulo p, each value may be reduced first
--   sum_but_one    if f and g agree but at i, their sums differ as f i and g i do
use Rattle.residue.specs.Rules.{sum}
use Rattle.std.specs.Prelude.{◌≡◌, ℕ, zero, suc, ◌+◌, ◌*◌, ◌%◌, ◌<◌, ◌≤◌, ◌≢◌, refl}
use Rattle.std.proofs.Math.Nat.{add-mod, mod-mod}
use Rattle.std.proofs.Common.{add-one, arith, sym, ap}
use Rattle.std.proofs.Math.Decide.{ℕ_discrete}

pub sum_none : (f : ℕ → ℕ) → sum 0 f ≡ 0
unfolding sum
sum_none f = refl

pub sum_more : (n : ℕ) (f : ℕ → ℕ) → sum (n + 1) f ≡ sum n f + f n
unfolding sum
sum_more n f = rw add-one

pub sum_cong : (n : ℕ) (f g : ℕ → ℕ) → ((i : ℕ) → i < n → f i ≡ g i) → sum n f ≡ sum n g
unfolding sum
sum_cong zero f g h = refl
sum_cong (suc n) f g h = cc (sum_cong n f g (λ i l. h i (omega arith)), h n (omega arith))

pub sum_add : (n : ℕ) (f g : ℕ → ℕ) → sum n (λ i. f i + g i) ≡ sum n f + sum n g
unfolding sum
sum_add zero f g = refl
sum_add (suc n) f g = omega (arith, sum_add n f g)

pub sum_scale : (n c : ℕ) (f : ℕ → ℕ) → sum n (λ i. c * f i) ≡ c * sum n f
unfolding sum
sum_scale zero c f = omega arith
sum_scale (suc n) c f = omega (arith, sum_scale n c f)

pub sum_below : (n b : ℕ) (f : ℕ → ℕ) → ((i : ℕ) → i < n → f i ≤ b) → sum n f ≤ n * b
unfolding sum
sum_below zero b f h = omega arith
sum_below (suc n) b f h = omega (arith, sum_below n b f (λ i l. h i (omega arith)), h n (omega arith))

pub sum_zero : (n : ℕ) (f : ℕ → ℕ) → ((i : ℕ) → i < n → f i ≡ 0) → sum n f ≡ 0
sum_zero n f h = omega (arith, sum_below n 0 f (λ i l. omega (arith, h i l)))

pub sum_swap : (m n : ℕ) (f : ℕ → ℕ → ℕ) → sum m (λ i. sum n (λ j. f i j)) ≡ sum n (λ j. sum m (λ i. f i j))
unfolding sum
sum_swap zero n f = sym (sum_zero n (λ j. 0) (λ i l. refl))
sum_swap (suc m) n f = rw (sum_add n (λ j. sum m (λ i. f i j)) (f m), sum_swap m n f)

pub sum_mod_cong : (n p : ℕ) (f g : ℕ → ℕ) → ((i : ℕ) → i < n → f i % p ≡ g i % p) → sum n f % p ≡ sum n g % p
unfolding sum
sum_mod_cong zero p f g h = refl
sum_mod_cong (suc n) p f g h = rw (add-mod (sum n f), add-mod (sum n g), sum_mod_cong n p f g (λ i l. h i (omega arith)), h n (omega arith))

pub sum_mod : (n p : ℕ) (f : ℕ → ℕ) → sum n (λ i. f i % p) % p ≡ sum n f % p
sum_mod n p f = sum_mod_cong n p (λ i. f i % p) f (λ i l. mod-mod (f i) p)

pub sum_but_one : (n i : ℕ) (f g : ℕ → ℕ) → i < n → ((k : ℕ) → k < n → (k ≢ i) → f k ≡ g k) → sum n f + g i ≡ sum n g + f i
unfolding sum
sum_but_one zero i f g l h = omega arith
sum_but_one (suc n) i f g l h =
    elim (ℕ_discrete n i) [
      | yes e ↦ omega (arith, sum_cong n f g (λ k m. h k (omega arith) (omega arith)), ap f e, ap g e)
      | no d ↦ omega (arith, sum_but_one n i f g (omega arith) (λ k m. h k (omega arith)), h n (omega arith) d)
    ]
