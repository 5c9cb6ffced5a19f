-- Whether a test holds at every place.
--
--   all_none     there is no place below 0
--   all_next     the same with one place more
--   all_at       where the test holds everywhere, it holds at each place
--   all_cong     equal tests
--   all_split    the first m places, then the n after them
--   all_fails    where it fails at one of the first places, it does at one of all
use Rattle.std.specs.Prelude.{◌≡◌, ℕ, zero, suc, ◌+◌, ◌-◌, ◌<◌, ◌≤◌, Bool, true, false, ◌&&◌, refl}
use Rattle.std.proofs.Math.Decide.{ℕ_discrete}
use Rattle.std.proofs.Common.{add-zero, add-suc, add-one, arith, sym, ap, ◌∙◌}
use Rattle.std.proofs.Math.Bool.{and_assoc, and-true}
use Rattle.ticket.proofs.Laws.Limits.{both}
use Rattle.ticket.specs.Laws.All.{all}

pub all_none : (f : ℕ → Bool) → true ≡ all 0 f
unfolding all
all_none f = refl

pub all_next : (n : ℕ) (f : ℕ → Bool) {a b : Bool} → a ≡ all n f → b ≡ f n → (a && b) ≡ all (n + 1) f
unfolding all
all_next n f e h = rw (e, h, add-one n)

pub all_at : (n : ℕ) (f : ℕ → Bool) → all n f ≡ true → (k : ℕ) → k < n → f k ≡ true
unfolding all
all_at zero f e k l = absurd (omega arith)
all_at (suc n) f e k l =
    elim (ℕ_discrete k n) [
      | yes d ↦ ap f d ∙ (both (all n f) (f n) e).1
      | no d ↦ all_at n f (both (all n f) (f n) e).0 k (omega arith)
    ]

pub all_cong : (n : ℕ) (f g : ℕ → Bool) → ((k : ℕ) → k < n → f k ≡ g k) → all n f ≡ all n g
unfolding all
all_cong zero f g h = refl
all_cong (suc n) f g h = rw (all_cong n f g (λ k l. h k (omega arith)), h n (omega arith))

pub all_split : (m n : ℕ) (f : ℕ → Bool) → all (m + n) f ≡ (all m f && all n (λ k. f (m + k)))
unfolding all
all_split m zero f = rw (add-zero m) (sym (and-true (all m f)))
all_split m (suc n) f = rw (add-suc m n, all_split m n f) (and_assoc (all m f) (all n (λ k. f (m + k))) (f (m + n)))

pub all_fails : {m n : ℕ} (f : ℕ → Bool) → m ≤ n → all m f ≡ false → all n f ≡ false
all_fails {m} {n} f l e =
    let rest : m + (n - m) ≡ n = omega arith in
    rw (← rest, all_split m (n - m) f, e)
