-- The first elements of a list.
--
--   leads            where it is long enough
--   by_start         what is the same for all lists longer than m is the same for a list and its first n elements, where n is above m
use Rattle.std.specs.Prelude.{ℕ, ◌≤◌, ◌<◌, ◌≡◌, List, length, take}
use Rattle.std.proofs.Math.Decide.{dec_le}
use Rattle.std.proofs.Common.{arith, sym, ap, ◌∙◌, take_all, length-take-le}
use Rattle.files.specs.Laws.Prefixes.{Leads}

pub leads : (n : ℕ) (l : List ℕ) → n ≤ length l → Leads n l
leads n l h = (h, sym (length-take-le n l h))

pub by_start : {A : Type 0} {r : A} (f : List ℕ → A) {most n : ℕ} (l : List ℕ) → most < n
    → ((x : List ℕ) → most < length x → f x ≡ r) → f (take n l) ≡ f l
by_start f {n = n} l less same =
    elim (dec_le (length l) n) [
      | yes h ↦ ap f (take_all n l h)
      | no h ↦ same (take n l) (omega (arith, length-take-le n l (omega arith))) ∙ sym (same l (omega arith))
    ]
