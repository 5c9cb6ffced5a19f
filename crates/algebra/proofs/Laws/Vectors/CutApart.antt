-- What rests on Vectors.
--
--   cut_apart         lists of s * n numbers that are cut into the same vectors are equal
use Rattle.std.specs.Prelude.{ℕ, ◌*◌, ◌≡◌, length}
use Rattle.std.proofs.Common.{sym, ap, ◌∙◌}
use mathlib.Core.List.{List, flatten}
use Rattle.algebra.proofs.Laws.Vectors.{cut, flatten_cut}

pub cut_apart : (n s : ℕ) (x y : List ℕ) → length x ≡ s * n → length y ≡ s * n → cut n s x ≡ cut n s y → x ≡ y
cut_apart n s x y ex ey e = sym (flatten_cut n s x ex) ∙ ap flatten e ∙ flatten_cut n s y ey
