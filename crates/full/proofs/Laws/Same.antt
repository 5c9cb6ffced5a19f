-- When two integers are the same, by the rule `same`.
--
--   same_equal      equal integers are
--   equal_of_same   only those
--   same_other      others are not
use Rattle.std.specs.Prelude.{◌≡◌, true, false, ℤ, pos, negsuc, ◌≢◌, refl}
use Rattle.std.proofs.Common.{sym, ap, ◌∙◌, eq-eqb, ne_eqb, eqb-true}
use Rattle.std.proofs.lemmas.Bool.{false≢true}
use Rattle.full.specs.Rules.{same}

same_self : (x : ℤ) → same x x ≡ true
unfolding same
same_self (pos a) = eq-eqb a a refl
same_self (negsuc a) = eq-eqb a a refl

pub same_equal : (x y : ℤ) → x ≡ y → same x y ≡ true
same_equal x y e = sym (ap (same x) e) ∙ same_self x

pub equal_of_same : (x y : ℤ) → same x y ≡ true → x ≡ y
unfolding same
equal_of_same (pos a) (pos b) e = ap pos (eqb-true a b e)
equal_of_same (negsuc a) (negsuc b) e = ap negsuc (eqb-true a b e)
equal_of_same (pos a) (negsuc b) e = absurd (false≢true e)
equal_of_same (negsuc a) (pos b) e = absurd (false≢true e)

pub same_other : (x y : ℤ) → (x ≢ y) → same x y ≡ false
unfolding same
same_other (pos a) (pos b) d = ne_eqb a b (λ e. d (ap pos e))
same_other (negsuc a) (negsuc b) d = ne_eqb a b (λ e. d (ap negsuc e))
same_other (pos a) (negsuc b) d = refl
same_other (negsuc a) (pos b) d = refl
