-- Integers by their two parts: z is its positive part less its negative part, both natural numbers. `omega` does not
-- read ℤ; of the parts it does.
--
--   positive z, negative z   the parts: n and 0 of the number n, 0 and n of -n
--   parts_within             both are at most c where the integer is at most c in size
--   equal_of_parts           integers whose parts differ alike are equal
--   parts_sum, parts_product, parts_negation, parts_difference   the parts of a sum, a product, a negation, a difference
--   difference_of_naturals   the parts of the kit's difference of two natural numbers
use Rattle.std.specs.Prelude.{◌≡◌, ℕ, zero, suc, ◌+◌, ◌-◌, ◌*◌, ◌<◌, ◌≤◌, Bool, true, false, cond, not, T, ℤ, pos, negsuc, ◌+ℤ◌, ◌-ℤ◌, ◌*ℤ◌, neg_ℤ, nat_lt, unsigned_abs, refl}
use Rattle.std.proofs.Common.{arith, ap, ltb→lt, nltb→le}
use Rattle.std.proofs.Math.IntN.{sub_ℕ}

abbrev pub positive : ℤ → ℕ
positive (pos n) = n
positive (negsuc n) = 0

abbrev pub negative : ℤ → ℕ
negative (pos n) = 0
negative (negsuc n) = suc n

pub parts_within : (z : ℤ) (c : ℕ) → unsigned_abs z ≤ c → (positive z ≤ c) × (negative z ≤ c)
parts_within (pos n) c l = (l, omega arith)
parts_within (negsuc n) c l = (omega arith, l)

pub equal_of_parts : (x y : ℤ) → positive x + negative y ≡ positive y + negative x → x ≡ y
equal_of_parts (pos a) (pos b) e = ap pos (omega arith)
equal_of_parts (pos a) (negsuc b) e = absurd (omega arith)
equal_of_parts (negsuc a) (pos b) e = absurd (omega arith)
equal_of_parts (negsuc a) (negsuc b) e = ap negsuc (omega arith)

pub difference_of_naturals : (a b : ℕ) → positive (sub_ℕ a b) + b ≡ a + negative (sub_ℕ a b)
difference_of_naturals a b = by (nat_lt a b) (λ t. ltb→lt a b t) (λ t. nltb→le a b t)
  where
    by : (c : Bool) → (T c → a < b) → (T (not c) → b ≤ a)
        → positive (cond c (negsuc (b - suc a)) (pos (a - b))) + b ≡ a + negative (cond c (negsuc (b - suc a)) (pos (a - b)))
    by true f g = let h : a < b = f tt in omega arith
    by false f g = let h : b ≤ a = g tt in omega arith

pub parts_sum : (x y : ℤ) → positive (x +ℤ y) + (negative x + negative y) ≡ positive x + positive y + negative (x +ℤ y)
parts_sum (pos a) (pos b) = omega arith
parts_sum (pos a) (negsuc b) = omega (arith, difference_of_naturals a (suc b))
parts_sum (negsuc a) (pos b) = omega (arith, difference_of_naturals b (suc a))
parts_sum (negsuc a) (negsuc b) = omega arith

pub parts_negation : (x : ℤ) → (positive (neg_ℤ x) ≡ negative x) × (negative (neg_ℤ x) ≡ positive x)
parts_negation (pos zero) = (refl, refl)
parts_negation (pos (suc n)) = (refl, refl)
parts_negation (negsuc n) = (refl, refl)

pub parts_difference : (x y : ℤ) → positive (x -ℤ y) + (negative x + positive y) ≡ positive x + negative y + negative (x -ℤ y)
parts_difference x y = omega (arith, parts_sum x (neg_ℤ y), parts_negation y)

pub parts_product : (x y : ℤ)
    → positive (x *ℤ y) + (positive x * negative y + negative x * positive y)
    ≡ positive x * positive y + negative x * negative y + negative (x *ℤ y)
parts_product (pos a) (pos b) = omega arith
parts_product (pos a) (negsuc b) = omega (arith, parts_negation (pos (a * suc b)))
parts_product (negsuc a) (pos b) = omega (arith, parts_negation (pos (suc a * b)))
parts_product (negsuc a) (negsuc b) = omega arith
