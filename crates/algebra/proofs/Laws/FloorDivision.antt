-- Floor division over the integers, by the rule `floor_division`.
--
--   floor_left      the divisor times the quotient leaves a remainder from 0 to the divisor less 1
-- the parts of d q + r
use Rattle.std.specs.Prelude.{ℕ, suc, ◌+◌, ◌-◌, ◌*◌, ◌/◌, ◌%◌, ◌≤◌, ◌<◌, ◌≡◌, ℤ, pos, negsuc, ◌+ℤ◌, ◌*ℤ◌, ◌≤ℤ◌, ◌<ℤ◌}
use Rattle.std.proofs.Math.Nat.{div-add-mod}
use Rattle.std.proofs.Common.{mod-lt, arith, sym, ap, ◌∙◌, le→leb, lt→ltb}
use Rattle.std.proofs.Math.Arith.{digits_div}
use Rattle.std.specs.Int.Signed.{le_z_yes, lt_z_yes}
use Rattle.residue.proofs.Laws.Integers.{positive, negative, equal_of_parts, parts_sum, parts_product}
use Rattle.algebra.specs.Rules.{floor_division}
pub mod FloorBetween

parts_claim : (q : ℤ) (d r : ℕ)
    → positive (pos d *ℤ q +ℤ pos r) + d * negative q ≡ d * positive q + r + negative (pos d *ℤ q +ℤ pos r)
parts_claim q d r = omega (arith, parts_sum (pos d *ℤ q) (pos r), parts_product (pos d) q)

pub floor_left : (z : ℤ) (d : ℕ) → 0 < d → (r : ℕ) × (r < d) × (pos d *ℤ floor_division z d +ℤ pos r ≡ z)
unfolding floor_division
floor_left (pos n) d above = (n % d, mod-lt n above, ap pos (div-add-mod n d))
floor_left (negsuc n) d above =
    let l : n % d < d = mod-lt n above in
    let q = floor_division (negsuc n) d in
    let r = d - suc (n % d) in
    (r, omega arith, equal_of_parts (pos d *ℤ q +ℤ pos r) (negsuc n) (omega (arith, parts_claim q d r, div-add-mod n d)))

-- quotients by one divisor, of one integer, with remainders below the divisor, are equal
same_quotient : (x y : ℤ) (d r s : ℕ) → r < d → s < d → pos d *ℤ x +ℤ pos r ≡ pos d *ℤ y +ℤ pos s → x ≡ y
same_quotient x y d r s l m e =
    let a = positive x + negative y in
    let b = positive y + negative x in
    let same : a * d + r ≡ b * d + s =
    omega (arith, parts_claim x d r, parts_claim y d s, ap positive e, ap negative e) in
    equal_of_parts x y (sym (digits_div a l) ∙ ap (λ n. n / d) same ∙ digits_div b m)

order_of_parts : (x y : ℤ)
    → (positive x + negative y ≤ positive y + negative x → x ≤ℤ y) × (positive x + negative y < positive y + negative x → x <ℤ y)
order_of_parts (pos a) (pos b) = (λ l. le_z_yes (le→leb a b (omega arith)), λ l. lt_z_yes (lt→ltb a b (omega arith)))
order_of_parts (pos a) (negsuc b) = (λ l. absurd (omega arith), λ l. absurd (omega arith))
order_of_parts (negsuc a) (pos b) = (λ l. le_z_yes tt, λ l. lt_z_yes tt)
order_of_parts (negsuc a) (negsuc b) = (λ l. le_z_yes (le→leb b a (omega arith)), λ l. lt_z_yes (lt→ltb b a (omega arith)))
