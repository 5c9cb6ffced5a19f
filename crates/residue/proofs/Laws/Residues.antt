-- Least residues of integers and signed entries of residues (R2), for every modulus p above 0.
--
--   Divides p z            p divides the integer z
--   residue_shift          integers that differ by a multiple of p have the same least residue, by their parts
--   residue_lifted         a difference of natural numbers, lifted by p so that it is a natural number
--   residue_below          it is below p
--   residue_of_natural     of a natural number it is the remainder
--   residue_of_residue     a number below p is its own least residue
--   residue_sum, residue_difference, residue_product   it respects these operations
--   residue_zero           it is 0 exactly when p divides the integer
--   less_modulus           a number below p less p, as the kit writes a negative number
--   entry_low, entry_high  the signed entry up to (p - 1)/2, and above
--   residue_of_entry       the signed entry's least residue is the residue
--   entry_of_residue       the least residue of a number from -(p - 1)/2 to (p - 1)/2 stands for that number
--   entry_small            a signed entry is from -(p - 1)/2 to (p - 1)/2, where p is odd
use Rattle.std.specs.Prelude.{◌≡◌, ℕ, suc, ◌+◌, ◌-◌, ◌*◌, ◌/◌, ◌%◌, ◌<◌, ◌≤◌, ◌↔◌, ℤ, pos, negsuc, ◌+ℤ◌, ◌-ℤ◌, ◌*ℤ◌, unsigned_abs}
use Rattle.std.proofs.Common.{suc-mul, eq-zero-or-pos, lt_of_not-le, arith, sym, ◌∙◌, ⊎_elim, le-leb}
use Rattle.std.proofs.Math.Nat.{mod-lt, mod-eq_of_lt, mod_self, div-add-mod, zero-mod}
use Rattle.std.proofs.Math.Decide.{dec_le}
use Rattle.std.proofs.Math.Path.{refl, ap}
use Rattle.std.proofs.lemmas.Bool.{lt-leb}
use Rattle.residue.specs.Rules.{least_residue, signed_entry}
use Rattle.residue.proofs.Laws.Modulo.{mod_of_multiples}
use Rattle.residue.proofs.Laws.Integers.{positive, negative, equal_of_parts, parts_sum, parts_difference, parts_product}
pub mod ResidueDifference
pub mod ResidueClose

abbrev pub Divides : ℕ → ℤ → Type 0
Divides p z = (k : ℤ) × (z ≡ pos p *ℤ k)

-- p is one more than p - 1
one_more : (p : ℕ) → 0 < p → suc (p - 1) ≡ p
one_more p h = omega arith

less_one : (p x : ℕ) → 0 < p → (p - 1) * x + x ≡ p * x
less_one p x h = rw (one_more p h) at (sym (suc-mul (p - 1) x))

-- the product x - y of u - v and w - z, where these are r + c - d and s + h - j
product_differs : (x y u v w z r s c d h j : ℕ) → x + (u * z + v * w) ≡ u * w + v * z + y → u + d ≡ r + v + c → w + j ≡ s + z + h
    → x + (r * j + c * j + d * s + d * h) ≡ r * s + y + (r * h + c * s + c * h + d * j)
product_differs x y u v w z r s c d h j e f g =
    omega (arith, ap (λ n. n * w) f, ap (λ n. n * z) f, ap (λ n. n * r) g, ap (λ n. n * c) g, ap (λ n. n * d) g)

-- a number below p that is 0 modulo p when taken from p is 0
complement_zero : (p r : ℕ) → r < p → (p - r) % p ≡ 0 → r ≡ 0
complement_zero p r h e =
    ⊎_elim (λ z. z) (λ (k : 0 < r). let s : (p - r) % p ≡ p - r = mod-eq_of_lt (omega arith) in omega arith) (eq-zero-or-pos r)

module _ (p : ℕ) (above : 0 < p) where
  by_parts : (z : ℤ) → least_residue p z ≡ (positive z + (p - 1) * negative z) % p
  unfolding least_residue
  by_parts (pos n) = ap (λ m. m % p) (omega arith)
  by_parts (negsuc n) =
      mod_of_multiples p (p - suc n % p) (0 + (p - 1) * suc n) n (suc n / p)
      (omega (arith, less_one p (suc n) above, div-add-mod (suc n) p, mod-lt (suc n) above))

  pub residue_shift : (z w : ℤ) (a b : ℕ) → positive z + negative w + p * a ≡ positive w + negative z + p * b
      → least_residue p z ≡ least_residue p w
  residue_shift z w a b e =
      by_parts z
      ∙ mod_of_multiples p (positive z + (p - 1) * negative z) (positive w + (p - 1) * negative w) (a + negative w) (b + negative z)
      (omega (arith, less_one p (negative z) above, less_one p (negative w) above))
      ∙ sym (by_parts w)

  pub residue_lifted : (x y : ℕ) → least_residue p (pos (x + p - y % p)) ≡ least_residue p (pos x -ℤ pos y)
  residue_lifted x y =
      sym (residue_shift (pos x -ℤ pos y) (pos (x + p - y % p)) (y / p + 1) 0
      (omega (arith, parts_difference (pos x) (pos y), div-add-mod y p, mod-lt y above)))

  pub residue_below : (z : ℤ) → least_residue p z < p
  residue_below z = rw (by_parts z) (mod-lt (positive z + (p - 1) * negative z) above)

  pub residue_of_natural : (n : ℕ) → least_residue p (pos n) ≡ n % p
  unfolding least_residue
  residue_of_natural n = refl

  pub residue_of_residue : (r : ℕ) → r < p → least_residue p (pos r) ≡ r
  residue_of_residue r h = residue_of_natural r ∙ mod-eq_of_lt h

  -- by how many times p an integer is above its least residue
  quotient : ℤ → ℤ
  quotient z = pos ((positive z + (p - 1) * negative z) / p) -ℤ pos (negative z)

  residue_differs : (z : ℤ) → positive z + p * negative (quotient z) ≡ least_residue p z + negative z + p * positive (quotient z)
  unfolding quotient
  residue_differs z =
      let n = positive z + (p - 1) * negative z in
      let parts = parts_difference (pos (n / p)) (pos (negative z)) in
      rw (by_parts z) (omega (arith, less_one p (negative z) above, div-add-mod n p, ap (λ m. p * m) parts))

  residue_by : (z : ℤ) (n a b : ℕ) → positive z + p * a ≡ n + negative z + p * b → least_residue p z ≡ n % p
  residue_by z n a b e = residue_shift z (pos n) a b (omega arith) ∙ residue_of_natural n

  pub residue_sum : (x y : ℤ) → least_residue p (x +ℤ y) ≡ (least_residue p x + least_residue p y) % p
  residue_sum x y =
      let k = quotient x in
      let l = quotient y in
      residue_by (x +ℤ y) (least_residue p x + least_residue p y) (negative k + negative l) (positive k + positive l)
      (omega (arith, parts_sum x y, residue_differs x, residue_differs y))

  pub residue_product : (x y : ℤ) → least_residue p (x *ℤ y) ≡ (least_residue p x * least_residue p y) % p
  residue_product x y =
      let r = least_residue p x in
      let s = least_residue p y in
      let k = quotient x in
      let l = quotient y in
      residue_by (x *ℤ y) (r * s) (r * negative l + positive k * (p * negative l) + negative k * s + negative k * (p * positive l))
      (r * positive l + positive k * s + positive k * (p * positive l) + negative k * (p * negative l))
      (omega (
        arith,
        product_differs (positive (x *ℤ y)) (negative (x *ℤ y)) (positive x) (negative x) (positive y) (negative y) r s
            (p * positive k) (p * negative k) (p * positive l) (p * negative l) (parts_product x y) (residue_differs x) (residue_differs y),
      ))

  pub residue_zero : (z : ℤ) → (least_residue p z ≡ 0) ↔ Divides p z
  residue_zero z = (
    λ e. (quotient z, equal_of_parts z (pos p *ℤ quotient z) (omega (arith, residue_differs z, parts_product (pos p) (quotient z)))),
    λ d. residue_by z 0 (negative d.0) (positive d.0) (omega (arith, parts_product (pos p) d.0, ap positive d.1, ap negative d.1))
        ∙ zero-mod p,
  )

  pub entry_low : (r : ℕ) → r ≤ (p - 1) / 2 → signed_entry p r ≡ pos r
  unfolding signed_entry
  entry_low r h = rw (le-leb r ((p - 1) / 2) h)

  pub less_modulus : (r : ℕ) → r < p → pos r -ℤ pos p ≡ negsuc (p - suc r)
  less_modulus r h = equal_of_parts (pos r -ℤ pos p) (negsuc (p - suc r)) (omega (arith, parts_difference (pos r) (pos p)))

  pub entry_high : (r : ℕ) → (p - 1) / 2 < r → r < p → signed_entry p r ≡ negsuc (p - suc r)
  unfolding signed_entry
  entry_high r h k = rw (lt-leb r ((p - 1) / 2) h) (less_modulus r k)

  pub residue_of_entry : (r : ℕ) → r < p → least_residue p (signed_entry p r) ≡ r
  residue_of_entry r h =
      elim (dec_le r ((p - 1) / 2)) [
        | yes low ↦ ap (least_residue p) (entry_low r low) ∙ residue_of_residue r h
        | no high ↦
            ap (least_residue p) (entry_high r (lt_of_not-le high) h) ∙ residue_by (negsuc (p - suc r)) r 1 0 (omega arith) ∙ mod-eq_of_lt h
      ]

  pub entry_of_residue : (z : ℤ) → unsigned_abs z ≤ (p - 1) / 2 → signed_entry p (least_residue p z) ≡ z
  unfolding least_residue
  entry_of_residue (pos n) h =
      let s : n % p ≡ n = mod-eq_of_lt (omega arith) in
      ap (signed_entry p) s ∙ entry_low n h
  entry_of_residue (negsuc n) h =
      let s : suc n % p ≡ suc n = mod-eq_of_lt (omega arith) in
      let t : (p - suc n) % p ≡ p - suc n = mod-eq_of_lt (omega arith) in
      ap (λ m. signed_entry p ((p - m) % p)) s ∙ ap (signed_entry p) t
      ∙ entry_high (p - suc n) (omega arith) (omega arith) ∙ ap negsuc (omega arith)

  pub entry_small : (r : ℕ) → r < p → p % 2 ≡ 1 → unsigned_abs (signed_entry p r) ≤ (p - 1) / 2
  entry_small r h odd =
      elim (dec_le r ((p - 1) / 2)) [
        | yes low ↦ rw (entry_low r low) low
        | no high ↦ let l = lt_of_not-le high in rw (entry_high r l h) (omega arith)
      ]
