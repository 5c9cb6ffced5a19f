-- An exact sum, lifted so that it is not negative, and known modulo 2^32.
--
--   lifted_small    a lifted sum is below p, where S is at most as large as a sum can be
--   lifted_sum      x is the lifted sum, where it is so modulo 2^32
--   lifted_decides  a claim C is P + c exactly when P and C - c, both lifted, are equal modulo p, where it is less than p from P + c
use Rattle.std.specs.Prelude.{◌≡◌, ℕ, ◌+◌, ◌-◌, ◌%◌, ◌^◌, ◌<◌, ◌≤◌, ◌↔◌, ℤ, pos, ◌+ℤ◌, ◌-ℤ◌, unsigned_abs}
use Rattle.std.proofs.Common.{arith, sym, ap, ◌∙◌}
use Rattle.residue.specs.Rules.{modulus, least_residue}
use Rattle.residue.proofs.Laws.Integers.{positive, negative, equal_of_parts, parts_sum, parts_difference, parts_within}
use Rattle.residue.proofs.Laws.Modulus.{modulus_below}
use Rattle.residue.proofs.Laws.Residues.{residue_of_residue, residue_sum}
use Rattle.residue.proofs.Laws.Residues.ResidueClose.{residue_close}
use Rattle.ticket.specs.declared.setting.Setting.{Setting}
use Rattle.ticket.specs.Rules.{reach}
use Rattle.ticket.specs.Laws.Limits.{Numbers, Fitted, lift}
use Rattle.ticket.proofs.Laws.Limits.{lift_small}
use Rattle.ticket.specs.Laws.Lifts.{Lifted}

module _ (p : ℕ) (above : 0 < p) (lift : ℕ) (P C c : ℤ) (close : unsigned_abs (C -ℤ (P +ℤ c)) < p) where
  abbrev sum : ℤ
  sum = P +ℤ pos lift

  abbrev claimed : ℤ
  claimed = C +ℤ pos lift -ℤ c

  -- both by their parts
  parts : (positive claimed + positive c + negative C ≡ positive C + lift + (negative claimed + negative c))
      × (positive sum + negative P ≡ positive P + lift + negative sum)
      × (positive (P +ℤ c) + (negative P + negative c) ≡ positive P + positive c + negative (P +ℤ c))
  parts = omega (arith, parts_difference (C +ℤ pos lift) c, parts_sum C (pos lift), parts_sum P (pos lift), parts_sum P c)

  pub lifted_decides : {x y : ℕ} → x ≡ least_residue p sum → y ≡ least_residue p claimed → (x ≡ y) ↔ (C ≡ P +ℤ c)
  lifted_decides x-is y-is = (
    λ e. let apart : claimed -ℤ sum ≡ C -ℤ (P +ℤ c) =
        equal_of_parts (claimed -ℤ sum) (C -ℤ (P +ℤ c)) (omega (arith, parts, parts_difference claimed sum, parts_difference C (P +ℤ c))) in
        let same = residue_close p above claimed sum (rw apart close) (sym y-is ∙ sym e ∙ x-is) in
        equal_of_parts C (P +ℤ c) (omega (arith, parts, ap positive same, ap negative same)),
    λ e. let same = equal_of_parts sum claimed (omega (arith, parts, ap positive e, ap negative e)) in
        x-is ∙ ap (least_residue p) same ∙ sym y-is,
  )

module _ {G : Setting} (numbers : Numbers G) (fitted : Fitted G) (S : ℤ) (small : unsigned_abs S ≤ reach G) where
  up : S +ℤ pos (lift G) ≡ pos (positive S + lift G - negative S)
  up =
      equal_of_parts (S +ℤ pos (lift G)) (pos (positive S + lift G - negative S))
      (omega (arith, parts_sum S (pos (lift G)), parts_within S (reach G) small, fitted.sums, numbers.scale))

  below : positive S + lift G - negative S < modulus
  below = omega (arith, lift_small numbers fitted, parts_within S (reach G) small, fitted.sums, numbers.scale)

  pub lifted_small : {x : ℕ} → Lifted G S x → x < modulus
  lifted_small {x} e = let same : x ≡ positive S + lift G - negative S = ap positive (e ∙ up) in omega (arith, below)

  pub lifted_sum : {x : ℕ} → x ≡ (least_residue (2 ^ 32) S + lift G) % 2 ^ 32 → Lifted G S x
  lifted_sum {x} e =
      let word : 0 < 2 ^ 32 = omega arith in
      let lift_below : lift G < 2 ^ 32 = omega (arith, lift_small numbers fitted, modulus_below) in
      let y = positive S + lift G - negative S in
      let same : x ≡ y =
      e ∙ sym (
      residue_sum (2 ^ 32) word S (pos (lift G)) ∙ ap (λ n. (least_residue (2 ^ 32) S + n) % 2 ^ 32) (residue_of_residue (2 ^ 32) word (lift G) lift_below)
      )
      ∙ ap (least_residue (2 ^ 32)) up ∙ residue_of_residue (2 ^ 32) word y (omega (arith, below, modulus_below)) in
      ap pos same ∙ sym up
