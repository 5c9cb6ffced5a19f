-- The challenge check and the rounding number o: with 0 the sides of a row are those without it (O3), and what does not read it.
--
--   unrounded_side     with 0, the side of the claims is that of scale times quotient plus remainder
--   Unread G o, rounding_unread   the tests of the list, the side of the operands and the products do not read it
use Rattle.std.specs.Prelude.{ℕ, ◌≡◌, refl, List, pos, ◌+ℤ◌, ◌*ℤ◌}
use Rattle.std.proofs.Common.{ap}
use Rattle.residue.specs.Rules.{modulus, least_residue}
use Rattle.algebra.specs.Rules.{int_sum}
use Rattle.algebra.proofs.Laws.IntegerSums.{int_sum_cong}
use Rattle.ticket.specs.declared.setting.Setting.{Setting}
use Rattle.ticket.specs.Rules.{quotient, remainder}
use Rattle.ticket.proofs.Laws.Rounding as ticket
use Rattle.ticket.proofs.Laws.Rounding.UnroundedClaim.{unrounded_claim}
use Rattle.ticket.proofs.Laws.Rounding.{rounded}
use Rattle.challenge.specs.Rules.{challenge_at, first_nonzero, vector_number, list_reading, product_b, claim_side, operand_side, operand_side_by, challenge_products, caught_products}

pub unrounded_side : (G : Setting) → G.rounding ≡ 0 → (t x : List ℕ) (τ i : ℕ)
    → claim_side G t x τ i ≡ least_residue modulus (
    int_sum G.columns (λ j. (pos G.scale *ℤ quotient G t i j +ℤ remainder G t i j) *ℤ pos (challenge_at G x τ j)))
unfolding claim_side
unrounded_side G none t x τ i =
    ap (least_residue modulus) (int_sum_cong G.columns _ _ (λ j l. ap (λ z. z *ℤ pos (challenge_at G x τ j)) (unrounded_claim G none t i j)))

pub record Unread (G : Setting) (o : ℕ) : Type 0 where
  pub list : (x : List ℕ) → list_reading (rounded G o) x ≡ list_reading G x
  pub operands : (t x : List ℕ) (τ i : ℕ) → operand_side (rounded G o) t x τ i ≡ operand_side G t x τ i
  pub accepting : challenge_products (rounded G o) ≡ challenge_products G
  pub catching : (τ i : ℕ) → caught_products (rounded G o) τ i ≡ caught_products G τ i

pub rounding_unread : (G : Setting) (o : ℕ) → Unread G o
unfolding first_nonzero vector_number list_reading product_b operand_side_by
rounding_unread G o =
    let same = ticket.rounding_unread G o in
    record {
      list = λ x. refl;
      operands = λ t x τ i. rw (same.entries_a, same.entries_b, same.entries_bias);
      accepting = rw same.bias_columns_lem;
      catching = λ τ i. rw same.bias_columns_lem;
    }
