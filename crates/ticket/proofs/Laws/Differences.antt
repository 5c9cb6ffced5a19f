-- What the records of a ticket that passes stand for: how large it is, its least residue, and how far a claim is from what it is
-- compared with.
--
--   bias_entry, no_bias_entry  a bias entry, where there is a bias and where there is none
--   claim_exactly              a claim puts S for its sum exactly when scale times quotient plus remainder is what is divided for S
--   biased_sum_is               an exact sum with its bias is an entry of the product of the two matrices, and that of the third added
--   claim_decided              a claim is true or untrue
-- the size of the difference of two numbers that are at most b apart
use Rattle.std.specs.Prelude.{◌≡◌, ℕ, ◌+◌, ◌*◌, ◌/◌, ◌%◌, ◌^◌, ◌<◌, ◌≤◌, true, false, ◌⊎◌, ◌↔◌, List, ℤ, pos, negsuc, ◌+ℤ◌, ◌-ℤ◌, ◌*ℤ◌, unsigned_abs, refl}
use Rattle.std.proofs.Math.Nat.{div-add-mod}
use Rattle.std.proofs.Common.{mul-le-mul_left, sym, ap, ◌∙◌, inl, inr}
use native.Mathlib.Omega.{arith}
use Rattle.std.proofs.Math.Logic.{⊎_elim}
use borrow.Author.Tests.{leb-true, ltb-true}
use Rattle.std.proofs.Math.IntN.{ℤ_discrete, +ℤ-neg_ℤ_cancel, -ℤ-+ℤ_cancel}
use Rattle.residue.specs.Rules.{modulus, least_residue, signed_entry}
use Rattle.residue.proofs.Laws.Integers.{positive, negative, parts_difference}
use Rattle.residue.proofs.Laws.Residues.{residue_of_entry, residue_of_residue, residue_shift}
use Rattle.residue.proofs.Laws.Modulus.PartnerModuli.{modulus_positive}
use Rattle.algebra.specs.Rules.{matrix_product}
use Rattle.algebra.proofs.Laws.IntegerSums.{size_sum, size_difference, size_product}
use Rattle.algebra.proofs.Laws.MatrixProducts.{size_matrix_product}
use Rattle.ticket.specs.declared.setting.Setting.{Setting}
use Rattle.ticket.specs.Rules.{reach, half_range, is_entry, shifted_quotient, parts, part, of_a, of_b, of_bias, of_quotients, of_remainders, bias_bound, bias_columns, value_in, entry_a, entry_b, entry_bias, quotient, remainder, claim, exact_sum, biased_sum, due, dividend, Untrue, FalseIn, has_bias}
use Rattle.ticket.proofs.Laws.First.{true_or_false, all_or_first}
use Rattle.ticket.proofs.Laws.Limits.{half_double, range_double, with_bias_lem}
use Rattle.ticket.proofs.Laws.Limits.ClampedSmall.{bias_there}
use Rattle.ticket.specs.Laws.Passes.{Passed}
use Rattle.ticket.proofs.Laws.Passes.{Valid, valid}
pub mod ClaimsTrue
pub mod TicketDecided
pub mod ClaimsClose

size_between : (z : ℤ) (u v b : ℕ) → positive z + v ≡ u + negative z → u ≤ v + b → v ≤ u + b → unsigned_abs z ≤ b
size_between (pos n) u v b e above below = omega arith
size_between (negsuc n) u v b e above below = omega arith

pub claim_exactly : (G : Setting) (t : List ℕ) (i j : ℕ) (S : ℤ)
    → (claim G t i j ≡ S) ↔ (pos G.scale *ℤ quotient G t i j +ℤ remainder G t i j ≡ dividend G S)
unfolding claim
claim_exactly G t i j S = (
  λ e. sym (-ℤ-+ℤ_cancel _ (pos G.rounding)) ∙ ap (λ z. z +ℤ pos G.rounding) e,
  λ e. ap (λ z. z -ℤ pos G.rounding) e ∙ +ℤ-neg_ℤ_cancel S (pos G.rounding),
)

module _ (G : Setting) (t : List ℕ) (i j : ℕ) where
  pub bias_entry : has_bias G ≡ true → entry_bias G t i j ≡ signed_entry modulus (value_in G t of_bias i j)
  unfolding entry_bias
  bias_entry e = rw e

  pub no_bias_entry : has_bias G ≡ false → entry_bias G t i j ≡ pos 0
  unfolding entry_bias
  no_bias_entry e = rw e

pub biased_sum_is : (G : Setting) (A B C : ℕ → ℕ → ℤ) (i j : ℕ) → biased_sum G A B C i j ≡ matrix_product G.inner A B i j +ℤ C i j
unfolding exact_sum biased_sum
biased_sum_is G A B C i j = refl

pub claim_decided : (G : Setting) (t : List ℕ) (i j : ℕ) → (claim G t i j ≡ due G t i j) ⊎ Untrue G t i j
claim_decided G t i j = elim (ℤ_discrete (claim G t i j) (due G t i j)) [ yes e ↦ inl e | no d ↦ inr d ]
