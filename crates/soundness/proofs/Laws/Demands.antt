-- Which challenge lists are accepted with a ticket that passes the reading and range checks, and how many (C3 to C6).
--
--   accepted_is             a list is accepted exactly when it is well formed and every row is balanced for every vector
--   operand_side_lem            row i of A times u is row i of the sums times the vector, modulo p
--   well_formed_exactly     exactly (p^n - 1)^s lists are well formed (Z4)
--   well_formed_at_most     different well-formed lists are at most so many (Z4)
--   well_formed_reached     and some are so many (Z4)
use Rattle.std.specs.Prelude.{ℕ, suc, ◌+◌, ◌-◌, ◌*◌, ◌^◌, ◌≤◌, ◌<◌, ◌≡◌, refl, ◌⊎◌, ◌↔◌, true, List, [], ◌∷◌, ℤ, pos, ◌+ℤ◌, ◌-ℤ◌, ◌*ℤ◌, length, get_or}
use Rattle.std.proofs.Common.{mul-le-mul_right, mul-zero, pow-suc, arith, sym, ap, ◌∙◌, inl, inr, ⊎_elim, eqb-true, eq-eqb}
use Rattle.std.proofs.Math.Nat.{pow-zero}
use Rattle.std.proofs.Math.Arith.{digits_lt}
use Rattle.std.proofs.Math.IntN.{+ℤ_idl, -ℤ-+ℤ_cancel}
use Rattle.residue.specs.Rules.{modulus, least_residue}
use Rattle.residue.proofs.Laws.Modulus.PartnerModuli.{modulus_prime, modulus_positive}
use Rattle.residue.proofs.Laws.Counting.{Exactly, Different, at_most_below, exactly_below}
use Rattle.residue.proofs.Laws.Counting.ExactlyButOne.{at_most_members, exactly_through, exactly_members}
use Rattle.algebra.specs.Rules.{int_sum}
use Rattle.algebra.proofs.Laws.IntegerSums.{int_sum_cong}
use Rattle.algebra.proofs.Laws.MatrixProducts.SumThrough.{sum_through}
use Rattle.algebra.proofs.Laws.MatrixProducts.{row_balances}
use Rattle.algebra.proofs.Laws.Positions.{by_rows}
use Rattle.algebra.proofs.Laws.Drawn.{Drawn, drawn_exactly, drawn_share}
use Rattle.algebra.proofs.Laws.Drawn.DrawnNoMore.{drawn_no_more}
use Rattle.algebra.proofs.Laws.Soundness.{Passing, Wrong, wrong_of_small}
use Rattle.algebra.proofs.Laws.Soundness.OneColumn.{one_column}
use Rattle.algebra.proofs.Laws.Soundness.PassingCount.{passing_count}
use Rattle.ticket.specs.declared.setting.Setting.{Setting}
use Rattle.ticket.specs.Rules.{Passes, claim, due, entry_a, entry_b, entry_bias, FalseIn}
use Rattle.ticket.proofs.Laws.Passes.{passed_of}
use Rattle.ticket.proofs.Laws.Differences.{biased_sum_is}
use Rattle.ticket.proofs.Laws.Differences.ClaimsClose.{claims_close}
use Rattle.ticket.proofs.Laws.Differences.ClaimsTrue.{claims_true}
use Rattle.ticket.proofs.Laws.Differences.TicketDecided.{ticket_decided}
use Rattle.challenge.specs.Rules.{challenge_at, WellFormed, product_b, claim_side, operand_side, operand_side_by, balanced, balanced_by, Accepted, DifferIn}
use Rattle.challenge.proofs.Laws.Lists.{well_formed_is}
use Rattle.soundness.proofs.Laws.Answers.{AllBalanced}
use Rattle.soundness.proofs.Laws.Answers.AnswerInTable.{accepted_exactly, accepted_number}
pub mod FalseWrong
pub mod AcceptedExactlyWellFormed
pub mod AcceptedShare
pub mod AcceptedAllOrFew

pub accepted_is : (G : Setting) (t : List ℕ) → Passes G t → (x : List ℕ) → Accepted G t x ↔ (WellFormed G x × AllBalanced G t x)
accepted_is G t passes x = (
  λ e. let b = (accepted_exactly G t x).0 (accepted_number G t x e) in (b.list, b.balance),
  λ h. ap (λ a. a.number) ((accepted_exactly G t x).1 record { ticket = passes; list = h.0; balance = h.1 }),
)

pub operand_side_lem : (G : Setting) (t x : List ℕ) (τ i : ℕ)
    → operand_side G t x τ i ≡ least_residue modulus (int_sum G.columns (λ j. due G t i j *ℤ pos (challenge_at G x τ j)))
unfolding operand_side_by product_b
operand_side_lem G t x τ i =
    sum_through modulus modulus_positive G.inner G.columns (entry_a G t) (entry_b G t) (entry_bias G t) i (challenge_at G x τ)
    ∙ ap (least_residue modulus) (int_sum_cong G.columns _ _ (λ j l.
    ap (λ s. s *ℤ pos (challenge_at G x τ j)) (sym (biased_sum_is G (entry_a G t) (entry_b G t) (entry_bias G t) i j))))

well_formed_drawn : (G : Setting) (x : List ℕ) → WellFormed G x ↔ Drawn G.columns G.vectors (λ a. a < modulus) true x
well_formed_drawn G x = (
  λ w. let entries = (well_formed_is G x).0 w in
      record {
        size = entries.size;
        vectors = λ τ l.
            record { allowed = λ k m. entries.below (τ * G.columns + k) (digits_lt l m); not_zero = λ e. entries.other τ l };
      },
  λ d. (well_formed_is G x).1
      record {
        size = d.size;
        below = by_rows (λ k. get_or x k 0 < modulus) G.columns (λ τ k l m. (d.vectors τ l).allowed k m);
        other = λ τ l. (d.vectors τ l).not_zero refl;
      },
)

pub well_formed_exactly : (G : Setting) → Exactly (WellFormed G) ((modulus ^ G.columns - 1) ^ G.vectors)
well_formed_exactly G =
    exactly_through (drawn_exactly (exactly_below modulus) G.vectors true (λ e. modulus_positive)) (λ x. x) (λ x. x)
    (λ x w. (well_formed_drawn G x).0 w)
    (λ x y v w e. e)
    (λ x d. ((well_formed_drawn G x).1 d, refl))

pub well_formed_at_most : (G : Setting) (xs : List (List ℕ)) → Different [] xs
    → ((k : ℕ) → k < length xs → WellFormed G (get_or xs k [])) → length xs ≤ (modulus ^ G.columns - 1) ^ G.vectors
well_formed_at_most G xs different all = at_most_members (well_formed_exactly G).most [] xs all different

pub well_formed_reached : (G : Setting) → (xs : List (List ℕ)) × (length xs ≡ (modulus ^ G.columns - 1) ^ G.vectors) × Different [] xs
    × ((k : ℕ) → k < length xs → WellFormed G (get_or xs k []))
well_formed_reached G = exactly_members (well_formed_exactly G) []
