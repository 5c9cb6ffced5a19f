-- Every answer of the full check is a row of the published table, and is given exactly under its condition (F2); the check accepts
-- a ticket exactly when its quotients and remainders are those of floor division (F3).
--
--   FullRow G a             the answer a is a row of the table, within its bounds
--   FirstUntrue G t i j     the tests before pass, and the claim in row i, column j is the first, row by row, that is untrue
--   AllTrue G t             the tests before pass, and every claim is true
--   FullAnswered G t a      the condition of the answer a, no earlier test failing
--   FloorClaim G t i j      the quotient is what is divided for the exact sum, over the scale, rounded down, and the remainder is what that
--                           leaves (O2)
--   holds_exactly           the test of a claim holds exactly when the claim is true
use Rattle.std.specs.Prelude.{ℕ, ◌+◌, ◌*◌, ◌/◌, ◌%◌, ◌<◌, ◌≡◌, refl, true, false, ◌↔◌, List, ℤ, pos, ◌+ℤ◌, ◌-ℤ◌, ◌*ℤ◌}
use Rattle.std.proofs.Math.Nat.{div-add-mod', mod-lt}
use Rattle.std.proofs.Common.{div-lt_iff_lt-mul, arith, sym, ◌∙◌}
use Rattle.std.proofs.Math.Decide.{ℕ_discrete}
use Rattle.std.proofs.Math.Path.{ap}
use Rattle.std.proofs.Math.Bool.{true≢false}
use Rattle.std.proofs.Math.Logic.{⊎_elim}
use Rattle.std.proofs.Math.Arith.{digits_lt, digits_div, digits_mod}
use Rattle.std.proofs.Math.IntN.{+ℤ_comm, +ℤ-neg_ℤ_cancel, -ℤ-+ℤ_cancel}
use Rattle.algebra.specs.Rules.{floor_division}
use Rattle.algebra.proofs.Laws.FloorDivision.FloorBetween.{floor_unique}
use Rattle.algebra.proofs.Laws.Positions.{by_rows}
use Rattle.ticket.specs.declared.setting.Setting.{Setting}
use Rattle.ticket.specs.declared.Answer.{Answer}
use Rattle.ticket.specs.Rules.{answer, refusal, reading, Passes, quotient, remainder, claim, due, dividend, Untrue, FalseIn}
use Rattle.ticket.proofs.Laws.First.{holds_or_first}
use Rattle.ticket.proofs.Laws.Scans.{scan_none, scan_is, after_passed, after_refused}
use Rattle.ticket.proofs.Laws.Passes.{passed_of}
use Rattle.ticket.proofs.Laws.Differences.{claim_exactly}
use Rattle.ticket.proofs.Laws.Differences.TicketDecided.{small_remainder}
use Rattle.ticket.proofs.Laws.Differences.ClaimsTrue.{claims_true}
use Rattle.ticket.proofs.Laws.Refusals.{Refused, passed_reading, passed_or_refused, refused_reading, refused_number, ReadingRow}
use Rattle.ticket.proofs.Laws.Refusals.RefusedInTable.{refused_in_table}
use Rattle.full.specs.Rules.{holds, untrue, full_accepted, full_verdict, full_check, FullAccepted}
use Rattle.full.proofs.Laws.Same.{same_equal, same_other, equal_of_same}
pub mod FullAcceptedClaims
pub mod FullAcceptedTrue
pub mod FullAcceptedExactly

pub data FullRow (G : Setting) : Answer → Type 0 where
  accepted_row : FullRow G (answer 0 0 0 (G.rows * G.inner * G.columns))
  reading_row : {a : Answer} → ReadingRow G a → FullRow G a
  untrue_row : (i j : ℕ) → i < G.rows → j < G.columns
      → FullRow G (answer 16 (i * G.columns + j) 0 (G.inner * (i * G.columns + j + 1)))

pub record FirstUntrue (G : Setting) (t : List ℕ) (i j : ℕ) : Type 0 where
  pub ticket : Passes G t
  pub row_within : i < G.rows
  pub column_within : j < G.columns
  pub rows_before : (k l : ℕ) → k < i → l < G.columns → claim G t k l ≡ due G t k l
  pub columns_before : (l : ℕ) → l < j → claim G t i l ≡ due G t i l
  pub untrue_here : Untrue G t i j

pub record AllTrue (G : Setting) (t : List ℕ) : Type 0 where
  pub ticket : Passes G t
  pub claims : (i j : ℕ) → i < G.rows → j < G.columns → claim G t i j ≡ due G t i j

pub data FullAnswered (G : Setting) (t : List ℕ) : Answer → Type 0 where
  refused : {c k : ℕ} → Refused G t c k → FullAnswered G t (refusal c k)
  first_untrue : {i j : ℕ} → FirstUntrue G t i j → FullAnswered G t (untrue G (i * G.columns + j))
  all_true : AllTrue G t → FullAnswered G t (full_accepted G)

pub record FloorClaim (G : Setting) (t : List ℕ) (i j : ℕ) : Type 0 where
  pub quotient_is : quotient G t i j ≡ floor_division (dividend G (due G t i j)) G.scale
  pub remainder_is : remainder G t i j ≡ dividend G (due G t i j) -ℤ pos G.scale *ℤ quotient G t i j

module _ (G : Setting) (t : List ℕ) where
  pub holds_exactly : (i j : ℕ) → j < G.columns → (holds G t (i * G.columns + j) ≡ true) ↔ (claim G t i j ≡ due G t i j)
  unfolding holds
  holds_exactly i j l = rw (digits_div i l, digits_mod i l) (equal_of_same _ _, same_equal _ _)

  verdict_next : Passes G t → full_check G t ≡ full_verdict G t
  unfolding full_check
  verdict_next p = after_passed (reading G t) (full_verdict G t) p

  some_column : Passes G t → 0 < G.columns
  some_column p = (passed_of G t p).counts.sizes.columns.0

  fails : {i j : ℕ} → FirstUntrue G t i j → holds G t (i * G.columns + j) ≡ false
  unfolding holds
  fails {i} u = rw (digits_div i u.column_within, digits_mod i u.column_within) (same_other _ _ u.untrue_here)

  in_table : {a : Answer} → FullAnswered G t a → FullRow G a
  in_table (refused r) = reading_row (refused_in_table r)
  in_table (first_untrue {i} {j} u) = untrue_row i j u.row_within u.column_within
  in_table (all_true a) = accepted_row

  all_true_of : {a : Answer} → FullAnswered G t a → a.number ≡ 0 → AllTrue G t
  all_true_of (refused r) e = absurd (omega (arith, refused_number G t r))
  all_true_of (first_untrue u) e = absurd (omega arith)
  all_true_of (all_true a) e = a

  module _ (i j : ℕ) where
    abbrev scaled : ℤ
    scaled = pos G.scale *ℤ quotient G t i j

    abbrev divided : ℤ
    divided = dividend G (due G t i j)

    floor_claim : (r : ℕ) × (r < G.scale) × (remainder G t i j ≡ pos r) → claim G t i j ≡ due G t i j → FloorClaim G t i j
    floor_claim left e =
        let sum : scaled +ℤ remainder G t i j ≡ divided = (claim_exactly G t i j (due G t i j)).0 e in
        record {
          quotient_is = floor_unique divided (quotient G t i j) G.scale left.0 left.1 (rw left.2 at sum);
          remainder_is = sym (+ℤ-neg_ℤ_cancel _ scaled) ∙ ap (λ z. z -ℤ scaled) (+ℤ_comm (remainder G t i j) scaled ∙ sum);
        }

    claim_of_floor : FloorClaim G t i j → claim G t i j ≡ due G t i j
    claim_of_floor f = (claim_exactly G t i j (due G t i j)).1 (rw f.remainder_is (+ℤ_comm scaled _ ∙ -ℤ-+ℤ_cancel divided scaled))
