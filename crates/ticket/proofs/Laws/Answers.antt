-- When the number of an answer is 0, over the rules that make answers.
--
--   unless_zero   a test that refuses by a number other than 0 leaves 0 exactly when it holds and the rest is 0
--   after_zero    two answers in order have 0 exactly when both have
--   scan_zero     a scan has 0 exactly when all its numbers are 0
--   reason_numbered   no reason has the number 0
--   after_err, after_ok   an answer after that of tests which refuse, and of tests which pass
--   passed_zero   the answer of tests that pass has the number 0
--   first_past    there is no first place below n at which a test fails exactly when it holds everywhere below n
use Rattle.std.specs.Prelude.{◌≡◌, ℕ, ◌<◌, Bool, true, false, ◌↔◌, ◌≢◌, refl}
use Rattle.std.proofs.Common.{arith, sym, ap, ◌∙◌, ⊎_elim}
use Rattle.std.proofs.Math.Decide.{ℕ_discrete}
use Rattle.std.proofs.lemmas.Bool.{false≢true}
use Rattle.ticket.specs.declared.Answer.{Answer}
use Rattle.ticket.specs.declared.refusals.Reason.{Reason}
use Rattle.ticket.specs.declared.refusals.Reason.TheVariants.{Sizes, Numbers, Fit, Length, Form, Residue, Entry, Quotient, Remainder, ListLength, ListNumber, Caught, OperandLength, OperandEntry, Output, Claim, BiasBound, BiasEntry, Rounding, NoWidth, ZeroVector, Addition}
use Rattle.ticket.specs.declared.refusals.Refusal.{Refusal}
use Rattle.ticket.specs.Rules.{first, unless, first_refusal, after, refusal, reason_number}
use Rattle.ticket.proofs.Laws.First.{first_none, first_before}
use Rattle.ticket.proofs.Laws.Scans.{refusal_none, refusal_is, zeros_or_first, after_first, after_passed, after_refused, after_second}

pub unless_zero : (holds : Bool) (refused rest : Answer) → (refused.number ≢ 0)
    → ((unless holds refused rest).number ≡ 0) ↔ ((holds ≡ true) × (rest.number ≡ 0))
unless_zero true refused rest other = (λ e. (refl, e), λ h. h.1)
unless_zero false refused rest other = (λ e. absurd (other e), λ h. absurd (false≢true h.0))

pub after_zero : (a b : Answer) → ((after a b).number ≡ 0) ↔ ((a.number ≡ 0) × (b.number ≡ 0))
after_zero a b = (
  λ e. elim (ℕ_discrete a.number 0) [
    | yes z ↦ (z, sym (ap (λ c. c.number) (after_passed a b z)) ∙ e)
    | no d ↦ absurd (d (sym (ap (λ c. c.number) (after_refused a b d)) ∙ e))
  ],
  λ h. ap (λ c. c.number) (after_passed a b h.0) ∙ h.1,
)

pub scan_zero : (start n : ℕ) (f : ℕ → ℕ) → ((first_refusal start n f).number ≡ 0) ↔ ((k : ℕ) → k < n → f k ≡ 0)
scan_zero start n f = (
  λ e. ⊎_elim (λ z. z)
      (λ o. absurd (o.1.other
      (sym (ap (λ a. a.number) (refusal_is start n o.0 f o.1.within o.1.before o.1.other)) ∙ e)))
      (zeros_or_first n f),
  λ z. ap (λ a. a.number) (refusal_none start n f z),
)

pub reason_numbered : (R : Reason) → (reason_number R ≢ 0)
reason_numbered Sizes e = omega arith
reason_numbered Numbers e = omega arith
reason_numbered Fit e = omega arith
reason_numbered Length e = omega arith
reason_numbered Form e = omega arith
reason_numbered Residue e = omega arith
reason_numbered Entry e = omega arith
reason_numbered Quotient e = omega arith
reason_numbered Remainder e = omega arith
reason_numbered ListLength e = omega arith
reason_numbered ListNumber e = omega arith
reason_numbered Caught e = omega arith
reason_numbered OperandLength e = omega arith
reason_numbered OperandEntry e = omega arith
reason_numbered Output e = omega arith
reason_numbered Claim e = omega arith
reason_numbered BiasBound e = omega arith
reason_numbered BiasEntry e = omega arith
reason_numbered Rounding e = omega arith
reason_numbered NoWidth e = omega arith
reason_numbered ZeroVector e = omega arith
reason_numbered Addition e = omega arith

-- tests whose result is Err R, or Ok, have the answer A
module _ {A : Answer} where
  pub after_err : (R : Refusal) → refusal (reason_number R.reason) R.place ≡ A → (B : Answer)
      → refusal (reason_number R.reason) R.place ≡ after A B
  after_err R is B = after_first is B (reason_numbered R.reason)

  pub after_ok : {b B : Answer} → refusal 0 0 ≡ A → b ≡ B → b ≡ after A B
  after_ok is b_is = after_second is refl b_is

  pub passed_zero : refusal 0 0 ≡ A → A.number ≡ 0
  passed_zero is = sym (ap (λ a. a.number) is)

pub first_past : (n : ℕ) (f : ℕ → Bool) → (first n f ≡ n) ↔ ((k : ℕ) → k < n → f k ≡ true)
first_past n f = (λ e k l. first_before n f k (omega arith), first_none n f)
