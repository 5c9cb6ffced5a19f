-- Reasons told apart.
--
--   other_reason   one that is neither for a number of the list nor for a vector of zeros has another number than these
use Rattle.std.specs.Prelude.{◌≡◌, refl}
use Rattle.std.proofs.Common.{arith}
use Rattle.ticket.specs.declared.refusals.Reason.{Reason}
use Rattle.ticket.specs.declared.refusals.Reason.TheVariants.{Sizes, Numbers, Fit, Length, Form, Residue, Entry, Quotient, Remainder, ListLength, ListNumber, Caught, OperandLength, OperandEntry, Output, Claim, BiasBound, BiasEntry, Rounding, NoWidth, ZeroVector, Addition}
use Rattle.ticket.specs.Rules.{reason_number}

pub other_reason : (R : Reason) → (R ≡ ListNumber → ⊥) → (R ≡ ZeroVector → ⊥) → (reason_number R ≡ 11 → ⊥) × (reason_number R ≡ 21 → ⊥)
other_reason Sizes d e = (λ z. omega arith, λ z. omega arith)
other_reason Numbers d e = (λ z. omega arith, λ z. omega arith)
other_reason Fit d e = (λ z. omega arith, λ z. omega arith)
other_reason Length d e = (λ z. omega arith, λ z. omega arith)
other_reason Form d e = (λ z. omega arith, λ z. omega arith)
other_reason Residue d e = (λ z. omega arith, λ z. omega arith)
other_reason Entry d e = (λ z. omega arith, λ z. omega arith)
other_reason Quotient d e = (λ z. omega arith, λ z. omega arith)
other_reason Remainder d e = (λ z. omega arith, λ z. omega arith)
other_reason ListLength d e = (λ z. omega arith, λ z. omega arith)
other_reason ListNumber d e = absurd (d refl)
other_reason Caught d e = (λ z. omega arith, λ z. omega arith)
other_reason OperandLength d e = (λ z. omega arith, λ z. omega arith)
other_reason OperandEntry d e = (λ z. omega arith, λ z. omega arith)
other_reason Output d e = (λ z. omega arith, λ z. omega arith)
other_reason Claim d e = (λ z. omega arith, λ z. omega arith)
other_reason BiasBound d e = (λ z. omega arith, λ z. omega arith)
other_reason BiasEntry d e = (λ z. omega arith, λ z. omega arith)
other_reason Rounding d e = (λ z. omega arith, λ z. omega arith)
other_reason NoWidth d e = (λ z. omega arith, λ z. omega arith)
other_reason ZeroVector d e = absurd (e refl)
other_reason Addition d e = (λ z. omega arith, λ z. omega arith)
