use native.Mathlib.Omega.{arith}
use Rattle.std.proofs.Common.{◌≡◌, ◌+◌, ap}
use Rattle.ticket.specs.Rules.{reason_number}
use Rattle.run.proofs.Laws.Additions.{place_fits, vector_large, vector_zeros, vector_neither}
use Rattle.run.proofs.Laws.Reasons.{other_reason}
use Rattle.run.proofs.lists.read_vector.Goals as goal
use Rattle.run.proofs.lists.read_vector.Goals.{in-ListNumber, in-ZeroVector, in_default-reason}

pub returns-in_default : goal.returns-in_default
returns-in_default c = vector_neither _ c.requires _ c.with_vectors.ensures c.in_default.ensures (λ e. omega arith) (λ e. omega arith)

pub overflow_mul-before : goal.overflow_mul-before
overflow_mul-before c = record { fits = omega (arith, place_fits _ c.requires _ c.with_vectors.ensures c.in-Err.ensures) }

pub overflow_add-result : goal.overflow_add-result
overflow_add-result c =
    let small = place_fits _ c.requires _ c.with_vectors.ensures c.in-Err.ensures in
    elim c.match-refusal.branch [
      | in-ListNumber w ↦ record { fits = omega (arith, small, w.before-is) }
      | in-ZeroVector w ↦ record { fits = omega (arith, small, w.before-is) }
      | in_default-reason w ↦ record { fits = omega (arith, small, w.before-is) }
    ]

pub returns : goal.returns
returns c =
    elim c.match-refusal.branch [
      | in-ListNumber w ↦
          rw (w.in-ListNumber.is, w.before-is)
          (vector_large _ c.requires _ c.with_vectors.ensures c.in-Err.ensures (ap reason_number w.in-ListNumber.is))
      | in-ZeroVector w ↦
          rw (w.in-ZeroVector.is, w.before-is)
          (vector_zeros _ c.requires _ c.with_vectors.ensures c.in-Err.ensures (ap reason_number w.in-ZeroVector.is))
      | in_default-reason w ↦
          let other = other_reason _ w.in_default-reason.not-ListNumber w.in_default-reason.not-ZeroVector in
          let same : c.match-refusal.before + c.in-Err.refusal.place ≡ c.in-Err.refusal.place = omega arith in
          rw same (vector_neither _ c.requires _ c.with_vectors.ensures c.in-Err.ensures other.0 other.1)
    ]
