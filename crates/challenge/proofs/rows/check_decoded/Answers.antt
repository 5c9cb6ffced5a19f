use native.Mathlib.Omega.{arith}
use mathlib.Core.Path.{refl, ◌∙◌}
use lib.Seq.{length-take-le}
use Rattle.ticket.specs.Laws.Limits.{Counts}
use Rattle.ticket.proofs.Laws.Answers.{reason_numbered}
use Rattle.ticket.proofs.Laws.Passes.{passes_of}
use Rattle.challenge.proofs.Laws.Checks.{check_list, check_rows, rows_can}
use Rattle.challenge.proofs.Laws.Sides.{decoded_by, room_front, room_rest}
use Rattle.challenge.proofs.rows.check_decoded.Goals as goal

pub returns-in-Err : goal.returns-in-Err
returns-in-Err c =
    c.from.ensures ∙ check_list _ _ _ refl (passes_of _ _ c.requires.passed) c.in-Err.ensures (reason_numbered _)

pub check_vectors-requires : goal.check_vectors-requires
check_vectors-requires c = let counts : Counts c.args.case.setting = c.requires.passed.counts in
    let pre = c.requires in (
      rows_can pre.passed c.in_default.ensures refl,
      rw (
        room_front _ _ _ pre.fits c.shifted_entries.ensures c.lifted_claims.ensures,
        room_rest _ _ _ pre.fits c.shifted_entries.ensures c.lifted_claims.ensures,
      )
          (decoded_by pre.passed _ pre.fits c.part-entries.ensures c.part-quotients.ensures c.part-remainders.ensures
          c.half-half.ensures c.shifted_entries.ensures c.lifted_claims.ensures c.lift_of.ensures),
      record {
        columns = length-take-le _ _ (omega (arith, (counts).sizes));
        inner = length-take-le _ _ (omega (arith, (counts).sizes));
      },
    )

pub returns-in-Ok : goal.returns-in-Ok
returns-in-Ok c = check_rows _ _ _ refl (passes_of _ _ c.requires.passed) c.in_default.ensures refl c.in-Ok.ensures

pub returns-in-Err-check_vectors : goal.returns-in-Err-check_vectors
returns-in-Err-check_vectors c =
    check_rows _ _ _ refl (passes_of _ _ c.requires.passed) c.in_default.ensures refl (c.from-in-Err-check_vectors.ensures ∙ c.in-Err-check_vectors.ensures)
