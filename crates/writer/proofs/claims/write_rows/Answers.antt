use Rattle.std.proofs.Common.{◌*◌, ap, ◌∙◌, arith}
use Rattle.algebra.proofs.Laws.Fills.{part_long}
use Rattle.writer.proofs.Laws.Entries.{limits, lift_fits, long_b, small_a, small_b}
use Rattle.writer.proofs.Laws.Operands.{small_part}
use Rattle.writer.proofs.Laws.Rows.{claims_early, rows_begun, row_room, row_ready, rows_none, rows_next, rows_more}
use Rattle.writer.proofs.claims.write_rows.Goals as goal

pub overflow_cast-lift : goal.overflow_cast-lift
overflow_cast-lift c = let pre = c.requires in omega (arith, lift_fits pre.writable pre.half_is c.lift_of-lift.ensures)

pub overflow_cast-height : goal.overflow_cast-height
overflow_cast-height c = omega (arith, (limits c.requires.writable).sizes.rows)

pub narrow_columns-requires : goal.narrow_columns-requires
narrow_columns-requires c =
    let pre = c.requires in
    record { entries = small_b pre.writable; long = long_b pre.writable; room = omega (arith, long_b pre.writable, pre.long_columns) }

pub overflow_add-remainders : goal.overflow_add-remainders
overflow_add-remainders c = omega (arith, claims_early c.requires.writable, ap (λ n. n * c.args.job.now.setting.columns) c.from.ensures)

pub loop-row-init : goal.loop-row-init
loop-row-init c = (rw c.from.ensures (rows_begun c.requires), rows_none _ _ _ _)

pub slice_bounds-narrow-end : goal.slice_bounds-narrow-end
slice_bounds-narrow-end c = omega (arith, row_room c.requires c.loop-row.invariant.0 c.loop-row-test.true)

pub narrow-requires : goal.narrow-requires
narrow-requires c =
    let inside = (row_room c.requires c.loop-row.invariant.0 c.loop-row-test.true).in_a in
    record { entries = small_part _ _ (search small_a) inside; long = part_long _ _ _ inside ∙ omega arith; inside = omega arith }

pub write_row-requires : goal.write_row-requires
write_row-requires c =
    rw c.from-in-loop-row.ensures
    (row_ready c.requires c.loop-row.invariant.0 c.loop-row-test.true c.lift_of-lift.ensures c.row_sums.ensures.long c.loop-row.invariant.1.long)

pub overflow_add-quotients-in-loop-row : goal.overflow_add-quotients-in-loop-row
overflow_add-quotients-in-loop-row c = omega (arith, row_room c.requires c.loop-row.invariant.0 c.loop-row-test.true)

pub overflow_add-remainders-in-loop-row : goal.overflow_add-remainders-in-loop-row
overflow_add-remainders-in-loop-row c = omega (arith, row_room c.requires c.loop-row.invariant.0 c.loop-row-test.true)

pub loop-row-preserved : goal.loop-row-preserved
loop-row-preserved c =
    let line = c.narrow.ensures in (
      rows_next c.loop-row.invariant.0 c.loop-row-test.true line.long c.row_sums.ensures.long,
      rows_more c.loop-row.invariant.0 c.loop-row-test.true c.requires.writable line c.narrow_columns.ensures c.requires.long_columns
          c.row_sums.ensures c.loop-row.invariant.1 (rw c.from-in-loop-row.ensures at c.write_row.ensures),
    )
