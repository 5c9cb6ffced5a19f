use Rattle.std.proofs.Common.{◌≡◌, ◌+◌, ◌-◌, ◌≤◌, length, take, drop, pos, sym, ◌∙◌, arith}
use lib.Arith.{digits_div, digits_mod}
use Rattle.algebra.proofs.Laws.Fills.{filled_part, part_replaced, part_long}
use Rattle.algebra.proofs.Laws.Positions.{row_inside}
use Rattle.writer.proofs.operands.narrow_columns.Goals as goal

pub loop-column-preserved : goal.loop-column-preserved
loop-column-preserved c =
    let at = c.loop-column in
    let room : at.start + c.args.height ≤ length c.args.list.now =
    omega (arith, row_inside c.args.height c.loop-column-test.true, at.invariant.0, c.requires.room) in
    let long : length (take (at.start + c.args.height - at.start) (drop at.start at.list)) ≡ c.args.height =
    part_long at.list at.start c.args.height (omega (arith, room, at.invariant.1.long)) in
    let filled = rw (long) at c.narrow.ensures in (
      omega (arith, at.invariant.0),
      filled_part at.invariant.1 filled
          (part_replaced (pos 0) at.list at.start _ _ (filled.long ∙ long) (omega (arith, room, at.invariant.1.long)))
          (λ i l. sym (rw (at.invariant.0, digits_mod at.column l, digits_div at.column l))),
    )
