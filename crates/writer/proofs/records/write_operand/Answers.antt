use Rattle.std.proofs.Common.{◌≡◌, ◌+◌, ◌-◌, ◌*◌, ◌≤◌, length, take, drop, sym, ap, ◌∙◌, arith}
use Rattle.algebra.proofs.Laws.Fills.{part_long}
use Rattle.algebra.proofs.Laws.Positions.{row_inside}
use Rattle.writer.proofs.Laws.Lines.{row_records}
use Rattle.writer.proofs.records.write_operand.Goals as goal

pub loop-row-preserved : goal.loop-row-preserved
loop-row-preserved c =
    let at = c.loop-row in
    let fits : at.first + c.args.width ≤ length c.args.operand.now =
    omega (arith, row_inside c.args.width c.loop-row-test.true, at.invariant.0, c.requires.count) in
    let long : length (take (at.first + c.args.width - at.first) (drop at.first c.args.operand.now)) ≡ c.args.width = part_long _ _ _ fits in
    let line = rw long at c.write_line.ensures in
    (omega (arith, at.invariant.0), line.long ∙ at.invariant.1, row_records at.row fits at.invariant.0 at.invariant.2 line)

pub returns : goal.returns
returns c =
    let all : c.loop-row.first ≡ length c.args.operand.now =
    c.loop-row.invariant.0 ∙ ap (λ n. n * c.args.width) (omega arith) ∙ sym c.requires.count in
    record { long = c.loop-row.invariant.1; wrote = rw all at c.loop-row.invariant.2 }
