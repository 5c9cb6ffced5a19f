use Rattle.std.proofs.Common.{◌≡◌, ◌^◌, ◌<◌, length, get_or, ℤ, pos, nat_abs, sym, ap, ◌∙◌, arith}
use Rattle.residue.specs.Rules.{modulus, least_residue}
use Rattle.algebra.proofs.Laws.Positions.{Position, position_next, position_row}
use Rattle.writer.proofs.Laws.Lines.{operand_record}
use Rattle.writer.proofs.Laws.Operands.{entry_read}
use Rattle.writer.proofs.records.write_few.Goals as goal
use Rattle.writer.proofs.records.write_few.Goals.{then-from-width, else-from-width}

pub loop-k-preserved : goal.loop-k-preserved
loop-k-preserved c =
    let at = c.loop-k in
    let position : Position c.args.width at.k at.row at.column = at.invariant.0 c.loop-k-test.true in
    let entry : ℤ = get_or c.args.operand.now at.k (pos 0) in
    let small : nat_abs entry < 2 ^ 30 = c.requires.entries_small.small at.k c.loop-k-test.true in
    let few : (at.row < 64) × (at.column < 64) = omega (arith, position, c.requires.few, c.requires.wide, c.loop-k-test.true) in
    let value = c.residue-value.ensures ∙ ap (least_residue modulus) (entry_read entry small) in (
      λ l. elim c.if-from-width.branch [
        | then-from-width w ↦ rw (w.row-is, w.column-is) (position_row position (sym c.from.ensures ∙ w.if-from-width.true))
        | else-from-width w ↦ rw (w.row-is, w.column-is) (position_next position (λ e. w.if-from-width.false (c.from.ensures ∙ e)))
      ],
      c.write_record.ensures.long ∙ at.invariant.1,
      operand_record position c.loop-k-test.true c.ranges.kind.fits (omega (arith, few)) (omega (arith, few))
          c.word-header.ensures value at.invariant.2 c.write_record.ensures,
    )

pub returns : goal.returns
returns c =
    let all : c.loop-k.k ≡ length c.args.operand.now = omega arith in
    record { long = c.loop-k.invariant.1; wrote = rw all at c.loop-k.invariant.2 }
