use Rattle.std.proofs.Common.{◌^◌, ◌<◌, get_or, ℤ, pos, nat_abs, ap, ◌∙◌, arith, rules}
use Rattle.residue.specs.Rules.{modulus, least_residue}
use Rattle.writer.proofs.Laws.Lines.{line_record_lem}
use Rattle.writer.proofs.Laws.Operands.{entry_read}
use Rattle.writer.proofs.records.write_line.Goals as goal

pub loop-column-preserved : goal.loop-column-preserved
loop-column-preserved c =
    let at = c.loop-column in
    let entry : ℤ = get_or c.args.entries.now at.column (pos 0) in
    let small : nat_abs entry < 2 ^ 30 = c.requires.entries_small.small at.column c.loop-column-test.true in
    let value = c.residue-value.ensures ∙ ap (least_residue modulus) (entry_read entry small) in (
      omega (arith, at.invariant.0),
      line_record_lem _ _ _ c.args.entries.now at.invariant.1 c.write_record.ensures (search rules) (search rules)
          (omega (arith, c.requires.wide)) at.invariant.0 value,
    )
