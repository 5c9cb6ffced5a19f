use Rattle.std.proofs.Common.{◌≡◌, ◌∙◌, arith}
use Rattle.writer.proofs.Laws.Rows.RowClaim.{row_claim}
use Rattle.writer.proofs.claims.Division.write_row.Goals as goal

pub loop-column-preserved : goal.loop-column-preserved
loop-column-preserved c =
    let second = c.write_record-in-loop-column.ensures in
    let so_far = c.loop-column.invariant in
    let claimed = rw c.with_bias-sum.ensures at c.divide-claim.ensures in (
      second.long ∙ c.write_record.ensures.long ∙ so_far.0,
      omega (arith, so_far.1),
      omega (arith, so_far.2),
      row_claim c.requires c.ranges.row.fits c.loop-column-test.true so_far.3 claimed
          so_far.1 so_far.2 c.write_record.ensures second,
    )

pub returns : goal.returns
returns c =
    let all : c.loop-column.column ≡ c.args.self.setting.columns = omega (arith, c.requires.long_sums) in
    record { long = c.loop-column.invariant.0; wrote = rw all at c.loop-column.invariant.3 }
