use Rattle.std.proofs.Common.{mul-le-mul_right}
use Rattle.ticket.proofs.Laws.Runs.{run_ended}
use Rattle.full.proofs.Laws.Sums.{sum_row_ready}
use Rattle.full.proofs.claims.Decoded.compare.Goals as goal

pub compare_row-requires : goal.compare_row-requires
compare_row-requires c = sum_row_ready (rw c.loop-row.invariant.0 c.requires) c.loop-row-test.true c.loop-row.invariant.1

pub returns : goal.returns
returns c = run_ended c.loop-row.invariant.1 (mul-le-mul_right c.args.self.now.setting.columns c.loop-row-test.false)
