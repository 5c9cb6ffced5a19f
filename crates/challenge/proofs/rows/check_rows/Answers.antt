use Rattle.std.proofs.Common.{◌≡◌, refl, Err, arith, rules}
use Rattle.ticket.proofs.Laws.Runs.{run_next, run_stopped, run_ended}
use Rattle.challenge.proofs.Laws.Rows.{row_sides, row_step}
use Rattle.challenge.proofs.rows.check_rows.Goals as goal

pub check_row-requires : goal.check_row-requires
check_row-requires c = row_sides c.requires c.loop-row.invariant c.loop-row-test.true c.line-a.ensures c.line-w.ensures

pub returns-in_err-made : goal.returns-in_err-made
returns-in_err-made c =
    let is : c.from_residual.result ≡ Err c.in_err-made.field-0.0 = search rules in
    rw is (run_stopped c.loop-row.invariant c.loop-row-test.true
    (row_step c.requires c.loop-row.invariant c.loop-row-test.true c.line-a.ensures c.line-w.ensures (c.in_err-made.ensures)) (λ z. omega arith))

pub loop-row-preserved : goal.loop-row-preserved
loop-row-preserved c =
    run_next c.loop-row.invariant c.loop-row-test.true
    (row_step c.requires c.loop-row.invariant c.loop-row-test.true c.line-a.ensures c.line-w.ensures (c.in_ok-made.ensures)) refl

pub returns : goal.returns
returns c = search run_ended
