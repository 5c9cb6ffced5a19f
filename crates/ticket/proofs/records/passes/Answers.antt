use Rattle.std.proofs.Common.{◌≡◌, ◌&&◌, ◌+◌, ◌*◌, true, ap, refl, sym, ◌∙◌, zero-mul, mul-le-mul_right, arith}
use Rattle.ticket.proofs.Laws.All.{all_none, all_fails}
use Rattle.ticket.proofs.Laws.Passing.{rows_passing}
use Rattle.ticket.proofs.records.passes.Goals as goal

pub loop-row-init : goal.loop-row-init
loop-row-init c = rw (zero-mul c.args.form.columns) (all_none _)

pub returns-then-not-row_passes : goal.returns-then-not-row_passes
returns-then-not-row_passes c =
    let columns = c.args.form.columns in
    let rows = mul-le-mul_right columns c.loop-row-test.true in
    sym (all_fails _ (omega (arith, rows))
    (sym (rows_passing c.args.records.now c.args.form c.loop-row.row refl c.loop-row.invariant
    (c.row_passes.ensures ∙ rw (c.from.ensures, c.from-columns.ensures)))
    ∙ ap (λ b. true && b) c.if-not-row_passes.true))

pub loop-row-preserved : goal.loop-row-preserved
loop-row-preserved c =
    let columns = c.args.form.columns in
    let start : (c.loop-row.row + 1) * columns ≡ c.loop-row.row * columns + columns = omega arith in
    rw start (ap (λ b. true && b) (sym c.if-not-row_passes.false)
    ∙ rows_passing c.args.records.now c.args.form c.loop-row.row refl c.loop-row.invariant
    (c.row_passes.ensures ∙ rw (c.from.ensures, c.from-columns.ensures)))
