use Rattle.std.proofs.Common.{arith, sym, ap, ◌∙◌, ◌≡◌, ℕ, below_more, refl, ◌≢◌}
use Rattle.ticket.specs.declared.refusals.Reason.{Reason}
use Rattle.ticket.specs.declared.refusals.Reason.TheVariants.{Fit}
use Rattle.ticket.specs.Rules.{reason_number, setting_number}
use Rattle.ticket.specs.Laws.Limits.{number_by}
use Rattle.ticket.proofs.Laws.Answers.{reason_numbered}
use Rattle.ticket.proofs.Laws.Limits.{number_by_lem, limits_of}
use Rattle.ticket.proofs.Laws.Limits.ClampedSmall.{setting_holds}
use Rattle.quote.specs.Rules.{figures}
use Rattle.quote.proofs.Laws.Widths.{Tried, tried, tried_refused, first_fitting, none_fitting}
use Rattle.quote.proofs.Laws.Widths.TriedUnfit.{tried_fits, tried_unfit}
use Rattle.quote.proofs.Laws.Quotes.{quote_of_lem, limit_fails, no_width, smallest_width_lem, figures_unread}
use Rattle.quote.proofs.quote_of.Goals as goal
use Rattle.quote.proofs.quote_of.Goals.{After-half}

-- only Fit has the number 3
fit_of : (R : Reason) → reason_number R ≡ 3 → R ≡ Fit
fit_of Fit e = refl
fit_of _ e = absurd (omega arith)

-- what the test of the setting with this width says
said : (c : After-half) {k : ℕ} → k ≡ number_by c.with_width-tried.result c.half.result.0 → Tried c.args.setting c.loop-width.width k
said c is =
    let number = is ∙ number_by_lem _ c.half.ensures ∙ ap setting_number c.with_width-tried.ensures in
    rw number (tried c.args.setting c.loop-width.width (omega arith) (omega arith))

pub figures-requires : goal.figures-requires
figures-requires c = limits_of _ (setting_holds _ (sym (c.in-Ok.ensures ∙ number_by_lem _ c.half.ensures)))

pub returns-in-Ok : goal.returns-in-Ok
returns-in-Ok c =
    let width = c.loop-width.width in
    let fits = tried_fits (said (goal.at.returns-in-Ok c).After-half c.in-Ok.ensures) refl in
    c.figures.ensures
    ∙ ap (λ G. figures G G.width) c.with_width-tried.ensures
    ∙ figures_unread c.args.setting width width
    ∙ sym (quote_of_lem _ (smallest_width_lem fits.0 (first_fitting _ (omega arith) (omega arith) c.loop-width.invariant fits.1)))

pub returns-in-Err : goal.returns-in-Err
returns-in-Err c =
    let found = said (goal.at.returns-in-Err c).After-half c.in-Err.ensures in
    let other : reason_number c.in-Err.reason ≢ 3 = λ e. let fit : c.in-Err.reason ≡ Fit = fit_of c.in-Err.reason e in grind arith in
    c.no_figures.ensures ∙ sym (quote_of_lem _ (limit_fails (tried_refused found (reason_numbered _) other)))

pub loop-width-preserved : goal.loop-width-preserved
loop-width-preserved c =
    let found = said (goal.at.loop-width-preserved c).After-half c.in-Err-Fit.ensures in
    below_more _ _ c.loop-width.invariant (λ one. tried_unfit found (ap reason_number c.in-Err-Fit.field-0-is))

pub returns : goal.returns
returns c =
    let none = none_fitting c.args.setting (omega arith) c.loop-width.invariant in
    c.no_figures-2.ensures ∙ sym (quote_of_lem _ (no_width none.0 none.1))
