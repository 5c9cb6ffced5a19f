use mathlib.Core.Path.{sym, ap, ◌∙◌}
use Rattle.ticket.specs.Rules.{plain}
use Rattle.run.specs.Rules.{products_done}
use Rattle.run.proofs.Laws.States.{done_none, done_some}
use Rattle.run.proofs.answers.products_done.Goals as goal

pub returns-then-rows-eq0 : goal.returns-then-rows-eq0
returns-then-rows-eq0 c =
    let args = c.args in
    done_none _ _ ∙ ap (products_done (plain args.setting) args.vectors) (sym c.if-rows-eq0.true)

pub returns : goal.returns
returns c = done_some _ _ c.if-rows-eq0.false
