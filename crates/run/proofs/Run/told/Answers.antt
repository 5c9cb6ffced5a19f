use native.Mathlib.Omega.{arith}
use mathlib.Core.Path.{refl, sym, ap, ◌∙◌}
use Rattle.ticket.specs.Rules.{answer}
use Rattle.run.specs.Rules.{under_way, caught_mark, complete, marked}
use Rattle.run.proofs.Laws.States.{done_accepted, done_caught, ready_here, standing_past, standing_caught, standing_under, tested_refused, tested_passed}
use Rattle.run.proofs.Run.told.Goals as goal

pub returns-then-read-ne0 : goal.returns-then-read-ne0
returns-then-read-ne0 c = tested_refused _ refl _ c.if-read-ne0.true refl

pub returns-then-is_past : goal.returns-then-is_past
returns-then-is_past c =
    let self = c.args.self.now in
    tested_passed _ refl c.if-read-ne0.false
    (ap (λ n. marked self complete (answer 0 0 0 n)) (c.products_done-products.ensures ∙ done_accepted _)
    ∙ sym (standing_past self (sym c.is_past.ensures ∙ c.if-is_past.true)))

pub overflow_add-self : goal.overflow_add-self
overflow_add-self c =
    let sizes = c.requires c.if-read-ne0.false in
    omega (arith, (ready_here c.args.self.now sizes (sym c.is_past.ensures ∙ c.if-is_past.false)).1, sizes)

pub products_done-products-requires-then-is_caught : goal.products_done-products-requires-then-is_caught
products_done-products-requires-then-is_caught c =
    (ready_here c.args.self.now (c.requires c.if-read-ne0.false) (sym c.is_past.ensures ∙ c.if-is_past.false)).1

pub returns-then-is_caught : goal.returns-then-is_caught
returns-then-is_caught c =
    let self = c.args.self.now in
    tested_passed _ refl c.if-read-ne0.false
    (ap (marked self caught_mark) (rw c.number.ensures at c.here.ensures
    ∙ ap (answer 12 self.vector self.row) (c.products_done-products-then-is_caught.ensures ∙ done_caught _ _ _))
    ∙ sym (standing_caught self (sym c.is_past.ensures ∙ c.if-is_past.false) (sym c.is_caught.ensures ∙ c.if-is_caught.true)))

pub products_done-products-requires-2 : goal.products_done-products-requires-2
products_done-products-requires-2 c =
    (ready_here c.args.self.now (c.requires c.if-read-ne0.false) (sym c.is_past.ensures ∙ c.if-is_past.false)).0

pub returns : goal.returns
returns c =
    let self = c.args.self.now in
    tested_passed _ refl c.if-read-ne0.false
    (ap (marked self under_way) (c.here-2.ensures ∙ ap (answer 0 self.vector self.row) c.products_done-products-2.ensures)
    ∙ sym (standing_under self (sym c.is_past.ensures ∙ c.if-is_past.false) (sym c.is_caught.ensures ∙ c.if-is_caught.false)))
