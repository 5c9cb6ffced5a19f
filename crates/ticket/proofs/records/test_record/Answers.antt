use Rattle.std.proofs.Common.{sym, ◌∙◌}
use Rattle.ticket.proofs.Laws.Forms.{tested_unformed, tested_large, range_tested}
use Rattle.ticket.proofs.records.test_record.Goals as goal

pub returns-then-not-formed : goal.returns-then-not-formed
returns-then-not-formed c = tested_unformed _ _ _ _ _ (sym c.formed.ensures ∙ c.if-not-formed.true)

pub returns-then-not-is_least : goal.returns-then-not-is_least
returns-then-not-is_least c =
    tested_large _ _ _ _ _ (sym c.formed.ensures ∙ c.if-not-formed.false) c.value_at-value.ensures (sym c.is_least.ensures ∙ c.if-not-is_least.true)

pub returns-then-not-in_range : goal.returns-then-not-in_range
returns-then-not-in_range c =
    range_tested _ _ _ _ _ (sym c.formed.ensures ∙ c.if-not-formed.false) c.value_at-value.ensures (sym c.is_least.ensures ∙ c.if-not-is_least.false)
    (λ l. sym c.if-not-in_range.true ∙ c.in_range.ensures l)

pub returns : goal.returns
returns c =
    range_tested _ _ _ _ _ (sym c.formed.ensures ∙ c.if-not-formed.false) c.value_at-value.ensures (sym c.is_least.ensures ∙ c.if-not-is_least.false)
    (λ l. sym c.if-not-in_range.false ∙ c.in_range.ensures l)
