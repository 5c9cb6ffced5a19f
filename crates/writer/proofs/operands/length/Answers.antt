use Rattle.std.proofs.Common.{◌≡◌, ℕ, sym, ap, ◌∙◌, eq-eqb, ne_eqb}
use Rattle.ticket.specs.declared.setting.Setting.{Setting}
use Rattle.ticket.specs.Rules.{part, part_size}
use Rattle.ticket.specs.Laws.Limits.{Within, clamped}
use Rattle.ticket.proofs.Laws.Limits.{clamped_same}
use Rattle.writer.specs.Laws.Answers.{length_reading}
use Rattle.writer.proofs.operands.length.Goals as goal

-- a size as the code makes it, of a setting that passes
size_is : (G : Setting) (w : ℕ) {size : ℕ} → Within G → size ≡ part_size (part (clamped G) w) → size ≡ part_size (part G w)
size_is G w within e = e ∙ ap (λ H. part_size (part H w)) (clamped_same within.sizes within.numbers)

pub returns-then-operand-size : goal.returns-then-operand-size
unfolding length_reading
returns-then-operand-size c =
    sym (rw (ne_eqb _ _ (λ e. c.if-operand-size.true (e ∙ sym (size_is c.args.setting c.args.which.0 c.requires c.size.ensures)))))

pub returns : goal.returns
unfolding length_reading
returns c = sym (rw (eq-eqb _ _ (c.if-operand-size.false ∙ size_is c.args.setting c.args.which.0 c.requires c.size.ensures)))
