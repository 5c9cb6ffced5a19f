use Rattle.std.proofs.Common.{◌≡◌, arith}
use Rattle.ticket.proofs.Laws.Limits.ClampedSmall.{bias_columns_most}
use Rattle.ticket.proofs.Laws.Limits.{half_small}
use Rattle.ticket.proofs.Laws.Parts.{bounds_small, forms_make}
use Rattle.ticket.proofs.records.form_of.Goals as goal

pub overflow_cast-width : goal.overflow_cast-width
overflow_cast-width c = omega (arith, c.bias_columns-width.ensures, bias_columns_most c.args.setting, c.requires.0.sizes.columns)

pub entries_form-requires-in-2 : goal.entries_form-requires-in-2
entries_form-requires-in-2 c = rw c.largest_bias.ensures (bounds_small c.requires.0).1

pub overflow_mul-result : goal.overflow_mul-result
overflow_mul-result c = omega (arith, c.requires.2, half_small c.requires.0.numbers)

pub returns-in-0 : goal.returns-in-0
returns-in-0 c = rw (c.in-0.is, c.entries_form.ensures) (forms_make c.requires.0).0

pub returns-in-1 : goal.returns-in-1
returns-in-1 c = rw (c.in-1.is, c.entries_form-in-1.ensures) (forms_make c.requires.0).1

pub returns-in-2 : goal.returns-in-2
returns-in-2 c = rw (c.in-2.is, c.entries_form-in-2.ensures, c.bias_columns-width.ensures, c.largest_bias.ensures) (forms_make c.requires.0).2

pub returns-in-3 : goal.returns-in-3
returns-in-3 c = rw (c.in-3.is, c.requires.2) (forms_make c.requires.0).3

pub returns-in_default : goal.returns-in_default
returns-in_default c = let last : c.args.which.0 ≡ 4 = omega arith in
    rw last (forms_make c.requires.0).4
