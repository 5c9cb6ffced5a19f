use native.Mathlib.Nat.{mul-le-mul}
use Rattle.std.proofs.Common.{arith, ◌+◌, ◌*◌, ◌≤◌}
use Rattle.ticket.specs.Rules.{most_inner, most_columns, most_rows}
use Rattle.ticket.proofs.Laws.Limits.ClampedSmall.{counts, bias_columns_most}
use Rattle.challenge.specs.Rules.{vector_products}
use Rattle.quote.proofs.challenge_products.Goals as goal

pub overflow_add-row : goal.overflow_add-row
overflow_add-row c = omega (arith, c.bias_columns.ensures, bias_columns_most c.args.setting, c.requires.sizes)

pub overflow_add-row-2 : goal.overflow_add-row-2
overflow_add-row-2 c = omega (arith, c.bias_columns.ensures, bias_columns_most c.args.setting, c.requires.sizes)

pub overflow_mul-result-2 : goal.overflow_mul-result-2
overflow_mul-result-2 c = rw c.bias_columns.ensures (omega (arith, counts c.requires.sizes))

pub overflow_add-result : goal.overflow_add-result
overflow_add-result c = rw c.bias_columns.ensures (omega (arith, counts c.requires.sizes))

pub overflow_mul-result-3 : goal.overflow_mul-result-3
overflow_mul-result-3 c =
    let one : vector_products c.args.setting ≤ most_inner * most_columns + most_rows * (2 * most_columns + most_inner) =
    omega (arith, counts c.requires.sizes) in
    rw c.bias_columns.ensures (omega (arith, mul-le-mul c.requires.sizes.vectors.1 one))
