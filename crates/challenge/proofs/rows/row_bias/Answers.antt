use Rattle.std.proofs.Common.{rules}
use Rattle.challenge.proofs.Laws.Products.{dot_none}
use Rattle.challenge.proofs.rows.row_bias.Goals as goal

pub returns-then-is_empty : goal.returns-then-is_empty
returns-then-is_empty c = dot_none _ _ _ (search rules)
