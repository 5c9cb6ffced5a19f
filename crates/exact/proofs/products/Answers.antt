use Rattle.std.proofs.Common.{refl, rules, ◌∙◌, to_z-of_z}
use Rattle.exact.proofs.Laws.Products.{summed_more}
use Rattle.exact.proofs.products.Goals as goal

pub loop-k-preserved : goal.loop-k-preserved
loop-k-preserved c = summed_more c.loop-k.invariant (c.product-sum.ensures ∙ search (rules, to_z-of_z)) refl
