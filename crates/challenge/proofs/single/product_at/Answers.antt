use native.Mathlib.Omega.{arith}
use Rattle.challenge.proofs.Laws.Single.{line_matrix, product_first, product_later}
use Rattle.challenge.proofs.single.product_at.Goals as goal

pub returns-then-row-ne0 : goal.returns-then-row-ne0
returns-then-row-ne0 c = product_later _ _ _ _ _ c.if-row-ne0.true

pub product-requires : goal.product-requires
product-requires c = search line_matrix

pub returns : goal.returns
returns c = product_first c.requires c.part.ensures c.product.ensures (omega (arith, c.requires.passed.counts.sizes))
    c.narrow.ensures c.if-row-ne0.false
