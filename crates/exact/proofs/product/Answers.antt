-- The product of two 16-bit numbers has room in 32 bits.
use Rattle.std.proofs.Common.{◌∙◌}
use Rattle.exact.proofs.Laws.Products.{product_fits, product_residue}
use Rattle.exact.proofs.product.Goals as goal

pub overflow_mul-product : goal.overflow_mul-product
overflow_mul-product c = rw (c.from.ensures, c.from-2.ensures) (search product_fits)

pub returns : goal.returns
returns c = (rw (c.from.ensures, c.from-2.ensures) at c.cast_unsigned.ensures) ∙ search product_residue
