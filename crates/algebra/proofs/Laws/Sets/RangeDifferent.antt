-- What rests on Sets.
--
--   range_different     no two are the same
use Rattle.std.specs.Prelude.{ℕ}
use Rattle.std.proofs.Common.{arith}
use Rattle.residue.proofs.Laws.Counting.{Different}
use Rattle.algebra.proofs.Laws.Sets.{range, range_at, range_length}

pub range_different : (c : ℕ) → Different 0 (range c)
range_different c i j l m e = omega (arith, range_length c, range_at c i (omega (arith, range_length c)), range_at c j (omega (arith, range_length c)), e)
