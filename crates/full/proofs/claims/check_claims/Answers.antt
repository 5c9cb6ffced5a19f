use Rattle.std.proofs.Common.{arith}
use Rattle.full.proofs.Laws.Claims.{small_space}
use Rattle.full.proofs.claims.check_claims.Goals as goal

pub check_in-requires : goal.check_in-requires
check_in-requires c = let passed = c.requires in (
  passed,
  small_space passed c.size.ensures c.size-then-size-small.ensures c.size-then-size-small-2.ensures c.if-size-small.true
      (c.if-size-small-2.true) (c.if-size-small-3.true),
  omega arith,
  omega arith,
)
