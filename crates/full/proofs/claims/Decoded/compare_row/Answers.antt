use Rattle.std.proofs.Common.{refl}
use Rattle.full.proofs.Laws.Sums.{row_untrue, row_true}
use Rattle.full.proofs.claims.Decoded.compare_row.Goals as goal

pub returns-in-None : goal.returns-in-None
returns-in-None c = row_true c.row_sums.ensures c.requires c.in-None.ensures refl

pub returns-in-Some : goal.returns-in-Some
returns-in-Some c = rw c.number.ensures (row_untrue c.row_sums.ensures c.requires c.in-Some.ensures refl)
