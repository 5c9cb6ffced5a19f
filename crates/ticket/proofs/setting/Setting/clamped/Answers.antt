use Rattle.std.proofs.Common.{refl}
use Rattle.ticket.specs.Laws.Limits.{clamped}
use Rattle.ticket.proofs.Laws.Limits.ClampedSmall.{clamped_small}
use Rattle.ticket.proofs.setting.Setting.clamped.Goals as goal

pub returns : goal.returns
unfolding clamped
returns c = rw (c.min.ensures, c.min-2.ensures, c.min-3.ensures, c.min-4.ensures, c.min-5.ensures)
    (refl, clamped_small c.args.self)
