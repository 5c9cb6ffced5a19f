use Rattle.std.proofs.Common.{arith}
use Rattle.ticket.specs.Laws.Limits.{clamped}
use Rattle.ticket.proofs.Laws.Limits.ClampedSmall.{clamped_small}
use Rattle.ticket.proofs.Laws.Layout.{parts_are}
use Rattle.ticket.proofs.setting.Setting.products.Goals as goal

pub overflow_mul-result : goal.overflow_mul-result
overflow_mul-result c = let G = c.args.self in
    rw (c.size.ensures, c.clamped.ensures.0, (parts_are (clamped G)).size_a) (omega (arith, clamped_small G))

pub returns : goal.returns
returns c = rw (c.size.ensures, c.clamped.ensures.0, (parts_are (clamped c.args.self)).size_a)
