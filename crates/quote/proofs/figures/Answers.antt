use Rattle.std.proofs.Common.{arith, ap}
use Rattle.ticket.specs.Rules.{ticket_length}
use Rattle.ticket.proofs.Laws.Layout.LengthMost.{length_most}
use Rattle.ticket.proofs.Laws.Limits.{clamped_same}
use Rattle.ticket.proofs.Laws.Limits.ClampedSmall.{counts}
use Rattle.quote.proofs.figures.Goals as goal

pub overflow_cast-length : goal.overflow_cast-length
overflow_cast-length c =
    let same = clamped_same c.requires.sizes c.requires.numbers in
    let few = counts c.requires.sizes in
    omega (arith, c.length-length.ensures, ap ticket_length same, length_most few, few)

pub returns : goal.returns
returns c = rw (c.length-length.ensures, c.products.ensures, c.challenge_products.ensures, clamped_same c.requires.sizes c.requires.numbers)
