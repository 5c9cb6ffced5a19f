use Rattle.std.proofs.Common.{sym, ◌∙◌}
use Rattle.ticket.specs.Laws.Limits.{number_by}
use Rattle.ticket.proofs.Laws.Limits.{sizes_of, numbers_of}
use Rattle.ticket.proofs.setting.Setting.test.Goals as goal

pub returns-then-not-sizes_within : goal.returns-then-not-sizes_within
unfolding number_by
returns-then-not-sizes_within c = rw (← c.sizes_within.ensures, c.if-not-sizes_within.true)

pub returns-then-not-numbers_within : goal.returns-then-not-numbers_within
unfolding number_by
returns-then-not-numbers_within c =
    rw (← c.sizes_within.ensures, c.if-not-sizes_within.false, ← c.numbers_within.ensures, c.if-not-numbers_within.true)

pub returns-then-not-bias_within : goal.returns-then-not-bias_within
unfolding number_by
returns-then-not-bias_within c =
    rw (
      ← c.sizes_within.ensures,
      c.if-not-sizes_within.false,
      ← c.numbers_within.ensures,
      c.if-not-numbers_within.false,
      ← c.bias_within.ensures,
      c.if-not-bias_within.true,
    )

pub returns-then-not-rounding_within : goal.returns-then-not-rounding_within
unfolding number_by
returns-then-not-rounding_within c =
    rw (
      ← c.sizes_within.ensures,
      c.if-not-sizes_within.false,
      ← c.numbers_within.ensures,
      c.if-not-numbers_within.false,
      ← c.bias_within.ensures,
      c.if-not-bias_within.false,
      ← c.rounding_within.ensures,
      c.if-not-rounding_within.true,
    )

pub fits-requires : goal.fits-requires
fits-requires c = (
  sizes_of _ (sym c.sizes_within.ensures ∙ c.if-not-sizes_within.false),
  numbers_of _ (sym c.numbers_within.ensures ∙ c.if-not-numbers_within.false),
)

pub returns-then-not-fits : goal.returns-then-not-fits
unfolding number_by
returns-then-not-fits c =
    rw (
      ← c.sizes_within.ensures,
      c.if-not-sizes_within.false,
      ← c.numbers_within.ensures,
      c.if-not-numbers_within.false,
      ← c.bias_within.ensures,
      c.if-not-bias_within.false,
      ← c.rounding_within.ensures,
      c.if-not-rounding_within.false,
      ← c.fits.ensures,
      c.if-not-fits.true,
    )

pub returns : goal.returns
unfolding number_by
returns c =
    rw (
      ← c.sizes_within.ensures,
      c.if-not-sizes_within.false,
      ← c.numbers_within.ensures,
      c.if-not-numbers_within.false,
      ← c.bias_within.ensures,
      c.if-not-bias_within.false,
      ← c.rounding_within.ensures,
      c.if-not-rounding_within.false,
      ← c.fits.ensures,
      c.if-not-fits.false,
    )
