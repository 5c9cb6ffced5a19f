-- What rests on Widths.
--
--   widened_number       with a width within its limits, the number is by the limits of all else, and the fit
use Rattle.std.specs.Prelude.{◌≡◌, ℕ, ◌≤◌, [], ◌∷◌, ◌++◌}
use Rattle.std.proofs.Common.{le-leb}
use Rattle.std.proofs.Math.Bool.{and-true}
use Rattle.ticket.specs.declared.setting.Setting.{Setting}
use Rattle.ticket.specs.Rules.{test, first_failed, most_width, scale_and_bound_within, numbers_within, fits_width, limit_tests, setting_tests, setting_number}
use Rattle.ticket.specs.Laws.Widths.{widened}
use Rattle.ticket.proofs.Laws.Widths.{width_unread}

pub widened_number : (G : Setting) (v : ℕ) → 1 ≤ v → v ≤ most_width
    → setting_number (widened G v) ≡ first_failed (limit_tests G (scale_and_bound_within G) ++ (test (fits_width G v) 3 ∷ []))
unfolding setting_tests numbers_within
widened_number G v low high =
    let same = width_unread G v in
    rw (le-leb 1 v low, le-leb v most_width high, and-true, same.limits, same.numbers, same.fit)
