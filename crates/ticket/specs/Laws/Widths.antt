-- A setting with another width: which rules do not read the width (Q1), and the number of the setting. G is a setting, with a bias or
-- without.
--
--   widened G v          the setting G with the width v
use Rattle.std.specs.Prelude.{ℕ}
use Rattle.ticket.specs.declared.setting.Setting.{Setting}
use Rattle.ticket.specs.Laws.Limits.{renumbered}

abbrev pub widened : Setting → ℕ → Setting
widened G v = renumbered G G.vectors v G.rounding
