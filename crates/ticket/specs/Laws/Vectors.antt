-- A setting with another number of vectors: which rules do not read it, and that it passes the tests that the setting passes. G is a setting,
-- with a bias or without.
--
--   vectored G s         the setting G with s vectors
use Rattle.std.specs.Prelude.{ℕ}
use Rattle.ticket.specs.declared.setting.Setting.{Setting}
use Rattle.ticket.specs.Laws.Limits.{renumbered}

abbrev pub vectored : Setting → ℕ → Setting
vectored G s = renumbered G s G.width G.rounding
