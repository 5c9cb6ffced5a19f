-- An exact sum, lifted so that it is not negative, and known modulo 2^32.
--
--   Lifted G S x    x is the integer S, lifted
use Rattle.std.specs.Prelude.{◌≡◌, ℕ, ℤ, pos, ◌+ℤ◌}
use Rattle.ticket.specs.declared.setting.Setting.{Setting}
use Rattle.ticket.specs.Laws.Limits.{lift}

abbrev pub Lifted : Setting → ℤ → ℕ → Type 0
Lifted G S x = pos x ≡ S +ℤ pos (lift G)
