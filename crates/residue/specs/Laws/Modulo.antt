-- Natural numbers modulo p, as far as the kit does not have it.
--
--   carried_sum p v s   v + s, with 1 carried where v is in the upper half of the numbers up to p, modulo 2^32 and then modulo p + 1
use Rattle.std.specs.Prelude.{ℕ, ◌+◌, ◌/◌, ◌%◌, ◌^◌}

unfoldable pub carried_sum : ℕ → ℕ → ℕ → ℕ
carried_sum p v s = (v + s + v / ((p + 1) / 2)) % 2 ^ 32 % (p + 1)
