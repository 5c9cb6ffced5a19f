-- Quotient and remainder of a sum, as the written ticket claims them and as the code makes them.
--
--   lifted_of G s      the sum that s is modulo 2^32, lifted
--   quotient_for G s, remainder_for G s   the least residue of its quotient, and its remainder
--   Claimed G s q r   q and r are these
--   Lifting G h l     the setting's numbers pass; h is half of the quotients' range, and l is the lift
use Rattle.std.specs.Prelude.{◌≡◌, ℕ, ◌+◌, ◌-◌, ◌/◌, ◌%◌, ◌^◌, cond, nat_lt}
use Rattle.residue.specs.Rules.{modulus}
use Rattle.ticket.specs.declared.setting.Setting.{Setting}
use Rattle.ticket.specs.Rules.{half_range}
use Rattle.ticket.specs.Laws.Limits.{Numbers, Fitted, lift}

abbrev pub lifted_of : Setting → ℕ → ℕ
lifted_of G sum = (sum + lift G) % 2 ^ 32

unfoldable pub quotient_for : Setting → ℕ → ℕ
quotient_for G sum =
    let x = lifted_of G sum / G.scale in cond (nat_lt x (half_range G)) (x + (modulus - half_range G)) (x - half_range G)

unfoldable pub remainder_for : Setting → ℕ → ℕ
remainder_for G sum = lifted_of G sum % G.scale

pub record Claimed (G : Setting) (sum quotient remainder : ℕ) : Type 0 where
  pub quotient_is : quotient ≡ quotient_for G sum
  pub remainder_is : remainder ≡ remainder_for G sum

pub record Lifting (G : Setting) (half lifting : ℕ) : Type 0 where
  pub numbers : Numbers G
  pub fitted : Fitted G
  pub half_is : half ≡ half_range G
  pub lift_is : lifting ≡ lift G
