-- Worked examples of the rules: for each integer its least residue modulo p and the signed entry that this stands for, in one
-- table that the checker computes.
use Rattle.std.specs.Prelude.{◌≡◌, ℕ, ◌+◌, ◌-◌, ◌/◌, ◌^◌, List, [], ◌∷◌, map, ℤ, pos, neg_ℤ, refl}
use Rattle.residue.specs.Rules.{modulus, least_residue, signed_entry}

record Example : Type 0 where
  integer : ℤ
  residue : ℕ
  entry : ℤ

-- (p - 1)/2
half : ℕ
half = (modulus - 1) / 2

minus : ℕ → ℤ
minus n = neg_ℤ (pos n)

examples : List Example
examples =
    record { integer = pos 0; residue = 0; entry = pos 0 }
    ∷ record { integer = pos 1; residue = 1; entry = pos 1 }
    ∷ record { integer = minus 1; residue = modulus - 1; entry = minus 1 }
    ∷ record { integer = minus 2; residue = modulus - 2; entry = minus 2 }
    ∷ record { integer = pos half; residue = half; entry = pos half }
    ∷ record { integer = pos (half + 1); residue = half + 1; entry = minus half }
    ∷ record { integer = minus half; residue = half + 1; entry = minus half }
    ∷ record { integer = minus (half + 1); residue = half; entry = pos half }
    ∷ record { integer = pos (modulus - 1); residue = modulus - 1; entry = minus 1 }
    ∷ record { integer = pos modulus; residue = 0; entry = pos 0 }
    ∷ record { integer = pos (modulus + 1); residue = 1; entry = pos 1 }
    ∷ record { integer = minus modulus; residue = 0; entry = pos 0 }
    ∷ record { integer = pos (2 ^ 32 - 1); residue = 1; entry = pos 1 }
    ∷ record { integer = minus (2 ^ 31); residue = modulus - 1; entry = minus 1 }
    ∷ []

by_rules : Example → Example
by_rules e = record { integer = e.integer; residue = least_residue modulus e.integer; entry = signed_entry modulus (least_residue modulus e.integer) }

examples_hold : map by_rules examples ≡ examples
unfolding modulus least_residue signed_entry half minus examples by_rules
examples_hold = refl
