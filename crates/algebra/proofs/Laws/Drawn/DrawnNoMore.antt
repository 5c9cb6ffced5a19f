-- What rests on Drawn.
--
--   drawn_no_more               without the zero vector there are no more
use Rattle.std.specs.Prelude.{ℕ, ◌-◌, ◌*◌, ◌^◌, ◌≤◌, Bool, cond}
use Rattle.std.proofs.Math.Nat.{pow-le-pow_left}
use Rattle.std.proofs.Common.{arith}
use Rattle.algebra.proofs.Laws.Drawn.{drawn_with_zero}

pub drawn_no_more : (b n s : ℕ) (nonzero : Bool) → (b ^ n - cond nonzero 1 0) ^ s ≤ b ^ (s * n)
drawn_no_more b n s nonzero = rw (← drawn_with_zero b n s) (pow-le-pow_left (omega arith) s)
