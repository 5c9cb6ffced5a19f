-- The writer and the rounding number o: with 0 a claim is that of the sum itself (O3), and what does not read it.
--
--   unrounded_quotient, unrounded_remainder   with 0, the sum over the scale, rounded down, and what is left
--   Unread G o, rounding_unread               the tests of the operands, what a claim is made for, and the answer where a ticket is written,
--                                             do not read it
use Rattle.std.specs.Prelude.{◌≡◌, ℕ, List, ℤ, pos, ◌-ℤ◌, ◌*ℤ◌}
use Rattle.std.proofs.Math.Path.{ap}
use Rattle.algebra.specs.Rules.{floor_division}
use Rattle.ticket.specs.declared.setting.Setting.{Setting}
use Rattle.ticket.proofs.Laws.Rounding as ticket
use Rattle.ticket.proofs.Laws.Rounding.{unrounded_dividend, rounded}
use Rattle.writer.specs.Rules.{operands_reading, written, sum_for, quotient_of, remainder_of}

module _ (G : Setting) (none : G.rounding ≡ 0) (A B C : List ℤ) (i j : ℕ) where
  pub unrounded_quotient : quotient_of G A B C i j ≡ floor_division (sum_for G A B C i j) G.scale
  unfolding quotient_of
  unrounded_quotient = ap (λ z. floor_division z G.scale) (unrounded_dividend G none (sum_for G A B C i j))

  pub unrounded_remainder : remainder_of G A B C i j ≡ sum_for G A B C i j -ℤ pos G.scale *ℤ quotient_of G A B C i j
  unfolding remainder_of
  unrounded_remainder =
      ap (λ z. z -ℤ pos G.scale *ℤ quotient_of G A B C i j) (unrounded_dividend G none (sum_for G A B C i j))

pub record Unread (G : Setting) (o : ℕ) : Type 0 where
  pub operands : (A B C : List ℤ) → operands_reading (rounded G o) A B C ≡ operands_reading G A B C
  pub sums : (A B C : List ℤ) → sum_for (rounded G o) A B C ≡ sum_for G A B C
  pub answered : written (rounded G o) ≡ written G

pub rounding_unread : (G : Setting) (o : ℕ) → Unread G o
unfolding operands_reading
rounding_unread G o =
    let same = ticket.rounding_unread G o in
    record {
      operands = λ A B C. rw (same.layout, same.bias_bound_lem);
      sums = λ A B C. rw (same.sums, same.bias_columns_lem);
      answered = rw same.bytes;
    }
