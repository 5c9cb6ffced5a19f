-- What rests on Rows.
use Rattle.std.specs.Prelude.{◌≡◌, ℕ, ◌+◌, ◌<◌, List, length, ℤ, slice_index}
use Rattle.std.proofs.Common.{arith, sym, ◌∙◌}
use Rattle.std.proofs.Math.Path.{ap}
use Rattle.residue.specs.Rules.{modulus, least_residue}
use Rattle.algebra.specs.Rules.{word}
use Rattle.ticket.specs.declared.setting.Setting.{Setting}
use Rattle.ticket.proofs.Laws.Layout.{part_quotients, part_remainders}
use Rattle.writer.specs.Rules.{sum_for, quotient_of, remainder_of}
use Rattle.writer.specs.Laws.Claims.{Claimed}
use Rattle.writer.proofs.Laws.Claims.{quotient_true, remainder_true}
use Rattle.writer.proofs.Laws.Entries.{limits, size_sum_for}
use Rattle.writer.proofs.Laws.Lines.{words_named}
use Rattle.writer.specs.Laws.Operands.{biased_word}
use Rattle.writer.specs.Laws.Records.{words_of}
use Rattle.writer.proofs.Laws.Records.{integer_quotient, integer_remainder}
use Rattle.writer.specs.Laws.Writes.{Wrote, Among}
use Rattle.writer.proofs.Laws.Writes.{wrote_as, wrote_both, both_on}
use Rattle.writer.specs.Laws.Rows.{RowReady, RowTo}
use Rattle.writer.proofs.Laws.Rows.{row_sum}

module _ {G : Setting} {C : List ℤ} {row from : ℕ} {sums : List ℕ} {quotients remainders : ℕ} where
  pub row_claim : {half lifting : ℕ} {before output between after : List ℕ} {column q r x y : ℕ}
      → RowReady G half lifting C from sums quotients remainders before → row < 256 → column < length sums
      → RowTo G C row from sums quotients remainders column before output → Claimed G (biased_word C (from + column) (slice_index sums column)) q r
      → x ≡ word 3 0 row column → y ≡ word 4 0 row column → Wrote (λ k. words_of x q) (Among (quotients + column) 1) output between
      → Wrote (λ k. words_of y r) (Among (remainders + column) 1) between after
      → RowTo G C row from sums quotients remainders (column + 1) before after
  unfolding quotient_of remainder_of
  row_claim {column = column} ready small l so_far claimed x-is y-is first second A B of =
      let m : column < G.columns = omega (arith, ready.long_sums) in
      let within = limits of.writable in
      let S = sum_for G A B C row column in
      let size = size_sum_for of.writable row column of.within m in
      let quotient = claimed.quotient_is ∙ quotient_true within.numbers within.fitted S size (row_sum of column m)
      ∙ ap (least_residue modulus) (sym (integer_quotient G A B C row column)) in
      let remainder = claimed.remainder_is ∙ remainder_true within.numbers within.fitted S size (row_sum of column m)
      ∙ ap (least_residue modulus) (sym (integer_remainder G A B C row column)) in
      let few : column < 256 = omega (arith, ready.few) in
      both_on (so_far A B of)
      (wrote_both
      (wrote_as first (words_named G A B C (part_quotients G) of.within m of.quotients_at (omega arith) small few x-is quotient))
      (wrote_as second (words_named G A B C (part_remainders G) of.within m of.remainders_at (omega arith) small few y-is remainder)))
