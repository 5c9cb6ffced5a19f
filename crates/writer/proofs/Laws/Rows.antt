-- The records of the claims, row by row, as the code writes them.
--
--   row_none, row_claim        no claim of the row is written yet, and one more
--   tiny_room, most_room       so have lists as long as B, and the longest
--   most_entries               how many entries B has at most
--   RowsAt G i a x s q r       before row i: its entries begin at a, its claims at the records q and r, and x and s have room for the row
--   RowRoom G A i a x q r      row i is inside A, and the records of its claims come early
--   claims_early               the claims come early in the ticket
--   rows_begun, row_room, row_ready, rows_none, rows_next, rows_more   before the first row, before each, and after it
-- an entry of the bias, in a list that has none where there is no bias
use Rattle.std.specs.Prelude.{◌≡◌, ℕ, ◌+◌, ◌-◌, ◌*◌, ◌^◌, ◌<◌, ◌≤◌, true, List, length, get_or, take, drop, ℤ, pos, slice_index, slice_index_or}
use Rattle.std.proofs.Common.{mul-le-mul_left, mul-le-mul_right, arith, sym, ◌∙◌, ⊎_elim}
use Rattle.std.proofs.Math.Path.{ap}
use Rattle.std.proofs.Math.Arith.{digits_lt, digits_div, digits_mod}
use Rattle.residue.specs.Rules.{modulus, least_residue}
use Rattle.algebra.specs.Rules.{word, matrix_product}
use Rattle.algebra.specs.Laws.Fills.{Filled}
use Rattle.algebra.proofs.Laws.Fills.{part_of}
use Rattle.algebra.proofs.Laws.Positions.{row_inside}
use Rattle.exact.specs.Laws.Matrices.{turned_number, RowSums}
use Rattle.exact.proofs.Laws.Matrices.{row_sums_exact}
use Rattle.ticket.specs.declared.setting.Setting.{Setting}
use Rattle.ticket.specs.Rules.{most_rows, most_inner, most_columns, start, of_quotients, of_remainders, bias_columns, has_bias}
use Rattle.ticket.proofs.Laws.Differences.{biased_sum_is}
use Rattle.ticket.proofs.Laws.Layout.{parts_are, part_quotients, part_remainders}
use Rattle.ticket.proofs.Laws.Layout.StartOfB.{length_is}
use Rattle.ticket.specs.Laws.Limits.{clamped}
use Rattle.ticket.proofs.Laws.Limits.{with_bias_lem, without_bias}
use Rattle.ticket.proofs.Laws.Limits.ClampedSmall.{counts}
use Rattle.ticket.proofs.Laws.First.{true_or_false}
use Rattle.residue.proofs.Laws.Residues.{residue_sum}
use Rattle.writer.specs.Rules.{entry_of, sum_for, quotient_of, remainder_of}
use Rattle.writer.specs.Laws.Answers.{Writable}
use Rattle.writer.specs.Laws.Claims.{Claimed}
use Rattle.writer.proofs.Laws.Claims.{lifting_of, quotient_true, remainder_true}
use Rattle.writer.proofs.Laws.Entries.{limits, long_a, long_b, long_c, no_bias, size_sum_for}
use Rattle.writer.proofs.Laws.Lines.{words_named}
use Rattle.writer.specs.Laws.Operands.{column_of, BiasReady, biased_word}
use Rattle.writer.specs.Laws.Records.{words_of}
use Rattle.writer.proofs.Laws.Records.{integer_quotient, integer_remainder}
use Rattle.writer.specs.Laws.Writes.{Wrote, Among}
use Rattle.writer.proofs.Laws.Writes.{wrote_none, wrote_as, wrote_both, both_on}
use Rattle.writer.specs.Laws.Rows.{RowReady, RowOf, RowTo, RowWrote, Room, RowsReady, ClaimsWrote}
pub mod RowClaim

bias_entry : {G : Setting} {A B C : List ℤ} → Writable G A B C → (row j : ℕ) → slice_index_or C (row * G.columns + j) (pos 0)
    ≡ entry_of (bias_columns G) C row j
bias_entry {G} {C = C} w row j =
    ⊎_elim (λ e. ap (λ n. get_or C (row * n + j) (pos 0)) (sym (with_bias_lem G e).1))
    (λ e. no_bias w e (row * G.columns + j) ∙ sym (no_bias w e (row * bias_columns G + j)))
    (true_or_false (has_bias G))

-- a sum of the row with the bias added is what its claim is made for
row_sum : {G : Setting} {A B C : List ℤ} {row from quotients remainders : ℕ} {sums : List ℕ} → RowOf G A B C row from sums quotients remainders
    → (j : ℕ) → j < G.columns → biased_word C (from + j) (slice_index sums j) ≡ least_residue (2 ^ 32) (sum_for G A B C row j)
row_sum {G} {A} {B} {C} {row} of j l =
    let P = matrix_product G.inner (entry_of G.inner A) (entry_of G.columns B) row j in
    rw (of.sums_are j l, of.from_is, bias_entry of.writable row j)
    (sym (residue_sum (2 ^ 32) (omega arith) P (entry_of (bias_columns G) C row j))
    ∙ ap (least_residue (2 ^ 32)) (sym (biased_sum_is G (entry_of G.inner A) (entry_of G.columns B) (entry_of (bias_columns G) C) row j)))

module _ {G : Setting} {C : List ℤ} {row from : ℕ} {sums : List ℕ} {quotients remainders : ℕ} where
  pub row_none : {before : List ℕ} → RowTo G C row from sums quotients remainders 0 before before
  row_none A B of = wrote_none (λ k. ⊎_elim (λ a. omega (arith, a.from, a.below)) (λ a. omega (arith, a.from, a.below)))

pub record RowsAt (G : Setting) (row from : ℕ) (line : List ℤ) (sums : List ℕ) (quotients remainders : ℕ) : Type 0 where
  pub within : row ≤ G.rows
  pub from_is : from ≡ row * G.inner
  pub long_line : length line ≡ G.inner
  pub long_sums : length sums ≡ G.columns
  pub quotients_at : quotients ≡ start G of_quotients + row * G.columns
  pub remainders_at : remainders ≡ start G of_remainders + row * G.columns

pub record RowRoom (G : Setting) (A : List ℤ) (row from : ℕ) (line : List ℤ) (quotients remainders : ℕ) : Type 0 where
  pub in_a : from + length line ≤ length A
  pub short : from + length line < 2 ^ 16
  pub few : row < most_rows
  pub early : (quotients + G.columns < 2 ^ 16) × (remainders + G.columns < 2 ^ 16)

module _ {G : Setting} {A B C : List ℤ} (w : Writable G A B C) where
  pub tiny_room : {n : ℕ} → length B ≤ n → n < 2 ^ 16 → Room G n n n
  tiny_room few small =
      let sizes = (limits w).sizes in
      let inner = mul-le-mul_left G.inner sizes.columns.0 in
      let columns = mul-le-mul_right G.columns sizes.inner.0 in
      record {
        for_line = omega (arith, long_b w);
        for_columns = omega (arith, long_b w);
        for_sums = omega (arith, long_b w);
        small = omega arith;
      }

  pub most_room : {n : ℕ} → length B ≤ n → n < 2 ^ 16 → Room G most_inner n most_columns
  most_room few small =
      let sizes = (limits w).sizes in
      record { for_line = sizes.inner.1; for_columns = omega (arith, long_b w); for_sums = sizes.columns.1; small = omega arith }

  pub most_entries : length B ≤ most_inner * most_columns
  most_entries = omega (arith, long_b w, counts (limits w).sizes)

pub claims_early : {G : Setting} {A B C : List ℤ} → Writable G A B C → length A + length B + length C + G.rows * G.columns < 2 ^ 16
claims_early w = omega (arith, long_a w, long_b w, long_c w, counts (limits w).sizes)

-- the bias has a row for each of A, or none at all
bias_ready : {G : Setting} {A B C : List ℤ} → Writable G A B C → {row : ℕ} → row < G.rows → BiasReady C (row * G.columns) G.columns
bias_ready {G} w l =
    record {
      early = omega (arith, row_inside G.columns l, counts (limits w).sizes);
      inside = λ some.
          let there : has_bias G ≡ true =
          ⊎_elim (λ e. e) (λ e. absurd (some (omega (arith, long_c w, ap (λ n. G.rows * n) (without_bias G e).1)))) (true_or_false (has_bias G)) in
          omega (arith, long_c w, ap (λ n. G.rows * n) (with_bias_lem G there).1, row_inside G.columns l);
    }

module _ {G : Setting} {half : ℕ} {A B C line columns : List ℤ} {sums before : List ℕ} (ready : RowsReady G half A B C line columns sums before) where
  pub rows_begun : RowsAt G 0 0 line sums (length A + length B + length C) (length A + length B + length C + G.rows * G.columns)
  rows_begun =
      let w = ready.writable in
      record {
        within = omega arith;
        from_is = omega arith;
        long_line = ready.long_line;
        long_sums = ready.long_sums;
        quotients_at = omega (arith, long_a w, long_b w, long_c w, parts_are G);
        remainders_at = omega (arith, long_a w, long_b w, long_c w, parts_are G);
      }

  module _ {row from quotients remainders : ℕ} {here : List ℤ} {made : List ℕ} (at : RowsAt G row from here made quotients remainders)
      (l : row < G.rows) where
    pub row_room : RowRoom G A row from here quotients remainders
    row_room =
        let line = row_inside G.inner l in
        let claims = row_inside G.columns l in
        let few = counts (limits ready.writable).sizes in
        record {
          in_a = omega (arith, long_a ready.writable, at);
          short = omega (arith, at, few.entries_a);
          few = omega (arith, few.sizes.rows);
          early = omega (arith, parts_are G, few, at);
        }

    pub row_ready : {lifting : ℕ} {now output : List ℕ} → lifting ≡ half * (clamped G).scale + G.rounding → length now ≡ length made
        → length output ≡ length before → RowReady G half lifting C (row * G.columns) now quotients remainders output
    row_ready lift_is long same =
        let claims = row_inside G.columns l in
        record {
          lifts = lifting_of (limits ready.writable) ready.half_is lift_is;
          bias = bias_ready ready.writable l;
          long_sums = long ∙ at.long_sums;
          few = (limits ready.writable).sizes.columns.1;
          room_quotients = omega (arith, parts_are G, length_is G, at, ready.long_output);
          room_remainders = omega (arith, parts_are G, length_is G, at, ready.long_output);
        }

pub rows_none : (G : Setting) (A B C : List ℤ) {before : List ℕ} → ClaimsWrote G A B C 0 before before
rows_none G A B C = wrote_none (λ k. ⊎_elim (λ a. omega (arith, a.from, a.below)) (λ a. omega (arith, a.from, a.below)))

module _ {G : Setting} {row from quotients remainders : ℕ} {slice line : List ℤ} {old sums : List ℕ}
    (at : RowsAt G row from slice old quotients remainders) (l : row < G.rows) where
  pub rows_next : length line ≡ length slice → length sums ≡ length old
      → RowsAt G (row + 1) (from + length slice) line sums (quotients + G.columns) (remainders + G.columns)
  rows_next long_line long_sums =
      record {
        within = omega arith;
        from_is = omega (arith, at.from_is, at.long_line);
        long_line = long_line ∙ at.long_line;
        long_sums = long_sums ∙ at.long_sums;
        quotients_at = omega (arith, at.quotients_at);
        remainders_at = omega (arith, at.remainders_at);
      }

  -- the row of A and the columns of B, as they were narrowed
  pub rows_more : {A B C kept columns : List ℤ} {before output after : List ℕ} → Writable G A B C
      → Filled (pos 0) slice (length slice) (column_of (take (from + length slice - from) (drop from A)) 1 0) line
      → Filled (pos 0) kept (G.columns * G.inner) (turned_number B G.inner G.columns) columns → length B ≤ length kept
      → RowSums line columns old sums → ClaimsWrote G A B C row before output
      → RowWrote G C row (row * G.columns) sums quotients remainders output after
      → ClaimsWrote G A B C (row + 1) before after
  rows_more {A} {B} {C} {columns = columns} writable row-filled filled room summed so_far row-Wrote =
      let m = G.inner in
      let X = entry_of m A in
      let Y = entry_of G.columns B in
      let next : row * G.columns + G.columns ≡ (row + 1) * G.columns = omega arith in
      let sum : (j : ℕ) → j < G.columns → slice_index sums j ≡ least_residue (2 ^ 32) (matrix_product m X Y row j) =
      λ j h. row_sums_exact summed m X Y row j (row-filled.long ∙ at.long_line) (omega (arith, at.long_sums))
      (omega (arith, row_inside m h, long_b writable, filled.long))
      (λ k n. let same : k * 1 + 0 ≡ k = omega arith in
      let inside : k < length slice = omega (arith, at.long_line) in
      row-filled.each k inside ∙ rw (same, part_of A from (length slice) k (pos 0) inside, at.from_is))
      (λ k n. filled.each (j * m + k) (digits_lt h n) ∙ rw (digits_mod j n, digits_div j n)) in
      let of : RowOf G A B C row (row * G.columns) sums quotients remainders = record {
        writable = writable;
        within = l;
        sums_are = sum;
        from_is = omega arith;
        quotients_at = at.quotients_at;
        remainders_at = at.remainders_at;
      } in
      rw next at (both_on so_far (rw (at.quotients_at, at.remainders_at) at (row-Wrote.wrote A B of)))
