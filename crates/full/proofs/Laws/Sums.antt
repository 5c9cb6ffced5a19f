-- Sums of rows and columns against the numbers that are claimed for them, row after row, as the code works through them.
--
--   sum_row_ready         so it is for each row, where it is so for all
--   row_untrue, row_true  the answer of the row, by its first untrue claim, if there is one
use Rattle.std.specs.Prelude.{◌≡◌, ℕ, ◌+◌, ◌*◌, ◌<◌, ◌≤◌, List, length, slice_index_or, refl, None, Some, Ok, Err}
use Rattle.std.proofs.Math.Nat.{suc-ne-zero}
use Rattle.std.proofs.Common.{mul-le-mul_left, arith, sym, ap, ◌∙◌}
use Rattle.std.proofs.Math.Arith.{digits_div, digits_mod}
use Rattle.algebra.specs.Laws.Fills.{line_at}
use Rattle.algebra.proofs.Laws.Fills.{part_of, part_long}
use Rattle.algebra.proofs.Laws.Positions.{row_inside}
use Rattle.exact.specs.Laws.Matrices.{RowSums}
use Rattle.ticket.specs.Rules.{answer}
use Rattle.ticket.proofs.Laws.Limits.ClampedSmall.{counts}
use Rattle.ticket.specs.Laws.Runs.{RunTo}
use Rattle.ticket.proofs.Laws.Runs.{run_several, run_breaks}
use Rattle.full.specs.declared.claims.Decoded.{Decoded}
use Rattle.full.specs.Laws.Sums.{claimed_for, FirstFound, line_sum, steps, SumsReady, SumRowReady, RowCompared}

pub sum_row_ready : {D : Decoded} {row i before : ℕ} → let n = D.setting.columns in
    SumsReady D row → i < D.setting.rows → RunTo (steps D) (i * n) (answer 0 0 0 before) → SumRowReady D row i before
sum_row_ready {D} sums l run =
    let within = row_inside D.setting.columns l in
    let most = counts sums.limits.sizes in
    record {
      sums = sums;
      run = run;
      row_ends = omega (arith, row_inside D.setting.inner l, sums.rows_long);
      claims_end = omega (arith, sums.claims_long);
      within = within;
      few = omega (arith, most.claims);
      few_products = omega (arith, mul-le-mul_left D.setting.inner within, most.products, most.sizes.inner);
      made = ap (λ a. a.products) run.answer_is;
    }

module _ {D : Decoded} {old sums : List ℕ} {i before : ℕ}
    (summed : RowSums (line_at D.rows.now D.setting.inner i) D.columns.now old sums) (ready : SumRowReady D (length old) i before) where
  abbrev n : ℕ
  n = D.setting.columns

  abbrev claims : List ℕ
  claims = line_at D.claims.now n i

  alike : (j : ℕ) → j < n → claimed_for sums claims D.lift j ≡ (steps D).holds (i * n + j)
  alike j l =
      let m = D.setting.inner in
      let row_long = part_long D.rows.now (i * m) m ready.row_ends in
      let column : j * m + m ≤ length D.columns.now = omega (arith, row_inside m l, ready.sums.columns_long) in
      let sum : slice_index_or sums j 0 ≡ line_sum D.rows.now D.columns.now m i j =
      (rw row_long at (summed.each j)) (omega (arith, ready.sums.row_is)) column in
      rw (digits_div i l, digits_mod i l, sum, ready.sums.lift_is, part_of D.claims.now (i * n) n j 0 l)

  row_long : length sums ≡ n
  row_long = summed.long ∙ ready.sums.row_is

  pub row_untrue : {j products : ℕ} → FirstFound (length sums) (claimed_for sums claims D.lift) (Some j)
      → products ≡ before + D.setting.inner * (j + 1) → RowCompared D i (Err (answer 16 (i * n + j) 0 products))
  row_untrue {j} untrue e =
      let first_is = sym (rw row_long at untrue.0) in
      let l : j < n = omega (arith, untrue.1, row_long) in
      let other = suc-ne-zero 15 in
      (other, (run_breaks ready.run ready.within _ alike first_is l (ap (answer 16 (i * n + j) 0) (omega (arith, ready.made)))).stopping other)

  pub row_true : {products : ℕ} → FirstFound (length sums) (claimed_for sums claims D.lift) None → products ≡ before + D.setting.inner * n
      → RowCompared D i (Ok products)
  row_true all e =
      let first_is = sym (rw row_long at all) in
      (run_several ready.run ready.within _ alike first_is (omega arith) (ap (answer 0 0 0) (omega (arith, ready.made)))).passing refl
