-- Sums of rows and columns against the numbers that are claimed for them, row after row, as the code works through them.
--
--   claimed_for x y l j    number j of the sums x, with l added, is number j of the claims y, modulo 2^32
--   FirstFound n f r       r is the first place below n at which f fails, if there is one
--   line_sum A B m i j     the product of row i of A and column j of B, m numbers each, modulo 2^32
--   sum_steps G A B y      all sums of the rows A and the columns B, one after the other, by the claims y
--   steps D                those of the lists D
--   SumsReady D n          the lists are as long as the setting needs them, n is the length of a row of sums, and the lift is the setting's
--   SumRowReady D n i k    so it is for row i, k products were made in the rows before, and no number of the row is large
--   RowCompared D i r      r is the products of the rows up to row i, which agree, or else the answer of all rows, which has another number than 0
--   compared r             the answer, by the products or the answer of the first untrue claim
use Rattle.std.specs.Prelude.{◌≡◌, ℕ, ◌+◌, ◌*◌, ◌/◌, ◌%◌, ◌^◌, ◌<◌, ◌≤◌, Bool, List, length, ℤ, ◌==◌, ◌≢◌, slice_index, refl, Option, None, Some, Result, Ok, Err}
use Rattle.std.proofs.Math.Nat.{suc-ne-zero}
use Rattle.algebra.specs.Laws.Fills.{line_at}
use Rattle.exact.specs.Rules.{dot_product}
use Rattle.ticket.specs.declared.setting.Setting.{Setting}
use Rattle.ticket.specs.declared.Answer.{Answer}
use Rattle.ticket.specs.Rules.{answer, first}
use Rattle.ticket.specs.Laws.Limits.{Within, lift}
use Rattle.ticket.specs.Laws.Runs.{Steps, steps_answer, RunTo}
use Rattle.full.specs.declared.claims.Decoded.{Decoded}

abbrev pub claimed_for : List ℕ → List ℕ → ℕ → ℕ → Bool
claimed_for sums claims lift j = (slice_index sums j + lift) % 2 ^ 32 == slice_index claims j

abbrev pub FirstFound : ℕ → (ℕ → Bool) → Option ℕ → Type 0
FirstFound n f None = first n f ≡ n
FirstFound n f (Some j) = (first n f ≡ j) × (j < n)

abbrev pub line_sum : List ℤ → List ℤ → ℕ → ℕ → ℕ → ℕ
line_sum A B inner i j = dot_product (line_at A inner i) (line_at B inner j)

abbrev pub sum_steps : Setting → List ℤ → List ℤ → List ℕ → Steps
sum_steps G A B claims =
    record {
      count = G.rows * G.columns;
      holds = λ c. ((line_sum A B G.inner (c / G.columns) (c % G.columns) + lift G) % 2 ^ 32 == slice_index claims c);
      failed = λ c. answer 16 c 0 (G.inner * (c + 1));
      so_far = λ c. answer 0 0 0 (G.inner * c);
      other = λ c. suc-ne-zero 15;
      passed = λ c. refl;
    }

abbrev pub steps : Decoded → Steps
steps D = sum_steps D.setting D.rows.now D.columns.now D.claims.now

pub record SumsReady (D : Decoded) (row : ℕ) : Type 0 where
  pub limits : Within D.setting
  pub row_is : row ≡ D.setting.columns
  pub lift_is : D.lift ≡ lift D.setting
  pub rows_long : D.setting.rows * D.setting.inner ≤ length D.rows.now
  pub columns_long : D.setting.columns * D.setting.inner ≤ length D.columns.now
  pub claims_long : D.setting.rows * D.setting.columns ≤ length D.claims.now

pub record SumRowReady (D : Decoded) (row i before : ℕ) : Type 0 where
  pub sums : SumsReady D row
  pub run : RunTo (steps D) (i * D.setting.columns) (answer 0 0 0 before)
  pub row_ends : i * D.setting.inner + D.setting.inner ≤ length D.rows.now
  pub claims_end : i * D.setting.columns + D.setting.columns ≤ length D.claims.now
  pub within : i * D.setting.columns + D.setting.columns ≤ D.setting.rows * D.setting.columns
  pub few : i * D.setting.columns + D.setting.columns < 2 ^ 31
  pub few_products : D.setting.inner * (i * D.setting.columns + D.setting.columns) + D.setting.inner < 2 ^ 31
  pub made : before ≡ D.setting.inner * (i * D.setting.columns)

abbrev pub RowCompared : Decoded → ℕ → Result ℕ Answer → Type 0
RowCompared D i (Ok products) = RunTo (steps D) (i * D.setting.columns + D.setting.columns) (answer 0 0 0 products)
RowCompared D i (Err untrue) = (untrue.number ≢ 0) × (untrue ≡ steps_answer (steps D))

abbrev pub compared : Result ℕ Answer → Answer
compared (Ok products) = answer 0 0 0 products
compared (Err untrue) = untrue
