-- All rows for one vector, as the code works through them: x is the vector, u its product with B, a and w are the lists that A and the
-- claims are decoded to, d the bytes of the bias, V what all rows of the vector have in common.
--
--   outcome r                 the answer of rows that all balance, by the products made, or of the row that is caught
--   sides_equal m n a w x u    w times x, with the offset m, is a times u, with the offset n
--   row_answer a w V i q      the answer of row i after q products, by these two sides, with row i of the bias times z added to right
--   bias_vector G x            what the bias is multiplied with: the vector, nothing where there is no bias
--   row_agrees G a w d x u i   row i of w times x, with the lift taken off, is row i of a times u, with the bound taken off, and row i of
--                             the bias times x
--   row_cost G x u             how many products a row takes
--   row_steps G a w V q       the rows one after the other after q products
--   VectorMade G d x u s τ V   V is made of these, s being the lift and τ the vector's number
--   VectorRowsReady G a w V q   the rows can be worked through after q products
--   SidesReady a w V i q      so can row i
use Rattle.std.specs.Prelude.{ℕ, ◌+◌, ◌*◌, ◌≤◌, ◌<◌, ◌^◌, ◌≡◌, refl, Bool, List, eqb, length, get_or, take, Result, Ok, Err}
use Rattle.std.proofs.Math.Nat.{suc-ne-zero}
use Rattle.algebra.specs.Laws.Fills.{line_at}
use Rattle.ticket.specs.declared.setting.Setting.{Setting}
use Rattle.ticket.specs.declared.Answer.{Answer}
use Rattle.ticket.specs.Rules.{unless, answer, record_bytes, bias_columns}
use Rattle.ticket.specs.Laws.Limits.{lift}
use Rattle.ticket.specs.Laws.Runs.{Steps}
use Rattle.challenge.specs.declared.rows.Caught.{Caught}
use Rattle.challenge.specs.declared.rows.Vector.{Vector}
use Rattle.challenge.specs.Laws.Products.{rows_times, dot_with, offset_of, WordVector, RecordsReady, DotReady, NarrowFactors}

abbrev pub sides_equal : ℕ → ℕ → List ℕ → List ℕ → List ℕ → List ℕ → Bool
sides_equal left right a w x u = eqb (dot_with left w x) (dot_with right a u)

abbrev pub outcome : Result ℕ Caught → Answer
outcome (Ok products) = answer 0 0 0 products
outcome (Err C) = answer 12 C.vector C.row C.products

abbrev pub row_answer : List ℕ → List ℕ → Vector → ℕ → ℕ → Answer
row_answer a w V i products =
    let made = products + length V.x.now + length V.u.now + length V.z.now in
    unless (sides_equal V.left (V.right + rows_times V.bias.now V.z.now i) a w V.x.now V.u.now) (answer 12 V.t i made) (answer 0 0 0 made)

abbrev pub bias_vector : Setting → List ℕ → List ℕ
bias_vector G x = take (bias_columns G) x

abbrev pub row_agrees : Setting → List ℕ → List ℕ → List ℕ → List ℕ → List ℕ → ℕ → Bool
row_agrees G a w d x u i =
    sides_equal (offset_of (lift G) x) (offset_of G.bound u + rows_times d (bias_vector G x) i)
    (line_at a (length u) i) (line_at w (length x) i) x u

abbrev pub row_cost : Setting → List ℕ → List ℕ → ℕ
row_cost G x u = bias_columns G + length x + length u

abbrev pub row_steps : Setting → List ℕ → List ℕ → Vector → ℕ → Steps
row_steps G a w V products =
    record {
      count = G.rows;
      holds = row_agrees G a w V.bias.now V.x.now V.u.now;
      failed = λ i. answer 12 V.t i (products + (i + 1) * row_cost G V.x.now V.u.now);
      so_far = λ i. answer 0 0 0 (products + i * row_cost G V.x.now V.u.now);
      other = λ i. suc-ne-zero 11;
      passed = λ i. refl;
    }

pub record VectorMade (G : Setting) (d x u : List ℕ) (shift τ : ℕ) (V : Vector) : Type 0 where
  pub number_is : V.t ≡ τ
  pub x_is : V.x.now ≡ x
  pub u_is : V.u.now ≡ u
  pub bias_is : V.bias.now ≡ d
  pub z_is : V.z.now ≡ bias_vector G x
  pub left_is : V.left ≡ offset_of shift x
  pub right_is : V.right ≡ offset_of G.bound u

pub record VectorRowsReady (G : Setting) (a w : List ℕ) (V : Vector) (products : ℕ) : Type 0 where
  pub z_is : V.z.now ≡ bias_vector G V.x.now
  pub left_is : V.left ≡ offset_of (lift G) V.x.now
  pub right_is : V.right ≡ offset_of G.bound V.u.now
  pub few : products + G.rows * row_cost G V.x.now V.u.now < 2 ^ 32
  pub vector_x : WordVector V.x.now
  pub vector_u : WordVector V.u.now
  pub long_a : G.rows * length V.u.now ≤ length a
  pub long_claims : G.rows * length V.x.now ≤ length w
  pub bias_fits : bias_columns G ≤ length V.x.now
  pub long_bias : record_bytes * (G.rows * bias_columns G) ≤ length V.bias.now
  pub small : (k : ℕ) → k < G.rows * length V.u.now → get_or a k 0 < 2 ^ 16

pub record SidesReady (a w : List ℕ) (V : Vector) (i products : ℕ) : Type 0 where
  pub claims : DotReady w V.x.now
  pub bias : RecordsReady V.bias.now (i * length V.z.now) V.z.now
  pub operands : DotReady a V.u.now
  pub narrow : NarrowFactors a V.u.now (V.right + rows_times V.bias.now V.z.now i)
  pub few : products + length V.x.now + length V.u.now + length V.z.now < 2 ^ 32
