-- All rows for one vector, as the code works through them: a and w are the lists that A and the claims are decoded to, V what all rows of
-- the vector have in common.
--
--   sides_ready               it is so by the lengths and the sizes of the lists
--   line_inside               a row is within its list
--   row_sides                 each row is ready, those before it having passed
--   row_step                  and its answer is that of its step
use Rattle.std.specs.Prelude.{ℕ, ◌+◌, ◌*◌, ◌≤◌, ◌<◌, ◌^◌, ◌≡◌, List, length, get_or, take}
use Rattle.std.proofs.Common.{arith, ap, ◌∙◌, get_or-take, length-take-le}
use Rattle.residue.proofs.Laws.Modulus.{modulus_below}
use Rattle.algebra.specs.Laws.Fills.{line_at}
use Rattle.algebra.proofs.Laws.Fills.{part_of, part_long}
use Rattle.algebra.proofs.Laws.Positions.{row_inside}
use Rattle.ticket.specs.declared.setting.Setting.{Setting}
use Rattle.ticket.specs.declared.Answer.{Answer}
use Rattle.ticket.specs.Rules.{answer, record_bytes, bias_columns}
use Rattle.ticket.specs.Laws.Runs.{step_answer, RunTo}
use Rattle.challenge.specs.declared.rows.Vector.{Vector}
use Rattle.challenge.specs.Laws.Products.{WordVector}
use Rattle.challenge.proofs.Laws.Products.{dot_small, offset_small}
use Rattle.challenge.specs.Laws.Rows.{row_answer, row_cost, row_steps, VectorRowsReady, SidesReady}

pub line_inside : {rows i long : ℕ} (n : ℕ) → i < rows → rows * n ≤ long → i * n + n ≤ long
line_inside n l h = omega (arith, row_inside n l)

pub sides_ready : {a w : List ℕ} {V : Vector} {rows n i products : ℕ} → WordVector V.x.now → WordVector V.u.now → length V.x.now ≤ length w
    → length V.u.now ≤ length a → ((k : ℕ) → k < length V.u.now → get_or a k 0 < 2 ^ 16) → i < rows → n ≤ length V.x.now
    → record_bytes * (rows * n) ≤ length V.bias.now → V.right ≤ 2 ^ 62 → V.z.now ≡ take n V.x.now
    → products + length V.x.now + length V.u.now + n < 2 ^ 32 → SidesReady a w V i products
sides_ready {V = V} {n = n} {i} vector_x vector_u long-w long-a small l fits long-d most z-is few =
    let long : length V.z.now ≡ n = rw z-is (length-take-le n V.x.now fits) in
    record {
      claims = record { vector = vector_x; long = long-w };
      bias =
          record {
            vector =
                record {
                  short = omega (arith, vector_x.short);
                  below = λ j m. rw (z-is, get_or-take n V.x.now j 0 (omega arith)) (vector_x.below j (omega arith));
                };
            long = rw long (omega (arith, row_inside n l));
          };
      operands = record { vector = vector_u; long = long-a };
      narrow = record { small = small; offset_most = omega (arith, dot_small V.bias.now (i * length V.z.now) V.z.now, modulus_below) };
      few = omega arith;
    }

-- lines are as long as the vectors
line_long : {rows i : ℕ} (list x : List ℕ) → i < rows → rows * length x ≤ length list → length (line_at list (length x) i) ≡ length x
line_long {i = i} list x l long = part_long list (i * length x) (length x) (line_inside (length x) l long)

module _ {G : Setting} {a w : List ℕ} {V : Vector} {products : ℕ} (ready : VectorRowsReady G a w V products) where
  bias_long : length V.z.now ≡ bias_columns G
  bias_long = rw ready.z_is (length-take-le (bias_columns G) V.x.now ready.bias_fits)

  module _ {i made : ℕ} (run : RunTo (row_steps G a w V products) i (answer 0 0 0 made)) (l : i < G.rows)
      {r s : List ℕ} (r-is : r ≡ line_at a (length V.u.now) i) (s-is : s ≡ line_at w (length V.x.now) i) where
    -- the products of one row more
    counted : made + length V.x.now + length V.u.now + length V.z.now ≡ products + (i + 1) * row_cost G V.x.now V.u.now
    counted = omega (arith, ap (λ c. c.products) run.answer_is, bias_long)

    pub row_sides : SidesReady r s V i made
    row_sides =
        rw (r-is, s-is)
        (sides_ready ready.vector_x ready.vector_u (omega (arith, line_long w V.x.now l ready.long_claims))
        (omega (arith, line_long a V.u.now l ready.long_a))
        (λ k m. rw (part_of a (i * length V.u.now) (length V.u.now) k 0 m)
        (ready.small (i * length V.u.now + k) (omega (arith, row_inside (length V.u.now) l))))
        l ready.bias_fits ready.long_bias
        (rw ready.right_is (offset_small G.bound (length V.u.now) (λ j. get_or V.u.now j 0))) ready.z_is
        (omega (arith, counted, bias_long, row_inside (row_cost G V.x.now V.u.now) l, ready.few)))

    pub row_step : {c : Answer} → c ≡ row_answer r s V i made → c ≡ step_answer (row_steps G a w V products) i
    row_step e = e ∙ rw (counted, ready.left_is, ready.right_is, r-is, s-is, ready.z_is)
