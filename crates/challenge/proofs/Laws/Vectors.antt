-- All vectors of a list, as the code works through them. x is the list, v its vector τ; y and u are the lists for a vector and its product
-- with B, named before-y and before-u as they were before they were filled.
--
--   vectors_answer           their answer is the verdict
--   line_within              the vector is within the list
--   vector_numbers, vector_is, vector_words   y holds its numbers, and is it; they are of 32 bits
--   matrix_ready             the bytes of B hold its rows
--   product_by               rows of B times a vector are its product with B
--   product_made             u holds that
--   vector_makes             what its rows have in common can be made
--   rows_ready               the rows are ready once y and u are filled
--   vector_answered          the answer of the rows, by what they are decoded to, is that of the vector
use Rattle.std.specs.Prelude.{ℕ, ◌+◌, ◌*◌, ◌%◌, ◌≤◌, ◌<◌, ◌≡◌, refl, List, length, get_or}
use Rattle.std.proofs.Common.{sym, ap, ◌∙◌, ext_get_or}
use native.Mathlib.Omega.{arith}
use Rattle.residue.specs.Rules.{modulus, least_residue}
use Rattle.residue.proofs.Laws.Modulus.{modulus_above, modulus_below}
use Rattle.residue.proofs.Laws.Modulus.PartnerModuli.{modulus_positive}
use Rattle.residue.proofs.Laws.Sums.{sum_cong}
use Rattle.algebra.specs.Laws.Fills.{Filled, line_at}
use Rattle.algebra.proofs.Laws.Fills.{part_of, part_long}
use Rattle.algebra.proofs.Laws.IntegerSums.ResidueDot.{residue_dot}
use Rattle.ticket.specs.declared.setting.Setting.{Setting}
use Rattle.ticket.specs.declared.Answer.{Answer}
use Rattle.ticket.specs.Rules.{of_b, of_bias, bias_columns, entry_b}
use Rattle.ticket.proofs.Laws.Decodes.ClaimsLess.{values_b, values_bias}
use Rattle.ticket.specs.Laws.Layout.{part_bytes}
use Rattle.ticket.specs.Laws.Limits.{clamped}
use Rattle.ticket.proofs.Laws.Limits.ClampedSmall.{bias_columns_most}
use Rattle.ticket.specs.Laws.Passes.{Passed}
use Rattle.ticket.specs.Laws.Runs.{steps_answer, step_answer}
use Rattle.ticket.proofs.Laws.Scans.{scan_cong, scan_by_first}
use Rattle.challenge.specs.Rules.{challenge_at, balanced, product_b, first_row, row_products, vector_products, verdict}
use Rattle.challenge.specs.Laws.Products.{WordVector, Widened, ProductReady, rows_times, dot_of}
use Rattle.challenge.proofs.Laws.Products.{dot_small}
use Rattle.challenge.specs.declared.rows.Vector.{Vector}
use Rattle.challenge.specs.Laws.Rows.{VectorMade, VectorRowsReady, row_steps}
use Rattle.challenge.proofs.Laws.Rows.{line_inside}
use Rattle.challenge.specs.Laws.Sides.{RoomFor, DecodedTo}
use Rattle.challenge.proofs.Laws.Sides.{agrees_balanced}
use Rattle.challenge.specs.Laws.Vectors.{vector_steps, VectorThere, VectorReady}

pub vectors_answer : (G : Setting) (t x : List ℕ) → steps_answer (vector_steps G t x) ≡ verdict G t x
unfolding verdict
vectors_answer G t x = refl

pub product_by : {G : Setting} {t b : List ℕ} → Passed G t → b ≡ part_bytes (clamped G) t of_b → (x y : List ℕ) (τ : ℕ)
    → length y ≡ G.columns → ((j : ℕ) → j < G.columns → get_or y j 0 ≡ challenge_at G x τ j) → {k : ℕ} → k < G.inner → rows_times b y k ≡ product_b G t x τ k
unfolding dot_of product_b
product_by {G} {t} passed b-is x y τ long numbers {k} l =
    rw long
    (ap (λ n. n % modulus) (sum_cong G.columns _ (λ j. least_residue modulus (entry_b G t k j) * challenge_at G x τ j)
    (λ j m. rw ((values_b passed b-is).1 k j l m, numbers j m)))
    ∙ sym (residue_dot modulus modulus_positive G.columns (entry_b G t k) (challenge_at G x τ)))

module _ {G : Setting} {t x : List ℕ} {τ : ℕ} (there : VectorThere G t x τ) where
  abbrev v : List ℕ
  v = line_at x G.columns τ

  vector_inside : τ * G.columns + G.columns ≤ length x
  vector_inside = line_inside G.columns there.within (omega (arith, there.list.list.size))

  vector_long : length v ≡ G.columns
  vector_long = part_long x (τ * G.columns) G.columns vector_inside

  entries : (j : ℕ) → j < G.columns → get_or v j 0 ≡ challenge_at G x τ j
  entries j l = part_of x (τ * G.columns) G.columns j 0 l

  pub line_within : {before-y before-u : List ℕ} → RoomFor G before-y before-u → τ * length before-y + length before-y ≤ length x
  line_within room = rw room.columns vector_inside

  module _ {before-y before-u : List ℕ} (room : RoomFor G before-y before-u) {z : List ℕ} (z-is : z ≡ line_at x (length before-y) τ) where
    line_is : z ≡ v
    line_is = z-is ∙ ap (λ n. line_at x n τ) room.columns

    module _ {y : List ℕ} (widened : Widened z before-y y) where
      pub vector_is : y ≡ v
      vector_is =
          let filled = widened.filled in
          ext_get_or 0 y v (filled.long ∙ room.columns ∙ sym vector_long)
          (λ j l. filled.each j (omega (arith, ap length line_is, vector_long, filled.long, room.columns)) ∙ ap (λ q. get_or q j 0) line_is)

      pub vector_numbers : (j : ℕ) → j < G.columns → get_or y j 0 ≡ challenge_at G x τ j
      vector_numbers j l = ap (λ q. get_or q j 0) vector_is ∙ entries j l

      pub vector_words : WordVector y
      vector_words =
          let same = vector_is ∙ sym line_is in
          rw same (record { short = omega (arith, ap length line_is, vector_long, there.list.passed.counts.sizes); below = widened.words })

      module _ {b : List ℕ} (b-is : b ≡ part_bytes (clamped G) t of_b) where
        pub matrix_ready : ProductReady b (length before-u) y
        matrix_ready =
            rw room.inner (
            record {
              vector = vector_words;
              long = omega (arith, ap (λ n. G.inner * n) (ap length vector_is ∙ vector_long), (values_b there.list.passed b-is).0);
            })

        module _ {u : List ℕ} (made : Filled 0 before-u (length before-u) (rows_times b y) u) where
          pub product_made : (k : ℕ) → k < G.inner → get_or u k 0 ≡ product_b G t x τ k
          product_made k l =
              made.each k (omega (arith, room.inner))
              ∙ product_by there.list.passed b-is x y τ (ap length vector_is ∙ vector_long) vector_numbers l

          product_vector : WordVector u
          product_vector =
              record {
                short = omega (arith, made.long, room.inner, there.list.passed.counts.sizes);
                below = λ k l. rw (made.each k (omega (arith, made.long))) (omega (arith, dot_small b (k * length y) y, modulus_below));
              }

          rooms : RoomFor G y u
          rooms = record { columns = ap length vector_is ∙ vector_long; inner = made.long ∙ room.inner }

          module _ {a w d : List ℕ} {shift : ℕ} (d-is : d ≡ part_bytes (clamped G) t of_bias) (decoded : DecodedTo G t a w shift) where
            abbrev passed : Passed G t
            passed = there.list.passed

            pub vector_makes : WordVector y × WordVector u × (bias_columns G ≤ length y) × (shift ≤ modulus) × (G.bound ≤ modulus)
            vector_makes = (
              vector_words,
              product_vector,
              omega (arith, rooms.columns, bias_columns_most G),
              decoded.lift_below,
              omega (arith, passed.numbers.bound, modulus_above),
            )

            module _ {V : Vector} (vector : VectorMade G d y u shift τ V) {products : ℕ} (ready : VectorReady G t x τ products) where
              pub rows_ready : VectorRowsReady G a w V (products + G.inner * G.columns)
              rows_ready =
                  record {
                    z_is = rw vector.x_is vector.z_is;
                    left_is = rw (vector.x_is, ← decoded.lift_is) vector.left_is;
                    right_is = rw vector.u_is vector.right_is;
                    few = rw (vector.x_is, vector.u_is, rooms.columns, rooms.inner) (omega (arith, ready.few));
                    vector_x = rw vector.x_is vector_words;
                    vector_u = rw vector.u_is product_vector;
                    long_a = rw (vector.u_is, rooms.inner) decoded.entries.long;
                    long_claims = rw (vector.x_is, rooms.columns) decoded.claims.long;
                    bias_fits = rw vector.x_is (omega (arith, rooms.columns, bias_columns_most G));
                    long_bias = rw vector.bias_is (omega (arith, (values_bias passed d-is).0));
                    small = rw (vector.u_is, rooms.inner) decoded.entries.small;
                  }

              pub vector_answered : {r : Answer} → r ≡ steps_answer (row_steps G a w V (products + G.inner * G.columns))
                  → r ≡ step_answer (vector_steps G t x) τ
              unfolding first_row
              vector_answered {r} e =
                  e
                  ∙ rw (vector.x_is, vector.u_is, vector.bias_is, vector.number_is)
                  (scan_cong G.rows _ (balanced G t x τ) _ _
                  (λ i l. agrees_balanced passed decoded d-is x τ y u rooms vector_numbers product_made l)
                  ∙ scan_by_first G.rows (balanced G t x τ) _ _
                  ∙ rw (rooms.columns, rooms.inner, ready.products_are, counted))
                where
                  counted : τ * vector_products G + G.inner * G.columns + G.rows * row_products G ≡ (τ + 1) * vector_products G
                  counted = omega arith
