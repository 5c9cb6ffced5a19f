-- One row by itself, as the code works through it. x is a challenge list; y is a vector of it, also taken as a list of one vector, and u is what
-- its rows take for its product with B.
--
--   LineReady G t y u i  so can row i of a vector, u having the length of its product with B
--   entries_cut, quotients_cut, remainders_cut   the bytes of the row are within those of its part
--   row_decoded        what is decoded
--   bias_inside, single_sides   then the two sides can be compared
--   single_balanced    and are equal exactly when the row is balanced
--   balanced_cong      whether a row is balanced depends on the numbers of its vector, and of what it takes for the product
--   product_same, product_cong   so do the product, and u, made anew at row 0
--   listed_long, listed_at, filled_listed   a list by its elements; a list of which the first elements are filled so
--   line_matrix, product_first, product_later   the product can be made; u as the code makes it
--   line_numbers       the numbers of the vector, widened, are those of the list
--   row_ready, row_checked, row_refused, row_beyond   the answer of a row by the tests, and by whether there is one
--   product_kept, balanced_kept   with u as its rows keep it, a row is balanced by u exactly when it is
-- decoding a row
use Rattle.std.specs.Prelude.{ℕ, zero, suc, ◌+◌, ◌-◌, ◌*◌, ◌%◌, ◌^◌, ◌≤◌, ◌<◌, ◌≡◌, refl, Bool, true, false, ◌&&◌, ◌⊎◌, List, [], ◌∷◌, ◌++◌, eqb, ltb, ◌*ℤ◌, take, drop, Result, Ok, Err, is_ok}
use Rattle.std.proofs.Math.Decide.{ℕ_discrete, dec_lt}
use Rattle.std.proofs.Math.Nat.{mod-eq_of_lt}
use Rattle.std.proofs.Common.{arith, ◌∙◌, ⊎_elim, length-append, length-drop, ext_get_or, get_or-append-add, get_or-drop, get_or-take}
use Rattle.std.proofs.Math.Path.{sym, ap}
use Rattle.std.proofs.Math.Bool.{and-false}
use borrow.Author.Tests.{eq-eqb, ne_eqb, lt-ltb, le-ltb}
use Rattle.std.proofs.Math.IntN.{pos}
use Rattle.std.proofs.Math.ListN.{length, get_or, get_or-append}
use Rattle.residue.specs.Rules.{modulus, least_residue}
use Rattle.residue.proofs.Laws.Modulo.{mod_mul, mod_mul_left}
use Rattle.residue.proofs.Laws.Modulus.{modulus_below}
use Rattle.residue.proofs.Laws.Modulus.PartnerModuli.{modulus_positive}
use Rattle.residue.proofs.Laws.Residues.{residue_below, residue_sum}
use Rattle.residue.proofs.Laws.Sums.{sum_mod_cong}
use Rattle.algebra.specs.Rules.{int_sum}
use Rattle.algebra.specs.Laws.Fills.{Filled, line_at}
use Rattle.algebra.proofs.Laws.IntegerSums.{int_sum_cong}
use Rattle.algebra.proofs.Laws.IntegerSums.ResidueDot.{residue_dot}
use Rattle.algebra.proofs.Laws.Positions.{row_inside}
use Rattle.ticket.specs.declared.setting.Setting.{Setting}
use Rattle.ticket.specs.declared.Answer.{Answer}
use Rattle.ticket.specs.Rules.{unless, answer, refusal, reading, most_inner, record_bytes, half_range, of_a, of_b, of_bias, of_quotients, of_remainders, bias_columns, entry_a, entry_b, entry_bias, claim}
use Rattle.ticket.proofs.Laws.Answers.{after_zero}
use Rattle.ticket.specs.Laws.Decodes.{ShiftedList, LiftedList}
use Rattle.ticket.proofs.Laws.Decodes.{decodable}
use Rattle.ticket.proofs.Laws.Decodes.ClaimsLess.{row_shifted, row_lifted, values_b, values_bias}
use Rattle.ticket.specs.Laws.Layout.{part_bytes}
use Rattle.ticket.proofs.Laws.Layout.{parts_are}
use Rattle.ticket.specs.Laws.Limits.{clamped}
use Rattle.ticket.proofs.Laws.Limits.ClampedSmall.{bias_columns_most}
use Rattle.ticket.proofs.Laws.Limits.{lift_made}
use Rattle.ticket.proofs.Laws.Passes.{passed_of}
use Rattle.challenge.specs.declared.rows.Caught.{Caught}
use Rattle.challenge.specs.declared.rows.Vector.{Vector}
use Rattle.challenge.specs.declared.single.RowAnswer.{RowAnswer}
use Rattle.challenge.specs.Rules.{challenge_at, list_reading, testing, product_b, claim_side, operand_side_by, balanced_by, balanced, listed, product_at, balanced_at, row_made, no_row, row_there, row_check}
use Rattle.challenge.proofs.Laws.Checks.{rows_can}
use Rattle.challenge.specs.Laws.Products.{WordVector, Widened, ProductReady, rows_times, offset_of}
use Rattle.challenge.proofs.Laws.Products.{dot_small, offset_small}
use Rattle.challenge.specs.Laws.Rows.{outcome, VectorMade, SidesReady, row_answer}
use Rattle.challenge.proofs.Laws.Rows.{sides_ready}
use Rattle.challenge.specs.Laws.Sides.{RoomFor, RowDecoded}
use Rattle.challenge.proofs.Laws.Sides.{sides_balanced}
use Rattle.challenge.proofs.Laws.Vectors.{vector_numbers, vector_words, product_by}
use Rattle.challenge.specs.Laws.Single.{RowReady, LineReady, DecodeRowReady}
pub mod BalancedReduced
pub mod RowMadeLem

module _ {G : Setting} {t : List ℕ} {half i m n : ℕ} (ready : DecodeRowReady G t half i m n) where
  pub entries_cut : {b : List ℕ} → b ≡ part_bytes (clamped G) t of_a → i * (record_bytes * G.inner) + record_bytes * G.inner ≤ length b
  entries_cut b-is = omega (arith, (decodable ready.passed of_a b-is).0, (parts_are G).size_a, row_inside G.inner ready.row)

  pub quotients_cut : {q : List ℕ} → q ≡ part_bytes (clamped G) t of_quotients
      → i * (record_bytes * G.columns) + record_bytes * G.columns ≤ length q
  quotients_cut q-is =
      omega (arith, (decodable ready.passed of_quotients q-is).0, (parts_are G).size_quotients, row_inside G.columns ready.row)

  pub remainders_cut : {r : List ℕ} → r ≡ part_bytes (clamped G) t of_remainders
      → i * (record_bytes * G.columns) + record_bytes * G.columns ≤ length r
  remainders_cut r-is =
      omega (arith, (decodable ready.passed of_remainders r-is).0, (parts_are G).size_remainders, row_inside G.columns ready.row)

  pub row_decoded : {b q r b' q' r' room-a room-w a w : List ℕ} → b ≡ part_bytes (clamped G) t of_a → q ≡ part_bytes (clamped G) t of_quotients
      → r ≡ part_bytes (clamped G) t of_remainders → b' ≡ line_at b (record_bytes * G.inner) i → q' ≡ line_at q (record_bytes * G.columns) i
      → r' ≡ line_at r (record_bytes * G.columns) i → length room-a ≡ m → length room-w ≡ n
      → ShiftedList b' G.bound room-a a → LiftedList q' r' half G.scale room-w w → RowDecoded G t i a w
  row_decoded b-is q-is r-is b'-is q'-is r'-is long-a long-w entries claims =
      record {
        entries = row_shifted ready.passed b-is ready.row b'-is (omega (arith, ready.inner)) entries;
        claims = row_lifted ready.passed q-is r-is ready.half_is ready.row q'-is r'-is (omega (arith, ready.columns)) claims;
      }

pub bias_inside : {G : Setting} {t y u : List ℕ} {i : ℕ} → LineReady G t y u i → bias_columns G ≤ length y
bias_inside {G} ready = omega (arith, ready.room.columns, bias_columns_most G)

module _ {G : Setting} {t y u : List ℕ} {i : ℕ} (ready : LineReady G t y u i) (words : WordVector u) {a w d : List ℕ} (decoded : RowDecoded G t i a w)
    (d-is : d ≡ part_bytes (clamped G) t of_bias) {shift : ℕ} {V : Vector} (vector : VectorMade G d y u shift 0 V) where
  pub single_sides : G.inner ≤ length a → G.columns ≤ length w → SidesReady a w V i 0
  single_sides long-a long-w =
      let sizes = ready.passed.counts.sizes in
      let inside : bias_columns G ≤ length y = bias_inside ready in
      sides_ready {n = bias_columns G} (rw vector.x_is ready.vector) (rw vector.u_is words) (rw vector.x_is (omega (arith, ready.room.columns)))
      (rw vector.u_is (omega (arith, ready.room.inner)))
      (rw vector.u_is (λ k l. decoded.entries.small k (omega (arith, ready.room.inner)))) ready.row (rw vector.x_is inside)
      (rw vector.bias_is (omega (arith, (values_bias ready.passed d-is).0)))
      (rw vector.right_is (offset_small G.bound (length u) (λ j. get_or u j 0))) (rw vector.x_is vector.z_is)
      (rw (vector.x_is, vector.u_is) (omega (arith, ready.room.columns, ready.room.inner, inside)))

  pub single_balanced : {half : ℕ} → half ≡ half_range (clamped G) → shift ≡ half * (clamped G).scale + G.rounding
      → (c : Result ℕ Caught) → outcome c ≡ row_answer a w V i 0 → is_ok c ≡ balanced_by G t y 0 (λ k. get_or u k 0) i
  single_balanced half_is Shift-is c c-is =
      let passed = ready.passed in
      ok_outcome c _ _ i _ c-is
      ∙ rw (
        vector.left_is,
        (lift_made passed.counts.sizes passed.numbers passed.fitted half_is Shift-is).0,
        vector.right_is,
        vector.bias_is,
        vector.z_is,
        vector.x_is,
        vector.u_is,
      )
      (sides_balanced passed d-is y 0 y u (λ k. get_or u k 0) ready.room
      (λ j l. ap (λ k. get_or y k 0) (omega arith)) (λ k l. refl) ready.row decoded)
    where
      ok_outcome : (c : Result ℕ Caught) (b : Bool) (τ i m : ℕ) → outcome c ≡ unless b (answer 12 τ i m) (answer 0 0 0 m) → is_ok c ≡ b
      ok_outcome (Ok n) true τ i m e = refl
      ok_outcome (Ok n) false τ i m e = absurd (omega (arith, ap (λ a. a.number) e))
      ok_outcome (Err C) true τ i m e = absurd (omega (arith, ap (λ a. a.number) e))
      ok_outcome (Err C) false τ i m e = refl

listed_cong : (n : ℕ) (f g : ℕ → ℕ) → ((k : ℕ) → f k ≡ g k) → listed n f ≡ listed n g
unfolding listed
listed_cong zero f g h = refl
listed_cong (suc n) f g h = rw (listed_cong n f g h, h n)

pub listed_long : (n : ℕ) (f : ℕ → ℕ) → length (listed n f) ≡ n
unfolding listed
listed_long zero f = refl
listed_long (suc n) f = omega (arith, length-append (listed n f) (f n ∷ []), listed_long n f)

pub listed_at : (n : ℕ) (f : ℕ → ℕ) (k : ℕ) → k < n → get_or (listed n f) k 0 ≡ f k
unfolding listed
listed_at zero f k l = absurd (omega arith)
listed_at (suc n) f k l =
    elim (ℕ_discrete k n) [
      | yes e ↦
          let at : k ≡ length (listed n f) + 0 = omega (arith, listed_long n f) in
          ap (λ m. get_or (listed n f ++ (f n ∷ [])) m 0) at ∙ get_or-append-add (listed n f) (f n ∷ []) 0 0 ∙ ap f (sym e)
      | no d ↦ get_or-append (listed n f) (f n ∷ []) 0 k (omega (arith, listed_long n f)) ∙ listed_at n f k (omega arith)
    ]

pub filled_listed : {n : ℕ} {before list : List ℕ} {f : ℕ → ℕ} → n ≤ length before → Filled 0 before n f list → list ≡ listed n f ++ drop n before
filled_listed {n} {before} {list} {f} fits filled =
    ext_get_or 0 list (listed n f ++ drop n before)
    (filled.long ∙ omega (arith, length-append (listed n f) (drop n before), listed_long n f, length-drop n before))
    (λ k l. elim (dec_lt k n) [
      | yes m ↦ filled.each k m ∙ sym (get_or-append (listed n f) (drop n before) 0 k (omega (arith, listed_long n f)) ∙ listed_at n f k m)
      | no m ↦
          let at : k ≡ length (listed n f) + (k - n) = omega (arith, listed_long n f) in
          let place : n + (k - n) ≡ k = omega arith in
          filled.rest k (omega arith)
          ∙ sym (ap (λ q. get_or (listed n f ++ drop n before) q 0) at ∙ get_or-append-add (listed n f) (drop n before) (k - n) 0
          ∙ get_or-drop n before (k - n) 0 ∙ ap (λ q. get_or before q 0) place)
    ])

module _ (G : Setting) (t x y : List ℕ) (τ σ : ℕ) (same : (j : ℕ) → j < G.columns → challenge_at G x τ j ≡ challenge_at G y σ j) where
  pub balanced_cong : (f g : ℕ → ℕ) → ((k : ℕ) → k < G.inner → f k ≡ g k) → (i : ℕ) → balanced_by G t x τ f i ≡ balanced_by G t y σ g i
  unfolding balanced_by claim_side operand_side_by
  balanced_cong f g alike i =
      rw (
        int_sum_cong G.columns (λ j. claim G t i j *ℤ pos (challenge_at G x τ j)) (λ j. claim G t i j *ℤ pos (challenge_at G y σ j))
            (λ j l. ap (λ n. claim G t i j *ℤ pos n) (same j l)),
        int_sum_cong G.columns (λ j. entry_bias G t i j *ℤ pos (challenge_at G x τ j)) (λ j. entry_bias G t i j *ℤ pos (challenge_at G y σ j))
            (λ j l. ap (λ n. entry_bias G t i j *ℤ pos n) (same j l)),
        int_sum_cong G.inner (λ k. entry_a G t i k *ℤ pos (f k)) (λ k. entry_a G t i k *ℤ pos (g k)) (λ k l. ap (λ n. entry_a G t i k *ℤ pos n) (alike k l)),
      )

  pub product_same : (k : ℕ) → product_b G t x τ k ≡ product_b G t y σ k
  unfolding product_b
  product_same k =
      ap (least_residue modulus) (int_sum_cong G.columns _ _ (λ j l. ap (λ n. entry_b G t k j *ℤ pos n) (same j l)))

  pub product_cong : (i : ℕ) (u : List ℕ) → product_at G t x τ i u ≡ product_at G t y σ i u
  unfolding product_at
  product_cong i u = rw (listed_cong G.inner (product_b G t x τ) (product_b G t y σ) product_same)

module _ {G : Setting} {t y u : List ℕ} {i : ℕ} (ready : LineReady G t y u i) {b : List ℕ} (b-is : b ≡ part_bytes (clamped G) t of_b) where
  pub line_matrix : ProductReady b (length u) y
  line_matrix =
      record {
        vector = ready.vector;
        long = omega (arith, ap (λ n. n * length y) ready.room.inner, ap (λ n. G.inner * n) ready.room.columns, (values_b ready.passed b-is).0);
      }

  pub product_first : {wide before made : List ℕ} → Filled 0 u (length u) (rows_times b y) wide → G.inner ≤ length before
      → Filled 0 before (length wide) (λ k. get_or wide k 0 % 2 ^ 32) made → i ≡ 0 → made ≡ product_at G t y 0 i before
  unfolding product_at
  product_first {wide} {before} {made} multiplied fits filled first =
      let long : length wide ≡ G.inner = multiplied.long ∙ ready.room.inner in
      rw first (filled_listed fits (record {
        long = filled.long;
        each = λ k l. filled.each k (omega arith) ∙ number k l;
        rest = λ k l. filled.rest k (omega arith);
      }))
    where
      number : (k : ℕ) → k < G.inner → get_or wide k 0 % 2 ^ 32 ≡ product_b G t y 0 k
      number k l =
          let is : get_or wide k 0 ≡ rows_times b y k = multiplied.each k (omega (arith, ready.room.inner)) in
          mod-eq_of_lt (rw is (omega (arith, dot_small b (k * length y) y, modulus_below)))
          ∙ is ∙ product_by ready.passed b-is y y 0 ready.room.columns (λ j m. ap (λ q. get_or y q 0) (omega arith)) l

pub product_later : (G : Setting) (t x : List ℕ) (τ : ℕ) {i : ℕ} (u : List ℕ) → (i ≡ 0 → ⊥) → u ≡ product_at G t x τ i u
unfolding product_at
product_later G t x τ {i} u d = sym (rw (ne_eqb i 0 d))

module _ {G : Setting} {t x : List ℕ} {τ i : ℕ} (ready : RowReady G t x τ i) {before-y before-u : List ℕ} (room : RoomFor G before-y before-u)
    {z : List ℕ} (z-is : z ≡ line_at x (length before-y) τ) {y : List ℕ} (widened : Widened z before-y y) where
  pub line_numbers : (j : ℕ) → j < G.columns → get_or y j 0 ≡ challenge_at G x τ j
  line_numbers = vector_numbers ready.vector room z-is widened

module _ (G : Setting) (t x : List ℕ) (τ i : ℕ) {a : Answer} (a-is : a ≡ testing G t x) where
  module _ (passed : a.number ≡ 0) (vector : τ < G.vectors) (row : i < G.rows) where
    pub row_ready : RowReady G t x τ i
    row_ready =
        let both = (after_zero (reading G t) (list_reading G x)).0 (sym (ap (λ b. b.number) a-is) ∙ passed) in
        record { vector = record { list = rows_can (passed_of G t both.0) refl both.1; within = vector }; row = row }

    pub row_checked : (u : List ℕ) {r : RowAnswer} → r ≡ row_made G t x τ i u → r ≡ row_check G t x τ i u
    unfolding row_check
    row_checked u r-is =
        r-is ∙ sym (rw (eq-eqb (testing G t x).number 0 (sym (ap (λ b. b.number) a-is) ∙ passed), lt-ltb τ G.vectors vector, lt-ltb i G.rows row))

  -- no row is made where a test fails, or there is no such vector or row
  not_made : (u : List ℕ) → (eqb (testing G t x).number 0 && row_there G τ i) ≡ false → {r : RowAnswer} → r ≡ no_row a u → r ≡ row_check G t x τ i u
  unfolding row_check
  not_made u e r-is = r-is ∙ sym (rw (e, a-is))

  pub row_refused : (u : List ℕ) → (a.number ≡ 0 → ⊥) → {r : RowAnswer} → r ≡ no_row a u → r ≡ row_check G t x τ i u
  row_refused u d = not_made u (rw (ne_eqb (testing G t x).number 0 (λ e. d (ap (λ b. b.number) a-is ∙ e))))

  pub row_beyond : (u : List ℕ) → (G.vectors ≤ τ) ⊎ (G.rows ≤ i) → {r : RowAnswer} → r ≡ no_row a u → r ≡ row_check G t x τ i u
  row_beyond u beyond r-is =
      ⊎_elim
      (λ l. not_made u (rw (le-ltb τ G.vectors l) (and-false (eqb (testing G t x).number 0))) r-is)
      (λ l. not_made u (rw (le-ltb i G.rows l, and-false (ltb τ G.vectors)) (and-false (eqb (testing G t x).number 0))) r-is)
      beyond

product_below : (G : Setting) (t x : List ℕ) (τ k : ℕ) → product_b G t x τ k < modulus
unfolding product_b
product_below G t x τ k = residue_below modulus modulus_positive _

product_anew : (G : Setting) (t x : List ℕ) (τ : ℕ) (u : List ℕ) (k : ℕ) → k < G.inner → get_or (product_at G t x τ 0 u) k 0 ≡ product_b G t x τ k
unfolding product_at
product_anew G t x τ u k l =
    get_or-append (listed G.inner (product_b G t x τ)) (drop G.inner u) 0 k (omega (arith, listed_long G.inner (product_b G t x τ)))
    ∙ listed_at G.inner (product_b G t x τ) k l

module _ (G : Setting) (t x : List ℕ) (τ i : ℕ) (u : List ℕ) (kept : 0 < i → (k : ℕ) → k < G.inner → get_or u k 0 ≡ product_b G t x τ k) where
  pub product_kept : (k : ℕ) → k < G.inner → get_or (product_at G t x τ i u) k 0 ≡ product_b G t x τ k
  product_kept k l =
      elim (ℕ_discrete i 0) [
        | yes e ↦ rw e (product_anew G t x τ u k l)
        | no d ↦ ap (λ l. get_or l k 0) (sym (product_later G t x τ u d)) ∙ kept (omega arith) k l
      ]

  pub balanced_kept : balanced_at G t x τ i u ≡ balanced G t x τ i
  unfolding balanced_at
  balanced_kept =
      balanced_cong G t x x τ τ (λ j l. refl) (λ k. get_or (product_at G t x τ i u) k 0 % modulus) (product_b G t x τ)
      (λ k l. ap (λ n. n % modulus) (product_kept k l) ∙ mod-eq_of_lt (product_below G t x τ k)) i
