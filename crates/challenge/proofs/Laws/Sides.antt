-- The two sides of a row by the lists that the ticket is decoded to. x is a challenge list, y a vector of it, u its product with B.
--
--   DecodedTo G t a w s  a holds the entries of A with the bound added, w what the claims put for their sums, lifted; s is the lift
--   room_within, room_front, room_rest   a room whose first n numbers were filled to be a, and then the others to be w, has at least n;
--                      its first n are a, and the others are w
--   decoded_by         what the decoding calls make of a ticket that passes
--   RowDecoded G t i r s  r holds the entries of row i of A with the bound added, s what the claims of that row put for their sums, lifted
--   sides_balanced     the two sides of a row that is decoded so are equal, as the code compares them, exactly when the row is balanced
--   agrees_balanced    the same of row i of all that is decoded
use Rattle.std.specs.Prelude.{ℕ, ◌+◌, ◌-◌, ◌*◌, ◌%◌, ◌≤◌, ◌<◌, ◌≡◌, List, ◌++◌, pos, ◌*ℤ◌, length, get_or, take, drop}
use Rattle.std.proofs.Common.{arith, ◌∙◌, ⊎_elim, append-nil, length-append, length-drop, drop_at, length-take-le, take_all, take_at}
use Rattle.std.proofs.Math.Path.{sym, ap}
use Rattle.std.proofs.Math.Arith.{digits_lt}
use Rattle.std.proofs.Math.IntN.{zero-*ℤ}
use Rattle.std.proofs.Math.Seq.{drop-length, get_or-take, take-length}
use Rattle.residue.specs.Rules.{modulus, least_residue}
use Rattle.residue.proofs.Laws.Modulus.{modulus_above}
use Rattle.residue.proofs.Laws.Modulus.PartnerModuli.{modulus_positive}
use Rattle.residue.proofs.Laws.Residues.{residue_sum}
use Rattle.residue.proofs.Laws.Sums.{sum_cong}
use Rattle.algebra.specs.Rules.{int_sum}
use Rattle.algebra.proofs.Laws.IntegerSums.{int_sum_none, int_sum_zero}
use Rattle.algebra.proofs.Laws.IntegerSums.ResidueDot.{residue_dot}
use Rattle.algebra.specs.Laws.Fills.{Filled}
use Rattle.algebra.proofs.Laws.Fills.{part_of}
use Rattle.ticket.specs.declared.setting.Setting.{Setting}
use Rattle.ticket.specs.Rules.{half_range, of_a, of_bias, of_quotients, of_remainders, bias_columns, entry_a, entry_bias, claim, has_bias}
use Rattle.ticket.specs.Laws.Decodes.{ShiftedList, LiftedList}
use Rattle.ticket.proofs.Laws.Decodes.ClaimsLess.{values_bias, entries_shifted, claims_lifted}
use Rattle.ticket.specs.Laws.Layout.{part_bytes}
use Rattle.ticket.specs.Laws.Limits.{clamped, lift}
use Rattle.ticket.proofs.Laws.Limits.{with_bias_lem, without_bias, lift_made, lift_small}
use Rattle.ticket.proofs.Laws.Limits.ClampedSmall.{bias_columns_most}
use Rattle.ticket.proofs.Laws.Differences.{no_bias_entry}
use Rattle.ticket.proofs.Laws.First.{true_or_false}
use Rattle.ticket.specs.Laws.Passes.{Passed}
use Rattle.challenge.specs.Rules.{challenge_at, balanced, balanced_by, claim_side, operand_side_by, product_b}
use Rattle.challenge.specs.Laws.Products.{dot_of, rows_times, dot_with, offset_of}
use Rattle.challenge.proofs.Laws.Products.{dot_more, side_made}
use Rattle.challenge.specs.Laws.Rows.{bias_vector, sides_equal, row_agrees}
use Rattle.challenge.specs.Laws.Sides.{RoomFor, DecodedTo, RowDecoded}

module _ (room : List ℕ) (n m : ℕ) {k : ℕ} {f : ℕ → ℕ} {a : List ℕ} (fits : n + m ≤ length room) (first : Filled 0 (take n room) k f a) where
  -- the room when its first n numbers are filled
  abbrev once : List ℕ
  once = a ++ drop n room

  long : length a ≡ n
  long = first.long ∙ length-take-le n room (omega arith)

  left : length once - n ≡ length (drop n room)
  left = omega (arith, length-append a (drop n room), long)

  rest_fits : m ≤ length (take (length once - n) (drop n once))
  rest_fits =
      rw (left, drop_at a (drop n room) n long, take-length (drop n room)) (omega (arith, length-drop n room))

  module _ {l : ℕ} {g : ℕ → ℕ} {w : List ℕ} (second : Filled 0 (take (length once - n) (drop n once)) l g w) where
    -- and when the others are
    abbrev both : List ℕ
    both = take n once ++ (w ++ drop (length once - n) (drop n once))

    joined : both ≡ a ++ w
    joined = rw (left, take_at a (drop n room) n long, drop_at a (drop n room) n long, drop-length (drop n room), append-nil w)

    pub room_within : n ≤ length both
    room_within = rw joined (omega (arith, length-append a w, long))

    pub room_front : take (n - 0) (drop 0 both) ≡ a
    room_front = rw joined (take_at a w (n - 0) (omega (arith, long)))

    pub room_rest : take (length both - n) (drop n both) ≡ w
    room_rest = rw (joined, drop_at a w n long) (take_all (length (a ++ w) - n) w (omega (arith, length-append a w, long)))

module _ {G : Setting} {t : List ℕ} (passed : Passed G t) where
  pub decoded_by : (room : List ℕ) {a w b q r : List ℕ} {half shift : ℕ} → let size = G.rows * G.inner in let once = a ++ drop size room in
      size + G.rows * G.columns ≤ length room
      → b ≡ part_bytes (clamped G) t of_a → q ≡ part_bytes (clamped G) t of_quotients → r ≡ part_bytes (clamped G) t of_remainders
      → half ≡ half_range (clamped G) → ShiftedList b G.bound (take size room) a
      → LiftedList q r half G.scale (take (length once - size) (drop size once)) w
      → shift ≡ half * (clamped G).scale + G.rounding → DecodedTo G t a w shift
  decoded_by room fits b-is q-is r-is half_is entries claims Shift-is =
      let made = lift_made passed.counts.sizes passed.numbers passed.fitted half_is Shift-is in
      record {
        entries = entries_shifted passed b-is (omega (arith, length-take-le (G.rows * G.inner) room (omega arith))) entries;
        claims = claims_lifted passed q-is r-is half_is (rest_fits room _ _ fits entries) claims;
        lift_is = made.0;
        lift_below = omega (arith, made.1);
      }

  -- the lists y and u are a vector and the numbers f that its row takes for its product with B, r and s what row i of A and of the claims are
  -- decoded to
  module _ {d : List ℕ} (d-is : d ≡ part_bytes (clamped G) t of_bias) (x : List ℕ) (τ : ℕ) (y u : List ℕ) (f : ℕ → ℕ) (room : RoomFor G y u)
      (vector : (j : ℕ) → j < G.columns → get_or y j 0 ≡ challenge_at G x τ j) (product : (k : ℕ) → k < G.inner → get_or u k 0 ≡ f k)
      {i : ℕ} (row : i < G.rows) {r s : List ℕ} (decoded : RowDecoded G t i r s) where
    claims_by : dot_with (offset_of (lift G) y) s y ≡ claim_side G t x τ i
    unfolding claim_side
    claims_by =
        side_made (lift G) G.columns (claim G t i) (challenge_at G x τ) s y
        (omega (arith, lift_small passed.numbers passed.fitted)) room.columns vector decoded.claims

    bias_long : length (bias_vector G y) ≡ bias_columns G
    bias_long = length-take-le (bias_columns G) y (omega (arith, room.columns, bias_columns_most G))

    -- where there is no bias, its entries are 0
    bias_sum : int_sum (bias_columns G) (λ j. entry_bias G t i j *ℤ pos (challenge_at G x τ j))
        ≡ int_sum G.columns (λ j. entry_bias G t i j *ℤ pos (challenge_at G x τ j))
    bias_sum =
        ⊎_elim
        (λ e. ap (λ n. int_sum n (λ j. entry_bias G t i j *ℤ pos (challenge_at G x τ j))) (with_bias_lem G e).1)
        (λ e. ap (λ n. int_sum n (λ j. entry_bias G t i j *ℤ pos (challenge_at G x τ j))) (without_bias G e).1
        ∙ int_sum_none _
        ∙ sym (int_sum_zero G.columns _ (λ j l. rw (no_bias_entry G t i j e) (zero-*ℤ (pos (challenge_at G x τ j))))))
        (true_or_false (has_bias G))

    -- the row of the bias, times the vector
    bias_by : rows_times d (bias_vector G y) i ≡ least_residue modulus (int_sum G.columns (λ j. entry_bias G t i j *ℤ pos (challenge_at G x τ j)))
    unfolding dot_of
    bias_by =
        rw (bias_long)
        (ap (λ n. n % modulus) (sum_cong (bias_columns G) _ (λ j. least_residue modulus (entry_bias G t i j) * challenge_at G x τ j)
        (λ j m. rw ((values_bias passed d-is).1 i j row m, get_or-take (bias_columns G) y j 0 m, vector j (omega (arith, bias_columns_most G)))))
        ∙ sym (residue_dot modulus modulus_positive (bias_columns G) (entry_bias G t i) (challenge_at G x τ))
        ∙ ap (least_residue modulus) bias_sum)

    operands_by : dot_with (offset_of G.bound u + rows_times d (bias_vector G y) i) r u ≡ operand_side_by G t x τ f i
    unfolding operand_side_by
    operands_by =
        dot_more (offset_of G.bound u) (rows_times d (bias_vector G y) i) r u
        ∙ rw (
          side_made G.bound G.inner (entry_a G t i) f r u (omega (arith, passed.numbers.bound, modulus_above)) room.inner product
              decoded.entries.entry,
          bias_by,
        ) (sym (residue_sum modulus modulus_positive _ _))

    pub sides_balanced : sides_equal (offset_of (lift G) y) (offset_of G.bound u + rows_times d (bias_vector G y) i) r s y u
        ≡ balanced_by G t x τ f i
    unfolding balanced_by
    sides_balanced = rw (claims_by, operands_by)

  pub agrees_balanced : {a w d : List ℕ} {shift : ℕ} → DecodedTo G t a w shift → d ≡ part_bytes (clamped G) t of_bias → (x : List ℕ) (τ : ℕ)
      (y u : List ℕ) → RoomFor G y u → ((j : ℕ) → j < G.columns → get_or y j 0 ≡ challenge_at G x τ j)
      → ((k : ℕ) → k < G.inner → get_or u k 0 ≡ product_b G t x τ k) → {i : ℕ} → i < G.rows → row_agrees G a w d y u i ≡ balanced G t x τ i
  agrees_balanced {a} {w} decoded d-is x τ y u room vector product {i} row =
      sides_balanced d-is x τ y u (product_b G t x τ) room vector product row
      (record {
        entries =
            record {
              entry = λ k l. rw (room.inner, part_of a (i * G.inner) G.inner k 0 l) (decoded.entries.entry i k row l);
              small = λ k l. rw (room.inner, part_of a (i * G.inner) G.inner k 0 l) (decoded.entries.small (i * G.inner + k) (digits_lt row l));
            };
        claims = λ j l. rw (room.columns, part_of w (i * G.columns) G.columns j 0 l) (decoded.claims.each i j row l);
      })
