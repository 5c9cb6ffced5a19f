-- The written ticket is accepted by the full check and, with every well-formed list, by the challenge check (W3), and is the only
-- ticket of its operands that the full check accepts (W4).
--
--   size_quotient_of          the quotient of what a claim is made for is at least -2^(v - 1) and below 2^(v - 1)
--   in_range                 the least residue of what a record stands for is in the range of its part
--   ticket_passes            the written ticket passes the reading and range checks
--   written_a, written_b, written_bias, written_quotient, written_remainder, written_sum   what its records stand for, and S + c
-- the quotient of a sum of size up to c, where c and the scale fit
use Rattle.std.specs.Prelude.{ℕ, ◌+◌, ◌-◌, ◌*◌, ◌/◌, ◌%◌, ◌≤◌, ◌<◌, ◌≡◌, ◌↔◌, true, List, leb, ℤ, negsuc, nat_abs, ◌+ℤ◌, ◌-ℤ◌, ◌*ℤ◌, length, get_or}
use Rattle.std.proofs.Common.{mul-le-mul_left, mod-lt, arith, ◌∙◌, le-leb, lt-ltb, ext_get_or}
use Rattle.std.proofs.Math.Nat.{div-add-mod}
use Rattle.std.proofs.Math.Decide.{dec_le}
use Rattle.std.proofs.Math.Path.{sym, ap}
use Rattle.std.proofs.Math.Logic.{⊎_elim}
use Rattle.std.proofs.Math.IntN.{pos, +ℤ_comm, +ℤ-neg_ℤ_cancel}
use Rattle.residue.specs.Rules.{modulus, least_residue, signed_entry}
use Rattle.residue.proofs.Laws.Integers.{positive, negative, equal_of_parts, parts_sum, parts_product, parts_within}
use Rattle.residue.proofs.Laws.Modulus.{modulus_above}
use Rattle.residue.proofs.Laws.Modulus.PartnerModuli.{modulus_positive}
use Rattle.residue.proofs.Laws.Residues.{residue_below, residue_sum, residue_of_residue, entry_of_residue}
use Rattle.residue.proofs.Laws.Residues.ResidueClose.{residue_close}
use Rattle.algebra.proofs.Laws.FloorDivision.{floor_left}
use Rattle.algebra.proofs.Laws.FloorDivision.FloorBetween.{floor_unique}
use Rattle.algebra.proofs.Laws.IntegerSums.{size_sum, size_difference}
use Rattle.algebra.proofs.Laws.MatrixProducts.{matrix_product_cong}
use Rattle.ticket.specs.declared.setting.Setting.{Setting}
use Rattle.ticket.specs.Rules.{reach, half_range, parts, part, records, record_bytes, of_a, of_b, of_bias, of_quotients, of_remainders, bias_bound, bias_columns, Passes, FalseIn, byte_at, value_at, value_in, entry_a, entry_b, entry_bias, quotient, remainder, biased_sum, dividend, due, has_bias}
use Rattle.ticket.proofs.Laws.Differences.{claim_exactly, biased_sum_is, no_bias_entry}
use Rattle.ticket.proofs.Laws.Differences.TicketDecided.{size_entry_a, size_entry_b, size_bias, residue_bias, size_quotient, small_remainder, residue_entry_a, residue_entry_b, residue_quotient, residue_remainder}
use Rattle.ticket.proofs.Laws.Differences.ClaimsTrue.{claims_true}
use Rattle.ticket.proofs.Laws.Layout.{located_at, tests_located, value_in_lem, part_a, part_b, part_bias, part_quotients, part_remainders, range_a, range_b, range_bias, range_quotients, range_remainders, every_part}
use Rattle.ticket.proofs.Laws.Limits.ClampedSmall.{counts, bias_there}
use Rattle.ticket.proofs.Laws.Limits.{with_bias_lem, half_small, half_double}
use Rattle.ticket.proofs.Laws.Limits.BiasSmall.{bias_small}
use Rattle.ticket.proofs.Laws.First.{true_or_false}
use Rattle.ticket.specs.Laws.Passes.{Passed}
use Rattle.ticket.proofs.Laws.Passes.{passed_of, passes_of, record_formed}
use Rattle.ticket.specs.Laws.Tests.{none, one}
use Rattle.challenge.specs.Rules.{Accepted, WellFormed}
use Rattle.soundness.proofs.Laws.Demands.AcceptedExactlyWellFormed.{accepted_exactly_well_formed}
use Rattle.full.specs.Rules.{full_check, full_accepted, FullAccepted}
use Rattle.writer.specs.Rules.{writing, entry_of, sum_for, quotient_of, remainder_of, integers_of, integer_in, ticket_of}
use Rattle.writer.specs.Laws.Answers.{Writable}
use Rattle.writer.proofs.Laws.Claims.{claim_sum, remainder_left}
use Rattle.writer.proofs.Laws.Entries.{limits, size_a, size_b, size_c, no_bias, size_sum_for}
use Rattle.writer.proofs.Laws.Records.{record_read, length_records, length_ticket_of, ticket_record_at, ticket_formed, ticket_value, value_in_ticket}
use Rattle.exactness.proofs.Laws.Full.FullAcceptedTrue.{full_accepted_true, full_accepted_number}
use Rattle.exactness.proofs.Laws.Writer.OutputLong.{writable_of}
pub mod WrittenSum
pub mod WrittenTrue
pub mod WrittenChallengeAccepted
pub mod OnlyTicket

module _ (d half c : ℕ) (above : 2 ≤ d) (fit : c + d - 1 ≤ half * d) where
  quotient_within : (S q : ℤ) (r : ℕ) → nat_abs S ≤ c → r < d → pos d *ℤ q +ℤ pos r ≡ S
      → (negative q ≤ positive q + half) × (positive q < half + negative q)
  quotient_within S q r size l e =
      let bounds = parts_within S c size in
      let same : positive S + d * negative q ≡ d * positive q + r + negative S =
      omega (arith, parts_sum (pos d *ℤ q) (pos r), parts_product (pos d) q, ap positive e, ap negative e) in (
        elim (dec_le (positive q + half + 1) (negative q)) [
          | yes more ↦ absurd (omega (arith, mul-le-mul_left d more))
          | no less ↦ omega arith
        ],
        elim (dec_le (half + negative q) (positive q)) [
          | yes more ↦ absurd (omega (arith, mul-le-mul_left d more))
          | no less ↦ omega arith
        ],
      )

-- two integers that are small enough are equal where their least residues are
equal_small : {x y : ℤ} (c : ℕ) → nat_abs x ≤ c → nat_abs y ≤ c → 2 * c < modulus → least_residue modulus x ≡ least_residue modulus y → x ≡ y
equal_small {x} {y} c small-x small-y room e = residue_close modulus modulus_positive x y (omega (arith, size_difference x y)) e

size_of_parts : (z : ℤ) {c : ℕ} → (negative z ≤ positive z + c) × (positive z < c + negative z) → nat_abs z ≤ c
size_of_parts (pos n) h = omega arith
size_of_parts (negsuc n) h = omega arith

-- equal entries have equal sums
same_sums : (G : Setting) (A A' B B' C C' : ℕ → ℕ → ℤ) (i j : ℕ) → ((k : ℕ) → k < G.inner → A i k ≡ A' i k)
    → ((k : ℕ) → k < G.inner → B k j ≡ B' k j) → C i j ≡ C' i j → biased_sum G A B C i j ≡ biased_sum G A' B' C' i j
same_sums G A A' B B' C C' i j row column bias =
    biased_sum_is G A B C i j
    ∙ cc (matrix_product_cong G.inner A A' B B' i j row column, bias)
    ∙ sym (biased_sum_is G A' B' C' i j)

module _ {G : Setting} {A B C : List ℤ} (w : Writable G A B C) where
  module _ (i j : ℕ) (l : i < G.rows) (m : j < G.columns) where
    pub size_quotient_of : let q = quotient_of G A B C i j in (negative q ≤ positive q + half_range G) × (positive q < half_range G + negative q)
    unfolding quotient_of
    size_quotient_of =
        let S = sum_for G A B C i j in
        let h = floor_left (dividend G S) G.scale (omega (arith, (limits w).numbers.scale)) in
        quotient_within G.scale (half_range G) (reach G + G.rounding) (limits w).numbers.scale.0 (limits w).fitted.sums _
        (quotient_of G A B C i j) h.0 (omega (arith, size_sum S (pos G.rounding), size_sum_for w i j l m)) h.1 h.2

    left : (r : ℕ) × (r < G.scale) × (remainder_of G A B C i j ≡ pos r)
    left = remainder_left G A B C i j (omega (arith, (limits w).numbers.scale))

    -- shifted by half of the quotients' range
    shifted_is : let q = quotient_of G A B C i j in (least_residue modulus q + half_range G) % modulus ≡ positive q + half_range G - negative q
    shifted_is =
        let q = quotient_of G A B C i j in
        let half = half_range G in
        let m = positive q + half - negative q in
        let room : 2 * half < modulus = omega (arith, half_small {G = G} (limits w).numbers, modulus_above) in
        ap (λ n. (least_residue modulus q + n) % modulus) (sym (residue_of_residue modulus modulus_positive half (omega arith)))
        ∙ sym (residue_sum modulus modulus_positive q (pos half))
        ∙ ap (least_residue modulus) (equal_of_parts (q +ℤ pos half) (pos m) (omega (arith, parts_sum q (pos half), size_quotient_of)))
        ∙ residue_of_residue modulus modulus_positive m (omega (arith, size_quotient_of))

  small : (2 * G.bound < modulus) × (2 * bias_bound G < modulus)
  small = (omega (arith, (limits w).numbers.bound, modulus_above), bias_small (limits w).numbers (limits w).fitted)

  -- a number within its bound is the signed entry of its least residue
  entry_range : (bound : ℕ) → 2 * bound < modulus → (z : ℤ) → nat_abs z ≤ bound
      → leb (nat_abs (signed_entry modulus (least_residue modulus z))) bound ≡ true
  entry_range bound few z l = rw (entry_of_residue modulus modulus_positive z (omega arith)) (le-leb (nat_abs z) bound l)

  pub in_range : (n i j : ℕ) → n < length (parts G) → i < (part G n).rows → j < (part G n).columns
      → (part G n).range (least_residue modulus (integer_in G A B C n i j)) ≡ true
  unfolding integers_of integer_in
  in_range =
      every_part G (λ n i j. (part G n).range (least_residue modulus (integer_in G A B C n i j)) ≡ true)
      (λ i j l m. range_a G _ ∙ entry_range _ small.0 _ (size_a w i j l m)) (λ i j l m. range_b G _ ∙ entry_range _ small.0 _ (size_b w i j l m))
      (λ i j l m. range_bias G _ ∙ entry_range _ small.1 _ (size_c w i j l (bias_there G m).1))
      (λ i j l m. let q = quotient_of G A B C i j in
      range_quotients G _ ∙ rw (shifted_is i j l m)
      (lt-ltb (positive q + half_range G - negative q) _ (omega (arith, size_quotient_of i j l m, half_double {G = G} (limits w).numbers))))
      (λ i j l m. let h = left i j l m in
      let kept = residue_of_residue modulus modulus_positive h.0 (omega (arith, h.1, (limits w).numbers.scale, modulus_above)) in
      range_remainders G _ ∙ rw (h.2, kept) (lt-ltb _ _ h.1))

  passed : Passed G (ticket_of G A B C)
  passed =
      record {
        setting = w.setting;
        counts = counts (limits w).sizes;
        numbers = (limits w).numbers;
        fitted = (limits w).fitted;
        long = length_ticket_of G A B C;
        each = λ k l.
            let at = located_at G k l in
            rw (tests_located (ticket_of G A B C) at.2, ticket_value G A B C at.2 l)
            (one (ticket_formed G A B C at.2 l) (one (lt-ltb _ _ (residue_below modulus modulus_positive _))
            (one (in_range at.0 _ _ at.1.within at.2.row_within at.2.column_within) none)));
      }

  pub ticket_passes : Passes G (ticket_of G A B C)
  ticket_passes = passes_of G (ticket_of G A B C) passed

  -- what the records stand for

  pub written_a : (i k : ℕ) → i < G.rows → k < G.inner → entry_a G (ticket_of G A B C) i k ≡ entry_of G.inner A i k
  unfolding integers_of integer_in
  written_a i k l m =
      equal_small G.bound (size_entry_a passed i k l m) (size_a w i k l m) small.0
      (residue_entry_a passed i k l m ∙ value_in_ticket G A B C of_a i k (rw (part_a G).rows_are l) (rw (part_a G).columns_are m))

  pub written_b : (k j : ℕ) → k < G.inner → j < G.columns → entry_b G (ticket_of G A B C) k j ≡ entry_of G.columns B k j
  unfolding integers_of integer_in
  written_b k j l m =
      equal_small G.bound (size_entry_b passed k j l m) (size_b w k j l m) small.0
      (residue_entry_b passed k j l m ∙ value_in_ticket G A B C of_b k j (rw (part_b G).rows_are l) (rw (part_b G).columns_are m))

  module _ (i j : ℕ) (l : i < G.rows) (m : j < G.columns) where
    pub written_bias : entry_bias G (ticket_of G A B C) i j ≡ entry_of (bias_columns G) C i j
    unfolding integers_of integer_in
    written_bias =
        ⊎_elim
        (λ e. let there : j < bias_columns G = omega (arith, (with_bias_lem G e).1) in
        equal_small (bias_bound G) (size_bias passed i j l m) (size_c w i j l m) small.1
        (residue_bias passed i j l there ∙ value_in_ticket G A B C of_bias i j (rw (part_bias G).rows_are l) (rw (part_bias G).columns_are there)))
        (λ e. no_bias_entry G (ticket_of G A B C) i j e ∙ sym (no_bias w e (i * bias_columns G + j)))
        (true_or_false (has_bias G))

    pub written_quotient : quotient G (ticket_of G A B C) i j ≡ quotient_of G A B C i j
    unfolding integers_of integer_in
    written_quotient =
        let is = part_quotients G in
        equal_small (half_range G) (size_quotient passed i j l m) (size_of_parts (quotient_of G A B C i j) (size_quotient_of i j l m))
        (omega (arith, half_small {G = G} (limits w).numbers, modulus_above))
        (residue_quotient passed i j l m ∙ value_in_ticket G A B C of_quotients i j (rw is.rows_are l) (rw is.columns_are m))

    pub written_remainder : remainder G (ticket_of G A B C) i j ≡ remainder_of G A B C i j
    unfolding integers_of integer_in
    written_remainder =
        let is = part_remainders G in
        let h = small_remainder passed i j l m in
        let k = left i j l m in
        equal_small G.scale (rw h.2 (omega (arith, h.1))) (rw k.2 (omega (arith, k.1)))
        (omega (arith, (limits w).numbers.scale, modulus_above))
        (residue_remainder passed i j l m ∙ value_in_ticket G A B C of_remainders i j (rw is.rows_are l) (rw is.columns_are m))

module _ (G : Setting) (A B C : List ℤ) (t : List ℕ) (bytes : (k : ℕ) → get_or t k 0 < 256)
    (passed : Passed G t) (none : (j : ℕ) → FalseIn G t j → ⊥)
    (same_A : (i k : ℕ) → i < G.rows → k < G.inner → entry_a G t i k ≡ entry_of G.inner A i k)
    (same-B : (k j : ℕ) → k < G.inner → j < G.columns → entry_b G t k j ≡ entry_of G.columns B k j)
    (same-C : (i j : ℕ) → i < G.rows → j < G.columns → entry_bias G t i j ≡ entry_of (bias_columns G) C i j) where
  module _ (i j : ℕ) (l : i < G.rows) (m : j < G.columns) where
    same_sum : pos G.scale *ℤ quotient G t i j +ℤ remainder G t i j ≡ dividend G (sum_for G A B C i j)
    same_sum =
        (claim_exactly G t i j (sum_for G A B C i j)).0 (claims_true G t none i j l m
        ∙ same_sums G _ _ _ _ _ _ i j (λ k h. same_A i k l h) (λ k h. same-B k j h m) (same-C i j l m))
