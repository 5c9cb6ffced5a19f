-- What the records of a ticket that passes are decoded to, and what that stands for.
--
--   filled_to             a list filled as far as to k, where that is n
--   narrow_bits           the number of a shifted value has 16 bits
--   shifted_entry         a value with at least its entry's size added is that entry, shifted
--   negated_by            it by a difference that wraps
--   negated_word_lem          the negative of the entry of a least residue, modulo 2^32
--   decodable             how many bytes the code takes for a part of a ticket that passes, and which values
--   decodable_row         the same of one row of a part
--   SumClaims G t y, claims_less   y holds what the claims put for the exact sums, the bias taken off, lifted modulo 2^32
-- what the calls give, of any bytes
use Rattle.std.specs.Prelude.{◌≡◌, ℕ, suc, ◌+◌, ◌-◌, ◌*◌, ◌/◌, ◌%◌, ◌^◌, ◌<◌, ◌≤◌, true, false, List, length, ℤ, pos, negsuc, ◌+ℤ◌, ◌-ℤ◌, ◌*ℤ◌, FitsSigned, slice_index, slice_index_or, unsigned_abs}
use Rattle.std.proofs.Math.Decide.{dec_le}
use Rattle.std.proofs.Common.{mod-lt, arith, ◌∙◌, ⊎_elim, lit<}
use Rattle.std.proofs.Math.Nat.{mod-eq_of_lt, mul-le-mul_left, mul-le-mul_right}
use Rattle.std.proofs.Math.Path.{sym, ap}
use Rattle.std.proofs.Math.Arith.{digits_lt}
use Rattle.std.specs.Int.{w16}
use Rattle.residue.specs.Rules.{modulus, least_residue, signed_entry}
use Rattle.residue.proofs.Laws.Integers.{positive, negative, difference_of_naturals, equal_of_parts, parts_sum, parts_difference, parts_product, parts_within}
use Rattle.residue.specs.Laws.Modulo.{carried_sum}
use Rattle.residue.proofs.Laws.Modulo.CarriedSumLem.{carried_sum_lem}
use Rattle.residue.proofs.Laws.Modulo.{carried_low}
use Rattle.residue.proofs.Laws.Modulo.CarriedHigh.{carried_high}
use Rattle.residue.proofs.Laws.Modulus.PartnerModuli.{modulus_positive, modulus_odd}
use Rattle.residue.proofs.Laws.Modulus.{modulus_above, modulus_below}
use Rattle.residue.proofs.Laws.Residues.{entry_low, entry_high, entry_small, residue_of_natural, residue_of_residue, residue_shift, residue_sum}
use Rattle.algebra.specs.Laws.Fills.{Filled, line_at}
use Rattle.algebra.proofs.Laws.Fills.{part_of, part_long}
use Rattle.algebra.proofs.Laws.Positions.{by_rows, row_inside}
use Rattle.ticket.specs.declared.setting.Setting.{Setting}
use Rattle.ticket.specs.Rules.{half_range, parts, part, part_size, of_a, of_b, of_bias, of_quotients, of_remainders, bias_columns, record_bytes, byte_at, value_at, value_in, shifted_quotient, entry_a, entry_b, entry_bias, quotient, remainder, claim, has_bias}
use Rattle.ticket.proofs.Laws.First.{true_or_false}
use Rattle.ticket.specs.Laws.Limits.{lift, clamped}
use Rattle.ticket.proofs.Laws.Limits.{with_bias_lem, without_bias, half_small, clamped_same}
use Rattle.ticket.specs.Laws.Layout.{part_bytes}
use Rattle.ticket.proofs.Laws.Layout.{part_bytes_long, value_of_part, value_in_lem}
use Rattle.ticket.specs.Laws.Passes.{Passed}
use Rattle.ticket.proofs.Laws.Passes.{valid}
use Rattle.ticket.proofs.Laws.Differences.{bias_entry, no_bias_entry}
use Rattle.ticket.proofs.Laws.Differences.TicketDecided.{residue_bias, size_entry_a, size_entry_b, shifted_below, remainder_below, residue_entry_b}
use Rattle.ticket.specs.Laws.Lifts.{Lifted}
use Rattle.ticket.specs.Laws.Decodes.{narrow_shift, narrowed, ShiftedList, NarrowList, LiftedList, negated_word, LessList, ShiftedEntries, ShiftedRow, LiftedRow, LiftedClaims}
pub mod ClaimsLess

pub filled_to : {A : Type 0} {d : A} {before list : List A} {f : ℕ → A} {k n : ℕ} → k ≡ n → Filled d before k f list → Filled d before n f list
filled_to e filled = rw (← e) filled

pub narrow_bits : (shifted : ℕ) → FitsSigned w16 (narrowed shifted)
narrow_bits shifted =
    from_parts (narrowed shifted) (shifted % 65_536) (difference_of_naturals (shifted % 65_536) narrow_shift) (omega arith)
  where
    from_parts : (z : ℤ) (n : ℕ) → positive z + narrow_shift ≡ n + negative z → n < 2 * narrow_shift → FitsSigned w16 z
    from_parts (pos k) n e l = record { sfits = omega arith }
    from_parts (negsuc k) n e l = record { sfits = omega arith }

module _ (p : ℕ) (odd : p % 2 ≡ 1) (few : p < 2 ^ 31) (s v : ℕ) (most : s ≤ (p - 1) / 2) (least : v < p)
    (size : unsigned_abs (signed_entry p v) ≤ s) where
  pub shifted_entry : pos (carried_sum p v s) ≡ signed_entry p v +ℤ pos s
  shifted_entry =
      let above : 0 < p = omega arith in
      elim (dec_le v ((p - 1) / 2)) [
        | yes low ↦ ap pos (carried_low p odd few v s (omega arith) (omega arith)) ∙ ap (λ z. z +ℤ pos s) (sym (entry_low p above v low))
        | no high ↦
            let is : signed_entry p v ≡ negsuc (p - suc v) = entry_high p above v (omega arith) least in
            let near : suc (p - suc v) ≤ s = rw is at size in
            ap pos (carried_high p odd few v s (omega arith) least (omega arith) (omega arith))
            ∙ equal_of_parts (pos (v + s - p)) (negsuc (p - suc v) +ℤ pos s) (omega (arith, parts_sum (negsuc (p - suc v)) (pos s)))
            ∙ ap (λ z. z +ℤ pos s) (sym is)
      ]

pub negated_by : (v : ℕ) {p x r : ℕ} → p ≡ modulus → x ≡ carried_sum modulus v (p / 2) → x < 2 ^ 32 → r < 2 ^ 32 → (r + x) % 2 ^ 32 ≡ p / 2
    → r ≡ negated_word v
negated_by v {x = x} p-is x-is x-word r-word wraps =
    let same : x ≡ carried_sum modulus v (modulus / 2) = rw p-is at x-is in
    omega (arith, ap (λ n. n / 2) p-is, modulus_below)

pub negated_word_lem : (v : ℕ) → v < modulus → negated_word v ≡ least_residue (2 ^ 32) (pos 0 -ℤ signed_entry modulus v)
negated_word_lem v least =
    let s = modulus / 2 in
    let x = carried_sum modulus v s in
    let z = signed_entry modulus v in
    let word : 0 < 2 ^ 32 = omega arith in
    let size = entry_small modulus modulus_positive v least modulus_odd in
    let shifted = shifted_entry modulus modulus_odd modulus_below s v (omega (arith, modulus_odd)) least (omega (arith, modulus_odd)) in
    sym (residue_of_natural (2 ^ 32) word (2 ^ 32 + s - x))
    ∙ residue_shift (2 ^ 32) word (pos (2 ^ 32 + s - x)) (pos 0 -ℤ z) 0 1
    (omega (
      arith,
      modulus_below,
      parts_sum z (pos s),
      parts_difference (pos 0) z,
      parts_within z s (omega (arith, modulus_odd)),
      ap positive shifted,
      ap negative shifted,
    ))

-- record j of line i, of lines of n records each
value_of_line : (b : List ℕ) (n i : ℕ) {j : ℕ} → j < n → value_at (line_at b (record_bytes * n) i) j ≡ value_at b (i * n + j)
unfolding value_at
value_of_line b n i {j} l = rw (byte 4 (lit< tt), byte 5 (lit< tt), byte 6 (lit< tt), byte 7 (lit< tt))
  where
    byte : (k : ℕ) → k < record_bytes → byte_at (line_at b (record_bytes * n) i) j k ≡ byte_at b (i * n + j) k
    byte k m = part_of b (i * (record_bytes * n)) (record_bytes * n) (record_bytes * j + k) 0 (omega arith) ∙ ap (λ q. slice_index b q) (omega arith)

module _ {G : Setting} {t : List ℕ} (passed : Passed G t) where
  pub decodable : (w : ℕ) {b : List ℕ} → b ≡ part_bytes (clamped G) t w → (length b ≡ record_bytes * part_size (part G w))
      × ((i j : ℕ) → i < (part G w).rows → j < (part G w).columns → value_at b (i * (part G w).columns + j) ≡ value_in G t w i j)
  decodable w b-is =
      rw (b-is, clamped_same passed.counts.sizes passed.numbers)
      (part_bytes_long G t w passed.long, λ i j l m. value_of_part G t w (digits_lt l m) ∙ sym (value_in_lem G t w i j))

  pub decodable_row : (w : ℕ) {b r : List ℕ} {i : ℕ} → b ≡ part_bytes (clamped G) t w → i < (part G w).rows
      → r ≡ line_at b (record_bytes * (part G w).columns) i
      → (length r ≡ record_bytes * (part G w).columns) × ((j : ℕ) → j < (part G w).columns → value_at r j ≡ value_in G t w i j)
  decodable_row w {b} {i = i} b-is l r-is =
      let d = decodable w b-is in
      let size = record_bytes * (part G w).columns in
      rw r-is (
        part_long b (i * size) size (omega (arith, d.0, row_inside (part G w).columns l)),
        λ j m. value_of_line b (part G w).columns i m ∙ d.1 i j l m,
      )

-- the size of an integer that is shifted
shifted_most : {x T : ℕ} (s : ℕ) (z : ℤ) → pos x ≡ z +ℤ pos s → unsigned_abs z ≤ T → x ≤ s + T
shifted_most {x} {T} s z e size = omega (arith, ap positive e, ap negative e, parts_sum z (pos s), parts_within z T size)

pub record SumClaims (G : Setting) (t y : List ℕ) : Type 0 where
  pub long : G.rows * G.columns ≤ length y
  pub each : (i j : ℕ) → i < G.rows → j < G.columns
      → slice_index y (i * G.columns + j) ≡ least_residue (2 ^ 32) (claim G t i j +ℤ pos (lift G) -ℤ entry_bias G t i j)

module _ {G : Setting} {t : List ℕ} (passed : Passed G t) where
  bound_small : (narrow_shift ≤ (modulus - 1) / 2) × (G.bound ≤ (modulus - 1) / 2)
  bound_small = omega (arith, modulus_above, passed.numbers.bound)

  -- an entry of A, with the bound added

  module _ {a before b : List ℕ} (b-is : b ≡ part_bytes (clamped G) t of_a) where
    module _ (room : G.rows * G.inner ≤ length before) (filled : ShiftedList b G.bound before a) where
      shifted_at_lem : (i k : ℕ) → i < G.rows → k < G.inner
          → slice_index a (i * G.inner + k) ≡ carried_sum modulus (value_in G t of_a i k) G.bound
      unfolding parts part
      shifted_at_lem i k l m =
          let d = decodable passed of_a b-is in
          filled.each (i * G.inner + k) (omega (arith, d.0, digits_lt l m)) ∙ rw (d.1 i k l m)

    module _ {i : ℕ} (row : i < G.rows) {r : List ℕ} (r-is : r ≡ line_at b (record_bytes * G.inner) i) (room : G.inner ≤ length before)
        (filled : ShiftedList r G.bound before a) where
      row_shifted_at : (k : ℕ) → k < G.inner → slice_index a k ≡ carried_sum modulus (value_in G t of_a i k) G.bound
      unfolding parts part
      row_shifted_at k m =
          let d = decodable_row passed of_a b-is row r-is in
          filled.each k (omega (arith, d.0)) ∙ rw (d.1 k m)

  -- what a claim puts for its sum, lifted: a shifted quotient times the scale, and a remainder
  lifted_parts : (s r : ℕ)
      → pos (s * G.scale + r) ≡ pos G.scale *ℤ (pos s -ℤ pos (half_range G)) +ℤ pos r -ℤ pos G.rounding +ℤ pos (lift G)
  lifted_parts s r =
      let q = pos s -ℤ pos (half_range G) in
      let scaled = pos G.scale *ℤ q in
      let claimed = scaled +ℤ pos r -ℤ pos G.rounding in
      equal_of_parts (pos (s * G.scale + r)) (claimed +ℤ pos (lift G))
      (omega (
        arith,
        parts_sum claimed (pos (lift G)),
        parts_difference (scaled +ℤ pos r) (pos G.rounding),
        parts_sum scaled (pos r),
        parts_product (pos G.scale) q,
        ap (λ n. G.scale * n) (parts_difference (pos s) (pos (half_range G))),
      ))

  -- and by the values of its records
  abbrev lifted_in : ℕ → ℕ → ℕ → ℕ
  lifted_in half i j = (carried_sum modulus (value_in G t of_quotients i j) half * G.scale + value_in G t of_remainders i j) % 2 ^ 32

  module _ {y before q r : List ℕ} {half : ℕ} (q-is : q ≡ part_bytes (clamped G) t of_quotients) (r-is : r ≡ part_bytes (clamped G) t of_remainders)
      (half_is : half ≡ half_range (clamped G)) where
    module _ (room : G.rows * G.columns ≤ length before) (filled : LiftedList q r half G.scale before y) where
      lifted_at_lem : (i j : ℕ) → i < G.rows → j < G.columns → slice_index y (i * G.columns + j) ≡ lifted_in half i j
      unfolding parts part
      lifted_at_lem i j l m =
          let d = decodable passed of_quotients q-is in
          let e = decodable passed of_remainders r-is in
          filled.each (i * G.columns + j) (omega (arith, d.0, e.0, digits_lt l m)) ∙ rw (d.1 i j l m, e.1 i j l m)

    module _ {i : ℕ} (row : i < G.rows) {q' r' : List ℕ} (q'-is : q' ≡ line_at q (record_bytes * G.columns) i)
        (r'-is : r' ≡ line_at r (record_bytes * G.columns) i) (room : G.columns ≤ length before)
        (filled : LiftedList q' r' half G.scale before y) where
      row_lifted_at : (j : ℕ) → j < G.columns → slice_index y j ≡ lifted_in half i j
      unfolding parts part
      row_lifted_at j m =
          let d = decodable_row passed of_quotients q-is row q'-is in
          let e = decodable_row passed of_remainders r-is row r'-is in
          filled.each j (omega (arith, d.0, e.0)) ∙ rw (d.1 j m, e.1 j m)

  -- an entry as a 16-bit number
  narrow_entry : (v : ℕ) → v < modulus → unsigned_abs (signed_entry modulus v) ≤ G.bound
      → narrowed (carried_sum modulus v narrow_shift) ≡ signed_entry modulus v
  narrow_entry v least size =
      let shifted = shifted_entry modulus modulus_odd modulus_below narrow_shift v bound_small.0 least (omega (arith, passed.numbers.bound)) in
      let x = carried_sum modulus v narrow_shift in
      let z = signed_entry modulus v in
      let few : x < 65_536 = omega (arith, shifted_most narrow_shift z shifted size, passed.numbers.bound) in
      ap (λ n. pos n -ℤ pos narrow_shift) (mod-eq_of_lt few)
      ∙ equal_of_parts (pos x -ℤ pos narrow_shift) z
      (omega (arith, parts_difference (pos x) (pos narrow_shift), ap positive shifted, ap negative shifted, parts_sum z (pos narrow_shift)))

  module _ {d y y' : List ℕ} (d-is : d ≡ part_bytes (clamped G) t of_bias) (claims : LiftedClaims G t y') (less : LessList d y' y) where
    module _ (i j : ℕ) (l : i < G.rows) (m : j < G.columns) where
      abbrev k : ℕ
      k = i * G.columns + j

      abbrev C : ℤ
      C = claim G t i j +ℤ pos (lift G)

      word : 0 < 2 ^ 32
      word = omega arith

      lifted : least_residue (2 ^ 32) C ≡ slice_index y' k
      lifted = ap (least_residue (2 ^ 32)) (sym (claims.each i j l m)) ∙ residue_of_residue (2 ^ 32) word (slice_index y' k) (claims.words i j l m)
