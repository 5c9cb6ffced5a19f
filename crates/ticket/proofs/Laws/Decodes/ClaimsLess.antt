-- What rests on Decodes.
--
--   ShiftedEntries G t a, entries_shifted   a holds the entries of A, each with the bound added
--   ShiftedRow G t i a, row_shifted         a holds row i of them
--   LiftedClaims G t y, claims_lifted       y holds what the claims put for their sums, lifted
--   LiftedRow G t i y, row_lifted           y holds row i of them
--   entries_a, entries_b  the entries of A and of B as 16-bit numbers
--   values_b, values_bias   the values of the records of B, and of the bias
use Rattle.std.specs.Prelude.{◌≡◌, ℕ, ◌+◌, ◌*◌, ◌^◌, ◌<◌, ◌≤◌, true, false, List, length, ℤ, pos, ◌+ℤ◌, ◌-ℤ◌, slice_index, slice_index_or, unsigned_abs}
use Rattle.std.proofs.Common.{mod-lt, arith, ◌∙◌, ⊎_elim}
use Rattle.std.proofs.Math.Nat.{mod-eq_of_lt, mul-le-mul_left, mul-le-mul_right}
use Rattle.std.proofs.Math.Path.{sym, ap}
use Rattle.std.proofs.Math.Arith.{digits_lt}
use Rattle.residue.specs.Rules.{modulus, least_residue, signed_entry}
use Rattle.residue.proofs.Laws.Integers.{equal_of_parts, parts_sum, parts_difference}
use Rattle.residue.specs.Laws.Modulo.{carried_sum}
use Rattle.residue.proofs.Laws.Modulo.CarriedSumLem.{carried_sum_lem}
use Rattle.residue.proofs.Laws.Modulus.PartnerModuli.{modulus_odd}
use Rattle.residue.proofs.Laws.Modulus.{modulus_above, modulus_below}
use Rattle.residue.proofs.Laws.Residues.{residue_sum}
use Rattle.algebra.specs.Laws.Fills.{line_at}
use Rattle.algebra.proofs.Laws.Positions.{by_rows}
use Rattle.ticket.specs.declared.setting.Setting.{Setting}
use Rattle.ticket.specs.Rules.{half_range, parts, part, part_size, of_a, of_b, of_bias, of_quotients, of_remainders, bias_columns, record_bytes, value_at, value_in, shifted_quotient, entry_a, entry_b, entry_bias, quotient, remainder, claim, has_bias}
use Rattle.ticket.proofs.Laws.First.{true_or_false}
use Rattle.ticket.specs.Laws.Limits.{clamped}
use Rattle.ticket.proofs.Laws.Limits.{with_bias_lem, without_bias, half_small, clamped_same}
use Rattle.ticket.specs.Laws.Layout.{part_bytes}
use Rattle.ticket.specs.Laws.Passes.{Passed}
use Rattle.ticket.proofs.Laws.Passes.{valid}
use Rattle.ticket.proofs.Laws.Differences.{bias_entry, no_bias_entry}
use Rattle.ticket.proofs.Laws.Differences.TicketDecided.{residue_bias, size_entry_a, size_entry_b, shifted_below, remainder_below, residue_entry_b}
use Rattle.ticket.specs.Laws.Lifts.{Lifted}
use Rattle.ticket.specs.Laws.Decodes.{narrow_shift, narrowed, ShiftedList, NarrowList, LiftedList, LessList, ShiftedEntries, ShiftedRow, LiftedRow, LiftedClaims}
use Rattle.ticket.proofs.Laws.Decodes.{C, SumClaims, bound_small, decodable, k, lifted, lifted_at_lem, lifted_in, lifted_parts, narrow_entry, negated_word_lem, row_lifted_at, row_shifted_at, shifted_at_lem, shifted_entry, shifted_most, word}

module _ {G : Setting} {t : List ℕ} (passed : Passed G t) where
  module _ (i k : ℕ) (l : i < G.rows) (m : k < G.inner) {x : ℕ} (x-is : x ≡ carried_sum modulus (value_in G t of_a i k) G.bound) where
    entry_shifted : pos x ≡ entry_a G t i k +ℤ pos G.bound
    unfolding parts part entry_a
    entry_shifted =
        ap pos x-is ∙ shifted_entry modulus modulus_odd modulus_below G.bound (value_in G t of_a i k) (bound_small passed).1
        (valid passed of_a i k l m).below (size_entry_a passed i k l m)

    entry_narrow : x < 2 ^ 16
    entry_narrow = omega (arith, shifted_most G.bound (entry_a G t i k) entry_shifted (size_entry_a passed i k l m), passed.numbers.bound)

  module _ {a before b : List ℕ} (b-is : b ≡ part_bytes (clamped G) t of_a) where
    module _ (room : G.rows * G.inner ≤ length before) (filled : ShiftedList b G.bound before a) where
      pub entries_shifted : ShiftedEntries G t a
      entries_shifted =
          record {
            long = omega (arith, filled.long);
            entry = λ i k l m. entry_shifted i k l m ((shifted_at_lem passed b-is room filled) i k l m);
            small = by_rows (λ k. slice_index a k < 2 ^ 16) G.inner (λ i k l m. entry_narrow i k l m ((shifted_at_lem passed b-is room filled) i k l m));
          }

    module _ {i : ℕ} (row : i < G.rows) {r : List ℕ} (r-is : r ≡ line_at b (record_bytes * G.inner) i) (room : G.inner ≤ length before)
        (filled : ShiftedList r G.bound before a) where
      pub row_shifted : ShiftedRow G t i a
      row_shifted =
          record {
            entry = λ k m. entry_shifted i k row m ((row_shifted_at passed b-is row r-is room filled) k m);
            small = λ k m. entry_narrow i k row m
                ((row_shifted_at passed b-is row r-is room filled) k m);
          }

  claim_lifted : {half : ℕ} → half ≡ half_range (clamped G) → (i j : ℕ) → i < G.rows → j < G.columns
      → {x : ℕ} → x ≡ (lifted_in passed) half i j → Lifted G (claim G t i j) x
  unfolding parts part claim quotient remainder shifted_quotient
  claim_lifted {half} half_is i j l m x-is =
      let value = value_in G t of_quotients i j in
      let shifted = shifted_quotient G.width value in
      let left = value_in G t of_remainders i j in
      let same : half ≡ half_range G = half_is ∙ ap half_range (clamped_same passed.counts.sizes passed.numbers) in
      let scaled = mul-le-mul_right G.scale (shifted_below passed i j l m) in
      let twice = mul-le-mul_left shifted passed.numbers.scale.0 in
      let carried = carried_sum_lem modulus modulus_odd modulus_below value (half_range G) (valid passed of_quotients i j l m).below
      (omega (arith, half_small {G = G} passed.numbers, modulus_above)) (omega (arith, scaled, twice, passed.fitted.claims)) in
      let few : shifted * G.scale + left < 2 ^ 32 =
      omega (arith, scaled, passed.fitted.claims, modulus_below, remainder_below passed i j l m) in
      ap pos (x-is ∙ rw (same, carried, mod-eq_of_lt few)) ∙ (lifted_parts passed) shifted left

  module _ {y before q r : List ℕ} {half : ℕ} (q-is : q ≡ part_bytes (clamped G) t of_quotients) (r-is : r ≡ part_bytes (clamped G) t of_remainders)
      (half_is : half ≡ half_range (clamped G)) where
    module _ (room : G.rows * G.columns ≤ length before) (filled : LiftedList q r half G.scale before y) where
      pub claims_lifted : LiftedClaims G t y
      claims_lifted =
          record {
            long = omega (arith, filled.long);
            words = λ i j l m. rw ((lifted_at_lem passed q-is r-is half_is room filled) i j l m) (mod-lt _ (omega arith));
            each = λ i j l m. claim_lifted half_is i j l m ((lifted_at_lem passed q-is r-is half_is room filled) i j l m);
          }

    module _ {i : ℕ} (row : i < G.rows) {q' r' : List ℕ} (q'-is : q' ≡ line_at q (record_bytes * G.columns) i)
        (r'-is : r' ≡ line_at r (record_bytes * G.columns) i) (room : G.columns ≤ length before)
        (filled : LiftedList q' r' half G.scale before y) where
      pub row_lifted : LiftedRow G t i y
      row_lifted j m = claim_lifted half_is i j row m ((row_lifted_at passed q-is r-is half_is row q'-is r'-is room filled) j m)

  module _ {a before : List ℤ} {b : List ℕ} (filled : NarrowList b before a) where
    -- of a part of such entries
    numbers : (w : ℕ) → b ≡ part_bytes (clamped G) t w → part_size (part G w) ≤ length before
        → (i j : ℕ) → i < (part G w).rows → j < (part G w).columns → unsigned_abs (signed_entry modulus (value_in G t w i j)) ≤ G.bound
        → slice_index_or a (i * (part G w).columns + j) (pos 0) ≡ signed_entry modulus (value_in G t w i j)
    numbers w b-is room i j l m size =
        let d = decodable passed w b-is in
        filled.each (i * (part G w).columns + j) (omega (arith, d.0, digits_lt l m))
        ∙ ap (λ v. narrowed (carried_sum modulus v narrow_shift)) (d.1 i j l m)
        ∙ (narrow_entry passed) (value_in G t w i j) (valid passed w i j l m).below size

    pub entries_a : b ≡ part_bytes (clamped G) t of_a → G.rows * G.inner ≤ length before
        → (i k : ℕ) → i < G.rows → k < G.inner → slice_index_or a (i * G.inner + k) (pos 0) ≡ entry_a G t i k
    unfolding parts part entry_a
    entries_a b-is room i k l m = numbers of_a b-is room i k l m (size_entry_a passed i k l m)

    pub entries_b : b ≡ part_bytes (clamped G) t of_b → G.inner * G.columns ≤ length before
        → (k j : ℕ) → k < G.inner → j < G.columns → slice_index_or a (k * G.columns + j) (pos 0) ≡ entry_b G t k j
    unfolding parts part entry_b
    entries_b b-is room k j l m = numbers of_b b-is room k j l m (size_entry_b passed k j l m)

  pub values_b : {b : List ℕ} → b ≡ part_bytes (clamped G) t of_b → (length b ≡ record_bytes * (G.inner * G.columns))
      × ((k j : ℕ) → k < G.inner → j < G.columns → value_at b (k * G.columns + j) ≡ least_residue modulus (entry_b G t k j))
  unfolding parts part
  values_b b-is =
      let d = decodable passed of_b b-is in
      (d.0, λ k j l m. d.1 k j l m ∙ sym (residue_entry_b passed k j l m))

  pub values_bias : {b : List ℕ} → b ≡ part_bytes (clamped G) t of_bias → (length b ≡ record_bytes * (G.rows * bias_columns G))
      × ((i j : ℕ) → i < G.rows → j < bias_columns G → value_at b (i * bias_columns G + j) ≡ least_residue modulus (entry_bias G t i j))
  unfolding parts part
  values_bias b-is =
      let d = decodable passed of_bias b-is in
      (d.0, λ i j l m. d.1 i j l m ∙ sym (residue_bias passed i j l m))

  module _ {d y y' : List ℕ} (d-is : d ≡ part_bytes (clamped G) t of_bias) (claims : LiftedClaims G t y') (less : LessList d y' y) where
    module _ (i j : ℕ) (l : i < G.rows) (m : j < G.columns) where
      -- where there is a bias, its entry is taken off
      less_bias : has_bias G ≡ true → slice_index y (k passed d-is claims less i j l m)
          ≡ least_residue (2 ^ 32) ((C passed d-is claims less i j l m) -ℤ entry_bias G t i j)
      unfolding parts part
      less_bias there =
          let wide = (with_bias_lem G there).1 in
          let h = decodable passed of_bias d-is in
          let v = value_in G t of_bias i j in
          let value : value_at d (k passed d-is claims less i j l m) ≡ v = rw wide at (h.1 i j l (rw wide m)) in
          let minus = negated_word_lem v (valid passed of_bias i j l (rw wide m)).below in
          less.each (k passed d-is claims less i j l m) (omega (arith, h.0, ap (λ n. G.rows * n) wide, claims.long, digits_lt l m))
          ∙ rw (value, minus, bias_entry G t i j there, ← (lifted passed d-is claims less i j l m))
          (sym (residue_sum (2 ^ 32) (word passed d-is claims less i j l m) (C passed d-is claims less i j l m) (pos 0 -ℤ signed_entry modulus v))
          ∙ ap (least_residue (2 ^ 32)) (taken (C passed d-is claims less i j l m) (signed_entry modulus v)))
        where
          taken : (a b : ℤ) → a +ℤ (pos 0 -ℤ b) ≡ a -ℤ b
          taken a b =
              equal_of_parts (a +ℤ (pos 0 -ℤ b)) (a -ℤ b)
              (omega (arith, parts_sum a (pos 0 -ℤ b), parts_difference (pos 0) b, parts_difference a b))

      -- where there is none, nothing is
      less_none : has_bias G ≡ false → slice_index y (k passed d-is claims less i j l m)
          ≡ least_residue (2 ^ 32) ((C passed d-is claims less i j l m) -ℤ entry_bias G t i j)
      unfolding parts part
      less_none none =
          let h = decodable passed of_bias d-is in
          less.rest (k passed d-is claims less i j l m) (omega (arith, h.0, ap (λ n. G.rows * n) (without_bias G none).1))
          ∙ rw (no_bias_entry G t i j none) (sym (lifted passed d-is claims less i j l m)
          ∙ ap (least_residue (2 ^ 32))
          (equal_of_parts (C passed d-is claims less i j l m) ((C passed d-is claims less i j l m) -ℤ pos 0)
          (omega (arith, parts_difference (C passed d-is claims less i j l m) (pos 0)))))

    pub claims_less : SumClaims G t y
    claims_less =
        record {
          long = omega (arith, claims.long, less.long);
          each = λ i j l m. ⊎_elim (less_bias i j l m) (less_none i j l m) (true_or_false (has_bias G));
        }
