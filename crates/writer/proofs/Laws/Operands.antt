-- The operands, as the code tests and converts them.
--
--   number_within, number_beyond   the number of an entry within its bound, and of one beyond it
--   within_of, beyond_of           and what such a number says
--   before_more       one more entry is not beyond the bound
--   beyond_none, beyond_within, beyond_at   the answer where no entry is beyond the bound, and where entry k is the first
--   beyond_both       the entries of two lists: those of one, then on in the other
--   size_read         the absolute value of an entry, as it is read
--   small_part        so are those of a part
--   small_more        and they are of more bits
--   narrow_stored     such an entry, as it is read and stored
--   biased_word C k s, no_bias_word   the sum s with entry k of the bias added modulo 2^32, which is s where there is none
--   word_read         a 32-bit number modulo 2^32, as it is read and cast
--   entry_fits, entry_read   an entry of at most 30 bits fits 32, and is itself as it is read
--   residue_negative, residue_fits, residue_positive   the least residue of an entry below zero, and of another
use Rattle.std.specs.Prelude.{◌≡◌, ℕ, suc, ◌+◌, ◌-◌, ◌^◌, ◌<◌, ◌≤◌, Bool, true, false, List, ◌++◌, length, take, drop, ℤ, pos, negsuc, ◌+ℤ◌, ◌≢◌, int_lt, nat_le, slice_index_or, unsigned_abs, refl}
use Rattle.std.proofs.Math.Decide.{ℕ_discrete, dec_le}
use Rattle.std.proofs.Common.{arith, sym, ap, subst, ◌∙◌, true≢false, le-leb, leb-true, ltb-true, pow_mono, length-append, get_or-append-add, SFits, to_z, of_z, to_z-of_z}
use Rattle.std.proofs.Math.Path.{subst⁻¹}
use Rattle.std.proofs.lemmas.Bool.{lt-leb}
use Rattle.std.proofs.Math.ListN.{get_or-append, get_or-eq_default}
use Rattle.std.specs.Int.Signed.{mag}
use Rattle.std.specs.Int.{w16, w32}
use Rattle.std.proofs.Math.Facts.{to_z_pos}
use Rattle.residue.specs.Rules.{modulus, least_residue}
use Rattle.residue.proofs.Laws.Integers.{equal_of_parts, parts_sum}
use Rattle.residue.proofs.Laws.Modulus.{modulus_above, modulus_below}
use Rattle.residue.proofs.Laws.Modulus.PartnerModuli.{modulus_positive}
use Rattle.residue.proofs.Laws.Residues.{residue_below, residue_of_residue, residue_shift}
use Rattle.residue.proofs.Laws.Signed.{narrowed_is, narrowed_fits}
use Rattle.algebra.proofs.Laws.Fills.{part_of, part_long}
use Rattle.ticket.specs.Rules.{unless, refusal, after, first_refusal}
use Rattle.ticket.specs.Laws.All.{all}
use Rattle.ticket.proofs.Laws.All.{all_at}
use Rattle.ticket.proofs.Laws.Scans.{refusal_none, refusal_is, refusal_cong, refusal_split}
use Rattle.writer.specs.Rules.{beyond_number}
use Rattle.writer.specs.Laws.Operands.{within_at, SmallEntries, biased_word}

-- tests 14 and 18

module _ (bound number : ℕ) (x : List ℤ) where
  pub number_within : (k : ℕ) → unsigned_abs (slice_index_or x k (pos 0)) ≤ bound → beyond_number bound number x k ≡ 0
  unfolding beyond_number
  number_within k l = rw (le-leb (unsigned_abs (slice_index_or x k (pos 0))) bound l)

  pub number_beyond : (k : ℕ) → bound < unsigned_abs (slice_index_or x k (pos 0)) → beyond_number bound number x k ≡ number
  unfolding beyond_number
  number_beyond k l = rw (lt-leb (unsigned_abs (slice_index_or x k (pos 0))) bound l)

  pub within_of : 1 ≤ number → (k : ℕ) → beyond_number bound number x k ≡ 0 → unsigned_abs (slice_index_or x k (pos 0)) ≤ bound
  within_of some k e =
      elim (dec_le (unsigned_abs (slice_index_or x k (pos 0))) bound) [
        | yes l ↦ l
        | no l ↦ absurd (omega (arith, number_beyond k (omega arith)))
      ]

  pub beyond_of : (k : ℕ) → (beyond_number bound number x k ≢ 0) → bound < unsigned_abs (slice_index_or x k (pos 0))
  beyond_of k d =
      elim (dec_le (unsigned_abs (slice_index_or x k (pos 0))) bound) [
        | yes l ↦ absurd (d (number_within k l))
        | no l ↦ omega arith
      ]

  pub before_more : {k size : ℕ} → ((i : ℕ) → i < k → unsigned_abs (slice_index_or x i (pos 0)) ≤ bound) → size ≡ unsigned_abs (slice_index_or x k (pos 0))
      → size ≤ bound → (i : ℕ) → i < k + 1 → unsigned_abs (slice_index_or x i (pos 0)) ≤ bound
  before_more {k} before size_is l i m =
      elim (ℕ_discrete i k) [
        | yes same ↦ omega (arith, ap (λ n. unsigned_abs (slice_index_or x n (pos 0))) same)
        | no other ↦ before i (omega arith)
      ]

  module _ (start : ℕ) where
    pub beyond_none : ((k : ℕ) → k < length x → unsigned_abs (slice_index_or x k (pos 0)) ≤ bound)
        → first_refusal start (length x) (beyond_number bound number x) ≡ refusal 0 0
    beyond_none h = refusal_none start (length x) (beyond_number bound number x) (λ k l. number_within k (h k l))

    pub beyond_within : {within : Bool} → within ≡ all (length x) (within_at bound x) → within ≡ true
        → first_refusal start (length x) (beyond_number bound number x) ≡ refusal 0 0
    beyond_within e t = beyond_none (λ k l. leb-true _ _ (all_at (length x) (within_at bound x) (sym e ∙ t) k l))

    pub beyond_at : 1 ≤ number → {k : ℕ} → k < length x → ((i : ℕ) → i < k → unsigned_abs (slice_index_or x i (pos 0)) ≤ bound)
        → bound < unsigned_abs (slice_index_or x k (pos 0)) → first_refusal start (length x) (beyond_number bound number x) ≡ refusal number (start + k)
    beyond_at some {k} l before beyond =
        let other : beyond_number bound number x k ≡ number = number_beyond k beyond in
        refusal_is start (length x) k (beyond_number bound number x) l (λ i m. number_within i (before i m)) (λ e. omega arith)
        ∙ ap (λ c. refusal c (start + k)) other

pub beyond_both : (bound number : ℕ) (A B : List ℤ) → first_refusal 0 (length (A ++ B)) (beyond_number bound number (A ++ B))
    ≡ after (first_refusal 0 (length A) (beyond_number bound number A)) (first_refusal (length A) (length B) (beyond_number bound number B))
unfolding beyond_number
beyond_both bound number A B =
    let both = beyond_number bound number (A ++ B) in
    ap (λ n. first_refusal 0 n both) (length-append A B) ∙ refusal_split 0 (length A) (length B) both
    ∙ ap (λ a. after a (first_refusal (0 + length A) (length B) (λ i. both (length A + i))))
    (refusal_cong 0 (length A) both (beyond_number bound number A)
    (λ k l. ap (λ z. unless (nat_le (unsigned_abs z) bound) number 0) (get_or-append A B (pos 0) k l)))
    ∙ ap (after (first_refusal 0 (length A) (beyond_number bound number A)))
    (refusal_cong (0 + length A) (length B) (λ i. both (length A + i)) (beyond_number bound number B)
    (λ k l. ap (λ z. unless (nat_le (unsigned_abs z) bound) number 0) (get_or-append-add A B k (pos 0)))
    ∙ ap (λ n. first_refusal n (length B) (beyond_number bound number B)) (omega arith))

-- the absolute value of an entry, as it is read
pub size_read : (x : List ℤ) (k : ℕ) {size : ℕ} → mag (slice_index_or x k (pos 0)) < 2 ^ 31 → size
    ≡ unsigned_abs (to_z w32 (of_z w32 (slice_index_or x k (pos 0))))
    → size ≡ unsigned_abs (slice_index_or x k (pos 0))
size_read x k fits e = e ∙ ap unsigned_abs (to_z-of_z {w = w32} {z = slice_index_or x k (pos 0)} (record { sfits = fits }))

-- small numbers

pub small_more : {less more : ℕ} {x : List ℤ} → less ≤ more → SmallEntries less x → SmallEntries more x
small_more {less} {more} few entries = record { small = λ k l. omega (arith, entries.small k l, pow_mono {i = less} {j = more} few) }

pub small_part : {bits : ℕ} {x : List ℤ} (start n : ℕ) → SmallEntries bits x → start + n ≤ length x
    → SmallEntries bits (take (start + n - start) (drop start x))
small_part {bits} {x} start n entries fits =
    let long : length (take (start + n - start) (drop start x)) ≡ n = part_long x start n fits in
    record {
      small = λ k l.
          subst⁻¹ (λ z. unsigned_abs z < 2 ^ bits) (part_of x start n k (pos 0) (omega arith)) (entries.small (start + k) (omega (arith, long)));
    }

pub narrow_stored : (z : ℤ) → unsigned_abs z < 2 ^ 15 → to_z w16 (of_z w16 (to_z w32 (of_z w32 z))) ≡ z
narrow_stored z small = to_z-of_z (narrowed_fits z small) ∙ narrowed_is z small

-- a matrix, row by row

-- the bias

pub no_bias_word : (C : List ℤ) (k sum : ℕ) → length C ≡ 0 → sum < 2 ^ 32 → sum ≡ biased_word C k sum
no_bias_word C k sum none small =
    let zero = residue_of_residue (2 ^ 32) (omega arith) 0 (omega arith) in
    rw (get_or-eq_default C (pos 0) {n = k} (omega arith), zero) (omega arith)

-- least residues

-- an integer below zero, and one that is not
below_zero : (z : ℤ) → int_lt z (pos 0) ≡ true → (n : ℕ) × (z ≡ negsuc n)
below_zero (pos n) e = absurd (omega (arith, ltb-true n 0 e))
below_zero (negsuc n) e = (n, refl)

not_below_zero : (z : ℤ) → int_lt z (pos 0) ≡ false → z ≡ pos (unsigned_abs z)
not_below_zero (pos n) e = refl
not_below_zero (negsuc n) e = absurd (true≢false e)

pub entry_fits : (z : ℤ) → unsigned_abs z < 2 ^ 30 → SFits w32 z
entry_fits (pos n) l = record { sfits = omega arith }
entry_fits (negsuc n) l = record { sfits = omega arith }

pub entry_read : (z : ℤ) → unsigned_abs z < 2 ^ 30 → to_z w32 (of_z w32 z) ≡ z
entry_read z small = to_z-of_z (entry_fits z small)

module _ (z : ℤ) (small : unsigned_abs z < 2 ^ 30) where
  module _ (negative : int_lt (to_z w32 (of_z w32 z)) (pos 0) ≡ true) {p : ℕ} (p-is : p ≡ modulus) where
    pub residue_negative : to_z w32 (of_z w32 z) +ℤ to_z w32 p ≡ pos (least_residue modulus z)
    residue_negative =
        let h = below_zero z (ap (λ y. int_lt y (pos 0)) (sym (entry_read z small)) ∙ negative) in
        let n = h.0 in
        let size : suc n < 2 ^ 30 = subst (λ y. unsigned_abs y < 2 ^ 30) h.1 small in
        let below : p < 2 ^ 31 = omega (arith, modulus_below) in
        let least : least_residue modulus z ≡ modulus - suc n =
        ap (least_residue modulus) h.1
        ∙ residue_shift modulus modulus_positive (negsuc n) (pos (modulus - suc n)) 1 0 (omega (arith, modulus_above))
        ∙ residue_of_residue modulus modulus_positive (modulus - suc n) (omega (arith, modulus_above)) in
        ap (λ y. y +ℤ to_z w32 p) (entry_read z small ∙ h.1) ∙ ap (λ y. negsuc n +ℤ y) (to_z_pos w32 below)
        ∙ equal_of_parts (negsuc n +ℤ pos p) (pos (least_residue modulus z)) (omega (arith, parts_sum (negsuc n) (pos p), modulus_above))

    pub residue_fits : SFits w32 (to_z w32 (of_z w32 z) +ℤ to_z w32 p)
    residue_fits =
        subst⁻¹ (SFits w32) residue_negative (record { sfits = omega (arith, residue_below modulus modulus_positive z, modulus_below) })

  pub residue_positive : int_lt (to_z w32 (of_z w32 z)) (pos 0) ≡ false → z ≡ pos (least_residue modulus z)
  residue_positive e =
      let is : z ≡ pos (unsigned_abs z) = not_below_zero z (ap (λ y. int_lt y (pos 0)) (sym (entry_read z small)) ∙ e) in
      is ∙ ap pos (sym (ap (least_residue modulus) is ∙ residue_of_residue modulus modulus_positive (unsigned_abs z) (omega (arith, modulus_above))))

-- modulo 2^32

low_word : (z : ℤ) → SFits w32 z → of_z w32 z ≡ least_residue (2 ^ 32) z
low_word (pos n) fits = sym (residue_of_residue (2 ^ 32) (omega arith) n (omega (arith, fits.sfits)))
low_word (negsuc n) fits =
    sym (residue_shift (2 ^ 32) (omega arith) (negsuc n) (pos (2 ^ 32 - suc n)) 1 0 (omega (arith, fits.sfits))
    ∙ residue_of_residue (2 ^ 32) (omega arith) (2 ^ 32 - suc n) (omega arith))

pub word_read : (z : ℤ) → SFits w32 z → of_z w32 (to_z w32 (of_z w32 z)) ≡ least_residue (2 ^ 32) z
word_read z fits = ap (of_z w32) (to_z-of_z fits) ∙ low_word z fits
