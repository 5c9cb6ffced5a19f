-- The parts of a ticket as the code reads them: each by its form, one after the other, is reading the ticket.
--
--   entry_range        an entry is in range exactly when, shifted by the bound, it is at most twice the bound
--   bounds_small       twice the bound of the entries, or of the bias, is below p
--   forms_make         the forms of the parts do
--   part_empty, part_holds   the part has no columns, so no records, or can be read by its form
--   part_read G t w     the answer of part w
--   part_ready, part_answer_lem, part_end   the form that makes its tests, from where it starts: its records are ready, its answer is that of
--                      the part, and the next part starts after it
--   ReadTo G t w       the records before part w pass
--   read_none, read_next, read_refused, read_all   no part yet, one that passes more, one that does not, and all parts
use Rattle.std.specs.Prelude.{◌≡◌, ℕ, ◌+◌, ◌-◌, ◌*◌, ◌/◌, ◌%◌, ◌<◌, ◌≤◌, Bool, ltb, List, [], ◌∷◌, ◌≢◌, nat_le, nat_lt, unsigned_abs, refl}
use Rattle.std.proofs.Common.{zero-add, add-zero, ◌∙◌, le-ltb}
use Rattle.std.proofs.Math.Nat.{mod-eq_of_lt}
use Rattle.std.proofs.Math.Decide.{dec_le}
use native.Mathlib.Omega.{arith}
use Rattle.std.proofs.Math.Path.{sym, ap}
use Rattle.residue.specs.Rules.{modulus, signed_entry}
use Rattle.residue.proofs.Laws.Modulo.{mod_once}
use Rattle.residue.proofs.Laws.Residues.{entry_low, entry_high}
use Rattle.residue.proofs.Laws.Modulus.PartnerModuli.{modulus_positive}
use Rattle.residue.proofs.Laws.Modulus.{modulus_above}
use Rattle.algebra.proofs.Laws.Fills.{part_long}
use Rattle.ticket.specs.declared.setting.Setting.{Setting}
use Rattle.ticket.specs.declared.Answer.{Answer}
use Rattle.ticket.specs.declared.records.Form.{Form}
use Rattle.ticket.specs.declared.refusals.Reason.{Reason}
use Rattle.ticket.specs.declared.refusals.Reason.TheVariants.{Entry, BiasEntry}
use Rattle.ticket.specs.Rules.{reason_number, test, first_failed, parts, part, of_a, of_b, of_bias, of_quotients, of_remainders, bias_bound, bias_columns, part_size, start, records, record_bytes, is_entry, is_quotient, shifted_quotient, ticket_length, formed, value_at, part_tests, record_tests, record_number, refusal, first_refusal}
use Rattle.ticket.specs.Laws.Limits.{Numbers, Within}
use Rattle.ticket.proofs.Laws.Limits.BiasSmall.{bias_small}
use Rattle.ticket.proofs.Laws.Limits.{half_small, half_double}
use Rattle.ticket.specs.Laws.Layout.{part_bytes}
use Rattle.ticket.proofs.Laws.Layout.{parts_are, start_none, start_next, ends_within, holder_at, form_of_part, value_of_part}
use Rattle.ticket.proofs.Laws.Layout.StartOfB.{start_past}
use Rattle.ticket.proofs.Laws.Tests.{same_test}
use Rattle.ticket.proofs.Laws.Scans.{refusal_none, refusal_cong, refusal_split, after_passed, after_refused}
use Rattle.ticket.proofs.Laws.Answers.{scan_zero}
use Rattle.ticket.specs.Laws.Forms.{entries_form, tested, tested_at, part_answer, Holds}
use Rattle.ticket.proofs.Laws.Forms.{quotients_form, remainders_form}
use Rattle.ticket.specs.Laws.Parts.{MakesTests, ReadReady, form_bytes, PartReady}

pub entry_range : (p : ℕ) → 0 < p → (T v : ℕ) → T ≤ (p - 1) / 2 → v < p
    → nat_le (unsigned_abs (signed_entry p v)) T ≡ nat_lt ((v + T) % p) (2 * T + 1)
entry_range p above T v h k =
    elim (dec_le v ((p - 1) / 2)) [
      | yes low ↦
          let small : v + T < p = omega arith in
          rw (entry_low p above v low, mod-eq_of_lt small) (same_test v T (v + T) (2 * T + 1) (λ e. omega arith) (λ e. omega arith))
      | no high ↦
          rw (entry_high p above v (omega arith) k)
          (elim (dec_le p (v + T)) [
            | yes le ↦ rw (mod_once p (v + T) le (omega arith)) (same_test _ T _ (2 * T + 1) (λ e. omega arith) (λ e. omega arith))
            | no gt ↦
                let small : v + T < p = omega arith in
                rw (mod-eq_of_lt small) (same_test _ T _ (2 * T + 1) (λ e. omega arith) (λ e. omega arith))
          ])
    ]

by_shift : (F : Form) (range : ℕ → Bool) → ((v : ℕ) → v < modulus → nat_lt ((v + F.shift) % modulus) F.limit ≡ range v)
    → F.shift ≤ F.limit → F.limit ≤ modulus
    → MakesTests F (record { kind = F.kind; rows = F.rows; columns = F.columns; range = range; outside = reason_number F.outside })
by_shift F range same shift limit =
    record { kind = refl; rows = refl; columns = refl; outside = refl; range = same; ranged = record { shift = shift; limit = limit } }

entries_make : (kind rows columns bound : ℕ) (outside : Reason) → 2 * bound < modulus
    → MakesTests (entries_form kind rows columns bound outside)
    (record { kind = kind; rows = rows; columns = columns; range = is_entry bound; outside = reason_number outside })
unfolding is_entry
entries_make kind rows columns bound outside small =
    by_shift (entries_form kind rows columns bound outside) (is_entry bound)
    (λ v l. sym (entry_range modulus modulus_positive bound v (omega arith) l)) (omega arith) (omega arith)

module _ {G : Setting} (within : Within G) where
  numbers : Numbers G
  numbers = within.numbers

  pub bounds_small : (2 * G.bound < modulus) × (2 * bias_bound G < modulus)
  bounds_small = (omega (arith, numbers.bound, modulus_above), bias_small numbers within.fitted)

  pub forms_make : MakesTests (entries_form 1 G.rows G.inner G.bound Entry) (part G of_a)
      × MakesTests (entries_form 2 G.inner G.columns G.bound Entry) (part G of_b)
      × MakesTests (entries_form 5 G.rows (bias_columns G) (bias_bound G) BiasEntry) (part G of_bias)
      × MakesTests (quotients_form G) (part G of_quotients)
      × MakesTests (remainders_form G) (part G of_remainders)
  unfolding parts part shifted_quotient
  forms_make = (
    entries_make _ _ _ _ _ bounds_small.0,
    entries_make _ _ _ _ _ bounds_small.0,
    entries_make _ _ _ _ _ bounds_small.1,
    by_shift _ (is_quotient G.width) (λ v l. rw (half_double {G = G} numbers)) (omega arith)
        (omega (arith, half_small {G = G} numbers, modulus_above)),
    by_shift _ (λ v. ltb v G.scale) (λ v l. rw (add-zero v, mod-eq_of_lt l)) (omega arith) (omega (arith, modulus_above)),
  )

-- the range of a value matters only where the value is below p
number_range : (form : Bool) (value : ℕ) (a b : Bool) (outside : ℕ) → (value < modulus → a ≡ b)
    → first_failed (test form 5 ∷ test (nat_lt value modulus) 6 ∷ test a outside ∷ [])
    ≡ first_failed (test form 5 ∷ test (nat_lt value modulus) 6 ∷ test b outside ∷ [])
unfolding first_failed
number_range form value a b outside h =
    elim (dec_le modulus value) [ yes large ↦ rw (le-ltb value modulus large) | no small ↦ rw (h (omega arith)) ]

unfoldable pub part_read : Setting → List ℕ → ℕ → Answer
part_read G t w = first_refusal (start G w) (part_size (part G w)) (λ i. record_number G t (start G w + i))

module _ (F : Form) (a : ℕ) (t : List ℕ) where
  pub part_empty : F.columns ≡ 0 → refusal 0 0 ≡ part_answer F a (form_bytes F a t)
  part_empty none =
      let size : F.rows * F.columns ≡ 0 = omega (arith, ap (λ n. F.rows * n) none) in
      sym (refusal_none a (F.rows * F.columns) _ (λ k l. absurd (omega arith)))

  pub part_holds : PartReady F a t → 1 ≤ F.columns → Holds (form_bytes F a t) F
  part_holds ready wide =
      record {
        columns = wide;
        few = ready.few;
        long = omega (arith, part_long t (record_bytes * a) (record_bytes * (F.rows * F.columns)) (omega (arith, ready.long)));
        range = ready.range;
      }

module _ {G : Setting} {t : List ℕ} (w : ℕ) {a : ℕ} {F : Form} (ready : ReadReady G t) (makes : MakesTests F (part G w)) (from : a ≡ start G w) where
  size : F.rows * F.columns ≡ part_size (part G w)
  size = rw (makes.rows, makes.columns)

  length_within : record_bytes * (a + F.rows * F.columns) ≤ ticket_length G
  unfolding ticket_length
  length_within = omega (arith, size, ends_within G w)

  pub part_ready : PartReady F a t
  part_ready =
      record {
        few = omega (arith, size, ends_within G w, (parts_are G).all, ready.counts);
        early = omega (arith, ends_within G w, (parts_are G).all, ready.counts);
        long = rw ready.long length_within;
        range = makes.ranged;
      }

  bytes_are : form_bytes F a t ≡ part_bytes G t w
  unfolding part_bytes
  bytes_are =
      let n = record_bytes * part_size (part G w) in
      let long : record_bytes * start G w + n - record_bytes * start G w ≡ n = omega arith in
      rw (size, from, long)

  -- record i of the part, by the form of the code
  tested_part : (i : ℕ) → i < part_size (part G w) → tested (form_bytes F a t) F i ≡ record_number G t (start G w + i)
  unfolding tested_at record_tests part_tests
  tested_part i m =
      let P = part G w in
      let value = value_at t (start G w + i) in
      let index : start G w + i - start G w ≡ i = omega arith in
      rw (bytes_are, holder_at G m, index, makes.kind, makes.columns, makes.outside)
      (rw (form_of_part G t w m P.kind (i / P.columns) (i % P.columns), value_of_part G t w m)
      (number_range (formed t (start G w + i) P.kind (i / P.columns) (i % P.columns)) value
      (nat_lt ((value + F.shift) % modulus) F.limit) (P.range value) P.outside (makes.range value)))

  pub part_answer_lem : part_answer F a (form_bytes F a t) ≡ part_read G t w
  unfolding part_read
  part_answer_lem =
      let b = form_bytes F a t in
      ap (λ n. first_refusal a n (tested b F)) size ∙ ap (λ n. first_refusal n (part_size (part G w)) (tested b F)) from
      ∙ refusal_cong (start G w) (part_size (part G w)) _ _ tested_part

  pub part_end : a + F.rows * F.columns ≡ start G (w + 1)
  part_end = omega (arith, size, start_next G w)

-- the records before part w pass
abbrev pub ReadTo : Setting → List ℕ → ℕ → Type 0
ReadTo G t w = (first_refusal 0 (start G w) (record_number G t)).number ≡ 0

module _ (G : Setting) (t : List ℕ) where
  pub read_none : ReadTo G t 0
  read_none = (scan_zero 0 (start G 0) (record_number G t)).1 (λ k l. absurd (omega (arith, start_none G)))

  pub read_all : {w : ℕ} → 5 ≤ w → ReadTo G t w → refusal 0 0 ≡ first_refusal 0 (records G) (record_number G t)
  read_all past passed =
      let zeros = (scan_zero 0 (start G _) (record_number G t)).0 passed in
      sym (refusal_none 0 (records G) (record_number G t) (λ k l. zeros k (omega (arith, start_past G past))))

  module _ (w : ℕ) {a : Answer} (before : ReadTo G t w) (is : a ≡ part_read G t w) where
    -- the answer of the records before the next part
    so_far : a ≡ first_refusal 0 (start G (w + 1)) (record_number G t)
    unfolding part_read
    so_far =
        is ∙ sym (rw (start_next G w) (refusal_split 0 (start G w) (part_size (part G w)) (record_number G t)
        ∙ after_passed _ _ before ∙ rw (zero-add (start G w))))

    pub read_next : a.number ≡ 0 → ReadTo G t (w + 1)
    read_next z = rw (← so_far) z

    pub read_refused : (a.number ≢ 0) → a ≡ first_refusal 0 (records G) (record_number G t)
    read_refused d =
        let rest : records G ≡ start G (w + 1) + (records G - start G (w + 1)) = omega (arith, start_next G w, ends_within G w) in
        so_far ∙ sym (rw rest (refusal_split 0 (start G (w + 1)) _ (record_number G t) ∙ after_refused _ _ (rw so_far at d)))
