-- Every number from 1 to 9 and from 17 to 19 is given exactly when its condition holds and no earlier test fails (T3).
--
--   PassedTo G t k         the setting and the length pass, and every record before k does
--   Refused G t c k        the condition of the number c with the place k, no earlier test failing: the first test of the setting that
--                          fails, the length, or the first test that fails of the first record that does not pass
--   record_numbered        the numbers of a record's tests
--   records_read           where setting and length pass, reading is that of the records
--   passed_reading         where all tests pass, reading answers 0
--   refused_reading        where the condition of a number holds, reading answers that number
--   wrong_length           reading of a ticket of another length
--   passed_or_refused      one of the two is so
--   refused_number         the number of a refusal
--   ReadingRow G a         the answer a is a row of the published table for these tests, within its bounds
use Rattle.std.specs.Prelude.{◌≡◌, ℕ, ◌+◌, ◌<◌, ◌≤◌, ◌⊎◌, ◌↔◌, List, length, ◌≢◌}
use Rattle.std.proofs.Math.Decide.{ℕ_discrete}
use Rattle.std.proofs.Common.{arith, sym, ◌∙◌, inl, inr, ⊎_elim, eq-eqb, ne_eqb}
use Rattle.std.proofs.Math.Path.{ap}
use Rattle.ticket.specs.declared.setting.Setting.{Setting}
use Rattle.ticket.specs.declared.Answer.{Answer}
use Rattle.ticket.specs.Rules.{refusal, setting_tests, setting_number, parts, part, part_size, start, records, ticket_length, record_tests, record_number, first_refusal, after, records_reading, reading}
use Rattle.ticket.specs.Laws.Tests.{AllHold}
use Rattle.ticket.proofs.Laws.Tests.{Failed, Numbered, here, later, hold_or_failed, holding_number, failed_number, ReadingNumber, failed_numbered}
use Rattle.ticket.proofs.Laws.Tests.TestsHold.{tests_hold}
use Rattle.ticket.proofs.Laws.Limits.{setting_numbered}
use Rattle.ticket.proofs.Laws.Limits.BiasSmall.{SettingRow}
use Rattle.ticket.proofs.Laws.Limits.SettingInTable.{setting_in_table}
use Rattle.ticket.proofs.Laws.Layout.{each_part, located_at, located_tests, tests_located}
use Rattle.ticket.proofs.Laws.Scans.{refusal_none, refusal_is, zeros_or_first, after_passed, after_refused}
pub mod RefusedInTable

pub record PassedTo (G : Setting) (t : List ℕ) (k : ℕ) : Type 0 where
  pub setting : AllHold (setting_tests G)
  pub long : length t ≡ ticket_length G
  pub before : (i : ℕ) → i < k → AllHold (record_tests G t i)

pub data Refused (G : Setting) (t : List ℕ) : ℕ → ℕ → Type 0 where
  by_setting : {c : ℕ} → Failed (setting_tests G) c → Refused G t c 0
  by_length : AllHold (setting_tests G) → (length t ≢ ticket_length G) → Refused G t 4 0
  by_record : {c k : ℕ} → PassedTo G t k → k < records G → Failed (record_tests G t k) c → Refused G t c k

outside_numbered : (G : Setting) {w : ℕ} → w < length (parts G) → ReadingNumber (part G w).outside
unfolding parts part
outside_numbered G {w} m =
    each_part G (λ w. ReadingNumber (part G w).outside) (omega arith, inl (omega arith)) (omega arith, inl (omega arith))
    (omega arith, inr (omega arith)) (omega arith, inl (omega arith)) (omega arith, inl (omega arith)) w m

pub record_numbered : (G : Setting) (t : List ℕ) {k : ℕ} → k < records G → Numbered (record_tests G t k)
unfolding Numbered
record_numbered G t {k} l =
    let at = located_at G k l in
    let outside = outside_numbered G at.1.within in
    rw (tests_located t at.2) ((omega arith, inl (omega arith)), ((omega arith, inl (omega arith)), (outside, tt)))

module _ (G : Setting) (t : List ℕ) where
  pub refused_number : {c k : ℕ} → Refused G t c k → ReadingNumber c
  refused_number (by_setting f) = failed_numbered (setting_tests G) (setting_numbered G) f
  refused_number (by_length s d) = (omega arith, inl (omega arith))
  refused_number (by_record {k = k} p l f) = failed_numbered (record_tests G t k) (record_numbered G t l) f

  setting_passed : AllHold (setting_tests G) → reading G t ≡ records_reading G t
  unfolding reading
  setting_passed s = after_passed (refusal (setting_number G) 0) (records_reading G t) (holding_number s)

  pub records_read : AllHold (setting_tests G) → length t ≡ ticket_length G → reading G t ≡ first_refusal 0 (records G) (record_number G t)
  unfolding records_reading
  records_read s long = setting_passed s ∙ rw (eq-eqb (length t) (ticket_length G) long)

  pub passed_reading : PassedTo G t (records G) → reading G t ≡ refusal 0 0
  passed_reading p = records_read p.setting p.long ∙ refusal_none 0 (records G) (record_number G t) (λ k l. holding_number (p.before k l))

  pub refused_reading : {c k : ℕ} → Refused G t c k → reading G t ≡ refusal c k
  unfolding reading records_reading
  refused_reading (by_setting f) =
      let number : setting_number G ≡ _ = failed_number f in
      after_refused (refusal (setting_number G) 0) (records_reading G t)
      (λ z. omega (arith, failed_numbered (setting_tests G) (setting_numbered G) f))
      ∙ ap (λ c. refusal c 0) number
  refused_reading (by_length s d) = setting_passed s ∙ rw (ne_eqb (length t) (ticket_length G) d)
  refused_reading (by_record {c} {k} p l f) =
      let number : record_number G t k ≡ c = failed_number f in
      records_read p.setting p.long
      ∙ refusal_is 0 (records G) k (record_number G t) l (λ i m. holding_number (p.before i m))
      (λ z. omega (arith, failed_numbered (record_tests G t k) (record_numbered G t l) f))
      ∙ ap (λ c. refusal c (0 + k)) number ∙ ap (refusal c) (omega arith)

  pub wrong_length : (length t ≢ ticket_length G) → reading G t ≡ after (refusal (setting_number G) 0) (refusal 4 0)
  unfolding reading records_reading
  wrong_length d = rw (ne_eqb (length t) (ticket_length G) d)

  record_passed : {k : ℕ} → k < records G → record_number G t k ≡ 0 → AllHold (record_tests G t k)
  record_passed {k} l z = tests_hold (record_tests G t k) (record_numbered G t l) z

  pub passed_or_refused : PassedTo G t (records G) ⊎ ((c : ℕ) × (k : ℕ) × Refused G t c k)
  passed_or_refused =
      ⊎_elim
      (λ s. elim (ℕ_discrete (length t) (ticket_length G)) [
        | yes e ↦
            ⊎_elim
            (λ z. inl (record { setting = s; long = e; before = λ i m. record_passed m (z i m) }))
            (λ o. let at = o.1 in
            let before : (i : ℕ) → i < o.0 → AllHold (record_tests G t i) = λ i m. record_passed (omega (arith, at.within)) (at.before i m) in
            ⊎_elim
            (λ h. absurd (at.other (holding_number h)))
            (λ f. inr (f.0, o.0, by_record (record { setting = s; long = e; before = before }) at.within f.1))
            (hold_or_failed (record_tests G t o.0)))
            (zeros_or_first (records G) (record_number G t))
        | no d ↦ inr (4, 0, by_length s d)
      ])
      (λ f. inr (f.0, 0, by_setting f.1))
      (hold_or_failed (setting_tests G))

pub data ReadingRow (G : Setting) : Answer → Type 0 where
  by_setting_row : {c : ℕ} → SettingRow G c → ReadingRow G (refusal c 0)
  length_row : ReadingRow G (refusal 4 0)
  record_row : (c k : ℕ) → 5 ≤ c → c ≤ 6 → k < records G → ReadingRow G (refusal c k)
  range_row : (w k : ℕ) → start G w ≤ k → k < start G w + part_size (part G w) → ReadingRow G (refusal (part G w).outside k)

-- the first of the three tests of a record that fails is one of them
record_in_table : (G : Setting) (t : List ℕ) (k w row column : ℕ) → k < records G → start G w ≤ k → k < start G w + part_size (part G w)
    → {c : ℕ} → Failed (located_tests G t k w row column) c → ReadingRow G (refusal c k)
record_in_table G t k w row column l from below (here e) = record_row 5 k (omega arith) (omega arith) l
record_in_table G t k w row column l from below (later a (here e)) = record_row 6 k (omega arith) (omega arith) l
record_in_table G t k w row column l from below (later a (later b (here e))) = range_row w k from below
record_in_table G t k w row column l from below {c = c} (later a (later b (later _ x16))) = elim x16 [ ]
