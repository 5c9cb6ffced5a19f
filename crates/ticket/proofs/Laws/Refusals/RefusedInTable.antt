-- What rests on Refusals.
--
--   reading_zero_exactly   reading answers 0 exactly when all tests pass
--   refusal_exactly        reading refuses with a number and a place exactly under their condition
--   refused_in_table       every refusal is one
use Rattle.std.specs.Prelude.{◌≡◌, ℕ, ◌↔◌, List, ◌≢◌}
use Rattle.std.proofs.Common.{arith, sym, ◌∙◌, ⊎_elim}
use Rattle.std.proofs.Math.Path.{ap}
use Rattle.ticket.specs.declared.setting.Setting.{Setting}
use Rattle.ticket.specs.Rules.{refusal, records, reading}
use Rattle.ticket.proofs.Laws.Limits.SettingInTable.{setting_in_table}
use Rattle.ticket.proofs.Laws.Layout.{located_at, tests_located}
use Rattle.ticket.proofs.Laws.Refusals.{by_setting, by_length, by_record, by_setting_row, length_row, PassedTo, ReadingRow, Refused, passed_or_refused, passed_reading, record_in_table, refused_number, refused_reading}

module _ (G : Setting) (t : List ℕ) where
  pub reading_zero_exactly : (reading G t ≡ refusal 0 0) ↔ PassedTo G t (records G)
  reading_zero_exactly = (
    λ e. ⊎_elim (λ p. p)
        (λ x. absurd (omega (arith, (refused_number G t) x.2, ap (λ a. a.number) (sym ((refused_reading G t) x.2) ∙ e))))
        (passed_or_refused G t),
    (passed_reading G t),
  )

  pub refusal_exactly : (c k : ℕ) → (c ≢ 0) → (reading G t ≡ refusal c k) ↔ Refused G t c k
  refusal_exactly c k d = (
    λ e. ⊎_elim
        (λ p. absurd (d (ap (λ a. a.number) (sym e ∙ (passed_reading G t) p))))
        (λ x. let same = sym ((refused_reading G t) x.2) ∙ e in
        let number : x.0 ≡ c = ap (λ a. a.number) same in
        let place : x.1 ≡ k = ap (λ a. a.place) same in
        rw number at (rw place at x.2))
        (passed_or_refused G t),
    (refused_reading G t),
  )

pub refused_in_table : {G : Setting} {t : List ℕ} {c k : ℕ} → Refused G t c k → ReadingRow G (refusal c k)
refused_in_table {G} (by_setting f) = by_setting_row (setting_in_table G f)
refused_in_table (by_length s d) = length_row
refused_in_table {G} {t} (by_record {k = k} p l f) =
    let at = located_at G k l in
    record_in_table G t k at.0 _ _ l at.1.from at.1.below (rw (tests_located t at.2) at f)
