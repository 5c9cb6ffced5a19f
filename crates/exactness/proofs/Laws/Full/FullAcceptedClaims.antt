-- What rests on Full.
--
--   full_answer_of          where the condition of the answer a holds, a is the answer
--   full_answered           for some a it holds
--   full_answer_exactly     the answer is a exactly when it holds
--   full_answer_in_table    every answer is a row of the table
--   full_accepted_claims    a ticket is accepted exactly when it passes and every claim is true
use Rattle.std.specs.Prelude.{ℕ, ◌+◌, ◌*◌, ◌/◌, ◌%◌, ◌<◌, ◌≡◌, refl, true, ◌↔◌, List}
use Rattle.std.proofs.Math.Nat.{div-add-mod', mod-lt}
use Rattle.std.proofs.Common.{div-lt_iff_lt-mul, arith, sym, ◌∙◌}
use Rattle.std.proofs.Math.Decide.{ℕ_discrete}
use Rattle.std.proofs.Math.Path.{ap}
use Rattle.std.proofs.Math.Bool.{true≢false}
use Rattle.std.proofs.Math.Logic.{⊎_elim}
use Rattle.std.proofs.Math.Arith.{digits_lt}
use Rattle.algebra.proofs.Laws.Positions.{by_rows}
use Rattle.ticket.specs.declared.setting.Setting.{Setting}
use Rattle.ticket.specs.declared.Answer.{Answer}
use Rattle.ticket.specs.Rules.{refusal, reading, Passes}
use Rattle.ticket.proofs.Laws.First.{holds_or_first}
use Rattle.ticket.proofs.Laws.Scans.{scan_none, scan_is, after_refused}
use Rattle.ticket.proofs.Laws.Refusals.{passed_reading, passed_or_refused, refused_reading, refused_number}
use Rattle.full.specs.Rules.{holds, untrue, full_verdict, full_check, FullAccepted}
use Rattle.full.proofs.Laws.Same.{same_equal}
use Rattle.exactness.proofs.Laws.Full.{first_untrue, refused, all_true, AllTrue, FirstUntrue, FullAnswered, FullRow, all_true_of, fails, holds_exactly, in_table, some_column, verdict_next}

module _ (G : Setting) (t : List ℕ) where
  -- every claim before the first untrue one holds
  holds_before : {i j : ℕ} → FirstUntrue G t i j → (c : ℕ) → c < i * G.columns + j → holds G t c ≡ true
  holds_before {i} {j} u c l =
      by_rows (λ c. c < i * G.columns + j → holds G t c ≡ true) {rows = i + 1} G.columns
      (λ k m row column below. ((holds_exactly G t) k m column).1 (elim (ℕ_discrete k i) [
        | yes e ↦ rw e (u.columns_before m (omega (arith, ap (λ n. n * G.columns) e)))
        | no d ↦ u.rows_before k m (omega arith) column
      ]))
      c (omega (arith, u.column_within)) l

  all_hold : AllTrue G t → (c : ℕ) → c < G.rows * G.columns → holds G t c ≡ true
  all_hold a = by_rows (λ c. holds G t c ≡ true) G.columns (λ i j l m. ((holds_exactly G t) i j m).1 (a.claims i j l m))

  pub full_answer_of : {a : Answer} → FullAnswered G t a → full_check G t ≡ a
  unfolding full_check full_verdict
  full_answer_of (refused {c} {k} r) =
      let e : reading G t ≡ refusal c k = refused_reading G t r in
      after_refused (reading G t) _ (λ z. omega (arith, refused_number G t r, ap (λ a. a.number) e)) ∙ e
  full_answer_of (first_untrue u) =
      (verdict_next G t) u.ticket
      ∙ scan_is _ _ (holds G t) (untrue G) _ (digits_lt u.row_within u.column_within) (holds_before u) ((fails G t) u)
  full_answer_of (all_true a) = (verdict_next G t) a.ticket ∙ scan_none _ (holds G t) (untrue G) _ (all_hold a)

  answered_claims : Passes G t → (a : Answer) × FullAnswered G t a
  unfolding holds
  answered_claims p =
      ⊎_elim
      (λ h. (_, all_true (record { ticket = p; claims = λ i j l m. ((holds_exactly G t) i j m).0 (h (i * G.columns + j) (digits_lt l m)) })))
      (λ f. let c = f.0 in
      let i = c / G.columns in
      let j = c % G.columns in
      let split = div-add-mod' c G.columns in
      let inside : j < G.columns = mod-lt c ((some_column G t) p) in (
        _,
        first_untrue (record {
          ticket = p;
          row_within = (div-lt_iff_lt-mul ((some_column G t) p)).1 f.1.within;
          column_within = inside;
          rows_before = λ k l b m. ((holds_exactly G t) k l m).0 (f.1.before (k * G.columns + l) (omega (arith, digits_lt b m)));
          columns_before = λ l b. ((holds_exactly G t) i l (omega arith)).0 (f.1.before (i * G.columns + l) (omega arith));
          untrue_here = λ e. true≢false (sym (same_equal _ _ e) ∙ f.1.fails);
        }),
      ))
      (holds_or_first (G.rows * G.columns) (holds G t))

  pub full_answered : (a : Answer) × FullAnswered G t a
  full_answered =
      ⊎_elim (λ p. answered_claims (ap (λ a. a.number) (passed_reading G t p))) (λ r. (refusal r.0 r.1, refused r.2))
      (passed_or_refused G t)

  pub full_answer_exactly : (a : Answer) → (full_check G t ≡ a) ↔ FullAnswered G t a
  full_answer_exactly a = (
    λ e. let same : full_answered.0 ≡ a = sym (full_answer_of full_answered.1) ∙ e in rw same at full_answered.1,
    full_answer_of,
  )

  pub full_answer_in_table : FullRow G (full_check G t)
  full_answer_in_table = (in_table G t) ((full_answer_exactly (full_check G t)).0 refl)

  pub full_accepted_claims : FullAccepted G t ↔ AllTrue G t
  full_accepted_claims = (
    (all_true_of G t) ((full_answer_exactly (full_check G t)).0 refl),
    λ a. ap (λ a. a.number) (full_answer_of (all_true a)),
  )
