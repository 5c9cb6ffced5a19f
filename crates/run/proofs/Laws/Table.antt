-- Every answer of the three calls is a row of the published table (S2).
--
--   StateRow b         b is the answer of a state by itself: complete, caught or under way, its numbers within their bounds
--   state_in_table     that of every state is
--   ListRow G a        a is a refusal of the tests of a list: its length, a number, or a vector of zeros
--   TestsRow G a       a is a refusal of the ordinary tests
--   AdditionRow P a    a is a refusal of the tests of an addition
--   CallRow R Q b      b is a refusal that is a row of Q, handing back the state R, or the answer of a state
use Rattle.std.specs.Prelude.{ℕ, ◌*◌, ◌≤◌, ◌<◌, ◌≡◌, refl, Bool, true, false, ◌||◌, List, ◌++◌, ◌⊎◌}
use Rattle.std.proofs.Math.Decide.{ℕ_discrete}
use Rattle.std.proofs.Common.{sym, ap, subst, ◌∙◌, inl, inr, ⊎_elim, leb-true}
use Rattle.ticket.specs.declared.published.PlainSetting.{PlainSetting}
use Rattle.ticket.specs.declared.setting.Setting.{Setting}
use Rattle.ticket.specs.declared.Answer.{Answer}
use Rattle.ticket.specs.Rules.{answer, refusal, unless, after, reading, plain, setting_number}
use Rattle.ticket.proofs.Laws.First.{true_or_false}
use Rattle.ticket.proofs.Laws.Limits.BiasSmall.{SettingRow}
use Rattle.ticket.proofs.Laws.Limits.SettingInTable.{setting_in_table}
use Rattle.ticket.proofs.Laws.Refusals.{ReadingRow, passed_or_refused, passed_reading, refused_reading}
use Rattle.ticket.proofs.Laws.Refusals.RefusedInTable.{refused_in_table}
use Rattle.ticket.proofs.Laws.Scans.{after_passed, after_refused}
use Rattle.ticket.proofs.Laws.Tests.{hold_or_failed, holding_number, failed_number}
use Rattle.challenge.specs.Rules.{testing, list_reading, challenge_products, caught_products}
use Rattle.challenge.proofs.Laws.Lists.{ListAnswer, other_count, large_number, zero_at, formed, list_answered}
use Rattle.run.specs.declared.Run.{Run}
use Rattle.run.specs.declared.RunAnswer.{RunAnswer}
use Rattle.run.specs.Rules.{layer, held_list, is_past, is_caught, products_done, under_way, caught_mark, complete, refused, marked, standing, tested, zeros, begun, beginning, stepping, one_more, lengthened, is_open, addition_reading, adding}
use Rattle.run.proofs.Laws.States.{not_past, standing_past, standing_caught, standing_under, tested_refused, tested_passed}
pub mod AddInTable

pub data StateRow : RunAnswer → Type 0 where
  complete_row : (R : Run) → (R.setting.vectors ≤ R.vector) ⊎ (R.setting.rows ≤ R.row)
      → StateRow (marked R complete (answer 0 0 0 (challenge_products (layer R))))
  caught_row : (R : Run) → R.vector < R.setting.vectors → R.row < R.setting.rows
      → StateRow (marked R caught_mark (answer 12 R.vector R.row (caught_products (layer R) R.vector R.row)))
  under_way_row : (R : Run) → R.vector < R.setting.vectors → R.row < R.setting.rows
      → StateRow (marked R under_way (answer 0 R.vector R.row (products_done (layer R) R.vector R.row)))

pub data ListRow (G : Setting) : Answer → Type 0 where
  length_row : ListRow G (refusal 10 0)
  number_row : (k : ℕ) → k < G.vectors * G.columns → ListRow G (refusal 11 k)
  zeros_row : (τ : ℕ) → τ < G.vectors → ListRow G (refusal 21 τ)

pub data TestsRow (G : Setting) : Answer → Type 0 where
  ticket_row : {a : Answer} → ReadingRow G a → TestsRow G a
  list_row : {a : Answer} → ListRow G a → TestsRow G a

pub data AdditionRow (P : PlainSetting) : Answer → Type 0 where
  setting_row : {c : ℕ} → SettingRow (plain P) c → AdditionRow P (refusal c 0)
  held_row : {a : Answer} → ListRow (plain P) a → AdditionRow P a
  longer_row : {a : Answer} → ListRow (plain (one_more P)) a → AdditionRow P a
  closed_row : AdditionRow P (refusal 22 0)

pub data CallRow (R : Run) (Q : Answer → Type 0) : RunAnswer → Type 0 where
  refused_row : {a : Answer} → Q a → CallRow R Q (marked R refused a)
  state_row : {b : RunAnswer} → StateRow b → CallRow R Q b

either : (a b : Bool) → (a || b) ≡ true → (a ≡ true) ⊎ (b ≡ true)
either true b e = inl refl
either false b e = inr e

past_place : (R : Run) → is_past R ≡ true → (R.setting.vectors ≤ R.vector) ⊎ (R.setting.rows ≤ R.row)
unfolding is_past
past_place R e = ⊎_elim (λ h. inl (leb-true _ _ h)) (λ h. inr (leb-true _ _ h)) (either _ _ e)

pub state_in_table : (R : Run) → StateRow (standing R)
state_in_table R =
    ⊎_elim
    (λ past. subst StateRow (sym (standing_past R past)) (complete_row R (past_place R past)))
    (λ inside. let there = not_past R inside in
    ⊎_elim
    (λ stopped. subst StateRow (sym (standing_caught R inside stopped)) (caught_row R there.0 there.1))
    (λ free. subst StateRow (sym (standing_under R inside free)) (under_way_row R there.0 there.1))
    (true_or_false (is_caught R)))
    (true_or_false (is_past R))

-- an answer in two parts, where it refuses
two_parts : (Q : Answer → Type 0) (a b : Answer) → ((a.number ≡ 0 → ⊥) → Q a) → ((b.number ≡ 0 → ⊥) → Q b)
    → ((after a b).number ≡ 0 → ⊥) → Q (after a b)
two_parts Q a b first second d =
    elim (ℕ_discrete a.number 0) [
      | yes z ↦ let is = after_passed a b z in subst Q (sym is) (second (λ e. d (ap (λ x. x.number) is ∙ e)))
      | no e ↦ subst Q (sym (after_refused a b e)) (first e)
    ]

list_in_table : (G : Setting) (x : List ℕ) → ((list_reading G x).number ≡ 0 → ⊥) → ListRow G (list_reading G x)
list_in_table G x = row_of (list_answered G x)
  where
    row_of : {a : Answer} → ListAnswer G x a → (a.number ≡ 0 → ⊥) → ListRow G a
    row_of (other_count d) other = length_row
    row_of (large_number {k} e l h m) other = number_row k l
    row_of (zero_at {τ} e all l h z) other = zeros_row τ l
    row_of (formed h) other = absurd (other refl)

reading_in_table : (G : Setting) (t : List ℕ) → ((reading G t).number ≡ 0 → ⊥) → ReadingRow G (reading G t)
reading_in_table G t d =
    ⊎_elim
    (λ p. absurd (d (ap (λ a. a.number) (passed_reading G t p))))
    (λ r. subst (ReadingRow G) (sym (refused_reading G t r.2)) (refused_in_table r.2))
    (passed_or_refused G t)

tests_in_table : (G : Setting) (t x : List ℕ) → ((testing G t x).number ≡ 0 → ⊥) → TestsRow G (testing G t x)
tests_in_table G t x =
    two_parts (TestsRow G) (reading G t) (list_reading G x) (λ d. ticket_row (reading_in_table G t d)) (λ d. list_row (list_in_table G x d))

setting_refused : (P : PlainSetting) → (setting_number (plain P) ≡ 0 → ⊥) → AdditionRow P (refusal (setting_number (plain P)) 0)
setting_refused P d =
    ⊎_elim
    (λ h. absurd (d (holding_number h)))
    (λ f. rw (failed_number f.1) (setting_row (setting_in_table (plain P) f.1)))
    (hold_or_failed _)

addition_in_table : (R : Run) (v : List ℕ) → ((addition_reading R v).number ≡ 0 → ⊥) → AdditionRow R.setting (addition_reading R v)
unfolding addition_reading
addition_in_table R v =
    two_parts (AdditionRow R.setting) _ _ (setting_refused R.setting)
    (two_parts (AdditionRow R.setting) _ _ (λ d. held_row (list_in_table (layer R) (held_list R) d))
    (two_parts (AdditionRow R.setting) _ _ (λ d. longer_row (list_in_table (plain (one_more R.setting)) (held_list R ++ v) d)) (last_row (is_open R))))
  where
    last_row : (open' : Bool) → ((unless open' (refusal 22 0) (refusal 0 0)).number ≡ 0 → ⊥)
        → AdditionRow R.setting (unless open' (refusal 22 0) (refusal 0 0))
    last_row true d = absurd (d refl)
    last_row false d = closed_row
