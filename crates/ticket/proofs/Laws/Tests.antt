-- Tests in order: whether all hold, or which is the first that fails, over the rule `first_failed`.
--
--   Failed l c         the first test of l that fails has the number c
--   hold_or_failed     one of the two is so
--   holding_number     where all hold, the number is 0
--   failed_number      else it is that of the first that fails
--   ReadingNumber c    c may be the number of a reading or range check: it is not 0, nor that of a later test
--   reading_not_later  it is none of 10 to 16
--   Numbered l         the numbers of all tests are such
--   failed_numbered    so is then that of the first that fails
--   same_test          two comparisons that say the same are equal
--   first_holds, rest_hold   the first of several tests that all hold does, and so do the others
--   hold_then, failed_before, failed_last   the tests of l and then T: all hold, or one of l fails first, or T alone fails
--   failed_split       where one fails first, it is one of l, or T after all of l
use Rattle.std.specs.Prelude.{◌≡◌, ℕ, ◌<◌, ◌≤◌, true, false, ◌⊎◌, List, [], ◌∷◌, ◌++◌, nat_le, nat_lt, refl}
use Rattle.std.proofs.Math.Decide.{dec_le}
use Rattle.std.proofs.Common.{arith, inl, inr, ⊎_elim, sym, ◌∙◌, le-leb, lt-ltb, le-ltb}
use Rattle.std.proofs.lemmas.Bool.{lt-leb}
use Rattle.ticket.specs.Rules.{Test, first_failed}
use Rattle.ticket.proofs.Laws.First.{true_or_false}
use Rattle.ticket.specs.Laws.Tests.{AllHold, none, one}
pub mod TestsHold

pub data Failed : List Test → ℕ → Type 0 where
  here : {T : Test} {rest : List Test} → T.holds ≡ false → Failed (T ∷ rest) T.number
  later : {T : Test} {rest : List Test} {c : ℕ} → T.holds ≡ true → Failed rest c → Failed (T ∷ rest) c

abbrev pub ReadingNumber : ℕ → Type 0
ReadingNumber c = (1 ≤ c) × ((c ≤ 9) ⊎ (17 ≤ c))

pub reading_not_later : {c : ℕ} → ReadingNumber c → 10 ≤ c → c ≤ 16 → ⊥
reading_not_later n low high = ⊎_elim (λ l. omega arith) (λ l. omega arith) n.1

unfoldable pub Numbered : List Test → Type 0
Numbered [] = Unit
Numbered (T ∷ rest) = ReadingNumber T.number × Numbered rest

pub first_holds : {T : Test} {rest : List Test} → AllHold (T ∷ rest) → T.holds ≡ true
first_holds (one h r) = h

pub rest_hold : {T : Test} {rest : List Test} → AllHold (T ∷ rest) → AllHold rest
rest_hold (one h r) = r

module _ (T : Test) where
  pub hold_then : {l : List Test} → AllHold l → T.holds ≡ true → AllHold (l ++ (T ∷ []))
  hold_then none e = one e none
  hold_then (one h r) e = one h (hold_then r e)

  pub failed_before : {l : List Test} {c : ℕ} → Failed l c → Failed (l ++ (T ∷ [])) c
  failed_before (here e) = here e
  failed_before (later h f) = later h (failed_before f)

  pub failed_last : {l : List Test} → AllHold l → T.holds ≡ false → Failed (l ++ (T ∷ [])) T.number
  failed_last none e = here e
  failed_last (one h r) e = later h (failed_last r e)

  pub failed_split : (l : List Test) {c : ℕ} → Failed (l ++ (T ∷ [])) c → Failed l c ⊎ (AllHold l × (T.holds ≡ false) × (T.number ≡ c))
  failed_split [] (here e) = inr (none, e, refl)
  failed_split (S ∷ rest) (here e) = inl (here e)
  failed_split (S ∷ rest) (later h f) =
      ⊎_elim (λ g. inl (later h g)) (λ g. inr (one h g.0, g.1, g.2)) (failed_split rest f)
  failed_split [] {c = c} (later h f) = elim f [ ]

pub hold_or_failed : (l : List Test) → AllHold l ⊎ ((c : ℕ) × Failed l c)
hold_or_failed [] = inl none
hold_or_failed (T ∷ rest) =
    ⊎_elim
    (λ h. ⊎_elim (λ r. inl (one h r)) (λ f. inr (f.0, later h f.1)) (hold_or_failed rest))
    (λ e. inr (T.number, here e))
    (true_or_false T.holds)

pub holding_number : {l : List Test} → AllHold l → first_failed l ≡ 0
unfolding first_failed
holding_number none = refl
holding_number (one h r) = rw h (holding_number r)

pub failed_number : {l : List Test} {c : ℕ} → Failed l c → first_failed l ≡ c
unfolding first_failed
failed_number (here e) = rw e
failed_number (later h f) = rw h (failed_number f)

pub failed_numbered : {c : ℕ} (l : List Test) → Numbered l → Failed l c → ReadingNumber c
unfolding Numbered
failed_numbered (T ∷ rest) numbered (here e) = numbered.0
failed_numbered (T ∷ rest) numbered (later h f) = failed_numbered rest numbered.1 f
failed_numbered {c = c} [] numbered x'' = elim x'' [ ]

pub same_test : (a b c d : ℕ) → (a ≤ b → c < d) → (c < d → a ≤ b) → nat_le a b ≡ nat_lt c d
same_test a b c d to from =
    elim (dec_le a b) [
      | yes h ↦ le-leb a b h ∙ sym (lt-ltb c d (to h))
      | no h ↦ lt-leb a b (omega arith) ∙ sym (le-ltb c d (elim (dec_le d c) [ yes k ↦ k | no k ↦ absurd (h (from (omega arith))) ]))
    ]
