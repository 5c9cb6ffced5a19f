-- What rests on Counting.
--
--   at_most_members   a list of different things that all have P is at most c long
--   exactly_members   some list of different things that all have P is c long
use Rattle.std.specs.Prelude.{◌≡◌, ℕ, ◌-◌, ◌^◌, ◌<◌, ◌≤◌, List, length, ◌≢◌, slice_index_or}
use Rattle.std.proofs.Common.{arith, sym, ◌∙◌, subst}
use Rattle.std.proofs.Math.Path.{ap}
use Rattle.residue.proofs.Laws.Counting.{AtMost, Different, Exactly, Word, at_most_but_one, at_most_through, at_most_words, close_gap, gap_closes, gap_free, gap_within, get_or_listed, length_listed, listed, open_gap, pigeonhole, word_coded, word_has, word_of}

module _ {A : Type 0} {P : A → Type 0} {c : ℕ} (m : AtMost P c) where
  pub at_most_members : (d : A) (xs : List A) → ((i : ℕ) → i < length xs → P (slice_index_or xs i d)) → Different d xs → length xs ≤ c
  at_most_members d xs all different =
      pigeonhole (length xs) c (λ i. m.code (slice_index_or xs i d)) (λ i l. m.below _ (all i l))
      (λ i j l k e. different i j l k (m.apart _ _ (all i (omega arith)) (all j k) e))

pub exactly_through : {A B : Type 0} {P : A → Type 0} {Q : B → Type 0} {c : ℕ} → Exactly P c → (f : B → A) (g : A → B)
    → ((b : B) → Q b → P (f b)) → ((a b : B) → Q a → Q b → f a ≡ f b → a ≡ b) → ((a : A) → P a → Q (g a) × (f (g a) ≡ a))
    → Exactly Q c
unfolding at_most_through
exactly_through m f g into apart back =
    record {
      most = at_most_through m.most f into apart;
      member = λ n. g (m.member n);
      has = λ n h. (back _ (m.has n h)).0;
      coded = λ n h. ap m.most.code (back _ (m.has n h)).1 ∙ m.coded n h;
    }

module _ {A : Type 0} {P : A → Type 0} {c : ℕ} (m : Exactly P c) where
  pub exactly_members : (d : A) → (xs : List A) × (length xs ≡ c) × Different d xs × ((i : ℕ) → i < length xs → P (slice_index_or xs i d))
  exactly_members d = (
    listed m.member c,
    long,
    λ i j l k e. omega (arith, code i (omega (arith, long)), code j (omega (arith, long)), ap m.most.code e),
    λ i l. subst P (sym (get_or_listed m.member c i d (omega (arith, long)))) (m.has i (omega (arith, long))),
  )
    where
      long : length (listed m.member c) ≡ c
      long = length_listed m.member c

      code : (i : ℕ) → i < c → m.most.code (slice_index_or (listed m.member c) i d) ≡ i
      code i l = ap m.most.code (get_or_listed m.member c i d l) ∙ m.coded i l

  pub exactly_words : (s : ℕ) → Exactly (Word P s) (c ^ s)
  unfolding at_most_words
  exactly_words s = record { most = at_most_words m.most s; member = (word_of m) s; has = (word_has m) s; coded = (word_coded m) s }

  pub exactly_but_one : (a : A) → P a → Exactly (λ (b : A). P b × (b ≢ a)) (c - 1)
  unfolding at_most_but_one
  exactly_but_one a p =
      record {
        most = at_most_but_one m.most a p;
        member = λ n. m.member (open_gap v n);
        has = λ n h. (m.has _ (gap_within v h), λ e. gap_free v n (sym (m.coded _ (gap_within v h)) ∙ ap m.most.code e));
        coded = λ n h. ap (close_gap v) (m.coded _ (gap_within v h)) ∙ gap_closes v n;
      }
    where
      v : ℕ
      v = m.most.code a
