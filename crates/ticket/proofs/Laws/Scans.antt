-- Scans: the first of several places at which a test fails makes the answer, over the rules `scan` and `first_refusal`.
--
--   scan_none       where the test holds everywhere, the answer of a scan is that of no failure
--   scan_is         it is that of place i, where the test fails there and holds before it
--   scan_by_first   it by the first place at which the test fails
--   scan_cong       equal tests give equal answers
--   refusal_none    where all numbers are 0, there is no refusal
--   refusal_is      the refusal is at i, where the number there is not 0 and those before it are
--   FirstOther n f i, zeros_or_first   either all of n numbers are 0, or there is a first that is not
--   after_passed, after_refused   an answer after an earlier one that passes, and after one that refuses
--   after_first, after_second   the same, as code makes it: the earlier answer where it refuses, else the later one
--   after_together  two answers before a third
--   refusal_cong    equal numbers give equal answers
--   refusal_split   a scan of m + n numbers is a scan of m, then one of the n after them
use Rattle.ticket.specs.Rules.{first, unless, scan, first_refusal, after, refusal}
use Rattle.ticket.proofs.Laws.First.{joined, first_none, first_is, first_cong, holds_or_first}
use Rattle.ticket.specs.declared.Answer.{Answer}
use Rattle.std.specs.Prelude.{◌≡◌, ℕ, ◌+◌, ◌<◌, Bool, true, false, cond, ◌⊎◌, ◌==◌, ◌≢◌, nat_eq, refl}
use Rattle.std.proofs.Common.{arith, inl, inr, ⊎_elim, sym, ap, ◌∙◌, eq-eqb, ne_eqb, eqb-true}
use Rattle.std.proofs.lemmas.Bool.{eqb-false}

pub scan_none : (n : ℕ) (f : ℕ → Bool) (failed : ℕ → Answer) (passed : Answer) → ((k : ℕ) → k < n → f k ≡ true)
    → scan n f failed passed ≡ passed
unfolding scan
scan_none n f failed passed h = rw (first_none n f h, eq-eqb n n refl)

pub scan_is : (n i : ℕ) (f : ℕ → Bool) (failed : ℕ → Answer) (passed : Answer) → i < n → ((k : ℕ) → k < i → f k ≡ true) → f i ≡ false
    → scan n f failed passed ≡ failed i
unfolding scan
scan_is n i f failed passed l h e = rw (first_is n i f l h e, ne_eqb i n (λ d. omega arith))

pub refusal_none : (start n : ℕ) (f : ℕ → ℕ) → ((k : ℕ) → k < n → f k ≡ 0) → first_refusal start n f ≡ refusal 0 0
unfolding first_refusal
refusal_none start n f h = scan_none n _ _ _ (λ k l. eq-eqb (f k) 0 (h k l))

pub refusal_is : (start n i : ℕ) (f : ℕ → ℕ) → i < n → ((k : ℕ) → k < i → f k ≡ 0) → (f i ≢ 0)
    → first_refusal start n f ≡ refusal (f i) (start + i)
unfolding first_refusal
refusal_is start n i f l h e = scan_is n i _ _ _ l (λ k m. eq-eqb (f k) 0 (h k m)) (ne_eqb (f i) 0 e)

pub record FirstOther (n : ℕ) (f : ℕ → ℕ) (i : ℕ) : Type 0 where
  pub within : i < n
  pub before : (k : ℕ) → k < i → f k ≡ 0
  pub other : f i ≡ 0 → ⊥

pub zeros_or_first : (n : ℕ) (f : ℕ → ℕ) → ((k : ℕ) → k < n → f k ≡ 0) ⊎ ((i : ℕ) × FirstOther n f i)
zeros_or_first n f =
    ⊎_elim
    (λ h. inl (λ k l. eqb-true (f k) 0 (h k l)))
    (λ o. let at = o.1 in
    inr (o.0, record { within = at.within; before = λ k l. eqb-true (f k) 0 (at.before k l); other = eqb-false (f o.0) 0 at.fails }))
    (holds_or_first n (λ k. nat_eq (f k) 0))

pub after_passed : (a b : Answer) → a.number ≡ 0 → after a b ≡ b
unfolding after
after_passed a b e = rw (eq-eqb a.number 0 e)

pub after_refused : (a b : Answer) → (a.number ≢ 0) → after a b ≡ a
unfolding after
after_refused a b d = rw (ne_eqb a.number 0 d)

module _ {a A : Answer} (a-is : a ≡ A) where
  pub after_first : (B : Answer) → (a.number ≢ 0) → a ≡ after A B
  after_first B d = a-is ∙ sym (after_refused _ _ (λ e. d (ap (λ x. x.number) a-is ∙ e)))

  pub after_second : {b B : Answer} → a.number ≡ 0 → b ≡ B → b ≡ after A B
  after_second z b-is = b-is ∙ sym (after_passed _ _ (sym (ap (λ x. x.number) a-is) ∙ z))

pub after_together : (a b c : Answer) → after (after a b) c ≡ after a (after b c)
unfolding after
after_together a b c = by_first (a.number == 0) refl
  where
    by_first : (zero : Bool) → (a.number == 0) ≡ zero → after (cond zero b a) c ≡ cond zero (after b c) a
    by_first true e = refl
    by_first false e = rw e

pub refusal_cong : (start n : ℕ) (f g : ℕ → ℕ) → ((k : ℕ) → k < n → f k ≡ g k) → first_refusal start n f ≡ first_refusal start n g
refusal_cong start n f g h =
    ⊎_elim
    (λ z. refusal_none start n f z ∙ sym (refusal_none start n g (λ k l. sym (h k l) ∙ z k l)))
    (λ o. let at = o.1 in
    refusal_is start n o.0 f at.within at.before at.other
    ∙ rw (h o.0 at.within) (sym (refusal_is start n o.0 g at.within
    (λ k l. sym (h k (omega (arith, at.within))) ∙ at.before k l) (λ z. at.other (h o.0 at.within ∙ z)))))
    (zeros_or_first n f)

pub refusal_split : (start m n : ℕ) (f : ℕ → ℕ)
    → first_refusal start (m + n) f ≡ after (first_refusal start m f) (first_refusal (start + m) n (λ i. f (m + i)))
refusal_split start m n f =
    ⊎_elim
    (λ z. rw (refusal_none start m f z, after_passed (refusal 0 0) (first_refusal (start + m) n (λ i. f (m + i))) refl)
    (⊎_elim
    (λ y. refusal_none start (m + n) f (joined (λ k. f k ≡ 0) z y) ∙ sym (refusal_none (start + m) n _ y))
    (λ o. let i = o.0 in
    let at = o.1 in
    refusal_is start (m + n) (m + i) f (omega (arith, at.within)) (joined (λ k. f k ≡ 0) z at.before) at.other
    ∙ ap (refusal (f (m + i))) (omega arith) ∙ sym (refusal_is (start + m) n i _ at.within at.before at.other))
    (zeros_or_first n (λ i. f (m + i)))))
    (λ o. let at = o.1 in
    refusal_is start (m + n) o.0 f (omega (arith, at.within)) at.before at.other
    ∙ sym (rw (refusal_is start m o.0 f at.within at.before at.other) (after_refused _ _ at.other)))
    (zeros_or_first m f)

pub scan_by_first : (n : ℕ) (f : ℕ → Bool) (failed : ℕ → Answer) (passed : Answer)
    → scan n f failed passed ≡ unless (first n f == n) (failed (first n f)) passed
unfolding scan
scan_by_first n f failed passed = refl

pub scan_cong : (n : ℕ) (f g : ℕ → Bool) (failed : ℕ → Answer) (passed : Answer) → ((k : ℕ) → k < n → f k ≡ g k)
    → scan n f failed passed ≡ scan n g failed passed
unfolding scan
scan_cong n f g failed passed h = rw (first_cong n f g h)
