-- Counting. At most c things have the property P: each of them has a code, a number below c, and no two share one. Exactly c have
-- it where each number below c also is a code.
--
--   AtMost P c        at most c things have P
--   Exactly P c       exactly c things have P
--   Different d xs    any two places of the list xs hold different things; d is what get_or gives past the end
--   Word P s xs       xs is a list of s things that all have P
--   word_of_word      it is one of things that all have Q, if these have Q
--   pigeonhole        of n different numbers below c, n is at most c
--   at_most_below     at most c numbers are below c
--   at_most_through   at most c things have Q, if f takes each to a thing that has P and no two to the same
--   at_most_words     at most c ^ s lists are words of s things that have P
--   at_most_but_one   at most c - 1 things have P and are not a, where a has P
--   exactly_below, exactly_through, exactly_words, exactly_but_one   in each of these ways exactly so many, where P had exactly c
--   listed f c        the first c things that f gives, in order
--   length_listed, get_or_listed   they are c, and f n stands at place n
use Rattle.std.specs.Prelude.{◌≡◌, ℕ, zero, suc, ◌+◌, ◌-◌, ◌*◌, ◌/◌, ◌%◌, ◌^◌, ◌<◌, ◌≤◌, min, List, [], ◌∷◌, length, ◌≢◌, slice_index_or}
use Rattle.std.proofs.Math.Nat.{pow-zero, pow-suc, div-add-mod'}
use Rattle.std.proofs.Common.{mod-lt, div-lt_iff_lt-mul, arith, sym, ◌∙◌, subst}
use Rattle.std.proofs.Math.Arith.{digits_lt, digits_div, digits_mod}
use Rattle.std.proofs.Math.Path.{refl, ap}
use Rattle.residue.proofs.Laws.Modulo.{factor_positive}
pub mod ExactlyButOne

pub record AtMost {A : Type 0} (P : A → Type 0) (c : ℕ) : Type 0 where
  pub code : A → ℕ
  pub below : (a : A) → P a → code a < c
  pub apart : (a b : A) → P a → P b → code a ≡ code b → a ≡ b

pub record Exactly {A : Type 0} (P : A → Type 0) (c : ℕ) : Type 0 where
  pub most : AtMost P c
  pub member : ℕ → A
  pub has : (n : ℕ) → n < c → P (member n)
  pub coded : (n : ℕ) → n < c → most.code (member n) ≡ n

abbrev pub Different : {A : Type 0} → A → List A → Type 0
Different d xs = (i j : ℕ) → i < j → j < length xs → slice_index_or xs i d ≢ slice_index_or xs j d

abbrev pub Word : {A : Type 0} → (A → Type 0) → ℕ → List A → Type 0
Word P zero [] = Unit {0}
Word P zero (x ∷ xs) = ⊥
Word P (suc s) [] = ⊥
Word P (suc s) (x ∷ xs) = P x × Word P s xs

pub word_of_word : {A : Type 0} {P Q : A → Type 0} → ((a : A) → P a → Q a) → (s : ℕ) (xs : List A) → Word P s xs → Word Q s xs
word_of_word h zero [] w = w
word_of_word h zero (x ∷ xs) w = absurd w
word_of_word h (suc s) [] w = absurd w
word_of_word h (suc s) (x ∷ xs) w = (h x w.0, word_of_word h s xs w.1)

-- x, less one where it is above v: the numbers other than v close the gap that v leaves
close_gap : ℕ → ℕ → ℕ
close_gap v x = x - min 1 (x - v)

gap_below : {v x c : ℕ} → v < c → x < c → (x ≢ v) → close_gap v x < c - 1
unfolding close_gap
gap_below {v} {x} {c} h k n = omega arith

-- x comes back by one more where close_gap v x is not below v
gap_opens : (v x : ℕ) → (x ≢ v) → close_gap v x + min 1 (suc (close_gap v x) - v) ≡ x
unfolding close_gap
gap_opens v x n = omega arith

gap_apart : {v x y : ℕ} → (x ≢ v) → (y ≢ v) → close_gap v x ≡ close_gap v y → x ≡ y
gap_apart {v} {x} {y} m n e = cc (gap_opens v x m, gap_opens v y n)

-- the last number is taken out, and the others close its gap
pub pigeonhole : (n c : ℕ) (f : ℕ → ℕ) → ((i : ℕ) → i < n → f i < c) → ((i j : ℕ) → i < j → j < n → f i ≢ f j) → n ≤ c
pigeonhole zero c f below apart = omega arith
pigeonhole (suc n) c f below apart =
    omega (
      arith,
      below n (omega arith),
      pigeonhole n (c - 1) (λ i. close_gap (f n) (f i))
          (λ i l. gap_below (below n (omega arith)) (below i (omega arith)) (other i l))
          (λ i j l k e. apart i j l (omega arith) (gap_apart (other i (omega arith)) (other j k) e)),
    )
  where
    other : (i : ℕ) → i < n → f i ≢ f n
    other i l = apart i n l (omega arith)

pub at_most_below : (c : ℕ) → AtMost (λ (n : ℕ). n < c) c
at_most_below c = record { code = λ n. n; below = λ n h. h; apart = λ m n h k e. e }

pub at_most_through : {A B : Type 0} {P : A → Type 0} {Q : B → Type 0} {c : ℕ} → AtMost P c → (f : B → A)
    → ((b : B) → Q b → P (f b)) → ((a b : B) → Q a → Q b → f a ≡ f b → a ≡ b) → AtMost Q c
at_most_through m f into apart =
    record {
      code = λ b. m.code (f b);
      below = λ b q. m.below _ (into b q);
      apart = λ a b p q e. apart a b p q (m.apart _ _ (into a p) (into b q) e);
    }

module _ {A : Type 0} {P : A → Type 0} {c : ℕ} (m : AtMost P c) where
  -- the digits of a word to the base c, the first thing's last
  word_code : List A → ℕ
  word_code [] = 0
  word_code (x ∷ xs) = word_code xs * c + m.code x

  word_below : (s : ℕ) (xs : List A) → Word P s xs → word_code xs < c ^ s
  unfolding word_code
  word_below zero [] w = rw pow-zero (omega arith)
  word_below zero (x ∷ xs) w = elim w [ ]
  word_below (suc s) [] w = elim w [ ]
  word_below (suc s) (x ∷ xs) w = rw pow-suc (digits_lt (word_below s xs w.1) (m.below x w.0))

  word_apart : (s : ℕ) (xs ys : List A) → Word P s xs → Word P s ys → word_code xs ≡ word_code ys → xs ≡ ys
  unfolding word_code
  word_apart zero [] [] v w e = refl
  word_apart zero [] (y ∷ ys) v w e = elim w [ ]
  word_apart zero (x ∷ xs) ys v w e = elim v [ ]
  word_apart (suc s) [] ys v w e = elim v [ ]
  word_apart (suc s) (x ∷ xs) [] v w e = elim w [ ]
  word_apart (suc s) (x ∷ xs) (y ∷ ys) v w e =
      let h = m.below x v.0 in
      let k = m.below y w.0 in
      cc (
        m.apart x y v.0 w.0 (cc (digits_mod (word_code xs) h, digits_mod (word_code ys) k)),
        word_apart s xs ys v.1 w.1 (cc (digits_div (word_code xs) h, digits_div (word_code ys) k)),
      )

  pub at_most_words : (s : ℕ) → AtMost (Word P s) (c ^ s)
  at_most_words s = record { code = word_code; below = word_below s; apart = word_apart s }

  pub at_most_but_one : (a : A) → P a → AtMost (λ (b : A). P b × (b ≢ a)) (c - 1)
  at_most_but_one a p =
      record {
        code = λ b. close_gap (m.code a) (m.code b);
        below = λ b h. gap_below (m.below a p) (m.below b h.0) (other b h);
        apart = λ b d h k e. m.apart b d h.0 k.0 (gap_apart (other b h) (other d k) e);
      }
    where
      other : (b : A) → P b × (b ≢ a) → m.code b ≢ m.code a
      other b h e = h.1 (m.apart b a h.0 p e)

-- x, one more from v on: the numbers make room for v
open_gap : ℕ → ℕ → ℕ
open_gap v x = x + min 1 (suc x - v)

gap_within : (v : ℕ) {x c : ℕ} → x < c - 1 → open_gap v x < c
unfolding open_gap
gap_within v {x} {c} h = omega arith

gap_free : (v x : ℕ) → open_gap v x ≢ v
unfolding open_gap
gap_free v x e = omega arith

gap_closes : (v x : ℕ) → close_gap v (open_gap v x) ≡ x
unfolding close_gap open_gap
gap_closes v x = omega arith

pub exactly_below : (c : ℕ) → Exactly (λ (n : ℕ). n < c) c
unfolding at_most_below
exactly_below c = record { most = at_most_below c; member = λ n. n; has = λ n h. h; coded = λ n h. refl }

pub listed : {A : Type 0} → (ℕ → A) → ℕ → List A
listed f zero = []
listed f (suc c) = f 0 ∷ listed (λ n. f (suc n)) c

pub length_listed : {A : Type 0} (f : ℕ → A) (c : ℕ) → length (listed f c) ≡ c
unfolding listed
length_listed f zero = refl
length_listed f (suc c) = ap suc (length_listed (λ n. f (suc n)) c)

pub get_or_listed : {A : Type 0} (f : ℕ → A) (c n : ℕ) (d : A) → n < c → slice_index_or (listed f c) n d ≡ f n
unfolding listed
get_or_listed f zero n d h = absurd (omega arith)
get_or_listed f (suc c) zero d h = refl
get_or_listed f (suc c) (suc n) d h = get_or_listed (λ n. f (suc n)) c n d (omega arith)

module _ {A : Type 0} {P : A → Type 0} {c : ℕ} (m : Exactly P c) where
  -- the word whose digits to the base c are those of n
  word_of : ℕ → ℕ → List A
  word_of zero n = []
  word_of (suc s) n = m.member (n % c) ∷ word_of s (n / c)

  word_has : (s n : ℕ) → n < c ^ s → Word P s (word_of s n)
  unfolding word_of
  word_has zero n h = tt
  word_has (suc s) n h =
      let k : n < c ^ s * c = rw pow-suc at h in
      let base = factor_positive (c ^ s) c n k in
      (m.has _ (mod-lt n base), word_has s (n / c) ((div-lt_iff_lt-mul base).1 k))

  word_coded : (s n : ℕ) → n < c ^ s → word_code m.most (word_of s n) ≡ n
  unfolding word_of word_code
  word_coded zero n h = omega (arith, rw pow-zero at h)
  word_coded (suc s) n h =
      let k : n < c ^ s * c = rw pow-suc at h in
      let base = factor_positive (c ^ s) c n k in
      cc (m.coded _ (mod-lt n base), word_coded s (n / c) ((div-lt_iff_lt-mul base).1 k), div-add-mod' n c)
