-- Vectors as lists: a vector without one entry, and a list of numbers cut into vectors of the same size.
--
--   word_of_entries, entries_of_word   a list of n numbers that all have P is a word of n things that have P, and the other way round
--   without j x       the list x without its number j
--   without_word      a word of n + 1 things without one of them is a word of n
--   without_apart     lists of one size that are the same without number j agree at every other number
--   vector_same       vector t of a list of s vectors of n numbers is the n numbers from number t * n on
--   cut n s x         the first s vectors of n numbers of the list x
--   cut_word, cut_vectors   if these all have Q, they are a word of s things that have Q, and the other way round
--   cut_flatten       s vectors of n numbers, put one after the other, are s * n numbers that are cut into the same vectors
use Rattle.std.specs.Prelude.{ℕ, zero, suc, ◌+◌, ◌*◌, ◌≤◌, ◌<◌, ◌≡◌, refl, length, get_or, take, drop}
use Rattle.std.proofs.Common.{add_comm, zero-mul, suc-mul, mul-le-mul_right, arith, sym, ap, ◌∙◌, length-drop, length-append, take-append-drop, length-take-le, get_or-take, get_or-drop, drop-drop}
use mathlib.Core.List.{List, [], ◌∷◌, ◌++◌, flatten}
use Rattle.std.proofs.Math.Seq.{take-append_seam, drop-append_seam}
use Rattle.residue.proofs.Laws.Counting.{Word}
pub mod CutApart

pub word_of_entries : (P : ℕ → Type 0) (n : ℕ) (x : List ℕ) → length x ≡ n → ((k : ℕ) → k < n → P (get_or x k 0)) → Word P n x
word_of_entries P zero [] e h = tt
word_of_entries P zero (x ∷ xs) e h = absurd (omega arith)
word_of_entries P (suc n) [] e h = absurd (omega arith)
word_of_entries P (suc n) (x ∷ xs) e h =
    (h 0 (omega arith), word_of_entries P n xs (omega arith) (λ k l. h (suc k) (omega arith)))

pub entries_of_word : (P : ℕ → Type 0) (n : ℕ) (x : List ℕ) → Word P n x → (length x ≡ n) × ((k : ℕ) → k < n → P (get_or x k 0))
entries_of_word P zero [] w = (refl, λ k l. absurd (omega arith))
entries_of_word P zero (x ∷ xs) w = absurd w
entries_of_word P (suc n) [] w = absurd w
entries_of_word P (suc n) (x ∷ xs) w = let rest = entries_of_word P n xs w.1 in (ap suc rest.0, each rest.1)
  where
    each : ((k : ℕ) → k < n → P (get_or xs k 0)) → (k : ℕ) → k < suc n → P (get_or (x ∷ xs) k 0)
    each rest zero l = w.0
    each rest (suc k) l = rest k (omega arith)

pub without : ℕ → List ℕ → List ℕ
without j [] = []
without zero (x ∷ xs) = xs
without (suc j) (x ∷ xs) = x ∷ without j xs

pub without_word : (P : ℕ → Type 0) (n j : ℕ) (x : List ℕ) → j ≤ n → Word P (suc n) x → Word P n (without j x)
unfolding without
without_word P n zero (x ∷ xs) l w = w.1
without_word P zero (suc j) (x ∷ xs) l w = absurd (omega arith)
without_word P (suc n) (suc j) (x ∷ xs) l w = (w.0, without_word P n j xs (omega arith) w.1)
without_word P n zero [] l w = elim w [ ]
without_word P zero (suc j) [] l w = elim l [ ]
without_word P (suc n) (suc j) [] l w = elim w [ ]

pub without_apart : (j : ℕ) (x y : List ℕ) → length x ≡ length y → without j x ≡ without j y
    → (k : ℕ) → (k ≡ j → ⊥) → get_or x k 0 ≡ get_or y k 0
unfolding without
without_apart j [] [] e d k other = refl
without_apart j [] (y ∷ ys) e d k other = absurd (omega arith)
without_apart j (x ∷ xs) [] e d k other = absurd (omega arith)
without_apart zero (x ∷ xs) (y ∷ ys) e d zero other = absurd (other refl)
without_apart zero (x ∷ xs) (y ∷ ys) e d (suc k) other = ap (λ l. get_or l k 0) d
without_apart (suc j) (x ∷ xs) (y ∷ ys) e d zero other = cc
without_apart (suc j) (x ∷ xs) (y ∷ ys) e d (suc k) other =
    without_apart j xs ys (omega arith) (cc) k (λ z. other (ap suc z))

pub vector_same : (n s : ℕ) (x : List ℕ) → length x ≡ s * n → (t : ℕ) → t < s
    → (length (take n (drop (t * n) x)) ≡ n) × ((k : ℕ) → k < n → get_or x (t * n + k) 0 ≡ get_or (take n (drop (t * n) x)) k 0)
vector_same n s x size t l = (
  length-take-le n (drop (t * n) x) (omega (arith, length-drop (t * n) x, mul-le-mul_right n l)),
  λ k m. sym (get_or-take n (drop (t * n) x) k 0 m ∙ get_or-drop (t * n) x k 0),
)

pub cut : ℕ → ℕ → List ℕ → List (List ℕ)
cut n zero x = []
cut n (suc s) x = take n x ∷ cut n s (drop n x)

pub cut_word : (Q : List ℕ → Type 0) (n s : ℕ) (x : List ℕ) → ((t : ℕ) → t < s → Q (take n (drop (t * n) x)))
    → Word Q s (cut n s x)
unfolding cut
cut_word Q n zero x h = tt
cut_word Q n (suc s) x h = (
  rw (zero-mul n) at (h 0 (omega arith)),
  cut_word Q n s (drop n x)
      (λ t l. rw (drop-drop (t * n) n x) (rw (suc-mul t n, add_comm (t * n) n) at (h (suc t) (omega arith)))),
)

pub cut_vectors : (Q : List ℕ → Type 0) (n s : ℕ) (x : List ℕ) → Word Q s (cut n s x)
    → (t : ℕ) → t < s → Q (take n (drop (t * n) x))
unfolding cut
cut_vectors Q n zero x w t l = absurd (omega arith)
cut_vectors Q n (suc s) x w zero l = rw (zero-mul n) w.0
cut_vectors Q n (suc s) x w (suc t) l =
    rw (suc-mul t n, add_comm (t * n) n) (rw (drop-drop (t * n) n x) at (cut_vectors Q n s (drop n x) w.1 t (omega arith)))

-- the vectors one after the other are the list again
flatten_cut : (n s : ℕ) (x : List ℕ) → length x ≡ s * n → flatten (cut n s x) ≡ x
unfolding cut flatten
flatten_cut n zero [] e = refl
flatten_cut n zero (x ∷ xs) e = absurd (omega arith)
flatten_cut n (suc s) x e =
    ap (λ l. take n x ++ l) (flatten_cut n s (drop n x) (omega (arith, length-drop n x))) ∙ take-append-drop n x

pub cut_flatten : (n s : ℕ) (ys : List (List ℕ)) → Word (λ (y : List ℕ). length y ≡ n) s ys
    → (length (flatten ys) ≡ s * n) × (cut n s (flatten ys) ≡ ys)
unfolding cut flatten
cut_flatten n zero [] w = (sym (zero-mul n), refl)
cut_flatten n zero (y ∷ ys) w = absurd w
cut_flatten n (suc s) [] w = absurd w
cut_flatten n (suc s) (y ∷ ys) w =
    let rest = cut_flatten n s ys w.1 in
    let first : take n (y ++ flatten ys) ≡ y = rw (← w.0) (take-append_seam y (flatten ys)) in
    let others : drop n (y ++ flatten ys) ≡ flatten ys = rw (← w.0) (drop-append_seam y (flatten ys)) in
    (omega (arith, length-append y (flatten ys), rest.0, w.0, suc-mul s n), cc (first, ap (cut n s) others, rest.1))
