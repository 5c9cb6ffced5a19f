-- The list in a challenge file, as the code reads it.
--
--   list_read        as many words as the file has numbers are its list
use Rattle.std.specs.Prelude.{ℕ, zero, suc, ◌+◌, ◌*◌, ◌<◌, ◌≡◌, List, [], ◌∷◌, length, get_or, drop}
use Rattle.std.proofs.Common.{arith, sym, ◌∙◌, get_or-drop, ext_get_or}
use Rattle.std.proofs.Math.Path.{refl, ap}
use Rattle.files.specs.Rules.{number_bytes, word_at, numbers_of}
use Rattle.files.specs.Laws.Numbers.{ListOf}

-- four bytes further on
later_word : (c : List ℕ) (i : ℕ) → word_at (drop number_bytes c) i ≡ word_at c (number_bytes + i)
unfolding word_at
later_word c i =
    let at : (k : ℕ) → get_or (drop number_bytes c) (i + k) 0 ≡ get_or c (number_bytes + i + k) 0 =
    λ k. get_or-drop number_bytes c (i + k) 0 ∙ ap (λ n. get_or c n 0) (omega arith) in
    rw (get_or-drop number_bytes c i 0, at 1, at 2, at 3)

numbers_are : (n : ℕ) (c : List ℕ) → length c ≡ number_bytes * n
    → (length (numbers_of c) ≡ n) × ((k : ℕ) → k < n → get_or (numbers_of c) k 0 ≡ word_at c (number_bytes * k))
unfolding numbers_of
numbers_are n [] e = (omega arith, λ k l. absurd (omega arith))
numbers_are n (i ∷ []) e = absurd (omega arith)
numbers_are n (i ∷ j ∷ []) e = absurd (omega arith)
numbers_are n (i ∷ j ∷ k ∷ []) e = absurd (omega arith)
numbers_are zero (i ∷ j ∷ k ∷ l ∷ rest) e = absurd (omega arith)
numbers_are (suc n) (i ∷ j ∷ k ∷ l ∷ rest) e = let are = numbers_are n rest (omega arith) in (ap suc are.0, each are.1)
  where
    each : ((m : ℕ) → m < n → get_or (numbers_of rest) m 0 ≡ word_at rest (number_bytes * m))
        → (m : ℕ) → m < suc n → get_or (numbers_of (i ∷ j ∷ k ∷ l ∷ rest)) m 0 ≡ word_at (i ∷ j ∷ k ∷ l ∷ rest) (number_bytes * m)
    each are zero h = unfold word_at in refl
    each are (suc m) h =
        are m (omega arith) ∙ later_word (i ∷ j ∷ k ∷ l ∷ rest) (number_bytes * m) ∙ ap (word_at (i ∷ j ∷ k ∷ l ∷ rest)) (omega arith)

pub list_read : (c list : List ℕ) → length c ≡ number_bytes * length list
    → ((k : ℕ) → k < length list → get_or list k 0 ≡ word_at c (number_bytes * k)) → ListOf c list
list_read c list e each =
    let are = numbers_are (length list) c e in
    record { exact = e; numbers = ext_get_or 0 list (numbers_of c) (sym are.0) (λ i l. each i l ∙ sym (are.1 i l)) }
