-- Lists that a loop fills, number by number, and parts of lists.
--
--   Filled d b n f l     l is the list b with its first n elements f 0 to f (n - 1); d stands past the end
--   line_at x n i         line i of lines of n elements each
use Rattle.std.specs.Prelude.{ℕ, ◌+◌, ◌-◌, ◌*◌, ◌≤◌, ◌<◌, ◌≡◌, List, length, get_or, take, drop}

pub record Filled {A : Type 0} (d : A) (before : List A) (count : ℕ) (f : ℕ → A) (list : List A) : Type 0 where
  pub long : length list ≡ length before
  pub each : (k : ℕ) → k < count → get_or list k d ≡ f k
  pub rest : (k : ℕ) → count ≤ k → get_or list k d ≡ get_or before k d

abbrev pub line_at : {A : Type 0} → List A → ℕ → ℕ → List A
line_at x n i = take (i * n + n - i * n) (drop (i * n) x)
