-- The first elements of a list.
--
--   Leads n l        the list l has n first elements
use Rattle.std.specs.Prelude.{ℕ, ◌≤◌, ◌≡◌, List, length, take}

-- the second part follows from the first; both are what a part of a slice asks for
abbrev pub Leads : ℕ → List ℕ → Type 0
Leads n l = (n ≤ length l) × (n ≡ length (take n l))
