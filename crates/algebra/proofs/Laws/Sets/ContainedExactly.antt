-- What rests on Sets.
--
--   contained_below     it is below c, where all of the list are
--   contained_exactly   of a list of different numbers, exactly as many are as it is long
use Rattle.std.specs.Prelude.{ℕ, ◌<◌, ◌≡◌, true, List, length, get_or}
use Rattle.std.proofs.Common.{arith, sym, ap, ◌∙◌}
use Rattle.residue.proofs.Laws.Counting.{Exactly, Different}
use Rattle.algebra.proofs.Laws.Sets.{contains, contains_at, place, place_found, same_place}

pub contained_below : (set : List ℕ) (c : ℕ) → ((k : ℕ) → k < length set → get_or set k 0 < c) → (a : ℕ) → contains set a ≡ true → a < c
contained_below set c all a h = let found = place_found set a h in omega (arith, found.1, all (place set a) found.0)

pub contained_exactly : (set : List ℕ) → Different 0 set → Exactly (λ a. contains set a ≡ true) (length set)
contained_exactly set different =
    record {
      most =
          record {
            code = place set;
            below = λ a h. (place_found set a h).0;
            apart = λ a b h k e. sym (place_found set a h).1 ∙ ap (λ n. get_or set n 0) e ∙ (place_found set b k).1;
          };
      member = λ n. get_or set n 0;
      has = contains_at set;
      coded = λ n l. let found = place_found set (get_or set n 0) (contains_at set n l) in
          same_place set different (place set (get_or set n 0)) n found.0 l found.1;
    }
