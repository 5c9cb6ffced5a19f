-- What rests on ContainedExactly, Sets.
--
--   range_contains      a number is one of them exactly when it is below c
use Rattle.std.specs.Prelude.{ℕ, ◌<◌, ◌≡◌, ◌↔◌, true}
use Rattle.std.proofs.Common.{arith, subst}
use Rattle.algebra.proofs.Laws.Sets.{contains, contains_at, range, range_at, range_length}
use Rattle.algebra.proofs.Laws.Sets.ContainedExactly.{contained_below}

pub range_contains : (c a : ℕ) → (contains (range c) a ≡ true) ↔ (a < c)
range_contains c a = (
  λ h. contained_below (range c) c (λ k l. omega (arith, range_length c, range_at c k (omega (arith, range_length c)))) a h,
  λ l. subst (λ n. contains (range c) n ≡ true) (range_at c a l) (contains_at (range c) a (omega (arith, range_length c))),
)
