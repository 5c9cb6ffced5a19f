-- What rests on FloorDivision.
--
--   floor_unique    the quotient is the only integer that leaves one
--   floor_between   the dividend is at least the divisor times the quotient, and below the divisor times one more
use Rattle.std.specs.Prelude.{ℕ, ◌+◌, ◌*◌, ◌<◌, ◌≡◌, ℤ, pos, ◌+ℤ◌, ◌*ℤ◌, ◌≤ℤ◌, ◌<ℤ◌}
use Rattle.std.proofs.Common.{arith, sym, ap, ◌∙◌}
use Rattle.residue.proofs.Laws.Integers.{positive, negative, parts_sum, parts_product}
use Rattle.algebra.specs.Rules.{floor_division}
use Rattle.algebra.proofs.Laws.FloorDivision.{floor_left, order_of_parts, parts_claim, same_quotient}

pub floor_unique : (z q : ℤ) (d r : ℕ) → r < d → pos d *ℤ q +ℤ pos r ≡ z → q ≡ floor_division z d
floor_unique z q d r l e =
    let left = floor_left z d (omega arith) in
    same_quotient q (floor_division z d) d r left.0 l left.1 (e ∙ sym left.2)

pub floor_between : (z : ℤ) (d : ℕ) → 0 < d
    → ((pos d *ℤ floor_division z d) ≤ℤ z) × (z <ℤ (pos d *ℤ (floor_division z d +ℤ pos 1)))
floor_between z d above =
    let q = floor_division z d in
    let left = floor_left z d above in
    let parts : positive z + d * negative q ≡ d * positive q + left.0 + negative z =
    rw left.2 at (parts_claim q d left.0) in (
      (order_of_parts (pos d *ℤ q) z).0 (omega (arith, parts_product (pos d) q)),
      (order_of_parts z (pos d *ℤ (q +ℤ pos 1))).1
          (omega (arith, parts_product (pos d) (q +ℤ pos 1), ap (λ n. d * n) (parts_sum q (pos 1)), left.1)),
    )
