-- What rests on Differences.
--
--   size_sum_of                of entries within their bounds it is at most as large as it can be
--   claims_true                a ticket that is false in no column has every claim true
use Rattle.std.specs.Prelude.{◌≡◌, ℕ, ◌<◌, ◌≤◌, List, ℤ, unsigned_abs}
use native.Mathlib.Omega.{arith}
use Rattle.std.proofs.Math.Logic.{⊎_elim}
use Rattle.algebra.specs.Rules.{matrix_product}
use Rattle.algebra.proofs.Laws.IntegerSums.{size_sum}
use Rattle.algebra.proofs.Laws.MatrixProducts.{size_matrix_product}
use Rattle.ticket.specs.declared.setting.Setting.{Setting}
use Rattle.ticket.specs.Rules.{reach, bias_bound, claim, biased_sum, due, FalseIn}
use Rattle.ticket.proofs.Laws.Differences.{biased_sum_is, claim_decided}

pub size_sum_of : (G : Setting) (A B C : ℕ → ℕ → ℤ) (i j : ℕ) → ((k : ℕ) → k < G.inner → unsigned_abs (A i k) ≤ G.bound)
    → ((k : ℕ) → k < G.inner → unsigned_abs (B k j) ≤ G.bound) → unsigned_abs (C i j) ≤ bias_bound G → unsigned_abs (biased_sum G A B C i j) ≤ reach G
size_sum_of G A B C i j a b c =
    let S = matrix_product G.inner A B i j in
    rw (biased_sum_is G A B C i j) (omega (arith, size_sum S (C i j), size_matrix_product G.inner A B i j a b))

pub claims_true : (G : Setting) (t : List ℕ) → ((j : ℕ) → FalseIn G t j → ⊥)
    → (i j : ℕ) → i < G.rows → j < G.columns → claim G t i j ≡ due G t i j
claims_true G t none i j l m = ⊎_elim (λ e. e) (λ d. absurd (none j (m, (i, l, d)))) (claim_decided G t i j)
