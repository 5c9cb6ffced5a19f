-- What rests on BalancedReduced, Single.
--
--   row_made_lem           what the code makes of a row
use Rattle.std.specs.Prelude.{ℕ, ◌<◌, ◌≡◌, Bool, List, take}
use Rattle.std.proofs.Common.{arith, ◌∙◌, get_or-take}
use Rattle.std.proofs.Math.Path.{ap}
use Rattle.std.proofs.Math.ListN.{length, get_or}
use Rattle.ticket.specs.declared.setting.Setting.{Setting}
use Rattle.ticket.specs.Rules.{refusal}
use Rattle.challenge.specs.declared.single.RowAnswer.{RowAnswer}
use Rattle.challenge.specs.Rules.{challenge_at, balanced_by, product_at, balanced_at, row_made}
use Rattle.challenge.specs.Laws.Products.{Widened}
use Rattle.challenge.proofs.Laws.Single.{balanced_cong, product_cong}
use Rattle.challenge.proofs.Laws.Single.BalancedReduced.{balanced_reduced}

pub row_made_lem : (G : Setting) (t x y : List ℕ) (τ i : ℕ) (u : List ℕ) {n : ℕ} {before wide made : List ℕ} {b : Bool}
    → ((j : ℕ) → j < G.columns → get_or y j 0 ≡ challenge_at G x τ j) → n ≡ G.inner → n ≡ length (take n made)
    → made ≡ product_at G t y 0 i u → Widened (take n made) before wide → b ≡ balanced_by G t y 0 (λ k. get_or wide k 0) i
    → ◌≡◌ {A = RowAnswer} (record { tested = refusal 0 0; balanced = b; u = made }) (row_made G t x τ i u)
unfolding balanced_at
row_made_lem G t x y τ i u {n} {wide = wide} {made = made'} numbers inner long made-is widened b-is =
    let same : (j : ℕ) → j < G.columns → challenge_at G y 0 j ≡ challenge_at G x τ j = λ j l. ap (λ q. get_or y q 0) (omega arith) ∙ numbers j l in
    let made : _ ≡ product_at G t x τ i u = made-is ∙ product_cong G t y x 0 τ same i u in
    rw (
      b-is,
      balanced_cong G t y x 0 τ same (λ k. get_or wide k 0) (λ k. get_or (product_at G t x τ i u) k 0)
          (λ k l. widened.filled.each k (omega arith) ∙ get_or-take n made' k 0 (omega arith) ∙ ap (λ l. get_or l k 0) made) i,
      balanced_reduced G t x τ (λ k. get_or (product_at G t x τ i u) k 0) i,
      made,
    )
