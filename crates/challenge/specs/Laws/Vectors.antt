-- All vectors of a list, as the code works through them. x is the list, v its vector τ; y and u are the lists for a vector and its product
-- with B, named before-y and before-u as they were before they were filled.
--
--   ListReady G t x          the vectors of the list x can be worked through
--   vector_steps G t x        the vectors one after the other
--   VectorThere G t x τ      vector τ is one of the list
--   VectorReady G t x τ q    it can be worked through after q products
use Rattle.std.specs.Prelude.{ℕ, ◌+◌, ◌*◌, ◌<◌, ◌^◌, ◌≡◌, refl, List, eqb}
use Rattle.std.proofs.Math.Nat.{suc-ne-zero}
use Rattle.ticket.specs.declared.setting.Setting.{Setting}
use Rattle.ticket.specs.Rules.{answer}
use Rattle.ticket.specs.Laws.Passes.{Passed}
use Rattle.ticket.specs.Laws.Runs.{Steps}
use Rattle.challenge.specs.Rules.{first_row, vector_products, caught}
use Rattle.challenge.specs.Laws.Lists.{Entries}

pub record ListReady (G : Setting) (t x : List ℕ) : Type 0 where
  pub passed : Passed G t
  pub list : Entries G x

abbrev pub vector_steps : Setting → List ℕ → List ℕ → Steps
vector_steps G t x =
    record {
      count = G.vectors;
      holds = λ τ. eqb (first_row G t x τ) G.rows;
      failed = λ τ. caught G τ (first_row G t x τ);
      so_far = λ τ. answer 0 0 0 (τ * vector_products G);
      other = λ τ. suc-ne-zero 11;
      passed = λ τ. refl;
    }

pub record VectorThere (G : Setting) (t x : List ℕ) (τ : ℕ) : Type 0 where
  pub list : ListReady G t x
  pub within : τ < G.vectors

pub record VectorReady (G : Setting) (t x : List ℕ) (τ products : ℕ) : Type 0 where
  pub there : VectorThere G t x τ
  pub products_are : products ≡ τ * vector_products G
  pub few : products + vector_products G < 2 ^ 32
