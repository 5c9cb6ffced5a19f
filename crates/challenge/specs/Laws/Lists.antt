-- The tests 10, 11 and 21 of a challenge list.
--
--   ZeroVector G x τ      every number of vector τ is 0
--   nonzero_residue x k    number k is from 1 to p - 1
--   Entries G x           x is a list of s · n least residues, and no vector of it is of zeros
use Rattle.std.specs.Prelude.{ℕ, ◌-◌, ◌*◌, ◌<◌, ◌≡◌, Bool, List, length, get_or}
use Rattle.residue.specs.Rules.{modulus}
use Rattle.ticket.specs.declared.setting.Setting.{Setting}
use Rattle.ticket.specs.Rules.{within}
use Rattle.challenge.specs.Rules.{challenge_at}

abbrev pub ZeroVector : Setting → List ℕ → ℕ → Type 0
ZeroVector G x τ = (j : ℕ) → j < G.columns → challenge_at G x τ j ≡ 0

abbrev pub nonzero_residue : List ℕ → ℕ → Bool
nonzero_residue x k = within 1 (modulus - 1) (get_or x k 0)

pub record Entries (G : Setting) (x : List ℕ) : Type 0 where
  pub size : length x ≡ G.vectors * G.columns
  pub below : (k : ℕ) → k < G.vectors * G.columns → get_or x k 0 < modulus
  pub other : (τ : ℕ) → τ < G.vectors → ZeroVector G x τ → ⊥
