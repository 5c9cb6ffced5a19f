-- What rests on AcceptedExactlyWellFormed.
--
--   accepted_none           with a false ticket of one column none is (Z2)
--   accepted_at_most        with a false ticket at most p^(s(n - 1)) different lists are accepted (C4)
--   accepted_share          the lists accepted with a false ticket, times p^s, are at most (p^n - 1)^s (Z4)
use Rattle.std.specs.Prelude.{ℕ, suc, ◌-◌, ◌*◌, ◌^◌, ◌≤◌, ◌<◌, ◌≡◌, true, List, [], ◌∷◌, length, get_or}
use Rattle.std.proofs.Common.{mul-le-mul_right, mul-zero, pow-suc, arith, ◌∙◌}
use Rattle.std.proofs.Math.Nat.{pow-zero}
use Rattle.residue.specs.Rules.{modulus}
use Rattle.residue.proofs.Laws.Counting.{Different}
use Rattle.algebra.proofs.Laws.Drawn.{drawn_share}
use Rattle.algebra.proofs.Laws.Drawn.DrawnNoMore.{drawn_no_more}
use Rattle.ticket.specs.declared.setting.Setting.{Setting}
use Rattle.ticket.specs.Rules.{Passes, FalseIn}
use Rattle.ticket.proofs.Laws.Passes.{passed_of}
use Rattle.challenge.specs.Rules.{Accepted}
use Rattle.soundness.proofs.Laws.Demands.AcceptedExactlyWellFormed.{accepted_few}

pub accepted_none : (G : Setting) (t : List ℕ) → Passes G t → G.columns ≡ 1 → (j : ℕ) → FalseIn G t j → (x : List ℕ) → Accepted G t x → ⊥
accepted_none G t passes one j column x accepted =
    omega (arith, accepted_few G t passes j column (x ∷ []) (λ i k l m. absurd (omega arith)) only, none)
  where
    only : (k : ℕ) → k < 1 → Accepted G t (get_or (x ∷ []) k [])
    only k l = let first : k ≡ 0 = omega arith in rw first accepted

    none : (modulus ^ (G.columns - 1) - 1) ^ G.vectors ≡ 0
    none =
        let some = (passed_of G t passes).counts.sizes.vectors.0 in
        let last : G.vectors ≡ suc (G.vectors - 1) = omega arith in
        rw (one, pow-zero modulus, last) (pow-suc 0 (G.vectors - 1) ∙ mul-zero (0 ^ (G.vectors - 1)))

pub accepted_at_most : (G : Setting) (t : List ℕ) → Passes G t → (j : ℕ) → FalseIn G t j → (xs : List (List ℕ)) → Different [] xs
    → ((k : ℕ) → k < length xs → Accepted G t (get_or xs k [])) → length xs ≤ modulus ^ (G.vectors * (G.columns - 1))
accepted_at_most G t passes j column xs different all =
    omega (arith, accepted_few G t passes j column xs different all, drawn_no_more modulus (G.columns - 1) G.vectors true)

pub accepted_share : (G : Setting) (t : List ℕ) → Passes G t → (j : ℕ) → FalseIn G t j → (xs : List (List ℕ)) → Different [] xs
    → ((k : ℕ) → k < length xs → Accepted G t (get_or xs k []))
    → length xs * modulus ^ G.vectors ≤ (modulus ^ G.columns - 1) ^ G.vectors
accepted_share G t passes j column xs different all =
    let some : j < G.columns = column.0 in
    omega (
      arith,
      mul-le-mul_right (modulus ^ G.vectors) (accepted_few G t passes j column xs different all),
      drawn_share modulus G.columns G.vectors true (omega arith),
    )
