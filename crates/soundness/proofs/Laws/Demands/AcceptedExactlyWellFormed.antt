-- What rests on Demands, FalseWrong.
--
--   accepted_pass           an accepted list is one of vectors to which every row of differences is orthogonal modulo p
--   one_accepted            of two lists that differ only in a column in which the ticket is false, not both are accepted (C3)
--   accepted_few            with a false ticket at most (p^(n - 1) - 1)^s different lists are accepted (Z2)
--   accepted_exactly_well_formed   with a true ticket a list is accepted exactly when it is well formed (C5)
use Rattle.std.specs.Prelude.{ℕ, ◌-◌, ◌^◌, ◌≤◌, ◌<◌, ◌≡◌, ◌↔◌, true, List, [], pos, ◌*ℤ◌, length, get_or}
use Rattle.std.proofs.Common.{sym, ap, ◌∙◌, eq-eqb}
use Rattle.residue.specs.Rules.{modulus, least_residue}
use Rattle.residue.proofs.Laws.Modulus.PartnerModuli.{modulus_prime, modulus_positive}
use Rattle.residue.proofs.Laws.Counting.{Different, at_most_below}
use Rattle.algebra.proofs.Laws.IntegerSums.{int_sum_cong}
use Rattle.algebra.proofs.Laws.Soundness.{Passing}
use Rattle.algebra.proofs.Laws.Soundness.OneColumn.{one_column}
use Rattle.algebra.proofs.Laws.Soundness.PassingCount.{passing_count}
use Rattle.ticket.specs.declared.setting.Setting.{Setting}
use Rattle.ticket.specs.Rules.{Passes, FalseIn}
use Rattle.ticket.proofs.Laws.Differences.ClaimsTrue.{claims_true}
use Rattle.challenge.specs.Rules.{challenge_at, WellFormed, claim_side, balanced_by, Accepted, DifferIn}
use Rattle.soundness.proofs.Laws.Answers.{AllBalanced}
use Rattle.soundness.proofs.Laws.Demands.{accepted_is, operand_side_lem, well_formed_drawn}
use Rattle.soundness.proofs.Laws.Demands.FalseWrong.{balanced_is, difference, false_wrong}

pub accepted_pass : (G : Setting) (t : List ℕ) → Passes G t → (x : List ℕ) → Accepted G t x
    → Passing modulus G.rows G.columns G.vectors (difference G t) (λ a. a < modulus) true x
accepted_pass G t passes x e =
    let h = (accepted_is G t passes x).0 e in
    record { drawn = (well_formed_drawn G x).0 h.0; orthogonal = λ τ l i m. (balanced_is G t x τ i).0 (h.1 τ i l m) }

-- a ticket that is false in no column balances every row
true_balanced : (G : Setting) (t : List ℕ) → ((j : ℕ) → FalseIn G t j → ⊥) → (x : List ℕ) → AllBalanced G t x
unfolding balanced_by claim_side
true_balanced G t none x τ i l m =
    eq-eqb _ _
    (ap (least_residue modulus) (int_sum_cong G.columns _ _ (λ j h. ap (λ c. c *ℤ pos (challenge_at G x τ j)) (claims_true G t none i j m h)))
    ∙ sym (operand_side_lem G t x τ i))

pub one_accepted : (G : Setting) (t : List ℕ) → Passes G t → (j : ℕ) → FalseIn G t j → (x y : List ℕ) → DifferIn G j x y
    → Accepted G t x → Accepted G t y → ⊥
one_accepted G t passes j column x y differ ax ay =
    differ.differs.2 (ap (λ l. challenge_at G l differ.differs.0 j) same)
  where
    same : x ≡ y
    same =
        one_column modulus_prime (λ a l. l) (false_wrong G t passes j column)
        (accepted_pass G t passes x ax) (accepted_pass G t passes y ay) differ.elsewhere

pub accepted_few : (G : Setting) (t : List ℕ) → Passes G t → (j : ℕ) → FalseIn G t j → (xs : List (List ℕ)) → Different [] xs
    → ((k : ℕ) → k < length xs → Accepted G t (get_or xs k [])) → length xs ≤ (modulus ^ (G.columns - 1) - 1) ^ G.vectors
accepted_few G t passes j column xs different all =
    passing_count modulus_prime (λ a l. l) (false_wrong G t passes j column) (at_most_below modulus)
    G.vectors true (λ e. modulus_positive) xs (λ k l. accepted_pass G t passes (get_or xs k []) (all k l)) different

pub accepted_exactly_well_formed : (G : Setting) (t : List ℕ) → Passes G t → ((j : ℕ) → FalseIn G t j → ⊥)
    → (x : List ℕ) → Accepted G t x ↔ WellFormed G x
accepted_exactly_well_formed G t passes none x = (
  λ e. ((accepted_is G t passes x).0 e).0,
  λ w. (accepted_is G t passes x).1 (w, true_balanced G t none x),
)
