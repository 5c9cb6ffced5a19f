use Rattle.std.proofs.Common.{◌≡◌, ◌∙◌, Err, arith, rules}
use Rattle.ticket.proofs.Laws.Runs.{run_stopped, run_ended}
use Rattle.challenge.proofs.Laws.Vectors.{vectors_answer}
use Rattle.challenge.proofs.rows.check_vectors.Goals as goal

pub returns-in_err-products : goal.returns-in_err-products
returns-in_err-products c =
    let is : c.from_residual.result ≡ Err c.in_err-products.field-0.0 = search rules in
    rw is (run_stopped c.loop-t.invariant.1 c.loop-t-test.true c.in_err-products.ensures (λ z. omega arith)) ∙ vectors_answer _ _ _

pub returns : goal.returns
returns c = run_ended c.loop-t.invariant.1 c.loop-t-test.false ∙ vectors_answer _ _ _
