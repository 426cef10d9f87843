use Rattle.std.proofs.Common.{◌≡◌, ◌∙◌, ℕ, List, subst}
use Rattle.std.proofs.lemmas.Result.{IfOk-weaker}
use Rattle.config_cli.specs.declared.outcome.Fetched.{Fetched}
use Rattle.config_cli.specs.steps.Checks.{IsAnswerOutcome}
use Rattle.config_cli.specs.steps.Fetched.{IsAnswerFetchOf}
use Rattle.config_cli.proofs.check.answer_outcome.Goals as goal

-- the bytes that were read are the file's
pub returns-in-Bytes-clause-outcome : goal.returns-in-Bytes-clause-outcome
returns-in-Bytes-clause-outcome c =
    IfOk-weaker c.read_outcome.result _ _
    (λ a is n shows.
    let same : c.in-Bytes.bytes.items ≡ n = subst (λ (f : Fetched). IsAnswerFetchOf n f) c.in-Bytes.is shows in
    subst (λ (bytes : List ℕ). IsAnswerOutcome c.args.problem.now c.args.order.now bytes a.status a.text.items) (c.deref.ensures.value ∙ same) is)
    c.read_outcome.ensures.outcome
