use Rattle.std.proofs.Common.{List, ℕ, subst}
use Rattle.canonical_form.specs.AnswerParts.{behind_number}
use Rattle.canonical_form.specs.steps.Reading.{IsToken}
use Rattle.canonical_form.proofs.ReadingSteps.{signed_takes, signed_only}
use Rattle.canonical_form.proofs.reading.values.split_signed.Goals as goal

pub returns-clause-takes : goal.returns-clause-takes
returns-clause-takes c =
    let token = subst (λ (bytes : List ℕ). IsToken behind_number bytes c.split_token.result.0.now c.split_token.result.1.now) c.without_sign.ensures c.split_token.ensures in
    signed_takes c.args.bytes.now c.split_token.result.0.now c.split_token.result.1.now c.split_at.result.0.now token c.split_at.ensures.front c.split_at.result.1.now c.split_at.ensures.back

pub returns-clause-only : goal.returns-clause-only
returns-clause-only c v rest within takes =
    let token = subst (λ (bytes : List ℕ). IsToken behind_number bytes c.split_token.result.0.now c.split_token.result.1.now) c.without_sign.ensures c.split_token.ensures in
    signed_only c.args.bytes.now c.split_token.result.0.now c.split_token.result.1.now c.split_at.result.0.now rest v within token c.split_at.ensures.front takes
