use Rattle.std.proofs.Common.{◌∙◌, ap}
use Rattle.std.specs.Result.{result_ok}
use Rattle.canonical_form.proofs.ReadingSteps.{signed_utf8, signed_parses}
use Rattle.canonical_form.proofs.reading.tokens.parse.Goals as goal

pub returns-in_default : goal.returns-in_default
returns-in_default c v within same = absurd (c.in_default.ensures.cases.0 (signed_utf8 v c.args.text.now within same))

pub returns : goal.returns
returns c v within same =
    c.ok.ensures.value ∙ ap result_ok (signed_parses v c.in-Ok.text.now c.parse.result within (c.in-Ok.ensures.cases.0 ∙ same) c.parse.ensures.value.0)
