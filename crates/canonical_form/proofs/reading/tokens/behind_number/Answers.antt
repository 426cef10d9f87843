use Rattle.std.proofs.Common.{pos, sym, ◌∙◌, arith}
use Rattle.canonical_form.proofs.ReadingSteps.{number_is, wrapped_text, small_fits}
use Rattle.canonical_form.proofs.reading.tokens.behind_number.Goals as goal

pub returns-then-not-is_text_of-clause-none : goal.returns-then-not-is_text_of-clause-none
returns-then-not-is_text_of-clause-none c none rest takes =
    let text = number_is c.args.number c.args.bytes.now c.split_token.result.0.now c.split_token.result.1.now rest (omega arith) c.split_token.ensures takes in
    wrapped_text (pos c.args.number) c.from.result c.split_token.result.0.now (small_fits c.args.number (omega arith)) c.from.ensures text.0 (sym c.is_text_of.ensures ∙ c.if-not-is_text_of.true)
