use Rattle.std.proofs.Common.{◌∙◌}
use Rattle.model_reader.proofs.KnownPass.{named_next}
use Rattle.model_reader.proofs.known.type_names.Goals as goal

pub loop-value-preserved : goal.loop-value-preserved
loop-value-preserved c =
    let l = c.loop-value in
    named_next c.args.types.now l.value-index c.value-item.result l.names c.insert.new.self c.as_bytes.result.now c.in_ok-insert.field-0
    c.loop-value-test.true c.value-item.is (c.as_bytes.ensures.value ∙ c.text_at.ensures) l.invariant c.in_ok-insert.ensures.added c.in_ok-insert.ensures.names
