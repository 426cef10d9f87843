use Rattle.std.proofs.Common.{subst}
use Rattle.serde_json.specs.View.{view}
use Rattle.file_values.specs.declared.format.Format.{Format}
use Rattle.file_values.specs.declared.kind.Kind.TheVariants as kind
use Rattle.file_meaning.specs.Faults.{HasPlainFault}
use Rattle.model_reader.specs.Passes.{IsClearTo}
use Rattle.model_reader.proofs.PlainOfFiles.{model_clear}
use Rattle.model_reader.proofs.declared.check_values.Goals as goal

pub returns-clause-faultless : goal.returns-clause-faultless
returns-clause-faultless c =
    let d = view c.args.value.now in
    let Clear : Format → Type 0 = λ format. IsClearTo (HasPlainFault format kind.Model d) 7 in
    model_clear d (subst Clear c.format_of.ensures c.in_ok-check_plain.ensures.clear)
