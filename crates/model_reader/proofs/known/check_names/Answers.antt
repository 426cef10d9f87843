use Rattle.std.proofs.Common.{subst}
use Rattle.std.specs.Prelude.{None}
use Rattle.serde_json.specs.View.{view}
use Rattle.file_values.specs.declared.format.Format.{Format}
use Rattle.file_values.specs.declared.kind.Kind.TheVariants as kind
use Rattle.file_values.specs.Inside.{Finds, FailsAt}
use Rattle.file_values.specs.Tests.{is_known}
use Rattle.model_reader.proofs.KnownPass.{known_clear}
use Rattle.model_reader.proofs.known.check_names.Goals as goal

pub returns-clause-faultless : goal.returns-clause-faultless
returns-clause-faultless c =
    let d = view c.args.value.now in
    let Clear : Format → Type 0 = λ format. Finds (FailsAt format (is_known c.args.names.now) kind.Model d) None in
    known_clear d c.args.names.now c.requires.names c.requires.faultless (subst Clear c.format_of.ensures c.in_ok-check_test.ensures.passed)
