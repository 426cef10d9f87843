use Rattle.serde_json.specs.View.{view}
use Rattle.model_reader.proofs.PlainPasses.{plain_clear}
use Rattle.model_reader.proofs.plain.check_plain.Goals as goal

pub returns-clause-clear : goal.returns-clause-clear
returns-clause-clear c =
    plain_clear c.args.format c.args.kind (view c.args.value.now) c.in_ok-check_test.ensures.passed c.in_ok-check_test-2.ensures.passed
    c.in_ok-check_test-3.ensures.passed c.in_ok-check_twice.ensures.passed c.in_ok-check_test-4.ensures.passed
