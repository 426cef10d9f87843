use Rattle.config_cli.proofs.StatusLaws.{writes_number}
use Rattle.config_cli.proofs.run.run_alone.Goals as goal

-- the number is that of the status
pub returns-clause-result : goal.returns-clause-result
returns-clause-result g c = λ fs told. writes_number _ _ _ _ c.number.ensures (c.run_words.ensures.result fs told)

pub returns-clause-without_files : goal.returns-clause-without_files
returns-clause-without_files g c = λ no_file. writes_number _ _ _ _ c.number.ensures (c.run_words.ensures.without_files no_file)
