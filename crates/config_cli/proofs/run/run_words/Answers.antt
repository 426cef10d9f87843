use Rattle.std.proofs.Common.{◌≡◌, ◌∙◌, ap, sym, refl, Some, None}
use Rattle.std.specs.Prelude.{Err}
use Rattle.std.specs.Option.{option_map}
use Rattle.config_cli.specs.Results.{refused_words}
use Rattle.config_cli.specs.Runs.{texts}
use Rattle.config_cli.specs.Texts.{usage_text}
use Rattle.config_cli.specs.steps.Words.{command_in, shown}
use Rattle.config_cli.specs.declared.status.Status.TheVariants.{Usage}
use Rattle.config_cli.proofs.RunLaws.{writes_result}
use Rattle.config_cli.proofs.WordLaws.{asks_for, asks_nothing}
use Rattle.config_cli.proofs.CommandLaws.{asks_for_files, failed_status, not_among, read_fault, result_of}
use Rattle.config_cli.proofs.run.run_words.Goals as goal

-- the words are none of the accepted forms
pub returns-in_default-clause-result : goal.returns-in_default-clause-result
unfolding usage_text
returns-in_default-clause-result g c = λ fs told.
    let none : command_in (texts c.args.words.now) ≡ None = sym c.command_in.ensures ∙ ap (option_map shown) c.in_default.is in
    writes_result Usage usage_text _ _ _ (refused_words (asks_nothing _ none) refl refl) (rw c.as_bytes.ensures.value at c.say.ensures.written)

pub returns-in_default-clause-without_files : goal.returns-in_default-clause-without_files
unfolding usage_text
returns-in_default-clause-without_files g c = λ no_file.
    let none : command_in (texts c.args.words.now) ≡ None = sym c.command_in.ensures ∙ ap (option_map shown) c.in_default.is in
    writes_result Usage usage_text _ _ _ (refused_words (asks_nothing _ none) refl refl) (rw c.as_bytes.ensures.value at c.say.ensures.written)

pub returns-in_default-clause-usage : goal.returns-in_default-clause-usage
returns-in_default-clause-usage g c = λ is.
    asks_nothing (texts c.args.words.now) (sym c.command_in.ensures ∙ ap (option_map shown) c.in_default.is)

-- what the command's files result in is what the words and files result in
pub returns-in-Ok-clause-result : goal.returns-in-Ok-clause-result
returns-in-Ok-clause-result g c = λ fs told.
    let found : command_in (texts c.args.words.now) ≡ Some (shown c.in-Some.command) = sym c.command_in.ensures ∙ ap (option_map shown) c.in-Some.is in
    writes_result c.in-Ok.outcome.status c.in-Ok.outcome.text.items _ _ _
    (result_of (texts c.args.words.now) fs (shown c.in-Some.command) (asks_for _ _ found) c.in-Ok.outcome.status c.in-Ok.outcome.text.items (c.in-Ok.ensures.outcome fs told))
    (rw c.deref.ensures.value at c.say-in-Ok.ensures.written)

pub returns-in-Ok-clause-without_files : goal.returns-in-Ok-clause-without_files
returns-in-Ok-clause-without_files g c = λ no_file.
    absurd (asks_for_files (texts c.args.words.now) (shown c.in-Some.command) (sym c.command_in.ensures ∙ ap (option_map shown) c.in-Some.is) no_file)

pub returns-in-Ok-clause-others : goal.returns-in-Ok-clause-others
returns-in-Ok-clause-others g c = λ n other.
    c.in-Ok.ensures.others n
    (not_among (texts c.args.words.now) (shown c.in-Some.command) n (sym c.command_in.ensures ∙ ap (option_map shown) c.in-Some.is) other)

pub returns-in-Err-clause-without_files : goal.returns-in-Err-clause-without_files
returns-in-Err-clause-without_files g c = λ no_file.
    absurd (asks_for_files (texts c.args.words.now) (shown c.in-Some.command) (sym c.command_in.ensures ∙ ap (option_map shown) c.in-Some.is) no_file)

pub returns-in-Err-clause-others : goal.returns-in-Err-clause-others
returns-in-Err-clause-others g c = λ n other.
    c.in-Err.ensures.others n
    (not_among (texts c.args.words.now) (shown c.in-Some.command) n (sym c.command_in.ensures ∙ ap (option_map shown) c.in-Some.is) other)

-- a read of one of the command's files has failed
pub returns-in-Err-clause-read : goal.returns-in-Err-clause-read
returns-in-Err-clause-read g c = λ four.
    read_fault (texts c.args.words.now) _ _ (shown c.in-Some.command) (sym c.command_in.ensures ∙ ap (option_map shown) c.in-Some.is)
    (c.in-Err.ensures.failed (ap Err (failed_status c.in-Err.stop (sym c.status.ensures ∙ four))))
