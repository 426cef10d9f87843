use Rattle.std.proofs.Common.{subst}
use Rattle.std.specs.Option.{ForSome}
use Rattle.domain_store.specs.declared.change.Change.{Change}
use Rattle.domain_store.specs.declared.change.Change.TheVariants.{Same, Smaller, Empty}
use Rattle.state_space.specs.State.{domain_at}
use Rattle.partial_state.specs.steps.Answered.{AnswersNarrowing}
use Rattle.partial_state.specs.steps.Bounds.{is_left}
use Rattle.partial_state.proofs.LoggedCuts.{cut_changed, cut_kept}
use Rattle.partial_state.proofs.partial.Partial.change_domain.Goals as goal

-- the old values are logged, and the others are left in their place
pub returns-in_ok-change-in-Smaller-clause-changed : goal.returns-in_ok-change-in-Smaller-clause-changed
returns-in_ok-change-in-Smaller-clause-changed c =
    let Answers : Change → Type 0 = λ r. ForSome (domain_at c.args.self.now c.args.i c.args.attr) (λ d. AnswersNarrowing (is_left c.args.cut) r d) in
    let answers : Answers Smaller = subst Answers c.in-Smaller.is c.answer.ensures in
    let now = c.in_ok-change-in-Smaller.ensures in
    cut_changed c.args.self.now c.cut_logged.new.self c.args.i c.args.attr (is_left c.args.cut) c.in_ok-change-in-Smaller.change c.args.log.now c.cut_logged.new.log
    answers now.narrowed now.logs

-- nothing changes
pub returns-in-Same-clause-changed : goal.returns-in-Same-clause-changed
returns-in-Same-clause-changed c =
    let Answers : Change → Type 0 = λ r. ForSome (domain_at c.args.self.now c.args.i c.args.attr) (λ d. AnswersNarrowing (is_left c.args.cut) r d) in
    let answers : Answers Same = subst Answers c.in-Same.is c.answer.ensures in
    cut_kept c.args.self.now c.args.i c.args.attr (is_left c.args.cut) Same c.args.log.now c.requires answers (λ e. absurd cc)

pub returns-in-Empty-clause-changed : goal.returns-in-Empty-clause-changed
returns-in-Empty-clause-changed c =
    let Answers : Change → Type 0 = λ r. ForSome (domain_at c.args.self.now c.args.i c.args.attr) (λ d. AnswersNarrowing (is_left c.args.cut) r d) in
    let answers : Answers Empty = subst Answers c.in-Empty.is c.answer.ensures in
    cut_kept c.args.self.now c.args.i c.args.attr (is_left c.args.cut) Empty c.args.log.now c.requires answers (λ e. absurd cc)
