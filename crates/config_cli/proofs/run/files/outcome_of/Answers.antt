use Rattle.config_cli.proofs.CommandLaws.{fault_of_two, fault_of_three, none_of_two, none_of_three}
use Rattle.config_cli.proofs.run.files.outcome_of.Goals as goal

pub returns-in-Configure-clause-outcome : goal.returns-in-Configure-clause-outcome
returns-in-Configure-clause-outcome g c = rw c.in-Configure.is c.configure.ensures.outcome

pub returns-in-Configure-clause-failed : goal.returns-in-Configure-clause-failed
returns-in-Configure-clause-failed g c = λ failed.
    rw c.in-Configure.is (fault_of_two c.in-Configure.model.now c.in-Configure.order.now _ _ (c.configure.ensures.failed failed))

pub returns-in-Configure-clause-others : goal.returns-in-Configure-clause-others
returns-in-Configure-clause-others g c = λ n other.
    let none = none_of_two c.in-Configure.model.now c.in-Configure.order.now n (rw c.in-Configure.is at other) in
    c.configure.ensures.others n none.0 none.1

pub returns-in-Check-clause-outcome : goal.returns-in-Check-clause-outcome
returns-in-Check-clause-outcome g c = rw c.in-Check.is c.check.ensures.outcome

pub returns-in-Check-clause-failed : goal.returns-in-Check-clause-failed
returns-in-Check-clause-failed g c = λ failed.
    rw c.in-Check.is (fault_of_three c.in-Check.model.now c.in-Check.order.now c.in-Check.answer.now _ _ (c.check.ensures.failed failed))

pub returns-in-Check-clause-others : goal.returns-in-Check-clause-others
returns-in-Check-clause-others g c = λ n other.
    let none = none_of_three c.in-Check.model.now c.in-Check.order.now c.in-Check.answer.now n (rw c.in-Check.is at other) in
    c.check.ensures.others n none.0 none.1 none.2
