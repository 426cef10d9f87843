-- A stuck state covers nothing that satisfies the model.
use Rattle.std.proofs.Common.{sym, ap, ◌∙◌}
use Rattle.std.proofs.lemmas.Bool.{and_from, eq-eqb}
use Rattle.branch_cut.proofs.OwedLaws.{stuck_covers_none}
use Rattle.branch_cut.proofs.stuck.is_stuck.Goals as goal

pub returns-then-made-most-clause-covers_none : goal.returns-then-made-most-clause-covers_none
returns-then-made-most-clause-covers_none c = λ owed d covers.
    stuck_covers_none c.args.problem.now c.args.p.now d c.requires c.model.ensures.valid
    (and_from _ _ (sym c.owed_port.ensures.owed ∙ (sym c.is_some.ensures ∙ owed)) (eq-eqb _ _ (sym c.made.ensures ∙ (c.if-made-most.true ∙ ap (λ m. m.instances) c.model.ensures.model)))) covers
