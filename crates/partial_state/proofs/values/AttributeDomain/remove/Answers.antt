use mir.Val.{SFits}
use Rattle.std.proofs.Common.{not, w64}
use Rattle.std.specs.Ordering.{int_eq}
use Rattle.std.proofs.lemmas.Int.{to_z-of_z}
use Rattle.std.proofs.lemmas.Result.{IfOk-weaker}
use Rattle.partial_state.specs.Views.{values_of_domain}
use Rattle.partial_state.specs.steps.InForm.{NarrowsInForm}
use Rattle.partial_state.specs.steps.Narrowed.{NarrowsStored}
use Rattle.partial_state.proofs.values.AttributeDomain.remove.Goals as goal

pub returns-clause-narrowed : goal.returns-clause-narrowed
returns-clause-narrowed c =
    let fits : SFits w64 c.args.n = c.ranges.n in
    rw (← c.self.view_is)
    (IfOk-weaker c.remove.result (λ r. NarrowsStored (λ v. not (int_eq v c.args.n)) r c.self.inside.domain c.remove.new.domain)
    (λ r. NarrowsInForm (λ v. not (int_eq v c.args.n)) r (values_of_domain c.self.inside.domain) (values_of_domain c.remove.new.domain))
    (λ r narrows. narrows.narrowed) (simp to_z-of_z at c.remove.ensures.narrowed))
