use Rattle.std.proofs.Common.{◌^◌, length, ap, ◌∙◌, refl, arith}
use Rattle.std.proofs.lemmas.Bool.{false≢true}
use Rattle.std.proofs.lemmas.Option.{MatchOption-at_some, MatchOption-at_none}
use Rattle.prod_model.specs.Taxonomy.{declarations_of}
use Rattle.prod_model.specs.Valid.{has_right_inverse, port_declarations}
use Rattle.type_taxonomy.specs.declared.inverse_fault.InverseFault.TheVariants.{Bad}
use Rattle.type_taxonomy.proofs.FirstInverseFault.{right_next, all_right, first_inverse_fault, right_has_no_fault}
use Rattle.type_taxonomy.proofs.PortLaws.{few_declared}
use Rattle.type_taxonomy.proofs.Widenings.{first_by}
use Rattle.type_taxonomy.proofs.named_inverses.all_right.Goals as goal

pub first_wrong-requires-clause-few_declared : goal.first_wrong-requires-clause-few_declared
first_wrong-requires-clause-few_declared c =
    let are = c.declared_at-declared.ensures ∙ ap (λ types. declarations_of (λ d. d.ports) (λ d. d.name) types c.loop-t.t) c.as_slice.ensures in
    omega (arith, ap length are, few_declared c.args.model.now c.loop-t.t (2 ^ 32) c.requires.few_ports)

pub returns-in-Some-clause-fault : goal.returns-in-Some-clause-fault
returns-in-Some-clause-fault c =
    let m = c.args.model.now in
    let t = c.loop-t.t in
    let are = c.declared_at-declared.ensures ∙ ap (λ types. declarations_of (λ d. d.ports) (λ d. d.name) types t) c.as_slice.ensures in
    let test = has_right_inverse m t in
    first_inverse_fault m t c.in-Some.place c.loop-t.invariant
    (MatchOption-at_some _ _ c.in-Some.place c.in-Some.is (first_by test test c.declared_at-declared.result.now (port_declarations m t) c.first_wrong.result (λ d. refl) are c.first_wrong.ensures))

pub returns-in-Some-clause-right : goal.returns-in-Some-clause-right
returns-in-Some-clause-right c =
    let first = returns-in-Some-clause-fault c in
    (λ h. absurd (false≢true h), λ right. absurd (right_has_no_fault c.args.model.now (Bad c.loop-t.t c.in-Some.place) right first.is))

pub loop-t-preserved : goal.loop-t-preserved
loop-t-preserved c =
    let m = c.args.model.now in
    let t = c.loop-t.t in
    let are = c.declared_at-declared.ensures ∙ ap (λ types. declarations_of (λ d. d.ports) (λ d. d.name) types t) c.as_slice.ensures in
    let test = has_right_inverse m t in
    right_next m t c.loop-t.invariant
    (MatchOption-at_none _ _ c.in_default.is (first_by test test c.declared_at-declared.result.now (port_declarations m t) c.first_wrong.result (λ d. refl) are c.first_wrong.ensures))

pub returns-clause-right : goal.returns-clause-right
returns-clause-right c = (λ h. all_right c.args.model.now (λ u below. c.loop-t.invariant u (omega (arith, below, c.loop-t-test.false, c.len-t-end.ensures))), λ h. refl)
