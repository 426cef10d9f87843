-- Each literal is a narrowing of what it speaks of, which is there where the literal fits.
use mir.Val.{SFits}
use Rattle.std.proofs.Common.{w64, rules, refl, subst, not, ltb-true, ◌<◌, ◌≤◌, inl, inr, arith}
use Rattle.std.specs.Prelude.{IsTrue, int_le, nat_le, nat_lt}
use Rattle.std.specs.Ordering.{int_eq}
use Rattle.std.proofs.lemmas.Int.{to_z-of_z}
use Rattle.std.proofs.lemmas.Bool.{and_parts, false≢true}
use Rattle.prod_model.specs.Forest.{is_a}
use Rattle.config_value.specs.declared.literal.Literal.TheVariants as literal
use Rattle.state_space.specs.Sets.{has_number}
use Rattle.state_space.specs.State.{number_made}
use Rattle.state_space.specs.Entails.{fits, all_have_attribute, all_have_port}
use Rattle.partial_state.proofs.LiteralChanges.{has_domain, has_links, kinds_outcome, domain_outcome, port_outcome, made_outcome}
use Rattle.partial_state.proofs.partial.Partial.change.Goals as goal

-- ---- Kind

pub change_kind-requires : goal.change_kind-requires
unfolding fits
change_kind-requires c =
    let fit : IsTrue (nat_lt c.in-Kind.instance (number_made c.args.self.now)) = subst (λ l. IsTrue (fits c.args.problem.now c.args.self.now l)) c.in-Kind.is c.requires.fits in
    record { state = c.requires.state; made = ltb-true c.in-Kind.instance (number_made c.args.self.now) fit }

pub returns-in-Kind : goal.returns-in-Kind
returns-in-Kind c =
    let now = c.change_kind in
    let o =
    kinds_outcome c.args.problem.now c.args.l.now (literal.Kind c.in-Kind.instance c.in-Kind.kind) c.in-Kind.is c.args.self.now now.new.self c.args.log.now now.new.log c.requires.state
    c.in-Kind.instance (λ u. is_a c.args.problem.now u c.in-Kind.kind) (λ r g. g) now.result now.ensures.changed now.ensures.unchanged now.ensures.logged in
    record { changed = o.changed; logged = o.logged; same = o.same; unchanged = o.unchanged; state = o.state }

-- ---- NotKind

pub change_other_kinds-requires : goal.change_other_kinds-requires
unfolding fits
change_other_kinds-requires c =
    let fit : IsTrue (nat_lt c.in-NotKind.instance (number_made c.args.self.now)) = subst (λ l. IsTrue (fits c.args.problem.now c.args.self.now l)) c.in-NotKind.is c.requires.fits in
    record { state = c.requires.state; made = ltb-true c.in-NotKind.instance (number_made c.args.self.now) fit }

pub returns-in-NotKind : goal.returns-in-NotKind
returns-in-NotKind c =
    let now = c.change_other_kinds in
    let o =
    kinds_outcome c.args.problem.now c.args.l.now (literal.NotKind c.in-NotKind.instance c.in-NotKind.kind) c.in-NotKind.is c.args.self.now now.new.self c.args.log.now now.new.log c.requires.state
    c.in-NotKind.instance (λ u. not (is_a c.args.problem.now u c.in-NotKind.kind)) (λ r g. g) now.result now.ensures.changed now.ensures.unchanged now.ensures.logged in
    record { changed = o.changed; logged = o.logged; same = o.same; unchanged = o.unchanged; state = o.state }

-- ---- AtMost

pub change_domain-requires : goal.change_domain-requires
unfolding fits
change_domain-requires c =
    let fit : IsTrue (all_have_attribute c.args.problem.now c.args.self.now c.in-AtMost.instance c.in-AtMost.attr) = subst (λ l. IsTrue (fits c.args.problem.now c.args.self.now l)) c.in-AtMost.is c.requires.fits in
    has_domain c.args.problem.now c.args.self.now c.in-AtMost.instance c.in-AtMost.attr c.requires.state fit

pub returns-in-AtMost : goal.returns-in-AtMost
returns-in-AtMost c =
    let now = c.change_domain in
    let fits : SFits w64 c.in-AtMost.value = search rules in
    let o =
    domain_outcome c.args.problem.now c.args.l.now (literal.AtMost c.in-AtMost.instance c.in-AtMost.attr c.in-AtMost.value) c.in-AtMost.is c.args.self.now now.new.self c.args.log.now now.new.log c.requires.state
    c.in-AtMost.instance c.in-AtMost.attr (λ v. int_le v c.in-AtMost.value) (λ r g. g) now.result (simp to_z-of_z at now.ensures.changed) now.ensures.unchanged now.ensures.logged in
    record { changed = o.changed; logged = o.logged; same = o.same; unchanged = o.unchanged; state = o.state }

-- ---- AtLeast

pub change_domain-requires-in-AtLeast : goal.change_domain-requires-in-AtLeast
unfolding fits
change_domain-requires-in-AtLeast c =
    let fit : IsTrue (all_have_attribute c.args.problem.now c.args.self.now c.in-AtLeast.instance c.in-AtLeast.attr) = subst (λ l. IsTrue (fits c.args.problem.now c.args.self.now l)) c.in-AtLeast.is c.requires.fits in
    has_domain c.args.problem.now c.args.self.now c.in-AtLeast.instance c.in-AtLeast.attr c.requires.state fit

pub returns-in-AtLeast : goal.returns-in-AtLeast
returns-in-AtLeast c =
    let now = c.change_domain-in-AtLeast in
    let fits : SFits w64 c.in-AtLeast.value = search rules in
    let o =
    domain_outcome c.args.problem.now c.args.l.now (literal.AtLeast c.in-AtLeast.instance c.in-AtLeast.attr c.in-AtLeast.value) c.in-AtLeast.is c.args.self.now now.new.self c.args.log.now now.new.log c.requires.state
    c.in-AtLeast.instance c.in-AtLeast.attr (λ v. int_le c.in-AtLeast.value v) (λ r g. g) now.result (simp to_z-of_z at now.ensures.changed) now.ensures.unchanged now.ensures.logged in
    record { changed = o.changed; logged = o.logged; same = o.same; unchanged = o.unchanged; state = o.state }

-- ---- ValueIsNot

pub change_domain-requires-in-ValueIsNot : goal.change_domain-requires-in-ValueIsNot
unfolding fits
change_domain-requires-in-ValueIsNot c =
    let fit : IsTrue (all_have_attribute c.args.problem.now c.args.self.now c.in-ValueIsNot.instance c.in-ValueIsNot.attr) = subst (λ l. IsTrue (fits c.args.problem.now c.args.self.now l)) c.in-ValueIsNot.is c.requires.fits in
    has_domain c.args.problem.now c.args.self.now c.in-ValueIsNot.instance c.in-ValueIsNot.attr c.requires.state fit

pub returns-in-ValueIsNot : goal.returns-in-ValueIsNot
returns-in-ValueIsNot c =
    let now = c.change_domain-in-ValueIsNot in
    let fits : SFits w64 c.in-ValueIsNot.value = search rules in
    let o =
    domain_outcome c.args.problem.now c.args.l.now (literal.ValueIsNot c.in-ValueIsNot.instance c.in-ValueIsNot.attr c.in-ValueIsNot.value) c.in-ValueIsNot.is c.args.self.now now.new.self c.args.log.now now.new.log c.requires.state
    c.in-ValueIsNot.instance c.in-ValueIsNot.attr (λ v. not (int_eq v c.in-ValueIsNot.value)) (λ r g. g) now.result (simp to_z-of_z at now.ensures.changed) now.ensures.unchanged now.ensures.logged in
    record { changed = o.changed; logged = o.logged; same = o.same; unchanged = o.unchanged; state = o.state }

-- ---- Linked

pub change_port-requires : goal.change_port-requires
unfolding fits
change_port-requires c =
    let fit = and_parts _ _ (subst (λ l. IsTrue (fits c.args.problem.now c.args.self.now l)) c.in-Linked.is c.requires.fits) in
    let has : IsTrue (all_have_port c.args.problem.now c.args.self.now c.in-Linked.instance c.in-Linked.port) = fit.0 in
    let made : c.in-Linked.to < number_made c.args.self.now = ltb-true c.in-Linked.to (number_made c.args.self.now) fit.1 in
    let few : number_made c.args.self.now ≤ 256 = subst (λ s. number_made s ≤ 256) c.self.view_is c.self.invariant in
    record { has = has_links c.args.problem.now c.args.self.now c.in-Linked.instance c.in-Linked.port c.requires.state has; below = omega (arith, made, few) }

pub returns-in-Linked : goal.returns-in-Linked
returns-in-Linked c =
    let now = c.change_port in
    let o =
    port_outcome c.args.problem.now c.args.l.now (literal.Linked c.in-Linked.instance c.in-Linked.port c.in-Linked.to) c.in-Linked.is c.args.self.now now.new.self c.args.log.now now.new.log c.requires.state
    c.in-Linked.instance c.in-Linked.port (λ l. has_number l.to_made c.in-Linked.to) (λ r g. g) now.result now.ensures.changed now.ensures.unchanged now.ensures.logged in
    record { changed = o.changed; logged = o.logged; same = o.same; unchanged = o.unchanged; state = o.state }

-- ---- NotLinked

pub change_port-requires-in-NotLinked : goal.change_port-requires-in-NotLinked
unfolding fits
change_port-requires-in-NotLinked c =
    let fit = and_parts _ _ (subst (λ l. IsTrue (fits c.args.problem.now c.args.self.now l)) c.in-NotLinked.is c.requires.fits) in
    let has : IsTrue (all_have_port c.args.problem.now c.args.self.now c.in-NotLinked.instance c.in-NotLinked.port) = fit.0 in
    let made : c.in-NotLinked.to < number_made c.args.self.now = ltb-true c.in-NotLinked.to (number_made c.args.self.now) fit.1 in
    let few : number_made c.args.self.now ≤ 256 = subst (λ s. number_made s ≤ 256) c.self.view_is c.self.invariant in
    record { has = has_links c.args.problem.now c.args.self.now c.in-NotLinked.instance c.in-NotLinked.port c.requires.state has; below = omega (arith, made, few) }

pub returns-in-NotLinked : goal.returns-in-NotLinked
returns-in-NotLinked c =
    let now = c.change_port-in-NotLinked in
    let o =
    port_outcome c.args.problem.now c.args.l.now (literal.NotLinked c.in-NotLinked.instance c.in-NotLinked.port c.in-NotLinked.to) c.in-NotLinked.is c.args.self.now now.new.self c.args.log.now now.new.log c.requires.state
    c.in-NotLinked.instance c.in-NotLinked.port (λ l. not (has_number l.to_made c.in-NotLinked.to)) (λ r g. g) now.result now.ensures.changed now.ensures.unchanged now.ensures.logged in
    record { changed = o.changed; logged = o.logged; same = o.same; unchanged = o.unchanged; state = o.state }

-- ---- FreshAtMost

pub change_port-requires-in-FreshAtMost : goal.change_port-requires-in-FreshAtMost
unfolding fits
change_port-requires-in-FreshAtMost c =
    let fit = and_parts _ _ (subst (λ l. IsTrue (fits c.args.problem.now c.args.self.now l)) c.in-FreshAtMost.is c.requires.fits) in
    let has : IsTrue (all_have_port c.args.problem.now c.args.self.now c.in-FreshAtMost.instance c.in-FreshAtMost.port) = fit.0 in
    record { has = has_links c.args.problem.now c.args.self.now c.in-FreshAtMost.instance c.in-FreshAtMost.port c.requires.state has; below = tt }

pub returns-in-FreshAtMost : goal.returns-in-FreshAtMost
returns-in-FreshAtMost c =
    let now = c.change_port-in-FreshAtMost in
    let o =
    port_outcome c.args.problem.now c.args.l.now (literal.FreshAtMost c.in-FreshAtMost.instance c.in-FreshAtMost.port c.in-FreshAtMost.from c.in-FreshAtMost.count) c.in-FreshAtMost.is c.args.self.now now.new.self c.args.log.now now.new.log c.requires.state
    c.in-FreshAtMost.instance c.in-FreshAtMost.port (λ l. nat_le l.later c.in-FreshAtMost.count) (λ r g. g) now.result now.ensures.changed now.ensures.unchanged now.ensures.logged in
    record { changed = o.changed; logged = o.logged; same = o.same; unchanged = o.unchanged; state = o.state }

-- ---- FreshAtLeast

pub change_port-requires-in-FreshAtLeast : goal.change_port-requires-in-FreshAtLeast
unfolding fits
change_port-requires-in-FreshAtLeast c =
    let fit = and_parts _ _ (subst (λ l. IsTrue (fits c.args.problem.now c.args.self.now l)) c.in-FreshAtLeast.is c.requires.fits) in
    let has : IsTrue (all_have_port c.args.problem.now c.args.self.now c.in-FreshAtLeast.instance c.in-FreshAtLeast.port) = fit.0 in
    record { has = has_links c.args.problem.now c.args.self.now c.in-FreshAtLeast.instance c.in-FreshAtLeast.port c.requires.state has; below = tt }

pub returns-in-FreshAtLeast : goal.returns-in-FreshAtLeast
returns-in-FreshAtLeast c =
    let now = c.change_port-in-FreshAtLeast in
    let o =
    port_outcome c.args.problem.now c.args.l.now (literal.FreshAtLeast c.in-FreshAtLeast.instance c.in-FreshAtLeast.port c.in-FreshAtLeast.from c.in-FreshAtLeast.count) c.in-FreshAtLeast.is c.args.self.now now.new.self c.args.log.now now.new.log c.requires.state
    c.in-FreshAtLeast.instance c.in-FreshAtLeast.port (λ l. nat_le c.in-FreshAtLeast.count l.later) (λ r g. g) now.result now.ensures.changed now.ensures.unchanged now.ensures.logged in
    record { changed = o.changed; logged = o.logged; same = o.same; unchanged = o.unchanged; state = o.state }

-- ---- Made

pub change_made-requires : goal.change_made-requires
unfolding fits
change_made-requires c =
    let fit = and_parts _ _ (subst (λ l. IsTrue (fits c.args.problem.now c.args.self.now l)) c.in-Made.is c.requires.fits) in
    record { state = c.requires.state; room = (and_parts _ _ fit.0).1 }

pub returns-in-Made : goal.returns-in-Made
returns-in-Made c =
    let now = c.change_made in
    let o =
    made_outcome c.args.problem.now c.args.l.now (literal.Made c.in-Made.instance) c.in-Made.is c.args.self.now now.new.self c.args.log.now now.new.log c.requires.state
    c.in-Made.instance refl now.result now.ensures.smaller now.ensures.made now.ensures.logged now.ensures.kept now.ensures.unchanged now.ensures.state in
    record { changed = o.changed; logged = o.logged; same = o.same; unchanged = o.unchanged; state = o.state }

-- ---- the number of all links, which fits nothing

pub unreachable-requires : goal.unreachable-requires
unfolding fits
unreachable-requires c =
    elim c.in-LinksAtMost.is [
      | inl found ↦ false≢true (subst (λ l. IsTrue (fits c.args.problem.now c.args.self.now l)) found.3 c.requires.fits)
      | inr found ↦ false≢true (subst (λ l. IsTrue (fits c.args.problem.now c.args.self.now l)) found.3 c.requires.fits)
    ]
