use Rattle.std.proofs.Common.{◌≡◌, ◌∙◌, ap, sym, subst, Some, ◌++◌, ◌∷◌, []}
use Rattle.std.proofs.lemmas.Option.{same_Some}
use Rattle.domain_store.specs.declared.change.Change.{Change}
use Rattle.domain_store.specs.declared.change.Change.TheVariants.{Same, Smaller, Empty}
use Rattle.state_space.specs.State.{port_at}
use Rattle.state_space.specs.Undo.{Port}
use Rattle.partial_state.specs.steps.InForm.{NarrowsInPort}
use Rattle.partial_state.specs.steps.Bounds.{links_within}
use Rattle.partial_state.proofs.LoggedChanges.{port_logged, port_kept}
use Rattle.partial_state.proofs.partial.Partial.change_port.Goals as goal

-- the old links are logged, and the narrowed ones take their place
pub returns-in_ok-push-in-Smaller-clause-changed : goal.returns-in_ok-push-in-Smaller-clause-changed
returns-in_ok-push-in-Smaller-clause-changed c =
    let By : Change → Type 0 = λ r. NarrowsInPort (links_within c.args.bound) r c.from_links-next.result c.narrow_links.new.port in
    let given : By Smaller = subst By c.in-Smaller.is c.narrow_links.ensures in
    let first : port_at c.args.self.now c.args.i c.args.port ≡ Some c.from_links-links.result = c.port.ensures.links ∙ ap Some (sym c.from_links-links.ensures) in
    let second : port_at c.args.self.now c.args.i c.args.port ≡ Some c.from_links-next.result = c.port-2.ensures.links ∙ ap Some (sym c.from_links-next.ensures) in
    let copies = same_Some c.from_links-links.result c.from_links-next.result (sym first ∙ second) in
    let pushed = c.in_ok-push-in-Smaller.ensures.pushed ∙ ap (λ o. c.args.log.now ++ o ∷ []) (c.of_port.ensures ∙ ap (Port c.args.i c.args.port) copies) in
    port_logged c.args.self.now c.args.i c.args.port c.from_links-next.result second (links_within c.args.bound) c.narrow_links.new.port c.put_port.new.self
    c.args.log.now c.push.new.self given c.put_port.ensures pushed

pub returns-in-Same-clause-changed : goal.returns-in-Same-clause-changed
returns-in-Same-clause-changed c =
    let By : Change → Type 0 = λ r. NarrowsInPort (links_within c.args.bound) r c.from_links-next.result c.narrow_links.new.port in
    let given : By Same = subst By c.in-Same.is c.narrow_links.ensures in
    let second : port_at c.args.self.now c.args.i c.args.port ≡ Some c.from_links-next.result = c.port-2.ensures.links ∙ ap Some (sym c.from_links-next.ensures) in
    port_kept c.args.self.now c.args.i c.args.port c.from_links-next.result second (links_within c.args.bound) Same c.narrow_links.new.port c.args.log.now given
    (λ e. absurd cc)

pub returns-in-Empty-clause-changed : goal.returns-in-Empty-clause-changed
returns-in-Empty-clause-changed c =
    let By : Change → Type 0 = λ r. NarrowsInPort (links_within c.args.bound) r c.from_links-next.result c.narrow_links.new.port in
    let given : By Empty = subst By c.in-Empty.is c.narrow_links.ensures in
    let second : port_at c.args.self.now c.args.i c.args.port ≡ Some c.from_links-next.result = c.port-2.ensures.links ∙ ap Some (sym c.from_links-next.ensures) in
    port_kept c.args.self.now c.args.i c.args.port c.from_links-next.result second (links_within c.args.bound) Empty c.narrow_links.new.port c.args.log.now given
    (λ e. absurd cc)
