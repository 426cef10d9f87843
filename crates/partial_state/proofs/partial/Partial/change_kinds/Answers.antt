use Rattle.std.proofs.Common.{◌≡◌, ◌∙◌, ap, subst, ◌++◌, ◌∷◌, [], length}
use Rattle.domain_store.specs.declared.change.Change.{Change}
use Rattle.domain_store.specs.declared.change.Change.TheVariants.{Same, Smaller, Empty}
use Rattle.domain_store.specs.Words.{has_word}
use Rattle.state_space.specs.Sets.{has_number, Reduces}
use Rattle.state_space.specs.State.{kinds_at}
use Rattle.state_space.specs.Undo.{Kinds}
use Rattle.partial_state.proofs.LoggedKinds.{kinds_logged, kinds_kept}
use Rattle.partial_state.proofs.partial.Partial.change_kinds.Goals as goal

-- the old types are logged, and those that are left take their place
pub returns-in_ok-push-in-Smaller-clause-changed : goal.returns-in_ok-push-in-Smaller-clause-changed
returns-in_ok-push-in-Smaller-clause-changed c =
    let By : Change → Type 0 = λ r. Reduces has_number length (has_word c.args.mask) r (kinds_at c.args.self.now c.args.i) c.keep.new.self in
    let was : c.copy-next.result ≡ kinds_at c.args.self.now c.args.i = c.copy-next.ensures ∙ c.kind_set-kinds.ensures in
    let given : By Smaller = subst By c.in-Smaller.is (rw was at c.keep.ensures.narrowed) in
    let pushed = c.in_ok-push-in-Smaller.ensures.pushed ∙ ap (λ o. c.args.log.now ++ o ∷ []) (c.of_kinds.ensures ∙ ap (Kinds c.args.i) c.kind_set-kinds.ensures) in
    kinds_logged c.args.self.now c.args.i (has_word c.args.mask) c.keep.new.self c.put_kinds.new.self c.args.log.now c.push.new.self
    c.requires given c.keep.ensures.formed c.put_kinds.ensures pushed

pub returns-in-Same-clause-changed : goal.returns-in-Same-clause-changed
returns-in-Same-clause-changed c =
    let By : Change → Type 0 = λ r. Reduces has_number length (has_word c.args.mask) r (kinds_at c.args.self.now c.args.i) c.keep.new.self in
    let was : c.copy-next.result ≡ kinds_at c.args.self.now c.args.i = c.copy-next.ensures ∙ c.kind_set-kinds.ensures in
    let given : By Same = subst By c.in-Same.is (rw was at c.keep.ensures.narrowed) in
    kinds_kept c.args.self.now c.args.i (has_word c.args.mask) Same c.keep.new.self c.args.log.now given c.keep.ensures.formed (λ e. absurd cc)

pub returns-in-Empty-clause-changed : goal.returns-in-Empty-clause-changed
returns-in-Empty-clause-changed c =
    let By : Change → Type 0 = λ r. Reduces has_number length (has_word c.args.mask) r (kinds_at c.args.self.now c.args.i) c.keep.new.self in
    let was : c.copy-next.result ≡ kinds_at c.args.self.now c.args.i = c.copy-next.ensures ∙ c.kind_set-kinds.ensures in
    let given : By Empty = subst By c.in-Empty.is (rw was at c.keep.ensures.narrowed) in
    kinds_kept c.args.self.now c.args.i (has_word c.args.mask) Empty c.keep.new.self c.args.log.now given c.keep.ensures.formed (λ e. absurd cc)
