use Rattle.std.proofs.Common.{◌≡◌, sym, ap, subst, ◌∙◌, None}
use Rattle.std.specs.Prelude.{option_copied, slice_get}
use Rattle.std.proofs.lemmas.Option.{same_Some, none-some}
use Rattle.base_laws.specs.Places.{IsAt}
use Rattle.nogood_store.specs.declared.watched.Watched.{Watched}
use Rattle.nogood_store.specs.declared.watchers.Watchers.{Watchers}
use Rattle.nogood_store.specs.steps.Watchers.{Stands}
use Rattle.nogood_store.specs.steps.Shelves.{CanMove}
use Rattle.nogood_store.proofs.Shelves.{applies_as, applies_here, applies_within, counted, keeps_both, keeps_itself, looked_less, looked_past}
use Rattle.nogood_store.proofs.shelf.Shelf.look.Goals as goal

-- nothing stands there
pub returns-in_default : goal.returns-in_default
returns-in_default c =
    looked_past _ _ _ c.args.k c.args.at c.args.self.now c.args.self.now c.args.least (keeps_itself c.args.self.now) (λ j i p there before. there)
    (λ p stands applies. absurd (none-some p (sym c.in_default.is ∙ (c.number.ensures ∙ stands))))

-- there is no such nogood
pub returns-in_default-watched : goal.returns-in_default-watched
returns-in_default-watched c =
    let none : slice_get c.args.self.now.nogoods.items c.in-Some.n ≡ None = sym c.watched.ensures ∙ ap option_copied c.in_default-watched.is in
    looked_past _ _ _ c.args.k c.args.at c.args.self.now c.args.self.now c.args.least (keeps_itself c.args.self.now) (λ j i p there before. there)
    (λ p stands applies.
    let same : c.in-Some.n ≡ p = same_Some c.in-Some.n p (sym c.in-Some.is ∙ (c.number.ensures ∙ stands)) in
    let x = applies_within _ _ _ c.args.self.now p applies in
    absurd (none-some x.0 (sym none ∙ subst (λ q. IsAt c.args.self.now.nogoods.items q x.0) (sym same) x.1)))

pub see-requires-clause-watched : goal.see-requires-clause-watched
see-requires-clause-watched c =
    let at : IsAt c.args.self.now.nogoods.items c.in-Some.n c.in-Some-watched.watched.now = sym c.watched.ensures ∙ ap option_copied c.in-Some-watched.is in
    c.requires.watched c.in-Some.n c.in-Some-watched.watched.now at

pub see-requires-clause-short : goal.see-requires-clause-short
see-requires-clause-short c =
    let at : IsAt c.args.self.now.nogoods.items c.in-Some.n c.in-Some-watched.watched.now = sym c.watched.ensures ∙ ap option_copied c.in-Some-watched.is in
    c.requires.short c.in-Some.n c.in-Some-watched.watched.now at

pub shift-requires-clause-movable : goal.shift-requires-clause-movable
shift-requires-clause-movable c = λ x there.
    let at : IsAt c.args.self.now.nogoods.items c.in-Some.n c.in-Some-watched.watched.now = sym c.watched.ensures ∙ ap option_copied c.in-Some-watched.is in
    subst (λ (y : Watched). CanMove y c.in-Open.place)
    (same_Some c.in-Some-watched.watched.now x (sym at ∙ subst (λ v. IsAt v.items c.in-Some.n x) c.count-in-Open.ensures.nogoods there))
    c.in-Open.ensures.1

-- it doesn't apply
pub returns-in-PassedOver : goal.returns-in-PassedOver
returns-in-PassedOver c =
    let at : IsAt c.args.self.now.nogoods.items c.in-Some.n c.in-Some-watched.watched.now = sym c.watched.ensures ∙ ap option_copied c.in-Some-watched.is in
    looked_past _ _ _ c.args.k c.args.at c.args.self.now c.args.self.now c.args.least (keeps_itself c.args.self.now) (λ j i p there before. there)
    (λ p stands applies.
    let same : c.in-Some.n ≡ p = same_Some c.in-Some.n p (sym c.in-Some.is ∙ (c.number.ensures ∙ stands)) in
    absurd (c.in-PassedOver.ensures
    (applies_as _ _ _ c.args.self.now p c.in-Some-watched.watched.now (subst (λ q. IsAt c.args.self.now.nogoods.items q c.in-Some-watched.watched.now) same at) applies)))

-- it applies, and is less
pub returns-in-Applying : goal.returns-in-Applying
returns-in-Applying c =
    let at : IsAt c.args.self.now.nogoods.items c.in-Some.n c.in-Some-watched.watched.now = sym c.watched.ensures ∙ ap option_copied c.in-Some-watched.is in
    looked_less _ _ _ c.args.k c.args.at c.args.self.now c.count.new.self c.args.least
    (counted c.args.self.now c.count.new.self c.count.ensures.nogoods c.count.ensures.watchers c.count.ensures.bare c.count.ensures.looked)
    (λ j i p there before. subst (λ (w : Watchers). Stands w.rows.items j i p) (sym c.count.ensures.watchers) there)
    c.in-Some.n (sym c.number.ensures ∙ c.in-Some.is)
    (applies_here _ _ _ c.args.self.now c.in-Some.n c.in-Some-watched.watched.now at c.in-Applying.ensures)
    (λ low. absurd (let holds = c.is_at_most.ensures.1 low in let fails = c.if-is_at_most.false in cc))

-- it doesn't apply, and its watch moves
pub returns-in-Open : goal.returns-in-Open
returns-in-Open c =
    let at : IsAt c.args.self.now.nogoods.items c.in-Some.n c.in-Some-watched.watched.now = sym c.watched.ensures ∙ ap option_copied c.in-Some-watched.is in
    let count = c.count-in-Open.ensures in
    looked_past _ _ _ c.args.k c.args.at c.args.self.now c.shift.new.self c.args.least
    (keeps_both c.args.self.now c.count-in-Open.new.self c.shift.new.self
    (counted c.args.self.now c.count-in-Open.new.self count.nogoods count.watchers count.bare count.looked) c.shift.ensures.kept)
    (λ j i p there before.
    c.shift.ensures.ahead j i p (subst (λ (w : Watchers). Stands w.rows.items j i p) (sym count.watchers) there) before)
    (λ p stands applies.
    let same : c.in-Some.n ≡ p = same_Some c.in-Some.n p (sym c.in-Some.is ∙ (c.number.ensures ∙ stands)) in
    absurd (c.in-Open.ensures.0
    (applies_as _ _ _ c.args.self.now p c.in-Some-watched.watched.now (subst (λ q. IsAt c.args.self.now.nogoods.items q c.in-Some-watched.watched.now) same at) applies)))
