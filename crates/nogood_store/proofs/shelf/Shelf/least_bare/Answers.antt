use Rattle.std.proofs.Common.{rules, ◌≡◌, ◌≢◌, ◌<◌, ℕ, length, refl, sym, subst, ◌∙◌, inl, inr, arith}
use Rattle.std.proofs.lemmas.Bool.Decides.{eqb_tells}
use Rattle.std.proofs.lemmas.Option.{same_Some, slice_get_read, slice_get_within}
use Rattle.base_laws.specs.Places.{IsAt}
use Rattle.nogood_store.specs.Stores.{AppliesAt}
use Rattle.nogood_store.specs.steps.Shelves.{IsAtMost, nogoods_of}
use Rattle.nogood_store.proofs.shelf.Shelf.least_bare.Goals as goal

pub loop-i-preserved : goal.loop-i-preserved
loop-i-preserved c =
    let bare = c.args.self.now.bare.items in
    let P : ℕ → Type 0 = AppliesAt c.args.trail.now.job.model c.args.keep.now c.args.trail.now.state (nogoods_of c.args.self.now) in
    let within : c.loop-i.i < length bare = search rules in
    let at : IsAt bare c.loop-i.i c.index.result.now = slice_get_read bare _ c.loop-i.i c.index.result.now refl within c.index.ensures in
    record {
      found = c.lesser-least.ensures.found c.loop-i.invariant.found;
      low = λ p i before there applies. elim (eqb_tells i c.loop-i.i) [
        | inl here ↦
            let same : c.index.result.now ≡ p = same_Some c.index.result.now p (sym at ∙ subst (λ j. IsAt bare j p) here.1 there) in
            subst (IsAtMost c.lesser-least.result) same (c.lesser-least.ensures.here (subst P (sym same) applies))
        | inr apart ↦
            let other : i ≢ c.loop-i.i = apart.1 in
            c.lesser-least.ensures.lower p (c.loop-i.invariant.low p i (omega (arith, before, other)) there applies)
      ];
    }

pub returns-clause-low : goal.returns-clause-low
returns-clause-low c = λ p i there applies.
    let within : i < length c.args.self.now.bare.items = slice_get_within c.args.self.now.bare.items i p there in
    c.loop-i.invariant.low p i (omega (arith, within, c.loop-i-test.false, c.len-i-end.ensures)) there applies
