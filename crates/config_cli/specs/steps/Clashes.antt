-- Which requests can be met together.
use Rattle.std.proofs.Common.{◌≡◌, ℕ, suc, List, [], ◌∷◌, length, Bool, true, false, not, refl, Some, None, arith}
use Rattle.std.specs.Prelude.{IsTrue, ◌||◌, slice_get}
use Rattle.std.proofs.lemmas.Bool.{and_parts, and_from}
use lib.Pointwise.{pointwise}
use Rattle.prod_model.specs.declared.model.Model.{Model}
use Rattle.prod_model.specs.declared.model.Order.{Order}
use Rattle.prod_model.specs.declared.model.Request.{Request}
use Rattle.config_value.specs.Satisfies.{meets, meets_kept}
use Rattle.criteria_order.specs.Wanted.{SomeIsWanted}
use Rattle.quickxplain.specs.Testers.{IsClosedUnderParts}

-- some configuration satisfies the model and meets all requests of the set
abbrev pub CanBeMet : Model → Order → List Bool → Type 0
CanBeMet m o keep = SomeIsWanted m o keep None []

-- it passes the test, if it is kept
abbrev if_kept : (Request → Bool) → Bool → Request → Bool
if_kept test kept r = not kept || test r

-- a test that each kept one passes, each one passes of which fewer are kept
fewer : (test : Request → Bool) (part whole : List Bool) (rs : List Request) → length part ≡ length whole
    → ((k : ℕ) → slice_get part k ≡ Some true → slice_get whole k ≡ Some true)
    → IsTrue (pointwise (if_kept test) whole rs) → IsTrue (pointwise (if_kept test) part rs)
fewer test [] [] rs long within met = met
fewer test [] (w ∷ ws) rs long within met = absurd cc
fewer test (p ∷ ps) [] rs long within met = absurd cc
fewer test (p ∷ ps) (w ∷ ws) [] long within met = met
fewer test (p ∷ ps) (w ∷ ws) (r ∷ rs) long within met =
    let both = and_parts (not w || test r) (pointwise (if_kept test) ws rs) met in
    let rest : (k : ℕ) → slice_get ps k ≡ Some true → slice_get ws k ≡ Some true = λ k is. within (suc k) is in
    let long_rest : length ps ≡ length ws = omega (arith, long) in
    and_from (not p || test r) (pointwise (if_kept test) ps rs) (by p w (within 0) both.0)
    (fewer test ps ws rs long_rest rest both.1)
  where
    by : (p w : Bool) → (Some p ≡ Some true → Some w ≡ Some true) → IsTrue (not w || test r) → IsTrue (not p || test r)
    by false w within met = refl
    by true true within met = met
    by true false within met = let e = within refl in absurd cc

-- a part of what can be met can be met
pub parts_are_met : (m : Model) (o : Order) → IsClosedUnderParts (CanBeMet m o)
unfolding meets_kept
parts_are_met m o part whole is met =
    let c = met.0 in (
      c,
      record {
        candidate = record {
          satisfied = met.1.candidate.satisfied;
          met = fewer (meets m c) part whole o.requests is.each_request is.within met.1.candidate.met;
        };
        extra_met = met.1.extra_met;
        later = met.1.later;
      },
    )
