-- There is one preferred conflict at most, no proper part of it is a conflict, and it is empty where no configuration satisfies the model.
use Rattle.std.proofs.Common.{◌≡◌, ℕ, suc, zero, List, [], ◌∷◌, map, refl, ap, ◌∙◌, sym, subst, ◌⊎◌, inl, inr, length, slice_get, Some}
use Rattle.std.proofs.lemmas.Bool.{true≢false}
use Rattle.std.specs.Prelude.{Bool, true, false, not, ◌||◌, IsTrue}
use Rattle.std.specs.List.{list_all}
use lib.Pointwise.{pointwise}
use Rattle.prod_model.specs.declared.model.Model.{Model}
use Rattle.prod_model.specs.declared.model.Order.{Order}
use Rattle.prod_model.specs.declared.model.Request.{Request}
use Rattle.config_value.specs.declared.configuration.Instance.{Instance}
use Rattle.config_value.specs.Satisfies.{satisfies, meets, meets_kept}
use Rattle.config_value.specs.Conflict.{IsConflict, IsAntilexSmaller, IsPreferredConflict, IsProperPart}
use Rattle.config_value.specs.Laws.{HasOnePreferredConflict, PreferredConflictIsMinimal, PreferredConflictIsEmpty}

-- ---- the antilex order

-- what is smaller stays so behind a first truth each
further : {x y : List Bool} (b d : Bool) → IsAntilexSmaller x y → IsAntilexSmaller (b ∷ x) (d ∷ y)
further b d s = record { request = suc s.request; left_out = s.left_out; kept = s.kept; alike_after = s.alike_after }

-- where the rest is alike, the first truths decide
heads : (b d : Bool) {x y : List Bool} → x ≡ y
    → (b ∷ x ≡ d ∷ y) ⊎ (IsAntilexSmaller (b ∷ x) (d ∷ y) ⊎ IsAntilexSmaller (d ∷ y) (b ∷ x))
heads true true e = inl (ap (λ r. true ∷ r) e)
heads false false e = inl (ap (λ r. false ∷ r) e)
heads false true e = inr (inl (record { request = 0; left_out = refl; kept = refl; alike_after = e }))
heads true false e = inr (inr (record { request = 0; left_out = refl; kept = refl; alike_after = sym e }))

-- of two sets that differ, the last request on which they differ makes one smaller
pub antilex_total : (x y : List Bool) → length x ≡ length y → (x ≡ y) ⊎ (IsAntilexSmaller x y ⊎ IsAntilexSmaller y x)
antilex_total [] [] e = inl refl
antilex_total [] (d ∷ y) e = absurd cc
antilex_total (b ∷ x) [] e = absurd cc
antilex_total (b ∷ x) (d ∷ y) e = elim (antilex_total x y cc) [
  | inl same ↦ heads b d same
  | inr (inl s) ↦ inr (inl (further b d s))
  | inr (inr s) ↦ inr (inr (further d b s))
]

-- a set that keeps a request which another leaves out is no part of that one
part_is_no_greater : (part whole : List Bool) → IsProperPart part whole → ¬ IsAntilexSmaller whole part
part_is_no_greater part whole p s = true≢false (cc (p.within s.request s.kept))

-- ---- the set that keeps no request

-- the set of as many requests as x has, none of which is kept
none_kept : List Bool → List Bool
none_kept x = map (λ b. false) x

-- it is as long
length_none_kept : (x : List Bool) → length (none_kept x) ≡ length x
unfolding none_kept
length_none_kept [] = refl
length_none_kept (b ∷ x) = ap suc (length_none_kept x)

-- it keeps none
list_all_not_none_kept : (x : List Bool) → IsTrue (list_all not (none_kept x))
unfolding none_kept
list_all_not_none_kept [] = refl
list_all_not_none_kept (b ∷ x) = list_all_not_none_kept x

-- there is no request that it keeps
slice_get_none_kept : (x : List Bool) (i : ℕ) → ¬ (slice_get (none_kept x) i ≡ Some true)
unfolding none_kept
slice_get_none_kept [] i e = absurd cc
slice_get_none_kept (b ∷ x) zero e = true≢false cc
slice_get_none_kept (b ∷ x) (suc i) e = slice_get_none_kept x i e

-- every configuration meets a set that keeps no request
pointwise_none_kept : (test : Request → Bool) (keep : List Bool) (rs : List Request) → IsTrue (list_all not keep) → length keep ≡ length rs
    → IsTrue (pointwise (λ kept r. not kept || test r) keep rs)
pointwise_none_kept test [] [] none e = refl
pointwise_none_kept test [] (r ∷ rs) none e = absurd cc
pointwise_none_kept test (b ∷ keep) [] none e = absurd cc
pointwise_none_kept test (true ∷ keep) (r ∷ rs) none e = absurd cc
pointwise_none_kept test (false ∷ keep) (r ∷ rs) none e = pointwise_none_kept test keep rs none cc

-- ---- the laws

-- neither of two preferred conflicts is antilex-smaller, so they are equal
pub has_one_preferred_conflict : HasOnePreferredConflict
has_one_preferred_conflict m o x y p q = elim (antilex_total x y (p.is.each_request ∙ sym q.is.each_request)) [
  | inl same ↦ same
  | inr (inl s) ↦ absurd (q.none_before x p.is s)
  | inr (inr s) ↦ absurd (p.none_before y q.is s)
]

-- a proper part that is a conflict would be antilex-smaller than the preferred one
pub preferred_conflict_is_minimal : PreferredConflictIsMinimal
preferred_conflict_is_minimal m o x part p within conflict = elim (antilex_total part x within.each_request) [
  | inl same ↦ within.others same
  | inr (inl s) ↦ p.none_before part conflict s
  | inr (inr s) ↦ part_is_no_greater part x within s
]

-- a conflict that keeps no request says that no configuration satisfies the model
none_satisfies : (m : Model) (o : Order) (x : List Bool) → IsConflict m o x → IsTrue (list_all not x)
    → (c : List Instance) → ¬ IsTrue (satisfies m c)
unfolding meets_kept
none_satisfies m o x p none c s = p.unmet c (record { satisfied = s; met = pointwise_none_kept (meets m c) x o.requests none p.each_request })

-- where no configuration satisfies the model, every set of the order's requests is a conflict
all_conflict : (m : Model) (o : Order) (x : List Bool) → length x ≡ length o.requests
    → ((c : List Instance) → ¬ IsTrue (satisfies m c)) → IsConflict m o x
all_conflict m o x e none = record { each_request = e; unmet = λ c candidate. none c candidate.satisfied }

-- Where no configuration satisfies the model, the preferred conflict keeps no request: the set that keeps none is a conflict,
-- and what keeps one is no smaller.
keeps_none : (m : Model) (o : Order) (x : List Bool) → IsPreferredConflict m o x
    → ((c : List Instance) → ¬ IsTrue (satisfies m c)) → IsTrue (list_all not x)
keeps_none m o x p none = elim (antilex_total (none_kept x) x (length_none_kept x)) [
  | inl same ↦ subst (λ y. IsTrue (list_all not y)) same (list_all_not_none_kept x)
  | inr (inl s) ↦ absurd (p.none_before (none_kept x) (all_conflict m o (none_kept x) (length_none_kept x ∙ p.is.each_request) none) s)
  | inr (inr s) ↦ absurd (slice_get_none_kept x s.request s.kept)
]

-- so the preferred conflict keeps no request exactly where no configuration satisfies the model
pub preferred_conflict_is_empty : PreferredConflictIsEmpty
preferred_conflict_is_empty m o x p = (none_satisfies m o x p.is, keeps_none m o x p)
