-- Which orders are valid for racks, computed.
use Rattle.std.specs.List.{range_with_len}
use Rattle.std.specs.Prelude.{ℕ, ◌+◌, ◌/◌, ◌%◌, pos, false, List, [], ◌∷◌, codes, map, replicate, refl}
use Rattle.std.proofs.Common.{◌∙◌, sym}
use mathlib.Core.Bool.{true≢false}
use Rattle.prod_model.specs.declared.model.Request.{Request}
use Rattle.prod_model.specs.declared.model.Criterion.{Criterion}
use Rattle.prod_model.specs.declared.expr.Expr.{Expr}
use Rattle.prod_model.specs.Names.{is_name}
use Rattle.prod_model.specs.Taxonomy.{attributes_of, ports_of}
use Rattle.prod_model.specs.Valid.{IsValidOrder}
use Rattle.prod_model.proofs.ExprBoundsLaws.{bounds_laws, nesting_laws}
use Rattle.prod_model.proofs.Forms.{num, attr, count, kind, at_most}
use Rattle.prod_model.proofs.Models.{rack, few, strong, one_small, fewest_cards, most_cards, cheapest, asks}

abbrev request : List ℕ → Expr → Request
request name holds = record { name = name; holds = holds }

abbrev criterion : List ℕ → Expr → Criterion
criterion name value = record { name = name; maximise = false; value = value }

-- ---- valid

nothing_asked : IsValidOrder rack (asks [] [])
unfolding is_name
nothing_asked = record { few = refl; formed_names = refl; distinct_names = refl; requests = refl; criteria = refl }

few_strong_small : IsValidOrder rack (asks (few ∷ strong ∷ one_small ∷ []) (fewest_cards ∷ cheapest ∷ []))
unfolding is_name attributes_of ports_of
few_strong_small = record { few = refl; formed_names = refl; distinct_names = refl; requests = simp (bounds_laws, nesting_laws); criteria = simp (bounds_laws, nesting_laws) }

-- A request may have the name of a criterion, and both may have names of the model.
names_of_both : IsValidOrder rack (asks (request (codes "cards") (kind 1) ∷ request (codes "load") (kind 1) ∷ []) (fewest_cards ∷ []))
unfolding is_name attributes_of ports_of
names_of_both = record { few = refl; formed_names = refl; distinct_names = refl; requests = simp (bounds_laws, nesting_laws); criteria = simp (bounds_laws, nesting_laws) }

-- 64 requests and 8 criteria
as_many_as_may_be : IsValidOrder rack (asks (map (λ k. request (97 ∷ (97 + k / 26) ∷ (97 + k % 26) ∷ []) (kind 1)) (range_with_len 0 64)) (map (λ k. criterion (97 ∷ (97 + k) ∷ []) (num (pos 1))) (range_with_len 0 8)))
unfolding is_name
as_many_as_may_be = record { few = refl; formed_names = refl; distinct_names = refl; requests = simp (bounds_laws, nesting_laws); criteria = simp (bounds_laws, nesting_laws) }

-- ---- not valid

-- 65 requests, and 9 criteria
too_many_requests : ¬ IsValidOrder rack (asks (replicate 65 few) [])
too_many_requests v = true≢false (sym v.few)

too_many_criteria : ¬ IsValidOrder rack (asks [] (replicate 9 cheapest))
too_many_criteria v = true≢false (sym v.few)

-- a name that is none
bad_request_name : ¬ IsValidOrder rack (asks (few ∷ request (codes "2nd") (kind 1) ∷ []) [])
unfolding is_name
bad_request_name v = true≢false (sym v.formed_names)

bad_criterion_name : ¬ IsValidOrder rack (asks (few ∷ []) (criterion [] (count 0) ∷ []))
unfolding is_name
bad_criterion_name v = true≢false (sym v.formed_names)

-- one name twice
requests_of_one_name : ¬ IsValidOrder rack (asks (few ∷ strong ∷ few ∷ []) [])
requests_of_one_name v = true≢false (sym v.distinct_names)

criteria_of_one_name : ¬ IsValidOrder rack (asks [] (fewest_cards ∷ most_cards ∷ []))
criteria_of_one_name v = true≢false (sym v.distinct_names)

-- A request is a number, or has the power that racks lack though cards have it.
request_for_a_number : ¬ IsValidOrder rack (asks (request (codes "r") (count 0) ∷ []) [])
unfolding ports_of
request_for_a_number v = true≢false (sym v.requests ∙ simp (bounds_laws, nesting_laws))

request_for_power : ¬ IsValidOrder rack (asks (few ∷ request (codes "r") (at_most (attr 1) (num (pos 3))) ∷ []) [])
unfolding attributes_of ports_of
request_for_power v = true≢false (sym v.requests ∙ simp (bounds_laws, nesting_laws))

-- A criterion is a truth, or has a fault.
criterion_of_a_truth : ¬ IsValidOrder rack (asks [] (criterion (codes "c") (kind 1) ∷ []))
criterion_of_a_truth v = true≢false (sym v.criteria ∙ simp (bounds_laws, nesting_laws))

criterion_of_power : ¬ IsValidOrder rack (asks [] (cheapest ∷ criterion (codes "c") (attr 1) ∷ []))
unfolding attributes_of
criterion_of_power v = true≢false (sym v.criteria ∙ simp (bounds_laws, nesting_laws))
