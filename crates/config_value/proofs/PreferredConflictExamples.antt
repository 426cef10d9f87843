-- Two orders of which the preferred conflict is worked out: a request that nothing meets, and a model that nothing satisfies.
use Rattle.std.specs.Prelude.{◌≡◌, ℕ, zero, suc, pos, not, ◌&&◌, ◌||◌, true, false, Bool, List, [], ◌∷◌, codes, slice_get, Some, IsTrue, refl}
use Rattle.std.proofs.Common.{◌∙◌, sym, arith}
use mathlib.Core.Bool.{true≢false}
use Rattle.prod_model.specs.declared.model.Model.{Model}
use Rattle.prod_model.specs.declared.model.Order.{Order}
use Rattle.prod_model.specs.declared.expr.Expr.{Expr}
use Rattle.prod_model.proofs.Forms.{num, less}
use Rattle.prod_model.proofs.Models.{two_ports, asks}
use Rattle.config_value.specs.declared.configuration.Instance.{Instance}
use Rattle.config_value.specs.Value.{under, is_true_at}
use Rattle.config_value.specs.Satisfies.{satisfies, follows_rules, meets, meets_kept, IsCandidate}
use Rattle.config_value.specs.Shaped.{is_shaped, has_leaf_types, has_root, has_size, has_values, has_links, has_single_parts, has_links_back, has_counts}
use Rattle.config_value.specs.Numbered.{is_numbered}
use Rattle.config_value.specs.Conflict.{IsConflict, IsAntilexSmaller, IsPreferredConflict}
use Rattle.config_value.proofs.ShapedExamples.{broken}
use Rattle.config_value.proofs.ValueLaws.{value_laws}
use Rattle.config_value.proofs.Products.{two_ports_of}

abbrev yes : Expr
yes = less (num (pos 1)) (num (pos 2))

abbrev no : Expr
no = less (num (pos 2)) (num (pos 1))

-- ---- a request that nothing meets

abbrev order : Order
order = asks (record { name = codes "yes"; holds = yes } ∷ record { name = codes "no"; holds = no } ∷ []) []

-- It is a conflict alone.
no_is_a_conflict : IsConflict two_ports order (false ∷ true ∷ [])
unfolding meets_kept meets
no_is_a_conflict = record { each_request = refl; unmet = λ c candidate. true≢false (sym candidate.met ∙ simp value_laws) }

-- The empty rack meets the other request, kept or not.
yes_is_met : (kept : Bool) → IsCandidate two_ports order (kept ∷ false ∷ []) (two_ports_of [] [] ∷ [])
unfolding satisfies is_shaped broken is_numbered follows_rules meets_kept meets
yes_is_met true = record { satisfied = refl; met = simp value_laws }
yes_is_met false = record { satisfied = refl; met = refl }

-- So no smaller set is a conflict.
smaller_is_met : (x : List Bool) → IsConflict two_ports order x → ¬ IsAntilexSmaller x (false ∷ true ∷ [])
smaller_is_met [] conflict smaller = grind (arith, conflict.each_request)
smaller_is_met (a ∷ []) conflict smaller = grind (arith, conflict.each_request)
smaller_is_met (a ∷ false ∷ []) conflict smaller = conflict.unmet (two_ports_of [] [] ∷ []) (yes_is_met a)
smaller_is_met (a ∷ true ∷ []) conflict smaller = at smaller.request smaller.left_out smaller.kept
  where
    at : (k : ℕ) → slice_get (a ∷ true ∷ []) k ≡ Some false → slice_get (false ∷ true ∷ []) k ≡ Some true → ⊥
    at zero out in_ = cc
    at (suc zero) out in_ = cc
    at (suc (suc k)) out in_ = cc
smaller_is_met (a ∷ b ∷ d ∷ more) conflict smaller = grind (arith, conflict.each_request)

no_is_preferred : IsPreferredConflict two_ports order (false ∷ true ∷ [])
no_is_preferred = record { is = no_is_a_conflict; none_before = smaller_is_met }

-- ---- a model that nothing satisfies

-- A rack keeps a rule that is never true.
abbrev never : Model
never = record two_ports { rules = record { name = codes "never"; kind = 0; holds = no } ∷ [] }

first : (s t : Bool) → (s && t) ≡ true → s ≡ true
first true t h = refl
first false t h = h

second : (s t : Bool) → (s && t) ≡ true → t ≡ true
second true t h = h
second false t h = absurd (true≢false (sym h))

broken_rule : (applies holds : Bool) → applies ≡ true → holds ≡ false → (not applies || holds) ≡ false
broken_rule true true a h = h
broken_rule true false a h = refl
broken_rule false holds a h = absurd (true≢false (sym a))

shaped_of : (m : Model) (c : List Instance) → IsTrue (satisfies m c) → IsTrue (is_shaped m c)
unfolding satisfies
shaped_of m c h = first (is_shaped m c) (is_numbered c) (first (is_shaped m c && is_numbered c) (follows_rules m c) h)

rules_of : (m : Model) (c : List Instance) → IsTrue (satisfies m c) → IsTrue (follows_rules m c)
unfolding satisfies
rules_of m c h = second (is_shaped m c && is_numbered c) (follows_rules m c) h

root_of : (m : Model) (c : List Instance) → IsTrue (is_shaped m c) → IsTrue (has_root m c)
unfolding is_shaped
root_of m c h =
    second (has_leaf_types m c) (has_root m c)
    (first _ (has_size m c) (first _ (has_values m c) (first _ (has_links m c) (first _ (has_single_parts m c) (first _ (has_links_back m c) (first _ (has_counts m c) h))))))

-- The rule is broken at instance 0, which is a rack.
nothing_satisfies : (c : List Instance) → ¬ IsTrue (satisfies never c)
unfolding has_root follows_rules
nothing_satisfies [] h = true≢false (sym (root_of never [] (shaped_of never [] h)))
nothing_satisfies (x ∷ more) h =
    true≢false (sym (first _ _ (first _ _ (rules_of never (x ∷ more) h)))
    ∙ broken_rule (under never 0 x) (is_true_at never (x ∷ more) 0 no) (root_of never (x ∷ more) (shaped_of never (x ∷ more) h)) (simp value_laws))

-- So the empty set of requests is the preferred conflict.
nothing_is_preferred : IsPreferredConflict never order (false ∷ false ∷ [])
nothing_is_preferred = record {
  is = record { each_request = refl; unmet = λ c candidate. nothing_satisfies c candidate.satisfied };
  none_before = λ x conflict smaller. at smaller.request smaller.kept;
}
  where
    at : (k : ℕ) → slice_get (false ∷ false ∷ []) k ≡ Some true → ⊥
    at zero in_ = cc
    at (suc zero) in_ = cc
    at (suc (suc k)) in_ = cc
