-- The parts of what can be spelled lead from the header to the number behind its last instance.
use Rattle.std.proofs.Common.{◌≡◌, ℕ, ℤ, suc, ◌+◌, ◌<◌, ◌≤◌, Bool, true, ◌&&◌, ◌==◌, List, [], ◌∷◌, map, length, refl, ap, ◌∙◌, arith}
use Rattle.std.specs.Prelude.{IsTrue}
use Rattle.std.specs.List.{list_all, flat_map, enumerate_from, zip}
use Rattle.std.proofs.lemmas.Bool.Decides.{nat_tests}
use lib.Pointwise.{pointwise}
use Rattle.prod_model.proofs.Inverses.{length_ports_at}
use Rattle.prod_model.specs.declared.model.Model.{Model}
use Rattle.prod_model.specs.Limits.{most_instances}
use Rattle.prod_model.specs.declared.model.AttrAt.{AttrAt}
use Rattle.prod_model.specs.declared.model.PortAt.{PortAt}
use Rattle.prod_model.specs.Forest.{is_leaf}
use Rattle.prod_model.specs.Taxonomy.{Named, attributes_of, ports_of, attributes_at, ports_at}
use Rattle.config_value.specs.declared.configuration.Instance.{Instance}
use Rattle.config_value.specs.Shaped.{has_leaf_types}
use Rattle.config_value.specs.Spelled.{is_spelled, is_spelled_value, is_spelled_links}
use Rattle.canonical_form.specs.AnswerParts.{attribute_part, port_part, end_part, instance_parts, parts_of}
use Rattle.canonical_form.specs.steps.Grammar.{at_header, at_header_end, at_number, at_type, at_members, Leads, is_spelled_instance}
use Rattle.canonical_form.proofs.Paths.{Leads_append}

-- ---- a list of instances, instance by instance

both_all : {X : Type 0} (p q : X → Bool) (c : List X) → (list_all p c && list_all q c) ≡ list_all (λ x. p x && q x) c
both_all p q [] = refl
both_all p q (x ∷ c) = let rest = both_all p q c in grind (arith)

abbrev pub HasSpelledInstances : Model → List Instance → Type 0
HasSpelledInstances m c = list_all (is_spelled_instance m) c ≡ true

pub spelled_instances : (m : Model) (c : List Instance) → IsTrue (is_spelled m c) → HasSpelledInstances m c × (1 ≤ length c) × (length c ≤ most_instances)
unfolding is_spelled has_leaf_types
spelled_instances m c spelled =
    let both = both_all (λ (x : Instance). is_leaf m x.kind && (length x.values == length (attributes_at m x.kind)) && (length x.links == length (ports_at m x.kind)))
    (λ (x : Instance). pointwise (is_spelled_value m) (attributes_at m x.kind) x.values && list_all is_spelled_links x.links) c in
    (grind (arith), grind (arith, nat_tests), grind (arith, nat_tests))

pub spelled_list : (m : Model) (c : List Instance) → HasSpelledInstances m c → 1 ≤ length c → length c ≤ most_instances → IsTrue (is_spelled m c)
unfolding is_spelled has_leaf_types
spelled_list m c all some few =
    let both = both_all (λ (x : Instance). is_leaf m x.kind && (length x.values == length (attributes_at m x.kind)) && (length x.links == length (ports_at m x.kind)))
    (λ (x : Instance). pointwise (is_spelled_value m) (attributes_at m x.kind) x.values && list_all is_spelled_links x.links) c in
    grind (arith, nat_tests)

-- ---- paths

pub attributes_lead : (m : Model) (n : ℕ) (as' : List (Named AttrAt)) (ps : List (Named PortAt)) (vs : List ℤ)
    → pointwise (is_spelled_value m) (map (λ a. a.what) as') vs ≡ true
    → Leads m (at_members n as' ps) (map (attribute_part m (n + 2)) (zip as' vs)) (at_members n [] ps)
attributes_lead m n [] ps [] valued = refl
attributes_lead m n [] ps (v ∷ vs) valued = absurd (cc)
attributes_lead m n (a ∷ as') ps [] valued = absurd (cc)
attributes_lead m n (a ∷ as') ps (v ∷ vs) valued =
    (at_members n as' ps, (v, grind (arith), refl, refl), attributes_lead m n as' ps vs (grind (arith)))

pub ports_lead : (m : Model) (n : ℕ) (ps : List (Named PortAt)) (ls : List (List ℕ)) → length ls ≡ length ps → list_all is_spelled_links ls ≡ true
    → Leads m (at_members n [] ps) (map (port_part (n + 2)) (zip ps ls)) (at_members n [] [])
ports_lead m n [] [] long linked = refl
ports_lead m n [] (l ∷ ls) long linked = absurd (omega arith)
ports_lead m n (p ∷ ps) [] long linked = absurd (omega arith)
ports_lead m n (p ∷ ps) (l ∷ ls) long linked =
    (at_members n [] ps, (l, grind (arith), refl, refl), ports_lead m n ps ls (omega arith) (grind (arith)))

end_leads : (m : Model) (n : ℕ) → Leads m (at_members n [] []) (end_part (n + 2) ∷ []) (at_number (n + 1))
end_leads m n = (at_number (n + 1), (refl, refl), refl)

pub length_pointwise : {A B : Type 0} (test : A → B → Bool) (xs : List A) (ys : List B) → pointwise test xs ys ≡ true → length ys ≡ length xs
length_pointwise test [] [] passes = refl
length_pointwise test [] (y ∷ ys) passes = absurd (cc)
length_pointwise test (x ∷ xs) [] passes = absurd (cc)
length_pointwise test (x ∷ xs) (y ∷ ys) passes = ap suc (length_pointwise test xs ys (grind (arith)))

pub length_map_what : {A : Type 0} (es : List (Named A)) → length (map (λ e. e.what) es) ≡ length es
length_map_what [] = refl
length_map_what (e ∷ es) = ap suc (length_map_what es)

-- a type has as many ports as entries of ports
pub many_ports_at : (m : Model) (t : ℕ) → length (ports_at m t) ≡ length (ports_of m.types t)
many_ports_at m t = length_ports_at m t ∙ length_map_what (ports_of m.types t)

pub length_links : (m : Model) (x : Instance) → is_spelled_instance m x ≡ true → length x.links ≡ length (ports_of m.types x.kind)
length_links m x spelled = let long : length x.links ≡ length (ports_at m x.kind) = grind (arith, nat_tests) in long ∙ many_ports_at m x.kind

instance_leads : (m : Model) (n : ℕ) (x : Instance) → n < most_instances → is_spelled_instance m x ≡ true → Leads m (at_number n) (instance_parts m (n, x)) (at_number (n + 1))
unfolding instance_parts
instance_leads m n x few spelled =
    let as' = attributes_of m.types x.kind in
    let ps = ports_of m.types x.kind in
    let leaf : IsTrue (is_leaf m x.kind) = grind (arith) in
    let linked : length x.links ≡ length ps = length_links m x spelled in
    let first = Leads_append m (at_members n as' ps) (at_members n [] ps) (at_members n [] []) _ _ (attributes_lead m n as' ps x.values (grind (arith))) (ports_lead m n ps x.links linked (grind (arith))) in (
      at_type n,
      (few, refl, refl),
      (
        at_members n as' ps,
        (x.kind, leaf, refl, refl),
        Leads_append m (at_members n as' ps) (at_members n [] []) (at_number (n + 1)) _ _ first (end_leads m n),
      ),
    )

pub lines_lead : (m : Model) (n : ℕ) (c : List Instance) (k : ℕ) → HasSpelledInstances m c → n + length c ≡ k → k ≤ most_instances
    → Leads m (at_number n) (flat_map (instance_parts m) (enumerate_from n c)) (at_number k)
lines_lead m n [] k all count few = let e : n ≡ k = omega arith in ap (λ i. at_number i) e
lines_lead m n (x ∷ c) k all count few =
    Leads_append m (at_number n) (at_number (n + 1)) (at_number k) (instance_parts m (n, x)) _
    (instance_leads m n x (omega arith) (grind (arith)))
    (lines_lead m (n + 1) c k (grind (arith)) (omega arith) few)

pub parts_lead : (m : Model) (c : List Instance) → IsTrue (is_spelled m c) → Leads m at_header (parts_of m c) (at_number (length c))
unfolding parts_of
parts_lead m c spelled =
    let known = spelled_instances m c spelled in
    (at_header_end, (refl, refl), (at_number 0, (refl, refl), lines_lead m 0 c (length c) known.0 (omega arith) known.2))
