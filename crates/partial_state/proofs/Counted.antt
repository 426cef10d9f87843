-- How many attributes and ports have an id.
use Rattle.std.proofs.Common.{◌≡◌, ℕ, suc, ◌+◌, ◌-◌, ◌<◌, ◌≤◌, ◌∙◌, ap, sym, List, [], ◌∷◌, ◌++◌, length, map, refl, arith, length-append, Some, None}
use Rattle.std.specs.Option.{option_map_or}
use Rattle.std.specs.List.{flat_map, range_with_len}
use Rattle.std.proofs.lemmas.List.{length-map}
use Rattle.prod_model.specs.declared.model.Model.{Model}
use Rattle.prod_model.specs.declared.model.TypeDecl.{TypeDecl}
use Rattle.prod_model.specs.declared.model.AttrDecl.{AttrDecl}
use Rattle.prod_model.specs.declared.model.AttrAt.{AttrAt}
use Rattle.prod_model.specs.declared.model.PortAt.{PortAt}
use Rattle.prod_model.specs.Forest.{parent_of}
use Rattle.prod_model.specs.Taxonomy.{Named, declarations_of, new_declarations, all_new_declarations, first_id, new_entries, kept_entry, made_port, ports_of, ports_at, declared_ports_at, with_inverse}
use Rattle.prod_model.specs.Valid.{IsValid}
use Rattle.prod_model.proofs.EntryLaws.{all_new_split}
use Rattle.prod_model.proofs.EntryPlaces.{entries_extend_the_parents, first_id_before, first_id_next}
use Rattle.state_space.specs.State.{first_attributes, first_ports}
use Rattle.state_space.proofs.FewLaws.{valid_has_few}

module _ {D : Type 0} (declared : TypeDecl → List D) (name_of : D → List ℕ) (types : List TypeDecl) where
  -- the ids of all types
  all_counted : first_id declared name_of types (length types) ≡ length (all_new_declarations declared name_of types)
  all_counted = first_id_before declared name_of types (length types)

  -- those up to a type are no more than all
  few_counted : (t : ℕ) → t < length types → first_id declared name_of types t + length (new_declarations declared name_of types t) ≤ length (all_new_declarations declared name_of types)
  few_counted t within =
      let news = new_declarations declared name_of types in
      let before = flat_map news (range_with_len 0 t) in
      let after = flat_map news (range_with_len (0 + t + 1) (length types - t - 1)) in
      let split = ap length (all_new_split declared name_of types t within) in
      let front = length-append before (news t ++ after) in
      let back = length-append (news t) after in
      omega (arith, split, front, back, first_id_before declared name_of types t)

-- attributes of the types so far, and of one more
pub attributes_next : (m : Model) (t n : ℕ) (xs : List AttrAt) → n ≡ first_id (λ d. d.attributes) (λ d. d.name) m.types t
    → map (λ a. a.domain) xs ≡ map (λ d. d.domain) (new_declarations (λ d. d.attributes) (λ d. d.name) m.types t) → n + length xs ≡ first_id (λ d. d.attributes) (λ d. d.name) m.types (t + 1)
attributes_next m t n xs is same =
    let news = new_declarations (λ d. d.attributes) (λ d. d.name) m.types t in
    let long : length xs ≡ length news = sym (length-map xs (λ (a : AttrAt). a.domain)) ∙ ap length same ∙ length-map news (λ (d : AttrDecl). d.domain) in
    let next = first_id_next (λ d. d.attributes) (λ d. d.name) m.types t in
    omega (arith, is, long, next)

pub attributes_few : (m : Model) → IsValid m → (t n : ℕ) (xs : List AttrAt) → t < length m.types → n ≡ first_id (λ d. d.attributes) (λ d. d.name) m.types t
    → map (λ a. a.domain) xs ≡ map (λ d. d.domain) (new_declarations (λ d. d.attributes) (λ d. d.name) m.types t) → n + length xs ≤ 256
attributes_few m valid t n xs within is same =
    let next = attributes_next m t n xs is same in
    let step = first_id_next (λ d. d.attributes) (λ d. d.name) m.types t in
    let few = few_counted (λ d. d.attributes) (λ d. d.name) m.types t within in
    let all = (valid_has_few m valid).attributes in
    omega (arith, next, step, few, all)

pub attributes_all : (m : Model) → first_id (λ d. d.attributes) (λ d. d.name) m.types (length m.types) ≡ length (first_attributes m)
attributes_all m = all_counted (λ d. d.attributes) (λ d. d.name) m.types

pub ports_next : (m : Model) (t n new : ℕ) → n ≡ first_id (λ d. d.ports) (λ d. d.name) m.types t → new ≡ length (new_declarations (λ d. d.ports) (λ d. d.name) m.types t)
    → n + new ≡ first_id (λ d. d.ports) (λ d. d.name) m.types (t + 1)
ports_next m t n new is long = let next = first_id_next (λ d. d.ports) (λ d. d.name) m.types t in omega (arith, is, long, next)

pub ports_few : (m : Model) → IsValid m → (t n new : ℕ) → t < length m.types → n ≡ first_id (λ d. d.ports) (λ d. d.name) m.types t
    → new ≡ length (new_declarations (λ d. d.ports) (λ d. d.name) m.types t) → n + new ≤ 256
ports_few m valid t n new within is long =
    let few = few_counted (λ d. d.ports) (λ d. d.name) m.types t within in
    let all = (valid_has_few m valid).ports in
    omega (arith, is, long, few, all)

pub ports_all : (m : Model) → first_id (λ d. d.ports) (λ d. d.name) m.types (length m.types) ≡ length (first_ports m)
ports_all m = all_counted (λ d. d.ports) (λ d. d.name) m.types

-- ---- what is new in a type

length-new_entries : {D A : Type 0} (declared : TypeDecl → List D) (name_of : D → List ℕ) (made : ℕ → D → A) (narrowed : D → A → A) (id : ℕ) (ds : List D)
    → length (new_entries declared name_of made narrowed id ds) ≡ length ds
length-new_entries declared name_of made narrowed id [] = refl
length-new_entries declared name_of made narrowed id (d ∷ ds) = ap suc (length-new_entries declared name_of made narrowed (id + 1) ds)

-- a type has the ports of its parent, and the new ones
pub ports_parted : (m : Model) → IsValid m → (t : ℕ) → t < length m.types
    → length (ports_at m t) ≡ length (option_map_or (ports_of m.types) (parent_of m t) []) + length (new_declarations (λ d. d.ports) (λ d. d.name) m.types t)
ports_parted m valid t within =
    let inherited = option_map_or (ports_of m.types) (parent_of m t) [] in
    let keep = kept_entry (λ d. d.ports) (λ d. d.name) made_port (λ d p. made_port p.id d) (declarations_of (λ d. d.ports) (λ d. d.name) m.types t) in
    let id = first_id (λ d. d.ports) (λ d. d.name) m.types t in
    let news = new_declarations (λ d. d.ports) (λ d. d.name) m.types t in
    let new = new_entries (λ d. d.ports) (λ d. d.name) made_port (λ d p. made_port p.id d) id news in
    let split = ap length (entries_extend_the_parents m valid t within).1 in
    let sum = length-append (map keep inherited) new in
    let kept = length-map inherited keep in
    let added = length-new_entries (λ d. d.ports) (λ d. d.name) made_port (λ d p. made_port p.id d) id news in
    omega (arith, split, sum, kept, added, long_ports m t)
  where
    long_ports : (m : Model) (t : ℕ) → length (ports_at m t) ≡ length (ports_of m.types t)
    long_ports m t = length-map (declared_ports_at m t) (with_inverse m) ∙ length-map (ports_of m.types t) (λ (e : Named PortAt). e.what)

pub ports_of_parent : (m : Model) (t p n : ℕ) → parent_of m t ≡ Some p → n ≡ length (ports_at m p) → n ≡ length (option_map_or (ports_of m.types) (parent_of m t) [])
ports_of_parent m t p n is long =
    long ∙ length-map (declared_ports_at m p) (with_inverse m) ∙ length-map (ports_of m.types p) (λ (e : Named PortAt). e.what)
    ∙ ap (λ o. length (option_map_or (ports_of m.types) o [])) (sym is)

pub no_ports_above : (m : Model) (t : ℕ) → parent_of m t ≡ None → 0 ≡ length (option_map_or (ports_of m.types) (parent_of m t) [])
no_ports_above m t none = ap (λ o. length (option_map_or (ports_of m.types) o [])) (sym none)
