-- What the parent of a type has under a name, among ids with declarations.
use Rattle.std.proofs.Common.{◌≡◌, ℕ, List, map, sym, ap, ap₂, ◌∙◌, refl, Option, Some, None, is_none, Bool, true, ◌&&◌, nat_le}
use Rattle.std.specs.Option.{option_map, option_map_or, option_and_then}
use Rattle.std.specs.List.{find}
use Rattle.base_laws.proofs.Searches.{find_map}
use Rattle.prod_model.specs.declared.model.Model.{Model}
use Rattle.prod_model.specs.declared.model.TypeDecl.{TypeDecl}
use Rattle.prod_model.specs.declared.model.AttrDecl.{AttrDecl}
use Rattle.prod_model.specs.declared.model.PortDecl.{PortDecl}
use Rattle.prod_model.specs.declared.model.PortAt.{PortAt}
use Rattle.prod_model.specs.Names.{same_text}
use Rattle.prod_model.specs.Forest.{is_a}
use Rattle.prod_model.specs.Taxonomy.{Named, attributes_of, ports_of}
use Rattle.prod_model.specs.Valid.{inherited, narrows_domain, same_kind, attribute_narrows, port_narrows}
use Rattle.type_taxonomy.specs.steps.Entries.{placed_of}
use Rattle.prod_model.proofs.MappedEntries.{under}
use Rattle.type_taxonomy.proofs.Finished.{attribute_at, port_at, attributes_finished, ports_finished}

-- what the parent has under a name, among ids with declarations
abbrev pub placed_above : {D : Type 0} → (TypeDecl → List D) → (D → List ℕ) → List TypeDecl → Option ℕ → List ℕ → Option (Named (ℕ × D))
placed_above declared name_of types parent name = option_and_then (λ p. find (λ e. same_text e.name name) (placed_of declared name_of types p)) parent

what_under : {A B : Type 0} (h : A → B) (found : Option (Named A)) → option_map (λ e. e.what) (option_map (under h) found) ≡ option_map (λ e. h e.what) found
what_under h None = refl
what_under h (Some e) = refl

-- the definition's word, for entries that are finished so
inherited_at : {D A : Type 0} (declared : TypeDecl → List D) (name_of : D → List ℕ) (entries : List TypeDecl → ℕ → List (Named A)) (h : ℕ × D → A) (types : List TypeDecl) (parent : Option ℕ)
    (name : List ℕ) → ((t : ℕ) → map (under h) (placed_of declared name_of types t) ≡ entries types t)
    → option_map (λ e. e.what) (option_and_then (λ t. find (λ e. same_text e.name name) (entries types t)) parent) ≡ option_map (λ e. h e.what) (placed_above declared name_of types parent name)
inherited_at declared name_of entries h types None name finished = refl
inherited_at declared name_of entries h types (Some t) name finished =
    ap (λ l. option_map (λ e. e.what) (find (λ e. same_text e.name name) l)) (sym (finished t))
    ∙ ap (option_map (λ e. e.what)) (find_map (λ e. same_text e.name name) (under h) (placed_of declared name_of types t))
    ∙ what_under h (find (λ e. same_text e.name name) (placed_of declared name_of types t))

pub is_none_map : {A B : Type 0} (f : A → B) (o : Option A) → is_none (option_map f o) ≡ is_none o
is_none_map f None = refl
is_none_map f (Some x) = refl

pub map_or_map : {A B C : Type 0} (g : B → C) (f : A → B) (o : Option A) (c : C) → option_map_or g (option_map f o) c ≡ option_map_or (λ x. g (f x)) o c
map_or_map g f None c = refl
map_or_map g f (Some x) c = refl

-- the two tests of an attribute are the definition
pub attribute_told : (m : Model) (d : TypeDecl) (a : AttrDecl) (free within : Bool)
    → free ≡ is_none (placed_above (λ e. e.ports) (λ e. e.name) m.types d.parent a.name)
    → within ≡ option_map_or (λ e. narrows_domain a.domain e.what.1.domain) (placed_above (λ e. e.attributes) (λ e. e.name) m.types d.parent a.name) true
    → (free && within) ≡ attribute_narrows m d a
attribute_told m d a free within is_free is_within =
    let above_ports = placed_above (λ e. e.ports) (λ e. e.name) m.types d.parent a.name in
    let above = placed_above (λ e. e.attributes) (λ e. e.name) m.types d.parent a.name in
    let ports : inherited ports_of m d a.name ≡ option_map (λ e. port_at e.what) above_ports =
    inherited_at (λ e. e.ports) (λ e. e.name) ports_of port_at m.types d.parent a.name (ports_finished m.types) in
    let attributes : inherited attributes_of m d a.name ≡ option_map (λ e. attribute_at e.what) above =
    inherited_at (λ e. e.attributes) (λ e. e.name) attributes_of attribute_at m.types d.parent a.name (attributes_finished m.types) in
    ap₂ (λ x y. x && y) (is_free ∙ sym (is_none_map (λ e. port_at e.what) above_ports) ∙ ap is_none (sym ports))
    (is_within ∙ sym (map_or_map (λ b. narrows_domain a.domain b.domain) (λ e. attribute_at e.what) above true)
    ∙ ap (λ o. option_map_or (λ b. narrows_domain a.domain b.domain) o true) (sym attributes))

-- and those of a port
pub port_told : (m : Model) (d : TypeDecl) (p : PortDecl) (free within : Bool)
    → free ≡ is_none (placed_above (λ e. e.attributes) (λ e. e.name) m.types d.parent p.name)
    → within ≡ option_map_or (λ e. same_kind p.kind e.what.1.kind && nat_le e.what.1.low p.low && nat_le p.high e.what.1.high && is_a m p.target e.what.1.target)
    (placed_above (λ e. e.ports) (λ e. e.name) m.types d.parent p.name) true
    → (free && within) ≡ port_narrows m d p
port_told m d p free within is_free is_within =
    let narrow = λ (q : PortAt). same_kind p.kind q.kind && nat_le q.low p.low && nat_le p.high q.high && is_a m p.target q.target in
    let above_attributes = placed_above (λ e. e.attributes) (λ e. e.name) m.types d.parent p.name in
    let above = placed_above (λ e. e.ports) (λ e. e.name) m.types d.parent p.name in
    let attributes : inherited attributes_of m d p.name ≡ option_map (λ e. attribute_at e.what) above_attributes =
    inherited_at (λ e. e.attributes) (λ e. e.name) attributes_of attribute_at m.types d.parent p.name (attributes_finished m.types) in
    let ports : inherited ports_of m d p.name ≡ option_map (λ e. port_at e.what) above =
    inherited_at (λ e. e.ports) (λ e. e.name) ports_of port_at m.types d.parent p.name (ports_finished m.types) in
    ap₂ (λ x y. x && y) (is_free ∙ sym (is_none_map (λ e. attribute_at e.what) above_attributes) ∙ ap is_none (sym attributes))
    (is_within ∙ sym (map_or_map narrow (λ e. port_at e.what) above true) ∙ ap (λ o. option_map_or narrow o true) (sym ports))
