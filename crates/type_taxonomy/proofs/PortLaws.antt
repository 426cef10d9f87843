-- Ports that are found by name along the line of a type, and declarations by id.
use Rattle.std.proofs.Common.{◌≡◌, ℕ, ◌<◌, ◌≤◌, ◌+◌, ◌++◌, Bool, true, false, cond, List, [], ◌∷◌, length, map, take, sum_by, inl, inr, sym, ap, ◌∙◌, refl, Option, Some, None, slice_get, add-zero, add_assoc, arith}
use Rattle.std.specs.Option.{option_map, option_map_or, option_or}
use Rattle.std.specs.List.{find, filter}
use Rattle.std.specs.Cmp.Lexicographic.{same_text as text_of_same}
use Rattle.std.proofs.lemmas.List.{take_all}
use Rattle.std.proofs.lemmas.List.Folds.{find-append}
use Rattle.std.proofs.lemmas.Option.{slice_get_past, slice_get_cases, get_or_from_slice_get}
use Rattle.base_laws.proofs.Places.{find_at}
use Rattle.base_laws.proofs.Searches.{find_map}
use Rattle.prod_model.specs.declared.model.Model.{Model}
use Rattle.prod_model.specs.declared.model.TypeDecl.{TypeDecl}
use Rattle.prod_model.specs.declared.model.PortDecl.{PortDecl}
use Rattle.prod_model.specs.declared.model.PortAt.{PortAt}
use Rattle.prod_model.specs.Names.{same_text}
use Rattle.prod_model.specs.Taxonomy.{Named, made_port, kept_entry, ports_of, declarations_of, new_declarations, all_new_declarations, first_id}
use Rattle.prod_model.specs.Valid.{port_declarations}
use Rattle.prod_model.proofs.EntryLaws.{entries_of_parent}
use Rattle.prod_model.proofs.EntryPlaces.{ids_are_places, first_id_before}
use Rattle.prod_model.proofs.ForestLines.{HasNoCycle}
use Rattle.type_taxonomy.specs.steps.PortSearch.{is_new, numbered, of_name, later, narrowed}
use Rattle.type_taxonomy.proofs.Items.{sum_by_next_lt}
use Rattle.type_taxonomy.proofs.FewDeclarations.{one_of_few}

abbrev ports : TypeDecl → List PortDecl
ports d = d.ports

abbrev name_of : PortDecl → List ℕ
name_of d = d.name

abbrev news : List TypeDecl → ℕ → List PortDecl
news types t = new_declarations ports name_of types t

-- ---- ids

-- what is new in a type
pub new_here : (types : List TypeDecl) (t : ℕ) (d : TypeDecl) (ds : List PortDecl) → slice_get types t ≡ Some d → ds ≡ d.ports → filter (is_new types t) ds ≡ news types t
new_here types t d ds is_type are =
    ap (filter (is_new types t)) are ∙ ap (λ o. filter (is_new types t) (option_map_or ports o [])) (sym is_type)

-- with the declarations of a type the ids stay small
pub few_after : (types : List TypeDecl) (t id most : ℕ) → id ≤ sum_by (λ d. length d.ports) (take t types) → sum_by (λ d. length d.ports) types < most
    → id + length (declarations_of ports name_of types t) < most
few_after types t id most few all = elim (slice_get_cases types t).1 [
  | inl w ↦ (
      let is : slice_get types t ≡ Some w.0 = w.2 in
      let next = sum_by_next_lt (λ d. length d.ports) types t id most w.0 w.1 (sym (get_or_from_slice_get types t w.0 w.0 is)) few all in
      let size : length (declarations_of ports name_of types t) ≡ length w.0.ports = ap (λ o. length (option_map_or ports o [])) is in
      omega (arith, next, size))
  | inr w ↦ (
      let none : length (declarations_of ports name_of types t) ≡ 0 = ap (λ o. length (option_map_or ports o [])) (slice_get_past types t w.0) in
      let whole : sum_by (λ d. length d.ports) (take t types) ≡ sum_by (λ d. length d.ports) types = ap (sum_by (λ d. length d.ports)) (take_all t types w.0) in
      omega (arith, none, whole))
]

-- a type has no more declarations than there are
pub few_declared : (m : Model) (t most : ℕ) → sum_by (λ d. length d.ports) m.types < most → length (port_declarations m t) < most
few_declared m t most few = elim (slice_get_cases m.types t).1 [
  | inl w ↦ (let is : slice_get m.types t ≡ Some w.0 = w.2 in
      omega (arith, ap (λ o. length (option_map_or ports o [])) is, one_of_few (λ d. length d.ports) m m t w.0 most refl few is))
  | inr w ↦ omega (arith, ap (λ o. length (option_map_or ports o [])) (slice_get_past m.types t w.0))
]

-- the declaration of an id, where the id is of this type
pub of_type : (types : List TypeDecl) (t left id : ℕ) → t < length types → left < length (news types t) → id ≡ first_id ports name_of types t + left
    → slice_get (news types t) left ≡ slice_get (all_new_declarations ports name_of types) id
of_type types t left id within below is_id = elim (slice_get_cases (news types t) left).1 [
  | inl w ↦ (let is : slice_get (news types t) left ≡ Some w.0 = w.2 in
      is ∙ sym ((ids_are_places types).1.stands t left w.0 within is) ∙ ap (slice_get (all_new_declarations ports name_of types)) (sym is_id))
  | inr w ↦ absurd (omega (arith, w.0, below))
]

-- no declaration has an id past the last type
pub past_all : (types : List TypeDecl) (t left id : ℕ) → t ≡ length types → id ≡ first_id ports name_of types t + left
    → slice_get (all_new_declarations ports name_of types) id ≡ None
past_all types t left id is_end is_id =
    slice_get_past (all_new_declarations ports name_of types) id
    (omega (arith, is_id, ap (first_id ports name_of types) is_end, first_id_before ports name_of types (length types)))

-- ---- new ports by name

later_cons : (by id : ℕ) (d : PortDecl) (b : Bool) (rest more : Option (Named PortAt)) → option_map (λ e. e.what) more ≡ option_map (later by) (option_map (λ e. e.what) rest)
    → option_map (λ e. e.what) (cond b (Some (record { name = d.name; what = made_port (by + id) d })) more)
    ≡ option_map (later by) (option_map (λ e. e.what) (cond b (Some (record { name = d.name; what = made_port id d })) rest))
later_cons by id d true rest more same = refl
later_cons by id d false rest more same = same

numbered_later : (by id : ℕ) (ds : List PortDecl) (name : List ℕ) → of_name name (numbered (by + id) ds) ≡ option_map (later by) (of_name name (numbered id ds))
numbered_later by id [] name = refl
numbered_later by id (d ∷ ds) name =
    let is = λ (e : Named PortAt). same_text e.name name in
    later_cons by id d (same_text d.name name) (find is (numbered (id + 1) ds)) (find is (numbered (by + id + 1) ds))
    (ap (λ k. of_name name (numbered k ds)) (add_assoc by id 1) ∙ numbered_later by (id + 1) ds name)

-- a new port by name, from its place among the new ones of the type
pub new_found : (types : List TypeDecl) (t first : ℕ) (ds : List PortDecl) (name : List ℕ) (found : Option PortAt) → first ≡ first_id ports name_of types t
    → ds ≡ declarations_of ports name_of types t → found ≡ of_name name (numbered 0 (filter (is_new types t) ds))
    → option_map (later first) found ≡ of_name name (numbered (first_id ports name_of types t) (news types t))
new_found types t first ds name found is_first are is =
    ap (option_map (later first)) (is ∙ ap (λ l. of_name name (numbered 0 (filter (is_new types t) l))) are)
    ∙ sym (numbered_later first 0 (news types t) name)
    ∙ ap (λ k. of_name name (numbered k (news types t))) (add-zero first ∙ is_first)

-- ---- inherited ports by name

abbrev kept : List PortDecl → Named PortAt → Named PortAt
kept ds e = kept_entry ports name_of made_port (λ d p. made_port p.id d) ds e

kept_name : (e : Named PortAt) (found : Option PortDecl) → (option_map_or (λ d. record { name = e.name; what = made_port e.what.id d }) found e).name ≡ e.name
kept_name e None = refl
kept_name e (Some d) = refl

kept_what : (e : Named PortAt) (found : Option PortDecl)
    → (option_map_or (λ d. record { name = e.name; what = made_port e.what.id d }) found e).what ≡ option_map_or (λ d. made_port e.what.id d) found e.what
kept_what e None = refl
kept_what e (Some d) = refl

find_kept : (ds : List PortDecl) (name : List ℕ) (es : List (Named PortAt))
    → find (λ e. same_text e.name name) (map (kept ds) es) ≡ option_map (kept ds) (find (λ e. same_text e.name name) es)
find_kept ds name es =
    let same : (λ (e : Named PortAt). same_text (kept ds e).name name) ≡ (λ (e : Named PortAt). same_text e.name name) =
    λ j e. same_text (kept_name e (find (λ d. same_text d.name e.name) ds) j) name in
    find_map (λ e. same_text e.name name) (kept ds) es ∙ ap (λ p. option_map (kept ds) (find p es)) same

-- what is inherited under a name counts, narrowed, and else what is new
extended_named : (name : List ℕ) (ds : List PortDecl) (inherited new : List (Named PortAt)) (o : Option (Named PortAt)) → find (λ e. same_text e.name name) inherited ≡ o
    → of_name name (map (kept ds) inherited ++ new) ≡ option_map_or (λ p. Some (narrowed ds name p)) (option_map (λ e. e.what) o) (of_name name new)
extended_named name ds inherited new None is =
    ap (option_map (λ e. e.what)) (find-append (λ e. same_text e.name name) (map (kept ds) inherited) new
    ∙ ap (λ o. option_or o (find (λ e. same_text e.name name) new)) (find_kept ds name inherited ∙ ap (option_map (kept ds)) is))
extended_named name ds inherited new (Some e) is =
    let same : e.name ≡ name = text_of_same e.name name (sym (find_at (λ x. same_text x.name name) inherited e is).2) in
    ap (option_map (λ x. x.what)) (find-append (λ x. same_text x.name name) (map (kept ds) inherited) new
    ∙ ap (λ o. option_or o (find (λ x. same_text x.name name) new)) (find_kept ds name inherited ∙ ap (option_map (kept ds)) is))
    ∙ ap Some (kept_what e (find (λ d. same_text d.name e.name) ds)) ∙ ap (λ n. Some (narrowed ds n e.what)) same

-- what a type has under a name, from what its parent has
pub named_from_parent : (types : List TypeDecl) → HasNoCycle types → (t : ℕ) (d : TypeDecl) (name : List ℕ) (parent : Option ℕ) → slice_get types t ≡ Some d → d.parent ≡ parent
    → of_name name (ports_of types t)
    ≡ option_map_or (λ p. Some (narrowed d.ports name p)) (of_name name (option_map_or (ports_of types) parent []))
    (of_name name (numbered (first_id ports name_of types t) (news types t)))
unfolding ports_of
named_from_parent types forest t d name parent is_type is_parent =
    let inherited = option_map_or (ports_of types) d.parent [] in
    let new = numbered (first_id ports name_of types t) (news types t) in
    ap (of_name name) (entries_of_parent ports name_of made_port (λ d p. made_port p.id d) types forest t d is_type)
    ∙ extended_named name (declarations_of ports name_of types t) inherited new (find (λ e. same_text e.name name) inherited) refl
    ∙ ap (λ o. option_map_or (λ p. Some (narrowed (option_map_or ports o []) name p)) (of_name name inherited) (of_name name new)) is_type
    ∙ ap (λ u. option_map_or (λ p. Some (narrowed d.ports name p)) (of_name name (option_map_or (ports_of types) u [])) (of_name name new)) is_parent

-- what is no type has no ports
pub no_port : (types : List TypeDecl) (t : ℕ) (name : List ℕ) → slice_get types t ≡ None → of_name name (ports_of types t) ≡ None
unfolding ports_of
no_port types t name none = rw none refl
