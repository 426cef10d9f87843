-- The tables of a new instance.
use Rattle.std.proofs.Common.{◌≡◌, ℕ, suc, ◌+◌, ◌-◌, ◌<◌, ◌≤◌, ◌∙◌, ap, ap₂, sym, subst, Bool, refl, List, [], ◌∷◌, ◌++◌, length, map, get_or, take, drop, Option, Some, None, arith, length-append, length-drop, append_assoc, append-nil, zero-add, leb-true}
use Rattle.std.specs.Prelude.{IsTrue, nat_le, slice_get, if◌then◌else◌}
use Rattle.std.specs.Option.{option_map_or, option_and_then}
use Rattle.std.specs.List.{list_any, list_all, flat_map, range_with_len, enumerate_from}
use Rattle.std.proofs.lemmas.Bool.{and_parts, and_from}
use Rattle.std.proofs.lemmas.List.{map-append, length-map, take_more, length-take-le}
use Rattle.std.proofs.lemmas.Grind.{flat_map-append}
use Rattle.std.proofs.Math.Seq.{drop-append_seam, take-length}
use Rattle.std.proofs.lemmas.Option.{none-some}
use Rattle.base_laws.specs.Places.{IsAt}
use Rattle.base_laws.proofs.Places.{map_at, at_map}
use Rattle.base_laws.proofs.Tests.{list_all_at, list_all_from}
use Rattle.base_laws.proofs.Ranges.{range_split}
use Rattle.prod_model.specs.declared.model.Model.{Model}
use Rattle.prod_model.specs.declared.model.TypeDecl.{TypeDecl}
use Rattle.prod_model.specs.declared.model.AttrDecl.{AttrDecl}
use Rattle.prod_model.specs.declared.model.AttrAt.{AttrAt}
use Rattle.prod_model.specs.declared.model.Domain.{Domain}
use Rattle.prod_model.specs.Forest.{parent_of}
use Rattle.prod_model.specs.Taxonomy.{Named, declarations_of, new_declarations, first_id, new_entries, kept_entry, made_attribute, attributes_of, attributes_at, declared_ports_at}
use Rattle.prod_model.specs.Valid.{IsValid, knows_types, has_known_parents_and_targets}
use Rattle.prod_model.proofs.TaxonomyTests.{parent_is_type, room_each}
use Rattle.prod_model.specs.Limits.{most_attributes_of_type, most_ports_of_type}
use Rattle.prod_model.proofs.EntryPlaces.{entries_extend_the_parents, ids_are_places}
use Rattle.prod_model.proofs.EntryLaws.{all_new_split}
use Rattle.config_value.specs.Literals.{has_attribute}
use Rattle.state_space.specs.Root.{new_instance}
use Rattle.state_space.proofs.FewLaws.{first_formed}
use Rattle.state_space.specs.Values.{Values}
use Rattle.state_space.specs.State.{first_attributes, values_of}
use Rattle.partial_state.specs.steps.NewRows.{new_domain, new_domains, is_formed}

-- ---- lists of domains

-- what is new in two lists, one after the other
pub new_domains-append : (held : ℕ → Bool) (i : ℕ) (xs ys : List Domain) → new_domains held i (xs ++ ys) ≡ new_domains held i xs ++ new_domains held (i + length xs) ys
new_domains-append held i [] ys = let e : i ≡ i + 0 = omega arith in ap (λ n. new_domains held n ys) e
new_domains-append held i (x ∷ xs) ys =
    let e : i + 1 + length xs ≡ i + suc (length xs) = omega arith in
    ap (λ l. new_domain (held i) x ∷ l) (new_domains-append held (i + 1) xs ys ∙ ap (λ n. new_domains held (i + 1) xs ++ new_domains held n ys) e)

pub length-new_domains : (held : ℕ → Bool) (i : ℕ) (xs : List Domain) → length (new_domains held i xs) ≡ length xs
length-new_domains held i [] = refl
length-new_domains held i (x ∷ xs) = ap suc (length-new_domains held (i + 1) xs)

-- the domains of a new instance, where the tests agree
pub domains_made : (held : ℕ → Bool) (has : ℕ → Bool) (i : ℕ) (ds : List AttrDecl) → ((a : ℕ) → i ≤ a → a < i + length ds → held a ≡ has a)
    → new_domains held i (map (λ d. d.domain) ds) ≡ map (λ e. if has e.0 then Some (values_of e.1.domain) else None) (enumerate_from i ds)
domains_made held has i [] agree = refl
domains_made held has i (d ∷ ds) agree =
    ap₂ (λ b l. (if b then Some (values_of d.domain) else None) ∷ l) (agree i (omega arith) (omega arith))
    (domains_made held has (i + 1) ds (λ a from below. agree a (omega (arith, from)) (omega (arith, below))))

-- ---- what is new in a type

module _ {D A X : Type 0} (declared : TypeDecl → List D) (name_of : D → List ℕ) (made : ℕ → D → A) (narrowed : D → A → A)
    (of_entry : A → X) (of_declaration : D → X) (of_made : (id : ℕ) (d : D) → of_entry (made id d) ≡ of_declaration d) where
  new_what : (id : ℕ) (ds : List D) → map of_entry (map (λ e. e.what) (new_entries declared name_of made narrowed id ds)) ≡ map of_declaration ds
  new_what id [] = refl
  new_what id (d ∷ ds) = ap₂ (λ x xs. x ∷ xs) (of_made id d) (new_what (id + 1) ds)

  -- behind what is inherited stands what is new
  pub behind : (types : List TypeDecl) (t n : ℕ) (inherited es : List (Named A)) → n ≡ length inherited
      → es ≡ map (kept_entry declared name_of made narrowed (declarations_of declared name_of types t)) inherited
      ++ new_entries declared name_of made narrowed (first_id declared name_of types t) (new_declarations declared name_of types t)
      → map of_entry (drop n (map (λ e. e.what) es)) ≡ map of_declaration (new_declarations declared name_of types t)
  behind types t n inherited es long is =
      let keep = kept_entry declared name_of made narrowed (declarations_of declared name_of types t) in
      let new = new_entries declared name_of made narrowed (first_id declared name_of types t) (new_declarations declared name_of types t) in
      let kept = map (λ (e : Named A). e.what) (map keep inherited) in
      let longs : n ≡ length kept = long ∙ sym (length-map (map keep inherited) (λ (e : Named A). e.what) ∙ length-map inherited keep) in
      let split : map (λ (e : Named A). e.what) es ≡ kept ++ map (λ (e : Named A). e.what) new = ap (map (λ (e : Named A). e.what)) is ∙ map-append (λ (e : Named A). e.what) (map keep inherited) new in
      ap (map of_entry) (ap₂ drop longs split ∙ drop-append_seam kept (map (λ (e : Named A). e.what) new))
      ∙ new_what (first_id declared name_of types t) (new_declarations declared name_of types t)

-- the attributes behind those of the parent are the new ones
pub new_attributes_behind : (m : Model) → IsValid m → (t n : ℕ) → t < length m.types → n ≡ length (option_map_or (attributes_of m.types) (parent_of m t) [])
    → map (λ a. a.domain) (drop n (attributes_at m t)) ≡ map (λ d. d.domain) (new_declarations (λ d. d.attributes) (λ d. d.name) m.types t)
new_attributes_behind m valid t n within long =
    behind (λ d. d.attributes) (λ d. d.name) made_attribute (λ d a. made_attribute a.id d) (λ a. a.domain) (λ d. d.domain) (λ id d. refl)
    m.types t n (option_map_or (attributes_of m.types) (parent_of m t) []) (attributes_of m.types t) long (entries_extend_the_parents m valid t within).0

-- the domains of a first declaration are formed
new_formed : (m : Model) → IsValid m → (t j : ℕ) (d : AttrDecl) → t < length m.types → IsAt (new_declarations (λ d. d.attributes) (λ d. d.name) m.types t) j d → IsTrue (is_formed d.domain)
new_formed m valid t j d within at =
    let place = (ids_are_places m.types).0.stands t j d within at in
    let formed = first_formed m valid (first_id (λ d. d.attributes) (λ d. d.name) m.types t + j) d place in
    and_from _ _ formed.0 formed.1

-- so are those of the attributes that are new in a type
pub new_attributes_formed : (m : Model) → IsValid m → (t : ℕ) (xs : List AttrAt) → t < length m.types
    → map (λ a. a.domain) xs ≡ map (λ d. d.domain) (new_declarations (λ d. d.attributes) (λ d. d.name) m.types t) → IsTrue (list_all (λ a. is_formed a.domain) xs)
new_attributes_formed m valid t xs within same = list_all_from (λ (a : AttrAt). is_formed a.domain) xs (λ k a at.
    let news = new_declarations (λ d. d.attributes) (λ d. d.name) m.types t in
    let there : IsAt (map (λ (d : AttrDecl). d.domain) news) k a.domain = ap (λ l. slice_get l k) (sym same) ∙ at_map (λ (a : AttrAt). a.domain) xs k a at in
    let found = map_at (λ (d : AttrDecl). d.domain) news k a.domain there in
    subst (λ d. IsTrue (is_formed d)) found.2 (new_formed m valid t k found.0 within found.1))

-- ---- type by type

module _ (m : Model) (held : ℕ → Bool) where
  abbrev pub news : ℕ → List AttrDecl
  news = new_declarations (λ d. d.attributes) (λ d. d.name) m.types

  -- the domains of all attributes that are new in a type before this one
  abbrev pub domains_before : ℕ → List (Option Values)
  domains_before t = new_domains held 0 (map (λ d. d.domain) (flat_map news (range_with_len 0 t)))

  long_before : (t : ℕ) → length (domains_before t) ≡ length (flat_map news (range_with_len 0 t))
  long_before t =
      let decls = flat_map news (range_with_len 0 t) in
      length-new_domains held 0 (map (λ (d : AttrDecl). d.domain) decls) ∙ length-map decls (λ (d : AttrDecl). d.domain)

  -- and those that are new in this one
  pub domains_next : (t : ℕ) (old new : List (Option Values)) (xs : List AttrAt) → old ≡ domains_before t → map (λ a. a.domain) xs ≡ map (λ d. d.domain) (news t)
      → new ≡ old ++ new_domains held (length old) (map (λ a. a.domain) xs) → new ≡ domains_before (t + 1)
  domains_next t old new xs is same more =
      let before = flat_map news (range_with_len 0 t) in
      let doms = λ (ds : List AttrDecl). map (λ (d : AttrDecl). d.domain) ds in
      let here : news (0 + t) ≡ news t = ap news (zero-add t) in
      let split : flat_map news (range_with_len 0 (t + 1)) ≡ before ++ news t =
      ap (flat_map news) (range_split 0 t 0) ∙ flat_map-append news (range_with_len 0 t) ((0 + t) ∷ []) ∙ ap (λ l. before ++ l) (append-nil (news (0 + t)) ∙ here) in
      let long : length old ≡ 0 + length (doms before) = ap length is ∙ length-new_domains held 0 (doms before) ∙ sym (zero-add (length (doms before))) in
      more ∙ ap₂ (λ l n. l ++ new_domains held n (map (λ (a : AttrAt). a.domain) xs)) is long ∙ ap (λ l. domains_before t ++ new_domains held (0 + length (doms before)) l) same
      ∙ sym (new_domains-append held 0 (doms before) (doms (news t)))
      ∙ ap (new_domains held 0) (sym (map-append (λ (d : AttrDecl). d.domain) before (news t)) ∙ ap doms (sym split))

  -- there is room for them among all
  pub room_left : (t : ℕ) (old : List (Option Values)) (xs : List AttrAt) → t < length m.types → old ≡ domains_before t → map (λ a. a.domain) xs ≡ map (λ d. d.domain) (news t)
      → length old + length xs ≤ length (first_attributes m)
  room_left t old xs within is same =
      let before = flat_map news (range_with_len 0 t) in
      let after = flat_map news (range_with_len (0 + t + 1) (length m.types - t - 1)) in
      let split = ap length (all_new_split (λ d. d.attributes) (λ d. d.name) m.types t within) in
      let front = length-append before (news t ++ after) in
      let back = length-append (news t) after in
      let own : length xs ≡ length (news t) = sym (length-map xs (λ (a : AttrAt). a.domain)) ∙ ap length same ∙ length-map (news t) (λ (d : AttrDecl). d.domain) in
      let old_long = ap length is ∙ long_before t in
      omega (arith, split, front, back, own, old_long)

  -- those of all types are those of a new instance
  pub domains_of_all : (kinds linkable : List ℕ) → ((a : ℕ) → a < length (first_attributes m) → held a ≡ list_any (λ t. has_attribute m t a) kinds)
      → domains_before (length m.types) ≡ (new_instance m kinds linkable).domains
  domains_of_all kinds linkable agree = domains_made held (λ a. list_any (λ t. has_attribute m t a) kinds) 0 (first_attributes m) (λ a from below. agree a (omega (arith, below)))

-- ---- one attribute more

-- what stands behind the domains so far
pub push_next : (held : ℕ → Bool) (old now new : List (Option Values)) (xs : List AttrAt) (k : ℕ) (x : AttrAt) (entry : Option Values) → k < length xs → x ≡ get_or xs k x
    → now ≡ old ++ new_domains held (length old) (map (λ a. a.domain) (take k xs)) → entry ≡ new_domain (held (length now)) x.domain → new ≡ now ++ entry ∷ []
    → new ≡ old ++ new_domains held (length old) (map (λ a. a.domain) (take (k + 1) xs))
push_next held old now new xs k x entry within at so_far is pushed =
    let dom = λ (a : AttrAt). a.domain in
    let before = map dom (take k xs) in
    let more : take (k + 1) xs ≡ take k xs ++ x ∷ [] = take_more xs k x within ∙ ap (λ y. take k xs ++ y ∷ []) (sym at) in
    let all : map dom (take (k + 1) xs) ≡ before ++ x.domain ∷ [] = ap (map dom) more ∙ map-append dom (take k xs) (x ∷ []) in
    let place : length now ≡ length old + length before = ap length so_far ∙ length-append old (new_domains held (length old) before) ∙ ap (λ n. length old + n) (length-new_domains held (length old) before) in
    pushed ∙ ap₂ (λ l o. l ++ o ∷ []) so_far (is ∙ ap (λ n. new_domain (held n) x.domain) place)
    ∙ append_assoc old (new_domains held (length old) before) (new_domain (held (length old + length before)) x.domain ∷ [])
    ∙ ap (λ l. old ++ l) (sym (new_domains-append held (length old) before (x.domain ∷ [])) ∙ ap (new_domains held (length old)) (sym all))

-- there is room for it
pub push_place : (held : ℕ → Bool) (old now : List (Option Values)) (xs : List AttrAt) (k n : ℕ) → k < length xs
    → now ≡ old ++ new_domains held (length old) (map (λ a. a.domain) (take k xs)) → length old + length xs ≤ n → length now < n
push_place held old now xs k n within so_far room =
    let before = map (λ (a : AttrAt). a.domain) (take k xs) in
    let place : length now ≡ length old + length before = ap length so_far ∙ length-append old (new_domains held (length old) before) ∙ ap (λ n. length old + n) (length-new_domains held (length old) before) in
    let short : length before ≡ k = length-map (take k xs) (λ (a : AttrAt). a.domain) ∙ length-take-le k xs (omega (arith, within)) in
    omega (arith, place, short)

-- ---- what is inherited

pub parent_known : (m : Model) → IsValid m → (t p : ℕ) → parent_of m t ≡ Some p → p < length m.types
unfolding has_known_parents_and_targets
parent_known m valid t p is = by (slice_get m.types t) refl is
  where
    by : (o : Option TypeDecl) → slice_get m.types t ≡ o → option_and_then (λ d. d.parent) o ≡ Some p → p < length m.types
    by None at is = absurd (none-some p is)
    by (Some d) at is = parent_is_type m d p is (list_all_at (knows_types m) m.types valid.declared.taxonomy.known_parents t d at)

pub inherited_of_parent : (m : Model) (t p n : ℕ) → parent_of m t ≡ Some p → n ≡ length (attributes_at m p) → n ≡ length (option_map_or (attributes_of m.types) (parent_of m t) [])
inherited_of_parent m t p n is long =
    long ∙ length-map (attributes_of m.types p) (λ (e : Named AttrAt). e.what) ∙ ap (λ o. length (option_map_or (attributes_of m.types) o [])) (sym is)

pub nothing_inherited : (m : Model) (t : ℕ) → parent_of m t ≡ None → 0 ≡ length (option_map_or (attributes_of m.types) (parent_of m t) [])
nothing_inherited m t none = ap (λ o. length (option_map_or (attributes_of m.types) o [])) (sym none)

-- a type has what its parent has
pub inherited_few : (m : Model) → IsValid m → (t n : ℕ) → t < length m.types → n ≡ length (option_map_or (attributes_of m.types) (parent_of m t) []) → n ≤ length (attributes_at m t)
inherited_few m valid t n within long =
    let inherited = option_map_or (attributes_of m.types) (parent_of m t) [] in
    let keep = kept_entry (λ d. d.attributes) (λ d. d.name) made_attribute (λ d a. made_attribute a.id d) (declarations_of (λ d. d.attributes) (λ d. d.name) m.types t) in
    let new = new_entries (λ d. d.attributes) (λ d. d.name) made_attribute (λ d a. made_attribute a.id d) (first_id (λ d. d.attributes) (λ d. d.name) m.types t) (new_declarations (λ d. d.attributes) (λ d. d.name) m.types t) in
    let split = ap length (entries_extend_the_parents m valid t within).0 in
    let sum = length-append (map keep inherited) new in
    let kept = length-map inherited keep in
    let all = length-map (attributes_of m.types t) (λ (e : Named AttrAt). e.what) in
    omega (arith, long, split, sum, kept, all)

-- what is left of a list from a place on is all that is behind it
pub rest_taken : {X : Type 0} (n : ℕ) (xs : List X) → take (length xs - n) (drop n xs) ≡ drop n xs
rest_taken n xs = ap (λ k. take k (drop n xs)) (sym (length-drop n xs)) ∙ take-length (drop n xs)

-- a type has at most 32 attributes
pub attributes_few : (m : Model) → IsValid m → (t : ℕ) → t < length m.types → length (attributes_at m t) ≤ 32
attributes_few m valid t within =
    let room = room_each m valid.declared.taxonomy t within in
    leb-true (length (attributes_at m t)) 32 (and_parts (nat_le (length (attributes_at m t)) most_attributes_of_type) (nat_le (length (declared_ports_at m t)) most_ports_of_type) room).0
