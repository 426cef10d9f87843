-- What the declarations of a file stand for where they pass the tests of F04 to F08, and back: attributes, ports and types.
use Rattle.std.proofs.Common.{◌≡◌, ℕ, Bool, true, false, List, [], ◌∷◌, ◌++◌, map, length, refl, sym, ap, ap₂, subst, ◌∙◌, ◌⊎◌, inl, inr, Option, Some, None}
use Rattle.std.specs.Prelude.{IsTrue, is_some, nat_lt, ◌==◌, count_by, if◌then◌else◌}
use Rattle.std.specs.Option.{option_map_or, option_map, unwrap_or}
use Rattle.std.specs.List.{list_any}
use Rattle.std.specs.declared.cmp.Ordering.{Ordering}
use Rattle.std.specs.declared.cmp.Ordering.TheVariants.{Less, Equal, Greater}
use Rattle.std.specs.Ordering.{nat_cmp, match_ordering, is_eq}
use Rattle.std.specs.Cmp.Lexicographic.{slice_cmp}
use Rattle.std.proofs.lemmas.Map.Text.{is_eq-slice_cmp}
use Rattle.std.proofs.lemmas.Bool.{false≢true, and_parts}
use Rattle.std.proofs.lemmas.List.{map-append}
use Rattle.std.proofs.lemmas.Simd.{map-map}
use Rattle.std.proofs.lemmas.Option.{none-some}
use Rattle.serde_json.specs.Data.{Data, null, boolean, number, string, array, object, Members, no_members, member}
use Rattle.serde_json.specs.Find.{get, get_member}
use Rattle.base_laws.specs.Places.{IsAt}
use Rattle.base_laws.proofs.Places.{map_at, at_map}
use Rattle.prod_model.specs.declared.model.AttrDecl.{AttrDecl}
use Rattle.prod_model.specs.declared.model.PortDecl.{PortDecl}
use Rattle.prod_model.specs.declared.model.Domain.{Domain}
use Rattle.prod_model.specs.declared.model.Domain.TheVariants as domain
use Rattle.prod_model.specs.Names.{is_name, is_distinct, same_text}
use Rattle.prod_model.specs.Valid.{is_pair as is_count_pair}
use Rattle.prod_model.proofs.EntryNames.{same_text_same}
use Rattle.file_values.specs.declared.format.Format.{Format}
use Rattle.file_values.specs.declared.format.Format.TheVariants.{First, Second}
use Rattle.file_values.specs.declared.kind.Kind.{Kind}
use Rattle.file_values.specs.declared.kind.Kind.TheVariants as kind
use Rattle.file_values.specs.declared.kind.Key.{Key}
use Rattle.file_values.specs.declared.kind.Key.TheVariants as key
use Rattle.file_values.specs.declared.kind.Member.{Member}
use Rattle.file_values.specs.Places.{text_of, under}
use Rattle.file_values.specs.Table.{members_of, item_of}
use Rattle.file_values.specs.Read.{items_in, items_at, text_in, text_at, member_of, has, low_in, high_in}
use Rattle.file_values.specs.Kinds.{is_right, has_members, has_only, has_only_keys}
use Rattle.file_values.specs.Tests.{is_short, is_formed, is_in_limits, is_known}
use Rattle.file_values.specs.Twice.{Placed, texts_in, texts_of}
use Rattle.file_meaning.specs.ModelOf.{name_in, name_at, word_in, count_of, number_named, domain_of, attribute_in, port_in, type_in}
use Rattle.file_meaning.proofs.NoneFails.{NoneFails, whole_passes, none-member, none-item, list_from, object_from, is_there, must_stand}
use Rattle.file_meaning.proofs.NameLists.{map_same, texts_numbered}
use Rattle.file_meaning.proofs.GoodParts.{IsGoodDomain, IsGoodAttribute, IsGoodPort, IsGoodType}
use Rattle.file_meaning.proofs.PassedValues.{passes_rest, rest_from, Right, Sound, passed, name_from, name_back, name_is_good, good_name, name_same, type_name_from, type_name_back, inverse_from, inverse_back, links_from, links_back, range_from, range_back, words_from, words_back, port_kind_back}

-- ---- members

-- what stands in a member is the member's value
pub member_is : (k : Key) (d e : Data) → get (text_of k) d ≡ Some e → member_of k d ≡ e
member_is k d e there = ap (λ o. unwrap_or o null) there

-- an item of the list in a member is an item of what stands there
pub in_list : (k : Key) (d : Data) (i : ℕ) (e : Data) → IsAt (items_at k d) i e → (v : Data) × (get (text_of k) d ≡ Some v) × IsAt (items_in v) i e
in_list k d i e at = by (get (text_of k) d) refl
  where
    by : (o : Option Data) → get (text_of k) d ≡ o → (v : Data) × (get (text_of k) d ≡ Some v) × IsAt (items_in v) i e
    by None lacks = absurd (none-some e (subst (λ o. IsAt (items_in (unwrap_or o null)) i e) lacks at))
    by (Some v) there = (v, there, subst (λ o. IsAt (items_in (unwrap_or o null)) i e) there at)

-- no test fails in an item of a member that is a list
pub none-listed : (format : Format) (passes : Kind → Data → Bool) (k : Kind) (d : Data) → NoneFails format passes k d → (i : ℕ) (m : Member) → IsAt (members_of format k) i m
    → (j : Kind) → item_of m.kind ≡ Some j → (n : ℕ) (e : Data) → IsAt (items_at m.key d) n e → NoneFails format passes j e
none-listed format passes k d none i m listed j is n e at =
    let there = in_list m.key d n e at in
    none-item format passes m.kind there.0 (none-member format passes k d none i m listed there.0 there.1) j is n e there.2

-- of two members that exclude each other one stands
pub one_stands : (a b : Bool) → IsTrue (count_by (λ x. x) (false ∷ a ∷ b ∷ []) == 1) → ((a ≡ true) × (b ≡ false)) ⊎ ((a ≡ false) × (b ≡ true))
one_stands true true one = absurd (false≢true one)
one_stands true false one = inl (refl, refl)
one_stands false true one = inr (refl, refl)
one_stands false false one = absurd (false≢true one)

-- a key of an object with none but the listed keys is one of them
equal_keys : (k l : List ℕ) → slice_cmp nat_cmp k l ≡ Equal → k ≡ l
equal_keys k l same = same_text_same k l (sym (is_eq-slice_cmp k l) ∙ ap is_eq same)

key_among : (listed : List (List ℕ)) (k : List ℕ) (ms : Members) (e : Data) → IsTrue (has_only_keys listed ms) → get_member k ms ≡ Some e → IsTrue (list_any (same_text k) listed)
key_among listed k no_members e only there = absurd (none-some e there)
key_among listed k (member l v ms) e only there = by (slice_cmp nat_cmp k l) refl there (λ more. key_among listed k ms e (and_parts _ _ only).1 more)
  where
    by : (o : Ordering) → slice_cmp nat_cmp k l ≡ o → match_ordering o (get_member k ms) (Some v) (get_member k ms) ≡ Some e
        → (get_member k ms ≡ Some e → IsTrue (list_any (same_text k) listed)) → IsTrue (list_any (same_text k) listed)
    by Less is more rest = rest more
    by Equal is here rest = ap (λ t. list_any (same_text t) listed) (equal_keys k l is) ∙ (and_parts _ _ only).0
    by Greater is more rest = rest more

pub listed_key : (listed : List (List ℕ)) (k : List ℕ) (d e : Data) → IsTrue (has_only listed d) → get k d ≡ Some e → IsTrue (list_any (same_text k) listed)
listed_key listed k null e only there = absurd (none-some e there)
listed_key listed k (boolean b) e only there = absurd (none-some e there)
listed_key listed k (number n) e only there = absurd (none-some e there)
listed_key listed k (string s) e only there = absurd (none-some e there)
listed_key listed k (array ds) e only there = absurd (none-some e there)
listed_key listed k (object ms) e only there = key_among listed k ms e only there

-- an object with these members has no others
only_members : (ms : List Member) (d : Data) → IsTrue (has_members ms d) → IsTrue (has_only (map (λ (m : Member). text_of m.key) ms) d)
only_members ms d right = (and_parts _ _ (and_parts _ _ right).0).0

-- the domain of a range, and of words
abbrev range_domain : Data → Domain
range_domain d = domain.Range (low_in (member_of key.Range d)) (high_in (member_of key.Range d))

abbrev words_domain : Data → Domain
words_domain d = domain.Words (map word_in (items_at key.Words d))

ranged : (d : Data) → has key.Range d ≡ true → domain_of d ≡ range_domain d
ranged d has_range = ap (λ b. if b then range_domain d else words_domain d) has_range

worded : (d : Data) → has key.Range d ≡ false → domain_of d ≡ words_domain d
worded d no_range = ap (λ b. if b then range_domain d else words_domain d) no_range

module _ (format : Format) (names : List (List ℕ)) where
  -- ---- attributes

  attribute_right : (d : Data) → Right format names kind.Attribute d → IsTrue (has_members (members_of format kind.Attribute) d)
  unfolding is_right
  attribute_right d right = whole_passes format (is_right format) kind.Attribute d right

  one_domain : (d : Data) → Right format names kind.Attribute d → ((has key.Range d ≡ true) × (has key.Words d ≡ false)) ⊎ ((has key.Range d ≡ false) × (has key.Words d ≡ true))
  unfolding members_of
  one_domain d right = one_stands (has key.Range d) (has key.Words d) (and_parts _ _ (attribute_right d right)).1

  attribute_domain : (d : Data) → Right format names kind.Attribute d → Sound format names kind.Attribute d → IsGoodDomain (domain_of d)
  unfolding members_of
  attribute_domain d right sound = elim (one_domain d right) [
    | inl w ↦ (
        let r = member_of key.Range d in
        let there : get (text_of key.Range) d ≡ Some r = is_there (get (text_of key.Range) d) w.0 in
        subst IsGoodDomain (sym (ranged d w.0))
        (range_from format names r (none-member format (is_right format) kind.Attribute d right 1 _ refl r there) (none-member format (passes_rest names) kind.Attribute d sound 1 _ refl r there)))
    | inr w ↦ (
        let v = member_of key.Words d in
        let there : get (text_of key.Words) d ≡ Some v = is_there (get (text_of key.Words) d) w.1 in
        subst IsGoodDomain (sym (worded d w.0)) (words_from format names v (none-member format (passes_rest names) kind.Attribute d sound 2 _ refl v there)))
  ]

  attribute_name : (d : Data) → Right format names kind.Attribute d → Sound format names kind.Attribute d → IsTrue (is_name (text_at key.Name d))
  unfolding members_of
  attribute_name d right sound =
      name_from format names (member_of key.Name d)
      (none-member format (passes_rest names) kind.Attribute d sound 0 _ refl (member_of key.Name d) (must_stand (members_of format kind.Attribute) d (attribute_right d right) 0 key.Name kind.Name refl))

  attribute_from : (d : Data) → Right format names kind.Attribute d → Sound format names kind.Attribute d → IsGoodAttribute (attribute_in d)
  attribute_from d right sound = record { formed = name_is_good (member_of key.Name d) (attribute_name d right sound); domain = attribute_domain d right sound }

  -- a name that is good in its member is sound
  pub name_under : (d : Data) → IsTrue (is_name (name_at key.Name d)) → (e : Data) → get (text_of key.Name) d ≡ Some e → Sound format names kind.Name e
  name_under d good e there = name_back format names e (subst (λ v. IsTrue (is_name (text_in v))) (member_is key.Name d e there) (good_name (member_of key.Name d) good))

  attribute_range : (d : Data) → Right format names kind.Attribute d → IsGoodDomain (domain_of d) → (e : Data) → get (text_of key.Range) d ≡ Some e → Sound format names kind.Range e
  unfolding members_of
  attribute_range d right good e there =
      let is = ranged d (ap is_some there) in
      let same = member_is key.Range d e there in
      subst (Sound format names kind.Range) same
      (range_back format names (member_of key.Range d)
      (subst (Right format names kind.Range) (sym same) (none-member format (is_right format) kind.Attribute d right 1 _ refl e there)) (subst IsGoodDomain is good))

  attribute_words : (d : Data) → Right format names kind.Attribute d → IsGoodDomain (domain_of d) → (e : Data) → get (text_of key.Words) d ≡ Some e → Sound format names kind.Words e
  unfolding members_of
  attribute_words d right good e there = elim (one_domain d right) [
    | inl w ↦ absurd (false≢true (sym w.1 ∙ ap is_some there))
    | inr w ↦ (
        subst (Sound format names kind.Words) (member_is key.Words d e there) (words_back format names (member_of key.Words d) (subst IsGoodDomain (worded d w.0) good)))
  ]

  attribute_back : (d : Data) → Right format names kind.Attribute d → IsGoodAttribute (attribute_in d) → Sound format names kind.Attribute d
  unfolding is_short is_formed is_in_limits is_known texts_in members_of item_of
  attribute_back d right good =
      object_from format (passes_rest names) kind.Attribute d (rest_from names kind.Attribute d record { short = refl; formed = refl; limits = refl; known = refl; different = refl }) refl
      (name_under d good.formed, (attribute_range d right good.domain, (attribute_words d right good.domain, tt)))

  -- ---- ports

  port_right : (d : Data) → Right format names kind.Port d → IsTrue (has_members (members_of format kind.Port) d)
  unfolding is_right
  port_right d right = whole_passes format (is_right format) kind.Port d right

  -- a member of a port that has to stand
  abbrev PortMust : ℕ → Key → Kind → Type 0
  PortMust i k kind' = (passes : Kind → Data → Bool) (d : Data) → Right format names kind.Port d → NoneFails format passes kind.Port d → NoneFails format passes kind' (member_of k d)

  port_name : PortMust 0 key.Name kind.Name
  unfolding members_of
  port_name passes d right none =
      none-member format passes kind.Port d none 0 _ refl (member_of key.Name d) (must_stand (members_of format kind.Port) d (port_right d right) 0 key.Name kind.Name refl)

  port_target : PortMust 2 key.Target kind.TypeName
  unfolding members_of
  port_target passes d right none =
      none-member format passes kind.Port d none 2 _ refl (member_of key.Target d) (must_stand (members_of format kind.Port) d (port_right d right) 2 key.Target kind.TypeName refl)

  port_links : PortMust 3 key.Links kind.Links
  unfolding members_of
  port_links passes d right none =
      none-member format passes kind.Port d none 3 _ refl (member_of key.Links d) (must_stand (members_of format kind.Port) d (port_right d right) 3 key.Links kind.Links refl)

  -- an inverse that stands has a name: in the first format none does
  inverse_stands : (o : Option Data) → ((e : Data) → o ≡ Some e → IsTrue (is_name (text_in e))) → IsTrue (option_map_or is_name (option_map name_in o) true)
  inverse_stands None each = refl
  inverse_stands (Some e) each = name_is_good e (each e refl)

  -- an attribute or a port has its name
  port_from : ((d : Data) → Right format names kind.Port d → Sound format names kind.Port d → (e : Data) → get (text_of key.Inverse) d ≡ Some e → Sound format names kind.InverseName e)
      → (d : Data) → Right format names kind.Port d → Sound format names kind.Port d → IsGoodPort (length names) (port_in names d)
  port_from inverse d right sound = record {
    formed = name_is_good (member_of key.Name d) (name_from format names (member_of key.Name d) (port_name (passes_rest names) d right sound));
    pair = links_from format names (member_of key.Links d) (port_links (is_right format) d right right) (port_links (passes_rest names) d right sound);
    target = type_name_from format names (member_of key.Target d) (port_target (passes_rest names) d right sound);
    inverse = inverse_stands (get (text_of key.Inverse) d) (λ e there. inverse_from format names e (inverse d right sound e there));
  }

  abbrev pub NamesAreFormed : Type 0
  NamesAreFormed = (k : ℕ) (n : List ℕ) → IsAt names k n → IsTrue (is_name n)

  pub type_name_under : NamesAreFormed → (k : Key) (d : Data) → IsTrue (nat_lt (number_named names (member_of k d)) (length names)) → (e : Data) → get (text_of k) d ≡ Some e → Sound format names kind.TypeName e
  type_name_under formed k d within e there = subst (Sound format names kind.TypeName) (member_is k d e there) (type_name_back format names formed (member_of k d) within)

  pub links_under : (k : Key) (d : Data) → IsTrue (is_count_pair (count_of (low_in (member_of k d))) (count_of (high_in (member_of k d))))
      → (e : Data) → get (text_of k) d ≡ Some e → Right format names kind.Links e → Sound format names kind.Links e
  links_under k d good e there right =
      let same = member_is k d e there in
      subst (Sound format names kind.Links) same (links_back format names (member_of k d) (subst (Right format names kind.Links) (sym same) right) good)

  inverse_under : (d : Data) → IsTrue (option_map_or is_name (option_map name_in (get (text_of key.Inverse) d)) true) → (e : Data) → get (text_of key.Inverse) d ≡ Some e → Sound format names kind.InverseName e
  inverse_under d good e there =
      inverse_back format names e (good_name e (ap (λ o. option_map_or is_name (option_map name_in o) true) (sym there) ∙ good))

-- the first format has no inverse
inverse_in_first : (names : List (List ℕ)) (d : Data) → Right First names kind.Port d → Sound First names kind.Port d → (e : Data) → get (text_of key.Inverse) d ≡ Some e → Sound First names kind.InverseName e
unfolding members_of
inverse_in_first names d right sound e there =
    let only = only_members (members_of First kind.Port) d (port_right First names d right) in
    absurd (false≢true (listed_key (map (λ (m : Member). text_of m.key) (members_of First kind.Port)) (text_of key.Inverse) d e only there))

inverse_in_second : (names : List (List ℕ)) (d : Data) → Right Second names kind.Port d → Sound Second names kind.Port d → (e : Data) → get (text_of key.Inverse) d ≡ Some e → Sound Second names kind.InverseName e
unfolding members_of
inverse_in_second names d right sound e there = none-member Second (passes_rest names) kind.Port d sound 4 _ refl e there

pub port_is_good : (format : Format) (names : List (List ℕ)) (d : Data) → Right format names kind.Port d → Sound format names kind.Port d → IsGoodPort (length names) (port_in names d)
port_is_good First names d right sound = port_from First names (inverse_in_first names) d right sound
port_is_good Second names d right sound = port_from Second names (inverse_in_second names) d right sound

pub port_back : (format : Format) (names : List (List ℕ)) → NamesAreFormed format names → (d : Data) → Right format names kind.Port d → IsGoodPort (length names) (port_in names d) → Sound format names kind.Port d
unfolding is_short is_formed is_in_limits is_known texts_in members_of item_of
port_back First names formed d right good =
    object_from First (passes_rest names) kind.Port d (rest_from names kind.Port d record { short = refl; formed = refl; limits = refl; known = refl; different = refl }) refl (
      name_under First names d good.formed,
      (
        λ e there. port_kind_back First names e,
        (
          type_name_under First names formed key.Target d good.target,
          (λ e there. links_under First names key.Links d good.pair e there (none-member First (is_right First) kind.Port d right 3 _ refl e there), tt),
        ),
      ),
    )
port_back Second names formed d right good =
    object_from Second (passes_rest names) kind.Port d (rest_from names kind.Port d record { short = refl; formed = refl; limits = refl; known = refl; different = refl }) refl (
      name_under Second names d good.formed,
      (
        λ e there. port_kind_back Second names e,
        (
          type_name_under Second names formed key.Target d good.target,
          (
            λ e there. links_under Second names key.Links d good.pair e there (none-member Second (is_right Second) kind.Port d right 3 _ refl e there),
            (inverse_under Second names d good.inverse, tt),
          ),
        ),
      ),
    )

-- ---- types

module _ (format : Format) (names : List (List ℕ)) where
  type_right : (d : Data) → Right format names kind.TypeDecl d → IsTrue (has_members (members_of format kind.TypeDecl) d)
  unfolding is_right
  type_right d right = whole_passes format (is_right format) kind.TypeDecl d right

  type_name : (d : Data) → Right format names kind.TypeDecl d → Sound format names kind.TypeDecl d → IsTrue (is_name (text_at key.Name d))
  unfolding members_of
  type_name d right sound =
      name_from format names (member_of key.Name d)
      (none-member format (passes_rest names) kind.TypeDecl d sound 0 _ refl (member_of key.Name d) (must_stand (members_of format kind.TypeDecl) d (type_right d right) 0 key.Name kind.Name refl))

  parent_stands : (o : Option Data) → ((e : Data) → o ≡ Some e → IsTrue (nat_lt (number_named names e) (length names)))
      → IsTrue (option_map_or (λ p. nat_lt p (length names)) (option_map (number_named names) o) true)
  parent_stands None each = refl
  parent_stands (Some e) each = each e refl

  type_parent : (d : Data) → Sound format names kind.TypeDecl d → (e : Data) → get (text_of key.Parent) d ≡ Some e → IsTrue (nat_lt (number_named names e) (length names))
  unfolding members_of
  type_parent d sound e there = type_name_from format names e (none-member format (passes_rest names) kind.TypeDecl d sound 1 _ refl e there)

  -- none fails in an attribute or a port of a type
  type_attribute : (passes : Kind → Data → Bool) (d : Data) → NoneFails format passes kind.TypeDecl d → (n : ℕ) (e : Data) → IsAt (items_at key.Attributes d) n e → NoneFails format passes kind.Attribute e
  unfolding members_of item_of
  type_attribute passes d none n e at = none-listed format passes kind.TypeDecl d none 2 _ refl kind.Attribute refl n e at

  type_port : (passes : Kind → Data → Bool) (d : Data) → NoneFails format passes kind.TypeDecl d → (n : ℕ) (e : Data) → IsAt (items_at key.Ports d) n e → NoneFails format passes kind.Port e
  unfolding members_of item_of
  type_port passes d none n e at = none-listed format passes kind.TypeDecl d none 3 _ refl kind.Port refl n e at

  type_attributes : (d : Data) → Right format names kind.TypeDecl d → Sound format names kind.TypeDecl d
      → (n : ℕ) (e : Data) → IsAt (items_at key.Attributes d) n e → IsGoodAttribute (attribute_in e)
  type_attributes d right sound n e at = attribute_from format names e (type_attribute (is_right format) d right n e at) (type_attribute (passes_rest names) d sound n e at)

  type_ports : (d : Data) → Right format names kind.TypeDecl d → Sound format names kind.TypeDecl d
      → (n : ℕ) (e : Data) → IsAt (items_at key.Ports d) n e → IsGoodPort (length names) (port_in names e)
  type_ports d right sound n e at = port_is_good format names e (type_port (is_right format) d right n e at) (type_port (passes_rest names) d sound n e at)

  -- ---- the names that a type declares

  -- the texts that stand there, and the names that the declarations have
  abbrev declared_texts : Data → List (List ℕ)
  declared_texts d = map (text_at key.Name) (items_at key.Attributes d) ++ map (text_at key.Name) (items_at key.Ports d)

  abbrev declared_names : Data → List (List ℕ)
  declared_names d = map (λ (a : AttrDecl). a.name) (map attribute_in (items_at key.Attributes d)) ++ map (λ (p : PortDecl). p.name) (map (port_in names) (items_at key.Ports d))

  texts_are : (d : Data) → map (λ (p : Placed). p.text) (texts_in kind.TypeDecl d) ≡ declared_texts d
  unfolding texts_in
  texts_are d =
      map-append (λ (p : Placed). p.text) (texts_of key.Name (under key.Attributes ∷ []) (items_at key.Attributes d)) (texts_of key.Name (under key.Ports ∷ []) (items_at key.Ports d))
      ∙ ap₂ (λ xs ys. xs ++ ys) (texts_numbered (text_at key.Name) _ 0 (items_at key.Attributes d)) (texts_numbered (text_at key.Name) _ 0 (items_at key.Ports d))

  names_are : (d : Data) → ((n : ℕ) (e : Data) → IsAt (items_at key.Attributes d) n e → IsTrue (is_name (text_at key.Name e)))
      → ((n : ℕ) (e : Data) → IsAt (items_at key.Ports d) n e → IsTrue (is_name (text_at key.Name e))) → declared_names d ≡ declared_texts d
  names_are d attributes ports =
      ap₂ (λ xs ys. xs ++ ys)
      (map-map (λ (a : AttrDecl). a.name) attribute_in (items_at key.Attributes d) ∙ map_same (name_at key.Name) (text_at key.Name) (items_at key.Attributes d) (λ n e at. name_same (member_of key.Name e) (attributes n e at)))
      (map-map (λ (p : PortDecl). p.name) (port_in names) (items_at key.Ports d) ∙ map_same (name_at key.Name) (text_at key.Name) (items_at key.Ports d) (λ n e at. name_same (member_of key.Name e) (ports n e at)))

  type_distinct : (d : Data) → Right format names kind.TypeDecl d → Sound format names kind.TypeDecl d → IsTrue (is_distinct (declared_names d))
  type_distinct d right sound =
      subst (λ ns. IsTrue (is_distinct ns)) (texts_are d
      ∙ sym (names_are d (λ n e at. good_name (member_of key.Name e) (type_attributes d right sound n e at).formed) (λ n e at. good_name (member_of key.Name e) (type_ports d right sound n e at).formed)))
      (passed format names kind.TypeDecl d sound).different

  pub type_from : (d : Data) → Right format names kind.TypeDecl d → Sound format names kind.TypeDecl d → IsGoodType (length names) (type_in names d)
  type_from d right sound = record {
    formed = name_is_good (member_of key.Name d) (type_name d right sound);
    parent = parent_stands (get (text_of key.Parent) d) (λ e there. type_parent d sound e there);
    attributes = λ k a at.
        let read = map_at attribute_in (items_at key.Attributes d) k a at in
        subst IsGoodAttribute read.2 (type_attributes d right sound k read.0 read.1);
    ports = λ k p at.
        let read = map_at (port_in names) (items_at key.Ports d) k p at in
        subst (IsGoodPort (length names)) read.2 (type_ports d right sound k read.0 read.1);
    distinct = type_distinct d right sound;
  }

  -- ---- back

  module _ (formed : NamesAreFormed format names) (d : Data) (right : Right format names kind.TypeDecl d) (good : IsGoodType (length names) (type_in names d)) where
    good_attribute : (n : ℕ) (e : Data) → IsAt (items_at key.Attributes d) n e → IsGoodAttribute (attribute_in e)
    good_attribute n e at = good.attributes n (attribute_in e) (at_map attribute_in (items_at key.Attributes d) n e at)

    good_port : (n : ℕ) (e : Data) → IsAt (items_at key.Ports d) n e → IsGoodPort (length names) (port_in names e)
    good_port n e at = good.ports n (port_in names e) (at_map (port_in names) (items_at key.Ports d) n e at)

    parent_under : (e : Data) → get (text_of key.Parent) d ≡ Some e → Sound format names kind.TypeName e
    parent_under e there =
        type_name_back format names formed e (ap (λ o. option_map_or (λ p. nat_lt p (length names)) (option_map (number_named names) o) true) (sym there) ∙ good.parent)

    attributes_under : (e : Data) → get (text_of key.Attributes) d ≡ Some e → Sound format names kind.Attributes e
    unfolding is_short is_formed is_in_limits is_known texts_in members_of item_of
    attributes_under e there =
        list_from format (passes_rest names) kind.Attributes kind.Attribute e (rest_from names kind.Attributes e record { short = refl; formed = refl; limits = refl; known = refl; different = refl }) refl refl
        (λ n a at.
        let here : IsAt (items_at key.Attributes d) n a = subst (λ v. IsAt (items_in v) n a) (sym (member_is key.Attributes d e there)) at in
        attribute_back format names a (type_attribute (is_right format) d right n a here) (good_attribute n a here))

    ports_under : (e : Data) → get (text_of key.Ports) d ≡ Some e → Sound format names kind.Ports e
    unfolding is_short is_formed is_in_limits is_known texts_in members_of item_of
    ports_under e there =
        list_from format (passes_rest names) kind.Ports kind.Port e (rest_from names kind.Ports e record { short = refl; formed = refl; limits = refl; known = refl; different = refl }) refl refl
        (λ n p at.
        let here : IsAt (items_at key.Ports d) n p = subst (λ v. IsAt (items_in v) n p) (sym (member_is key.Ports d e there)) at in
        port_back format names formed p (type_port (is_right format) d right n p here) (good_port n p here))

    different_under : IsTrue (is_distinct (map (λ (p : Placed). p.text) (texts_in kind.TypeDecl d)))
    different_under =
        subst (λ ns. IsTrue (is_distinct ns))
        (names_are d (λ n e at. good_name (member_of key.Name e) (good_attribute n e at).formed) (λ n e at. good_name (member_of key.Name e) (good_port n e at).formed) ∙ sym (texts_are d))
        good.distinct

    pub type_back : Sound format names kind.TypeDecl d
    unfolding is_short is_formed is_in_limits is_known members_of item_of
    type_back =
        object_from format (passes_rest names) kind.TypeDecl d (rest_from names kind.TypeDecl d record { short = refl; formed = refl; limits = refl; known = refl; different = different_under }) refl
        (name_under format names d good.formed, (parent_under, (attributes_under, (ports_under, tt))))
