-- What the types, bounds and rules of a model file stand for where their values pass the tests
-- of lengths, forms, limits, names and repeats, and back.
use Rattle.std.proofs.Common.{◌≡◌, ℕ, Bool, List, map, length, sum_by, refl, sym, ap, subst, ◌∙◌, Option, Some, None}
use Rattle.std.specs.Prelude.{IsTrue, nat_lt, nat_le}
use Rattle.std.specs.Option.{unwrap_or}
use Rattle.std.specs.List.{position_or_len}
use Rattle.std.proofs.lemmas.Bool.{and_parts, and_from}
use Rattle.std.proofs.lemmas.List.{length-map}
use Rattle.std.proofs.lemmas.Simd.{map-map}
use Rattle.std.proofs.lemmas.Option.{same_Some}
use Rattle.serde_json.specs.Data.{Data, null}
use Rattle.serde_json.specs.Find.{get}
use Rattle.base_laws.specs.Places.{IsAt}
use Rattle.base_laws.proofs.Places.{map_at, at_map}
use Rattle.prod_model.specs.declared.model.Model.{Model}
use Rattle.prod_model.specs.declared.model.TypeDecl.{TypeDecl}
use Rattle.prod_model.specs.declared.model.CountBound.{CountBound}
use Rattle.prod_model.specs.declared.model.Rule.{Rule}
use Rattle.prod_model.specs.Limits
use Rattle.prod_model.specs.Names.{is_name, is_distinct, is_distinct_number, same_text}
use Rattle.prod_model.proofs.EntryNames.{same_text_same}
use Rattle.prod_model.proofs.NameLaws.{same_text_refl}
use Rattle.file_values.specs.declared.format.Format.{Format}
use Rattle.file_values.specs.declared.kind.Kind.{Kind}
use Rattle.file_values.specs.declared.kind.Kind.TheVariants as kind
use Rattle.file_values.specs.declared.kind.Key.{Key}
use Rattle.file_values.specs.declared.kind.Key.TheVariants as key
use Rattle.file_values.specs.Places.{text_of}
use Rattle.file_values.specs.Table.{members_of, item_of}
use Rattle.file_values.specs.Read.{items_in, items_at, text_in, text_at, member_of}
use Rattle.file_values.specs.Kinds.{is_right, has_members}
use Rattle.file_values.specs.Tests.{is_short, is_formed, is_in_limits, is_known, declarations}
use Rattle.file_values.specs.Twice.{Placed, texts_in}
use Rattle.file_meaning.specs.ModelOf.{name_at, number_named, attribute_in, port_in, type_in, bound_in, rule_in}
use Rattle.file_meaning.proofs.NoneFails.{NoneFails, whole_passes, none-member, none-item, list_from, object_from, must_stand}
use Rattle.file_meaning.proofs.NameLists.{map_same, sum_same, texts_numbered, within_found, found_at, distinct_apart, distinct_from, distinct_number_apart, distinct_number_from}
use Rattle.file_meaning.proofs.GoodParts.{IsGoodType, IsGoodBound, IsGoodRule, AreGoodTypes, AreGoodBounds, AreGoodRules}
use Rattle.file_meaning.proofs.PassedValues.{passes_rest, rest_from, Right, Sound, passed, name_from, name_is_good, good_name, name_same, type_name_from, links_from, expression_back}
use Rattle.file_meaning.proofs.PassedTypes.{name_under, NamesAreFormed, type_name_under, links_under, type_from, type_back}

-- ---- lists that may lack

-- what holds of `null` and of what stands holds of the member
pub of_member : (P : Data → Type 0) (k : Key) (d : Data) → P null → ((v : Data) → get (text_of k) d ≡ Some v → P v) → P (member_of k d)
of_member P k d lacks stands = by (get (text_of k) d) refl
  where
    by : (o : Option Data) → get (text_of k) d ≡ o → P (member_of k d)
    by None is = subst (λ o. P (unwrap_or o null)) (sym is) lacks
    by (Some v) is = subst (λ o. P (unwrap_or o null)) (sym is) (stands v is)

-- the names of what is read from values are the texts that stand there
pub names_read : {X : Type 0} (name_of : X → List ℕ) (read : Data → X) → ((e : Data) → name_of (read e) ≡ name_at key.Name e) → (ds : List Data)
    → ((n : ℕ) (e : Data) → IsAt ds n e → IsTrue (is_name (text_at key.Name e))) → map name_of (map read ds) ≡ map (text_at key.Name) ds
names_read name_of read is ds formed =
    map-map name_of read ds ∙ map_same (λ e. name_of (read e)) (text_at key.Name) ds (λ n e at. is e ∙ name_same (member_of key.Name e) (formed n e at))

module _ (format : Format) (names : List (List ℕ)) where
  -- ---- types

  module _ (ts : Data) where
    abbrev types : List TypeDecl
    types = map (type_in names) (items_in ts)

    attributes_counted : sum_by (λ d. length d.attributes) types ≡ declarations key.Attributes (items_in ts)
    attributes_counted = sum_same (λ d. length d.attributes) (type_in names) (λ t. length (items_at key.Attributes t)) (λ t. length-map (items_at key.Attributes t) attribute_in) (items_in ts)

    ports_counted : sum_by (λ d. length d.ports) types ≡ declarations key.Ports (items_in ts)
    ports_counted = sum_same (λ d. length d.ports) (type_in names) (λ t. length (items_at key.Ports t)) (λ t. length-map (items_at key.Ports t) (port_in names)) (items_in ts)

    types_texts : map (λ (p : Placed). p.text) (texts_in kind.Types ts) ≡ map (text_at key.Name) (items_in ts)
    unfolding texts_in
    types_texts = texts_numbered (text_at key.Name) _ 0 (items_in ts)

    abbrev AreShort : Type 0
    AreShort = IsTrue (nat_le (length (items_in ts)) Limits.most_types) × IsTrue (nat_le (declarations key.Attributes (items_in ts)) Limits.most_attribute_declarations)
        × IsTrue (nat_le (declarations key.Ports (items_in ts)) Limits.most_port_declarations)

    types_short : Sound format names kind.Types ts → AreShort
    unfolding is_short
    types_short sound = let a = and_parts _ _ (passed format names kind.Types ts sound).short in let b = and_parts _ _ a.0 in (b.0, b.1, a.1)

    short_types : AreShort → IsTrue (is_short kind.Types ts)
    unfolding is_short
    short_types s = and_from _ _ (and_from _ _ s.0 s.1) s.2

    types_item : (passes : Kind → Data → Bool) → NoneFails format passes kind.Types ts → (n : ℕ) (e : Data) → IsAt (items_in ts) n e → NoneFails format passes kind.TypeDecl e
    unfolding item_of
    types_item passes none n e at = none-item format passes kind.Types ts none kind.TypeDecl refl n e at

    types_names : ((n : ℕ) (e : Data) → IsAt (items_in ts) n e → IsTrue (is_name (name_at key.Name e))) → map (λ (d : TypeDecl). d.name) types ≡ map (text_at key.Name) (items_in ts)
    types_names good = names_read (λ (d : TypeDecl). d.name) (type_in names) (λ e. refl) (items_in ts) (λ n e at. good_name (member_of key.Name e) (good n e at))

    module _ (as_many : length names ≡ length (items_in ts)) where
      counted : length names ≡ length types
      counted = as_many ∙ sym (length-map (items_in ts) (type_in names))

      pub types_from : Right format names kind.Types ts → Sound format names kind.Types ts → AreGoodTypes types
      types_from right sound =
          let short = types_short sound in
          let each : (n : ℕ) (e : Data) → IsAt (items_in ts) n e → IsGoodType (length names) (type_in names e) =
          λ n e at. type_from format names e (types_item (is_right format) right n e at) (types_item (passes_rest names) sound n e at) in
          record {
            few = subst (λ n. IsTrue (nat_le n Limits.most_types)) (sym (length-map (items_in ts) (type_in names))) short.0;
            few_attributes = subst (λ n. IsTrue (nat_le n Limits.most_attribute_declarations)) (sym attributes_counted) short.1;
            few_ports = subst (λ n. IsTrue (nat_le n Limits.most_port_declarations)) (sym ports_counted) short.2;
            distinct = subst (λ ns. IsTrue (is_distinct ns)) (types_texts ∙ sym (types_names (λ n e at. (each n e at).formed))) (passed format names kind.Types ts sound).different;
            each = λ t d at.
                let read = map_at (type_in names) (items_in ts) t d at in
                subst (λ n. IsGoodType n d) counted (subst (IsGoodType (length names)) read.2 (each t read.0 read.1));
          }

      pub types_back : NamesAreFormed format names → Right format names kind.Types ts → AreGoodTypes types → Sound format names kind.Types ts
      unfolding is_formed is_in_limits is_known members_of item_of
      types_back formed right good =
          let each : (n : ℕ) (e : Data) → IsAt (items_in ts) n e → IsGoodType (length names) (type_in names e) =
          λ n e at. subst (λ k. IsGoodType k (type_in names e)) (sym counted) (good.each n (type_in names e) (at_map (type_in names) (items_in ts) n e at)) in
          list_from format (passes_rest names) kind.Types kind.TypeDecl ts
          (rest_from names kind.Types ts record {
            short = short_types (
              subst (λ n. IsTrue (nat_le n Limits.most_types)) (length-map (items_in ts) (type_in names)) good.few,
              subst (λ n. IsTrue (nat_le n Limits.most_attribute_declarations)) attributes_counted good.few_attributes,
              subst (λ n. IsTrue (nat_le n Limits.most_port_declarations)) ports_counted good.few_ports,
            );
            formed = refl;
            limits = refl;
            known = refl;
            different = subst (λ ns. IsTrue (is_distinct ns)) (types_names (λ n e at. (each n e at).formed) ∙ sym types_texts) good.distinct;
          }) refl refl
          (λ n e at. type_back format names formed e (types_item (is_right format) right n e at) (each n e at))

  -- ---- bounds

  bound_right : (d : Data) → Right format names kind.Bound d → IsTrue (has_members (members_of format kind.Bound) d)
  unfolding is_right
  bound_right d right = whole_passes format (is_right format) kind.Bound d right

  bound_type : (passes : Kind → Data → Bool) (d : Data) → Right format names kind.Bound d → NoneFails format passes kind.Bound d → NoneFails format passes kind.TypeName (member_of key.OfType d)
  unfolding members_of
  bound_type passes d right none =
      none-member format passes kind.Bound d none 0 _ refl (member_of key.OfType d) (must_stand (members_of format kind.Bound) d (bound_right d right) 0 key.OfType kind.TypeName refl)

  bound_count : (passes : Kind → Data → Bool) (d : Data) → Right format names kind.Bound d → NoneFails format passes kind.Bound d → NoneFails format passes kind.Links (member_of key.Count d)
  unfolding members_of
  bound_count passes d right none =
      none-member format passes kind.Bound d none 1 _ refl (member_of key.Count d) (must_stand (members_of format kind.Bound) d (bound_right d right) 1 key.Count kind.Links refl)

  bound_from : (d : Data) → Right format names kind.Bound d → Sound format names kind.Bound d → IsGoodBound (length names) (bound_in names d)
  bound_from d right sound = record {
    kind = type_name_from format names (member_of key.OfType d) (bound_type (passes_rest names) d right sound);
    pair = links_from format names (member_of key.Count d) (bound_count (is_right format) d right right) (bound_count (passes_rest names) d right sound);
  }

  bound_back : NamesAreFormed format names → (d : Data) → Right format names kind.Bound d → IsGoodBound (length names) (bound_in names d) → Sound format names kind.Bound d
  unfolding is_short is_formed is_in_limits is_known texts_in members_of item_of
  bound_back formed d right good =
      object_from format (passes_rest names) kind.Bound d (rest_from names kind.Bound d record { short = refl; formed = refl; limits = refl; known = refl; different = refl }) refl (
        type_name_under format names formed key.OfType d good.kind,
        (λ e there. links_under format names key.Count d good.pair e there (none-member format (is_right format) kind.Bound d right 1 _ refl e there), tt),
      )

  bounds_item : (bs : Data) (passes : Kind → Data → Bool) → NoneFails format passes kind.Bounds bs → (n : ℕ) (e : Data) → IsAt (items_in bs) n e → NoneFails format passes kind.Bound e
  unfolding item_of
  bounds_item bs passes none n e at = none-item format passes kind.Bounds bs none kind.Bound refl n e at

  bounds_texts : (bs : Data) → map (λ (p : Placed). p.text) (texts_in kind.Bounds bs) ≡ map (text_at key.OfType) (items_in bs)
  unfolding texts_in
  bounds_texts bs = texts_numbered (text_at key.OfType) _ 0 (items_in bs)

  -- the types of two bounds that are known are one where their numbers are
  same_number : (a b : Data) → IsTrue (nat_lt (number_named names a) (length names)) → IsTrue (nat_lt (number_named names b) (length names)) → number_named names a ≡ number_named names b
      → text_in a ≡ text_in b
  same_number a b known_a known_b same =
      let at_a = found_at (text_in a) names (within_found (λ n. same_text n (text_in a)) names known_a) in
      let at_b = found_at (text_in b) names (within_found (λ n. same_text n (text_in b)) names known_b) in
      same_Some _ _ (sym at_a ∙ subst (λ k. IsAt names k (text_in b)) (sym same) at_b)

  abbrev KnownBounds : Data → Type 0
  KnownBounds bs = (n : ℕ) (e : Data) → IsAt (items_in bs) n e → IsTrue (nat_lt (number_named names (member_of key.OfType e)) (length names))

  abbrev numbers_of : Data → List ℕ
  numbers_of bs = map (λ (b : CountBound). b.kind) (map (bound_in names) (items_in bs))

  numbers_read : (bs : Data) → numbers_of bs ≡ map (λ e. number_named names (member_of key.OfType e)) (items_in bs)
  numbers_read bs = map-map (λ (b : CountBound). b.kind) (bound_in names) (items_in bs)

  different_numbers : (bs : Data) → KnownBounds bs → IsTrue (is_distinct (map (text_at key.OfType) (items_in bs))) → IsTrue (is_distinct_number (numbers_of bs))
  different_numbers bs known distinct =
      subst (λ ns. IsTrue (is_distinct_number ns)) (sym (numbers_read bs))
      (distinct_number_from (map (λ e. number_named names (member_of key.OfType e)) (items_in bs)) (λ i j x y at_x at_y less same.
      let a = map_at (λ e. number_named names (member_of key.OfType e)) (items_in bs) i x at_x in
      let b = map_at (λ e. number_named names (member_of key.OfType e)) (items_in bs) j y at_y in
      let text = same_number (member_of key.OfType a.0) (member_of key.OfType b.0) (known i a.0 a.1) (known j b.0 b.1) (a.2 ∙ same ∙ sym b.2) in
      distinct_apart (map (text_at key.OfType) (items_in bs)) distinct i j (text_at key.OfType a.0) (text_at key.OfType b.0)
      (at_map (text_at key.OfType) (items_in bs) i a.0 a.1) (at_map (text_at key.OfType) (items_in bs) j b.0 b.1) less
      (ap (same_text (text_at key.OfType a.0)) (sym text) ∙ same_text_refl (text_at key.OfType a.0))))

  different_texts : (bs : Data) → IsTrue (is_distinct_number (numbers_of bs)) → IsTrue (is_distinct (map (text_at key.OfType) (items_in bs)))
  different_texts bs distinct =
      let numbers : IsTrue (is_distinct_number (map (λ e. number_named names (member_of key.OfType e)) (items_in bs))) =
      subst (λ ns. IsTrue (is_distinct_number ns)) (numbers_read bs) distinct in
      distinct_from (map (text_at key.OfType) (items_in bs)) (λ i j x y at_x at_y less same.
      let a = map_at (text_at key.OfType) (items_in bs) i x at_x in
      let b = map_at (text_at key.OfType) (items_in bs) j y at_y in
      let text : text_at key.OfType a.0 ≡ text_at key.OfType b.0 = a.2 ∙ same_text_same x y same ∙ sym b.2 in
      distinct_number_apart (map (λ e. number_named names (member_of key.OfType e)) (items_in bs)) numbers i j
      (number_named names (member_of key.OfType a.0)) (number_named names (member_of key.OfType b.0))
      (at_map (λ e. number_named names (member_of key.OfType e)) (items_in bs) i a.0 a.1) (at_map (λ e. number_named names (member_of key.OfType e)) (items_in bs) j b.0 b.1) less
      (ap (λ t. position_or_len (λ n. same_text n t) names) text))

  pub bounds_from : (bs : Data) → Right format names kind.Bounds bs → Sound format names kind.Bounds bs → AreGoodBounds (length names) (map (bound_in names) (items_in bs))
  unfolding is_short
  bounds_from bs right sound =
      let each : (n : ℕ) (e : Data) → IsAt (items_in bs) n e → IsGoodBound (length names) (bound_in names e) =
      λ n e at. bound_from e (bounds_item bs (is_right format) right n e at) (bounds_item bs (passes_rest names) sound n e at) in
      let here = passed format names kind.Bounds bs sound in
      record {
        few = subst (λ n. IsTrue (nat_le n Limits.most_bounds)) (sym (length-map (items_in bs) (bound_in names))) here.short;
        distinct = different_numbers bs (λ n e at. (each n e at).kind) (subst (λ ns. IsTrue (is_distinct ns)) (bounds_texts bs) here.different);
        each = λ k b at. let read = map_at (bound_in names) (items_in bs) k b at in subst (IsGoodBound (length names)) read.2 (each k read.0 read.1);
      }

  pub bounds_back : NamesAreFormed format names → (bs : Data) → Right format names kind.Bounds bs → AreGoodBounds (length names) (map (bound_in names) (items_in bs)) → Sound format names kind.Bounds bs
  unfolding is_short is_formed is_in_limits is_known members_of item_of
  bounds_back formed bs right good =
      list_from format (passes_rest names) kind.Bounds kind.Bound bs
      (rest_from names kind.Bounds bs record {
        short = subst (λ n. IsTrue (nat_le n Limits.most_bounds)) (length-map (items_in bs) (bound_in names)) good.few;
        formed = refl;
        limits = refl;
        known = refl;
        different = subst (λ ns. IsTrue (is_distinct ns)) (sym (bounds_texts bs)) (different_texts bs good.distinct);
      }) refl refl
      (λ n e at. bound_back formed e (bounds_item bs (is_right format) right n e at) (good.each n (bound_in names e) (at_map (bound_in names) (items_in bs) n e at)))

  -- ---- rules

  rule_right : (d : Data) → Right format names kind.Rule d → IsTrue (has_members (members_of format kind.Rule) d)
  unfolding is_right
  rule_right d right = whole_passes format (is_right format) kind.Rule d right

  rule_name : (d : Data) → Right format names kind.Rule d → Sound format names kind.Rule d → IsTrue (is_name (text_at key.Name d))
  unfolding members_of
  rule_name d right sound =
      name_from format names (member_of key.Name d)
      (none-member format (passes_rest names) kind.Rule d sound 0 _ refl (member_of key.Name d) (must_stand (members_of format kind.Rule) d (rule_right d right) 0 key.Name kind.Name refl))

  rule_type : (d : Data) → Right format names kind.Rule d → Sound format names kind.Rule d → Sound format names kind.TypeName (member_of key.OfType d)
  unfolding members_of
  rule_type d right sound =
      none-member format (passes_rest names) kind.Rule d sound 1 _ refl (member_of key.OfType d) (must_stand (members_of format kind.Rule) d (rule_right d right) 1 key.OfType kind.TypeName refl)

  rules_item : (rs : Data) (passes : Kind → Data → Bool) → NoneFails format passes kind.Rules rs → (n : ℕ) (e : Data) → IsAt (items_in rs) n e → NoneFails format passes kind.Rule e
  unfolding item_of
  rules_item rs passes none n e at = none-item format passes kind.Rules rs none kind.Rule refl n e at

  rules_texts : (rs : Data) → map (λ (p : Placed). p.text) (texts_in kind.Rules rs) ≡ map (text_at key.Name) (items_in rs)
  unfolding texts_in
  rules_texts rs = texts_numbered (text_at key.Name) _ 0 (items_in rs)

  module _ (m : Model) where
    rule_from : (d : Data) → Right format names kind.Rule d → Sound format names kind.Rule d → IsGoodRule (length names) (rule_in m names d)
    rule_from d right sound = record {
      formed = name_is_good (member_of key.Name d) (rule_name d right sound);
      kind = type_name_from format names (member_of key.OfType d) (rule_type d right sound);
    }

    rule_back : NamesAreFormed format names → (d : Data) → IsGoodRule (length names) (rule_in m names d) → Sound format names kind.Rule d
    unfolding is_short is_formed is_in_limits is_known texts_in members_of item_of
    rule_back formed d good =
        object_from format (passes_rest names) kind.Rule d (rest_from names kind.Rule d record { short = refl; formed = refl; limits = refl; known = refl; different = refl }) refl
        (name_under format names d good.formed, (type_name_under format names formed key.OfType d good.kind, (λ e there. expression_back format names e, tt)))

    rules_names : (rs : Data) → ((n : ℕ) (e : Data) → IsAt (items_in rs) n e → IsTrue (is_name (name_at key.Name e)))
        → map (λ (r : Rule). r.name) (map (rule_in m names) (items_in rs)) ≡ map (text_at key.Name) (items_in rs)
    rules_names rs good = names_read (λ (r : Rule). r.name) (rule_in m names) (λ e. refl) (items_in rs) (λ n e at. good_name (member_of key.Name e) (good n e at))

    pub rules_from : (rs : Data) → Right format names kind.Rules rs → Sound format names kind.Rules rs → AreGoodRules (length names) (map (rule_in m names) (items_in rs))
    unfolding is_short
    rules_from rs right sound =
        let each : (n : ℕ) (e : Data) → IsAt (items_in rs) n e → IsGoodRule (length names) (rule_in m names e) =
        λ n e at. rule_from e (rules_item rs (is_right format) right n e at) (rules_item rs (passes_rest names) sound n e at) in
        let here = passed format names kind.Rules rs sound in
        record {
          few = subst (λ n. IsTrue (nat_le n Limits.most_rules)) (sym (length-map (items_in rs) (rule_in m names))) here.short;
          distinct = subst (λ ns. IsTrue (is_distinct ns)) (rules_texts rs ∙ sym (rules_names rs (λ n e at. (each n e at).formed))) here.different;
          each = λ k r at. let read = map_at (rule_in m names) (items_in rs) k r at in subst (IsGoodRule (length names)) read.2 (each k read.0 read.1);
        }

    pub rules_back : NamesAreFormed format names → (rs : Data) → AreGoodRules (length names) (map (rule_in m names) (items_in rs)) → Sound format names kind.Rules rs
    unfolding is_short is_formed is_in_limits is_known members_of item_of
    rules_back formed rs good =
        let each : (n : ℕ) (e : Data) → IsAt (items_in rs) n e → IsGoodRule (length names) (rule_in m names e) =
        λ n e at. good.each n (rule_in m names e) (at_map (rule_in m names) (items_in rs) n e at) in
        list_from format (passes_rest names) kind.Rules kind.Rule rs
        (rest_from names kind.Rules rs record {
          short = subst (λ n. IsTrue (nat_le n Limits.most_rules)) (length-map (items_in rs) (rule_in m names)) good.few;
          formed = refl;
          limits = refl;
          known = refl;
          different = subst (λ ns. IsTrue (is_distinct ns)) (rules_names rs (λ n e at. (each n e at).formed) ∙ sym (rules_texts rs)) good.distinct;
        }) refl refl
        (λ n e at. rule_back formed e (each n e at))
