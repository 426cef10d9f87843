-- What an order file stands for where its values pass the tests of F04 to F08, and back.
use Rattle.std.proofs.Common.{◌≡◌, ℕ, Bool, List, [], map, length, refl, sym, subst, ◌∙◌, Some}
use Rattle.std.specs.Prelude.{IsTrue, nat_le}
use Rattle.std.proofs.lemmas.List.{length-map}
use Rattle.std.proofs.lemmas.Option.{none-some}
use Rattle.serde_json.specs.Data.{Data}
use Rattle.serde_json.specs.Find.{get}
use Rattle.base_laws.specs.Places.{IsAt}
use Rattle.base_laws.proofs.Places.{map_at, at_map}
use Rattle.prod_model.specs.declared.model.Model.{Model}
use Rattle.prod_model.specs.declared.model.Request.{Request}
use Rattle.prod_model.specs.declared.model.Criterion.{Criterion}
use Rattle.prod_model.specs.Limits
use Rattle.prod_model.specs.Names.{is_name, is_distinct}
use Rattle.file_values.specs.declared.format.Format.{Format}
use Rattle.file_values.specs.declared.kind.Kind.{Kind}
use Rattle.file_values.specs.declared.kind.Kind.TheVariants as kind
use Rattle.file_values.specs.declared.kind.Key.TheVariants as key
use Rattle.file_values.specs.Places.{text_of}
use Rattle.file_values.specs.Table.{members_of, item_of}
use Rattle.file_values.specs.Read.{items_in, items_at, text_at, member_of}
use Rattle.file_values.specs.Kinds.{is_right, has_members}
use Rattle.file_values.specs.Tests.{is_short, is_formed, is_in_limits, is_known}
use Rattle.file_values.specs.Twice.{Placed, texts_in}
use Rattle.file_meaning.specs.ModelOf.{name_at, request_in, criterion_in}
use Rattle.file_meaning.proofs.NoneFails.{NoneFails, whole_passes, none-member, none-item, leaf_from, list_from, object_from, must_stand}
use Rattle.file_meaning.proofs.NameLists.{texts_numbered}
use Rattle.file_meaning.proofs.PassedValues.{passes_rest, rest_from, Right, Sound, passed, name_from, name_is_good, good_name, order_format_back, expression_back}
use Rattle.file_meaning.proofs.PassedTypes.{member_is, name_under}
use Rattle.file_meaning.proofs.PassedLists.{of_member, names_read}

-- so many at most, with names of their form that differ
pub record AreGoodNames {X : Type 0} (most : ℕ) (name_of : X → List ℕ) (xs : List X) : Type 0 where
  pub few : IsTrue (nat_le (length xs) most)
  pub distinct : IsTrue (is_distinct (map name_of xs))
  pub each : (k : ℕ) (x : X) → IsAt xs k x → IsTrue (is_name (name_of x))

module _ (format : Format) (names : List (List ℕ)) where
  -- ---- requests

  request_right : (d : Data) → Right format names kind.Request d → IsTrue (has_members (members_of format kind.Request) d)
  unfolding is_right
  request_right d right = whole_passes format (is_right format) kind.Request d right

  request_name : (d : Data) → Right format names kind.Request d → Sound format names kind.Request d → IsTrue (is_name (name_at key.Name d))
  unfolding members_of
  request_name d right sound =
      name_is_good (member_of key.Name d) (name_from format names (member_of key.Name d)
      (none-member format (passes_rest names) kind.Request d sound 0 _ refl (member_of key.Name d) (must_stand (members_of format kind.Request) d (request_right d right) 0 key.Name kind.Name refl)))

  request_back : (d : Data) → IsTrue (is_name (name_at key.Name d)) → Sound format names kind.Request d
  unfolding is_short is_formed is_in_limits is_known texts_in members_of item_of
  request_back d good =
      object_from format (passes_rest names) kind.Request d (rest_from names kind.Request d record { short = refl; formed = refl; limits = refl; known = refl; different = refl }) refl
      (name_under format names d good, (λ e there. expression_back format names e, tt))

  -- ---- criteria

  criterion_right : (d : Data) → Right format names kind.Criterion d → IsTrue (has_members (members_of format kind.Criterion) d)
  unfolding is_right
  criterion_right d right = whole_passes format (is_right format) kind.Criterion d right

  criterion_name : (d : Data) → Right format names kind.Criterion d → Sound format names kind.Criterion d → IsTrue (is_name (name_at key.Name d))
  unfolding members_of
  criterion_name d right sound =
      name_is_good (member_of key.Name d) (name_from format names (member_of key.Name d)
      (none-member format (passes_rest names) kind.Criterion d sound 0 _ refl (member_of key.Name d) (must_stand (members_of format kind.Criterion) d (criterion_right d right) 0 key.Name kind.Name refl)))

  criterion_back : (d : Data) → IsTrue (is_name (name_at key.Name d)) → Sound format names kind.Criterion d
  unfolding is_short is_formed is_in_limits is_known texts_in members_of item_of
  criterion_back d good =
      object_from format (passes_rest names) kind.Criterion d (rest_from names kind.Criterion d record { short = refl; formed = refl; limits = refl; known = refl; different = refl }) refl
      (name_under format names d good, (λ e there. expression_back format names e, (λ e there. expression_back format names e, tt)))

  -- ---- lists of them

  requests_item : (passes : Kind → Data → Bool) (rs : Data) → NoneFails format passes kind.Requests rs → (n : ℕ) (e : Data) → IsAt (items_in rs) n e → NoneFails format passes kind.Request e
  unfolding item_of
  requests_item passes rs none n e at = none-item format passes kind.Requests rs none kind.Request refl n e at

  criteria_item : (passes : Kind → Data → Bool) (cs : Data) → NoneFails format passes kind.Criteria cs → (n : ℕ) (e : Data) → IsAt (items_in cs) n e → NoneFails format passes kind.Criterion e
  unfolding item_of
  criteria_item passes cs none n e at = none-item format passes kind.Criteria cs none kind.Criterion refl n e at

  requests_texts : (rs : Data) → map (λ (p : Placed). p.text) (texts_in kind.Requests rs) ≡ map (text_at key.Name) (items_in rs)
  unfolding texts_in
  requests_texts rs = texts_numbered (text_at key.Name) _ 0 (items_in rs)

  criteria_texts : (cs : Data) → map (λ (p : Placed). p.text) (texts_in kind.Criteria cs) ≡ map (text_at key.Name) (items_in cs)
  unfolding texts_in
  criteria_texts cs = texts_numbered (text_at key.Name) _ 0 (items_in cs)

  module _ (m : Model) where
    requests_from : (rs : Data) → Right format names kind.Requests rs → Sound format names kind.Requests rs → AreGoodNames Limits.most_requests (λ r. r.name) (map (request_in m) (items_in rs))
    unfolding is_short
    requests_from rs right sound =
        let each : (n : ℕ) (e : Data) → IsAt (items_in rs) n e → IsTrue (is_name (name_at key.Name e)) =
        λ n e at. request_name e (requests_item (is_right format) rs right n e at) (requests_item (passes_rest names) rs sound n e at) in
        let here = passed format names kind.Requests rs sound in
        let same = names_read (λ (r : Request). r.name) (request_in m) (λ e. refl) (items_in rs) (λ n e at. good_name (member_of key.Name e) (each n e at)) in
        record {
          few = subst (λ n. IsTrue (nat_le n Limits.most_requests)) (sym (length-map (items_in rs) (request_in m))) here.short;
          distinct = subst (λ ns. IsTrue (is_distinct ns)) (requests_texts rs ∙ sym same) here.different;
          each = λ k r at. let read = map_at (request_in m) (items_in rs) k r at in subst (λ (x : Request). IsTrue (is_name x.name)) read.2 (each k read.0 read.1);
        }

    requests_back : (rs : Data) → AreGoodNames Limits.most_requests (λ r. r.name) (map (request_in m) (items_in rs)) → Sound format names kind.Requests rs
    unfolding is_short is_formed is_in_limits is_known members_of item_of
    requests_back rs good =
        let each : (n : ℕ) (e : Data) → IsAt (items_in rs) n e → IsTrue (is_name (name_at key.Name e)) = λ n e at. good.each n (request_in m e) (at_map (request_in m) (items_in rs) n e at) in
        let same = names_read (λ (r : Request). r.name) (request_in m) (λ e. refl) (items_in rs) (λ n e at. good_name (member_of key.Name e) (each n e at)) in
        list_from format (passes_rest names) kind.Requests kind.Request rs
        (rest_from names kind.Requests rs record {
          short = subst (λ n. IsTrue (nat_le n Limits.most_requests)) (length-map (items_in rs) (request_in m)) good.few;
          formed = refl;
          limits = refl;
          known = refl;
          different = subst (λ ns. IsTrue (is_distinct ns)) (same ∙ sym (requests_texts rs)) good.distinct;
        }) refl refl (λ n e at. request_back e (each n e at))

    criteria_from : (cs : Data) → Right format names kind.Criteria cs → Sound format names kind.Criteria cs → AreGoodNames Limits.most_criteria (λ r. r.name) (map (criterion_in m) (items_in cs))
    unfolding is_short
    criteria_from cs right sound =
        let each : (n : ℕ) (e : Data) → IsAt (items_in cs) n e → IsTrue (is_name (name_at key.Name e)) =
        λ n e at. criterion_name e (criteria_item (is_right format) cs right n e at) (criteria_item (passes_rest names) cs sound n e at) in
        let here = passed format names kind.Criteria cs sound in
        let same = names_read (λ (r : Criterion). r.name) (criterion_in m) (λ e. refl) (items_in cs) (λ n e at. good_name (member_of key.Name e) (each n e at)) in
        record {
          few = subst (λ n. IsTrue (nat_le n Limits.most_criteria)) (sym (length-map (items_in cs) (criterion_in m))) here.short;
          distinct = subst (λ ns. IsTrue (is_distinct ns)) (criteria_texts cs ∙ sym same) here.different;
          each = λ k r at. let read = map_at (criterion_in m) (items_in cs) k r at in subst (λ (x : Criterion). IsTrue (is_name x.name)) read.2 (each k read.0 read.1);
        }

    criteria_back : (cs : Data) → AreGoodNames Limits.most_criteria (λ r. r.name) (map (criterion_in m) (items_in cs)) → Sound format names kind.Criteria cs
    unfolding is_short is_formed is_in_limits is_known members_of item_of
    criteria_back cs good =
        let each : (n : ℕ) (e : Data) → IsAt (items_in cs) n e → IsTrue (is_name (name_at key.Name e)) = λ n e at. good.each n (criterion_in m e) (at_map (criterion_in m) (items_in cs) n e at) in
        let same = names_read (λ (r : Criterion). r.name) (criterion_in m) (λ e. refl) (items_in cs) (λ n e at. good_name (member_of key.Name e) (each n e at)) in
        list_from format (passes_rest names) kind.Criteria kind.Criterion cs
        (rest_from names kind.Criteria cs record {
          short = subst (λ n. IsTrue (nat_le n Limits.most_criteria)) (length-map (items_in cs) (criterion_in m)) good.few;
          formed = refl;
          limits = refl;
          known = refl;
          different = subst (λ ns. IsTrue (is_distinct ns)) (same ∙ sym (criteria_texts cs)) good.distinct;
        }) refl refl (λ n e at. criterion_back e (each n e at))

  -- ---- orders

  no_names : {X : Type 0} (most : ℕ) (name_of : X → List ℕ) → IsTrue (nat_le 0 most) → AreGoodNames most name_of []
  no_names most name_of few = record { few = few; distinct = refl; each = λ k x at. absurd (none-some x at) }

  order_requests : (passes : Kind → Data → Bool) (d : Data) → NoneFails format passes kind.Order d → (v : Data) → get (text_of key.Requests) d ≡ Some v → NoneFails format passes kind.Requests v
  unfolding members_of
  order_requests passes d none v there = none-member format passes kind.Order d none 1 _ refl v there

  order_criteria : (passes : Kind → Data → Bool) (d : Data) → NoneFails format passes kind.Order d → (v : Data) → get (text_of key.Criteria) d ≡ Some v → NoneFails format passes kind.Criteria v
  unfolding members_of
  order_criteria passes d none v there = none-member format passes kind.Order d none 2 _ refl v there

  -- the requests and criteria have good names
  pub record IsGoodOrder (m : Model) (d : Data) : Type 0 where
    pub requests : AreGoodNames Limits.most_requests (λ r. r.name) (map (request_in m) (items_at key.Requests d))
    pub criteria : AreGoodNames Limits.most_criteria (λ r. r.name) (map (criterion_in m) (items_at key.Criteria d))

  pub order_from : (m : Model) (d : Data) → Right format names kind.Order d → Sound format names kind.Order d → IsGoodOrder m d
  order_from m d right sound = record {
    requests = of_member (λ v. AreGoodNames Limits.most_requests (λ r. r.name) (map (request_in m) (items_in v))) key.Requests d (no_names Limits.most_requests _ refl)
        (λ v there. requests_from m v (order_requests (is_right format) d right v there) (order_requests (passes_rest names) d sound v there));
    criteria = of_member (λ v. AreGoodNames Limits.most_criteria (λ r. r.name) (map (criterion_in m) (items_in v))) key.Criteria d (no_names Limits.most_criteria _ refl)
        (λ v there. criteria_from m v (order_criteria (is_right format) d right v there) (order_criteria (passes_rest names) d sound v there));
  }

  pub order_back : (m : Model) (d : Data) → IsGoodOrder m d → Sound format names kind.Order d
  unfolding is_short is_formed is_in_limits is_known texts_in members_of item_of
  order_back m d good =
      object_from format (passes_rest names) kind.Order d (rest_from names kind.Order d record { short = refl; formed = refl; limits = refl; known = refl; different = refl }) refl (
        λ e there. order_format_back format names e,
        (
          λ e there. requests_back m e (subst (λ v. AreGoodNames Limits.most_requests (λ r. r.name) (map (request_in m) (items_in v))) (member_is key.Requests d e there) good.requests),
          (λ e there. criteria_back m e (subst (λ v. AreGoodNames Limits.most_criteria (λ r. r.name) (map (criterion_in m) (items_in v))) (member_is key.Criteria d e there) good.criteria), tt),
        ),
      )

  -- ---- no type is named in an order

  known_name : (e : Data) → NoneFails format (is_known names) kind.Name e
  unfolding is_known members_of item_of
  known_name e = leaf_from format (is_known names) kind.Name e refl refl refl

  known_expression : (e : Data) → NoneFails format (is_known names) kind.Expression e
  unfolding is_known members_of item_of
  known_expression e = leaf_from format (is_known names) kind.Expression e refl refl refl

  known_format : (e : Data) → NoneFails format (is_known names) kind.OrderFormat e
  unfolding is_known members_of item_of
  known_format e = leaf_from format (is_known names) kind.OrderFormat e refl refl refl

  known_request : (e : Data) → NoneFails format (is_known names) kind.Request e
  unfolding is_known members_of item_of
  known_request e = object_from format (is_known names) kind.Request e refl refl (λ x there. known_name x, (λ x there. known_expression x, tt))

  known_criterion : (e : Data) → NoneFails format (is_known names) kind.Criterion e
  unfolding is_known members_of item_of
  known_criterion e = object_from format (is_known names) kind.Criterion e refl refl (λ x there. known_name x, (λ x there. known_expression x, (λ x there. known_expression x, tt)))

  known_requests : (e : Data) → NoneFails format (is_known names) kind.Requests e
  unfolding is_known members_of item_of
  known_requests e = list_from format (is_known names) kind.Requests kind.Request e refl refl refl (λ n x at. known_request x)

  known_criteria : (e : Data) → NoneFails format (is_known names) kind.Criteria e
  unfolding is_known members_of item_of
  known_criteria e = list_from format (is_known names) kind.Criteria kind.Criterion e refl refl refl (λ n x at. known_criterion x)

  pub known_order : (d : Data) → NoneFails format (is_known names) kind.Order d
  unfolding is_known members_of item_of
  known_order d = object_from format (is_known names) kind.Order d refl refl (λ e there. known_format e, (λ e there. known_requests e, (λ e there. known_criteria e, tt)))
