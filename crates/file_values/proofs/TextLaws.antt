-- The texts that have to differ stand in the order of the document.
use Rattle.std.proofs.Common.{◌≡◌, ◌∙◌, ℕ, ◌+◌, ◌<◌, List, [], ◌∷◌, ◌++◌, map, refl, sym, ap, subst, arith, Some, None, inl, inr, Option}
use Rattle.std.proofs.lemmas.Bool.{cases_order, false≢true}
use Rattle.std.proofs.lemmas.Option.{slice_get_within, same_Some, none-some}
use Rattle.std.specs.Prelude.{slice_get}
use Rattle.std.specs.Option.{option_map}
use Rattle.std.specs.List.{enumerate_from}
use Rattle.std.specs.Ordering.{is_lt}
use Rattle.serde_json.specs.Data.{Data}
use Rattle.prod_model.specs.First.{IsFirst}
use Rattle.prod_model.specs.Names.{same_text}
use Rattle.base_laws.specs.Places.{IsAt}
use Rattle.base_laws.proofs.Places.{map_at, at_map, at_either}
use Rattle.base_laws.proofs.Ranges.{enumerate_at}
use Rattle.file_values.specs.declared.part.Part.{Part}
use Rattle.file_values.specs.declared.part.Part.TheVariants.{At as at}
use Rattle.file_values.specs.declared.kind.Key.{Key}
use Rattle.file_values.specs.declared.kind.Key.TheVariants as key
use Rattle.file_values.specs.declared.kind.Kind.{Kind}
use Rattle.file_values.specs.declared.kind.Kind.TheVariants.{Model, Order, Types, TypeDecl, Attributes, Attribute, Ports, Port, Bounds, Bound, Rules, Rule, Requests, Request, Criteria, Criterion, Words, Range, Links, End, Count, Instances, ModelFormat, OrderFormat, PortKind, Name, TypeName, InverseName, Word, Expression}
use Rattle.file_values.specs.Places.{under, IsPlaceBefore}
use Rattle.file_values.specs.Read.{items_in, items_at}
use Rattle.file_values.specs.Twice.{Placed, texts_in, IsRepeated}
use Rattle.file_values.specs.steps.Groups.{step_by, listed_in}
use Rattle.file_values.specs.steps.Repeats.{RepeatsAt, IsFirstRepeat}
use Rattle.file_values.proofs.PlaceOrder.{places_keep_order, not_before-greater, not_before-self, greater-number}

-- none of the texts stands before an earlier one
abbrev pub Ascend : List Placed → Type 0
Ascend texts = (i j : ℕ) (p q : Placed) → i < j → IsAt texts i p → IsAt texts j q → ¬ IsPlaceBefore q.place p.place

pub listed_place : (list text : Option Key) (ds : List Data) (i : ℕ) (p : Placed) → IsAt (listed_in list text ds) i p → p.place ≡ step_by list ++ at i ∷ step_by text
listed_place list text ds i p there =
    let found = map_at _ (enumerate_from 0 ds) i p there in
    let numbered = enumerate_at 0 ds i found.0 found.1 in
    let e : 0 + i ≡ i = omega arith in
    sym (ap (λ q. q.place) found.2) ∙ ap (λ n. step_by list ++ at n ∷ step_by text) (numbered.0 ∙ e)

-- in one list by their places in it
listed_ascend : (list text : Option Key) (ds : List Data) → Ascend (listed_in list text ds)
listed_ascend list text ds i j p q less at_i at_j before =
    let Before : List Part → List Part → Type 0 = λ x y. IsPlaceBefore x y in
    let first = listed_place list text ds i p at_i in
    let second = listed_place list text ds j q at_j in
    let Later : List Part → Type 0 = λ x. IsPlaceBefore x p.place in
    let Earlier : List Part → Type 0 = λ x. IsPlaceBefore (step_by list ++ at j ∷ step_by text) x in
    not_before-greater (at j) (at i) (step_by text) (step_by text) (greater-number j i less)
    (sym (ap is_lt (places_keep_order (step_by list) (at j ∷ step_by text) (at i ∷ step_by text))) ∙ subst Earlier first (subst Later second before))

none_ascend : Ascend []
none_ascend i j p q less at_i at_j = absurd (none-some p at_i)

-- attributes come before ports
declared_ascend : (ds es : List Data) → Ascend (listed_in (Some key.Attributes) (Some key.Name) ds ++ listed_in (Some key.Ports) (Some key.Name) es)
declared_ascend ds es i j p q less at_i at_j = elim (at_either (listed_in (Some key.Attributes) (Some key.Name) ds) (listed_in (Some key.Ports) (Some key.Name) es) j q at_j) [
  | inl q_first ↦ elim (at_either (listed_in (Some key.Attributes) (Some key.Name) ds) (listed_in (Some key.Ports) (Some key.Name) es) i p at_i) [
    | inl p_first ↦ listed_ascend (Some key.Attributes) (Some key.Name) ds i j p q less p_first q_first
    | inr p_second ↦ (let within = slice_get_within (listed_in (Some key.Attributes) (Some key.Name) ds) j q q_first in
        let so_far = p_second.1 in
        absurd (omega (arith, within, so_far, less)))
  ]
  | inr q_second ↦ elim (at_either (listed_in (Some key.Attributes) (Some key.Name) ds) (listed_in (Some key.Ports) (Some key.Name) es) i p at_i) [
    | inl p_first ↦ (λ before.
        (let first = listed_place (Some key.Attributes) (Some key.Name) ds i p p_first in
        let second = listed_place (Some key.Ports) (Some key.Name) es q_second.0 q q_second.2 in
        let Later : List Part → Type 0 = λ x. IsPlaceBefore x p.place in
        let Earlier : List Part → Type 0 = λ x. IsPlaceBefore (under key.Ports ∷ at q_second.0 ∷ under key.Name ∷ []) x in
        false≢true (subst Earlier first (subst Later second before))))
    | inr p_second ↦ (let so_far = p_second.1 in
        let further = q_second.1 in
        listed_ascend (Some key.Ports) (Some key.Name) es p_second.0 q_second.0 p q (omega (arith, so_far, further, less)) p_second.2 q_second.2)
  ]
]

pub texts_ascend : (k : Kind) (d : Data) → Ascend (texts_in k d)
unfolding texts_in
texts_ascend Types d = listed_ascend None (Some key.Name) (items_in d)
texts_ascend TypeDecl d = declared_ascend (items_at key.Attributes d) (items_at key.Ports d)
texts_ascend Words d = listed_ascend None None (items_in d)
texts_ascend Bounds d = listed_ascend None (Some key.OfType) (items_in d)
texts_ascend Rules d = listed_ascend None (Some key.Name) (items_in d)
texts_ascend Requests d = listed_ascend None (Some key.Name) (items_in d)
texts_ascend Criteria d = listed_ascend None (Some key.Name) (items_in d)
texts_ascend Model d = none_ascend
texts_ascend Order d = none_ascend
texts_ascend Attributes d = none_ascend
texts_ascend Attribute d = none_ascend
texts_ascend Ports d = none_ascend
texts_ascend Port d = none_ascend
texts_ascend Bound d = none_ascend
texts_ascend Rule d = none_ascend
texts_ascend Request d = none_ascend
texts_ascend Criterion d = none_ascend
texts_ascend Range d = none_ascend
texts_ascend Links d = none_ascend
texts_ascend End d = none_ascend
texts_ascend Count d = none_ascend
texts_ascend Instances d = none_ascend
texts_ascend ModelFormat d = none_ascend
texts_ascend OrderFormat d = none_ascend
texts_ascend PortKind d = none_ascend
texts_ascend Name d = none_ascend
texts_ascend TypeName d = none_ascend
texts_ascend InverseName d = none_ascend
texts_ascend Word d = none_ascend
texts_ascend Expression d = none_ascend

-- ---- the first that is the same as an earlier one

-- it is so by its number
by_number : (texts : List Placed) (place : List Part) (r : IsRepeated texts place) → RepeatsAt (map (λ p. p.text) texts) r.j
by_number texts place r = record {
  i = r.i;
  earlier = r.earlier.text;
  later = r.later.text;
  first = at_map (λ p. p.text) texts r.i r.earlier r.first;
  again = at_map (λ p. p.text) texts r.j r.later r.again;
  order = r.order;
  same = r.same;
}

pub none_repeated : (texts : List Placed) → IsFirstRepeat (map (λ p. p.text) texts) None → (place : List Part) → ¬ IsRepeated texts place
none_repeated texts none place r = none r.j (by_number texts place r)

pub first_is_repeated : (texts : List Placed) → Ascend texts → (n : ℕ) → IsFirstRepeat (map (λ p. p.text) texts) (Some n) → (p : Placed) → IsAt texts n p
    → IsFirst (IsRepeated texts) IsPlaceBefore p.place
first_is_repeated texts up n first p there = record { is = is; none_before = none_before }
  where
    is : IsRepeated texts p.place
    is =
        let r = first.0 in
        let earlier = map_at (λ q. q.text) texts r.i r.earlier r.first in
        let later = map_at (λ q. q.text) texts n r.later r.again in
        let same_later : later.0 ≡ p = same_Some later.0 p (sym later.1 ∙ there) in
        record {
          i = r.i;
          j = n;
          earlier = earlier.0;
          later = p;
          first = earlier.1;
          again = there;
          order = r.order;
          same = ap (λ t. same_text t p.text) earlier.2 ∙ ap (same_text r.earlier) (sym (ap (λ q. q.text) same_later) ∙ later.2) ∙ r.same;
          is = refl;
        }

    none_before : (y : List Part) → IsRepeated texts y → ¬ IsPlaceBefore y p.place
    none_before y r before = elim (cases_order r.j n) [
      | inl same ↦ (let At : ℕ → Type 0 = λ k. IsAt texts k r.later in
          let same_place : r.later ≡ p = same_Some r.later p (sym (subst At same r.again) ∙ there) in
          let Before : List Part → Type 0 = λ q. IsPlaceBefore q p.place in
          not_before-self p.place (subst Before (r.is ∙ ap (λ q. q.place) same_place) before))
      | inr (inl below) ↦ first.1 r.j below (by_number texts y r)
      | inr (inr beyond) ↦ (let Before : List Part → Type 0 = λ q. IsPlaceBefore q p.place in
          up n r.j p r.later beyond there r.again (subst Before r.is before))
    ]

-- the place that stands at its number is that of the text
pub first_place : (texts : List Placed) → Ascend texts → (n : ℕ) → IsFirstRepeat (map (λ p. p.text) texts) (Some n) → (place : List Part)
    → option_map (λ p. p.place) (slice_get texts n) ≡ Some place → IsFirst (IsRepeated texts) IsPlaceBefore place
first_place texts up n first place is =
    let r = first.0 in
    let later = map_at (λ q. q.text) texts n r.later r.again in
    let same : later.0.place ≡ place = same_Some later.0.place place (sym (ap (option_map (λ q. q.place)) later.1) ∙ is) in
    let First : List Part → Type 0 = λ q. IsFirst (IsRepeated texts) IsPlaceBefore q in
    subst First same (first_is_repeated texts up n first later.0 later.1)
