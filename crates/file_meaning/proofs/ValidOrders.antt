-- A value has no fault for a model exactly where it stands for a valid order.
use Rattle.std.proofs.Common.{ℕ, ◌+◌, true, false, IsTrue, List, [], ◌∷◌, ◌++◌, map, length, refl, sym, subst, ◌∙◌, Some, Contains, inl, inr}
use Rattle.std.specs.List.{list_all}
use Rattle.std.proofs.lemmas.Bool.{and_from, and_parts}
use Rattle.std.proofs.lemmas.List.Elements.{Contains-append_cases}
use Rattle.serde_json.specs.Data.{Data}
use Rattle.base_laws.proofs.Places.{map_at, at_map, at_front, at_back}
use Rattle.base_laws.proofs.Elements.{contained_at, at_contained}
use Rattle.base_laws.proofs.Tests.{list_all_at, list_all_from}
use Rattle.prod_model.specs.declared.model.Model.{Model}
use Rattle.prod_model.specs.declared.model.Request.{Request}
use Rattle.prod_model.specs.declared.model.Criterion.{Criterion}
use Rattle.prod_model.specs.ExprBounds.{is_truth_at, is_number_at}
use Rattle.prod_model.specs.Names.{is_name}
use Rattle.prod_model.specs.Valid.{IsValidOrder}
use Rattle.file_values.specs.declared.part.Part.TheVariants.{At as at}
use Rattle.file_values.specs.declared.fault.Fault.{Fault}
use Rattle.file_values.specs.declared.format.Format.TheVariants.{First}
use Rattle.file_values.specs.declared.kind.Kind.TheVariants as kind
use Rattle.file_values.specs.declared.kind.Key.TheVariants as key
use Rattle.file_values.specs.Places.{under}
use Rattle.file_values.specs.Read.{items_at, member_of}
use Rattle.file_meaning.specs.Expressions.{expression_of}
use Rattle.file_meaning.specs.ModelOf.{request_in, criterion_in, aim_of, order_in}
use Rattle.file_meaning.specs.Faults.{fault, Stated, HasOwnFault, HasStatedFault, requests_of, criteria_of, wishes_of, HasPlainFault, HasOrderFault}
use Rattle.file_meaning.specs.Faults as faults
use Rattle.file_meaning.specs.Stands.{IsReadable}
use Rattle.file_meaning.specs.Laws.{FaultlessIsValidOrder, StandsForOneOrder}
use Rattle.file_meaning.proofs.PassedOrders.{IsGoodOrder, order_from, order_back, known_order}
use Rattle.file_meaning.proofs.FaultlessModels.{right_of, sound_of}
use Rattle.file_meaning.proofs.BoundedExpressions.{IsNeededAt, no_misformed, bounded_of_none, no_own_fault}
use Rattle.file_meaning.proofs.ValidFiles.{stated_among, stated_in, no_plain_fault}

-- how a request and a criterion are stated
abbrev stated_request : Model → ℕ × Data → Stated
stated_request m p = record {
  place = under key.Requests ∷ at p.0 ∷ under key.Holds ∷ [];
  value = member_of key.Holds p.1;
  of = m.root;
  truth = true;
}

abbrev stated_criterion : Model → ℕ × Data → Stated
stated_criterion m p = record {
  place = under key.Criteria ∷ at p.0 ∷ under (aim_of p.1) ∷ [];
  value = member_of (aim_of p.1) p.1;
  of = m.root;
  truth = false;
}

among_front : (xs ys : List Stated) (s : Stated) → Contains xs s → Contains (xs ++ ys) s
among_front xs ys s among = contained_at (xs ++ ys) among.0 s (at_front xs ys among.0 s (at_contained xs s among))

among_back : (xs ys : List Stated) (s : Stated) → Contains ys s → Contains (xs ++ ys) s
among_back xs ys s among = contained_at (xs ++ ys) (length xs + among.0) s (at_back xs ys among.0 s (at_contained ys s among))

-- ---- no fault

module _ (m : Model) (d : Data) (none : (f : Fault) → ¬ HasOrderFault m d f) where
  plain_none : (f : Fault) → ¬ HasPlainFault First kind.Order d f
  plain_none f has = none f (faults.plain has)

  own_none : (s : Stated) → Contains (wishes_of m d) s → (f : Fault) → ¬ HasOwnFault m s.value s.of s.truth f
  own_none s among f has = none _ (faults.expression record { one = s; among = among; own = f; has = has; is = refl })

  readable : IsReadable First kind.Order d (wishes_of m d)
  readable = record { right = right_of First [] kind.Order d plain_none; formed = λ s among. no_misformed m s.value s.of s.truth (own_none s among) }

  good : IsGoodOrder First [] m d
  good = order_from First [] m d (right_of First [] kind.Order d plain_none) (sound_of First [] kind.Order d plain_none (known_order First [] d))

  requests_are_truths : IsTrue (list_all (λ (r : Request). is_truth_at m m.root r.holds) (map (request_in m) (items_at key.Requests d)))
  requests_are_truths =
      list_all_from (λ (r : Request). is_truth_at m m.root r.holds) (map (request_in m) (items_at key.Requests d)) (λ k r at_k.
      let read = map_at (request_in m) (items_at key.Requests d) k r at_k in
      let s = stated_request m (0 + k, read.0) in
      subst (λ (x : Request). IsTrue (is_truth_at m m.root x.holds)) read.2
      (bounded_of_none m s.value m.root true
      (own_none s (among_front (requests_of m d) (criteria_of m d) s (stated_among (stated_request m) (items_at key.Requests d) k read.0 read.1)))))

  criteria_are_numbers : IsTrue (list_all (λ (r : Criterion). is_number_at m m.root r.value) (map (criterion_in m) (items_at key.Criteria d)))
  criteria_are_numbers =
      list_all_from (λ (r : Criterion). is_number_at m m.root r.value) (map (criterion_in m) (items_at key.Criteria d)) (λ k r at_k.
      let read = map_at (criterion_in m) (items_at key.Criteria d) k r at_k in
      let s = stated_criterion m (0 + k, read.0) in
      subst (λ (x : Criterion). IsTrue (is_number_at m m.root x.value)) read.2
      (bounded_of_none m s.value m.root false
      (own_none s (among_back (requests_of m d) (criteria_of m d) s (stated_among (stated_criterion m) (items_at key.Criteria d) k read.0 read.1)))))

  order_read : IsValidOrder m (order_in m d)
  unfolding order_in
  order_read = record {
    few = and_from _ _ good.requests.few good.criteria.few;
    formed_names = and_from _ _ (list_all_from (λ (r : Request). is_name r.name) (map (request_in m) (items_at key.Requests d)) good.requests.each)
        (list_all_from (λ (r : Criterion). is_name r.name) (map (criterion_in m) (items_at key.Criteria d)) good.criteria.each);
    distinct_names = and_from _ _ good.requests.distinct good.criteria.distinct;
    requests = requests_are_truths;
    criteria = criteria_are_numbers;
  }

-- ---- a valid order

module _ (m : Model) (d : Data) (readable : IsReadable First kind.Order d (wishes_of m d)) (valid : IsValidOrder m (order_in m d)) where
  good_order : IsGoodOrder First [] m d
  unfolding order_in
  good_order =
      let few = and_parts _ _ valid.few in
      let formed = and_parts _ _ valid.formed_names in
      let distinct = and_parts _ _ valid.distinct_names in
      record {
        requests = record { few = few.0; distinct = distinct.0; each = list_all_at (λ (r : Request). is_name r.name) (map (request_in m) (items_at key.Requests d)) formed.0 };
        criteria = record { few = few.1; distinct = distinct.1; each = list_all_at (λ (r : Criterion). is_name r.name) (map (criterion_in m) (items_at key.Criteria d)) formed.1 };
      }

  abbrev IsNeededOf : Stated → Type 0
  IsNeededOf s = IsNeededAt s.truth m s.of (expression_of m s.value (Some s.of))

  request_needed : (s : Stated) → Contains (requests_of m d) s → IsNeededOf s
  unfolding order_in
  request_needed s among =
      let read = stated_in (stated_request m) (items_at key.Requests d) s among in
      subst IsNeededOf read.is
      (list_all_at (λ (r : Request). is_truth_at m m.root r.holds) (map (request_in m) (items_at key.Requests d)) valid.requests read.place (request_in m read.value)
      (at_map (request_in m) (items_at key.Requests d) read.place read.value read.there))

  criterion_needed : (s : Stated) → Contains (criteria_of m d) s → IsNeededOf s
  unfolding order_in
  criterion_needed s among =
      let read = stated_in (stated_criterion m) (items_at key.Criteria d) s among in
      subst IsNeededOf read.is
      (list_all_at (λ (r : Criterion). is_number_at m m.root r.value) (map (criterion_in m) (items_at key.Criteria d)) valid.criteria read.place (criterion_in m read.value)
      (at_map (criterion_in m) (items_at key.Criteria d) read.place read.value read.there))

  needed : (s : Stated) → Contains (wishes_of m d) s → IsNeededOf s
  needed s among = elim (Contains-append_cases (requests_of m d) (criteria_of m d) s among) [ inl r ↦ request_needed s r | inr c ↦ criterion_needed s c ]

  no_order_fault : (f : Fault) → ¬ HasOrderFault m d f
  no_order_fault f (faults.plain has) = no_plain_fault First [] kind.Order d (order_back First [] m d good_order) readable.right f has
  no_order_fault f (faults.expression has) =
      no_own_fault m has.one.value has.one.of has.one.truth (readable.formed has.one has.among) (needed has.one has.among) has.own has.has

pub faultless_is_valid_order : FaultlessIsValidOrder
faultless_is_valid_order m valid d = (
  λ none. (order_in m d, record { readable = readable m d none; is = refl }, order_read m d none),
  λ stands f. no_order_fault m d stands.1.readable (subst (IsValidOrder m) stands.1.is stands.2) f,
)

pub stands_for_one_order : StandsForOneOrder
stands_for_one_order m d o p first second = first.is ∙ sym second.is
