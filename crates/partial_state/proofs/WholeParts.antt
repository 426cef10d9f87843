-- The parts of a whole state: one type, one value and settled links.
use Rattle.std.proofs.Common.{◌≡◌, ◌≢◌, ℕ, suc, ◌<◌, ◌≤◌, ◌^◌, ◌∙◌, ap, ap₂, sym, not, ◌&&◌, ◌||◌, ◌==◌, nat_lt, Bool, true, false, refl, inl, inr, List, [], ◌∷◌, length, map, ℤ, pos, ◌+ℤ◌, ◌≤ℤ◌, ◌<ℤ◌, Some, None, w64, to_z, of_z, SFits, arith}
use Rattle.std.specs.Prelude.{◌↔◌, IsTrue, int_le, int_lt, slice_index_or}
use Rattle.std.specs.declared.option.Option.{Option}
use Rattle.std.specs.Option.{option_map_or}
use Rattle.std.specs.Ordering.{int_eq}
use Rattle.std.specs.Int.{trailing_zeros, w128}
use Rattle.std.specs.List.{list_all, sum_by, zip, last_or}
use Rattle.std.proofs.lemmas.Int.{ints, to_z-of_z}
use Rattle.std.proofs.lemmas.Option.{same_Some}
use Rattle.std.proofs.lemmas.Bool.{cases_Bool, cases_lt, false≢true, false_from_ne_true, and_parts, and_from, or_cases, or_left, or_right, ltb-true, eqb-true, eq-eqb, ne_eqb}
use Rattle.std.proofs.lemmas.List.Sums.{sum_by-cons}
use Rattle.std.proofs.lemmas.Nat.Bits.{bit_at-trailing_zeros}
use Rattle.config_value.specs.Shaped.{ascends}
use Rattle.domain_store.specs.declared.interval.Interval.{Interval}
use Rattle.domain_store.specs.Words.{IsLeastWord}
use Rattle.domain_store.specs.Intervals.{is_inside, is_in_one, is_apart, are_intervals}
use Rattle.domain_store.specs.steps.Ends as ends
use Rattle.domain_store.proofs.Intervals as intervals
use Rattle.port_wildcards.specs.declared.port_domain.PortDomain.{PortDomain}
use Rattle.port_wildcards.specs.Ports.{IsWhole}
use Rattle.base_laws.specs.Places.{IsAt}
use Rattle.prod_model.specs.declared.model.Model.{Model}
use Rattle.prod_model.specs.Limits.{most_types}
use Rattle.prod_model.specs.Forest.{is_type, is_leaf}
use Rattle.state_space.specs.Sets.{has_number}
use Rattle.state_space.specs.Values.{Values, Numbers, Words, width, least, greatest, are_values, is_empty}
use Rattle.state_space.specs.Made.{MadeInstance}
use Rattle.state_space.specs.State.{State, IsState}
use Rattle.state_space.specs.Whole.{has_one_value, is_settled_port, all_of_type, is_whole_of}
use Rattle.state_space.proofs.PortLaws.{all_has, all_from_has, below_rest}
use Rattle.partial_state.specs.Masks.{kinds_of, instances_of}
use Rattle.partial_state.specs.Views.{state_of_port}
use Rattle.partial_state.specs.steps.Openings.{sole_of}
use Rattle.partial_state.proofs.KindLaws.{has_kind, kinds_formed}
use Rattle.partial_state.proofs.PortNarrowings.{has_instance}
use Rattle.partial_state.proofs.ValueNarrowings.{greatest_number}

-- ---- the first type

-- the number is the least of the set
abbrev IsLeastOf : List ℕ → ℕ → Type 0
IsLeastOf set low = IsTrue (has_number set low) × ((k : ℕ) → IsTrue (has_number set k) → low ≤ k)

has_first : (x : ℕ) (xs : List ℕ) → IsTrue (has_number (x ∷ xs) x)
has_first x xs = or_left (x == x) (has_number xs x) (eq-eqb x x refl)

-- the first of an ascending set is its least
first_least : (x k : ℕ) (xs : List ℕ) → IsTrue (ascends (x ∷ xs)) → IsTrue (has_number (x ∷ xs) k) → x ≤ k
first_least x k xs up has = elim (or_cases (x == k) (has_number xs k) has) [
  | inl same ↦ (let e = eqb-true x k same in omega arith)
  | inr later ↦ (let more = below_rest x xs up k later in omega arith)
]

first_is : (set : List ℕ) (low : ℕ) → IsTrue (ascends set) → IsLeastOf set low → slice_index_or set 0 0 ≡ low
first_is [] low up is = absurd (false≢true is.0)
first_is (x ∷ xs) low up is =
    let from = first_least x low xs up is.0 in
    let to = is.1 x (has_first x xs) in
    let same : x ≡ low = omega arith in
    same

module _ (mask : ℕ) (some : mask ≢ 0) (fits : mask < 2 ^ 128) where
  kinds_ascend : IsTrue (ascends (kinds_of mask))
  kinds_ascend = (and_parts (ascends (kinds_of mask)) (list_all (λ k. nat_lt k most_types) (kinds_of mask)) (kinds_formed mask)).0

  lowest : IsLeastWord mask (trailing_zeros w128 mask)
  lowest =
      let bit = bit_at-trailing_zeros w128 mask (omega (arith, some)) fits in (
        ap (λ b. b == 1) bit.1,
        λ i is. elim (cases_lt i (trailing_zeros w128 mask)) [
          | inl lower ↦ absurd (false≢true (sym (ap (λ b. b == 1) (bit.2 i lower)) ∙ is))
          | inr later ↦ later
        ],
      )

  least_kind : IsLeastOf (kinds_of mask) (trailing_zeros w128 mask)
  least_kind = (
    has_kind mask (trailing_zeros w128 mask) fits ∙ lowest.0,
    λ k is. lowest.1 k (sym (has_kind mask k fits) ∙ is),
  )

  -- the first type of a mask is its lowest bit
  pub first_kind : slice_index_or (kinds_of mask) 0 0 ≡ trailing_zeros w128 mask
  first_kind = first_is (kinds_of mask) (trailing_zeros w128 mask) kinds_ascend least_kind

-- ---- one value

same_value : (v : ℤ) → int_eq v v ≡ true
same_value v = grind (arith, ints)

other_value : (v u : ℤ) → v <ℤ u → int_eq v u ≡ false
other_value v u less = grind (arith, ints)

last_from : (w : ℕ) (ws : List ℕ) → IsTrue (ascends (w ∷ ws)) → (n : ℕ) × (last_or (Some w) ws ≡ Some n) × (w ≤ n)
last_from w [] up = (w, refl, omega arith)
last_from w (v ∷ vs) up =
    let parts = and_parts (nat_lt w v) (ascends (v ∷ vs)) up in
    let next = ltb-true w v parts.0 in
    let rest = last_from v vs parts.1 in
    let later = rest.2 in
    (rest.0, rest.1, omega arith)

one_word : (ws : List ℕ) → IsTrue (are_values (Words ws)) → int_eq (least (Words ws)) (greatest (Words ws)) ≡ has_one_value (Words ws)
one_word [] formed = absurd (false≢true formed)
one_word (w ∷ []) formed = same_value (pos w)
one_word (w ∷ v ∷ vs) formed =
    let both = and_parts (ascends (w ∷ v ∷ vs)) (list_all (λ w. nat_lt w 64) (w ∷ v ∷ vs)) formed in
    let up = and_parts (nat_lt w v) (ascends (v ∷ vs)) both.0 in
    let next = ltb-true w v up.0 in
    let last = last_from v vs up.1 in
    let later = last.2 in
    ap (λ o. int_eq (pos w) (option_map_or pos o (pos 0))) last.1
    ∙ other_value (pos w) (pos last.0) (omega (arith, ints))
    ∙ sym (ne_eqb (suc (suc (length vs))) 1 (λ e. absurd (omega arith)))

one_interval : (r : Interval) → IsTrue (int_le r.low r.high) → int_eq r.low r.high ≡ (width r == 1)
one_interval r ends = elim (cases_Bool (int_lt r.low r.high)) [
  | inl less ↦
      (let below : r.low <ℤ r.high = grind (arith, ints) in
      other_value r.low r.high below ∙ sym (ne_eqb (width r) 1 (λ e. absurd (omega (arith, ints)))))
  | inr no_less ↦
      (let same : r.low ≡ r.high = grind (arith, ints) in
      ap (λ v. int_eq r.low v) (sym same) ∙ same_value r.low ∙ sym (eq-eqb (width r) 1 (omega (arith, ints))))
]

one_number : (rs : List Interval) → IsTrue (are_intervals rs) → int_eq (least (Numbers rs)) (greatest (Numbers rs)) ≡ has_one_value (Numbers rs)
one_number [] formed = absurd (false≢true formed)
one_number (r ∷ []) formed =
    let parts = intervals.in_turn r [] formed in
    let single : sum_by width (r ∷ []) ≡ width r = omega (arith, sum_by-cons width r []) in
    one_interval r parts.0 ∙ ap (λ n. n == 1) (sym single)
one_number (r ∷ q ∷ qs) formed =
    let parts = intervals.in_turn r (q ∷ qs) formed in
    let next = intervals.in_turn q qs parts.2 in
    let apart = and_parts (is_apart r q) (list_all (is_apart r) qs) parts.1 in
    let high = ends.high_of (r ∷ q ∷ qs) in
    let most = intervals.greatest (r ∷ q ∷ qs) formed in
    let inside = or_right (is_inside r q.low) (is_in_one (q ∷ qs) q.low) (or_left (is_inside q q.low) (is_in_one qs q.low) (intervals.low_inside q next.0)) in
    let below : r.low <ℤ high = above r.low r.high q.low high parts.0 apart.0 (most.1 q.low inside) in
    ap (λ v. int_eq r.low v) (greatest_number (r ∷ q ∷ qs) high formed most)
    ∙ other_value r.low high below
    ∙ sym (ne_eqb (sum_by width (r ∷ q ∷ qs)) 1 (λ e. absurd (omega (arith, e, sum_by-cons width r (q ∷ qs), sum_by-cons width q qs))))
  where
    above : (a b c d : ℤ) → IsTrue (int_le a b) → IsTrue (int_lt (b +ℤ pos 1) c) → c ≤ℤ d → a <ℤ d
    above a b c d ends apart to = grind (arith, ints)

-- there is one value where the least is the greatest
pub one_value : (d : Values) → IsTrue (are_values d) → int_eq (least d) (greatest d) ≡ has_one_value d
one_value (Numbers rs) formed = one_number rs formed
one_value (Words ws) formed = one_word ws formed

-- ---- settled links

-- a stored port is settled where nothing of it is left open
pub settled : (q : PortDomain) (b : Bool) → IsTrue b ↔ IsWhole q → b ≡ is_settled_port (state_of_port q)
settled q true whole =
    let parts = whole.0 refl in
    sym (and_from (q.fresh_high == 0) (list_all (has_number (instances_of q.required)) (instances_of q.possible)) (eq-eqb q.fresh_high 0 parts.0)
    (all_from_has (has_number (instances_of q.required)) (instances_of q.possible) (λ k is.
    has_instance q.required k ∙ parts.1 k (sym (has_instance q.possible k) ∙ is))))
settled q false whole = sym (false_from_ne_true (is_settled_port (state_of_port q)) (λ is.
    let parts = and_parts (q.fresh_high == 0) (list_all (has_number (instances_of q.required)) (instances_of q.possible)) is in
    false≢true (whole.1 (
      eqb-true q.fresh_high 0 parts.0,
      λ k there. sym (has_instance q.required k) ∙ all_has (has_number (instances_of q.required)) (instances_of q.possible) k parts.1 (has_instance q.possible k ∙ there),
    ))))

-- ---- tables of masks

masked : {D : Type 0} (test : D → Bool) (t : ℕ) (masks : List ℕ) (parts : List (Option D))
    → list_all (λ e. not (has_number (kinds_of e.0) t) || option_map_or test e.1 false) (zip masks parts) ≡ all_of_type test t (map kinds_of masks) parts
masked test t [] parts = refl
masked test t (m ∷ ms) [] = refl
masked test t (m ∷ ms) (p ∷ ps) =
    ap (λ b. (not (has_number (kinds_of m) t) || option_map_or test p false) && b) (masked test t ms ps)

-- masks of types may be read in their place
pub all_of_masks : {D : Type 0} (test : D → Bool) (t : ℕ) (masks ms : List ℕ) (parts ps : List (Option D)) → masks ≡ ms → parts ≡ ps
    → list_all (λ e. not (has_number (kinds_of e.0) t) || option_map_or test e.1 false) (zip masks parts) ≡ all_of_type test t (map kinds_of ms) ps
all_of_masks test t masks ms parts ps same same' =
    ap₂ (λ a b. list_all (λ e. not (has_number (kinds_of e.0) t) || option_map_or test e.1 false) (zip a b)) same same'
    ∙ masked test t ms ps

-- ---- one instance after another

-- the first possible type of a made instance is a type
pub first_is_type : (m : Model) (s : State) (i : ℕ) (x : MadeInstance) → IsState m s → IsAt s.made i x → slice_index_or x.kinds 0 0 < length m.types
unfolding is_leaf
first_is_type m s i x state at = let made = state.each i x at in by x.kinds made.some made.leaves
  where
    by : (kinds : List ℕ) → IsTrue (not (is_empty kinds)) → IsTrue (list_all (is_leaf m) kinds) → slice_index_or kinds 0 0 < length m.types
    by [] some leaves = absurd (false≢true some)
    by (t ∷ ts) some leaves =
        let leaf = (and_parts (is_leaf m t) (list_all (is_leaf m) ts) leaves).0 in
        ltb-true t (length m.types) (and_parts (is_type m t) _ leaf).0

-- an instance of one type is whole where the tables of the type are
pub whole_of_only : (s : State) (x : MadeInstance) (kinds : List ℕ) (t : ℕ) → sole_of kinds ≡ Some t
    → (all_of_type has_one_value t s.attribute_types x.domains && all_of_type is_settled_port t s.port_types x.ports) ≡ is_whole_of s x kinds
whole_of_only s x [] t is = absurd (let e : None ≡ Some t = is in cc)
whole_of_only s x (k ∷ []) t is =
    ap (λ n. all_of_type has_one_value n s.attribute_types x.domains && all_of_type is_settled_port n s.port_types x.ports) (sym (same_Some k t is))
whole_of_only s x (k ∷ j ∷ ks) t is = absurd (let e : None ≡ Some t = is in cc)

pub whole_of_none : (s : State) (x : MadeInstance) (kinds : List ℕ) → sole_of kinds ≡ None → false ≡ is_whole_of s x kinds
whole_of_none s x [] is = refl
whole_of_none s x (k ∷ []) is = absurd (let e : Some k ≡ None = is in cc)
whole_of_none s x (k ∷ j ∷ ks) is = refl

module _ (s : State) (x : MadeInstance) (t : ℕ) (only : sole_of x.kinds ≡ Some t) (values : Bool) (is : values ≡ all_of_type has_one_value t s.attribute_types x.domains) where
  -- with one value for each attribute it is whole where the ports are settled
  pub whole_by_ports : (ports : Bool) → values ≡ true → ports ≡ all_of_type is_settled_port t s.port_types x.ports → ports ≡ is_whole_of s x x.kinds
  whole_by_ports ports one settled =
      let all = all_of_type is_settled_port t s.port_types x.ports in
      settled ∙ ap (λ b. b && all) (sym one ∙ is) ∙ whole_of_only s x x.kinds t only

  -- else it is not
  pub open_by_values : values ≡ false → values ≡ is_whole_of s x x.kinds
  open_by_values several =
      let all = all_of_type is_settled_port t s.port_types x.ports in
      several ∙ ap (λ b. b && all) (sym several ∙ is) ∙ whole_of_only s x x.kinds t only

-- ---- signed numbers in memory

-- numbers of 64 bits are equal where their bits are
pub same_bits : (a b : ℤ) → SFits w64 a → SFits w64 b → (of_z w64 a == of_z w64 b) ≡ int_eq a b
same_bits a b fits fits' = elim (cases_Bool (of_z w64 a == of_z w64 b)) [
  | inl same ↦
      (let e = eqb-true (of_z w64 a) (of_z w64 b) same in
      let equal : a ≡ b = sym (to_z-of_z w64 a fits) ∙ ap (to_z w64) e ∙ to_z-of_z w64 b fits' in
      same ∙ sym (ap (int_eq a) (sym equal) ∙ same_value a))
  | inr other ↦ other ∙ sym (unequal a b (λ e. false≢true (sym other ∙ eq-eqb (of_z w64 a) (of_z w64 b) (ap (of_z w64) e))))
]
  where
    unequal : (x y : ℤ) → (x ≡ y → ⊥) → int_eq x y ≡ false
    unequal x y h = grind (arith, ints)
