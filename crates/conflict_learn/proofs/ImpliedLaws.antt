-- What a literal implies holds wherever it does.
use Rattle.std.proofs.Common.{ℕ, ℤ, ◌<◌, ◌≤◌, Bool, false, not, ◌&&◌, ◌||◌, ◌==◌, List, length, Option, Some, None, inl, inr, subst, sym, ◌∙◌, arith, ltb-true, lt-ltb, leb-true, le-leb, zero-le}
use Rattle.std.specs.Prelude.{IsTrue, slice_get, nat_le, int_le, int_lt}
use Rattle.std.specs.Option.{option_map_or}
use Rattle.std.specs.Ordering.{int_eq}
use Rattle.std.specs.Cmp.{signed_Decides}
use Rattle.std.proofs.lemmas.Bool.{and_parts, and_from, or_cases, not-true, not_from_false, eqb-true, false≢true, false_from_ne_true}
use Rattle.std.proofs.lemmas.Int.{ints}
use Rattle.std.proofs.lemmas.List.Sums.{count_by-le-length}
use Rattle.std.proofs.lemmas.Option.{slice_get_within}
use Rattle.base_laws.proofs.Tests.{option_map_or_at}
use Rattle.prod_model.specs.declared.model.Model.{Model}
use Rattle.prod_model.specs.Forest.{is_a, is_forest}
use Rattle.prod_model.proofs.LineLaws.{is_a_trans}
use Rattle.config_value.specs.declared.configuration.Instance.{Instance}
use Rattle.config_value.specs.declared.literal.Literal.{Literal}
use Rattle.config_value.specs.declared.literal.Literal.TheVariants.{Made, Kind, NotKind, AtMost, AtLeast, ValueIsNot, Linked, NotLinked, LinksAtMost, LinksAtLeast, FreshAtMost, FreshAtLeast}
use Rattle.config_value.specs.Value.{at_instance, under, value_of, links_of}
use Rattle.config_value.specs.Literals.{has_literal, has_attribute, has_port, has_value_that, has_links_that, leads_to, count_from}
use Rattle.state_space.proofs.PortLaws.{count_by-le, count_by-member}
use Rattle.state_space.proofs.ValuesLaws.{le-trans}
use Rattle.conflict_learn.specs.Implied.{implies, ImpliedHolds, instance_of, both, shows_made, shows_type, shows_value, shows_links}
use Rattle.conflict_learn.proofs.ApartTypes.{one_above}

-- ---- one instance

-- what passes one test passes another that follows from it
passes_on : (f g : Instance → Bool) → ((x : Instance) → IsTrue (f x) → IsTrue (g x)) → (o : Option Instance)
    → IsTrue (option_map_or f o false) → IsTrue (option_map_or g o false)
passes_on f g each None h = h
passes_on f g each (Some x) h = each x h

module _ (m : Model) (c : List Instance) where
  -- at the same instance
  kind_passes : (f g : Instance → Bool) → ((x : Instance) → IsTrue (f x) → IsTrue (g x)) → (i j : ℕ) → IsTrue (i == j)
      → IsTrue (at_instance c f false i) → IsTrue (at_instance c g false j)
  kind_passes f g each i j same h =
      subst (λ k. IsTrue (at_instance c g false k)) (eqb-true i j same) (passes_on f g each (slice_get c i) h)

  -- of the same attribute
  value_passes : (p q : ℤ → Bool) → ((v : ℤ) → IsTrue (p v) → IsTrue (q v)) → (i j a b : ℕ) → IsTrue (both i j a b)
      → IsTrue (has_value_that m c i a p) → IsTrue (has_value_that m c j b q)
  value_passes p q each i j a b same h =
      let parts = and_parts (i == j) (a == b) same in
      subst (λ id. IsTrue (has_value_that m c j id q)) (eqb-true a b parts.1)
      (kind_passes (λ x. has_attribute m x.kind a && p (value_of m x a)) (λ x. has_attribute m x.kind a && q (value_of m x a))
      (λ x h. let has = and_parts _ _ h in and_from _ _ has.0 (each _ has.1)) i j parts.0 h)

  -- of the same port
  links_pass : (p q : List ℕ → Bool) → ((links : List ℕ) → IsTrue (p links) → IsTrue (q links)) → (i j a b : ℕ) → IsTrue (both i j a b)
      → IsTrue (has_links_that m c i a p) → IsTrue (has_links_that m c j b q)
  links_pass p q each i j a b same h =
      let parts = and_parts (i == j) (a == b) same in
      subst (λ id. IsTrue (has_links_that m c j id q)) (eqb-true a b parts.1)
      (kind_passes (λ x. has_port m x.kind a && p (links_of m x a)) (λ x. has_port m x.kind a && q (links_of m x a))
      (λ x h. let has = and_parts _ _ h in and_from _ _ has.0 (each _ has.1)) i j parts.0 h)

-- ---- instances

module _ (m : Model) (c : List Instance) where
  there : (f : Instance → Bool) (i : ℕ) → IsTrue (at_instance c f false i) → i < length c
  there f i h = let x = option_map_or_at f (slice_get c i) h in slice_get_within c i x.0 x.1

  -- the instance of a literal that holds is there
  is_there : (k : Literal) → IsTrue (has_literal m c k) → instance_of k < length c
  unfolding has_literal
  is_there (Made i) h = ltb-true i (length c) h
  is_there (Kind i t) h = there _ i h
  is_there (NotKind i t) h = there _ i h
  is_there (AtMost i a n) h = there _ i h
  is_there (AtLeast i a n) h = there _ i h
  is_there (ValueIsNot i a n) h = there _ i h
  is_there (Linked i p j) h = there _ i h
  is_there (NotLinked i p j) h = there _ i h
  is_there (LinksAtMost i p n) h = there _ i h
  is_there (LinksAtLeast i p n) h = there _ i h
  is_there (FreshAtMost i p from n) h = there _ i h
  is_there (FreshAtLeast i p from n) h = there _ i h

  made_holds : (k l : Literal) → IsTrue (shows_made k l) → IsTrue (has_literal m c k) → IsTrue (has_literal m c l)
  unfolding has_literal
  made_holds k (Made j) shown h =
      let low = leb-true j (instance_of k) shown in
      let here = is_there k h in lt-ltb j (length c) (omega (arith, low, here))
  made_holds k l shown h = absurd (false≢true shown)

-- ---- types

apart_types : (m : Model) → IsTrue (is_forest m) → (x t u : ℕ) → IsTrue (not (is_a m t u)) → IsTrue (not (is_a m u t)) → IsTrue (is_a m x t) → IsTrue (not (is_a m x u))
apart_types m forest x t u not_under not_above is = not_from_false _ (false_from_ne_true _ (λ also.
    elim (one_above m forest x t u is also) [
      | inl lower ↦ false≢true (sym (not-true _ not_under) ∙ lower)
      | inr higher ↦ false≢true (sym (not-true _ not_above) ∙ higher)
    ]))

type_holds : (m : Model) (c : List Instance) → IsTrue (is_forest m) → (k l : Literal) → IsTrue (shows_type m k l)
    → IsTrue (has_literal m c k) → IsTrue (has_literal m c l)
unfolding has_literal
type_holds m c forest (Kind i t) (Kind j u) shown h =
    let parts = and_parts (i == j) _ shown in
    kind_passes m c (under m t) (under m u) (λ x is. is_a_trans m forest x.kind t u is parts.1) i j parts.0 h
type_holds m c forest (Kind i t) (NotKind j u) shown h =
    let parts = and_parts (i == j && not (is_a m t u)) (not (is_a m u t)) shown in
    let first = and_parts (i == j) (not (is_a m t u)) parts.0 in
    kind_passes m c (under m t) (λ x. not (under m u x)) (λ x is. apart_types m forest x.kind t u first.1 parts.1 is) i j first.0 h
type_holds m c forest (NotKind i t) (NotKind j u) shown h =
    let parts = and_parts (i == j) _ shown in
    kind_passes m c (λ x. not (under m t x)) (λ x. not (under m u x))
    (λ x other. not_from_false _ (false_from_ne_true _ (λ is. false≢true (sym (not-true _ other) ∙ is_a_trans m forest x.kind u t is parts.1)))) i j parts.0 h
type_holds m c forest k l shown h = absurd (false≢true shown)

-- ---- values

-- what is not above a bound is no number above it
not_above : (u n v : ℤ) → IsTrue (int_lt n v) → IsTrue (int_le u n) → IsTrue (not (int_eq u v))
not_above u n v beyond most = not_from_false _ (false_from_ne_true _ (λ same.
    let is = (signed_Decides u v).0 same in clash (subst (λ w. IsTrue (int_le w n)) is most)))
  where
    clash : IsTrue (int_le v n) → ⊥
    clash h = grind (arith, ints)

not_below : (u n v : ℤ) → IsTrue (int_lt v n) → IsTrue (int_le n u) → IsTrue (not (int_eq u v))
not_below u n v beyond least = not_from_false _ (false_from_ne_true _ (λ same.
    let is = (signed_Decides u v).0 same in clash (subst (λ w. IsTrue (int_le n w)) is least)))
  where
    clash : IsTrue (int_le n v) → ⊥
    clash h = grind (arith, ints)

value_holds : (m : Model) (c : List Instance) (k l : Literal) → IsTrue (shows_value k l)
    → IsTrue (has_literal m c k) → IsTrue (has_literal m c l)
unfolding has_literal
value_holds m c (AtMost i a n) (AtMost j b v) shown h =
    let parts = and_parts (both i j a b) _ shown in
    value_passes m c (λ u. int_le u n) (λ u. int_le u v) (λ u most. le-trans u n v most parts.1) i j a b parts.0 h
value_holds m c (AtMost i a n) (ValueIsNot j b v) shown h =
    let parts = and_parts (both i j a b) _ shown in
    value_passes m c (λ u. int_le u n) (λ u. not (int_eq u v)) (λ u most. not_above u n v parts.1 most) i j a b parts.0 h
value_holds m c (AtLeast i a n) (AtLeast j b v) shown h =
    let parts = and_parts (both i j a b) _ shown in
    value_passes m c (λ u. int_le n u) (λ u. int_le v u) (λ u least. le-trans v n u parts.1 least) i j a b parts.0 h
value_holds m c (AtLeast i a n) (ValueIsNot j b v) shown h =
    let parts = and_parts (both i j a b) _ shown in
    value_passes m c (λ u. int_le n u) (λ u. not (int_eq u v)) (λ u least. not_below u n v parts.1 least) i j a b parts.0 h
value_holds m c (ValueIsNot i a n) (ValueIsNot j b v) shown h =
    let parts = and_parts (both i j a b) _ shown in
    value_passes m c (λ u. not (int_eq u n)) (λ u. not (int_eq u v))
    (λ u other. subst (λ w. IsTrue (not (int_eq u w))) ((signed_Decides n v).0 parts.1) other) i j a b parts.0 h
value_holds m c k l shown h = absurd (false≢true shown)

-- ---- links

-- a higher bound
more : (k n l : ℕ) → IsTrue (nat_le n l) → k ≤ n → IsTrue (nat_le k l)
more k n l wide most = let le = leb-true n l wide in le-leb k l (omega (arith, le, most))

-- a lower bound
less : (k n l : ℕ) → IsTrue (nat_le l n) → n ≤ k → IsTrue (nat_le l k)
less k n l wide least = let le = leb-true l n wide in le-leb l k (omega (arith, le, least))

-- fewer are counted from a later number on
later : (from start : ℕ) (links : List ℕ) → IsTrue (nat_le from start) → count_from start links ≤ count_from from links
later from start links low =
    count_by-le (nat_le start) (nat_le from) (λ k high. more from start k high (leb-true from start low)) links

all_of : (from : ℕ) (links : List ℕ) → count_from from links ≤ length links
all_of from links = count_by-le-length (nat_le from) links

-- one that is linked is counted
counted : (from j : ℕ) (links : List ℕ) → IsTrue (nat_le from j) → IsTrue (leads_to j links) → 1 ≤ count_from from links
counted from j links low linked = count_by-member (nat_le from) links j linked low

-- where none is counted none is linked
none : (from j : ℕ) (links : List ℕ) → IsTrue (nat_le from j) → count_from from links ≤ 0 → IsTrue (not (leads_to j links))
none from j links low most = not_from_false _ (false_from_ne_true _ (λ linked. let one = counted from j links low linked in omega (arith, one, most)))

links_hold : (m : Model) (c : List Instance) (k l : Literal) → IsTrue (shows_links k l)
    → IsTrue (has_literal m c k) → IsTrue (has_literal m c l)
unfolding has_literal
links_hold m c (Linked i p to) (Linked j q other) shown h =
    let parts = and_parts (both i j p q) (to == other) shown in
    links_pass m c (leads_to to) (leads_to other) (λ links linked. subst (λ k. IsTrue (leads_to k links)) (eqb-true to other parts.1) linked) i j p q parts.0 h
links_hold m c (Linked i p to) (LinksAtLeast j q l) shown h =
    let parts = and_parts (both i j p q) _ shown in
    links_pass m c (leads_to to) (λ links. nat_le l (length links))
    (λ links linked. let one = counted 0 to links (le-leb 0 to zero-le) linked in let all = all_of 0 links in less (length links) 1 l parts.1 (omega (arith, one, all))) i j p q parts.0 h
links_hold m c (Linked i p to) (FreshAtLeast j q start l) shown h =
    let parts = and_parts (both i j p q && nat_le start to) (nat_le l 1) shown in
    let first = and_parts (both i j p q) (nat_le start to) parts.0 in
    links_pass m c (leads_to to) (λ links. nat_le l (count_from start links))
    (λ links linked. less (count_from start links) 1 l parts.1 (counted start to links first.1 linked)) i j p q first.0 h
links_hold m c (NotLinked i p to) (NotLinked j q other) shown h =
    let parts = and_parts (both i j p q) (to == other) shown in
    links_pass m c (λ links. not (leads_to to links)) (λ links. not (leads_to other links))
    (λ links apart. subst (λ k. IsTrue (not (leads_to k links))) (eqb-true to other parts.1) apart) i j p q parts.0 h
links_hold m c (LinksAtMost i p n) (LinksAtMost j q l) shown h =
    let parts = and_parts (both i j p q) _ shown in
    links_pass m c (λ links. nat_le (length links) n) (λ links. nat_le (length links) l)
    (λ links most. more (length links) n l parts.1 (leb-true _ n most)) i j p q parts.0 h
links_hold m c (LinksAtMost i p n) (FreshAtMost j q start l) shown h =
    let parts = and_parts (both i j p q) _ shown in
    links_pass m c (λ links. nat_le (length links) n) (λ links. nat_le (count_from start links) l)
    (λ links most. let bound = leb-true (length links) n most in let all = all_of start links in more (count_from start links) n l parts.1 (omega (arith, bound, all))) i j p q parts.0 h
links_hold m c (LinksAtMost i p n) (NotLinked j q other) shown h =
    let parts = and_parts (both i j p q) (n == 0) shown in
    let zero = eqb-true n 0 parts.1 in
    links_pass m c (λ links. nat_le (length links) n) (λ links. not (leads_to other links))
    (λ links most. let bound = leb-true (length links) n most in let all = all_of 0 links in none 0 other links (le-leb 0 other zero-le) (omega (arith, bound, all, zero))) i j p q parts.0 h
links_hold m c (LinksAtLeast i p n) (LinksAtLeast j q l) shown h =
    let parts = and_parts (both i j p q) _ shown in
    links_pass m c (λ links. nat_le n (length links)) (λ links. nat_le l (length links))
    (λ links least. less (length links) n l parts.1 (leb-true n _ least)) i j p q parts.0 h
links_hold m c (FreshAtMost i p from n) (FreshAtMost j q start l) shown h =
    let parts = and_parts (both i j p q && nat_le from start) (nat_le n l) shown in
    let first = and_parts (both i j p q) (nat_le from start) parts.0 in
    links_pass m c (λ links. nat_le (count_from from links) n) (λ links. nat_le (count_from start links) l)
    (λ links most. let bound = leb-true (count_from from links) n most in let fewer = later from start links first.1 in
    more (count_from start links) n l parts.1 (omega (arith, bound, fewer))) i j p q first.0 h
links_hold m c (FreshAtMost i p from n) (NotLinked j q other) shown h =
    let parts = and_parts (both i j p q && nat_le from other) (n == 0) shown in
    let first = and_parts (both i j p q) (nat_le from other) parts.0 in
    let zero = eqb-true n 0 parts.1 in
    links_pass m c (λ links. nat_le (count_from from links) n) (λ links. not (leads_to other links))
    (λ links most. let bound = leb-true (count_from from links) n most in none from other links first.1 (omega (arith, bound, zero))) i j p q first.0 h
links_hold m c (FreshAtLeast i p from n) (FreshAtLeast j q start l) shown h =
    let parts = and_parts (both i j p q && nat_le start from) (nat_le l n) shown in
    let first = and_parts (both i j p q) (nat_le start from) parts.0 in
    links_pass m c (λ links. nat_le n (count_from from links)) (λ links. nat_le l (count_from start links))
    (λ links least. let bound = leb-true n (count_from from links) least in let fewer = later start from links first.1 in
    less (count_from start links) n l parts.1 (omega (arith, bound, fewer))) i j p q first.0 h
links_hold m c (FreshAtLeast i p from n) (LinksAtLeast j q l) shown h =
    let parts = and_parts (both i j p q) _ shown in
    links_pass m c (λ links. nat_le n (count_from from links)) (λ links. nat_le l (length links))
    (λ links least. let bound = leb-true n (count_from from links) least in let all = all_of from links in less (length links) n l parts.1 (omega (arith, bound, all))) i j p q parts.0 h
links_hold m c k l shown h = absurd (false≢true shown)

-- ---- all

pub implied_holds : ImpliedHolds
unfolding implies
implied_holds m k l c valid shown h = elim (or_cases (shows_made k l || shows_type m k l || shows_value k l) (shows_links k l) shown) [
  | inr links ↦ links_hold m c k l links h
  | inl shown ↦ elim (or_cases (shows_made k l || shows_type m k l) (shows_value k l) shown) [
    | inr value ↦ value_holds m c k l value h
    | inl shown ↦ elim (or_cases (shows_made k l) (shows_type m k l) shown) [
      | inl made ↦ made_holds m c k l made h
      | inr kind ↦ type_holds m c valid.declared.taxonomy.forest k l kind h
    ]
  ]
]
