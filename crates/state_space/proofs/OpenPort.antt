-- The first open port, and that nothing before it links a later instance.
use Rattle.std.proofs.Common.{◌≡◌, ℕ, zero, suc, ◌+◌, ◌<◌, Bool, true, false, not, cond, List, [], ◌∷◌, ◌++◌, map, refl, ap, ap₂, sym, ◌∙◌, subst, inl, inr, Some, None, Option, arith, append_assoc}
use Rattle.std.specs.Prelude.{IsTrue, ◌==◌, if◌then◌else◌}
use Rattle.std.specs.Option.{option_map_or}
use Rattle.std.specs.List.{list_any, find, flat_map, enumerate_from}
use Rattle.std.proofs.lemmas.Bool.{or_cases, or_left, or_right, or_from, eqb-true, false≢true, false_from_ne_true, not-false}
use Rattle.std.proofs.lemmas.List.Folds.{list_any-append}
use Rattle.std.proofs.lemmas.List.{map-append}
use Rattle.std.proofs.lemmas.Option.{same_Some, none-some}
use Rattle.prod_model.specs.declared.model.Model.{Model}
use Rattle.prod_model.specs.declared.model.PortAt.{PortAt}
use Rattle.prod_model.specs.Taxonomy.{ports_at}
use Rattle.config_value.specs.declared.configuration.Instance.{Instance}
use Rattle.config_value.specs.Numbered.{Link}
use Rattle.base_laws.specs.Places.{IsAt}
use Rattle.state_space.specs.Made.{MadeInstance}
use Rattle.state_space.specs.Sets.{has_number}
use Rattle.state_space.specs.Generation.{PortOf, is_open, has_no_ports, open_port_or, first_open_from}
use Rattle.state_space.proofs.GenerationLaws.{targets}

-- what `find` finds stands at a place, passes, and none before it does
pub find_place : {X : Type 0} (test : X → Bool) (xs : List X) (x : X) → find test xs ≡ Some x
    → (k : ℕ) × IsAt xs k x × IsTrue (test x) × ((j : ℕ) (y : X) → j < k → IsAt xs j y → test y ≡ false)
find_place test [] x is = absurd (none-some x is)
find_place {X} test (y ∷ ys) x is = by (test y) refl is (find_place test ys x)
  where
    Found : List X → Type 0
    Found xs = (k : ℕ) × IsAt xs k x × IsTrue (test x) × ((j : ℕ) (z : X) → j < k → IsAt xs j z → test z ≡ false)

    before : test y ≡ false → (k : ℕ) → ((j : ℕ) (z : X) → j < k → IsAt ys j z → test z ≡ false) → (j : ℕ) (z : X) → j < suc k → IsAt (y ∷ ys) j z → test z ≡ false
    before fails k none zero z early at = ap test (sym (same_Some y z at)) ∙ fails
    before fails k none (suc j) z early at = none j z (omega (arith, early)) at

    by : (b : Bool) → test y ≡ b → cond b (Some y) (find test ys) ≡ Some x → (find test ys ≡ Some x → Found ys) → Found (y ∷ ys)
    by true passes is rest = let same : y ≡ x = same_Some y x is in (0, is, subst (λ z. IsTrue (test z)) same passes, λ j z early at. absurd (omega (arith, early)))
    by false fails is rest = let found = rest is in (suc found.0, found.1, found.2, before fails found.0 found.3)

-- where nothing is found nothing passes
find_none : {X : Type 0} (test : X → Bool) (xs : List X) → find test xs ≡ None → (j : ℕ) (y : X) → IsAt xs j y → test y ≡ false
find_none test [] is j y at = absurd (none-some y at)
find_none {X} test (x ∷ xs) is j y at = by (test x) refl is (find_none test xs) j at
  where
    by : (b : Bool) → test x ≡ b → cond b (Some x) (find test xs) ≡ None → (find test xs ≡ None → (j : ℕ) (y : X) → IsAt xs j y → test y ≡ false) → (j : ℕ) → IsAt (x ∷ xs) j y → test y ≡ false
    by true passes is rest j at = absurd (none-some x (sym is))
    by false fails is rest zero at = ap test (sym (same_Some x y at)) ∙ fails
    by false fails is rest (suc j) at = rest is j y at

-- no port of a possible type is open
abbrev pub AllClosed : Model → MadeInstance → Type 0
AllClosed m x = (t : ℕ) → IsTrue (has_number x.kinds t) → (j : ℕ) (p : PortAt) → IsAt (ports_at m t) j p → is_open x p.id ≡ false

-- A port of an instance of one type is open, and none before it is, by instances and then by ports. Instances are numbered from i on.
pub record IsFirstOpen (m : Model) (i : ℕ) (xs : List MadeInstance) (at : PortOf) : Type 0 where
  pub skipped : ℕ
  pub instance : at.instance ≡ i + skipped
  pub made : MadeInstance
  pub there : IsAt xs skipped made
  pub kind : ℕ
  pub sole : made.kinds ≡ kind ∷ []
  pub place : ℕ
  pub port : PortAt
  pub port_there : IsAt (ports_at m kind) place port
  pub port_id : port.id ≡ at.port
  pub opened : IsTrue (is_open made port.id)
  pub ports_before : (j : ℕ) (p : PortAt) → j < place → IsAt (ports_at m kind) j p → is_open made p.id ≡ false
  pub before : (j : ℕ) (x : MadeInstance) → j < skipped → IsAt xs j x → AllClosed m x

-- one more instance before, of which all is closed
one_before : (m : Model) (i : ℕ) (x : MadeInstance) (xs : List MadeInstance) (at : PortOf) → AllClosed m x → IsFirstOpen m (i + 1) xs at → IsFirstOpen m i (x ∷ xs) at
one_before m i x xs at closed f = record {
  skipped = suc f.skipped;
  instance = omega (arith, f.instance);
  made = f.made;
  there = f.there;
  kind = f.kind;
  sole = f.sole;
  place = f.place;
  port = f.port;
  port_there = f.port_there;
  port_id = f.port_id;
  opened = f.opened;
  ports_before = f.ports_before;
  before = earlier;
}
  where
    earlier : (j : ℕ) (y : MadeInstance) → j < suc f.skipped → IsAt (x ∷ xs) j y → AllClosed m y
    earlier zero y early here = subst (AllClosed m) (same_Some x y here) closed
    earlier (suc j) y early here = f.before j y (omega (arith, early)) here

-- types without ports have no open one
portless : (m : Model) (x : MadeInstance) → list_any (λ t. not (has_no_ports m t)) x.kinds ≡ false → AllClosed m x
portless m x none t there j p at = absurd (by (ports_at m t) refl at)
  where
    all_fail : (ts : List ℕ) → list_any (λ t. not (has_no_ports m t)) ts ≡ false → IsTrue (has_number ts t) → IsTrue (has_no_ports m t)
    all_fail [] none there = absurd (false≢true there)
    all_fail (u ∷ us) none there = elim (or_cases (u == t) (has_number us t) there) [
      | inl here ↦ subst (λ k. IsTrue (has_no_ports m k)) (eqb-true u t here) (not-false (has_no_ports m u) (false_from_ne_true _ (λ h. false≢true (sym none ∙ or_left _ _ h))))
      | inr later ↦ all_fail us (false_from_ne_true _ (λ h. false≢true (sym none ∙ or_right (not (has_no_ports m u)) _ h))) later
    ]

    by : (ps : List PortAt) → ports_at m t ≡ ps → IsAt ps j p → ⊥
    by [] is at = none-some p at
    by (q ∷ qs) is at = false≢true (sym (ap (λ ps. elim ps [ [] ↦ true | (r ∷ rs) ↦ false ]) is) ∙ all_fail x.kinds none there)

-- the first open port is one
pub first_open_at : (m : Model) (i : ℕ) (xs : List MadeInstance) (at : PortOf) → first_open_from m i xs ≡ Some at → IsFirstOpen m i xs at
first_open_at m i [] at is = absurd (none-some at is)
first_open_at m i (x ∷ xs) at is = by x.kinds refl is (first_open_at m (i + 1) xs at)
  where
    later : Option PortOf
    later = first_open_from m (i + 1) xs

    many : (ks : List ℕ) → x.kinds ≡ ks → (if list_any (λ t. not (has_no_ports m t)) ks then None else later) ≡ Some at → (later ≡ Some at → IsFirstOpen m (i + 1) xs at) → IsFirstOpen m i (x ∷ xs) at
    many ks kinds is rest = cases (list_any (λ t. not (has_no_ports m t)) ks) refl is
      where
        cases : (b : Bool) → list_any (λ t. not (has_no_ports m t)) ks ≡ b → (if b then None else later) ≡ Some at → IsFirstOpen m i (x ∷ xs) at
        cases true ports is = absurd (none-some at is)
        cases false none is = one_before m i x xs at (portless m x (ap (list_any (λ t. not (has_no_ports m t))) kinds ∙ none)) (rest is)

    single : (t : ℕ) → x.kinds ≡ t ∷ [] → (o : Option PortAt) → find (λ p. is_open x p.id) (ports_at m t) ≡ o
        → option_map_or (λ p. Some (record { instance = i; port = p.id })) o later ≡ Some at → (later ≡ Some at → IsFirstOpen m (i + 1) xs at) → IsFirstOpen m i (x ∷ xs) at
    single t kinds None none is rest = one_before m i x xs at closed (rest is)
      where
        closed : AllClosed m x
        closed u there j p at = elim (or_cases (t == u) false (ap (λ ks. has_number ks u) (sym kinds) ∙ there)) [
          | inl here ↦ find_none (λ p. is_open x p.id) (ports_at m t) none j p (subst (λ k. IsAt (ports_at m k) j p) (sym (eqb-true t u here)) at)
          | inr none ↦ absurd (false≢true none)
        ]
    single t kinds (Some p) found is rest =
        let place = find_place (λ p. is_open x p.id) (ports_at m t) p found in
        let here : PortOf = record { instance = i; port = p.id } in
        let same : here ≡ at = same_Some here at is in
        let instance_is : i ≡ at.instance = ap (λ a. a.instance) same in
        record {
          skipped = 0;
          instance = omega (arith, instance_is);
          made = x;
          there = refl;
          kind = t;
          sole = kinds;
          place = place.0;
          port = p;
          port_there = place.1;
          port_id = ap (λ a. a.port) same;
          opened = place.2;
          ports_before = place.3;
          before = λ j y early at. absurd (omega (arith, early));
        }

    by : (ks : List ℕ) → x.kinds ≡ ks → open_port_or m i x later ks ≡ Some at → (later ≡ Some at → IsFirstOpen m (i + 1) xs at) → IsFirstOpen m i (x ∷ xs) at
    by [] kinds is rest = many [] kinds is rest
    by (t ∷ []) kinds is rest = single t kinds (find (λ p. is_open x p.id) (ports_at m t)) refl is rest
    by (t ∷ u ∷ ts) kinds is rest = many (t ∷ u ∷ ts) kinds is rest

-- ---- where the links lead, parted at one port

-- the links of an instance, and of instances, in order
abbrev pub joined : List (List ℕ) → List ℕ
joined ports = flat_map (λ links. links) ports

abbrev pub all_targets : List Instance → List ℕ
all_targets c = flat_map (λ y. joined y.links) c

-- lists of links are parted at one of them, and what passes in none of the earlier ones passes in none of the front
parted_joined : (test : ℕ → Bool) (ports : List (List ℕ)) (k : ℕ) (links : List ℕ) → IsAt ports k links
    → ((j : ℕ) (ls : List ℕ) → j < k → IsAt ports j ls → list_any test ls ≡ false)
    → (front : List ℕ) × (back : List ℕ) × (joined ports ≡ front ++ (links ++ back)) × (list_any test front ≡ false)
parted_joined test [] k links at none = absurd (none-some links at)
parted_joined test (p ∷ ps) zero links at none = ([], joined ps, ap (λ ls. ls ++ joined ps) (same_Some p links at), refl)
parted_joined test (p ∷ ps) (suc k) links at none =
    let rest = parted_joined test ps k links at (λ j ls early. none (suc j) ls (omega (arith, early))) in
    (p ++ rest.0, rest.1, ap (λ ls. p ++ ls) rest.2 ∙ sym (append_assoc p rest.0 (links ++ rest.1)), none_append test p rest.0 (none 0 p (omega arith) refl) rest.3)
  where
    none_append : (test : ℕ → Bool) (xs ys : List ℕ) → list_any test xs ≡ false → list_any test ys ≡ false → list_any test (xs ++ ys) ≡ false
    none_append test xs ys a b = list_any-append test xs ys ∙ or_from _ _ a b

-- what passes in none of the lists passes in none of them joined
joined_none : (test : ℕ → Bool) (ports : List (List ℕ)) → ((j : ℕ) (ls : List ℕ) → IsAt ports j ls → list_any test ls ≡ false) → list_any test (joined ports) ≡ false
joined_none test [] none = refl
joined_none test (p ∷ ps) none = list_any-append test p (joined ps) ∙ or_from _ _ (none 0 p refl) (joined_none test ps (λ j. none (suc j)))

-- the targets of all links are parted at one port of one instance
pub parted_targets : (test : ℕ → Bool) (c : List Instance) (i : ℕ) (y : Instance) (k : ℕ) (links : List ℕ) → IsAt c i y → IsAt y.links k links
    → ((h : ℕ) (x : Instance) → h < i → IsAt c h x → (j : ℕ) (ls : List ℕ) → IsAt x.links j ls → list_any test ls ≡ false)
    → ((j : ℕ) (ls : List ℕ) → j < k → IsAt y.links j ls → list_any test ls ≡ false)
    → (front : List ℕ) × (back : List ℕ) × (all_targets c ≡ (front ++ links) ++ back) × (list_any test front ≡ false)
parted_targets test [] i y k links at there before ports = absurd (none-some y at)
parted_targets test (x ∷ c) zero y k links at there before ports =
    let same : x ≡ y = same_Some x y at in
    let split = parted_joined test y.links k links there ports in (
      split.0,
      split.1 ++ all_targets c,
      ap (λ z. joined z.links ++ all_targets c) same
          ∙ (ap (λ ls. ls ++ all_targets c) (split.2 ∙ sym (append_assoc split.0 links split.1))
          ∙ append_assoc (split.0 ++ links) split.1 (all_targets c)),
      split.3,
    )
parted_targets test (x ∷ c) (suc i) y k links at there before ports =
    let rest = parted_targets test c i y k links at there (λ h z early. before (suc h) z (omega (arith, early))) ports in
    let first = joined x.links in (
      first ++ rest.0,
      rest.1,
      ap (λ ls. first ++ ls) rest.2
          ∙ (sym (append_assoc first (rest.0 ++ links) rest.1) ∙ ap (λ ls. ls ++ rest.1) (sym (append_assoc first rest.0 links))),
      list_any-append test first rest.0 ∙ or_from _ _ (joined_none test x.links (before 0 x (omega arith) refl)) rest.3,
    )

-- links lead where their lists say
module _ (i : ℕ) where
  linked : ℕ → Link
  linked j = record { from = i; to = j }

  targets_of_port : (links : List ℕ) → map (λ l. l.to) (map linked links) ≡ links
  unfolding linked
  targets_of_port [] = refl
  targets_of_port (j ∷ js) = ap (λ ks. j ∷ ks) (targets_of_port js)

  targets_of_ports : (ports : List (List ℕ)) → map (λ l. l.to) (flat_map (map linked) ports) ≡ joined ports
  targets_of_ports [] = refl
  targets_of_ports (p ∷ ps) =
      map-append (λ (l : Link). l.to) (map linked p) (flat_map (map linked) ps) ∙ ap₂ (λ a b. a ++ b) (targets_of_port p) (targets_of_ports ps)

targets_from : (i : ℕ) (c : List Instance) → map (λ l. l.to) (flat_map (λ e. flat_map (map (λ j. let l : Link = record { from = e.0; to = j } in l)) e.1.links) (enumerate_from i c)) ≡ all_targets c
unfolding linked
targets_from i [] = refl
targets_from i (x ∷ c) =
    map-append (λ (l : Link). l.to) (flat_map (map (linked i)) x.links) _ ∙ ap₂ (λ a b. a ++ b) (targets_of_ports i x.links) (targets_from (i + 1) c)

pub targets_are : (c : List Instance) → targets c ≡ all_targets c
targets_are c = targets_from 0 c
