-- Steps of reading a key start and a key, number by number.
use Rattle.std.proofs.Common.{◌≡◌, ◌≢◌, ℕ, zero, suc, ◌+◌, ◌-◌, ◌<◌, ◌≤◌, ◌^◌, ℤ, pos, to_z, of_z, w64, SFits, List, [], ◌∷◌, ◌++◌, map, length, refl, ap, ap₂, sym, ◌∙◌, subst, Some, None, Bool, true, false, cond, arith, append_assoc, drop, get_or}
use Rattle.std.specs.Prelude.{IsTrue, slice_index_or, ◌&&◌, not, ◌==◌}
use Rattle.std.specs.Int.{bit_at}
use Rattle.std.specs.Option.{option_map_or, option_and_then, is_some}
use Rattle.std.specs.List.{flat_map, list_all, list_any, range_with_len}
use Rattle.std.proofs.lemmas.Bool.{false_from_ne_true, false≢true, and_parts, eq-eqb, eqb-true, or_left}
use Rattle.std.proofs.lemmas.Int.{to_z-of_z}
use Rattle.std.proofs.lemmas.Option.{none-some, same_Some, slice_get-get_or}
use Rattle.base_laws.specs.Places.{IsAt}
use Rattle.base_laws.proofs.Tests.{list_all_from, list_any_from}
use Rattle.instance_set.specs.declared.set.InstanceSet.{InstanceSet}
use Rattle.instance_set.specs.InstanceSets.{is_member, members, IsLeastFrom}
use Rattle.instance_set.proofs.Walks.{member_low}
use Rattle.port_wildcards.specs.declared.port_domain.PortDomain.{PortDomain}
use Rattle.prod_model.specs.declared.model.Model.{Model}
use Rattle.prod_model.specs.declared.model.AttrAt.{AttrAt}
use Rattle.prod_model.specs.declared.model.PortAt.{PortAt}
use Rattle.prod_model.specs.Taxonomy.{attributes_at, ports_at}
use Rattle.config_value.specs.declared.configuration.Instance.{Instance}
use Rattle.config_value.specs.Shaped.{ascends}
use Rattle.config_value.specs.Rank.{port_key, instance_key}
use Rattle.config_value.specs.Literals.{has_attribute, has_port}
use Rattle.state_space.specs.Sets.{has_number}
use Rattle.state_space.specs.Values.{is_empty}
use Rattle.state_space.specs.Ports.{PortState}
use Rattle.state_space.specs.Made.{MadeInstance, domain_of, port_of_made}
use Rattle.state_space.specs.State.{State, IsState, IsMadeOf, number_made, kinds_at, domain_at, port_at, low_at}
use Rattle.state_space.specs.Whole.{is_settled_port}
use Rattle.state_space.proofs.WholeLaws.{same_members}
use Rattle.partial_state.specs.Masks.{kinds_of, instances_of}
use Rattle.partial_state.specs.Views.{state_of_port}
use Rattle.partial_state.specs.steps.Openings.{sole_of}
use Rattle.partial_state.proofs.PassingNumbers.{least_first, filter_none}
use Rattle.partial_state.proofs.KindLaws.{has_kind, kinds_formed}
use Rattle.partial_state.proofs.KindLists.{kinds_of_none}
use Rattle.partial_state.proofs.SoleKinds.{sole_is}
use Rattle.partial_state.proofs.WholeParts.{first_is_type}
use Rattle.state_values.specs.KeyStart.{ports_start, instance_start, instances_start, key_start}
use Rattle.state_values.specs.steps.KeyStartLeft.{key_from, start_from, start_left, HasLeft}

-- a number in memory
in_memory : (z : ℤ) (n : ℕ) → z ≡ pos n → SFits w64 z → pos n ≡ to_z w64 (of_z w64 z)
in_memory z n is fits = sym is ∙ sym (to_z-of_z w64 z fits)

-- ---- keys

-- what stands at a place is the first of what is dropped there
drop_at : {A : Type 0} (xs : List A) (k : ℕ) (x : A) → IsAt xs k x → drop k xs ≡ x ∷ drop (suc k) xs
drop_at [] k x at = absurd (none-some x at)
drop_at (y ∷ ys) zero x at = ap (λ z. z ∷ ys) (same_Some y x at)
drop_at (y ∷ ys) (suc k) x at = drop_at ys k x at

-- the next instance: its type, and then what is left of it
key_next : (c : List Instance) (next : ℕ) (x : Instance) → IsAt c next x
    → key_from next c ≡ pos x.kind ∷ (x.values ++ (flat_map port_key x.links ++ key_from (next + 1) c))
key_next c next x at =
    let next_is : suc next ≡ next + 1 = omega arith in
    ap (flat_map instance_key) (drop_at c next x at)
    ∙ ap (λ k. pos x.kind ∷ ((x.values ++ flat_map port_key x.links) ++ key_from k c)) next_is
    ∙ ap (λ ys. pos x.kind ∷ ys) (append_assoc x.values (flat_map port_key x.links) (key_from (next + 1) c))

-- where nothing is left of an instance, the next one follows
pub key_turn : (c : List Instance) (next : ℕ) (x : Instance) (z : ℤ) (values values' : List ℤ) (links : List ℕ) (ports ports' : List (List ℕ))
    → length values ≡ 0 → length links ≡ 0 → length ports ≡ 0 → IsAt c next x → values' ≡ x.values → ports' ≡ x.links → z ≡ pos x.kind → SFits w64 z
    → values ++ (map pos links ++ (flat_map port_key ports ++ key_from next c))
    ≡ to_z w64 (of_z w64 z) ∷ (values' ++ (map pos links ++ (flat_map port_key ports' ++ key_from (next + 1) c)))
key_turn c next x z (v ∷ values) values' links ports ports' none e f at is is' kind fits = absurd (omega (arith, none))
key_turn c next x z [] values' (l ∷ links) ports ports' e none f at is is' kind fits = absurd (omega (arith, none))
key_turn c next x z [] values' [] (p ∷ ports) ports' e f none at is is' kind fits = absurd (omega (arith, none))
key_turn c next x z [] values' [] [] ports' e f g at is is' kind fits =
    key_next c next x at
    ∙ ap₂ (λ n ys. n ∷ ys) (in_memory z x.kind kind fits)
    (ap₂ (λ vs ls. vs ++ (flat_map port_key ls ++ key_from (next + 1) c)) (sym is) (sym is'))

-- ---- members of a set

-- its least member is the first of them, and then come those of the set without it
members_next : (old new : InstanceSet) (j : ℕ) → IsLeastFrom old 0 (Some j) → ((k : ℕ) → is_member new k ≡ (is_member old k && not (k == j))) → instances_of old ≡ j ∷ instances_of new
unfolding instances_of
members_next old new j least left =
    let low = member_low old j least.1 in
    least_first (is_member old) (is_member new) 0 256 j (omega arith) (omega (arith, low)) least.1
    (λ k below. false_from_ne_true (is_member old k) (least.2 k (omega arith) below)) left

members_end : (set : InstanceSet) → IsLeastFrom set 0 None → instances_of set ≡ []
unfolding instances_of
members_end set none = filter_none (is_member set) 0 256 (λ k from below. false_from_ne_true (is_member set k) (none k from))

members_none : (set : InstanceSet) → ((j : ℕ) → is_member set j ≡ false) → instances_of set ≡ []
unfolding instances_of
members_none set none = filter_none (is_member set) 0 256 (λ k from below. none k)

module _ (m : Model) (s : State) where
  -- before anything is read
  pub all_left : (i : ℕ) (links : InstanceSet) → ((j : ℕ) → is_member links j ≡ false) → start_left m s i [] (instances_of links) [] 0 ≡ key_start m s
  unfolding key_start
  all_left i links none =
      let all : number_made s - 0 ≡ number_made s = omega arith in
      ap₂ (λ js n. map pos js ++ instances_start m s (range_with_len 0 n)) (members_none links none) all

  -- the next link
  pub link_turn : (i next j : ℕ) (z : ℤ) (attributes : List AttrAt) (ports : List PortAt) (old new : InstanceSet) → length attributes ≡ 0 → IsLeastFrom old 0 (Some j)
      → ((k : ℕ) → is_member new k ≡ (is_member old k && not (k == j))) → z ≡ pos j → SFits w64 z
      → start_left m s i attributes (instances_of old) ports next ≡ to_z w64 (of_z w64 z) ∷ start_left m s i attributes (instances_of new) ports next
  link_turn i next j z (a ∷ attributes) ports old new none least left is fits = absurd (omega (arith, none))
  link_turn i next j z [] ports old new none least left is fits =
      ap (λ js. map pos js ++ ports_start s i (start_from m s next) ports) (members_next old new j least left)
      ∙ ap (λ n. n ∷ (map pos (instances_of new) ++ ports_start s i (start_from m s next) ports)) (in_memory z j is fits)

  -- ---- ports

  -- what a port starts with, before ports to come
  port_start : (i next : ℕ) (p : PortAt) (rest : List PortAt) (q : PortState) → port_at s i p.id ≡ Some q
      → ports_start s i (start_from m s next) (p ∷ rest) ≡ cond (is_settled_port q) (port_key q.required ++ ports_start s i (start_from m s next) rest) []
  port_start i next p rest q told =
      ap (λ o. option_map_or (λ q. cond (is_settled_port q) (port_key q.required ++ ports_start s i (start_from m s next) rest) []) o []) told

  -- a port that is not settled ends the start
  pub port_ends : (i next : ℕ) (attributes : List AttrAt) (links : InstanceSet) (ports rest : List PortAt) (p : PortAt) (q : PortDomain) (known : Bool)
      → length attributes ≡ 0 → IsLeastFrom links 0 None → ports ≡ p ∷ rest → port_at s i p.id ≡ Some (state_of_port q) → known ≡ is_settled_port (state_of_port q) → known ≡ false
      → start_left m s i attributes (instances_of links) ports next ≡ []
  port_ends i next (a ∷ attributes) links ports rest p q known none empty parted told is fails = absurd (omega (arith, none))
  port_ends i next [] links ports rest p q known none empty parted told is fails =
      ap₂ (λ js ps. map pos js ++ ports_start s i (start_from m s next) ps) (members_end links empty) parted
      ∙ port_start i next p rest (state_of_port q) told
      ∙ ap (λ b. cond b (port_key (instances_of q.required) ++ ports_start s i (start_from m s next) rest) []) (sym is ∙ fails)

  -- a settled one has its number of links, and then the links
  pub port_turn : (i next n : ℕ) (z : ℤ) (attributes : List AttrAt) (links : InstanceSet) (ports rest : List PortAt) (p : PortAt) (q : PortDomain) (known : Bool)
      → length attributes ≡ 0 → IsLeastFrom links 0 None → ports ≡ p ∷ rest → port_at s i p.id ≡ Some (state_of_port q) → known ≡ is_settled_port (state_of_port q) → known ≡ true
      → n ≡ length (members q.required) → z ≡ pos n → SFits w64 z
      → start_left m s i attributes (instances_of links) ports next ≡ to_z w64 (of_z w64 z) ∷ start_left m s i attributes (instances_of q.required) rest next
  unfolding instances_of
  port_turn i next n z (a ∷ attributes) links ports rest p q known none empty parted told is holds count is' fits = absurd (omega (arith, none))
  port_turn i next n z [] links ports rest p q known none empty parted told is holds count is' fits =
      ap₂ (λ js ps. map pos js ++ ports_start s i (start_from m s next) ps) (members_end links empty) parted
      ∙ port_start i next p rest (state_of_port q) told
      ∙ ap (λ b. cond b (port_key (instances_of q.required) ++ ports_start s i (start_from m s next) rest) []) (sym is ∙ holds)
      ∙ ap (λ n. n ∷ (map pos (instances_of q.required) ++ ports_start s i (start_from m s next) rest)) (ap pos (sym count) ∙ in_memory z n is' fits)

  -- ---- instances

  -- nothing is left of an instance
  left_next : (i next : ℕ) (attributes : List AttrAt) (links : InstanceSet) (ports : List PortAt) → length attributes ≡ 0 → IsLeastFrom links 0 None → length ports ≡ 0
      → start_left m s i attributes (instances_of links) ports next ≡ start_from m s next
  left_next i next (a ∷ attributes) links ports none empty none' = absurd (omega (arith, none))
  left_next i next [] links (p ∷ ports) none empty none' = absurd (omega (arith, none'))
  left_next i next [] links [] none empty none' = ap (λ js. map pos js ++ start_from m s next) (members_end links empty)

  from_last : (next : ℕ) → number_made s ≤ next → start_from m s next ≡ []
  from_last next past =
      let gone : number_made s - next ≡ 0 = omega (arith, past) in
      ap (λ n. instances_start m s (range_with_len next n)) gone

  from_next : (next : ℕ) → next < number_made s → start_from m s next ≡ instance_start m s next (start_from m s (next + 1)) (kinds_at s next)
  from_next next below =
      let more : number_made s - next ≡ suc (number_made s - (next + 1)) = omega (arith, below) in
      ap (λ n. instances_start m s (range_with_len next n)) more

  -- there is no other
  pub start_ends : (i next made : ℕ) (attributes : List AttrAt) (links : InstanceSet) (ports : List PortAt) → length attributes ≡ 0 → IsLeastFrom links 0 None → length ports ≡ 0
      → made ≡ number_made s → made ≤ next → start_left m s i attributes (instances_of links) ports next ≡ []
  start_ends i next made attributes links ports none empty none' is past = left_next i next attributes links ports none empty none' ∙ from_last next (omega (arith, is, past))

  module _ (state : IsState m s) (next mask : ℕ) (below : next < number_made s) (fits : mask < 2 ^ 128) (bits : (t : ℕ) → bit_at mask t ≡ cond (has_number (kinds_at s next) t) 1 0) where
    abbrev x : MadeInstance
    x = get_or s.made next (record { kinds = []; domains = []; ports = [] })

    at : IsAt s.made next x
    at = slice_get-get_or s.made next (record { kinds = []; domains = []; ports = [] }) below

    is_made : IsMadeOf m (number_made s) x
    is_made = state.each next x at

    kinds_are : kinds_at s next ≡ x.kinds
    kinds_are = ap (λ o. option_map_or (λ (x : MadeInstance). x.kinds) o []) at

    -- the types of the mask are the possible types
    kinds_same : kinds_of mask ≡ kinds_at s next
    kinds_same =
        same_members (kinds_of mask) (kinds_at s next) (and_parts _ _ (kinds_formed mask)).0
        (subst (λ ks. IsTrue (ascends ks)) (sym kinds_are) (and_parts _ _ is_made.formed).0)
        (λ k there. one_bit (has_number (kinds_at s next) k) (sym (bits k) ∙ eqb-true (bit_at mask k) 1 (sym (has_kind mask k fits) ∙ there)))
        (λ k there. has_kind mask k fits ∙ eq-eqb (bit_at mask k) 1 (bits k ∙ ap bit_of there))
      where
        bit_of : Bool → ℕ
        bit_of b = cond b 1 0

        one_bit : (b : Bool) → bit_of b ≡ 1 → b ≡ true
        one_bit true is = refl
        one_bit false is = absurd (omega (arith, is))

    -- there is one
    pub some_kind : mask ≢ 0
    some_kind none = absurd (by x.kinds (sym kinds_are ∙ (sym kinds_same ∙ (ap kinds_of none ∙ kinds_of_none))) is_made.some)
      where
        by : (kinds : List ℕ) → kinds ≡ [] → IsTrue (not (is_empty kinds)) → ⊥
        by [] is some = false≢true some
        by (t ∷ ts) is some = absurd cc

    module _ (t : ℕ) (sole : Some t ≡ sole_of (kinds_of mask)) where
      only : kinds_at s next ≡ t ∷ []
      only = sym kinds_same ∙ sole_is (kinds_of mask) t (sym sole)

      pub kind_known : t < length m.types
      kind_known = subst (λ ks. slice_index_or ks 0 0 < length m.types) (sym kinds_are ∙ only) (first_is_type m s next x state at)

      -- the instance has the attributes and ports of its type
      pub has_left : (attributes : List AttrAt) (ports : List PortAt) → attributes ≡ attributes_at m t → ports ≡ ports_at m t → HasLeft m s next attributes ports
      has_left attributes ports is is' = record {
        state = state;
        has_attributes = subst (λ xs. IsTrue (list_all (λ (a : AttrAt). is_some (domain_at s next a.id)) xs)) (sym is) (list_all_from (λ (a : AttrAt). is_some (domain_at s next a.id)) (attributes_at m t) (λ k a there.
            subst (λ o. IsTrue (is_some o)) (sym (ap (option_and_then (λ (x : MadeInstance). domain_of x a.id)) at)) (is_made.has_domains a.id (of_kind (λ u. has_attribute m u a.id)
            (list_any_from (λ (b : AttrAt). b.id == a.id) (attributes_at m t) k a there (eq-eqb a.id a.id refl))))));
        has_ports = subst (λ xs. IsTrue (list_all (λ (p : PortAt). is_some (port_at s next p.id)) xs)) (sym is') (list_all_from (λ (p : PortAt). is_some (port_at s next p.id)) (ports_at m t) (λ k p there.
            subst (λ o. IsTrue (is_some o)) (sym (ap (option_and_then (λ (x : MadeInstance). port_of_made x p.id)) at)) (is_made.has_ports p.id (of_kind (λ u. has_port m u p.id)
            (list_any_from (λ (q : PortAt). q.id == p.id) (ports_at m t) k p there (eq-eqb p.id p.id refl))))));
      }
        where
          of_kind : (test : ℕ → Bool) → IsTrue (test t) → IsTrue (list_any test x.kinds)
          of_kind test has = subst (λ ks. IsTrue (list_any test ks)) (sym only ∙ kinds_are) (or_left (test t) false has)

      -- the instance is of one type: the type, and then what is left of the instance
      pub instance_turn : (i : ℕ) (z : ℤ) (attributes attributes' : List AttrAt) (links : InstanceSet) (ports ports' : List PortAt) → length attributes ≡ 0 → IsLeastFrom links 0 None → length ports ≡ 0
          → attributes' ≡ attributes_at m t → ports' ≡ ports_at m t → z ≡ pos t → SFits w64 z
          → start_left m s i attributes (instances_of links) ports next ≡ to_z w64 (of_z w64 z) ∷ start_left m s next attributes' (instances_of links) ports' (next + 1)
      instance_turn i z attributes attributes' links ports ports' none empty none' is is' kind fits =
          left_next i next attributes links ports none empty none' ∙ from_next next below ∙ ap (instance_start m s next (start_from m s (next + 1))) only
          ∙ ap₂ (λ n xs. n ∷ xs) (in_memory z t kind fits)
          (ap₂ (λ es ps. map (λ (a : AttrAt). low_at s next a.id) es ++ ports_start s next (start_from m s (next + 1)) ps) (sym is) (sym is')
          ∙ ap (λ js. map (λ (a : AttrAt). low_at s next a.id) attributes' ++ (map pos js ++ ports_start s next (start_from m s (next + 1)) ports')) (sym (members_end links empty)))

    -- the instance is of several types: the least one, and nothing else
    pub instance_ends : None ≡ sole_of (kinds_of mask) → (i made first : ℕ) (z : ℤ) (attributes : List AttrAt) (links : InstanceSet) (ports : List PortAt) → length attributes ≡ 0 → IsLeastFrom links 0 None → length ports ≡ 0
        → made ≡ number_made s → first ≡ slice_index_or (kinds_of mask) 0 0 → z ≡ pos first → SFits w64 z
        → start_left m s i attributes (instances_of links) ports next ≡ to_z w64 (of_z w64 z) ∷ start_left m s i attributes (instances_of links) ports made
    instance_ends several i made first z attributes links ports none empty none' is least kind fits =
        left_next i next attributes links ports none empty none' ∙ from_next next below ∙ ap (instance_start m s next (start_from m s (next + 1))) (sym kinds_same)
        ∙ alone (kinds_of mask) several
        ∙ ap₂ (λ n xs. n ∷ xs) (ap pos (sym least) ∙ in_memory z first kind fits) (sym (start_ends i made made attributes links ports none empty none' is (omega arith)))
      where
        alone : (kinds : List ℕ) → None ≡ sole_of kinds → instance_start m s next (start_from m s (next + 1)) kinds ≡ pos (slice_index_or kinds 0 0) ∷ []
        alone [] several = refl
        alone (t ∷ []) several = absurd cc
        alone (t ∷ u ∷ ts) several = refl
