-- What a port of a new instance may link, and the sets of the first words and instances.
use Rattle.std.proofs.Common.{◌≡◌, ℕ, zero, suc, ◌+◌, ◌-◌, ◌*◌, ◌%◌, ◌<◌, ◌≤◌, ◌≢◌, ◌^◌, ◌∙◌, ap, ap₂, sym, ◌==◌, ◌&&◌, ◌||◌, not, bit_and, cond, max, nat_lt, Bool, true, false, refl, inl, inr, List, [], ◌∷◌, ◌++◌, length, map, Option, Some, None, arith, lt-ltb, le-ltb, zero-add}
use Rattle.std.specs.Prelude.{IsTrue, IsSome}
use Rattle.std.specs.Int.{bit_at, w128, trailing_zeros}
use Rattle.std.specs.List.{fold, cons_option, range_with_len}
use Rattle.std.proofs.lemmas.Bool.{cases_lt, false≢true}
use Rattle.std.proofs.lemmas.Bool.Decides.{nat_tests}
use Rattle.std.proofs.lemmas.List.FromFn.{map-range_with_len_more, length-map-range_with_len}
use Rattle.std.proofs.lemmas.List.{length-map}
use Rattle.std.proofs.lemmas.Nat.Bits.{bit_at_ones, bit_at_ones_above, bit_at-trailing_zeros}
use Rattle.std.proofs.lemmas.Option.{none-some}
use Rattle.base_laws.specs.Places.{IsAt}
use Rattle.base_laws.proofs.Masks64.{one_bit}
use Rattle.base_laws.proofs.Masks128.{bit_at_without}
use Rattle.prod_model.specs.declared.model.Model.{Model}
use Rattle.prod_model.specs.declared.model.PortAt.{PortAt}
use Rattle.prod_model.specs.Taxonomy.{port_of}
use Rattle.domain_store.specs.Words.{has_word}
use Rattle.domain_store.proofs.Bits.{has_none}
use Rattle.instance_set.specs.declared.set.InstanceSet.{InstanceSet}
use Rattle.instance_set.specs.InstanceSets.{is_member}
use Rattle.port_wildcards.specs.declared.port_domain.PortDomain.{PortDomain}
use Rattle.port_wildcards.specs.Ports.{IsPort}
use Rattle.prod_model.specs.Valid.{IsValid}
use Rattle.config_value.specs.Literals.{has_port}
use Rattle.state_space.specs.State.{first_ports, leaves_that, port_types_of}
use Rattle.state_space.proofs.FewLaws.{valid_has_few}
use Rattle.state_space.specs.Ports.{PortState}
use Rattle.state_space.specs.Root.{whole_links, ports_under}
use Rattle.state_space.proofs.NewLaws.{among_ports}
use Rattle.partial_state.specs.Masks.{words_of, kinds_of, instances_of, IsWordMask}
use Rattle.partial_state.specs.Views.{state_of_port}
use Rattle.partial_state.proofs.KindLaws.{has_kind}
use Rattle.partial_state.proofs.KindLists.{kinds_of_none}
use Rattle.partial_state.proofs.PassingNumbers.{filter_none, first_numbers}

-- ---- the first words and instances

pub all_bits : (k : ℕ) → has_word (2 ^ 64 - 1) k ≡ nat_lt k 64
all_bits k = elim (cases_lt k 64) [
  | inl within ↦ rw (bit_at_ones 64 k within) (grind (arith, nat_tests))
  | inr past ↦ rw (bit_at_ones_above 64 k past) (grind (arith, nat_tests))
]

pub low_bits : (n k : ℕ) → n < 64 → has_word (1 * 2 ^ n % 2 ^ 64 - 1) k ≡ nat_lt k n
low_bits n k below = rw (one_bit n below) (elim (cases_lt k n) [
  | inl within ↦ rw (bit_at_ones n k within) (grind (arith, nat_tests))
  | inr past ↦ rw (bit_at_ones_above n k past) (grind (arith, nat_tests))
])

pub words_first : (mask n : ℕ) → n ≤ 64 → ((k : ℕ) → has_word mask k ≡ nat_lt k n) → words_of mask ≡ range_with_len 0 n
unfolding words_of
words_first mask n few bits = first_numbers (has_word mask) n 64 few (λ k below. bits k)

pub bits_some : (mask n : ℕ) → 1 ≤ n → ((k : ℕ) → has_word mask k ≡ nat_lt k n) → mask ≢ 0
bits_some mask n some bits none = false≢true (sym (has_none 0) ∙ ap (λ m. has_word m 0) (sym none) ∙ bits 0 ∙ lt-ltb 0 n (omega (arith, some)))

pub words_formed : (mask n : ℕ) → 1 ≤ n → n ≤ 64 → ((k : ℕ) → has_word mask k ≡ nat_lt k n) → IsWordMask mask
words_formed mask n some few bits = record {
  some = bits_some mask n some bits;
  below = λ k past. bits k ∙ le-ltb k n (omega (arith, few, past));
}

pub instances_first : (set : InstanceSet) (n : ℕ) → n ≤ 256 → ((k : ℕ) → is_member set k ≡ nat_lt k n) → instances_of set ≡ range_with_len 0 n
unfolding instances_of
instances_first set n few members = first_numbers (is_member set) n 256 few (λ k below. members k)

pub instances_none : (set : InstanceSet) → ((k : ℕ) → is_member set k ≡ false) → instances_of set ≡ []
unfolding instances_of
instances_none set none = filter_none (is_member set) 0 256 (λ k from below. none k)

-- one more instance
pub one_more : (k i : ℕ) → (nat_lt k i || (k == i)) ≡ nat_lt k (i + 1)
one_more k i = grind (arith, nat_tests)

-- ---- the lowest bit

not_none : (n : ℕ) → n ≢ 0 → 0 < n
not_none zero some = absurd (some refl)
not_none (suc n) some = omega arith

pub lowest_type : (types : ℕ) → types ≢ 0 → types < 2 ^ 128
    → (trailing_zeros w128 types < 128) × (has_word types (trailing_zeros w128 types) ≡ true) × ((k : ℕ) → k < trailing_zeros w128 types → has_word types k ≡ false)
lowest_type types some fits =
    let low = bit_at-trailing_zeros w128 types (not_none types some) fits in
    (low.0, ap (λ n. n == 1) low.1, λ k below. ap (λ n. n == 1) (low.2 k below))

pub without_type : (types t k : ℕ) → t < 128 → types < 2 ^ 128 → has_word (bit_and types (2 ^ 128 - 1 - 1 * 2 ^ t % 2 ^ 128)) k ≡ (has_word types k && not (k == t))
without_type types t k below fits = ap (λ n. n == 1) (bit_at_without types t k below fits) ∙ by (k == t) (bit_at types k)
  where
    by : (b : Bool) (n : ℕ) → (cond b 0 n == 1) ≡ ((n == 1) && not b)
    by true n = sym (no_more (n == 1))
      where
        no_more : (b : Bool) → (b && false) ≡ false
        no_more true = refl
        no_more false = refl
    by false n = same (n == 1)
      where
        same : (b : Bool) → b ≡ (b && true)
        same true = refl
        same false = refl

-- ---- the greatest count

abbrev counts : Model → ℕ → List ℕ → List ℕ
counts m p kinds = map (λ (q : PortAt). q.high) (ports_under m kinds p)

pub greatest_of_none : (m : Model) (p most types : ℕ) → types ≡ 0 → most ≡ fold max most (counts m p (kinds_of types))
greatest_of_none m p most types none = sym (ap (λ ks. fold max most (counts m p ks)) (ap kinds_of none ∙ kinds_of_none))

module _ (m : Model) (p most types others t : ℕ) (next : kinds_of types ≡ t ∷ kinds_of others) where
  pub greatest_with : (q : PortAt) → port_of m t p ≡ Some q → fold max (max most q.high) (counts m p (kinds_of others)) ≡ fold max most (counts m p (kinds_of types))
  greatest_with q is =
      sym (ap (λ ks. fold max most (counts m p ks)) next
      ∙ ap (λ o. fold max most (map (λ (q : PortAt). q.high) (cons_option o (ports_under m (kinds_of others) p)))) is)

  pub greatest_without : port_of m t p ≡ None → fold max most (counts m p (kinds_of others)) ≡ fold max most (counts m p (kinds_of types))
  greatest_without is =
      sym (ap (λ ks. fold max most (counts m p ks)) next
      ∙ ap (λ o. fold max most (map (λ (q : PortAt). q.high) (cons_option o (ports_under m (kinds_of others) p)))) is)

  -- there are fewer others
  pub fewer_others : length (kinds_of others) < length (kinds_of types)
  fewer_others = let long = ap length next in omega (arith, long)

-- ---- a port

-- a port that requires nothing is formed
pub nothing_required : (q : PortDomain) → ((j : ℕ) → is_member q.required j ≡ false) → q.fresh_low ≡ 0 → IsPort q
nothing_required q none low = record {
  within = λ j is. absurd (false≢true (sym (none j) ∙ is));
  ordered = omega (arith, low);
}

-- where nothing has the port there is none
pub no_port : (m : Model) (p types : ℕ) (made : List ℕ) → types ≡ 0 → None ≡ whole_links made (ports_under m (kinds_of types) p)
no_port m p types made none = sym (ap (λ ks. whole_links made (ports_under m ks p)) (ap kinds_of none ∙ kinds_of_none))

-- what a port may link that a type has
links_of_some : (made : List ℕ) (qs : List PortAt) (k : ℕ) (q : PortAt) → IsAt qs k q
    → whole_links made qs ≡ Some (record { required = []; possible = made; fresh_low = 0; fresh_high = fold max 0 (map (λ (r : PortAt). r.high) qs) })
links_of_some made [] k q at = absurd (none-some q at)
links_of_some made (r ∷ rs) k q at = refl

pub new_port : (m : Model) (p types : ℕ) (empty made : InstanceSet) (high : ℕ) → types ≢ 0 → types < 2 ^ 128
    → ((t : ℕ) → IsTrue (has_word types t) → IsSome (port_of m t p)) → ((j : ℕ) → is_member empty j ≡ false) → high ≡ fold max 0 (counts m p (kinds_of types))
    → Some (state_of_port (record { required = empty; possible = made; fresh_low = 0; fresh_high = high })) ≡ whole_links (instances_of made) (ports_under m (kinds_of types) p)
new_port m p types empty made high some fits have none is =
    ap (λ l. Some (record { required = l; possible = instances_of made; fresh_low = 0; fresh_high = high })) (instances_none empty none)
    ∙ ap (λ h. Some (record { required = []; possible = instances_of made; fresh_low = 0; fresh_high = h })) is
    ∙ by (port_of m t p) refl (have t word)
  where
    t : ℕ
    t = trailing_zeros w128 types

    word : IsTrue (has_word types t)
    word = (lowest_type types some fits).1

    by : (o : Option PortAt) → port_of m t p ≡ o → IsSome o
        → Some (record { required = []; possible = instances_of made; fresh_low = 0; fresh_high = fold max 0 (counts m p (kinds_of types)) }) ≡ whole_links (instances_of made) (ports_under m (kinds_of types) p)
    by None found there = absurd (false≢true there)
    by (Some q) found there =
        let at = among_ports m (kinds_of types) p t q (has_kind types t fits ∙ word) found in
        sym (links_of_some (instances_of made) (ports_under m (kinds_of types) p) at.0 q at.1)

-- ---- the table

-- there are as many masks as ids
pub masks_long : {X : Type 0} (f : ℕ → X) (g : ℕ → X) (masks : List ℕ) (n : ℕ) → map f masks ≡ map g (range_with_len 0 n) → length masks ≡ n
masks_long f g masks n same = sym (length-map masks f) ∙ ap length same ∙ length-map-range_with_len g 0 n

module _ (m : Model) (kinds : ℕ) (made : InstanceSet) where
  abbrev pub port_entry : ℕ → Option PortState
  port_entry p = whole_links (instances_of made) (ports_under m (kinds_of kinds) p)

  -- the next port has the next id
  pub port_place : (masks : List ℕ) (i : ℕ) (old : List (Option PortState)) → IsValid m → map kinds_of masks ≡ port_types_of m → old ≡ map port_entry (range_with_len 0 i) → i < length masks
      → (length old ≡ i) × (i < length (first_ports m)) × (i < 256)
  port_place masks i old valid types so_far within =
      let long : length masks ≡ length (first_ports m) = masks_long kinds_of (λ p. leaves_that m (λ t. has_port m t p)) masks (length (first_ports m)) types in
      let few = (valid_has_few m valid).ports in
      (ap length so_far ∙ length-map-range_with_len port_entry 0 i, omega (arith, long, within), omega (arith, long, within, few))

  -- one port more
  pub port_next : (i p types : ℕ) (old new : List (Option PortState)) (port : Option PortState) → old ≡ map port_entry (range_with_len 0 i) → p ≡ i
      → port ≡ whole_links (instances_of made) (ports_under m (kinds_of types) p) → ports_under m (kinds_of types) i ≡ ports_under m (kinds_of kinds) i
      → new ≡ old ++ port ∷ [] → new ≡ map port_entry (range_with_len 0 (i + 1))
  port_next i p types old new port so_far place is same pushed =
      pushed ∙ ap₂ (λ l o. l ++ o ∷ []) so_far (is ∙ ap (λ p. whole_links (instances_of made) (ports_under m (kinds_of types) p)) place ∙ ap (whole_links (instances_of made)) same)
      ∙ sym (map-range_with_len_more port_entry 0 i i (zero-add i))
