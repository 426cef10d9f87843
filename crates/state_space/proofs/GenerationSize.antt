-- A generation lowers the size: what the new instance and the changed ports leave open is less than what one instance counts.
use Rattle.std.proofs.Math.Nat.{suc-mul}
use Rattle.std.proofs.Common.{◌≡◌, ℕ, zero, suc, ◌+◌, ◌-◌, ◌*◌, max, ◌≤◌, ◌<◌, Bool, true, false, not, ◌&&◌, List, [], ◌∷◌, ◌++◌, length, map, refl, ap, sym, ◌∙◌, subst, inl, inr, Some, None, Option, arith, ltb-true, leb-true, zero-le}
use Rattle.std.specs.Prelude.{IsTrue, ◌==◌, nat_lt, nat_le, if◌then◌else◌}
use Rattle.std.specs.Option.{option_map_or, option_map}
use Rattle.std.specs.List.{list_any, filter, fold, sum_by, enumerate_from, range_with_len, cons_option}
use Rattle.std.proofs.lemmas.Bool.{and_parts, or_right, or_left, eq-eqb}
use Rattle.std.proofs.lemmas.List.{length-map, length-append}
use Rattle.std.proofs.lemmas.List.Sums.{sum_by-cons, sum_by-append, length-filter, count_by-le-length}
use Rattle.std.proofs.lemmas.Option.{same_Some, none-some}
use Rattle.prod_model.specs.declared.model.Model.{Model}
use Rattle.prod_model.specs.declared.model.AttrDecl.{AttrDecl}
use Rattle.prod_model.specs.declared.model.PortAt.{PortAt}
use Rattle.prod_model.specs.Limits.{most_links}
use Rattle.prod_model.specs.Forest.{is_a, is_leaf, type_numbers}
use Rattle.prod_model.specs.Taxonomy.{ports_at, port_of}
use Rattle.config_value.specs.Shaped.{ascends}
use Rattle.base_laws.specs.Places.{IsAt}
use Rattle.base_laws.proofs.Tests.{option_map_or_at}
use Rattle.state_space.specs.Made.{MadeInstance, port_of_made}
use Rattle.state_space.specs.Values.{Values, count_of}
use Rattle.state_space.specs.Ports.{PortState, open_links, is_closed, made_here, made_elsewhere}
use Rattle.state_space.specs.Sets.{has_number, with_number}
use Rattle.config_value.specs.Literals.{has_attribute}
use Rattle.state_space.specs.State.{State, IsState, IsMadeOf, IsPortOf, number_made, port_at, leaves_under, first_attributes, first_ports, values_of}
use Rattle.state_space.specs.Root.{new_instance, whole_links, ports_under}
use Rattle.state_space.specs.Generation.{PortOf, can_generate, owes_instance, first_open, open_port_passes, ports_after, target_at, generated_for, generated}
use Rattle.state_space.specs.Size.{size_of, size_of_made}
use Rattle.state_space.specs.Declared.{HasFew}
use Rattle.state_space.proofs.OfIds.{GenerationIsLessOfFew}
use Rattle.domain_store.specs.declared.change.Change.TheVariants.{Smaller}
use Rattle.config_value.specs.declared.literal.Literal.{Literal}
use Rattle.config_value.specs.declared.literal.Literal.TheVariants as literal
use Rattle.state_space.specs.Changes.{ChangesBy}
use Rattle.state_space.specs.Entails.{fits}
use Rattle.state_space.proofs.SearchLaws.{narrows_or_made}
use Rattle.state_space.proofs.SizeLaws.{smaller_is_less}
use Rattle.state_space.proofs.PortLaws.{all_has, below_rest, ascends_rest}
use Rattle.state_space.proofs.EntailsLaws.{port_parts}
use Rattle.state_space.proofs.OpenPort.{find_place}
use Rattle.state_space.proofs.WholeLaws.{map_read}
use Rattle.state_space.proofs.NewLaws.{entry_at}
use Rattle.state_space.proofs.GenerationKept.{enumerated_at}

-- ---- lists

-- a sum of what is at most a bound
sum_most : {X : Type 0} (f : X → ℕ) (most : ℕ) (xs : List X) → ((k : ℕ) (x : X) → IsAt xs k x → f x ≤ most) → sum_by f xs ≤ length xs * most
sum_most f most [] each = zero-le
sum_most f most (x ∷ xs) each =
    let rest = sum_most f most xs (λ k. each (suc k)) in
    let product : suc (length xs) * most ≡ length xs * most + most = suc-mul (length xs) most in
    omega (arith, each 0 x refl, rest, sum_by-cons f x xs, product)

numbered_long : {X : Type 0} (i : ℕ) (xs : List X) → length (enumerate_from i xs) ≡ length xs
numbered_long i [] = refl
numbered_long i (x ∷ xs) = ap suc (numbered_long (i + 1) xs)

range_long : (a n : ℕ) → length (range_with_len a n) ≡ n
range_long a zero = refl
range_long a (suc n) = ap suc (range_long (a + 1) n)

filter_short : (test : ℕ → Bool) (xs : List ℕ) → length (filter test xs) ≤ length xs
filter_short test xs = let count = count_by-le-length test xs in omega (arith, length-filter test xs, count)

-- ascending numbers from one number on and below another are no more than lie between
short_set : (xs : List ℕ) (a b : ℕ) → IsTrue (ascends xs) → a ≤ b → ((k : ℕ) → IsTrue (has_number xs k) → a ≤ k) → ((k : ℕ) → IsTrue (has_number xs k) → k < b) → length xs + a ≤ b
short_set [] a b up order low high = omega (arith, order)
short_set (x ∷ xs) a b up order low high =
    let first = low x (or_left _ _ (eq-eqb x x refl)) in
    let last = high x (or_left _ _ (eq-eqb x x refl)) in
    let rest = short_set xs (suc x) b (ascends_rest x xs up) (omega (arith, last)) (λ k there. let above = below_rest x xs up k there in omega (arith, above))
    (λ k there. high k (or_right _ _ there)) in
    omega (arith, first, rest)

with_short : (k : ℕ) (xs : List ℕ) → length (with_number k xs) ≤ 2 * length xs + 1
with_short k xs =
    let low = filter_short (λ j. nat_lt j k) xs in
    let high = filter_short (λ j. nat_lt k j) xs in
    let both = length-append (filter (λ j. nat_lt j k) xs) (k ∷ filter (λ j. nat_lt k j) xs) in
    omega (arith, low, high, both)

-- ---- ports

open_most : (q : PortState) → open_links q ≤ length q.possible + q.fresh_high
open_most q = let count = count_by-le-length (λ j. not (has_number q.required j)) q.possible in omega (arith, count)

open_or_none : Option PortState → ℕ
open_or_none q = option_map_or open_links q 0

module _ (n : ℕ) (most : n ≤ 256) (q : PortState) (port : IsPortOf n q) where
  few_possible : length q.possible ≤ 256
  few_possible = let short = short_set q.possible 0 n (port_parts q port.formed).possible_ascends zero-le (λ k there. zero-le)
      (λ k there. ltb-true k n (all_has (λ j. nat_lt j n) q.possible k port.to_made there)) in omega (arith, short, most)

  few_later : q.fresh_high ≤ 256
  few_later = let few = leb-true q.fresh_high most_links port.few in omega (arith, few)

  here_few : open_links (made_here n q) ≤ 1000
  here_few = let left = open_most (made_here n q) in let short = with_short n q.possible in omega (arith, left, short, few_possible, few_later)

  elsewhere_few : open_links (made_elsewhere n q) ≤ 1000
  elsewhere_few = by (is_closed q)
    where
      new : PortState
      new = record q { possible = with_number n q.possible; fresh_low = q.fresh_low - 1 }

      by : (b : Bool) → open_links (if b then q else new) ≤ 1000
      by true = let left = open_most q in omega (arith, left, few_possible, few_later)
      by false = let left = open_most new in let short = with_short n q.possible in omega (arith, left, short, few_possible, few_later)

  changed_few : (here : Bool) → open_links ((if here then made_here n else made_elsewhere n) q) ≤ 1000
  changed_few true = here_few
  changed_few false = elsewhere_few

-- ---- instances

-- the links that a port of a type has are few
under_few : (m : Model) → HasFew m → (p : ℕ) (kinds : List ℕ) (k : ℕ) (q : PortAt) → IsAt (ports_under m kinds p) k q → q.high ≤ 256
under_few m few p [] k q at = absurd (none-some q at)
under_few m few p (t ∷ ts) k q at = by (port_of m t p) refl k at (under_few m few p ts)
  where
    by : (o : Option PortAt) → port_of m t p ≡ o → (k : ℕ) → IsAt (cons_option o (ports_under m ts p)) k q
        → ((k : ℕ) (q : PortAt) → IsAt (ports_under m ts p) k q → q.high ≤ 256) → q.high ≤ 256
    by None is k at rest = rest k q at
    by (Some r) is zero at rest =
        let found = find_place (λ r. r.id == p) (ports_at m t) r is in
        subst (λ r. r.high ≤ 256) (same_Some r q at) (few.links t found.0 r found.1)
    by (Some r) is (suc k) at rest = rest k q at

greatest_few : (xs : List ℕ) (a : ℕ) → a ≤ 256 → ((k x : ℕ) → IsAt xs k x → x ≤ 256) → fold max a xs ≤ 256
greatest_few [] a low each = low
greatest_few (x ∷ xs) a low each = let first = each 0 x refl in greatest_few xs (max a x) (omega (arith, low, first)) (λ k. each (suc k))

whole_few : (made : List ℕ) → length made ≤ 257 → (qs : List PortAt) → ((k : ℕ) (q : PortAt) → IsAt qs k q → q.high ≤ 256) → open_or_none (whole_links made qs) ≤ 1000
unfolding open_or_none
whole_few made short [] each = zero-le
whole_few made short (q ∷ qs) each =
    let highs = map (λ (r : PortAt). r.high) (q ∷ qs) in
    let most = greatest_few highs 0 zero-le (λ k x at. let read = map_read (λ (r : PortAt). r.high) (q ∷ qs) k x at in let one = each k read.0 read.1 in omega (arith, one, read.2)) in
    let left = open_most (record { required = []; possible = made; fresh_low = 0; fresh_high = fold max 0 highs }) in
    omega (arith, left, most, short)

module _ (m : Model) (few : HasFew m) where
  new_few : (t n : ℕ) → n ≤ 256 → size_of_made (new_instance m (leaves_under m t) (range_with_len 0 (n + 1))) ≤ 128 + 256 * 2000001 + 256 * 1000
  unfolding open_or_none
  new_few t n most = omega (arith, kinds_short, domains_few, ports_few)
    where
      kinds : List ℕ
      kinds = leaves_under m t

      made : List ℕ
      made = range_with_len 0 (n + 1)

      kinds_short : length kinds ≤ 128
      kinds_short =
          let outer = filter_short (λ u. is_a m u t) (filter (is_leaf m) (type_numbers m.types)) in
          let inner = filter_short (is_leaf m) (type_numbers m.types) in
          omega (arith, outer, inner, range_long 0 (length m.types), few.types)

      domain : ℕ × AttrDecl → Option Values
      domain e = if list_any (λ t. has_attribute m t e.0) kinds then Some (values_of e.1.domain) else None

      domain_few : (k : ℕ) (o : Option Values) → IsAt (map domain (enumerate_from 0 (first_attributes m))) k o → option_map_or count_of o 0 ≤ 2000001
      domain_few k o at =
          let read = map_read domain (enumerate_from 0 (first_attributes m)) k o at in
          let there = enumerated_at 0 (first_attributes m) k read.0 read.1 in
          subst (λ o. option_map_or count_of o 0 ≤ 2000001) (sym read.2) (by (list_any (λ t. has_attribute m t read.0.0) kinds) read.0.1 (few.values k read.0.1 there.1))
        where
          by : (b : Bool) (d : AttrDecl) → count_of (values_of d.domain) ≤ 2000001 → option_map_or count_of (if b then Some (values_of d.domain) else None) 0 ≤ 2000001
          by true d short = short
          by false d short = zero-le

      domains_few : sum_by (λ d. option_map_or count_of d 0) (map domain (enumerate_from 0 (first_attributes m))) ≤ 256 * 2000001
      domains_few =
          let sum = sum_most (λ d. option_map_or count_of d 0) 2000001 (map domain (enumerate_from 0 (first_attributes m))) domain_few in
          let long = length-map (enumerate_from 0 (first_attributes m)) domain in
          omega (arith, sum, long, numbered_long 0 (first_attributes m), few.attributes)

      port : ℕ → Option PortState
      port p = whole_links made (ports_under m kinds p)

      ports_few : sum_by (λ q. option_map_or open_links q 0) (map port (range_with_len 0 (length (first_ports m)))) ≤ 256 * 1000
      ports_few =
          let sum = sum_most (λ q. option_map_or open_links q 0) 1000 (map port (range_with_len 0 (length (first_ports m)))) (λ k o at.
          let read = map_read port (range_with_len 0 (length (first_ports m))) k o at in
          subst (λ o. option_map_or open_links o 0 ≤ 1000) (sym read.2)
          (whole_few made (omega (arith, range_long 0 (n + 1), most)) (ports_under m kinds read.0) (under_few m few read.0 kinds))) in
          let long = length-map (range_with_len 0 (length (first_ports m))) port in
          omega (arith, sum, long, range_long 0 (length (first_ports m)), few.ports)

  -- what a generation adds to an instance
  grown_few : (n : ℕ) → n ≤ 256 → (at : PortOf) (j : ℕ) (x : MadeInstance) → IsMadeOf m n x
      → size_of_made (record x { ports = ports_after n at j x.ports }) ≤ size_of_made x + 256000
  grown_few n most at j x made = omega (arith, ports_few)
    where
      change : ℕ × Option PortState → Option PortState
      change e = option_map (if (j == at.instance) && (e.0 == at.port) then made_here n else made_elsewhere n) e.1

      port_few : (k : ℕ) (o : Option PortState) → IsAt (map change (enumerate_from 0 x.ports)) k o → option_map_or open_links o 0 ≤ 1000
      port_few k o there =
          let read = map_read change (enumerate_from 0 x.ports) k o there in
          let stands = enumerated_at 0 x.ports k read.0 read.1 in
          subst (λ o. option_map_or open_links o 0 ≤ 1000) (sym read.2) (by ((j == at.instance) && (read.0.0 == at.port)) read.0.1 (entry_at x.ports k read.0.1 stands.1))
        where
          by : (here : Bool) (o : Option PortState) → port_of_made x k ≡ o → option_map_or open_links (option_map (if here then made_here n else made_elsewhere n) o) 0 ≤ 1000
          by here None is = zero-le
          by here (Some q) is = changed_few n most q (made.ports k q is) here

      ports_few : sum_by (λ q. option_map_or open_links q 0) (map change (enumerate_from 0 x.ports)) ≤ 256000
      ports_few =
          let sum = sum_most (λ q. option_map_or open_links q 0) 1000 (map change (enumerate_from 0 x.ports)) port_few in
          let long = length-map (enumerate_from 0 x.ports) change in
          omega (arith, sum, long, numbered_long 0 x.ports, made.each_port, few.ports)

-- what it adds to all of them
all_grown : (change : ℕ × MadeInstance → MadeInstance) (i : ℕ) (xs : List MadeInstance)
    → ((k : ℕ) (x : MadeInstance) → IsAt xs k x → (j : ℕ) → size_of_made (change (j, x)) ≤ size_of_made x + 256000)
    → sum_by size_of_made (map change (enumerate_from i xs)) ≤ sum_by size_of_made xs + 256000 * length xs
all_grown change i [] each = zero-le
all_grown change i (x ∷ xs) each =
    let rest = all_grown change (i + 1) xs (λ k. each (suc k)) in
    omega (arith, each 0 x refl i, rest, sum_by-cons size_of_made x xs, sum_by-cons size_of_made (change (i, x)) (map change (enumerate_from (i + 1) xs)))

-- ---- the law

pub generation_is_less_of_few : GenerationIsLessOfFew
unfolding generated size_of
generation_is_less_of_few m s few state can =
    let both = and_parts (nat_lt (number_made s) m.instances) (open_port_passes m s (λ q. nat_le 1 q.fresh_high)) can in
    let found = option_map_or_at (λ at. option_map_or (λ q. nat_le 1 q.fresh_high) (port_at s at.instance at.port) false) (first_open m s) both.1 in
    subst (λ o. size_of m (option_map_or (generated_for m s) o s) < size_of m s) (sym found.1) (less found.0 (ltb-true (number_made s) m.instances both.0))
  where
    less : (at : PortOf) → number_made s < m.instances → size_of m (generated_for m s at) < size_of m s
    less at room = omega (arith, room, rest_is, sum, grown, new)
      where
        n : ℕ
        n = number_made s

        most : n ≤ 256
        most = omega (arith, room, few.instances)

        change : ℕ × MadeInstance → MadeInstance
        change e = record e.1 { ports = ports_after n at e.0 e.1.ports }

        old : List MadeInstance
        old = map change (enumerate_from 0 s.made)

        one : MadeInstance
        one = new_instance m (leaves_under m (target_at m s at)) (range_with_len 0 (n + 1))

        long : length (old ++ one ∷ []) ≡ n + 1
        long = length-append old (one ∷ []) ∙ ap (λ k. k + 1) (length-map (enumerate_from 0 s.made) change ∙ numbered_long 0 s.made)

        rest_is : m.instances - n ≡ (m.instances - length (old ++ one ∷ [])) + 1
        rest_is = omega (arith, room, long)

        sum : sum_by size_of_made (old ++ one ∷ []) ≡ sum_by size_of_made old + size_of_made one
        sum = let last = sum_by-cons size_of_made one [] in let both = sum_by-append size_of_made old (one ∷ []) in omega (arith, last, both)

        grown : sum_by size_of_made old ≤ sum_by size_of_made s.made + 256000 * 256
        grown = let all = all_grown change 0 s.made (λ k x there j. grown_few m few n most at j x (state.each k x there)) in omega (arith, all, most)

        new : size_of_made one ≤ 128 + 256 * 2000001 + 256 * 1000
        new = new_few m few (target_at m s at) n most

pub fitting_is_less_of_few : (m : Model) (l : Literal) (old new : State) → HasFew m → IsState m old → IsTrue (fits m old l) → ChangesBy m l Smaller old new → size_of m new < size_of m old
unfolding fits
fitting_is_less_of_few m l old new few state fit changes = elim (narrows_or_made l) [
  | inl narrows ↦ smaller_is_less m l old new narrows changes
  | inr made ↦ by made.0 (subst (λ k. IsTrue (fits m old k)) made.1 fit) (subst (λ k. ChangesBy m k Smaller old new) made.1 changes)
]
  where
    by : (i : ℕ) → IsTrue (fits m old (literal.Made i)) → ChangesBy m (literal.Made i) Smaller old new → size_of m new < size_of m old
    by i fit changes =
        let both = and_parts ((i == number_made old) && can_generate m old) (owes_instance m old) fit in
        let first = and_parts (i == number_made old) (can_generate m old) both.0 in
        subst (λ s. size_of m s < size_of m old) (sym changes.1) (generation_is_less_of_few m old few state first.1)
