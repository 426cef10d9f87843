-- Narrowings of what a port may link.
use Rattle.std.proofs.Common.{◌≡◌, ℕ, ◌+◌, ◌-◌, ◌<◌, ◌≤◌, ◌∙◌, ap, ap₂, sym, not, ◌&&◌, ◌||◌, ◌==◌, nat_lt, Bool, true, false, cond, refl, inl, inr, List, [], ◌∷◌, length, arith, le-ltb, eq-eqb}
use Rattle.std.specs.Prelude.{nat_le, IsTrue}
use Rattle.std.specs.List.{list_all, filter, range_with_len}
use Rattle.std.proofs.lemmas.Bool.{cases_lt, false≢true, and_from}
use Rattle.std.proofs.lemmas.Bool.Decides.{nat_tests}
use Rattle.std.proofs.lemmas.List.Sums.{length-filter}
use Rattle.config_value.specs.Shaped.{ascends}
use Rattle.domain_store.specs.declared.change.Change.{Change}
use Rattle.domain_store.specs.declared.change.Change.TheVariants.{Smaller}
use Rattle.instance_set.specs.declared.set.InstanceSet.{InstanceSet}
use Rattle.instance_set.specs.InstanceSets.{is_member, members}
use Rattle.port_wildcards.specs.declared.port_domain.PortDomain.{PortDomain}
use Rattle.port_wildcards.specs.Ports as stored
use Rattle.port_wildcards.specs.Ports.{IsPort, Gains, Loses, with_required, with_possible, with_fresh}
use Rattle.state_space.specs.Sets.{has_number}
use Rattle.state_space.specs.Ports.{PortLinks, allows, is_port, open_links, NarrowsLinks}
use Rattle.partial_state.specs.Masks.{instances_of}
use Rattle.partial_state.specs.Views.{state_of_port}
use Rattle.partial_state.proofs.Numbers.{has_passing, fewer_or_same, passing_ascend}

-- the list of a set has its members
pub has_instance : (s : InstanceSet) (j : ℕ) → has_number (instances_of s) j ≡ is_member s j
unfolding instances_of
has_instance s j = has_passing (is_member s) 0 256 j (omega arith) ∙ by (nat_lt j 256) (is_member s j) (λ off. gone off)
  where
    gone : nat_lt j 256 ≡ false → is_member s j ≡ false
    gone off = rw off refl

    by : (b c : Bool) → (b ≡ false → c ≡ false) → (b && c) ≡ c
    by true c f = refl
    by false c f = sym (f refl)

all_same : {X : Type 0} (p q : X → Bool) → ((x : X) → p x ≡ q x) → (xs : List X) → list_all p xs ≡ list_all q xs
all_same p q same [] = refl
all_same p q same (x ∷ xs) = ap₂ ◌&&◌ (same x) (all_same p q same xs)

all_passing : (p t : ℕ → Bool) → ((k : ℕ) → IsTrue (p k) → IsTrue (t k)) → (xs : List ℕ) → IsTrue (list_all t (filter p xs))
all_passing p t within [] = refl
all_passing p t within (x ∷ xs) = by (p x) refl (all_passing p t within xs)
  where
    by : (b : Bool) → p x ≡ b → IsTrue (list_all t (filter p xs)) → IsTrue (list_all t (cond b (x ∷ filter p xs) (filter p xs)))
    by true e rest = and_from (t x) (list_all t (filter p xs)) (within x e) rest
    by false e rest = rest

-- a stored port allows the links that its state allows
pub allows_same : (q : PortDomain) (l : PortLinks) → allows (state_of_port q) l ≡ stored.allows q (record { to_made = l.to_made; later = l.later })
unfolding instances_of stored.allows
allows_same q l = regroup (list_all (has_number l.to_made) (members q.required)) (list_all (has_number (members q.possible)) l.to_made) (list_all (is_member q.possible) l.to_made)
    (nat_le q.fresh_low l.later && nat_le l.later q.fresh_high) (all_same (has_number (members q.possible)) (is_member q.possible) (has_instance q.possible) l.to_made)
  where
    regroup : (a b c d : Bool) → b ≡ c → ((a && b) && d) ≡ (a && (c && d))
    regroup true b c d e = ap (λ x. x && d) e
    regroup false b c d e = refl

-- a port of the store is one of a state
pub port_formed : (q : PortDomain) → IsPort q → IsTrue (is_port (state_of_port q))
unfolding instances_of
port_formed q formed =
    and_from (ascends (members q.required) && ascends (members q.possible) && list_all (has_number (members q.possible)) (members q.required)) (nat_le q.fresh_low q.fresh_high)
    (and_from (ascends (members q.required) && ascends (members q.possible)) (list_all (has_number (members q.possible)) (members q.required))
    (and_from (ascends (members q.required)) (ascends (members q.possible)) (passing_ascend (is_member q.required) 0 256) (passing_ascend (is_member q.possible) 0 256))
    (all_passing (is_member q.required) (has_number (members q.possible)) (λ k is. has_instance q.possible k ∙ formed.within k is) (range_with_len 0 256)))
    (le_true q.fresh_low q.fresh_high formed.ordered)
  where
    le_true : (a b : ℕ) → a ≤ b → nat_le a b ≡ true
    le_true a b h = grind (arith, nat_tests)

-- ---- how much is open

-- an instance is possible and not required
abbrev is_open : PortDomain → ℕ → Bool
is_open q k = is_member q.possible k && not (is_member q.required k)

filtered_twice : (p t : ℕ → Bool) (xs : List ℕ) → filter t (filter p xs) ≡ filter (λ k. p k && t k) xs
filtered_twice p t [] = refl
filtered_twice p t (x ∷ xs) = by (p x) (t x) refl (filtered_twice p t xs)
  where
    by : (b c : Bool) → t x ≡ c → filter t (filter p xs) ≡ filter (λ k. p k && t k) xs
        → filter t (cond b (x ∷ filter p xs) (filter p xs)) ≡ cond (b && c) (x ∷ filter (λ k. p k && t k) xs) (filter (λ k. p k && t k) xs)
    by true true e rest = ap (λ d. cond d (x ∷ filter t (filter p xs)) (filter t (filter p xs))) e ∙ ap (λ ys. x ∷ ys) rest
    by true false e rest = ap (λ d. cond d (x ∷ filter t (filter p xs)) (filter t (filter p xs))) e ∙ rest
    by false c e rest = rest

filter_alike : (p q : ℕ → Bool) → ((k : ℕ) → p k ≡ q k) → (xs : List ℕ) → filter p xs ≡ filter q xs
filter_alike p q same [] = refl
filter_alike p q same (x ∷ xs) = ap₂ (λ b ys. cond b (x ∷ ys) ys) (same x) (filter_alike p q same xs)

open_count : (q : PortDomain) → open_links (state_of_port q) ≡ length (filter (is_open q) (range_with_len 0 256)) + (q.fresh_high - q.fresh_low)
unfolding instances_of
open_count q =
    ap (λ n. n + (q.fresh_high - q.fresh_low))
    (sym (length-filter (λ j. not (has_number (members q.required) j)) (filter (is_member q.possible) (range_with_len 0 256)))
    ∙ ap length (filtered_twice (is_member q.possible) (λ j. not (has_number (members q.required) j)) (range_with_len 0 256)
    ∙ filter_alike (λ k. is_member q.possible k && not (has_number (members q.required) k)) (is_open q)
    (λ k. ap (λ b. is_member q.possible k && not b) (has_instance q.required k)) (range_with_len 0 256)))

member_below : (s : InstanceSet) (j : ℕ) → IsTrue (is_member s j) → j < 256
member_below s j is = elim (cases_lt j 256) [
  | inl below ↦ below
  | inr past ↦ absurd (false≢true (sym (rw (le-ltb j 256 past) refl) ∙ is))
]

-- a port with the same bounds, fewer open instances, and one of them gone, leaves less open
fewer_open : (old new : PortDomain) (j : ℕ) → new.fresh_low ≡ old.fresh_low → new.fresh_high ≡ old.fresh_high → j < 256
    → ((k : ℕ) → IsTrue (is_open new k) → IsTrue (is_open old k)) → is_open old j ≡ true → is_open new j ≡ false
    → open_links (state_of_port new) < open_links (state_of_port old)
fewer_open old new j low high below within before after =
    let bounds : new.fresh_high - new.fresh_low ≡ old.fresh_high - old.fresh_low = ap₂ (λ a b. a - b) high low in
    elim (fewer_or_same (is_open old) (is_open new) within 0 256) [
      | inl less ↦ omega (arith, less, open_count old, open_count new, bounds)
      | inr agree ↦ absurd (false≢true (sym after ∙ sym (agree j (omega arith) (omega arith)) ∙ before))
    ]

pub fewer_required : (old new : PortDomain) (j : ℕ) → IsTrue (is_member old.possible j) → is_member old.required j ≡ false
    → Gains j old.required new.required → new ≡ with_required new.required old → open_links (state_of_port new) < open_links (state_of_port old)
fewer_required old new j possible out gains others =
    fewer_open old new j (ap (λ q. q.fresh_low) others) (ap (λ q. q.fresh_high) others) (member_below old.possible j possible)
    (λ k is. within (is_member new.possible k) (is_member old.possible k) (is_member new.required k) (is_member old.required k) (k == j) (ap (λ q. is_member q.possible k) others) (gains k) is)
    (both (is_member old.possible j) (is_member old.required j) possible out)
    (none (is_member new.possible j) (is_member new.required j) (is_member old.required j) (j == j) (gains j) (eq-eqb j j refl))
  where
    within : (a b c d e : Bool) → a ≡ b → c ≡ (d || e) → IsTrue (a && not c) → IsTrue (b && not d)
    within true true true d e f g is = absurd (false≢true is)
    within true true false true e f g is = absurd (false≢true g)
    within true true false false e f g is = refl
    within true false c d e f g is = absurd (false≢true (sym f))
    within false b c d e f g is = absurd (false≢true is)

    both : (a b : Bool) → a ≡ true → b ≡ false → (a && not b) ≡ true
    both true true f g = absurd (false≢true (sym g))
    both true false f g = refl
    both false b f g = absurd (false≢true f)

    none : (a b c d : Bool) → b ≡ (c || d) → d ≡ true → (a && not b) ≡ false
    none true true c d f g = refl
    none true false true d f g = absurd (false≢true f)
    none true false false true f g = absurd (false≢true f)
    none true false false false f g = absurd (false≢true g)
    none false b c d f g = refl

pub fewer_possible : (old new : PortDomain) (j : ℕ) → IsTrue (is_member old.possible j) → is_member old.required j ≡ false
    → Loses j old.possible new.possible → new ≡ with_possible new.possible old → open_links (state_of_port new) < open_links (state_of_port old)
fewer_possible old new j possible out loses others =
    fewer_open old new j (ap (λ q. q.fresh_low) others) (ap (λ q. q.fresh_high) others) (member_below old.possible j possible)
    (λ k is. within (is_member new.possible k) (is_member old.possible k) (is_member new.required k) (is_member old.required k) (k == j) (loses k) (ap (λ q. is_member q.required k) others) is)
    (both (is_member old.possible j) (is_member old.required j) possible out)
    (none (is_member new.possible j) (is_member old.possible j) (is_member new.required j) (j == j) (loses j) (eq-eqb j j refl))
  where
    within : (a b c d e : Bool) → a ≡ (b && not e) → c ≡ d → IsTrue (a && not c) → IsTrue (b && not d)
    within true true true d e f g is = absurd (false≢true is)
    within true true false true e f g is = absurd (false≢true g)
    within true true false false e f g is = refl
    within true false c d e f g is = absurd (false≢true (sym f))
    within false b c d e f g is = absurd (false≢true is)

    both : (a b : Bool) → a ≡ true → b ≡ false → (a && not b) ≡ true
    both true true f g = absurd (false≢true (sym g))
    both true false f g = refl
    both false b f g = absurd (false≢true f)

    none : (a b c d : Bool) → a ≡ (b && not d) → d ≡ true → (a && not c) ≡ false
    none true true c true f g = absurd (false≢true (sym f))
    none true true c false f g = absurd (false≢true g)
    none true false c d f g = absurd (false≢true (sym f))
    none false b c d f g = refl

-- narrower bounds leave less open
pub fewer_fresh : (old new : PortDomain) (low high : ℕ) → new ≡ with_fresh low high old → high - low < old.fresh_high - old.fresh_low
    → open_links (state_of_port new) < open_links (state_of_port old)
fewer_fresh old new low high others less =
    let count : length (filter (is_open new) (range_with_len 0 256)) ≡ length (filter (is_open old) (range_with_len 0 256)) =
    ap (λ q. length (filter (is_open q) (range_with_len 0 256))) others in
    let bounds : new.fresh_high - new.fresh_low ≡ high - low = ap (λ q. q.fresh_high - q.fresh_low) others in
    omega (arith, open_count old, open_count new, count, bounds, less)

-- a narrowing of a stored port is one of its state, where a smaller one leaves less open
pub links_narrowed : (old new : PortDomain) (test : PortLinks → Bool) (result : Change)
    → stored.NarrowsLinks (λ l. test (record { to_made = l.to_made; later = l.later })) result old new
    → (result ≡ Smaller → open_links (state_of_port new) < open_links (state_of_port old))
    → NarrowsLinks test result (state_of_port old) (state_of_port new)
links_narrowed old new test result given fewer = record {
  narrows = record {
    empty = (
      λ e l is. given.empty.0 e (record { to_made = l.to_made; later = l.later }) (sym (allows_same old l) ∙ is),
      λ none. given.empty.1 (λ l is. none (record { to_made = l.to_made; later = l.later }) (allows_same old (record { to_made = l.to_made; later = l.later }) ∙ is)),
    );
    same = (
      λ e l is. given.same.0 e (record { to_made = l.to_made; later = l.later }) (sym (allows_same old l) ∙ is),
      λ all. given.same.1 (λ l is. all (record { to_made = l.to_made; later = l.later }) (allows_same old (record { to_made = l.to_made; later = l.later }) ∙ is)),
    );
    unchanged = λ other. ap state_of_port (given.unchanged other);
    narrowed = λ other l.
        allows_same new l ∙ given.narrowed other (record { to_made = l.to_made; later = l.later }) ∙ ap (λ b. b && test l) (sym (allows_same old l));
  };
  fewer = fewer;
}
