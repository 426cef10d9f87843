-- Opposite literals of what is left open are a choice between two.
use Rattle.std.proofs.Common.{◌≡◌, ℕ, suc, ◌+◌, ◌<◌, ◌≤◌, ℤ, pos, ◌+ℤ◌, Bool, false, not, ◌&&◌, [], ◌∷◌, length, refl, ap, sym, ◌∙◌, inl, inr, Some, None, Option, slice_get, arith, lt-ltb, ltb-true}
use Rattle.std.specs.Prelude.{IsTrue, ◌==◌, nat_lt, nat_le, int_le, int_lt, if◌then◌else◌}
use Rattle.std.specs.Option.{option_map_or, option_and_then}
use Rattle.std.specs.List.{list_all, list_any, count_by}
use Rattle.std.proofs.lemmas.Bool.{and_parts, and_from, or_left, eq-eqb, false≢true, false_from_ne_true, not_from_false}
use Rattle.std.proofs.lemmas.Bool.Decides.{nat_tests}
use Rattle.std.proofs.lemmas.Int.{ints}
use Rattle.std.proofs.lemmas.Option.{slice_get_within, slice_get_cases}
use Rattle.base_laws.specs.Places.{IsAt}
use Rattle.prod_model.specs.declared.model.Model.{Model}
use Rattle.prod_model.specs.Forest.{is_a, is_leaf, line_within}
use Rattle.config_value.specs.declared.literal.Literal.TheVariants as literal
use Rattle.config_value.specs.Literals.{has_attribute, has_port}
use Rattle.state_space.specs.Made.{MadeInstance, domain_of, port_of_made}
use Rattle.state_space.specs.Values.{Values, least, greatest}
use Rattle.state_space.specs.Ports.{PortState, is_closed}
use Rattle.state_space.specs.Sets.{has_number}
use Rattle.state_space.specs.State.{State, IsState, number_made, kinds_at, domain_at, port_at}
use Rattle.state_space.specs.Entails.{entails, fits, opposite, all_kinds, has_domain_that, has_port_that, all_have_port}
use Rattle.state_space.proofs.ChangeLaws.{opposite_holds}
use Rattle.state_space.proofs.PortLaws.{all_has, count_by-none}
use Rattle.state_space.proofs.EntailsLaws.{port_parts}
use Rattle.state_space.proofs.DescriptionLaws.{under_leaf, port_is}
use Rattle.branch_cut.specs.declared.branch.Branch.{Branch}
use Rattle.branch_cut.specs.Branching.{IsBranch}
use Rattle.branch_cut.specs.Laws.{KindsBranch, ValuesBranch, LinksBranch, LaterBranch}

-- opposites that fit, of which neither is entailed, are a choice
by_opposites : (m : Model) (s : State) (b : Branch) → IsState m s → opposite b.first ≡ Some b.second
    → IsTrue (fits m s b.first) → IsTrue (fits m s b.second) → entails m s b.first ≡ false → entails m s b.second ≡ false → IsBranch m s b
by_opposites m s b state opposites first second open_first open_second = record {
  choice = λ c h satisfied. opposite_holds m s b.first b.second c state first opposites h;
  fits = and_from (fits m s b.first) (fits m s b.second) first second;
  unknown = and_from _ _ (not_from_false _ open_first) (not_from_false _ open_second);
}

-- ---- types

-- an instance that may be of a type is made
pub made_with : (s : State) (i t : ℕ) → IsTrue (has_number (kinds_at s i) t) → (x : MadeInstance) × IsAt s.made i x × (kinds_at s i ≡ x.kinds)
made_with s i t has = by _ refl has
  where
    by : (o : Option MadeInstance) → slice_get s.made i ≡ o → IsTrue (has_number (option_map_or (λ x. x.kinds) o []) t) → (x : MadeInstance) × IsAt s.made i x × (kinds_at s i ≡ x.kinds)
    by None is has = absurd (false≢true has)
    by (Some x) is has = (x, is, ap (λ o. option_map_or (λ x. x.kinds) o []) is)

-- a test of each possible type of an instance
pub all_kinds_at : (s : State) (i : ℕ) (x : MadeInstance) (test : ℕ → Bool) → IsAt s.made i x → all_kinds s i test ≡ list_all test x.kinds
all_kinds_at s i x test at = ap (λ o. option_map_or (λ x. list_all test x.kinds) o false) at

-- where a possible type fails, not all pass
kind_fails : (s : State) (i t : ℕ) (test : ℕ → Bool) → IsTrue (has_number (kinds_at s i) t) → test t ≡ false → all_kinds s i test ≡ false
kind_fails s i t test has fails =
    let found = made_with s i t has in
    false_from_ne_true _ (λ all. false≢true (sym fails ∙ all_has test found.0.kinds t (sym (all_kinds_at s i found.0 test found.1) ∙ all) (ap (λ ks. has_number ks t) (sym found.2) ∙ has)))

-- a possible type is a leaf
pub leaf_at : (m : Model) (s : State) (i t : ℕ) → IsState m s → IsTrue (has_number (kinds_at s i) t) → IsTrue (is_leaf m t)
leaf_at m s i t state has =
    let found = made_with s i t has in
    all_has (is_leaf m) found.0.kinds t (state.each i found.0 found.1).leaves (ap (λ ks. has_number ks t) (sym found.2) ∙ has)

-- a leaf is under itself
leaf_itself : (m : Model) (t : ℕ) → IsTrue (is_leaf m t) → IsTrue (is_a m t t)
unfolding is_leaf is_a
leaf_itself m t leaf = elim (slice_get_cases m.types t).1 [
  | inl w ↦
      ap (λ o. list_any (λ v. v == t) (option_map_or (λ d. t ∷ option_map_or (line_within (length m.types) m.types) d.parent []) o [])) w.2
      ∙ or_left _ _ (eq-eqb t t refl)
  | inr w ↦ absurd (let type : t < length m.types = ltb-true t (length m.types) (and_parts _ _ leaf).0 in omega (arith, type, w.0))
]

pub kinds_branch : KindsBranch
unfolding fits entails
kinds_branch m s i t u state has other apart =
    let made : i < number_made s = let found = made_with s i t has in slice_get_within s.made i found.0 found.1 in
    let away : is_a m u t ≡ false = false_from_ne_true _ (λ under. apart (sym (under_leaf m t u (leaf_at m s i t state has) under))) in
    by_opposites m s (record { first = literal.Kind i t; second = literal.NotKind i t }) state refl (lt-ltb i (number_made s) made) (lt-ltb i (number_made s) made)
    (kind_fails s i u (λ v. is_a m v t) other away)
    (kind_fails s i t (λ v. not (is_a m v t)) has (ap not (leaf_itself m t (leaf_at m s i t state has))))

-- ---- values

-- where the domain fails, the test of it fails
domain_fails : (m : Model) (s : State) (i a : ℕ) (d : Values) (test : Values → Bool) → domain_at s i a ≡ Some d → test d ≡ false → has_domain_that m s i a test ≡ false
domain_fails m s i a d test is fails = by (slice_get s.made i) is
  where
    by : (o : Option MadeInstance) → option_and_then (λ x. domain_of x a) o ≡ Some d
        → option_map_or (λ (x : MadeInstance). list_all (λ t. has_attribute m t a) x.kinds && option_map_or test (domain_of x a) false) o false ≡ false
    by None is = refl
    by (Some x) is = false_from_ne_true _ (λ passes. false≢true
        (sym fails ∙ (ap (λ o. option_map_or test o false) (sym is) ∙ (and_parts (list_all (λ t. has_attribute m t a) x.kinds) (option_map_or test (domain_of x a) false) passes).1)))

pub values_branch : ValuesBranch
unfolding fits entails
values_branch m s i a d v state has is low high =
    by_opposites m s (record { first = literal.AtMost i a v; second = literal.AtLeast i a (v +ℤ pos 1) }) state refl has has
    (domain_fails m s i a d (λ d. int_le (greatest d) v) is (below v (greatest d) high))
    (domain_fails m s i a d (λ d. int_le (v +ℤ pos 1) (least d)) is (above v (least d) low))
  where
    below : (v g : ℤ) → IsTrue (int_lt v g) → int_le g v ≡ false
    below v g less = grind (arith, ints, less)

    above : (v l : ℤ) → IsTrue (int_le l v) → int_le (v +ℤ pos 1) l ≡ false
    above v l less = grind (arith, ints, less)

-- ---- links

-- where the port fails, the test of it fails
pub port_fails : (m : Model) (s : State) (i p : ℕ) (q : PortState) (test : PortState → Bool) → port_at s i p ≡ Some q → test q ≡ false → has_port_that m s i p test ≡ false
port_fails m s i p q test is fails = by (slice_get s.made i) is
  where
    by : (o : Option MadeInstance) → option_and_then (λ x. port_of_made x p) o ≡ Some q
        → option_map_or (λ (x : MadeInstance). list_all (λ t. has_port m t p) x.kinds && option_map_or test (port_of_made x p) false) o false ≡ false
    by None is = refl
    by (Some x) is = false_from_ne_true _ (λ passes. false≢true
        (sym fails ∙ (ap (λ o. option_map_or test o false) (sym is) ∙ (and_parts (list_all (λ t. has_port m t p) x.kinds) (option_map_or test (port_of_made x p) false) passes).1)))

pub links_branch : LinksBranch
unfolding fits entails
links_branch m s i p j q state has is possible open_link =
    let made : IsTrue (nat_lt j (number_made s)) = all_has (λ j. nat_lt j (number_made s)) q.possible j (port_is m s i p q state is).to_made possible in
    let there = and_from (all_have_port m s i p) (nat_lt j (number_made s)) has made in
    by_opposites m s (record { first = literal.Linked i p j; second = literal.NotLinked i p j }) state refl there there
    (port_fails m s i p q (λ q. has_number q.required j) is open_link)
    (port_fails m s i p q (λ q. if nat_lt j (number_made s) then not (has_number q.possible j) else is_closed q) is
    (ap (λ b. if b then not (has_number q.possible j) else is_closed q) made ∙ ap not possible))

pub later_branch : LaterBranch
unfolding fits entails
later_branch m s i p n q state has is low high =
    let made = number_made s in
    let there = and_from (all_have_port m s i p) (made == made) has (eq-eqb made made refl) in
    by_opposites m s (record { first = literal.FreshAtLeast i p made (n + 1); second = literal.FreshAtMost i p made n }) state (opposite_least i p made n) there there
    (port_fails m s i p q (λ q. nat_le (n + 1) (count_by (nat_le made) q.required + (if nat_le made made then q.fresh_low else 0))) is least_open)
    (port_fails m s i p q (λ q. nat_le (count_by (nat_le made) q.possible + q.fresh_high) n) is (past n (count_by (nat_le made) q.possible) q.fresh_high high))
  where
    opposite_least : (i p made n : ℕ) → opposite (literal.FreshAtLeast i p made (n + 1)) ≡ Some (literal.FreshAtMost i p made n)
    opposite_least i p made n = let next : n + 1 ≡ suc n = omega arith in ap (λ k. opposite (literal.FreshAtLeast i p made k)) next

    past : (n k high : ℕ) → n < high → nat_le (k + high) n ≡ false
    past n k high less = grind (arith, nat_tests, less)

    none_later : count_by (nat_le (number_made s)) q.required ≡ 0
    none_later = count_by-none (nat_le (number_made s)) q.required (λ k there.
        let possible = all_has (has_number q.possible) q.required k (port_parts q (port_is m s i p q state is).formed).within there in
        let made = all_has (λ j. nat_lt j (number_made s)) q.possible k (port_is m s i p q state is).to_made possible in
        grind (arith, nat_tests, made))

    least_from : (n k low made : ℕ) → k ≡ 0 → low ≤ n → nat_le (n + 1) (k + (if nat_le made made then low else 0)) ≡ false
    least_from n k low made none less = grind (arith, nat_tests, none, less)

    least_open : nat_le (n + 1) (count_by (nat_le (number_made s)) q.required + (if nat_le (number_made s) (number_made s) then q.fresh_low else 0)) ≡ false
    least_open = least_from n _ q.fresh_low (number_made s) none_later low
