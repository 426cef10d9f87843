-- Parts of the law of generation: which instance the first open port links, and what the ports still allow.
use Rattle.std.proofs.Common.{◌≡◌, ◌≢◌, ◌⊎◌, ℕ, zero, suc, ◌+◌, ◌-◌, ◌≤◌, ◌<◌, Bool, true, false, not, cond, ◌&&◌, ◌||◌, List, [], ◌∷◌, ◌++◌, length, map, refl, ap, sym, ◌∙◌, subst, inl, inr, Some, None, arith, ltb-true, lt-ltb, leb-true, le-leb, le_refl}
use Rattle.std.specs.Prelude.{IsTrue, ◌==◌, nat_lt, nat_le, if◌then◌else◌}
use Rattle.std.specs.Option.{option_map_or}
use Rattle.std.specs.List.{list_any, filter, count_by, position, position_or_len}
use Rattle.std.proofs.lemmas.Bool.{and_parts, and_from, or_cases, or_left, or_right, eqb-true, eq-eqb, false≢true, false_from_ne_true}
use Rattle.std.proofs.lemmas.Bool.Decides.{nat_tests, eqb_tells}
use Rattle.std.proofs.lemmas.Option.{same_Some, none-some}
use Rattle.base_laws.proofs.Tests.{position_map, option_map_or_at}
use Rattle.base_laws.proofs.Ranges.{list_all_below}
use Rattle.config_value.specs.declared.configuration.Instance.{Instance}
use Rattle.config_value.specs.Shaped.{ascends}
use Rattle.config_value.specs.Numbered.{all_links, mention, is_mentioned_lower, is_mentioned_before, is_in_turn, is_numbered}
use Rattle.state_space.specs.Ports.{PortState, parted, allows, is_closed, made_here, made_elsewhere}
use Rattle.state_space.specs.Sets.{has_number, with_number}
use Rattle.state_space.proofs.PortLaws.{all_has, all_from_has, has_number-filter, count_by-member, below_rest, ascends_rest, one, counted}
use Rattle.state_space.proofs.EntailsLaws.{IsAllowed, allowed_parts}

-- ---- first mentions

-- one instance is first mentioned before another
record IsMentionedBefore (c : List Instance) (a b : ℕ) : Type 0 where
  pub first : ℕ
  pub second : ℕ
  pub at_first : mention c a ≡ Some first
  pub at_second : mention c b ≡ Some second
  pub less : first < second

mentioned_before : (c : List Instance) (a b : ℕ) → IsTrue (is_mentioned_before c a b) → IsMentionedBefore c a b
mentioned_before c a b h =
    let p = option_map_or_at (λ p. option_map_or (λ q. nat_lt p q) (mention c b) false) (mention c a) h in
    let q = option_map_or_at (λ q. nat_lt p.0 q) (mention c b) p.2 in
    record { first = p.0; second = q.0; at_first = p.1; at_second = q.1; less = ltb-true p.0 q.0 q.2 }

-- in a numbered configuration each instance from 2 on is mentioned after the one before it
next_mentioned : (c : List Instance) (k : ℕ) → IsTrue (is_numbered c) → suc (suc k) < length c → IsMentionedBefore c (suc k) (suc (suc k))
unfolding is_numbered
next_mentioned c k numbered within =
    let turn : IsTrue (is_in_turn c (1 + suc k)) = list_all_below (is_in_turn c) 1 (length c - 1) (suc k) numbered (omega (arith, within)) in
    let number : 1 + suc k ≡ suc (suc k) = omega arith in
    let turn' : IsTrue (is_in_turn c (suc (suc k))) = subst (λ n. IsTrue (is_in_turn c n)) number turn in
    let both = and_parts (is_mentioned_lower c (suc (suc k))) ((suc (suc k) == 1) || is_mentioned_before c (suc (suc k) - 1) (suc (suc k))) turn' in
    let less : suc (suc k) - 1 ≡ suc k = omega arith in
    elim (or_cases (suc (suc k) == 1) (is_mentioned_before c (suc (suc k) - 1) (suc (suc k))) both.1) [
      | inl is ↦ absurd (two k (eqb-true (suc (suc k)) 1 is))
      | inr before ↦ mentioned_before c (suc k) (suc (suc k)) (subst (λ n. IsTrue (is_mentioned_before c n (suc (suc k)))) less before)
    ]
  where
    two : (k : ℕ) → suc (suc k) ≡ 1 → ⊥
    two k is = omega (arith, is)

-- so a lower instance, from 1 on, is mentioned before a higher one
lower_first : (c : List Instance) → IsTrue (is_numbered c) → (a d : ℕ) → suc a + suc d < length c → IsMentionedBefore c (suc a) (suc a + suc d)
lower_first c numbered a zero within =
    let e : suc (suc a) ≡ suc a + 1 = omega arith in
    subst (IsMentionedBefore c (suc a)) e (next_mentioned c a numbered (omega (arith, within)))
lower_first c numbered a (suc d) within =
    let earlier = lower_first c numbered a d (omega (arith, within)) in
    let e : suc a + suc d ≡ suc (a + suc d) = omega arith in
    let f : suc (suc (a + suc d)) ≡ suc a + suc (suc d) = omega arith in
    let step = next_mentioned c (a + suc d) numbered (omega (arith, within)) in
    let same : step.first ≡ earlier.second = same_Some step.first earlier.second (sym step.at_first ∙ (ap (mention c) (sym e) ∙ earlier.at_second)) in
    record {
      first = earlier.first;
      second = step.second;
      at_first = earlier.at_first;
      at_second = ap (mention c) (sym f) ∙ step.at_second;
      less = omega (arith, earlier.less, step.less, same);
    }

-- ---- places

place_of : {X : Type 0} (p : X → Bool) (xs : List X) (k : ℕ) → position p xs ≡ Some k → position_or_len p xs ≡ k
place_of p xs k is = by (nat_lt (position_or_len p xs) (length xs)) is
  where
    by : (b : Bool) → cond b (Some (position_or_len p xs)) None ≡ Some k → position_or_len p xs ≡ k
    by true is = same_Some (position_or_len p xs) k is
    by false is = absurd (none-some k is)

-- what none of the front passes is found after it
after_front : (p : ℕ → Bool) (xs ys : List ℕ) → list_any p xs ≡ false → length xs ≤ position_or_len p (xs ++ ys)
after_front p [] ys none = omega arith
after_front p (x ∷ xs) ys none = by (p x) none (after_front p xs ys)
  where
    by : (b : Bool) → (b || list_any p xs) ≡ false → (list_any p xs ≡ false → length xs ≤ position_or_len p (xs ++ ys)) → suc (length xs) ≤ cond (not b) (1 + position_or_len p (xs ++ ys)) 0
    by true none rest = absurd (false≢true (sym none))
    by false none rest = omega (arith, rest none)

-- what some of the front passes is found within it
within_front : (p : ℕ → Bool) (xs ys : List ℕ) → list_any p xs ≡ true → position_or_len p (xs ++ ys) < length xs
within_front p [] ys some = absurd (false≢true some)
within_front p (x ∷ xs) ys some = by (p x) some (within_front p xs ys)
  where
    by : (b : Bool) → (b || list_any p xs) ≡ true → (list_any p xs ≡ true → position_or_len p (xs ++ ys) < length xs) → cond (not b) (1 + position_or_len p (xs ++ ys)) 0 < suc (length xs)
    by true some rest = omega arith
    by false some rest = omega (arith, rest some)

-- where the links lead, in the order of mentions
abbrev pub targets : List Instance → List ℕ
targets c = map (λ l. l.to) (all_links c)

mention_at : (c : List Instance) (j k : ℕ) → mention c j ≡ Some k → position_or_len (λ t. t == j) (targets c) ≡ k
mention_at c j k is = place_of (λ t. t == j) (targets c) k (position_map (λ l. l.to) (λ t. t == j) (λ l. l.to == j) (λ l. refl) (all_links c) ∙ is)

-- In a numbered configuration, where n or more instances are first linked after the front, by links that lead to one of them, those lead to n itself.
pub next_is_linked : (c : List Instance) (front links back : List ℕ) (n : ℕ) → IsTrue (is_numbered c) → targets c ≡ (front ++ links) ++ back → 1 ≤ n
    → list_any (λ t. nat_le n t) front ≡ false → (j : ℕ) → n ≤ j → j < length c → IsTrue (has_number links j) → IsTrue (has_number links n)
next_is_linked c front links back zero numbered is some none j late within there = absurd (omega (arith, some))
next_is_linked c front links back (suc a) numbered is some none j late within there = by (has_number links (suc a)) refl
  where
    in_front : list_any (λ t. t == j) (front ++ links) ≡ true
    in_front = any_append front
      where
        any_append : (xs : List ℕ) → list_any (λ t. t == j) (xs ++ links) ≡ true
        any_append [] = there
        any_append (x ∷ xs) = or_right (x == j) _ (any_append xs)

    not_in : has_number links (suc a) ≡ false → list_any (λ t. t == suc a) (front ++ links) ≡ false
    not_in lacks = any_none front none
      where
        any_none : (xs : List ℕ) → list_any (λ t. nat_le (suc a) t) xs ≡ false → list_any (λ t. t == suc a) (xs ++ links) ≡ false
        any_none [] h = lacks
        any_none (x ∷ xs) h = grind (arith, nat_tests, h, any_none xs)

    by : (b : Bool) → has_number links (suc a) ≡ b → b ≡ true
    by true has = refl
    by false lacks = absurd (apart (eqb_tells (suc a) j))
      where
        apart : (((suc a == j) ≡ true) × (suc a ≡ j)) ⊎ (((suc a == j) ≡ false) × (suc a ≢ j)) → ⊥
        apart (inl same) = false≢true (sym lacks ∙ subst (λ k. IsTrue (has_number links k)) (sym same.1) there)
        apart (inr other) =
            let d : ℕ = j - suc (suc a) in
            let e : suc a + suc d ≡ j = omega (arith, late, other.1) in
            let order = lower_first c numbered a d (omega (arith, e, within)) in
            let first = mention_at c (suc a) order.first order.at_first in
            let second = mention_at c j order.second (ap (mention c) (sym e) ∙ order.at_second) in
            let low = after_front (λ t. t == suc a) (front ++ links) back (not_in lacks) in
            let high = within_front (λ t. t == j) (front ++ links) back in_front in
            let low' : length (front ++ links) ≤ order.first = subst (λ k. length (front ++ links) ≤ k) (ap (position_or_len (λ t. t == suc a)) (sym is) ∙ first) low in
            let high' : order.second < length (front ++ links) = subst (λ k. k < length (front ++ links)) (ap (position_or_len (λ t. t == j)) (sym is) ∙ second) high in
            omega (arith, low', high', order.less)

-- ---- what the ports still allow

pub has_number-append : (xs ys : List ℕ) (k : ℕ) → has_number (xs ++ ys) k ≡ (has_number xs k || has_number ys k)
has_number-append [] ys k = refl
has_number-append (x ∷ xs) ys k = by (x == k) (has_number-append xs ys k)
  where
    by : (b : Bool) → has_number (xs ++ ys) k ≡ (has_number xs k || has_number ys k) → (b || has_number (xs ++ ys) k) ≡ ((b || has_number xs k) || has_number ys k)
    by true h = refl
    by false h = h

-- the members of a set with one more
pub has_number-with : (n : ℕ) (set : List ℕ) (k : ℕ) → IsTrue (has_number (with_number n set) k) → (n ≡ k) ⊎ IsTrue (has_number set k)
has_number-with n set k there =
    elim (or_cases (has_number (filter (λ j. nat_lt j n) set) k) (has_number (n ∷ filter (λ j. nat_lt n j) set) k)
    (sym (has_number-append (filter (λ j. nat_lt j n) set) (n ∷ filter (λ j. nat_lt n j) set) k) ∙ there)) [
      | inl low ↦ inr (and_parts _ _ (sym (has_number-filter (λ j. nat_lt j n) set k) ∙ low)).0
      | inr rest ↦ elim (or_cases (n == k) (has_number (filter (λ j. nat_lt n j) set) k) rest) [
        | inl here ↦ inl (eqb-true n k here)
        | inr high ↦ inr (and_parts _ _ (sym (has_number-filter (λ j. nat_lt n j) set k) ∙ high)).0
      ]
    ]

pub with_number-here : (n : ℕ) (set : List ℕ) → IsTrue (has_number (with_number n set) n)
with_number-here n set =
    has_number-append (filter (λ j. nat_lt j n) set) (n ∷ filter (λ j. nat_lt n j) set) n
    ∙ or_right (has_number (filter (λ j. nat_lt j n) set) n) _ (or_left (n == n) _ (eq-eqb n n refl))

pub with_number-kept : (n : ℕ) (set : List ℕ) (k : ℕ) → k < n → IsTrue (has_number set k) → IsTrue (has_number (with_number n set) k)
with_number-kept n set k low there =
    has_number-append (filter (λ j. nat_lt j n) set) (n ∷ filter (λ j. nat_lt n j) set) k
    ∙ or_left _ _ (has_number-filter (λ j. nat_lt j n) set k ∙ and_from _ _ there (lt-ltb k n low))

-- one link fewer is later once instance n is made, if it is linked
later_step : (n : ℕ) (links : List ℕ) → IsTrue (ascends links) → count_by (nat_le n) links ≡ one (has_number links n) + count_by (nat_le (n + 1)) links
later_step n [] up = refl
later_step n (x ∷ xs) up = by (eqb_tells x n) (later_step n xs (ascends_rest x xs up))
  where
    by : (((x == n) ≡ true) × (x ≡ n)) ⊎ (((x == n) ≡ false) × (x ≢ n)) → count_by (nat_le n) xs ≡ one (has_number xs n) + count_by (nat_le (n + 1)) xs
        → count_by (nat_le n) (x ∷ xs) ≡ one (has_number (x ∷ xs) n) + count_by (nat_le (n + 1)) (x ∷ xs)
    by (inl same) rest =
        let absent : one (has_number xs n) ≡ 0 = ap one (false_from_ne_true _ (λ there. let above = below_rest x xs up n there in absurd (omega (arith, above, same.1)))) in
        let now : one (nat_le n x) ≡ 1 = ap one (le-leb n x (omega (arith, same.1))) in
        let past : one (nat_le (n + 1) x) ≡ 0 = ap one (false_from_ne_true _ (λ h. let above = leb-true (n + 1) x h in absurd (omega (arith, above, same.1)))) in
        let here : one (has_number (x ∷ xs) n) ≡ 1 = ap one (or_left (x == n) (has_number xs n) same.0) in
        omega (arith, rest, absent, now, past, here, counted (nat_le n) x xs, counted (nat_le (n + 1)) x xs)
    by (inr other) rest =
        let alike : one (nat_le n x) ≡ one (nat_le (n + 1) x) = ap one (step other.1) in
        let here : one (has_number (x ∷ xs) n) ≡ one (has_number xs n) = ap (λ b. one (b || has_number xs n)) other.0 in
        omega (arith, rest, alike, here, counted (nat_le n) x xs, counted (nat_le (n + 1)) x xs)
      where
        step : x ≢ n → nat_le n x ≡ nat_le (n + 1) x
        step other = grind (arith, nat_tests, other)

module _ (n : ℕ) (q : PortState) (links : List ℕ) (up : IsTrue (ascends links)) (allowed : IsTrue (allows q (parted n links))) where
  parts : IsAllowed n q links
  parts = allowed_parts n q links allowed

  -- what was required is linked, and is still among the links to made ones
  still_required : (k : ℕ) → IsTrue (has_number q.required k) → IsTrue (has_number (filter (λ j. nat_lt j (n + 1)) links) k)
  still_required k required =
      let linked = and_parts (has_number links k) (nat_lt k n) (sym (has_number-filter (λ j. nat_lt j n) links k)
      ∙ all_has (has_number (filter (λ j. nat_lt j n) links)) q.required k parts.required required) in
      has_number-filter (λ j. nat_lt j (n + 1)) links k ∙ and_from _ _ linked.0 (lt-ltb k (n + 1) (omega (arith, ltb-true k n linked.1)))

  -- a link to an instance made before was possible
  was_possible : (k : ℕ) → IsTrue (has_number links k) → k < n → IsTrue (has_number q.possible k)
  was_possible k linked low =
      all_has (has_number q.possible) (filter (λ j. nat_lt j n) links) k parts.possible (has_number-filter (λ j. nat_lt j n) links k ∙ and_from _ _ linked (lt-ltb k n low))

  -- a link to a made instance is possible, or leads to the new one
  now_possible : (possible : List ℕ) → IsTrue (has_number possible n) → ((k : ℕ) → k < n → IsTrue (has_number q.possible k) → IsTrue (has_number possible k))
      → (k : ℕ) → IsTrue (has_number (filter (λ j. nat_lt j (n + 1)) links) k) → IsTrue (has_number possible k)
  now_possible possible here kept k there =
      let linked = and_parts (has_number links k) (nat_lt k (n + 1)) (sym (has_number-filter (λ j. nat_lt j (n + 1)) links k) ∙ there) in
      elim (eqb_tells n k) [
        | inl same ↦ subst (λ j. IsTrue (has_number possible j)) same.1 here
        | inr other ↦ let low : k < n = omega (arith, ltb-true k (n + 1) linked.1, other.1) in kept k low (was_possible k linked.0 low)
      ]

  between : (low high : ℕ) → low ≤ count_by (nat_le (n + 1)) links → count_by (nat_le (n + 1)) links ≤ high
      → IsTrue (nat_le low (count_by (nat_le (n + 1)) links) && nat_le (count_by (nat_le (n + 1)) links) high)
  between low high a b = and_from _ _ (le-leb low _ a) (le-leb _ high b)

  -- The port for which instance n is made allows the links, if they lead to it.
  pub here_keeps : IsTrue (has_number links n) → IsTrue (allows (made_here n q) (parted (n + 1) links))
  unfolding parts
  here_keeps linked =
      let one_less : one (has_number links n) ≡ 1 = ap one linked in
      and_from _ _ (and_from _ _
      (all_from_has (has_number (filter (λ j. nat_lt j (n + 1)) links)) (with_number n q.required) (λ k there. elim (has_number-with n q.required k there) [
        | inl same ↦ subst (λ j. IsTrue (has_number (filter (λ i. nat_lt i (n + 1)) links) j)) same
            (has_number-filter (λ j. nat_lt j (n + 1)) links n ∙ and_from _ _ linked (lt-ltb n (n + 1) (omega arith)))
        | inr before ↦ still_required k before
      ]))
      (all_from_has (has_number (with_number n q.possible)) (filter (λ j. nat_lt j (n + 1)) links)
      (now_possible (with_number n q.possible) (with_number-here n q.possible) (with_number-kept n q.possible))))
      (between (q.fresh_low - 1) (q.fresh_high - 1)
      (omega (arith, later_step n links up, one_less, parts.least)) (omega (arith, later_step n links up, one_less, parts.most)))

  -- Every other port still allows them.
  pub elsewhere_keeps : IsTrue (allows (made_elsewhere n q) (parted (n + 1) links))
  unfolding parts
  elsewhere_keeps = by (is_closed q) refl
    where
      at_most_one : one (has_number links n) ≤ 1
      at_most_one = small (has_number links n)
        where
          small : (b : Bool) → one b ≤ 1
          small true = le_refl 1
          small false = omega arith

      by : (b : Bool) → is_closed q ≡ b → IsTrue (allows (if b then q else record q { possible = with_number n q.possible; fresh_low = q.fresh_low - 1 }) (parted (n + 1) links))
      by true closed =
          let none : q.fresh_high ≡ 0 = eqb-true q.fresh_high 0 closed in
          and_from _ _ (and_from _ _
          (all_from_has (has_number (filter (λ j. nat_lt j (n + 1)) links)) q.required still_required)
          (all_from_has (has_number q.possible) (filter (λ j. nat_lt j (n + 1)) links) (λ k there.
          let linked = and_parts (has_number links k) (nat_lt k (n + 1)) (sym (has_number-filter (λ j. nat_lt j (n + 1)) links k) ∙ there) in
          elim (eqb_tells n k) [
            | inl same ↦ absurd (early k linked.0 none (omega (arith, same.1)))
            | inr other ↦ was_possible k linked.0 (omega (arith, ltb-true k (n + 1) linked.1, other.1))
          ])))
          (between q.fresh_low q.fresh_high (omega (arith, later_step n links up, at_most_one, parts.least, parts.most, none)) (omega (arith, later_step n links up, parts.most)))
        where
          early : (k : ℕ) → IsTrue (has_number links k) → q.fresh_high ≡ 0 → n ≤ k → ⊥
          early k linked none high = let some = count_by-member (nat_le n) links k linked (le-leb n k high) in omega (arith, some, none, parts.most)
      by false open_ = and_from _ _ (and_from _ _
          (all_from_has (has_number (filter (λ j. nat_lt j (n + 1)) links)) q.required still_required)
          (all_from_has (has_number (with_number n q.possible)) (filter (λ j. nat_lt j (n + 1)) links)
          (now_possible (with_number n q.possible) (with_number-here n q.possible) (with_number-kept n q.possible))))
          (between (q.fresh_low - 1) q.fresh_high (omega (arith, later_step n links up, at_most_one, parts.least)) (omega (arith, later_step n links up, parts.most)))
