-- Instances are numbered in the order of their first mentions exactly where no link is out of turn
-- and every instance has had its turn.
use Rattle.std.proofs.Common.{◌≡◌, ℕ, zero, suc, ◌+◌, ◌-◌, ◌<◌, ◌≤◌, Bool, true, false, cond, ◌&&◌, ◌||◌, ◌==◌, nat_lt, nat_le, List, [], ◌∷◌, length, Option, None, Some, ◌⊎◌, inl, inr, refl, sym, ap, ◌∙◌, arith}
use Rattle.std.specs.Option.{option_map_or, option_and_then, is_some}
use Rattle.std.specs.List.{list_all, find, range_with_len}
use Rattle.std.proofs.lemmas.Bool.{cases_lt, cases_eq, cond-true, cond-false, eqb-false, eq-eqb, ne_eqb, lt-ltb, le-ltb, le-leb, lt-leb, and_left, and_right}
use Rattle.std.proofs.lemmas.Bool.Decides.{nat_tests}
use Rattle.std.proofs.Math.Bool.{and-true}
use Rattle.config_value.specs.declared.configuration.Instance.{Instance}
use Rattle.config_value.specs.Numbered.{Link, all_links, is_numbered}
use Rattle.config_value.specs.steps.Turn.{turn_after, turn_after_link, links_from}
use Rattle.config_value.proofs.Mention.{leads_to, from_lower, mentioned_lower, mentioned_before, mentioned_before_cons, mentioned_lower_is_some}

-- Instance j is in order among those from k on: a lower one mentions it first, and j is k or is
-- mentioned after j - 1.
abbrev in_order : ℕ → List Link → ℕ → Bool
in_order k ls j = mentioned_lower ls j && ((j == k) || mentioned_before ls (j - 1) j)

-- all instances from k on, of which there are `count` in all, are in order
abbrev all_in_order : ℕ → ℕ → List Link → Bool
all_in_order count k ls = list_all (in_order k ls) (range_with_len k (count - k))

-- every instance has had its turn
abbrev pub is_done : ℕ → Option ℕ → Bool
is_done count turn = option_map_or (λ t. nat_le count t) turn false

-- ---- tests of a range of numbers

list_all_same : (f g : ℕ → Bool) (a n : ℕ) → ((j : ℕ) → a ≤ j → j < a + n → f j ≡ g j)
    → list_all f (range_with_len a n) ≡ list_all g (range_with_len a n)
list_all_same f g a zero same = refl
list_all_same f g a (suc n) same =
    ap (λ b. b && list_all f (range_with_len (a + 1) n)) (same a (omega arith) (omega arith))
    ∙ ap (λ b. g a && b) (list_all_same f g (a + 1) n (λ j low high. same j (omega arith) (omega arith)))

list_all_fails : (f : ℕ → Bool) (a n j : ℕ) → a ≤ j → j < a + n → f j ≡ false
    → list_all f (range_with_len a n) ≡ false
list_all_fails f a zero j low high fails = absurd (omega arith)
list_all_fails f a (suc n) j low high fails =
    elim (cases_eq a j) [
      | inl same ↦ and_left (f a) _ (ap f same ∙ fails)
      | inr other ↦ and_right (f a) _ (list_all_fails f (a + 1) n j (omega arith) (omega arith) fails)
    ]

-- ---- one link more in front

mentioned_lower_past : (l : Link) (ls : List Link) (j : ℕ) → (l.to == j) ≡ false
    → mentioned_lower (l ∷ ls) j ≡ mentioned_lower ls j
mentioned_lower_past l ls j other =
    ap (λ b. from_lower j (cond b (Some l) (find (leads_to j) ls))) other

mentioned_lower_first : (l : Link) (ls : List Link) (j : ℕ) → (l.to == j) ≡ true
    → mentioned_lower (l ∷ ls) j ≡ nat_lt l.from j
mentioned_lower_first l ls j here =
    ap (λ b. from_lower j (cond b (Some l) (find (leads_to j) ls))) here

mentioned_before_past : (l : Link) (ls : List Link) (i j : ℕ) → (l.to == j) ≡ false → (l.to == i) ≡ false
    → mentioned_before (l ∷ ls) i j ≡ mentioned_before ls i j
mentioned_before_past l ls i j past_j past_i =
    mentioned_before_cons l ls i j
    ∙ cond-false (l.to == j) false _ past_j
    ∙ cond-false (l.to == i) (is_some (find (leads_to j) ls)) _ past_i

mentioned_before_first : (l : Link) (ls : List Link) (i j : ℕ) → (l.to == j) ≡ false → (l.to == i) ≡ true
    → mentioned_before (l ∷ ls) i j ≡ is_some (find (leads_to j) ls)
mentioned_before_first l ls i j past_j here =
    mentioned_before_cons l ls i j
    ∙ cond-false (l.to == j) false _ past_j
    ∙ cond-true (l.to == i) _ (mentioned_before ls i j) here

mentioned_before_last : (l : Link) (ls : List Link) (i j : ℕ) → (l.to == j) ≡ true
    → mentioned_before (l ∷ ls) i j ≡ false
mentioned_before_last l ls i j here = mentioned_before_cons l ls i j ∙ cond-true (l.to == j) false _ here

-- ---- what a link does to the order

-- two tests of one form agree where their parts do, the last ones only where the middle one fails
same_unless : (a c t b d : Bool) → a ≡ c → (t ≡ false → b ≡ d) → (a && (t || b)) ≡ (c && (t || d))
same_unless a c true b d lower before = ap (λ x. x && true) lower
same_unless a c false b d lower before = ap (λ x. x && b) lower ∙ ap (λ x. c && x) (before refl)

-- A link to an instance below k, or to none, leaves the order as it was.
all_in_order_past : (count k : ℕ) (l : Link) (ls : List Link) → ((j : ℕ) → k ≤ j → j < count → l.to ≡ j → ⊥)
    → all_in_order count k (l ∷ ls) ≡ all_in_order count k ls
all_in_order_past count k l ls past =
    list_all_same (in_order k (l ∷ ls)) (in_order k ls) k (count - k) (λ j low high.
    let past_j : (l.to == j) ≡ false = ne_eqb l.to j (past j low (omega arith)) in
    same_unless _ _ (j == k) _ _ (mentioned_lower_past l ls j past_j) (λ other.
    let above : j ≡ k → ⊥ = eqb-false j k other in
    mentioned_before_past l ls (j - 1) j past_j (ne_eqb l.to (j - 1) (past (j - 1) (omega arith) (omega arith)))))

in_order_after : (k : ℕ) (l : Link) (ls : List Link) → l.to ≡ k → (j : ℕ) → k + 1 ≤ j
    → in_order k (l ∷ ls) j ≡ in_order (k + 1) ls j
in_order_after k l ls here j above =
    let past_j : (l.to == j) ≡ false = ne_eqb l.to j (λ e. omega arith) in
    let lower : mentioned_lower (l ∷ ls) j ≡ mentioned_lower ls j = mentioned_lower_past l ls j past_j in
    let or_before : Bool → Bool = λ b. mentioned_lower ls j && (b || mentioned_before ls (j - 1) j) in
    let not_k : (j == k) ≡ false = ne_eqb j k (λ e. omega arith) in
    ap (λ b. mentioned_lower (l ∷ ls) j && (b || mentioned_before (l ∷ ls) (j - 1) j)) not_k
    ∙ ap (λ b. b && mentioned_before (l ∷ ls) (j - 1) j) lower
    ∙ elim (cases_eq j (k + 1)) [
      | inl next ↦
          ap (λ b. mentioned_lower ls j && b)
          (mentioned_before_first l ls (j - 1) j past_j (eq-eqb l.to (j - 1) (omega arith)))
          ∙ mentioned_lower_is_some ls j
          ∙ sym (ap or_before (eq-eqb j (k + 1) next) ∙ and-true (mentioned_lower ls j))
      | inr later ↦
          ap (λ b. mentioned_lower ls j && b)
          (mentioned_before_past l ls (j - 1) j past_j (ne_eqb l.to (j - 1) (λ e. later (omega arith))))
          ∙ sym (ap or_before (ne_eqb j (k + 1) later))
    ]

-- A link from a lower instance to k is in turn, and k + 1 comes next.
all_in_order_next : (count k : ℕ) (l : Link) (ls : List Link) → l.to ≡ k → k < count → l.from < k
    → all_in_order count k (l ∷ ls) ≡ all_in_order count (k + 1) ls
all_in_order_next count k l ls here within lower = by_length (count - k) (count - (k + 1)) (omega arith)
  where
    first : in_order k (l ∷ ls) k ≡ true
    first =
        ap (λ b. b && ((k == k) || mentioned_before (l ∷ ls) (k - 1) k))
        (mentioned_lower_first l ls k (eq-eqb l.to k here) ∙ lt-ltb l.from k lower)
        ∙ ap (λ b. b || mentioned_before (l ∷ ls) (k - 1) k) (eq-eqb k k refl)

    by_length : (n m : ℕ) → n ≡ suc m
        → list_all (in_order k (l ∷ ls)) (range_with_len k n)
        ≡ list_all (in_order (k + 1) ls) (range_with_len (k + 1) m)
    by_length n m longer =
        ap (λ x. list_all (in_order k (l ∷ ls)) (range_with_len k x)) longer
        ∙ ap (λ b. b && list_all (in_order k (l ∷ ls)) (range_with_len (k + 1) m)) first
        ∙ list_all_same (in_order k (l ∷ ls)) (in_order (k + 1) ls) (k + 1) m
        (λ j low high. in_order_after k l ls here j low)

-- A link to k from k on is out of turn.
all_in_order_higher : (count k : ℕ) (l : Link) (ls : List Link) → l.to ≡ k → k < count → k ≤ l.from
    → all_in_order count k (l ∷ ls) ≡ false
all_in_order_higher count k l ls here within higher =
    list_all_fails (in_order k (l ∷ ls)) k (count - k) k (omega arith) (omega arith)
    (and_left _ _ (mentioned_lower_first l ls k (eq-eqb l.to k here) ∙ le-ltb l.from k higher))

-- So is one to an instance above k.
all_in_order_early : (count k : ℕ) (l : Link) (ls : List Link) → k < l.to → l.to < count
    → all_in_order count k (l ∷ ls) ≡ false
all_in_order_early count k l ls above within =
    list_all_fails (in_order k (l ∷ ls)) k (count - k) l.to (omega arith) (omega arith)
    (and_right _ _ (ap (λ b. b || mentioned_before (l ∷ ls) (l.to - 1) l.to) (ne_eqb l.to k (λ e. omega arith))
    ∙ mentioned_before_last l ls (l.to - 1) l.to (eq-eqb l.to l.to refl)))

-- ---- the turn after a link

turn_after_link_past : (count k : ℕ) (l : Link) → (l.to < k) ⊎ (count ≤ l.to)
    → turn_after_link count k l ≡ Some k
turn_after_link_past count k l past = grind (arith, nat_tests)

turn_after_link_next : (count k : ℕ) (l : Link) → l.to ≡ k → k < count → l.from < k
    → turn_after_link count k l ≡ Some (k + 1)
turn_after_link_next count k l here within lower = grind (arith, nat_tests)

turn_after_link_higher : (count k : ℕ) (l : Link) → l.to ≡ k → k < count → k ≤ l.from
    → turn_after_link count k l ≡ None
turn_after_link_higher count k l here within higher = grind (arith, nat_tests)

turn_after_link_early : (count k : ℕ) (l : Link) → k < l.to → l.to < count → turn_after_link count k l ≡ None
turn_after_link_early count k l above within = grind (arith, nat_tests)

-- ---- the links one by one

-- With no links, all instances from k on are in order only where there is none.
all_in_order_nil : (count k : ℕ) → all_in_order count k [] ≡ nat_le count k
all_in_order_nil count k = by_length (count - k) refl
  where
    by_length : (n : ℕ) → count - k ≡ n → list_all (in_order k []) (range_with_len k n) ≡ nat_le count k
    by_length zero none = sym (le-leb count k (omega arith))
    by_length (suc n) some = sym (lt-leb count k (omega arith))

all_in_order_is_done : (count k : ℕ) (ls : List Link)
    → all_in_order count k ls ≡ is_done count (turn_after count k ls)
all_in_order_is_done count k [] = all_in_order_nil count k
all_in_order_is_done count k (l ∷ ls) =
    let then_links : Option ℕ → Bool = λ o. is_done count (option_and_then (λ t. turn_after count t ls) o) in
    let past : ((j : ℕ) → k ≤ j → j < count → l.to ≡ j → ⊥) → turn_after_link count k l ≡ Some k
    → all_in_order count k (l ∷ ls) ≡ then_links (turn_after_link count k l) =
    λ other after. all_in_order_past count k l ls other ∙ all_in_order_is_done count k ls ∙ sym (ap then_links after) in
    elim (cases_lt l.to k) [
      | inl below ↦ past (λ j low high same. omega arith) (turn_after_link_past count k l (inl below))
      | inr above ↦ elim (cases_lt l.to count) [
        | inr outside ↦ past (λ j low high same. omega arith) (turn_after_link_past count k l (inr outside))
        | inl within ↦ elim (cases_eq l.to k) [
          | inr other ↦
              let early : k < l.to = omega arith in
              all_in_order_early count k l ls early within
              ∙ sym (ap then_links (turn_after_link_early count k l early within))
          | inl here ↦ elim (cases_lt l.from k) [
            | inl lower ↦
                all_in_order_next count k l ls here (omega arith) lower
                ∙ all_in_order_is_done count (k + 1) ls
                ∙ sym (ap then_links (turn_after_link_next count k l here (omega arith) lower))
            | inr higher ↦
                all_in_order_higher count k l ls here (omega arith) higher
                ∙ sym (ap then_links (turn_after_link_higher count k l here (omega arith) higher))
          ]
        ]
      ]
    ]

pub is_numbered_is_done : (c : List Instance)
    → is_numbered c ≡ is_done (length c) (turn_after (length c) 1 (links_from 0 c))
unfolding is_numbered
is_numbered_is_done c = all_in_order_is_done (length c) 1 (all_links c)
