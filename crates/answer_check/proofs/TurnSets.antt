-- The sets of turns say which instances are mentioned, and which are in turn.
use Rattle.std.proofs.Common.{◌≡◌, ℕ, Some, ◌-◌, ◌<◌, ◌≤◌, ◌∙◌, ap, ap₂, sym, subst, cond, true, false, ◌&&◌, ◌||◌, ◌==◌, nat_lt, List, [], ◌∷◌, ◌++◌, length, inl, inr, refl, arith}
use Rattle.std.proofs.Math.Bool.{or-false, and-true}
use Rattle.std.proofs.lemmas.Bool.{cases_eq, cases_Bool, and_right, ne_eqb, eq-eqb}
use Rattle.std.proofs.lemmas.Bool.Decides.{nat_tests}
use Rattle.instance_set.specs.InstanceSets.{is_member}
use Rattle.prod_model.specs.declared.model.Model.{Model}
use Rattle.config_value.specs.declared.configuration.Instance.{Instance}
use Rattle.config_value.specs.Numbered.{Link, all_links, is_in_turn}
use Rattle.answer_check.specs.declared.turns.Turns.{Turns}
use Rattle.answer_check.specs.Breaks.{misnumbered}
use Rattle.answer_check.specs.steps.Finds.{BreaksAt, FindsItem}
use Rattle.answer_check.specs.steps.Turns.{HasTurns, ReadsMore, is_mentioned, is_in_turn_among, comes_in_turn}
use Rattle.answer_check.proofs.BreakParts.{misnumbered_parts}
use Rattle.config_value.proofs.LinkPushed.{mentioned_pushed, in_turn_pushed, in_turn_mentioned}

-- ---- a link that is no instance's first mention changes nothing

mentioned_stays : (ls : List Link) (l : Link) (j : ℕ) → (l.to ≡ j → is_mentioned ls j ≡ true) → is_mentioned (ls ++ l ∷ []) j ≡ is_mentioned ls j
mentioned_stays ls l j known = mentioned_pushed ls l j ∙ elim (cases_eq l.to j) [ inl same ↦ (let e = known same in grind arith) | inr other ↦ rw (ne_eqb l.to j other) (grind arith) ]

in_turn_stays : (ls : List Link) (l : Link) (j : ℕ) → 1 ≤ j → (l.to ≡ j → is_mentioned ls j ≡ true) → is_in_turn_among (ls ++ l ∷ []) j ≡ is_in_turn_among ls j
in_turn_stays ls l j high known = in_turn_pushed ls l j high ∙ elim (cases_Bool (is_mentioned ls j)) [
  | inl found ↦ ap (λ b. cond b (is_in_turn_among ls j) (cond (l.to == j) (nat_lt l.from j && ((j == 1) || is_mentioned ls (j - 1))) false)) found
  | inr none ↦ (let other : (l.to == j) ≡ false = ne_eqb l.to j (λ e. let k = known e in absurd cc) in
      ap₂ (λ b d. cond b (is_in_turn_among ls j) (cond d (nat_lt l.from j && ((j == 1) || is_mentioned ls (j - 1))) false)) none other ∙ sym (in_turn_mentioned ls j none))
]

stays : (t : Turns) (ls : List Link) (l : Link) → ((j : ℕ) → j < 256 → l.to ≡ j → is_mentioned ls j ≡ true) → HasTurns t ls → HasTurns t (ls ++ l ∷ [])
stays t ls l known has = record {
  mentioned = λ j low. has.mentioned j low ∙ sym (mentioned_stays ls l j (known j low));
  in_turn = λ j low high. has.in_turn j low high ∙ sym (in_turn_stays ls l j high (known j low));
}

-- a set has no place for it
pub link_past : (t : Turns) (l : Link) → 256 ≤ l.to → ReadsMore t (l ∷ []) t
link_past t l high before has = stays t before l (λ j low same. absurd (omega arith)) has

pub link_known : (t : Turns) (l : Link) → l.to < 256 → is_member t.mentioned l.to ≡ true → ReadsMore t (l ∷ []) t
link_known t l within known before has =
    let Known : ℕ → Type 0 = λ j. is_mentioned before j ≡ true in
    stays t before l (λ j low same. subst Known same (sym (has.mentioned l.to within) ∙ known)) has

-- ---- a first mention

module _ (t u : Turns) (l : Link) (within : l.to < 256) (new : is_member t.mentioned l.to ≡ false)
    (mentioned : (j : ℕ) → is_member u.mentioned j ≡ (is_member t.mentioned j || (j == l.to)))
    (in_turn : (j : ℕ) → is_member u.in_turn j ≡ (is_member t.in_turn j || ((j == l.to) && comes_in_turn t l.from l.to)))
    (ls : List Link) (has : HasTurns t ls) where
  unmentioned : is_mentioned ls l.to ≡ false
  unmentioned = sym (has.mentioned l.to within) ∙ new

  mentioned_first : (j : ℕ) → j < 256 → is_member u.mentioned j ≡ is_mentioned (ls ++ l ∷ []) j
  mentioned_first j low =
      mentioned j ∙ ap (λ b. b || (j == l.to)) (has.mentioned j low)
      ∙ elim (cases_eq j l.to) [ inl same ↦ grind (arith, nat_tests, mentioned_pushed ls l j) | inr other ↦ grind (arith, nat_tests, mentioned_pushed ls l j) ]

  -- the instance itself
  first_here : 1 ≤ l.to → is_member u.in_turn l.to ≡ is_in_turn_among (ls ++ l ∷ []) l.to
  first_here high =
      let here : (l.to == l.to) ≡ true = eq-eqb l.to l.to refl in
      let out : is_member t.in_turn l.to ≡ false = has.in_turn l.to within high ∙ in_turn_mentioned ls l.to unmentioned in
      let before : is_member t.mentioned (l.to - 1) ≡ is_mentioned ls (l.to - 1) = has.mentioned (l.to - 1) (omega arith) in
      in_turn l.to
      ∙ ap₂ (λ a b. a || (b && comes_in_turn t l.from l.to)) out here
      ∙ ap (λ e. nat_lt l.from l.to && ((l.to == 1) || e)) before
      ∙ sym (in_turn_pushed ls l l.to high
      ∙ ap₂ (λ b d. cond b (is_in_turn_among ls l.to) (cond d (nat_lt l.from l.to && ((l.to == 1) || is_mentioned ls (l.to - 1))) false)) unmentioned here)

  -- any other
  first_other : (j : ℕ) → j < 256 → 1 ≤ j → (j ≡ l.to → ⊥) → is_member u.in_turn j ≡ is_in_turn_among (ls ++ l ∷ []) j
  first_other j low high other =
      in_turn j ∙ ap (λ b. is_member t.in_turn j || (b && comes_in_turn t l.from l.to)) (ne_eqb j l.to other)
      ∙ or-false (is_member t.in_turn j)
      ∙ has.in_turn j low high ∙ sym (in_turn_stays ls l j high (λ e. absurd (other (sym e))))

  first : HasTurns u (ls ++ l ∷ [])
  first = record {
    mentioned = mentioned_first;
    in_turn = λ j low high. elim (cases_eq j l.to) [
      | inl same ↦
          (let IsRight : ℕ → Type 0 = λ k. is_member u.in_turn k ≡ is_in_turn_among (ls ++ l ∷ []) k in
          subst IsRight (sym same) (first_here (omega arith)))
      | inr other ↦ first_other j low high other
    ];
  }

pub link_in_turn : (t u : Turns) (l : Link) → l.to < 256 → is_member t.mentioned l.to ≡ false
    → ((j : ℕ) → is_member u.mentioned j ≡ (is_member t.mentioned j || (j == l.to))) → comes_in_turn t l.from l.to ≡ true
    → ((j : ℕ) → is_member u.in_turn j ≡ (is_member t.in_turn j || (j == l.to))) → ReadsMore t (l ∷ []) u
link_in_turn t u l within new mentioned comes more before has =
    first t u l within new mentioned (λ j. more j ∙ ap (λ b. is_member t.in_turn j || b) (sym (and-true (j == l.to)) ∙ ap (λ b. (j == l.to) && b) (sym comes))) before has

pub link_out_of_turn : (t u : Turns) (l : Link) → l.to < 256 → is_member t.mentioned l.to ≡ false
    → ((j : ℕ) → is_member u.mentioned j ≡ (is_member t.mentioned j || (j == l.to))) → comes_in_turn t l.from l.to ≡ false
    → u.in_turn ≡ t.in_turn → ReadsMore t (l ∷ []) u
link_out_of_turn t u l within new mentioned comes same before has =
    first t u l within new mentioned
    (λ j. ap (λ s. is_member s j) same ∙ sym (or-false (is_member t.in_turn j)) ∙ ap (λ b. is_member t.in_turn j || b) (sym (and_right (j == l.to) _ comes))) before has

-- ---- what is out of turn

module _ (m : Model) (c : List Instance) (t : Turns) (has : HasTurns t (all_links c)) (j : ℕ) (low : j < 256) (high : 1 ≤ j) where
  pub out_found : j < length c → is_member t.in_turn j ≡ false → FindsItem (BreaksAt m c 8 j) (Some 0)
  out_found within out = (misnumbered refl refl high within (sym (has.in_turn j low high) ∙ out), λ k below broken. omega arith)

  pub out_none : is_member t.in_turn j ≡ true → (k : ℕ) → BreaksAt m c 8 j k → ⊥
  out_none inside k broken =
      let parts = misnumbered_parts m c 8 j k refl broken in
      let inside' : is_in_turn c j ≡ true = sym (has.in_turn j low high) ∙ inside in
      let out = parts.3 in
      absurd cc

pub out_within : (m : Model) (c : List Instance) (i k : ℕ) → BreaksAt m c 8 i k → i < length c
out_within m c i k broken = (misnumbered_parts m c 8 i k refl broken).2
