-- Which instances are mentioned, and which in turn, as links are read in order.
use Rattle.std.specs.Prelude.{◌≡◌, ℕ, ◌-◌, ◌<◌, ◌≤◌, ◌==◌, ◌&&◌, ◌||◌, Bool, false, nat_lt, List, ◌++◌, map, Option}
use Rattle.std.specs.Option.{option_map, option_map_or, is_some}
use Rattle.std.specs.List.{find, position}
use Rattle.instance_set.specs.InstanceSets.{is_member}
use Rattle.config_value.specs.Numbered.{Link}
use Rattle.answer_check.specs.declared.turns.Turns.{Turns}

-- the links from an instance to these
abbrev pub links_from : ℕ → List ℕ → List Link
links_from i links = map (λ j. record { from = i; to = j }) links

-- one of the links leads to the instance
abbrev pub is_mentioned : List Link → ℕ → Bool
is_mentioned ls j = is_some (find (λ l. l.to == j) ls)

-- the first place is before the second, and both are there
abbrev pub comes_before : Option ℕ → Option ℕ → Bool
comes_before p q = option_map_or (λ a. option_map_or (λ b. nat_lt a b) q false) p false

-- among these links the instance is first mentioned by a lower one, and, but for instance 1, after
-- the instance numbered one less
abbrev pub is_in_turn_among : List Link → ℕ → Bool
is_in_turn_among ls j =
    option_map_or (λ i. nat_lt i j) (option_map (λ l. l.from) (find (λ l. l.to == j) ls)) false
    && ((j == 1)
    || comes_before (position (λ l. l.to == (j - 1)) ls) (position (λ l. l.to == j) ls))

-- the sets have those that the links mention, and those that they mention in turn
pub record HasTurns (t : Turns) (ls : List Link) : Type 0 where
  pub mentioned : (j : ℕ) → j < 256 → is_member t.mentioned j ≡ is_mentioned ls j
  pub in_turn : (j : ℕ) → j < 256 → 1 ≤ j → is_member t.in_turn j ≡ is_in_turn_among ls j

-- after any links that were read before, these are read too
abbrev pub ReadsMore : Turns → List Link → Turns → Type 0
ReadsMore old ls new = (before : List Link) → HasTurns old before → HasTurns new (before ++ ls)

-- a link that mentions an instance first does so in turn: it comes from a lower one, and the
-- instance before has been mentioned
abbrev pub comes_in_turn : Turns → ℕ → ℕ → Bool
comes_in_turn t from j = nat_lt from j && ((j == 1) || is_member t.mentioned (j - 1))
