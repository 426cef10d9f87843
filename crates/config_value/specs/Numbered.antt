-- How the instances of a configuration are numbered: in the order in which they are first
-- mentioned.
use Rattle.std.specs.Prelude.{ℕ, ◌-◌, Bool, false, ◌&&◌, ◌||◌, ◌==◌, nat_lt, List, map, length}
use Rattle.std.specs.declared.option.Option.{Option}
use Rattle.std.specs.Option.{option_map, option_map_or}
use Rattle.std.specs.List.{list_all, flat_map, position, find, enumerate_from, range_with_len}
use Rattle.config_value.specs.declared.configuration.Instance.{Instance}

-- a link, by the numbers of the linking and of the linked instance
pub record Link : Type 0 where
  pub from : ℕ
  pub to : ℕ

-- all links, through the instances in order, their ports in order, and the links of a port in order
abbrev pub all_links : List Instance → List Link
all_links c =
    flat_map (λ e. flat_map (map (λ j. record { from = e.0; to = j })) e.1.links)
    (enumerate_from 0 c)

-- the first mention of an instance: the place of the first link to it
abbrev pub mention : List Instance → ℕ → Option ℕ
mention c j = position (λ l. l.to == j) (all_links c)

-- the instance that mentions it first
abbrev pub mentioned_by : List Instance → ℕ → Option ℕ
mentioned_by c j = option_map (λ l. l.from) (find (λ l. l.to == j) (all_links c))

-- a lower instance mentions it first
abbrev pub is_mentioned_lower : List Instance → ℕ → Bool
is_mentioned_lower c j = option_map_or (λ i. nat_lt i j) (mentioned_by c j) false

-- the first mention of one instance is before that of another
abbrev pub is_mentioned_before : List Instance → ℕ → ℕ → Bool
is_mentioned_before c i j =
    option_map_or (λ p. option_map_or (λ q. nat_lt p q) (mention c j) false) (mention c i) false

-- the instance is first mentioned by a lower one, and, but for instance 1, after the instance
-- numbered one less
abbrev pub is_in_turn : List Instance → ℕ → Bool
is_in_turn c j = is_mentioned_lower c j && ((j == 1) || is_mentioned_before c (j - 1) j)

-- Each instance from 1 on is in turn.
unfoldable pub is_numbered : List Instance → Bool
is_numbered c = list_all (is_in_turn c) (range_with_len 1 (length c - 1))
