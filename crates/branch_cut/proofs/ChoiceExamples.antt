-- Choices of a rack's first state, computed, and when a state is stuck.
use Rattle.std.specs.Prelude.{◌≡◌, ℕ, pos, true, false, List, [], ◌∷◌, map, Some, None, refl}
use Rattle.prod_model.specs.declared.model.Model.{Model}
use Rattle.prod_model.specs.Forest.{is_a, is_leaf}
use Rattle.prod_model.specs.Taxonomy.{attributes_of, ports_of}
use Rattle.prod_model.proofs.Models.{rack}
use Rattle.config_value.specs.declared.literal.Literal.TheVariants.{Made, Kind, NotKind, AtMost, AtLeast, Linked, NotLinked, FreshAtMost, FreshAtLeast}
use Rattle.config_value.specs.Literals.{has_literal}
use Rattle.config_value.proofs.Products.{small_big}
use Rattle.state_space.specs.Values.{Numbers}
use Rattle.state_space.specs.State.{State}
use Rattle.state_space.specs.Root.{root}
use Rattle.state_space.specs.Entails.{entails, fits}
use Rattle.state_space.specs.Generation.{first_open}
use Rattle.branch_cut.specs.declared.branch.Branch.{Branch}
use Rattle.branch_cut.specs.Branching.{is_stuck_in, fits_either, entails_neither}

-- A rack that may link itself and so many later cards. Its price is attribute 0, and its cards are port 0.
abbrev rack_with : ℕ → ℕ → State
rack_with low high = record {
  attribute_types = (1 ∷ 3 ∷ 4 ∷ []) ∷ (3 ∷ 4 ∷ []) ∷ [];
  port_types = (1 ∷ []) ∷ [];
  made = record {
    kinds = 1 ∷ [];
    domains = Some (Numbers (record { low = pos 0; high = pos 100 } ∷ [])) ∷ None ∷ [];
    ports = Some (record { required = []; possible = 0 ∷ []; fresh_low = low; fresh_high = high }) ∷ [];
  } ∷ [];
}

first_state : root rack ≡ rack_with 0 4
unfolding root is_a is_leaf attributes_of ports_of
first_state = refl

-- its price, its link to itself, its later cards; a price that is known already, a type, and a power that it lacks
abbrev branches : List Branch
branches =
    record { first = AtMost 0 0 (pos 0); second = AtLeast 0 0 (pos 1) } ∷ record { first = Linked 0 0 0; second = NotLinked 0 0 0 }
    ∷ record { first = FreshAtLeast 0 0 1 1; second = FreshAtMost 0 0 1 0 } ∷ record { first = AtMost 0 0 (pos 100); second = AtLeast 0 0 (pos 101) }
    ∷ record { first = Kind 0 1; second = NotKind 0 1 } ∷ record { first = AtMost 0 1 (pos 5); second = AtLeast 0 1 (pos 6) } ∷ []

all_but_the_last_fit : map (fits_either rack (rack_with 0 4)) branches ≡ true ∷ true ∷ true ∷ true ∷ true ∷ false ∷ []
unfolding fits is_a attributes_of ports_of
all_but_the_last_fit = refl

known_ones_are_entailed : map (entails_neither rack (rack_with 0 4)) branches ≡ true ∷ true ∷ true ∷ false ∷ false ∷ true ∷ []
unfolding entails is_a attributes_of ports_of
known_ones_are_entailed = refl

-- a rack of a small and a big card has the second literals of price and link, and the first one of cards
firsts_held : map (λ (b : Branch). has_literal rack small_big b.first) branches ≡ false ∷ false ∷ true ∷ true ∷ true ∷ false ∷ []
unfolding has_literal is_a attributes_of ports_of
firsts_held = refl

seconds_held : map (λ (b : Branch). has_literal rack small_big b.second) branches ≡ true ∷ true ∷ false ∷ false ∷ false ∷ false ∷ []
unfolding has_literal is_a attributes_of ports_of
seconds_held = refl

-- where a card is owed, the next instance and no later card are a choice that is left open
abbrev next_card : Branch
next_card = record { first = Made 1; second = FreshAtMost 0 0 1 0 }

owed_fits : fits_either rack (rack_with 1 4) next_card ≡ true
unfolding fits first_open is_a attributes_of ports_of
owed_fits = refl

owed_is_open : entails_neither rack (rack_with 1 4) next_card ≡ true
unfolding entails is_a attributes_of ports_of
owed_is_open = refl

-- a rack alone is stuck where a card is owed and there is but one instance
abbrev one_instance : Model
one_instance = record rack { instances = 1 }

stuck : is_stuck_in one_instance (rack_with 1 4) ∷ is_stuck_in one_instance (rack_with 0 4) ∷ is_stuck_in rack (rack_with 1 4) ∷ [] ≡ true ∷ false ∷ false ∷ []
unfolding first_open attributes_of ports_of
stuck = refl
