-- What is seen of racks in partial states, computed: at the first state, after a card is made, and once the card is half known.
use Rattle.std.specs.Prelude.{◌≡◌, ℕ, ℤ, pos, negsuc, List, [], ◌∷◌, map, Some, None}
use Rattle.prod_model.specs.Forest.{is_a, is_leaf}
use Rattle.prod_model.specs.Taxonomy.{attributes_of, ports_of}
use Rattle.prod_model.proofs.Models.{rack}
use Rattle.prod_model.proofs.Forms.{num, attr, count, count_of, sum, total, number_of, sub, times, at_least, at_most, kind, and_of, or_of, negated, implied, all_linked, any_linked}
use Rattle.prod_model.proofs.ExprBoundsLaws.{bounds_laws}
use Rattle.config_value.specs.declared.literal.Literal.TheVariants as literal
use Rattle.state_space.specs.Made.{MadeInstance}
use Rattle.state_space.specs.Values.{Values, Numbers}
use Rattle.state_space.specs.Ports.{PortState}
use Rattle.state_space.specs.State.{State}
use Rattle.state_values.specs.Kleene.{True, False, Open}
use Rattle.state_values.specs.Ranges.{plain}
use Rattle.state_values.specs.Seen.{Between, Truth, seen_at}
use Rattle.state_values.proofs.SeenLaws.{seen_at_roll}

-- ---- states

abbrev pub interval : ℤ → ℤ → Values
interval low high = Numbers (record { low = low; high = high } ∷ [])

abbrev pub links : List ℕ → List ℕ → ℕ → ℕ → PortState
links required possible low high = record { required = required; possible = possible; fresh_low = low; fresh_high = high }

-- Racks, small and big cards have a price, which is attribute 0; cards have a power, which is attribute 1; racks have port 0.
abbrev pub rack_state : List MadeInstance → State
rack_state made = record { attribute_types = (1 ∷ 3 ∷ 4 ∷ []) ∷ (3 ∷ 4 ∷ []) ∷ []; port_types = (1 ∷ []) ∷ []; made = made }

abbrev pub made_rack : Values → PortState → MadeInstance
made_rack price cards = record { kinds = 1 ∷ []; domains = Some price ∷ None ∷ []; ports = Some cards ∷ [] }

abbrev pub made_card : List ℕ → Values → Values → MadeInstance
made_card kinds price power = record { kinds = kinds; domains = Some price ∷ Some power ∷ []; ports = None ∷ [] }

-- the first state: a rack of any price, which may link itself and up to four later instances
abbrev pub at_root : State
at_root = rack_state (made_rack (interval (pos 0) (pos 100)) (links [] (0 ∷ []) 0 4) ∷ [])

-- one card is made for it, of which nothing is known
abbrev pub with_card : State
with_card = rack_state (
    made_rack (interval (pos 0) (pos 100)) (links (1 ∷ []) (0 ∷ 1 ∷ []) 0 3)
    ∷ made_card (3 ∷ 4 ∷ []) (interval (pos 0) (pos 100)) (interval (pos 1) (pos 20)) ∷ [])

-- a rack of price 50 with exactly one card, small or big, of a price of 10 to 18 and a power of 5 to 12
abbrev pub one_card : State
one_card = rack_state (
    made_rack (interval (pos 50) (pos 50)) (links (1 ∷ []) (1 ∷ []) 0 0)
    ∷ made_card (3 ∷ 4 ∷ []) (interval (pos 10) (pos 18)) (interval (pos 5) (pos 12)) ∷ [])

-- a rack that may link itself, and no later instance
abbrev with_itself : State
with_itself = rack_state (made_rack (interval (pos 50) (pos 50)) (links [] (0 ∷ []) 0 0) ∷ [])

-- ---- the first state

-- The power of the cards is 0 to 80, at most 4 of 20 each: these are its bounds, so nothing has to be shown for either.
pub power_at_root : seen_at rack at_root 1 0 (sum 0 1) ≡ Between (record { low = plain (pos 0); high = plain (pos 80) })
unfolding attributes_of ports_of is_a is_leaf
power_at_root = simp (seen_at_roll, bounds_laws)

-- So a power of 81 is false by nothing, and one of 80 is open.
far_too_strong : seen_at rack at_root 1 0 (at_least (sum 0 1) (num (pos 81))) ≡ Truth (False [])
unfolding attributes_of ports_of is_a is_leaf
far_too_strong = simp (seen_at_roll, bounds_laws)

very_strong : seen_at rack at_root 1 0 (at_least (sum 0 1) (num (pos 80))) ≡ Truth Open
unfolding attributes_of ports_of is_a is_leaf
very_strong = simp (seen_at_roll, bounds_laws)

-- The items cost 0 to 500, at most five of 100 each.
pub cost_at_root : seen_at rack at_root 1 0 (total 0 0) ≡ Between (record { low = plain (pos 0); high = plain (pos 500) })
unfolding attributes_of ports_of is_a is_leaf
cost_at_root = simp (seen_at_roll, bounds_laws)

-- Of five items one is made, which is surely one.
items_at_root : seen_at rack at_root 1 0 (number_of 0) ≡ Between (record { low = record { number = pos 1; by = literal.Kind 0 0 ∷ [] }; high = plain (pos 5) })
unfolding is_a
items_at_root = simp (seen_at_roll, bounds_laws)

-- The rack is no card, and four cards may still be made.
cards_at_root : seen_at rack at_root 1 0 (number_of 2) ≡ Between (record { low = plain (pos 0); high = record { number = pos 4; by = literal.NotKind 0 2 ∷ [] } })
unfolding is_a
cards_at_root = simp (seen_at_roll, bounds_laws)

-- ---- one card is made

-- a card that must be linked has a power of 1 at least, as each card has
power_with_card : seen_at rack with_card 1 0 (sum 0 1) ≡ Between (record { low = record { number = pos 1; by = literal.Linked 0 0 1 ∷ [] }; high = plain (pos 80) })
unfolding attributes_of ports_of is_a is_leaf
power_with_card = simp (seen_at_roll, bounds_laws)

-- one card, which may be the rack itself by what is known, and up to three later ones
count_with_card : seen_at rack with_card 1 0 (count 0) ≡ Between (record { low = record { number = pos 1; by = literal.Linked 0 0 1 ∷ [] }; high = plain (pos 4) })
unfolding attributes_of ports_of
count_with_card = simp (seen_at_roll, bounds_laws)

-- ---- one card, small or big

-- The items cost 50 and 10 at least. Three more could be made, which cost 0 to 100 each.
pub cost : seen_at rack one_card 1 0 (total 0 0) ≡ Between (record {
  low = record { number = pos 60; by = literal.Kind 0 0 ∷ literal.AtLeast 0 0 (pos 50) ∷ literal.Kind 1 0 ∷ literal.AtLeast 1 0 (pos 10) ∷ [] };
  high = record { number = pos 368; by = literal.AtMost 0 0 (pos 50) ∷ literal.AtMost 1 0 (pos 18) ∷ [] };
})
unfolding attributes_of ports_of is_a is_leaf
cost = simp (seen_at_roll, bounds_laws)

-- The power is the card's: the rack is no card, and there are no later ones.
pub power : seen_at rack one_card 1 0 (sum 0 1) ≡ Between (record {
  low = record { number = pos 5; by = literal.Linked 0 0 1 ∷ literal.AtLeast 1 1 (pos 5) ∷ [] };
  high = record { number = pos 12; by = literal.NotKind 0 2 ∷ literal.AtMost 1 1 (pos 12) ∷ literal.FreshAtMost 0 0 2 0 ∷ [] };
})
unfolding attributes_of ports_of is_a is_leaf
power = simp (seen_at_roll, bounds_laws)

-- Exactly one link: one is required, the rack doesn't link itself, and no later instance.
one : seen_at rack one_card 1 0 (count 0) ≡ Between (record {
  low = record { number = pos 1; by = literal.Linked 0 0 1 ∷ [] };
  high = record { number = pos 1; by = literal.NotLinked 0 0 0 ∷ literal.FreshAtMost 0 0 2 0 ∷ [] };
})
unfolding attributes_of ports_of
one = simp (seen_at_roll, bounds_laws)

-- none or one of them is small, and none or one big; the rack isn't linked
small_ones : seen_at rack one_card 1 0 (count_of 0 3) ≡ Between (record {
  low = plain (pos 0);
  high = record { number = pos 1; by = literal.NotLinked 0 0 0 ∷ literal.FreshAtMost 0 0 2 0 ∷ [] };
})
unfolding attributes_of ports_of is_a is_leaf
small_ones = simp (seen_at_roll, bounds_laws)

-- 100 less three times the power: 100 - 36 to 100 - 15
less_power : seen_at rack one_card 1 0 (sub (num (pos 100)) (times (pos 3) (sum 0 1))) ≡ Between (record {
  low = record { number = pos 64; by = literal.NotKind 0 2 ∷ literal.AtMost 1 1 (pos 12) ∷ literal.FreshAtMost 0 0 2 0 ∷ [] };
  high = record { number = pos 85; by = literal.Linked 0 0 1 ∷ literal.AtLeast 1 1 (pos 5) ∷ [] };
})
unfolding attributes_of ports_of is_a is_leaf
less_power = simp (seen_at_roll, bounds_laws)

-- a factor below 0 turns the ends round: -2 times 5 to 12
negative : seen_at rack one_card 2 1 (times (negsuc 1) (attr 1)) ≡ Between (record {
  low = record { number = negsuc 23; by = literal.AtMost 1 1 (pos 12) ∷ [] };
  high = record { number = negsuc 9; by = literal.AtLeast 1 1 (pos 5) ∷ [] };
})
unfolding attributes_of ports_of
negative = simp (seen_at_roll, bounds_laws)

-- a power of 5 at least is true, of 13 false, of 6 open
strong : map (λ n. seen_at rack one_card 1 0 (at_least (sum 0 1) (num n))) (pos 5 ∷ pos 13 ∷ pos 6 ∷ [])
    ≡ Truth (True (literal.Linked 0 0 1 ∷ literal.AtLeast 1 1 (pos 5) ∷ []))
    ∷ Truth (False (literal.NotKind 0 2 ∷ literal.AtMost 1 1 (pos 12) ∷ literal.FreshAtMost 0 0 2 0 ∷ []))
    ∷ Truth Open ∷ []
unfolding attributes_of ports_of is_a is_leaf
strong = simp (seen_at_roll, bounds_laws)

-- ---- truths at the card, which stands at type 2

-- it is a card, no rack, and may be small
kinds : map (λ u. seen_at rack one_card 2 1 (kind u)) (2 ∷ 1 ∷ 3 ∷ [])
    ≡ Truth (True (literal.Kind 1 2 ∷ [])) ∷ Truth (False (literal.NotKind 1 1 ∷ [])) ∷ Truth Open ∷ []
unfolding is_a
kinds = simp (seen_at_roll)

-- not, and, or, if: one false part decides an `and`, one true part an `or`
joined : map (seen_at rack one_card 2 1) (negated (kind 2) ∷ and_of (kind 3 ∷ kind 1 ∷ []) ∷ and_of (kind 2 ∷ kind 3 ∷ []) ∷ or_of (kind 3 ∷ kind 2 ∷ []) ∷ implied (kind 1) (kind 3) ∷ implied (kind 3) (kind 1) ∷ [])
    ≡ Truth (False (literal.Kind 1 2 ∷ [])) ∷ Truth (False (literal.NotKind 1 1 ∷ [])) ∷ Truth Open
    ∷ Truth (True (literal.Kind 1 2 ∷ [])) ∷ Truth (True (literal.NotKind 1 1 ∷ [])) ∷ Truth Open ∷ []
unfolding is_a
joined = simp (seen_at_roll)

-- ---- all and any

-- all linked cards have a power of 12 at most: the rack doesn't link itself, the card has, and there are no later ones
all_weak : seen_at rack one_card 1 0 (all_linked 0 (at_most (attr 1) (num (pos 12))))
    ≡ Truth (True (literal.NotLinked 0 0 0 ∷ literal.AtMost 1 1 (pos 12) ∷ literal.FreshAtMost 0 0 2 0 ∷ []))
unfolding attributes_of ports_of is_a
all_weak = simp (seen_at_roll, bounds_laws)

-- some linked card has a power of 5 at least
any_strong : seen_at rack one_card 1 0 (any_linked 0 (at_least (attr 1) (num (pos 5)))) ≡ Truth (True (literal.Linked 0 0 1 ∷ literal.AtLeast 1 1 (pos 5) ∷ []))
unfolding attributes_of ports_of is_a
any_strong = simp (seen_at_roll, bounds_laws)

-- With later cards to come `all` is open, and a required card can make `any` true.
with_later : seen_at rack with_card 1 0 (all_linked 0 (at_most (attr 1) (num (pos 20)))) ∷ seen_at rack with_card 1 0 (any_linked 0 (at_most (attr 1) (num (pos 20)))) ∷ []
    ≡ Truth Open ∷ Truth (True (literal.Linked 0 0 1 ∷ [])) ∷ []
unfolding attributes_of ports_of is_a
with_later = simp (seen_at_roll, bounds_laws)

-- Each card has a power of 20 at most. But where a link may lead to the rack, which is no card, `all` and `any` are open.
outside_target : seen_at rack with_itself 1 0 (all_linked 0 (at_most (attr 1) (num (pos 20)))) ∷ seen_at rack with_itself 1 0 (any_linked 0 (at_most (attr 1) (num (pos 0)))) ∷ []
    ≡ Truth Open ∷ Truth Open ∷ []
unfolding attributes_of ports_of is_a
outside_target = simp (seen_at_roll, bounds_laws)
