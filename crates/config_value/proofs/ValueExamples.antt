-- Expressions at the instances of a small product, computed.
use Rattle.std.specs.Prelude.{codes, ◌≡◌, ℕ, pos, neg_ℤ, true, false, Bool, List, [], ◌∷◌, map}
use Rattle.prod_model.specs.declared.expr.Expr.{Expr}
use Rattle.prod_model.specs.Forest.{is_a}
use Rattle.prod_model.specs.Taxonomy.{attributes_of, ports_of}
use Rattle.config_value.specs.declared.found.Found.{Found}
use Rattle.config_value.specs.declared.found.Found.TheVariants.{Number as number}
use Rattle.config_value.specs.Value.{value_at, number_at, is_true_at}
use Rattle.prod_model.specs.declared.model.Model.{Model}
use Rattle.config_value.specs.declared.configuration.Instance.{Instance}
use Rattle.prod_model.proofs.Forms.{range, part, root_type, num, attr, count, count_of, sum, total, number_of, add, sub, times, less, at_most, equal, differs, at_least, greater, is_word, kind, and_of, or_of, negated, implied, all_linked, any_linked}
use Rattle.config_value.proofs.ValueLaws.{value_laws}
use Rattle.config_value.proofs.Products.{instance, truths, two_cards}

abbrev numbers_at : ℕ → List Expr → List Found
numbers_at i es = map (value_at truths two_cards i) es

-- whether each is true at the rack
abbrev at_rack : List Expr → List Bool
at_rack es = map (is_true_at truths two_cards 0) es

abbrev yes : Expr
yes = less (num (pos 1)) (num (pos 2))

abbrev no : Expr
no = less (num (pos 2)) (num (pos 1))

-- ---- numbers

-- A number is itself at each instance.
numbers : map (λ i. value_at truths two_cards i (num (neg_ℤ (pos 7)))) (0 ∷ 2 ∷ []) ≡ number (neg_ℤ (pos 7)) ∷ number (neg_ℤ (pos 7)) ∷ []
numbers = simp value_laws

-- An attribute is the value of the instance: powers 3 and 4, words 0 and 1.
attributes : map (λ i. map (value_at truths two_cards i) (attr 0 ∷ attr 1 ∷ [])) (1 ∷ 2 ∷ []) ≡ (number (pos 3) ∷ number (pos 0) ∷ []) ∷ (number (pos 4) ∷ number (pos 1) ∷ []) ∷ []
unfolding attributes_of
attributes = simp value_laws

-- An attribute that an instance lacks is 0 there, and so is one of no instance.
no_attributes : map (λ i. number_at truths two_cards i (attr 0)) (0 ∷ 3 ∷ []) ≡ pos 0 ∷ pos 0 ∷ []
unfolding attributes_of
no_attributes = simp value_laws

-- Two cards and no spare one; a port that the card lacks has no links.
counts : numbers_at 0 (count 0 ∷ count 1 ∷ []) ≡ number (pos 2) ∷ number (pos 0) ∷ []
unfolding ports_of
counts = simp value_laws

no_counts : map (λ i. value_at truths two_cards i (count 0)) (1 ∷ 3 ∷ []) ≡ number (pos 0) ∷ number (pos 0) ∷ []
unfolding ports_of
no_counts = simp value_laws

-- Among them two cards, one of them small, two items and no rack. Of the spare ones there is none.
counts_of : numbers_at 0 (count_of 0 2 ∷ count_of 0 3 ∷ count_of 0 4 ∷ count_of 0 0 ∷ count_of 0 1 ∷ count_of 1 2 ∷ [])
    ≡ number (pos 2) ∷ number (pos 1) ∷ number (pos 1) ∷ number (pos 2) ∷ number (pos 0) ∷ number (pos 0) ∷ []
unfolding ports_of is_a
counts_of = simp value_laws

-- The powers of the cards, and of the spare ones.
sums : numbers_at 0 (sum 0 0 ∷ sum 1 0 ∷ []) ≡ number (pos 7) ∷ number (pos 0) ∷ []
unfolding ports_of attributes_of
sums = simp value_laws

-- The powers of all cards, of the small ones and of all racks, from whatever instance it is asked.
totals : numbers_at 1 (total 2 0 ∷ total 3 0 ∷ total 4 0 ∷ total 1 0 ∷ []) ≡ number (pos 7) ∷ number (pos 3) ∷ number (pos 4) ∷ number (pos 0) ∷ []
unfolding is_a attributes_of
totals = simp value_laws

-- Three items: a rack and two cards, one of each kind. What is no type has no instances.
numbers_of : numbers_at 2 (number_of 0 ∷ number_of 1 ∷ number_of 2 ∷ number_of 3 ∷ number_of 4 ∷ number_of 5 ∷ [])
    ≡ number (pos 3) ∷ number (pos 1) ∷ number (pos 2) ∷ number (pos 1) ∷ number (pos 1) ∷ number (pos 0) ∷ []
unfolding is_a
numbers_of = simp value_laws

additions : numbers_at 2 (add (attr 0 ∷ []) ∷ add (attr 0 ∷ attr 1 ∷ num (neg_ℤ (pos 9)) ∷ []) ∷ []) ≡ number (pos 4) ∷ number (neg_ℤ (pos 4)) ∷ []
unfolding attributes_of
additions = simp value_laws

differences : numbers_at 2 (sub (attr 0) (attr 1) ∷ sub (attr 1) (attr 0) ∷ []) ≡ number (pos 3) ∷ number (neg_ℤ (pos 3)) ∷ []
unfolding attributes_of
differences = simp value_laws

multiples : numbers_at 2 (times (pos 5) (attr 0) ∷ times (neg_ℤ (pos 5)) (attr 0) ∷ times (pos 0) (attr 0) ∷ []) ≡ number (pos 20) ∷ number (neg_ℤ (pos 20)) ∷ number (pos 0) ∷ []
unfolding attributes_of
multiples = simp value_laws

-- ---- comparisons

-- 1, 2 and 3 against 2, in this order
abbrev against_two : (Expr → Expr → Expr) → List Bool
against_two f = at_rack (f (num (pos 1)) (num (pos 2)) ∷ f (num (pos 2)) (num (pos 2)) ∷ f (num (pos 3)) (num (pos 2)) ∷ [])

comparisons : map against_two (less ∷ at_most ∷ equal ∷ differs ∷ at_least ∷ greater ∷ [])
    ≡ (true ∷ false ∷ false ∷ []) ∷ (true ∷ true ∷ false ∷ []) ∷ (false ∷ true ∷ false ∷ [])
    ∷ (true ∷ false ∷ true ∷ []) ∷ (false ∷ true ∷ true ∷ []) ∷ (false ∷ false ∷ true ∷ []) ∷ []
comparisons = simp value_laws

-- A lesser number may be negative, and so may both.
negative_comparisons : at_rack (less (num (neg_ℤ (pos 1))) (num (pos 0)) ∷ less (num (neg_ℤ (pos 2))) (num (neg_ℤ (pos 1))) ∷ less (num (neg_ℤ (pos 1))) (num (neg_ℤ (pos 2))) ∷ equal (num (neg_ℤ (pos 1))) (num (pos 1)) ∷ [])
    ≡ true ∷ true ∷ false ∷ false ∷ []
negative_comparisons = simp value_laws

-- The two sides may be any numbers: 2 cards, and a power of 7.
compared : at_rack (less (count 0) (sum 0 0) ∷ greater (count 0) (sum 0 0) ∷ []) ≡ true ∷ false ∷ []
unfolding ports_of attributes_of
compared = simp value_laws

-- ---- truths

-- The small card is of bus sata, which is word 0, and the big one of bus sas, which is word 1.
buses : map (λ i. map (is_true_at truths two_cards i) (is_word 1 0 ∷ is_word 1 1 ∷ [])) (1 ∷ 2 ∷ []) ≡ (true ∷ false ∷ []) ∷ (false ∷ true ∷ []) ∷ []
unfolding attributes_of
buses = simp value_laws

-- A small card is small, a card and an item, and neither big nor a rack.
kinds : map (λ t. is_true_at truths two_cards 1 (kind t)) (0 ∷ 1 ∷ 2 ∷ 3 ∷ 4 ∷ []) ≡ true ∷ false ∷ true ∷ true ∷ false ∷ []
unfolding is_a
kinds = simp value_laws

-- What is no instance is of no type.
kind_of_none : is_true_at truths two_cards 3 (kind 0) ≡ false
unfolding is_a
kind_of_none = simp value_laws

conjunctions : at_rack (and_of (yes ∷ []) ∷ and_of (yes ∷ yes ∷ yes ∷ []) ∷ and_of (yes ∷ yes ∷ no ∷ []) ∷ and_of (no ∷ yes ∷ []) ∷ []) ≡ true ∷ true ∷ false ∷ false ∷ []
conjunctions = simp value_laws

disjunctions : at_rack (or_of (no ∷ []) ∷ or_of (no ∷ no ∷ []) ∷ or_of (no ∷ yes ∷ []) ∷ or_of (yes ∷ no ∷ []) ∷ []) ≡ false ∷ false ∷ true ∷ true ∷ []
disjunctions = simp value_laws

negations : at_rack (negated yes ∷ negated no ∷ []) ≡ false ∷ true ∷ []
negations = simp value_laws

-- It is false only where the first is true and the second isn't.
conditions : at_rack (implied yes yes ∷ implied yes no ∷ implied no yes ∷ implied no no ∷ []) ≡ true ∷ false ∷ true ∷ true ∷ []
conditions = simp value_laws

-- Each card is a card, and not each one is big.
all_cards : at_rack (all_linked 0 (kind 2) ∷ all_linked 0 (kind 4) ∷ all_linked 0 (kind 1) ∷ []) ≡ true ∷ false ∷ false ∷ []
unfolding ports_of is_a
all_cards = simp value_laws

-- Some card is big and of bus sas, and none is small and of it.
any_card : at_rack (any_linked 0 (and_of (kind 4 ∷ is_word 1 1 ∷ [])) ∷ any_linked 0 (and_of (kind 3 ∷ is_word 1 1 ∷ [])) ∷ any_linked 0 (equal (attr 0) (num (pos 9))) ∷ []) ≡ true ∷ false ∷ false ∷ []
unfolding ports_of attributes_of is_a
any_card = simp value_laws

-- Of no spare cards all is true, and nothing is true of some.
spare_cards : at_rack (all_linked 1 no ∷ any_linked 1 yes ∷ []) ≡ true ∷ false ∷ []
unfolding ports_of
spare_cards = simp value_laws

-- ---- ids of several trees

-- types 0 Box, 1 Card; attributes 0 width of Box, 1 power and 2 depth of Card; ports 0 lid of Box, 1 slot and 2 chip of Card
abbrev trees : Model
trees = record {
  root = 0;
  instances = 3;
  types =
      root_type (codes "Box") (range (codes "width") (pos 0) (pos 9) ∷ []) (part (codes "lid") 1 0 1 ∷ [])
      ∷ root_type (codes "Card") (range (codes "power") (pos 0) (pos 9) ∷ range (codes "depth") (pos 0) (pos 9) ∷ []) (part (codes "slot") 0 0 2 ∷ part (codes "chip") 0 0 2 ∷ [])
      ∷ [];
  bounds = [];
  rules = [];
}

abbrev box_and_card : List Instance
box_and_card = instance 0 (pos 5 ∷ []) ((1 ∷ []) ∷ []) ∷ instance 1 (pos 3 ∷ pos 8 ∷ []) ([] ∷ (0 ∷ 1 ∷ []) ∷ []) ∷ []

-- An attribute is found by its id: the box has the first alone, and the card the others.
attributes_of_trees : map (λ i. map (λ a. number_at trees box_and_card i (attr a)) (0 ∷ 1 ∷ 2 ∷ [])) (0 ∷ 1 ∷ []) ≡ (pos 5 ∷ pos 0 ∷ pos 0 ∷ []) ∷ (pos 0 ∷ pos 3 ∷ pos 8 ∷ []) ∷ []
unfolding attributes_of
attributes_of_trees = simp value_laws

-- So is a port.
ports_of_trees : map (λ i. map (λ p. number_at trees box_and_card i (count p)) (0 ∷ 1 ∷ 2 ∷ [])) (0 ∷ 1 ∷ []) ≡ (pos 1 ∷ pos 0 ∷ pos 0 ∷ []) ∷ (pos 0 ∷ pos 0 ∷ pos 2 ∷ []) ∷ []
unfolding ports_of
ports_of_trees = simp value_laws

-- Linked instances may link on: some card of the box has a chip that is a box, and not each chip is.
two_links : map (is_true_at trees box_and_card 0) (any_linked 0 (any_linked 2 (kind 0)) ∷ any_linked 0 (all_linked 2 (kind 0)) ∷ all_linked 0 (any_linked 1 (kind 0)) ∷ []) ≡ true ∷ false ∷ false ∷ []
unfolding ports_of is_a
two_links = simp value_laws
