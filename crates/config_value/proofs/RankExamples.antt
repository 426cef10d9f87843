-- Racks with cards: their keys, their ranks, and which of them come first, computed.
use Rattle.std.specs.Prelude.{◌≡◌, pos, neg_ℤ, true, false, List, [], ◌∷◌, codes, map, refl}
use Rattle.std.specs.List.{range_with_len}
use Rattle.std.specs.declared.cmp.Ordering.TheVariants.{Less, Equal, Greater}
use Rattle.prod_model.specs.declared.model.Criterion.{Criterion}
use Rattle.prod_model.specs.declared.model.Order.{Order}
use Rattle.prod_model.specs.Forest.{is_a}
use Rattle.prod_model.specs.Taxonomy.{attributes_of, ports_of}
use Rattle.config_value.specs.declared.configuration.Instance.{Instance}
use Rattle.config_value.specs.Numbered.{is_numbered}
use Rattle.config_value.specs.Satisfies.{follows_rules, satisfies}
use Rattle.config_value.specs.Shaped.{is_shaped}
use Rattle.config_value.specs.Rank.{key, key_order, rank, rank_order, ranks_before}
use Rattle.prod_model.specs.declared.expr.Expr.{Expr}
use Rattle.prod_model.proofs.Forms.{num, attr, count, count_of, sum, total, number_of, add, sub, times}
use Rattle.prod_model.proofs.Models.{rack, fewest_cards, most_cards, cheapest, asks}
use Rattle.config_value.proofs.ShapedExamples.{broken}
use Rattle.config_value.proofs.ValueLaws.{value_laws}
use Rattle.config_value.proofs.Products.{instance, rack_of, small, big, small_big, big_small, two_ports_of, card}

abbrev by : List Criterion → Order
by criteria = asks [] criteria

-- ---- two racks that tie in the number of cards

-- Both are shaped and numbered, and satisfy the model: 17 of at most 30 power.
both_shaped : map (is_shaped rack) (small_big ∷ big_small ∷ []) ≡ true ∷ true ∷ []
unfolding is_shaped broken
both_shaped = refl

both_numbered : map is_numbered (small_big ∷ big_small ∷ []) ≡ true ∷ true ∷ []
unfolding is_numbered
both_numbered = refl

both_satisfy : map (satisfies rack) (small_big ∷ big_small ∷ []) ≡ true ∷ true ∷ []
unfolding satisfies is_shaped broken is_numbered follows_rules
both_satisfy = simp value_laws

-- Two big cards and a small one have 29 of power, and three big ones 36, which is too much.
load : map (satisfies rack) ((rack_of (1 ∷ 2 ∷ 3 ∷ []) ∷ small ∷ big ∷ big ∷ []) ∷ (rack_of (1 ∷ 2 ∷ 3 ∷ []) ∷ big ∷ big ∷ big ∷ []) ∷ []) ≡ true ∷ false ∷ []
unfolding satisfies is_shaped broken is_numbered follows_rules
load = simp value_laws

-- ---- keys

-- For each instance its type, its values, and for each port the number of links and the links.
key_of_small_big : key small_big ≡ pos 1 ∷ pos 50 ∷ pos 2 ∷ pos 1 ∷ pos 2 ∷ pos 3 ∷ pos 10 ∷ pos 5 ∷ pos 4 ∷ pos 18 ∷ pos 12 ∷ []
unfolding key
key_of_small_big = refl

key_of_big_small : key big_small ≡ pos 1 ∷ pos 50 ∷ pos 2 ∷ pos 1 ∷ pos 2 ∷ pos 4 ∷ pos 18 ∷ pos 12 ∷ pos 3 ∷ pos 10 ∷ pos 5 ∷ []
unfolding key
key_of_big_small = refl

-- A port without links has the number 0 alone.
key_of_two_ports : key (two_ports_of [] (1 ∷ []) ∷ card ∷ []) ≡ pos 0 ∷ pos 0 ∷ pos 1 ∷ pos 1 ∷ pos 1 ∷ []
unfolding key
key_of_two_ports = refl

-- An instance that links as many others as there can be has their number, and then all of them.
key_of_most_links : key (instance 1 (pos 50 ∷ []) (range_with_len 1 255 ∷ []) ∷ []) ≡ pos 1 ∷ pos 50 ∷ pos 255 ∷ map pos (range_with_len 1 255)
unfolding key
key_of_most_links = refl

-- A value may be negative.
key_of_negative : key (instance 2 (neg_ℤ (pos 3) ∷ []) [] ∷ []) ≡ pos 2 ∷ neg_ℤ (pos 3) ∷ []
unfolding key
key_of_negative = refl

no_key : key [] ≡ []
unfolding key
no_key = refl

-- Small is the lesser type.
small_first : key_order small_big big_small ≡ Less
unfolding key
small_first = refl

small_first_reversed : key_order big_small small_big ≡ Greater
unfolding key
small_first_reversed = refl

same_key : key_order small_big small_big ≡ Equal
unfolding key
same_key = refl

-- A proper prefix comes first, and so does nothing at all.
prefix_first : map (key_order (rack_of [] ∷ [])) ((rack_of [] ∷ small ∷ []) ∷ [] ∷ []) ≡ Less ∷ Greater ∷ []
unfolding key
prefix_first = refl

-- The number of links comes before the links, and a port before the next one.
card_on_the_right : key_order (two_ports_of [] (1 ∷ []) ∷ card ∷ []) (two_ports_of (1 ∷ []) [] ∷ card ∷ []) ≡ Less
unfolding key
card_on_the_right = refl

-- -2 is less than 1, and less than -1.
negative_values : map (key_order (instance 2 (neg_ℤ (pos 2) ∷ []) [] ∷ [])) ((instance 2 (pos 1 ∷ []) [] ∷ []) ∷ (instance 2 (neg_ℤ (pos 1) ∷ []) [] ∷ []) ∷ (instance 2 (neg_ℤ (pos 3) ∷ []) [] ∷ []) ∷ [])
    ≡ Less ∷ Less ∷ Greater ∷ []
unfolding key
negative_values = refl

-- ---- ranks

-- Two cards; negated where they are maximised.
ranks : map (λ r. rank rack (by (r ∷ [])) small_big) (fewest_cards ∷ most_cards ∷ cheapest ∷ []) ≡ (pos 2 ∷ []) ∷ (neg_ℤ (pos 2) ∷ []) ∷ (pos 78 ∷ []) ∷ []
unfolding rank is_a attributes_of ports_of
ranks = simp value_laws

-- There is a value for each criterion, in order.
rank_of_both : rank rack (by (cheapest ∷ fewest_cards ∷ [])) big_small ≡ pos 78 ∷ pos 2 ∷ []
unfolding rank is_a attributes_of ports_of
rank_of_both = simp value_laws

no_rank : rank rack (by []) small_big ≡ []
unfolding rank
no_rank = refl

-- They tie by their numbers of cards, and the keys decide, whether least or greatest comes first.
tied : map (λ r. ranks_before rack (by (r ∷ [])) small_big big_small) (fewest_cards ∷ most_cards ∷ []) ≡ true ∷ true ∷ []
unfolding rank_order rank key ports_of
tied = simp value_laws

tied_reversed : map (λ r. ranks_before rack (by (r ∷ [])) big_small small_big) (fewest_cards ∷ most_cards ∷ []) ≡ false ∷ false ∷ []
unfolding rank_order rank key ports_of
tied_reversed = simp value_laws

-- Without criteria the keys decide alone, and none ranks before itself.
by_key_alone : map (ranks_before rack (by []) small_big) (big_small ∷ small_big ∷ []) ≡ true ∷ false ∷ []
unfolding rank_order rank key
by_key_alone = refl

-- a rack with one big card, and one with two small ones
abbrev one_big : List Instance
one_big = rack_of (1 ∷ []) ∷ big ∷ []

abbrev two_small : List Instance
two_small = rack_of (1 ∷ 2 ∷ []) ∷ small ∷ small ∷ []

-- The rack with one card has the lesser key. A criterion goes before the key: most cards first.
criterion_first : map (λ criteria. ranks_before rack (by criteria) two_small one_big) ([] ∷ (fewest_cards ∷ []) ∷ (most_cards ∷ []) ∷ []) ≡ false ∷ false ∷ true ∷ []
unfolding rank_order rank key ports_of
criterion_first = simp value_laws

-- The first criterion that tells them apart decides: one card for 68, or two for 70.
first_criterion : map (λ criteria. ranks_before rack (by criteria) two_small one_big) ((most_cards ∷ cheapest ∷ []) ∷ (cheapest ∷ most_cards ∷ []) ∷ []) ≡ true ∷ false ∷ []
unfolding rank_order rank key is_a attributes_of ports_of
first_criterion = simp value_laws

-- the price of all instances, greatest first
abbrev dearest : Criterion
dearest = record { name = codes "cost"; maximise = true; value = total 0 0 }

-- The second one decides where the first ties, before the key does: two cards for 70 or 78.
second_criterion : map (λ r. ranks_before rack (by (fewest_cards ∷ r ∷ [])) two_small big_small) (cheapest ∷ dearest ∷ []) ≡ true ∷ false ∷ []
unfolding rank_order rank key is_a attributes_of ports_of
second_criterion = simp value_laws

second_criterion_reversed : map (λ r. ranks_before rack (by (fewest_cards ∷ r ∷ [])) big_small two_small) (cheapest ∷ dearest ∷ []) ≡ false ∷ true ∷ []
unfolding rank_order rank key is_a attributes_of ports_of
second_criterion_reversed = simp value_laws

-- ---- each form of a number as a criterion

abbrev maximised : Expr → Criterion
maximised e = record { name = codes "m"; maximise = true; value = e }

abbrev minimised : Expr → Criterion
minimised e = record { name = codes "n"; maximise = false; value = e }

-- Two cards, one of them big, a power of 17; a price of 78, two cards, 1 + 50 + 2, 50 - 7, and -3 for each small card.
every_number : rank rack (by (
    maximised (count 0) ∷ maximised (count_of 0 4) ∷ maximised (sum 0 1) ∷ minimised (total 0 0) ∷ minimised (number_of 2)
    ∷ minimised (add (num (pos 1) ∷ attr 0 ∷ num (pos 2) ∷ [])) ∷ minimised (sub (attr 0) (num (pos 7))) ∷ minimised (times (neg_ℤ (pos 3)) (number_of 3)) ∷ [])) small_big
    ≡ neg_ℤ (pos 2) ∷ neg_ℤ (pos 1) ∷ neg_ℤ (pos 17) ∷ pos 78 ∷ pos 2 ∷ pos 53 ∷ pos 43 ∷ neg_ℤ (pos 3) ∷ []
unfolding rank is_a attributes_of ports_of
every_number = simp value_laws
