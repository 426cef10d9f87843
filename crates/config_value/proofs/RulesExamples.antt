-- Which rules products follow, which requests they meet, and which are candidates, computed.
use Rattle.std.specs.Prelude.{◌≡◌, ℕ, pos, true, false, List, [], ◌∷◌, codes, map, replicate, refl}
use Rattle.std.proofs.Common.{◌∙◌, sym}
use mathlib.Core.Bool.{true≢false}
use Rattle.prod_model.specs.declared.model.Model.{Model}
use Rattle.prod_model.specs.declared.model.Order.{Order}
use Rattle.prod_model.specs.declared.model.Rule.{Rule}
use Rattle.prod_model.specs.declared.expr.Expr.{Expr}
use Rattle.prod_model.specs.Forest.{is_a}
use Rattle.prod_model.specs.Taxonomy.{attributes_of, ports_of}
use Rattle.prod_model.proofs.Forms.{num, attr, count, count_of, sum, total, number_of, less, at_most, equal, differs, at_least, greater, is_word, kind, and_of, or_of, negated, implied, all_linked, any_linked}
use Rattle.prod_model.proofs.Models.{rack, few, strong, one_small, fewest_cards, asks}
use Rattle.config_value.specs.declared.configuration.Instance.{Instance}
use Rattle.config_value.specs.Shaped.{is_shaped}
use Rattle.config_value.specs.Numbered.{is_numbered}
use Rattle.config_value.specs.Satisfies.{follows_rules, satisfies, meets, meets_kept, all_kept, IsCandidate}
use Rattle.config_value.specs.Rank.{key, rank, rank_order}
use Rattle.std.specs.declared.cmp.Ordering.TheVariants.{Less}
use Rattle.config_value.specs.Preferred.{IsPreferred}
use Rattle.config_value.proofs.ShapedExamples.{broken}
use Rattle.config_value.proofs.ValueLaws.{value_laws}
use Rattle.config_value.proofs.Products.{instance, rack_of, big, small_big, big_small, truths, two_cards}

abbrev rule : ℕ → Expr → Rule
rule kind holds = record { name = codes "rule"; kind = kind; holds = holds }

abbrev with_rules : List Rule → Model
with_rules rules = record truths { rules = rules }

abbrev yes : Expr
yes = less (num (pos 1)) (num (pos 2))

abbrev no : Expr
no = less (num (pos 2)) (num (pos 1))

-- ---- rules

-- Each form of a truth as a rule: of the rack, of big cards and of small ones.
every_truth : satisfies (with_rules (
    rule 1 (less (count 0) (num (pos 3)))
    ∷ rule 1 (at_most (count 0) (num (pos 2)))
    ∷ rule 1 (equal (count_of 0 4) (num (pos 1)))
    ∷ rule 1 (differs (sum 0 0) (num (pos 6)))
    ∷ rule 1 (at_least (total 2 0) (num (pos 7)))
    ∷ rule 1 (greater (number_of 0) (num (pos 2)))
    ∷ rule 1 (negated (less (count 0) (num (pos 2))))
    ∷ rule 1 (and_of (yes ∷ kind 0 ∷ kind 1 ∷ []))
    ∷ rule 1 (or_of (no ∷ kind 1 ∷ []))
    ∷ rule 1 (negated (kind 2))
    ∷ rule 1 (implied no no)
    ∷ rule 1 (implied yes (equal (count 0) (num (pos 2))))
    ∷ rule 1 (all_linked 0 (kind 2))
    ∷ rule 1 (negated (all_linked 0 (kind 4)))
    ∷ rule 1 (any_linked 0 (and_of (kind 4 ∷ is_word 1 1 ∷ [])))
    ∷ rule 1 (negated (any_linked 0 (equal (attr 0) (num (pos 9)))))
    ∷ rule 1 (all_linked 1 no)
    ∷ rule 1 (negated (any_linked 1 yes))
    ∷ rule 4 (is_word 1 1)
    ∷ rule 3 (negated (is_word 1 1)) ∷ [])) two_cards ≡ true
unfolding satisfies is_shaped broken is_numbered follows_rules
every_truth = simp value_laws

-- A rule that is false of an instance under its type is broken, whichever it is of the rules and of the instances.
broken_rules : map (λ rules. follows_rules (with_rules rules) two_cards) (
    [] ∷ (rule 1 no ∷ []) ∷ (rule 1 yes ∷ rule 1 no ∷ []) ∷ (rule 0 (less (attr 0) (num (pos 4))) ∷ []) ∷ (rule 2 (is_word 1 0) ∷ []) ∷ [])
    ≡ true ∷ false ∷ false ∷ false ∷ false ∷ []
unfolding follows_rules is_a attributes_of
broken_rules = simp value_laws

-- It isn't asked of others: a small card isn't big, and no instance is of type 5.
rules_of_others : map (λ rules. follows_rules (with_rules rules) two_cards) ((rule 3 (equal (attr 0) (num (pos 3))) ∷ []) ∷ (rule 4 (equal (attr 0) (num (pos 3))) ∷ []) ∷ (rule 5 no ∷ []) ∷ [])
    ≡ true ∷ false ∷ true ∷ []
unfolding follows_rules is_a attributes_of
rules_of_others = simp value_laws

-- A product satisfies the model where it is shaped, numbered and follows the rules: three that lack one of these.
abbrev at_most_two : Model
at_most_two = with_rules (rule 1 (less (count 0) (num (pos 3))) ∷ [])

lacking_one : map (satisfies at_most_two) (
    two_cards
    ∷ (instance 1 [] ((1 ∷ []) ∷ (1 ∷ []) ∷ []) ∷ instance 3 (pos 3 ∷ pos 0 ∷ []) [] ∷ [])
    ∷ (instance 1 [] ([] ∷ [] ∷ []) ∷ instance 3 (pos 3 ∷ pos 0 ∷ []) [] ∷ [])
    ∷ (instance 1 [] ((1 ∷ 2 ∷ 3 ∷ []) ∷ [] ∷ []) ∷ replicate 3 (instance 3 (pos 3 ∷ pos 0 ∷ []) []))
    ∷ []) ≡ true ∷ false ∷ false ∷ false ∷ []
unfolding satisfies is_shaped broken is_numbered follows_rules
lacking_one = simp value_laws

-- ---- requests

-- few, strong and small
abbrev order : Order
order = asks (few ∷ strong ∷ one_small ∷ []) (fewest_cards ∷ [])

abbrev two_big : List Instance
two_big = rack_of (1 ∷ 2 ∷ []) ∷ big ∷ big ∷ []

-- A small and a big card aren't few nor strong, but one is small. Two big ones are strong alone.
met : map (λ c. map (meets rack c) (few ∷ strong ∷ one_small ∷ [])) (small_big ∷ two_big ∷ []) ≡ (false ∷ false ∷ true ∷ []) ∷ (false ∷ true ∷ false ∷ []) ∷ []
unfolding meets is_a attributes_of ports_of
met = simp value_laws

-- A request is one of instance 0: the rack is no card, though others are.
met_at_root : map (meets rack small_big) (record { name = codes "r"; holds = kind 1 } ∷ record { name = codes "r"; holds = kind 2 } ∷ []) ≡ true ∷ false ∷ []
unfolding meets is_a
met_at_root = simp value_laws

-- Only what is kept has to be met.
kept : map (λ keep. meets_kept rack order keep two_big) (
    (false ∷ false ∷ false ∷ []) ∷ (false ∷ true ∷ false ∷ []) ∷ (false ∷ true ∷ true ∷ []) ∷ (true ∷ true ∷ false ∷ []) ∷ (true ∷ true ∷ true ∷ []) ∷ [])
    ≡ true ∷ true ∷ false ∷ false ∷ false ∷ []
unfolding meets_kept meets is_a attributes_of ports_of
kept = simp value_laws

-- A set of requests has a truth for each of them: none of another length is met.
other_length : map (λ keep. meets_kept rack order keep two_big) ([] ∷ (false ∷ false ∷ []) ∷ (false ∷ false ∷ false ∷ false ∷ []) ∷ []) ≡ false ∷ false ∷ false ∷ []
unfolding meets_kept
other_length = refl

-- Of no requests the empty set is met.
no_requests : map (λ keep. meets_kept rack (asks [] []) keep two_big) ([] ∷ (true ∷ []) ∷ []) ≡ true ∷ false ∷ []
unfolding meets_kept
no_requests = refl

all_three : all_kept order ≡ true ∷ true ∷ true ∷ []
all_three = refl

-- ---- candidates, and which is preferred

-- The small card and the big one are candidates for {small}, and not for {strong, small}.
small_big_for_small : IsCandidate rack order (false ∷ false ∷ true ∷ []) small_big
unfolding satisfies is_shaped broken is_numbered follows_rules meets_kept meets
small_big_for_small = record { satisfied = simp value_laws; met = simp value_laws }

small_big_is_not_strong : ¬ IsCandidate rack order (false ∷ true ∷ true ∷ []) small_big
unfolding meets_kept meets is_a attributes_of ports_of
small_big_is_not_strong candidate = true≢false (sym candidate.met ∙ simp value_laws)

-- Three big cards are strong and satisfy nothing.
three_big_are_too_much : ¬ IsCandidate rack order (false ∷ true ∷ false ∷ []) (rack_of (1 ∷ 2 ∷ 3 ∷ []) ∷ big ∷ big ∷ big ∷ [])
unfolding satisfies is_shaped broken is_numbered follows_rules
three_big_are_too_much candidate = true≢false (sym candidate.satisfied ∙ simp value_laws)

-- The big card and the small one aren't preferred for {small}: a small one and a big one rank before.
small_big_before : rank_order rack order small_big big_small ≡ Less
unfolding rank_order rank key ports_of
small_big_before = simp value_laws

big_small_is_not_preferred : ¬ IsPreferred rack order (false ∷ false ∷ true ∷ []) big_small
big_small_is_not_preferred preferred = preferred.none_before small_big small_big_for_small (simp small_big_before)
