-- What `is_numbered` tests is what `NumberedSentences` says.
use Rattle.std.proofs.Common.{◌≡◌, ◌≢◌, ◌∙◌, ℕ, zero, suc, ◌<◌, ◌≤◌, ◌-◌, ◌+◌, ◌==◌, ◌&&◌, ◌||◌, nat_lt, true, false, Bool, List, length, Option, Some, None, refl, sym, ap, ap₂, subst, eqb-true, eq-eqb, ne_eqb, lt-ltb, ltb-true, arith, inl, inr}
use Rattle.std.specs.Prelude.{IsTrue}
use Rattle.std.specs.Option.{option_map, option_map_or}
use Rattle.std.specs.List.{find, position, range_with_len}
use Rattle.std.proofs.lemmas.Bool.{and_parts, and_from, or_cases, or_left, or_right, cases_eq}
use Rattle.std.proofs.lemmas.Option.{same_Some, none-some}
use Rattle.base_laws.proofs.Finding.{found_first, first_found, first_position, position_first}
use Rattle.base_laws.proofs.Ranges.{range_with_len_from, range_with_len_lt, slice_get_range_with_len}
use Rattle.base_laws.proofs.Tests.{list_all_at, list_all_from}
use Rattle.config_value.specs.declared.configuration.Instance.{Instance}
use Rattle.config_value.specs.Numbered.{Link, all_links, mention, mentioned_by, is_mentioned_lower, is_mentioned_before, is_in_turn, is_numbered}
use Rattle.config_value.specs.Links.{LinkPlace, IsLinkBefore, IsFirstMention}
use Rattle.config_value.specs.NumberedSentences.{IsInOrder, NumberedSentences}
use Rattle.config_value.proofs.Mention.{leads_to}
use Rattle.config_value.proofs.FirstMentions.{IsMentioned, number_of, lower_number, number_lower, first_mentioned, mention_first}

module _ (c : List Instance) where
  -- an instance that a lower one mentions first has a first mention there
  record IsLower (j : ℕ) : Type 0 where
    link : Link
    found : find (leads_to j) (all_links c) ≡ Some link
    lower : link.from < j

  lower_at : (j : ℕ) → IsTrue (is_mentioned_lower c j) → IsLower j
  lower_at j h = by (find (leads_to j) (all_links c)) refl h
    where
      by : (o : Option Link) → find (leads_to j) (all_links c) ≡ o → IsTrue (option_map_or (λ i. nat_lt i j) (option_map (λ l. l.from) o) false) → IsLower j
      by None is h = absurd cc
      by (Some w) is h = record { link = w; found = is; lower = ltb-true w.from j h }

  lower_from : (j : ℕ) (w : Link) → find (leads_to j) (all_links c) ≡ Some w → w.from < j → IsTrue (is_mentioned_lower c j)
  lower_from j w found lower =
      ap (λ o. option_map_or (λ i. nat_lt i j) (option_map (λ l. l.from) o) false) found ∙ lt-ltb w.from j lower

  -- two instances of which the first is mentioned before the other
  record AreMentioned (i j : ℕ) : Type 0 where
    one : ℕ
    other : ℕ
    one_there : mention c i ≡ Some one
    other_there : mention c j ≡ Some other
    before : one < other

  before_at : (i j : ℕ) → IsTrue (is_mentioned_before c i j) → AreMentioned i j
  before_at i j h = by (mention c i) (mention c j) refl refl h
    where
      by : (o q : Option ℕ) → mention c i ≡ o → mention c j ≡ q → IsTrue (option_map_or (λ a. option_map_or (λ b. nat_lt a b) q false) o false) → AreMentioned i j
      by None q is also h = absurd cc
      by (Some a) None is also h = absurd cc
      by (Some a) (Some b) is also h = record { one = a; other = b; one_there = is; other_there = also; before = ltb-true a b h }

  before_from : (i j a b : ℕ) → mention c i ≡ Some a → mention c j ≡ Some b → a < b → IsTrue (is_mentioned_before c i j)
  before_from i j a b one other lower =
      ap₂ (λ o q. option_map_or (λ a. option_map_or (λ b. nat_lt a b) q false) o false) one other ∙ lt-ltb a b lower

  -- an instance that passes the test is in order
  in_order : (j : ℕ) → IsTrue (is_in_turn c j) → IsInOrder c j
  in_order j h =
      let parts = and_parts _ _ h in
      let lower = lower_at j parts.0 in
      let found = found_first (leads_to j) (all_links c) lower.link lower.found in
      let is = first_mentioned c j found.0 lower.link found.1 in
      let here : mention c j ≡ Some found.0 = first_position (leads_to j) (all_links c) found.0 lower.link found.1 in
      record {
        mention = is.mention;
        first = is.first;
        lower = let least = lower.lower in let from = is.from in omega arith;
        after = λ i next other. elim (or_cases _ _ parts.1) [
          | inl one ↦ absurd (let e = eqb-true j 1 one in other (omega arith))
          | inr more ↦
              (let same : j - 1 ≡ i = omega arith in
              let Before : ℕ → Type 0 = λ k. IsTrue (is_mentioned_before c k j) in
              let both = before_at i j (subst Before same more) in
              let first = position_first (leads_to i) (all_links c) both.one both.one_there in
              let that = first_mentioned c i both.one first.0 first.1 in
              let number : both.other ≡ found.0 = same_Some both.other found.0 (sym both.other_there ∙ here) in
              let rises = both.before in
              let one_is = that.number in
              let other_is = is.number in
              (that.mention, that.first, lower_number c i j that.mention is.mention that.first.is is.first.is (omega arith)))
        ];
      }

  -- an instance in order passes the test
  in_turn : (j : ℕ) → 1 ≤ j → IsInOrder c j → IsTrue (is_in_turn c j)
  in_turn j high o =
      let first = mention_first c j o.mention o.first in
      let found = first_found (leads_to j) (all_links c) (number_of c j o.mention o.first.is) (record { from = o.mention.from; to = j }) first in
      let here = first_position (leads_to j) (all_links c) (number_of c j o.mention o.first.is) (record { from = o.mention.from; to = j }) first in
      let lower = lower_from j (record { from = o.mention.from; to = j }) found o.lower in
      and_from _ _ lower (elim (cases_eq j 1) [
        | inl one ↦ or_left (j == 1) (is_mentioned_before c (j - 1) j) (eq-eqb j 1 one)
        | inr other ↦
            (let earlier = o.after (j - 1) (omega arith) (λ e. other (omega arith)) in
            let before = mention_first c (j - 1) earlier.0 earlier.1 in
            let there = first_position (leads_to (j - 1)) (all_links c) (number_of c (j - 1) earlier.0 earlier.1.is) (record { from = earlier.0.from; to = j - 1 }) before in
            or_right (j == 1) (is_mentioned_before c (j - 1) j) (before_from (j - 1) j (number_of c (j - 1) earlier.0 earlier.1.is) (number_of c j o.mention o.first.is) there here
            (number_lower c (j - 1) j earlier.0 o.mention earlier.1.is o.first.is earlier.2)))
      ])

-- instances are numbered exactly where each from 1 on is in order
pub numbered_sentences : NumberedSentences
unfolding is_numbered
numbered_sentences c = (
  λ h j high low. in_order c j (list_all_at (is_in_turn c) (range_with_len 1 (length c - 1)) h (j - 1) j (slice_get_range_with_len 1 (length c - 1) (j - 1) (omega arith) ∙ ap Some (omega arith))),
  λ each. list_all_from (is_in_turn c) (range_with_len 1 (length c - 1)) (λ k j at.
      let low = range_with_len_lt 1 (length c - 1) k j at in
      let high = range_with_len_from 1 (length c - 1) k j at in
      in_turn c j high (each j high (omega arith))),
)
