-- What the values of a file stand for where they pass the tests of F04 to F08, and back: names, words, numbers, pairs and attributes.
use Rattle.std.proofs.Common.{◌≡◌, ℕ, zero, suc, ◌≤◌, Bool, true, List, map, length, refl, sym, ap, subst, ◌∙◌, ◌⊎◌, inl, inr, arith}
use Rattle.std.specs.Prelude.{IsTrue, ℤ, pos, negsuc, nat_lt, int_le, ◌&&◌, ◌==◌, codes, if◌then◌else◌}
use Rattle.std.proofs.lemmas.Bool.{false≢true, and_parts, and_from}
use Rattle.std.proofs.lemmas.Bool.Decides.{nat_tests}
use Rattle.std.proofs.lemmas.List.{length-map}
use Rattle.std.proofs.lemmas.Option.{same_Some, slice_get_within, slice_get-get_or}
use Rattle.serde_json.specs.Data.{Data, null}
use Rattle.base_laws.specs.Places.{IsAt}
use Rattle.base_laws.proofs.Places.{map_at, at_map}
use Rattle.base_laws.proofs.Tests.{list_all_at, list_all_from}
use Rattle.prod_model.specs.declared.model.Domain.TheVariants as domain
use Rattle.prod_model.specs.Limits.{is_between, is_within, farthest_end, most_links, most_instances}
use Rattle.prod_model.specs.Names.{is_name, is_word, is_distinct, same_text}
use Rattle.prod_model.specs.Valid.{is_pair as is_count_pair}
use Rattle.file_values.specs.declared.format.Format.{Format}
use Rattle.file_values.specs.declared.kind.Kind.{Kind}
use Rattle.file_values.specs.declared.kind.Kind.TheVariants as kind
use Rattle.file_values.specs.Table.{members_of, item_of}
use Rattle.file_values.specs.Read.{items_in, item_at, text_in, whole_in, low_in, high_in}
use Rattle.file_values.specs.Kinds.{is_right, is_pair}
use Rattle.file_values.specs.Tests.{is_short, is_formed, is_in_limits, is_known, is_count_between}
use Rattle.file_values.specs.Twice.{Placed, texts_in}
use Rattle.file_meaning.specs.ModelOf.{name_in, word_in, count_of, number_named}
use Rattle.file_meaning.proofs.NoneFails.{by_test, NoneFails, whole_passes, none-item, leaf_from, list_from}
use Rattle.file_meaning.proofs.NameLists.{map_same, texts_numbered, found_within, within_found, found_at}
use Rattle.file_meaning.proofs.GoodParts.{IsGoodDomain}

-- ---- the tests of F04 to F08 at once

-- the texts of a value that have to differ do
abbrev pub has_different_texts : Kind → Data → Bool
has_different_texts k d = is_distinct (map (λ (p : Placed). p.text) (texts_in k d))

unfoldable pub passes_rest : List (List ℕ) → Kind → Data → Bool
passes_rest names k d = is_short k d && is_formed k d && is_in_limits k d && is_known names k d && has_different_texts k d

-- what a value passes
pub record Passes (names : List (List ℕ)) (k : Kind) (d : Data) : Type 0 where
  pub short : IsTrue (is_short k d)
  pub formed : IsTrue (is_formed k d)
  pub limits : IsTrue (is_in_limits k d)
  pub known : IsTrue (is_known names k d)
  pub different : IsTrue (has_different_texts k d)

pub rest_parts : (names : List (List ℕ)) (k : Kind) (d : Data) → IsTrue (passes_rest names k d) → Passes names k d
unfolding passes_rest
rest_parts names k d passes =
    let a = and_parts _ _ passes in
    let b = and_parts _ _ a.0 in
    let c = and_parts _ _ b.0 in
    let e = and_parts _ _ c.0 in
    record { short = e.0; formed = e.1; limits = c.1; known = b.1; different = a.1 }

pub rest_from : (names : List (List ℕ)) (k : Kind) (d : Data) → Passes names k d → IsTrue (passes_rest names k d)
unfolding passes_rest
rest_from names k d p = and_from _ _ (and_from _ _ (and_from _ _ (and_from _ _ p.short p.formed) p.limits) p.known) p.different

-- ---- names, words and numbers

-- `-` stands for what is no name
pub name_is_good : (d : Data) → IsTrue (is_name (text_in d)) → IsTrue (is_name (name_in d))
name_is_good d is = ap (λ b. is_name (if b then text_in d else codes "-")) is ∙ is

pub good_name : (d : Data) → IsTrue (is_name (name_in d)) → IsTrue (is_name (text_in d))
unfolding is_name
good_name d good = by_test (is_name (text_in d)) (λ is. is)
    (λ other. absurd (false≢true (sym (ap (λ b. is_name (if b then text_in d else codes "-")) other) ∙ good)))

pub name_same : (d : Data) → IsTrue (is_name (text_in d)) → name_in d ≡ text_in d
name_same d is = ap (λ b. if b then text_in d else codes "-") is

-- `/` stands for what is no word
pub word_is_good : (d : Data) → IsTrue (is_word (text_in d)) → IsTrue (is_word (word_in d))
word_is_good d is = ap (λ b. is_word (if b then text_in d else codes "/")) is ∙ is

pub good_word : (d : Data) → IsTrue (is_word (word_in d)) → IsTrue (is_word (text_in d))
unfolding is_word
good_word d good = by_test (is_word (text_in d)) (λ is. is)
    (λ other. absurd (false≢true (sym (ap (λ b. is_word (if b then text_in d else codes "/")) other) ∙ good)))

pub word_same : (d : Data) → IsTrue (is_word (text_in d)) → word_in d ≡ text_in d
word_same d is = ap (λ b. if b then text_in d else codes "/") is

-- a count within its limits, and one past them
count_cases : (n : ℤ) → (IsTrue (is_count_between 0 most_links n) × (k : ℕ) × (n ≡ pos k) × (count_of n ≡ k) × (k ≤ 256)) ⊎ (count_of n ≡ 257)
count_cases (pos k) = by_test (is_count_between 0 most_links (pos k))
    (λ is. inl (is, k, refl, ap (λ b. if b then k else 257) is, grind (arith, nat_tests)))
    (λ other. inr (ap (λ b. if b then k else 257) other))
count_cases (negsuc k) = inr refl

-- what is low and high of a pair of counts
pub counts_are_good : (low high : ℤ) → IsTrue (is_count_between 0 most_links low) → IsTrue (is_count_between 0 most_links high) → IsTrue (int_le low high)
    → IsTrue (is_count_pair (count_of low) (count_of high))
counts_are_good (pos a) (pos b) low high less =
    let x : count_of (pos a) ≡ a = ap (λ t. if t then a else 257) low in
    let y : count_of (pos b) ≡ b = ap (λ t. if t then b else 257) high in
    rw (x, y) (grind (arith, nat_tests))
counts_are_good (pos a) (negsuc b) low high less = absurd (false≢true high)
counts_are_good (negsuc a) high low h less = absurd (false≢true low)

pub record AreCounts (low high : ℤ) : Type 0 where
  pub low_is : IsTrue (is_count_between 0 most_links low)
  pub high_is : IsTrue (is_count_between 0 most_links high)
  pub less : IsTrue (int_le low high)

pub good_counts : (low high : ℤ) → IsTrue (is_count_pair (count_of low) (count_of high)) → AreCounts low high
good_counts low high good = elim (count_cases low) [
  | inr past ↦ absurd (grind (arith, nat_tests))
  | inl l ↦ elim (count_cases high) [
    | inr past ↦ absurd (grind (arith, nat_tests))
    | inl h ↦ (
        let less : IsTrue (int_le (pos l.1) (pos h.1)) = grind (arith, nat_tests) in
        record { low_is = l.0; high_is = h.0; less = ap (λ x. int_le x high) l.2 ∙ ap (int_le (pos l.1)) h.2 ∙ less })
  ]
]

-- ---- pairs

two_items : (xs : List Data) → (length xs == 2) ≡ true → length xs ≡ 2
two_items xs two = grind (arith, nat_tests)

-- the ends of a pair
pub record AreEnds (d : Data) : Type 0 where
  pub low : IsAt (items_in d) 0 (item_at 0 d)
  pub high : IsAt (items_in d) 1 (item_at 1 d)
  pub two : length (items_in d) ≡ 2

pub ends_of : (d : Data) → IsTrue (is_pair d) → AreEnds d
ends_of d pair =
    let two = two_items (items_in d) (and_parts _ _ pair).0 in
    record { low = slice_get-get_or (items_in d) 0 null (omega (arith, two)); high = slice_get-get_or (items_in d) 1 null (omega (arith, two)); two = two }

-- what holds of both ends holds of each item
pub each_end : (P : Data → Type 0) (d : Data) → IsTrue (is_pair d) → P (item_at 0 d) → P (item_at 1 d) → (i : ℕ) (e : Data) → IsAt (items_in d) i e → P e
each_end P d pair low high zero e at = subst P (same_Some _ _ (sym (ends_of d pair).low ∙ at)) low
each_end P d pair low high (suc zero) e at = subst P (same_Some _ _ (sym (ends_of d pair).high ∙ at)) high
each_end P d pair low high (suc (suc i)) e at =
    let within = slice_get_within (items_in d) (suc (suc i)) e at in
    let two = (ends_of d pair).two in
    absurd (omega (arith, within, two))

module _ (format : Format) (names : List (List ℕ)) where
  -- every value in it is of its kind
  abbrev pub Right : Kind → Data → Type 0
  Right = NoneFails format (is_right format)

  -- every value in it passes the rest of the tests
  abbrev pub Sound : Kind → Data → Type 0
  Sound = NoneFails format (passes_rest names)

  pub passed : (k : Kind) (d : Data) → Sound k d → Passes names k d
  passed k d sound = rest_parts names k d (whole_passes format (passes_rest names) k d sound)

  -- ---- names and words

  pub name_from : (d : Data) → Sound kind.Name d → IsTrue (is_name (text_in d))
  unfolding is_formed
  name_from d sound = (passed kind.Name d sound).formed

  pub name_back : (d : Data) → IsTrue (is_name (text_in d)) → Sound kind.Name d
  unfolding is_short is_formed is_in_limits is_known texts_in members_of item_of
  name_back d is =
      leaf_from format (passes_rest names) kind.Name d (rest_from names kind.Name d record { short = refl; formed = is; limits = refl; known = refl; different = refl }) refl refl

  pub inverse_from : (d : Data) → Sound kind.InverseName d → IsTrue (is_name (text_in d))
  unfolding is_formed
  inverse_from d sound = (passed kind.InverseName d sound).formed

  pub inverse_back : (d : Data) → IsTrue (is_name (text_in d)) → Sound kind.InverseName d
  unfolding is_short is_formed is_in_limits is_known texts_in members_of item_of
  inverse_back d is =
      leaf_from format (passes_rest names) kind.InverseName d (rest_from names kind.InverseName d record { short = refl; formed = is; limits = refl; known = refl; different = refl }) refl refl

  word_from : (d : Data) → Sound kind.Word d → IsTrue (is_word (text_in d))
  unfolding is_formed
  word_from d sound = (passed kind.Word d sound).formed

  word_back : (d : Data) → IsTrue (is_word (text_in d)) → Sound kind.Word d
  unfolding is_short is_formed is_in_limits is_known texts_in members_of item_of
  word_back d is =
      leaf_from format (passes_rest names) kind.Word d (rest_from names kind.Word d record { short = refl; formed = is; limits = refl; known = refl; different = refl }) refl refl

  -- the name of a type is known
  pub type_name_from : (d : Data) → Sound kind.TypeName d → IsTrue (nat_lt (number_named names d) (length names))
  unfolding is_known
  type_name_from d sound = found_within (λ n. same_text n (text_in d)) names (passed kind.TypeName d sound).known

  pub type_name_back : ((k : ℕ) (n : List ℕ) → IsAt names k n → IsTrue (is_name n)) → (d : Data)
      → IsTrue (nat_lt (number_named names d) (length names)) → Sound kind.TypeName d
  unfolding is_short is_formed is_in_limits is_known texts_in members_of item_of
  type_name_back formed d within =
      let known = within_found (λ n. same_text n (text_in d)) names within in
      leaf_from format (passes_rest names) kind.TypeName d
      (rest_from names kind.TypeName d record { short = refl; formed = formed (number_named names d) (text_in d) (found_at (text_in d) names known); limits = refl; known = known; different = refl }) refl refl

  -- values of which nothing more is tested
  pub port_kind_back : (d : Data) → Sound kind.PortKind d
  unfolding is_short is_formed is_in_limits is_known texts_in members_of item_of
  port_kind_back d = leaf_from format (passes_rest names) kind.PortKind d (rest_from names kind.PortKind d record { short = refl; formed = refl; limits = refl; known = refl; different = refl }) refl refl

  pub format_back : (d : Data) → Sound kind.ModelFormat d
  unfolding is_short is_formed is_in_limits is_known texts_in members_of item_of
  format_back d = leaf_from format (passes_rest names) kind.ModelFormat d (rest_from names kind.ModelFormat d record { short = refl; formed = refl; limits = refl; known = refl; different = refl }) refl refl

  pub order_format_back : (d : Data) → Sound kind.OrderFormat d
  unfolding is_short is_formed is_in_limits is_known texts_in members_of item_of
  order_format_back d = leaf_from format (passes_rest names) kind.OrderFormat d (rest_from names kind.OrderFormat d record { short = refl; formed = refl; limits = refl; known = refl; different = refl }) refl refl

  pub expression_back : (d : Data) → Sound kind.Expression d
  unfolding is_short is_formed is_in_limits is_known texts_in members_of item_of
  expression_back d = leaf_from format (passes_rest names) kind.Expression d (rest_from names kind.Expression d record { short = refl; formed = refl; limits = refl; known = refl; different = refl }) refl refl

  -- ---- numbers

  pub instances_from : (d : Data) → Sound kind.Instances d → IsTrue (is_between 1 most_instances (count_of (whole_in d)))
  unfolding is_in_limits
  instances_from d sound = between (whole_in d) (passed kind.Instances d sound).limits
    where
      between : (n : ℤ) → IsTrue (is_count_between 1 most_instances n) → IsTrue (is_between 1 most_instances (count_of n))
      between (pos n) is =
          let within : is_count_between 0 most_links (pos n) ≡ true = grind (arith, nat_tests) in
          let x : count_of (pos n) ≡ n = ap (λ t. if t then n else 257) within in
          rw x is
      between (negsuc n) is = absurd (false≢true is)

  pub instances_back : (d : Data) → IsTrue (is_between 1 most_instances (count_of (whole_in d))) → Sound kind.Instances d
  unfolding is_short is_formed is_in_limits is_known texts_in members_of item_of
  instances_back d good =
      leaf_from format (passes_rest names) kind.Instances d
      (rest_from names kind.Instances d record { short = refl; formed = refl; limits = between (whole_in d) good; known = refl; different = refl }) refl refl
    where
      between : (n : ℤ) → IsTrue (is_between 1 most_instances (count_of n)) → IsTrue (is_count_between 1 most_instances n)
      between (pos n) is = elim (count_cases (pos n)) [
        | inl l ↦ (let x : count_of (pos n) ≡ n = ap (λ t. if t then n else 257) l.0 in subst (λ k. IsTrue (is_between 1 most_instances k)) x is)
        | inr past ↦ absurd (grind (arith, nat_tests))
      ]
      between (negsuc n) is = absurd (false≢true is)

  count_back : (d : Data) → IsTrue (is_count_between 0 most_links (whole_in d)) → Sound kind.Count d
  unfolding is_short is_formed is_in_limits is_known texts_in members_of item_of
  count_back d is = leaf_from format (passes_rest names) kind.Count d (rest_from names kind.Count d record { short = refl; formed = refl; limits = is; known = refl; different = refl }) refl refl

  end_back : (d : Data) → IsTrue (is_within farthest_end (whole_in d)) → Sound kind.End d
  unfolding is_short is_formed is_in_limits is_known texts_in members_of item_of
  end_back d is = leaf_from format (passes_rest names) kind.End d (rest_from names kind.End d record { short = refl; formed = refl; limits = is; known = refl; different = refl }) refl refl

  -- a pair of counts
  pub links_from : (d : Data) → Right kind.Links d → Sound kind.Links d → IsTrue (is_count_pair (count_of (low_in d)) (count_of (high_in d)))
  unfolding is_right is_in_limits item_of
  links_from d right sound =
      let ends = ends_of d (whole_passes format (is_right format) kind.Links d right) in
      let low = passed kind.Count (item_at 0 d) (none-item format (passes_rest names) kind.Links d sound kind.Count refl 0 (item_at 0 d) ends.low) in
      let high = passed kind.Count (item_at 1 d) (none-item format (passes_rest names) kind.Links d sound kind.Count refl 1 (item_at 1 d) ends.high) in
      counts_are_good (low_in d) (high_in d) low.limits high.limits (passed kind.Links d sound).limits

  pub links_back : (d : Data) → Right kind.Links d → IsTrue (is_count_pair (count_of (low_in d)) (count_of (high_in d))) → Sound kind.Links d
  unfolding is_right is_short is_formed is_in_limits is_known texts_in members_of item_of
  links_back d right good =
      let counts = good_counts (low_in d) (high_in d) good in
      list_from format (passes_rest names) kind.Links kind.Count d
      (rest_from names kind.Links d record { short = refl; formed = refl; limits = counts.less; known = refl; different = refl }) refl refl
      (each_end (Sound kind.Count) d (whole_passes format (is_right format) kind.Links d right) (count_back (item_at 0 d) counts.low_is) (count_back (item_at 1 d) counts.high_is))

  -- ---- domains

  pub range_from : (d : Data) → Right kind.Range d → Sound kind.Range d → IsGoodDomain (domain.Range (low_in d) (high_in d))
  unfolding is_right is_in_limits item_of
  range_from d right sound =
      let ends = ends_of d (whole_passes format (is_right format) kind.Range d right) in
      let low = passed kind.End (item_at 0 d) (none-item format (passes_rest names) kind.Range d sound kind.End refl 0 (item_at 0 d) ends.low) in
      let high = passed kind.End (item_at 1 d) (none-item format (passes_rest names) kind.Range d sound kind.End refl 1 (item_at 1 d) ends.high) in
      record { few = refl; formed = refl; distinct = refl; ends = and_from _ _ (and_from _ _ low.limits high.limits) (passed kind.Range d sound).limits }

  pub range_back : (d : Data) → Right kind.Range d → IsGoodDomain (domain.Range (low_in d) (high_in d)) → Sound kind.Range d
  unfolding is_right is_short is_formed is_in_limits is_known texts_in members_of item_of
  range_back d right good =
      let both = and_parts _ _ good.ends in
      let ends = and_parts _ _ both.0 in
      list_from format (passes_rest names) kind.Range kind.End d
      (rest_from names kind.Range d record { short = refl; formed = refl; limits = both.1; known = refl; different = refl }) refl refl
      (each_end (Sound kind.End) d (whole_passes format (is_right format) kind.Range d right) (end_back (item_at 0 d) ends.0) (end_back (item_at 1 d) ends.1))

  words_same : (d : Data) → ((i : ℕ) (e : Data) → IsAt (items_in d) i e → IsTrue (is_word (text_in e))) → map word_in (items_in d) ≡ map text_in (items_in d)
  words_same d each = map_same word_in text_in (items_in d) (λ i e at. word_same e (each i e at))

  pub words_from : (d : Data) → Sound kind.Words d → IsGoodDomain (domain.Words (map word_in (items_in d)))
  unfolding is_short item_of texts_in
  words_from d sound =
      let here = passed kind.Words d sound in
      let each : (i : ℕ) (e : Data) → IsAt (items_in d) i e → IsTrue (is_word (text_in e)) =
      λ i e at. word_from e (none-item format (passes_rest names) kind.Words d sound kind.Word refl i e at) in
      record {
        few = rw (length-map (items_in d) word_in) here.short;
        formed = list_all_from is_word (map word_in (items_in d)) (λ k w at.
            let read = map_at word_in (items_in d) k w at in
            subst (λ x. IsTrue (is_word x)) read.2 (word_is_good read.0 (each k read.0 read.1)));
        distinct = subst (λ ws. IsTrue (is_distinct ws)) (sym (words_same d each)) (subst (λ ws. IsTrue (is_distinct ws)) (texts_numbered text_in _ 0 (items_in d)) here.different);
        ends = refl;
      }

  pub words_back : (d : Data) → IsGoodDomain (domain.Words (map word_in (items_in d))) → Sound kind.Words d
  unfolding is_short is_formed is_in_limits is_known texts_in members_of item_of
  words_back d good =
      let each : (i : ℕ) (e : Data) → IsAt (items_in d) i e → IsTrue (is_word (text_in e)) =
      λ i e at. good_word e (list_all_at is_word (map word_in (items_in d)) good.formed i (word_in e) (at_map word_in (items_in d) i e at)) in
      list_from format (passes_rest names) kind.Words kind.Word d
      (rest_from names kind.Words d record {
        short = rw (length-map (items_in d) word_in) at good.few;
        formed = refl;
        limits = refl;
        known = refl;
        different = subst (λ ws. IsTrue (is_distinct ws)) (sym (texts_numbered text_in _ 0 (items_in d))) (subst (λ ws. IsTrue (is_distinct ws)) (words_same d each) good.distinct);
      }) refl refl
      (λ i e at. word_back e (each i e at))
