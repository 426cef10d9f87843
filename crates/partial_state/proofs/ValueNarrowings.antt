-- Narrowings of the values of an attribute.
use Rattle.std.proofs.Common.{◌≡◌, ◌≢◌, ℕ, zero, suc, ◌+◌, ◌<◌, ◌≤◌, ◌∙◌, ap, ap₂, sym, not, ◌&&◌, ◌||◌, nat_lt, Bool, true, false, cond, refl, inl, inr, List, [], ◌∷◌, length, ℤ, pos, negsuc, ◌≤ℤ◌, ◌<ℤ◌, arith, lt-ltb}
use Rattle.std.specs.Prelude.{◌⊎◌, IsTrue, Some, None}
use Rattle.std.specs.declared.option.Option.{Option}
use Rattle.std.specs.Option.{option_map_or}
use Rattle.std.specs.Ordering.{int_eq}
use Rattle.std.specs.List.{list_all, filter, range_with_len, last_or}
use Rattle.std.proofs.lemmas.Int.{ints}
use Rattle.std.proofs.lemmas.Bool.{cases_Bool, cases_lt, cases_eq, false≢true, false_from_ne_true, and_from, and_parts}
use Rattle.config_value.specs.Shaped.{ascends}
use Rattle.domain_store.specs.declared.change.Change.{Change}
use Rattle.domain_store.specs.declared.change.Change.TheVariants.{Same, Smaller, Empty}
use Rattle.domain_store.specs.declared.interval.Interval.{Interval}
use Rattle.domain_store.specs.Words.{has_word, NarrowsWords, IsLeastWord, IsGreatestWord}
use Rattle.domain_store.specs.Intervals.{is_in_one, are_intervals, NarrowsNumbers, IsLeastNumber, IsGreatestNumber}
use Rattle.domain_store.specs.steps.Ends as ends
use Rattle.domain_store.proofs.Intervals as intervals
use Rattle.domain_store.proofs.Bits.{has_none}
use Rattle.state_space.specs.Sets.{has_number}
use Rattle.state_space.specs.Values.{Numbers, Words, has_value, least, greatest, low_of, high_of, count_of, is_empty, are_values}
use Rattle.partial_state.specs.Masks.{words_of, IsWordMask}
use Rattle.partial_state.specs.steps.Clamped.{IsClamped}
use Rattle.partial_state.specs.steps.InForm.{NarrowsInForm}
use Rattle.partial_state.proofs.Numbers.{has_passing, fewer_or_same, set_formed}
use Rattle.partial_state.proofs.Counts.{fewer_numbers}
use Rattle.partial_state.proofs.WordNarrowings.{same_eq, word_below, has_some}

-- ---- which values words are

in_words : (ws : List ℕ) (k : ℕ) → has_value (Words ws) (pos k) ≡ has_number ws k
in_words [] k = refl
in_words (w ∷ ws) k = ap₂ ◌||◌ (sym (same_eq w k)) (in_words ws k)

not_negative : (ws : List ℕ) (k : ℕ) → has_value (Words ws) (negsuc k) ≡ false
not_negative [] k = refl
not_negative (w ∷ ws) k = ap₂ ◌||◌ (apart w k) (not_negative ws k)
  where
    int_ne : (x y : ℤ) → (x ≡ y → ⊥) → int_eq x y ≡ false
    int_ne x y h = grind (arith, ints)

    apart : (w k : ℕ) → int_eq (pos w) (negsuc k) ≡ false
    apart w k = int_ne (pos w) (negsuc k) (λ e. absurd cc)

below_both : (b c : Bool) → b ≡ true → (b && c) ≡ c
below_both true c e = refl
below_both false c e = absurd (false≢true e)

-- the words of a mask are those whose bits are set
pub has_member : (mask k : ℕ) → IsWordMask mask → has_number (words_of mask) k ≡ has_word mask k
unfolding words_of
has_member mask k is_mask = has_passing (has_word mask) 0 64 k (omega arith) ∙ elim (cases_lt k 64) [
  | inl below ↦ below_both (nat_lt k 64) (has_word mask k) (lt-ltb k 64 below)
  | inr past ↦ gone (nat_lt k 64) (has_word mask k) (is_mask.below k past)
]
  where
    gone : (b c : Bool) → c ≡ false → (b && c) ≡ c
    gone true c e = refl
    gone false c e = sym e

pub word_value : (mask k : ℕ) → IsWordMask mask → has_value (Words (words_of mask)) (pos k) ≡ has_word mask k
word_value mask k is_mask = in_words (words_of mask) k ∙ has_member mask k is_mask

pub no_negative : (mask k : ℕ) → has_value (Words (words_of mask)) (negsuc k) ≡ false
no_negative mask k = not_negative (words_of mask) k

-- ---- narrowings of words

is_some_set : (ws : List ℕ) (k : ℕ) → has_number ws k ≡ true → IsTrue (not (is_empty ws))
is_some_set [] k has = absurd (false≢true has)
is_some_set (w ∷ ws) k has = refl

none_in : (ws : List ℕ) → is_empty ws ≡ true → (k : ℕ) → has_number ws k ≡ false
none_in [] e k = refl
none_in (w ∷ ws) e k = absurd (false≢true e)

pub words_formed : (mask : ℕ) → IsWordMask mask → IsTrue (are_values (Words (words_of mask)))
unfolding words_of
words_formed mask is_mask = elim (cases_Bool (is_empty set)) [
  | inl none ↦ absurd (has_some mask is_mask (λ k. sym (has_member mask k is_mask) ∙ none_in set none k))
  | inr some ↦
      let parts = and_parts (ascends set) (list_all (λ k. nat_lt k 64) set) (set_formed 64 (has_word mask)) in
      and_from (not (is_empty set) && ascends set) (list_all (λ k. nat_lt k 64) set)
      (and_from (not (is_empty set)) (ascends set) (ap not some) parts.0) parts.1
]
  where
    set : List ℕ
    set = words_of mask

-- a mask that is narrowed still has a word, and none from 64 on
pub mask_narrowed : (old new : ℕ) (test : ℕ → Bool) (result : Change) → IsWordMask old → NarrowsWords test result old new → IsWordMask new
mask_narrowed old new test result is_mask given = by result refl
  where
    kept : (r : Change) → result ≡ r → r ≢ Smaller → IsWordMask new
    kept r e other = let same : new ≡ old = given.unchanged (λ f. other (sym e ∙ f)) in rw same is_mask

    left_none : (b c d : Bool) → b ≡ (c && d) → b ≡ false → IsTrue c → ¬ IsTrue d
    left_none b true true e none is passes = false≢true (sym none ∙ e)
    left_none b true false e none is passes = false≢true passes
    left_none b false d e none is passes = false≢true is

    gone : (b c d : Bool) → b ≡ (c && d) → c ≡ false → b ≡ false
    gone b true d e f = absurd (false≢true (sym f))
    gone b false d e f = e

    smaller : result ≡ Smaller → IsWordMask new
    smaller e =
        let left = given.narrowed (λ f. absurd (let g : Smaller ≡ Empty = sym e ∙ f in cc)) in record {
          some = λ none. absurd (
              let empty = given.empty.1 (λ k is passes. left_none (has_word new k) (has_word old k) (test k) (left k) (ap (λ m. has_word m k) none ∙ has_none k) is passes) in
              let g : Smaller ≡ Empty = sym e ∙ empty in cc);
          below = λ k past. gone (has_word new k) (has_word old k) (test k) (left k) (is_mask.below k past);
        }

    by : (r : Change) → result ≡ r → IsWordMask new
    by Same e = kept Same e (λ f. absurd cc)
    by Smaller e = smaller e
    by Empty e = kept Empty e (λ f. absurd cc)

-- a narrowing of a mask by words is one of the values
pub words_narrowed : (old new : ℕ) (test : ℤ → Bool) (result : Change) → IsWordMask old → NarrowsWords (λ k. test (pos k)) result old new
    → NarrowsInForm test result (Words (words_of old)) (Words (words_of new))
unfolding words_of
words_narrowed old new test result is_mask given =
    let is_mask' = mask_narrowed old new (λ k. test (pos k)) result is_mask given in record {
      narrowed = record {
        narrows = record {
          empty = (λ e v. none v (given.empty.0 e), λ none. given.empty.1 (λ k is. none (pos k) (word_value old k is_mask ∙ is)));
          same = (λ e v. all v (given.same.0 e), λ all. given.same.1 (λ k is. all (pos k) (word_value old k is_mask ∙ is)));
          unchanged = λ other. ap (λ m. Words (words_of m)) (given.unchanged other);
          narrowed = λ other v. left v is_mask' (given.narrowed other);
        };
        fewer = λ e. fewer e (fewer_or_same (has_word old) (has_word new) (within e) 0 64);
      };
      formed = words_formed new is_mask';
      form = refl;
    }
  where
    none : (v : ℤ) → ((k : ℕ) → IsTrue (has_word old k) → ¬ IsTrue (test (pos k))) → IsTrue (has_value (Words (words_of old)) v) → ¬ IsTrue (test v)
    none (pos k) fails is = fails k (sym (word_value old k is_mask) ∙ is)
    none (negsuc k) fails is = absurd (false≢true (sym (no_negative old k) ∙ is))

    all : (v : ℤ) → ((k : ℕ) → IsTrue (has_word old k) → IsTrue (test (pos k))) → IsTrue (has_value (Words (words_of old)) v) → IsTrue (test v)
    all (pos k) passes is = passes k (sym (word_value old k is_mask) ∙ is)
    all (negsuc k) passes is = absurd (false≢true (sym (no_negative old k) ∙ is))

    left : (v : ℤ) → IsWordMask new → ((k : ℕ) → has_word new k ≡ (has_word old k && test (pos k)))
        → has_value (Words (words_of new)) v ≡ (has_value (Words (words_of old)) v && test v)
    left (pos k) is_mask' remain = word_value new k is_mask' ∙ remain k ∙ ap (λ b. b && test (pos k)) (sym (word_value old k is_mask))
    left (negsuc k) is_mask' remain = no_negative new k ∙ ap (λ b. b && test (negsuc k)) (sym (no_negative old k))

    left_words : result ≡ Smaller → (k : ℕ) → has_word new k ≡ (has_word old k && test (pos k))
    left_words e = given.narrowed (λ f. absurd (let g : Smaller ≡ Empty = sym e ∙ f in cc))

    within : result ≡ Smaller → (k : ℕ) → IsTrue (has_word new k) → IsTrue (has_word old k)
    within e k is = (and_parts (has_word old k) (test (pos k)) (sym (left_words e k) ∙ is)).0

    fewer : result ≡ Smaller
        → (length (words_of new) < length (words_of old)) ⊎ ((k : ℕ) → 0 ≤ k → k < 0 + 64 → has_word old k ≡ has_word new k)
        → length (words_of new) < length (words_of old)
    fewer e (inl less) = less
    fewer e (inr agree) =
        let same = given.same.1 (λ k is. (and_parts (has_word old k) (test (pos k)) (sym (left_words e k) ∙ sym (agree k (omega arith) (word_below old k is_mask is)) ∙ is)).1) in
        absurd (let g : Smaller ≡ Same = sym e ∙ same in cc)

-- a narrowing of numbers is one of the values
pub numbers_narrowed : (old new : List Interval) (test : ℤ → Bool) (result : Change) → IsTrue (are_intervals old) → IsTrue (are_intervals new)
    → NarrowsNumbers test result old new → NarrowsInForm test result (Numbers old) (Numbers new)
numbers_narrowed old new test result formed formed' given = record {
  narrowed = record {
    narrows = record {
      empty = given.empty;
      same = given.same;
      unchanged = λ other. ap Numbers (given.unchanged other);
      narrowed = given.narrowed;
    };
    fewer = λ e. fewer e (fewer_numbers old new formed formed' (within e));
  };
  formed = formed';
  form = refl;
}
  where
    left : result ≡ Smaller → (v : ℤ) → is_in_one new v ≡ (is_in_one old v && test v)
    left e = given.narrowed (λ f. absurd (let g : Smaller ≡ Empty = sym e ∙ f in cc))

    within : result ≡ Smaller → (v : ℤ) → IsTrue (is_in_one new v) → IsTrue (is_in_one old v)
    within e v is = (and_parts (is_in_one old v) (test v) (sym (left e v) ∙ is)).0

    fewer : result ≡ Smaller
        → (count_of (Numbers new) < count_of (Numbers old)) ⊎ ((v : ℤ) → IsTrue (is_in_one old v) → is_in_one new v ≡ is_in_one old v)
        → count_of (Numbers new) < count_of (Numbers old)
    fewer e (inl less) = less
    fewer e (inr agree) =
        let same = given.same.1 (λ v is. (and_parts (is_in_one old v) (test v) (sym (left e v) ∙ agree v is ∙ is)).1) in
        absurd (let g : Smaller ≡ Same = sym e ∙ same in cc)

-- ---- the ends

least_passing : (p : ℕ → Bool) (a n k : ℕ) → IsTrue (p k) → a ≤ k → k < a + n → ((i : ℕ) → IsTrue (p i) → k ≤ i)
    → least (Words (filter p (range_with_len a n))) ≡ pos k
least_passing p a zero k is from below low = absurd (omega arith)
least_passing p a (suc n) k is from below low = by (p a) refl (λ other. least_passing p (a + 1) n k is (omega (arith, other)) (omega arith) low)
  where
    rest : List ℕ
    rest = filter p (range_with_len (a + 1) n)

    by : (b : Bool) → p a ≡ b → ((a ≡ k → ⊥) → least (Words rest) ≡ pos k) → least (Words (cond b (a ∷ rest) rest)) ≡ pos k
    by true e later = ap pos (let first = low a e in omega arith)
    by false e later = later (λ same. absurd (false≢true (sym e ∙ ap p same ∙ is)))

last_passing : (p : ℕ → Bool) (a n k : ℕ) (o : Option ℕ) → IsTrue (p k) → a ≤ k → k < a + n → ((i : ℕ) → IsTrue (p i) → i ≤ k)
    → last_or o (filter p (range_with_len a n)) ≡ Some k
last_passing p a zero k o is from below high = absurd (omega arith)
last_passing p a (suc n) k o is from below high =
    elim (cases_eq a k) [
      | inl same ↦ at_end (p a) (ap p same ∙ is) same (none_after p k (a + 1) n (Some a) (omega (arith, same)) high)
      | inr other ↦ by (p a)
          (last_passing p (a + 1) n k (Some a) is (omega (arith, other)) (omega arith) high)
          (last_passing p (a + 1) n k o is (omega (arith, other)) (omega arith) high)
    ]
  where
    rest : List ℕ
    rest = filter p (range_with_len (a + 1) n)

    at_end : (b : Bool) → b ≡ true → a ≡ k → last_or (Some a) rest ≡ Some a → last_or o (cond b (a ∷ rest) rest) ≡ Some k
    at_end true e same none = none ∙ ap Some same
    at_end false e same none = absurd (false≢true e)

    by : (b : Bool) → last_or (Some a) rest ≡ Some k → last_or o rest ≡ Some k → last_or o (cond b (a ∷ rest) rest) ≡ Some k
    by true first other = first
    by false first other = other

    none_after : (p : ℕ → Bool) (k a n : ℕ) (o : Option ℕ) → k < a → ((i : ℕ) → IsTrue (p i) → i ≤ k) → last_or o (filter p (range_with_len a n)) ≡ o
    none_after p k a zero o past high = refl
    none_after p k a (suc n) o past high = skipped (p a) (false_from_ne_true (p a) (λ is. absurd (let within = high a is in omega arith))) (none_after p k (a + 1) n o (omega arith) high)
      where
        skipped : (b : Bool) → b ≡ false → last_or o (filter p (range_with_len (a + 1) n)) ≡ o
            → last_or o (cond b (a ∷ filter p (range_with_len (a + 1) n)) (filter p (range_with_len (a + 1) n))) ≡ o
        skipped true e rest = absurd (false≢true (sym e))
        skipped false e rest = rest

pub least_word : (mask k : ℕ) → IsWordMask mask → IsLeastWord mask k → least (Words (words_of mask)) ≡ pos k
unfolding words_of
least_word mask k is_mask low = least_passing (has_word mask) 0 64 k low.0 (omega arith) (word_below mask k is_mask low.0) low.1

pub greatest_word : (mask k : ℕ) → IsWordMask mask → IsGreatestWord mask k → greatest (Words (words_of mask)) ≡ pos k
unfolding words_of
greatest_word mask k is_mask high =
    ap (λ o. option_map_or pos o (pos 0)) (last_passing (has_word mask) 0 64 k None high.0 (omega arith) (word_below mask k is_mask high.0) high.1)

same_ends : (a b : ℤ) → a ≤ℤ b → b ≤ℤ a → a ≡ b
same_ends a b h k = omega (arith, ints)

low_is : (rs : List Interval) → low_of rs ≡ ends.low_of rs
low_is [] = refl
low_is (r ∷ rs) = refl

last_is : (rs : List Interval) (r : Interval) → option_map_or (λ s. s.high) (last_or (Some r) rs) (pos 0) ≡ ends.high_of (r ∷ rs)
last_is [] r = refl
last_is (s ∷ rs) r = last_is rs s

high_is : (rs : List Interval) → high_of rs ≡ ends.high_of rs
high_is [] = refl
high_is (r ∷ rs) = last_is rs r

pub least_number : (rs : List Interval) (v : ℤ) → IsTrue (are_intervals rs) → IsLeastNumber rs v → least (Numbers rs) ≡ v
least_number rs v formed low =
    let other = intervals.least rs formed in
    low_is rs ∙ same_ends (ends.low_of rs) v (other.1 v low.0) (low.1 (ends.low_of rs) other.0)

pub greatest_number : (rs : List Interval) (v : ℤ) → IsTrue (are_intervals rs) → IsGreatestNumber rs v → greatest (Numbers rs) ≡ v
greatest_number rs v formed high =
    let other = intervals.greatest rs formed in
    high_is rs ∙ same_ends (ends.high_of rs) v (high.1 (ends.high_of rs) other.0) (other.1 v high.0)

-- what a mask has of all numbers
pub words_contain : (mask : ℕ) (n : ℤ) (k : ℕ) → IsWordMask mask → IsClamped n k → has_word mask k ≡ has_value (Words (words_of mask)) n
words_contain mask n k is_mask (inl same) = sym (word_value mask k is_mask) ∙ ap (has_value (Words (words_of mask))) same
words_contain mask n k is_mask (inr (most, past)) = is_mask.below k (omega (arith, most)) ∙ sym (beyond n past)
  where
    beyond : (v : ℤ) → pos 64 ≤ℤ v → has_value (Words (words_of mask)) v ≡ false
    beyond (pos j) past = word_value mask j is_mask ∙ is_mask.below j (omega (arith, ints, past))
    beyond (negsuc j) past = no_negative mask j

pub words_contain_none : (mask : ℕ) (n : ℤ) → n <ℤ pos 0 → false ≡ has_value (Words (words_of mask)) n
words_contain_none mask (pos j) below = absurd (omega (arith, ints, below))
words_contain_none mask (negsuc j) below = sym (no_negative mask j)
