-- The masks of the types that have an attribute, or a port.
use Rattle.std.proofs.Common.{◌≡◌, ◌≢◌, ℕ, suc, ◌+◌, ◌<◌, ◌≤◌, ◌∙◌, ap, ap₂, sym, subst, ◌&&◌, ◌||◌, ◌==◌, nat_lt, Bool, true, false, cond, refl, inl, inr, List, [], ◌∷◌, ◌++◌, length, map, take, get_or, replicate, arith, zero-add, zero-le, lt-ltb, le-ltb, eq-eqb, ne_eqb}
use Rattle.std.specs.Prelude.{◌⊎◌, slice_index, slice_set}
use Rattle.std.specs.Int.{bit_at}
use Rattle.std.specs.List.{list_any, range_with_len}
use Rattle.std.proofs.lemmas.Bool.{cases_eq, cases_lt, false≢true}
use Rattle.std.proofs.lemmas.Grind.{get_or-set_at}
use Rattle.std.proofs.lemmas.List.{length-set, get_or-set_other, get_or_default, take_more, length-replicate}
use Rattle.std.proofs.lemmas.List.Folds.{list_any-append}
use Rattle.std.proofs.Math.Seq.{take-length}
use Rattle.base_laws.proofs.Places.{read_at}
use Rattle.base_laws.proofs.Tests.{list_any_from}
use Rattle.base_laws.proofs.Masks128.{bit_at_zeros}
use Rattle.prod_model.specs.declared.model.Model.{Model}
use Rattle.prod_model.specs.declared.model.AttrAt.{AttrAt}
use Rattle.prod_model.specs.declared.model.PortAt.{PortAt}
use Rattle.prod_model.specs.Forest.{is_leaf}
use Rattle.prod_model.specs.Taxonomy.{attributes_at, ports_at}
use Rattle.prod_model.specs.Valid.{IsValid}
use Rattle.state_space.specs.State.{first_attributes, first_ports, leaves_that}
use Rattle.state_space.proofs.ValidLaws.{valid_has_ids}
use Rattle.partial_state.specs.Masks.{kinds_of}
use Rattle.partial_state.specs.steps.Marks.{Marks, AreMarked}
use Rattle.partial_state.proofs.KindLists.{kinds_leaves}

-- one where a test passes, and a number where it does not
abbrev pub set_if : Bool → ℕ → ℕ
set_if b n = cond b 1 n

-- ---- one type

-- a bit that is set for one element, and then for one more
pub more_marked : (t : ℕ) (test one : ℕ → Bool) (old middle new : List ℕ) → Marks t test old middle → Marks t one middle new
    → Marks t (λ a. test a || one a) old new
more_marked t test one old middle new first last = record {
  long = last.long ∙ first.long;
  bits = λ k a. last.bits k a ∙ ap (λ b. set_if ((k == t) && one a) b) (first.bits k a) ∙ by (k == t) (test a) (one a) (bit_at (slice_index old a) k);
}
  where
    by : (b c d : Bool) (n : ℕ) → set_if (b && d) (set_if (b && c) n) ≡ set_if (b && (c || d)) n
    by true true true n = refl
    by true true false n = refl
    by true false d n = refl
    by false c d n = refl

-- where the tests agree the bits do
pub marked_same : (t : ℕ) (test other : ℕ → Bool) (old new : List ℕ) → ((a : ℕ) → test a ≡ other a) → Marks t test old new → Marks t other old new
marked_same t test other old new same marks = record {
  long = marks.long;
  bits = λ k a. marks.bits k a ∙ ap (λ b. set_if ((k == t) && b) (bit_at (slice_index old a) k)) (same a);
}

-- ---- type by type

module _ (m : Model) (has : ℕ → ℕ → Bool) (count : ℕ) where
  -- a leaf has its bits set
  pub leaf_marked : (t : ℕ) (old new : List ℕ) → AreMarked m has count t old → is_leaf m t ≡ true → Marks t (λ a. has t a) old new → AreMarked m has count (t + 1) new
  leaf_marked t old new before leaf marks = record {
    long = marks.long ∙ before.long;
    bits = λ k a. marks.bits k a ∙ ap (λ n. set_if ((k == t) && has t a) n) (before.bits k a) ∙ by k a;
  }
    where
      here : (k a : ℕ) (b c d : Bool) → b ≡ true → c ≡ false → d ≡ true → set_if (b && has t a) (set_if (c && (is_leaf m t && has t a)) 0) ≡ set_if (d && (is_leaf m t && has t a)) 0
      here k a true false true i j l = sym (ap (λ p. set_if (p && has t a) 0) leaf)
      here k a false c d i j l = absurd (false≢true i)
      here k a true true d i j l = absurd (false≢true (sym j))
      here k a true false false i j l = absurd (false≢true l)

      other : (k a : ℕ) (b c d : Bool) → b ≡ false → c ≡ d → set_if (b && has t a) (set_if (c && (is_leaf m k && has k a)) 0) ≡ set_if (d && (is_leaf m k && has k a)) 0
      other k a false c d i j = ap (λ b. set_if (b && (is_leaf m k && has k a)) 0) j
      other k a true c d i j = absurd (false≢true (sym i))

      by : (k a : ℕ) → set_if ((k == t) && has t a) (set_if (nat_lt k t && (is_leaf m k && has k a)) 0) ≡ set_if (nat_lt k (t + 1) && (is_leaf m k && has k a)) 0
      by k a = elim (cases_eq k t) [
        | inl same ↦ subst (λ j. set_if ((j == t) && has t a) (set_if (nat_lt j t && (is_leaf m j && has j a)) 0) ≡ set_if (nat_lt j (t + 1) && (is_leaf m j && has j a)) 0) (sym same)
            (here t a (t == t) (nat_lt t t) (nat_lt t (t + 1)) (eq-eqb t t refl) (le-ltb t t (omega arith)) (lt-ltb t (t + 1) (omega arith)))
        | inr differs ↦ other k a (k == t) (nat_lt k t) (nat_lt k (t + 1)) (ne_eqb k t differs) (next_same k differs)
      ]
        where
          next_same : (k : ℕ) → (k ≡ t → ⊥) → nat_lt k t ≡ nat_lt k (t + 1)
          next_same k differs = elim (cases_lt k t) [
            | inl below ↦ lt-ltb k t below ∙ sym (lt-ltb k (t + 1) (omega (arith, below)))
            | inr past ↦ le-ltb k t past ∙ sym (le-ltb k (t + 1) (omega (arith, past, differs)))
          ]

  -- all others stay without
  pub no_leaf_marked : (t : ℕ) (masks : List ℕ) → AreMarked m has count t masks → is_leaf m t ≡ false → AreMarked m has count (t + 1) masks
  no_leaf_marked t masks before leaf = record { long = before.long; bits = λ k a. before.bits k a ∙ by k a }
    where
      by : (k a : ℕ) → set_if (nat_lt k t && (is_leaf m k && has k a)) 0 ≡ set_if (nat_lt k (t + 1) && (is_leaf m k && has k a)) 0
      by k a = elim (cases_lt k t) [
        | inl below ↦ ap (λ b. set_if (b && (is_leaf m k && has k a)) 0) (lt-ltb k t below ∙ sym (lt-ltb k (t + 1) (omega (arith, below))))
        | inr past ↦ elim (cases_eq k t) [
          | inl same ↦ none (nat_lt k t) (nat_lt k (t + 1)) (is_leaf m k) (has k a) (ap (is_leaf m) same ∙ leaf)
          | inr differs ↦ ap (λ b. set_if (b && (is_leaf m k && has k a)) 0) (le-ltb k t past ∙ sym (le-ltb k (t + 1) (omega (arith, past, differs))))
        ]
      ]
        where
          none : (b c l d : Bool) → l ≡ false → set_if (b && (l && d)) 0 ≡ set_if (c && (l && d)) 0
          none true true l d is = refl
          none false false l d is = refl
          none true false false d is = refl
          none true false true d is = absurd (false≢true (sym is))
          none false true false d is = refl
          none false true true d is = absurd (false≢true (sym is))

  -- what a function gives of each mask is what another gives of its place
  mapped : {X : Type 0} (f g : ℕ → X) (a : ℕ) (xs : List ℕ) → ((k : ℕ) → k < length xs → f (slice_index xs k) ≡ g (a + k)) → map f xs ≡ map g (range_with_len a (length xs))
  mapped f g a [] each = refl
  mapped f g a (x ∷ xs) each =
      let first : a + 0 ≡ a = omega arith in
      ap₂ (λ y ys. y ∷ ys) (each 0 (omega arith) ∙ ap g first)
      (mapped f g (a + 1) xs (λ k within. let e : a + suc k ≡ a + 1 + k = omega arith in each (suc k) (omega (arith, within)) ∙ ap g e))

  -- once all types are gone over, the masks have the leaf types that have what stands at each place
  pub all_marked : (masks : List ℕ) → length m.types ≤ 128 → AreMarked m has count (length m.types) masks
      → map kinds_of masks ≡ map (λ a. leaves_that m (λ t. has t a)) (range_with_len 0 count)
  unfolding is_leaf
  all_marked masks few marked =
      mapped kinds_of (λ a. leaves_that m (λ t. has t a)) 0 masks (λ k within.
      kinds_leaves m (slice_index masks k) (λ t. has t k) few (λ t. ap (λ n. n == 1) (marked.bits t k) ∙ by t k)
      ∙ ap (λ a. leaves_that m (λ t. has t a)) (sym (zero-add k)))
      ∙ ap (λ n. map (λ a. leaves_that m (λ t. has t a)) (range_with_len 0 n)) marked.long
    where
      one : (b : Bool) → (set_if b 0 == 1) ≡ b
      one true = refl
      one false = refl

      by : (t k : ℕ) → (set_if (nat_lt t (length m.types) && (is_leaf m t && has t k)) 0 == 1) ≡ (is_leaf m t && has t k)
      by t k = one (nat_lt t (length m.types) && (is_leaf m t && has t k)) ∙ typed (nat_lt t (length m.types)) _ (has t k)
        where
          typed : (b c d : Bool) → (b && ((b && c) && d)) ≡ ((b && c) && d)
          typed true c d = refl
          typed false c d = refl

-- no bit is set at first
pub none_marked : (m : Model) (has : ℕ → ℕ → Bool) (count : ℕ) (masks : List ℕ) → masks ≡ replicate count 0 → AreMarked m has count 0 masks
none_marked m has count masks is = record {
  long = ap length is ∙ length-replicate count 0;
  bits = λ k a. ap (λ l. bit_at (slice_index l a) k) is ∙ bit_at_zeros count a k ∙ ap (λ b. set_if (b && (is_leaf m k && has k a)) 0) (sym (le-ltb k 0 zero-le));
}

-- ---- one id

-- the mask at a place with one type more
pub one_marked : (t id v : ℕ) (old new : List ℕ) → id < length old → new ≡ slice_set old id v → ((k : ℕ) → bit_at v k ≡ set_if (k == t) (bit_at (slice_index old id) k)) → Marks t (λ a. id == a) old new
one_marked t id v old new within is bits = record {
  long = ap length is ∙ length-set old id v;
  bits = λ k a. ap (λ l. bit_at (slice_index l a) k) is ∙ by k a (cases_eq a id);
}
  where
    here : (k a : ℕ) (b c : Bool) → c ≡ true → a ≡ id → set_if b (bit_at (slice_index old id) k) ≡ set_if (b && c) (bit_at (slice_index old a) k)
    here k a true true e same = refl
    here k a false c e same = ap (λ i. bit_at (slice_index old i) k) (sym same)
    here k a true false e same = absurd (false≢true e)

    away : (k a : ℕ) (b c : Bool) → c ≡ false → bit_at (slice_index old a) k ≡ set_if (b && c) (bit_at (slice_index old a) k)
    away k a true false e = refl
    away k a false c e = refl
    away k a true true e = absurd (false≢true (sym e))

    by : (k a : ℕ) → (a ≡ id) ⊎ (a ≢ id) → bit_at (slice_index (slice_set old id v) a) k ≡ set_if ((k == t) && (id == a)) (bit_at (slice_index old a) k)
    by k a (inl same) =
        ap (λ n. bit_at n k) (get_or-set_at old id a v 0 same within) ∙ bits k ∙ here k a (k == t) (id == a) (eq-eqb id a (sym same)) same
    by k a (inr other) =
        ap (λ n. bit_at n k) (get_or-set_other old id a v 0 other) ∙ away k a (k == t) (id == a) (ne_eqb id a (λ e. other (sym e)))

-- ---- the ids of a type, one after the other

-- none at first
pub no_id_marked : (t : ℕ) (old : List ℕ) → Marks t (λ a. false) old old
no_id_marked t old = record { long = refl; bits = λ k a. by (k == t) (bit_at (slice_index old a) k) }
  where
    by : (b : Bool) (n : ℕ) → n ≡ set_if (b && false) n
    by true n = refl
    by false n = refl

module _ {X : Type 0} (id_of : X → ℕ) (t : ℕ) where
  abbrev pub ids_of : List X → ℕ → Bool
  ids_of xs id = list_any (λ x. id_of x == id) xs

  -- and one more
  pub id_marked : (xs : List X) (k : ℕ) (x : X) (old middle new : List ℕ) → k < length xs → x ≡ get_or xs k x → Marks t (ids_of (take k xs)) old middle → Marks t (λ a. id_of x == a) middle new
      → Marks t (ids_of (take (k + 1) xs)) old new
  id_marked xs k x old middle new within at first last =
      marked_same t (λ a. ids_of (take k xs) a || (id_of x == a)) (ids_of (take (k + 1) xs)) old new (λ a. sym (
      ap (λ l. ids_of l a) (take_more xs k x within ∙ ap (λ y. take k xs ++ y ∷ []) (sym at)) ∙ list_any-append (λ (x : X). id_of x == a) (take k xs) (x ∷ []) ∙ ap (λ b. ids_of (take k xs) a || b) (alone (id_of x == a))))
      (more_marked t (ids_of (take k xs)) (λ a. id_of x == a) old middle new first last)
    where
      alone : (b : Bool) → (b || false) ≡ b
      alone true = refl
      alone false = refl

  -- until all are
  pub ids_marked : (xs ys : List X) (k : ℕ) (old new : List ℕ) → xs ≡ ys → k ≡ length xs → Marks t (ids_of (take k xs)) old new → Marks t (ids_of ys) old new
  ids_marked xs ys k old new same end marks =
      subst (λ l. Marks t (ids_of l) old new) (ap (λ n. take n xs) end ∙ take-length xs ∙ same) marks

-- the id of an attribute of a type is a place
pub attribute_within : (m : Model) → IsValid m → (t k : ℕ) (xs : List AttrAt) (a : AttrAt) → xs ≡ attributes_at m t → k < length xs → a ≡ get_or xs k a → a.id < length (first_attributes m)
attribute_within m valid t k xs a same within at =
    (valid_has_ids m valid).attributes_declared t a.id (list_any_from (λ b. b.id == a.id) (attributes_at m t) k a (read_at xs (attributes_at m t) k a same within at) (eq-eqb a.id a.id refl))

port_within : (m : Model) → IsValid m → (t k : ℕ) (xs : List PortAt) (p : PortAt) → xs ≡ ports_at m t → k < length xs → p ≡ get_or xs k p → p.id < length (first_ports m)
port_within m valid t k xs p same within at =
    (valid_has_ids m valid).ports_declared t p.id (list_any_from (λ b. b.id == p.id) (ports_at m t) k p (read_at xs (ports_at m t) k p same within at) (eq-eqb p.id p.id refl))

pub port_at_within : (m : Model) → IsValid m → (t k : ℕ) (xs : List PortAt) (otherwise : PortAt) → xs ≡ ports_at m t → k < length xs → (get_or xs k otherwise).id < length (first_ports m)
port_at_within m valid t k xs otherwise same within =
    port_within m valid t k xs (get_or xs k otherwise) same within (get_or_default xs k otherwise (get_or xs k otherwise) within)
