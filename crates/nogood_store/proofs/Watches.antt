-- What is watched where, after a change of one row.
use Rattle.std.proofs.Common.{◌≡◌, ◌≢◌, ℕ, zero, suc, ◌<◌, ◌+◌, ◌-◌, Bool, true, false, List, [], ◌∷◌, ◌++◌, length, get_or, Some, refl, sym, ap, ◌∙◌, subst, inl, inr, ◌⊎◌, rules, if◌then◌else◌, arith}
use Rattle.std.proofs.Math.ListN.{set}
use Rattle.std.specs.List.{list_any, position}
use Rattle.std.specs.Option.{option_map_or}
use Rattle.std.proofs.lemmas.Bool.Decides.{eqb_tells}
use Rattle.std.proofs.Math.Dec.{eqb}
use Rattle.std.proofs.lemmas.Option.{none-some, same_Some, slice_get-get_or, slice_get_within, get_or_from_slice_get}
use Rattle.std.proofs.lemmas.List.Quantifiers.{position-Some}
use Rattle.base_laws.specs.Places.{IsAt}
use Rattle.base_laws.proofs.Places.{at_front}
use Rattle.config_value.specs.declared.literal.Literal.{Literal}
use Rattle.config_value.specs.contracts.literal.LiteralPartialEq.TheImpl.{eq-value}
use Rattle.indexmap.specs.IndexSet.{insert_key}
use Rattle.nogood_store.specs.declared.watchers.Row.{Row}
use Rattle.nogood_store.specs.declared.watchers.Watchers.{Watchers}
use Rattle.nogood_store.specs.steps.Watchers.{IsWatchedAt, IsTakenOut, KeepsAhead, KeepsRows, KeepsWatches, MovesWatch, Stands, numbers_of}

-- what stands at a place of a list stands there in the other
abbrev pub KeepsPlaces : {A : Type 0} → List A → List A → Type 0
KeepsPlaces {A} xs ys = (i : ℕ) (x : A) → IsAt xs i x → IsAt ys i x

pub kept_watches : (old new : Watchers) → KeepsPlaces old.literals.keys new.literals.keys
    → KeepsRows old.rows.items new.rows.items → KeepsWatches old new
kept_watches old new literals rows l n at = record {
  row = at.row;
  place = at.place;
  literal = literals at.row l at.literal;
  there = rows at.row at.place n at.there;
}

-- a row that keeps its numbers can be written anew
pub rows_set : (rows : List Row) (k : ℕ) (was now : Row) → IsAt rows k was
    → KeepsPlaces was.numbers.items now.numbers.items → KeepsRows rows (set rows k now)
rows_set [] k was now at kept j i n there = absurd (none-some was at)
rows_set (r ∷ rows) zero was now at kept zero i n there =
    kept i n (subst (λ (x : Row). IsAt x.numbers.items i n) (same_Some r was at) there)
rows_set (r ∷ rows) zero was now at kept (suc j) i n there = there
rows_set (r ∷ rows) (suc k) was now at kept zero i n there = there
rows_set (r ∷ rows) (suc k) was now at kept (suc j) i n there = rows_set rows k was now at kept j i n there

-- what a row holds after it is written
pub row_written : (rows : List Row) (k : ℕ) (now : Row) (i n : ℕ) → k < length rows
    → IsAt now.numbers.items i n → Stands (set rows k now) k i n
row_written [] k now i n within at = absurd (omega (arith, within))
row_written (r ∷ rows) zero now i n within at = at
row_written (r ∷ rows) (suc k) now i n within at = row_written rows k now i n (omega (arith, within)) at

-- one more row leaves the others
pub rows_push : (rows : List Row) (r : Row) → KeepsRows rows (rows ++ r ∷ [])
rows_push [] r k i n there = absurd (none-some n there)
rows_push (x ∷ rows) r zero i n there = there
rows_push (x ∷ rows) r (suc k) i n there = rows_push rows r k i n there

-- one more element leaves the others
pub places_push : {A : Type 0} (xs : List A) (x : A) → KeepsPlaces xs (xs ++ x ∷ [])
places_push xs x i y at = at_front xs (x ∷ []) i y at

-- a literal that is put in leaves the others where they are
pub places_insert : (eq : Literal → Literal → Bool) (ls : List Literal) (l : Literal)
    → KeepsPlaces ls (insert_key eq ls l)
places_insert eq ls l = by (list_any (eq l) ls) refl
  where
    by : (b : Bool) → list_any (eq l) ls ≡ b → KeepsPlaces ls (insert_key eq ls l)
    by true is i x at = subst (λ c. IsAt (if c then ls else (ls ++ l ∷ [])) i x) (sym is) at
    by false is i x at = subst (λ c. IsAt (if c then ls else (ls ++ l ∷ [])) i x) (sym is) (places_push ls l i x at)

-- literals that are equal are one
pub same_literal : (a b : Literal) → eq-value.it a b ≡ true → a ≡ b
same_literal a b same = search rules

-- the place of a literal has that literal
pub place_of_literal : (eq : Literal → Literal → Bool) → ((a b : Literal) → eq a b ≡ true → a ≡ b)
    → (ls : List Literal) (l : Literal) (k : ℕ) → position (eq l) ls ≡ Some k → IsAt ls k l
place_of_literal eq same ls l k found =
    let at = position-Some (eq l) ls k l found in
    slice_get-get_or ls k l at.0 ∙ ap Some (sym (same l (get_or ls k l) at.1))

-- what a push leaves, whether there was room or not
pub places_pushed : {A : Type 0} (xs ys : List A) (x : A) (b : Bool) → ys ≡ (if b then (xs ++ x ∷ []) else xs)
    → KeepsPlaces xs ys
places_pushed xs ys x true is i y at = subst (λ zs. IsAt zs i y) (sym is) (places_push xs x i y at)
places_pushed xs ys x false is i y at = subst (λ zs. IsAt zs i y) (sym is) at

-- ---- taking out

-- What a list is after one element is taken out and the last has its place.
pub record IsSwapRemoved (at : ℕ) (old new : List ℕ) : Type 0 where
  pub len : length new + 1 ≡ length old
  pub last : (d : ℕ) → at + 1 < length old → get_or new at d ≡ get_or old (length old - 1) d
  pub same : (k d : ℕ) → k ≢ at → k + 1 < length old → get_or new k d ≡ get_or old k d

-- what stands elsewhere stays in the list, and in its place where that is not the last
pub removed_other : (at : ℕ) (old new : List ℕ) → IsSwapRemoved at old new → (i n : ℕ) → at < length old
    → IsAt old i n → i ≢ at → (p : ℕ) × IsAt new p n × (i < at → p ≡ i)
removed_other at old new removed i n within there apart = by (eqb_tells (i + 1) (length old))
  where
    below : i < length old
    below = slice_get_within old i n there

    by : ((eqb (i + 1) (length old) ≡ true) × (i + 1 ≡ length old)) ⊎ ((eqb (i + 1) (length old) ≡ false) × (i + 1 ≢ length old))
        → (p : ℕ) × IsAt new p n × (i < at → p ≡ i)
    by (inl (_, is_last)) =
        let there_now : get_or new at n ≡ n =
        removed.last n (omega (arith, within, is_last, apart))
        ∙ ap (λ k. get_or old k n) (omega (arith, is_last)) ∙ get_or_from_slice_get old i n n there in (
          at,
          slice_get-get_or new at n (omega (arith, removed.len, within, is_last, apart)) ∙ ap Some there_now,
          λ less. absurd (omega (arith, less, within, is_last)),
        )
    by (inr (_, no_last)) =
        let there_now : get_or new i n ≡ n =
        removed.same i n apart (omega (arith, below, no_last)) ∙ get_or_from_slice_get old i n n there in
        (i, slice_get-get_or new i n (omega (arith, removed.len, below, no_last)) ∙ ap Some there_now, λ less. refl)

-- the other rows stay when one is written
pub row_other : (rows : List Row) (k : ℕ) (now : Row) (j : ℕ) → j ≢ k → numbers_of (set rows k now) j ≡ numbers_of rows j
row_other [] k now j apart = refl
row_other (r ∷ rows) zero now zero apart = absurd (apart refl)
row_other (r ∷ rows) zero now (suc j) apart = refl
row_other (r ∷ rows) (suc k) now zero apart = refl
row_other (r ∷ rows) (suc k) now (suc j) apart = row_other rows k now j (λ same. apart (ap suc same))

-- the numbers of a row
pub numbers_at : (rows : List Row) (k : ℕ) (r : Row) → IsAt rows k r → numbers_of rows k ≡ r.numbers.items
numbers_at rows k r at = ap (λ o. option_map_or (λ (x : Row). x.numbers.items) o []) at

-- where there is nothing to take out, all stays
pub none_taken : (k at : ℕ) (old new : List Row) → KeepsRows old new → IsTakenOut k at old new
none_taken k at old new kept = record {
  ahead = λ j i n there before. kept j i n there;
  others = λ i n there apart. (i, kept k i n there);
}

-- what is taken out of a row is taken out of the rows
pub taken_out : (k at : ℕ) (rows : List Row) (was now : Row) → IsAt rows k was → at < length was.numbers.items
    → IsSwapRemoved at was.numbers.items now.numbers.items → IsTakenOut k at rows (set rows k now)
taken_out k at rows was now is within removed = record {
  ahead = λ j i n there before. by j i n there before (eqb_tells j k);
  others = λ i n there apart. let p = inside i n there apart in (p.0, p.1);
}
  where
    inside : (i n : ℕ) → Stands rows k i n → i ≢ at → (p : ℕ) × Stands (set rows k now) k p n × (i < at → p ≡ i)
    inside i n there apart =
        let p = removed_other at was.numbers.items now.numbers.items removed i n within
        (subst (λ ns. IsAt ns i n) (numbers_at rows k was is) there) apart in
        (p.0, row_written rows k now p.0 n (slice_get_within rows k was is) p.1, p.2)

    by : (j i n : ℕ) → Stands rows j i n → (j ≢ k) ⊎ (i < at)
        → ((eqb j k ≡ true) × (j ≡ k)) ⊎ ((eqb j k ≡ false) × (j ≢ k)) → Stands (set rows k now) j i n
    by j i n there before (inr (_, apart)) = subst (λ ns. IsAt ns i n) (sym (row_other rows k now j apart)) there
    by j i n there (inl apart) (inl (_, same)) = absurd (apart same)
    by j i n there (inr less) (inl (_, same)) =
        let p = inside i n (subst (λ r. Stands rows r i n) same there) (omega (arith, less)) in
        subst (λ r. Stands (set rows k now) r i n) (sym same) (subst (λ q. Stands (set rows k now) k q n) (p.2 less) p.1)

-- ---- moving a watch

module _ (k at t n : ℕ) (l : Literal) (old new : Watchers) (mid : List Row)
    (literals : KeepsPlaces old.literals.keys new.literals.keys) (there : Stands old.rows.items k at n)
    (kept : KeepsRows old.rows.items mid) (put : (p : ℕ) × Stands mid t p n) (apart : t ≢ k)
    (literal : IsAt old.literals.keys t l) (taken : IsTakenOut k at mid new.rows.items) where
  -- a number that is put in another row and then taken out of its own is watched there, and the others stay
  pub watch_moved : MovesWatch k at l old new
  watch_moved x m w = by (eqb_tells w.row k) (eqb_tells w.place at)
    where
      by : ((eqb w.row k ≡ true) × (w.row ≡ k)) ⊎ ((eqb w.row k ≡ false) × (w.row ≢ k))
          → ((eqb w.place at ≡ true) × (w.place ≡ at)) ⊎ ((eqb w.place at ≡ false) × (w.place ≢ at))
          → IsWatchedAt new x m ⊎ (Stands old.rows.items k at m × IsWatchedAt new l m)
      by (inr (_, other)) _ = inl (record {
        row = w.row;
        place = w.place;
        literal = literals w.row x w.literal;
        there = taken.ahead w.row w.place m (kept w.row w.place m w.there) (inl other);
      })
      by (inl (_, same)) (inr (_, other)) =
          let p = taken.others w.place m (subst (λ r. Stands mid r w.place m) same (kept w.row w.place m w.there)) other in
          inl (record {
            row = w.row;
            place = p.0;
            literal = literals w.row x w.literal;
            there = subst (λ r. Stands new.rows.items r p.0 m) (sym same) p.1;
          })
      by (inl (_, same)) (inl (_, here)) =
          let stands : Stands old.rows.items k at m =
          subst (λ q. Stands old.rows.items k q m) here (subst (λ r. Stands old.rows.items r w.place m) same w.there) in
          inr (
            stands,
            record {
              row = t;
              place = put.0;
              literal = literals t l literal;
              there = subst (λ q. Stands new.rows.items t put.0 q) (same_Some n m (sym there ∙ stands))
                  (taken.ahead t put.0 n put.1 (inl apart));
            },
          )

  -- what is ahead stays ahead
  pub ahead_kept : KeepsAhead k at old.rows.items new.rows.items
  ahead_kept j i m stands before = taken.ahead j i m (kept j i m stands) before
