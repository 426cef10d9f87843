-- A search over the rows of a shelf.
use Rattle.std.proofs.Common.{◌≡◌, ◌≢◌, ◌<◌, ◌≤◌, ◌+◌, ℕ, zero, suc, Bool, true, false, true≢false, List, [], ◌∷◌, ◌++◌, map, length, refl, ap, sym, subst, ◌∙◌, inl, inr, ◌⊎◌, Option, Some, None, arith}
use Rattle.std.specs.Prelude.{slice_get, slice_set, IfSome}
use Rattle.std.proofs.lemmas.Bool.Decides.{eqb_tells}
use Rattle.std.proofs.Math.Dec.{eqb}
use Rattle.std.proofs.lemmas.Option.{same_Some, none-some, slice_get_within}
use Rattle.base_laws.specs.Places.{IsAt}
use Rattle.base_laws.proofs.Places.{map_at, at_either, at_map}
use Rattle.base_laws.proofs.Tests.{list_all_at}
use Rattle.prod_model.specs.declared.model.Model.{Model}
use Rattle.config_value.specs.declared.literal.Literal.{Literal}
use Rattle.literal_book.specs.declared.nogood.Nogood.{Nogood}
use Rattle.state_space.specs.State.{State}
use Rattle.state_space.specs.Entails.{entails}
use Rattle.state_space.specs.Described.{entails_all}
use Rattle.nogood_store.specs.declared.watchers.Watchers.{Watchers}
use Rattle.nogood_store.specs.declared.watched.Watched.{Watched}
use Rattle.nogood_store.specs.declared.shelf.Shelf.{Shelf}
use Rattle.nogood_store.specs.Stores.{Applies, AppliesAt, IsFirstApplying, IsWatched, most_literals}
use Rattle.nogood_store.specs.steps.Watching.{AreWatchedEntailed, IsFirstOpen}
use Rattle.nogood_store.specs.steps.Watchers.{KeepsAhead, KeepsWatches, MovesWatch, Stands, numbers_of}
use Rattle.nogood_store.proofs.Watches.{KeepsPlaces}
use Rattle.nogood_store.specs.steps.Shelves.{FromPlace, FromRow, IsAtMost, IsBareAmong, IsFound, IsLeft, IsLooked, IsSearching, IsShelf, IsWatchedAmong, KeepsShelf, nogoods_of}

-- ---- one nogood

module _ (m : Model) (s : State) (literals : List Literal) where
  -- where a literal isn't entailed, not all are
  pub not_all : (place : ℕ) → IsFirstOpen m s literals (Some place) → ¬ entails_all m s literals
  not_all place (l, at, fails) all = true≢false (sym (list_all_at (entails m s) literals all place l at) ∙ fails)

  -- it is none of the watched ones, which are
  pub open_apart : (w : Option (ℕ × ℕ)) (place : ℕ) → AreWatchedEntailed m s literals w
      → IsFirstOpen m s literals (Some place) → IfSome w (λ w. place ≢ w.1)
  open_apart None place all is_open = tt
  open_apart (Some (a, b)) place all (l, at, fails) = λ same.
      true≢false (sym (all.1 l (subst (λ k. IsAt literals k l) same at)) ∙ fails)

-- ---- what is kept

pub keeps_itself : (s : Shelf) → KeepsShelf s s
keeps_itself s = record {
  nogoods = refl;
  looked = omega arith;
  literals = refl;
  bare = refl;
  shelf = λ is. is;
}

pub keeps_both : (a b c : Shelf) → KeepsShelf a b → KeepsShelf b c → KeepsShelf a c
keeps_both a b c first then = record {
  nogoods = then.nogoods ∙ first.nogoods;
  looked = omega (arith, first.looked, then.looked);
  literals = then.literals ∙ first.literals;
  bare = then.bare ∙ first.bare;
  shelf = λ is. then.shelf (first.shelf is);
}

-- a shelf that is the same but for its count
pub counted : (old new : Shelf) → new.nogoods ≡ old.nogoods → new.watchers ≡ old.watchers → new.bare ≡ old.bare
    → old.looked ≤ new.looked → KeepsShelf old new
counted old new nogoods watchers bare looked = record {
  nogoods = ap (λ v. map (λ (x : Watched). x.nogood) v.items) nogoods;
  looked = looked;
  literals = ap (λ (w : Watchers). w.literals.keys) watchers;
  bare = ap (λ v. v.items) bare;
  shelf = λ is. record {
    watched = λ k x at. is.watched k x (subst (λ v. IsAt v.items k x) nogoods at);
    short = λ k x at. is.short k x (subst (λ v. IsAt v.items k x) nogoods at);
    found = λ k x at.
        subst (λ w. IsBareAmong new.bare.items k x.nogood.literals ⊎ IsWatchedAmong w k x.nogood.literals) (sym watchers)
        (subst (λ v. IsBareAmong v.items k x.nogood.literals ⊎ IsWatchedAmong old.watchers k x.nogood.literals) (sym bare)
        (is.found k x (subst (λ v. IsAt v.items k x) nogoods at)));
  };
}

-- what was there before one was replaced, or the new one
pub set_at : {A : Type 0} (xs : List A) (i : ℕ) (y : A) (k : ℕ) (x : A) → IsAt (slice_set xs i y) k x → (y ≡ x) ⊎ IsAt xs k x
set_at [] i y k x at = absurd (none-some x at)
set_at (z ∷ xs) zero y zero x at = inl (same_Some y x at)
set_at (z ∷ xs) zero y (suc k) x at = inr at
set_at (z ∷ xs) (suc i) y zero x at = inr at
set_at (z ∷ xs) (suc i) y (suc k) x at = set_at xs i y k x at

-- one that is replaced by one with the same image leaves the images
pub map_set : {A B : Type 0} (f : A → B) (xs : List A) (i : ℕ) (x y : A) → IsAt xs i x → f y ≡ f x → map f (slice_set xs i y) ≡ map f xs
map_set f [] i x y at same = refl
map_set f (z ∷ xs) zero x y at same = ap (λ b. b ∷ map f xs) (same ∙ ap f (sym (same_Some z x at)))
map_set f (z ∷ xs) (suc i) x y at same = ap (λ bs. f z ∷ bs) (map_set f xs i x y at same)

-- a watch of a nogood moves to one of its literals, and the nogood itself is perhaps watched anew
module _ (old new : Shelf) (k at n place : ℕ) (x : Watched) (l : Literal)
    (there : Stands old.watchers.rows.items k at n) (of : IsAt old.nogoods.items n x) (literal : IsAt x.nogood.literals place l)
    (moves : MovesWatch k at l old.watchers new.watchers) (literals : new.watchers.literals ≡ old.watchers.literals)
    (bare : new.bare.items ≡ old.bare.items) (looked : new.looked ≡ old.looked)
    (nogoods : nogoods_of new ≡ nogoods_of old)
    (watched : IsShelf old → (j : ℕ) (y : Watched) → IsAt new.nogoods.items j y → IsWatched y.nogood y.watch) where
  -- what stands among the new ones has a nogood that stood there
  before_at : (j : ℕ) (y : Watched) → IsAt new.nogoods.items j y → (z : Watched) × IsAt old.nogoods.items j z × (z.nogood ≡ y.nogood)
  before_at j y stands =
      map_at (λ (w : Watched). w.nogood) old.nogoods.items j y.nogood
      (subst (λ ns. IsAt ns j y.nogood) nogoods (at_map (λ (w : Watched). w.nogood) new.nogoods.items j y stands))

  pub watch_shifted : KeepsShelf old new
  watch_shifted = record {
    nogoods = nogoods;
    looked = omega (arith, looked);
    literals = ap (λ s. s.keys) literals;
    bare = bare;
    shelf = λ is. record {
      watched = watched is;
      short = λ j y stands.
          let z = before_at j y stands in
          subst (λ (g : Nogood). length g.literals ≤ most_literals) z.2 (is.short j z.0 z.1);
      found = λ j y stands.
          let z = before_at j y stands in
          subst (λ (g : Nogood). IsBareAmong new.bare.items j g.literals ⊎ IsWatchedAmong new.watchers j g.literals) z.2
          (found j z.0 z.1 (is.found j z.0 z.1));
    };
  }
    where
      found : (j : ℕ) (z : Watched) → IsAt old.nogoods.items j z
          → IsBareAmong old.bare.items j z.nogood.literals ⊎ IsWatchedAmong old.watchers j z.nogood.literals
          → IsBareAmong new.bare.items j z.nogood.literals ⊎ IsWatchedAmong new.watchers j z.nogood.literals
      found j z stands (inl is) = inl (subst (λ b. IsBareAmong b j z.nogood.literals) (sym bare) is)
      found j z stands (inr is) = elim (moves is.literal j is.watched) [
        | inl still ↦ inr (record { literal = is.literal; place = is.place; there = is.there; watched = still })
        | inr moved ↦
            let same : n ≡ j = same_Some n j (sym there ∙ moved.0) in
            let one : x ≡ z = same_Some x z (sym of ∙ subst (λ i. IsAt old.nogoods.items i z) (sym same) stands) in
            inr (record {
              literal = l;
              place = place;
              there = subst (λ (y : Watched). IsAt y.nogood.literals place l) one literal;
              watched = moved.1;
            })
      ]

-- ---- a look at one place

-- a number that is less is no greater than what the least is no greater than
pub less_lower : (least : Option ℕ) (n : ℕ) → ¬ IsAtMost least n → (p : ℕ) → IsAtMost least p → n ≤ p
less_lower None n less p is = absurd is
less_lower (Some j) n less p is = omega (arith, less, is)

module _ (m : Model) (keep : List Bool) (s : State) (k at : ℕ) (old new : Shelf) (least : Option ℕ)
    (kept : KeepsShelf old new) (ahead : KeepsAhead k at old.watchers.rows.items new.watchers.rows.items) where
  -- what stands there doesn't apply, or is no less
  pub looked_past : ((p : ℕ) → Stands old.watchers.rows.items k at p → AppliesAt m keep s (nogoods_of old) p → IsAtMost least p)
      → IsLooked m keep s k at old new least least
  looked_past passed = record { kept = kept; ahead = ahead; found = λ is. is; lower = λ p is. is; passed = passed }

  -- what stands there applies, and is less
  pub looked_less : (n : ℕ) → Stands old.watchers.rows.items k at n → AppliesAt m keep s (nogoods_of old) n → ¬ IsAtMost least n
      → IsLooked m keep s k at old new least (Some n)
  looked_less n there applies less = record {
    kept = kept;
    ahead = ahead;
    found = λ is. applies;
    lower = λ p is. less_lower least n less p is;
    passed = λ p stands is. let same = same_Some n p (sym there ∙ stands) in omega (arith, same);
  }

-- what stands at a place applies as its nogood does
pub applies_as : (m : Model) (keep : List Bool) (s : State) (shelf : Shelf) (n : ℕ) (x : Watched) → IsAt shelf.nogoods.items n x
    → AppliesAt m keep s (nogoods_of shelf) n → Applies m keep s x.nogood
applies_as m keep s shelf n x at is =
    subst (Applies m keep s) (same_Some is.nogood x.nogood (sym is.there ∙ at_map (λ (w : Watched). w.nogood) shelf.nogoods.items n x at)) is.applies

pub applies_here : (m : Model) (keep : List Bool) (s : State) (shelf : Shelf) (n : ℕ) (x : Watched) → IsAt shelf.nogoods.items n x
    → Applies m keep s x.nogood → AppliesAt m keep s (nogoods_of shelf) n
applies_here m keep s shelf n x at is = record {
  nogood = x.nogood;
  there = at_map (λ (w : Watched). w.nogood) shelf.nogoods.items n x at;
  applies = is;
}

-- a number without a nogood doesn't apply
pub applies_within : (m : Model) (keep : List Bool) (s : State) (shelf : Shelf) (n : ℕ)
    → AppliesAt m keep s (nogoods_of shelf) n → (x : Watched) × IsAt shelf.nogoods.items n x
applies_within m keep s shelf n is =
    let x = map_at (λ (w : Watched). w.nogood) shelf.nogoods.items n is.nogood is.there in (x.0, x.1)

-- ---- a search

module _ (m : Model) (keep : List Bool) (s : State) (old : Shelf) where
  -- one place less is left after a look at it
  pub place_searched : (cur new : Shelf) (k at : ℕ) (least result : Option ℕ)
      → IsSearching m keep s old cur (FromPlace k (at + 1)) least → IsLooked m keep s k at cur new least result
      → IsSearching m keep s old new (FromPlace k at) result
  place_searched cur new k at least result is look = record {
    kept = keeps_both old cur new is.kept look.kept;
    found = subst (λ ns. IfSome result (AppliesAt m keep s ns)) is.kept.nogoods
        (look.found (subst (λ ns. IfSome least (AppliesAt m keep s ns)) (sym is.kept.nogoods) is.found));
    left = λ p applies. elim (is.left p applies) [
      | inl low ↦ inl (look.lower p low)
      | inr more ↦ by p (subst (λ ns. AppliesAt m keep s ns p) (sym is.kept.nogoods) applies) more more.ahead (eqb_tells more.place at)
    ];
  }
    where
      still : (p : ℕ) (more : IsLeft m s cur.watchers (FromPlace k (at + 1)) p) → (more.row ≢ k) ⊎ (more.place < at)
          → FromPlace k at more.row more.place → IsLeft m s new.watchers (FromPlace k at) p
      still p more before ahead = record {
        row = more.row;
        place = more.place;
        literal = more.literal;
        of_row = subst (λ ls. IsAt ls more.row more.literal) (sym look.kept.literals) more.of_row;
        entailed = more.entailed;
        there = look.ahead more.row more.place p more.there before;
        ahead = ahead;
      }

      by : (p : ℕ) → AppliesAt m keep s (nogoods_of cur) p → (more : IsLeft m s cur.watchers (FromPlace k (at + 1)) p)
          → FromPlace k (at + 1) more.row more.place
          → ((eqb more.place at ≡ true) × (more.place ≡ at)) ⊎ ((eqb more.place at ≡ false) × (more.place ≢ at))
          → IsAtMost result p ⊎ IsLeft m s new.watchers (FromPlace k at) p
      by p applies more (inl behind) _ = inr (still p more (inl (λ same. absurd (omega (arith, behind, same)))) (inl behind))
      by p applies more (inr (same, below)) (inr (_, apart)) =
          let less : more.place < at = omega (arith, below, apart) in
          inr (still p more (inr less) (inr (same, less)))
      by p applies more (inr (same, below)) (inl (_, here)) =
          inl (look.passed p
          (subst (λ q. Stands cur.watchers.rows.items k q p) here (subst (λ r. Stands cur.watchers.rows.items r more.place p) same more.there))
          applies)

  -- what is left can be told anew
  pub left_by : (cur : Shelf) (Before After : ℕ → ℕ → Type 0) (least : Option ℕ) → IsSearching m keep s old cur Before least
      → ((p : ℕ) → (more : IsLeft m s cur.watchers Before p) → After more.row more.place)
      → IsSearching m keep s old cur After least
  left_by cur Before After least is ahead = record {
    kept = is.kept;
    found = is.found;
    left = λ p applies. elim (is.left p applies) [
      | inl low ↦ inl low
      | inr more ↦ inr (record {
        row = more.row;
        place = more.place;
        literal = more.literal;
        of_row = more.of_row;
        entailed = more.entailed;
        there = more.there;
        ahead = ahead p more;
      })
    ];
  }

  -- a row begins with all its places
  pub row_begins : (cur : Shelf) (k : ℕ) (least : Option ℕ) → IsSearching m keep s old cur (FromRow k) least
      → IsSearching m keep s old cur (FromPlace k (length (numbers_of cur.watchers.rows.items k))) least
  row_begins cur k least is =
      left_by cur (FromRow k) (FromPlace k (length (numbers_of cur.watchers.rows.items k))) least is
      (λ p more. by p more (eqb_tells more.row k))
    where
      by : (p : ℕ) (more : IsLeft m s cur.watchers (FromRow k) p)
          → ((eqb more.row k ≡ true) × (more.row ≡ k)) ⊎ ((eqb more.row k ≡ false) × (more.row ≢ k))
          → FromPlace k (length (numbers_of cur.watchers.rows.items k)) more.row more.place
      by p more (inl (_, same)) =
          inr (
            same,
            slice_get_within (numbers_of cur.watchers.rows.items k) more.place p
                (subst (λ r. Stands cur.watchers.rows.items r more.place p) same more.there),
          )
      by p more (inr (_, apart)) = inl (let from = more.ahead in omega (arith, from, apart))

  -- it ends with none
  pub row_ends : (cur : Shelf) (k : ℕ) (least : Option ℕ) → IsSearching m keep s old cur (FromPlace k 0) least
      → IsSearching m keep s old cur (FromRow (k + 1)) least
  row_ends cur k least is = left_by cur (FromPlace k 0) (FromRow (k + 1)) least is (λ p more. by more.row more.place more.ahead)
    where
      by : (row place : ℕ) → FromPlace k 0 row place → k + 1 ≤ row
      by row place (inl behind) = omega (arith, behind)
      by row place (inr (same, none)) = absurd (omega (arith, none))

  -- the row of a literal that isn't entailed has none that applies
  pub row_passed : (cur : Shelf) (k : ℕ) (least : Option ℕ) → IsSearching m keep s old cur (FromRow k) least
      → ((l : Literal) → IsAt cur.watchers.literals.keys k l → entails m s l ≡ false)
      → IsSearching m keep s old cur (FromRow (k + 1)) least
  row_passed cur k least is fails = left_by cur (FromRow k) (FromRow (k + 1)) least is (λ p more. by p more (eqb_tells more.row k))
    where
      by : (p : ℕ) (more : IsLeft m s cur.watchers (FromRow k) p)
          → ((eqb more.row k ≡ true) × (more.row ≡ k)) ⊎ ((eqb more.row k ≡ false) × (more.row ≢ k)) → k + 1 ≤ more.row
      by p more (inl (_, same)) =
          absurd (true≢false (sym more.entailed
          ∙ fails more.literal (subst (λ r. IsAt cur.watchers.literals.keys r more.literal) same more.of_row)))
      by p more (inr (_, apart)) = let from = more.ahead in omega (arith, from, apart)

  -- at the beginning each that applies is bare or left
  pub search_begins : IsShelf old → (least : Option ℕ) → IfSome least (AppliesAt m keep s (nogoods_of old))
      → ((p i : ℕ) → IsAt old.bare.items i p → AppliesAt m keep s (nogoods_of old) p → IsAtMost least p)
      → IsSearching m keep s old old (FromRow 0) least
  search_begins shelf least found bare = record {
    kept = keeps_itself old;
    found = found;
    left = λ p applies.
        let x = applies_within m keep s old p applies in
        by p x.0 applies (applies_as m keep s old p x.0 x.1 applies).entailed (shelf.found p x.0 x.1);
  }
    where
      by : (p : ℕ) (x : Watched) → AppliesAt m keep s (nogoods_of old) p → entails_all m s x.nogood.literals
          → IsBareAmong old.bare.items p x.nogood.literals ⊎ IsWatchedAmong old.watchers p x.nogood.literals
          → IsAtMost least p ⊎ IsLeft m s old.watchers (FromRow 0) p
      by p x applies all (inl (_, (i, at))) = inl (bare p i at applies)
      by p x applies all (inr is) = inr (record {
        row = is.watched.row;
        place = is.watched.place;
        literal = is.literal;
        of_row = is.watched.literal;
        entailed = list_all_at (entails m s) x.nogood.literals all is.place is.literal is.there;
        there = is.watched.there;
        ahead = omega arith;
      })

  -- at the end the least is the first that applies
  pub search_ends : (cur : Shelf) (k : ℕ) (least : Option ℕ) → IsSearching m keep s old cur (FromRow k) least
      → length cur.watchers.literals.keys ≤ k → IsFirstApplying m keep s (nogoods_of old) least
  search_ends cur k least is past = by least is.found (λ p applies. elim (is.left p applies) [
    | inl low ↦ low
    | inr more ↦ absurd (let from = more.ahead in
        omega (arith, past, from, slice_get_within cur.watchers.literals.keys more.row more.literal more.of_row))
  ])
    where
      by : (least : Option ℕ) → IfSome least (AppliesAt m keep s (nogoods_of old))
          → ((p : ℕ) → AppliesAt m keep s (nogoods_of old) p → IsAtMost least p) → IsFirstApplying m keep s (nogoods_of old) least
      by None found low = low
      by (Some n) found low = record { is = found; none_before = λ p applies before. let at = low p applies in omega (arith, at, before) }

-- ---- one more

-- what holds of a nogood of a shelf
record Each (s : Shelf) (k : ℕ) (x : Watched) : Type 0 where
  watched : IsWatched x.nogood x.watch
  short : length x.nogood.literals ≤ most_literals
  found : IsFound s k x.nogood.literals

module _ (old new : Shelf) (is : IsShelf old) (kept : KeepsWatches old.watchers new.watchers)
    (bare : KeepsPlaces old.bare.items new.bare.items) where
  -- what was found is found
  found_still : (k : ℕ) (literals : List Literal) → IsFound old k literals → IsFound new k literals
  found_still k literals (inl (none, (i, at))) = inl (none, (i, bare i k at))
  found_still k literals (inr w) = inr (record {
    literal = w.literal;
    place = w.place;
    there = w.there;
    watched = kept w.literal k w.watched;
  })

  -- where no nogood is put in
  pub shelf_kept : new.nogoods.items ≡ old.nogoods.items → IsShelf new
  shelf_kept same = record {
    watched = λ k x at. is.watched k x (subst (λ xs. IsAt xs k x) same at);
    short = λ k x at. is.short k x (subst (λ xs. IsAt xs k x) same at);
    found = λ k x at. found_still k x.nogood.literals (is.found k x (subst (λ xs. IsAt xs k x) same at));
  }

  -- where one is put in last
  pub shelf_added : (w : Watched) → new.nogoods.items ≡ old.nogoods.items ++ w ∷ [] → IsWatched w.nogood w.watch
      → length w.nogood.literals ≤ most_literals → IsFound new (length old.nogoods.items) w.nogood.literals → IsShelf new
  shelf_added w items watched short placed = record {
    watched = λ k x at. (each k x at).watched;
    short = λ k x at. (each k x at).short;
    found = λ k x at. (each k x at).found;
  }
    where
      last : (k j : ℕ) (x : Watched) → k ≡ length old.nogoods.items + j → IsAt (w ∷ []) j x → Each new k x
      last k zero x same at =
          let here : length old.nogoods.items ≡ k = omega (arith, same) in
          subst (Each new k) (same_Some w x at)
          (record { watched = watched; short = short; found = subst (λ n. IsFound new n w.nogood.literals) here placed })
      last k (suc j) x same at = absurd (none-some x at)

      each : (k : ℕ) (x : Watched) → IsAt new.nogoods.items k x → Each new k x
      each k x at = elim (at_either old.nogoods.items (w ∷ []) k x (subst (λ xs. IsAt xs k x) items at)) [
        | inl before ↦ record {
          watched = is.watched k x before;
          short = is.short k x before;
          found = found_still k x.nogood.literals (is.found k x before);
        }
        | inr more ↦ last k more.0 x more.1 more.2
      ]

-- a list without a first element is empty
pub no_first : {A : Type 0} (xs : List A) → slice_get xs 0 ≡ None → xs ≡ []
no_first [] none = refl
no_first (x ∷ xs) none = absurd (none-some x (sym none))

-- the nogoods, with one more
pub nogoods_added : (old new : Shelf) (w : Watched) (n : Nogood) → new.nogoods.items ≡ old.nogoods.items ++ w ∷ [] → w.nogood ≡ n
    → nogoods_of new ≡ nogoods_of old ++ n ∷ []
nogoods_added old new w n items same =
    ap (map (λ (x : Watched). x.nogood)) items ∙ by old.nogoods.items
  where
    by : (xs : List Watched) → map (λ (x : Watched). x.nogood) (xs ++ w ∷ []) ≡ map (λ (x : Watched). x.nogood) xs ++ n ∷ []
    by [] = ap (λ g. g ∷ []) same
    by (x ∷ xs) = ap (λ gs. x.nogood ∷ gs) (by xs)
