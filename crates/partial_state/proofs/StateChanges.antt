-- What a change of one made instance does to the state.
use Rattle.std.proofs.Common.{◌≡◌, ℕ, zero, suc, ◌<◌, ◌≤◌, ◌∙◌, ap, sym, Bool, refl, inl, inr, List, [], ◌∷◌, length, ◌+◌, ◌++◌, take, drop, length-append, get_or, ℤ, Some, None, arith}
use Rattle.std.specs.Prelude.{IsSome, slice_get, slice_set, slice_index_or}
use Rattle.std.specs.declared.option.Option.{Option}
use Rattle.std.specs.Option.{option_and_then, option_map_or, is_some}
use Rattle.std.proofs.lemmas.Bool.{cases_lt, false≢true}
use Rattle.std.proofs.lemmas.Option.{slice_get_past, none-some, same_Some}
use Rattle.base_laws.proofs.Places.{read_at}
use Rattle.domain_store.specs.declared.change.Change.{Change}
use Rattle.state_space.specs.Values.{Values}
use Rattle.state_space.specs.Ports.{PortLinks}
use Rattle.state_space.specs.Made.{MadeInstance, domain_of, port_of_made}
use Rattle.state_space.specs.State.{State, kinds_at, changed_at, with_made}
use Rattle.state_space.specs.Undo.{OldValue, put_back, undone}
use Rattle.std.proofs.lemmas.List.{take_all}
use Rattle.state_space.specs.Changes.{NarrowsKinds, NarrowsDomain, NarrowsPort}
use Rattle.partial_state.specs.steps.InForm.{NarrowsInForm}
use Rattle.partial_state.specs.steps.Narrowed.{NarrowsAttribute, NarrowsPortOf, NarrowsTypes, NarrowsSlot}

-- what is asked of an instance is there only where it is made
pub made_below : {X Y : Type 0} (f : X → Option Y) (xs : List X) (i : ℕ) → IsSome (option_and_then f (slice_get xs i)) → i < length xs
made_below f xs i some = elim (cases_lt i (length xs)) [
  | inl below ↦ below
  | inr past ↦ absurd (false≢true (sym (ap (λ o. is_some (option_and_then f o)) (slice_get_past xs i past)) ∙ some))
]

pub made_read : {X : Type 0} (xs : List X) (i : ℕ) (x : X) → i < length xs → x ≡ get_or xs i x → slice_get xs i ≡ Some x
made_read xs i x below is = read_at xs xs i x refl below is

-- setting an element is changing it
pub set_is_changed : {X : Type 0} (f : X → X) (xs : List X) (i : ℕ) (x y : X) → slice_get xs i ≡ Some x → y ≡ f x → slice_set xs i y ≡ changed_at i f xs
set_is_changed f [] i x y at is = absurd (none-some x at)
set_is_changed f (z ∷ xs) zero x y at is = ap (λ w. w ∷ xs) (is ∙ ap f (sym (same_Some z x at)))
set_is_changed f (z ∷ xs) (suc i) x y at is = ap (λ ws. z ∷ ws) (set_is_changed f xs i x y at is)

-- what is read by position with any default is what the table has
pub slot_read : {X : Type 0} (xs : List (Option X)) (i : ℕ) (o : Option X) → i < length xs → o ≡ get_or xs i o → o ≡ slice_index_or xs i None
slot_read [] i o below is = absurd (omega arith)
slot_read (z ∷ xs) zero o below is = is
slot_read (z ∷ xs) (suc i) o below is = slot_read xs i o (omega arith) is

pub slot_below : {X : Type 0} (xs : List (Option X)) (i : ℕ) → IsSome (slice_index_or xs i None) → i < length xs
slot_below [] i some = absurd (false≢true some)
slot_below (z ∷ xs) zero some = omega arith
slot_below (z ∷ xs) (suc i) some = let below = slot_below xs i some in omega arith

pub slot_narrowed : (old : Option Values) (x y : Values) (test : ℤ → Bool) (result : Change) → old ≡ Some x → NarrowsInForm test result x y → NarrowsSlot test result old (Some y)
slot_narrowed old x y test result is given = record { before = x; after = y; was = is; narrowed = given; becomes = refl }

pub attribute_narrowed : (x : MadeInstance) (a : ℕ) (test : ℤ → Bool) (result : Change) (old new : Option Values) → old ≡ domain_of x a
    → NarrowsSlot test result old new → NarrowsAttribute a test result x (record x { domains = slice_set x.domains a new })
attribute_narrowed x a test result old new is given = record {
  before = given.before;
  after = given.after;
  was = sym is ∙ given.was;
  narrowed = given.narrowed;
  others = ap (λ o. record x { domains = slice_set x.domains a o }) given.becomes;
}

pub read_set : {X : Type 0} (xs : List X) (i : ℕ) (x y : X) → slice_get xs i ≡ Some x → slice_get (slice_set xs i y) i ≡ Some y
read_set [] i x y at = absurd (none-some x at)
read_set (z ∷ xs) zero x y at = refl
read_set (z ∷ xs) (suc i) x y at = read_set xs i x y at

module _ (old : State) (i : ℕ) (x y : MadeInstance) (at : slice_get old.made i ≡ Some x) where
  abbrev new : State
  new = record old { made = slice_set old.made i y }

  pub domain_changed : (a : ℕ) (test : ℤ → Bool) (result : Change) → NarrowsAttribute a test result x y → NarrowsDomain i a test result old new
  domain_changed a test result given = record {
    before = given.before;
    after = given.after;
    was = ap (option_and_then (λ z. domain_of z a)) at ∙ given.was;
    narrowed = given.narrowed.narrowed;
    formed = given.narrowed.formed;
    form = given.narrowed.form;
    others = ap (λ m. record old { made = m }) (set_is_changed (λ z. record z { domains = slice_set z.domains a (Some given.after) }) old.made i x y at given.others);
  }

  pub port_changed : (p : ℕ) (test : PortLinks → Bool) (result : Change) → NarrowsPortOf p test result x y → NarrowsPort i p test result old new
  port_changed p test result given = record {
    before = given.before;
    after = given.after;
    was = ap (option_and_then (λ z. port_of_made z p)) at ∙ given.was;
    narrowed = given.narrowed.narrowed;
    formed = given.narrowed.formed;
    others = ap (λ m. record old { made = m }) (set_is_changed (λ z. record z { ports = slice_set z.ports p (Some given.after) }) old.made i x y at given.others);
  }

  pub kinds_changed : (test : ℕ → Bool) (result : Change) → NarrowsTypes test result x y → NarrowsKinds i test result old new
  kinds_changed test result given =
      let was : kinds_at old i ≡ x.kinds = ap (λ o. option_map_or (λ z. z.kinds) o []) at in
      let is : kinds_at new i ≡ y.kinds = ap (λ o. option_map_or (λ z. z.kinds) o []) (read_set old.made i x y at) in record {
        narrowed = rw (was, is) given.narrowed;
        formed = rw is given.formed;
        others = rw is (ap (λ m. record old { made = m }) (set_is_changed (λ z. record z { kinds = y.kinds }) old.made i x y at given.others));
      }

-- ---- parts put back

pub part_put : (old : State) (i : ℕ) (f : MadeInstance → MadeInstance) (x y : MadeInstance) → i < length old.made → x ≡ get_or old.made i x → y ≡ f x
    → record old { made = slice_set old.made i y } ≡ with_made i f old
part_put old i f x y below is made =
    ap (λ m. record old { made = m }) (set_is_changed f old.made i x y (made_read old.made i x below is) made)

changed_past : {X : Type 0} (f : X → X) (xs : List X) (i : ℕ) → length xs ≤ i → xs ≡ changed_at i f xs
changed_past f [] i past = refl
changed_past f (x ∷ xs) zero past = absurd (omega arith)
changed_past f (x ∷ xs) (suc i) past = ap (λ ys. x ∷ ys) (changed_past f xs i (omega arith))

-- a place that the state lacks changes nothing
pub none_put : (old : State) (i : ℕ) (f : MadeInstance → MadeInstance) → length old.made ≤ i → old ≡ with_made i f old
none_put old i f past = ap (λ m. record old { made = m }) (changed_past f old.made i past)

-- ---- a log put back

pub undone_last : (os : List OldValue) (o : OldValue) (s : State) → undone (os ++ o ∷ []) s ≡ undone os (put_back o s)
undone_last [] o s = refl
undone_last (p ∷ os) o s = ap (put_back p) (undone_last os o s)

pub drop_before_last : (n : ℕ) (os : List OldValue) (o : OldValue) → n ≤ length os → drop n (os ++ o ∷ []) ≡ drop n os ++ o ∷ []
drop_before_last zero os o within = refl
drop_before_last (suc n) [] o within = absurd (omega arith)
drop_before_last (suc n) (p ∷ os) o within = drop_before_last n os o (omega arith)

pub take_before_last : (n : ℕ) (os : List OldValue) (o : OldValue) → n ≤ length os → take n (os ++ o ∷ []) ≡ take n os
take_before_last zero os o within = refl
take_before_last (suc n) [] o within = absurd (omega arith)
take_before_last (suc n) (p ∷ os) o within = ap (λ ps. p ∷ ps) (take_before_last n os o (omega arith))

pub drop_whole : (n : ℕ) (os : List OldValue) → length os ≤ n → drop n os ≡ []
drop_whole zero [] past = refl
drop_whole (suc n) [] past = refl
drop_whole zero (p ∷ os) past = absurd (omega arith)
drop_whole (suc n) (p ∷ os) past = drop_whole n os (omega arith)

-- how far an undoing has come: what is left to put back, and what the log keeps
pub record IsUndoing (len : ℕ) (first : State) (all : List OldValue) (s : State) (log : List OldValue) : Type 0 where
  pub within : len ≤ length log
  pub state : undone (drop len log) s ≡ undone (drop len all) first
  pub kept : take len log ≡ take len all

pub one_undone : (len : ℕ) (first : State) (all : List OldValue) (s new : State) (log rest : List OldValue) (o : OldValue)
    → IsUndoing len first all s log → log ≡ rest ++ o ∷ [] → len < length log → new ≡ put_back o s → IsUndoing len first all new rest
one_undone len first all s new log rest o before is below put =
    let long : length log ≡ length rest + 1 = ap length is ∙ length-append rest (o ∷ []) in
    let within : len ≤ length rest = omega arith in record {
      within = within;
      state =
          ap (undone (drop len rest)) put ∙ sym (undone_last (drop len rest) o s)
          ∙ ap (λ os. undone os s) (sym (drop_before_last len rest o within) ∙ ap (drop len) (sym is)) ∙ before.state;
      kept = sym (take_before_last len rest o within) ∙ ap (take len) (sym is) ∙ before.kept;
    }

pub all_undone : (len : ℕ) (first : State) (all : List OldValue) (s : State) (log : List OldValue) → IsUndoing len first all s log → length log ≤ len
    → (s ≡ undone (drop len all) first) × (log ≡ take len all)
all_undone len first all s log before past = (
  ap (λ os. undone os s) (sym (drop_whole len log past)) ∙ before.state,
  sym (take_all len log past) ∙ before.kept,
)
