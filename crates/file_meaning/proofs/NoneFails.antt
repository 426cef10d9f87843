-- Values in which none fails a test: by what is in them.
use Rattle.std.proofs.Common.{◌≡◌, ℕ, zero, suc, Bool, true, false, List, [], ◌∷◌, refl, sym, subst, ◌∙◌, Option, Some, None}
use Rattle.std.specs.Prelude.{IsTrue, IsFalse, is_some, not, ◌||◌}
use Rattle.std.specs.Option.{unwrap_or}
use Rattle.std.proofs.lemmas.Bool.{false≢true, and_parts}
use Rattle.std.proofs.lemmas.Option.{none-some, same_Some}
use Rattle.serde_json.specs.Data.{Data, null}
use Rattle.serde_json.specs.Find.{get}
use Rattle.base_laws.specs.Places.{IsAt}
use Rattle.base_laws.proofs.Tests.{list_all_at}
use Rattle.file_values.specs.declared.format.Format.{Format}
use Rattle.file_values.specs.declared.part.Part.{Part}
use Rattle.file_values.specs.declared.part.Part.TheVariants.{At as at}
use Rattle.file_values.specs.declared.kind.Kind.{Kind}
use Rattle.file_values.specs.declared.kind.Key.{Key}
use Rattle.file_values.specs.declared.kind.Member.{Member}
use Rattle.file_values.specs.Places.{text_of, under}
use Rattle.file_values.specs.Table.{members_of, item_of, must}
use Rattle.file_values.specs.Read.{items_in, member_of}
use Rattle.file_values.specs.Kinds.{has_members, has_to_stand, is_present}
use Rattle.file_values.specs.Inside.{IsInside, itself, in_member, in_item, FailsAt}

-- it is the one or the other
pub by_test : {X : Type 0} (b : Bool) → (b ≡ true → X) → (b ≡ false → X) → X
by_test true t f = t refl
by_test false t f = f refl

module _ (format : Format) (passes : Kind → Data → Bool) where
  -- no value in it fails the test
  abbrev pub NoneFails : Kind → Data → Type 0
  NoneFails k d = (place : List Part) → ¬ FailsAt format passes k d place

  -- the value itself passes
  pub whole_passes : (k : Kind) (d : Data) → NoneFails k d → IsTrue (passes k d)
  whole_passes k d none = by_test (passes k d) (λ is. is) (λ is. absurd (none [] record { kind = k; value = d; inside = itself; fails = is }))

  -- none fails in its members
  pub none-member : (k : Kind) (d : Data) → NoneFails k d → (i : ℕ) (m : Member) → IsAt (members_of format k) i m
      → (e : Data) → get (text_of m.key) d ≡ Some e → NoneFails m.kind e
  none-member k d none i m listed e there place f =
      none (under m.key ∷ place) record { kind = f.kind; value = f.value; inside = in_member i m listed e there f.inside; fails = f.fails }

  -- none fails in its items
  pub none-item : (k : Kind) (d : Data) → NoneFails k d → (j : Kind) → item_of k ≡ Some j
      → (i : ℕ) (e : Data) → IsAt (items_in d) i e → NoneFails j e
  none-item k d none j is i e there place f =
      none (at i ∷ place) record { kind = f.kind; value = f.value; inside = in_item j is i e there f.inside; fails = f.fails }

  -- none fails in it, where it passes and none fails in its members and its items
  abbrev NoneInMembers : Kind → Data → Type 0
  NoneInMembers k d = (i : ℕ) (m : Member) (e : Data) → IsAt (members_of format k) i m → get (text_of m.key) d ≡ Some e → NoneFails m.kind e

  abbrev NoneInItems : Kind → Data → Type 0
  NoneInItems k d = (j : Kind) → item_of k ≡ Some j → (i : ℕ) (e : Data) → IsAt (items_in d) i e → NoneFails j e

  none_inside : {k : Kind} {d : Data} {place : List Part} {l : Kind} {v : Data} → IsTrue (passes k d) → NoneInMembers k d → NoneInItems k d
      → IsInside format k d place l v → IsFalse (passes l v) → ⊥
  none_inside right members items itself fails = cc
  none_inside right members items (in_member i m listed e there {place = rest} {l = l} {f = f} inside) fails =
      members i m e listed there rest record { kind = l; value = f; inside = inside; fails = fails }
  none_inside right members items (in_item j is i e there {place = rest} {l = l} {f = f} inside) fails =
      items j is i e there rest record { kind = l; value = f; inside = inside; fails = fails }

  pub none-from : (k : Kind) (d : Data) → IsTrue (passes k d) → NoneInMembers k d → NoneInItems k d → NoneFails k d
  none-from k d right members items place f = none_inside right members items f.inside f.fails

  -- ---- members, one by one

  -- none fails in a member, if it stands
  abbrev pub NoneUnder : Data → Member → Type 0
  NoneUnder d m = (e : Data) → get (text_of m.key) d ≡ Some e → NoneFails m.kind e

  -- none fails in these members
  abbrev pub NoneUnderEach : Data → List Member → Type 0
  NoneUnderEach d [] = Unit {0}
  NoneUnderEach d (m ∷ ms) = NoneUnder d m × NoneUnderEach d ms

  under_each : (d : Data) (ms : List Member) → NoneUnderEach d ms → (i : ℕ) (m : Member) (e : Data) → IsAt ms i m → get (text_of m.key) d ≡ Some e → NoneFails m.kind e
  under_each d [] each i m e listed there = absurd (none-some m listed)
  under_each d (n ∷ ms) each zero m e listed there =
      let same : n ≡ m = same_Some n m listed in
      (subst_member n m same each.0) e there
    where
      subst_member : (n m : Member) → n ≡ m → NoneUnder d n → NoneUnder d m
      subst_member n m same under_n = subst (NoneUnder d) same under_n
  under_each d (n ∷ ms) each (suc i) m e listed there = under_each d ms each.1 i m e listed there

  -- an object in which none fails
  pub object_from : (k : Kind) (d : Data) → IsTrue (passes k d) → item_of k ≡ None → NoneUnderEach d (members_of format k) → NoneFails k d
  object_from k d right no_list each = none-from k d right (under_each d (members_of format k) each) (λ j is. absurd cc)

  -- a list in which none fails
  pub list_from : (k j : Kind) (d : Data) → IsTrue (passes k d) → item_of k ≡ Some j → members_of format k ≡ []
      → ((i : ℕ) (e : Data) → IsAt (items_in d) i e → NoneFails j e) → NoneFails k d
  list_from k j d right is no_object each =
      none-from k d right (λ i m e listed there. absurd (none-some m (subst (λ ms. IsAt ms i m) no_object listed)))
      (λ l is_l i e there. let same : j ≡ l = same_Some j l (sym is ∙ is_l) in subst (λ x. NoneFails x e) same (each i e there))

  -- a value with nothing in it that passes
  pub leaf_from : (k : Kind) (d : Data) → IsTrue (passes k d) → item_of k ≡ None → members_of format k ≡ [] → NoneFails k d
  leaf_from k d right no_list no_object = object_from k d right no_list (subst (NoneUnderEach d) (sym no_object) tt)

-- ---- members that stand

pub is_there : (o : Option Data) → IsTrue (is_some o) → o ≡ Some (unwrap_or o null)
is_there None some = absurd (false≢true some)
is_there (Some d) some = refl

-- a member that has to stand does
pub must_stand : (ms : List Member) (d : Data) → IsTrue (has_members ms d) → (i : ℕ) (k : Key) (kind : Kind) → IsAt ms i (must k kind) → get (text_of k) d ≡ Some (member_of k d)
must_stand ms d right i k kind listed =
    is_there (get (text_of k) d)
    (list_all_at (λ m. not (has_to_stand m.need) || is_present d m) ms (and_parts _ _ (and_parts _ _ right).0).1 i (must k kind) listed)
