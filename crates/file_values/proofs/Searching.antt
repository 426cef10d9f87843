-- Where something is found: in a value, in a list, and in the members of an object.
use Rattle.std.proofs.Common.{◌≡◌, ◌∙◌, ℕ, ◌+◌, ◌<◌, sym, ap, subst, refl, Bool, true, false, List, [], ◌∷◌, ◌++◌, length, Option, Some, None, ◌⊎◌, inl, inr, arith}
use Rattle.std.proofs.lemmas.Bool.{cases_order, true≢false}
use Rattle.std.proofs.lemmas.Option.{slice_get_within, same_Some}
use Rattle.std.proofs.lemmas.List.{append-nil}
use Rattle.std.specs.Prelude.{IsFalse, Result, Ok, Err, IfOk, if◌then◌else◌}
use Rattle.std.specs.Ordering.{is_lt}
use Rattle.std.specs.Cmp.Lexicographic.{slice_cmp}
use Rattle.serde_json.specs.Data.{Data}
use Rattle.serde_json.specs.Find.{get}
use Rattle.base_laws.specs.Places.{IsAt}
use Rattle.prod_model.specs.First.{IsFirst}
use Rattle.file_values.specs.declared.part.Part.{Part}
use Rattle.file_values.specs.declared.part.Part.TheVariants.{At as at}
use Rattle.file_values.specs.declared.format.Format.{Format}
use Rattle.file_values.specs.declared.kind.Kind.{Kind}
use Rattle.file_values.specs.declared.kind.Member.{Member}
use Rattle.file_values.specs.declared.test.Test.{Test}
use Rattle.file_values.specs.Places.{text_of, number_of, under, part_cmp, IsPlaceBefore}
use Rattle.file_values.specs.Table.{members_of, item_of}
use Rattle.file_values.specs.Read.{items_in}
use Rattle.file_values.specs.Inside.{IsInside, itself, in_member, in_item, FailsAt, Finds}
use Rattle.file_values.specs.Tests.{passes}
use Rattle.file_values.specs.Twice.{texts_in, IsRepeated, IsTwice}
use Rattle.file_values.specs.steps.Searches.{IsFound, IsFoundInList, IsFoundInMembers, earlier_of}
use Rattle.file_values.proofs.PlaceOrder.{before_trans, before_not_before, not_before-same, not_before-greater, greater-number}
use Rattle.file_values.proofs.TableLaws.{list-is_no_object, keys-ascend}

-- ---- what is found by one of two words that say the same, and by the one or the other

pub finds-same : {A B : List Part → Type 0} → ((p : List Part) → A p → B p) → ((p : List Part) → B p → A p) → (r : Option (List Part)) → Finds A r → Finds B r
finds-same to from None none = λ place is. none place (from place is)
finds-same to from (Some place) first = record {
  is = to place first.is;
  none_before = λ y is. first.none_before y (from y is);
}

-- what an answer finds by one of two words, where it isn't want of memory
pub ok-finds : {A B : List Part → Type 0} {E : Type 0} → ((r : Option (List Part)) → Finds A r → Finds B r) → (x : Result (Option (List Part)) E) → IfOk x (Finds A) → IfOk x (Finds B)
ok-finds to (Ok r) found = to r found
ok-finds to (Err e) found = found

-- the earlier of two first places is the first of both sorts
module _ {A B C : List Part → Type 0} (one : (p : List Part) → A p → C p) (other : (p : List Part) → B p → C p) (either : (p : List Part) → C p → A p ⊎ B p) where
  pub finds-earlier : (r s : Option (List Part)) → Finds A r → Finds B s → Finds C (earlier_of r s)
  finds-earlier None None no_a no_b = λ place c. elim (either place c) [ inl a ↦ no_a place a | inr b ↦ no_b place b ]
  finds-earlier None (Some q) no_a first = record {
    is = other q first.is;
    none_before = λ y c. elim (either y c) [ inl a ↦ absurd (no_a y a) | inr b ↦ first.none_before y b ];
  }
  finds-earlier (Some p) None first no_b = record {
    is = one p first.is;
    none_before = λ y c. elim (either y c) [ inl a ↦ first.none_before y a | inr b ↦ absurd (no_b y b) ];
  }
  finds-earlier (Some p) (Some q) first second = by (is_lt (slice_cmp part_cmp q p)) refl
    where
      by : (b : Bool) → is_lt (slice_cmp part_cmp q p) ≡ b → Finds C (if b then Some q else Some p)
      by true before = record {
        is = other q second.is;
        none_before = λ y c. elim (either y c) [
          | inl a ↦ (λ less. first.none_before y a (before_trans y q p less before))
          | inr b ↦ second.none_before y b
        ];
      }
      by false not_before = record {
        is = one p first.is;
        none_before = λ y c. elim (either y c) [
          | inl a ↦ first.none_before y a
          | inr b ↦ (λ less. second.none_before y b (before_not_before y p q less (λ before. true≢false (sym before ∙ not_before))))
        ];
      }

module _ (format : Format) (Own : Kind → Data → List Part → Type 0) where
  -- ---- in a value

  -- what is found in a value is its own, or in a member of it, or in one of its items
  data Parted (k : Kind) (d : Data) (place : List Part) : Type 0 where
    of_itself : Own k d place → Parted k d place
    of_member : IsFoundInMembers format Own (members_of format k) d place → Parted k d place
    of_item : (j : Kind) → item_of k ≡ Some j → IsFoundInList format Own j (items_in d) place → Parted k d place

  parted : {k : Kind} {d : Data} {front : List Part} {l : Kind} {f : Data} → IsInside format k d front l f → (rest : List Part) → Own l f rest → Parted k d (front ++ rest)
  parted itself rest own = of_itself own
  parted (in_member i m listed e there {place = front} {l = l} {f = f} inside) rest own = of_member record {
    i = i;
    member = m;
    listed = listed;
    value = e;
    there = there;
    rest = front ++ rest;
    is = refl;
    found = record { front = front; kind = l; value = f; inside = inside; rest = rest; own = own; is = refl };
  }
  parted (in_item j is i e there {place = front} {l = l} {f = f} inside) rest own = of_item j is record {
    i = i;
    item = e;
    there = there;
    rest = front ++ rest;
    is = refl;
    found = record { front = front; kind = l; value = f; inside = inside; rest = rest; own = own; is = refl };
  }

  parts_of : {k : Kind} {d : Data} {place : List Part} → IsFound format Own k d place → Parted k d place
  parts_of {k} {d} {place} f = let Parts : List Part → Type 0 = λ p. Parted k d p in subst Parts (sym f.is) (parted f.inside f.rest f.own)

  of_own : (k : Kind) (d : Data) (p : List Part) → Own k d p → IsFound format Own k d p
  of_own k d p own = record { front = []; kind = k; value = d; inside = itself; rest = p; own = own; is = refl }

  of_list : (k j : Kind) (d : Data) → item_of k ≡ Some j → (p : List Part) → IsFoundInList format Own j (items_in d) p → IsFound format Own k d p
  of_list k j d is p f = record {
    front = at f.i ∷ f.found.front;
    kind = f.found.kind;
    value = f.found.value;
    inside = in_item j is f.i f.item f.there f.found.inside;
    rest = f.found.rest;
    own = f.found.own;
    is = f.is ∙ ap (λ r. at f.i ∷ r) f.found.is;
  }

  of_members : (k : Kind) (d : Data) (p : List Part) → IsFoundInMembers format Own (members_of format k) d p → IsFound format Own k d p
  of_members k d p f = record {
    front = under f.member.key ∷ f.found.front;
    kind = f.found.kind;
    value = f.found.value;
    inside = in_member f.i f.member f.listed f.value f.there f.found.inside;
    rest = f.found.rest;
    own = f.found.own;
    is = f.is ∙ ap (λ r. under f.member.key ∷ r) f.found.is;
  }

  pub finds-list : (k j : Kind) (d : Data) → item_of k ≡ Some j → (r s : Option (List Part))
      → Finds (Own k d) r → Finds (IsFoundInList format Own j (items_in d)) s → Finds (IsFound format Own k d) (earlier_of r s)
  finds-list k j d is r s = finds-earlier (of_own k d) (of_list k j d is) either r s
    where
      either : (p : List Part) → IsFound format Own k d p → Own k d p ⊎ IsFoundInList format Own j (items_in d) p
      either p f = elim (parts_of f) [
        | of_itself own ↦ inl own
        | of_member g ↦ absurd (list-is_no_object format k j is g.i g.member g.listed)
        | of_item i is_i g ↦ (let same : i ≡ j = same_Some i j (sym is_i ∙ is) in
            let Found : Kind → Type 0 = λ x. IsFoundInList format Own x (items_in d) p in inr (subst Found same g))
      ]

  pub finds-members : (k : Kind) (d : Data) → item_of k ≡ None → (r s : Option (List Part))
      → Finds (Own k d) r → Finds (IsFoundInMembers format Own (members_of format k) d) s → Finds (IsFound format Own k d) (earlier_of r s)
  finds-members k d is r s = finds-earlier (of_own k d) (of_members k d) either r s
    where
      either : (p : List Part) → IsFound format Own k d p → Own k d p ⊎ IsFoundInMembers format Own (members_of format k) d p
      either p f = elim (parts_of f) [
        | of_itself own ↦ inl own
        | of_member g ↦ inr g
        | of_item i is_i g ↦ absurd (cc)
      ]

  -- ---- in a list

  module _ (j : Kind) (ds : List Data) where
    -- nothing is found in the first n of the list
    abbrev pub NoneInFirst : ℕ → Type 0
    NoneInFirst n = (i : ℕ) (e : Data) → i < n → IsAt ds i e → (place : List Part) → ¬ IsFound format Own j e place

    pub none-in-list : NoneInFirst (length ds) → (place : List Part) → ¬ IsFoundInList format Own j ds place
    none-in-list none place f = none f.i f.item (slice_get_within ds f.i f.item f.there) f.there f.rest f.found

    module _ (n : ℕ) (e : Data) (there : IsAt ds n e) (none : NoneInFirst n) where
      pub none-in-next : ((place : List Part) → ¬ IsFound format Own j e place) → NoneInFirst (n + 1)
      none-in-next here i f within at_i place found = elim (cases_order i n) [
        | inl is ↦ (let same : f ≡ e = cc in let Found : Data → Type 0 = λ x. IsFound format Own j x place in here place (subst Found same found))
        | inr (inl below) ↦ none i f below at_i place found
        | inr (inr beyond) ↦ absurd (omega (arith, within, beyond))
      ]

      pub finds-item : (place : List Part) → IsFirst (IsFound format Own j e) IsPlaceBefore place → IsFirst (IsFoundInList format Own j ds) IsPlaceBefore (at n ∷ place)
      finds-item place first = record {
        is = record { i = n; item = e; there = there; rest = place; is = refl; found = first.is };
        none_before = none_before;
      }
        where
          none_before : (y : List Part) → IsFoundInList format Own j ds y → ¬ IsPlaceBefore y (at n ∷ place)
          none_before y f = elim (cases_order f.i n) [
            | inl is ↦ (let same : f.item ≡ e = cc in
                let Found : Data → Type 0 = λ x. IsFound format Own j x f.rest in
                let Not : List Part → Type 0 = λ p. ¬ IsPlaceBefore p (at n ∷ place) in
                let with : at n ∷ f.rest ≡ y = cc in
                subst Not with (not_before-same (at n) f.rest place (first.none_before f.rest (subst Found same f.found))))
            | inr (inl below) ↦ absurd (none f.i f.item below f.there f.rest f.found)
            | inr (inr beyond) ↦ (let Not : List Part → Type 0 = λ p. ¬ IsPlaceBefore p (at n ∷ place) in
                subst Not (sym f.is) (not_before-greater (at f.i) (at n) f.rest place (greater-number f.i n beyond)))
          ]

  -- ---- in the members of an object

  module _ (k : Kind) (d : Data) where
    abbrev pub members : List Member
    members = members_of format k

    -- nothing is found in the first n members
    abbrev pub NoneInFirstMembers : ℕ → Type 0
    NoneInFirstMembers n = (i : ℕ) (m : Member) (e : Data) → i < n → IsAt members i m → get (text_of m.key) d ≡ Some e → (place : List Part) → ¬ IsFound format Own m.kind e place

    pub none-in-members : NoneInFirstMembers (length members) → (place : List Part) → ¬ IsFoundInMembers format Own members d place
    none-in-members none place f = none f.i f.member f.value (slice_get_within members f.i f.member f.listed) f.listed f.there f.rest f.found

    module _ (n : ℕ) (m : Member) (listed : IsAt members n m) (none : NoneInFirstMembers n) where
      -- a member that lacks
      pub none-in-lacking : get (text_of m.key) d ≡ None → NoneInFirstMembers (n + 1)
      none-in-lacking lacks i other f within at_i there place found = elim (cases_order i n) [
        | inl is ↦ absurd (cc)
        | inr (inl below) ↦ none i other f below at_i there place found
        | inr (inr beyond) ↦ absurd (omega (arith, within, beyond))
      ]

      module _ (e : Data) (there : get (text_of m.key) d ≡ Some e) where
        pub none-in-next_member : ((place : List Part) → ¬ IsFound format Own m.kind e place) → NoneInFirstMembers (n + 1)
        none-in-next_member here i other f within at_i there_f place found = elim (cases_order i n) [
          | inl is ↦ (let same : other ≡ m = cc in
              let same_value : f ≡ e = cc in
              let Found : Member → Type 0 = λ x. IsFound format Own x.kind f place in
              let FoundIn : Data → Type 0 = λ x. IsFound format Own m.kind x place in
              here place (subst FoundIn same_value (subst Found same found)))
          | inr (inl below) ↦ none i other f below at_i there_f place found
          | inr (inr beyond) ↦ absurd (omega (arith, within, beyond))
        ]

        pub finds-member : (place : List Part) → IsFirst (IsFound format Own m.kind e) IsPlaceBefore place
            → IsFirst (IsFoundInMembers format Own members d) IsPlaceBefore (under m.key ∷ place)
        finds-member place first = record {
          is = record { i = n; member = m; listed = listed; value = e; there = there; rest = place; is = refl; found = first.is };
          none_before = none_before;
        }
          where
            none_before : (y : List Part) → IsFoundInMembers format Own members d y → ¬ IsPlaceBefore y (under m.key ∷ place)
            none_before y f = elim (cases_order f.i n) [
              | inl is ↦ (let same : f.member ≡ m = cc in
                  let same_value : f.value ≡ e = cc in
                  let Found : Member → Type 0 = λ x. IsFound format Own x.kind f.value f.rest in
                  let FoundIn : Data → Type 0 = λ x. IsFound format Own m.kind x f.rest in
                  let Not : List Part → Type 0 = λ p. ¬ IsPlaceBefore p (under m.key ∷ place) in
                  let with : under m.key ∷ f.rest ≡ y = cc in
                  subst Not with (not_before-same (under m.key) f.rest place
                  (first.none_before f.rest (subst FoundIn same_value (subst Found same f.found)))))
              | inr (inl below) ↦ absurd (none f.i f.member f.value below f.listed f.there f.rest f.found)
              | inr (inr beyond) ↦ (let Not : List Part → Type 0 = λ p. ¬ IsPlaceBefore p (under m.key ∷ place) in
                  subst Not (sym f.is) (not_before-greater (under f.member.key) (under m.key) f.rest place
                  (greater-number (number_of f.member.key) (number_of m.key) (keys-ascend format k n f.i m f.member beyond listed f.listed))))
            ]

-- ---- the two searches

-- a failing value is found at its own place
pub finds-failing : (format : Format) (test : Test) (k : Kind) (d : Data) (r : Option (List Part))
    → Finds (IsFound format (λ l f place. (place ≡ []) × IsFalse (passes test format l f)) k d) r → Finds (FailsAt format (passes test format) k d) r
finds-failing format test k d r = finds-same to from r
  where
    to : (p : List Part) → IsFound format (λ l f place. (place ≡ []) × IsFalse (passes test format l f)) k d p → FailsAt format (passes test format) k d p
    to p f =
        let Inside : List Part → Type 0 = λ q. IsInside format k d q f.kind f.value in
        let same : f.front ≡ p = sym (append-nil f.front) ∙ ap (λ r. f.front ++ r) (sym f.own.0) ∙ sym f.is in
        record { kind = f.kind; value = f.value; inside = subst Inside same f.inside; fails = f.own.1 }

    from : (p : List Part) → FailsAt format (passes test format) k d p → IsFound format (λ l f place. (place ≡ []) × IsFalse (passes test format l f)) k d p
    from p f = record { front = p; kind = f.kind; value = f.value; inside = f.inside; rest = []; own = (refl, f.fails); is = sym (append-nil p) }

pub finds-twice : (format : Format) (k : Kind) (d : Data) (r : Option (List Part))
    → Finds (IsFound format (λ l f place. IsRepeated (texts_in l f) place) k d) r → Finds (IsTwice format k d) r
finds-twice format k d r = finds-same to from r
  where
    to : (p : List Part) → IsFound format (λ l f place. IsRepeated (texts_in l f) place) k d p → IsTwice format k d p
    to p f = record { front = f.front; kind = f.kind; value = f.value; inside = f.inside; rest = f.rest; repeated = f.own; is = f.is }

    from : (p : List Part) → IsTwice format k d p → IsFound format (λ l f place. IsRepeated (texts_in l f) place) k d p
    from p f = record { front = f.front; kind = f.kind; value = f.value; inside = f.inside; rest = f.rest; own = f.repeated; is = f.is }
