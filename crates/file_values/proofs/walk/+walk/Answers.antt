use Rattle.std.proofs.Common.{rules, ◌≡◌, ◌∙◌, ◌∷◌, List, map, length, Option, Some, None, sym, ap, subst, ℕ, arith}
use Rattle.std.proofs.lemmas.List.{length-map}
use Rattle.std.specs.Prelude.{slice_get}
use Rattle.serde_json.specs.Data.{Data}
use Rattle.serde_json.specs.Find.{get}
use Rattle.serde_json.specs.View.{view}
use Rattle.base_laws.specs.Places.{IsAt}
use Rattle.prod_model.specs.First.{IsFirst}
use Rattle.file_values.specs.declared.part.Part.{Part}
use Rattle.file_values.specs.declared.part.Part.TheVariants.{At}
use Rattle.file_values.specs.declared.kind.Member.{Member}
use Rattle.file_values.specs.Places.{text_of, under, IsPlaceBefore}
use Rattle.file_values.specs.Table.{members_of, item_of}
use Rattle.file_values.specs.Inside.{Finds}
use Rattle.file_values.specs.steps.Searches.{stands_in, IsFound, IsFoundInList, IsFoundInMembers}
use Rattle.file_values.proofs.TableLaws.{lower-item, lower-member}
use Rattle.file_values.proofs.Searching.{NoneInFirst, NoneInFirstMembers, finds-list, finds-members, finds-item, finds-member, none-in-list, none-in-members, none-in-next_member, none-in-lacking}
use Rattle.file_values.proofs.walk.+walk.Goals.{first_in_members-in-Some+in_ok-place+in_default-2, first_in_members-in_default}
use Rattle.file_values.proofs.walk.+walk.Goals as goal

pub first_found-first_in_list-requires : goal.first_found-first_in_list-requires
first_found-first_in_list-requires t c =
    let is : item_of c.args.kind ≡ Some c.in-Some.inner = search rules in
    let lower = lower-item c.args.format c.args.kind c.in-Some.inner is in
    (omega (arith, c.decreases, lower), tt)

-- a value with a list in it
pub first_found-returns-in_ok-found-in-Some : goal.first_found-returns-in_ok-found-in-Some
first_found-returns-in_ok-found-in-Some t c =
    let is : item_of c.args.kind ≡ Some c.in-Some.inner = search rules in
    let own : Finds (stands_in c.args.search.now c.args.format c.args.kind (view c.args.value.now)) c.in_ok-own.own = search rules in
    let found : Finds (IsFoundInList c.args.format (stands_in c.args.search.now c.args.format) c.in-Some.inner (map view c.items_in.result.now)) c.in_ok-found-in-Some.found = search rules in
    let InList : List Data → Type 0 = λ ds. Finds (IsFoundInList c.args.format (stands_in c.args.search.now c.args.format) c.in-Some.inner ds) c.in_ok-found-in-Some.found in
    let First : Option (List Part) → Type 0 = λ r. Finds (IsFound c.args.format (stands_in c.args.search.now c.args.format) c.args.kind (view c.args.value.now)) r in
    subst First (sym c.earlier.ensures)
    (finds-list c.args.format (stands_in c.args.search.now c.args.format) c.args.kind c.in-Some.inner (view c.args.value.now) is
    c.in_ok-own.own c.in_ok-found-in-Some.found own (subst InList c.items_in.ensures found))

-- a value with members in it
pub first_found-returns-in_ok-found-in-None : goal.first_found-returns-in_ok-found-in-None
first_found-returns-in_ok-found-in-None t c =
    let is : item_of c.args.kind ≡ None = search rules in
    let own : Finds (stands_in c.args.search.now c.args.format c.args.kind (view c.args.value.now)) c.in_ok-own.own = search rules in
    let found : Finds (IsFoundInMembers c.args.format (stands_in c.args.search.now c.args.format) (members_of c.args.format c.args.kind) (view c.args.value.now)) c.in_ok-found-in-None.found = search rules in
    let First : Option (List Part) → Type 0 = λ r. Finds (IsFound c.args.format (stands_in c.args.search.now c.args.format) c.args.kind (view c.args.value.now)) r in
    subst First (sym c.earlier-in-None.ensures)
    (finds-members c.args.format (stands_in c.args.search.now c.args.format) c.args.kind (view c.args.value.now) is
    c.in_ok-own.own c.in_ok-found-in-None.found own found)

-- the first item in which something is found has the first of all
pub first_in_list-returns-in-Some : goal.first_in_list-returns-in-Some
first_in_list-returns-in-Some t c =
    let First : List Part → Type 0 = λ place. IsFirst (IsFoundInList c.args.format (stands_in c.args.search.now c.args.format) c.args.inner (map view c.args.items.now)) IsPlaceBefore place in
    let first : IsFirst (IsFound c.args.format (stands_in c.args.search.now c.args.format) c.args.inner (view c.item_at-item.result.now)) IsPlaceBefore c.in-Some.place = search rules in
    let whole : c.in_ok-behind.field-0 ≡ At c.loop-index.index ∷ c.in-Some.place = search rules in
    subst First (sym whole) (finds-item c.args.format (stands_in c.args.search.now c.args.format) c.args.inner (map view c.args.items.now) c.loop-index.index
    (view c.item_at-item.result.now) c.item_at-item.ensures c.loop-index.invariant c.in-Some.place first)

pub first_in_list-returns : goal.first_in_list-returns
first_in_list-returns t c =
    let NoneUpTo : ℕ → Type 0 = λ n. NoneInFirst c.args.format (stands_in c.args.search.now c.args.format) c.args.inner (map view c.args.items.now) n in
    let end : c.loop-index.index ≡ length c.args.items.now = omega arith in
    none-in-list c.args.format (stands_in c.args.search.now c.args.format) c.args.inner (map view c.args.items.now)
    (subst NoneUpTo (end ∙ sym (length-map c.args.items.now view)) c.loop-index.invariant)

pub first_in_members-first_found-requires : goal.first_in_members-first_found-requires
first_in_members-first_found-requires t c =
    let listed : IsAt (members_of c.args.format c.args.kind) c.loop-index.index c.member_at-member.result.now =
    ap (λ ms. slice_get ms c.loop-index.index) (sym c.members-members.ensures) ∙ c.member_at-member.ensures in
    let lower = lower-member c.args.format c.args.kind c.loop-index.index c.member_at-member.result.now listed in
    (omega (arith, c.decreases, lower), tt)

-- the first member in which something is found has the first of all
pub first_in_members-returns-in-Some-2 : goal.first_in_members-returns-in-Some-2
first_in_members-returns-in-Some-2 t c =
    let m : Member = c.member_at-member.result.now in
    let listed : IsAt (members_of c.args.format c.args.kind) c.loop-index.index m =
    ap (λ ms. slice_get ms c.loop-index.index) (sym c.members-members.ensures) ∙ c.member_at-member.ensures in
    let there : get (text_of m.key) (view c.args.value.now) ≡ Some (view c.in-Some.inner.now) = search rules in
    let First : List Part → Type 0 = λ place. IsFirst (IsFoundInMembers c.args.format (stands_in c.args.search.now c.args.format) (members_of c.args.format c.args.kind) (view c.args.value.now)) IsPlaceBefore place in
    let first : IsFirst (IsFound c.args.format (stands_in c.args.search.now c.args.format) m.kind (view c.in-Some.inner.now)) IsPlaceBefore c.in-Some-2.place = search rules in
    let whole : c.in_ok-behind.field-0 ≡ under m.key ∷ c.in-Some-2.place = search rules in
    subst First (sym whole) (finds-member c.args.format (stands_in c.args.search.now c.args.format) c.args.kind (view c.args.value.now) c.loop-index.index m listed
    c.loop-index.invariant (view c.in-Some.inner.now) there c.in-Some-2.place first)

pub first_in_members-loop-index-preserved : goal.first_in_members-loop-index-preserved
first_in_members-loop-index-preserved t c =
    let m : Member = c.member_at-member.result.now in
    let listed : IsAt (members_of c.args.format c.args.kind) c.loop-index.index m =
    ap (λ ms. slice_get ms c.loop-index.index) (sym c.members-members.ensures) ∙ c.member_at-member.ensures in
    elim c.match-get.branch [
      | first_in_members-in-Some+in_ok-place+in_default-2 w ↦ (
          let there : get (text_of m.key) (view c.args.value.now) ≡ Some (view w.in-Some.inner.now) = search rules in
          let none : (place : List Part) → ¬ IsFound c.args.format (stands_in c.args.search.now c.args.format) m.kind (view w.in-Some.inner.now) place = search rules in
          none-in-next_member c.args.format (stands_in c.args.search.now c.args.format) c.args.kind (view c.args.value.now) c.loop-index.index m listed
          c.loop-index.invariant (view w.in-Some.inner.now) there none)
      | first_in_members-in_default w ↦ (
          let lacks : get (text_of m.key) (view c.args.value.now) ≡ None = search rules in
          none-in-lacking c.args.format (stands_in c.args.search.now c.args.format) c.args.kind (view c.args.value.now) c.loop-index.index m listed
          c.loop-index.invariant lacks)
    ]

pub first_in_members-returns : goal.first_in_members-returns
first_in_members-returns t c =
    let NoneUpTo : ℕ → Type 0 = λ n. NoneInFirstMembers c.args.format (stands_in c.args.search.now c.args.format) c.args.kind (view c.args.value.now) n in
    let end : c.loop-index.index ≡ length c.members-members.result.now = omega arith in
    none-in-members c.args.format (stands_in c.args.search.now c.args.format) c.args.kind (view c.args.value.now)
    (subst NoneUpTo (end ∙ ap length c.members-members.ensures) c.loop-index.invariant)
