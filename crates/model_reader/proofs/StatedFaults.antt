-- The first fault of a list of stated expressions, one by one.
use Rattle.std.proofs.Common.{◌≡◌, Bool, true, false, List, [], ◌∷◌, ◌++◌, refl, sym, ◌∙◌, ap, subst, arith, Option, Some, None, ◌⊎◌, inl, inr}
use Rattle.std.specs.Prelude.{if◌then◌else◌}
use Rattle.std.proofs.lemmas.Bool.{false≢true}
use Rattle.std.proofs.lemmas.List.Elements.{Contains-append_left, Contains-append_right, Contains-append_cases}
use Rattle.std.specs.Ordering.{nat_cmp, is_lt, ordering_then, ordering_reverse}
use Rattle.std.specs.declared.cmp.Ordering.{Ordering}
use Rattle.std.specs.declared.cmp.Ordering.TheVariants.{Less, Equal, Greater}
use Rattle.base_laws.proofs.Elements.{one_contained}
use Rattle.prod_model.specs.First.{IsFirst}
use Rattle.prod_model.specs.declared.model.Model.{Model}
use Rattle.file_values.specs.declared.fault.Fault.{Fault as AFault}
use Rattle.file_values.specs.Codes.{number_of}
use Rattle.file_values.specs.FaultOrder.{fault_cmp, IsFaultBefore}
use Rattle.file_meaning.specs.Faults.{fault, Stated, HasOwnFault, HasStatedFault}
use Rattle.file_meaning.proofs.FirstFaults.{faults_total, first-of-either, places_keep_order}
use Rattle.model_reader.specs.Stated.{FindsFault, earlier_fault}

-- ---- of two sorts of faults

is_less : (o : Ordering) → is_lt o ≡ true → o ≡ Less
is_less Less h = refl
is_less Equal h = absurd (cc)
is_less Greater h = absurd (cc)

not_after : (f g : AFault) → is_lt (fault_cmp g f) ≡ true → ¬ IsFaultBefore f g
not_after f g less back =
    (let turned : fault_cmp f g ≡ Greater = faults_total.antisymm f g ∙ ap ordering_reverse (is_less (fault_cmp g f) less) in
    false≢true (sym (ap is_lt turned) ∙ back))

either : (A B : AFault → Type 0) (f g : AFault) → IsFirst A IsFaultBefore f → IsFirst B IsFaultBefore g → (b : Bool) → is_lt (fault_cmp g f) ≡ b
    → FindsFault (λ x. A x ⊎ B x) (if b then Some g else Some f)
unfolding FindsFault
either A B f g first second true less = (let turned = first-of-either B A g f second first (not_after f g less) in
    record {
      is = inr second.is;
      none_before = λ y has before. elim has [ inl a ↦ turned.none_before y (inr a) before | inr b ↦ turned.none_before y (inl b) before ];
    })
either A B f g first second false less = first-of-either A B f g first second (λ before. false≢true (sym less ∙ before))

pub first_of_two : (A B : AFault → Type 0) (o p : Option AFault) → FindsFault A o → FindsFault B p → FindsFault (λ x. A x ⊎ B x) (earlier_fault o p)
unfolding FindsFault
first_of_two A B None None none nothing = λ f has. elim has [ inl a ↦ none f a | inr b ↦ nothing f b ]
first_of_two A B None (Some g) none second = record {
  is = inr second.is;
  none_before = λ y has before. elim has [ inl a ↦ none y a | inr b ↦ second.none_before y b before ];
}
first_of_two A B (Some f) None first nothing = record {
  is = inl first.is;
  none_before = λ y has before. elim has [ inl a ↦ first.none_before y a before | inr b ↦ nothing y b ];
}
first_of_two A B (Some f) (Some g) first second = either A B f g first second (is_lt (fault_cmp g f)) refl

-- the same faults have the same first one
pub same_faults : (A B : AFault → Type 0) (o : Option AFault) → ((f : AFault) → A f → B f) → ((f : AFault) → B f → A f) → FindsFault A o → FindsFault B o
unfolding FindsFault
same_faults A B None to back none = λ f has. none f (back f has)
same_faults A B (Some f) to back first = record { is = to f first.is; none_before = λ y has before. first.none_before y (back y has) before }

-- ---- stated expressions

module _ (m : Model) where
  -- none is stated, and there is no fault
  pub none_stated : FindsFault (HasStatedFault m []) None
  unfolding FindsFault
  none_stated f has = (let within = has.among.2 in omega arith)

  -- more are stated
  pub more_stated : (stated more : List Stated) (o p : Option AFault) → FindsFault (HasStatedFault m stated) o
      → FindsFault (HasStatedFault m more) p → FindsFault (HasStatedFault m (stated ++ more)) (earlier_fault o p)
  more_stated stated more o p first second =
      same_faults (λ x. HasStatedFault m stated x ⊎ HasStatedFault m more x) (HasStatedFault m (stated ++ more)) (earlier_fault o p) join part
      (first_of_two (HasStatedFault m stated) (HasStatedFault m more) o p first second)
    where
      join : (f : AFault) → HasStatedFault m stated f ⊎ HasStatedFault m more f → HasStatedFault m (stated ++ more) f
      join f (inl a) = record { one = a.one; among = Contains-append_left stated more a.one a.among; own = a.own; has = a.has; is = a.is }
      join f (inr b) = record { one = b.one; among = Contains-append_right stated more b.one b.among; own = b.own; has = b.has; is = b.is }

      part : (f : AFault) → HasStatedFault m (stated ++ more) f → HasStatedFault m stated f ⊎ HasStatedFault m more f
      part f has = elim (Contains-append_cases stated more has.one has.among) [
        | inl a ↦ inl record { one = has.one; among = a; own = has.own; has = has.has; is = has.is }
        | inr b ↦ inr record { one = has.one; among = b; own = has.own; has = has.has; is = has.is }
      ]

  -- the fault of an expression of the list, from its own fault
  pub stated_at : Stated → AFault → AFault
  stated_at s own = fault own.code (s.place ++ own.place)

  -- an own fault of the one expression that is stated
  own_of : (s : Stated) (f : AFault) → HasStatedFault m (s ∷ []) f → (own : AFault) × HasOwnFault m s.value s.of s.truth own × (f ≡ fault own.code (s.place ++ own.place))
  own_of s f has =
      (let same : s ≡ has.one = one_contained s has.one has.among in
      let Own : Stated → Type 0 = λ z. HasOwnFault m z.value z.of z.truth has.own in
      let Is : Stated → Type 0 = λ z. f ≡ fault has.own.code (z.place ++ has.own.place) in
      (has.own, subst Own (sym same) has.has, subst Is (sym same) has.is))

  pub one_sound : (s : Stated) → ((f : AFault) → ¬ HasOwnFault m s.value s.of s.truth f) → FindsFault (HasStatedFault m (s ∷ [])) None
  unfolding FindsFault
  one_sound s none f has = (let own = own_of s f has in none own.0 own.1)

  pub one_faulty : (s : Stated) (own : AFault) → IsFirst (HasOwnFault m s.value s.of s.truth) IsFaultBefore own
      → FindsFault (HasStatedFault m (s ∷ [])) (Some (fault own.code (s.place ++ own.place)))
  unfolding FindsFault
  one_faulty s own first = record {
    is = record { one = s; among = (0, omega arith, refl); own = own; has = first.is; is = refl };
    none_before = λ y has less.
        (let other = own_of s y has in
        let Before : AFault → Type 0 = λ x. IsFaultBefore x (fault own.code (s.place ++ own.place)) in
        let less_there : IsFaultBefore (fault other.0.code (s.place ++ other.0.place)) (fault own.code (s.place ++ own.place)) = subst Before other.2 less in
        first.none_before other.0 other.1
        (sym (ap (λ o. is_lt (ordering_then (nat_cmp (number_of other.0.code) (number_of own.code)) o)) (places_keep_order s.place other.0.place own.place)) ∙ less_there));
  }

  -- the same of a fault that is placed
  pub one_placed : (s : Stated) (own f : AFault) → IsFirst (HasOwnFault m s.value s.of s.truth) IsFaultBefore own
      → f ≡ fault own.code (s.place ++ own.place) → FindsFault (HasStatedFault m (s ∷ [])) (Some f)
  one_placed s own f first is = (let F : AFault → Type 0 = λ x. FindsFault (HasStatedFault m (s ∷ [])) (Some x) in subst F (sym is) (one_faulty s own first))
