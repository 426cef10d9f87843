-- Steps that lose nothing that is wanted, one after the other.
use Rattle.std.proofs.Common.{◌≡◌, ℕ, zero, suc, ◌≤◌, List, [], ◌∷◌, ◌++◌, length, length-append, take, Option, None, Some, refl, ap, sym, subst, ◌∙◌, inl, inr, arith}
use Rattle.std.specs.Prelude.{IsTrue, slice_get}
use Rattle.std.specs.Option.{option_map, option_map_or}
use Rattle.std.proofs.lemmas.Bool.Decides.{eqb_tells}
use Rattle.std.proofs.lemmas.Bool.{false≢true}
use Rattle.config_value.specs.declared.configuration.Instance.{Instance}
use Rattle.config_value.specs.declared.literal.Literal.{Literal}
use Rattle.config_value.specs.declared.literal.Literal.TheVariants as literal
use Rattle.config_value.specs.Literals.{has_literal}
use Rattle.domain_store.specs.declared.change.Change.{Change}
use Rattle.domain_store.specs.declared.change.Change.TheVariants.{Same, Smaller, Empty}
use Rattle.state_space.specs.Made.{MadeInstance}
use Rattle.state_space.specs.State.{State, number_made, kinds_at, with_made}
use Rattle.state_space.specs.Entails.{fits}
use Rattle.state_space.specs.Covers.{Covers}
use Rattle.state_space.specs.Changes.{ChangesBy}
use Rattle.state_space.proofs.Changed.{length-changed_at, slice_get-changed_at_same, slice_get-changed_at_other}
use Rattle.state_space.proofs.ValidStates.{change_keeps}
use Rattle.prod_model.specs.declared.model.Model.{Model}
use Rattle.reason_trail.specs.declared.reason.Why.{Why}
use Rattle.reason_trail.specs.Jobs.{IsWanted}
use Rattle.reason_trail.specs.Trails.{Trace, Extends, IsTrail, IsPushed, length_of, cut_to}
use Rattle.reason_trail.proofs.Trails.{now_is_state, new_stage, state_at-pushed, state_at-past, state_at-cut_to, cut_to-whole}
use Rattle.type_narrowing.specs.steps.Narrowing.{Narrows, leaves_types}
use Rattle.type_narrowing.proofs.Failures.{formed}

-- ---- trails that go on

-- each trail extends itself
extends_itself : (t : Trace) → Extends t t
extends_itself t = record { job = refl; longer = omega arith; begins = cut_to-whole t (length_of t) (omega arith) }

-- the first of the first
take_shorter : {A : Type 0} (k n : ℕ) (xs : List A) → k ≤ n → take k (take n xs) ≡ take k xs
take_shorter zero n xs h = refl
take_shorter (suc k) zero xs h = absurd (omega (arith, h))
take_shorter (suc k) (suc n) [] h = refl
take_shorter (suc k) (suc n) (x ∷ xs) h = ap (λ r. x ∷ r) (take_shorter k n xs (omega (arith, h)))

take_front : {A : Type 0} (xs ys : List A) → take (length xs) (xs ++ ys) ≡ xs
take_front [] ys = refl
take_front (x ∷ xs) ys = ap (λ r. x ∷ r) (take_front xs ys)

-- a trail that is cut twice
cut_to-cut : (t : Trace) (k n : ℕ) → k ≤ n → n ≤ length_of t → cut_to (cut_to t n) k ≡ cut_to t k
cut_to-cut t k n less within =
    let stages = take_shorter k n t.stages less in
    let state = state_at-cut_to t n within k less in
    λ i. record t { stages = stages i; state = state i }

-- what extends an extension extends the first
extends_on : (a b c : Trace) → Extends a b → Extends b c → Extends a c
extends_on a b c h k = record {
  job = k.job ∙ h.job;
  longer = omega (arith, h.longer, k.longer);
  begins = sym (cut_to-cut c (length_of a) (length_of b) h.longer k.longer) ∙ ap (λ t. cut_to t (length_of a)) k.begins ∙ h.begins;
}

-- ---- narrowings

pub narrows_itself : (t : Trace) → Narrows t t
narrows_itself t = record {
  filters = record { extends = extends_itself t; keeps = λ c wanted covers. covers };
  made = refl;
  kinds = λ i. refl;
}

pub narrows_on : (a b c : Trace) → Narrows a b → Narrows b c → Narrows a c
narrows_on a b c h k = record {
  filters = record {
    extends = extends_on a b c h.filters.extends k.filters.extends;
    keeps = λ x wanted covers.
        let job = h.filters.extends.job in
        subst (λ j. Covers j.model c.state x) job
        (k.filters.keeps x (subst (λ j. IsWanted j x) (sym job) wanted)
        (subst (λ j. Covers j.model b.state x) (sym job) (h.filters.keeps x wanted covers)));
  };
  made = k.made ∙ h.made;
  kinds = λ i. k.kinds i ∙ h.kinds i;
}

-- ---- changes that leave types as they are

-- an instance is changed in something else
changed_kinds : (i : ℕ) (f : MadeInstance → MadeInstance) (s : State) → ((x : MadeInstance) → (f x).kinds ≡ x.kinds) → (k : ℕ) → kinds_at (with_made i f s) k ≡ kinds_at s k
changed_kinds i f s kept k = elim (eqb_tells k i) [
  | inr other ↦ ap (λ o. option_map_or (λ x. x.kinds) o []) (slice_get-changed_at_other i k f s.made other.1)
  | inl same ↦ subst (λ j. kinds_at (with_made i f s) j ≡ kinds_at s j) (sym same.1)
      (ap (λ o. option_map_or (λ x. x.kinds) o []) (slice_get-changed_at_same i f s.made) ∙ by (slice_get s.made i))
]
  where
    by : (o : Option MadeInstance) → option_map_or (λ x. x.kinds) (option_map f o) [] ≡ option_map_or (λ x. x.kinds) o []
    by None = refl
    by (Some x) = kept x

record Keeps (old new : State) : Type 0 where
  made : number_made new ≡ number_made old
  kinds : (k : ℕ) → kinds_at new k ≡ kinds_at old k

one_changed : (i : ℕ) (f : MadeInstance → MadeInstance) (old new : State) → ((x : MadeInstance) → (f x).kinds ≡ x.kinds) → new ≡ with_made i f old → Keeps old new
one_changed i f old new kept is = subst (Keeps old) (sym is) (record {
  made = length-changed_at i f old.made;
  kinds = changed_kinds i f old kept;
})

types_left : (m : Model) (l : Literal) (change : Change) (old new : State) → IsTrue (leaves_types l) → ChangesBy m l change old new → Keeps old new
types_left m (literal.Made i) change old new part on = absurd (false≢true part)
types_left m (literal.Kind i t) change old new part on = absurd (false≢true part)
types_left m (literal.NotKind i t) change old new part on = absurd (false≢true part)
types_left m (literal.AtMost i a n) change old new part on = one_changed i _ old new (λ x. refl) on.others
types_left m (literal.AtLeast i a n) change old new part on = one_changed i _ old new (λ x. refl) on.others
types_left m (literal.ValueIsNot i a n) change old new part on = one_changed i _ old new (λ x. refl) on.others
types_left m (literal.Linked i p j) change old new part on = one_changed i _ old new (λ x. refl) on.others
types_left m (literal.NotLinked i p j) change old new part on = one_changed i _ old new (λ x. refl) on.others
types_left m (literal.LinksAtMost i p n) change old new part on = absurd on
types_left m (literal.LinksAtLeast i p n) change old new part on = absurd on
types_left m (literal.FreshAtMost i p from n) change old new part on = one_changed i _ old new (λ x. refl) on.others
types_left m (literal.FreshAtLeast i p from n) change old new part on = one_changed i _ old new (λ x. refl) on.others

-- ---- one entry

-- A change of values or links narrows, where its literal holds in all wanted configurations that are covered.
module _ (t new : Trace) (l : Literal) (why : Why) (right : IsTrail t) (fit : IsTrue (fits t.job.model t.state l)) (part : IsTrue (leaves_types l))
    (holds : (c : List Instance) → IsWanted t.job c → Covers t.job.model t.state c → IsTrue (has_literal t.job.model c l)) where
  extends_pushed : IsPushed l why Smaller t new → Extends t new
  extends_pushed on = subst (Extends t) (sym (on.smaller refl)) (record {
    job = refl;
    longer = omega (arith, length-append t.stages (new_stage t l why new.state ∷ []));
    begins =
        let stages = take_front t.stages (new_stage t l why new.state ∷ []) in
        let state = state_at-pushed t l why new.state (length_of t) (omega arith) ∙ state_at-past t (length_of t) (omega arith) in
        λ i. record t { stages = stages i; state = state i };
  })

  pub narrows_pushed : (change : Change) → IsPushed l why change t new → Narrows t new
  narrows_pushed Smaller on =
      let left = types_left t.job.model l Smaller t.state new.state part on.changed in
      record {
        filters = record {
          extends = extends_pushed on;
          keeps = λ c wanted covers.
              let is = formed t.job.model c wanted.candidate.satisfied in
              change_keeps t.job.model l Smaller t.state new.state c right.task.valid (now_is_state t right) fit on.changed (λ e. absurd cc) covers is.shaped is.numbered (holds c wanted covers);
        };
        made = left.made;
        kinds = left.kinds;
      }
  narrows_pushed Same on = subst (Narrows t) (sym (on.same (λ e. absurd cc))) (narrows_itself t)
  narrows_pushed Empty on = subst (Narrows t) (sym (on.same (λ e. absurd cc))) (narrows_itself t)
