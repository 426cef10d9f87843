-- A narrowing that is smaller lowers the size.
use Rattle.std.proofs.Common.{◌≡◌, ℕ, zero, suc, ◌-◌, ◌*◌, ◌<◌, Bool, List, [], ◌∷◌, length, refl, ap, sym, ◌∙◌, subst, Some, None, Option, ℤ, arith}
use Rattle.std.specs.Prelude.{slice_get, slice_index_or, slice_set}
use Rattle.std.specs.Option.{option_map_or, option_and_then}
use Rattle.std.specs.List.{sum_by}
use Rattle.std.proofs.lemmas.List.Sums.{sum_by-cons}
use Rattle.std.proofs.lemmas.Option.{same_Some, none-some}
use Rattle.prod_model.specs.declared.model.Model.{Model}
use Rattle.domain_store.specs.declared.change.Change.TheVariants.{Smaller}
use Rattle.state_space.specs.Made.{MadeInstance, domain_of, port_of_made}
use Rattle.state_space.specs.Values.{count_of}
use Rattle.state_space.specs.Ports.{PortLinks, open_links}
use Rattle.state_space.specs.State.{State, kinds_at, changed_at, with_made}
use Rattle.state_space.specs.Size.{size_of, size_of_made, size_per_instance}
use Rattle.state_space.specs.Changes.{NarrowsKinds, NarrowsDomain, NarrowsPort}
use Rattle.std.proofs.lemmas.Bool.{false≢true}
use Rattle.config_value.specs.declared.literal.Literal.TheVariants as literal
use Rattle.state_space.specs.Laws.{EachIsLess, SmallerIsLess}
use Rattle.state_space.proofs.Changed.{length-changed_at}

-- a sum with one entry of a table set to what weighs less
sum_set : {D : Type 0} (f : D → ℕ) (parts : List (Option D)) (a : ℕ) (before after : D) → slice_index_or parts a None ≡ Some before → f after < f before
    → sum_by (λ o. option_map_or f o 0) (slice_set parts a (Some after)) < sum_by (λ o. option_map_or f o 0) parts
sum_set f [] a before after was less = absurd (none-some before was)
sum_set f (p ∷ ps) zero before after was less =
    let g = λ (o : Option _). option_map_or f o 0 in
    let head : g p ≡ f before = ap g was in
    omega (arith, less, head, sum_by-cons g p ps, sum_by-cons g (Some after) ps)
sum_set f (p ∷ ps) (suc a) before after was less =
    let g = λ (o : Option _). option_map_or f o 0 in
    let tail : sum_by g (slice_set ps a (Some after)) < sum_by g ps = sum_set f ps a before after was less in
    omega (arith, tail, sum_by-cons g p ps, sum_by-cons g p (slice_set ps a (Some after)))

-- a sum with one element changed to what weighs less
sum_changed : {X : Type 0} (f : X → ℕ) (g : X → X) (xs : List X) (i : ℕ) (x : X) → slice_get xs i ≡ Some x → f (g x) < f x → sum_by f (changed_at i g xs) < sum_by f xs
sum_changed f g [] i x at less = absurd (none-some x at)
sum_changed f g (y ∷ ys) zero x at less =
    let smaller : f (g y) < f y = subst (λ z. f (g z) < f z) (sym (same_Some y x at)) less in
    omega (arith, smaller, sum_by-cons f y ys, sum_by-cons f (g y) ys)
sum_changed f g (y ∷ ys) (suc i) x at less =
    let tail : sum_by f (changed_at i g ys) < sum_by f ys = sum_changed f g ys i x at less in
    omega (arith, tail, sum_by-cons f y ys, sum_by-cons f y (changed_at i g ys))

-- the size of a state with one instance changed to what is smaller
state_less : (m : Model) (s : State) (i : ℕ) (g : MadeInstance → MadeInstance) (x : MadeInstance) → slice_get s.made i ≡ Some x → size_of_made (g x) < size_of_made x
    → size_of m (with_made i g s) < size_of m s
unfolding size_of
state_less m s i g x at less =
    let made = sum_changed size_of_made g s.made i x at less in
    let same : size_per_instance * (m.instances - length (changed_at i g s.made)) ≡ size_per_instance * (m.instances - length s.made) =
    ap (λ n. size_per_instance * (m.instances - n)) (length-changed_at i g s.made) in
    omega (arith, made, same)

-- an instance stands where something of it does
pub stands : {D : Type 0} (f : MadeInstance → Option D) (s : State) (i : ℕ) (d : D) → option_and_then f (slice_get s.made i) ≡ Some d
    → (x : MadeInstance) × (slice_get s.made i ≡ Some x) × (f x ≡ Some d)
stands f s i d was = by (slice_get s.made i) refl
  where
    by : (o : Option MadeInstance) → slice_get s.made i ≡ o → (x : MadeInstance) × (slice_get s.made i ≡ Some x) × (f x ≡ Some d)
    by None at = absurd (none-some d (sym (ap (option_and_then f) at) ∙ was))
    by (Some x) at = (x, at, sym (ap (option_and_then f) at) ∙ was)

pub domain_smaller : (m : Model) (i a : ℕ) (test : ℤ → Bool) (old new : State) → NarrowsDomain i a test Smaller old new → size_of m new < size_of m old
domain_smaller m i a test old new narrows =
    let x = stands (λ x. domain_of x a) old i narrows.before narrows.was in
    let less = sum_set count_of x.0.domains a narrows.before narrows.after x.2 (narrows.narrowed.fewer refl) in
    subst (λ s. size_of m s < size_of m old) (sym narrows.others)
    (state_less m old i (λ x. record x { domains = slice_set x.domains a (Some narrows.after) }) x.0 x.1 (omega (arith, less)))

pub port_smaller : (m : Model) (i p : ℕ) (test : PortLinks → Bool) (old new : State) → NarrowsPort i p test Smaller old new → size_of m new < size_of m old
port_smaller m i p test old new narrows =
    let x = stands (λ x. port_of_made x p) old i narrows.before narrows.was in
    let less = sum_set open_links x.0.ports p narrows.before narrows.after x.2 (narrows.narrowed.fewer refl) in
    subst (λ s. size_of m s < size_of m old) (sym narrows.others)
    (state_less m old i (λ x. record x { ports = slice_set x.ports p (Some narrows.after) }) x.0 x.1 (omega (arith, less)))

pub kinds_smaller : (m : Model) (i : ℕ) (test : ℕ → Bool) (old new : State) → NarrowsKinds i test Smaller old new → size_of m new < size_of m old
kinds_smaller m i test old new narrows = by (slice_get old.made i) refl
  where
    by : (o : Option MadeInstance) → slice_get old.made i ≡ o → size_of m new < size_of m old
    by None at =
        let none : length (kinds_at old i) ≡ 0 = ap (λ o. length (option_map_or (λ x. x.kinds) o [])) at in
        absurd (omega (arith, narrows.narrowed.fewer refl, none))
    by (Some x) at =
        let same : length (kinds_at old i) ≡ length x.kinds = ap (λ o. length (option_map_or (λ x. x.kinds) o [])) at in
        let less : length (kinds_at new i) < length x.kinds = omega (arith, narrows.narrowed.fewer refl, same) in
        subst (λ s. size_of m s < size_of m old) (sym narrows.others)
        (state_less m old i (λ x. record x { kinds = kinds_at new i }) x at (omega (arith, less)))

pub each_is_less : EachIsLess
each_is_less m i old new = (λ test. kinds_smaller m i test old new, λ a test. domain_smaller m i a test old new, λ p test. port_smaller m i p test old new)

pub smaller_is_less : SmallerIsLess
smaller_is_less m (literal.Made i) old new narrowing changes = absurd (false≢true narrowing)
smaller_is_less m (literal.Kind i t) old new narrowing changes = kinds_smaller m i _ old new changes
smaller_is_less m (literal.NotKind i t) old new narrowing changes = kinds_smaller m i _ old new changes
smaller_is_less m (literal.AtMost i a n) old new narrowing changes = domain_smaller m i a _ old new changes
smaller_is_less m (literal.AtLeast i a n) old new narrowing changes = domain_smaller m i a _ old new changes
smaller_is_less m (literal.ValueIsNot i a n) old new narrowing changes = domain_smaller m i a _ old new changes
smaller_is_less m (literal.Linked i p j) old new narrowing changes = port_smaller m i p _ old new changes
smaller_is_less m (literal.NotLinked i p j) old new narrowing changes = port_smaller m i p _ old new changes
smaller_is_less m (literal.LinksAtMost i p n) old new narrowing changes = absurd changes
smaller_is_less m (literal.LinksAtLeast i p n) old new narrowing changes = absurd changes
smaller_is_less m (literal.FreshAtMost i p from n) old new narrowing changes = port_smaller m i p _ old new changes
smaller_is_less m (literal.FreshAtLeast i p from n) old new narrowing changes = port_smaller m i p _ old new changes
