-- Going back.
use Rattle.std.proofs.Common.{◌≡◌, ℕ, zero, suc, List, [], ◌∷◌, refl, ap, sym, ◌∙◌, Some, None, Option}
use Rattle.std.specs.Prelude.{slice_get, slice_set, slice_index_or}
use Rattle.std.specs.Option.{option_and_then, option_map_or}
use Rattle.state_space.specs.Undo.{Kinds, Domain, Port, put_back}
use Rattle.state_space.specs.Made.{MadeInstance, domain_of, port_of_made}
use Rattle.state_space.specs.Values.{Values}
use Rattle.state_space.specs.Ports.{PortState}
use Rattle.state_space.specs.State.{State, with_made, with_kinds, with_domain, with_port, kinds_at, domain_at, port_at}
use Rattle.state_space.specs.Laws.{UndoneInTurn, EachIsUndone}
use Rattle.state_space.proofs.Changed.{changed_at-changed_at, changed_at-same}

pub undone_in_turn : UndoneInTurn
undone_in_turn [] later s = refl
undone_in_turn (o ∷ os) later s = ap (put_back o) (undone_in_turn os later s)

-- what is set back at a place where it stood
pub set_back : {D : Type 0} (parts : List (Option D)) (a : ℕ) (before after : D) → slice_index_or parts a None ≡ Some before
    → slice_set (slice_set parts a (Some after)) a (Some before) ≡ parts
set_back [] a before after was = refl
set_back (p ∷ ps) zero before after was = ap (λ q. q ∷ ps) (sym was)
set_back (p ∷ ps) (suc a) before after was = ap (λ qs. p ∷ qs) (set_back ps a before after was)

-- an instance changed, and changed back
one_back : (i : ℕ) (f g : MadeInstance → MadeInstance) (s : State) → ((x : MadeInstance) → slice_get s.made i ≡ Some x → g (f x) ≡ x) → with_made i g (with_made i f s) ≡ s
one_back i f g s back = ap (λ made. record s { made = made }) (changed_at-changed_at i f g s.made ∙ changed_at-same i (λ x. g (f x)) s.made back)

-- each narrowing is undone by the old value
pub kinds_back : (i : ℕ) (kinds : List ℕ) (s : State) → put_back (Kinds i (kinds_at s i)) (with_kinds i kinds s) ≡ s
kinds_back i kinds s = one_back i (λ x. record x { kinds = kinds }) (λ x. record x { kinds = kinds_at s i }) s (λ x at.
    ap (λ ks. record x { kinds = ks }) (ap (λ o. option_map_or (λ x. x.kinds) o []) at))

pub domain_back : (i a : ℕ) (before after : Values) (s : State) → domain_at s i a ≡ Some before → put_back (Domain i a before) (with_domain i a after s) ≡ s
domain_back i a before after s was =
    one_back i (λ x. record x { domains = slice_set x.domains a (Some after) }) (λ x. record x { domains = slice_set x.domains a (Some before) }) s (λ x at.
    ap (λ ds. record x { domains = ds }) (set_back x.domains a before after (sym (ap (option_and_then (λ x. domain_of x a)) at) ∙ was)))

pub port_back : (i p : ℕ) (before after : PortState) (s : State) → port_at s i p ≡ Some before → put_back (Port i p before) (with_port i p after s) ≡ s
port_back i p before after s was =
    one_back i (λ x. record x { ports = slice_set x.ports p (Some after) }) (λ x. record x { ports = slice_set x.ports p (Some before) }) s (λ x at.
    ap (λ qs. record x { ports = qs }) (set_back x.ports p before after (sym (ap (option_and_then (λ x. port_of_made x p)) at) ∙ was)))

pub each_is_undone : EachIsUndone
each_is_undone i result old new = (
  λ test narrows. ap (put_back (Kinds i (kinds_at old i))) narrows.others ∙ kinds_back i (kinds_at new i) old,
  λ a test narrows. ap (put_back (Domain i a narrows.before)) narrows.others ∙ domain_back i a narrows.before narrows.after old narrows.was,
  λ p test narrows. ap (put_back (Port i p narrows.before)) narrows.others ∙ port_back i p narrows.before narrows.after old narrows.was,
)
