-- Where truths hold and where they fail, in sets of instances.
use Rattle.std.specs.Prelude.{◌≡◌, ℕ, ◌&&◌, ◌==◌, int_le, int_lt, Bool, true, false, IsTrue, IsSome, [], if◌then◌else◌}
use Rattle.std.specs.List.{list_all, list_any}
use Rattle.instance_set.specs.declared.set.InstanceSet.{InstanceSet}
use Rattle.instance_set.specs.InstanceSets.{is_member}
use Rattle.prod_model.specs.declared.model.Model.{Model}
use Rattle.prod_model.specs.declared.expr.Expr.{Expr}
use Rattle.prod_model.specs.declared.expr.Expr.TheOpen.{Expr-F, Cmp, Is, Kind}
use Rattle.prod_model.specs.declared.expr.Relation.{Relation}
use Rattle.prod_model.specs.declared.expr.Relation.TheVariants.{Less, AtMost, Equal, Differs, AtLeast, Greater}
use Rattle.state_space.specs.State.{State, port_at}
use Rattle.state_values.specs.declared.interval.Interval.{Interval}
use Rattle.state_values.specs.declared.kleene.Kleene.{Kleene}
use Rattle.state_values.specs.declared.kleene.Kleene.TheVariants.{True, False, Open}
use Rattle.state_values.specs.declared.truth_sets.Truths.{Truths}
use Rattle.state_values.specs.Kleene as shown
use Rattle.state_values.specs.Kleene.{is_true, is_false}
use Rattle.state_values.specs.Sights.{port_state}
use Rattle.state_values.specs.Seen.{as_kleene}
use Rattle.state_values.specs.steps.Forms.{form_seen}
use Rattle.state_values.specs.steps.Parts.{Stands}

-- ---- truths of one instance

-- true where it is false, and false where it is true
abbrev pub opposite : Kleene → Kleene
opposite True = False
opposite False = True
opposite Open = Open

-- true where both are, and false where one is
abbrev pub conjunction : Kleene → Kleene → Kleene
conjunction False _ = False
conjunction True other = other
conjunction Open False = False
conjunction Open True = Open
conjunction Open Open = Open

-- each number of the first is less than each of the second, or none is
abbrev pub precedes : Interval → Interval → Kleene
precedes a b = if int_lt a.high b.low then True else (if int_le b.high a.low then False else Open)

-- each number of the first is at most each of the second, or none is
abbrev pub not_after : Interval → Interval → Kleene
not_after a b = opposite (precedes b a)

-- the intervals stand so to each other
abbrev pub related : Relation → Interval → Interval → Kleene
related Less a b = precedes a b
related AtMost a b = not_after a b
related Equal a b = conjunction (not_after a b) (not_after b a)
related Differs a b = opposite (conjunction (not_after a b) (not_after b a))
related AtLeast a b = not_after b a
related Greater a b = precedes b a

-- a truth without truths in it; false for other forms
abbrev pub simple_truth : Model → State → ℕ → ℕ → Expr-F Expr → shown.Kleene
simple_truth m s t i (Cmp r e f) = as_kleene (form_seen m s t i (Cmp r e f))
simple_truth m s t i (Is a w) = as_kleene (form_seen m s t i (Is a w))
simple_truth m s t i (Kind u) = as_kleene (form_seen m s t i (Kind u))
simple_truth m s t i form = shown.False []

-- ---- truths of sets of instances

-- of a set of instances, those where a truth is true, and those where it is false
pub record Tells (among : InstanceSet) (f : ℕ → shown.Kleene) (x : Truths) : Type 0 where
  pub holding : (i : ℕ) → is_member x.holding i ≡ (is_member among i && is_true (f i))
  pub failing : (i : ℕ) → is_member x.failing i ≡ (is_member among i && is_false (f i))

-- each member is made, and each of its possible types is under type t
abbrev pub StandAmong : Model → State → ℕ → InstanceSet → Type 0
StandAmong m s t among = (i : ℕ) → IsTrue (is_member among i) → Stands m s t i

-- every instance that a port may link is one of a set, and it links no later one
abbrev pub links_only : State → ℕ → ℕ → InstanceSet → Bool
links_only s p i set =
    list_all (is_member set) (port_state s i p).possible
    && ((port_state s i p).fresh_high == 0)

-- some instance that a port must link is one of a set
abbrev pub links_some : State → ℕ → ℕ → InstanceSet → Bool
links_some s p i set = list_any (is_member set) (port_state s i p).required

-- each member has the port
abbrev pub HavePort : State → InstanceSet → ℕ → Type 0
HavePort s among p = (i : ℕ) → IsTrue (is_member among i) → IsSome (port_at s i p)

-- it is true
abbrev pub is_told_true : Kleene → Bool
is_told_true True = true
is_told_true _ = false

-- it is false
abbrev pub is_told_false : Kleene → Bool
is_told_false False = true
is_told_false _ = false
