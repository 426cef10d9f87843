-- What there is for an expression that has bounds at a type, where it is asked at an instance of a
-- state.
use Rattle.std.specs.Prelude.{◌≡◌, ℕ, ◌<◌, ◌≤◌, length, IsTrue, IsSome, List, slice_get, Some}
use Rattle.prod_model.specs.declared.model.Model.{Model}
use Rattle.prod_model.specs.declared.model.PortAt.{PortAt}
use Rattle.prod_model.specs.declared.expr.Expr.{Expr}
use Rattle.prod_model.specs.declared.expr.Expr.TheOpen.{Expr-F, Num, Attr, Count, CountOf, Sum, Total, Number, Add, Sub, Times, Cmp, Is, Kind, And, Or, Not, If, All, Any}
use Rattle.prod_model.specs.ExprBounds.{bounds_at, is_number, is_truth}
use Rattle.prod_model.specs.Limits.{most_arguments}
use Rattle.prod_model.specs.Forest.{is_type}
use Rattle.prod_model.specs.Taxonomy.{attribute_of, port_of}
use Rattle.state_space.specs.State.{State, IsState, number_made, domain_at, port_at}
use Rattle.state_values.specs.Sights.{is_surely_under}

-- instance i is made, and each of its possible types is under type t
pub record Stands (m : Model) (s : State) (t i : ℕ) : Type 0 where
  pub state : IsState m s
  pub made : i < number_made s
  pub under : IsTrue (is_surely_under m s t i)

-- the expression is a number at the type
abbrev pub IsNumber : Model → ℕ → Expr → Type 0
IsNumber m t e = IsTrue (is_number (bounds_at m e t))

-- it is a truth there
abbrev pub IsTruth : Model → ℕ → Expr → Type 0
IsTruth m t e = IsTrue (is_truth (bounds_at m e t))

-- the type has the attribute, and the instance a domain of it
pub record HasAttribute (m : Model) (s : State) (t i a : ℕ) : Type 0 where
  pub known : IsSome (attribute_of m t a)
  pub has : IsSome (domain_at s i a)

-- the type has the port, and the instance has links of it
pub record HasPort (m : Model) (s : State) (t i p : ℕ) : Type 0 where
  pub known : IsSome (port_of m t p)
  pub has : IsSome (port_at s i p)

-- each argument is a number
abbrev pub AreNumbers : Model → ℕ → List Expr → Type 0
AreNumbers m t es = (k : ℕ) (e : Expr) → slice_get es k ≡ Some e → IsNumber m t e

-- each argument is a truth
abbrev pub AreTruths : Model → ℕ → List Expr → Type 0
AreTruths m t es = (k : ℕ) (e : Expr) → slice_get es k ≡ Some e → IsTruth m t e

-- what a port's target has
abbrev pub AtTarget : Model → ℕ → ℕ → (ℕ → Type 0) → Type 0
AtTarget m t p P = (q : PortAt) → port_of m t p ≡ Some q → P q.target

-- what is there for a form
abbrev pub HasParts : Model → State → ℕ → ℕ → Expr-F Expr → Type 0
HasParts m s t i (Num n) = Unit {0}
HasParts m s t i (Attr a) = HasAttribute m s t i a
HasParts m s t i (Count p) = HasPort m s t i p
HasParts m s t i (CountOf p u) = HasPort m s t i p × IsTrue (is_type m u)
HasParts m s t i (Sum p a) =
    HasPort m s t i p × AtTarget m t p (λ u. IsSome (attribute_of m u a))
HasParts m s t i (Total u a) = IsSome (attribute_of m u a)
HasParts m s t i (Number u) = Unit {0}
HasParts m s t i (Add es) = AreNumbers m t es × (length es ≤ most_arguments)
HasParts m s t i (Sub e f) = IsNumber m t e × IsNumber m t f
HasParts m s t i (Times k e) = IsNumber m t e
HasParts m s t i (Cmp r e f) = IsNumber m t e × IsNumber m t f
HasParts m s t i (Is a w) = HasAttribute m s t i a
HasParts m s t i (Kind u) = Unit {0}
HasParts m s t i (And es) = AreTruths m t es
HasParts m s t i (Or es) = AreTruths m t es
HasParts m s t i (Not e) = IsTruth m t e
HasParts m s t i (If e f) = IsTruth m t e × IsTruth m t f
HasParts m s t i (All p e) = HasPort m s t i p × AtTarget m t p (λ u. IsTruth m u e)
HasParts m s t i (Any p e) = HasPort m s t i p × AtTarget m t p (λ u. IsTruth m u e)

-- what there is for a form that is a truth at type t, whichever the instance
abbrev pub HasTruths : Model → ℕ → Expr-F Expr → Type 0
HasTruths m t (And es) = AreTruths m t es
HasTruths m t (Or es) = AreTruths m t es
HasTruths m t (Not e) = IsTruth m t e
HasTruths m t (If e f) = IsTruth m t e × IsTruth m t f
HasTruths m t (All p e) = IsSome (port_of m t p) × AtTarget m t p (λ u. IsTruth m u e)
HasTruths m t (Any p e) = IsSome (port_of m t p) × AtTarget m t p (λ u. IsTruth m u e)
HasTruths m t form = Unit {0}
