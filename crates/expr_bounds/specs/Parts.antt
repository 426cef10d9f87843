-- The parts of an expression, where they stand, and at which type.
use Rattle.std.specs.Prelude.{ℕ, List, [], ◌∷◌, ◌++◌, Some}
use Rattle.std.specs.declared.option.Option.{Option}
use Rattle.std.specs.Option.{option_map, option_and_then}
use Rattle.std.specs.List.{enumerate_from}
use Rattle.std.specs.Prelude.{Contains}
use Rattle.prod_model.specs.declared.model.Model.{Model}
use Rattle.prod_model.specs.declared.expr.Expr.{Expr}
use Rattle.prod_model.specs.declared.expr.Expr.TheOpen.{Expr-F, Num, Attr, Count, CountOf, Sum, Total, Number, Add, Sub, Times, Cmp, Is, Kind, And, Or, Not, If, All, Any}
use Rattle.prod_model.specs.declared.expr.Expr.TheViews.{out-Expr}
use Rattle.prod_model.specs.Taxonomy.{declared_port_of}

-- The argument expressions of a form, each with its place in the array form. The operator stands
-- at 0.
abbrev pub arguments : Expr-F Expr → List (ℕ × Expr)
arguments (Num n) = []
arguments (Attr a) = []
arguments (Count p) = []
arguments (CountOf p t) = []
arguments (Sum p a) = []
arguments (Total t a) = []
arguments (Number t) = []
arguments (Add args) = enumerate_from 1 args
arguments (Sub e f) = (1, e) ∷ (2, f) ∷ []
arguments (Times k e) = (2, e) ∷ []
arguments (Cmp r e f) = (1, e) ∷ (2, f) ∷ []
arguments (Is a w) = []
arguments (Kind t) = []
arguments (And args) = enumerate_from 1 args
arguments (Or args) = enumerate_from 1 args
arguments (Not e) = (1, e) ∷ []
arguments (If e f) = (1, e) ∷ (2, f) ∷ []
arguments (All p e) = (2, e) ∷ []
arguments (Any p e) = (2, e) ∷ []

-- The type at which the arguments of a form at a type stand: for `all` and `any` the port's target,
-- else the same. None where the form's own type isn't known, or it has no such port.
abbrev pub type_of_arguments : Model → Expr-F Expr → Option ℕ → Option ℕ
type_of_arguments m (All p e) t =
    option_map (λ q. q.target) (option_and_then (λ u. declared_port_of m u p) t)
type_of_arguments m (Any p e) t =
    option_map (λ q. q.target) (option_and_then (λ u. declared_port_of m u p) t)
type_of_arguments m form t = t

-- The expression that stands at type t has a part at a path, which stands at a type: itself, or an
-- argument of such a part. A part is at depth 1 more than the length of its path.
pub data IsPart (m : Model) (e : Expr) (t : ℕ) : List ℕ → Expr → Option ℕ → Type 0 where
  whole : IsPart m e t [] e (Some t)
  argument : (path : List ℕ) (part : Expr) (of : Option ℕ) → IsPart m e t path part of
      → (k : ℕ) (arg : Expr) → Contains (arguments (out-Expr part)) (k, arg)
      → IsPart m e t (path ++ k ∷ []) arg (type_of_arguments m (out-Expr part) of)
