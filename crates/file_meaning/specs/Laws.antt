-- The laws of files: which have no fault, what they stand for, and that there is one first fault.
use Rattle.std.specs.Prelude.{◌≡◌, ◌↔◌, ◌++◌, ◌≤◌, ℕ, Bool, IsTrue, if◌then◌else◌, List, [], Option, Some, slice_get, Contains}
use Rattle.std.specs.Ordering.{nat_cmp}
use Rattle.std.specs.Cmp.Lexicographic.{slice_cmp}
use Rattle.serde_json.specs.Data.{Data}
use Rattle.prod_model.specs.declared.model.Model.{Model}
use Rattle.prod_model.specs.declared.model.Order.{Order}
use Rattle.prod_model.specs.declared.model.Rule.{Rule}
use Rattle.prod_model.specs.declared.expr.Expr.{Expr}
use Rattle.prod_model.specs.ExprBounds.{bounds_at, is_truth_at, is_number_at}
use Rattle.prod_model.specs.First.{IsFirst}
use Rattle.prod_model.specs.Valid.{has_known_parents_and_targets, IsFormed, IsDeclared, IsValid, IsValidOrder}
use Rattle.expr_bounds.specs.Forms.{is_form}
use Rattle.file_values.specs.declared.fault.Fault.{Fault}
use Rattle.file_values.specs.declared.part.Part.{Part}
use Rattle.file_values.specs.Codes.{number_of}
use Rattle.file_values.specs.FaultOrder.{IsFaultBefore}
use Rattle.file_values.specs.Forms.{misformed}
use Rattle.file_values.specs.Places.{part_cmp, IsPlaceBefore}
use Rattle.file_meaning.specs.Expressions.{expression_of}
use Rattle.file_meaning.specs.ModelOf.{declared_in}
use Rattle.file_meaning.specs.Faults.{HasModelFault, HasOrderFault, HasOwnFault, path_place}
use Rattle.file_meaning.specs.Stands.{StandsForModel, StandsForOrder}

-- A value has no fault exactly where it stands for a valid model.
abbrev pub FaultlessIsValid : Type 0
FaultlessIsValid =
    (d : Data)
    → ((f : Fault) → ¬ HasModelFault d f) ↔ ((m : Model) × StandsForModel d m × IsValid m)

-- A value has no fault for a valid model exactly where it stands for a valid order.
abbrev pub FaultlessIsValidOrder : Type 0
FaultlessIsValidOrder =
    (m : Model) → IsValid m → (d : Data)
    → ((f : Fault) → ¬ HasOrderFault m d f)
    ↔ ((o : Order) × StandsForOrder m d o × IsValidOrder m o)

-- A value stands for at most one model.
abbrev pub StandsForOne : Type 0
StandsForOne = (d : Data) (m n : Model) → StandsForModel d m → StandsForModel d n → m ≡ n

-- A value stands for at most one order.
abbrev pub StandsForOneOrder : Type 0
StandsForOneOrder =
    (m : Model) (d : Data) (o p : Order) → StandsForOrder m d o → StandsForOrder m d p → o ≡ p

-- There is at most one first fault of a model file.
abbrev pub FirstModelFaultIsOne : Type 0
FirstModelFaultIsOne =
    (d : Data) (f g : Fault) → IsFirst (HasModelFault d) IsFaultBefore f
    → IsFirst (HasModelFault d) IsFaultBefore g → f ≡ g

-- There is at most one first fault of an order file.
abbrev pub FirstOrderFaultIsOne : Type 0
FirstOrderFaultIsOne =
    (m : Model) (d : Data) (f g : Fault) → IsFirst (HasOrderFault m d) IsFaultBefore f
    → IsFirst (HasOrderFault m d) IsFaultBefore g → f ≡ g

-- What an expression is at a type doesn't depend on the rules, so that it can be read before the
-- model has them.
abbrev pub BoundsIgnoreRules : Type 0
BoundsIgnoreRules =
    (m : Model) (rules : List Rule) (e : Expr) (t : ℕ)
    → bounds_at (record m { rules = rules }) e t ≡ bounds_at m e t

-- Paths in an expression have as places the order that they have as paths.
abbrev pub PathsKeepOrder : Type 0
PathsKeepOrder =
    (p q : List ℕ) → slice_cmp part_cmp (path_place p) (path_place q) ≡ slice_cmp nat_cmp p q

-- Two places in one value have the order that they have from the value.
abbrev pub PlacesKeepOrder : Type 0
PlacesKeepOrder =
    (front p q : List Part)
    → slice_cmp part_cmp (front ++ p) (front ++ q) ≡ slice_cmp part_cmp p q

-- The first misformed place that is found in a value is the first in the order of the document.
abbrev pub FirstMisformedIsFirst : Type 0
FirstMisformedIsFirst =
    (d : Data) (place : List Part) → slice_get (misformed d) 0 ≡ Some place
    → IsFirst (Contains (misformed d)) IsPlaceBefore place

-- A value no part of which is misformed is an expression of the forms of the language.
abbrev pub FormedIsForm : Type 0
FormedIsForm =
    (m : Model) (d : Data) (t : Option ℕ) → misformed d ≡ []
    → IsTrue (is_form (expression_of m d t))

-- The value has no fault of a code up to this one.
abbrev pub IsFaultlessTo : ℕ → Data → Type 0
IsFaultlessTo n d = (f : Fault) → number_of f.code ≤ n → ¬ HasModelFault d f

-- A value without faults up to F08 declares what is right by itself, and parents and targets that
-- are types.
abbrev pub FaultlessIsFormed : Type 0
FaultlessIsFormed =
    (d : Data) → IsFaultlessTo 8 d
    → IsFormed (declared_in d) × IsTrue (has_known_parents_and_targets (declared_in d))

-- A value without faults up to F11 declares a model.
abbrev pub FaultlessIsDeclared : Type 0
FaultlessIsDeclared = (d : Data) → IsFaultlessTo 11 d → IsDeclared (declared_in d)

-- An expression without own faults has bounds, of the kind that is needed, and nests at most 16
-- deep.
abbrev pub FaultlessIsBounded : Type 0
FaultlessIsBounded =
    (m : Model) (d : Data) (t : ℕ) (truth : Bool)
    → ((f : Fault) → ¬ HasOwnFault m d t truth f)
    → IsTrue
    (if truth then is_truth_at m t (expression_of m d (Some t))
    else is_number_at m t (expression_of m d (Some t)))
