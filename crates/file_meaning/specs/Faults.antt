-- The faults of a model or order file, and the first of them.
use Rattle.std.specs.Prelude.{◌≡◌, ℕ, ◌<◌, ◌≤◌, Bool, true, false, IsFalse, List, [], ◌∷◌, ◌++◌, map, length, codes, if◌then◌else◌, Some, Contains}
use Rattle.std.specs.List.{enumerate_from}
use Rattle.std.specs.Str.{IsUtf8}
use Rattle.serde_json.specs.Data.{Data}
use Rattle.serde_json.specs.Read.{read}
use Rattle.prod_model.specs.declared.model.Model.{Model}
use Rattle.prod_model.specs.declared.expr.Expr.TheViews.{out-Expr}
use Rattle.prod_model.specs.First.{IsFirst}
use Rattle.prod_model.specs.Limits.{most_file_bytes}
use Rattle.prod_model.specs.Names.{same_text}
use Rattle.type_taxonomy.specs.declared.fault.TaxFault.TheVariants as tax
use Rattle.type_taxonomy.specs.declared.inverse_fault.InverseFault.TheVariants.{Bad}
use Rattle.type_taxonomy.specs.Faults.{HasTaxFault}
use Rattle.type_taxonomy.specs.Inverses.{HasInverseFault}
use Rattle.expr_bounds.specs.declared.fault.ExprFault.TheVariants as expr
use Rattle.expr_bounds.specs.Faults.{HasExprFault, is_truth_form, same_truth}
use Rattle.file_values.specs.declared.part.Part.{Part}
use Rattle.file_values.specs.declared.part.Part.TheVariants.{At as at}
use Rattle.file_values.specs.declared.fault.Fault.{Fault}
use Rattle.file_values.specs.declared.fault.FaultCode.{FaultCode}
use Rattle.file_values.specs.declared.fault.FaultCode.TheVariants.{TooLong, NoJson, OtherKind, WrongLength, WrongForm, Twice, PastLimit, UnknownType, Cycle, Widening, Crowded, Misformed, Deep, UnknownName, WrongKind, Wide, WrongInverse}
use Rattle.file_values.specs.declared.format.Format.{Format}
use Rattle.file_values.specs.declared.format.Format.TheVariants.{First, Second}
use Rattle.file_values.specs.declared.kind.Kind.{Kind}
use Rattle.file_values.specs.declared.kind.Kind.TheVariants as kind
use Rattle.file_values.specs.declared.kind.Key.{Key}
use Rattle.file_values.specs.declared.kind.Key.TheVariants as key
use Rattle.file_values.specs.FaultOrder.{IsFaultBefore}
use Rattle.file_values.specs.Places.{under}
use Rattle.file_values.specs.Inside.{FailsAt}
use Rattle.file_values.specs.Kinds.{is_right}
use Rattle.file_values.specs.Tests.{is_short, is_formed, is_in_limits, is_known}
use Rattle.file_values.specs.Twice.{IsTwice}
use Rattle.file_values.specs.Forms.{misformed}
use Rattle.file_values.specs.Read.{member_of, text_at, items_at}
use Rattle.file_meaning.specs.Expressions.{expression_of}
use Rattle.file_meaning.specs.ModelOf.{type_names, number_named, declared_in, aim_of}

-- the fault of this code at this place
abbrev pub fault : FaultCode → List Part → Fault
fault code place = record { code = code; place = place }

-- ---- expressions

-- an expression of a file: where it stands, its value, the type at which it stands, and whether it
-- has to be a truth
pub record Stated : Type 0 where
  pub place : List Part
  pub value : Data
  pub of : ℕ
  pub truth : Bool

-- a path in an expression, as a place
abbrev pub path_place : List ℕ → List Part
path_place path = map at path

-- The fault of an expression alone, with places from its value. The expression is looked at at its
-- type of the declared model.
pub data HasOwnFault (m : Model) (d : Data) (of : ℕ) (truth : Bool) (f : Fault) : Type 0 where
  of_no_form : (place : List Part) → f ≡ fault Misformed place → Contains (misformed d) place
      → HasOwnFault m d of truth f
  deep : (path : List ℕ) → f ≡ fault Deep (path_place path)
      → HasExprFault m (expression_of m d (Some of)) of (expr.Deep path)
      → HasOwnFault m d of truth f
  unknown_name : (path : List ℕ) → f ≡ fault UnknownName (path_place path)
      → HasExprFault m (expression_of m d (Some of)) of (expr.UnknownName path)
      → HasOwnFault m d of truth f
  wrong_whole : f ≡ fault WrongKind []
      → IsFalse (same_truth truth (is_truth_form (out-Expr (expression_of m d (Some of)))))
      → HasOwnFault m d of truth f
  wrong_kind : (path : List ℕ) → f ≡ fault WrongKind (path_place path)
      → HasExprFault m (expression_of m d (Some of)) of (expr.WrongKind path)
      → HasOwnFault m d of truth f
  wide : (path : List ℕ) → f ≡ fault Wide (path_place path)
      → HasExprFault m (expression_of m d (Some of)) of (expr.Wide path)
      → HasOwnFault m d of truth f

-- one of these expressions has a fault
pub record HasStatedFault (m : Model) (stated : List Stated) (f : Fault) : Type 0 where
  pub one : Stated
  pub among : Contains stated one
  pub own : Fault
  pub has : HasOwnFault m one.value one.of one.truth own
  pub is : f ≡ fault own.code (one.place ++ own.place)

-- the rules, each at its type
abbrev pub rules_of : Data → List Stated
rules_of d =
    map (λ p. record {
      place = under key.Rules ∷ at p.0 ∷ under key.Holds ∷ [];
      value = member_of key.Holds p.1;
      of = number_named (type_names d) (member_of key.OfType p.1);
      truth = true;
    }) (enumerate_from 0 (items_at key.Rules d))

-- the requests, at the root type
abbrev pub requests_of : Model → Data → List Stated
requests_of m d =
    map (λ p. record {
      place = under key.Requests ∷ at p.0 ∷ under key.Holds ∷ [];
      value = member_of key.Holds p.1;
      of = m.root;
      truth = true;
    }) (enumerate_from 0 (items_at key.Requests d))

-- the criteria, at the root type
abbrev pub criteria_of : Model → Data → List Stated
criteria_of m d =
    map (λ p. record {
      place = under key.Criteria ∷ at p.0 ∷ under (aim_of p.1) ∷ [];
      value = member_of (aim_of p.1) p.1;
      of = m.root;
      truth = false;
    }) (enumerate_from 0 (items_at key.Criteria d))

-- the requests and criteria
abbrev pub wishes_of : Model → Data → List Stated
wishes_of m d = requests_of m d ++ criteria_of m d

-- ---- the faults of a value

-- The value has this fault, supposing that it has none of a lesser number: 3 to 7, alike for both
-- files.
pub data HasPlainFault (format : Format) (k : Kind) (d : Data) (f : Fault) : Type 0 where
  other_kind : (place : List Part) → f ≡ fault OtherKind place
      → FailsAt format (is_right format) k d place → HasPlainFault format k d f
  wrong_length : (place : List Part) → f ≡ fault WrongLength place
      → FailsAt format is_short k d place → HasPlainFault format k d f
  wrong_form : (place : List Part) → f ≡ fault WrongForm place → FailsAt format is_formed k d place
      → HasPlainFault format k d f
  twice : (place : List Part) → f ≡ fault Twice place → IsTwice format k d place
      → HasPlainFault format k d f
  past_limit : (place : List Part) → f ≡ fault PastLimit place
      → FailsAt format is_in_limits k d place → HasPlainFault format k d f

-- the format of a model file, which its member `format` tells
abbrev pub format_of : Data → Format
format_of d =
    if same_text (text_at key.Format d) (codes "product-model 2") then Second else First

-- the place of the type at this place of the list of types
abbrev pub type_place : ℕ → List Part
type_place t = under key.Types ∷ at t ∷ []

-- the list in which a declaration stands
abbrev pub declared_under : Bool → Key
declared_under port = if port then key.Ports else key.Attributes

-- the value of a model file has this fault, supposing that it has none of a lesser number
pub data HasModelFault (d : Data) (f : Fault) : Type 0 where
  plain : HasPlainFault (format_of d) kind.Model d f → HasModelFault d f
  unknown_type : (place : List Part) → f ≡ fault UnknownType place
      → FailsAt (format_of d) (is_known (type_names d)) kind.Model d place → HasModelFault d f
  cycle : (t : ℕ) → f ≡ fault Cycle (type_place t) → HasTaxFault (declared_in d) (tax.Cycle t)
      → HasModelFault d f
  widening : (t : ℕ) (port : Bool) (k : ℕ)
      → f ≡ fault Widening (type_place t ++ under (declared_under port) ∷ at k ∷ [])
      → HasTaxFault (declared_in d) (tax.Widening t port k) → HasModelFault d f
  crowded : (t : ℕ) → f ≡ fault Crowded (type_place t)
      → HasTaxFault (declared_in d) (tax.Crowded t) → HasModelFault d f
  expression : HasStatedFault (declared_in d) (rules_of d) f → HasModelFault d f
  wrong_inverse : (t k : ℕ)
      → f ≡ fault WrongInverse (type_place t ++ under key.Ports ∷ at k ∷ under key.Inverse ∷ [])
      → HasInverseFault (declared_in d) (Bad t k) → HasModelFault d f

-- The value of an order file has this fault for a model, supposing that it has none of a lesser
-- number. Its values are of the same kinds in both formats.
pub data HasOrderFault (m : Model) (d : Data) (f : Fault) : Type 0 where
  plain : HasPlainFault First kind.Order d f → HasOrderFault m d f
  expression : HasStatedFault m (wishes_of m d) f → HasOrderFault m d f

-- ---- the first fault

-- the bytes are a JSON text of this value
pub record IsValue (bytes : List ℕ) (d : Data) : Type 0 where
  pub text : IsUtf8 bytes
  pub value : read bytes ≡ Some d

-- The first fault of a file: it is too long, else it has no value, else the first of the value's.
pub data IsFaultOfFile (HasFault : Data → Fault → Type 0) (bytes : List ℕ) (f : Fault)
    : Type 0 where
  too_long : f ≡ fault TooLong [] → most_file_bytes < length bytes
      → IsFaultOfFile HasFault bytes f
  no_value : f ≡ fault NoJson [] → length bytes ≤ most_file_bytes
      → ((d : Data) → ¬ IsValue bytes d) → IsFaultOfFile HasFault bytes f
  of_value : (d : Data) → length bytes ≤ most_file_bytes → IsValue bytes d
      → IsFirst (HasFault d) IsFaultBefore f → IsFaultOfFile HasFault bytes f
