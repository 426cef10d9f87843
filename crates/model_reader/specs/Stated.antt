-- The first fault of expressions that are stated in a list.
use Rattle.std.specs.Prelude.{◌≡◌, ℕ, true, List, [], ◌∷◌, Option, Some, None, if◌then◌else◌}
use Rattle.std.specs.Ordering.{is_lt}
use Rattle.serde_json.specs.Data.{Data}
use Rattle.prod_model.specs.First.{IsFirst}
use Rattle.prod_model.specs.declared.model.Model.{Model}
use Rattle.file_values.specs.declared.part.Part.TheVariants.{At as at}
use Rattle.file_values.specs.declared.kind.Key.TheVariants as key
use Rattle.file_values.specs.declared.fault.Fault.{Fault as AFault}
use Rattle.file_values.specs.FaultOrder.{fault_cmp, IsFaultBefore}
use Rattle.file_values.specs.Places.{under}
use Rattle.file_values.specs.Read.{member_of}
use Rattle.file_meaning.specs.declared.refusal.Refusal.{Refusal}
use Rattle.file_meaning.specs.declared.refusal.Refusal.TheVariants.{Fault, Memory}
use Rattle.file_meaning.specs.Faults.{Stated, HasStatedFault}
use Rattle.file_meaning.specs.ModelOf.{number_named}

-- the first of the faults, or nothing where there is none
unfoldable pub FindsFault : (AFault → Type 0) → Option AFault → Type 0
FindsFault Has None = (f : AFault) → ¬ Has f
FindsFault Has (Some f) = IsFirst Has IsFaultBefore f

-- the earlier of two faults, and the only one where there is one
abbrev pub earlier_fault : Option AFault → Option AFault → Option AFault
earlier_fault None other = other
earlier_fault (Some f) None = Some f
earlier_fault (Some f) (Some g) = if is_lt (fault_cmp g f) then Some g else Some f

-- the refusal by the first fault of stated expressions; want of memory says nothing
abbrev pub IsRefusalOfStated : Model → List Stated → Refusal → Type 0
IsRefusalOfStated m stated (Fault f) = FindsFault (HasStatedFault m stated) (Some f)
IsRefusalOfStated m stated (Memory e) = Unit {0}

-- What is read of stated expressions: their first fault, and what they say where they have none.
pub record AreRead {A : Type 0} (m : Model) (stated : List Stated) (said : List A)
    (first : Option AFault) (items : List A) : Type 0 where
  pub finds : FindsFault (HasStatedFault m stated) first
  pub says : first ≡ None → items ≡ said

-- how a rule is stated, by its place in the list and its value
abbrev pub stated_rule : List (List ℕ) → ℕ × Data → Stated
stated_rule names p = record {
  place = under key.Rules ∷ at p.0 ∷ under key.Holds ∷ [];
  value = member_of key.Holds p.1;
  of = number_named names (member_of key.OfType p.1);
  truth = true;
}
