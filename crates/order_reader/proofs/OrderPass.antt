-- The faults 12 to 16 of an order file, and the order that a file without faults stands for.
use Rattle.std.proofs.Common.{◌≡◌, ◌<◌, length, map, refl, ap, ap₂, Bool, true, false, Option, Some, None, List, ◌++◌, sym, ◌∙◌, subst, arith}
use Rattle.std.specs.Prelude.{IsTrue, if◌then◌else◌}
use Rattle.std.specs.List.{enumerate_from}
use Rattle.std.specs.Ordering.{is_lt}
use Rattle.std.proofs.lemmas.Option.{none-some}
use Rattle.std.proofs.lemmas.Bool.Decides.{nat_tests}
use Rattle.serde_json.specs.Data.{Data}
use Rattle.prod_model.specs.First.{IsFirst}
use Rattle.prod_model.specs.Valid.{IsValid, IsValidOrder, has_known_types}
use Rattle.prod_model.specs.declared.model.Model.{Model}
use Rattle.prod_model.specs.declared.model.Order.{Order}
use Rattle.prod_model.specs.declared.model.Request.{Request}
use Rattle.prod_model.specs.declared.model.Criterion.{Criterion}
use Rattle.file_values.specs.declared.format.Format.TheVariants.{First}
use Rattle.file_values.specs.declared.kind.Kind.TheVariants as kind
use Rattle.file_values.specs.declared.fault.Fault.{Fault as AFault}
use Rattle.file_values.specs.declared.kind.Key.TheVariants as key
use Rattle.file_values.specs.FaultOrder.{fault_cmp, IsFaultBefore}
use Rattle.file_values.specs.Read.{items_at}
use Rattle.file_meaning.specs.ModelOf.{order_in, request_in, criterion_in}
use Rattle.file_meaning.specs.Faults.{wishes_of, HasPlainFault, HasStatedFault, HasOrderFault}
use Rattle.file_meaning.specs.Faults as faults
use Rattle.file_meaning.specs.Laws.{FaultlessIsValidOrder}
use Rattle.file_meaning.specs.Stands.{StandsForOrder}
use Rattle.model_reader.specs.Passes.{IsClearTo}
use Rattle.model_reader.specs.Stated.{FindsFault, earlier_fault, AreRead}
use Rattle.model_reader.proofs.StatedFaults.{more_stated}
use Rattle.order_reader.specs.Wishes.{stated_request, stated_criterion}
use Rattle.model_reader.proofs.PlainOfFiles.{early_plain}

-- the root type of a valid model is one of its types
pub root_within : (m : Model) → IsValid m → m.root < length m.types
unfolding has_known_types
root_within m valid = let known : IsTrue (has_known_types m) = valid.declared.known_types in grind (arith, nat_tests)

module _ (m : Model) (d : Data) (clear : IsClearTo (HasPlainFault First kind.Order d) 7) where
  -- no fault of a wish: no fault
  pub order_none : FindsFault (HasStatedFault m (wishes_of m d)) None → (f : AFault) → ¬ HasOrderFault m d f
  unfolding FindsFault
  order_none none f (faults.plain p) = clear f (early_plain f p) p
  order_none none f (faults.expression s) = none f s

  -- the first fault of the wishes is the first of the file
  pub order_first : (f : AFault) → FindsFault (HasStatedFault m (wishes_of m d)) (Some f) → IsFirst (HasOrderFault m d) IsFaultBefore f
  unfolding FindsFault
  order_first f first = record { is = faults.expression first.is; none_before = none_before }
    where
      none_before : (y : AFault) → HasOrderFault m d y → ¬ IsFaultBefore y f
      none_before y (faults.plain p) less = clear y (early_plain y p) p
      none_before y (faults.expression s) less = first.none_before y s less

module _ (law : FaultlessIsValidOrder) (m : Model) (valid : IsValid m) (d : Data) (none : (f : AFault) → ¬ HasOrderFault m d f) (o : Order) (is : o ≡ order_in m d) where
  read : (p : Order) × StandsForOrder m d p × IsValidOrder m p
  read = (law m valid d).0 none

  -- a value without faults stands for the order that it says
  pub stands_for : StandsForOrder m d o
  stands_for = record { readable = read.1.readable; is = is }

  -- which is valid
  pub is_valid : IsValidOrder m o
  is_valid = (let Valid : Order → Type 0 = λ p. IsValidOrder m p in subst Valid (read.1.is ∙ sym is) read.2)

-- ---- requests and criteria

one_of : (b : Bool) (f g : AFault) → (if b then Some g else Some f) ≡ None → ⊥
one_of true f g is = none-some g (sym is)
one_of false f g is = none-some f (sym is)

neither : (o p : Option AFault) → earlier_fault o p ≡ None → (o ≡ None) × (p ≡ None)
neither None p is = (refl, is)
neither (Some f) None is = absurd (none-some f (sym is))
neither (Some f) (Some g) is = absurd (one_of (is_lt (fault_cmp g f)) f g is)

module _ (m : Model) (d : Data) (rs cs : List Data) (o p : Option AFault) (requests : List Request) (criteria : List Criterion)
    (rs_are : rs ≡ items_at key.Requests d) (cs_are : cs ≡ items_at key.Criteria d)
    (first : AreRead m (map (stated_request m) (enumerate_from 0 rs)) (map (request_in m) rs) o requests)
    (second : AreRead m (map (stated_criterion m) (enumerate_from 0 cs)) (map (criterion_in m) cs) p criteria) where
  -- the first fault of both
  pub wishes_found : FindsFault (HasStatedFault m (wishes_of m d)) (earlier_fault o p)
  wishes_found =
      (let Finds : List Data → List Data → Type 0 =
      λ r c. FindsFault (HasStatedFault m (map (stated_request m) (enumerate_from 0 r) ++ map (stated_criterion m) (enumerate_from 0 c))) (earlier_fault o p) in
      subst (λ r. Finds r (items_at key.Criteria d)) rs_are
      (subst (Finds rs) cs_are (more_stated m (map (stated_request m) (enumerate_from 0 rs)) (map (stated_criterion m) (enumerate_from 0 cs)) o p first.finds second.finds)))

  -- what both say
  pub wishes_say : earlier_fault o p ≡ None → record { requests = requests; criteria = criteria } ≡ order_in m d
  unfolding order_in
  wishes_say none =
      (let both = neither o p none in
      ap₂ (λ (r : List Request) (c : List Criterion). record { requests = r; criteria = c })
      (first.says both.0 ∙ ap (map (request_in m)) rs_are) (second.says both.1 ∙ ap (map (criterion_in m)) cs_are))
