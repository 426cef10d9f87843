-- A taxonomy has no fault, and right inverses have none.
use Rattle.std.specs.Prelude.{IsTrue}
use Rattle.prod_model.specs.declared.model.Model.{Model}
use Rattle.prod_model.specs.Valid.{IsTaxonomy, has_right_inverses}
use Rattle.type_taxonomy.specs.declared.fault.TaxFault.{TaxFault}
use Rattle.type_taxonomy.specs.declared.inverse_fault.InverseFault.{InverseFault}
use Rattle.type_taxonomy.specs.Faults.{HasTaxFault}
use Rattle.type_taxonomy.specs.Inverses.{HasInverseFault}

-- no model whose types are a taxonomy has a fault
abbrev pub HasNoFault : Type 0
HasNoFault = (m : Model) (f : TaxFault) → IsTaxonomy m → ¬ HasTaxFault m f

-- no model whose inverses are right has a fault of inverses
abbrev pub HasNoInverseFault : Type 0
HasNoInverseFault =
    (m : Model) (f : InverseFault) → IsTrue (has_right_inverses m) → ¬ HasInverseFault m f
