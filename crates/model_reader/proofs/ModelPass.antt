-- The model that a file without faults stands for, and its tables.
use Rattle.std.proofs.Common.{◌≡◌, List, map, sym, ◌∙◌, ap₂, subst}
use Rattle.serde_json.specs.Data.{Data}
use Rattle.prod_model.specs.Taxonomy.{tables_of, inverse_of}
use Rattle.prod_model.specs.Valid.{IsValid}
use Rattle.prod_model.specs.declared.model.Model.{Model}
use Rattle.prod_model.specs.declared.model.Rule.{Rule}
use Rattle.prod_model.specs.declared.model.Tables.{Tables}
use Rattle.file_values.specs.declared.fault.Fault.{Fault as AFault}
use Rattle.file_values.specs.declared.kind.Key.TheVariants as key
use Rattle.file_values.specs.Read.{items_at}
use Rattle.file_meaning.specs.ModelOf.{declared_in, model_in, rule_in, type_names}
use Rattle.file_meaning.specs.Faults.{HasModelFault}
use Rattle.file_meaning.specs.Laws.{FaultlessIsValid}
use Rattle.file_meaning.specs.Stands.{StandsForModel}

-- the tables don't look at the rules
pub tables_with : (m : Model) (rules : List Rule) (tables : Tables) → tables ≡ tables_of m → tables ≡ tables_of (record m { rules = rules })
unfolding tables_of inverse_of
tables_with m rules tables is = is

-- what is declared, with the rules
pub model_is : (d : Data) (m : Model) (rules : List Rule) → m ≡ declared_in d
    → rules ≡ map (rule_in (declared_in d) (type_names d)) (items_at key.Rules d) → record m { rules = rules } ≡ model_in d
unfolding model_in
model_is d m rules m_is rules_is = ap₂ (λ (n : Model) (rs : List Rule). record n { rules = rs }) m_is rules_is

module _ (law : FaultlessIsValid) (d : Data) (none : (f : AFault) → ¬ HasModelFault d f) (m : Model) (is : m ≡ model_in d) where
  read : (n : Model) × StandsForModel d n × IsValid n
  read = (law d).0 none

  -- a value without faults stands for the model that it says
  pub stands_for : StandsForModel d m
  stands_for = record { readable = read.1.readable; is = is }

  -- which is valid
  pub is_valid : IsValid m
  is_valid = subst IsValid (read.1.is ∙ sym is) read.2
