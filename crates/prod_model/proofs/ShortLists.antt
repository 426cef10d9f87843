-- How many types and declarations a formed model has.
use Rattle.std.proofs.Common.{◌≤◌, length, sum_by}
use Rattle.std.proofs.lemmas.Bool.{and_parts, leb-true}
use Rattle.prod_model.specs.declared.model.Model.{Model}
use Rattle.prod_model.specs.Valid.{IsFormed, has_short_lists}

-- at most 128 types, with 256 attributes and 256 ports declared in them
pub record IsFew (m : Model) : Type 0 where
  pub types : length m.types ≤ 128
  pub attributes : sum_by (λ d. length d.attributes) m.types ≤ 256
  pub ports : sum_by (λ d. length d.ports) m.types ≤ 256

pub formed_is_few : (m : Model) → IsFormed m → IsFew m
unfolding has_short_lists
formed_is_few m formed =
    let whole = and_parts _ _ formed.short_lists in
    let to_ports = and_parts _ _ whole.0 in
    let to_attributes = and_parts _ _ to_ports.0 in
    let to_bounds = and_parts _ _ to_attributes.0 in
    let to_rules = and_parts _ _ to_bounds.0 in
    record {
      types = leb-true _ _ to_rules.0;
      attributes = leb-true _ _ to_attributes.1;
      ports = leb-true _ _ to_ports.1;
    }
