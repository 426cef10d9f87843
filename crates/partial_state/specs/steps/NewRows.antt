-- The domains of a new instance, as the code makes them.
use Rattle.std.specs.Prelude.{ℕ, Bool, not, ◌==◌, ◌+◌, ◌&&◌, bit_and, List, [], ◌∷◌, if◌then◌else◌, Some, None}
use Rattle.std.specs.declared.option.Option.{Option}
use Rattle.prod_model.specs.declared.model.Domain.{Domain}
use Rattle.prod_model.specs.Valid.{has_ends, has_few_words}
use Rattle.state_space.specs.Values.{Values}
use Rattle.state_space.specs.State.{values_of}

-- two masks have a bit in common
abbrev pub shares : ℕ → ℕ → Bool
shares types kinds = not (bit_and types kinds == 0)

-- the whole domain of an attribute, if the instance may have it
abbrev pub new_domain : Bool → Domain → Option Values
new_domain held d = if held then Some (values_of d) else None

-- those of attributes with the ids from one on
abbrev pub new_domains : (ℕ → Bool) → ℕ → List Domain → List (Option Values)
new_domains held id [] = []
new_domains held id (d ∷ ds) = new_domain (held id) d ∷ new_domains held (id + 1) ds

-- the ends of a range are in order, and a list of words has 1 to 64 of them
abbrev pub is_formed : Domain → Bool
is_formed d = has_ends d && has_few_words d
