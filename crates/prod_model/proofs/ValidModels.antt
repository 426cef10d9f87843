-- What the masks of a valid model need to know of it.
use Rattle.std.proofs.Common.{◌≡◌, ℕ, ◌≤◌, List, [], ◌∷◌, length, Bool, true, nat_lt, arith}
use Rattle.std.specs.Prelude.{IsTrue, ◌&&◌}
use Rattle.std.specs.List.{list_all}
use Rattle.std.specs.Option.{option_map_or}
use Rattle.std.proofs.lemmas.Option.{slice_get_past}
use Rattle.std.proofs.lemmas.Bool.Decides.{nat_tests}
use Rattle.prod_model.specs.declared.model.Model.{Model}
use Rattle.prod_model.specs.declared.model.TypeDecl.{TypeDecl}
use Rattle.prod_model.specs.Forest.{line}
use Rattle.prod_model.specs.steps.TypeMasks.{has_small_parents}
use Rattle.prod_model.specs.Valid.{IsValid, has_short_lists, has_known_parents_and_targets}

-- a valid model has at most 128 types
pub few_types : (m : Model) → IsValid m → length m.types ≤ 128
unfolding has_short_lists
few_types m valid = let short : IsTrue (has_short_lists m) = valid.declared.formed.short_lists in grind (arith, nat_tests)

-- what is no type has no line
pub line_outside : (types : List TypeDecl) (t : ℕ) → length types ≤ t → line types t ≡ []
line_outside types t outside = rw (slice_get_past types t outside)

-- a parent is one of 128 types
parents_within : (n : ℕ) (types : List TypeDecl) (targets : TypeDecl → Bool) → n ≤ 128
    → IsTrue (list_all (λ d. option_map_or (λ p. nat_lt p n) d.parent true && targets d) types)
    → IsTrue (has_small_parents types)
parents_within n [] targets few known = known
parents_within n (d ∷ types) targets few known = grind (arith, nat_tests, parents_within n types targets few)

pub known_parents : (m : Model) → IsValid m → IsTrue (has_small_parents m.types)
unfolding has_known_parents_and_targets
known_parents m valid = parents_within (length m.types) m.types _ (few_types m valid) valid.declared.taxonomy.known_parents
