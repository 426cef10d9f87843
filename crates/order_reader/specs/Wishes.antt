-- How requests and criteria are stated.
use Rattle.std.specs.Prelude.{ℕ, true, false, [], ◌∷◌}
use Rattle.serde_json.specs.Data.{Data}
use Rattle.prod_model.specs.declared.model.Model.{Model}
use Rattle.file_values.specs.declared.part.Part.TheVariants.{At as at}
use Rattle.file_values.specs.declared.kind.Key.TheVariants as key
use Rattle.file_values.specs.Places.{under}
use Rattle.file_values.specs.Read.{member_of}
use Rattle.file_meaning.specs.Faults.{Stated}
use Rattle.file_meaning.specs.ModelOf.{aim_of}

-- how a request is stated, by its place in the list and its value
abbrev pub stated_request : Model → ℕ × Data → Stated
stated_request m p = record {
  place = under key.Requests ∷ at p.0 ∷ under key.Holds ∷ [];
  value = member_of key.Holds p.1;
  of = m.root;
  truth = true;
}

-- how a criterion is stated
abbrev pub stated_criterion : Model → ℕ × Data → Stated
stated_criterion m p = record {
  place = under key.Criteria ∷ at p.0 ∷ under (aim_of p.1) ∷ [];
  value = member_of (aim_of p.1) p.1;
  of = m.root;
  truth = false;
}
