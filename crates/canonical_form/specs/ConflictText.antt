-- The text of a conflict: how many requests it has, and a line for each.
use Rattle.std.specs.Prelude.{ℕ, ◌+◌, List, ◌++◌, length, slice_get, codes}
use Rattle.std.specs.Option.{option_map_or}
use Rattle.std.specs.Fmt.{decimal}
use Rattle.std.specs.List.{flat_map}
use Rattle.prod_model.specs.declared.model.Order.{Order}
use Rattle.canonical_form.specs.AnswerText.{line_end}

-- the name of the request at a place
abbrev pub request_name : Order → ℕ → List ℕ
request_name o k = option_map_or (λ r. r.name) (slice_get o.requests k) (codes "")

-- the line of a request, `NUMBER NAME`: requests are counted from 1
abbrev pub request_text : Order → ℕ → List ℕ
request_text o k = decimal (k + 1) ++ codes " " ++ request_name o k ++ line_end

-- `conflict K`, and one line for each of the K requests, which are given by their places from 0
unfoldable pub conflict_text : Order → List ℕ → List ℕ
conflict_text o members =
    codes "conflict " ++ decimal (length members) ++ line_end ++ flat_map (request_text o) members
