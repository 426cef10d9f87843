-- The order on configurations: by their criteria, and then by their keys.
use Rattle.std.specs.Prelude.{ℤ, ℕ, pos, neg_ℤ, Bool, IsTrue, List, ◌∷◌, ◌++◌, map, length, if◌then◌else◌}
use Rattle.std.specs.List.{flat_map}
use Rattle.std.specs.declared.cmp.Ordering.{Ordering}
use Rattle.std.specs.Ordering.{int_cmp, ordering_then, is_lt}
use Rattle.std.specs.Cmp.Lexicographic.{slice_cmp}
use Rattle.prod_model.specs.declared.model.Model.{Model}
use Rattle.prod_model.specs.declared.model.Order.{Order}
use Rattle.config_value.specs.declared.configuration.Instance.{Instance}
use Rattle.config_value.specs.Value.{number_at}

-- the number of links, and the links
abbrev pub port_key : List ℕ → List ℤ
port_key links = pos (length links) ∷ map pos links

-- the type's number, the values in order, and then for each port its part
abbrev pub instance_key : Instance → List ℤ
instance_key x = pos x.kind ∷ (x.values ++ flat_map port_key x.links)

-- what the instances have, in order
unfoldable pub key : List Instance → List ℤ
key c = flat_map instance_key c

-- keys are compared number by number, and a proper prefix comes first
abbrev pub key_order : List Instance → List Instance → Ordering
key_order c d = slice_cmp int_cmp (key c) (key d)

-- the value of each criterion at instance 0, in order, and negated where it is maximised
unfoldable pub rank : Model → Order → List Instance → List ℤ
rank m o c =
    map (λ r. let n = number_at m c 0 r.value in if r.maximise then neg_ℤ n else n) o.criteria

-- the first criterion that tells the two apart decides, and else their keys
unfoldable pub rank_order : Model → Order → List Instance → List Instance → Ordering
rank_order m o c d = ordering_then (slice_cmp int_cmp (rank m o c) (rank m o d)) (key_order c d)

-- the first is less by its criteria and then by its key
abbrev pub ranks_before : Model → Order → List Instance → List Instance → Bool
ranks_before m o c d = is_lt (rank_order m o c d)

-- the same, as a fact
abbrev pub RanksBefore : Model → Order → List Instance → List Instance → Type 0
RanksBefore m o c d = IsTrue (ranks_before m o c d)
