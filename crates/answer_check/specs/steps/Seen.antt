-- Which instances part links were seen to lead to.
use Rattle.std.specs.Prelude.{◌≡◌, ℕ, ◌<◌, ◌==◌, Bool, nat_le, List, [], ◌++◌, if◌then◌else◌}
use Rattle.std.specs.List.{count_by, flat_map, zip}
use Rattle.instance_set.specs.InstanceSets.{is_member}
use Rattle.prod_model.specs.declared.model.Model.{Model}
use Rattle.prod_model.specs.Taxonomy.{ports_at}
use Rattle.config_value.specs.declared.configuration.Instance.{Instance}
use Rattle.config_value.specs.Shaped.{is_part}
use Rattle.answer_check.specs.declared.parts.Seen.{Seen}

-- how many of the links lead to instance j
abbrev pub into : ℕ → List ℕ → ℕ
into j links = count_by (λ k. k == j) links

-- an instance is in the first set where a link leads to it, and in the second where two do
pub record HasSeen (s : Seen) (links : List ℕ) : Type 0 where
  pub once : (j : ℕ) → j < 256 → is_member s.once j ≡ nat_le 1 (into j links)
  pub twice : (j : ℕ) → j < 256 → is_member s.twice j ≡ nat_le 2 (into j links)

-- after any links that were seen before, these are seen too
abbrev pub SeesMore : Seen → List ℕ → Seen → Type 0
SeesMore old links new = (before : List ℕ) → HasSeen old before → HasSeen new (before ++ links)

-- where the part ports of an instance lead
abbrev pub part_links_of : Model → Instance → List ℕ
part_links_of m x =
    flat_map (λ pair. if is_part pair.0 then pair.1 else []) (zip (ports_at m x.kind) x.links)

-- more part links than one, or than none at instance 0, lead to the instance
abbrev pub is_overfull : Seen → ℕ → Bool
is_overfull s j = if j == 0 then is_member s.once j else is_member s.twice j
