use Rattle.std.proofs.Common.{◌≡◌, ◌++◌, take}
use Rattle.std.specs.List.{flat_map}
use Rattle.state_space.specs.Descriptions.{attribute_description}
use Rattle.reason_trail.proofs.trail.Trail.describe_attributes.Given as goal

-- what the attributes so far add is appended
abbrev pub invariant-loop-attribute : goal.invariant-loop-attribute
invariant-loop-attribute l = l.into ≡ l.fn.into ++ flat_map (λ x. attribute_description l.self.job.model l.self.state l.i x.id) (take l.attribute-index l.attribute-items)
