use Rattle.std.proofs.Common.{◌-◌}
use Rattle.prod_model.specs.Limits.{most_instances}
use Rattle.canonical_form.proofs.reading.links.+put_links.Given as goal

-- the numbers that are left for a link
abbrev pub decreases-put_links : goal.decreases-put_links
decreases-put_links l = most_instances - l.low
