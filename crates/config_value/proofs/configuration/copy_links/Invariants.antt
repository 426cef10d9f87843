use Rattle.std.proofs.Common.{◌≡◌, take}
use Rattle.config_value.proofs.configuration.copy_links.Given as goal

abbrev pub invariant-loop-links : goal.invariant-loop-links
invariant-loop-links l = l.copies ≡ take l.links-index l.ports
