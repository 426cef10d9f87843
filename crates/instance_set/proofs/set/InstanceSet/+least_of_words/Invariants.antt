use Rattle.std.proofs.Common.{◌-◌}
use Rattle.instance_set.proofs.set.InstanceSet.+least_of_words.Given as goal

-- one word less is left
abbrev pub decreases-least_of_words : goal.decreases-least_of_words
decreases-least_of_words l = 4 - l.k
