use Rattle.std.proofs.Common.{length}
use Rattle.prod_model.specs.Forest.{line}
use Rattle.prod_model.proofs.model.Tables.+first_words.Given as goal

-- the parent's line is shorter
abbrev pub decreases-first_words : goal.decreases-first_words
decreases-first_words l = length (line l.model.now.types l.t)
