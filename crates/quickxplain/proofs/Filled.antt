-- The laws of filling that the code's proofs use.
use Rattle.quickxplain.proofs.Ranges.{fill-fill, fill-same}

pub ruleset fillings = (fill-fill, fill-same)
