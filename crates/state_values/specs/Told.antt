-- Truths without the literals that show them.
use Rattle.state_values.specs.declared.kleene.Kleene.{Kleene}
use Rattle.state_values.specs.declared.kleene.Kleene.TheVariants.{True, False, Open}
use Rattle.state_values.specs.Kleene as shown

-- the truth alone
abbrev pub told : shown.Kleene → Kleene
told (shown.True by) = True
told (shown.False by) = False
told shown.Open = Open
