-- Three-valued truths (Kleene 1938). One that isn't open comes with the literals that show it.
use Rattle.std.specs.Prelude.{Bool, true, false, List, [], ◌∷◌, ◌++◌, map}
use Rattle.config_value.specs.declared.literal.Literal.{Literal}

-- true or false, shown by literals, or open
pub data Kleene : Type 0 where
  True : List Literal → Kleene
  False : List Literal → Kleene
  Open : Kleene

-- it is true
abbrev pub is_true : Kleene → Bool
is_true (True by) = true
is_true (False by) = false
is_true Open = false

-- it is false
abbrev pub is_false : Kleene → Bool
is_false (True by) = false
is_false (False by) = true
is_false Open = false

-- the literals that show it; none where it is open
abbrev pub shown_by : Kleene → List Literal
shown_by (True by) = by
shown_by (False by) = by
shown_by Open = []

-- false where it is true, and true where it is false
abbrev pub negated : Kleene → Kleene
negated (True by) = False by
negated (False by) = True by
negated Open = Open

-- true where both are, and false where one is
abbrev pub both : Kleene → Kleene → Kleene
both (False by) _ = False by
both (True by) (False more) = False more
both (True by) (True more) = True (by ++ more)
both (True by) Open = Open
both Open (False more) = False more
both Open (True more) = Open
both Open Open = Open

-- true where one is, and false where both are
abbrev pub either : Kleene → Kleene → Kleene
either o p = negated (both (negated o) (negated p))

-- the first is false or the second true
abbrev pub implied : Kleene → Kleene → Kleene
implied o p = either (negated o) p

-- true where all are, and false where one is
abbrev pub all_of : List Kleene → Kleene
all_of [] = True []
all_of (o ∷ os) = both o (all_of os)

-- true where one is, and false where all are
abbrev pub any_of : List Kleene → Kleene
any_of os = negated (all_of (map negated os))
