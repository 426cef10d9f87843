-- Lists that are written step by step.
use Rattle.std.specs.Prelude.{◌≡◌, List, length, take}

-- the longer list begins with the other one
abbrev pub Begins : {A : Type 0} → List A → List A → Type 0
Begins xs longer = take (length xs) longer ≡ xs
