-- What a shelf's answers mean.
use Rattle.std.specs.Prelude.{◌≡◌, ℕ, ◌<◌, List, [], ◌∷◌, length, if◌then◌else◌, Some, None}
use Rattle.std.specs.declared.option.Option.{Option}
use Rattle.std.specs.Option.{ForSome}
use Rattle.std.specs.Str.{bytes_eq}

-- the bytes of the first file of a name
abbrev pub file : List ℕ → List (List ℕ × List ℕ) → Option (List ℕ)
file name [] = None
file name (f ∷ fs) = if bytes_eq f.0 name then Some f.1 else file name fs

-- there is a file, of more bytes than the limit
pub record IsLonger (limit : ℕ) (found : Option (List ℕ)) : Type 0 where
  pub bytes : List ℕ
  pub is : found ≡ Some bytes
  pub longer : limit < length bytes

-- where the files are told, the first of the name has these bytes
abbrev pub TellsBytes : Option (List (List ℕ × List ℕ)) → List ℕ → List ℕ → Type 0
TellsBytes told name bytes = ForSome told (λ files. file name files ≡ Some bytes)

-- where the files are told, the first of the name has more bytes than the limit
abbrev pub TellsMore : Option (List (List ℕ × List ℕ)) → List ℕ → ℕ → Type 0
TellsMore told name limit = ForSome told (λ files. IsLonger limit (file name files))
