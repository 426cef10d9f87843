-- Files in memory, found by name.
use Rattle.std.proofs.Common.{◌≡◌, ℕ, List, [], ◌∷◌, arith, refl, string_bytes}
use Rattle.std.proofs.lemmas.Grind.{common_steps}
use Rattle.std.specs.Prelude.{String, Vec, find}
use Rattle.std.specs.Option.{option_map}
use Rattle.std.specs.Str.{bytes_eq}
use Rattle.std.specs.declared.alloc.Global.{Global}
use Rattle.cfg_io.specs.Shelves.{file}
use Rattle.cfg_io.specs.MemoryFiles.{named_bytes}

-- the first file of the name has its bytes
pub file_found : (name : List ℕ) (files : List (String Global × Vec ℕ Global))
    → file name (named_bytes files)
    ≡ option_map (λ f. f.1.items) (find (λ f. bytes_eq (string_bytes f.0) name) files)
file_found name [] = refl
file_found name (f ∷ fs) = grind (arith, common_steps, file_found name fs)
