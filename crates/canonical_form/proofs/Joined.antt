-- Numbers with commas between them, from the front.
use Rattle.std.proofs.Common.{◌≡◌, ℕ, List, [], ◌∷◌, ◌++◌, sym, ap, append-nil}
use Rattle.std.specs.Fmt.{decimal}
use Rattle.std.specs.List.{flat_map}
use Rattle.canonical_form.specs.steps.Pieces.{numbers_piece}

-- a comma and the number, for each
abbrev pub after_commas : List ℕ → List ℕ
after_commas ns = flat_map (λ n. 44 ∷ decimal n) ns

pub numbers_piece_cons : (n : ℕ) (ns : List ℕ) → numbers_piece (n ∷ ns) ≡ decimal n ++ after_commas ns
numbers_piece_cons n [] = sym (append-nil (decimal n))
numbers_piece_cons n (k ∷ ns) = ap (λ rest. decimal n ++ (44 ∷ rest)) (numbers_piece_cons k ns)
