-- The texts that are written, but for the answer and the conflict.
use Rattle.std.specs.Prelude.{ℕ, ◌+◌, ◌/◌, ◌%◌, List, [], ◌∷◌, ◌++◌, codes}
use Rattle.file_values.specs.declared.fault.FaultCode.{FaultCode}
use Rattle.file_values.specs.declared.part.Part.{Part}
use Rattle.file_values.specs.Codes.{number_of}
use Rattle.file_values.specs.Places.{place_text}
use Rattle.canonical_form.specs.AnswerText.{line_end}

-- the line for words that are none of the accepted forms
unfoldable pub usage_text : List ℕ
usage_text =
    codes "usage: config_cli configure MODEL ORDER [--workers W]"
    ++ codes " | check MODEL ORDER ANSWER | demo N [--workers W]" ++ line_end

-- the number of a code in two digits
abbrev pub two_digits : ℕ → List ℕ
two_digits code = (48 + code / 10) ∷ (48 + code % 10) ∷ []

-- `F` and two digits
abbrev pub code_text : ℕ → List ℕ
code_text code = codes "F" ++ two_digits code

-- a refused file, with the code and the place of its fault
unfoldable pub refused_text : List ℕ → FaultCode → List Part → List ℕ
refused_text file code place =
    codes "refused " ++ file ++ codes " " ++ code_text (number_of code)
    ++ codes " " ++ place_text place ++ line_end
