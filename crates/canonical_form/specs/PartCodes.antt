-- The numbers of the parts of an answer text.
use Rattle.std.specs.Prelude.{ℕ}
use Rattle.canonical_form.specs.declared.fault.PartCode.{PartCode}
use Rattle.canonical_form.specs.declared.fault.PartCode.TheVariants.{Header, Number, TypeName, Attribute, Port, LineEnd}

-- in the order of the parts
abbrev pub number_of : PartCode → ℕ
number_of Header = 1
number_of Number = 2
number_of TypeName = 3
number_of Attribute = 4
number_of Port = 5
number_of LineEnd = 6
