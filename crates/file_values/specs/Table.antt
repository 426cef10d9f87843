-- The table of kinds: what members an object has, and of what kind the members of a list are.
use Rattle.std.specs.Prelude.{List, [], ◌∷◌, Option, Some, None}
use Rattle.file_values.specs.declared.format.Format.{Format}
use Rattle.file_values.specs.declared.format.Format.TheVariants.{First, Second}
use Rattle.file_values.specs.declared.kind.Key.{Key}
use Rattle.file_values.specs.declared.kind.Key.TheVariants as key
use Rattle.file_values.specs.declared.kind.Kind.{Kind}
use Rattle.file_values.specs.declared.kind.Kind.TheVariants.{Model, Order, Types, TypeDecl, Attributes, Attribute, Ports, Port, Bounds, Bound, Rules, Rule, Requests, Request, Criteria, Criterion, Words, Range, Links, End, Count, Instances, ModelFormat, OrderFormat, PortKind, Name, TypeName, InverseName, Word, Expression}
use Rattle.file_values.specs.declared.kind.Need.TheVariants.{Must, May, Either}
use Rattle.file_values.specs.declared.kind.Member.{Member}

-- a member that stands, one that may lack, and one of two that exclude each other
abbrev pub must : Key → Kind → Member
must k kind = record { key = k; need = Must; kind = kind }

-- a member that may lack
abbrev pub may : Key → Kind → Member
may k kind = record { key = k; need = May; kind = kind }

-- one of two members that exclude each other
abbrev pub either : Key → Kind → Member
either k kind = record { key = k; need = Either; kind = kind }

-- a port of the second format may name its inverse
abbrev pub inverse_in : Format → List Member
inverse_in First = []
inverse_in Second = may key.Inverse InverseName ∷ []

-- The members of an object, in the order of the keys. Other kinds have none.
unfoldable pub members_of : Format → Kind → List Member
members_of format Model =
    must key.Format ModelFormat ∷ must key.Root TypeName ∷ must key.Instances Instances
    ∷ must key.Types Types ∷ may key.Bounds Bounds ∷ may key.Rules Rules ∷ []
members_of format TypeDecl =
    must key.Name Name ∷ may key.Parent TypeName ∷ may key.Attributes Attributes
    ∷ may key.Ports Ports ∷ []
members_of format Attribute =
    must key.Name Name ∷ either key.Range Range ∷ either key.Words Words ∷ []
members_of format Port =
    must key.Name Name ∷ must key.Kind PortKind ∷ must key.Target TypeName ∷ must key.Links Links
    ∷ inverse_in format
members_of format Bound = must key.OfType TypeName ∷ must key.Count Links ∷ []
members_of format Rule =
    must key.Name Name ∷ must key.OfType TypeName ∷ must key.Holds Expression ∷ []
members_of format Order =
    must key.Format OrderFormat ∷ may key.Requests Requests ∷ may key.Criteria Criteria ∷ []
members_of format Request = must key.Name Name ∷ must key.Holds Expression ∷ []
members_of format Criterion =
    must key.Name Name ∷ either key.Minimise Expression ∷ either key.Maximise Expression ∷ []
members_of format kind = []

-- of what kind the members of a list or pair are
unfoldable pub item_of : Kind → Option Kind
item_of Types = Some TypeDecl
item_of Attributes = Some Attribute
item_of Ports = Some Port
item_of Words = Some Word
item_of Range = Some End
item_of Links = Some Count
item_of Bounds = Some Bound
item_of Rules = Some Rule
item_of Requests = Some Request
item_of Criteria = Some Criterion
item_of kind = None
