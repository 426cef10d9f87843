-- Parts of a state of which no branch is left.
use Rattle.std.specs.Prelude.{◌≡◌, ◌⊎◌, ℕ, ◌+◌, ◌<◌, ◌≤◌, ℤ, pos, ◌+ℤ◌, int_le, int_lt, Bool, false, ◌&&◌, nat_le, IsTrue, [], ◌∷◌, Some}
use Rattle.std.specs.Option.{option_map_or}
use Rattle.std.specs.List.{list_all}
use Rattle.prod_model.specs.declared.model.Model.{Model}
use Rattle.prod_model.specs.Taxonomy.{attributes_at, ports_at}
use Rattle.config_value.specs.declared.literal.Literal.TheVariants.{AtMost, AtLeast, Linked, NotLinked, FreshAtMost, FreshAtLeast}
use Rattle.state_space.specs.Values.{Values, least, greatest}
use Rattle.state_space.specs.Ports.{PortState}
use Rattle.state_space.specs.Sets.{has_number}
use Rattle.state_space.specs.State.{State, number_made, kinds_at, domain_at, port_at}
use Rattle.state_space.specs.Whole.{has_one_value}
use Rattle.branch_cut.specs.declared.branch.Branch.{Branch}

-- an attribute of instance i has one value
abbrev pub has_one_at : State → ℕ → ℕ → Bool
has_one_at s i a = option_map_or has_one_value (domain_at s i a) false

-- each possible link is required, and the bounds of later ones are equal
abbrev pub is_decided : PortState → Bool
is_decided q = list_all (has_number q.required) q.possible && nat_le q.fresh_high q.fresh_low

-- a port of instance i is decided
abbrev pub is_decided_at : State → ℕ → ℕ → Bool
is_decided_at s i p = option_map_or is_decided (port_at s i p) false

-- Instance i is of one type, with one value for each attribute of the type, and each of its ports
-- is decided.
pub record IsFixed (m : Model) (s : State) (i : ℕ) : Type 0 where
  pub kind : ℕ
  pub sole : kinds_at s i ≡ kind ∷ []
  pub values : IsTrue (list_all (λ a. has_one_at s i a.id) (attributes_at m kind))
  pub ports : IsTrue (list_all (λ p. is_decided_at s i p.id) (ports_at m kind))

-- The branch is on a value of the attribute that is not its greatest one.
pub record SplitsValues (s : State) (i a : ℕ) (b : Branch) : Type 0 where
  pub domain : Values
  pub there : domain_at s i a ≡ Some domain
  pub value : ℤ
  pub low : IsTrue (int_le (least domain) value)
  pub high : IsTrue (int_lt value (greatest domain))
  pub splits : b ≡ record { first = AtMost i a value; second = AtLeast i a (value +ℤ pos 1) }

-- The branch is on a possible link of the port that is not required.
pub record SplitsLinks (s : State) (i p : ℕ) (b : Branch) : Type 0 where
  pub port : PortState
  pub there : port_at s i p ≡ Some port
  pub to : ℕ
  pub possible : IsTrue (has_number port.possible to)
  pub not_required : has_number port.required to ≡ false
  pub splits : b ≡ record { first = Linked i p to; second = NotLinked i p to }

-- The branch is on a number of later links between the bounds of the port.
pub record SplitsLater (s : State) (i p : ℕ) (b : Branch) : Type 0 where
  pub port : PortState
  pub there : port_at s i p ≡ Some port
  pub count : ℕ
  pub low : port.fresh_low ≤ count
  pub high : count < port.fresh_high
  pub splits : b ≡ record {
    first = FreshAtLeast i p (number_made s) (count + 1);
    second = FreshAtMost i p (number_made s) count;
  }

-- the branch is on what the port may link
abbrev pub SplitsPort : State → ℕ → ℕ → Branch → Type 0
SplitsPort s i p b = SplitsLinks s i p b ⊎ SplitsLater s i p b
