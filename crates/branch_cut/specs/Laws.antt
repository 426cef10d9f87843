-- The laws of choices between two literals.
use Rattle.std.specs.Prelude.{◌≡◌, ◌≢◌, ℕ, ◌+◌, ◌<◌, ◌≤◌, ℤ, pos, ◌+ℤ◌, int_le, int_lt, false, IsTrue, List, Some}
use Rattle.prod_model.specs.declared.model.Model.{Model}
use Rattle.prod_model.specs.Valid.{IsValid}
use Rattle.config_value.specs.declared.configuration.Instance.{Instance}
use Rattle.config_value.specs.declared.literal.Literal.TheVariants.{Made, Kind, NotKind, AtMost, AtLeast, Linked, NotLinked, FreshAtMost, FreshAtLeast}
use Rattle.config_value.specs.Satisfies.{satisfies}
use Rattle.state_space.specs.Values.{Values, least, greatest}
use Rattle.state_space.specs.Ports.{PortState}
use Rattle.state_space.specs.Sets.{has_number}
use Rattle.state_space.specs.State.{State, IsState, number_made, kinds_at, domain_at, port_at}
use Rattle.state_space.specs.Covers.{Covers}
use Rattle.state_space.specs.Entails.{all_have_attribute, all_have_port}
use Rattle.state_space.specs.Generation.{PortOf, first_open, owes_instance}
use Rattle.branch_cut.specs.Branching.{is_stuck_in, IsBranch}

-- Where an instance may be of two types, it is of the first one or it is not.
abbrev pub KindsBranch : Type 0
KindsBranch =
    (m : Model) (s : State) (i t u : ℕ) → IsState m s → IsTrue (has_number (kinds_at s i) t)
    → IsTrue (has_number (kinds_at s i) u) → t ≢ u
    → IsBranch m s (record { first = Kind i t; second = NotKind i t })

-- Where an attribute that the instance has may have several values, its value is up to one of them
-- that is not the greatest, or above it.
abbrev pub ValuesBranch : Type 0
ValuesBranch =
    (m : Model) (s : State) (i a : ℕ) (d : Values) (v : ℤ) → IsState m s
    → IsTrue (all_have_attribute m s i a) → domain_at s i a ≡ Some d
    → IsTrue (int_le (least d) v) → IsTrue (int_lt v (greatest d))
    → IsBranch m s (record { first = AtMost i a v; second = AtLeast i a (v +ℤ pos 1) })

-- A possible link that is not required is there or not.
abbrev pub LinksBranch : Type 0
LinksBranch =
    (m : Model) (s : State) (i p j : ℕ) (q : PortState) → IsState m s
    → IsTrue (all_have_port m s i p) → port_at s i p ≡ Some q
    → IsTrue (has_number q.possible j) → has_number q.required j ≡ false
    → IsBranch m s (record { first = Linked i p j; second = NotLinked i p j })

-- Of the links to later instances there are more than a number between the bounds, or not.
abbrev pub LaterBranch : Type 0
LaterBranch =
    (m : Model) (s : State) (i p n : ℕ) (q : PortState) → IsState m s
    → IsTrue (all_have_port m s i p) → port_at s i p ≡ Some q
    → q.fresh_low ≤ n → n < q.fresh_high
    → IsBranch m s (record {
      first = FreshAtLeast i p (number_made s) (n + 1);
      second = FreshAtMost i p (number_made s) n;
    })

-- Where an instance has to be made and one is left, the next one is made, or the first open port
-- links no later one. The first of the two holds in every covered configuration that satisfies the
-- model.
abbrev pub OwedBranch : Type 0
OwedBranch =
    (m : Model) (s : State) (at : PortOf) → IsValid m → IsState m s
    → IsTrue (owes_instance m s) → is_stuck_in m s ≡ false → first_open m s ≡ Some at
    → IsBranch m s (record {
      first = Made (number_made s);
      second = FreshAtMost at.instance at.port (number_made s) 0;
    })

-- No covered configuration of a stuck state satisfies the model.
abbrev pub StuckCoversNone : Type 0
StuckCoversNone =
    (m : Model) (s : State) (c : List Instance) → IsState m s → IsValid m
    → IsTrue (is_stuck_in m s) → Covers m s c → satisfies m c ≡ false
