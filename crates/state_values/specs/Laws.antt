-- The laws of what numbers and truths can be in a state.
use Rattle.std.specs.Prelude.{◌≢◌, ℕ, ℤ, ◌≤ℤ◌, neg_ℤ, IsTrue, IsFalse, List, is_some, if◌then◌else◌}
use Rattle.std.specs.List.{list_all, flat_map}
use Rattle.std.specs.declared.cmp.Ordering.TheVariants.{Greater}
use Rattle.std.specs.Ordering.{int_cmp}
use Rattle.std.specs.Cmp.Lexicographic.{slice_cmp}
use Rattle.base_laws.specs.Places.{IsAt}
use Rattle.prod_model.specs.declared.model.Model.{Model}
use Rattle.prod_model.specs.declared.model.Order.{Order}
use Rattle.prod_model.specs.declared.model.Criterion.{Criterion}
use Rattle.prod_model.specs.declared.expr.Expr.{Expr}
use Rattle.prod_model.specs.Forest.{is_a}
use Rattle.prod_model.specs.ExprBounds.{bounds_at}
use Rattle.prod_model.specs.Valid.{IsDeclared, IsValidOrder}
use Rattle.config_value.specs.declared.configuration.Instance.{Instance}
use Rattle.config_value.specs.declared.literal.Literal.{Literal}
use Rattle.config_value.specs.Literals.{has_literal}
use Rattle.config_value.specs.Rank.{rank}
use Rattle.config_value.specs.Shaped.{is_shaped}
use Rattle.config_value.specs.Value.{value_at, number_at, is_true_at}
use Rattle.state_space.specs.State.{State}
use Rattle.state_values.specs.Kleene.{is_true, is_false}
use Rattle.state_values.specs.Seen.{seen_at, low, high, truth, low_reads, high_reads, truth_reads}
use Rattle.state_values.specs.Fits.{Fits}
use Rattle.state_values.specs.Lowest.{lowest_value, lowest_reads, lowest_vector}

-- each of the literals holds in the configuration
abbrev pub HasAll : Model → List Instance → List Literal → Type 0
HasAll m c literals = IsTrue (list_all (has_literal m c) literals)

-- The expression is without fault at a type, and stands at an instance under it of a shaped
-- configuration.
pub record IsRead (m : Model) (c : List Instance) (e : Expr) (t i : ℕ) : Type 0 where
  pub declared : IsDeclared m
  pub shaped : IsTrue (is_shaped m c)
  pub bounded : IsTrue (is_some (bounds_at m e t))
  pub instance : Instance
  pub there : IsAt c i instance
  pub under : IsTrue (is_a m instance.kind t)

-- Where the literals hold that the low, the high or the truth has read, the value is so. Nothing is
-- asked of the state, and the configuration need not be covered.
abbrev pub SeenHolds : Type 0
SeenHolds =
    (m : Model) (s : State) (c : List Instance) (e : Expr) (t i : ℕ) → IsRead m c e t i
    → Fits (λ l. IsTrue (has_literal m c l)) (seen_at m s t i e) (value_at m c i e)

-- A number is no less than its low.
abbrev pub LowHolds : Type 0
LowHolds =
    (m : Model) (s : State) (c : List Instance) (e : Expr) (t i : ℕ) → IsRead m c e t i
    → HasAll m c (low_reads m s t i e) → low m s t i e ≤ℤ number_at m c i e

-- A number is no more than its high.
abbrev pub HighHolds : Type 0
HighHolds =
    (m : Model) (s : State) (c : List Instance) (e : Expr) (t i : ℕ) → IsRead m c e t i
    → HasAll m c (high_reads m s t i e) → number_at m c i e ≤ℤ high m s t i e

-- A truth that is true is so.
abbrev pub TruthHolds : Type 0
TruthHolds =
    (m : Model) (s : State) (c : List Instance) (e : Expr) (t i : ℕ) → IsRead m c e t i
    → HasAll m c (truth_reads m s t i e) → IsTrue (is_true (truth m s t i e))
    → IsTrue (is_true_at m c i e)

-- A truth that is false is so.
abbrev pub FalsehoodHolds : Type 0
FalsehoodHolds =
    (m : Model) (s : State) (c : List Instance) (e : Expr) (t i : ℕ) → IsRead m c e t i
    → HasAll m c (truth_reads m s t i e) → IsTrue (is_false (truth m s t i e))
    → IsFalse (is_true_at m c i e)

-- what a criterion adds to the rank: its value at instance 0, negated where it is maximised
abbrev pub rank_value : Model → List Instance → Criterion → ℤ
rank_value m c r =
    let n = number_at m c 0 r.value in if r.maximise then neg_ℤ n else n

-- A criterion's lowest value is no more than what it adds to the rank.
abbrev pub LowestValueHolds : Type 0
LowestValueHolds =
    (m : Model) (o : Order) (s : State) (c : List Instance) (k : ℕ) (r : Criterion)
    → IsDeclared m → IsValidOrder m o → IsTrue (is_shaped m c) → IsAt o.criteria k r
    → HasAll m c (lowest_reads m s r) → lowest_value m s r ≤ℤ rank_value m c r

-- The lowest vector is never after the rank.
abbrev pub LowestHolds : Type 0
LowestHolds =
    (m : Model) (o : Order) (s : State) (c : List Instance) → IsDeclared m → IsValidOrder m o
    → IsTrue (is_shaped m c) → HasAll m c (flat_map (lowest_reads m s) o.criteria)
    → slice_cmp int_cmp (lowest_vector m o s) (rank m o c) ≢ Greater
