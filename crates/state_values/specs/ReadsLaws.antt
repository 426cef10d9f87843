-- What an expression reads in a state, the state entails; so what is seen of it holds in each
-- configuration that the state covers.
use Rattle.std.specs.Prelude.{◌≢◌, ◌<◌, ◌≤ℤ◌, ℕ, IsTrue, IsFalse, List, is_some}
use Rattle.std.specs.declared.cmp.Ordering.TheVariants.{Greater}
use Rattle.std.specs.Ordering.{int_cmp}
use Rattle.std.specs.Cmp.Lexicographic.{slice_cmp}
use Rattle.prod_model.specs.declared.model.Model.{Model}
use Rattle.prod_model.specs.declared.model.Order.{Order}
use Rattle.prod_model.specs.declared.expr.Expr.{Expr}
use Rattle.prod_model.specs.ExprBounds.{bounds_at}
use Rattle.prod_model.specs.Valid.{IsValid, IsValidOrder}
use Rattle.config_value.specs.declared.configuration.Instance.{Instance}
use Rattle.config_value.specs.Rank.{rank}
use Rattle.config_value.specs.Shaped.{is_shaped}
use Rattle.config_value.specs.Value.{number_at, is_true_at}
use Rattle.state_space.specs.State.{State, IsState, number_made}
use Rattle.state_space.specs.Covers.{Covers}
use Rattle.state_space.specs.Described.{entails_all}
use Rattle.state_values.specs.Kleene.{is_true, is_false}
use Rattle.state_values.specs.Sights.{is_surely_under}
use Rattle.state_values.specs.Seen.{low, high, truth, low_reads, high_reads, truth_reads}
use Rattle.state_values.specs.Lowest.{lowest_vector}
use Rattle.state_values.specs.WholeDomains.{AreDomainsWhole}

-- The expression is without fault at a type, and stands at a made instance of a state all of whose
-- possible types are under it.
pub record IsReadIn (m : Model) (s : State) (e : Expr) (t i : ℕ) : Type 0 where
  pub valid : IsValid m
  pub state : IsState m s
  pub whole : AreDomainsWhole m s
  pub bounded : IsTrue (is_some (bounds_at m e t))
  pub made : i < number_made s
  pub under : IsTrue (is_surely_under m s t i)

-- what the low, the high and the truth have read is entailed
pub record AreReadsEntailed (m : Model) (s : State) (e : Expr) (t i : ℕ) : Type 0 where
  pub low : entails_all m s (low_reads m s t i e)
  pub high : entails_all m s (high_reads m s t i e)
  pub truth : entails_all m s (truth_reads m s t i e)

-- So it is wherever the expression may stand.
abbrev pub ReadsAreEntailed : Type 0
ReadsAreEntailed =
    (m : Model) (s : State) (e : Expr) (t i : ℕ) → IsReadIn m s e t i → AreReadsEntailed m s e t i

-- what is seen holds in the configuration
pub record IsSeenRightly (m : Model) (s : State) (c : List Instance) (e : Expr) (t i : ℕ) : Type 0
  where
    pub least : low m s t i e ≤ℤ number_at m c i e
    pub greatest : number_at m c i e ≤ℤ high m s t i e
    pub true_so : IsTrue (is_true (truth m s t i e)) → IsTrue (is_true_at m c i e)
    pub false_so : IsTrue (is_false (truth m s t i e)) → IsFalse (is_true_at m c i e)

-- So it is in each shaped configuration that the state covers.
abbrev pub SeenHoldsCovered : Type 0
SeenHoldsCovered =
    (m : Model) (s : State) (c : List Instance) (e : Expr) (t i : ℕ) → IsReadIn m s e t i
    → IsTrue (is_shaped m c) → Covers m s c → IsSeenRightly m s c e t i

-- The lowest vector is not after the rank of any of them.
abbrev pub LowestHoldsCovered : Type 0
LowestHoldsCovered =
    (m : Model) (o : Order) (s : State) (c : List Instance) → IsValid m → IsValidOrder m o
    → IsState m s → AreDomainsWhole m s → IsTrue (is_shaped m c) → Covers m s c
    → slice_cmp int_cmp (lowest_vector m o s) (rank m o c) ≢ Greater
