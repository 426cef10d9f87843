-- What a narrowing answers, before anything changes.
use Rattle.std.specs.Prelude.{◌≡◌, ◌↔◌, ℤ, Bool, IsTrue}
use Rattle.domain_store.specs.declared.change.Change.{Change}
use Rattle.domain_store.specs.declared.change.Change.TheVariants.{Same, Empty}
use Rattle.state_space.specs.Values.{Values, has_value, are_values}

-- the answer is empty exactly where no value passes, and the same exactly where each does
pub record AnswersNarrowing (test : ℤ → Bool) (result : Change) (values : Values) : Type 0 where
  pub formed : IsTrue (are_values values)
  pub empty : (result ≡ Empty) ↔ ((v : ℤ) → IsTrue (has_value values v) → ¬ IsTrue (test v))
  pub same : (result ≡ Same) ↔ ((v : ℤ) → IsTrue (has_value values v) → IsTrue (test v))
