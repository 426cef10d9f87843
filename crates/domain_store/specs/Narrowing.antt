-- What a narrowing does: it leaves exactly the possibilities that pass a test.
use Rattle.std.specs.Prelude.{◌≡◌, ◌≢◌, ◌↔◌, ◌&&◌, Bool, IsTrue}
use Rattle.domain_store.specs.declared.change.Change.{Change}
use Rattle.domain_store.specs.declared.change.Change.TheVariants.{Same, Smaller, Empty}

-- A set is narrowed by a test, and a change is answered. `has` says what a set has.
pub record Narrows {Set A : Type 0} (has : Set → A → Bool) (test : A → Bool) (result : Change)
    (old new : Set) : Type 0 where
  -- it is empty exactly where nothing of it passes, and the same exactly where all of it does
  pub empty : (result ≡ Empty) ↔ ((v : A) → IsTrue (has old v) → ¬ IsTrue (test v))
  pub same : (result ≡ Same) ↔ ((v : A) → IsTrue (has old v) → IsTrue (test v))
  -- then nothing changes; else exactly what passes is left
  pub unchanged : result ≢ Smaller → new ≡ old
  pub narrowed : result ≢ Empty → (v : A) → has new v ≡ (has old v && test v)
