-- Logged narrowings of possible types, and the state that their log brings back.
use Rattle.std.proofs.Common.{◌≡◌, ◌≢◌, ℕ, ◌<◌, ◌∙◌, ap, sym, Bool, refl, List, [], ◌∷◌, length, ◌++◌, append-nil}
use Rattle.std.specs.Prelude.{IsTrue}
use Rattle.std.specs.Option.{option_map, option_map_or}
use Rattle.std.proofs.lemmas.Option.{slice_get-get_or}
use Rattle.prod_model.specs.Limits.{most_types}
use Rattle.domain_store.specs.declared.change.Change.{Change}
use Rattle.domain_store.specs.declared.change.Change.TheVariants.{Smaller}
use Rattle.state_space.specs.Made.{MadeInstance}
use Rattle.state_space.specs.Sets.{has_number, is_set_below, Reduces}
use Rattle.state_space.specs.State.{State, kinds_at, with_kinds}
use Rattle.state_space.specs.Undo.{OldValue, Kinds}
use Rattle.state_space.proofs.Changed.{slice_get-changed_at_same, changed_at-same}
use Rattle.state_space.proofs.UndoLaws.{kinds_back}
use Rattle.partial_state.specs.steps.Logged.{ChangesKinds}

module _ (s : State) (i : ℕ) where
  -- an instance that is made has the types that it is given
  kinds_given : (kinds : List ℕ) → i < length s.made → kinds_at (with_kinds i kinds s) i ≡ kinds
  kinds_given kinds below =
      let nothing : MadeInstance = record { kinds = []; domains = []; ports = [] } in
      let give : MadeInstance → MadeInstance = λ x. record x { kinds = kinds } in
      ap (λ o. option_map_or (λ x. x.kinds) o [])
      (slice_get-changed_at_same i give s.made ∙ ap (option_map give) (slice_get-get_or s.made i nothing below))

  -- the same types change nothing
  same_kinds : with_kinds i (kinds_at s i) s ≡ s
  same_kinds =
      ap (λ m. record s { made = m })
      (changed_at-same i (λ x. record x { kinds = kinds_at s i }) s.made
      (λ x at. ap (λ ks. record x { kinds = ks }) (ap (λ o. option_map_or (λ x. x.kinds) o []) at)))

  pub kinds_logged : (test : ℕ → Bool) (next : List ℕ) (new : State) (log longer : List OldValue) → i < length s.made
      → Reduces has_number length test Smaller (kinds_at s i) next → IsTrue (is_set_below most_types next)
      → new ≡ with_kinds i next s → longer ≡ log ++ Kinds i (kinds_at s i) ∷ [] → ChangesKinds i test Smaller s new log longer
  kinds_logged test next new log longer below given formed becomes pushed =
      let is : kinds_at new i ≡ next = ap (λ n. kinds_at n i) becomes ∙ kinds_given next below in record {
        narrows = record {
          narrowed = rw is given;
          formed = rw is formed;
          others = rw is becomes;
        };
        logs = record {
          entries = Kinds i (kinds_at s i) ∷ [];
          appended = pushed;
          back = ap (with_kinds i (kinds_at s i)) becomes ∙ kinds_back i next s;
        };
        same = λ other. absurd (other refl);
      }

  pub kinds_kept : (test : ℕ → Bool) (result : Change) (next : List ℕ) (log : List OldValue) → Reduces has_number length test result (kinds_at s i) next
      → IsTrue (is_set_below most_types next) → result ≢ Smaller → ChangesKinds i test result s s log log
  kinds_kept test result next log given formed other =
      let kept : next ≡ kinds_at s i = given.narrows.unchanged other in record {
        narrows = record {
          narrowed = rw kept at given;
          formed = rw kept at formed;
          others = sym same_kinds;
        };
        logs = record { entries = []; appended = sym (append-nil log); back = refl };
        same = λ _. refl;
      }
