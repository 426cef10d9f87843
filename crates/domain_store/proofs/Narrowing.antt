-- The three answers of a narrowing.
use Rattle.std.proofs.Common.{◌≡◌, ◌∙◌, sym, ◌&&◌, Bool, true, false, refl}
use Rattle.std.specs.Prelude.{IsTrue}
use Rattle.domain_store.specs.declared.change.Change.{Change}
use Rattle.domain_store.specs.declared.change.Change.TheVariants.{Same, Smaller, Empty}
use Rattle.domain_store.specs.Narrowing.{Narrows}

pub both_kept : (a b : Bool) → (IsTrue a → IsTrue b) → (a && b) ≡ a
both_kept true b passes = passes refl
both_kept false b passes = refl

pub none_kept : (a b : Bool) → (IsTrue a → ¬ IsTrue b) → (a && b) ≡ false
none_kept true true fails = absurd (fails refl refl)
none_kept true false fails = refl
none_kept false b fails = refl

module _ {Set A : Type 0} (has : Set → A → Bool) (test : A → Bool) (old new : Set) where
  -- all of it passes, or nothing of it does
  abbrev pub AllPass : Type 0
  AllPass = (v : A) → IsTrue (has old v) → IsTrue (test v)

  abbrev pub NonePass : Type 0
  NonePass = (v : A) → IsTrue (has old v) → ¬ IsTrue (test v)

  pub empty_narrows : NonePass → (AllPass → ⊥) → Narrows has test Empty old old
  empty_narrows none some = record {
    empty = (λ _. none, λ _. refl);
    same = (λ e. absurd cc, λ all. absurd (some all));
    unchanged = λ _. refl;
    narrowed = λ not_empty. absurd (not_empty refl);
  }

  pub same_narrows : AllPass → (NonePass → ⊥) → Narrows has test Same old old
  same_narrows all some = record {
    empty = (λ e. absurd cc, λ none. absurd (some none));
    same = (λ _. all, λ _. refl);
    unchanged = λ _. refl;
    narrowed = λ _ v. sym (both_kept (has old v) (test v) (all v));
  }

  pub smaller_narrows : (AllPass → ⊥) → (NonePass → ⊥) → ((v : A) → has new v ≡ (has old v && test v)) → Narrows has test Smaller old new
  smaller_narrows some_fail some_pass left = record {
    empty = (λ e. absurd cc, λ none. absurd (some_pass none));
    same = (λ e. absurd cc, λ all. absurd (some_fail all));
    unchanged = λ not_smaller. absurd (not_smaller refl);
    narrowed = λ _. left;
  }

  -- tests that agree on what a set has narrow it alike
  pub alike : (other : A → Bool) (result : Change) → ((v : A) → IsTrue (has old v) → test v ≡ other v)
      → Narrows has test result old new → Narrows has other result old new
  alike other result agree given = record {
    empty = (
      λ e v is passes. (given.empty.0 e) v is (agree v is ∙ passes),
      λ none. given.empty.1 (λ v is passes. none v is (sym (agree v is) ∙ passes)),
    );
    same = (
      λ e v is. sym (agree v is) ∙ given.same.0 e v is,
      λ all. given.same.1 (λ v is. agree v is ∙ all v is),
    );
    unchanged = given.unchanged;
    narrowed = λ not_empty v. given.narrowed not_empty v ∙ agreed (has old v) (test v) (other v) (agree v);
  }
    where
      agreed : (a b c : Bool) → (IsTrue a → b ≡ c) → (a && b) ≡ (a && c)
      agreed true b c same = same refl
      agreed false b c same = refl
