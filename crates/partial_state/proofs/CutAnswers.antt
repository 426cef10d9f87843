-- What cuts of values answer, from the least and the greatest value.
use Rattle.std.proofs.Common.{◌≡◌, ◌≢◌, ◌∙◌, ap, sym, Bool, true, false, not, refl, ℤ, arith}
use Rattle.std.specs.Prelude.{IsTrue, int_le, ◌≤ℤ◌, ◌<ℤ◌}
use Rattle.std.specs.Ordering.{int_eq}
use Rattle.std.proofs.lemmas.Bool.{false≢true}
use Rattle.std.proofs.lemmas.Int.{ints}
use Rattle.domain_store.specs.declared.change.Change.{Change}
use Rattle.domain_store.specs.declared.change.Change.TheVariants.{Same, Smaller, Empty}
use Rattle.domain_store.proofs.Narrowing.{both_kept}
use Rattle.state_space.specs.Values.{Values, has_value, are_values, least, greatest, NarrowsValues}
use Rattle.state_space.proofs.ValuesLaws.{least-le, least-in, le-greatest, greatest-in}
use Rattle.partial_state.specs.steps.InForm.{NarrowsInForm}
use Rattle.partial_state.specs.steps.Answered.{AnswersNarrowing}

module _ (test : ℤ → Bool) (d : Values) (formed : IsTrue (are_values d)) where
  all_pass : ((v : ℤ) → IsTrue (has_value d v) → IsTrue (test v)) → AnswersNarrowing test Same d
  all_pass all = record {
    formed = formed;
    empty = (λ e. absurd cc, λ none. absurd (none (least d) (least-in d formed) (all (least d) (least-in d formed))));
    same = (λ _. all, λ _. refl);
  }

  none_pass : ((v : ℤ) → IsTrue (has_value d v) → ¬ IsTrue (test v)) → AnswersNarrowing test Empty d
  none_pass none = record {
    formed = formed;
    empty = (λ _. none, λ _. refl);
    same = (λ e. absurd cc, λ all. absurd (none (least d) (least-in d formed) (all (least d) (least-in d formed))));
  }

  some_pass : (v w : ℤ) → IsTrue (has_value d v) → IsTrue (test v) → IsTrue (has_value d w) → ¬ IsTrue (test w) → AnswersNarrowing test Smaller d
  some_pass v w there passes other fails = record {
    formed = formed;
    empty = (λ e. absurd cc, λ none. absurd (none v there passes));
    same = (λ e. absurd cc, λ all. absurd (fails (all w other)));
  }

module _ (d : Values) (n : ℤ) (formed : IsTrue (are_values d)) where
  pub up_to_all : greatest d ≤ℤ n → AnswersNarrowing (λ v. int_le v n) Same d
  up_to_all h = all_pass (λ v. int_le v n) d formed (λ v there. by v (greatest d) h (le-greatest d v formed there))
    where
      by : (v b : ℤ) → b ≤ℤ n → IsTrue (int_le v b) → IsTrue (int_le v n)
      by v b p q = grind (arith, ints)

  pub up_to_none : n <ℤ least d → AnswersNarrowing (λ v. int_le v n) Empty d
  up_to_none h = none_pass (λ v. int_le v n) d formed (λ v there. by v (least d) h (least-le d v formed there))
    where
      by : (v a : ℤ) → n <ℤ a → IsTrue (int_le a v) → ¬ IsTrue (int_le v n)
      by v a p q passes = grind (arith, ints)

  pub up_to_some : n <ℤ greatest d → least d ≤ℤ n → AnswersNarrowing (λ v. int_le v n) Smaller d
  up_to_some over within =
      some_pass (λ v. int_le v n) d formed (least d) (greatest d) (least-in d formed) (passing (least d) within) (greatest-in d formed) (failing (greatest d) over)
    where
      passing : (v : ℤ) → v ≤ℤ n → IsTrue (int_le v n)
      passing v p = grind (arith, ints)

      failing : (v : ℤ) → n <ℤ v → ¬ IsTrue (int_le v n)
      failing v p passes = grind (arith, ints)

  pub from_all : n ≤ℤ least d → AnswersNarrowing (λ v. int_le n v) Same d
  from_all h = all_pass (λ v. int_le n v) d formed (λ v there. by v (least d) h (least-le d v formed there))
    where
      by : (v a : ℤ) → n ≤ℤ a → IsTrue (int_le a v) → IsTrue (int_le n v)
      by v a p q = grind (arith, ints)

  pub from_none : greatest d <ℤ n → AnswersNarrowing (λ v. int_le n v) Empty d
  from_none h = none_pass (λ v. int_le n v) d formed (λ v there. by v (greatest d) h (le-greatest d v formed there))
    where
      by : (v b : ℤ) → b <ℤ n → IsTrue (int_le v b) → ¬ IsTrue (int_le n v)
      by v b p q passes = grind (arith, ints)

  pub from_some : least d <ℤ n → n ≤ℤ greatest d → AnswersNarrowing (λ v. int_le n v) Smaller d
  from_some under within =
      some_pass (λ v. int_le n v) d formed (greatest d) (least d) (greatest-in d formed) (passing (greatest d) within) (least-in d formed) (failing (least d) under)
    where
      passing : (v : ℤ) → n ≤ℤ v → IsTrue (int_le n v)
      passing v p = grind (arith, ints)

      failing : (v : ℤ) → v <ℤ n → ¬ IsTrue (int_le n v)
      failing v p passes = grind (arith, ints)

  same_number : (v : ℤ) → int_eq v n ≡ true → v ≡ n
  same_number v is = grind (arith, ints)

  itself : ¬ IsTrue (not (int_eq n n))
  itself passes = grind (arith, ints)

  pub without_absent : has_value d n ≡ false → AnswersNarrowing (λ v. not (int_eq v n)) Same d
  without_absent none = all_pass (λ v. not (int_eq v n)) d formed (λ v there. by v there (int_eq v n) refl)
    where
      by : (v : ℤ) → IsTrue (has_value d v) → (b : Bool) → int_eq v n ≡ b → IsTrue (not (int_eq v n))
      by v there false is = ap not is
      by v there true is = absurd (false≢true (sym none ∙ ap (has_value d) (sym (same_number v is)) ∙ there))

  pub without_only : least d ≡ greatest d → IsTrue (has_value d n) → AnswersNarrowing (λ v. not (int_eq v n)) Empty d
  without_only same there = none_pass (λ v. not (int_eq v n)) d formed (λ v is.
      by v (least d) (greatest d) same (least-le d v formed is) (le-greatest d v formed is) (least-le d n formed there) (le-greatest d n formed there))
    where
      by : (v a b : ℤ) → a ≡ b → IsTrue (int_le a v) → IsTrue (int_le v b) → IsTrue (int_le a n) → IsTrue (int_le n b) → ¬ IsTrue (not (int_eq v n))
      by v a b same p q r s other = grind (arith, ints)

  pub without_some : least d ≢ greatest d → IsTrue (has_value d n) → AnswersNarrowing (λ v. not (int_eq v n)) Smaller d
  without_some differ there = by (int_eq (least d) n) (int_eq (greatest d) n) refl refl
    where
      by : (p q : Bool) → int_eq (least d) n ≡ p → int_eq (greatest d) n ≡ q → AnswersNarrowing (λ v. not (int_eq v n)) Smaller d
      by false q first last = some_pass (λ v. not (int_eq v n)) d formed (least d) n (least-in d formed) (ap not first) there itself
      by true false first last = some_pass (λ v. not (int_eq v n)) d formed (greatest d) n (greatest-in d formed) (ap not last) there itself
      by true true first last = absurd (differ (same_number (least d) first ∙ sym (same_number (greatest d) last)))

module _ (test : ℤ → Bool) (d : Values) where
  -- where nothing changes the values are narrowed all the same
  pub unmoved : (result : Change) → AnswersNarrowing test result d → result ≢ Smaller → NarrowsInForm test result d d
  unmoved Smaller answers other = absurd (other refl)
  unmoved Empty answers other = record {
    narrowed = record {
      narrows = record {
        empty = answers.empty;
        same = answers.same;
        unchanged = λ _. refl;
        narrowed = λ some. absurd (some refl);
      };
      fewer = λ e. absurd cc;
    };
    formed = answers.formed;
    form = refl;
  }
  unmoved Same answers other = record {
    narrowed = record {
      narrows = record {
        empty = answers.empty;
        same = answers.same;
        unchanged = λ _. refl;
        narrowed = λ _ v. sym (both_kept (has_value d v) (test v) (answers.same.0 refl v));
      };
      fewer = λ e. absurd cc;
    };
    formed = answers.formed;
    form = refl;
  }

  -- a narrowing does what was answered
  pub as_answered : (result : Change) (after : Values) → AnswersNarrowing test Smaller d → NarrowsValues test result d after → result ≡ Smaller
  as_answered Smaller after answers given = refl
  as_answered Empty after answers given = absurd (let e : Smaller ≡ Empty = answers.empty.1 (given.narrows.empty.0 refl) in cc)
  as_answered Same after answers given = absurd (let e : Smaller ≡ Same = answers.same.1 (given.narrows.same.0 refl) in cc)
