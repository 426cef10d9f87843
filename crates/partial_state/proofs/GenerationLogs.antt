-- The log of a generation, entry by entry.
use Rattle.std.proofs.Common.{◌≡◌, ℕ, zero, suc, ◌+◌, ◌<◌, ◌≤◌, ◌∙◌, ap, sym, refl, List, [], ◌∷◌, ◌++◌, length, take, get_or, append-nil, append_assoc, arith, Result, Ok, Err}
use Rattle.std.specs.Prelude.{OnErr}
use Rattle.std.specs.List.{flat_map, enumerate_from}
use Rattle.std.proofs.Math.Seq.{take-append_seam}
use Rattle.prod_model.specs.declared.model.Model.{Model}
use Rattle.prod_model.specs.Valid.{IsValid}
use Rattle.state_space.specs.State.{State, IsState}
use Rattle.state_space.specs.Undo.{OldValue}
use Rattle.state_space.proofs.FewLaws.{valid_has_few}
use Rattle.partial_state.specs.steps.GenerationLog.{Extends, HaveFewPorts}

-- what holds holds on an error
pub also_on_error : {T E P : Type 0} (r : Result T E) → P → OnErr r P
also_on_error (Ok x) p = tt
also_on_error (Err e) p = p

-- ---- longer logs

pub with_entries : (log longer entries : List OldValue) → longer ≡ log ++ entries → Extends log longer
with_entries log longer entries is = record { entries = entries; appended = is }

pub then_more : (log longer longest : List OldValue) → Extends log longer → Extends longer longest → Extends log longest
then_more log longer longest first second = record {
  entries = first.entries ++ second.entries;
  appended = second.appended ∙ (ap (λ l. l ++ second.entries) first.appended ∙ append_assoc log first.entries second.entries);
}

pub cut_back : (log longer : List OldValue) → Extends log longer → take (length log) longer ≡ log
cut_back log longer more = ap (take (length log)) more.appended ∙ take-append_seam log more.entries

-- ---- entries in turn

module _ {X : Type 0} (f : ℕ × X → List OldValue) where
  one_more_from : (a : ℕ) (xs : List X) (k : ℕ) (x : X) → k < length xs → x ≡ get_or xs k x
      → flat_map f (take (suc k) (enumerate_from a xs)) ≡ flat_map f (take k (enumerate_from a xs)) ++ f (a + k, x)
  one_more_from a [] k x below is = absurd (omega (arith, below))
  one_more_from a (y ∷ ys) zero x below is =
      let here : a ≡ a + 0 = omega arith in
      append-nil (f (a, y)) ∙ (ap (λ z. f (a, z)) (sym is) ∙ ap (λ n. f (n, x)) here)
  one_more_from a (y ∷ ys) (suc k) x below is =
      let next : a + 1 + k ≡ a + suc k = omega arith in
      ap (λ os. f (a, y) ++ os) (one_more_from (a + 1) ys k x (omega (arith, below)) is ∙ ap (λ n. flat_map f (take k (enumerate_from (a + 1) ys)) ++ f (n, x)) next)
      ∙ sym (append_assoc (f (a, y)) (flat_map f (take k (enumerate_from (a + 1) ys))) (f (a + suc k, x)))

  -- the entries of one element more
  pub one_more : (log so_far longer : List OldValue) (xs : List X) (k : ℕ) (x : X) → k < length xs → x ≡ get_or xs k x
      → so_far ≡ log ++ flat_map f (take k (enumerate_from 0 xs)) → longer ≡ so_far ++ f (k, x) → longer ≡ log ++ flat_map f (take (k + 1) (enumerate_from 0 xs))
  one_more log so_far longer xs k x below is before pushed =
      let same : 0 + k ≡ k = omega arith in
      let next : suc k ≡ k + 1 = omega arith in
      let entries = one_more_from 0 xs k x below is ∙ ap (λ n. flat_map f (take k (enumerate_from 0 xs)) ++ f (n, x)) same in
      pushed ∙ (ap (λ l. l ++ f (k, x)) before ∙ (append_assoc log (flat_map f (take k (enumerate_from 0 xs))) (f (k, x))
      ∙ ap (λ os. log ++ os) (sym entries ∙ ap (λ n. flat_map f (take n (enumerate_from 0 xs))) next)))

  all_from : (a : ℕ) (xs : List X) (k : ℕ) → length xs ≤ k → take k (enumerate_from a xs) ≡ enumerate_from a xs
  all_from a [] zero past = refl
  all_from a [] (suc k) past = refl
  all_from a (x ∷ xs) zero past = absurd (omega (arith, past))
  all_from a (x ∷ xs) (suc k) past = ap (λ es. (a, x) ∷ es) (all_from (a + 1) xs k (omega (arith, past)))

  -- those of all
  pub all_entries : (log longer : List OldValue) (xs : List X) (k : ℕ) → length xs ≤ k → longer ≡ log ++ flat_map f (take k (enumerate_from 0 xs))
      → longer ≡ log ++ flat_map f (enumerate_from 0 xs)
  all_entries log longer xs k past is = is ∙ ap (λ es. log ++ flat_map f es) (all_from 0 xs k past)

-- ---- few ports

-- the instances of a state have few ports
pub few_ports : (m : Model) (s : State) → IsValid m → IsState m s → HaveFewPorts s.made
few_ports m s valid state i x there =
    let long = (state.each i x there).each_port in
    let few = (valid_has_few m valid).ports in
    omega (arith, long, few)
