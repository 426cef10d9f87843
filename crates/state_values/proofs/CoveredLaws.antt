-- What is seen of an expression holds in each shaped configuration that the state covers, and the
-- lowest vector is not after its rank.
use Rattle.std.proofs.Common.{◌≡◌, ℕ, suc, ◌<◌, Bool, true, false, cond, List, [], ◌∷◌, refl, ap, ◌∙◌, arith}
use Rattle.std.specs.Prelude.{IsTrue, nat_le}
use Rattle.std.specs.List.{list_all, flat_map}
use Rattle.std.proofs.lemmas.Bool.{and_parts, and_from}
use Rattle.std.proofs.lemmas.Bool.Decides.{nat_tests}
use Rattle.std.proofs.lemmas.List.Concat.{flat_map-cons}
use Rattle.std.proofs.lemmas.List.Folds.{list_all-append}
use Rattle.base_laws.specs.Places.{IsAt}
use Rattle.base_laws.proofs.Tests.{list_all_by}
use Rattle.prod_model.specs.declared.model.Model.{Model}
use Rattle.prod_model.specs.declared.model.Criterion.{Criterion}
use Rattle.prod_model.specs.declared.expr.Expr.{Expr}
use Rattle.prod_model.specs.Forest.{is_a}
use Rattle.config_value.specs.declared.configuration.Instance.{Instance}
use Rattle.config_value.specs.declared.literal.Literal.{Literal}
use Rattle.config_value.specs.Literals.{has_literal}
use Rattle.config_value.specs.Shaped.{is_shaped}
use Rattle.state_space.specs.State.{State, IsState, number_made}
use Rattle.state_space.specs.Covers.{Covers}
use Rattle.state_space.specs.Entails.{entails}
use Rattle.state_space.specs.Described.{entails_all}
use Rattle.state_space.proofs.EntailsLaws.{covered_at, entailed_holds}
use Rattle.state_space.proofs.PortLaws.{all_has}
use Rattle.state_values.specs.Seen.{low_reads, high_reads, truth_reads}
use Rattle.state_values.specs.Lowest.{lowest_reads}
use Rattle.state_values.specs.Laws.{HasAll, IsRead}
use Rattle.state_values.specs.ReadsLaws.{IsReadIn, SeenHoldsCovered, LowestHoldsCovered}
use Rattle.state_values.proofs.ReadsSights.{there, kinds_pass}
use Rattle.state_values.proofs.ReadsEntailed.{reads_are_entailed}
use Rattle.state_values.proofs.LowestLaws.{low_holds, high_holds, truth_holds, falsehood_holds, lowest_holds, criterion_read}

-- entailed literals hold in a covered configuration
all_hold : (m : Model) (s : State) (c : List Instance) → IsState m s → Covers m s c → (ls : List Literal)
    → entails_all m s ls → HasAll m c ls
all_hold m s c state covers ls all =
    list_all_by (entails m s) (has_literal m c) (λ l is. entailed_holds m s l c state is covers) ls all

-- what stands at a made instance of the state stands at one of the configuration
read_of_covered : (m : Model) (s : State) (c : List Instance) (e : Expr) (t i : ℕ) → IsReadIn m s e t i
    → IsTrue (is_shaped m c) → Covers m s c → IsRead m c e t i
read_of_covered m s c e t i is shaped covers =
    let y = there m s is.valid is.state i is.made in
    let x = covered_at m s c is.state covers i y.made y.at in
    record {
      declared = is.valid.declared;
      shaped = shaped;
      bounded = is.bounded;
      instance = x.0;
      there = x.1.there;
      under = all_has (λ k. is_a m k t) y.made.kinds x.0.kind
          (kinds_pass m s is.valid is.state i y (λ k. is_a m k t) is.under) x.1.covered.kind;
    }

pub seen_holds_covered : SeenHoldsCovered
seen_holds_covered m s c e t i is shaped covers =
    let read = read_of_covered m s c e t i is shaped covers in
    let entailed = reads_are_entailed m s e t i is in
    let truths = all_hold m s c is.state covers (truth_reads m s t i e) entailed.truth in
    record {
      least = low_holds m s c e t i read (all_hold m s c is.state covers (low_reads m s t i e) entailed.low);
      greatest = high_holds m s c e t i read (all_hold m s c is.state covers (high_reads m s t i e) entailed.high);
      true_so = truth_holds m s c e t i read truths;
      false_so = falsehood_holds m s c e t i read truths;
    }

-- ---- the lowest vector

-- what passes of each part passes of all together
all_parts : {X Y : Type 0} (test : Y → Bool) (f : X → List Y) (xs : List X)
    → ((k : ℕ) (x : X) → IsAt xs k x → IsTrue (list_all test (f x)))
    → IsTrue (list_all test (flat_map f xs))
all_parts test f [] each = refl
all_parts test f (x ∷ xs) each =
    ap (list_all test) (flat_map-cons f x xs) ∙ list_all-append test (f x) (flat_map f xs)
    ∙ and_from _ _ (each 0 x refl) (all_parts test f xs (λ k. each (suc k)))

pub lowest_holds_covered : LowestHoldsCovered
lowest_holds_covered m o s c valid order state whole shaped covers =
    lowest_holds m o s c valid.declared order shaped
    (all_parts (has_literal m c) (lowest_reads m s) o.criteria (λ k r at. by k r at r.maximise))
  where
    first_made : 0 < number_made s
    first_made =
        let size : nat_le 1 (number_made s) ≡ true = (and_parts (nat_le 1 (number_made s)) (nat_le (number_made s) m.instances) state.size).0 in
        grind (arith, nat_tests)

    stands : (k : ℕ) (r : Criterion) → IsAt o.criteria k r → IsReadIn m s r.value m.root 0
    stands k r at = record {
      valid = valid;
      state = state;
      whole = whole;
      bounded = (criterion_read m o c k r valid.declared order shaped at).bounded;
      made = first_made;
      under = state.root;
    }

    by : (k : ℕ) (r : Criterion) → IsAt o.criteria k r → (b : Bool)
        → IsTrue (list_all (has_literal m c) (cond b (high_reads m s m.root 0 r.value) (low_reads m s m.root 0 r.value)))
    by k r at true = all_hold m s c state covers (high_reads m s m.root 0 r.value) (reads_are_entailed m s r.value m.root 0 (stands k r at)).high
    by k r at false = all_hold m s c state covers (low_reads m s m.root 0 r.value) (reads_are_entailed m s r.value m.root 0 (stands k r at)).low
