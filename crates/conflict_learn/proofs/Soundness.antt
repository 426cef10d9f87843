-- Which nogoods are sound, and stay so with fewer literals.
use Rattle.std.proofs.Common.{◌≡◌, ◌≤◌, ℕ, Bool, true, false, not, cond, ◌&&◌, List, [], ◌∷◌, length, refl, sym, subst, ◌∙◌, None, arith}
use Rattle.std.specs.Prelude.{IsTrue, IsFalse}
use Rattle.std.specs.List.{list_all, filter}
use Rattle.std.proofs.lemmas.Bool.{and_parts, and_from, false≢true}
use Rattle.std.proofs.lemmas.List.Sums.{length-filter, count_by-le-length}
use Rattle.base_laws.specs.Places.{IsAt}
use Rattle.base_laws.proofs.Places.{filter_at}
use Rattle.base_laws.proofs.Tests.{list_all_at, list_all_from}
use Rattle.prod_model.specs.declared.model.Model.{Model}
use Rattle.prod_model.specs.declared.model.Order.{Order}
use Rattle.prod_model.specs.Valid.{IsValid}
use Rattle.config_value.specs.declared.configuration.Instance.{Instance}
use Rattle.config_value.specs.declared.literal.Literal.{Literal}
use Rattle.config_value.specs.Satisfies.{satisfies}
use Rattle.config_value.specs.Literals.{has_literal}
use Rattle.literal_book.specs.declared.nogood.Nogood.{Nogood}
use Rattle.literal_book.specs.Nogoods.{meets_asked, has_literals, excludes, IsSound}
use Rattle.state_space.specs.Entails.{entails}
use Rattle.state_space.specs.Root.{root}
use Rattle.state_space.specs.Described.{entails_all}
use Rattle.state_space.proofs.EntailsLaws.{entailed_holds}
use Rattle.state_space.proofs.NewState.{root_is_state}
use Rattle.state_space.proofs.RootLaws.{root_covers}
use Rattle.reason_trail.specs.declared.reason.Reason.{Reason}
use Rattle.reason_trail.specs.Jobs.{Task}
use Rattle.reason_trail.specs.Reasons.{SupportsFailure}
use Rattle.reason_trail.specs.Trails.{Trace, IsTrail}
use Rattle.reason_trail.specs.Assumptions.{assumed}
use Rattle.reason_trail.proofs.AssumedLaws.{assumed_is_nogood}
use Rattle.conflict_learn.specs.declared.assumptions.Assumptions.{Assumptions}
use Rattle.conflict_learn.specs.Learning.{IsTaught}
use Rattle.conflict_learn.specs.steps.Assuming.{AreAssumed}
use Rattle.conflict_learn.specs.steps.Shortened.{holds_always}
use Rattle.conflict_learn.specs.steps.Choosing.{IsTelling, IsToldBy, IsChosen, IsParted}

-- ---- a reason

-- a nogood is sound where no configuration that satisfies the model and meets its requests has its literals
sound_from : (m : Model) (o : Order) (requests : ℕ) (ls : List Literal)
    → ((c : List Instance) → IsTrue (satisfies m c) → IsTrue (meets_asked m o requests c) → ¬ IsTrue (has_literals m c ls))
    → IsSound m o (record { requests = requests; literals = ls })
unfolding excludes
sound_from m o requests ls none c satisfied = by (meets_asked m o requests c && has_literals m c ls) refl
  where
    by : (b : Bool) → (meets_asked m o requests c && has_literals m c ls) ≡ b → b ≡ false
    by false is = refl
    by true is = let both = and_parts (meets_asked m o requests c) (has_literals m c ls) is in absurd (none c satisfied both.0 both.1)

-- of a sound nogood there is no such configuration
none_has : (m : Model) (o : Order) (requests : ℕ) (ls : List Literal) → IsSound m o (record { requests = requests; literals = ls })
    → (c : List Instance) → IsTrue (satisfies m c) → IsTrue (meets_asked m o requests c) → ¬ IsTrue (has_literals m c ls)
unfolding excludes
none_has m o requests ls sound c satisfied met has =
    absurd (false≢true (sym (sound c satisfied) ∙ and_from (meets_asked m o requests c) (has_literals m c ls) met has))

-- the reason of a failure makes a sound nogood, where it does not name the cut
pub reason_is_sound : (j : Task) (r : Reason) → IsFalse r.cut → SupportsFailure j None r
    → IsSound j.model j.order (record { requests = r.requests; literals = r.literals })
reason_is_sound j r uncut supports = sound_from j.model j.order r.requests r.literals (λ c satisfied met has.
    supports c (record { satisfied = satisfied; met = met; passed = λ named. absurd (false≢true (sym uncut ∙ named)) }) has)

-- ---- fewer literals

-- a nogood stays sound with fewer literals, from which the others follow where the model is satisfied
fewer_is_sound : (m : Model) (o : Order) (requests : ℕ) (given left : List Literal)
    → ((c : List Instance) → IsTrue (satisfies m c) → IsTrue (has_literals m c left) → IsTrue (has_literals m c given))
    → IsSound m o (record { requests = requests; literals = given }) → IsSound m o (record { requests = requests; literals = left })
fewer_is_sound m o requests given left follows sound =
    sound_from m o requests left (λ c satisfied met has. none_has m o requests given sound c satisfied met (follows c satisfied has))

-- what passes for those that are left, and for each that is not, passes for all
all_by_filter : {A : Type 0} (p q : A → Bool) → ((x : A) → p x ≡ false → IsTrue (q x)) → (xs : List A)
    → IsTrue (list_all q (filter p xs)) → IsTrue (list_all q xs)
all_by_filter p q dropped [] left = refl
all_by_filter {A} p q dropped (x ∷ xs) left = by (p x) refl left (all_by_filter p q dropped xs)
  where
    by : (b : Bool) → p x ≡ b → IsTrue (list_all q (cond b (x ∷ filter p xs) (filter p xs)))
        → (IsTrue (list_all q (filter p xs)) → IsTrue (list_all q xs)) → IsTrue (list_all q (x ∷ xs))
    by true is left rest = let both = and_parts (q x) (list_all q (filter p xs)) left in and_from (q x) (list_all q xs) both.0 (rest both.1)
    by false is left rest = and_from (q x) (list_all q xs) (dropped x is) (rest left)

not_false : (b : Bool) → not b ≡ false → b ≡ true
not_false true is = refl
not_false false is = absurd (false≢true (sym is))

not_true : (b : Bool) → not b ≡ true → b ≡ false
not_true true is = absurd (false≢true is)
not_true false is = refl

-- the literals that the root state does not entail
abbrev pub not_always : Model → List Literal → List Literal
not_always m ls = filter (λ l. not (holds_always m l)) ls

-- what the root state entails holds in each configuration that satisfies the model
rest_holds : (m : Model) (ls : List Literal) (c : List Instance) → IsValid m → IsTrue (satisfies m c)
    → IsTrue (has_literals m c (not_always m ls)) → IsTrue (has_literals m c ls)
rest_holds m ls c valid satisfied left =
    all_by_filter (λ l. not (holds_always m l)) (has_literal m c)
    (λ l is. entailed_holds m (root m) l c (root_is_state m valid) (not_false (holds_always m l) is) (root_covers m c valid satisfied)) ls left

-- literals that are all among others are entailed where those are
among_entailed : (t : Trace) (given left : List Literal) → ((k : ℕ) (l : Literal) → IsAt left k l → (j : ℕ) × IsAt given j l)
    → entails_all t.job.model t.state given → entails_all t.job.model t.state left
among_entailed t given left among all =
    list_all_from (entails t.job.model t.state) left (λ k l at. let place = among k l at in list_all_at (entails t.job.model t.state) given all place.0 l place.1)

-- without the literals that always hold it is sound and entailed, and each says something
pub told : (t : Trace) (requests : ℕ) (ls : List Literal) → IsValid t.job.model
    → IsSound t.job.model t.job.order (record { requests = requests; literals = ls }) → entails_all t.job.model t.state ls
    → IsToldBy t ls (record { requests = requests; literals = not_always t.job.model ls })
told t requests ls valid sound entailed =
    let m = t.job.model in
    let passes = λ (l : Literal). not (holds_always m l) in
    record {
      telling = record {
        sound = fewer_is_sound m t.job.order requests ls (not_always m ls) (λ c satisfied. rest_holds m ls c valid satisfied) sound;
        entailed = among_entailed t ls (not_always m ls) (λ k l at. let place = filter_at passes ls k l at in (place.0, place.1)) entailed;
        tells = λ k l at. not_true (holds_always m l) (filter_at passes ls k l at).2;
      };
      no_longer = subst (λ n. n ≤ length ls) (sym (length-filter passes ls)) (count_by-le-length passes ls);
    }

-- without literals that follow from the others, too
pub parted_tells : (t : Trace) (given n : Nogood) → IsParted t.job.model given n → IsTelling t given → IsTelling t n
parted_tells t given n parted telling = record {
  sound = subst (λ requests. IsSound t.job.model t.job.order (record { requests = requests; literals = n.literals })) (sym parted.requests)
      (fewer_is_sound t.job.model t.job.order given.requests given.literals n.literals (λ c satisfied. parted.follows c) telling.sound);
  entailed = among_entailed t given.literals n.literals parted.among telling.entailed;
  tells = λ k l at. let place = parted.among k l at in telling.tells place.0 l place.1;
}

-- ---- what was assumed

-- the assumptions that may be used make a nogood
pub assumed_is_sound : (t : Trace) (r : Reason) (a : Assumptions) → IsTrail t → IsFalse r.cut
    → SupportsFailure t.job None r → entails_all t.job.model t.state r.literals → AreAssumed t r a
    → IsSound t.job.model t.job.order (record { requests = a.requests; literals = a.literals.items })
assumed_is_sound t r a trail uncut supports entailed those =
    subst (λ ls. IsSound t.job.model t.job.order (record { requests = a.requests; literals = ls })) (sym those.literals)
    (assumed_is_nogood t r a.requests trail uncut those.kept.uncut supports entailed those.own those.each)

-- ---- what is taught

-- the nogood that was chosen, without literals that follow from the others
pub taught : (t : Trace) (r : Reason) (given n : Nogood) → IsFalse r.cut → IsChosen t r given → IsParted t.job.model given n
    → IsTaught t r n
taught t r given n uncut chosen parted =
    let telling = parted_tells t given n parted chosen.telling in
    let fewer = parted.no_longer in
    record {
      no_cut = uncut;
      sound = telling.sound;
      entailed = telling.entailed;
      no_longer = trans-le (length n.literals) (length given.literals) (length r.literals) fewer chosen.no_longer;
      no_longer_than_assumed = λ none all.
          trans-le (length n.literals) (length given.literals) (length (assumed t)) fewer (chosen.no_longer_than_assumed (record { uncut = none; entailed = all }));
      tells = telling.tells;
      apart = parted.apart;
    }
  where
    trans-le : (a b c : ℕ) → a ≤ b → b ≤ c → a ≤ c
    trans-le a b c p q = omega arith
