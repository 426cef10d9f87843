-- The lines of instances, one after another.
use Rattle.std.proofs.Common.{◌≡◌, ◌≢◌, ℕ, suc, ◌+◌, ◌<◌, ◌≤◌, false, ◌==◌, List, [], ◌∷◌, ◌++◌, length, refl, sym, ap, subst, ◌∙◌, append-nil, length-append, arith}
use Rattle.std.specs.List.{flat_map, enumerate_from}
use Rattle.std.proofs.lemmas.Bool.{true≢false}
use Rattle.std.proofs.lemmas.List.Concat.{flat_map-append}
use Rattle.prod_model.specs.declared.model.Model.{Model}
use Rattle.prod_model.specs.Limits.{most_instances}
use Rattle.config_value.specs.declared.configuration.Instance.{Instance}
use Rattle.canonical_form.specs.declared.fault.PartCode.TheVariants.{Number}
use Rattle.canonical_form.specs.AnswerParts.{instance_parts}
use Rattle.canonical_form.specs.steps.Grammar.{at_number, BeginsThen, Reads, Stops, is_spelled_instance}
use Rattle.canonical_form.specs.steps.Reading.{IsInstance, AreInstances}
use Rattle.canonical_form.proofs.Paths.{BeginsThen_append, Stops_then, Stops_here}
use Rattle.canonical_form.proofs.SpelledPaths.{HasSpelledInstances, lines_lead}
use Rattle.canonical_form.proofs.MemberSteps.{all_push}

-- the first instances are read, so many
pub record HasInstances (m : Model) (n : ℕ) (bytes : List ℕ) (c : List Instance) (rest : List ℕ) : Type 0 where
  pub begins : BeginsThen (flat_map (instance_parts m) (enumerate_from 0 c)) bytes rest
  pub spelled : HasSpelledInstances m c
  pub count : length c ≡ n
  pub few : n ≤ most_instances

pub no_instances : (m : Model) (bytes : List ℕ) → HasInstances m 0 bytes [] bytes
no_instances m bytes = record { begins = refl; spelled = refl; count = refl; few = omega arith }

enumerate_push : {X : Type 0} (n : ℕ) (xs : List X) (x : X) → enumerate_from n (xs ++ x ∷ []) ≡ enumerate_from n xs ++ (n + length xs, x) ∷ []
enumerate_push n [] x = let e : n ≡ n + 0 = omega arith in ap (λ k. (k, x) ∷ []) e
enumerate_push n (y ∷ ys) x =
    let e : n + 1 + length ys ≡ n + suc (length ys) = omega arith in
    ap (λ ps. (n, y) ∷ ps) (enumerate_push (n + 1) ys x ∙ ap (λ k. enumerate_from (n + 1) ys ++ (k, x) ∷ []) e)

pub instances_more : (m : Model) (n : ℕ) (bytes : List ℕ) (c : List Instance) (rest : List ℕ) (x : Instance) (after : List ℕ) (new : List Instance) → n < most_instances
    → HasInstances m n bytes c rest → IsInstance m n rest x after → new ≡ c ++ x ∷ [] → HasInstances m (n + 1) bytes new after
instances_more m n bytes c rest x after new room has is pushed =
    let place : 0 + length c ≡ n = let k = has.count in omega arith in
    let lines : flat_map (instance_parts m) (enumerate_from 0 (c ++ x ∷ [])) ≡ flat_map (instance_parts m) (enumerate_from 0 c) ++ instance_parts m (n, x) =
    ap (flat_map (instance_parts m)) (enumerate_push 0 c x ∙ ap (λ k. enumerate_from 0 c ++ (k, x) ∷ []) place)
    ∙ flat_map-append (instance_parts m) (enumerate_from 0 c) ((n, x) ∷ []) ∙ ap (λ ps. flat_map (instance_parts m) (enumerate_from 0 c) ++ ps) (append-nil (instance_parts m (n, x))) in
    let longer = length-append c (x ∷ []) in
    let counted = has.count in
    let made : HasInstances m (n + 1) bytes (c ++ x ∷ []) after = record {
      begins = subst (λ ps. BeginsThen ps bytes after) (sym lines) (BeginsThen_append (flat_map (instance_parts m) (enumerate_from 0 c)) (instance_parts m (n, x)) bytes rest after has.begins is.begins);
      spelled = all_push (is_spelled_instance m) c x has.spelled is.spelled;
      count = omega arith;
      few = omega arith;
    } in
    subst (λ d. HasInstances m (n + 1) bytes d after) (sym pushed) made

pub instances_read : (m : Model) (n : ℕ) (bytes : List ℕ) (c : List Instance) (rest : List ℕ) → HasInstances m n bytes c rest → Reads m (at_number 0) bytes (at_number n) rest
instances_read m n bytes c rest has =
    let counted = has.count in
    record { read = flat_map (instance_parts m) (enumerate_from 0 c); leads = lines_lead m 0 c n has.spelled (omega arith) has.few; begins = has.begins }

-- behind the last number that there can be something stands
pub past_stops : (m : Model) (n : ℕ) (bytes : List ℕ) → n ≡ most_instances → bytes ≢ [] → Stops m (at_number n) bytes (n + 2) Number
past_stops m n bytes full some = Stops_here m (at_number n) bytes (λ p t behind follows parts ends. absurd (let none = follows.0 in omega arith)) (λ k same. some)

pub instances_stop : (m : Model) (n : ℕ) (bytes : List ℕ) (c : List Instance) (rest : List ℕ) → n ≡ most_instances → HasInstances m n bytes c rest → rest ≢ [] → Stops m (at_number 0) bytes (n + 2) Number
instances_stop m n bytes c rest full has some =
    Stops_then m (at_number 0) (at_number n) bytes rest (n + 2) Number (instances_read m n bytes c rest has) (past_stops m n rest full some)

pub instances_all : (m : Model) (n : ℕ) (bytes : List ℕ) (c : List Instance) (rest : List ℕ) → 1 ≤ n → HasInstances m n bytes c rest → rest ≡ [] → AreInstances m bytes c
instances_all m n bytes c rest some has ended =
    let counted = has.count in
    let most = has.few in
    record {
      begins = subst (λ r. BeginsThen (flat_map (instance_parts m) (enumerate_from 0 c)) bytes r) ended has.begins;
      spelled = has.spelled;
      some = omega arith;
      few = omega arith;
    }

pub no_length : (bytes : List ℕ) → bytes ≡ [] → (length bytes == 0) ≡ false → ⊥
no_length [] none some = true≢false some
no_length (b ∷ bs) none some = absurd (cc)
