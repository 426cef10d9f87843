-- A value has no fault exactly where it stands for a valid model.
use Rattle.std.proofs.Common.{◌≡◌, ℕ, zero, suc, ◌+◌, Bool, true, IsTrue, IsFalse, List, [], ◌∷◌, map, refl, sym, ap, subst, ◌∙◌, Option, Some, Contains, arith}
use Rattle.std.specs.Prelude.{◌&&◌, nat_le}
use Rattle.std.specs.List.{enumerate_from}
use Rattle.std.proofs.lemmas.Bool.{false≢true, false_from_ne_true}
use Rattle.std.proofs.lemmas.Option.{none-some, same_Some}
use Rattle.serde_json.specs.Data.{Data}
use Rattle.base_laws.specs.Places.{IsAt}
use Rattle.base_laws.proofs.Places.{map_at, at_map}
use Rattle.base_laws.proofs.Elements.{contained_at, at_contained}
use Rattle.base_laws.proofs.Tests.{list_all_at, list_all_from}
use Rattle.prod_model.specs.declared.model.Model.{Model}
use Rattle.prod_model.specs.declared.model.Rule.{Rule}
use Rattle.prod_model.specs.Limits.{most_nesting}
use Rattle.prod_model.specs.Nesting.{nesting}
use Rattle.prod_model.specs.ExprBounds.{is_truth, is_truth_at}
use Rattle.prod_model.specs.Forest.{is_a, is_forest}
use Rattle.prod_model.specs.Taxonomy.{inverse_of}
use Rattle.prod_model.specs.Valid.{has_known_parents_and_targets, has_narrowings, has_room, has_faultless_rules, has_right_inverses, IsTaxonomy, IsValid}
use Rattle.type_taxonomy.proofs.TaxonomyFacts.{taxonomy_has_no_fault}
use Rattle.type_taxonomy.proofs.FirstInverseFault.{right_has_no_fault}
use Rattle.file_values.specs.declared.part.Part.{Part}
use Rattle.file_values.specs.declared.part.Part.TheVariants.{At as at}
use Rattle.file_values.specs.declared.fault.Fault.{Fault}
use Rattle.file_values.specs.declared.fault.FaultCode.TheVariants.{WrongInverse}
use Rattle.file_values.specs.declared.format.Format.{Format}
use Rattle.file_values.specs.declared.kind.Kind.{Kind}
use Rattle.file_values.specs.declared.kind.Kind.TheVariants as kind
use Rattle.file_values.specs.declared.kind.Key.TheVariants as key
use Rattle.file_values.specs.Inside.{FailsAt}
use Rattle.file_values.specs.Places.{under}
use Rattle.file_values.specs.Read.{items_at, member_of}
use Rattle.file_values.specs.Tests.{is_short, is_formed, is_in_limits, is_known}
use Rattle.file_values.specs.Twice.{Placed, IsTwice, texts_in}
use Rattle.file_meaning.specs.Expressions.{expression_of}
use Rattle.file_meaning.specs.ModelOf.{number_named, type_names, rule_in, declared_in, model_in}
use Rattle.file_meaning.specs.Faults.{fault, Stated, HasOwnFault, HasStatedFault, rules_of, HasPlainFault, HasModelFault, format_of}
use Rattle.file_meaning.specs.Faults as faults
use Rattle.file_meaning.specs.Stands.{IsReadable}
use Rattle.file_meaning.specs.Laws.{IsFaultlessTo, FaultlessIsValid, StandsForOne}
use Rattle.file_meaning.proofs.NameLists.{distinct_apart}
use Rattle.file_meaning.proofs.GoodParts.{IsGood, good_is_formed, good_knows_types, good_has_one_bound, is_good}
use Rattle.file_meaning.proofs.PassedValues.{Passes, passes_rest, rest_parts, Right, Sound}
use Rattle.file_meaning.proofs.PassedModels.{model_back}
use Rattle.file_meaning.proofs.FaultlessTypes.{faultless_inverses}
use Rattle.file_meaning.proofs.FaultlessModels.{right_of, faultless_is_good, faultless_is_declared}
use Rattle.file_meaning.proofs.BoundedExpressions.{IsNeededAt, no_misformed, bounded_of_none, no_own_fault}
use Rattle.file_meaning.proofs.InverseNames.{named_inverses}
use Rattle.file_meaning.proofs.RuleLaws.{bounds_ignore_rules}

-- ---- numbered values

-- what stands at a place is numbered with it
pub enumerated_at : {X : Type 0} (n : ℕ) (xs : List X) (k : ℕ) (x : X) → IsAt xs k x → IsAt (enumerate_from n xs) k (n + k, x)
enumerated_at {X} n [] k x at_k = absurd (none-some x at_k)
enumerated_at {X} n (y ∷ xs) zero x at_k =
    let same : n ≡ n + 0 = omega arith in subst (λ m. IsAt (enumerate_from n (y ∷ xs)) 0 (m, x)) same (ap {B = Option (ℕ × X)} (λ z. Some (n, z)) (same_Some y x at_k))
enumerated_at {X} n (y ∷ xs) (suc k) x at_k =
    let same : n + 1 + k ≡ n + suc k = omega arith in subst (λ m. IsAt (enumerate_from (n + 1) xs) k (m, x)) same (enumerated_at (n + 1) xs k x at_k)

pub at_enumerated : {X : Type 0} (n : ℕ) (xs : List X) (k : ℕ) (p : ℕ × X) → IsAt (enumerate_from n xs) k p → IsAt xs k p.1
at_enumerated n [] k p at_k = absurd (none-some p at_k)
at_enumerated n (x ∷ xs) zero p at_k = ap (λ (q : ℕ × _). Some q.1) (same_Some (n, x) p at_k)
at_enumerated n (x ∷ xs) (suc k) p at_k = at_enumerated (n + 1) xs k p at_k

-- what is stated in each value is stated
pub stated_among : (f : ℕ × Data → Stated) (ds : List Data) (k : ℕ) (e : Data) → IsAt ds k e → Contains (map f (enumerate_from 0 ds)) (f (0 + k, e))
stated_among f ds k e at_k = contained_at (map f (enumerate_from 0 ds)) k (f (0 + k, e)) (at_map f (enumerate_from 0 ds) k (0 + k, e) (enumerated_at 0 ds k e at_k))

-- and what is stated is stated in one of the values
pub record IsStatedIn (f : ℕ × Data → Stated) (ds : List Data) (s : Stated) : Type 0 where
  pub place : ℕ
  pub number : ℕ
  pub value : Data
  pub there : IsAt ds place value
  pub is : f (number, value) ≡ s

pub stated_in : (f : ℕ × Data → Stated) (ds : List Data) (s : Stated) → Contains (map f (enumerate_from 0 ds)) s → IsStatedIn f ds s
stated_in f ds s among =
    let read = map_at f (enumerate_from 0 ds) among.0 s (at_contained (map f (enumerate_from 0 ds)) s among) in
    record { place = among.0; number = read.0.0; value = read.0.1; there = at_enumerated 0 ds among.0 read.0 read.1; is = read.2 }

-- ---- a model and its rules

module _ (m : Model) (rules : List Rule) where
  abbrev with_rules : Model
  with_rules = record m { rules = rules }

  taxonomy_with : IsTaxonomy m → IsTaxonomy with_rules
  unfolding has_known_parents_and_targets is_forest has_narrowings is_a has_room
  taxonomy_with t = record { known_parents = t.known_parents; forest = t.forest; narrowings = t.narrowings; room = t.room }

  taxonomy_without : IsTaxonomy with_rules → IsTaxonomy m
  unfolding has_known_parents_and_targets is_forest has_narrowings is_a has_room
  taxonomy_without t = record { known_parents = t.known_parents; forest = t.forest; narrowings = t.narrowings; room = t.room }

  inverses_with : IsTrue (has_right_inverses m) → IsTrue (has_right_inverses with_rules)
  unfolding has_right_inverses inverse_of
  inverses_with right = right

  inverses_without : IsTrue (has_right_inverses with_rules) → IsTrue (has_right_inverses m)
  unfolding has_right_inverses inverse_of
  inverses_without right = right

  truth_with : (t : ℕ) (e : _) → is_truth_at with_rules t e ≡ is_truth_at m t e
  truth_with t e = ap (λ b. nat_le (nesting e) most_nesting && is_truth b) (bounds_ignore_rules m rules e t)

-- ---- no fault

-- how a rule is stated
abbrev stated_rule : Data → ℕ × Data → Stated
stated_rule d p = record {
  place = under key.Rules ∷ at p.0 ∷ under key.Holds ∷ [];
  value = member_of key.Holds p.1;
  of = number_named (type_names d) (member_of key.OfType p.1);
  truth = true;
}

module _ (d : Data) (none : (f : Fault) → ¬ HasModelFault d f) where
  none_to : (n : ℕ) → IsFaultlessTo n d
  none_to n f low = none f

  plain_none : (f : Fault) → ¬ HasPlainFault (format_of d) kind.Model d f
  plain_none f has = none f (faults.plain has)

  own_none : (s : Stated) → Contains (rules_of d) s → (f : Fault) → ¬ HasOwnFault (declared_in d) s.value s.of s.truth f
  own_none s among f has = none _ (faults.expression record { one = s; among = among; own = f; has = has; is = refl })

  readable : IsReadable (format_of d) kind.Model d (rules_of d)
  readable = record {
    right = right_of (format_of d) (type_names d) kind.Model d plain_none;
    formed = λ s among. no_misformed (declared_in d) s.value s.of s.truth (own_none s among);
  }

  rule_is_truth : (k : ℕ) (e : Data) → IsAt (items_at key.Rules d) k e
      → IsTrue (is_truth_at (declared_in d) (number_named (type_names d) (member_of key.OfType e)) (expression_of (declared_in d) (member_of key.Holds e) (Some (number_named (type_names d) (member_of key.OfType e)))))
  rule_is_truth k e at_k =
      bounded_of_none (declared_in d) (member_of key.Holds e) (number_named (type_names d) (member_of key.OfType e)) true
      (own_none (stated_rule d (0 + k, e)) (stated_among (stated_rule d) (items_at key.Rules d) k e at_k))

  rules_are_truths : IsTrue (has_faultless_rules (model_in d))
  unfolding has_faultless_rules model_in
  rules_are_truths =
      let rules = map (rule_in (declared_in d) (type_names d)) (items_at key.Rules d) in
      list_all_from (λ r. is_truth_at (with_rules (declared_in d) rules) r.kind r.holds) rules (λ k r at_k.
      let read = map_at (rule_in (declared_in d) (type_names d)) (items_at key.Rules d) k r at_k in
      truth_with (declared_in d) rules r.kind r.holds
      ∙ subst (λ x. IsTrue (is_truth_at (declared_in d) x.kind x.holds)) read.2 (rule_is_truth k read.0 read.1))

  taxonomy_read : IsTaxonomy (model_in d)
  unfolding model_in
  taxonomy_read = taxonomy_with (declared_in d) _ (faultless_is_declared d (none_to 11)).taxonomy

  inverses_read : IsTrue (has_right_inverses (model_in d))
  unfolding model_in
  inverses_read = inverses_with (declared_in d) _ (faultless_inverses (declared_in d) (λ t k has. none (fault WrongInverse _) (faults.wrong_inverse t k refl has)))

  model_read : IsValid (model_in d)
  model_read =
      let good = faultless_is_good d (none_to 8) in
      record {
        declared = record {
          formed = good_is_formed (model_in d) good;
          known_types = good_knows_types (model_in d) good;
          one_bound_each = good_has_one_bound (model_in d) good;
          taxonomy = taxonomy_read;
        };
        faultless_rules = rules_are_truths;
        right_inverses = inverses_read;
      }

-- ---- a valid model

-- where all pass, none fails any of the tests of F04 to F08
module _ (format : Format) (names : List (List ℕ)) (k : Kind) (d : Data) (sound : Sound format names k d) where
  fails_rest : (l : Kind) (v : Data) → ¬ Passes names l v → IsFalse (passes_rest names l v)
  fails_rest l v wrong = false_from_ne_true (passes_rest names l v) (λ is. wrong (rest_parts names l v is))

  none_inside : (place : List Part) (test : Kind → Data → Bool) → ((l : Kind) (v : Data) → Passes names l v → IsTrue (test l v)) → ¬ FailsAt format test k d place
  none_inside place test follows f =
      sound place record { kind = f.kind; value = f.value; inside = f.inside; fails = fails_rest f.kind f.value (λ passes. false≢true (sym f.fails ∙ follows f.kind f.value passes)) }

  none_twice : (place : List Part) → ¬ IsTwice format k d place
  none_twice place t =
      sound t.front record {
        kind = t.kind;
        value = t.value;
        inside = t.inside;
        fails = fails_rest t.kind t.value (λ passes.
            let r = t.repeated in
            distinct_apart (map (λ (p : Placed). p.text) (texts_in t.kind t.value)) passes.different r.i r.j r.earlier.text r.later.text
            (at_map (λ (p : Placed). p.text) (texts_in t.kind t.value) r.i r.earlier r.first) (at_map (λ (p : Placed). p.text) (texts_in t.kind t.value) r.j r.later r.again) r.order r.same);
      }

  pub no_plain_fault : Right format names k d → (f : Fault) → ¬ HasPlainFault format k d f
  no_plain_fault right f (faults.other_kind place is fails) = right place fails
  no_plain_fault right f (faults.wrong_length place is fails) = none_inside place is_short (λ l v p. p.short) fails
  no_plain_fault right f (faults.wrong_form place is fails) = none_inside place is_formed (λ l v p. p.formed) fails
  no_plain_fault right f (faults.twice place is two) = none_twice place two
  no_plain_fault right f (faults.past_limit place is fails) = none_inside place is_in_limits (λ l v p. p.limits) fails

  pub no_unknown_type : (place : List Part) → ¬ FailsAt format (is_known names) k d place
  no_unknown_type place fails = none_inside place (is_known names) (λ l v p. p.known) fails

module _ (d : Data) (readable : IsReadable (format_of d) kind.Model d (rules_of d)) (valid : IsValid (model_in d)) where
  good_model : IsGood (model_in d)
  good_model =
      is_good (model_in d) valid.declared.formed valid.declared.taxonomy.known_parents valid.declared.known_types valid.declared.one_bound_each
      (named_inverses (model_in d) valid.declared.formed valid.right_inverses)

  sound_model : Sound (format_of d) (type_names d) kind.Model d
  sound_model = model_back (format_of d) d readable.right good_model

  taxonomy_declared : IsTaxonomy (declared_in d)
  unfolding model_in
  taxonomy_declared = taxonomy_without (declared_in d) _ valid.declared.taxonomy

  inverses_declared : IsTrue (has_right_inverses (declared_in d))
  unfolding model_in
  inverses_declared = inverses_without (declared_in d) _ valid.right_inverses

  rule_needed : (n : ℕ) (k : ℕ) (e : Data) → IsAt (items_at key.Rules d) k e
      → IsNeededAt true (declared_in d) (stated_rule d (n, e)).of (expression_of (declared_in d) (stated_rule d (n, e)).value (Some (stated_rule d (n, e)).of))
  unfolding has_faultless_rules model_in
  rule_needed n k e at_k =
      let rules = map (rule_in (declared_in d) (type_names d)) (items_at key.Rules d) in
      let rule = rule_in (declared_in d) (type_names d) e in
      sym (truth_with (declared_in d) rules rule.kind rule.holds)
      ∙ list_all_at (λ r. is_truth_at (with_rules (declared_in d) rules) r.kind r.holds) rules valid.faultless_rules k rule (at_map (rule_in (declared_in d) (type_names d)) (items_at key.Rules d) k e at_k)

  no_stated_fault : (f : Fault) → ¬ HasStatedFault (declared_in d) (rules_of d) f
  no_stated_fault f has =
      let s = stated_in (stated_rule d) (items_at key.Rules d) has.one has.among in
      let needed = subst (λ x. IsNeededAt x.truth (declared_in d) x.of (expression_of (declared_in d) x.value (Some x.of))) s.is (rule_needed s.number s.place s.value s.there) in
      no_own_fault (declared_in d) has.one.value has.one.of has.one.truth (readable.formed has.one has.among) needed has.own has.has

  no_model_fault : (f : Fault) → ¬ HasModelFault d f
  no_model_fault f (faults.plain has) = no_plain_fault (format_of d) (type_names d) kind.Model d sound_model readable.right f has
  no_model_fault f (faults.unknown_type place is fails) = no_unknown_type (format_of d) (type_names d) kind.Model d sound_model place fails
  no_model_fault f (faults.cycle t is has) = taxonomy_has_no_fault (declared_in d) _ taxonomy_declared has
  no_model_fault f (faults.widening t port k is has) = taxonomy_has_no_fault (declared_in d) _ taxonomy_declared has
  no_model_fault f (faults.crowded t is has) = taxonomy_has_no_fault (declared_in d) _ taxonomy_declared has
  no_model_fault f (faults.expression has) = no_stated_fault f has
  no_model_fault f (faults.wrong_inverse t k is has) = right_has_no_fault (declared_in d) _ inverses_declared has

pub faultless_is_valid : FaultlessIsValid
faultless_is_valid d = (
  λ none. (model_in d, record { readable = readable d none; is = refl }, model_read d none),
  λ stands f. no_model_fault d stands.1.readable (subst IsValid stands.1.is stands.2) f,
)

pub stands_for_one : StandsForOne
stands_for_one d m n first second = first.is ∙ sym second.is
