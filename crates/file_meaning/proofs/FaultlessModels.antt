-- A value without faults declares a model.
use Rattle.std.proofs.Common.{◌≡◌, ℕ, suc, ◌≤◌, true, false, IsTrue, IsFalse, List, [], ◌∷◌, map, refl, sym, ap, subst, inl, inr, arith}
use Rattle.std.specs.List.{list_any}
use Rattle.std.proofs.lemmas.Bool.{false≢true, and_cases}
use Rattle.serde_json.specs.Data.{Data}
use Rattle.base_laws.proofs.Places.{map_at}
use Rattle.base_laws.proofs.Tests.{list_any_at}
use Rattle.prod_model.specs.Names.{is_distinct, same_text}
use Rattle.file_values.specs.declared.part.Part.{Part}
use Rattle.file_values.specs.declared.fault.Fault.{Fault}
use Rattle.file_values.specs.declared.fault.FaultCode.TheVariants.{OtherKind, WrongLength, WrongForm, Twice, PastLimit, UnknownType, Cycle, Widening, Crowded}
use Rattle.file_values.specs.declared.format.Format.{Format}
use Rattle.file_values.specs.declared.kind.Kind.{Kind}
use Rattle.file_values.specs.declared.kind.Kind.TheVariants as kind
use Rattle.file_values.specs.Codes.{number_of}
use Rattle.file_values.specs.Inside.{FailsAt}
use Rattle.file_values.specs.Tests.{is_short, is_formed, is_in_limits, is_known}
use Rattle.file_values.specs.Twice.{Placed, IsRepeated, texts_in}
use Rattle.file_meaning.specs.ModelOf.{type_names, declared_in, model_in}
use Rattle.file_meaning.specs.Faults.{fault, HasPlainFault, HasModelFault, format_of, type_place}
use Rattle.file_meaning.specs.Faults as faults
use Rattle.file_meaning.specs.Laws.{IsFaultlessTo, FaultlessIsFormed, FaultlessIsDeclared}
use Rattle.file_meaning.proofs.NoneFails.{by_test}
use Rattle.file_meaning.proofs.GoodParts.{IsGood, good_is_formed, good_knows_parents, good_knows_types, good_has_one_bound}
use Rattle.file_meaning.proofs.PassedValues.{passes_rest, Right, Sound}
use Rattle.file_meaning.proofs.PassedModels.{no_rules, model_from}
use Rattle.file_meaning.proofs.FaultlessTypes.{HasNoTaxFault, faultless_is_taxonomy}

-- ---- texts that stand twice

abbrev texts : List Placed → List (List ℕ)
texts ps = map (λ (p : Placed). p.text) ps

-- one more text in front
repeated_later : (x : Placed) (ps : List Placed) (place : List Part) → IsRepeated ps place → IsRepeated (x ∷ ps) place
repeated_later x ps place r = record { i = suc r.i; j = suc r.j; earlier = r.earlier; later = r.later; first = r.first; again = r.again; order = omega (arith, r.order); same = r.same; is = r.is }

repeated_first : (x : Placed) (ps : List Placed) → IsTrue (list_any (same_text x.text) (texts ps)) → (place : List Part) × IsRepeated (x ∷ ps) place
repeated_first x ps some =
    let found = list_any_at (same_text x.text) (texts ps) some in
    let later = map_at (λ (p : Placed). p.text) ps found.0 found.1 found.2 in (
      later.0.place,
      record {
        i = 0;
        j = suc found.0;
        earlier = x;
        later = later.0;
        first = refl;
        again = later.1;
        order = omega arith;
        same = subst (λ t. IsTrue (same_text x.text t)) (sym later.2) found.3;
        is = refl;
      },
    )

-- where not all texts differ, one stands twice
pub repeated : (ps : List Placed) → IsFalse (is_distinct (texts ps)) → (place : List Part) × IsRepeated ps place
repeated [] same = absurd (false≢true (sym same))
repeated (x ∷ ps) same = by_test (list_any (same_text x.text) (texts ps)) (λ some. repeated_first x ps some)
    (λ none. by_test (is_distinct (texts ps)) (λ distinct. absurd (both none distinct same))
    (λ more. let found = repeated ps more in (found.0, repeated_later x ps found.0 found.1)))
  where
    both : list_any (same_text x.text) (texts ps) ≡ false → is_distinct (texts ps) ≡ true → IsFalse (is_distinct (texts (x ∷ ps))) → ⊥
    both none distinct same = grind (arith)

-- ---- F03 to F08

-- Which of the tests of F04 to F08 the value fails.
data FailsOne (names : List (List ℕ)) (k : Kind) (d : Data) : Type 0 where
  short : IsFalse (is_short k d) → FailsOne names k d
  formed : IsFalse (is_formed k d) → FailsOne names k d
  limits : IsFalse (is_in_limits k d) → FailsOne names k d
  known : IsFalse (is_known names k d) → FailsOne names k d
  different : IsFalse (is_distinct (texts (texts_in k d))) → FailsOne names k d

fails_one : (names : List (List ℕ)) (k : Kind) (d : Data) → IsFalse (passes_rest names k d) → FailsOne names k d
unfolding passes_rest
fails_one names k d fails = elim (and_cases _ _ fails) [
  | inr e ↦ different e
  | inl a ↦ elim (and_cases _ _ a) [
    | inr e ↦ known e
    | inl b ↦ elim (and_cases _ _ b) [
      | inr e ↦ limits e
      | inl c ↦ elim (and_cases _ _ c) [ inr e ↦ formed e | inl e ↦ short e ]
    ]
  ]
]

-- no plain fault, and no unknown type: every value is of its kind and passes the rest of the tests
module _ (format : Format) (names : List (List ℕ)) (k : Kind) (d : Data) (plain : (f : Fault) → ¬ HasPlainFault format k d f) where
  pub right_of : Right format names k d
  right_of place f = plain (fault OtherKind place) (faults.other_kind place refl f)

  pub sound_of : ((place : List Part) → ¬ FailsAt format (is_known names) k d place) → Sound format names k d
  sound_of none_unknown place f = elim (fails_one names f.kind f.value f.fails) [
    | short e ↦ plain (fault WrongLength place) (faults.wrong_length place refl record { kind = f.kind; value = f.value; inside = f.inside; fails = e })
    | formed e ↦ plain (fault WrongForm place) (faults.wrong_form place refl record { kind = f.kind; value = f.value; inside = f.inside; fails = e })
    | limits e ↦ plain (fault PastLimit place) (faults.past_limit place refl record { kind = f.kind; value = f.value; inside = f.inside; fails = e })
    | known e ↦ none_unknown place record { kind = f.kind; value = f.value; inside = f.inside; fails = e }
    | different e ↦ (let found = repeated (texts_in f.kind f.value) e in
        plain (fault Twice _) (faults.twice _ refl record { front = place; kind = f.kind; value = f.value; inside = f.inside; rest = found.0; repeated = found.1; is = refl }))
  ]

-- the plain faults have codes up to 8
plain_code : (format : Format) (k : Kind) (d : Data) (f : Fault) → HasPlainFault format k d f → number_of f.code ≤ 8
plain_code format k d f (faults.other_kind place is fails) = low (ap (λ g. number_of g.code) is)
  where
    low : number_of f.code ≡ 3 → number_of f.code ≤ 8
    low e = omega arith
plain_code format k d f (faults.wrong_length place is fails) = low (ap (λ g. number_of g.code) is)
  where
    low : number_of f.code ≡ 4 → number_of f.code ≤ 8
    low e = omega arith
plain_code format k d f (faults.wrong_form place is fails) = low (ap (λ g. number_of g.code) is)
  where
    low : number_of f.code ≡ 5 → number_of f.code ≤ 8
    low e = omega arith
plain_code format k d f (faults.twice place is fails) = low (ap (λ g. number_of g.code) is)
  where
    low : number_of f.code ≡ 6 → number_of f.code ≤ 8
    low e = omega arith
plain_code format k d f (faults.past_limit place is fails) = low (ap (λ g. number_of g.code) is)
  where
    low : number_of f.code ≡ 7 → number_of f.code ≤ 8
    low e = omega arith

-- ---- what is declared

-- what is good with its rules is good without them
without_rules : (d : Data) → IsGood (model_in d) → IsGood (declared_in d)
unfolding model_in declared_in
without_rules d good = record { root = good.root; instances = good.instances; types = good.types; bounds = good.bounds; rules = no_rules _ }

pub faultless_is_good : (d : Data) → IsFaultlessTo 8 d → IsGood (model_in d)
faultless_is_good d none =
    let plain : (f : Fault) → ¬ HasPlainFault (format_of d) kind.Model d f =
    λ f has. none f (plain_code (format_of d) kind.Model d f has) (faults.plain has) in
    let right = right_of (format_of d) (type_names d) kind.Model d plain in
    model_from (format_of d) d right
    (sound_of (format_of d) (type_names d) kind.Model d plain (λ place f. none (fault UnknownType place) (omega arith) (faults.unknown_type place refl f)))

pub faultless_is_formed : FaultlessIsFormed
faultless_is_formed d none =
    let good = without_rules d (faultless_is_good d none) in (good_is_formed (declared_in d) good, good_knows_parents (declared_in d) good)

less_to : (d : Data) (n k : ℕ) → n ≤ k → IsFaultlessTo k d → IsFaultlessTo n d
less_to d n k less none f low has = none f (omega (arith, less, low)) has

no_tax_fault : (d : Data) → IsFaultlessTo 11 d → HasNoTaxFault (declared_in d)
no_tax_fault d none = record {
  cycle = λ t has. none (fault Cycle _) (omega arith) (faults.cycle t refl has);
  widening = λ t port k has. none (fault Widening _) (omega arith) (faults.widening t port k refl has);
  crowded = λ t has. none (fault Crowded _) (omega arith) (faults.crowded t refl has);
}

pub faultless_is_declared : FaultlessIsDeclared
faultless_is_declared d none =
    let good = without_rules d (faultless_is_good d (less_to d 8 11 (omega arith) none)) in
    let formed = good_is_formed (declared_in d) good in
    record {
      formed = formed;
      known_types = good_knows_types (declared_in d) good;
      one_bound_each = good_has_one_bound (declared_in d) good;
      taxonomy = faultless_is_taxonomy (declared_in d) (no_tax_fault d none) formed.distinct_names (good_knows_parents (declared_in d) good);
    }
