-- The faults 12 to 16 of a model file.
use Rattle.std.proofs.Common.{◌≡◌, ℕ, ◌<◌, ◌≤◌, List, map, Option, Some, None, sym, ap, subst, arith}
use Rattle.std.specs.List.{enumerate_from}
use Rattle.std.specs.Prelude.{IsTrue, nat_lt, length}
use Rattle.std.proofs.lemmas.Bool.Decides.{nat_tests}
use Rattle.base_laws.specs.Places.{IsAt}
use Rattle.base_laws.proofs.Places.{at_map}
use Rattle.serde_json.specs.Data.{Data}
use Rattle.prod_model.specs.First.{IsFirst}
use Rattle.prod_model.specs.declared.model.Model.{Model}
use Rattle.prod_model.specs.declared.model.Rule.{Rule}
use Rattle.file_values.specs.declared.kind.Key.TheVariants as key
use Rattle.file_values.specs.declared.fault.Fault.{Fault as AFault}
use Rattle.file_values.specs.Codes.{number_of}
use Rattle.file_values.specs.FaultOrder.{IsFaultBefore}
use Rattle.file_values.specs.Read.{member_of, items_at}
use Rattle.file_meaning.specs.ModelOf.{declared_in, model_in, rule_in, number_named, type_names}
use Rattle.file_meaning.specs.Faults.{rules_of, HasStatedFault, HasModelFault}
use Rattle.file_meaning.specs.Faults as faults
use Rattle.file_meaning.specs.Laws.{IsFaultlessTo}
use Rattle.file_meaning.proofs.FaultlessModels.{faultless_is_good}
use Rattle.model_reader.specs.Stated.{FindsFault, AreRead, stated_rule}
use Rattle.model_reader.proofs.FirstByCode.{later_is_not_before}
use Rattle.model_reader.proofs.PlainOfFiles.{early_plain}
use Rattle.model_reader.proofs.InversePass.{stated_low}

-- a fault of a value, seen from the rules
data Seen (d : Data) (f : AFault) : Type 0 where
  early : number_of f.code ≤ 11 → Seen d f
  stated : HasStatedFault (declared_in d) (rules_of d) f → Seen d f
  late : 16 < number_of f.code → Seen d f

seen : (d : Data) (f : AFault) → HasModelFault d f → Seen d f
seen d f (faults.plain p) = early (let n : number_of f.code ≤ 7 = early_plain f p in omega arith)
seen d f (faults.unknown_type place e x) = early (let n : number_of f.code ≡ 8 = ap (λ g. number_of g.code) e in omega arith)
seen d f (faults.cycle t e x) = early (let n : number_of f.code ≡ 9 = ap (λ g. number_of g.code) e in omega arith)
seen d f (faults.widening t port k e x) = early (let n : number_of f.code ≡ 10 = ap (λ g. number_of g.code) e in omega arith)
seen d f (faults.crowded t e x) = early (let n : number_of f.code ≡ 11 = ap (λ g. number_of g.code) e in omega arith)
seen d f (faults.expression s) = stated s
seen d f (faults.wrong_inverse t k e x) = late (let n : number_of f.code ≡ 17 = ap (λ g. number_of g.code) e in omega arith)

below : (n k : ℕ) → IsTrue (nat_lt n k) → n < k
below n k is = grind (arith, nat_tests)

module _ (d : Data) (clear : IsFaultlessTo 11 d) where
  -- no fault of a rule: no fault up to 16
  pub rules_clear : FindsFault (HasStatedFault (declared_in d) (rules_of d)) None → IsFaultlessTo 16 d
  unfolding FindsFault
  rules_clear none f within has = elim (seen d f has) [
    | early low ↦ clear f low has
    | stated s ↦ none f s
    | late high ↦ omega arith
  ]

  -- the first fault of the rules is the first of the file
  pub rules_refused : (f : AFault) → FindsFault (HasStatedFault (declared_in d) (rules_of d)) (Some f) → IsFirst (HasModelFault d) IsFaultBefore f
  unfolding FindsFault
  rules_refused f first = record {
    is = faults.expression first.is;
    none_before = λ y has less. elim (seen d y has) [
      | early low ↦ clear y low has
      | stated s ↦ first.none_before y s less
      | late high ↦ (let low : number_of f.code ≤ 16 = stated_low _ _ f first.is in later_is_not_before f y (omega arith) less)
    ];
  }

  clear_to_8 : IsFaultlessTo 8 d
  clear_to_8 f low has = clear f (omega (arith, low)) has

  -- the type of a rule is one of the types
  pub rule_known : (k : ℕ) (e : Data) → IsAt (items_at key.Rules d) k e → number_named (type_names d) (member_of key.OfType e) < length (declared_in d).types
  unfolding model_in declared_in
  rule_known k e at_k =
      (let good = faultless_is_good d clear_to_8 in
      let rule = rule_in (declared_in d) (type_names d) in
      below _ _ (good.rules.each k (rule e) (at_map rule (items_at key.Rules d) k e at_k)).kind)

  module _ (m : Model) (names : List (List ℕ)) (values : List Data) (m_is : m ≡ declared_in d) (names_are : names ≡ type_names d) (values_are : values ≡ items_at key.Rules d) where
    -- so it is in the list
    pub known_in_list : (k : ℕ) (e : Data) → IsAt values k e → number_named names (member_of key.OfType e) < length m.types
    known_in_list k e at_k =
        (let At : List Data → Type 0 = λ vs. IsAt vs k e in
        let Of : Model → Type 0 = λ n. number_named names (member_of key.OfType e) < length n.types in
        let By : List (List ℕ) → Type 0 = λ ns. number_named ns (member_of key.OfType e) < length (declared_in d).types in
        subst Of (sym m_is) (subst By (sym names_are) (rule_known k e (subst At values_are at_k))))

    -- what is read of the list is what the value says
    pub read_so : (first : Option AFault) (rules : List Rule) → AreRead m (map (stated_rule names) (enumerate_from 0 values)) (map (rule_in m names) values) first rules
        → AreRead (declared_in d) (rules_of d) (map (rule_in (declared_in d) (type_names d)) (items_at key.Rules d)) first rules
    read_so first rules read =
        (let Read : Model → List (List ℕ) → List Data → Type 0 = λ n ns vs. AreRead n (map (stated_rule ns) (enumerate_from 0 vs)) (map (rule_in n ns) vs) first rules in
        subst (λ n. Read n (type_names d) (items_at key.Rules d)) m_is (subst (λ ns. Read m ns (items_at key.Rules d)) names_are (subst (Read m names) values_are read)))
