-- The names of types that are looked up, and the faults 8 of a model file.
use Rattle.std.proofs.Common.{◌≡◌, ℕ, ◌+◌, ◌<◌, ◌≤◌, Bool, true, false, List, [], ◌∷◌, ◌++◌, map, length, take, get_or, refl, sym, ◌∙◌, ap, ap₂, subst, arith, None}
use Rattle.std.specs.Prelude.{not, ◌||◌, if◌then◌else◌}
use Rattle.std.specs.List.{list_any}
use Rattle.std.proofs.lemmas.List.Folds.{list_any-append}
use Rattle.std.proofs.lemmas.Grind.{take_at_read}
use Rattle.std.proofs.lemmas.List.{map-append}
use Rattle.serde_json.specs.Data.{Data}
use Rattle.serde_json.specs.View.{view}
use Rattle.serde_json.specs.declared.value.Value.{Value}
use Rattle.prod_model.specs.Names.{same_text}
use Rattle.prod_model.proofs.NameLaws.{same_text_symm}
use Rattle.prod_model.proofs.EntryNames.{same_text_same}
use Rattle.file_values.specs.declared.part.Part.{Part}
use Rattle.file_values.specs.declared.kind.Kind.{Kind}
use Rattle.file_values.specs.declared.kind.Kind.TheVariants as kind
use Rattle.file_values.specs.declared.kind.Kind.TheVariants.{Model, Order, Types, TypeDecl, Attributes, Attribute, Ports, Port, Bounds, Bound, Rules, Rule, Requests, Request, Criteria, Criterion, Words, Range, Links, End, Count, Instances, ModelFormat, OrderFormat, PortKind, Name, TypeName, InverseName, Word, Expression}
use Rattle.file_values.specs.declared.fault.Fault.{Fault as AFault}
use Rattle.file_values.specs.declared.fault.FaultCode.{FaultCode}
use Rattle.file_values.specs.declared.fault.FaultCode.TheVariants.{UnknownType}
use Rattle.file_values.specs.Codes.{number_of}
use Rattle.file_values.specs.Inside.{FailsAt, Finds}
use Rattle.file_values.specs.declared.kind.Key.TheVariants as key
use Rattle.file_values.specs.Read.{text_in, text_at}
use Rattle.file_values.specs.Tests.{is_known}
use Rattle.file_meaning.specs.declared.refusal.Refusal.{Refusal}
use Rattle.file_meaning.specs.declared.refusal.Refusal.TheVariants.{Fault, Memory}
use Rattle.file_meaning.specs.ModelOf.{type_names}
use Rattle.file_meaning.specs.Faults.{fault, format_of, HasModelFault}
use Rattle.file_meaning.specs.Faults as faults
use Rattle.file_meaning.specs.Laws.{IsFaultlessTo}
use Rattle.model_reader.specs.Passes.{IsRefusalBy, IsRefusalAt}
use Rattle.model_reader.specs.steps.KnownPass.{HasNamesOf}
use Rattle.model_reader.proofs.FirstByCode as by_code
use Rattle.model_reader.proofs.PlainOfFiles.{early_plain, stated_code}

-- ---- names put in one by one

any_same : (p q : List ℕ → Bool) → ((x : List ℕ) → p x ≡ q x) → (xs : List (List ℕ)) → list_any p xs ≡ list_any q xs
any_same p q each [] = refl
any_same p q each (x ∷ xs) = ap₂ (λ a b. a || b) (each x) (any_same p q each xs)

or_nothing : (a : Bool) → a ≡ (a || (false || false))
or_nothing true = refl
or_nothing false = refl

-- a name that is among them already changes nothing
kept : (texts old : List (List ℕ)) (name : List ℕ) → HasNamesOf texts old → list_any (same_text name) old ≡ true → (w : List ℕ)
    → list_any (λ n. same_text n w) old ≡ list_any (λ n. same_text n w) (texts ++ name ∷ [])
kept texts old name has there w = has.same w ∙ by (same_text name w) refl ∙ sym (list_any-append (λ n. same_text n w) texts (name ∷ []))
  where
    any_w : same_text name w ≡ true → list_any (λ n. same_text n w) texts ≡ true
    any_w same =
        sym (has.same w)
        ∙ any_same (λ n. same_text n w) (same_text name) (λ n. same_text_symm n w ∙ ap (λ v. same_text v n) (sym (same_text_same name w same))) old ∙ there

    by : (b : Bool) → same_text name w ≡ b → list_any (λ n. same_text n w) texts ≡ (list_any (λ n. same_text n w) texts || list_any (λ n. same_text n w) (name ∷ []))
    by true is = any_w is ∙ sym (ap (λ a. a || list_any (λ n. same_text n w) (name ∷ [])) (any_w is))
    by false is =
        or_nothing (list_any (λ n. same_text n w) texts)
        ∙ ap (λ b. list_any (λ n. same_text n w) texts || (b || false)) (sym is)

pub named_more : (texts old new : List (List ℕ)) (name : List ℕ) (added : Bool) → HasNamesOf texts old → added ≡ not (list_any (same_text name) old)
    → new ≡ (if added then old ++ name ∷ [] else old) → HasNamesOf (texts ++ name ∷ []) new
named_more texts old new name added has is made = by (list_any (same_text name) old) refl
  where
    by : (b : Bool) → list_any (same_text name) old ≡ b → HasNamesOf (texts ++ name ∷ []) new
    by true there = (let now : new ≡ old = made ∙ ap (λ a. if a then old ++ name ∷ [] else old) (is ∙ ap not there) in
        record { same = λ w. ap (list_any (λ n. same_text n w)) now ∙ kept texts old name has there w })
    by false there = (let now : new ≡ old ++ name ∷ [] = made ∙ ap (λ a. if a then old ++ name ∷ [] else old) (is ∙ ap not there) in
        record {
          same = λ w. ap (list_any (λ n. same_text n w)) now ∙ list_any-append (λ n. same_text n w) old (name ∷ [])
              ∙ ap (λ a. a || list_any (λ n. same_text n w) (name ∷ [])) (has.same w) ∙ sym (list_any-append (λ n. same_text n w) texts (name ∷ []));
        })

-- the names of the values so far, and one more
pub named_next : (all : List Value) (i : ℕ) (v : Value) (old new : List (List ℕ)) (name : List ℕ) (added : Bool) → i < length all → v ≡ get_or all i v
    → name ≡ text_at key.Name (view v) → HasNamesOf (map (text_at key.Name) (map view (take i all))) old
    → added ≡ not (list_any (same_text name) old) → new ≡ (if added then old ++ name ∷ [] else old)
    → HasNamesOf (map (text_at key.Name) (map view (take (i + 1) all))) new
named_next all i v old new name added within read is_name has is made =
    subst (λ texts. HasNamesOf texts new) more (named_more (map (text_at key.Name) (map view (take i all))) old new name added has is made)
  where
    more : map (text_at key.Name) (map view (take i all)) ++ name ∷ [] ≡ map (text_at key.Name) (map view (take (i + 1) all))
    more =
        ap (λ n. map (text_at key.Name) (map view (take i all)) ++ n ∷ []) is_name
        ∙ sym (map-append (text_at key.Name) (map view (take i all)) (view v ∷ []))
        ∙ ap (map (text_at key.Name)) (sym (map-append view (take i all) (v ∷ [])) ∙ ap (map view) (ap (λ e. take i all ++ e ∷ []) read ∙ sym (take_at_read all i v within).1))

-- ---- the pass

-- the names answer as the texts do
known_same : (texts names : List (List ℕ)) → HasNamesOf texts names → (k : Kind) (v : Data) → is_known names k v ≡ is_known texts k v
unfolding is_known
known_same texts names has Model v = refl
known_same texts names has Order v = refl
known_same texts names has Types v = refl
known_same texts names has TypeDecl v = refl
known_same texts names has Attributes v = refl
known_same texts names has Attribute v = refl
known_same texts names has Ports v = refl
known_same texts names has Port v = refl
known_same texts names has Bounds v = refl
known_same texts names has Bound v = refl
known_same texts names has Rules v = refl
known_same texts names has Rule v = refl
known_same texts names has Requests v = refl
known_same texts names has Request v = refl
known_same texts names has Criteria v = refl
known_same texts names has Criterion v = refl
known_same texts names has Words v = refl
known_same texts names has Range v = refl
known_same texts names has Links v = refl
known_same texts names has End v = refl
known_same texts names has Count v = refl
known_same texts names has Instances v = refl
known_same texts names has ModelFormat v = refl
known_same texts names has OrderFormat v = refl
known_same texts names has PortKind v = refl
known_same texts names has Name v = refl
known_same texts names has TypeName v = has.same (text_in v)
known_same texts names has InverseName v = refl
known_same texts names has Word v = refl
known_same texts names has Expression v = refl

module _ (d : Data) (names : List (List ℕ)) (has_names : HasNamesOf (type_names d) names) where
  abbrev Unknown : List (List ℕ) → List Part → Type 0
  Unknown texts = FailsAt (format_of d) (is_known texts) kind.Model d

  to_types : (place : List Part) → Unknown names place → Unknown (type_names d) place
  to_types place f = record { kind = f.kind; value = f.value; inside = f.inside; fails = sym (known_same (type_names d) names has_names f.kind f.value) ∙ f.fails }

  to_names : (place : List Part) → Unknown (type_names d) place → Unknown names place
  to_names place f = record { kind = f.kind; value = f.value; inside = f.inside; fails = known_same (type_names d) names has_names f.kind f.value ∙ f.fails }

  abbrev At : FaultCode → List Part → Type 0
  At code place = HasModelFault d (fault code place)

  unknown : (f : AFault) → f ≡ fault UnknownType f.place → HasModelFault d f → Unknown (type_names d) f.place
  unknown f is (faults.plain p) = (let n : number_of f.code ≡ 8 = ap (λ g. number_of g.code) is in let e : number_of f.code ≤ 7 = early_plain f p in let no : ⊥ = omega arith in absurd no)
  unknown f is (faults.unknown_type place e x) = (let A : AFault → Type 0 = λ g. Unknown (type_names d) g.place in subst A (sym e) x)
  unknown f is (faults.cycle t e x) = (let n : number_of f.code ≡ 8 = ap (λ g. number_of g.code) is in let m : number_of f.code ≡ 9 = ap (λ g. number_of g.code) e in let no : ⊥ = omega arith in absurd no)
  unknown f is (faults.widening t port k e x) = (let n : number_of f.code ≡ 8 = ap (λ g. number_of g.code) is in let m : number_of f.code ≡ 10 = ap (λ g. number_of g.code) e in let no : ⊥ = omega arith in absurd no)
  unknown f is (faults.crowded t e x) = (let n : number_of f.code ≡ 8 = ap (λ g. number_of g.code) is in let m : number_of f.code ≡ 11 = ap (λ g. number_of g.code) e in let no : ⊥ = omega arith in absurd no)
  unknown f is (faults.expression s) = (let n : number_of f.code ≡ 8 = ap (λ g. number_of g.code) is in let m : 11 < number_of f.code = stated_code _ _ f s in let no : ⊥ = omega arith in absurd no)
  unknown f is (faults.wrong_inverse t k e x) = (let n : number_of f.code ≡ 8 = ap (λ g. number_of g.code) is in let m : number_of f.code ≡ 17 = ap (λ g. number_of g.code) e in let no : ⊥ = omega arith in absurd no)

  module _ (clear : IsFaultlessTo 7 d) where
    pub known_clear : Finds (Unknown names) None → IsFaultlessTo 8 d
    known_clear none =
        by_code.clear (HasModelFault d) At (λ f has. has) (λ c place has. has) 7 UnknownType clear refl
        (λ place has. none place (to_names place (unknown (fault UnknownType place) refl has)))

    pub known_refused : (e : Refusal) → IsRefusalAt UnknownType (Unknown names) e → IsRefusalBy (HasModelFault d) e
    known_refused (Memory e) r = r
    known_refused (Fault f) r =
        by_code.refused (HasModelFault d) At (λ g has. has) (λ c place has. has) 7 UnknownType clear refl (Fault f)
        record {
          code_is = r.code_is;
          first = record {
            is = faults.unknown_type f.place refl (to_types f.place r.first.is);
            none_before = λ place has. r.first.none_before place (to_names place (unknown (fault UnknownType place) refl has));
          };
        }
