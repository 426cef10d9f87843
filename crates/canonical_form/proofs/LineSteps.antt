-- The line of an instance, step by step.
use Rattle.std.proofs.Common.{◌≡◌, ◌≢◌, ℕ, ℤ, suc, ◌+◌, ◌<◌, List, [], ◌∷◌, ◌++◌, map, Result, Ok, Err, refl, sym, ap, subst, ◌∙◌, arith}
use Rattle.std.specs.Prelude.{IsTrue, IfErr}
use Rattle.std.specs.Result.{IsErrAnd}
use Rattle.std.specs.Fmt.{decimal}
use Rattle.std.specs.List.{zip}
use Rattle.prod_model.specs.declared.model.Model.{Model}
use Rattle.prod_model.specs.Limits.{most_instances}
use Rattle.prod_model.specs.Forest.{is_leaf}
use Rattle.prod_model.specs.Taxonomy.{attributes_of, ports_of}
use Rattle.config_value.specs.declared.configuration.Instance.{Instance}
use Rattle.canonical_form.specs.declared.fault.PartCode.TheVariants.{Number, TypeName, LineEnd}
use Rattle.canonical_form.specs.AnswerParts.{Part, attribute_part, port_part, end_part, instance_parts, at_once, behind_number, behind_name, number_part, type_part}
use Rattle.canonical_form.specs.BadLine.{ends_there}
use Rattle.canonical_form.specs.steps.Grammar.{State, at_number, at_type, at_members, BeginsThen, Reads, Stops}
use Rattle.canonical_form.specs.steps.Reading.{Takes, TakesNone, type_text, AreValues, AreLinks, IsInstance, Refuses}
use Rattle.canonical_form.specs.declared.fault.AnswerRefusal.{AnswerRefusal}
use Rattle.canonical_form.specs.declared.fault.AnswerRefusal.TheVariants.{Line, Memory}
use Rattle.canonical_form.proofs.Paths.{BeginsThen_append, Reads_one, Stops_then, Stops_here}
use Rattle.canonical_form.proofs.SpelledPaths.{attributes_lead, ports_lead}
use Rattle.canonical_form.proofs.Rebuilt.{spelled_instance}

-- ---- where a line stops

pub number_stops : (m : Model) (n : ℕ) (bytes : List ℕ) → (0 < n → bytes ≢ []) → ((rest : List ℕ) → ¬ Takes (decimal n) behind_number bytes rest) → Stops m (at_number n) bytes (n + 2) Number
number_stops m n bytes unended none =
    Stops_here m (at_number n) bytes (λ p t behind follows parts ends. none behind (record {
      parts = parts ∙ ap (λ (q : Part). q.text ++ behind) follows.1;
      ends = subst (λ (q : Part). IsTrue (ends_there q.end behind)) follows.1 ends;
    })) (λ k same. let e = same_number n (suc k) same in unended (omega arith))
  where
    same_number : (a b : ℕ) → at_number a ≡ at_number b → a ≡ b
    same_number a b same = cc

pub type_stops : (m : Model) (n : ℕ) (bytes : List ℕ) → TakesNone (type_text m) (λ t. behind_name) (is_leaf m) bytes → Stops m (at_type n) bytes (n + 2) TypeName
type_stops m n bytes none =
    Stops_here m (at_type n) bytes (λ p t behind follows parts ends. none follows.0 behind follows.1 (record {
      parts = parts ∙ ap (λ (q : Part). q.text ++ behind) follows.2;
      ends = subst (λ (q : Part). IsTrue (ends_there q.end behind)) follows.2 ends;
    })) (λ k same. absurd (cc))

pub end_stops : (m : Model) (n : ℕ) (bytes : List ℕ) → ((rest : List ℕ) → bytes ≢ 10 ∷ rest) → Stops m (at_members n [] []) bytes (n + 2) LineEnd
end_stops m n bytes none =
    Stops_here m (at_members n [] []) bytes (λ p t behind follows parts ends. none behind (parts ∙ ap (λ (q : Part). q.text ++ behind) follows.0)) (λ k same. absurd (cc))

-- ---- a line that is read

pub number_reads : (m : Model) (n : ℕ) (bytes rest : List ℕ) → n < most_instances → Takes (decimal n) behind_number bytes rest → Reads m (at_number n) bytes (at_type n) rest
number_reads m n bytes rest few takes = Reads_one m (at_number n) (at_type n) (number_part n) bytes rest (few, refl, refl) takes.parts takes.ends

pub type_reads : (m : Model) (n t : ℕ) (bytes rest : List ℕ) → IsTrue (is_leaf m t) → Takes (type_text m t) behind_name bytes rest
    → Reads m (at_type n) bytes (at_members n (attributes_of m.types t) (ports_of m.types t)) rest
type_reads m n t bytes rest leaf takes = Reads_one m (at_type n) (at_members n (attributes_of m.types t) (ports_of m.types t)) (type_part m n t) bytes rest (t, leaf, refl, refl) takes.parts takes.ends

pub values_reads : (m : Model) (n t : ℕ) (bytes : List ℕ) (values : List ℤ) (rest : List ℕ) → AreValues m n t bytes values rest
    → Reads m (at_members n (attributes_of m.types t) (ports_of m.types t)) bytes (at_members n [] (ports_of m.types t)) rest
values_reads m n t bytes values rest are = record {
  read = map (attribute_part m (n + 2)) (zip (attributes_of m.types t) values);
  leads = attributes_lead m n (attributes_of m.types t) (ports_of m.types t) values are.spelled;
  begins = are.begins;
}

pub links_reads : (m : Model) (n t : ℕ) (bytes : List ℕ) (links : List (List ℕ)) (rest : List ℕ) → AreLinks m n t bytes links rest
    → Reads m (at_members n [] (ports_of m.types t)) bytes (at_members n [] []) rest
links_reads m n t bytes links rest are = record {
  read = map (port_part (n + 2)) (zip (ports_of m.types t) links);
  leads = ports_lead m n (ports_of m.types t) links are.long are.spelled;
  begins = are.begins;
}

pub no_end : (bytes : List ℕ) → IsTrue (ends_there at_once bytes)
no_end [] = refl
no_end (b ∷ bs) = refl

pub instance_read : (m : Model) (n : ℕ) (x : Instance) (bytes typed named valued linked rest : List ℕ)
    → Takes (decimal n) behind_number bytes typed → IsTrue (is_leaf m x.kind) → Takes (type_text m x.kind) behind_name typed named
    → AreValues m n x.kind named x.values valued → AreLinks m n x.kind valued x.links linked → linked ≡ 10 ∷ rest → IsInstance m n bytes x rest
unfolding instance_parts
instance_read m n x bytes typed named valued linked rest number leaf type values links end = record {
  begins =
      let line = BeginsThen_append (map (attribute_part m (n + 2)) (zip (attributes_of m.types x.kind) x.values)) (map (port_part (n + 2)) (zip (ports_of m.types x.kind) x.links)) named valued linked values.begins links.begins in
      let ended : BeginsThen (end_part (n + 2) ∷ []) linked rest = (rest, end, no_end rest, refl) in
      (typed, number.parts, number.ends, (named, type.parts, type.ends, BeginsThen_append _ (end_part (n + 2) ∷ []) named linked rest line ended));
  spelled = spelled_instance m x leaf values.spelled links.long links.spelled;
}

-- ---- a refusal further on

pub refused_behind : (m : Model) (s t : State) (bytes middle : List ℕ) (e : AnswerRefusal) → Reads m s bytes t middle → Refuses m t middle e → Refuses m s bytes e
refused_behind m s t bytes middle (Line fault) reads stops = Stops_then m s t bytes middle fault.line fault.code reads stops
refused_behind m s t bytes middle (Memory e) reads stops = tt

pub same_refusal : {X : Type 0} (r : Result X AnswerRefusal) (e : AnswerRefusal) (P : AnswerRefusal → Type 0) → IsErrAnd r (λ f. f ≡ e) → P e → IfErr r P
same_refusal (Ok x) e P same holds = tt
same_refusal (Err f) e P same holds = subst P (sym same) holds
