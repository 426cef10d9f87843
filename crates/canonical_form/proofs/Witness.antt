-- Where a reader stops, some answer goes on with a part of that line and code.
use Rattle.std.proofs.Common.{◌≡◌, ℕ, pos, ◌+◌, ◌<◌, ◌≤◌, List, [], ◌∷◌, ◌++◌, refl, sym, subst, ◌∙◌, arith, inl, inr}
use Rattle.std.specs.Prelude.{IsTrue}
use Rattle.std.proofs.lemmas.Bool.{cases_lt}
use Rattle.prod_model.specs.declared.model.Model.{Model}
use Rattle.prod_model.specs.Limits.{most_instances}
use Rattle.prod_model.specs.declared.model.AttrAt.{AttrAt}
use Rattle.prod_model.specs.declared.model.PortAt.{PortAt}
use Rattle.prod_model.specs.Taxonomy.{Named, attributes_of, ports_of}
use Rattle.prod_model.specs.Valid.{IsValid}
use Rattle.config_value.specs.declared.configuration.Instance.{Instance}
use Rattle.config_value.specs.Spelled.{is_spelled}
use Rattle.canonical_form.specs.declared.fault.PartCode.{PartCode}
use Rattle.canonical_form.specs.declared.fault.PartCode.TheVariants.{Number}
use Rattle.canonical_form.specs.AnswerParts.{Part, header_part, end_part, attribute_part, port_part, number_part, type_part}
use Rattle.canonical_form.specs.BadLine.{IsNext, inside, past_last, IsFirstBadLine, IsRefusal}
use Rattle.canonical_form.specs.steps.Grammar.{State, at_header, at_header_end, at_number, at_type, at_members, Follows, Leads, line_of, code_of, Stops}
use Rattle.canonical_form.specs.declared.fault.AnswerRefusal.{AnswerRefusal}
use Rattle.canonical_form.specs.declared.fault.AnswerRefusal.TheVariants.{Line, Memory}
use Rattle.canonical_form.specs.steps.Reading.{Refuses}
use Rattle.canonical_form.proofs.Paths.{Leads_append, BeginsWith_from_then}
use Rattle.canonical_form.proofs.SpelledPaths.{spelled_list}
use Rattle.canonical_form.proofs.Rebuilt.{rebuilt_all}
use Rattle.canonical_form.proofs.Stuck.{goes_no_further, no_answer}
use Rattle.canonical_form.proofs.Leaves.{leaf_of}
use Rattle.canonical_form.proofs.SpelledValues.{HaveLeast, least_values}

-- a line can be finished from here
abbrev CanFinish : Model → State → Type 0
CanFinish m at_header = Unit {0}
CanFinish m at_header_end = Unit {0}
CanFinish m (at_number n) = n ≤ most_instances
CanFinish m (at_type n) = n < most_instances
CanFinish m (at_members n es qs) = (n < most_instances) × HaveLeast m es

Follows_can : (m : Model) (s : State) (p : Part) (t : State) → IsValid m → CanFinish m s → Follows m s p t → CanFinish m t
Follows_can m at_header p t valid can follows = subst (CanFinish m) (sym follows.1) tt
Follows_can m at_header_end p t valid can follows = subst (CanFinish m) (sym follows.1) (omega arith)
Follows_can m (at_number n) p t valid can follows = subst (CanFinish m) (sym follows.2) follows.0
Follows_can m (at_type n) p t valid can follows = subst (CanFinish m) (sym follows.3) (can, least_values m follows.0 valid)
Follows_can m (at_members n (e ∷ es) qs) p t valid can follows = subst (CanFinish m) (sym follows.3) (can.0, can.1.1)
Follows_can m (at_members n [] (q ∷ qs)) p t valid can follows = subst (CanFinish m) (sym follows.3) (can.0, tt)
Follows_can m (at_members n [] []) p t valid can follows = subst (CanFinish m) (sym follows.1) (let few = can.0 in omega arith)

Leads_can : (m : Model) (s t : State) (ps : List Part) → IsValid m → CanFinish m s → Leads m s ps t → CanFinish m t
Leads_can m s t [] valid can leads = subst (CanFinish m) leads can
Leads_can m s t (p ∷ ps) valid can leads = Leads_can m leads.0 t ps valid (Follows_can m s p leads.0 valid can leads.1) leads.2

-- parts that lead on to the number behind an instance; the first is of the line and the code of the state
record Finishes (m : Model) (s : State) : Type 0 where
  count : ℕ
  part : Part
  later : List Part
  leads : Leads m s (part ∷ later) (at_number count)
  line_is : part.line ≡ line_of s
  code_is : part.code ≡ code_of s
  some : 1 ≤ count
  few : count ≤ most_instances

finish_before : (m : Model) (s t : State) (p : Part) → Follows m s p t → p.line ≡ line_of s → p.code ≡ code_of s → Finishes m t → Finishes m s
finish_before m s t p follows line code more = record {
  count = more.count;
  part = p;
  later = more.part ∷ more.later;
  leads = (t, follows, more.leads);
  line_is = line;
  code_is = code;
  some = more.some;
  few = more.few;
}

finish_members : (m : Model) (n : ℕ) (es : List (Named AttrAt)) (qs : List (Named PortAt)) → n < most_instances → HaveLeast m es → Finishes m (at_members n es qs)
finish_members m n [] [] few least = record {
  count = n + 1;
  part = end_part (n + 2);
  later = [];
  leads = (at_number (n + 1), (refl, refl), refl);
  line_is = refl;
  code_is = refl;
  some = omega arith;
  few = omega arith;
}
finish_members m n [] (q ∷ qs) few least =
    finish_before m (at_members n [] (q ∷ qs)) (at_members n [] qs) (port_part (n + 2) (q, [])) ([], refl, refl, refl) refl refl (finish_members m n [] qs few tt)
finish_members m n (e ∷ es) qs few least =
    finish_before m (at_members n (e ∷ es) qs) (at_members n es qs) (attribute_part m (n + 2) (e, pos 0)) (pos 0, least.0, refl, refl) refl refl (finish_members m n es qs few least.1)

finish_type : (m : Model) (n : ℕ) → IsValid m → n < most_instances → Finishes m (at_type n)
finish_type m n valid few =
    let leaf = leaf_of m valid in
    let t = leaf.kind in
    finish_before m (at_type n) (at_members n (attributes_of m.types t) (ports_of m.types t)) (type_part m n t) (t, leaf.leaf, refl, refl) refl refl
    (finish_members m n (attributes_of m.types t) (ports_of m.types t) few (least_values m t valid))

finish_number : (m : Model) (n : ℕ) → IsValid m → n < most_instances → Finishes m (at_number n)
finish_number m n valid few = finish_before m (at_number n) (at_type n) (number_part n) (few, refl, refl) refl refl (finish_type m n valid few)

finish_header_end : (m : Model) → IsValid m → Finishes m at_header_end
finish_header_end m valid = finish_before m at_header_end (at_number 0) (end_part 1) (refl, refl) refl refl (finish_number m 0 valid (omega arith))

finish_header : (m : Model) → IsValid m → Finishes m at_header
finish_header m valid = finish_before m at_header at_header_end header_part (refl, refl) refl refl (finish_header_end m valid)

-- an answer that has the parts that were read, and what is next in it
record Continues (m : Model) (read : List Part) (line : ℕ) (code : PartCode) : Type 0 where
  c : List Instance
  spelled : IsTrue (is_spelled m c)
  next : IsNext m c read line code

continued : (m : Model) (s : State) (read : List Part) → Leads m at_header read s → Finishes m s → Continues m read (line_of s) (code_of s)
continued m s read leads finishes =
    let all = rebuilt_all m finishes.count (read ++ finishes.part ∷ finishes.later) (Leads_append m at_header s (at_number finishes.count) read (finishes.part ∷ finishes.later) leads finishes.leads) in
    let counted = all.count in
    let least = finishes.some in
    let most = finishes.few in
    record {
      c = all.c;
      spelled = spelled_list m all.c all.spelled (omega arith) (omega arith);
      next = inside finishes.part finishes.later all.parts finishes.line_is finishes.code_is;
    }

-- behind the most instances that there can be there is no more
continued_past : (m : Model) (n : ℕ) (read : List Part) → n ≡ most_instances → Leads m at_header read (at_number n) → Continues m read (n + 2) Number
continued_past m n read full leads =
    let all = rebuilt_all m n read leads in
    let counted = all.count in
    record {
      c = all.c;
      spelled = spelled_list m all.c all.spelled (omega arith) (omega arith);
      next = past_last all.parts (counted ∙ full) (omega arith) refl;
    }

continues : (m : Model) (s : State) (read : List Part) → IsValid m → CanFinish m s → Leads m at_header read s → Continues m read (line_of s) (code_of s)
continues m at_header read valid can leads = continued m at_header read leads (finish_header m valid)
continues m at_header_end read valid can leads = continued m at_header_end read leads (finish_header_end m valid)
continues m (at_number n) read valid can leads = elim (cases_lt n most_instances) [
  | inl few ↦ continued m (at_number n) read leads (finish_number m n valid few)
  | inr full ↦ continued_past m n read (omega arith) leads
]
continues m (at_type n) read valid can leads = continued m (at_type n) read leads (finish_type m n valid can)
continues m (at_members n es qs) read valid can leads = continued m (at_members n es qs) read leads (finish_members m n es qs can.0 can.1)

-- the line and the code at which a reader stops are those of the first bad line
pub first_bad_line : (m : Model) (bytes : List ℕ) (line : ℕ) (code : PartCode) → IsValid m → Stops m at_header bytes line code → IsFirstBadLine m bytes line code
first_bad_line m bytes line code valid stops =
    let found = continues m stops.state stops.reads.read valid (Leads_can m at_header stops.state stops.reads.read valid tt stops.reads.leads) stops.reads.leads in
    record {
      no_answer = no_answer m bytes line code valid stops;
      read = stops.reads.read;
      begins = BeginsWith_from_then stops.reads.read bytes stops.rest stops.reads.begins;
      goes_no_further = goes_no_further m bytes line code valid stops;
      c = found.c;
      spelled = found.spelled;
      next = subst (λ k. IsNext m found.c stops.reads.read line k) stops.code_is (subst (λ k. IsNext m found.c stops.reads.read k (code_of stops.state)) stops.line_is found.next);
    }

pub refusal_of : (m : Model) (bytes : List ℕ) (e : AnswerRefusal) → IsValid m → Refuses m at_header bytes e → IsRefusal m bytes e
refusal_of m bytes (Line fault) valid stops = first_bad_line m bytes fault.line fault.code valid stops
refusal_of m bytes (Memory e) valid stops = tt
