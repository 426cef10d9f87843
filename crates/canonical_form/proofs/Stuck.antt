-- Where a reader stops, no answer goes on.
use Rattle.std.proofs.Common.{◌≡◌, ℕ, zero, suc, ◌≤◌, List, [], ◌∷◌, ◌++◌, length, sym, ap, subst, ◌∙◌, arith}
use Rattle.std.specs.Prelude.{IsTrue}
use Rattle.std.proofs.lemmas.List.{append_cancel_left}
use Rattle.prod_model.specs.declared.model.Model.{Model}
use Rattle.prod_model.specs.Valid.{IsValid}
use Rattle.config_value.specs.declared.configuration.Instance.{Instance}
use Rattle.config_value.specs.Spelled.{is_spelled}
use Rattle.canonical_form.specs.declared.fault.PartCode.{PartCode}
use Rattle.canonical_form.specs.AnswerParts.{Part, parts_of}
use Rattle.canonical_form.specs.BadLine.{BeginsWith, IsAnswerOf}
use Rattle.canonical_form.specs.steps.Grammar.{State, at_header, at_number, Follows, Leads, BeginsThen, Stops}
use Rattle.canonical_form.proofs.Paths.{BeginsWith_behind}
use Rattle.canonical_form.proofs.OneNext.{Begins, Follows_state, Follows_part}
use Rattle.canonical_form.proofs.SpelledPaths.{spelled_instances, parts_lead}
use Rattle.canonical_form.proofs.PartTexts.{Follows_nonempty, parts_begin}

-- what leads on behind parts leads on from their state
Leads_behind : (m : Model) (s t u : State) (ps qs : List Part) → IsValid m → Leads m s ps t → Leads m s (ps ++ qs) u → Leads m t qs u
Leads_behind m s t u [] qs valid first all = subst (λ v. Leads m v qs u) first all
Leads_behind m s t u (p ∷ ps) qs valid first all =
    let same : all.0 ≡ first.0 = Follows_state m s p all.0 first.0 valid all.1 first.1 in
    Leads_behind m first.0 t u ps qs valid first.2 (subst (λ v. Leads m v (ps ++ qs) u) same all.2)

-- the parts of all of the bytes go on from where some of them lead
record GoesOn (m : Model) (t u : State) (rest : List ℕ) : Type 0 where
  later : List Part
  leads : Leads m t later u
  begins : BeginsThen later rest []

goes_on : (m : Model) (s t u : State) (ps qs : List Part) (bytes rest : List ℕ) → IsValid m
    → Leads m s ps t → BeginsThen ps bytes rest → Leads m s qs u → BeginsThen qs bytes [] → GoesOn m t u rest
goes_on m s t u [] qs bytes rest valid leads begins all_lead all_begin =
    record { later = qs; leads = subst (λ v. Leads m v qs u) leads all_lead; begins = subst (λ b. BeginsThen qs b []) begins all_begin }
goes_on m s t u (p ∷ ps) [] bytes rest valid leads begins all_lead all_begin =
    absurd (Follows_nonempty m s p leads.0 begins.0 leads.1 (sym begins.1 ∙ all_begin))
goes_on m s t u (p ∷ ps) (q ∷ qs) bytes rest valid leads begins all_lead all_begin =
    let p_begins : Begins p bytes = record { behind = begins.0; text = begins.1; ends = begins.2 } in
    let q_begins : Begins q bytes = record { behind = all_begin.0; text = all_begin.1; ends = all_begin.2 } in
    let one : q ≡ p = Follows_part m s q p all_lead.0 leads.0 bytes valid all_lead.1 leads.1 q_begins p_begins in
    let follows : Follows m s p all_lead.0 = subst (λ r. Follows m s r all_lead.0) one all_lead.1 in
    let state : all_lead.0 ≡ leads.0 = Follows_state m s p all_lead.0 leads.0 valid follows leads.1 in
    let text : bytes ≡ p.text ++ all_begin.0 = all_begin.1 ∙ ap (λ (r : Part). r.text ++ all_begin.0) one in
    let behind : all_begin.0 ≡ begins.0 = append_cancel_left p.text all_begin.0 begins.0 (sym text ∙ begins.1) in
    goes_on m leads.0 t u ps qs begins.0 rest valid leads.2 begins.3 (subst (λ v. Leads m v qs u) state all_lead.2) (subst (λ b. BeginsThen qs b []) behind all_begin.3)

-- no answer goes on with a part
pub goes_no_further : (m : Model) (bytes : List ℕ) (line : ℕ) (code : PartCode) → IsValid m → (stops : Stops m at_header bytes line code)
    → (d : List Instance) (p : Part) (later : List Part) → IsTrue (is_spelled m d) → parts_of m d ≡ stops.reads.read ++ p ∷ later
    → ¬ BeginsWith (stops.reads.read ++ p ∷ []) bytes
goes_no_further m bytes line code valid stops d p later spelled parts begins =
    let all = subst (λ ps. Leads m at_header ps (at_number (length d))) parts (parts_lead m d spelled) in
    let on = Leads_behind m at_header stops.state (at_number (length d)) stops.reads.read (p ∷ later) valid stops.reads.leads all in
    let next = BeginsWith_behind stops.reads.read (p ∷ []) bytes stops.rest stops.reads.begins begins in
    stops.stuck p on.0 next.0 on.1 next.1 next.2

ends_or_goes : (m : Model) (line : ℕ) (code : PartCode) (k : ℕ) (bytes : List ℕ) (stops : Stops m at_header bytes line code) → 1 ≤ k
    → (later : List Part) → Leads m stops.state later (at_number k) → BeginsThen later stops.rest [] → ⊥
ends_or_goes m line code zero bytes stops some later leads begins = absurd (omega arith)
ends_or_goes m line code (suc k) bytes stops some [] leads begins = stops.unended k leads begins
ends_or_goes m line code (suc k) bytes stops some (p ∷ later) leads begins = stops.stuck p leads.0 begins.0 leads.1 begins.1 begins.2

not_on : (m : Model) (line : ℕ) (code : PartCode) (k : ℕ) (bytes : List ℕ) (stops : Stops m at_header bytes line code) → 1 ≤ k → GoesOn m stops.state (at_number k) stops.rest → ⊥
not_on m line code k bytes stops some on = ends_or_goes m line code k bytes stops some on.later on.leads on.begins

-- the bytes are no answer
pub no_answer : (m : Model) (bytes : List ℕ) (line : ℕ) (code : PartCode) → IsValid m → (stops : Stops m at_header bytes line code) → (d : List Instance) → ¬ IsAnswerOf m bytes d
no_answer m bytes line code valid stops d answer =
    let begins = subst (λ b. BeginsThen (parts_of m d) b []) (sym answer.1) (parts_begin m d answer.0) in
    let on = goes_on m at_header stops.state (at_number (length d)) stops.reads.read (parts_of m d) bytes stops.rest valid stops.reads.leads stops.reads.begins (parts_lead m d answer.0) begins in
    not_on m line code (length d) bytes stops (spelled_instances m d answer.0).1 on
