-- What leads from state to state, and what bytes begin with it.
use Rattle.std.proofs.Common.{◌≡◌, ℕ, suc, List, [], ◌∷◌, ◌++◌, refl, sym, subst, ◌∙◌}
use Rattle.std.specs.Prelude.{IsTrue}
use Rattle.std.proofs.lemmas.List.{append_cancel_left}
use Rattle.prod_model.specs.declared.model.Model.{Model}
use Rattle.canonical_form.specs.declared.fault.PartCode.{PartCode}
use Rattle.canonical_form.specs.AnswerParts.{Part}
use Rattle.canonical_form.specs.BadLine.{ends_there, BeginsWith}
use Rattle.canonical_form.specs.steps.Grammar.{State, at_number, Follows, Leads, BeginsThen, IsStuck, Reads, Stops, line_of, code_of}

pub Leads_append : (m : Model) (s t u : State) (ps qs : List Part) → Leads m s ps t → Leads m t qs u → Leads m s (ps ++ qs) u
Leads_append m s t u [] qs first second = subst (λ v. Leads m v qs u) (sym first) second
Leads_append m s t u (p ∷ ps) qs first second = (first.0, first.1, Leads_append m first.0 t u ps qs first.2 second)

pub BeginsThen_append : (ps qs : List Part) (bytes middle rest : List ℕ) → BeginsThen ps bytes middle → BeginsThen qs middle rest → BeginsThen (ps ++ qs) bytes rest
BeginsThen_append [] qs bytes middle rest first second = subst (λ b. BeginsThen qs b rest) (sym first) second
BeginsThen_append (p ∷ ps) qs bytes middle rest first second = (first.0, first.1, first.2, BeginsThen_append ps qs first.0 middle rest first.3 second)

pub BeginsWith_from_then : (ps : List Part) (bytes rest : List ℕ) → BeginsThen ps bytes rest → BeginsWith ps bytes
BeginsWith_from_then [] bytes rest begins = tt
BeginsWith_from_then (p ∷ ps) bytes rest begins = (begins.0, begins.1, begins.2, BeginsWith_from_then ps begins.0 rest begins.3)

-- what goes on behind parts begins the rest
pub BeginsWith_behind : (ps qs : List Part) (bytes rest : List ℕ) → BeginsThen ps bytes rest → BeginsWith (ps ++ qs) bytes → BeginsWith qs rest
BeginsWith_behind [] qs bytes rest begins all = subst (BeginsWith qs) begins all
BeginsWith_behind (p ∷ ps) qs bytes rest begins all =
    let same : all.0 ≡ begins.0 = append_cancel_left p.text all.0 begins.0 (sym all.1 ∙ begins.1) in
    BeginsWith_behind ps qs begins.0 rest begins.3 (subst (BeginsWith (ps ++ qs)) same all.3)

-- ---- steps together

pub Reads_none : (m : Model) (s : State) (bytes : List ℕ) → Reads m s bytes s bytes
Reads_none m s bytes = record { read = []; leads = refl; begins = refl }

pub Reads_one : (m : Model) (s t : State) (p : Part) (bytes rest : List ℕ) → Follows m s p t → bytes ≡ p.text ++ rest → IsTrue (ends_there p.end rest) → Reads m s bytes t rest
Reads_one m s t p bytes rest follows begins ends = record { read = p ∷ []; leads = (t, follows, refl); begins = (rest, begins, ends, refl) }

pub Reads_then : (m : Model) (s t u : State) (bytes middle rest : List ℕ) → Reads m s bytes t middle → Reads m t middle u rest → Reads m s bytes u rest
Reads_then m s t u bytes middle rest first second = record {
  read = first.read ++ second.read;
  leads = Leads_append m s t u first.read second.read first.leads second.leads;
  begins = BeginsThen_append first.read second.read bytes middle rest first.begins second.begins;
}

pub Stops_then : (m : Model) (s t : State) (bytes middle : List ℕ) (line : ℕ) (code : PartCode) → Reads m s bytes t middle → Stops m t middle line code → Stops m s bytes line code
Stops_then m s t bytes middle line code first second = record {
  state = second.state;
  rest = second.rest;
  reads = Reads_then m s t second.state bytes middle second.rest first second.reads;
  stuck = second.stuck;
  unended = second.unended;
  line_is = second.line_is;
  code_is = second.code_is;
}

pub Stops_here : (m : Model) (s : State) (bytes : List ℕ) → IsStuck m s bytes → ((k : ℕ) → s ≡ at_number (suc k) → bytes ≡ [] → ⊥) → Stops m s bytes (line_of s) (code_of s)
Stops_here m s bytes stuck unended = record { state = s; rest = bytes; reads = Reads_none m s bytes; stuck = stuck; unended = unended; line_is = refl; code_is = refl }
