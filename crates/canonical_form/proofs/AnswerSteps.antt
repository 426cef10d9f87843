-- The whole text of an answer.
use Rattle.std.proofs.Common.{◌≡◌, ◌≢◌, ℕ, List, [], ◌∷◌, ◌++◌, refl, sym, ap, ◌∙◌, append_assoc, append-nil}
use Rattle.std.specs.Prelude.{codes}
use Rattle.std.specs.List.{flat_map}
use Rattle.prod_model.specs.declared.model.Model.{Model}
use Rattle.config_value.specs.declared.configuration.Instance.{Instance}
use Rattle.canonical_form.specs.declared.fault.PartCode.TheVariants.{Header, LineEnd}
use Rattle.canonical_form.specs.AnswerParts.{Part, header_part, end_part, parts_of}
use Rattle.canonical_form.specs.BadLine.{IsAnswerOf}
use Rattle.canonical_form.specs.steps.Grammar.{at_header, at_header_end, at_number, BeginsThen, Reads, Stops}
use Rattle.canonical_form.specs.steps.Reading.{AreInstances}
use Rattle.canonical_form.proofs.Paths.{Reads_one, Reads_then, Stops_then, Stops_here}
use Rattle.canonical_form.proofs.SpelledPaths.{spelled_list}
use Rattle.canonical_form.proofs.PartTexts.{parts_text, text_of}
use Rattle.canonical_form.proofs.LineSteps.{no_end}

pub header_stops : (m : Model) (bytes : List ℕ) → ((rest : List ℕ) → bytes ≢ codes "preferred" ++ rest) → Stops m at_header bytes 1 Header
header_stops m bytes none = Stops_here m at_header bytes (λ p t behind follows parts ends. none behind (parts ∙ ap (λ (q : Part). q.text ++ behind) follows.0)) (λ k same. absurd (cc))

header_reads : (m : Model) (bytes rest : List ℕ) → bytes ≡ codes "preferred" ++ rest → Reads m at_header bytes at_header_end rest
header_reads m bytes rest parts = Reads_one m at_header at_header_end header_part bytes rest (refl, refl) parts (no_end rest)

pub header_end_stops : (m : Model) (bytes headed : List ℕ) → bytes ≡ codes "preferred" ++ headed → ((rest : List ℕ) → headed ≢ 10 ∷ rest) → Stops m at_header bytes 1 LineEnd
header_end_stops m bytes headed parts none =
    Stops_then m at_header at_header_end bytes headed 1 LineEnd (header_reads m bytes headed parts)
    (Stops_here m at_header_end headed (λ p t behind follows parts ends. none behind (parts ∙ ap (λ (q : Part). q.text ++ behind) follows.0)) (λ k same. absurd (cc)))

pub header_line_reads : (m : Model) (bytes headed rest : List ℕ) → bytes ≡ codes "preferred" ++ headed → headed ≡ 10 ∷ rest → Reads m at_header bytes (at_number 0) rest
header_line_reads m bytes headed rest parts end =
    Reads_then m at_header at_header_end (at_number 0) bytes headed rest (header_reads m bytes headed parts)
    (Reads_one m at_header_end (at_number 0) (end_part 1) headed rest (refl, refl) end (no_end rest))

-- the bytes are the texts of the parts, and then the rest
begins_texts : (ps : List Part) (bytes rest : List ℕ) → BeginsThen ps bytes rest → bytes ≡ flat_map text_of ps ++ rest
begins_texts [] bytes rest begins = begins
begins_texts (p ∷ ps) bytes rest begins =
    begins.1 ∙ ap (λ t. p.text ++ t) (begins_texts ps begins.0 rest begins.3) ∙ sym (append_assoc p.text (flat_map text_of ps) rest)

pub is_answer : (m : Model) (bytes headed rest : List ℕ) (c : List Instance) → bytes ≡ codes "preferred" ++ headed → headed ≡ 10 ∷ rest → AreInstances m rest c → IsAnswerOf m bytes c
unfolding parts_of
is_answer m bytes headed rest c parts end are =
    let begins : BeginsThen (parts_of m c) bytes [] = (headed, parts, no_end headed, (rest, end, no_end rest, are.begins)) in
    (spelled_list m c are.spelled are.some are.few, begins_texts (parts_of m c) bytes [] begins ∙ append-nil (flat_map text_of (parts_of m c)) ∙ parts_text m c)
