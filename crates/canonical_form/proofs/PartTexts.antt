-- The texts of the parts of an answer are its text, and each part ends where the next begins.
use Rattle.std.proofs.Common.{◌≡◌, ℕ, ℤ, ◌+◌, ◌<◌, List, [], ◌∷◌, ◌++◌, map, length, refl, sym, ap, subst, ◌∙◌, append_assoc, arith}
use Rattle.std.specs.Prelude.{IsTrue, codes}
use Rattle.std.specs.Fmt.{decimal}
use Rattle.std.specs.List.{flat_map, enumerate_from, zip, join_with_byte}
use Rattle.std.proofs.lemmas.List.Concat.{flat_map-append}
use Rattle.prod_model.specs.declared.model.Model.{Model}
use Rattle.prod_model.specs.Limits.{most_instances}
use Rattle.prod_model.specs.declared.model.AttrAt.{AttrAt}
use Rattle.prod_model.specs.declared.model.PortAt.{PortAt}
use Rattle.prod_model.specs.Taxonomy.{Named, attributes_of, ports_of}
use Rattle.config_value.specs.declared.configuration.Instance.{Instance}
use Rattle.config_value.specs.Spelled.{is_spelled}
use Rattle.canonical_form.specs.declared.fault.PartCode.TheVariants.{Number}
use Rattle.canonical_form.specs.AnswerText.{answer_text, instance_text, attribute_text, port_text, value_text, type_name, line_end}
use Rattle.canonical_form.specs.AnswerParts.{Part, End, at_once, behind_number, behind_name, behind_word, behind_links, attribute_part, port_part, end_part, instance_parts, parts_of}
use Rattle.canonical_form.specs.BadLine.{ends_there}
use Rattle.canonical_form.specs.steps.Grammar.{State, at_header, at_header_end, at_number, at_type, at_members, Follows, Leads, BeginsThen}
use Rattle.canonical_form.proofs.Tokens.{decimal_cons}
use Rattle.canonical_form.proofs.SpelledPaths.{parts_lead}

-- ---- where parts end

abbrev pub text_of : Part → List ℕ
text_of p = p.text

-- the part has a first byte
record HasFirst (p : Part) : Type 0 where
  byte : ℕ
  others : List ℕ
  text : p.text ≡ byte ∷ others

first_of_part : (p q : Part) → p ≡ q → HasFirst q → HasFirst p
first_of_part p q same first = subst HasFirst (sym same) first

number_first : (n : ℕ) → n < most_instances → HasFirst (record { line = n + 2; code = Number; text = decimal n; end = behind_number })
number_first n few = let d = decimal_cons n (omega arith) in record { byte = d.0; others = d.1; text = d.2 }

Follows_first : (m : Model) (s : State) (p : Part) (t : State) → Follows m s p t → HasFirst p
Follows_first m at_header p t follows = first_of_part p _ follows.0 (record { byte = _; others = _; text = refl })
Follows_first m at_header_end p t follows = first_of_part p _ follows.0 (record { byte = _; others = _; text = refl })
Follows_first m (at_number n) p t follows = first_of_part p _ follows.1 (number_first n follows.0)
Follows_first m (at_type n) p t follows = first_of_part p _ follows.2 (record { byte = _; others = _; text = refl })
Follows_first m (at_members n (a ∷ as') ps) p t follows = first_of_part p _ follows.2 (record { byte = _; others = _; text = refl })
Follows_first m (at_members n [] (q ∷ ps)) p t follows = first_of_part p _ follows.2 (record { byte = _; others = _; text = refl })
Follows_first m (at_members n [] []) p t follows = first_of_part p _ follows.0 (record { byte = _; others = _; text = refl })

pub Follows_nonempty : (m : Model) (s : State) (p : Part) (t : State) (behind : List ℕ) → Follows m s p t → p.text ++ behind ≡ [] → ⊥
Follows_nonempty m s p t behind follows same =
    let first = Follows_first m s p t follows in
    let head : first.byte ∷ (first.others ++ behind) ≡ [] = sym (ap (λ x. x ++ behind) first.text) ∙ same in
    cc

-- Every part may end before these bytes: there are none, or a blank or a line feed is the first.
abbrev EndsAll : List ℕ → Type 0
EndsAll bytes = (end : End) → IsTrue (ends_there end bytes)

ends_none : EndsAll []
ends_none end = refl

ends_blank : (bytes : List ℕ) → EndsAll (32 ∷ bytes)
ends_blank bytes at_once = refl
ends_blank bytes behind_number = refl
ends_blank bytes behind_name = refl
ends_blank bytes behind_word = refl
ends_blank bytes behind_links = refl

ends_line : (bytes : List ℕ) → EndsAll (10 ∷ bytes)
ends_line bytes at_once = refl
ends_line bytes behind_number = refl
ends_line bytes behind_name = refl
ends_line bytes behind_word = refl
ends_line bytes behind_links = refl

ends_before : (p q : Part) (bytes : List ℕ) → p ≡ q → EndsAll (q.text ++ bytes) → EndsAll (p.text ++ bytes)
ends_before p q bytes same ends = subst (λ r. EndsAll (r.text ++ bytes)) (sym same) ends

-- Inside a line each part ends before the next.
Leads_ends : (m : Model) (s : State) (ps : List Part) (u : State) → ((k : ℕ) → s ≡ at_number k → ⊥) → (s ≡ at_header → ⊥) → Leads m s ps u → EndsAll (flat_map text_of ps)
Leads_ends m s [] u no_number no_header leads = ends_none
Leads_ends m at_header (p ∷ ps) u no_number no_header leads = absurd (no_header refl)
Leads_ends m at_header_end (p ∷ ps) u no_number no_header leads = ends_before p _ (flat_map text_of ps) leads.1.0 (ends_line (flat_map text_of ps))
Leads_ends m (at_number n) (p ∷ ps) u no_number no_header leads = absurd (no_number n refl)
Leads_ends m (at_type n) (p ∷ ps) u no_number no_header leads =
    ends_before p _ (flat_map text_of ps) leads.1.2 (ends_blank (type_name m leads.1.0 ++ flat_map text_of ps))
Leads_ends m (at_members n (a ∷ as') qs) (p ∷ ps) u no_number no_header leads =
    ends_before p _ (flat_map text_of ps) leads.1.2 (ends_blank ((a.name ++ codes "=" ++ value_text m a.what leads.1.0) ++ flat_map text_of ps))
Leads_ends m (at_members n [] (q ∷ qs)) (p ∷ ps) u no_number no_header leads =
    ends_before p _ (flat_map text_of ps) leads.1.2 (ends_blank ((q.name ++ codes ":" ++ join_with_byte 44 (map decimal leads.1.0)) ++ flat_map text_of ps))
Leads_ends m (at_members n [] []) (p ∷ ps) u no_number no_header leads = ends_before p _ (flat_map text_of ps) leads.1.0 (ends_line (flat_map text_of ps))

anything : (bytes : List ℕ) → IsTrue (ends_there at_once bytes)
anything [] = refl
anything (b ∷ bs) = refl

ends_at_once : (p q : Part) (bytes : List ℕ) → p ≡ q → q.end ≡ at_once → IsTrue (ends_there p.end bytes)
ends_at_once p q bytes same once = subst (λ end. IsTrue (ends_there end bytes)) (sym once ∙ sym (ap (λ (r : Part). r.end) same)) (anything bytes)

inside : (m : Model) (s t u : State) (p : Part) (ps : List Part) → ((k : ℕ) → s ≡ at_number k → ⊥) → (s ≡ at_header → ⊥) → t ≡ s → Leads m t ps u → IsTrue (ends_there p.end (flat_map text_of ps))
inside m s t u p ps no_number no_header same leads = Leads_ends m s ps u no_number no_header (subst (λ v. Leads m v ps u) same leads) p.end

Follows_ends : (m : Model) (s t u : State) (p : Part) (ps : List Part) → Follows m s p t → Leads m t ps u → IsTrue (ends_there p.end (flat_map text_of ps))
Follows_ends m at_header t u p ps follows leads = ends_at_once p _ (flat_map text_of ps) follows.0 refl
Follows_ends m at_header_end t u p ps follows leads = ends_at_once p _ (flat_map text_of ps) follows.0 refl
Follows_ends m (at_number n) t u p ps follows leads = inside m (at_type n) t u p ps (λ k e. cc) (λ e. cc) follows.2 leads
Follows_ends m (at_type n) t u p ps follows leads = inside m _ t u p ps (λ k e. cc) (λ e. cc) follows.3 leads
Follows_ends m (at_members n (a ∷ as') qs) t u p ps follows leads = inside m _ t u p ps (λ k e. cc) (λ e. cc) follows.3 leads
Follows_ends m (at_members n [] (q ∷ qs)) t u p ps follows leads = inside m _ t u p ps (λ k e. cc) (λ e. cc) follows.3 leads
Follows_ends m (at_members n [] []) t u p ps follows leads = ends_at_once p _ (flat_map text_of ps) follows.0 refl

Leads_begin : (m : Model) (s u : State) (ps : List Part) → Leads m s ps u → BeginsThen ps (flat_map text_of ps) []
Leads_begin m s u [] leads = refl
Leads_begin m s u (p ∷ ps) leads = (flat_map text_of ps, refl, Follows_ends m s leads.0 u p ps leads.1 leads.2, Leads_begin m leads.0 u ps leads.2)

-- ---- texts

text_of_attributes : (m : Model) (line : ℕ) (es : List (Named AttrAt × ℤ)) → flat_map text_of (map (attribute_part m line) es) ≡ flat_map (attribute_text m) es
text_of_attributes m line [] = refl
text_of_attributes m line (e ∷ es) = ap (λ t. attribute_text m e ++ t) (text_of_attributes m line es)

text_of_ports : (line : ℕ) (es : List (Named PortAt × List ℕ)) → flat_map text_of (map (port_part line) es) ≡ flat_map port_text es
text_of_ports line [] = refl
text_of_ports line (e ∷ es) = ap (λ t. port_text e ++ t) (text_of_ports line es)

text_of_instance : (m : Model) (e : ℕ × Instance) → flat_map text_of (instance_parts m e) ≡ instance_text m e
unfolding instance_parts instance_text
text_of_instance m e =
    let attributes = zip (attributes_of m.types e.1.kind) e.1.values in
    let ports = zip (ports_of m.types e.1.kind) e.1.links in
    let a = text_of_attributes m (e.0 + 2) attributes in
    let p = text_of_ports (e.0 + 2) ports in
    let first = flat_map-append text_of (map (attribute_part m (e.0 + 2)) attributes ++ map (port_part (e.0 + 2)) ports) (end_part (e.0 + 2) ∷ []) in
    let second = flat_map-append text_of (map (attribute_part m (e.0 + 2)) attributes) (map (port_part (e.0 + 2)) ports) in
    let inner : flat_map text_of (map (attribute_part m (e.0 + 2)) attributes ++ map (port_part (e.0 + 2)) ports ++ end_part (e.0 + 2) ∷ [])
    ≡ flat_map (attribute_text m) attributes ++ flat_map port_text ports ++ line_end =
    first ∙ ap (λ t. t ++ line_end) (second ∙ ap (λ t. t ++ flat_map text_of (map (port_part (e.0 + 2)) ports)) a ∙ ap (λ t. flat_map (attribute_text m) attributes ++ t) p) in
    ap (λ t. decimal e.0 ++ (32 ∷ (type_name m e.1.kind ++ t))) inner ∙ simp append_assoc

lines_text : (m : Model) (es : List (ℕ × Instance)) → flat_map text_of (flat_map (instance_parts m) es) ≡ flat_map (instance_text m) es
lines_text m [] = refl
lines_text m (e ∷ es) =
    flat_map-append text_of (instance_parts m e) (flat_map (instance_parts m) es)
    ∙ ap (λ t. t ++ flat_map text_of (flat_map (instance_parts m) es)) (text_of_instance m e)
    ∙ ap (λ t. instance_text m e ++ t) (lines_text m es)

pub parts_text : (m : Model) (c : List Instance) → flat_map text_of (parts_of m c) ≡ answer_text m c
unfolding parts_of answer_text
parts_text m c = ap (λ t. codes "preferred" ++ (10 ∷ t)) (lines_text m (enumerate_from 0 c))

pub parts_begin : (m : Model) (c : List Instance) → IsTrue (is_spelled m c) → BeginsThen (parts_of m c) (answer_text m c) []
parts_begin m c spelled = subst (λ t. BeginsThen (parts_of m c) t []) (parts_text m c) (Leads_begin m at_header (at_number (length c)) (parts_of m c) (parts_lead m c spelled))
