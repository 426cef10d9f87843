-- Parts that lead to the number behind the last instance are those of instances that can be spelled.
use Rattle.std.proofs.Common.{◌≡◌, ℕ, ℤ, suc, ◌+◌, true, List, [], ◌∷◌, ◌++◌, map, length, refl, sym, ap, subst, ◌∙◌, append_assoc, arith}
use Rattle.std.specs.Prelude.{IsTrue}
use Rattle.std.specs.List.{list_all, flat_map, enumerate_from, zip}
use Rattle.std.proofs.lemmas.Bool.Decides.{nat_tests}
use lib.Pointwise.{pointwise}
use Rattle.prod_model.specs.declared.model.Model.{Model}
use Rattle.prod_model.specs.declared.model.AttrAt.{AttrAt}
use Rattle.prod_model.specs.declared.model.PortAt.{PortAt}
use Rattle.prod_model.specs.Forest.{is_leaf}
use Rattle.prod_model.specs.Taxonomy.{Named, attributes_of, ports_of, attributes_at}
use Rattle.config_value.specs.declared.configuration.Instance.{Instance}
use Rattle.config_value.specs.Spelled.{is_spelled_value, is_spelled_links}
use Rattle.canonical_form.specs.AnswerParts.{Part, attribute_part, port_part, end_part, header_part, instance_parts, parts_of, number_part, type_part}
use Rattle.canonical_form.specs.steps.Grammar.{State, at_header, at_header_end, at_number, at_type, at_members, Leads, is_spelled_instance}
use Rattle.canonical_form.proofs.SpelledPaths.{HasSpelledInstances, many_ports_at, length_pointwise}

abbrev pub lines_from : Model → ℕ → List Instance → List Part
lines_from m n c = flat_map (instance_parts m) (enumerate_from n c)

-- the parts are the lines of some instances that count from n to k
pub record AreLines (m : Model) (k n : ℕ) (ps : List Part) : Type 0 where
  pub c : List Instance
  pub spelled : HasSpelledInstances m c
  pub count : n + length c ≡ k
  pub parts : ps ≡ lines_from m n c

-- the parts are what is left of the line of number n, and the lines behind it
pub record IsLineEnd (m : Model) (k n : ℕ) (es : List (Named AttrAt)) (qs : List (Named PortAt)) (ps : List Part) : Type 0 where
  pub values : List ℤ
  pub links : List (List ℕ)
  pub others : List Part
  pub valued : pointwise (is_spelled_value m) (map (λ e. e.what) es) values ≡ true
  pub long : length links ≡ length qs
  pub linked : list_all is_spelled_links links ≡ true
  pub lines : AreLines m k (n + 1) others
  pub parts : ps ≡ map (attribute_part m (n + 2)) (zip es values) ++ (map (port_part (n + 2)) (zip qs links) ++ end_part (n + 2) ∷ others)

-- the parts are a type and what is left of its line
pub record IsTypeLine (m : Model) (k n : ℕ) (ps : List Part) : Type 0 where
  pub kind : ℕ
  pub others : List Part
  pub leaf : IsTrue (is_leaf m kind)
  pub line : IsLineEnd m k n (attributes_of m.types kind) (ports_of m.types kind) others
  pub parts : ps ≡ type_part m n kind ∷ others

-- the parts of instances that can be spelled, behind the header and its end
pub record AreAllLines (m : Model) (k : ℕ) (front : List Part) (ps : List Part) : Type 0 where
  pub c : List Instance
  pub spelled : HasSpelledInstances m c
  pub count : length c ≡ k
  pub parts : ps ≡ front ++ lines_from m 0 c

abbrev pub Rebuilt : Model → ℕ → State → List Part → Type 0
Rebuilt m k at_header ps = AreAllLines m k (header_part ∷ end_part 1 ∷ []) ps
Rebuilt m k at_header_end ps = AreAllLines m k (end_part 1 ∷ []) ps
Rebuilt m k (at_number n) ps = AreLines m k n ps
Rebuilt m k (at_type n) ps = IsTypeLine m k n ps
Rebuilt m k (at_members n es qs) ps = IsLineEnd m k n es qs ps

same_number : (n k : ℕ) → at_number n ≡ at_number k → n ≡ k
same_number n k same = cc

no_lines : (m : Model) (k n : ℕ) → n ≡ k → AreLines m k n []
no_lines m k n same = record { c = []; spelled = refl; count = omega arith; parts = refl }

rebuilt_end : (m : Model) (k n : ℕ) (p : Part) (ps : List Part) → p ≡ end_part (n + 2) → AreLines m k (n + 1) ps → IsLineEnd m k n [] [] (p ∷ ps)
rebuilt_end m k n p ps is lines = record { values = []; links = []; others = ps; valued = refl; long = refl; linked = refl; lines = lines; parts = ap (λ q. q ∷ ps) is }

rebuilt_port : (m : Model) (k n : ℕ) (q : Named PortAt) (qs : List (Named PortAt)) (links : List ℕ) (p : Part) (ps : List Part) → IsTrue (is_spelled_links links) → p ≡ port_part (n + 2) (q, links)
    → IsLineEnd m k n [] qs ps → IsLineEnd m k n [] (q ∷ qs) (p ∷ ps)
rebuilt_port m k n q qs links p ps spelled is line =
    let more = line.linked in
    let length_is = line.long in
    record {
      values = line.values;
      links = links ∷ line.links;
      others = line.others;
      valued = line.valued;
      long = ap suc length_is;
      linked = grind (arith);
      lines = line.lines;
      parts = ap (λ r. r ∷ ps) is ∙ ap (λ rs. port_part (n + 2) (q, links) ∷ rs) line.parts;
    }

rebuilt_attribute : (m : Model) (k n : ℕ) (e : Named AttrAt) (es : List (Named AttrAt)) (qs : List (Named PortAt)) (v : ℤ) (p : Part) (ps : List Part) → IsTrue (is_spelled_value m e.what v)
    → p ≡ attribute_part m (n + 2) (e, v) → IsLineEnd m k n es qs ps → IsLineEnd m k n (e ∷ es) qs (p ∷ ps)
rebuilt_attribute m k n e es qs v p ps spelled is line =
    let more = line.valued in
    record {
      values = v ∷ line.values;
      links = line.links;
      others = line.others;
      valued = grind (arith);
      long = line.long;
      linked = line.linked;
      lines = line.lines;
      parts = ap (λ r. r ∷ ps) is ∙ ap (λ rs. attribute_part m (n + 2) (e, v) ∷ rs) line.parts;
    }

rebuilt_type : (m : Model) (k n t : ℕ) (p : Part) (ps : List Part) → IsTrue (is_leaf m t) → p ≡ type_part m n t
    → IsLineEnd m k n (attributes_of m.types t) (ports_of m.types t) ps → IsTypeLine m k n (p ∷ ps)
rebuilt_type m k n t p ps leaf is line = record { kind = t; others = ps; leaf = leaf; line = line; parts = ap (λ q. q ∷ ps) is }

pub spelled_instance : (m : Model) (x : Instance) → IsTrue (is_leaf m x.kind) → pointwise (is_spelled_value m) (attributes_at m x.kind) x.values ≡ true
    → length x.links ≡ length (ports_of m.types x.kind) → list_all is_spelled_links x.links ≡ true → is_spelled_instance m x ≡ true
spelled_instance m x leaf valued long linked =
    let values = length_pointwise (is_spelled_value m) (attributes_at m x.kind) x.values valued in
    let ports = many_ports_at m x.kind in
    grind (arith, nat_tests)

line_parts : (m : Model) (n : ℕ) (x : Instance) (others : List Part)
    → number_part n ∷ type_part m n x.kind ∷ (map (attribute_part m (n + 2)) (zip (attributes_of m.types x.kind) x.values) ++ (map (port_part (n + 2)) (zip (ports_of m.types x.kind) x.links) ++ end_part (n + 2) ∷ others))
    ≡ instance_parts m (n, x) ++ others
unfolding instance_parts
line_parts m n x others = simp append_assoc

rebuilt_line : (m : Model) (k n : ℕ) (p : Part) (ps : List Part) → p ≡ number_part n → IsTypeLine m k n ps → AreLines m k n (p ∷ ps)
rebuilt_line m k n p ps is typed =
    let x : Instance = record { kind = typed.kind; values = typed.line.values; links = typed.line.links } in
    let here = spelled_instance m x typed.leaf typed.line.valued typed.line.long typed.line.linked in
    let more = typed.line.lines in
    record {
      c = x ∷ more.c;
      spelled = grind (arith);
      count = omega arith;
      parts = ap (λ q. q ∷ ps) is ∙ ap (λ rs. number_part n ∷ rs) typed.parts ∙ ap (λ rs. number_part n ∷ type_part m n typed.kind ∷ rs) typed.line.parts
          ∙ line_parts m n x typed.line.others ∙ ap (λ rs. instance_parts m (n, x) ++ rs) more.parts;
    }

rebuild : (m : Model) (k : ℕ) (ps : List Part) (s : State) → Leads m s ps (at_number k) → Rebuilt m k s ps
rebuild m k [] at_header leads = absurd (cc)
rebuild m k [] at_header_end leads = absurd (cc)
rebuild m k [] (at_number n) leads = no_lines m k n (same_number n k leads)
rebuild m k [] (at_type n) leads = absurd (cc)
rebuild m k [] (at_members n es qs) leads = absurd (cc)
rebuild m k (p ∷ ps) at_header leads =
    let more : AreAllLines m k (end_part 1 ∷ []) ps = rebuild m k ps at_header_end (subst (λ s. Leads m s ps (at_number k)) leads.1.1 leads.2) in
    record { c = more.c; spelled = more.spelled; count = more.count; parts = ap (λ q. q ∷ ps) leads.1.0 ∙ ap (λ rs. header_part ∷ rs) more.parts }
rebuild m k (p ∷ ps) at_header_end leads =
    let more : AreLines m k 0 ps = rebuild m k ps (at_number 0) (subst (λ s. Leads m s ps (at_number k)) leads.1.1 leads.2) in
    record { c = more.c; spelled = more.spelled; count = omega arith; parts = ap (λ q. q ∷ ps) leads.1.0 ∙ ap (λ rs. end_part 1 ∷ rs) more.parts }
rebuild m k (p ∷ ps) (at_number n) leads =
    let more : IsTypeLine m k n ps = rebuild m k ps (at_type n) (subst (λ s. Leads m s ps (at_number k)) leads.1.2 leads.2) in
    rebuilt_line m k n p ps leads.1.1 more
rebuild m k (p ∷ ps) (at_type n) leads =
    let t = leads.1.0 in
    let more : IsLineEnd m k n (attributes_of m.types t) (ports_of m.types t) ps =
    rebuild m k ps (at_members n (attributes_of m.types t) (ports_of m.types t)) (subst (λ s. Leads m s ps (at_number k)) leads.1.3 leads.2) in
    rebuilt_type m k n t p ps leads.1.1 leads.1.2 more
rebuild m k (p ∷ ps) (at_members n (e ∷ es) qs) leads =
    let more : IsLineEnd m k n es qs ps = rebuild m k ps (at_members n es qs) (subst (λ s. Leads m s ps (at_number k)) leads.1.3 leads.2) in
    rebuilt_attribute m k n e es qs leads.1.0 p ps leads.1.1 leads.1.2 more
rebuild m k (p ∷ ps) (at_members n [] (q ∷ qs)) leads =
    let more : IsLineEnd m k n [] qs ps = rebuild m k ps (at_members n [] qs) (subst (λ s. Leads m s ps (at_number k)) leads.1.3 leads.2) in
    rebuilt_port m k n q qs leads.1.0 p ps leads.1.1 leads.1.2 more
rebuild m k (p ∷ ps) (at_members n [] []) leads =
    let more : AreLines m k (n + 1) ps = rebuild m k ps (at_number (n + 1)) (subst (λ s. Leads m s ps (at_number k)) leads.1.1 leads.2) in
    rebuilt_end m k n p ps leads.1.0 more

-- instances that can be spelled, of which these are the parts
pub record HasParts (m : Model) (k : ℕ) (ps : List Part) : Type 0 where
  pub c : List Instance
  pub spelled : HasSpelledInstances m c
  pub count : length c ≡ k
  pub parts : parts_of m c ≡ ps

pub rebuilt_all : (m : Model) (k : ℕ) (ps : List Part) → Leads m at_header ps (at_number k) → HasParts m k ps
unfolding parts_of
rebuilt_all m k ps leads = let all = rebuild m k ps at_header leads in record { c = all.c; spelled = all.spelled; count = all.count; parts = sym all.parts }
