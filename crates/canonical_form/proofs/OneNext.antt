-- Behind the same parts bytes go on with one part at most, and it leads to one state.
use Rattle.std.proofs.Common.{◌≡◌, ℕ, ℤ, pos, negsuc, suc, ◌+◌, ◌<◌, ◌^◌, Bool, true, List, [], ◌∷◌, ◌++◌, map, length, refl, sym, ap, subst, ◌∙◌, append_assoc, arith}
use Rattle.std.specs.Prelude.{IsTrue, codes, nat_lt}
use Rattle.std.specs.List.{list_all, join_with_byte}
use Rattle.std.specs.Fmt.{decimal, signed_decimal}
use Rattle.std.proofs.lemmas.Bool.{false≢true}
use Rattle.std.proofs.lemmas.Bool.Decides.{nat_tests}
use Rattle.std.proofs.lemmas.Int.{ints}
use Rattle.std.proofs.lemmas.List.Folds.{list_all-append}
use Rattle.std.proofs.lemmas.List.{append_cancel_left}
use Rattle.prod_model.specs.declared.model.Model.{Model}
use Rattle.prod_model.specs.declared.model.AttrAt.{AttrAt}
use Rattle.prod_model.specs.declared.model.PortAt.{PortAt}
use Rattle.prod_model.specs.declared.model.Domain.{Domain}
use Rattle.prod_model.specs.declared.model.Domain.TheVariants.{Range, Words}
use Rattle.prod_model.specs.Limits
use Rattle.prod_model.specs.Limits.{is_within}
use Rattle.prod_model.specs.Names.{is_digit}
use Rattle.prod_model.specs.Forest.{is_leaf}
use Rattle.prod_model.specs.Taxonomy.{Named, attributes_of, ports_of, first_words}
use Rattle.prod_model.specs.Valid.{IsValid}
use Rattle.config_value.specs.Spelled.{is_spelled_value, is_spelled_links, is_word_place}
use Rattle.canonical_form.specs.declared.fault.PartCode.TheVariants.{TypeName, Attribute, Port}
use Rattle.canonical_form.specs.AnswerText.{word_at, value_text, type_name}
use Rattle.canonical_form.specs.AnswerParts.{Part, belongs, behind_number, behind_name, behind_word, behind_links, value_end, links_end, attribute_part, port_part, type_part}
use Rattle.canonical_form.specs.BadLine.{ends_there}
use Rattle.canonical_form.specs.steps.Grammar.{State, at_header, at_header_end, at_number, at_type, at_members, Follows}
use Rattle.canonical_form.proofs.Tokens.{token_unique, decimal_digits, decimal_cons}
use Rattle.canonical_form.proofs.ModelTexts.{leaf_is_type, type_bytes, type_of_name, word_at_bytes}
use Rattle.canonical_form.specs.steps.Reading.{end_of_domain}

-- ---- one state

same_types : (m : Model) (n t u : ℕ) → IsValid m → IsTrue (is_leaf m t) → IsTrue (is_leaf m u) → type_part m n t ≡ type_part m n u → t ≡ u
same_types m n t u valid t_leaf u_leaf same =
    let text : codes " " ++ type_name m t ≡ codes " " ++ type_name m u = ap (λ (p : Part). p.text) same in
    type_of_name m t u valid (leaf_is_type m t t_leaf) (leaf_is_type m u u_leaf) (append_cancel_left (codes " ") _ _ text)

pub Follows_state : (m : Model) (s : State) (p : Part) (t u : State) → IsValid m → Follows m s p t → Follows m s p u → t ≡ u
Follows_state m at_header p t u valid first second = first.1 ∙ sym second.1
Follows_state m at_header_end p t u valid first second = first.1 ∙ sym second.1
Follows_state m (at_number n) p t u valid first second = first.2 ∙ sym second.2
Follows_state m (at_type n) p t u valid first second =
    first.3 ∙ ap (λ k. at_members n (attributes_of m.types k) (ports_of m.types k)) (same_types m n first.0 second.0 valid first.1 second.1 (sym first.2 ∙ second.2)) ∙ sym second.3
Follows_state m (at_members n (a ∷ as') ps) p t u valid first second = first.3 ∙ sym second.3
Follows_state m (at_members n [] (q ∷ ps)) p t u valid first second = first.3 ∙ sym second.3
Follows_state m (at_members n [] []) p t u valid first second = first.1 ∙ sym second.1

-- ---- values

pub within_pos : (n : ℕ) → is_within Limits.farthest_end (pos n) ≡ true → n < 2 ^ 64
within_pos n within = grind (arith, nat_tests, ints)

pub within_negsuc : (n : ℕ) → is_within Limits.farthest_end (negsuc n) ≡ true → suc n < 2 ^ 64
within_negsuc n within = grind (arith, nat_tests, ints)

-- a digit is no sign
pub sign_apart : (n : ℕ) (x ys : List ℕ) → n < 2 ^ 64 → decimal n ++ x ≡ 45 ∷ ys → ⊥
sign_apart n x ys fits same =
    let d = decimal_cons n fits in
    let head : d.0 ∷ (d.1 ++ x) ≡ 45 ∷ ys = sym (ap (λ t. t ++ x) d.2) ∙ same in
    let sign : d.0 ≡ 45 = cc in
    let digit : is_digit 45 ≡ true = subst (λ b. is_digit b ≡ true) sign d.3 in
    false≢true digit

signed_unique : (v w : ℤ) (x y : List ℕ) → is_within Limits.farthest_end v ≡ true → is_within Limits.farthest_end w ≡ true
    → IsTrue (ends_there behind_number x) → IsTrue (ends_there behind_number y) → signed_decimal v ++ x ≡ signed_decimal w ++ y → signed_decimal v ≡ signed_decimal w
signed_unique (pos n) (pos k) x y v_in w_in ends_x ends_y same =
    (token_unique behind_number (decimal n) (decimal k) x y (decimal_digits n (within_pos n v_in)) (decimal_digits k (within_pos k w_in)) ends_x ends_y same).0
signed_unique (pos n) (negsuc k) x y v_in w_in ends_x ends_y same = absurd (sign_apart n x (decimal (suc k) ++ y) (within_pos n v_in) same)
signed_unique (negsuc n) (pos k) x y v_in w_in ends_x ends_y same = absurd (sign_apart k y (decimal (suc n) ++ x) (within_pos k w_in) (sym same))
signed_unique (negsuc n) (negsuc k) x y v_in w_in ends_x ends_y same =
    let digits = token_unique behind_number (decimal (suc n)) (decimal (suc k)) x y (decimal_digits (suc n) (within_negsuc n v_in)) (decimal_digits (suc k) (within_negsuc k w_in)) ends_x ends_y (cc) in
    ap (λ ds. 45 ∷ ds) digits.0

abbrev value_of_domain : Model → AttrAt → Domain → ℤ → List ℕ
value_of_domain m a domain v = elim domain [ Range low high ↦ signed_decimal v | Words words ↦ word_at m a v ]

abbrev spelled_in_domain : Model → AttrAt → Domain → ℤ → Bool
spelled_in_domain m a domain v = elim domain [ Range low high ↦ is_within Limits.farthest_end v | Words words ↦ is_word_place (length (first_words m a.id)) v ]

value_unique : (m : Model) (a : AttrAt) (domain : Domain) (v w : ℤ) (x y : List ℕ) → IsValid m
    → spelled_in_domain m a domain v ≡ true → spelled_in_domain m a domain w ≡ true
    → IsTrue (ends_there (end_of_domain domain) x) → IsTrue (ends_there (end_of_domain domain) y)
    → value_of_domain m a domain v ++ x ≡ value_of_domain m a domain w ++ y → value_of_domain m a domain v ≡ value_of_domain m a domain w
value_unique m a (Range low high) v w x y valid v_in w_in ends_x ends_y same = signed_unique v w x y v_in w_in ends_x ends_y same
value_unique m a (Words words) v w x y valid v_in w_in ends_x ends_y same =
    (token_unique behind_word (word_at m a v) (word_at m a w) x y (word_at_bytes m a v valid) (word_at_bytes m a w valid) ends_x ends_y same).0

-- ---- links

abbrev pub links_text : List ℕ → List ℕ
links_text links = join_with_byte 44 (map decimal links)

digits_linked : (bs : List ℕ) → list_all is_digit bs ≡ true → list_all (belongs behind_links) bs ≡ true
digits_linked [] all = refl
digits_linked (b ∷ bs) all = let rest = digits_linked bs (grind (arith)) in grind (arith)

few_fits : (j : ℕ) → nat_lt j Limits.most_instances ≡ true → j < 2 ^ 64
few_fits j few = grind (arith, nat_tests)

links_bytes : (links : List ℕ) → list_all (λ j. nat_lt j Limits.most_instances) links ≡ true → list_all (belongs behind_links) (links_text links) ≡ true
links_bytes [] all = refl
links_bytes (j ∷ []) all = digits_linked (decimal j) (decimal_digits j (few_fits j (grind (arith))))
links_bytes (j ∷ k ∷ ks) all =
    let here = digits_linked (decimal j) (decimal_digits j (few_fits j (grind (arith)))) in
    let rest = links_bytes (k ∷ ks) (grind (arith)) in
    let both = list_all-append (belongs behind_links) (decimal j) (44 ∷ links_text (k ∷ ks)) in
    grind (arith)

links_head : (j : ℕ) (js : List ℕ) → nat_lt j Limits.most_instances ≡ true → (d : ℕ) × (ds : List ℕ) × (links_text (j ∷ js) ≡ d ∷ ds) × (is_digit d ≡ true)
links_head j [] few = decimal_cons j (few_fits j few)
links_head j (k ∷ ks) few =
    let d = decimal_cons j (few_fits j few) in
    (d.0, d.1 ++ (44 ∷ links_text (k ∷ ks)), ap (λ t. t ++ (44 ∷ links_text (k ∷ ks))) d.2, d.3)

no_link : (j : ℕ) (js x y : List ℕ) → nat_lt j Limits.most_instances ≡ true → IsTrue (ends_there behind_number x) → x ≡ links_text (j ∷ js) ++ y → ⊥
no_link j js x y few ends same =
    let d = links_head j js few in
    let head : x ≡ d.0 ∷ (d.1 ++ y) = same ∙ ap (λ t. t ++ y) d.2 in
    let out : IsTrue (ends_there behind_number (d.0 ∷ (d.1 ++ y))) = subst (λ b. IsTrue (ends_there behind_number b)) head ends in
    let digit = d.3 in
    false≢true (grind (arith))

all_few : (links : List ℕ) → IsTrue (is_spelled_links links) → list_all (λ j. nat_lt j Limits.most_instances) links ≡ true
all_few links spelled = grind (arith)

links_unique : (n : ℕ) (q : Named PortAt) (js ks x y : List ℕ) → IsTrue (is_spelled_links js) → IsTrue (is_spelled_links ks)
    → IsTrue (ends_there (links_end js) x) → IsTrue (ends_there (links_end ks) y) → links_text js ++ x ≡ links_text ks ++ y → port_part (n + 2) (q, js) ≡ port_part (n + 2) (q, ks)
links_unique n q [] [] x y js_in ks_in ends_x ends_y same = refl
links_unique n q [] (k ∷ ks) x y js_in ks_in ends_x ends_y same = let few = all_few (k ∷ ks) ks_in in absurd (no_link k ks x y (grind (arith)) ends_x same)
links_unique n q (j ∷ js) [] x y js_in ks_in ends_x ends_y same = let few = all_few (j ∷ js) js_in in absurd (no_link j js y x (grind (arith)) ends_y (sym same))
links_unique n q (j ∷ js) (k ∷ ks) x y js_in ks_in ends_x ends_y same =
    let text = (token_unique behind_links (links_text (j ∷ js)) (links_text (k ∷ ks)) x y (links_bytes (j ∷ js) (all_few (j ∷ js) js_in)) (links_bytes (k ∷ ks) (all_few (k ∷ ks) ks_in)) ends_x ends_y same).0 in
    ap (λ t. record { line = n + 2; code = Port; text = codes " " ++ q.name ++ codes ":" ++ t; end = behind_links }) text

-- ---- one part

-- the part begins the bytes, and it ends there
pub record Begins (p : Part) (bytes : List ℕ) : Type 0 where
  pub behind : List ℕ
  pub text : bytes ≡ p.text ++ behind
  pub ends : IsTrue (ends_there p.end behind)

begins_same : (p q : Part) (bytes : List ℕ) → p ≡ q → Begins p bytes → Begins q bytes
begins_same p q bytes same begins = subst (λ r. Begins r bytes) same begins

type_unique : (m : Model) (n t u : ℕ) (bytes : List ℕ) → IsValid m → Begins (type_part m n t) bytes → Begins (type_part m n u) bytes → type_part m n t ≡ type_part m n u
type_unique m n t u bytes valid first second =
    let same : codes " " ++ (type_name m t ++ first.behind) ≡ codes " " ++ (type_name m u ++ second.behind) = sym first.text ∙ second.text in
    let names = token_unique behind_name (type_name m t) (type_name m u) first.behind second.behind (type_bytes m t valid) (type_bytes m u valid) first.ends second.ends (append_cancel_left (codes " ") _ _ same) in
    ap (λ name. record { line = n + 2; code = TypeName; text = codes " " ++ name; end = behind_name }) names.0

attribute_unique : (m : Model) (n : ℕ) (a : Named AttrAt) (v w : ℤ) (bytes : List ℕ) → IsValid m → IsTrue (is_spelled_value m a.what v) → IsTrue (is_spelled_value m a.what w)
    → Begins (attribute_part m (n + 2) (a, v)) bytes → Begins (attribute_part m (n + 2) (a, w)) bytes → attribute_part m (n + 2) (a, v) ≡ attribute_part m (n + 2) (a, w)
attribute_unique m n a v w bytes valid v_in w_in first second =
    let front = codes " " ++ a.name ++ codes "=" in
    let same : front ++ (value_text m a.what v ++ first.behind) ≡ front ++ (value_text m a.what w ++ second.behind) =
    sym (append_assoc front (value_text m a.what v) first.behind) ∙ sym first.text ∙ second.text ∙ append_assoc front (value_text m a.what w) second.behind in
    let values = value_unique m a.what a.what.domain v w first.behind second.behind valid v_in w_in first.ends second.ends (append_cancel_left front _ _ same) in
    ap (λ value. record { line = n + 2; code = Attribute; text = codes " " ++ a.name ++ codes "=" ++ value; end = value_end a.what }) values

port_unique : (n : ℕ) (q : Named PortAt) (js ks bytes : List ℕ) → IsTrue (is_spelled_links js) → IsTrue (is_spelled_links ks)
    → Begins (port_part (n + 2) (q, js)) bytes → Begins (port_part (n + 2) (q, ks)) bytes → port_part (n + 2) (q, js) ≡ port_part (n + 2) (q, ks)
port_unique n q js ks bytes js_in ks_in first second =
    let front = codes " " ++ q.name ++ codes ":" in
    let same : front ++ (links_text js ++ first.behind) ≡ front ++ (links_text ks ++ second.behind) =
    sym (append_assoc front (links_text js) first.behind) ∙ sym first.text ∙ second.text ∙ append_assoc front (links_text ks) second.behind in
    links_unique n q js ks first.behind second.behind js_in ks_in first.ends second.ends (append_cancel_left front _ _ same)

pub Follows_part : (m : Model) (s : State) (p q : Part) (t u : State) (bytes : List ℕ) → IsValid m → Follows m s p t → Follows m s q u → Begins p bytes → Begins q bytes → p ≡ q
Follows_part m at_header p q t u bytes valid first second p_begins q_begins = first.0 ∙ sym second.0
Follows_part m at_header_end p q t u bytes valid first second p_begins q_begins = first.0 ∙ sym second.0
Follows_part m (at_number n) p q t u bytes valid first second p_begins q_begins = first.1 ∙ sym second.1
Follows_part m (at_type n) p q t u bytes valid first second p_begins q_begins =
    first.2 ∙ type_unique m n first.0 second.0 bytes valid (begins_same p _ bytes first.2 p_begins) (begins_same q _ bytes second.2 q_begins) ∙ sym second.2
Follows_part m (at_members n (a ∷ as') ps) p q t u bytes valid first second p_begins q_begins =
    first.2 ∙ attribute_unique m n a first.0 second.0 bytes valid first.1 second.1 (begins_same p _ bytes first.2 p_begins) (begins_same q _ bytes second.2 q_begins) ∙ sym second.2
Follows_part m (at_members n [] (o ∷ ps)) p q t u bytes valid first second p_begins q_begins =
    first.2 ∙ port_unique n o first.0 second.0 bytes first.1 second.1 (begins_same p _ bytes first.2 p_begins) (begins_same q _ bytes second.2 q_begins) ∙ sym second.2
Follows_part m (at_members n [] []) p q t u bytes valid first second p_begins q_begins = first.0 ∙ sym second.0
