-- The pieces written from first declarations are those of an instance's line.
use Rattle.std.proofs.Common.{◌≡◌, ℕ, ℤ, pos, negsuc, true, List, [], ◌∷◌, ◌++◌, map, length, refl, ap, ◌∙◌, arith}
use Rattle.std.specs.Prelude.{codes}
use Rattle.std.specs.List.{list_all, flat_map, zip}
use Rattle.std.specs.Fmt.{signed_decimal}
use lib.Pointwise.{pointwise}
use Rattle.std.proofs.lemmas.Simd.{map-map}
use Rattle.prod_model.specs.declared.model.Model.{Model}
use Rattle.prod_model.specs.declared.model.AttrAt.{AttrAt}
use Rattle.prod_model.specs.declared.model.AttrDecl.{AttrDecl}
use Rattle.prod_model.specs.declared.model.PortDecl.{PortDecl}
use Rattle.prod_model.specs.declared.model.Domain.{Domain}
use Rattle.prod_model.specs.declared.model.Domain.TheVariants.{Range, Words}
use Rattle.prod_model.specs.Taxonomy.{Named, words_of, first_words, attributes_of, attributes_at, ports_of}
use Rattle.config_value.specs.Spelled.{is_spelled_value}
use Rattle.canonical_form.specs.AnswerText.{word_at, attribute_text, port_text}
use Rattle.canonical_form.specs.steps.Pieces.{word_piece, value_piece, is_written_value, is_written, attribute_piece, numbers_piece, port_piece}

word_piece_at : (m : Model) (a : AttrAt) (v : ℤ) → word_piece (first_words m a.id) v ≡ word_at m a v
word_piece_at m a (pos n) = refl
word_piece_at m a (negsuc n) = refl

value_piece_text : (m : Model) (a : AttrAt) (domain : Domain) (v : ℤ)
    → value_piece (first_words m a.id) domain v ≡ elim domain [ Range low high ↦ signed_decimal v | Words words ↦ word_at m a v ]
value_piece_text m a (Range low high) v = refl
value_piece_text m a (Words words) v = word_piece_at m a v

-- the piece of an attribute's first declaration is the text of the attribute
pub attribute_piece_text : (m : Model) (d : AttrDecl) (e : Named AttrAt) (v : ℤ) → d.name ≡ e.name → words_of d.domain ≡ first_words m e.what.id
    → attribute_piece (d, (e.what, v)) ≡ attribute_text m (e, v)
unfolding attribute_piece
attribute_piece_text m d e v name words =
    ap (λ n. codes " " ++ n ++ codes "=" ++ value_piece (words_of d.domain) e.what.domain v) name
    ∙ ap (λ w. codes " " ++ e.name ++ codes "=" ++ value_piece w e.what.domain v) words
    ∙ ap (λ t. codes " " ++ e.name ++ codes "=" ++ t) (value_piece_text m e.what e.what.domain v)

pub attribute_pieces : (m : Model) (firsts : List AttrDecl) (es : List (Named AttrAt)) (values : List ℤ)
    → map (λ d. d.name) firsts ≡ map (λ e. e.name) es
    → map (λ d. words_of d.domain) firsts ≡ map (λ a. first_words m a.id) (map (λ e. e.what) es)
    → flat_map attribute_piece (zip firsts (zip (map (λ e. e.what) es) values)) ≡ flat_map (attribute_text m) (zip es values)
attribute_pieces m [] [] values names words = refl
attribute_pieces m [] (e ∷ es) values names words = absurd (cc)
attribute_pieces m (d ∷ ds) [] values names words = absurd (cc)
attribute_pieces m (d ∷ ds) (e ∷ es) [] names words = refl
attribute_pieces m (d ∷ ds) (e ∷ es) (v ∷ values) names words =
    ap (λ t. t ++ flat_map attribute_piece (zip ds (zip (map (λ e. e.what) es) values))) (attribute_piece_text m d e v (cc) (cc))
    ∙ ap (λ t. attribute_text m (e, v) ++ t) (attribute_pieces m ds es values (cc) (cc))

pub all_written : (m : Model) (firsts : List AttrDecl) (attrs : List AttrAt) (values : List ℤ)
    → map (λ d. words_of d.domain) firsts ≡ map (λ a. first_words m a.id) attrs
    → pointwise (is_spelled_value m) attrs values ≡ true → list_all is_written (zip firsts (zip attrs values)) ≡ true
all_written m [] attrs values words spelled = refl
all_written m (d ∷ ds) [] values words spelled = absurd (cc)
all_written m (d ∷ ds) (a ∷ more) [] words spelled = refl
all_written m (d ∷ ds) (a ∷ more) (v ∷ values) words spelled =
    let first : words_of d.domain ≡ first_words m a.id = cc in
    let here : is_written (d, (a, v)) ≡ is_spelled_value m a v = ap (λ ws. is_written_value (length ws) a.domain v) first in
    let rest = all_written m ds more values (cc) in
    grind (arith)

pub port_pieces : {A : Type 0} (firsts : List PortDecl) (es : List (Named A)) (links : List (List ℕ))
    → map (λ d. d.name) firsts ≡ map (λ e. e.name) es
    → flat_map port_piece (zip firsts links) ≡ flat_map port_text (zip es links)
unfolding port_piece
port_pieces [] [] links names = refl
port_pieces [] (e ∷ es) links names = absurd (cc)
port_pieces (d ∷ ds) [] links names = absurd (cc)
port_pieces (d ∷ ds) (e ∷ es) [] names = refl
port_pieces (d ∷ ds) (e ∷ es) (l ∷ links) names =
    let name : d.name ≡ e.name = cc in
    ap (λ n. (codes " " ++ n ++ codes ":" ++ numbers_piece l) ++ flat_map port_piece (zip ds links)) name
    ∙ ap (λ t. port_text (e, l) ++ t) (port_pieces ds es links (cc))

-- ---- through references

module _ {R : Type 0} (read : R → AttrDecl) (m : Model) (kind : ℕ) (firsts : List R)
    (names : map (λ d. (read d).name) firsts ≡ map (λ e. e.name) (attributes_of m.types kind))
    (words : map (λ d. words_of (read d).domain) firsts ≡ map (λ a. first_words m a.id) (attributes_at m kind)) where
  pub attributes_text : (values : List ℤ)
      → flat_map attribute_piece (zip (map read firsts) (zip (attributes_at m kind) values)) ≡ flat_map (attribute_text m) (zip (attributes_of m.types kind) values)
  attributes_text values =
      attribute_pieces m (map read firsts) (attributes_of m.types kind) values (map-map (λ d. d.name) read firsts ∙ names) (map-map (λ d. words_of d.domain) read firsts ∙ words)

  pub attributes_written : (values : List ℤ) → pointwise (is_spelled_value m) (attributes_at m kind) values ≡ true
      → list_all is_written (zip (map read firsts) (zip (attributes_at m kind) values)) ≡ true
  attributes_written values = all_written m (map read firsts) (attributes_at m kind) values (map-map (λ d. words_of d.domain) read firsts ∙ words)

pub ports_text : {R : Type 0} (read : R → PortDecl) (m : Model) (kind : ℕ) (firsts : List R) (links : List (List ℕ))
    → map (λ d. (read d).name) firsts ≡ map (λ e. e.name) (ports_of m.types kind)
    → flat_map port_piece (zip (map read firsts) links) ≡ flat_map port_text (zip (ports_of m.types kind) links)
ports_text read m kind firsts links names = port_pieces (map read firsts) (ports_of m.types kind) links (map-map (λ d. d.name) read firsts ∙ names)
