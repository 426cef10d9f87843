-- The attributes and ports of a line, one after another.
use Rattle.std.proofs.Common.{◌≡◌, ℕ, ℤ, zero, suc, ◌+◌, ◌<◌, ◌≤◌, Bool, true, List, [], ◌∷◌, ◌++◌, map, length, take, drop, get_or, Some, refl, sym, ap, subst, ◌∙◌, length-append, arith}
use Rattle.std.specs.Prelude.{IsTrue, slice_get, codes}
use Rattle.std.specs.List.{list_all, zip}
use Rattle.std.proofs.lemmas.List.{map-append, length-map}
use Rattle.std.proofs.lemmas.Option.{slice_get_read}
use lib.Pointwise.{pointwise}
use Rattle.prod_model.specs.declared.model.Model.{Model}
use Rattle.prod_model.specs.declared.model.AttrAt.{AttrAt}
use Rattle.prod_model.specs.declared.model.PortAt.{PortAt}
use Rattle.prod_model.specs.declared.model.AttrDecl.{AttrDecl}
use Rattle.prod_model.specs.declared.model.PortDecl.{PortDecl}
use Rattle.prod_model.specs.Taxonomy.{Named, words_of, first_words, attributes_of, attributes_at, ports_of}
use Rattle.config_value.specs.Spelled.{is_spelled_value, is_spelled_links}
use Rattle.canonical_form.specs.declared.fault.PartCode.TheVariants.{Attribute, Port}
use Rattle.canonical_form.specs.AnswerText.{attribute_text, port_text}
use Rattle.canonical_form.specs.AnswerParts.{Part, value_end, links_end, attribute_part, port_part}
use Rattle.canonical_form.specs.BadLine.{ends_there}
use Rattle.canonical_form.specs.steps.Pieces.{is_written, is_written_value, attribute_piece, port_piece, numbers_piece}
use Rattle.canonical_form.specs.steps.Grammar.{at_members, Leads, BeginsThen, IsStuck, Reads, Stops}
use Rattle.canonical_form.specs.steps.Reading.{Takes, TakesNone}
use Rattle.canonical_form.proofs.Paths.{BeginsThen_append, Stops_then, Stops_here}
use Rattle.canonical_form.proofs.LinePieces.{attribute_piece_text}
use Rattle.canonical_form.proofs.LookUps.{same_item}
use Rattle.canonical_form.proofs.SpelledPaths.{length_map_what, length_pointwise}

-- ---- lists that grow

take_next : {X : Type 0} (xs : List X) (k : ℕ) (x : X) → slice_get xs k ≡ Some x → take (k + 1) xs ≡ take k xs ++ x ∷ []
take_next [] k x at = absurd (cc)
take_next (y ∷ ys) zero x at = let e : y ≡ x = same_item y x at in ap (λ z. z ∷ []) e
take_next (y ∷ ys) (suc k) x at = let e : suc k + 1 ≡ suc (k + 1) = omega arith in rw e (ap (λ zs. y ∷ zs) (take_next ys k x at))

drop_next : {X : Type 0} (xs : List X) (k : ℕ) (x : X) → slice_get xs k ≡ Some x → drop k xs ≡ x ∷ drop (suc k) xs
drop_next [] k x at = absurd (cc)
drop_next (y ∷ ys) zero x at = let e : y ≡ x = same_item y x at in ap (λ z. z ∷ ys) e
drop_next (y ∷ ys) (suc k) x at = drop_next ys k x at

take_drop : {X : Type 0} (k : ℕ) (xs : List X) → take k xs ++ drop k xs ≡ xs
take_drop zero xs = refl
take_drop (suc k) [] = refl
take_drop (suc k) (x ∷ xs) = ap (λ ys. x ∷ ys) (take_drop k xs)

take_whole : {X : Type 0} (k : ℕ) (xs : List X) → length xs ≤ k → take k xs ≡ xs
take_whole zero [] long = refl
take_whole zero (x ∷ xs) long = absurd (omega arith)
take_whole (suc k) [] long = refl
take_whole (suc k) (x ∷ xs) long = ap (λ ys. x ∷ ys) (take_whole k xs (omega arith))

zip_push : {X Y : Type 0} (xs : List X) (ys : List Y) (x : X) (y : Y) → length ys ≡ length xs → zip (xs ++ x ∷ []) (ys ++ y ∷ []) ≡ zip xs ys ++ (x, y) ∷ []
zip_push [] [] x y long = refl
zip_push [] (v ∷ ys) x y long = absurd (omega arith)
zip_push (u ∷ xs) [] x y long = absurd (omega arith)
zip_push (u ∷ xs) (v ∷ ys) x y long = ap (λ ps. (u, v) ∷ ps) (zip_push xs ys x y (omega arith))

passes_push : {X Y : Type 0} (test : X → Y → Bool) (xs : List X) (ys : List Y) (x : X) (y : Y) → pointwise test xs ys ≡ true → test x y ≡ true
    → pointwise test (xs ++ x ∷ []) (ys ++ y ∷ []) ≡ true
passes_push test [] [] x y all here = grind (arith)
passes_push test [] (v ∷ ys) x y all here = absurd (cc)
passes_push test (u ∷ xs) [] x y all here = absurd (cc)
passes_push test (u ∷ xs) (v ∷ ys) x y all here = let rest = passes_push test xs ys x y (grind (arith)) here in grind (arith)

pub all_push : {X : Type 0} (test : X → Bool) (xs : List X) (x : X) → list_all test xs ≡ true → test x ≡ true → list_all test (xs ++ x ∷ []) ≡ true
all_push test [] x all here = grind (arith)
all_push test (u ∷ xs) x all here = let rest = all_push test xs x (grind (arith)) here in grind (arith)

one_part : (p : Part) (bytes rest : List ℕ) → Takes p.text p.end bytes rest → BeginsThen (p ∷ []) bytes rest
one_part p bytes rest takes = (rest, takes.parts, takes.ends, refl)

-- ---- attributes

-- values of the first k attributes
pub record HasValues (m : Model) (n : ℕ) (es : List (Named AttrAt)) (k : ℕ) (bytes : List ℕ) (values : List ℤ) (rest : List ℕ) : Type 0 where
  pub begins : BeginsThen (map (attribute_part m (n + 2)) (zip (take k es) values)) bytes rest
  pub spelled : pointwise (is_spelled_value m) (map (λ e. e.what) (take k es)) values ≡ true

pub no_values : (m : Model) (n : ℕ) (es : List (Named AttrAt)) (bytes : List ℕ) → HasValues m n es 0 bytes [] bytes
no_values m n es bytes = record { begins = refl; spelled = refl }

pub values_more : (m : Model) (n : ℕ) (es : List (Named AttrAt)) (k : ℕ) (e : Named AttrAt) (bytes : List ℕ) (values : List ℤ) (rest : List ℕ) (v : ℤ) (after : List ℕ)
    → HasValues m n es k bytes values rest → slice_get es k ≡ Some e → IsTrue (is_spelled_value m e.what v) → Takes (attribute_text m (e, v)) (value_end e.what) rest after
    → HasValues m n es (k + 1) bytes (values ++ v ∷ []) after
values_more m n es k e bytes values rest v after has at spelled takes =
    let front = take k es in
    let next = take_next es k e at in
    let long : length values ≡ length front = length_pointwise (is_spelled_value m) (map (λ x. x.what) front) values has.spelled ∙ length_map_what front in
    let one = one_part (attribute_part m (n + 2) (e, v)) rest after (record { parts = takes.parts; ends = takes.ends }) in
    let parts : map (attribute_part m (n + 2)) (zip (take (k + 1) es) (values ++ v ∷ [])) ≡ map (attribute_part m (n + 2)) (zip front values) ++ attribute_part m (n + 2) (e, v) ∷ [] =
    ap (λ xs. map (attribute_part m (n + 2)) (zip xs (values ++ v ∷ []))) next ∙ ap (map (attribute_part m (n + 2))) (zip_push front values e v long)
    ∙ map-append (attribute_part m (n + 2)) (zip front values) ((e, v) ∷ []) in
    let whats : map (λ x. x.what) (take (k + 1) es) ≡ map (λ x. x.what) front ++ e.what ∷ [] = ap (map (λ x. x.what)) next ∙ map-append (λ x. x.what) front (e ∷ []) in
    record {
      begins = subst (λ ps. BeginsThen ps bytes after) (sym parts) (BeginsThen_append (map (attribute_part m (n + 2)) (zip front values)) (attribute_part m (n + 2) (e, v) ∷ []) bytes rest after has.begins one);
      spelled = subst (λ xs. pointwise (is_spelled_value m) xs (values ++ v ∷ []) ≡ true) (sym whats) (passes_push (is_spelled_value m) (map (λ x. x.what) front) values e.what v has.spelled spelled);
    }

front_leads : (m : Model) (n : ℕ) (front back : List (Named AttrAt)) (ps : List (Named PortAt)) (vs : List ℤ)
    → pointwise (is_spelled_value m) (map (λ a. a.what) front) vs ≡ true
    → Leads m (at_members n (front ++ back) ps) (map (attribute_part m (n + 2)) (zip front vs)) (at_members n back ps)
front_leads m n [] back ps [] valued = refl
front_leads m n [] back ps (v ∷ vs) valued = absurd (cc)
front_leads m n (a ∷ front) back ps [] valued = absurd (cc)
front_leads m n (a ∷ front) back ps (v ∷ vs) valued =
    (at_members n (front ++ back) ps, (v, grind (arith), refl, refl), front_leads m n front back ps vs (grind (arith)))

pub values_read : (m : Model) (n : ℕ) (es : List (Named AttrAt)) (ps : List (Named PortAt)) (k : ℕ) (bytes : List ℕ) (values : List ℤ) (rest : List ℕ)
    → HasValues m n es k bytes values rest → Reads m (at_members n es ps) bytes (at_members n (drop k es) ps) rest
values_read m n es ps k bytes values rest has = record {
  read = map (attribute_part m (n + 2)) (zip (take k es) values);
  leads = subst (λ xs. Leads m (at_members n xs ps) (map (attribute_part m (n + 2)) (zip (take k es) values)) (at_members n (drop k es) ps)) (take_drop k es) (front_leads m n (take k es) (drop k es) ps values has.spelled);
  begins = has.begins;
}

-- no value of the next attribute is there
attribute_stuck : (m : Model) (n : ℕ) (e : Named AttrAt) (es : List (Named AttrAt)) (ps : List (Named PortAt)) (bytes : List ℕ)
    → TakesNone (λ v. attribute_text m (e, v)) (λ v. value_end e.what) (is_spelled_value m e.what) bytes → IsStuck m (at_members n (e ∷ es) ps) bytes
attribute_stuck m n e es ps bytes none p t behind follows parts ends =
    none follows.0 behind follows.1 (record {
      parts = parts ∙ ap (λ (q : Part). q.text ++ behind) follows.2;
      ends = subst (λ (q : Part). IsTrue (ends_there q.end behind)) follows.2 ends;
    })

pub values_stop : (m : Model) (n : ℕ) (es : List (Named AttrAt)) (ps : List (Named PortAt)) (k : ℕ) (e : Named AttrAt) (bytes : List ℕ) (values : List ℤ) (rest : List ℕ)
    → HasValues m n es k bytes values rest → slice_get es k ≡ Some e
    → TakesNone (λ v. attribute_text m (e, v)) (λ v. value_end e.what) (is_spelled_value m e.what) rest → Stops m (at_members n es ps) bytes (n + 2) Attribute
values_stop m n es ps k e bytes values rest has at none =
    let reads = subst (λ xs. Reads m (at_members n es ps) bytes (at_members n xs ps) rest) (drop_next es k e at) (values_read m n es ps k bytes values rest has) in
    Stops_then m (at_members n es ps) (at_members n (e ∷ drop (suc k) es) ps) bytes rest (n + 2) Attribute reads
    (Stops_here m (at_members n (e ∷ drop (suc k) es) ps) rest (attribute_stuck m n e (drop (suc k) es) ps rest none) (λ j same. absurd (cc)))

-- ---- an attribute and its first declaration

pub record IsEntry (m : Model) (es : List (Named AttrAt)) (k : ℕ) (d : AttrDecl) (a : AttrAt) : Type 0 where
  pub entry : Named AttrAt
  pub at : slice_get es k ≡ Some entry
  pub name : d.name ≡ entry.name
  pub words : words_of d.domain ≡ first_words m entry.what.id
  pub what : entry.what ≡ a

pub entry_at : {R : Type 0} (read : R → AttrDecl) (m : Model) (firsts : List R) (es : List (Named AttrAt)) (k : ℕ) (r : R) (a : AttrAt)
    → map (λ d. (read d).name) firsts ≡ map (λ e. e.name) es → map (λ d. words_of (read d).domain) firsts ≡ map (λ b. first_words m b.id) (map (λ e. e.what) es)
    → slice_get firsts k ≡ Some r → slice_get (map (λ e. e.what) es) k ≡ Some a → IsEntry m es k (read r) a
entry_at read m [] es k r a names words at_r at_a = absurd (cc)
entry_at read m (q ∷ firsts) [] k r a names words at_r at_a = absurd (cc)
entry_at {R = R} read m (q ∷ firsts) (e ∷ es) zero r a names words at_r at_a =
    let same : q ≡ r = same_item q r at_r in
    let name : (read q).name ≡ e.name = cc in
    let first : words_of (read q).domain ≡ first_words m e.what.id = cc in
    record {
      entry = e;
      at = refl;
      name = ap (λ (x : R). (read x).name) (sym same) ∙ name;
      words = ap (λ (x : R). words_of (read x).domain) (sym same) ∙ first;
      what = same_item e.what a at_a;
    }
entry_at read m (q ∷ firsts) (e ∷ es) (suc k) r a names words at_r at_a =
    let more = entry_at read m firsts es k r a (cc) (cc) at_r at_a in
    record { entry = more.entry; at = more.at; name = more.name; words = more.words; what = more.what }

-- what is read by the first declaration is an attribute and its value
pub entry_takes : (m : Model) (d : AttrDecl) (e : Named AttrAt) (v : ℤ) (bytes rest : List ℕ) → d.name ≡ e.name → words_of d.domain ≡ first_words m e.what.id
    → Takes (attribute_piece (d, (e.what, v))) (value_end e.what) bytes rest → Takes (attribute_text m (e, v)) (value_end e.what) bytes rest
entry_takes m d e v bytes rest name words takes = record { parts = takes.parts ∙ ap (λ t. t ++ rest) (attribute_piece_text m d e v name words); ends = takes.ends }

pub entry_written : (m : Model) (d : AttrDecl) (a : AttrAt) (v : ℤ) → words_of d.domain ≡ first_words m a.id → is_written (d, (a, v)) ≡ is_spelled_value m a v
entry_written m d a v words = ap (λ ws. is_written_value (length ws) a.domain v) words

pub entry_takes_none : (m : Model) (d : AttrDecl) (e : Named AttrAt) (bytes : List ℕ) → d.name ≡ e.name → words_of d.domain ≡ first_words m e.what.id
    → TakesNone (λ v. attribute_piece (d, (e.what, v))) (λ v. value_end e.what) (λ v. is_written (d, (e.what, v))) bytes
    → TakesNone (λ v. attribute_text m (e, v)) (λ v. value_end e.what) (is_spelled_value m e.what) bytes
entry_takes_none m d e bytes name words none v rest spelled takes =
    none v rest (entry_written m d e.what v words ∙ spelled) (record { parts = takes.parts ∙ ap (λ t. t ++ rest) (sym (attribute_piece_text m d e v name words)); ends = takes.ends })

-- ---- ports

-- links of the first k ports
pub record HasLinks (n : ℕ) (qs : List (Named PortAt)) (k : ℕ) (bytes : List ℕ) (links : List (List ℕ)) (rest : List ℕ) : Type 0 where
  pub begins : BeginsThen (map (port_part (n + 2)) (zip (take k qs) links)) bytes rest
  pub long : length links ≡ length (take k qs)
  pub spelled : list_all is_spelled_links links ≡ true

pub no_ports : (n : ℕ) (qs : List (Named PortAt)) (bytes : List ℕ) → HasLinks n qs 0 bytes [] bytes
no_ports n qs bytes = record { begins = refl; long = refl; spelled = refl }

pub links_more : (n : ℕ) (qs : List (Named PortAt)) (k : ℕ) (q : Named PortAt) (bytes : List ℕ) (links : List (List ℕ)) (rest js after : List ℕ)
    → HasLinks n qs k bytes links rest → slice_get qs k ≡ Some q → IsTrue (is_spelled_links js) → Takes (port_text (q, js)) (links_end js) rest after
    → HasLinks n qs (k + 1) bytes (links ++ js ∷ []) after
links_more n qs k q bytes links rest js after has at spelled takes =
    let front = take k qs in
    let next = take_next qs k q at in
    let one = one_part (port_part (n + 2) (q, js)) rest after (record { parts = takes.parts; ends = takes.ends }) in
    let parts : map (port_part (n + 2)) (zip (take (k + 1) qs) (links ++ js ∷ [])) ≡ map (port_part (n + 2)) (zip front links) ++ port_part (n + 2) (q, js) ∷ [] =
    ap (λ xs. map (port_part (n + 2)) (zip xs (links ++ js ∷ []))) next ∙ ap (map (port_part (n + 2))) (zip_push front links q js has.long)
    ∙ map-append (port_part (n + 2)) (zip front links) ((q, js) ∷ []) in
    let before = has.long in
    let pushed_links = length-append links (js ∷ []) in
    let pushed_ports = length-append front (q ∷ []) in
    let taken = ap length next in
    record {
      begins = subst (λ ps. BeginsThen ps bytes after) (sym parts) (BeginsThen_append (map (port_part (n + 2)) (zip front links)) (port_part (n + 2) (q, js) ∷ []) bytes rest after has.begins one);
      long = omega arith;
      spelled = all_push is_spelled_links links js has.spelled spelled;
    }

front_ports_lead : (m : Model) (n : ℕ) (front back : List (Named PortAt)) (ls : List (List ℕ)) → length ls ≡ length front → list_all is_spelled_links ls ≡ true
    → Leads m (at_members n [] (front ++ back)) (map (port_part (n + 2)) (zip front ls)) (at_members n [] back)
front_ports_lead m n [] back [] long linked = refl
front_ports_lead m n [] back (l ∷ ls) long linked = absurd (omega arith)
front_ports_lead m n (p ∷ front) back [] long linked = absurd (omega arith)
front_ports_lead m n (p ∷ front) back (l ∷ ls) long linked =
    (at_members n [] (front ++ back), (l, grind (arith), refl, refl), front_ports_lead m n front back ls (omega arith) (grind (arith)))

links_read : (m : Model) (n : ℕ) (qs : List (Named PortAt)) (k : ℕ) (bytes : List ℕ) (links : List (List ℕ)) (rest : List ℕ)
    → HasLinks n qs k bytes links rest → Reads m (at_members n [] qs) bytes (at_members n [] (drop k qs)) rest
links_read m n qs k bytes links rest has = record {
  read = map (port_part (n + 2)) (zip (take k qs) links);
  leads = subst (λ xs. Leads m (at_members n [] xs) (map (port_part (n + 2)) (zip (take k qs) links)) (at_members n [] (drop k qs))) (take_drop k qs) (front_ports_lead m n (take k qs) (drop k qs) links has.long has.spelled);
  begins = has.begins;
}

-- no links of the next port are there
port_stuck : (m : Model) (n : ℕ) (q : Named PortAt) (qs : List (Named PortAt)) (bytes : List ℕ)
    → TakesNone (λ js. port_text (q, js)) links_end is_spelled_links bytes → IsStuck m (at_members n [] (q ∷ qs)) bytes
port_stuck m n q qs bytes none p t behind follows parts ends =
    none follows.0 behind follows.1 (record {
      parts = parts ∙ ap (λ (r : Part). r.text ++ behind) follows.2;
      ends = subst (λ (r : Part). IsTrue (ends_there r.end behind)) follows.2 ends;
    })

pub links_stop : (m : Model) (n : ℕ) (qs : List (Named PortAt)) (k : ℕ) (q : Named PortAt) (bytes : List ℕ) (links : List (List ℕ)) (rest : List ℕ)
    → HasLinks n qs k bytes links rest → slice_get qs k ≡ Some q → TakesNone (λ js. port_text (q, js)) links_end is_spelled_links rest → Stops m (at_members n [] qs) bytes (n + 2) Port
links_stop m n qs k q bytes links rest has at none =
    let reads = subst (λ xs. Reads m (at_members n [] qs) bytes (at_members n [] xs) rest) (drop_next qs k q at) (links_read m n qs k bytes links rest has) in
    Stops_then m (at_members n [] qs) (at_members n [] (q ∷ drop (suc k) qs)) bytes rest (n + 2) Port reads
    (Stops_here m (at_members n [] (q ∷ drop (suc k) qs)) rest (port_stuck m n q (drop (suc k) qs) rest none) (λ j same. absurd (cc)))

-- ---- a port and its first declaration

pub record IsPort (qs : List (Named PortAt)) (k : ℕ) (d : PortDecl) : Type 0 where
  pub port : Named PortAt
  pub at : slice_get qs k ≡ Some port
  pub name : d.name ≡ port.name

pub port_at : {R : Type 0} (read : R → PortDecl) (firsts : List R) (qs : List (Named PortAt)) (k : ℕ) (r : R)
    → map (λ d. (read d).name) firsts ≡ map (λ e. e.name) qs → slice_get firsts k ≡ Some r → IsPort qs k (read r)
port_at read [] qs k r names at_r = absurd (cc)
port_at read (x ∷ firsts) [] k r names at_r = absurd (cc)
port_at {R = R} read (x ∷ firsts) (q ∷ qs) zero r names at_r =
    let same : x ≡ r = same_item x r at_r in
    let name : (read x).name ≡ q.name = cc in
    record { port = q; at = refl; name = ap (λ (y : R). (read y).name) (sym same) ∙ name }
port_at read (x ∷ firsts) (q ∷ qs) (suc k) r names at_r =
    let more = port_at read firsts qs k r (cc) at_r in record { port = more.port; at = more.at; name = more.name }

port_piece_text : (d : PortDecl) (q : Named PortAt) (js : List ℕ) → d.name ≡ q.name → port_piece (d, js) ≡ port_text (q, js)
unfolding port_piece
port_piece_text d q js name = ap (λ n. codes " " ++ n ++ codes ":" ++ numbers_piece js) name

pub port_takes : (d : PortDecl) (q : Named PortAt) (js bytes rest : List ℕ) → d.name ≡ q.name → Takes (port_piece (d, js)) (links_end js) bytes rest → Takes (port_text (q, js)) (links_end js) bytes rest
port_takes d q js bytes rest name takes = record { parts = takes.parts ∙ ap (λ t. t ++ rest) (port_piece_text d q js name); ends = takes.ends }

pub port_takes_none : (d : PortDecl) (q : Named PortAt) (bytes : List ℕ) → d.name ≡ q.name → TakesNone (λ js. port_piece (d, js)) links_end is_spelled_links bytes
    → TakesNone (λ js. port_text (q, js)) links_end is_spelled_links bytes
port_takes_none d q bytes name none js rest spelled takes =
    none js rest spelled (record { parts = takes.parts ∙ ap (λ t. t ++ rest) (sym (port_piece_text d q js name)); ends = takes.ends })

-- ---- all of them

pub values_all : (m : Model) (n : ℕ) (es : List (Named AttrAt)) (k : ℕ) (bytes : List ℕ) (values : List ℤ) (rest : List ℕ) → length es ≤ k → HasValues m n es k bytes values rest
    → BeginsThen (map (attribute_part m (n + 2)) (zip es values)) bytes rest × (pointwise (is_spelled_value m) (map (λ e. e.what) es) values ≡ true)
values_all m n es k bytes values rest long has =
    subst (λ xs. BeginsThen (map (attribute_part m (n + 2)) (zip xs values)) bytes rest × (pointwise (is_spelled_value m) (map (λ e. e.what) xs) values ≡ true)) (take_whole k es long) (has.begins, has.spelled)

pub links_all : (n : ℕ) (qs : List (Named PortAt)) (k : ℕ) (bytes : List ℕ) (links : List (List ℕ)) (rest : List ℕ) → length qs ≤ k → HasLinks n qs k bytes links rest
    → BeginsThen (map (port_part (n + 2)) (zip qs links)) bytes rest × (length links ≡ length qs)
links_all n qs k bytes links rest long has =
    subst (λ xs. BeginsThen (map (port_part (n + 2)) (zip xs links)) bytes rest × (length links ≡ length xs)) (take_whole k qs long) (has.begins, has.long)

-- ---- the steps, by first declarations

pub next_entry : {R : Type 0} (read : R → AttrDecl) (m m' : Model) (t : ℕ) (firsts : List R) (attrs : List AttrAt) (k : ℕ) (r : R) (a : AttrAt) → m' ≡ m
    → map (λ d. (read d).name) firsts ≡ map (λ e. e.name) (attributes_of m'.types t)
    → map (λ d. words_of (read d).domain) firsts ≡ map (λ b. first_words m' b.id) (attributes_at m' t)
    → attrs ≡ attributes_at m t → k < length attrs → r ≡ get_or firsts k r → a ≡ get_or attrs k a → IsEntry m (attributes_of m.types t) k (read r) a
next_entry read m m' t firsts attrs k r a same names words is within at_r at_a =
    let names' = subst (λ (x : Model). map (λ d. (read d).name) firsts ≡ map (λ e. e.name) (attributes_of x.types t)) same names in
    let words' = subst (λ (x : Model). map (λ d. words_of (read d).domain) firsts ≡ map (λ b. first_words x b.id) (attributes_at x t)) same words in
    let many : length firsts ≡ length (attributes_of m.types t) = sym (length-map firsts (λ d. (read d).name)) ∙ ap length names' ∙ length-map (attributes_of m.types t) (λ e. e.name) in
    let long : length attrs ≡ length (attributes_of m.types t) = ap length is ∙ length_map_what (attributes_of m.types t) in
    let item = subst (λ xs. slice_get xs k ≡ Some a) is (slice_get_read attrs (length attrs) k a refl within at_a) in
    entry_at read m firsts (attributes_of m.types t) k r a names' words' (slice_get_read firsts (length firsts) k r refl (omega arith) at_r) item

pub values_next : (m : Model) (n : ℕ) (es : List (Named AttrAt)) (k : ℕ) (d : AttrDecl) (a : AttrAt) (bytes : List ℕ) (values : List ℤ) (rest : List ℕ) (v : ℤ) (after : List ℕ) (new : List ℤ)
    → IsEntry m es k d a → HasValues m n es k bytes values rest → IsTrue (is_written (d, (a, v))) → Takes (attribute_piece (d, (a, v))) (value_end a) rest after
    → new ≡ values ++ v ∷ [] → HasValues m n es (k + 1) bytes new after
values_next m n es k d a bytes values rest v after new e has written takes pushed =
    let both = subst (λ (b : AttrAt). IsTrue (is_written (d, (b, v))) × Takes (attribute_piece (d, (b, v))) (value_end b) rest after) (sym e.what) (written, takes) in
    let spelled : IsTrue (is_spelled_value m e.entry.what v) = sym (entry_written m d e.entry.what v e.words) ∙ both.0 in
    subst (λ vs. HasValues m n es (k + 1) bytes vs after) (sym pushed)
    (values_more m n es k e.entry bytes values rest v after has e.at spelled (entry_takes m d e.entry v rest after e.name e.words both.1))

pub values_refused : (m : Model) (n : ℕ) (es : List (Named AttrAt)) (ps : List (Named PortAt)) (k : ℕ) (d : AttrDecl) (a : AttrAt) (bytes : List ℕ) (values : List ℤ) (rest : List ℕ)
    → IsEntry m es k d a → HasValues m n es k bytes values rest → TakesNone (λ v. attribute_piece (d, (a, v))) (λ v. value_end a) (λ v. is_written (d, (a, v))) rest
    → Stops m (at_members n es ps) bytes (n + 2) Attribute
values_refused m n es ps k d a bytes values rest e has none =
    let none' = subst (λ (b : AttrAt). TakesNone (λ v. attribute_piece (d, (b, v))) (λ v. value_end b) (λ v. is_written (d, (b, v))) rest) (sym e.what) none in
    values_stop m n es ps k e.entry bytes values rest has e.at (entry_takes_none m d e.entry rest e.name e.words none')

pub next_port : {R : Type 0} (read : R → PortDecl) (m m' : Model) (t : ℕ) (firsts items : List R) (k : ℕ) (r : R) → m' ≡ m
    → map (λ d. (read d).name) firsts ≡ map (λ e. e.name) (ports_of m'.types t) → items ≡ firsts → k < length items → r ≡ get_or items k r
    → IsPort (ports_of m.types t) k (read r)
next_port read m m' t firsts items k r same names is within at_r =
    let names' = subst (λ (x : Model). map (λ d. (read d).name) firsts ≡ map (λ e. e.name) (ports_of x.types t)) same names in
    let at = subst (λ xs. slice_get xs k ≡ Some r) is (slice_get_read items (length items) k r refl within at_r) in
    port_at read firsts (ports_of m.types t) k r names' at

pub links_next : (n : ℕ) (qs : List (Named PortAt)) (k : ℕ) (d : PortDecl) (bytes : List ℕ) (links : List (List ℕ)) (rest js after : List ℕ) (new : List (List ℕ))
    → IsPort qs k d → HasLinks n qs k bytes links rest → IsTrue (is_spelled_links js) × Takes (port_piece (d, js)) (links_end js) rest after → new ≡ links ++ js ∷ []
    → HasLinks n qs (k + 1) bytes new after
links_next n qs k d bytes links rest js after new p has takes pushed =
    subst (λ ls. HasLinks n qs (k + 1) bytes ls after) (sym pushed)
    (links_more n qs k p.port bytes links rest js after has p.at takes.0 (port_takes d p.port js rest after p.name takes.1))

pub links_refused : (m : Model) (n : ℕ) (qs : List (Named PortAt)) (k : ℕ) (d : PortDecl) (bytes : List ℕ) (links : List (List ℕ)) (rest : List ℕ)
    → IsPort qs k d → HasLinks n qs k bytes links rest → TakesNone (λ js. port_piece (d, js)) links_end is_spelled_links rest → Stops m (at_members n [] qs) bytes (n + 2) Port
links_refused m n qs k d bytes links rest p has none = links_stop m n qs k p.port bytes links rest has p.at (port_takes_none d p.port rest p.name none)
