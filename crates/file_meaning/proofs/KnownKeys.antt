-- The place of a fault has keys of the list alone, so that it can be written.
use Rattle.std.proofs.Common.{ℕ, ◌+◌, Bool, true, false, List, [], ◌∷◌, ◌++◌, map, length, refl, subst, ◌∙◌, Option, Some, None, inl, inr}
use Rattle.std.specs.Prelude.{IsTrue, Contains}
use Rattle.std.specs.Option.{option_map_or}
use Rattle.std.specs.List.{list_all, enumerate_from}
use Rattle.std.proofs.lemmas.Bool.{and_from, and_parts}
use Rattle.std.proofs.lemmas.List.Folds.{list_all-append, list_all-map}
use Rattle.std.proofs.lemmas.List.Elements.{Contains-append_cases}
use Rattle.serde_json.specs.Data.{Data, null, boolean, number, string, array, object, Items, no_items, item}
use Rattle.base_laws.specs.Places.{IsAt}
use Rattle.base_laws.proofs.Places.{map_at}
use Rattle.base_laws.proofs.Elements.{at_contained}
use Rattle.base_laws.proofs.Tests.{list_all_at, list_all_from}
use Rattle.prod_model.specs.declared.model.Model.{Model}
use Rattle.file_values.specs.declared.format.Format.{Format}
use Rattle.file_values.specs.declared.part.Part.{Part}
use Rattle.file_values.specs.declared.part.Part.TheVariants.{At as at}
use Rattle.file_values.specs.declared.fault.Fault.{Fault}
use Rattle.file_values.specs.declared.operator.Argument.{Argument}
use Rattle.file_values.specs.declared.operator.Argument.TheVariants as argument
use Rattle.file_values.specs.declared.kind.Kind.{Kind}
use Rattle.file_values.specs.declared.kind.Kind.TheVariants.{Types, TypeDecl, Words, Bounds, Rules, Requests, Criteria}
use Rattle.file_values.specs.declared.kind.Key.{Key}
use Rattle.file_values.specs.declared.kind.Key.TheVariants as key
use Rattle.file_values.specs.Places.{is_known_key, has_known_keys, under}
use Rattle.file_values.specs.Inside.{IsInside, itself, in_member, in_item}
use Rattle.file_values.specs.Read.{items_in, items_at}
use Rattle.file_values.specs.Twice.{Placed, texts_of, texts_in, IsTwice}
use Rattle.file_values.specs.Forms.{whole_if, misformed_argument, misformed_arguments, arguments_of, misformed_array, misformed, each_misformed}
use Rattle.file_meaning.specs.ModelOf.{aim_of}
use Rattle.file_meaning.specs.Faults.{Stated, path_place, HasOwnFault, of_no_form, deep, unknown_name, wrong_whole, wrong_kind, wide, HasStatedFault, rules_of, requests_of, criteria_of, wishes_of, HasPlainFault, other_kind, wrong_length, wrong_form, twice, past_limit, declared_under, HasModelFault, unknown_type, cycle, widening, crowded, wrong_inverse, HasOrderFault, plain, expression, IsFaultOfFile, too_long, no_value, of_value}

-- each part that is a key is one of the list
abbrev pub Known : List Part → Type 0
Known place = IsTrue (has_known_keys place)

-- ---- places of values

known_key : (k : Key) → IsTrue (is_known_key (under k))
known_key key.Format = refl
known_key key.Root = refl
known_key key.Instances = refl
known_key key.Types = refl
known_key key.Bounds = refl
known_key key.Rules = refl
known_key key.Requests = refl
known_key key.Criteria = refl
known_key key.Name = refl
known_key key.Parent = refl
known_key key.Attributes = refl
known_key key.Ports = refl
known_key key.Range = refl
known_key key.Words = refl
known_key key.Kind = refl
known_key key.Target = refl
known_key key.Links = refl
known_key key.OfType = refl
known_key key.Count = refl
known_key key.Holds = refl
known_key key.Minimise = refl
known_key key.Maximise = refl
known_key key.Inverse = refl

known_under : (k : Key) (rest : List Part) → Known rest → Known (under k ∷ rest)
known_under k rest h = and_from (is_known_key (under k)) (has_known_keys rest) (known_key k) h

known_append : (p q : List Part) → Known p → Known q → Known (p ++ q)
known_append p q h g = list_all-append is_known_key p q ∙ and_from (has_known_keys p) (has_known_keys q) h g

known_inside : {format : Format} {k : Kind} {d : Data} {place : List Part} {l : Kind} {v : Data}
    → IsInside format k d place l v → Known place
known_inside itself = refl
known_inside (in_member i m listed e there {place = rest} inside) = known_under m.key rest (known_inside inside)
known_inside (in_item j is i e there {place = rest} inside) = known_inside inside

-- ---- places of texts

known_text_of : (k : Key) (list : List Part) (ds : List Data) (j : ℕ) (later : Placed)
    → Known list → IsAt (texts_of k list ds) j later → Known later.place
known_text_of k list ds j later h there =
    let from = map_at _ (enumerate_from 0 ds) j later there in
    subst (λ (t : Placed). Known t.place) from.2 (known_append list (at from.0.0 ∷ under k ∷ []) h (known_under k [] refl))

-- the texts have places of known keys
abbrev are_known : List Placed → Bool
are_known texts = list_all (λ t. has_known_keys t.place) texts

known_texts_of : (k : Key) (list : List Part) (ds : List Data) → Known list → IsTrue (are_known (texts_of k list ds))
known_texts_of k list ds h = list_all_from (λ t. has_known_keys t.place) (texts_of k list ds) (λ j later there. known_text_of k list ds j later h there)

known_words : (d : Data) (j : ℕ) (later : Placed) → IsAt (texts_in Words d) j later → Known later.place
unfolding texts_in
known_words d j later there =
    let from = map_at _ (enumerate_from 0 (items_in d)) j later there in
    subst (λ (t : Placed). Known t.place) from.2 refl

known_texts : (k : Kind) (d : Data) → IsTrue (are_known (texts_in k d))
unfolding texts_in
known_texts Types d = known_texts_of key.Name [] (items_in d) refl
known_texts TypeDecl d =
    let attributes = texts_of key.Name (under key.Attributes ∷ []) (items_at key.Attributes d) in
    let ports = texts_of key.Name (under key.Ports ∷ []) (items_at key.Ports d) in
    list_all-append (λ (t : Placed). has_known_keys t.place) attributes ports
    ∙ and_from (are_known attributes) (are_known ports)
    (known_texts_of key.Name (under key.Attributes ∷ []) (items_at key.Attributes d) refl)
    (known_texts_of key.Name (under key.Ports ∷ []) (items_at key.Ports d) refl)
known_texts Words d = list_all_from (λ t. has_known_keys t.place) (texts_in Words d) (known_words d)
known_texts Bounds d = known_texts_of key.OfType [] (items_in d) refl
known_texts Rules d = known_texts_of key.Name [] (items_in d) refl
known_texts Requests d = known_texts_of key.Name [] (items_in d) refl
known_texts Criteria d = known_texts_of key.Name [] (items_in d) refl
known_texts _ d = refl

known_twice : {format : Format} {k : Kind} {d : Data} (place : List Part) → IsTwice format k d place → Known place
known_twice place t =
    let later = t.repeated.later.place in
    let texts = texts_in t.kind t.value in
    let known = list_all_at (λ (p : Placed). has_known_keys p.place) texts (known_texts t.kind t.value) t.repeated.j t.repeated.later t.repeated.again in
    rw t.is (known_append t.front t.rest (known_inside t.inside) (rw t.repeated.is known))

-- ---- places in expressions

known_path : (path : List ℕ) → Known (path_place path)
known_path [] = refl
known_path (n ∷ path) = known_path path

abbrev all_known : List (List Part) → Bool
all_known places = list_all has_known_keys places

-- the wrong places in each value have known keys
abbrev each_known : List (Data × List (List Part)) → Bool
each_known ds = list_all (λ d. all_known d.1) ds

known_whole : (wrong : Bool) → IsTrue (all_known (whole_if wrong))
known_whole true = refl
known_whole false = refl

known_argument : (a : Argument) (d : Data) (inner : List (List Part)) → IsTrue (all_known inner) → IsTrue (all_known (misformed_argument a d inner))
known_argument argument.Text d inner h = known_whole _
known_argument argument.Factor d inner h = known_whole _
known_argument argument.Inner d inner h = h

known_arguments : (n : ℕ) (args : List Argument) (ds : List (Data × List (List Part))) → IsTrue (each_known ds) → IsTrue (all_known (misformed_arguments n args ds))
known_arguments n [] [] h = refl
known_arguments n [] (d ∷ ds) h = refl
known_arguments n (a ∷ args) [] h = refl
known_arguments n (a ∷ args) (d ∷ ds) h =
    let parts = and_parts (all_known d.1) (each_known ds) h in
    let one = misformed_argument a d.0 d.1 in
    list_all-append has_known_keys (map (λ p. at n ∷ p) one) (misformed_arguments (n + 1) args ds)
    ∙ and_from (all_known (map (λ p. at n ∷ p) one)) (all_known (misformed_arguments (n + 1) args ds))
    (list_all-map has_known_keys (λ p. at n ∷ p) one ∙ known_argument a d.0 d.1 parts.0)
    (known_arguments (n + 1) args ds parts.1)

known_array : (ds : List (Data × List (List Part))) → IsTrue (each_known ds) → IsTrue (all_known (misformed_array ds))
known_array [] h = refl
known_array (o ∷ ds) h = of_arguments (arguments_of o.0 (length ds))
  where
    of_arguments : (args : Option (List Argument)) → IsTrue (all_known (option_map_or (λ args. misformed_arguments 1 args ds) args ([] ∷ [])))
    of_arguments None = refl
    of_arguments (Some args) = known_arguments 1 args ds (and_parts (all_known o.1) (each_known ds) h).1

mutual
  known_misformed : (d : Data) → IsTrue (all_known (misformed d))
  known_misformed null = refl
  known_misformed (boolean b) = refl
  known_misformed (number n) = known_whole _
  known_misformed (string s) = refl
  known_misformed (array ds) = known_array (each_misformed ds) (known_each ds)
  known_misformed (object ms) = refl

  known_each : (ds : Items) → IsTrue (each_known (each_misformed ds))
  known_each no_items = refl
  known_each (item d ds) = and_from (all_known (misformed d)) (each_known (each_misformed ds)) (known_misformed d) (known_each ds)

known_own : {m : Model} {d : Data} {of : ℕ} {truth : Bool} (f : Fault) → HasOwnFault m d of truth f → Known f.place
known_own {d = d} f (of_no_form place is among) =
    rw is (list_all_at has_known_keys (misformed d) (known_misformed d) among.0 place (at_contained (misformed d) place among))
known_own f (deep path is has) = rw is (known_path path)
known_own f (unknown_name path is has) = rw is (known_path path)
known_own f (wrong_whole is other) = rw is refl
known_own f (wrong_kind path is has) = rw is (known_path path)
known_own f (wide path is has) = rw is (known_path path)

-- these expressions stand at places of known keys
abbrev StandKnown : List Stated → Type 0
StandKnown stated = (one : Stated) → Contains stated one → Known one.place

known_stated : {m : Model} {stated : List Stated} (f : Fault) → StandKnown stated → HasStatedFault m stated f → Known f.place
known_stated f stand fault = rw fault.is (known_append fault.one.place fault.own.place (stand fault.one fault.among) (known_own fault.own fault.has))

known_mapped : {X : Type 0} (f : X → Stated) (xs : List X) → ((x : X) → Known (f x).place) → StandKnown (map f xs)
known_mapped f xs known one among =
    let from = map_at f xs among.0 one (at_contained (map f xs) one among) in
    subst (λ (s : Stated). Known s.place) from.2 (known from.0)

known_rules : (d : Data) → StandKnown (rules_of d)
known_rules d = known_mapped _ (enumerate_from 0 (items_at key.Rules d)) (λ p. refl)

known_requests : (m : Model) (d : Data) → StandKnown (requests_of m d)
known_requests m d = known_mapped _ (enumerate_from 0 (items_at key.Requests d)) (λ p. refl)

known_criteria : (m : Model) (d : Data) → StandKnown (criteria_of m d)
known_criteria m d = known_mapped _ (enumerate_from 0 (items_at key.Criteria d)) (λ p. known_under (aim_of p.1) [] refl)

known_wishes : (m : Model) (d : Data) → StandKnown (wishes_of m d)
known_wishes m d one among = elim (Contains-append_cases (requests_of m d) (criteria_of m d) one among) [
  | inl request ↦ known_requests m d one request
  | inr criterion ↦ known_criteria m d one criterion
]

-- ---- places of faults

known_plain : {format : Format} {k : Kind} {d : Data} (f : Fault) → HasPlainFault format k d f → Known f.place
known_plain f (other_kind place is fails) = rw is (known_inside fails.inside)
known_plain f (wrong_length place is fails) = rw is (known_inside fails.inside)
known_plain f (wrong_form place is fails) = rw is (known_inside fails.inside)
known_plain f (twice place is stands) = rw is (known_twice place stands)
known_plain f (past_limit place is fails) = rw is (known_inside fails.inside)

pub known_in_model : (d : Data) (f : Fault) → HasModelFault d f → Known f.place
known_in_model d f (plain h) = known_plain f h
known_in_model d f (unknown_type place is fails) = rw is (known_inside fails.inside)
known_in_model d f (cycle t is h) = rw is refl
known_in_model d f (widening t port k is h) = rw is (known_under (declared_under port) (at k ∷ []) refl)
known_in_model d f (crowded t is h) = rw is refl
known_in_model d f (expression h) = known_stated f (known_rules d) h
known_in_model d f (wrong_inverse t k is h) = rw is refl

pub known_in_order : (m : Model) (d : Data) (f : Fault) → HasOrderFault m d f → Known f.place
known_in_order m d f (plain h) = known_plain f h
known_in_order m d f (expression h) = known_stated f (known_wishes m d) h

pub known_in_file : (HasFault : Data → Fault → Type 0) → ((d : Data) (f : Fault) → HasFault d f → Known f.place)
    → (bytes : List ℕ) (f : Fault) → IsFaultOfFile HasFault bytes f → Known f.place
known_in_file HasFault known bytes f (too_long is long) = rw is refl
known_in_file HasFault known bytes f (no_value is short none) = rw is refl
known_in_file HasFault known bytes f (of_value d short value first) = known d f first.is
