-- What is read of a list of stated expressions, one by one.
use Rattle.std.proofs.Common.{◌≡◌, ℕ, suc, ◌+◌, ◌<◌, ◌≤◌, List, [], ◌∷◌, ◌++◌, map, length, take, get_or, refl, sym, ◌∙◌, ap, subst, arith, Option, Some, None}
use Rattle.std.specs.List.{enumerate_from}
use Rattle.std.proofs.lemmas.Grind.{take_at_read}
use Rattle.std.proofs.lemmas.List.{map-append, length-map, length-take-le, take_all}
use Rattle.std.proofs.lemmas.Option.{none-some}
use Rattle.serde_json.specs.Data.{Data}
use Rattle.serde_json.specs.View.{view}
use Rattle.serde_json.specs.declared.value.Value.{Value}
use Rattle.prod_model.specs.declared.model.Model.{Model}
use Rattle.file_values.specs.declared.fault.Fault.{Fault as AFault}
use Rattle.file_meaning.specs.Faults.{Stated, HasStatedFault}
use Rattle.model_reader.specs.Stated.{FindsFault, earlier_fault, AreRead}
use Rattle.model_reader.proofs.StatedFaults.{none_stated, more_stated}

enumerate_more : {X : Type 0} (n : ℕ) (xs : List X) (y : X) → enumerate_from n (xs ++ y ∷ []) ≡ enumerate_from n xs ++ (n + length xs, y) ∷ []
enumerate_more {X} n [] y = (let e : n ≡ n + 0 = omega arith in ap (λ k. (k, y) ∷ []) e)
enumerate_more {X} n (x ∷ xs) y =
    (let e : n + 1 + length xs ≡ n + suc (length xs) = omega arith in
    let Rest : ℕ → List (ℕ × X) = λ k. (n, x) ∷ enumerate_from (n + 1) xs ++ (k, y) ∷ [] in
    ap (λ (r : List (ℕ × X)). (n, x) ∷ r) (enumerate_more (n + 1) xs y) ∙ ap Rest e)

earlier_none : (o : Option AFault) → earlier_fault o None ≡ o
earlier_none None = refl
earlier_none (Some f) = refl

taken : (all : List Value) (i : ℕ) (v : Value) → i < length all → v ≡ get_or all i v → take (i + 1) all ≡ take i all ++ v ∷ []
taken all i v within read = (take_at_read all i v within).1 ∙ ap (λ e. take i all ++ e ∷ []) (sym read)

placed_at : (all : List Value) (i : ℕ) → i < length all → length (take i all) ≡ i
placed_at all i within = length-take-le i all (omega arith)

module _ {A : Type 0} (m : Model) (state : ℕ × Data → Stated) (read : Data → A) where
  -- what values state, and what they say
  abbrev pub stated_in : List Value → List Stated
  stated_in vs = map state (enumerate_from 0 (map view vs))

  abbrev pub said_in : List Value → List A
  said_in vs = map read (map view vs)

  pub none_read : AreRead m (stated_in []) (said_in []) None []
  none_read = record { finds = none_stated m; says = λ none. refl }

  stated_more : (vs : List Value) (v : Value) → stated_in (vs ++ v ∷ []) ≡ stated_in vs ++ state (length vs, view v) ∷ []
  stated_more vs v =
      (let n : length (map view vs) ≡ length vs = length-map vs view in
      let e : 0 + length (map view vs) ≡ length vs = omega arith in
      ap (λ ds. map state (enumerate_from 0 ds)) (map-append view vs (v ∷ []))
      ∙ ap (map state) (enumerate_more 0 (map view vs) (view v))
      ∙ map-append state (enumerate_from 0 (map view vs)) ((0 + length (map view vs), view v) ∷ [])
      ∙ ap (λ k. stated_in vs ++ state (k, view v) ∷ []) e)

  said_more : (vs : List Value) (v : Value) → said_in (vs ++ v ∷ []) ≡ said_in vs ++ read (view v) ∷ []
  said_more vs v = ap (map read) (map-append view vs (v ∷ [])) ∙ map-append read (map view vs) (view v ∷ [])

  more : (all : List Value) (i : ℕ) (v : Value) (first other now : Option AFault) (items new : List A) → i < length all → v ≡ get_or all i v
      → AreRead m (stated_in (take i all)) (said_in (take i all)) first items → FindsFault (HasStatedFault m (state (i, view v) ∷ [])) other
      → now ≡ earlier_fault first other → (now ≡ None → new ≡ said_in (take i all) ++ read (view v) ∷ [])
      → AreRead m (stated_in (take (i + 1) all)) (said_in (take (i + 1) all)) now new
  more all i v first other now items new within is have one now_is says =
      (let vs = take i all in
      let Of : ℕ → Type 0 = λ k. FindsFault (HasStatedFault m (state (k, view v) ∷ [])) other in
      let here : FindsFault (HasStatedFault m (state (length vs, view v) ∷ [])) other = subst Of (sym (placed_at all i within)) one in
      let Finds : List Stated → Type 0 = λ s. FindsFault (HasStatedFault m s) now in
      let At : Option AFault → Type 0 = λ o. FindsFault (HasStatedFault m (stated_in vs ++ state (length vs, view v) ∷ [])) o in
      let finds : FindsFault (HasStatedFault m (stated_in vs ++ state (length vs, view v) ∷ [])) now =
      subst At (sym now_is) (more_stated m (stated_in vs) (state (length vs, view v) ∷ []) first other have.finds here) in
      let Read : List Value → Type 0 = λ ws. AreRead m (stated_in ws) (said_in ws) now new in
      let read_so : AreRead m (stated_in (vs ++ v ∷ [])) (said_in (vs ++ v ∷ [])) now new =
      record { finds = subst Finds (sym (stated_more vs v)) finds; says = λ none. says none ∙ sym (said_more vs v) } in
      subst Read (sym (taken all i v within is)) read_so)

  -- one more that has no fault
  pub next_sound : (all : List Value) (i : ℕ) (v : Value) (first : Option AFault) (items new : List A) (x : A) → i < length all → v ≡ get_or all i v
      → AreRead m (stated_in (take i all)) (said_in (take i all)) first items → FindsFault (HasStatedFault m (state (i, view v) ∷ [])) None
      → x ≡ read (view v) → new ≡ items ++ x ∷ [] → AreRead m (stated_in (take (i + 1) all)) (said_in (take (i + 1) all)) first new
  next_sound all i v first items new x within is have one x_is new_is =
      more all i v first None first items new within is have one (sym (earlier_none first))
      (λ none. new_is ∙ ap (λ xs. xs ++ x ∷ []) (have.says none) ∙ ap (λ y. said_in (take i all) ++ y ∷ []) x_is)

  -- one more that has one
  pub next_faulty : (all : List Value) (i : ℕ) (v : Value) (first : Option AFault) (items : List A) (f g : AFault) → i < length all → v ≡ get_or all i v
      → AreRead m (stated_in (take i all)) (said_in (take i all)) first items → FindsFault (HasStatedFault m (state (i, view v) ∷ [])) (Some f)
      → Some g ≡ earlier_fault first (Some f) → AreRead m (stated_in (take (i + 1) all)) (said_in (take (i + 1) all)) (Some g) items
  next_faulty all i v first items f g within is have one g_is =
      more all i v first (Some f) (Some g) items items within is have one g_is (λ none. absurd (none-some g (sym none)))

  -- all of them
  pub all_read : (all : List Value) (i : ℕ) (first : Option AFault) (items : List A) → length all ≤ i
      → AreRead m (stated_in (take i all)) (said_in (take i all)) first items → AreRead m (stated_in all) (said_in all) first items
  all_read all i first items end have =
      (let Read : List Value → Type 0 = λ ws. AreRead m (stated_in ws) (said_in ws) first items in subst Read (take_all i all end) have)
