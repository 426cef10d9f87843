-- Searches of lists.
use Rattle.std.proofs.Common.{◌≡◌, ℕ, Bool, true, false, cond, ◌||◌, List, [], ◌∷◌, map, refl, ap, ◌∙◌, Option, Some, None, is_some}
use Rattle.std.specs.Option.{option_map}
use Rattle.std.specs.List.{find, filter, list_any}
use Rattle.std.proofs.lemmas.Bool.{false≢true}
use Rattle.base_laws.specs.Places.{IsAt}
use Rattle.base_laws.proofs.Places.{find_at}

map_cons : {A B : Type 0} (f : A → B) (b : Bool) (x : A) (r : Option B) (q : Option A) → r ≡ option_map f q
    → cond b (Some (f x)) r ≡ option_map f (cond b (Some x) q)
map_cons f true x r q same = refl
map_cons f false x r q same = same

-- what is found of what f gives is what f gives of what is found
pub find_map : {A B : Type 0} (p : B → Bool) (f : A → B) (xs : List A) → find p (map f xs) ≡ option_map f (find (λ x. p (f x)) xs)
find_map p f [] = refl
find_map p f (x ∷ xs) = map_cons f (p (f x)) x (find p (map f xs)) (find (λ y. p (f y)) xs) (find_map p f xs)

filter_cons : {A : Type 0} (p test : A → Bool) (a b : Bool) (x : A) (rest : List A) (later : Option A) → test x ≡ b → (b ≡ true → a ≡ true)
    → find test rest ≡ later → find test (cond a (x ∷ rest) rest) ≡ cond b (Some x) later
filter_cons p test true b x rest later is passes same = ap (λ c. cond c (Some x) (find test rest)) is ∙ ap (cond b (Some x)) same
filter_cons p test false true x rest later is passes same = absurd (false≢true (passes refl))
filter_cons p test false false x rest later is passes same = same

-- what is searched among those that pass is found as among all, where all that it looks for pass
pub find_filter : {A : Type 0} (p test : A → Bool) (xs : List A) → ((x : A) → test x ≡ true → p x ≡ true) → find test (filter p xs) ≡ find test xs
find_filter p test [] passes = refl
find_filter p test (x ∷ xs) passes =
    filter_cons p test (p x) (test x) x (filter p xs) (find test xs) refl (passes x) (find_filter p test xs passes)

any_cons : {A : Type 0} (b any : Bool) (x : A) (rest : Option A) → any ≡ is_some rest → (b || any) ≡ is_some (cond b (Some x) rest)
any_cons true any x rest same = refl
any_cons false any x rest same = same

-- an element passes exactly where one is found
pub any_found : {A : Type 0} (p : A → Bool) (xs : List A) → list_any p xs ≡ is_some (find p xs)
any_found p [] = refl
any_found p (x ∷ xs) = any_cons (p x) (list_any p xs) x (find p xs) (any_found p xs)

found_cases : {A : Type 0} (p : A → Bool) (xs : List A) (o : Option A) → find p xs ≡ o → is_some o ≡ true
    → (k : ℕ) × (x : A) × IsAt xs k x × (p x ≡ true)
found_cases p xs None is some = absurd (false≢true some)
found_cases p xs (Some x) is some = let found = find_at p xs x is in (found.0, x, found.1, found.2)

-- where something is found, it stands at a place and passes
pub some_found : {A : Type 0} (p : A → Bool) (xs : List A) → is_some (find p xs) ≡ true → (k : ℕ) × (x : A) × IsAt xs k x × (p x ≡ true)
some_found p xs some = found_cases p xs (find p xs) refl some
