-- Lists that are written step by step.
use Rattle.std.proofs.Common.{◌≡◌, ℕ, ◌+◌, Bool, true, false, List, [], ◌∷◌, ◌++◌, map, length, take, drop, refl, ap, ap₂, sym, ◌∙◌, append_assoc, append-nil, arith, Result, Ok, Err}
use Rattle.std.specs.Prelude.{if◌then◌else◌, OnOk, OnErr}
use Rattle.std.specs.List.{filter, range_with_len}
use Rattle.std.proofs.Math.Seq.{take-append_seam}
use Rattle.std.proofs.lemmas.List.{take-append-drop, map-append}
use Rattle.std.proofs.lemmas.List.Elements.{filter-append}
use Rattle.base_laws.proofs.Ranges.{range_split}
use Rattle.reason_trail.specs.Begun.{Begins}

module _ {A : Type 0} where
  -- what is longer by some begins with what it was
  pub begins_longer : (xs ys more : List A) → more ≡ xs ++ ys → Begins xs more
  begins_longer xs ys more is = ap (take (length xs)) is ∙ take-append_seam xs ys

  pub begins_self : (xs : List A) → Begins xs xs
  begins_self xs = begins_longer xs [] xs (sym (append-nil xs))

  -- and so does what is longer than that
  pub begins_on : (xs ys zs : List A) → Begins xs ys → Begins ys zs → Begins xs zs
  begins_on xs ys zs first second =
      begins_longer xs (drop (length xs) ys ++ drop (length ys) zs) zs
      (sym (take-append-drop (length ys) zs)
      ∙ ap (λ s. s ++ drop (length ys) zs) (second ∙ sym (take-append-drop (length xs) ys) ∙ ap (λ s. s ++ drop (length xs) ys) first)
      ∙ append_assoc xs (drop (length xs) ys) (drop (length ys) zs))

  -- ---- what is still to come

  -- one more is taken
  pub left_next : (x : A) (taken more left others all : List A) → more ≡ taken ++ x ∷ [] → left ≡ x ∷ others → taken ++ left ≡ all → more ++ others ≡ all
  left_next x taken more left others all pushed next before =
      ap (λ s. s ++ others) pushed ∙ append_assoc taken (x ∷ []) others ∙ ap (λ s. taken ++ s) (sym next) ∙ before

  -- all are taken
  pub left_none : (taken left all : List A) → left ≡ [] → taken ++ left ≡ all → taken ≡ all
  left_none taken left all none before = sym (append-nil taken) ∙ ap (λ s. taken ++ s) (sym none) ∙ before

  -- ---- more than one step

  pub two_added : (old one two : List A) (x y : A) → one ≡ old ++ x ∷ [] → two ≡ one ++ y ∷ [] → two ≡ old ++ x ∷ y ∷ []
  two_added old one two x y first second = second ∙ ap (λ s. s ++ y ∷ []) first ∙ append_assoc old (x ∷ []) (y ∷ [])

  pub two_joined : (old one two xs ys : List A) → one ≡ old ++ xs → two ≡ one ++ ys → two ≡ old ++ (xs ++ ys)
  two_joined old one two xs ys first second = second ∙ ap (λ s. s ++ ys) first ∙ append_assoc old xs ys

  pub three_joined : (start one two three xs ys zs : List A) → start ≡ [] → one ≡ start ++ xs → two ≡ one ++ ys → three ≡ two ++ zs → three ≡ (xs ++ ys) ++ zs
  three_joined start one two three xs ys zs none first second third =
      third ∙ ap (λ s. s ++ zs) (second ∙ ap (λ s. s ++ ys) (first ∙ ap (λ s. s ++ xs) none))

-- ---- the end of a call

module _ {T E : Type 0} (P Q : Type 0) (follows : P → Q) where
  pub ok_then : (r : Result T E) → OnOk r P → OnOk r Q
  ok_then (Ok x) is = follows is
  ok_then (Err e) is = is

  pub err_then : (r : Result T E) → OnErr r P → OnErr r Q
  err_then (Ok x) is = is
  err_then (Err e) is = follows is

pub on_err : {T E P : Type 0} → P → (r : Result T E) → OnErr r P
on_err is (Ok x) = tt
on_err is (Err e) = is

-- ---- numbers that pass, in turn

module _ {A : Type 0} (f : ℕ → A) (p : ℕ → Bool) where
  -- what is told of those below a number
  pub told : ℕ → List A
  told n = map f (filter p (range_with_len 0 n))

  -- what the next one adds
  pub told_next : (n : ℕ) → told (n + 1) ≡ told n ++ (if p n then f n ∷ [] else [])
  unfolding told
  told_next n =
      ap (λ ns. map f (filter p ns)) (range_split 0 n 0 ∙ ap (λ k. range_with_len 0 n ++ k ∷ []) (omega arith))
      ∙ ap (map f) (filter-append p (range_with_len 0 n) (n ∷ []))
      ∙ map-append f (filter p (range_with_len 0 n)) (filter p (n ∷ []))
      ∙ ap (λ s. told n ++ s) (by (p n))
    where
      by : (b : Bool) → map f (if b then n ∷ [] else []) ≡ (if b then f n ∷ [] else [])
      by true = refl
      by false = refl

  pub tells_none : (old : List A) → old ≡ old ++ told 0
  unfolding told
  tells_none old = sym (append-nil old)

  -- a step of what tells of all
  pub tells_next : (n : ℕ) (old before after : List A) (wanted : Bool) → wanted ≡ p n → after ≡ before ++ (if wanted then f n ∷ [] else [])
      → before ≡ old ++ told n → after ≡ old ++ told (n + 1)
  tells_next n old before after wanted tests step is =
      step ∙ ap₂ (λ s b. s ++ (if b then f n ∷ [] else [])) is tests
      ∙ append_assoc old (told n) (if p n then f n ∷ [] else [])
      ∙ ap (λ s. old ++ s) (sym (told_next n))

  pub tells_all : (k n : ℕ) (old after : List A) → k ≡ n → after ≡ old ++ told k → after ≡ old ++ map f (filter p (range_with_len 0 n))
  unfolding told
  tells_all k n old after same is = is ∙ ap (λ m. old ++ map f (filter p (range_with_len 0 m))) same
