-- The test of a list of conflicts, each by its places, and that it is closed under parts: what the
-- tests of this crate are about.
use Rattle.std.specs.Prelude.{◌≡◌, ℕ, Bool, true, false, not, ◌||◌, IsTrue, List, [], ◌∷◌, slice_get, Option, Some, None, refl}
use Rattle.std.specs.Option.{option_map_or}
use Rattle.std.specs.List.{list_any, list_all}
use Rattle.std.proofs.Common.{ap, sym, ◌∙◌}
use Rattle.std.proofs.lemmas.Bool.{true≢false, and_parts, and_from, or_parts}
use Rattle.quickxplain.specs.Testers.{IsPart, IsClosedUnderParts}

-- the set keeps the request at a place
abbrev pub keeps : List Bool → ℕ → Bool
keeps keep k = option_map_or (λ b. b) (slice_get keep k) false

-- the set keeps all requests at the places of none of the conflicts
unfoldable pub keeps_none_of : {C : Type 0} → (C → List ℕ) → List C → List Bool → Bool
keeps_none_of places conflicts keep =
    not (list_any (λ c. list_all (keeps keep) (places c)) conflicts)

-- what a part keeps, the whole keeps
keeps_more : (part whole : List Bool) → IsPart part whole → (k : ℕ) → keeps part k ≡ true
    → keeps whole k ≡ true
keeps_more part whole within k kept =
    ap (λ o. option_map_or (λ b. b) o false) (within.within k (told (slice_get part k) kept))
  where
    told : (o : Option Bool) → option_map_or (λ b. b) o false ≡ true → o ≡ Some true
    told None e = absurd (true≢false (sym e))
    told (Some true) e = refl
    told (Some false) e = absurd (true≢false (sym e))

-- if all pass one test, all pass one that follows from it
all_more : (p q : ℕ → Bool) → ((k : ℕ) → p k ≡ true → q k ≡ true) → (ks : List ℕ)
    → list_all p ks ≡ true → list_all q ks ≡ true
all_more p q h [] e = refl
all_more p q h (k ∷ ks) e =
    let both = and_parts (p k) (list_all p ks) e in
    and_from (q k) (list_all q ks) (h k both.0) (all_more p q h ks both.1)

-- a test fails if one that follows from it fails
not_held : (b d : Bool) → (b ≡ true → d ≡ true) → d ≡ false → b ≡ false
not_held true d follows fails = absurd (true≢false (sym (follows refl) ∙ fails))
not_held false d follows fails = refl

-- if none passes a test, none passes one from which it follows
none_more : {C : Type 0} (p q : C → Bool) → ((c : C) → p c ≡ true → q c ≡ true) → (cs : List C)
    → list_any q cs ≡ false → list_any p cs ≡ false
none_more p q h [] e = refl
none_more p q h (c ∷ cs) e =
    let both = or_parts (q c) (list_any q cs) e in
    ap (λ b. b || list_any p cs) (not_held (p c) (q c) (h c) both.0) ∙ none_more p q h cs both.1

-- what is true when negated is false
unnot : (b : Bool) → not b ≡ true → b ≡ false
unnot true e = absurd (true≢false (sym e))
unnot false e = refl

-- Where the whole keeps all requests of no conflict, neither does a part.
pub listed_closed : {C : Type 0} (places : C → List ℕ) (conflicts : List C)
    → IsClosedUnderParts (λ keep. IsTrue (keeps_none_of places conflicts keep))
unfolding keeps_none_of
listed_closed places conflicts part whole within holds =
    let kept = λ (keep : List Bool) (c : _). list_all (keeps keep) (places c) in
    ap not (none_more (kept part) (kept whole)
    (λ c. all_more (keeps part) (keeps whole) (keeps_more part whole within) (places c)) conflicts
    (unnot (list_any (kept whole) conflicts) holds))
