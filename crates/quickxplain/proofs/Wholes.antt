-- Sets that keep all requests, and the places of a set.
use Rattle.std.proofs.Common.{◌≡◌, ℕ, zero, suc, ◌+◌, ◌<◌, List, [], ◌∷◌, ◌++◌, refl, ap, sym, ◌∙◌, arith, length, slice_get, get_or, drop, replicate, Some, append_assoc}
use Rattle.std.specs.Prelude.{Bool, true, false}
use Rattle.std.proofs.lemmas.List.{drop_more}
use Rattle.quickxplain.specs.Testers.{IsSameTest, places_kept}
use Rattle.quickxplain.specs.Explains.{ArePlacesOfPreferred}
use Rattle.quickxplain.specs.steps.Ranges.{kept_count, KeepsAll}
use Rattle.quickxplain.proofs.Ranges.{kept_count-cons}

-- a set that keeps all keeps as many as it is long
pub kept_count_all : (x : List Bool) → KeepsAll 0 (length x) x → kept_count x ≡ length x
kept_count_all [] all = refl
kept_count_all (b ∷ xs) all =
    let head : b ≡ true = (let e = all 0 (omega arith) (omega arith) in cc) in
    let rest = kept_count_all xs (λ k low high. all (suc k) (omega arith) (omega (arith, high))) in
    rw (head, kept_count-cons true xs) (omega (arith, rest))

pub replicate_keeps : (n k : ℕ) → k < n → slice_get (replicate n true) k ≡ Some true
replicate_keeps zero k h = absurd (omega (arith, h))
replicate_keeps (suc n) zero h = refl
replicate_keeps (suc n) (suc k) h = replicate_keeps n k (omega (arith, h))

-- a set has as many places as it keeps requests
pub length-places_kept : (from : ℕ) (x : List Bool) → length (places_kept from x) ≡ kept_count x
length-places_kept from [] = refl
length-places_kept from (true ∷ xs) = let rest = length-places_kept (from + 1) xs in rw (kept_count-cons true xs) (omega (arith, rest))
length-places_kept from (false ∷ xs) = let rest = length-places_kept (from + 1) xs in rw (kept_count-cons false xs) (omega (arith, rest))

-- one place more
pub places_push : (keep : List Bool) (i : ℕ) (out : List ℕ) (d : Bool) → i < length keep → get_or keep i d ≡ true
    → out ++ places_kept i (drop i keep) ≡ places_kept 0 keep → (out ++ i ∷ []) ++ places_kept (i + 1) (drop (i + 1) keep) ≡ places_kept 0 keep
places_push keep i out d h here so_far =
    append_assoc out (i ∷ []) (places_kept (i + 1) (drop (i + 1) keep))
    ∙ ap (λ r. out ++ r) (sym (ap (places_kept i) (drop_more keep i d h) ∙ ap (λ b. places_kept i (b ∷ drop (i + 1) keep)) here)) ∙ so_far

pub places_pass : (keep : List Bool) (i : ℕ) (out : List ℕ) (d : Bool) → i < length keep → get_or keep i d ≡ false
    → out ++ places_kept i (drop i keep) ≡ places_kept 0 keep → out ++ places_kept (i + 1) (drop (i + 1) keep) ≡ places_kept 0 keep
places_pass keep i out d h here so_far =
    ap (λ r. out ++ r) (sym (ap (places_kept i) (drop_more keep i d h) ∙ ap (λ b. places_kept i (b ∷ drop (i + 1) keep)) here)) ∙ so_far

-- the places of the preferred conflict are the same by the same test
pub places_by_same : (f g : List Bool → Type 0) → IsSameTest f g → (n : ℕ) (members : List ℕ)
    → ArePlacesOfPreferred f n members → ArePlacesOfPreferred g n members
places_by_same f g same n members are = record {
  keep = are.keep;
  preferred = record {
    is = record {
      each_request = are.preferred.is.each_request;
      inconsistent = λ holds. are.preferred.is.inconsistent ((same are.keep).1 holds);
    };
    none_before = λ y clash. are.preferred.none_before y (record {
      each_request = clash.each_request;
      inconsistent = λ holds. clash.inconsistent ((same y).0 holds);
    });
  };
  places = are.places;
}
