-- Intervals cut in place: what is left of those read so far stands in front.
use Rattle.std.proofs.Common.{◌≡◌, ◌∙◌, ap, ap₂, sym, Bool, true, false, ℕ, suc, ◌+◌, ◌<◌, ◌≤◌, List, [], ◌∷◌, ◌++◌, take, drop, length, get_or, set, arith}
use Rattle.std.specs.Prelude.{if◌then◌else◌}
use Rattle.std.specs.List.{refill, insert}
use Rattle.std.proofs.lemmas.List.{length-set, length-append, length-take-le, append_assoc, set_split, set_at, drop_more, take_more, take_more_set, drop-set-lt, get_or-drop, drop-drop, drop_all, take_all, append-nil}
use Rattle.domain_store.specs.declared.interval.Interval.{Interval}
use Rattle.domain_store.specs.steps.Cut.{is_some, common, cut}
use Rattle.domain_store.specs.steps.Without.{replaced}
use Rattle.domain_store.proofs.Cuts.{cut_more}

refill_same_length : {X : Type 0} (xs ws : List X) → length ws ≡ length xs → refill (length xs) xs ws ≡ ws
refill_same_length xs ws same =
    ap (λ l. take (length xs) (ws ++ l)) (drop_all (length ws) xs (omega (arith, same)))
    ∙ ap (take (length xs)) (append-nil ws)
    ∙ take_all (length xs) ws (omega (arith, same))

-- as many elements, written through a slice, replace all
pub written_front : (range : Interval) (count : ℕ) (old seen new : List Interval) → seen ≡ old → length new ≡ length seen
    → take count new ≡ cut range seen → take count (refill (length old) old new) ≡ cut range old
written_front range count old seen new same long front =
    ap (take count) (refill_same_length old new (long ∙ ap length same)) ∙ front ∙ ap (cut range) same

-- one element, written through a slice
pub written_one : (k : ℕ) (x : Interval) (old seen : List Interval) → seen ≡ old → k < length old
    → refill (length old) old (set seen k x) ≡ replaced old k (x ∷ [])
written_one k x old seen same within =
    ap (λ l. refill (length old) old (set l k x)) same
    ∙ refill_same_length old (set old k x) (length-set old k x)
    ∙ set_split old k x within

-- an element before one, and another in its place
two_for_one : (k : ℕ) (x y : Interval) (old : List Interval) → k < length old
    → set (insert old k x) (k + 1) y ≡ replaced old k (x ∷ y ∷ [])
two_for_one k x y old within =
    ap (λ l. set l (k + 1) y) (ap (λ l. take k old ++ x ∷ l) (drop_more old k x within) ∙ sym (append_assoc (take k old) (x ∷ []) (get_or old k x ∷ drop (k + 1) old)))
    ∙ set_at (take k old ++ x ∷ []) (get_or old k x) (drop (k + 1) old) y (k + 1) (length-append (take k old) (x ∷ []) ∙ ap (λ m. m + 1) (length-take-le k old (omega (arith, within))))
    ∙ append_assoc (take k old) (x ∷ []) (y ∷ drop (k + 1) old)
    ∙ ap (λ m. take k old ++ (x ∷ y ∷ drop m old)) next
  where
    next : k + 1 ≡ suc k
    next = omega arith

pub written_two : (k : ℕ) (x y : Interval) (old put seen : List Interval) → k < length old → put ≡ insert old k x → seen ≡ put
    → refill (length put) put (set seen (k + 1) y) ≡ replaced old k (x ∷ y ∷ [])
written_two k x y old put seen within is same =
    ap (λ l. refill (length put) put (set l (k + 1) y)) same
    ∙ refill_same_length put (set put (k + 1) y) (length-set put (k + 1) y)
    ∙ ap (λ l. set l (k + 1) y) is
    ∙ two_for_one k x y old within

module _ (range : Interval) (old now : List Interval) (i count : ℕ) (any part : Interval) (long : length now ≡ length old)
    (within : i < length old) (behind : count ≤ i) (done : take count now ≡ cut range (take i old)) (rest : drop i now ≡ drop i old)
    (is : part ≡ common range (get_or now i any)) where
  same_read : get_or now i any ≡ get_or old i any
  same_read =
      let here : i + 0 ≡ i = omega arith in
      ap (λ n. get_or now n any) (sym here)
      ∙ sym (get_or-drop i now 0 any)
      ∙ ap (λ l. get_or l 0 any) rest
      ∙ get_or-drop i old 0 any
      ∙ ap (λ n. get_or old n any) here

  later : drop (i + 1) now ≡ drop (i + 1) old
  later = sym (drop-drop 1 i now) ∙ ap (drop 1) rest ∙ drop-drop 1 i old

  one_more : (b : Bool) → b ≡ is_some part → cut range (take (i + 1) old) ≡ take count now ++ (if b then part ∷ [] else [])
  one_more b some =
      ap (cut range) (take_more old i any within)
      ∙ cut_more range (take i old) (get_or old i any)
      ∙ ap₂ ◌++◌ (sym done) (
      ap (λ r. if is_some r then r ∷ [] else []) (sym (is ∙ ap (common range) same_read)) ∙ ap (λ b. if b then part ∷ [] else []) (sym some)
      )

  module _ (new : List Interval) (count' : ℕ) where
    pub kept_done : true ≡ is_some part → new ≡ set now count part → count' ≡ count + 1 → take count' new ≡ cut range (take (i + 1) old)
    kept_done some put more = ap₂ take more put ∙ take_more_set now count part (omega (arith, long, within, behind)) ∙ sym (one_more true some)

    pub kept_rest : new ≡ set now count part → drop (i + 1) new ≡ drop (i + 1) old
    kept_rest put = ap (drop (i + 1)) put ∙ drop-set-lt (i + 1) now count part (omega (arith, behind)) ∙ later

    pub skipped_done : false ≡ is_some part → new ≡ now → count' ≡ count → take count' new ≡ cut range (take (i + 1) old)
    skipped_done none same stay = ap₂ take stay same ∙ sym (append-nil (take count now)) ∙ sym (one_more false none)

    pub skipped_rest : new ≡ now → drop (i + 1) new ≡ drop (i + 1) old
    skipped_rest same = ap (drop (i + 1)) same ∙ later
