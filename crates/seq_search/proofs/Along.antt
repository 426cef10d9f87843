-- Trails that go on, and the branches that are lengths of them.
use Rattle.std.proofs.Common.{◌≡◌, ℕ, zero, suc, ◌≤◌, List, [], ◌∷◌, take, refl, ap, sym, ◌∙◌, arith}
use Rattle.reason_trail.specs.Trails.{Trace, Extends, length_of, state_at, cut_to}
use Rattle.reason_trail.proofs.Trails.{state_at-cut_to, cut_to-whole}

-- an extension had the same states at the old lengths
pub state_at-extended : (old new : Trace) → Extends old new → (n : ℕ) → n ≤ length_of old → state_at new n ≡ state_at old n
state_at-extended old new on n within =
    sym (state_at-cut_to new (length_of old) on.longer n within) ∙ ap (λ t. state_at t n) on.begins

-- each trail extends itself
pub extends_itself : (t : Trace) → Extends t t
extends_itself t = record { job = refl; longer = omega arith; begins = cut_to-whole t (length_of t) (omega arith) }

-- the first of the first
take_shorter : {A : Type 0} (k n : ℕ) (xs : List A) → k ≤ n → take k (take n xs) ≡ take k xs
take_shorter zero n xs h = refl
take_shorter (suc k) zero xs h = absurd (omega (arith, h))
take_shorter (suc k) (suc n) [] h = refl
take_shorter (suc k) (suc n) (x ∷ xs) h = ap (λ r. x ∷ r) (take_shorter k n xs (omega (arith, h)))

-- a trail that is cut twice
pub cut_to-cut : (t : Trace) (k n : ℕ) → k ≤ n → n ≤ length_of t → cut_to (cut_to t n) k ≡ cut_to t k
cut_to-cut t k n less within =
    let stages = take_shorter k n t.stages less in
    let state = state_at-cut_to t n within k less in
    λ i. record t { stages = stages i; state = state i }

-- what extends an extension extends the first
pub extends_on : (a b c : Trace) → Extends a b → Extends b c → Extends a c
extends_on a b c h k = record {
  job = k.job ∙ h.job;
  longer = omega (arith, h.longer, k.longer);
  begins = sym (cut_to-cut c (length_of a) (length_of b) h.longer k.longer) ∙ ap (λ t. cut_to t (length_of a)) k.begins ∙ h.begins;
}
