-- The weight of the open branches falls with each node.
use Rattle.std.proofs.Common.{◌≡◌, ℕ, zero, suc, ◌*◌, ◌<◌, ◌≤◌, List, [], ◌∷◌, ◌++◌, ◌⊎◌, inl, inr, arith}
use Rattle.std.proofs.Math.Nat.{pow-succ'}
use Rattle.std.proofs.lemmas.List.Elements.{All-head, All-tail}
use Rattle.std.proofs.lemmas.List.Sums.{sum_by-append, sum_by-cons}
use Rattle.seq_search.specs.Weights.{weight, weight_of, AreLess}

weight-suc : (n : ℕ) → weight (suc n) ≡ 3 * weight n
unfolding weight
weight-suc n = pow-succ' 3 n

weight_positive : (n : ℕ) → 0 < weight n
unfolding weight
weight_positive zero = omega arith
weight_positive (suc n) = rw (pow-succ' 3 n) (let h = weight_positive n in omega (arith, h))

-- a lesser branch weighs at most a third
weight_less : (k n : ℕ) → k < n → 3 * weight k ≤ weight n
weight_less k zero h = absurd (omega (arith, h))
weight_less k (suc n) h = elim (split k n (omega (arith, h))) [
  | inl less ↦ rw (weight-suc n) (let far = weight_less k n less in omega (arith, far))
  | inr same ↦ rw (weight-suc n, same) (omega arith)
]
  where
    split : (k n : ℕ) → k ≤ n → (k < n) ⊎ (k ≡ n)
    split k n h = grind (arith, h)

-- together they weigh less
less_together : (put : List ℕ) (size : ℕ) → AreLess size put → weight_of put < weight size
less_together [] size less = weight_positive size
less_together (a ∷ []) size less =
    let at = weight_less a size (All-head (λ n. n < size) a [] less.less) in
    let some = weight_positive a in
    rw (sum_by-cons weight a []) (omega (arith, at, some))
less_together (a ∷ b ∷ []) size less =
    let at = weight_less a size (All-head (λ n. n < size) a (b ∷ []) less.less) in
    let other = weight_less b size (All-head (λ n. n < size) b [] (All-tail (λ n. n < size) a (b ∷ []) less.less)) in
    let some = weight_positive a in
    rw (sum_by-cons weight a (b ∷ []), sum_by-cons weight b []) (omega (arith, at, other, some))
less_together (a ∷ b ∷ c ∷ more) size less = absurd (grind (arith, less.few))

-- where at most two of less size take the place of one, the weight falls
pub weight_falls : (before put after : List ℕ) (size : ℕ) → AreLess size put
    → weight_of (before ++ put ++ after) < weight_of (before ++ size ∷ after)
weight_falls before put after size less =
    let fewer = less_together put size less in
    rw (sum_by-append weight (before ++ put) after, sum_by-append weight before put, sum_by-append weight before (size ∷ after), sum_by-cons weight size after) (omega (arith, fewer))
