-- Ranking before is a strict total order on shaped configurations, so that one is preferred at most.
use Rattle.std.proofs.Common.{◌≡◌, ℤ, List, [], ◌∷◌, refl, ap, ◌∙◌, sym, ◌⊎◌, inl, inr, int_cmp, is_lt}
use Rattle.std.proofs.lemmas.Bool.{and_parts, true≢false}
use Rattle.std.proofs.lemmas.Cmp.{int_cmp_total, lists_total, then_total, on_total, tied_itself}
use Rattle.std.proofs.lemmas.Map.Lookups.{exact_signed}
use Rattle.std.specs.Prelude.{Bool, IsTrue}
use Rattle.std.specs.declared.cmp.Ordering.{Ordering}
use Rattle.std.specs.declared.cmp.Ordering.TheVariants.{Less, Equal, Greater}
use Rattle.std.specs.Cmp.{IsTotalOrder}
use Rattle.std.specs.Cmp.Lexicographic.{slice_cmp}
use Rattle.std.specs.Ordering.{ordering_then, ordering_reverse}
use Rattle.prod_model.specs.declared.model.Model.{Model}
use Rattle.prod_model.specs.declared.model.Order.{Order}
use Rattle.config_value.specs.declared.configuration.Instance.{Instance}
use Rattle.config_value.specs.Satisfies.{satisfies, IsCandidate}
use Rattle.config_value.specs.Rank.{key, rank, rank_order, RanksBefore}
use Rattle.config_value.specs.Laws.{IsShaped, RanksTotally, HasOnePreferred}
use Rattle.config_value.proofs.KeyLaws.{key_determines}

-- two lists of numbers that the comparison does not tell apart are equal
slice_cmp_int_cmp_equal : (xs ys : List ℤ) → slice_cmp int_cmp xs ys ≡ Equal → xs ≡ ys
slice_cmp_int_cmp_equal [] [] e = refl
slice_cmp_int_cmp_equal [] (y ∷ ys) e = absurd cc
slice_cmp_int_cmp_equal (x ∷ xs) [] e = absurd cc
slice_cmp_int_cmp_equal (x ∷ xs) (y ∷ ys) e =
    let both = parts (int_cmp x y) (slice_cmp int_cmp xs ys) e in
    let head = exact_signed x y both.0 in
    let rest = slice_cmp_int_cmp_equal xs ys both.1 in
    λ i. head i ∷ rest i
  where
    parts : (p q : Ordering) → ordering_then p q ≡ Equal → (p ≡ Equal) × (q ≡ Equal)
    parts Less q h = absurd cc
    parts Equal q h = (refl, h)
    parts Greater q h = absurd cc

-- configurations that the order does not tell apart have one key
tied_keys : (m : Model) (o : Order) (c d : List Instance) → rank_order m o c d ≡ Equal → key c ≡ key d
unfolding rank_order
tied_keys m o c d e = slice_cmp_int_cmp_equal (key c) (key d) (second (slice_cmp int_cmp (rank m o c) (rank m o d)) (slice_cmp int_cmp (key c) (key d)) e)
  where
    second : (p q : Ordering) → ordering_then p q ≡ Equal → q ≡ Equal
    second Less q h = absurd cc
    second Equal q h = h
    second Greater q h = absurd cc

-- the order on configurations, by their criteria and then by their keys, has the laws of a comparison
pub rank_order_total : (m : Model) (o : Order) → IsTotalOrder (rank_order m o)
unfolding rank_order
rank_order_total m o = then_total (on_total (rank m o) (lists_total int_cmp_total)) (on_total key (lists_total int_cmp_total))

-- before says less
less : (r : Ordering) → IsTrue (is_lt r) → r ≡ Less
less Less h = refl
less Equal h = absurd cc
less Greater h = absurd cc

-- ranking before is a strict total order
pub ranks_totally : RanksTotally
ranks_totally m o = record {
  irreflexive = λ c p h. true≢false (sym h ∙ ap is_lt (tied_itself (rank_order_total m o) c));
  transitive = λ c d e p q r h k. ap is_lt ((rank_order_total m o).trans c d e (less _ h) (less _ k));
  total = λ c d p q. split c d p q (rank_order m o c d) refl;
}
  where
    split : (c d : List Instance) → IsShaped m c → IsShaped m d → (r : Ordering) → rank_order m o c d ≡ r
        → (c ≡ d) ⊎ (RanksBefore m o c d ⊎ RanksBefore m o d c)
    split c d p q Less e = inr (inl (ap is_lt e))
    split c d p q Equal e = inl (key_determines m c d p q (tied_keys m o c d e))
    split c d p q Greater e = inr (inr (ap is_lt ((rank_order_total m o).antisymm d c ∙ ap ordering_reverse e)))

-- a candidate is shaped
candidate_shaped : (m : Model) (o : Order) (keep : List Bool) (c : List Instance) → IsCandidate m o keep c → IsShaped m c
unfolding satisfies
candidate_shaped m o keep c p = (and_parts _ _ (and_parts _ _ p.satisfied).0).0

-- of two that are preferred neither is before the other, so they are equal
pub has_one_preferred : HasOnePreferred
has_one_preferred m o keep c d p q =
    elim ((ranks_totally m o).total c d (candidate_shaped m o keep c p.is) (candidate_shaped m o keep d q.is)) [
      | inl same ↦ same
      | inr (inl before) ↦ absurd (q.none_before c p.is before)
      | inr (inr before) ↦ absurd (p.none_before d q.is before)
    ]
