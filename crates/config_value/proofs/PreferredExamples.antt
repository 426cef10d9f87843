-- A preferred product, worked out: of a model with one type, the product of one instance.
use Rattle.std.specs.Prelude.{◌≡◌, ℕ, zero, suc, pos, ℤ, ◌<ℤ◌, false, List, [], ◌∷◌, codes, refl}
use Rattle.std.proofs.Common.{ap, ◌∙◌, sym, arith}
use mathlib.Core.Bool.{true≢false}
use Rattle.std.specs.Ordering.{int_cmp, ordering_then, is_lt}
use Rattle.std.specs.declared.cmp.Ordering.TheVariants.{Greater}
use Rattle.std.specs.Cmp.{int_cmp_is}
use Rattle.std.specs.Cmp.Lexicographic.{slice_cmp}
use Rattle.prod_model.specs.declared.model.Model.{Model}
use Rattle.prod_model.proofs.Forms.{root_type}
use Rattle.prod_model.proofs.Models.{asks}
use Rattle.config_value.specs.declared.configuration.Instance.{Instance}
use Rattle.config_value.specs.Satisfies.{satisfies, follows_rules, meets_kept, IsCandidate}
use Rattle.config_value.specs.Shaped.{is_shaped}
use Rattle.config_value.specs.Numbered.{is_numbered}
use Rattle.config_value.specs.Rank.{key, rank, rank_order, RanksBefore}
use Rattle.config_value.specs.Preferred.{IsPreferred}
use Rattle.config_value.proofs.ShapedExamples.{broken}
use Rattle.config_value.proofs.Products.{instance}

abbrev box : Model
box = record { root = 0; instances = 1; types = root_type (codes "Box") [] [] ∷ []; bounds = []; rules = [] }

abbrev one_box : List Instance
one_box = instance 0 [] [] ∷ []

box_is_a_candidate : IsCandidate box (asks [] []) [] one_box
unfolding satisfies is_shaped broken is_numbered follows_rules meets_kept
box_is_a_candidate = record { satisfied = refl; met = refl }

-- A key is not before that of the box alone: its first number is 0 at least, and what follows it is at least nothing.
not_less : (k : ℕ) (more : List ℤ) → is_lt (slice_cmp int_cmp (pos k ∷ more) (pos 0 ∷ [])) ≡ false
not_less zero [] = refl
not_less zero (n ∷ more) = refl
not_less (suc k) more = ap (λ o. is_lt (ordering_then o (slice_cmp int_cmp more []))) (sym (int_cmp_is (pos (suc k)) (pos 0) Greater positive))
  where
    positive : pos 0 <ℤ pos (suc k)
    positive = grind arith

none_before_box : (c : List Instance) → IsCandidate box (asks [] []) [] c → ¬ RanksBefore box (asks [] []) c one_box
unfolding satisfies is_shaped broken rank_order rank key
none_before_box [] candidate before = true≢false (sym candidate.satisfied)
none_before_box (x ∷ more) candidate before = true≢false (sym before ∙ not_less x.kind _)

box_is_preferred : IsPreferred box (asks [] []) [] one_box
box_is_preferred = record { is = box_is_a_candidate; none_before = none_before_box }
