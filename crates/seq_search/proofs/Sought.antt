-- Tests of configurations: what is shaped, and requests and extras at the root product.
use Rattle.std.proofs.Common.{◌≡◌, ℕ, zero, suc, ◌+◌, ◌<◌, Bool, true, false, ◌&&◌, List, [], ◌∷◌, length, Option, Some, None, refl, inl, inr, ap, sym, subst, ◌∙◌, leb-true, arith}
use Rattle.std.specs.Prelude.{IsTrue, IfSome, nat_le, slice_get, ◌↔◌}
use Rattle.std.specs.List.{list_all}
use Rattle.std.proofs.lemmas.Bool.{and_parts, and_from, cases_lt}
use Rattle.std.proofs.lemmas.Option.{slice_get_within, same_Some, none-some}
use Rattle.base_laws.specs.Places.{IsAt}
use lib.Pointwise.{pointwise}
use Rattle.prod_model.specs.declared.model.Model.{Model}
use Rattle.prod_model.specs.declared.expr.Expr.{Expr}
use Rattle.prod_model.specs.declared.expr_bounds.Bounds.{Bounds}
use Rattle.prod_model.specs.declared.expr_bounds.Bounds.TheVariants.{Number, Truth}
use Rattle.prod_model.specs.Limits.{most_nesting}
use Rattle.prod_model.specs.Nesting.{nesting}
use Rattle.prod_model.specs.ExprBounds.{bounds_at, is_truth, is_truth_at}
use Rattle.config_value.specs.declared.configuration.Instance.{Instance}
use Rattle.config_value.specs.Shaped.{is_shaped}
use Rattle.config_value.specs.Numbered.{is_numbered}
use Rattle.config_value.specs.Satisfies.{satisfies, follows_rules, meets_kept}
use Rattle.config_value.proofs.ShapedSentences.{shaped_sentences}
use Rattle.answer_check.specs.Faultless.{IsFaultlessAt}
use Rattle.literal_book.specs.declared.nogood.Piece.{Piece}
use Rattle.literal_book.specs.Nogoods.{in_piece}
use Rattle.criteria_order.specs.Wanted.{meets_extra, ranks_after}
use Rattle.reason_trail.specs.Jobs.{Task, IsWanted}
use Rattle.seq_search.specs.Quests.{IsSought}

-- what satisfies a model is shaped
pub satisfied_is_shaped : (m : Model) (c : List Instance) → IsTrue (satisfies m c) → IsTrue (is_shaped m c)
unfolding satisfies
satisfied_is_shaped m c h = (and_parts (is_shaped m c) (is_numbered c) (and_parts (is_shaped m c && is_numbered c) (follows_rules m c) h).0).0

-- what is wanted is shaped
pub wanted_is_shaped : (j : Task) (best : Option (List Instance)) (d : List Instance) → IfSome best (IsWanted j) → best ≡ Some d → IsTrue (is_shaped j.model d)
wanted_is_shaped j best d wanted is =
    satisfied_is_shaped j.model d (subst (λ b. IfSome b (IsWanted j)) is wanted).candidate.satisfied

-- ---- truths at the root product

truth_told : (o : Option Bounds) → is_truth o ≡ true → (b : Bounds) × (o ≡ Some b)
truth_told (Some Truth) is = (Truth, refl)
truth_told (Some (Number low high)) is = absurd cc
truth_told None is = absurd cc

-- there is an instance 0
pub root_within : (m : Model) (c : List Instance) → IsTrue (is_shaped m c) → 0 < length c
root_within m c shaped = let root = ((shaped_sentences m c).0 shaped).root in slice_get_within c 0 root.instance root.there

-- a truth at the root type has no fault at instance 0
pub faultless_at_root : (m : Model) (c : List Instance) (e : Expr) → IsTrue (is_shaped m c) → IsTrue (is_truth_at m m.root e) → IsFaultlessAt m c 0 e
faultless_at_root m c e shaped truth =
    let root = ((shaped_sentences m c).0 shaped).root in
    let both = and_parts (nat_le (nesting e) most_nesting) (is_truth (bounds_at m e m.root)) truth in
    let told = truth_told (bounds_at m e m.root) both.1 in
    record {
      bounded = record {
        instance = root.instance;
        stands = root.there;
        kind = m.root;
        under = root.of_type;
        bounds = told.0;
        told = told.1;
      };
      shallow = leb-true (nesting e) most_nesting both.0;
    }

-- what holds of each of some truths holds of the rest of them
pub rest_passes : {A : Type 0} (p : A → Bool) (xs : List A) (x : A) (rest : List A) → xs ≡ x ∷ rest → IsTrue (list_all p xs) → IsTrue (list_all p rest)
rest_passes p xs x rest is all = (and_parts (p x) (list_all p rest) (subst (λ ys. IsTrue (list_all p ys)) is all)).1

-- ---- pairs of two lists

module _ {A B : Type 0} (test : A → B → Bool) where
  -- each pair below a place passes
  abbrev pub PassBelow : List A → List B → ℕ → Type 0
  PassBelow xs ys n = (i : ℕ) (x : A) (y : B) → i < n → IsAt xs i x → IsAt ys i y → IsTrue (test x y)

  -- where a pair fails, not all pass
  pub one_fails : (xs : List A) (ys : List B) (k : ℕ) (x : A) (y : B) → IsAt xs k x → IsAt ys k y → test x y ≡ false
      → pointwise test xs ys ≡ false
  one_fails [] ys k x y here at fails = absurd (none-some x here)
  one_fails (a ∷ xs) [] k x y here at fails = refl
  one_fails (a ∷ xs) (b ∷ ys) zero x y here at fails =
      let is : a ≡ x = same_Some a x here in
      let same : b ≡ y = same_Some b y at in
      ap (λ r. r && pointwise test xs ys) (ap (λ z. test z b) is ∙ ap (test x) same ∙ fails)
  one_fails (a ∷ xs) (b ∷ ys) (suc k) x y here at fails = later (test a b) (one_fails xs ys k x y here at fails)
    where
      later : (r : Bool) → pointwise test xs ys ≡ false → (r && pointwise test xs ys) ≡ false
      later true h = h
      later false h = refl

  -- where each passes, all do
  pub all_pass : (xs : List A) (ys : List B) → length xs ≡ length ys → PassBelow xs ys (length xs) → pointwise test xs ys ≡ true
  all_pass [] [] long pass = refl
  all_pass [] (y ∷ ys) long pass = absurd (omega (arith, long))
  all_pass (x ∷ xs) [] long pass = absurd (omega (arith, long))
  all_pass (x ∷ xs) (y ∷ ys) long pass = and_from (test x y) _ (pass 0 x y (omega arith) refl refl)
      (all_pass xs ys (omega (arith, long)) (λ i u v low here at. pass (suc i) u v (omega (arith, low)) here at))

  -- one pair more
  pub one_more : (xs : List A) (ys : List B) (k : ℕ) (x : A) (y : B) → IsAt xs k x → IsAt ys k y → IsTrue (test x y)
      → PassBelow xs ys k → PassBelow xs ys (k + 1)
  one_more xs ys k x y here at passes pass i u v low hereu atv = elim (cases_lt i k) [
    | inl below ↦ pass i u v below hereu atv
    | inr past ↦
        let is : k ≡ i = omega (arith, low, past) in
        let x_is : x ≡ u = same_Some x u (sym here ∙ ap (slice_get xs) is ∙ hereu) in
        let y_is : y ≡ v = same_Some y v (sym at ∙ ap (slice_get ys) is ∙ atv) in
        subst (λ z. IsTrue (test z v)) x_is (subst (λ z. IsTrue (test x z)) y_is passes)
  ]

-- ---- what is sought

-- it is sought exactly where it passes each test
pub sought_exactly : (j : Task) (piece : Piece) (c : List Instance) → IsTrue (satisfies j.model c)
    → (IsTrue (meets_kept j.model j.order j.goal.keep c && (meets_extra j.model j.goal.extra c && (ranks_after j.model j.order j.goal.after c && in_piece j.model piece c))) ↔ IsSought j piece c)
sought_exactly j piece c satisfied = (
  λ h.
      let a = and_parts (meets_kept j.model j.order j.goal.keep c) _ h in
      let b = and_parts (meets_extra j.model j.goal.extra c) _ a.1 in
      let d = and_parts (ranks_after j.model j.order j.goal.after c) _ b.1 in
      record { wanted = record { candidate = record { satisfied = satisfied; met = a.0 }; extra_met = b.0; later = d.0 }; within = d.1 },
  λ s. and_from _ _ s.wanted.candidate.met (and_from _ _ s.wanted.extra_met (and_from _ _ s.wanted.later s.within)),
)
