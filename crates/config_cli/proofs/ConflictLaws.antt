-- What is asked of sets of requests, and the conflicts among them.
use Rattle.std.proofs.Common.{◌≡◌, ℕ, ◌+◌, ◌<◌, List, [], ◌∷◌, length, map, Bool, true, false, Option, Some, None, refl, sym, ◌∙◌, ap, subst, arith}
use Rattle.std.specs.Prelude.{IsTrue, nat_lt, replicate}
use Rattle.std.specs.List.{list_all}
use Rattle.std.proofs.lemmas.Bool.{and_from, lt-ltb}
use Rattle.prod_model.specs.declared.model.Model.{Model}
use Rattle.prod_model.specs.declared.model.Order.{Order}
use Rattle.prod_model.specs.declared.model.Request.{Request}
use Rattle.config_value.specs.declared.configuration.Instance.{Instance}
use Rattle.config_value.specs.Satisfies.{all_kept}
use Rattle.config_value.specs.Preferred.{IsPreferred}
use Rattle.config_value.specs.Shaped.{ascends}
use Rattle.config_value.specs.Conflict.{IsConflict, IsPreferredConflict}
use Rattle.quickxplain.specs.Testers.{IsConflictOf, IsPreferredConflictOf, places_kept}
use Rattle.quickxplain.specs.Explains.{all_of, ArePlacesOfPreferred}
use Rattle.canonical_form.specs.ConflictText.{conflict_text}
use Rattle.criteria_order.specs.Wanted.{IsFirstWanted}
use Rattle.criteria_order.proofs.PreferredLaws.{preferred_is_first_wanted}
use Rattle.config_cli.specs.declared.status.Status.TheVariants.{Conflict}
use Rattle.config_cli.specs.Results.{IsPreferredOutcome, conflict}
use Rattle.config_cli.specs.steps.Clashes.{CanBeMet}

-- ---- conflicts

-- what no configuration meets is a conflict, and the other way round
conflict_of : (m : Model) (o : Order) (keep : List Bool) → IsConflictOf (CanBeMet m o) (length o.requests) keep → IsConflict m o keep
conflict_of m o keep clash = record {
  each_request = clash.each_request;
  unmet = λ c candidate. clash.inconsistent (c, record { candidate = candidate; extra_met = refl; later = refl });
}

of_conflict : (m : Model) (o : Order) (keep : List Bool) → IsConflict m o keep → IsConflictOf (CanBeMet m o) (length o.requests) keep
of_conflict m o keep clash = record {
  each_request = clash.each_request;
  inconsistent = λ met. clash.unmet met.0 met.1.candidate;
}

-- so the preferred conflict of the questions is that of the requests
pub preferred_conflict : (m : Model) (o : Order) (n : ℕ) (keep : List Bool) → n ≡ length o.requests
    → IsPreferredConflictOf (CanBeMet m o) n keep → IsPreferredConflict m o keep
preferred_conflict m o n keep all first =
    let own : IsPreferredConflictOf (CanBeMet m o) (length o.requests) keep = subst (λ k. IsPreferredConflictOf (CanBeMet m o) k keep) all first in
    record {
      is = conflict_of m o keep own.is;
      none_before = λ y clash smaller. own.none_before y (of_conflict m o y clash) smaller;
    }

-- ---- all requests

all_true : (rs : List Request) → map (λ r. true) rs ≡ replicate (length rs) true
all_true [] = refl
all_true (r ∷ rs) = ap (λ xs. true ∷ xs) (all_true rs)

pub all_kept_is : (o : Order) → all_of (length o.requests) ≡ all_kept o
all_kept_is o = sym (all_true o.requests)

-- ---- places

-- the places of what is kept ascend from a first one on, and are less than the number of all
after_first : (from k : ℕ) (keep : List Bool) → k < from → IsTrue (ascends (k ∷ places_kept from keep))
after_first from k [] less = refl
after_first from k (true ∷ keep) less = and_from (nat_lt k from) _ (lt-ltb k from less) (after_first (from + 1) from keep (omega arith))
after_first from k (false ∷ keep) less = after_first (from + 1) k keep (omega (arith, less))

pub places_ascend : (from : ℕ) (keep : List Bool) → IsTrue (ascends (places_kept from keep))
places_ascend from [] = refl
places_ascend from (true ∷ keep) = after_first (from + 1) from keep (omega arith)
places_ascend from (false ∷ keep) = places_ascend (from + 1) keep

pub places_within : (from n : ℕ) (keep : List Bool) → from + length keep ≡ n → IsTrue (list_all (λ k. nat_lt k n) (places_kept from keep))
places_within from n [] is = refl
places_within from n (true ∷ keep) is = and_from (nat_lt from n) _ (lt-ltb from n (omega (arith, is))) (places_within (from + 1) n keep (omega (arith, is)))
places_within from n (false ∷ keep) is = places_within (from + 1) n keep (omega (arith, is))

-- ---- what is asked of a solver

-- the first that meets all requests is preferred
pub best_is_preferred : (m n : Model) (o p : Order) (keep : List Bool) (found : Option (List Instance)) (c : List Instance)
    → m ≡ n → o ≡ p → keep ≡ all_kept p → IsFirstWanted m o keep None [] found → found ≡ Some c → IsPreferred n p (all_kept p) c
best_is_preferred m n o p keep found c model order all first is =
    (preferred_is_first_wanted n p (all_kept p) c).1
    (subst (λ k. IsFirstWanted n p k None [] (Some c)) all
    (subst (λ x. IsFirstWanted n x keep None [] (Some c)) order
    (subst (λ y. IsFirstWanted y o keep None [] (Some c)) model
    (subst (IsFirstWanted m o keep None []) is first))))

-- where there is none, they can't be met
pub none_clashes : (m n : Model) (o p : Order) (keep : List Bool) (found : Option (List Instance))
    → n ≡ m → o ≡ p → keep ≡ all_kept p → IsFirstWanted m o keep None [] found → found ≡ None → ¬ CanBeMet n p (all_kept p)
none_clashes m n o p keep found model order all first is met =
    let none : IsFirstWanted m o keep None [] None = subst (IsFirstWanted m o keep None []) is first in
    let own : CanBeMet m o keep =
    subst (λ k. CanBeMet m o k) (sym all) (subst (λ x. CanBeMet m x (all_kept p)) (sym order) (subst (λ y. CanBeMet y p (all_kept p)) model met)) in
    none own.0 own.1

-- and so not as all of the questions
pub all_clash : (m : Model) (o p : Order) (n : ℕ) → o ≡ p → n ≡ length p.requests → ¬ CanBeMet m p (all_kept p) → ¬ CanBeMet m o (all_of n)
all_clash m o p n order long clash met =
    clash (subst (CanBeMet m p) (ap all_of long ∙ all_kept_is p) (subst (λ x. CanBeMet m x (all_of n)) order met))

-- The places of the preferred conflict of an order's requests.
pub record IsClash (m : Model) (o : Order) (members : List ℕ) : Type 0 where
  pub keep : List Bool
  pub preferred : IsPreferredConflict m o keep
  pub places : members ≡ places_kept 0 keep

pub clash_of : (m : Model) (o p : Order) (n : ℕ) (members : List ℕ) → o ≡ p → n ≡ length p.requests
    → ArePlacesOfPreferred (CanBeMet m o) n members → IsClash m p members
clash_of m o p n members order long found = record {
  keep = found.keep;
  preferred = preferred_conflict m p n found.keep long (subst (λ x. IsPreferredConflictOf (CanBeMet m x) n found.keep) order found.preferred);
  places = found.places;
}

-- they ascend, and are those of requests
pub clash_ascends : (m : Model) (o : Order) (members : List ℕ) → IsClash m o members → IsTrue (ascends members)
clash_ascends m o members clash = subst (λ ks. IsTrue (ascends ks)) (sym clash.places) (places_ascend 0 clash.keep)

pub clash_within : (m : Model) (o : Order) (members : List ℕ) → IsClash m o members → IsTrue (list_all (λ k. nat_lt k (length o.requests)) members)
clash_within m o members clash =
    let long = clash.preferred.is.each_request in
    subst (λ ks. IsTrue (list_all (λ k. nat_lt k (length o.requests)) ks)) (sym clash.places) (places_within 0 (length o.requests) clash.keep (omega (arith, long)))

-- the outcome that tells them
pub clash_told : (m : Model) (o : Order) (members : List ℕ) (text : List ℕ) → IsClash m o members → text ≡ conflict_text o members
    → IsPreferredOutcome m o Conflict text
clash_told m o members text clash told = conflict clash.keep clash.preferred refl (told ∙ ap (conflict_text o) clash.places)
