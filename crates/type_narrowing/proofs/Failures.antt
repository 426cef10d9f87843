-- What the reasons here speak of, and what fails for them.
use Rattle.std.proofs.Common.{◌≡◌, ℕ, List, Bool, false, not, ◌&&◌, ◌||◌, ap, sym, subst, ◌∙◌}
use Rattle.std.specs.Prelude.{IsTrue, IfOk, Result, Ok, Err, ◌==◌, Option, None, Some}
use Rattle.std.specs.List.{enumerate_from}
use Rattle.std.proofs.lemmas.Bool.{and_parts, or_left, false≢true}
use Rattle.std.proofs.lemmas.Nat.Bits.{bit_at-zero}
use Rattle.base_laws.specs.Places.{IsAt}
use Rattle.base_laws.proofs.Tests.{list_all_from, list_all_by}
use Rattle.prod_model.specs.declared.model.Model.{Model}
use Rattle.prod_model.specs.declared.model.Order.{Order}
use Rattle.prod_model.specs.Valid.{IsValid}
use Rattle.prod_model.specs.declared.model.Request.{Request}
use Rattle.config_value.specs.declared.configuration.Instance.{Instance}
use Rattle.config_value.specs.declared.literal.Literal.{Literal}
use Rattle.config_value.specs.Shaped.{is_shaped, ascends}
use Rattle.config_value.specs.Value.{links_of}
use Rattle.config_value.specs.ShapedSentences.{HasShape}
use Rattle.config_value.specs.Numbered.{is_numbered}
use Rattle.config_value.specs.Satisfies.{satisfies, follows_rules, meets}
use Rattle.config_value.specs.Literals.{has_literal}
use Rattle.config_value.proofs.ShapedSentences.{shaped_sentences}
use Rattle.config_value.proofs.SpelledLaws.{shaped_is_spelled}
use Rattle.literal_book.specs.Nogoods.{asks_for, meets_asked, has_literals, AreKept}
use Rattle.state_space.specs.State.{State, IsState}
use Rattle.state_space.specs.Covers.{Covers}
use Rattle.state_space.specs.Entails.{entails}
use Rattle.state_space.specs.Described.{entails_all}
use Rattle.state_space.proofs.EntailsLaws.{entailed_holds, links_ascend, spelled_links_at}
use Rattle.reason_trail.specs.Jobs.{Task, IsWanted}
use Rattle.reason_trail.specs.Reasons.{IsSubject, SupportsFailure}
use Rattle.reason_trail.specs.Propagators.{IsFailure}
use Rattle.reason_trail.specs.Trails.{Trace}
use Rattle.reason_trail.specs.declared.reason.Reason.{Reason}
use Rattle.type_narrowing.specs.steps.Narrowing.{IsOutcome, resting_on}

-- ---- what satisfies a model

-- it is shaped and numbered
pub record IsFormed (m : Model) (c : List Instance) : Type 0 where
  pub shaped : HasShape m c
  pub numbered : IsTrue (is_numbered c)

pub formed : (m : Model) (c : List Instance) → IsTrue (satisfies m c) → IsFormed m c
unfolding satisfies
formed m c satisfied =
    let parts = and_parts (is_shaped m c) (is_numbered c) (and_parts (is_shaped m c && is_numbered c) (follows_rules m c) satisfied).0 in
    record { shaped = (shaped_sentences m c).0 parts.0; numbered = parts.1 }

-- the links of its instances ascend
pub links_up : (m : Model) (c : List Instance) → IsValid m → IsFormed m c → (i : ℕ) (y : Instance) → IsAt c i y → (p : ℕ) → IsTrue (ascends (links_of m y p))
links_up m c valid is i y at p =
    links_ascend m y p (spelled_links_at m c i y (shaped_is_spelled m c valid.declared ((shaped_sentences m c).1 is.shaped)) at)

-- ---- no requests

-- the mask of none asks for nothing
asks_for_none : (k : ℕ) → asks_for 0 k ≡ false
asks_for_none k = ap (λ n. n == 1) (bit_at-zero k)

none_kept : (keep : List Bool) → AreKept keep 0
none_kept keep k asked = absurd (false≢true (sym (asks_for_none k) ∙ asked))

meets_none : (m : Model) (o : Order) (c : List Instance) → IsTrue (meets_asked m o 0 c)
meets_none m o c = list_all_from (λ (e : ℕ × Request). not (asks_for 0 e.0) || meets m c e.1) (enumerate_from 0 o.requests) (λ k e at.
    or_left (not (asks_for 0 e.0)) (meets m c e.1) (ap not (asks_for_none e.0)))

-- reasons without requests and without the cut speak of all that is wanted
pub is_subject : (j : Task) (c : List Instance) → IsWanted j c → IsSubject j None 0 false c
is_subject j c wanted = record {
  satisfied = wanted.candidate.satisfied;
  met = meets_none j.model j.order c;
  passed = λ cut. absurd (false≢true cut);
}

-- all that a state entails holds in a covered configuration
pub entailed_hold : (m : Model) (s : State) (c : List Instance) (literals : List Literal) → IsState m s → Covers m s c → entails_all m s literals
    → IsTrue (has_literals m c literals)
entailed_hold m s c literals state covers entailed =
    list_all_by (entails m s) (has_literal m c) (λ l e. entailed_holds m s l c state e covers) literals entailed

-- ---- failures

-- entailed literals that nothing has are a failure
pub fails : (j : Task) (s : State) (literals : List Literal) → SupportsFailure j None (resting_on literals) → entails_all j.model s literals
    → IsFailure j s (resting_on literals)
fails j s literals supported entailed = record {
  supported = supported;
  entailed = entailed;
  kept = none_kept j.goal.keep;
  cut = λ named. absurd (false≢true named);
}

-- the failure that is answered is one of the state
pub answered : {E : Type 0} (t : Trace) (r : Result (Option Reason) E) (literals : List Literal) → IfOk r (λ failed. failed ≡ Some (resting_on literals))
    → IsFailure t.job t.state (resting_on literals) → IfOk r (IsOutcome t)
answered t (Ok failed) literals is failure = subst (IsOutcome t) (sym is) failure
answered t (Err e) literals is failure = is
