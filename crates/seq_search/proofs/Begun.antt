-- How a search begins: what is sought is covered by the state that was narrowed, or nothing is sought.
use Rattle.std.proofs.Common.{◌≡◌, ℕ, List, [], ◌∷◌, Bool, true, false, None, refl, ap, subst, sym, arith}
use Rattle.std.proofs.lemmas.Bool.{and_from}
use Rattle.base_laws.specs.Places.{IsAt}
use Rattle.base_laws.proofs.Tests.{list_all_at}
use Rattle.prod_model.specs.declared.model.Model.{Model}
use Rattle.config_value.specs.declared.literal.Literal.{Literal}
use Rattle.config_value.specs.Literals.{has_literal}
use Rattle.literal_book.specs.declared.nogood.Piece.{Piece}
use Rattle.state_space.specs.State.{State}
use Rattle.state_space.specs.Covers.{Covers}
use Rattle.state_space.proofs.RootLaws.{root_covers}
use Rattle.reason_trail.specs.Jobs.{Task, IsTask}
use Rattle.reason_trail.specs.Trails.{Trace, length_of, state_at, started}
use Rattle.reason_trail.proofs.Trails.{state_at-past}
use Rattle.seq_search.specs.steps.Opens.{IsStanding}
use Rattle.seq_search.specs.steps.Starting.{IsNarrowed}
use Rattle.seq_search.proofs.Accounts.{begins}

-- what narrows by one of some literals narrows by all of them
pub narrowed_by_all : (m : Model) (ls : List Literal) (k : ℕ) (l : Literal) → IsAt ls k l → (s t : State) (left : Bool) → IsNarrowed m (l ∷ []) s t left → IsNarrowed m ls s t left
narrowed_by_all m ls k l at s t true narrowed = λ c satisfied has. narrowed c satisfied (and_from _ _ (list_all_at (has_literal m c) ls has k l at) refl)
narrowed_by_all m ls k l at s t false narrowed = λ c satisfied has. narrowed c satisfied (and_from _ _ (list_all_at (has_literal m c) ls has k l at) refl)

-- one narrowing after another
pub narrowed_on : (m : Model) (ls : List Literal) (s t u : State) (left : Bool) → IsNarrowed m ls s t true → IsNarrowed m ls t u left → IsNarrowed m ls s u left
narrowed_on m ls s t u true first next = λ c satisfied has covers. next c satisfied has (first c satisfied has covers)
narrowed_on m ls s t u false first next = λ c satisfied has covers. next c satisfied has (first c satisfied has covers)

-- at first the branch stands at the end of the trail
pub first_stands : (j : Task) (piece : Piece) (t0 t : Trace) → IsTask j → t0 ≡ started j → IsNarrowed j.model piece.literals t0.state t.state true
    → IsStanding j t piece ((record { len = length_of t; literal = None }) ∷ []) None
first_stands j piece t0 t task is narrowed = record {
  stacked = (omega arith, omega arith);
  takable = (tt, tt);
  accounts = begins j piece (record { state = state_at t (length_of t); literal = None }) (λ c sought. record {
    covered = subst (λ s. Covers j.model s c) (sym (state_at-past t (length_of t) (omega arith)))
        (narrowed c sought.wanted.candidate.satisfied sought.within (subst (λ s. Covers j.model s c) (sym (ap (λ u. u.state) is)) (root_covers j.model c task.valid sought.wanted.candidate.satisfied)));
    holds = tt;
  });
  wanted = tt;
}

-- or nothing is sought
pub none_stands : (j : Task) (piece : Piece) (t0 t : Trace) → IsTask j → t0 ≡ started j → IsNarrowed j.model piece.literals t0.state t.state false
    → IsStanding j t piece [] None
none_stands j piece t0 t task is narrowed = record {
  stacked = omega arith;
  takable = tt;
  accounts = λ c sought. absurd (narrowed c sought.wanted.candidate.satisfied sought.within (subst (λ s. Covers j.model s c) (sym (ap (λ u. u.state) is)) (root_covers j.model c task.valid sought.wanted.candidate.satisfied)));
  wanted = tt;
}
