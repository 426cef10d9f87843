-- What a first request that is never met makes fail.
use Rattle.std.proofs.Common.{◌≡◌, None, sym, subst, ◌∙◌}
use Rattle.std.specs.Prelude.{IsTrue}
use Rattle.std.proofs.lemmas.Bool.{true≢false}
use Rattle.literal_book.specs.Nogoods.{meets_asked}
use Rattle.reason_trail.specs.declared.reason.Reason.{Reason}
use Rattle.reason_trail.specs.Jobs.{Task}
use Rattle.reason_trail.specs.Reasons.{SupportsFailure}
use Rattle.worked_racks.specs.Unmet.{FirstIsUnmet}

-- a reason that names the request supports a failure
pub unmet_fails : (j : Task) (r : Reason) → FirstIsUnmet j.model j.order → r.requests ≡ 1
    → SupportsFailure j None r
unmet_fails j r unmet names c subject has =
    true≢false (sym (subst (λ k. IsTrue (meets_asked j.model j.order k c)) names subject.met)
    ∙ unmet c subject.satisfied)
