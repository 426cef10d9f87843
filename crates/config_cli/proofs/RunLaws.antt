-- What a write of an exact text says of the result, and which reads may have failed.
use Rattle.std.proofs.Common.{ℕ, List, sym, subst}
use Rattle.std.specs.declared.option.Option.{Option}
use Rattle.cfg_io.specs.Sinks.{TellsFront}
use Rattle.config_cli.specs.declared.status.Status.{Status}
use Rattle.config_cli.specs.steps.Leaves.{LeavesAs, whole, part, nothing}
use Rattle.config_cli.specs.steps.Calls.{IsExactly}

-- what was written is the result's text, where that status and text are the result's
pub writes_result : {Q : Status → List ℕ → Type 0} (status : Status) (text : List ℕ) (old new : Option (List ℕ)) (s : Status)
    → Q status text → LeavesAs (IsExactly status text) old new s → LeavesAs Q old new s
writes_result {Q = Q} status text old new s q (whole t is told) =
    whole t (subst (λ (n : Status). Q n t) (sym is.0) (subst (λ (bytes : List ℕ). Q status bytes) (sym is.1) q)) told
writes_result {Q = Q} status text old new s q (part other t is five told) =
    part status text q five (subst (λ (bytes : List ℕ). TellsFront old bytes new) is.1 told)
writes_result status text old new s q (nothing why same) = nothing why same

-- a result of one kind is one of another
pub writes_weaker : {P Q : Status → List ℕ → Type 0} → ((s : Status) (t : List ℕ) → P s t → Q s t) → (old new : Option (List ℕ)) (s : Status) → LeavesAs P old new s → LeavesAs Q old new s
writes_weaker f old new s (whole t is told) = whole t (f s t is) told
writes_weaker f old new s (part other t is five told) = part other t (f other t is) five told
writes_weaker f old new s (nothing why same) = nothing why same
