use Rattle.std.proofs.Common.{◌≡◌, ℕ, ap, sym, take, drop, arith}
use Rattle.std.proofs.lemmas.Grind.{common_steps}
use Rattle.std.specs.Prelude.{Some, None, Option, IsSome}
use Rattle.cfg_io.specs.MemorySinks.{stop_of}
use Rattle.std.proofs.lemmas.List.{take-append-drop}
use Rattle.cfg_io.proofs.memory_sink.MemorySinkSink.write.Goals as goal

-- the front that was written, and the rest of the piece
pub returns-in_ok-extend_from_slice-in-Some-clause-front : goal.returns-in_ok-extend_from_slice-in-Some-clause-front
returns-in_ok-extend_from_slice-in-Some-clause-front c = λ _. record {
  front = take c.min-count.result c.args.piece.now;
  rest = drop c.min-count.result c.args.piece.now;
  parts = sym (take-append-drop c.min-count.result c.args.piece.now);
  told = rw (← c.self.view_is) (ap Some (c.in_ok-extend_from_slice-in-Some).ensures.items);
}

none_or_some : (o : Option ℕ) → o ≡ None → IsSome o → ⊥
none_or_some None none some = cc
none_or_some (Some x) none some = cc

-- the call is not listed
pub returns-in_ok-extend_from_slice-in-None-clause-must_fail : goal.returns-in_ok-extend_from_slice-in-None-clause-must_fail
returns-in_ok-extend_from_slice-in-None-clause-must_fail c = λ some.
    let none : stop_of c.args.self.now.calls c.args.self.now.failing ≡ None = grind (arith, common_steps) in
    absurd (none_or_some _ none some)

-- the call is listed
pub returns-in_ok-extend_from_slice-in-Some-clause-must_pass : goal.returns-in_ok-extend_from_slice-in-Some-clause-must_pass
returns-in_ok-extend_from_slice-in-Some-clause-must_pass c = λ none.
    let some : IsSome (stop_of c.args.self.now.calls c.args.self.now.failing) = grind (arith, common_steps) in
    absurd (none_or_some _ none some)
