use Rattle.std.proofs.Common.{sym, ◌∙◌}
use Rattle.std.proofs.lemmas.Result.{IfOk-weaker}
use Rattle.cfg_io.proofs.memory_shelf.MemoryShelf.answer.Goals as goal

pub returns-clause-gives : goal.returns-clause-gives
returns-clause-gives c = IfOk-weaker c.look_up.result _ _
    (λ bytes found. record {
      passes = sym c.is_to_fail.ensures.value ∙ c.if-is_to_fail.false;
      is = rw (← c.self.view_is, ← c.deref.ensures.value) found.0;
      short = found.1;
    })
    c.look_up.ensures.found

pub returns-clause-exceeds : goal.returns-clause-exceeds
returns-clause-exceeds c = λ e. record {
  passes = sym c.is_to_fail.ensures.value ∙ c.if-is_to_fail.false;
  longer = rw (← c.self.view_is, ← c.deref.ensures.value) (c.look_up.ensures.longer e);
}
