-- Answers for want of memory.
use Rattle.std.specs.Prelude.{◌≡◌, Result, Err}
use Rattle.std.specs.declared.alloc.AllocError.{AllocError}

-- the answer is that memory ran out, by the error's variant for it
abbrev pub LacksMemory : {T E : Type 0} → (AllocError → E) → Result T E → Type 0
LacksMemory variant answer = (error : AllocError) × (answer ≡ Err (variant error))
