-- What a sink in memory holds, and where its writes stop.
use Rattle.std.specs.Prelude.{ℕ, ◌==◌, List, ◌++◌, take, find}
use Rattle.std.specs.declared.option.Option.{Option}
use Rattle.std.specs.Option.{option_map}
use Rattle.cfg_io.specs.Causes.{raised}

-- the bytes so far, the numbers of the calls that are to fail, each with how many bytes it lets
-- out, how many calls were made, and how many have failed
pub record SinkState : Type 0 where
  pub written : List ℕ
  pub failing : List (ℕ × ℕ)
  pub calls : ℕ
  pub faults : ℕ

-- how many bytes the call lets out, by the first entry for it, if it is to fail
abbrev pub stop_of : ℕ → List (ℕ × ℕ) → Option ℕ
stop_of call failing = option_map (λ f. f.1) (find (λ f. f.0 == call) failing)

-- the sink after a call that wrote the whole piece
abbrev pub after_write : List ℕ → SinkState → SinkState
after_write piece sink = record sink {
  written = sink.written ++ piece;
  calls = raised sink.calls;
}

-- the sink after a call that failed behind so many bytes, or behind the whole piece if that is
-- shorter
abbrev pub after_stop : ℕ → List ℕ → SinkState → SinkState
after_stop stop piece sink = record sink {
  written = sink.written ++ take stop piece;
  calls = raised sink.calls;
  faults = raised sink.faults;
}
