-- How a shelf in memory keeps what it holds.
use Rattle.std.specs.Prelude.{ℕ, List, map, String, string_bytes, Vec}
use Rattle.std.specs.declared.alloc.Global.{Global}
use Rattle.cfg_io.specs.FaultCounts.{counts_of}
use Rattle.cfg_io.specs.MemoryShelves.{ShelfState}
use Rattle.cfg_io.specs.declared.memory_shelf.MemoryShelf.TheInside.{Inside}

-- each file's name and bytes
abbrev pub named_bytes : List (String Global × Vec ℕ Global) → List (List ℕ × List ℕ)
named_bytes files = map (λ f. (string_bytes f.0, f.1.items)) files

-- what the fields of a shelf in memory stand for
abbrev pub shelf_state : Inside → ShelfState
shelf_state shelf = record {
  files = named_bytes shelf.files.items;
  failing = shelf.failing.items;
  calls = shelf.calls;
  faults = counts_of shelf.faults;
}
