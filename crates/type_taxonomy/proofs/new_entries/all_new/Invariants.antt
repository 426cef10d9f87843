use Rattle.std.proofs.Common.{◌≡◌, ◌≤◌, length, map, take, sum_by}
use Rattle.std.specs.List.{range_with_len}
use Rattle.prod_model.specs.Taxonomy.{first_id}
use Rattle.type_taxonomy.specs.steps.Entries.{named, new_of}
use Rattle.type_taxonomy.proofs.new_entries.all_new.Given as goal

-- the rows of the types so far, and how many entries they have
abbrev pub invariant-loop-t : goal.invariant-loop-t
invariant-loop-t g l = record {
  rows : map (map (named g.D.Declaration.name_of)) l.rows ≡ map (new_of g.D.Declaration.declared g.D.Declaration.name_of l.types) (range_with_len 0 l.t);
  next : l.next ≡ first_id g.D.Declaration.declared g.D.Declaration.name_of l.types l.t;
  few : l.next ≤ sum_by (λ d. length (g.D.Declaration.declared d)) (take l.t l.types);
}
