use Rattle.std.proofs.Common.{◌≡◌, ◌≤◌, length, map, take, drop}
use Rattle.std.specs.List.{filter}
use Rattle.type_taxonomy.specs.steps.Entries.{named, is_new_among, numbered}
use Rattle.type_taxonomy.proofs.new_entries.new_in.Given as goal

-- the row has what is new among the declarations so far
abbrev pub invariant-loop-declared : goal.invariant-loop-declared
invariant-loop-declared g l = record {
  of_type : l.declared-items ≡ g.D.Declaration.declared l.decl;
  few : length l.row ≤ l.declared-index;
  row : map (named g.D.Declaration.name_of) l.row
      ≡ numbered g.D.Declaration.declared g.D.Declaration.name_of l.first_id
      (filter (is_new_among g.D.Declaration.declared g.D.Declaration.name_of l.types (drop 1 l.line)) (take l.declared-index l.declared-items));
}
