use Rattle.std.proofs.Common.{◌≡◌, map, take}
use Rattle.canonical_form.proofs.reading.type_names.texts_of.Given as goal

-- the names so far are put in
abbrev pub invariant-loop-kind : goal.invariant-loop-kind
invariant-loop-kind l = map (λ t. t.now) l.texts.keys ≡ map (λ d. d.name) (take l.kind-index l.types)
