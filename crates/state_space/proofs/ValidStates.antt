-- The laws that need a valid model, by those that need its ids and its whole domains.
use Rattle.std.proofs.Common.{ℕ, ◌≤◌, List, [], ◌∷◌, length, refl, arith}
use Rattle.std.specs.Prelude.{IsTrue, not}
use Rattle.std.specs.List.{sum_by}
use Rattle.std.proofs.lemmas.Bool.{false≢true}
use Rattle.std.proofs.lemmas.List.Sums.{sum_by-cons}
use Rattle.base_laws.specs.Places.{IsAt}
use Rattle.config_value.proofs.Places.{is_between_at}
use Rattle.state_space.specs.Values.{is_empty}
use Rattle.state_space.specs.Made.{MadeInstance}
use Rattle.state_space.specs.State.{number_made}
use Rattle.state_space.specs.Size.{size_of_made, size_of}
use Rattle.state_space.specs.Laws.{GenerationKeeps, ChangeKeeps, WholeCoversOnlyOne, WholeCoversNoMore, WholeCoversItsOwn, SizeIsPositive}
use Rattle.state_space.proofs.ValidLaws.{valid_has_ids, valid_has_whole_domains}
use Rattle.state_space.proofs.GenerationKept.{generation_keeps as generation_keeps_of_ids}
use Rattle.state_space.proofs.SearchLaws.{change_keeps as change_keeps_of_ids, whole_covers_no_more as no_more_of_ids, whole_covers_its_own as its_own_of_ids}
use Rattle.state_space.proofs.WholeLaws.{whole_covers_only_one as only_one_of_ids}

pub generation_keeps : GenerationKeeps
generation_keeps m s c valid = generation_keeps_of_ids m s c (valid_has_ids m valid) (valid_has_whole_domains m valid)

pub change_keeps : ChangeKeeps
change_keeps m l result old new c valid = change_keeps_of_ids m l result old new c (valid_has_ids m valid) (valid_has_whole_domains m valid)

pub whole_covers_only_one : WholeCoversOnlyOne
whole_covers_only_one m s c valid = only_one_of_ids m s c (valid_has_ids m valid)

pub whole_covers_no_more : WholeCoversNoMore
whole_covers_no_more m s c valid = no_more_of_ids m s c (valid_has_ids m valid)

pub whole_covers_its_own : WholeCoversItsOwn
whole_covers_its_own m s c valid = its_own_of_ids m s c (valid_has_ids m valid)

-- ---- sizes

-- some types are one or more
some_types : (kinds : List ℕ) → IsTrue (not (is_empty kinds)) → 1 ≤ length kinds
some_types [] some = absurd (false≢true some)
some_types (t ∷ ts) some = omega arith

-- instances of which the first has a type are of some size
some_size : (xs : List MadeInstance) → 1 ≤ length xs → ((x : MadeInstance) → IsAt xs 0 x → IsTrue (not (is_empty x.kinds))) → 1 ≤ sum_by size_of_made xs
some_size [] made some = absurd (omega (arith, made))
some_size (x ∷ xs) made some =
    let types = some_types x.kinds (some x refl) in omega (arith, types, sum_by-cons size_of_made x xs)

pub size_is_positive : SizeIsPositive
unfolding size_of
size_is_positive m s state =
    let made = (is_between_at 1 m.instances (number_made s) state.size).0 in
    let some = some_size s.made made (λ x at. (state.each 0 x at).some) in
    omega (arith, some)
