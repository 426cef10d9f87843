-- The laws of partial states.
use Rattle.std.specs.Prelude.{◌≡◌, ◌≢◌, ◌↔◌, ℕ, ℤ, ◌<◌, Bool, true, false, not, ◌||◌, IsTrue, List, ◌++◌, length, Some, [], ◌∷◌}
use Rattle.prod_model.specs.declared.model.Model.{Model}
use Rattle.prod_model.specs.Valid.{IsValid}
use Rattle.config_value.specs.declared.configuration.Instance.{Instance}
use Rattle.config_value.specs.declared.literal.Literal.{Literal}
use Rattle.config_value.specs.ShapedSentences.{HasShape}
use Rattle.config_value.specs.Value.{at_instance, value_of, links_of}
use Rattle.config_value.specs.Numbered.{is_numbered}
use Rattle.config_value.specs.Satisfies.{satisfies}
use Rattle.config_value.specs.Literals.{has_literal, has_attribute, has_port}
use Rattle.domain_store.specs.declared.change.Change.{Change}
use Rattle.domain_store.specs.declared.change.Change.TheVariants.{Smaller, Empty}
use Rattle.state_space.specs.Ports.{PortLinks, parted}
use Rattle.state_space.specs.State.{State, IsState, number_made, kinds_at}
use Rattle.state_space.specs.Covers.{Covers}
use Rattle.state_space.specs.Entails.{entails, fits, opposite}
use Rattle.state_space.specs.Root.{root}
use Rattle.state_space.specs.Generation.{generated, can_generate, owes_instance, links_later}
use Rattle.state_space.specs.Whole.{is_whole, whole_configuration}
use Rattle.state_space.specs.Size.{size_of}
use Rattle.state_space.specs.Changes.{NarrowsKinds, NarrowsDomain, NarrowsPort, ChangesBy, is_narrowing}
use Rattle.state_space.specs.Undo.{OldValue, Kinds, Domain, Port, undone, generation_log}

-- ---- the root

-- The root state is a state of its problem.
abbrev pub RootIsState : Type 0
RootIsState = (m : Model) → IsValid m → IsState m (root m)

-- It covers every configuration that satisfies the model.
abbrev pub RootCovers : Type 0
RootCovers =
    (m : Model) (c : List Instance) → IsValid m → IsTrue (satisfies m c) → Covers m (root m) c

-- ---- narrowings

-- A narrowing of the types leaves the covered configurations whose instance is of a type that
-- passes.
abbrev pub KindsNarrowed : Type 0
KindsNarrowed =
    (m : Model) (i : ℕ) (test : ℕ → Bool) (result : Change) (old new : State) (c : List Instance)
    → NarrowsKinds i test result old new → result ≢ Empty
    → (Covers m new c
    ↔ (Covers m old c × IsTrue (at_instance c (λ y. test y.kind) true i)))

-- A narrowing of a domain leaves those whose instance has a value that passes, or lacks the
-- attribute.
abbrev pub DomainNarrowed : Type 0
DomainNarrowed =
    (m : Model) (i a : ℕ) (test : ℤ → Bool) (result : Change) (old new : State)
    (c : List Instance) → NarrowsDomain i a test result old new → result ≢ Empty
    → (Covers m new c
    ↔ (Covers m old c
    × IsTrue (at_instance c (λ y. not (has_attribute m y.kind a) || test (value_of m y a)) true i)))

-- A narrowing of a port leaves those whose instance has links that pass, or lacks the port.
abbrev pub PortNarrowed : Type 0
PortNarrowed =
    (m : Model) (i p : ℕ) (test : PortLinks → Bool) (result : Change) (old new : State)
    (c : List Instance) → NarrowsPort i p test result old new → result ≢ Empty
    → (Covers m new c
    ↔ (Covers m old c
    × IsTrue (at_instance c
    (λ y. not (has_port m y.kind p) || test (parted (number_made old) (links_of m y p))) true i)))

-- A narrowing by a literal that fits covers exactly those covered before in which the literal
-- holds.
abbrev pub ChangeIsExact : Type 0
ChangeIsExact =
    (m : Model) (l : Literal) (result : Change) (old new : State) (c : List Instance)
    → IsState m old → IsTrue (fits m old l) → IsTrue (is_narrowing l)
    → ChangesBy m l result old new → result ≢ Empty
    → (Covers m new c ↔ (Covers m old c × IsTrue (has_literal m c l)))

-- Where it is empty there are none.
abbrev pub EmptyCoversNone : Type 0
EmptyCoversNone =
    (m : Model) (l : Literal) (old new : State) (c : List Instance) → IsState m old
    → IsTrue (fits m old l) → ChangesBy m l Empty old new → Covers m old c
    → has_literal m c l ≡ false

-- Where it is not empty the literal is entailed afterwards.
abbrev pub ChangeEntails : Type 0
ChangeEntails =
    (m : Model) (l : Literal) (result : Change) (old new : State) → IsState m old
    → IsTrue (fits m old l) → IsTrue (is_narrowing l) → ChangesBy m l result old new
    → result ≢ Empty → IsTrue (entails m new l)

-- Each narrowing, of types, a domain or a port, keeps a state of a problem one.
abbrev pub EachKeepsState : Type 0
EachKeepsState =
    (m : Model) (i : ℕ) (result : Change) (old new : State) → IsState m old
    → ((test : ℕ → Bool) → NarrowsKinds i test result old new → IsState m new)
    × ((a : ℕ) (test : ℤ → Bool) → NarrowsDomain i a test result old new → IsState m new)
    × ((p : ℕ) (test : PortLinks → Bool) → NarrowsPort i p test result old new → IsState m new)

-- So does a narrowing by a literal.
abbrev pub NarrowingKeepsState : Type 0
NarrowingKeepsState =
    (m : Model) (l : Literal) (result : Change) (old new : State) → IsState m old
    → IsTrue (is_narrowing l) → ChangesBy m l result old new → IsState m new

-- ---- generations

-- A generation keeps a state of a problem one.
abbrev pub GenerationKeepsState : Type 0
GenerationKeepsState =
    (m : Model) (s : State) → IsValid m → IsState m s → IsTrue (can_generate m s)
    → IsState m (generated m s)

-- A generation keeps every covered configuration that is shaped and numbered and whose first open
-- port links a later instance.
abbrev pub GenerationKeeps : Type 0
GenerationKeeps =
    (m : Model) (s : State) (c : List Instance) → IsValid m → IsState m s → Covers m s c
    → HasShape m c → IsTrue (is_numbered c) → IsTrue (links_later m s c)
    → Covers m (generated m s) c

-- Where an instance has to be made for the first open port, that port links a later instance in
-- every covered configuration.
abbrev pub OwedIsLinked : Type 0
OwedIsLinked =
    (m : Model) (s : State) (c : List Instance) → IsState m s → IsTrue (owes_instance m s)
    → Covers m s c → IsTrue (links_later m s c)

-- ---- literals

-- An entailed literal holds in every covered configuration.
abbrev pub EntailedHolds : Type 0
EntailedHolds =
    (m : Model) (s : State) (l : Literal) (c : List Instance) → IsState m s
    → IsTrue (entails m s l) → Covers m s c → IsTrue (has_literal m c l)

-- A change by any literal that fits keeps every covered configuration that is shaped and numbered
-- and in which the literal holds.
abbrev pub ChangeKeeps : Type 0
ChangeKeeps =
    (m : Model) (l : Literal) (result : Change) (old new : State) (c : List Instance) → IsValid m
    → IsState m old → IsTrue (fits m old l) → ChangesBy m l result old new → result ≢ Empty
    → Covers m old c → HasShape m c → IsTrue (is_numbered c) → IsTrue (has_literal m c l)
    → Covers m new c

-- The literal is entailed afterwards.
abbrev pub FittingIsEntailed : Type 0
FittingIsEntailed =
    (m : Model) (l : Literal) (result : Change) (old new : State) → IsState m old
    → IsTrue (fits m old l) → ChangesBy m l result old new → result ≢ Empty
    → IsTrue (entails m new l)

-- The change keeps a state of a problem one.
abbrev pub FittingKeepsState : Type 0
FittingKeepsState =
    (m : Model) (l : Literal) (result : Change) (old new : State) → IsValid m → IsState m old
    → IsTrue (fits m old l) → ChangesBy m l result old new → IsState m new

-- Of a literal that fits and its opposite exactly one holds in each covered configuration.
abbrev pub OppositeHolds : Type 0
OppositeHolds =
    (m : Model) (s : State) (l k : Literal) (c : List Instance) → IsState m s
    → IsTrue (fits m s l) → opposite l ≡ Some k → Covers m s c
    → has_literal m c k ≡ not (has_literal m c l)

-- ---- whole states

-- Every covered configuration of as many instances as a whole state has made is the configuration
-- of the state.
abbrev pub WholeCoversOnlyOne : Type 0
WholeCoversOnlyOne =
    (m : Model) (s : State) (c : List Instance) → IsValid m → IsState m s → IsTrue (is_whole s)
    → Covers m s c → length c ≡ number_made s → c ≡ whole_configuration m s

-- A whole state covers no numbered configuration of another number of instances than are made.
abbrev pub WholeCoversNoMore : Type 0
WholeCoversNoMore =
    (m : Model) (s : State) (c : List Instance) → IsValid m → IsState m s → IsTrue (is_whole s)
    → Covers m s c → IsTrue (is_numbered c) → length c ≡ number_made s

-- So it covers no numbered configuration but that of the state.
abbrev pub WholeCoversItsOwn : Type 0
WholeCoversItsOwn =
    (m : Model) (s : State) (c : List Instance) → IsValid m → IsState m s → IsTrue (is_whole s)
    → Covers m s c → IsTrue (is_numbered c) → c ≡ whole_configuration m s

-- A whole state covers its configuration, and no other one of that many instances.
abbrev pub WholeCoversOne : Type 0
WholeCoversOne =
    (m : Model) (s : State) (c : List Instance) → IsValid m → IsState m s → IsTrue (is_whole s)
    → ((Covers m s c × (length c ≡ number_made s)) ↔ (c ≡ whole_configuration m s))

-- ---- sizes

-- The size of a state is positive: an instance is made, and has a possible type.
abbrev pub SizeIsPositive : Type 0
SizeIsPositive = (m : Model) (s : State) → IsState m s → 0 < size_of m s

-- Each narrowing that is smaller lowers the size.
abbrev pub EachIsLess : Type 0
EachIsLess =
    (m : Model) (i : ℕ) (old new : State)
    → ((test : ℕ → Bool) → NarrowsKinds i test Smaller old new → size_of m new < size_of m old)
    × ((a : ℕ) (test : ℤ → Bool) → NarrowsDomain i a test Smaller old new
    → size_of m new < size_of m old)
    × ((p : ℕ) (test : PortLinks → Bool) → NarrowsPort i p test Smaller old new
    → size_of m new < size_of m old)

-- So does a smaller one by a literal.
abbrev pub SmallerIsLess : Type 0
SmallerIsLess =
    (m : Model) (l : Literal) (old new : State) → IsTrue (is_narrowing l)
    → ChangesBy m l Smaller old new → size_of m new < size_of m old

-- So does a generation.
abbrev pub GenerationIsLess : Type 0
GenerationIsLess =
    (m : Model) (s : State) → IsValid m → IsState m s → IsTrue (can_generate m s)
    → size_of m (generated m s) < size_of m s

-- So does a change by any literal that fits, where it is smaller.
abbrev pub FittingIsLess : Type 0
FittingIsLess =
    (m : Model) (l : Literal) (old new : State) → IsValid m → IsState m old
    → IsTrue (fits m old l) → ChangesBy m l Smaller old new → size_of m new < size_of m old

-- ---- going back

-- Going back over two logs is going back over the later one and then over the earlier one.
abbrev pub UndoneInTurn : Type 0
UndoneInTurn =
    (earlier later : List OldValue) (s : State)
    → undone (earlier ++ later) s ≡ undone earlier (undone later s)

-- Going back over the old value of a narrowing brings the state back.
abbrev pub EachIsUndone : Type 0
EachIsUndone =
    (i : ℕ) (result : Change) (old new : State)
    → ((test : ℕ → Bool) → NarrowsKinds i test result old new
    → undone (Kinds i (kinds_at old i) ∷ []) new ≡ old)
    × ((a : ℕ) (test : ℤ → Bool) (narrows : NarrowsDomain i a test result old new)
    → undone (Domain i a narrows.before ∷ []) new ≡ old)
    × ((p : ℕ) (test : PortLinks → Bool) (narrows : NarrowsPort i p test result old new)
    → undone (Port i p narrows.before ∷ []) new ≡ old)

-- Going back over the log of a generation brings the state back.
abbrev pub GenerationIsUndone : Type 0
GenerationIsUndone =
    (m : Model) (s : State) → IsTrue (can_generate m s)
    → undone (generation_log s) (generated m s) ≡ s
