-- The laws that need of a valid model its ids, or its whole domains, or few of all.
use Rattle.std.specs.Prelude.{◌≡◌, ◌≢◌, ◌<◌, IsTrue, List, length}
use Rattle.prod_model.specs.declared.model.Model.{Model}
use Rattle.config_value.specs.declared.configuration.Instance.{Instance}
use Rattle.config_value.specs.declared.literal.Literal.{Literal}
use Rattle.config_value.specs.ShapedSentences.{HasShape}
use Rattle.config_value.specs.Spelled.{is_spelled}
use Rattle.config_value.specs.Numbered.{is_numbered}
use Rattle.config_value.specs.Literals.{has_literal}
use Rattle.domain_store.specs.declared.change.Change.{Change}
use Rattle.domain_store.specs.declared.change.Change.TheVariants.{Empty}
use Rattle.state_space.specs.State.{State, IsState, number_made}
use Rattle.state_space.specs.Covers.{Covers}
use Rattle.state_space.specs.Entails.{fits}
use Rattle.state_space.specs.Root.{root}
use Rattle.state_space.specs.Generation.{generated, can_generate, links_later}
use Rattle.state_space.specs.Whole.{is_whole, whole_configuration}
use Rattle.state_space.specs.Size.{size_of}
use Rattle.state_space.specs.Changes.{ChangesBy}
use Rattle.state_space.specs.Declared.{HasIds, WholeHasAll, HasFew}

-- The root covers what is shaped and can be spelled.
abbrev pub RootCoversShaped : Type 0
RootCoversShaped =
    (m : Model) (c : List Instance) → HasIds m → WholeHasAll m → IsTrue (is_spelled m c)
    → HasShape m c → Covers m (root m) c

-- A generation keeps what links a later instance by the first open port.
abbrev pub GenerationKeeps : Type 0
GenerationKeeps =
    (m : Model) (s : State) (c : List Instance) → HasIds m → WholeHasAll m → IsState m s
    → Covers m s c → HasShape m c → IsTrue (is_numbered c) → IsTrue (links_later m s c)
    → Covers m (generated m s) c

-- A change by a literal that fits keeps what it holds in.
abbrev pub ChangeKeeps : Type 0
ChangeKeeps =
    (m : Model) (l : Literal) (result : Change) (old new : State) (c : List Instance) → HasIds m
    → WholeHasAll m → IsState m old → IsTrue (fits m old l) → ChangesBy m l result old new
    → result ≢ Empty → Covers m old c → HasShape m c → IsTrue (is_numbered c)
    → IsTrue (has_literal m c l) → Covers m new c

-- A whole state covers no other configuration of as many instances.
abbrev pub WholeCoversOnlyOne : Type 0
WholeCoversOnlyOne =
    (m : Model) (s : State) (c : List Instance) → HasIds m → IsState m s → IsTrue (is_whole s)
    → Covers m s c → length c ≡ number_made s → c ≡ whole_configuration m s

-- It covers no numbered configuration of another number of instances.
abbrev pub WholeCoversNoMore : Type 0
WholeCoversNoMore =
    (m : Model) (s : State) (c : List Instance) → HasIds m → IsState m s → IsTrue (is_whole s)
    → Covers m s c → IsTrue (is_numbered c) → length c ≡ number_made s

-- So no numbered configuration but its own.
abbrev pub WholeCoversItsOwn : Type 0
WholeCoversItsOwn =
    (m : Model) (s : State) (c : List Instance) → HasIds m → IsState m s → IsTrue (is_whole s)
    → Covers m s c → IsTrue (is_numbered c) → c ≡ whole_configuration m s

-- A generation lowers the size where there are few of all.
abbrev pub GenerationIsLessOfFew : Type 0
GenerationIsLessOfFew =
    (m : Model) (s : State) → HasFew m → IsState m s → IsTrue (can_generate m s)
    → size_of m (generated m s) < size_of m s
