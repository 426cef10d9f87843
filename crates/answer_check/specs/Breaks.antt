-- The tests that a configuration may break, and the first of them.
use Rattle.std.specs.Prelude.{◌≡◌, ℕ, ℤ, ◌<◌, ◌≤◌, ◌==◌, IsTrue, IsFalse, List, [], ◌∷◌, length, Contains, Some, count_by, if◌then◌else◌}
use Rattle.std.specs.Ordering.{nat_cmp, is_lt}
use Rattle.std.specs.Cmp.Lexicographic.{slice_cmp}
use Rattle.base_laws.specs.Places.{IsAt}
use Rattle.prod_model.specs.declared.model.Model.{Model}
use Rattle.prod_model.specs.declared.model.AttrAt.{AttrAt}
use Rattle.prod_model.specs.declared.model.PortAt.{PortAt}
use Rattle.prod_model.specs.declared.model.CountBound.{CountBound}
use Rattle.prod_model.specs.declared.model.Rule.{Rule}
use Rattle.prod_model.specs.First.{IsFirst}
use Rattle.prod_model.specs.Limits.{is_between}
use Rattle.prod_model.specs.Taxonomy.{attributes_at, ports_at}
use Rattle.config_value.specs.declared.configuration.Instance.{Instance}
use Rattle.config_value.specs.Value.{under, is_under, is_true_at}
use Rattle.config_value.specs.Shaped.{has_value, part_links, links_back}
use Rattle.config_value.specs.Numbered.{is_in_turn}
use Rattle.answer_check.specs.Codes.{too_many_code, other_root_code, bad_value_code, no_instance_code, off_target_code, bad_number_code, shared_part_code, misnumbered_code, bad_count_code, false_rule_code, not_linked_back_code, turn_of}
use Rattle.answer_check.specs.declared.verdict.Verdict.{Verdict}
use Rattle.answer_check.specs.declared.verdict.Verdict.TheVariants.{Satisfied, Broken}

-- a broken test: its number, the instance, and the item there
pub record Break : Type 0 where
  pub code : ℕ
  pub instance : ℕ
  pub item : ℕ

-- the instance that breaks a test has this port at the item's place, with these links
pub record HasPort (m : Model) (c : List Instance) (b : Break) (p : PortAt) (links : List ℕ)
    : Type 0 where
  pub x : Instance
  pub stands : IsAt c b.instance x
  pub port : IsAt (ports_at m x.kind) b.item p
  pub links_there : IsAt x.links b.item links

-- how many part links may lead to an instance
abbrev pub most_part_links : ℕ → ℕ
most_part_links j = if j == 0 then 0 else 1

-- Which test is broken at which instance, and at which item there.
pub data Breaks (m : Model) (c : List Instance) (b : Break) : Type 0 where
  -- there are more instances than the model allows
  too_many : b.code ≡ too_many_code → b.instance ≡ m.instances → b.item ≡ 0
      → m.instances < length c → Breaks m c b
  -- instance 0 is not under the root type
  other_root : b.code ≡ other_root_code → b.instance ≡ 0 → b.item ≡ 0
      → IsFalse (is_under m c m.root 0) → Breaks m c b
  -- a value is not in its domain
  bad_value : b.code ≡ bad_value_code → (x : Instance) (a : AttrAt) (v : ℤ) → IsAt c b.instance x
      → IsAt (attributes_at m x.kind) b.item a → IsAt x.values b.item v
      → IsFalse (has_value m a v) → Breaks m c b
  -- a link leads to no instance
  no_instance : b.code ≡ no_instance_code → (p : PortAt) (links : List ℕ) (j : ℕ)
      → HasPort m c b p links → Contains links j → length c ≤ j → Breaks m c b
  -- a link leads to an instance that is not under the target
  off_target : b.code ≡ off_target_code → (p : PortAt) (links : List ℕ) (j : ℕ) (y : Instance)
      → HasPort m c b p links → Contains links j → IsAt c j y
      → IsFalse (under m p.target y) → Breaks m c b
  -- the number of links is outside the port's pair
  bad_number : b.code ≡ bad_number_code → (p : PortAt) (links : List ℕ) → HasPort m c b p links
      → IsFalse (is_between p.low p.high (length links)) → Breaks m c b
  -- two or more part links lead to an instance, or one to instance 0
  shared_part : b.code ≡ shared_part_code → b.item ≡ 0 → b.instance < length c
      → most_part_links b.instance < count_by (λ j. j == b.instance) (part_links m c) → Breaks m c b
  -- a linked instance doesn't link back by the port's inverse
  not_linked_back : b.code ≡ not_linked_back_code → (p : PortAt) (links : List ℕ) (id j : ℕ)
      → HasPort m c b p links → p.inverse ≡ Some id → Contains links j
      → IsFalse (links_back m c id b.instance j) → Breaks m c b
  -- an instance from 1 on is not in turn
  misnumbered : b.code ≡ misnumbered_code → b.item ≡ 0 → 1 ≤ b.instance → b.instance < length c
      → IsFalse (is_in_turn c b.instance) → Breaks m c b
  -- a count of instances is outside its bound
  bad_count : b.code ≡ bad_count_code → b.instance ≡ 0 → (n : CountBound) → IsAt m.bounds b.item n
      → IsFalse (is_between n.low n.high (count_by (under m n.kind) c)) → Breaks m c b
  -- a rule is false at an instance under its type
  false_rule : b.code ≡ false_rule_code → (x : Instance) (r : Rule) → IsAt c b.instance x
      → IsAt m.rules b.item r → IsTrue (under m r.kind x)
      → IsFalse (is_true_at m c b.instance r.holds) → Breaks m c b

-- the turn of the test, the instance and the item
abbrev pub numbers_of : Break → List ℕ
numbers_of b = turn_of b.code ∷ b.instance ∷ b.item ∷ []

-- by the turn of the test, then by instance, then by item
abbrev pub IsBreakBefore : Break → Break → Type 0
IsBreakBefore b d = IsTrue (is_lt (slice_cmp nat_cmp (numbers_of b) (numbers_of d)))

-- the broken test before which no other is broken
abbrev pub IsFirstBreak : Model → List Instance → Break → Type 0
IsFirstBreak m c = IsFirst (Breaks m c) IsBreakBefore

-- what a verdict says: which test is broken first
abbrev pub Tells : Model → List Instance → Verdict → Type 0
Tells m c Satisfied = Unit {0}
Tells m c (Broken code instance item) =
    IsFirstBreak m c (record { code = code; instance = instance; item = item })
