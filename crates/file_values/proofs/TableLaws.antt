-- What holds of every row of the table of kinds.
use Rattle.std.proofs.Common.{◌≡◌, ◌<◌, ℕ, zero, suc, Bool, true, List, [], ◌∷◌, length, Some, refl, arith}
use Rattle.std.proofs.lemmas.Bool.Decides.{nat_tests}
use Rattle.std.specs.Prelude.{◌&&◌, nat_lt, slice_get}
use Rattle.std.specs.Option.{option_map_or}
use Rattle.std.specs.List.{list_all}
use Rattle.base_laws.proofs.Tests.{list_all_at}
use Rattle.file_values.specs.declared.format.Format.{Format}
use Rattle.file_values.specs.declared.format.Format.TheVariants.{First, Second}
use Rattle.file_values.specs.declared.kind.Kind.{Kind}
use Rattle.file_values.specs.declared.kind.Kind.TheVariants.{Model, Order, Types, TypeDecl, Attributes, Attribute, Ports, Port, Bounds, Bound, Rules, Rule, Requests, Request, Criteria, Criterion, Words, Range, Links, End, Count, Instances, ModelFormat, OrderFormat, PortKind, Name, TypeName, InverseName, Word, Expression}
use Rattle.file_values.specs.declared.kind.Member.{Member}
use Rattle.file_values.specs.Places.{number_of}
use Rattle.file_values.specs.Table.{members_of, item_of}

-- how many levels of kinds may be in a value of the kind
abbrev pub levels : Kind → ℕ
levels Model = 6
levels Order = 6
levels Types = 5
levels TypeDecl = 4
levels Attributes = 3
levels Attribute = 2
levels Ports = 3
levels Port = 2
levels Bounds = 3
levels Bound = 2
levels Rules = 2
levels Rule = 1
levels Requests = 2
levels Request = 1
levels Criteria = 2
levels Criterion = 1
levels Words = 1
levels Range = 1
levels Links = 1
levels kind = 0

-- the keys of the members ascend
abbrev pub ascend : List Member → Bool
ascend [] = true
ascend (m ∷ ms) = list_all (λ n. nat_lt (number_of m.key) (number_of n.key)) ms && ascend ms

-- no list is an object
abbrev pub has_members_or_items : Format → Kind → Bool
has_members_or_items format k = option_map_or (λ j. nat_lt (length (members_of format k)) 1) (item_of k) true

abbrev pub is_row : Format → Kind → Bool
is_row format k =
    list_all (λ m. nat_lt (levels m.kind) (levels k)) (members_of format k) && option_map_or (λ j. nat_lt (levels j) (levels k)) (item_of k) true
    && ascend (members_of format k) && has_members_or_items format k

pub rows : (format : Format) (k : Kind) → is_row format k ≡ true
unfolding members_of item_of
rows format Model = refl
rows format Order = refl
rows format Types = refl
rows format TypeDecl = refl
rows format Attributes = refl
rows format Attribute = refl
rows format Ports = refl
rows First Port = refl
rows Second Port = refl
rows format Bounds = refl
rows format Bound = refl
rows format Rules = refl
rows format Rule = refl
rows format Requests = refl
rows format Request = refl
rows format Criteria = refl
rows format Criterion = refl
rows format Words = refl
rows format Range = refl
rows format Links = refl
rows format End = refl
rows format Count = refl
rows format Instances = refl
rows format ModelFormat = refl
rows format OrderFormat = refl
rows format PortKind = refl
rows format Name = refl
rows format TypeName = refl
rows format InverseName = refl
rows format Word = refl
rows format Expression = refl

pub lower-member : (format : Format) (k : Kind) (i : ℕ) (m : Member) → slice_get (members_of format k) i ≡ Some m → levels m.kind < levels k
lower-member format k i m at =
    let row = rows format k in
    let all : list_all (λ n. nat_lt (levels n.kind) (levels k)) (members_of format k) ≡ true = grind (arith) in
    let lower : nat_lt (levels m.kind) (levels k) ≡ true = list_all_at (λ n. nat_lt (levels n.kind) (levels k)) (members_of format k) all i m at in
    grind (arith, nat_tests)

pub lower-item : (format : Format) (k j : Kind) → item_of k ≡ Some j → levels j < levels k
lower-item format k j is =
    let row = rows format k in
    let all : option_map_or (λ l. nat_lt (levels l) (levels k)) (item_of k) true ≡ true = grind (arith) in
    let lower : nat_lt (levels j) (levels k) ≡ true = cc in
    grind (arith, nat_tests)

pub list-is_no_object : (format : Format) (k j : Kind) → item_of k ≡ Some j → (i : ℕ) (m : Member) → ¬ (slice_get (members_of format k) i ≡ Some m)
list-is_no_object format k j is i m at =
    let row = rows format k in
    let all : option_map_or (λ l. nat_lt (length (members_of format k)) 1) (item_of k) true ≡ true = grind (arith) in
    let few : nat_lt (length (members_of format k)) 1 ≡ true = cc in
    empty (members_of format k) few i m at
  where
    empty : (ms : List Member) → nat_lt (length ms) 1 ≡ true → (i : ℕ) (m : Member) → ¬ (slice_get ms i ≡ Some m)
    empty [] short i m at = absurd (cc)
    empty (n ∷ ms) short i m at = absurd (grind (arith, nat_tests))

ascending : (ms : List Member) → ascend ms ≡ true → (i j : ℕ) (m n : Member) → i < j → slice_get ms i ≡ Some m → slice_get ms j ≡ Some n → number_of m.key < number_of n.key
ascending [] up i j m n less at_i at_j = absurd (cc)
ascending (x ∷ ms) up i zero m n less at_i at_j = absurd (omega (arith, less))
ascending (x ∷ ms) up zero (suc j) m n less at_i at_j =
    let all : list_all (λ y. nat_lt (number_of x.key) (number_of y.key)) ms ≡ true = grind (arith) in
    let lower : nat_lt (number_of x.key) (number_of n.key) ≡ true = list_all_at (λ y. nat_lt (number_of x.key) (number_of y.key)) ms all j n at_j in
    let same : x ≡ m = cc in
    let lower_m : nat_lt (number_of m.key) (number_of n.key) ≡ true = cc in
    grind (arith, nat_tests)
ascending (x ∷ ms) up (suc i) (suc j) m n less at_i at_j = ascending ms (grind (arith)) i j m n (omega (arith, less)) at_i at_j

pub keys-ascend : (format : Format) (k : Kind) (i j : ℕ) (m n : Member) → i < j
    → slice_get (members_of format k) i ≡ Some m → slice_get (members_of format k) j ≡ Some n → number_of m.key < number_of n.key
keys-ascend format k i j m n less at_i at_j = ascending (members_of format k) (let row = rows format k in grind (arith)) i j m n less at_i at_j
