-- What the code of QuickXplain knows from its calls, over plain variables.
use Rattle.std.proofs.Common.{◌≡◌, ℕ, zero, suc, ◌+◌, ◌-◌, ◌*◌, ◌^◌, ◌/◌, ◌<◌, ◌≤◌, List, refl, ap, subst, sym, ◌∙◌, inl, arith, nat_lt}
use Rattle.std.specs.Prelude.{Bool, true, false, IsFalse, IsTrue, if◌then◌else◌}
use Rattle.std.proofs.Math.Nat.{pow-succ'}
use Rattle.quickxplain.specs.Testers.{IsClosedUnderParts, IsSameTest}
use Rattle.quickxplain.specs.steps.Ranges.{fill, kept_count, KeepsAll, IsLeastWithin}
use Rattle.quickxplain.proofs.Ranges.{fill-beside, kept_count-fill}
use Rattle.quickxplain.proofs.Quick.{none_is_least, one_is_least, halves_are_least, questions}

-- what is the same test as a third one by way of a second one
pub same_test_by : (f g h : List Bool → Type 0) → IsSameTest f g → IsSameTest g h → IsSameTest f h
same_test_by f g h p q keep = (λ a. (q keep).0 ((p keep).0 a), λ c. (p keep).1 ((q keep).1 c))

-- the least by one test is the least by the same test
pub least_by_same : (f g : List Bool → Type 0) → IsSameTest f g → (from to : ℕ) (x z : List Bool)
    → IsLeastWithin f from to x z → IsLeastWithin g from to x z
least_by_same f g same from to x z is = record {
  outside = is.outside;
  clash = λ holds. is.clash ((same z).1 holds);
  least = λ y agree inconsistent. is.least y agree (λ holds. inconsistent ((same y).0 holds));
}

module _ (f : List Bool → Type 0) (from to : ℕ) (x new : List Bool) (clash : Bool)
    (clashes : IsTrue clash → ¬ f (fill from to false x)) (others : IsFalse clash → f (fill from to false x))
    (kept : new ≡ (if clash then fill from to false x else x)) where
  -- where the others clash, none of the range is kept
  pub cleared : clash ≡ true → (new ≡ fill from to false x) × (¬ f (fill from to false x))
  cleared is_clash = (kept ∙ ap (λ b. if b then fill from to false x else x) is_clash, clashes is_clash)

  -- else all of it is
  pub stayed : clash ≡ false → (new ≡ x) × f (fill from to false x)
  stayed not_clash = (kept ∙ ap (λ b. if b then fill from to false x else x) not_clash, others not_clash)

  pub cleared_is_least : clash ≡ true → IsLeastWithin f from to x new
  cleared_is_least is_clash = let both = cleared is_clash in
      subst (IsLeastWithin f from to x) (sym both.0) (none_is_least f from to x both.1)

  pub cleared_count : clash ≡ true → from ≤ to → KeepsAll from to x → kept_count new + (to - from) ≡ kept_count x + 0
  cleared_count is_clash low all = ap (λ y. kept_count y + (to - from)) (cleared is_clash).0 ∙ kept_count-fill from to x low all ∙ omega arith

  pub single_is_least : clash ≡ false → to ≡ suc from → ¬ f x → IsLeastWithin f from to x new
  single_is_least not_clash one inconsistent = let both = stayed not_clash in
      subst (IsLeastWithin f from to x) (sym both.0) (one_is_least f from to x one inconsistent both.1)

-- the requests of the earlier half are all kept after the later one
pub keeps_earlier : (f : List Bool → Type 0) (from mid to : ℕ) (x later : List Bool) → mid ≤ to → KeepsAll from to x
    → IsLeastWithin f mid to x later → KeepsAll from mid later
keeps_earlier f from mid to x later h all second k low high =
    sym (second.outside k (inl high)) ∙ all k low (omega (arith, h, high))

-- the requests of a part of the range are all kept
pub keeps_part : (from mid to : ℕ) (x : List Bool) → from ≤ mid → KeepsAll from to x → KeepsAll mid to x
keeps_part from mid to x h all k low high = all k (omega (arith, h, low)) high

pub keeps_first : (from mid to : ℕ) (x : List Bool) → mid ≤ to → KeepsAll from to x → KeepsAll from mid x
keeps_first from mid to x h all k low high = all k low (omega (arith, h, high))

-- where none of the later half is kept, the others of the earlier one are those of the whole
pub others_known : (f f' : List Bool → Type 0) (from mid to : ℕ) (x later : List Bool) (k : ℕ) → from ≤ mid → mid ≤ to → IsSameTest f' f
    → f (fill from to false x) → (k ≡ 0 → later ≡ fill mid to false x) → IsFalse (nat_lt 0 k) → f' (fill from mid false later)
others_known f f' from mid to x later k low high same holds none nothing =
    let no : k ≡ 0 = grind (arith, nothing) in
    let rest : fill from mid false later ≡ fill from to false x = ap (fill from mid false) (none no) ∙ fill-beside from mid to false x low high in
    (same (fill from mid false later)).1 (subst f (sym rest) holds)

-- nothing of the whole is kept where nothing of the halves is
pub none_of_halves : (from mid to : ℕ) (x later z : List Bool) (k1 k2 : ℕ) → from ≤ mid → mid ≤ to
    → (k2 ≡ 0 → later ≡ fill mid to false x) → (k1 ≡ 0 → z ≡ fill from mid false later) → k1 + k2 ≡ 0 → z ≡ fill from to false x
none_of_halves from mid to x later z k1 k2 low high a b none =
    b (omega (arith, none)) ∙ ap (fill from mid false) (a (omega (arith, none))) ∙ fill-beside from mid to false x low high

-- the least of the halves, by tests that are the same
pub halves : (f f1 f2 : List Bool → Type 0) → IsClosedUnderParts f → IsSameTest f1 f → IsSameTest f2 f
    → (from mid to : ℕ) (x x' later z : List Bool) → from ≤ mid → mid ≤ to → KeepsAll from to x → x' ≡ x
    → IsLeastWithin f1 mid to x' later → IsLeastWithin f2 from mid later z → IsLeastWithin f from to x z
halves f f1 f2 closed e1 e2 from mid to x x' later z low high all same second first =
    halves_are_least f closed from mid to x later z low high (keeps_first from mid to x high all)
    (least_by_same f1 f e1 mid to x later (subst (λ y. IsLeastWithin f1 mid to y later) same second))
    (least_by_same f2 f e2 from mid later z first)

-- something of the range is kept where the others are consistent
pub some_needed : (f : List Bool → Type 0) (from to : ℕ) (x z : List Bool) (k : ℕ) → f (fill from to false x) → ¬ f z
    → (k ≡ 0 → z ≡ fill from to false x) → 1 ≤ k
some_needed f from to x z zero holds clash none = absurd (clash (subst f (sym (none refl)) holds))
some_needed f from to x z (suc k) holds clash none = omega arith

one_or_none : (k : ℕ) → (if nat_lt 0 k then 1 else 0) ≤ 1
one_or_none k = at (nat_lt 0 k)
  where
    at : (b : Bool) → (if b then 1 else 0) ≤ 1
    at true = omega arith
    at false = omega arith

-- the questions of the halves
pub all_questions : (a0 a1 a2 a3 own k1 k2 from mid to l : ℕ) → mid ≡ from + (to - from) / 2 → from < to → ¬ (to - from ≡ 1)
    → a1 ≤ a0 + own
    → ((l : ℕ) → to - mid ≤ 2 ^ l → a2 ≤ a1 + 1 + 2 * k2 * l)
    → ((l : ℕ) → mid - from ≤ 2 ^ l → a3 ≤ a2 + (if nat_lt 0 k2 then 1 else 0) + 2 * k1 * l)
    → 1 ≤ k1 + k2 → to - from ≤ 2 ^ l → a3 ≤ a0 + own + 2 * (k1 + k2) * l
all_questions a0 a1 a2 a3 own k1 k2 from mid to zero half some more first later earlier needed fits = absurd (omega (arith, half, some, more, fits))
all_questions a0 a1 a2 a3 own k1 k2 from mid to (suc l) half some more first later earlier needed fits =
    let twice : 2 ^ suc l ≡ 2 * 2 ^ l = pow-succ' 2 l in
    let b = later l (omega (arith, half, some, fits, twice)) in
    let d = earlier l (omega (arith, half, some, fits, twice)) in
    let own2 = one_or_none k2 in
    let both = questions (1 + 2 * k2 * l) ((if nat_lt 0 k2 then 1 else 0) + 2 * k1 * l) (if nat_lt 0 k2 then 1 else 0) k1 k2 l (omega arith) (omega arith) own2 (omega (arith, needed)) in
    let turned : 2 * (k1 + k2) * suc l ≡ 2 * (k2 + k1) * suc l = ap (λ n. 2 * n * suc l) (omega arith) in
    rw turned (omega (arith, first, b, d, both))
