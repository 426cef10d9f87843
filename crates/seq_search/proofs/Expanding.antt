-- A node as a whole: what stood before it and after it.
use Rattle.std.proofs.Common.{◌≡◌, ℕ, zero, suc, ◌+◌, ◌-◌, ◌<◌, ◌≤◌, List, [], ◌∷◌, ◌++◌, length, take, get_or, map, Option, Some, refl, ap, subst, sym, ◌∙◌, inl, inr, arith, append-nil}
use Rattle.std.specs.Prelude.{IsTrue, IsFalse, IfSome, not, Bool, true, false}
use Rattle.std.specs.List.{AllByRecursion}
use Rattle.std.proofs.lemmas.Bool.{and_parts}
use Rattle.std.proofs.lemmas.List.{length-take-le, map-append}
use Rattle.std.proofs.lemmas.List.Elements.{All-from_recursion}
use Rattle.config_value.specs.declared.configuration.Instance.{Instance}
use Rattle.literal_book.specs.declared.nogood.Nogood.{Nogood}
use Rattle.literal_book.specs.declared.nogood.Piece.{Piece}
use Rattle.state_space.specs.State.{State}
use Rattle.state_space.specs.Entails.{entails, fits}
use Rattle.state_space.specs.Size.{size_of}
use Rattle.reason_trail.specs.Jobs.{Task, IsWanted}
use Rattle.reason_trail.specs.Trails.{Trace, Extends, length_of, state_at, cut_to}
use Rattle.reason_trail.proofs.Trails.{state_at-cut_to, state_at-past}
use Rattle.seq_search.specs.declared.found.Found.{Found}
use Rattle.seq_search.specs.declared.found.Found.TheVariants.{Ended, Learnt, Better, Split}
use Rattle.seq_search.specs.declared.open_branch.OpenBranch.{OpenBranch}
use Rattle.seq_search.specs.Accounts.{AccountsForAll}
use Rattle.seq_search.specs.OpenBranches.{CoversOpen, open_size}
use Rattle.seq_search.specs.Weights.{AreLess}
use Rattle.seq_search.specs.Searches.{Search}
use Rattle.seq_search.specs.Advances.{IsPut, IsKeptOrFound, IsNode}
use Rattle.seq_search.specs.steps.Opens.{open_at, opens, but_last, IsStacked, MayBeTaken, IsStanding}
use Rattle.seq_search.specs.steps.Nodes.{IsFound, IfSplit, IsLearnt, branches_after, kept_after, best_after}
use Rattle.seq_search.proofs.Along.{state_at-extended}
use Rattle.seq_search.proofs.Commits.{node_accounts}

-- ---- stacks

stacked_last : (low high : ℕ) (xs : List OpenBranch) (k : OpenBranch) → IsStacked low high (xs ++ k ∷ []) → IsStacked low k.len xs × (k.len ≤ high)
stacked_last low high [] k s = (s.0, s.1)
stacked_last low high (x ∷ xs) k s = let rest = stacked_last x.len high xs k s.1 in ((s.0, rest.0), rest.1)

stacked_order : (low high : ℕ) (xs : List OpenBranch) → IsStacked low high xs → low ≤ high
stacked_order low high [] s = s
stacked_order low high (x ∷ xs) s = let rest = stacked_order x.len high xs s.1 in omega (arith, s.0, rest)

-- each was left at a length or before
abbrev AreWithin : ℕ → List OpenBranch → Type 0
AreWithin n [] = Unit {0}
AreWithin n (k ∷ ks) = (k.len ≤ n) × AreWithin n ks

stacked_within : (low high : ℕ) (xs : List OpenBranch) → IsStacked low high xs → AreWithin high xs
stacked_within low high [] s = tt
stacked_within low high (x ∷ xs) s = (stacked_order x.len high xs s.1, stacked_within x.len high xs s.1)

stacked_put : (low mid high : ℕ) (xs ys : List OpenBranch) → IsStacked low mid xs → IsStacked mid high ys → IsStacked low high (xs ++ ys)
stacked_put low mid high [] [] s r = omega (arith, s, r)
stacked_put low mid high [] (y ∷ ys) s r = (omega (arith, s, r.0), r.1)
stacked_put low mid high (x ∷ xs) ys s r = (s.0, stacked_put x.len mid high xs ys s.1 r)

stacked_after : (mid high : ℕ) (found : Found) → mid ≤ high → IsStacked mid high (kept_after high found)
stacked_after mid high Ended h = h
stacked_after mid high (Learnt n) h = h
stacked_after mid high (Better d) h = h
stacked_after mid high (Split b) h = (h, (omega arith, omega arith))

-- ---- lists of facts

all_append : {A : Type 0} (P : A → Type 0) (xs ys : List A) → AllByRecursion P xs → AllByRecursion P ys → AllByRecursion P (xs ++ ys)
all_append P [] ys a b = b
all_append P (x ∷ xs) ys a b = (a.0, all_append P xs ys a.1 b)

all_first : {A : Type 0} (P : A → Type 0) (xs ys : List A) → AllByRecursion P (xs ++ ys) → AllByRecursion P xs
all_first P [] ys a = tt
all_first P (x ∷ xs) ys a = (a.0, all_first P xs ys a.1)

all_last : {A : Type 0} (P : A → Type 0) (xs : List A) (x : A) → AllByRecursion P (xs ++ x ∷ []) → P x
all_last P [] x a = a.0
all_last P (y ∷ xs) x a = all_last P xs x a.1

-- the last of a list, and those before
last_apart : {A : Type 0} (xs : List A) (n : ℕ) (d : A) → n + 1 ≡ length xs → xs ≡ take n xs ++ get_or xs n d ∷ []
last_apart [] n d h = absurd (omega (arith, h))
last_apart (x ∷ []) zero d h = refl
last_apart (x ∷ []) (suc n) d h = absurd (omega (arith, h))
last_apart (x ∷ y ∷ ys) zero d h = absurd (omega (arith, h))
last_apart (x ∷ y ∷ ys) (suc n) d h = ap (λ r. x ∷ r) (last_apart (y ∷ ys) n d (omega (arith, h)))

-- the same, as the code has it
pub split_last : (items : List OpenBranch) (len : ℕ) (k : OpenBranch) → len ≡ length items → 0 < length items → k ≡ get_or items (len - 1) k
    → items ≡ but_last items ++ k ∷ []
split_last items len k long some at =
    last_apart items (length items - 1) k (omega (arith, some))
    ∙ ap (λ b. but_last items ++ b ∷ []) (ap (λ n. get_or items (n - 1) k) (sym long) ∙ sym at)

-- ---- what a node puts

-- what a node puts is open in the state that it came to
opens-put : (t : Trace) (found : Found) → opens t (kept_after (length_of t) found) ≡ branches_after t.state found
opens-put t Ended = refl
opens-put t (Learnt n) = refl
opens-put t (Better d) = refl
opens-put t (Split b) =
    let here : state_at t (length_of t) ≡ t.state = state_at-past t (length_of t) (omega arith) in
    λ i. record { state = here i; literal = Some b.second } ∷ record { state = here i; literal = Some b.first } ∷ []

not_true : (b : Bool) → IsTrue (not b) → IsFalse b
not_true true h = absurd cc
not_true false h = refl

-- ---- a node

module _ (j : Task) (piece : Piece) (nogoods : List Nogood) (best : Option (List Instance)) (t0 t2 : Trace) (rest : List OpenBranch) (k : OpenBranch)
    (on : Extends (cut_to t0 k.len) t2) (standing : IsStanding j t0 piece (rest ++ k ∷ []) best) where
  abbrev Taken : List Instance → Type 0
  Taken = CoversOpen j.model (open_at t0 k)

  apart : IsStacked 0 k.len rest × (k.len ≤ length_of t0)
  apart = stacked_last 0 (length_of t0) rest k standing.stacked

  -- the branch was left within the trail
  pub within_last : k.len ≤ length_of t0
  within_last = apart.1

  cut_length : length_of (cut_to t0 k.len) ≡ k.len
  cut_length = length-take-le k.len t0.stages apart.1

  long : k.len ≤ length_of t2
  long = let n = cut_length in let m = on.longer in omega (arith, n, m)

  -- the states at the lengths of the open branches are the same
  same_state : (n : ℕ) → n ≤ k.len → state_at t2 n ≡ state_at t0 n
  same_state n within =
      state_at-extended (cut_to t0 k.len) t2 on n (let e = cut_length in omega (arith, e, within))
      ∙ state_at-cut_to t0 k.len apart.1 n within

  same_opens : (ks : List OpenBranch) → AreWithin k.len ks → opens t2 ks ≡ opens t0 ks
  same_opens [] within = refl
  same_opens (x ∷ xs) within =
      let head = same_state x.len within.0 in
      let tail = same_opens xs within.1 in
      λ i. record { state = head i; literal = x.literal } ∷ tail i

  rest_within : AreWithin k.len rest
  rest_within = stacked_within 0 k.len rest apart.0

  all_within : (ks : List OpenBranch) → AreWithin k.len ks → AreWithin k.len (ks ++ k ∷ [])
  all_within [] w = (omega arith, tt)
  all_within (x ∷ ks) w = (w.0, all_within ks w.1)

  -- where the node isn't finished, nothing changes
  pub kept_opens : opens t2 (rest ++ k ∷ []) ≡ opens t0 (rest ++ k ∷ [])
  kept_opens = same_opens (rest ++ k ∷ []) (all_within rest rest_within)

  pub kept_standing : IsStanding j t2 piece (rest ++ k ∷ []) best
  kept_standing = record {
    stacked = stacked_put 0 k.len (length_of t2) rest (k ∷ []) apart.0 (omega arith, long);
    takable = subst (AllByRecursion (MayBeTaken j.model)) (sym kept_opens) standing.takable;
    accounts = subst (λ bs. AccountsForAll j piece bs best) (sym kept_opens) standing.accounts;
    wanted = standing.wanted;
  }

  opens_before : opens t0 (rest ++ k ∷ []) ≡ opens t0 rest ++ open_at t0 k ∷ []
  opens_before = map-append (open_at t0) rest (k ∷ [])

  pub takable_last : MayBeTaken j.model (open_at t0 k)
  takable_last = all_last (MayBeTaken j.model) (opens t0 rest) (open_at t0 k) (subst (AllByRecursion (MayBeTaken j.model)) opens_before standing.takable)

  opens_after : (found : Found) → opens t2 (rest ++ kept_after (length_of t2) found) ≡ opens t0 rest ++ branches_after t2.state found
  opens_after found =
      map-append (open_at t2) rest (kept_after (length_of t2) found)
      ∙ ap (λ r. r ++ opens t2 (kept_after (length_of t2) found)) (same_opens rest rest_within)
      ∙ ap (λ r. opens t0 rest ++ r) (opens-put t2 found)

  takable_after : (found : Found) → IsFound j piece nogoods best Taken t2.state found
      → AllByRecursion (MayBeTaken j.model) (branches_after t2.state found)
  takable_after Ended f = tt
  takable_after (Learnt n) f = tt
  takable_after (Better d) f = tt
  takable_after (Split b) f =
      let fitting = and_parts (fits j.model t2.state b.first) (fits j.model t2.state b.second) f.fitting in
      let unknown = and_parts (not (entails j.model t2.state b.first)) (not (entails j.model t2.state b.second)) f.unknown in
      ((fitting.1, not_true _ unknown.1), ((fitting.0, not_true _ unknown.0), tt))

  wanted_after : (found : Found) → IsFound j piece nogoods best Taken t2.state found
      → IfSome (best_after best found) (IsWanted j)
  wanted_after Ended f = standing.wanted
  wanted_after (Learnt n) f = standing.wanted
  wanted_after (Better d) f = f.sought.wanted
  wanted_after (Split b) f = standing.wanted

  -- after a whole node all still holds
  pub next_standing : (found : Found) → IsFound j piece nogoods best Taken t2.state found
      → IsStanding j t2 piece (rest ++ kept_after (length_of t2) found) (best_after best found)
  next_standing found f = record {
    stacked = stacked_put 0 k.len (length_of t2) rest (kept_after (length_of t2) found) apart.0 (stacked_after k.len (length_of t2) found long);
    takable = subst (AllByRecursion (MayBeTaken j.model)) (sym (opens_after found))
        (all_append (MayBeTaken j.model) (opens t0 rest) (branches_after t2.state found)
        (all_first (MayBeTaken j.model) (opens t0 rest) (open_at t0 k ∷ []) (subst (AllByRecursion (MayBeTaken j.model)) opens_before standing.takable))
        (takable_after found f));
    accounts = subst (λ bs. AccountsForAll j piece bs (best_after best found)) (sym (opens_after found))
        (node_accounts j piece nogoods best (opens t0 rest) (open_at t0 k) t2.state found f
        (subst (λ bs. AccountsForAll j piece bs best) opens_before standing.accounts));
    wanted = wanted_after found f;
  }

  none_less : (size : ℕ) → AreLess size []
  none_less size = record { few = omega arith; less = All-from_recursion (λ n. n < size) [] tt }

  -- the branches that are put are less
  less_after : (found : Found) → IfSplit (size_of j.model t2.state ≤ open_size j.model (open_at t0 k)) found → 0 < size_of j.model t2.state
      → AreLess (open_size j.model (open_at t0 k)) (map (open_size j.model) (branches_after t2.state found))
  less_after Ended lesser some = none_less _
  less_after (Learnt n) lesser some = none_less _
  less_after (Better d) lesser some = none_less _
  less_after (Split b) lesser some =
      let sizes : List ℕ = (size_of j.model t2.state - 1) ∷ (size_of j.model t2.state - 1) ∷ [] in
      let each : AllByRecursion (λ n. n < open_size j.model (open_at t0 k)) sizes = (omega (arith, lesser, some), (omega (arith, lesser, some), tt)) in
      record { few = omega arith; less = All-from_recursion (λ n. n < open_size j.model (open_at t0 k)) sizes each }

  module _ (Settled : Task → State → Type 0) (learnt : List Nogood) where
    -- the search as it stood
    abbrev pub stood : Search
    stood = record { job = j; piece = piece; branches = opens t0 (rest ++ k ∷ []); best = best; nogoods = nogoods; learnt = learnt }

    put_after : (found : Found) → IsFound j piece nogoods best Taken t2.state found → IfSplit (Settled j t2.state) found
        → AllByRecursion (IsPut Settled stood) (branches_after t2.state found)
    put_after Ended f settled = tt
    put_after (Learnt n) f settled = tt
    put_after (Better d) f settled = tt
    put_after (Split b) f settled = (
      record { literal = b.second; to_narrow = refl; settled = settled; no_nogood = f.no_nogood; no_cut = f.no_cut },
      (record { literal = b.first; to_narrow = refl; settled = settled; no_nogood = f.no_nogood; no_cut = f.no_cut }, tt),
    )

    kept_or_found : (nogoods_then learnt_then : List Nogood) (found : Found) → IsFound j piece nogoods best Taken t2.state found
        → IsKeptOrFound stood (record { job = j; piece = piece; branches = opens t2 (rest ++ kept_after (length_of t2) found); best = best_after best found; nogoods = nogoods_then; learnt = learnt_then })
    kept_or_found nogoods_then learnt_then Ended f = inl refl
    kept_or_found nogoods_then learnt_then (Learnt n) f = inl refl
    kept_or_found nogoods_then learnt_then (Better d) f = inr (d, refl, f.sought, f.better)
    kept_or_found nogoods_then learnt_then (Split b) f = inl refl

    -- it is one node of the search
    pub next_node : (nogoods_then learnt_then : List Nogood) (found : Found) → IsFound j piece nogoods best Taken t2.state found
        → IfSplit (size_of j.model t2.state ≤ open_size j.model (open_at t0 k)) found → IfSplit (Settled j t2.state) found → 0 < size_of j.model t2.state
        → IsLearnt j.model j.order nogoods nogoods_then learnt learnt_then
        → IsNode Settled stood (record { job = j; piece = piece; branches = opens t2 (rest ++ kept_after (length_of t2) found); best = best_after best found; nogoods = nogoods_then; learnt = learnt_then })
    next_node nogoods_then learnt_then found f lesser settled some learns = record {
      before = opens t0 rest;
      taken = open_at t0 k;
      after = [];
      put = branches_after t2.state found;
      were = opens_before;
      are = opens_after found ∙ sym (append-nil (opens t0 rest ++ branches_after t2.state found));
      less = less_after found lesser some;
      each = All-from_recursion (IsPut Settled stood) (branches_after t2.state found) (put_after found f settled);
      same_job = refl;
      same_piece = refl;
      best = kept_or_found nogoods_then learnt_then found f;
      more = learns.more;
      one_more = learns.one_more;
      nogoods = learns.held;
      learnt = learns.learnt;
    }
