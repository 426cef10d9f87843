-- Links, one after another.
use Rattle.std.proofs.Common.{◌≡◌, ◌≢◌, ℕ, ◌+◌, ◌<◌, ◌≤◌, ◌^◌, Bool, true, false, ◌==◌, List, [], ◌∷◌, ◌++◌, Option, Some, None, Result, Ok, Err, refl, sym, ap, subst, ◌∙◌, append_assoc, arith}
use Rattle.std.specs.Prelude.{IsTrue, IfOk, IfSome}
use Rattle.std.specs.Borrow.{Bor}
use Rattle.std.specs.Fmt.{decimal}
use Rattle.std.proofs.lemmas.Bool.{false≢true}
use Rattle.std.proofs.lemmas.Bool.Decides.{nat_tests}
use Rattle.std.proofs.lemmas.Fmt.{decimal_injective}
use Rattle.prod_model.specs.Limits.{most_instances}
use Rattle.config_value.specs.Spelled.{is_spelled_links}
use Rattle.canonical_form.specs.steps.Pieces.{numbers_piece}
use Rattle.canonical_form.specs.AnswerParts.{behind_number, behind_links, links_end}
use Rattle.canonical_form.specs.BadLine.{ends_there}
use Rattle.canonical_form.specs.steps.Reading.{Takes, TakesNone, AddsLinks, ascends_from, begins_with_digit}
use Rattle.canonical_form.proofs.Tokens.{token_unique, decimal_digits}

comma_test : (b : ℕ) → (b == 44) ≡ true → b ≡ 44
comma_test b same = grind (arith, nat_tests)

ends_links : (rest : List ℕ) → IsTrue (ends_there behind_number rest) → ((r : List ℕ) → rest ≢ 44 ∷ r) → IsTrue (ends_there behind_links rest)
ends_links [] ends no_comma = refl
ends_links (b ∷ bs) ends no_comma = by_comma (b == 44) refl
  where
    by_comma : (t : Bool) → (b == 44) ≡ t → IsTrue (ends_there behind_links (b ∷ bs))
    by_comma true is = absurd (no_comma bs (ap (λ c. c ∷ bs) (comma_test b is)))
    by_comma false is = grind (arith)

fewer_ends : (rest : List ℕ) → IsTrue (ends_there behind_links rest) → IsTrue (ends_there behind_number rest)
fewer_ends [] ends = refl
fewer_ends (b ∷ bs) ends = grind (arith)

comma_ends : (rest : List ℕ) → IsTrue (ends_there behind_number (44 ∷ rest))
comma_ends rest = refl

one_ascends : (low link : ℕ) → low ≤ link → link < most_instances → IsTrue (ascends_from low (link ∷ []))
one_ascends low link from few = grind (arith, nat_tests)

pub last_link : (low link : ℕ) (old bytes rest : List ℕ) → low ≤ link → link < most_instances → Takes (decimal link) behind_number bytes rest → ((r : List ℕ) → rest ≢ 44 ∷ r)
    → AddsLinks low old (old ++ link ∷ []) bytes rest
last_link low link old bytes rest from few takes no_comma = record {
  links = link ∷ [];
  added = refl;
  ascending = one_ascends low link from few;
  takes = record { parts = takes.parts; ends = ends_links rest takes.ends no_comma };
}

more_ascends : (low link : ℕ) (js : List ℕ) → low ≤ link → link < most_instances → IsTrue (ascends_from (link + 1) js) → IsTrue (ascends_from low (link ∷ js))
more_ascends low link [] from few more = absurd (false≢true more)
more_ascends low link (j ∷ js) from few more = grind (arith, nat_tests)

more_text : (link : ℕ) (js next rest : List ℕ) (low : ℕ) → IsTrue (ascends_from low js) → next ≡ numbers_piece js ++ rest → decimal link ++ (44 ∷ next) ≡ numbers_piece (link ∷ js) ++ rest
more_text link [] next rest low some parts = absurd (false≢true some)
more_text link (j ∷ js) next rest low some parts =
    ap (λ t. decimal link ++ (44 ∷ t)) parts ∙ sym (append_assoc (decimal link) (44 ∷ numbers_piece (j ∷ js)) rest)

pub more_links : (low link : ℕ) (old middle new bytes behind next rest : List ℕ) → low ≤ link → link < most_instances → Takes (decimal link) behind_number bytes behind → behind ≡ 44 ∷ next
    → middle ≡ old ++ link ∷ [] → AddsLinks (link + 1) middle new next rest → AddsLinks low old new bytes rest
more_links low link old middle new bytes behind next rest from few takes comma pushed more = record {
  links = link ∷ more.links;
  added = more.added ∙ ap (λ l. l ++ more.links) pushed ∙ append_assoc old (link ∷ []) more.links;
  ascending = more_ascends low link more.links from few more.ascending;
  takes = record {
    parts = takes.parts ∙ ap (λ t. decimal link ++ t) comma ∙ more_text link more.links next rest (link + 1) more.ascending more.takes.parts;
    ends = more.takes.ends;
  };
}

first_ascends : (low j : ℕ) (js : List ℕ) → IsTrue (ascends_from low (j ∷ js)) → (low ≤ j) × (j < most_instances)
first_ascends low j [] ascending = (grind (arith, nat_tests), grind (arith, nat_tests))
first_ascends low j (k ∷ ks) ascending = (grind (arith, nat_tests), grind (arith, nat_tests))

-- the first of some links is a number that ends there
record IsFirstLink (j : ℕ) (js bytes rest : List ℕ) : Type 0 where
  behind : List ℕ
  takes : Takes (decimal j) behind_number bytes behind

first_link : (j : ℕ) (js bytes rest : List ℕ) → Takes (numbers_piece (j ∷ js)) behind_links bytes rest → IsFirstLink j js bytes rest
first_link j [] bytes rest takes = record { behind = rest; takes = record { parts = takes.parts; ends = fewer_ends rest takes.ends } }
first_link j (k ∷ ks) bytes rest takes = record {
  behind = 44 ∷ (numbers_piece (k ∷ ks) ++ rest);
  takes = record { parts = takes.parts ∙ append_assoc (decimal j) (44 ∷ numbers_piece (k ∷ ks)) rest; ends = comma_ends (numbers_piece (k ∷ ks) ++ rest) };
}

pub no_first : (low : ℕ) (bytes : List ℕ) → ((j : ℕ) (rest : List ℕ) → low ≤ j → j < most_instances → ¬ Takes (decimal j) behind_number bytes rest)
    → TakesNone numbers_piece (λ js. behind_links) (ascends_from low) bytes
no_first low bytes none [] rest ascending takes = false≢true ascending
no_first low bytes none (j ∷ js) rest ascending takes =
    let bounds = first_ascends low j js ascending in
    let first = first_link j js bytes rest takes in
    none j first.behind bounds.0 bounds.1 first.takes

number_unique : (a b : ℕ) (bytes x y : List ℕ) → a < 2 ^ 64 → b < 2 ^ 64 → Takes (decimal a) behind_number bytes x → Takes (decimal b) behind_number bytes y → (decimal a ≡ decimal b) × (x ≡ y)
number_unique a b bytes x y a_fits b_fits first second =
    token_unique behind_number (decimal a) (decimal b) x y (decimal_digits a a_fits) (decimal_digits b b_fits) first.ends second.ends (sym first.parts ∙ second.parts)

later_ascends : (low j k : ℕ) (ks : List ℕ) → IsTrue (ascends_from low (j ∷ k ∷ ks)) → IsTrue (ascends_from (j + 1) (k ∷ ks))
later_ascends low j k ks ascending = grind (arith)

same_tail : (xs ys : List ℕ) → 44 ∷ xs ≡ 44 ∷ ys → xs ≡ ys
same_tail xs ys same = cc

pub no_more : (low link : ℕ) (bytes behind next : List ℕ) → low ≤ link → link < most_instances → Takes (decimal link) behind_number bytes behind → behind ≡ 44 ∷ next
    → TakesNone numbers_piece (λ js. behind_links) (ascends_from (link + 1)) next → TakesNone numbers_piece (λ js. behind_links) (ascends_from low) bytes
no_more low link bytes behind next from few first comma none [] rest ascending takes = false≢true ascending
no_more low link bytes behind next from few first comma none (j ∷ []) rest ascending takes =
    let bounds = first_ascends low j [] ascending in
    let one : Takes (decimal j) behind_number bytes rest = record { parts = takes.parts; ends = fewer_ends rest takes.ends } in
    let same = number_unique j link bytes rest behind (omega arith) (omega arith) one first in
    let ends : IsTrue (ends_there behind_links (44 ∷ next)) = subst (λ r. IsTrue (ends_there behind_links r)) (same.1 ∙ comma) takes.ends in
    false≢true ends
no_more low link bytes behind next from few first comma none (j ∷ k ∷ ks) rest ascending takes =
    let bounds = first_ascends low j (k ∷ ks) ascending in
    let later = numbers_piece (k ∷ ks) ++ rest in
    let one : Takes (decimal j) behind_number bytes (44 ∷ later) =
    record { parts = takes.parts ∙ append_assoc (decimal j) (44 ∷ numbers_piece (k ∷ ks)) rest; ends = comma_ends later } in
    let same = number_unique j link bytes (44 ∷ later) behind (omega arith) (omega arith) one first in
    let number : j ≡ link = decimal_injective j link (omega arith) (omega arith) same.0 in
    let tail : later ≡ next = same_tail later next (same.1 ∙ comma) in
    let ascending' : IsTrue (ascends_from (link + 1) (k ∷ ks)) = subst (λ n. IsTrue (ascends_from (n + 1) (k ∷ ks))) number (later_ascends low j k ks ascending) in
    none (k ∷ ks) rest ascending' (record { parts = sym tail; ends = takes.ends })

-- ---- all links of a port

pub no_digit : (bytes : List ℕ) → begins_with_digit bytes ≡ false → Takes [] behind_number bytes bytes
no_digit [] none = record { parts = refl; ends = refl }
no_digit (b ∷ bs) none = record { parts = refl; ends = grind (arith) }

spelled_from : (low : ℕ) (js : List ℕ) → IsTrue (ascends_from low js) → IsTrue (is_spelled_links js)
spelled_from low [] ascending = refl
spelled_from low (j ∷ []) ascending = grind (arith)
spelled_from low (j ∷ k ∷ ks) ascending =
    let rest = spelled_from (j + 1) (k ∷ ks) (later_ascends low j k ks ascending) in
    let next = first_ascends (j + 1) k ks (later_ascends low j k ks ascending) in
    grind (arith, nat_tests)

some_end : (low : ℕ) (js rest : List ℕ) → IsTrue (ascends_from low js) → IsTrue (ends_there behind_links rest) → IsTrue (ends_there (links_end js) rest)
some_end low [] rest ascending ends = absurd (false≢true ascending)
some_end low (j ∷ js) rest ascending ends = ends

pub all_links : (bytes new rest : List ℕ) → AddsLinks 0 [] new bytes rest → IsTrue (is_spelled_links new) × Takes (numbers_piece new) (links_end new) bytes rest
all_links bytes new rest adds =
    let made : IsTrue (is_spelled_links adds.links) × Takes (numbers_piece adds.links) (links_end adds.links) bytes rest =
    (spelled_from 0 adds.links adds.ascending, record { parts = adds.takes.parts; ends = some_end 0 adds.links rest adds.ascending adds.takes.ends }) in
    subst (λ l. IsTrue (is_spelled_links l) × Takes (numbers_piece l) (links_end l) bytes rest) (sym adds.added) made

ascends_above : (low : ℕ) (js : List ℕ) (j : ℕ) → low ≤ j → IsTrue (is_spelled_links (j ∷ js)) → IsTrue (ascends_from low (j ∷ js))
ascends_above low [] j from spelled = grind (arith, nat_tests)
ascends_above low (k ∷ ks) j from spelled =
    let later : IsTrue (is_spelled_links (k ∷ ks)) = grind (arith) in
    let above : j + 1 ≤ k = grind (arith, nat_tests) in
    let rest = ascends_above (j + 1) ks k above later in
    grind (arith, nat_tests)

pub no_links : (bytes : List ℕ) → begins_with_digit bytes ≡ true → TakesNone numbers_piece (λ js. behind_links) (ascends_from 0) bytes → TakesNone numbers_piece links_end is_spelled_links bytes
no_links [] digit none js rest spelled takes = false≢true digit
no_links (b ∷ bs) digit none [] rest spelled takes =
    let ends : IsTrue (ends_there behind_number (b ∷ bs)) = subst (λ r. IsTrue (ends_there behind_number r)) (sym takes.parts) takes.ends in
    false≢true (grind (arith))
no_links (b ∷ bs) digit none (j ∷ js) rest spelled takes = none (j ∷ js) rest (ascends_above 0 js j (omega arith) spelled) takes

-- ---- through the results of calls

pub found_more : {E : Type 0} (r : Result (Option (Bor (List ℕ))) E) (P Q : List ℕ → Type 0) → ((rest : List ℕ) → P rest → Q rest)
    → IfOk r (λ found. IfSome found (λ rest. P rest.now)) → IfOk r (λ found. IfSome found (λ rest. Q rest.now))
found_more (Err e) P Q step all = tt
found_more (Ok None) P Q step all = tt
found_more (Ok (Some rest)) P Q step all = step rest.now all

pub none_more : {E X : Type 0} (r : Result (Option X) E) (P Q : Type 0) → (P → Q) → IfOk r (λ found. found ≡ None → P) → IfOk r (λ found. found ≡ None → Q)
none_more (Err e) P Q step all = tt
none_more (Ok found) P Q step all = λ none. step (all none)
