-- Calls of a reader or a writer, one after another.
use Rattle.std.proofs.Common.{ℕ, ◌+◌, ◌≤◌, List, [], ◌++◌, length, take, drop, arith, refl, sym, ◌∙◌, ap, append_assoc, append-nil, length-append}
use Rattle.std.proofs.lemmas.List.{take-append-drop}
use Rattle.std.specs.Prelude.{Some, None, Option}
use Rattle.std.specs.Io.KnownBytes.{Appends, Consumes}
use Rattle.cfg_io.specs.Streams.{Leaves, GetsFront}
use Rattle.cfg_io.specs.steps.Streams.{TakesAtMost}

-- what two calls take
pub consumes_both : (a b c : Option (List ℕ)) (xs ys : List ℕ)
    → Consumes a b xs → Consumes b c ys → Consumes a c (xs ++ ys)
consumes_both None b c xs ys first second = tt
consumes_both (Some x) None c xs ys first second = absurd first
consumes_both (Some x) (Some y) None xs ys first second = absurd second
consumes_both (Some x) (Some y) (Some z) xs ys first second = rw (first, second, append_assoc) refl

-- what two calls add
pub appends_both : (a b c : Option (List ℕ)) (xs ys : List ℕ)
    → Appends a b xs → Appends b c ys → Appends a c (xs ++ ys)
appends_both None b c xs ys first second = tt
appends_both (Some x) None c xs ys first second = absurd first
appends_both (Some x) (Some y) None xs ys first second = absurd second
appends_both (Some x) (Some y) (Some z) xs ys first second = rw (second, first, append_assoc) refl

-- after some bytes, at most so many more
pub takes_on : (a b c : Option (List ℕ)) (xs : List ℕ) (n m : ℕ)
    → Consumes a b xs → TakesAtMost n b c → length xs + n ≤ m → TakesAtMost m a c
takes_on a b c xs n m first more within = record {
  piece = xs ++ more.piece;
  taken = consumes_both a b c xs more.piece first more.taken;
  within = omega (arith, more.within, length-append xs more.piece);
}

-- a further write of the rest leaves what it did not take
pub leaves_on : (a b c : Option (List ℕ)) (piece rest : List ℕ) (n : ℕ)
    → Leaves a b piece rest → Appends b c (take n rest) → Leaves a c piece (drop n rest)
leaves_on a b c piece rest n before more = record {
  front = before.front ++ take n rest;
  parts = before.parts
      ∙ ap (λ r. before.front ++ r) (sym (take-append-drop n rest))
      ∙ sym (append_assoc before.front (take n rest) (drop n rest));
  written = appends_both a b c before.front (take n rest) before.written more;
}

-- a write that failed adds nothing to the front
pub front_stays : (a b c : Option (List ℕ)) (piece rest : List ℕ)
    → Leaves a b piece rest → Appends b c [] → GetsFront a c piece
front_stays a b c piece rest before nothing = record {
  rest = rest;
  leaves = record {
    front = before.front;
    parts = before.parts;
    written = rw append-nil at (appends_both a b c before.front [] before.written nothing);
  };
}
