use Rattle.std.proofs.Common.{◌≡◌, ℕ, List, ◌∷◌, ◌++◌, sym, ◌∙◌}
use Rattle.std.proofs.lemmas.List.{append_cancel_left}
use Rattle.canonical_form.proofs.reading.tokens.behind_sign.Goals as goal

same_tail : (b : ℕ) (xs ys : List ℕ) → b ∷ xs ≡ b ∷ ys → xs ≡ ys
same_tail b xs ys same = cc

pub returns-clause-none : goal.returns-clause-none
returns-clause-none c none rest parts =
    let named : c.in_ok-named.named.now ≡ c.args.name.now ++ (c.args.sign ∷ rest) = same_tail 32 _ _ (sym c.in_ok-named.ensures.found ∙ parts) in
    c.behind_byte-2.ensures.none none rest (append_cancel_left c.args.name.now _ _ (sym c.in_ok-signed.ensures.found ∙ named))
