use Rattle.std.proofs.Common.{◌<◌, ◌^◌, ◌∙◌, ◌==◌, ap, sym, le-ltb, arith}
use Rattle.std.proofs.lemmas.Nat.Bits.{shr_and_one, bit_at_above}
use Rattle.partial_state.proofs.KindLaws.{has_kind}
use Rattle.partial_state.proofs.whole.has_type.Goals as goal

-- the bit of the type
pub returns-then-t-lt128 : goal.returns-then-t-lt128
returns-then-t-lt128 c = ap (λ n. n == 1) (shr_and_one c.args.mask c.args.t) ∙ sym (has_kind c.args.mask c.args.t (omega arith))

-- there are no bits from 128 on
pub returns-else-t-lt128 : goal.returns-else-t-lt128
returns-else-t-lt128 c =
    let fits : c.args.mask < 2 ^ 128 = omega arith in
    let past = c.if-t-lt128.false in
    le-ltb c.args.t 128 past ∙ sym (ap (λ n. n == 1) (bit_at_above c.args.mask 128 c.args.t fits past)) ∙ sym (has_kind c.args.mask c.args.t fits)
