use Rattle.std.proofs.Common.{◌<◌, ◌==◌, ℕ, length, sym, arith, eq-eqb}
use Rattle.std.proofs.lemmas.List.Sums.{position_or_len_is}
use Rattle.rh_json_text.proofs.words.place_of.Goals as goal

pub returns-then-text-place-clause-place : goal.returns-then-text-place-clause-place
returns-then-text-place-clause-place c =
    sym (position_or_len_is (λ (b : ℕ). b == c.args.byte) c.args.text.now c.bytes.place 0 c.bytes.invariant.within c.bytes.invariant.before
    (λ (h : c.bytes.place < length c.args.text.now). eq-eqb _ _ c.if-text-place.true))

pub returns-clause-place : goal.returns-clause-place
returns-clause-place c =
    sym (position_or_len_is (λ (b : ℕ). b == c.args.byte) c.args.text.now c.bytes.place 0 c.bytes.invariant.within c.bytes.invariant.before
    (λ (h : c.bytes.place < length c.args.text.now). absurd (omega (arith, h))))
