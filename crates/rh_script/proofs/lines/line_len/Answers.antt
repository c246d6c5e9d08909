use Rattle.std.proofs.Common.{◌≡◌, ◌∷◌, Bool, true, false, length, get_or, eqb, sym, refl, subst, ◌∙◌, arith}
use Rattle.std.proofs.lemmas.List.{take_all, drop_all}
use Rattle.memchr.specs.Find.{IsFirstByte, is_byte}
use Rattle.rh_script.specs.Lines.{raw_lines}
use Rattle.rh_script.proofs.LineLemmas.{line_ends, line_is_all}
use Rattle.rh_script.proofs.lines.line_len.Goals as goal

isnt : (b : Bool) → (b ≡ true → ⊥) → b ≡ false
isnt true other = absurd (other refl)
isnt false other = refl

pub returns-in-Some-clause-line : goal.returns-in-Some-clause-line
returns-in-Some-clause-line c = λ _.
    let bytes = c.args.bytes.now in
    let found = subst (IsFirstByte (is_byte 10) bytes) c.in-Some.is c.memchr.ensures in
    line_ends bytes c.in-Some.at found.0.high (λ k h. isnt (eqb (get_or bytes k 0) 10) (found.0.before k (omega arith) h)) found.1

pub returns-in-None-clause-line : goal.returns-in-None-clause-line
returns-in-None-clause-line c = λ filled.
    let bytes = c.args.bytes.now in
    let none = subst (IsFirstByte (is_byte 10) bytes) c.in-None.is c.memchr.ensures in
    line_is_all bytes filled (λ k h. isnt (eqb (get_or bytes k 0) 10) (none k (omega arith) h))
    ∙ (λ i. sym (take_all (length bytes) bytes (omega arith)) i ∷ raw_lines (sym (drop_all (length bytes) bytes (omega arith)) i))
