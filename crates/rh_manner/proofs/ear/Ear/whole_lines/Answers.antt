use Rattle.std.proofs.Common.{◌<◌, ◌∙◌, ℕ, Vec, Global, sym, ap, subst, arith}
use Rattle.std.proofs.lemmas.Bool.Decides.{nat_tests}
use Rattle.rh_manner.specs.Hearing.{AreWhole}
use Rattle.rh_manner.proofs.WholeLines.{ends_whole}
use Rattle.rh_manner.proofs.ear.Ear.whole_lines.Goals as goal

pub returns-clause-whole : goal.returns-clause-whole
returns-clause-whole c =
    let some : 0 < c.end_of_lines-end.result = grind (arith, nat_tests, c.if-end-eq0.false) in
    subst AreWhole (sym (ap (λ (v : Vec ℕ Global). v.items) c.replace.ensures.value ∙ c.in_ok-extend_from_slice-2.ensures.items))
    (ends_whole c.args.self.now.rest.items c.args.bytes.now c.end_of_lines-end.result some c.end_of_lines-end.ensures.within (c.end_of_lines-end.ensures.last some))
