use Rattle.std.proofs.Common.{Some, Result, refl, subst}
use Rattle.rh_base.specs.Tree.{Trees}
use Rattle.rh_base.specs.declared.term.Terms.{Terms}
use Rattle.rh_terms.specs.declared.fault.TermFault.{TermFault}
use Rattle.rh_terms.specs.declared.keep.KeepAll.{KeepAll}
use Rattle.rh_terms.specs.Grammar.{terms_of, Tells}
use Rattle.rh_terms.specs.Kept.{kept_of}
use Rattle.rh_terms.proofs.Kept.{whole_of}
use Rattle.rh_terms.proofs.Told.{tells_spelled, tells_read, tells_unsupported}
use Rattle.rh_terms.proofs.Longest.{tells_syntax}
use Rattle.rh_terms.proofs.reading.read_terms.Goals as goal

-- what is kept where all is kept
all_told : (k : KeepAll) (r : Result Terms TermFault) (read : Result Trees TermFault) → Tells r (kept_of (λ all _. Some all) k read) → Tells r read
all_told k r read h =
    let P : Result Trees TermFault → Type 0 = λ x. Tells r x in
    subst P (whole_of (λ all _. Some all) k (λ key. refl) read) h

pub returns-clause-exact : goal.returns-clause-exact
returns-clause-exact c = all_told _ c.read_kept.result (terms_of c.args.bytes.now) c.read_kept.ensures

pub returns-clause-spelled : goal.returns-clause-spelled
returns-clause-spelled c =
    tells_spelled c.args.bytes.now c.read_kept.result (all_told _ c.read_kept.result (terms_of c.args.bytes.now) c.read_kept.ensures)

pub returns-clause-read : goal.returns-clause-read
returns-clause-read c = tells_read c.args.bytes.now c.read_kept.result (all_told _ c.read_kept.result (terms_of c.args.bytes.now) c.read_kept.ensures)

pub returns-clause-syntax : goal.returns-clause-syntax
returns-clause-syntax c = tells_syntax c.args.bytes.now c.read_kept.result (all_told _ c.read_kept.result (terms_of c.args.bytes.now) c.read_kept.ensures)

pub returns-clause-unsupported : goal.returns-clause-unsupported
returns-clause-unsupported c =
    tells_unsupported c.args.bytes.now c.read_kept.result (all_told _ c.read_kept.result (terms_of c.args.bytes.now) c.read_kept.ensures)
