use Rattle.std.proofs.Common.{◌≡◌, ◌++◌, ℕ, List, true, codes, ap, sym, ◌∙◌, append_assoc, arith}
use Rattle.std.specs.Prelude.{◌==◌}
use Rattle.std.specs.Fmt.{decimal}
use Rattle.std.proofs.lemmas.Bool.Decides.{nat_tests}
use Rattle.rh_verify.specs.Counts.{tally_text}
use Rattle.rh_verify.proofs.tally.tally_text.Goals as goal

regrouped : (a b c d : List ℕ) → ((a ++ b) ++ c) ++ d ≡ a ++ (b ++ (c ++ d))
regrouped a b c d = simp append_assoc

pub returns-in_ok-format : goal.returns-in_ok-format
unfolding tally_text
returns-in_ok-format c =
    let tally = c.args.tally in
    let none : (tally.differing == 0) ≡ true = grind (arith, nat_tests, c.if-differing-eq0.true) in
    rw none
    (c.in_ok-format.ensures.ok
    ∙ ap (λ (t : List ℕ). codes "ok " ++ t) (sym (regrouped (decimal tally.checked) (codes " of ") (decimal tally.commands) (codes " commands checked\n"))))
