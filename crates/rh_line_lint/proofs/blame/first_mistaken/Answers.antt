use Rattle.std.proofs.Common.{rules, tests, ◌≡◌, ◌∙◌, ap, ℕ, not, List, Bor, find}
use Rattle.std.specs.Prelude.{option_map}
use Rattle.std.specs.List.{zip}
use Rattle.std.proofs.lemmas.Iterator.{YieldsList-from_slice, YieldsList-from_zip}
use Rattle.std.proofs.lemmas.Iterator.Search.{find_from_yields_List}
use Rattle.rh_script.specs.declared.forms.Argument.{Argument}
use Rattle.rh_line_lint.specs.Arguments.{takes}
use Rattle.rh_line_lint.proofs.Seen.{pair_seen}
use Rattle.rh_line_lint.proofs.blame.first_mistaken.Goals as goal

pub returns : goal.returns
returns c =
    let test = λ (p : Argument × Bor (List ℕ)). not (takes p.0 p.1.now) in
    let pointed : Bor Argument × Bor (Bor (List ℕ)) → Argument × Bor (List ℕ) = λ p. (p.0.now, p.1.now) in
    let as_seen : Argument × Bor (List ℕ) → Argument × List ℕ = λ p. (p.0, p.1.now) in
    let found : option_map pointed c.find.result ≡ find test (zip c.args.arguments.now c.args.words.now) =
    find_from_yields_List test c.find.new.self _ c.find.result c.find.ensures.ran
    (YieldsList-from_zip (YieldsList-from_slice c.args.arguments.now cc) (YieldsList-from_slice c.args.words.now cc)) (λ x b q k. search (rules, tests)) in
    let copied : c.map.result ≡ option_map pointed c.find.result = search rules in
    ap (option_map as_seen) (copied ∙ found)
    ∙ pair_seen (λ (word : Bor (List ℕ)). word.now) (λ p. not (takes p.0 p.1)) c.args.arguments.now c.args.words.now
