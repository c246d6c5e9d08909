use Rattle.std.proofs.Common.{rules, tests, ◌≡◌, ◌∙◌, ℕ, List, Bor}
use Rattle.std.specs.List.{list_any}
use Rattle.std.specs.Str.{bytes_eq}
use Rattle.std.proofs.lemmas.Iterator.{YieldsList-from_slice}
use Rattle.std.proofs.lemmas.Iterator.Search.{any_from_yields_List}
use Rattle.rh_line_lint.proofs.Seen.{any_seen}
use Rattle.rh_line_lint.proofs.arguments.is_among.Goals as goal

pub returns : goal.returns
returns c =
    let test = λ (other : Bor (List ℕ)). bytes_eq c.args.word.now other.now in
    let found : c.any.result ≡ list_any test c.args.words.now =
    any_from_yields_List test _ _ c.any.result c.any.ensures.ran (YieldsList-from_slice c.args.words.now cc) (λ x b q k. search (rules, tests)) in
    found ∙ any_seen (λ (other : Bor (List ℕ)). other.now) (bytes_eq c.args.word.now) c.args.words.now
