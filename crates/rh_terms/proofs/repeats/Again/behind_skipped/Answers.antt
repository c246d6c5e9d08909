use Rattle.std.proofs.Common.{◌≡◌, ◌<◌, ◌++◌, ℕ, List, Ok, length, take, drop, sym, ap, ◌∙◌, rules}
use Rattle.std.proofs.lemmas.List.{take_rest, take-append-drop}
use Rattle.rh_terms.specs.Grammar.{term_at}
use Rattle.rh_terms.specs.Kept.{behind}
use Rattle.rh_terms.proofs.repeats.Again.behind_skipped.Goals as goal

pub returns-then-starts_with : goal.returns-then-starts_with
returns-then-starts_with c =
    let text : List ℕ = c.args.self.now.skipped.now in
    let bytes : List ℕ = c.args.bytes.now in
    let rest : List ℕ = drop (length text) bytes in
    let some : 0 < length text = search rules in
    let front : take (length text) bytes ≡ text = search rules in
    let parts : bytes ≡ text ++ rest = sym (take-append-drop (length text) bytes) ∙ ap (λ (l : List ℕ). l ++ rest) front in
    let room : c.args.self.now.skipped_room ≡ c.args.room = search rules in
    ap (λ (l : List ℕ). behind (term_at c.args.room l)) parts ∙ ap (λ (n : ℕ). behind (term_at n (text ++ rest))) (sym room) ∙ c.requires.skipped some rest
    ∙ ap (λ (l : List ℕ). Ok l) (sym (take_rest bytes (length text)))
