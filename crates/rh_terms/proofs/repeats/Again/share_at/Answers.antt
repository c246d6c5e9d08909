use Rattle.std.proofs.Common.{◌≡◌, ◌++◌, ℕ, List, Ok, length, take, drop, sym, ap, ◌∙◌, rules}
use Rattle.std.proofs.lemmas.List.{take_rest, take-append-drop}
use Rattle.rh_base.specs.Tree.{Trees, trees_of, items_of}
use Rattle.rh_base.specs.Tree as tree
use Rattle.rh_terms.specs.Grammar.{term_at}
use Rattle.rh_terms.proofs.repeats.Again.share_at.Goals as goal

pub returns-in-Ok : goal.returns-in-Ok
returns-in-Ok c =
    let text : List ℕ = c.args.self.now.text.now in
    let bytes : List ℕ = c.args.bytes.now in
    let behind : List ℕ = drop (length text) bytes in
    let front : take (length text) bytes ≡ text = search rules in
    let parts : bytes ≡ text ++ behind = sym (take-append-drop (length text) bytes) ∙ ap (λ (l : List ℕ). l ++ behind) front in
    let read : term_at c.args.room (text ++ behind) ≡ Ok (tree.list (trees_of (items_of c.in-Some.list)), behind) = search rules in
    ap (λ (l : List ℕ). term_at c.args.room l) parts ∙ read
    ∙ ap (λ (ts : Trees). Ok (tree.list ts, behind)) (sym c.in-Ok.ensures)
    ∙ ap (λ (l : List ℕ). Ok (tree.list (trees_of (items_of c.in-Ok.same)), l)) (sym (take_rest bytes (length text)))
