use Rattle.std.proofs.Common.{ap, sym, ◌∙◌, ◌≡◌, Ok}
use Rattle.rh_base.specs.Tree.{Tree, list, tuple, none, trees_of, items_of}
use Rattle.rh_base.proofs.Trees.{tree_of-list, tree_of-tuple}
use Rattle.rh_terms.proofs.Kept.{hollow_list, hollow_other}
use Rattle.rh_terms.proofs.skim.skipped_term.Goals as goal

pub returns-then-begins_with-clause-read : goal.returns-then-begins_with-clause-read
returns-then-begins_with-clause-read c =
    let nothing : trees_of (items_of c.of-nothing.result) ≡ none = ap trees_of (c.of-nothing.ensures ∙ c.new.ensures.items) in
    hollow_list c.args.room c.args.bytes.now c.in_ok-rest.rest.now (sym c.begins_with.ensures.begins ∙ c.if-begins_with.true) c.in_ok-rest.ensures.read
    ∙ ap (λ (t : Tree). Ok (t, c.in_ok-rest.rest.now)) (sym (tree_of-list c.of-nothing.result ∙ ap list nothing))

pub returns-else-begins_with-clause-read : goal.returns-else-begins_with-clause-read
returns-else-begins_with-clause-read c =
    let nothing : trees_of (items_of c.of-nothing.result) ≡ none = ap trees_of (c.of-nothing.ensures ∙ c.new.ensures.items) in
    hollow_other c.args.room c.args.bytes.now c.in_ok-rest.rest.now (sym c.begins_with.ensures.begins ∙ c.if-begins_with.false) c.in_ok-rest.ensures.read
    ∙ ap (λ (t : Tree). Ok (t, c.in_ok-rest.rest.now)) (sym (tree_of-tuple c.of-nothing.result ∙ ap tuple nothing))
