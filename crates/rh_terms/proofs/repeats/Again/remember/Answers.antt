use Rattle.std.proofs.Common.{◌≡◌, ◌-◌, ◌++◌, ℕ, List, length, take, Ok, sym, ap, ◌∙◌, arith}
use Rattle.rh_base.specs.declared.term.Terms.{Terms}
use Rattle.rh_base.specs.Tree.{Trees, trees_of, items_of}
use Rattle.rh_base.specs.Tree as tree
use Rattle.rh_terms.specs.Grammar.{term_at}
use Rattle.rh_terms.proofs.Enough.{term_length}
use Rattle.rh_terms.proofs.ListAgain.{list_again}
use Rattle.rh_terms.proofs.repeats.Again.remember.Goals as goal

pub slice_bounds-text-count : goal.slice_bounds-text-count
slice_bounds-text-count c = omega (arith, term_length c.args.room c.args.bytes.now _ c.args.rest.now c.requires.read)

pub returns-in-Ok-share-clause-known : goal.returns-in-Ok-share-clause-known
returns-in-Ok-share-clause-known c =
    let kept : (ts : Terms) → c.in-Ok-share.same ≡ ts → (rest : List ℕ) → term_at c.args.room (take (length c.args.bytes.now - length c.args.rest.now) c.args.bytes.now ++ rest) ≡ Ok (tree.list (trees_of (items_of ts)), rest) = λ ts is rest.
    let read = list_again c.args.room c.args.bytes.now (tree.list (trees_of (items_of c.args.list))) c.args.rest.now c.requires.read c.requires.opens rest in
    let same : trees_of (items_of c.args.list) ≡ trees_of (items_of ts) =
    sym (c.in-Ok-share.ensures ∙ ap trees_of c.in-Ok.ensures.shared) ∙ ap (λ (us : Terms). trees_of (items_of us)) is in
    read ∙ ap (λ (us : Trees). Ok (tree.list us, rest)) same in
    record { kept = λ ts is. kept ts (cc is); skipped = c.requires.known.skipped }
