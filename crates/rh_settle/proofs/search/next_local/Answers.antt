use Rattle.std.proofs.Common.{ap, sym, ◌∙◌, refl}
use Rattle.rh_state.specs.Stored.{read}
use Rattle.rh_rules.specs.Placing.{picked}
use Rattle.rh_rules.specs.Moves.{local_moves}
use Rattle.rh_settle.proofs.Boards.{given_node, given_nowhere, local_within, no_head}
use Rattle.rh_settle.proofs.Searches.{none_of_none}
use Rattle.rh_settle.proofs.search.next_local.Goals as goal

pub local_at-requires : goal.local_at-requires
local_at-requires c =
    local_within (read c.args.state.now) c.in-Some.node c.formed.ensures.shape
    (sym (c.requires c.in-Some.node).starts ∙ sym (c.starts.ensures c.in-Some.node) ∙ c.in-Some.ensures.member)

pub returns-in-Some : goal.returns-in-Some
returns-in-Some c = λ pick.
    let s = read c.args.state.now in
    let n = c.in-Some.node in
    let some = sym (c.requires n).starts ∙ sym (c.starts.ensures n) ∙ c.in-Some.ensures.member in
    c.local_at.ensures pick
    ∙ ap (picked pick) (sym (given_node s.cluster (local_moves s) n (local_within s n c.formed.ensures.shape some)
    (λ k less. no_head (local_moves s k) (sym (c.requires k).starts ∙ sym (c.starts.ensures k) ∙ c.in-Some.ensures.lowest k less))
    some))

pub returns-in-None : goal.returns-in-None
returns-in-None c = λ pick.
    let s = read c.args.state.now in
    none_of_none pick
    ∙ ap (picked pick) (sym (given_nowhere s.cluster (local_moves s)
    (λ n. no_head (local_moves s n) (sym (c.requires n).starts ∙ sym (c.starts.ensures n) ∙ c.in-None.ensures.none.0 refl n))))
