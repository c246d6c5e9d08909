use Rattle.std.proofs.Common.{sym, ap, ◌∙◌}
use Rattle.rh_state.specs.Stored.{read}
use Rattle.rh_rules.specs.Placing.{picked}
use Rattle.rh_settle.proofs.Boards.{callers_are, no_callers}
use Rattle.rh_settle.proofs.Searches.{none_of_none}
use Rattle.rh_settle.proofs.search.takeover_of.Goals as goal

pub returns-then-is_empty : goal.returns-then-is_empty
returns-then-is_empty c = λ fresh h.
    let s = read c.args.state.now in
    let a = c.args.app in
    none_of_none c.args.pick
    ∙ ap (picked c.args.pick) (sym (no_callers s fresh a c.formed.ensures.shape
    (λ n of_n. sym (callers_are s fresh c.args.board.now h a c.requires n of_n) ∙ sym (c.callers-callers.ensures n) ∙ c.is_empty.ensures.0 c.if-is_empty.true n)))

pub returns : goal.returns
returns c = λ fresh h.
    let s = read c.args.state.now in
    let a = c.args.app in
    c.takeover_by.ensures fresh (λ n of_n. c.callers-callers.ensures n ∙ callers_are s fresh c.args.board.now h a c.requires n of_n)
