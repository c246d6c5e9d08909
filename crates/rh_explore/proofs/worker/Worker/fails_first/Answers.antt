use Rattle.std.proofs.Common.{◌≡◌, None, Some, slice_get, sym, ap, ◌∙◌}
use Rattle.std.proofs.lemmas.Option.{get_or_from_slice_get}
use Rattle.rh_state.specs.Stored.{read}
use Rattle.rh_explore.specs.declared.asking.Ask.{Ask}
use Rattle.rh_explore.specs.Asking.{holds_in}
use Rattle.rh_explore.proofs.Leading.{known_first, answered_by}
use Rattle.rh_explore.proofs.worker.Worker.fails_first.Goals as goal

pub returns-then-is_some-clause-fails : goal.returns-then-is_some-clause-fails
returns-then-is_some-clause-fails c = λ ask is none.
    let s = c.args.search.now in
    absurd (known_first s.pick c.args.known.now.firsts.now s.asks.now c.args.number _ (sym c.is_some.ensures ∙ c.if-is_some.true) none)

pub returns-clause-fails : goal.returns-clause-fails
returns-clause-fails c = λ ask is.
    let s = c.args.search.now in
    let state = read c.args.state.now in
    let same = get_or_from_slice_get s.asks.now c.args.number ask c.index-search-number.result is in
    answered_by c.in_ok-holds.holds (holds_in s.pick ask state) (slice_get c.args.known.now.firsts.now c.args.number ≡ Some None)
    (c.in_ok-holds.ensures.holds ∙ ap (λ (a : Ask). holds_in s.pick a state) same)
