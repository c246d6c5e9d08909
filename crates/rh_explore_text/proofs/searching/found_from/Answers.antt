use Rattle.std.proofs.Common.{◌≡◌, All, subst}
use Rattle.rh_state.specs.StateView.{StateView}
use Rattle.rh_state.specs.Stored.{read}
use Rattle.rh_trail.specs.SimView.{state_of}
use Rattle.rh_explore.specs.Reaching.{Scope}
use Rattle.rh_explore_text.specs.FoundText.{CanCome}
use Rattle.rh_explore_text.specs.SearchReading.{search_view}
use Rattle.rh_explore_text.specs.ExploreText.{scope_from}
use Rattle.rh_explore_text.proofs.Coming.{all_can_come}
use Rattle.rh_explore_text.proofs.Finding.{is_found}
use Rattle.rh_explore_text.proofs.searching.found_from.Goals as goal

pub returns-clause-found : goal.returns-clause-found
returns-clause-found g c =
    let pick = c.args.pick in
    let search = c.args.search.now in
    let found = c.in_ok-found.found in
    let w : Scope = record { base = read c.state.result.now; pick = pick; moves = c.as_slice-moves.result.now; down = search.down } in
    let here = scope_from (state_of c.args.sim.now.seen) pick (search_view search) in
    let scopes : w ≡ here = λ i. record {
      base = c.state.ensures.state i;
      pick = pick;
      moves = c.as_slice-moves.ensures.value i;
      down = search.down;
    } in
    is_found w here search.steps c.args.room c.as_slice-asks.result.now search.asks.items found scopes c.as_slice-asks.ensures.value
    c.in_ok-found.ensures

pub returns-clause-come : goal.returns-clause-come
returns-clause-come g c =
    let pick = c.args.pick in
    let search = c.args.search.now in
    let found = c.in_ok-found.found in
    let w : Scope = record { base = read c.state.result.now; pick = pick; moves = c.as_slice-moves.result.now; down = search.down } in
    subst (λ (s : StateView). All (CanCome pick s) found.verdicts.items) c.state.ensures.state
    (all_can_come w search.steps found.covered c.in_ok-found.ensures.found c.as_slice-asks.result.now found.verdicts.items c.in_ok-found.ensures.verdicts)
