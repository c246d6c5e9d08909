use Rattle.std.proofs.Common.{◌∙◌, List, ap, subst}
use Rattle.rh_calls.specs.declared.call.Call.{Call}
use Rattle.rh_trail.specs.SimView.{SimView, state_of}
use Rattle.rh_trail.specs.Lone.{opened, sim_after}
use Rattle.rh_explore_text.specs.SearchReading.{search_view}
use Rattle.rh_explore_text.specs.ExploreText.{IsFound, scope_from}
use Rattle.rh_explore_text.proofs.searching.search_from.Goals as goal

pub returns-clause-base : goal.returns-clause-base
returns-clause-base g c =
    c.in_ok-make_calls.ensures.sim
    ∙ ap (λ (s : SimView). sim_after s c.as_slice.result.now) c.in_ok-sim.ensures.seen
    ∙ ap (λ (calls : List Call). sim_after (opened c.args.cluster c.args.pick) calls) c.as_slice.ensures.value

pub returns-clause-cluster : goal.returns-clause-cluster
returns-clause-cluster g c = c.in_ok-make_calls.ensures.cluster ∙ ap (λ (s : SimView). s.cluster) c.in_ok-sim.ensures.seen

pub returns-clause-found : goal.returns-clause-found
returns-clause-found g c =
    let pick = c.args.pick in
    let search = c.args.search in
    let found = c.in_ok-found.found in
    let behind = c.in_ok-make_calls.ensures.sim
    ∙ ap (λ (s : SimView). sim_after s c.as_slice.result.now) c.in_ok-sim.ensures.seen
    ∙ ap (λ (calls : List Call). sim_after (opened c.args.cluster pick) calls) c.as_slice.ensures.value in
    subst (λ (s : SimView). IsFound (scope_from (state_of s) pick (search_view search)) search.steps c.args.room search.asks.items found) behind
    c.in_ok-found.ensures.found
