use Rattle.std.proofs.Common.{◌≡◌, ◌++◌, ℕ, List, All, refl, sym, ap, subst, ◌∙◌}
use Rattle.rh_model.specs.ClusterView.{ClusterView}
use Rattle.rh_state.specs.StateView.{StateView}
use Rattle.rh_state.specs.Stored.{read}
use Rattle.rh_calls.specs.declared.call.Call.{Call}
use Rattle.rh_trail.specs.SimView.{SimView, state_of}
use Rattle.rh_trail.specs.Lone.{opened, sim_after}
use Rattle.rh_run.specs.RunText.{answers_text}
use Rattle.rh_explore_text.specs.FoundText.{CanCome, found_text}
use Rattle.rh_explore_text.specs.SearchReading.{search_view}
use Rattle.rh_explore_text.specs.ExploreText.{IsFound, scope_from}
use Rattle.rh_explore_text.proofs.exploring.answer_search.Goals as goal

pub push_found-requires-clause-come : goal.push_found-requires-clause-come
push_found-requires-clause-come g c =
    subst (λ (s : StateView). All (CanCome c.args.pick s) c.in_ok-found.found.verdicts.items) (sym c.state.ensures.state) c.in_ok-found.ensures.come

pub returns : goal.returns
returns g c =
    let cluster = c.args.cluster in
    let pick = c.args.pick in
    let search = c.args.search.now in
    let base = search.base.items in
    let found = c.in_ok-found.found in
    let opens : c.in_ok-sim.sim.seen ≡ opened cluster pick = c.in_ok-sim.ensures.seen in
    let sims : c.answers_to.new.sim.seen ≡ sim_after (opened cluster pick) base = c.in_ok-text.ensures.sim
    ∙ ap (λ (s : SimView). sim_after s c.as_slice.result.now) opens
    ∙ ap (λ (calls : List Call). sim_after (opened cluster pick) calls) c.as_slice.ensures.value in
    let behind : read c.state.result.now ≡ state_of (sim_after (opened cluster pick) base) = c.state.ensures.state ∙ ap state_of sims in
    let answers = answers_text cluster (opened cluster pick) base in
    let told : c.in_ok-text.text.items ≡ answers = c.in_ok-text.ensures.text
    ∙ ap (λ (s : SimView). answers_text s.cluster s c.as_slice.result.now) opens
    ∙ ap (λ (calls : List Call). answers_text cluster (opened cluster pick) calls) c.as_slice.ensures.value in
    let named : c.cluster.result.now ≡ cluster = c.cluster.ensures ∙ c.in_ok-text.ensures.cluster ∙ ap (λ (s : SimView). s.cluster) opens in (
      search.asks.items,
      found,
      refl,
      subst (λ (s : SimView). IsFound (scope_from (state_of s) pick (search_view search)) search.steps c.args.room search.asks.items found) sims
          c.in_ok-found.ensures.found,
      c.in_ok-push_found.ensures
          ∙ ap (λ (t : List ℕ). t ++ found_text c.cluster.result.now pick (read c.state.result.now) search.down search.steps found) told
          ∙ ap (λ (k : ClusterView). answers ++ found_text k pick (read c.state.result.now) search.down search.steps found) named
          ∙ ap (λ (s : StateView). answers ++ found_text cluster pick s search.down search.steps found) behind,
      c.found_end-end.ensures,
    )
