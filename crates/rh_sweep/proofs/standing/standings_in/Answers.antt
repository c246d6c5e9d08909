use Rattle.std.proofs.Common.{[], ◌++◌, List, map, ap, sym, ◌∙◌, arith}
use Rattle.std.specs.List.{flat_map, range_with_len}
use Rattle.std.proofs.lemmas.List.{flat_map_more}
use Rattle.std.proofs.lemmas.List.FromFn.{map-range_with_len_more}
use Rattle.rh_model.specs.ClusterView.{app_numbered}
use Rattle.rh_model.specs.declared.node.App.{App}
use Rattle.rh_state.specs.declared.status.Standing.{Standing}
use Rattle.rh_state.specs.Stored.{read}
use Rattle.rh_outcomes.specs.Outcomes.{standing_in}
use Rattle.rh_sweep.proofs.standing.standings_in.Goals as goal

pub loop-number-preserved : goal.loop-number-preserved
loop-number-preserved c =
    let s = read c.args.state.now in
    let i = c.loop-number.number in
    c.in_ok-push_standing.ensures
    ∙ ap (λ (found : List (App × Standing)). found ++ standing_in s (app_numbered i)) c.loop-number.invariant
    ∙ flat_map_more (standing_in s) [] (map app_numbered (range_with_len 0 i)) (app_numbered i)
    ∙ ap (λ (apps : List App). flat_map (standing_in s) apps) (sym (map-range_with_len_more app_numbered 0 i i (omega arith)))
