use Rattle.std.proofs.Common.{ℕ, ◌++◌, List, map, ap, sym, ◌∙◌, arith}
use Rattle.std.specs.List.{flat_map, range_with_len}
use Rattle.std.specs.String.{string_bytes}
use Rattle.std.proofs.lemmas.List.{flat_map_more}
use Rattle.std.proofs.lemmas.List.FromFn.{map-range_with_len_more}
use Rattle.rh_model.specs.ClusterView.{app_numbered}
use Rattle.rh_model.specs.declared.node.App.{App}
use Rattle.rh_state.specs.Stored.{read}
use Rattle.rh_calls.specs.Report.{app_line}
use Rattle.rh_calls.proofs.text.apps.push_apps.Goals as goal

pub loop-number-preserved : goal.loop-number-preserved
loop-number-preserved c =
    let s = read c.args.state.now in
    let i = c.loop-number.number in
    let head = string_bytes c.args.text.now in
    c.in_ok-push_app_line.ensures
    ∙ ap (λ (t : List ℕ). t ++ app_line s (app_numbered i)) c.loop-number.invariant
    ∙ flat_map_more (app_line s) head (map app_numbered (range_with_len 0 i)) (app_numbered i)
    ∙ ap (λ (apps : List App). head ++ flat_map (app_line s) apps) (sym (map-range_with_len_more app_numbered 0 i i (omega arith)))
