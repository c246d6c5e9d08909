use Rattle.std.proofs.Common.{◌++◌, ◌∙◌, List, ap, sym, not}
use Rattle.std.specs.List.{flat_map}
use Rattle.std.proofs.lemmas.List.{append-nil}
use Rattle.rh_base.proofs.Lists.{none_filter}
use Rattle.rh_model.specs.declared.node.App.{App}
use Rattle.rh_state.specs.Numbers.{apps_of}
use Rattle.rh_model.specs.ClusterView.{app_numbered}
use Rattle.rh_state.specs.Stored.{read}
use Rattle.rh_state.specs.StateView.{is_allowed}
use Rattle.rh_json_lines.specs.ClusterLines.{app_json}
use Rattle.rh_json_text.specs.Json.{behind_comma}
use Rattle.rh_json_text.proofs.Arrays.{passed_more}
use Rattle.rh_json_lines.proofs.states.push_each_forbidden.Goals as goal

pub returns-then-not-forbids_any : goal.returns-then-not-forbids_any
returns-then-not-forbids_any c =
    let s = read c.args.state.now in
    let begun = c.args.out.now.items in
    let none = none_filter (λ (a : App). not (is_allowed s c.args.node a)) (apps_of s.cluster) (sym c.if-not-forbids_any.ensures) in
    sym (append-nil begun) ∙ ap (λ (apps : List App). begun ++ flat_map (behind_comma (app_json s.cluster)) apps) (sym none)

pub loop-number-preserved : goal.loop-number-preserved
loop-number-preserved c =
    let s = read c.args.state.now in
    passed_more (behind_comma (app_json s.cluster)) (λ a. not (is_allowed s c.args.node a)) app_numbered c.args.out.now.items c.loop-number.out.items _ c.loop-number.number
    c.loop-number.invariant c.in_ok-push_if_forbidden.ensures
