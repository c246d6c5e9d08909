use Rattle.std.proofs.Common.{ℕ, ◌++◌, List, map, ap, sym, ◌∙◌, arith}
use Rattle.std.specs.List.{flat_map, range_with_len}
use Rattle.std.specs.String.{string_bytes}
use Rattle.std.proofs.lemmas.List.{flat_map_more}
use Rattle.std.proofs.lemmas.List.FromFn.{map-range_with_len_more}
use Rattle.rh_model.specs.ClusterView.{app_numbered}
use Rattle.rh_model.specs.declared.node.App.{App}
use Rattle.rh_state.specs.Stored.{read}
use Rattle.rh_calls.specs.Report.{line_if_forbidden}
use Rattle.rh_calls.proofs.Permissions.{nothing_behind}
use Rattle.rh_calls.proofs.text.nodes.push_forbidden.Goals as goal

pub returns-then-not-forbids_any : goal.returns-then-not-forbids_any
returns-then-not-forbids_any c =
    nothing_behind (read c.args.state.now) c.args.node (string_bytes c.args.text.now) (sym c.if-not-forbids_any.ensures)

pub loop-number-preserved : goal.loop-number-preserved
loop-number-preserved c =
    let s = read c.args.state.now in
    let i = c.loop-number.number in
    let head = string_bytes c.args.text.now in
    c.in_ok-push_line_if_forbidden.ensures
    ∙ ap (λ (t : List ℕ). t ++ line_if_forbidden s c.args.node (app_numbered i)) c.loop-number.invariant
    ∙ flat_map_more (line_if_forbidden s c.args.node) head (map app_numbered (range_with_len 0 i)) (app_numbered i)
    ∙ ap (λ (apps : List App). head ++ flat_map (line_if_forbidden s c.args.node) apps) (sym (map-range_with_len_more app_numbered 0 i i (omega arith)))
