use Rattle.std.proofs.Common.{List, [], ◌∷◌, ◌++◌, length, ap, ◌∙◌, arith}
use Rattle.rh_model.specs.ClusterView.{ClusterView, boot_of}
use Rattle.rh_model.specs.declared.node.Node.{Node}
use Rattle.rh_rules.specs.declared.notice.Notice.{Notice}
use Rattle.rh_rules.specs.declared.notice.Notice.TheVariants.{Up}
use Rattle.rh_state.specs.Stored.{read}
use Rattle.rh_rules.specs.Course.{Course}
use Rattle.rh_trace.specs.Traces.{TraceView, trace_of, course}
use Rattle.rh_trace.proofs.Ways.{silent_more, goes_told, goes_more, goes_cluster}
use Rattle.rh_events.proofs.Counts.{told_once, mark_all_tells, on_ok_two}
use Rattle.rh_events.proofs.coming_up.come_up.Goals as goal

-- the node is told to be up
abbrev with_up : Node → TraceView → TraceView
with_up n t = trace_of (t.notices ++ Up n ∷ []) t.marked t.freed t.edits

pub returns-clause-way : goal.returns-clause-way
returns-clause-way c =
    let m = c.in_ok-tell.ensures.told ∙ ap (λ (t : TraceView). with_up c.args.node t) c.expect_boot.ensures in
    goes_more _ _ _ _ _ _ (goes_told _ _ _ _ (ap (λ (t : TraceView). t.notices) m) (ap (λ (t : TraceView). t.edits) m))
    (goes_more _ _ _ _ _ _ c.in_ok-cancel_if_set.ensures.way
    (goes_more _ _ _ _ _ _ c.in_ok-set_mode.ensures.way c.mark_booted.ensures.way))

pub returns-clause-few : goal.returns-clause-few
returns-clause-few c =
    let s = read c.args.state.now in
    let o = course (read c.set_mode.new.state) c.set_mode.new.trace in
    let told = c.in_ok-tell.ensures.told ∙ ap (λ (t : TraceView). with_up c.args.node t) c.expect_boot.ensures in
    let once = goes_cluster _ _ _ _ c.in_ok-cancel_if_set.ensures.way in
    let twice = goes_cluster _ _ _ _ c.in_ok-set_mode.ensures.way ∙ once in
    let boots = ap (λ (v : ClusterView). length (boot_of v c.args.node)) twice in
    let edits = ap (λ (t : TraceView). length t.edits) told in
    let first = silent_more _ _ _ c.in_ok-cancel_if_set.ensures.silent c.in_ok-set_mode.ensures.silent in
    let before = ap (λ (ns : List Notice). length ns) first.notices in
    on_ok_two c.mark_booted.result
    (λ made few.
    let silent = ap (λ (p : Course). p.notices) made ∙ mark_all_tells o c.args.node (boot_of o.state.cluster c.args.node) in
    let count = ap (λ (ns : List Notice). length ns) silent in
    told_once s.cluster (Up c.args.node) c.args.trace.now c.mark_booted.new.trace
    (silent ∙ first.notices ∙ ap (λ (t : TraceView). t.notices) told)
    (omega (arith, boots, edits, before, count, c.in_ok-cancel_if_set.ensures.few, c.in_ok-set_mode.ensures.few, few)))
    c.mark_booted.ensures.course c.mark_booted.ensures.few
