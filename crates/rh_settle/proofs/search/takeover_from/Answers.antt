use Rattle.std.proofs.Common.{◌≡◌, ◌<◌, ◌≤◌, ◌&&◌, false, cond, ap, sym, ◌∙◌, List, nat_lt}
use Rattle.std.specs.Option.{option_map}
use Rattle.rh_model.specs.declared.node.App.{App}
use Rattle.rh_model.specs.declared.node.Node.{Node}
use Rattle.rh_model.specs.ClusterView.{node_count, group_of}
use Rattle.rh_state.specs.StateView.{StateView}
use Rattle.rh_state.specs.Shape.{IsShaped}
use Rattle.rh_state.specs.Stored.{read}
use Rattle.rh_base.proofs.Lists.{cases}
use Rattle.rh_rules.specs.Placing.{picked, is_operational, best}
use Rattle.rh_place.specs.Sets.{NodeBits, has}
use Rattle.rh_rules.specs.declared.notice.Move.TheVariants.{Takeover}
use Rattle.rh_rules.specs.declared.notice.Pair.{Pair}
use Rattle.rh_rules.specs.Course.{is_fresh}
use Rattle.rh_rules.specs.Moves.{comes_before, calls_away}
use Rattle.rh_settle.proofs.Boards.{none_beyond, none_calls, not_taken}
use Rattle.rh_trace.proofs.Entries.{is_below, is_above, not_same}
use Rattle.rh_settle.proofs.Searches.{picked_map, none_of_none}
use Rattle.rh_settle.proofs.search.takeover_from.Goals as goal

-- the earlier ones of these nodes are those that call the application away
calling : (s : StateView) (fresh : List Pair) (a : App) (m : Node) (callers set : NodeBits) → IsShaped s
    → ((n : Node) → n.0 < node_count s.cluster → has callers n ≡ (is_fresh fresh n a && is_operational s a n))
    → ((n : Node) → has set n ≡ (comes_before (group_of s.cluster a n) (group_of s.cluster a m) && has callers n))
    → ((n : Node) → node_count s.cluster ≤ n.0 → has set n ≡ false)
    → (n : Node) → has set n ≡ calls_away s fresh a m n
unfolding calls_away
calling s fresh a m callers set shape are nodes others n = cases (nat_lt n.0 (node_count s.cluster))
    (λ t. let lt = is_below n.0 (node_count s.cluster) t in
    nodes n ∙ ap (λ b. comes_before (group_of s.cluster a n) (group_of s.cluster a m) && b) (are n lt))
    (λ f. let ge = is_above n.0 (node_count s.cluster) f in
    others n ge ∙ sym (none_beyond s fresh a m n shape ge))

pub returns-then-is_empty : goal.returns-then-is_empty
returns-then-is_empty c = λ fresh callers.
    let s = read c.args.state.now in
    let a = c.args.app in
    let m = c.args.from in
    none_of_none c.args.pick
    ∙ ap (picked c.args.pick) (sym (not_taken s fresh a m (none_calls s fresh a m c.formed.ensures.shape
    (λ n other of_n. sym (callers n of_n)
    ∙ sym (ap (λ b. cond b false (has c.args.callers n)) (not_same n.0 m.0 other))
    ∙ sym (c.put.ensures n)
    ∙ c.is_empty.ensures.0 c.if-is_empty.true n))))

pub returns-then-is_empty-2 : goal.returns-then-is_empty-2
returns-then-is_empty-2 c = λ fresh callers.
    let s = read c.args.state.now in
    let a = c.args.app in
    let m = c.args.from in
    let same = calling s fresh a m c.args.callers c.earlier-nodes.result c.formed.ensures.shape callers c.earlier-nodes.ensures.nodes c.earlier-nodes.ensures.others in
    none_of_none c.args.pick
    ∙ ap (picked c.args.pick) (sym (not_taken s fresh a m (λ n. sym (same n) ∙ c.is_empty-2.ensures.0 c.if-is_empty-2.true n)))

pub returns-in-Some : goal.returns-in-Some
returns-in-Some c = λ fresh callers.
    let s = read c.args.state.now in
    let a = c.args.app in
    let m = c.args.from in
    let same = calling s fresh a m c.args.callers c.earlier-nodes.result c.formed.ensures.shape callers c.earlier-nodes.ensures.nodes c.earlier-nodes.ensures.others in
    ap (option_map (Takeover a m)) (c.in-Some.ensures.choice ∙ (λ i. picked c.args.pick (best s a (λ n. same n i))))
    ∙ sym (picked_map c.args.pick (Takeover a m) (best s a (calls_away s fresh a m)))

pub returns-in-None : goal.returns-in-None
returns-in-None c = λ fresh callers.
    let s = read c.args.state.now in
    let a = c.args.app in
    let m = c.args.from in
    let same = calling s fresh a m c.args.callers c.earlier-nodes.result c.formed.ensures.shape callers c.earlier-nodes.ensures.nodes c.earlier-nodes.ensures.others in
    ap (option_map (Takeover a m)) (c.in-None.ensures.choice ∙ (λ i. picked c.args.pick (best s a (λ n. same n i))))
    ∙ sym (picked_map c.args.pick (Takeover a m) (best s a (calls_away s fresh a m)))
