-- What one of two simulations refuses the other does.
use Rattle.std.proofs.Common.{◌≡◌, ◌&&◌, ◌||◌, nat_le, not, map, filter, ℕ, cond, List, Option, Some, None, unwrap_or, refl, ap, ◌∙◌}
use Rattle.std.specs.Prelude.{is_some}
use Rattle.std.specs.List.{range_with_len}
use Rattle.rh_history.specs.HistoryView.{HistoryView}
use Rattle.rh_model.specs.ClusterView.{node_count, numbered, group_of}
use Rattle.rh_model.specs.declared.node.App.{App}
use Rattle.rh_model.specs.declared.node.Node.{Node}
use Rattle.rh_rules.specs.declared.event.Event.{Event}
use Rattle.rh_rules.specs.declared.event.Event.TheVariants as event
use Rattle.rh_rules.specs.declared.refusal.Refusal.{Refusal}
use Rattle.rh_rules.specs.declared.refusal.Refusal.TheVariants as refusal
use Rattle.rh_otp_net.specs.declared.order.Order.{Order}
use Rattle.rh_otp_node.specs.Live.{LiveView, never_begun, is_down, is_phase_up}
use Rattle.rh_otp_system.specs.declared.cell.Cell.{Cell}
use Rattle.rh_otp_sim.specs.Refusing.{node_in, has_node, has_app, is_distributed, hosts, is_some_node, refuse_call, refuse_all, refusal_of, or_full, is_full, refused}
use Rattle.rh_otp_sim.specs.Sim.{LiveSimView, live_in}

-- the simulation of the same cluster, with another order and history
abbrev pub another : LiveSimView → Order → HistoryView Cell → LiveSimView
another sim order history = record sim { order = order; history = history }

-- each node is the same in both
abbrev pub SameNodes : LiveSimView → LiveSimView → Type 0
SameNodes one other = (n : Node) → live_in one n ≡ live_in other n

same_node : (one other : LiveSimView) (n : Node) → SameNodes one other → node_in one n ≡ node_in other n
same_node one other n same = ap (λ (o : Option LiveView). unwrap_or o never_begun) (same n)

pub same_hosts : (sim : LiveSimView) (order : Order) (history : HistoryView Cell) (a : App) → SameNodes sim (another sim order history)
    → hosts sim a ≡ hosts (another sim order history) a
same_hosts sim order history a same =
    λ i. filter (λ (n : Node). is_phase_up (same_node sim (another sim order history) n same i).phase && has_app sim a && is_some
    (group_of sim.cluster a n))
    (map numbered (range_with_len 0 (node_count sim.cluster)))

same_call : (sim : LiveSimView) (order : Order) (history : HistoryView Cell) (n : Node) (a : App)
    → SameNodes sim (another sim order history)
    → refuse_call n a sim ≡ refuse_call n a (another sim order history)
same_call sim order history n a same =
    ap (λ (v : LiveView). cond (not (has_node sim n)) (Some refusal.UnknownNode) (cond (not (has_app sim a)) (Some refusal.UnknownApp)
    (cond (not (is_phase_up v.phase)) (Some refusal.NodeNotUp) None))) (same_node sim (another sim order history) n same)

same_all : (sim : LiveSimView) (order : Order) (history : HistoryView Cell) (a : App) (nobody : Refusal)
    → SameNodes sim (another sim order history) → refuse_all a nobody sim ≡ refuse_all a nobody (another sim order history)
same_all sim order history a nobody same =
    ap (λ (nodes : List Node). cond (not (has_app sim a)) (Some refusal.UnknownApp) (cond (not (is_distributed sim a))
    (Some refusal.NotDistributed)
    (cond (is_some_node nodes) None (Some nobody)))) (same_hosts sim order history a same)

same_refusal : (clock : ℕ) (e : Event) (sim : LiveSimView) (order : Order) (history : HistoryView Cell)
    → SameNodes sim (another sim order history)
    → refusal_of clock e sim ≡ refusal_of clock e (another sim order history)
same_refusal clock (event.Boot n) sim order history same =
    ap (λ (v : LiveView). cond (not (has_node sim n)) (Some refusal.UnknownNode) (cond (not (is_down v.phase)) (Some refusal.AlreadyAlive)
    (cond (nat_le 9999 v.life) (Some refusal.IncarnationLimit) None))) (same_node sim (another sim order history) n same)
same_refusal clock (event.Crash n) sim order history same =
    ap (λ (v : LiveView). cond (not (has_node sim n)) (Some refusal.UnknownNode) (cond (is_down v.phase) (Some refusal.NotAlive) None))
    (same_node sim (another sim order history) n same)
same_refusal clock (event.Tick ms) sim order history same = refl
same_refusal clock (event.Start n a restart) sim order history same = same_call sim order history n a same
same_refusal clock (event.Stop n a) sim order history same = same_call sim order history n a same
same_refusal clock (event.Permit n a allow) sim order history same = same_call sim order history n a same
same_refusal clock (event.Takeover n a restart) sim order history same = same_call sim order history n a same
same_refusal clock (event.Exit n a normal) sim order history same = same_call sim order history n a same
same_refusal clock (event.StartAll a restart) sim order history same = same_all sim order history a refusal.NodeNotUp same
same_refusal clock (event.StopAll a) sim order history same = same_all sim order history a refusal.NeverStarted same

pub same_refused : (clock clock' last last' : ℕ) (e : Event) (sim : LiveSimView) (order : Order) (history : HistoryView Cell)
    → clock ≡ clock' → last ≡ last' → sim.history.cursor ≡ history.cursor → SameNodes sim (another sim order history)
    → refused clock last e sim ≡ refused clock' last' e (another sim order history)
same_refused clock clock' last last' e sim order history same_clock same_last done same =
    (λ i. or_full (nat_le 65535 (done i) || nat_le 4000000000 (same_last i)) (same_refusal clock e sim order history same i))
    ∙ ap (λ (k : ℕ). or_full (is_full last' (another sim order history)) (refusal_of k e (another sim order history))) same_clock
