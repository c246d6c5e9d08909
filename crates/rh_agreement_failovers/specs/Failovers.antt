-- Which failovers `run` and `run --rules otp25` answer alike: ticks in which the time of one lost application is over, where both are at
-- rest (ours).
use Rattle.std.specs.Prelude.{◌≡◌, ◌≢◌, ◌<◌, ◌≤◌, ◌+◌, ◌*◌, ℕ, [], ◌∷◌, length, map, true, false, None, Some}
use Rattle.std.specs.List.{list_any}
use Rattle.rh_model.specs.ClusterView.{deps_of, group_of}
use Rattle.rh_model.specs.declared.node.App.{App}
use Rattle.rh_model.specs.declared.node.Node.{Node}
use Rattle.rh_rules.specs.declared.event.Event.{Event}
use Rattle.rh_rules.specs.declared.event.Event.TheVariants as event
use Rattle.rh_rules.specs.declared.notice.Notice.TheVariants as notice
use Rattle.rh_rules.specs.Moves.{comes_before}
use Rattle.rh_rules.specs.Placing.{is_operational, start_kind}
use Rattle.rh_rules.specs.Refusals.{refused}
use Rattle.rh_rules.specs.Time.{due_by}
use Rattle.rh_calls.specs.declared.call.Call.TheVariants as call
use Rattle.rh_calls.specs.declared.call.Reply.TheVariants as reply
use Rattle.rh_state.specs.declared.status.Standing.TheVariants.{Lost}
use Rattle.rh_state.specs.declared.status.Timer.TheVariants.{Failover}
use Rattle.rh_state.specs.Setters.{without_due}
use Rattle.rh_state.specs.StateView.{StateView, earliest, standing_of, waits_at}
use Rattle.rh_trail.specs.Lone.{served}
use Rattle.rh_trail.specs.SimView.{SimView, state_of}
use Rattle.rh_otp_controller.specs.Calls.{is_here}
use Rattle.rh_otp_model.specs.Own.{controls}
use Rattle.rh_otp_model.specs.Rows.{keyfind, has_row}
use Rattle.rh_otp_dist.specs.State.{is_among}
use Rattle.rh_otp_net.specs.Timers.{left, next_due}
use Rattle.rh_otp_node.specs.Live.{is_alive, is_ending}
use Rattle.rh_otp_sim.specs.Acting.{most_moves}
use Rattle.rh_otp_sim.specs.Calls.{made_by}
use Rattle.rh_otp_sim.specs.Refusing.{node_in}
use Rattle.rh_otp_sim.specs.Sim.{LiveSimView, net_in}
use Rattle.rh_otp_system.specs.Doing.{until_if}
use Rattle.rh_otp_system.specs.State.{own_at}
use Rattle.rh_otp_crashes.specs.Failovers.{FailsOverAt, StandsBy}
use Rattle.rh_agreement.specs.Telling.{GoTogether}
use Rattle.rh_agreement.specs.Laws.{IsAnsweredAlike, HasRoom, ticking}
use Rattle.rh_agreement.specs.Resting.{AreBothAtRest, held}
use Rattle.rh_agreement_calls.specs.Starts.{is_dep}

-- By the manual's rules one timer is due by the end of the tick, that of the application, which was lost with another node, and which can
-- run at the node. Each other node where it could run stands in a later group of its list; and nothing that waits at the node needs it.
pub record CanFailOver (ms : ℕ) (s : StateView) (n from : Node) (a : App) : Type 0 where
  pub due : ℕ
  pub timer : due_by (s.time + ms) (earliest s) ≡ Some (due, Failover a)
  pub last : due_by (s.time + ms) (earliest (without_due s (Failover a))) ≡ None
  pub lost : standing_of s a ≡ Lost from
  pub elsewhere : from.0 ≢ n.0
  pub can : is_operational s a n ≡ true
  pub first : (m : Node) → m.0 ≢ n.0 → is_operational s a m ≡ true
      → comes_before (group_of s.cluster a n) (group_of s.cluster a m) ≡ true
  pub unneeded : (b : App) → waits_at s n b ≡ true → list_any (is_dep a) (deps_of s.cluster b) ≡ false

-- On live nodes the timers that are due next are those of losses of the application, the node's own among them; by the end of the tick
-- these are due, and no other one. The node is the first of the list that may run it, and can, and each other node at which such a timer
-- fires stands by, or the application isn't lost there any more (`FailsOverAt`). It was lost with the same node as by the manual's rules.
-- It is one of the node's own `distributed`; the node's controller has started it, and has it as running, but not here; the node isn't on
-- its way to its end, and its dist_ac knows those that stand by. No other node that is alive runs it. With a message for each timer, two
-- for each node that the dist_ac knows, and four more, the step isn't taken for one without end.
pub record CanFailOverLive (ms : ℕ) (live : LiveSimView) (n from : Node) (a : App) : Type 0 where
  pub failover : FailsOverAt n a (ticking ms live)
  pub in_time : failover.due ≤ (net_in live).clock + ms
  pub last : until_if ((net_in live).clock + ms) (next_due (left (ticking ms live).timers)) ≡ None
  pub fires : is_among n (map (λ row. row.0) failover.losses) ≡ true
  pub with_it : failover.first.gone ≡ from
  pub own : controls (own_at (held live) n) a ≡ true
  pub started : has_row a (node_in live n).controller.started ≡ true
  pub runs : has_row a (node_in live n).controller.running ≡ true
  pub away : is_here (keyfind a (node_in live n).controller.running) ≡ false
  pub stays : is_ending (node_in live n) ≡ false
  pub knows : (m : Node) → m.0 ≢ n.0 → is_among m (map (λ row. row.0) failover.losses) ≡ true → StandsBy m n a (ticking ms live)
      → is_among m failover.first.dist.known ≡ true
  pub nowhere : (m : Node) → m.0 ≢ n.0 → is_alive (node_in live m) ≡ true → is_here (keyfind a (node_in live m).controller.running) ≡ false
  pub few : length failover.losses + 2 * length failover.first.dist.known + 4 < most_moves

-- Where both are at rest, such a tick is answered alike, and leads to what is told alike; and both are at rest again. Where it isn't
-- refused, the answer is the start alone, as a failover if the application has start phases (kernel(6), `distributed`; app(4),
-- `start_phases`). The timers of the one side and of the other may be due at different moments.
abbrev pub FailoversAreAnsweredAlike : Type 0
FailoversAreAnsweredAlike = (sim : SimView) (live : LiveSimView) (ms : ℕ) (n from : Node) (a : App) → GoTogether sim live → HasRoom sim live
    → AreBothAtRest sim live → CanFailOver ms (state_of sim) n from a → CanFailOverLive ms live n from a
    → IsAnsweredAlike (call.Step (event.Tick ms)) sim live
    × GoTogether (served sim (call.Step (event.Tick ms))).sim (made_by (call.Step (event.Tick ms)) live)
    × AreBothAtRest (served sim (call.Step (event.Tick ms))).sim (made_by (call.Step (event.Tick ms)) live)
    × (refused (state_of sim) (event.Tick ms) ≡ None → (served sim (call.Step (event.Tick ms))).reply
    ≡ reply.Done (notice.Started a n (start_kind (state_of sim) a (Some from) n) (Some from) ∷ []))

-- such a tick
abbrev pub IsAFailover : Event → SimView → LiveSimView → Type 0
IsAFailover (event.Tick ms) sim live = (n : Node) × (from : Node) × (a : App) × CanFailOver ms (state_of sim) n from a
    × CanFailOverLive ms live n from a
IsAFailover e sim live = ⊥
