-- Which ticks through several moments at which timers are due `run` and `run --rules otp25` answer alike: live nodes never cancel a timer,
-- so that on their side more moments pass than by the manual's rules (ours).
use Rattle.std.specs.Prelude.{◌≡◌, ◌≢◌, ◌<◌, ◌≤◌, ◌+◌, ◌*◌, ℕ, List, [], ◌∷◌, length, map, true, false, None, Some}
use Rattle.std.specs.List.{list_any}
use Rattle.rh_model.specs.ClusterView.{deps_of, group_of, mandatory_of}
use Rattle.rh_model.specs.declared.node.App.{App}
use Rattle.rh_model.specs.declared.node.Node.{Node}
use Rattle.rh_rules.specs.declared.event.Event.{Event}
use Rattle.rh_rules.specs.declared.event.Event.TheVariants as event
use Rattle.rh_rules.specs.declared.notice.Move.TheVariants.{Placement}
use Rattle.rh_rules.specs.declared.notice.Notice.{Notice}
use Rattle.rh_rules.specs.declared.notice.Notice.TheVariants as notice
use Rattle.rh_rules.specs.Moves.{comes_before, moved_state}
use Rattle.rh_rules.specs.NodesEnd.{cleared}
use Rattle.rh_rules.specs.NodesStart.{all_alive}
use Rattle.rh_rules.specs.Placing.{is_operational, start_kind}
use Rattle.rh_rules.specs.Refusals.{refused}
use Rattle.rh_rules.specs.Time.{due_by}
use Rattle.rh_calls.specs.declared.call.Call.TheVariants as call
use Rattle.rh_calls.specs.declared.call.Reply.TheVariants as reply
use Rattle.rh_state.specs.declared.status.Standing.TheVariants.{Lost, Wanted}
use Rattle.rh_state.specs.declared.status.Timer.TheVariants.{Failover, Sync}
use Rattle.rh_state.specs.Setters.{with_standing, with_time, without_due}
use Rattle.rh_state.specs.StateView.{StateView, earliest, standing_of, waits_at}
use Rattle.rh_trail.specs.Lone.{served}
use Rattle.rh_trail.specs.SimView.{SimView, state_of}
use Rattle.rh_otp_controller.specs.Calls.{is_here}
use Rattle.rh_otp_model.specs.Own.{controls}
use Rattle.rh_otp_model.specs.Rows.{keyfind, has_row}
use Rattle.rh_otp_dist.specs.declared.state.Standing.TheVariants as standing
use Rattle.rh_otp_dist.specs.State.{DistView, is_among}
use Rattle.rh_otp_dist.specs.State.{standing_of as stands_at}
use Rattle.rh_otp_net.specs.declared.order.Order.{Order}
use Rattle.rh_otp_node.specs.Live.{is_ending}
use Rattle.rh_otp_sim.specs.Acting.{most_moves}
use Rattle.rh_otp_sim.specs.Calls.{made_by}
use Rattle.rh_otp_sim.specs.Sim.{LiveSimView}
use Rattle.rh_otp_system.specs.Doing.{fired_next, next_until}
use Rattle.rh_otp_system.specs.Moves.{settled}
use Rattle.rh_otp_system.specs.Resting.{crashed}
use Rattle.rh_otp_system.specs.State.{SystemView, node_at, own_at, is_alive_at}
use Rattle.rh_otp_crashes.specs.Failovers.{FailsOverAt, StandsBy}
use Rattle.rh_otp_ticks.specs.LeftOver.{AreLeftOver, behind_timers}
use Rattle.rh_otp_ticks.specs.WaitsEnd.{WaitEnds}
use Rattle.rh_agreement.specs.Telling.{GoTogether}
use Rattle.rh_agreement.specs.Laws.{IsAnsweredAlike, HasRoom, ticking}
use Rattle.rh_agreement.specs.Resting.{AreBothAtRest}
use Rattle.rh_agreement_calls.specs.Starts.{is_dep}

-- ---- a moment at which a lost application fails over

-- By the manual's rules the timer that is due next, by this end, is that of the application, and no other one is due at that time. The
-- application was lost with another node, and can run at the node. Each other node where it could run stands in a later group of its list;
-- and nothing that waits at the node needs it. (As `CanFailOver` of rh_agreement_failovers, but that other timers may be due later, by the
-- end.)
pub record FailsOver (end : ℕ) (s : StateView) (n from : Node) (a : App) : Type 0 where
  pub due : ℕ
  pub timer : due_by end (earliest s) ≡ Some (due, Failover a)
  pub alone : due_by due (earliest (without_due s (Failover a))) ≡ None
  pub lost : standing_of s a ≡ Lost from
  pub elsewhere : from.0 ≢ n.0
  pub can : is_operational s a n ≡ true
  pub first : (m : Node) → m.0 ≢ n.0 → is_operational s a m ≡ true
      → comes_before (group_of s.cluster a n) (group_of s.cluster a m) ≡ true
  pub unneeded : (b : App) → waits_at s n b ≡ true → list_any (is_dep a) (deps_of s.cluster b) ≡ false

-- it starts there, at the time at which its timer was due
abbrev pub failed_over : ℕ → Node → Node → App → StateView → StateView
failed_over due n from a s =
    moved_state (with_standing (with_time (without_due s (Failover a)) due) a (Wanted (Some from))) (Placement a (Some from) n)

-- On live nodes the timers that are due next, by this end, are those of losses of the application, the node's own among them. The node is
-- the first of the list that may run it, and can, and each other node at which such a timer fires stands by, or the application isn't lost
-- there any more (`FailsOverAt`). It was lost with the same node as by the manual's rules. It is one of the node's own `distributed`; the
-- node's controller has started it, and has it as running, but not here; the node isn't on its way to its end, and its dist_ac knows those
-- that stand by. No other node that is alive runs it. With a message for each timer, two for each node that the dist_ac knows, and four
-- more, the step isn't taken for one without end. (As `CanFailOverLive` of rh_agreement_failovers, of live nodes on their way in a tick,
-- and but that other timers may be due later, by the end.)
pub record FailsOverLive (end : ℕ) (s : SystemView) (n from : Node) (a : App) : Type 0 where
  pub failover : FailsOverAt n a s
  pub in_time : failover.due ≤ end
  pub fires : is_among n (map (λ row. row.0) failover.losses) ≡ true
  pub with_it : failover.first.gone ≡ from
  pub own : controls (own_at s n) a ≡ true
  pub started : has_row a (node_at s n).controller.started ≡ true
  pub runs : has_row a (node_at s n).controller.running ≡ true
  pub away : is_here (keyfind a (node_at s n).controller.running) ≡ false
  pub stays : is_ending (node_at s n) ≡ false
  pub knows : (m : Node) → m.0 ≢ n.0 → is_among m (map (λ row. row.0) failover.losses) ≡ true → StandsBy m n a s
      → is_among m failover.first.dist.known ≡ true
  pub nowhere : (m : Node) → m.0 ≢ n.0 → is_alive_at s m ≡ true → is_here (keyfind a (node_at s m).controller.running) ≡ false
  pub few : length failover.losses + 2 * length failover.first.dist.known + 4 < most_moves

-- ---- a moment at which the wait of a node ends, and the node with it

-- By the manual's rules the timer that is due next, by this end, is that of the node's wait, and one of those that it must have isn't alive
-- (kernel(6), `sync_nodes_timeout`, `sync_nodes_mandatory`).
pub record EndsItsWait (end : ℕ) (s : StateView) (n : Node) : Type 0 where
  pub due : ℕ
  pub timer : due_by end (earliest s) ≡ Some (due, Sync n)
  pub lacks : all_alive s (mandatory_of s.cluster n) ≡ false

-- it is down, and waits no longer, at the time at which its timer was due
abbrev pub ended_at : ℕ → Node → StateView → StateView
ended_at due n s = cleared (with_time s due) n

-- On live nodes the timer that is due next, by this end, is that of the node's wait, alone, and the node hasn't seen one that it must have
-- (`WaitEnds`). No dist_ac of a node that is alive has an application as running there, so that none is lost with it. The messages that
-- tell of its end, and one more, are fewer than a step may take, so it isn't taken for one without end.
pub record EndsItsWaitLive (end : ℕ) (s : SystemView) (n : Node) : Type 0 where
  pub wait : WaitEnds n s
  pub in_time : wait.due ≤ end
  pub nowhere : (m : Node) (d : DistView) (a : App) → is_alive_at s m ≡ true → (node_at s m).dist ≡ Some d
      → stands_at d a ≢ standing.Distributed n
  pub few : length (crashed n s).messages + 1 < most_moves

-- ---- one moment after the other

-- So time passes until this end, from this state by the manual's rules, and from these live nodes, which take messages in this order; and
-- this is told of it. Each moment at which timers are due on live nodes is one of timers that are left over, or of a failover, or of the
-- end of a wait that ends the node, too; by the manual's rules each is one of a failover, or of such an end. On both sides it is the same
-- application each time, lost with the same node and started at the same node, or the same node that ends; but the timers may be due at
-- different times.
pub data PassAlike (end : ℕ) (order : Order) : StateView → SystemView → List Notice → Type 0 where
  -- no timer is due any more until then
  over : (s : StateView) (l : SystemView) → due_by end (earliest s) ≡ None → next_until end l ≡ None → PassAlike end order s l []
  -- those that are due next on live nodes are left over, and so on behind them, where all else is as it was, and answers are counted
  -- anew
  left_over : (s : StateView) (l : SystemView) (notes : List Notice) (timers : AreLeftOver l) → timers.due ≤ end
      → PassAlike end order s (record (behind_timers timers.due l) { answers = [] }) notes → PassAlike end order s l notes
  -- an application fails over, and so on behind that
  fails_over : (s : StateView) (l : SystemView) (n from : Node) (a : App) (notes : List Notice) (fails : FailsOver end s n from a)
      → (live : FailsOverLive end l n from a)
      → PassAlike end order (failed_over fails.due n from a s) (settled most_moves order (fired_next live.failover.due l)) notes
      → PassAlike end order s l (notice.Started a n (start_kind s a (Some from) n) (Some from) ∷ notes)
  -- a node ends with its wait, and so on behind that
  wait_ends : (s : StateView) (l : SystemView) (n : Node) (notes : List Notice) (ends : EndsItsWait end s n)
      → (live : EndsItsWaitLive end l n)
      → PassAlike end order (ended_at ends.due n s) (settled most_moves order (fired_next live.wait.due l)) notes
      → PassAlike end order s l (notice.Ended n ∷ notes)

-- So a tick passes, and this is told of it. On live nodes fewer than a million timers are set, so that the step isn't taken for one without
-- end.
pub record PassesAlike (ms : ℕ) (sim : SimView) (live : LiveSimView) (notes : List Notice) : Type 0 where
  pub passes : PassAlike ((state_of sim).time + ms) live.order (state_of sim) (ticking ms live) notes
  pub few : length (ticking ms live).timers < most_moves

-- Where both are at rest, such a tick is answered alike, and leads to what is told alike; and both are at rest again. Where it isn't
-- refused, the answer is what is told of its moments, and no more.
abbrev pub TicksThroughMomentsAreAnsweredAlike : Type 0
TicksThroughMomentsAreAnsweredAlike = (sim : SimView) (live : LiveSimView) (ms : ℕ) (notes : List Notice) → GoTogether sim live
    → HasRoom sim live → AreBothAtRest sim live → PassesAlike ms sim live notes
    → IsAnsweredAlike (call.Step (event.Tick ms)) sim live
    × GoTogether (served sim (call.Step (event.Tick ms))).sim (made_by (call.Step (event.Tick ms)) live)
    × AreBothAtRest (served sim (call.Step (event.Tick ms))).sim (made_by (call.Step (event.Tick ms)) live)
    × (refused (state_of sim) (event.Tick ms) ≡ None → (served sim (call.Step (event.Tick ms))).reply ≡ reply.Done notes)

-- such a tick
abbrev pub IsATickThroughMoments : Event → SimView → LiveSimView → Type 0
IsATickThroughMoments (event.Tick ms) sim live = (notes : List Notice) × PassesAlike ms sim live notes
IsATickThroughMoments e sim live = ⊥
