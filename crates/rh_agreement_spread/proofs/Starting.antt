-- Where a start begins: the call, the request, the reply and the starter's report come one after the other, and behind them the application
-- runs at the node, the answer is on its way, and the node's dist_ac is to be told.
use Rattle.std.proofs.Common.{◌≡◌, ◌||◌, ℕ, true, false, List, [], ◌∷◌, Option, Some, None, refl, sym, ap, ◌∙◌}
use Rattle.rh_model.specs.declared.node.App.{App}
use Rattle.rh_model.specs.declared.node.Node.{Node}
use Rattle.rh_model.specs.declared.settings.Restart.{Restart}
use Rattle.rh_otp_controller.specs.Calls.{is_here}
use Rattle.rh_otp_controller.specs.Starting.{lacks_started, lacks_running}
use Rattle.rh_otp_controller.specs.State.{ControllerView}
use Rattle.rh_otp_model.specs.declared.message.Message.TheVariants as message
use Rattle.rh_otp_model.specs.declared.message.Reply.TheVariants as reply_of
use Rattle.rh_otp_model.specs.declared.output.Envelope.{Envelope}
use Rattle.rh_otp_model.specs.declared.output.Event.{Event as Seen}
use Rattle.rh_otp_model.specs.declared.output.Event.TheVariants as seen
use Rattle.rh_otp_model.specs.declared.output.Output.{Output}
use Rattle.rh_otp_model.specs.declared.output.Requester.TheVariants.{Alone}
use Rattle.rh_otp_model.specs.declared.process.Process.{Process}
use Rattle.rh_otp_model.specs.declared.process.Role.TheVariants as role
use Rattle.rh_otp_model.specs.declared.process.StartType.TheVariants.{Normal}
use Rattle.rh_otp_model.specs.Own.{OwnView}
use Rattle.rh_otp_model.specs.Processes.{process_at}
use Rattle.rh_otp_model.specs.Rows.{keyfind, has_row}
use Rattle.rh_otp_dist.specs.declared.state.Standing.{Standing}
use Rattle.rh_otp_dist.specs.declared.state.Standing.TheVariants as standing
use Rattle.rh_otp_dist.specs.Attempts.{reply_of as verdict_reply}
use Rattle.rh_otp_dist.specs.Choosing.{is_node, runs_at, runs_there, start_unless_local, start_appl}
use Rattle.rh_otp_dist.specs.Received as mail
use Rattle.rh_otp_dist.specs.State.{DistView, TurnView}
use Rattle.rh_otp_net.specs.Locks.{freed}
use Rattle.rh_otp_node.specs.Live.{LiveView, here_of, is_alive, with_kind}
use Rattle.rh_otp_node.specs.Turns.{controller_turn, controlled_by}
use Rattle.rh_otp_sim.specs.Sim.{LiveSimView}
use Rattle.rh_otp_system.specs.declared.calls.Ask.TheVariants as ask
use Rattle.rh_otp_system.specs.declared.calls.Call.{Call}
use Rattle.rh_otp_system.specs.Calls.{process_of}
use Rattle.rh_otp_system.specs.Resting.{forgotten}
use Rattle.rh_otp_system.specs.Sending.{told}
use Rattle.rh_otp_system.specs.State.{SystemView, live_at, node_at, own_at, with_node, is_alive_at}
use Rattle.rh_otp_system.specs.Working.{behind}
use Rattle.rh_otp_laws.proofs.Nodes.{node_written, there_written}
use Rattle.rh_otp_crashes.specs.Crashes.{IsUnoccupied}
use Rattle.rh_otp_crashes.proofs.Peace.{arrives_alive}
use Rattle.rh_otp_crashes.proofs.Turning.{own_in, turn, written_twice}
use Rattle.rh_otp_stops.proofs.Stopping.{there_is}
use Rattle.rh_otp_starts.specs.Elsewhere.{asked_attempt}
use Rattle.rh_otp_starts.proofs.Requests.{its_reply, its_lock, told_so, freed_own, request_comes}
use Rattle.rh_otp_starts.proofs.Requests as requests
use Rattle.rh_otp_begins.proofs.Here.{its_verdict, starts_here}
use Rattle.rh_agreement.specs.Resting.{held}
use Rattle.rh_agreement_calls.proofs.Controlling.{well_answered}
use Rattle.rh_agreement_calls.proofs.Moving.{call_at, request_of, calling, with_one, taken}
use Rattle.rh_agreement_spread.specs.Starts.{IsChosenAlone, CanBePlacedLive}
use Rattle.rh_agreement_spread.proofs.StartTurns as controller

module _ (l : LiveSimView) (n : Node) (a : App) (restart : Restart) (alive : is_alive_at (held l) n ≡ true) (can : CanBePlacedLive l n a)
    (free_at : (d : DistView) → (node_at (held l) n).dist ≡ Some d → IsUnoccupied d) (nobody_locks : (held l).locks ≡ []) where
  abbrev pub base : SystemView
  base = record (held l) { ends_soon = false }

  abbrev pub own : OwnView
  own = own_at (held l) n

  abbrev pub v : LiveView
  v = node_at (held l) n

  abbrev pub c : Call
  c = call_at base (ask.Start restart) n a

  abbrev pub caller : Process
  caller = process_of c

  abbrev pub first : SystemView
  first = calling base c

  pub stays : v.controller.is_ending ≡ false
  unfolding forgotten
  stays = can.stays

  pub off : has_row a v.controller.running ≡ false
  unfolding forgotten
  off = can.off

  pub unasked : has_row a v.controller.start_req ≡ false
  unfolding forgotten
  unasked = can.unasked

  pub chosen : IsChosenAlone own n a v
  unfolding forgotten
  chosen = can.chosen

  pub started : lacks_started (controller_turn l.cluster own n v) a ≡ None
  unfolding forgotten
  started = can.started

  pub runs : lacks_running (controller_turn l.cluster own n v) a ≡ None
  unfolding forgotten
  runs = can.runs

  abbrev pub d : DistView
  d = chosen.dist

  pub free : IsUnoccupied d
  free = free_at d chosen.has

  pub there : live_at base n ≡ Some v
  there = there_is base n alive

  -- ---- the controller asks its dist_ac

  abbrev asked_node : LiveView
  asked_node = record v { controller = controller.asking l.cluster own n a restart caller v can.own stays off unasked started }

  abbrev pub asked_message : Envelope
  asked_message = controller.asked l.cluster own n a restart caller v can.own stays off unasked started

  abbrev pub requested : SystemView
  requested = with_node n asked_node first

  pub asks_so : taken (request_of c) first ≡ with_one asked_message requested
  unfolding forgotten
  asks_so =
      arrives_alive (request_of c).to (request_of c).message (record first { messages = [] }) alive refl
      ∙ ap (λ done. behind n done (record first { messages = [] }))
      (controller.asks l.cluster own n a restart caller v can.own stays off unasked started)

  -- ---- its dist_ac replies

  abbrev d_turn : TurnView
  d_turn = turn l.cluster (own_in l.files n) n v.life d

  abbrev decided : TurnView
  decided = told_so a reply_of.StartIt standing.RunWaiting d_turn

  abbrev pub next : DistView
  next = decided.state

  not_there : runs_there d a n ≡ false
  not_there = λ i. is_node n (runs_at (chosen.unknown i)) || is_node n (chosen.nobody i)

  decides : (w : ℕ) → mail.handled (message.StartRequest a) (requests.asking w d_turn) ≡ requests.asking w decided
  unfolding start_appl forgotten
  decides w =
      ap (λ (st : Standing). start_unless_local (asked_attempt d a) st (requests.asking w d_turn)) chosen.unknown
      ∙ starts_here a (requests.asking w d_turn) (record { first = chosen.first; not_yet = not_there })
      ∙ ap (λ (o : Option Node). told_so a (verdict_reply (its_verdict o)) standing.RunWaiting (requests.asking w d_turn)) chosen.nobody

  abbrev replied_node : LiveView
  replied_node = controller.node_then l.cluster own n a restart caller v can.own stays off unasked started (Some next)

  abbrev pub replied : SystemView
  replied = with_node n replied_node first

  abbrev pub reply_message : Envelope
  reply_message = its_reply (here_of n v) a reply_of.StartIt

  node_requested : node_at requested n ≡ asked_node
  node_requested = node_written first n v asked_node there

  there_requested : live_at requested n ≡ Some asked_node
  there_requested = there_written first n v asked_node there

  unlocked : freed (Alone (process_at (here_of n v) role.DistAc)) (process_at (here_of n v) role.DistAc) (its_lock n v.life) ≡ base.locks
  unlocked = freed_own n v.life ∙ sym nobody_locks

  pub replies_so : taken asked_message requested ≡ with_one reply_message replied
  unfolding forgotten
  replies_so =
      arrives_alive asked_message.to asked_message.message (record requested { messages = [] }) (ap is_alive node_requested ∙ alive)
      (ap (λ (w : LiveView). w.life) node_requested)
      ∙ request_comes n a
      (record requested { messages = [] }) asked_node d decided there_requested chosen.has free chosen.takes_all nobody_locks
      decides
      ∙ (λ i. record (with_node n replied_node requested) { messages = reply_message ∷ []; locks = unlocked i })
      ∙ ap (with_one reply_message) (written_twice first n asked_node replied_node)

  -- ---- its controller starts it

  abbrev pub begun_message : Envelope
  begun_message = controller.begun l.cluster own n a restart caller v can.own stays off unasked started (Some next) runs

  abbrev begun_node : LiveView
  begun_node = record replied_node {
    controller = controller.beginning l.cluster own n a restart caller v can.own stays off unasked started (Some next) runs;
  }

  abbrev pub seen_node : LiveView
  seen_node = controller.seen_node l.cluster own n a restart caller v can.own stays off unasked started (Some next) runs

  abbrev pub start_seen : List Seen
  start_seen = seen.Started a n Normal ∷ []

  abbrev pub begun : SystemView
  begun = record (with_node n seen_node first) { events = start_seen }

  node_replied : node_at replied n ≡ replied_node
  node_replied = node_written first n v replied_node there

  abbrev begin_out : List Output
  begin_out = controller.begin_out l.cluster own n a restart caller v can.own stays off unasked started (Some next) runs

  -- it is started, which is seen
  started_so : behind n (begun_node, begin_out) (record replied { messages = [] }) ≡ with_one begun_message begun
  unfolding told
  started_so =
      (λ i. record (with_node n (with_kind a Normal (node_written replied n replied_node begun_node
      (there_written first n v replied_node there) i))
      (with_node n begun_node replied)) {
        messages = begun_message ∷ [];
        events = start_seen;
      })
      ∙ (λ i. record (written_twice replied n begun_node seen_node i) { messages = begun_message ∷ []; events = start_seen })
      ∙ (λ i. record (written_twice first n replied_node seen_node i) { messages = begun_message ∷ []; events = start_seen })

  pub begins_so : taken reply_message replied ≡ with_one begun_message begun
  unfolding forgotten
  begins_so =
      arrives_alive reply_message.to reply_message.message (record replied { messages = [] }) (ap is_alive node_replied ∙ alive)
      (ap (λ (w : LiveView). w.life) node_replied)
      ∙ ap (λ (w : LiveView). behind n (controlled_by l.cluster own n reply_message.message w)
      (record replied { messages = [] })) node_replied
      ∙ ap (λ done. behind n done (record replied { messages = [] }))
      (controller.begins l.cluster own n a restart caller v can.own stays off unasked started (Some next) runs)
      ∙ started_so

  -- ---- and answers, and tells its dist_ac

  abbrev pub kept : ControllerView
  kept = controller.over l.cluster own n a restart caller v can.own stays off unasked started (Some next) runs

  abbrev pub new : LiveView
  new = record seen_node { controller = kept }

  abbrev pub run_message : Envelope
  run_message = controller.runs_now l.cluster own n a restart caller v can.own stays off unasked started (Some next) runs

  abbrev pub spoken : SystemView
  spoken = record (with_node n new first) { messages = well_answered n v caller ∷ run_message ∷ []; events = start_seen }

  node_begun : node_at begun n ≡ seen_node
  node_begun = node_written first n v seen_node there

  pub ends_so : taken begun_message begun ≡ spoken
  unfolding forgotten
  ends_so =
      arrives_alive begun_message.to begun_message.message (record begun { messages = [] }) (ap is_alive node_begun ∙ alive)
      (ap (λ (w : LiveView). w.life) node_begun)
      ∙ ap (λ (w : LiveView). behind n (controlled_by l.cluster own n begun_message.message w) (record begun { messages = [] })) node_begun
      ∙ ap (λ done. behind n done (record begun { messages = [] }))
      (controller.ends l.cluster own n a restart caller v can.own stays off unasked started (Some next) runs)
      ∙ (λ i. record (written_twice first n seen_node new i) {
        messages = well_answered n v caller ∷ run_message ∷ [];
        events = start_seen;
      })

  -- it runs there then
  pub is_running : is_here (keyfind a kept.running) ≡ true
  is_running = controller.is_running l.cluster own n a restart caller v can.own stays off unasked started (Some next) runs
