-- Where a takeover by a call begins: the question for the nodes, their names, the request with the lock, the order to the controller, the
-- starter's report and the news for the dist_ac come one after the other; behind them the application runs at the node, the answer is on
-- its way, and the other nodes are told.
use Rattle.rh_otp_sim.specs.Acting.{most_moves, called_if}
use Rattle.rh_otp_sim.specs.Sim.{net_in}
use Rattle.rh_otp_system.specs.Moves.{settled}
use Rattle.rh_otp_system.specs.Resting.{rested}
use Rattle.rh_otp_laws.specs.Acting.{IsReached}
use Rattle.std.proofs.Common.{◌≡◌, ◌<◌, ◌++◌, ℕ, true, false, List, [], ◌∷◌, Some, None, refl, sym, ap, ◌∙◌, inl}
use Rattle.std.proofs.lemmas.List.Elements.{All-nil}
use Rattle.rh_model.specs.declared.node.App.{App}
use Rattle.rh_model.specs.declared.node.Node.{Node}
use Rattle.rh_model.specs.declared.settings.Restart.{Restart}
use Rattle.rh_otp_controller.specs.Calls.{is_here}
use Rattle.rh_otp_controller.specs.Starting.{lacks_running}
use Rattle.rh_otp_controller.specs.State.{ControllerView}
use Rattle.rh_otp_model.specs.declared.fault.Outcome.TheVariants as outcome
use Rattle.rh_otp_model.specs.declared.message.Message.{Message}
use Rattle.rh_otp_model.specs.declared.message.Message.TheVariants as message
use Rattle.rh_otp_model.specs.declared.output.Envelope.{Envelope}
use Rattle.rh_otp_model.specs.declared.output.Event.{Event as Seen}
use Rattle.rh_otp_model.specs.declared.output.Event.TheVariants as seen
use Rattle.rh_otp_model.specs.declared.output.Output.{Output}
use Rattle.rh_otp_model.specs.declared.output.Output.TheVariants as output
use Rattle.rh_otp_model.specs.declared.process.Process.{Process}
use Rattle.rh_otp_model.specs.declared.process.StartType.TheVariants.{Takeover}
use Rattle.rh_otp_model.specs.Own.{OwnView}
use Rattle.rh_otp_model.specs.Rows.{keyfind, has_row}
use Rattle.rh_otp_dist.specs.declared.state.Stand.TheVariants as stand
use Rattle.rh_otp_dist.specs.declared.state.Standing.{Standing}
use Rattle.rh_otp_dist.specs.Calls.{take_over, take_over_from}
use Rattle.rh_otp_dist.specs.State.{DistView, TurnView}
use Rattle.rh_otp_dist.specs.Waiting.{takes}
use Rattle.rh_otp_node.specs.Live.{LiveView, is_alive, with_kind}
use Rattle.rh_otp_node.specs.Turns.{controller_turn, controlled_by}
use Rattle.rh_otp_sim.specs.Sim.{LiveSimView}
use Rattle.rh_otp_system.specs.declared.calls.Ask.TheVariants as ask
use Rattle.rh_otp_system.specs.declared.calls.Call.{Call}
use Rattle.rh_otp_system.specs.Calls.{process_of}
use Rattle.rh_otp_system.specs.Doing.{call_of}
use Rattle.rh_otp_system.specs.Outputs.{carried_out}
use Rattle.rh_otp_system.specs.Resting.{forgotten}
use Rattle.rh_otp_system.specs.Sending.{told}
use Rattle.rh_otp_system.specs.State.{SystemView, live_at, node_at, own_at, with_node, is_alive_at}
use Rattle.rh_otp_system.specs.Working.{behind}
use Rattle.rh_otp_laws.proofs.Nodes.{node_written, same_of_all}
use Rattle.rh_otp_crashes.specs.Crashes.{IsUnoccupied}
use Rattle.rh_otp_crashes.proofs.Crash.{lives_of}
use Rattle.rh_otp_crashes.proofs.Peace.{arrives_alive}
use Rattle.rh_otp_crashes.proofs.Posting.{posts, mails, all_posted}
use Rattle.rh_otp_crashes.proofs.Turning.{own_in, turn, idle, weighing, idle_comes, written_twice}
use Rattle.rh_otp_permits.proofs.Noting.{answer_of}
use Rattle.rh_otp_begins.proofs.Running.{own_news}
use Rattle.rh_otp_takeovers.proofs.Running.{ran_over, runs_so, one_more}
use Rattle.rh_otp_takeovers.proofs.Taking.{its_change, taking}
use Rattle.rh_agreement.specs.Resting.{held}
use Rattle.rh_agreement_calls.proofs.Moving.{with_one, taken}
use Rattle.rh_agreement_takeovers.specs.Takeovers.{IsKnownAt, CanBeTakenOverLive}
use Rattle.rh_agreement_takeovers.proofs.Question as asks
use Rattle.rh_agreement_takeovers.proofs.Turns as controller

module _ (l : LiveSimView) (n at : Node) (a : App) (restart : Restart) (alive : is_alive_at (held l) n ≡ true)
    (can : CanBeTakenOverLive l n at a) (free_at : (d : DistView) → (node_at (held l) n).dist ≡ Some d → IsUnoccupied d)
    (nobody_locks : (held l).locks ≡ []) where
  abbrev pub base : SystemView
  base = record (held l) { ends_soon = false }

  abbrev pub lives : Node → ℕ
  lives = lives_of base

  abbrev pub own : OwnView
  own = own_at (held l) n

  abbrev pub v : LiveView
  v = node_at (held l) n

  abbrev pub c : Call
  c = call_of (ask.Takeover restart) n a base

  abbrev pub caller : Process
  caller = process_of c

  pub stays : v.controller.is_ending ≡ false
  unfolding forgotten
  stays = can.stays

  pub started : has_row a v.controller.started ≡ true
  unfolding forgotten
  started = can.started

  pub listed : has_row a v.controller.running ≡ true
  unfolding forgotten
  listed = can.listed

  pub off : is_here (keyfind a v.controller.running) ≡ false
  unfolding forgotten
  off = can.off

  pub unasked : has_row a v.controller.start_req ≡ false
  unfolding forgotten
  unasked = can.unasked

  pub runs : lacks_running (controller_turn l.cluster own n v) a ≡ None
  unfolding forgotten
  runs = can.runs

  pub elsewhere : IsKnownAt at a v
  unfolding forgotten
  elsewhere = can.elsewhere

  abbrev pub d : DistView
  d = elsewhere.dist

  pub free : IsUnoccupied d
  free = free_at d elsewhere.has

  -- ---- the call asks for the takeover, with the lock of the nodes of the application

  abbrev pub first : SystemView
  first = asks.first l n a restart alive d elsewhere.has elsewhere.takes_all elsewhere.synchronised free nobody_locks

  abbrev pub question : Envelope
  question = asks.question l n a restart alive d elsewhere.has elsewhere.takes_all elsewhere.synchronised free nobody_locks

  pub calls_so : (held l).calls ≡ [] → (net_in l).last_call < 4000000000
      → called_if (ask.Takeover restart) n a base ≡ with_one question first
  calls_so = asks.calls_so l n a restart alive d elsewhere.has elsewhere.takes_all elsewhere.synchronised free nobody_locks

  pub reached_so : IsReached (held l) → (t : SystemView) → settled most_moves l.order (called_if (ask.Takeover restart) n a base) ≡ t
      → IsReached (rested t)
  reached_so = asks.reached_so l n a restart alive d elsewhere.has elsewhere.takes_all elsewhere.synchronised free nobody_locks

  abbrev d_turn : TurnView
  d_turn = asks.d_turn l n a restart alive d elsewhere.has elsewhere.takes_all elsewhere.synchronised free nobody_locks

  abbrev idle_node : LiveView
  idle_node = asks.idle_node l n a restart alive d elsewhere.has elsewhere.takes_all elsewhere.synchronised free nobody_locks

  abbrev pub named : Envelope
  named = asks.named l n a restart alive d elsewhere.has elsewhere.takes_all elsewhere.synchronised free nobody_locks

  abbrev pub naming : SystemView
  naming = asks.naming l n a restart alive d elsewhere.has elsewhere.takes_all elsewhere.synchronised free nobody_locks

  pub names_so : taken question first ≡ with_one named naming
  names_so = asks.names_so l n a restart alive d elsewhere.has elsewhere.takes_all elsewhere.synchronised free nobody_locks

  -- so all is from then on, but for the node and what was seen
  abbrev pub here_with : LiveView → List Seen → SystemView
  here_with = asks.here_with l n a restart alive d elsewhere.has elsewhere.takes_all elsewhere.synchronised free nobody_locks

  node_with : (w : LiveView) (events : List Seen) → node_at (here_with w events) n ≡ w
  node_with = asks.node_with l n a restart alive d elsewhere.has elsewhere.takes_all elsewhere.synchronised free nobody_locks

  there_with : (w : LiveView) (events : List Seen) → live_at (here_with w events) n ≡ Some w
  there_with = asks.there_with l n a restart alive d elsewhere.has elsewhere.takes_all elsewhere.synchronised free nobody_locks

  twice : (w x : LiveView) (events : List Seen) → with_node n x (here_with w events) ≡ here_with x events
  twice = asks.twice l n a restart alive d elsewhere.has elsewhere.takes_all elsewhere.synchronised free nobody_locks

  abbrev pub request : Envelope
  request = asks.request l n a restart alive d elsewhere.has elsewhere.takes_all elsewhere.synchronised free nobody_locks

  abbrev pub locked : SystemView
  locked = asks.locked l n a restart alive d elsewhere.has elsewhere.takes_all elsewhere.synchronised free nobody_locks

  pub locks_so : taken named naming ≡ with_one request locked
  locks_so = asks.locks_so l n a restart alive d elsewhere.has elsewhere.takes_all elsewhere.synchronised free nobody_locks

  -- ---- its dist_ac notes the takeover, and tells its controller

  abbrev noting : TurnView
  noting = taking c restart at d_turn

  abbrev noted_node : LiveView
  noted_node = record v { dist = Some noting.state }

  abbrev pub order : Envelope
  order = its_change lives c restart at

  abbrev pub ordered : SystemView
  ordered = here_with noted_node []

  takes_so : (w : ℕ) → take_over a restart caller (weighing w d_turn) ≡ weighing w noting
  unfolding take_over
  takes_so w = ap (λ (st : Standing). take_over_from a restart caller st (weighing w d_turn)) elsewhere.elsewhere

  pub orders_so : taken request locked ≡ with_one order ordered
  unfolding forgotten
  orders_so =
      arrives_alive request.to request.message (record locked { messages = [] }) (ap is_alive (node_with idle_node []) ∙ alive)
      (ap (λ (w : LiveView). w.life) (node_with idle_node []))
      ∙ idle_comes l.cluster l.files n v.life request.message (idle d) noting
      (asks.free_idle l n a restart alive d elsewhere.has elsewhere.takes_all elsewhere.synchronised free nobody_locks) refl refl takes_so
      (record locked { messages = [] }) idle_node (there_with idle_node []) refl refl refl refl
      ∙ ap (with_one order) (twice idle_node noted_node [])

  -- ---- its controller starts it

  abbrev pub start_seen : List Seen
  start_seen = seen.Started a n (Takeover at) ∷ []

  abbrev begun_node : LiveView
  begun_node = record noted_node {
    controller = controller.beginning l.cluster own n at a restart v (Some noting.state) can.own stays started listed off unasked runs;
  }

  abbrev begin_out : List Output
  begin_out = controller.begin_out l.cluster own n at a restart v (Some noting.state) can.own stays started listed off unasked runs

  abbrev seen_node : LiveView
  seen_node = controller.seen_node l.cluster own n at a restart v (Some noting.state) can.own stays started listed off unasked runs

  abbrev pub report : Envelope
  report = controller.begun l.cluster own n at a restart v (Some noting.state) can.own stays started listed off unasked runs

  abbrev pub begun : SystemView
  begun = here_with seen_node start_seen

  -- it is started, which is seen
  started_so : behind n (begun_node, begin_out) (record ordered { messages = [] }) ≡ with_one report begun
  unfolding told
  started_so =
      (λ i. record (with_node n (with_kind a (Takeover at) (node_written ordered n noted_node begun_node
      (there_with noted_node []) i))
      (with_node n begun_node ordered)) {
        messages = report ∷ [];
        events = start_seen;
      })
      ∙ (λ i. record (written_twice ordered n begun_node seen_node i) { messages = report ∷ []; events = start_seen })
      ∙ (λ i. record (twice noted_node seen_node [] i) { messages = report ∷ []; events = start_seen })

  pub starts_so : taken order ordered ≡ with_one report begun
  unfolding forgotten
  starts_so =
      arrives_alive order.to order.message (record ordered { messages = [] }) (ap is_alive (node_with noted_node []) ∙ alive)
      (ap (λ (w : LiveView). w.life) (node_with noted_node []))
      ∙ ap (λ (w : LiveView). behind n (controlled_by l.cluster own n order.message w)
      (record ordered { messages = [] })) (node_with noted_node [])
      ∙ ap (λ done. behind n done (record ordered { messages = [] }))
      (controller.begins l.cluster own n at a restart v (Some noting.state) can.own stays started listed off unasked runs)
      ∙ started_so

  -- ---- and tells its dist_ac

  abbrev pub kept : ControllerView
  kept = controller.kept l.cluster own n at a restart v (Some noting.state) can.own stays started listed off unasked runs

  abbrev running_node : LiveView
  running_node = record seen_node { controller = kept }

  abbrev pub news : Envelope
  news = own_news lives c None

  abbrev pub running : SystemView
  running = here_with running_node start_seen

  pub reports_so : taken report begun ≡ with_one news running
  unfolding forgotten
  reports_so =
      arrives_alive report.to report.message (record begun { messages = [] }) (ap is_alive (node_with seen_node start_seen) ∙ alive)
      (ap (λ (w : LiveView). w.life) (node_with seen_node start_seen))
      ∙ ap (λ (w : LiveView). behind n (controlled_by l.cluster own n report.message w)
      (record begun { messages = [] })) (node_with seen_node start_seen)
      ∙ ap (λ done. behind n done (record begun { messages = [] }))
      (controller.ends l.cluster own n at a restart v (Some noting.state) can.own stays started listed off unasked runs)
      ∙ ap (with_one news) (twice seen_node running_node start_seen)

  -- ---- that tells the others, and answers the call

  abbrev run_turn : TurnView
  run_turn = turn l.cluster (own_in l.files n) n v.life noting.state

  abbrev ran : TurnView
  ran = ran_over c None run_turn

  abbrev pub next : DistView
  next = ran.state

  abbrev pub new : LiveView
  new = record running_node { dist = Some next }

  abbrev pub spread_news : Message
  spread_news = message.AppStarted n a None

  abbrev pub answer : Envelope
  answer = answer_of lives c outcome.Done

  abbrev pub over : SystemView
  over = here_with new start_seen

  abbrev pub sent : List Envelope
  sent = mails lives over n spread_news d.known

  abbrev pub spoken : SystemView
  spoken = record over { messages = sent ++ answer ∷ [] }

  pub noted_free : IsUnoccupied noting.state
  noted_free = record {
    stand = inl refl;
    mail = All-nil (λ (m : Message). takes stand.Idle m ≡ false);
    permits = free.permits;
    parked = free.parked;
  }

  one_waits : noting.state.t_reqs ≡ (a, caller) ∷ []
  unfolding forgotten
  one_waits = ap (λ rows. (a, caller) ∷ rows) (can.sees_all.takeovers d elsewhere.has)

  lives_with : (k : Node) → (node_at (with_node n new (record running { messages = [] })) k).life ≡ lives k
  lives_with k =
      same_of_all (λ (w : LiveView). w.life) running n k new (ap (λ (w : LiveView). w.life) (sym (node_with running_node start_seen)))
      ∙ same_of_all (λ (w : LiveView). w.life) first n k running_node refl

  alive_with : (k : Node) → is_alive_at (with_node n new (record running { messages = [] })) k ≡ is_alive_at base k
  alive_with k =
      same_of_all is_alive running n k new (ap is_alive (sym (node_with running_node start_seen)))
      ∙ same_of_all is_alive first n k running_node refl

  pub speaks_so : taken news running ≡ spoken
  unfolding forgotten
  speaks_so =
      arrives_alive news.to news.message (record running { messages = [] }) (ap is_alive (node_with running_node start_seen) ∙ alive)
      (ap (λ (w : LiveView). w.life) (node_with running_node start_seen))
      ∙ idle_comes l.cluster l.files n v.life news.message noting.state ran noted_free refl refl
      (λ w. runs_so c None (weighing w run_turn) one_waits)
      (record running { messages = [] }) running_node (there_with running_node start_seen) refl refl refl refl
      ∙ one_more n (posts n spread_news d.known) (output.Send answer) (with_node n new (record running { messages = [] }))
      ∙ ap (carried_out n (output.Send answer)) (all_posted n spread_news d.known (with_node n new (record running { messages = [] }))
      lives_with (λ m among up. can.sees_all.sees d elsewhere.has m among (sym (alive_with m) ∙ up)))
      ∙ (λ i. record (twice running_node new start_seen i) {
        messages = mails lives (twice running_node new start_seen i) n spread_news d.known ++ answer ∷ [];
      })
