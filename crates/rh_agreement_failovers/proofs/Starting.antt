-- The four turns of the node that starts the application, whatever has come at other nodes meanwhile: its timer, what its controller is
-- told then, the report of the starter, and what its dist_ac is told.
use Rattle.std.proofs.Common.{◌≡◌, ◌++◌, ◌==◌, ◌||◌, ℕ, true, false, List, [], ◌∷◌, Some, None, refl, sym, ap, ◌∙◌, inl}
use Rattle.std.proofs.lemmas.List.{append-nil}
use Rattle.std.proofs.lemmas.List.Elements.{All-nil}
use Rattle.rh_model.specs.ClusterView.{ClusterView}
use Rattle.rh_model.specs.declared.node.App.{App}
use Rattle.rh_model.specs.declared.node.Node.{Node}
use Rattle.rh_otp_controller.specs.Calls.{is_here}
use Rattle.rh_otp_controller.specs.State.{ControllerView}
use Rattle.rh_otp_model.specs.declared.message.Change.TheVariants as change_of
use Rattle.rh_otp_model.specs.declared.message.Message.{Message}
use Rattle.rh_otp_model.specs.declared.message.Message.TheVariants as message
use Rattle.rh_otp_model.specs.declared.output.Envelope.{Envelope}
use Rattle.rh_otp_model.specs.declared.output.Event.{Event}
use Rattle.rh_otp_model.specs.declared.output.Event.TheVariants as event
use Rattle.rh_otp_model.specs.declared.output.Output.{Output}
use Rattle.rh_otp_model.specs.declared.process.Role.TheVariants as role
use Rattle.rh_otp_model.specs.declared.process.StartType.{StartType}
use Rattle.rh_otp_model.specs.Own.{OwnView, controls}
use Rattle.rh_otp_model.specs.Processes.{process_at}
use Rattle.rh_otp_model.specs.Rows.{keyfind, has_row}
use Rattle.rh_otp_dist.specs.declared.state.Stand.TheVariants as stand
use Rattle.rh_otp_dist.specs.State.{DistView, TurnView, is_among}
use Rattle.rh_otp_dist.specs.Waiting.{takes}
use Rattle.rh_otp_net.specs.Links.{are_linked}
use Rattle.rh_otp_node.specs.Live.{LiveView, is_alive, with_kind}
use Rattle.rh_otp_node.specs.Turns.{controlled_by}
use Rattle.rh_otp_system.specs.Delivering.{controlled}
use Rattle.rh_otp_system.specs.Sending.{told}
use Rattle.rh_otp_system.specs.State.{SystemView, live_at, node_at, with_node, is_alive_at}
use Rattle.rh_otp_system.specs.Working.{behind, mailed}
use Rattle.rh_otp_laws.proofs.Nodes.{node_written, same_of_all}
use Rattle.rh_otp_crashes.specs.Crashes.{IsUnoccupied}
use Rattle.rh_otp_crashes.specs.Failovers.{IsFirst, IsAble}
use Rattle.rh_otp_crashes.proofs.News.{it_fails_over, it_started, it_runs}
use Rattle.rh_otp_crashes.proofs.Posting.{mails, all_posted}
use Rattle.rh_otp_crashes.proofs.Starting.{restarts, started_over}
use Rattle.rh_otp_crashes.proofs.Telling.{run_over, runs_so}
use Rattle.rh_otp_crashes.proofs.Turning.{own_in, node_is, turn, weighing, idle_comes, written_twice}
use Rattle.rh_agreement_failovers.proofs.Turns as controller
use Rattle.rh_agreement_failovers.proofs.Turns.{kind_of}

-- The node is the first that may run the application, and can. Its controller has started it, has it as running, but not here, and isn't
-- on its way to its end.
pub record CanStartIt (lives : Node → ℕ) (n : Node) (a : App) (base : SystemView) : Type 0 where
  pub first : IsFirst (own_in base.files n) n a (node_at base n)
  pub able : IsAble base.cluster (own_in base.files n) n a (node_at base n)
  pub free : IsUnoccupied first.dist
  pub takeovers : first.dist.t_reqs ≡ []
  pub life : (node_at base n).life ≡ lives n
  pub own : controls (own_in base.files n) a ≡ true
  pub started : has_row a (node_at base n).controller.started ≡ true
  pub runs : has_row a (node_at base n).controller.running ≡ true
  pub away : is_here (keyfind a (node_at base n).controller.running) ≡ false
  pub stays : (node_at base n).controller.is_ending ≡ false

-- a node is another one, these messages are behind all others, and these events were seen
abbrev pub goes : Node → LiveView → List Envelope → List Event → SystemView → SystemView
goes n v more seen q = record (with_node n v q) { messages = q.messages ++ more; events = q.events ++ seen }

unseen : (n : Node) (v : LiveView) (more : List Envelope) (q : SystemView)
    → record (with_node n v q) { messages = q.messages ++ more } ≡ goes n v more [] q
unseen n v more q = λ i. record (with_node n v q) { messages = q.messages ++ more; events = sym (append-nil q.events) i }

module _ (lives : Node → ℕ) (n : Node) (a : App) (base : SystemView) (can : CanStartIt lives n a base) where
  abbrev own : OwnView
  own = own_in base.files n

  abbrev c : ClusterView
  c = base.cluster

  abbrev pub v : LiveView
  v = node_at base n

  abbrev pub d : DistView
  d = can.first.dist

  abbrev pub gone : Node
  gone = can.first.gone

  abbrev pub kind : StartType
  kind = kind_of c a gone

  -- ---- its timer

  abbrev t : TurnView
  t = turn c own n (lives n) d

  abbrev lost_over : TurnView
  lost_over = started_over a gone t

  abbrev pub next : DistView
  next = lost_over.state

  abbrev pub told_node : LiveView
  told_node =
      controller.told_node c own n a gone v (Some next) can.own can.stays can.started can.runs can.away can.able.requests
      can.able.needs

  pub loses : (loss : ℕ) (q : SystemView) → live_at q n ≡ Some v → q.cluster ≡ c → q.files ≡ base.files
      → mailed n (message.RestartAppl a loss) q ≡ goes n told_node (it_fails_over lives n a gone ∷ []) [] q
  loses loss q there in_cluster in_files =
      idle_comes c base.files n (lives n) (message.RestartAppl a loss) d lost_over can.free can.first.takes_all refl
      (λ w. restarts a gone (weighing w t) can.first.lost can.first.first can.first.unknown) q v there can.first.has can.life
      in_cluster in_files
      ∙ unseen n told_node (it_fails_over lives n a gone ∷ []) q

  -- ---- its controller starts it

  abbrev pub beginning : ControllerView
  beginning =
      controller.beginning c own n a gone v (Some next) can.own can.stays can.started can.runs can.away can.able.requests
      can.able.needs

  abbrev begin_out : List Output
  begin_out =
      controller.begin_out c own n a gone v (Some next) can.own can.stays can.started can.runs can.away can.able.requests
      can.able.needs

  abbrev begun_node : LiveView
  begun_node = record told_node { controller = beginning }

  abbrev pub seen_node : LiveView
  seen_node =
      controller.seen_node c own n a gone v (Some next) can.own can.stays can.started can.runs can.away can.able.requests
      can.able.needs

  abbrev pub start_seen : List Event
  start_seen = event.Started a n kind ∷ []

  module _ (q : SystemView) (there : live_at q n ≡ Some told_node) (in_cluster : q.cluster ≡ c) (in_files : q.files ≡ base.files) where
    -- what its starter says
    abbrev starter_says : ℕ → Envelope
    starter_says life = record {
      from = process_at (record { node = n; life = life }) (role.Starter a);
      to = process_at (record { node = n; life = life }) role.Controller;
      message = message.ApplicationStarted a None;
    }

    started_so : behind n (begun_node, begin_out) q ≡ goes n seen_node (it_started lives n a ∷ []) start_seen q
    unfolding told
    started_so =
        (λ i. record (with_node n (with_kind a kind (node_written q n told_node begun_node there i)) (with_node n begun_node q)) {
          messages = q.messages ++ starter_says v.life ∷ [];
          events = q.events ++ start_seen;
        })
        ∙ (λ i. record (written_twice q n begun_node seen_node i) {
          messages = q.messages ++ starter_says (can.life i) ∷ [];
          events = q.events ++ start_seen;
        })

    pub begins : controlled n (message.Change a (change_of.Failover gone)) q ≡ goes n seen_node (it_started lives n a ∷ []) start_seen q
    begins =
        ap (λ (w : LiveView). behind n (controlled_by q.cluster (own_in q.files n) n (message.Change a (change_of.Failover gone)) w) q)
        (node_is q n told_node there)
        ∙ (λ i. behind n (controlled_by (in_cluster i) (own_in (in_files i) n) n (message.Change a (change_of.Failover gone)) told_node) q)
        ∙ ap (λ done. behind n done q)
        (controller.begins c own n a gone v (Some next) can.own can.stays can.started can.runs can.away can.able.requests can.able.needs)
        ∙ started_so

  -- ---- and tells its dist_ac

  abbrev pub kept : ControllerView
  kept =
      controller.over c own n a gone v (Some next) can.own can.stays can.started can.runs can.away can.able.requests
      can.able.needs

  abbrev pub kept_node : LiveView
  kept_node = record seen_node { controller = kept }

  pub ends : (q : SystemView) → live_at q n ≡ Some seen_node → q.cluster ≡ c → q.files ≡ base.files
      → controlled n (message.ApplicationStarted a None) q ≡ goes n kept_node (it_runs lives n a ∷ []) [] q
  ends q there in_cluster in_files =
      ap (λ (w : LiveView). behind n (controlled_by q.cluster (own_in q.files n) n (message.ApplicationStarted a None) w) q)
      (node_is q n seen_node there)
      ∙ (λ i. behind n (controlled_by (in_cluster i) (own_in (in_files i) n) n (message.ApplicationStarted a None) seen_node) q)
      ∙ ap (λ done. behind n done q)
      (controller.ends c own n a gone v (Some next) can.own can.stays can.started can.runs can.away can.able.requests can.able.needs)
      ∙ (λ i. record (with_node n kept_node q) {
        messages = q.messages ++ record {
          from = process_at (record { node = n; life = can.life i }) role.Controller;
          to = process_at (record { node = n; life = can.life i }) role.DistAc;
          message = message.Run a None;
        } ∷ [];
      })
      ∙ unseen n kept_node (it_runs lives n a ∷ []) q

  -- ---- that tells the others

  pub next_free : IsUnoccupied next
  next_free = record {
    stand = inl refl;
    mail = All-nil (λ (m : Message). takes stand.Idle m ≡ false);
    permits = can.free.permits;
    parked = can.free.parked;
  }

  abbrev t_next : TurnView
  t_next = turn c own n (lives n) next

  abbrev run : TurnView
  run = run_over a None t_next

  abbrev pub last_node : LiveView
  last_node = record kept_node { dist = Some run.state }

  -- it knows the same nodes as before
  pub still_knows : next.known ≡ d.known
  still_knows = refl

  abbrev pub all_told : SystemView → List Envelope
  all_told q = mails lives (with_node n last_node q) n (message.AppStarted n a None) next.known

  module _ (q : SystemView) (there : live_at q n ≡ Some kept_node) (in_cluster : q.cluster ≡ c) (in_files : q.files ≡ base.files)
      (same_lives : (k : Node) → (node_at q k).life ≡ lives k)
      (sees : (m : Node) → is_among m next.known ≡ true → is_alive_at q m ≡ true → (n.0 == m.0 || are_linked n m q.links) ≡ true) where
    here : node_at q n ≡ kept_node
    here = node_is q n kept_node there

    lives_on : (k : Node) → (node_at (with_node n last_node q) k).life ≡ lives k
    lives_on k = same_of_all (λ (w : LiveView). w.life) q n k last_node (sym (ap (λ (w : LiveView). w.life) here)) ∙ same_lives k

    awake : (k : Node) → is_alive_at (with_node n last_node q) k ≡ is_alive_at q k
    awake k = same_of_all is_alive q n k last_node (sym (ap is_alive here))

    pub tells : mailed n (message.Run a None) q ≡ goes n last_node (all_told q) [] q
    tells =
        idle_comes c base.files n (lives n) (message.Run a None) next run next_free refl refl
        (λ w. runs_so a None (weighing w t_next) can.takeovers) q kept_node there refl can.life in_cluster in_files
        ∙ all_posted n (message.AppStarted n a None) next.known (with_node n last_node q) lives_on
        (λ m among up. sees m among (sym (awake m) ∙ up))
        ∙ unseen n last_node (all_told q) q
