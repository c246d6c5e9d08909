-- What is on its way behind a permit by which an application starts at the node, or moves there: dist_ac tells its controller to start it,
-- or to take it over, the starter reports that it has, the controller tells dist_ac that it runs, and the caller is answered. Others are
-- told of the permission, and then of the start.
use Rattle.std.proofs.Common.{◌≡◌, ◌≢◌, ◌+◌, ◌*◌, ◌||◌, ◌==◌, ℕ, Bool, true, false, List, [], ◌∷◌, None, Some, refl, ap, ◌∙◌, arith}
use Rattle.std.specs.Prelude.{All}
use Rattle.std.proofs.lemmas.List.Elements.{All-nil, All-cons, All-head, All-tail}
use Rattle.rh_model.specs.declared.node.App.{App}
use Rattle.rh_model.specs.declared.node.Node.{Node}
use Rattle.rh_otp_controller.specs.Calls.{is_here}
use Rattle.rh_otp_controller.specs.Starting.{lacks_running}
use Rattle.rh_otp_controller.specs.State.{ControllerView}
use Rattle.rh_otp_model.specs.declared.fault.Outcome.TheVariants as outcome
use Rattle.rh_otp_model.specs.declared.message.Change.{Change}
use Rattle.rh_otp_model.specs.declared.message.Change.TheVariants as change_of
use Rattle.rh_otp_model.specs.declared.message.Message.{Message}
use Rattle.rh_otp_model.specs.declared.message.Message.TheVariants as message
use Rattle.rh_otp_model.specs.declared.output.Envelope.{Envelope}
use Rattle.rh_otp_model.specs.declared.output.Event.TheVariants as event
use Rattle.rh_otp_model.specs.declared.output.Output.TheVariants as output
use Rattle.rh_otp_model.specs.declared.process.Role.TheVariants as role
use Rattle.rh_otp_model.specs.declared.process.StartType.{StartType}
use Rattle.rh_otp_model.specs.Own.{controls}
use Rattle.rh_otp_model.specs.Processes.{process_at}
use Rattle.rh_otp_model.specs.Rows.{keyfind, has_row}
use Rattle.rh_otp_dist.specs.declared.state.Stand.TheVariants as stand
use Rattle.rh_otp_dist.specs.State.{DistView, is_among}
use Rattle.rh_otp_net.specs.Links.{are_linked}
use Rattle.rh_otp_node.specs.Live.{LiveView}
use Rattle.rh_otp_node.specs.Turns.{controller_turn, controlled_by}
use Rattle.rh_otp_system.specs.declared.calls.Call.{Call}
use Rattle.rh_otp_system.specs.Calls.{process_of}
use Rattle.rh_otp_system.specs.State.{SystemView, is_alive_at}
use Rattle.rh_otp_crashes.specs.Crashes.{IsUnoccupied}
use Rattle.rh_otp_crashes.proofs.Peace.{here_in}
use Rattle.rh_otp_crashes.proofs.Posting.{posted_to}
use Rattle.rh_otp_crashes.proofs.Turning.{own_in}
use Rattle.rh_otp_permits.proofs.Noting.{answer_of, note}
use Rattle.rh_agreement_spread.proofs.HearingStarts.{learned_at}
use Rattle.rh_agreement_spread.proofs.Summing.{sum_of}
use Rattle.rh_agreement_grants.proofs.Turns.{IsOrder, starts_it, takes_over}
use Rattle.rh_agreement_grants.proofs.Turns as turns

-- what is to come of the node's own processes
pub data Link : Type 0 where
  begins : Link
  reports : Link
  runs : Link
  answers : Link

-- is it only the answer?
abbrev pub is_late : Link → Bool
is_late answers = true
is_late link = false

-- Where the dist_ac has told it: the node has started the application and can run it, its dist_ac can tell the others, and the call waits
-- for that.
pub record Starts (lives : Node → ℕ) (c : Call) (base : SystemView) (v : LiveView) (d : DistView) (what : Change) (kind : StartType)
    : Type 0 where
  pub alive : is_alive_at base c.node ≡ true
  pub life : c.life ≡ lives c.node
  pub same : v.life ≡ lives c.node
  pub own : controls (own_in base.files c.node) c.app ≡ true
  pub stays : v.controller.is_ending ≡ false
  pub started : has_row c.app v.controller.started ≡ true
  pub off : is_here (keyfind c.app v.controller.running) ≡ false
  pub unasked : has_row c.app v.controller.start_req ≡ false
  pub needs : lacks_running (controller_turn base.cluster (own_in base.files c.node) c.node v) c.app ≡ None
  pub order : IsOrder (has_row c.app v.controller.running) what kind
  pub has : v.dist ≡ Some d
  pub takes_all : d.stand ≡ stand.Idle
  pub free : IsUnoccupied d
  pub waits : d.t_reqs ≡ (c.app, process_of c) ∷ []
  pub sees : (m : Node) → is_among m d.known ≡ true → is_alive_at base m ≡ true
      → (c.node.0 == m.0 || are_linked c.node m base.links) ≡ true

-- ---- what the messages are worth

-- what the others are told isn't owed to the caller
abbrev owed_of : Message → ℕ
owed_of (message.NewPermission m b allow his) = 0
owed_of (message.AppStarted m b error) = 0
owed_of (message.Change b (change_of.Started m)) = 0
owed_of m = 1

abbrev pub owed : Envelope → ℕ
owed e = owed_of e.message

-- it can lead to so many messages, with itself
abbrev cost_of : ℕ → Message → ℕ
cost_of most (message.Change b (change_of.Started m)) = 1
cost_of most (message.Change b what) = 2 * most + 4
cost_of most (message.ApplicationStarted b error) = 2 * most + 3
cost_of most (message.Run b error) = 2 * most + 2
cost_of most (message.AppStarted m b error) = 2
cost_of most m = 1

abbrev pub cost : ℕ → Envelope → ℕ
cost most e = cost_of most e.message

order_owed : {listed : Bool} (a : App) (what : Change) (kind : StartType) → IsOrder listed what kind → owed_of (message.Change a what) ≡ 1
order_owed a _ _ starts_it = refl
order_owed a _ _ (takes_over m is) = refl

module _ {lives : Node → ℕ} {c : Call} {base : SystemView} {v : LiveView} {d : DistView} {what : Change} {kind : StartType}
    (starts : Starts lives c base v d what kind) where
  abbrev n : Node
  n = c.node

  abbrev a : App
  a = c.app

  -- ---- the messages

  abbrev pub start_it : Envelope
  start_it = record {
    from = process_at (here_in lives n) role.DistAc;
    to = process_at (here_in lives n) role.Controller;
    message = message.Change a what;
  }

  abbrev pub it_reports : Envelope
  it_reports = record {
    from = process_at (here_in lives n) (role.Starter a);
    to = process_at (here_in lives n) role.Controller;
    message = message.ApplicationStarted a None;
  }

  abbrev pub it_runs : Envelope
  it_runs = record {
    from = process_at (here_in lives n) role.Controller;
    to = process_at (here_in lives n) role.DistAc;
    message = message.Run a None;
  }

  abbrev pub message_of : Link → Envelope
  message_of begins = start_it
  message_of reports = it_reports
  message_of runs = it_runs
  message_of answers = answer_of lives c outcome.Done

  -- one of these, or another dist_ac is told of the permission, or, where it runs, of the start, and then its controller
  pub data IsSaid (link : Link) : Envelope → Type 0 where
    follows : IsSaid link (message_of link)
    notes : (m : Node) → m.0 ≢ n.0 → IsSaid link (note lives c true false m)
    tells : is_late link ≡ true → (m : Node) → m.0 ≢ n.0 → IsSaid link (posted_to lives n (message.AppStarted n a None) m)
    moves : is_late link ≡ true → (m : Node) → m.0 ≢ n.0 → IsSaid link (learned_at lives n a m)

  -- who isn't owed is told whatever comes next
  still_said : (p q : Link) → (is_late p ≡ true → is_late q ≡ true) → (e : Envelope) → IsSaid p e → owed e ≡ 0 → IsSaid q e
  still_said begins q on _ follows none =
      let one : owed_of (message.Change a what) ≡ 1 = order_owed a what kind starts.order in absurd (omega (arith, none, one))
  still_said reports q on _ follows none = absurd (omega (arith, none))
  still_said runs q on _ follows none = absurd (omega (arith, none))
  still_said answers q on _ follows none = absurd (omega (arith, none))
  still_said p q on _ (notes m other) none = notes m other
  still_said p q on _ (tells late m other) none = tells (on late) m other
  still_said p q on _ (moves late m other) none = moves (on late) m other

  none_of_sum : (x y : ℕ) → x + y ≡ 0 → (x ≡ 0) × (y ≡ 0)
  none_of_sum x y none = (omega (arith, none), omega (arith, none))

  pub all_still_said : (p q : Link) → (is_late p ≡ true → is_late q ≡ true) → (l : List Envelope) → All (IsSaid p) l → sum_of owed l ≡ 0
      → All (IsSaid q) l
  all_still_said p q on [] all none = All-nil (IsSaid q)
  all_still_said p q on (e ∷ l) all none =
      let parts : (owed e ≡ 0) × (sum_of owed l ≡ 0) = none_of_sum (owed e) (sum_of owed l) none in
      All-cons (IsSaid q) e l (still_said p q on e (All-head (IsSaid p) e l all) parts.0)
      (all_still_said p q on l (All-tail (IsSaid p) e l all) parts.1)

  -- ---- what its controller does

  abbrev pub begun_node : LiveView
  begun_node = record v {
    controller = turns.beginning base.cluster (own_in base.files n) n a v starts.own starts.stays starts.started starts.off starts.unasked
        starts.needs what kind starts.order;
  }

  -- where the start was seen
  abbrev pub seen_node : LiveView
  seen_node = turns.seen_node base.cluster (own_in base.files n) n a v starts.own starts.stays starts.started starts.off starts.unasked
      starts.needs what kind starts.order

  -- and where it runs
  abbrev pub kept : ControllerView
  kept = turns.kept base.cluster (own_in base.files n) n a v starts.own starts.stays starts.started starts.off starts.unasked
      starts.needs what kind starts.order

  abbrev pub ready : LiveView
  ready = record seen_node { controller = kept }

  pub begins_so : controlled_by base.cluster (own_in base.files n) n (message.Change a what) v
      ≡ (begun_node, output.Tell (event.Started a n kind) ∷ output.Send it_reports ∷ [])
  begins_so =
      turns.begins base.cluster (own_in base.files n) n a v starts.own starts.stays starts.started starts.off starts.unasked
      starts.needs what kind starts.order
      ∙ ap (λ (life : ℕ). (
        begun_node,
        output.Tell (event.Started a n kind) ∷ output.Send (record {
          from = process_at (record { node = n; life = life }) (role.Starter a);
          to = process_at (record { node = n; life = life }) role.Controller;
          message = message.ApplicationStarted a None;
        }) ∷ [],
      )) starts.same

  pub ends_so : controlled_by base.cluster (own_in base.files n) n (message.ApplicationStarted a None) seen_node
      ≡ (ready, output.Send it_runs ∷ [])
  ends_so =
      turns.ends base.cluster (own_in base.files n) n a v starts.own starts.stays starts.started starts.off starts.unasked
      starts.needs what kind starts.order
      ∙ ap (λ (life : ℕ). (
        ready,
        output.Send (record {
          from = process_at (record { node = n; life = life }) role.Controller;
          to = process_at (record { node = n; life = life }) role.DistAc;
          message = message.Run a None;
        }) ∷ [],
      )) starts.same

  pub is_running : is_here (keyfind a kept.running) ≡ true
  is_running =
      turns.is_running base.cluster (own_in base.files n) n a v starts.own starts.stays starts.started starts.off starts.unasked
      starts.needs what kind starts.order
