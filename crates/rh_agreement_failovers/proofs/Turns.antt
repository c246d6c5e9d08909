-- What a controller does where an application is to fail over to its node, has been started there, runs elsewhere or nowhere as far as it
-- knows, and can start: it starts it, and then it tells its dist_ac.
use Rattle.std.proofs.Common.{◌≡◌, Bool, true, false, cond, is_some, List, [], ◌∷◌, Option, Some, None, refl, sym, ap, ◌∙◌}
use Rattle.std.proofs.lemmas.Bool.{eq-eqb, false≢true}
use Rattle.rh_model.specs.ClusterView.{ClusterView, has_phases}
use Rattle.rh_model.specs.declared.node.App.{App}
use Rattle.rh_model.specs.declared.node.Node.{Node}
use Rattle.rh_model.specs.declared.settings.Dep.{Dep}
use Rattle.rh_otp_controller.specs.declared.state.Place.{Place}
use Rattle.rh_otp_controller.specs.declared.state.Place.TheVariants.{Here, At, Nowhere}
use Rattle.rh_otp_controller.specs.declared.state.Starting.{Starting}
use Rattle.rh_otp_controller.specs.Calls.{is_here}
use Rattle.rh_otp_controller.specs.Changes.{handled, received, change, changed, do_start, kept_restart, start_here}
use Rattle.rh_otp_controller.specs.Sending.{send}
use Rattle.rh_otp_controller.specs.Starting.{lacks_running, spawned, spawn_starter, add_starting, add_request, reply_each, with_requests, reply_to_requester, end_starting, set_running, started_by, has_started}
use Rattle.rh_otp_controller.specs.State.{ControllerView, TurnView}
use Rattle.rh_otp_dist.specs.State.{DistView}
use Rattle.rh_otp_model.specs.declared.fault.Outcome.TheVariants as outcome
use Rattle.rh_otp_model.specs.declared.message.Change.TheVariants as change_of
use Rattle.rh_otp_model.specs.declared.message.Message.TheVariants as message
use Rattle.rh_otp_model.specs.declared.output.Envelope.{Envelope}
use Rattle.rh_otp_model.specs.declared.output.Event.TheVariants as event
use Rattle.rh_otp_model.specs.declared.output.Output.{Output}
use Rattle.rh_otp_model.specs.declared.output.Output.TheVariants as output
use Rattle.rh_otp_model.specs.declared.process.Process.{Process}
use Rattle.rh_otp_model.specs.declared.process.Role.TheVariants as role
use Rattle.rh_otp_model.specs.declared.process.StartType.{StartType}
use Rattle.rh_otp_model.specs.declared.process.StartType.TheVariants.{Failover, Normal}
use Rattle.rh_otp_model.specs.Own.{OwnView, controls}
use Rattle.rh_otp_model.specs.Processes.{process_at}
use Rattle.rh_otp_model.specs.Rows.{keyfind, keydelete, keystore, has_row, without, without_rows}
use Rattle.rh_otp_node.specs.Live.{LiveView, here_of, with_kind}
use Rattle.rh_otp_node.specs.Turns.{controller_turn, controlled_by}
use Rattle.rh_agreement_calls.proofs.Starting.{found_first}

-- a failover is a normal start where there are no start phases
abbrev pub kind_of : ClusterView → App → Node → StartType
kind_of c a gone = cond (has_phases c a) (Failover gone) Normal

found_some : {A : Type 0} (o : Option A) → is_some o ≡ true → (x : A) × (o ≡ Some x)
found_some None is = absurd (false≢true is)
found_some (Some x) is = (x, refl)

-- one that doesn't run here is started
starts_by : (a : App) (gone : Node) (t : TurnView) (o : Option Place) → is_some o ≡ true → is_here o ≡ false
    → changed a (change_of.Failover gone) o t ≡ cond (has_row a t.state.started) (start_here a (change_of.Failover gone) t) t
starts_by a gone t None runs away = absurd (false≢true runs)
starts_by a gone t (Some Here) runs away = absurd (false≢true (sym away))
starts_by a gone t (Some (At m)) runs away = refl
starts_by a gone t (Some Nowhere) runs away = refl

module _ (c : ClusterView) (own : OwnView) (n : Node) (a : App) (gone : Node) (v : LiveView) (o : Option DistView)
    (controlled : controls own a ≡ true) (stays : v.controller.is_ending ≡ false) (started : has_row a v.controller.started ≡ true)
    (runs : has_row a v.controller.running ≡ true) (away : is_here (keyfind a v.controller.running) ≡ false)
    (unasked : v.controller.start_req ≡ []) (needs : lacks_running (controller_turn c own n v) a ≡ None) where
  -- its dist_ac has told it
  abbrev pub told_node : LiveView
  told_node = record v { dist = o }

  abbrev turn : TurnView
  turn = controller_turn c own n told_node

  abbrev kind : StartType
  kind = kind_of c a gone

  -- ---- it starts it

  abbrev row : Starting
  row = record { restart = kept_restart None (keyfind a v.controller.started); kind = kind }

  abbrev starting_then : Bool → List (App × Starting)
  starting_then b = cond b v.controller.starting ((a, row) ∷ v.controller.starting)

  abbrev begun_with : Bool → ControllerView
  begun_with b = record v.controller {
    ended = without a v.controller.ended;
    starting = starting_then b;
    start_req = (a, None) ∷ v.controller.start_req;
  }

  abbrev pub beginning : ControllerView
  beginning = begun_with (has_row a v.controller.starting)

  -- what its starter says
  abbrev pub begun : Envelope
  begun = record {
    from = process_at (here_of n v) (role.Starter a);
    to = process_at (here_of n v) role.Controller;
    message = message.ApplicationStarted a None;
  }

  abbrev pub begin_out : List Output
  begin_out = output.Tell (event.Started a n kind) ∷ output.Send begun ∷ []

  abbrev begun_lacking : Option Dep → TurnView
  begun_lacking lack =
      let t : TurnView = spawned a kind lack turn in
      add_request a None (cond (has_row a t.state.starting) t (add_starting a row.restart kind t))

  adds : (b : Bool) → add_request a None (cond b (spawned a kind None turn) (add_starting a row.restart kind (spawned a kind None turn)))
      ≡ record turn { state = begun_with b; out = begin_out }
  adds true = refl
  adds false = refl

  begin_so : change a (change_of.Failover gone) turn ≡ record turn { state = beginning; out = begin_out }
  unfolding change do_start spawn_starter
  begin_so =
      starts_by a gone turn (keyfind a v.controller.running) runs away
      ∙ ap (λ (b : Bool). cond b (start_here a (change_of.Failover gone) turn) turn) started
      ∙ (λ i. cond (has_row a (unasked i)) turn (begun_lacking (needs i)))
      ∙ adds (has_row a v.controller.starting)

  pub begins : controlled_by c own n (message.Change a (change_of.Failover gone)) told_node
      ≡ (record told_node { controller = beginning }, begin_out)
  unfolding controlled_by received
  begins =
      (λ i.
      let t : TurnView = cond (stays i) turn (handled (message.Change a (change_of.Failover gone)) turn) in
      (record told_node { controller = t.state }, t.out))
      ∙ ap (λ (t : TurnView). (record told_node { controller = t.state }, t.out)) begin_so

  -- ---- and tells its dist_ac

  -- the node, where its start was seen
  abbrev pub seen_node : LiveView
  seen_node = with_kind a kind (record told_node { controller = beginning })

  abbrev then : TurnView
  then = controller_turn c own n seen_node

  pub found : (x : Starting) × (keyfind a beginning.starting ≡ Some x)
  found = by (has_row a v.controller.starting) refl
    where
      by : (b : Bool) → has_row a v.controller.starting ≡ b → (x : Starting) × (keyfind a (starting_then b) ≡ Some x)
      by true is = found_some (keyfind a v.controller.starting) is
      by false is = (row, found_first a row v.controller.starting)

  abbrev pub over : ControllerView
  over = record beginning {
    running = keystore a Here beginning.running;
    started = keystore a found.0.restart beginning.started;
    starting = keydelete a beginning.starting;
    start_req = without_rows a beginning.start_req;
  }

  abbrev pub runs_now : Envelope
  runs_now = record {
    from = process_at (here_of n v) role.Controller;
    to = process_at (here_of n v) role.DistAc;
    message = message.Run a None;
  }

  abbrev pub end_out : List Output
  end_out = output.Send runs_now ∷ []

  replies_so : reply_each a outcome.Done beginning.start_req then ≡ then
  replies_so =
      ap (λ (b : Bool). reply_each a outcome.Done v.controller.start_req (cond b then then)) (eq-eqb a.0 a.0 refl)
      ∙ ap (λ (rows : List (App × Option Process)). reply_each a outcome.Done rows then) unasked

  abbrev replied_then : TurnView
  replied_then = with_requests (without_rows a beginning.start_req) then

  end_so : has_started a Here None then ≡ record then { state = over; out = end_out }
  unfolding has_started reply_to_requester
  end_so =
      ap (λ (t : TurnView).
      let told : TurnView = with_requests (without_rows a beginning.start_req) t in
      started_by a Here None (keyfind a told.state.starting) told) replies_so
      ∙ ap (λ (x : Option Starting). started_by a Here None x replied_then) found.1
      ∙ ap (λ (b : Bool). set_running a Here found.0.restart
      (cond b (send (process_at then.here role.DistAc) (message.Run a None) (end_starting a replied_then)) (end_starting a replied_then)))
      controlled

  pub ends : controlled_by c own n (message.ApplicationStarted a None) seen_node ≡ (record seen_node { controller = over }, end_out)
  unfolding controlled_by received
  ends =
      (λ i.
      let t : TurnView = cond (stays i) then (handled (message.ApplicationStarted a None) then) in
      (record seen_node { controller = t.state }, t.out))
      ∙ ap (λ (t : TurnView). (record seen_node { controller = t.state }, t.out)) end_so
