-- What a controller does where an application that its dist_ac controls is started and can start: it asks the dist_ac, starts it at the
-- reply, and then it answers, and tells the dist_ac.
use Rattle.std.proofs.Common.{◌≡◌, ◌&&◌, Bool, true, false, not, cond, List, [], ◌∷◌, Option, Some, None, refl, ap, ◌∙◌}
use Rattle.std.proofs.lemmas.Bool.{eq-eqb}
use Rattle.rh_model.specs.ClusterView.{ClusterView}
use Rattle.rh_model.specs.declared.node.App.{App}
use Rattle.rh_model.specs.declared.node.Node.{Node}
use Rattle.rh_model.specs.declared.settings.Restart.{Restart}
use Rattle.rh_otp_controller.specs.declared.state.Place.TheVariants.{Here, At}
use Rattle.rh_otp_controller.specs.declared.state.Starting.{Starting}
use Rattle.rh_otp_controller.specs.Calls.{is_here, is_forbidden, start, start_unless}
use Rattle.rh_otp_controller.specs.Changes.{handled, received}
use Rattle.rh_otp_controller.specs.Sending.{send, reply}
use Rattle.rh_otp_controller.specs.Starting.{lacks_started, lacks_running, spawned, spawn_starter, add_starting, add_request, reply_each, with_requests, reply_to_requester, end_starting, set_running, started_by, has_started, replied, start_reply}
use Rattle.rh_otp_controller.specs.State.{ControllerView, TurnView}
use Rattle.rh_otp_dist.specs.State.{DistView}
use Rattle.rh_otp_model.specs.declared.fault.Fault.TheVariants as fault
use Rattle.rh_otp_model.specs.declared.fault.Outcome.TheVariants as outcome
use Rattle.rh_otp_model.specs.declared.message.Message.TheVariants as message
use Rattle.rh_otp_model.specs.declared.message.Reply.TheVariants as reply_of
use Rattle.rh_otp_model.specs.declared.output.Envelope.{Envelope}
use Rattle.rh_otp_model.specs.declared.output.Event.TheVariants as event
use Rattle.rh_otp_model.specs.declared.output.Output.{Output}
use Rattle.rh_otp_model.specs.declared.output.Output.TheVariants as output
use Rattle.rh_otp_model.specs.declared.process.Process.{Process}
use Rattle.rh_otp_model.specs.declared.process.Role.TheVariants as role
use Rattle.rh_otp_model.specs.declared.process.StartType.TheVariants.{Normal}
use Rattle.rh_otp_model.specs.Own.{OwnView, controls}
use Rattle.rh_otp_model.specs.Processes.{process_at}
use Rattle.rh_otp_model.specs.Rows.{keyfind, keydelete, keystore, keyreplace, has_row, without, without_rows}
use Rattle.rh_otp_node.specs.Live.{LiveView, here_of, with_kind}
use Rattle.rh_otp_node.specs.Turns.{controller_turn, controlled_by}
use Rattle.rh_agreement_calls.proofs.Controlling.{well_answered}
use Rattle.rh_agreement_calls.proofs.Starting.{found_first, none_asked}

module _ (c : ClusterView) (own : OwnView) (n : Node) (a : App) (restart : Restart) (caller : Process) (v : LiveView)
    (controlled : controls own a ≡ true) (stays : v.controller.is_ending ≡ false) (off : has_row a v.controller.running ≡ false)
    (unasked : has_row a v.controller.start_req ≡ false)
    (started : lacks_started (controller_turn c own n v) a ≡ None) where
  abbrev turn : TurnView
  turn = controller_turn c own n v

  -- ---- it asks its dist_ac

  abbrev row : Starting
  row = record { restart = Some restart; kind = Normal }

  abbrev pub asking : ControllerView
  asking = record v.controller {
    starting = (a, row) ∷ v.controller.starting;
    start_req = (a, Some caller) ∷ v.controller.start_req;
  }

  abbrev pub asked : Envelope
  asked = record {
    from = process_at (here_of n v) role.Controller;
    to = process_at (here_of n v) role.DistAc;
    message = message.StartRequest a;
  }

  abbrev asked_for : TurnView → TurnView
  asked_for t = add_request a (Some caller) (add_starting a (Some restart) Normal t)

  ask_so : start a restart caller turn ≡ record turn { state = asking; out = output.Send asked ∷ [] }
  unfolding start spawn_starter
  ask_so =
      (λ i. cond (unasked i) (add_request a (Some caller) turn)
      (cond (off i) (reply caller (outcome.Failed (fault.AlreadyStarted a)) turn) (start_unless a restart caller (started i) turn)))
      ∙ (λ i. cond (not (controlled i) && is_forbidden (keyfind a v.controller.permissions))
      (reply caller outcome.Done (record turn { state = record turn.state { start_p_false = (a, restart) ∷ turn.state.start_p_false } }))
      (asked_for (cond (controlled i)
      (cond (controlled i) (send (process_at turn.here role.DistAc) (message.StartRequest a) turn) turn) (spawned a Normal
      (lacks_running turn a) turn))))

  pub asks : controlled_by c own n (message.Start a restart caller) v ≡ (record v { controller = asking }, output.Send asked ∷ [])
  unfolding controlled_by received
  asks =
      (λ i.
      let t : TurnView = cond (stays i) turn (handled (message.Start a restart caller) turn) in
      (record v { controller = t.state }, t.out))
      ∙ ap (λ (t : TurnView). (record v { controller = t.state }, t.out)) ask_so

  -- its dist_ac has replied
  abbrev pub node_then : Option DistView → LiveView
  node_then o = record v { controller = asking; dist = o }

  -- ---- it starts it

  module _ (o : Option DistView) (runs : lacks_running (controller_turn c own n v) a ≡ None) where
    abbrev turn_then : TurnView
    turn_then = controller_turn c own n (node_then o)

    abbrev pub beginning : ControllerView
    beginning = record asking { ended = without a v.controller.ended }

    -- what its starter says
    abbrev pub begun : Envelope
    begun = record {
      from = process_at (here_of n v) (role.Starter a);
      to = process_at (here_of n v) role.Controller;
      message = message.ApplicationStarted a None;
    }

    abbrev pub begin_out : List Output
    begin_out = output.Tell (event.Started a n Normal) ∷ output.Send begun ∷ []

    begin_so : start_reply a reply_of.StartIt turn_then ≡ record turn_then { state = beginning; out = begin_out }
    unfolding start_reply spawn_starter
    begin_so =
        ap (λ (found : Option Starting). replied a reply_of.StartIt found turn_then) (found_first a row v.controller.starting)
        ∙ (λ i. spawned a Normal (runs i) turn_then)

    pub begins : controlled_by c own n (message.Reply a reply_of.StartIt) (node_then o)
        ≡ (record (node_then o) { controller = beginning }, begin_out)
    unfolding controlled_by received
    begins =
        (λ i.
        let t : TurnView = cond (stays i) turn_then (handled (message.Reply a reply_of.StartIt) turn_then) in
        (record (node_then o) { controller = t.state }, t.out))
        ∙ ap (λ (t : TurnView). (record (node_then o) { controller = t.state }, t.out)) begin_so

    -- ---- and answers, and tells its dist_ac

    -- the node, where its start was seen
    abbrev pub seen_node : LiveView
    seen_node = with_kind a Normal (record (node_then o) { controller = beginning })

    abbrev then : TurnView
    then = controller_turn c own n seen_node

    abbrev pub over : ControllerView
    over = record beginning {
      running = keystore a Here beginning.running;
      started = keystore a (Some restart) beginning.started;
      starting = keydelete a beginning.starting;
      start_req = without_rows a beginning.start_req;
    }

    abbrev pub runs_now : Envelope
    runs_now = record {
      from = process_at (here_of n v) role.Controller;
      to = process_at (here_of n v) role.DistAc;
      message = message.Run a None;
    }

    abbrev pub end_out : List Output
    end_out = output.Send (well_answered n v caller) ∷ output.Send runs_now ∷ []

    replies_so : reply_each a outcome.Done beginning.start_req then ≡ reply caller outcome.Done then
    replies_so =
        ap (λ (b : Bool). reply_each a outcome.Done v.controller.start_req (cond b (reply caller outcome.Done then) then))
        (eq-eqb a.0 a.0 refl)
        ∙ none_asked a outcome.Done v.controller.start_req (reply caller outcome.Done then) unasked

    abbrev replied_then : TurnView
    replied_then = with_requests (without_rows a beginning.start_req) (reply caller outcome.Done then)

    end_so : has_started a Here None then ≡ record then { state = over; out = end_out }
    unfolding has_started reply_to_requester
    end_so =
        ap (λ (t : TurnView).
        let told : TurnView = with_requests (without_rows a beginning.start_req) t in
        started_by a Here None (keyfind a told.state.starting) told) replies_so
        ∙ ap (λ (found : Option Starting). started_by a Here None found replied_then) (found_first a row v.controller.starting)
        ∙ ap (λ (b : Bool). set_running a Here (Some restart)
        (cond b (send (process_at then.here role.DistAc) (message.Run a None) (end_starting a replied_then)) (end_starting a replied_then)))
        controlled

    pub ends : controlled_by c own n (message.ApplicationStarted a None) seen_node ≡ (record seen_node { controller = over }, end_out)
    unfolding controlled_by received
    ends =
        (λ i.
        let t : TurnView = cond (stays i) then (handled (message.ApplicationStarted a None) then) in
        (record seen_node { controller = t.state }, t.out))
        ∙ ap (λ (t : TurnView). (record seen_node { controller = t.state }, t.out)) end_so

    -- it runs there then
    pub is_running : is_here (keyfind a over.running) ≡ true
    is_running =
        ap (λ (b : Bool). is_here (keyfind a (cond b (keyreplace a Here v.controller.running) ((a, Here) ∷ v.controller.running)))) off
        ∙ ap is_here (found_first a Here v.controller.running)

  -- ---- or it is told that the application runs elsewhere, and answers

  module _ (o : Option DistView) (m : Node) where
    abbrev turn_there : TurnView
    turn_there = controller_turn c own n (node_then o)

    abbrev pub away : ControllerView
    away = record asking {
      running = keystore a (At m) v.controller.running;
      started = keystore a (Some restart) v.controller.started;
      starting = keydelete a asking.starting;
      start_req = without_rows a asking.start_req;
    }

    abbrev pub away_out : List Output
    away_out = output.Send (well_answered n v caller) ∷ []

    answers_so : reply_each a outcome.Done asking.start_req turn_there ≡ reply caller outcome.Done turn_there
    answers_so =
        ap (λ (b : Bool). reply_each a outcome.Done v.controller.start_req (cond b (reply caller outcome.Done turn_there) turn_there))
        (eq-eqb a.0 a.0 refl)
        ∙ none_asked a outcome.Done v.controller.start_req (reply caller outcome.Done turn_there) unasked

    abbrev answered_then : TurnView
    answered_then = with_requests (without_rows a asking.start_req) (reply caller outcome.Done turn_there)

    away_so : start_reply a (reply_of.Started m) turn_there ≡ record turn_there { state = away; out = away_out }
    unfolding start_reply has_started reply_to_requester
    away_so =
        ap (λ (found : Option Starting). replied a (reply_of.Started m) found turn_there) (found_first a row v.controller.starting)
        ∙ ap (λ (t : TurnView).
        let told : TurnView = with_requests (without_rows a asking.start_req) t in
        started_by a (At m) None (keyfind a told.state.starting) told) answers_so
        ∙ ap (λ (found : Option Starting). started_by a (At m) None found answered_then) (found_first a row v.controller.starting)

    pub goes_away : controlled_by c own n (message.Reply a (reply_of.Started m)) (node_then o)
        ≡ (record (node_then o) { controller = away }, away_out)
    unfolding controlled_by received
    goes_away =
        (λ i.
        let t : TurnView = cond (stays i) turn_there (handled (message.Reply a (reply_of.Started m)) turn_there) in
        (record (node_then o) { controller = t.state }, t.out))
        ∙ ap (λ (t : TurnView). (record (node_then o) { controller = t.state }, t.out)) away_so
