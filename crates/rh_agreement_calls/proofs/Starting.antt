-- What a controller does where an application that no dist_ac controls is started and can start: it starts it, and then it answers.
use Rattle.std.proofs.Common.{◌≡◌, ◌==◌, ◌&&◌, Bool, true, false, not, cond, List, [], ◌∷◌, is_some, find, Option, Some, None, refl, sym, ap, ◌∙◌}
use Rattle.std.specs.Option.{option_map}
use Rattle.std.proofs.lemmas.Bool.{eq-eqb, false≢true}
use Rattle.rh_model.specs.ClusterView.{ClusterView}
use Rattle.rh_model.specs.declared.node.App.{App}
use Rattle.rh_model.specs.declared.node.Node.{Node}
use Rattle.rh_model.specs.declared.settings.Restart.{Restart}
use Rattle.rh_otp_controller.specs.declared.state.Place.TheVariants.{Here}
use Rattle.rh_otp_controller.specs.declared.state.Starting.{Starting}
use Rattle.rh_otp_controller.specs.Calls.{is_here, is_forbidden, start, start_unless}
use Rattle.rh_otp_controller.specs.Changes.{handled, received}
use Rattle.rh_otp_controller.specs.Sending.{send, reply, reply_to, control}
use Rattle.rh_otp_controller.specs.Starting.{lacks_started, lacks_running, spawned, spawn_starter, add_starting, add_request, reply_each, with_requests, reply_to_requester, end_starting, set_running, started_by, has_started}
use Rattle.rh_otp_controller.specs.State.{ControllerView, TurnView}
use Rattle.rh_otp_model.specs.declared.fault.Fault.TheVariants as fault
use Rattle.rh_otp_model.specs.declared.fault.Outcome.{Outcome}
use Rattle.rh_otp_model.specs.declared.fault.Outcome.TheVariants as outcome
use Rattle.rh_otp_model.specs.declared.message.Message.TheVariants as message
use Rattle.rh_otp_model.specs.declared.output.Envelope.{Envelope}
use Rattle.rh_otp_model.specs.declared.output.Event.TheVariants as event
use Rattle.rh_otp_model.specs.declared.output.Output.{Output}
use Rattle.rh_otp_model.specs.declared.output.Output.TheVariants as output
use Rattle.rh_otp_model.specs.declared.process.Process.{Process}
use Rattle.rh_otp_model.specs.declared.process.Role.TheVariants as role
use Rattle.rh_otp_model.specs.declared.process.StartType.TheVariants.{Normal}
use Rattle.rh_otp_model.specs.Own.{OwnView, controls}
use Rattle.rh_otp_model.specs.Processes.{process_at}
use Rattle.rh_otp_model.specs.Rows.{is_of, keyfind, keydelete, keystore, keyreplace, has_row, without, without_rows}
use Rattle.rh_otp_node.specs.Live.{LiveView, here_of, with_kind}
use Rattle.rh_otp_node.specs.Turns.{controller_turn, controlled_by}
use Rattle.rh_agreement_calls.proofs.Controlling.{well_answered}

-- a row in front is the first of its application
pub found_first : {T : Type 0} (a : App) (x : T) (rows : List (App × T)) → keyfind a ((a, x) ∷ rows) ≡ Some x
found_first a x rows = ap (λ (b : Bool). option_map (λ row. row.1) (cond b (Some (a, x)) (find (is_of a) rows))) (eq-eqb a.0 a.0 refl)

-- nobody of these has asked for it
pub none_asked : (a : App) (o : Outcome) (rows : List (App × Option Process)) (t : TurnView) → has_row a rows ≡ false
    → reply_each a o rows t ≡ t
none_asked a o [] t none = refl
none_asked a o (row ∷ rows) t none = by (row.0.0 == a.0) refl none (λ left. none_asked a o rows t left)
  where
    by : (b : Bool) → (row.0.0 == a.0) ≡ b
        → is_some (option_map (λ (r : App × Option Process). r.1) (cond b (Some row) (find (is_of a) rows))) ≡ false
        → (has_row a rows ≡ false → reply_each a o rows t ≡ t) → reply_each a o (row ∷ rows) t ≡ t
    by true is none rest = absurd (false≢true (sym none))
    by false is none rest = ap (λ (b : Bool). reply_each a o rows (cond b (reply_to row.1 o t) t)) is ∙ rest none

module _ (c : ClusterView) (own : OwnView) (n : Node) (a : App) (restart : Restart) (caller : Process) (v : LiveView)
    (apart : controls own a ≡ false) (stays : v.controller.is_ending ≡ false) (off : has_row a v.controller.running ≡ false)
    (unasked : has_row a v.controller.start_req ≡ false) (may : is_forbidden (keyfind a v.controller.permissions) ≡ false)
    (started : lacks_started (controller_turn c own n v) a ≡ None) (runs : lacks_running (controller_turn c own n v) a ≡ None) where
  abbrev turn : TurnView
  turn = controller_turn c own n v

  -- ---- it starts it

  abbrev row : Starting
  row = record { restart = Some restart; kind = Normal }

  abbrev pub beginning : ControllerView
  beginning = record v.controller {
    ended = without a v.controller.ended;
    starting = (a, row) ∷ v.controller.starting;
    start_req = (a, Some caller) ∷ v.controller.start_req;
  }

  -- what its starter says
  abbrev pub begun : Envelope
  begun = record {
    from = process_at (here_of n v) (role.Starter a);
    to = process_at (here_of n v) role.Controller;
    message = message.ApplicationStarted a None;
  }

  abbrev pub begin_out : List Output
  begin_out = output.Tell (event.Started a n Normal) ∷ output.Send begun ∷ []

  abbrev asked_for : TurnView → TurnView
  asked_for t = add_request a (Some caller) (add_starting a (Some restart) Normal t)

  begin_so : start a restart caller turn ≡ record turn { state = beginning; out = begin_out }
  unfolding start spawn_starter
  begin_so =
      (λ i. cond (unasked i) (add_request a (Some caller) turn)
      (cond (off i) (reply caller (outcome.Failed (fault.AlreadyStarted a)) turn) (start_unless a restart caller (started i) turn)))
      ∙ (λ i. cond (not (apart i) && may i)
      (reply caller outcome.Done (record turn { state = record turn.state { start_p_false = (a, restart) ∷ turn.state.start_p_false } }))
      (asked_for (cond (apart i) (control a (message.StartRequest a) turn) (spawned a Normal (runs i) turn))))

  pub begins : controlled_by c own n (message.Start a restart caller) v ≡ (record v { controller = beginning }, begin_out)
  unfolding controlled_by received
  begins =
      (λ i.
      let t : TurnView = cond (stays i) turn (handled (message.Start a restart caller) turn) in
      (record v { controller = t.state }, t.out))
      ∙ ap (λ (t : TurnView). (record v { controller = t.state }, t.out)) begin_so

  -- ---- and answers

  -- the node, where its start was seen
  abbrev pub seen_node : LiveView
  seen_node = with_kind a Normal (record v { controller = beginning })

  abbrev then : TurnView
  then = controller_turn c own n seen_node

  abbrev pub over : ControllerView
  over = record beginning {
    running = keystore a Here beginning.running;
    started = keystore a (Some restart) beginning.started;
    starting = keydelete a beginning.starting;
    start_req = without_rows a beginning.start_req;
  }

  abbrev pub end_out : List Output
  end_out = output.Send (well_answered n v caller) ∷ []

  replies_so : reply_each a outcome.Done beginning.start_req then ≡ reply caller outcome.Done then
  replies_so =
      ap (λ (b : Bool). reply_each a outcome.Done v.controller.start_req (cond b (reply caller outcome.Done then) then))
      (eq-eqb a.0 a.0 refl)
      ∙ none_asked a outcome.Done v.controller.start_req (reply caller outcome.Done then) unasked

  abbrev replied : TurnView
  replied = with_requests (without_rows a beginning.start_req) (reply caller outcome.Done then)

  end_so : has_started a Here None then ≡ record then { state = over; out = end_out }
  unfolding has_started reply_to_requester
  end_so =
      ap (λ (t : TurnView).
      let told : TurnView = with_requests (without_rows a beginning.start_req) t in
      started_by a Here None (keyfind a told.state.starting) told) replies_so
      ∙ ap (λ (o : Option Starting). started_by a Here None o replied) (found_first a row v.controller.starting)
      ∙ ap (λ (b : Bool). set_running a Here (Some restart)
      (cond b (send (process_at then.here role.DistAc) (message.Run a None) (end_starting a replied)) (end_starting a replied))) apart

  pub ends : controlled_by c own n (message.ApplicationStarted a None) seen_node ≡ (record seen_node { controller = over }, end_out)
  unfolding controlled_by received
  ends =
      (λ i.
      let t : TurnView = cond (stays i) then (handled (message.ApplicationStarted a None) then) in
      (record seen_node { controller = t.state }, t.out))
      ∙ ap (λ (t : TurnView). (record seen_node { controller = t.state }, t.out)) end_so

  -- it runs there then
  pub is_running : is_here (keyfind a over.running) ≡ true
  is_running =
      ap (λ (b : Bool). is_here (keyfind a (cond b (keyreplace a Here v.controller.running) ((a, Here) ∷ v.controller.running)))) off
      ∙ ap is_here (found_first a Here v.controller.running)
