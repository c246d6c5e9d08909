-- What a controller does where an application that runs there, and that no dist_ac controls, is stopped, forbidden, or ends by itself.
use Rattle.std.proofs.Common.{◌≡◌, ◌++◌, ◌||◌, Bool, true, false, cond, List, [], ◌∷◌, is_some, Option, Some, None, refl, ap, ◌∙◌}
use Rattle.std.proofs.lemmas.Bool.{false≢true}
use Rattle.rh_model.specs.ClusterView.{ClusterView}
use Rattle.rh_model.specs.declared.node.App.{App}
use Rattle.rh_model.specs.declared.node.Node.{Node}
use Rattle.rh_otp_controller.specs.declared.state.Place.{Place}
use Rattle.rh_otp_controller.specs.declared.state.Place.TheVariants.{Here, At, Nowhere}
use Rattle.rh_otp_controller.specs.Calls.{is_here, ends_with, stop, permit, permit_distributed, permit_idle, update_permissions, top_ends}
use Rattle.rh_otp_controller.specs.Changes.{handled, received}
use Rattle.rh_otp_controller.specs.Sending.{send, reply, stop_appl}
use Rattle.rh_otp_controller.specs.State.{ControllerView, TurnView}
use Rattle.rh_otp_model.specs.declared.fault.Fault.TheVariants as fault
use Rattle.rh_otp_model.specs.declared.fault.Outcome.TheVariants as outcome
use Rattle.rh_otp_model.specs.declared.message.Message.{Message}
use Rattle.rh_otp_model.specs.declared.message.Message.TheVariants as message
use Rattle.rh_otp_model.specs.declared.output.Envelope.{Envelope}
use Rattle.rh_otp_model.specs.declared.output.Event.{Event}
use Rattle.rh_otp_model.specs.declared.output.Event.TheVariants as event
use Rattle.rh_otp_model.specs.declared.output.Output.{Output}
use Rattle.rh_otp_model.specs.declared.output.Output.TheVariants as output
use Rattle.rh_otp_model.specs.declared.process.Process.{Process}
use Rattle.rh_otp_model.specs.declared.process.Role.TheVariants as role
use Rattle.rh_otp_model.specs.Own.{OwnView, controls}
use Rattle.rh_otp_model.specs.Processes.{process_at}
use Rattle.rh_otp_model.specs.Rows.{keyfind, keydelete, has_row, without}
use Rattle.rh_otp_node.specs.Live.{LiveView, here_of}
use Rattle.rh_otp_node.specs.Turns.{controller_turn, controlled_by}
use Rattle.rh_otp_system.specs.Outputs.{all_carried_out}
use Rattle.rh_otp_system.specs.Sending.{told}
use Rattle.rh_otp_system.specs.State.{SystemView}

-- who has been answered that all is well
abbrev pub well_answered : Node → LiveView → Process → Envelope
well_answered n v caller = record { from = process_at (here_of n v) role.Controller; to = caller; message = message.Answer outcome.Done }

pub place_here : (o : Option Place) → is_here o ≡ true → o ≡ Some Here
place_here (Some Here) is = refl
place_here (Some (At n)) is = absurd (false≢true is)
place_here (Some Nowhere) is = absurd (false≢true is)
place_here None is = absurd (false≢true is)

-- At a message the controller answers the caller that all is well, an observer sees this, and the node isn't on its way to its end.
pub record Answers (c : ClusterView) (own : OwnView) (n : Node) (caller : Process) (v : LiveView) (m : Message) (seen : Event)
    : Type 0 where
  pub next : ControllerView
  pub out : List Output
  pub comes : controlled_by c own n m v ≡ (record v { controller = next }, out)
  pub stays : next.is_ending ≡ false
  pub does : (s : SystemView) → all_carried_out n out s
      ≡ record s { messages = s.messages ++ well_answered n v caller ∷ []; events = s.events ++ seen ∷ [] }

module _ (c : ClusterView) (own : OwnView) (n : Node) (a : App) (caller : Process) (v : LiveView) (apart : controls own a ≡ false)
    (runs : is_here (keyfind a v.controller.running) ≡ true) (stays : v.controller.is_ending ≡ false) where
  abbrev turn : TurnView
  turn = controller_turn c own n v

  abbrev pub left : ControllerView
  left = record v.controller { running = keydelete a v.controller.running }

  abbrev stops : Event
  stops = event.Stopped a n

  abbrev answer : Output
  answer = output.Send (well_answered n v caller)

  -- the turn ends so
  abbrev behind : ControllerView → List Output → TurnView
  behind k out = record turn { state = k; out = out }

  here : keyfind a v.controller.running ≡ Some Here
  here = place_here (keyfind a v.controller.running) runs

  -- it handles what comes
  handles : (m : Message) → controlled_by c own n m v ≡ (record v { controller = (handled m turn).state }, (handled m turn).out)
  unfolding controlled_by received
  handles m = λ i.
      let t : TurnView = cond (stays i) turn (handled m turn) in
      (record v { controller = t.state }, t.out)

  tell_and_answer : (s : SystemView) → all_carried_out n (output.Tell stops ∷ answer ∷ []) s
      ≡ record s { messages = s.messages ++ well_answered n v caller ∷ []; events = s.events ++ stops ∷ [] }
  unfolding told
  tell_and_answer s = refl

  answer_and_tell : (s : SystemView) → all_carried_out n (answer ∷ output.Tell stops ∷ []) s
      ≡ record s { messages = s.messages ++ well_answered n v caller ∷ []; events = s.events ++ stops ∷ [] }
  unfolding told
  answer_and_tell s = refl

  -- ---- a stop

  -- it runs no more
  abbrev without_it : Option Place → TurnView
  without_it place =
      let first : TurnView = stop_appl a place turn in
      record first { state = record first.state { running = keydelete a first.state.running } }

  abbrev not_started : Option Place → TurnView
  not_started place = record (without_it place) {
    state = record (without_it place).state { started = keydelete a (without_it place).state.started };
  }

  abbrev stop_left : ControllerView
  stop_left = record left { started = keydelete a v.controller.started }

  stop_so : stop a caller turn ≡ behind stop_left (output.Tell stops ∷ answer ∷ [])
  unfolding stop
  stop_so =
      (λ i. cond (is_some (here i) || has_row a v.controller.started)
      (reply caller outcome.Done (cond (controls (not_started (here i)).own a)
      (send (process_at (not_started (here i)).here role.DistAc) (message.Stopped a) (not_started (here i))) (not_started (here i))))
      (reply caller (outcome.Failed (fault.NotStarted a)) turn))
      ∙ ap (λ (b : Bool). reply caller outcome.Done (cond b
      (send (process_at turn.here role.DistAc) (message.Stopped a) (not_started (Some Here))) (not_started (Some Here)))) apart

  pub stop_answers : Answers c own n caller v (message.Stop a caller) stops
  stop_answers = record {
    next = stop_left;
    out = output.Tell stops ∷ answer ∷ [];
    comes = handles (message.Stop a caller) ∙ ap (λ (t : TurnView). (record v { controller = t.state }, t.out)) stop_so;
    stays = stays;
    does = tell_and_answer;
  }

  -- ---- it is forbidden

  forbid_so : permit a false caller turn ≡ behind left (output.Tell stops ∷ answer ∷ [])
  unfolding permit
  forbid_so =
      (λ i. cond (apart i) (permit_distributed a false caller turn)
      (cond (is_some (here i)) (reply caller outcome.Done (without_it (here i)))
      (permit_idle a false caller (keyfind a v.controller.started) (update_permissions a false turn))))

  pub forbid_answers : Answers c own n caller v (message.Permit a false caller) stops
  forbid_answers = record {
    next = left;
    out = output.Tell stops ∷ answer ∷ [];
    comes = handles (message.Permit a false caller) ∙ ap (λ (t : TurnView). (record v { controller = t.state }, t.out)) forbid_so;
    stays = stays;
    does = tell_and_answer;
  }

  -- ---- it ends by itself

  module _ (normal : Bool) (keeps : ends_with (keyfind a v.controller.started) normal ≡ false) where
    abbrev exit_left : ControllerView
    exit_left = record left {
      ended = a ∷ without a v.controller.ended;
      is_ending = ends_with (keyfind a v.controller.started) normal;
    }

    abbrev gone : TurnView
    gone = behind (record left { ended = a ∷ without a v.controller.ended }) (answer ∷ output.Tell stops ∷ [])

    abbrev ends_or_not : TurnView → TurnView
    ends_or_not t = record t { state = record t.state { is_ending = ends_with (keyfind a t.state.started) normal } }

    exit_so : top_ends a normal caller turn ≡ behind exit_left (answer ∷ output.Tell stops ∷ [])
    unfolding top_ends
    exit_so =
        (λ i. cond (runs i) (ends_or_not (cond (apart i) (send (process_at turn.here role.DistAc) (message.Stopped a) gone) gone))
        (reply caller (outcome.Failed fault.NotRunning) turn))

    pub exit_answers : Answers c own n caller v (message.TopEnds a normal caller) stops
    exit_answers = record {
      next = exit_left;
      out = answer ∷ output.Tell stops ∷ [];
      comes = handles (message.TopEnds a normal caller) ∙ ap (λ (t : TurnView). (record v { controller = t.state }, t.out)) exit_so;
      stays = keeps;
      does = answer_and_tell;
    }
