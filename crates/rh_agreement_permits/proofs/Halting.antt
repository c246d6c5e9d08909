-- What a controller does where its dist_ac tells it to stop an application that runs there: an observer sees the stop, and dist_ac is told.
use Rattle.std.proofs.Common.{◌≡◌, Bool, true, false, cond, [], ◌∷◌, Some, ap, ◌∙◌}
use Rattle.rh_model.specs.ClusterView.{ClusterView}
use Rattle.rh_model.specs.declared.node.App.{App}
use Rattle.rh_model.specs.declared.node.Node.{Node}
use Rattle.rh_otp_controller.specs.declared.state.Place.TheVariants as place_of
use Rattle.rh_otp_controller.specs.Changes.{change, changed, change_running, change_idle, handled, received}
use Rattle.rh_otp_controller.specs.Sending.{send}
use Rattle.rh_otp_controller.specs.State.{ControllerView, TurnView}
use Rattle.rh_otp_model.specs.declared.message.Change.TheVariants as change_of
use Rattle.rh_otp_model.specs.declared.message.Message.TheVariants as message
use Rattle.rh_otp_model.specs.declared.output.Envelope.{Envelope}
use Rattle.rh_otp_model.specs.declared.output.Event.TheVariants as event
use Rattle.rh_otp_model.specs.declared.output.Output.{Output}
use Rattle.rh_otp_model.specs.declared.output.Output.TheVariants as output
use Rattle.rh_otp_model.specs.declared.process.Role.TheVariants as role
use Rattle.rh_otp_model.specs.Own.{OwnView, controls}
use Rattle.rh_otp_model.specs.Processes.{process_at}
use Rattle.rh_otp_model.specs.Rows.{keyfind, keyreplace, has_row}
use Rattle.rh_otp_node.specs.Live.{LiveView, here_of}
use Rattle.rh_otp_node.specs.Turns.{controller_turn, controlled_by}

module _ (c : ClusterView) (own : OwnView) (n : Node) (a : App) (v : LiveView) (controlled : controls own a ≡ true)
    (stays : v.controller.is_ending ≡ false) (runs : keyfind a v.controller.running ≡ Some place_of.Here)
    (started : has_row a v.controller.started ≡ true) where
  abbrev pub halting : ControllerView
  halting = record v.controller { running = keyreplace a place_of.Nowhere v.controller.running }

  abbrev pub stopped_node : LiveView
  stopped_node = record v { controller = halting }

  abbrev shows : Output
  shows = output.Tell (event.Stopped a n)

  abbrev pub report : Envelope
  report = record {
    from = process_at (here_of n v) role.Controller;
    to = process_at (here_of n v) role.DistAc;
    message = message.NotRun a;
  }

  abbrev turn : TurnView
  turn = controller_turn c own n v

  abbrev shown : TurnView
  shown = record turn { out = shows ∷ [] }

  abbrev reporting : Bool → TurnView
  reporting b = cond b (send (process_at turn.here role.DistAc) (message.NotRun a) shown) shown

  change_so : change a change_of.StopIt turn ≡ record turn { state = halting; out = shows ∷ output.Send report ∷ [] }
  unfolding change
  change_so =
      (λ i. changed a change_of.StopIt (runs i) turn)
      ∙ (λ i. cond (started i) (change_running a change_of.StopIt place_of.Here turn) (change_idle a change_of.StopIt turn))
      ∙ (λ i. record (reporting (controlled i)) {
        state = record (reporting (controlled i)).state {
          running = keyreplace a place_of.Nowhere (reporting (controlled i)).state.running;
        };
      })

  pub halts : controlled_by c own n (message.Change a change_of.StopIt) v ≡ (stopped_node, shows ∷ output.Send report ∷ [])
  unfolding controlled_by received
  halts =
      (λ i.
      let t : TurnView = cond (stays i) turn (handled (message.Change a change_of.StopIt) turn) in
      (record v { controller = t.state }, t.out))
      ∙ ap (λ (t : TurnView). (record v { controller = t.state }, t.out)) change_so
