-- Where a permission of a distributed application begins: the call asks its controller, which answers whether it is started, takes the lock
-- of the nodes that it sees, and asks dist_ac.
use Rattle.std.proofs.Common.{◌≡◌, Bool, true, false, cond, [], ◌∷◌, Some, refl, ap, ◌∙◌}
use Rattle.rh_model.specs.declared.node.App.{App}
use Rattle.rh_model.specs.declared.node.Node.{Node}
use Rattle.rh_otp_controller.specs.Calls.{permit, permit_distributed, permit_idle, update_permissions, stop_running}
use Rattle.rh_otp_controller.specs.Changes.{handled, received}
use Rattle.rh_otp_controller.specs.Sending.{reply}
use Rattle.rh_otp_controller.specs.State.{ControllerView, TurnView}
use Rattle.rh_otp_model.specs.declared.fault.Outcome.TheVariants as outcome
use Rattle.rh_otp_model.specs.declared.message.Message.TheVariants as message
use Rattle.rh_otp_model.specs.declared.output.Envelope.{Envelope}
use Rattle.rh_otp_model.specs.declared.output.Output.TheVariants as output
use Rattle.rh_otp_model.specs.declared.process.Process.{Process}
use Rattle.rh_otp_model.specs.Own.{OwnView, controls}
use Rattle.rh_otp_model.specs.Rows.{keyfind, keystore, has_row}
use Rattle.rh_otp_node.specs.Live.{LiveView, here_of, is_alive}
use Rattle.rh_otp_node.specs.Turns.{controller_turn, controlled_by}
use Rattle.rh_otp_sim.specs.Sim.{LiveSimView}
use Rattle.rh_otp_system.specs.declared.calls.Ask.TheVariants as ask
use Rattle.rh_otp_system.specs.declared.calls.Call.{Call}
use Rattle.rh_otp_system.specs.declared.calls.Stage.TheVariants as stage
use Rattle.rh_otp_system.specs.Calling.{is_known, is_only_loaded, is_synchronised_at, is_synchronised_in}
use Rattle.rh_otp_system.specs.Calls.{process_of}
use Rattle.rh_otp_system.specs.Resting.{forgotten}
use Rattle.rh_otp_system.specs.State.{SystemView, live_at, node_at, own_at, with_node, is_alive_at}
use Rattle.rh_otp_system.specs.Working.{around, alive_of, behind}
use Rattle.rh_otp_net.specs.Locks.{taken as locked}
use Rattle.rh_otp_model.specs.declared.output.Requester.TheVariants.{Alone}
use Rattle.rh_otp_laws.proofs.Nodes.{node_written}
use Rattle.rh_otp_crashes.proofs.Peace.{arrives_alive}
use Rattle.rh_otp_stops.proofs.Saying.{its_answer}
use Rattle.rh_otp_stops.proofs.Stopping.{there_is}
use Rattle.rh_otp_permits.specs.Permits.{is_begun}
use Rattle.rh_otp_permits.proofs.Asking.{first_answer, told_call, its_permit, goes_on}
use Rattle.rh_agreement.specs.Resting.{held}
use Rattle.rh_agreement_calls.proofs.Moving.{call_at, request_of, calling, with_one, taken}

known_so : (begun : Bool) → is_known (first_answer begun) ≡ true
known_so true = refl
known_so false = refl

module _ (l : LiveSimView) (n : Node) (a : App) (allow : Bool) (alive : is_alive_at (held l) n ≡ true)
    (controlled : controls (own_at (held l) n) a ≡ true) (stays : (node_at (held l) n).controller.is_ending ≡ false)
    (synchronised : is_synchronised_at n (held l) ≡ true) (nobody_locks : (held l).locks ≡ []) where
  abbrev pub base : SystemView
  base = record (held l) { ends_soon = false }

  abbrev own : OwnView
  own = own_at (held l) n

  abbrev pub v : LiveView
  v = node_at (held l) n

  abbrev pub c : Call
  c = call_at base (ask.Permit allow) n a

  abbrev caller : Process
  caller = process_of c

  abbrev pub first : SystemView
  first = calling base c

  pub there : live_at base n ≡ Some v
  there = there_is base n alive

  -- ---- its controller answers

  abbrev turn : TurnView
  turn = controller_turn l.cluster own n v

  -- is the application started, as the controller knows?
  abbrev begun : Bool
  begun = is_begun a v.controller

  abbrev pub kept : ControllerView
  kept = record v.controller { permissions = keystore a allow v.controller.permissions }

  abbrev pub asked_node : LiveView
  asked_node = record v { controller = kept }

  abbrev pub answer : Envelope
  answer = its_answer (here_of n v) c (first_answer begun)

  -- of one that dist_ac doesn't control
  abbrev otherwise : TurnView
  otherwise =
      cond (has_row a v.controller.running) (reply caller outcome.Done (cond allow turn (stop_running a turn)))
      (permit_idle a allow caller (keyfind a v.controller.started) (update_permissions a allow turn))

  permit_so : permit a allow caller turn ≡ record turn { state = kept; out = output.Send answer ∷ [] }
  unfolding permit
  permit_so = ap (λ (b : Bool). cond b (permit_distributed a allow caller turn) otherwise) controlled

  answers : controlled_by l.cluster own n (message.Permit a allow caller) v ≡ (asked_node, output.Send answer ∷ [])
  unfolding controlled_by received
  answers =
      (λ i.
      let t : TurnView = cond (stays i) turn (handled (message.Permit a allow caller) turn) in
      (record v { controller = t.state }, t.out))
      ∙ ap (λ (t : TurnView). (record v { controller = t.state }, t.out)) permit_so

  abbrev pub spoken : SystemView
  spoken = with_node n asked_node first

  pub asks_so : taken (request_of c) first ≡ with_one answer spoken
  unfolding forgotten
  asks_so =
      arrives_alive (request_of c).to (request_of c).message (record first { messages = [] }) alive refl
      ∙ ap (λ done. behind n done (record first { messages = [] })) answers

  -- ---- and the call goes on

  node_spoken : node_at spoken n ≡ asked_node
  node_spoken = node_written first n v asked_node there

  -- was the application started there at all?
  abbrev pub only : Bool
  only = is_only_loaded (first_answer begun)

  abbrev pub told : Call
  told = told_call allow only c

  abbrev pub permit_message : Envelope
  permit_message = its_permit allow only c

  -- dist_ac is asked, with the lock
  abbrev pub asked : SystemView
  asked = record spoken {
    calls = record told { stage = stage.DistAc } ∷ [];
    locks = locked (Alone caller) caller (alive_of spoken (around spoken n)) [];
  }

  pub goes_so : taken answer spoken ≡ with_one permit_message asked
  unfolding forgotten
  goes_so =
      goes_on c allow (first_answer begun) (record spoken { messages = [] }) (known_so begun) refl nobody_locks refl
      (ap is_alive node_spoken ∙ alive) (ap (λ (w : LiveView). w.life) node_spoken)
      (ap (λ (w : LiveView). is_synchronised_in w.dist) node_spoken ∙ synchronised)

  pub node_asked : node_at asked n ≡ asked_node
  node_asked = node_spoken

  pub there_asked : live_at asked n ≡ Some asked_node
  there_asked = there_is asked n (ap is_alive node_asked ∙ alive) ∙ ap Some node_asked
