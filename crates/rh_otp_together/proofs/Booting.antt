-- What a controller and a boot script do, carried out.
use Rattle.std.proofs.Common.{◌≡◌, ◌+◌, ◌-◌, ◌^◌, ◌++◌, min, Bool, true, false, cond, List, [], ◌∷◌, Option, Some, None, sym, ap, ◌∙◌}
use Rattle.std.specs.Prelude.{All}
use Rattle.std.specs.Option.{option_and_then}
use Rattle.std.proofs.lemmas.List.{append-nil}
use Rattle.rh_model.specs.declared.node.App.{App}
use Rattle.rh_model.specs.declared.node.Node.{Node}
use Rattle.rh_model.specs.declared.settings.Restart.{Restart}
use Rattle.rh_otp_model.specs.declared.message.Message.{Message}
use Rattle.rh_otp_model.specs.declared.output.Envelope.{Envelope}
use Rattle.rh_otp_model.specs.declared.output.Event.{Event}
use Rattle.rh_otp_model.specs.declared.output.Event.TheVariants as event
use Rattle.rh_otp_model.specs.declared.process.Here.{Here}
use Rattle.rh_otp_controller.specs.Changes.{received as heard_by}
use Rattle.rh_otp_controller.specs.State.{TurnView}
use Rattle.rh_otp_node.specs.Boot.{entry_at, is_end, with_next}
use Rattle.rh_otp_node.specs.Live.{LiveView, here_of}
use Rattle.rh_otp_node.specs.Turns.{controlled_by, controller_turn}
use Rattle.rh_otp_system.specs.Delivering.{controlled}
use Rattle.rh_otp_system.specs.Joining.{boot_next, counted, start_entry, is_boot_end, is_end_of}
use Rattle.rh_otp_system.specs.Sending.{told}
use Rattle.rh_otp_system.specs.State.{SystemView, live_at, node_at, with_node, own_at}
use Rattle.rh_otp_system.specs.Working.{behind}
use Rattle.rh_otp_crashes.proofs.Carrying.{letters}
use Rattle.rh_otp_crashes.proofs.Turning.{node_is}
use Rattle.rh_otp_stops.proofs.Saying.{sights}
use Rattle.rh_otp_starts.proofs.Turns.{IsSaid}
use Rattle.rh_otp_scripts.proofs.Speaking.{kinds_behind, carries}
use Rattle.rh_otp_scripts.proofs.Words.{its_start}

-- ---- a turn of the controller

pub controls_so : (m : Node) (x : Message) (s : SystemView) (v : LiveView) (u : TurnView) → live_at s m ≡ Some v
    → heard_by x (controller_turn s.cluster (own_at s m) m v) ≡ u → All (IsSaid m) u.out
    → controlled m x s
    ≡ record (with_node m (record v { controller = u.state; kinds = kinds_behind u.out v.kinds }) s) {
      messages = s.messages ++ letters u.out;
      events = s.events ++ sights u.out;
    }
unfolding controlled_by
controls_so m x s v u there is said =
    ap (λ (w : LiveView). behind m (controlled_by s.cluster (own_at s m) m x w) s) (node_is s m v there)
    ∙ ap (λ (t : TurnView). behind m (record v { controller = t.state }, t.out) s) is
    ∙ carries m u.out s v (record v { controller = u.state }) there said

-- ---- the boot script goes on

-- the next start is asked for
abbrev pub asked_for : Here → Option (App × Restart) → List Envelope
asked_for h None = []
asked_for h (Some entry) = its_start h entry.0 entry.1 ∷ []

-- or the script is at its end
abbrev pub ended_at : Node → Bool → Option (App × Restart) → List Event
ended_at m ends (Some entry) = []
ended_at m ends None = cond ends (event.Booted m ∷ []) []

begins : (m : Node) (h : Here) (ends : Bool) (entry : Option (App × Restart)) (q : SystemView) → here_of m (node_at q m) ≡ h
    → is_boot_end m q ≡ ends
    → start_entry m entry q ≡ record q { messages = q.messages ++ asked_for h entry; events = q.events ++ ended_at m ends entry }
unfolding told
begins m h ends (Some entry) q is at_end =
    λ i. record q { messages = q.messages ++ its_start (is i) entry.0 entry.1 ∷ []; events = sym (append-nil q.events) i }
begins m h ends None q is at_end = ap (λ (c : Bool). cond c (told (event.Booted m) q) q) at_end ∙ by ends
  where
    by : (c : Bool) → cond c (told (event.Booted m) q) q ≡ record q { messages = q.messages ++ []; events = q.events ++ ended_at m c None }
    by true = λ i. record q { messages = sym (append-nil q.messages) i; events = q.events ++ event.Booted m ∷ [] }
    by false = λ i. record q { messages = sym (append-nil q.messages) i; events = sym (append-nil q.events) i }

pub boots_on : (m : Node) (s : SystemView) (v : LiveView) → live_at s m ≡ Some v
    → boot_next m None s
    ≡ record (with_node m (record v { place = min (v.place + 1) (2 ^ 64 - 1) }) s) {
      messages = s.messages ++ asked_for (here_of m v) (entry_at s.cluster m v.place);
      events = s.events ++ ended_at m (is_end s.cluster m v.place) (entry_at s.cluster m v.place);
    }
unfolding boot_next
boots_on m s v there =
    let here : node_at s m ≡ v = node_is s m v there in
    let coming : Option (App × Restart) = entry_at s.cluster m v.place in
    let ends : Bool = is_end s.cluster m v.place in
    let q : SystemView = record s {
      messages = s.messages ++ asked_for (here_of m v) coming;
      events =
          s.events ++ ended_at m ends coming;
    } in
    ap (λ (o : Option LiveView). counted m (start_entry m (option_and_then (λ (w : LiveView). entry_at s.cluster m w.place) o) s)) there
    ∙ ap (counted m)
    (begins m (here_of m v) ends coming s (ap (here_of m) here) (ap (λ (o : Option LiveView). is_end_of m o s) there))
    ∙ ap (λ (w : LiveView). with_node m (with_next w) q) here
