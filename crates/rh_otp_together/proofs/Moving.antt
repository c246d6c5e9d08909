-- A message comes to a controller or a boot script of those that run at once.
use Rattle.std.proofs.Common.{◌≡◌, ◌≤◌, ◌++◌, ℕ, List, map, Some, sym, ap, ◌∙◌}
use Rattle.std.specs.Prelude.{All}
use Rattle.std.proofs.lemmas.List.{map-append}
use Rattle.rh_model.specs.declared.node.Node.{Node}
use Rattle.rh_otp_model.specs.declared.message.Message.{Message}
use Rattle.rh_otp_model.specs.declared.output.Envelope.{Envelope}
use Rattle.rh_otp_model.specs.declared.output.Event.{Event}
use Rattle.rh_otp_model.specs.declared.process.Role.{Role}
use Rattle.rh_otp_model.specs.declared.process.Role.TheVariants as role
use Rattle.rh_otp_model.specs.Processes.{process_at}
use Rattle.rh_otp_controller.specs.Changes.{received as heard_by}
use Rattle.rh_otp_controller.specs.State.{TurnView}
use Rattle.rh_otp_node.specs.Live.{LiveView, is_alive}
use Rattle.rh_otp_node.specs.Turns.{controller_turn}
use Rattle.rh_otp_system.specs.declared.slow.Slow.{Slow}
use Rattle.rh_otp_system.specs.declared.slow.Slow.TheVariants as slow
use Rattle.rh_otp_system.specs.Delivering.{arrived, received}
use Rattle.rh_otp_system.specs.State.{SystemView, live_at, node_at, with_node, own_at}
use Rattle.rh_otp_crashes.proofs.Carrying.{letters}
use Rattle.rh_otp_crashes.proofs.Peace.{without, arrives_alive}
use Rattle.rh_otp_crashes.proofs.Turning.{node_is}
use Rattle.rh_otp_stops.proofs.Saying.{sights}
use Rattle.rh_otp_starts.proofs.Turns.{IsSaid}
use Rattle.rh_otp_scripts.proofs.Controlling.{turn_with}
use Rattle.rh_otp_scripts.proofs.Speaking.{kinds_behind}
use Rattle.rh_otp_joins.proofs.Lists.{count_of}
use Rattle.rh_otp_together.specs.Together.{BootTogether}
use Rattle.rh_otp_together.proofs.Booting.{controls_so}
use Rattle.rh_otp_together.proofs.Forms.{Far, live, h, Token, letter}
use Rattle.rh_otp_together.proofs.Needs.{up_of}
use Rattle.rh_otp_together.proofs.Plain.{live_there}
use Rattle.rh_otp_together.proofs.Stages.{Stage}

module _ {b : SystemView} (g : BootTogether b) {left : ℕ} {u : SystemView} (f : Stage b g.at left u) (m : Node) (old : Far)
    (alive : 1 ≤ count_of m b.alive) (was : f.far m ≡ old) (messages : List Envelope) where
  abbrev pub s : SystemView
  s = without u messages

  abbrev pub v : LiveView
  v = live b g.at m old

  pub there_now : live_at s m ≡ Some v
  there_now = live_there f m old alive was

  -- a process of the node is there still
  pub comes_to : (r : Role) (x : Message)
      → arrived (process_at (h b g.at m) r) x s ≡ received (process_at (h b g.at m) r) x s
  comes_to r x =
      let here : node_at s m ≡ v = node_is s m v there_now in
      arrives_alive (process_at (h b g.at m) r) x s (ap is_alive here ∙ up_of g m alive) (ap (λ (w : LiveView). w.life) here)

  -- what the whole system is like then
  abbrev pub behind : LiveView → List Token → List Slow → List Event → SystemView
  behind w tokens slows seen = record (with_node m w u) {
    messages = map (letter b g.at) tokens;
    slow = slows;
    events = u.events ++ seen;
  }

  slow_so : u.slow ≡ map slow.Boot f.waiting
  slow_so = ap (λ (x : SystemView). x.slow) f.same

  pub written : (w : LiveView) (rest more : List Token) (seen : List Event) → messages ≡ map (letter b g.at) rest
      → record (with_node m w s) { messages = messages ++ map (letter b g.at) more; events = u.events ++ seen }
      ≡ behind w (rest ++ more) (map slow.Boot f.waiting) seen
  written w rest more seen left_so = λ i. record (with_node m w u) {
    messages = (ap (λ (l : List Envelope). l ++ map (letter b g.at) more) left_so ∙ sym (map-append (letter b g.at) rest more)) i;
    slow = slow_so i;
    events = u.events ++ seen;
  }

  -- its controller takes its turn
  pub controls : (x : Message) (over : TurnView) (w : LiveView) (rest more : List Token) (seen : List Event)
      → heard_by x (turn_with b.cluster (own_at b m) (h b g.at m) v.controller) ≡ over → All (IsSaid m) over.out
      → record v { controller = over.state; kinds = kinds_behind over.out v.kinds } ≡ w
      → letters over.out ≡ map (letter b g.at) more → sights over.out ≡ seen → messages ≡ map (letter b g.at) rest
      → arrived (process_at (h b g.at m) role.Controller) x s ≡ behind w (rest ++ more) (map slow.Boot f.waiting) seen
  controls x over w rest more seen is said lives sent told left_so =
      comes_to role.Controller x
      ∙ controls_so m x s v over there_now
      ((λ i. heard_by x (controller_turn (f.same i).cluster (own_at (f.same i) m) m v)) ∙ is) said
      ∙ (λ i. record (with_node m (lives i) s) { messages = messages ++ sent i; events = u.events ++ told i })
      ∙ written w rest more seen left_so
