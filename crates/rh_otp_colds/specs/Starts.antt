-- What the last boot of a cold start comes to, in whatever order messages arrive, and what an observer is told of it.
use Rattle.std.specs.Prelude.{◌≡◌, ◌≤◌, ◌==◌, ◌++◌, ℕ, [], ◌∷◌, List, map, filter, All, Bool, true, false, None, Some, if◌then◌else◌}
use Rattle.rh_model.specs.ClusterView.{boot_of}
use Rattle.rh_model.specs.declared.node.App.{App}
use Rattle.rh_model.specs.declared.node.Node.{Node}
use Rattle.rh_model.specs.declared.settings.Restart.{Restart}
use Rattle.rh_otp_model.specs.declared.output.Event.{Event}
use Rattle.rh_otp_model.specs.declared.output.Event.TheVariants as event
use Rattle.rh_otp_model.specs.declared.process.StartType.TheVariants.{Normal}
use Rattle.rh_otp_model.specs.Rows.{keyfind, has_row}
use Rattle.rh_otp_node.specs.declared.node.Phase.TheVariants as phase
use Rattle.rh_otp_system.specs.Doing.{booted}
use Rattle.rh_otp_system.specs.Moves.{Reaches, IsSettled}
use Rattle.rh_otp_system.specs.State.{SystemView, node_at, own_at}
use Rattle.rh_otp_laws.specs.Acting.{IsThere, IsReached}
use Rattle.rh_otp_orders.specs.Confluence.{Moves}
use Rattle.rh_otp_orders.specs.Orders.{SameOfEach, of_owner, node_told, node_of_timer}
use Rattle.rh_otp_crashes.specs.Crashes.{AreAtRest}
use Rattle.rh_otp_joins.specs.Joins.{uncounted}
use Rattle.rh_otp_together.specs.Booted.{runs_here, place_there}
use Rattle.rh_otp_colds.specs.Colds.{is_there, IsColdStart}
use Rattle.rh_otp_colds.specs.Wholes.{CanStartTogether, IsLeft}

-- What an observer is told of a node: it comes up, starts what starts there, in the order of its boot list, and has booted (ours: in the
-- words of a rehearsal on real nodes).
abbrev pub told_of : SystemView → (App → Node) → Node → List Event
told_of s at m = event.Up m ∷ (map (λ (row : App × Restart). event.Started row.0 m Normal)
    (filter (λ (row : App × Restart). runs_here s at m row.0) (boot_of s.cluster m)) ++ event.Booted m ∷ [])

-- The node is up, in the same life as once the boot had begun. Of each entry of its boot list its controller knows where it runs, and has
-- it as started; and an observer was told that, behind what it was told before.
pub record HasComeUp (at : App → Node) (m : Node) (b t : SystemView) : Type 0 where
  pub phase : (node_at t m).phase ≡ phase.Up
  pub life : (node_at t m).life ≡ (node_at b m).life
  pub runs : All (λ (row : App × Restart). keyfind row.0 (node_at t m).controller.running ≡ Some (place_there b at m row.0))
      (boot_of b.cluster m)
  pub started : All (λ (row : App × Restart). has_row row.0 (node_at t m).controller.started ≡ true) (boot_of b.cluster m)
  pub told : of_owner node_told (Some m) t.events ≡ of_owner node_told (Some m) b.events ++ told_of b at m

-- Each node that there is has come up so, and nothing else was told. Nothing can move, no call is open, and no dist_ac of a node that is
-- alive stands in the middle of something; nobody has a lock. The timers of each node are as once the boot had begun, and so is all else
-- but nodes, what was told, and how often nodes have answered one another.
pub record HaveComeUp (at : App → Node) (b t : SystemView) : Type 0 where
  pub each : (m : Node) → IsThere m b → HasComeUp at m b t
  pub strangers : (m : Node) → is_there b m ≡ false → of_owner node_told (Some m) t.events ≡ of_owner node_told (Some m) b.events
  pub nobody : of_owner node_told None t.events ≡ of_owner node_told None b.events
  pub rest : AreAtRest t
  pub same : t ≡ record b {
    nodes = t.nodes;
    messages = [];
    slow = [];
    locks = [];
    timers = t.timers;
    events = t.events;
    answers = t.answers;
  }
  pub timers : SameOfEach node_of_timer t.timers b.timers

-- So it is wherever the last boot of a cold start, of nodes that can start together, comes to rest (init(3), application(3), kernel(6),
-- `distributed`).
abbrev pub LastBootsComeUp : Type 0
LastBootsComeUp = (s : SystemView) (n : Node) → IsReached s → IsColdStart s → (can : CanStartTogether s) → IsLeft n s
    → (t : SystemView) → Reaches (uncounted (booted n s)) t → IsSettled t → HaveComeUp can.at (uncounted (booted n s)) t

-- And it does come to rest: by some order behind so many moves, and by no order are there more.
abbrev pub LastBootsComeToRest : Type 0
LastBootsComeToRest = (s : SystemView) (n : Node) → IsReached s → IsColdStart s → CanStartTogether s → IsLeft n s
    → (k : ℕ) × (t : SystemView) × Moves k (uncounted (booted n s)) t × IsSettled t
    × ((j : ℕ) (u : SystemView) → Moves j (uncounted (booted n s)) u → j ≤ k)
