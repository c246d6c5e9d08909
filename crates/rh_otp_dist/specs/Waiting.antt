-- What a dist_ac takes while it stands in the middle of something, and how it goes on (dist_ac.erl).
use Rattle.std.specs.Prelude.{ℕ, List, [], ◌∷◌, ◌++◌, ◌==◌, ◌&&◌, not, filter, slice_set, ◌+◌, Bool, true, false, Some, None}
use Rattle.rh_model.specs.ClusterView.{app_numbered}
use Rattle.rh_model.specs.declared.node.App.{App}
use Rattle.rh_model.specs.declared.node.Node.{Node}
use Rattle.rh_model.specs.declared.settings.Dep.{Dep}
use Rattle.rh_otp_model.specs.declared.fault.Fault.TheVariants.{FailedAt}
use Rattle.rh_otp_model.specs.declared.message.Message.{Message}
use Rattle.rh_otp_model.specs.declared.message.Message.TheVariants as message
use Rattle.rh_otp_model.specs.declared.message.Reply.TheVariants as reply
use Rattle.rh_otp_model.specs.declared.output.Requester.TheVariants.{Sync}
use Rattle.rh_otp_dist.specs.declared.attempt.AskedBy.{AskedBy}
use Rattle.rh_otp_dist.specs.declared.attempt.AskedBy.TheVariants as asked
use Rattle.rh_otp_dist.specs.declared.state.Stand.{Stand}
use Rattle.rh_otp_dist.specs.declared.state.Stand.TheVariants as stand
use Rattle.rh_otp_dist.specs.declared.state.Told.{Told}
use Rattle.rh_otp_dist.specs.State.{TurnView, with_state, standing_of, without_node}
use Rattle.rh_otp_dist.specs.Views.{AttemptView, IntroducingView, WeighingView}
use Rattle.rh_otp_dist.specs.Sending.{me, send_to, to_controller, monitor, demonitor, free_lock}
use Rattle.rh_otp_dist.specs.Attempts.{finish, runs_elsewhere}
use Rattle.rh_otp_dist.specs.Choosing.{cached_weight, wait, behind_place, weigh, start_distributed}

-- is it what the first of these nodes tells of itself, or that it is down?
abbrev pub is_introduction : List Node → Message → Bool
is_introduction (n ∷ nodes) (message.NewNode m allowed started) = m.0 == n.0
is_introduction (n ∷ nodes) (message.NodeDown m) = m.0 == n.0
is_introduction nodes m = false

-- is it the weight of the application that the first of these nodes tells, or that it is down?
abbrev pub is_weight : App → List Node → Message → Bool
is_weight a (n ∷ nodes) (message.Weight b weight m) = b.0 == a.0 && m.0 == n.0
is_weight a (n ∷ nodes) (message.NodeDown m) = m.0 == n.0
is_weight a nodes m = false

-- does it tell of the start at this node, or that the node is down? A weight that it tells is answered.
abbrev pub is_start_at : App → Node → Message → Bool
is_start_at a n (message.AppStarted m b error) = b.0 == a.0 && m.0 == n.0
is_start_at a n (message.Weight b weight m) = b.0 == a.0 && m.0 == n.0
is_start_at a n (message.NodeDown m) = m.0 == n.0
is_start_at a n m = false

-- does it tell of a start of the application, or that some node is down?
abbrev pub is_any_start : App → Message → Bool
is_any_start a (message.AppStarted m b error) = b.0 == a.0
is_any_start a (message.NodeDown m) = true
is_any_start a m = false

abbrev pub is_go : Message → Bool
is_go message.Go = true
is_go m = false

-- Does it take a message where it stands? All else stays in its mailbox.
abbrev pub takes : Stand → Message → Bool
takes stand.Idle m = true
takes stand.ForGo m = is_go m
takes (stand.ForLock nodes) m = false
takes (stand.ForIntroduction w) m = is_introduction w.nodes m
takes (stand.ForWeight w) m = is_weight w.attempt.app w.nodes m
takes (stand.ForStart attempt n) m = is_start_at attempt.app n m
takes (stand.ForAnyStart attempt) m = is_any_start attempt.app m

-- ---- sync_dacs/1

-- What it learns when all have introduced themselves; the lock of all that synchronise is free again.
abbrev pub synchronised : IntroducingView → TurnView → TurnView
synchronised w t = free_lock Sync (me t) (with_state (record t.state {
  stand = stand.Idle;
  is_synchronised = true;
  known = w.known;
  remote_started = w.remote_started;
}) t)

-- wait_dacs/4
abbrev pub wait_dacs : List Node → List Node → List (App × Node) → TurnView → TurnView
wait_dacs [] known remote t = synchronised (record { nodes = []; known = known; remote_started = remote }) t
wait_dacs (n ∷ nodes) known remote t =
    wait (stand.ForIntroduction (record { nodes = n ∷ nodes; known = known; remote_started = remote })) (monitor n t)

-- introduce_me/2: to these nodes, which it sees and which have a dist_ac
abbrev pub introduce : List Node → Message → TurnView → TurnView
introduce [] m t = t
introduce (n ∷ nodes) m t = introduce nodes m (send_to n m t)

-- the applications that are set, each with the node
abbrev pub rows_at : Node → ℕ → List Bool → List (App × Node)
rows_at n number [] = []
rows_at n number (true ∷ flags) = (app_numbered number, n) ∷ rows_at n (number + 1) flags
rows_at n number (false ∷ flags) = rows_at n (number + 1) flags

-- dist_merge/3
abbrev pub merge : Node → List Bool → TurnView → TurnView
merge n allowed t = with_state (record t.state { may = slice_set t.state.may n.0 allowed }) t

-- a node has told what it knows, or is down
abbrev pub introduced : IntroducingView → Node → List Node → Message → TurnView → TurnView
introduced w n nodes (message.NewNode m allowed started) t =
    wait_dacs nodes (n ∷ w.known) (w.remote_started ++ rows_at m 0 started) (merge m allowed t)
introduced w n nodes m t = wait_dacs nodes w.known w.remote_started t

abbrev pub introduced_by : IntroducingView → List Node → Message → TurnView → TurnView
introduced_by w [] m t = wait_dacs [] w.known w.remote_started t
introduced_by w (n ∷ nodes) m t = introduced w n nodes m (demonitor n t)

-- ---- starts

-- a node has told its weight, or is down
abbrev pub weighed : WeighingView → Node → List Node → Message → TurnView → TurnView
weighed w n nodes (message.Weight a weight m) t =
    weigh (behind_place t.own w.attempt w.candidates w.place) (record w { answers = w.answers ++ (weight, n) ∷ []; nodes = nodes }) t
weighed w n nodes m t = weigh (behind_place t.own w.attempt w.candidates w.place) (record w { nodes = nodes }) t

-- collect_answers/4
abbrev pub weighed_by : WeighingView → List Node → Message → TurnView → TurnView
weighed_by w [] m t = weigh (behind_place t.own w.attempt w.candidates w.place) w t
weighed_by w (n ∷ nodes) m t = weighed w n nodes m (demonitor n t)

-- ac_error/3
abbrev pub if_asked : AskedBy → App → Node → Dep → TurnView → TurnView
if_asked asked.Controller a n d t = to_controller (message.Reply a (reply.Error (FailedAt n d))) t
if_asked asked.Nobody a n d t = t

-- the start has failed at another node: who waits for the reply is told
abbrev pub fail_elsewhere : AttemptView → Node → Dep → TurnView → TurnView
fail_elsewhere attempt n d t =
    finish attempt (standing_of t.state attempt.app) false (if_asked attempt.asked_by attempt.app n d t)

-- without the weight that a node has told of the application
abbrev pub without_told_by : App → Node → List Told → List Told
without_told_by a n told = filter (λ (one : Told). not (one.app.0 == a.0 && one.node.0 == n.0)) told

-- wait_dist_start2/6
abbrev pub started_anywhere : AttemptView → Message → TurnView → TurnView
started_anywhere attempt (message.NodeDown n) t =
    start_distributed (record attempt { permitted = without_node n attempt.permitted })
    (with_state (record t.state { tmp_locals = without_told_by attempt.app n t.state.tmp_locals }) t)
started_anywhere attempt (message.AppStarted n a None) t = runs_elsewhere attempt n t
started_anywhere attempt (message.AppStarted n a (Some d)) t = fail_elsewhere attempt n d t
started_anywhere attempt m t = wait (stand.ForAnyStart attempt) t

-- wait_dist_start/7, behind the monitor of the node
abbrev pub start_told : AttemptView → Node → Message → TurnView → TurnView
start_told attempt n (message.Weight a weight m) t =
    wait (stand.ForStart attempt n) (monitor n (send_to n (message.Weight attempt.app (cached_weight t attempt.app) t.here.node) t))
start_told attempt n m t = started_anywhere attempt m t

-- wait_dist_start/7
abbrev pub started_there : AttemptView → Node → Message → TurnView → TurnView
started_there attempt n m t = start_told attempt n m (demonitor n t)
