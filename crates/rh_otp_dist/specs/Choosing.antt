-- At which node an application is to run (dist_ac, start_distributed/6, find_start_node/5).
use Rattle.std.specs.Prelude.{ℕ, ◌+◌, ◌==◌, ◌||◌, ◌&&◌, not, List, [], ◌∷◌, ◌++◌, reverse, filter, find, drop, slice_get, Bool, true, false, Option, Some, None, is_some, unwrap_or, option_map, nat_lt, if◌then◌else◌}
use Rattle.std.specs.List.{flat_map}
use Rattle.std.specs.Option.{option_or}
use Rattle.std.specs.Ordering.{nat_cmp}
use Rattle.std.specs.declared.cmp.Ordering.{Ordering}
use Rattle.std.specs.declared.cmp.Ordering.TheVariants.{Less}
use Rattle.std.specs.Cmp.Lexicographic.{slice_cmp}
use Rattle.rh_model.specs.ClusterView.{ClusterView, name_of}
use Rattle.rh_model.specs.declared.node.App.{App}
use Rattle.rh_model.specs.declared.node.Node.{Node}
use Rattle.rh_otp_model.specs.declared.message.Message.TheVariants.{Weight}
use Rattle.rh_otp_model.specs.Own.{OwnView, EntryView, WrittenView}
use Rattle.rh_otp_model.specs.Rows.{keyfind}
use Rattle.rh_otp_dist.specs.declared.attempt.AskedBy.{AskedBy}
use Rattle.rh_otp_dist.specs.declared.attempt.AskedBy.TheVariants as asked
use Rattle.rh_otp_dist.specs.declared.state.Stand.{Stand}
use Rattle.rh_otp_dist.specs.declared.state.Stand.TheVariants.{ForWeight, ForStart, ForAnyStart}
use Rattle.rh_otp_dist.specs.declared.state.Standing.{Standing}
use Rattle.rh_otp_dist.specs.declared.state.Standing.TheVariants as standing
use Rattle.rh_otp_dist.specs.declared.state.Told.{Told}
use Rattle.rh_otp_dist.specs.declared.verdict.Verdict.{Verdict}
use Rattle.rh_otp_dist.specs.declared.verdict.Verdict.TheVariants as verdict
use Rattle.rh_otp_dist.specs.State.{TurnView, DistView, with_state, standing_of, permitted, is_among}
use Rattle.rh_otp_dist.specs.Views.{AttemptView, PermitCallView, WeighingView}
use Rattle.rh_otp_dist.specs.Sending.{send_to, monitor}
use Rattle.rh_otp_dist.specs.Attempts.{tell_controller, finish, behind_start, runs_elsewhere}

-- the places of an application's list
abbrev pub places_of : OwnView → App → List WrittenView
places_of own a = unwrap_or (option_map (λ (e : EntryView). e.places) (find (λ (e : EntryView). e.app.0 == a.0) own.entries)) []

-- flat_nodes/1: all nodes of the list, the places from the last one, each tuple as it is written
abbrev pub backwards : OwnView → App → List Node
backwards own a = flat_map (λ (w : WrittenView). w.nodes) (reverse (places_of own a))

-- the nodes of the list that may run it
abbrev pub candidates_of : OwnView → AttemptView → List Node
candidates_of own attempt = filter (λ n. is_among n attempt.permitted) (backwards own attempt.app)

-- the node of which it knows that the application runs there, though it isn't started here
abbrev pub remote : DistView → App → Option Node
remote d a = keyfind a d.remote_started

-- where it runs, by its standing
abbrev pub runs_at : Standing → Option Node
runs_at (standing.Distributed n) = Some n
runs_at s = None

-- get_cached_weight/2
abbrev pub cached_weight : TurnView → App → ℕ
cached_weight t a = unwrap_or (keyfind a t.state.tmp_weights) t.weight

-- it stands in the middle of something from now on
abbrev pub wait : Stand → TurnView → TurnView
wait stand t = with_state (record t.state { stand = stand }) t

-- what the controller of the chosen node is told
abbrev pub verdict_here : Standing → AskedBy → Option Node → Verdict
verdict_here (standing.Failover n) asked.Nobody runner = verdict.Failover n
verdict_here (standing.Distributed n) asked.Nobody runner = verdict.Takeover n
verdict_here s asked.Controller (Some n) = verdict.Takeover n
verdict_here s asked_by runner = verdict.StartIt

-- start_distributed/6: this node is to run it
unfoldable pub start_here : AttemptView → TurnView → TurnView
start_here attempt t =
    finish attempt standing.RunWaiting true
    (tell_controller attempt.asked_by attempt.app
    (verdict_here (standing_of t.state attempt.app) attempt.asked_by (remote t.state attempt.app)) t)

-- is it this node?
abbrev pub is_node : Node → Option Node → Bool
is_node n None = false
is_node n (Some m) = m.0 == n.0

-- start_distributed/6: a node is chosen. Another one is waited for, unless it runs there.
unfoldable pub is_to_start : AttemptView → Node → TurnView → TurnView
is_to_start attempt n t =
    if n.0 == t.here.node.0 then start_here attempt t
    else if is_node n (runs_at (standing_of t.state attempt.app)) then runs_elsewhere attempt n t
    else wait (ForStart attempt n) (monitor n t)

-- ---- tuples

-- this node, if it is one of these
abbrev pub if_among : List Node → Option Node → Option Node
if_among nodes None = None
if_among nodes (Some n) = if is_among n nodes then Some n else None

-- check_running/3: the node of a tuple at which it runs
abbrev pub check_running : DistView → App → List Node → Option Node
check_running d a group = if_among group (option_or (remote d a) (runs_at (standing_of d a)))

-- find_any_node/5: these candidates are told its weight
abbrev pub tell_weight : App → ℕ → List Node → TurnView → TurnView
tell_weight a weight [] t = t
tell_weight a weight (n ∷ nodes) t =
    tell_weight a weight nodes (if n.0 == t.here.node.0 then t else send_to n (Weight a weight t.here.node) t)

-- the weight, if it is one of the application
abbrev pub weight_of : App → Option Told → Option ℕ
weight_of a None = None
weight_of a (Some told) = if told.app.0 == a.0 then Some told.weight else None

-- the weight that a node has told of the application: only what it told last counts
abbrev pub told_by : List Told → App → Node → Option ℕ
told_by told a n = weight_of a (find (λ (one : Told). one.node.0 == n.0) told)

abbrev pub is_less : Ordering → Bool
is_less Less = true
is_less o = false

-- does an answer come before another one: by weight, and then by the node's name?
abbrev pub is_lighter : ClusterView → ℕ × Node → ℕ × Node → Bool
is_lighter c a b = nat_lt a.0 b.0 || (a.0 == b.0 && is_less (slice_cmp nat_cmp (name_of c a.1) (name_of c b.1)))

-- the lighter of the two
abbrev pub lighter : ClusterView → Option (ℕ × Node) → ℕ × Node → ℕ × Node
lighter c None b = b
lighter c (Some a) b = if is_lighter c b a then b else a

-- the lightest of these answers, the first of equal ones
abbrev pub lightest_of : ClusterView → Option (ℕ × Node) → List (ℕ × Node) → Option (ℕ × Node)
lightest_of c best [] = best
lightest_of c best (a ∷ answers) = lightest_of c (Some (lighter c best a)) answers

-- may an answer be chosen? Its node is one of the tuple, and known here.
abbrev pub is_eligible : DistView → List Node → ℕ × Node → Bool
is_eligible d group answer = is_among answer.1 group && is_among answer.1 d.known

-- the node of a tuple that is known here and has the least weight
abbrev pub chosen_of : ClusterView → DistView → List Node → List (ℕ × Node) → Option Node
chosen_of c d group answers = option_map (λ answer. answer.1) (lightest_of c None (filter (is_eligible d group) answers))

-- collect_answers/4: the answers that have come, from the first of these nodes up to the one whose answer hasn't. An answer that came
-- before stays, and counts for the next tuple, too.
abbrev pub answers_from : Node → DistView → App → List (ℕ × Node) → List Node → List (ℕ × Node)
answers_from here d a answers [] = answers
answers_from here d a answers (n ∷ nodes) =
    if n.0 == here.0 then answers_from here d a answers nodes
    else if is_some (told_by d.tmp_locals a n)
    then answers_from here d a (answers ++ (unwrap_or (told_by d.tmp_locals a n) 0, n) ∷ []) nodes
    else answers

-- the node whose answer hasn't come, with those behind it
abbrev pub left_of : Node → DistView → App → List Node → List Node
left_of here d a [] = []
left_of here d a (n ∷ nodes) =
    if n.0 == here.0 || is_some (told_by d.tmp_locals a n) then left_of here d a nodes else n ∷ nodes

-- the nodes of the place of this number
abbrev pub group_at : OwnView → App → ℕ → List Node
group_at own a place = unwrap_or (option_map (λ (w : WrittenView). w.nodes) (slice_get (places_of own a) place)) []

-- a node was chosen, or the list goes on behind the tuple
abbrev pub chosen_or : (TurnView → TurnView) → AttemptView → Option Node → TurnView → TurnView
chosen_or goes_on attempt (Some n) t = is_to_start attempt n t
chosen_or goes_on attempt None t = goes_on t

-- it waits for the next answer, or all are there
abbrev pub weigh_with : (TurnView → TurnView) → WeighingView → List (ℕ × Node) → List Node → TurnView → TurnView
weigh_with goes_on w answers [] t =
    chosen_or goes_on w.attempt (chosen_of t.cluster t.state (group_at t.own w.attempt.app w.place) answers) t
weigh_with goes_on w answers (n ∷ nodes) t = wait (ForWeight (record w { answers = answers; nodes = n ∷ nodes })) (monitor n t)

-- collect_answers/4
abbrev pub weigh : (TurnView → TurnView) → WeighingView → TurnView → TurnView
weigh goes_on w t =
    weigh_with goes_on w (answers_from t.here.node t.state w.attempt.app w.answers w.nodes)
    (left_of t.here.node t.state w.attempt.app w.nodes) t

-- find_any_node/5: it counts its own weight
abbrev pub first_weighing : AttemptView → ℕ → List Node → TurnView → WeighingView
first_weighing attempt place candidates t = record {
  attempt = attempt;
  place = place;
  candidates = candidates;
  answers = (cached_weight t attempt.app, t.here.node) ∷ [];
  nodes = candidates;
}

-- find_any_node/5: all candidates of the whole list, from the last one, are told its weight, and theirs is waited for
abbrev pub ask_weights : (TurnView → TurnView) → AttemptView → ℕ → List Node → TurnView → TurnView
ask_weights goes_on attempt place candidates t =
    weigh goes_on (first_weighing attempt place candidates t)
    (tell_weight attempt.app (cached_weight t attempt.app) (reverse candidates) t)

-- ---- the list

-- of a tuple: it runs at a node of it, or the weights decide
abbrev pub at_tuple : (TurnView → TurnView) → AttemptView → ℕ → List Node → Option Node → TurnView → TurnView
at_tuple goes_on attempt place candidates (Some n) t = runs_elsewhere attempt n t
at_tuple goes_on attempt place candidates None t = ask_weights goes_on attempt place candidates t

-- does the application run at this node, as far as is known here?
abbrev pub runs_there : DistView → App → Node → Bool
runs_there d a n = is_node n (runs_at (standing_of d a)) || is_node n (remote d a)

-- of a single node: it is passed over where it can't run it
abbrev pub at_node : (TurnView → TurnView) → AttemptView → List Node → List Node → TurnView → TurnView
at_node goes_on attempt candidates [] t = goes_on t
at_node goes_on attempt candidates (n ∷ nodes) t =
    if not (is_among n candidates) then goes_on t
    else if runs_there t.state attempt.app n then runs_elsewhere attempt n t
    else is_to_start attempt n t

-- find_start_node/5, over the places from this number on
abbrev pub find_from : AttemptView → List Node → ℕ → List WrittenView → TurnView → TurnView
find_from attempt candidates place [] t = wait (ForAnyStart attempt) t
find_from attempt candidates place (w ∷ places) t =
    if w.is_tuple
    then at_tuple (find_from attempt candidates (place + 1) places) attempt place candidates
    (check_running t.state attempt.app (filter (λ n. is_among n candidates) w.nodes)) t
    else at_node (find_from attempt candidates (place + 1) places) attempt candidates w.nodes t

-- the walk along the list behind the place of this number
abbrev pub behind_place : OwnView → AttemptView → List Node → ℕ → TurnView → TurnView
behind_place own attempt candidates place t = find_from attempt candidates (place + 1) (drop (place + 1) (places_of own attempt.app)) t

-- find_start_node/5, over the whole list or what is left of it
unfoldable pub find_start_node : AttemptView → List Node → ℕ → TurnView → TurnView
find_start_node attempt candidates place t = find_from attempt candidates place (drop place (places_of t.own attempt.app)) t

-- of a node that may not run it: it runs at another one, or is waited for there, or no node can run it
abbrev pub outside : AttemptView → List Node → Option Node → TurnView → TurnView
outside attempt candidates (Some n) t = runs_elsewhere attempt n t
outside attempt [] None t = finish attempt standing.Undefined false (tell_controller attempt.asked_by attempt.app verdict.NotStarted t)
outside attempt (n ∷ nodes) None t = wait (ForAnyStart attempt) t

-- start_distributed/6 with find_start_node/4
unfoldable pub start_distributed : AttemptView → TurnView → TurnView
start_distributed attempt t =
    if is_among t.here.node (candidates_of t.own attempt) then find_start_node attempt (candidates_of t.own attempt) 0 t
    else outside attempt (candidates_of t.own attempt) (remote t.state attempt.app) t

abbrev pub start_unless_local : AttemptView → Standing → TurnView → TurnView
start_unless_local attempt standing.Local t = behind_start attempt false t
start_unless_local attempt s t = start_distributed attempt t

-- start_appl/3
unfoldable pub start_appl : App → AskedBy → Option PermitCallView → TurnView → TurnView
start_appl a asked_by permit t =
    start_unless_local (record { app = a; asked_by = asked_by; permitted = permitted t.state a; permit = permit }) (standing_of t.state a) t
