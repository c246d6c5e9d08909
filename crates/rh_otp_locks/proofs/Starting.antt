-- Behind a start for which its controller asked a dist_ac stands in the middle of it, or it has freed its lock last.
use Rattle.std.proofs.Common.{◌≡◌, ◌⊎◌, ◌++◌, ◌+◌, ◌==◌, ℕ, Bool, true, false, cond, not, List, [], ◌∷◌, drop, filter, reverse, Option, Some, None, refl, ap, ◌∙◌, inl, inr}
use Rattle.std.proofs.lemmas.Bool.{false≢true}
use Rattle.rh_model.specs.declared.node.App.{App}
use Rattle.rh_model.specs.declared.node.Node.{Node}
use Rattle.rh_model.specs.declared.settings.Dep.{Dep}
use Rattle.rh_otp_model.specs.declared.message.Message.{Message}
use Rattle.rh_otp_model.specs.declared.message.Message.TheVariants as message
use Rattle.rh_otp_model.specs.declared.output.Output.{Output}
use Rattle.rh_otp_model.specs.declared.output.Output.TheVariants as output
use Rattle.rh_otp_model.specs.declared.output.Requester.TheVariants.{Alone}
use Rattle.rh_otp_model.specs.declared.process.Here.{Here}
use Rattle.rh_otp_model.specs.declared.process.Process.{Process}
use Rattle.rh_otp_model.specs.declared.process.Role.TheVariants as role
use Rattle.rh_otp_model.specs.Own.{OwnView, WrittenView}
use Rattle.rh_otp_model.specs.Processes.{process_at}
use Rattle.rh_otp_dist.specs.declared.attempt.AskedBy.{AskedBy}
use Rattle.rh_otp_dist.specs.declared.attempt.AskedBy.TheVariants as asked
use Rattle.rh_otp_dist.specs.declared.state.Stand.TheVariants as stand
use Rattle.rh_otp_dist.specs.declared.state.Standing.{Standing}
use Rattle.rh_otp_dist.specs.declared.state.Standing.TheVariants as standing
use Rattle.rh_otp_dist.specs.declared.verdict.Verdict.TheVariants as verdict
use Rattle.rh_otp_dist.specs.Attempts.{tell_controller, behind, behind_start, settled, finish, runs_elsewhere}
use Rattle.rh_otp_dist.specs.Choosing as choosing
use Rattle.rh_otp_dist.specs.Sending.{me, send_to, demonitor}
use Rattle.rh_otp_dist.specs.State.{TurnView, with_state, standing_of, is_among, without_node}
use Rattle.rh_otp_dist.specs.Views.{AttemptView, PermitCallView, WeighingView}
use Rattle.rh_otp_dist.specs.Waiting.{weighed, weighed_by, if_asked, fail_elsewhere, without_told_by, started_anywhere, start_told, started_there}
use Rattle.rh_otp_locks.specs.Holding.{is_asked, is_starting}

-- it has done this last
abbrev pub IsLast : Output → List Output → Type 0
IsLast o out = (before : List Output) × (out ≡ before ++ o ∷ [])

-- it stands in the middle of such a start, or has freed its own lock last
abbrev pub IsOver : Process → TurnView → Type 0
IsOver p u = (is_starting u.state.stand ≡ true) ⊎ IsLast (output.Free (Alone p) p) u.out

-- a turn of this process
abbrev pub IsBy : Process → TurnView → Type 0
IsBy p t = me t ≡ p

-- ---- the end of a start

behind_over : (asked_by : AskedBy) (attempt : AttemptView) (is_waiting : Bool) (p : Process) (t : TurnView) → is_asked asked_by ≡ true
    → IsBy p t → IsOver p (behind asked_by attempt is_waiting t)
behind_over asked.Controller attempt is_waiting p t is by =
    inr (t.out, ap (λ (q : Process). t.out ++ output.Free (Alone q) q ∷ []) by)
behind_over asked.Nobody attempt is_waiting p t is by = absurd (false≢true is)

behind_start_over : (attempt : AttemptView) (is_waiting : Bool) (p : Process) (t : TurnView) → is_asked attempt.asked_by ≡ true
    → IsBy p t → IsOver p (behind_start attempt is_waiting t)
behind_start_over attempt is_waiting p t is by =
    behind_over attempt.asked_by attempt is_waiting p (with_state (record t.state { stand = stand.Idle }) t) is by

finish_over : (attempt : AttemptView) (s : Standing) (is_waiting : Bool) (p : Process) (t : TurnView) → is_asked attempt.asked_by ≡ true
    → IsBy p t → IsOver p (finish attempt s is_waiting t)
unfolding finish
finish_over attempt s is_waiting p t is by =
    behind_start_over attempt is_waiting p (with_state (settled attempt.app s t.state) t) is by

elsewhere_over : (attempt : AttemptView) (n : Node) (p : Process) (t : TurnView) → is_asked attempt.asked_by ≡ true → IsBy p t
    → IsOver p (runs_elsewhere attempt n t)
unfolding runs_elsewhere
elsewhere_over attempt n p t is by =
    finish_over attempt (standing.Distributed n) false p (tell_controller attempt.asked_by attempt.app (verdict.Started n) t) is by

-- ---- a node is chosen

here_over : (attempt : AttemptView) (p : Process) (t : TurnView) → is_asked attempt.asked_by ≡ true → IsBy p t
    → IsOver p (choosing.start_here attempt t)
unfolding choosing.start_here
here_over attempt p t is by = finish_over attempt standing.RunWaiting true p (tell_controller attempt.asked_by attempt.app _ t) is by

over_if : (b : Bool) (p : Process) (x y : TurnView) → IsOver p x → IsOver p y → IsOver p (cond b x y)
over_if true p x y one other = one
over_if false p x y one other = other

to_start_over : (attempt : AttemptView) (n : Node) (p : Process) (t : TurnView) → is_asked attempt.asked_by ≡ true → IsBy p t
    → IsOver p (choosing.is_to_start attempt n t)
unfolding choosing.is_to_start
to_start_over attempt n p t is by =
    over_if (n.0 == t.here.node.0) p _ _ (here_over attempt p t is by)
    (over_if (choosing.is_node n (choosing.runs_at (standing_of t.state attempt.app))) p _ _ (elsewhere_over attempt n p t is by) (inl is))

-- ---- along the list

-- whatever is behind a place of the list
abbrev GoesOver : Process → (TurnView → TurnView) → Type 0
GoesOver p goes_on = (t : TurnView) → IsBy p t → IsOver p (goes_on t)

chosen_over : (goes_on : TurnView → TurnView) (attempt : AttemptView) (o : Option Node) (p : Process) (t : TurnView)
    → is_asked attempt.asked_by ≡ true → GoesOver p goes_on → IsBy p t → IsOver p (choosing.chosen_or goes_on attempt o t)
chosen_over goes_on attempt None p t is goes by = goes t by
chosen_over goes_on attempt (Some n) p t is goes by = to_start_over attempt n p t is by

weigh_with_over : (goes_on : TurnView → TurnView) (w : WeighingView) (answers : List (ℕ × Node)) (left : List Node) (p : Process)
    (t : TurnView)
    → is_asked w.attempt.asked_by ≡ true → GoesOver p goes_on → IsBy p t → IsOver p (choosing.weigh_with goes_on w answers left t)
weigh_with_over goes_on w answers [] p t is goes by =
    chosen_over goes_on w.attempt
    (choosing.chosen_of t.cluster t.state (choosing.group_at t.own w.attempt.app w.place) answers) p t is goes by
weigh_with_over goes_on w answers (n ∷ nodes) p t is goes by = inl is

weigh_over : (goes_on : TurnView → TurnView) (w : WeighingView) (p : Process) (t : TurnView) → is_asked w.attempt.asked_by ≡ true
    → GoesOver p goes_on → IsBy p t → IsOver p (choosing.weigh goes_on w t)
weigh_over goes_on w p t is goes by =
    weigh_with_over goes_on w (choosing.answers_from t.here.node t.state w.attempt.app w.answers w.nodes)
    (choosing.left_of t.here.node t.state w.attempt.app w.nodes) p t is goes by

-- who is told a weight doesn't change whose turn it is
sent_here : (b : Bool) (n : Node) (m : Message) (t : TurnView) → (cond b t (send_to n m t)).here ≡ t.here
sent_here true n m t = refl
sent_here false n m t = refl

weight_here : (a : App) (weight : ℕ) (nodes : List Node) (t : TurnView) → (choosing.tell_weight a weight nodes t).here ≡ t.here
weight_here a weight [] t = refl
weight_here a weight (n ∷ nodes) t =
    weight_here a weight nodes _ ∙ sent_here (n.0 == t.here.node.0) n (message.Weight a weight t.here.node) t

asks_over : (goes_on : TurnView → TurnView) (attempt : AttemptView) (place : ℕ) (candidates : List Node) (p : Process) (t : TurnView)
    → is_asked attempt.asked_by ≡ true → GoesOver p goes_on → IsBy p t
    → IsOver p (choosing.ask_weights goes_on attempt place candidates t)
asks_over goes_on attempt place candidates p t is goes by =
    weigh_over goes_on (choosing.first_weighing attempt place candidates t) p
    (choosing.tell_weight attempt.app (choosing.cached_weight t attempt.app) (reverse candidates) t) is goes
    (ap (λ (h : Here). process_at h role.DistAc)
    (weight_here attempt.app (choosing.cached_weight t attempt.app) (reverse candidates) t) ∙ by)

tuple_over : (goes_on : TurnView → TurnView) (attempt : AttemptView) (place : ℕ) (candidates : List Node) (runner : Option Node)
    (p : Process) (t : TurnView) → is_asked attempt.asked_by ≡ true → GoesOver p goes_on → IsBy p t
    → IsOver p (choosing.at_tuple goes_on attempt place candidates runner t)
tuple_over goes_on attempt place candidates (Some n) p t is goes by = elsewhere_over attempt n p t is by
tuple_over goes_on attempt place candidates None p t is goes by = asks_over goes_on attempt place candidates p t is goes by

node_over : (goes_on : TurnView → TurnView) (attempt : AttemptView) (candidates nodes : List Node) (p : Process) (t : TurnView)
    → is_asked attempt.asked_by ≡ true → GoesOver p goes_on → IsBy p t
    → IsOver p (choosing.at_node goes_on attempt candidates nodes t)
node_over goes_on attempt candidates [] p t is goes by = goes t by
node_over goes_on attempt candidates (n ∷ nodes) p t is goes by =
    over_if (not (is_among n candidates)) p _ _ (goes t by)
    (over_if (choosing.runs_there t.state attempt.app n) p _ _ (elsewhere_over attempt n p t is by) (to_start_over attempt n p t is by))

finds_over : (attempt : AttemptView) (candidates : List Node) (place : ℕ) (places : List WrittenView) (p : Process)
    → is_asked attempt.asked_by ≡ true → GoesOver p (choosing.find_from attempt candidates place places)
finds_over attempt candidates place [] p is t by = inl is
finds_over attempt candidates place (w ∷ places) p is t by =
    let goes_on : TurnView → TurnView = choosing.find_from attempt candidates (place + 1) places in
    over_if w.is_tuple p _ _
    (tuple_over goes_on attempt place candidates
    (choosing.check_running t.state attempt.app (filter (λ (n : Node). is_among n candidates) w.nodes)) p t is
    (finds_over attempt candidates (place + 1) places p is) by)
    (node_over goes_on attempt candidates w.nodes p t is (finds_over attempt candidates (place + 1) places p is) by)

find_over : (attempt : AttemptView) (candidates : List Node) (place : ℕ) (p : Process) (t : TurnView)
    → is_asked attempt.asked_by ≡ true → IsBy p t → IsOver p (choosing.find_start_node attempt candidates place t)
unfolding choosing.find_start_node
find_over attempt candidates place p t is by =
    finds_over attempt candidates place (drop place (choosing.places_of t.own attempt.app)) p is t by

outside_over : (attempt : AttemptView) (candidates : List Node) (runner : Option Node) (p : Process) (t : TurnView)
    → is_asked attempt.asked_by ≡ true → IsBy p t → IsOver p (choosing.outside attempt candidates runner t)
outside_over attempt candidates (Some n) p t is by = elsewhere_over attempt n p t is by
outside_over attempt [] None p t is by =
    finish_over attempt standing.Undefined false p (tell_controller attempt.asked_by attempt.app verdict.NotStarted t) is by
outside_over attempt (n ∷ nodes) None p t is by = inl is

distributed_over : (attempt : AttemptView) (p : Process) (t : TurnView) → is_asked attempt.asked_by ≡ true → IsBy p t
    → IsOver p (choosing.start_distributed attempt t)
unfolding choosing.start_distributed
distributed_over attempt p t is by =
    over_if (is_among t.here.node (choosing.candidates_of t.own attempt)) p _ _
    (find_over attempt (choosing.candidates_of t.own attempt) 0 p t is by)
    (outside_over attempt (choosing.candidates_of t.own attempt) (choosing.remote t.state attempt.app) p t is by)

unless_local_over : (attempt : AttemptView) (s : Standing) (p : Process) (t : TurnView) → is_asked attempt.asked_by ≡ true → IsBy p t
    → IsOver p (choosing.start_unless_local attempt s t)
unless_local_over attempt standing.Local p t is by = behind_start_over attempt false p t is by
unless_local_over attempt s p t is by = distributed_over attempt p t is by

-- a start for which the controller asks now
pub appl_over : (a : App) (permit : Option PermitCallView) (p : Process) (t : TurnView) → IsBy p t
    → IsOver p (choosing.start_appl a asked.Controller permit t)
unfolding choosing.start_appl
appl_over a permit p t by = unless_local_over _ (standing_of t.state a) p t refl by

-- ---- a start goes on

-- the places behind that of a tuple
abbrev rest_of : OwnView → WeighingView → List WrittenView
rest_of own w = drop (w.place + 1) (choosing.places_of own w.attempt.app)

weighed_over : (w : WeighingView) (n : Node) (nodes : List Node) (m : Message) (p : Process) (t : TurnView)
    → is_asked w.attempt.asked_by ≡ true → IsBy p t → IsOver p (weighed w n nodes m t)
weighed_over w n nodes (message.Weight a weight k) p t is by =
    weigh_over (choosing.behind_place t.own w.attempt w.candidates w.place)
    (record w { answers = w.answers ++ (weight, n) ∷ []; nodes = nodes }) p t is
    (finds_over w.attempt w.candidates (w.place + 1) (rest_of t.own w) p is) by
weighed_over w n nodes m p t is by =
    weigh_over (choosing.behind_place t.own w.attempt w.candidates w.place) (record w { nodes = nodes }) p t is
    (finds_over w.attempt w.candidates (w.place + 1) (rest_of t.own w) p is) by

pub weighed_by_over : (w : WeighingView) (nodes : List Node) (m : Message) (p : Process) (t : TurnView) → is_asked w.attempt.asked_by ≡ true
    → IsBy p t → IsOver p (weighed_by w nodes m t)
weighed_by_over w [] m p t is by =
    weigh_over (choosing.behind_place t.own w.attempt w.candidates w.place) w p t is
    (finds_over w.attempt w.candidates (w.place + 1) (rest_of t.own w) p is) by
weighed_by_over w (n ∷ nodes) m p t is by = weighed_over w n nodes m p (demonitor n t) is by

if_asked_by : (asked_by : AskedBy) (a : App) (n : Node) (d : Dep) (p : Process) (t : TurnView) → IsBy p t
    → IsBy p (if_asked asked_by a n d t)
if_asked_by asked.Controller a n d p t by = by
if_asked_by asked.Nobody a n d p t by = by

fails_over : (attempt : AttemptView) (n : Node) (d : Dep) (p : Process) (t : TurnView) → is_asked attempt.asked_by ≡ true → IsBy p t
    → IsOver p (fail_elsewhere attempt n d t)
fails_over attempt n d p t is by =
    finish_over attempt (standing_of t.state attempt.app) false p (if_asked attempt.asked_by attempt.app n d t) is
    (if_asked_by attempt.asked_by attempt.app n d p t by)

pub anywhere_over : (attempt : AttemptView) (m : Message) (p : Process) (t : TurnView) → is_asked attempt.asked_by ≡ true → IsBy p t
    → IsOver p (started_anywhere attempt m t)
anywhere_over attempt (message.NodeDown n) p t is by =
    distributed_over (record attempt { permitted = without_node n attempt.permitted }) p
    (with_state (record t.state { tmp_locals = without_told_by attempt.app n t.state.tmp_locals }) t) is by
anywhere_over attempt (message.AppStarted n a None) p t is by = elsewhere_over attempt n p t is by
anywhere_over attempt (message.AppStarted n a (Some d)) p t is by = fails_over attempt n d p t is by
anywhere_over attempt m p t is by = inl is

told_over : (attempt : AttemptView) (n : Node) (m : Message) (p : Process) (t : TurnView) → is_asked attempt.asked_by ≡ true → IsBy p t
    → IsOver p (start_told attempt n m t)
told_over attempt n (message.Weight a weight k) p t is by = inl is
told_over attempt n m p t is by = anywhere_over attempt m p t is by

pub there_over : (attempt : AttemptView) (n : Node) (m : Message) (p : Process) (t : TurnView) → is_asked attempt.asked_by ≡ true
    → IsBy p t → IsOver p (started_there attempt n m t)
there_over attempt n m p t is by = told_over attempt n m p (demonitor n t) is by
