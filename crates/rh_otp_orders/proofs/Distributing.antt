-- What a dist_ac does in a turn is its node's own.
use Rattle.std.proofs.Common.{◌≡◌, ◌+◌, ◌==◌, ℕ, not, Bool, true, false, cond, List, [], ◌∷◌, reverse, filter, drop, Option, Some, None}
use Rattle.std.proofs.lemmas.List.Elements.{All-push}
use Rattle.rh_model.specs.declared.node.App.{App}
use Rattle.rh_model.specs.declared.node.Node.{Node}
use Rattle.rh_otp_model.specs.declared.fault.Outcome.{Outcome}
use Rattle.rh_otp_model.specs.declared.fault.Outcome.TheVariants.{Done}
use Rattle.rh_otp_model.specs.declared.message.Message.{Message}
use Rattle.rh_otp_model.specs.declared.message.Message.TheVariants as message
use Rattle.rh_otp_model.specs.declared.output.Output.{Output}
use Rattle.rh_otp_model.specs.declared.output.Output.TheVariants as output
use Rattle.rh_otp_model.specs.declared.output.Requester.{Requester}
use Rattle.rh_otp_model.specs.declared.output.Requester.TheVariants.{Alone}
use Rattle.rh_otp_model.specs.declared.process.Process.{Process}
use Rattle.rh_otp_model.specs.declared.process.Role.TheVariants as role
use Rattle.rh_otp_model.specs.Own.{WrittenView}
use Rattle.rh_otp_model.specs.Processes.{process_at}
use Rattle.rh_otp_dist.specs.declared.attempt.AskedBy.{AskedBy}
use Rattle.rh_otp_dist.specs.declared.attempt.AskedBy.TheVariants as asked
use Rattle.rh_otp_dist.specs.declared.state.Stand.TheVariants as stand
use Rattle.rh_otp_dist.specs.declared.state.Standing.{Standing}
use Rattle.rh_otp_dist.specs.declared.state.Standing.TheVariants as standing
use Rattle.rh_otp_dist.specs.declared.verdict.Verdict.{Verdict}
use Rattle.rh_otp_dist.specs.declared.verdict.Verdict.TheVariants as verdict
use Rattle.rh_otp_dist.specs.Attempts as attempts
use Rattle.rh_otp_dist.specs.Choosing as choosing
use Rattle.rh_otp_dist.specs.Sending as sending
use Rattle.rh_otp_dist.specs.State.{TurnView, with_state, standing_of, is_among, permitted}
use Rattle.rh_otp_dist.specs.Views.{AttemptView, PermitCallView, WeighingView}
use Rattle.rh_otp_orders.proofs.Own.{IsOwn, AreOwn}

-- a turn of the node in which all that was done is its own
abbrev pub Owned : Node → TurnView → Type 0
Owned n t = (t.here.node ≡ n) × AreOwn n t.out

-- what goes on from a turn does its node's own
abbrev pub Owns : Node → (TurnView → TurnView) → Type 0
Owns n f = (t : TurnView) → Owned n t → Owned n (f t)

pub either : (n : Node) (b : Bool) (t u : TurnView) → Owned n t → Owned n u → Owned n (cond b t u)
either n true t u g h = g
either n false t u g h = h

-- ---- Sending

pub does : (n : Node) (o : Output) (t : TurnView) → IsOwn n o → Owned n t → Owned n (sending.with_output o t)
does n o t own g = (g.0, All-push (IsOwn n) t.out o g.1 own)

pub sends_to : (n m : Node) (x : Message) (t : TurnView) → Owned n t → Owned n (sending.send_to m x t)
sends_to n m x t g = does n (output.ToDist m x) t tt g

pub sends_all : (n : Node) (nodes : List Node) (x : Message) (t : TurnView) → Owned n t → Owned n (sending.send_all nodes x t)
sends_all n [] x t g = g
sends_all n (m ∷ nodes) x t g =
    sends_all n nodes x (cond (m.0 == t.here.node.0) t (sending.send_to m x t))
    (either n (m.0 == t.here.node.0) t (sending.send_to m x t) g (sends_to n m x t g))

pub to_controller : (n : Node) (x : Message) (t : TurnView) → Owned n t → Owned n (sending.to_controller x t)
to_controller n x t g =
    does n (output.Send (record { from = sending.me t; to = process_at t.here role.Controller; message = x })) t g.0 g

pub answers : (n : Node) (caller : Process) (o : Outcome) (t : TurnView) → Owned n t → Owned n (sending.answer caller o t)
answers n caller o t g = does n (output.Send (record { from = sending.me t; to = caller; message = message.Answer o })) t g.0 g

pub monitors : (n m : Node) (t : TurnView) → Owned n t → Owned n (sending.monitor m t)
monitors n m t g = does n (output.Monitor m) t tt g

pub frees : (n : Node) (r : Requester) (owner : Process) (t : TurnView) → Owned n t → Owned n (sending.free_lock r owner t)
frees n r owner t g = does n (output.Free r owner) t tt g

pub answers_each : (n : Node) (a : App) (o : Outcome) (rows : List (App × Process)) (t : TurnView) → Owned n t
    → Owned n (sending.answer_each a o rows t)
answers_each n a o [] t g = g
answers_each n a o (row ∷ rows) t g =
    answers_each n a o rows (cond (row.0.0 == a.0) (sending.answer row.1 o t) t)
    (either n (row.0.0 == a.0) (sending.answer row.1 o t) t (answers n row.1 o t g) g)

pub ends_t_reqs : (n : Node) (a : App) (o : Outcome) (t : TurnView) → Owned n t → Owned n (sending.del_t_reqs a o t)
unfolding sending.del_t_reqs
ends_t_reqs n a o t g = answers_each n a o t.state.t_reqs t g

-- ---- Attempts

pub tells_controller : (n : Node) (asked_by : AskedBy) (a : App) (v : Verdict) (t : TurnView) → Owned n t
    → Owned n (attempts.tell_controller asked_by a v t)
tells_controller n asked_by a v t g = to_controller n (attempts.message_of asked_by a v) t g

permitted_then : (n : Node) (a : App) (is_waiting : Bool) (before : PermitCallView) (t : TurnView) → Owned n t
    → Owned n (attempts.permitted_then a is_waiting before t)
permitted_then n a true before t g = frees n (Alone before.caller) before.caller t g
permitted_then n a false before t g = answers n before.caller Done (with_state (attempts.restored a before t.state) t) g

permitted_by : (n : Node) (a : App) (is_waiting : Bool) (permit : Option PermitCallView) (t : TurnView) → Owned n t
    → Owned n (attempts.permitted_by a is_waiting permit t)
permitted_by n a is_waiting None t g = g
permitted_by n a is_waiting (Some before) t g = permitted_then n a is_waiting before t g

behind : (n : Node) (asked_by : AskedBy) (attempt : AttemptView) (is_waiting : Bool) (t : TurnView) → Owned n t
    → Owned n (attempts.behind asked_by attempt is_waiting t)
behind n asked.Controller attempt is_waiting t g = frees n (Alone (sending.me t)) (sending.me t) t g
behind n asked.Nobody attempt is_waiting t g = permitted_by n attempt.app is_waiting attempt.permit t g

pub behind_start : (n : Node) (attempt : AttemptView) (is_waiting : Bool) (t : TurnView) → Owned n t
    → Owned n (attempts.behind_start attempt is_waiting t)
behind_start n attempt is_waiting t g =
    behind n attempt.asked_by attempt is_waiting (with_state (record t.state { stand = stand.Idle }) t) g

pub finishes : (n : Node) (attempt : AttemptView) (s : Standing) (is_waiting : Bool) (t : TurnView) → Owned n t
    → Owned n (attempts.finish attempt s is_waiting t)
unfolding attempts.finish
finishes n attempt s is_waiting t g = behind_start n attempt is_waiting (with_state (attempts.settled attempt.app s t.state) t) g

pub runs_elsewhere : (n : Node) (attempt : AttemptView) (m : Node) (t : TurnView) → Owned n t
    → Owned n (attempts.runs_elsewhere attempt m t)
unfolding attempts.runs_elsewhere
runs_elsewhere n attempt m t g =
    finishes n attempt (standing.Distributed m) false (attempts.tell_controller attempt.asked_by attempt.app (verdict.Started m) t)
    (tells_controller n attempt.asked_by attempt.app (verdict.Started m) t g)

-- ---- Choosing

starts_here : (n : Node) (attempt : AttemptView) (t : TurnView) → Owned n t → Owned n (choosing.start_here attempt t)
unfolding choosing.start_here
starts_here n attempt t g =
    let v : Verdict = choosing.verdict_here (standing_of t.state attempt.app) attempt.asked_by (choosing.remote t.state attempt.app) in
    finishes n attempt standing.RunWaiting true (attempts.tell_controller attempt.asked_by attempt.app v t)
    (tells_controller n attempt.asked_by attempt.app v t g)

is_to_start : (n : Node) (attempt : AttemptView) (m : Node) (t : TurnView) → Owned n t → Owned n (choosing.is_to_start attempt m t)
unfolding choosing.is_to_start
is_to_start n attempt m t g =
    either n (m.0 == t.here.node.0) (choosing.start_here attempt t) _ (starts_here n attempt t g)
    (either n (choosing.is_node m (choosing.runs_at (standing_of t.state attempt.app))) (attempts.runs_elsewhere attempt m t)
    (choosing.wait (stand.ForStart attempt m) (sending.monitor m t)) (runs_elsewhere n attempt m t g) (monitors n m t g))

tells_weight : (n : Node) (a : App) (weight : ℕ) (nodes : List Node) (t : TurnView) → Owned n t
    → Owned n (choosing.tell_weight a weight nodes t)
tells_weight n a weight [] t g = g
tells_weight n a weight (m ∷ nodes) t g =
    let x : Message = message.Weight a weight t.here.node in
    tells_weight n a weight nodes (cond (m.0 == t.here.node.0) t (sending.send_to m x t))
    (either n (m.0 == t.here.node.0) t (sending.send_to m x t) g (sends_to n m x t g))

chosen_or : (n : Node) (goes_on : TurnView → TurnView) → Owns n goes_on → (attempt : AttemptView) (chosen : Option Node) (t : TurnView)
    → Owned n t → Owned n (choosing.chosen_or goes_on attempt chosen t)
chosen_or n goes_on on attempt (Some m) t g = is_to_start n attempt m t g
chosen_or n goes_on on attempt None t g = on t g

weighs_with : (n : Node) (goes_on : TurnView → TurnView) → Owns n goes_on
    → (w : WeighingView) (answers : List (ℕ × Node)) (nodes : List Node)
    (t : TurnView) → Owned n t
    → Owned n (choosing.weigh_with goes_on w answers nodes t)
weighs_with n goes_on on w answers [] t g =
    chosen_or n goes_on on w.attempt (choosing.chosen_of t.cluster t.state (choosing.group_at t.own w.attempt.app w.place) answers) t g
weighs_with n goes_on on w answers (m ∷ nodes) t g = monitors n m t g

pub weighs : (n : Node) (goes_on : TurnView → TurnView) → Owns n goes_on → (w : WeighingView) (t : TurnView) → Owned n t
    → Owned n (choosing.weigh goes_on w t)
weighs n goes_on on w t g =
    weighs_with n goes_on on w (choosing.answers_from t.here.node t.state w.attempt.app w.answers w.nodes)
    (choosing.left_of t.here.node t.state w.attempt.app w.nodes) t g

asks_weights : (n : Node) (goes_on : TurnView → TurnView) → Owns n goes_on → (attempt : AttemptView) (place : ℕ) (candidates : List Node)
    (t : TurnView) → Owned n t
    → Owned n (choosing.ask_weights goes_on attempt place candidates t)
asks_weights n goes_on on attempt place candidates t g =
    weighs n goes_on on (choosing.first_weighing attempt place candidates t)
    (choosing.tell_weight attempt.app (choosing.cached_weight t attempt.app) (reverse candidates) t)
    (tells_weight n attempt.app (choosing.cached_weight t attempt.app) (reverse candidates) t g)

at_tuple : (n : Node) (goes_on : TurnView → TurnView) → Owns n goes_on → (attempt : AttemptView) (place : ℕ) (candidates : List Node)
    (runs : Option Node) (t : TurnView) → Owned n t
    → Owned n (choosing.at_tuple goes_on attempt place candidates runs t)
at_tuple n goes_on on attempt place candidates (Some m) t g = runs_elsewhere n attempt m t g
at_tuple n goes_on on attempt place candidates None t g = asks_weights n goes_on on attempt place candidates t g

at_node : (n : Node) (goes_on : TurnView → TurnView) → Owns n goes_on
    → (attempt : AttemptView) (candidates nodes : List Node) (t : TurnView)
    → Owned n t → Owned n (choosing.at_node goes_on attempt candidates nodes t)
at_node n goes_on on attempt candidates [] t g = on t g
at_node n goes_on on attempt candidates (m ∷ nodes) t g =
    either n (not (is_among m candidates)) (goes_on t) _ (on t g)
    (either n (choosing.runs_there t.state attempt.app m) (attempts.runs_elsewhere attempt m t) (choosing.is_to_start attempt m t)
    (runs_elsewhere n attempt m t g) (is_to_start n attempt m t g))

finds_from : (n : Node) (attempt : AttemptView) (candidates : List Node) (place : ℕ) (places : List WrittenView)
    → Owns n (choosing.find_from attempt candidates place places)
finds_from n attempt candidates place [] t g = g
finds_from n attempt candidates place (w ∷ places) t g =
    let goes_on : TurnView → TurnView = choosing.find_from attempt candidates (place + 1) places in
    let on : Owns n goes_on = finds_from n attempt candidates (place + 1) places in
    let runs : Option Node = choosing.check_running t.state attempt.app (filter (λ (m : Node). is_among m candidates) w.nodes) in
    either n w.is_tuple (choosing.at_tuple goes_on attempt place candidates runs t) (choosing.at_node goes_on attempt candidates w.nodes t)
    (at_tuple n goes_on on attempt place candidates runs t g) (at_node n goes_on on attempt candidates w.nodes t g)

pub goes_behind : (n : Node) (w : WeighingView) (t : TurnView)
    → Owns n (choosing.behind_place t.own w.attempt w.candidates w.place)
goes_behind n w t =
    finds_from n w.attempt w.candidates (w.place + 1) (drop (w.place + 1) (choosing.places_of t.own w.attempt.app))

finds : (n : Node) (attempt : AttemptView) (candidates : List Node) (place : ℕ) (t : TurnView) → Owned n t
    → Owned n (choosing.find_start_node attempt candidates place t)
unfolding choosing.find_start_node
finds n attempt candidates place t g = finds_from n attempt candidates place (drop place (choosing.places_of t.own attempt.app)) t g

outside : (n : Node) (attempt : AttemptView) (candidates : List Node) (runner : Option Node) (t : TurnView) → Owned n t
    → Owned n (choosing.outside attempt candidates runner t)
outside n attempt candidates (Some m) t g = runs_elsewhere n attempt m t g
outside n attempt [] None t g =
    finishes n attempt standing.Undefined false (attempts.tell_controller attempt.asked_by attempt.app verdict.NotStarted t)
    (tells_controller n attempt.asked_by attempt.app verdict.NotStarted t g)
outside n attempt (m ∷ nodes) None t g = g

pub starts_distributed : (n : Node) (attempt : AttemptView) (t : TurnView) → Owned n t → Owned n (choosing.start_distributed attempt t)
unfolding choosing.start_distributed
starts_distributed n attempt t g =
    let candidates : List Node = choosing.candidates_of t.own attempt in
    let runner : Option Node = choosing.remote t.state attempt.app in
    either n (is_among t.here.node candidates) (choosing.find_start_node attempt candidates 0 t)
    (choosing.outside attempt candidates runner t)
    (finds n attempt candidates 0 t g) (outside n attempt candidates runner t g)

starts_unless_local : (n : Node) (attempt : AttemptView) (s : Standing) (t : TurnView) → Owned n t
    → Owned n (choosing.start_unless_local attempt s t)
starts_unless_local n attempt standing.Local t g = behind_start n attempt false t g
starts_unless_local n attempt s t g = starts_distributed n attempt t g

pub starts_appl : (n : Node) (a : App) (asked_by : AskedBy) (permit : Option PermitCallView) (t : TurnView) → Owned n t
    → Owned n (choosing.start_appl a asked_by permit t)
unfolding choosing.start_appl
starts_appl n a asked_by permit t g =
    starts_unless_local n (record { app = a; asked_by = asked_by; permitted = permitted t.state a; permit = permit })
    (standing_of t.state a) t g
