-- Single rules at work. Node 1 of three has an application with the list `[n0, {n1, n2}]`, which node 0 may not run. What is expected is
-- what the model in companions/rehearse_tools/otp25 does, which was written from dist_ac.erl and measured against real nodes.
use Rattle.std.proofs.Common.{◌≡◌, ℕ, true, false, Some, None, [], ◌∷◌, refl}
use Rattle.rh_model.specs.ClusterView.{ClusterView, numbered, app_numbered}
use Rattle.rh_model.specs.declared.node.App.{App}
use Rattle.rh_model.specs.declared.node.Node.{Node}
use Rattle.rh_model.specs.declared.settings.Dep.TheVariants.{Listed}
use Rattle.rh_model.specs.declared.settings.Restart.TheVariants.{Temporary}
use Rattle.rh_otp_model.specs.declared.fault.Outcome.TheVariants.{Done}
use Rattle.rh_otp_model.specs.declared.message.Change.TheVariants as change
use Rattle.rh_otp_model.specs.declared.message.Message.{Message}
use Rattle.rh_otp_model.specs.declared.message.Message.TheVariants as message
use Rattle.rh_otp_model.specs.declared.message.Reply.TheVariants as reply
use Rattle.rh_otp_model.specs.declared.output.Output.{Output}
use Rattle.rh_otp_model.specs.declared.output.Output.TheVariants as output
use Rattle.rh_otp_model.specs.declared.output.Requester.TheVariants.{Alone, Sync}
use Rattle.rh_otp_model.specs.declared.process.Here.{Here}
use Rattle.rh_otp_model.specs.declared.process.Process.{Process}
use Rattle.rh_otp_model.specs.declared.process.Role.TheVariants as role
use Rattle.rh_otp_model.specs.Own.{OwnView}
use Rattle.rh_otp_model.specs.Processes.{process_at}
use Rattle.rh_otp_dist.specs.declared.attempt.AskedBy.TheVariants as asked
use Rattle.rh_otp_dist.specs.declared.outside.Need.TheVariants as need
use Rattle.rh_otp_dist.specs.declared.state.Stand.TheVariants as stand
use Rattle.rh_otp_dist.specs.declared.state.Standing.{Standing}
use Rattle.rh_otp_dist.specs.declared.state.Standing.TheVariants as standing
use Rattle.rh_otp_dist.specs.State.{DistView, TurnView, beginning, standing_of}
use Rattle.rh_otp_dist.specs.Views.{AttemptView, WeighingView, PermitWaitView}
use Rattle.rh_otp_dist.specs.Choosing.{find_start_node, start_distributed, start_appl, is_to_start, start_here}
use Rattle.rh_otp_dist.specs.Attempts.{finish, runs_elsewhere}
use Rattle.rh_otp_dist.specs.Told.{new_node, app_started, answer_permits, weight_told, restart}
use Rattle.rh_otp_dist.specs.Down.{check_waiting, node_down}
use Rattle.rh_otp_dist.specs.Calls.{permit, take_over, get_nodes}
use Rattle.rh_otp_dist.specs.Received.{handled, resumed, next_mail, handle_next}
use Rattle.rh_otp_dist.specs.Outside.{unparked, need_of, introduced_to}

abbrev n : ℕ → Node
n = numbered

abbrev a : App
a = app_numbered 0

-- one that its own `distributed` doesn't have
abbrev b : App
b = app_numbered 1

abbrev cluster : ClusterView
cluster = record {
  profile = 1;
  node_names = (97 ∷ []) ∷ (98 ∷ []) ∷ (99 ∷ []) ∷ [];
  app_names = (97 ∷ []) ∷ [];
  platform_names = [];
  nodes = [];
  apps = [];
}

abbrev own : OwnView
own = record {
  has_dist = true;
  entries = record {
    app = a;
    timeout = 5000;
    places = record { is_tuple = false; nodes = n 0 ∷ [] } ∷ record { is_tuple = true; nodes = n 1 ∷ n 2 ∷ [] } ∷ [];
  } ∷ [];
}

abbrev here : Here
here = record { node = n 1; life = 1 }

abbrev me : Process
me = process_at here role.DistAc

abbrev caller : ℕ → Process
caller number = process_at here (role.Call number)

-- it waits for any message, and the application stands so and was lost so often
abbrev at : Standing → ℕ → DistView
at s losses = record (beginning 3 1 (n 1) (true ∷ [])) {
  stand = stand.Idle;
  known = n 1 ∷ n 2 ∷ [];
  appls = record { standing = s; losses = losses } ∷ [];
  may = (false ∷ []) ∷ (true ∷ []) ∷ (true ∷ []) ∷ [];
}

-- three applications run at the node, and it has its lock
abbrev turn : DistView → TurnView
turn d = record { cluster = cluster; own = own; here = here; weight = 3; has_lock = true; burns = false; state = d; out = [] }

abbrev to_controller : Message → Output
to_controller m = output.Send (record { from = me; to = process_at here role.Controller; message = m })

abbrev answered : ℕ → Output
answered number = output.Send (record { from = me; to = caller number; message = message.Answer Done })

-- ---- starts

abbrev attempt : AttemptView
attempt = record { app = a; asked_by = asked.Controller; permitted = n 1 ∷ n 2 ∷ []; permit = None }

abbrev weighing : WeighingView
weighing = record { attempt = attempt; place = 1; candidates = n 1 ∷ n 2 ∷ []; answers = (3, n 1) ∷ []; nodes = n 2 ∷ [] }

-- The node that may not run it is passed over. In the tuple the weights decide: the others are told its own, and it waits for theirs.
asks_for_weights : (start_appl a asked.Controller None (turn (at standing.Undefined 0))).out ≡ output.ToDist (n 2) (message.Weight a 3 (n 1)) ∷ output.Monitor (n 2) ∷ []
unfolding start_appl start_distributed find_start_node
asks_for_weights = refl

waits_for_weights : (start_appl a asked.Controller None (turn (at standing.Undefined 0))).state.stand ≡ stand.ForWeight weighing
unfolding start_appl start_distributed find_start_node
waits_for_weights = refl

-- a lighter node is waited for until it has started the application
lighter_node : (resumed (stand.ForWeight weighing) (message.Weight a 2 (n 2)) (turn (at standing.Undefined 0))).state.stand ≡ stand.ForStart attempt (n 2)
unfolding is_to_start
lighter_node = refl

-- Of two that are as heavy the first by name starts it: the controller is told, and the lock of the node is free again.
first_by_name : (resumed (stand.ForWeight weighing) (message.Weight a 3 (n 2)) (turn (at standing.Undefined 0))).out
    ≡ to_controller (message.Reply a reply.StartIt) ∷ output.Free (Alone me) me ∷ []
unfolding is_to_start start_here finish
first_by_name = refl

then_waits_to_run : standing_of (resumed (stand.ForWeight weighing) (message.Weight a 3 (n 2)) (turn (at standing.Undefined 0))).state a ≡ standing.RunWaiting
unfolding is_to_start start_here finish
then_waits_to_run = refl

abbrev may_not_run : DistView
may_not_run = record (at standing.Undefined 0) { may = (false ∷ []) ∷ (false ∷ []) ∷ (true ∷ []) ∷ [] }

-- a node that may not run it waits until another one has started it
forbidden_waits : (start_appl a asked.Controller None (turn may_not_run)).state.stand ≡ stand.ForAnyStart (record attempt { permitted = n 2 ∷ [] })
unfolding start_appl start_distributed
forbidden_waits = refl

-- where no node may run it the controller is told, and nothing is waited for
none_may_run : (start_appl a asked.Controller None (turn (record may_not_run { may = (false ∷ []) ∷ (false ∷ []) ∷ (false ∷ []) ∷ [] }))).out
    ≡ to_controller (message.Reply a reply.NotStarted) ∷ output.Free (Alone me) me ∷ []
unfolding start_appl start_distributed finish
none_may_run = refl

-- the end of any node is taken, and then another one is looked for: here none is left
last_one_ends : (resumed (stand.ForAnyStart (record attempt { permitted = n 2 ∷ [] })) (message.NodeDown (n 2)) (turn may_not_run)).out
    ≡ to_controller (message.Reply a reply.NotStarted) ∷ output.Free (Alone me) me ∷ []
unfolding start_distributed finish
last_one_ends = refl

-- a start that it can't have the lock for is put off
parked : (handled (message.StartRequest a) (record (turn (at standing.Undefined 0)) { has_lock = false })).state.parked ≡ a ∷ []
parked = refl

-- one that was lost is started in place of the one at the lost node, and nobody waits for a reply
fails_over : (resumed (stand.ForWeight (record weighing { attempt = record attempt { asked_by = asked.Nobody } })) (message.NodeDown (n 2))
    (turn (at (standing.Failover (n 0)) 1))).out ≡ to_controller (message.Change a (change.Failover (n 0))) ∷ []
unfolding is_to_start start_here finish
fails_over = refl

-- ---- weights that nobody waits for

-- one of an application that runs is answered, and so is the answer
answers_a_weight : (weight_told a 1 (n 2) (turn (at standing.Local 0))).out ≡ output.ToDist (n 2) (message.Weight a 3 (n 1)) ∷ []
unfolding weight_told
answers_a_weight = refl

-- while the controller starts it the answer is 0
answers_nothing : (weight_told a 1 (n 2) (turn (at standing.RunWaiting 0))).out ≡ output.ToDist (n 2) (message.Weight a 0 (n 1)) ∷ []
unfolding weight_told
answers_nothing = refl

-- one of an application that runs nowhere is kept for a start
keeps_a_weight : (weight_told a 1 (n 2) (turn (at standing.Undefined 0))).state.tmp_locals ≡ record { app = a; weight = 1; node = n 2 } ∷ []
unfolding weight_told
keeps_a_weight = refl

-- ---- a node is down

-- an application that may run here is lost, and a timer is set, with the number of the loss
sets_a_timer : (node_down (n 2) (turn (at (standing.Distributed (n 2)) 1))).out ≡ output.After 5000 (message.RestartAppl a 2) ∷ []
unfolding node_down check_waiting
sets_a_timer = refl

is_lost_then : standing_of (node_down (n 2) (turn (at (standing.Distributed (n 2)) 1))).state a ≡ standing.Failover (n 2)
unfolding node_down check_waiting
is_lost_then = refl

-- the timer of an older loss starts it, too
older_timer : handled (message.RestartAppl a 1) (turn (at (standing.Failover (n 2)) 2)) ≡ start_appl a asked.Nobody None (turn (at (standing.Failover (n 2)) 2))
unfolding restart
older_timer = refl

-- behind a takeover it changes nothing
timer_too_late : handled (message.RestartAppl a 1) (turn (at standing.Local 1)) ≡ turn (at standing.Local 1)
unfolding restart
timer_too_late = refl

abbrev waiting : ℕ → App × PermitWaitView
waiting number = (a, record { caller = caller number; nodes = n 2 ∷ [] })

-- of those who wait for a node that is down every second one waits on
every_second_one : (check_waiting (n 2) (turn (record (at standing.Local 0) { p_reqs = waiting 1 ∷ waiting 2 ∷ waiting 3 ∷ [] }))).state.p_reqs ≡ waiting 2 ∷ []
unfolding check_waiting
every_second_one = refl

others_stop_it : (check_waiting (n 2) (turn (record (at standing.Local 0) { p_reqs = waiting 1 ∷ waiting 2 ∷ waiting 3 ∷ [] }))).state.s_reqs
    ≡ (a, caller 3) ∷ (a, caller 1) ∷ []
unfolding check_waiting
others_stop_it = refl

-- ---- introductions

-- a node that runs nothing is answered by one that runs nothing, too
answers_a_node : (new_node (n 2) (true ∷ []) (false ∷ []) (turn (at standing.Undefined 0))).out
    ≡ output.ToDist (n 2) (message.NewNode (n 1) (true ∷ []) (false ∷ [])) ∷ []
unfolding new_node
answers_a_node = refl

-- an answer, which names what runs, is none
answers_no_answer : new_node (n 2) (true ∷ []) (true ∷ []) (turn (at standing.Undefined 0)) ≡ turn (at standing.Undefined 0)
unfolding new_node
answers_no_answer = refl

-- ---- starts elsewhere

-- Of an application that is started here the controller is told, also where the start has failed; who waits for it is answered.
tells_of_a_failure : (app_started (n 2) a (Some (Listed a)) (turn (record (at standing.Local 0) { started = a ∷ []; p_reqs = waiting 1 ∷ [] }))).out
    ≡ to_controller (message.Change a (change.Started (n 2))) ∷ answered 1 ∷ []
unfolding app_started answer_permits
tells_of_a_failure = refl

-- of another one it is known where it runs
is_known : (app_started (n 2) a None (turn (at standing.Undefined 0))).state.remote_started ≡ (a, n 2) ∷ []
unfolding app_started
is_known = refl

-- ---- calls

-- Forbidden here, where it runs: all nodes of the list are told, and one that may run it is waited for.
forbids : (permit a false false (caller 1) (turn (at standing.Local 0))).out
    ≡ output.ToDist (n 2) (message.NewPermission (n 1) a false true) ∷ output.ToDist (n 0) (message.NewPermission (n 1) a false true) ∷ []
unfolding permit
forbids = refl

then_waits : (permit a false false (caller 1) (turn (at standing.Local 0))).state.p_reqs ≡ waiting 1 ∷ []
unfolding permit
then_waits = refl

-- a takeover is no start: the controller is told from where, and who asked waits
takes_over : (take_over a Temporary (caller 1) (turn (at (standing.Distributed (n 2)) 0))).state.t_reqs ≡ (a, caller 1) ∷ []
unfolding take_over
takes_over = refl

-- of the application's list it tells those that it knows, from the last place
tells_nodes : (get_nodes a (caller 1) (turn (at standing.Undefined 0))).out
    ≡ output.Send (record { from = me; to = caller 1; message = message.Nodes (n 1 ∷ n 2 ∷ []) }) ∷ []
unfolding get_nodes
tells_nodes = refl

-- of one that has no list, none
tells_none : (get_nodes b (caller 1) (turn (at standing.Undefined 0))).out ≡ output.Send (record { from = me; to = caller 1; message = message.Nodes [] }) ∷ []
unfolding get_nodes
tells_none = refl

-- ---- the mailbox

abbrev mailbox : DistView
mailbox = record (at standing.Undefined 0) { stand = stand.ForStart attempt (n 2); mail = message.Run a None ∷ message.AppStarted (n 2) a None ∷ [] }

-- where it waits for a start it takes what tells of it, and all else stays
takes_the_second : next_mail mailbox ≡ Some 1
takes_the_second = refl

the_first_stays : (handle_next 1 (turn mailbox)).state.mail ≡ message.Run a None ∷ []
unfolding handle_next runs_elsewhere finish
the_first_stays = refl

runs_there_then : standing_of (handle_next 1 (turn mailbox)).state a ≡ standing.Distributed (n 2)
unfolding handle_next runs_elsewhere finish
runs_there_then = refl

-- ---- the system around it

-- this one message lies in its mailbox
abbrev with_mail : Message → DistView → DistView
with_mail m d = record d { mail = m ∷ [] }

needs_its_lock : need_of 0 (with_mail (message.StartRequest a) (at standing.Undefined 0)) ≡ need.OwnLock
needs_its_lock = refl

-- behind the last message nothing is asked for
needs_nothing : need_of 1 (with_mail (message.StartRequest a) (at standing.Undefined 0)) ≡ need.Nothing
needs_nothing = refl

-- a weight of an application that runs is answered, one of an application that is lost is kept
answers_again : need_of 0 (with_mail (message.Weight a 1 (n 2)) (at standing.Local 0)) ≡ need.Answer (n 2) (Some a)
answers_again = refl

answers_no_lost_one : need_of 0 (with_mail (message.Weight a 1 (n 2)) (at (standing.Failover (n 2)) 1)) ≡ need.Nothing
answers_no_lost_one = refl

-- where it stands in the middle of something the weight is taken, but by another rule
asks_only_idle : need_of 0 (record (with_mail (message.Weight a 1 (n 2)) (at standing.Local 0)) { stand = stand.ForWeight weighing }) ≡ need.Nothing
asks_only_idle = refl

-- Two nodes of which neither runs anything introduce themselves without end; where one runs something, or has answered, they don't.
introduced_again : need_of 0 (with_mail (message.NewNode (n 2) (true ∷ []) (false ∷ [])) (at standing.Undefined 0)) ≡ need.Answer (n 2) None
introduced_again = refl

introduced_once : need_of 0 (with_mail (message.NewNode (n 2) (true ∷ []) (false ∷ [])) (at standing.Local 0)) ≡ need.Nothing
introduced_once = refl

has_answered : need_of 0 (with_mail (message.NewNode (n 2) (true ∷ []) (true ∷ [])) (at standing.Undefined 0)) ≡ need.Nothing
has_answered = refl

-- behind its node's wait it asks for the lock of all
needs_the_lock : need_of 0 (record (with_mail message.Go (at standing.Undefined 0)) { stand = stand.ForGo }) ≡ need.Lock
needs_the_lock = refl

-- of the start requests that found the lock held the first is sent again, behind all else
sends_the_first : (unparked (record (with_mail (message.Run a None) (at standing.Undefined 0)) { parked = b ∷ a ∷ [] })).mail
    ≡ message.Run a None ∷ message.StartRequest b ∷ []
sends_the_first = refl

keeps_the_second : (unparked (record (at standing.Undefined 0) { parked = b ∷ a ∷ [] })).parked ≡ a ∷ []
keeps_the_second = refl

sends_none : unparked (at standing.Undefined 0) ≡ at standing.Undefined 0
sends_none = refl

-- it names nothing that runs, although something does, and waits for the first node
introduces_itself : (introduced_to (n 0 ∷ n 2 ∷ []) (turn (at standing.Local 0))).out
    ≡ output.ToDist (n 0) (message.NewNode (n 1) (true ∷ []) (false ∷ []))
    ∷ output.ToDist (n 2) (message.NewNode (n 1) (true ∷ []) (false ∷ []))
    ∷ output.Monitor (n 0) ∷ []
unfolding introduced_to
introduces_itself = refl

waits_for_the_first : (introduced_to (n 0 ∷ n 2 ∷ []) (turn (at standing.Local 0))).state.stand
    ≡ stand.ForIntroduction (record { nodes = n 0 ∷ n 2 ∷ []; known = n 1 ∷ []; remote_started = [] })
unfolding introduced_to
waits_for_the_first = refl

-- alone it has the lock no more at once, and knows itself
alone : (introduced_to [] (turn (at standing.Undefined 0))).out ≡ output.Free Sync me ∷ []
unfolding introduced_to
alone = refl

knows_itself : (introduced_to [] (turn (at standing.Undefined 0))).state.known ≡ n 1 ∷ []
unfolding introduced_to
knows_itself = refl
