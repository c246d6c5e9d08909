-- What a dist_ac sends, and what it asks of others.
use Rattle.std.specs.Prelude.{List, [], ◌∷◌, ◌++◌, ◌==◌, Option, Some, None, if◌then◌else◌}
use Rattle.rh_model.specs.declared.node.App.{App}
use Rattle.rh_model.specs.declared.node.Node.{Node}
use Rattle.rh_model.specs.declared.settings.Dep.{Dep}
use Rattle.rh_otp_model.specs.declared.fault.Fault.TheVariants.{NeedsRunning}
use Rattle.rh_otp_model.specs.declared.fault.Outcome.{Outcome}
use Rattle.rh_otp_model.specs.declared.fault.Outcome.TheVariants.{Done, Failed}
use Rattle.rh_otp_model.specs.declared.message.Message.{Message}
use Rattle.rh_otp_model.specs.declared.message.Message.TheVariants.{Answer}
use Rattle.rh_otp_model.specs.declared.output.Output.{Output}
use Rattle.rh_otp_model.specs.declared.output.Output.TheVariants.{Send, ToDist, Monitor, Free}
use Rattle.rh_otp_model.specs.declared.output.Requester.{Requester}
use Rattle.rh_otp_model.specs.declared.process.Process.{Process}
use Rattle.rh_otp_model.specs.declared.process.Role.TheVariants as role
use Rattle.rh_otp_model.specs.Processes.{process_at}
use Rattle.rh_otp_model.specs.Rows.{without_rows}
use Rattle.rh_otp_dist.specs.State.{TurnView, with_state, without_first}

-- with one more thing done
abbrev pub with_output : Output → TurnView → TurnView
with_output o t = record t { out = t.out ++ o ∷ [] }

-- the process itself
abbrev pub me : TurnView → Process
me t = process_at t.here role.DistAc

-- {dist_ac, Node} ! Message
abbrev pub send_to : Node → Message → TurnView → TurnView
send_to n message t = with_output (ToDist n message) t

-- send_msg/2: to each of these nodes but its own
abbrev pub send_all : List Node → Message → TurnView → TurnView
send_all [] message t = t
send_all (n ∷ nodes) message t = send_all nodes message (if n.0 == t.here.node.0 then t else send_to n message t)

-- to the controller of its node
abbrev pub to_controller : Message → TurnView → TurnView
to_controller message t =
    with_output (Send (record { from = me t; to = process_at t.here role.Controller; message = message })) t

-- gen_server:reply/2
abbrev pub answer : Process → Outcome → TurnView → TurnView
answer caller outcome t = with_output (Send (record { from = me t; to = caller; message = Answer outcome })) t

-- monitor_node(Node, true)
abbrev pub monitor : Node → TurnView → TurnView
monitor n t = with_output (Monitor n) t

-- monitor_node(Node, false)
abbrev pub demonitor : Node → TurnView → TurnView
demonitor n t = with_state (record t.state { monitored = without_first n t.state.monitored }) t

-- global:del_lock/2
abbrev pub free_lock : Requester → Process → TurnView → TurnView
free_lock requester owner t = with_output (Free requester owner) t

-- answers to all of these that wait for the application
abbrev pub answer_each : App → Outcome → List (App × Process) → TurnView → TurnView
answer_each a outcome [] t = t
answer_each a outcome (row ∷ rows) t = answer_each a outcome rows (if row.0.0 == a.0 then answer row.1 outcome t else t)

-- the outcome of a start that lacked this, or nothing
abbrev pub outcome_of : Option Dep → Outcome
outcome_of None = Done
outcome_of (Some d) = Failed (NeedsRunning d)

-- with these that wait for takeovers
abbrev pub with_takeovers : List (App × Process) → TurnView → TurnView
with_takeovers rows t = with_state (record t.state { t_reqs = rows }) t

-- del_t_reqs/3: the takeovers of an application have this outcome
unfoldable pub del_t_reqs : App → Outcome → TurnView → TurnView
del_t_reqs a outcome t = with_takeovers (without_rows a t.state.t_reqs) (answer_each a outcome t.state.t_reqs t)
