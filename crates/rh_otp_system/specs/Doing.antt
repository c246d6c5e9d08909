-- What a command does at first: a node begins, an operator calls, time passes.
use Rattle.std.specs.Prelude.{ℕ, zero, suc, List, [], ◌∷◌, ◌++◌, ◌+◌, length, nat_le, Bool, true, false, Option, Some, None, if◌then◌else◌}
use Rattle.rh_model.specs.declared.node.App.{App}
use Rattle.rh_model.specs.declared.node.Node.{Node}
use Rattle.rh_otp_model.specs.declared.message.Message.TheVariants as message
use Rattle.rh_otp_model.specs.declared.process.Role.TheVariants as role
use Rattle.rh_otp_model.specs.declared.wait.Wait.{Wait}
use Rattle.rh_otp_model.specs.declared.wait.Wait.TheVariants as wait
use Rattle.rh_otp_net.specs.declared.order.Order.{Order}
use Rattle.rh_otp_net.specs.declared.timers.Timer.{Timer}
use Rattle.rh_otp_net.specs.Timers as timers
use Rattle.rh_otp_node.specs.Live.{begun}
use Rattle.rh_otp_system.specs.declared.calls.Ask.{Ask}
use Rattle.rh_otp_system.specs.declared.calls.Call.{Call}
use Rattle.rh_otp_system.specs.declared.calls.Stage.{Stage}
use Rattle.rh_otp_system.specs.declared.calls.Stage.TheVariants as stage
use Rattle.rh_otp_system.specs.Calls.{process_of, message_of, is_takeover}
use Rattle.rh_otp_system.specs.Calling.{go_on_call}
use Rattle.rh_otp_system.specs.Connecting.{with_up, reach}
use Rattle.rh_otp_system.specs.Ending.{ended}
use Rattle.rh_otp_system.specs.Joining.{join, go_on}
use Rattle.rh_otp_system.specs.Moves.{settled, is_settled_by}
use Rattle.rh_otp_system.specs.Sending.{sent, after}
use Rattle.rh_otp_system.specs.State.{SystemView, node_at, with_node, own_at, wait_at, is_alive_at, process_in}

-- ---- a node begins

-- its processes begin
abbrev pub begun_in : Node → SystemView → SystemView
begun_in n s = with_node n (begun s.cluster (own_at s n) n (node_at s n)) s

-- and it is alive, behind all that are
abbrev pub begun_at : Node → SystemView → SystemView
begun_at n s = record (begun_in n s) { alive = s.alive ++ n ∷ [] }

-- kernel sees a node of its lists that is alive
abbrev pub seen_at_once : Node → Node → SystemView → SystemView
seen_at_once n other s = if is_alive_at s other then with_up n other (reach n other s) else s

abbrev pub all_seen : Node → List Node → SystemView → SystemView
all_seen n [] s = s
all_seen n (other ∷ others) s = all_seen n others (seen_at_once n other s)

abbrev pub with_timeout : Node → Option ℕ → SystemView → SystemView
with_timeout n None s = s
with_timeout n (Some time) s = after time (process_in s n role.KernelConfig) message.Timeout s

-- kernel_config:sync_nodes/0, wait_nodes/2: the nodes of its lists that are alive, then the others
unfoldable pub waited_for : Node → Option ℕ → SystemView → SystemView
waited_for n time s =
    go_on n (with_timeout n time (all_seen n (node_at s n).optional (all_seen n (node_at s n).mandatory s)))

-- how it waits by its own file; {badopt, {sync_nodes_timeout, ..}} ends it
abbrev pub waited : Wait → Node → SystemView → SystemView
waited wait.Unset n s = join n s
waited wait.Refused n s = ended n s
waited (wait.After time) n s = waited_for n (Some time) s
waited wait.Forever n s = waited_for n None s

-- a node begins
unfoldable pub booted : Node → SystemView → SystemView
booted n s = waited (wait_at s n) n (begun_at n s)

-- ---- calls

-- what a call waits for at first: a takeover asks dist_ac alone
abbrev pub first_stage : Ask → Stage
first_stage a = if is_takeover a then stage.Synchronised else stage.Controller

-- the next call
abbrev pub call_of : Ask → Node → App → SystemView → Call
call_of a n app s = record {
  number = s.last_call + 1;
  ask = a;
  node = n;
  life = (node_at s n).life;
  app = app;
  only_loaded = false;
  stage = first_stage a;
}

-- what a call does at first
abbrev pub first_done : ℕ → Call → SystemView → SystemView
first_done place call s =
    if is_takeover call.ask then go_on_call place s
    else sent (process_of call) (record (process_of call) { role = role.Controller }) (message_of call) s

abbrev pub with_call : Call → SystemView → SystemView
with_call call s = record s { calls = s.calls ++ call ∷ []; last_call = call.number }

-- an operator calls at a node
unfoldable pub called : Ask → Node → App → SystemView → SystemView
called a n app s = first_done (length s.calls) (call_of a n app s) (with_call (call_of a n app s) s)

-- ---- time passes

-- a timer fires
abbrev pub fired : Timer → SystemView → SystemView
fired t s = sent (record t.to { role = role.Timer }) t.to t.message s

abbrev pub all_fired : List Timer → SystemView → SystemView
all_fired [] s = s
all_fired (t ∷ timers) s = all_fired timers (fired t s)

-- the clock stands at this time, and the timers that are due next fire
unfoldable pub fired_next : ℕ → SystemView → SystemView
fired_next due s = all_fired (timers.fired s.timers) (record s { clock = due; timers = timers.left s.timers })

abbrev pub until_if : ℕ → Option (ℕ × ℕ) → Option ℕ
until_if end None = None
until_if end (Some time) = if nat_le time.0 end then Some time.0 else None

-- when the next timer is due, if it is until then
abbrev pub next_until : ℕ → SystemView → Option ℕ
next_until end s = until_if end (timers.next_due s.timers)

abbrev pub passed_by : (SystemView → SystemView) → ℕ → Order → Option ℕ → SystemView → SystemView
passed_by go_on most order None s = s
passed_by go_on most order (Some due) s =
    if is_settled_by most order (fired_next due s) then go_on (settled most order (fired_next due s))
    else settled most order (fired_next due s)

-- the timers that are due until then fire, so often at most, and between them all moves in this order until nothing does
abbrev pub passed : ℕ → ℕ → ℕ → Order → SystemView → SystemView
passed zero end most order s = s
passed (suc times) end most order s = passed_by (passed times end most order) most order (next_until end s) s

abbrev pub is_past_by : (SystemView → Bool) → ℕ → Order → Option ℕ → SystemView → Bool
is_past_by go_on most order None s = true
is_past_by go_on most order (Some due) s =
    if is_settled_by most order (fired_next due s) then go_on (settled most order (fired_next due s)) else false

-- are all of them over, and does nothing move?
abbrev pub is_past : ℕ → ℕ → ℕ → Order → SystemView → Bool
is_past zero end most order s = false
is_past (suc times) end most order s = is_past_by (is_past times end most order) most order (next_until end s) s

-- time begins to pass: those who sleep ask for their lock again
abbrev pub ticking : ℕ → Order → SystemView → SystemView
ticking most order s = settled most order (record s { is_ticking = true })

abbrev pub ticked_behind : ℕ → ℕ → Order → Bool → SystemView → SystemView
ticked_behind end most order true s = record (passed most end most order s) { clock = end; is_ticking = false }
ticked_behind end most order false s = s

-- time passes until the clock stands there
unfoldable pub ticked : ℕ → ℕ → Order → SystemView → SystemView
ticked end most order s =
    ticked_behind end most order (is_settled_by most order (record s { is_ticking = true })) (ticking most order s)

-- is all quiet behind it?
unfoldable pub is_ticked : ℕ → ℕ → Order → SystemView → Bool
is_ticked end most order s =
    if is_settled_by most order (record s { is_ticking = true }) then is_past most end most order (ticking most order s) else false
