-- What a command begins with is a turn of the node, too: behind its beginning, where a node begins.
use Rattle.std.proofs.Common.{◌≡◌, ℕ, Bool, true, false, cond, ◌==◌, ◌+◌, ◌^◌, nat_lt, List, [], ◌∷◌, length, Option, Some, None, refl, ap, ◌∙◌}
use Rattle.rh_model.specs.declared.node.App.{App}
use Rattle.rh_model.specs.declared.node.Node.{Node}
use Rattle.rh_otp_model.specs.declared.message.Message.TheVariants as message
use Rattle.rh_otp_model.specs.declared.wait.Wait.{Wait}
use Rattle.rh_otp_model.specs.declared.wait.Wait.TheVariants as wait
use Rattle.rh_otp_net.specs.declared.links.Link.{Link}
use Rattle.rh_otp_net.specs.Links as links
use Rattle.rh_otp_node.specs.Live.{LiveView, is_alive, begun}
use Rattle.rh_history.specs.Draft.{DraftView}
use Rattle.rh_otp_system.specs.declared.calls.Ask.{Ask}
use Rattle.rh_otp_system.specs.declared.calls.Call.{Call}
use Rattle.rh_otp_system.specs.declared.cell.Cell.{Cell}
use Rattle.rh_otp_system.specs.Calls.{is_takeover}
use Rattle.rh_otp_system.specs.Connecting as connecting
use Rattle.rh_otp_system.specs.Doing as doing
use Rattle.rh_otp_system.specs.State.{SystemView, live_at, node_at, own_at, wait_at, is_alive_at}
use Rattle.rh_otp_system.specs.Sending.{after}
use Rattle.rh_otp_laws.proofs.Turn.{Turn, nothing, put, called, ◌then◌, either}
use Rattle.rh_otp_laws.proofs.Nodes.{node_written}
use Rattle.rh_otp_laws.proofs.Working.{reaches, sets}
use Rattle.rh_otp_laws.proofs.Moving.{ends, joins, goes_on, call_goes_on}

-- ---- what only connects and sends keeps the nodes as they are

abbrev SameNodes : SystemView → SystemView → Type 0
SameNodes s t = t.nodes ≡ s.nodes

same_if : (b : Bool) (x y s : SystemView) → SameNodes s x → SameNodes s y → SameNodes s (cond b x y)
same_if true x y s p q = p
same_if false x y s p q = q

told_up_same : (one two : Node) (s : SystemView) → SameNodes s (connecting.tell_up one two s)
told_up_same one two s = same_if (connecting.waits_in (node_at s one).phase) _ _ s refl refl

slow_links_same : (more : List Link) (s : SystemView) → SameNodes s (connecting.with_slow_links more s)
slow_links_same [] s = refl
slow_links_same (l ∷ more) s = slow_links_same more _

link_same : (one two : Node) (s : SystemView) → SameNodes s (connecting.link one two s)
link_same one two s = told_up_same two one _ ∙ told_up_same one two _

connect_same : (one two : Node) (s : SystemView) → SameNodes s (connecting.connect one two s)
unfolding connecting.connect
connect_same one two s =
    same_if (links.are_linked one two s.links) _ _ s refl (slow_links_same (links.to_connect one two s.links) _ ∙ link_same one two s)

seen_same : (n other : Node) (s : SystemView) → SameNodes s (doing.seen_at_once n other s)
seen_same n other s =
    same_if (is_alive_at s other) _ _ s (same_if (n.0 == other.0) _ _ s refl (connect_same n other s)) refl

all_seen_same : (n : Node) (others : List Node) (s : SystemView) → SameNodes s (doing.all_seen n others s)
all_seen_same n [] s = refl
all_seen_same n (other ∷ others) s = all_seen_same n others _ ∙ seen_same n other s

after_same : (time : ℕ) (n : Node) (s : SystemView) → SameNodes s (doing.with_timeout n (Some time) s)
unfolding after
after_same time n s =
    same_if (time == 0) _ _ s refl (same_if (nat_lt 4294967295 time) _ _ s refl (same_if (nat_lt (s.clock + time) (2 ^ 64)) _ _ s refl refl))

timeout_same : (time : Option ℕ) (n : Node) (s : SystemView) → SameNodes s (doing.with_timeout n time s)
timeout_same None n s = refl
timeout_same (Some time) n s = after_same time n s

-- ---- a node begins

sees_at_once : (n other : Node) (s : SystemView) → Turn n s (doing.seen_at_once n other s)
sees_at_once n other s = either n (is_alive_at s other) _ _ s (reaches n n other s then put _ _) (nothing s)

sees_all : (n : Node) (others : List Node) (s : SystemView) → Turn n s (doing.all_seen n others s)
sees_all n [] s = nothing s
sees_all n (other ∷ others) s = sees_at_once n other s then sees_all n others _

waits_at_most : (n : Node) (time : Option ℕ) (s : SystemView) → Turn n s (doing.with_timeout n time s)
waits_at_most n None s = nothing s
waits_at_most n (Some time) s = sets n time _ message.Timeout s

waits_for : (n : Node) (time : Option ℕ) (s : SystemView) → is_alive_at s n ≡ true → Turn n s (doing.waited_for n time s)
unfolding doing.waited_for
waits_for n time s alive =
    let seen : SystemView = doing.all_seen n (node_at s n).mandatory s in
    let all : SystemView = doing.all_seen n (node_at s n).optional seen in
    let same : (doing.with_timeout n time all).nodes ≡ s.nodes =
    timeout_same time n all ∙ all_seen_same n (node_at s n).optional seen ∙ all_seen_same n (node_at s n).mandatory s in
    sees_all n (node_at s n).mandatory s then sees_all n (node_at s n).optional seen then waits_at_most n time all
    then goes_on n (doing.with_timeout n time all)
    (ap (λ (nodes : DraftView Cell). is_alive_at (record s { nodes = nodes }) n) same ∙ alive)

waits : (w : Wait) (n : Node) (s : SystemView) → is_alive_at s n ≡ true → Turn n s (doing.waited w n s)
waits wait.Unset n s alive = joins n s alive
waits wait.Refused n s alive = ends n s
waits (wait.After time) n s alive = waits_for n (Some time) s alive
waits wait.Forever n s alive = waits_for n None s alive

-- where a node begins it is alive, in its next life
pub begun_there : (s : SystemView) (n : Node) (v : LiveView) → live_at s n ≡ Some v
    → node_at (doing.begun_at n s) n ≡ begun s.cluster (own_at s n) n (node_at s n)
begun_there s n v there = node_written s n v (begun s.cluster (own_at s n) n (node_at s n)) there

pub boots : (s : SystemView) (n : Node) (v : LiveView) → live_at s n ≡ Some v → Turn n (doing.begun_at n s) (doing.booted n s)
unfolding doing.booted
boots s n v there = waits (wait_at s n) n (doing.begun_at n s) (ap is_alive (begun_there s n v there))

-- ---- an operator calls

begins_call : (k : Node) (place : ℕ) (call : Call) (s : SystemView) → Turn k s (doing.first_done place call s)
begins_call k place call s = either k (is_takeover call.ask) _ _ s (call_goes_on k place s) (put s _)

pub calls_on : (k : Node) (a : Ask) (n : Node) (app : App) (s : SystemView) → Turn k s (doing.called a n app s)
unfolding doing.called
calls_on k a n app s =
    let call : Call = doing.call_of a n app s in
    called s _ _ then begins_call k (length s.calls) call (doing.with_call call s)
