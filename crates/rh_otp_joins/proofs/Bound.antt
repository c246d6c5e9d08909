-- Nodes that are connected are alive: a turn connects only nodes that are, and ends none.
use Rattle.std.proofs.Common.{◌≡◌, ℕ, zero, suc, Bool, true, false, ◌==◌, ◌&&◌, ◌+◌, ◌++◌, ◌^◌, cond, nat_lt, List, [], ◌∷◌, Option, Some, None, slice_get, refl, sym, ◌∙◌}
use Rattle.std.specs.Prelude.{All}
use Rattle.std.proofs.lemmas.Bool.{or_left}
use Rattle.std.proofs.lemmas.List.Folds.{list_any-append}
use Rattle.std.proofs.lemmas.List.Elements.{All-nil, All-cons, All-head, All-tail, All-append}
use Rattle.rh_model.specs.declared.node.App.{App}
use Rattle.rh_model.specs.declared.node.Node.{Node}
use Rattle.rh_model.specs.declared.settings.Restart.{Restart}
use Rattle.rh_otp_model.specs.declared.fault.Fault.{Fault}
use Rattle.rh_otp_model.specs.declared.fault.Outcome.{Outcome}
use Rattle.rh_otp_model.specs.declared.message.Message.{Message}
use Rattle.rh_otp_model.specs.declared.message.Message.TheVariants as message
use Rattle.rh_otp_model.specs.declared.output.Envelope.{Envelope}
use Rattle.rh_otp_model.specs.declared.output.Event.{Event}
use Rattle.rh_otp_model.specs.declared.output.Event.TheVariants as event
use Rattle.rh_otp_model.specs.declared.output.Output.{Output}
use Rattle.rh_otp_model.specs.declared.output.Output.TheVariants as output
use Rattle.rh_otp_model.specs.declared.output.Requester.{Requester}
use Rattle.rh_otp_model.specs.declared.output.Requester.TheVariants.{Sync, Alone}
use Rattle.rh_otp_model.specs.declared.process.Process.{Process}
use Rattle.rh_otp_model.specs.declared.process.Role.TheVariants as role
use Rattle.rh_otp_model.specs.declared.process.StartType.{StartType}
use Rattle.rh_otp_dist.specs.declared.outside.Need.{Need}
use Rattle.rh_otp_dist.specs.declared.outside.Need.TheVariants as need
use Rattle.rh_otp_dist.specs.declared.turn.Asked.{Asked}
use Rattle.rh_otp_dist.specs.Outside as outside
use Rattle.rh_otp_net.specs.declared.links.Link.{Link}
use Rattle.rh_otp_net.specs.Links as links
use Rattle.rh_otp_net.specs.Locks.{is_free, taken}
use Rattle.rh_otp_node.specs.Kernel as kernel
use Rattle.rh_otp_node.specs.Live.{LiveView, with_kind, is_alive}
use Rattle.rh_otp_system.specs.declared.calls.Call.{Call}
use Rattle.rh_otp_system.specs.declared.calls.Stage.{Stage}
use Rattle.rh_otp_system.specs.declared.calls.Stage.TheVariants as stage
use Rattle.rh_otp_system.specs.declared.slow.Answered.{Answered}
use Rattle.rh_otp_system.specs.declared.slow.Slow.{Slow}
use Rattle.rh_otp_system.specs.Calls.{process_of, is_takeover}
use Rattle.rh_otp_system.specs.State.{SystemView, node_at, with_node, own_at, has_dist_at, is_alive_at, process_in}
use Rattle.rh_otp_system.specs.Sending.{observed, told, after, with_event, with_timer}
use Rattle.rh_otp_system.specs.Connecting as connecting
use Rattle.rh_otp_system.specs.Outputs.{free, carried_out, all_carried_out}
use Rattle.rh_otp_system.specs.Working as working
use Rattle.rh_otp_system.specs.Joining as joining
use Rattle.rh_otp_system.specs.Calling as calling
use Rattle.rh_otp_laws.proofs.Turn.{LivesOn}
use Rattle.rh_otp_laws.proofs.Nodes.{same_of_all}
use Rattle.rh_otp_laws.proofs.Working.{changed, mailed_on, introduced_on, handled_on}
use Rattle.rh_otp_laws.proofs.Moving.{seen_on}
use Rattle.rh_otp_joins.specs.Connections.{IsBound}

-- both ends of each connection are alive
abbrev pub AreBound : SystemView → Type 0
AreBound s = All (IsBound s) s.links

-- The same nodes are alive, and connections are between such as before.
pub record Keeps (s t : SystemView) : Type 0 where
  pub alive : (m : Node) → is_alive_at t m ≡ is_alive_at s m
  pub bound : AreBound s → AreBound t
  pub kept : (a b : Node) → links.are_linked a b s.links ≡ true → links.are_linked a b t.links ≡ true

-- ---- what is done

pub nothing : (s : SystemView) → Keeps s s
nothing s = record { alive = λ m. refl; bound = λ bound. bound; kept = λ a b is. is }

pub both : {s t u : SystemView} → Keeps s t → Keeps t u → Keeps s u
both p q = record {
  alive = λ m. q.alive m ∙ p.alive m;
  bound = λ bound. q.bound (p.bound bound);
  kept = λ a b is. q.kept a b (p.kept a b is);
}

infixl 5 ◌then◌
◌then◌ : {s t u : SystemView} → Keeps s t → Keeps t u → Keeps s u
p then q = both p q

either : (b : Bool) (x y s : SystemView) → Keeps s x → Keeps s y → Keeps s (cond b x y)
either true x y s p q = p
either false x y s p q = q

pub either_if : (b : Bool) (x y s : SystemView) → (b ≡ true → Keeps s x) → (b ≡ false → Keeps s y) → Keeps s (cond b x y)
either_if true x y s p q = p refl
either_if false x y s p q = q refl

-- connections stay where all nodes that were alive are
pub stay_alive : (s t : SystemView) → ((m : Node) → is_alive_at s m ≡ true → is_alive_at t m ≡ true) → (rows : List Link)
    → All (IsBound s) rows → All (IsBound t) rows
stay_alive s t still [] bound = All-nil (IsBound t)
stay_alive s t still (l ∷ rows) bound =
    let one : IsBound s l = All-head (IsBound s) l rows bound in
    All-cons (IsBound t) l rows (still l.0 one.0, still l.1 one.1) (stay_alive s t still rows (All-tail (IsBound s) l rows bound))

pub wrote : (n : Node) (s : SystemView) (v : LiveView) → LivesOn (node_at s n) v → Keeps s (with_node n v s)
wrote n s v on =
    let same : (m : Node) → is_alive_at (with_node n v s) m ≡ is_alive_at s m = λ m. same_of_all is_alive s n m v on.1 in
    record { alive = same; bound = stay_alive s (with_node n v s) (λ m alive. same m ∙ alive) s.links; kept = λ a b is. is }

noted : (s : SystemView) (m : Node) (a : App) (kind : StartType) → Keeps s (with_node m (with_kind a kind (node_at s m)) s)
noted s m a kind = wrote m s (with_kind a kind (node_at s m)) (refl, refl)

seen : (s : SystemView) (e : Event) → Keeps s (with_event e s)
seen s e = record { alive = λ m. refl; bound = λ bound. bound; kept = λ a b is. is }

put : (s : SystemView) (more : List Envelope) → Keeps s (record s { messages = s.messages ++ more })
put s more = record { alive = λ m. refl; bound = λ bound. bound; kept = λ a b is. is }

pub then_put : (s t : SystemView) (more : List Envelope) → Keeps s t → Keeps s (record t { messages = t.messages ++ more })
then_put s t more one = both one (put t more)

set : (s : SystemView) (due : ℕ) (to : Process) (m : Message) → Keeps s (with_timer due to m s)
set s due to m = record { alive = λ k. refl; bound = λ bound. bound; kept = λ a b is. is }

pub slowed : (s : SystemView) (slow : List Slow) → Keeps s (record s { slow = slow })
slowed s slow = record { alive = λ m. refl; bound = λ bound. bound; kept = λ a b is. is }

took : (s : SystemView) (r : Requester) (p : Process) (nodes : List Node) → Keeps s (record s { locks = taken r p nodes s.locks })
took s r p nodes = record { alive = λ m. refl; bound = λ bound. bound; kept = λ a b is. is }

freed : (s : SystemView) (r : Requester) (p : Process) → Keeps s (free r p s)
freed s r p = record { alive = λ m. refl; bound = λ bound. bound; kept = λ a b is. is }

called : (s : SystemView) (calls : List Call) (last : ℕ) → Keeps s (record s { calls = calls; last_call = last })
called s calls last = record { alive = λ m. refl; bound = λ bound. bound; kept = λ a b is. is }

answered : (s : SystemView) (answers : List Answered) → Keeps s (record s { answers = answers })
answered s answers = record { alive = λ m. refl; bound = λ bound. bound; kept = λ a b is. is }

-- ---- Sending

observes : (e : Event) (s : SystemView) → Keeps s (observed e s)
observes (event.Started a m kind) s = noted s m a kind
observes e s = nothing s

tells : (e : Event) (s : SystemView) → Keeps s (told e s)
unfolding told
tells e s = observes e s then seen (observed e s) e

pub sets : (time : ℕ) (to : Process) (m : Message) (s : SystemView) → Keeps s (after time to m s)
unfolding after
sets time to m s =
    either (time == 0) _ _ s (put s _)
    (either (nat_lt 4294967295 time) _ _ s (nothing s) (either (nat_lt (s.clock + time) (2 ^ 64)) _ _ s (set s (s.clock + time) to m) (nothing s)))

-- ---- Connecting

tells_up : (one two : Node) (s : SystemView) → Keeps s (connecting.tell_up one two s)
tells_up one two s = either (connecting.waits_in (node_at s one).phase) _ _ s (put s _) (nothing s)

linked : (one two : Node) (s : SystemView) → is_alive_at s one ≡ true → is_alive_at s two ≡ true
    → Keeps s (record s { links = s.links ++ links.link one two ∷ [] })
linked one two s alive alive_too =
    record {
      alive = λ m. refl;
      bound = λ bound.
          All-append (IsBound s) s.links (links.link one two ∷ []) bound
          (All-cons (IsBound s) (links.link one two) [] (alive, alive_too) (All-nil (IsBound s)));
      kept = λ a b is.
          list_any-append (links.is_between a b) s.links (links.link one two ∷ [])
          ∙ or_left (links.are_linked a b s.links) (links.are_linked a b (links.link one two ∷ [])) is;
    }

slow_links : (more : List Link) (s : SystemView) → Keeps s (connecting.with_slow_links more s)
slow_links [] s = nothing s
slow_links (l ∷ more) s = slowed s _ then slow_links more _

pub connects : (one two : Node) (s : SystemView) → is_alive_at s one ≡ true → is_alive_at s two ≡ true → Keeps s (connecting.connect one two s)
unfolding connecting.connect
connects one two s alive alive_too =
    either (links.are_linked one two s.links) _ _ s (nothing s)
    (linked one two s alive alive_too then tells_up one two _ then tells_up two one _ then slow_links (links.to_connect one two s.links) _)

pub reaches : (one two : Node) (s : SystemView) → is_alive_at s one ≡ true → is_alive_at s two ≡ true → Keeps s (connecting.reach one two s)
reaches one two s alive alive_too = either (one.0 == two.0) _ _ s (nothing s) (connects one two s alive alive_too)

sends_to_dist : (n to : Node) (m : Message) (s : SystemView) → is_alive_at s n ≡ true → Keeps s (connecting.send_to_dist n to m s)
sends_to_dist n to m s alive =
    either_if (is_alive_at s to) _ _ s
    (λ is. reaches n to s alive is then either (has_dist_at (connecting.reach n to s) to) _ _ (connecting.reach n to s) (put _ _) (nothing _))
    (λ not. nothing s)

monitors : (n other : Node) (s : SystemView) → is_alive_at s n ≡ true → Keeps s (connecting.monitor n other s)
monitors n other s alive =
    let near : SystemView = connecting.reach n other s in
    either_if (is_alive_at s other) _ _ s
    (λ is. reaches n other s alive is then wrote n near _ (changed (outside.with_monitor other) (node_at near n).dist (node_at near n)))
    (λ not. put s _)

carries_out : (n : Node) (o : Output) (s : SystemView) → is_alive_at s n ≡ true → Keeps s (carried_out n o s)
carries_out n (output.Send e) s alive = put s _
carries_out n (output.Tell e) s alive = tells e s
carries_out n (output.ToDist to m) s alive = sends_to_dist n to m s alive
carries_out n (output.Monitor other) s alive = monitors n other s alive
carries_out n (output.Free requester owner) s alive = freed s requester owner
carries_out n (output.After time m) s alive = sets time _ m s

carries_all_out : (n : Node) (outputs : List Output) (s : SystemView) → is_alive_at s n ≡ true → Keeps s (all_carried_out n outputs s)
carries_all_out n [] s alive = nothing s
carries_all_out n (o ∷ outputs) s alive =
    let one : Keeps s (carried_out n o s) = carries_out n o s alive in
    one then carries_all_out n outputs (carried_out n o s) (one.alive n ∙ alive)

-- ---- Working

pub acts : (n : Node) (pair : LiveView × List Output) (s : SystemView) → LivesOn (node_at s n) pair.0 → is_alive_at s n ≡ true
    → Keeps s (working.behind n pair s)
acts n pair s on alive =
    let one : Keeps s (with_node n pair.0 s) = wrote n s pair.0 on in
    one then carries_all_out n pair.1 (with_node n pair.0 s) (one.alive n ∙ alive)

prepares : (n : Node) (w : Need) (s : SystemView) → Keeps s (working.prepared n w s)
prepares n need.OwnLock s = took s (Alone (process_in s n role.DistAc)) (process_in s n role.DistAc) (n ∷ [])
prepares n (need.Answer other a) s = answered s _
prepares n w s = nothing s

introduces : (n : Node) (s : SystemView) → is_alive_at s n ≡ true → Keeps s (working.introduced n s)
introduces n s alive =
    let others : List Node = working.dists_of s (links.linked_with n s.links) in
    acts n (working.introduction n others s) s (introduced_on s.cluster (own_at s n) n others (node_at s n)) alive

takes_lock_at : (n : Node) (nodes : List Node) (s : SystemView) → is_alive_at s n ≡ true → Keeps s (working.take_lock_at n nodes s)
takes_lock_at n nodes s alive =
    either (is_free Sync nodes s.locks) _ _ s (took s _ _ _ then introduces n (working.with_sync_lock n nodes s) alive) (took s _ _ _)

takes_lock_of : (n : Node) (nodes : Option (List Node)) (s : SystemView) → is_alive_at s n ≡ true → Keeps s (working.take_lock_of n nodes s)
takes_lock_of n None s alive = nothing s
takes_lock_of n (Some nodes) s alive = takes_lock_at n nodes s alive

pub takes_lock : (n : Node) (s : SystemView) → is_alive_at s n ≡ true → Keeps s (working.take_lock n s)
unfolding working.take_lock
takes_lock n s alive = takes_lock_of n (working.lock_nodes n s) s alive

goes : (n : Node) (s : SystemView) → is_alive_at s n ≡ true → Keeps s (working.gone n s)
unfolding working.gone
goes n s alive =
    let waits : SystemView = working.waiting_at n (working.around s n) s in
    let one : Keeps s waits = wrote n s _ (changed (outside.at_lock (working.around s n)) (node_at s n).dist (node_at s n)) in
    one then takes_lock n waits (one.alive n ∙ alive)

goes_if : (n : Node) (w : Need) (s : SystemView) → is_alive_at s n ≡ true → Keeps s (working.gone_if n w s)
goes_if n need.Lock s alive = goes n s alive
goes_if n w s alive = nothing s

turns : (n : Node) (has_lock burning : Bool) (s : SystemView) → is_alive_at s n ≡ true → Keeps s (working.behind_turn n has_lock burning s)
turns n has_lock burning s alive =
    let asked : Asked = working.asked_at n has_lock burning s in
    acts n (working.turn_of n asked s) s (handled_on s.cluster (own_at s n) n asked (node_at s n)) alive

handles_for : (n : Node) (w : Need) (told : Bool × Bool) (s : SystemView) → is_alive_at s n ≡ true → Keeps s (working.handled_for n w told s)
handles_for n w told s alive =
    let ready : SystemView = working.prepared n w s in
    let one : Keeps s ready = prepares n w s in
    let two : Keeps s (working.behind_turn n told.0 told.1 ready) = one then turns n told.0 told.1 ready (one.alive n ∙ alive) in
    two then goes_if n w (working.behind_turn n told.0 told.1 ready) (two.alive n ∙ alive)

handles : (n : Node) (s : SystemView) → is_alive_at s n ≡ true → Keeps s (working.handled n s)
unfolding working.handled
handles n s alive = handles_for n (working.need_at s n) (working.asked_for n (working.need_at s n) s) s alive

works_for : (k : ℕ) (n : Node) (s : SystemView) → is_alive_at s n ≡ true → Keeps s (working.work_for k n s)
works_for zero n s alive = nothing s
works_for (suc k) n s alive =
    let one : Keeps s (working.handled n s) = handles n s alive in
    either (working.has_next_at s n) _ _ s (one then works_for k n (working.handled n s) (one.alive n ∙ alive)) (nothing s)

pub works : (n : Node) (s : SystemView) → is_alive_at s n ≡ true → Keeps s (working.work n s)
unfolding working.work
works n s alive = works_for (working.mail_count_at s n) n s alive

pub gets_mail : (n : Node) (m : Message) (s : SystemView) → is_alive_at s n ≡ true → Keeps s (working.mailed n m s)
unfolding working.mailed
gets_mail n m s alive =
    let one : Keeps s (working.with_mail n m s) = wrote n s _ (mailed_on m (node_at s n)) in
    one then works n (working.with_mail n m s) (one.alive n ∙ alive)

-- ---- Joining

pub joins : (n : Node) (s : SystemView) → is_alive_at s n ≡ true → Keeps s (joining.join n s)
unfolding joining.join
joins n s alive =
    let up : SystemView = joining.joined_at n s in
    wrote n s (kernel.joined (node_at s n)) (refl, sym alive) then tells (event.Up n) up
    then either (has_dist_at (told (event.Up n) up) n) _ _ (told (event.Up n) up) (put _ _) (nothing _) then slowed _ _

pub goes_on : (n : Node) (s : SystemView) → is_alive_at s n ≡ true → Keeps s (joining.go_on n s)
goes_on n s alive = either (kernel.waits (node_at s n)) _ _ s (nothing s) (joins n s alive)

pub sees : (n other : Node) (s : SystemView) → is_alive_at s n ≡ true → Keeps s (joining.has_seen n other s)
unfolding joining.has_seen
sees n other s alive =
    let one : Keeps s (joining.seen_at n other s) = wrote n s (kernel.seen other (node_at s n)) (seen_on other (node_at s n)) in
    one then goes_on n (joining.seen_at n other s) (one.alive n ∙ alive)

tells_failed : (n : Node) (fault : Option Fault) (entry : Option (App × Restart)) (s : SystemView) → Keeps s (joining.failed_at n fault entry s)
tells_failed n None entry s = nothing s
tells_failed n (Some fault) None s = nothing s
tells_failed n (Some fault) (Some entry) s = tells _ s

starts : (n : Node) (entry : Option (App × Restart)) (s : SystemView) → Keeps s (joining.start_entry n entry s)
starts n (Some entry) s = put s _
starts n None s = either (joining.is_boot_end n s) _ _ s (tells _ s) (nothing s)

pub boots_on : (n : Node) (fault : Option Fault) (s : SystemView) → Keeps s (joining.boot_next n fault s)
unfolding joining.boot_next
boots_on n fault s =
    let over : SystemView = joining.told_failed n fault s in
    tells_failed n fault (joining.boot_entry n s) s then starts n (joining.boot_coming n over) over then wrote n _ _ (refl, refl)

pub boot_receives : (n : Node) (m : Message) (s : SystemView) → Keeps s (joining.boot_received n m s)
boot_receives n (message.Answer outcome) s = boots_on n _ s
boot_receives n m s = nothing s

-- ---- Calling

stages : (place : ℕ) (w : Stage) (found : Option Call) (s : SystemView) → Keeps s (calling.stage_if place w found s)
stages place w None s = nothing s
stages place w (Some call) s = called s _ s.last_call

staged : (place : ℕ) (w : Stage) (s : SystemView) → Keeps s (calling.with_stage place w s)
staged place w s = stages place w (slice_get s.calls place) s

loads : (place : ℕ) (only_loaded : Bool) (found : Option Call) (s : SystemView)
    → Keeps s (calling.loaded_if place only_loaded found s)
loads place only_loaded None s = nothing s
loads place only_loaded (Some call) s = called s _ s.last_call

locks_call : (place : ℕ) (call : Call) (nodes : List Node) (s : SystemView) → Keeps s (calling.lock_call place call nodes s)
unfolding calling.lock_call
locks_call place call nodes s =
    let alive : List Node = working.alive_of s nodes in
    either (is_free (Alone (process_of call)) alive s.locks) _ _ s
    (took s _ _ _ then staged place stage.DistAc (calling.with_lock call alive s) then put _ _) (took s _ _ _)

waits_for_lock : (place : ℕ) (call : Call) (nodes : List Node) (s : SystemView)
    → Keeps s (calling.wait_for_lock place call nodes s)
unfolding calling.wait_for_lock
waits_for_lock place call nodes s = staged place (stage.Lock nodes) s then locks_call place call nodes _

behind_sync : (place : ℕ) (call : Call) (s : SystemView) → Keeps s (calling.behind_sync place call s)
unfolding calling.behind_sync
behind_sync place call s =
    either (is_takeover call.ask) _ _ s (staged place stage.Nodes s then put _ _)
    (waits_for_lock place call (working.around s call.node) s)

goes_on_from : (w : Stage) (place : ℕ) (call : Call) (s : SystemView) → Keeps s (calling.go_on_from w place call s)
goes_on_from stage.Synchronised place call s = behind_sync place call s
goes_on_from (stage.Lock nodes) place call s = locks_call place call nodes s
goes_on_from w place call s = nothing s

goes_on_with : (place : ℕ) (call : Call) (s : SystemView) → Keeps s (calling.go_on_with place call s)
goes_on_with place call s = either (calling.can_go_on call s) _ _ s (goes_on_from call.stage place call s) (nothing s)

goes_on_if : (place : ℕ) (found : Option Call) (s : SystemView) → Keeps s (calling.go_on_if place found s)
goes_on_if place None s = nothing s
goes_on_if place (Some call) s = goes_on_with place call s

pub call_goes_on : (place : ℕ) (s : SystemView) → Keeps s (calling.go_on_call place s)
unfolding calling.go_on_call
call_goes_on place s = goes_on_if place (slice_get s.calls place) s

is_answered : (place : ℕ) (call : Call) (o : Outcome) (s : SystemView) → Keeps s (calling.done_with place call o s)
is_answered place call o s =
    freed s _ _ then staged place (stage.Done o) (free (Alone (process_of call)) (process_of call) s) then tells _ _

answers : (place : ℕ) (call : Call) (o : Outcome) (s : SystemView) → Keeps s (calling.answered_by place call o s)
answers place call o s =
    let only_loaded : Bool = calling.is_only_loaded o in
    either (calling.is_first call.stage && calling.is_asked_on call.ask o) _ _ s
    (loads place only_loaded (slice_get s.calls place) s
    then staged place stage.Synchronised (calling.with_loaded place only_loaded s) then call_goes_on place _)
    (is_answered place call o s)

is_told_nodes : (place : ℕ) (call : Call) (nodes : List Node) (s : SystemView) → Keeps s (calling.nodes_told place call nodes s)
is_told_nodes place call nodes s =
    either (calling.is_for_nodes call.stage) _ _ s (staged place (stage.Lock nodes) s then call_goes_on place _) (nothing s)

receives_by : (place : ℕ) (m : Message) (call : Call) (s : SystemView) → Keeps s (calling.received_by place m call s)
receives_by place (message.Answer o) call s = answers place call o s
receives_by place (message.Nodes nodes) call s = is_told_nodes place call nodes s
receives_by place m call s = nothing s

receives_if : (place : ℕ) (m : Message) (found : Option Call) (s : SystemView) → Keeps s (calling.received_if place m found s)
receives_if place m None s = nothing s
receives_if place m (Some call) s = receives_by place m call s

receives_at : (place : Option ℕ) (m : Message) (s : SystemView) → Keeps s (calling.call_received_at place m s)
receives_at None m s = nothing s
receives_at (Some place) m s = receives_if place m (slice_get s.calls place) s

pub call_receives : (number : ℕ) (m : Message) (s : SystemView) → Keeps s (calling.call_received number m s)
unfolding calling.call_received
call_receives number m s = receives_at (calling.call_place number s) m s
