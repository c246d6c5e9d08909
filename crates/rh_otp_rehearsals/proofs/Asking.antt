-- A call goes on the same way in two systems that differ in what no node reads alone.
use Rattle.std.proofs.Common.{◌≡◌, ◌&&◌, ◌==◌, ◌+◌, ℕ, Bool, false, cond, List, filter, Option, Some, None, position, slice_get, slice_set, length, refl, sym, ap, subst}
use Rattle.rh_model.specs.declared.node.App.{App}
use Rattle.rh_model.specs.declared.node.Node.{Node}
use Rattle.rh_otp_model.specs.declared.fault.Outcome.{Outcome}
use Rattle.rh_otp_model.specs.declared.message.Message.{Message}
use Rattle.rh_otp_model.specs.declared.message.Message.TheVariants as message
use Rattle.rh_otp_model.specs.declared.output.Event.TheVariants as event
use Rattle.rh_otp_model.specs.declared.output.Requester.TheVariants.{Alone}
use Rattle.rh_otp_model.specs.declared.process.Process.{Process}
use Rattle.rh_otp_model.specs.declared.process.Role.TheVariants as role
use Rattle.rh_otp_net.specs.Links as links
use Rattle.rh_otp_net.specs.Locks.{is_free, taken}
use Rattle.rh_otp_node.specs.Live.{LiveView}
use Rattle.rh_otp_system.specs.declared.calls.Ask.{Ask}
use Rattle.rh_otp_system.specs.declared.calls.Call.{Call}
use Rattle.rh_otp_system.specs.declared.calls.Stage.{Stage}
use Rattle.rh_otp_system.specs.declared.calls.Stage.TheVariants as stage
use Rattle.rh_otp_system.specs.Calling as calling
use Rattle.rh_otp_system.specs.Calls.{process_of, message_of, second_of, is_takeover}
use Rattle.rh_otp_system.specs.Doing as doing
use Rattle.rh_otp_system.specs.Outputs.{free}
use Rattle.rh_otp_system.specs.Sending.{sent, told}
use Rattle.rh_otp_system.specs.State.{SystemView, lives_in, lives}
use Rattle.rh_otp_system.specs.Working.{around, alive_of}
use Rattle.rh_otp_rehearsals.proofs.Twins.{Twins, Between, between_of, twin_between, twin_node, twin_alive, twins_by, twins_if}

sends : (from to : Process) (m : Message) (s t : SystemView) → Twins s t → Twins (sent from to m s) (sent from to m t)
sends from to m s t g =
    twins_by (between_of (sent from to m s)) (between_of (sent from to m t)) s t
    (sym (ap (λ (u : SystemView). between_of (sent from to m u)) g.is)) g

-- ---- its stage

with_calls : (f : List Call → List Call) (s t : SystemView) → Twins s t
    → Twins (record s { calls = f s.calls }) (record t { calls = f t.calls })
with_calls f s t g =
    twins_by (between_of (record s { calls = f s.calls })) (between_of (record t { calls = f t.calls })) s t
    (ap (λ (x : Between). record x { calls = f x.calls }) (twin_between s t g)) g

same_found : (place : ℕ) (s t : SystemView) → Twins s t → slice_get s.calls place ≡ slice_get t.calls place
same_found place s t g = ap (λ (x : Between). slice_get x.calls place) (twin_between s t g)

stages_if : (place : ℕ) (w : Stage) (found : Option Call) (s t : SystemView) → Twins s t
    → Twins (calling.stage_if place w found s) (calling.stage_if place w found t)
stages_if place w None s t g = g
stages_if place w (Some call) s t g = with_calls (λ calls. slice_set calls place (record call { stage = w })) s t g

stages : (place : ℕ) (w : Stage) (s t : SystemView) → Twins s t → Twins (calling.with_stage place w s) (calling.with_stage place w t)
stages place w s t g =
    subst (λ (found : Option Call). Twins (calling.with_stage place w s) (calling.stage_if place w found t)) (same_found place s t g)
    (stages_if place w (slice_get s.calls place) s t g)

loads_if : (place : ℕ) (only_loaded : Bool) (found : Option Call) (s t : SystemView) → Twins s t
    → Twins (calling.loaded_if place only_loaded found s) (calling.loaded_if place only_loaded found t)
loads_if place only_loaded None s t g = g
loads_if place only_loaded (Some call) s t g = with_calls (λ calls. slice_set calls place (record call { only_loaded = only_loaded })) s t g

loads : (place : ℕ) (only_loaded : Bool) (s t : SystemView) → Twins s t
    → Twins (calling.with_loaded place only_loaded s) (calling.with_loaded place only_loaded t)
loads place only_loaded s t g =
    subst (λ (found : Option Call). Twins (calling.with_loaded place only_loaded s) (calling.loaded_if place only_loaded found t))
    (same_found place s t g) (loads_if place only_loaded (slice_get s.calls place) s t g)

-- ---- how it goes on

abbrev dist_of : Call → Process
dist_of call = record (process_of call) { role = role.DistAc }

pub same_alive_of : (nodes : List Node) (s t : SystemView) → Twins s t → alive_of s nodes ≡ alive_of t nodes
same_alive_of nodes s t g = λ i. filter (λ (m : Node). twin_alive s t m g i) nodes

same_free : (call : Call) (nodes : List Node) (s t : SystemView) → Twins s t
    → is_free (Alone (process_of call)) (alive_of s nodes) s.locks ≡ is_free (Alone (process_of call)) (alive_of t nodes) t.locks
same_free call nodes s t g = λ i. is_free (Alone (process_of call)) (same_alive_of nodes s t g i) (twin_between s t g i).locks

takes : (call : Call) (nodes : List Node) (s t : SystemView) → Twins s t
    → Twins (calling.with_lock call (alive_of s nodes) s) (calling.with_lock call (alive_of t nodes) t)
takes call nodes s t g =
    twins_by (between_of (calling.with_lock call (alive_of s nodes) s)) (between_of (calling.with_lock call (alive_of t nodes) t)) s t
    (λ i. record (twin_between s t g i) {
      locks = taken (Alone (process_of call)) (process_of call) (same_alive_of nodes s t g i) (twin_between s t g i).locks;
    }) g

locks_call : (place : ℕ) (call : Call) (nodes : List Node) (s t : SystemView) → Twins s t
    → Twins (calling.lock_call place call nodes s) (calling.lock_call place call nodes t)
unfolding calling.lock_call
locks_call place call nodes s t g =
    let locked : Twins (calling.with_lock call (alive_of s nodes) s) (calling.with_lock call (alive_of t nodes) t) =
    takes call nodes s t g in
    twins_if _ _ _ _ _ _ (same_free call nodes s t g)
    (sends (process_of call) (dist_of call) (second_of call) _ _ (stages place stage.DistAc _ _ locked)) locked

waits_for_lock : (place : ℕ) (call : Call) (nodes : List Node) (s t : SystemView) → Twins s t
    → Twins (calling.wait_for_lock place call nodes s) (calling.wait_for_lock place call nodes t)
unfolding calling.wait_for_lock
waits_for_lock place call nodes s t g = locks_call place call nodes _ _ (stages place (stage.Lock nodes) s t g)

goes_behind_sync : (place : ℕ) (call : Call) (s t : SystemView) → Twins s t
    → Twins (calling.behind_sync place call s) (calling.behind_sync place call t)
unfolding calling.behind_sync
goes_behind_sync place call s t g =
    twins_if (is_takeover call.ask) (is_takeover call.ask) _ _ _ _ refl
    (sends (process_of call) (dist_of call) (message.GetNodes call.app (process_of call)) _ _ (stages place stage.Nodes s t g))
    (subst (λ (nodes : List Node). Twins (calling.wait_for_lock place call (around s call.node) s)
    (calling.wait_for_lock place call nodes t))
    (ap (λ (x : Between). links.around call.node x.links) (twin_between s t g))
    (waits_for_lock place call (around s call.node) s t g))

goes_on_from : (w : Stage) (place : ℕ) (call : Call) (s t : SystemView) → Twins s t
    → Twins (calling.go_on_from w place call s) (calling.go_on_from w place call t)
goes_on_from stage.Synchronised place call s t g = goes_behind_sync place call s t g
goes_on_from (stage.Lock nodes) place call s t g = locks_call place call nodes s t g
goes_on_from w place call s t g = g

same_can_from : (w : Stage) (call : Call) (s t : SystemView) → Twins s t → calling.can_go_on_from w call s ≡ calling.can_go_on_from w call t
same_can_from stage.Synchronised call s t g = ap (λ (v : LiveView). calling.is_synchronised_in v.dist) (twin_node s t call.node g)
same_can_from (stage.Lock nodes) call s t g = same_free call nodes s t g
same_can_from w call s t g = refl

pub same_lives : (p : Process) (s t : SystemView) → Twins s t → lives s p ≡ lives t p
same_lives p s t g = ap (λ (v : LiveView). lives_in p.life v) (twin_node s t p.node g)

pub same_can_go_on : (call : Call) (s t : SystemView) → Twins s t → calling.can_go_on call s ≡ calling.can_go_on call t
same_can_go_on call s t g = λ i. cond (same_lives (process_of call) s t g i) (same_can_from call.stage call s t g i) false

goes_on_if : (place : ℕ) (found : Option Call) (s t : SystemView) → Twins s t
    → Twins (calling.go_on_if place found s) (calling.go_on_if place found t)
goes_on_if place None s t g = g
goes_on_if place (Some call) s t g = twins_if _ _ _ _ _ _ (same_can_go_on call s t g) (goes_on_from call.stage place call s t g) g

pub goes_on : (place : ℕ) (s t : SystemView) → Twins s t → Twins (calling.go_on_call place s) (calling.go_on_call place t)
unfolding calling.go_on_call
goes_on place s t g =
    subst (λ (found : Option Call). Twins (calling.go_on_if place (slice_get s.calls place) s) (calling.go_on_if place found t))
    (same_found place s t g) (goes_on_if place (slice_get s.calls place) s t g)

-- ---- what it receives

tells_answer : (number : ℕ) (s t : SystemView) → Twins s t → Twins (told (event.Answered number) s) (told (event.Answered number) t)
unfolding told
tells_answer number s t g =
    twins_by (between_of (told (event.Answered number) s)) (between_of (told (event.Answered number) t)) s t
    (sym (ap (λ (u : SystemView). between_of (told (event.Answered number) u)) g.is)) g

frees : (call : Call) (s t : SystemView) → Twins s t
    → Twins (free (Alone (process_of call)) (process_of call) s) (free (Alone (process_of call)) (process_of call) t)
frees call s t g =
    twins_by (between_of (free (Alone (process_of call)) (process_of call) s)) (between_of (free (Alone (process_of call))
    (process_of call) t)) s t
    (sym (ap (λ (u : SystemView). between_of (free (Alone (process_of call)) (process_of call) u)) g.is)) g

answers : (place : ℕ) (call : Call) (o : Outcome) (s t : SystemView) → Twins s t
    → Twins (calling.answered_by place call o s) (calling.answered_by place call o t)
answers place call o s t g =
    twins_if (calling.is_first call.stage && calling.is_asked_on call.ask o) (calling.is_first call.stage && calling.is_asked_on call.ask o)
    _ _ _ _ refl (goes_on place _ _ (stages place stage.Synchronised _ _ (loads place (calling.is_only_loaded o) s t g)))
    (tells_answer call.number _ _ (stages place (stage.Done o) _ _ (frees call s t g)))

receives_by : (place : ℕ) (m : Message) (call : Call) (s t : SystemView) → Twins s t
    → Twins (calling.received_by place m call s) (calling.received_by place m call t)
receives_by place (message.Answer o) call s t g = answers place call o s t g
receives_by place (message.Nodes nodes) call s t g =
    twins_if (calling.is_for_nodes call.stage) (calling.is_for_nodes call.stage) _ _ _ _ refl
    (goes_on place _ _ (stages place (stage.Lock nodes) s t g)) g
receives_by place m call s t g = g

receives_if : (place : ℕ) (m : Message) (found : Option Call) (s t : SystemView) → Twins s t
    → Twins (calling.received_if place m found s) (calling.received_if place m found t)
receives_if place m None s t g = g
receives_if place m (Some call) s t g = receives_by place m call s t g

receives_at : (place : Option ℕ) (m : Message) (s t : SystemView) → Twins s t
    → Twins (calling.call_received_at place m s) (calling.call_received_at place m t)
receives_at None m s t g = g
receives_at (Some place) m s t g =
    subst (λ (found : Option Call). Twins (calling.received_at place m s) (calling.received_if place m found t)) (same_found place s t g)
    (receives_if place m (slice_get s.calls place) s t g)

pub receives_call : (number : ℕ) (m : Message) (s t : SystemView) → Twins s t
    → Twins (calling.call_received number m s) (calling.call_received number m t)
unfolding calling.call_received
receives_call number m s t g =
    subst (λ (place : Option ℕ). Twins (calling.call_received_at (calling.call_place number s) m s) (calling.call_received_at place m t))
    (ap (λ (x : Between). position (λ (c : Call). c.number == number) x.calls) (twin_between s t g))
    (receives_at (calling.call_place number s) m s t g)

-- ---- an operator calls

first_done : (place : ℕ) (call : Call) (s t : SystemView) → Twins s t
    → Twins (doing.first_done place call s) (doing.first_done place call t)
first_done place call s t g =
    twins_if (is_takeover call.ask) (is_takeover call.ask) _ _ _ _ refl (goes_on place s t g)
    (sends (process_of call) (record (process_of call) { role = role.Controller }) (message_of call) s t g)

same_call : (asked : Ask) (n : Node) (a : App) (s t : SystemView) → Twins s t → doing.call_of asked n a s ≡ doing.call_of asked n a t
same_call asked n a s t g = λ i. record {
  number = (twin_between s t g i).last_call + 1;
  ask = asked;
  node = n;
  life = (twin_node s t n g i).life;
  app = a;
  only_loaded = false;
  stage = doing.first_stage asked;
}

begins_call : (call : Call) (s t : SystemView) → Twins s t → Twins (doing.with_call call s) (doing.with_call call t)
begins_call call s t g =
    twins_by (between_of (doing.with_call call s)) (between_of (doing.with_call call t)) s t
    (sym (ap (λ (u : SystemView). between_of (doing.with_call call u)) g.is)) g

pub asks : (asked : Ask) (n : Node) (a : App) (s t : SystemView) → Twins s t → Twins (doing.called asked n a s) (doing.called asked n a t)
unfolding doing.called
asks asked n a s t g =
    let call : Call = doing.call_of asked n a s in
    subst (λ (c : Call). Twins (doing.called asked n a s) (doing.first_done (length t.calls) c (doing.with_call c t)))
    (same_call asked n a s t g)
    (subst (λ (k : ℕ). Twins (doing.called asked n a s) (doing.first_done k call (doing.with_call call t)))
    (ap (λ (x : Between). length x.calls) (twin_between s t g)) (first_done (length s.calls) call _ _ (begins_call call s t g)))
