-- What a command begins with leaves systems alike that are alike.
use Rattle.std.proofs.Common.{◌≡◌, ◌&&◌, ◌==◌, ◌++◌, ℕ, Bool, true, false, cond, List, [], ◌∷◌, length, slice_get, Option, Some, None, refl, sym, ap, subst, ◌∙◌, inl, inr, map, filter}
use Rattle.rh_model.specs.declared.node.App.{App}
use Rattle.rh_model.specs.declared.node.Node.{Node}
use Rattle.rh_otp_model.specs.declared.message.Message.{Message}
use Rattle.rh_otp_model.specs.declared.output.Envelope.{Envelope}
use Rattle.rh_otp_model.specs.declared.process.Process.{Process}
use Rattle.rh_otp_model.specs.declared.process.Role.TheVariants as role
use Rattle.rh_otp_model.specs.declared.wait.Wait.{Wait}
use Rattle.rh_otp_net.specs.Queue.{is_of_pair}
use Rattle.rh_otp_node.specs.Live.{is_alive}
use Rattle.rh_otp_system.specs.declared.calls.Ask.{Ask}
use Rattle.rh_otp_system.specs.declared.calls.Call.{Call}
use Rattle.rh_otp_system.specs.declared.calls.Stage.{Stage}
use Rattle.rh_otp_system.specs.declared.calls.Stage.TheVariants as stage
use Rattle.rh_otp_system.specs.Calling.{can_go_on_from, go_on_from, go_on_if, go_on_call}
use Rattle.rh_otp_system.specs.Calls.{process_of, message_of, is_takeover}
use Rattle.rh_otp_system.specs.Doing as doing
use Rattle.rh_otp_system.specs.Ending.{ended}
use Rattle.rh_otp_system.specs.Resting as resting
use Rattle.rh_otp_system.specs.Sending.{sent}
use Rattle.rh_otp_system.specs.State.{SystemView, node_at, wait_at, is_alive_at, process_in}
use Rattle.rh_otp_system.specs.Working.{lock_in}
use Rattle.rh_otp_laws.specs.Acting.{IsThere}
use Rattle.rh_otp_laws.proofs.Beginning.{begun_there}
use Rattle.rh_otp_orders.specs.Orders.{AreAlike}
use Rattle.rh_otp_orders.proofs.Calling.{goes_on}
use Rattle.rh_otp_orders.proofs.Falling.{Lists, lists_of, relist, end_alike, same_behind}
use Rattle.rh_otp_orders.proofs.Following.{alike_without, same_nodes, same_cell}
use Rattle.rh_otp_orders.proofs.Moving.{begins, runs_alike, same_read}
use Rattle.rh_otp_orders.proofs.Receiving.{Comes}
use Rattle.rh_otp_commands.specs.Commands.{CommandsBeginAlike}
use Rattle.rh_otp_commands.proofs.Alike.{written_of, written_alike}
use Rattle.rh_otp_commands.proofs.Booting.{waits}
use Rattle.rh_otp_commands.proofs.Firing.{fire_alike}

-- ---- a node begins

alive_more : (n : Node) (s t : SystemView) → AreAlike s t → AreAlike (doing.begun_at n s) (doing.begun_at n t)
alive_more n s t g =
    written_alike (written_of (doing.begun_at n s)) (written_of (doing.begun_at n t)) s t
    (same_read (λ (u : SystemView). written_of (doing.begun_at n u)) s t g) g

comes_alike : {n : Node} {s t u v : SystemView} → AreAlike s t → Comes n false true 0 s t s t u v → AreAlike u v
comes_alike g (inl same) = runs_alike g same
comes_alike {n} {s} {t} {u} {v} g (inr ends) =
    subst (λ (x : SystemView). AreAlike x v) (sym ends.0) (subst (AreAlike (ended n s)) (sym ends.1) (end_alike n s t g))

boot_alike : (n : Node) (s t : SystemView) → IsThere n s → AreAlike s t → AreAlike (doing.booted n s) (doing.booted n t)
unfolding doing.booted
boot_alike n s t there g =
    let more : AreAlike (doing.begun_at n s) (doing.begun_at n t) = alive_more n s t g in
    let alive : is_alive_at (doing.begun_at n s) n ≡ true = ap is_alive (begun_there s n there.0 there.1) in
    subst (λ (w : Wait). AreAlike (doing.booted n s) (doing.waited w n (doing.begun_at n t)))
    (same_read (λ (u : SystemView). wait_at u n) s t g)
    (comes_alike more (waits (wait_at s n) (begins n false 0 (doing.begun_at n s) (doing.begun_at n t) more alive)))

-- ---- an operator calls

call_more : (call : Call) (s t : SystemView) → AreAlike s t → AreAlike (doing.with_call call s) (doing.with_call call t)
call_more call s t g =
    written_alike (written_of (doing.with_call call s)) (written_of (doing.with_call call t)) s t
    (same_read (λ (u : SystemView). written_of (doing.with_call call u)) s t g) g

send_alike : (from to : Process) (m : Message) (s t : SystemView) → AreAlike s t → AreAlike (sent from to m s) (sent from to m t)
send_alike from to m s t g =
    let more : List Envelope = record { from = from; to = to; message = m } ∷ [] in
    alike_without s t (s.messages ++ more) (t.messages ++ more) g
    (λ pair. same_behind (is_of_pair pair) s.messages t.messages (s.messages ++ more) (t.messages ++ more) more (g.messages pair) refl refl)

-- a call of a node that isn't alive stays where it is
call_stands : (place : ℕ) (call : Call) (s : SystemView) → slice_get s.calls place ≡ Some call → is_alive_at s call.node ≡ false
    → go_on_call place s ≡ s
unfolding go_on_call
call_stands place call s at down =
    ap (λ (o : Option Call). go_on_if place o s) at
    ∙ (λ i. cond (cond (down i && (node_at s call.node).life == call.life) (can_go_on_from call.stage call s) false)
    (go_on_from call.stage place call s) s)

call_alike : (place : ℕ) (s t : SystemView) → AreAlike s t → AreAlike (go_on_call place s) (go_on_call place t)
unfolding go_on_call
call_alike place s t g = by (slice_get s.calls place) refl
  where
    too : slice_get t.calls place ≡ slice_get s.calls place
    too = ap (λ (l : List Call). slice_get l place) (sym g.calls)

    if_alive : (call : Call) → slice_get s.calls place ≡ Some call → (b : Bool) → is_alive_at s call.node ≡ b
        → AreAlike (go_on_call place s) (go_on_call place t)
    if_alive call at true alive =
        runs_alike g (goes_on place (λ other there. inr (refl, λ k. same_cell s t k g)) (begins call.node true 0 s t g alive))
    if_alive call at false down =
        subst (λ (x : SystemView). AreAlike x (go_on_call place t)) (sym (call_stands place call s at down))
        (subst (AreAlike s) (sym (call_stands place call t (too ∙ at) (ap is_alive (sym (same_nodes s t call.node g)) ∙ down))) g)

    by : (o : Option Call) → slice_get s.calls place ≡ o → AreAlike (go_on_call place s) (go_on_call place t)
    by None at =
        subst (λ (x : SystemView). AreAlike x (go_on_call place t)) (sym (ap (λ (o : Option Call). go_on_if place o s) at))
        (subst (AreAlike s) (sym (ap (λ (o : Option Call). go_on_if place o t) (too ∙ at))) g)
    by (Some call) at = if_alive call at (is_alive_at s call.node) refl

first_alike : (place : ℕ) (call : Call) (b : Bool) (s t : SystemView) → AreAlike s t
    → AreAlike (cond b (go_on_call place s) (sent (process_of call) (record (process_of call) { role = role.Controller })
    (message_of call) s))
    (cond b (go_on_call place t) (sent (process_of call) (record (process_of call) { role = role.Controller }) (message_of call) t))
first_alike place call true s t g = call_alike place s t g
first_alike place call false s t g =
    send_alike (process_of call) (record (process_of call) { role = role.Controller }) (message_of call) s t g

ask_alike : (asked : Ask) (n : Node) (a : App) (s t : SystemView) → AreAlike s t
    → AreAlike (doing.called asked n a s) (doing.called asked n a t)
unfolding doing.called
ask_alike asked n a s t g =
    let call : Call = doing.call_of asked n a s in
    subst (λ (c : Call). AreAlike (doing.called asked n a s) (doing.first_done (length t.calls) c (doing.with_call c t)))
    (same_read (doing.call_of asked n a) s t g)
    (subst (λ (k : ℕ). AreAlike (doing.called asked n a s) (doing.first_done k call (doing.with_call call t))) (ap length g.calls)
    (first_alike (length s.calls) call (is_takeover call.ask) _ _ (call_more call s t g)))

-- ---- between commands

same_held : (o : Option (List Node)) (x : Lists) (s : SystemView) → resting.held_back_at o (relist x s) ≡ resting.held_back_at o s
same_held None x s = refl
same_held (Some nodes) x s = refl

same_call_held : (w : Stage) (call : Call) (x : Lists) (s : SystemView)
    → resting.call_held_back_in w call (relist x s) ≡ resting.call_held_back_in w call s
same_call_held (stage.Lock nodes) call x s = refl
same_call_held w call x s = refl

sleepers : SystemView → List Process
sleepers s = resting.sleeping_dists s.alive s ++ resting.sleeping_calls s.calls s

same_sleepers : (s t : SystemView) → AreAlike s t → sleepers s ≡ sleepers t
unfolding sleepers
same_sleepers s t g =
    (λ i. map (λ n. process_in s n role.DistAc) (filter (λ n. sym (same_held (lock_in (node_at s n).dist) (lists_of t) s) i) s.alive)
    ++ map process_of (filter (λ call. sym (same_call_held call.stage call (lists_of t) s) i) s.calls))
    ∙ same_read sleepers s t g

rest_alike : (s t : SystemView) → AreAlike s t → AreAlike (resting.rested s) (resting.rested t)
unfolding resting.rested sleepers
rest_alike s t g =
    written_alike (written_of (resting.rested s)) (written_of (resting.rested t)) s t
    (λ i. record (same_read written_of s t g i) { asleep = same_sleepers s t g i }) g

forget_alike : (s t : SystemView) → AreAlike s t → AreAlike (resting.forgotten s) (resting.forgotten t)
unfolding resting.forgotten
forget_alike s t g =
    written_alike (written_of (resting.forgotten s)) (written_of (resting.forgotten t)) s t
    (same_read (λ (u : SystemView). written_of (resting.forgotten u)) s t g) g

pub begin_alike : CommandsBeginAlike
begin_alike s t g = record {
  boots = λ n there. boot_alike n s t there g;
  crashes = λ n. end_alike n s t g;
  calls = λ asked n a. ask_alike asked n a s t g;
  fires = λ due. fire_alike due s t g;
  rests = rest_alike s t g;
  forgets = forget_alike s t g;
}
