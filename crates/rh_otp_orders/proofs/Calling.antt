-- A call goes on the same way in two systems in which all is the same that it reads.
use Rattle.std.proofs.Common.{◌≡◌, ◌⊎◌, ℕ, Bool, true, false, cond, ◌&&◌, ◌==◌, List, filter, Option, Some, None, slice_get, slice_set, position, refl, sym, ap, subst, ◌∙◌, inl, inr}
use Rattle.std.proofs.lemmas.Bool.{eqb-true}
use Rattle.std.proofs.lemmas.List.Quantifiers.{position-Some}
use Rattle.std.proofs.lemmas.Option.{same_Some, get_or_from_slice_get}
use Rattle.rh_model.specs.declared.node.Node.{Node}
use Rattle.rh_otp_model.specs.declared.fault.Outcome.{Outcome}
use Rattle.rh_otp_model.specs.declared.message.Message.{Message}
use Rattle.rh_otp_model.specs.declared.message.Message.TheVariants as message
use Rattle.rh_otp_model.specs.declared.output.Event.TheVariants as event
use Rattle.rh_otp_model.specs.declared.output.Requester.TheVariants.{Alone}
use Rattle.rh_otp_model.specs.declared.process.Process.{Process}
use Rattle.rh_otp_model.specs.declared.process.Role.TheVariants as role
use Rattle.rh_otp_net.specs.Links as links
use Rattle.rh_otp_net.specs.Locks.{is_free, taken, freed}
use Rattle.rh_otp_node.specs.Live.{LiveView}
use Rattle.rh_otp_system.specs.declared.calls.Call.{Call}
use Rattle.rh_otp_system.specs.declared.calls.Stage.{Stage}
use Rattle.rh_otp_system.specs.declared.calls.Stage.TheVariants as stage
use Rattle.rh_otp_system.specs.Calling as calling
use Rattle.rh_otp_system.specs.Calls.{process_of, second_of, is_takeover}
use Rattle.rh_otp_system.specs.Sending.{sent, told}
use Rattle.rh_otp_system.specs.State.{SystemView}
use Rattle.rh_otp_system.specs.Working.{around, alive_of}
use Rattle.rh_otp_orders.proofs.Changing.{puts_strange, set_there, sees, locked, has_calls, either}
use Rattle.rh_otp_orders.proofs.Same.{Same, cell_at, same_here, same_node, same_alive}
use Rattle.rh_otp_orders.proofs.Working.{sends}

-- it is the node of the turn, or all nodes were the same in both
abbrev pub Home : Node → Bool → SystemView → SystemView → Node → Type 0
Home n strange a b m = (m ≡ n) ⊎ ((strange ≡ true) × ((k : ℕ) → cell_at a k ≡ cell_at b k))

-- the call at this place, if there is one, was made at such a node
abbrev pub IsHome : Node → Bool → SystemView → SystemView → ℕ → SystemView → Type 0
IsHome n strange a b place s = (call : Call) → slice_get s.calls place ≡ Some call → Home n strange a b call.node

-- what is written of a call leaves it where it was
home_written : (n : Node) (strange : Bool) (a b : SystemView) (place : ℕ) (s : SystemView) (call changed : Call)
    → slice_get s.calls place ≡ Some call → Home n strange a b changed.node
    → IsHome n strange a b place (record s { calls = slice_set s.calls place changed })
home_written n strange a b place s call changed there home c at =
    subst (λ (k : Call). Home n strange a b k.node) (same_Some changed c (sym (set_there s.calls place call changed there) ∙ at)) home

home_staged : (n : Node) (strange : Bool) (a b : SystemView) (place : ℕ) (w : Stage) (s : SystemView) → IsHome n strange a b place s
    → IsHome n strange a b place (calling.with_stage place w s)
home_staged n strange a b place w s home = by (slice_get s.calls place) refl
  where
    by : (found : Option Call) → slice_get s.calls place ≡ found → IsHome n strange a b place (calling.stage_if place w found s)
    by None is = home
    by (Some call) is = home_written n strange a b place s call (record call { stage = w }) is (home call is)

home_loaded : (n : Node) (strange : Bool) (a b : SystemView) (place : ℕ) (only_loaded : Bool) (s : SystemView)
    → IsHome n strange a b place s
    → IsHome n strange a b place (calling.with_loaded place only_loaded s)
home_loaded n strange a b place only_loaded s home = by (slice_get s.calls place) refl
  where
    by : (found : Option Call) → slice_get s.calls place ≡ found
        → IsHome n strange a b place (calling.loaded_if place only_loaded found s)
    by None is = home
    by (Some call) is = home_written n strange a b place s call (record call { only_loaded = only_loaded }) is (home call is)

-- ---- how it goes on

same_found : {n : Node} {strange : Bool} {room : ℕ} {a b s t : SystemView} (place : ℕ) → Same n true strange room a b s t
    → slice_get s.calls place ≡ slice_get t.calls place
same_found place g = ap (λ (calls : List Call). slice_get calls place) g.calls

stages_if : {n : Node} {strange : Bool} {room : ℕ} {a b s t : SystemView} (place : ℕ) (w : Stage) (found : Option Call)
    → Same n true strange room a b s t
    → Same n true strange room a b (calling.stage_if place w found s) (calling.stage_if place w found t)
stages_if place w None g = g
stages_if place w (Some call) g =
    has_calls _ _ (ap (λ (calls : List Call). slice_set calls place (record call { stage = w })) g.calls) g

stages : {n : Node} {strange : Bool} {room : ℕ} {a b s t : SystemView} (place : ℕ) (w : Stage) → Same n true strange room a b s t
    → Same n true strange room a b (calling.with_stage place w s) (calling.with_stage place w t)
stages {n} {strange} {room} {a} {b} {s} {t} place w g =
    subst (λ (found : Option Call). Same n true strange room a b (calling.with_stage place w s) (calling.stage_if place w found t))
    (same_found place g)
    (stages_if place w (slice_get s.calls place) g)

loads_if : {n : Node} {strange : Bool} {room : ℕ} {a b s t : SystemView} (place : ℕ) (only_loaded : Bool) (found : Option Call)
    → Same n true strange room a b s t
    → Same n true strange room a b (calling.loaded_if place only_loaded found s) (calling.loaded_if place only_loaded found t)
loads_if place only_loaded None g = g
loads_if place only_loaded (Some call) g =
    has_calls _ _ (ap (λ (calls : List Call). slice_set calls place (record call { only_loaded = only_loaded })) g.calls) g

loads : {n : Node} {strange : Bool} {room : ℕ} {a b s t : SystemView} (place : ℕ) (only_loaded : Bool) → Same n true strange room a b s t
    → Same n true strange room a b (calling.with_loaded place only_loaded s) (calling.with_loaded place only_loaded t)
loads {n} {strange} {room} {a} {b} {s} {t} place only_loaded g =
    subst (λ (found : Option Call). Same n true strange room a b (calling.with_loaded place only_loaded s)
    (calling.loaded_if place only_loaded found t))
    (same_found place g) (loads_if place only_loaded (slice_get s.calls place) g)

sends_for : {n : Node} {strange : Bool} {room : ℕ} {a b s t : SystemView} (call : Call) (to : Process) (m : Message)
    → Home n strange a b call.node → Same n true strange room a b s t
    → Same n true strange room a b (sent (process_of call) to m s) (sent (process_of call) to m t)
sends_for call to m (inl home) g =
    sends (process_of call) (process_of call) to to m refl refl (g.awake, inl (ap (λ (k : Node). k.0) home)) g
sends_for call to m (inr all) g = puts_strange _ all.0 g

abbrev dist_of : Call → Process
dist_of call = record (process_of call) { role = role.DistAc }

same_alive_of : {n : Node} {called strange : Bool} {room : ℕ} {a b s t : SystemView} (nodes : List Node)
    → Same n called strange room a b s t
    → alive_of s nodes ≡ alive_of t nodes
same_alive_of nodes g = λ i. filter (λ (m : Node). same_alive m g i) nodes

locks_call : {n : Node} {strange : Bool} {room : ℕ} {a b s t : SystemView} (place : ℕ) (call : Call) (nodes : List Node)
    → Home n strange a b call.node
    → Same n true strange room a b s t
    → Same n true strange room a b (calling.lock_call place call nodes s) (calling.lock_call place call nodes t)
unfolding calling.lock_call
locks_call {n} {strange} {room} {a} {b} {s} {t} place call nodes home g =
    let alive : alive_of s nodes ≡ alive_of t nodes = same_alive_of nodes g in
    let locked_so : Same n true strange room a b (calling.with_lock call (alive_of s nodes) s)
    (calling.with_lock call (alive_of t nodes) t) =
    locked _ _ (λ i. taken (Alone (process_of call)) (process_of call) (alive i) (g.locks i)) g in
    either (is_free (Alone (process_of call)) (alive_of s nodes) s.locks) (is_free (Alone (process_of call)) (alive_of t nodes) t.locks)
    (λ i. is_free (Alone (process_of call)) (alive i) (g.locks i))
    (sends_for call (dist_of call) (second_of call) home (stages place stage.DistAc locked_so)) locked_so

waits_for_lock : {n : Node} {strange : Bool} {room : ℕ} {a b s t : SystemView} (place : ℕ) (call : Call) (nodes : List Node)
    → Home n strange a b call.node
    → Same n true strange room a b s t
    → Same n true strange room a b (calling.wait_for_lock place call nodes s) (calling.wait_for_lock place call nodes t)
unfolding calling.wait_for_lock
waits_for_lock place call nodes home g = locks_call place call nodes home (stages place (stage.Lock nodes) g)

behind_sync : {n : Node} {strange : Bool} {room : ℕ} {a b s t : SystemView} (place : ℕ) (call : Call) → Home n strange a b call.node
    → Same n true strange room a b s t
    → Same n true strange room a b (calling.behind_sync place call s) (calling.behind_sync place call t)
unfolding calling.behind_sync
behind_sync {n} {strange} {room} {a} {b} {s} {t} place call home g =
    either (is_takeover call.ask) (is_takeover call.ask) refl
    (sends_for call (dist_of call) (message.GetNodes call.app (process_of call)) home (stages place stage.Nodes g))
    (subst (λ (nodes : List Node). Same n true strange room a b (calling.wait_for_lock place call (around s call.node) s)
    (calling.wait_for_lock place call nodes t)) (ap (links.around call.node) g.links)
    (waits_for_lock place call (around s call.node) home g))

goes_on_from : {n : Node} {strange : Bool} {room : ℕ} {a b s t : SystemView} (w : Stage) (place : ℕ) (call : Call)
    → Home n strange a b call.node → Same n true strange room a b s t
    → Same n true strange room a b (calling.go_on_from w place call s) (calling.go_on_from w place call t)
goes_on_from stage.Synchronised place call home g = behind_sync place call home g
goes_on_from (stage.Lock nodes) place call home g = locks_call place call nodes home g
goes_on_from w place call home g = g

same_synchronised : {n : Node} {called strange : Bool} {room : ℕ} {a b s t : SystemView} (m : Node) → Home n strange a b m
    → Same n called strange room a b s t
    → calling.is_synchronised_at m s ≡ calling.is_synchronised_at m t
same_synchronised {n} {called} {strange} {room} {a} {b} {s} {t} m (inl home) g =
    ap (λ (k : Node). calling.is_synchronised_at k s) home ∙ ap (λ (v : LiveView). calling.is_synchronised_in v.dist) (same_here g)
    ∙ sym (ap (λ (k : Node). calling.is_synchronised_at k t) home)
same_synchronised m (inr all) g = ap (λ (v : LiveView). calling.is_synchronised_in v.dist) (same_node m all.1 g)

same_can_from : {n : Node} {called strange : Bool} {room : ℕ} {a b s t : SystemView} (w : Stage) (call : Call)
    → Home n strange a b call.node
    → Same n called strange room a b s t
    → calling.can_go_on_from w call s ≡ calling.can_go_on_from w call t
same_can_from stage.Synchronised call home g = same_synchronised call.node home g
same_can_from (stage.Lock nodes) call home g = λ i. is_free (Alone (process_of call)) (same_alive_of nodes g i) (g.locks i)
same_can_from w call home g = refl

goes_on_with : {n : Node} {strange : Bool} {room : ℕ} {a b s t : SystemView} (place : ℕ) (call : Call) → Home n strange a b call.node
    → Same n true strange room a b s t
    → Same n true strange room a b (calling.go_on_with place call s) (calling.go_on_with place call t)
goes_on_with {n} {strange} {room} {a} {b} {s} {t} place call home g =
    either (calling.can_go_on call s) (calling.can_go_on call t)
    (λ i. cond (sym (g.alike call.node).1 i && sym (g.alike call.node).0 i == call.life) (same_can_from call.stage call home g i) false)
    (goes_on_from call.stage place call home g) g

goes_on_if : {n : Node} {strange : Bool} {room : ℕ} {a b s t : SystemView} (place : ℕ) (found : Option Call)
    → ((call : Call) → found ≡ Some call → Home n strange a b call.node) → Same n true strange room a b s t
    → Same n true strange room a b (calling.go_on_if place found s) (calling.go_on_if place found t)
goes_on_if place None home g = g
goes_on_if place (Some call) home g = goes_on_with place call (home call refl) g

pub goes_on : {n : Node} {strange : Bool} {room : ℕ} {a b s t : SystemView} (place : ℕ) → IsHome n strange a b place s
    → Same n true strange room a b s t
    → Same n true strange room a b (calling.go_on_call place s) (calling.go_on_call place t)
unfolding calling.go_on_call
goes_on {n} {strange} {room} {a} {b} {s} {t} place home g =
    subst (λ (found : Option Call). Same n true strange room a b (calling.go_on_if place (slice_get s.calls place) s)
    (calling.go_on_if place found t))
    (same_found place g) (goes_on_if place (slice_get s.calls place) home g)

-- ---- what it receives

tells_answer : {n : Node} {strange : Bool} {room : ℕ} {a b s t : SystemView} (number : ℕ) → Same n true strange room a b s t
    → Same n true strange room a b (told (event.Answered number) s) (told (event.Answered number) t)
unfolding told
tells_answer number g = sees (event.Answered number) (inr (refl, refl)) g

is_answered : {n : Node} {strange : Bool} {room : ℕ} {a b s t : SystemView} (place : ℕ) (call : Call) (o : Outcome)
    → Same n true strange room a b s t
    → Same n true strange room a b (calling.done_with place call o s) (calling.done_with place call o t)
is_answered place call o g =
    tells_answer call.number (stages place (stage.Done o) (locked _ _ (ap (freed (Alone (process_of call)) (process_of call)) g.locks) g))

answers : {n : Node} {strange : Bool} {room : ℕ} {a b s t : SystemView} (place : ℕ) (call : Call) (o : Outcome)
    → IsHome n strange a b place s → Same n true strange room a b s t
    → Same n true strange room a b (calling.answered_by place call o s) (calling.answered_by place call o t)
answers {n} {strange} {room} {a} {b} {s} {t} place call o home g =
    let only_loaded : Bool = calling.is_only_loaded o in
    let is : Bool = calling.is_first call.stage && calling.is_asked_on call.ask o in
    either is is refl
    (goes_on place (home_staged n strange a b place stage.Synchronised (calling.with_loaded place only_loaded s)
    (home_loaded n strange a b place only_loaded s home))
    (stages place stage.Synchronised (loads place only_loaded g)))
    (is_answered place call o g)

is_told_nodes : {n : Node} {strange : Bool} {room : ℕ} {a b s t : SystemView} (place : ℕ) (call : Call) (nodes : List Node)
    → IsHome n strange a b place s
    → Same n true strange room a b s t
    → Same n true strange room a b (calling.nodes_told place call nodes s) (calling.nodes_told place call nodes t)
is_told_nodes {n} {strange} {room} {a} {b} {s} {t} place call nodes home g =
    either (calling.is_for_nodes call.stage) (calling.is_for_nodes call.stage) refl
    (goes_on place (home_staged n strange a b place (stage.Lock nodes) s home) (stages place (stage.Lock nodes) g)) g

receives_by : {n : Node} {strange : Bool} {room : ℕ} {a b s t : SystemView} (place : ℕ) (m : Message) (call : Call)
    → IsHome n strange a b place s → Same n true strange room a b s t
    → Same n true strange room a b (calling.received_by place m call s) (calling.received_by place m call t)
receives_by place (message.Answer o) call home g = answers place call o home g
receives_by place (message.Nodes nodes) call home g = is_told_nodes place call nodes home g
receives_by place m call home g = g

receives_if : {n : Node} {strange : Bool} {room : ℕ} {a b s t : SystemView} (place : ℕ) (m : Message) (found : Option Call)
    → IsHome n strange a b place s
    → Same n true strange room a b s t
    → Same n true strange room a b (calling.received_if place m found s) (calling.received_if place m found t)
receives_if place m None home g = g
receives_if place m (Some call) home g = receives_by place m call home g

receives_at : {n : Node} {strange : Bool} {room : ℕ} {a b s t : SystemView} (place : Option ℕ) (m : Message)
    → ((k : ℕ) → place ≡ Some k → IsHome n strange a b k s) → Same n true strange room a b s t
    → Same n true strange room a b (calling.call_received_at place m s) (calling.call_received_at place m t)
receives_at None m home g = g
receives_at {n} {strange} {room} {a} {b} {s} {t} (Some place) m home g =
    subst (λ (found : Option Call). Same n true strange room a b (calling.received_at place m s) (calling.received_if place m found t))
    (same_found place g) (receives_if place m (slice_get s.calls place) (home place refl) g)

-- the call that is found by its number has that number
numbered : (number place : ℕ) (s : SystemView) (call : Call) → calling.call_place number s ≡ Some place
    → slice_get s.calls place ≡ Some call → call.number ≡ number
numbered number place s call found there =
    eqb-true call.number number (sym (ap (λ (c : Call). c.number == number) (get_or_from_slice_get s.calls place call call there))
    ∙ (position-Some (λ (c : Call). c.number == number) s.calls place call found).1)

pub receives_call : {n : Node} {strange : Bool} {room : ℕ} {a b s t : SystemView} (number : ℕ) (m : Message)
    → ((place : ℕ) (call : Call) → slice_get s.calls place ≡ Some call → call.number ≡ number → Home n strange a b call.node)
    → Same n true strange room a b s t
    → Same n true strange room a b (calling.call_received number m s) (calling.call_received number m t)
unfolding calling.call_received
receives_call {n} {strange} {room} {a} {b} {s} {t} number m home g =
    subst (λ (place : Option ℕ). Same n true strange room a b (calling.call_received_at (calling.call_place number s) m s)
    (calling.call_received_at place m t)) (ap (position (λ (c : Call). c.number == number)) g.calls)
    (receives_at (calling.call_place number s) m
    (λ place found call there. home place call there (numbered number place s call found there)) g)
