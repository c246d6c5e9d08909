-- What a process receives it handles the same way in two systems in which all is the same that it reads.
use Rattle.std.proofs.Common.{◌≡◌, ◌⊎◌, ℕ, Bool, true, false, cond, [], ◌∷◌, Option, Some, None, slice_get, refl, sym, ap, subst, ◌∙◌, inl, ◌≤◌, ◌+◌, arith, inr}
use Rattle.std.specs.Option.{option_and_then}
use Rattle.std.proofs.lemmas.List.Elements.{All-nil, All-cons}
use Rattle.rh_model.specs.ClusterView.{ClusterView}
use Rattle.rh_model.specs.declared.node.App.{App}
use Rattle.rh_model.specs.declared.node.Node.{Node}
use Rattle.rh_model.specs.declared.settings.Restart.{Restart}
use Rattle.rh_otp_model.specs.declared.fault.Fault.{Fault}
use Rattle.rh_otp_model.specs.declared.message.Message.{Message}
use Rattle.rh_otp_model.specs.declared.message.Message.TheVariants as message
use Rattle.rh_otp_model.specs.declared.output.Event.TheVariants as event
use Rattle.rh_otp_model.specs.declared.process.Role.{Role}
use Rattle.rh_otp_model.specs.declared.process.Role.TheVariants as role
use Rattle.rh_otp_node.specs.Boot as boot
use Rattle.rh_otp_node.specs.Kernel as kernel
use Rattle.rh_otp_node.specs.Live.{LiveView, is_up}
use Rattle.rh_otp_node.specs.Turns.{controlled_by}
use Rattle.rh_otp_system.specs.declared.calls.Call.{Call}
use Rattle.rh_otp_system.specs.declared.cell.Cell.{Cell}
use Rattle.rh_otp_system.specs.declared.slow.Slow.TheVariants as slow
use Rattle.rh_otp_system.specs.State.{SystemView, live_at, node_at, own_at, has_dist_at, is_alive_at, is_up_at, process_in}
use Rattle.rh_otp_system.specs.Delivering as delivering
use Rattle.rh_otp_system.specs.Ending.{ended}
use Rattle.rh_otp_system.specs.Joining as joining
use Rattle.rh_otp_system.specs.Working.{mail_count_at}
use Rattle.rh_otp_laws.proofs.Moving.{seen_on}
use Rattle.rh_otp_laws.proofs.Working.{controlled_on}
use Rattle.rh_otp_orders.specs.Orders.{is_call}
use Rattle.rh_otp_orders.proofs.Calling.{Home, receives_call}
use Rattle.rh_otp_orders.proofs.Changing.{live_of, wrote, puts, slows, with_room, either}
use Rattle.rh_otp_orders.proofs.Same.{Same, IsOf, same_cell, same_here}
use Rattle.rh_otp_orders.proofs.Turns.{controlled_own}
use Rattle.rh_otp_orders.proofs.Working.{same_process_in, same_own, same_has_dist, sends_own, writes, tells, acts, gets_mail, owns_itself}

-- ---- kernel_config

still_awake : {n : Node} {called strange : Bool} {room : ℕ} {a b s t : SystemView} → Same n called strange room a b s t
    → is_alive_at s n ≡ true
still_awake {n} g = (g.lives n).1 ∙ g.awake

goes : {n : Node} {called strange : Bool} {room : ℕ} {a b s t : SystemView} → Same n called strange room a b s t
    → Same n called strange room a b (joining.with_go n s) (joining.with_go n t)
goes {n} {called} {strange} {room} {a} {b} {s} {t} g =
    either (has_dist_at s n) (has_dist_at t n) (same_has_dist n g)
    (sends_own role.KernelConfig _ _ message.Go (same_process_in n role.DistAc g) g) g

joins_at : {n : Node} {called strange : Bool} {room : ℕ} {a b s t : SystemView} → Same n called strange room a b s t
    → Same n called strange room a b (joining.joined_at n s) (joining.joined_at n t)
joins_at {n} {called} {strange} {room} {a} {b} {s} {t} g =
    wrote (kernel.joined (node_at s n)) (kernel.joined (node_at t n)) (ap kernel.joined (same_here g)) (refl, sym (still_awake g)) g

pub joins : {n : Node} {called strange : Bool} {room : ℕ} {a b s t : SystemView} → Same n called strange room a b s t
    → Same n called strange room a b (joining.join n s) (joining.join n t)
unfolding joining.join
joins {n} g = slows (slow.Boot n) (owns_itself n) (goes (tells (event.Up n) (owns_itself n) (joins_at g)))

pub goes_on : {n : Node} {called strange : Bool} {room : ℕ} {a b s t : SystemView} → Same n called strange room a b s t
    → Same n called strange room a b (joining.go_on n s) (joining.go_on n t)
goes_on {n} {called} {strange} {room} {a} {b} {s} {t} g =
    either (kernel.waits (node_at s n)) (kernel.waits (node_at t n)) (ap kernel.waits (same_here g)) g (joins g)

sees_node : {n : Node} {called strange : Bool} {room : ℕ} {a b s t : SystemView} (other : Node) → Same n called strange room a b s t
    → Same n called strange room a b (joining.has_seen n other s) (joining.has_seen n other t)
unfolding joining.has_seen
sees_node other g = goes_on (writes (kernel.seen other) (seen_on other) g)

-- it goes on the same way in both, or the node ends
abbrev pub Comes : Node → Bool → Bool → ℕ → SystemView → SystemView → SystemView → SystemView → SystemView → SystemView → Type 0
Comes n called strange room a b s t u v = Same n called strange room a b u v ⊎ ((u ≡ ended n s) × (v ≡ ended n t))

either_comes : {n : Node} {called strange : Bool} {room : ℕ} {a b u v x y : SystemView} (s t : SystemView) (p q : Bool) → p ≡ q
    → Comes n called strange room a b s t u v
    → Comes n called strange room a b s t x y
    → Comes n called strange room a b s t (cond p u x) (cond q v y)
either_comes {n} {called} {strange} {room} {a} {b} {u} {v} {x} {y} s t p q is so else_so =
    subst (λ (r : Bool). Comes n called strange room a b s t (cond p u x) (cond r v y)) is (by p)
  where
    by : (r : Bool) → Comes n called strange room a b s t (cond r u x) (cond r v y)
    by true = so
    by false = else_so

times_out : {n : Node} {called strange : Bool} {room : ℕ} {a b s t : SystemView} → Same n called strange room a b s t
    → Comes n called strange room a b s t (joining.timed_out n s) (joining.timed_out n t)
times_out {n} {called} {strange} {room} {a} {b} {s} {t} g =
    either_comes s t (joining.lacks_mandatory n s) (joining.lacks_mandatory n t)
    (ap (λ (v : LiveView). kernel.is_some_node v.mandatory) (same_here g)) (inr (refl, refl)) (inl (joins g))

kernel_handles : {n : Node} {called strange : Bool} {room : ℕ} {a b s t : SystemView} (m : Message) → Same n called strange room a b s t
    → Comes n called strange room a b s t (joining.kernel_handled n m s) (joining.kernel_handled n m t)
kernel_handles message.Timeout g = times_out g
kernel_handles (message.NodeUp other) g = inl (sees_node other g)
kernel_handles m g = inl g

kernel_receives : {n : Node} {called strange : Bool} {room : ℕ} {a b s t : SystemView} (m : Message) → Same n called strange room a b s t
    → Comes n called strange room a b s t (joining.kernel_received n m s) (joining.kernel_received n m t)
kernel_receives {n} {called} {strange} {room} {a} {b} {s} {t} m g =
    either_comes s t (is_up_at s n) (is_up_at t n) (ap is_up (same_here g)) (inl g) (kernel_handles m g)

-- ---- the boot script

tells_failed : {n : Node} {called strange : Bool} {room : ℕ} {a b s t : SystemView} (fault : Option Fault) (entry : Option (App × Restart))
    → Same n called strange room a b s t
    → Same n called strange room a b (joining.failed_at n fault entry s) (joining.failed_at n fault entry t)
tells_failed None entry g = g
tells_failed (Some fault) None g = g
tells_failed {n} (Some fault) (Some entry) g = tells (event.Failed entry.0 n fault) (owns_itself n) g

is_told : {n : Node} {called strange : Bool} {room : ℕ} {a b s t : SystemView} (fault : Option Fault) → Same n called strange room a b s t
    → Same n called strange room a b (joining.told_failed n fault s) (joining.told_failed n fault t)
is_told {n} {called} {strange} {room} {a} {b} {s} {t} fault g =
    subst (λ (entry : Option (App × Restart)). Same n called strange room a b (joining.told_failed n fault s)
    (joining.failed_at n fault entry t))
    (λ i. boot.entry_before (g.files.0 i) n (same_here g i).place) (tells_failed fault (joining.boot_entry n s) g)

same_end : (n : Node) (s t : SystemView) (o : Option LiveView) → s.cluster ≡ t.cluster → joining.is_end_of n o s ≡ joining.is_end_of n o t
same_end n s t None same = refl
same_end n s t (Some v) same = ap (λ (c : ClusterView). boot.is_end c n v.place) same

starts : {n : Node} {called strange : Bool} {room : ℕ} {a b s t : SystemView} (entry : Option (App × Restart))
    → Same n called strange room a b s t
    → Same n called strange room a b (joining.start_entry n entry s) (joining.start_entry n entry t)
starts {n} {called} {strange} {room} {a} {b} {s} {t} (Some entry) g =
    let from : process_in s n role.Boot ≡ process_in t n role.Boot = same_process_in n role.Boot g in
    let to : process_in s n role.Controller ≡ process_in t n role.Controller = same_process_in n role.Controller g in
    puts _ _ (λ i. record { from = from i; to = to i; message = message.Start entry.0 entry.1 (from i) } ∷ [])
    (All-cons (IsOf n a) (record {
      from = process_in s n role.Boot;
      to = process_in s n role.Controller;
      message = message.Start entry.0 entry.1 (process_in s n role.Boot);
    }) [] (g.awake, inl refl) (All-nil (IsOf n a))) g
starts {n} {called} {strange} {room} {a} {b} {s} {t} None g =
    either (joining.is_boot_end n s) (joining.is_boot_end n t)
    (same_end n s t (live_at s n) g.files.0 ∙ ap (λ (o : Option Cell). joining.is_end_of n (live_of o) t) (same_cell g))
    (tells (event.Booted n) (owns_itself n) g) g

starts_next : {n : Node} {called strange : Bool} {room : ℕ} {a b s t : SystemView} → Same n called strange room a b s t
    → Same n called strange room a b (joining.start_next n s) (joining.start_next n t)
starts_next {n} {called} {strange} {room} {a} {b} {s} {t} g =
    subst (λ (entry : Option (App × Restart)). Same n called strange room a b (joining.start_next n s) (joining.start_entry n entry t))
    (λ i. option_and_then (λ (v : LiveView). boot.entry_at (g.files.0 i) n v.place) (live_of (same_cell g i)))
    (starts (joining.boot_coming n s) g)

pub boots_on : {n : Node} {called strange : Bool} {room : ℕ} {a b s t : SystemView} (fault : Option Fault)
    → Same n called strange room a b s t
    → Same n called strange room a b (joining.boot_next n fault s) (joining.boot_next n fault t)
unfolding joining.boot_next
boots_on fault g = writes boot.with_next (λ v. (refl, refl)) (starts_next (is_told fault g))

boot_receives : {n : Node} {called strange : Bool} {room : ℕ} {a b s t : SystemView} (m : Message) → Same n called strange room a b s t
    → Same n called strange room a b (joining.boot_received n m s) (joining.boot_received n m t)
boot_receives (message.Answer outcome) g = boots_on (joining.fault_in outcome) g
boot_receives m g = g

-- ---- any process but that of a call

controls : {n : Node} {called strange : Bool} {room : ℕ} {a b s t : SystemView} (m : Message) → Same n called strange room a b s t
    → Same n called strange room a b (delivering.controlled n m s) (delivering.controlled n m t)
controls {n} {called} {strange} {room} {a} {b} {s} {t} m g =
    acts (controlled_by s.cluster (own_at s n) n m (node_at s n)) (controlled_by t.cluster (own_at t n) n m (node_at t n))
    (λ i. controlled_by (g.files.0 i) (same_own n g i) n m (same_here g i)) (controlled_on s.cluster (own_at s n) n m (node_at s n))
    (controlled_own s.cluster (own_at s n) n m (node_at s n)) g

-- the call of this number, if there is one, was made at the node, or all nodes were the same in both
abbrev pub IsMadeAt : Node → Bool → SystemView → SystemView → Role → SystemView → Type 0
IsMadeAt n strange a b r s =
    (place : ℕ) (call : Call) → slice_get s.calls place ≡ Some call → r ≡ role.Call call.number → Home n strange a b call.node

pub receives : {n : Node} {strange : Bool} {room : ℕ} {a b s t : SystemView} (r : Role) (m : Message) → IsMadeAt n strange a b r s
    → mail_count_at s n + 1 ≤ room → Same n (is_call r) strange room a b s t
    → Comes n (is_call r) strange 0 a b s t (delivering.received_in r n m s) (delivering.received_in r n m t)
receives role.Controller m home enough g = inl (with_room 0 (omega arith) (controls m g))
receives role.DistAc m home enough g = inl (gets_mail m enough g)
receives role.KernelConfig m home enough g = kernel_receives m (with_room 0 (omega arith) g)
receives role.Boot m home enough g = inl (with_room 0 (omega arith) (boot_receives m g))
receives role.System m home enough g = inr (refl, refl)
receives (role.Call number) m home enough g =
    inl (with_room 0 (omega arith) (receives_call number m (λ place call there same. home place call there (ap role.Call (sym same))) g))
receives r m home enough g = inl (with_room 0 (omega arith) g)
