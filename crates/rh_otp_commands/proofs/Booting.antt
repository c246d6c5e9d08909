-- A node begins the same way in two systems in which all is the same that it reads.
use Rattle.std.proofs.Common.{ℕ, Bool, List, [], ◌∷◌, Option, Some, None, refl, subst, inl, inr}
use Rattle.rh_model.specs.declared.node.Node.{Node}
use Rattle.rh_otp_model.specs.declared.message.Message.TheVariants as message
use Rattle.rh_otp_model.specs.declared.process.Role.TheVariants as role
use Rattle.rh_otp_model.specs.declared.wait.Wait.{Wait}
use Rattle.rh_otp_model.specs.declared.wait.Wait.TheVariants as wait
use Rattle.rh_otp_node.specs.Live.{LiveView}
use Rattle.rh_otp_system.specs.Doing as doing
use Rattle.rh_otp_system.specs.Joining as joining
use Rattle.rh_otp_system.specs.State.{SystemView, node_at, is_alive_at}
use Rattle.rh_otp_orders.proofs.Changing.{either}
use Rattle.rh_otp_orders.proofs.Receiving.{Comes, joins, goes_on}
use Rattle.rh_otp_orders.proofs.Same.{Same, same_here, same_alive}
use Rattle.rh_otp_orders.proofs.Working.{same_process_in, sends_own, afters, reaches, owns_itself}

sees_up : {n : Node} {called strange : Bool} {room : ℕ} {a b s t : SystemView} (other : Node) → Same n called strange room a b s t
    → Same n called strange room a b (doing.seen_at_once n other s) (doing.seen_at_once n other t)
sees_up {n} {called} {strange} {room} {a} {b} {s} {t} other g =
    let there = reaches n other g in
    either (is_alive_at s other) (is_alive_at t other) (same_alive other g)
    (sends_own role.NetKernel _ _ (message.NodeUp other) (same_process_in n role.KernelConfig there) there) g

sees_all : {n : Node} {called strange : Bool} {room : ℕ} {a b : SystemView} (others : List Node) (s t : SystemView)
    → Same n called strange room a b s t → Same n called strange room a b (doing.all_seen n others s) (doing.all_seen n others t)
sees_all [] s t g = g
sees_all {n} (other ∷ others) s t g = sees_all others (doing.seen_at_once n other s) (doing.seen_at_once n other t) (sees_up other g)

waits_at_most : {n : Node} {called strange : Bool} {room : ℕ} {a b s t : SystemView} (time : Option ℕ) → Same n called strange room a b s t
    → Same n called strange room a b (doing.with_timeout n time s) (doing.with_timeout n time t)
waits_at_most None g = g
waits_at_most {n} (Some time) g =
    afters time _ _ message.Timeout (same_process_in n role.KernelConfig g) refl (owns_itself n) g

waits_for : {n : Node} {called strange : Bool} {room : ℕ} {a b s t : SystemView} (time : Option ℕ) → Same n called strange room a b s t
    → Same n called strange room a b (doing.waited_for n time s) (doing.waited_for n time t)
unfolding doing.waited_for
waits_for {n} {called} {strange} {room} {a} {b} {s} {t} time g =
    subst (λ (v : LiveView). Same n called strange room a b (doing.waited_for n time s)
    (joining.go_on n (doing.with_timeout n time (doing.all_seen n v.optional (doing.all_seen n v.mandatory t))))) (same_here g)
    (goes_on (waits_at_most time (sees_all (node_at s n).optional _ _ (sees_all (node_at s n).mandatory s t g))))

-- it waits for the others, or ends
pub waits : {n : Node} {called strange : Bool} {room : ℕ} {a b s t : SystemView} (w : Wait) → Same n called strange room a b s t
    → Comes n called strange room a b s t (doing.waited w n s) (doing.waited w n t)
waits wait.Unset g = inl (joins g)
waits wait.Refused g = inr (refl, refl)
waits (wait.After time) g = inl (waits_for (Some time) g)
waits wait.Forever g = inl (waits_for None g)
