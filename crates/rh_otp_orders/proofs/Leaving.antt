-- Which messages change nothing that nodes share.
use Rattle.std.proofs.Common.{◌≡◌, Bool, true, false, cond, List, [], ◌∷◌, Option, Some, None, refl, sym, ap, subst, ◌∙◌, inl}
use Rattle.std.proofs.lemmas.Bool.{false≢true, and_parts}
use Rattle.std.proofs.lemmas.List.Elements.{All-head, All-tail}
use Rattle.rh_model.specs.declared.node.App.{App}
use Rattle.rh_model.specs.declared.node.Node.{Node}
use Rattle.rh_model.specs.declared.settings.Restart.{Restart}
use Rattle.rh_otp_model.specs.declared.fault.Fault.{Fault}
use Rattle.rh_otp_model.specs.declared.message.Message.{Message}
use Rattle.rh_otp_model.specs.declared.message.Message.TheVariants as message
use Rattle.rh_otp_model.specs.declared.output.Envelope.{Envelope}
use Rattle.rh_otp_model.specs.declared.output.Event.{Event}
use Rattle.rh_otp_model.specs.declared.output.Event.TheVariants as event
use Rattle.rh_otp_model.specs.declared.output.Output.{Output}
use Rattle.rh_otp_model.specs.declared.output.Output.TheVariants as output
use Rattle.rh_otp_model.specs.declared.process.Role.{Role}
use Rattle.rh_otp_model.specs.declared.process.Role.TheVariants as role
use Rattle.rh_otp_node.specs.Boot as boot
use Rattle.rh_otp_node.specs.Kernel as kernel
use Rattle.rh_otp_node.specs.Live.{LiveView, with_kind}
use Rattle.rh_otp_node.specs.Turns.{controlled_by}
use Rattle.rh_otp_system.specs.Delivering as delivering
use Rattle.rh_otp_system.specs.Joining as joining
use Rattle.rh_otp_system.specs.Outputs.{carried_out, all_carried_out}
use Rattle.rh_otp_system.specs.Sending.{sent, observed, told}
use Rattle.rh_otp_system.specs.State.{SystemView, node_at, with_node, own_at, has_dist_at, is_alive_at, is_up_at, lives, process_in}
use Rattle.rh_otp_system.specs.declared.slow.Answered.{Answered}
use Rattle.rh_otp_system.specs.Working.{pair_of, answer_count}
use Rattle.rh_otp_laws.proofs.Lives.{all_live_on}
use Rattle.rh_otp_laws.proofs.Moving.{seen_on}
use Rattle.rh_otp_laws.proofs.Turn.{LivesOn}
use Rattle.rh_otp_laws.proofs.Working.{controlled_on}
use Rattle.rh_otp_orders.specs.Orders.{OwnMattersLeaveAlone, LeavesAlone, is_own_matter}
use Rattle.rh_otp_orders.proofs.Own.{IsSaid, AreSaid}
use Rattle.rh_otp_orders.proofs.Taking.{Taken, arrives_so}
use Rattle.rh_otp_orders.proofs.Turns.{controlled_said}

-- what nodes share is as it was
abbrev Left : SystemView → SystemView → Type 0
Left s t = (t.links ≡ s.links) × (t.locks ≡ s.locks) × (t.answers ≡ s.answers) × ((m : Node) → is_alive_at t m ≡ is_alive_at s m)

nothing : (s : SystemView) → Left s s
nothing s = (refl, refl, refl, λ m. refl)

both : (s t u : SystemView) → Left s t → Left t u → Left s u
both s t u p q = (q.0 ∙ p.0, q.1 ∙ p.1, q.2 ∙ p.2, λ m. q.3 m ∙ p.3 m)

wrote : (n : Node) (s : SystemView) (v : LiveView) → LivesOn (node_at s n) v → Left s (with_node n v s)
wrote n s v on = (refl, refl, refl, λ m. (all_live_on s n m v on).1)

either : (s : SystemView) (b : Bool) (x y : SystemView) → Left s x → Left s y → Left s (cond b x y)
either s true x y p q = p
either s false x y p q = q

notes : (e : Event) (s : SystemView) → Left s (observed e s)
notes (event.Started a n kind) s = wrote n s (with_kind a kind (node_at s n)) (refl, refl)
notes e s = nothing s

tells : (e : Event) (s : SystemView) → Left s (told e s)
unfolding told
tells e s = notes e s

-- ---- controllers

carries_out : (n : Node) (o : Output) (s : SystemView) → IsSaid n o → Left s (carried_out n o s)
carries_out n (output.Send e) s said = nothing s
carries_out n (output.Tell e) s said = tells e s
carries_out n o s said = absurd said

carries_all_out : (n : Node) (outputs : List Output) (s : SystemView) → AreSaid n outputs → Left s (all_carried_out n outputs s)
carries_all_out n [] s said = nothing s
carries_all_out n (o ∷ outputs) s said =
    both s (carried_out n o s) (all_carried_out n outputs (carried_out n o s)) (carries_out n o s (All-head (IsSaid n) o outputs said))
    (carries_all_out n outputs (carried_out n o s) (All-tail (IsSaid n) o outputs said))

controls : (n : Node) (m : Message) (s : SystemView) → Left s (delivering.controlled n m s)
controls n m s =
    let pair : LiveView × List Output = controlled_by s.cluster (own_at s n) n m (node_at s n) in
    let written : SystemView = with_node n pair.0 s in
    both s written (all_carried_out n pair.1 written) (wrote n s pair.0 (controlled_on s.cluster (own_at s n) n m (node_at s n)))
    (carries_all_out n pair.1 written (controlled_said s.cluster (own_at s n) n m (node_at s n)))

-- ---- boot scripts

tells_failed : (n : Node) (fault : Option Fault) (entry : Option (App × Restart)) (s : SystemView)
    → Left s (joining.failed_at n fault entry s)
tells_failed n None entry s = nothing s
tells_failed n (Some fault) None s = nothing s
tells_failed n (Some fault) (Some entry) s = tells _ s

starts : (n : Node) (entry : Option (App × Restart)) (s : SystemView) → Left s (joining.start_entry n entry s)
starts n (Some entry) s = nothing s
starts n None s = either s (joining.is_boot_end n s) (told (event.Booted n) s) s (tells (event.Booted n) s) (nothing s)

boots_on : (n : Node) (fault : Option Fault) (s : SystemView) → Left s (joining.boot_next n fault s)
unfolding joining.boot_next
boots_on n fault s =
    let over : SystemView = joining.told_failed n fault s in
    let next : SystemView = joining.start_next n over in
    let counted : SystemView = joining.counted n next in
    both s over counted (tells_failed n fault (joining.boot_entry n s) s)
    (both over next counted (starts n (joining.boot_coming n over) over) (wrote n next (boot.with_next (node_at next n)) (refl, refl)))

boot_receives : (n : Node) (m : Message) (s : SystemView) → Left s (joining.boot_received n m s)
boot_receives n (message.Answer outcome) s = boots_on n (joining.fault_in outcome) s
boot_receives n m s = nothing s

-- ---- kernel_config

goes : (n : Node) (s : SystemView) → Left s (joining.with_go n s)
goes n s =
    either s (has_dist_at s n) (sent (process_in s n role.KernelConfig) (process_in s n role.DistAc) message.Go s) s (nothing s) (nothing s)

joins : (n : Node) (s : SystemView) → is_alive_at s n ≡ true → Left s (joining.join n s)
unfolding joining.join
joins n s alive =
    let up : SystemView = joining.joined_at n s in
    let is_told : SystemView = told (event.Up n) up in
    both s up (joining.join n s) (wrote n s (kernel.joined (node_at s n)) (refl, sym alive))
    (both up is_told (joining.join n s) (tells (event.Up n) up) (goes n is_told))

sees_node : (n other : Node) (s : SystemView) → is_alive_at s n ≡ true → Left s (joining.has_seen n other s)
unfolding joining.has_seen
sees_node n other s alive =
    let seen : SystemView = joining.seen_at n other s in
    let left : Left s seen = wrote n s (kernel.seen other (node_at s n)) (seen_on other (node_at s n)) in
    both s seen (joining.go_on n seen) left
    (either seen (kernel.waits (node_at seen n)) seen (joining.join n seen) (nothing seen) (joins n seen (left.3 n ∙ alive)))

receives : (r : Role) (n : Node) (m : Message) (s : SystemView) → is_own_matter r m ≡ true → is_alive_at s n ≡ true
    → Left s (delivering.received_in r n m s)
receives role.Controller n m s is alive = controls n m s
receives role.Boot n m s is alive = boot_receives n m s
receives role.KernelConfig n (message.NodeUp other) s is alive =
    either s (is_up_at s n) s (joining.has_seen n other s) (nothing s) (sees_node n other s alive)
receives r n m s is alive = absurd (false≢true is)

arrives : (e : Envelope) (s : SystemView) → is_own_matter e.to.role e.message ≡ true → Left s (delivering.arrived e.to e.message s)
arrives e s is = by (lives s e.to) refl
  where
    by : (b : Bool) → lives s e.to ≡ b → Left s (cond b (delivering.received e.to e.message s) s)
    by true there = receives e.to.role e.to.node e.message s is (and_parts _ _ there).0
    by false lost = nothing s

pub leave_alone : OwnMattersLeaveAlone
leave_alone s t e come is n =
    let so : (left : List Envelope) × Taken e s.messages left × (t ≡ delivering.arrived e.to e.message (record s { messages = left })) =
    arrives_so s t e come in
    let left : Left s (delivering.arrived e.to e.message (record s { messages = so.0 })) = arrives e (record s { messages = so.0 }) is in
    subst (LeavesAlone n s) (sym so.2) (record {
      links = left.0;
      locks = left.1;
      alive = left.3;
      answers = λ m app. inl (ap (λ (answers : List Answered). answer_count answers (pair_of n m app)) left.2);
    })
