-- A call that permits or forbids a distributed application: its controller says whether that is started, it takes the lock of the nodes
-- that it sees, and asks dist_ac.
use Rattle.std.proofs.Common.{◌≡◌, ◌⊎◌, ◌++◌, ◌&&◌, ◌||◌, ◌==◌, Bool, true, false, cond, [], ◌∷◌, Option, Some, refl, ap, subst, ◌∙◌, inl, inr}
use Rattle.std.proofs.lemmas.Bool.{eq-eqb}
use Rattle.std.proofs.lemmas.List.Elements.{All-nil, All-cons}
use Rattle.rh_model.specs.declared.node.App.{App}
use Rattle.rh_model.specs.declared.node.Node.{Node}
use Rattle.rh_otp_model.specs.declared.fault.Outcome.{Outcome}
use Rattle.rh_otp_model.specs.declared.fault.Outcome.TheVariants.{Done, IsStarted, IsOnlyLoaded}
use Rattle.rh_otp_model.specs.declared.message.Message.TheVariants as message
use Rattle.rh_otp_model.specs.declared.output.Envelope.{Envelope}
use Rattle.rh_otp_model.specs.declared.output.Output.TheVariants as output
use Rattle.rh_otp_model.specs.declared.output.Requester.TheVariants.{Alone}
use Rattle.rh_otp_model.specs.declared.process.Process.{Process}
use Rattle.rh_otp_model.specs.declared.process.Role.TheVariants as role
use Rattle.rh_otp_model.specs.Own.{controls}
use Rattle.rh_otp_controller.specs.Calls.{permit, permit_distributed}
use Rattle.rh_otp_controller.specs.Changes.{received}
use Rattle.rh_otp_controller.specs.State.{TurnView as ControllerTurn}
use Rattle.rh_otp_dist.specs.declared.attempt.AskedBy.TheVariants as asked
use Rattle.rh_otp_dist.specs.declared.state.Standing.{Standing}
use Rattle.rh_otp_dist.specs.Calls.{is_away, before_permit, forbid_here, permit_by}
use Rattle.rh_otp_dist.specs.Calls as dist
use Rattle.rh_otp_dist.specs.Choosing.{backwards, start_appl}
use Rattle.rh_otp_dist.specs.Sending.{answer}
use Rattle.rh_otp_dist.specs.State.{TurnView, standing_of, permitted, with_state, with_permission}
use Rattle.rh_otp_dist.specs.Told.{is_local}
use Rattle.rh_otp_net.specs.Locks.{taken}
use Rattle.rh_otp_system.specs.declared.calls.Ask.TheVariants as ask
use Rattle.rh_otp_system.specs.declared.calls.Call.{Call}
use Rattle.rh_otp_system.specs.declared.calls.Stage.TheVariants as stage
use Rattle.rh_otp_system.specs.Calling.{is_known, is_only_loaded, is_synchronised_at, call_received, call_received_at, done_with, go_on_call, behind_sync, wait_for_lock, lock_call}
use Rattle.rh_otp_system.specs.Calls.{process_of}
use Rattle.rh_otp_system.specs.Delivering.{arrived}
use Rattle.rh_otp_system.specs.State.{SystemView, node_at, is_alive_at}
use Rattle.rh_otp_system.specs.Working.{alive_of, around}
use Rattle.rh_otp_crashes.proofs.Peace.{arrives_alive}
use Rattle.rh_otp_crashes.proofs.Posting.{posts, sends}
use Rattle.rh_otp_stops.proofs.Answering.{found_alone}
use Rattle.rh_otp_stops.proofs.Saying.{its_answer}
use Rattle.rh_otp_starts.proofs.Saying.{fresh}
use Rattle.rh_otp_starts.proofs.Turns.{IsSaid, sends as sends_it, Turn}
use Rattle.rh_otp_permits.specs.Permits.{is_begun}

-- ---- what its controller says

abbrev pub first_answer : Bool → Outcome
first_answer begun = cond begun IsStarted IsOnlyLoaded

-- one that ends says nothing, and else it says whether the application is started
pub data Says (c : Call) (t u : ControllerTurn) : Type 0 where
  nothing : Turn t.here.node u [] → Says c t u
  says : Turn t.here.node u (its_answer t.here c (first_answer (is_begun c.app t.state)) ∷ []) → u.state.is_ending ≡ false → Says c t u

pub permit_says : (c : Call) (allow : Bool) (t : ControllerTurn) → controls t.own c.app ≡ true
    → Says c t (received (message.Permit c.app allow (process_of c)) (fresh t))
unfolding received permit
permit_says c allow t listed = by t.state.is_ending refl
  where
    a : App
    a = c.app

    p : Process
    p = process_of c

    n : Node
    n = t.here.node

    e : Envelope
    e = its_answer t.here c (first_answer (is_begun a t.state))

    told : t.state.is_ending ≡ false → Says c t (permit_distributed a allow p (fresh t))
    told not_ending = says (record {
      said = All-cons (IsSaid n) (output.Send e) [] (sends_it e) (All-nil (IsSaid n));
      sent = refl;
    }) not_ending

    listed_so : (b : Bool) → b ≡ true → (other : ControllerTurn) → t.state.is_ending ≡ false
        → Says c t (cond b (permit_distributed a allow p (fresh t)) other)
    listed_so true is other not_ending = told not_ending
    listed_so false is other not_ending = absurd (not_so is)
      where
        not_so : false ≡ true → ⊥
        not_so is = subst (λ (b : Bool). cond b ⊥ (Says c t (fresh t) → Says c t (fresh t))) is (λ x. x)

    by : (b : Bool) → t.state.is_ending ≡ b → Says c t (cond b (fresh t) (permit a allow p (fresh t)))
    by true is = nothing (record { said = All-nil (IsSaid n); sent = refl })
    by false is = listed_so (controls t.own a) listed _ is

-- ---- the call goes on

-- as it waits for its controller
abbrev pub waiting_call : Bool → Call → Call
waiting_call allow c = record c { ask = ask.Permit allow; stage = stage.Controller }

-- as it is told whether the application is started at all
abbrev pub told_call : Bool → Bool → Call → Call
told_call allow only c = record (waiting_call allow c) { only_loaded = only }

-- what it asks of dist_ac
abbrev pub its_permit : Bool → Bool → Call → Envelope
its_permit allow only c = record {
  from = process_of c;
  to = record (process_of c) { role = role.DistAc };
  message = message.PermitDistributed c.app allow only (process_of c);
}

-- with the lock of the nodes that its node sees
abbrev pub asked_second : Bool → Bool → Call → SystemView → SystemView
asked_second allow only c s = record s {
  calls = record (told_call allow only c) { stage = stage.DistAc } ∷ [];
  locks = taken (Alone (process_of c)) (process_of c) (alive_of s (around s c.node)) [];
  messages = its_permit allow only c ∷ [];
}

pub goes_on : (c : Call) (allow : Bool) (o : Outcome) (s : SystemView) → is_known o ≡ true → s.calls ≡ waiting_call allow c ∷ []
    → s.locks ≡ [] → s.messages ≡ [] → is_alive_at s c.node ≡ true → (node_at s c.node).life ≡ c.life
    → is_synchronised_at c.node s ≡ true
    → arrived (process_of c) (message.Answer o) s ≡ asked_second allow (is_only_loaded o) c s
unfolding call_received go_on_call behind_sync wait_for_lock lock_call
goes_on c allow o s known calls locks none alive life synchronised =
    arrives_alive (process_of c) (message.Answer o) s alive life
    ∙ (λ i. call_received c.number (message.Answer o) (record s { calls = calls i; locks = locks i; messages = none i }))
    ∙ ap (λ (place : Option _). call_received_at place (message.Answer o) one) (found_alone (waiting_call allow c) one refl)
    ∙ ap (λ (b : Bool). cond b (go_on_call 0 told) (done_with 0 (waiting_call allow c) o one)) known
    ∙ ap (λ (b : Bool). cond (cond b (is_synchronised_at c.node told) false) (behind_sync 0 synchronising told) told) lives_so
    ∙ ap (λ (b : Bool). cond b (behind_sync 0 synchronising told) told) synchronised
  where
    one : SystemView
    one = record s { calls = waiting_call allow c ∷ []; locks = []; messages = [] }

    synchronising : Call
    synchronising = record (told_call allow (is_only_loaded o) c) { stage = stage.Synchronised }

    told : SystemView
    told = record one { calls = synchronising ∷ [] }

    lives_so : (is_alive_at s c.node && (node_at s c.node).life == c.life) ≡ true
    lives_so = ap (λ (b : Bool). b && (node_at s c.node).life == c.life) alive ∙ eq-eqb (node_at s c.node).life c.life life

-- ---- dist_ac is asked

-- the permission is set and told, and the caller is answered
abbrev pub permitted_over : App → Bool → Process → TurnView → TurnView
permitted_over a allow p t = answer p Done (record t {
  state = with_permission t.here.node a allow t.state;
  out = t.out ++ posts t.here.node (message.NewPermission t.here.node a allow (is_local (standing_of t.state a))) (backwards t.own a);
})

-- what then changes is the permission alone
abbrev pub IsQuiet : Bool → Bool → Standing → Type 0
IsQuiet allow only st = (only ≡ true) ⊎ ((allow ≡ true) × (is_local st ≡ true)) ⊎ ((allow ≡ false) × (is_away st ≡ true))

either : (b : Bool) (t u : TurnView) → cond (b || true) t u ≡ t
either true t u = refl
either false t u = refl

alike : (b : Bool) (t : TurnView) → cond b t t ≡ t
alike true t = refl
alike false t = refl

pub permits_so : (a : App) (allow only : Bool) (p : Process) (t : TurnView)
    → IsQuiet allow only (standing_of t.state a) → dist.permit a allow only p t ≡ permitted_over a allow p t
unfolding dist.permit
permits_so a allow only p t quiet =
    ap (permit_by a allow only p st) (sends (message.NewPermission t.here.node a allow (is_local st)) (backwards t.own a)
    (with_state (with_permission t.here.node a allow t.state) t))
    ∙ by quiet
  where
    st : Standing
    st = standing_of t.state a

    u : TurnView
    u = record t {
      state = with_permission t.here.node a allow t.state;
      out = t.out ++ posts t.here.node (message.NewPermission t.here.node a allow (is_local st)) (backwards t.own a);
    }

    by : IsQuiet allow only st → permit_by a allow only p st u ≡ answer p Done u
    by (inl is) = ap (λ (b : Bool). permit_by a allow b p st u) is
    by (inr (inl (is, local))) =
        ap (λ (b : Bool). permit_by a b only p st u) is
        ∙ ap (λ (b : Bool). cond (only || b) (answer p Done u) (start_appl a asked.Nobody (Some (before_permit a p u.state)) u)) local
        ∙ either only (answer p Done u) (start_appl a asked.Nobody (Some (before_permit a p u.state)) u)
    by (inr (inr (is, away))) =
        ap (λ (b : Bool). permit_by a b only p st u) is
        ∙ ap (λ (b : Bool). cond (only || false) (answer p Done u) (cond b (answer p Done u) (forbid_here a p (permitted u.state a) u)))
        away
        ∙ alike (only || false) (answer p Done u)
