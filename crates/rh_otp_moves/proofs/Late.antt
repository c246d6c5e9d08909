-- Behind the dist_ac's last turn, where the call is answered, if it is, and the others are told: any two messages meet again. The answer
-- frees the call's lock, if it has one, which no dist_ac reads that is told.
use Rattle.std.proofs.Common.{◌≡◌, ◌≢◌, ◌⊎◌, ◌++◌, ◌&&◌, Bool, true, false, not, List, [], slice_get, Some, refl, sym, ap, subst, ◌∙◌, inl, inr}
use Rattle.std.specs.Prelude.{All}
use Rattle.std.proofs.lemmas.Bool.{cases_Bool, cases_eq, false≢true}
use Rattle.std.proofs.lemmas.List.Elements.{All-append, All-filter, All-weaker}
use Rattle.rh_model.specs.declared.node.Node.{Node}
use Rattle.rh_otp_model.specs.declared.fault.Outcome.{Outcome}
use Rattle.rh_otp_model.specs.declared.message.Message.{Message}
use Rattle.rh_otp_model.specs.declared.message.Message.TheVariants as message
use Rattle.rh_otp_model.specs.declared.output.Envelope.{Envelope}
use Rattle.rh_otp_model.specs.declared.output.Requester.TheVariants.{Alone}
use Rattle.rh_otp_model.specs.declared.process.Process.{Process}
use Rattle.rh_otp_model.specs.declared.process.Role.TheVariants as role
use Rattle.rh_otp_model.specs.Processes.{process_at}
use Rattle.rh_otp_net.specs.Alike.{is_process, is_requester}
use Rattle.rh_otp_net.specs.declared.locks.Held.{Held}
use Rattle.rh_otp_net.specs.Queue.{is_of_pair}
use Rattle.rh_otp_node.specs.Live.{LiveView, is_alive}
use Rattle.rh_otp_system.specs.declared.calls.Call.{Call}
use Rattle.rh_otp_system.specs.declared.calls.Stage.TheVariants as stage
use Rattle.rh_otp_system.specs.Calling.{is_known}
use Rattle.rh_otp_system.specs.Calls.{process_of}
use Rattle.rh_otp_system.specs.Delivering.{arrived}
use Rattle.rh_otp_system.specs.Moves.{Delivers}
use Rattle.rh_otp_system.specs.State.{SystemView, live_at, node_at, with_node, is_alive_at}
use Rattle.rh_otp_laws.proofs.Nodes.{others_same}
use Rattle.rh_otp_laws.proofs.Order.{pair_itself}
use Rattle.rh_otp_orders.specs.Confluence.{Meet}
use Rattle.rh_otp_orders.specs.Orders.{Arrives, AreAlike, IsAtHome, LeavesAlone, is_call}
use Rattle.rh_otp_orders.proofs.Confluence.{alike_itself}
use Rattle.rh_otp_orders.proofs.Taking.{Taken, taken_arrives, taken_of_more, both_taken}
use Rattle.rh_otp_crashes.proofs.Carrying.{letters, done}
use Rattle.rh_otp_crashes.proofs.Crossing.{Cross, cross_meet, meet_back, not_back}
use Rattle.rh_otp_crashes.proofs.Peace.{here_in, without, arrives_alive, arrives_dead, turned_so, one_first, taken_all}
use Rattle.rh_otp_crashes.proofs.Turning.{Turned}
use Rattle.rh_otp_stops.proofs.Answering.{at_stage, answered_free, answered_so, the_one}
use Rattle.rh_otp_stops.proofs.Still.{Come}
use Rattle.rh_otp_stops.proofs.Stopping.{there_is}
use Rattle.rh_otp_starts.proofs.Parting.{message_comes}
use Rattle.rh_otp_permits.proofs.Noting.{answer_of, answered_then}
use Rattle.rh_otp_moves.proofs.Still.{Course, lost_leaves}
use Rattle.rh_otp_moves.proofs.Telling.{IsAbroad, hears, moves, told_to, learned}
use Rattle.rh_otp_moves.proofs.Abroad.{Going, going_left, Stepped, comes_abroad, heard_at, abroad_no_call, at_home_still, apart_meet, abroad_meet}

-- the caller is answered by the dist_ac
abbrev pub its_answer : Course → Outcome → Envelope
its_answer k o = answer_of k.lives k.call o

-- all messages are such
pub data IsLate (k : Course) : Envelope → Type 0 where
  answers : (o : Outcome) → is_known o ≡ false → IsLate k (its_answer k o)
  abroad : (e : Envelope) → IsAbroad k e → IsLate k e

pub record Over (k : Course) (s : SystemView) : Type 0 where
  pub going : Going k s
  pub kinds : All (IsLate k) s.messages

-- ---- the answer

pub going_answered : (k : Course) (o : Outcome) (s : SystemView) → Going k s → Going k (answered_then k.call o s)
going_answered k o s f = record {
  still = record {
    slow = f.still.slow;
    dists = f.still.dists;
    ends = f.still.ends;
    later = f.still.later;
    among = f.still.among;
    same_lives = f.still.same_lives;
    stage = stage.Done o;
    calls = refl;
    waits = λ call q. refl;
    life = f.still.life;
    locks = λ allowed. All-filter
        (λ (h : Held). not (is_requester h.requester (Alone (process_of k.call)) && is_process h.owner (process_of k.call)))
        (λ (h : Held). is_call h.owner.role ≡ false) s.locks (f.still.locks allowed);
  };
  tame = f.tame;
}

pub answer_frees : (k : Course) (o : Outcome) (s : SystemView) → Going k s → is_known o ≡ false → is_alive_at s k.call.node ≡ true
    → arrived (process_of k.call) (message.Answer o) s ≡ answered_then k.call o s
answer_frees k o s f known alive =
    answered_free k.call f.still.stage o s f.still.calls known alive (f.still.same_lives k.call.node ∙ sym f.still.life)

-- where the call has no lock it leaves alone what nodes share
answer_leaves : (k : Course) (o : Outcome) (s : SystemView) (left : List Envelope) → Going k s → is_known o ≡ false → k.starts ≡ true
    → (n : Node) → LeavesAlone n s (arrived (process_of k.call) (message.Answer o) (without s left))
answer_leaves k o s left f known allowed n = by (cases_Bool (is_alive_at s k.call.node))
  where
    by : (is_alive_at s k.call.node ≡ true) ⊎ (is_alive_at s k.call.node ≡ false)
        → LeavesAlone n s (arrived (process_of k.call) (message.Answer o) (without s left))
    by (inl alive) =
        subst (LeavesAlone n s)
        (sym (answered_so k.call f.still.stage o (without s left) f.still.calls (f.still.locks allowed) known alive
        (f.still.same_lives k.call.node ∙ sym f.still.life)))
        (record { links = refl; locks = refl; alive = λ j. refl; answers = λ j app. inl refl })
    by (inr dead) = lost_leaves n s _ left (arrives_dead (process_of k.call) (message.Answer o) (without s left) dead)

-- ---- what each message comes to

pub over_comes : (k : Course) (s : SystemView) (e : Envelope) (left : List Envelope) → Over k s → Taken e s.messages left → IsLate k e
    → Over k (arrived e.to e.message (without s left))
over_comes k s _ left f taken (answers o known) = by (cases_Bool (is_alive_at s k.call.node))
  where
    e : Envelope
    e = its_answer k o

    rest : All (IsLate k) left
    rest = (taken_all (IsLate k) e s.messages left taken f.kinds).1

    by : (is_alive_at s k.call.node ≡ true) ⊎ (is_alive_at s k.call.node ≡ false) → Over k (arrived e.to e.message (without s left))
    by (inl alive) =
        subst (Over k) (sym (answer_frees k o (without s left) (going_left k s left f.going) known alive))
        (record { going = going_answered k o (without s left) (going_left k s left f.going); kinds = rest })
    by (inr dead) =
        subst (Over k) (sym (arrives_dead e.to e.message (without s left) dead))
        (record { going = going_left k s left f.going; kinds = rest })
over_comes k s _ left f taken (abroad e kind) =
    let t : SystemView = arrived e.to e.message (without s left) in
    let step : Stepped k s t left = comes_abroad k s e left f.going kind in
    record {
      going = step.going;
      kinds = subst (All (IsLate k)) (sym step.sent)
          (All-append (IsLate k) left step.more (taken_all (IsLate k) e s.messages left taken f.kinds).1
          (All-weaker (IsAbroad k) (IsLate k) abroad step.more step.kinds));
    }

pub over_goes_on : (k : Course) (s t : SystemView) → Over k s → (s.messages ≡ [] → ⊥) → Delivers s t → Over k t
over_goes_on k s t f some one =
    let come : Come s t = message_comes s t some one in
    let kind : IsLate k come.message = (taken_all (IsLate k) come.message s.messages come.left come.taken f.kinds).0 in
    subst (Over k) (sym come.is) (over_comes k s come.message come.left f come.taken kind)

-- ---- the answer, and what another node is told

cross_alive : (k : Course) (s : SystemView) (o : Outcome) (m : Node) (x : Message) (left_e left_f left : List Envelope) → Going k s
    → m.0 ≢ k.call.node.0 → is_known o ≡ false → is_alive_at s k.call.node ≡ true → is_alive_at s m ≡ true
    → Turned (IsAbroad k) s.cluster s.files m (k.lives m) x (node_at s m).dist
    → Taken (told_to k x m) left_e left → Taken (its_answer k o) left_f left
    → Cross (arrived (its_answer k o).to (its_answer k o).message (without s left_e))
    (arrived (told_to k x m).to (told_to k x m).message (without s left_f)) (its_answer k o) (told_to k x m)
cross_alive k s o m x left_e left_f left f other known alive alive_too d taken_f taken_e =
    let c : Call = k.call in
    let e : Envelope = its_answer k o in
    let g : Envelope = told_to k x m in
    let to : Process = process_at (here_in k.lives m) role.DistAc in
    let old : LiveView = node_at s m in
    let there : live_at s m ≡ Some old = there_is s m alive_too in
    let new : LiveView = record old { dist = d.next } in
    let life : (node_at s c.node).life ≡ c.life = f.still.same_lives c.node ∙ sym f.still.life in
    let t : SystemView = answered_then c o (without s left_e) in
    let u : SystemView = done to d.outs (with_node m new (without s left_f)) in
    let t_left : SystemView = without t left in
    let u_left : SystemView = without u (left ++ letters d.outs) in
    let v : SystemView = arrived g.to g.message t_left in
    let w : SystemView = arrived e.to e.message u_left in
    let still : node_at (with_node m new s) c.node ≡ node_at s c.node = others_same s m c.node new (λ one. other (sym one)) in
    let is_t : arrived e.to e.message (without s left_e) ≡ t =
    answered_free c f.still.stage o (without s left_e) f.still.calls known alive life in
    let is_u : arrived g.to g.message (without s left_f) ≡ u =
    arrives_alive g.to g.message (without s left_f) alive_too (f.still.same_lives m)
    ∙ turned_so m g.message s (without s left_f) old old.dist d there refl (f.still.same_lives m) refl refl in
    let is_v : v ≡ done to d.outs (with_node m new t_left) =
    arrives_alive g.to g.message t_left alive_too (f.still.same_lives m)
    ∙ turned_so m g.message s t_left old old.dist d there refl (f.still.same_lives m) refl refl in
    let is_w : w ≡ answered_then c o u_left =
    answered_free c f.still.stage o u_left f.still.calls known (ap is_alive still ∙ alive)
    (ap (λ (y : LiveView). y.life) still ∙ life) in (
      v,
      w,
      subst (λ (y : SystemView). Arrives g y v) (sym is_t) (taken_arrives t g left taken_f),
      subst (λ (y : SystemView). Arrives e y w) (sym is_u)
          (taken_arrives u e (left ++ letters d.outs) (taken_of_more e left_f left (letters d.outs) taken_e)),
      is_v ∙ sym is_w,
    )

cross_dead : (k : Course) (s : SystemView) (o : Outcome) (m : Node) (x : Message) (left_e left_f left : List Envelope) → Going k s
    → is_known o ≡ false → is_alive_at s k.call.node ≡ true → is_alive_at s m ≡ false
    → Taken (told_to k x m) left_e left → Taken (its_answer k o) left_f left
    → Cross (arrived (its_answer k o).to (its_answer k o).message (without s left_e))
    (arrived (told_to k x m).to (told_to k x m).message (without s left_f)) (its_answer k o) (told_to k x m)
cross_dead k s o m x left_e left_f left f known alive dead taken_f taken_e =
    let c : Call = k.call in
    let e : Envelope = its_answer k o in
    let g : Envelope = told_to k x m in
    let life : (node_at s c.node).life ≡ c.life = f.still.same_lives c.node ∙ sym f.still.life in
    let t : SystemView = answered_then c o (without s left_e) in
    let t_left : SystemView = without t left in
    let v : SystemView = arrived g.to g.message t_left in
    let w : SystemView = arrived e.to e.message (without s left) in (
      v,
      w,
      subst (λ (y : SystemView). Arrives g y v)
          (sym (answered_free c f.still.stage o (without s left_e) f.still.calls known alive life)) (taken_arrives t g left taken_f),
      subst (λ (y : SystemView). Arrives e y w) (sym (arrives_dead g.to g.message (without s left_f) dead))
          (taken_arrives (without s left_f) e left taken_e),
      arrives_dead g.to g.message t_left dead
          ∙ sym (answered_free c f.still.stage o (without s left) f.still.calls known alive life),
    )

-- an answer is for a call of its own node
pub answer_home : (k : Course) (s : SystemView) (o : Outcome) → Going k s → IsAtHome (its_answer k o) s
answer_home k s o f place call there is =
    ap (λ (x : Call). x.node)
    (sym (the_one (at_stage k.call f.still.stage) call place
    (sym (ap (λ (l : List Call). slice_get l place) f.still.calls) ∙ there)))

answer_meets : (k : Course) (s : SystemView) (o : Outcome) (g : Envelope) (left_e left_f : List Envelope) → Going k s
    → is_known o ≡ false → IsAbroad k g → Taken (its_answer k o) s.messages left_e → Taken g s.messages left_f
    → is_of_pair (its_answer k o) g ≡ false
    → Meet (arrived (its_answer k o).to (its_answer k o).message (without s left_e)) (arrived g.to g.message (without s left_f))
answer_meets k s o _ left_e left_f f known (hears m x other told) taken_e taken_f apart =
    by (cases_Bool (is_alive_at s k.call.node)) (cases_Bool (is_alive_at s m))
  where
    e : Envelope
    e = its_answer k o

    g : Envelope
    g = told_to k x m

    both : (left : List Envelope) × Taken g left_e left × Taken e left_f left
    both = both_taken e g s.messages left_e left_f apart taken_e taken_f

    by : (is_alive_at s k.call.node ≡ true) ⊎ (is_alive_at s k.call.node ≡ false)
        → (is_alive_at s m ≡ true) ⊎ (is_alive_at s m ≡ false)
        → Meet (arrived e.to e.message (without s left_e)) (arrived g.to g.message (without s left_f))
    by (inl alive) (inl alive_too) =
        cross_meet _ _ e g (cross_alive k s o m x left_e left_f both.0 f other known alive alive_too
        (heard_at k s f m x other told alive_too).turned both.1 both.2)
    by (inl alive) (inr dead) = cross_meet _ _ e g (cross_dead k s o m x left_e left_f both.0 f known alive dead both.1 both.2)
    by (inr dead) at =
        apart_meet s _ _ e g (taken_arrives s e left_e taken_e) (taken_arrives s g left_f taken_f)
        (λ n. lost_leaves n s _ left_e (arrives_dead e.to e.message (without s left_e) dead))
        (comes_abroad k s g left_f f (hears m x other told)).leaves
        (answer_home k s o f) (at_home_still s g refl) refl (λ one. other (sym one))
answer_meets k s o _ left_e left_f f known (moves m other allowed) taken_e taken_f apart =
    let e : Envelope = its_answer k o in
    let g : Envelope = learned k m in
    apart_meet s _ _ e g (taken_arrives s e left_e taken_e) (taken_arrives s g left_f taken_f)
    (answer_leaves k o s left_e f known allowed.1) (comes_abroad k s g left_f f (moves m other allowed)).leaves
    (answer_home k s o f) (at_home_still s g refl) refl (λ one. other (sym one))

-- ---- any two meet

-- what is on its way to other nodes
pub abroad_both_meet : (k : Course) (s : SystemView) (e f : Envelope) (left_e left_f : List Envelope) → Going k s → IsAbroad k e
    → IsAbroad k f → Taken e s.messages left_e → Taken f s.messages left_f → is_of_pair e f ≡ false
    → Meet (arrived e.to e.message (without s left_e)) (arrived f.to f.message (without s left_f))
abroad_both_meet k s e f left_e left_f g kind_e kind_f taken_e taken_f apart =
    elim (cases_eq e.to.node.0 f.to.node.0) [
      | inl one ↦ abroad_meet k s e f left_e left_f g kind_e kind_f taken_e taken_f apart one
      | inr two ↦ apart_meet s _ _ e f (taken_arrives s e left_e taken_e) (taken_arrives s f left_f taken_f)
          (comes_abroad k s e left_e g kind_e).leaves (comes_abroad k s f left_f g kind_f).leaves
          (at_home_still s e (abroad_no_call k e kind_e)) (at_home_still s f (abroad_no_call k f kind_f))
          (ap (λ (b : Bool). b && is_call f.to.role) (abroad_no_call k e kind_e)) two
    ]

pub both_meet : (k : Course) (s : SystemView) (e f : Envelope) (left_e left_f : List Envelope) → Going k s → IsLate k e → IsLate k f
    → Taken e s.messages left_e → Taken f s.messages left_f → is_of_pair e f ≡ false
    → Meet (arrived e.to e.message (without s left_e)) (arrived f.to f.message (without s left_f))
both_meet k s _ _ left_e left_f g (answers o known) (answers p also) taken_e taken_f apart =
    absurd (false≢true (sym apart ∙ pair_itself (its_answer k o)))
both_meet k s _ _ left_e left_f g (answers o known) (abroad f kind) taken_e taken_f apart =
    answer_meets k s o f left_e left_f g known kind taken_e taken_f apart
both_meet k s _ _ left_e left_f g (abroad e kind) (answers o known) taken_e taken_f apart =
    meet_back _ _ (answer_meets k s o e left_f left_e g known kind taken_f taken_e (not_back e (its_answer k o) apart))
both_meet k s _ _ left_e left_f g (abroad e kind) (abroad f kind') taken_e taken_f apart =
    abroad_both_meet k s e f left_e left_f g kind kind' taken_e taken_f apart

-- where any two messages of such kinds do, that aren't of one pair
pub kinds_meet : (K : Envelope → Type 0) (s t u : SystemView) → All K s.messages → (s.messages ≡ [] → ⊥)
    → ((e f : Envelope) (left_e left_f : List Envelope) → K e → K f → Taken e s.messages left_e → Taken f s.messages left_f
    → is_of_pair e f ≡ false
    → Meet (arrived e.to e.message (without s left_e)) (arrived f.to f.message (without s left_f)))
    → Delivers s t → Delivers s u → Meet t u
kinds_meet K s t u kinds some both to_t to_u = by (cases_Bool (is_of_pair d.message e.message))
  where
    d : Come s t
    d = message_comes s t some to_t

    e : Come s u
    e = message_comes s u some to_u

    same : (d.message ≡ e.message) × (d.left ≡ e.left) → t ≡ u
    same is = d.is ∙ (λ i. arrived (is.0 i).to (is.0 i).message (without s (is.1 i))) ∙ sym e.is

    by : (is_of_pair d.message e.message ≡ true) ⊎ (is_of_pair d.message e.message ≡ false) → Meet t u
    by (inl pair) =
        inl (subst (AreAlike t) (same (one_first d.message e.message s.messages d.left e.left pair d.taken e.taken)) (alike_itself t))
    by (inr apart) =
        subst (λ (x : SystemView). Meet x u) (sym d.is)
        (subst (λ (x : SystemView). Meet (arrived d.message.to d.message.message (without s d.left)) x) (sym e.is)
        (both d.message e.message d.left e.left (taken_all K d.message s.messages d.left d.taken kinds).0
        (taken_all K e.message s.messages e.left e.taken kinds).0 d.taken e.taken apart))

pub over_meets : (k : Course) (s t u : SystemView) → Over k s → (s.messages ≡ [] → ⊥) → Delivers s t → Delivers s u → Meet t u
over_meets k s t u f some to_t to_u =
    kinds_meet (IsLate k) s t u f.kinds some
    (λ e g left_e left_g kind_e kind_g taken_e taken_g apart.
    both_meet k s e g left_e left_g f.going kind_e kind_g taken_e taken_g apart) to_t to_u
