-- Behind a takeover any two messages meet again: the answer frees a lock, which nothing reads that comes of the others.
use Rattle.std.proofs.Common.{◌≡◌, ◌≢◌, ◌⊎◌, ◌&&◌, ℕ, Bool, true, false, List, [], slice_get, Option, refl, sym, ap, subst, ◌∙◌, inl, inr}
use Rattle.std.proofs.lemmas.Bool.{cases_Bool, cases_eq, false≢true}
use Rattle.rh_model.specs.declared.node.Node.{Node}
use Rattle.rh_model.specs.declared.settings.Dep.{Dep}
use Rattle.rh_otp_model.specs.declared.fault.Outcome.{Outcome}
use Rattle.rh_otp_model.specs.declared.output.Envelope.{Envelope}
use Rattle.rh_otp_model.specs.declared.output.Requester.TheVariants.{Alone}
use Rattle.rh_otp_net.specs.declared.locks.Held.{Held}
use Rattle.rh_otp_net.specs.Locks.{freed}
use Rattle.rh_otp_net.specs.Queue.{is_of_pair}
use Rattle.rh_otp_system.specs.declared.calls.Call.{Call}
use Rattle.rh_otp_system.specs.Calling.{is_known}
use Rattle.rh_otp_system.specs.Calls.{process_of}
use Rattle.rh_otp_system.specs.Delivering.{arrived}
use Rattle.rh_otp_system.specs.Moves.{Delivers}
use Rattle.rh_otp_system.specs.State.{SystemView}
use Rattle.rh_otp_laws.proofs.Order.{pair_itself}
use Rattle.rh_otp_orders.specs.Confluence.{Meet, IsOrderly}
use Rattle.rh_otp_orders.specs.Orders.{Arrives, AreAlike, AreIndependent, IsAtHome, LeavesAlone, is_call}
use Rattle.rh_otp_orders.proofs.Commuting.{messages_commute}
use Rattle.rh_otp_orders.proofs.Confluence.{alike_itself}
use Rattle.rh_otp_orders.proofs.Taking.{Taken, arrives_so, taken_arrives}
use Rattle.rh_otp_crashes.proofs.Crossing.{crosses, meet_back, not_back, same_node}
use Rattle.rh_otp_crashes.proofs.Peace.{AtEase, Came, without, delivers, one_first, taken_all}
use Rattle.rh_otp_crashes.proofs.Starting.{moves_elsewhere}
use Rattle.rh_otp_stops.proofs.Answering.{at_stage, the_one}
use Rattle.rh_otp_stops.proofs.Meeting.{not_apart}
use Rattle.rh_otp_stops.proofs.Still.{Come, acted_leaves}
use Rattle.rh_otp_starts.proofs.Parting.{message_comes, by_messages}
use Rattle.rh_otp_permits.proofs.Noting.{answer_of, answered_then}
use Rattle.rh_otp_begins.proofs.Running.{news, learned}
use Rattle.rh_otp_takeovers.proofs.Holding.{unlocked, Holds, quiet_orderly}
use Rattle.rh_otp_takeovers.proofs.Telling.{IsAbroad, tells, moves, IsLast, answers, abroad, to_another, Telling, heard, comes_abroad, unlocked_abroad, answer_comes, came_on, goes_on}

-- ---- at two nodes

-- none of these is for a call
not_a_call : {lives : Node → ℕ} {c : Call} {error : Option Dep} (e : Envelope) → IsAbroad lives c error e → is_call e.to.role ≡ false
not_a_call _ (tells m other) = refl
not_a_call _ (moves m other) = refl

-- so none is for a call of another node
abroad_home : {lives : Node → ℕ} {c : Call} {error : Option Dep} (s : SystemView) (e : Envelope) → IsAbroad lives c error e → IsAtHome e s
abroad_home s e kind place call there is = absurd (false≢true (sym (not_a_call e kind) ∙ ap is_call is))

-- and none changes what nodes share
leaves : {lives : Node → ℕ} {c : Call} {error : Option Dep} (n : Node) (s : SystemView) (e : Envelope) (left : List Envelope)
    → Telling lives c error s → IsAbroad lives c error e → LeavesAlone n s (arrived e.to e.message (without s left))
leaves {lives} {c} {error} n s e left f kind = by (comes_abroad s e left f kind)
  where
    t : SystemView
    t = arrived e.to e.message (without s left)

    by : Came AtEase (IsLast lives c error) e.to.node (without s left) t → LeavesAlone n s t
    by (inl acted) = acted_leaves n e.to.node s t left acted
    by (inr same) =
        subst (LeavesAlone n s) (sym same) (record { links = refl; locks = refl; alive = λ k. refl; answers = λ k app. inl refl })

-- two that are both for others
abroad_meet : {lives : Node → ℕ} {c : Call} {error : Option Dep} (s : SystemView) (e f : Envelope) (left_e left_f : List Envelope)
    → Telling lives c error s → IsAbroad lives c error e → IsAbroad lives c error f → Taken e s.messages left_e → Taken f s.messages left_f
    → e.to.node.0 ≢ f.to.node.0
    → Meet (arrived e.to e.message (without s left_e)) (arrived f.to f.message (without s left_f))
abroad_meet s e f left_e left_f g kind_e kind_f taken_e taken_f apart =
    let t : SystemView = arrived e.to e.message (without s left_e) in
    let u : SystemView = arrived f.to f.message (without s left_f) in
    let independent : AreIndependent s t u e f = record {
      one = taken_arrives s e left_e taken_e;
      other = taken_arrives s f left_f taken_f;
      two_nodes = apart;
      leaves_other = leaves f.to.node s e left_e g kind_e;
      leaves_one = leaves e.to.node s f left_f g kind_f;
      one_home = abroad_home s e kind_e;
      other_home = abroad_home s f kind_f;
      one_call = ap (λ (b : Bool). b && is_call f.to.role) (not_a_call e kind_e);
    } in
    let both = messages_commute s t u e f independent in
    inr (both.0, both.1, delivers f t both.0 both.2, delivers e u both.1 both.3, both.4)

-- ---- the answer, and one for another node

-- two systems are alike where they are but for locks, and the locks are the same
relocked : (s t : SystemView) → AreAlike (unlocked s) (unlocked t) → s.locks ≡ t.locks → AreAlike s t
relocked s t a same = record {
  cluster = a.cluster;
  files = a.files;
  nodes = a.nodes;
  clock = a.clock;
  step = a.step;
  last_call = a.last_call;
  alive = a.alive;
  links = a.links;
  locks = same;
  calls = a.calls;
  asleep = a.asleep;
  told = a.told;
  answers = a.answers;
  is_ticking = a.is_ticking;
  ends_soon = a.ends_soon;
  messages = a.messages;
  timers = a.timers;
  slow = a.slow;
  events = a.events;
}

-- it is the same without locks
telling_unlocked : {lives : Node → ℕ} {c : Call} {error : Option Dep} (s : SystemView) → Telling lives c error s
    → Telling lives c error (unlocked s)
telling_unlocked s f = record { still = record { waits = f.still.waits; soon = f.still.soon }; kinds = f.kinds; alive = f.alive }

-- both of a system without locks come alike, and neither reads the lock
answer_meets : {lives : Node → ℕ} {c : Call} {error : Option Dep} (s : SystemView) (o : Outcome) (g : Envelope)
    (left_e left_g : List Envelope) → Telling lives c error s → is_known o ≡ false → IsAbroad lives c error g
    → Taken (answer_of lives c o) s.messages left_e → Taken g s.messages left_g
    → Meet (arrived (answer_of lives c o).to (answer_of lives c o).message (without s left_e)) (arrived g.to g.message (without s left_g))
answer_meets {lives} {c} {error} s o g left_e left_g f known kind taken_e taken_g =
    inr (
      v,
      w,
      delivers g t v (taken_arrives t g from_t.0 from_t.1),
      delivers e u w (taken_arrives u e from_u.0 from_u.1),
      relocked v w
          (subst (λ (x : SystemView). AreAlike x (unlocked w)) is_v (subst (AreAlike both.0) is_w both.4)) same_locks,
    )
  where
    e : Envelope
    e = answer_of lives c o

    bare : SystemView
    bare = unlocked s

    f_bare : Telling lives c error bare
    f_bare = telling_unlocked s f

    t : SystemView
    t = arrived e.to e.message (without s left_e)

    u : SystemView
    u = arrived g.to g.message (without s left_g)

    f_t : Telling lives c error t
    f_t = came_on s e left_e f taken_e (answers o known)

    f_u : Telling lives c error u
    f_u = came_on s g left_g f taken_g (abroad g kind)

    bare_t : arrived e.to e.message (without bare left_e) ≡ unlocked t
    bare_t = answer_comes o bare left_e f_bare known ∙ ap unlocked (sym (answer_comes o s left_e f known))

    u_so : (arrived g.to g.message (without bare left_g) ≡ unlocked u) × (u.locks ≡ s.locks)
    u_so = unlocked_abroad s g left_g f kind

    answer_leaves : LeavesAlone g.to.node bare (arrived e.to e.message (without bare left_e))
    answer_leaves = subst (LeavesAlone g.to.node bare) (sym (answer_comes o bare left_e f_bare known))
        (record { links = refl; locks = refl; alive = λ k. refl; answers = λ k app. inl refl })

    home : IsAtHome e bare
    home place call there is =
        ap (λ (x : Call). x.node)
        (sym (the_one (at_stage c f.still.waits.stage) call place
        (sym (ap (λ (l : List Call). slice_get l place) f.still.waits.calls) ∙ there)))

    t_bare : SystemView
    t_bare = arrived e.to e.message (without bare left_e)

    u_bare : SystemView
    u_bare = arrived g.to g.message (without bare left_g)

    both : (x : SystemView) × (y : SystemView) × Arrives g t_bare x × Arrives e u_bare y × AreAlike x y
    both = messages_commute bare t_bare u_bare e g (record {
      one = taken_arrives bare e left_e taken_e;
      other = taken_arrives bare g left_g taken_g;
      two_nodes = λ one. to_another g kind (sym one);
      leaves_other = answer_leaves;
      leaves_one = leaves c.node bare g left_g f_bare kind;
      one_home = home;
      other_home = abroad_home bare g kind;
      one_call = not_a_call g kind;
    })

    from_t : (left : List Envelope) × Taken g t.messages left × (both.0 ≡ arrived g.to g.message (without (unlocked t) left))
    from_t = arrives_so (unlocked t) both.0 g (subst (λ (x : SystemView). Arrives g x both.0) bare_t both.2)

    from_u : (left : List Envelope) × Taken e u.messages left × (both.1 ≡ arrived e.to e.message (without (unlocked u) left))
    from_u = arrives_so (unlocked u) both.1 e (subst (λ (x : SystemView). Arrives e x both.1) u_so.0 both.3)

    v : SystemView
    v = arrived g.to g.message (without t from_t.0)

    w : SystemView
    w = arrived e.to e.message (without u from_u.0)

    v_so : (arrived g.to g.message (without (unlocked t) from_t.0) ≡ unlocked v) × (v.locks ≡ t.locks)
    v_so = unlocked_abroad t g from_t.0 f_t kind

    is_v : both.0 ≡ unlocked v
    is_v = from_t.2 ∙ v_so.0

    w_comes : w ≡ answered_then c o (without u from_u.0)
    w_comes = answer_comes o u from_u.0 f_u known

    is_w : both.1 ≡ unlocked w
    is_w = from_u.2 ∙ answer_comes o (unlocked u) from_u.0 (telling_unlocked u f_u) known ∙ ap unlocked (sym w_comes)

    same_locks : v.locks ≡ w.locks
    same_locks =
        v_so.1 ∙ ap (λ (x : SystemView). x.locks) (answer_comes o s left_e f known)
        ∙ ap (λ (l : List Held). freed (Alone (process_of c)) (process_of c) l) (sym u_so.1)
        ∙ sym (ap (λ (x : SystemView). x.locks) w_comes)

-- ---- at one other node

-- its dist_ac hears of it, and its controller learns of it
cross_there : {lives : Node → ℕ} {c : Call} {error : Option Dep} (s : SystemView) → Telling lives c error s
    → (m k : Node) (left_e left_f : List Envelope)
    → m.0 ≢ c.node.0 → Taken (news lives c error m) s.messages left_e → Taken (learned lives c k) s.messages left_f
    → is_of_pair (news lives c error m) (learned lives c k) ≡ false → m ≡ k
    → Meet (arrived (news lives c error m).to (news lives c error m).message (without s left_e))
    (arrived (learned lives c k).to (learned lives c k).message (without s left_f))
cross_there {lives} {c} {error} s f m k left_e left_f other taken_e taken_f apart one =
    subst (λ (x : Node). Taken (learned lives c x) s.messages left_f
    → is_of_pair (news lives c error m) (learned lives c x) ≡ false
    → Meet (arrived (news lives c error m).to (news lives c error m).message (without s left_e))
    (arrived (learned lives c x).to (learned lives c x).message (without s left_f))) one
    (λ taken apart. crosses s m (news lives c error m).from (learned lives c m).from (news lives c error m).message
    (learned lives c m).message left_e left_f f.still.waits.same_lives (λ alive. heard m s f other alive)
    (moves_elsewhere s.cluster s.files m c.app c.node) taken_e taken apart)
    taken_f apart

-- any two at one other node
same_meet : {lives : Node → ℕ} {c : Call} {error : Option Dep} (s : SystemView) (e f : Envelope) (left_e left_f : List Envelope)
    → Telling lives c error s → IsAbroad lives c error e → IsAbroad lives c error f → Taken e s.messages left_e → Taken f s.messages left_f
    → is_of_pair e f ≡ false → e.to.node.0 ≡ f.to.node.0
    → Meet (arrived e.to e.message (without s left_e)) (arrived f.to f.message (without s left_f))
same_meet {lives} {c} {error} s _ _ left_e left_f g (tells m other) (tells k other') taken_e taken_f apart one =
    not_apart _ (news lives c error m) (news lives c error k) (ap (news lives c error) (same_node m k one)) apart
same_meet s _ _ left_e left_f g (tells m other) (moves k other') taken_e taken_f apart one =
    cross_there s g m k left_e left_f other taken_e taken_f apart (same_node m k one)
same_meet {lives} {c} {error} s _ _ left_e left_f g (moves m other) (tells k other') taken_e taken_f apart one =
    meet_back _ _ (cross_there s g k m left_f left_e other' taken_f taken_e (not_back (learned lives c m) (news lives c error k) apart)
    (same_node k m (sym one)))
same_meet {lives} {c} {error} s _ _ left_e left_f g (moves m other) (moves k other') taken_e taken_f apart one =
    not_apart _ (learned lives c m) (learned lives c k) (ap (learned lives c) (same_node m k one)) apart

-- ---- any two meet

-- two of different pairs
both_meet : {lives : Node → ℕ} {c : Call} {error : Option Dep} (s : SystemView) (e f : Envelope) (left_e left_f : List Envelope)
    → Telling lives c error s → IsLast lives c error e → IsLast lives c error f → Taken e s.messages left_e → Taken f s.messages left_f
    → is_of_pair e f ≡ false
    → Meet (arrived e.to e.message (without s left_e)) (arrived f.to f.message (without s left_f))
both_meet {lives} {c} s _ _ left_e left_f g (answers o known) (answers p also) taken_e taken_f apart =
    absurd (false≢true (sym apart ∙ pair_itself (answer_of lives c o)))
both_meet s _ f left_e left_f g (answers o known) (abroad _ kind) taken_e taken_f apart =
    answer_meets s o f left_e left_f g known kind taken_e taken_f
both_meet s e _ left_e left_f g (abroad _ kind) (answers o known) taken_e taken_f apart =
    meet_back _ _ (answer_meets s o e left_f left_e g known kind taken_f taken_e)
both_meet s e f left_e left_f g (abroad _ kind) (abroad _ also) taken_e taken_f apart =
    elim (cases_eq e.to.node.0 f.to.node.0) [
      | inl one ↦ same_meet s e f left_e left_f g kind also taken_e taken_f apart one
      | inr two ↦ abroad_meet s e f left_e left_f g kind also taken_e taken_f two
    ]

-- whatever moves
meets : {lives : Node → ℕ} {c : Call} {error : Option Dep} (s t u : SystemView) → Telling lives c error s → (s.messages ≡ [] → ⊥)
    → Delivers s t → Delivers s u → Meet t u
meets {lives} {c} {error} s t u f some to_t to_u = by (cases_Bool (is_of_pair d.message e.message))
  where
    d : Come s t
    d = message_comes s t some to_t

    e : Come s u
    e = message_comes s u some to_u

    kind_d : IsLast lives c error d.message
    kind_d = (taken_all (IsLast lives c error) d.message s.messages d.left d.taken f.kinds).0

    kind_e : IsLast lives c error e.message
    kind_e = (taken_all (IsLast lives c error) e.message s.messages e.left e.taken f.kinds).0

    same : (d.message ≡ e.message) × (d.left ≡ e.left) → t ≡ u
    same is = d.is ∙ (λ i. arrived (is.0 i).to (is.0 i).message (without s (is.1 i))) ∙ sym e.is

    by : (is_of_pair d.message e.message ≡ true) ⊎ (is_of_pair d.message e.message ≡ false) → Meet t u
    by (inl pair) =
        inl (subst (AreAlike t) (same (one_first d.message e.message s.messages d.left e.left pair d.taken e.taken)) (alike_itself t))
    by (inr apart) =
        subst (λ (x : SystemView). Meet x u) (sym d.is)
        (subst (λ (x : SystemView). Meet (arrived d.message.to d.message.message (without s d.left)) x) (sym e.is)
        (both_meet s d.message e.message d.left e.left f kind_d kind_e d.taken e.taken apart))

-- ---- every order

-- so all orders end alike
pub orderly : {lives : Node → ℕ} {c : Call} {error : Option Dep} (s : SystemView) → Telling lives c error s → IsOrderly s
orderly {lives} {c} {error} s f =
    by_messages (Telling lives c error)
    (λ s f none. quiet_orderly s (subst (λ (l : List Envelope). Holds lives c true l s) none f.still)) goes_on meets s f
