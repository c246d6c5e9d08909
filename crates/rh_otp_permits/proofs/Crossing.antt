-- Behind a permission any two messages meet again: the answer frees a lock, which no dist_ac reads that only notes the permission.
use Rattle.std.proofs.Common.{◌≡◌, ◌≢◌, ◌⊎◌, ◌++◌, ◌&&◌, ℕ, Bool, true, false, List, slice_get, Some, refl, sym, ap, subst, ◌∙◌, inl, inr}
use Rattle.std.proofs.lemmas.Bool.{cases_Bool, cases_eq, false≢true}
use Rattle.rh_model.specs.declared.node.Node.{Node}
use Rattle.rh_otp_model.specs.declared.fault.Outcome.{Outcome}
use Rattle.rh_otp_model.specs.declared.message.Message.TheVariants as message
use Rattle.rh_otp_model.specs.declared.output.Envelope.{Envelope}
use Rattle.rh_otp_model.specs.declared.process.Process.{Process}
use Rattle.rh_otp_model.specs.declared.process.Role.TheVariants as role
use Rattle.rh_otp_model.specs.Processes.{process_at}
use Rattle.rh_otp_net.specs.Queue.{is_of_pair}
use Rattle.rh_otp_node.specs.Live.{LiveView, is_alive}
use Rattle.rh_otp_system.specs.declared.calls.Call.{Call}
use Rattle.rh_otp_system.specs.Calling.{is_known}
use Rattle.rh_otp_system.specs.Delivering.{arrived}
use Rattle.rh_otp_system.specs.Moves.{Delivers, Reaches, here, behind_one}
use Rattle.rh_otp_system.specs.State.{SystemView, live_at, node_at, with_node, is_alive_at}
use Rattle.rh_otp_laws.proofs.Nodes.{others_same}
use Rattle.rh_otp_laws.proofs.Order.{pair_itself}
use Rattle.rh_otp_orders.specs.Confluence.{Meet, IsOrderly}
use Rattle.rh_otp_orders.specs.Orders.{Arrives, AreAlike, AreIndependent, IsAtHome, is_call}
use Rattle.rh_otp_orders.proofs.Commuting.{messages_commute}
use Rattle.rh_otp_orders.proofs.Confluence.{alike_itself}
use Rattle.rh_otp_orders.proofs.Taking.{Taken, taken_arrives, taken_of_more, both_taken}
use Rattle.rh_otp_crashes.proofs.Carrying.{letters, done}
use Rattle.rh_otp_crashes.proofs.Crossing.{Cross, cross_meet, meet_back, not_back, same_node}
use Rattle.rh_otp_crashes.proofs.Peace.{here_in, without, arrives_alive, arrives_dead, turned_so, delivers, one_first, taken_all}
use Rattle.rh_otp_stops.proofs.Answering.{at_stage, answered_free, the_one}
use Rattle.rh_otp_stops.proofs.Meeting.{not_apart}
use Rattle.rh_otp_stops.proofs.Still.{Come}
use Rattle.rh_otp_stops.proofs.Stopping.{there_is}
use Rattle.rh_otp_permits.proofs.Noting.{IsNote, answers, tells, answer_of, note, Noting, CameOn, answered_then, come_of, goes_on, hears, told_on, lost_on}

-- ---- the answer, and what another node is told

cross_alive : {lives : Node → ℕ} {c : Call} {allow his : Bool} (s : SystemView) (o : Outcome) (m : Node)
    (left_e left_f left : List Envelope)
    → Noting lives c allow his s → m.0 ≢ c.node.0 → is_known o ≡ false → is_alive_at s c.node ≡ true → is_alive_at s m ≡ true
    → Taken (note lives c allow his m) left_e left → Taken (answer_of lives c o) left_f left
    → Cross (arrived (answer_of lives c o).to (answer_of lives c o).message (without s left_e))
    (arrived (note lives c allow his m).to (note lives c allow his m).message (without s left_f)) (answer_of lives c o)
    (note lives c allow his m)
cross_alive {lives} {c} {allow} {his} s o m left_e left_f left f other known alive alive_too taken_f taken_e =
    let e : Envelope = answer_of lives c o in
    let g : Envelope = note lives c allow his m in
    let to : Process = process_at (here_in lives m) role.DistAc in
    let old : LiveView = node_at s m in
    let there : live_at s m ≡ Some old = there_is s m alive_too in
    let d = hears m s f alive_too in
    let new : LiveView = record old { dist = d.next } in
    let life : (node_at s c.node).life ≡ c.life = f.peace.same_lives c.node ∙ sym f.life in
    let t : SystemView = answered_then c o (without s left_e) in
    let u : SystemView = done to d.outs (with_node m new (without s left_f)) in
    let t_left : SystemView = without t left in
    let u_left : SystemView = without u (left ++ letters d.outs) in
    let v : SystemView = arrived g.to g.message t_left in
    let w : SystemView = arrived e.to e.message u_left in
    let still : node_at (with_node m new s) c.node ≡ node_at s c.node = others_same s m c.node new (λ one. other (sym one)) in
    let is_t : arrived e.to e.message (without s left_e) ≡ t =
    answered_free c f.stage o (without s left_e) f.calls known alive life in
    let is_u : arrived g.to g.message (without s left_f) ≡ u =
    arrives_alive g.to g.message (without s left_f) alive_too (f.peace.same_lives m)
    ∙ turned_so m g.message s (without s left_f) old old.dist d there refl (f.peace.same_lives m) refl refl in
    let is_v : v ≡ done to d.outs (with_node m new t_left) =
    arrives_alive g.to g.message t_left alive_too (f.peace.same_lives m)
    ∙ turned_so m g.message s t_left old old.dist d there refl (f.peace.same_lives m) refl refl in
    let is_w : w ≡ answered_then c o u_left =
    answered_free c f.stage o u_left f.calls known (ap is_alive still ∙ alive) (ap (λ (x : LiveView). x.life) still ∙ life) in (
      v,
      w,
      subst (λ (x : SystemView). Arrives g x v) (sym is_t) (taken_arrives t g left taken_f),
      subst (λ (x : SystemView). Arrives e x w) (sym is_u)
          (taken_arrives u e (left ++ letters d.outs) (taken_of_more e left_f left (letters d.outs) taken_e)),
      is_v ∙ sym is_w,
    )

cross_dead : {lives : Node → ℕ} {c : Call} {allow his : Bool} (s : SystemView) (o : Outcome) (m : Node) (left_e left_f left : List Envelope)
    → Noting lives c allow his s → is_known o ≡ false → is_alive_at s c.node ≡ true → is_alive_at s m ≡ false
    → Taken (note lives c allow his m) left_e left → Taken (answer_of lives c o) left_f left
    → Cross (arrived (answer_of lives c o).to (answer_of lives c o).message (without s left_e))
    (arrived (note lives c allow his m).to (note lives c allow his m).message (without s left_f)) (answer_of lives c o)
    (note lives c allow his m)
cross_dead {lives} {c} {allow} {his} s o m left_e left_f left f known alive dead taken_f taken_e =
    let e : Envelope = answer_of lives c o in
    let g : Envelope = note lives c allow his m in
    let life : (node_at s c.node).life ≡ c.life = f.peace.same_lives c.node ∙ sym f.life in
    let t : SystemView = answered_then c o (without s left_e) in
    let t_left : SystemView = without t left in
    let v : SystemView = arrived g.to g.message t_left in
    let w : SystemView = arrived e.to e.message (without s left) in (
      v,
      w,
      subst (λ (x : SystemView). Arrives g x v) (sym (answered_free c f.stage o (without s left_e) f.calls known alive life))
          (taken_arrives t g left taken_f),
      subst (λ (x : SystemView). Arrives e x w) (sym (arrives_dead g.to g.message (without s left_f) dead))
          (taken_arrives (without s left_f) e left taken_e),
      arrives_dead g.to g.message t_left dead ∙ sym (answered_free c f.stage o (without s left) f.calls known alive life),
    )

-- ---- at two nodes, where no lock is freed

-- an answer is for a call of its own node
at_home : {lives : Node → ℕ} {c : Call} {allow his : Bool} (s : SystemView) (e : Envelope) → Noting lives c allow his s
    → IsNote lives c allow his e → IsAtHome e s
at_home {c = c} s _ f (answers o known) place call there is =
    ap (λ (x : Call). x.node)
    (sym (the_one (at_stage c f.stage) call place (sym (ap (λ (l : List Call). slice_get l place) f.calls) ∙ there)))
at_home s _ f (tells m other) place call there is = absurd (false≢true (ap is_call is))

apart_meet : {lives : Node → ℕ} {c : Call} {allow his : Bool} (s : SystemView) (e f : Envelope) (left_e left_f : List Envelope)
    → Noting lives c allow his s → IsNote lives c allow his e → IsNote lives c allow his f
    → Arrives e s (arrived e.to e.message (without s left_e)) → Arrives f s (arrived f.to f.message (without s left_f))
    → CameOn lives c allow his s (arrived e.to e.message (without s left_e))
    → CameOn lives c allow his s (arrived f.to f.message (without s left_f))
    → (is_call e.to.role && is_call f.to.role) ≡ false → e.to.node.0 ≢ f.to.node.0
    → Meet (arrived e.to e.message (without s left_e)) (arrived f.to f.message (without s left_f))
apart_meet s e f left_e left_f g kind_e kind_f to_e to_f came_e came_f two apart =
    let t : SystemView = arrived e.to e.message (without s left_e) in
    let u : SystemView = arrived f.to f.message (without s left_f) in
    let independent : AreIndependent s t u e f = record {
      one = to_e;
      other = to_f;
      two_nodes = apart;
      leaves_other = came_e.leaves f.to.node;
      leaves_one = came_f.leaves e.to.node;
      one_home = at_home s e g kind_e;
      other_home = at_home s f g kind_f;
      one_call = two;
    } in
    let both = messages_commute s t u e f independent in
    inr (both.0, both.1, delivers f t both.0 both.2, delivers e u both.1 both.3, both.4)

answer_meets : {lives : Node → ℕ} {c : Call} {allow his : Bool} (s : SystemView) (o : Outcome) (m : Node) (left_e left_f : List Envelope)
    → Noting lives c allow his s → is_known o ≡ false → m.0 ≢ c.node.0
    → Taken (answer_of lives c o) s.messages left_e → Taken (note lives c allow his m) s.messages left_f
    → is_of_pair (answer_of lives c o) (note lives c allow his m) ≡ false
    → Meet (arrived (answer_of lives c o).to (answer_of lives c o).message (without s left_e))
    (arrived (note lives c allow his m).to (note lives c allow his m).message (without s left_f))
answer_meets {lives} {c} {allow} {his} s o m left_e left_f f known other taken_e taken_f apart =
    by (cases_Bool (is_alive_at s c.node)) (cases_Bool (is_alive_at s m))
  where
    e : Envelope
    e = answer_of lives c o

    g : Envelope
    g = note lives c allow his m

    both : (left : List Envelope) × Taken g left_e left × Taken e left_f left
    both = both_taken e g s.messages left_e left_f apart taken_e taken_f

    by : (is_alive_at s c.node ≡ true) ⊎ (is_alive_at s c.node ≡ false) → (is_alive_at s m ≡ true) ⊎ (is_alive_at s m ≡ false)
        → Meet (arrived e.to e.message (without s left_e)) (arrived g.to g.message (without s left_f))
    by (inl alive) (inl alive_too) = cross_meet _ _ e g (cross_alive s o m left_e left_f both.0 f other known alive alive_too both.1 both.2)
    by (inl alive) (inr dead) = cross_meet _ _ e g (cross_dead s o m left_e left_f both.0 f known alive dead both.1 both.2)
    by (inr dead) at =
        apart_meet s e g left_e left_f f (answers o known) (tells m other) (taken_arrives s e left_e taken_e)
        (taken_arrives s g left_f taken_f)
        (lost_on o s left_e f taken_e dead) (told_on m s left_f f taken_f) refl (λ one. other (sym one))

-- ---- any two meet

both_meet : {lives : Node → ℕ} {c : Call} {allow his : Bool} (s : SystemView) (e f : Envelope) (left_e left_f : List Envelope)
    → Noting lives c allow his s → IsNote lives c allow his e → IsNote lives c allow his f → Taken e s.messages left_e
    → Taken f s.messages left_f → is_of_pair e f ≡ false
    → Meet (arrived e.to e.message (without s left_e)) (arrived f.to f.message (without s left_f))
both_meet {lives} {c} s _ _ left_e left_f g (answers o known) (answers p also) taken_e taken_f apart =
    absurd (false≢true (sym apart ∙ pair_itself (answer_of lives c o)))
both_meet s _ _ left_e left_f g (answers o known) (tells m other) taken_e taken_f apart =
    answer_meets s o m left_e left_f g known other taken_e taken_f apart
both_meet {lives} {c} {allow} {his} s _ _ left_e left_f g (tells m other) (answers o known) taken_e taken_f apart =
    meet_back _ _ (answer_meets s o m left_f left_e g known other taken_f taken_e
    (not_back (note lives c allow his m) (answer_of lives c o) apart))
both_meet {lives} {c} {allow} {his} s _ _ left_e left_f g (tells m other) (tells k other') taken_e taken_f apart =
    by (cases_eq m.0 k.0)
  where
    e : Envelope
    e = note lives c allow his m

    f : Envelope
    f = note lives c allow his k

    by : (m.0 ≡ k.0) ⊎ (m.0 ≢ k.0) → Meet (arrived e.to e.message (without s left_e)) (arrived f.to f.message (without s left_f))
    by (inl one) = not_apart _ e f (ap (note lives c allow his) (same_node m k one)) apart
    by (inr two) =
        apart_meet s e f left_e left_f g (tells m other) (tells k other') (taken_arrives s e left_e taken_e)
        (taken_arrives s f left_f taken_f)
        (told_on m s left_e g taken_e) (told_on k s left_f g taken_f) refl two

meets : {lives : Node → ℕ} {c : Call} {allow his : Bool} (s t u : SystemView) → Noting lives c allow his s → Delivers s t → Delivers s u
    → Meet t u
meets {lives} {c} {allow} {his} s t u f to_t to_u = by (cases_Bool (is_of_pair d.message e.message))
  where
    d : Come s t
    d = come_of s t f to_t

    e : Come s u
    e = come_of s u f to_u

    kind_d : IsNote lives c allow his d.message
    kind_d = (taken_all (IsNote lives c allow his) d.message s.messages d.left d.taken f.peace.messages).0

    kind_e : IsNote lives c allow his e.message
    kind_e = (taken_all (IsNote lives c allow his) e.message s.messages e.left e.taken f.peace.messages).0

    same : (d.message ≡ e.message) × (d.left ≡ e.left) → t ≡ u
    same is = d.is ∙ (λ i. arrived (is.0 i).to (is.0 i).message (without s (is.1 i))) ∙ sym e.is

    by : (is_of_pair d.message e.message ≡ true) ⊎ (is_of_pair d.message e.message ≡ false) → Meet t u
    by (inl pair) =
        inl (subst (AreAlike t) (same (one_first d.message e.message s.messages d.left e.left pair d.taken e.taken)) (alike_itself t))
    by (inr apart) =
        subst (λ (x : SystemView). Meet x u) (sym d.is)
        (subst (λ (x : SystemView). Meet (arrived d.message.to d.message.message (without s d.left)) x) (sym e.is)
        (both_meet s d.message e.message d.left e.left f kind_d kind_e d.taken e.taken apart))

-- ---- every order

all_on : {lives : Node → ℕ} {c : Call} {allow his : Bool} (s p : SystemView) → Reaches s p → Noting lives c allow his s
    → Noting lives c allow his p
all_on _ _ (here s) f = f
all_on _ _ (behind_one s q p one rest) f = all_on q p rest (goes_on s q f one)

pub orderly : {lives : Node → ℕ} {c : Call} {allow his : Bool} (s : SystemView) → Noting lives c allow his s → IsOrderly s
orderly s start p t u reaches to_t to_u = meets p t u (all_on s p reaches start) to_t to_u
