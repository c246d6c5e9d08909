-- Behind the end of an application any two messages meet again.
use Rattle.std.proofs.Common.{◌≡◌, ◌≢◌, ◌⊎◌, ◌++◌, ◌&&◌, ℕ, Bool, true, false, List, [], ◌∷◌, slice_get, Option, refl, sym, ap, subst, ◌∙◌, inl, inr}
use Rattle.std.specs.Prelude.{All}
use Rattle.std.proofs.lemmas.Bool.{cases_Bool, cases_eq, false≢true}
use Rattle.rh_model.specs.declared.node.Node.{Node}
use Rattle.rh_otp_model.specs.declared.fault.Outcome.{Outcome}
use Rattle.rh_otp_model.specs.declared.message.Message.{Message}
use Rattle.rh_otp_model.specs.declared.message.Message.TheVariants as message
use Rattle.rh_otp_model.specs.declared.output.Envelope.{Envelope}
use Rattle.rh_otp_model.specs.declared.output.Event.{Event}
use Rattle.rh_otp_model.specs.declared.output.Event.TheVariants as event
use Rattle.rh_otp_model.specs.declared.process.Process.{Process}
use Rattle.rh_otp_dist.specs.State.{DistView}
use Rattle.rh_otp_net.specs.Queue.{is_of_pair}
use Rattle.rh_otp_node.specs.Live.{LiveView}
use Rattle.rh_otp_system.specs.declared.calls.Call.{Call}
use Rattle.rh_otp_system.specs.declared.calls.Stage.{Stage}
use Rattle.rh_otp_system.specs.declared.calls.Stage.TheVariants as stage
use Rattle.rh_otp_system.specs.Calling.{is_known}
use Rattle.rh_otp_system.specs.Delivering.{arrived}
use Rattle.rh_otp_system.specs.Moves.{Delivers, Reaches, here, behind_one}
use Rattle.rh_otp_system.specs.State.{SystemView, node_at, with_node, is_alive_at}
use Rattle.rh_otp_laws.proofs.Nodes.{node_written, alive_written}
use Rattle.rh_otp_laws.proofs.Order.{pair_itself}
use Rattle.rh_otp_orders.specs.Confluence.{Meet, IsOrderly}
use Rattle.rh_otp_orders.specs.Orders.{Arrives, AreAlike, AreIndependent, IsAtHome, LeavesAlone, is_call}
use Rattle.rh_otp_orders.proofs.Commuting.{messages_commute}
use Rattle.rh_otp_orders.proofs.Confluence.{alike_itself}
use Rattle.rh_otp_orders.proofs.Taking.{Taken, taken_arrives, taken_of_more, both_taken}
use Rattle.rh_otp_crashes.proofs.Crossing.{Cross, cross_meet, cross_dead, for_dist, meet_back, not_back, same_node}
use Rattle.rh_otp_crashes.proofs.Peace.{MeetHere, without, arrives_alive, delivers, one_first, taken_all}
use Rattle.rh_otp_stops.proofs.Answering.{NoneOfCalls, at_stage, answered_in, answered_so, the_one}
use Rattle.rh_otp_stops.proofs.Ending.{ComesTo, varied}
use Rattle.rh_otp_stops.proofs.Still.{Come}
use Rattle.rh_otp_stops.proofs.Stopping.{Stopping, come_of, came_on, ended_at, goes_on, there_is}
use Rattle.rh_otp_stops.proofs.Words.{IsNews, ends, answers, tells, own_news, answer_of, news}

-- ---- at the node: its dist_ac, and the call

-- the one call, at this stage, and no call has a lock
pub record OneCall (lives : Node → ℕ) (c : Call) (s : SystemView) : Type 0 where
  pub same_lives : (n : Node) → (node_at s n).life ≡ lives n
  pub stage : Stage
  pub calls : s.calls ≡ at_stage c stage ∷ []
  pub life : c.life ≡ lives c.node
  pub locks : NoneOfCalls s.locks

-- what a message for its node's dist_ac comes to
pub record Turns (n : Node) (x : Message) (s : SystemView) : Type 0 where
  pub next : Option DistView
  pub more : List Envelope
  pub comes : ComesTo n x next more s

cross_alive : {lives : Node → ℕ} {c : Call} (s : SystemView) (from : Process) (x : Message) (o : Outcome)
    (left_e left_f left : List Envelope) → OneCall lives c s → is_known o ≡ false → is_alive_at s c.node ≡ true → Turns c.node x s
    → Taken (answer_of lives c o) left_e left → Taken (for_dist lives c.node from x) left_f left
    → Cross (arrived (for_dist lives c.node from x).to x (without s left_e))
    (arrived (answer_of lives c o).to (answer_of lives c o).message (without s left_f)) (for_dist lives c.node from x) (answer_of lives c o)
cross_alive {lives} {c} s from x o left_e left_f left f known alive end taken_f taken_e =
    let e : Envelope = for_dist lives c.node from x in
    let g : Envelope = answer_of lives c o in
    let new : LiveView = record (node_at s c.node) { dist = end.next } in
    let calls : List Call = at_stage c (stage.Done o) ∷ [] in
    let events : List Event = s.events ++ event.Answered c.number ∷ [] in
    let t : SystemView = record (with_node c.node new s) { messages = left_e ++ end.more } in
    let u : SystemView = varied s left_f calls events in
    let t_left : SystemView = without t (left ++ end.more) in
    let u_left : SystemView = without u left in
    let v : SystemView = arrived g.to g.message t_left in
    let w : SystemView = arrived e.to e.message u_left in
    let is_t : arrived e.to e.message (without s left_e) ≡ t =
    arrives_alive e.to e.message (without s left_e) alive (f.same_lives c.node) ∙ end.comes left_e s.calls s.events in
    let is_u : arrived g.to g.message (without s left_f) ≡ u =
    answered_so c f.stage o (without s left_f) f.calls f.locks known alive (f.same_lives c.node ∙ sym f.life) in
    let same : (node_at t_left c.node).life ≡ c.life =
    ap (λ (y : LiveView). y.life) (node_written s c.node (node_at s c.node) new (there_is s c.node alive))
    ∙ (f.same_lives c.node ∙ sym f.life) in
    let is_v : v ≡ answered_in c o t_left =
    answered_so c f.stage o t_left f.calls f.locks known (alive_written s c.node new alive alive) same in
    let is_w : w ≡ record (with_node c.node new u_left) { messages = left ++ end.more } =
    arrives_alive e.to e.message u_left alive (f.same_lives c.node) ∙ end.comes left calls events in (
      v,
      w,
      subst (λ (y : SystemView). Arrives g y v) (sym is_t)
          (taken_arrives t g (left ++ end.more) (taken_of_more g left_e left end.more taken_f)),
      subst (λ (y : SystemView). Arrives e y w) (sym is_u) (taken_arrives u e left taken_e),
      is_v ∙ sym is_w,
    )

-- whether the node is alive or not
pub cross_here : {lives : Node → ℕ} {c : Call} (s : SystemView) (from : Process) (x : Message) (o : Outcome) (left_e left_f : List Envelope)
    → OneCall lives c s → is_known o ≡ false → (is_alive_at s c.node ≡ true → Turns c.node x s)
    → Taken (for_dist lives c.node from x) s.messages left_e → Taken (answer_of lives c o) s.messages left_f
    → is_of_pair (for_dist lives c.node from x) (answer_of lives c o) ≡ false
    → Meet (arrived (for_dist lives c.node from x).to x (without s left_e))
    (arrived (answer_of lives c o).to (answer_of lives c o).message (without s left_f))
cross_here {lives} {c} s from x o left_e left_f f known turns taken_e taken_f apart = by (cases_Bool (is_alive_at s c.node))
  where
    e : Envelope
    e = for_dist lives c.node from x

    g : Envelope
    g = answer_of lives c o

    both : (left : List Envelope) × Taken g left_e left × Taken e left_f left
    both = both_taken e g s.messages left_e left_f apart taken_e taken_f

    by : (is_alive_at s c.node ≡ true) ⊎ (is_alive_at s c.node ≡ false)
        → Meet (arrived e.to e.message (without s left_e)) (arrived g.to g.message (without s left_f))
    by (inl alive) = cross_meet _ _ e g (cross_alive s from x o left_e left_f both.0 f known alive (turns alive) both.1 both.2)
    by (inr dead) = cross_meet _ _ e g (cross_dead s _ _ e g left_e left_f both.0 refl dead refl refl both.1 both.2)

-- what is of one pair with itself isn't of two
pub not_apart : (P : Type 0) (e f : Envelope) → e ≡ f → is_of_pair e f ≡ false → P
not_apart P e f same apart = absurd (false≢true (sym apart ∙ ap (is_of_pair e) (sym same) ∙ pair_itself e))

-- what the node's dist_ac does where it is told of the end
abbrev pub TurnsAt : Call → Bool → SystemView → Type 0
TurnsAt c told s = told ≡ true → is_alive_at s c.node ≡ true → Turns c.node (message.Stopped c.app) s

pub meet_here : {lives : Node → ℕ} {c : Call} {told : Bool} (s : SystemView) → OneCall lives c s → TurnsAt c told s
    → MeetHere (IsNews lives c told) s
meet_here {lives} {c} {told} s g turns _ _ left_e left_f (ends _) (ends _) taken_e taken_f apart one =
    not_apart _ (own_news lives c) (own_news lives c) refl apart
meet_here {lives} {c} {told} s g turns _ _ left_e left_f (ends is_told) (answers o known) taken_e taken_f apart one =
    cross_here s (own_news lives c).from (own_news lives c).message o left_e left_f g known (turns is_told) taken_e taken_f apart
meet_here s g turns _ _ left_e left_f (ends _) (tells m other) taken_e taken_f apart one = absurd (other (sym one))
meet_here {lives} {c} {told} s g turns _ _ left_e left_f (answers o known) (ends is_told) taken_e taken_f apart one =
    meet_back _ _ (cross_here s (own_news lives c).from (own_news lives c).message o left_f left_e g known (turns is_told)
    taken_f taken_e (not_back (answer_of lives c o) (own_news lives c) apart))
meet_here {lives} {c} {told} s g turns _ _ left_e left_f (answers o known) (answers p also) taken_e taken_f apart one =
    absurd (false≢true (sym apart ∙ pair_itself (answer_of lives c o)))
meet_here s g turns _ _ left_e left_f (answers o known) (tells m other) taken_e taken_f apart one = absurd (other (sym one))
meet_here s g turns _ _ left_e left_f (tells m other) (ends _) taken_e taken_f apart one = absurd (other one)
meet_here s g turns _ _ left_e left_f (tells m other) (answers o known) taken_e taken_f apart one = absurd (other one)
meet_here {lives} {c} {told} s g turns _ _ left_e left_f (tells m other) (tells k other') taken_e taken_f apart one =
    not_apart _ (news lives c m) (news lives c k) (ap (news lives c) (same_node m k one)) apart

-- ---- at two nodes

-- an answer is for a call of its own node
pub at_home : {lives : Node → ℕ} {c : Call} {told : Bool} (s : SystemView) (w : Stage) (e : Envelope) → s.calls ≡ at_stage c w ∷ []
    → IsNews lives c told e → IsAtHome e s
at_home s w _ calls (ends _) place call there is = absurd (false≢true (ap is_call is))
at_home {c = c} s w _ calls (answers o known) place call there is =
    ap (λ (x : Call). x.node)
    (sym (the_one (at_stage c w) call place (sym (ap (λ (l : List Call). slice_get l place) calls) ∙ there)))
at_home s w _ calls (tells m other) place call there is = absurd (false≢true (ap is_call is))

-- two answers are for one node
pub not_two_answers : {lives : Node → ℕ} {c : Call} {told : Bool} (e f : Envelope) → IsNews lives c told e → IsNews lives c told f
    → e.to.node.0 ≢ f.to.node.0
    → (is_call e.to.role && is_call f.to.role) ≡ false
not_two_answers _ _ (ends _) kind apart = refl
not_two_answers _ _ (answers o known) (ends _) apart = refl
not_two_answers _ _ (answers o known) (answers p also) apart = absurd (apart refl)
not_two_answers _ _ (answers o known) (tells m other) apart = refl
not_two_answers _ _ (tells m other) kind apart = refl

-- ---- any two meet

-- where only messages move, and each leaves alone what nodes share
pub any_meet : {K : Envelope → Type 0} (s t u : SystemView) → All K s.messages → ((x : SystemView) → Delivers s x → Come s x)
    → ((e : Envelope) (left : List Envelope) (n : Node) → K e → Taken e s.messages left
    → LeavesAlone n s (arrived e.to e.message (without s left)))
    → ((e : Envelope) → K e → IsAtHome e s)
    → ((e f : Envelope) → K e → K f → e.to.node.0 ≢ f.to.node.0 → (is_call e.to.role && is_call f.to.role) ≡ false)
    → MeetHere K s → Delivers s t → Delivers s u → Meet t u
any_meet {K} s t u kinds comes leaves home two at_one to_t to_u = by (cases_Bool (is_of_pair d.message e.message))
  where
    d : Come s t
    d = comes t to_t

    e : Come s u
    e = comes u to_u

    kind_d : K d.message
    kind_d = (taken_all K d.message s.messages d.left d.taken kinds).0

    kind_e : K e.message
    kind_e = (taken_all K e.message s.messages e.left e.taken kinds).0

    same : (d.message ≡ e.message) × (d.left ≡ e.left) → t ≡ u
    same is = d.is ∙ (λ i. arrived (is.0 i).to (is.0 i).message (without s (is.1 i))) ∙ sym e.is

    apart_meet : d.message.to.node.0 ≢ e.message.to.node.0 → Meet t u
    apart_meet apart =
        let independent : AreIndependent s t u d.message e.message = record {
          one = d.arrives;
          other = e.arrives;
          two_nodes = apart;
          leaves_other = subst (LeavesAlone e.message.to.node s) (sym d.is) (leaves d.message d.left e.message.to.node kind_d d.taken);
          leaves_one = subst (LeavesAlone d.message.to.node s) (sym e.is) (leaves e.message e.left d.message.to.node kind_e e.taken);
          one_home = home d.message kind_d;
          other_home = home e.message kind_e;
          one_call = two d.message e.message kind_d kind_e apart;
        } in
        let both = messages_commute s t u d.message e.message independent in
        inr (both.0, both.1, delivers e.message t both.0 both.2, delivers d.message u both.1 both.3, both.4)

    by : (is_of_pair d.message e.message ≡ true) ⊎ (is_of_pair d.message e.message ≡ false) → Meet t u
    by (inl pair) =
        inl (subst (AreAlike t) (same (one_first d.message e.message s.messages d.left e.left pair d.taken e.taken)) (alike_itself t))
    by (inr apart) =
        elim (cases_eq d.message.to.node.0 e.message.to.node.0) [
          | inl one ↦ subst (λ (x : SystemView). Meet x u) (sym d.is)
              (subst (λ (x : SystemView). Meet (arrived d.message.to d.message.message (without s d.left)) x) (sym e.is)
              (at_one d.message e.message d.left e.left kind_d kind_e d.taken e.taken apart one))
          | inr other ↦ apart_meet other
        ]

one_call : {lives : Node → ℕ} {c : Call} {told : Bool} (s : SystemView) → Stopping lives c told s → OneCall lives c s
one_call s f = record { same_lives = f.peace.same_lives; stage = f.stage; calls = f.calls; life = f.life; locks = f.locks }

turns : {lives : Node → ℕ} {c : Call} {told : Bool} (s : SystemView) → Stopping lives c told s → TurnsAt c told s
turns s f is_told alive =
    let end = ended_at s f is_told alive in
    record { next = end.next; more = end.more; comes = end.comes }

meets : {lives : Node → ℕ} {c : Call} {told : Bool} (s t u : SystemView) → Stopping lives c told s → Delivers s t → Delivers s u → Meet t u
meets {lives} {c} {told} s t u f =
    any_meet s t u f.peace.messages (λ x one. come_of s x f one) (λ e left n kind taken. (came_on s e left f taken kind).leaves n)
    (λ e kind. at_home s f.stage e f.calls kind) not_two_answers (meet_here s (one_call s f) (turns s f))

-- ---- every order

all_on : {lives : Node → ℕ} {c : Call} {told : Bool} (s p : SystemView) → Reaches s p → Stopping lives c told s → Stopping lives c told p
all_on _ _ (here s) f = f
all_on _ _ (behind_one s q p one rest) f = all_on q p rest (goes_on s q f one)

pub orderly : {lives : Node → ℕ} {c : Call} {told : Bool} (s : SystemView) → Stopping lives c told s → IsOrderly s
orderly s start p t u reaches to_t to_u = meets p t u (all_on s p reaches start) to_t to_u
