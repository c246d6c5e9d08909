-- Behind a start at a node any two messages meet again.
use Rattle.std.proofs.Common.{◌≡◌, ◌≢◌, ◌&&◌, ℕ, true, false, List, [], slice_get, Option, refl, sym, ap, subst, ◌∙◌}
use Rattle.std.proofs.lemmas.Bool.{false≢true}
use Rattle.rh_model.specs.declared.node.Node.{Node}
use Rattle.rh_model.specs.declared.settings.Dep.{Dep}
use Rattle.rh_otp_model.specs.declared.message.Message.TheVariants as message
use Rattle.rh_otp_model.specs.declared.output.Envelope.{Envelope}
use Rattle.rh_otp_net.specs.Queue.{is_of_pair}
use Rattle.rh_otp_system.specs.declared.calls.Call.{Call}
use Rattle.rh_otp_system.specs.Delivering.{arrived}
use Rattle.rh_otp_system.specs.Moves.{Delivers}
use Rattle.rh_otp_system.specs.State.{SystemView, node_at, is_alive_at}
use Rattle.rh_otp_laws.proofs.Order.{pair_itself}
use Rattle.rh_otp_orders.specs.Confluence.{Meet, IsOrderly}
use Rattle.rh_otp_orders.specs.Orders.{IsAtHome, is_call}
use Rattle.rh_otp_orders.proofs.Taking.{Taken}
use Rattle.rh_otp_crashes.proofs.Crossing.{crosses, meet_back, not_back, same_node}
use Rattle.rh_otp_crashes.proofs.Peace.{MeetHere, without}
use Rattle.rh_otp_crashes.proofs.Starting.{moves_elsewhere}
use Rattle.rh_otp_stops.proofs.Answering.{at_stage, the_one}
use Rattle.rh_otp_stops.proofs.Meeting.{OneCall, Turns, cross_here, not_apart, any_meet}
use Rattle.rh_otp_stops.proofs.Words.{answer_of}
use Rattle.rh_otp_starts.proofs.Alone.{Waits}
use Rattle.rh_otp_starts.proofs.Parting.{message_comes, by_messages}
use Rattle.rh_otp_starts.proofs.Turns.{quiet_orderly}
use Rattle.rh_otp_begins.proofs.Hearing.{hears_any}
use Rattle.rh_otp_begins.proofs.Running.{IsNews, runs, answers, tells, moves, own_news, news, learned, Running, ran, came_on, goes_on}

-- ---- at the node

one_call : {lives : Node → ℕ} {c : Call} {error : Option Dep} (s : SystemView) → Running lives c error s → OneCall lives c s
one_call s f = record {
  same_lives = f.still.same_lives;
  stage = f.still.stage;
  calls = f.still.calls;
  life = f.still.life;
  locks = f.still.locks;
}

turns : {lives : Node → ℕ} {c : Call} {error : Option Dep} (s : SystemView) → Running lives c error s → is_alive_at s c.node ≡ true
    → Turns c.node (message.Run c.app error) s
turns s f alive =
    let r = ran s f alive in
    record { next = r.next; more = r.more; comes = r.comes }

-- ---- at another one

-- its dist_ac hears of it, and its controller learns of it
cross_there : {lives : Node → ℕ} {c : Call} {error : Option Dep} (s : SystemView) → Running lives c error s
    → (m k : Node) (left_e left_f : List Envelope)
    → m.0 ≢ c.node.0 → Taken (news lives c error m) s.messages left_e → Taken (learned lives c k) s.messages left_f
    → is_of_pair (news lives c error m) (learned lives c k) ≡ false → m ≡ k
    → Meet (arrived (news lives c error m).to (news lives c error m).message (without s left_e))
    (arrived (learned lives c k).to (learned lives c k).message (without s left_f))
cross_there {lives} {c} {error} s f m k left_e left_f other taken_e taken_f apart one =
    subst (λ (x : Node). Taken (learned lives c x) s.messages left_f
    → is_of_pair (news lives c error m) (learned lives c x) ≡ false
    → Meet (arrived (news lives c error m).to (news lives c error m).message (without s left_e))
    (arrived (learned lives c x).to (learned lives c x).message (without s left_f))) one
    (λ taken apart. crosses s m (news lives c error m).from (learned lives c m).from (news lives c error m).message
    (learned lives c m).message
    left_e left_f f.still.same_lives
    (λ alive. hears_any (IsNews lives c error) s.cluster s.files m (lives m) c.app c.node error (node_at s m).dist (moves m other)
    (λ d has. f.still.dists m d alive has))
    (moves_elsewhere s.cluster s.files m c.app c.node) taken_e taken apart)
    taken_f apart

meet_here : {lives : Node → ℕ} {c : Call} {error : Option Dep} (s : SystemView) → Running lives c error s
    → MeetHere (IsNews lives c error) s
meet_here {lives} {c} {error} s g _ _ left_e left_f runs runs taken_e taken_f apart one =
    not_apart _ (own_news lives c error) (own_news lives c error) refl apart
meet_here {lives} {c} {error} s g _ _ left_e left_f runs (answers o known) taken_e taken_f apart one =
    cross_here s (own_news lives c error).from (own_news lives c error).message o left_e left_f (one_call s g) known (turns s g) taken_e
    taken_f apart
meet_here s g _ _ left_e left_f runs (tells m other) taken_e taken_f apart one = absurd (other (sym one))
meet_here s g _ _ left_e left_f runs (moves m other) taken_e taken_f apart one = absurd (other (sym one))
meet_here {lives} {c} {error} s g _ _ left_e left_f (answers o known) runs taken_e taken_f apart one =
    meet_back _ _ (cross_here s (own_news lives c error).from (own_news lives c error).message o left_f left_e (one_call s g) known
    (turns s g)
    taken_f taken_e (not_back (answer_of lives c o) (own_news lives c error) apart))
meet_here {lives} {c} {error} s g _ _ left_e left_f (answers o known) (answers p also) taken_e taken_f apart one =
    absurd (false≢true (sym apart ∙ pair_itself (answer_of lives c o)))
meet_here s g _ _ left_e left_f (answers o known) (tells m other) taken_e taken_f apart one = absurd (other (sym one))
meet_here s g _ _ left_e left_f (answers o known) (moves m other) taken_e taken_f apart one = absurd (other (sym one))
meet_here s g _ _ left_e left_f (tells m other) runs taken_e taken_f apart one = absurd (other one)
meet_here s g _ _ left_e left_f (tells m other) (answers o known) taken_e taken_f apart one = absurd (other one)
meet_here {lives} {c} {error} s g _ _ left_e left_f (tells m other) (tells k other') taken_e taken_f apart one =
    not_apart _ (news lives c error m) (news lives c error k) (ap (news lives c error) (same_node m k one)) apart
meet_here {lives} {c} {error} s g _ _ left_e left_f (tells m other) (moves k other') taken_e taken_f apart one =
    cross_there s g m k left_e left_f other taken_e taken_f apart (same_node m k one)
meet_here s g _ _ left_e left_f (moves m other) runs taken_e taken_f apart one = absurd (other one)
meet_here s g _ _ left_e left_f (moves m other) (answers o known) taken_e taken_f apart one = absurd (other one)
meet_here {lives} {c} {error} s g _ _ left_e left_f (moves m other) (tells k other') taken_e taken_f apart one =
    meet_back _ _ (cross_there s g k m left_f left_e other' taken_f taken_e (not_back (learned lives c m) (news lives c error k) apart)
    (same_node k m (sym one)))
meet_here {lives} {c} {error} s g _ _ left_e left_f (moves m other) (moves k other') taken_e taken_f apart one =
    not_apart _ (learned lives c m) (learned lives c k) (ap (learned lives c) (same_node m k one)) apart

-- ---- at two nodes

-- an answer is for a call of its own node
at_home : {lives : Node → ℕ} {c : Call} {error : Option Dep} (s : SystemView) (e : Envelope) → Running lives c error s
    → IsNews lives c error e → IsAtHome e s
at_home s _ f runs place call there is = absurd (false≢true (ap is_call is))
at_home {c = c} s _ f (answers o known) place call there is =
    ap (λ (x : Call). x.node)
    (sym (the_one (at_stage c f.still.stage) call place (sym (ap (λ (l : List Call). slice_get l place) f.still.calls) ∙ there)))
at_home s _ f (tells m other) place call there is = absurd (false≢true (ap is_call is))
at_home s _ f (moves m other) place call there is = absurd (false≢true (ap is_call is))

-- two answers are for one node
not_two_answers : {lives : Node → ℕ} {c : Call} {error : Option Dep} (e f : Envelope) → IsNews lives c error e
    → IsNews lives c error f → e.to.node.0 ≢ f.to.node.0
    → (is_call e.to.role && is_call f.to.role) ≡ false
not_two_answers _ _ runs kind apart = refl
not_two_answers _ _ (answers o known) runs apart = refl
not_two_answers _ _ (answers o known) (answers p also) apart = absurd (apart refl)
not_two_answers _ _ (answers o known) (tells m other) apart = refl
not_two_answers _ _ (answers o known) (moves m other) apart = refl
not_two_answers _ _ (tells m other) kind apart = refl
not_two_answers _ _ (moves m other) kind apart = refl

-- ---- every order

meets : {lives : Node → ℕ} {c : Call} {error : Option Dep} (s t u : SystemView) → Running lives c error s → (s.messages ≡ [] → ⊥)
    → Delivers s t → Delivers s u → Meet t u
meets {lives} {c} {error} s t u f some =
    any_meet s t u f.kinds (λ x one. message_comes s x some one) (λ e left n kind taken. (came_on s e left f taken kind).leaves n)
    (λ e kind. at_home s e f kind) not_two_answers (meet_here s f)

pub orderly : {lives : Node → ℕ} {c : Call} {error : Option Dep} (s : SystemView) → Running lives c error s → IsOrderly s
orderly {lives} {c} {error} s f =
    by_messages (Running lives c error)
    (λ s f none. quiet_orderly s (subst (λ (l : List Envelope). Waits lives c true l s) none f.still)) goes_on meets s f
