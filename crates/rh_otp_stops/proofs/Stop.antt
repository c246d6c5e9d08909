-- A call that ends an application, where nodes were at rest, leaves such messages behind its controller's turn.
use Rattle.std.proofs.Common.{◌≡◌, ◌⊎◌, ◌++◌, ◌||◌, ◌==◌, ℕ, Bool, true, false, cond, length, List, [], ◌∷◌, Some, refl, sym, ap, subst, ◌∙◌, inl, inr}
use Rattle.std.specs.Prelude.{All}
use Rattle.std.proofs.lemmas.Bool.{cases_Bool, false≢true}
use Rattle.std.proofs.lemmas.List.{append-nil}
use Rattle.std.proofs.lemmas.List.Elements.{All-nil, All-cons}
use Rattle.rh_model.specs.declared.node.App.{App}
use Rattle.rh_model.specs.declared.node.Node.{Node}
use Rattle.rh_otp_model.specs.declared.output.Envelope.{Envelope}
use Rattle.rh_otp_model.specs.declared.process.Here.{Here}
use Rattle.rh_otp_model.specs.declared.process.Role.TheVariants as role
use Rattle.rh_otp_controller.specs.Changes.{received}
use Rattle.rh_otp_controller.specs.State.{TurnView}
use Rattle.rh_otp_dist.specs.State.{DistView, is_among}
use Rattle.rh_otp_net.specs.Links.{are_linked}
use Rattle.rh_otp_node.specs.Live.{LiveView}
use Rattle.rh_otp_node.specs.Turns.{controller_turn, controlled_by}
use Rattle.rh_otp_system.specs.declared.calls.Ask.{Ask}
use Rattle.rh_otp_system.specs.declared.calls.Ask.TheVariants as ask
use Rattle.rh_otp_system.specs.declared.calls.Call.{Call}
use Rattle.rh_otp_system.specs.declared.calls.Stage.TheVariants as stage
use Rattle.rh_otp_system.specs.Calling.{go_on_call}
use Rattle.rh_otp_system.specs.Calls.{process_of, message_of, is_takeover}
use Rattle.rh_otp_system.specs.Delivering.{arrived}
use Rattle.rh_otp_system.specs.Doing.{called, call_of, with_call}
use Rattle.rh_otp_system.specs.Moves.{Delivers, Reaches, here, behind_one}
use Rattle.rh_otp_system.specs.Sending.{sent}
use Rattle.rh_otp_system.specs.State.{SystemView, node_at, with_node, is_alive_at}
use Rattle.rh_otp_laws.specs.Acting.{IsReached, later, acts, calls}
use Rattle.rh_otp_laws.proofs.Hanging.{settled_stays_so}
use Rattle.rh_otp_laws.proofs.Nodes.{node_written}
use Rattle.rh_otp_orders.specs.Confluence.{Meet, IsOrderly}
use Rattle.rh_otp_orders.specs.Orders.{AreAlike}
use Rattle.rh_otp_orders.proofs.Confluence.{alike_itself, orderly_alike, picks_alike}
use Rattle.rh_otp_orders.proofs.Moving.{reached_order}
use Rattle.rh_otp_orders.proofs.Taking.{Taken}
use Rattle.rh_otp_crashes.specs.Crashes.{AreAtRest}
use Rattle.rh_otp_crashes.proofs.Carrying.{letters}
use Rattle.rh_otp_crashes.proofs.Crash.{none_ends, lives_of}
use Rattle.rh_otp_crashes.proofs.Peace.{AtPeace, AtEase, Acted, at_ease, without, arrives_alive, arrives_dead, peace_forgets}
use Rattle.rh_otp_crashes.proofs.Turning.{own_in}
use Rattle.rh_otp_locks.proofs.Locks.{none_of_calls}
use Rattle.rh_otp_stops.specs.Stops.{CanEnd, EndsAlike, StopsEndAlike, ExitsEndAlike, ForbidsEndAlike}
use Rattle.rh_otp_stops.proofs.Answering.{at_stage, NoneOfCalls, cannot_call}
use Rattle.rh_otp_stops.proofs.Ending.{Knows}
use Rattle.rh_otp_stops.proofs.Meeting.{orderly}
use Rattle.rh_otp_stops.proofs.Saying.{IsWord, Says, is_told, says_stop, says_exit, says_forbid, sights, carries_words, words_sent}
use Rattle.rh_otp_stops.proofs.Still.{Come, uncalled, only_come}
use Rattle.rh_otp_stops.proofs.Stopping.{Stopping, stopping_on, there_is}
use Rattle.rh_otp_stops.proofs.Words.{IsNews, ends, answers}

-- what a call asks its node's controller
abbrev pub its_call : Call → Envelope
its_call c = record { from = process_of c; to = record (process_of c) { role = role.Controller }; message = message_of c }

abbrev pub turn_at : SystemView → Node → TurnView
turn_at s n = controller_turn s.cluster (own_in s.files n) n (node_at s n)

-- The call is all that is on its way. What its controller says is what one says where an application ends.
record Asked (lives : Node → ℕ) (c : Call) (told : Bool) (s : SystemView) : Type 0 where
  peace : AtPeace AtEase (λ (e : Envelope). e ≡ its_call c) lives (uncalled s)
  messages : s.messages ≡ its_call c ∷ []
  calls : s.calls ≡ c ∷ []
  staged : c.stage ≡ stage.Controller
  life : c.life ≡ lives c.node
  locks : NoneOfCalls s.locks
  knows : told ≡ true → (d : DistView) → (node_at s c.node).dist ≡ Some d → Knows (node_at s c.node).dist d
  sees : told ≡ true → (d : DistView) → (node_at s c.node).dist ≡ Some d → (m : Node) → is_among m d.known ≡ true → is_alive_at s m ≡ true
      → (c.node.0 == m.0 || are_linked c.node m s.links) ≡ true
  says : Says c (turn_at s c.node) (received (message_of c) (turn_at s c.node))
  tells : is_told c (turn_at s c.node) ≡ told

-- ---- its controller's turn

one_call : {lives : Node → ℕ} {c : Call} {told : Bool} (s : SystemView) → Asked lives c told s → s.calls ≡ at_stage c stage.Controller ∷ []
one_call {c = c} s f = f.calls ∙ (λ i. record c { stage = f.staged i } ∷ [])

-- behind the call, before its controller has done anything
quiet : {lives : Node → ℕ} {c : Call} {told : Bool} (s : SystemView) → Asked lives c told s → Stopping lives c told (without s [])
quiet {lives} {c} {told} s f = record {
  peace = record {
    messages = All-nil (IsNews lives c told);
    slow = f.peace.slow;
    calls = refl;
    calm = f.peace.calm;
    dists = f.peace.dists;
    ends = f.peace.ends;
    listed = f.peace.listed;
    same_lives = f.peace.same_lives;
  };
  stage = stage.Controller;
  calls = one_call s f;
  waits = λ call q. refl;
  life = f.life;
  locks = f.locks;
  knows = f.knows;
  sees = f.sees;
}

-- what comes of the call
abbrev answered : Call → SystemView → SystemView
answered c s = arrived (its_call c).to (its_call c).message (without s [])

speaks : {lives : Node → ℕ} {c : Call} {told : Bool} (s : SystemView) → Asked lives c told s → is_alive_at s c.node ≡ true
    → Acted AtEase (IsNews lives c told) c.node (without s []) (answered c s)
unfolding controlled_by
speaks {lives} {c} {told} s f alive =
    let n : Node = c.node in
    let old : LiveView = node_at s n in
    let u : TurnView = received (message_of c) (turn_at s n) in
    let h : Here = record { node = n; life = old.life } in
    let words : All (IsWord h c told) u.out =
    subst (λ (b : Bool). All (IsWord h c b) u.out) f.tells
    (subst (λ (x : Here). All (IsWord x c (is_told c (turn_at s n))) u.out) f.says.here f.says.words) in
    let new : LiveView = record old { controller = u.state } in
    record {
      old = old;
      new = new;
      there = there_is s n alive;
      more = letters u.out;
      set = [];
      seen = sights u.out;
      is = arrives_alive (its_call c).to (its_call c).message (without s []) alive (f.peace.same_lives n ∙ sym f.life)
          ∙ carries_words h c told u.out (with_node n new (without s [])) words
          ∙ (λ i. record (with_node n new s) {
            messages = letters u.out;
            timers = sym (append-nil s.timers) i;
            events = s.events ++ sights u.out;
          });
      life = refl;
      phase = refl;
      stopped = refl;
      ending = f.says.ending;
      rest = λ d has. f.peace.dists n d alive has;
      kinds = subst (λ (life : ℕ). All (IsWord (record { node = n; life = life }) c told) u.out → All (IsNews lives c told) (letters u.out))
          (sym (f.peace.same_lives n))
          (λ said. words_sent (IsNews lives c told) (record { node = n; life = lives n }) c told u.out ends answers said) words;
    }

behind : {lives : Node → ℕ} {c : Call} {told : Bool} (s : SystemView) → Asked lives c told s → Stopping lives c told (answered c s)
unfolding speaks
behind {lives} {c} {told} s f = by (cases_Bool (is_alive_at s c.node))
  where
    old : LiveView
    old = node_at s c.node

    new : LiveView
    new = record old { controller = (received (message_of c) (turn_at s c.node)).state }

    by : (is_alive_at s c.node ≡ true) ⊎ (is_alive_at s c.node ≡ false) → Stopping lives c told (answered c s)
    by (inl alive) =
        let is : node_at (with_node c.node new (without s [])) c.node ≡ new =
        node_written (without s []) c.node old new (there_is s c.node alive) in
        stopping_on c.node (without s []) (answered c s) (quiet s f) (speaks s f alive)
        (λ so d has. f.knows so d (sym (ap (λ (v : LiveView). v.dist) is) ∙ has))
    by (inr dead) = subst (Stopping lives c told) (sym (arrives_dead (its_call c).to (its_call c).message (without s []) dead)) (quiet s f)

-- ---- nothing else can come first

pub only_first : (e f : Envelope) (left : List Envelope) → Taken f (e ∷ []) left → (e ≡ f) × (left ≡ [])
only_first e f left (inl first) = (first.0, first.1)
only_first e f left (inr behind) = absurd behind.3

comes_first : {lives : Node → ℕ} {c : Call} {told : Bool} (s t : SystemView) → Asked lives c told s → Delivers s t → t ≡ answered c s
comes_first {c = c} s t f one =
    let come : Come s t = only_come s t f.peace (cannot_call c stage.Controller s (λ call q. refl) (one_call s f)) one in
    let so : (its_call c ≡ come.message) × (come.left ≡ []) =
    only_first (its_call c) come.message come.left (subst (λ (l : List Envelope). Taken come.message l come.left) f.messages come.taken) in
    come.is ∙ (λ i. arrived (sym so.0 i).to (sym so.0 i).message (without s (so.1 i)))

pub from_first : (s p : SystemView) → Reaches s p → (first : SystemView) → ((q : SystemView) → Delivers s q → q ≡ first) → IsOrderly first
    → (t u : SystemView) → Delivers p t → Delivers p u → Meet t u
from_first _ _ (here s) first only order t u to_t to_u = inl (subst (AreAlike t) (only t to_t ∙ sym (only u to_u)) (alike_itself t))
from_first _ _ (behind_one s q p one rest) first only order t u to_t to_u =
    order p t u (subst (λ (x : SystemView). Reaches x p) (only q one) rest) to_t to_u

asked_orderly : {lives : Node → ℕ} {c : Call} {told : Bool} (s : SystemView) → Asked lives c told s → IsOrderly s
asked_orderly {c = c} s f p t u reaches to_t to_u =
    from_first s p reaches (answered c s) (λ q one. comes_first s q f one) (orderly (answered c s) (behind s f)) t u to_t to_u

forgets : {lives : Node → ℕ} {c : Call} {told : Bool} (s : SystemView) → Asked lives c told s
    → Asked lives c told (record s { answers = [] })
forgets s f = record {
  peace = peace_forgets (uncalled s) f.peace;
  messages = f.messages;
  calls = f.calls;
  staged = f.staged;
  life = f.life;
  locks = f.locks;
  knows = f.knows;
  sees = f.sees;
  says = f.says;
  tells = f.tells;
}

-- ---- the call is made

abbrev pub asked : Call → SystemView → SystemView
asked c s = record s { calls = c ∷ []; last_call = c.number; messages = its_call c ∷ [] }

is_asked : (c : Call) (s : SystemView) → IsReached s → AreAtRest s → CanEnd c.node c.app s → c.stage ≡ stage.Controller
    → c.life ≡ (node_at s c.node).life → Says c (turn_at s c.node) (received (message_of c) (turn_at s c.node))
    → Asked (lives_of s) c (is_told c (turn_at s c.node)) (asked c s)
is_asked c s reached rest can staged life says = record {
  peace = record {
    messages = All-cons (λ (e : Envelope). e ≡ its_call c) (its_call c) [] refl (All-nil (λ (e : Envelope). e ≡ its_call c));
    slow = (settled_stays_so s s rest.settled (here s)).0.1;
    calls = refl;
    calm = at_ease;
    dists = rest.dists;
    ends = λ m alive. none_ends s m reached rest.settled alive;
    listed = reached_order s reached;
    same_lives = λ m. refl;
  };
  messages = refl;
  calls = refl;
  staged = staged;
  life = life;
  locks = none_of_calls s reached rest;
  knows = λ is d has. record {
    takeovers = (can.tells is).sees_all.takeovers d has;
    ends = (can.tells is).ends d has;
    before = d;
    had = has;
    known = refl;
  };
  sees = λ is. (can.tells is).sees_all.sees;
  says = says;
  tells = refl;
}

ends_alike : {lives : Node → ℕ} {c : Call} {told : Bool} (s : SystemView) → IsReached s → Asked lives c told s → EndsAlike s
ends_alike s reached f = (
  orderly_alike s reached (asked_orderly s f),
  λ most one other quiet quiet_too.
      picks_alike s most one other reached (asked_orderly (record s { answers = [] }) (forgets s f)) quiet quiet_too,
)

pub call_asks : (k : Ask) (s : SystemView) (n : Node) (a : App) → is_takeover k ≡ false → AreAtRest s
    → called k n a s ≡ asked (call_of k n a s) s
unfolding called
call_asks k s n a first rest =
    let none : s.messages ≡ [] = (settled_stays_so s s rest.settled (here s)).0.0 in
    let c : Call = call_of k n a s in
    ap (λ (b : Bool). cond b (go_on_call (length s.calls) (with_call c s))
    (sent (process_of c) (its_call c).to (message_of c) (with_call c s))) first
    ∙ (λ i. record s { calls = rest.calls i ++ c ∷ []; last_call = c.number; messages = none i ++ its_call c ∷ [] })

-- a call that asks the controller first, and at which this says no more than that
ask_alike : (k : Ask) (s : SystemView) (n : Node) (a : App) → is_takeover k ≡ false → IsReached s → AreAtRest s → CanEnd n a s
    → Says (call_of k n a s) (turn_at s n) (received (message_of (call_of k n a s)) (turn_at s n)) → EndsAlike (called k n a s)
ask_alike k s n a first reached rest can says =
    let c : Call = call_of k n a s in
    let t : SystemView = called k n a s in
    let told : Bool = is_told c (turn_at s n) in
    let staged : c.stage ≡ stage.Controller = ap (λ (b : Bool). cond b stage.Synchronised stage.Controller) first in
    ends_alike t (later s t reached (acts s t (calls s k n a)))
    (subst (Asked (lives_of s) c told) (sym (call_asks k s n a first rest)) (is_asked c s reached rest can staged refl says))

pub stops_alike : StopsEndAlike
stops_alike s n a reached rest can =
    ask_alike ask.Stop s n a refl reached rest can (says_stop (call_of ask.Stop n a s) (turn_at s n) refl)

pub exits_alike : ExitsEndAlike
exits_alike s n a is_normal reached rest can keeps =
    ask_alike (ask.Exit is_normal) s n a refl reached rest can
    (says_exit (call_of (ask.Exit is_normal) n a s) is_normal (turn_at s n) refl keeps)

pub forbids_alike : ForbidsEndAlike
forbids_alike s n a reached rest local =
    ask_alike (ask.Permit false) s n a refl reached rest (record { tells = λ is. absurd (false≢true (sym local ∙ is)) })
    (says_forbid (call_of (ask.Permit false) n a s) (turn_at s n) refl local)
