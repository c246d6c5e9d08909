-- What moves in systems that are alike leaves them alike.
use Rattle.std.proofs.Common.{◌≡◌, ◌<◌, ◌&&◌, ◌||◌, ℕ, Bool, true, false, cond, List, [], ◌∷◌, length, slice_get, get_or, take, Option, Some, None, refl, sym, ap, subst, ◌∙◌, inl, inr, arith}
use Rattle.std.specs.List.{remove}
use Rattle.std.proofs.lemmas.Bool.{false≢true, and_parts}
use Rattle.std.proofs.lemmas.Option.{none-some, slice_get_within, slice_get-get_or}
use Rattle.rh_model.specs.declared.node.Node.{Node}
use Rattle.rh_otp_model.specs.declared.message.Message.TheVariants as message
use Rattle.rh_otp_model.specs.declared.output.Envelope.{Envelope}
use Rattle.rh_otp_model.specs.declared.process.Role.TheVariants as role
use Rattle.rh_otp_dist.specs.State.{DistView}
use Rattle.rh_otp_net.specs.Queue.{first_like, first_of_pair}
use Rattle.rh_otp_node.specs.Live.{LiveView}
use Rattle.rh_otp_node.specs.Remote as remote
use Rattle.rh_otp_node.specs.Turns.{terminated_by}
use Rattle.rh_otp_system.specs.declared.calls.Call.{Call}
use Rattle.rh_otp_system.specs.declared.calls.Stage.{Stage}
use Rattle.rh_otp_system.specs.declared.calls.Stage.TheVariants as stage
use Rattle.rh_otp_system.specs.declared.cell.Cell.TheVariants as cell
use Rattle.rh_otp_system.specs.declared.moves.Move.{Move}
use Rattle.rh_otp_system.specs.declared.moves.Move.TheVariants as move
use Rattle.rh_otp_system.specs.declared.slow.Slow.{Slow}
use Rattle.rh_otp_system.specs.declared.slow.Slow.TheVariants as slow
use Rattle.rh_otp_system.specs.Calling.{can_go_on, can_go_on_from, go_on_call}
use Rattle.rh_otp_system.specs.Calls.{process_of}
use Rattle.rh_otp_system.specs.Connecting.{connect}
use Rattle.rh_otp_system.specs.Delivering.{slowed}
use Rattle.rh_otp_system.specs.Ending.{ended, stopped}
use Rattle.rh_otp_system.specs.Joining.{boot_next}
use Rattle.rh_otp_system.specs.Moves as moves
use Rattle.rh_otp_system.specs.State.{SystemView, node_at, own_at, is_alive_at, lives}
use Rattle.rh_otp_system.specs.Working as working
use Rattle.rh_otp_laws.specs.Acting.{IsReached}
use Rattle.rh_otp_laws.specs.Messages.{of_pair, ArrivesInOrder}
use Rattle.rh_otp_laws.specs.Turns.{arriving, node_of_slow}
use Rattle.rh_otp_laws.proofs.Listing.{alive_listed}
use Rattle.rh_otp_laws.proofs.Order.{pair_itself, keeps_order}
use Rattle.rh_otp_laws.proofs.Working.{terminated_on, unparked_on}
use Rattle.rh_otp_orders.specs.Orders.{Arrives, AreAlike, AlikeMoveAlike, SameOfEach, node_of_timer, of_owner}
use Rattle.rh_otp_orders.proofs.Calling.{IsHome, goes_on}
use Rattle.rh_otp_orders.proofs.Falling.{Lists, lists_of, relist, relisted, end_alike}
use Rattle.rh_otp_orders.proofs.Following.{same_nodes, same_cell, went_alike, go_on_alike}
use Rattle.rh_otp_orders.proofs.Going.{there_by, went, nothing_kept}
use Rattle.rh_otp_orders.proofs.Picking.{IsThereToo, there_too, none_too}
use Rattle.rh_otp_orders.proofs.Receiving.{boots_on}
use Rattle.rh_otp_orders.proofs.Changing.{either}
use Rattle.rh_otp_orders.proofs.Same.{Same, IsOf, IsToldBy, KeptCalls, Owns, cell_at, none_added, none_added_by, on_itself, on_same}
use Rattle.rh_otp_orders.proofs.Turns.{terminated_own}
use Rattle.rh_otp_orders.proofs.Working.{same_process_in, same_own, writes, afters, connects, acts, takes_lock, works, owns_itself}

-- who is listed as alive is
abbrev pub IsAliveListed : SystemView → Type 0
IsAliveListed s = (n : Node) → moves.IsAmong n s.alive → is_alive_at s n ≡ true

abbrev GoesOn : SystemView → SystemView → Type 0
GoesOn s' t = (t' : SystemView) × moves.Delivers s' t' × AreAlike t t'

-- ---- a turn of a node that is alive

pub begins : (n : Node) (called : Bool) (room : ℕ) (a b : SystemView) → AreAlike a b → is_alive_at a n ≡ true → Same n called true room a b a b
begins n called room a b g alive =
    let there : (v : LiveView) × (cell_at a n.0 ≡ Some (cell.Node v)) = there_by (cell_at a n.0) alive in
    record {
      files = (g.cluster, g.files);
      clock = (g.clock, g.step);
      links = g.links;
      locks = g.locks;
      counts = λ other app. inl (g.answers (working.pair_of n other app));
      here = (there.0, there.1, sym (same_cell a b n.0 g) ∙ there.1);
      awake = alive;
      alike = λ m. on_same (same_nodes a b m g);
      lives = λ m. on_itself (node_at a m);
      phases = λ near. near;
      others = λ k other. (refl, refl);
      kept = (nothing_kept a, nothing_kept b);
      calls = kept_calls called;
      grown = omega arith;
      sent = none_added_by true (IsOf n a) a b a a.messages b.messages;
      timers = none_added (Owns node_of_timer n) a.timers b.timers;
      events = none_added (IsToldBy called n) a.events b.events;
      slow = none_added_by true (Owns node_of_slow n) a b a a.slow b.slow;
      answers = ([], refl, refl);
    }
  where
    kept_calls : (called : Bool) → KeptCalls called a.calls b.calls a.calls b.calls
    kept_calls true = g.calls
    kept_calls false = (refl, refl)

pub runs_alike : {n : Node} {called : Bool} {room : ℕ} {a b s t : SystemView} → AreAlike a b → Same n called true room a b s t → AreAlike s t
runs_alike {n} {called} {room} {a} {b} {s} {t} g same = went_alike n called a b s t g (went same)

-- what reads no list reads the same in both
pub same_read : {A : Type 0} (f : SystemView → A) (s t : SystemView) → AreAlike s t → f (relist (lists_of t) s) ≡ f t
same_read f s t g = ap f (sym (relisted s t g))

same_sync_free : (n : Node) (nodes : Option (List Node)) (x : Lists) (s : SystemView)
    → moves.is_sync_free n nodes (relist x s) ≡ moves.is_sync_free n nodes s
same_sync_free n None x s = refl
same_sync_free n (Some nodes) x s = refl

same_unpark : (n : Node) (dist : Option DistView) (x : Lists) (s : SystemView)
    → moves.can_unpark_in n dist (relist x s) ≡ moves.can_unpark_in n dist s
same_unpark n None x s = refl
same_unpark n (Some d) x s = refl

same_from : (w : Stage) (call : Call) (x : Lists) (s : SystemView) → can_go_on_from w call (relist x s) ≡ can_go_on_from w call s
same_from stage.Synchronised call x s = refl
same_from (stage.Lock nodes) call x s = refl
same_from w call x s = refl

same_take_lock : (n : Node) (s t : SystemView) → AreAlike s t → moves.can_take_lock n s ≡ moves.can_take_lock n t
same_take_lock n s t g =
    sym (same_sync_free n (working.lock_nodes n s) (lists_of t) s) ∙ same_read (moves.can_take_lock n) s t g

same_go_on : (n : Node) (s t : SystemView) → AreAlike s t → moves.can_go_on_at n s ≡ moves.can_go_on_at n t
same_go_on n s t g =
    (λ i. same_take_lock n s t g i
    || (sym (same_unpark n (node_at s n).dist (lists_of t) s) ∙ same_read (moves.can_unpark n) s t g) i)

same_call : (call : Call) (s t : SystemView) → AreAlike s t → moves.can_call call s ≡ moves.can_call call t
same_call call s t g =
    (λ i. moves.is_awake (process_of call) s && cond (lives s (process_of call)) (sym (same_from call.stage call (lists_of t) s) i) false)
    ∙ same_read (moves.can_call call) s t g

-- ---- nothing is on its way

no_message : (messages : List Envelope) → ((pair : Envelope) → of_pair pair [] ≡ of_pair pair messages) → messages ≡ []
no_message [] same = refl
no_message (e ∷ messages) same =
    absurd (none-some e (ap (λ (l : List Envelope). slice_get l 0)
    (same e ∙ ap (λ (b : Bool). cond b (e ∷ of_pair e messages) (of_pair e messages)) (pair_itself e))))

messages_too : (s t : SystemView) → AreAlike s t → s.messages ≡ [] → t.messages ≡ []
messages_too s t g none = no_message t.messages (λ pair. ap (of_pair pair) (sym none) ∙ g.messages pair)

quiet_too : (s t : SystemView) → AreAlike s t → moves.IsQuiet s → moves.IsQuiet t
quiet_too s t g quiet =
    (messages_too s t g quiet.0, none_too node_of_slow t.slow (λ o. ap (of_owner node_of_slow o) (sym quiet.1) ∙ g.slow o))

among_too : (n : Node) (s t : SystemView) → AreAlike s t → moves.IsAmong n s.alive → moves.IsAmong n t.alive
among_too n s t g among = subst (moves.IsAmong n) g.alive among

-- ---- a message arrives

pub within : (s : SystemView) (place : ℕ) (e : Envelope) → arriving place s ≡ Some e → place < length s.messages
within s place e is = by (slice_get s.messages place) refl
  where
    by : (o : Option Envelope) → slice_get s.messages place ≡ o → place < length s.messages
    by None past =
        let at : first_of_pair s.messages place ≡ place = ap (λ (o : Option Envelope). first_like o place (take place s.messages)) past in
        absurd (none-some e (sym (ap (slice_get s.messages) at ∙ past) ∙ is))
    by (Some f) there = slice_get_within s.messages place f there

delivers : (s s' t : SystemView) (place : ℕ) → AreAlike s s' → IsAliveListed s → place < length s.messages
    → t ≡ moves.made (move.Deliver place) s → GoesOn s' t
delivers s s' t place g order possible is =
    let come : ArrivesInOrder place s (moves.made (move.Deliver place) s) = keeps_order s place possible in
    let e : Envelope = come.message in
    let on : (t' : SystemView) × Arrives e s' t' × AreAlike t t' =
    go_on_alike s s' t e g (place, come.is_there, is) in
    (on.0, (move.Deliver on.1.0, within s' on.1.0 e on.1.1, on.1.2), on.2)

-- ---- something slow

alike_with_slow : (s s' : SystemView) (xs ys : List Slow) → AreAlike s s' → SameOfEach node_of_slow xs ys
    → AreAlike (record s { slow = xs }) (record s' { slow = ys })
alike_with_slow s s' xs ys g same = record {
  cluster = g.cluster;
  files = g.files;
  nodes = g.nodes;
  clock = g.clock;
  step = g.step;
  last_call = g.last_call;
  alive = g.alive;
  links = g.links;
  locks = g.locks;
  calls = g.calls;
  asleep = g.asleep;
  told = g.told;
  answers = g.answers;
  is_ticking = g.is_ticking;
  ends_soon = g.ends_soon;
  messages = g.messages;
  timers = g.timers;
  slow = same;
  events = g.events;
}

either_alike : (p q : Bool) (s t x y : SystemView) → q ≡ p → (p ≡ true → AreAlike s t) → AreAlike x y → AreAlike (cond p s x) (cond q t y)
either_alike p q s t x y is so else_so = subst (λ (r : Bool). AreAlike (cond p s x) (cond r t y)) (sym is) (by p refl)
  where
    by : (r : Bool) → p ≡ r → AreAlike (cond r s x) (cond r t y)
    by true passes = so passes
    by false passes = else_so

slowed_alike : (what : Slow) (a b : SystemView) → AreAlike a b → AreAlike (slowed what a) (slowed what b)
unfolding slowed
slowed_alike (slow.Connect one two) a b g =
    either_alike (is_alive_at a one && is_alive_at a two) (is_alive_at b one && is_alive_at b two) (connect one two a)
    (connect one two b) a b
    (sym (same_read (λ (s : SystemView). is_alive_at s one && is_alive_at s two) a b g))
    (λ alive. runs_alike g (connects one two (begins one false 0 a b g (and_parts _ _ alive).0))) g
slowed_alike (slow.Boot n) a b g =
    either_alike (is_alive_at a n) (is_alive_at b n) (boot_next n None a) (boot_next n None b) a b
    (sym (same_read (λ (s : SystemView). is_alive_at s n) a b g)) (λ alive. runs_alike g (boots_on None (begins n false 0 a b g alive))) g

slow_done : (s : SystemView) (place : ℕ) (what : Slow) → slice_get s.slow place ≡ Some what
    → moves.made (move.Slow place) s ≡ slowed what (record s { slow = remove s.slow place })
unfolding moves.made
slow_done s place what there = ap (λ (o : Option Slow). moves.slow_done_if place o s) there

some_slow : (xs : List Slow) (place : ℕ) → place < length xs → (what : Slow) × (slice_get xs place ≡ Some what)
some_slow [] place inside = absurd (omega (arith, inside))
some_slow (what ∷ xs) place inside = (get_or (what ∷ xs) place what, slice_get-get_or (what ∷ xs) place what inside)

slows : (s s' t : SystemView) (place : ℕ) → AreAlike s s' → s.messages ≡ [] → place < length s.slow
    → t ≡ moves.made (move.Slow place) s → GoesOn s' t
slows s s' t place g none inside is =
    let some : (what : Slow) × (slice_get s.slow place ≡ Some what) = some_slow s.slow place inside in
    let too : IsThereToo node_of_slow s.slow s'.slow place some.0 = there_too node_of_slow s.slow s'.slow place some.0 g.slow some.1 in
    let left : AreAlike (record s { slow = remove s.slow place }) (record s' { slow = remove s'.slow too.place }) =
    alike_with_slow s s' (remove s.slow place) (remove s'.slow too.place) g too.left in (
      slowed some.0 (record s' { slow = remove s'.slow too.place }),
      (
        move.Slow too.place,
        (messages_too s s' g none, slice_get_within s'.slow too.place some.0 too.there),
        sym (slow_done s' too.place some.0 too.there),
      ),
      subst (λ (x : SystemView). AreAlike x (slowed some.0 (record s' { slow = remove s'.slow too.place })))
          (sym (is ∙ slow_done s place some.0 some.1)) (slowed_alike some.0 _ _ left),
    )

-- ---- a lock

abbrev with_lock : Node → SystemView → SystemView
with_lock n s = cond (moves.can_take_lock n s) (working.take_lock n s) (moves.unparked n s)

locked_alike : (n : Node) (a b : SystemView) → AreAlike a b → is_alive_at a n ≡ true → AreAlike (moves.locked n a) (moves.locked n b)
locked_alike n a b g alive =
    let room : ℕ = working.mail_count_at (with_lock n a) n in
    let start : Same n false true room a b a b = begins n false room a b g alive in
    let ready : Same n false true room a b (with_lock n a) (with_lock n b) =
    either (moves.can_take_lock n a) (moves.can_take_lock n b) (same_take_lock n a b g) (takes_lock start)
    (writes remote.unparked unparked_on start) in
    runs_alike g (works (omega arith) ready)

locks : (s s' t : SystemView) (n : Node) → AreAlike s s' → IsAliveListed s → moves.IsPossible s (move.Lock n)
    → t ≡ moves.made (move.Lock n) s → GoesOn s' t
unfolding moves.made
locks s s' t n g order possible is = (
  moves.locked n s',
  (
    move.Lock n,
    (
      quiet_too s s' g possible.0,
      among_too n s s' g possible.1,
      sym (same_go_on n s s' g) ∙ possible.2,
    ),
    refl,
  ),
  subst (λ (x : SystemView). AreAlike x (moves.locked n s')) (sym is) (locked_alike n s s' g (order n possible.1)),
)

-- ---- a call

-- a call that can go on is of a node that is alive
call_alive : (call : Call) (s : SystemView) → can_go_on call s ≡ true → is_alive_at s call.node ≡ true
call_alive call s can = by (lives s (process_of call)) refl can
  where
    by : (b : Bool) → lives s (process_of call) ≡ b → cond b (can_go_on_from call.stage call s) false ≡ true
        → is_alive_at s call.node ≡ true
    by true is can = (and_parts _ _ is).0
    by false is can = absurd (false≢true can)

calls_on : (s s' t : SystemView) (place : ℕ) → AreAlike s s' → moves.IsPossible s (move.Call place)
    → t ≡ moves.made (move.Call place) s → GoesOn s' t
unfolding moves.made
calls_on s s' t place g possible is =
    let call : Call = possible.1.0 in
    let found : slice_get s.calls place ≡ Some call = possible.1.1 in
    let can : can_go_on call s ≡ true = (and_parts _ _ possible.1.2).1 in
    let home : IsHome call.node true s s' place s = λ other at. inr (refl, λ k. same_cell s s' k g) in (
      go_on_call place s',
      (
        move.Call place,
        (
          quiet_too s s' g possible.0,
          (call, ap (λ (calls : List Call). slice_get calls place) (sym g.calls) ∙ found, sym (same_call call s s' g) ∙ possible.1.2),
        ),
        refl,
      ),
      subst (λ (x : SystemView). AreAlike x (go_on_call place s')) (sym is)
          (runs_alike g (goes_on place home (begins call.node true 0 s s' g (call_alive call s can)))),
    )

-- ---- an end

stops_alike : (n : Node) (a b : SystemView) → AreAlike a b → is_alive_at a n ≡ true → AreAlike (stopped n a) (stopped n b)
unfolding stopped
stops_alike n a b g alive =
    let start : Same n false true 0 a b a b = begins n false 0 a b g alive in
    let over : Same n false true 0 a b (working.behind n (terminated_by a.cluster (own_at a n) n (node_at a n)) a)
    (working.behind n (terminated_by b.cluster (own_at b n) n (node_at b n)) b) =
    acts (terminated_by a.cluster (own_at a n) n (node_at a n)) (terminated_by b.cluster (own_at b n) n (node_at b n))
    (λ i. terminated_by (g.cluster i) (same_own n start i) n (same_nodes a b n g i)) (terminated_on a.cluster (own_at a n) n (node_at a n))
    (terminated_own a.cluster (own_at a n) n (node_at a n)) start in
    runs_alike g (afters 1500 _ _ message.Ends (same_process_in n role.System over) refl (owns_itself n) over)

to_end_alike : (n : Node) (a b : SystemView) → AreAlike a b → is_alive_at a n ≡ true → AreAlike (moves.to_end n a) (moves.to_end n b)
to_end_alike n a b g alive =
    either_alike a.ends_soon b.ends_soon (ended n a) (ended n b) (stopped n a) (stopped n b) (sym g.ends_soon) (λ soon. end_alike n a b g)
    (stops_alike n a b g alive)

ends : (s s' t : SystemView) (n : Node) → AreAlike s s' → IsAliveListed s → moves.IsPossible s (move.End n)
    → t ≡ moves.made (move.End n) s → GoesOn s' t
unfolding moves.made
ends s s' t n g order possible is = (
  moves.to_end n s',
  (
    move.End n,
    (
      quiet_too s s' g possible.0,
      among_too n s s' g possible.1,
      sym (same_read (moves.is_to_end n) s s' g) ∙ possible.2,
    ),
    refl,
  ),
  subst (λ (x : SystemView). AreAlike x (moves.to_end n s')) (sym is) (to_end_alike n s s' g (order n possible.1)),
)

-- ---- every move

moves_on : (next : Move) (s s' t : SystemView) → AreAlike s s' → IsAliveListed s → moves.IsPossible s next → t ≡ moves.made next s
    → GoesOn s' t
moves_on (move.Deliver place) s s' t g order possible is = delivers s s' t place g order possible is
moves_on (move.Slow place) s s' t g order possible is = slows s s' t place g possible.0 possible.1 is
moves_on (move.Lock n) s s' t g order possible is = locks s s' t n g order possible is
moves_on (move.Call place) s s' t g order possible is = calls_on s s' t place g possible is
moves_on (move.End n) s s' t g order possible is = ends s s' t n g order possible is

pub go_alike : (s s' t : SystemView) → AreAlike s s' → IsAliveListed s → moves.Delivers s t → GoesOn s' t
go_alike s s' t g order (next, possible, is) = moves_on next s s' t g order possible is

pub reached_order : (s : SystemView) → IsReached s → IsAliveListed s
reached_order s reached n among = ((alive_listed s reached).exactly n).0 among

pub move_alike : AlikeMoveAlike
move_alike s s' t g reached moved = go_alike s s' t g (reached_order s reached) moved
