-- What comes of systems that are alike is alike.
use Rattle.std.proofs.Common.{◌≡◌, ◌≢◌, ◌⊎◌, ◌+◌, ℕ, Bool, true, false, cond, List, [], ◌∷◌, drop, slice_get, refl, sym, ap, subst, ◌∙◌, inl, inr}
use Rattle.std.proofs.lemmas.Bool.{cases_eq}
use Rattle.std.proofs.lemmas.Option.{none-some, same_Some}
use Rattle.rh_history.specs.Draft.{DraftView}
use Rattle.rh_model.specs.declared.node.Node.{Node}
use Rattle.rh_otp_model.specs.declared.output.Envelope.{Envelope}
use Rattle.rh_otp_model.specs.declared.output.Event.{Event}
use Rattle.rh_otp_net.specs.declared.timers.Timer.{Timer}
use Rattle.rh_otp_net.specs.Queue.{is_of_pair}
use Rattle.rh_otp_system.specs.declared.calls.Call.{Call}
use Rattle.rh_otp_system.specs.declared.cell.Cell.{Cell}
use Rattle.rh_otp_system.specs.declared.slow.Slow.{Slow}
use Rattle.rh_otp_system.specs.Delivering.{arrived}
use Rattle.rh_otp_system.specs.Ending.{ended}
use Rattle.rh_otp_system.specs.State.{SystemView, node_at}
use Rattle.rh_otp_system.specs.Working.{pair_of, answer_count}
use Rattle.rh_otp_node.specs.Live.{LiveView}
use Rattle.rh_otp_laws.specs.Messages.{of_pair}
use Rattle.rh_otp_laws.specs.Turns.{node_of_slow}
use Rattle.rh_otp_laws.proofs.Order.{pair_itself, same_pair}
use Rattle.rh_otp_orders.specs.Orders.{AreAlike, AlikeGoOnAlike, is_call, is_owner, node_of_timer, node_told}
use Rattle.rh_otp_orders.proofs.Commuting.{same_lists, count_of_more, without}
use Rattle.rh_otp_orders.proofs.Falling.{same_behind, end_alike}
use Rattle.rh_otp_orders.proofs.Going.{Agree, Went, EndBoth, comes}
use Rattle.rh_otp_orders.proofs.Same.{Added, Any, Near, KeptCalls, cell_at, on_same}
use Rattle.rh_otp_orders.proofs.Taking.{Taken, arrives_so, taken_arrives}

-- ---- a message is taken out of both

-- of each pair, what is there is what is left, with the message in front if it is of that pair
taken_pairs : (e p : Envelope) (messages left : List Envelope) → Taken e messages left
    → of_pair p messages ≡ cond (is_of_pair p e) (e ∷ of_pair p left) (of_pair p left)
taken_pairs e p [] left taken = absurd taken
taken_pairs e p (m ∷ messages) left (inl here) =
    λ i. cond (is_of_pair p (here.0 i)) (here.0 i ∷ of_pair p (sym here.1 i)) (of_pair p (sym here.1 i))
taken_pairs e p (m ∷ messages) left (inr later) =
    by (is_of_pair p e) refl (taken_pairs e p messages later.1 later.3)
  where
    back : (b : Bool) → cond b (e ∷ of_pair p (m ∷ later.1)) (of_pair p (m ∷ later.1)) ≡ cond b (e ∷ of_pair p left) (of_pair p left)
    back b = ap (λ (l : List Envelope). cond b (e ∷ of_pair p l) (of_pair p l)) (sym later.2)

    by : (b : Bool) → is_of_pair p e ≡ b → of_pair p messages ≡ cond b (e ∷ of_pair p later.1) (of_pair p later.1)
        → of_pair p (m ∷ messages) ≡ cond b (e ∷ of_pair p left) (of_pair p left)
    by true is rest =
        let fails : is_of_pair p m ≡ false = sym (same_pair p e m is) ∙ later.0 in
        ap (λ (b : Bool). cond b (m ∷ of_pair p messages) (of_pair p messages)) fails ∙ rest
        ∙ ap (λ (b : Bool). e ∷ cond b (m ∷ of_pair p later.1) (of_pair p later.1)) (sym fails) ∙ back true
    by false is rest =
        ap (λ (l : List Envelope). cond (is_of_pair p m) (m ∷ l) l) rest ∙ back false

same_head : (x y : Envelope) (xs ys : List Envelope) → x ∷ xs ≡ y ∷ ys → x ≡ y
same_head x y xs ys is = same_Some x y (ap (λ (l : List Envelope). slice_get l 0) is)

abbrev CanBeTaken : Envelope → List Envelope → Type 0
CanBeTaken e messages = (left : List Envelope) × Taken e messages left

first_is_taken : (e : Envelope) (messages rest : List Envelope) → of_pair e messages ≡ e ∷ rest → CanBeTaken e messages
first_is_taken e [] rest is = absurd (none-some e (ap (λ (l : List Envelope). slice_get l 0) is))
first_is_taken e (m ∷ messages) rest is = by (is_of_pair e m) refl is (first_is_taken e messages rest)
  where
    by : (b : Bool) → is_of_pair e m ≡ b → cond b (m ∷ of_pair e messages) (of_pair e messages) ≡ e ∷ rest
        → (of_pair e messages ≡ e ∷ rest → CanBeTaken e messages) → CanBeTaken e (m ∷ messages)
    by true passes is later = (messages, inl (same_head m e (of_pair e messages) rest is, refl))
    by false fails is later =
        let more : CanBeTaken e messages = later is in (m ∷ more.0, inr (fails, more.0, refl, more.1))

same_left : (b : Bool) (e : Envelope) (xs ys : List Envelope) → cond b (e ∷ xs) xs ≡ cond b (e ∷ ys) ys → xs ≡ ys
same_left true e xs ys is = ap (drop 1) is
same_left false e xs ys is = is

-- ---- what comes of both

pub alike_without : (s s' : SystemView) (left left' : List Envelope) → AreAlike s s' → ((p : Envelope) → of_pair p left ≡ of_pair p left')
    → AreAlike (without s left) (without s' left')
alike_without s s' left left' g same = record {
  cluster = g.cluster;
  files = g.files;
  nodes = g.nodes;
  clock = g.clock;
  step = g.step;
  last_call = g.last_call;
  alive = g.alive;
  links = g.links;
  locks = g.locks;
  calls = g.calls;
  asleep = g.asleep;
  told = g.told;
  answers = g.answers;
  is_ticking = g.is_ticking;
  ends_soon = g.ends_soon;
  messages = same;
  timers = g.timers;
  slow = g.slow;
  events = g.events;
}

pub same_nodes : (s s' : SystemView) (m : Node) → AreAlike s s' → node_at s m ≡ node_at s' m
same_nodes s s' m g = ap (λ (nodes : DraftView Cell). node_at (record s { nodes = nodes }) m) g.nodes

pub same_cell : (s s' : SystemView) (k : ℕ) → AreAlike s s' → cell_at s k ≡ cell_at s' k
same_cell s s' k g = ap (λ (nodes : DraftView Cell). slice_get nodes.cells k) g.nodes

agrees : (n : Node) (called : Bool) (a b : SystemView) → AreAlike a b → Agree n called a b
agrees n called a b g = record {
  files = (g.cluster, g.files);
  clock = (g.clock, g.step);
  links = g.links;
  locks = g.locks;
  counts = λ other app. inl (g.answers (pair_of n other app));
  here = same_cell a b n.0 g;
  alike = λ m. on_same (same_nodes a b m g);
  calls = λ is. g.calls;
}

-- over what both have begun with
over : {A : Type 0} {s a b t : A} → s ≡ a → a ≡ b → t ≡ b → s ≡ t
over to_a same to_b = to_a ∙ same ∙ sym to_b

same_calls : (called : Bool) (a b s t : List Call) → KeptCalls called a b s t → a ≡ b → s ≡ t
same_calls true a b s t kept same = kept
same_calls false a b s t kept same = over kept.0 same kept.1

cells_alike : (n : Node) (called : Bool) (a b s t : SystemView) → AreAlike a b → Went n called true a b s t → (k : ℕ)
    → cell_at s k ≡ cell_at t k
cells_alike n called a b s t g went k = by (cases_eq k n.0)
  where
    by : (k ≡ n.0) ⊎ (k ≢ n.0) → cell_at s k ≡ cell_at t k
    by (inl here) = subst (λ (j : ℕ). cell_at s j ≡ cell_at t j) (sym here) went.here
    by (inr other) = over (went.others k other).0 (same_cell a b k g) (went.others k other).1

pub went_alike : (n : Node) (called : Bool) (a b s t : SystemView) → AreAlike a b → Went n called true a b s t → AreAlike s t
went_alike n called a b s t g went =
    let near : Near a b = λ m. ap (λ (v : LiveView). v.phase) (same_nodes a b m g) in
    let sent : Added Any a.messages b.messages s.messages t.messages = went.sent.1 near in
    let slow : Added Any a.slow b.slow s.slow t.slow = went.slow.1 near in
    let base : s.nodes.base ≡ t.nodes.base =
    over went.kept.0.2 (ap (λ (nodes : DraftView Cell). nodes.base) g.nodes) went.kept.1.2 in
    let cells : s.nodes.cells ≡ t.nodes.cells = same_lists s.nodes.cells t.nodes.cells (cells_alike n called a b s t g went) in
    record {
      cluster = over went.kept.0.0 g.cluster went.kept.1.0;
      files = over went.kept.0.1 g.files went.kept.1.1;
      nodes = λ i. record { base = base i; cells = cells i };
      clock = over went.kept.0.3 g.clock went.kept.1.3;
      step = over went.kept.0.4 g.step went.kept.1.4;
      last_call = over went.kept.0.5 g.last_call went.kept.1.5;
      alive = over went.kept.0.6 g.alive went.kept.1.6;
      links = went.links;
      locks = went.locks;
      calls = same_calls called a.calls b.calls s.calls t.calls went.calls g.calls;
      asleep = over went.kept.0.7 g.asleep went.kept.1.7;
      told = over went.kept.0.8 g.told went.kept.1.8;
      answers = λ pair. count_of_more pair went.answers.0 a.answers s.answers went.answers.1
          ∙ ap (λ (k : ℕ). answer_count went.answers.0 pair + k) (g.answers pair)
          ∙ sym (count_of_more pair went.answers.0 b.answers t.answers went.answers.2);
      is_ticking = over went.kept.0.9 g.is_ticking went.kept.1.9;
      ends_soon = over went.kept.0.10 g.ends_soon went.kept.1.10;
      messages = λ pair. same_behind (is_of_pair pair) a.messages b.messages s.messages t.messages sent.0 (g.messages pair) sent.1 sent.2;
      timers = λ o. same_behind (λ (x : Timer). is_owner o (node_of_timer x)) a.timers b.timers s.timers t.timers went.timers.0 (g.timers o)
          went.timers.1 went.timers.2;
      slow = λ o. same_behind (λ (x : Slow). is_owner o (node_of_slow x)) a.slow b.slow s.slow t.slow slow.0 (g.slow o) slow.1 slow.2;
      events = λ o. same_behind (λ (x : Event). is_owner o (node_told x)) a.events b.events s.events t.events went.events.0 (g.events o)
          went.events.1 went.events.2;
    }

arrive_alike : (e : Envelope) (a b : SystemView) → AreAlike a b
    → AreAlike (arrived e.to e.message a) (arrived e.to e.message b)
arrive_alike e a b g =
    by (comes true e.to e.message a b (λ place call there is. inr (refl, λ k. same_cell a b k g))
    (agrees e.to.node (is_call e.to.role) a b g))
  where
    by : Went e.to.node (is_call e.to.role) true a b (arrived e.to e.message a) (arrived e.to e.message b)
        ⊎ EndBoth e.to.node a b (arrived e.to e.message a) (arrived e.to e.message b)
        → AreAlike (arrived e.to e.message a) (arrived e.to e.message b)
    by (inl went) = went_alike e.to.node (is_call e.to.role) a b _ _ g went
    by (inr ends) =
        subst (λ (s : SystemView). AreAlike s (arrived e.to e.message b)) (sym ends.1)
        (subst (AreAlike (ended e.to.node a)) (sym ends.2) (end_alike e.to.node a b g))

pub go_on_alike : AlikeGoOnAlike
go_on_alike s s' t e g come =
    let so : (left : List Envelope) × Taken e s.messages left × (t ≡ arrived e.to e.message (without s left)) = arrives_so s t e come in
    let first : of_pair e s'.messages ≡ e ∷ of_pair e so.0 =
    sym (g.messages e) ∙ taken_pairs e e s.messages so.0 so.1
    ∙ ap (λ (b : Bool). cond b (e ∷ of_pair e so.0) (of_pair e so.0)) (pair_itself e) in
    let too : CanBeTaken e s'.messages = first_is_taken e s'.messages (of_pair e so.0) first in
    let left_alike : (p : Envelope) → of_pair p so.0 ≡ of_pair p too.0 = λ p.
    same_left (is_of_pair p e) e (of_pair p so.0) (of_pair p too.0)
    (sym (taken_pairs e p s.messages so.0 so.1) ∙ g.messages p ∙ taken_pairs e p s'.messages too.0 too.1) in (
      arrived e.to e.message (without s' too.0),
      taken_arrives s' e too.0 too.1,
      subst (λ (x : SystemView). AreAlike x (arrived e.to e.message (without s' too.0))) (sym so.2)
          (arrive_alike e (without s so.0) (without s' too.0) (alike_without s s' so.0 too.0 g left_alike)),
    )
