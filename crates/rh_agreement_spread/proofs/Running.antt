-- What comes of the start of an application at a node, whichever message arrives first: nodes are as far as they were, one answer is owed
-- and then comes, the application runs at the node and at no other, and each message uses up some of what is on its way.
use Rattle.std.proofs.Common.{◌≡◌, ◌≢◌, ◌⊎◌, ◌<◌, ◌≤◌, ◌+◌, ◌*◌, ◌++◌, ℕ, zero, suc, Bool, true, false, cond, List, [], ◌∷◌, length, slice_get, Option, Some, None, refl, sym, ap, subst, ◌∙◌, inl, inr, arith}
use Rattle.std.specs.Option.{option_map}
use Rattle.std.specs.Prelude.{All}
use Rattle.std.proofs.lemmas.Bool.{and_left, cases_Bool, cases_eq, false≢true, false_from_ne_true}
use Rattle.std.proofs.lemmas.List.{length-set, append-nil}
use Rattle.std.proofs.lemmas.List.Elements.{All-nil, All-cons, All-head, All-tail, All-append, All-weaker}
use Rattle.rh_model.specs.declared.node.App.{App}
use Rattle.rh_model.specs.declared.node.Node.{Node}
use Rattle.rh_otp_controller.specs.declared.state.Place.{Place}
use Rattle.rh_otp_controller.specs.declared.state.Place.TheVariants.{Here, At, Nowhere}
use Rattle.rh_otp_controller.specs.Calls.{is_here}
use Rattle.rh_otp_controller.specs.State.{ControllerView}
use Rattle.rh_otp_model.specs.declared.fault.Outcome.TheVariants as outcome
use Rattle.rh_otp_model.specs.declared.message.Message.{Message}
use Rattle.rh_otp_model.specs.declared.message.Message.TheVariants as message
use Rattle.rh_otp_model.specs.declared.output.Envelope.{Envelope}
use Rattle.rh_otp_model.specs.declared.output.Event.{Event}
use Rattle.rh_otp_model.specs.declared.output.Event.TheVariants as event
use Rattle.rh_otp_model.specs.Rows.{keyfind, keydelete, has_row}
use Rattle.rh_otp_dist.specs.State.{DistView}
use Rattle.rh_otp_net.specs.declared.order.Order.{Order}
use Rattle.rh_otp_net.specs.declared.order.Order.TheVariants.{FirstComes, LastComes, Drawn}
use Rattle.rh_otp_net.specs.Order.{place_in, next_order}
use Rattle.rh_otp_node.specs.declared.node.Phase.{Phase}
use Rattle.rh_otp_node.specs.Live.{LiveView, is_down, is_ending}
use Rattle.rh_otp_system.specs.declared.calls.Call.{Call}
use Rattle.rh_otp_system.specs.declared.calls.Stage.TheVariants as stage
use Rattle.rh_otp_system.specs.declared.cell.Cell.TheVariants as cell
use Rattle.rh_otp_system.specs.declared.moves.Move.{Move}
use Rattle.rh_otp_system.specs.declared.moves.Move.TheVariants as move
use Rattle.rh_otp_system.specs.declared.slow.Slow.{Slow}
use Rattle.rh_otp_system.specs.Delivering.{arrived}
use Rattle.rh_otp_system.specs.Moves.{Delivers, Reaches, IsQuiet, here, behind_one, can_go_on_at, is_to_end, first_call_from, call_or_end, lock_or_more, slow_or_more, message_or_more, quiet_move, made, is_quiet_by, is_quiet_behind}
use Rattle.rh_otp_system.specs.State.{SystemView, node_at, with_node, is_alive_at}
use Rattle.rh_otp_laws.proofs.Nodes.{node_written, others_same, same_of_all, same_number, as_it_was_or_written}
use Rattle.rh_otp_orders.proofs.Taking.{Taken}
use Rattle.rh_otp_crashes.proofs.Peace.{AtPeace, AtEase, at_ease, without, arrives_alive, arrives_dead, taken_all}
use Rattle.rh_otp_crashes.proofs.Starting.{moves_so, moved, moved_by, stops_at, seen_by}
use Rattle.rh_otp_stops.proofs.Answering.{at_stage, answered_in, answered_so, cannot_call}
use Rattle.rh_otp_stops.proofs.Still.{Come, uncalled, only_come}
use Rattle.rh_otp_stops.proofs.Stopping.{there_is}
use Rattle.rh_otp_stops.proofs.Words.{answer_of}
use Rattle.rh_otp_begins.proofs.Running.{IsNews, Running, CameOn, own_news, news, learned, came_on}
use Rattle.rh_otp_begins.proofs.Running as words
use Rattle.rh_agreement.proofs.Resting.{none_found}
use Rattle.rh_agreement_calls.proofs.Moving.{done}
use Rattle.rh_agreement_calls.proofs.Starting.{found_first}
use Rattle.rh_agreement_spread.proofs.Following.{owed}
use Rattle.rh_agreement_spread.proofs.Hearing.{Tells, acted}
use Rattle.rh_agreement_spread.proofs.HearingStarts.{hears, tells_run}
use Rattle.rh_agreement_spread.proofs.Summing.{sum_of, sum_behind, sum_taken, sum_of_none}

-- ---- what is on its way

-- the caller is answered that all is well, and dist_acs are told, and then controllers
pub data IsSaid (lives : Node → ℕ) (c : Call) : Envelope → Type 0 where
  runs : IsSaid lives c (own_news lives c None)
  answers : IsSaid lives c (answer_of lives c outcome.Done)
  tells : (m : Node) → m.0 ≢ c.node.0 → IsSaid lives c (news lives c None m)
  moves : (m : Node) → m.0 ≢ c.node.0 → IsSaid lives c (learned lives c m)

pub is_news : {lives : Node → ℕ} {c : Call} (e : Envelope) → IsSaid lives c e → IsNews lives c None e
is_news _ runs = words.runs
is_news _ answers = words.answers outcome.Done refl
is_news _ (tells m other) = words.tells m other
is_news _ (moves m other) = words.moves m other

-- what tells the node's dist_ac can lead to so many messages, each of which leads to one more
abbrev cost_of : ℕ → Message → ℕ
cost_of most (message.Run a error) = 2 * most + 1
cost_of most (message.AppStarted n a error) = 2
cost_of most m = 1

abbrev pub cost : ℕ → Envelope → ℕ
cost most e = cost_of most e.message

costs_some : (most : ℕ) (m : Message) → 0 < cost_of most m
costs_some most (message.Run a error) = omega arith
costs_some most (message.AppStarted n a error) = omega arith
costs_some most m = omega arith

-- messages that each can lead to so many, and no answers
abbrev AreTold : (Node → ℕ) → Call → ℕ → ℕ → Envelope → Type 0
AreTold lives c most k e = IsSaid lives c e × (cost most e ≡ k) × (owed e ≡ 0)

-- where each counts for two
pub sum_of_twos : (f : Envelope → ℕ) (es : List Envelope) → All (λ (e : Envelope). f e ≡ 2) es → sum_of f es ≡ 2 * length es
sum_of_twos f [] all = omega arith
sum_of_twos f (e ∷ es) all =
    let one : f e ≡ 2 = All-head (λ (x : Envelope). f x ≡ 2) e es all in
    let more : sum_of f es ≡ 2 * length es = sum_of_twos f es (All-tail (λ (x : Envelope). f x ≡ 2) e es all) in
    omega (arith, one, more)

-- ---- another node's controller learns it

-- nothing is seen where it doesn't run there
pub seen_none : (m : Node) (a : App) (x : ControllerView) → is_here (keyfind a x.running) ≡ false → seen_by m a x ≡ []
seen_none m a x not_here = by x.is_ending (keyfind a x.running) (has_row a x.started) not_here
  where
    by : (b : Bool) (o : Option Place) (k : Bool) → is_here o ≡ false → cond b [] (stops_at m a o k) ≡ []
    by true o k away = refl
    by false None k away = refl
    by false (Some Here) k away = absurd (false≢true (sym away))
    by false (Some (At j)) k away = refl
    by false (Some Nowhere) k away = refl

-- and it doesn't run there then
pub not_here_then : (a : App) (n : Node) (x : ControllerView) → is_here (keyfind a x.running) ≡ false
    → is_here (keyfind a (moved_by a n x).running) ≡ false
not_here_then a n x away = by x.is_ending
  where
    by : (b : Bool) → is_here (keyfind a (cond b x (moved a n x)).running) ≡ false
    by true = away
    by false = ap is_here (found_first a (At n) (keydelete a x.running))

-- ---- what stays as it was

module _ (lives : Node → ℕ) (c : Call) (most : ℕ) (base : SystemView) (seen : List Event) (kept : ControllerView)
    (alive_there : is_alive_at base c.node ≡ true) (kept_stays : kept.is_ending ≡ false) where
  -- the answer is on its way, or has come
  abbrev pub Awaits : SystemView → Type 0
  Awaits s =
      ((s.calls ≡ at_stage c stage.Controller ∷ []) × (s.events ≡ seen) × (sum_of owed s.messages ≡ 1))
      ⊎ ((s.calls ≡ done c ∷ []) × (s.events ≡ seen ++ event.Answered c.number ∷ []) × (sum_of owed s.messages ≡ 0))

  -- the application doesn't run at the node
  abbrev pub RunsNot : SystemView → Node → Type 0
  RunsNot s m = is_here (keyfind c.app (node_at s m).controller.running) ≡ false

  pub record Follows (s : SystemView) : Type 0 where
    pub still : Running lives c None s
    pub said : All (IsSaid lives c) s.messages
    pub few : (d : DistView) → (node_at s c.node).dist ≡ Some d → length d.known ≤ most
    pub cluster : s.cluster ≡ base.cluster
    pub files : s.files ≡ base.files
    pub soon : s.ends_soon ≡ base.ends_soon
    pub clock : s.clock ≡ base.clock
    pub count : length s.nodes.cells ≡ length base.nodes.cells
    pub phases : (k : Node) → (node_at s k).phase ≡ (node_at base k).phase
    pub node : (node_at s c.node).controller ≡ kept
    pub nowhere : (m : Node) → m.0 ≢ c.node.0 → is_alive_at s m ≡ true → RunsNot s m
    pub awaits : Awaits s

  -- it has come, and something was used up
  record ComesOn (s t : SystemView) : Type 0 where
    then : Follows t
    less : sum_of (cost most) t.messages < sum_of (cost most) s.messages

  module _ (s : SystemView) (e : Envelope) (left : List Envelope) (f : Follows s) (taken : Taken e s.messages left)
      (kind : IsSaid lives c e) where
    abbrev q : SystemView
    q = without s left

    abbrev then : SystemView
    then = arrived e.to e.message q

    still_then : Running lives c None then
    still_then = (came_on s e left f.still taken (is_news e kind)).still

    kinds : IsSaid lives c e × All (IsSaid lives c) left
    kinds = taken_all (IsSaid lives c) e s.messages left taken f.said

    costs : sum_of (cost most) s.messages ≡ cost most e + sum_of (cost most) left
    costs = sum_taken (cost most) e s.messages left taken

    owes : sum_of owed s.messages ≡ owed e + sum_of owed left
    owes = sum_taken owed e s.messages left taken

    awake : is_alive_at s c.node ≡ true
    awake = ap (λ (p : Phase). cond (is_down p) false true) (f.phases c.node) ∙ alive_there

    -- where it owes nothing the answer is still owed, or not
    awaits_on : (t : SystemView) (more : List Envelope) → owed e ≡ 0 → sum_of owed more ≡ 0 → t.calls ≡ s.calls → t.events ≡ s.events
        → t.messages ≡ left ++ more → Awaits t
    awaits_on t more none none_too calls events messages =
        let sum : sum_of owed t.messages ≡ sum_of owed left + sum_of owed more = ap (sum_of owed) messages ∙ sum_behind owed left more in
        elim f.awaits [
          | inl on ↦ inl (calls ∙ on.0, events ∙ on.1, omega (arith, sum, owes, none, none_too, on.2))
          | inr over ↦ inr (calls ∙ over.0, events ∙ over.1, omega (arith, sum, owes, none, none_too, over.2))
        ]

    -- what comes to a node that isn't alive is lost
    is_lost : then ≡ q → owed e ≡ 0 → ComesOn s then
    is_lost same none = record {
      then = record {
        still = still_then;
        said = subst (λ (t : SystemView). All (IsSaid lives c) t.messages) (sym same) kinds.1;
        few = λ d has. f.few d (sym (ap (λ (t : SystemView). (node_at t c.node).dist) same) ∙ has);
        cluster = ap (λ (t : SystemView). t.cluster) same ∙ f.cluster;
        files = ap (λ (t : SystemView). t.files) same ∙ f.files;
        soon = ap (λ (t : SystemView). t.ends_soon) same ∙ f.soon;
        clock = ap (λ (t : SystemView). t.clock) same ∙ f.clock;
        count = ap (λ (t : SystemView). length t.nodes.cells) same ∙ f.count;
        phases = λ k. ap (λ (t : SystemView). (node_at t k).phase) same ∙ f.phases k;
        node = ap (λ (t : SystemView). (node_at t c.node).controller) same ∙ f.node;
        nowhere = subst (λ (t : SystemView). (m : Node) → m.0 ≢ c.node.0 → is_alive_at t m ≡ true → RunsNot t m) (sym same) f.nowhere;
        awaits = awaits_on then [] none refl (ap (λ (t : SystemView). t.calls) same) (ap (λ (t : SystemView). t.events) same)
            (ap (λ (t : SystemView). t.messages) same ∙ sym (append-nil left));
      };
      less =
          let is : sum_of (cost most) then.messages ≡ sum_of (cost most) left = ap (λ (t : SystemView). sum_of
          (cost most) t.messages) same in
          let some : 0 < cost most e = costs_some most e.message in
          omega (arith, is, costs, some);
    }

    -- a node has done something for itself, and sends so much
    module _ (m : Node) (new : LiveView) (more : List Envelope) (same : then ≡ record (with_node m new q) { messages = left ++ more })
        (phase : new.phase ≡ (node_at q m).phase) (none : owed e ≡ 0) (all : All (IsSaid lives c) more) (nones : sum_of owed more ≡ 0)
        (spent : sum_of (cost most) more < cost most e)
        (few_then : (d : DistView) → (node_at (with_node m new q) c.node).dist ≡ Some d → length d.known ≤ most)
        (node_then : (node_at (with_node m new q) c.node).controller ≡ (node_at q c.node).controller)
        (not_here : (k : Node) → RunsNot q k → RunsNot (with_node m new q) k) where
      phases_so : (k : Node) → (node_at then k).phase ≡ (node_at s k).phase
      phases_so k = ap (λ (t : SystemView). (node_at t k).phase) same ∙ same_of_all (λ (v : LiveView). v.phase) q m k new phase

      has_acted : ComesOn s then
      has_acted = record {
        then = record {
          still = still_then;
          said = subst (λ (t : SystemView). All (IsSaid lives c) t.messages) (sym same) (All-append (IsSaid lives c) left more kinds.1 all);
          few = λ d has. few_then d (sym (ap (λ (t : SystemView). (node_at t c.node).dist) same) ∙ has);
          cluster = ap (λ (t : SystemView). t.cluster) same ∙ f.cluster;
          files = ap (λ (t : SystemView). t.files) same ∙ f.files;
          soon = ap (λ (t : SystemView). t.ends_soon) same ∙ f.soon;
          clock = ap (λ (t : SystemView). t.clock) same ∙ f.clock;
          count = ap (λ (t : SystemView). length t.nodes.cells) same ∙ length-set q.nodes.cells m.0 (cell.Node new) ∙ f.count;
          phases = λ k. phases_so k ∙ f.phases k;
          node = ap (λ (t : SystemView). (node_at t c.node).controller) same ∙ node_then ∙ f.node;
          nowhere = λ k other up.
              subst (λ (t : SystemView). RunsNot t k) (sym same)
              (not_here k (f.nowhere k other (sym (ap (λ (p : Phase). cond (is_down p) false true) (phases_so k)) ∙ up)));
          awaits = awaits_on then more none nones (ap (λ (t : SystemView). t.calls) same) (ap (λ (t : SystemView). t.events) same)
              (ap (λ (t : SystemView). t.messages) same);
        };
        less =
            let is : sum_of (cost most) then.messages ≡ sum_of (cost most) left + sum_of (cost most) more =
            ap (λ (t : SystemView). sum_of (cost most) t.messages) same ∙ sum_behind (cost most) left more in
            omega (arith, is, costs, spent);
      }

    -- where it is a dist_ac, controllers are as they were
    dist_acted : (m : Node) (next : Option DistView) (more : List Envelope) → then ≡ acted m next more q → owed e ≡ 0
        → All (IsSaid lives c) more → sum_of owed more ≡ 0 → sum_of (cost most) more < cost most e
        → ((d : DistView) → (node_at (with_node m (record (node_at q m) { dist = next }) q) c.node).dist ≡ Some d → length d.known ≤ most)
        → ComesOn s then
    dist_acted m next more same none all nones spent few_then =
        let new : LiveView = record (node_at q m) { dist = next } in
        let controllers : (k : Node) → (node_at (with_node m new q) k).controller ≡ (node_at q k).controller =
        λ k. same_of_all (λ (v : LiveView). v.controller) q m k new refl in
        has_acted m new more same refl none all nones spent few_then (controllers c.node)
        (λ k away. ap (λ (x : ControllerView). is_here (keyfind c.app x.running)) (controllers k) ∙ away)

    -- the call was answered
    answered : then ≡ answered_in c outcome.Done q → owed e ≡ 1 → ComesOn s then
    answered same one = record {
      then = record {
        still = still_then;
        said = subst (λ (t : SystemView). All (IsSaid lives c) t.messages) (sym same) kinds.1;
        few = λ d has. f.few d (sym (ap (λ (t : SystemView). (node_at t c.node).dist) same) ∙ has);
        cluster = ap (λ (t : SystemView). t.cluster) same ∙ f.cluster;
        files = ap (λ (t : SystemView). t.files) same ∙ f.files;
        soon = ap (λ (t : SystemView). t.ends_soon) same ∙ f.soon;
        clock = ap (λ (t : SystemView). t.clock) same ∙ f.clock;
        count = ap (λ (t : SystemView). length t.nodes.cells) same ∙ f.count;
        phases = λ k. ap (λ (t : SystemView). (node_at t k).phase) same ∙ f.phases k;
        node = ap (λ (t : SystemView). (node_at t c.node).controller) same ∙ f.node;
        nowhere = subst (λ (t : SystemView). (m : Node) → m.0 ≢ c.node.0 → is_alive_at t m ≡ true → RunsNot t m) (sym same) f.nowhere;
        awaits = elim f.awaits [
          | inl on ↦ inr (
            ap (λ (t : SystemView). t.calls) same,
            ap (λ (t : SystemView). t.events) same ∙ ap (λ (l : List Event). l ++ event.Answered c.number ∷ []) on.1,
            let is : sum_of owed then.messages ≡ sum_of owed left = ap (λ (t : SystemView). sum_of owed t.messages) same in
                omega (arith, is, owes, one, on.2),
          )
          | inr over ↦ absurd (omega (arith, owes, one, over.2))
        ];
      };
      less =
          let is : sum_of (cost most) then.messages ≡ sum_of (cost most) left = ap (λ (t : SystemView). sum_of
          (cost most) t.messages) same in
          let some : 0 < cost most e = costs_some most e.message in
          omega (arith, is, costs, some);
    }

  -- ---- what each message comes to

  comes_on : (s : SystemView) (e : Envelope) (left : List Envelope) → Follows s → Taken e s.messages left → IsSaid lives c e
      → ComesOn s (arrived e.to e.message (without s left))
  comes_on s _ left f taken runs =
      let e : Envelope = own_news lives c None in
      let q : SystemView = without s left in
      let up : is_alive_at s c.node ≡ true = awake s e left f taken runs in
      let k : Tells (AreTold lives c most 2) c.node (message.Run c.app None) q =
      tells_run (AreTold lives c most 2) lives c.node c.app q up f.still.still.same_lives (λ m other. (tells m other, refl, refl))
      (λ d has. f.still.still.dists c.node d up has) f.still.takeovers f.still.sees in
      let new : LiveView = record (node_at q c.node) { dist = k.next } in
      let written : node_at (with_node c.node new q) c.node ≡ new = node_written q c.node (node_at q c.node) new (there_is q c.node up) in
      let few : length k.more ≤ most = k.few most f.few in
      let twos : sum_of (cost most) k.more ≡ 2 * length k.more =
      sum_of_twos (cost most) k.more (All-weaker (AreTold lives c most 2) (λ (x : Envelope). cost most x
      ≡ 2) (λ x is. is.1) k.more k.kinds) in
      dist_acted s e left f taken runs c.node k.next k.more
      (arrives_alive e.to e.message q up (f.still.still.same_lives c.node) ∙ k.comes) refl
      (All-weaker (AreTold lives c most 2) (IsSaid lives c) (λ x is. is.0) k.more k.kinds)
      (sum_of_none owed k.more (All-weaker (AreTold lives c most 2) (λ (x : Envelope). owed x ≡ 0) (λ x is. is.2) k.more k.kinds))
      (omega (arith, few, twos))
      (λ d has.
      let b = k.knows d (sym (ap (λ (v : LiveView). v.dist) written) ∙ has) in
      subst (λ (nodes : List Node). length nodes ≤ most) (sym b.2) (f.few b.0 b.1))
  comes_on s _ left f taken answers =
      let e : Envelope = answer_of lives c outcome.Done in
      let q : SystemView = without s left in
      let up : is_alive_at s c.node ≡ true = awake s e left f taken answers in
      answered s e left f taken answers
      (answered_so c f.still.still.stage outcome.Done q f.still.still.calls f.still.still.locks refl up
      (f.still.still.same_lives c.node ∙ sym f.still.still.life)) refl
  comes_on s _ left f taken (tells m other) = by (cases_Bool (is_alive_at s m))
    where
      e : Envelope
      e = news lives c None m

      q : SystemView
      q = without s left

      kind : IsSaid lives c e
      kind = tells m other

      few_still : (next : Option DistView) (d : DistView) → (node_at (with_node m (record
          (node_at q m) { dist = next }) q) c.node).dist ≡ Some d
          → length d.known ≤ most
      few_still next d has =
          f.few d (sym (ap (λ (v : LiveView). v.dist)
          (others_same q m c.node (record (node_at q m) { dist = next }) (λ one. other (sym one)))) ∙ has)

      acts : (next : Option DistView) (more : List Envelope) → (more ≡ []) ⊎ (more ≡ learned lives c m ∷ [])
          → arrived e.to e.message q ≡ acted m next more q → ComesOn s (arrived e.to e.message q)
      acts next more (inl is) same =
          dist_acted s e left f taken kind m next [] (same ∙ ap (λ (l : List Envelope). acted m next l q) is) refl (All-nil
          (IsSaid lives c))
          refl (omega arith) (few_still next)
      acts next more (inr is) same =
          dist_acted s e left f taken kind m next (learned lives c m ∷ []) (same ∙ ap (λ (l : List Envelope). acted m next l q) is) refl
          (All-cons (IsSaid lives c) (learned lives c m) [] (moves m other) (All-nil (IsSaid lives c))) refl (omega arith) (few_still next)

      by : (is_alive_at s m ≡ true) ⊎ (is_alive_at s m ≡ false) → ComesOn s (arrived e.to e.message q)
      by (inl up) =
          let heard = hears lives c.node m c.app q (f.still.still.same_lives m) up (λ d has. f.still.still.dists m d up has) in
          acts heard.0 heard.1 heard.2 (arrives_alive e.to e.message q up (f.still.still.same_lives m) ∙ heard.3)
      by (inr dead) = is_lost s e left f taken kind (arrives_dead e.to e.message q dead) refl
  comes_on s _ left f taken (moves m other) = by (cases_Bool (is_alive_at s m))
    where
      e : Envelope
      e = learned lives c m

      q : SystemView
      q = without s left

      kind : IsSaid lives c e
      kind = moves m other

      x : ControllerView
      x = (node_at q m).controller

      new : LiveView
      new = record (node_at q m) { controller = moved_by c.app c.node x }

      no_news : (k : Node) → RunsNot q k → RunsNot (with_node m new q) k
      no_news k away = elim (as_it_was_or_written q m k new) [
        | inl was ↦ ap (λ (v : LiveView). is_here (keyfind c.app v.controller.running)) was ∙ away
        | inr is ↦ ap (λ (v : LiveView). is_here (keyfind c.app v.controller.running)) is.1
            ∙ not_here_then c.app c.node x
            (ap (λ (v : LiveView). is_here (keyfind c.app v.controller.running)) (same_number q m k (sym is.0)) ∙ away)
      ]

      by : (is_alive_at s m ≡ true) ⊎ (is_alive_at s m ≡ false) → ComesOn s (arrived e.to e.message q)
      by (inl up) =
          has_acted s e left f taken kind m new []
          (arrives_alive e.to e.message q up (f.still.still.same_lives m)
          ∙ moves_so m c.app c.node q (node_at q m) (there_is q m up)
          ∙ (λ i. record (with_node m new q) {
            messages = sym (append-nil left) i;
            events = s.events ++ seen_none m c.app x (f.nowhere m other up) i;
          })
          ∙ (λ i. record (with_node m new q) { messages = left ++ []; events = append-nil s.events i }))
          refl refl (All-nil (IsSaid lives c)) refl (omega arith)
          (λ d has. f.few d (sym (ap (λ (v : LiveView). v.dist) (others_same q m c.node new (λ one. other (sym one)))) ∙ has))
          (ap (λ (v : LiveView). v.controller) (others_same q m c.node new (λ one. other (sym one)))) no_news
      by (inr dead) = is_lost s e left f taken kind (arrives_dead e.to e.message q dead) refl

  -- ---- moves

  pub ends_not : (s : SystemView) → Follows s → (n : Node) → is_alive_at s n ≡ true → is_to_end n s ≡ false
  ends_not s f n up = elim (cases_eq n.0 c.node.0) [
    | inl same ↦ and_left (is_ending (node_at s n)) _
        (ap is_ending (same_number s n c.node same) ∙ ap (λ (x : ControllerView). x.is_ending) f.node ∙ kept_stays)
    | inr other ↦ f.still.still.ends n up (λ may. other)
  ]

  at_peace : (s : SystemView) → Follows s → AtPeace AtEase (IsNews lives c None) lives (uncalled s)
  at_peace s f = record {
    messages = f.still.kinds;
    slow = f.still.still.slow;
    calls = refl;
    calm = at_ease;
    dists = f.still.still.dists;
    ends = ends_not s f;
    listed = f.still.still.listed;
    same_lives = f.still.still.same_lives;
  }

  come_of : (s t : SystemView) → Follows s → Delivers s t → Come s t
  come_of s t f one =
      only_come s t (at_peace s f) (cannot_call c f.still.still.stage s f.still.still.waits f.still.still.calls) one

  come : (s t : SystemView) → Follows s → Delivers s t → ComesOn s t
  come s t f one =
      let x : Come s t = come_of s t f one in
      let kind : IsSaid lives c x.message = (taken_all (IsSaid lives c) x.message s.messages x.left x.taken f.said).0 in
      subst (ComesOn s) (sym x.is) (comes_on s x.message x.left f x.taken kind)

  pub follow_on : (s t : SystemView) → Reaches s t → Follows s → Follows t
  follow_on _ _ (here s) f = f
  follow_on _ _ (behind_one s t u one rest) f = follow_on t u rest (come s t f one).then

  -- where no message is on its way nothing can move
  none_taken : (e : Envelope) (messages left : List Envelope) → messages ≡ [] → Taken e messages left → ⊥
  none_taken e messages left none taken = subst (λ (l : List Envelope). Taken e l left) none taken

  none_can : (s t : SystemView) → Follows s → s.messages ≡ [] → Delivers s t → ⊥
  none_can s t f none one =
      let x : Come s t = come_of s t f one in
      none_taken x.message s.messages x.left none x.taken

  nothing_next : (s : SystemView) → Follows s → s.messages ≡ [] → quiet_move s ≡ None
  nothing_next s f none =
      let quiet : IsQuiet s = (none, f.still.still.slow) in
      ap (λ (found : Option Node). lock_or_more found s)
      (none_found (λ n. can_go_on_at n s) s.alive
      (λ n among. false_from_ne_true (can_go_on_at n s) (λ can. none_can s _ f none (move.Lock n, (quiet, among, can), refl))))
      ∙ ap (λ (waiting : List Call). call_or_end (first_call_from 0 waiting s) s) f.still.still.calls
      ∙ ap (λ (b : Bool). call_or_end (cond b (Some 0) None) s)
      (cannot_call c f.still.still.stage s f.still.still.waits f.still.still.calls 0 (at_stage c f.still.still.stage)
      (ap (λ (waiting : List Call). slice_get waiting 0) f.still.still.calls))
      ∙ ap (option_map move.End)
      (none_found (λ n. is_to_end n s) s.alive
      (λ n among. false_from_ne_true (is_to_end n s) (λ can. none_can s _ f none (move.End n, (quiet, among, can), refl))))

  -- the place that an order takes is one of these
  place_within : (order : Order) (count : ℕ) → 0 < count → place_in order count < count
  place_within FirstComes count some = some
  place_within LastComes count some = omega arith
  place_within (Drawn number) count some = omega (arith, some)

  -- ---- until nothing moves

  pub quiet_soon : (k : ℕ) (order : Order) (s : SystemView) → Follows s → sum_of (cost most) s.messages < k
      → is_quiet_behind k order s ≡ true
  quiet_soon zero order s f within = absurd (omega (arith, within))
  quiet_soon (suc k) order s f within = by s.messages refl (λ t. quiet_soon k (next_order order) t)
    where
      go_on : SystemView → Bool
      go_on = is_quiet_behind k (next_order order)

      by : (messages : List Envelope) → s.messages ≡ messages
          → ((t : SystemView) → Follows t → sum_of (cost most) t.messages < k → go_on t ≡ true)
          → is_quiet_by go_on (message_or_more order messages s) s ≡ true
      by [] none rest =
          ap (λ (slow : List Slow). is_quiet_by go_on (slow_or_more order slow s) s) f.still.still.slow
          ∙ ap (λ (next : Option Move). is_quiet_by go_on next s) (nothing_next s f none)
      by (e ∷ messages) is rest =
          let place : ℕ = place_in order (length (e ∷ messages)) in
          let there : place < length s.messages =
          subst (λ (l : List Envelope). place < length l) (sym is) (place_within order (length (e ∷ messages)) (omega arith)) in
          let t : SystemView = made (move.Deliver place) s in
          let x : ComesOn s t = come s t f (move.Deliver place, there, refl) in
          let less : sum_of (cost most) t.messages < sum_of (cost most) s.messages = x.less in
          rest t x.then (omega (arith, less, within))
