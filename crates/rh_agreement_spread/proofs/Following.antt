-- What comes of the end of an application, whichever message arrives first: nodes are as far as they were, one answer is owed and then
-- comes, and each message uses up some of what is on its way.
use Rattle.std.proofs.Common.{◌≡◌, ◌≢◌, ◌⊎◌, ◌<◌, ◌≤◌, ◌+◌, ◌++◌, ℕ, zero, suc, Bool, true, false, cond, List, [], ◌∷◌, length, slice_get, Option, Some, None, refl, sym, ap, subst, ◌∙◌, inl, inr, arith}
use Rattle.std.specs.Option.{option_map}
use Rattle.std.specs.Prelude.{All}
use Rattle.std.proofs.lemmas.Bool.{cases_Bool, false_from_ne_true}
use Rattle.std.proofs.lemmas.List.{length-set, append-nil}
use Rattle.std.proofs.lemmas.List.Elements.{All-nil, All-append, All-weaker}
use Rattle.rh_model.specs.declared.node.Node.{Node}
use Rattle.rh_otp_model.specs.declared.fault.Outcome.TheVariants as outcome
use Rattle.rh_otp_model.specs.declared.message.Message.{Message}
use Rattle.rh_otp_model.specs.declared.message.Message.TheVariants as message
use Rattle.rh_otp_model.specs.declared.output.Envelope.{Envelope}
use Rattle.rh_otp_model.specs.declared.output.Event.{Event}
use Rattle.rh_otp_model.specs.declared.output.Event.TheVariants as event
use Rattle.rh_otp_dist.specs.State.{DistView}
use Rattle.rh_otp_net.specs.declared.order.Order.{Order}
use Rattle.rh_otp_net.specs.declared.order.Order.TheVariants.{FirstComes, LastComes, Drawn}
use Rattle.rh_otp_net.specs.Order.{place_in, next_order}
use Rattle.rh_otp_node.specs.declared.node.Phase.{Phase}
use Rattle.rh_otp_node.specs.Live.{LiveView, is_down}
use Rattle.rh_otp_system.specs.declared.calls.Call.{Call}
use Rattle.rh_otp_system.specs.declared.calls.Stage.TheVariants as stage
use Rattle.rh_otp_system.specs.declared.cell.Cell.TheVariants as cell
use Rattle.rh_otp_system.specs.declared.moves.Move.{Move}
use Rattle.rh_otp_system.specs.declared.moves.Move.TheVariants as move
use Rattle.rh_otp_system.specs.declared.slow.Slow.{Slow}
use Rattle.rh_otp_system.specs.Delivering.{arrived}
use Rattle.rh_otp_system.specs.Moves.{Delivers, Reaches, IsQuiet, here, behind_one, can_go_on_at, is_to_end, first_call_from, call_or_end, lock_or_more, slow_or_more, message_or_more, quiet_move, made, is_quiet_by, is_quiet_behind}
use Rattle.rh_otp_system.specs.State.{SystemView, node_at, with_node, is_alive_at}
use Rattle.rh_otp_laws.proofs.Nodes.{node_written, others_same, same_of_all}
use Rattle.rh_otp_orders.specs.Orders.{is_call}
use Rattle.rh_otp_orders.proofs.Taking.{Taken}
use Rattle.rh_otp_crashes.proofs.Peace.{without, arrives_alive, arrives_dead, taken_all}
use Rattle.rh_otp_stops.proofs.Answering.{at_stage, answered_in, answered_so, cannot_call}
use Rattle.rh_otp_stops.proofs.Still.{Come}
use Rattle.rh_otp_stops.proofs.Stopping.{Stopping, came_on, come_of, there_is}
use Rattle.rh_otp_stops.proofs.Words.{IsNews, own_news, answer_of, news}
use Rattle.rh_otp_stops.proofs.Words as words
use Rattle.rh_agreement.proofs.Resting.{none_found}
use Rattle.rh_agreement_calls.proofs.Moving.{done}
use Rattle.rh_agreement_spread.proofs.Hearing.{acted, hears, Tells, tells_end}
use Rattle.rh_agreement_spread.proofs.Summing.{sum_of, sum_behind, sum_taken, sum_of_ones, sum_of_none}

-- ---- what is on its way

-- the caller is answered that all is well, and dist_acs are told
pub data IsSaid (lives : Node → ℕ) (c : Call) (told : Bool) : Envelope → Type 0 where
  ends : told ≡ true → IsSaid lives c told (own_news lives c)
  answers : IsSaid lives c told (answer_of lives c outcome.Done)
  tells : (m : Node) → m.0 ≢ c.node.0 → IsSaid lives c told (news lives c m)

pub is_news : {lives : Node → ℕ} {c : Call} {told : Bool} (e : Envelope) → IsSaid lives c told e → IsNews lives c told e
is_news _ (ends is) = words.ends is
is_news _ answers = words.answers outcome.Done refl
is_news _ (tells m other) = words.tells m other

-- is it for a call?
abbrev one_if : Bool → ℕ
one_if b = cond b 1 0

-- how many answers it is
abbrev pub owed : Envelope → ℕ
owed e = one_if (is_call e.to.role)

-- what tells a dist_ac of the end can lead to so many messages, each of which leads to no more
abbrev cost_of : ℕ → Message → ℕ
cost_of most (message.Stopped a) = most + 1
cost_of most m = 1

abbrev pub cost : ℕ → Envelope → ℕ
cost most e = cost_of most e.message

-- one that another dist_ac is told
abbrev IsTold : (Node → ℕ) → Call → Bool → ℕ → Envelope → Type 0
IsTold lives c told most e = IsSaid lives c told e × (cost most e ≡ 1) × (owed e ≡ 0)

-- ---- what stays as it was

module _ (lives : Node → ℕ) (c : Call) (told : Bool) (most : ℕ) (base : SystemView) (seen : List Event)
    (alive_there : is_alive_at base c.node ≡ true) where
  -- the answer is on its way, or has come
  abbrev pub Awaits : SystemView → Type 0
  Awaits s =
      ((s.calls ≡ at_stage c stage.Controller ∷ []) × (s.events ≡ seen) × (sum_of owed s.messages ≡ 1))
      ⊎ ((s.calls ≡ done c ∷ []) × (s.events ≡ seen ++ event.Answered c.number ∷ []) × (sum_of owed s.messages ≡ 0))

  pub record Follows (s : SystemView) : Type 0 where
    pub still : Stopping lives c told s
    pub said : All (IsSaid lives c told) s.messages
    pub few : told ≡ true → (d : DistView) → (node_at s c.node).dist ≡ Some d → length d.known ≤ most
    pub cluster : s.cluster ≡ base.cluster
    pub files : s.files ≡ base.files
    pub soon : s.ends_soon ≡ base.ends_soon
    pub clock : s.clock ≡ base.clock
    pub count : length s.nodes.cells ≡ length base.nodes.cells
    pub phases : (k : Node) → (node_at s k).phase ≡ (node_at base k).phase
    pub awaits : Awaits s

  -- it has come, and something was used up
  pub record ComesOn (s t : SystemView) : Type 0 where
    pub then : Follows t
    pub less : sum_of (cost most) t.messages < sum_of (cost most) s.messages

  costs_some : (m : Message) → 0 < cost_of most m
  costs_some (message.Stopped a) = omega arith
  costs_some m = omega arith

  module _ (s : SystemView) (e : Envelope) (left : List Envelope) (f : Follows s) (taken : Taken e s.messages left)
      (kind : IsSaid lives c told e) where
    abbrev q : SystemView
    q = without s left

    abbrev then : SystemView
    then = arrived e.to e.message q

    still_then : Stopping lives c told then
    still_then = (came_on s e left f.still taken (is_news e kind)).still

    kinds : IsSaid lives c told e × All (IsSaid lives c told) left
    kinds = taken_all (IsSaid lives c told) e s.messages left taken f.said

    costs : sum_of (cost most) s.messages ≡ cost most e + sum_of (cost most) left
    costs = sum_taken (cost most) e s.messages left taken

    owes : sum_of owed s.messages ≡ owed e + sum_of owed left
    owes = sum_taken owed e s.messages left taken

    awake : is_alive_at s c.node ≡ true
    awake = ap (λ (p : Phase). cond (is_down p) false true) (f.phases c.node) ∙ alive_there

    -- where it owes nothing the answer is still owed, or not
    awaits_on : (t : SystemView) (more : List Envelope) → owed e ≡ 0 → sum_of owed more ≡ 0 → t.calls ≡ s.calls → t.events ≡ s.events
        → t.messages ≡ left ++ more → Awaits t
    awaits_on t more none none_too calls events messages = elim f.awaits [
      | inl on ↦ inl (
        calls ∙ on.0,
        events ∙ on.1,
        let sum : sum_of owed t.messages ≡ sum_of owed left + sum_of owed more = ap (sum_of owed) messages ∙ sum_behind owed left more in
            omega (arith, sum, owes, none, none_too, on.2),
      )
      | inr over ↦ inr (
        calls ∙ over.0,
        events ∙ over.1,
        let sum : sum_of owed t.messages ≡ sum_of owed left + sum_of owed more = ap (sum_of owed) messages ∙ sum_behind owed left more in
            omega (arith, sum, owes, none, none_too, over.2),
      )
    ]

    -- what comes to a node that isn't alive is lost
    is_lost : then ≡ q → owed e ≡ 0 → ComesOn s then
    is_lost same none = record {
      then = record {
        still = still_then;
        said = subst (λ (t : SystemView). All (IsSaid lives c told) t.messages) (sym same) kinds.1;
        few = λ is d has. f.few is d (sym (ap (λ (t : SystemView). (node_at t c.node).dist) same) ∙ has);
        cluster = ap (λ (t : SystemView). t.cluster) same ∙ f.cluster;
        files = ap (λ (t : SystemView). t.files) same ∙ f.files;
        soon = ap (λ (t : SystemView). t.ends_soon) same ∙ f.soon;
        clock = ap (λ (t : SystemView). t.clock) same ∙ f.clock;
        count = ap (λ (t : SystemView). length t.nodes.cells) same ∙ f.count;
        phases = λ k. ap (λ (t : SystemView). (node_at t k).phase) same ∙ f.phases k;
        awaits = awaits_on then [] none refl (ap (λ (t : SystemView). t.calls) same) (ap (λ (t : SystemView). t.events) same)
            (ap (λ (t : SystemView). t.messages) same ∙ sym (append-nil left));
      };
      less =
          let is : sum_of (cost most) then.messages ≡ sum_of (cost most) left = ap (λ (t : SystemView). sum_of
          (cost most) t.messages) same in
          let some : 0 < cost most e = costs_some e.message in
          omega (arith, is, costs, some);
    }

    -- a dist_ac has done something
    module _ (m : Node) (next : Option DistView) (more : List Envelope) (same : then ≡ acted m next more q) (none : owed e ≡ 0)
        (all : All (IsTold lives c told most) more) (spent : length more < cost most e)
        (few_then : told ≡ true → (d : DistView) → (node_at (acted m next more q) c.node).dist ≡ Some d → length d.known ≤ most) where
      abbrev new : LiveView
      new = record (node_at q m) { dist = next }

      ones : sum_of (cost most) more ≡ length more
      ones = sum_of_ones (cost most) more
          (All-weaker (IsTold lives c told most) (λ (x : Envelope). cost most x ≡ 1) (λ x is. is.1) more all)

      nones : sum_of owed more ≡ 0
      nones = sum_of_none owed more (All-weaker (IsTold lives c told most) (λ (x : Envelope). owed x ≡ 0) (λ x is. is.2) more all)

      has_acted : ComesOn s then
      has_acted = record {
        then = record {
          still = still_then;
          said = subst (λ (t : SystemView). All (IsSaid lives c told) t.messages) (sym same)
              (All-append (IsSaid lives c told) left more kinds.1
              (All-weaker (IsTold lives c told most) (IsSaid lives c told) (λ x is. is.0) more all));
          few = λ is d has. few_then is d (sym (ap (λ (t : SystemView). (node_at t c.node).dist) same) ∙ has);
          cluster = ap (λ (t : SystemView). t.cluster) same ∙ f.cluster;
          files = ap (λ (t : SystemView). t.files) same ∙ f.files;
          soon = ap (λ (t : SystemView). t.ends_soon) same ∙ f.soon;
          clock = ap (λ (t : SystemView). t.clock) same ∙ f.clock;
          count = ap (λ (t : SystemView). length t.nodes.cells) same ∙ length-set q.nodes.cells m.0 (cell.Node new) ∙ f.count;
          phases = λ k.
              ap (λ (t : SystemView). (node_at t k).phase) same ∙ same_of_all (λ (v : LiveView). v.phase) q m k new refl ∙ f.phases k;
          awaits = awaits_on then more none nones (ap (λ (t : SystemView). t.calls) same) (ap (λ (t : SystemView). t.events) same)
              (ap (λ (t : SystemView). t.messages) same);
        };
        less =
            let is : sum_of (cost most) then.messages ≡ sum_of (cost most) left + sum_of (cost most) more =
            ap (λ (t : SystemView). sum_of (cost most) t.messages) same ∙ sum_behind (cost most) left more in
            omega (arith, is, costs, ones, spent);
      }

    -- the call was answered
    answered : then ≡ answered_in c outcome.Done q → owed e ≡ 1 → ComesOn s then
    answered same one = record {
      then = record {
        still = still_then;
        said = subst (λ (t : SystemView). All (IsSaid lives c told) t.messages) (sym same) kinds.1;
        few = λ is d has. f.few is d (sym (ap (λ (t : SystemView). (node_at t c.node).dist) same) ∙ has);
        cluster = ap (λ (t : SystemView). t.cluster) same ∙ f.cluster;
        files = ap (λ (t : SystemView). t.files) same ∙ f.files;
        soon = ap (λ (t : SystemView). t.ends_soon) same ∙ f.soon;
        clock = ap (λ (t : SystemView). t.clock) same ∙ f.clock;
        count = ap (λ (t : SystemView). length t.nodes.cells) same ∙ f.count;
        phases = λ k. ap (λ (t : SystemView). (node_at t k).phase) same ∙ f.phases k;
        awaits = elim f.awaits [
          | inl on ↦ inr (
            ap (λ (t : SystemView). t.calls) same,
            ap (λ (t : SystemView). t.events) same ∙ ap (λ (l : List Event). l ++ event.Answered c.number ∷ []) on.1,
            let is : sum_of owed then.messages ≡ sum_of owed left = ap (λ (t : SystemView). sum_of owed t.messages) same in
                omega (arith, is, owes, one, on.2),
          )
          | inr over ↦ absurd (omega (arith, owes, one, over.2))
        ];
      };
      less =
          let is : sum_of (cost most) then.messages ≡ sum_of (cost most) left = ap (λ (t : SystemView). sum_of
          (cost most) t.messages) same in
          let some : 0 < cost most e = costs_some e.message in
          omega (arith, is, costs, some);
    }

  -- ---- what each message comes to

  pub comes_on : (s : SystemView) (e : Envelope) (left : List Envelope) → Follows s → Taken e s.messages left → IsSaid lives c told e
      → ComesOn s (arrived e.to e.message (without s left))
  comes_on s _ left f taken (ends is) =
      let e : Envelope = own_news lives c in
      let q : SystemView = without s left in
      let kind : IsSaid lives c told e = ends is in
      let up : is_alive_at s c.node ≡ true = awake s e left f taken kind in
      let k : Tells (IsTold lives c told most) c.node (message.Stopped c.app) q =
      tells_end (IsTold lives c told most) lives c.node c.app q up f.still.peace.same_lives (λ m other. (tells m other, refl, refl))
      (λ d has. f.still.peace.dists c.node d up has)
      (λ d has. ((f.still.knows is d has).takeovers, (f.still.knows is d has).ends)) (f.still.sees is) in
      let written : node_at (with_node c.node (record (node_at q c.node) { dist = k.next }) q) c.node
      ≡ record (node_at q c.node) { dist = k.next } =
      node_written q c.node (node_at q c.node) (record (node_at q c.node) { dist = k.next }) (there_is q c.node up) in
      let few : length k.more ≤ most = k.few most (f.few is) in
      has_acted s e left f taken kind c.node k.next k.more
      (arrives_alive e.to e.message q up (f.still.peace.same_lives c.node) ∙ k.comes) refl k.kinds (omega (arith, few))
      (λ so d has.
      let b = k.knows d (sym (ap (λ (v : LiveView). v.dist) written) ∙ has) in
      subst (λ (nodes : List Node). length nodes ≤ most) (sym b.2) (f.few is b.0 b.1))
  comes_on s _ left f taken answers =
      let e : Envelope = answer_of lives c outcome.Done in
      let q : SystemView = without s left in
      let up : is_alive_at s c.node ≡ true = awake s e left f taken answers in
      answered s e left f taken answers
      (answered_so c f.still.stage outcome.Done q f.still.calls f.still.locks refl up (f.still.peace.same_lives c.node
      ∙ sym f.still.life)) refl
  comes_on s _ left f taken (tells m other) = by (cases_Bool (is_alive_at s m))
    where
      e : Envelope
      e = news lives c m

      q : SystemView
      q = without s left

      kind : IsSaid lives c told e
      kind = tells m other

      by : (is_alive_at s m ≡ true) ⊎ (is_alive_at s m ≡ false) → ComesOn s (arrived e.to e.message q)
      by (inl up) =
          let heard : (next : Option DistView) × (_ ≡ acted m next [] q) =
          hears m c.app q up (λ d has. f.still.peace.dists m d up has) in
          has_acted s e left f taken kind m heard.0 [] (arrives_alive e.to e.message q up (f.still.peace.same_lives m) ∙ heard.1) refl
          (All-nil (IsTold lives c told most)) (omega arith)
          (λ is d has.
          f.few is d (sym (ap (λ (v : LiveView). v.dist)
          (others_same q m c.node (record (node_at q m) { dist = heard.0 }) (λ one. other (sym one)))) ∙ has))
      by (inr dead) = is_lost s e left f taken kind (arrives_dead e.to e.message q dead) refl

  come : (s t : SystemView) → Follows s → Delivers s t → ComesOn s t
  come s t f one =
      let x : Come s t = come_of s t f.still one in
      let kind : IsSaid lives c told x.message = (taken_all (IsSaid lives c told) x.message s.messages x.left x.taken f.said).0 in
      subst (ComesOn s) (sym x.is) (comes_on s x.message x.left f x.taken kind)

  -- ---- moves

  pub follow_on : (s t : SystemView) → Reaches s t → Follows s → Follows t
  follow_on _ _ (here s) f = f
  follow_on _ _ (behind_one s t u one rest) f = follow_on t u rest (come s t f one).then

  -- where no message is on its way nothing can move
  none_taken : (e : Envelope) (messages left : List Envelope) → messages ≡ [] → Taken e messages left → ⊥
  none_taken e messages left none taken = subst (λ (l : List Envelope). Taken e l left) none taken

  none_can : (s t : SystemView) → Follows s → s.messages ≡ [] → Delivers s t → ⊥
  none_can s t f none one =
      let x : Come s t = come_of s t f.still one in
      none_taken x.message s.messages x.left none x.taken

  pub nothing_next : (s : SystemView) → Follows s → s.messages ≡ [] → quiet_move s ≡ None
  nothing_next s f none =
      let quiet : IsQuiet s = (none, f.still.peace.slow) in
      ap (λ (found : Option Node). lock_or_more found s)
      (none_found (λ n. can_go_on_at n s) s.alive
      (λ n among. false_from_ne_true (can_go_on_at n s) (λ can. none_can s _ f none (move.Lock n, (quiet, among, can), refl))))
      ∙ ap (λ (waiting : List Call). call_or_end (first_call_from 0 waiting s) s) f.still.calls
      ∙ ap (λ (b : Bool). call_or_end (cond b (Some 0) None) s)
      (cannot_call c f.still.stage s f.still.waits f.still.calls 0 (at_stage c f.still.stage)
      (ap (λ (waiting : List Call). slice_get waiting 0) f.still.calls))
      ∙ ap (option_map move.End)
      (none_found (λ n. is_to_end n s) s.alive
      (λ n among. false_from_ne_true (is_to_end n s) (λ can. none_can s _ f none (move.End n, (quiet, among, can), refl))))

  -- the place that an order takes is one of these
  pub place_within : (order : Order) (count : ℕ) → 0 < count → place_in order count < count
  place_within FirstComes count some = some
  place_within LastComes count some = omega arith
  place_within (Drawn number) count some = omega (arith, some)

  -- ---- until nothing moves

  pub quiet_soon : (k : ℕ) (order : Order) (s : SystemView) → Follows s → sum_of (cost most) s.messages < k
      → is_quiet_behind k order s ≡ true
  quiet_soon zero order s f within = absurd (omega (arith, within))
  quiet_soon (suc k) order s f within = by s.messages refl (λ t. quiet_soon k (next_order order) t)
    where
      go_on : SystemView → Bool
      go_on = is_quiet_behind k (next_order order)

      by : (messages : List Envelope) → s.messages ≡ messages
          → ((t : SystemView) → Follows t → sum_of (cost most) t.messages < k → go_on t ≡ true)
          → is_quiet_by go_on (message_or_more order messages s) s ≡ true
      by [] none rest =
          ap (λ (slow : List Slow). is_quiet_by go_on (slow_or_more order slow s) s) f.still.peace.slow
          ∙ ap (λ (next : Option Move). is_quiet_by go_on next s) (nothing_next s f none)
      by (e ∷ messages) is rest =
          let place : ℕ = place_in order (length (e ∷ messages)) in
          let there : place < length s.messages =
          subst (λ (l : List Envelope). place < length l) (sym is) (place_within order (length (e ∷ messages)) (omega arith)) in
          let t : SystemView = made (move.Deliver place) s in
          let x : ComesOn s t = come s t f (move.Deliver place, there, refl) in
          let less : sum_of (cost most) t.messages < sum_of (cost most) s.messages = x.less in
          rest t x.then (omega (arith, less, within))
