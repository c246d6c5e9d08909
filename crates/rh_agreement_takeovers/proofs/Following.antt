-- What comes of a takeover behind the start, whichever message arrives first: nodes are as far as they were, one answer is owed and then
-- comes, the application stops at the node at which it ran, once, and each message uses up some of what is on its way.
use Rattle.std.proofs.Common.{◌≡◌, ◌≢◌, ◌⊎◌, ◌<◌, ◌+◌, ◌++◌, ◌==◌, ℕ, Bool, true, false, cond, List, [], ◌∷◌, length, Option, Some, None, refl, sym, ap, subst, ◌∙◌, inl, inr, arith}
use Rattle.std.specs.Prelude.{All}
use Rattle.std.proofs.lemmas.List.{length-set, append-nil}
use Rattle.std.proofs.lemmas.List.Elements.{All-append}
use Rattle.rh_model.specs.declared.node.Node.{Node}
use Rattle.rh_otp_controller.specs.declared.state.Place.TheVariants.{Here}
use Rattle.rh_otp_controller.specs.Calls.{is_here}
use Rattle.rh_otp_controller.specs.State.{ControllerView}
use Rattle.rh_otp_model.specs.declared.fault.Outcome.TheVariants as outcome
use Rattle.rh_otp_model.specs.declared.message.Message.{Message}
use Rattle.rh_otp_model.specs.declared.message.Message.TheVariants as message
use Rattle.rh_otp_model.specs.declared.output.Envelope.{Envelope}
use Rattle.rh_otp_model.specs.declared.output.Event.{Event}
use Rattle.rh_otp_model.specs.declared.output.Event.TheVariants as event
use Rattle.rh_otp_model.specs.declared.process.StartType.TheVariants.{Takeover}
use Rattle.rh_otp_model.specs.Own.{controls}
use Rattle.rh_otp_model.specs.Rows.{keyfind, has_row}
use Rattle.rh_otp_dist.specs.declared.state.Stand.TheVariants as stand
use Rattle.rh_otp_dist.specs.Attempts.{has_app}
use Rattle.rh_otp_dist.specs.State.{DistView}
use Rattle.rh_otp_node.specs.declared.node.Phase.{Phase}
use Rattle.rh_otp_node.specs.Live.{LiveView, is_down, is_ending}
use Rattle.rh_otp_system.specs.declared.calls.Call.{Call}
use Rattle.rh_otp_system.specs.declared.calls.Stage.{Stage}
use Rattle.rh_otp_system.specs.declared.calls.Stage.TheVariants as stage
use Rattle.rh_otp_system.specs.declared.cell.Cell.TheVariants as cell
use Rattle.rh_otp_system.specs.Delivering.{arrived}
use Rattle.rh_otp_system.specs.State.{SystemView, node_at, with_node, is_alive_at}
use Rattle.rh_otp_laws.proofs.Nodes.{same_of_all}
use Rattle.rh_otp_orders.proofs.Taking.{Taken}
use Rattle.rh_otp_crashes.specs.Crashes.{IsUnoccupied}
use Rattle.rh_otp_crashes.proofs.Peace.{without, taken_all}
use Rattle.rh_otp_crashes.proofs.Turning.{own_in}
use Rattle.rh_otp_stops.proofs.Answering.{at_stage}
use Rattle.rh_otp_permits.proofs.Noting.{answer_of, answered_then}
use Rattle.rh_otp_begins.proofs.Running.{news, learned}
use Rattle.rh_otp_takeovers.proofs.Telling.{IsLast, Telling, came_on}
use Rattle.rh_otp_takeovers.proofs.Telling as words
use Rattle.rh_agreement_spread.proofs.Following.{owed}
use Rattle.rh_agreement_spread.proofs.Hearing.{acted}
use Rattle.rh_agreement_spread.proofs.Summing.{sum_of, sum_behind, sum_taken}

-- ---- what is on its way

-- the caller is answered that all is well, and dist_acs are told, and then controllers
pub data IsSaid (lives : Node → ℕ) (c : Call) : Envelope → Type 0 where
  answers : IsSaid lives c (answer_of lives c outcome.Done)
  tells : (m : Node) → m.0 ≢ c.node.0 → IsSaid lives c (news lives c None m)
  moves : (m : Node) → m.0 ≢ c.node.0 → IsSaid lives c (learned lives c m)

pub is_last : {lives : Node → ℕ} {c : Call} (e : Envelope) → IsSaid lives c e → IsLast lives c None e
is_last _ answers = words.answers outcome.Done refl
is_last _ (tells m other) = words.abroad _ (words.tells m other)
is_last _ (moves m other) = words.abroad _ (words.moves m other)

-- what tells a dist_ac can lead to one message
abbrev pub cost_of : Message → ℕ
cost_of (message.AppStarted n a error) = 2
cost_of m = 1

abbrev pub cost : Envelope → ℕ
cost e = cost_of e.message

costs_some : (m : Message) → 0 < cost_of m
costs_some (message.AppStarted n a error) = omega arith
costs_some m = omega arith

-- whether it tells the dist_ac of this node, or its controller
abbrev pub tells_dist : Message → ℕ
tells_dist (message.AppStarted n a error) = 1
tells_dist m = 0

abbrev pub tells_controller : Message → ℕ
tells_controller (message.Change a what) = 1
tells_controller m = 0

abbrev pub told_at : Node → Envelope → ℕ
told_at at e = cond (e.to.node.0 == at.0) (tells_dist e.message) 0

abbrev pub learnt_at : Node → Envelope → ℕ
learnt_at at e = cond (e.to.node.0 == at.0) (tells_controller e.message) 0

-- ---- where it ran

-- At the other node the controller runs the application, which is started there and isn't on its way to its end; its dist_ac takes
-- whatever comes, controls the application and has it as started.
pub record Giver (base : SystemView) (c : Call) (at : Node) : Type 0 where
  pub other : at.0 ≢ c.node.0
  pub alive : is_alive_at base at ≡ true
  pub runs : keyfind c.app (node_at base at).controller.running ≡ Some Here
  pub started : has_row c.app (node_at base at).controller.started ≡ true
  pub stays : (node_at base at).controller.is_ending ≡ false
  pub dist : DistView
  pub has : (node_at base at).dist ≡ Some dist
  pub free : IsUnoccupied dist
  pub takes_all : dist.stand ≡ stand.Idle
  pub controlled : controls (own_in base.files at) c.app ≡ true
  pub started_too : has_app c.app dist.started ≡ true

-- ---- what an observer has seen

-- the start, and behind it the answer to the call, or the stop, or both
abbrev pub Shown : Call → Node → Bool → Bool → List Event → Type 0
Shown c at false false l = l ≡ event.Started c.app c.node (Takeover at) ∷ []
Shown c at true false l = l ≡ event.Started c.app c.node (Takeover at) ∷ event.Answered c.number ∷ []
Shown c at false true l = l ≡ event.Started c.app c.node (Takeover at) ∷ event.Stopped c.app at ∷ []
Shown c at true true l =
    (l ≡ event.Started c.app c.node (Takeover at) ∷ event.Stopped c.app at ∷ event.Answered c.number ∷ [])
    ⊎ (l ≡ event.Started c.app c.node (Takeover at) ∷ event.Answered c.number ∷ event.Stopped c.app at ∷ [])

pub shown_answer : (c : Call) (at : Node) (stopped : Bool) (l : List Event) → Shown c at false stopped l
    → Shown c at true stopped (l ++ event.Answered c.number ∷ [])
shown_answer c at false l is = ap (λ (x : List Event). x ++ event.Answered c.number ∷ []) is
shown_answer c at true l is = inl (ap (λ (x : List Event). x ++ event.Answered c.number ∷ []) is)

pub shown_stop : (c : Call) (at : Node) (answered : Bool) (l : List Event) → Shown c at answered false l
    → Shown c at answered true (l ++ event.Stopped c.app at ∷ [])
shown_stop c at false l is = ap (λ (x : List Event). x ++ event.Stopped c.app at ∷ []) is
shown_stop c at true l is = inr (ap (λ (x : List Event). x ++ event.Stopped c.app at ∷ []) is)

-- nothing more was seen
pub shown_on : (c : Call) (at : Node) (answered stopped : Bool) (l : List Event) → Shown c at answered stopped l
    → Shown c at answered stopped (l ++ [])
shown_on c at answered stopped l is = subst (Shown c at answered stopped) (sym (append-nil l)) is

-- ---- what stays as it was

module _ (lives : Node → ℕ) (c : Call) (at : Node) (base : SystemView) (alive_there : is_alive_at base c.node ≡ true)
    (g : Giver base c at) where
  -- the application doesn't run at the node
  abbrev pub RunsNot : SystemView → Node → Type 0
  RunsNot s m = is_here (keyfind c.app (node_at s m).controller.running) ≡ false

  -- it runs there still, and its controller or its dist_ac is going to be told
  pub record StopsSoon (s : SystemView) : Type 0 where
    pub there : (node_at s at).controller ≡ (node_at base at).controller
    pub soon : (0 < sum_of (learnt_at at) s.messages)
        ⊎ ((0 < sum_of (told_at at) s.messages) × ((node_at s at).dist ≡ Some g.dist))

  abbrev pub Stops : Bool → SystemView → Type 0
  Stops false s = StopsSoon s
  Stops true s = RunsNot s at

  abbrev pub stage_of : Bool → Stage
  stage_of false = stage.DistAc
  stage_of true = stage.Done outcome.Done

  pub record Follows (s : SystemView) : Type 0 where
    pub still : Telling lives c None s
    pub said : All (IsSaid lives c) s.messages
    pub cluster : s.cluster ≡ base.cluster
    pub files : s.files ≡ base.files
    pub clock : s.clock ≡ base.clock
    pub count : length s.nodes.cells ≡ length base.nodes.cells
    pub phases : (k : Node) → (node_at s k).phase ≡ (node_at base k).phase
    pub stays : is_ending (node_at s c.node) ≡ false
    pub nowhere : (m : Node) → m.0 ≢ c.node.0 → m.0 ≢ at.0 → is_alive_at s m ≡ true → RunsNot s m
    pub is_answered : Bool
    pub has_stopped : Bool
    pub shown : Shown c at is_answered has_stopped s.events
    pub calls : s.calls ≡ at_stage c (stage_of is_answered) ∷ []
    pub owes : sum_of owed s.messages ≡ cond is_answered 0 1
    pub stops : Stops has_stopped s

  -- it has come, and something was used up
  pub record ComesOn (s t : SystemView) : Type 0 where
    pub then : Follows t
    pub less : sum_of cost t.messages < sum_of cost s.messages

  not_both : (b : Bool) (k x y : ℕ) → k ≡ cond b 0 1 → k ≡ x + y → x ≡ 1 → (b ≡ false) × (y ≡ 0)
  not_both true k x y is sum one = absurd (omega (arith, is, sum, one))
  not_both false k x y is sum one = (refl, omega (arith, is, sum, one))

  module _ (s : SystemView) (e : Envelope) (left : List Envelope) (f : Follows s) (taken : Taken e s.messages left)
      (kind : IsSaid lives c e) where
    abbrev pub q : SystemView
    q = without s left

    abbrev pub then : SystemView
    then = arrived e.to e.message q

    still_then : Telling lives c None then
    still_then = came_on s e left f.still taken (is_last e kind)

    kinds : IsSaid lives c e × All (IsSaid lives c) left
    kinds = taken_all (IsSaid lives c) e s.messages left taken f.said

    costs : sum_of cost s.messages ≡ cost e + sum_of cost left
    costs = sum_taken cost e s.messages left taken

    some : 0 < cost e
    some = costs_some e.message

    owes_so : sum_of owed s.messages ≡ owed e + sum_of owed left
    owes_so = sum_taken owed e s.messages left taken

    pub awake_at : is_alive_at s at ≡ true
    awake_at = ap (λ (p : Phase). cond (is_down p) false true) (f.phases at) ∙ g.alive

    -- it leads to this
    leads : (t : SystemView) → then ≡ t → (Telling lives c None t → Follows t) → sum_of cost t.messages < sum_of cost s.messages
        → ComesOn s then
    leads t same follows less = record {
      then = subst Follows (sym same) (follows (subst (Telling lives c None) same still_then));
      less = subst (λ (x : SystemView). sum_of cost x.messages < sum_of cost s.messages) (sym same) less;
    }

    -- where the other node is as it was, and this isn't for it, it stops there as before
    pub stops_on : (b : Bool) (t : SystemView) (more : List Envelope) → told_at at e ≡ 0 → learnt_at at e ≡ 0 → t.messages ≡ left ++ more
        → (node_at t at).controller ≡ (node_at s at).controller → (node_at t at).dist ≡ (node_at s at).dist → Stops b s → Stops b t
    stops_on true t more none none_too messages controller dist stops =
        ap (λ (x : ControllerView). is_here (keyfind c.app x.running)) controller ∙ stops
    stops_on false t more none none_too messages controller dist stops = record {
      there = controller ∙ stops.there;
      soon =
          let learnt : sum_of (learnt_at at) t.messages ≡ sum_of (learnt_at at) left + sum_of (learnt_at at) more =
          ap (sum_of (learnt_at at)) messages ∙ sum_behind (learnt_at at) left more in
          let told : sum_of (told_at at) t.messages ≡ sum_of (told_at at) left + sum_of (told_at at) more =
          ap (sum_of (told_at at)) messages ∙ sum_behind (told_at at) left more in
          let was : sum_of (learnt_at at) s.messages ≡ learnt_at at e + sum_of (learnt_at at) left =
          sum_taken (learnt_at at) e s.messages left taken in
          let was_told : sum_of (told_at at) s.messages ≡ told_at at e + sum_of (told_at at) left =
          sum_taken (told_at at) e s.messages left taken in
          elim stops.soon [
            | inl is ↦ inl (omega (arith, is, learnt, was, none_too))
            | inr is ↦ inr (omega (arith, is.0, told, was_told, none), dist ∙ is.1)
          ];
    }

    -- what comes to a node that isn't alive is lost
    pub is_lost : then ≡ q → owed e ≡ 0 → told_at at e ≡ 0 → learnt_at at e ≡ 0 → ComesOn s then
    is_lost same none none_told none_learnt =
        leads q same
        (λ still. record {
          still = still;
          said = kinds.1;
          cluster = f.cluster;
          files = f.files;
          clock = f.clock;
          count = f.count;
          phases = f.phases;
          stays = f.stays;
          nowhere = f.nowhere;
          is_answered = f.is_answered;
          has_stopped = f.has_stopped;
          shown = f.shown;
          calls = f.calls;
          owes = let owes : sum_of owed s.messages ≡ cond f.is_answered 0 1 = f.owes in omega (arith, owes, owes_so, none);
          stops = stops_on f.has_stopped q [] none_told none_learnt (sym (append-nil left)) refl refl f.stops;
        })
        (omega (arith, costs, some))

    -- the call was answered, and its lock is free
    pub answered : then ≡ answered_then c outcome.Done q → owed e ≡ 1 → told_at at e ≡ 0 → learnt_at at e ≡ 0 → ComesOn s then
    answered same one none_told none_learnt =
        let not_yet = not_both f.is_answered (sum_of owed s.messages) (owed e) (sum_of owed left) f.owes owes_so one in
        let t : SystemView = answered_then c outcome.Done q in
        leads t same
        (λ still. record {
          still = still;
          said = kinds.1;
          cluster = f.cluster;
          files = f.files;
          clock = f.clock;
          count = f.count;
          phases = f.phases;
          stays = f.stays;
          nowhere = f.nowhere;
          is_answered = true;
          has_stopped = f.has_stopped;
          shown = shown_answer c at f.has_stopped s.events (subst (λ (b : Bool). Shown c at b f.has_stopped s.events) not_yet.0 f.shown);
          calls = refl;
          owes = not_yet.1;
          stops = stops_on f.has_stopped t [] none_told none_learnt (sym (append-nil left)) refl refl f.stops;
        })
        (omega (arith, costs, some))

    -- a node has done something for itself, sends so much, and shows this
    module _ (m : Node) (new : LiveView) (more : List Envelope) (seen : List Event) (phase : new.phase ≡ (node_at q m).phase)
        (none : owed e ≡ 0) (all : All (IsSaid lives c) more) (nones : sum_of owed more ≡ 0) (spent : sum_of cost more < cost e) where
      abbrev pub next : SystemView
      next = record (with_node m new q) { messages = left ++ more; events = s.events ++ seen }

      pub has_acted : then ≡ next → is_ending (node_at next c.node) ≡ false
          → ((k : Node) → k.0 ≢ c.node.0 → k.0 ≢ at.0 → RunsNot q k → RunsNot next k)
          → (b : Bool) → Shown c at f.is_answered b (s.events ++ seen) → Stops b next → ComesOn s then
      has_acted same stays not_here b shown stops =
          let phases_so : (k : Node) → (node_at next k).phase ≡ (node_at s k).phase =
          λ k. same_of_all (λ (v : LiveView). v.phase) q m k new phase in
          leads next same
          (λ still. record {
            still = still;
            said = All-append (IsSaid lives c) left more kinds.1 all;
            cluster = f.cluster;
            files = f.files;
            clock = f.clock;
            count = length-set q.nodes.cells m.0 (cell.Node new) ∙ f.count;
            phases = λ k. phases_so k ∙ f.phases k;
            stays = stays;
            nowhere = λ k other apart up.
                not_here k other apart
                (f.nowhere k other apart (sym (ap (λ (p : Phase). cond (is_down p) false true) (phases_so k)) ∙ up));
            is_answered = f.is_answered;
            has_stopped = b;
            shown = shown;
            calls = f.calls;
            owes =
                let owes : sum_of owed s.messages ≡ cond f.is_answered 0 1 = f.owes in
                let is : sum_of owed (left ++ more) ≡ sum_of owed left + sum_of owed more = sum_behind owed left more in
                omega (arith, owes, owes_so, is, none, nones);
            stops = stops;
          })
          (let is : sum_of cost (left ++ more) ≡ sum_of cost left + sum_of cost more = sum_behind cost left more in
          omega (arith, is, costs, spent))

    -- where it is a dist_ac, controllers are as they were, and nothing is seen
    module _ (m : Node) (o : Option DistView) (more : List Envelope) (none : owed e ≡ 0) (all : All (IsSaid lives c) more)
        (nones : sum_of owed more ≡ 0) (spent : sum_of cost more < cost e) where
      abbrev pub new : LiveView
      new = record (node_at q m) { dist = o }

      abbrev pub turned : SystemView
      turned = record (with_node m new q) { messages = left ++ more; events = s.events ++ [] }

      pub controllers : (k : Node) → (node_at turned k).controller ≡ (node_at s k).controller
      controllers k = same_of_all (λ (v : LiveView). v.controller) q m k new refl

      pub dist_acted : then ≡ acted m o more q → Stops f.has_stopped turned → ComesOn s then
      dist_acted same stops =
          has_acted m new more [] refl none all nones spent
          (same ∙ (λ i. record (with_node m new q) { messages = left ++ more; events = sym (append-nil s.events) i }))
          (ap (λ (x : ControllerView). x.is_ending) (controllers c.node) ∙ f.stays)
          (λ k other apart away. ap (λ (x : ControllerView). is_here (keyfind c.app x.running)) (controllers k) ∙ away)
          f.has_stopped (shown_on c at f.is_answered f.has_stopped s.events f.shown) stops
