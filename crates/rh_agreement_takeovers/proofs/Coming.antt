-- What comes of a takeover behind the start comes to an end: each message leads to what goes on, and where none is left nothing can move.
use Rattle.std.proofs.Common.{◌≡◌, ◌≢◌, ◌⊎◌, ◌<◌, ◌+◌, ◌++◌, ◌==◌, ◌&&◌, ℕ, zero, suc, Bool, true, false, cond, List, [], ◌∷◌, length, slice_get, Option, Some, None, refl, sym, ap, subst, ◌∙◌, inl, inr, arith}
use Rattle.std.specs.Option.{option_map}
use Rattle.std.specs.Prelude.{All}
use Rattle.std.proofs.lemmas.Bool.{cases_Bool, cases_eq, eq-eqb, false_from_ne_true, and_left}
use Rattle.std.proofs.lemmas.List.{append-nil}
use Rattle.std.proofs.lemmas.List.Elements.{All-nil, All-cons}
use Rattle.rh_model.specs.declared.node.App.{App}
use Rattle.rh_model.specs.declared.node.Node.{Node}
use Rattle.rh_trace.proofs.Entries.{not_same}
use Rattle.rh_otp_controller.specs.declared.state.Place.TheVariants.{At}
use Rattle.rh_otp_controller.specs.Calls.{is_here}
use Rattle.rh_otp_controller.specs.State.{ControllerView}
use Rattle.rh_otp_model.specs.declared.fault.Outcome.TheVariants as outcome
use Rattle.rh_otp_model.specs.declared.message.Message.TheVariants as message
use Rattle.rh_otp_model.specs.declared.output.Envelope.{Envelope}
use Rattle.rh_otp_model.specs.declared.output.Event.{Event}
use Rattle.rh_otp_model.specs.declared.output.Event.TheVariants as event
use Rattle.rh_otp_model.specs.Own.{controls}
use Rattle.rh_otp_model.specs.Rows.{keyfind, keydelete, has_row}
use Rattle.rh_otp_dist.specs.declared.state.Stand.TheVariants as stand
use Rattle.rh_otp_dist.specs.Attempts.{has_app}
use Rattle.rh_otp_dist.specs.State.{DistView, TurnView}
use Rattle.rh_otp_dist.specs.Told.{add_remote}
use Rattle.rh_otp_net.specs.declared.order.Order.{Order}
use Rattle.rh_otp_net.specs.Order.{place_in, next_order}
use Rattle.rh_otp_node.specs.Live.{LiveView, is_ending}
use Rattle.rh_otp_system.specs.declared.calls.Call.{Call}
use Rattle.rh_otp_system.specs.declared.moves.Move.{Move}
use Rattle.rh_otp_system.specs.declared.moves.Move.TheVariants as move
use Rattle.rh_otp_system.specs.declared.slow.Slow.{Slow}
use Rattle.rh_otp_system.specs.Delivering.{arrived}
use Rattle.rh_otp_system.specs.Moves.{Delivers, Reaches, IsQuiet, here, behind_one, can_call, can_go_on_at, is_to_end, first_call_from, call_or_end, lock_or_more, slow_or_more, message_or_more, quiet_move, made, is_quiet_by, is_quiet_behind}
use Rattle.rh_otp_system.specs.State.{SystemView, node_at, with_node, is_alive_at}
use Rattle.rh_otp_system.specs.Working.{mailed}
use Rattle.rh_otp_laws.proofs.Nodes.{node_written, others_same, same_of_all, same_number, as_it_was_or_written}
use Rattle.rh_otp_orders.proofs.Taking.{Taken}
use Rattle.rh_otp_crashes.specs.Crashes.{IsUnoccupied}
use Rattle.rh_otp_crashes.proofs.Crossing.{same_node}
use Rattle.rh_otp_crashes.proofs.Peace.{AtPeace, AtEase, at_ease, without, arrives_alive, arrives_dead, taken_all}
use Rattle.rh_otp_crashes.proofs.Starting.{heard, hears_so, moves_so, moved, moved_by, stops_at, seen_by}
use Rattle.rh_otp_crashes.proofs.Turning.{own_in, turn, weighing, idle_comes}
use Rattle.rh_otp_stops.proofs.Answering.{at_stage, cannot_call}
use Rattle.rh_otp_stops.proofs.Still.{Come, uncalled, only_come}
use Rattle.rh_otp_stops.proofs.Stopping.{there_is}
use Rattle.rh_otp_permits.proofs.Noting.{answer_of}
use Rattle.rh_otp_begins.proofs.Running.{news, learned}
use Rattle.rh_otp_takeovers.proofs.Telling.{IsLast, answer_comes}
use Rattle.rh_agreement.proofs.Resting.{none_found}
use Rattle.rh_agreement_calls.proofs.Starting.{found_first}
use Rattle.rh_agreement_spread.proofs.Following.{owed}
use Rattle.rh_agreement_spread.proofs.Following as stops
use Rattle.rh_agreement_spread.proofs.Hearing.{acted}
use Rattle.rh_agreement_spread.proofs.HearingStarts.{learned_at, hears}
use Rattle.rh_agreement_spread.proofs.Running.{seen_none, not_here_then}
use Rattle.rh_agreement_spread.proofs.Summing.{sum_of, sum_behind, sum_taken}
use Rattle.rh_agreement_takeovers.proofs.Following.{IsSaid, answers, tells, moves, Giver, Shown, shown_stop, shown_on, cost, told_at, learnt_at}
use Rattle.rh_agreement_takeovers.proofs.Following as on

-- none, either way
none : (b : Bool) → let zeros : ℕ = cond b 0 0 in zeros ≡ 0
none true = refl
none false = refl

-- ---- where it ran

-- its dist_ac hears of it and tells its controller
hears_told : (lives : Node → ℕ) (n at : Node) (a : App) (q : SystemView) (d : DistView) → (node_at q at).dist ≡ Some d
    → (node_at q at).life ≡ lives at → is_alive_at q at ≡ true → IsUnoccupied d → d.stand ≡ stand.Idle
    → controls (own_in q.files at) a ≡ true → has_app a d.started ≡ true → (m : DistView)
    × (mailed at (message.AppStarted n a None) q ≡ acted at (Some m) (learned_at lives n a at ∷ []) q)
hears_told lives n at a q d has same alive free is controlled started =
    let t : TurnView = turn q.cluster (own_in q.files at) at (lives at) d in (
      (heard a n t).state,
      idle_comes q.cluster q.files at (lives at) (message.AppStarted n a None) d (heard a n t) free is refl
          (λ w. hears_so a n (weighing w t) free.permits
          ∙ (λ i. cond (controlled i && started i) (heard a n (weighing w t)) (add_remote a n (weighing w t))))
          q (node_at q at) (there_is q at alive) has same refl refl,
    )

-- ---- what a dist_ac sends that hears of it

-- it has told its controller, or nobody
abbrev IsFew : (Node → ℕ) → Call → Node → List Envelope → Type 0
IsFew lives c m more = (more ≡ []) ⊎ (more ≡ learned lives c m ∷ [])

few_said : (lives : Node → ℕ) (c : Call) (m : Node) (more : List Envelope) → m.0 ≢ c.node.0 → IsFew lives c m more
    → All (IsSaid lives c) more × (sum_of owed more ≡ 0) × (sum_of cost more < 2)
few_said lives c m more other (inl is) = (
  subst (All (IsSaid lives c)) (sym is) (All-nil (IsSaid lives c)),
  ap (sum_of owed) is,
  subst (λ (l : List Envelope). sum_of cost l < 2) (sym is) (omega arith),
)
few_said lives c m more other (inr is) = (
  subst (All (IsSaid lives c)) (sym is) (All-cons (IsSaid lives c) (learned lives c m) [] (moves m other) (All-nil (IsSaid lives c))),
  ap (sum_of owed) is,
  subst (λ (l : List Envelope). sum_of cost l < 2) (sym is) (omega arith),
)

module _ (lives : Node → ℕ) (c : Call) (at : Node) (base : SystemView) (alive_there : is_alive_at base c.node ≡ true)
    (g : Giver base c at) where
  abbrev Follows : SystemView → Type 0
  Follows = on.Follows lives c at base alive_there g

  abbrev ComesOn : SystemView → SystemView → Type 0
  ComesOn = on.ComesOn lives c at base alive_there g

  abbrev Stops : Bool → SystemView → Type 0
  Stops = on.Stops lives c at base alive_there g

  abbrev RunsNot : SystemView → Node → Type 0
  RunsNot = on.RunsNot lives c at base alive_there g

  abbrev arrives : Envelope → List Envelope → SystemView → SystemView
  arrives e left s = arrived e.to e.message (without s left)

  -- ---- the call is answered

  answer_on : (s : SystemView) (left : List Envelope) → Follows s → Taken (answer_of lives c outcome.Done) s.messages left
      → ComesOn s (arrives (answer_of lives c outcome.Done) left s)
  answer_on s left f taken =
      let e : Envelope = answer_of lives c outcome.Done in
      on.answered lives c at base alive_there g s e left f taken answers (answer_comes outcome.Done s left f.still refl) refl
      (none (c.node.0 == at.0)) (none (c.node.0 == at.0))

  -- ---- a dist_ac is told

  module _ (s : SystemView) (m : Node) (left : List Envelope) (f : Follows s) (other : m.0 ≢ c.node.0)
      (taken : Taken (news lives c None m) s.messages left) where
    abbrev e : Envelope
    e = news lives c None m

    abbrev q : SystemView
    q = without s left

    abbrev turned : Option DistView → List Envelope → SystemView
    turned o more = record (with_node m (record (node_at q m) { dist = o }) q) { messages = left ++ more; events = s.events ++ [] }

    -- it tells its controller, or nobody
    acts : (o : Option DistView) (more : List Envelope) → IsFew lives c m more → arrives e left s ≡ acted m o more q
        → Stops f.has_stopped (turned o more) → ComesOn s (arrives e left s)
    acts o more few same stops =
        let said = few_said lives c m more other few in
        on.dist_acted lives c at base alive_there g s e left f taken (tells m other) m o more refl said.0 said.1 said.2 same stops

    controllers : (o : Option DistView) (more : List Envelope) → (node_at (turned o more) at).controller ≡ (node_at s at).controller
    controllers o more = same_of_all (λ (v : LiveView). v.controller) q m at (record (node_at q m) { dist = o }) refl

    -- at another node than that at which the application ran
    told_elsewhere : m.0 ≢ at.0 → ComesOn s (arrives e left s)
    told_elsewhere apart = by (cases_Bool (is_alive_at s m))
      where
        none_told : told_at at e ≡ 0
        none_told = ap (λ (b : Bool). cond b 1 0) (not_same m.0 at.0 apart)

        by : (is_alive_at s m ≡ true) ⊎ (is_alive_at s m ≡ false) → ComesOn s (arrives e left s)
        by (inl up) =
            let h = hears lives c.node m c.app q (f.still.still.waits.same_lives m) up (λ d has. f.still.still.waits.dists m d up has) in
            acts h.0 h.1 h.2 (arrives_alive e.to e.message q up (f.still.still.waits.same_lives m) ∙ h.3)
            (on.stops_on lives c at base alive_there g s e left f taken (tells m other) f.has_stopped (turned h.0 h.1) h.1 none_told
            (none (m.0 == at.0)) refl (controllers h.0 h.1)
            (ap (λ (v : LiveView). v.dist) (others_same q m at (record (node_at q m) { dist = h.0 }) (λ one. apart (sym one)))) f.stops)
        by (inr dead) =
            on.is_lost lives c at base alive_there g s e left f taken (tells m other) (arrives_dead e.to e.message q dead) refl none_told
            (none (m.0 == at.0))

  -- at that node
  told_there : (s : SystemView) (left : List Envelope) → Follows s → Taken (news lives c None at) s.messages left
      → ComesOn s (arrives (news lives c None at) left s)
  told_there s left f taken = by f.has_stopped refl f.stops
    where
      e : Envelope
      e = news lives c None at

      q : SystemView
      q = without s left

      up : is_alive_at s at ≡ true
      up = on.awake_at lives c at base alive_there g s e left f taken (tells at g.other)

      mails : arrives e left s ≡ mailed at e.message q
      mails = arrives_alive e.to e.message q up (f.still.still.waits.same_lives at)

      h : (o : Option DistView) × (more : List Envelope) × IsFew lives c at more × (mailed at e.message q ≡ acted at o more q)
      h = hears lives c.node at c.app q (f.still.still.waits.same_lives at) up (λ d has. f.still.still.waits.dists at d up has)

      was : sum_of (learnt_at at) s.messages ≡ learnt_at at e + sum_of (learnt_at at) left
      was = sum_taken (learnt_at at) e s.messages left taken

      not_learnt : learnt_at at e ≡ 0
      not_learnt = none (at.0 == at.0)

      learns_one : learnt_at at (learned lives c at) ≡ 1
      learns_one = ap (λ (b : Bool). cond b 1 0) (eq-eqb at.0 at.0 refl)

      by : (b : Bool) → f.has_stopped ≡ b → Stops b s → ComesOn s (arrives e left s)
      by true is stops =
          acts s at left f g.other taken h.0 h.1 h.2 (mails ∙ h.3)
          (subst (λ (b : Bool). Stops b (turned s at left f g.other taken h.0 h.1)) (sym is)
          (ap (λ (x : ControllerView). is_here (keyfind c.app x.running)) (controllers s at left f g.other taken h.0 h.1) ∙ stops))
      by false is stops = elim stops.soon [
        | inl learnt ↦ acts s at left f g.other taken h.0 h.1 h.2 (mails ∙ h.3)
            (subst (λ (b : Bool). Stops b (turned s at left f g.other taken h.0 h.1)) (sym is) (record {
              there = controllers s at left f g.other taken h.0 h.1 ∙ stops.there;
              soon = inl
                  (let sum : sum_of (learnt_at at) (left ++ h.1) ≡ sum_of (learnt_at at) left + sum_of (learnt_at at) h.1 =
                  sum_behind (learnt_at at) left h.1 in
                  omega (arith, learnt, sum, was, not_learnt));
            }))
        | inr told ↦
            let k = hears_told lives c.node at c.app q g.dist told.1 (f.still.still.waits.same_lives at) up g.free g.takes_all
            (ap (λ files. controls (own_in files at) c.app) f.files ∙ g.controlled) g.started_too in
            let more : List Envelope = learned lives c at ∷ [] in
            acts s at left f g.other taken (Some k.0) more (inr refl) (mails ∙ k.1)
            (subst (λ (b : Bool). Stops b (turned s at left f g.other taken (Some k.0) more)) (sym is) (record {
              there = controllers s at left f g.other taken (Some k.0) more ∙ stops.there;
              soon = inl
                  (let sum : sum_of (learnt_at at) (left ++ more) ≡ sum_of (learnt_at at) left + sum_of (learnt_at at) more =
                  sum_behind (learnt_at at) left more in
                  omega (arith, sum, learns_one));
            }))
      ]

  -- ---- a controller is told

  -- one of a node at which the application didn't run
  learnt_elsewhere : (s : SystemView) (m : Node) (left : List Envelope) → Follows s → m.0 ≢ c.node.0 → m.0 ≢ at.0
      → Taken (learned lives c m) s.messages left → ComesOn s (arrives (learned lives c m) left s)
  learnt_elsewhere s m left f other apart taken = by (cases_Bool (is_alive_at s m))
    where
      e : Envelope
      e = learned lives c m

      q : SystemView
      q = without s left

      x : ControllerView
      x = (node_at q m).controller

      new : LiveView
      new = record (node_at q m) { controller = moved_by c.app c.node x }

      none_learnt : learnt_at at e ≡ 0
      none_learnt = ap (λ (b : Bool). cond b 1 0) (not_same m.0 at.0 apart)

      next : SystemView
      next = record (with_node m new q) { messages = left ++ []; events = s.events ++ [] }

      at_as_it_was : node_at next at ≡ node_at s at
      at_as_it_was = others_same q m at new (λ one. apart (sym one))

      no_news : (k : Node) → RunsNot q k → RunsNot next k
      no_news k away = elim (as_it_was_or_written q m k new) [
        | inl was ↦ ap (λ (v : LiveView). is_here (keyfind c.app v.controller.running)) was ∙ away
        | inr is ↦ ap (λ (v : LiveView). is_here (keyfind c.app v.controller.running)) is.1
            ∙ not_here_then c.app c.node x
            (ap (λ (v : LiveView). is_here (keyfind c.app v.controller.running)) (same_number q m k (sym is.0)) ∙ away)
      ]

      by : (is_alive_at s m ≡ true) ⊎ (is_alive_at s m ≡ false) → ComesOn s (arrives e left s)
      by (inl up) =
          on.has_acted lives c at base alive_there g s e left f taken (moves m other) m new [] [] refl refl (All-nil (IsSaid lives c)) refl
          (omega arith)
          (arrives_alive e.to e.message q up (f.still.still.waits.same_lives m)
          ∙ moves_so m c.app c.node q (node_at q m) (there_is q m up)
          ∙ (λ i. record (with_node m new q) {
            messages = sym (append-nil left) i;
            events = s.events ++ seen_none m c.app x (f.nowhere m other apart up) i;
          }))
          (ap is_ending (others_same q m c.node new (λ one. other (sym one))) ∙ f.stays)
          (λ k different far away. no_news k away)
          f.has_stopped (shown_on c at f.is_answered f.has_stopped s.events f.shown)
          (on.stops_on lives c at base alive_there g s e left f taken (moves m other) f.has_stopped next [] (none (m.0 == at.0)) none_learnt
          refl (ap (λ (v : LiveView). v.controller) at_as_it_was) (ap (λ (v : LiveView). v.dist) at_as_it_was) f.stops)
      by (inr dead) =
          on.is_lost lives c at base alive_there g s e left f taken (moves m other) (arrives_dead e.to e.message q dead) refl
          (none (m.0 == at.0)) none_learnt

  -- that of the node at which it ran: there it stops, if it hasn't
  learnt_there : (s : SystemView) (left : List Envelope) → Follows s → Taken (learned lives c at) s.messages left
      → ComesOn s (arrives (learned lives c at) left s)
  learnt_there s left f taken = by f.has_stopped refl f.stops
    where
      e : Envelope
      e = learned lives c at

      q : SystemView
      q = without s left

      x : ControllerView
      x = (node_at q at).controller

      new : LiveView
      new = record (node_at q at) { controller = moved_by c.app c.node x }

      up : is_alive_at s at ≡ true
      up = on.awake_at lives c at base alive_there g s e left f taken (moves at g.other)

      comes : arrives e left s ≡ record (with_node at new q) { messages = left ++ []; events = s.events ++ seen_by at c.app x }
      comes =
          arrives_alive e.to e.message q up (f.still.still.waits.same_lives at)
          ∙ moves_so at c.app c.node q (node_at q at) (there_is q at up)
          ∙ (λ i. record (with_node at new q) { messages = sym (append-nil left) i; events = s.events ++ seen_by at c.app x })

      written : node_at (with_node at new q) at ≡ new
      written = node_written q at (node_at q at) new (there_is q at up)

      -- it shows so much
      stops_now : (seen : List Event) → seen_by at c.app x ≡ seen → is_here (keyfind c.app (moved_by c.app c.node x).running) ≡ false
          → Shown c at f.is_answered true (s.events ++ seen) → ComesOn s (arrives e left s)
      stops_now seen is gone shown =
          on.has_acted lives c at base alive_there g s e left f taken (moves at g.other) at new [] seen refl refl (All-nil (IsSaid lives c))
          refl (omega arith)
          (comes ∙ (λ i. record (with_node at new q) { messages = left ++ []; events = s.events ++ is i }))
          (ap is_ending (others_same q at c.node new (λ one. g.other (sym one))) ∙ f.stays)
          (λ k different far away.
          ap (λ (v : LiveView). is_here (keyfind c.app v.controller.running)) (others_same q at k new far) ∙ away)
          true shown (ap (λ (v : LiveView). is_here (keyfind c.app v.controller.running)) written ∙ gone)

      by : (b : Bool) → f.has_stopped ≡ b → Stops b s → ComesOn s (arrives e left s)
      by true is away =
          stops_now [] (seen_none at c.app x away) (not_here_then c.app c.node x away)
          (shown_on c at f.is_answered true s.events (subst (λ (b : Bool). Shown c at f.is_answered b s.events) is f.shown))
      by false is stops =
          stops_now (event.Stopped c.app at ∷ [])
          (ap (seen_by at c.app) stops.there
          ∙ ap (λ (b : Bool). cond b [] (stops_at at c.app (keyfind c.app giver.running) (has_row c.app giver.started))) g.stays
          ∙ (λ i. stops_at at c.app (g.runs i) (g.started i)))
          (ap (λ (y : ControllerView). is_here (keyfind c.app (moved_by c.app c.node y).running)) stops.there
          ∙ ap (λ (b : Bool). is_here (keyfind c.app (cond b giver (moved c.app c.node giver)).running)) g.stays
          ∙ ap is_here (found_first c.app (At c.node) (keydelete c.app giver.running)))
          (shown_stop c at f.is_answered s.events (subst (λ (b : Bool). Shown c at f.is_answered b s.events) is f.shown))
        where
          giver : ControllerView
          giver = (node_at base at).controller

  -- ---- whichever message comes

  comes_on : (s : SystemView) (e : Envelope) (left : List Envelope) → Follows s → Taken e s.messages left → IsSaid lives c e
      → ComesOn s (arrives e left s)
  comes_on s _ left f taken answers = answer_on s left f taken
  comes_on s _ left f taken (tells m other) = elim (cases_eq m.0 at.0) [
    | inl same ↦ subst (λ (k : Node). Taken (news lives c None k) s.messages left → ComesOn s (arrives (news lives c None k) left s))
        (sym (same_node m at same)) (told_there s left f) taken
    | inr apart ↦ told_elsewhere s m left f other taken apart
  ]
  comes_on s _ left f taken (moves m other) = elim (cases_eq m.0 at.0) [
    | inl same ↦ subst (λ (k : Node). Taken (learned lives c k) s.messages left → ComesOn s (arrives (learned lives c k) left s))
        (sym (same_node m at same)) (learnt_there s left f) taken
    | inr apart ↦ learnt_elsewhere s m left f other apart taken
  ]

  -- ---- moves

  pub ends_not : (s : SystemView) → Follows s → (n : Node) → is_alive_at s n ≡ true → is_to_end n s ≡ false
  ends_not s f n up = elim (cases_eq n.0 c.node.0) [
    | inl same ↦ and_left (is_ending (node_at s n)) _ (ap is_ending (same_number s n c.node same) ∙ f.stays)
    | inr other ↦ f.still.still.waits.ends n up (λ may. other)
  ]

  at_peace : (s : SystemView) → Follows s → AtPeace AtEase (IsLast lives c None) lives (uncalled s)
  at_peace s f = record {
    messages = f.still.kinds;
    slow = f.still.still.waits.slow;
    calls = refl;
    calm = at_ease;
    dists = f.still.still.waits.dists;
    ends = ends_not s f;
    listed = f.still.still.waits.listed;
    same_lives = f.still.still.waits.same_lives;
  }

  cannot : (s : SystemView) (f : Follows s) (place : ℕ) (call : Call) → slice_get s.calls place ≡ Some call → can_call call s ≡ false
  cannot s f = cannot_call c f.still.still.waits.stage s f.still.still.waits.waits f.still.still.waits.calls

  come_of : (s t : SystemView) → Follows s → Delivers s t → Come s t
  come_of s t f one = only_come s t (at_peace s f) (cannot s f) one

  come : (s t : SystemView) → Follows s → Delivers s t → ComesOn s t
  come s t f one =
      let x : Come s t = come_of s t f one in
      let kind : IsSaid lives c x.message = (taken_all (IsSaid lives c) x.message s.messages x.left x.taken f.said).0 in
      subst (ComesOn s) (sym x.is) (comes_on s x.message x.left f x.taken kind)

  pub follow_on : (s t : SystemView) → Reaches s t → Follows s → Follows t
  follow_on _ _ (here s) f = f
  follow_on _ _ (behind_one s t u one rest) f = follow_on t u rest (come s t f one).then

  -- where no message is on its way nothing can move
  none_taken : (e : Envelope) (messages left : List Envelope) → messages ≡ [] → Taken e messages left → ⊥
  none_taken e messages left nothing taken = subst (λ (l : List Envelope). Taken e l left) nothing taken

  none_can : (s t : SystemView) → Follows s → s.messages ≡ [] → Delivers s t → ⊥
  none_can s t f nothing one =
      let x : Come s t = come_of s t f one in
      none_taken x.message s.messages x.left nothing x.taken

  nothing_next : (s : SystemView) → Follows s → s.messages ≡ [] → quiet_move s ≡ None
  nothing_next s f nothing =
      let quiet : IsQuiet s = (nothing, f.still.still.waits.slow) in
      let calls : s.calls ≡ at_stage c f.still.still.waits.stage ∷ [] = f.still.still.waits.calls in
      ap (λ (found : Option Node). lock_or_more found s)
      (none_found (λ n. can_go_on_at n s) s.alive
      (λ n among. false_from_ne_true (can_go_on_at n s) (λ can. none_can s _ f nothing (move.Lock n, (quiet, among, can), refl))))
      ∙ ap (λ (waiting : List Call). call_or_end (first_call_from 0 waiting s) s) calls
      ∙ ap (λ (b : Bool). call_or_end (cond b (Some 0) None) s)
      (cannot s f 0 (at_stage c f.still.still.waits.stage) (ap (λ (waiting : List Call). slice_get waiting 0) calls))
      ∙ ap (option_map move.End)
      (none_found (λ n. is_to_end n s) s.alive
      (λ n among. false_from_ne_true (is_to_end n s) (λ can. none_can s _ f nothing (move.End n, (quiet, among, can), refl))))

  -- ---- until nothing moves

  pub quiet_soon : (k : ℕ) (order : Order) (s : SystemView) → Follows s → sum_of cost s.messages < k → is_quiet_behind k order s ≡ true
  quiet_soon zero order s f within = absurd (omega (arith, within))
  quiet_soon (suc k) order s f within = by s.messages refl (λ t. quiet_soon k (next_order order) t)
    where
      go_on : SystemView → Bool
      go_on = is_quiet_behind k (next_order order)

      by : (messages : List Envelope) → s.messages ≡ messages
          → ((t : SystemView) → Follows t → sum_of cost t.messages < k → go_on t ≡ true)
          → is_quiet_by go_on (message_or_more order messages s) s ≡ true
      by [] nothing rest =
          ap (λ (slow : List Slow). is_quiet_by go_on (slow_or_more order slow s) s) f.still.still.waits.slow
          ∙ ap (λ (next : Option Move). is_quiet_by go_on next s) (nothing_next s f nothing)
      by (e ∷ messages) is rest =
          let place : ℕ = place_in order (length (e ∷ messages)) in
          let there : place < length s.messages =
          subst (λ (l : List Envelope). place < length l) (sym is)
          (stops.place_within lives c true 0 base [] alive_there order (length (e ∷ messages)) (omega arith)) in
          let t : SystemView = made (move.Deliver place) s in
          let x : ComesOn s t = come s t f (move.Deliver place, there, refl) in
          let less : sum_of cost t.messages < sum_of cost s.messages = x.less in
          rest t x.then (omega (arith, less, within))
