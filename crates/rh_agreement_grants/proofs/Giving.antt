-- Behind a permit by which an application is called back: nodes are as far as they were, it runs at no third node, one answer is owed, and
-- the node at which it ran gives it up. What others do leaves this so.
use Rattle.std.proofs.Common.{◌≡◌, ◌≢◌, ◌⊎◌, ◌<◌, ◌+◌, ◌++◌, ℕ, Bool, true, false, cond, List, [], ◌∷◌, length, None, Some, refl, sym, ap, subst, ◌∙◌, inl, inr, arith}
use Rattle.std.specs.Prelude.{All}
use Rattle.std.proofs.lemmas.Bool.{false≢true}
use Rattle.std.proofs.lemmas.List.{append-nil}
use Rattle.std.proofs.lemmas.List.Elements.{All-append}
use Rattle.rh_model.specs.declared.node.App.{App}
use Rattle.rh_model.specs.declared.node.Node.{Node}
use Rattle.rh_otp_controller.specs.Calls.{is_here}
use Rattle.rh_otp_controller.specs.State.{ControllerView}
use Rattle.rh_otp_model.specs.declared.fault.Outcome.TheVariants as outcome
use Rattle.rh_otp_model.specs.declared.message.Change.TheVariants as change_of
use Rattle.rh_otp_model.specs.declared.output.Envelope.{Envelope}
use Rattle.rh_otp_model.specs.declared.output.Event.{Event}
use Rattle.rh_otp_model.specs.declared.output.Event.TheVariants as event
use Rattle.rh_otp_model.specs.declared.process.StartType.TheVariants.{Takeover}
use Rattle.rh_otp_model.specs.Rows.{keyfind}
use Rattle.rh_otp_dist.specs.declared.state.Stand.TheVariants as stand
use Rattle.rh_otp_dist.specs.Attempts.{has_app}
use Rattle.rh_otp_dist.specs.State.{DistView, is_among}
use Rattle.rh_otp_node.specs.declared.node.Phase.{Phase}
use Rattle.rh_otp_node.specs.Live.{LiveView, is_alive, is_down, is_ending}
use Rattle.rh_otp_system.specs.declared.calls.Call.{Call}
use Rattle.rh_otp_system.specs.declared.calls.Stage.TheVariants as stage
use Rattle.rh_otp_system.specs.Delivering.{arrived}
use Rattle.rh_otp_system.specs.State.{SystemView, node_at, with_node, is_alive_at}
use Rattle.rh_otp_laws.proofs.Nodes.{others_same, same_number, same_of_all, as_it_was_or_written}
use Rattle.rh_otp_orders.proofs.Taking.{Taken}
use Rattle.rh_otp_crashes.specs.Crashes.{IsUnoccupied}
use Rattle.rh_otp_crashes.proofs.Peace.{without, taken_all}
use Rattle.rh_otp_stops.proofs.Answering.{at_stage}
use Rattle.rh_otp_permits.proofs.Noting.{answer_of}
use Rattle.rh_agreement_calls.proofs.Moving.{done}
use Rattle.rh_agreement_spread.proofs.Summing.{sum_of, sum_behind, sum_taken}
use Rattle.rh_agreement_takeovers.proofs.Following.{Giver, Shown, shown_stop, shown_on, told_at, learnt_at}
use Rattle.rh_agreement_permits.proofs.Coming.{ComesOn, Keeps, still_alive, keeps_with, keeps_on}
use Rattle.rh_agreement_grants.proofs.Words.{Link, is_late, begins, reports, runs, answers, Starts}
use Rattle.rh_agreement_grants.proofs.Words as words

module _ {lives : Node → ℕ} {c : Call} {base : SystemView} {v : LiveView} {d : DistView} {at : Node}
    (starts : Starts lives c base v d (change_of.Takeover at None) (Takeover at)) (g : Giver base c at)
    (knows : is_among at d.known ≡ true) where
  abbrev n : Node
  n = c.node

  abbrev a : App
  a = c.app

  abbrev pub IsSaid : Link → Envelope → Type 0
  IsSaid = words.IsSaid starts

  abbrev pub owed : Envelope → ℕ
  owed = words.owed

  abbrev pub cost : Envelope → ℕ
  cost = words.cost (length d.known)

  abbrev start_it : Envelope
  start_it = words.start_it starts

  abbrev it_reports : Envelope
  it_reports = words.it_reports starts

  abbrev it_runs : Envelope
  it_runs = words.it_runs starts

  abbrev answer : Envelope
  answer = answer_of lives c outcome.Done

  abbrev seen_node : LiveView
  seen_node = words.seen_node starts

  abbrev pub kept : ControllerView
  kept = words.kept starts

  abbrev ready : LiveView
  ready = words.ready starts

  -- ---- how the node stands

  abbrev pub Waiting : SystemView → Type 0
  Waiting s = s.calls ≡ at_stage c stage.DistAc ∷ []

  abbrev pub start_seen : List Event
  start_seen = event.Started a n (Takeover at) ∷ []

  -- the one that is owed is on its way, or has come; and it has stopped where it ran, or not
  abbrev pub Stands : Link → Bool → SystemView → Type 0
  Stands begins b s = (b ≡ false) × Waiting s × (s.events ≡ []) × (sum_of owed s.messages ≡ 1) × (node_at s n ≡ v)
  Stands reports b s = (b ≡ false) × Waiting s × (s.events ≡ start_seen) × (sum_of owed s.messages ≡ 1) × (node_at s n ≡ seen_node)
  Stands runs b s = (b ≡ false) × Waiting s × (s.events ≡ start_seen) × (sum_of owed s.messages ≡ 1) × (node_at s n ≡ ready)
  Stands answers b s =
      (Waiting s × Shown c at false b s.events × (sum_of owed s.messages ≡ 1))
      ⊎ ((s.calls ≡ done c ∷ []) × Shown c at true b s.events × (sum_of owed s.messages ≡ 0))

  abbrev pub RunsNot : SystemView → Node → Type 0
  RunsNot s m = is_here (keyfind a (node_at s m).controller.running) ≡ false

  -- the node at which it ran runs it still, and gives it up where it is told
  pub record Gives (s : SystemView) : Type 0 where
    pub there : (node_at s at).controller ≡ (node_at base at).controller
    pub dist : DistView
    pub has : (node_at s at).dist ≡ Some dist
    pub takes_all : dist.stand ≡ stand.Idle
    pub started : has_app a dist.started ≡ true

  -- where it runs at the node, that one's controller or its dist_ac is going to be told
  abbrev pub Soon : Link → List Envelope → Type 0
  Soon answers l = (0 < sum_of (learnt_at at) l) ⊎ (0 < sum_of (told_at at) l)
  Soon link l = Unit {0}

  abbrev pub Stops : Bool → Link → SystemView → Type 0
  Stops false link s = Gives s × Soon link s.messages
  Stops true link s = RunsNot s at

  pub record Follows (s : SystemView) : Type 0 where
    pub keeps : Keeps lives c base s
    pub nowhere : (m : Node) → m.0 ≢ n.0 → m.0 ≢ at.0 → is_alive_at s m ≡ true → RunsNot s m
    pub link : Link
    pub said : All (IsSaid link) s.messages
    pub stopped : Bool
    pub stands : Stands link stopped s
    pub stops : Stops stopped link s

  abbrev pub ComesOnHere : SystemView → SystemView → Type 0
  ComesOnHere s t = ComesOn Follows cost s t

  module _ (s : SystemView) (e : Envelope) (left : List Envelope) (f : Follows s) (taken : Taken e s.messages left) where
    abbrev q : SystemView
    q = without s left

    abbrev then : SystemView
    then = arrived e.to e.message q

    pub quietly : Keeps lives c base q
    quietly = keeps_with lives c base s left f.keeps

    pub kinds : IsSaid f.link e × All (IsSaid f.link) left
    kinds = taken_all (IsSaid f.link) e s.messages left taken f.said

    pub costs : sum_of cost s.messages ≡ cost e + sum_of cost left
    costs = sum_taken cost e s.messages left taken

    pub owes : sum_of owed s.messages ≡ owed e + sum_of owed left
    owes = sum_taken owed e s.messages left taken

    pub awake : is_alive_at s n ≡ true
    awake = still_alive lives c base s n f.keeps ∙ starts.alive

    -- ---- what comes to another node

    -- nothing was seen, or the stop where it ran
    abbrev pub Shows : Bool → List Event → Type 0
    Shows b seen = ((seen ≡ []) × (f.stopped ≡ b))
        ⊎ ((seen ≡ event.Stopped a at ∷ []) × (f.stopped ≡ false) × (b ≡ true) × (is_late f.link ≡ true))

    shown_then : (answered b : Bool) (seen : List Event) → Shows b seen → Shown c at answered f.stopped s.events
        → Shown c at answered b (s.events ++ seen)
    shown_then answered b seen (inl is) shown =
        subst (λ (l : List Event). Shown c at answered b (s.events ++ l)) (sym is.0)
        (shown_on c at answered b s.events (subst (λ (x : Bool). Shown c at answered x s.events) is.1 shown))
    shown_then answered b seen (inr is) shown =
        subst (λ (l : List Event). Shown c at answered b (s.events ++ l)) (sym is.0)
        (subst (λ (x : Bool). Shown c at answered x (s.events ++ event.Stopped a at ∷ [])) (sym is.2)
        (shown_stop c at answered s.events (subst (λ (x : Bool). Shown c at answered x s.events) is.1 shown)))

    stands_on : (t : SystemView) (more : List Envelope) (b : Bool) (seen : List Event) → owed e ≡ 0 → sum_of owed more ≡ 0
        → t.calls ≡ s.calls → t.events ≡ s.events ++ seen → t.messages ≡ left ++ more → node_at t n ≡ node_at s n → Shows b seen
        → Stands f.link b t
    stands_on t more b seen none none_too calls events messages node shows = by f.link refl f.stands
      where
        is : sum_of owed t.messages ≡ sum_of owed left + sum_of owed more
        is = ap (sum_of owed) messages ∙ sum_behind owed left more

        early : (k : Link) → f.link ≡ k → is_late k ≡ false → f.stopped ≡ false → (b ≡ false) × (t.events ≡ s.events)
        early k at_link not_late going = elim shows [
          | inl quiet ↦ (sym quiet.1 ∙ going, events ∙ ap (λ (l : List Event). s.events ++ l) quiet.0 ∙ append-nil s.events)
          | inr stop ↦ absurd (false≢true (sym not_late ∙ sym (ap is_late at_link) ∙ stop.3))
        ]

        by : (k : Link) → f.link ≡ k → Stands k f.stopped s → Stands k b t
        by begins at_link on =
            let x = early begins at_link refl on.0 in
            (x.0, calls ∙ on.1, x.1 ∙ on.2, omega (arith, is, owes, none, none_too, on.3), node ∙ on.4)
        by reports at_link on =
            let x = early reports at_link refl on.0 in
            (x.0, calls ∙ on.1, x.1 ∙ on.2, omega (arith, is, owes, none, none_too, on.3), node ∙ on.4)
        by runs at_link on =
            let x = early runs at_link refl on.0 in
            (x.0, calls ∙ on.1, x.1 ∙ on.2, omega (arith, is, owes, none, none_too, on.3), node ∙ on.4)
        by answers at_link (inl on) = inl (
          calls ∙ on.0,
          subst (Shown c at false b) (sym events) (shown_then false b seen shows on.1),
          omega (arith, is, owes, none, none_too, on.2),
        )
        by answers at_link (inr on) = inr (
          calls ∙ on.0,
          subst (Shown c at true b) (sym events) (shown_then true b seen shows on.1),
          omega (arith, is, owes, none, none_too, on.2),
        )

    -- where this isn't for that node, it is going to be told as before
    pub soon_on : (link : Link) (more : List Envelope) → told_at at e ≡ 0 → learnt_at at e ≡ 0 → Soon link s.messages
        → Soon link (left ++ more)
    soon_on begins more none none_too soon = tt
    soon_on reports more none none_too soon = tt
    soon_on runs more none none_too soon = tt
    soon_on answers more none none_too soon =
        let learnt : sum_of (learnt_at at) (left ++ more) ≡ sum_of (learnt_at at) left + sum_of (learnt_at at) more =
        sum_behind (learnt_at at) left more in
        let told_too : sum_of (told_at at) (left ++ more) ≡ sum_of (told_at at) left + sum_of (told_at at) more =
        sum_behind (told_at at) left more in
        let was : sum_of (learnt_at at) s.messages ≡ learnt_at at e + sum_of (learnt_at at) left =
        sum_taken (learnt_at at) e s.messages left taken in
        let was_told : sum_of (told_at at) s.messages ≡ told_at at e + sum_of (told_at at) left =
        sum_taken (told_at at) e s.messages left taken in
        elim soon [
          | inl is ↦ inl (omega (arith, is, learnt, was, none_too))
          | inr is ↦ inr (omega (arith, is, told_too, was_told, none))
        ]

    -- and where it is as it was, it gives the application up as before
    pub stops_on : (b : Bool) (link : Link) (t : SystemView) (more : List Envelope) → node_at t at ≡ node_at s at
        → t.messages ≡ left ++ more → told_at at e ≡ 0 → learnt_at at e ≡ 0 → Stops b link s → Stops b link t
    stops_on true link t more was messages none none_too away = ap (λ (w : LiveView). is_here (keyfind a w.controller.running)) was ∙ away
    stops_on false link t more was messages none none_too on = (
      record {
        there = ap (λ (w : LiveView). w.controller) was ∙ on.0.there;
        dist = on.0.dist;
        has = ap (λ (w : LiveView). w.dist) was ∙ on.0.has;
        takes_all = on.0.takes_all;
        started = on.0.started;
      },
      subst (Soon link) (sym messages) (soon_on link more none none_too on.1),
    )

    -- what is lost
    pub lost : then ≡ q → owed e ≡ 0 → 0 < cost e → told_at at e ≡ 0 → learnt_at at e ≡ 0 → ComesOnHere s then
    lost is none some none_told none_learnt =
        subst (ComesOnHere s) (sym is) (record {
          then = record {
            keeps = quietly;
            nowhere = f.nowhere;
            link = f.link;
            said = kinds.1;
            stopped = f.stopped;
            stands = stands_on q [] f.stopped [] none refl refl (sym (append-nil s.events)) (sym (append-nil left)) refl (inl (refl, refl));
            stops = stops_on f.stopped f.link q [] refl (sym (append-nil left)) none_told none_learnt f.stops;
          };
          less = omega (arith, costs, some);
        })

    -- another node has done something for itself, sends so much, and shows this
    module _ (m : Node) (other : m.0 ≢ n.0) (new : LiveView) (more : List Envelope) (seen : List Event)
        (is : then ≡ record (with_node m new q) { messages = left ++ more; events = s.events ++ seen })
        (phase : new.phase ≡ (node_at q m).phase) (life : new.life ≡ (node_at q m).life) (ending : is_ending new ≡ is_ending (node_at q m))
        (stopped : new.is_stopped ≡ (node_at q m).is_stopped) (rest : (x : DistView) → new.dist ≡ Some x → IsUnoccupied x)
        (none : owed e ≡ 0) (all : All (IsSaid f.link) more) (nones : sum_of owed more ≡ 0) (spent : sum_of cost more < cost e)
        (not_here : m.0 ≢ at.0 → RunsNot q m → is_here (keyfind a new.controller.running) ≡ false) where
      abbrev pub there_now : SystemView
      there_now = record (with_node m new q) { messages = left ++ more; events = s.events ++ seen }

      same_alive : (k : Node) → is_alive_at there_now k ≡ is_alive_at q k
      same_alive k = same_of_all is_alive q m k new (ap (λ (p : Phase). cond (is_down p) false true) phase)

      nowhere_then : (k : Node) → k.0 ≢ n.0 → k.0 ≢ at.0 → is_alive_at there_now k ≡ true → RunsNot there_now k
      nowhere_then k apart far up = elim (as_it_was_or_written q m k new) [
        | inl was ↦ ap (λ (w : LiveView). is_here (keyfind a w.controller.running)) was ∙ f.nowhere k apart far (sym (same_alive k) ∙ up)
        | inr (here, so) ↦ ap (λ (w : LiveView). is_here (keyfind a w.controller.running)) so
            ∙ not_here (λ one. far (here ∙ one))
            (ap (λ (w : LiveView). is_here (keyfind a w.controller.running)) (same_number q m k (sym here))
            ∙ f.nowhere k apart far (sym (same_alive k) ∙ up))
      ]

      pub has_acted : (b : Bool) → Shows b seen → Stops b f.link there_now → ComesOnHere s then
      has_acted b shows stops = subst (ComesOnHere s) (sym is) (record {
        then = record {
          keeps = keeps_on lives c base q m new (left ++ more) (s.events ++ seen) quietly
              (record { phase = phase; life = life; ending = ending; stopped = stopped; rest = rest });
          nowhere = nowhere_then;
          link = f.link;
          said = All-append (IsSaid f.link) left more kinds.1 all;
          stopped = b;
          stands = stands_on there_now more b seen none nones refl refl refl (others_same q m n new (λ one. other (sym one))) shows;
          stops = stops;
        };
        less =
            let sum : sum_of cost there_now.messages ≡ sum_of cost left + sum_of cost more = sum_behind cost left more in
            omega (arith, costs, sum, spent);
      })

      -- where it is a third one
      pub far_acted : m.0 ≢ at.0 → seen ≡ [] → told_at at e ≡ 0 → learnt_at at e ≡ 0 → ComesOnHere s then
      far_acted far quiet none_told none_learnt =
          has_acted f.stopped (inl (quiet, refl))
          (stops_on f.stopped f.link there_now more (others_same q m at new (λ one. far (sym one))) refl none_told none_learnt f.stops)
