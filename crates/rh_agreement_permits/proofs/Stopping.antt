-- Behind a forbid by which the application stops, whichever message arrives first: its controller stops it and reports that to dist_ac,
-- which tells the others and answers the caller; each other dist_ac notes what it is told, and sends nothing.
use Rattle.std.proofs.Common.{◌≡◌, ◌≢◌, ◌⊎◌, ◌<◌, ◌≤◌, ◌+◌, ◌++◌, ◌||◌, ◌==◌, ℕ, true, false, List, [], ◌∷◌, length, Some, refl, sym, ap, subst, ◌∙◌, inl, inr, arith}
use Rattle.std.specs.Prelude.{All}
use Rattle.std.proofs.lemmas.Bool.{cases_Bool}
use Rattle.std.proofs.lemmas.List.Elements.{All-nil, All-cons, All-append, All-head, All-tail}
use Rattle.std.proofs.lemmas.Option.{same_Some}
use Rattle.rh_model.specs.ClusterView.{numbered}
use Rattle.rh_model.specs.declared.node.App.{App}
use Rattle.rh_model.specs.declared.node.Node.{Node}
use Rattle.rh_otp_controller.specs.declared.state.Place.TheVariants as place_of
use Rattle.rh_otp_model.specs.declared.fault.Outcome.TheVariants as outcome
use Rattle.rh_otp_model.specs.declared.message.Change.TheVariants as change_of
use Rattle.rh_otp_model.specs.declared.message.Message.{Message}
use Rattle.rh_otp_model.specs.declared.message.Message.TheVariants as message
use Rattle.rh_otp_model.specs.declared.output.Envelope.{Envelope}
use Rattle.rh_otp_model.specs.declared.output.Event.TheVariants as event
use Rattle.rh_otp_model.specs.declared.output.Output.TheVariants as output
use Rattle.rh_otp_model.specs.declared.process.Role.TheVariants as role
use Rattle.rh_otp_model.specs.Own.{controls}
use Rattle.rh_otp_model.specs.Processes.{process_at}
use Rattle.rh_otp_model.specs.Rows.{keyfind, has_row}
use Rattle.rh_otp_dist.specs.declared.state.Stand.TheVariants as stand
use Rattle.rh_otp_dist.specs.declared.state.Standing.TheVariants as standing
use Rattle.rh_otp_dist.specs.State.{DistView, TurnView, standing_of, is_among}
use Rattle.rh_otp_dist.specs.Waiting.{takes}
use Rattle.rh_otp_net.specs.declared.order.Order.{Order}
use Rattle.rh_otp_net.specs.Links.{are_linked}
use Rattle.rh_otp_node.specs.Live.{LiveView, is_alive, is_ending}
use Rattle.rh_otp_node.specs.Turns.{controlled_by}
use Rattle.rh_otp_system.specs.declared.calls.Call.{Call}
use Rattle.rh_otp_system.specs.declared.calls.Stage.TheVariants as stage
use Rattle.rh_otp_system.specs.Calls.{process_of}
use Rattle.rh_otp_system.specs.Delivering.{arrived}
use Rattle.rh_otp_system.specs.Moves.{Reaches, is_quiet_behind}
use Rattle.rh_otp_system.specs.Sending.{told}
use Rattle.rh_otp_system.specs.State.{SystemView, live_at, node_at, with_node, is_alive_at}
use Rattle.rh_otp_system.specs.Working.{behind}
use Rattle.rh_otp_laws.proofs.Nodes.{node_written, others_same, same_of_all, as_it_was_or_written}
use Rattle.rh_otp_orders.proofs.Taking.{Taken}
use Rattle.rh_otp_crashes.specs.Crashes.{IsUnoccupied}
use Rattle.rh_otp_crashes.proofs.Peace.{here_in, without, arrives_alive, arrives_dead, taken_all}
use Rattle.rh_otp_crashes.proofs.Posting.{posted_to, mails, all_posted, all_mailed}
use Rattle.rh_otp_crashes.proofs.Turning.{own_in, turn, weighing, idle_comes}
use Rattle.rh_otp_stops.proofs.Answering.{at_stage, answered_free}
use Rattle.rh_otp_stops.proofs.Stopping.{there_is}
use Rattle.rh_otp_permits.proofs.Noting.{answer_of, note}
use Rattle.rh_otp_moves.proofs.Halting.{halted, halted_so}
use Rattle.rh_agreement_calls.proofs.Moving.{done}
use Rattle.rh_agreement_spread.proofs.Hearing.{few_told}
use Rattle.rh_agreement_spread.proofs.Summing.{sum_of, sum_behind, sum_taken, sum_of_ones, sum_of_none}
use Rattle.rh_agreement_permits.proofs.Coming.{ComesOn, Keeps, still_alive, keeps_with, keeps_on, keeps_answered}
use Rattle.rh_agreement_permits.proofs.Coming as coming
use Rattle.rh_agreement_permits.proofs.Halting as halting
use Rattle.rh_agreement_permits.proofs.Hearing.{IsTame, Hears, hears_stop, hears_note}

-- What is to come: dist_ac tells its controller to stop it, this reports that it has, and the caller is answered.
pub data Link : Type 0 where
  stops : Link
  reports : Link
  answers : Link

-- Where the dist_ac has told it: the node runs the application, of whose end it can tell the others, and the call waits for that.
pub record Halts (lives : Node → ℕ) (c : Call) (base : SystemView) (v : LiveView) (d : DistView) : Type 0 where
  pub alive : is_alive_at base c.node ≡ true
  pub life : c.life ≡ lives c.node
  pub same : v.life ≡ lives c.node
  pub own : controls (own_in base.files c.node) c.app ≡ true
  pub stays : v.controller.is_ending ≡ false
  pub runs : keyfind c.app v.controller.running ≡ Some place_of.Here
  pub started : has_row c.app v.controller.started ≡ true
  pub has : v.dist ≡ Some d
  pub takes_all : d.stand ≡ stand.Idle
  pub free : IsUnoccupied d
  pub no_takeovers : d.t_reqs ≡ []
  pub waits : d.s_reqs ≡ (c.app, process_of c) ∷ []
  pub local : standing_of d c.app ≡ standing.Local
  pub sees : (m : Node) → is_among m d.known ≡ true → is_alive_at base m ≡ true
      → (c.node.0 == m.0 || are_linked c.node m base.links) ≡ true

module _ {lives : Node → ℕ} {c : Call} {base : SystemView} {v : LiveView} {d : DistView} (listed : List Node)
    (halts : Halts lives c base v d) where
  abbrev n : Node
  n = c.node

  abbrev a : App
  a = c.app

  -- ---- what is on its way

  abbrev pub stop_it : Envelope
  stop_it = record {
    from = process_at (here_in lives n) role.DistAc;
    to = process_at (here_in lives n) role.Controller;
    message = message.Change a change_of.StopIt;
  }

  abbrev pub it_stopped : Envelope
  it_stopped = record {
    from = process_at (here_in lives n) role.Controller;
    to = process_at (here_in lives n) role.DistAc;
    message = message.NotRun a;
  }

  abbrev pub message_of : Link → Envelope
  message_of stops = stop_it
  message_of reports = it_stopped
  message_of answers = answer_of lives c outcome.Done

  -- one of these, or another dist_ac is told of the permission, or of the stop
  pub data IsSaid (link : Link) : Envelope → Type 0 where
    follows : IsSaid link (message_of link)
    notes : (m : Node) → m.0 ≢ n.0 → is_among m listed ≡ true → IsSaid link (note lives c false true m)
    tells : (m : Node) → m.0 ≢ n.0 → IsSaid link (posted_to lives n (message.AppStopped a) m)

  -- what the others are told isn't owed to the caller
  abbrev owed_of : Message → ℕ
  owed_of (message.NewPermission m b allow his) = 0
  owed_of (message.AppStopped b) = 0
  owed_of m = 1

  abbrev pub owed : Envelope → ℕ
  owed e = owed_of e.message

  -- it can lead to so many messages, with itself
  abbrev cost_of : Message → ℕ
  cost_of (message.Change b what) = length d.known + 3
  cost_of (message.NotRun b) = length d.known + 2
  cost_of m = 1

  abbrev pub cost : Envelope → ℕ
  cost e = cost_of e.message

  -- who isn't owed is told whatever comes next
  still_said : (p q : Link) (e : Envelope) → IsSaid p e → owed e ≡ 0 → IsSaid q e
  still_said stops q _ follows none = absurd (omega (arith, none))
  still_said reports q _ follows none = absurd (omega (arith, none))
  still_said answers q _ follows none = absurd (omega (arith, none))
  still_said p q _ (notes m other among) none = notes m other among
  still_said p q _ (tells m other) none = tells m other

  none_of_sum : (x y : ℕ) → x + y ≡ 0 → (x ≡ 0) × (y ≡ 0)
  none_of_sum x y none = (omega (arith, none), omega (arith, none))

  all_still_said : (p q : Link) (l : List Envelope) → All (IsSaid p) l → sum_of owed l ≡ 0 → All (IsSaid q) l
  all_still_said p q [] all none = All-nil (IsSaid q)
  all_still_said p q (e ∷ l) all none =
      let parts : (owed e ≡ 0) × (sum_of owed l ≡ 0) = none_of_sum (owed e) (sum_of owed l) none in
      All-cons (IsSaid q) e l (still_said p q e (All-head (IsSaid p) e l all) parts.0)
      (all_still_said p q l (All-tail (IsSaid p) e l all) parts.1)

  -- ---- how the node stands

  abbrev pub stopped_node : LiveView
  stopped_node = halting.stopped_node base.cluster (own_in base.files n) n a v halts.own halts.stays halts.runs halts.started

  abbrev pub Waiting : SystemView → Type 0
  Waiting s = s.calls ≡ at_stage c stage.DistAc ∷ []

  -- the one that is owed is on its way
  abbrev pub Stands : Link → SystemView → Type 0
  Stands stops s = Waiting s × (s.events ≡ []) × (sum_of owed s.messages ≡ 1) × (node_at s n ≡ v)
  Stands reports s = Waiting s × (s.events ≡ event.Stopped a n ∷ []) × (sum_of owed s.messages ≡ 1) × (node_at s n ≡ stopped_node)
  Stands answers s =
      (Waiting s × (s.events ≡ event.Stopped a n ∷ []) × (sum_of owed s.messages ≡ 1))
      ⊎ ((s.calls ≡ done c ∷ []) × (s.events ≡ event.Stopped a n ∷ event.Answered c.number ∷ []) × (sum_of owed s.messages ≡ 0))

  pub record Follows (s : SystemView) : Type 0 where
    pub keeps : Keeps lives c base s
    pub tame : (m : Node) (x : DistView) → m.0 ≢ n.0 → is_among m listed ≡ true → is_alive_at s m ≡ true → (node_at s m).dist ≡ Some x
        → IsTame a (own_in base.files m) m x
    pub link : Link
    pub said : All (IsSaid link) s.messages
    pub stands : Stands link s

  abbrev ComesOnHere : SystemView → SystemView → Type 0
  ComesOnHere s t = ComesOn Follows cost s t

  module _ (s : SystemView) (e : Envelope) (left : List Envelope) (f : Follows s) (taken : Taken e s.messages left) where
    abbrev q : SystemView
    q = without s left

    abbrev then : SystemView
    then = arrived e.to e.message q

    quietly : Keeps lives c base q
    quietly = keeps_with lives c base s left f.keeps

    kinds : IsSaid f.link e × All (IsSaid f.link) left
    kinds = taken_all (IsSaid f.link) e s.messages left taken f.said

    costs : sum_of cost s.messages ≡ cost e + sum_of cost left
    costs = sum_taken cost e s.messages left taken

    owes : sum_of owed s.messages ≡ owed e + sum_of owed left
    owes = sum_taken owed e s.messages left taken

    awake : is_alive_at s n ≡ true
    awake = still_alive lives c base s n f.keeps ∙ halts.alive

    -- ---- what comes to another node

    stands_on : (t : SystemView) → owed e ≡ 0 → t.calls ≡ s.calls → t.events ≡ s.events → t.messages ≡ left → node_at t n ≡ node_at s n
        → Stands f.link t
    stands_on t none calls events messages node = by f.link f.stands
      where
        is : sum_of owed t.messages ≡ sum_of owed left
        is = ap (sum_of owed) messages

        by : (k : Link) → Stands k s → Stands k t
        by stops at = (calls ∙ at.0, events ∙ at.1, omega (arith, is, owes, none, at.2), node ∙ at.3)
        by reports at = (calls ∙ at.0, events ∙ at.1, omega (arith, is, owes, none, at.2), node ∙ at.3)
        by answers (inl at) = inl (calls ∙ at.0, events ∙ at.1, omega (arith, is, owes, none, at.2))
        by answers (inr at) = inr (calls ∙ at.0, events ∙ at.1, omega (arith, is, owes, none, at.2))

    -- what is lost
    lost : then ≡ q → owed e ≡ 0 → cost e ≡ 1 → ComesOnHere s then
    lost is none costs_one =
        subst (ComesOnHere s) (sym is) (record {
          then = record {
            keeps = quietly;
            tame = f.tame;
            link = f.link;
            said = kinds.1;
            stands = stands_on q none refl refl refl refl;
          };
          less = omega (arith, costs, costs_one);
        })

    module _ (m : Node) (other : m.0 ≢ n.0) (x : Message) (h : Hears a m x q)
        (is : then ≡ with_node m (record (node_at q m) { dist = h.next }) q) (none : owed e ≡ 0) (costs_one : cost e ≡ 1)
        (up : is_alive_at s m ≡ true) where
      abbrev new : LiveView
      new = record (node_at q m) { dist = h.next }

      abbrev there_now : SystemView
      there_now = with_node m new q

      tame_there : (k : Node) (y : DistView) → k.0 ≢ n.0 → is_among k listed ≡ true → is_alive_at there_now k ≡ true
          → (node_at there_now k).dist ≡ Some y → IsTame a (own_in base.files k) k y
      tame_there k y apart among alive has_it = elim (as_it_was_or_written q m k new) [
        | inl was ↦ f.tame k y apart among (sym (same_of_all is_alive q m k new refl) ∙ alive)
            (sym (ap (λ (w : LiveView). w.dist) was) ∙ has_it)
        | inr (here, so) ↦
            let b = h.tame y (sym (ap (λ (w : LiveView). w.dist) so) ∙ has_it) in
            let was : IsTame a (own_in base.files m) m b.0 =
            f.tame m b.0 other ((λ i. is_among (numbered (sym here i)) listed) ∙ among) up b.1 in
            subst (λ (j : ℕ). IsTame a (own_in base.files (numbered j)) (numbered j) y) (sym here)
            (subst (λ files. IsTame a (own_in files m) m y) f.keeps.files
            (b.2 (subst (λ files. IsTame a (own_in files m) m b.0) (sym f.keeps.files) was)))
      ]

      heard : ComesOnHere s then
      heard = subst (ComesOnHere s) (sym is) (record {
        then = record {
          keeps = keeps_on lives c base q m new left s.events quietly
              (record { phase = refl; life = refl; ending = refl; stopped = refl; rest = h.free });
          tame = tame_there;
          link = f.link;
          said = kinds.1;
          stands = stands_on there_now none refl refl refl (others_same q m n new (λ one. other (sym one)));
        };
        less = omega (arith, costs, costs_one);
      })

    -- ---- its controller stops it

    halts_so : controlled_by base.cluster (own_in base.files n) n (message.Change a change_of.StopIt) v
        ≡ (stopped_node, output.Tell (event.Stopped a n) ∷ output.Send it_stopped ∷ [])
    halts_so =
        halting.halts base.cluster (own_in base.files n) n a v halts.own halts.stays halts.runs halts.started
        ∙ ap (λ (life : ℕ). (
          stopped_node,
          output.Tell (event.Stopped a n) ∷ output.Send (record {
            from = process_at (record { node = n; life = life }) role.Controller;
            to = process_at (record { node = n; life = life }) role.DistAc;
            message = message.NotRun a;
          }) ∷ [],
        )) halts.same

    abbrev halted_now : SystemView
    halted_now = record (with_node n stopped_node q) { messages = left ++ it_stopped ∷ []; events = s.events ++ event.Stopped a n ∷ [] }

    halts_now : node_at s n ≡ v → arrived stop_it.to stop_it.message q ≡ halted_now
    unfolding told
    halts_now node =
        arrives_alive stop_it.to stop_it.message q awake (f.keeps.same_lives n)
        ∙ (λ i. behind n (controlled_by (f.keeps.cluster i) (own_in (f.keeps.files i) n) n (message.Change a change_of.StopIt) (node i)) q)
        ∙ ap (λ done. behind n done q) halts_so

    there_with : (w : LiveView) → node_at s n ≡ w → live_at q n ≡ Some w
    there_with w node = there_is q n awake ∙ ap Some node

    -- the others stand as before
    tame_on : (w : LiveView) (messages : List Envelope) (events : List _) (m : Node) (x : DistView) → m.0 ≢ n.0 → is_among m listed ≡ true
        → is_alive_at (record (with_node n w q) { messages = messages; events = events }) m ≡ true
        → (node_at (record (with_node n w q) { messages = messages; events = events }) m).dist ≡ Some x → IsTame a (own_in base.files m) m x
    tame_on w messages events m x other among up has_it =
        f.tame m x other among (sym (ap is_alive (others_same q n m w other)) ∙ up)
        (sym (ap (λ (y : LiveView). y.dist) (others_same q n m w other)) ∙ has_it)

    stops_it : f.link ≡ stops → e ≡ stop_it → ComesOnHere s then
    stops_it at is =
        let on : Stands stops s = subst (λ (k : Link). Stands k s) at f.stands in
        let node : node_at s n ≡ v = on.3 in
        let owed_one : owed e ≡ 1 = ap owed is in
        let none : sum_of owed left ≡ 0 = omega (arith, owes, owed_one, on.2) in
        let left_said : All (IsSaid stops) left = subst (λ (k : Link). All (IsSaid k) left) at kinds.1 in
        let owed_then : sum_of owed (left ++ it_stopped ∷ []) ≡ sum_of owed left + sum_of owed (it_stopped ∷ []) =
        sum_behind owed left (it_stopped ∷ []) in
        let cost_then : sum_of cost (left ++ it_stopped ∷ []) ≡ sum_of cost left + sum_of cost (it_stopped ∷ []) =
        sum_behind cost left (it_stopped ∷ []) in
        let cost_e : cost e ≡ length d.known + 3 = ap cost is in
        subst (ComesOnHere s)
        (sym ((λ i. arrived (is i).to (is i).message q) ∙ halts_now node)) (record {
          then = record {
            keeps = keeps_on lives c base q n stopped_node (left ++ it_stopped ∷ []) (s.events ++ event.Stopped a n ∷ []) quietly (record {
              phase = sym (ap (λ (w : LiveView). w.phase) node);
              life = sym (ap (λ (w : LiveView). w.life) node);
              ending = sym (ap is_ending node);
              stopped = sym (ap (λ (w : LiveView). w.is_stopped) node);
              rest = λ x has_it. f.keeps.dists n x awake (ap (λ (w : LiveView). w.dist) node ∙ has_it);
            });
            tame = tame_on stopped_node (left ++ it_stopped ∷ []) (s.events ++ event.Stopped a n ∷ []);
            link = reports;
            said = All-append (IsSaid reports) left (it_stopped ∷ []) (all_still_said stops reports left left_said none)
                (All-cons (IsSaid reports) it_stopped [] follows (All-nil (IsSaid reports)));
            stands = (
              on.0,
              ap (λ events. events ++ event.Stopped a n ∷ []) on.1,
              omega (arith, none, owed_then),
              node_written q n v stopped_node (there_with v node),
            );
          };
          less = omega (arith, costs, cost_e, cost_then);
        })

    -- ---- its dist_ac tells the others, and answers

    abbrev t : TurnView
    t = turn base.cluster (own_in base.files n) n (lives n) d

    abbrev over : TurnView
    over = halted a (process_of c) t

    abbrev gone : LiveView
    gone = record stopped_node { dist = Some over.state }

    abbrev answer : Envelope
    answer = answer_of lives c outcome.Done

    abbrev written : SystemView
    written = with_node n gone q

    abbrev answering : SystemView
    answering = record written { messages = left ++ answer ∷ [] }

    abbrev sent : List Envelope
    sent = mails lives answering n (message.AppStopped a) d.known

    abbrev told_all : SystemView
    told_all = record written { messages = (left ++ answer ∷ []) ++ sent }

    over_free : IsUnoccupied over.state
    over_free = record {
      stand = inl refl;
      mail = All-nil (λ (y : Message). takes stand.Idle y ≡ false);
      permits = halts.free.permits;
      parked = halts.free.parked;
    }

    reports_now : node_at s n ≡ stopped_node → arrived it_stopped.to it_stopped.message q ≡ told_all
    reports_now node =
        arrives_alive it_stopped.to it_stopped.message q awake (f.keeps.same_lives n)
        ∙ idle_comes base.cluster base.files n (lives n) (message.NotRun a) d over halts.free halts.takes_all refl
        (λ w. halted_so a (process_of c) (weighing w t) halts.no_takeovers halts.waits halts.local) q stopped_node
        (there_with stopped_node node) halts.has halts.same f.keeps.cluster f.keeps.files
        ∙ all_posted n (message.AppStopped a) d.known answering
        (λ k. same_of_all (λ (w : LiveView). w.life) q n k gone (halts.same ∙ sym (f.keeps.same_lives n)) ∙ f.keeps.same_lives k)
        (λ m among up. ap (λ links. n.0 == m.0 || are_linked n m links) f.keeps.links
        ∙ halts.sees m among (sym (still_alive lives c base s m f.keeps) ∙ sym (same_of_all is_alive q n m gone
        (sym (ap is_alive node))) ∙ up))

    reports_it : f.link ≡ reports → e ≡ it_stopped → ComesOnHere s then
    reports_it at is =
        let on : Stands reports s = subst (λ (k : Link). Stands k s) at f.stands in
        let node : node_at s n ≡ stopped_node = on.3 in
        let owed_one : owed e ≡ 1 = ap owed is in
        let none : sum_of owed left ≡ 0 = omega (arith, owes, owed_one, on.2) in
        let left_said : All (IsSaid reports) left = subst (λ (k : Link). All (IsSaid k) left) at kinds.1 in
        let owed_sent : sum_of owed sent ≡ 0 = sum_of_none owed sent
        (all_mailed lives (λ (x : Envelope). owed x ≡ 0) answering n (message.AppStopped a) d.known (λ k other. refl)) in
        let ones : sum_of cost sent ≡ length sent = sum_of_ones cost sent
        (all_mailed lives (λ (x : Envelope). cost x ≡ 1) answering n (message.AppStopped a) d.known (λ k other. refl)) in
        let few : length sent ≤ length d.known = few_told lives answering n (message.AppStopped a) d.known in
        let owed_first : sum_of owed (left ++ answer ∷ []) ≡ sum_of owed left + sum_of owed (answer ∷ []) =
        sum_behind owed left (answer ∷ []) in
        let owed_then : sum_of owed told_all.messages ≡ sum_of owed (left ++ answer ∷ []) + sum_of owed sent =
        sum_behind owed (left ++ answer ∷ []) sent in
        let cost_first : sum_of cost (left ++ answer ∷ []) ≡ sum_of cost left + sum_of cost (answer ∷ []) =
        sum_behind cost left (answer ∷ []) in
        let cost_then : sum_of cost told_all.messages ≡ sum_of cost (left ++ answer ∷ []) + sum_of cost sent =
        sum_behind cost (left ++ answer ∷ []) sent in
        let cost_e : cost e ≡ length d.known + 2 = ap cost is in
        subst (ComesOnHere s)
        (sym ((λ i. arrived (is i).to (is i).message q) ∙ reports_now node)) (record {
          then = record {
            keeps = keeps_on lives c base q n gone told_all.messages s.events quietly (record {
              phase = sym (ap (λ (w : LiveView). w.phase) node);
              life = sym (ap (λ (w : LiveView). w.life) node);
              ending = sym (ap is_ending node);
              stopped = sym (ap (λ (w : LiveView). w.is_stopped) node);
              rest = λ x has_it. subst IsUnoccupied (same_Some over.state x has_it) over_free;
            });
            tame = tame_on gone told_all.messages s.events;
            link = answers;
            said = All-append (IsSaid answers) (left ++ answer ∷ []) sent
                (All-append (IsSaid answers) left (answer ∷ []) (all_still_said reports answers left left_said none)
                (All-cons (IsSaid answers) answer [] follows (All-nil (IsSaid answers))))
                (all_mailed lives (IsSaid answers) answering n (message.AppStopped a) d.known tells);
            stands = inl (on.0, on.1, omega (arith, none, owed_first, owed_then, owed_sent));
          };
          less = omega (arith, costs, cost_e, cost_first, cost_then, ones, few);
        })

    -- ---- the caller is answered

    answers_it : f.link ≡ answers → e ≡ answer → ComesOnHere s then
    answers_it at is =
        let on : Stands answers s = subst (λ (k : Link). Stands k s) at f.stands in
        let owed_one : owed e ≡ 1 = ap owed is in
        let cost_e : cost e ≡ 1 = ap cost is in
        subst (ComesOnHere s)
        (sym ((λ i. arrived (is i).to (is i).message q)
        ∙ answered_free c f.keeps.stage outcome.Done q f.keeps.calls refl awake (f.keeps.same_lives n ∙ sym halts.life))) (record {
          then = record {
            keeps = keeps_answered lives c base q outcome.Done _ _ quietly;
            tame = f.tame;
            link = answers;
            said = subst (λ (k : Link). All (IsSaid k) left) at kinds.1;
            stands = elim on [
              | inl on_way ↦ inr (
                refl,
                ap (λ events. events ++ event.Answered c.number ∷ []) on_way.1,
                omega (arith, owes, owed_one, on_way.2),
              )
              | inr come ↦ absurd (omega (arith, owes, owed_one, come.2))
            ];
          };
          less = omega (arith, costs, cost_e);
        })

  -- ---- until nothing moves

  comes : (s : SystemView) (e : Envelope) (left : List Envelope) (f : Follows s) → Taken e s.messages left → (k : Link) → f.link ≡ k
      → IsSaid k e → ComesOnHere s (arrived e.to e.message (without s left))
  comes s _ left f taken stops at follows = stops_it s stop_it left f taken at refl
  comes s _ left f taken reports at follows = reports_it s it_stopped left f taken at refl
  comes s _ left f taken answers at follows = answers_it s (answer_of lives c outcome.Done) left f taken at refl
  comes s _ left f taken k at (notes m other among) = by (cases_Bool (is_alive_at s m))
    where
      e : Envelope
      e = note lives c false true m

      by : (is_alive_at s m ≡ true) ⊎ (is_alive_at s m ≡ false) → ComesOnHere s (arrived e.to e.message (without s left))
      by (inl up) =
          let h : Hears a m e.message (without s left) =
          hears_note a m (without s left) up (λ x has_it. f.keeps.dists m x up has_it) n other
          (λ x has_it. subst (λ files. IsTame a (own_in files m) m x) (sym f.keeps.files) (f.tame m x other among up has_it)) in
          heard s e left f taken m other e.message h
          (arrives_alive e.to e.message (without s left) up (f.keeps.same_lives m) ∙ h.comes) refl refl up
      by (inr dead) = lost s e left f taken (arrives_dead e.to e.message (without s left) dead) refl refl
  comes s _ left f taken k at (tells m other) = by (cases_Bool (is_alive_at s m))
    where
      e : Envelope
      e = posted_to lives n (message.AppStopped a) m

      by : (is_alive_at s m ≡ true) ⊎ (is_alive_at s m ≡ false) → ComesOnHere s (arrived e.to e.message (without s left))
      by (inl up) =
          let h : Hears a m e.message (without s left) =
          hears_stop a m (without s left) up (λ x has_it. f.keeps.dists m x up has_it) in
          heard s e left f taken m other e.message h
          (arrives_alive e.to e.message (without s left) up (f.keeps.same_lives m) ∙ h.comes) refl refl up
      by (inr dead) = lost s e left f taken (arrives_dead e.to e.message (without s left) dead) refl refl

  step : (s : SystemView) (e : Envelope) (left : List Envelope) → Follows s → Taken e s.messages left
      → ComesOnHere s (arrived e.to e.message (without s left))
  step s e left f taken = comes s e left f taken f.link refl (kinds s e left f taken).0

  pub follow_on : (s t : SystemView) → Reaches s t → Follows s → Follows t
  follow_on s t reaches f = coming.follow_on lives c base Follows cost (λ u g. g.keeps) step s t reaches f

  pub quiet_soon : (k : ℕ) (order : Order) (s : SystemView) → Follows s → sum_of cost s.messages < k → is_quiet_behind k order s ≡ true
  quiet_soon k order s f within = coming.quiet_soon lives c base Follows cost (λ u g. g.keeps) step k order s f within
