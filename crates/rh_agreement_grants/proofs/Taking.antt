-- Behind a permit by which an application is called back: what the node's own processes do at their messages. Its controller takes the
-- application over, and tells its dist_ac; and that tells the others, and answers the caller.
use Rattle.std.proofs.Common.{◌≡◌, ◌≢◌, ◌<◌, ◌≤◌, ◌+◌, ◌*◌, ◌++◌, ◌||◌, ◌==◌, ℕ, Bool, true, false, List, [], ◌∷◌, length, None, Some, refl, sym, ap, subst, ◌∙◌, inl, inr, arith}
use Rattle.std.specs.Prelude.{All}
use Rattle.std.proofs.lemmas.Bool.{and_parts}
use Rattle.std.proofs.lemmas.List.Elements.{All-nil, All-cons, All-append}
use Rattle.std.proofs.lemmas.Option.{same_Some}
use Rattle.rh_model.specs.declared.node.App.{App}
use Rattle.rh_model.specs.declared.node.Node.{Node}
use Rattle.rh_otp_controller.specs.Calls.{is_here}
use Rattle.rh_otp_controller.specs.State.{ControllerView}
use Rattle.rh_otp_model.specs.declared.fault.Outcome.TheVariants as outcome
use Rattle.rh_otp_model.specs.declared.message.Change.TheVariants as change_of
use Rattle.rh_otp_model.specs.declared.message.Message.{Message}
use Rattle.rh_otp_model.specs.declared.message.Message.TheVariants as message
use Rattle.rh_otp_model.specs.declared.output.Envelope.{Envelope}
use Rattle.rh_otp_model.specs.declared.output.Event.{Event}
use Rattle.rh_otp_model.specs.declared.output.Event.TheVariants as event
use Rattle.rh_otp_model.specs.declared.output.Output.TheVariants as output
use Rattle.rh_otp_model.specs.declared.process.StartType.TheVariants.{Takeover}
use Rattle.rh_otp_model.specs.Rows.{keyfind}
use Rattle.rh_otp_dist.specs.declared.state.Stand.TheVariants as stand
use Rattle.rh_otp_dist.specs.State.{DistView, TurnView, is_among}
use Rattle.rh_otp_dist.specs.Waiting.{takes}
use Rattle.rh_otp_net.specs.Links.{are_linked}
use Rattle.rh_otp_node.specs.Live.{LiveView, is_alive, is_ending, with_kind}
use Rattle.rh_otp_node.specs.Turns.{controlled_by}
use Rattle.rh_otp_system.specs.declared.calls.Call.{Call}
use Rattle.rh_otp_system.specs.Calls.{process_of}
use Rattle.rh_otp_system.specs.Delivering.{arrived}
use Rattle.rh_otp_system.specs.Outputs.{carried_out}
use Rattle.rh_otp_system.specs.Sending.{told}
use Rattle.rh_otp_system.specs.State.{SystemView, live_at, node_at, with_node, is_alive_at}
use Rattle.rh_otp_system.specs.Working.{behind}
use Rattle.rh_otp_laws.proofs.Nodes.{node_written, others_same, same_of_all}
use Rattle.rh_otp_orders.proofs.Taking.{Taken}
use Rattle.rh_otp_crashes.specs.Crashes.{IsUnoccupied}
use Rattle.rh_otp_crashes.proofs.Peace.{without, arrives_alive}
use Rattle.rh_otp_crashes.proofs.Posting.{posts, mails, all_posted, all_mailed}
use Rattle.rh_otp_crashes.proofs.Turning.{own_in, turn, weighing, idle_comes, written_twice}
use Rattle.rh_otp_stops.proofs.Stopping.{there_is}
use Rattle.rh_otp_permits.proofs.Noting.{answer_of}
use Rattle.rh_otp_moves.proofs.Beginning.{one_more, runs_over, runs_so}
use Rattle.rh_agreement_spread.proofs.Hearing.{few_told}
use Rattle.rh_agreement_spread.proofs.Running.{sum_of_twos}
use Rattle.rh_agreement_spread.proofs.Summing.{sum_of, sum_behind, sum_of_none}
use Rattle.rh_agreement_takeovers.proofs.Following.{Giver, told_at}
use Rattle.rh_agreement_takeovers.proofs.Spoken.{told_by}
use Rattle.rh_agreement_permits.proofs.Coming.{Keeps, still_alive, keeps_on}
use Rattle.rh_agreement_grants.proofs.Words.{Link, begins, reports, runs, answers, Starts, follows, tells, begins_so, ends_so}
use Rattle.rh_agreement_grants.proofs.Words as words
use Rattle.rh_agreement_grants.proofs.Giving as giving

module _ {lives : Node → ℕ} {c : Call} {base : SystemView} {v : LiveView} {d : DistView} {at : Node}
    (starts : Starts lives c base v d (change_of.Takeover at None) (Takeover at)) (g : Giver base c at)
    (knows : is_among at d.known ≡ true) where
  abbrev n : Node
  n = c.node

  abbrev a : App
  a = c.app

  abbrev IsSaid : Link → Envelope → Type 0
  IsSaid = words.IsSaid starts

  abbrev owed : Envelope → ℕ
  owed = words.owed

  abbrev cost : Envelope → ℕ
  cost = words.cost (length d.known)

  abbrev start_it : Envelope
  start_it = words.start_it starts

  abbrev it_reports : Envelope
  it_reports = words.it_reports starts

  abbrev it_runs : Envelope
  it_runs = words.it_runs starts

  abbrev answer : Envelope
  answer = answer_of lives c outcome.Done

  abbrev seen_node : LiveView
  seen_node = words.seen_node starts

  abbrev kept : ControllerView
  kept = words.kept starts

  abbrev ready : LiveView
  ready = words.ready starts

  abbrev Stands : Link → Bool → SystemView → Type 0
  Stands = giving.Stands starts g knows

  abbrev RunsNot : SystemView → Node → Type 0
  RunsNot = giving.RunsNot starts g knows

  abbrev Gives : SystemView → Type 0
  Gives = giving.Gives starts g knows

  abbrev Stops : Bool → Link → SystemView → Type 0
  Stops = giving.Stops starts g knows

  abbrev Follows : SystemView → Type 0
  Follows = giving.Follows starts g knows

  abbrev ComesOnHere : SystemView → SystemView → Type 0
  ComesOnHere = giving.ComesOnHere starts g knows

  module _ (s : SystemView) (e : Envelope) (left : List Envelope) (f : Follows s) (taken : Taken e s.messages left) where
    abbrev q : SystemView
    q = without s left

    abbrev then : SystemView
    then = arrived e.to e.message q

    quietly : Keeps lives c base q
    quietly = giving.quietly starts g knows s e left f taken

    kinds : IsSaid f.link e × All (IsSaid f.link) left
    kinds = giving.kinds starts g knows s e left f taken

    costs : sum_of cost s.messages ≡ cost e + sum_of cost left
    costs = giving.costs starts g knows s e left f taken

    owes : sum_of owed s.messages ≡ owed e + sum_of owed left
    owes = giving.owes starts g knows s e left f taken

    awake : is_alive_at s n ≡ true
    awake = giving.awake starts g knows s e left f taken

    there_with : (w : LiveView) → node_at s n ≡ w → live_at q n ≡ Some w
    there_with w node = there_is q n awake ∙ ap Some node

    -- the others stand as before
    nowhere_on : (w : LiveView) (messages : List Envelope) (events : List Event) (m : Node) → m.0 ≢ n.0 → m.0 ≢ at.0
        → is_alive_at (record (with_node n w q) { messages = messages; events = events }) m ≡ true
        → RunsNot (record (with_node n w q) { messages = messages; events = events }) m
    nowhere_on w messages events m other far up =
        let was : node_at (with_node n w q) m ≡ node_at q m = others_same q n m w other in
        ap (λ (x : LiveView). is_here (keyfind a x.controller.running)) was ∙ f.nowhere m other far (sym (ap is_alive was) ∙ up)

    -- and so does the one at which it ran
    gives_on : (w : LiveView) (messages : List Envelope) (events : List Event) → Gives s
        → Gives (record (with_node n w q) { messages = messages; events = events })
    gives_on w messages events on =
        let was : node_at (with_node n w q) at ≡ node_at q at = others_same q n at w g.other in
        record {
          there = ap (λ (x : LiveView). x.controller) was ∙ on.there;
          dist = on.dist;
          has = ap (λ (x : LiveView). x.dist) was ∙ on.has;
          takes_all = on.takes_all;
          started = on.started;
        }

    going : f.stopped ≡ false → Gives s
    going is = (subst (λ (b : Bool). Stops b f.link s) is f.stops).0

    -- ---- its controller takes it over

    abbrev begun_now : SystemView
    begun_now = record (with_node n seen_node q) {
      messages = left ++ it_reports ∷ [];
      events = s.events ++ event.Started a n (Takeover at) ∷ [];
    }

    begins_now : node_at s n ≡ v → arrived start_it.to start_it.message q ≡ begun_now
    unfolding told
    begins_now node =
        arrives_alive start_it.to start_it.message q awake (f.keeps.same_lives n)
        ∙ (λ i. behind n (controlled_by (f.keeps.cluster i) (own_in (f.keeps.files i) n) n
        (message.Change a (change_of.Takeover at None)) (node i)) q)
        ∙ ap (λ done. behind n done q) (begins_so starts)
        ∙ (λ i. record (with_node n (with_kind a (Takeover at) (node_written q n v (words.begun_node starts) (there_with v node) i))
        (with_node n (words.begun_node starts) q)) {
          messages = left ++ it_reports ∷ [];
          events = s.events ++ event.Started a n (Takeover at) ∷ [];
        })
        ∙ (λ i. record (written_twice q n (words.begun_node starts) seen_node i) {
          messages = left ++ it_reports ∷ [];
          events = s.events ++ event.Started a n (Takeover at) ∷ [];
        })

    -- one message of its own comes, and another one is sent
    pub begins_it : f.link ≡ begins → e ≡ start_it → ComesOnHere s then
    begins_it at_link is =
        let on : Stands begins f.stopped s = subst (λ (k : Link). Stands k f.stopped s) at_link f.stands in
        let node : node_at s n ≡ v = on.4 in
        let owed_one : owed e ≡ 1 = ap owed is in
        let none : sum_of owed left ≡ 0 = omega (arith, owes, owed_one, on.3) in
        let left_said : All (IsSaid begins) left = subst (λ (k : Link). All (IsSaid k) left) at_link kinds.1 in
        let owed_then : sum_of owed (left ++ it_reports ∷ []) ≡ sum_of owed left + sum_of owed (it_reports ∷ []) =
        sum_behind owed left (it_reports ∷ []) in
        let cost_then : sum_of cost (left ++ it_reports ∷ []) ≡ sum_of cost left + sum_of cost (it_reports ∷ []) =
        sum_behind cost left (it_reports ∷ []) in
        let cost_e : cost e ≡ 2 * length d.known + 4 = ap cost is in
        subst (ComesOnHere s) (sym ((λ i. arrived (is i).to (is i).message q) ∙ begins_now node)) (record {
          then = record {
            keeps = keeps_on lives c base q n seen_node (left ++ it_reports ∷ []) (s.events ++ event.Started a n (Takeover at) ∷ []) quietly
                (record {
                  phase = sym (ap (λ (w : LiveView). w.phase) node);
                  life = sym (ap (λ (w : LiveView). w.life) node);
                  ending = sym (ap is_ending node);
                  stopped = sym (ap (λ (w : LiveView). w.is_stopped) node);
                  rest = λ x has_it. f.keeps.dists n x awake (ap (λ (w : LiveView). w.dist) node ∙ has_it);
                });
            nowhere = nowhere_on seen_node (left ++ it_reports ∷ []) (s.events ++ event.Started a n (Takeover at) ∷ []);
            link = reports;
            said = All-append (IsSaid reports) left (it_reports ∷ [])
                (words.all_still_said starts begins reports (λ late. late) left left_said none)
                (All-cons (IsSaid reports) it_reports [] follows (All-nil (IsSaid reports)));
            stopped = false;
            stands = (
              refl,
              on.1,
              ap (λ events. events ++ event.Started a n (Takeover at) ∷ []) on.2,
              omega (arith, none, owed_then),
              node_written q n v seen_node (there_with v node),
            );
            stops = (gives_on seen_node (left ++ it_reports ∷ []) (s.events ++ event.Started a n (Takeover at) ∷ []) (going on.0), tt);
          };
          less = omega (arith, costs, cost_e, cost_then);
        })

    -- ---- and tells its dist_ac, at the starter's report

    reports_now : node_at s n ≡ seen_node
        → arrived it_reports.to it_reports.message q ≡ record (with_node n ready q) { messages = left ++ it_runs ∷ [] }
    reports_now node =
        arrives_alive it_reports.to it_reports.message q awake (f.keeps.same_lives n)
        ∙ (λ i. behind n (controlled_by (f.keeps.cluster i) (own_in (f.keeps.files i) n) n (message.ApplicationStarted a None) (node i)) q)
        ∙ ap (λ done. behind n done q) (ends_so starts)

    pub reports_it : f.link ≡ reports → e ≡ it_reports → ComesOnHere s then
    reports_it at_link is =
        let on : Stands reports f.stopped s = subst (λ (k : Link). Stands k f.stopped s) at_link f.stands in
        let node : node_at s n ≡ seen_node = on.4 in
        let owed_one : owed e ≡ 1 = ap owed is in
        let none : sum_of owed left ≡ 0 = omega (arith, owes, owed_one, on.3) in
        let left_said : All (IsSaid reports) left = subst (λ (k : Link). All (IsSaid k) left) at_link kinds.1 in
        let owed_then : sum_of owed (left ++ it_runs ∷ []) ≡ sum_of owed left + sum_of owed (it_runs ∷ []) =
        sum_behind owed left (it_runs ∷ []) in
        let cost_then : sum_of cost (left ++ it_runs ∷ []) ≡ sum_of cost left + sum_of cost (it_runs ∷ []) =
        sum_behind cost left (it_runs ∷ []) in
        let cost_e : cost e ≡ 2 * length d.known + 3 = ap cost is in
        subst (ComesOnHere s) (sym ((λ i. arrived (is i).to (is i).message q) ∙ reports_now node)) (record {
          then = record {
            keeps = keeps_on lives c base q n ready (left ++ it_runs ∷ []) s.events quietly (record {
              phase = sym (ap (λ (w : LiveView). w.phase) node);
              life = sym (ap (λ (w : LiveView). w.life) node);
              ending = sym (ap is_ending node);
              stopped = sym (ap (λ (w : LiveView). w.is_stopped) node);
              rest = λ x has_it. f.keeps.dists n x awake (ap (λ (w : LiveView). w.dist) node ∙ has_it);
            });
            nowhere = nowhere_on ready (left ++ it_runs ∷ []) s.events;
            link = runs;
            said = All-append (IsSaid runs) left (it_runs ∷ [])
                (words.all_still_said starts reports runs (λ late. late) left left_said none)
                (All-cons (IsSaid runs) it_runs [] follows (All-nil (IsSaid runs)));
            stopped = false;
            stands = (refl, on.1, on.2, omega (arith, none, owed_then), node_written q n seen_node ready (there_with seen_node node));
            stops = (gives_on ready (left ++ it_runs ∷ []) s.events (going on.0), tt);
          };
          less = omega (arith, costs, cost_e, cost_then);
        })

    -- ---- its dist_ac tells the others, and answers

    abbrev news : Message
    news = message.AppStarted n a None

    abbrev t : TurnView
    t = turn base.cluster (own_in base.files n) n (lives n) d

    abbrev over : TurnView
    over = runs_over a None (process_of c) t

    abbrev gone : LiveView
    gone = record ready { dist = Some over.state }

    abbrev written : SystemView
    written = with_node n gone q

    abbrev sent : List Envelope
    sent = mails lives written n news d.known

    abbrev told_all : SystemView
    told_all = record written { messages = (left ++ sent) ++ answer ∷ [] }

    over_free : IsUnoccupied over.state
    over_free = record {
      stand = inl refl;
      mail = All-nil (λ (y : Message). takes stand.Idle y ≡ false);
      permits = starts.free.permits;
      parked = starts.free.parked;
    }

    has_dist : (own_in base.files at).has_dist ≡ true
    has_dist = (and_parts (own_in base.files at).has_dist _ g.controlled).0

    runs_now : node_at s n ≡ ready → arrived it_runs.to it_runs.message q ≡ told_all
    runs_now node =
        arrives_alive it_runs.to it_runs.message q awake (f.keeps.same_lives n)
        ∙ idle_comes base.cluster base.files n (lives n) (message.Run a None) d over starts.free starts.takes_all refl
        (λ w. runs_so a None (process_of c) (weighing w t) starts.waits) q ready (there_with ready node) starts.has starts.same
        f.keeps.cluster f.keeps.files
        ∙ one_more n (posts n news d.known) (output.Send answer) written
        ∙ ap (carried_out n (output.Send answer))
        (all_posted n news d.known written
        (λ k. same_of_all (λ (w : LiveView). w.life) q n k gone (starts.same ∙ sym (f.keeps.same_lives n)) ∙ f.keeps.same_lives k)
        (λ m among up. ap (λ links. n.0 == m.0 || are_linked n m links) f.keeps.links
        ∙ starts.sees m among
        (sym (still_alive lives c base s m f.keeps) ∙ sym (same_of_all is_alive q n m gone (sym (ap is_alive node))) ∙ up)))

    pub runs_it : f.link ≡ runs → e ≡ it_runs → ComesOnHere s then
    runs_it at_link is =
        let on : Stands runs f.stopped s = subst (λ (k : Link). Stands k f.stopped s) at_link f.stands in
        let node : node_at s n ≡ ready = on.4 in
        let owed_one : owed e ≡ 1 = ap owed is in
        let none : sum_of owed left ≡ 0 = omega (arith, owes, owed_one, on.3) in
        let left_said : All (IsSaid runs) left = subst (λ (k : Link). All (IsSaid k) left) at_link kinds.1 in
        let owed_sent : sum_of owed sent ≡ 0 = sum_of_none owed sent
        (all_mailed lives (λ (x : Envelope). owed x ≡ 0) written n news d.known (λ k other. refl)) in
        let twos : sum_of cost sent ≡ 2 * length sent = sum_of_twos cost sent
        (all_mailed lives (λ (x : Envelope). cost x ≡ 2) written n news d.known (λ k other. refl)) in
        let few : length sent ≤ length d.known = few_told lives written n news d.known in
        let owed_first : sum_of owed (left ++ sent) ≡ sum_of owed left + sum_of owed sent = sum_behind owed left sent in
        let owed_then : sum_of owed told_all.messages ≡ sum_of owed (left ++ sent) + sum_of owed (answer ∷ []) =
        sum_behind owed (left ++ sent) (answer ∷ []) in
        let cost_first : sum_of cost (left ++ sent) ≡ sum_of cost left + sum_of cost sent = sum_behind cost left sent in
        let cost_then : sum_of cost told_all.messages ≡ sum_of cost (left ++ sent) + sum_of cost (answer ∷ []) =
        sum_behind cost (left ++ sent) (answer ∷ []) in
        let cost_e : cost e ≡ 2 * length d.known + 2 = ap cost is in
        let some_told : 0 < sum_of (told_at at) sent =
        told_by lives written n at a d.known g.other knows
        (ap is_alive (others_same q n at gone g.other) ∙ still_alive lives c base s at f.keeps ∙ g.alive)
        (ap (λ files. (own_in files at).has_dist) f.keeps.files ∙ has_dist) in
        let told_first : sum_of (told_at at) (left ++ sent) ≡ sum_of (told_at at) left + sum_of (told_at at) sent =
        sum_behind (told_at at) left sent in
        let told_then : sum_of (told_at at) told_all.messages ≡ sum_of (told_at at) (left ++ sent) + sum_of (told_at at) (answer ∷ []) =
        sum_behind (told_at at) (left ++ sent) (answer ∷ []) in
        subst (ComesOnHere s) (sym ((λ i. arrived (is i).to (is i).message q) ∙ runs_now node)) (record {
          then = record {
            keeps = keeps_on lives c base q n gone told_all.messages s.events quietly (record {
              phase = sym (ap (λ (w : LiveView). w.phase) node);
              life = sym (ap (λ (w : LiveView). w.life) node);
              ending = sym (ap is_ending node);
              stopped = sym (ap (λ (w : LiveView). w.is_stopped) node);
              rest = λ x has_it. subst IsUnoccupied (same_Some over.state x has_it) over_free;
            });
            nowhere = nowhere_on gone told_all.messages s.events;
            link = answers;
            said = All-append (IsSaid answers) (left ++ sent) (answer ∷ [])
                (All-append (IsSaid answers) left sent (words.all_still_said starts runs answers (λ late. refl) left left_said none)
                (all_mailed lives (IsSaid answers) written n news d.known (tells refl)))
                (All-cons (IsSaid answers) answer [] follows (All-nil (IsSaid answers)));
            stopped = false;
            stands = inl (on.1, on.2, omega (arith, none, owed_first, owed_then, owed_sent));
            stops = (gives_on gone told_all.messages s.events (going on.0), inr (omega (arith, told_first, told_then, some_told)));
          };
          less = omega (arith, costs, cost_e, cost_first, cost_then, twos, few);
        })
