-- A tick in which such timers fire: what it comes to on live nodes, that they are at rest again behind it, and what is told of it.
use Rattle.std.proofs.Common.{◌≡◌, ◌<◌, ◌≤◌, ◌+◌, ◌^◌, ◌&&◌, ◌||◌, ℕ, suc, Bool, true, false, not, cond, nat_le, nat_lt, List, [], ◌∷◌, length, Option, Some, None, refl, sym, ap, subst, ◌∙◌, arith}
use Rattle.std.proofs.lemmas.Bool.{lt-ltb}
use Rattle.std.proofs.lemmas.Bool.Decides.{nat_tests}
use Rattle.std.proofs.lemmas.List.Elements.{All-weaker}
use Rattle.rh_model.specs.ClusterView.{node_count}
use Rattle.rh_model.specs.declared.node.App.{App}
use Rattle.rh_model.specs.declared.node.Node.{Node}
use Rattle.rh_rules.specs.declared.event.Event.{Event}
use Rattle.rh_rules.specs.declared.event.Event.TheVariants as event
use Rattle.rh_otp_model.specs.declared.output.Event.TheVariants as seen
use Rattle.rh_otp_net.specs.declared.order.Order.{Order}
use Rattle.rh_otp_net.specs.declared.timers.Timer.{Timer}
use Rattle.rh_otp_net.specs.Timers.{next_due}
use Rattle.rh_otp_node.specs.declared.node.Phase.{Phase}
use Rattle.rh_otp_node.specs.Live.{is_down, is_ending}
use Rattle.rh_otp_sim.specs.declared.lines.Line.TheVariants as line
use Rattle.rh_otp_sim.specs.Acting.{acted, is_acted, most_moves}
use Rattle.rh_otp_sim.specs.Sim.{LiveSimView, net_in}
use Rattle.rh_otp_sim.specs.Stepping.{begun, happened, system_with, ends_with}
use Rattle.rh_otp_sim.specs.Telling.{answer_of, lines_of}
use Rattle.rh_otp_sim.specs.Waiting.{still_told, events_asked, calls_asked}
use Rattle.rh_otp_system.specs.Doing.{fired_next, next_until, until_if, passed_by, passed, is_past_by, is_past, ticking as began_ticking, ticked_behind, ticked, is_ticked}
use Rattle.rh_otp_system.specs.Moves.{next_move, settled, is_settled_by}
use Rattle.rh_otp_system.specs.Resting.{rested, forgotten, open_of}
use Rattle.rh_otp_system.specs.State.{SystemView, node_at, is_alive_at}
use Rattle.rh_otp_laws.specs.Acting.{IsReached, later, passes, ticks, rests, IsNoneDueBefore}
use Rattle.rh_otp_laws.proofs.Ticking.{none_until}
use Rattle.rh_otp_crashes.specs.Crashes.{AreAtRest}
use Rattle.rh_agreement.specs.Resting.{held}
use Rattle.rh_agreement.proofs.Resting.{none_goes_on, none_moves, moved_not, quiet_so}
use Rattle.rh_agreement.proofs.Rest.{IsOver, nobody_there}
use Rattle.rh_agreement_spread.proofs.Alike.{well}
use Rattle.rh_agreement_failovers.specs.Failovers.{CanFailOverLive}
use Rattle.rh_agreement_failovers.proofs.Beginning as beginning
use Rattle.rh_agreement_failovers.proofs.Following.{Follows}
use Rattle.rh_agreement_failovers.proofs.Settling.{all_free}
use Rattle.rh_agreement_failovers.proofs.Turns.{kind_of}

-- no timer is due, or one is
pub due_in_time : (end : ℕ) (due step : ℕ) (o : Option (ℕ × ℕ)) → o ≡ Some (due, step) → due ≤ end → until_if end o ≡ Some due
due_in_time end due step o is within =
    let soon : nat_le due end ≡ true = grind (arith, nat_tests, within) in
    ap (until_if end) is ∙ ap (λ (b : Bool). cond b (Some due) None) soon

-- ---- a tick with one moment at which timers are due

abbrev ended_at : ℕ → SystemView → SystemView
ended_at end s = record s { clock = end; is_ticking = false }

module _ (k end due : ℕ) (o : Order) (s over : SystemView) (settles : is_settled_by (suc (suc k)) o (record s { is_ticking = true }) ≡ true)
    (stays : settled (suc (suc k)) o (record s { is_ticking = true }) ≡ record s { is_ticking = true })
    (is_due : next_until end (record s { is_ticking = true }) ≡ Some due)
    (quiet : is_settled_by (suc (suc k)) o (fired_next due (record s { is_ticking = true })) ≡ true)
    (leads : settled (suc (suc k)) o (fired_next due (record s { is_ticking = true })) ≡ over)
    (none : next_until end over ≡ None) where
  abbrev most : ℕ
  most = suc (suc k)

  abbrev woken : SystemView
  woken = record s { is_ticking = true }

  passes_so : passed most end most o woken ≡ over
  passes_so =
      ap (λ (next : Option ℕ). passed_by (passed (suc k) end most o) most o next woken) is_due
      ∙ (λ i. cond (quiet i) (passed (suc k) end most o (leads i)) (leads i))
      ∙ ap (λ (next : Option ℕ). passed_by (passed k end most o) most o next over) none

  is_over_so : is_past most end most o woken ≡ true
  is_over_so =
      ap (λ (next : Option ℕ). is_past_by (is_past (suc k) end most o) most o next woken) is_due
      ∙ (λ i. cond (quiet i) (is_past (suc k) end most o (leads i)) false)
      ∙ ap (λ (next : Option ℕ). is_past_by (is_past k end most o) most o next over) none

  ticks_so : ticked end most o s ≡ ended_at end over
  unfolding ticked
  ticks_so =
      ap (λ (b : Bool). ticked_behind end most o b (began_ticking most o s)) settles
      ∙ ap (λ (t : SystemView). ended_at end (passed most end most o t)) stays
      ∙ ap (ended_at end) passes_so

  is_ticked_so : is_ticked end most o s ≡ true
  unfolding is_ticked
  is_ticked_so =
      ap (λ (b : Bool). cond b (is_past most end most o (began_ticking most o s)) false) settles
      ∙ ap (is_past most end most o) stays
      ∙ is_over_so

-- ---- such a tick of a simulation of live nodes

module _ (l : LiveSimView) (ms : ℕ) (n from : Node) (a : App) (reached : IsReached (held l)) (rest : AreAtRest (held l))
    (alive : is_alive_at (held l) n ≡ true) (can : CanFailOverLive ms l n from a) (within : (net_in l).clock + ms ≤ 1000000000000)
    (inside : node_count l.cluster < length l.history.now) where
  abbrev tick : Event
  tick = event.Tick ms

  abbrev first : SystemView
  first = begun (net_in l) tick l

  abbrev awake : SystemView
  awake = beginning.awake l ms n from a reached rest alive can

  abbrev base : SystemView
  base = beginning.base l ms n from a reached rest alive can

  abbrev end : ℕ
  end = (net_in l).clock + ms

  abbrev over : SystemView
  over = beginning.over l ms n from a reached rest alive can l.order

  abbrev FollowsHere : SystemView → Type 0
  FollowsHere =
      Follows (beginning.lives l ms n from a reached rest alive can) n a (beginning.most l ms n from a reached rest alive can) base
      (beginning.can_start l ms n from a reached rest alive can)

  follows : FollowsHere over
  follows = beginning.follows l ms n from a reached rest alive can l.order

  -- ---- time begins to pass

  none_next : next_move l.order awake ≡ None
  unfolding forgotten
  none_next =
      none_moves l.order awake refl refl
      (none_goes_on awake rest.calls (beginning.locks_so l ms n from a reached rest alive can)
      (beginning.ends_so l ms n from a reached rest alive can))

  settles : is_settled_by most_moves l.order awake ≡ true
  unfolding forgotten
  settles = quiet_so 999999 l.order awake none_next

  stays : settled most_moves l.order awake ≡ awake
  unfolding forgotten
  stays = moved_not 999999 l.order awake none_next

  -- ---- the timers fire

  is_due : next_until end awake ≡ Some can.failover.due
  is_due = due_in_time end can.failover.due can.failover.step (next_due awake.timers) can.failover.next can.in_time

  timers_so : next_until end over ≡ None
  timers_so = ap (λ (timers : List Timer). until_if end (next_due timers)) follows.keeps.timers ∙ can.last

  fires_quiet : is_settled_by most_moves l.order (fired_next can.failover.due awake) ≡ true
  fires_quiet =
      ap (is_settled_by most_moves l.order) (beginning.fired_so l ms n from a reached rest alive can)
      ∙ beginning.quiet l ms n from a reached rest alive can l.order

  fires_so : settled most_moves l.order (fired_next can.failover.due awake) ≡ over
  fires_so = ap (settled most_moves l.order) (beginning.fired_so l ms n from a reached rest alive can)

  -- ---- until its end

  abbrev then : SystemView
  then = record over { clock = end; is_ticking = false }

  in_time : nat_lt end (2 ^ 64) ≡ true
  in_time = lt-ltb end (2 ^ 64) (omega (arith, within))

  acts : acted tick l first ≡ then
  unfolding acted forgotten
  acts =
      ap (λ (b : Bool). cond b (ticked end most_moves l.order first) first) in_time
      ∙ ticks_so 999998 end can.failover.due l.order first over settles stays is_due fires_quiet fires_so timers_so

  pub ends : ends_with (net_in l) tick l ≡ true
  unfolding is_acted forgotten
  ends =
      ap (λ (b : Bool). cond b (is_ticked end most_moves l.order first) true) in_time
      ∙ is_ticked_so 999998 end can.failover.due l.order first over settles stays is_due fires_quiet fires_so timers_so

  abbrev pub last : SystemView
  last = rested then

  pub runs : system_with (net_in l) tick l ≡ last
  runs = ap rested acts

  -- ---- live nodes are at rest again

  none_before : IsNoneDueBefore end over.timers
  none_before =
      All-weaker (λ (t : Timer). end < t.due) (λ (t : Timer). end ≤ t.due) (λ t late. omega (arith, late)) over.timers
      (none_until end over.timers (next_due over.timers) refl timers_so)

  clock_so : over.clock ≡ can.failover.due
  clock_so = follows.keeps.clock

  last_reached : IsReached last
  last_reached =
      let passed_then : SystemView = record over { clock = end } in
      let soon : can.failover.due ≤ end = can.in_time in
      later then last
      (later passed_then then
      (later over passed_then (beginning.over_reached l ms n from a reached rest alive can l.order)
      (passes over end (omega (arith, clock_so, soon)) none_before))
      (ticks passed_then false)) (rests then)

  alive_so : (m : Node) → is_alive_at over m ≡ is_alive_at (held l) m
  unfolding forgotten
  alive_so m = ap (λ (p : Phase). cond (is_down p) false true) (follows.keeps.phases m)

  none_on_way : over.messages ≡ []
  none_on_way = (beginning.is_quiet l ms n from a reached rest alive can l.order).0

  ends_then : (m : Node) → is_alive_at over m ≡ true → (is_ending (node_at over m) && not (node_at over m).is_stopped) ≡ false
  unfolding forgotten
  ends_then m up =
      sym (ap (λ (soon : Bool). is_ending (node_at over m) && (soon || not (node_at over m).is_stopped)) follows.keeps.soon)
      ∙ follows.still.peace.ends m up

  pub is_over : IsOver l last
  unfolding rested forgotten
  is_over = record {
    inside = subst (λ (count : ℕ). node_count l.cluster < count) (sym follows.keeps.cells) inside;
    idle = record {
      calls = ap open_of follows.still.peace.calls;
      listed = follows.still.peace.listed;
      dists = λ m d up has.
          all_free (beginning.lives l ms n from a reached rest alive can) n a (beginning.most l ms n from a reached rest alive can) base
          (beginning.can_start l ms n from a reached rest alive can) (beginning.alive_there l ms n from a reached rest alive can)
          (beginning.few_so l ms n from a reached rest alive can) over follows none_on_way m d up has;
      ends = ends_then;
    };
    reached = last_reached;
    is_quiet = beginning.is_quiet l ms n from a reached rest alive can l.order;
    cluster = follows.keeps.cluster;
    files = follows.keeps.files;
    nobody = λ m there. alive_so m ∙ nobody_there l reached m there;
  }

  pub clock_then : last.clock ≡ (net_in l).clock + ms
  unfolding rested
  clock_then = refl

  pub phases_so : (k : Node) → (node_at last k).phase ≡ (node_at (held l) k).phase
  unfolding rested forgotten
  phases_so k = follows.keeps.phases k

  pub lives_so : (k : Node) → (node_at last k).life ≡ (node_at (held l) k).life
  unfolding rested forgotten
  lives_so k = follows.still.peace.same_lives k

  -- ---- the start alone is told of it

  events_so : over.events ≡ seen.Started a n (kind_of l.cluster a can.failover.first.gone) ∷ []
  events_so = beginning.over_seen l ms n from a reached rest alive can l.order

  pub happens : happened (net_in l) last ≡ well (line.Started a n (kind_of l.cluster a can.failover.first.gone) ∷ [])
  unfolding rested forgotten
  happens =
      (λ i. record {
        answer = answer_of (net_in l).last_call (follows.still.peace.calls i);
        lines = (calls_asked last (events_so i) (net_in l).last_call (follows.still.peace.calls i) (events_asked last (events_so i)
            (events_so i) (record {
              told = still_told (events_so i) (net_in l).told;
              asked = [];
              lines = lines_of (events_so i) (follows.still.peace.calls i) (net_in l).last_call;
            }))).lines;
      })
