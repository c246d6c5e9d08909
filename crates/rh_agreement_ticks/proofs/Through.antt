-- Live nodes through the moments of a tick: all of them are over, and nothing moves; and what was seen of them, and how far nodes are.
use Rattle.std.proofs.Common.{◌≡◌, ◌≢◌, ◌<◌, ◌≤◌, ◌++◌, ℕ, zero, suc, true, false, cond, List, [], ◌∷◌, length, slice_set, Option, Some, None, refl, sym, ap, subst, ◌∙◌, inl, inr, arith}
use Rattle.std.proofs.lemmas.Bool.{cases_eq, false≢true, true≢false}
use Rattle.std.proofs.lemmas.List.{append-nil, append_assoc}
use Rattle.rh_model.specs.ClusterView.{node_count}
use Rattle.rh_model.specs.declared.node.App.{App}
use Rattle.rh_model.specs.declared.node.Node.{Node}
use Rattle.rh_rules.specs.declared.notice.Notice.{Notice}
use Rattle.rh_rules.specs.declared.notice.Notice.TheVariants as notice
use Rattle.rh_rules.specs.NodesEnd.{cleared}
use Rattle.rh_rules.specs.Placing.{is_operational, start_kind}
use Rattle.rh_state.specs.declared.status.Mode.{Mode}
use Rattle.rh_state.specs.declared.status.Mode.TheVariants as mode
use Rattle.rh_state.specs.StateView.{StateView, is_up, mode_of}
use Rattle.rh_trace.proofs.NextMoves.{left_true}
use Rattle.rh_trace.proofs.Places.{at_set_there}
use Rattle.rh_otp_model.specs.declared.output.Event.{Event}
use Rattle.rh_otp_model.specs.declared.output.Event.TheVariants as seen
use Rattle.rh_otp_model.specs.declared.wait.OwnFile.{OwnFile}
use Rattle.rh_otp_net.specs.declared.order.Order.{Order}
use Rattle.rh_otp_net.specs.declared.timers.Timer.{Timer}
use Rattle.rh_otp_net.specs.Timers as timers
use Rattle.rh_otp_node.specs.declared.node.Phase.{Phase}
use Rattle.rh_otp_node.specs.declared.node.Phase.TheVariants as phase
use Rattle.rh_otp_node.specs.Live.{is_alive, is_down}
use Rattle.rh_otp_sim.specs.Acting.{most_moves}
use Rattle.rh_otp_sim.specs.declared.lines.Line.{Line}
use Rattle.rh_otp_sim.specs.declared.lines.Line.TheVariants as line
use Rattle.rh_otp_sim.specs.Sim.{LiveSimView}
use Rattle.rh_otp_system.specs.Doing.{fired_next, next_until, passed_by, passed, is_past_by, is_past}
use Rattle.rh_otp_system.specs.Moves.{settled, is_settled_by}
use Rattle.rh_otp_system.specs.State.{SystemView, node_at, is_alive_at}
use Rattle.rh_otp_laws.proofs.Nodes.{same_number}
use Rattle.rh_otp_crashes.specs.Crashes.{FailOverLater}
use Rattle.rh_otp_crashes.proofs.Deeds.{AreLater}
use Rattle.rh_otp_crashes.proofs.Turning.{own_in}
use Rattle.rh_otp_ticks.specs.LeftOver.{AreLeftOver, behind_timers}
use Rattle.rh_otp_ticks.proofs.Timely.{at_time}
use Rattle.rh_otp_ticks.proofs.Untold.{Ends}
use Rattle.rh_agreement.specs.Telling.{mode_of_phase}
use Rattle.rh_agreement_failovers.proofs.Ticked.{due_in_time}
use Rattle.rh_agreement_failovers.proofs.Turns.{kind_of}
use Rattle.rh_agreement_ticks.specs.Passing.{PassAlike, over, left_over, fails_over, wait_ends, FailsOver, FailsOverLive, EndsItsWaitLive, failed_over, ended_at}
use Rattle.rh_agreement_ticks.proofs.FailsOver as failover
use Rattle.rh_agreement_ticks.proofs.LeftOver as left
use Rattle.rh_agreement_ticks.proofs.Modes.{modes_behind, mode_in, down_there}
use Rattle.rh_agreement_ticks.proofs.OnWay.{OnWay, alive_so, behind_way}
use Rattle.rh_agreement_ticks.proofs.Telling.{Tells, nothing, start, ended}
use Rattle.rh_agreement_ticks.proofs.Timers.{left_fewer, fired_few}
use Rattle.rh_agreement_ticks.proofs.WaitEnds as wait

-- ---- a moment

module _ (times end most : ℕ) (o : Order) (s t : SystemView) (due : ℕ) (is_due : next_until end s ≡ Some due)
    (quiet : is_settled_by most o (fired_next due s) ≡ true) (leads : settled most o (fired_next due s) ≡ t) where
  passes_so : passed (suc times) end most o s ≡ passed times end most o t
  passes_so =
      ap (λ (next : Option ℕ). passed_by (passed times end most o) most o next s) is_due
      ∙ (λ i. cond (quiet i) (passed times end most o (leads i)) (leads i))

  is_past_so : is_past (suc times) end most o s ≡ is_past times end most o t
  is_past_so =
      ap (λ (next : Option ℕ). is_past_by (is_past times end most o) most o next s) is_due
      ∙ (λ i. cond (quiet i) (is_past times end most o (leads i)) false)

-- ---- all of them

-- Nodes are so far by the manual's rules, and on live nodes, too.
abbrev pub AreAsFar : LiveSimView → List Mode → SystemView → Type 0
AreAsFar l modes s = (k : Node) → k.0 < node_count l.cluster → mode_of_phase (node_at s k).phase ≡ mode_in modes k.0

-- What they come to, with so many moments at most: nothing is due any more, and this was seen and told. Nodes that were as far by the
-- manual's rules are as far behind it.
pub record Comes (l : LiveSimView) (end times : ℕ) (s : SystemView) (notes : List Notice) : Type 0 where
  pub then : SystemView
  pub goes : passed times end most_moves l.order s ≡ then
  pub past : is_past times end most_moves l.order s ≡ true
  pub way : OnWay l end then
  pub none : next_until end then ≡ None
  pub seen : List Event
  pub lines : List Line
  pub events : then.events ≡ s.events ++ seen
  pub tells : Tells l.cluster notes seen lines
  pub far : (modes : List Mode) → AreAsFar l modes s → AreAsFar l (modes_behind modes notes) then

-- nodes that are up by the manual's rules are alive
abbrev pub AreAlive : StateView → SystemView → Type 0
AreAlive s l = (k : Node) → is_up (mode_of s k) ≡ true → is_alive_at l k ≡ true

below : (i j k : ℕ) → i ≤ j → j < k → i < k
below i j k less within = omega (arith, less, within)

below_too : (i j k : ℕ) → i < j → j < k → i < k
below_too i j k less within = omega (arith, less, within)

once_less : (i j k : ℕ) → i < j → j < suc k → i < k
once_less i j k less within = omega (arith, less, within)

is_down_so : (p : Phase) → cond (is_down p) false true ≡ false → mode_of_phase p ≡ mode.Down
is_down_so phase.Down is = refl
is_down_so phase.Waiting is = absurd (true≢false is)
is_down_so phase.Up is = absurd (true≢false is)

-- a node that is up behind the end of another was so before
still_alive : (due : ℕ) (n : Node) (st : StateView) (s t : SystemView) → AreAlive st s
    → ((k : Node) → k.0 ≢ n.0 → (node_at t k).phase ≡ (node_at s k).phase) → AreAlive (ended_at due n st) t
unfolding cleared
still_alive due n st s t alive others k up = elim (cases_eq k.0 n.0) [
  | inl same ↦ absurd (false≢true (sym (ap is_up (ap (mode_in (slice_set st.modes n.0 mode.Down)) same ∙ down_there st.modes n.0)) ∙ up))
  | inr other ↦ alive_so s t k (others k other)
      ∙ alive k (sym (ap is_up (at_set_there st.modes n.0 k.0 mode.Down mode.Down other)) ∙ up)
]

module _ (l : LiveSimView) (end : ℕ) (timed : (m : Node) → AreLater (own_in l.files m)) where
  -- files are never written
  later_on : (s : SystemView) → OnWay l end s → FailOverLater s
  later_on s way m = subst (λ (files : List OwnFile). AreLater (own_in files m)) (sym way.files) (timed m)

  -- no timer is due any more
  over_comes : (times : ℕ) (s : SystemView) → next_until end s ≡ None → length s.timers < times → OnWay l end s → Comes l end times s []
  over_comes zero s none few way = absurd (omega (arith, few))
  over_comes (suc times) s none few way = record {
    then = s;
    goes = ap (λ (next : Option ℕ). passed_by (passed times end most_moves l.order) most_moves l.order next s) none;
    past = ap (λ (next : Option ℕ). is_past_by (is_past times end most_moves l.order) most_moves l.order next s) none;
    way = way;
    none = none;
    seen = [];
    lines = [];
    events = sym (append-nil s.events);
    tells = nothing;
    far = λ modes are. are;
  }

  -- timers that are left over, and so on
  left_over_comes : (times : ℕ) (s : SystemView) (notes : List Notice) (rows : AreLeftOver s) → rows.due ≤ end
      → length (timers.fired s.timers) < most_moves → (way : OnWay l end s)
      → Comes l end times (record (behind_timers rows.due s) { answers = [] }) notes → Comes l end (suc times) s notes
  left_over_comes times s notes rows in_time few way more =
      let is_due : next_until end s ≡ Some rows.due = due_in_time end rows.due rows.step (timers.next_due s.timers) rows.next in_time in
      let quiet = left.quiet s way.rest.settled rows most_moves l.order few in
      let leads = left.leads s way.rest.settled rows most_moves l.order few in
      let t : SystemView = record (behind_timers rows.due s) { answers = [] } in
      record {
        then = more.then;
        goes = passes_so times end most_moves l.order s t rows.due is_due quiet leads ∙ more.goes;
        past = is_past_so times end most_moves l.order s t rows.due is_due quiet leads ∙ more.past;
        way = more.way;
        none = more.none;
        seen = more.seen;
        lines = more.lines;
        events = more.events;
        tells = more.tells;
        far = λ modes are. more.far modes are;
      }

  -- a failover, and so on
  fails_over_comes : (times : ℕ) (st : StateView) (s : SystemView) (n from : Node) (a : App) (notes : List Notice)
      (fails : FailsOver end st n from a) (live : FailsOverLive end s n from a) (way : OnWay l end s) (alive : is_alive_at s n ≡ true)
      → l.cluster ≡ st.cluster → Comes l end times (settled most_moves l.order (fired_next live.failover.due s)) notes
      → Comes l end (suc times) s (notice.Started a n (start_kind st a (Some from) n) (Some from) ∷ notes)
  fails_over_comes times st s n from a notes fails live way alive cluster more =
      let due : ℕ = live.failover.due in
      let is_due : next_until end s ≡ Some due =
      due_in_time end due live.failover.step (timers.next_due s.timers) live.failover.next live.in_time in
      let quiet : is_settled_by most_moves l.order (fired_next due s) ≡ true = failover.quiet l end s way n from a alive live in
      let t : SystemView = settled most_moves l.order (fired_next due s) in
      let event : Event = seen.Started a n (kind_of l.cluster a from) in
      let first : t.events ≡ s.events ++ event ∷ [] =
      failover.then_seen l end s way n from a alive live
      ∙ (λ i. s.events ++ seen.Started a n (kind_of (way.cluster i) a (live.with_it i)) ∷ []) in
      record {
        then = more.then;
        goes = passes_so times end most_moves l.order s t due is_due quiet refl ∙ more.goes;
        past = is_past_so times end most_moves l.order s t due is_due quiet refl ∙ more.past;
        way = more.way;
        none = more.none;
        seen = event ∷ more.seen;
        lines = line.Started a n (kind_of l.cluster a from) ∷ more.lines;
        events = more.events ∙ ap (λ (es : List Event). es ++ more.seen) first ∙ append_assoc s.events (event ∷ []) more.seen;
        tells = start st n from a notes more.seen more.lines cluster fails.elsewhere more.tells;
        far = λ modes are.
            more.far modes
            (λ k within. ap mode_of_phase (failover.then_phases l end s way n from a alive live k) ∙ are k within);
      }

  -- a node ends with its wait, and so on
  wait_ends_comes : (times : ℕ) (s : SystemView) (n : Node) (notes : List Notice) (live : EndsItsWaitLive end s n) (way : OnWay l end s)
      (timed : FailOverLater s) → Comes l end times (settled most_moves l.order (fired_next live.wait.due s)) notes
      → Comes l end (suc times) s (notice.Ended n ∷ notes)
  wait_ends_comes times s n notes live way timed more =
      let due : ℕ = live.wait.due in
      let is_due : next_until end s ≡ Some due =
      due_in_time end due live.wait.step (timers.next_due s.timers) live.wait.next live.in_time in
      let quiet : is_settled_by most_moves l.order (fired_next due s) ≡ true = wait.quiet l end s way timed n live in
      let t : SystemView = settled most_moves l.order (fired_next due s) in
      let ends : Ends n (at_time due (timers.left s.timers) [] s) t = wait.then_ends l end s way timed n live in
      let event : Event = seen.Ended n in
      record {
        then = more.then;
        goes = passes_so times end most_moves l.order s t due is_due quiet refl ∙ more.goes;
        past = is_past_so times end most_moves l.order s t due is_due quiet refl ∙ more.past;
        way = more.way;
        none = more.none;
        seen = event ∷ more.seen;
        lines = line.Ended n ∷ more.lines;
        events = more.events ∙ ap (λ (es : List Event). es ++ more.seen) ends.events ∙ append_assoc s.events (event ∷ []) more.seen;
        tells = ended n notes more.seen more.lines more.tells;
        far = λ modes are.
            more.far (slice_set modes n.0 mode.Down) (λ k within. elim (cases_eq k.0 n.0) [
              | inl same ↦ is_down_so (node_at t k).phase (ap is_alive (same_number t k n same) ∙ ends.itself)
                  ∙ sym (ap (mode_in (slice_set modes n.0 mode.Down)) same ∙ down_there modes n.0)
              | inr other ↦ ap mode_of_phase (ends.others k other) ∙ are k within
                  ∙ sym (at_set_there modes n.0 k.0 mode.Down mode.Down other)
            ]);
      }

  pub through : (times : ℕ) (st : StateView) (s : SystemView) (notes : List Notice) → PassAlike end l.order st s notes
      → length s.timers < most_moves → length s.timers < times → OnWay l end s → AreAlive st s → l.cluster ≡ st.cluster
      → Comes l end times s notes
  unfolding is_operational cleared
  through times _ _ _ (over st s due none) bound few way alive cluster = over_comes times s none few way
  through zero _ _ _ (left_over st s notes rows in_time rest) bound few way alive cluster = absurd (omega (arith, few))
  through (suc times) _ _ _ (left_over st s notes rows in_time rest) bound few way alive cluster =
      let fewer : length (timers.left s.timers) < length s.timers = left_fewer s.timers (rows.due, rows.step) rows.next in
      let some : length (timers.fired s.timers) ≤ length s.timers = fired_few s.timers (rows.due, rows.step) rows.next in
      let few_fire : length (timers.fired s.timers) < most_moves =
      below (length (timers.fired s.timers)) (length s.timers) most_moves some bound in
      let few_left : length (timers.left s.timers) < most_moves =
      below_too (length (timers.left s.timers)) (length s.timers) most_moves fewer bound in
      left_over_comes times s notes rows in_time few_fire way
      (through times st (record (behind_timers rows.due s) { answers = [] }) notes rest few_left
      (once_less (length (timers.left s.timers)) (length s.timers) times fewer few)
      (behind_way l end s way rows in_time few_fire) alive cluster)
  through zero _ _ _ (fails_over st s n from a notes fails live rest) bound few way alive cluster = absurd (omega (arith, few))
  through (suc times) _ _ _ (fails_over st s n from a notes fails live rest) bound few way alive cluster =
      let up : is_alive_at s n ≡ true = alive n (left_true _ _ fails.can) in
      let then : SystemView = settled most_moves l.order (fired_next live.failover.due s) in
      let then_way : OnWay l end then = failover.then_way l end s way n from a up live in
      let rows : then.timers ≡ timers.left s.timers = failover.then_timers l end s way n from a up live in
      let fewer : length (timers.left s.timers) < length s.timers =
      left_fewer s.timers (live.failover.due, live.failover.step) live.failover.next in
      let same : length then.timers ≡ length (timers.left s.timers) = ap (λ (x : List Timer). length x) rows in
      let fewer_then : length then.timers < length s.timers = subst (λ (k : ℕ). k < length s.timers) (sym same) fewer in
      let few_then : length then.timers < most_moves =
      below_too (length then.timers) (length s.timers) most_moves fewer_then bound in
      fails_over_comes times st s n from a notes fails live way up cluster
      (through times (failed_over fails.due n from a st) then notes rest few_then
      (once_less (length then.timers) (length s.timers) times fewer_then few) then_way
      (λ k is_up_there. alive_so s then k (failover.then_phases l end s way n from a up live k) ∙ alive k is_up_there) cluster)
  through zero _ _ _ (wait_ends st s n notes ends live rest) bound few way alive cluster = absurd (omega (arith, few))
  through (suc times) _ _ _ (wait_ends st s n notes ends live rest) bound few way alive cluster =
      let timed_so : FailOverLater s = later_on s way in
      let then : SystemView = settled most_moves l.order (fired_next live.wait.due s) in
      let then_way : OnWay l end then = wait.then_way l end s way timed_so n live in
      let rows : then.timers ≡ timers.left s.timers = wait.then_timers l end s way timed_so n live in
      let fewer : length (timers.left s.timers) < length s.timers =
      left_fewer s.timers (live.wait.due, live.wait.step) live.wait.next in
      let same : length then.timers ≡ length (timers.left s.timers) = ap (λ (x : List Timer). length x) rows in
      let fewer_then : length then.timers < length s.timers = subst (λ (k : ℕ). k < length s.timers) (sym same) fewer in
      let few_then : length then.timers < most_moves =
      below_too (length then.timers) (length s.timers) most_moves fewer_then bound in
      wait_ends_comes times s n notes live way timed_so
      (through times (ended_at ends.due n st) then notes rest few_then
      (once_less (length then.timers) (length s.timers) times fewer_then few) then_way
      (still_alive ends.due n st s then alive (wait.then_ends l end s way timed_so n live).others) cluster)
