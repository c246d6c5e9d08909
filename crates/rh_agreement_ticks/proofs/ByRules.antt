-- A tick by the manual's rules: one after the other the timers of lost applications fire, each of which starts, and those of waits, with
-- each of which its node ends; and that is all that is told.
use Rattle.std.proofs.Common.{◌≡◌, ◌≤◌, ◌<◌, ◌+◌, ◌-◌, ◌++◌, ℕ, zero, suc, Bool, true, cond, nat_le, List, [], ◌∷◌, length, Option, Some, None, refl, sym, ap, subst, ◌∙◌, arith}
use Rattle.std.specs.Prelude.{All}
use Rattle.std.proofs.lemmas.Bool.{ne_eqb}
use Rattle.std.proofs.lemmas.Bool.Decides.{nat_tests}
use Rattle.std.proofs.lemmas.List.{append-nil, append_assoc}
use Rattle.std.proofs.lemmas.List.Elements.{All-head}
use Rattle.rh_model.specs.declared.node.App.{App}
use Rattle.rh_model.specs.declared.node.Node.{Node}
use Rattle.rh_rules.specs.declared.event.Event.TheVariants as event
use Rattle.rh_rules.specs.declared.notice.Move.{Move}
use Rattle.rh_rules.specs.declared.notice.Move.TheVariants.{Placement}
use Rattle.rh_rules.specs.declared.notice.Notice.{Notice}
use Rattle.rh_rules.specs.declared.notice.Notice.TheVariants as notice
use Rattle.rh_rules.specs.declared.pick.Pick.{Pick}
use Rattle.rh_rules.specs.Course.{Course, course_of}
use Rattle.rh_rules.specs.Moves.{moved}
use Rattle.rh_rules.specs.NodesEnd.{cleared, wanted_if_lost}
use Rattle.rh_rules.specs.NodesStart.{ready_come_up}
use Rattle.rh_rules.specs.Placing.{start_kind}
use Rattle.rh_rules.specs.Settling.{settled, waits_told}
use Rattle.rh_rules.specs.Steps.{outcome, next}
use Rattle.rh_rules.specs.Time.{due_by, effect, taken_off, fired, go_on, fired_by, all_fired, ticked}
use Rattle.rh_state.specs.declared.status.Standing.{Standing}
use Rattle.rh_state.specs.declared.status.Standing.TheVariants.{Wanted}
use Rattle.rh_state.specs.declared.status.Timer.{Timer}
use Rattle.rh_state.specs.declared.status.Timer.TheVariants.{Failover, Sync}
use Rattle.rh_state.specs.Limits.{time_limit}
use Rattle.rh_state.specs.Setters.{with_standing, with_time, without_due}
use Rattle.rh_state.specs.StateView.{StateView, earliest}
use Rattle.rh_trace.specs.Validity.{IsValid}
use Rattle.rh_settle.proofs.Fuel as fuel
use Rattle.rh_step.proofs.Fuel.{due_stands_first, due_is_first, due_within, fired_fewer}
use Rattle.rh_step.proofs.TickedValid.{fired_valid}
use Rattle.rh_otp_net.specs.declared.order.Order.{Order}
use Rattle.rh_otp_system.specs.State.{SystemView}
use Rattle.rh_agreement.proofs.Quiet.{none_fires}
use Rattle.rh_agreement_calls.proofs.Fewer.{none_comes_up}
use Rattle.rh_agreement_failovers.specs.Failovers.{CanFailOver}
use Rattle.rh_agreement_failovers.proofs.Placed as placed
use Rattle.rh_agreement_ticks.specs.Passing.{PassAlike, over, left_over, fails_over, wait_ends, FailsOver, failed_over, ended_at}
use Rattle.rh_agreement_ticks.proofs.EndsByRules as ending
use Rattle.rh_agreement_ticks.proofs.Modes.{modes_behind}

-- ---- the timer of a lost application

module _ (end : ℕ) (s : StateView) (n from : Node) (a : App) (fails : FailsOver end s n from a) (valid : IsValid s)
    (within : end ≤ time_limit) where
  abbrev entry : ℕ × Timer
  entry = (fails.due, Failover a)

  first : (rest : List (ℕ × Timer)) × (s.timers ≡ entry ∷ rest)
  first = due_stands_first end s.timers entry fails.timer

  in_time : fails.due ≤ end
  in_time = due_within end (earliest s) entry fails.timer

  -- it isn't overdue
  not_before : s.time ≤ fails.due
  not_before =
      All-head (λ (x : ℕ × Timer). s.time ≤ x.0) entry first.0
      (subst (λ (rows : List (ℕ × Timer)). All (λ (x : ℕ × Timer). s.time ≤ x.0) rows) first.1 valid.sound.timers.due)

  -- so long until then
  abbrev ms : ℕ
  ms = fails.due - s.time

  until_then : s.time + ms ≡ fails.due
  until_then = let early : s.time ≤ fails.due = not_before in omega (arith, early)

  then_within : s.time + ms ≤ time_limit
  then_within =
      let soon : fails.due ≤ end = in_time in
      subst (λ (time : ℕ). time ≤ time_limit) (sym until_then) (omega (arith, soon, within))

  due_then : due_by fails.due (earliest s) ≡ Some entry
  due_then =
      let same : nat_le fails.due fails.due ≡ true = grind (arith, nat_tests) in
      ap (due_by fails.due) (due_is_first end s entry fails.timer) ∙ ap (λ (b : Bool). cond b (Some entry) None) same

  can : CanFailOver ms s n from a
  can = record {
    due = fails.due;
    timer = subst (λ (limit : ℕ). due_by limit (earliest s) ≡ Some entry) (sym until_then) due_then;
    last = subst (λ (limit : ℕ). due_by limit (earliest (without_due s (Failover a))) ≡ None) (sym until_then) fails.alone;
    lost = fails.lost;
    elsewhere = fails.elsewhere;
    can = fails.can;
    first = fails.first;
    unneeded = fails.unneeded;
  }

  abbrev wanted : StateView
  wanted = with_standing (with_time (without_due s (Failover a)) fails.due) a (Wanted (Some from))

  abbrev placement : Move
  placement = Placement a (Some from) n

  abbrev note : Notice
  note = notice.Started a n (start_kind s a (Some from) n) (Some from)

  module _ (told : List Notice) (pick : Pick) where
    abbrev course : Course
    course = course_of wanted told []

    abbrev then : Course
    then = course_of (failed_over fails.due n from a s) (told ++ note ∷ []) []

    effect_so : effect (taken_off (course_of s told []) entry) (Failover a) ≡ course
    effect_so =
        ap (λ (st : Standing). course_of (wanted_if_lost (with_time (without_due s (Failover a)) fails.due) a st) told []) fails.lost

    settles_so : settled pick course ≡ moved course placement
    unfolding can
    settles_so =
        ap waits_told
        (fuel.unrolled pick course placement (placed.sound s ms n from a valid then_within can).shaped
        (placed.picks s ms n from a valid then_within can pick)
        ∙ fuel.ended pick (moved course placement) (placed.no_next s ms n from a valid then_within can pick))

    pub fires_so : fired pick (course_of s told []) entry ≡ then
    unfolding fired
    fires_so =
        ap (λ (o : Course). settled pick (ready_come_up o)) effect_so
        ∙ ap (settled pick) (none_comes_up s wanted refl refl valid.settled told [])
        ∙ settles_so
        ∙ ap (λ (b : Bool). course_of (failed_over fails.due n from a s)
        (told ++ notice.Started a n (start_kind s a (Some from) n) (cond b None (Some from)) ∷ []) []) (ne_eqb from.0 n.0 fails.elsewhere)

-- ---- what comes of a timer, where this is told of it

module _ (end : ℕ) (s : StateView) (entry : ℕ × Timer) (is : due_by end (earliest s) ≡ Some entry) (valid : IsValid s)
    (within : end ≤ time_limit) where
  some_timer : length s.timers ≤ 0 → ⊥
  some_timer none =
      let first : (rest : List (ℕ × Timer)) × (s.timers ≡ entry ∷ rest) = due_stands_first end s.timers entry is in
      let many : length s.timers ≡ length (entry ∷ first.0) = ap (λ (rows : List (ℕ × Timer)). length rows) first.1 in
      omega (arith, none, many)

  module _ (pick : Pick) (told : List Notice) (then : Course) (fires : fired pick (course_of s told []) entry ≡ then) where
    fires_one : (k : ℕ) → fired_by pick (suc k) end (course_of s told []) ≡ fired_by pick k end then
    unfolding fired_by
    fires_one k =
        ap (λ (d : Option (ℕ × Timer)). go_on (course_of s told []) d
        (λ (x : ℕ × Timer). fired_by pick k end (fired pick (course_of s told []) x))) is
        ∙ ap (fired_by pick k end) fires

    valid_then : IsValid then.state
    valid_then = subst (λ (o : Course). IsValid o.state) fires (fired_valid pick end (course_of s told []) entry within valid is)

    fewer_then : length then.state.timers < length s.timers
    fewer_then =
        subst (λ (o : Course). length o.state.timers < length s.timers) fires
        (fired_fewer pick end (course_of s told []) entry valid.sound is)

-- ---- all of them

-- what they come to: so much was told, and nodes are as far as that says
record Fires (pick : Pick) (k end : ℕ) (s : StateView) (told notes : List Notice) : Type 0 where
  last : Course
  is : fired_by pick k end (course_of s told []) ≡ last
  notices : last.notices ≡ told ++ notes
  cluster : last.state.cluster ≡ s.cluster
  modes : last.state.modes ≡ modes_behind s.modes notes
  begun : last.state.incarnations ≡ s.incarnations

module _ (pick : Pick) (end : ℕ) (order : Order) (within : end ≤ time_limit) where
  fire : (k : ℕ) (s : StateView) (l : SystemView) (told notes : List Notice) → PassAlike end order s l notes → IsValid s
      → length s.timers ≤ k → Fires pick k end s told notes
  unfolding cleared
  fire k _ _ told _ (over s l due none) valid few = record {
    last = course_of s told [];
    is = none_fires pick k end (course_of s told []) due;
    notices = sym (append-nil told);
    cluster = refl;
    modes = refl;
    begun = refl;
  }
  fire k _ _ told _ (left_over s l notes rows in_time rest) valid few = fire k s _ told notes rest valid few
  fire zero _ _ told _ (fails_over s l n from a notes fails live rest) valid few =
      absurd (some_timer end s (fails.due, Failover a) fails.timer valid within few)
  fire (suc k) _ _ told _ (fails_over s l n from a notes fails live rest) valid few =
      let x : Notice = notice.Started a n (start_kind s a (Some from) n) (Some from) in
      let entry : ℕ × Timer = (fails.due, Failover a) in
      let then : Course = course_of (failed_over fails.due n from a s) (told ++ x ∷ []) [] in
      let is : fired pick (course_of s told []) entry ≡ then = fires_so end s n from a fails valid within told pick in
      let fewer : length then.state.timers < length s.timers = fewer_then end s entry fails.timer valid within pick told then is in
      let more : Fires pick k end then.state (told ++ x ∷ []) notes =
      fire k then.state _ (told ++ x ∷ []) notes rest (valid_then end s entry fails.timer valid within pick told then is)
      (omega (arith, fewer, few)) in
      record {
        last = more.last;
        is = fires_one end s entry fails.timer valid within pick told then is k ∙ more.is;
        notices = more.notices ∙ append_assoc told (x ∷ []) notes;
        cluster = more.cluster;
        modes = more.modes;
        begun = more.begun;
      }
  fire zero _ _ told _ (wait_ends s l n notes ends live rest) valid few =
      absurd (some_timer end s (ends.due, Sync n) ends.timer valid within few)
  fire (suc k) _ _ told _ (wait_ends s l n notes ends live rest) valid few =
      let x : Notice = notice.Ended n in
      let entry : ℕ × Timer = (ends.due, Sync n) in
      let then : Course = course_of (ended_at ends.due n s) (told ++ x ∷ []) [] in
      let is : fired pick (course_of s told []) entry ≡ then = ending.fires_so end s n ends valid within pick told in
      let fewer : length then.state.timers < length s.timers = fewer_then end s entry ends.timer valid within pick told then is in
      let more : Fires pick k end then.state (told ++ x ∷ []) notes =
      fire k then.state _ (told ++ x ∷ []) notes rest (valid_then end s entry ends.timer valid within pick told then is)
      (omega (arith, fewer, few)) in
      record {
        last = more.last;
        is = fires_one end s entry ends.timer valid within pick told then is k ∙ more.is;
        notices = more.notices ∙ append_assoc told (x ∷ []) notes;
        cluster = more.cluster;
        modes = more.modes;
        begun = more.begun;
      }

-- ---- the tick

pub record ComesTo (s : StateView) (ms : ℕ) (pick : Pick) (notes : List Notice) : Type 0 where
  pub then : StateView
  pub comes : next s (event.Tick ms) pick ≡ outcome then notes
  pub cluster : then.cluster ≡ s.cluster
  pub time : then.time ≡ s.time + ms
  pub modes : then.modes ≡ modes_behind s.modes notes
  pub begun : then.incarnations ≡ s.incarnations

pub by_rules : (ms : ℕ) (pick : Pick) (order : Order) (s : StateView) (l : SystemView) (notes : List Notice)
    → PassAlike (s.time + ms) order s l notes → IsValid s → s.time + ms ≤ time_limit → ComesTo s ms pick notes
unfolding next ticked all_fired
by_rules ms pick order s l notes passes valid within =
    let fires : Fires pick (length s.timers) (s.time + ms) s [] notes =
    fire pick (s.time + ms) order within (length s.timers) s l [] notes passes valid (omega arith) in
    record {
      then = with_time fires.last.state (s.time + ms);
      comes = ap (λ (o : Course). outcome (with_time o.state (s.time + ms)) o.notices) fires.is
          ∙ ap (outcome (with_time fires.last.state (s.time + ms))) fires.notices;
      cluster = fires.cluster;
      time = refl;
      modes = fires.modes;
      begun = fires.begun;
    }
