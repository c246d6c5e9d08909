-- What can't be given to a node is refused alike.
use Rattle.std.proofs.Common.{◌≡◌, ◌<◌, ◌≤◌, ◌+◌, ◌++◌, ◌==◌, ℕ, Bool, true, false, cond, not, nat_lt, nat_le, List, [], ◌∷◌, codes, Option, Some, None, refl, sym, ap, ◌∙◌, arith}
use Rattle.std.proofs.lemmas.Bool.{true≢false, false≢true, ltb-true}
use Rattle.std.proofs.lemmas.Bool.Decides.{nat_tests}
use Rattle.std.proofs.lemmas.Option.{none-some}
use Rattle.rh_model.specs.ClusterView.{ClusterView, node_count, app_count}
use Rattle.rh_model.specs.declared.node.App.{App}
use Rattle.rh_model.specs.declared.node.Node.{Node}
use Rattle.rh_rules.specs.declared.event.Event.{Event}
use Rattle.rh_rules.specs.declared.event.Event.TheVariants as event
use Rattle.rh_rules.specs.declared.refusal.Refusal.{Refusal}
use Rattle.rh_rules.specs.declared.refusal.Refusal.TheVariants.{UnknownNode, UnknownApp, NodeNotUp, AlreadyAlive, IncarnationLimit, NotAlive, ZeroTick, TimeLimit, NotDistributed, NotListed, AlreadyStarted, NeverStarted, NotRunning, RunsHere, NotRunningHere, NotPermitted}
use Rattle.rh_rules.specs.Course.{is_local}
use Rattle.rh_rules.specs.Placing.{missing_dep}
use Rattle.rh_rules.specs.Prelude.{is_listed_at, is_running, is_running_at, is_started, is_allowed, runs_at, standing_of}
use Rattle.rh_rules.specs.Refusals.{refused, dep_tests, first_that_applies, refusal_words, is_unknown, is_unknown_app, tests_by_hand}
use Rattle.rh_calls.specs.declared.call.Call.TheVariants as call
use Rattle.rh_calls.specs.declared.call.Reply.TheVariants as reply
use Rattle.rh_script.specs.Answers.{answer_text, reason_words}
use Rattle.rh_state.specs.Limits.{incarnation_limit}
use Rattle.rh_state.specs.StateView.{StateView, mode_of, incarnation_of, is_alive, is_up}
use Rattle.rh_trail.specs.Lone.{stepped}
use Rattle.rh_trail.specs.SimView.{SimView, state_of}
use Rattle.rh_otp_node.specs.declared.node.Phase.{Phase}
use Rattle.rh_otp_node.specs.declared.node.Phase.TheVariants as phase
use Rattle.rh_otp_node.specs.Live.{is_down, is_phase_up}
use Rattle.rh_otp_sim.specs.declared.calls.LiveReply.TheVariants as live_reply
use Rattle.rh_otp_sim.specs.declared.stepping.Outcome.TheVariants as outcome
use Rattle.rh_otp_sim.specs.Calls.{made_by, reply_to}
use Rattle.rh_otp_sim.specs.Refusing.{refusal_of, refuse_boot, refuse_crash, refuse_tick, refuse_call, or_full, is_full, phase_in, life_in, is_up_in}
use Rattle.rh_otp_sim.specs.Sim.{LiveSimView, net_in}
use Rattle.rh_otp_sim.specs.Stepping.{stepped_if, outcome_if}
use Rattle.rh_otp_text.specs.Replies.{reply_text}
use Rattle.rh_agreement.specs.Telling.{TellTheSame, GoTogether, mode_of_phase}
use Rattle.rh_agreement.specs.Laws.{is_at_a_node, WhatNoNodeTakesIsRefusedByBoth, NodesEventsAreRefusedAlike}

-- ---- what both sides ask of a node

alive_so : (p : Phase) → not (is_down p) ≡ is_alive (mode_of_phase p)
alive_so phase.Down = refl
alive_so phase.Waiting = refl
alive_so phase.Up = refl

down_so : (p : Phase) → is_down p ≡ not (is_alive (mode_of_phase p))
down_so phase.Down = refl
down_so phase.Waiting = refl
down_so phase.Up = refl

up_so : (p : Phase) → is_phase_up p ≡ is_up (mode_of_phase p)
up_so phase.Down = refl
up_so phase.Waiting = refl
up_so phase.Up = refl

at_limit : (k : ℕ) → k ≤ incarnation_limit → nat_le 9999 k ≡ (k == incarnation_limit)
at_limit k most = grind (arith, nat_tests, most)

-- where the first test doesn't apply the others count
others_count : (b : Bool) (first one two : Option Refusal) → (b ≡ false → one ≡ two) → cond b first one ≡ cond b first two
others_count true first one two same = refl
others_count false first one two same = same refl

inside : (b : Bool) → not b ≡ false → b ≡ true
inside true known = refl
inside false known = absurd (true≢false known)

module _ (s : StateView) (live : LiveSimView) (same : TellTheSame s live) where
  -- a node that is known has a number of the cluster's
  known : (n : Node) → is_unknown s n ≡ false → n.0 < node_count s.cluster
  known n is = ltb-true n.0 (node_count s.cluster) (inside (nat_lt n.0 (node_count s.cluster)) is)

  module _ (n : Node) where
    abbrev boot_tests : Bool → Bool → Option Refusal
    boot_tests alive limit = cond alive (Some AlreadyAlive) (cond limit (Some IncarnationLimit) None)

    boot_alike : refuse_boot n live ≡ refused s (event.Boot n)
    unfolding refused
    boot_alike =
        ap (λ (c : ClusterView). cond (not (nat_lt n.0 (node_count c))) (Some UnknownNode)
        (boot_tests (not (is_down (phase_in live n))) (nat_le 9999 (life_in live n)))) same.cluster
        ∙ others_count (is_unknown s n) (Some UnknownNode) (boot_tests (not (is_down (phase_in live n))) (nat_le 9999 (life_in live n)))
        (boot_tests (is_alive (mode_of s n)) (incarnation_of s n == incarnation_limit))
        (λ is. λ i. boot_tests
        ((alive_so (phase_in live n) ∙ ap is_alive (same.modes n (known n is))) i)
        ((ap (nat_le 9999) (same.begun n (known n is)) ∙ at_limit (incarnation_of s n) (same.limited n (known n is))) i))

    crash_alike : refuse_crash n live ≡ refused s (event.Crash n)
    unfolding refused
    crash_alike =
        ap (λ (c : ClusterView). cond (not (nat_lt n.0 (node_count c))) (Some UnknownNode) (cond (is_down (phase_in live n)) (Some NotAlive) None)) same.cluster
        ∙ others_count (is_unknown s n) (Some UnknownNode) (cond (is_down (phase_in live n)) (Some NotAlive) None)
        (cond (not (is_alive (mode_of s n))) (Some NotAlive) None)
        (λ is. ap (λ (b : Bool). cond b (Some NotAlive) None)
        (down_so (phase_in live n) ∙ ap (λ m. not (is_alive m)) (same.modes n (known n is))))

    -- the tests that all events at a node have
    call_tests : (a : App) → refuse_call n a live
        ≡ cond (is_unknown s n) (Some UnknownNode) (cond (is_unknown_app s a) (Some UnknownApp) (cond (not (is_up (mode_of s n))) (Some NodeNotUp) None))
    call_tests a =
        ap (λ (c : ClusterView). cond (not (nat_lt n.0 (node_count c))) (Some UnknownNode)
        (cond (not (nat_lt a.0 (app_count c))) (Some UnknownApp) (cond (not (is_up_in live n)) (Some NodeNotUp) None))) same.cluster
        ∙ others_count (is_unknown s n) (Some UnknownNode) (cond (is_unknown_app s a) (Some UnknownApp) (cond (not (is_up_in live n)) (Some NodeNotUp) None))
        (cond (is_unknown_app s a) (Some UnknownApp) (cond (not (is_up (mode_of s n))) (Some NodeNotUp) None))
        (λ is. ap (λ (b : Bool). cond (is_unknown_app s a) (Some UnknownApp) (cond (not b) (Some NodeNotUp) None))
        (up_so (phase_in live n) ∙ ap is_up (same.modes n (known n is))))

  tick_alike : (ms : ℕ) → refuse_tick (net_in live).clock ms ≡ refused s (event.Tick ms)
  unfolding refused
  tick_alike ms =
      ap (λ (time : ℕ). cond (ms == 0) (Some ZeroTick) (cond (nat_lt 1000000000000 (time + ms)) (Some TimeLimit) None)) same.clock

pub nodes_events_alike : NodesEventsAreRefusedAlike
nodes_events_alike sim live (event.Boot n) together is = boot_alike (state_of sim) live together.now n
nodes_events_alike sim live (event.Crash n) together is = crash_alike (state_of sim) live together.now n
nodes_events_alike sim live (event.Tick ms) together is = tick_alike (state_of sim) live together.now ms
nodes_events_alike sim live e together is = absurd (false≢true is)

-- ---- what refuses an event at a node refuses it before all that the manual's rules ask beside

goes_first : (node app up : Bool) (rest : Option Refusal) (why : Refusal)
    → cond node (Some UnknownNode) (cond app (Some UnknownApp) (cond up (Some NodeNotUp) None)) ≡ Some why
    → cond node (Some UnknownNode) (cond app (Some UnknownApp) (cond up (Some NodeNotUp) rest)) ≡ Some why
goes_first true app up rest why is = is
goes_first false true up rest why is = is
goes_first false false true rest why is = is
goes_first false false false rest why is = absurd (none-some why is)

by_hand : (s : StateView) (live : LiveSimView) (n : Node) (a : App) (others : List (Bool × Refusal)) (why : Refusal) → TellTheSame s live
    → refuse_call n a live ≡ Some why → first_that_applies (tests_by_hand s n a others) ≡ Some why
by_hand s live n a others why same is =
    goes_first (is_unknown s n) (is_unknown_app s a) (not (is_up (mode_of s n))) (first_that_applies others) why
    (sym (call_tests s live same n a) ∙ is)

pub refused_too : (sim : SimView) (live : LiveSimView) (e : Event) (why : Refusal) → GoTogether sim live → is_at_a_node e ≡ true
    → refusal_of (net_in live).clock e live ≡ Some why → refused (state_of sim) e ≡ Some why
unfolding refused
refused_too sim live (event.Boot n) why together at is = sym (boot_alike (state_of sim) live together.now n) ∙ is
refused_too sim live (event.Crash n) why together at is = sym (crash_alike (state_of sim) live together.now n) ∙ is
refused_too sim live (event.Tick ms) why together at is = sym (tick_alike (state_of sim) live together.now ms) ∙ is
refused_too sim live (event.Start n a restart) why together at is =
    let s : StateView = state_of sim in
    by_hand s live n a
    ((not (is_listed_at s.cluster a n), NotListed) ∷ (is_started s n a, AlreadyStarted) ∷ dep_tests (missing_dep s n a)) why together.now is
refused_too sim live (event.Stop n a) why together at is =
    by_hand (state_of sim) live n a ((not (is_started (state_of sim) n a), NeverStarted) ∷ []) why together.now is
refused_too sim live (event.Permit n a allow) why together at is = by_hand (state_of sim) live n a [] why together.now is
refused_too sim live (event.Takeover n a restart) why together at is =
    let s : StateView = state_of sim in
    by_hand s live n a
    ((is_local s.cluster a, NotDistributed) ∷ (not (is_listed_at s.cluster a n), NotListed) ∷ (not (is_running (standing_of s a)), NotRunning)
    ∷ (is_running_at n (standing_of s a), RunsHere) ∷ (not (is_allowed s n a), NotPermitted) ∷ dep_tests (missing_dep s n a))
    why together.now is
refused_too sim live (event.Exit n a normal) why together at is =
    by_hand (state_of sim) live n a ((not (runs_at (state_of sim) n a), NotRunningHere) ∷ []) why together.now is
refused_too sim live (event.StartAll a restart) why together at is = absurd (false≢true at)
refused_too sim live (event.StopAll a) why together at is = absurd (false≢true at)

-- a refusal has one text
refusal_alike : (c : ClusterView) (live : LiveSimView) (why : Refusal) → live.cluster ≡ c
    → answer_text c (reply.Refused why) ≡ reply_text live (live_reply.Step (outcome.Refused why))
unfolding answer_text reply_text
refusal_alike c live why same =
    sym (ap (λ (d : ClusterView). codes "refused " ++ refusal_words why ++ reason_words d why ++ codes "\n") same)

pub refused_by_both : WhatNoNodeTakesIsRefusedByBoth
refused_by_both sim live e why together at is =
    let first : refused (state_of sim) e ≡ Some why = refused_too sim live e why together at is in
    let then : or_full (is_full (net_in live).last_call live) (refusal_of (net_in live).clock e live) ≡ Some why =
    ap (or_full (is_full (net_in live).last_call live)) is in
    let left : made_by (call.Step e) live ≡ live = ap (λ (o : Option Refusal). stepped_if o (net_in live) e live) then in
    let told : reply_to (call.Step e) live ≡ live_reply.Step (outcome.Refused why) =
    ap (λ (o : Option Refusal). live_reply.Step (outcome_if o (net_in live) e live)) then in (
      ap (λ (o : Option Refusal). answer_text sim.cluster (stepped sim e o).reply) first
          ∙ refusal_alike sim.cluster live why together.cluster
          ∙ sym (λ i. reply_text (left i) (told i)),
      ap (λ (o : Option Refusal). (stepped sim e o).sim) first,
      left,
    )
