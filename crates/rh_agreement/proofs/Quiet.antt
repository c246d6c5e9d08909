-- A tick in which nothing is to come by itself is answered alike.
use Rattle.std.proofs.Common.{◌≡◌, ◌<◌, ◌≤◌, ◌+◌, ◌^◌, ℕ, zero, suc, Bool, true, false, cond, nat_lt, List, [], length, unwrap_or, Option, Some, None, refl, sym, ap, subst, ◌∙◌, arith}
use Rattle.std.proofs.lemmas.Bool.{lt-ltb, ltb-false}
use Rattle.std.proofs.lemmas.Option.{none-some}
use Rattle.std.proofs.lemmas.List.{length-set}
use Rattle.rh_model.specs.ClusterView.{node_count}
use Rattle.rh_model.specs.declared.node.Node.{Node}
use Rattle.rh_rules.specs.declared.event.Event.{Event}
use Rattle.rh_rules.specs.declared.event.Event.TheVariants as event
use Rattle.rh_rules.specs.declared.refusal.Refusal.{Refusal}
use Rattle.rh_rules.specs.declared.pick.Pick.{Pick}
use Rattle.rh_rules.specs.Course.{Course, course_of}
use Rattle.rh_rules.specs.Refusals.{refused}
use Rattle.rh_rules.specs.Steps.{Outcome, outcome, next}
use Rattle.rh_rules.specs.Time.{due_by, go_on, fired, fired_by, all_fired, ticked}
use Rattle.rh_rules.specs.Prelude.{with_time}
use Rattle.rh_calls.specs.declared.call.Call.TheVariants as call
use Rattle.rh_calls.specs.declared.call.Reply.TheVariants as reply
use Rattle.rh_script.specs.Answers.{answer_text}
use Rattle.rh_state.specs.StateView.{StateView, earliest}
use Rattle.rh_step.specs.Runs.{step}
use Rattle.rh_trail.specs.Lone.{served}
use Rattle.rh_trail.specs.SimView.{SimView, state_of}
use Rattle.rh_otp_net.specs.declared.order.Order.{Order}
use Rattle.rh_otp_node.specs.Live.{LiveView, never_begun}
use Rattle.rh_otp_sim.specs.declared.calls.LiveReply.TheVariants as live_reply
use Rattle.rh_otp_sim.specs.declared.stepping.Outcome.TheVariants as live
use Rattle.rh_otp_sim.specs.Acting.{acted, is_acted, most_moves}
use Rattle.rh_otp_sim.specs.Calls.{made_by}
use Rattle.rh_otp_sim.specs.Refusing.{refusal_of}
use Rattle.rh_otp_sim.specs.Sim.{LiveSimView, net_in}
use Rattle.rh_otp_sim.specs.Sim.{live_in as live_at_node}
use Rattle.rh_otp_sim.specs.Stepping.{begun, happened, net_behind, cells_behind, system_with, ends_with, outcome_with, with_step, stepped_with}
use Rattle.rh_otp_system.specs.declared.cell.Cell.{Cell}
use Rattle.rh_otp_system.specs.declared.cell.Cell.TheVariants as cell
use Rattle.rh_otp_system.specs.Doing.{next_until, passed_by, passed, is_past_by, is_past, ticking as began_ticking, ticked_behind, ticked as live_ticked, is_ticked}
use Rattle.rh_otp_system.specs.Moves.{next_move, settled, is_settled_by}
use Rattle.rh_otp_system.specs.Resting.{rested, forgotten}
use Rattle.rh_otp_system.specs.State.{SystemView}
use Rattle.rh_otp_system.specs.Views.{NetView}
use Rattle.rh_otp_text.specs.Lines.{verdict_words}
use Rattle.rh_otp_text.specs.Replies.{reply_text}
use Rattle.rh_agreement.specs.Telling.{TellTheSame, GoTogether, mode_of_phase}
use Rattle.rh_agreement.specs.Laws.{IsAnsweredAlike, HasRoom, IsStill, QuietTicksAreAnsweredAlike}
use Rattle.rh_agreement.proofs.Resting.{none_goes_on, none_moves, moved_not, quiet_so}
use Rattle.rh_agreement.proofs.Stepping.{written, net_so, node_so, made_alike, refused_or_made}

-- ---- by the manual's rules

-- where no timer is due none fires
pub none_fires : (pick : Pick) (k limit : ℕ) (o : Course) → due_by limit (earliest o.state) ≡ None → fired_by pick k limit o ≡ o
unfolding fired_by
none_fires pick zero limit o none = refl
none_fires pick (suc k) limit o none =
    ap (λ (d : Option (ℕ × _)). go_on o d (λ entry. fired_by pick k limit (fired pick o entry))) none

only_time : (s : StateView) (ms : ℕ) (pick : Pick) → due_by (s.time + ms) (earliest s) ≡ None
    → next s (event.Tick ms) pick ≡ outcome (with_time s (s.time + ms)) []
unfolding next ticked all_fired
only_time s ms pick none =
    ap (λ (p : Course). outcome (with_time p.state (s.time + ms)) p.notices)
    (none_fires pick (length s.timers) (s.time + ms) (course_of s [] []) none)

-- ---- on live nodes

-- the clock goes on, and that is all
abbrev later : ℕ → SystemView → SystemView
later end s = record s { clock = end; is_ticking = false }

abbrev awake : SystemView → SystemView
awake s = record s { is_ticking = true }

module _ (k end : ℕ) (o : Order) (s : SystemView) (answers : s.answers ≡ []) (none : next_move o (awake s) ≡ None)
    (timers : next_until end (awake s) ≡ None) where
  same : record (awake s) { answers = [] } ≡ awake s
  same = λ i. record (awake s) { answers = sym answers i }

  none_so : next_move o (record (awake s) { answers = [] }) ≡ None
  none_so = ap (next_move o) same ∙ none

  settles : is_settled_by (suc k) o (awake s) ≡ true
  settles = quiet_so k o (record (awake s) { answers = [] }) none_so

  stays : settled (suc k) o (awake s) ≡ awake s
  stays = moved_not k o (record (awake s) { answers = [] }) none_so ∙ same

  passes : passed (suc k) end (suc k) o (awake s) ≡ awake s
  passes = ap (λ next. passed_by (passed k end (suc k) o) (suc k) o next (awake s)) timers

  is_over : is_past (suc k) end (suc k) o (awake s) ≡ true
  is_over = ap (λ next. is_past_by (is_past k end (suc k) o) (suc k) o next (awake s)) timers

  ticks : live_ticked end (suc k) o s ≡ later end s
  unfolding live_ticked
  ticks =
      ap (λ (b : Bool). ticked_behind end (suc k) o b (began_ticking (suc k) o s)) settles
      ∙ ap (λ (t : SystemView). later end (passed (suc k) end (suc k) o t)) stays
      ∙ ap (later end) passes

  ends_so : is_ticked end (suc k) o s ≡ true
  unfolding is_ticked
  ends_so =
      ap (λ (b : Bool). cond b (is_past (suc k) end (suc k) o (began_ticking (suc k) o s)) false) settles
      ∙ ap (is_past (suc k) end (suc k) o) stays
      ∙ is_over

-- ---- a tick of a simulation of live nodes

module _ (ms : ℕ) (sim : SimView) (l : LiveSimView) (still : IsStill ms sim l) (within : (net_in l).clock + ms ≤ 1000000000000) where
  abbrev tick : Event
  tick = event.Tick ms

  abbrev first : SystemView
  first = begun (net_in l) tick l

  abbrev end : ℕ
  end = (net_in l).clock + ms

  none_next : next_move l.order (awake first) ≡ None
  unfolding forgotten
  none_next = none_moves l.order (awake first) refl refl (none_goes_on (awake first) still.calls still.locks still.ends)

  in_time : nat_lt end (2 ^ 64) ≡ true
  in_time = lt-ltb end (2 ^ 64) (omega (arith, within))

  acts : acted tick l first ≡ later end first
  unfolding acted forgotten
  acts =
      ap (λ (b : Bool). cond b (live_ticked end most_moves l.order first) first) in_time
      ∙ ticks 999999 end l.order first refl none_next still.live_timers

  ends : ends_with (net_in l) tick l ≡ true
  unfolding is_acted forgotten
  ends =
      ap (λ (b : Bool). cond b (is_ticked end most_moves l.order first) true) in_time
      ∙ ends_so 999999 end l.order first refl none_next still.live_timers

  -- the system behind it
  abbrev pub behind : SystemView
  behind = rested (later end first)

  runs : system_with (net_in l) tick l ≡ behind
  runs = ap rested acts

  abbrev pub cells : List Cell
  cells = cells_behind (net_in l) (node_count l.cluster) behind

  pub steps_so : stepped_with (net_in l) tick l ≡ with_step cells l
  steps_so =
      ap (λ (b : Bool). cond b (with_step (cells_behind (net_in l) (node_count l.cluster) (system_with (net_in l) tick l)) l) l) ends
      ∙ ap (λ (s : SystemView). with_step (cells_behind (net_in l) (node_count l.cluster) s) l) runs

  comes_to : outcome_with (net_in l) tick l ≡ live.Done (happened (net_in l) behind)
  comes_to =
      ap (λ (b : Bool). cond b (live.Done (happened (net_in l) (system_with (net_in l) tick l))) live.Endless) ends
      ∙ ap (λ (s : SystemView). live.Done (happened (net_in l) s)) runs

  -- nothing is told of it
  says_ok : (c : _) → reply_text (with_step cells l) (live_reply.Step (live.Done (happened (net_in l) behind))) ≡ answer_text c (reply.Done [])
  unfolding reply_text answer_text verdict_words rested forgotten
  says_ok c = rw still.calls refl

-- ---- what the cells tell behind it

module _ (ms : ℕ) (s : StateView) (l : LiveSimView) (told : TellTheSame s l) (net : NetView) (at : net.clock ≡ (net_in l).clock + ms) where
  abbrev then : List Cell
  then = written l l.history.now net told.cells

  abbrev net_then : net_in (with_step then l) ≡ net
  net_then = net_so l l.history.now net told.cells

  same_node : (n : Node) → n.0 < node_count s.cluster → live_at_node (with_step then l) n ≡ live_at_node l n
  same_node n inside = node_so l l.history.now net told.cells n (subst (λ c. n.0 < node_count c) (sym told.cluster) inside)

  tells : TellTheSame (with_time s (s.time + ms)) (with_step then l)
  tells = record {
    cluster = told.cluster;
    clock = ap (λ (v : NetView). v.clock) net_then ∙ at ∙ ap (λ t. t + ms) told.clock;
    modes = λ n inside. ap (λ (o : Option LiveView). mode_of_phase (unwrap_or o never_begun).phase) (same_node n inside) ∙ told.modes n inside;
    begun = λ n inside. ap (λ (o : Option LiveView). (unwrap_or o never_begun).life) (same_node n inside) ∙ told.begun n inside;
    limited = told.limited;
    cells = subst (λ k. node_count l.cluster < k) (sym (length-set l.history.now (node_count l.cluster) (cell.Net net))) told.cells;
  }

-- ---- a tick

-- a tick that isn't refused is within the limit of the clock
pub in_limit : (zero_tick late : Bool) (one two : Refusal) → cond zero_tick (Some one) (cond late (Some two) None) ≡ None → late ≡ false
in_limit true late one two is = absurd (none-some one (sym is))
in_limit false true one two is = absurd (none-some two (sym is))
in_limit false false one two is = refl

module _ (sim : SimView) (l : LiveSimView) (ms : ℕ) (together : GoTogether sim l) (room : HasRoom sim l) (still : IsStill ms sim l)
    (fine : refused (state_of sim) (event.Tick ms) ≡ None) (live_fine : refusal_of (net_in l).clock (event.Tick ms) l ≡ None) where
  abbrev this : Event
  this = event.Tick ms

  clock_within : (net_in l).clock + ms ≤ 1000000000000
  clock_within = ltb-false 1000000000000 ((net_in l).clock + ms) (in_limit _ _ _ _ live_fine)

  abbrev last : SystemView
  last = behind ms sim l still clock_within

  state_so : step sim.pick (state_of sim) this ≡ with_time (state_of sim) ((state_of sim).time + ms)
  unfolding step
  state_so = ap (λ (p : Outcome). p.state) (only_time (state_of sim) ms sim.pick still.timers)

  silent : (next (state_of sim) this sim.pick).notices ≡ []
  silent = ap (λ (p : Outcome). p.notices) (only_time (state_of sim) ms sim.pick still.timers)

  clock_so : (net_behind (net_in l) last).clock ≡ (net_in l).clock + ms
  unfolding rested
  clock_so = refl

  cells_so : cells ms sim l still clock_within ≡ then ms (state_of sim) l together.now (net_behind (net_in l) last) clock_so
  unfolding rested forgotten
  cells_so = refl

  told_then : TellTheSame (step sim.pick (state_of sim) this) (with_step (cells ms sim l still clock_within) l)
  told_then =
      subst (λ (cs : List Cell). TellTheSame (step sim.pick (state_of sim) this) (with_step cs l)) (sym cells_so)
      (subst (λ (s : StateView). TellTheSame s (with_step (then ms (state_of sim) l together.now (net_behind (net_in l) last) clock_so) l))
      (sym state_so)
      (tells ms (state_of sim) l together.now (net_behind (net_in l) last) clock_so))

  ticks_alike : IsAnsweredAlike (call.Step this) sim l × GoTogether (served sim (call.Step this)).sim (made_by (call.Step this) l)
  ticks_alike =
      made_alike sim l this (cells ms sim l still clock_within) (happened (net_in l) last) together room fine live_fine
      (steps_so ms sim l still clock_within) (comes_to ms sim l still clock_within) told_then
      (ap (λ notices. answer_text sim.cluster (reply.Done notices)) silent ∙ sym (says_ok ms sim l still clock_within sim.cluster))

pub quiet_ticks_alike : QuietTicksAreAnsweredAlike
quiet_ticks_alike sim l ms together room still =
    refused_or_made sim l (event.Tick ms) refl refl together (λ fine live_fine. ticks_alike sim l ms together room still fine live_fine)
