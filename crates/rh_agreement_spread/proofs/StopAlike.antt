-- Stops and ends of an application, distributed or not, are answered alike, and both are at rest again.
use Rattle.std.proofs.Common.{◌≡◌, ◌<◌, ◌≤◌, ◌+◌, ◌++◌, ◌||◌, ℕ, Bool, true, false, not, cond, List, [], ◌∷◌, length, is_some, Option, Some, None, refl, ap, ◌∙◌, arith}
use Rattle.std.proofs.lemmas.Bool.{and_left, false≢true, true≢false}
use Rattle.rh_base.proofs.Truths.{or_left, or_right}
use Rattle.rh_model.specs.ClusterView.{node_count, app_count}
use Rattle.rh_model.specs.declared.node.App.{App}
use Rattle.rh_model.specs.declared.node.Node.{Node}
use Rattle.rh_rules.specs.declared.event.Event.{Event}
use Rattle.rh_rules.specs.declared.event.Event.TheVariants as event
use Rattle.rh_rules.specs.declared.notice.Notice.{Notice}
use Rattle.rh_rules.specs.declared.notice.Notice.TheVariants as notice
use Rattle.rh_rules.specs.declared.refusal.Refusal.TheVariants.{NeverStarted, NotRunningHere}
use Rattle.rh_rules.specs.Refusals.{refused}
use Rattle.rh_rules.specs.Steps.{outcome, next}
use Rattle.rh_state.specs.StateView.{StateView, mode_of, is_up, runs_at, waits_at, is_started}
use Rattle.rh_settle.proofs.Soundly.{up_where_started}
use Rattle.rh_trace.proofs.NextMoves.{up_within}
use Rattle.rh_trace.proofs.Shapes.{started_within}
use Rattle.rh_calls.specs.declared.call.Call.TheVariants as call
use Rattle.rh_calls.specs.declared.call.Reply.TheVariants as reply
use Rattle.rh_script.specs.Answers.{answer_text}
use Rattle.rh_trail.specs.SimView.{SimView, state_of}
use Rattle.rh_otp_controller.specs.declared.state.Place.{Place}
use Rattle.rh_otp_controller.specs.declared.state.Place.TheVariants.{Here, At, Nowhere}
use Rattle.rh_otp_controller.specs.Calls.{is_here, ends_with}
use Rattle.rh_otp_dist.specs.State.{DistView}
use Rattle.rh_otp_model.specs.declared.output.Event.{Event as Seen}
use Rattle.rh_otp_model.specs.declared.output.Event.TheVariants as seen
use Rattle.rh_otp_model.specs.Own.{controls}
use Rattle.rh_otp_model.specs.Rows.{keyfind, has_row}
use Rattle.rh_otp_sim.specs.declared.calls.LiveReply.TheVariants as live_reply
use Rattle.rh_otp_sim.specs.declared.lines.Line.{Line}
use Rattle.rh_otp_sim.specs.declared.lines.Line.TheVariants as line
use Rattle.rh_otp_sim.specs.declared.stepping.Outcome.TheVariants as live
use Rattle.rh_otp_sim.specs.Acting.{acted, acted_at_once, is_acted, is_quiet_at_once, most_moves, called_if}
use Rattle.rh_otp_sim.specs.Refusing.{refusal_of, phase_in}
use Rattle.rh_otp_sim.specs.Sim.{LiveSimView, net_in}
use Rattle.rh_otp_sim.specs.Stepping.{begun, happened, system_with, ends_with as comes_to_an_end}
use Rattle.rh_otp_system.specs.declared.calls.Ask.{Ask}
use Rattle.rh_otp_system.specs.declared.calls.Ask.TheVariants as ask
use Rattle.rh_otp_system.specs.declared.calls.Call.{Call}
use Rattle.rh_otp_system.specs.Calls.{first_by, is_takeover}
use Rattle.rh_otp_system.specs.Moves.{settled, is_settled_by, is_to_end}
use Rattle.rh_otp_system.specs.Resting.{forgotten, rested}
use Rattle.rh_otp_system.specs.State.{SystemView, node_at, own_at, is_alive_at}
use Rattle.rh_otp_text.specs.Replies.{reply_text}
use Rattle.rh_agreement.specs.Telling.{GoTogether}
use Rattle.rh_agreement.specs.Laws.{HasRoom}
use Rattle.rh_agreement.specs.Resting.{AreBothAtRest, AreAlwaysAtRest, held}
use Rattle.rh_agreement.proofs.Always.{GoesOn}
use Rattle.rh_agreement.proofs.Rest.{AreIdle, idle_at_rest}
use Rattle.rh_agreement_calls.specs.Stops.{KeepsNodes, IsStoppedAlike}
use Rattle.rh_agreement_calls.proofs.ByHand.{by_hand, not_refused}
use Rattle.rh_agreement_calls.proofs.CallAlike.{up_is_alive}
use Rattle.rh_agreement_calls.proofs.Controlling.{place_here}
use Rattle.rh_agreement_calls.proofs.Moving.{call_at, done}
use Rattle.rh_agreement_calls.proofs.Told.{happened_so, stop_text}
use Rattle.rh_agreement_spread.specs.Stops.{CanEndThere, RunsOnBoth, WaitsOnBoth, IsLeftAlike, StopsWhereItRunsAreAnsweredAlike, StopsWhereItWaitsAreAnsweredAlike, ExitsWhereItRunsAreAnsweredAlike}
use Rattle.rh_agreement_spread.proofs.Alike.{Comes, well, comes_alike, goes_on}
use Rattle.rh_agreement_spread.proofs.Ended.{without_it, gone, only_stops, only_ends, only_leaves}
use Rattle.rh_agreement_spread.proofs.Over as over
use Rattle.rh_agreement_spread.proofs.Speaking.{Speaks, seen_of, speaks_stop, speaks_exit}
use Rattle.rh_agreement_spread.proofs.Told.{happened_alone, ok_text}

-- so many nodes a dist_ac may know
abbrev most : ℕ
most = 999996

few_enough : (k : ℕ) → k + 3 < most_moves → k ≤ most
few_enough k few = omega (arith, few)

module _ (sim : SimView) (l : LiveSimView) (n : Node) (a : App) (together : GoTogether sim l) (room : HasRoom sim l)
    (at_rest : AreBothAtRest sim l) (started : is_started (state_of sim) n a ≡ true) (can : CanEndThere n a l) where
  abbrev s : StateView
  s = state_of sim

  up : is_up (mode_of s n) ≡ true
  up = up_where_started s n a at_rest.valid.sound.idle started

  within : n.0 < node_count s.cluster
  within = up_within s n at_rest.valid.sound.shaped.modes up

  known : a.0 < app_count s.cluster
  known = started_within s n a at_rest.valid.sound.shaped started

  idle : AreIdle (held l)
  idle = idle_at_rest l at_rest.reached at_rest.rest

  alive : is_alive_at (held l) n ≡ true
  unfolding forgotten
  alive = up_is_alive (phase_in l n) (mode_of s n) (together.now.modes n within) up

  inside : node_count l.cluster < length (held l).nodes.cells
  unfolding forgotten
  inside = together.now.cells

  stays : (node_at (held l) n).controller.is_ending ≡ false
  unfolding forgotten
  stays = can.stays

  abbrev told : Bool
  told = controls (own_at (held l) n) a

  few : told ≡ true → (d : DistView) → (node_at (held l) n).dist ≡ Some d → length d.known ≤ most
  unfolding forgotten
  few is d has = few_enough (length d.known) (can.few is d has)

  bound : most + 3 < most_moves
  bound = omega arith

  -- ---- whatever its controller says

  module _ (asked : Ask) (soon : Bool) (apart : is_takeover asked ≡ false)
      (none_ends : (m : Node) → is_alive_at (held l) m ≡ true → is_to_end m (record (held l) { ends_soon = soon }) ≡ false)
      (seen_then : List Seen) where
    abbrev base : SystemView
    base = record (held l) { ends_soon = soon }

    abbrev c : Call
    c = call_at base asked n a

    module _ (speaks : Speaks base c told (first_by asked c) seen_then) (e : Event) (notes : List Notice) (lines : List Line)
        (fine : refused s e ≡ None) (live_fine : refusal_of (net_in l).clock e l ≡ None) (then : StateView)
        (comes : next s e sim.pick ≡ outcome then notes) (cluster : then.cluster ≡ s.cluster) (time : then.time ≡ s.time)
        (modes : then.modes ≡ s.modes) (begun_so : then.incarnations ≡ s.incarnations)
        (runs : system_with (net_in l) e l ≡ rested (settled most_moves l.order (called_if asked n a base)))
        (ends : comes_to_an_end (net_in l) e l ≡ is_settled_by most_moves l.order (called_if asked n a base)) where
      abbrev last : SystemView
      last = rested
          (over.over sim l asked soon n a apart room at_rest alive none_ends inside told refl can.ends seen_then speaks most bound few)

      module _ (happens : (t : SystemView) → t.calls ≡ done c ∷ [] → t.events ≡ seen_then ++ seen.Answered c.number ∷ []
          → happened (net_in l) t ≡ well lines)
          (same_text : answer_text l.cluster (reply.Done notes) ≡ reply_text l (live_reply.Step (live.Done (well lines)))) where
        it_comes : Comes sim l e notes lines
        unfolding forgotten
        it_comes = record {
          fine = fine;
          live_fine = live_fine;
          then = then;
          comes = comes;
          cluster = cluster;
          time = time;
          modes = modes;
          begun = begun_so;
          last = last;
          runs = runs
              ∙ ap rested
              (over.moves_so sim l asked soon n a apart room at_rest alive none_ends inside told refl can.ends seen_then speaks most
              bound few);
          ends = ends
              ∙ over.quiet sim l asked soon n a apart room at_rest alive none_ends inside told refl can.ends seen_then speaks most bound
              few;
          over = over.is_over sim l asked soon n a apart room at_rest alive none_ends inside told refl can.ends seen_then speaks most
              bound few;
          clock = over.clock_so sim l asked soon n a apart room at_rest alive none_ends inside told refl can.ends seen_then speaks most
              bound few;
          phases = over.phases_so sim l asked soon n a apart room at_rest alive none_ends inside told refl can.ends seen_then speaks most
              bound few;
          lives = over.lives_so sim l asked soon n a apart room at_rest alive none_ends inside told refl can.ends seen_then speaks most
              bound few;
          happens = happens last
              (over.calls_so sim l asked soon n a apart room at_rest alive none_ends inside told refl can.ends seen_then speaks most
              bound few)
              (over.events_so sim l asked soon n a apart room at_rest alive none_ends inside told refl can.ends seen_then speaks most
              bound few);
          same_text = same_text;
        }

  -- ---- a stop

  stop_fine : refused s (event.Stop n a) ≡ None
  unfolding refused
  stop_fine = by_hand s n a within known up (cond (not (is_started s n a)) (Some NeverStarted) None)
      ∙ ap (λ (b : Bool). cond (not b) (Some NeverStarted) None) started

  none_to_end : (m : Node) → is_alive_at (held l) m ≡ true → is_to_end m (record (held l) { ends_soon = false }) ≡ false
  unfolding forgotten
  none_to_end m is = idle.ends m is

  stop_runs : system_with (net_in l) (event.Stop n a) l
      ≡ rested (settled most_moves l.order (called_if ask.Stop n a (record (held l) { ends_soon = false })))
  unfolding acted acted_at_once forgotten
  stop_runs = refl

  stop_ends : comes_to_an_end (net_in l) (event.Stop n a) l
      ≡ is_settled_by most_moves l.order (called_if ask.Stop n a (record (held l) { ends_soon = false }))
  unfolding is_acted is_quiet_at_once forgotten
  stop_ends = refl

  abbrev stop_call : Call
  stop_call = call_at (record (held l) { ends_soon = false }) ask.Stop n a

  stop_number : stop_call.number ≡ (net_in l).last_call + 1
  unfolding forgotten
  stop_number = refl

  abbrev place : Option Place
  place = keyfind a (node_at (held l) n).controller.running

  module _ (live_started : (has_row a (node_at (held l) n).controller.running || has_row a (node_at (held l) n).controller.started) ≡ true)
    where
      speaks : (o : Option Place) → place ≡ o → Speaks (record (held l) { ends_soon = false }) stop_call told (first_by ask.Stop stop_call)
          (seen_of (record (held l) { ends_soon = false }) stop_call told refl stays o)
      speaks o is = speaks_stop (record (held l) { ends_soon = false }) stop_call told refl stays o is live_started

      -- where it runs

      module _ (runs : runs_at s n a ≡ true) (live_runs : is_here place ≡ true) where
        stop_comes : Comes sim l (event.Stop n a) (notice.Stopped a n ∷ []) (line.Stopped a n ∷ [])
        stop_comes =
            it_comes ask.Stop false refl none_to_end (seen.Stopped a n ∷ []) (speaks (Some Here) (place_here place live_runs))
            (event.Stop n a)
            (notice.Stopped a n ∷ []) (line.Stopped a n ∷ []) stop_fine (not_refused sim l (event.Stop n a) together refl stop_fine)
            (without_it s n a at_rest.valid) (only_stops s n a at_rest.valid runs sim.pick) refl refl refl refl stop_runs stop_ends
            (λ t calls events. happened_so (net_in l) t n a stop_call stop_number refl calls events) (stop_text l.cluster l n a refl)

      -- where it waits

      module _ (runs_not : runs_at s n a ≡ false) (live_runs_not : is_here place ≡ false) where
        sees_none : (o : Option Place) → place ≡ o → is_here o ≡ false
            → Speaks (record (held l) { ends_soon = false }) stop_call told (first_by ask.Stop stop_call) []
        sees_none None is not_here = speaks None is
        sees_none (Some Here) is not_here = absurd (true≢false not_here)
        sees_none (Some (At m)) is not_here = speaks (Some (At m)) is
        sees_none (Some Nowhere) is not_here = speaks (Some Nowhere) is

        leave_comes : Comes sim l (event.Stop n a) [] []
        leave_comes =
            it_comes ask.Stop false refl none_to_end [] (sees_none place refl live_runs_not) (event.Stop n a) [] [] stop_fine
            (not_refused sim l (event.Stop n a) together refl stop_fine) (gone s n a at_rest.valid)
            (only_leaves s n a at_rest.valid runs_not sim.pick)
            refl refl refl refl stop_runs stop_ends
            (λ t calls events. happened_alone (net_in l) t stop_call stop_number refl calls events) (ok_text l.cluster l refl)

  -- ---- it ends by itself

  module _ (normal : Bool) (keeps : KeepsNodes n a normal sim l) (runs : runs_at s n a ≡ true) (live_runs : is_here place ≡ true) where
    exit_fine : refused s (event.Exit n a normal) ≡ None
    unfolding refused
    exit_fine = by_hand s n a within known up (cond (not (runs_at s n a)) (Some NotRunningHere) None)
        ∙ ap (λ (b : Bool). cond (not b) (Some NotRunningHere) None) runs

    abbrev exiting : SystemView
    exiting = begun (net_in l) (event.Exit n a normal) l

    exiting_so : exiting ≡ record (held l) { ends_soon = true }
    unfolding forgotten
    exiting_so = refl

    exit_runs : system_with (net_in l) (event.Exit n a normal) l
        ≡ rested (settled most_moves l.order (called_if (ask.Exit normal) n a exiting))
    unfolding acted acted_at_once
    exit_runs = refl

    exit_ends : comes_to_an_end (net_in l) (event.Exit n a normal) l
        ≡ is_settled_by most_moves l.order (called_if (ask.Exit normal) n a exiting)
    unfolding is_acted is_quiet_at_once
    exit_ends = refl

    stay_so : (m : Node) → is_alive_at (held l) m ≡ true → is_to_end m (record (held l) { ends_soon = true }) ≡ false
    unfolding forgotten
    stay_so m is = and_left _ _ (keeps.stay m is)

    live_keeps : ends_with (keyfind a (node_at (held l) n).controller.started) normal ≡ false
    unfolding forgotten
    live_keeps = keeps.live_keeps

    abbrev exit_call : Call
    exit_call = call_at (record (held l) { ends_soon = true }) (ask.Exit normal) n a

    exit_number : exit_call.number ≡ (net_in l).last_call + 1
    unfolding forgotten
    exit_number = refl

    exit_comes : Comes sim l (event.Exit n a normal) (notice.Stopped a n ∷ []) (line.Stopped a n ∷ [])
    exit_comes =
        it_comes (ask.Exit normal) true refl stay_so (seen.Stopped a n ∷ [])
        (speaks_exit (record (held l) { ends_soon = true }) exit_call told refl stays normal live_runs live_keeps) (event.Exit n a normal)
        (notice.Stopped a n ∷ []) (line.Stopped a n ∷ []) exit_fine (not_refused sim l (event.Exit n a normal) together refl exit_fine)
        (without_it s n a at_rest.valid) (only_ends s n a at_rest.valid normal keeps.keeps sim.pick) refl refl refl refl
        (exit_runs ∙ ap (λ (t : SystemView). rested (settled most_moves l.order (called_if (ask.Exit normal) n a t))) exiting_so)
        (exit_ends ∙ ap (λ (t : SystemView). is_settled_by most_moves l.order (called_if (ask.Exit normal) n a t)) exiting_so)
        (λ t calls events. happened_so (net_in l) t n a exit_call exit_number refl calls events) (stop_text l.cluster l n a refl)

-- ---- the laws

-- what runs here stands among what runs
has_it : (o : Option Place) → is_here o ≡ true → is_some o ≡ true
has_it (Some x) is = refl
has_it None is = absurd (false≢true is)

module _ (sim : SimView) (l : LiveSimView) (n : Node) (a : App) (together : GoTogether sim l) (room : HasRoom sim l)
    (at_rest : AreBothAtRest sim l) where
  module _ (both : RunsOnBoth n a sim l) where
    started : is_started (state_of sim) n a ≡ true
    started = or_left (runs_at (state_of sim) n a) (waits_at (state_of sim) n a) both.runs

    live_runs : is_here (keyfind a (node_at (held l) n).controller.running) ≡ true
    unfolding forgotten
    live_runs = both.live_runs

    stop_so : Comes sim l (event.Stop n a) (notice.Stopped a n ∷ []) (line.Stopped a n ∷ [])
    stop_so =
        stop_comes sim l n a together room at_rest started both.can
        (or_left (has_row a (node_at (held l) n).controller.running) (has_row a (node_at (held l) n).controller.started) (has_it
        (keyfind a (node_at (held l) n).controller.running) live_runs))
        both.runs live_runs

    pub stop_alike : IsStoppedAlike (event.Stop n a) n a sim l
    stop_alike = comes_alike sim l (event.Stop n a) (notice.Stopped a n ∷ []) (line.Stopped a n ∷ []) together room at_rest stop_so

    pub stop_on : AreAlwaysAtRest sim l → GoesOn (call.Step (event.Stop n a)) sim l
    stop_on = goes_on sim l (event.Stop n a) (notice.Stopped a n ∷ []) (line.Stopped a n ∷ []) together room at_rest stop_so

    module _ (normal : Bool) (keeps : KeepsNodes n a normal sim l) where
      exit_so : Comes sim l (event.Exit n a normal) (notice.Stopped a n ∷ []) (line.Stopped a n ∷ [])
      exit_so = exit_comes sim l n a together room at_rest started both.can normal keeps both.runs live_runs

      pub exit_alike : IsStoppedAlike (event.Exit n a normal) n a sim l
      exit_alike =
          comes_alike sim l (event.Exit n a normal) (notice.Stopped a n ∷ []) (line.Stopped a n ∷ []) together room at_rest exit_so

      pub exit_on : AreAlwaysAtRest sim l → GoesOn (call.Step (event.Exit n a normal)) sim l
      exit_on = goes_on sim l (event.Exit n a normal) (notice.Stopped a n ∷ []) (line.Stopped a n ∷ []) together room at_rest exit_so

  module _ (both : WaitsOnBoth n a sim l) where
    waits_there : is_started (state_of sim) n a ≡ true
    waits_there = or_right (runs_at (state_of sim) n a) (waits_at (state_of sim) n a) both.waits

    live_waits : (has_row a (node_at (held l) n).controller.running || has_row a (node_at (held l) n).controller.started) ≡ true
    unfolding forgotten
    live_waits = both.live_waits

    live_runs_not : is_here (keyfind a (node_at (held l) n).controller.running) ≡ false
    unfolding forgotten
    live_runs_not = both.live_runs_not

    leave_so : Comes sim l (event.Stop n a) [] []
    leave_so =
        leave_comes sim l n a together room at_rest waits_there both.can live_waits
        (at_rest.valid.sound.once.apart n a both.waits) live_runs_not

    pub leave_alike : IsLeftAlike (event.Stop n a) sim l
    leave_alike = comes_alike sim l (event.Stop n a) [] [] together room at_rest leave_so

    pub leave_on : AreAlwaysAtRest sim l → GoesOn (call.Step (event.Stop n a)) sim l
    leave_on = goes_on sim l (event.Stop n a) [] [] together room at_rest leave_so

pub stops_alike : StopsWhereItRunsAreAnsweredAlike
stops_alike sim l n a together room at_rest both = stop_alike sim l n a together room at_rest both

pub exits_alike : ExitsWhereItRunsAreAnsweredAlike
exits_alike sim l n a normal together room at_rest both keeps = exit_alike sim l n a together room at_rest both normal keeps

pub leaves_alike : StopsWhereItWaitsAreAnsweredAlike
leaves_alike sim l n a together room at_rest both = leave_alike sim l n a together room at_rest both
