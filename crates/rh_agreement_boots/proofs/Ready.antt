-- By the manual's rules a node that begins waits, and where no node is ready behind that, it is all.
use Rattle.std.proofs.Common.{◌≡◌, ◌≢◌, ◌<◌, ◌≤◌, ◌+◌, ◌&&◌, ℕ, Bool, false, cond, List, [], ◌∷◌, fold, slice_get, slice_index, slice_set, unwrap_or, None, refl, sym, ap, subst, ◌∙◌, inl, inr, arith}
use Rattle.std.specs.List.{list_all}
use Rattle.std.proofs.lemmas.Bool.{cases_eq, false≢true}
use Rattle.std.proofs.lemmas.List.{get_or-set_same, get_or-set_other}
use Rattle.std.proofs.lemmas.List.Elements.{All-get_or}
use Rattle.rh_model.specs.ClusterView.{node_count, sync_wait_of, deps_of}
use Rattle.rh_model.specs.declared.node.App.{App}
use Rattle.rh_model.specs.declared.node.Node.{Node}
use Rattle.rh_model.specs.declared.settings.Dep.{Dep}
use Rattle.rh_model.specs.declared.settings.Dep.TheVariants.{Listed, Platform}
use Rattle.rh_model.specs.declared.settings.SyncWait.{SyncWait}
use Rattle.rh_model.specs.declared.settings.SyncWait.TheVariants.{Unset, After, Forever}
use Rattle.rh_rules.specs.declared.event.Event.TheVariants as event
use Rattle.rh_rules.specs.declared.notice.Move.TheVariants.{Local, Placement, Takeover}
use Rattle.rh_rules.specs.declared.pick.Pick.{Pick}
use Rattle.rh_rules.specs.Course.{Course, course_of, now_in}
use Rattle.rh_rules.specs.NodesStart.{with_sync_timer, booted, is_ready, come_up, come_up_if_ready, ready_come_up}
use Rattle.rh_rules.specs.Placing.{dep_runs, deps_run, is_operational, picked}
use Rattle.rh_rules.specs.Settling.{NoneEnabled, IsBest, nexts, settled, waits_told}
use Rattle.rh_rules.specs.Steps.{outcome, followed, next}
use Rattle.rh_refusals.proofs.Accepted.{CanBoot}
use Rattle.rh_state.specs.declared.status.Mode.{Mode}
use Rattle.rh_state.specs.declared.status.Mode.TheVariants as mode
use Rattle.rh_state.specs.Limits.{incarnation_limit}
use Rattle.rh_state.specs.Numbers.{nodes_of}
use Rattle.rh_state.specs.Setters.{with_mode, with_incarnation}
use Rattle.rh_state.specs.StateView.{StateView, mode_of, incarnation_of, is_started, is_allowed, is_alive, is_up}
use Rattle.rh_trace.specs.Validity.{IsSound, IsValid}
use Rattle.rh_trace.proofs.NextFirsts.{still_if_none_enabled}
use Rattle.rh_trace.proofs.NextMoves.{all_called}
use Rattle.rh_trace.proofs.Places.{at_set_here, at_set_there}
use Rattle.rh_settle.proofs.Fuel as fuel
use Rattle.rh_settle.proofs.Searches.{none_of_none}
use Rattle.rh_events.proofs.Fields.{booted_same}
use Rattle.rh_events.proofs.ModesKept.{booted_modes}
use Rattle.rh_events.proofs.SoundBooting.{sound_booted}

not_up : (far : Mode) → is_alive far ≡ false → is_up far ≡ false
not_up mode.Down down = refl
not_up mode.Waiting down = refl
not_up mode.Up down = down

-- ---- the node waits

-- all else is as it was
only_timers : (t : StateView) (n : Node) (wait : SyncWait)
    → with_sync_timer t n wait ≡ record t { timers = (with_sync_timer t n wait).timers }
only_timers t n Unset = refl
only_timers t n (After ms) = refl
only_timers t n Forever = refl

module _ (s : StateView) (n : Node) (valid : IsValid s) (can : CanBoot s n) where
  abbrev pub behind : StateView
  behind = booted s n

  pub sound : IsSound behind
  sound = sound_booted s n valid.sound can.node can.down can.incarnation

  pub cluster_so : behind.cluster ≡ s.cluster
  cluster_so = (booted_same s n).cluster

  pub time_so : behind.time ≡ s.time
  time_so = (booted_same s n).time

  behind_so : behind ≡ record s { modes = behind.modes; incarnations = behind.incarnations; timers = behind.timers }
  unfolding booted
  behind_so =
      let waiting : StateView = with_mode (with_incarnation s n (incarnation_of s n + 1)) n mode.Waiting in
      let same : behind ≡ record waiting { timers = behind.timers } = only_timers waiting n (sync_wait_of s.cluster n) in
      same ∙ (λ i. record s {
        modes = (sym same i).modes;
        incarnations = (sym same i).incarnations;
        timers = behind.timers;
      })

  pub mode_here : (m : Node) → m.0 ≡ n.0 → mode_of behind m ≡ mode.Waiting
  mode_here m here =
      ap (λ (modes : List Mode). unwrap_or (slice_get modes m.0) mode.Down) (booted_modes s n)
      ∙ ap (λ (k : ℕ). unwrap_or (slice_get (slice_set s.modes n.0 mode.Waiting) k) mode.Down) here
      ∙ at_set_here s.modes n.0 mode.Waiting mode.Down (omega (arith, can.node, valid.sound.shaped.modes))

  pub mode_there : (m : Node) → m.0 ≢ n.0 → mode_of behind m ≡ mode_of s m
  mode_there m other =
      ap (λ (modes : List Mode). unwrap_or (slice_get modes m.0) mode.Down) (booted_modes s n)
      ∙ at_set_there s.modes n.0 m.0 mode.Waiting mode.Down other

  incarnations_so : behind.incarnations ≡ slice_set s.incarnations n.0 (incarnation_of s n + 1)
  unfolding booted
  incarnations_so =
      ap (λ (t : StateView). t.incarnations)
      (only_timers (with_mode (with_incarnation s n (incarnation_of s n + 1)) n mode.Waiting) n (sync_wait_of s.cluster n))

  pub begun_here : (m : Node) → m.0 ≡ n.0 → incarnation_of behind m ≡ incarnation_of s n + 1
  begun_here m here =
      ap (λ (counts : List ℕ). slice_index counts m.0) incarnations_so
      ∙ ap (λ (k : ℕ). slice_index (slice_set s.incarnations n.0 (incarnation_of s n + 1)) k) here
      ∙ get_or-set_same s.incarnations n.0 (incarnation_of s n + 1) 0 (omega (arith, can.node, valid.sound.shaped.incarnations))

  pub begun_there : (m : Node) → m.0 ≢ n.0 → incarnation_of behind m ≡ incarnation_of s m
  begun_there m other =
      ap (λ (counts : List ℕ). slice_index counts m.0) incarnations_so
      ∙ get_or-set_other s.incarnations n.0 m.0 (incarnation_of s n + 1) 0 other

  pub begun_within : (m : Node) → m.0 < node_count behind.cluster → incarnation_of behind m ≤ incarnation_limit
  begun_within m inside =
      All-get_or (λ (count : ℕ). count ≤ incarnation_limit) behind.incarnations m.0 0
      (omega (arith, inside, sound.shaped.incarnations)) sound.shaped.limited

  -- ---- what could move could have before

  up_so : (m : Node) → is_up (mode_of behind m) ≡ is_up (mode_of s m)
  up_so m = elim (cases_eq m.0 n.0) [
    | inl here ↦ ap is_up (mode_here m here)
        ∙ sym (not_up (mode_of s m) (ap (λ (k : ℕ). is_alive (unwrap_or (slice_get s.modes k) mode.Down)) here ∙ can.down))
    | inr other ↦ ap is_up (mode_there m other)
  ]

  -- but for its modes, incarnations and timers
  abbrev then : StateView
  then = record s { modes = behind.modes; incarnations = behind.incarnations; timers = behind.timers }

  dep_so : (m : Node) (d : Dep) → dep_runs then m d ≡ dep_runs s m d
  dep_so m (Listed b) = refl
  dep_so m (Platform p) = refl

  deps_so : (m : Node) (a : App) → deps_run then m a ≡ deps_run s m a
  unfolding deps_run
  deps_so m a = λ i. list_all (λ (d : Dep). dep_so m d i) (deps_of s.cluster a)

  can_run : (a : App) (m : Node) → is_operational then a m ≡ is_operational s a m
  unfolding is_operational
  can_run a m = λ i. up_so m i && (is_started s m a && (is_allowed s m a && deps_so m a i))

  none_moves : NoneEnabled then []
  none_moves (Local m a) is = valid.still (Local m a) (is.0, is.1, is.2, is.3, sym (deps_so m a) ∙ is.4)
  none_moves (Placement a from m) is =
      let best : IsBest s a (is_operational then a) m = record {
        listed = is.2.listed;
        passes = is.2.passes;
        first = is.2.first;
        fewest = is.2.fewest;
      } in
      valid.still (Placement a from m) (is.0, is.1, subst (λ (test : Node → Bool). IsBest s a test m) (λ i k. can_run a k i) best)
  none_moves (Takeover a k m) is = false≢true (all_called then [] a k m is.2.passes).1

  module _ (unready : (m : Node) → is_ready behind m ≡ false) where
    abbrev course : Course
    course = now_in (course_of s [] []) behind

    none_comes_up : (nodes : List Node) → fold come_up_if_ready course nodes ≡ course
    unfolding come_up_if_ready
    none_comes_up [] = refl
    none_comes_up (m ∷ nodes) =
        ap (λ (b : Bool). fold come_up_if_ready (cond b (come_up course m) course) nodes) (unready m) ∙ none_comes_up nodes

    no_next : (pick : Pick) → picked pick (nexts course) ≡ None
    no_next pick =
        ap (picked pick) ((still_if_none_enabled behind []).1 (subst (λ (t : StateView). NoneEnabled t []) (sym behind_so) none_moves))
        ∙ sym (none_of_none pick)

    settles_so : (pick : Pick) → settled pick course ≡ course
    settles_so pick = ap waits_told (fuel.ended pick course (no_next pick))

    pub only_waits : (pick : Pick) → next s (event.Boot n) pick ≡ outcome behind []
    unfolding next followed ready_come_up
    only_waits pick =
        ap (λ (o : Course). outcome o.state o.notices) (ap (settled pick) (none_comes_up (nodes_of behind.cluster)) ∙ settles_so pick)
