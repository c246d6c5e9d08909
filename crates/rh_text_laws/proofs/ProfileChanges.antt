-- In each profile an event is refused alike, and changes the same, unless it gives a permission back.
use Rattle.std.proofs.Common.{◌≡◌, ℕ, ◌+◌, ◌==◌, ◌&&◌, not, Bool, true, false, cond, List, [], ◌∷◌, ◌++◌, Some, None, refl, sym, ap, ◌∙◌}
use Rattle.rh_model.specs.ClusterView.{boot_of, sync_wait_of}
use Rattle.rh_model.specs.declared.node.Node.{Node}
use Rattle.rh_model.specs.declared.node.App.{App}
use Rattle.rh_model.specs.declared.settings.Restart.{Restart}
use Rattle.rh_model.specs.declared.settings.SyncWait.{SyncWait}
use Rattle.rh_model.specs.declared.settings.SyncWait.TheVariants.{Unset, After, Forever}
use Rattle.rh_state.specs.declared.status.Mode.TheVariants.{Waiting, Up}
use Rattle.rh_state.specs.declared.status.Standing.{Standing}
use Rattle.rh_state.specs.declared.status.Standing.TheVariants.{Quiet, Wanted, Running, Lost}
use Rattle.rh_state.specs.declared.status.Timer.TheVariants.{Sync, Failover}
use Rattle.rh_state.specs.First.{configured}
use Rattle.rh_state.specs.Numbers.{nodes_of, apps_of}
use Rattle.rh_state.specs.Standings.{is_quiet, is_lost_at, is_running_at}
use Rattle.rh_state.specs.StateView.{StateView, incarnation_of, runs_at, is_allowed, restart_of, standing_of}
use Rattle.rh_state.specs.Setters.{with_mode, with_incarnation, with_allowed, with_restart, with_standing, with_timer, with_waiting, without_due, unlisted}
use Rattle.rh_rules.specs.Placing.{missing_dep}
use Rattle.rh_rules.specs.declared.notice.Notice.TheVariants as notice
use Rattle.rh_rules.specs.Course.{Course, told, now_in, is_local}
use Rattle.rh_rules.specs.Moves.{with_stopped}
use Rattle.rh_rules.specs.NodesStart.{all_alive, is_ready, come_up, come_up_if_ready, ready_come_up, with_sync_timer, booted}
use Rattle.rh_rules.specs.declared.event.Event.{Event}
use Rattle.rh_rules.specs.declared.event.Event.TheVariants.{Boot, Crash, Start, Stop, Permit, Takeover, Exit, StartAll, StopAll}
use Rattle.rh_rules.specs.Marking.{with_distributed_standing, wanted_by_mark, with_mark, pair, mark, mark_booted, mark_all}
use Rattle.rh_rules.specs.NodesEnd.{timeout_of, cleared, lost_at, lost_if_ran, all_lost, ended}
use Rattle.rh_rules.specs.ByHand.{stopped, is_started_anywhere, quiet_if_nowhere, left_waiting, forbidden, pulls_back, freed_by, permission_set, permitted, taken_from, taken_over, ends_node, exited}
use Rattle.rh_rules.specs.Everywhere.{targets, has_host, has_target, missing_at_targets, start_at, start_all, leave_at, left_everywhere, quietened, stop_all}
use Rattle.rh_rules.specs.Steps.{change}
use Rattle.rh_rules.specs.Refusals.{refused}
use Rattle.rh_text_laws.specs.Profiles.{state_in, gives_back}
use Rattle.rh_text_laws.proofs.ProfileMoves.{swap, through, course_in}

pub refused_alike : (profile : ℕ) (s : StateView) (e : Event) → refused (state_in profile s) e ≡ refused s e
unfolding nodes_of missing_dep is_started_anywhere targets has_host has_target missing_at_targets refused
refused_alike profile s (Boot n) = refl
refused_alike profile s _ = refl

module _ (profile : ℕ) where
  -- the same state and the same course in the profile
  abbrev there : StateView → StateView
  there = state_in profile

  abbrev along : Course → Course
  along = course_in profile

  -- ---- marking
  standing_alike : (s : StateView) (a : App) (st : Standing) → with_distributed_standing (there s) a st ≡ there (with_distributed_standing s a st)
  standing_alike s a st = swap there (is_local s.cluster a) s (with_standing s a st)

  wanted_alike : (s : StateView) (n : Node) (a : App) (st : Standing) → wanted_by_mark (there s) n a st ≡ there (wanted_by_mark s n a st)
  wanted_alike s n a st =
      let back : StateView = without_due (with_standing s a (Wanted (Some n))) (Failover a) in
      ap (λ (t : StateView). cond (is_quiet st) t (cond (is_lost_at n st) (there back) (there s))) (standing_alike s a (Wanted None))
      ∙ ap (cond (is_quiet st) (there (with_distributed_standing s a (Wanted None)))) (swap there (is_lost_at n st) back s)
      ∙ swap there (is_quiet st) (with_distributed_standing s a (Wanted None)) (cond (is_lost_at n st) back s)

  marked_alike : (s : StateView) (n : Node) (a : App) (r : Restart) → with_mark (there s) n a r ≡ there (with_mark s n a r)
  unfolding with_mark
  marked_alike s n a r = wanted_alike (with_restart (with_waiting s n a) n a r) n a (standing_of s a)

  mark_alike : (o : Course) (n : Node) (a : App) (r : Restart) → mark (along o) n a r ≡ along (mark o n a r)
  mark_alike o n a r = ap (λ (s : StateView). record o { state = s; marked = o.marked ++ pair n a ∷ [] }) (marked_alike o.state n a r)

  all_marked_alike : (o : Course) (n : Node) (boot : List (App × Restart)) → mark_all (along o) n boot ≡ along (mark_all o n boot)
  unfolding mark_all
  all_marked_alike o n boot = through along (mark_booted n) (λ p b. mark_alike p n b.0 b.1) o boot

  -- ---- coming up
  pub comes_alike : (o : Course) (n : Node) → come_up (along o) n ≡ along (come_up o n)
  unfolding come_up
  comes_alike o n =
      all_marked_alike (told (now_in o (with_mode (without_due o.state (Sync n)) n Up)) (notice.Up n)) n (boot_of o.state.cluster n)

  ready_alike : (s : StateView) (n : Node) → is_ready (there s) n ≡ is_ready s n
  unfolding all_alive is_ready
  ready_alike s n = refl

  comes_if_alike : (o : Course) (n : Node) → come_up_if_ready (along o) n ≡ along (come_up_if_ready o n)
  unfolding come_up_if_ready
  comes_if_alike o n =
      ap (λ b. cond b (come_up (along o) n) (along o)) (ready_alike o.state n)
      ∙ ap (λ (p : Course). cond (is_ready o.state n) p (along o)) (comes_alike o n)
      ∙ swap along (is_ready o.state n) (come_up o n) o

  pub rising_alike : (o : Course) → ready_come_up (along o) ≡ along (ready_come_up o)
  unfolding nodes_of ready_come_up
  rising_alike o = through along come_up_if_ready comes_if_alike o (nodes_of o.state.cluster)

  -- ---- ending
  lost_alike : (n : Node) (s : StateView) (a : App) → lost_if_ran n (there s) a ≡ there (lost_if_ran n s a)
  unfolding lost_if_ran
  lost_alike n s a =
      let ran = is_running_at n (standing_of s a) in
      let wanted = with_standing s a (Wanted (Some n)) in
      let lost = with_timer (with_standing s a (Lost n)) (s.time + timeout_of s.cluster a) (Failover a) in
      ap (λ (t : StateView). cond ran t (there s)) (swap there (timeout_of s.cluster a == 0) wanted lost)
      ∙ swap there ran (lost_at s n a) s

  pub ended_alike : (o : Course) (n : Node) → ended (along o) n ≡ along (ended o n)
  unfolding apps_of configured cleared all_lost ended
  ended_alike o n =
      ap (λ (s : StateView). told (now_in o s) (notice.Ended n))
      (through there (lost_if_ran n) (lost_alike n) (cleared o.state n) (apps_of o.state.cluster))

  -- ---- what an operator changes by hand
  stopped_alike : (o : Course) (n : Node) (a : App) → stopped (along o) n a ≡ along (stopped o n a)
  unfolding stopped
  stopped_alike o n a = ap (λ (s : StateView). told (now_in o s) (notice.Stopped a n)) (standing_alike (unlisted o.state n a) a Quiet)

  quiet_alike : (s : StateView) (a : App) (st : Standing) → quiet_if_nowhere (there s) a st ≡ there (quiet_if_nowhere s a st)
  unfolding nodes_of is_started_anywhere
  quiet_alike s a Quiet = refl
  quiet_alike s a (Wanted from) = swap there (is_started_anywhere s a) s (with_standing s a Quiet)
  quiet_alike s a (Running m) = refl
  quiet_alike s a (Lost m) = swap there (is_started_anywhere s a) s (without_due (with_standing s a Quiet) (Failover a))

  left_alike : (o : Course) (n : Node) (a : App) → left_waiting (along o) n a ≡ along (left_waiting o n a)
  unfolding left_waiting
  left_alike o n a = ap (now_in o) (quiet_alike (unlisted o.state n a) a (standing_of o.state a))

  forbidden_alike : (o : Course) (n : Node) (a : App) → forbidden (along o) n a ≡ along (forbidden o n a)
  unfolding forbidden
  forbidden_alike o n a =
      ap (λ (s : StateView). told (now_in o s) (notice.Stopped a n))
      (standing_alike (with_stopped (with_allowed o.state n a false) n a) a (Wanted None))

  none_freed : (p : ℕ) (s : StateView) (n : Node) (a : App) (allow : Bool) → gives_back s (Permit n a allow) ≡ false → freed_by (state_in p s) n a allow ≡ []
  none_freed p s n a allow none = ap (λ b. cond (pulls_back p && b) (pair n a ∷ []) []) none ∙ by (pulls_back p)
    where
      by : (b : Bool) → cond (b && false) (pair n a ∷ []) [] ≡ []
      by true = refl
      by false = refl

  set_alike : (o : Course) (n : Node) (a : App) (allow : Bool) → gives_back o.state (Permit n a allow) ≡ false
      → permission_set (along o) n a allow ≡ along (permission_set o n a allow)
  set_alike o n a allow none =
      ap (λ ps. record (along o) { state = there (with_allowed o.state n a allow); freed = o.freed ++ ps })
      (none_freed profile o.state n a allow none ∙ sym (none_freed o.state.cluster.profile o.state n a allow none))

  permitted_alike : (o : Course) (n : Node) (a : App) (allow : Bool) → gives_back o.state (Permit n a allow) ≡ false
      → permitted (along o) n a allow ≡ along (permitted o n a allow)
  unfolding permitted
  permitted_alike o n a allow none =
      let leaves = not allow && (is_allowed o.state n a && runs_at o.state n a) in
      (λ i. cond leaves (forbidden_alike o n a i) (set_alike o n a allow none i))
      ∙ swap along leaves (forbidden o n a) (permission_set o n a allow)

  taken_alike : (o : Course) (n : Node) (a : App) (r : Restart) → taken_over (along o) n a r ≡ along (taken_over o n a r)
  unfolding taken_over
  taken_alike o n a r = by (standing_of o.state a)
    where
      by : (st : Standing) → taken_from (along o) n a r st ≡ along (taken_from o n a r st)
      by Quiet = refl
      by (Wanted from) = refl
      by (Running m) = refl
      by (Lost m) = refl

  exited_alike : (o : Course) (n : Node) (a : App) (normal : Bool) → exited (along o) n a normal ≡ along (exited o n a normal)
  unfolding exited
  exited_alike o n a normal =
      let ends = ends_node (restart_of o.state n a) normal in
      (λ i. cond ends (ended_alike o n i) (stopped_alike o n a i)) ∙ swap along ends (ended o n) (stopped o n a)

  -- ---- at all nodes
  start_alike : (o : Course) (a : App) (r : Restart) → start_all (along o) a r ≡ along (start_all o a r)
  unfolding nodes_of targets start_all
  start_alike o a r = through along (start_at a r) (λ p n. mark_alike p n a r) o (targets o.state a)

  leave_alike : (a : App) (o : Course) (n : Node) → leave_at a (along o) n ≡ along (leave_at a o n)
  leave_alike a o n =
      swap along (runs_at o.state n a) (told (now_in o (unlisted o.state n a)) (notice.Stopped a n)) (now_in o (unlisted o.state n a))

  stop_alike : (o : Course) (a : App) → stop_all (along o) a ≡ along (stop_all o a)
  unfolding nodes_of left_everywhere stop_all
  stop_alike o a =
      ap (λ (p : Course). now_in p (quietened p.state a)) (through along (leave_at a) (leave_alike a) o (nodes_of o.state.cluster))

  -- ---- each event
  synced_alike : (s : StateView) (n : Node) (wait : SyncWait) → with_sync_timer (there s) n wait ≡ there (with_sync_timer s n wait)
  synced_alike s n Unset = refl
  synced_alike s n (After ms) = refl
  synced_alike s n Forever = refl

  booted_alike : (s : StateView) (n : Node) → booted (there s) n ≡ there (booted s n)
  unfolding booted
  booted_alike s n = synced_alike (with_mode (with_incarnation s n (incarnation_of s n + 1)) n Waiting) n (sync_wait_of s.cluster n)

  pub change_alike : (o : Course) (e : Event) → gives_back o.state e ≡ false → change (along o) e ≡ along (change o e)
  change_alike o (Boot n) none = ap (now_in o) (booted_alike o.state n)
  change_alike o (Crash n) none = ended_alike o n
  change_alike o (Start n a r) none = mark_alike o n a r
  change_alike o (Stop n a) none =
      (λ i. cond (runs_at o.state n a) (stopped_alike o n a i) (left_alike o n a i)) ∙ swap along (runs_at o.state n a) (stopped o n a) (left_waiting o n a)
  change_alike o (Permit n a allow) none = permitted_alike o n a allow none
  change_alike o (Takeover n a r) none = taken_alike o n a r
  change_alike o (Exit n a normal) none = exited_alike o n a normal
  change_alike o (StartAll a r) none = start_alike o a r
  change_alike o (StopAll a) none = stop_alike o a
  change_alike o _ none = refl
