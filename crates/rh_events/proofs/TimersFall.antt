-- Coming up sets no timer, nor does a node that ends where nothing runs.
use Rattle.std.proofs.Common.{◌≡◌, ℕ, ◌≤◌, Bool, true, false, cond, not, List, [], ◌∷◌, length, Some, None, refl, ap, ◌∙◌, arith, fold}
use Rattle.std.proofs.lemmas.List.Filters.{length-filter_both}
use Rattle.rh_model.specs.ClusterView.{boot_of}
use Rattle.rh_model.specs.declared.node.Node.{Node}
use Rattle.rh_model.specs.declared.node.App.{App}
use Rattle.rh_model.specs.declared.settings.Restart.{Restart}
use Rattle.rh_state.specs.declared.status.Mode.TheVariants.{Up}
use Rattle.rh_state.specs.declared.status.Standing.{Standing}
use Rattle.rh_state.specs.declared.status.Standing.TheVariants.{Quiet, Wanted, Running, Lost}
use Rattle.rh_state.specs.declared.status.Timer.{Timer}
use Rattle.rh_state.specs.declared.status.Timer.TheVariants.{Sync, Failover}
use Rattle.rh_state.specs.Numbers.{nodes_of, apps_of, same_node}
use Rattle.rh_state.specs.Timers.{same_timer, without_timer}
use Rattle.rh_state.specs.StateView.{StateView, standing_of}
use Rattle.rh_state.specs.Setters.{with_mode, with_standing, with_restart, with_waiting, without_due}
use Rattle.rh_rules.specs.declared.notice.Notice.TheVariants as notice
use Rattle.rh_rules.specs.Course.{Course, told, now_in, is_local}
use Rattle.rh_rules.specs.NodesStart.{is_ready, come_up, come_up_if_ready, ready_come_up}
use Rattle.rh_rules.specs.Marking.{with_distributed_standing, wanted_by_mark, with_mark, mark, mark_booted, mark_all}
use Rattle.rh_rules.specs.NodesEnd.{cleared, lost_at, lost_from, lost_if_ran, all_lost, ended}

abbrev pub timer_count : Course → ℕ
timer_count o = length o.state.timers

pub fewer_without : (t : Timer) (entries : List (ℕ × Timer)) → length (without_timer t entries) ≤ length entries
fewer_without t entries =
    let parts = length-filter_both (λ (entry : ℕ × Timer). not (same_timer t entry.1)) (λ entry. not (not (same_timer t entry.1))) (λ entry. refl) entries in
    omega (arith, parts)

-- ---- coming up only cancels
standing_timers : (s : StateView) (a : App) (st : Standing) → length (with_distributed_standing s a st).timers ≤ length s.timers
standing_timers s a st = by (is_local s.cluster a)
  where
    by : (b : Bool) → length (cond b s (with_standing s a st)).timers ≤ length s.timers
    by true = omega arith
    by false = omega arith

wanted_timers : (s : StateView) (n : Node) (a : App) (st : Standing) → length (wanted_by_mark s n a st).timers ≤ length s.timers
wanted_timers s n a Quiet = standing_timers s a (Wanted None)
wanted_timers s n a (Lost m) = by (same_node m n)
  where
    by : (b : Bool) → length (cond b (without_due (with_standing s a (Wanted (Some n))) (Failover a)) s).timers ≤ length s.timers
    by true = fewer_without (Failover a) s.timers
    by false = omega arith
wanted_timers s n a (Wanted from) = omega arith
wanted_timers s n a (Running m) = omega arith

pub mark_timers : (o : Course) (n : Node) (a : App) (r : Restart) → timer_count (mark o n a r) ≤ timer_count o
unfolding with_mark
mark_timers o n a r = wanted_timers (with_restart (with_waiting o.state n a) n a r) n a (standing_of o.state a)

marks_timers : (n : Node) (boot : List (App × Restart)) (o : Course) → timer_count (fold (mark_booted n) o boot) ≤ timer_count o
marks_timers n [] o = omega arith
marks_timers n (b ∷ bs) o = let h = mark_timers o n b.0 b.1 in let r = marks_timers n bs (mark o n b.0 b.1) in omega (arith, h, r)

pub come_up_timers : (o : Course) (n : Node) → timer_count (come_up o n) ≤ timer_count o
unfolding come_up mark_all
come_up_timers o n =
    let r = marks_timers n (boot_of o.state.cluster n) (told (now_in o (with_mode (without_due o.state (Sync n)) n Up)) (notice.Up n)) in
    let f = fewer_without (Sync n) o.state.timers in omega (arith, r, f)

each_timers : (ns : List Node) (o : Course) → timer_count (fold come_up_if_ready o ns) ≤ timer_count o
unfolding come_up_if_ready
each_timers [] o = omega arith
each_timers (n ∷ ns) o = let h = by (is_ready o.state n) in let r = each_timers ns (come_up_if_ready o n) in omega (arith, h, r)
  where
    by : (b : Bool) → timer_count (cond b (come_up o n) o) ≤ timer_count o
    by true = come_up_timers o n
    by false = omega arith

pub ready_timers : (o : Course) → timer_count (ready_come_up o) ≤ timer_count o
unfolding ready_come_up
ready_timers o = each_timers (nodes_of o.state.cluster) o

-- ---- a node at which nothing runs ends, and sets no timer
abbrev pub NoneRunsAt : StateView → Node → Type 0
NoneRunsAt s n = (a : App) (m : Node) → standing_of s a ≡ Running m → same_node m n ≡ false

pub none_lost : (n : Node) (s : StateView) (apps : List App) → NoneRunsAt s n → fold (lost_if_ran n) s apps ≡ s
unfolding lost_if_ran
none_lost n s [] h = refl
none_lost n s (a ∷ apps) h = ap (λ (t : StateView). fold (lost_if_ran n) t apps) (by (standing_of s a) refl) ∙ none_lost n s apps h
  where
    by : (st : Standing) → standing_of s a ≡ st → lost_from s n a st ≡ s
    by (Running m) e = ap (λ b. cond b (lost_at s n a) s) (h a m e)
    by Quiet e = refl
    by (Wanted from) e = refl
    by (Lost m) e = refl

pub ended_timers : (o : Course) (n : Node) → NoneRunsAt o.state n → timer_count (ended o n) ≤ timer_count o
unfolding ended all_lost cleared
ended_timers o n h =
    let e = ap (λ (s : StateView). length s.timers) (none_lost n (cleared o.state n) (apps_of o.state.cluster) h) in
    let f = fewer_without (Sync n) o.state.timers in omega (arith, e, f)
