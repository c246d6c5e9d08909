-- What is asked of a state (Distributed Applications; kernel(6), sync_nodes_timeout, distributed; ours).
use Rattle.std.specs.Prelude.{ℕ, ◌≤◌, ◌+◌, count_by, Bool, true, not, nat_le, is_some, is_none, Option, Some, None, ◌||◌, ◌&&◌}
use Rattle.std.specs.List.{list_any, list_all}
use Rattle.rh_model.specs.declared.node.App.{App}
use Rattle.rh_state.specs.declared.status.Timer.{Timer}
use Rattle.rh_state.specs.Limits.{time_limit}
use Rattle.rh_state.specs.Numbers.{nodes_of}
use Rattle.rh_state.specs.StateView.{StateView, earliest, is_up, mode_of, runs_at}
use Rattle.rh_rules.specs.declared.pick.Pick.{Pick}
use Rattle.rh_rules.specs.Refusals.{refused}
use Rattle.rh_step.specs.Runs.{step}
use Rattle.rh_explore.specs.declared.asking.Ask.{Ask}
use Rattle.rh_explore.specs.declared.asking.Condition.{Condition}
use Rattle.rh_explore.specs.declared.asking.Condition.TheVariants.{RunsSomewhere, RunsNowhere, RunsAt, IsUp, IsNotUp, RunsAtMostOnce, NothingHangs}
use Rattle.rh_explore.specs.Moves.{ms_to, wait_for}

-- a sync timer or a failover timer is set
abbrev pub has_timer : StateView → Bool
has_timer s = is_some (earliest s)

-- the application runs at some node
abbrev pub runs_somewhere : StateView → App → Bool
runs_somewhere s a = list_any (λ n. runs_at s n a) (nodes_of s.cluster)

-- at how many nodes it does
abbrev pub places : StateView → App → ℕ
places s a = count_by (λ n. runs_at s n a) (nodes_of s.cluster)

-- a condition is so; nothing hangs by these rules
abbrev pub is_so : StateView → Condition → Bool
is_so s (RunsSomewhere a) = runs_somewhere s a
is_so s (RunsNowhere a) = not (runs_somewhere s a)
is_so s (RunsAt a n) = runs_at s n a
is_so s (IsUp n) = is_up (mode_of s n)
is_so s (IsNotUp n) = not (is_up (mode_of s n))
is_so s (RunsAtMostOnce a) = nat_le (places s a) 1
is_so s NothingHangs = true

-- all conditions of one of its lists are so
abbrev pub is_met : Ask → StateView → Bool
is_met ask s = list_any (λ conditions. list_all (is_so s) conditions.items) ask.any_of.items

-- time may pass until a timer is due, which is no more than so many milliseconds, and then they are
abbrev pub is_met_at : Pick → Ask → ℕ → StateView → ℕ × Timer → Bool
is_met_at pick ask ms s entry =
    nat_le (ms_to s entry) ms && (is_none (refused s (wait_for s entry)) && is_met ask (step pick s (wait_for s entry)))

-- they are at once; or, where that is asked, at one of the timers
abbrev pub is_met_by : Pick → Ask → Option ℕ → StateView → Bool
is_met_by pick ask None s = is_met ask s
is_met_by pick ask (Some ms) s = is_met ask s || list_any (is_met_at pick ask ms s) s.timers

-- it isn't asked there, or it is met
abbrev pub holds_in : Pick → Ask → StateView → Bool
holds_in pick ask s = (not ask.always && has_timer s) || is_met_by pick ask ask.within s

-- the limit of time is no sooner than what is asked
abbrev pub MayWait : Option ℕ → StateView → Type 0
MayWait None s = Unit {0}
MayWait (Some ms) s = s.time + ms ≤ time_limit
