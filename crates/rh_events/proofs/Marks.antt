-- What marks change of a state, and what they leave as it was.
use Rattle.std.proofs.Common.{◌≡◌, ◌≢◌, ℕ, Bool, true, false, cond, List, [], ◌∷◌, fold, refl, Some, None}
use Rattle.rh_model.specs.declared.node.Node.{Node}
use Rattle.rh_model.specs.declared.node.App.{App}
use Rattle.rh_model.specs.declared.settings.Restart.{Restart}
use Rattle.rh_state.specs.declared.status.Standing.{Standing}
use Rattle.rh_state.specs.declared.status.Standing.TheVariants.{Quiet, Wanted, Running, Lost}
use Rattle.rh_state.specs.declared.status.Timer.{Timer}
use Rattle.rh_state.specs.declared.status.Timer.TheVariants.{Failover}
use Rattle.rh_state.specs.Numbers.{same_node}
use Rattle.rh_state.specs.Timers.{without_timer}
use Rattle.rh_state.specs.StateView.{StateView, runs_at, waits_at, is_started, standing_of}
use Rattle.rh_state.specs.Setters.{with_restart, with_standing, with_waiting, without_due}
use Rattle.rh_rules.specs.Course.{is_local, Course}
use Rattle.rh_rules.specs.Marking.{wanted_by_mark, with_mark, mark, mark_booted}
use Rattle.rh_base.proofs.Truths.{both, same_number}
use Rattle.rh_trace.proofs.Entries.{is_false, put_has}
use Rattle.rh_events.proofs.SoundMarks.{not_started, neither}

-- what holds whatever the standings and the timers are, holds after a pair is wanted by a mark
pub wanted_any : (P : StateView → Type 0) (s : StateView) (n : Node) (a : App) (st : Standing)
    → ((standings : List Standing) (timers : List (ℕ × Timer)) → P (record s { standings = standings; timers = timers }))
    → P (wanted_by_mark s n a st)
wanted_any P s n a Quiet each = by (is_local s.cluster a)
  where
    by : (p : Bool) → P (cond p s (with_standing s a (Wanted None)))
    by true = each s.standings s.timers
    by false = each (with_standing s a (Wanted None)).standings s.timers
wanted_any P s n a (Wanted from) each = each s.standings s.timers
wanted_any P s n a (Running m) each = each s.standings s.timers
wanted_any P s n a (Lost m) each = by (same_node m n)
  where
    by : (p : Bool) → P (cond p (without_due (with_standing s a (Wanted (Some n))) (Failover a)) s)
    by true = each (with_standing s a (Wanted (Some n))).standings (without_timer (Failover a) s.timers)
    by false = each s.standings s.timers

-- a state whose waiting lists, restart types, standings and timers are others
abbrev pub remade : StateView → List (List App) → List (List Restart) → List Standing → List (ℕ × Timer) → StateView
remade s waiting restarts standings timers = record s { waiting = waiting; restarts = restarts; standings = standings; timers = timers }

pub mark_any : (P : StateView → Type 0) (s : StateView) (n : Node) (a : App) (r : Restart)
    → ((waiting : List (List App)) (restarts : List (List Restart)) (standings : List Standing) (timers : List (ℕ × Timer))
    → P (remade s waiting restarts standings timers)) → P (with_mark s n a r)
unfolding with_mark
mark_any P s n a r each =
    let t : StateView = with_restart (with_waiting s n a) n a r in
    wanted_any P t n a (standing_of s a) (λ standings timers. each t.waiting t.restarts standings timers)

-- so with all marks of a boot list
pub marks_any : (P : StateView → Type 0) (o : Course) (n : Node) (boot : List (App × Restart))
    → ((waiting : List (List App)) (restarts : List (List Restart)) (standings : List Standing) (timers : List (ℕ × Timer))
    → P (remade o.state waiting restarts standings timers)) → P (fold (mark_booted n) o boot).state
marks_any P o n [] each = each o.state.waiting o.state.restarts o.state.standings o.state.timers
marks_any P o n (b ∷ boot) each = marks_any P (mark o n b.0 b.1) n boot
    (mark_any (λ s. (waiting : List (List App)) (restarts : List (List Restart)) (standings : List Standing) (timers : List (ℕ × Timer))
    → P (remade s waiting restarts standings timers))
    o.state n b.0 b.1 (λ w r st ts waiting restarts standings timers. each waiting restarts standings timers))

-- an application that isn't started at a node is not started there by the mark of another
waiting_kept : (s : StateView) (n : Node) (a b : App) → b.0 ≢ a.0 → is_started s n b ≡ false → is_started (with_waiting s n a) n b ≡ false
waiting_kept s n a b other off =
    let apart = not_started (runs_at s n b) (waits_at s n b) off in
    neither (runs_at s n b) (waits_at (with_waiting s n a) n b) apart.0
    (is_false (waits_at (with_waiting s n a) n b) (λ w. put_has s.waiting n.0 n.0 a b w (λ was. both (waits_at s n b) was apart.1)
    (λ e same. absurd (other (same_number b.0 a.0 same)))))

pub mark_starts_no_other : (s : StateView) (n : Node) (a b : App) (r : Restart) → b.0 ≢ a.0 → is_started s n b ≡ false
    → is_started (with_mark s n a r) n b ≡ false
unfolding with_mark
mark_starts_no_other s n a b r other off =
    wanted_any (λ t. is_started t n b ≡ false) (with_restart (with_waiting s n a) n a r) n a (standing_of s a)
    (λ standings timers. waiting_kept s n a b other off)

-- cluster and modes are as they were
pub mark_cluster : (s : StateView) (n : Node) (a : App) (r : Restart) → (with_mark s n a r).cluster ≡ s.cluster
mark_cluster s n a r = mark_any (λ t. t.cluster ≡ s.cluster) s n a r (λ w r st ts. refl)

pub mark_modes : (s : StateView) (n : Node) (a : App) (r : Restart) → (with_mark s n a r).modes ≡ s.modes
mark_modes s n a r = mark_any (λ t. t.modes ≡ s.modes) s n a r (λ w r st ts. refl)
