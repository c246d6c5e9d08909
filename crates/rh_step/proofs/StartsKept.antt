-- What keeps each start of a local application at a marked pair.
use Rattle.std.proofs.Common.{◌≡◌, ◌<◌, ◌==◌, ◌&&◌, ℕ, Bool, true, false, cond, List, [], ◌∷◌, ◌++◌, fold, refl, ap, ◌∙◌, arith}
use Rattle.std.proofs.lemmas.Bool.{and_parts}
use Rattle.rh_model.specs.ClusterView.{mandatory_of, boot_of}
use Rattle.rh_model.specs.declared.node.Node.{Node}
use Rattle.rh_model.specs.declared.node.App.{App}
use Rattle.rh_model.specs.declared.settings.Restart.{Restart}
use Rattle.rh_state.specs.declared.status.Mode.TheVariants.{Up}
use Rattle.rh_state.specs.declared.status.Timer.{Timer}
use Rattle.rh_state.specs.declared.status.Timer.TheVariants.{Sync, Failover}
use Rattle.rh_state.specs.Numbers.{nodes_of}
use Rattle.rh_state.specs.Setters.{with_mode, with_restart, with_waiting, without_due, unlisted}
use Rattle.rh_state.specs.StateView.{StateView, runs_at, is_allowed, restart_of, standing_of}
use Rattle.rh_rules.specs.declared.event.Event.{Event}
use Rattle.rh_rules.specs.declared.event.Event.TheVariants.{Boot, Crash, Start, Stop, Permit, Takeover, Exit, StartAll, StopAll}
use Rattle.rh_rules.specs.declared.notice.Move.TheVariants.{Local}
use Rattle.rh_rules.specs.declared.notice.Notice.TheVariants as notice
use Rattle.rh_rules.specs.declared.notice.Pair.{Pair}
use Rattle.rh_rules.specs.Course.{Course, course_of, told, now_in, is_fresh, is_local}
use Rattle.rh_rules.specs.Moves.{can_start}
use Rattle.rh_rules.specs.Marking.{pair, with_mark, mark, mark_booted, mark_all}
use Rattle.rh_rules.specs.NodesStart.{all_alive, is_ready, come_up, come_up_if_ready, ready_come_up}
use Rattle.rh_rules.specs.NodesEnd.{ended}
use Rattle.rh_rules.specs.ByHand.{stopped, left_waiting, forbidden, permitted, permission_set, ends_node, exited}
use Rattle.rh_rules.specs.Everywhere.{targets, start_at, start_all, leave_at, left_everywhere, quietened, stop_all}
use Rattle.rh_rules.specs.Time.{effect, taken_off}
use Rattle.rh_rules.specs.Steps.{change}
use Rattle.rh_settle.specs.Starting.{StartsAreMarked}
use Rattle.rh_trace.specs.Validity.{IsValid}
use Rattle.rh_trace.proofs.Entries.{put_has, row_there}
use Rattle.rh_base.proofs.Truths.{same_refl, or_left, or_right}
use Rattle.rh_trace.proofs.Places.{or_true}
use Rattle.rh_events.proofs.Marks.{wanted_any}
use Rattle.rh_step.specs.Starting.{may_let_start}
use Rattle.rh_step.proofs.StartsFewer.{could_start, is_permitted, StartsFewer, alike, restood_fewer, booted_fewer, ended_fewer, unlisted_fewer}
use Rattle.rh_step.proofs.StartsFewer.{stopped_fewer, left_waiting_fewer, wanted_fewer, refused_fewer, forbidden_fewer}

-- where no more can start, and the marks are the same
starts_kept : (o p : Course) → StartsFewer o.state p.state → p.marked ≡ o.marked → StartsAreMarked o → StartsAreMarked p
starts_kept o p fewer same h n a w start =
    let was = fewer.waited n a w (is_permitted p.state n a start) in
    ap (λ ps. is_fresh ps n a) same ∙ h n a was.0 (could_start o.state p.state fewer.cluster fewer.ran n a was.1 start)

-- ---- marks
-- a pair is fresh among more
still_fresh : (ps : List Pair) (p : Pair) (n : Node) (a : App) → is_fresh ps n a ≡ true → is_fresh (ps ++ p ∷ []) n a ≡ true
still_fresh [] p n a h = cc h
still_fresh (q ∷ ps) p n a h = or_true ((n.0 == q.node.0) && (a.0 == q.app.0)) _ _ (still_fresh ps p n a) h

last_fresh : (ps : List Pair) (n m : Node) (a b : App) → m.0 ≡ n.0 → (b.0 == a.0) ≡ true → is_fresh (ps ++ pair n a ∷ []) m b ≡ true
last_fresh [] n m a b here same = or_left ((m.0 == n.0) && (b.0 == a.0)) false (λ i. (ap (λ k. k == n.0) here ∙ same_refl n.0) i && same i)
last_fresh (q ∷ ps) n m a b here same = or_right ((m.0 == q.node.0) && (b.0 == q.app.0)) _ (last_fresh ps n m a b here same)

-- the pair that is marked is the only one that waits now and didn't before
pub starts_mark : (o : Course) (n : Node) (a : App) (r : Restart) → StartsAreMarked o → StartsAreMarked (mark o n a r)
unfolding with_mark
starts_mark o n a r h = wanted_any (λ t. StartsAreMarked (record o { state = t; marked = o.marked ++ pair n a ∷ [] }))
    (with_restart (with_waiting o.state n a) n a r) n a (standing_of o.state a)
    (λ standings timers m b w start. put_has o.state.waiting n.0 m.0 a b w
    (λ before. still_fresh o.marked (pair n a) m b (h m b before (could_start o.state _ refl (λ k c runs. runs) m b (is_permitted _ m b start) start)))
    (λ here same. last_fresh o.marked n m a b here same))

starts_booted : (n : Node) (boot : List (App × Restart)) (o : Course) → StartsAreMarked o → StartsAreMarked (fold (mark_booted n) o boot)
starts_booted n [] o h = h
starts_booted n (b ∷ boot) o h = starts_booted n boot (mark o n b.0 b.1) (starts_mark o n b.0 b.1 h)

starts_each : (a : App) (r : Restart) (ns : List Node) (o : Course) → StartsAreMarked o → StartsAreMarked (fold (start_at a r) o ns)
starts_each a r [] o h = h
starts_each a r (n ∷ ns) o h = starts_each a r ns (mark o n a r) (starts_mark o n a r h)

starts_all : (o : Course) (a : App) (r : Restart) → StartsAreMarked o → StartsAreMarked (start_all o a r)
unfolding start_all
starts_all o a r h = starts_each a r (targets o.state a) o h

-- ---- nodes come up
starts_come_up : (o : Course) (n : Node) → StartsAreMarked o → StartsAreMarked (come_up o n)
unfolding come_up mark_all
starts_come_up o n h =
    let p : Course = told (now_in o (with_mode (without_due o.state (Sync n)) n Up)) (notice.Up n) in
    starts_booted n (boot_of o.state.cluster n) p (starts_kept o p (alike o.state p.state refl refl refl refl) refl h)

starts_rising : (ns : List Node) (o : Course) → StartsAreMarked o → StartsAreMarked (fold come_up_if_ready o ns)
unfolding come_up_if_ready
starts_rising [] o h = h
starts_rising (n ∷ ns) o h = starts_rising ns (come_up_if_ready o n) (by (is_ready o.state n))
  where
    by : (b : Bool) → StartsAreMarked (cond b (come_up o n) o)
    by true = starts_come_up o n h
    by false = h

pub starts_ready : (o : Course) → StartsAreMarked o → StartsAreMarked (ready_come_up o)
unfolding ready_come_up
starts_ready o h = starts_rising (nodes_of o.state.cluster) o h

-- ---- a node or an application ends
starts_ended : (o : Course) (n : Node) → StartsAreMarked o → StartsAreMarked (ended o n)
unfolding ended
starts_ended o n h = starts_kept o (ended o n) (ended_fewer o.state n) refl h

starts_stopped : (o : Course) (n : Node) (a : App) → StartsAreMarked o → StartsAreMarked (stopped o n a)
unfolding stopped
starts_stopped o n a h = starts_kept o (stopped o n a) (stopped_fewer o.state n a) refl h

starts_stop : (o : Course) (n : Node) (a : App) → StartsAreMarked o → StartsAreMarked (change o (Stop n a))
unfolding left_waiting
starts_stop o n a h = by (runs_at o.state n a)
  where
    by : (b : Bool) → StartsAreMarked (cond b (stopped o n a) (left_waiting o n a))
    by true = starts_stopped o n a h
    by false = starts_kept o (left_waiting o n a) (left_waiting_fewer o.state n a) refl h

starts_exited : (o : Course) (n : Node) (a : App) (normal : Bool) → StartsAreMarked o → StartsAreMarked (exited o n a normal)
unfolding exited
starts_exited o n a normal h = by (ends_node (restart_of o.state n a) normal)
  where
    by : (b : Bool) → StartsAreMarked (cond b (ended o n) (stopped o n a))
    by true = starts_ended o n h
    by false = starts_stopped o n a h

starts_leave : (a : App) (n : Node) (o : Course) → StartsAreMarked o → StartsAreMarked (leave_at a o n)
starts_leave a n o h = by (runs_at o.state n a)
  where
    left : Course
    left = now_in o (unlisted o.state n a)

    by : (b : Bool) → StartsAreMarked (cond b (told left (notice.Stopped a n)) left)
    by true = starts_kept o (told left (notice.Stopped a n)) (unlisted_fewer o.state n a) refl h
    by false = starts_kept o left (unlisted_fewer o.state n a) refl h

starts_left : (a : App) (ns : List Node) (o : Course) → StartsAreMarked o → StartsAreMarked (fold (leave_at a) o ns)
starts_left a [] o h = h
starts_left a (n ∷ ns) o h = starts_left a ns (leave_at a o n) (starts_leave a n o h)

starts_stop_all : (o : Course) (a : App) → StartsAreMarked o → StartsAreMarked (stop_all o a)
unfolding stop_all left_everywhere
starts_stop_all o a h =
    let p : Course = fold (leave_at a) o (nodes_of o.state.cluster) in
    let t : StateView = quietened p.state a in
    starts_kept p (now_in p t) (restood_fewer p.state t.standings t.timers) refl (starts_left a (nodes_of o.state.cluster) o h)

-- ---- a permission is taken
starts_forbidden : (o : Course) (n : Node) (a : App) → StartsAreMarked o → StartsAreMarked (permitted o n a false)
unfolding permitted forbidden
starts_forbidden o n a h = by (is_allowed o.state n a && runs_at o.state n a)
  where
    by : (b : Bool) → StartsAreMarked (cond b (forbidden o n a) (permission_set o n a false))
    by true = starts_kept o (forbidden o n a) (forbidden_fewer o.state n a) refl h
    by false = starts_kept o (permission_set o n a false) (refused_fewer o.state n a) refl h

-- ---- an event's own change
pub starts_changed : (o : Course) (e : Event) → may_let_start e ≡ false → StartsAreMarked o → StartsAreMarked (change o e)
starts_changed o (Boot n) keeps h = starts_kept o (now_in o _) (booted_fewer o.state n) refl h
starts_changed o (Crash n) keeps h = starts_ended o n h
starts_changed o (Start n a r) keeps h = starts_mark o n a r h
starts_changed o (Stop n a) keeps h = starts_stop o n a h
starts_changed o (Permit n a true) keeps h = absurd (cc keeps)
starts_changed o (Permit n a false) keeps h = starts_forbidden o n a h
starts_changed o (Takeover n a r) keeps h = absurd (cc keeps)
starts_changed o (Exit n a normal) keeps h = starts_exited o n a normal h
starts_changed o (StartAll a r) keeps h = starts_all o a r h
starts_changed o (StopAll a) keeps h = starts_stop_all o a h
starts_changed o _ keeps h = h

-- ---- a timer fires
-- in a valid state none can start
pub none_starts : (o : Course) → IsValid o.state → StartsAreMarked o
unfolding can_start
none_starts o valid n a w start =
    let h = and_parts (is_local o.state.cluster a) _ start in
    let k = and_parts (is_allowed o.state n a) _ h.1 in
    absurd (valid.still (Local n a) (inside (row_there o.state.waiting n.0 a w) valid.sound.shaped.waiting, h.0, w, k.0, k.1))
  where
    inside : {k count : ℕ} → n.0 < k → k ≡ count → n.0 < count
    inside lt e = omega (arith, lt, e)

starts_effect : (o : Course) (t : Timer) → StartsAreMarked o → StartsAreMarked (effect o t)
starts_effect o (Sync n) h = by (all_alive o.state (mandatory_of o.state.cluster n))
  where
    by : (b : Bool) → StartsAreMarked (cond b (come_up o n) (ended o n))
    by true = starts_come_up o n h
    by false = starts_ended o n h
starts_effect o (Failover a) h = starts_kept o (effect o (Failover a)) (wanted_fewer o.state a (standing_of o.state a)) refl h

pub starts_fired : (o : Course) (entry : ℕ × Timer) → IsValid o.state → StartsAreMarked (effect (taken_off o entry) entry.1)
starts_fired o entry valid =
    let before : Course = course_of o.state o.notices [] in
    starts_effect (taken_off o entry) entry.1
    (starts_kept before (taken_off o entry) (alike o.state (taken_off o entry).state refl refl refl refl) refl (none_starts before valid))
