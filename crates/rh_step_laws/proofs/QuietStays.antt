-- An application that is quiet stays quiet, until somebody starts it or a node comes up that boots it.
use Rattle.std.proofs.Common.{◌≡◌, ◌⊎◌, ◌+◌, ◌==◌, ◌&&◌, ℕ, Bool, true, false, cond, not, List, [], ◌∷◌, fold, None, Some, refl, sym, ap, ◌∙◌, inl, inr}
use Rattle.std.proofs.Common.{slice_get, unwrap_or}
use Rattle.std.specs.List.{Contains, list_any}
use Rattle.std.proofs.lemmas.Bool.{and_parts}
use Rattle.rh_model.specs.ClusterView.{ClusterView, boot_of, mandatory_of}
use Rattle.rh_model.specs.declared.node.Node.{Node}
use Rattle.rh_model.specs.declared.node.App.{App}
use Rattle.rh_model.specs.declared.settings.Restart.{Restart}
use Rattle.rh_state.specs.declared.status.Mode.TheVariants.{Up}
use Rattle.rh_state.specs.declared.status.Standing.{Standing}
use Rattle.rh_state.specs.declared.status.Standing.TheVariants.{Quiet, Wanted, Running, Lost}
use Rattle.rh_state.specs.declared.status.Timer.{Timer}
use Rattle.rh_state.specs.declared.status.Timer.TheVariants.{Sync, Failover}
use Rattle.rh_state.specs.Numbers.{same_node, same_app, nodes_of, apps_of}
use Rattle.rh_state.specs.StateView.{StateView, standing_of, runs_at, is_allowed, restart_of}
use Rattle.rh_state.specs.Setters.{with_mode, with_standing, with_timer, with_allowed, without_due, unlisted}
use Rattle.rh_rules.specs.declared.pick.Pick.{Pick}
use Rattle.rh_rules.specs.declared.notice.Notice.TheVariants as notice
use Rattle.rh_rules.specs.Course.{Course, course_of, told, now_in, is_local}
use Rattle.rh_rules.specs.Moves.{with_stopped}
use Rattle.rh_rules.specs.NodesStart.{all_alive, is_ready, come_up, come_up_if_ready, ready_come_up}
use Rattle.rh_rules.specs.Settling.{settled}
use Rattle.rh_trace.specs.Validity.{IsSound}
use Rattle.rh_rules.specs.declared.event.Event.{Event}
use Rattle.rh_rules.specs.declared.event.Event.TheVariants.{Boot, Crash, Tick, Start, Stop, Permit, Takeover, Exit, StartAll, StopAll}
use Rattle.rh_rules.specs.Marking.{mark, mark_booted, mark_all}
use Rattle.rh_rules.specs.NodesEnd.{timeout_of, cleared, lost_at, lost_from, lost_if_ran, all_lost, ended, wanted_if_lost}
use Rattle.rh_rules.specs.ByHand.{stopped, is_started_anywhere, quiet_if_nowhere, left_waiting, forbidden, permitted, permission_set, taken_from, taken_over, ends_node, exited}
use Rattle.rh_rules.specs.Steps.{change, followed, next}
use Rattle.rh_rules.specs.Refusals.{refused}
use Rattle.rh_rules.specs.Time.{effect, taken_off, fired, all_fired, ticked}
use Rattle.rh_step_laws.specs.Laws.{boots, starts, QuietUntilStarted}
use Rattle.rh_base.proofs.Lists.{cases}
use Rattle.rh_trace.proofs.Behind.{settled_after}
use Rattle.rh_trace.proofs.Entries.{other_number}
use Rattle.rh_base.proofs.Truths.{same_refl}
use Rattle.rh_trace.proofs.Places.{at_set}
use Rattle.rh_settle.proofs.Resting.{rests, set_beside, settled_rests}
use Rattle.rh_settle.proofs.Unchanged.{settled_cluster}
use Rattle.rh_refusals.proofs.Accepted.{accepted_exit}
use Rattle.rh_events.proofs.EachEvent.{change_cluster}
use Rattle.rh_events.proofs.Fields.{ended_cluster}
use Rattle.rh_events.proofs.SoundComingUp.{come_up_cluster}
use Rattle.rh_events.proofs.SoundMarks.{not_started}
use Rattle.rh_events.proofs.StoppingAll.{quiet_stays_quiet}
use Rattle.rh_events.proofs.Notices.{come_up_after, ended_after}
use Rattle.rh_events.proofs.StaysUp.{told_still}
use Rattle.rh_step.proofs.Firing.{effect_cluster}
use Rattle.rh_step.proofs.Fuel.{timer_count, by_firing}
use Rattle.rh_step_laws.proofs.LostStays.{differs, mark_of_another, start_all_of_another, up_told, booted_standings}

-- the cluster is the same, and the application is quiet, or a node came up that boots it
record StaysQuiet (c : ClusterView) (a : App) (o : Course) : Type 0 where
  cluster : o.state.cluster ≡ c
  quiet : (standing_of o.state a ≡ Quiet) ⊎ ((n : Node) × (boots c n a ≡ true) × Contains o.notices (notice.Up n))

-- what was told is told still
still : (c : ClusterView) (a : App) (o p : Course) → p.state.cluster ≡ o.state.cluster → StaysQuiet c a o
    → (standing_of o.state a ≡ Quiet → standing_of p.state a ≡ Quiet)
    → ((x : Node) → Contains o.notices (notice.Up x) → Contains p.notices (notice.Up x)) → StaysQuiet c a p
still c a o p same stays keeps tells = record {
  cluster = same ∙ stays.cluster;
  quiet = elim stays.quiet [ inl is ↦ inl (keeps is) | inr has ↦ inr (has.0, has.1, tells has.0 has.2) ];
}

-- ---- a node ends
one_lost : (n : Node) (s : StateView) (b a : App) → rests (standing_of s a) ≡ true → standing_of (lost_if_ran n s b) a ≡ standing_of s a
unfolding lost_if_ran
one_lost n s b a r = by (standing_of s b) refl
  where
    at : (k : Node) → standing_of s b ≡ Running k → (p : Bool) → standing_of (cond p (with_standing s b (Wanted (Some n)))
        (with_timer (with_standing s b (Lost n)) (s.time + timeout_of s.cluster b) (Failover b))) a ≡ standing_of s a
    at k stands true = set_beside s.standings a b (Running k) (Wanted (Some n)) r stands refl
    at k stands false = set_beside s.standings a b (Running k) (Lost n) r stands refl

    there : (k : Node) → standing_of s b ≡ Running k → (p : Bool) → standing_of (cond p (lost_at s n b) s) a ≡ standing_of s a
    there k stands true = at k stands (timeout_of s.cluster b == 0)
    there k stands false = refl

    by : (st : Standing) → standing_of s b ≡ st → standing_of (lost_from s n b st) a ≡ standing_of s a
    by (Running k) stands = there k stands (same_node k n)
    by _ stands = refl

each_lost : (n : Node) (apps : List App) (s : StateView) (a : App) → standing_of s a ≡ Quiet → standing_of (fold (lost_if_ran n) s apps) a ≡ Quiet
each_lost n [] s a is = is
each_lost n (b ∷ apps) s a is = each_lost n apps (lost_if_ran n s b) a (one_lost n s b a (ap rests is) ∙ is)

ended_quiet : (o : Course) (n : Node) (a : App) → standing_of o.state a ≡ Quiet → standing_of (ended o n).state a ≡ Quiet
unfolding ended all_lost cleared
ended_quiet o n a is = each_lost n (apps_of o.state.cluster) (cleared o.state n) a is

ended_stays : (c : ClusterView) (a : App) (n : Node) (o : Course) → StaysQuiet c a o → StaysQuiet c a (ended o n)
ended_stays c a n o stays = still c a o (ended o n) (ended_cluster o n) stays (ended_quiet o n a)
    (λ x. told_still (λ p. ended p n) (λ base p. ended_after base p n) o (notice.Up x))

-- ---- nodes come up, and the applications settle
-- a boot list that doesn't have it
not_booted : (a : App) (n : Node) (boot : List (App × Restart)) (o : Course) → list_any (λ (entry : App × Restart). same_app a entry.0) boot ≡ false
    → standing_of (fold (mark_booted n) o boot).state a ≡ standing_of o.state a
not_booted a n [] o none = refl
not_booted a n (b ∷ boot) o none =
    let apart = not_started (same_app a b.0) (list_any (λ (entry : App × Restart). same_app a entry.0) boot) none in
    not_booted a n boot (mark o n b.0 b.1) apart.1 ∙ mark_of_another o.state n b.0 b.1 a (other_number a.0 b.0.0 apart.0)

come_up_quiet : (o : Course) (n : Node) (a : App) → boots o.state.cluster n a ≡ false → standing_of (come_up o n).state a ≡ standing_of o.state a
unfolding come_up mark_all
come_up_quiet o n a none = not_booted a n (boot_of o.state.cluster n) (told (now_in o (with_mode (without_due o.state (Sync n)) n Up)) (notice.Up n)) none

come_up_stays : (c : ClusterView) (a : App) (n : Node) (o : Course) → StaysQuiet c a o → StaysQuiet c a (come_up o n)
come_up_stays c a n o stays = cases (boots c n a)
    (λ t. record { cluster = come_up_cluster o n ∙ stays.cluster; quiet = inr (n, t, up_told o n n (same_refl n.0)) })
    (λ f. still c a o (come_up o n) (come_up_cluster o n) stays
    (λ is. come_up_quiet o n a (ap (λ (k : ClusterView). boots k n a) stays.cluster ∙ f) ∙ is)
    (λ x. told_still (λ p. come_up p n) (λ base p. come_up_after base p n) o (notice.Up x)))

ready_stays : (c : ClusterView) (a : App) (ns : List Node) (o : Course) → StaysQuiet c a o → StaysQuiet c a (fold come_up_if_ready o ns)
unfolding come_up_if_ready
ready_stays c a [] o stays = stays
ready_stays c a (n ∷ ns) o stays = ready_stays c a ns (come_up_if_ready o n) (by (is_ready o.state n))
  where
    by : (b : Bool) → StaysQuiet c a (cond b (come_up o n) o)
    by true = come_up_stays c a n o stays
    by false = stays

settled_stays : (c : ClusterView) (a : App) (pick : Pick) (o : Course) → StaysQuiet c a o → StaysQuiet c a (settled pick o)
settled_stays c a pick o stays = still c a o (settled pick o) (settled_cluster pick o) stays
    (λ is. settled_rests pick o a (ap rests is) ∙ is)
    (λ x. told_still (settled pick) (λ base p. settled_after base pick p) o (notice.Up x))

rest_stays : (c : ClusterView) (a : App) (pick : Pick) (o : Course) → StaysQuiet c a o → StaysQuiet c a (settled pick (ready_come_up o))
unfolding ready_come_up
rest_stays c a pick o stays = settled_stays c a pick (ready_come_up o) (ready_stays c a (nodes_of o.state.cluster) o stays)

-- ---- a timer fires
effect_stays : (c : ClusterView) (a : App) (o : Course) (t : Timer) → StaysQuiet c a o → StaysQuiet c a (effect o t)
effect_stays c a o (Sync n) stays = by (all_alive o.state (mandatory_of o.state.cluster n))
  where
    by : (b : Bool) → StaysQuiet c a (cond b (come_up o n) (ended o n))
    by true = come_up_stays c a n o stays
    by false = ended_stays c a n o stays
effect_stays c a o (Failover b) stays =
    still c a o (effect o (Failover b)) (effect_cluster o (Failover b)) stays (λ is. by is (standing_of o.state b) refl) (λ x has. has)
  where
    apart : (k : Node) → standing_of o.state a ≡ Quiet → standing_of o.state b ≡ Lost k → standing_of o.state a ≡ standing_of o.state b → ⊥
    apart k is stands e = clash (sym is ∙ e ∙ stands)
      where
        clash : Quiet ≡ Lost k → ⊥
        clash c = cc c

    by : standing_of o.state a ≡ Quiet → (st : Standing) → standing_of o.state b ≡ st → standing_of (wanted_if_lost o.state b st) a ≡ Quiet
    by is (Lost k) stands = differs o.state a b (Wanted (Some k)) (apart k is stands) ∙ is
    by is _ stands = is

fired_stays : (c : ClusterView) (a : App) (pick : Pick) (o : Course) (entry : ℕ × Timer) → StaysQuiet c a o → StaysQuiet c a (fired pick o entry)
unfolding fired
fired_stays c a pick o entry stays = rest_stays c a pick (effect (taken_off o entry) entry.1)
    (effect_stays c a (taken_off o entry) entry.1 (record { cluster = stays.cluster; quiet = stays.quiet }))

all_stay : (c : ClusterView) (a : App) (limit : ℕ) (pick : Pick) (o : Course) → StaysQuiet c a o → StaysQuiet c a (all_fired pick limit o)
unfolding all_fired
all_stay c a limit pick o stays = by_firing (StaysQuiet c a) pick limit (λ p entry h is. fired_stays c a pick p entry h) (timer_count o) o stays

ticked_stays : (a : App) (pick : Pick) (o : Course) (ms : ℕ) → StaysQuiet o.state.cluster a o
    → (standing_of (ticked pick o ms).state a ≡ Quiet)
    ⊎ ((n : Node) × (boots o.state.cluster n a ≡ true) × Contains (ticked pick o ms).notices (notice.Up n))
unfolding ticked
ticked_stays a pick o ms stays = (all_stay o.state.cluster a (o.state.time + ms) pick o stays).quiet

-- ---- an event's own change
-- one that runs at a node stands so, or is local
beside : (s t : StateView) (a b : App) (n : Node) (new : Standing) → IsSound s → standing_of s a ≡ Quiet → runs_at s n b ≡ true → t.standings ≡ s.standings
    → standing_of (cond (is_local s.cluster b) t (with_standing t b new)) a ≡ Quiet
beside s t a b n new sound is runs same = by (is_local s.cluster b) refl
  where
    as_before : standing_of t a ≡ Quiet
    as_before = ap (λ (xs : List Standing). unwrap_or (slice_get xs a.0) Quiet) same ∙ is

    by : (p : Bool) → is_local s.cluster b ≡ p → standing_of (cond p t (with_standing t b new)) a ≡ Quiet
    by true local = as_before
    by false far = set_beside t.standings a b (Running n) new (ap rests as_before)
        (ap (λ (xs : List Standing). unwrap_or (slice_get xs b.0) Quiet) same ∙ sound.standing.stands n b far runs) refl ∙ as_before

stop_quiet : (o : Course) (n : Node) (a b : App) → standing_of o.state a ≡ Quiet → standing_of (change o (Stop n b)).state a ≡ Quiet
unfolding stopped left_waiting
stop_quiet o n a b is = by (runs_at o.state n b)
  where
    quiet : standing_of (with_standing o.state b Quiet) a ≡ Quiet
    quiet = at_set o.state.standings b.0 a.0 Quiet Quiet (λ same. same ∙ is) (λ here v. v)

    stop : (p : Bool) → standing_of (cond p (unlisted o.state n b) (with_standing (unlisted o.state n b) b Quiet)) a ≡ Quiet
    stop true = is
    stop false = quiet

    lost : (p : Bool) → standing_of (cond p (unlisted o.state n b) (without_due (with_standing (unlisted o.state n b) b Quiet) (Failover b))) a ≡ Quiet
    lost true = is
    lost false = quiet

    leave : (st : Standing) → standing_of (quiet_if_nowhere (unlisted o.state n b) b st) a ≡ Quiet
    leave (Wanted from) = stop (is_started_anywhere (unlisted o.state n b) b)
    leave (Lost k) = lost (is_started_anywhere (unlisted o.state n b) b)
    leave _ = is

    by : (p : Bool) → standing_of (cond p (stopped o n b) (left_waiting o n b)).state a ≡ Quiet
    by true = stop (is_local o.state.cluster b)
    by false = leave (standing_of o.state b)

permit_quiet : (o : Course) (n : Node) (b : App) (allow : Bool) (a : App) → IsSound o.state → standing_of o.state a ≡ Quiet
    → standing_of (permitted o n b allow).state a ≡ Quiet
unfolding permitted forbidden
permit_quiet o n b allow a sound is = by (not allow && (is_allowed o.state n b && runs_at o.state n b)) refl
  where
    by : (p : Bool) → not allow && (is_allowed o.state n b && runs_at o.state n b) ≡ p
        → standing_of (cond p (forbidden o n b) (permission_set o n b allow)).state a ≡ Quiet
    by true e = beside o.state (with_stopped (with_allowed o.state n b false) n b) a b n (Wanted None) sound is (and_parts _ _ (and_parts _ _ e).1).1 refl
    by false e = is

takeover_quiet : (o : Course) (n : Node) (b : App) (r : Restart) (a : App) → standing_of o.state a ≡ Quiet → standing_of (taken_over o n b r).state a ≡ Quiet
unfolding taken_over
takeover_quiet o n b r a is = by (standing_of o.state b) refl
  where
    by : (st : Standing) → standing_of o.state b ≡ st → standing_of (taken_from o n b r st).state a ≡ Quiet
    by (Running k) stands = set_beside o.state.standings a b (Running k) (Running n) (ap rests is) stands refl ∙ is
    by _ stands = is

exit_quiet : (o : Course) (n : Node) (b : App) (normal : Bool) (a : App) → IsSound o.state → runs_at o.state n b ≡ true → standing_of o.state a ≡ Quiet
    → standing_of (exited o n b normal).state a ≡ Quiet
unfolding exited stopped
exit_quiet o n b normal a sound runs is = by (ends_node (restart_of o.state n b) normal)
  where
    by : (p : Bool) → standing_of (cond p (ended o n) (stopped o n b)).state a ≡ Quiet
    by true = ended_quiet o n a is
    by false = beside o.state (unlisted o.state n b) a b n Quiet sound is runs refl

change_quiet : (s : StateView) (e : Event) (a : App) → IsSound s → refused s e ≡ None → standing_of s a ≡ Quiet → starts e a ≡ false
    → standing_of (change (course_of s [] []) e).state a ≡ Quiet
change_quiet s (Boot n) a sound fine is other = ap (λ (xs : List Standing). unwrap_or (slice_get xs a.0) Quiet) (booted_standings s n) ∙ is
change_quiet s (Crash n) a sound fine is other = ended_quiet (course_of s [] []) n a is
change_quiet s (Start n b r) a sound fine is other = mark_of_another s n b r a (other_number a.0 b.0 other) ∙ is
change_quiet s (Stop n b) a sound fine is other = stop_quiet (course_of s [] []) n a b is
change_quiet s (Permit n b allow) a sound fine is other = permit_quiet (course_of s [] []) n b allow a sound is
change_quiet s (Takeover n b r) a sound fine is other = takeover_quiet (course_of s [] []) n b r a is
change_quiet s (Exit n b normal) a sound fine is other = exit_quiet (course_of s [] []) n b normal a sound (accepted_exit s n b normal fine).runs is
change_quiet s (StartAll b r) a sound fine is other = start_all_of_another (course_of s [] []) b r a (other_number a.0 b.0 other) ∙ is
change_quiet s (StopAll b) a sound fine is other = quiet_stays_quiet (course_of s [] []) b a is
change_quiet s _ a sound fine is other = is

followed_stays : (s : StateView) (e : Event) (pick : Pick) (a : App) → IsSound s → refused s e ≡ None → standing_of s a ≡ Quiet → starts e a ≡ false
    → StaysQuiet s.cluster a (followed pick (course_of s [] []) e)
unfolding followed
followed_stays s e pick a sound fine is other = rest_stays s.cluster a pick (change (course_of s [] []) e)
    (record { cluster = change_cluster (course_of s [] []) e; quiet = inl (change_quiet s e a sound fine is other) })

pub quiet_until_started : QuietUntilStarted
unfolding next
quiet_until_started s (Tick ms) pick a valid fine is other = ticked_stays a pick (course_of s [] []) ms (record { cluster = refl; quiet = inl is })
quiet_until_started s e pick a valid fine is other = (followed_stays s e pick a valid.sound fine is other).quiet
