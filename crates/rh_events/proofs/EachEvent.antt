-- What the change of each event keeps, in an equation for each event.
use Rattle.std.proofs.Common.{◌≡◌, ◌||◌, ◌&&◌, Bool, true, false, cond, not, List, [], All, None, refl, sym, ◌∙◌, subst, inl}
use Rattle.std.proofs.lemmas.List.Elements.{All-push}
use Rattle.rh_model.specs.declared.node.Node.{Node}
use Rattle.rh_state.specs.declared.status.Mode.TheVariants.{Up}
use Rattle.rh_state.specs.declared.status.Standing.{Standing}
use Rattle.rh_state.specs.declared.status.Standing.TheVariants.{Running}
use Rattle.rh_state.specs.Numbers.{same_node}
use Rattle.rh_state.specs.StateView.{StateView, mode_of, is_allowed, runs_at, restart_of, standing_of}
use Rattle.rh_base.proofs.Lists.{cases}
use Rattle.rh_rules.specs.declared.notice.Notice.{Notice}
use Rattle.rh_rules.specs.declared.notice.Pair.{Pair}
use Rattle.rh_rules.specs.Course.{Course, course_of}
use Rattle.rh_trace.specs.Traces.{IsPairOf}
use Rattle.rh_trace.specs.Validity.{IsSound}
use Rattle.rh_trace.proofs.Behind.{after_notices}
use Rattle.rh_rules.specs.declared.event.Event.{Event}
use Rattle.rh_rules.specs.declared.event.Event.TheVariants.{Boot, Crash, Start, Stop, Permit, Takeover, Exit, StartAll, StopAll}
use Rattle.rh_rules.specs.Marking.{pair, with_mark}
use Rattle.rh_rules.specs.NodesEnd.{ended}
use Rattle.rh_rules.specs.ByHand.{stopped, left_waiting, forbidden, permitted, permission_set, taken_from, taken_over, ends_node, exited}
use Rattle.rh_rules.specs.Steps.{change}
use Rattle.rh_rules.specs.Refusals.{refused}
use Rattle.rh_refusals.proofs.Accepted.{same_standing, accepted_boot, accepted_crash, accepted_start, accepted_stop, accepted_permit, accepted_takeover}
use Rattle.rh_refusals.proofs.Accepted.{accepted_exit, accepted_start_all, accepted_stop_all}
use Rattle.rh_events.proofs.Fields.{SameTime, in_time, booted_same, ended_same, marked_same, stopped_same, left_waiting_same, permitted_same}
use Rattle.rh_events.proofs.Fields.{taken_over_same, exited_same}
use Rattle.rh_events.proofs.Notices.{mark_after, ended_after, stopped_after, left_waiting_after, permitted_after, taken_over_after, exited_after}
use Rattle.rh_events.proofs.SoundBooting.{sound_booted}
use Rattle.rh_events.proofs.SoundMarks.{sound_mark}
use Rattle.rh_events.proofs.SoundEnding.{sound_ended}
use Rattle.rh_events.proofs.SoundByHand.{sound_stopped, sound_left_waiting, sound_permitted, sound_exited}
use Rattle.rh_events.proofs.SoundByHandTakeover.{sound_taken_over}
use Rattle.rh_events.proofs.StaysUp.{StaysUp, ended_stays, booted_stays, still_up, stopped_stays, exited_stays}
use Rattle.rh_events.proofs.StartingAll.{started_all_same, start_all_after, sound_started_all, started_all_pairs}
use Rattle.rh_events.proofs.StoppingAll.{stopped_all_same, stop_all_after, sound_stopped_all, stop_all_marks}

-- ---- the cluster and the time are as they were
pub change_same : (o : Course) (e : Event) → SameTime o.state (change o e).state
change_same o (Boot n) = booted_same o.state n
change_same o (Crash n) = ended_same o n
change_same o (Start n a r) = in_time o.state (with_mark o.state n a r) (marked_same o.state n a r)
change_same o (Stop n a) = by (runs_at o.state n a)
  where
    by : (b : Bool) → SameTime o.state (cond b (stopped o n a) (left_waiting o n a)).state
    by true = in_time o.state (stopped o n a).state (stopped_same o n a)
    by false = in_time o.state (left_waiting o n a).state (left_waiting_same o n a)
change_same o (Permit n a allow) = in_time o.state (permitted o n a allow).state (permitted_same o n a allow)
change_same o (Takeover n a r) = in_time o.state (taken_over o n a r).state (taken_over_same o n a r)
change_same o (Exit n a normal) = exited_same o n a normal
change_same o (StartAll a r) = in_time o.state _ (started_all_same o a r)
change_same o (StopAll a) = in_time o.state _ (stopped_all_same o a)
change_same o _ = record { cluster = refl; time = refl }

pub change_cluster : (o : Course) (e : Event) → (change o e).state.cluster ≡ o.state.cluster
change_cluster o e = (change_same o e).cluster

pub change_time : (o : Course) (e : Event) → (change o e).state.time ≡ o.state.time
change_time o e = (change_same o e).time

-- ---- earlier notices don't matter
pub change_after : (base : List Notice) (o : Course) (e : Event) → change (after_notices base o) e ≡ after_notices base (change o e)
change_after base o (Crash n) = ended_after base o n
change_after base o (Start n a r) = mark_after base o n a r
change_after base o (Stop n a) = by (runs_at o.state n a)
  where
    by : (b : Bool) → cond b (stopped (after_notices base o) n a) (left_waiting (after_notices base o) n a)
        ≡ after_notices base (cond b (stopped o n a) (left_waiting o n a))
    by true = stopped_after base o n a
    by false = left_waiting_after base o n a
change_after base o (Permit n a allow) = permitted_after base o n a allow
change_after base o (Takeover n a r) = taken_over_after base o n a r
change_after base o (Exit n a normal) = exited_after base o n a normal
change_after base o (StartAll a r) = start_all_after base o a r
change_after base o (StopAll a) = stop_all_after base o a
change_after base o _ = refl

-- ---- a sound state stays sound
-- what is started and doesn't run waits
waits_there : (p q : Bool) → (p || q) ≡ true → p ≡ false → q ≡ true
waits_there true q h k = absurd (cc k)
waits_there false q h k = h

pub sound_changed : (o : Course) (e : Event) → IsSound o.state → refused o.state e ≡ None → IsSound (change o e).state
sound_changed o (Boot n) sound fine = let h = accepted_boot o.state n fine in sound_booted o.state n sound h.node h.down h.incarnation
sound_changed o (Crash n) sound fine = sound_ended o n sound (accepted_crash o.state n fine).node
sound_changed o (Start n a r) sound fine =
    let h = accepted_start o.state n a r fine in sound_mark o.state n a r sound h.hand.node h.hand.app h.hand.up h.listed h.unstarted
sound_changed o (Stop n a) sound fine =
    let h = accepted_stop o.state n a fine in
    cases (runs_at o.state n a)
    (λ t. subst (λ (b : Bool). IsSound (cond b (stopped o n a) (left_waiting o n a)).state) (sym t)
    (sound_stopped o n a sound h.hand.node h.hand.app t))
    (λ f. subst (λ (b : Bool). IsSound (cond b (stopped o n a) (left_waiting o n a)).state) (sym f)
    (sound_left_waiting o n a sound h.hand.node h.hand.app (waits_there _ _ h.started f) f))
sound_changed o (Permit n a allow) sound fine = let h = accepted_permit o.state n a allow fine in sound_permitted o n a allow sound h.node h.app h.up
sound_changed o (Takeover n a r) sound fine =
    let h = accepted_takeover o.state n a r fine in
    sound_taken_over o n a r sound h.hand.node h.hand.app h.hand.up h.listed
    (λ m is. subst (λ (k : Node). same_node k n ≡ false) (same_standing h.from m (sym h.stands ∙ is)) h.elsewhere)
sound_changed o (Exit n a normal) sound fine =
    let h = accepted_exit o.state n a normal fine in sound_exited o n a normal sound h.hand.node h.hand.app h.runs
sound_changed o (StartAll a r) sound fine = sound_started_all o a r (accepted_start_all o.state a r fine).app sound
sound_changed o (StopAll a) sound fine = let h = accepted_stop_all o.state a fine in sound_stopped_all o a h.distributed h.app sound
sound_changed o _ sound fine = sound

-- ---- only pairs of the cluster are marked
abbrev ArePairs : StateView → List Pair → Type 0
ArePairs s ps = All (IsPairOf s.cluster) ps

pub marked_changed : (o : Course) (e : Event) → refused o.state e ≡ None → All (IsPairOf o.state.cluster) o.marked
    → All (IsPairOf o.state.cluster) (change o e).marked
unfolding ended stopped left_waiting forbidden permitted taken_over exited
marked_changed o (Start n a r) fine before =
    let h = (accepted_start o.state n a r fine).hand in
    All-push (IsPairOf o.state.cluster) o.marked (pair n a) before (record { node = h.node; app = h.app })
marked_changed o (Stop n a) fine before = by (runs_at o.state n a)
  where
    by : (b : Bool) → ArePairs o.state (cond b (stopped o n a) (left_waiting o n a)).marked
    by true = before
    by false = before
marked_changed o (Permit n a allow) fine before = by (not allow && (is_allowed o.state n a && runs_at o.state n a))
  where
    by : (b : Bool) → ArePairs o.state (cond b (forbidden o n a) (permission_set o n a allow)).marked
    by true = before
    by false = before
marked_changed o (Takeover n a r) fine before = by (standing_of o.state a)
  where
    by : (standing : Standing) → ArePairs o.state (taken_from o n a r standing).marked
    by (Running m) = before
    by _ = before
marked_changed o (Exit n a normal) fine before = by (ends_node (restart_of o.state n a) normal)
  where
    by : (b : Bool) → ArePairs o.state (cond b (ended o n) (stopped o n a)).marked
    by true = before
    by false = before
marked_changed o (StartAll a r) fine before = started_all_pairs o a r (accepted_start_all o.state a r fine).app before
marked_changed o (StopAll a) fine before = subst (ArePairs o.state) (sym (stop_all_marks o a)) before
marked_changed o _ fine before = before

-- ---- a node that is up stays up, unless its end is told
pub change_stays : (s : StateView) (e : Event) (n : Node) → refused s e ≡ None → mode_of s n ≡ Up → StaysUp n (change (course_of s [] []) e)
change_stays s (Boot m) n fine up = inl (booted_stays s m n fine up)
change_stays s (Crash m) n fine up = ended_stays n m (course_of s [] []) (inl up)
change_stays s (Start m a r) n fine up = still_up n (course_of s [] []) (change (course_of s [] []) (Start m a r)) up (marked_same s m a r).modes
change_stays s (Stop m a) n fine up = stopped_stays n m a (course_of s [] []) up
change_stays s (Permit m a allow) n fine up =
    still_up n (course_of s [] []) (change (course_of s [] []) (Permit m a allow)) up (permitted_same (course_of s [] []) m a allow).modes
change_stays s (Takeover m a r) n fine up =
    still_up n (course_of s [] []) (change (course_of s [] []) (Takeover m a r)) up (taken_over_same (course_of s [] []) m a r).modes
change_stays s (Exit m a normal) n fine up = exited_stays n m a normal (course_of s [] []) up
change_stays s (StartAll a r) n fine up = still_up n (course_of s [] []) (change (course_of s [] []) (StartAll a r)) up (started_all_same (course_of s [] []) a r).modes
change_stays s (StopAll a) n fine up = still_up n (course_of s [] []) (change (course_of s [] []) (StopAll a)) up (stopped_all_same (course_of s [] []) a).modes
change_stays s _ n fine up = inl up
