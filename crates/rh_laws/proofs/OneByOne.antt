-- A stop at all nodes is a stop at each of them, one command after the other.
use Rattle.std.proofs.Common.{◌≡◌, ◌≢◌, ◌<◌, ◌≤◌, ◌+◌, ℕ, zero, suc, Bool, true, false, cond, not, nat_eq, nat_lt, ◌||◌, List, [], ◌∷◌, ◌++◌, fold, map}
use Rattle.std.proofs.Common.{Some, None, refl, sym, ap, ◌∙◌, subst, arith, inl, inr, append-nil}
use Rattle.std.specs.List.{filter, range_with_len}
use Rattle.std.proofs.lemmas.Bool.Decides.{nat_tests}
use Rattle.rh_model.specs.ClusterView.{ClusterView, node_count, app_count, numbered}
use Rattle.rh_model.specs.declared.node.Node.{Node}
use Rattle.rh_model.specs.declared.node.App.{App}
use Rattle.rh_state.specs.Lists.{without_app}
use Rattle.rh_state.specs.Numbers.{nodes_of}
use Rattle.rh_state.specs.Tables.{row}
use Rattle.rh_state.specs.Shape.{IsAppOf}
use Rattle.rh_state.specs.StateView.{StateView, runs_at, is_started}
use Rattle.rh_state.specs.Setters.{unlisted}
use Rattle.rh_rules.specs.declared.pick.Pick.{Pick}
use Rattle.rh_rules.specs.declared.notice.Notice.{Notice}
use Rattle.rh_rules.specs.declared.notice.Notice.TheVariants as notice
use Rattle.rh_rules.specs.Course.{Course, course_of, told, now_in, is_local}
use Rattle.rh_rules.specs.Settling.{settled}
use Rattle.rh_trace.specs.Validity.{IsSound, IsValid}
use Rattle.rh_rules.specs.declared.event.Event.TheVariants.{Stop, StopAll}
use Rattle.rh_rules.specs.declared.refusal.Refusal.{Refusal}
use Rattle.rh_rules.specs.declared.refusal.Refusal.TheVariants.{UnknownApp, NotDistributed, NeverStarted}
use Rattle.rh_rules.specs.Steps.{change, Outcome, outcome, outcome_of, followed, next}
use Rattle.rh_rules.specs.Everywhere.{leave_at, left_everywhere, stop_all}
use Rattle.rh_rules.specs.Refusals.{refused}
use Rattle.rh_rules.specs.ByHand.{is_started_anywhere}
use Rattle.rh_laws.specs.Laws.{stop_next, AllStop, StopAllIsStops}
use Rattle.rh_base.proofs.Lists.{cases}
use Rattle.rh_base.proofs.Truths.{both, same_number}
use Rattle.rh_trace.proofs.Entries.{has, taken, taken_not, there, other_number}
use Rattle.rh_trace.proofs.Every.{filter_no, filter_yes}
use Rattle.rh_trace.proofs.NextMoves.{up_within}
use Rattle.rh_settle.proofs.Soundly.{up_where_started}
use Rattle.rh_refusals.proofs.Accepted.{accepted_stop_all}
use Rattle.rh_events.proofs.EachEvent.{change_after}
use Rattle.rh_events.proofs.SoundMarks.{neither}
use Rattle.rh_events.proofs.StoppingAll.{leave_off}
use Rattle.rh_step.proofs.AnyTime.{ready_alike}
use Rattle.rh_step_laws.proofs.Stops.{none_rises}
use Rattle.rh_step.proofs.Validity.{next_valid}
use Rattle.rh_laws.proofs.LessStarted.{none_less, settles_at_once}
use Rattle.rh_laws.proofs.Stopping.{quiet_in, quiet_already, all_leave_quiet, stop_leaves, stop_plain, stop_less, stop_lists, Remains, started_somewhere}
use Rattle.rh_laws.proofs.Stopping.{stop_remains, stop_accepted}

-- ---- one stop: nothing else moves
abbrev behind : StateView → List Notice → Node → App → Course
behind s before n a = change (course_of s before []) (Stop n a)

followed_stop : (s : StateView) (n : Node) (a : App) (pick : Pick) → IsValid s → followed pick (course_of s [] []) (Stop n a) ≡ behind s [] n a
unfolding followed
followed_stop s n a pick valid =
    let q : Course = behind s [] n a in
    let less = stop_less s [] n a in
    let plain : q ≡ course_of q.state q.notices [] = stop_plain s [] n a in
    ap (settled pick) (none_rises q (λ m. ready_alike s q.state m less.cluster less.modes ∙ valid.settled m))
    ∙ ap (settled pick) plain
    ∙ settles_at_once pick q.state q.notices (none_less s q.state less valid.still)
    ∙ sym plain

stop_step : (s : StateView) (before : List Notice) (n : Node) (a : App) (pick : Pick) → IsValid s
    → stop_next a pick (outcome s before) n ≡ outcome_of (behind s before n a)
unfolding next
stop_step s before n a pick valid =
    ap (λ (p : Course). outcome p.state (before ++ p.notices)) (followed_stop s n a pick valid)
    ∙ ap outcome_of (sym (change_after before (course_of s [] []) (Stop n a)))
    ∙ ap (λ (earlier : List Notice). outcome_of (behind s earlier n a)) (append-nil before)

next_state : (s : StateView) (before : List Notice) (n : Node) (a : App) (pick : Pick) → IsValid s → refused s (Stop n a) ≡ None
    → IsValid (behind s before n a).state
next_state s before n a pick valid fine =
    subst (λ (o : Outcome). IsValid o.state) (stop_step s before n a pick valid) (next_valid s (Stop n a) pick valid fine)

-- ---- the nodes from a number on
abbrev from_number : ℕ → ℕ → List Node
from_number start len = map numbered (range_with_len start len)

-- the stops at those of them at which the application is started come to what leaving the lists of all of them does
record InTurn (a : App) (pick : Pick) (p : Node → Bool) (s : StateView) (before : List Notice) (ns : List Node) : Type 0 where
  accepted : AllStop a pick (outcome s before) (filter p ns)
  valid : IsValid (fold (stop_next a pick) (outcome s before) (filter p ns)).state
  is : outcome_of (quiet_in a (fold (leave_at a) (course_of s before []) ns)) ≡ fold (stop_next a pick) (outcome s before) (filter p ns)

record IsAbout (a : App) (p : Node → Bool) (start len : ℕ) (s : StateView) : Type 0 where
  valid : IsValid s
  far : is_local s.cluster a ≡ false
  app : IsAppOf s.cluster a
  size : start + len ≡ node_count s.cluster
  tells : (m : Node) → start ≤ m.0 → p m ≡ is_started s m a
  done : (m : Node) → m.0 < start → is_started s m a ≡ false
  remains : Remains a s

above : (i j : ℕ) → nat_eq j i ≡ false → i ≤ j → i + 1 ≤ j
above i j d l = grind (arith, nat_tests, d, l)

below : (i j : ℕ) → nat_eq j i ≡ false → j < i + 1 → j < i
below i j d l = grind (arith, nat_tests, d, l)

-- a node at which it isn't started is left out
skip : (a : App) (pick : Pick) (p : Node → Bool) (s : StateView) (before : List Notice) (n : Node) (ns : List Node) → is_started s n a ≡ false → p n ≡ false
    → InTurn a pick p s before ns → InTurn a pick p s before (n ∷ ns)
skip a pick p s before n ns off out rest =
    let out_of = sym (filter_no p n ns out) in
    record {
      accepted = subst (AllStop a pick (outcome s before)) out_of rest.accepted;
      valid = subst (λ (xs : List Node). IsValid (fold (stop_next a pick) (outcome s before) xs).state) out_of rest.valid;
      is = ap (λ (o : Course). outcome_of (quiet_in a (fold (leave_at a) o ns))) (sym (leave_off (course_of s before []) n a off))
          ∙ rest.is
          ∙ ap (fold (stop_next a pick) (outcome s before)) out_of;
    }

-- at one at which it is, a stop goes before
go : (a : App) (pick : Pick) (p : Node → Bool) (s : StateView) (before : List Notice) (n : Node) (ns : List Node) → IsValid s → refused s (Stop n a) ≡ None
    → p n ≡ true → InTurn a pick p (behind s before n a).state (behind s before n a).notices ns → InTurn a pick p s before (n ∷ ns)
go a pick p s before n ns valid fine into rest =
    let into_it = sym (filter_yes p n ns into) in
    let o : Course = course_of s before [] in
    let q : Course = behind s before n a in
    let step = sym (stop_step s before n a pick valid) in
    record {
      accepted = subst (AllStop a pick (outcome s before)) into_it
          (fine, subst (λ (x : Outcome). AllStop a pick x (filter p ns)) step rest.accepted);
      valid = subst (λ (xs : List Node). IsValid (fold (stop_next a pick) (outcome s before) xs).state) into_it
          (subst (λ (x : Outcome). IsValid (fold (stop_next a pick) x (filter p ns)).state) step rest.valid);
      is = ap outcome_of (sym (all_leave_quiet a ns (leave_at a o n)))
          ∙ ap (λ (c : Course). outcome_of (fold (leave_at a) c ns)) (sym (stop_leaves a o n))
          ∙ ap outcome_of (all_leave_quiet a ns q)
          ∙ ap (λ (c : Course). outcome_of (quiet_in a (fold (leave_at a) c ns))) (stop_plain s before n a)
          ∙ rest.is
          ∙ ap (λ (x : Outcome). fold (stop_next a pick) x (filter p ns)) step
          ∙ ap (fold (stop_next a pick) (outcome s before)) into_it;
    }

-- the lists behind a stop
left_here : (s : StateView) (n : Node) (a : App) → IsSound s → n.0 < node_count s.cluster → is_started (unlisted s n a) n a ≡ false
left_here s n a sound node = neither (has (taken s.running n.0 a) n.0 a) (has (taken s.waiting n.0 a) n.0 a)
    (taken_not s.running n.0 a (let e = sound.shaped.running in omega (arith, e, node)))
    (taken_not s.waiting n.0 a (let e = sound.shaped.waiting in omega (arith, e, node)))

as_elsewhere : (s : StateView) (n m : Node) (a : App) → m.0 ≢ n.0 → is_started (unlisted s n a) m a ≡ is_started s m a
as_elsewhere s n m a other = λ i. there s.running n.0 m.0 (without_app (row s.running n.0) a) a other i || there s.waiting n.0 m.0 (without_app (row s.waiting n.0) a) a other i

about_next : (a : App) (p : Node → Bool) (start len : ℕ) (s : StateView) (before : List Notice) (pick : Pick) → IsAbout a p start (suc len) s
    → refused s (Stop (numbered start) a) ≡ None → IsAbout a p (start + 1) len (behind s before (numbered start) a).state
about_next a p start len s before pick h fine =
    let n : Node = numbered start in
    let less = stop_less s before n a in
    record {
      valid = next_state s before n a pick h.valid fine;
      far = ap (λ (c : ClusterView). is_local c a) less.cluster ∙ h.far;
      app = subst (λ (c : ClusterView). IsAppOf c a) (sym less.cluster) h.app;
      size = next_size ∙ ap node_count (sym less.cluster);
      tells = λ m from. h.tells m (omega (arith, from)) ∙ sym (stop_lists s before n a m ∙ as_elsewhere s n m a (λ e. absurd (omega (arith, e, from))));
      done = λ m l. cases (nat_eq m.0 start)
          (λ t. stop_lists s before n a m ∙ ap (λ (k : ℕ). is_started (unlisted s n a) (numbered k) a) (same_number m.0 start t)
          ∙ left_here s n a h.valid.sound (let e = h.size in omega (arith, e)))
          (λ d. stop_lists s before n a m ∙ as_elsewhere s n m a (other_number m.0 start d) ∙ h.done m (below start m.0 d l));
      remains = stop_remains s before n a h.valid.sound h.far h.app;
    }
  where
    next_size : start + 1 + len ≡ node_count s.cluster
    next_size = let e = h.size in omega (arith, e)

about_skip : (a : App) (p : Node → Bool) (start len : ℕ) (s : StateView) → IsAbout a p start (suc len) s → is_started s (numbered start) a ≡ false
    → IsAbout a p (start + 1) len s
about_skip a p start len s h off = record {
  valid = h.valid;
  far = h.far;
  app = h.app;
  size = (let e = h.size in omega (arith, e));
  tells = λ m from. h.tells m (omega (arith, from));
  done = λ m l. cases (nat_eq m.0 start)
      (λ t. ap (λ (k : ℕ). is_started s (numbered k) a) (same_number m.0 start t) ∙ off)
      (λ d. h.done m (below start m.0 d l));
  remains = h.remains;
}

-- where it is started nowhere any more it is quiet, and there is nothing left to do
at_end : (a : App) (pick : Pick) (p : Node → Bool) (start : ℕ) (s : StateView) (before : List Notice) → IsAbout a p start zero s → InTurn a pick p s before []
at_end a pick p start s before h = record {
  accepted = tt;
  valid = h.valid;
  is = ap (λ (t : StateView). outcome t before) (elim h.remains [ inl has ↦ absurd (none has.0 has.1) | inr quiet ↦ quiet_already s a h.valid.sound quiet ]);
}
  where
    none : (m : Node) → is_started s m a ≡ true → ⊥
    none m on =
        let node = up_within s m h.valid.sound.shaped.modes (up_where_started s m a h.valid.sound.idle on) in
        let e = h.size in
        both (is_started s m a) on (h.done m (omega (arith, node, e)))

turn : (a : App) (pick : Pick) (p : Node → Bool) (start len : ℕ) (s : StateView) (before : List Notice) → IsAbout a p start len s
    → InTurn a pick p s before (from_number start len)
turn a pick p start zero s before h = at_end a pick p start s before h
turn a pick p start (suc len) s before h =
    let n : Node = numbered start in
    let said = h.tells n (omega arith) in
    cases (is_started s n a)
    (λ on.
    let fine = stop_accepted s n a (let e = h.size in omega (arith, e)) h.app (up_where_started s n a h.valid.sound.idle on) on in
    go a pick p s before n (from_number (start + 1) len) h.valid fine (said ∙ on)
    (turn a pick p (start + 1) len (behind s before n a).state (behind s before n a).notices (about_next a p start len s before pick h fine)))
    (λ off. skip a pick p s before n (from_number (start + 1) len) off (said ∙ off) (turn a pick p (start + 1) len s before (about_skip a p start len s h off)))

-- ---- the whole
third : (x y z : Refusal) (p q r : Bool) → cond p (Some x) (cond q (Some y) (cond (not r) (Some z) None)) ≡ None → r ≡ true
third x y z true q r h = absurd (cc h)
third x y z false true r h = absurd (cc h)
third x y z false false true h = refl
third x y z false false false h = absurd (cc h)

anywhere : (s : StateView) (a : App) → refused s (StopAll a) ≡ None → is_started_anywhere s a ≡ true
unfolding refused
anywhere s a fine = third UnknownApp NotDistributed NeverStarted (not (nat_lt a.0 (app_count s.cluster))) (is_local s.cluster a) (is_started_anywhere s a) fine

-- no pair is marked or freed where lists are left
leave_plain : (a : App) (ns : List Node) (s : StateView) (before : List Notice)
    → fold (leave_at a) (course_of s before []) ns
    ≡ course_of (fold (leave_at a) (course_of s before []) ns).state (fold (leave_at a) (course_of s before []) ns).notices []
leave_plain a [] s before = refl
leave_plain a (n ∷ ns) s before = by (runs_at s n a) (leave_plain a ns (unlisted s n a))
  where
    o : Course
    o = course_of s before []

    Plain : Course → Type 0
    Plain c = fold (leave_at a) c ns ≡ course_of (fold (leave_at a) c ns).state (fold (leave_at a) c ns).notices []

    by : (b : Bool) → ((earlier : List Notice) → Plain (course_of (unlisted s n a) earlier []))
        → Plain (cond b (told (now_in o (unlisted s n a)) (notice.Stopped a n)) (now_in o (unlisted s n a)))
    by true rest = rest (before ++ notice.Stopped a n ∷ [])
    by false rest = rest before

turned : (s : StateView) (a : App) (pick : Pick) → IsValid s → refused s (StopAll a) ≡ None
    → InTurn a pick (λ (n : Node). is_started s n a) s [] (from_number 0 (node_count s.cluster))
turned s a pick valid fine =
    let h = accepted_stop_all s a fine in
    turn a pick (λ (n : Node). is_started s n a) 0 (node_count s.cluster) s [] (record {
      valid = valid;
      far = h.distributed;
      app = h.app;
      size = omega arith;
      tells = λ m from. refl;
      done = λ m l. absurd (omega (arith, l));
      remains = inl (started_somewhere s a (anywhere s a fine));
    })

pub stop_all_is_stops : StopAllIsStops
unfolding next followed stop_all left_everywhere nodes_of
stop_all_is_stops s a pick valid fine =
    let h = turned s a pick valid fine in
    let o : Course = course_of s [] [] in
    let q : Course = stop_all o a in
    let plain : q ≡ course_of q.state q.notices [] = ap (quiet_in a) (leave_plain a (from_number 0 (node_count s.cluster)) s []) in
    let later : IsValid q.state = subst (λ (x : Outcome). IsValid x.state) (sym h.is) h.valid in (
      h.accepted,
      ap (λ (c : Course). outcome_of (settled pick c)) (none_rises q later.settled)
          ∙ ap (λ (c : Course). outcome_of (settled pick c)) plain
          ∙ ap outcome_of (settles_at_once pick q.state q.notices later.still)
          ∙ h.is,
    )
