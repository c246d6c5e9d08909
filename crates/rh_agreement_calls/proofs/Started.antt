-- By the manual's rules a local application that can run starts where it is started by hand, and that is all, where nobody waits for it.
use Rattle.std.proofs.Common.{◌≡◌, ◌<◌, ◌==◌, ◌||◌, ◌&&◌, ℕ, Bool, true, false, cond, List, [], ◌∷◌, length, Option, None, Some, refl, sym, ap, subst, ◌∙◌}
use Rattle.std.specs.List.{list_all, list_any}
use Rattle.std.proofs.lemmas.Bool.{and_parts, false≢true}
use Rattle.rh_base.proofs.Truths.{both, or_left, or_right, same_number, same_refl}
use Rattle.rh_model.specs.ClusterView.{deps_of, numbered, app_numbered}
use Rattle.rh_model.specs.declared.node.App.{App}
use Rattle.rh_model.specs.declared.node.Node.{Node}
use Rattle.rh_model.specs.declared.settings.Dep.{Dep}
use Rattle.rh_model.specs.declared.settings.Dep.TheVariants.{Listed, Platform}
use Rattle.rh_model.specs.declared.settings.Restart.{Restart}
use Rattle.rh_rules.specs.declared.event.Event.TheVariants as event
use Rattle.rh_rules.specs.declared.notice.Move.{Move}
use Rattle.rh_rules.specs.declared.notice.Move.TheVariants.{Local, Placement, Takeover}
use Rattle.rh_rules.specs.declared.notice.Notice.TheVariants as notice
use Rattle.rh_rules.specs.declared.notice.Pair.{Pair}
use Rattle.rh_rules.specs.declared.pick.Pick.{Pick}
use Rattle.rh_rules.specs.Course.{Course, course_of, told, is_local, is_fresh}
use Rattle.rh_rules.specs.Marking.{pair, with_mark, wanted_by_mark}
use Rattle.rh_rules.specs.Moves.{moved, moved_state}
use Rattle.rh_rules.specs.NodesStart.{ready_come_up}
use Rattle.rh_rules.specs.Placing.{dep_runs, deps_run, is_operational, picked}
use Rattle.rh_rules.specs.Settling.{IsEnabled, NoneEnabled, nexts, settled, waits_told}
use Rattle.rh_rules.specs.Steps.{outcome, outcome_of, followed, next}
use Rattle.rh_state.specs.declared.status.Kind.TheVariants as kind
use Rattle.rh_state.specs.declared.status.Standing.{Standing}
use Rattle.rh_state.specs.declared.status.Standing.TheVariants.{Quiet, Wanted, Running}
use Rattle.rh_state.specs.Setters.{with_waiting, with_restart, with_standing}
use Rattle.rh_state.specs.Shape.{IsNodeOf}
use Rattle.rh_state.specs.StateView.{StateView, is_up, mode_of, runs_at, waits_at, is_started, is_allowed, standing_of}
use Rattle.rh_trace.specs.Validity.{IsSound, IsValid}
use Rattle.rh_trace.proofs.Entries.{has, taken, put, taken_has, taken_not, put_has, put_gives, length_put}
use Rattle.rh_trace.proofs.NextFirsts.{next_are_first, still_if_none_enabled}
use Rattle.rh_trace.proofs.NextMoves.{left_true, right_true, all_called}
use Rattle.rh_settle.proofs.FieldLaws.{never_left_wanted}
use Rattle.rh_settle.proofs.Fuel as fuel
use Rattle.rh_settle.proofs.Searches.{none_of_none, none_picked, contains_picked}
use Rattle.rh_events.proofs.SoundMarks.{sound_mark}
use Rattle.rh_agreement_calls.specs.Starts.{CanStart, is_dep}
use Rattle.rh_agreement_calls.proofs.Fewer.{none_comes_up}

pub wanted_not_quiet : {P : Type 0} (from : Option Node) (st : Standing) → st ≡ Quiet → st ≡ Wanted from → P
wanted_not_quiet from st quiet wanted = absurd (clash (sym quiet ∙ wanted))
  where
    clash : Quiet ≡ Wanted from → ⊥
    clash is = cc

pub running_not_quiet : {P : Type 0} (m : Node) (st : Standing) → st ≡ Quiet → st ≡ Running m → P
running_not_quiet m st quiet runs = absurd (clash (sym quiet ∙ runs))
  where
    clash : Quiet ≡ Running m → ⊥
    clash is = cc

pub running_not_wanted : {P : Type 0} (m : Node) (from : Option Node) (st : Standing) → st ≡ Running m → st ≡ Wanted from → P
running_not_wanted m from st runs wanted = absurd (clash (sym runs ∙ wanted))
  where
    clash : Running m ≡ Wanted from → ⊥
    clash is = cc

module _ (s : StateView) (n : Node) (a : App) (r : Restart) (valid : IsValid s) (node : IsNodeOf s.cluster n)
    (can : CanStart s n a) where
  quiet : standing_of s a ≡ Quiet
  quiet = valid.sound.standing.local a can.local

  quiet_too : (b : App) → (b.0 == a.0) ≡ true → standing_of s b ≡ Quiet
  quiet_too b same = ap (λ (k : ℕ). standing_of s (app_numbered k)) (same_number b.0 a.0 same) ∙ quiet

  -- ---- it waits there at first

  abbrev waiting : StateView
  waiting = with_restart (with_waiting s n a) n a r

  abbrev fresh : List Pair
  fresh = pair n a ∷ []

  abbrev course : Course
  course = course_of waiting [] fresh

  marked_so : with_mark s n a r ≡ waiting
  unfolding with_mark
  marked_so =
      ap (wanted_by_mark waiting n a) quiet
      ∙ ap (λ (b : Bool). cond b waiting (with_standing waiting a (Wanted None))) can.local

  sound : IsSound waiting
  sound = subst IsSound marked_so (sound_mark s n a r valid.sound node can.app can.up (or_left (is_local s.cluster a) _ can.local) can.off)

  -- ---- and its start is the one move

  not_fresh : (m : Node) (b : App) → is_fresh fresh m b ≡ true → (b.0 == a.0) ≡ true
  not_fresh m b is = by ((m.0 == n.0) && (b.0 == a.0)) refl is
    where
      by : (p : Bool) → ((m.0 == n.0) && (b.0 == a.0)) ≡ p → (p || false) ≡ true → (b.0 == a.0) ≡ true
      by true is or = right_true (m.0 == n.0) _ is
      by false is or = absurd (false≢true or)

  started_before : (m : Node) (b : App) (from : Option Node) → standing_of s b ≡ Wanted from → (p : Bool) → runs_at s m b ≡ p
      → (p || waits_at waiting m b) ≡ true → is_started s m b ≡ true
  started_before m b from wanted true runs is = or_left (runs_at s m b) (waits_at s m b) runs
  started_before m b from wanted false runs is =
      put_has s.waiting n.0 m.0 a b is (or_right (runs_at s m b) (waits_at s m b))
      (λ here same. wanted_not_quiet from (standing_of s b) (quiet_too b same) wanted)

  could_run : (m : Node) (b : App) (from : Option Node) → standing_of s b ≡ Wanted from → is_operational waiting b m ≡ true
      → is_operational s b m ≡ true
  unfolding is_operational deps_run
  could_run m b from wanted is =
      let up : is_up (mode_of s m) ≡ true = left_true _ _ is in
      let rest = right_true (is_up (mode_of s m)) _ is in
      let started : is_started s m b ≡ true = started_before m b from wanted (runs_at s m b) refl (left_true _ _ rest) in
      λ i. up i && (started i && right_true (is_started waiting m b) _ rest i)

  only_move : (move : Move) → IsEnabled waiting fresh move → move ≡ Local n a
  unfolding deps_run
  only_move (Local m b) is =
      put_has s.waiting n.0 m.0 a b is.2 (λ before. absurd (valid.still (Local m b) (is.0, is.1, before, is.3, is.4)))
      (λ here same. let app : b.0 ≡ a.0 = same_number b.0 a.0 same in λ i. Local (numbered (here i)) (app_numbered (app i)))
  only_move (Placement b from m) is =
      both (is_operational s b m) (could_run m b from is.1 is.2.passes)
      (never_left_wanted s b from valid.still is.0 is.1 m is.2.listed)
  only_move (Takeover b k m) is =
      running_not_quiet k (standing_of s b) (quiet_too b (not_fresh m b (all_called waiting fresh b k m is.2.passes).1)) is.1

  in_waiting : n.0 < length s.waiting
  in_waiting = subst (λ (k : ℕ). n.0 < k) (sym valid.sound.shaped.waiting) node

  starts_first : IsEnabled waiting fresh (Local n a)
  unfolding deps_run
  starts_first =
      (node, can.local, put_gives s.waiting n.0 a a in_waiting (same_refl a.0), can.may, can.needs)

  picks : (pick : Pick) → picked pick (nexts course) ≡ Some (Local n a)
  picks pick =
      fuel.by_option (picked pick (nexts course))
      (λ none. absurd ((still_if_none_enabled waiting fresh).0 (none_picked pick (nexts course) none) (Local n a) starts_first))
      (λ move is. is
      ∙ ap Some (only_move move ((next_are_first waiting fresh move).0 (contains_picked pick (nexts course) move is)).enabled))

  -- ---- behind it

  abbrev pub then : StateView
  then = moved_state waiting (Local n a)

  abbrev last : Course
  last = moved course (Local n a)

  waits_not : has (taken (put s.waiting n.0 a) n.0 a) n.0 a ≡ false
  waits_not = taken_not (put s.waiting n.0 a) n.0 a (subst (λ (k : ℕ). n.0 < k) (sym (length_put s.waiting n.0 a)) in_waiting)

  waited : (m : Node) (b : App) → waits_at then m b ≡ true → waits_at s m b ≡ true
  waited m b is =
      put_has s.waiting n.0 m.0 a b (taken_has (put s.waiting n.0 a) n.0 m.0 a b is) (λ before. before)
      (λ here same.
      let app : b.0 ≡ a.0 = same_number b.0 a.0 same in
      both (waits_at then m b) is ((λ i. has (taken (put s.waiting n.0 a) n.0 a) (here i) (app_numbered (app i))) ∙ waits_not))

  ran : {P : Type 0} (m : Node) (b : App) → runs_at then m b ≡ true → (runs_at s m b ≡ true → P) → (m.0 ≡ n.0 → (b.0 == a.0) ≡ true → P) → P
  ran m b is before new = put_has (taken s.running n.0 a) n.0 m.0 a b is (λ left. before (taken_has s.running n.0 m.0 a b left)) new

  abbrev unneeded_by : List Dep → Type 0
  unneeded_by deps = list_any (is_dep a) deps ≡ false

  dep_ran : (m : Node) (d : Dep) → (m.0 ≡ n.0 → is_dep a d ≡ false) → dep_runs then m d ≡ true → dep_runs s m d ≡ true
  dep_ran m (Listed b) apart is =
      ran m b is (λ before. before)
      (λ here same. both (a.0 == b.0) (ap (λ (k : ℕ). a.0 == k) (same_number b.0 a.0 same) ∙ same_refl a.0) (apart here))
  dep_ran m (Platform p) apart is = is

  or_parts : (p q : Bool) → (p || q) ≡ false → (p ≡ false) × (q ≡ false)
  or_parts true q is = absurd (false≢true (sym is))
  or_parts false q is = (refl, is)

  each_ran : (m : Node) (deps : List Dep) → (m.0 ≡ n.0 → unneeded_by deps) → list_all (dep_runs then m) deps ≡ true
      → list_all (dep_runs s m) deps ≡ true
  each_ran m [] apart is = refl
  each_ran m (d ∷ deps) apart is =
      let parts = and_parts (dep_runs then m d) _ is in
      λ i. dep_ran m d (λ here. (or_parts (is_dep a d) _ (apart here)).0) parts.0 i
      && each_ran m deps (λ here. (or_parts (is_dep a d) _ (apart here)).1) parts.1 i

  unneeded_there : (m : Node) (b : App) → waits_at s m b ≡ true → m.0 ≡ n.0 → unneeded_by (deps_of s.cluster b)
  unneeded_there m b waits here = can.unneeded b (sym (ap (λ (k : ℕ). waits_at s (numbered k) b) here) ∙ waits)

  -- an application that is to run runs nowhere
  wanted_runs_not : {P : Type 0} (m : Node) (b : App) (from : Option Node) → standing_of s b ≡ Wanted from → runs_at s m b ≡ true → P
  wanted_runs_not {P = P} m b from wanted runs = by (is_local s.cluster b) refl
    where
      by : (p : Bool) → is_local s.cluster b ≡ p → P
      by true is = wanted_not_quiet from (standing_of s b) (valid.sound.standing.local b is) wanted
      by false is = running_not_wanted m from (standing_of s b) (valid.sound.standing.stands m b is runs) wanted

  waits_before : (m : Node) (b : App) (from : Option Node) → standing_of s b ≡ Wanted from → (p : Bool) → runs_at then m b ≡ p
      → (p || waits_at then m b) ≡ true → waits_at s m b ≡ true
  waits_before m b from wanted true runs is =
      ran m b runs (wanted_runs_not m b from wanted) (λ here same. wanted_not_quiet from (standing_of s b) (quiet_too b same) wanted)
  waits_before m b from wanted false runs is = waited m b is

  could_run_then : (m : Node) (b : App) (from : Option Node) → standing_of s b ≡ Wanted from → is_operational then b m ≡ true
      → is_operational s b m ≡ true
  unfolding is_operational deps_run
  could_run_then m b from wanted is =
      let up : is_up (mode_of s m) ≡ true = left_true _ _ is in
      let rest = right_true (is_up (mode_of s m)) _ is in
      let waits : waits_at s m b ≡ true = waits_before m b from wanted (runs_at then m b) refl (left_true _ _ rest) in
      let more = right_true (is_started then m b) _ rest in
      let started : is_started s m b ≡ true = or_right (runs_at s m b) (waits_at s m b) waits in
      let may : is_allowed s m b ≡ true = left_true (is_allowed then m b) (deps_run then m b) more in
      let needs : list_all (dep_runs s m) (deps_of s.cluster b) ≡ true =
      each_ran m (deps_of s.cluster b) (unneeded_there m b waits) (right_true (is_allowed then m b) (deps_run then m b) more) in
      λ i. up i && (started i && (may i && needs i))

  none_moves : NoneEnabled then fresh
  unfolding deps_run
  none_moves (Local m b) is =
      let waits : waits_at s m b ≡ true = waited m b is.2 in
      valid.still (Local m b) (is.0, is.1, waits, is.3, each_ran m (deps_of s.cluster b) (unneeded_there m b waits) is.4)
  none_moves (Placement b from m) is =
      both (is_operational s b m) (could_run_then m b from is.1 is.2.passes)
      (never_left_wanted s b from valid.still is.0 is.1 m is.2.listed)
  none_moves (Takeover b k m) is =
      running_not_quiet k (standing_of s b) (quiet_too b (not_fresh m b (all_called then fresh b k m is.2.passes).1)) is.1

  no_next : (pick : Pick) → picked pick (nexts last) ≡ None
  no_next pick = ap (picked pick) ((still_if_none_enabled then fresh).1 none_moves) ∙ sym (none_of_none pick)

  settles_so : (pick : Pick) → settled pick course ≡ last
  settles_so pick =
      ap waits_told (fuel.unrolled pick course (Local n a) sound.shaped (picks pick) ∙ fuel.ended pick last (no_next pick))
      ∙ ap (λ (b : Bool). cond b (told last (notice.Waits a n)) last) waits_not

  pub only_starts : (pick : Pick) → next s (event.Start n a r) pick ≡ outcome then (notice.Started a n kind.Normal None ∷ [])
  unfolding next followed
  only_starts pick =
      ap (λ (t : StateView). outcome_of (settled pick (ready_come_up (course_of t [] fresh)))) marked_so
      ∙ ap (λ (o : Course). outcome_of (settled pick o)) (none_comes_up s waiting refl refl valid.settled [] fresh)
      ∙ ap outcome_of (settles_so pick)
