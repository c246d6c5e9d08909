-- By the manual's rules a distributed application that runs elsewhere, at a node that is no worse, waits where it is started by hand.
use Rattle.std.proofs.Common.{◌≡◌, ◌<◌, ◌==◌, ◌||◌, ◌&&◌, ℕ, Bool, true, false, cond, List, [], ◌∷◌, length, Option, None, refl, sym, ap, subst, ◌∙◌}
use Rattle.std.proofs.lemmas.Bool.{false≢true, true≢false}
use Rattle.rh_base.proofs.Truths.{both, or_left, or_right, same_number, same_refl}
use Rattle.rh_model.specs.ClusterView.{group_of, numbered, app_numbered}
use Rattle.rh_model.specs.declared.node.App.{App}
use Rattle.rh_model.specs.declared.node.Node.{Node}
use Rattle.rh_model.specs.declared.settings.Restart.{Restart}
use Rattle.rh_rules.specs.declared.event.Event.TheVariants as event
use Rattle.rh_rules.specs.declared.notice.Move.TheVariants.{Local, Placement, Takeover}
use Rattle.rh_rules.specs.declared.notice.Notice.TheVariants as notice
use Rattle.rh_rules.specs.declared.notice.Pair.{Pair}
use Rattle.rh_rules.specs.declared.pick.Pick.{Pick}
use Rattle.rh_rules.specs.Course.{Course, course_of, told, is_local, is_fresh}
use Rattle.rh_rules.specs.Marking.{pair, with_mark, wanted_by_mark}
use Rattle.rh_rules.specs.Moves.{comes_before}
use Rattle.rh_rules.specs.NodesStart.{ready_come_up}
use Rattle.rh_rules.specs.Placing.{deps_run, is_operational, picked}
use Rattle.rh_rules.specs.Settling.{NoneEnabled, nexts, settled, waits_told}
use Rattle.rh_rules.specs.Steps.{outcome, outcome_of, followed, next}
use Rattle.rh_state.specs.declared.status.Standing.TheVariants.{Running, Wanted}
use Rattle.rh_state.specs.Setters.{with_waiting, with_restart}
use Rattle.rh_state.specs.Shape.{IsNodeOf}
use Rattle.rh_state.specs.StateView.{StateView, is_up, mode_of, runs_at, waits_at, is_started, standing_of}
use Rattle.rh_trace.specs.Validity.{IsValid}
use Rattle.rh_trace.proofs.Entries.{put_has, put_gives}
use Rattle.rh_trace.proofs.NextFirsts.{still_if_none_enabled}
use Rattle.rh_trace.proofs.NextMoves.{left_true, right_true, all_called}
use Rattle.rh_settle.proofs.FieldLaws.{never_left_wanted}
use Rattle.rh_settle.proofs.Fuel as fuel
use Rattle.rh_settle.proofs.Searches.{none_of_none}
use Rattle.rh_agreement_calls.proofs.Fewer.{none_comes_up}
use Rattle.rh_agreement_calls.proofs.Started.{running_not_wanted}
use Rattle.rh_agreement_spread.specs.Waits.{CanWait}

same_running : (m k : Node) → Running m ≡ Running k → m ≡ k
same_running m k is = cc

module _ (s : StateView) (n : Node) (a : App) (r : Restart) (valid : IsValid s) (node : IsNodeOf s.cluster n) (can : CanWait s n a) where
  -- ---- it waits there

  abbrev pub waiting : StateView
  waiting = with_restart (with_waiting s n a) n a r

  abbrev fresh : List Pair
  fresh = pair n a ∷ []

  abbrev course : Course
  course = course_of waiting [] fresh

  marked_so : with_mark s n a r ≡ waiting
  unfolding with_mark
  marked_so = ap (wanted_by_mark waiting n a) can.runs

  in_waiting : n.0 < length s.waiting
  in_waiting = subst (λ (k : ℕ). n.0 < k) (sym valid.sound.shaped.waiting) node

  -- ---- and nothing moves

  not_fresh : (m : Node) (b : App) → is_fresh fresh m b ≡ true → ((m.0 == n.0) ≡ true) × ((b.0 == a.0) ≡ true)
  not_fresh m b is = by ((m.0 == n.0) && (b.0 == a.0)) refl is
    where
      by : (p : Bool) → ((m.0 == n.0) && (b.0 == a.0)) ≡ p → (p || false) ≡ true → ((m.0 == n.0) ≡ true) × ((b.0 == a.0) ≡ true)
      by true is or = (left_true _ _ is, right_true (m.0 == n.0) _ is)
      by false is or = absurd (false≢true or)

  not_local : {P : Type 0} (b : App) → (b.0 == a.0) ≡ true → is_local s.cluster b ≡ true → P
  not_local b same local =
      absurd (true≢false (sym local ∙ ap (λ (k : ℕ). is_local s.cluster (app_numbered k)) (same_number b.0 a.0 same) ∙ can.spread))

  runs_too : (b : App) → (b.0 == a.0) ≡ true → standing_of s b ≡ Running can.at
  runs_too b same = ap (λ (k : ℕ). standing_of s (app_numbered k)) (same_number b.0 a.0 same) ∙ can.runs

  started_before : (m : Node) (b : App) (from : Option Node) → standing_of s b ≡ Wanted from → (p : Bool) → runs_at s m b ≡ p
      → (p || waits_at waiting m b) ≡ true → is_started s m b ≡ true
  started_before m b from wanted true runs is = or_left (runs_at s m b) (waits_at s m b) runs
  started_before m b from wanted false runs is =
      put_has s.waiting n.0 m.0 a b is (or_right (runs_at s m b) (waits_at s m b))
      (λ here same. running_not_wanted can.at from (standing_of s b) (runs_too b same) wanted)

  could_run : (m : Node) (b : App) (from : Option Node) → standing_of s b ≡ Wanted from → is_operational waiting b m ≡ true
      → is_operational s b m ≡ true
  unfolding is_operational deps_run
  could_run m b from wanted is =
      let up : is_up (mode_of s m) ≡ true = left_true _ _ is in
      let rest = right_true (is_up (mode_of s m)) _ is in
      let started : is_started s m b ≡ true = started_before m b from wanted (runs_at s m b) refl (left_true _ _ rest) in
      λ i. up i && (started i && right_true (is_started waiting m b) _ rest i)

  none_moves : NoneEnabled waiting fresh
  unfolding deps_run
  none_moves (Local m b) is =
      put_has s.waiting n.0 m.0 a b is.2 (λ before. valid.still (Local m b) (is.0, is.1, before, is.3, is.4))
      (λ here same. not_local b same is.1)
  none_moves (Placement b from m) is =
      both (is_operational s b m) (could_run m b from is.1 is.2.passes)
      (never_left_wanted s b from valid.still is.0 is.1 m is.2.listed)
  none_moves (Takeover b k m) is =
      let called = all_called waiting fresh b k m is.2.passes in
      let ours = not_fresh m b called.1 in
      let app : b.0 ≡ a.0 = same_number b.0 a.0 ours.1 in
      let here : m.0 ≡ n.0 = same_number m.0 n.0 ours.0 in
      let at : can.at ≡ k = same_running can.at k (sym (runs_too b ours.1) ∙ is.1) in
      true≢false
      (sym called.0
      ∙ (λ i. comes_before (group_of s.cluster (app_numbered (app i)) (numbered (here i))) (group_of s.cluster (app_numbered (app i))
      (sym at i)))
      ∙ can.behind)

  no_next : (pick : Pick) → picked pick (nexts course) ≡ None
  no_next pick = ap (picked pick) ((still_if_none_enabled waiting fresh).1 none_moves) ∙ sym (none_of_none pick)

  waits_now : waits_at waiting n a ≡ true
  waits_now = put_gives s.waiting n.0 a a in_waiting (same_refl a.0)

  settles_so : (pick : Pick) → settled pick course ≡ told course (notice.Waits a n)
  settles_so pick =
      ap waits_told (fuel.ended pick course (no_next pick))
      ∙ ap (λ (b : Bool). cond b (told course (notice.Waits a n)) course) waits_now

  pub only_waits : (pick : Pick) → next s (event.Start n a r) pick ≡ outcome waiting (notice.Waits a n ∷ [])
  unfolding next followed
  only_waits pick =
      ap (λ (t : StateView). outcome_of (settled pick (ready_come_up (course_of t [] fresh)))) marked_so
      ∙ ap (λ (o : Course). outcome_of (settled pick o)) (none_comes_up s waiting refl refl valid.settled [] fresh)
      ∙ ap outcome_of (settles_so pick)
