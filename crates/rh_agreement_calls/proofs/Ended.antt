-- By the manual's rules a local application that is stopped, forbidden or ends at a node stops there, and that is all.
use Rattle.std.proofs.Common.{◌≡◌, ◌&&◌, ℕ, Bool, true, false, cond, List, [], ◌∷◌, slice_get, slice_set, unwrap_or, None, refl, sym, ap, subst, ◌∙◌}
use Rattle.rh_model.specs.declared.node.App.{App}
use Rattle.rh_model.specs.declared.node.Node.{Node}
use Rattle.rh_rules.specs.declared.event.Event.TheVariants as event
use Rattle.rh_rules.specs.declared.notice.Notice.{Notice}
use Rattle.rh_rules.specs.declared.notice.Notice.TheVariants as notice
use Rattle.rh_rules.specs.declared.pick.Pick.{Pick}
use Rattle.rh_rules.specs.ByHand.{stopped, left_waiting, forbidden, permission_set, permitted, ends_node, exited}
use Rattle.rh_rules.specs.Course.{Course, course_of, told, now_in, is_local}
use Rattle.rh_rules.specs.Moves.{with_stopped}
use Rattle.rh_rules.specs.NodesEnd.{ended}
use Rattle.rh_rules.specs.NodesStart.{ready_come_up}
use Rattle.rh_rules.specs.Settling.{settled}
use Rattle.rh_rules.specs.Steps.{outcome, outcome_of, followed, next}
use Rattle.rh_state.specs.declared.status.Standing.TheVariants.{Quiet, Wanted}
use Rattle.rh_state.specs.Setters.{unlisted, with_allowed, with_standing}
use Rattle.rh_state.specs.StateView.{StateView, runs_at, is_allowed, restart_of}
use Rattle.rh_state.specs.Tables.{row}
use Rattle.rh_trace.specs.Validity.{IsValid}
use Rattle.rh_trace.proofs.Places.{at_set}
use Rattle.rh_step.proofs.StartsFewer.{unlisted_fewer, forbidden_fewer, StartsFewer}
use Rattle.rh_agreement_calls.proofs.Fewer.{Lessens, nothing_follows}

-- a flag that is set to false is true nowhere where it wasn't
forbidden_was : (table : List (List Bool)) (n m a b : ℕ)
    → unwrap_or (slice_get (unwrap_or (slice_get (slice_set table n (slice_set (row table n) a false)) m) []) b) false ≡ true
    → unwrap_or (slice_get (row table m) b) false ≡ true
forbidden_was table n m a b is =
    at_set table n m (slice_set (row table n) a false) []
    (λ same. sym (ap (λ (flags : List Bool). unwrap_or (slice_get flags b) false) same) ∙ is)
    (λ here new.
    ap (λ (k : ℕ). unwrap_or (slice_get (row table k) b) false) here
    ∙ at_set (row table n) a b false false
    (λ same. sym same ∙ sym (ap (λ (flags : List Bool). unwrap_or (slice_get flags b) false) new) ∙ is)
    (λ there none. absurd (cc)))

module _ (s : StateView) (n : Node) (a : App) (valid : IsValid s) (local : is_local s.cluster a ≡ true) (runs : runs_at s n a ≡ true) where
  abbrev course : Course
  course = course_of s [] []

  -- ---- what such a call changes

  abbrev pub without_it : StateView
  without_it = unlisted s n a

  abbrev pub waiting_for_it : StateView
  waiting_for_it = with_stopped (with_allowed s n a false) n a

  -- where it is local, its standing isn't changed
  abbrev waits_by : Bool → StateView
  waits_by b = cond b waiting_for_it (with_standing waiting_for_it a (Wanted None))

  stopped_so : stopped course n a ≡ course_of without_it (notice.Stopped a n ∷ []) []
  unfolding stopped
  stopped_so = ap (λ (b : Bool). told (now_in course (cond b without_it (with_standing without_it a Quiet))) (notice.Stopped a n)) local

  forbidden_so : forbidden course n a ≡ course_of waiting_for_it (notice.Stopped a n ∷ []) []
  unfolding forbidden
  forbidden_so = ap (λ (b : Bool). told (now_in course (waits_by b)) (notice.Stopped a n)) local

  -- ---- and that no more can run

  less_without : Lessens s without_it
  less_without = record { fewer = unlisted_fewer s n a; allowed = λ m b may. may; modes = refl; standings = refl }

  fewer_waiting : StartsFewer s waiting_for_it
  fewer_waiting = subst (λ (b : Bool). StartsFewer s (waits_by b)) local (forbidden_fewer s n a)

  less_waiting : Lessens s waiting_for_it
  less_waiting = record {
    fewer = fewer_waiting;
    allowed = λ m b may. forbidden_was s.allowed n.0 m.0 a.0 b.0 may;
    modes = refl;
    standings = refl;
  }

  -- ---- the events

  abbrev stop_told : List Notice
  stop_told = notice.Stopped a n ∷ []

  pub only_stops : (pick : Pick) → next s (event.Stop n a) pick ≡ outcome without_it stop_told
  unfolding next followed
  only_stops pick =
      ap (λ (o : Course). outcome_of (settled pick (ready_come_up o)))
      (ap (λ (b : Bool). cond b (stopped course n a) (left_waiting course n a)) runs ∙ stopped_so)
      ∙ ap outcome_of (nothing_follows s without_it valid less_without stop_told pick)

  pub only_ends : (normal : Bool) → ends_node (restart_of s n a) normal ≡ false → (pick : Pick)
      → next s (event.Exit n a normal) pick ≡ outcome without_it stop_told
  unfolding next followed exited
  only_ends normal keeps pick =
      ap (λ (o : Course). outcome_of (settled pick (ready_come_up o)))
      (ap (λ (b : Bool). cond b (ended course n) (stopped course n a)) keeps ∙ stopped_so)
      ∙ ap outcome_of (nothing_follows s without_it valid less_without stop_told pick)

  pub only_forbids : is_allowed s n a ≡ true → (pick : Pick)
      → next s (event.Permit n a false) pick ≡ outcome waiting_for_it stop_told
  unfolding next followed permitted
  only_forbids may pick =
      ap (λ (o : Course). outcome_of (settled pick (ready_come_up o)))
      ((λ i. cond (may i && runs i) (forbidden course n a) (permission_set course n a false)) ∙ forbidden_so)
      ∙ ap outcome_of (nothing_follows s waiting_for_it valid less_waiting stop_told pick)
