-- By the manual's rules a permission of a distributed application that draws it nowhere changes nothing else.
use Rattle.std.proofs.Common.{◌≡◌, ◌==◌, ◌++◌, ◌||◌, ◌&&◌, ℕ, Bool, true, false, not, cond, fold, List, [], ◌∷◌, slice_get, slice_set, unwrap_or, None, refl, sym, ap, ◌∙◌, inl, inr}
use Rattle.std.proofs.Math.Bool.{and-false}
use Rattle.std.proofs.lemmas.Bool.{false≢true, true≢false}
use Rattle.rh_base.proofs.Truths.{both, same_number}
use Rattle.rh_model.specs.ClusterView.{group_of, numbered, app_numbered}
use Rattle.rh_model.specs.declared.node.App.{App}
use Rattle.rh_model.specs.declared.node.Node.{Node}
use Rattle.rh_rules.specs.declared.event.Event.TheVariants as event
use Rattle.rh_rules.specs.declared.notice.Move.TheVariants.{Local, Placement, Takeover}
use Rattle.rh_rules.specs.declared.pick.Pick.{Pick}
use Rattle.rh_rules.specs.ByHand.{forbidden, permission_set, permitted, pulls_back, frees}
use Rattle.rh_rules.specs.Course.{Course, course_of, is_local, is_fresh, fresh_of}
use Rattle.rh_rules.specs.Marking.{pair}
use Rattle.rh_rules.specs.Moves.{comes_before}
use Rattle.rh_rules.specs.NodesStart.{is_ready, come_up_if_ready, come_up, ready_come_up}
use Rattle.rh_rules.specs.Placing.{deps_run, is_operational, picked}
use Rattle.rh_rules.specs.Settling.{NoneEnabled, nexts, settled, waits_told}
use Rattle.rh_rules.specs.Steps.{outcome, outcome_of, followed, next}
use Rattle.rh_state.specs.declared.status.Standing.{Standing}
use Rattle.rh_state.specs.declared.status.Standing.TheVariants.{Running, Wanted}
use Rattle.rh_state.specs.Numbers.{nodes_of}
use Rattle.rh_state.specs.Setters.{with_allowed}
use Rattle.rh_state.specs.StateView.{StateView, is_up, mode_of, runs_at, is_started, is_allowed, standing_of}
use Rattle.rh_state.specs.Tables.{row, cell, with_cell}
use Rattle.rh_trace.specs.Validity.{IsValid}
use Rattle.rh_trace.proofs.NextFirsts.{still_if_none_enabled}
use Rattle.rh_trace.proofs.NextMoves.{left_true, right_true, all_called}
use Rattle.rh_trace.proofs.Places.{at_set}
use Rattle.rh_settle.proofs.FieldLaws.{never_left_wanted}
use Rattle.rh_settle.proofs.Fuel as fuel
use Rattle.rh_settle.proofs.Searches.{none_of_none}
use Rattle.rh_agreement_calls.proofs.Fewer.{none_ready}
use Rattle.rh_agreement_permits.specs.Permits.{ChangesNoMore, is_drawn}

-- a flag that is true was so before, or is the one that is set
pub flag_was : {P : Type 0} (table : List (List Bool)) (n m i j : ℕ) (value : Bool) → cell (with_cell table n i value) m j false ≡ true
    → (cell table m j false ≡ true → P) → (m ≡ n → j ≡ i → value ≡ true → P) → P
flag_was table n m i j value is before new =
    at_set table n m (slice_set (row table n) i value) []
    (λ same. before (sym (ap (λ (flags : List Bool). unwrap_or (slice_get flags j) false) same) ∙ is))
    (λ here now.
    let flag : unwrap_or (slice_get (slice_set (row table n) i value) j) false ≡ true =
    sym (ap (λ (flags : List Bool). unwrap_or (slice_get flags j) false) now) ∙ is in
    at_set (row table n) i j value false
    (λ same. before (ap (λ (k : ℕ). cell table k j false) here ∙ sym same ∙ flag))
    (λ there so. new here there (sym so ∙ flag)))

-- where no node is ready none comes up
pub none_of : (o : Course) → ((n : Node) → is_ready o.state n ≡ false) → (nodes : List Node) → fold come_up_if_ready o nodes ≡ o
unfolding come_up_if_ready
none_of o none [] = refl
none_of o none (n ∷ nodes) =
    ap (λ (b : Bool). fold come_up_if_ready (cond b (come_up o n) o) nodes) (none n) ∙ none_of o none nodes

module _ (s : StateView) (n : Node) (a : App) (allow : Bool) (valid : IsValid s) (can : ChangesNoMore s n a allow) where
  -- ---- the permission is set

  abbrev pub then : StateView
  then = with_allowed s n a allow

  abbrev course : Course
  course = permission_set (course_of s [] []) n a allow

  not_sent_away : (b : Bool) → allow ≡ b → (not b && (is_allowed s n a && runs_at s n a)) ≡ false
  not_sent_away true is = refl
  not_sent_away false is = (λ i. is_allowed s n a && can.runs_not is i) ∙ and-false (is_allowed s n a)

  permitted_so : permitted (course_of s [] []) n a allow ≡ course
  unfolding permitted
  permitted_so = ap (λ (b : Bool). cond b (forbidden (course_of s [] []) n a) course) (not_sent_away allow refl)

  -- ---- and nothing moves

  not_local : {P : Type 0} (b : App) → b.0 ≡ a.0 → is_local s.cluster b ≡ true → P
  not_local b same local =
      absurd (true≢false (sym local ∙ ap (λ (k : ℕ). is_local s.cluster (app_numbered k)) same ∙ can.spread))

  -- the application is permitted now at the node, and could run there but for that
  record Opens : Type 0 where
    on : allow ≡ true
    forbidden_before : is_allowed s n a ≡ false
    ready : (is_started s n a && deps_run s n a) ≡ true

  undrawn : Opens → is_drawn s n a (standing_of s a) ≡ false
  undrawn opens = elim (can.stays opens.on) [
    | inl may ↦ both (is_allowed s n a) may opens.forbidden_before
    | inr (inl not_ready) ↦ both (is_started s n a && deps_run s n a) opens.ready not_ready
    | inr (inr is) ↦ is
  ]

  could_run : {P : Type 0} (m : Node) (b : App) → is_operational then b m ≡ true → (is_operational s b m ≡ true → P)
      → (m.0 ≡ n.0 → b.0 ≡ a.0 → Opens → P) → P
  unfolding is_operational deps_run
  could_run {P} m b is before new = by (is_allowed s m b) refl
    where
      up : is_up (mode_of s m) ≡ true
      up = left_true _ _ is

      rest : (is_started s m b && (is_allowed then m b && deps_run s m b)) ≡ true
      rest = right_true (is_up (mode_of s m)) _ is

      started : is_started s m b ≡ true
      started = left_true _ _ rest

      more : (is_allowed then m b && deps_run s m b) ≡ true
      more = right_true (is_started s m b) _ rest

      needs : deps_run s m b ≡ true
      needs = right_true (is_allowed then m b) _ more

      by : (may : Bool) → is_allowed s m b ≡ may → P
      by true may = before (λ i. up i && (started i && (may i && needs i)))
      by false may =
          flag_was s.allowed n.0 m.0 a.0 b.0 allow (left_true (is_allowed then m b) _ more) (λ was. both (is_allowed s m b) was may)
          (λ here same on.
          new here same (record {
            on = on;
            forbidden_before = (λ i. is_allowed s (numbered (sym here i)) (app_numbered (sym same i))) ∙ may;
            ready = (λ i. is_started s (numbered (sym here i)) (app_numbered (sym same i))
                && deps_run s (numbered (sym here i)) (app_numbered (sym same i)))
                ∙ (λ i. started i && needs i);
          }))

  stands_so : (b : App) (st : Standing) → b.0 ≡ a.0 → standing_of s b ≡ st → standing_of s a ≡ st
  stands_so b st same is = (λ i. standing_of s (app_numbered (sym same i))) ∙ is

  -- what is freed is that, in a profile in which it is called back
  record IsFreed (m : Node) (b : App) : Type 0 where
    here : m.0 ≡ n.0
    same : b.0 ≡ a.0
    pulls : pulls_back s.cluster.profile ≡ true
    on : allow ≡ true
    forbidden_before : is_allowed s n a ≡ false

  only_freed : (m : Node) (b : App) → is_fresh (fresh_of course) m b ≡ true → IsFreed m b
  only_freed m b is = by (frees s n a allow) refl is
    where
      not_true : (p : Bool) → not p ≡ true → p ≡ false
      not_true true is = absurd (false≢true is)
      not_true false is = refl

      alone : (p : Bool) → (p || false) ≡ true → p ≡ true
      alone true is = refl
      alone false is = is

      by : (f : Bool) → frees s n a allow ≡ f → is_fresh (cond f (pair n a ∷ []) [] ++ []) m b ≡ true → IsFreed m b
      by false so fresh = absurd (false≢true fresh)
      by true so fresh =
          let found : ((m.0 == n.0) && (b.0 == a.0)) ≡ true = alone _ fresh in
          let rest : (allow && (not (is_allowed s n a) && is_started s n a)) ≡ true = right_true (pulls_back s.cluster.profile) _ so in
          record {
            here = same_number m.0 n.0 (left_true _ _ found);
            same = same_number b.0 a.0 (right_true (m.0 == n.0) _ found);
            pulls = left_true _ _ so;
            on = left_true _ _ rest;
            forbidden_before = not_true (is_allowed s n a) (left_true _ _ (right_true allow _ rest));
          }

  operational_may : (m : Node) (b : App) → is_operational s b m ≡ true → is_allowed s m b ≡ true
  unfolding is_operational
  operational_may m b is =
      left_true (is_allowed s m b) _ (right_true (is_started s m b) _ (right_true (is_up (mode_of s m)) _ is))

  none_moves : NoneEnabled then (fresh_of course)
  unfolding deps_run
  none_moves (Local m b) is =
      flag_was s.allowed n.0 m.0 a.0 b.0 allow is.3 (λ may. valid.still (Local m b) (is.0, is.1, is.2, may, is.4))
      (λ here same on. not_local b same is.1)
  none_moves (Placement b from m) is =
      could_run m b is.2.passes
      (λ before. both (is_operational s b m) before (never_left_wanted s b from valid.still is.0 is.1 m is.2.listed))
      (λ here same opens.
      true≢false (sym (ap (is_drawn s n a) (stands_so b (Wanted from) same is.1)) ∙ undrawn opens))
  none_moves (Takeover b k m) is =
      let called = all_called then (fresh_of course) b k m is.2.passes in
      let freed : IsFreed m b = only_freed m b called.1 in
      could_run m b called.2
      (λ before. both (is_allowed s m b) (operational_may m b before)
      ((λ i. is_allowed s (numbered (freed.here i)) (app_numbered (freed.same i))) ∙ freed.forbidden_before))
      (λ here same opens.
      true≢false
      (sym (ap (is_drawn s n a) (stands_so b (Running k) same is.1)
      ∙ (λ i. freed.pulls i && comes_before (group_of s.cluster (app_numbered (sym same i)) (numbered (sym here i)))
      (group_of s.cluster (app_numbered (sym same i)) k))
      ∙ called.0)
      ∙ undrawn opens))

  no_next : (pick : Pick) → picked pick (nexts course) ≡ None
  no_next pick = ap (picked pick) ((still_if_none_enabled then (fresh_of course)).1 none_moves) ∙ sym (none_of_none pick)

  none_comes_up : ready_come_up course ≡ course
  unfolding ready_come_up
  none_comes_up = none_of course (none_ready s then refl refl valid.settled) (nodes_of then.cluster)

  pub only_permits : (pick : Pick) → next s (event.Permit n a allow) pick ≡ outcome then []
  unfolding next followed
  only_permits pick =
      ap (λ (o : Course). outcome_of (settled pick (ready_come_up o))) permitted_so
      ∙ ap (λ (o : Course). outcome_of (settled pick o)) none_comes_up
      ∙ ap (λ (o : Course). outcome_of (waits_told o)) (fuel.ended pick course (no_next pick))
