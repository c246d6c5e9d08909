-- By the manual's rules an application that runs moves to the node that takes it over, and that is all, where nothing that waits there
-- needs it.
use Rattle.std.proofs.Common.{◌≡◌, ◌<◌, ◌==◌, ◌||◌, ◌&&◌, ℕ, Bool, true, false, not, cond, List, [], ◌∷◌, slice_get, unwrap_or, length, Option, None, Some, refl, sym, ap, subst, ◌∙◌}
use Rattle.std.specs.List.{list_all, list_any}
use Rattle.std.proofs.lemmas.Bool.{and_parts, false≢true, true≢false}
use Rattle.std.proofs.lemmas.Option.{slice_get_within}
use Rattle.rh_base.proofs.Truths.{both, or_right, same_number, same_refl}
use Rattle.rh_model.specs.ClusterView.{deps_of, node_count, numbered, app_numbered}
use Rattle.rh_model.specs.declared.node.App.{App}
use Rattle.rh_model.specs.declared.node.Node.{Node}
use Rattle.rh_model.specs.declared.settings.Dep.{Dep}
use Rattle.rh_model.specs.declared.settings.Dep.TheVariants.{Listed, Platform}
use Rattle.rh_model.specs.declared.settings.Restart.{Restart}
use Rattle.rh_rules.specs.declared.event.Event.TheVariants as event
use Rattle.rh_rules.specs.declared.notice.Move.TheVariants.{Local, Placement, Takeover}
use Rattle.rh_rules.specs.declared.notice.Notice.{Notice}
use Rattle.rh_rules.specs.declared.notice.Notice.TheVariants as notice
use Rattle.rh_rules.specs.declared.pick.Pick.{Pick}
use Rattle.rh_rules.specs.declared.refusal.Refusal.TheVariants as refusal
use Rattle.rh_rules.specs.ByHand.{taken_over, taken_from}
use Rattle.rh_rules.specs.Course.{Course, course_of, is_local}
use Rattle.rh_rules.specs.Moves.{moved_state}
use Rattle.rh_rules.specs.NodesStart.{ready_come_up}
use Rattle.rh_rules.specs.Placing.{dep_runs, deps_run, is_operational, missing_dep, picked}
use Rattle.rh_rules.specs.Refusals.{refused, dep_tests, first_that_applies}
use Rattle.rh_rules.specs.Settling.{NoneEnabled, nexts, settled, waits_told}
use Rattle.rh_rules.specs.Steps.{outcome, outcome_of, followed, next}
use Rattle.rh_state.specs.declared.status.Kind.TheVariants as kind
use Rattle.rh_state.specs.declared.status.Standing.{Standing}
use Rattle.rh_state.specs.declared.status.Standing.TheVariants.{Quiet, Wanted, Running}
use Rattle.rh_state.specs.Setters.{with_restart}
use Rattle.rh_state.specs.Shape.{IsAppOf}
use Rattle.rh_state.specs.Standings.{is_running, is_running_at}
use Rattle.rh_state.specs.StateView.{StateView, is_up, mode_of, runs_at, waits_at, is_started, is_allowed, standing_of}
use Rattle.rh_trace.specs.Validity.{IsValid}
use Rattle.rh_trace.proofs.Entries.{not_same, taken_has, put_has}
use Rattle.rh_trace.proofs.NextFirsts.{still_if_none_enabled}
use Rattle.rh_trace.proofs.NextMoves.{left_true, right_true, all_called, up_within}
use Rattle.rh_trace.proofs.Places.{at_set}
use Rattle.rh_settle.proofs.FieldLaws.{never_left_wanted}
use Rattle.rh_settle.proofs.Fuel as fuel
use Rattle.rh_settle.proofs.Searches.{none_of_none}
use Rattle.rh_agreement_calls.specs.Starts.{is_dep}
use Rattle.rh_agreement_calls.proofs.ByHand.{by_hand}
use Rattle.rh_agreement_calls.proofs.Fewer.{none_comes_up}
use Rattle.rh_agreement_calls.proofs.Started.{wanted_not_quiet, running_not_quiet, running_not_wanted}
use Rattle.rh_agreement_spread.proofs.StartAlike.{none_missing}
use Rattle.rh_agreement_takeovers.specs.Takeovers.{CanBeTakenOver}

-- what stands as running is an application of the cluster
stands_within : (standings : List Standing) (k : ℕ) (m : Node) → unwrap_or (slice_get standings k) Quiet ≡ Running m → k < length standings
stands_within standings k m is = by (slice_get standings k) refl is
  where
    by : (o : Option Standing) → slice_get standings k ≡ o → unwrap_or o Quiet ≡ Running m → k < length standings
    by None none quiet = running_not_quiet m Quiet refl quiet
    by (Some st) there runs = slice_get_within standings k st there

module _ (s : StateView) (n at : Node) (a : App) (r : Restart) (valid : IsValid s) (can : CanBeTakenOver s n at a) where
  pub within : n.0 < node_count s.cluster
  within = up_within s n valid.sound.shaped.modes can.up

  app : IsAppOf s.cluster a
  app = subst (λ (k : ℕ). a.0 < k) valid.sound.shaped.standings (stands_within s.standings a.0 at can.runs)

  spread : is_local s.cluster a ≡ false
  spread = by (is_local s.cluster a) refl
    where
      by : (p : Bool) → is_local s.cluster a ≡ p → p ≡ false
      by true is = running_not_quiet at (standing_of s a) (valid.sound.standing.local a is) can.runs
      by false is = refl

  -- ---- it isn't refused

  nothing_missing : missing_dep s n a ≡ None
  unfolding missing_dep deps_run
  nothing_missing = none_missing s n (deps_of s.cluster a) can.needs

  not_here : is_running_at n (standing_of s a) ≡ false
  not_here = ap (is_running_at n) can.runs ∙ not_same at.0 n.0 can.other

  pub fine : refused s (event.Takeover n a r) ≡ None
  unfolding refused
  fine =
      by_hand s n a within app can.up _
      ∙ (λ i. cond (spread i) (Some refusal.NotDistributed)
      (cond (not (can.listed i)) (Some refusal.NotListed)
      (cond (not (is_running (can.runs i))) (Some refusal.NotRunning)
      (cond (not_here i) (Some refusal.RunsHere)
      (cond (not (can.may i)) (Some refusal.NotPermitted) (first_that_applies (dep_tests (nothing_missing i))))))))

  -- ---- it moves

  abbrev pub then : StateView
  then = moved_state (with_restart s n a r) (Takeover a at n)

  abbrev pub notes : List Notice
  notes = notice.Started a n (kind.Takeover at) None ∷ notice.Stopped a at ∷ []

  abbrev last : Course
  last = course_of then notes []

  taken_so : taken_over (course_of s [] []) n a r ≡ last
  unfolding taken_over
  taken_so = ap (taken_from (course_of s [] []) n a r) can.runs

  -- ---- and nothing else does

  waited : {P : Type 0} (m : Node) (b : App) → waits_at then m b ≡ true → (waits_at s m b ≡ true → P)
      → (m.0 ≡ at.0 → (b.0 == a.0) ≡ true → P) → P
  waited m b is before new =
      put_has _ at.0 m.0 a b is
      (λ left. before (taken_has s.waiting n.0 m.0 a b (taken_has _ at.0 m.0 a b left))) new

  ran : {P : Type 0} (m : Node) (b : App) → runs_at then m b ≡ true → (runs_at s m b ≡ true → P) → (m.0 ≡ n.0 → (b.0 == a.0) ≡ true → P) → P
  ran m b is before new =
      put_has _ n.0 m.0 a b (taken_has _ at.0 m.0 a b is) (λ left. before (taken_has s.running n.0 m.0 a b left)) new

  abbrev unneeded_by : List Dep → Type 0
  unneeded_by deps = list_any (is_dep a) deps ≡ false

  dep_ran : (m : Node) (d : Dep) → (m.0 ≡ n.0 → is_dep a d ≡ false) → dep_runs then m d ≡ true → dep_runs s m d ≡ true
  dep_ran m (Listed b) apart is =
      ran m b is (λ before. before)
      (λ here same. both (a.0 == b.0) (ap (λ (k : ℕ). a.0 == k) (same_number b.0 a.0 same) ∙ same_refl a.0) (apart here))
  dep_ran m (Platform p) apart is = is

  or_parts : (p q : Bool) → (p || q) ≡ false → (p ≡ false) × (q ≡ false)
  or_parts true q is = absurd (false≢true (sym is))
  or_parts false q is = (refl, is)

  each_ran : (m : Node) (deps : List Dep) → (m.0 ≡ n.0 → unneeded_by deps) → list_all (dep_runs then m) deps ≡ true
      → list_all (dep_runs s m) deps ≡ true
  each_ran m [] apart is = refl
  each_ran m (d ∷ deps) apart is =
      let parts = and_parts (dep_runs then m d) _ is in
      λ i. dep_ran m d (λ here. (or_parts (is_dep a d) _ (apart here)).0) parts.0 i
      && each_ran m deps (λ here. (or_parts (is_dep a d) _ (apart here)).1) parts.1 i

  unneeded_there : (m : Node) (b : App) → waits_at s m b ≡ true → m.0 ≡ n.0 → unneeded_by (deps_of s.cluster b)
  unneeded_there m b waits here = can.unneeded b (sym (ap (λ (k : ℕ). waits_at s (numbered k) b) here) ∙ waits)

  runs_too : (b : App) → (b.0 == a.0) ≡ true → standing_of s b ≡ Running at
  runs_too b same = ap (λ (k : ℕ). standing_of s (app_numbered k)) (same_number b.0 a.0 same) ∙ can.runs

  -- an application that is to run runs nowhere
  wanted_runs_not : {P : Type 0} (m : Node) (b : App) (from : Option Node) → standing_of s b ≡ Wanted from → runs_at s m b ≡ true → P
  wanted_runs_not {P = P} m b from wanted runs = by (is_local s.cluster b) refl
    where
      by : (p : Bool) → is_local s.cluster b ≡ p → P
      by true is = wanted_not_quiet from (standing_of s b) (valid.sound.standing.local b is) wanted
      by false is = running_not_wanted m from (standing_of s b) (valid.sound.standing.stands m b is runs) wanted

  waits_before : (m : Node) (b : App) (from : Option Node) → standing_of s b ≡ Wanted from → (p : Bool) → runs_at then m b ≡ p
      → (p || waits_at then m b) ≡ true → waits_at s m b ≡ true
  waits_before m b from wanted true runs is =
      ran m b runs (wanted_runs_not m b from wanted) (λ here same. running_not_wanted at from (standing_of s b) (runs_too b same) wanted)
  waits_before m b from wanted false runs is =
      waited m b is (λ before. before) (λ here same. running_not_wanted at from (standing_of s b) (runs_too b same) wanted)

  could_run : (m : Node) (b : App) (from : Option Node) → standing_of s b ≡ Wanted from → is_operational then b m ≡ true
      → is_operational s b m ≡ true
  unfolding is_operational deps_run
  could_run m b from wanted is =
      let up : is_up (mode_of s m) ≡ true = left_true _ _ is in
      let rest = right_true (is_up (mode_of s m)) _ is in
      let waits : waits_at s m b ≡ true = waits_before m b from wanted (runs_at then m b) refl (left_true _ _ rest) in
      let more = right_true (is_started then m b) _ rest in
      let started : is_started s m b ≡ true = or_right (runs_at s m b) (waits_at s m b) waits in
      let may : is_allowed s m b ≡ true = left_true (is_allowed then m b) (deps_run then m b) more in
      let needs : list_all (dep_runs s m) (deps_of s.cluster b) ≡ true =
      each_ran m (deps_of s.cluster b) (unneeded_there m b waits) (right_true (is_allowed then m b) (deps_run then m b) more) in
      λ i. up i && (started i && (may i && needs i))

  none_moves : NoneEnabled then []
  unfolding deps_run
  none_moves (Local m b) is =
      waited m b is.2
      (λ waits. valid.still (Local m b) (is.0, is.1, waits, is.3, each_ran m (deps_of s.cluster b) (unneeded_there m b waits) is.4))
      (λ here same. true≢false
      (sym is.1 ∙ ap (λ (k : ℕ). is_local s.cluster (app_numbered k)) (same_number b.0 a.0 same) ∙ spread))
  none_moves (Placement b from m) is =
      at_set s.standings a.0 b.0 (Running n) Quiet
      (λ same.
      let before : standing_of s b ≡ Wanted from = sym same ∙ is.1 in
      both (is_operational s b m) (could_run m b from before is.2.passes)
      (never_left_wanted s b from valid.still is.0 before m is.2.listed))
      (λ one new. running_not_wanted n from (Running n) refl (sym new ∙ is.1))
  none_moves (Takeover b k m) is = false≢true (all_called then [] b k m is.2.passes).1

  no_next : (pick : Pick) → picked pick (nexts last) ≡ None
  no_next pick = ap (picked pick) ((still_if_none_enabled then []).1 none_moves) ∙ sym (none_of_none pick)

  pub only_moves : (pick : Pick) → next s (event.Takeover n a r) pick ≡ outcome then notes
  unfolding next followed
  only_moves pick =
      ap (λ (o : Course). outcome_of (settled pick (ready_come_up o))) taken_so
      ∙ ap (λ (o : Course). outcome_of (settled pick o)) (none_comes_up s then refl refl valid.settled notes [])
      ∙ ap (λ (o : Course). outcome_of (waits_told o)) (fuel.ended pick last (no_next pick))
