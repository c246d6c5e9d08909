-- Where nothing moves, nothing moves either where less is started.
use Rattle.std.proofs.Common.{◌≡◌, ◌&&◌, Bool, true, false, List, [], ◌∷◌, Option, None, IsSome, refl, sym, ap, ◌∙◌, subst, slice_get, unwrap_or}
use Rattle.std.specs.List.{list_all}
use Rattle.std.proofs.lemmas.Bool.{and_parts}
use Rattle.rh_model.specs.ClusterView.{ClusterView, group_of, deps_of, is_platform}
use Rattle.rh_model.specs.declared.node.Node.{Node}
use Rattle.rh_model.specs.declared.node.App.{App}
use Rattle.rh_model.specs.declared.settings.Dep.{Dep}
use Rattle.rh_model.specs.declared.settings.Dep.TheVariants.{Listed, Platform}
use Rattle.rh_state.specs.declared.status.Mode.{Mode}
use Rattle.rh_state.specs.declared.status.Mode.TheVariants.{Down}
use Rattle.rh_state.specs.declared.status.Standing.TheVariants.{Wanted}
use Rattle.rh_state.specs.Shape.{IsNodeOf, IsAppOf}
use Rattle.rh_state.specs.Tables.{cell}
use Rattle.rh_state.specs.StateView.{StateView, mode_of, is_up, runs_at, waits_at, is_started, is_allowed, standing_of}
use Rattle.rh_rules.specs.declared.pick.Pick.{Pick}
use Rattle.rh_rules.specs.declared.pick.Pick.TheVariants.{First, Last}
use Rattle.rh_rules.specs.Placing.{picked, dep_runs, deps_run, is_operational}
use Rattle.rh_rules.specs.declared.notice.Move.{Move}
use Rattle.rh_rules.specs.declared.notice.Move.TheVariants.{Local, Placement, Takeover}
use Rattle.rh_rules.specs.declared.notice.Notice.{Notice}
use Rattle.rh_rules.specs.Course.{course_of, is_local}
use Rattle.rh_rules.specs.Settling.{NoneEnabled, waits_told, settled}
use Rattle.rh_base.proofs.Truths.{both, or_left, or_right}
use Rattle.rh_trace.proofs.Entries.{either}
use Rattle.rh_settle.proofs.FieldLaws.{never_left_wanted}
use Rattle.rh_settle.proofs.Fuel.{ended}
use Rattle.rh_trace.proofs.NextFirsts.{still_if_none_enabled}
use Rattle.rh_trace.proofs.NextMoves.{all_called}

-- what is started in the second state is so in the first, and an application that is to run there is to run in the first
pub record IsLess (s t : StateView) : Type 0 where
  pub cluster : t.cluster ≡ s.cluster
  pub modes : t.modes ≡ s.modes
  pub allowed : t.allowed ≡ s.allowed
  pub runs : (n : Node) (a : App) → runs_at t n a ≡ true → runs_at s n a ≡ true
  pub waits : (n : Node) (a : App) → waits_at t n a ≡ true → waits_at s n a ≡ true
  pub wanted : (a : App) (from : Option Node) → standing_of t a ≡ Wanted from → standing_of s a ≡ Wanted from

pub all_hold : (p q : Bool) → p ≡ true → q ≡ true → p && q ≡ true
all_hold true q h k = k
all_hold false q h k = absurd (cc h)

module _ (s t : StateView) (less : IsLess s t) where
  pub started_less : (n : Node) (a : App) → is_started t n a ≡ true → is_started s n a ≡ true
  started_less n a on = either (runs_at t n a) (waits_at t n a) on
      (λ r. or_left (runs_at s n a) (waits_at s n a) (less.runs n a r))
      (λ w. or_right (runs_at s n a) (waits_at s n a) (less.waits n a w))

  dep_less : (n : Node) (d : Dep) → dep_runs t n d ≡ true → dep_runs s n d ≡ true
  dep_less n (Listed b) h = less.runs n b h
  dep_less n (Platform p) h = ap (λ (c : ClusterView). is_platform c n p) (sym less.cluster) ∙ h

  each_dep : (n : Node) (ds : List Dep) → list_all (dep_runs t n) ds ≡ true → list_all (dep_runs s n) ds ≡ true
  each_dep n [] h = refl
  each_dep n (d ∷ ds) h =
      let parts = and_parts (dep_runs t n d) (list_all (dep_runs t n) ds) h in
      all_hold (dep_runs s n d) (list_all (dep_runs s n) ds) (dep_less n d parts.0) (each_dep n ds parts.1)

  deps_less : (n : Node) (a : App) → deps_run t n a ≡ true → deps_run s n a ≡ true
  unfolding deps_run
  deps_less n a h = each_dep n (deps_of s.cluster a) (ap (λ (c : ClusterView). list_all (dep_runs t n) (deps_of c a)) (sym less.cluster) ∙ h)

  allowed_less : (n : Node) (a : App) → is_allowed t n a ≡ true → is_allowed s n a ≡ true
  allowed_less n a h = ap (λ (table : List (List Bool)). cell table n.0 a.0 false) (sym less.allowed) ∙ h

  able_less : (a : App) (n : Node) → is_operational t a n ≡ true → is_operational s a n ≡ true
  unfolding is_operational
  able_less a n h =
      let up = and_parts (is_up (mode_of t n)) (is_started t n a && (is_allowed t n a && deps_run t n a)) h in
      let on = and_parts (is_started t n a) (is_allowed t n a && deps_run t n a) up.1 in
      let may = and_parts (is_allowed t n a) (deps_run t n a) on.1 in
      all_hold (is_up (mode_of s n)) (is_started s n a && (is_allowed s n a && deps_run s n a))
      (ap (λ (modes : List Mode). is_up (unwrap_or (slice_get modes n.0) Down)) (sym less.modes) ∙ up.0)
      (all_hold (is_started s n a) (is_allowed s n a && deps_run s n a) (started_less n a on.0)
      (all_hold (is_allowed s n a) (deps_run s n a) (allowed_less n a may.0) (deps_less n a may.1)))

  pub none_less : NoneEnabled s [] → NoneEnabled t []
  none_less still (Local n a) e = still (Local n a) (
    subst (λ (c : ClusterView). IsNodeOf c n) less.cluster e.0,
    ap (λ (c : ClusterView). is_local c a) (sym less.cluster) ∙ e.1,
    less.waits n a e.2,
    allowed_less n a e.3,
    deps_less n a e.4,
  )
  none_less still (Placement a from n) e = both (is_operational s a n) (able_less a n e.2.passes)
      (never_left_wanted s a from still
      (subst (λ (c : ClusterView). IsAppOf c a) less.cluster e.0)
      (less.wanted a from e.1)
      n
      (subst (λ (c : ClusterView). IsSome (group_of c a n)) less.cluster e.2.listed))
  none_less still (Takeover a m n) e = both false (all_called t [] a m n e.2.passes).1 refl

-- ---- a settling of such a state does nothing
none_of_none : (pick : Pick) → picked {A = Move} pick [] ≡ None
none_of_none First = refl
none_of_none Last = refl

pub settles_at_once : (pick : Pick) (s : StateView) (told : List Notice) → NoneEnabled s [] → settled pick (course_of s told []) ≡ course_of s told []
settles_at_once pick s told still =
    ap waits_told (ended pick (course_of s told []) (ap (picked pick) ((still_if_none_enabled s []).1 still) ∙ none_of_none pick))
