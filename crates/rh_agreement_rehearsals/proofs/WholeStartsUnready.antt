-- By the manual's rules no node is ready behind a boot, where each waits for others and names one that isn't alive.
use Rattle.std.proofs.Common.{◌≡◌, ◌≢◌, ◌<◌, ◌≤◌, ◌+◌, ◌++◌, ◌&&◌, ◌||◌, ◌==◌, ℕ, Bool, true, false, List, [], ◌∷◌, slice_get, unwrap_or, Option, refl, sym, ap, subst, ◌∙◌, inl, inr, arith}
use Rattle.std.specs.List.{list_all}
use Rattle.std.proofs.Math.Bool.{and-false}
use Rattle.std.proofs.lemmas.Bool.{cases_eq, cases_lt, and_left, false≢true, ne_eqb}
use Rattle.std.proofs.lemmas.List.Folds.{list_any-append}
use Rattle.std.proofs.lemmas.Option.{slice_get_past}
use Rattle.rh_model.specs.ClusterView.{ClusterView, node_count, is_in, mandatory_of, optional_of, sync_wait_of}
use Rattle.rh_model.specs.declared.node.App.{App}
use Rattle.rh_model.specs.declared.node.Node.{Node}
use Rattle.rh_model.specs.declared.settings.SyncWait.{SyncWait}
use Rattle.rh_model.specs.declared.settings.SyncWait.TheVariants.{Unset, After, Forever}
use Rattle.rh_rules.specs.NodesStart.{booted, with_sync_timer, all_alive, has_others, is_ready}
use Rattle.rh_refusals.proofs.Accepted.{CanBoot}
use Rattle.rh_state.specs.declared.status.Mode.{Mode}
use Rattle.rh_state.specs.declared.status.Mode.TheVariants as mode
use Rattle.rh_state.specs.declared.status.Standing.{Standing}
use Rattle.rh_state.specs.declared.status.Standing.TheVariants.{Quiet}
use Rattle.rh_state.specs.Setters.{with_mode, with_incarnation}
use Rattle.rh_state.specs.StateView.{StateView, mode_of, incarnation_of, standing_of, is_alive, is_waiting}
use Rattle.rh_trace.specs.Validity.{IsValid}
use Rattle.rh_otp_waits.specs.Waits.{is_listed}
use Rattle.rh_agreement_boots.proofs.Ready.{cluster_so, mode_there, sound}

-- ---- it names one that isn't alive

not_all : (p : Node → Bool) (nodes : List Node) (x : Node) → is_in x nodes ≡ true → ((m : Node) → x.0 ≡ m.0 → p m ≡ false)
    → list_all p nodes ≡ false
not_all p [] x among fails = absurd (false≢true among)
not_all p (y ∷ nodes) x among fails = elim (cases_eq x.0 y.0) [
  | inl is ↦ and_left (p y) (list_all p nodes) (fails y is)
  | inr other ↦ ap (λ (b : Bool). p y && b)
      (not_all p nodes x (sym (ap (λ (b : Bool). b || is_in x nodes) (ne_eqb x.0 y.0 other)) ∙ among) fails)
      ∙ and-false (p y)
]

not_all_alive : (s : StateView) (m last : Node) → is_listed s.cluster m last ≡ true → is_alive (mode_of s last) ≡ false
    → list_all (λ (k : Node). is_alive (mode_of s k)) (mandatory_of s.cluster m ++ optional_of s.cluster m) ≡ false
not_all_alive s m last listed down =
    not_all (λ (k : Node). is_alive (mode_of s k)) (mandatory_of s.cluster m ++ optional_of s.cluster m) last
    (list_any-append (λ (k : Node). last.0 == k.0) (mandatory_of s.cluster m) (optional_of s.cluster m) ∙ listed)
    (λ k is. sym (ap (λ (j : ℕ). is_alive (unwrap_or (slice_get s.modes j) mode.Down)) is) ∙ down)

lacks_some : (s : StateView) (m last : Node) (wait : SyncWait) → wait ≢ Unset → is_listed s.cluster m last ≡ true
    → is_alive (mode_of s last) ≡ false → has_others s m wait ≡ false
unfolding all_alive
lacks_some s m last Unset some listed down = absurd (some refl)
lacks_some s m last (After ms) some listed down = not_all_alive s m last listed down
lacks_some s m last Forever some listed down = not_all_alive s m last listed down

-- ---- so none is ready

module _ (s : StateView) (n last : Node) (valid : IsValid s) (can : CanBoot s n) (down : mode_of s last ≡ mode.Down)
    (apart : last.0 ≢ n.0) (waits : (m : Node) → m.0 < node_count s.cluster → sync_wait_of s.cluster m ≢ Unset)
    (lists : (m : Node) → m.0 < node_count s.cluster → m.0 ≢ last.0 → is_listed s.cluster m last ≡ true) where
  abbrev behind : StateView
  behind = booted s n

  still_down : mode_of behind last ≡ mode.Down
  still_down = mode_there s n valid can last apart ∙ down

  lacking : (m : Node) → m.0 < node_count s.cluster → m.0 ≢ last.0 → has_others behind m (sync_wait_of behind.cluster m) ≡ false
  lacking m inside other =
      lacks_some behind m last (sync_wait_of behind.cluster m)
      (subst (λ (c : ClusterView). sync_wait_of c m ≢ Unset) (sym (cluster_so s n valid can)) (waits m inside))
      (subst (λ (c : ClusterView). is_listed c m last ≡ true) (sym (cluster_so s n valid can)) (lists m inside other))
      (ap is_alive still_down)

  -- a number that no node has
  not_there : (m : Node) → node_count s.cluster ≤ m.0 → mode_of behind m ≡ mode.Down
  not_there m past =
      ap (λ (o : Option Mode). unwrap_or o mode.Down)
      (slice_get_past behind.modes m.0
      (omega (arith, past, (sound s n valid can).shaped.modes, ap node_count (cluster_so s n valid can))))

  pub unready : (m : Node) → is_ready behind m ≡ false
  unfolding is_ready
  unready m = elim (cases_lt m.0 (node_count s.cluster)) [
    | inl inside ↦ elim (cases_eq m.0 last.0) [
      | inl same ↦ and_left _ _
          (ap (λ (j : ℕ). is_waiting (unwrap_or (slice_get behind.modes j) mode.Down)) same ∙ ap is_waiting still_down)
      | inr other ↦ ap (λ (b : Bool). is_waiting (mode_of behind m) && b) (lacking m inside other)
          ∙ and-false (is_waiting (mode_of behind m))
    ]
    | inr past ↦ and_left _ _ (ap is_waiting (not_there m past))
  ]

-- ---- and no application is to run

standings_by : (s : StateView) (n : Node) (wait : SyncWait)
    → (with_sync_timer (with_mode (with_incarnation s n (incarnation_of s n + 1)) n mode.Waiting) n wait).standings ≡ s.standings
standings_by s n Unset = refl
standings_by s n (After ms) = refl
standings_by s n Forever = refl

standings_so : (s : StateView) (n : Node) → (booted s n).standings ≡ s.standings
unfolding booted
standings_so s n = standings_by s n (sync_wait_of s.cluster n)

pub still_quiet : (s : StateView) (n : Node) → ((a : App) → standing_of s a ≡ Quiet) → (a : App) → standing_of (booted s n) a ≡ Quiet
still_quiet s n quiet a = ap (λ (all : List Standing). unwrap_or (slice_get all a.0) Quiet) (standings_so s n) ∙ quiet a
