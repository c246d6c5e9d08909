-- Each distributed application that is booted is placed at its node, in the order of applications; and then nothing moves any more.
use Rattle.std.proofs.Common.{◌≡◌, ◌<◌, ◌≤◌, ◌+◌, ◌||◌, ◌&&◌, ℕ, zero, suc, Bool, true, false, not, List, [], ◌∷◌, map, length, nat_eq, nat_lt, unwrap_or, Some, None, Option, subst, refl, sym, ap, ◌∙◌, inl, inr, arith}
use Rattle.std.specs.List.{filter, list_any, list_all, range_with_len}
use Rattle.std.specs.Option.{option_map}
use Rattle.std.proofs.lemmas.Bool.{and_from, and_parts, cases_lt, true≢false, false≢true}
use Rattle.std.proofs.lemmas.List.Elements.{All-weaker}
use Rattle.std.proofs.lemmas.Option.{slice_get_past}
use Rattle.rh_model.specs.ClusterView.{ClusterView, NodeView, IsWithin, node_count, app_count, numbered, app_numbered, boot_of, deps_of, is_permitted, is_platform, group_of}
use Rattle.rh_model.specs.declared.node.App.{App}
use Rattle.rh_model.specs.declared.node.Node.{Node}
use Rattle.rh_model.specs.declared.settings.Dep.{Dep}
use Rattle.rh_model.specs.declared.settings.Dep.TheVariants.{Listed, Platform}
use Rattle.rh_state.specs.declared.status.Kind.TheVariants as kind
use Rattle.rh_state.specs.declared.status.Mode.{Mode}
use Rattle.rh_state.specs.declared.status.Mode.TheVariants as mode
use Rattle.rh_state.specs.declared.status.Standing.{Standing}
use Rattle.rh_state.specs.declared.status.Standing.TheVariants.{Quiet, Wanted, Running}
use Rattle.rh_state.specs.Numbers.{nodes_of, apps_of, same_app}
use Rattle.rh_state.specs.StateView.{StateView, mode_of, is_up, is_allowed, is_started, runs_at, waits_at, waiting_at, standing_of, running_count}
use Rattle.rh_base.specs.Lists.{first_given, lightest}
use Rattle.rh_base.proofs.Lists.{cases}
use Rattle.rh_base.proofs.Truths.{same_number, or_left}
use Rattle.rh_rules.specs.declared.notice.Move.TheVariants.{Placement, Takeover}
use Rattle.rh_rules.specs.declared.notice.Notice.{Notice}
use Rattle.rh_rules.specs.declared.notice.Notice.TheVariants as notice
use Rattle.rh_rules.specs.declared.notice.Pair.{Pair}
use Rattle.rh_rules.specs.declared.pick.Pick.{Pick}
use Rattle.rh_rules.specs.Course.{Course, is_local, is_fresh, fresh_of}
use Rattle.rh_rules.specs.Moves.{comes_before, calls_away, local_move, local_moves, placements, placements_from, takeovers, takeovers_from, moved}
use Rattle.rh_rules.specs.Placing.{dep_runs, deps_run, is_operational, groups_of, best, candidates, picked}
use Rattle.rh_rules.specs.Settling.{IsBest, next_moves, nexts}
use Rattle.rh_step_laws.specs.Laws.{boots}
use Rattle.rh_trace.specs.Validity.{IsSound}
use Rattle.rh_trace.proofs.Best.{each_best}
use Rattle.rh_trace.proofs.Entries.{is_false, other_number}
use Rattle.rh_trace.proofs.Every.{Every, filter_no, filter_yes}
use Rattle.rh_trace.proofs.Falls.{Progresses}
use Rattle.rh_trace.proofs.Firsts.{empty_of, every_in}
use Rattle.rh_trace.proofs.NextMoves.{operational_within}
use Rattle.rh_settle.proofs.Boards.{given_nowhere, local_beyond}
use Rattle.rh_settle.proofs.Fuel.{unrolled}
use Rattle.rh_settle.proofs.Searches.{none_of_none, either_none, either_some, found_behind, none_behind}
use Rattle.rh_settle.proofs.Soundly.{sound_moved}
use Rattle.rh_settle.proofs.Starts.{no_move_of, no_start}
use Rattle.rh_events.proofs.SoundEndingFits.{stands_here, stands_there}
use Rattle.rh_start_laws.specs.Starts.{StartsInOrder, may_start}
use Rattle.rh_start_laws.proofs.Booted.{IsThere, deps_there, some_of_any, none_boots, lt_same, lt_not, lt_next, lt_yes, eq_sym, lightest_one}
use Rattle.rh_start_laws.proofs.Lists.{gone, come, none_given, all_true, given_same, stays_right, none_right}
use Rattle.rh_start_laws.proofs.Locals.{Comes, comes_itself, comes_on, only_one}
use Rattle.rh_start_laws.proofs.Marks.{has_row}
use Rattle.rh_start_laws.proofs.Rising.{is_called}

-- how it stands that is booted or isn't, once it is placed or before
abbrev pub stands_by : Bool → Bool → Node → Standing
stands_by true true n = Running n
stands_by true false n = Wanted None
stands_by false placed n = Quiet

module _ (c : ClusterView) (f : StartsInOrder c) (pick : Pick) where
  -- the local ones, and of the distributed ones the first so many, at their nodes
  abbrev pub starts_by : ℕ → Node → App → Bool
  starts_by k m a = is_local c a || (nat_lt a.0 k && nat_eq (f.at a).0 m.0)

  abbrev pub is_called_there : App → Bool
  is_called_there a = is_called c (nodes_of c) a

  -- The local ones run where they are booted, and the first so many of the others at their nodes; the rest waits.
  pub record ArePlaced (k : ℕ) (o : Course) : Type 0 where
    pub cluster : o.state.cluster ≡ c
    pub sound : IsSound o.state
    pub up : (m : Node) → m.0 < node_count c → mode_of o.state m ≡ mode.Up
    pub allowed : (m : Node) (a : App) → m.0 < node_count c → is_allowed o.state m a ≡ is_permitted c m a
    pub runs : (m : Node) (a : App) → m.0 < node_count c → runs_at o.state m a ≡ (boots c m a && starts_by k m a)
    pub waits : (m : Node) (a : App) → m.0 < node_count c → waits_at o.state m a ≡ (boots c m a && not (starts_by k m a))
    pub standings : (a : App) → standing_of o.state a ≡ stands_by (is_called_there a) (nat_lt a.0 k) (f.at a)

  -- ---- where the others can run

  module _ (k : ℕ) (o : Course) (h : ArePlaced k o) where
    abbrev s : StateView
    s = o.state

    inside_of : (n : Node) → n.0 < node_count s.cluster → n.0 < node_count c
    inside_of n lt = subst (λ (d : ClusterView). n.0 < node_count d) h.cluster lt

    inside_s : (n : Node) → n.0 < node_count c → n.0 < node_count s.cluster
    inside_s n lt = subst (λ (d : ClusterView). n.0 < node_count d) (sym h.cluster) lt

    started_so : (m : Node) (a : App) → m.0 < node_count c → is_started s m a ≡ boots c m a
    started_so m a inside = (λ i. h.runs m a inside i || h.waits m a inside i) ∙ by (boots c m a) (starts_by k m a)
      where
        by : (x y : Bool) → ((x && y) || (x && not y)) ≡ x
        by true true = refl
        by true false = refl
        by false y = refl

    all_run : (m : Node) (a : App) → m.0 < node_count c → boots c m a ≡ true → deps_run s m a ≡ true
    unfolding deps_run
    all_run m a inside is =
        ap (λ (d : ClusterView). list_all (dep_runs s m) (deps_of d a)) h.cluster
        ∙ all_true (dep_runs s m) (deps_of c a)
        (All-weaker (IsThere c m) (λ (d : Dep). dep_runs s m d ≡ true) one (deps_of c a)
        (deps_there c m (boot_of c m) [] a (f.in_order m inside) is (λ b there. absurd (false≢true there)) (λ b there. there)))
      where
        one : (d : Dep) → IsThere c m d → dep_runs s m d ≡ true
        one (Listed b) there = h.runs m b inside
            ∙ and_from (boots c m b) (starts_by k m b) there.0 (or_left (is_local c b) (nat_lt b.0 k && nat_eq (f.at b).0 m.0) there.1)
        one (Platform p) there = ap (λ (d : ClusterView). is_platform d m p) h.cluster ∙ there

    can_run : (a : App) (m : Node) → is_operational s a m ≡ may_start c a m
    unfolding is_operational
    can_run a m = elim (cases_lt m.0 (node_count c)) [
      | inl inside ↦ by (is_up (mode_of s m)) (is_started s m a) (is_allowed s m a) (deps_run s m a) (is_permitted c m a) (boots c m a)
          (ap is_up (h.up m inside)) (started_so m a inside) (h.allowed m a inside) (all_run m a inside)
      | inr past ↦ ap (λ (x : Bool). x && (is_started s m a && (is_allowed s m a && deps_run s m a)))
          (ap (λ (found : Option Mode). is_up (unwrap_or found mode.Down)) (slice_get_past s.modes m.0 (past_modes past)))
          ∙ sym (ap (λ (x : Bool). x && is_permitted c m a) (boots_none past))
    ]
      where
        past_modes : node_count c ≤ m.0 → length s.modes ≤ m.0
        past_modes past =
            let long : length s.modes ≡ node_count s.cluster = h.sound.shaped.modes in
            let same : node_count s.cluster ≡ node_count c = ap (λ (d : ClusterView). node_count d) h.cluster in
            omega (arith, long, same, past)

        boots_none : node_count c ≤ m.0 → boots c m a ≡ false
        boots_none past =
            let within : IsWithin c = subst IsWithin h.cluster h.sound.within in
            let long : length c.nodes ≡ node_count c = within.nodes in
            ap (λ (found : Option NodeView). has_row (unwrap_or (option_map (λ (v : NodeView). v.boot) found) []) a)
            (slice_get_past c.nodes m.0 (omega (arith, long, past)))

        by : (u st al d p b : Bool) → u ≡ true → st ≡ b → al ≡ p → (b ≡ true → d ≡ true) → (u && (st && (al && d))) ≡ (b && p)
        by u st al d p b up starts allows runs =
            ap (λ (x : Bool). x && (st && (al && d))) up ∙ ap (λ (x : Bool). x && (al && d)) starts
            ∙ ap (λ (x : Bool). b && (x && d)) allows
            ∙ last b p d runs
          where
            last : (b p d : Bool) → (b ≡ true → d ≡ true) → (b && (p && d)) ≡ (b && p)
            last false p d runs = refl
            last true false d runs = refl
            last true true d runs = runs refl

    module _ (a : App) (called : is_called_there a ≡ true) where
      parts : (list_any (λ (m : Node). boots c m a) (nodes_of c) ≡ true) × (not (is_local c a) ≡ true)
      parts = and_parts (list_any (λ (m : Node). boots c m a) (nodes_of c)) (not (is_local c a)) called

      far : is_local c a ≡ false
      far = is_false (is_local c a) (λ t. false≢true (sym (ap not t) ∙ parts.1))

      booted_at : (m : Node) × (boots c m a ≡ true)
      booted_at = some_of_any (λ (m : Node). boots c m a) (nodes_of c) parts.0

      candidates_are : best s a (is_operational s a) ≡ f.at a ∷ []
      unfolding best
      candidates_are =
          ap (λ (d : ClusterView). lightest (running_count s) (first_given (filter (is_operational s a)) (groups_of d a))) h.cluster
          ∙ ap (lightest (running_count s)) (given_same (is_operational s a) (may_start c a) (groups_of c a) (can_run a)
          ∙ f.first booted_at.0 a booted_at.1 far)
          ∙ lightest_one (running_count s) (f.at a)

      is_best : IsBest s a (is_operational s a) (f.at a)
      is_best = (subst (Every (IsBest s a (is_operational s a))) candidates_are (each_best s a (is_operational s a))).0

      at_inside : (f.at a).0 < node_count s.cluster
      at_inside = operational_within s a (f.at a) h.sound.shaped.modes is_best.passes

      boots_there : boots c (f.at a) a ≡ true
      boots_there = (and_parts (boots c (f.at a) a) (is_permitted c (f.at a) a) (sym (can_run a (f.at a)) ∙ is_best.passes)).0

      wanted_placements : standing_of s a ≡ Wanted None → placements s a ≡ Placement a None (f.at a) ∷ []
      unfolding placements candidates
      wanted_placements is = ap (placements_from s a) is ∙ ap (map (Placement a None)) candidates_are

      none_calls : (fresh : List Pair) → best s a (calls_away s fresh a (f.at a)) ≡ []
      unfolding calls_away
      none_calls fresh = empty_of (best s a (calls_away s fresh a (f.at a)))
          (λ n there.
          let is : IsBest s a (calls_away s fresh a (f.at a)) n = every_in (IsBest s a (calls_away s fresh a (f.at a))) _ n
          (each_best s a (calls_away s fresh a (f.at a))) there in
          let calls : (comes_before (group_of s.cluster a n) (group_of s.cluster a (f.at a)) ≡ true) ×
          ((is_fresh fresh n a && is_operational s a n) ≡ true) =
          and_parts _ _ is.passes in
          let can : (is_fresh fresh n a ≡ true) × (is_operational s a n ≡ true) = and_parts _ _ calls.1 in
          false≢true (sym (is_best.first n can.1) ∙ calls.0))

    -- ---- none starts or is placed else

    no_locals : (m : Node) → local_moves s m ≡ []
    unfolding local_moves
    no_locals m = elim (cases_lt m.0 (node_count c)) [
      | inl inside ↦ none_given (local_move s m) (waiting_at s m)
          (λ x there. no_move_of s m x (no_start s m x (ap (λ (d : ClusterView). is_local d x) h.cluster ∙ apart x inside there)))
      | inr past ↦ local_beyond s m h.sound.shaped
          (let same : node_count s.cluster ≡ node_count c = ap (λ (d : ClusterView). node_count d) h.cluster in omega (arith, same, past))
    ]
      where
        apart : (x : App) → m.0 < node_count c → waits_at s m x ≡ true → is_local c x ≡ false
        apart x inside there = is_false (is_local c x) (λ t.
            false≢true (sym (by (boots c m x) (is_local c x) (nat_lt x.0 k && nat_eq (f.at x).0 m.0) t) ∙ sym (h.waits m x inside) ∙ there))
          where
            by : (b l r : Bool) → l ≡ true → (b && not (l || r)) ≡ false
            by true true r is = refl
            by true false r is = absurd (false≢true is)
            by false l r is = refl

    none_now : None ≡ picked pick (first_given (local_moves s) (nodes_of s.cluster))
    none_now = none_of_none pick ∙ ap (picked pick) (sym (given_nowhere s.cluster (local_moves s) no_locals))

    not_wanted : (a : App) (called placed : Bool) → standing_of s a ≡ stands_by called placed (f.at a) → (called ≡ true → placed ≡ true)
        → placements s a ≡ []
    unfolding placements
    not_wanted a true true is so = ap (placements_from s a) is
    not_wanted a true false is so = absurd (false≢true (so refl))
    not_wanted a false placed is so = ap (placements_from s a) is

    -- ---- nothing moves where all are placed

    none_taken : (fresh : List Pair) (a : App) (called placed : Bool) → is_called_there a ≡ called
        → standing_of s a ≡ stands_by called placed (f.at a) → takeovers s fresh a ≡ []
    unfolding takeovers
    none_taken fresh a true true calls is = ap (takeovers_from s fresh a) is ∙ ap (map (Takeover a (f.at a))) (none_calls a calls fresh)
    none_taken fresh a true false calls is = ap (takeovers_from s fresh a) is
    none_taken fresh a false placed calls is = ap (takeovers_from s fresh a) is

    pub at_rest : app_count c ≤ k → None ≡ picked pick (nexts o)
    unfolding next_moves
    at_rest all = either_none pick (first_given (local_moves s) (nodes_of s.cluster)) _ None none_now
        (either_none pick (first_given (placements s) (apps_of s.cluster)) _ None
        (none_behind pick s.cluster (placements s)
        (λ a of. not_wanted a (is_called_there a) (nat_lt a.0 k) (h.standings a) (λ t. lt_yes a.0 k (less a of))))
        (none_behind pick s.cluster (takeovers s (fresh_of o))
        (λ a of. none_taken (fresh_of o) a (is_called_there a) (nat_lt a.0 k) refl (h.standings a))))
      where
        less : (a : App) → a.0 < app_count s.cluster → a.0 < k
        less a of = let same : app_count s.cluster ≡ app_count c = ap (λ (d : ClusterView). app_count d) h.cluster in
            omega (arith, same, of, all)

    -- ---- or the next one is placed

    module _ (inside : k < app_count c) where
      abbrev a : App
      a = app_numbered k

      abbrev n : Node
      n = f.at a

      module _ (called : is_called_there a ≡ true) where
        abbrev p : Course
        p = moved o (Placement a None n)

        in_apps : k < app_count s.cluster
        in_apps = subst (λ (d : ClusterView). k < app_count d) (sym h.cluster) inside

        wanted : standing_of s a ≡ Wanted None
        wanted = h.standings a ∙ (λ i. stands_by (called i) (lt_not k k refl i) n)

        next_is : Some (Placement a None n) ≡ picked pick (nexts o)
        unfolding next_moves
        next_is = either_none pick (first_given (local_moves s) (nodes_of s.cluster)) _ (Some (Placement a None n)) none_now
            (either_some pick (first_given (placements s) (apps_of s.cluster)) _ (Placement a None n)
            (found_behind pick s.cluster (placements s) a (Placement a None n) in_apps
            (λ b of less. not_wanted b (is_called_there b) (nat_lt b.0 k) (h.standings b) (λ t. lt_yes b.0 k less))
            (sym (ap (picked pick) (wanted_placements a called wanted) ∙ only_one pick (Placement a None n)))))

        progress : Progresses s (Placement a None n)
        progress = (at_inside a called, in_apps, wanted, started_so n a (inside_of n (at_inside a called)) ∙ boots_there a called)

        places : Comes pick o p (notice.Started a n kind.Normal None ∷ [])
        places = record {
          settles = unrolled pick o (Placement a None n) h.sound.shaped (sym next_is);
          tells = refl;
          marks = refl;
        }

        in_running : n.0 < length s.running
        in_running = let long : length s.running ≡ node_count s.cluster = h.sound.shaped.running in
            let lt : n.0 < node_count s.cluster = at_inside a called in omega (arith, long, lt)

        in_waiting : n.0 < length s.waiting
        in_waiting = let long : length s.waiting ≡ node_count s.cluster = h.sound.shaped.waiting in
            let lt : n.0 < node_count s.cluster = at_inside a called in omega (arith, long, lt)

        in_standings : k < length s.standings
        in_standings = let long : length s.standings ≡ app_count s.cluster = h.sound.shaped.standings in
            let lt : k < app_count s.cluster = in_apps in omega (arith, long, lt)

        -- where it is this one
        module _ (m : Node) (b : App) (is : same_app b a ≡ true) where
          b_is : b ≡ a
          b_is = ap app_numbered (same_number b.0 k is)

          local_not : is_local c b ≡ false
          local_not = ap (is_local c) b_is ∙ far a called

          before_not : nat_lt b.0 k ≡ false
          before_not = lt_not b.0 k (same_number b.0 k is)

          now_yes : nat_lt b.0 (k + 1) ≡ true
          now_yes = lt_next b.0 k (same_number b.0 k is)

          same_place : nat_eq (f.at b).0 m.0 ≡ nat_eq m.0 n.0
          same_place = ap (λ (x : App). nat_eq (f.at x).0 m.0) b_is ∙ eq_sym n.0 m.0

          there_boots : nat_eq m.0 n.0 ≡ true → boots c m b ≡ true
          there_boots at = ap (λ (x : App). boots c m x) b_is ∙ ap (λ (i : ℕ). boots c (numbered i) a) (same_number m.0 n.0 at)
              ∙ boots_there a called

          before_so : starts_by k m b ≡ false
          before_so = λ i. local_not i || (before_not i && nat_eq (f.at b).0 m.0)

          now_so : starts_by (k + 1) m b ≡ nat_eq m.0 n.0
          now_so = λ i. local_not i || (now_yes i && same_place i)

          runs_here : ((boots c m b && starts_by k m b) || (nat_eq m.0 n.0 && same_app b a)) ≡ (boots c m b && starts_by (k + 1) m b)
          runs_here = (λ i. (boots c m b && before_so i) || (nat_eq m.0 n.0 && is i)) ∙ by (boots c m b) (nat_eq m.0 n.0) there_boots
              ∙ (λ i. boots c m b && sym now_so i)
            where
              by : (x e : Bool) → (e ≡ true → x ≡ true) → ((x && false) || (e && true)) ≡ (x && e)
              by true true so = refl
              by true false so = refl
              by false true so = absurd (false≢true (so refl))
              by false false so = refl

          waits_here : ((boots c m b && not (starts_by k m b)) && not (nat_eq m.0 n.0 && same_app b a)) ≡
              (boots c m b && not (starts_by (k + 1) m b))
          waits_here = (λ i. (boots c m b && not (before_so i)) && not (nat_eq m.0 n.0 && is i)) ∙ by (boots c m b) (nat_eq m.0 n.0)
              ∙ (λ i. boots c m b && not (sym now_so i))
            where
              by : (x e : Bool) → ((x && true) && not (e && true)) ≡ (x && not e)
              by true true = refl
              by true false = refl
              by false e = refl

        placed : ArePlaced (k + 1) p
        placed = record {
          cluster = h.cluster;
          sound = sound_moved s (Placement a None n) progress h.sound;
          up = h.up;
          allowed = h.allowed;
          runs = λ m b lt. come s.running n.0 a in_running m.0 b ∙ ap (λ (x : Bool). x || (nat_eq m.0 n.0 && same_app b a)) (h.runs m b lt)
              ∙ cases (same_app b a) (runs_here m b)
              (λ other. sym (none_right (boots c m b && starts_by k m b) (nat_eq m.0 n.0) (same_app b a) other)
              ∙ others m b other (λ (x : Bool). boots c m b && x));
          waits = λ m b lt. gone s.waiting n.0 a in_waiting m.0 b
              ∙ ap (λ (x : Bool). x && not (nat_eq m.0 n.0 && same_app b a)) (h.waits m b lt)
              ∙ cases (same_app b a) (waits_here m b)
              (λ other. sym (stays_right (boots c m b && not (starts_by k m b)) (nat_eq m.0 n.0) (same_app b a) other)
              ∙ others m b other (λ (x : Bool). boots c m b && not x));
          standings = λ b. cases (same_app b a)
              (λ is. stands_here s a b (Running n) in_standings is
              ∙ ap (λ (x : App). stands_by true true (f.at x)) (sym (b_is n b is))
              ∙ (λ i. stands_by (sym (ap is_called_there (b_is n b is) ∙ called) i) (sym (now_yes n b is) i) (f.at b)))
              (λ other. stands_there s a b (Running n) other ∙ h.standings b
              ∙ ap (λ (x : Bool). stands_by (is_called_there b) x (f.at b)) (lt_same b.0 k (other_number b.0 k other)));
        }
          where
            others : (m : Node) (b : App) → same_app b a ≡ false → (F : Bool → Bool) → F (starts_by k m b) ≡ F (starts_by (k + 1) m b)
            others m b other F = ap (λ (x : Bool). F (is_local c b || (x && nat_eq (f.at b).0 m.0)))
                (lt_same b.0 k (other_number b.0 k other))

      -- ---- or it isn't booted, or is local

      module _ (none : is_called_there a ≡ false) where
        same_starts : (m : Node) (b : App) → m.0 < node_count c → (F : Bool → Bool)
            → (boots c m b && F (starts_by k m b)) ≡ (boots c m b && F (starts_by (k + 1) m b))
        same_starts m b lt F = cases (same_app b a)
            (λ is. subst (λ (x : App). (boots c m x && F (starts_by k m x)) ≡ (boots c m x && F (starts_by (k + 1) m x)))
            (sym (ap app_numbered (same_number b.0 k is)))
            (by_local (is_local c a) refl))
            (λ other. ap (λ (x : Bool). boots c m b && F (is_local c b || (x && nat_eq (f.at b).0 m.0)))
            (lt_same b.0 k (other_number b.0 k other)))
          where
            by_local : (l : Bool) → is_local c a ≡ l → (boots c m a && F (starts_by k m a)) ≡ (boots c m a && F (starts_by (k + 1) m a))
            by_local true is = (λ i. boots c m a && F (is i || (nat_lt k k && nat_eq n.0 m.0)))
                ∙ (λ i. boots c m a && F (sym is i || (nat_lt k (k + 1) && nat_eq n.0 m.0)))
            by_local false is =
                let not_there : boots c m a ≡ false = none_boots c a m lt
                (sym (by (list_any (λ (j : Node). boots c j a) (nodes_of c)) (is_local c a) is) ∙ none) in
                (λ i. not_there i && F (starts_by k m a)) ∙ (λ i. sym not_there i && F (starts_by (k + 1) m a))
              where
                by : (x l : Bool) → l ≡ false → (x && not l) ≡ x
                by true true so = absurd (true≢false so)
                by true false so = refl
                by false l so = refl

        passed : ArePlaced (k + 1) o
        passed = record {
          cluster = h.cluster;
          sound = h.sound;
          up = h.up;
          allowed = h.allowed;
          runs = λ m b lt. h.runs m b lt ∙ same_starts m b lt (λ (x : Bool). x);
          waits = λ m b lt. h.waits m b lt ∙ same_starts m b lt not;
          standings = λ b. h.standings b ∙ cases (same_app b a)
              (λ is. let not_called : is_called_there b ≡ false = ap (λ (i : ℕ). is_called_there (app_numbered i)) (same_number b.0 k is)
              ∙ none in
              (λ i. stands_by (not_called i) (nat_lt b.0 k) (f.at b)) ∙ (λ i. stands_by (sym not_called i) (nat_lt b.0 (k + 1)) (f.at b)))
              (λ other. ap (λ (x : Bool). stands_by (is_called_there b) x (f.at b)) (lt_same b.0 k (other_number b.0 k other)));
        }

  -- ---- so with all applications

  -- what is told of some of them
  abbrev pub places_told : List App → List Notice
  places_told apps = map (λ (a : App). notice.Started a (f.at a) kind.Normal None) (filter is_called_there apps)

  pub record EndPlaced (k j : ℕ) (o : Course) : Type 0 where
    pub behind : Course
    pub comes : Comes pick o behind (places_told (map app_numbered (range_with_len k j)))
    pub then : ArePlaced (app_count c) behind

  pub all_placed : (j k : ℕ) (o : Course) → k + j ≡ app_count c → ArePlaced k o → EndPlaced k j o
  all_placed zero k o is h = record {
    behind = o;
    comes = comes_itself pick o;
    then = subst (λ (i : ℕ). ArePlaced i o) (plus k ∙ is) h;
  }
    where
      plus : (k : ℕ) → k ≡ k + 0
      plus k = omega arith
  all_placed (suc j) k o is h = cases (is_called_there (app_numbered k))
      (λ t.
      let p : Course = moved o (Placement (app_numbered k) None (f.at (app_numbered k))) in
      let rest : EndPlaced (k + 1) j p = all_placed j (k + 1) p (omega (arith, is)) (placed k o h inside t) in record {
        behind = rest.behind;
        comes = subst (λ (apps : List App). Comes pick o rest.behind (map told apps))
            (sym (filter_yes is_called_there (app_numbered k) (map app_numbered (range_with_len (k + 1) j)) t))
            (comes_on pick o p rest.behind (told (app_numbered k) ∷ []) (places_told (map app_numbered (range_with_len (k + 1) j)))
            (places k o h inside t) rest.comes);
        then = rest.then;
      })
      (λ n.
      let rest : EndPlaced (k + 1) j o = all_placed j (k + 1) o (omega (arith, is)) (passed k o h inside n) in record {
        behind = rest.behind;
        comes = subst (λ (apps : List App). Comes pick o rest.behind (map told apps))
            (sym (filter_no is_called_there (app_numbered k) (map app_numbered (range_with_len (k + 1) j)) n)) rest.comes;
        then = rest.then;
      })
    where
      inside : k < app_count c
      inside = omega (arith, is)

      told : App → Notice
      told a = notice.Started a (f.at a) kind.Normal None
