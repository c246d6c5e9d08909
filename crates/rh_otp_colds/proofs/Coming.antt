-- What all come to that gather, and whose boot scripts begin together then.
use Rattle.std.proofs.Common.{◌≡◌, ◌≢◌, ◌≤◌, ◌⊎◌, ◌++◌, ◌==◌, nat_lt, ℕ, zero, suc, Bool, true, false, cond, List, [], ◌∷◌, map, filter, Option, Some, None, unwrap_or, slice_get, refl, sym, ap, subst, ◌∙◌, inl, inr, append_assoc, arith}
use Rattle.std.specs.Option.{option_and_then}
use Rattle.std.specs.Prelude.{All}
use Rattle.std.proofs.lemmas.Bool.{cases_eq, eq-eqb, ne_eqb, false≢true}
use Rattle.std.proofs.lemmas.List.{append-nil}
use Rattle.std.proofs.lemmas.List.Elements.{filter-append}
use Rattle.rh_history.specs.Draft.{DraftView}
use Rattle.rh_model.specs.ClusterView.{ClusterView, node_count, boot_of}
use Rattle.rh_model.specs.declared.node.App.{App}
use Rattle.rh_model.specs.declared.node.Node.{Node}
use Rattle.rh_model.specs.declared.settings.Restart.{Restart}
use Rattle.rh_otp_model.specs.declared.output.Event.{Event}
use Rattle.rh_otp_model.specs.declared.output.Event.TheVariants as event
use Rattle.rh_otp_model.specs.declared.process.StartType.TheVariants.{Normal}
use Rattle.rh_otp_model.specs.declared.wait.OwnFile.{OwnFile}
use Rattle.rh_otp_model.specs.Rows.{keyfind, has_row}
use Rattle.rh_otp_dist.specs.State.{DistView}
use Rattle.rh_otp_node.specs.Live.{LiveView, never_begun, is_alive}
use Rattle.rh_otp_system.specs.declared.cell.Cell.{Cell}
use Rattle.rh_otp_system.specs.Doing.{booted}
use Rattle.rh_otp_system.specs.Moves.{Reaches, here, IsSettled}
use Rattle.rh_otp_system.specs.State.{SystemView, live_in, node_at, is_alive_at}
use Rattle.rh_otp_laws.proofs.Hanging.{settled_stays_so}
use Rattle.rh_otp_orders.specs.Confluence.{Moves, EveryOrderEndsAlike}
use Rattle.rh_otp_orders.specs.Orders.{AreAlike, is_owner, of_owner, node_told, node_of_timer}
use Rattle.rh_otp_orders.proofs.Confluence.{counted}
use Rattle.rh_otp_crashes.specs.Crashes.{IsUnoccupied}
use Rattle.rh_otp_crashes.proofs.Crossing.{same_node}
use Rattle.rh_otp_joins.specs.Joins.{uncounted}
use Rattle.rh_otp_joins.specs.Leading.{LeadsTo}
use Rattle.rh_otp_joins.proofs.Lists.{more_if, count_of}
use Rattle.rh_otp_gathers.specs.Gathers.{times, HaveGathered}
use Rattle.rh_otp_gathers.proofs.Opening.{counts_so}
use Rattle.rh_otp_together.specs.Booted.{runs_here, place_there, told_there, HasBooted, HaveBooted, BootScriptsComeToOneState}
use Rattle.rh_otp_together.specs.Together.{IsToBoot, BootScriptsEndAlikeTogether}
use Rattle.rh_otp_colds.specs.Colds.{is_there}
use Rattle.rh_otp_colds.specs.Starts.{told_of, HasComeUp, HaveComeUp, LastBootsComeUp, LastBootsComeToRest}
use Rattle.rh_otp_colds.proofs.Last.{all_begun, same_at}
use Rattle.rh_otp_colds.proofs.Starting.{there_so}
use Rattle.rh_otp_colds.proofs.Whole.{AllBegun, then_more, bare, bare_reaches, together, left_so, left_to, listed_alive, ends_as_scripts}
use Rattle.rh_otp_colds.proofs.Whole.{t as gathered, h as all_gathered}

-- ---- who was told to have come up

abbrev ups : Node → ℕ → List Event
ups m zero = []
ups m (suc k) = event.Up m ∷ ups m k

ups_so : (m : Node) (l : List Node) → of_owner node_told (Some m) (map event.Up l) ≡ ups m (count_of m l)
ups_so m [] = refl
ups_so m (x ∷ l) = by (cases_eq x.0 m.0) (ups_so m l)
  where
    more : List Event
    more = of_owner node_told (Some m) (map event.Up l)

    by : (x.0 ≡ m.0) ⊎ (x.0 ≢ m.0) → more ≡ ups m (count_of m l)
        → cond (m.0 == x.0) (event.Up x ∷ more) more ≡ ups m (more_if (x.0 == m.0) (count_of m l))
    by (inl is) same =
        ap (λ (c : Bool). cond c (event.Up x ∷ more) more) (eq-eqb m.0 x.0 (sym is))
        ∙ (λ i. event.Up (same_node x m is i) ∷ same i)
        ∙ ap (λ (c : Bool). ups m (more_if c (count_of m l))) (sym (eq-eqb x.0 m.0 is))
    by (inr other) same =
        ap (λ (c : Bool). cond c (event.Up x ∷ more) more) (ne_eqb m.0 x.0 (λ is. other (sym is)))
        ∙ same
        ∙ ap (λ (c : Bool). ups m (more_if c (count_of m l))) (sym (ne_eqb x.0 m.0 other))

nobody_up : (l : List Node) → of_owner node_told None (map event.Up l) ≡ []
nobody_up [] = refl
nobody_up (x ∷ l) = nobody_up l

-- ---- the one state

abbrev Come : List App → (App → Node) → SystemView → Type 0
Come apps at s = (k : ℕ) × (u : SystemView) × LeadsTo k s u × Reaches s u × IsSettled u × HaveBooted apps at s u

module _ (a : SystemView) (f : AllBegun a) (one : Come f.can.apps f.can.at (bare a f)) where
  abbrev c : SystemView
  c = bare a f

  abbrev u : SystemView
  u = one.1

  abbrev h : HaveGathered a (gathered a f)
  h = all_gathered a f

  b : HaveBooted f.can.apps f.can.at c u
  b = one.5

  cluster_so : c.cluster ≡ a.cluster
  cluster_so = ap (λ (x : SystemView). x.cluster) h.rest

  files_so : c.files ≡ a.files
  files_so = ap (λ (x : SystemView). x.files) h.rest

  listed : (m : Node) → 1 ≤ times m a.alive → 1 ≤ times m c.alive
  listed m some = subst (λ (l : List Node). 1 ≤ times m l) (sym h.alive) some

  u_so : u ≡ record a { nodes = u.nodes; messages = []; slow = []; locks = []; events = u.events }
  u_so = b.rest ∙ ap (λ (x : SystemView). record x { nodes = u.nodes; messages = []; slow = []; locks = []; events = u.events }) h.rest

  -- what was told of a node when all had come up
  told_c : (o : Option Node) → of_owner node_told o c.events ≡ of_owner node_told o a.events ++ of_owner node_told o (map event.Up h.joined)
  told_c o =
      ap (of_owner node_told o) h.events
      ∙ filter-append (λ (x : Event). is_owner o (node_told x)) a.events (map event.Up h.joined)

  -- ---- each node

  module _ (m : Node) (some : 1 ≤ times m a.alive) where
    here_b : HasBooted f.can.apps f.can.at m c u
    here_b = b.each m (listed m some)

    to_boot : IsToBoot (together a f).apps (together a f).at m c
    to_boot = (together a f).each m (listed m some)

    phase_u : (node_at u m).phase ≡ (node_at c m).phase
    phase_u = ap (λ (v : LiveView). v.phase) here_b.rest

    life_u : (node_at u m).life ≡ (node_at a m).life
    life_u = ap (λ (v : LiveView). v.life) here_b.rest ∙ (h.each m some).life

    alive_c : is_alive_at u m ≡ is_alive_at c m
    alive_c = ap is_alive here_b.rest

    runs_u : All (λ (row : App × Restart). keyfind row.0 (node_at u m).controller.running ≡ Some (place_there a f.can.at m row.0))
        (boot_of a.cluster m)
    runs_u =
        subst (λ (d : ClusterView). All (λ (row : App × Restart). keyfind row.0 (node_at u m).controller.running
        ≡ Some (place_there a f.can.at m row.0)) (boot_of d m)) cluster_so
        (subst (λ (files : List OwnFile). All (λ (row : App × Restart). keyfind row.0 (node_at u m).controller.running
        ≡ Some (place_there (record c { files = files }) f.can.at m row.0)) (boot_of c.cluster m)) files_so here_b.runs)

    started_u : All (λ (row : App × Restart). has_row row.0 (node_at u m).controller.started ≡ true) (boot_of a.cluster m)
    started_u =
        subst (λ (d : ClusterView). All (λ (row : App × Restart). has_row row.0 (node_at u m).controller.started ≡ true) (boot_of d m))
        cluster_so here_b.started

    free_u : (e : DistView) → (node_at u m).dist ≡ Some e → IsUnoccupied e
    free_u e has =
        here_b.unoccupied to_boot.dist e to_boot.has has
        (ap (λ (d : DistView). d.p_reqs) ((h.each m some).dist to_boot.dist to_boot.has).rest)

    once : count_of m h.joined ≡ 1
    once =
        let same : count_of m h.joined ≡ times m h.joined = counts_so m h.joined in
        let all : times m h.joined ≡ times m a.alive = h.all m in
        let few : times m a.alive ≤ 1 = f.gather.once m in
        omega (arith, same, all, few, some)

    in_cluster : nat_lt m.0 (node_count a.cluster) ≡ true
    in_cluster = sym (f.can.nodes m) ∙ there_so a m (f.gather.each m some).there

    told_here : told_there c f.can.at m ≡ told_there a f.can.at m
    told_here = λ i. told_there (record a { cluster = cluster_so i; files = files_so i }) f.can.at m

    told_in : event.Up m ∷ told_there a f.can.at m ≡ told_of a f.can.at m
    told_in =
        ap (λ (d : Bool). event.Up m ∷ (map (λ (row : App × Restart). event.Started row.0 m Normal)
        (filter (λ (row : App × Restart). runs_here a f.can.at m row.0) (boot_of a.cluster m)) ++ cond d (event.Booted m ∷ []) []))
        in_cluster

    told_u : of_owner node_told (Some m) u.events ≡ of_owner node_told (Some m) a.events ++ told_of a f.can.at m
    told_u =
        here_b.told
        ∙ (λ i. told_c (Some m) i ++ told_here i)
        ∙ ap (λ (l : List Event). l ++ told_there a f.can.at m)
        (ap (λ (l : List Event). of_owner node_told (Some m) a.events ++ l) (ups_so m h.joined ∙ ap (ups m) once))
        ∙ append_assoc (of_owner node_told (Some m) a.events) (event.Up m ∷ []) (told_there a f.can.at m)
        ∙ ap (λ (l : List Event). of_owner node_told (Some m) a.events ++ l) told_in

  strangers_u : (m : Node) → times m a.alive ≡ 0 → of_owner node_told (Some m) u.events ≡ of_owner node_told (Some m) a.events
  strangers_u m out =
      b.strangers m (ap (times m) h.alive ∙ out)
      ∙ told_c (Some m)
      ∙ ap (λ (l : List Event). of_owner node_told (Some m) a.events ++ l)
      (ups_so m h.joined ∙ ap (ups m) (counts_so m h.joined ∙ h.all m ∙ out))
      ∙ append-nil (of_owner node_told (Some m) a.events)

  not_there : (m : Node) → is_there a m ≡ false → times m a.alive ≡ 0
  not_there m out = by (times m a.alive) refl
    where
      by : (j : ℕ) → times m a.alive ≡ j → times m a.alive ≡ 0
      by zero none = none
      by (suc j) is = absurd (false≢true (sym out ∙ there_so a m (f.gather.each m (omega (arith, is))).there))

  nobody_u : of_owner node_told None u.events ≡ of_owner node_told None a.events
  nobody_u =
      b.nobody
      ∙ told_c None
      ∙ ap (λ (l : List Event). of_owner node_told None a.events ++ l) (nobody_up h.joined)
      ∙ append-nil (of_owner node_told None a.events)

  alive_listed : (m : Node) → is_alive_at u m ≡ true → 1 ≤ times m a.alive
  alive_listed m alive = by (times m a.alive) refl
    where
      by : (j : ℕ) → times m a.alive ≡ j → 1 ≤ times m a.alive
      by (suc j) is = omega (arith, is)
      by zero none = listed_alive a f m (sym (ap is_alive (b.others m (ap (times m) h.alive ∙ none))) ∙ alive)

  -- ---- and whatever else is reached

  module _ (t : SystemView) (alike : AreAlike u t) (settled : IsSettled t) where
    node_t : (m : Node) → node_at t m ≡ node_at u m
    node_t m = ap (λ (d : DraftView Cell). unwrap_or (option_and_then live_in (slice_get d.cells m.0)) never_begun) (sym alike.nodes)

    comes_up : (m : Node) → 1 ≤ times m a.alive → HasComeUp f.can.at m a t
    comes_up m some = record {
      phase = ap (λ (v : LiveView). v.phase) (node_t m) ∙ phase_u m some ∙ (to_boot m some).up;
      life = ap (λ (v : LiveView). v.life) (node_t m) ∙ life_u m some;
      runs = subst (λ (v : LiveView). All (λ (row : App × Restart). keyfind row.0 v.controller.running
          ≡ Some (place_there a f.can.at m row.0)) (boot_of a.cluster m)) (sym (node_t m)) (runs_u m some);
      started = subst (λ (v : LiveView). All (λ (row : App × Restart). has_row row.0 v.controller.started ≡ true) (boot_of a.cluster m))
          (sym (node_t m)) (started_u m some);
      told = sym (alike.events (Some m)) ∙ told_u m some;
    }

    pub have_come_up : HaveComeUp f.can.at a t
    have_come_up = record {
      each = λ m there. comes_up m (f.all m there);
      strangers = λ m out. sym (alike.events (Some m)) ∙ strangers_u m (not_there m out);
      nobody = sym (alike.events None) ∙ nobody_u;
      rest = record {
        settled = settled;
        calls = sym alike.calls ∙ ap (λ (x : SystemView). x.calls) u_so ∙ f.calls;
        dists = λ m d alive has.
            free_u m (alive_listed m (ap is_alive (sym (node_t m)) ∙ alive)) d (ap (λ (v : LiveView). v.dist) (sym (node_t m)) ∙ has);
      };
      same = λ i. record t {
        cluster = (sym alike.cluster ∙ ap (λ (x : SystemView). x.cluster) u_so) i;
        files = (sym alike.files ∙ ap (λ (x : SystemView). x.files) u_so) i;
        clock = (sym alike.clock ∙ ap (λ (x : SystemView). x.clock) u_so) i;
        step = (sym alike.step ∙ ap (λ (x : SystemView). x.step) u_so) i;
        last_call = (sym alike.last_call ∙ ap (λ (x : SystemView). x.last_call) u_so) i;
        alive = (sym alike.alive ∙ ap (λ (x : SystemView). x.alive) u_so) i;
        links = (sym alike.links ∙ ap (λ (x : SystemView). x.links) u_so) i;
        locks = (sym alike.locks ∙ b.locks) i;
        calls = (sym alike.calls ∙ ap (λ (x : SystemView). x.calls) u_so) i;
        asleep = (sym alike.asleep ∙ ap (λ (x : SystemView). x.asleep) u_so) i;
        told = (sym alike.told ∙ ap (λ (x : SystemView). x.told) u_so) i;
        messages = (settled_stays_so t t settled (here t)).0.0 i;
        slow = (settled_stays_so t t settled (here t)).0.1 i;
        is_ticking = (sym alike.is_ticking ∙ ap (λ (x : SystemView). x.is_ticking) u_so) i;
        ends_soon = (sym alike.ends_soon ∙ ap (λ (x : SystemView). x.ends_soon) u_so) i;
      };
      timers = λ o. sym (alike.timers o) ∙ ap (λ (x : SystemView). of_owner node_of_timer o x.timers) u_so;
    }

-- ---- the laws

module _ (alike : BootScriptsEndAlikeTogether) (to_one : BootScriptsComeToOneState) (a : SystemView) (f : AllBegun a) where
  scripts_end : Come f.can.apps f.can.at (bare a f)
  scripts_end =
      subst (λ (at : App → Node). Come f.can.apps at (bare a f)) (left_to a f)
      (subst (λ (apps : List App). Come apps (together a f).at (bare a f)) (left_so a f) (to_one (bare a f) (together a f)))

  reached_one : Reaches a scripts_end.1
  reached_one = then_more a (bare a f) scripts_end.1 (bare_reaches a f) scripts_end.3

  ends : EveryOrderEndsAlike a
  ends = ends_as_scripts a f (alike (bare a f) (together a f)).0

  comes_so : (t : SystemView) → Reaches a t → IsSettled t → HaveComeUp f.can.at a t
  comes_so t reaches settled =
      have_come_up a f scripts_end t (ends.alike scripts_end.1 t reached_one scripts_end.4 reaches settled) settled

  rests_so : (k : ℕ) × (t : SystemView) × Moves k a t × IsSettled t × ((j : ℕ) (u : SystemView) → Moves j a u → j ≤ k)
  rests_so =
      let run : (k : ℕ) × Moves k a scripts_end.1 = counted a scripts_end.1 reached_one in
      (run.0, scripts_end.1, run.1, scripts_end.4, λ j u other. ends.no_longer run.0 j scripts_end.1 u run.1 scripts_end.4 other)

pub come_up : BootScriptsEndAlikeTogether → BootScriptsComeToOneState → LastBootsComeUp
come_up alike to_one s n reached f can left t reaches settled =
    subst (λ (at : App → Node). HaveComeUp at (uncounted (booted n s)) t) (same_at s n reached f can left)
    (comes_so alike to_one (uncounted (booted n s)) (all_begun s n reached f can left) t reaches settled)

pub come_to_rest : BootScriptsEndAlikeTogether → BootScriptsComeToOneState → LastBootsComeToRest
come_to_rest alike to_one s n reached f can left =
    rests_so alike to_one (uncounted (booted n s)) (all_begun s n reached f can left)
