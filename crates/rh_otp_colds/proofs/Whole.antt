-- Where all have gathered, nothing but their boot scripts is left, and connections that are there: so the scripts begin together.
use Rattle.std.proofs.Common.{◌≡◌, ◌≢◌, ◌≤◌, ◌<◌, ◌⊎◌, ◌++◌, ◌-◌, ◌^◌, ◌&&◌, nat_lt, ℕ, zero, suc, Bool, true, false, List, [], ◌∷◌, map, filter, length, is_some, Option, Some, None, refl, sym, ap, subst, ◌∙◌, inl, inr, arith}
use Rattle.std.specs.Prelude.{All, if◌then◌else◌}
use Rattle.std.proofs.lemmas.Bool.{cases_Bool, and_parts, and_from, false≢true}
use Rattle.std.proofs.lemmas.List.Elements.{All-nil, All-cons, All-head, All-tail, All-weaker}
use Rattle.rh_model.specs.ClusterView.{ClusterView, is_in, node_count, app_count, boot_of, deps_of, is_permitted, is_platform}
use Rattle.rh_model.specs.declared.node.App.{App}
use Rattle.rh_model.specs.declared.node.Node.{Node}
use Rattle.rh_model.specs.declared.settings.Dep.{Dep}
use Rattle.rh_model.specs.declared.settings.Dep.TheVariants.{Listed, Platform}
use Rattle.rh_model.specs.declared.settings.Restart.{Restart}
use Rattle.rh_otp_model.specs.Own.{OwnView, controls}
use Rattle.rh_otp_model.specs.declared.wait.OwnFile.{OwnFile}
use Rattle.rh_otp_controller.specs.First.{first}
use Rattle.rh_otp_dist.specs.Choosing.{places_of, backwards}
use Rattle.rh_otp_dist.specs.State.{DistView, standing_of, permitted, is_among}
use Rattle.rh_otp_net.specs.declared.links.Link.{Link}
use Rattle.rh_otp_net.specs.Links.{are_linked, linked_with}
use Rattle.rh_otp_node.specs.Live.{LiveView, never_begun, begun, permission_rows, is_alive}
use Rattle.rh_otp_system.specs.declared.slow.Slow.{Slow}
use Rattle.rh_otp_system.specs.declared.slow.Slow.TheVariants.{Boot}
use Rattle.rh_otp_system.specs.declared.moves.Move.TheVariants as move
use Rattle.rh_otp_system.specs.Moves.{made, Reaches, here, behind_one}
use Rattle.rh_otp_system.specs.State.{SystemView, node_at, own_at, has_dist_at, is_alive_at}
use Rattle.rh_otp_laws.specs.Acting.{IsThere, IsReached}
use Rattle.rh_otp_laws.proofs.Nodes.{alive_is_there}
use Rattle.rh_otp_orders.specs.Confluence.{EveryOrderEndsAlike}
use Rattle.rh_otp_crashes.specs.Failovers.{first_of}
use Rattle.rh_otp_crashes.proofs.Turning.{own_in}
use Rattle.rh_otp_starts.specs.Elsewhere.{candidates_at}
use Rattle.rh_otp_joins.specs.Joins.{connect_of, IsDoneAlready}
use Rattle.rh_otp_joins.specs.Leading.{LeadsTo}
use Rattle.rh_otp_joins.proofs.Ending.{reached_there}
use Rattle.rh_otp_joins.proofs.Idling.{fronted, does_nothing, there_already}
use Rattle.rh_otp_joins.proofs.Leading.{ends_alike}
use Rattle.rh_otp_joins.proofs.Lists.{count_of}
use Rattle.rh_otp_joins.proofs.Seeing.{seen_linked}
use Rattle.rh_otp_joins.proofs.Stages.{up_alive}
use Rattle.rh_otp_gathers.specs.Gathers.{times, AllGather, KnowsAll, IsGathered, HaveGathered}
use Rattle.rh_otp_gathers.proofs.Begun.{in_count_by}
use Rattle.rh_otp_gathers.proofs.Opening.{counts_so, gathers}
use Rattle.rh_otp_together.specs.Together.{IsBefore, InOrder, distributed_of, boots_at, strangers_of, AreLeftToOne, IsBlank, LeavesTo, IsToBoot, BootTogether}
use Rattle.rh_otp_colds.specs.Wholes.{may_start, first_runner, CanStartTogether}
use Rattle.rh_otp_colds.proofs.Choosing.{same_filter, may_so, first_among, unknown_first}
use Rattle.rh_otp_colds.proofs.Starting.{is_there_so}

-- ---- boot lists are as the cluster and the files say

same_before : (s t : SystemView) (m : Node) (before : List App) (dep : Dep) → t.cluster ≡ s.cluster → IsBefore s m before dep
    → IsBefore t m before dep
same_before s t m before (Listed b) cluster is = is
same_before s t m before (Platform p) cluster is = ap (λ (c : ClusterView). is_platform c m p) cluster ∙ is

pub same_order : (s t : SystemView) (m : Node) → t.cluster ≡ s.cluster → t.files ≡ s.files → (before : List App)
    (rows : List (App × Restart)) → InOrder s m before rows → InOrder t m before rows
same_order s t m cluster files before [] ordered = tt
same_order s t m cluster files before (row ∷ rows) ordered = (
  ordered.0,
  subst (λ (c : ClusterView). All (IsBefore t m before) (deps_of c row.0)) (sym cluster)
      (All-weaker (IsBefore s m before) (IsBefore t m before) (λ dep is. same_before s t m before dep cluster is)
      (deps_of s.cluster row.0) ordered.1),
  λ out. ap (λ (c : ClusterView). is_permitted c m row.0) cluster
      ∙ ordered.2 (sym (ap (λ (f : List OwnFile). controls (own_in f m) row.0) files) ∙ out),
  same_order s t m cluster files (row.0 ∷ before) rows ordered.3,
)

-- ---- what is known where all have begun

-- All nodes are alive and gather, each as it began but for its lists; what is slow are connections of different nodes.
pub record AllBegun (a : SystemView) : Type 0 where
  pub reached : IsReached a
  pub gather : AllGather a
  pub begun : (m : Node) → 1 ≤ times m a.alive → node_at a m ≡ record (begun a.cluster (own_at a m) m never_begun) {
    mandatory = (node_at a m).mandatory;
    optional = (node_at a m).optional;
  }
  pub all : (m : Node) → IsThere m a → 1 ≤ times m a.alive
  pub connects : List Link
  pub slow : a.slow ≡ map connect_of connects
  pub apart : All (λ (l : Link). l.0.0 ≢ l.1.0) connects
  pub calls : a.calls ≡ []
  pub can : CanStartTogether a

-- moves one after the other, and then more of them
pub then_more : (s t u : SystemView) → Reaches s t → Reaches t u → Reaches s u
then_more _ _ u (here s) more = more
then_more _ t u (behind_one s v _ first rest) more = behind_one s v u first (then_more v t u rest more)

-- connections that are there already come about
drains : (connects : List Link) (s : SystemView) → s.messages ≡ [] → All (IsDoneAlready s) connects → Reaches (fronted connects s) s
unfolding made
drains [] s quiet done = here s
drains (l ∷ connects) s quiet done =
    behind_one (fronted (l ∷ connects) s) (fronted connects s) s
    (move.Slow 0, (quiet, omega arith), sym (does_nothing l (fronted connects s) (All-head (IsDoneAlready s) l connects done)))
    (drains connects s quiet (All-tail (IsDoneAlready s) l connects done))

module _ (a : SystemView) (f : AllBegun a) where
  pub to_one : (k : ℕ) × (t : SystemView) × LeadsTo k a t × Reaches a t × HaveGathered a t
  to_one = gathers a f.gather

  abbrev pub t : SystemView
  t = to_one.1

  pub h : HaveGathered a t
  h = to_one.4

  -- without the connections
  abbrev pub bare : SystemView
  bare = record t { slow = map Boot h.joined }

  t_so : t ≡ fronted f.connects bare
  t_so = λ i. record t { slow = (h.slow ∙ ap (λ (l : List Slow). l ++ map Boot h.joined) f.slow) i }

  cluster_t : t.cluster ≡ a.cluster
  cluster_t = ap (λ (x : SystemView). x.cluster) h.rest

  files_t : t.files ≡ a.files
  files_t = ap (λ (x : SystemView). x.files) h.rest

  boots_so : (m : Node) (x : App) → boots_at bare m x ≡ boots_at a m x
  boots_so m x = ap (λ (c : ClusterView). boots_at (record a { cluster = c }) m x) cluster_t

  alive_there : (m : Node) → 1 ≤ times m a.alive → IsThere m a
  alive_there m some = (f.gather.each m some).there

  has_dist : (m : Node) → 1 ≤ times m a.alive → has_dist_at a m ≡ true
  has_dist m some = f.can.has_dist m (alive_there m some)

  all_may : (x : Node) → nat_lt x.0 (node_count a.cluster) ≡ true → (is_in x a.alive && has_dist_at a x) ≡ true
  all_may x less =
      let there : IsThere x a = is_there_so a x (f.can.nodes x ∙ less) in
      and_from (is_in x a.alive) (has_dist_at a x)
      ((in_count_by x a.alive).1 (subst (λ (k : ℕ). 1 ≤ k) (sym (counts_so x a.alive)) (f.all x there)))
      (f.can.has_dist x there)

  -- ---- a node

  module _ (m : Node) (some : 1 ≤ times m a.alive) where
    there : IsThere m a
    there = alive_there m some

    g : IsGathered m a t
    g = h.each m some

    alive_t : is_alive_at t m ≡ true
    alive_t = up_alive (node_at t m) g.up

    dist_of : (d : DistView) × ((node_at t m).dist ≡ Some d)
    dist_of = by (node_at t m).dist refl (g.has ∙ has_dist m some)
      where
        by : (o : Option DistView) → (node_at t m).dist ≡ o → is_some o ≡ true → (d : DistView) × ((node_at t m).dist ≡ Some d)
        by None at has = absurd (false≢true has)
        by (Some d) at has = (d, at)

    abbrev d : DistView
    d = dist_of.0

    k : KnowsAll m a d
    k = g.dist d dist_of.1

    known : (x : Node) → x.0 ≢ m.0 → times x d.known ≡ times x a.alive
    known x apart = k.once x apart ∙ by (times x a.alive) refl
      where
        either : (c : Bool) → ◌≡◌ {A = ℕ} (if c then 0 else 0) 0
        either true = refl
        either false = refl

        by : (j : ℕ) → times x a.alive ≡ j → (if has_dist_at a x then times x a.alive else 0) ≡ times x a.alive
        by zero none = ap (λ (j : ℕ). if has_dist_at a x then j else 0) none ∙ either (has_dist_at a x) ∙ sym none
        by (suc j) is = ap (λ (c : Bool). if c then times x a.alive else 0) (has_dist x (omega (arith, is)))

    sees : (x : Node) → x.0 ≢ m.0 → 1 ≤ times x a.alive → are_linked m x t.links ≡ true
    sees x apart listed =
        ap (are_linked m x) h.links
        ∙ seen_linked m x a.links
        (let same : count_of x (linked_with m a.links) ≡ times x (linked_with m a.links) = counts_so x (linked_with m a.links) in
        let as_alive : times x (linked_with m a.links) ≡ times x a.alive = (f.gather.each m some).sees x apart in
        omega (arith, same, as_alive, listed))

    candidates_so : (x : App) → candidates_at (own_at a m) x d ≡ filter (λ (n : Node). may_start a n x) (backwards (own_at a m) x)
    candidates_so x =
        same_filter (λ (n : Node). is_among n (permitted d x)) (λ (n : Node). may_start a n x) (may_so a m d k all_may x)
        (backwards (own_at a m) x)

    leaves : (x : App) (y : Node) → first_runner a m x ≡ Some y → LeavesTo m x d a y
    leaves x y is = by (cases_Bool (is_among m (candidates_at (own_at a m) x d)))
      where
        first_so : first_of (candidates_at (own_at a m) x d) (places_of (own_at a m) x) ≡ Some y
        first_so = ap (λ (nodes : List Node). first_of nodes (places_of (own_at a m) x)) (candidates_so x) ∙ is

        by : (is_among m (candidates_at (own_at a m) x d) ≡ true) ⊎ (is_among m (candidates_at (own_at a m) x d) ≡ false)
            → LeavesTo m x d a y
        by (inl among) = inl (among, first_so)
        by (inr out) = inr (out, first_among (candidates_at (own_at a m) x d) y (places_of (own_at a m) x) first_so)

    own_t : own_at t m ≡ own_at a m
    own_t = ap (λ (files : List OwnFile). own_in files m) files_t

    blank : IsBlank d
    blank = record {
      idle = k.idle;
      mail = k.mail;
      runs = k.runs;
      started = ap (λ (e : DistView). e.started) k.rest;
      locals = ap (λ (e : DistView). e.tmp_locals) k.rest;
      weights = ap (λ (e : DistView). e.tmp_weights) k.rest;
      takeovers = ap (λ (e : DistView). e.t_reqs) k.rest;
      monitored = ap (λ (e : DistView). e.monitored) k.rest;
      parked = ap (λ (e : DistView). e.parked) k.rest;
      unknown = λ x. ap (λ (e : DistView). standing_of e x) k.rest ∙ unknown_first (app_count a.cluster) x.0;
    }

    to_boot : IsToBoot f.can.apps f.can.at m bare
    to_boot = record {
      there = alive_is_there t m alive_t;
      up = ap (λ (v : LiveView). v.phase) g.rest;
      place = ap (λ (v : LiveView). v.place) g.rest ∙ ap (λ (v : LiveView). v.place) (f.begun m some);
      controller = ap (λ (v : LiveView). v.controller) g.rest
          ∙ ap (λ (v : LiveView). v.controller) (f.begun m some)
          ∙ ap (λ (c : ClusterView). first (permission_rows c m)) (sym cluster_t);
      has_dist = ap (λ (own : OwnView). own.has_dist) own_t ∙ has_dist m some;
      dist = d;
      has = dist_of.1;
      blank = blank;
      known = λ x apart. known x apart ∙ sym (ap (times x) h.alive);
      sees = λ x apart listed. sees x apart (subst (λ (l : List Node). 1 ≤ times x l) h.alive listed);
      in_order = subst (λ (c : ClusterView). InOrder bare m [] (boot_of c m)) (sym cluster_t)
          (same_order a bare m cluster_t files_t [] (boot_of a.cluster m) (f.can.in_order m there));
      short = subst (λ (c : ClusterView). length (boot_of c m) < 2 ^ 64 - 1) (sym cluster_t) (f.can.short m there);
      distributed = (λ i. distributed_of (own_t i) (boot_of (cluster_t i) m))
          ∙ f.can.distributed m there
          ∙ sym (λ i. filter (λ (x : App). boots_so m x i) f.can.apps);
      leaves = subst (λ (own : OwnView). All (λ (x : App). boots_at bare m x ≡ true → ((is_among m (candidates_at own x d) ≡ true)
          × (first_of (candidates_at own x d) (places_of own x) ≡ Some (f.can.at x)))
          ⊎ ((is_among m (candidates_at own x d) ≡ false) × (is_among (f.can.at x) (candidates_at own x d) ≡ true))) f.can.apps) (sym own_t)
          (All-weaker (λ (x : App). boots_at a m x ≡ true → first_runner a m x ≡ Some (f.can.at x))
          (λ (x : App). boots_at bare m x ≡ true → LeavesTo m x d a (f.can.at x))
          (λ x is boots. leaves x (f.can.at x) (is (sym (boots_so m x) ∙ boots))) f.can.apps (f.can.first m there));
      strangers = subst (λ (c : ClusterView). AreLeftToOne f.can.at (strangers_of (record a { cluster = c }) m f.can.apps)) (sym cluster_t)
          (f.can.strangers m there);
    }

  -- ---- the scripts begin together

  runner_alive : (x : App) → (boots_at a (f.can.at x) x ≡ true) × (may_start a (f.can.at x) x ≡ true)
      → (1 ≤ times (f.can.at x) bare.alive) × (boots_at bare (f.can.at x) x ≡ true)
  runner_alive x both = (
    subst (λ (l : List Node). 1 ≤ times (f.can.at x) l) (sym h.alive)
        (f.all (f.can.at x)
        (is_there_so a (f.can.at x) (f.can.nodes (f.can.at x) ∙ (and_parts (nat_lt (f.can.at x).0 (node_count a.cluster)) _ both.1).0))),
    boots_so (f.can.at x) x ∙ both.0,
  )

  pub together : BootTogether bare
  together = record {
    once = λ m. subst (λ (l : List Node). times m l ≤ 1) (sym h.alive) (f.gather.once m);
    apps = f.can.apps;
    at = f.can.at;
    each = λ m listed. to_boot m (subst (λ (l : List Node). 1 ≤ times m l) h.alive listed);
    runners = All-weaker (λ (x : App). (boots_at a (f.can.at x) x ≡ true) × (may_start a (f.can.at x) x ≡ true))
        (λ (x : App). (1 ≤ times (f.can.at x) bare.alive) × (boots_at bare (f.can.at x) x ≡ true))
        runner_alive f.can.apps f.can.runners;
    nodes = h.joined;
    slow = refl;
    all = λ m. h.all m ∙ sym (ap (times m) h.alive);
    messages = h.messages;
    calls = h.calls ∙ f.calls;
    locks = h.locks;
  }

  -- they are the applications of the files, left to the nodes to which the files leave them
  pub left_so : together.apps ≡ f.can.apps
  unfolding together
  left_so = refl

  pub left_to : together.at ≡ f.can.at
  unfolding together
  left_to = refl

  -- ---- the connections are there

  pub listed_alive : (m : Node) → is_alive_at t m ≡ true → 1 ≤ times m a.alive
  listed_alive m alive = by (times m a.alive) refl
    where
      by : (j : ℕ) → times m a.alive ≡ j → 1 ≤ times m a.alive
      by (suc j) is = omega (arith, is)
      by zero none = f.all m (alive_is_there a m (sym (ap (λ (v : LiveView). is_alive v) (h.others m none)) ∙ alive))

  done : (connects : List Link) → All (λ (l : Link). l.0.0 ≢ l.1.0) connects → All (IsDoneAlready bare) connects
  done [] apart = All-nil (IsDoneAlready bare)
  done (l ∷ connects) apart =
      All-cons (IsDoneAlready bare) l connects
      (λ both. (let alive : (is_alive_at t l.0 ≡ true) × (is_alive_at t l.1 ≡ true) =
      and_parts (is_alive_at t l.0) (is_alive_at t l.1) both in
      sees l.0 (listed_alive l.0 alive.0) l.1 (λ is. All-head (λ (l : Link). l.0.0 ≢ l.1.0) l connects apart (sym is))
      (listed_alive l.1 alive.1)))
      (done connects (All-tail (λ (l : Link). l.0.0 ≢ l.1.0) l connects apart))

  pub bare_reaches : Reaches a bare
  bare_reaches =
      then_more a (fronted f.connects bare) bare (subst (Reaches a) t_so to_one.3) (drains f.connects bare h.messages (done f.connects f.apart))

  pub bare_reached : IsReached bare
  bare_reached = reached_there a bare bare_reaches f.reached

  pub bare_alive : bare.alive ≡ a.alive
  bare_alive = h.alive

  pub ends_as_scripts : EveryOrderEndsAlike bare → EveryOrderEndsAlike a
  ends_as_scripts ends =
      ends_alike to_one.0 a t f.reached to_one.2
      (subst EveryOrderEndsAlike (sym t_so) (there_already bare f.connects bare_reached (done f.connects f.apart) ends))
