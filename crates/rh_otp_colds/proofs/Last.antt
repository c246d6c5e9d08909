-- The last node begins: all have begun then, and gather.
use Rattle.std.proofs.Common.{◌≡◌, ◌≢◌, ◌≤◌, ◌⊎◌, ◌+◌, ◌==◌, ◌&&◌, nat_lt, true, List, [], ◌∷◌, map, filter, length, ◌<◌, ◌-◌, ◌^◌, is_some, Some, refl, sym, ap, subst, ◌∙◌, inl, inr, arith}
use Rattle.std.specs.Prelude.{All}
use Rattle.std.proofs.lemmas.Bool.{cases_eq, ne_eqb}
use Rattle.std.proofs.lemmas.List.Elements.{All-nil, All-cons, All-head, All-tail, All-weaker}
use Rattle.rh_model.specs.ClusterView.{ClusterView, node_count, boot_of}
use Rattle.rh_model.specs.declared.node.App.{App}
use Rattle.rh_model.specs.declared.node.Node.{Node}
use Rattle.rh_otp_model.specs.declared.wait.OwnFile.{OwnFile}
use Rattle.rh_otp_model.specs.Flags.{flag}
use Rattle.rh_otp_dist.specs.Choosing.{places_of, backwards}
use Rattle.rh_otp_net.specs.declared.links.Link.{Link}
use Rattle.rh_otp_node.specs.Kernel as kernel
use Rattle.rh_otp_node.specs.Live.{LiveView, never_begun, begun, own_flags}
use Rattle.rh_otp_system.specs.declared.slow.Slow.{Slow}
use Rattle.rh_otp_system.specs.declared.slow.Slow.TheVariants as slow
use Rattle.rh_otp_system.specs.Doing.{begun_at, booted}
use Rattle.rh_otp_system.specs.State.{SystemView, node_at, own_at, wait_at}
use Rattle.rh_otp_laws.specs.Acting.{IsThere, IsReached, later, acts, begins, settles}
use Rattle.rh_otp_laws.proofs.Nodes.{others_as_they_were}
use Rattle.rh_otp_crashes.specs.Failovers.{first_of}
use Rattle.rh_otp_crashes.proofs.Crossing.{same_node}
use Rattle.rh_otp_crashes.proofs.Turning.{own_in}
use Rattle.rh_otp_joins.specs.Joins.{connect_of, uncounted}
use Rattle.rh_otp_waits.proofs.Begun.{Connects}
use Rattle.rh_otp_waits.proofs.Boot.{tells_by}
use Rattle.rh_otp_gathers.specs.Gathers.{times, one_if, IsTelling, AllGather}
use Rattle.rh_otp_gathers.specs.LastBoot.{IsLast}
use Rattle.rh_otp_gathers.proofs.Begun.{Begins, v, here_n, there_n, at_m, alive_then, n_alive, waits_on, z, boots_so}
use Rattle.rh_otp_gathers.proofs.LastBoot.{begins_so, gather_behind}
use Rattle.rh_otp_together.specs.Together.{InOrder, distributed_of, boots_at, strangers_of, AreLeftToOne}
use Rattle.rh_otp_colds.specs.Colds.{is_there, IsColdStart}
use Rattle.rh_otp_colds.specs.Wholes.{may_start, first_runner, CanStartTogether, IsLeft, LastBootsEndAsScriptsDo}
use Rattle.rh_otp_colds.proofs.Starting.{there_so, is_there_so, listed_alive, unlisted_dead, is_last}
use Rattle.rh_otp_colds.proofs.Whole.{same_order, AllBegun, bare, bare_reaches, bare_alive, together, ends_as_scripts}

-- ---- what the files say is so as long as they are the same

pub can_still : (s t : SystemView) → t.cluster ≡ s.cluster → t.files ≡ s.files → ((m : Node) → is_there t m ≡ is_there s m)
    → CanStartTogether s → CanStartTogether t
can_still s t cluster files there can = record {
  nodes = λ m. there m ∙ can.nodes m ∙ ap (λ (c : ClusterView). nat_lt m.0 (node_count c)) (sym cluster);
  has_dist = λ m there_m. ap (λ (f : List OwnFile). (own_in f m).has_dist) files ∙ can.has_dist m (before m there_m);
  in_order = λ m there_m.
      subst (λ (c : ClusterView). InOrder t m [] (boot_of c m)) (sym cluster)
      (same_order s t m cluster files [] (boot_of s.cluster m) (can.in_order m (before m there_m)));
  short = λ m there_m. subst (λ (c : ClusterView). length (boot_of c m) < 2 ^ 64 - 1) (sym cluster) (can.short m (before m there_m));
  apps = can.apps;
  distributed = λ m there_m.
      (λ i. distributed_of (own_in (files i) m) (boot_of (cluster i) m))
      ∙ can.distributed m (before m there_m)
      ∙ sym (λ i. filter (λ (x : App). boots m x i) can.apps);
  strangers = λ m there_m.
      subst (λ (c : ClusterView). AreLeftToOne can.at (strangers_of (record s { cluster = c }) m can.apps)) (sym cluster)
      (can.strangers m (before m there_m));
  at = can.at;
  runners = All-weaker (λ (x : App). (boots_at s (can.at x) x ≡ true) × (may_start s (can.at x) x ≡ true))
      (λ (x : App). (boots_at t (can.at x) x ≡ true) × (may_start t (can.at x) x ≡ true))
      (λ x both. (boots (can.at x) x ∙ both.0, may (can.at x) x ∙ both.1)) can.apps can.runners;
  first = λ m there_m.
      All-weaker (λ (x : App). boots_at s m x ≡ true → first_runner s m x ≡ Some (can.at x))
      (λ (x : App). boots_at t m x ≡ true → first_runner t m x ≡ Some (can.at x))
      (λ x is has. runner m x ∙ is (sym (boots m x) ∙ has)) can.apps (can.first m (before m there_m));
}
  where
    before : (m : Node) → IsThere m t → IsThere m s
    before m there_m = is_there_so s m (sym (there m) ∙ there_so t m there_m)

    boots : (m : Node) (x : App) → boots_at t m x ≡ boots_at s m x
    boots m x = ap (λ (c : ClusterView). boots_at (record s { cluster = c }) m x) cluster

    may : (n : Node) (x : App) → may_start t n x ≡ may_start s n x
    may n x = λ i. nat_lt n.0 (node_count (cluster i)) && flag (own_flags (cluster i) (own_in (files i) n) n) x

    runner : (m : Node) (x : App) → first_runner t m x ≡ first_runner s m x
    runner m x = λ i.
        first_of (filter (λ (n : Node). nat_lt n.0 (node_count (cluster i)) && flag (own_flags (cluster i) (own_in (files i) n) n) x)
        (backwards (own_in (files i) m) x))
        (places_of (own_in (files i) m) x)

-- and so are the nodes that run
pub still_at : (s t : SystemView) (cluster : t.cluster ≡ s.cluster) (files : t.files ≡ s.files) (there : (m : Node) → is_there t m ≡ is_there s m)
    (can : CanStartTogether s) → (can_still s t cluster files there can).at ≡ can.at
unfolding can_still
still_at s t cluster files there can = refl

-- ---- what is slow are connections

record Links (what : List Slow) : Type 0 where
  connects : List Link
  are : what ≡ map connect_of connects
  apart : All (λ (l : Link). l.0.0 ≢ l.1.0) connects

links_of : (what : List Slow) → All Connects what → Links what
links_of [] all = record { connects = []; are = refl; apart = All-nil (λ (l : Link). l.0.0 ≢ l.1.0) }
links_of (x ∷ what) all = by x (All-head Connects x what all) (links_of what (All-tail Connects x what all))
  where
    by : (x : Slow) → Connects x → Links what → Links (x ∷ what)
    by (slow.Connect one two) apart rest = record {
      connects = record { 0 = one; 1 = two } ∷ rest.connects;
      are = ap (λ (l : List Slow). slow.Connect one two ∷ l) rest.are;
      apart = All-cons (λ (l : Link). l.0.0 ≢ l.1.0) (record { 0 = one; 1 = two }) rest.connects apart rest.apart;
    }
    by (slow.Boot n) none rest = absurd none

-- ---- no answers are counted in that

forgets_gather : (s : SystemView) → AllGather s → AllGather (uncounted s)
forgets_gather s g = record {
  once = g.once;
  each = λ m some. record {
    there = (g.each m some).there;
    phase = (g.each m some).phase;
    waits = (g.each m some).waits;
    told = (g.each m some).told;
    fresh = (g.each m some).fresh;
    sees = (g.each m some).sees;
    not_itself = (g.each m some).not_itself;
  };
  messages = All-weaker (IsTelling s) (IsTelling (uncounted s))
      (λ e t. record { node = t.node; other = t.other; alive = t.alive; is = t.is }) s.messages g.messages;
  locks = g.locks;
}

-- it is the other one, but for its lists
abbrev IsButLists : LiveView → LiveView → Type 0
IsButLists x y = x ≡ record y { mandatory = x.mandatory; optional = x.optional }

relisted : (x y : LiveView) → x ≡ y → IsButLists x y
relisted x y is = ap (λ (o : LiveView). record o { mandatory = x.mandatory; optional = x.optional }) is

module _ (s : SystemView) (n : Node) (reached : IsReached s) (f : IsColdStart s) (can : CanStartTogether s) (left : IsLeft n s) where
  p : IsLast n s
  p = is_last s n left.other f left.there left.down left.others left.alive

  q : Begins n s
  q = begins_so s n p

  abbrev b : SystemView
  b = begun_at n s

  so : booted n s ≡ z s n q (boots_so s n q).0
  so = (boots_so s n q).1

  slow_so : All Connects (booted n s).slow
  unfolding booted
  slow_so = (tells_by s n (wait_at s n) p.file (ap kernel.waits (here_n s n q) ∙ waits_on s n q) f.messages f.slow).slow

  there_b : (m : Node) → is_there b m ≡ is_there s m
  there_b m = by (cases_eq m.0 n.0)
    where
      by : (m.0 ≡ n.0) ⊎ (m.0 ≢ n.0) → is_there b m ≡ is_there s m
      by (inl is) =
          ap (is_there b) (same_node m n is)
          ∙ ap is_some (there_n s n q)
          ∙ sym (ap is_some left.there.1)
          ∙ ap (is_there s) (same_node n m (sym is))
      by (inr apart) = ap is_some (others_as_they_were s n m (v s n q) apart)

  begun_b : (m : Node) → 1 ≤ times m b.alive
      → IsButLists (node_at b m) (begun s.cluster (own_at s m) m never_begun)
  begun_b m some = by (cases_eq m.0 n.0)
    where
      itself : node_at b n ≡ begun s.cluster (own_at s n) n never_begun
      itself = here_n s n q ∙ ap (begun s.cluster (own_at s n) n) (f.new n (unlisted_dead s f n left.down))

      by : (m.0 ≡ n.0) ⊎ (m.0 ≢ n.0)
          → IsButLists (node_at b m) (begun s.cluster (own_at s m) m never_begun)
      by (inl is) =
          relisted (node_at b m) (begun s.cluster (own_at s m) m never_begun)
          (subst (λ (j : Node). node_at b j ≡ begun s.cluster (own_at s j) j never_begun) (sym (same_node m n is)) itself)
      by (inr apart) =
          subst (λ (o : LiveView). IsButLists o (begun s.cluster (own_at s m) m never_begun)) (sym (at_m s n q m apart)) (f.begun m was).node
        where
          was : 1 ≤ times m s.alive
          was =
              let since : times m b.alive ≡ times m s.alive + one_if (n.0 == m.0) = alive_then s n q m in
              let none : one_if (n.0 == m.0) ≡ 0 = ap one_if (ne_eqb n.0 m.0 (λ is. apart (sym is))) in
              omega (arith, since, none, some)

  all_b : (m : Node) → IsThere m b → 1 ≤ times m b.alive
  all_b m there = by (cases_eq m.0 n.0)
    where
      by : (m.0 ≡ n.0) ⊎ (m.0 ≢ n.0) → 1 ≤ times m b.alive
      by (inl is) = subst (λ (j : Node). 1 ≤ times j b.alive) (sym (same_node m n is)) (n_alive s n q)
      by (inr apart) =
          let was : 1 ≤ times m s.alive =
          listed_alive s f m (left.others m (is_there_so s m (sym (there_b m) ∙ there_so b m there)) apart) in
          let since : times m b.alive ≡ times m s.alive + one_if (n.0 == m.0) = alive_then s n q m in
          omega (arith, was, since)

  are_links : Links (booted n s).slow
  are_links = links_of (booted n s).slow slow_so

  boot_reached : IsReached (uncounted (booted n s))
  boot_reached =
      later (booted n s) (uncounted (booted n s)) (later s (booted n s) reached (acts s (booted n s) (begins s n left.there left.down)))
      (settles (booted n s))

  pub all_begun : AllBegun (uncounted (booted n s))
  all_begun = record {
    reached = boot_reached;
    gather = forgets_gather (booted n s) (gather_behind s n p);
    begun = subst (λ (x : SystemView). (m : Node) → 1 ≤ times m x.alive
        → IsButLists (node_at x m) (begun x.cluster (own_at x m) m never_begun))
        (sym so) begun_b;
    all = subst (λ (x : SystemView). (m : Node) → IsThere m x → 1 ≤ times m x.alive) (sym so) all_b;
    connects = are_links.connects;
    slow = are_links.are;
    apart = are_links.apart;
    calls = ap (λ (x : SystemView). x.calls) so ∙ f.calls;
    can = can_still s (uncounted (booted n s)) (ap (λ (x : SystemView). x.cluster) so) (ap (λ (x : SystemView). x.files) so)
        (λ m. ap (λ (x : SystemView). is_there x m) so ∙ there_b m) can;
  }

  -- the same nodes run
  pub same_at : all_begun.can.at ≡ can.at
  unfolding all_begun
  same_at =
      still_at s (uncounted (booted n s)) (ap (λ (x : SystemView). x.cluster) so) (ap (λ (x : SystemView). x.files) so)
      (λ m. ap (λ (x : SystemView). is_there x m) so ∙ there_b m) can

pub last_ends : LastBootsEndAsScriptsDo
last_ends s n reached f can left =
    let g : AllBegun (uncounted (booted n s)) = all_begun s n reached f can left in (
      bare (uncounted (booted n s)) g,
      bare_reaches (uncounted (booted n s)) g,
      bare_alive (uncounted (booted n s)) g,
      together (uncounted (booted n s)) g,
      ends_as_scripts (uncounted (booted n s)) g,
    )
