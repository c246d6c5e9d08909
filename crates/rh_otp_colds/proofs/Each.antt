-- Each boot of a cold start ends alike: those that wait on, and the last one, where boot scripts that begin together do.
use Rattle.std.proofs.Common.{◌≡◌, ◌≢◌, ◌<◌, ◌⊎◌, ℕ, zero, suc, true, false, is_some, sym, ap, subst, ◌∙◌, inl, inr, arith}
use Rattle.std.proofs.lemmas.Bool.{cases_Bool, cases_eq, ltb-true, false≢true}
use Rattle.rh_model.specs.ClusterView.{numbered, node_count}
use Rattle.rh_model.specs.declared.node.Node.{Node}
use Rattle.rh_otp_system.specs.Doing.{begun_at, booted}
use Rattle.rh_otp_system.specs.Moves.{settled, Reaches}
use Rattle.rh_otp_system.specs.State.{SystemView, is_alive_at}
use Rattle.rh_otp_system.proofs.Moving.{settles}
use Rattle.rh_otp_laws.specs.Acting.{IsThere, IsReached, new, later, acts, begins}
use Rattle.rh_otp_laws.specs.Acting.{settles as settles_uncounted}
use Rattle.rh_otp_orders.specs.Confluence.{EveryOrderEndsAlike}
use Rattle.rh_otp_orders.proofs.Confluence.{orderly_alike, picks_alike}
use Rattle.rh_otp_crashes.proofs.Crossing.{same_node}
use Rattle.rh_otp_stops.specs.Stops.{EndsAlike}
use Rattle.rh_otp_waits.proofs.Begun.{heard_of}
use Rattle.rh_otp_waits.proofs.Boot.{Starts, calm, waits_from, calm_forgets, wait_forgets, booted_reached}
use Rattle.rh_otp_waits.proofs.Meeting.{orderly}
use Rattle.rh_otp_waits.proofs.Together.{starts}
use Rattle.rh_otp_joins.specs.Joins.{uncounted}
use Rattle.rh_otp_joins.proofs.Ending.{reached_there}
use Rattle.rh_otp_together.specs.Together.{BootTogether, BootScriptsEndAlikeTogether}
use Rattle.rh_otp_colds.specs.Colds.{is_there, IsColdStart}
use Rattle.rh_otp_colds.specs.Wholes.{CanStartTogether, IsLeft, IsStarting, none_yet, one_more, meanwhile, ColdBootsEndAlike, ColdStartsEndAlike}
use Rattle.rh_otp_colds.proofs.Boot.{cluster_t, files_t, there_t, again}
use Rattle.rh_otp_colds.proofs.Last.{can_still, last_ends}
use Rattle.rh_otp_colds.proofs.Meanwhile.{still_cold}
use Rattle.rh_otp_colds.proofs.Starting.{there_so, is_there_so, all_wait, new_cold}

-- ---- a node that waits on

waiting_ends : (s : SystemView) (n : Node) → Starts s n → EndsAlike (uncounted (booted n s))
waiting_ends s n f = (
  orderly_alike (uncounted (booted n s))
      (later (booted n s) (uncounted (booted n s)) (booted_reached s n f) (settles_uncounted (booted n s)))
      (orderly (uncounted (booted n s)) (calm_forgets (booted n s) (calm s n f))
      (wait_forgets (heard_of (begun_at n s) n) (booted n s) (waits_from s n f))),
  λ most one other quiet quiet_too.
      picks_alike (booted n s) most one other (booted_reached s n f)
      (orderly (uncounted (booted n s)) (calm_forgets (booted n s) (calm s n f))
      (wait_forgets (heard_of (begun_at n s) n) (booted n s) (waits_from s n f)))
      quiet quiet_too,
)

-- ---- the last node

last_alike : BootScriptsEndAlikeTogether → (s : SystemView) (n : Node) → IsReached s → IsColdStart s → CanStartTogether s → IsLeft n s
    → EndsAlike (uncounted (booted n s))
last_alike scripts s n reached f can left = (
  ends,
  λ most one other quiet quiet_too.
      ends.alike (settled most one (booted n s)) (settled most other (booted n s)) (settles most one (booted n s)).0
      ((settles most one (booted n s)).1 quiet) (settles most other (booted n s)).0 ((settles most other (booted n s)).1 quiet_too),
)
  where
    all : (t : SystemView) × Reaches (uncounted (booted n s)) t × (t.alive ≡ (booted n s).alive) × BootTogether t
        × (EveryOrderEndsAlike t → EveryOrderEndsAlike (uncounted (booted n s)))
    all = last_ends s n reached f can left

    ends : EveryOrderEndsAlike (uncounted (booted n s))
    ends = all.4 (scripts all.0 all.3).0

-- ---- which of the two it is

-- another node than this isn't alive
record Lacks (n : Node) (s : SystemView) : Type 0 where
  last : Node
  there : IsThere last s
  down : is_alive_at s last ≡ false
  apart : last.0 ≢ n.0

abbrev AllBelow : ℕ → Node → SystemView → Type 0
AllBelow k n s = (m : Node) → m.0 < k → IsThere m s → m.0 ≢ n.0 → is_alive_at s m ≡ true

looked_for : (s : SystemView) (n : Node) (k : ℕ) → Lacks n s ⊎ AllBelow k n s
looked_for s n zero = inr (λ m less. absurd (omega (arith, less)))
looked_for s n (suc k) = by (looked_for s n k)
  where
    x : Node
    x = numbered k

    -- where that one isn't such a node
    more : AllBelow k n s → (IsThere x s → x.0 ≢ n.0 → is_alive_at s x ≡ true) → AllBelow (suc k) n s
    more below so m less there apart = one (cases_eq m.0 k)
      where
        one : (m.0 ≡ k) ⊎ (m.0 ≢ k) → is_alive_at s m ≡ true
        one (inr other) = below m (omega (arith, less, other)) there apart
        one (inl is) =
            ap (is_alive_at s) (same_node m x is)
            ∙ so (subst (λ (y : Node). IsThere y s) (same_node m x is) there) (λ same. apart (is ∙ same))

    at : AllBelow k n s → (is_there s x ≡ true) ⊎ (is_there s x ≡ false) → (is_alive_at s x ≡ true) ⊎ (is_alive_at s x ≡ false)
        → (k ≡ n.0) ⊎ (k ≢ n.0) → Lacks n s ⊎ AllBelow (suc k) n s
    at below c (inl alive) e = inr (more below (λ there apart. alive))
    at below (inr out) (inr dead) e = inr (more below (λ there apart. absurd (false≢true (sym out ∙ there_so s x there))))
    at below (inl there) (inr dead) (inl same) = inr (more below (λ there apart. absurd (apart same)))
    at below (inl there) (inr dead) (inr apart) = inl (record { last = x; there = is_there_so s x there; down = dead; apart = apart })

    by : Lacks n s ⊎ AllBelow k n s → Lacks n s ⊎ AllBelow (suc k) n s
    by (inl lacks) = inl lacks
    by (inr below) = at below (cases_Bool (is_there s x)) (cases_Bool (is_alive_at s x)) (cases_eq k n.0)

-- ---- each of them

-- so far nodes have begun so
pub record SoFar (s : SystemView) : Type 0 where
  pub reached : IsReached s
  pub cold : IsColdStart s
  pub can : CanStartTogether s

pub so_far : (s : SystemView) → IsStarting s → SoFar s
so_far _ (none_yet s is names can) = record { reached = new s is; cold = new_cold s is names; can = can }
so_far _ (one_more s t n last before there down there_too down_too apart reaches settled) =
    let f : SoFar s = so_far s before in
    record {
      reached = reached_there (booted n s) t reaches (later s (booted n s) f.reached (acts s (booted n s) (begins s n there down)));
      cold = again s n last f.cold there down there_too apart f.reached down_too t reaches settled;
      can = can_still s t (cluster_t s n last f.cold there down there_too apart f.reached down_too t reaches settled)
          (files_t s n last f.cold there down there_too apart f.reached down_too t reaches settled)
          (there_t s n last f.cold there down there_too apart f.reached down_too t reaches settled) f.can;
    }
so_far _ (meanwhile s t before happens same) =
    let f : SoFar s = so_far s before in
    record {
      reached = later s t f.reached happens;
      cold = still_cold s t same f.cold;
      can = can_still s t same.cluster same.files (λ m. ap is_some (same.nodes m)) f.can;
    }

pub boots_end : BootScriptsEndAlikeTogether → ColdBootsEndAlike
boots_end scripts s n other reached f can there down there_too apart = by (looked_for s n (node_count s.cluster))
  where
    by : Lacks n s ⊎ AllBelow (node_count s.cluster) n s → EndsAlike (uncounted (booted n s))
    by (inl l) = waiting_ends s n (starts s n l.last reached (all_wait s f) there down l.there l.down l.apart)
    by (inr below) = last_alike scripts s n reached f can (record {
      there = there;
      down = down;
      others = others;
      other = other;
      alive = others other there_too apart;
    })
      where
        others : (m : Node) → IsThere m s → m.0 ≢ n.0 → is_alive_at s m ≡ true
        others m there_m = below m (ltb-true m.0 (node_count s.cluster) (sym (can.nodes m) ∙ there_so s m there_m)) there_m

pub starts_end : BootScriptsEndAlikeTogether → ColdStartsEndAlike
starts_end scripts s n other starting =
    let f : SoFar s = so_far s starting in
    boots_end scripts s n other f.reached f.cold f.can
