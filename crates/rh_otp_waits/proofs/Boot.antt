-- A boot of a node that waits on, where nodes are at rest, ends alike, and leaves all waiting.
use Rattle.std.proofs.Common.{◌≡◌, ◌≢◌, ◌⊎◌, ◌&&◌, ◌||◌, ℕ, Bool, true, false, not, cond, [], Some, None, refl, sym, ap, subst, ◌∙◌, inl, inr}
use Rattle.std.specs.Prelude.{All}
use Rattle.std.proofs.lemmas.Bool.{cases_eq, and_parts}
use Rattle.std.proofs.lemmas.List.Elements.{All-nil, All-weaker}
use Rattle.std.proofs.lemmas.Option.{none-some, same_Some}
use Rattle.rh_model.specs.ClusterView.{ClusterView, node_count, app_count}
use Rattle.rh_model.specs.declared.node.Node.{Node}
use Rattle.rh_otp_model.specs.declared.message.Message.{Message}
use Rattle.rh_otp_model.specs.declared.wait.Wait.{Wait}
use Rattle.rh_otp_model.specs.declared.wait.Wait.TheVariants as wait
use Rattle.rh_otp_model.specs.Own.{OwnView}
use Rattle.rh_otp_dist.specs.declared.state.Stand.TheVariants as stand
use Rattle.rh_otp_dist.specs.State.{DistView, beginning}
use Rattle.rh_otp_dist.specs.Waiting.{takes}
use Rattle.rh_otp_net.specs.Links.{are_linked}
use Rattle.rh_otp_node.specs.Kernel as kernel
use Rattle.rh_otp_node.specs.Live.{LiveView, is_alive, is_up, is_ending, begun, first_dist, own_flags}
use Rattle.rh_otp_system.specs.declared.slow.Slow.{Slow}
use Rattle.rh_otp_system.specs.declared.slow.Slow.TheVariants as slow
use Rattle.rh_otp_system.specs.Doing.{begun_at, booted, waited}
use Rattle.rh_otp_system.specs.Moves.{Reaches, here, IsSettled, is_to_end}
use Rattle.rh_otp_system.specs.State.{SystemView, node_at, own_at, wait_at, is_alive_at, is_up_at}
use Rattle.rh_otp_laws.specs.Acting.{IsThere, IsReached, later, acts, begins}
use Rattle.rh_otp_laws.proofs.Beginning.{begun_there}
use Rattle.rh_otp_laws.proofs.Hanging.{settled_stays_so}
use Rattle.rh_otp_laws.proofs.Nodes.{others_same, same_number}
use Rattle.rh_otp_orders.proofs.Confluence.{orderly_alike, picks_alike}
use Rattle.rh_otp_orders.proofs.Moving.{reached_order}
use Rattle.rh_otp_crashes.specs.Crashes.{IsUnoccupied, AreAtRest}
use Rattle.rh_otp_crashes.proofs.Crash.{lives_of, none_ends}
use Rattle.rh_otp_crashes.proofs.Crossing.{same_node}
use Rattle.rh_otp_stops.specs.Stops.{EndsAlike}
use Rattle.rh_otp_waits.specs.Waits.{HasItWait, is_awaited, AllSeeAll, WaitsForMore, WaitsOn, WaitingBootsEndAlike, IsLeftWaiting, WaitingBootsLeaveAllWaiting}
use Rattle.rh_otp_waits.proofs.Begun.{Connects, heard_of, dead_unheard, others_unheard, Tells, tells_waited}
use Rattle.rh_otp_waits.proofs.Going.{goes_booted}
use Rattle.rh_otp_waits.proofs.Linking.{linked_back}
use Rattle.rh_otp_waits.proofs.Meeting.{all_on, orderly}
use Rattle.rh_otp_waits.proofs.Naming.{booted_links, still_linked}
use Rattle.rh_otp_waits.proofs.Waiting.{IsUp, IsIdle, Lacks, HeardOnly, IsCalm, awaiting_waits}

-- nodes are at rest, and this one waits on once it has begun
pub record Starts (s : SystemView) (n : Node) : Type 0 where
  pub reached : IsReached s
  pub rest : AreAtRest s
  pub there : IsThere n s
  pub sees : AllSeeAll s
  pub waits : WaitsOn n s

-- the node as it begins
abbrev begins_so : SystemView → Node → LiveView
begins_so s n = begun s.cluster (own_at s n) n (node_at s n)

pub tells_by : (s : SystemView) (n : Node) (w : Wait) → HasItWait w → kernel.waits (node_at (begun_at n s) n) ≡ true → s.messages ≡ []
    → s.slow ≡ [] → Tells (begun_at n s) n (waited w n (begun_at n s))
tells_by s n wait.Unset has waits none no_slow = absurd has
tells_by s n wait.Refused has waits none no_slow = absurd has
tells_by s n (wait.After time) has waits none no_slow = tells_waited (begun_at n s) n (Some time) has waits none no_slow
tells_by s n wait.Forever has waits none no_slow = tells_waited (begun_at n s) n None has waits none no_slow

pub tells : (s : SystemView) (n : Node) → Starts s n → Tells (begun_at n s) n (booted n s)
unfolding booted
tells s n f =
    let quiet : (s.messages ≡ []) × (s.slow ≡ []) = (settled_stays_so s s f.rest.settled (here s)).0 in
    tells_by s n (wait_at s n) f.waits.file
    (ap kernel.waits (begun_there s n f.there.0 f.there.1) ∙ awaiting_waits f.waits.lacks (begins_so s n) f.waits.lacking)
    quiet.0 quiet.1

-- ---- the nodes behind its begin

same_as_begun : (s : SystemView) (n m : Node) → Starts s n → node_at (booted n s) m ≡ node_at (begun_at n s) m
same_as_begun s n m f = ap (λ (x : SystemView). node_at x m) (tells s n f).same

pub itself : (s : SystemView) (n m : Node) → Starts s n → m.0 ≡ n.0 → node_at (booted n s) m ≡ begins_so s n
itself s n m f is =
    same_as_begun s n m f ∙ same_number (begun_at n s) m n is ∙ begun_there s n f.there.0 f.there.1

pub others : (s : SystemView) (n m : Node) → Starts s n → m.0 ≢ n.0 → node_at (booted n s) m ≡ node_at s m
others s n m f other = same_as_begun s n m f ∙ others_same s n m (begins_so s n) other

pub booted_reached : (s : SystemView) (n : Node) → Starts s n → IsReached (booted n s)
booted_reached s n f = later s (booted n s) f.reached (acts s (booted n s) (begins s n f.there f.waits.down))

-- ---- nobody does anything

pub begins_unoccupied : (c : ClusterView) (own : OwnView) (n : Node) (d : DistView) → first_dist c own n ≡ Some d → IsUnoccupied d
begins_unoccupied c own n d is = by own.has_dist is
  where
    first : DistView
    first = beginning (node_count c) (app_count c) n (own_flags c own n)

    by : (b : Bool) → cond b (Some first) None ≡ Some d → IsUnoccupied d
    by true has = subst IsUnoccupied (same_Some first d has) (record {
      stand = inr refl;
      mail = All-nil (λ (m : Message). takes stand.ForGo m ≡ false);
      permits = refl;
      parked = refl;
    })
    by false has = absurd (none-some d has)

abbrev ending_by : Bool → LiveView → Bool
ending_by soon v = is_ending v && (soon || not v.is_stopped)

pub calm : (s : SystemView) (n : Node) → Starts s n → IsCalm (booted n s)
calm s n f = record {
  calls = ap (λ (x : SystemView). x.calls) (tells s n f).same ∙ f.rest.calls;
  dists = λ m d alive has. dists m d alive has (cases_eq m.0 n.0);
  ends = λ m alive. ends m alive (cases_eq m.0 n.0);
  listed = reached_order a (booted_reached s n f);
}
  where
    a : SystemView
    a = booted n s

    dists : (m : Node) (d : DistView) → is_alive_at a m ≡ true → (node_at a m).dist ≡ Some d → (m.0 ≡ n.0) ⊎ (m.0 ≢ n.0)
        → IsUnoccupied d
    dists m d alive has (inl it) =
        begins_unoccupied s.cluster (own_at s n) n d (sym (ap (λ (v : LiveView). v.dist) (itself s n m f it)) ∙ has)
    dists m d alive has (inr other) =
        let same : node_at a m ≡ node_at s m = others s n m f other in
        f.rest.dists m d (sym (ap is_alive same) ∙ alive) (sym (ap (λ (v : LiveView). v.dist) same) ∙ has)

    ends : (m : Node) → is_alive_at a m ≡ true → (m.0 ≡ n.0) ⊎ (m.0 ≢ n.0) → is_to_end m a ≡ false
    ends m alive (inl it) = ap (ending_by a.ends_soon) (itself s n m f it)
    ends m alive (inr other) =
        let same : node_at a m ≡ node_at s m = others s n m f other in
        (λ i. ending_by ((tells s n f).same i).ends_soon (same i))
        ∙ none_ends s m f.reached f.rest.settled (sym (ap is_alive same) ∙ alive)

-- ---- all see one another

all_see : (s : SystemView) (n : Node) → Starts s n → AllSeeAll (booted n s)
all_see s n f m k alive alive_too apart = by (cases_eq m.0 n.0) (cases_eq k.0 n.0)
  where
    a : SystemView
    a = booted n s

    before : (j : Node) → j.0 ≢ n.0 → is_alive_at a j ≡ true → is_alive_at s j ≡ true
    before j other is = sym (ap is_alive (others s n j f other)) ∙ is

    reaches : (j : Node) → n.0 ≢ j.0 → is_alive_at a j ≡ true → are_linked n j a.links ≡ true
    reaches j other is =
        booted_links s n j f.there.0 f.there.1 f.waits.file (f.waits.names j (before j (λ it. other (sym it)) is))
        (sym (ap is_alive (same_as_begun s n j f)) ∙ is) other

    by : (m.0 ≡ n.0) ⊎ (m.0 ≢ n.0) → (k.0 ≡ n.0) ⊎ (k.0 ≢ n.0) → are_linked m k a.links ≡ true
    by (inl it) any =
        subst (λ (j : Node). are_linked j k a.links ≡ true) (same_node n m (sym it))
        (reaches k (λ is. apart (it ∙ is)) alive_too)
    by (inr other) (inl it) =
        linked_back m k a.links
        ∙ subst (λ (j : Node). are_linked j m a.links ≡ true) (same_node n k (sym it)) (reaches m (λ is. other (sym is)) alive)
    by (inr other) (inr other_too) =
        still_linked (begun_at n s) a m k (goes_booted n s) alive alive_too
        (f.sees m k (before m other alive) (before k other_too alive_too) apart)

-- ---- each that waits waits for one more

-- the node doesn't hear of one that isn't alive
unheard_by_it : (s : SystemView) (n m k : Node) → m.0 ≡ n.0 → k.0 ≢ n.0 → is_alive_at s k ≡ false → heard_of (begun_at n s) n m k ≡ false
unheard_by_it s n m k it other dead =
    dead_unheard (begun_at n s) n m k it (ap is_alive (others_same s n k (begins_so s n) other) ∙ dead)

idle : (s : SystemView) (n : Node) → Starts s n → (what : Slow) → Connects what → IsIdle (booted n s) what
idle s n f (slow.Connect one two) apart = λ alive.
    let both : (is_alive_at (booted n s) one ≡ true) × (is_alive_at (booted n s) two ≡ true) = and_parts _ _ alive in
    all_see s n f one two both.0 both.1 apart
idle s n f (slow.Boot m) apart = absurd apart

pub waits_from : (s : SystemView) (n : Node) → Starts s n → HeardOnly (heard_of (begun_at n s) n) (booted n s) (booted n s)
waits_from s n f = record {
  else = refl;
  nodes = λ m. refl;
  messages = subst (λ (lives : Node → ℕ). All (IsUp heard lives) a.messages) (sym (ap lives_of (tells s n f).same)) (tells s n f).messages;
  slow = All-weaker Connects (IsIdle a) (idle s n f) a.slow (tells s n f).slow;
  there = λ m there. there;
  lacks = λ m alive down. by m alive down (cases_eq m.0 n.0);
  awaits = λ m k not_heard awaited. awaited;
}
  where
    a : SystemView
    a = booted n s

    heard : Node → Node → Bool
    heard = heard_of (begun_at n s) n

    by : (m : Node) → is_alive_at a m ≡ true → is_up_at a m ≡ false → (m.0 ≡ n.0) ⊎ (m.0 ≢ n.0) → Lacks heard m (node_at a m)
    by m alive down (inl it) = record {
      lacked = f.waits.lacks;
      unheard = unheard_by_it s n m f.waits.lacks it f.waits.not_itself f.waits.not_there;
      awaited = ap (λ (v : LiveView). is_awaited v f.waits.lacks) (itself s n m f it) ∙ f.waits.lacking;
    }
    by m alive down (inr other) =
        let same : node_at a m ≡ node_at s m = others s n m f other in
        let more : WaitsForMore n (node_at s m) = f.waits.others m (sym (ap is_alive same) ∙ alive) (sym (ap is_up same) ∙ down) in
        record {
          lacked = more.more;
          unheard = others_unheard (begun_at n s) n m more.more other more.other;
          awaited = ap (λ (v : LiveView). is_awaited v more.more) same ∙ more.awaited;
        }

-- ---- the laws

pub calm_forgets : (a : SystemView) → IsCalm a → IsCalm (record a { answers = [] })
calm_forgets a c = record { calls = c.calls; dists = c.dists; ends = c.ends; listed = c.listed }

idle_too : (a : SystemView) (what : Slow) → IsIdle a what → IsIdle (record a { answers = [] }) what
idle_too a (slow.Connect one two) is = is
idle_too a (slow.Boot m) is = is

pub wait_forgets : (heard : Node → Node → Bool) (a : SystemView) → HeardOnly heard a a
    → HeardOnly heard (record a { answers = [] }) (record a { answers = [] })
wait_forgets heard a w = record {
  else = refl;
  nodes = λ m. refl;
  messages = w.messages;
  slow = All-weaker (IsIdle a) (IsIdle (record a { answers = [] })) (idle_too a) a.slow w.slow;
  there = λ m there. there;
  lacks = w.lacks;
  awaits = λ m k not_heard awaited. awaited;
}

pub starts_alike : (s : SystemView) (n : Node) → Starts s n → EndsAlike (booted n s)
starts_alike s n f =
    let a : SystemView = booted n s in
    let is_reached : IsReached a = booted_reached s n f in (
      orderly_alike a is_reached (orderly a (calm s n f) (waits_from s n f)),
      λ most one other quiet quiet_too.
          picks_alike a most one other is_reached
          (orderly (record a { answers = [] }) (calm_forgets a (calm s n f))
          (wait_forgets (heard_of (begun_at n s) n) a (waits_from s n f)))
          quiet quiet_too,
    )

pub boots_alike : WaitingBootsEndAlike
boots_alike s n reached rest there sees waits =
    starts_alike s n (record { reached = reached; rest = rest; there = there; sees = sees; waits = waits })

-- behind the boot, however far it is
pub waits_behind : (s t : SystemView) (n : Node) → Starts s n → Reaches (booted n s) t
    → HeardOnly (heard_of (begun_at n s) n) (booted n s) t
waits_behind s t n f reaches = all_on (booted n s) t reaches (calm s n f) (waits_from s n f)

pub left_waiting : (s t : SystemView) (n : Node) → Starts s n → HeardOnly (heard_of (begun_at n s) n) (booted n s) t → IsSettled t
    → IsLeftWaiting n s t
left_waiting s t n f w settled = record {
  itself = ap (λ (v : LiveView). v.phase) (w.nodes n) ∙ ap (λ (v : LiveView). v.phase) (itself s n n f refl);
  lacks = λ k other listed dead.
      w.awaits n k (unheard_by_it s n n k refl other dead) (ap (λ (v : LiveView). is_awaited v k) (itself s n n f refl) ∙ listed);
  others = λ m other. (
    ap (λ (v : LiveView). v.life) (w.nodes m) ∙ ap (λ (v : LiveView). v.life) (others s n m f other),
    ap (λ (v : LiveView). v.phase) (w.nodes m) ∙ ap (λ (v : LiveView). v.phase) (others s n m f other),
  );
  awaits = λ m k other another awaited.
      w.awaits m k (others_unheard (begun_at n s) n m k other another)
      (ap (λ (v : LiveView). is_awaited v k) (others s n m f other) ∙ awaited);
  events = ap (λ (x : SystemView). x.events) w.else ∙ ap (λ (x : SystemView). x.events) (tells s n f).same;
  rest = record {
    settled = settled;
    calls = ap (λ (x : SystemView). x.calls) w.else ∙ (calm s n f).calls;
    dists = λ m d alive has.
        (calm s n f).dists m d (sym (ap is_alive (w.nodes m)) ∙ alive) (sym (ap (λ (v : LiveView). v.dist) (w.nodes m)) ∙ has);
  };
  sees = λ m k alive alive_too apart.
      ap (λ (x : SystemView). are_linked m k x.links) w.else
      ∙ all_see s n f m k (sym (ap is_alive (w.nodes m)) ∙ alive) (sym (ap is_alive (w.nodes k)) ∙ alive_too) apart;
}

pub boots_leave : WaitingBootsLeaveAllWaiting
boots_leave s t n reached rest there sees waits reaches settled =
    let f : Starts s n = record { reached = reached; rest = rest; there = there; sees = sees; waits = waits } in
    left_waiting s t n f (waits_behind s t n f reaches) settled
