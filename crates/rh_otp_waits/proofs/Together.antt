-- Where each node that is alive waits for all that aren't, a node that begins, but not as the last one, ends alike, and so it is again.
use Rattle.std.proofs.Common.{◌≡◌, ◌≢◌, ◌⊎◌, true, false, cond, List, slice_get, sym, ap, subst, ◌∙◌, inl, inr}
use Rattle.std.proofs.lemmas.Bool.{cases_eq, false≢true}
use Rattle.std.proofs.lemmas.Option.{none-some}
use Rattle.rh_model.specs.ClusterView.{ClusterView}
use Rattle.rh_model.specs.declared.node.Node.{Node}
use Rattle.rh_otp_model.specs.declared.wait.OwnFile.{OwnFile}
use Rattle.rh_otp_node.specs.declared.node.Phase.{Phase}
use Rattle.rh_otp_node.specs.Live.{LiveView, is_alive, is_down, is_phase_up, begun}
use Rattle.rh_otp_system.specs.declared.calls.Call.{Call}
use Rattle.rh_otp_system.specs.declared.moves.Move.TheVariants as move
use Rattle.rh_otp_system.specs.Doing.{begun_at, booted}
use Rattle.rh_otp_system.specs.Moves.{IsSettled, IsAmong}
use Rattle.rh_otp_system.specs.State.{SystemView, live_at, node_at, own_at, wait_at, is_alive_at, is_up_at}
use Rattle.rh_otp_laws.specs.Acting.{IsThere, IsNew, IsReached}
use Rattle.rh_otp_laws.proofs.Nodes.{alive_is_there, others_as_they_were, same_number}
use Rattle.rh_otp_crashes.proofs.Crossing.{same_node}
use Rattle.rh_otp_crashes.proofs.Peace.{no_place}
use Rattle.rh_otp_waits.specs.Together.{AllNameAll, AllWait, AllButTheLastEndAlike}
use Rattle.rh_otp_waits.specs.Waits.{HasItWait, is_listed, is_awaited, AllSeeAll, IsLeftWaiting}
use Rattle.rh_otp_waits.proofs.Begun.{heard_of}
use Rattle.rh_otp_waits.proofs.Boot.{Starts, tells, waits_behind, left_waiting, starts_alike}
use Rattle.rh_otp_waits.proofs.Naming.{wait_in, named_see}
use Rattle.rh_otp_waits.proofs.Waiting.{HeardOnly}

-- ---- where no node has begun

none_alive : (s : SystemView) → IsNew s → (n : Node) → is_alive_at s n ≡ true → ⊥
none_alive s is n alive = false≢true (sym (ap is_alive (is.nodes n)) ∙ alive)

none_listed : (s : SystemView) → IsNew s → (n : Node) → IsAmong n s.alive → ⊥
none_listed s is n among = none-some n (sym (ap (λ (l : List Node). slice_get l among.0) is.alive) ∙ among.1)

new_settled : (s : SystemView) → IsNew s → IsSettled s
new_settled s is (move.Deliver place) possible = no_place s.messages place is.messages possible
new_settled s is (move.Slow place) possible = no_place s.slow place is.slow possible.1
new_settled s is (move.Lock n) possible = none_listed s is n possible.1
new_settled s is (move.Call place) possible =
    none-some possible.1.0 (sym (ap (λ (l : List Call). slice_get l place) is.calls) ∙ possible.1.1)
new_settled s is (move.End n) possible = none_listed s is n possible.1

new_waits : (s : SystemView) → IsNew s → AllNameAll s → AllWait s
new_waits s is names = record {
  names = names;
  rest = record {
    settled = new_settled s is;
    calls = is.calls;
    dists = λ n d alive has. absurd (none_alive s is n alive);
  };
  waits = λ m k alive there dead. absurd (none_alive s is m alive);
}

-- ---- where one more begins

-- the node is another one than those that are alive
pub starts : (s : SystemView) (n last : Node) → IsReached s → AllWait s → IsThere n s → is_alive_at s n ≡ false → IsThere last s
    → is_alive_at s last ≡ false → last.0 ≢ n.0 → Starts s n
starts s n last reached all there down there_too down_too apart = record {
  reached = reached;
  rest = all.rest;
  there = there;
  sees = sees;
  waits = record {
    down = down;
    file = (all.names n last there there_too (λ is. apart (sym is))).0;
    names = λ m alive. (all.names n m there (alive_is_there s m alive) (λ is. other m alive (sym is))).1;
    lacks = last;
    lacking = (all.names n last there there_too (λ is. apart (sym is))).1;
    not_itself = apart;
    not_there = down_too;
    others = λ m alive not_up. record { more = last; other = apart; awaited = (all.waits m last alive there_too down_too).1 };
  };
}
  where
    other : (m : Node) → is_alive_at s m ≡ true → m.0 ≢ n.0
    other m alive is = false≢true (sym down ∙ sym (ap is_alive (same_number s m n is)) ∙ alive)

    sees : AllSeeAll s
    sees m k alive alive_too apart =
        let there : IsThere m s = alive_is_there s m alive in
        let there_too : IsThere k s = alive_is_there s k alive_too in
        let one : HasItWait (wait_at s m) × (is_listed s.cluster m k ≡ true) = all.names m k there there_too apart in
        let back : HasItWait (wait_at s k) × (is_listed s.cluster k m ≡ true) =
        all.names k m there_too there (λ is. apart (sym is)) in
        named_see s m k reached apart one.0 back.0 one.1 back.1 alive alive_too

-- each node that is there behind it was there
pub was_there : (s t : SystemView) (n m : Node) → Starts s n → HeardOnly (heard_of (begun_at n s) n) (booted n s) t → IsThere m t → IsThere m s
was_there s t n m f w there = by (cases_eq m.0 n.0)
  where
    there_then : IsThere m (begun_at n s)
    there_then =
        let at : IsThere m (booted n s) = w.there m there in
        (at.0, sym (ap (λ (x : SystemView). live_at x m) (tells s n f).same) ∙ at.1)

    by : (m.0 ≡ n.0) ⊎ (m.0 ≢ n.0) → IsThere m s
    by (inl it) = subst (λ (k : Node). IsThere k s) (same_node n m (sym it)) f.there
    by (inr other) =
        (there_then.0, sym (others_as_they_were s n m (begun s.cluster (own_at s n) n (node_at s n)) other) ∙ there_then.1)

-- the cluster and the files alone
abbrev files_of : SystemView → ClusterView × List OwnFile
files_of s = (s.cluster, s.files)

names_still : (s t : SystemView) (n : Node) → Starts s n → HeardOnly (heard_of (begun_at n s) n) (booted n s) t → AllNameAll s
    → AllNameAll t
names_still s t n f w names m k there there_too apart =
    subst (λ (x : ClusterView × List OwnFile). HasItWait (wait_in x.1 m) × (is_listed x.0 m k ≡ true))
    (sym (ap files_of (tells s n f).same) ∙ sym (ap files_of w.else))
    (names m k (was_there s t n m f w there) (was_there s t n k f w there_too) apart)

waits_again : (s t : SystemView) (n : Node) → Starts s n → AllWait s → HeardOnly (heard_of (begun_at n s) n) (booted n s) t
    → IsLeftWaiting n s t → AllWait t
waits_again s t n f all w left = record {
  names = names_still s t n f w all.names;
  rest = left.rest;
  waits = λ m k alive there dead. by m k alive (was_there s t n k f w there) dead (other_dead k dead) (cases_eq m.0 n.0);
}
  where
    other_dead : (k : Node) → is_alive_at t k ≡ false → k.0 ≢ n.0
    other_dead k dead is =
        false≢true (sym dead ∙ ap is_alive (same_number t k n is) ∙ ap (λ (p : Phase). cond (is_down p) false true) left.itself)

    alive_then : (m : Node) → m.0 ≢ n.0 → is_alive_at t m ≡ is_alive_at s m
    alive_then m other = ap (λ (p : Phase). cond (is_down p) false true) (left.others m other).1

    by : (m k : Node) → is_alive_at t m ≡ true → IsThere k s → is_alive_at t k ≡ false → k.0 ≢ n.0 → (m.0 ≡ n.0) ⊎ (m.0 ≢ n.0)
        → (is_up_at t m ≡ false) × (is_awaited (node_at t m) k ≡ true)
    by m k alive there dead another (inl it) =
        let listed : is_listed s.cluster n k ≡ true = (all.names n k f.there there (λ is. another (sym is))).1 in (
          ap (λ (v : LiveView). is_phase_up v.phase) (same_number t m n it) ∙ ap is_phase_up left.itself,
          ap (λ (v : LiveView). is_awaited v k) (same_number t m n it)
              ∙ left.lacks k another listed (sym (alive_then k another) ∙ dead),
        )
    by m k alive there dead another (inr other) =
        let before = all.waits m k (sym (alive_then m other) ∙ alive) there (sym (alive_then k another) ∙ dead) in
        (ap is_phase_up (left.others m other).1 ∙ before.0, left.awaits m k other another before.1)

pub all_but_last : AllButTheLastEndAlike
all_but_last = record {
  first = new_waits;
  each = λ s n last reached all there down there_too down_too apart.
      let f : Starts s n = starts s n last reached all there down there_too down_too apart in (
        starts_alike s n f,
        λ t reaches settled.
            let w : HeardOnly (heard_of (begun_at n s) n) (booted n s) t = waits_behind s t n f reaches in
            waits_again s t n f all w (left_waiting s t n f w settled),
      );
}
