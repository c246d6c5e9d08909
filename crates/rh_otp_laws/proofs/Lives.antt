-- A node's life is its own, and a node that is down stays down.
use Rattle.std.proofs.Common.{◌≡◌, ◌≢◌, ◌+◌, false, Some, refl, sym, ap, ◌∙◌, inl, inr}
use Rattle.std.proofs.lemmas.Bool.{cases_eq}
use Rattle.rh_model.specs.ClusterView.{numbered}
use Rattle.rh_model.specs.declared.node.Node.{Node}
use Rattle.rh_otp_node.specs.declared.node.Phase.TheVariants as phase
use Rattle.rh_otp_node.specs.Live.{LiveView, is_alive, with_kind, begun}
use Rattle.rh_otp_node.specs.Remote.{without_monitors}
use Rattle.rh_otp_system.specs.declared.moves.Move.{Move}
use Rattle.rh_otp_system.specs.Doing.{begun_at, booted}
use Rattle.rh_otp_system.specs.Ending.{taken_down}
use Rattle.rh_otp_system.specs.Moves.{made}
use Rattle.rh_otp_system.specs.Sending.{told}
use Rattle.rh_otp_system.specs.State.{SystemView, live_at, node_at, with_node, own_at, is_alive_at}
use Rattle.rh_otp_laws.specs.Lives.{life_at, IsNoneBegun, LivesAreCounted}
use Rattle.rh_otp_laws.proofs.Turn.{LivesOn, Turn, nothing, both, wrote, noted, seen, put, set, linked, slowed, took, freed, called, answered, fell, unmonitored}
use Rattle.rh_otp_laws.proofs.Nodes.{written_or_never, same_number, others_same, same_of_all}
use Rattle.rh_otp_laws.proofs.Beginning.{begun_there, boots, calls_on}
use Rattle.rh_otp_laws.proofs.Moving.{ends, made_by_turn}
use Rattle.rh_otp_laws.proofs.Working.{unmonitored_on}

-- where a node that is written lives on all do
pub all_live_on : (s : SystemView) (n m : Node) (w : LiveView) → LivesOn (node_at s n) w
    → LivesOn (node_at s m) (node_at (with_node n w s) m)
all_live_on s n m w on = (same_of_all (λ (v : LiveView). v.life) s n m w on.0, same_of_all is_alive s n m w on.1)

-- ---- in a turn

none_begun : (s t : SystemView) → ((m : Node) → LivesOn (node_at s m) (node_at t m)) → IsNoneBegun s t
none_begun s t on m = ((on m).0, λ down. (on m).1 ∙ down)

same_nodes : (s t : SystemView) → ((m : Node) → node_at t m ≡ node_at s m) → IsNoneBegun s t
same_nodes s t same = none_begun s t (λ m. (ap (λ (v : LiveView). v.life) (same m), ap is_alive (same m)))

-- the node that ends goes down
abbrev down_at : Node → SystemView → LiveView
down_at n s = record (node_at s n) { phase = phase.Down }

pub fallen_is : (n m : Node) (s : SystemView) → node_at (taken_down n s) m ≡ node_at (with_node n (down_at n s) s) m
unfolding taken_down told
fallen_is n m s = refl

fallen_here : (s : SystemView) (n : Node)
    → (life_at (with_node n (down_at n s) s) n ≡ life_at s n) × (is_alive_at (with_node n (down_at n s) s) n ≡ false)
fallen_here s n =
    elim (written_or_never s n (down_at n s)) [
      | inl is ↦ (ap (λ (v : LiveView). v.life) is, ap is_alive is)
      | inr never ↦ (ap (λ (v : LiveView). v.life) (never.0 ∙ sym never.1), ap is_alive never.0)
    ]

pub is_down : (n : Node) (s : SystemView) → is_alive_at (taken_down n s) n ≡ false
is_down n s = ap is_alive (fallen_is n n s) ∙ (fallen_here s n).1

pub others_stand : (n m : Node) (s : SystemView) → m.0 ≢ n.0 → node_at (taken_down n s) m ≡ node_at s m
others_stand n m s other = fallen_is n m s ∙ others_same s n m (down_at n s) other

fell_none : (n : Node) (s : SystemView) → IsNoneBegun s (taken_down n s)
fell_none n s m =
    elim (cases_eq m.0 n.0) [
      | inl is ↦ (
        ap (λ (v : LiveView). v.life) (same_number (taken_down n s) m n is ∙ fallen_is n n s) ∙ (fallen_here s n).0
            ∙ sym (ap (λ (v : LiveView). v.life) (same_number s m n is)),
        λ down. ap is_alive (same_number (taken_down n s) m n is) ∙ is_down n s,
      )
      | inr other ↦ (ap (λ (v : LiveView). v.life) (others_stand n m s other), λ down. ap is_alive (others_stand n m s other) ∙ down)
    ]

pub none_begins : (n : Node) (s t : SystemView) → Turn n s t → IsNoneBegun s t
none_begins n _ _ (nothing s) = same_nodes s s (λ m. refl)
none_begins n _ _ (both s t u p q) = λ m.
    let first : (life_at t m ≡ life_at s m) × (is_alive_at s m ≡ false → is_alive_at t m ≡ false) = none_begins n s t p m in
    let next : (life_at u m ≡ life_at t m) × (is_alive_at t m ≡ false → is_alive_at u m ≡ false) = none_begins n t u q m in
    (next.0 ∙ first.0, λ down. next.1 (first.1 down))
none_begins n _ _ (wrote s v on) = none_begun s (with_node n v s) (λ m. all_live_on s n m v on)
none_begins n _ _ (noted s k a kind) =
    none_begun s (with_node k (with_kind a kind (node_at s k)) s) (λ m. all_live_on s k m (with_kind a kind (node_at s k)) (refl, refl))
none_begins n _ _ (seen s e) = same_nodes s s (λ m. refl)
none_begins n _ _ (put s more) = same_nodes s s (λ m. refl)
none_begins n _ _ (set s due to m later) = same_nodes s s (λ m. refl)
none_begins n _ _ (linked s links) = same_nodes s s (λ m. refl)
none_begins n _ _ (slowed s slow) = same_nodes s s (λ m. refl)
none_begins n _ _ (took s r p nodes) = same_nodes s s (λ m. refl)
none_begins n _ _ (freed s r p) = same_nodes s s (λ m. refl)
none_begins n _ _ (called s calls last) = same_nodes s s (λ m. refl)
none_begins n _ _ (answered s answers) = same_nodes s s (λ m. refl)
none_begins n _ _ (fell s) = fell_none n s
none_begins n _ _ (unmonitored s k) =
    none_begun s (with_node k (without_monitors n (node_at s k)) s)
    (λ m. all_live_on s k m (without_monitors n (node_at s k)) (unmonitored_on n (node_at s k)))

-- ---- the law

pub moved_none : (s : SystemView) (next : Move) → IsNoneBegun s (made next s)
moved_none s next = none_begins _ _ _ (made_by_turn (numbered 0) next s)

booted_life : (s : SystemView) (n : Node) (v : LiveView) → live_at s n ≡ Some v → life_at (booted n s) n ≡ life_at s n + 1
booted_life s n v there = (none_begins n _ _ (boots s n v there) n).0 ∙ ap (λ (w : LiveView). w.life) (begun_there s n v there)

others_live : (s : SystemView) (n m : Node) (v : LiveView) → live_at s n ≡ Some v → m.0 ≢ n.0
    → (life_at (booted n s) m ≡ life_at s m) × (is_alive_at s m ≡ false → is_alive_at (booted n s) m ≡ false)
others_live s n m v there other =
    let same : node_at (begun_at n s) m ≡ node_at s m = others_same s n m (begun s.cluster (own_at s n) n (node_at s n)) other in
    let none : (life_at (booted n s) m ≡ life_at (begun_at n s) m)
    × (is_alive_at (begun_at n s) m ≡ false → is_alive_at (booted n s) m ≡ false) = none_begins n _ _ (boots s n v there) m in
    (none.0 ∙ ap (λ (w : LiveView). w.life) same, λ down. none.1 (ap is_alive same ∙ down))

pub lives_counted : LivesAreCounted
lives_counted = record {
  moves = moved_none;
  crashes = λ s n. none_begins n _ _ (ends n s);
  calls = λ s a n app. none_begins n _ _ (calls_on n a n app s);
  begins = λ s n there. booted_life s n there.0 there.1;
  others = λ s n m there other. others_live s n m there.0 there.1 other;
}
