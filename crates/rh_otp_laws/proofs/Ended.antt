-- What has ended never comes back.
use Rattle.std.proofs.Common.{◌≡◌, ◌≤◌, ◌+◌, ◌==◌, ℕ, false, Some, sym, ap, subst, ◌∙◌, inl, inr, arith}
use Rattle.std.proofs.lemmas.Bool.{cases_eq, ne_eqb, and_cases, and_left, and_right}
use Rattle.rh_model.specs.declared.node.Node.{Node}
use Rattle.rh_otp_model.specs.declared.process.Process.{Process}
use Rattle.rh_otp_node.specs.Live.{LiveView, begun}
use Rattle.rh_otp_system.specs.Doing.{begun_at, booted, called}
use Rattle.rh_otp_system.specs.Moves.{made}
use Rattle.rh_otp_system.specs.Resting.{crashed}
use Rattle.rh_otp_system.specs.State.{SystemView, live_at, node_at, own_at, is_alive_at, lives_in, lives}
use Rattle.rh_otp_laws.specs.Acting.{moves, begins, crashes, calls}
use Rattle.rh_otp_laws.specs.Lives.{life_at, IsNoneBegun, EndedStaysEnded}
use Rattle.rh_otp_laws.proofs.Beginning.{begun_there, boots, calls_on}
use Rattle.rh_otp_laws.proofs.Lives.{none_begins, moved_none}
use Rattle.rh_otp_laws.proofs.Moving.{ends}
use Rattle.rh_otp_laws.proofs.Nodes.{same_number, others_same}

-- not in the life of a process: in a later one, or in none
ended_by : (p : Process) (s t : SystemView) → life_at t p.node ≡ life_at s p.node
    → (is_alive_at s p.node ≡ false → is_alive_at t p.node ≡ false)
    → lives s p ≡ false → lives t p ≡ false
ended_by p s t life down ended =
    elim (and_cases (is_alive_at s p.node) (life_at s p.node == p.life) ended) [
      | inl dead ↦ and_left (is_alive_at t p.node) (life_at t p.node == p.life) (down dead)
      | inr later ↦ and_right (is_alive_at t p.node) (life_at t p.node == p.life) (ap (λ (k : ℕ). k == p.life) life ∙ later)
    ]

ended_in : (p : Process) (s t : SystemView) → IsNoneBegun s t → p.life ≤ life_at s p.node → lives s p ≡ false
    → (p.life ≤ life_at t p.node) × (lives t p ≡ false)
ended_in p s t none before ended =
    (subst (λ (k : ℕ). p.life ≤ k) (sym (none p.node).0) before, ended_by p s t (none p.node).0 (none p.node).1 ended)

ended_begun : (p : Process) (s : SystemView) (n : Node) (v : LiveView) → live_at s n ≡ Some v → p.life ≤ life_at s p.node
    → lives s p ≡ false
    → (p.life ≤ life_at (begun_at n s) p.node) × (lives (begun_at n s) p ≡ false)
ended_begun p s n v there before ended =
    elim (cases_eq p.node.0 n.0) [
      | inl here ↦
          let life : life_at (begun_at n s) p.node ≡ life_at s p.node + 1 =
          ap (λ (w : LiveView). w.life) (same_number (begun_at n s) p.node n here ∙ begun_there s n v there)
          ∙ ap (λ (w : LiveView). w.life + 1) (sym (same_number s p.node n here)) in (
            omega (arith, life, before),
            and_right (is_alive_at (begun_at n s) p.node) (life_at (begun_at n s) p.node == p.life)
                (ne_eqb (life_at (begun_at n s) p.node) p.life (λ same. omega (arith, life, before, same))),
          )
      | inr other ↦
          let same : node_at (begun_at n s) p.node ≡ node_at s p.node =
          others_same s n p.node (begun s.cluster (own_at s n) n (node_at s n)) other in
          (subst (λ (w : LiveView). p.life ≤ w.life) (sym same) before, ap (lives_in p.life) same ∙ ended)
    ]

pub ended_stays : EndedStaysEnded
ended_stays _ _ p (moves s next possible) before ended = ended_in p s (made next s) (moved_none s next) before ended
ended_stays _ _ p (begins s n there down) before ended =
    let begun_so : (p.life ≤ life_at (begun_at n s) p.node) × (lives (begun_at n s) p ≡ false) =
    ended_begun p s n there.0 there.1 before ended in
    ended_in p (begun_at n s) (booted n s) (none_begins n _ _ (boots s n there.0 there.1)) begun_so.0 begun_so.1
ended_stays _ _ p (crashes s n) before ended = ended_in p s (crashed n s) (none_begins n _ _ (ends n s)) before ended
ended_stays _ _ p (calls s a n app) before ended = ended_in p s (called a n app s) (none_begins n _ _ (calls_on n a n app s)) before ended
