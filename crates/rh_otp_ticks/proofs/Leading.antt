-- Where one move alone is possible at first, every order of all that comes of it ends alike if every order of what that move leads to does.
use Rattle.std.proofs.Common.{◌≡◌, ◌≤◌, ℕ, subst, arith}
use Rattle.rh_otp_system.specs.Moves.{Delivers, Reaches, here, behind_one, IsSettled}
use Rattle.rh_otp_system.specs.State.{SystemView}
use Rattle.rh_otp_orders.specs.Confluence.{Moves, none, one_more, EveryOrderEndsAlike}

abbrev pub IsOnlyMove : SystemView → SystemView → Type 0
IsOnlyMove s t = Delivers s t × ((v : SystemView) → Delivers s v → v ≡ t)

-- what it comes to where it is at rest comes of that move
pub behind_it : (s t p : SystemView) → IsOnlyMove s t → Reaches s p → IsSettled p → Reaches t p
behind_it _ t _ one (here s) at = absurd (at one.0.0 one.0.1)
behind_it _ t _ one (behind_one s q p first rest) at = subst (λ (x : SystemView). Reaches x p) (one.1 q first) rest

-- and so with as many moves less one
fewer : (n k : ℕ) (s t p q : SystemView) → IsOnlyMove s t → Moves n s p → IsSettled p → Moves k s q
    → ((n k : ℕ) → Moves n t p → Moves k t q → k ≤ n) → k ≤ n
fewer _ k _ t _ q one (none s) at other rest = absurd (at one.0.0 one.0.1)
fewer _ _ _ t _ _ one (one_more n s v p first run) at (none s') rest = omega arith
fewer _ _ _ t _ _ one (one_more n s v p first run) at (one_more k s' w q second other) rest =
    let less : k ≤ n = rest n k (subst (λ (x : SystemView). Moves n x p) (one.1 v first) run)
    (subst (λ (x : SystemView). Moves k x q) (one.1 w second) other) in
    omega (arith, less)

pub leads_alike : (s t : SystemView) → IsOnlyMove s t → EveryOrderEndsAlike t → EveryOrderEndsAlike s
leads_alike s t one every = record {
  alike = λ p q to_p at_p to_q at_q. every.alike p q (behind_it s t p one to_p at_p) at_p (behind_it s t q one to_q at_q) at_q;
  no_longer = λ n k p q run at other.
      fewer n k s t p q one run at other (λ i j run_i run_j. every.no_longer i j p q run_i at run_j);
}
