-- Where one move alone is possible each time, until none is, there is one order alone.
use Rattle.std.proofs.Common.{◌≡◌, ◌≤◌, ℕ, zero, suc, refl, sym, ap, subst, arith}
use Rattle.rh_otp_system.specs.Moves.{Delivers, Reaches, here, behind_one, IsSettled}
use Rattle.rh_otp_system.specs.State.{SystemView}
use Rattle.rh_otp_orders.specs.Confluence.{Moves, none, one_more, EveryOrderEndsAlike}
use Rattle.rh_otp_orders.specs.Orders.{AreAlike}
use Rattle.rh_otp_orders.proofs.Confluence.{alike_itself}

-- so many moves, each the only one, lead from the one to the other, which is at rest
pub data OneWay : ℕ → SystemView → SystemView → Type 0 where
  rests : (s : SystemView) → IsSettled s → OneWay zero s s
  goes : (n : ℕ) (s t u : SystemView) → Delivers s t → ((v : SystemView) → Delivers s v → v ≡ t) → OneWay n t u → OneWay (suc n) s u

-- no run is longer, and one that is at rest is at its end
on_its_way : (n k : ℕ) (s u v : SystemView) → OneWay n s u → Moves k s v → (k ≤ n) × (IsSettled v → (v ≡ u) × (k ≡ n))
on_its_way _ _ _ _ _ (rests s at) (none s') = (omega arith, λ settled. (refl, refl))
on_its_way _ _ _ _ _ (rests s at) (one_more k s' q v first rest) = absurd (at first.0 first.1)
on_its_way _ _ _ _ _ (goes n s t u one only more) (none s') = (omega arith, λ settled. absurd (settled one.0 one.1))
on_its_way _ _ _ _ v (goes n s t u one only more) (one_more k s' q v' first rest) =
    let so : (k ≤ n) × (IsSettled v → (v ≡ u) × (k ≡ n)) =
    on_its_way n k t u v more (subst (λ (x : SystemView). Moves k x v) (only q first) rest) in
    let fewer : k ≤ n = so.0 in
    (omega (arith, fewer), λ settled. ((so.1 settled).0, ap suc (so.1 settled).1))

count_moves : (s t : SystemView) → Reaches s t → (n : ℕ) × Moves n s t
count_moves _ _ (here s) = (0, none s)
count_moves _ _ (behind_one s t u one rest) =
    let more : (n : ℕ) × Moves n t u = count_moves t u rest in (suc more.0, one_more more.0 s t u one more.1)

pub one_way_alike : (n : ℕ) (s u : SystemView) → OneWay n s u → EveryOrderEndsAlike s
one_way_alike n s u way = record {
  alike = λ t v to_t at_t to_v at_v.
      let one : t ≡ u = (at_end t to_t at_t) in
      let other : v ≡ u = (at_end v to_v at_v) in
      subst (λ (x : SystemView). AreAlike x v) (sym one) (subst (AreAlike u) (sym other) (alike_itself u));
  no_longer = λ m k t v run at other.
      let all : m ≡ n = ((on_its_way n m s u t way run).1 at).1 in
      let within : k ≤ n = (on_its_way n k s u v way other).0 in
      omega (arith, all, within);
}
  where
    at_end : (t : SystemView) → Reaches s t → IsSettled t → t ≡ u
    at_end t to_t at =
        let run : (k : ℕ) × Moves k s t = count_moves s t to_t in ((on_its_way n run.0 s u t way run.1).1 at).0

-- where nothing moves there is nothing that could end otherwise
pub rest_ends_alike : (s : SystemView) → IsSettled s → EveryOrderEndsAlike s
rest_ends_alike s at = one_way_alike 0 s s (rests s at)
