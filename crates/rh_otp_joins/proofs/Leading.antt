-- What ends alike behind a state to which every order leads ends alike.
use Rattle.std.proofs.Common.{◌≡◌, ◌≤◌, ◌⊎◌, ◌+◌, ℕ, zero, suc, inl, inr, subst, arith}
use Rattle.rh_otp_system.specs.Moves.{Delivers, Reaches, here, behind_one, IsSettled}
use Rattle.rh_otp_system.specs.State.{SystemView}
use Rattle.rh_otp_laws.specs.Acting.{IsReached}
use Rattle.rh_otp_orders.specs.Confluence.{Moves, none, one_more}
use Rattle.rh_otp_orders.specs.Orders.{AreAlike}
use Rattle.rh_otp_orders.proofs.Confluence.{alike_and_alike, reached_by, alike_moves, reached_on}
use Rattle.rh_otp_orders.proofs.Moving.{reached_order, go_alike, move_alike}
use Rattle.rh_otp_orders.proofs.Reaching.{alike_back, order_too, settled_too, reach_alike}
use Rattle.rh_otp_joins.specs.Leading.{LeadsTo, WhatLeadsThereEndsAlike, LeadsOn}

-- a state alike to the one leads to the same
pub leads_alike : (n : ℕ) (s s' t : SystemView) → IsReached s' → AreAlike s s' → LeadsTo n s t → LeadsTo n s' t
leads_alike zero s s' t reached same leads = alike_and_alike s' s t (alike_back s s' same) leads
leads_alike (suc n) s s' t reached same leads =
    let back : AreAlike s' s = alike_back s s' same in
    let first : (u : SystemView) × Delivers s' u × AreAlike leads.0.0 u =
    go_alike s s' leads.0.0 same (order_too s' s back (reached_order s' reached)) leads.0.1 in (
      (first.0, first.1),
      λ u' one.
          let on : (u : SystemView) × Delivers s u × AreAlike u' u = move_alike s' s u' back reached one in
          leads_alike n on.0 u' t (reached_by s' u' one reached) (alike_back u' on.0 on.2) (leads.1 on.0 on.1),
    )

-- it comes to something that comes of the second one, too
abbrev EndsBehind : SystemView → SystemView → Type 0
EndsBehind t v = (w : SystemView) × Reaches t w × AreAlike v w × IsSettled w

ends_behind : (n : ℕ) (s t v : SystemView) → IsReached s → LeadsTo n s t → Reaches s v → IsSettled v → EndsBehind t v
ends_behind zero s t v reached leads runs rest =
    let there : (w : SystemView) × Reaches t w × AreAlike v w × (IsSettled v → IsSettled w) = reach_alike s t v leads reached runs in
    (there.0, there.1, there.2, there.3 rest)
ends_behind (suc n) _ t _ reached leads (here s) rest = absurd (rest leads.0.1.0 leads.0.1.1)
ends_behind (suc n) _ t _ reached leads (behind_one s u v one more) rest =
    ends_behind n u t v (reached_by s u one reached) (leads.1 u one) more rest

-- with so many moves more
record RestsBehind (n k : ℕ) (t v : SystemView) : Type 0 where
  count : ℕ
  many : k ≡ n + count
  end : SystemView
  run : Moves count t end
  rest : IsSettled end

rests_behind : (n k : ℕ) (s t v : SystemView) → IsReached s → LeadsTo n s t → Moves k s v → IsSettled v → RestsBehind n k t v
rests_behind zero k s t v reached leads run rest =
    let there : (w : SystemView) × Moves k t w × AreAlike v w = alike_moves k s t v leads reached run in
    let at_rest : IsSettled there.0 = settled_too v there.0 there.2 (reached_order v (reached_on k s v run reached)) rest in
    record { count = k; many = omega arith; end = there.0; run = there.1; rest = at_rest }
rests_behind (suc n) _ _ t _ reached leads (none s) rest = absurd (rest leads.0.1.0 leads.0.1.1)
rests_behind (suc n) _ _ t _ reached leads (one_more k s u v one run) rest =
    let more : RestsBehind n k t v = rests_behind n k u t v (reached_by s u one reached) (leads.1 u one) run rest in
    let many : k ≡ n + more.count = more.many in
    record { count = more.count; many = omega (arith, many); end = more.end; run = more.run; rest = more.rest }

-- it is no longer than that, or goes on behind it
abbrev GoesBehind : ℕ → ℕ → SystemView → Type 0
GoesBehind n k t = (k ≤ n) ⊎ ((count : ℕ) × (k ≡ n + count) × (end : SystemView) × Moves count t end)

goes_behind : (n k : ℕ) (s t v : SystemView) → IsReached s → LeadsTo n s t → Moves k s v → GoesBehind n k t
goes_behind zero k s t v reached leads run =
    let there : (w : SystemView) × Moves k t w × AreAlike v w = alike_moves k s t v leads reached run in
    inr (k, omega arith, there.0, there.1)
goes_behind (suc n) _ _ t _ reached leads (none s) = inl (omega arith)
goes_behind (suc n) _ _ t _ reached leads (one_more k s u v one run) =
    by (goes_behind n k u t v (reached_by s u one reached) (leads.1 u one) run)
  where
    by : GoesBehind n k t → GoesBehind (suc n) (suc k) t
    by (inl less) = inl (omega (arith, less))
    by (inr (count, many, end, more)) = inr (count, omega (arith, many), end, more)

-- what it leads to is reached
pub leads_reached : (n : ℕ) (s t : SystemView) → IsReached s → LeadsTo n s t → (u : SystemView) × IsReached u × Reaches s u × AreAlike u t
leads_reached zero s t reached leads = (s, reached, here s, leads)
leads_reached (suc n) s t reached leads =
    let u : SystemView = leads.0.0 in
    let more : (w : SystemView) × IsReached w × Reaches u w × AreAlike w t =
    leads_reached n u t (reached_by s u leads.0.1 reached) (leads.1 u leads.0.1) in
    (more.0, more.1, behind_one s u more.0 leads.0.1 more.2, more.3)

pub leads_on : LeadsOn
leads_on zero k s t u reached leads on =
    subst (λ (j : ℕ). LeadsTo j s u) (let many : k ≡ 0 + k = omega arith in many)
    (leads_alike k t s u reached (alike_back s t leads) on)
leads_on (suc n) k s t u reached leads on =
    subst (λ (j : ℕ). LeadsTo j s u) (let many : suc (n + k) ≡ suc n + k = omega arith in many)
    (leads.0, λ v one. leads_on n k v t u (reached_by s v one reached) (leads.1 v one) on)

pub ends_alike : WhatLeadsThereEndsAlike
ends_alike n s t reached leads ends = record {
  alike = λ v w to_v at_v to_w at_w.
      let one : EndsBehind t v = ends_behind n s t v reached leads to_v at_v in
      let other : EndsBehind t w = ends_behind n s t w reached leads to_w at_w in
      alike_and_alike v one.0 w one.2
      (alike_and_alike one.0 other.0 w (ends.alike one.0 other.0 one.1 one.3 other.1 other.3) (alike_back w other.0 other.2));
  no_longer = λ m k v w run at other. bound m k v w run at other;
}
  where
    bound : (m k : ℕ) (v w : SystemView) → Moves m s v → IsSettled v → Moves k s w → k ≤ m
    bound m k v w run at other =
        let rests : RestsBehind n m t v = rests_behind n m s t v reached leads run at in
        by rests (goes_behind n k s t w reached leads other)
      where
        by : RestsBehind n m t v → GoesBehind n k t → k ≤ m
        by rests (inl less) = let many : m ≡ n + rests.count = rests.many in omega (arith, less, many)
        by rests (inr (count, many_k, end, more)) =
            let many : m ≡ n + rests.count = rests.many in
            let less : count ≤ rests.count = ends.no_longer rests.count count rests.end end rests.run rests.rest more in
            omega (arith, many_k, many, less)
