-- A command that ends alike, on systems that are alike: each settles by an order of its own, and both are alike behind it.
use Rattle.std.proofs.Common.{◌≡◌, ◌<◌, ◌≤◌, ◌⊎◌, ℕ, zero, suc, Bool, true, false, [], Option, Some, None, refl, sym, ◌∙◌, inl, inr, arith}
use Rattle.std.proofs.lemmas.Bool.{false≢true}
use Rattle.rh_otp_net.specs.declared.order.Order.{Order}
use Rattle.rh_otp_net.specs.Order.{next_order}
use Rattle.rh_otp_system.specs.declared.moves.Move.{Move}
use Rattle.rh_otp_system.specs.Moves.{made, next_move, moved_by, moved, is_quiet_by, is_quiet_behind, settled, is_settled_by, Delivers, Reaches, here, behind_one, IsSettled}
use Rattle.rh_otp_system.specs.State.{SystemView}
use Rattle.rh_otp_system.proofs.Moving.{settles}
use Rattle.rh_otp_laws.specs.Acting.{IsReached, later}
use Rattle.rh_otp_laws.specs.Acting.{settles as forgets_answers}
use Rattle.rh_otp_orders.specs.Orders.{AreAlike}
use Rattle.rh_otp_orders.specs.Confluence.{Moves, none, one_more, EveryOrderEndsAlike}
use Rattle.rh_otp_orders.proofs.Confluence.{alike_and_alike, reached_by, rest_is_alike}
use Rattle.rh_otp_orders.proofs.Moving.{go_alike, reached_order}
use Rattle.rh_otp_orders.proofs.Reaching.{alike_back, order_too}
use Rattle.rh_otp_commands.specs.Commands.{SettlesAlike, CommandsEndAlike}
use Rattle.rh_otp_commands.proofs.Alike.{alike_afresh}
use Rattle.rh_otp_commands.proofs.Possible.{possible}

-- ---- how many moves

-- all is quiet behind less than so many moves, or so many were made
abbrev Goes : ℕ → SystemView → SystemView → Bool → Type 0
Goes most s end quiet =
    ((k : ℕ) × (k < most) × Moves k s end × (quiet ≡ true)) ⊎ ((t : SystemView) × Moves most s t × (quiet ≡ false))

goes_by : (most : ℕ) (o : Order) (s : SystemView) (next : Option Move) → next_move o s ≡ next
    → ((t : SystemView) → Goes most t (moved most (next_order o) t) (is_quiet_behind most (next_order o) t))
    → Goes (suc most) s (moved_by (moved most (next_order o)) next s) (is_quiet_by (is_quiet_behind most (next_order o)) next s)
goes_by most o s None is rest = inl (0, omega arith, none s, refl)
goes_by most o s (Some m) is rest = by (rest (made m s))
  where
    one : Delivers s (made m s)
    one = (m, possible o s m is, refl)

    by : Goes most (made m s) (moved most (next_order o) (made m s)) (is_quiet_behind most (next_order o) (made m s))
        → Goes (suc most) s (moved most (next_order o) (made m s)) (is_quiet_behind most (next_order o) (made m s))
    by (inl (k, less, run, quiet)) = inl (suc k, omega (arith, less), one_more k s (made m s) _ one run, quiet)
    by (inr (t, run, busy)) = inr (t, one_more most s (made m s) t one run, busy)

goes : (most : ℕ) (o : Order) (s : SystemView) → Goes most s (moved most o s) (is_quiet_behind most o s)
goes zero o s = inr (s, none s, refl)
goes (suc most) o s = goes_by most o s (next_move o s) refl (goes most (next_order o))

-- ---- what the other makes can be made of the one

pub reaches_by : (n : ℕ) (s t : SystemView) → Moves n s t → Reaches s t
reaches_by _ _ _ (none s) = here s
reaches_by _ _ _ (one_more n s u t one rest) = behind_one s u t one (reaches_by n u t rest)

-- of the one so many moves make something that stands in this relation to what the other comes to, and is at rest where that is
pub record IsMadeToo (R : SystemView → SystemView → Type 0) (n : ℕ) (s t' : SystemView) : Type 0 where
  pub end : SystemView
  pub run : Moves n s end
  pub reached : IsReached end
  pub same : R end t'
  pub rest : IsSettled t' → IsSettled end

-- ---- both settle

abbrev pub afresh : SystemView → SystemView
afresh s = record s { answers = [] }

pub afresh_reached : (s : SystemView) → IsReached s → IsReached (afresh s)
afresh_reached s reached = later s (afresh s) reached (forgets_answers s)

-- both come to an end or neither does, and where they do they stand in this relation
abbrev pub Both : (SystemView → SystemView → Type 0) → Bool → Bool → SystemView → SystemView → Type 0
Both R p q u v = (p ≡ q) × (p ≡ true → R u v)

-- what is alike to the one stands in the relation, too
abbrev pub Joins : (SystemView → SystemView → Type 0) → Type 0
Joins R = (u v w : SystemView) → AreAlike u v → R v w → R u w

both_end : (R : SystemView → SystemView → Type 0) → Joins R → (s t : SystemView) (most : ℕ) (u v : SystemView) (p q : Bool)
    → EveryOrderEndsAlike s → ((n : ℕ) (t' : SystemView) → Moves n t t' → IsMadeToo R n s t') → (p ≡ true → IsSettled u)
    → (q ≡ true → IsSettled v) → Goes most s u p → Goes most t v q → Both R p q u v
both_end R joins s t most u v p q every made_too at_u at_v (inl (k, less, run, quiet)) (inl (j, fewer, other, quiet_too)) =
    let too : IsMadeToo R j s v = made_too j v other in (
      quiet ∙ sym quiet_too,
      λ is. joins u too.end v
          (every.alike u too.end (reaches_by k s u run) (at_u quiet) (reaches_by j s too.end too.run) (too.rest (at_v quiet_too))) too.same,
    )
both_end R joins s t most u v p q every made_too at_u at_v (inl (k, less, run, quiet)) (inr (w, other, busy)) =
    let too : IsMadeToo R most s w = made_too most w other in
    let no_more : most ≤ k = every.no_longer k most u too.end run (at_u quiet) too.run in
    absurd (omega (arith, less, no_more))
both_end R joins s t most u v p q every made_too at_u at_v (inr (w, run, busy)) (inl (j, fewer, other, quiet)) =
    let too : IsMadeToo R j s v = made_too j v other in
    let no_more : most ≤ j = every.no_longer j most too.end w too.run (too.rest (at_v quiet)) run in
    absurd (omega (arith, fewer, no_more))
both_end R joins s t most u v p q every made_too at_u at_v (inr (w, run, busy)) (inr (x, other, busy_too)) =
    (busy ∙ sym busy_too, λ is. absurd (false≢true (sym busy ∙ is)))

-- each by an order of its own, where all that the other makes can be made of the one
pub both_settle : (R : SystemView → SystemView → Type 0) → Joins R → (s t : SystemView) (most : ℕ) (one other : Order) → SettlesAlike s
    → ((n : ℕ) (t' : SystemView) → Moves n (afresh t) t' → IsMadeToo R n (afresh s) t')
    → Both R (is_settled_by most one s) (is_settled_by most other t) (settled most one s) (settled most other t)
both_settle R joins s t most one other every made_too =
    both_end R joins (afresh s) (afresh t) most (settled most one s) (settled most other t) (is_settled_by most one s)
    (is_settled_by most other t)
    every made_too (settles most one s).1 (settles most other t).1 (goes most one (afresh s)) (goes most other (afresh t))

-- ---- where both are alike

made_too : (n : ℕ) (s s' t' : SystemView) → AreAlike s s' → IsReached s → Moves n s' t' → IsMadeToo AreAlike n s t'
made_too _ s _ _ same reached (none s') =
    record { end = s; run = none s; reached = reached; same = same; rest = rest_is_alike s' s (alike_back s s' same) reached }
made_too _ s _ _ same reached (one_more n s' u' t' one rest) =
    let first : (u : SystemView) × Delivers s u × AreAlike u' u =
    go_alike s' s u' (alike_back s s' same) (order_too s s' same (reached_order s reached)) one in
    let more : IsMadeToo AreAlike n first.0 t' =
    made_too n first.0 u' t' (alike_back u' first.0 first.2) (reached_by s first.0 first.1 reached) rest in
    record {
      end = more.end;
      run = one_more n s first.0 more.end first.1 more.run;
      reached = more.reached;
      same = more.same;
      rest = more.rest;
    }

pub end_alike : CommandsEndAlike
end_alike s t most one other reached same every =
    both_settle AreAlike alike_and_alike s t most one other every
    (λ n t' run. made_too n (afresh s) (afresh t) t' (alike_afresh s t same) (afresh_reached s reached) run)
