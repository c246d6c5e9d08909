-- What is alike to a system that ends alike ends alike, too.
use Rattle.std.proofs.Common.{ℕ}
use Rattle.rh_otp_system.specs.Moves.{IsSettled}
use Rattle.rh_otp_system.specs.State.{SystemView}
use Rattle.rh_otp_laws.specs.Acting.{IsReached}
use Rattle.rh_otp_orders.specs.Confluence.{Moves, EveryOrderEndsAlike}
use Rattle.rh_otp_orders.specs.Orders.{AreAlike}
use Rattle.rh_otp_orders.proofs.Confluence.{counted, alike_and_alike, alike_moves, reached_on, rest_is_alike}
use Rattle.rh_otp_orders.proofs.Reaching.{alike_back}
use Rattle.rh_otp_commands.proofs.Settling.{reaches_by}

-- as many moves of the one lead to what is alike, and is at rest where that is
record IsMadeOf (n : ℕ) (s t' : SystemView) : Type 0 where
  end : SystemView
  run : Moves n s end
  same : AreAlike t' end
  rest : IsSettled t' → IsSettled end

made_of : (n : ℕ) (s s' t' : SystemView) → AreAlike s s' → IsReached s → IsReached s' → Moves n s' t' → IsMadeOf n s t'
made_of n s s' t' same reached reached' run =
    let so : (t : SystemView) × Moves n s t × AreAlike t' t = alike_moves n s' s t' (alike_back s s' same) reached' run in
    record {
      end = so.0;
      run = so.1;
      same = so.2;
      rest = λ at. rest_is_alike t' so.0 so.2 (reached_on n s so.0 so.1 reached) at;
    }

pub every_too : (s s' : SystemView) → AreAlike s s' → IsReached s → IsReached s' → EveryOrderEndsAlike s → EveryOrderEndsAlike s'
every_too s s' same reached reached' every = record {
  alike = λ t' u' to_t at_t to_u at_u.
      let one : (n : ℕ) × Moves n s' t' = counted s' t' to_t in
      let other : (k : ℕ) × Moves k s' u' = counted s' u' to_u in
      let t : IsMadeOf one.0 s t' = made_of one.0 s s' t' same reached reached' one.1 in
      let u : IsMadeOf other.0 s u' = made_of other.0 s s' u' same reached reached' other.1 in
      alike_and_alike t' t.end u' t.same
      (alike_and_alike t.end u.end u'
      (every.alike t.end u.end (reaches_by one.0 s t.end t.run) (t.rest at_t) (reaches_by other.0 s u.end u.run) (u.rest at_u))
      (alike_back u' u.end u.same));
  no_longer = λ n k t' u' run at other.
      let t : IsMadeOf n s t' = made_of n s s' t' same reached reached' run in
      let u : IsMadeOf k s u' = made_of k s s' u' same reached reached' other in
      every.no_longer n k t.end u.end t.run (t.rest at) u.run;
}
