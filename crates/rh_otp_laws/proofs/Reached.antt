-- What each thing that happens keeps holds of all that live nodes reach.
use Rattle.std.proofs.Common.{◌≡◌, ◌≤◌, ◌⊎◌, ℕ, Bool, List, [], false, Option, Some, None, unwrap_or, refl, sym, ap, ◌∙◌, inl, inr}
use Rattle.rh_model.specs.ClusterView.{numbered}
use Rattle.rh_model.specs.declared.node.Node.{Node}
use Rattle.rh_otp_model.specs.declared.output.Envelope.{Envelope}
use Rattle.rh_otp_net.specs.Timers.{next_due}
use Rattle.rh_otp_node.specs.Live.{LiveView, never_begun, is_alive}
use Rattle.rh_otp_system.specs.State.{SystemView, live_at, is_alive_at}
use Rattle.rh_otp_system.specs.Doing.{begun_at, fired_next}
use Rattle.rh_otp_system.specs.Resting.{rested, forgotten}
use Rattle.rh_otp_laws.specs.Acting.{Acts, moves, begins, crashes, calls, IsNoneDueBefore, Happens, acts, fires, passes, ticks, settles, rests, forgets, takes_up, taken_up, IsNew, IsReached, new, later}
use Rattle.rh_otp_laws.proofs.Turn.{Turn}
use Rattle.rh_otp_laws.proofs.Beginning.{boots, calls_on}
use Rattle.rh_otp_laws.proofs.Moving.{ends, left_by, made_by_turn}

-- it stays where messages alone are taken out, where a node begins, and in any turn
pub record Stays (P : SystemView → Type 0) : Type 0 where
  pub less : (s : SystemView) (messages : List Envelope) → P s → P (record s { messages = messages })
  pub begun : (s : SystemView) (n : Node) (v : LiveView) → live_at s n ≡ Some v → is_alive_at s n ≡ false → P s → P (begun_at n s)
  pub turn : (n : Node) (s t : SystemView) → Turn n s t → P s → P t

pub acts_keep : (P : SystemView → Type 0) → Stays P → (s t : SystemView) → Acts s t → P s → P t
acts_keep P stays _ _ (moves s next possible) p =
    stays.turn _ _ _ (made_by_turn (numbered 0) next s) (stays.less s (left_by next s) p)
acts_keep P stays _ _ (begins s n there down) p =
    stays.turn n _ _ (boots s n there.0 there.1) (stays.begun s n there.0 there.1 down p)
acts_keep P stays _ _ (crashes s n) p = stays.turn n _ _ (ends n s) p
acts_keep P stays _ _ (calls s a n app) p = stays.turn n _ _ (calls_on n a n app s) p

-- between commands all that this law is about is as it was
pub record IsNoted (s t : SystemView) : Type 0 where
  pub nodes : (n : Node) → is_alive_at t n ≡ is_alive_at s n
  pub alive : t.alive ≡ s.alive
  pub locks : t.locks ≡ s.locks
  pub timers : t.timers ≡ s.timers
  pub clock : t.clock ≡ s.clock

pub rested_noted : (s : SystemView) → IsNoted s (rested s)
unfolding rested
rested_noted s = record { nodes = λ n. refl; alive = refl; locks = refl; timers = refl; clock = refl }

pub forgotten_noted : (s : SystemView) → IsNoted s (forgotten s)
unfolding forgotten
forgotten_noted s = record { nodes = λ n. refl; alive = refl; locks = refl; timers = refl; clock = refl }

abbrev pub alive_in : Option LiveView → Bool
alive_in o = is_alive (unwrap_or o never_begun)

-- whoever is taken up is alive as before
taken_up_alive : (s t : SystemView) (n : Node) → (live_at t n ≡ live_at s n) ⊎ ((live_at t n ≡ None) × (is_alive_at s n ≡ false))
    → is_alive_at t n ≡ is_alive_at s n
taken_up_alive s t n (inl as_it_was) = ap alive_in as_it_was
taken_up_alive s t n (inr none) = ap alive_in none.0 ∙ sym none.1

-- it holds where no node has begun, and stays through all that happens
pub record StaysAlways (P : SystemView → Type 0) : Type 0 where
  pub first : (s : SystemView) → IsNew s → P s
  pub stays : Stays P
  pub noted : (s t : SystemView) → IsNoted s t → P s → P t
  pub fired : (s : SystemView) (due step : ℕ) → next_due s.timers ≡ Some (due, step) → P s → P (fired_next due s)
  pub passed : (s : SystemView) (time : ℕ) → s.clock ≤ time → IsNoneDueBefore time s.timers → P s → P (record s { clock = time })

happens_keep : (P : SystemView → Type 0) → StaysAlways P → (s t : SystemView) → Happens s t → P s → P t
happens_keep P always _ _ (acts s t one) p = acts_keep P always.stays s t one p
happens_keep P always _ _ (fires s due step next) p = always.fired s due step next p
happens_keep P always _ _ (passes s time on none) p = always.passed s time on none p
happens_keep P always _ _ (ticks s ticking) p =
    always.noted s (record s { is_ticking = ticking }) (record { nodes = λ n. refl; alive = refl; locks = refl; timers = refl; clock = refl }) p
happens_keep P always _ _ (settles s) p =
    always.noted s (record s { answers = [] }) (record { nodes = λ n. refl; alive = refl; locks = refl; timers = refl; clock = refl }) p
happens_keep P always _ _ (rests s) p = always.noted s (rested s) (rested_noted s) p
happens_keep P always _ _ (forgets s) p = always.noted s (forgotten s) (forgotten_noted s) p
happens_keep P always _ _ (takes_up s cells told ends_soon quiet same) p =
    always.noted s (taken_up s cells told ends_soon)
    (record { nodes = λ n. taken_up_alive s (taken_up s cells told ends_soon) n (same n); alive = refl; locks = refl; timers = refl; clock = refl }) p

pub holds_always : (P : SystemView → Type 0) → StaysAlways P → (s : SystemView) → IsReached s → P s
holds_always P always _ (new s is) = always.first s is
holds_always P always _ (later s t before one) = happens_keep P always s t one (holds_always P always s before)
