-- Timers that are left over: they fire, and soon nothing moves any more, and all is as it was.
use Rattle.std.proofs.Common.{◌≡◌, ◌<◌, ◌++◌, ℕ, zero, suc, true, List, [], ◌∷◌, length, map, Option, Some, None, refl, sym, ap, subst, ◌∙◌, arith}
use Rattle.std.specs.Prelude.{All}
use Rattle.std.proofs.lemmas.List.{length-map}
use Rattle.rh_otp_model.specs.declared.output.Envelope.{Envelope}
use Rattle.rh_otp_net.specs.declared.order.Order.{Order}
use Rattle.rh_otp_net.specs.Order.{place_in, next_order}
use Rattle.rh_otp_net.specs.Timers as timers
use Rattle.rh_otp_system.specs.declared.moves.Move.{Move}
use Rattle.rh_otp_system.specs.declared.moves.Move.TheVariants as move
use Rattle.rh_otp_system.specs.Doing.{fired_next}
use Rattle.rh_otp_system.specs.Moves.{IsSettled, Reaches, here, made, next_move, settled, is_quiet_behind, is_settled_by}
use Rattle.rh_otp_system.specs.State.{SystemView}
use Rattle.rh_otp_system.proofs.Moving.{settles}
use Rattle.rh_otp_laws.specs.Time.{message_of}
use Rattle.rh_otp_laws.proofs.Hanging.{settled_stays_so}
use Rattle.rh_otp_laws.proofs.Time.{due_fire}
use Rattle.rh_otp_commands.proofs.Possible.{possible}
use Rattle.rh_otp_crashes.proofs.Peace.{without}
use Rattle.rh_otp_ticks.specs.LeftOver.{AreLeftOver, behind_timers}
use Rattle.rh_otp_ticks.proofs.Firing.{all_mute}
use Rattle.rh_otp_ticks.proofs.Muting.{IsMute, OneLess, one_less, ends_so}
use Rattle.rh_otp_ticks.proofs.Timely.{at_time, settled_in_time}
use Rattle.rh_agreement.proofs.Resting.{quiet_so}

-- where nothing can move nothing moves next
pub none_next : (o : Order) (s : SystemView) → IsSettled s → next_move o s ≡ None
none_next o s at = by (next_move o s) refl
  where
    by : (x : Option Move) → next_move o s ≡ x → next_move o s ≡ None
    by None is = is
    by (Some m) is = absurd (at m (possible o s m is))

-- where only messages are left that change nothing it is soon quiet
quiet_soon : (u : SystemView) → IsSettled (without u []) → (k : ℕ) (o : Order) (l : List Envelope) → All (IsMute u) l → length l < k
    → is_quiet_behind k o (without u l) ≡ true
quiet_soon u calm zero o l mute few = absurd (omega (arith, few))
quiet_soon u calm (suc k) o [] mute few = quiet_so k o (without u []) (none_next o (without u []) calm)
quiet_soon u calm (suc k) o (e ∷ l) mute few =
    let place : ℕ = place_in o (length (e ∷ l)) in
    let there : place < length (e ∷ l) = possible o (without u (e ∷ l)) (move.Deliver place) refl in
    let t : SystemView = made (move.Deliver place) (without u (e ∷ l)) in
    let less : OneLess u (e ∷ l) t = one_less u (e ∷ l) t calm mute (move.Deliver place, there, refl) in
    let fewer : length (e ∷ l) ≡ suc (length less.left) = less.fewer in
    subst (λ (x : SystemView). is_quiet_behind k (next_order o) x ≡ true) (sym less.is)
    (quiet_soon u calm k (next_order o) less.left less.mute (omega (arith, few, fewer)))

module _ (s : SystemView) (at : IsSettled s) (rows : AreLeftOver s) (most : ℕ) (o : Order)
    (few : length (timers.fired s.timers) < most) where
  abbrev u : SystemView
  u = at_time rows.due (timers.left s.timers) [] s

  abbrev sends : List Envelope
  sends = map message_of (timers.fired s.timers)

  empty : s.messages ≡ []
  empty = (settled_stays_so s s at (here s)).0.0

  fires_so : record (fired_next rows.due s) { answers = [] } ≡ without u sends
  fires_so =
      ap (λ (x : SystemView). record x { answers = [] }) (due_fire s rows.due) ∙ (λ i. without u (empty i ++ sends))

  calm : IsSettled (without u [])
  calm =
      subst (λ (l : List Envelope). IsSettled (without u l)) empty (settled_in_time rows.due (timers.left s.timers) [] s at)

  mute : All (IsMute u) sends
  mute = all_mute rows.due (timers.left s.timers) [] s (timers.fired s.timers) rows.all

  sends_few : length sends < most
  sends_few = subst (λ (k : ℕ). k < most) (sym (length-map (timers.fired s.timers) message_of)) few

  pub quiet : is_settled_by most o (fired_next rows.due s) ≡ true
  quiet = ap (is_quiet_behind most o) fires_so ∙ quiet_soon u calm most o sends mute sends_few

  abbrev pub then : SystemView
  then = record (behind_timers rows.due s) { answers = [] }

  ends : settled most o (fired_next rows.due s) ≡ without u []
  ends =
      ends_so u sends (settled most o (fired_next rows.due s)) calm mute
      (subst (λ (x : SystemView). Reaches x (settled most o (fired_next rows.due s))) fires_so
      (settles most o (fired_next rows.due s)).0)
      ((settles most o (fired_next rows.due s)).1 quiet)

  pub leads : settled most o (fired_next rows.due s) ≡ then
  leads = ends ∙ (λ i. without u (sym empty i))

  pub at_rest : IsSettled then
  at_rest = settled_in_time rows.due (timers.left s.timers) [] s at
