-- A failover underway goes on until nothing moves, which is soon; then each dist_ac does nothing, and the start alone was seen.
use Rattle.std.proofs.Common.{◌≡◌, ◌<◌, ◌≤◌, ℕ, zero, suc, Bool, true, false, List, [], ◌∷◌, length, Option, Some, None, refl, sym, ap, subst, ◌∙◌, inl, inr, arith}
use Rattle.std.specs.Prelude.{All}
use Rattle.std.proofs.lemmas.Bool.{cases_eq}
use Rattle.std.proofs.lemmas.List.Elements.{All-nil}
use Rattle.rh_model.specs.declared.node.App.{App}
use Rattle.rh_model.specs.declared.node.Node.{Node}
use Rattle.rh_otp_model.specs.declared.output.Envelope.{Envelope}
use Rattle.rh_otp_dist.specs.State.{DistView}
use Rattle.rh_otp_net.specs.declared.order.Order.{Order}
use Rattle.rh_otp_net.specs.declared.order.Order.TheVariants.{FirstComes, LastComes, Drawn}
use Rattle.rh_otp_net.specs.Order.{place_in, next_order}
use Rattle.rh_otp_system.specs.declared.moves.Move.{Move}
use Rattle.rh_otp_system.specs.declared.moves.Move.TheVariants as move
use Rattle.rh_otp_system.specs.declared.slow.Slow.{Slow}
use Rattle.rh_otp_system.specs.Moves.{Delivers, Reaches, here, behind_one, quiet_move, slow_or_more, message_or_more, made, is_quiet_by, is_quiet_behind}
use Rattle.rh_otp_system.specs.State.{SystemView, node_at, is_alive_at}
use Rattle.rh_otp_crashes.specs.Crashes.{IsUnoccupied}
use Rattle.rh_otp_crashes.proofs.News.{IsNews}
use Rattle.rh_otp_crashes.proofs.Peace.{Delivered, only_messages, no_lock_at}
use Rattle.rh_otp_crashes.proofs.Waiting.{Behaves}
use Rattle.rh_agreement.proofs.Resting.{none_goes_on}
use Rattle.rh_agreement_spread.proofs.Summing.{sum_of}
use Rattle.rh_agreement_failovers.proofs.Coming.{comes_on}
use Rattle.rh_agreement_failovers.proofs.Costs.{cost, count, is_news_for}
use Rattle.rh_agreement_failovers.proofs.Following.{Follows, ComesOn, IsToldOf}
use Rattle.rh_agreement_failovers.proofs.Hearing.{safe_is_free}
use Rattle.rh_agreement_failovers.proofs.Starting.{CanStartIt}
use Rattle.rh_agreement_failovers.proofs.Starting as starting

none_and_one : (k : ℕ) → k ≡ 0 → k ≡ 1 → ⊥
none_and_one k none one = omega (arith, none, one)

-- the place that an order takes is one of these
place_within : (order : Order) (many : ℕ) → 0 < many → place_in order many < many
place_within FirstComes many some = some
place_within LastComes many some = omega arith
place_within (Drawn number) many some = omega (arith, some)

module _ (lives : Node → ℕ) (n : Node) (a : App) (most : ℕ) (base : SystemView) (can : CanStartIt lives n a base)
    (alive_there : is_alive_at base n ≡ true) (few : length (starting.d lives n a base can).known ≤ most) where
  abbrev FollowsHere : SystemView → Type 0
  FollowsHere = Follows lives n a most base can

  -- ---- moves

  pub come : (s t : SystemView) → FollowsHere s → Delivers s t → ComesOn lives n a most base can s t
  come s t f one =
      let d : Delivered (Behaves n a) (IsNews lives n a) lives s t = only_messages s t f.still.peace one in
      subst (ComesOn lives n a most base can s) (sym d.is)
      (comes_on lives n a most base can alive_there few s d.message d.left f d.taken d.kind)

  pub follow_on : (s t : SystemView) → Reaches s t → FollowsHere s → FollowsHere t
  follow_on _ _ (here s) f = f
  follow_on _ _ (behind_one s t u one rest) f = follow_on t u rest (come s t f one).then

  -- where no message is on its way nothing can move
  nothing_next : (s : SystemView) → FollowsHere s → quiet_move s ≡ None
  nothing_next s f =
      none_goes_on s f.still.peace.calls
      (λ k among. no_lock_at k s (node_at s k).dist
      (λ d has. f.still.peace.calm.free k d (f.still.peace.dists k d (f.still.peace.listed k among) has)))
      (λ k among. f.still.peace.ends k (f.still.peace.listed k among))

  -- ---- until nothing moves

  pub quiet_soon : (k : ℕ) (order : Order) (s : SystemView) → FollowsHere s → sum_of (cost most n) s.messages < k
      → is_quiet_behind k order s ≡ true
  quiet_soon zero order s f within = absurd (omega (arith, within))
  quiet_soon (suc k) order s f within = by s.messages refl (λ t. quiet_soon k (next_order order) t)
    where
      go_on : SystemView → Bool
      go_on = is_quiet_behind k (next_order order)

      by : (messages : List Envelope) → s.messages ≡ messages
          → ((t : SystemView) → FollowsHere t → sum_of (cost most n) t.messages < k → go_on t ≡ true)
          → is_quiet_by go_on (message_or_more order messages s) s ≡ true
      by [] none rest =
          ap (λ (slow : List Slow). is_quiet_by go_on (slow_or_more order slow s) s) f.still.peace.slow
          ∙ ap (λ (next : Option Move). is_quiet_by go_on next s) (nothing_next s f)
      by (e ∷ messages) is rest =
          let place : ℕ = place_in order (length (e ∷ messages)) in
          let there : place < length s.messages =
          subst (λ (l : List Envelope). place < length l) (sym is) (place_within order (length (e ∷ messages)) (omega arith)) in
          let t : SystemView = made (move.Deliver place) s in
          let x : ComesOn lives n a most base can s t = come s t f (move.Deliver place, there, refl) in
          let less : sum_of (cost most n) t.messages < sum_of (cost most n) s.messages = x.less in
          rest t x.then (omega (arith, less, within))

  -- ---- where nothing moves

  module _ (s : SystemView) (f : FollowsHere s) (none : s.messages ≡ []) where
    all_told : IsToldOf lives n a most base can s
    all_told = elim f.far [
      | inl p ↦ absurd (none_and_one (count n s.messages) (ap (count n) none) p.one)
      | inr o ↦ o
    ]

    pub seen_so : s.events ≡ starting.start_seen lives n a base can
    seen_so = all_told.events

    pub all_free : (k : Node) (d : DistView) → is_alive_at s k ≡ true → (node_at s k).dist ≡ Some d → IsUnoccupied d
    all_free k d up has = elim (cases_eq k.0 n.0) [
      | inl same ↦ elim (f.still.peace.dists k d up has) [
        | inl free ↦ free
        | inr waits ↦ absurd (waits.0 same)
      ]
      | inr apart ↦ safe_is_free k a s
          (all_told.served k apart up
          (subst (All (λ (e : Envelope). is_news_for k e ≡ false)) (sym none) (All-nil (λ (e : Envelope). is_news_for k e ≡ false)))) d has
    ]
