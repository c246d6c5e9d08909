-- Where nodes only hear of one another while they wait any two moves meet again.
use Rattle.std.proofs.Common.{◌≡◌, ◌⊎◌, ◌<◌, ◌&&◌, ℕ, Bool, true, false, List, [], ◌∷◌, length, refl, sym, ap, subst, ◌∙◌, inl, inr, arith}
use Rattle.std.proofs.lemmas.Bool.{cases_order, false≢true}
use Rattle.rh_model.specs.declared.node.Node.{Node}
use Rattle.rh_otp_model.specs.declared.output.Envelope.{Envelope}
use Rattle.rh_otp_net.specs.Queue.{is_of_pair}
use Rattle.rh_otp_system.specs.declared.moves.Move.TheVariants as move
use Rattle.rh_otp_system.specs.declared.slow.Answered.{Answered}
use Rattle.rh_otp_system.specs.declared.slow.Slow.{Slow}
use Rattle.rh_otp_system.specs.Moves.{Delivers, Reaches, here, behind_one}
use Rattle.rh_otp_system.specs.State.{SystemView}
use Rattle.rh_otp_system.specs.Working.{pair_of, answer_count}
use Rattle.rh_otp_laws.proofs.Order.{pair_itself}
use Rattle.rh_otp_orders.specs.Confluence.{Meet, IsOrderly}
use Rattle.rh_otp_orders.specs.Orders.{AreAlike, LeavesAlone, is_call}
use Rattle.rh_otp_orders.proofs.Confluence.{alike_itself}
use Rattle.rh_otp_orders.proofs.Taking.{Taken}
use Rattle.rh_otp_crashes.proofs.Crash.{lives_of}
use Rattle.rh_otp_crashes.proofs.Crossing.{meet_back, same_node}
use Rattle.rh_otp_stops.proofs.Meeting.{any_meet}
use Rattle.rh_otp_stops.proofs.Still.{Come}
use Rattle.rh_otp_waits.proofs.Removing.{EitherFirst, either_first}
use Rattle.rh_otp_waits.proofs.Waiting.{IsUp, hears, up_of, HeardOnly, IsCalm, Passed, unslowed, still_alive, came_on, slow_on, slow_made, step, goes_on}

-- ---- two messages

-- of one node two are of one pair of processes
same_pair : (heard : Node → Node → Bool) (lives : Node → ℕ) (e f : Envelope) → IsUp heard lives e → IsUp heard lives f
    → e.to.node.0 ≡ f.to.node.0 → is_of_pair e f ≡ true
same_pair heard lives _ _ (hears m x is) (hears k y is_too) one =
    subst (λ (j : Node). is_of_pair (up_of lives m x) (up_of lives j y) ≡ true) (same_node m k one) (pair_itself (up_of lives m x))

not_for_calls : (heard : Node → Node → Bool) (lives : Node → ℕ) (e : Envelope) → IsUp heard lives e → is_call e.to.role ≡ false
not_for_calls heard lives _ (hears m x is) = refl

leaves : {heard : Node → Node → Bool} {a : SystemView} (s t : SystemView) (n : Node) → HeardOnly heard a s → HeardOnly heard a t
    → LeavesAlone n s t
leaves s t n w u = record {
  links = ap (λ (x : SystemView). x.links) u.else ∙ sym (ap (λ (x : SystemView). x.links) w.else);
  locks = ap (λ (x : SystemView). x.locks) u.else ∙ sym (ap (λ (x : SystemView). x.locks) w.else);
  alive = λ m. still_alive t m u ∙ sym (still_alive s m w);
  answers = λ m app.
      let same : t.answers ≡ s.answers = ap (λ (x : SystemView). x.answers) u.else ∙ sym (ap (λ (x : SystemView). x.answers) w.else) in
      inl (ap (λ (answers : List Answered). answer_count answers (pair_of n m app)) same);
}

messages_meet : {heard : Node → Node → Bool} {a : SystemView} (s t u : SystemView) → HeardOnly heard a s
    → ((x : SystemView) → Delivers s x → Come s x) → Delivers s t → Delivers s u → Meet t u
messages_meet {heard} {a} s t u w comes =
    any_meet s t u w.messages comes (λ e left n kind taken. leaves s _ n w (came_on s e left w taken))
    (λ e kind place call there is. absurd (false≢true (sym (not_for_calls heard (lives_of a) e kind) ∙ ap is_call is)))
    (λ e f kind kind_too apart. ap (λ (b : Bool). b && is_call f.to.role) (not_for_calls heard (lives_of a) e kind))
    (λ e f left left_too kind kind_too taken taken_too apart one.
    absurd (false≢true (sym apart ∙ same_pair heard (lives_of a) e f kind kind_too one)))

-- ---- two slow things

slow_delivers : {heard : Node → Node → Bool} {a : SystemView} (s : SystemView) (place : ℕ) → HeardOnly heard a s → s.messages ≡ []
    → place < length s.slow → Delivers s (unslowed s place)
slow_delivers s place w none within = (move.Slow place, (none, within), sym (slow_made s place w within))

either_slow : {heard : Node → Node → Bool} {a : SystemView} (s : SystemView) (i j : ℕ) → HeardOnly heard a s → s.messages ≡ [] → i < j
    → j < length s.slow → Meet (unslowed s i) (unslowed s j)
either_slow s i j w none less within =
    let both : EitherFirst s.slow i j = either_first s.slow i j less within in
    let t : SystemView = unslowed s i in
    let u : SystemView = unslowed s j in
    inr (
      unslowed t both.behind,
      unslowed u both.behind_other,
      slow_delivers t both.behind (slow_on s i w) none both.within,
      slow_delivers u both.behind_other (slow_on s j w) none both.within_other,
      subst (λ (l : List Slow). AreAlike (unslowed t both.behind) (record s { slow = l })) both.same
          (alike_itself (unslowed t both.behind)),
    )

slow_meet : {heard : Node → Node → Bool} {a : SystemView} (s t u : SystemView) → HeardOnly heard a s → s.messages ≡ [] → Passed s t
    → Passed s u → Meet t u
slow_meet s t u w none p q =
    subst (λ (x : SystemView). Meet x u) (sym p.is)
    (subst (λ (x : SystemView). Meet (unslowed s p.place) x) (sym q.is) (by (cases_order p.place q.place)))
  where
    by : (p.place ≡ q.place) ⊎ ((p.place < q.place) ⊎ (q.place < p.place)) → Meet (unslowed s p.place) (unslowed s q.place)
    by (inl same) =
        inl (subst (λ (k : ℕ). AreAlike (unslowed s p.place) (unslowed s k)) same (alike_itself (unslowed s p.place)))
    by (inr (inl less)) = either_slow s p.place q.place w none less q.within
    by (inr (inr more)) =
        meet_back (unslowed s q.place) (unslowed s p.place) (either_slow s q.place p.place w none more p.within)

-- ---- any two

some_message : (e : Envelope) (messages l : List Envelope) → messages ≡ e ∷ l → messages ≡ [] → ⊥
some_message e messages l is none = let empty : length (e ∷ l) ≡ 0 = ap length (sym is ∙ none) in omega (arith, empty)

none_taken : (e : Envelope) (messages left : List Envelope) → messages ≡ [] → Taken e messages left → ⊥
none_taken e messages left none taken = subst (λ (l : List Envelope). Taken e l left) none taken

meets : {heard : Node → Node → Bool} {a : SystemView} (s t u : SystemView) → IsCalm a → HeardOnly heard a s → Delivers s t → Delivers s u
    → Meet t u
meets {heard} {a} s t u calm w to_t to_u = by s.messages refl
  where
    only_come : (e : Envelope) (l : List Envelope) → s.messages ≡ e ∷ l → (x : SystemView) → Delivers s x → Come s x
    only_come e l is x one =
        elim (step s x calm w one) [ inl come ↦ come | inr passed ↦ absurd (some_message e s.messages l is passed.0) ]

    only_pass : s.messages ≡ [] → (x : SystemView) → Delivers s x → Passed s x
    only_pass none x one =
        elim (step s x calm w one) [
          | inl come ↦ absurd (none_taken come.message s.messages come.left none come.taken)
          | inr passed ↦ passed.1
        ]

    by : (l : List Envelope) → s.messages ≡ l → Meet t u
    by [] none = slow_meet s t u w none (only_pass none t to_t) (only_pass none u to_u)
    by (e ∷ l) is = messages_meet s t u w (only_come e l is) to_t to_u

-- ---- every order

pub all_on : {heard : Node → Node → Bool} {a : SystemView} (s p : SystemView) → Reaches s p → IsCalm a → HeardOnly heard a s
    → HeardOnly heard a p
all_on _ _ (here s) calm w = w
all_on _ _ (behind_one s q p one rest) calm w = all_on q p rest calm (goes_on s q calm w one)

pub orderly : {heard : Node → Node → Bool} {a : SystemView} (s : SystemView) → IsCalm a → HeardOnly heard a s → IsOrderly s
orderly s calm w p t u reaches to_t to_u = meets p t u calm (all_on s p reaches calm w) to_t to_u
