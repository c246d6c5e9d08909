-- What goes one way, as the prover computes it, ends alike.
use Rattle.std.proofs.Common.{◌≡◌, ◌<◌, ℕ, zero, suc, true, List, [], ◌∷◌, length, Option, Some, None, refl, sym, ap, subst, ◌∙◌, arith}
use Rattle.std.proofs.lemmas.Bool.{false≢true, and_parts}
use Rattle.rh_otp_model.specs.declared.output.Envelope.{Envelope}
use Rattle.rh_otp_net.specs.declared.order.Order.TheVariants.{FirstComes}
use Rattle.rh_otp_system.specs.declared.moves.Move.{Move}
use Rattle.rh_otp_system.specs.declared.moves.Move.TheVariants as move
use Rattle.rh_otp_system.specs.declared.slow.Answered.{Answered}
use Rattle.rh_otp_system.specs.declared.slow.Slow.{Slow}
use Rattle.rh_otp_system.specs.Moves.{next_move, made, moved_by, moved, is_quiet_by, is_quiet_behind, is_settled_by, IsPossible, IsSettled}
use Rattle.rh_otp_system.specs.State.{SystemView}
use Rattle.rh_otp_system.proofs.Moving.{settles}
use Rattle.rh_otp_commands.specs.Commands.{SettlesAlike}
use Rattle.rh_otp_commands.proofs.OneWay.{OneWay, rests, goes, one_way_alike}
use Rattle.rh_otp_rehearsals.specs.Covered.{none_counted, is_over, one_slow, one_message, goes_one_at_a_time}

abbrev HasOneWay : SystemView → Type 0
HasOneWay s = (n : ℕ) × (u : SystemView) × OneWay n s u

no_answers : (answers : List Answered) → none_counted answers ≡ true → answers ≡ []
no_answers [] is = refl
no_answers (x ∷ answers) is = absurd (false≢true is)

stays : (next : Option Move) (x : SystemView) → is_quiet_by (is_quiet_behind 0 FirstComes) next x ≡ true
    → moved_by (moved 0 FirstComes) next x ≡ x
stays None x quiet = refl
stays (Some m) x quiet = absurd (false≢true quiet)

pub rest_so : (s : SystemView) → is_over s ≡ true → IsSettled s
rest_so s is =
    let both : (none_counted s.answers ≡ true) × (is_settled_by 1 FirstComes s ≡ true) = and_parts _ _ is in
    let empty : s.answers ≡ [] = no_answers s.answers both.0 in
    let afresh : SystemView = record s { answers = [] } in
    subst IsSettled (λ i. record s { answers = sym empty i })
    (subst IsSettled (stays (next_move FirstComes afresh) afresh both.1) ((settles 1 FirstComes s).1 both.1))

no_more : {A : Type 0} (xs : List A) (x : A) (place : ℕ) → xs ≡ x ∷ [] → place < length xs → place ≡ 0
no_more xs x place is within = let one : length xs ≡ 1 = ap length is in omega (arith, one, within)

some_is_there : {A : Type 0} (xs ys : List A) (x : A) → xs ≡ x ∷ ys → xs ≡ [] → ⊥
some_is_there xs ys x is empty = let both : suc (length ys) ≡ 0 = sym (ap length is) ∙ ap length empty in absurd (omega (arith, both))

only_message : (s : SystemView) (e : Envelope) → s.messages ≡ e ∷ [] → (v : SystemView) (next : Move) → IsPossible s next → v ≡ made next s
    → v ≡ made (move.Deliver 0) s
only_message s e is v (move.Deliver place) possible makes =
    makes ∙ ap (λ (k : ℕ). made (move.Deliver k) s) (no_more s.messages e place is possible)
only_message s e is v (move.Slow place) possible makes = absurd (some_is_there s.messages [] e is possible.0)
only_message s e is v (move.Lock n) possible makes = absurd (some_is_there s.messages [] e is possible.0.0)
only_message s e is v (move.Call place) possible makes = absurd (some_is_there s.messages [] e is possible.0.0)
only_message s e is v (move.End n) possible makes = absurd (some_is_there s.messages [] e is possible.0.0)

only_slow : (s : SystemView) (what : Slow) → s.messages ≡ [] → s.slow ≡ what ∷ [] → (v : SystemView) (next : Move) → IsPossible s next
    → v ≡ made next s → v ≡ made (move.Slow 0) s
only_slow s what empty is v (move.Deliver place) possible makes =
    let nothing : length s.messages ≡ 0 = ap length empty in absurd (omega (arith, nothing, possible))
only_slow s what empty is v (move.Slow place) possible makes =
    makes ∙ ap (λ (k : ℕ). made (move.Slow k) s) (no_more s.slow what place is possible.1)
only_slow s what empty is v (move.Lock n) possible makes = absurd (some_is_there s.slow [] what is possible.0.1)
only_slow s what empty is v (move.Call place) possible makes = absurd (some_is_there s.slow [] what is possible.0.1)
only_slow s what empty is v (move.End n) possible makes = absurd (some_is_there s.slow [] what is possible.0.1)

way_by_slow : (most : ℕ) (s : SystemView) (slow : List Slow) → s.messages ≡ [] → s.slow ≡ slow → one_slow (goes_one_at_a_time most) slow s ≡ true
    → ((t : SystemView) → goes_one_at_a_time most t ≡ true → HasOneWay t) → HasOneWay s
way_by_slow most s [] empty is so rest = (0, s, rests s (rest_so s so))
way_by_slow most s (what ∷ []) empty is so rest =
    let t : SystemView = made (move.Slow 0) s in
    let more : HasOneWay t = rest t so in
    let one : length s.slow ≡ 1 = ap length is in (
      suc more.0,
      more.1,
      goes more.0 s t more.1 (move.Slow 0, (empty, omega (arith, one)), refl)
          (λ v to_v. only_slow s what empty is v to_v.0 to_v.1 to_v.2) more.2,
    )
way_by_slow most s (what ∷ other ∷ slow) empty is so rest = absurd (false≢true so)

way_by_messages : (most : ℕ) (s : SystemView) (messages : List Envelope) → s.messages ≡ messages
    → one_message (goes_one_at_a_time most) messages s ≡ true → ((t : SystemView) → goes_one_at_a_time most t ≡ true → HasOneWay t) → HasOneWay s
way_by_messages most s [] is so rest = way_by_slow most s s.slow is refl so rest
way_by_messages most s (e ∷ []) is so rest =
    let t : SystemView = made (move.Deliver 0) s in
    let more : HasOneWay t = rest t so in
    let one : length s.messages ≡ 1 = ap length is in (
      suc more.0,
      more.1,
      goes more.0 s t more.1 (move.Deliver 0, omega (arith, one), refl) (λ v to_v. only_message s e is v to_v.0 to_v.1 to_v.2) more.2,
    )
way_by_messages most s (e ∷ f ∷ messages) is so rest = absurd (false≢true so)

has_one_way : (most : ℕ) (s : SystemView) → goes_one_at_a_time most s ≡ true → HasOneWay s
has_one_way zero s so = absurd (false≢true so)
has_one_way (suc most) s so = way_by_messages most s s.messages refl so (has_one_way most)

-- so all that comes of it ends alike
pub settles_one_way : (most : ℕ) (s : SystemView) → goes_one_at_a_time most (record s { answers = [] }) ≡ true → SettlesAlike s
settles_one_way most s so =
    let way : HasOneWay (record s { answers = [] }) = has_one_way most (record s { answers = [] }) so in
    one_way_alike way.0 (record s { answers = [] }) way.1 way.2
