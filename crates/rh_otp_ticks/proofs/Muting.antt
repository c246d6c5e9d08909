-- Messages that change nothing where they arrive: they arrive in whatever order, and then all is as it was.
use Rattle.std.proofs.Common.{◌≡◌, ◌+◌, ℕ, zero, suc, List, [], ◌∷◌, length, refl, sym, ap, subst, ◌∙◌, inl, inr, arith}
use Rattle.std.specs.Prelude.{All}
use Rattle.std.proofs.lemmas.List.Elements.{All-head, All-tail}
use Rattle.rh_otp_model.specs.declared.output.Envelope.{Envelope}
use Rattle.rh_otp_system.specs.declared.moves.Move.{Move}
use Rattle.rh_otp_system.specs.declared.moves.Move.TheVariants as move
use Rattle.rh_otp_system.specs.Delivering.{arrived}
use Rattle.rh_otp_system.specs.Moves.{made, IsPossible, Delivers, Reaches, here, behind_one, IsSettled}
use Rattle.rh_otp_system.specs.State.{SystemView}
use Rattle.rh_otp_laws.specs.Messages.{ArrivesInOrder}
use Rattle.rh_otp_laws.proofs.Order.{keeps_order}
use Rattle.rh_otp_orders.specs.Confluence.{Moves, none, one_more, EveryOrderEndsAlike}
use Rattle.rh_otp_orders.specs.Orders.{AreAlike}
use Rattle.rh_otp_orders.proofs.Confluence.{alike_itself, counted}
use Rattle.rh_otp_orders.proofs.Taking.{Taken, arrives_so, taken_arrives}
use Rattle.rh_otp_crashes.proofs.Peace.{without, taken_all, delivers}

-- whatever else is on its way, all is as it was behind it
abbrev pub IsMute : SystemView → Envelope → Type 0
IsMute s e = (l : List Envelope) → arrived e.to e.message (without s l) ≡ without s l

pub taken_fewer : (e : Envelope) (messages left : List Envelope) → Taken e messages left → length messages ≡ suc (length left)
taken_fewer e [] left taken = absurd taken
taken_fewer e (m ∷ messages) left (inl first) = ap (λ (l : List Envelope). suc (length l)) (sym first.1)
taken_fewer e (m ∷ messages) left (inr later) =
    ap suc (taken_fewer e messages later.1 later.3) ∙ ap (λ (l : List Envelope). suc (length l)) (sym later.2)

-- ---- one of them arrives

-- all that is possible is that one of them arrives
pub record OneLess (s : SystemView) (l : List Envelope) (t : SystemView) : Type 0 where
  pub left : List Envelope
  pub mute : All (IsMute s) left
  pub is : t ≡ without s left
  pub fewer : length l ≡ suc (length left)

-- where none is left nothing is possible
nothing_else : (s : SystemView) (l : List Envelope) (next : Move) → IsSettled (without s []) → l ≡ [] → IsPossible (without s l) next → ⊥
nothing_else s l next at empty possible = at next (subst (λ (x : List Envelope). IsPossible (without s x) next) empty possible)

pub one_less : (s : SystemView) (l : List Envelope) (t : SystemView) → IsSettled (without s []) → All (IsMute s) l → Delivers (without s l) t
    → OneLess s l t
one_less s l t at mute (move.Deliver place, possible, is) =
    let come : ArrivesInOrder place (without s l) (made (move.Deliver place) (without s l)) = keeps_order (without s l) place possible in
    let so : (left : List Envelope) × Taken come.message l left × (t ≡ arrived come.message.to come.message.message (without s left)) =
    arrives_so (without s l) t come.message (place, come.is_there, is) in
    let all : IsMute s come.message × All (IsMute s) so.0 = taken_all (IsMute s) come.message l so.0 so.1 mute in
    record { left = so.0; mute = all.1; is = so.2 ∙ all.0 so.0; fewer = taken_fewer come.message l so.0 so.1 }
one_less s l t at mute (move.Slow place, possible, is) = absurd (nothing_else s l (move.Slow place) at possible.0 possible)
one_less s l t at mute (move.Lock n, possible, is) = absurd (nothing_else s l (move.Lock n) at possible.0.0 possible)
one_less s l t at mute (move.Call place, possible, is) = absurd (nothing_else s l (move.Call place) at possible.0.0 possible)
one_less s l t at mute (move.End n, possible, is) = absurd (nothing_else s l (move.End n) at possible.0.0 possible)

-- ---- all of them

-- behind so many moves so many are left
record OnWay (many k : ℕ) (s t : SystemView) : Type 0 where
  left : List Envelope
  is : t ≡ without s left
  count : k + length left ≡ many

on_way : (many : ℕ) (s : SystemView) (l : List Envelope) (k : ℕ) (q t : SystemView) → IsSettled (without s []) → length l ≡ many
    → All (IsMute s) l → q ≡ without s l → Moves k q t → OnWay many k s t
on_way many s l _ _ _ at len mute is (none q) = record { left = l; is = is; count = omega (arith, len) }
on_way zero s l _ _ _ at len mute is (one_more k q u t first rest) =
    let less : OneLess s l u = one_less s l u at mute (subst (λ (x : SystemView). Delivers x u) is first) in
    let fewer : length l ≡ suc (length less.left) = less.fewer in
    absurd (omega (arith, len, fewer))
on_way (suc many) s l _ _ _ at len mute is (one_more k q u t first rest) =
    let less : OneLess s l u = one_less s l u at mute (subst (λ (x : SystemView). Delivers x u) is first) in
    let fewer : length l ≡ suc (length less.left) = less.fewer in
    let more : OnWay many k s t = on_way many s less.left k u t at (omega (arith, len, fewer)) less.mute less.is rest in
    let count : k + length more.left ≡ many = more.count in
    record { left = more.left; is = more.is; count = omega (arith, count) }

none_left : (s : SystemView) (left : List Envelope) → IsSettled (without s left) → left ≡ []
none_left s [] at = refl
none_left s (e ∷ left) at = absurd (at (move.Deliver 0) (omega arith))

-- at rest none is left
rests_so : (s : SystemView) (l : List Envelope) (k : ℕ) (t : SystemView) → IsSettled (without s []) → All (IsMute s) l
    → Moves k (without s l) t → IsSettled t → (t ≡ without s []) × (k ≡ length l)
rests_so s l k t at mute run settled =
    let way : OnWay (length l) k s t = on_way (length l) s l k (without s l) t at refl mute refl run in
    let empty : way.left ≡ [] = none_left s way.left (subst IsSettled way.is settled) in
    let no_more : length way.left ≡ 0 = ap length empty in
    let count : k + length way.left ≡ length l = way.count in
    (way.is ∙ ap (without s) empty, omega (arith, no_more, count))

pub ends_so : (s : SystemView) (l : List Envelope) (t : SystemView) → IsSettled (without s []) → All (IsMute s) l → Reaches (without s l) t
    → IsSettled t → t ≡ without s []
ends_so s l t at mute reaches settled =
    let run : (k : ℕ) × Moves k (without s l) t = counted (without s l) t reaches in (rests_so s l run.0 t at mute run.1 settled).0

pub mute_alike : (s : SystemView) (l : List Envelope) → IsSettled (without s []) → All (IsMute s) l → EveryOrderEndsAlike (without s l)
mute_alike s l at mute = record {
  alike = λ t u to_t at_t to_u at_u.
      let one : t ≡ without s [] = (ends_so s l t at mute to_t at_t) in
      let other : u ≡ without s [] = (ends_so s l u at mute to_u at_u) in
      subst (λ (x : SystemView). AreAlike x u) (sym one) (subst (AreAlike (without s [])) (sym other) (alike_itself (without s [])));
  no_longer = λ n k t u run settled other.
      let all : n ≡ length l = (rests_so s l n t at mute run settled).1 in
      let way : OnWay (length l) k s u = on_way (length l) s l k (without s l) u at refl mute refl other in
      let count : k + length way.left ≡ length l = way.count in
      omega (arith, all, count);
}

-- and so each arrives
pub mute_reaches : (s : SystemView) (l : List Envelope) → All (IsMute s) l → Reaches (without s l) (without s [])
mute_reaches s [] mute = here (without s [])
mute_reaches s (e ∷ l) mute =
    behind_one (without s (e ∷ l)) (without s l) (without s [])
    (subst (Delivers (without s (e ∷ l))) (All-head (IsMute s) e l mute l)
    (delivers e (without s (e ∷ l)) (arrived e.to e.message (without s l)) (taken_arrives (without s (e ∷ l)) e l (inl (refl, refl)))))
    (mute_reaches s l (All-tail (IsMute s) e l mute))
