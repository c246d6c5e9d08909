-- One more receipt behind those of a pass.
use Rattle.std.proofs.Common.{◌≡◌, ℕ, zero, suc, ◌-◌, ◌<◌, ◌≤◌, List, [], ◌∷◌, ◌++◌, length, Some, get_or, sym, subst, inl, inr, arith}
use Rattle.std.proofs.lemmas.List.Quantifiers.{all_pairs_push}
use Rattle.std.proofs.lemmas.Option.{slice_get-get_or, slice_get_within}
use Rattle.std.proofs.lemmas.Bool.{cases_lt}
use Rattle.rh_room.specs.declared.pass.Receipt.{Receipt}
use Rattle.rh_room.specs.Legal.{RoomView, InOrder}
use Rattle.rh_room.specs.Serving.{last_of, IsLogged}

-- the place of the last receipt is one of the log's
pub last_inside : (room : RoomView) (session : ℕ) (rs : List Receipt) (d : Receipt) → 0 < length rs → IsLogged room session (last_of rs)
    → (get_or rs (length rs - 1) d).place < length room.log
last_inside room session rs d some logged =
    let at : last_of rs ≡ Some (get_or rs (length rs - 1) d) = slice_get-get_or rs (length rs - 1) d (omega (arith, some)) in
    slice_get_within room.log (get_or rs (length rs - 1) d).place _ (subst (IsLogged room session) at logged)

pub order_goes_on : (room : RoomView) (session : ℕ) (rs : List Receipt) (r : Receipt) → InOrder rs → IsLogged room session (last_of rs)
    → r.place ≡ length room.log → InOrder (rs ++ r ∷ [])
order_goes_on room session rs r ordered logged at =
    all_pairs_push (λ (earlier later : Receipt). earlier.place < later.place) rs r ordered (λ k d inside.
    let last = last_inside room session rs d (omega (arith, inside)) logged in
    elim (cases_lt k (length rs - 1)) [
      | inl before ↦ let below = ordered k (length rs - 1) d before (omega (arith, inside)) in omega (arith, below, last, at)
      | inr behind ↦ let here : k ≡ length rs - 1 = omega (arith, inside, behind) in
          subst (λ j. (get_or rs j d).place < r.place) (sym here) (omega (arith, last, at))
    ])

-- each receipt has a place that is no less than the number of those before it
place_from : (rs : List Receipt) (k : ℕ) (d : Receipt) → InOrder rs → k < length rs → k ≤ (get_or rs k d).place
place_from rs zero d ordered inside = omega arith
place_from rs (suc k) d ordered inside =
    let before : k ≤ (get_or rs k d).place = place_from rs k d ordered (omega (arith, inside)) in
    let below : (get_or rs k d).place < (get_or rs (suc k) d).place = ordered k (suc k) d (omega arith) inside in
    omega (arith, before, below)

-- a pass has no more receipts than the log has entries
pub few_receipts : (room : RoomView) (session : ℕ) (rs : List Receipt) → InOrder rs → IsLogged room session (last_of rs) → length rs ≤ length room.log
few_receipts room session [] ordered logged = omega arith
few_receipts room session (r ∷ rs) ordered logged =
    let last = last_inside room session (r ∷ rs) r (omega arith) logged in
    let from = place_from (r ∷ rs) (length (r ∷ rs) - 1) r ordered (omega arith) in
    omega (arith, last, from)
