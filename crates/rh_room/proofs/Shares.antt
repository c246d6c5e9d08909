-- The part of a log that is one session's.
use Rattle.std.proofs.Common.{◌≡◌, ℕ, ◌+◌, ◌<◌, ◌≤◌, ◌==◌, List, [], ◌∷◌, ◌++◌, length, take, drop, cond, Bool, true, false, All, get_or, refl, sym, ap, ◌∙◌}
use Rattle.std.proofs.Common.{take-append-drop, arith}
use Rattle.std.proofs.lemmas.List.{take_more, length-take-le}
use Rattle.std.proofs.lemmas.List.Elements.{All-nil, All-cons, All-weaker}
use Rattle.rh_room.specs.declared.pass.Entry.{Entry}
use Rattle.rh_room.specs.declared.pass.Receipt.{Receipt}
use Rattle.rh_room.specs.Legal.{of_from, of_session, receipt}

cond-append : (b : Bool) (r : Receipt) (rs ss : List Receipt) → cond b (r ∷ (rs ++ ss)) (rs ++ ss) ≡ cond b (r ∷ rs) rs ++ ss
cond-append true r rs ss = refl
cond-append false r rs ss = refl

pub of_from-append : (session place : ℕ) (xs ys : List Entry) → of_from session place (xs ++ ys)
    ≡ of_from session place xs ++ of_from session (place + length xs) ys
of_from-append session place [] ys = let zero_more : place ≡ place + 0 = omega arith in ap (λ n. of_from session n ys) zero_more
of_from-append session place (x ∷ xs) ys =
    let one : place + 1 + length xs ≡ place + length (x ∷ xs) = omega arith in
    ap (λ (rs : List Receipt). cond (x.session == session) (receipt place x.call x.reply ∷ rs) rs)
    (of_from-append session (place + 1) xs ys ∙ ap (λ n. of_from session (place + 1) xs ++ of_from session n ys) one)
    ∙ cond-append (x.session == session) (receipt place x.call x.reply) (of_from session (place + 1) xs) (of_from session (place + length (x ∷ xs)) ys)

module _ (session place : ℕ) (log : List Entry) where
  -- the part before a place, and the part from it on
  pub of_session-split : place ≤ length log → of_session session log ≡ of_session session (take place log) ++ of_from session place (drop place log)
  of_session-split inside =
      let kept : 0 + length (take place log) ≡ place = omega (arith, length-take-le place log inside) in
      ap (of_session session) (sym (take-append-drop place log))
      ∙ of_from-append session 0 (take place log) (drop place log)
      ∙ ap (λ n. of_session session (take place log) ++ of_from session n (drop place log)) kept

  -- one entry more
  pub of_session-more : (d : Entry) → place < length log → of_session session (take (place + 1) log)
      ≡ of_session session (take place log) ++ of_from session place (get_or log place d ∷ [])
  of_session-more d inside =
      let kept : 0 + length (take place log) ≡ place = omega (arith, length-take-le place log (omega arith)) in
      ap (of_session session) (take_more log place d inside)
      ∙ of_from-append session 0 (take place log) (get_or log place d ∷ [])
      ∙ ap (λ n. of_session session (take place log) ++ of_from session n (get_or log place d ∷ [])) kept

-- all receipts are of this place or a later one
abbrev pub AreFrom : ℕ → List Receipt → Type 0
AreFrom place rs = All (λ r. place ≤ r.place) rs

pub from_earlier : (place earlier : ℕ) (rs : List Receipt) → earlier ≤ place → AreFrom place rs → AreFrom earlier rs
from_earlier place earlier rs before from = All-weaker (λ (r : Receipt). place ≤ r.place) (λ (r : Receipt). earlier ≤ r.place) (λ r h. omega (arith, h)) rs from

from_if : (b : Bool) (place : ℕ) (r : Receipt) (rs : List Receipt) → place ≤ r.place → AreFrom place rs → AreFrom place (cond b (r ∷ rs) rs)
from_if true place r rs first rest = All-cons (λ (x : Receipt). place ≤ x.place) r rs first rest
from_if false place r rs first rest = rest

pub of_from-from : (session place : ℕ) (es : List Entry) → AreFrom place (of_from session place es)
of_from-from session place [] = All-nil (λ (r : Receipt). place ≤ r.place)
of_from-from session place (e ∷ es) =
    from_if (e.session == session) place (receipt place e.call e.reply) (of_from session (place + 1) es) (omega arith)
    (from_earlier (place + 1) place (of_from session (place + 1) es) (omega arith) (of_from-from session (place + 1) es))
