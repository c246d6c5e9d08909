-- The first place at which two lists of receipts differ.
use Rattle.std.proofs.Common.{◌≡◌, ℕ, ◌+◌, ◌<◌, ◌≤◌, ◌==◌, ◌⊎◌, List, [], ◌∷◌, ◌++◌, length, take, drop, cond, not, Bool, true, false, suc, get_or, inl, inr}
use Rattle.std.proofs.Common.{refl, sym, ap, subst, ◌∙◌, append-nil, take-append-drop, arith}
use Rattle.std.specs.Bool.{beq}
use Rattle.std.specs.List.{HoldsAt}
use Rattle.std.proofs.lemmas.Bool.{cases_lt}
use Rattle.std.proofs.lemmas.Bool.Decides.{nat_tests}
use Rattle.std.proofs.lemmas.List.{append_cancel_left, take_all, take_more, length-drop, get_or-drop, get_or_default}
use Rattle.std.proofs.lemmas.List.Elements.{All-nil, All-cons, All-head, All-tail, filter-append}
use Rattle.std.proofs.Math.Seq.{drop-cons}
use Rattle.rh_room.specs.declared.pass.Entry.{Entry}
use Rattle.rh_room.specs.declared.pass.Receipt.{Receipt}
use Rattle.rh_room.specs.Legal.{InOrder, of_from, of_session, receipt}
use Rattle.rh_room.specs.Closing.{at_place, IsFirstDifference}
use Rattle.rh_room.proofs.Shares.{AreFrom, from_earlier, of_from-from, of_session-split, of_session-more}

same_number : (a b : ℕ) → a ≡ b → (a == b) ≡ true
same_number a b is = grind (arith, nat_tests)

other_number : (a b : ℕ) → (a ≡ b → ⊥) → (a == b) ≡ false
other_number a b isnt = grind (arith, nat_tests)

cond_true : (b : Bool) (rs ss : List Receipt) → b ≡ true → cond b rs ss ≡ rs
cond_true b rs ss is = ap (λ c. cond c rs ss) is

cond_false : (b : Bool) (rs ss : List Receipt) → b ≡ false → cond b rs ss ≡ ss
cond_false b rs ss is = ap (λ c. cond c rs ss) is

-- ---- the receipts of a place

abbrev of_place : ℕ → Receipt → Bool
of_place place r = r.place == place

-- none, where all are of later places
pub none_at : (place first : ℕ) (rs : List Receipt) → place < first → AreFrom first rs → at_place place rs ≡ []
none_at place first [] below from = refl
none_at place first (r ∷ rs) below from =
    let head : first ≤ r.place = All-head (λ (x : Receipt). first ≤ x.place) r rs from in
    cond_false (r.place == place) (r ∷ at_place place rs) (at_place place rs) (other_number r.place place (λ is. omega (arith, is, below, head)))
    ∙ none_at place first rs below (All-tail (λ (x : Receipt). first ≤ x.place) r rs from)

-- one, where the first one is of it and all others are of later places
pub one_at : (place : ℕ) (r : Receipt) (rs : List Receipt) → r.place ≡ place → AreFrom (place + 1) rs → at_place place (r ∷ rs) ≡ r ∷ []
one_at place r rs is later =
    cond_true (r.place == place) (r ∷ at_place place rs) (at_place place rs) (same_number r.place place is)
    ∙ ap (λ (ss : List Receipt). r ∷ ss) (none_at place (place + 1) rs (omega arith) later)

-- after equal beginnings, two rests that differ at their first place
pub differ_after : (front one other : List Receipt) (place : ℕ) → AreFrom place one → AreFrom place other → (at_place place one ≡ at_place place other → ⊥)
    → IsFirstDifference (front ++ one) (front ++ other) place
differ_after front one other place from from_other differ = record {
  differ = λ same. differ (append_cancel_left (at_place place front) (at_place place one) (at_place place other)
      (sym (filter-append (of_place place) front one) ∙ same ∙ filter-append (of_place place) front other));
  before = λ earlier below.
      filter-append (of_place earlier) front one
      ∙ ap (λ (rs : List Receipt). at_place earlier front ++ rs) (none_at earlier place one below from ∙ sym (none_at earlier place other below from_other))
      ∙ sym (filter-append (of_place earlier) front other);
}

-- ---- receipts in order

module _ (rs : List Receipt) (met : ℕ) (d : Receipt) (order : InOrder rs) (more : met < length rs) where
  -- those behind a receipt are of later places
  pub rest_later : AreFrom ((get_or rs met d).place + 1) (drop (suc met) rs)
  rest_later k e inside =
      let bound : suc met + k < length rs = omega (arith, inside, length-drop (suc met) rs) in
      let below : (get_or rs met e).place < (get_or rs (suc met + k) e).place = order met (suc met + k) e (omega arith) bound in
      let first : (get_or rs met d).place ≡ (get_or rs met e).place = ap (λ r. r.place) (get_or_default rs met d e more) in
      let there : (get_or (drop (suc met) rs) k e).place ≡ (get_or rs (suc met + k) e).place = ap (λ r. r.place) (get_or-drop (suc met) rs k e) in
      omega (arith, below, first, there)

  pub rest_from : AreFrom (get_or rs met d).place (drop met rs)
  rest_from =
      subst (AreFrom (get_or rs met d).place) (sym (drop-cons rs met d more))
      (All-cons (λ (r : Receipt). (get_or rs met d).place ≤ r.place) (get_or rs met d) (drop (suc met) rs) (omega arith)
      (from_earlier ((get_or rs met d).place + 1) (get_or rs met d).place (drop (suc met) rs) (omega arith) rest_later))

  pub rest_at : at_place (get_or rs met d).place (drop met rs) ≡ get_or rs met d ∷ []
  rest_at =
      ap (at_place (get_or rs met d).place) (drop-cons rs met d more)
      ∙ one_at (get_or rs met d).place (get_or rs met d) (drop (suc met) rs) refl rest_later

-- there is a receipt at the index, and it is of this place
abbrev pub IsNext : List Receipt → ℕ → ℕ → Type 0
IsNext rs met place = (met < length rs) × HoldsAt (λ r. r.place ≡ place) rs met

-- where it isn't, all from there on are of later places
pub rest_past : (rs : List Receipt) (met place : ℕ) → InOrder rs → AreFrom place (drop met rs) → (IsNext rs met place → ⊥) → AreFrom (place + 1) (drop met rs)
rest_past rs met place order from isnt = λ k d inside. elim (cases_lt met (length rs)) [
  | inl more ↦
      let first : (get_or (drop met rs) 0 d).place ≡ (get_or rs met d).place = ap (λ r. r.place) (ap (λ ss. get_or ss 0 d) (drop-cons rs met d more)) in
      let low : place ≤ (get_or (drop met rs) 0 d).place = from 0 d (omega (arith, length-drop met rs)) in
      let other : (get_or rs met d).place ≡ place → ⊥ = λ is. isnt (more, λ e. ap (λ r. r.place) (get_or_default rs met e d more) ∙ is) in
      from_earlier (get_or rs met d).place (place + 1) (drop met rs) (omega (arith, first, low, other)) (rest_from rs met d order more) k d inside
  | inr past ↦ absurd (omega (arith, past, inside, length-drop met rs))
]

-- ---- one turn

-- the receipts before an index are those that the log has of the session before a place, and the others are of this place or later ones
pub record HasMet (rs : List Receipt) (session : ℕ) (log : List Entry) (met place : ℕ) : Type 0 where
  pub within : met ≤ length rs
  pub same : take met rs ≡ of_session session (take place log)
  pub later : AreFrom place (drop met rs)

-- two Bools that aren't the same
apart : (told logged : Bool) → not (beq told logged) ≡ true → ((told ≡ true) × (logged ≡ false)) ⊎ ((told ≡ false) × (logged ≡ true))
apart true true h = absurd (cc h)
apart true false h = inl (refl, refl)
apart false true h = inr (refl, refl)
apart false false h = absurd (cc h)

pub alike : (told logged : Bool) → not (beq told logged) ≡ false → told ≡ logged
alike true true h = refl
alike true false h = absurd (cc h)
alike false true h = absurd (cc h)
alike false false h = refl

-- the test of an entry's session
pub is_session : (a b : ℕ) → (a == b) ≡ true → a ≡ b
is_session a b is = grind (arith, nat_tests)

pub isnt_session : (a b : ℕ) → (a == b) ≡ false → a ≡ b → ⊥
isnt_session a b isnt is = grind (arith, nat_tests)

module _ (rs : List Receipt) (session : ℕ) (log : List Entry) (met place : ℕ) (e : Entry) (order : InOrder rs) (has : HasMet rs session log met place)
    (inside : place < length log) (at : get_or log place e ≡ e) where
  abbrev told_rest : List Receipt
  told_rest = drop met rs

  abbrev logged_rest : List Receipt
  logged_rest = of_from session place (drop place log)

  abbrev later_rest : List Receipt
  later_rest = of_from session (place + 1) (drop (suc place) log)

  abbrev logged_here : Receipt
  logged_here = receipt place e.call e.reply

  rest_of_log : logged_rest ≡ cond (e.session == session) (logged_here ∷ later_rest) later_rest
  rest_of_log = ap (of_from session place) (drop-cons log place e inside ∙ ap (λ (x : Entry). x ∷ drop (suc place) log) at)

  logged_at : e.session ≡ session → at_place place logged_rest ≡ logged_here ∷ []
  logged_at is =
      ap (at_place place) (rest_of_log ∙ cond_true (e.session == session) (logged_here ∷ later_rest) later_rest (same_number e.session session is))
      ∙ one_at place logged_here later_rest refl (of_from-from session (place + 1) (drop (suc place) log))

  unlogged_at : (e.session ≡ session → ⊥) → at_place place logged_rest ≡ []
  unlogged_at isnt =
      ap (at_place place) (rest_of_log ∙ cond_false (e.session == session) (logged_here ∷ later_rest) later_rest (other_number e.session session isnt))
      ∙ none_at place (place + 1) later_rest (omega arith) (of_from-from session (place + 1) (drop (suc place) log))

  told_at : (r : Receipt) → IsNext rs met place → at_place place told_rest ≡ get_or rs met r ∷ []
  told_at r next = subst (λ p. at_place p told_rest ≡ get_or rs met r ∷ []) (next.1 r) (rest_at rs met r order next.0)

  untold_at : (IsNext rs met place → ⊥) → at_place place told_rest ≡ []
  untold_at isnt = none_at place (place + 1) told_rest (omega arith) (rest_past rs met place order has.later isnt)

  differ_here : (at_place place told_rest ≡ at_place place logged_rest → ⊥) → IsFirstDifference rs (of_session session log) place
  differ_here differ =
      let whole : take met rs ++ logged_rest ≡ of_session session log = ap (λ (ss : List Receipt). ss ++ logged_rest) has.same
      ∙ sym (of_session-split session place log (omega arith)) in
      subst (λ (ss : List Receipt). IsFirstDifference rs ss place) whole
      (subst (λ (ss : List Receipt). IsFirstDifference ss (take met rs ++ logged_rest) place) (take-append-drop met rs)
      (differ_after (take met rs) told_rest logged_rest place has.later (of_from-from session place (drop place log)) differ))

  -- told and not logged, or logged and not told
  pub told_otherwise : (told : Bool) → (told ≡ true → IsNext rs met place) → (IsNext rs met place → told ≡ true) → not (beq told (e.session == session)) ≡ true
      → IsFirstDifference rs (of_session session log) place
  told_otherwise told is_next next_is differ = elim (apart told (e.session == session) differ) [
    | inl only_told ↦ differ_here (λ same.
        let both : get_or rs met logged_here ∷ [] ≡ [] = sym (told_at logged_here (is_next only_told.0)) ∙ same
        ∙ unlogged_at (isnt_session e.session session only_told.1) in
        absurd (cc both))
    | inr only_logged ↦ differ_here (λ same.
        let both : [] ≡ logged_here ∷ [] = sym (untold_at (λ next. absurd (cc (next_is next, only_logged.0)))) ∙ same
        ∙ logged_at (is_session e.session session only_logged.1) in
        absurd (cc both))
  ]

  -- another call or another reply
  pub told_wrongly : (r : Receipt) → r ≡ get_or rs met r → IsNext rs met place → e.session ≡ session → ((r.call ≡ e.call) × (r.reply ≡ e.reply) → ⊥)
      → IsFirstDifference rs (of_session session log) place
  told_wrongly r read next is other = differ_here (λ same.
      let both : get_or rs met r ∷ [] ≡ logged_here ∷ [] = sym (told_at r next) ∙ same ∙ logged_at is in
      let here : r ≡ logged_here = read ∙ ap (λ (ss : List Receipt). get_or ss 0 r) both in
      other (ap (λ (x : Receipt). x.call) here, ap (λ (x : Receipt). x.reply) here))

  one_more : of_session session (take (place + 1) log) ≡ take met rs ++ of_from session place (e ∷ [])
  one_more =
      of_session-more session place log e inside
      ∙ ap (λ (x : Entry). of_session session (take place log) ++ of_from session place (x ∷ [])) at
      ∙ ap (λ (ss : List Receipt). ss ++ of_from session place (e ∷ [])) (sym has.same)

  -- told as it is logged
  pub goes_on : (r : Receipt) → r ≡ get_or rs met r → IsNext rs met place → e.session ≡ session → r.call ≡ e.call → r.reply ≡ e.reply
      → HasMet rs session log (met + 1) (place + 1)
  goes_on r read next is call reply =
      let of : r.place ≡ place = ap (λ (x : Receipt). x.place) read ∙ next.1 r in
      let here : r ≡ logged_here = λ i. record { place = of i; call = call i; reply = reply i } in
      let entry : of_from session place (e ∷ []) ≡ logged_here ∷ [] = cond_true (e.session == session) (logged_here ∷ []) []
      (same_number e.session session is) in
      let more : met + 1 ≤ length rs = omega (arith, next.0) in
      let one : suc met ≡ met + 1 = omega arith in
      record {
        within = more;
        same = take_more rs met r next.0 ∙ ap (λ (x : Receipt). take met rs ++ x ∷ []) (sym read ∙ here)
            ∙ sym (one_more ∙ ap (λ (ss : List Receipt). take met rs ++ ss) entry);
        later = subst (λ n. AreFrom (place + 1) (drop n rs)) one
            (subst (λ p. AreFrom (p + 1) (drop (suc met) rs)) (next.1 r) (rest_later rs met r order next.0));
      }

  -- neither told nor logged
  pub passes_over : (IsNext rs met place → ⊥) → (e.session ≡ session → ⊥) → HasMet rs session log met (place + 1)
  passes_over untold isnt =
      let entry : of_from session place (e ∷ []) ≡ [] = cond_false (e.session == session) (logged_here ∷ []) [] (other_number e.session session isnt) in
      record {
        within = has.within;
        same = sym (one_more ∙ ap (λ (ss : List Receipt). take met rs ++ ss) entry ∙ append-nil (take met rs));
        later = rest_past rs met place order has.later untold;
      }

-- the log has no further entry of the session
pub told_too_much : (rs : List Receipt) (session : ℕ) (log : List Entry) (met place : ℕ) (r : Receipt) → InOrder rs → HasMet rs session log met place
    → length log ≤ place → met < length rs → IsFirstDifference rs (of_session session log) (get_or rs met r).place
told_too_much rs session log met place r order has past more =
    let q : ℕ = (get_or rs met r).place in
    let whole : take met rs ++ [] ≡ of_session session log = append-nil (take met rs) ∙ has.same ∙ ap (of_session session) (take_all place log past) in
    subst (λ (ss : List Receipt). IsFirstDifference rs ss q) whole
    (subst (λ (ss : List Receipt). IsFirstDifference ss (take met rs ++ []) q) (take-append-drop met rs)
    (differ_after (take met rs) (drop met rs) [] q (rest_from rs met r order more) (All-nil (λ (x : Receipt). q ≤ x.place)) (λ same.
    let both : get_or rs met r ∷ [] ≡ [] = sym (rest_at rs met r order more) ∙ same in
    absurd (cc both))))
