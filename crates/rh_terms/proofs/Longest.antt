-- Where a text is refused by a syntax fault, the longest front that can go on ends.
use Rattle.std.specs.Prelude.{◌==◌}
use Rattle.std.proofs.Common.{◌≡◌, ◌<◌, ◌+◌, ℕ, List, [], ◌∷◌, ◌++◌, Result, Ok, Err, length, refl, sym, ap, subst, ◌∙◌}
use Rattle.std.proofs.Common.{append_assoc, arith, inl, inr, length-append, count_by}
use Rattle.std.specs.Str.{is_utf8}
use Rattle.rh_terms.specs.declared.fault.Fault.{Fault}
use Rattle.rh_terms.specs.declared.fault.Fault.TheVariants.{Syntax, Unsupported, TooDeep, IntRange}
use Rattle.rh_terms.specs.declared.fault.TermFault.{TermFault}
use Rattle.rh_terms.specs.declared.fault.TermFault.TheVariants as faults
use Rattle.rh_terms.specs.Bytes.{past_blank}
use Rattle.rh_terms.specs.Spelling.{AreDotted}
use Rattle.rh_base.specs.Tree.{Trees}
use Rattle.rh_base.specs.declared.term.Terms.{Terms}
use Rattle.rh_terms.specs.Grammar.{dotted, terms_from, line_at, told, terms_of, Tells}
use Rattle.rh_terms.specs.Fronts.{CanGoOn, StopsAt}
use Rattle.rh_terms.proofs.Spelled.{chosen}
use Rattle.rh_terms.proofs.FoundText.{line_is}
use Rattle.rh_terms.proofs.Read.{dotted_read}
use Rattle.rh_terms.proofs.Stops.{IsErr}
use Rattle.rh_terms.proofs.StopsText.{WholeFails, dotted_stops}
use Rattle.rh_terms.proofs.GoesOnText.{dotted_reaches}

-- Two cuts of a list with as much behind them are one.
same_cut : (f g : List ℕ) (b c : ℕ) (x y : List ℕ) → f ++ b ∷ x ≡ g ++ c ∷ y → length x ≡ length y → (f ≡ g) × (b ≡ c)
same_cut [] [] b c x y e n = (refl, cc)
same_cut [] (d ∷ g) b c x y e n =
    let l : length (b ∷ x) ≡ length (d ∷ (g ++ c ∷ y)) = ap (λ (k : List ℕ). length k) e in
    absurd (omega (arith, l, length-append g (c ∷ y)))
same_cut (a ∷ f) [] b c x y e n =
    let l : length (a ∷ (f ++ b ∷ x)) ≡ length (c ∷ y) = ap (λ (k : List ℕ). length k) e in
    absurd (omega (arith, l, length-append f (b ∷ x)))
same_cut (a ∷ f) (d ∷ g) b c x y e n =
    let head : a ≡ d = cc in
    let tail : f ++ b ∷ x ≡ g ++ c ∷ y = cc in
    let r = same_cut f g b c x y tail n in
    let P : ℕ → Type 0 = λ h. a ∷ f ≡ h ∷ g in
    (subst P head (ap (λ (k : List ℕ). a ∷ k) r.0), r.1)

spelled_fails : (bytes : List ℕ) (ts : Trees) → AreDotted ts bytes → WholeFails bytes → ⊥
spelled_fails bytes ts h fails =
    let read : dotted (length bytes) (past_blank bytes) ≡ Ok ts = dotted_read ts bytes h (length bytes) (omega arith) in
    let fault = fails (length bytes) in
    no_both (dotted (length bytes) (past_blank bytes)) ts read fault
  where
    no_both : (r : Result Trees Fault) (ts : Trees) → r ≡ Ok ts → IsErr r → ⊥
    no_both (Ok x) ts e h = absurd (cc (h.1))
    no_both (Err f) ts e h = absurd (cc e)

cannot_go_on : (bytes front rest : List ℕ) (left b : ℕ) (others : List ℕ) → terms_from (past_blank bytes) ≡ Err (Syntax left) → bytes ≡ front ++ rest
    → left ≡ length rest → rest ≡ b ∷ others → CanGoOn (front ++ b ∷ []) → ⊥
cannot_go_on bytes front rest left b others e parts left_is rest_is h =
    let n : length rest ≡ length (b ∷ others) = ap (λ (k : List ℕ). length k) rest_is in
    let some : 0 < left = omega (arith, n, left_is) in
    let s = dotted_stops (length (past_blank bytes)) bytes (past_blank bytes) left refl (omega arith) some e in
    let same : s.front ++ s.first ∷ s.others ≡ front ++ b ∷ others = sym s.parts ∙ parts ∙ ap (λ (k : List ℕ). front ++ k) rest_is in
    let c = same_cut s.front front s.first b s.others others same (omega (arith, n, left_is, s.left_is)) in
    let text : (front ++ b ∷ []) ++ h.0 ≡ s.front ++ s.first ∷ h.0 =
    append_assoc front (b ∷ []) h.0 ∙ ap (λ (k : List ℕ). k ++ b ∷ h.0) (sym c.0) ∙ ap (λ (k : ℕ). s.front ++ k ∷ h.0) (sym c.1) in
    let P : List ℕ → Type 0 = λ k. AreDotted h.1 k in
    spelled_fails (s.front ++ s.first ∷ h.0) h.1 (subst P text h.2) (s.is h.0)

told_syntax : (bytes : List ℕ) (line : ℕ) (read : Result Trees Fault) → told bytes read ≡ Err (faults.Syntax line)
    → (left : ℕ) × (read ≡ Err (Syntax left)) × (line_at bytes left ≡ line)
told_syntax bytes line (Ok ts) e = absurd cc
told_syntax bytes line (Err (Syntax left)) e = (left, refl, cc)
told_syntax bytes line (Err (Unsupported left)) e = absurd cc
told_syntax bytes line (Err TooDeep) e = absurd cc
told_syntax bytes line (Err IntRange) e = absurd cc

syntax_stops : (bytes : List ℕ) (line : ℕ) → terms_of bytes ≡ Err (faults.Syntax line) → StopsAt line bytes
unfolding terms_of
syntax_stops bytes line e =
    elim (chosen (is_utf8 bytes) (told bytes (terms_from (past_blank bytes))) (Err faults.NotUtf8) (Err (faults.Syntax line)) e) [
      | inl p ↦
          let t = told_syntax bytes line (terms_from (past_blank bytes)) p.1 in
          let r = dotted_reaches (length (past_blank bytes)) bytes (past_blank bytes) t.0 refl t.1 in
          let P : List ℕ → Type 0 = λ l. line_at l t.0 ≡ line in
          let at : line_at (r.front ++ r.rest) t.0 ≡ line = subst P r.parts t.2 in
          record {
            front = r.front;
            rest = r.rest;
            parts = r.parts;
            line_is = sym at ∙ line_is r.front r.rest t.0 r.left_is;
            goes_on = r.is;
            stops = λ b others rest_is h. cannot_go_on bytes r.front r.rest t.0 b others t.1 r.parts r.left_is rest_is h;
          }
      | inr p ↦ absurd (cc (p.1))
    ]

-- the fault that was answered
pub tells_syntax : (bytes : List ℕ) (r : Result Terms TermFault) → Tells r (terms_of bytes) → (line : ℕ) → r ≡ Err (faults.Syntax line)
    → StopsAt line bytes
tells_syntax bytes r h line e =
    let P : Result Terms TermFault → Type 0 = λ x. Tells x (terms_of bytes) in
    syntax_stops bytes line (subst P e h)

-- ---- a text stops at one line

abbrev pub IsPrefixClosed : (List ℕ → Type 0) → Type 0
IsPrefixClosed P = (x y : List ℕ) → P (x ++ y) → P x

abbrev StopsBefore : (List ℕ → Type 0) → List ℕ → List ℕ → Type 0
StopsBefore P front rest = (b : ℕ) (others : List ℕ) → rest ≡ b ∷ others → P (front ++ b ∷ []) → ⊥

one_front : (P : List ℕ → Type 0) → IsPrefixClosed P → (f r g s : List ℕ) → f ++ r ≡ g ++ s → P f → StopsBefore P f r → P g → StopsBefore P g s → f ≡ g
one_front P closed [] r [] s e p u q v = refl
one_front P closed [] r (d ∷ g) s e p u q v = absurd (u d (g ++ s) e (closed (d ∷ []) g q))
one_front P closed (c ∷ f) r [] s e p u q v = absurd (v c (f ++ r) (sym e) (closed (c ∷ []) f p))
one_front P closed (c ∷ f) r (d ∷ g) s e p u q v =
    let head : c ≡ d = cc in
    let tail : f ++ r ≡ g ++ s = cc in
    let H : ℕ → Type 0 = λ h. P (h ∷ g) in
    let S : ℕ → Type 0 = λ h. (b : ℕ) (others : List ℕ) → s ≡ b ∷ others → P (h ∷ (g ++ b ∷ [])) → ⊥ in
    let same : f ≡ g =
    one_front (λ l. P (c ∷ l)) (λ x y h. closed (c ∷ x) y h) f r g s tail p u (subst H (sym head) q) (subst S (sym head) v) in
    let G : ℕ → Type 0 = λ h. c ∷ f ≡ h ∷ g in
    subst G head (ap (λ (l : List ℕ). c ∷ l) same)

can_closed : IsPrefixClosed (λ l. CanGoOn l)
can_closed x y h =
    let P : List ℕ → Type 0 = λ l. AreDotted h.1 l in
    (y ++ h.0, h.1, subst P (append_assoc x y h.0) h.2)

pub one_line : (bytes : List ℕ) (line other : ℕ) → StopsAt line bytes → StopsAt other bytes → line ≡ other
one_line bytes line other h k =
    let same : h.front ≡ k.front =
    one_front (λ l. CanGoOn l) can_closed h.front h.rest k.front k.rest (sym h.parts ∙ k.parts) h.goes_on h.stops k.goes_on k.stops in
    h.line_is ∙ ap (λ (l : List ℕ). count_by (λ b. b == 10) l + 1) same ∙ sym k.line_is
