-- Where a whole text is refused as unsupported, one of the constructs stands.
use Rattle.std.proofs.Common.{◌≡◌, ◌+◌, ◌-◌, ℕ, zero, suc, List, [], ◌∷◌, ◌++◌, true, cond, Result}
use Rattle.std.proofs.Common.{Ok, Err, length, drop, refl, sym, ap, subst, ◌∙◌, append_assoc}
use Rattle.std.proofs.Common.{arith, inl, inr, length-append, count_by}
use Rattle.std.specs.Prelude.{◌==◌, ◌||◌, ◌⊎◌}
use Rattle.std.specs.Str.{is_utf8}
use Rattle.std.proofs.Math.Seq.{take-append_seam}
use Rattle.std.proofs.lemmas.List.{append-nil}
use Rattle.rh_terms.specs.declared.nest.TheConstants.{MAX_DEPTH}
use Rattle.rh_terms.specs.declared.fault.Fault.{Fault}
use Rattle.rh_terms.specs.declared.fault.Fault.TheVariants.{Syntax, Unsupported, TooDeep, IntRange}
use Rattle.rh_terms.specs.declared.fault.TermFault.TheVariants as faults
use Rattle.rh_terms.specs.Bytes.{past_blank, begins, is_end}
use Rattle.rh_terms.specs.Faults.{◌>>=◌, stuck}
use Rattle.rh_base.specs.Tree.{Tree, Trees, more}
use Rattle.rh_terms.specs.Grammar.{term_at, dot_at, dotted, terms_from, line_at, told, terms_of}
use Rattle.rh_terms.specs.Spelling.{IsBlank, Spells}
use Rattle.rh_terms.specs.Constructs.{IsSign, InTerm, InText, HasConstruct}
use Rattle.rh_terms.proofs.Spelled.{chosen, blank_is, blank_front, begins_is, term_spelled}
use Rattle.rh_terms.proofs.Whole.{dot_is, EndsDot}
use Rattle.rh_terms.proofs.Found.{Found, later, stuck_found, bind_err, err_is, term_found}

-- what can't stand behind a term, at its place or behind a dot
record IsBadDot (front rest : List ℕ) : Type 0 where
  place : (front ≡ []) ⊎ (front ≡ 46 ∷ [])
  is : IsSign rest

dot_found : (bs : List ℕ) (left : ℕ) → dot_at bs ≡ Err (Unsupported left) → Found IsBadDot bs left
unfolding dot_at
dot_found bs left e =
    let P : List ℕ → Type 0 = λ l. Found IsBadDot l left in
    elim (chosen (begins (λ b. b == 46) bs) (cond ((length bs == 1) || begins is_end (drop 1 bs)) (Ok (drop 1 bs)) (Err (stuck (drop 1 bs))))
    (Err (stuck bs)) (Err (Unsupported left)) e) [
      | inl p ↦ elim (chosen ((length bs == 1) || begins is_end (drop 1 bs)) (Ok (drop 1 bs)) (Err (stuck (drop 1 bs))) (Err (Unsupported left)) p.1) [
        | inl q ↦ absurd (cc (q.1))
        | inr q ↦
            let here : Found (λ f r. (f ≡ []) × IsSign r) (drop 1 bs) left =
            stuck_found (λ f r. (f ≡ []) × IsSign r) (drop 1 bs) left (λ rest h. (refl, h)) (err_is {B = List ℕ} (stuck (drop 1 bs)) (Unsupported left) q.1) in
            subst P (sym (begins_is 46 bs p.0)) (later (λ f r. (f ≡ []) × IsSign r) IsBadDot (46 ∷ []) (drop 1 bs) left
            (λ f r h. record { place = inr (ap (λ (l : List ℕ). 46 ∷ l) h.0); is = h.1 }) here)
      ]
      | inr p ↦ stuck_found IsBadDot bs left (λ rest h. record { place = inl refl; is = h }) (err_is {B = List ℕ} (stuck bs) (Unsupported left) p.1)
    ]

-- a byte that can't stand where the dot has to
bad_dot : (t : Tree) (a s b front rest : List ℕ) → IsBlank a → Spells MAX_DEPTH t s → IsBlank b → IsBadDot front rest → InText (a ++ (s ++ (b ++ front))) rest
bad_dot t a s b front rest before spelled blank h = by_place h.place
  where
    by_place : (front ≡ []) ⊎ (front ≡ 46 ∷ []) → InText (a ++ (s ++ (b ++ front))) rest
    by_place (inl e) =
        let P : List ℕ → Type 0 = λ l. InText (a ++ (s ++ l)) rest in
        subst P (sym (ap (λ (l : List ℕ). b ++ l) e ∙ append-nil b)) (InText.sign_behind t a s b rest before spelled blank h.is)
    by_place (inr e) =
        let P : List ℕ → Type 0 = λ l. InText (a ++ (s ++ (b ++ l))) rest in
        subst P (sym e) (InText.sign_at_dot t a s b rest before spelled blank h.is)

regroup_dot : (a s b q tail : List ℕ) → a ++ (s ++ (b ++ (q ++ tail))) ≡ (a ++ (s ++ (b ++ q))) ++ tail
regroup_dot a s b q tail = simp append_assoc

-- the dot of a term ends where something comes behind it
pub ends_some : (bs front : List ℕ) (c : ℕ) (others : List ℕ) → bs ≡ front ++ c ∷ others → EndsDot bs → begins is_end (front ++ c ∷ others) ≡ true
ends_some bs front c others parts (inl h) =
    let n : length bs ≡ length (front ++ c ∷ others) = ap (λ (l : List ℕ). length l) parts in
    absurd (omega (arith, length-append front (c ∷ others)))
ends_some bs front c others parts (inr h) = rw parts at h

dotted_found : (n : ℕ) (bs l : List ℕ) (left : ℕ) → past_blank bs ≡ l → dotted n l ≡ Err (Unsupported left) → Found InText bs left
unfolding dotted
dotted_found n bs [] left blank e = absurd cc
dotted_found zero bs (c ∷ l) left blank e =
    let a = blank_is bs c l blank in
    let P : List ℕ → Type 0 = λ y. Found InText y left in
    subst P (sym a.parts) (later (InTerm MAX_DEPTH) InText a.text (c ∷ l) left (λ front rest h. InText.term a.text front rest a.is h)
    (stuck_found (InTerm MAX_DEPTH) (c ∷ l) left (λ rest h. InTerm.sign MAX_DEPTH rest h) (err_is {B = Trees} (stuck (c ∷ l)) (Unsupported left) e)))
dotted_found (suc n) bs (c ∷ l) left blank e =
    let a = blank_is bs c l blank in
    let P : List ℕ → Type 0 = λ y. Found InText y left in
    elim (bind_err (term_at MAX_DEPTH (c ∷ l)) (λ x. dot_at (past_blank x.1) >>= λ rest. dotted n (past_blank rest) >>= λ ts. Ok (more x.0 ts))
    (Unsupported left) e) [
      | inl h ↦ subst P (sym a.parts) (later (InTerm MAX_DEPTH) InText a.text (c ∷ l) left (λ front rest k. InText.term a.text front rest a.is k)
          (term_found MAX_DEPTH (c ∷ l) left h))
      | inr h ↦
          let x = h.0 in
          let s = term_spelled MAX_DEPTH (c ∷ l) x.0 x.1 h.1 in
          elim (bind_err (dot_at (past_blank x.1)) (λ rest. dotted n (past_blank rest) >>= λ ts. Ok (more x.0 ts)) (Unsupported left) h.2) [
            | inl k ↦
                let f = dot_found (past_blank x.1) left k in
                let b = blank_front x.1 (past_blank x.1) f.front f.first f.others refl f.parts in
                record {
                  front = a.text ++ (s.text ++ (b.text ++ f.front));
                  first = f.first;
                  others = f.others;
                  parts = a.parts ∙ ap (λ (y : List ℕ). a.text ++ y) (s.parts ∙ ap (λ (y : List ℕ). s.text ++ y)
                      (b.parts ∙ ap (λ (y : List ℕ). b.text ++ y) f.parts)) ∙ regroup_dot a.text s.text b.text f.front (f.first ∷ f.others);
                  left_is = f.left_is;
                  is = bad_dot x.0 a.text s.text b.text f.front (f.first ∷ f.others) a.is s.is b.is f.is;
                }
            | inr k ↦ elim (bind_err (dotted n (past_blank k.0)) (λ ts. Ok (more x.0 ts)) (Unsupported left) k.2) [
              | inl r ↦
                  let d = dot_is (past_blank x.1) k.0 k.1 in
                  let b = blank_is x.1 46 k.0 d.0 in
                  let f = dotted_found n k.0 (past_blank k.0) left refl r in
                  record {
                    front = a.text ++ (s.text ++ (b.text ++ 46 ∷ f.front));
                    first = f.first;
                    others = f.others;
                    parts = a.parts ∙ ap (λ (y : List ℕ). a.text ++ y) (s.parts ∙ ap (λ (y : List ℕ). s.text ++ y)
                        (b.parts ∙ ap (λ (y : List ℕ). b.text ++ 46 ∷ y) f.parts)) ∙ regroup_dot a.text s.text b.text (46 ∷ f.front) (f.first ∷ f.others);
                    left_is = f.left_is;
                    is = InText.dot x.0 a.text s.text b.text f.front (f.first ∷ f.others) a.is s.is b.is
                        (ends_some k.0 f.front f.first f.others f.parts d.1) f.is;
                  }
              | inr r ↦ absurd (cc (r.2))
            ]
          ]
    ]

pub line_is : (front rest : List ℕ) (left : ℕ) → left ≡ length rest → line_at (front ++ rest) left ≡ count_by (λ b. b == 10) front + 1
line_is front rest left e =
    let n : length (front ++ rest) - left ≡ length front = omega (arith, length-append front rest) in
    rw (n, take-append_seam front rest) refl

told_unsupported : (bytes : List ℕ) (line : ℕ) (read : Result Trees Fault) → told bytes read ≡ Err (faults.Unsupported line)
    → (left : ℕ) × (read ≡ Err (Unsupported left)) × (line_at bytes left ≡ line)
told_unsupported bytes line (Ok ts) e = absurd cc
told_unsupported bytes line (Err (Syntax left)) e = absurd cc
told_unsupported bytes line (Err (Unsupported left)) e = (left, refl, cc)
told_unsupported bytes line (Err TooDeep) e = absurd cc
told_unsupported bytes line (Err IntRange) e = absurd cc

-- A text that is refused as unsupported has one of the constructs on that line.
pub unsupported_is_there : (bytes : List ℕ) (line : ℕ) → terms_of bytes ≡ Err (faults.Unsupported line) → HasConstruct line bytes
unfolding terms_of
unsupported_is_there bytes line e =
    elim (chosen (is_utf8 bytes) (told bytes (terms_from (past_blank bytes))) (Err faults.NotUtf8) (Err (faults.Unsupported line)) e) [
      | inl p ↦
          let t = told_unsupported bytes line (terms_from (past_blank bytes)) p.1 in
          let f = dotted_found (length (past_blank bytes)) bytes (past_blank bytes) t.0 refl t.1 in
          let rest : List ℕ = f.first ∷ f.others in
          let P : List ℕ → Type 0 = λ l. line_at l t.0 ≡ line in
          let at : line_at (f.front ++ rest) t.0 ≡ line = subst P f.parts t.2 in
          record { front = f.front; rest = rest; parts = f.parts; line_is = sym at ∙ line_is f.front rest t.0 f.left_is; is = f.is }
      | inr p ↦ absurd (cc (p.1))
    ]
