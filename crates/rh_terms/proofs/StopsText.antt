-- The same of whole texts.
use Rattle.std.proofs.Common.{◌≡◌, ◌<◌, ◌≤◌, ℕ, zero, suc, List, [], ◌∷◌, ◌++◌, Bool, true, false, cond}
use Rattle.std.proofs.Common.{Ok, Err, length, drop, refl, sym, ap, subst, ◌∙◌, append_assoc}
use Rattle.std.proofs.Common.{arith, inl, inr, length-append}
use Rattle.std.specs.Prelude.{◌==◌, ◌||◌}
use Rattle.std.proofs.lemmas.Bool.Decides.{nat_tests}
use Rattle.rh_terms.specs.declared.nest.TheConstants.{MAX_DEPTH}
use Rattle.rh_terms.specs.declared.fault.Fault.TheVariants.{Syntax}
use Rattle.rh_terms.specs.Bytes.{past_blank, begins, is_end}
use Rattle.rh_terms.specs.Faults.{◌>>=◌, stuck}
use Rattle.rh_base.specs.Tree.{Tree, more}
use Rattle.rh_terms.specs.Grammar.{term_at, dot_at, dotted}
use Rattle.rh_terms.proofs.Spelled.{chosen, begins_is}
use Rattle.rh_terms.proofs.Whole.{dot_is}
use Rattle.rh_terms.proofs.Found.{bind_err, err_is}
use Rattle.rh_terms.proofs.FoundText.{ends_some}
use Rattle.rh_terms.proofs.Read.{dot_read}
use Rattle.rh_terms.proofs.Enough.{term_length, blank_length, dot_length}
use Rattle.rh_terms.proofs.Stops.{IsErr, first_err, second_err, Stops, begins_same, stuck_is, test_first, at_stuck, blank_stays}
use Rattle.rh_terms.proofs.Again.{Alike, alike, Again, term_again}
use Rattle.rh_terms.proofs.StopsInside.{regroup, term_stops}

no_dot : (b : ℕ) (after : List ℕ) → (b == 46) ≡ false → IsErr (dot_at (b ∷ after))
unfolding dot_at
no_dot b after e = rw e (stuck (b ∷ after), refl)

no_end : (b : ℕ) (after : List ℕ) → is_end b ≡ false → IsErr (dot_at (46 ∷ (b ∷ after)))
unfolding dot_at
no_end b after e =
    let one : (length (46 ∷ (b ∷ after)) == 1) ≡ false = grind (arith, nat_tests) in
    rw (one, e) (stuck (b ∷ after), refl)

or_false : (a b : Bool) → (a || b) ≡ false → b ≡ false
or_false true b e = absurd cc
or_false false b e = e

dot_stops : (bs : List ℕ) (left : ℕ) → 0 < left → dot_at bs ≡ Err (Syntax left) → Stops (λ k. IsErr (dot_at k)) bs left
unfolding dot_at
dot_stops bs left some e =
    let P : List ℕ → Type 0 = λ l. Stops (λ k. IsErr (dot_at k)) l left in
    elim (chosen (begins (λ b. b == 46) bs) (cond ((length bs == 1) || begins is_end (drop 1 bs)) (Ok (drop 1 bs)) (Err (stuck (drop 1 bs))))
    (Err (stuck bs)) (Err (Syntax left)) e) [
      | inl p ↦ elim (chosen ((length bs == 1) || begins is_end (drop 1 bs)) (Ok (drop 1 bs)) (Err (stuck (drop 1 bs))) (Err (Syntax left)) p.1) [
        | inl q ↦ absurd (cc (q.1))
        | inr q ↦
            let s = stuck_is (drop 1 bs) left some (err_is {B = List ℕ} (stuck (drop 1 bs)) (Syntax left) q.1) in
            let no : is_end s.first ≡ false = test_first is_end (drop 1 bs) left s false (or_false (length bs == 1) (begins is_end (drop 1 bs)) q.0) in
            let whole : bs ≡ 46 ∷ (s.first ∷ s.others) = begins_is 46 bs p.0 ∙ ap (λ (l : List ℕ). 46 ∷ l) s.parts in
            record {
              front = 46 ∷ [];
              first = s.first;
              others = s.others;
              parts = whole;
              left_is = s.left_is;
              is = λ after. no_end s.first after no;
            }
      ]
      | inr p ↦
          let s = stuck_is bs left some (err_is {B = List ℕ} (stuck bs) (Syntax left) p.1) in
          at_stuck (λ k. IsErr (dot_at k)) bs left s (λ after. no_dot s.first after (test_first (λ b. b == 46) bs left s false p.0))
    ]

abbrev pub TextFails : List ℕ → Type 0
TextFails l = (m : ℕ) → IsErr (dotted m l)

term_fails : (l : List ℕ) → 0 < length l → IsErr (term_at MAX_DEPTH l) → TextFails l
unfolding dotted
term_fails [] some h m = absurd (omega arith)
term_fails (c ∷ l) some h zero = (stuck (c ∷ l), refl)
term_fails (c ∷ l) some h (suc m) = first_err (term_at MAX_DEPTH (c ∷ l)) _ h

dot_fails : (l behind : List ℕ) (t : Tree) → 0 < length l → Again (term_at MAX_DEPTH l) (t, behind) → IsErr (dot_at (past_blank behind)) → TextFails l
unfolding dotted
dot_fails [] behind t some h d m = absurd (omega arith)
dot_fails (c ∷ l) behind t some (inl h) d zero = (stuck (c ∷ l), refl)
dot_fails (c ∷ l) behind t some (inr h) d zero = (stuck (c ∷ l), refl)
dot_fails (c ∷ l) behind t some (inl h) d (suc m) = first_err (term_at MAX_DEPTH (c ∷ l)) _ h
dot_fails (c ∷ l) behind t some (inr h) d (suc m) =
    second_err (term_at MAX_DEPTH (c ∷ l)) _ (t, behind) h (first_err (dot_at (past_blank behind)) _ d)

rest_fails : (l behind rest : List ℕ) (t : Tree) → 0 < length l → Again (term_at MAX_DEPTH l) (t, behind) → dot_at (past_blank behind) ≡ Ok rest
    → TextFails (past_blank rest) → TextFails l
unfolding dotted
rest_fails [] behind rest t some h d f m = absurd (omega arith)
rest_fails (c ∷ l) behind rest t some (inl h) d f zero = (stuck (c ∷ l), refl)
rest_fails (c ∷ l) behind rest t some (inr h) d f zero = (stuck (c ∷ l), refl)
rest_fails (c ∷ l) behind rest t some (inl h) d f (suc m) = first_err (term_at MAX_DEPTH (c ∷ l)) _ h
rest_fails (c ∷ l) behind rest t some (inr h) d f (suc m) =
    second_err (term_at MAX_DEPTH (c ∷ l)) _ (t, behind) h (second_err (dot_at (past_blank behind)) _ rest d
    (first_err (dotted m (past_blank rest)) _ (f m)))

abbrev pub WholeFails : List ℕ → Type 0
WholeFails l = TextFails (past_blank l)

whole_fails : (l rest : List ℕ) → past_blank l ≡ rest → TextFails rest → WholeFails l
whole_fails l rest e f = subst TextFails (sym e) f

some_there : (front : List ℕ) (first : ℕ) (after : List ℕ) → 0 < length (front ++ first ∷ after)
some_there front first after = omega (arith, length-append front (first ∷ after))

there_behind : (a front : List ℕ) (first : ℕ) (after : List ℕ) → 0 < length (a ++ (front ++ first ∷ after))
there_behind a front first after = omega (arith, length-append a (front ++ first ∷ after), length-append front (first ∷ after))

-- the fault stands behind a term, or behind its dot
dot_stops_behind : (bs l : List ℕ) (left : ℕ) (t : Tree) (behind : List ℕ) → past_blank bs ≡ l → 0 < left → term_at MAX_DEPTH l ≡ Ok (t, behind)
    → dot_at (past_blank behind) ≡ Err (Syntax left) → Stops WholeFails bs left
dot_stops_behind bs l left t behind blank some e dot =
    let d = dot_stops (past_blank behind) left some dot in
    let b = blank_stays behind d.front d.first d.others d.parts in
    let u = term_again MAX_DEPTH l t behind e in
    let parts : l ≡ (u.text ++ (b.text ++ d.front)) ++ d.first ∷ d.others =
    u.parts ∙ ap (λ (k : List ℕ). u.text ++ k) b.parts ∙ sym (regroup u.text b.text d.front (d.first ∷ d.others)) in
    let inner : List ℕ = u.text ++ (b.text ++ d.front) in
    let a = blank_stays bs inner d.first d.others (blank ∙ parts) in
    record {
      front = a.text ++ inner;
      first = d.first;
      others = d.others;
      parts = a.parts ∙ sym (append_assoc a.text inner (d.first ∷ d.others));
      left_is = d.left_is;
      is = λ after.
          let rest : List ℕ = d.front ++ d.first ∷ after in
          let k : List ℕ = b.text ++ rest in
          let like : Alike behind k =
          let P : List ℕ → Type 0 = λ y. Alike y k in
          subst P (sym (b.parts ∙ sym (append_assoc b.text d.front (d.first ∷ d.others))))
          (let Q : List ℕ → Type 0 = λ y. Alike ((b.text ++ d.front) ++ d.first ∷ d.others) y in
          subst Q (append_assoc b.text d.front (d.first ∷ after)) (alike (b.text ++ d.front) d.first d.others after)) in
          let fails : IsErr (dot_at (past_blank k)) =
          let P : List ℕ → Type 0 = λ y. IsErr (dot_at y) in subst P (sym (b.is after)) (d.is after) in
          let read : TextFails (u.text ++ k) = dot_fails (u.text ++ k) k t
          (omega (arith, length-append u.text k, there_behind b.text d.front d.first after)) (u.is k like) fails in
          let here : TextFails (inner ++ d.first ∷ after) = subst TextFails (sym (regroup u.text b.text d.front (d.first ∷ after))) read in
          subst WholeFails (sym (append_assoc a.text inner (d.first ∷ after)))
          (whole_fails (a.text ++ (inner ++ d.first ∷ after)) (inner ++ d.first ∷ after) (a.is after) here);
    }

-- the fault stands in the terms behind a dot
dot_stops_later : (bs l : List ℕ) (left : ℕ) (t : Tree) (behind rest : List ℕ) → past_blank bs ≡ l → term_at MAX_DEPTH l ≡ Ok (t, behind)
    → dot_at (past_blank behind) ≡ Ok rest → Stops WholeFails rest left → Stops WholeFails bs left
dot_stops_later bs l left t behind rest blank e dot f =
    let d = dot_is (past_blank behind) rest dot in
    let ends : begins is_end (f.front ++ f.first ∷ f.others) ≡ true = ends_some rest f.front f.first f.others f.parts d.1 in
    let b = blank_stays behind (46 ∷ f.front) f.first f.others (d.0 ∙ ap (λ (k : List ℕ). 46 ∷ k) f.parts) in
    let u = term_again MAX_DEPTH l t behind e in
    let front : List ℕ = 46 ∷ f.front in
    let parts : l ≡ (u.text ++ (b.text ++ front)) ++ f.first ∷ f.others =
    u.parts ∙ ap (λ (k : List ℕ). u.text ++ k) b.parts ∙ sym (regroup u.text b.text front (f.first ∷ f.others)) in
    let inner : List ℕ = u.text ++ (b.text ++ front) in
    let a = blank_stays bs inner f.first f.others (blank ∙ parts) in
    record {
      front = a.text ++ inner;
      first = f.first;
      others = f.others;
      parts = a.parts ∙ sym (append_assoc a.text inner (f.first ∷ f.others));
      left_is = f.left_is;
      is = λ after.
          let last : List ℕ = f.front ++ f.first ∷ after in
          let k : List ℕ = b.text ++ (46 ∷ last) in
          let like : Alike behind k =
          let P : List ℕ → Type 0 = λ y. Alike y k in
          subst P (sym (b.parts ∙ sym (append_assoc b.text front (f.first ∷ f.others))))
          (let Q : List ℕ → Type 0 = λ y. Alike ((b.text ++ front) ++ f.first ∷ f.others) y in
          subst Q (append_assoc b.text front (f.first ∷ after)) (alike (b.text ++ front) f.first f.others after)) in
          let ok : dot_at (past_blank k) ≡ Ok last =
          ap (λ (y : List ℕ). dot_at y) (b.is after) ∙ dot_read last (inr (begins_same is_end f.front f.first after f.others ∙ ends)) in
          let read : TextFails (u.text ++ k) = rest_fails (u.text ++ k) k last t
          (omega (arith, length-append u.text k, length-append b.text (46 ∷ last))) (u.is k like) ok (f.is after) in
          let here : TextFails (inner ++ f.first ∷ after) = subst TextFails (sym (regroup u.text b.text front (f.first ∷ after))) read in
          subst WholeFails (sym (append_assoc a.text inner (f.first ∷ after)))
          (whole_fails (a.text ++ (inner ++ f.first ∷ after)) (inner ++ f.first ∷ after) (a.is after) here);
    }

pub dotted_stops : (n : ℕ) (bs l : List ℕ) (left : ℕ) → past_blank bs ≡ l → length l ≤ n → 0 < left → dotted n l ≡ Err (Syntax left)
    → Stops WholeFails bs left
unfolding dotted
dotted_stops n bs [] left blank fuel some e = absurd cc
dotted_stops zero bs (c ∷ l) left blank fuel some e = absurd (omega arith)
dotted_stops (suc n) bs (c ∷ l) left blank fuel some e =
    elim (bind_err (term_at MAX_DEPTH (c ∷ l)) (λ x. dot_at (past_blank x.1) >>= λ rest. dotted n (past_blank rest) >>= λ ts. Ok (more x.0 ts))
    (Syntax left) e) [
      | inl h ↦
          let s = term_stops MAX_DEPTH (c ∷ l) left some h in
          let a = blank_stays bs s.front s.first s.others (blank ∙ s.parts) in
          record {
            front = a.text ++ s.front;
            first = s.first;
            others = s.others;
            parts = a.parts ∙ sym (append_assoc a.text s.front (s.first ∷ s.others));
            left_is = s.left_is;
            is = λ after.
                let rest : List ℕ = s.front ++ s.first ∷ after in
                subst WholeFails (sym (append_assoc a.text s.front (s.first ∷ after)))
                (whole_fails (a.text ++ rest) rest (a.is after) (term_fails rest (some_there s.front s.first after) (s.is after)));
          }
      | inr h ↦
          let x = h.0 in
          elim (bind_err (dot_at (past_blank x.1)) (λ rest. dotted n (past_blank rest) >>= λ ts. Ok (more x.0 ts)) (Syntax left) h.2) [
            | inl k ↦ dot_stops_behind bs (c ∷ l) left x.0 x.1 blank some h.1 k
            | inr k ↦ elim (bind_err (dotted n (past_blank k.0)) (λ ts. Ok (more x.0 ts)) (Syntax left) k.2) [
              | inl r ↦
                  let least : length (past_blank k.0) ≤ n =
                  omega (arith, fuel, term_length MAX_DEPTH (c ∷ l) x.0 x.1 h.1, dot_length (past_blank x.1) k.0 k.1, blank_length x.1, blank_length k.0) in
                  dot_stops_later bs (c ∷ l) left x.0 x.1 k.0 blank h.1 k.1 (dotted_stops n k.0 (past_blank k.0) left refl least some r)
              | inr r ↦ absurd (cc (r.2))
            ]
          ]
    ]
