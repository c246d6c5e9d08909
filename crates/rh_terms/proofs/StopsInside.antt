-- Where a term has a syntax fault at a byte, none that begins with the bytes up to this one is read.
use Rattle.std.proofs.Common.{◌≡◌, ◌<◌, ◌≤◌, ℕ, zero, suc, List, [], ◌∷◌, ◌++◌, Bool, true, false, cond}
use Rattle.std.proofs.Common.{Ok, Err, length, drop, refl, sym, ap, subst, ◌∙◌, append_assoc}
use Rattle.std.proofs.Common.{arith, inl, inr}
use Rattle.std.specs.Prelude.{◌==◌, ◌&&◌}
use Rattle.rh_terms.specs.declared.fault.Fault.TheVariants.{Syntax, Unsupported}
use Rattle.rh_terms.specs.Bytes.{past_blank, begins}
use Rattle.rh_terms.specs.Faults.{◌>>=◌, under, stuck}
use Rattle.rh_base.specs.Tree.{Tree, list, tuple, none, more}
use Rattle.rh_terms.specs.Grammar.{word_at, term_by, next_at, some_terms, terms_up_to, inside, term_at}
use Rattle.rh_terms.proofs.Spelled.{chosen, begins_is}
use Rattle.rh_terms.proofs.Found.{bind_err, err_is}
use Rattle.rh_terms.proofs.Enough.{term_length, next_length, blank_length}
use Rattle.rh_terms.proofs.Stops.{IsErr, first_err, second_err, Stops, later, same_test, Stuck, stuck_is, test_first}
use Rattle.rh_terms.proofs.Stops.{blank_stays, StopsRead, word_stops, under_syntax}
use Rattle.rh_terms.proofs.Again.{Alike, alike, Again, term_again, comma_again}

-- what can't stand behind an element
record NextStops (close : ℕ) (bs : List ℕ) (left : ℕ) : Type 0 where
  stuck_at : Stuck bs left
  is : (after : List ℕ) → IsErr (next_at close (stuck_at.first ∷ after))

no_next : (close b : ℕ) (after : List ℕ) → (b == 44) ≡ false → (b == close) ≡ false → ((close == 93) && (b == 124)) ≡ false → IsErr (next_at close (b ∷ after))
unfolding next_at
no_next close b after c k r = rw (c, k, r) (stuck (b ∷ after), refl)

next_stops : (close : ℕ) (bs : List ℕ) (left : ℕ) → 0 < left → next_at close bs ≡ Err (Syntax left) → NextStops close bs left
unfolding next_at
next_stops close bs left some e = elim (chosen (begins (λ b. b == 44) bs) (Ok (true, past_blank (drop 1 bs))) _ (Err (Syntax left)) e) [
  | inl p ↦ absurd (cc (p.1))
  | inr p ↦ elim (chosen (begins (λ b. b == close) bs) (Ok (false, drop 1 bs)) _ (Err (Syntax left)) p.1) [
    | inl q ↦ absurd (cc (q.1))
    | inr q ↦ elim (chosen ((close == 93) && begins (λ b. b == 124) bs) (Err (Unsupported (length bs))) (Err (stuck bs)) (Err (Syntax left)) q.1) [
      | inl r ↦ absurd (cc (r.1))
      | inr r ↦
          let s = stuck_is bs left some (err_is {B = Bool × List ℕ} (stuck bs) (Syntax left) r.1) in
          let bar : ((close == 93) && (s.first == 124)) ≡ false =
          ap (λ (l : List ℕ). (close == 93) && begins (λ b. b == 124) l) (sym s.parts) ∙ r.0 in
          record {
            stuck_at = s;
            is = λ after. no_next close s.first after (test_first (λ b. b == 44) bs left s false p.0) (test_first (λ b. b == close) bs left s false q.0) bar;
          }
    ]
  ]
]

abbrev ElementsFail : ℕ → ℕ → List ℕ → Type 0
ElementsFail room close l = (m : ℕ) → IsErr (some_terms (term_at room) close m l)

element_fails : (room close : ℕ) (l : List ℕ) → IsErr (term_at room l) → ElementsFail room close l
unfolding some_terms
element_fails room close l h zero = (stuck l, refl)
element_fails room close l h (suc m) = first_err (term_at room l) _ h

next_fails : (room close : ℕ) (l behind : List ℕ) (t : Tree) → Again (term_at room l) (t, behind) → IsErr (next_at close (past_blank behind))
    → ElementsFail room close l
unfolding some_terms
next_fails room close l behind t (inl h) n zero = (stuck l, refl)
next_fails room close l behind t (inr h) n zero = (stuck l, refl)
next_fails room close l behind t (inl h) n (suc m) = first_err (term_at room l) _ h
next_fails room close l behind t (inr h) n (suc m) = second_err (term_at room l) _ (t, behind) h (first_err (next_at close (past_blank behind)) _ n)

others_fail : (room close : ℕ) (l behind from : List ℕ) (t : Tree) → Again (term_at room l) (t, behind)
    → next_at close (past_blank behind) ≡ Ok (true, from) → ElementsFail room close from → ElementsFail room close l
unfolding some_terms
others_fail room close l behind from t (inl h) n f zero = (stuck l, refl)
others_fail room close l behind from t (inr h) n f zero = (stuck l, refl)
others_fail room close l behind from t (inl h) n f (suc m) = first_err (term_at room l) _ h
others_fail room close l behind from t (inr h) n f (suc m) =
    second_err (term_at room l) _ (t, behind) h (second_err (next_at close (past_blank behind)) _ (true, from) n
    (first_err (some_terms (term_at room) close m from) _ (f m)))

pub regroup : (s n f tail : List ℕ) → (s ++ (n ++ f)) ++ tail ≡ s ++ (n ++ (f ++ tail))
regroup s n f tail = simp append_assoc

-- the fault stands behind an element
stops_behind : (room close : ℕ) (bs : List ℕ) (left : ℕ) (t : Tree) (behind : List ℕ) → 0 < left → term_at room bs ≡ Ok (t, behind)
    → next_at close (past_blank behind) ≡ Err (Syntax left) → Stops (ElementsFail room close) bs left
stops_behind room close bs left t behind some e next =
    let n = next_stops close (past_blank behind) left some next in
    let s = n.stuck_at in
    let b = blank_stays behind [] s.first s.others s.parts in
    let u = term_again room bs t behind e in
    record {
      front = u.text ++ (b.text ++ []);
      first = s.first;
      others = s.others;
      parts = u.parts ∙ ap (λ (l : List ℕ). u.text ++ l) b.parts ∙ sym (regroup u.text b.text [] (s.first ∷ s.others));
      left_is = s.left_is;
      is = λ after.
          let l : List ℕ = b.text ++ s.first ∷ after in
          let a : Alike behind l =
          let P : List ℕ → Type 0 = λ k. Alike k l in subst P (sym b.parts) (alike b.text s.first s.others after) in
          let fails : IsErr (next_at close (past_blank l)) =
          let P : List ℕ → Type 0 = λ k. IsErr (next_at close k) in subst P (sym (b.is after)) (n.is after) in
          subst (ElementsFail room close) (sym (regroup u.text b.text [] (s.first ∷ after))) (next_fails room close (u.text ++ l) l t (u.is l a) fails);
    }

-- the fault stands in the elements behind a comma
stops_later : (room close : ℕ) (bs : List ℕ) (left : ℕ) (t : Tree) (behind from : List ℕ) → term_at room bs ≡ Ok (t, behind)
    → next_at close (past_blank behind) ≡ Ok (true, from) → Stops (ElementsFail room close) from left → Stops (ElementsFail room close) bs left
stops_later room close bs left t behind from e next f =
    let n = comma_again close behind f.front f.first f.others (next ∙ ap (λ (l : List ℕ). Ok (true, l)) f.parts) in
    let u = term_again room bs t behind e in
    record {
      front = u.text ++ (n.text ++ f.front);
      first = f.first;
      others = f.others;
      parts = u.parts ∙ ap (λ (l : List ℕ). u.text ++ l) n.parts ∙ sym (regroup u.text n.text f.front (f.first ∷ f.others));
      left_is = f.left_is;
      is = λ after.
          let rest : List ℕ = f.front ++ f.first ∷ after in
          let l : List ℕ = n.text ++ rest in
          let a : Alike behind l =
          let P : List ℕ → Type 0 = λ k. Alike k l in
          subst P (sym (n.parts ∙ sym (append_assoc n.text f.front (f.first ∷ f.others))))
          (let Q : List ℕ → Type 0 = λ k. Alike ((n.text ++ f.front) ++ f.first ∷ f.others) k in
          subst Q (append_assoc n.text f.front (f.first ∷ after)) (alike (n.text ++ f.front) f.first f.others after)) in
          subst (ElementsFail room close) (sym (regroup u.text n.text f.front (f.first ∷ after)))
          (others_fail room close (u.text ++ l) l rest t (u.is l a) (n.is after) (f.is after));
    }

some_stops : (room close n : ℕ) (bs : List ℕ) (left : ℕ) → StopsRead (term_at room) → length bs ≤ n → 0 < left
    → some_terms (term_at room) close n bs ≡ Err (Syntax left) → Stops (ElementsFail room close) bs left
unfolding some_terms
some_stops room close zero [] left term fuel some e = let same : 0 ≡ left = cc in absurd (omega arith)
some_stops room close zero (b ∷ bs) left term fuel some e = absurd (omega arith)
some_stops room close (suc n) bs left term fuel some e =
    elim (bind_err (term_at room bs) (λ x. next_at close (past_blank x.1) >>= λ next. cond next.0 (under (more x.0) (some_terms (term_at room) close n next.1))
    (Ok (more x.0 none, next.1))) (Syntax left) e) [
      | inl h ↦
          let s = term bs left some h in
          record {
            front = s.front;
            first = s.first;
            others = s.others;
            parts = s.parts;
            left_is = s.left_is;
            is = λ after. element_fails room close (s.front ++ s.first ∷ after) (s.is after);
          }
      | inr h ↦
          let x = h.0 in
          elim (bind_err (next_at close (past_blank x.1)) (λ next. cond next.0 (under (more x.0) (some_terms (term_at room) close n next.1))
          (Ok (more x.0 none, next.1))) (Syntax left) h.2) [
            | inl k ↦ stops_behind room close bs left x.0 x.1 some h.1 k
            | inr k ↦
                let least : length k.0.1 ≤ n =
                omega (arith, fuel, term_length room bs x.0 x.1 h.1, next_length close (past_blank x.1) k.0.0 k.0.1 k.1, blank_length x.1) in
                elim (chosen k.0.0 (under (more x.0) (some_terms (term_at room) close n k.0.1)) (Ok (more x.0 none, k.0.1)) (Err (Syntax left)) k.2) [
                  | inl p ↦
                      let goes : next_at close (past_blank x.1) ≡ Ok (true, k.0.1) = k.1 ∙ ap (λ (v : Bool). Ok (v, k.0.1)) p.0 in
                      elim (bind_err (some_terms (term_at room) close n k.0.1) (λ y. Ok (more x.0 y.0, y.1)) (Syntax left) p.1) [
                        | inl r ↦ stops_later room close bs left x.0 x.1 k.0.1 h.1 goes (some_stops room close n k.0.1 left term least some r)
                        | inr r ↦ absurd (cc (r.2))
                      ]
                  | inr p ↦ absurd (cc (p.1))
                ]
          ]
    ]

inside_fails : (room close : ℕ) (l rest : List ℕ) → past_blank l ≡ rest → begins (λ b. b == close) rest ≡ false → ElementsFail room close rest
    → IsErr (terms_up_to (term_at room) close l)
unfolding terms_up_to
inside_fails room close l rest e closes f = rw (e, closes) (f (length rest))

one_stops : (room close : ℕ) → StopsRead (term_at room) → StopsRead (terms_up_to (term_at room) close)
unfolding terms_up_to
one_stops room close term bs left some e =
    elim (chosen (begins (λ b. b == close) (past_blank bs)) (Ok (none, drop 1 (past_blank bs)))
    (some_terms (term_at room) close (length (past_blank bs)) (past_blank bs)) (Err (Syntax left)) e) [
      | inl p ↦ absurd (cc (p.1))
      | inr p ↦
          let f = some_stops room close (length (past_blank bs)) (past_blank bs) left term (omega arith) some p.1 in
          let b = blank_stays bs f.front f.first f.others f.parts in
          let P : List ℕ → Type 0 = λ l. IsErr (terms_up_to (term_at room) close l) in
          record {
            front = b.text ++ f.front;
            first = f.first;
            others = f.others;
            parts = b.parts ∙ sym (append_assoc b.text f.front (f.first ∷ f.others));
            left_is = f.left_is;
            is = λ after.
                let rest : List ℕ = f.front ++ f.first ∷ after in
                subst P (sym (append_assoc b.text f.front (f.first ∷ after)))
                (inside_fails room close (b.text ++ rest) rest (b.is after)
                (same_test (λ x. x == close) (ElementsFail room close) (past_blank bs) left f after false p.0) (f.is after));
          }
    ]

list_fails : (room : ℕ) (l : List ℕ) → IsErr (inside room 93 l) → IsErr (term_at room (91 ∷ l))
unfolding term_by
list_fails room l h = first_err (inside room 93 l) (λ x. Ok (list x.0, x.1)) h

tuple_fails : (room : ℕ) (l : List ℕ) → IsErr (inside room 125 l) → IsErr (term_at room (123 ∷ l))
unfolding term_by
tuple_fails room l h = first_err (inside room 125 l) (λ x. Ok (tuple x.0, x.1)) h

word_fails : (room : ℕ) (l : List ℕ) → begins (λ b. b == 91) l ≡ false → begins (λ b. b == 123) l ≡ false → IsErr (word_at l) → IsErr (term_at room l)
unfolding term_by
word_fails room l a b h = rw (a, b) h

abbrev StopsInside : ℕ → Type 0
StopsInside room = (close : ℕ) → StopsRead (inside room close)

term_by_stops : (room : ℕ) → StopsInside room → StopsRead (term_at room)
unfolding term_by
term_by_stops room inner bs left some e =
    let P : List ℕ → Type 0 = λ l. Stops (λ k. IsErr (term_at room k)) l left in
    elim (chosen (begins (λ b. b == 91) bs) (under list (inside room 93 (drop 1 bs))) _ (Err (Syntax left)) e) [
      | inl p ↦ subst P (sym (begins_is 91 bs p.0)) (later (λ k. IsErr (inside room 93 k)) (λ k. IsErr (term_at room k)) (91 ∷ []) (drop 1 bs) left
          (λ l h. list_fails room l h) (inner 93 (drop 1 bs) left some (under_syntax list (inside room 93 (drop 1 bs)) left p.1)))
      | inr p ↦ elim (chosen (begins (λ b. b == 123) bs) (under tuple (inside room 125 (drop 1 bs))) (word_at bs) (Err (Syntax left)) p.1) [
        | inl q ↦ subst P (sym (begins_is 123 bs q.0)) (later (λ k. IsErr (inside room 125 k)) (λ k. IsErr (term_at room k)) (123 ∷ []) (drop 1 bs) left
            (λ l h. tuple_fails room l h) (inner 125 (drop 1 bs) left some (under_syntax tuple (inside room 125 (drop 1 bs)) left q.1)))
        | inr q ↦
            let s = word_stops bs left some q.1 in
            let W : List ℕ → Type 0 = λ k. IsErr (word_at k) in
            record {
              front = s.front;
              first = s.first;
              others = s.others;
              parts = s.parts;
              left_is = s.left_is;
              is = λ after. word_fails room (s.front ++ s.first ∷ after) (same_test (λ b. b == 91) W bs left s after false p.0)
                  (same_test (λ b. b == 123) W bs left s after false q.0) (s.is after);
            }
      ]
    ]

inside_stops : (room : ℕ) → StopsInside room
unfolding inside
inside_stops zero close bs left some e = absurd cc
inside_stops (suc room) close bs left some e = one_stops room close (term_by_stops room (inside_stops room)) bs left some e

pub term_stops : (room : ℕ) → StopsRead (term_at room)
term_stops room = term_by_stops room (inside_stops room)
