-- What is read before a byte is read again, or fails, whatever comes behind the byte.
use Rattle.std.proofs.Common.{◌≡◌, ◌<◌, ℕ, suc, List, [], ◌∷◌, ◌++◌, Bool, true, false, Result}
use Rattle.std.proofs.Common.{Ok, Err, length, take, drop, refl, sym, ap, subst, ◌∙◌, append_assoc}
use Rattle.std.proofs.Common.{arith, inl, inr}
use Rattle.std.specs.Prelude.{◌==◌, not, ◌⊎◌}
use Rattle.std.specs.List.{prefix_len, list_all}
use Rattle.std.proofs.Math.Seq.{take-append_seam, drop-append_seam}
use Rattle.std.proofs.lemmas.Bool.Decides.{nat_tests}
use Rattle.rh_terms.specs.declared.fault.Fault.{Fault}
use Rattle.rh_terms.specs.declared.fault.Fault.TheVariants.{Unsupported, IntRange}
use Rattle.rh_terms.specs.Bytes.{past_blank, begins, is_atom_byte, is_digit}
use Rattle.rh_terms.specs.Faults.{Read, under, stuck}
use Rattle.rh_terms.specs.Tokens.{number, fits, signed, is_other_number, digits_at, name_at, text_at}
use Rattle.rh_base.specs.Tree.{Tree, Trees, atom, int, text, list, tuple}
use Rattle.rh_terms.specs.Grammar.{next_at, inside, term_at}
use Rattle.rh_terms.specs.Spelling.{IsQuoted, Spells}
use Rattle.rh_terms.proofs.Spelled.{chosen, blank_is, ok_is, term_spelled, next_more}
use Rattle.rh_terms.proofs.Read.{prefix_step, prefix_end, prefix_all, name_term, digits_term, minus_term, quoted_term, text_term, list_term}
use Rattle.rh_terms.proofs.Read.{tuple_term, inside_read, quoted_read, atom_read, next_comma}
use Rattle.rh_terms.proofs.Stops.{IsErr, blank_stays}

-- the same first byte
pub record Alike (x y : List ℕ) : Type 0 where
  pub first : ℕ
  pub others_x : List ℕ
  pub others_y : List ℕ
  pub is_x : x ≡ first ∷ others_x
  pub is_y : y ≡ first ∷ others_y

pub alike : (front : List ℕ) (first : ℕ) (x y : List ℕ) → Alike (front ++ first ∷ x) (front ++ first ∷ y)
alike [] first x y = record { first = first; others_x = x; others_y = y; is_x = refl; is_y = refl }
alike (c ∷ front) first x y = record { first = c; others_x = front ++ first ∷ x; others_y = front ++ first ∷ y; is_x = refl; is_y = refl }

prefix_stops_cons : (p : ℕ → Bool) (b : ℕ) (bs : List ℕ) (v : Bool) → p b ≡ v → begins p (drop (prefix_len p bs) bs) ≡ false
    → begins p (drop (prefix_len p (b ∷ bs)) (b ∷ bs)) ≡ false
prefix_stops_cons p b bs true e h =
    let n : prefix_len p (b ∷ bs) ≡ suc (prefix_len p bs) = prefix_step p b bs e in
    rw n h
prefix_stops_cons p b bs false e h =
    let n : prefix_len p (b ∷ bs) ≡ 0 = prefix_end p (b ∷ bs) e in
    rw n e

prefix_stops : (p : ℕ → Bool) (bs : List ℕ) → begins p (drop (prefix_len p bs) bs) ≡ false
prefix_stops p [] = refl
prefix_stops p (b ∷ bs) = prefix_stops_cons p b bs (p b) refl (prefix_stops p bs)

name_ends : (bs : List ℕ) (t : Tree) (rest : List ℕ) → name_at bs ≡ Ok (t, rest) → begins is_atom_byte rest ≡ false
unfolding name_at
name_ends bs t rest e =
    let n = prefix_len is_atom_byte bs in
    let made : Tree × List ℕ = (atom (take n bs), drop n bs) in
    let P : Tree × List ℕ → Type 0 = λ y. begins is_atom_byte y.1 ≡ false in
    subst P (ok_is made (t, rest) e) (prefix_stops is_atom_byte bs)

digits_end : (minus : Bool) (bs : List ℕ) (t : Tree) (rest : List ℕ) → digits_at minus bs ≡ Ok (t, rest) → begins is_digit rest ≡ false
unfolding digits_at
digits_end minus bs t rest e =
    let n = prefix_len is_digit bs in
    elim (chosen (n == 0) (Err (stuck bs)) _ (Ok (t, rest)) e) [
      | inl p ↦ let h : ◌≡◌ {A = Read Tree} (Err (stuck bs)) (Ok (t, rest)) = p.1 in absurd cc
      | inr p ↦ elim (chosen (not (fits minus (number (take n bs)))) (Err IntRange) _ (Ok (t, rest)) p.1) [
        | inl q ↦ let h : ◌≡◌ {A = Read Tree} (Err IntRange) (Ok (t, rest)) = q.1 in absurd cc
        | inr q ↦
            elim (chosen (is_other_number (drop n bs)) (Err (Unsupported (length (drop n bs))))
            (Ok (int (signed minus (number (take n bs))), drop n bs)) (Ok (t, rest)) q.1) [
              | inl r ↦ let h : ◌≡◌ {A = Read Tree} (Err (Unsupported (length (drop n bs)))) (Ok (t, rest)) = r.1 in absurd cc
              | inr r ↦
                  let made : Tree × List ℕ = (int (signed minus (number (take n bs))), drop n bs) in
                  let P : Tree × List ℕ → Type 0 = λ y. begins is_digit y.1 ≡ false in
                  subst P (ok_is made (t, rest) r.1) (prefix_stops is_digit bs)
            ]
      ]
    ]

-- It fails, or it is read as before.
abbrev pub Again : {A : Type 0} → Result A Fault → A → Type 0
Again r x = IsErr r ⊎ (r ≡ Ok x)

again_as : {A : Type 0} (x y : Result A Fault) (z : A) → x ≡ y → Again y z → Again x z
again_as {A} x y z e h = let P : Result A Fault → Type 0 = λ r. Again r z in subst P (sym e) h

name_again : (s : List ℕ) (c : ℕ) (y : List ℕ) → list_all is_atom_byte s ≡ true → is_atom_byte c ≡ false → Again (name_at (s ++ c ∷ y)) (atom s, c ∷ y)
unfolding name_at
name_again s c y all ends =
    let n : prefix_len is_atom_byte (s ++ c ∷ y) ≡ length s = prefix_all is_atom_byte s (c ∷ y) all ends in
    inr (rw (n, take-append_seam s (c ∷ y), drop-append_seam s (c ∷ y)) refl)

digits_by : (minus : Bool) (s : List ℕ) (c : ℕ) (y : List ℕ) (v : Bool) → is_other_number (c ∷ y) ≡ v → 0 < length s → list_all is_digit s ≡ true
    → fits minus (number s) ≡ true → is_digit c ≡ false → Again (digits_at minus (s ++ c ∷ y)) (int (signed minus (number s)), c ∷ y)
unfolding digits_at
digits_by minus s c y true is some all fit ends =
    let n : prefix_len is_digit (s ++ c ∷ y) ≡ length s = prefix_all is_digit s (c ∷ y) all ends in
    let t : (length s == 0) ≡ false = grind (arith, nat_tests, some) in
    inl (rw (n, take-append_seam s (c ∷ y), drop-append_seam s (c ∷ y), t, fit, is) (Unsupported (length (c ∷ y)), refl))
digits_by minus s c y false is some all fit ends =
    let n : prefix_len is_digit (s ++ c ∷ y) ≡ length s = prefix_all is_digit s (c ∷ y) all ends in
    let t : (length s == 0) ≡ false = grind (arith, nat_tests, some) in
    inr (rw (n, take-append_seam s (c ∷ y), drop-append_seam s (c ∷ y), t, fit, is) refl)

text_by : (s content rest : List ℕ) (v : Bool) → begins (λ b. b == 34) (past_blank rest) ≡ v → IsQuoted 34 s content
    → Again (text_at ((s ++ 34 ∷ []) ++ rest)) (text content, rest)
unfolding text_at
text_by s content rest true e h =
    inl (rw (append_assoc s (34 ∷ []) rest, quoted_read 34 s content rest refl refl h, e) (Unsupported (length (past_blank rest)), refl))
text_by s content rest false e h = inr (rw (append_assoc s (34 ∷ []) rest, quoted_read 34 s content rest refl refl h, e) refl)

spelled_again : (room : ℕ) (t : Tree) (s : List ℕ) → Spells room t s → (c : ℕ) (x y : List ℕ) (u : Tree) → term_at room (s ++ c ∷ x) ≡ Ok (u, c ∷ x)
    → Again (term_at room (s ++ c ∷ y)) (t, c ∷ y)
spelled_again room t s (Spells.name r name first all) c x y u e =
    let ends : is_atom_byte c ≡ false = name_ends (name ++ c ∷ x) u (c ∷ x) (sym (name_term (inside r) name (c ∷ x) first) ∙ e) in
    again_as (term_at r (name ++ c ∷ y)) (name_at (name ++ c ∷ y)) (atom name, c ∷ y) (name_term (inside r) name (c ∷ y) first) (name_again name c y all ends)
spelled_again room t s (Spells.quoted_atom r q content h) c x y u e =
    inr (quoted_term (inside r) ((q ++ 39 ∷ []) ++ c ∷ y) ∙ atom_read q content (c ∷ y) h)
spelled_again room t s (Spells.text_of r q content h) c x y u e =
    again_as (term_at r (34 ∷ ((q ++ 34 ∷ []) ++ c ∷ y))) (text_at ((q ++ 34 ∷ []) ++ c ∷ y)) (text content, c ∷ y)
    (text_term (inside r) ((q ++ 34 ∷ []) ++ c ∷ y)) (text_by q content (c ∷ y) (begins (λ b. b == 34) (past_blank (c ∷ y))) refl h)
spelled_again room t s (Spells.integer r d some all fit) c x y u e =
    let ends : is_digit c ≡ false = digits_end false (d ++ c ∷ x) u (c ∷ x) (sym (digits_term (inside r) d (c ∷ x) some all) ∙ e) in
    again_as (term_at r (d ++ c ∷ y)) (digits_at false (d ++ c ∷ y)) (int (signed false (number d)), c ∷ y) (digits_term (inside r) d (c ∷ y) some all)
    (digits_by false d c y (is_other_number (c ∷ y)) refl some all fit ends)
spelled_again room t s (Spells.minus r d some all fit) c x y u e =
    let ends : is_digit c ≡ false = digits_end true (d ++ c ∷ x) u (c ∷ x) (sym (minus_term (inside r) (d ++ c ∷ x)) ∙ e) in
    again_as (term_at r (45 ∷ (d ++ c ∷ y))) (digits_at true (d ++ c ∷ y)) (int (signed true (number d)), c ∷ y) (minus_term (inside r) (d ++ c ∷ y))
    (digits_by true d c y (is_other_number (c ∷ y)) refl some all fit ends)
spelled_again room t s (Spells.list_of inner ts q h) c x y u e =
    inr (list_term inner q (c ∷ y) ∙ ap (λ (r : Read Trees). under list r) (inside_read inner ts q h 93 (c ∷ y) (inl refl)))
spelled_again room t s (Spells.tuple_of inner ts q h) c x y u e =
    inr (tuple_term inner q (c ∷ y) ∙ ap (λ (r : Read Trees). under tuple r) (inside_read inner ts q h 125 (c ∷ y) (inr refl)))

-- a term, and what it is read as where other bytes stand behind it
pub record TermAgain (room : ℕ) (bs : List ℕ) (t : Tree) (rest : List ℕ) : Type 0 where
  pub text : List ℕ
  pub parts : bs ≡ text ++ rest
  pub is : (l : List ℕ) → Alike rest l → Again (term_at room (text ++ l)) (t, l)

pub term_again : (room : ℕ) (bs : List ℕ) (t : Tree) (rest : List ℕ) → term_at room bs ≡ Ok (t, rest) → TermAgain room bs t rest
term_again room bs t rest e =
    let s = term_spelled room bs t rest e in
    record {
      text = s.text;
      parts = s.parts;
      is = λ l a.
          let P : List ℕ → Type 0 = λ k. term_at room k ≡ Ok (t, rest) in
          let whole : term_at room (s.text ++ rest) ≡ Ok (t, rest) = subst P s.parts e in
          let Q : List ℕ → Type 0 = λ k. term_at room (s.text ++ k) ≡ Ok (t, k) in
          let R : List ℕ → Type 0 = λ k. Again (term_at room (s.text ++ k)) (t, k) in
          subst R (sym a.is_y) (spelled_again room t s.text s.is a.first a.others_x a.others_y t (subst Q a.is_x whole));
    }

-- a comma, and what it is read as where other bytes stand behind the place
pub record CommaAgain (close : ℕ) (behind front : List ℕ) (first : ℕ) (others : List ℕ) : Type 0 where
  pub text : List ℕ
  pub parts : behind ≡ text ++ (front ++ first ∷ others)
  pub is : (after : List ℕ) → next_at close (past_blank (text ++ (front ++ first ∷ after))) ≡ Ok (true, front ++ first ∷ after)

regroup_blanks : (b a rest : List ℕ) → b ++ 44 ∷ (a ++ rest) ≡ (b ++ 44 ∷ a) ++ rest
regroup_blanks b a rest = simp append_assoc

pub comma_again : (close : ℕ) (behind front : List ℕ) (first : ℕ) (others : List ℕ) → next_at close (past_blank behind) ≡ Ok (true, front ++ first ∷ others)
    → CommaAgain close behind front first others
comma_again close behind front first others e =
    let n = next_more close (past_blank behind) (front ++ first ∷ others) e in
    let b = blank_is behind 44 (drop 1 (past_blank behind)) n.0 in
    let a = blank_stays (drop 1 (past_blank behind)) front first others n.1 in
    record {
      text = b.text ++ 44 ∷ a.text;
      parts = b.parts ∙ ap (λ (l : List ℕ). b.text ++ 44 ∷ l) a.parts ∙ regroup_blanks b.text a.text (front ++ first ∷ others);
      is = λ after.
          let rest : List ℕ = front ++ first ∷ after in
          ap (λ (l : List ℕ). next_at close (past_blank l)) (sym (regroup_blanks b.text a.text rest))
          ∙ next_comma close b.text (a.text ++ rest) b.is ∙ ap (λ (l : List ℕ). Ok (true, l)) (a.is after);
    }
