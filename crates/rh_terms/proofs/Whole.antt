-- A whole text that is read is spelled by its terms.
use Rattle.std.proofs.Common.{◌≡◌, ℕ, zero, suc, List, [], ◌∷◌, ◌++◌, length, drop, Bool, true, false, cond, Result, Ok}
use Rattle.std.proofs.Common.{Err, refl, sym, ap, subst, ◌∙◌, append_assoc, arith, inl, inr}
use Rattle.std.specs.Prelude.{◌==◌, ◌⊎◌, ◌||◌}
use Rattle.std.proofs.lemmas.Bool.{eqb-true}
use Rattle.rh_terms.specs.declared.nest.TheConstants.{MAX_DEPTH}
use Rattle.rh_terms.specs.declared.fault.Fault.{Fault}
use Rattle.rh_terms.specs.Bytes.{past, past_blank, begins, is_white, is_end}
use Rattle.rh_terms.specs.Faults.{◌>>=◌, stuck}
use Rattle.rh_base.specs.Tree.{Trees, none, more}
use Rattle.rh_terms.specs.Grammar.{term_at, dot_at, dotted}
use Rattle.std.proofs.lemmas.List.{append-nil}
use Rattle.rh_terms.specs.Spelling.{InLine, IsBlank, AreDotted}
use Rattle.rh_terms.proofs.Spelled.{bind_ok, chosen, ok_is, begins_is, blank_is, term_spelled}

or_is : (a b : Bool) → a || b ≡ true → (a ≡ true) ⊎ (b ≡ true)
or_is true b e = inl refl
or_is false b e = inr e

abbrev pub EndsDot : List ℕ → Type 0
EndsDot rest = (length rest ≡ 0) ⊎ (begins is_end rest ≡ true)

abbrev read_rest : List ℕ → Result (List ℕ) Fault
read_rest l = Ok l

pub dot_is : (bs rest : List ℕ) → dot_at bs ≡ Ok rest → (bs ≡ 46 ∷ rest) × EndsDot rest
unfolding dot_at
dot_is bs rest e =
    elim (chosen (begins (λ b. b == 46) bs) (cond ((length bs == 1) || begins is_end (drop 1 bs)) (Ok (drop 1 bs)) (Err (stuck (drop 1 bs))))
    (Err (stuck bs)) (Ok rest) e) [
      | inl p ↦ elim (chosen ((length bs == 1) || begins is_end (drop 1 bs)) (Ok (drop 1 bs)) (Err (stuck (drop 1 bs))) (Ok rest) p.1) [
        | inl q ↦
            let first : bs ≡ 46 ∷ drop 1 bs = begins_is 46 bs p.0 in
            let same : drop 1 bs ≡ rest = ok_is (drop 1 bs) rest q.1 in
            let P : List ℕ → Type 0 = λ l. EndsDot l in (
              first ∙ ap (λ (l : List ℕ). 46 ∷ l) same,
              subst P same (elim (or_is (length bs == 1) (begins is_end (drop 1 bs)) q.0) [
                | inl h ↦ let one : length bs ≡ 1 =
                    eqb-true (length bs) 1 h in let more_one : length bs ≡ suc (length (drop 1 bs)) = ap (λ (l : List ℕ). length l) first in inl (omega arith)
                | inr h ↦ inr h
              ]),
            )
        | inr q ↦ let h : ◌≡◌ {A = Result (List ℕ) Fault} (Err (stuck (drop 1 bs))) (Ok rest) = q.1 in absurd cc
      ]
      | inr p ↦ let h : ◌≡◌ {A = Result (List ℕ) Fault} (Err (stuck bs)) (Ok rest) = p.1 in absurd cc
    ]

record Tail (bs : List ℕ) : Type 0 where
  a : List ℕ
  rest : List ℕ
  parts : bs ≡ a ++ rest
  blank : IsBlank a
  ends : (rest ≡ []) ⊎ ((line : List ℕ) × (rest ≡ 37 ∷ line) × InLine line)

record Broken (bs : List ℕ) : Type 0 where
  line : List ℕ
  after : List ℕ
  parts : bs ≡ line ++ 10 ∷ after
  in_line : InLine line
  tail : Tail after

abbrev TailAt : Bool → List ℕ → Type 0
TailAt true bs = InLine bs ⊎ Broken bs
TailAt false bs = Tail bs

tail_is : (inside_comment : Bool) (bs : List ℕ) → past inside_comment bs ≡ [] → TailAt inside_comment bs
unfolding past
tail_is true [] e = inl refl
tail_is false [] e = record { a = []; rest = []; parts = refl; blank = IsBlank.nothing; ends = inl refl }
tail_is true (b ∷ bs) e = elim (chosen (b == 10) (past false bs) (past true bs) [] e) [
  | inl p ↦ inr (record { line = []; after = bs; parts = ap (λ (y : ℕ). y ∷ bs) (eqb-true b 10 p.0); in_line = refl; tail = tail_is false bs p.1 })
  | inr p ↦ elim (tail_is true bs p.1) [
    | inl h ↦ inl (rw p.0 h)
    | inr h ↦ inr (record { line = b ∷ h.line; after = h.after; parts = ap (λ (l : List ℕ). b ∷ l) h.parts; in_line = rw p.0 h.in_line; tail = h.tail })
  ]
]
tail_is false (b ∷ bs) e = elim (chosen (b == 37) (past true bs) (cond (is_white b) (past false bs) (b ∷ bs)) [] e) [
  | inl p ↦ elim (tail_is true bs p.1) [
    | inl h ↦ record { a = []; rest = b ∷ bs; parts = refl; blank = IsBlank.nothing; ends = inr (bs, ap (λ (y : ℕ). y ∷ bs) (eqb-true b 37 p.0), h) }
    | inr h ↦ let t = h.tail in
        record {
          a = 37 ∷ (h.line ++ 10 ∷ t.a);
          rest = t.rest;
          parts = ap (λ (y : ℕ). y ∷ bs) (eqb-true b 37 p.0) ∙ ap (λ (l : List ℕ). 37 ∷ l)
              (h.parts ∙ ap (λ (l : List ℕ). h.line ++ 10 ∷ l) t.parts ∙ sym
              (append_assoc h.line (10 ∷ t.a) t.rest));
          blank = IsBlank.comment h.line t.a h.in_line t.blank;
          ends = t.ends;
        }
  ]
  | inr p ↦ elim (chosen (is_white b) (past false bs) (b ∷ bs) [] p.1) [
    | inl q ↦ let t = tail_is false bs q.1 in
        record { a = b ∷ t.a; rest = t.rest; parts = ap (λ (l : List ℕ). b ∷ l) t.parts; blank = IsBlank.white b t.a q.0 t.blank; ends = t.ends }
    | inr q ↦ absurd cc
  ]
]

none_is : (bs : List ℕ) → past_blank bs ≡ [] → AreDotted none bs
none_is bs e =
    let t = tail_is false bs e in
    let P : List ℕ → Type 0 = λ l. AreDotted none l in
    elim t.ends [
      | inl h ↦ subst P (sym (t.parts ∙ ap (λ (l : List ℕ). t.a ++ l) h ∙ append-nil t.a)) (AreDotted.nothing t.a t.blank)
      | inr h ↦ subst P (sym (t.parts ∙ ap (λ (l : List ℕ). t.a ++ l) h.1)) (AreDotted.last_comment t.a h.0 t.blank h.2)
    ]

abbrev pub read_trees : Trees → Result Trees Fault
read_trees ts = Ok ts

pub trees_is : (x y : Trees) → read_trees x ≡ read_trees y → x ≡ y
trees_is x y e = cc

are_dotted : (n : ℕ) (bs l : List ℕ) (ts : Trees) → past_blank bs ≡ l → dotted n l ≡ Ok ts → AreDotted ts bs
unfolding dotted
are_dotted zero bs [] ts blank e = let P : Trees → Type 0 = λ y. AreDotted y bs in subst P (trees_is none ts e) (none_is bs blank)
are_dotted (suc n) bs [] ts blank e = let P : Trees → Type 0 = λ y. AreDotted y bs in subst P (trees_is none ts e) (none_is bs blank)
are_dotted zero bs (c ∷ l) ts blank e = absurd cc
are_dotted (suc n) bs (c ∷ l) ts blank e =
    let x = bind_ok (term_at MAX_DEPTH (c ∷ l)) (λ x. dot_at (past_blank x.1) >>= λ rest. dotted n (past_blank rest) >>= λ ts. Ok (more x.0 ts)) ts e in
    let d = bind_ok (dot_at (past_blank x.0.1)) (λ rest. dotted n (past_blank rest) >>= λ ts. Ok (more x.0.0 ts)) ts x.2 in
    let o = bind_ok (dotted n (past_blank d.0)) (λ ts. Ok (more x.0.0 ts)) ts d.2 in
    let others = are_dotted n d.0 (past_blank d.0) o.0 refl o.1 in
    let dot = dot_is (past_blank x.0.1) d.0 d.1 in
    let a = blank_is bs c l blank in
    let s = term_spelled MAX_DEPTH (c ∷ l) x.0.0 x.0.1 x.1 in
    let b = blank_is x.0.1 46 d.0 dot.0 in
    let whole : bs ≡ a.text ++ (s.text ++ (b.text ++ 46 ∷ d.0)) =
    a.parts ∙ ap (λ (y : List ℕ). a.text ++ y) (s.parts ∙ ap (λ (y : List ℕ). s.text ++ y) b.parts) in
    let P : List ℕ → Type 0 = λ y. AreDotted (more x.0.0 o.0) y in
    let Q : Trees → Type 0 = λ y. AreDotted y bs in
    subst Q (trees_is (more x.0.0 o.0) ts o.2) (subst P (sym whole) (AreDotted.term x.0.0 o.0 a.text s.text b.text d.0 a.is s.is b.is dot.1 others))

pub text_spelled : (bs : List ℕ) (n : ℕ) (ts : Trees) → dotted n (past_blank bs) ≡ Ok ts → AreDotted ts bs
text_spelled bs n ts e = are_dotted n bs (past_blank bs) ts refl e
