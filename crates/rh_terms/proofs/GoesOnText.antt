-- Up to a syntax fault, or to its end, a text goes on as one does that is spelled.
use Rattle.std.proofs.Common.{◌≡◌, ℕ, zero, suc, List, [], ◌∷◌, ◌++◌, cond}
use Rattle.std.proofs.Common.{Ok, Err, length, drop, refl, sym, ap, subst, ◌∙◌, append_assoc}
use Rattle.std.proofs.Common.{arith, inl, inr}
use Rattle.std.specs.Prelude.{◌==◌, ◌||◌}
use Rattle.rh_terms.specs.declared.nest.TheConstants.{MAX_DEPTH}
use Rattle.rh_terms.specs.declared.fault.Fault.TheVariants.{Syntax}
use Rattle.rh_terms.specs.Bytes.{past_blank, begins, is_end}
use Rattle.rh_terms.specs.Faults.{◌>>=◌, stuck}
use Rattle.rh_base.specs.Tree.{Tree, Trees, none, more}
use Rattle.rh_terms.specs.Grammar.{term_at, dot_at, dotted}
use Rattle.rh_terms.specs.Spelling.{IsBlank, Spells, AreDotted}
use Rattle.rh_terms.specs.Fronts.{CanGoOn}
use Rattle.rh_terms.proofs.Spelled.{chosen, blank_is, begins_is, term_spelled}
use Rattle.rh_terms.proofs.Whole.{dot_is, EndsDot}
use Rattle.rh_terms.proofs.Found.{bind_err, err_is}
use Rattle.rh_terms.proofs.GoesOn.{Reaches, later, at_once, blank_then, TermGoesOn, some_term}
use Rattle.rh_terms.proofs.GoesOnInside.{term_reaches}

abbrev DotGoesOn : List ℕ → Type 0
DotGoesOn front = (after : List ℕ) × (front ++ after ≡ 46 ∷ [])

dot_reaches : (bs : List ℕ) (left : ℕ) → dot_at bs ≡ Err (Syntax left) → Reaches DotGoesOn bs left
unfolding dot_at
dot_reaches bs left e =
    let P : List ℕ → Type 0 = λ l. Reaches DotGoesOn l left in
    elim (chosen (begins (λ b. b == 46) bs) (cond ((length bs == 1) || begins is_end (drop 1 bs)) (Ok (drop 1 bs)) (Err (stuck (drop 1 bs))))
    (Err (stuck bs)) (Err (Syntax left)) e) [
      | inl p ↦ elim (chosen ((length bs == 1) || begins is_end (drop 1 bs)) (Ok (drop 1 bs)) (Err (stuck (drop 1 bs))) (Err (Syntax left)) p.1) [
        | inl q ↦ absurd (cc (q.1))
        | inr q ↦
            subst P (sym (begins_is 46 bs p.0)) (later (λ l. DotGoesOn (46 ∷ l)) DotGoesOn (46 ∷ []) (drop 1 bs) left (λ l h. h)
            (at_once (λ l. DotGoesOn (46 ∷ l)) (drop 1 bs) left (err_is {B = List ℕ} (stuck (drop 1 bs)) (Syntax left) q.1) ([], refl)))
      ]
      | inr p ↦ at_once DotGoesOn bs left (err_is {B = List ℕ} (stuck bs) (Syntax left) p.1) (46 ∷ [], refl)
    ]

regroup_term : (a front after : List ℕ) → (a ++ front) ++ (after ++ 46 ∷ []) ≡ a ++ ((front ++ after) ++ ([] ++ 46 ∷ []))
regroup_term a front after = simp append_assoc

term_in_text : (a front : List ℕ) → IsBlank a → TermGoesOn MAX_DEPTH front → CanGoOn (a ++ front)
term_in_text a front blank h =
    let P : List ℕ → Type 0 = λ l. AreDotted (more h.1 none) l in (
      h.0 ++ 46 ∷ [],
      more h.1 none,
      subst P (sym (regroup_term a front h.0))
          (AreDotted.term h.1 none a (front ++ h.0) [] [] blank h.2 IsBlank.nothing (inl refl) (AreDotted.nothing [] IsBlank.nothing)),
    )

regroup_dot : (a s b y : List ℕ) → (a ++ (s ++ b)) ++ y ≡ a ++ (s ++ (b ++ y))
regroup_dot a s b y = simp append_assoc

dot_in_text : (a s behind : List ℕ) (left : ℕ) (t : Tree) → IsBlank a → Spells MAX_DEPTH t s → dot_at (past_blank behind) ≡ Err (Syntax left)
    → Reaches CanGoOn (a ++ (s ++ behind)) left
dot_in_text a s behind left t before spelled e =
    let b = blank_then DotGoesOn behind left (dot_reaches (past_blank behind) left e) in
    let after : List ℕ = b.is.0 in
    let P : List ℕ → Type 0 = λ l. AreDotted (more t none) l in
    let whole : (a ++ (s ++ b.front)) ++ (b.tail ++ after) ≡ a ++ (s ++ (b.blank ++ 46 ∷ [])) =
    regroup_dot a s b.front (b.tail ++ after)
    ∙ ap (λ (l : List ℕ). a ++ (s ++ l)) (b.joins after ∙ ap (λ (l : List ℕ). b.blank ++ l) b.is.1) in
    record {
      front = a ++ (s ++ b.front);
      rest = b.rest;
      parts = ap (λ (l : List ℕ). a ++ (s ++ l)) b.parts ∙ sym (regroup_dot a s b.front b.rest);
      left_is = b.left_is;
      is = (
        b.tail ++ after,
        more t none,
        subst P (sym whole) (AreDotted.term t none a s b.blank [] before spelled b.is_blank (inl refl) (AreDotted.nothing [] IsBlank.nothing)),
      );
    }

-- behind a dot, what goes on does so with the dot's end
rest_goes_on : (front rest : List ℕ) → EndsDot (front ++ rest) → CanGoOn front
    → (after : List ℕ) × (ts : Trees) × AreDotted ts (front ++ after) × EndsDot (front ++ after)
rest_goes_on [] rest ends h = ([], none, AreDotted.nothing [] IsBlank.nothing, inl refl)
rest_goes_on (c ∷ front) rest (inl e) h = absurd (omega arith)
rest_goes_on (c ∷ front) rest (inr e) h = (h.0, h.1, h.2, inr e)

regroup_rest : (a s b f y : List ℕ) → (a ++ (s ++ (b ++ 46 ∷ f))) ++ y ≡ a ++ (s ++ (b ++ 46 ∷ (f ++ y)))
regroup_rest a s b f y = simp append_assoc

rest_in_text : (a s b rest : List ℕ) (left : ℕ) (t : Tree) → IsBlank a → Spells MAX_DEPTH t s → IsBlank b → EndsDot rest → Reaches CanGoOn rest left
    → Reaches CanGoOn (a ++ (s ++ (b ++ 46 ∷ rest))) left
rest_in_text a s b rest left t before spelled blank ends f =
    let Q : List ℕ → Type 0 = λ l. EndsDot l in
    let r = rest_goes_on f.front f.rest (subst Q f.parts ends) f.is in
    let P : List ℕ → Type 0 = λ l. AreDotted (more t r.1) l in
    record {
      front = a ++ (s ++ (b ++ 46 ∷ f.front));
      rest = f.rest;
      parts = ap (λ (l : List ℕ). a ++ (s ++ (b ++ 46 ∷ l))) f.parts ∙ sym (regroup_rest a s b f.front f.rest);
      left_is = f.left_is;
      is = (
        r.0,
        more t r.1,
        subst P (sym (regroup_rest a s b f.front r.0)) (AreDotted.term t r.1 a s b (f.front ++ r.0) before spelled blank r.3 r.2),
      );
    }

pub dotted_reaches : (n : ℕ) (bs l : List ℕ) (left : ℕ) → past_blank bs ≡ l → dotted n l ≡ Err (Syntax left) → Reaches CanGoOn bs left
unfolding dotted
dotted_reaches n bs [] left blank e = absurd cc
dotted_reaches zero bs (c ∷ l) left blank e =
    let a = blank_is bs c l blank in
    let P : List ℕ → Type 0 = λ y. Reaches CanGoOn y left in
    subst P (sym a.parts) (later (TermGoesOn MAX_DEPTH) CanGoOn a.text (c ∷ l) left (λ front h. term_in_text a.text front a.is h)
    (at_once (TermGoesOn MAX_DEPTH) (c ∷ l) left (err_is {B = Trees} (stuck (c ∷ l)) (Syntax left) e) (some_term MAX_DEPTH)))
dotted_reaches (suc n) bs (c ∷ l) left blank e =
    let a = blank_is bs c l blank in
    let P : List ℕ → Type 0 = λ y. Reaches CanGoOn y left in
    elim (bind_err (term_at MAX_DEPTH (c ∷ l)) (λ x. dot_at (past_blank x.1) >>= λ rest. dotted n (past_blank rest) >>= λ ts. Ok (more x.0 ts))
    (Syntax left) e) [
      | inl h ↦ subst P (sym a.parts) (later (TermGoesOn MAX_DEPTH) CanGoOn a.text (c ∷ l) left (λ front k. term_in_text a.text front a.is k)
          (term_reaches MAX_DEPTH (c ∷ l) left h))
      | inr h ↦
          let x = h.0 in
          let s = term_spelled MAX_DEPTH (c ∷ l) x.0 x.1 h.1 in
          let to_behind : bs ≡ a.text ++ (s.text ++ x.1) = a.parts ∙ ap (λ (y : List ℕ). a.text ++ y) s.parts in
          elim (bind_err (dot_at (past_blank x.1)) (λ rest. dotted n (past_blank rest) >>= λ ts. Ok (more x.0 ts)) (Syntax left) h.2) [
            | inl k ↦ subst P (sym to_behind) (dot_in_text a.text s.text x.1 left x.0 a.is s.is k)
            | inr k ↦ elim (bind_err (dotted n (past_blank k.0)) (λ ts. Ok (more x.0 ts)) (Syntax left) k.2) [
              | inl r ↦
                  let d = dot_is (past_blank x.1) k.0 k.1 in
                  let b = blank_is x.1 46 k.0 d.0 in
                  subst P (sym (to_behind ∙ ap (λ (y : List ℕ). a.text ++ (s.text ++ y)) b.parts))
                  (rest_in_text a.text s.text b.text k.0 left x.0 a.is s.is b.is d.1 (dotted_reaches n k.0 (past_blank k.0) left refl r))
              | inr r ↦ absurd (cc (r.2))
            ]
          ]
    ]
