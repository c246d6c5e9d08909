-- Up to a syntax fault a term goes on as one does that is spelled.
use Rattle.std.proofs.Common.{◌≡◌, ℕ, zero, suc, List, [], ◌∷◌, ◌++◌, Bool, true, false, cond}
use Rattle.std.proofs.Common.{Ok, Err, length, drop, refl, sym, ap, subst, ◌∙◌, append_assoc}
use Rattle.std.proofs.Common.{inl, inr}
use Rattle.std.specs.Prelude.{◌==◌, ◌&&◌}
use Rattle.std.proofs.lemmas.List.{append-nil}
use Rattle.rh_terms.specs.declared.fault.Fault.TheVariants.{Syntax, Unsupported}
use Rattle.rh_terms.specs.Bytes.{past_blank, begins}
use Rattle.rh_terms.specs.Faults.{◌>>=◌, Read, under, stuck}
use Rattle.rh_base.specs.Tree.{Tree, Trees, list, tuple, none, more}
use Rattle.rh_terms.specs.Grammar.{word_at, term_by, next_at, some_terms, terms_up_to, inside, term_at}
use Rattle.rh_terms.specs.Spelling.{IsBlank, Spells, IsInside, AreSeparated}
use Rattle.rh_terms.proofs.Spelled.{chosen, blank_is, begins_is, Front, term_spelled, next_more}
use Rattle.rh_terms.proofs.Found.{bind_err, err_is}
use Rattle.rh_terms.proofs.Stops.{under_syntax}
use Rattle.rh_terms.proofs.GoesOn.{Reaches, later, at_once, blank_then, TermGoesOn, some_term, ReachesIn, word_reaches}

abbrev ElementsGoOn : ℕ → List ℕ → Type 0
ElementsGoOn room front = (after : List ℕ) × (ts : Trees) × AreSeparated room ts (front ++ after)

element_goes_on : (room : ℕ) (front : List ℕ) → TermGoesOn room front → ElementsGoOn room front
element_goes_on room front h =
    let P : List ℕ → Type 0 = λ l. AreSeparated room (more h.1 none) l in
    (h.0 ++ [], more h.1 none, subst P (append_assoc front h.0 []) (AreSeparated.last room h.1 (front ++ h.0) [] h.2 IsBlank.nothing))

next_syntax : (close : ℕ) (bs : List ℕ) (left : ℕ) → next_at close bs ≡ Err (Syntax left) → stuck bs ≡ Syntax left
unfolding next_at
next_syntax close bs left e = elim (chosen (begins (λ b. b == 44) bs) (Ok (true, past_blank (drop 1 bs))) _ (Err (Syntax left)) e) [
  | inl p ↦ absurd (cc (p.1))
  | inr p ↦ elim (chosen (begins (λ b. b == close) bs) (Ok (false, drop 1 bs)) _ (Err (Syntax left)) p.1) [
    | inl q ↦ absurd (cc (q.1))
    | inr q ↦ elim (chosen ((close == 93) && begins (λ b. b == 124) bs) (Err (Unsupported (length bs))) (Err (stuck bs)) (Err (Syntax left)) q.1) [
      | inl r ↦ absurd (cc (r.1))
      | inr r ↦ err_is {B = Bool × List ℕ} (stuck bs) (Syntax left) r.1
    ]
  ]
]

abbrev IsNothing : List ℕ → Type 0
IsNothing l = l ≡ []

next_reaches : (room : ℕ) (t : Tree) (s behind : List ℕ) (left : ℕ) → Spells room t s → stuck (past_blank behind) ≡ Syntax left
    → Reaches (ElementsGoOn room) (s ++ behind) left
next_reaches room t s behind left spelled e =
    let b = blank_then IsNothing behind left (at_once IsNothing (past_blank behind) left e refl) in
    let joined : b.front ++ b.tail ≡ b.blank =
    ap (λ (l : List ℕ). b.front ++ l) (sym (append-nil b.tail)) ∙ b.joins [] ∙ ap (λ (l : List ℕ). b.blank ++ (l ++ [])) b.is ∙ append-nil b.blank in
    let P : List ℕ → Type 0 = λ l. AreSeparated room (more t none) l in
    let whole : (s ++ b.front) ++ b.tail ≡ s ++ b.blank = append_assoc s b.front b.tail ∙ ap (λ (l : List ℕ). s ++ l) joined in
    record {
      front = s ++ b.front;
      rest = b.rest;
      parts = ap (λ (l : List ℕ). s ++ l) b.parts ∙ sym (append_assoc s b.front b.rest);
      left_is = b.left_is;
      is = (b.tail, more t none, subst P (sym whole) (AreSeparated.last room t s b.blank spelled b.is_blank));
    }

regroup_comma : (s b f y : List ℕ) → (s ++ (b ++ 44 ∷ f)) ++ y ≡ s ++ (b ++ 44 ∷ (f ++ y))
regroup_comma s b f y = simp append_assoc

others_reach : (room close : ℕ) (t : Tree) (s behind from : List ℕ) (left : ℕ) → Spells room t s → next_at close (past_blank behind) ≡ Ok (true, from)
    → Reaches (ElementsGoOn room) from left → Reaches (ElementsGoOn room) (s ++ behind) left
others_reach room close t s behind from left spelled next f =
    let n = next_more close (past_blank behind) from next in
    let b = blank_is behind 44 (drop 1 (past_blank behind)) n.0 in
    let R : List ℕ → Type 0 = λ l. Reaches (ElementsGoOn room) l left in
    let a = blank_then (ElementsGoOn room) (drop 1 (past_blank behind)) left (subst R (sym n.1) f) in
    let after : List ℕ = a.is.0 in
    let P : List ℕ → Type 0 = λ l. AreSeparated room (more t a.is.1) l in
    let whole : (s ++ (b.text ++ 44 ∷ a.front)) ++ (a.tail ++ after) ≡ s ++ (b.text ++ 44 ∷ (a.blank ++ (a.inner ++ after))) =
    regroup_comma s b.text a.front (a.tail ++ after) ∙ ap (λ (l : List ℕ). s ++ (b.text ++ 44 ∷ l)) (a.joins after) in
    record {
      front = s ++ (b.text ++ 44 ∷ a.front);
      rest = a.rest;
      parts = ap (λ (l : List ℕ). s ++ l) (b.parts ∙ ap (λ (l : List ℕ). b.text ++ 44 ∷ l) a.parts) ∙ sym (regroup_comma s b.text a.front a.rest);
      left_is = a.left_is;
      is = (
        a.tail ++ after,
        more t a.is.1,
        subst P (sym whole) (AreSeparated.comma room t a.is.1 s b.text a.blank (a.inner ++ after) spelled b.is a.is_blank a.is.2),
      );
    }

behind_reaches : (room close : ℕ) (read : List ℕ → Read Trees) → ReachesIn (ElementsGoOn room) read → (t : Tree) (s behind : List ℕ) (goes_on : Bool)
    (from : List ℕ) (left : ℕ) → Spells room t s → next_at close (past_blank behind) ≡ Ok (goes_on, from)
    → cond goes_on (under (more t) (read from)) (Ok (more t none, from)) ≡ Err (Syntax left) → Reaches (ElementsGoOn room) (s ++ behind) left
behind_reaches room close read reaches t s behind false from left spelled next e = absurd cc
behind_reaches room close read reaches t s behind true from left spelled next e =
    elim (bind_err (read from) (λ y. Ok (more t y.0, y.1)) (Syntax left) e) [
      | inl h ↦ others_reach room close t s behind from left spelled next (reaches from left h)
      | inr h ↦ absurd (cc (h.2))
    ]

abbrev Reads : (List ℕ → Read Tree) → ℕ → Type 0
Reads term room = (bs : List ℕ) (t : Tree) (rest : List ℕ) → term bs ≡ Ok (t, rest) → Front (Spells room t) bs rest

some_reach : (room close n : ℕ) (term : List ℕ → Read Tree) → ReachesIn (TermGoesOn room) term → Reads term room
    → ReachesIn (ElementsGoOn room) (some_terms term close n)
unfolding some_terms
some_reach room close zero term reaches reads bs left e =
    at_once (ElementsGoOn room) bs left (err_is {B = Trees × List ℕ} (stuck bs) (Syntax left) e) (element_goes_on room [] (some_term room))
some_reach room close (suc n) term reaches reads bs left e =
    elim (bind_err (term bs) (λ x. next_at close (past_blank x.1) >>= λ next. cond next.0 (under (more x.0) (some_terms term close n next.1))
    (Ok (more x.0 none, next.1))) (Syntax left) e) [
      | inl h ↦ later (TermGoesOn room) (ElementsGoOn room) [] bs left (λ l k. element_goes_on room l k) (reaches bs left h)
      | inr h ↦
          let x = h.0 in
          let s = reads bs x.0 x.1 h.1 in
          let P : List ℕ → Type 0 = λ l. Reaches (ElementsGoOn room) l left in
          elim (bind_err (next_at close (past_blank x.1)) (λ next. cond next.0 (under (more x.0) (some_terms term close n next.1))
          (Ok (more x.0 none, next.1))) (Syntax left) h.2) [
            | inl k ↦ subst P (sym s.parts) (next_reaches room x.0 s.text x.1 left s.is (next_syntax close (past_blank x.1) left k))
            | inr k ↦
                subst P (sym s.parts)
                (behind_reaches room close (some_terms term close n) (some_reach room close n term reaches reads) x.0 s.text x.1 k.0.0 k.0.1 left s.is k.1 k.2)
          ]
    ]

abbrev InsideGoesOn : ℕ → List ℕ → Type 0
InsideGoesOn room front = (after : List ℕ) × (ts : Trees) × IsInside room ts (front ++ after)

one_reaches : (room close : ℕ) (term : List ℕ → Read Tree) → ReachesIn (TermGoesOn room) term → Reads term room
    → ReachesIn (InsideGoesOn room) (terms_up_to term close)
unfolding terms_up_to
one_reaches room close term reaches reads bs left e =
    elim (chosen (begins (λ b. b == close) (past_blank bs)) (Ok (none, drop 1 (past_blank bs)))
    (some_terms term close (length (past_blank bs)) (past_blank bs)) (Err (Syntax left)) e) [
      | inl p ↦ absurd (cc (p.1))
      | inr p ↦
          let a = blank_then (ElementsGoOn room) bs left (some_reach room close (length (past_blank bs)) term reaches reads (past_blank bs) left p.1) in
          let after : List ℕ = a.is.0 in
          let P : List ℕ → Type 0 = λ l. IsInside room a.is.1 l in
          record {
            front = a.front;
            rest = a.rest;
            parts = a.parts;
            left_is = a.left_is;
            is = (a.tail ++ after, a.is.1, subst P (sym (a.joins after)) (IsInside.some room a.is.1 a.blank (a.inner ++ after) a.is_blank a.is.2));
          }
    ]

abbrev InnerGoesOn : ℕ → List ℕ → Type 0
InnerGoesOn zero front = ⊥
InnerGoesOn (suc room) front = InsideGoesOn room front

list_goes_on : (room : ℕ) (front : List ℕ) → InnerGoesOn room front → TermGoesOn room (91 ∷ front)
list_goes_on zero front h = absurd h
list_goes_on (suc room) front h =
    let P : List ℕ → Type 0 = λ l. Spells (suc room) (list h.1) (91 ∷ l) in
    (h.0 ++ 93 ∷ [], list h.1, subst P (append_assoc front h.0 (93 ∷ [])) (Spells.list_of room h.1 (front ++ h.0) h.2))

tuple_goes_on : (room : ℕ) (front : List ℕ) → InnerGoesOn room front → TermGoesOn room (123 ∷ front)
tuple_goes_on zero front h = absurd h
tuple_goes_on (suc room) front h =
    let P : List ℕ → Type 0 = λ l. Spells (suc room) (tuple h.1) (123 ∷ l) in
    (h.0 ++ 125 ∷ [], tuple h.1, subst P (append_assoc front h.0 (125 ∷ [])) (Spells.tuple_of room h.1 (front ++ h.0) h.2))

abbrev ReachesInner : ℕ → Type 0
ReachesInner room = (close : ℕ) → ReachesIn (λ f. InnerGoesOn room f) (inside room close)

term_by_reaches : (room : ℕ) → ReachesInner room → ReachesIn (TermGoesOn room) (term_by (inside room))
unfolding term_by
term_by_reaches room reaches bs left e =
    let P : List ℕ → Type 0 = λ l. Reaches (TermGoesOn room) l left in
    elim (chosen (begins (λ b. b == 91) bs) (under list (inside room 93 (drop 1 bs))) _ (Err (Syntax left)) e) [
      | inl p ↦ subst P (sym (begins_is 91 bs p.0)) (later (λ f. InnerGoesOn room f) (TermGoesOn room) (91 ∷ []) (drop 1 bs) left
          (λ l h. list_goes_on room l h) (reaches 93 (drop 1 bs) left (under_syntax list (inside room 93 (drop 1 bs)) left p.1)))
      | inr p ↦ elim (chosen (begins (λ b. b == 123) bs) (under tuple (inside room 125 (drop 1 bs))) (word_at bs) (Err (Syntax left)) p.1) [
        | inl q ↦ subst P (sym (begins_is 123 bs q.0)) (later (λ f. InnerGoesOn room f) (TermGoesOn room) (123 ∷ []) (drop 1 bs) left
            (λ l h. tuple_goes_on room l h) (reaches 125 (drop 1 bs) left (under_syntax tuple (inside room 125 (drop 1 bs)) left q.1)))
        | inr q ↦ word_reaches room bs left q.1
      ]
    ]

inside_reaches : (room : ℕ) → ReachesInner room
unfolding inside
inside_reaches zero close bs left e = absurd cc
inside_reaches (suc room) close bs left e = one_reaches room close (term_at room) (term_by_reaches room (inside_reaches room)) (term_spelled room) bs left e

pub term_reaches : (room : ℕ) → ReachesIn (TermGoesOn room) (term_at room)
term_reaches room = term_by_reaches room (inside_reaches room)
