-- Of the messages by which a node tells the others of a permission one is for the node that takes the application over, and the rest are
-- notes to others.
use Rattle.std.proofs.Common.{◌≡◌, ◌≢◌, ◌==◌, ◌&&◌, ◌||◌, ℕ, Bool, true, false, not, cond, List, [], ◌∷◌, refl, sym, ap, ◌∙◌, inl, inr}
use Rattle.std.specs.Prelude.{All, filter, map}
use Rattle.std.proofs.lemmas.Bool.{cases_eq, eq-eqb, eqb-false, false≢true, ne_eqb, not-true}
use Rattle.std.proofs.lemmas.List.Elements.{All-nil, All-cons, All-head, All-tail, All-weaker}
use Rattle.rh_model.specs.declared.node.Node.{Node}
use Rattle.rh_otp_model.specs.declared.output.Envelope.{Envelope}
use Rattle.rh_otp_dist.specs.State.{is_among}
use Rattle.rh_otp_system.specs.declared.calls.Call.{Call}
use Rattle.rh_otp_orders.proofs.Taking.{Taken, of_different_pairs}
use Rattle.rh_otp_crashes.proofs.Crossing.{same_node}
use Rattle.rh_otp_crashes.proofs.Posting.{posted_to}
use Rattle.rh_otp_moves.proofs.Taking.{either_way}
use Rattle.rh_otp_moves.proofs.Passing.{note}
use Rattle.rh_otp_moves.proofs.Handing.{IsNote, tells, its_note}

-- ---- who is told

-- each of them is among them
pub all_among : (l : List Node) → All (λ (j : Node). is_among j l ≡ true) l
all_among [] = All-nil (λ (j : Node). is_among j [] ≡ true)
all_among (x ∷ l) =
    All-cons (λ (j : Node). is_among j (x ∷ l) ≡ true) x l (ap (λ (b : Bool). b || is_among x l) (eq-eqb x.0 x.0 refl))
    (All-weaker (λ (j : Node). is_among j l ≡ true) (λ (j : Node). is_among j (x ∷ l) ≡ true)
    (λ j among. ap (λ (b : Bool). j.0 == x.0 || b) among ∙ either_way (j.0 == x.0)) l (all_among l))

-- it isn't the call's node, and among those that are told
abbrev pub IsTold : Call → List Node → Node → Type 0
IsTold c told j = (j.0 ≢ c.node.0) × (is_among j told ≡ true)

first_true : (x y : Bool) → (x && y) ≡ true → x ≡ true
first_true true y is = refl
first_true false y is = is

pub told_others : (c : Call) (told : List Node) (r : Node → Bool) (l : List Node) → All (λ (j : Node). is_among j told ≡ true) l
    → All (λ (j : Node). (not (j.0 == c.node.0) && r j) ≡ true) l → All (IsTold c told) l
told_others c told r [] among passes = All-nil (IsTold c told)
told_others c told r (j ∷ l) among passes =
    let P : Node → Type 0 = λ (x : Node). is_among x told ≡ true in
    let Q : Node → Type 0 = λ (x : Node). (not (x.0 == c.node.0) && r x) ≡ true in
    All-cons (IsTold c told) j l (
      eqb-false j.0 c.node.0 (not-true (j.0 == c.node.0) (first_true (not (j.0 == c.node.0)) (r j) (All-head Q j l passes))),
      All-head P j l among,
    )
    (told_others c told r l (All-tail P j l among) (All-tail Q j l passes))

-- ---- what they are told

abbrev pub all_notes : (Node → ℕ) → Call → List Node → List Envelope
all_notes lives c l = map (posted_to lives c.node (note c)) l

pub record Split (lives : Node → ℕ) (c : Call) (m : Node) (told : List Node) (l : List Envelope) : Type 0 where
  pub rest : List Envelope
  pub taken : Taken (its_note lives c m) l rest
  pub kinds : All (IsNote lives c m told) rest

-- these of the list
abbrev of_node : Node → List Node → List Node
of_node m l = filter (λ (j : Node). j.0 == m.0) l

of_same : (m j : Node) (l : List Node) → j.0 ≡ m.0 → of_node m (j ∷ l) ≡ j ∷ of_node m l
of_same m j l same = ap (λ (b : Bool). cond b (j ∷ of_node m l) (of_node m l)) (eq-eqb j.0 m.0 same)

of_other : (m j : Node) (l : List Node) → j.0 ≢ m.0 → of_node m (j ∷ l) ≡ of_node m l
of_other m j l other = ap (λ (b : Bool). cond b (j ∷ of_node m l) (of_node m l)) (ne_eqb j.0 m.0 other)

never : {x : Node} {xs : List Node} → x ∷ xs ≡ [] → ⊥
never is = false≢true (ap empty is)
  where
    empty : List Node → Bool
    empty [] = true
    empty (y ∷ ys) = false

tail_of : List Node → List Node
tail_of [] = []
tail_of (x ∷ xs) = xs

no_more : {lives : Node → ℕ} {c : Call} {m : Node} {told : List Node} (l : List Node) → All (IsTold c told) l → of_node m l ≡ []
    → All (IsNote lives c m told) (all_notes lives c l)
no_more {lives} {c} {m} {told} [] are none = All-nil (IsNote lives c m told)
no_more {lives} {c} {m} {told} (j ∷ l) are none =
    elim (cases_eq j.0 m.0) [
      | inl same ↦ absurd (never (sym (of_same m j l same) ∙ none))
      | inr other ↦
          let so : IsTold c told j = All-head (IsTold c told) j l are in
          All-cons (IsNote lives c m told) (its_note lives c j) (all_notes lives c l) (tells j (other, so.0, so.1))
          (no_more l (All-tail (IsTold c told) j l are) (sym (of_other m j l other) ∙ none))
    ]

-- where that node is told once
pub splits : {lives : Node → ℕ} {c : Call} {m : Node} {told : List Node} (l : List Node) → All (IsTold c told) l
    → filter (λ (j : Node). j.0 == m.0) l ≡ m ∷ [] → Split lives c m told (all_notes lives c l)
unfolding tail_of
splits {lives} {c} {m} {told} [] are once = absurd (never (sym once))
splits {lives} {c} {m} {told} (j ∷ l) are once =
    elim (cases_eq j.0 m.0) [
      | inl same ↦ record {
        rest = all_notes lives c l;
        taken = inl (ap (its_note lives c) (same_node j m same), refl);
        kinds = no_more l (All-tail (IsTold c told) j l are) (ap tail_of (sym (of_same m j l same) ∙ once));
      }
      | inr other ↦
          let so : IsTold c told j = All-head (IsTold c told) j l are in
          let more : Split lives c m told (all_notes lives c l) =
          splits l (All-tail (IsTold c told) j l are) (sym (of_other m j l other) ∙ once) in
          record {
            rest = its_note lives c j ∷ more.rest;
            taken = inr (
              of_different_pairs (its_note lives c m) (its_note lives c j) (λ one. other (sym one)),
              more.rest,
              refl,
              more.taken,
            );
            kinds = All-cons (IsNote lives c m told) (its_note lives c j) more.rest (tells j (other, so.0, so.1)) more.kinds;
          }
    ]
