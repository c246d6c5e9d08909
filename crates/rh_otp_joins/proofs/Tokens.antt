-- What is on its way while a node introduces itself: tellings of nodes that are up, introductions, and answers.
use Rattle.std.proofs.Common.{◌≡◌, ◌⊎◌, ◌+◌, ◌++◌, ◌==◌, ℕ, List, [], ◌∷◌, map, refl, sym, ap, ◌∙◌, inl, inr, arith}
use Rattle.rh_model.specs.declared.node.Node.{Node}
use Rattle.rh_otp_model.specs.declared.output.Envelope.{Envelope}
use Rattle.rh_otp_orders.proofs.Taking.{Taken}
use Rattle.rh_otp_joins.proofs.Lists.{more_if}

-- net_kernel tells that this node is up, the node introduces itself to this one, or this one answers
pub data Token : Type 0 where
  up : Node → Token
  asks : Node → Token
  tells : Node → Token

abbrev pub asked_of : Node → Token → ℕ
asked_of m (asks x) = more_if (x.0 == m.0) 0
asked_of m t = 0

abbrev pub told_of : Node → Token → ℕ
told_of m (tells x) = more_if (x.0 == m.0) 0
told_of m t = 0

-- so many messages come of it, with itself
abbrev pub weight_of : Token → ℕ
weight_of (up x) = 1
weight_of (asks x) = 2
weight_of (tells x) = 1

abbrev pub total : (Token → ℕ) → List Token → ℕ
total f [] = 0
total f (t ∷ tokens) = f t + total f tokens

pub total_more : (f : Token → ℕ) (tokens more : List Token) → total f (tokens ++ more) ≡ total f tokens + total f more
total_more f [] more = omega arith
total_more f (t ∷ tokens) more =
    let rest : total f (tokens ++ more) ≡ total f tokens + total f more = total_more f tokens more in
    omega (arith, rest)

-- one of them is taken out, and those are left
abbrev pub Drawn : Token → List Token → List Token → Type 0
Drawn t [] left = ⊥
Drawn t (x ∷ tokens) left = ((x ≡ t) × (left ≡ tokens)) ⊎ ((rest : List Token) × (left ≡ x ∷ rest) × Drawn t tokens rest)

pub drawn_total : (f : Token → ℕ) (t : Token) (tokens left : List Token) → Drawn t tokens left → total f tokens ≡ f t + total f left
drawn_total f t [] left drawn = absurd drawn
drawn_total f t (x ∷ tokens) left (inl (is, rest)) = (λ i. f (is i) + total f (sym rest i))
drawn_total f t (x ∷ tokens) left (inr (rest, is, drawn)) =
    let more : total f tokens ≡ f t + total f rest = drawn_total f t tokens rest drawn in
    let whole : total f left ≡ f x + total f rest = ap (total f) is in
    omega (arith, more, whole)

-- what arrives is one of them
pub record DrawnAs (f : Token → Envelope) (e : Envelope) (tokens : List Token) (left : List Envelope) : Type 0 where
  pub token : Token
  pub rest : List Token
  pub is : e ≡ f token
  pub drawn : Drawn token tokens rest
  pub left_so : left ≡ map f rest

pub drawn_as : (f : Token → Envelope) (e : Envelope) (tokens : List Token) (left : List Envelope) → Taken e (map f tokens) left
    → DrawnAs f e tokens left
drawn_as f e [] left taken = absurd taken
drawn_as f e (t ∷ tokens) left (inl (is, rest)) = record {
  token = t;
  rest = tokens;
  is = sym is;
  drawn = inl (refl, refl);
  left_so = rest;
}
drawn_as f e (t ∷ tokens) left (inr (apart, rest, is, taken)) =
    let more : DrawnAs f e tokens rest = drawn_as f e tokens rest taken in
    record {
      token = more.token;
      rest = t ∷ more.rest;
      is = more.is;
      drawn = inr (more.rest, refl, more.drawn);
      left_so = is ∙ ap (λ (l : List Envelope). f t ∷ l) more.left_so;
    }
