-- What is on its way while nodes gather: tellings of nodes that are up, ends of waits, and introductions; and how much of it there is.
use Rattle.std.proofs.Common.{◌≡◌, ◌≤◌, ◌⊎◌, ◌+◌, ◌++◌, ◌==◌, ◌&&◌, ℕ, Bool, true, false, List, [], ◌∷◌, map, refl, sym, ap, ◌∙◌, inl, inr, arith}
use Rattle.std.proofs.lemmas.Bool.{cases_Bool, eqb-true}
use Rattle.rh_model.specs.declared.node.Node.{Node}
use Rattle.rh_otp_model.specs.declared.output.Envelope.{Envelope}
use Rattle.rh_otp_orders.proofs.Taking.{Taken}
use Rattle.rh_otp_crashes.proofs.Crossing.{same_node}
use Rattle.rh_otp_joins.proofs.Lists.{more_if, count_of}

-- net_kernel tells the first node that the second is up, kernel_config tells the node's dist_ac that the wait is over, or the first node
-- introduces itself to the second
pub data Token : Type 0 where
  up : Node → Node → Token
  go : Node → Token
  hi : Node → Node → Token

abbrev pub up_of : Node → Node → Token → ℕ
up_of m x (up a y) = more_if (a.0 == m.0 && y.0 == x.0) 0
up_of m x t = 0

abbrev pub go_of : Node → Token → ℕ
go_of m (go a) = more_if (a.0 == m.0) 0
go_of m t = 0

abbrev pub hi_of : Node → Node → Token → ℕ
hi_of k m (hi a c) = more_if (a.0 == k.0 && c.0 == m.0) 0
hi_of k m t = 0

-- the node to which it comes
abbrev pub node_of : Token → Node
node_of (up a y) = a
node_of (go a) = a
node_of (hi a c) = c

abbrev pub total : {A : Type 0} → (A → ℕ) → List A → ℕ
total f [] = 0
total f (t ∷ tokens) = f t + total f tokens

pub total_more : {A : Type 0} (f : A → ℕ) (tokens more : List A) → total f (tokens ++ more) ≡ total f tokens + total f more
total_more f [] more = omega arith
total_more f (t ∷ tokens) more =
    let rest : total f (tokens ++ more) ≡ total f tokens + total f more = total_more f tokens more in
    omega (arith, rest)

-- one of them is taken out, and those are left
abbrev pub Drawn : {A : Type 0} → A → List A → List A → Type 0
Drawn t [] left = ⊥
Drawn {A} t (x ∷ tokens) left = ((x ≡ t) × (left ≡ tokens)) ⊎ ((rest : List A) × (left ≡ x ∷ rest) × Drawn t tokens rest)

pub drawn_total : {A : Type 0} (f : A → ℕ) (t : A) (tokens left : List A) → Drawn t tokens left → total f tokens ≡ f t + total f left
drawn_total f t [] left drawn = absurd drawn
drawn_total f t (x ∷ tokens) left (inl (is, rest)) = (λ i. f (is i) + total f (sym rest i))
drawn_total f t (x ∷ tokens) left (inr (rest, is, drawn)) =
    let more : total f tokens ≡ f t + total f rest = drawn_total f t tokens rest drawn in
    let whole : total f left ≡ f x + total f rest = ap (total f) is in
    omega (arith, more, whole)

-- what arrives is one of them
pub record DrawnAs {A : Type 0} (f : A → Envelope) (e : Envelope) (tokens : List A) (left : List Envelope) : Type 0 where
  pub token : A
  pub rest : List A
  pub is : e ≡ f token
  pub drawn : Drawn token tokens rest
  pub left_so : left ≡ map f rest

pub drawn_as : {A : Type 0} (f : A → Envelope) (e : Envelope) (tokens : List A) (left : List Envelope) → Taken e (map f tokens) left
    → DrawnAs f e tokens left
drawn_as f e [] left taken = absurd taken
drawn_as f e (t ∷ tokens) left (inl (is, rest)) = record {
  token = t;
  rest = tokens;
  is = sym is;
  drawn = inl (refl, refl);
  left_so = rest;
}
drawn_as {A} f e (t ∷ tokens) left (inr (apart, rest, is, taken)) =
    let more : DrawnAs f e tokens rest = drawn_as f e tokens rest taken in
    record {
      token = more.token;
      rest = t ∷ more.rest;
      is = more.is;
      drawn = inr (more.rest, refl, more.drawn);
      left_so = is ∙ ap (λ (l : List Envelope). f t ∷ l) more.left_so;
    }

-- a node that stands in a list can be taken out of it
pub record TakenOut (m : Node) (nodes : List Node) : Type 0 where
  pub rest : List Node
  pub counts : (k : Node) → count_of k nodes ≡ more_if (m.0 == k.0) (count_of k rest)
  pub totals : (f : Node → ℕ) → total f nodes ≡ f m + total f rest

pub take_out : (m : Node) (nodes : List Node) → 1 ≤ count_of m nodes → TakenOut m nodes
take_out m [] some = absurd (omega (arith, some))
take_out m (x ∷ nodes) some =
    by (cases_Bool (x.0 == m.0)) (λ other.
    take_out m nodes
    (let less : 1 ≤ count_of m (x ∷ nodes) = some in
    let same : count_of m (x ∷ nodes) ≡ count_of m nodes = ap (λ (b : Bool). more_if b (count_of m nodes)) other in
    omega (arith, less, same)))
  where
    swapped : (b c : Bool) (j : ℕ) → more_if b (more_if c j) ≡ more_if c (more_if b j)
    swapped true true j = refl
    swapped true false j = refl
    swapped false c j = refl

    by : ((x.0 == m.0) ≡ true) ⊎ ((x.0 == m.0) ≡ false) → ((x.0 == m.0) ≡ false → TakenOut m nodes) → TakenOut m (x ∷ nodes)
    by (inl is) behind = record {
      rest = nodes;
      counts = λ k. ap (λ (y : Node). more_if (y.0 == k.0) (count_of k nodes)) (same_node x m (eqb-true x.0 m.0 is));
      totals = λ f. ap (λ (y : Node). f y + total f nodes) (same_node x m (eqb-true x.0 m.0 is));
    }
    by (inr other) behind =
        let more : TakenOut m nodes = behind other in
        record {
          rest = x ∷ more.rest;
          counts = λ k. ap (more_if (x.0 == k.0)) (more.counts k) ∙ swapped (x.0 == k.0) (m.0 == k.0) (count_of k more.rest);
          totals = λ f. (let rest : total f nodes ≡ f m + total f more.rest = more.totals f in omega (arith, rest));
        }
