-- How far all are whose boot scripts run at once, and what is on its way.
use Rattle.std.proofs.Common.{◌≡◌, ◌≢◌, ◌≤◌, ◌+◌, ◌++◌, ◌==◌, ℕ, suc, Bool, true, false, cond, List, [], ◌∷◌, map, filter, Some, None, refl, sym, ap, subst, ◌∙◌, inl, inr, arith}
use Rattle.std.specs.Prelude.{All}
use Rattle.std.proofs.lemmas.Bool.{eq-eqb, ne_eqb}
use Rattle.rh_model.specs.declared.node.App.{App}
use Rattle.rh_model.specs.declared.node.Node.{Node}
use Rattle.rh_otp_model.specs.declared.output.Envelope.{Envelope}
use Rattle.rh_otp_model.specs.declared.output.Requester.TheVariants.{Alone}
use Rattle.rh_otp_model.specs.declared.process.Process.{Process}
use Rattle.rh_otp_model.specs.declared.process.Role.TheVariants as role
use Rattle.rh_otp_net.specs.declared.locks.Held.{Held}
use Rattle.rh_otp_net.specs.Queue.{is_of_pair}
use Rattle.rh_otp_system.specs.declared.cell.Cell.TheVariants as cell
use Rattle.rh_otp_system.specs.declared.slow.Slow.TheVariants as slow
use Rattle.rh_otp_system.specs.State.{SystemView, node_at}
use Rattle.rh_otp_orders.specs.Orders.{of_owner, node_told}
use Rattle.rh_otp_orders.proofs.Same.{cell_at}
use Rattle.rh_otp_orders.proofs.Taking.{Taken}
use Rattle.rh_otp_crashes.proofs.Crossing.{same_node}
use Rattle.rh_otp_joins.proofs.Lists.{more_if, count_of}
use Rattle.rh_otp_gathers.proofs.Tokens.{total, Drawn, TakenOut, take_out}
use Rattle.rh_otp_together.specs.Together.{boots_at}
use Rattle.rh_otp_together.proofs.Apps.{tally, tally_rows}
use Rattle.rh_otp_together.proofs.Forms.{How, unbegun, Far, live, Fine, Token, letter, node_of, is_inner, is_voice, news_of, token_weight, voices, inners, asked_by, told_by, pends_by, tale, weight, is_standing, is_news, all_said, onto}

-- ---- how far all are

abbrev pub is_unbegun : How → Bool
is_unbegun unbegun = true
is_unbegun how = false

abbrev pub the_lock : Node → ℕ → Held
the_lock n life =
    let p : Process = record { role = role.DistAc; node = n; life = life } in
    record { node = n; requester = Alone p; owner = p }

-- the lock of a node whose dist_ac waits
pub record IsHeld (b : SystemView) (far : Node → Far) (held : Held) : Type 0 where
  pub node : Node
  pub alive : 1 ≤ count_of node b.alive
  pub standing : is_standing (far node).how ≡ true
  pub is : held ≡ the_lock node (node_at b node).life

-- how often the news of the application has come to the node, or is on its way
abbrev pub got : List Token → Far → Node → App → ℕ
got tokens k m a = total (news_of m a) tokens + tally a k.mail + tally_rows a k.rows

abbrev pub asked_of : SystemView → (App → Node) → Node → Far → List App
asked_of b at m k = asked_by b at m k.how k.done

abbrev pub told_of : SystemView → (App → Node) → Node → Far → List App
told_of b at m k = told_by b at m (pends_by b at m k.how k.ran) (asked_of b at m k)

-- which of these applications others have started, by the news that are on their way to the node, as these stand there
abbrev pub heard : Node → (App → Bool) → List Token → List App
heard m q tokens = all_said (filter (is_news m q) tokens)

abbrev pub row_app : App × Node → App
row_app row = row.0

-- and by those that have come, too: the last one in front
abbrev pub come : List Token → Far → Node → (App → Bool) → List App
come tokens k m q = onto (heard m q tokens) (filter q (onto k.mail (map row_app k.rows)))

-- these are applications that the node doesn't boot, left to that other one
abbrev pub AreStrange : SystemView → (App → Node) → Node → Node → (App → Bool) → Type 0
AreStrange b at m n q = (c : App) → q c ≡ true → ((at c).0 ≡ n.0) × (boots_at b m c ≡ false)

abbrev pub IsOf : SystemView → Token → Type 0
IsOf b t = 1 ≤ count_of (node_of t) b.alive

pub record Stage (b : SystemView) (at : App → Node) (left : ℕ) (u : SystemView) : Type 0 where
  pub far : Node → Far
  pub tokens : List Token
  pub waiting : List Node
  pub weighs : total (λ (m : Node). weight b at m (far m)) b.alive + total token_weight tokens ≡ left
  pub same : u ≡ record b {
    nodes = u.nodes;
    messages = map (letter b at) tokens;
    slow = map slow.Boot waiting;
    locks = u.locks;
    events = u.events;
  }
  pub base : u.nodes.base ≡ b.nodes.base
  pub here : (m : Node) → 1 ≤ count_of m b.alive → cell_at u m.0 ≡ Some (cell.Node (live b at m (far m)))
  pub others : (m : Node) → count_of m b.alive ≡ 0 → cell_at u m.0 ≡ cell_at b m.0
  pub fine : (m : Node) → 1 ≤ count_of m b.alive → Fine b at m (far m)
  pub unmoved : (m : Node) → count_of m b.alive ≡ 0 → asked_of b at m (far m) ≡ []
  pub locks : All (IsHeld b far) u.locks
  pub slow : (m : Node) → count_of m waiting ≡ cond (is_unbegun (far m).how) (count_of m b.alive) 0
  pub known : All (IsOf b) tokens
  pub voiced : (m : Node) → 1 ≤ count_of m b.alive → filter (is_voice m) tokens ≡ voices m (far m).how
  pub inner : (m : Node) → 1 ≤ count_of m b.alive → filter (is_inner m) tokens ≡ inners m (far m).how (far m).ran
  pub away : (m : Node) (a : App) → 1 ≤ count_of m b.alive → (at a).0 ≢ m.0
      → got tokens (far m) m a + tally a (asked_of b at m (far m)) ≡ tally a (told_of b at (at a) (far (at a)))
  pub home : (m : Node) (a : App) → 1 ≤ count_of m b.alive → (at a).0 ≡ m.0 → got tokens (far m) m a ≡ 0
  pub order : (m n : Node) (q : App → Bool) → 1 ≤ count_of m b.alive → n.0 ≢ m.0 → AreStrange b at m n q
      → come tokens (far m) m q ≡ filter q (told_of b at n (far n))
  pub events : (m : Node) → 1 ≤ count_of m b.alive
      → of_owner node_told (Some m) u.events ≡ of_owner node_told (Some m) b.events ++ tale b at m (far m).how (far m).done
  pub strangers : (m : Node) → count_of m b.alive ≡ 0 → of_owner node_told (Some m) u.events ≡ of_owner node_told (Some m) b.events
  pub nobodys : of_owner node_told None u.events ≡ of_owner node_told None b.events

-- ---- tokens that are drawn

pub drawn_fits : {A : Type 0} (p : A → Bool) (t : A) (tokens rest : List A) → Drawn t tokens rest → p t ≡ true
    → Drawn t (filter p tokens) (filter p rest)
drawn_fits p t [] rest drawn is = absurd drawn
drawn_fits {A} p t (x ∷ tokens) rest (inl (same, left)) is =
    rw (ap p same ∙ is) (inl (same, ap (filter p) left))
drawn_fits {A} p t (x ∷ tokens) rest (inr (more, left, drawn)) is =
    by (p x) (drawn_fits p t tokens more drawn is) (ap (filter p) left)
  where
    by : (c : Bool) → Drawn t (filter p tokens) (filter p more) → filter p rest ≡ cond c (x ∷ filter p more) (filter p more)
        → Drawn t (cond c (x ∷ filter p tokens) (filter p tokens)) (filter p rest)
    by true so same = inr (filter p more, same, so)
    by false so same = subst (Drawn t (filter p tokens)) (sym same) so

pub drawn_apart : {A : Type 0} (p : A → Bool) (t : A) (tokens rest : List A) → Drawn t tokens rest → p t ≡ false
    → filter p tokens ≡ filter p rest
drawn_apart p t [] rest drawn is = absurd drawn
drawn_apart {A} p t (x ∷ tokens) rest (inl (same, left)) is =
    ap (λ (c : Bool). cond c (x ∷ filter p tokens) (filter p tokens)) (ap p same ∙ is) ∙ ap (filter p) (sym left)
drawn_apart {A} p t (x ∷ tokens) rest (inr (more, left, drawn)) is =
    ap (λ (l : List A). cond (p x) (x ∷ l) l) (drawn_apart p t tokens more drawn is) ∙ ap (filter p) (sym left)

-- one of one
pub drawn_only : {A : Type 0} (t x : A) (rest : List A) → Drawn t (x ∷ []) rest → (x ≡ t) × (rest ≡ [])
drawn_only t x rest (inl (same, left)) = (same, left)
drawn_only t x rest (inr (more, left, drawn)) = absurd drawn

-- What arrives is one of them; and of those of its pair it is the first.
pub record First {A : Type 0} (f : A → Envelope) (e : Envelope) (tokens : List A) (left : List Envelope) : Type 0 where
  pub token : A
  pub rest : List A
  pub is : e ≡ f token
  pub drawn : Drawn token tokens rest
  pub left_so : left ≡ map f rest
  pub first : (p : A → Bool) → ((x y : A) → p x ≡ true → p y ≡ true → is_of_pair (f x) (f y) ≡ true) → p token ≡ true
      → filter p tokens ≡ token ∷ filter p rest

pub first_as : {A : Type 0} (f : A → Envelope) (e : Envelope) (tokens : List A) (left : List Envelope) → Taken e (map f tokens) left
    → First f e tokens left
first_as f e [] left taken = absurd taken
first_as {A} f e (t ∷ tokens) left (inl (is, rest)) = record {
  token = t;
  rest = tokens;
  is = sym is;
  drawn = inl (refl, refl);
  left_so = rest;
  first = λ p pairs fits. ap (λ (c : Bool). cond c (t ∷ filter p tokens) (filter p tokens)) fits;
}
first_as {A} f e (t ∷ tokens) left (inr (apart, rest, is, taken)) =
    let more : First f e tokens rest = first_as f e tokens rest taken in
    record {
      token = more.token;
      rest = t ∷ more.rest;
      is = more.is;
      drawn = inr (more.rest, refl, more.drawn);
      left_so = is ∙ ap (λ (l : List Envelope). f t ∷ l) more.left_so;
      first = λ p pairs fits. skips p more.token more.rest (p t) (λ so. pairs more.token t fits so)
          (ap (λ (y : Envelope). is_of_pair y (f t)) (sym more.is) ∙ apart) (more.first p pairs fits);
    }
  where
    skips : (p : A → Bool) (x : A) (more : List A) (c : Bool) → (c ≡ true → is_of_pair (f x) (f t) ≡ true) → is_of_pair (f x) (f t) ≡ false
        → filter p tokens ≡ x ∷ filter p more → cond c (t ∷ filter p tokens) (filter p tokens)
        ≡ x ∷ cond c (t ∷ filter p more) (filter p more)
    skips p x more true pair other rest = let yes : true ≡ false = sym (pair refl) ∙ other in absurd (cc)
    skips p x more false pair other rest = rest

-- ---- one node is further

-- what is so of one node and of each other is so of all
pub changed : {A : Type 0} (m : Node) → (Node → A) → A → Node → A
changed m f x k = cond (k.0 == m.0) x (f k)

pub changed_here : {A : Type 0} (m : Node) (f : Node → A) (x : A) (k : Node) → k.0 ≡ m.0 → changed m f x k ≡ x
unfolding changed
changed_here m f x k is = ap (λ (c : Bool). cond c x (f k)) (eq-eqb k.0 m.0 is)

pub changed_other : {A : Type 0} (m : Node) (f : Node → A) (x : A) (k : Node) → k.0 ≢ m.0 → changed m f x k ≡ f k
unfolding changed
changed_other m f x k other = ap (λ (c : Bool). cond c x (f k)) (ne_eqb k.0 m.0 other)

pub total_same : (f g : Node → ℕ) (nodes : List Node) → ((k : Node) → 1 ≤ count_of k nodes → f k ≡ g k) → total f nodes ≡ total g nodes
total_same f g [] same = refl
total_same f g (x ∷ nodes) same =
    let one : f x ≡ g x = same x (subst (λ (c : Bool). 1 ≤ more_if c (count_of x nodes)) (sym (eq-eqb x.0 x.0 refl)) (omega arith)) in
    let rest : total f nodes ≡ total g nodes = total_same f g nodes (λ k some. same k (more (x.0 == k.0) (count_of k nodes) some)) in
    omega (arith, one, rest)
  where
    more : (c : Bool) (j : ℕ) → 1 ≤ j → 1 ≤ more_if c j
    more true j some = omega (arith, some)
    more false j some = some

-- where one of them has changed, and stands there once
pub total_changed : (f g : Node → ℕ) (m : Node) (nodes : List Node) → count_of m nodes ≡ 1 → ((k : Node) → k.0 ≢ m.0 → f k ≡ g k)
    → total f nodes + g m ≡ total g nodes + f m
total_changed f g m nodes once same =
    let out : TakenOut m nodes = take_out m nodes (omega (arith, once)) in
    let one : total f nodes ≡ f m + total f out.rest = out.totals f in
    let other : total g nodes ≡ g m + total g out.rest = out.totals g in
    let none : count_of m nodes ≡ more_if (m.0 == m.0) (count_of m out.rest) = out.counts m in
    let here : more_if (m.0 == m.0) (count_of m out.rest) ≡ suc (count_of m out.rest) =
    ap (λ (c : Bool). more_if c (count_of m out.rest)) (eq-eqb m.0 m.0 refl) in
    let no : count_of m out.rest ≡ 0 = omega (arith, once, none, here) in
    let rest : total f out.rest ≡ total g out.rest = total_same f g out.rest (λ k some. same k (λ is. apart k is out.rest some no)) in
    omega (arith, one, other, rest)
  where
    apart : (k : Node) → k.0 ≡ m.0 → (l : List Node) → 1 ≤ count_of k l → count_of m l ≡ 0 → ⊥
    apart k is l some none = let same_count : count_of k l ≡ count_of m l = ap (λ (x : Node). count_of x l) (same_node k m is) in
        omega (arith, some, none, same_count)
