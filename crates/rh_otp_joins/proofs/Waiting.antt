-- A node that waits for others is told of each of them: its wait is over when it was told of all, and not before, and then it joins.
use Rattle.std.proofs.Common.{◌≡◌, ◌≤◌, ◌⊎◌, ◌+◌, ◌==◌, ◌&&◌, ◌||◌, not, ℕ, suc, Bool, true, false, cond, List, [], ◌∷◌, map, length, Some, refl, sym, ap, subst, ◌∙◌, inl, inr, arith}
use Rattle.std.proofs.lemmas.Bool.{eq-eqb, eqb-true, false≢true, or_right, cases_Bool}
use Rattle.rh_model.specs.ClusterView.{is_in}
use Rattle.rh_model.specs.declared.node.Node.{Node}
use Rattle.std.proofs.Math.Bool.{and-false}
use Rattle.rh_otp_crashes.proofs.Crossing.{same_node}
use Rattle.rh_otp_model.specs.declared.message.Message.TheVariants as message
use Rattle.rh_otp_model.specs.declared.output.Envelope.{Envelope}
use Rattle.rh_otp_node.specs.declared.node.Phase.{Phase}
use Rattle.rh_otp_node.specs.declared.node.Phase.TheVariants as phase
use Rattle.rh_otp_node.specs.Kernel as kernel
use Rattle.rh_otp_node.specs.Kernel.{without_node}
use Rattle.rh_otp_node.specs.Live.{LiveView, is_alive, is_up, is_down, is_phase_up}
use Rattle.rh_otp_system.specs.Delivering.{arrived}
use Rattle.rh_otp_system.specs.Joining.{go_on, join, kernel_handled, has_seen}
use Rattle.rh_otp_system.specs.State.{SystemView, live_at, node_at, with_node}
use Rattle.rh_otp_laws.proofs.Nodes.{node_written}
use Rattle.rh_otp_orders.specs.Orders.{AreAlike}
use Rattle.rh_otp_orders.proofs.Taking.{Taken}
use Rattle.rh_otp_crashes.proofs.Peace.{without, arrives_alive}
use Rattle.rh_otp_crashes.proofs.Turning.{node_is, written_twice}
use Rattle.rh_otp_joins.proofs.Arriving.{IsSteady}
use Rattle.rh_otp_joins.proofs.Lists.{more_if, count_of}
use Rattle.rh_otp_joins.proofs.Opened.{up_letter}

-- ---- lists of nodes

-- it is in the list without a node where it is in the list and isn't that one
in_without : (m x : Node) (nodes : List Node) → is_in m (without_node x nodes) ≡ (is_in m nodes && not (m.0 == x.0))
in_without m x [] = refl
in_without m x (y ∷ nodes) = by (cases_Bool (y.0 == x.0)) (in_without m x nodes)
  where
    alone : (a b : Bool) → (b && not a) ≡ ((a || b) && not a)
    alone true true = refl
    alone true false = refl
    alone false b = refl

    beside : (a b d : Bool) → (a ≡ true → d ≡ false) → (a || (b && not d)) ≡ ((a || b) && not d)
    beside true b d other = sym (ap not (other refl))
    beside false b d other = refl

    by : ((y.0 == x.0) ≡ true) ⊎ ((y.0 == x.0) ≡ false) → is_in m (without_node x nodes) ≡ (is_in m nodes && not (m.0 == x.0))
        → is_in m (cond (not (y.0 == x.0)) (y ∷ without_node x nodes) (without_node x nodes))
        ≡ ((m.0 == y.0 || is_in m nodes) && not (m.0 == x.0))
    by (inl same) rest =
        ap (λ (c : Bool). is_in m (cond (not c) (y ∷ without_node x nodes) (without_node x nodes))) same
        ∙ rest
        ∙ alone (m.0 == x.0) (is_in m nodes)
        ∙ ap (λ (k : ℕ). (m.0 == k || is_in m nodes) && not (m.0 == x.0)) (sym (eqb-true y.0 x.0 same))
    by (inr other) rest =
        ap (λ (c : Bool). is_in m (cond (not c) (y ∷ without_node x nodes) (without_node x nodes))) other
        ∙ ap (λ (c : Bool). m.0 == y.0 || c) rest
        ∙ beside (m.0 == y.0) (is_in m nodes) (m.0 == x.0) (λ is. ap (λ (k : ℕ). k == x.0) (eqb-true m.0 y.0 is) ∙ other)

-- each node of the lists is told of once for each of them in which it stands
abbrev pub Covers : List Node → List Node → List Node → Type 0
Covers ups ms os = (m : Node) → more_if (is_in m ms) 0 + more_if (is_in m os) 0 ≤ count_of m ups

pub covers_mandatory : (x : Node) (ups rest ms os : List Node) → is_in x ms ≡ true
    → ((m : Node) → count_of m ups ≡ more_if (x.0 == m.0) (count_of m rest)) → Covers ups ms os → Covers rest (without_node x ms) os
covers_mandatory x ups rest ms os among counts covers m =
    subst (λ (c : Bool). more_if c 0 + more_if (is_in m os) 0 ≤ count_of m rest) (sym (in_without m x ms))
    (by (m.0 == x.0) refl (x.0 == m.0) refl (is_in m ms) refl)
  where
    same_way : (a b : ℕ) → a ≡ b → (b == a) ≡ true
    same_way a b is = eq-eqb b a (sym is)

    by : (c : Bool) → (m.0 == x.0) ≡ c → (d : Bool) → (x.0 == m.0) ≡ d → (e : Bool) → is_in m ms ≡ e
        → more_if (e && not c) 0 + more_if (is_in m os) 0 ≤ count_of m rest
    by true is true is_too e in_ms =
        let before : more_if (is_in m ms) 0 + more_if (is_in m os) 0 ≤ count_of m ups = covers m in
        let here : more_if (is_in m ms) 0 ≡ 1 =
        ap (λ (k : Node). more_if (is_in k ms) 0) (same_node m x (eqb-true m.0 x.0 is)) ∙ ap (λ (c : Bool). more_if c 0) among in
        let one : count_of m ups ≡ suc (count_of m rest) = counts m ∙ ap (λ (c : Bool). more_if c (count_of m rest)) is_too in
        let none : more_if (e && false) 0 ≡ 0 = ap (λ (c : Bool). more_if c 0) (and-false e) in
        omega (arith, before, here, one, none)
    by true is false is_too e in_ms = absurd (false≢true (sym is_too ∙ same_way m.0 x.0 (eqb-true m.0 x.0 is)))
    by false is true is_too e in_ms = absurd (false≢true (sym is ∙ same_way x.0 m.0 (eqb-true x.0 m.0 is_too)))
    by false is false is_too true in_ms =
        let before : more_if (is_in m ms) 0 + more_if (is_in m os) 0 ≤ count_of m ups = covers m in
        let here : more_if (is_in m ms) 0 ≡ 1 = ap (λ (c : Bool). more_if c 0) in_ms in
        let one : count_of m ups ≡ count_of m rest = counts m ∙ ap (λ (c : Bool). more_if c (count_of m rest)) is_too in
        omega (arith, before, here, one)
    by false is false is_too false in_ms =
        let before : more_if (is_in m ms) 0 + more_if (is_in m os) 0 ≤ count_of m ups = covers m in
        let one : count_of m ups ≡ count_of m rest = counts m ∙ ap (λ (c : Bool). more_if c (count_of m rest)) is_too in
        omega (arith, before, one)

pub covers_optional : (x : Node) (ups rest ms os : List Node) → is_in x ms ≡ false
    → ((m : Node) → count_of m ups ≡ more_if (x.0 == m.0) (count_of m rest)) → Covers ups ms os → Covers rest ms (without_node x os)
covers_optional x ups rest ms os apart counts covers m =
    subst (λ (c : Bool). more_if (is_in m ms) 0 + more_if c 0 ≤ count_of m rest) (sym (in_without m x os))
    (by (m.0 == x.0) refl (x.0 == m.0) refl (is_in m os) refl)
  where
    by : (c : Bool) → (m.0 == x.0) ≡ c → (d : Bool) → (x.0 == m.0) ≡ d → (e : Bool) → is_in m os ≡ e
        → more_if (is_in m ms) 0 + more_if (e && not c) 0 ≤ count_of m rest
    by true is d is_too e in_os =
        let none : more_if (is_in m ms) 0 ≡ 0 =
        ap (λ (k : Node). more_if (is_in k ms) 0) (same_node m x (eqb-true m.0 x.0 is)) ∙ ap (λ (c : Bool). more_if c 0) apart in
        let none_too : more_if (e && false) 0 ≡ 0 = ap (λ (c : Bool). more_if c 0) (and-false e) in
        omega (arith, none, none_too)
    by false is true is_too e in_os = absurd (false≢true (sym is ∙ eq-eqb m.0 x.0 (sym (eqb-true x.0 m.0 is_too))))
    by false is false is_too true in_os =
        let before : more_if (is_in m ms) 0 + more_if (is_in m os) 0 ≤ count_of m ups = covers m in
        let here : more_if (is_in m os) 0 ≡ 1 = ap (λ (c : Bool). more_if c 0) in_os in
        let one : count_of m ups ≡ count_of m rest = counts m ∙ ap (λ (c : Bool). more_if c (count_of m rest)) is_too in
        omega (arith, before, here, one)
    by false is false is_too false in_os =
        let before : more_if (is_in m ms) 0 + more_if (is_in m os) 0 ≤ count_of m ups = covers m in
        let one : count_of m ups ≡ count_of m rest = counts m ∙ ap (λ (c : Bool). more_if c (count_of m rest)) is_too in
        omega (arith, before, one)

-- what is taken is of one of the nodes
pub record TakenOf (f : Node → Envelope) (e : Envelope) (nodes : List Node) (left : List Envelope) : Type 0 where
  pub node : Node
  pub rest : List Node
  pub is : e ≡ f node
  pub left_so : left ≡ map f rest
  pub counts : (m : Node) → count_of m nodes ≡ more_if (node.0 == m.0) (count_of m rest)
  pub long : length nodes ≡ suc (length rest)

pub taken_of : (f : Node → Envelope) (e : Envelope) (nodes : List Node) (left : List Envelope) → Taken e (map f nodes) left
    → TakenOf f e nodes left
taken_of f e [] left taken = absurd taken
taken_of f e (x ∷ nodes) left (inl (is, rest)) = record {
  node = x;
  rest = nodes;
  is = sym is;
  left_so = rest;
  counts = λ m. refl;
  long = refl;
}
taken_of f e (x ∷ nodes) left (inr (apart, rest, is, taken)) =
    let more : TakenOf f e nodes rest = taken_of f e nodes rest taken in
    record {
      node = more.node;
      rest = x ∷ more.rest;
      is = more.is;
      left_so = is ∙ ap (λ (l : List Envelope). f x ∷ l) more.left_so;
      counts = λ m. ap (more_if (x.0 == m.0)) (more.counts m) ∙ swapped (x.0 == m.0) (more.node.0 == m.0) (count_of m more.rest);
      long = let s : length nodes ≡ suc (length more.rest) = more.long in omega (arith, s);
    }
  where
    swapped : (b c : Bool) (j : ℕ) → more_if b (more_if c j) ≡ more_if c (more_if b j)
    swapped true true j = refl
    swapped true false j = refl
    swapped false c j = refl

-- ---- the wait

abbrev pub waiter : LiveView → List Node → List Node → LiveView
waiter v ms os = record v { mandatory = ms; optional = os }

-- it waits for these, and net_kernel tells of those
abbrev pub waiting_as : Node → LiveView → SystemView → List Node → List Node → List Node → SystemView
waiting_as n v q ms os ups = with_node n (waiter v ms os) (record q { messages = map (up_letter n q) ups })

-- it waits still
pub record Waits (n : Node) (v : LiveView) (q : SystemView) (extra weight : ℕ) (u : SystemView) : Type 0 where
  pub ms : List Node
  pub os : List Node
  pub ups : List Node
  pub weighs : weight ≡ length ups + extra
  pub waits : kernel.waits (waiter v ms os) ≡ true
  pub covers : Covers ups ms os
  pub is : u ≡ waiting_as n v q ms os ups

pub not_up : (p : Phase) → p ≡ phase.Waiting → is_phase_up p ≡ false
not_up p is = ap is_phase_up is

alive_yet : (p : Phase) → p ≡ phase.Waiting → cond (is_down p) false true ≡ true
alive_yet p is = ap (λ (x : Phase). cond (is_down x) false true) is

pub none_listed : (nodes : List Node) → kernel.is_some_node nodes ≡ false → nodes ≡ []
none_listed [] none = refl
none_listed (x ∷ nodes) none = absurd (false≢true (sym none))

-- it goes on with the lists that are left: it waits on, or joins
pub on_with : (n : Node) (v : LiveView) (q : SystemView) (Q : ℕ → SystemView → Type 0) (extra k : ℕ) (ms os ups : List Node) → live_at q n ≡ Some v
    → ((ups : List Node) → Q (length ups + extra) (join n (waiting_as n v q [] [] ups))) → k ≡ length ups + extra → Covers ups ms os
    → Waits n v q extra k (go_on n (waiting_as n v q ms os ups)) ⊎ Q k (go_on n (waiting_as n v q ms os ups))
on_with n v q Q extra k ms os ups there joins weighs covers =
    subst (λ (x : SystemView). Waits n v q extra k x ⊎ Q k x) (sym so) (by (kernel.is_some_node ms) refl (kernel.is_some_node os) refl)
  where
    u : SystemView
    u = waiting_as n v q ms os ups

    so : go_on n u ≡ cond (kernel.is_some_node ms || kernel.is_some_node os) u (join n u)
    so = ap (λ (x : LiveView). cond (kernel.waits x) u (join n u)) (node_written q n v (waiter v ms os) there)

    still : kernel.waits (waiter v ms os) ≡ true → Waits n v q extra k u
    still waits = record { ms = ms; os = os; ups = ups; weighs = weighs; waits = waits; covers = covers; is = refl }

    by : (c : Bool) → kernel.is_some_node ms ≡ c → (d : Bool) → kernel.is_some_node os ≡ d
        → Waits n v q extra k (cond (c || d) u (join n u)) ⊎ Q k (cond (c || d) u (join n u))
    by true is d is_too = inl (still (ap (λ (b : Bool). b || kernel.is_some_node os) is))
    by false is true is_too = inl (still (or_right (kernel.is_some_node ms) (kernel.is_some_node os) is_too))
    by false is false is_too =
        inr (subst (λ (j : ℕ). Q j (join n u)) (sym weighs)
        (subst (λ (a : List Node). Q (length ups + extra) (join n (waiting_as n v q a os ups))) (sym (none_listed ms is))
        (subst (λ (a : List Node). Q (length ups + extra) (join n (waiting_as n v q [] a ups))) (sym (none_listed os is_too)) (joins ups))))

-- it is told of a node, whichever it is
hears_of : (n : Node) (v : LiveView) (q : SystemView) (Q : ℕ → SystemView → Type 0) (extra k : ℕ) (x : Node) (ms os ups rest : List Node)
    → live_at q n ≡ Some v → v.phase ≡ phase.Waiting
    → ((ups : List Node) → Q (length ups + extra) (join n (waiting_as n v q [] [] ups))) → k ≡ length rest + extra
    → ((m : Node) → count_of m ups ≡ more_if (x.0 == m.0) (count_of m rest)) → Covers ups ms os
    → Waits n v q extra k (arrived (up_letter n q x).to (message.NodeUp x) (waiting_as n v q ms os rest))
    ⊎ Q k (arrived (up_letter n q x).to (message.NodeUp x) (waiting_as n v q ms os rest))
unfolding has_seen
hears_of n v q Q extra k x ms os ups rest there waits joins weighs counts covers =
    subst (λ (t : SystemView). Waits n v q extra k t ⊎ Q k t) (sym comes) (by (is_in x ms) refl)
  where
    s : SystemView
    s = waiting_as n v q ms os rest

    w : LiveView
    w = waiter v ms os

    here : node_at s n ≡ w
    here = node_written q n v w there

    seen : Bool → LiveView
    seen c = cond c (waiter v (without_node x ms) os) (waiter v ms (without_node x os))

    comes : arrived (up_letter n q x).to (message.NodeUp x) s ≡ go_on n (with_node n (seen (is_in x ms)) s)
    comes =
        arrives_alive (up_letter n q x).to (message.NodeUp x) s (ap is_alive here ∙ alive_yet v.phase waits)
        (ap (λ (y : LiveView). y.life) here ∙ sym (ap (λ (y : LiveView). y.life) (node_is q n v there)))
        ∙ ap (λ (c : Bool). cond c s (kernel_handled n (message.NodeUp x) s)) (ap is_up here ∙ not_up v.phase waits)
        ∙ ap (λ (y : LiveView). go_on n (with_node n (kernel.seen x y) s)) here

    twice : (y : LiveView) → with_node n y s ≡ with_node n y (record q { messages = map (up_letter n q) rest })
    twice y = written_twice (record q { messages = map (up_letter n q) rest }) n w y

    by : (c : Bool) → is_in x ms ≡ c
        → Waits n v q extra k (go_on n (with_node n (seen c) s)) ⊎ Q k (go_on n (with_node n (seen c) s))
    by true among =
        subst (λ (t : SystemView). Waits n v q extra k (go_on n t) ⊎ Q k (go_on n t)) (sym (twice (waiter v (without_node x ms) os)))
        (on_with n v q Q extra k (without_node x ms) os rest there joins weighs (covers_mandatory x ups rest ms os among counts covers))
    by false apart =
        subst (λ (t : SystemView). Waits n v q extra k (go_on n t) ⊎ Q k (go_on n t)) (sym (twice (waiter v ms (without_node x os))))
        (on_with n v q Q extra k ms (without_node x os) rest there joins weighs (covers_optional x ups rest ms os apart counts covers))

-- who waits for somebody is told of somebody
pub some_up : (v : LiveView) (ups ms os : List Node) → kernel.waits (waiter v ms os) ≡ true → Covers ups ms os → ups ≡ [] → ⊥
some_up v ups [] [] waits covers none = absurd (false≢true waits)
some_up v ups (x ∷ ms) os waits covers none =
    let most : more_if (is_in x (x ∷ ms)) 0 + more_if (is_in x os) 0 ≤ count_of x ups = covers x in
    let one : more_if (is_in x (x ∷ ms)) 0 ≡ 1 = ap (λ (c : Bool). more_if (c || is_in x ms) 0) (eq-eqb x.0 x.0 refl) in
    let no : count_of x ups ≡ 0 = ap (count_of x) none in
    omega (arith, most, one, no)
some_up v ups [] (x ∷ os) waits covers none =
    let most : more_if (is_in x []) 0 + more_if (is_in x (x ∷ os)) 0 ≤ count_of x ups = covers x in
    let one : more_if (is_in x (x ∷ os)) 0 ≡ 1 = ap (λ (c : Bool). more_if (c || is_in x os) 0) (eq-eqb x.0 x.0 refl) in
    let no : count_of x ups ≡ 0 = ap (count_of x) none in
    omega (arith, most, one, no)

none_mapped : (f : Node → Envelope) (nodes : List Node) → map f nodes ≡ [] → nodes ≡ []
none_mapped f [] none = refl
none_mapped f (x ∷ nodes) none =
    absurd (let long : suc (length (map f nodes)) ≡ 0 = ap length none in omega (arith, long))

none_long : (nodes : List Node) (extra : ℕ) → 0 ≡ length nodes + extra → nodes ≡ []
none_long [] extra none = refl
none_long (x ∷ nodes) extra none = absurd (omega (arith, none))

-- so it doesn't end waiting
pub never_ends : (v : LiveView) (ups ms os : List Node) → kernel.waits (waiter v ms os) ≡ true → Covers ups ms os → (extra : ℕ)
    → 0 ≡ length ups + extra → ⊥
never_ends v ups ms os waits covers extra none = some_up v ups ms os waits covers (none_long ups extra none)

-- So the wait leads on steadily, where what comes behind it does.
pub waits_steadily : (n : Node) (v : LiveView) (q : SystemView) (Q : ℕ → SystemView → Type 0) (extra : ℕ) → live_at q n ≡ Some v
    → v.phase ≡ phase.Waiting → IsSteady Q → ((ups : List Node) → Q (length ups + extra) (join n (waiting_as n v q [] [] ups)))
    → IsSteady (λ k u. Waits n v q extra k u ⊎ Q k u)
waits_steadily n v q Q extra there waits steady joins = record { some = some; on = on; same = same }
  where
    some : (k : ℕ) (u : SystemView) → Waits n v q extra (suc k) u ⊎ Q (suc k) u → u.messages ≡ [] → ⊥
    some k u (inl f) none =
        some_up v f.ups f.ms f.os f.waits f.covers
        (none_mapped (up_letter n q) f.ups (sym (ap (λ (x : SystemView). x.messages) f.is) ∙ none))
    some k u (inr f) none = steady.some k u f none

    on : (k : ℕ) (u : SystemView) (e : Envelope) (left : List Envelope) → Waits n v q extra (suc k) u ⊎ Q (suc k) u → Taken e u.messages left
        → Waits n v q extra k (arrived e.to e.message (without u left)) ⊎ Q k (arrived e.to e.message (without u left))
    on k u e left (inr f) taken = inr (steady.on k u e left f taken)
    on k u e left (inl f) taken =
        let at : TakenOf (up_letter n q) e f.ups left =
        taken_of (up_letter n q) e f.ups left (subst (λ (x : SystemView). Taken e x.messages left) f.is taken) in
        let all : suc k ≡ length f.ups + extra = f.weighs in
        let long : length f.ups ≡ suc (length at.rest) = at.long in
        subst (λ (t : SystemView). Waits n v q extra k t ⊎ Q k t)
        (λ i. arrived (sym at.is i).to (sym at.is i).message (record (sym f.is i) { messages = sym at.left_so i }))
        (hears_of n v q Q extra k at.node f.ms f.os f.ups at.rest there waits joins (omega (arith, all, long)) at.counts f.covers)

    same : (u t : SystemView) → Waits n v q extra 0 u ⊎ Q 0 u → Waits n v q extra 0 t ⊎ Q 0 t → AreAlike u t
    same u t (inl f) h = absurd (never_ends v f.ups f.ms f.os f.waits f.covers extra f.weighs)
    same u t (inr f) (inl h) = absurd (never_ends v h.ups h.ms h.os h.waits h.covers extra h.weighs)
    same u t (inr f) (inr h) = steady.same u t f h
