-- While the messages of a boot arrive, each node waits for no more others than it is to be told of still, and those that aren't alive.
use Rattle.std.proofs.Common.{◌≡◌, ◌≢◌, ◌≤◌, ◌⊎◌, ◌+◌, ◌==◌, ◌&&◌, ℕ, suc, Bool, true, false, cond, List, [], ◌∷◌, filter, length, Some, refl, sym, ap, subst, ◌∙◌, inl, inr, arith}
use Rattle.std.specs.Prelude.{All, if◌then◌else◌}
use Rattle.std.proofs.lemmas.Bool.{cases_Bool, cases_eq, cond-false, eq-eqb, ne_eqb, false≢true}
use Rattle.rh_model.specs.ClusterView.{is_in}
use Rattle.rh_model.specs.declared.node.Node.{Node}
use Rattle.rh_otp_model.specs.declared.message.Message.TheVariants as message
use Rattle.rh_otp_model.specs.declared.output.Envelope.{Envelope}
use Rattle.rh_otp_node.specs.declared.node.Phase.{Phase}
use Rattle.rh_otp_node.specs.Kernel as kernel
use Rattle.rh_otp_node.specs.Live.{LiveView, is_alive, is_up, is_down}
use Rattle.rh_otp_system.specs.Delivering.{arrived}
use Rattle.rh_otp_system.specs.Joining.{has_seen}
use Rattle.rh_otp_system.specs.Moves.{Delivers, Reaches, here, behind_one}
use Rattle.rh_otp_system.specs.State.{SystemView, live_at, node_at, with_node, is_alive_at, is_up_at}
use Rattle.rh_otp_laws.specs.Acting.{IsThere}
use Rattle.rh_otp_laws.proofs.Nodes.{node_written, there_written, others_same, others_as_they_were, alive_is_there}
use Rattle.rh_otp_orders.proofs.Taking.{Taken}
use Rattle.rh_otp_crashes.proofs.Crash.{lives_of}
use Rattle.rh_otp_crashes.proofs.Crossing.{same_node}
use Rattle.rh_otp_crashes.proofs.Peace.{without, arrives_alive, arrives_dead, taken_all}
use Rattle.rh_otp_stops.proofs.Still.{Come}
use Rattle.rh_otp_waits.proofs.Waiting.{IsUp, hears, up_of, HeardOnly, IsCalm, Passed, waits_on, taken_on, step, goes_on}
use Rattle.rh_otp_gathers.specs.Gathers.{tellings, is_node_up, one_if}
use Rattle.rh_otp_gathers.proofs.Knowing.{is_some_count, in_count}
use Rattle.rh_otp_gathers.proofs.Owning.{count_without, count_without_other}

-- in how many of its lists it waits for this one
abbrev pub waits_for : Node → LiveView → ℕ
waits_for x v = one_if (is_in x v.mandatory) + one_if (is_in x v.optional)

-- Each that is alive waits for each in no more lists than it is to be told of it, and than there are more. All that were there are there,
-- and those that aren't alive are as they were.
pub record Covers (more : Node → ℕ) (first s : SystemView) : Type 0 where
  pub most : (m x : Node) → is_alive_at s m ≡ true → waits_for x (node_at s m) ≤ tellings m x s.messages + more x
  pub there : (m : Node) → IsThere m first → IsThere m s
  pub dead : (m : Node) → is_alive_at s m ≡ false → node_at s m ≡ node_at first m

-- ---- it hears of one

out_of : (y : Node) (nodes : List Node) → is_in y (kernel.without_node y nodes) ≡ false
out_of y nodes = in_count y (kernel.without_node y nodes) ∙ ap is_some_count (count_without y nodes)

still_in : (x y : Node) (nodes : List Node) → x.0 ≢ y.0 → is_in x (kernel.without_node y nodes) ≡ is_in x nodes
still_in x y nodes apart =
    in_count x (kernel.without_node y nodes) ∙ ap is_some_count (count_without_other x y nodes apart) ∙ sym (in_count x nodes)

-- it waits for that one in one list less, if in any
seen_once : (y : Node) (v : LiveView) (k : ℕ) → waits_for y v ≤ suc k → waits_for y (kernel.seen y v) ≤ k
seen_once y v k most = by (is_in y v.mandatory) refl
  where
    by : (c : Bool) → is_in y v.mandatory ≡ c
        → waits_for y (cond c (record v { mandatory = kernel.without_node y v.mandatory })
        (record v { optional = kernel.without_node y v.optional })) ≤ k
    by true is =
        let one : one_if (is_in y v.mandatory) ≡ 1 = ap one_if is in
        let none : one_if (is_in y (kernel.without_node y v.mandatory)) ≡ 0 = ap one_if (out_of y v.mandatory) in
        omega (arith, most, one, none)
    by false out =
        let none : one_if (is_in y v.mandatory) ≡ 0 = ap one_if out in
        let no : one_if (is_in y (kernel.without_node y v.optional)) ≡ 0 = ap one_if (out_of y v.optional) in
        omega (arith, none, no)

-- and for another one as before
seen_other : (x y : Node) (v : LiveView) → x.0 ≢ y.0 → waits_for x (kernel.seen y v) ≡ waits_for x v
seen_other x y v apart = by (is_in y v.mandatory)
  where
    by : (c : Bool)
        → waits_for x (cond c (record v { mandatory = kernel.without_node y v.mandatory })
        (record v { optional = kernel.without_node y v.optional }))
        ≡ waits_for x v
    by true = ap (λ (c : Bool). one_if c + one_if (is_in x v.optional)) (still_in x y v.mandatory apart)
    by false = ap (λ (c : Bool). one_if (is_in x v.mandatory) + one_if c) (still_in x y v.optional apart)

seen_phase : (y : Node) (v : LiveView) → (kernel.seen y v).phase ≡ v.phase
seen_phase y v = by (is_in y v.mandatory)
  where
    by : (c : Bool)
        → (cond c (record v { mandatory = kernel.without_node y v.mandatory })
        (record v { optional = kernel.without_node y v.optional })).phase ≡ v.phase
    by true = refl
    by false = refl

-- ---- what is on its way behind that

one_less : (m x : Node) (e : Envelope) (messages left : List Envelope) → Taken e messages left
    → tellings m x messages ≡ one_if (e.to.node.0 == m.0 && is_node_up x e.message) + tellings m x left
one_less m x e [] left taken = absurd taken
one_less m x e (f ∷ messages) left (inl (is, rest)) =
    ap (λ (l : List Envelope). tellings m x (f ∷ l)) (sym rest)
    ∙ ap (λ (g : Envelope). tellings m x (g ∷ left)) is
    ∙ first (e.to.node.0 == m.0 && is_node_up x e.message)
  where
    first : (c : Bool) → length (cond c (e ∷ filter (λ (g : Envelope). g.to.node.0 == m.0 && is_node_up x g.message) left)
        (filter (λ (g : Envelope). g.to.node.0 == m.0 && is_node_up x g.message) left)) ≡ one_if c + tellings m x left
    first true = omega arith
    first false = omega arith
one_less m x e (f ∷ messages) left (inr (apart, rest, is, taken)) =
    later (f.to.node.0 == m.0 && is_node_up x f.message) (one_less m x e messages rest taken)
    ∙ ap (λ (l : List Envelope). one_if (e.to.node.0 == m.0 && is_node_up x e.message) + tellings m x l) (sym is)
  where
    later : (c : Bool) → tellings m x messages ≡ one_if (e.to.node.0 == m.0 && is_node_up x e.message) + tellings m x rest
        → length (cond c (f ∷ filter (λ (g : Envelope). g.to.node.0 == m.0 && is_node_up x g.message) messages)
        (filter (λ (g : Envelope). g.to.node.0 == m.0 && is_node_up x g.message) messages))
        ≡ one_if (e.to.node.0 == m.0 && is_node_up x e.message)
        + length (cond c (f ∷ filter (λ (g : Envelope). g.to.node.0 == m.0 && is_node_up x g.message) rest)
        (filter (λ (g : Envelope). g.to.node.0 == m.0 && is_node_up x g.message) rest))
    later true so = omega (arith, so)
    later false so = so

-- ---- a message has come

-- one that is told to another node, or of another one, doesn't count
not_this : (lives : Node → ℕ) (k y m x : Node) (s : SystemView) (left : List Envelope) → Taken (up_of lives k y) s.messages left
    → (k.0 == m.0 && y.0 == x.0) ≡ false → tellings m x s.messages ≡ tellings m x left
not_this lives k y m x s left taken other =
    one_less m x (up_of lives k y) s.messages left taken ∙ ap (λ (c : Bool). one_if c + tellings m x left) other ∙ none
  where
    none : 0 + tellings m x left ≡ tellings m x left
    none = omega arith

this : (lives : Node → ℕ) (k y m x : Node) (s : SystemView) (left : List Envelope) → Taken (up_of lives k y) s.messages left
    → (k.0 == m.0 && y.0 == x.0) ≡ true → tellings m x s.messages ≡ suc (tellings m x left)
this lives k y m x s left taken same =
    one_less m x (up_of lives k y) s.messages left taken ∙ ap (λ (c : Bool). one_if c + tellings m x left) same ∙ one
  where
    one : 1 + tellings m x left ≡ suc (tellings m x left)
    one = omega arith

module _ {heard : Node → Node → Bool} {a : SystemView} (waiting : (m : Node) → is_alive_at a m ≡ true → is_up_at a m ≡ false)
    (more : Node → ℕ) (first : SystemView) where
  -- it arrives
  covers_up : (k y : Node) (s : SystemView) (left : List Envelope) → heard k y ≡ true → HeardOnly heard a s
      → All (IsUp heard (lives_of a)) left → Taken (up_of (lives_of a) k y) s.messages left → Covers more first s
      → Covers more first (arrived (up_of (lives_of a) k y).to (message.NodeUp y) (without s left))
  covers_up k y s left is w rest taken covers = by (cases_Bool (is_alive_at q k))
    where
      q : SystemView
      q = without s left

      e : Envelope
      e = up_of (lives_of a) k y

      elsewhere : (m x : Node) → m.0 ≢ k.0 → is_alive_at s m ≡ true → waits_for x (node_at s m) ≤ tellings m x left + more x
      elsewhere m x apart alive =
          let same : tellings m x s.messages ≡ tellings m x left =
          not_this (lives_of a) k y m x s left taken (ap (λ (c : Bool). c && y.0 == x.0) (ne_eqb k.0 m.0 (λ it. apart (sym it)))) in
          let most : waits_for x (node_at s m) ≤ tellings m x s.messages + more x = covers.most m x alive in
          omega (arith, same, most)

      by : (is_alive_at q k ≡ true) ⊎ (is_alive_at q k ≡ false) → Covers more first (arrived e.to (message.NodeUp y) q)
      by (inr dead) = subst (Covers more first) (sym (arrives_dead e.to e.message q dead)) (record {
        most = λ m x alive. elsewhere m x (λ it. false≢true (sym (ap (is_alive_at q) (same_node m k it) ∙ dead) ∙ alive)) alive;
        there = covers.there;
        dead = covers.dead;
      })
      by (inl alive) =
          subst (Covers more first)
          (sym (arrives_alive e.to e.message q alive (ap (λ (v : LiveView). v.life) (w.nodes k))
          ∙ cond-false (is_up_at q k) q (has_seen k y q) down
          ∙ waits_on k y q is alive down (taken_on s left w rest)))
          (record {
            most = λ m x alive_then. there m x alive_then (cases_eq m.0 k.0);
            there = λ m there_first. still_there m (covers.there m there_first) (cases_eq m.0 k.0);
            dead = λ m dead. still_dead m dead (cases_eq m.0 k.0);
          })
        where
          down : is_up_at q k ≡ false
          down = ap is_up (w.nodes k) ∙ waiting k (sym (ap is_alive (w.nodes k)) ∙ alive)

          new : LiveView
          new = kernel.seen y (node_at q k)

          old : (v : LiveView) × (live_at q k ≡ Some v)
          old = alive_is_there q k alive

          written : node_at (with_node k new q) k ≡ new
          written = node_written q k old.0 new old.1

          still_there : (m : Node) → IsThere m s → (m.0 ≡ k.0) ⊎ (m.0 ≢ k.0) → IsThere m (with_node k new q)
          still_there m there_before (inl it) =
              subst (λ (j : Node). IsThere j (with_node k new q)) (sym (same_node m k it)) (new, there_written q k old.0 new old.1)
          still_there m there_before (inr apart) = (there_before.0, others_as_they_were q k m new apart ∙ there_before.1)

          still_dead : (m : Node) → is_alive_at (with_node k new q) m ≡ false → (m.0 ≡ k.0) ⊎ (m.0 ≢ k.0)
              → node_at (with_node k new q) m ≡ node_at first m
          still_dead m dead (inl it) =
              absurd (false≢true (sym dead
              ∙ ap (is_alive_at (with_node k new q)) (same_node m k it)
              ∙ ap is_alive written
              ∙ ap (λ (p : Phase). if is_down p then false else true) (seen_phase y (node_at q k))
              ∙ alive))
          still_dead m dead (inr apart) =
              let same : node_at (with_node k new q) m ≡ node_at q m = others_same q k m new apart in
              same ∙ covers.dead m (sym (ap is_alive same) ∙ dead)

          here_at : (x : Node) → (x.0 ≡ y.0) ⊎ (x.0 ≢ y.0) → waits_for x new ≤ tellings k x left + more x
          here_at x (inl it) =
              subst (λ (j : Node). waits_for j new ≤ tellings k j left + more j) (sym (same_node x y it))
              (seen_once y (node_at q k) (tellings k y left + more y)
              (let one : tellings k y s.messages ≡ suc (tellings k y left) =
              this (lives_of a) k y k y s left taken (λ i. eq-eqb k.0 k.0 refl i && eq-eqb y.0 y.0 refl i) in
              let most : waits_for y (node_at s k) ≤ tellings k y s.messages + more y = covers.most k y alive in
              omega (arith, one, most)))
          here_at x (inr other) =
              let still : waits_for x new ≡ waits_for x (node_at q k) = seen_other x y (node_at q k) other in
              let same : tellings k x s.messages ≡ tellings k x left =
              not_this (lives_of a) k y k x s left taken (λ i. eq-eqb k.0 k.0 refl i && ne_eqb y.0 x.0 (λ it. other (sym it)) i) in
              let most : waits_for x (node_at s k) ≤ tellings k x s.messages + more x = covers.most k x alive in
              omega (arith, still, same, most)

          there : (m x : Node) → is_alive_at (with_node k new q) m ≡ true → (m.0 ≡ k.0) ⊎ (m.0 ≢ k.0)
              → waits_for x (node_at (with_node k new q) m) ≤ tellings m x left + more x
          there m x alive_then (inl it) =
              subst (λ (j : Node). waits_for x (node_at (with_node k new q) j) ≤ tellings j x left + more x) (sym (same_node m k it))
              (subst (λ (v : LiveView). waits_for x v ≤ tellings k x left + more x) (sym written) (here_at x (cases_eq x.0 y.0)))
          there m x alive_then (inr apart) =
              let same : node_at (with_node k new q) m ≡ node_at q m = others_same q k m new apart in
              subst (λ (v : LiveView). waits_for x v ≤ tellings m x left + more x) (sym same)
              (elsewhere m x apart (sym (ap is_alive same) ∙ alive_then))

  covers_come : (s : SystemView) (e : Envelope) (left : List Envelope) → HeardOnly heard a s → IsUp heard (lives_of a) e
      → All (IsUp heard (lives_of a)) left → Taken e s.messages left → Covers more first s
      → Covers more first (arrived e.to e.message (without s left))
  covers_come s _ left w (hears k y is) rest taken covers = covers_up k y s left is w rest taken covers

  covers_on : (s t : SystemView) → IsCalm a → HeardOnly heard a s → Delivers s t → Covers more first s → Covers more first t
  covers_on s t calm w one covers = by (step s t calm w one)
    where
      by : Come s t ⊎ ((s.messages ≡ []) × Passed s t) → Covers more first t
      by (inl come) =
          let kinds : IsUp heard (lives_of a) come.message × All (IsUp heard (lives_of a)) come.left =
          taken_all (IsUp heard (lives_of a)) come.message s.messages come.left come.taken w.messages in
          subst (Covers more first) (sym come.is) (covers_come s come.message come.left w kinds.0 kinds.1 come.taken covers)
      by (inr passed) =
          subst (Covers more first) (sym passed.1.is) (record { most = covers.most; there = covers.there; dead = covers.dead })

  pub covers_all : (s p : SystemView) → Reaches s p → IsCalm a → HeardOnly heard a s → Covers more first s → Covers more first p
  covers_all _ _ (here s) calm w covers = covers
  covers_all _ _ (behind_one s q p one rest) calm w covers =
      covers_all q p rest calm (goes_on s q calm w one) (covers_on s q calm w one covers)
