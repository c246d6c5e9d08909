-- By every order nodes that gather come to the same: all have joined, and all dist_acs have synchronised.
use Rattle.std.proofs.Common.{◌≡◌, ◌≢◌, ◌≤◌, ◌⊎◌, ◌+◌, ◌++◌, ◌==◌, ℕ, zero, suc, Bool, true, false, cond, List, [], ◌∷◌, filter, map, length, Option, Some, None, refl, sym, ap, subst, ◌∙◌, inl, inr, arith}
use Rattle.std.specs.Option.{option_map}
use Rattle.std.specs.Prelude.{All}
use Rattle.std.proofs.lemmas.Bool.{cases_Bool, cases_eq, eq-eqb, ne_eqb}
use Rattle.std.proofs.lemmas.List.Elements.{All-head, filter-append}
use Rattle.rh_history.specs.Draft.{DraftView}
use Rattle.rh_model.specs.ClusterView.{is_in}
use Rattle.rh_model.specs.declared.node.Node.{Node}
use Rattle.rh_otp_model.specs.declared.output.Envelope.{Envelope}
use Rattle.rh_otp_model.specs.declared.output.Event.TheVariants as event
use Rattle.rh_otp_dist.specs.State.{DistView}
use Rattle.rh_otp_net.specs.declared.locks.Held.{Held}
use Rattle.rh_otp_node.specs.Live.{LiveView}
use Rattle.rh_otp_system.specs.declared.cell.Cell.{Cell}
use Rattle.rh_otp_system.specs.declared.cell.Cell.TheVariants as cell
use Rattle.rh_otp_system.specs.declared.slow.Slow.TheVariants as slow
use Rattle.rh_otp_system.specs.Delivering.{arrived}
use Rattle.rh_otp_system.specs.State.{SystemView, node_at, has_dist_at}
use Rattle.rh_otp_laws.specs.Turns.{node_of_slow}
use Rattle.rh_otp_orders.specs.Orders.{AreAlike, SameOfEach, of_owner, is_owner, node_told}
use Rattle.rh_otp_orders.proofs.Same.{cell_at}
use Rattle.rh_otp_orders.proofs.Taking.{Taken}
use Rattle.rh_otp_crashes.proofs.Crossing.{same_node}
use Rattle.rh_otp_crashes.proofs.Peace.{without}
use Rattle.rh_otp_joins.proofs.Arriving.{IsSteady}
use Rattle.rh_otp_joins.proofs.Going.{the_others, known_first}
use Rattle.rh_otp_joins.proofs.Introducing.{Learnt, learn_all, unwatched, live_waiting}
use Rattle.rh_otp_joins.proofs.Lists.{more_if, count_of, counts_itself}
use Rattle.rh_otp_joins.proofs.Mailing.{words}
use Rattle.rh_otp_joins.proofs.Settling.{Ended, ended_by, same_lists}
use Rattle.rh_otp_joins.proofs.Waiting.{some_up}
use Rattle.rh_otp_gathers.proofs.Going.{early}
use Rattle.rh_otp_gathers.proofs.Hearing.{hears_up}
use Rattle.rh_otp_gathers.proofs.Meeting.{hears_hi, friends_so}
use Rattle.rh_otp_gathers.proofs.Setting.{hears_go}
use Rattle.rh_otp_gathers.proofs.Stages.{told_in, friends, letter, Gathering, joined, Waits, Joined, Gone, one_if, At, unsent, marks, IsOwned, later_weight, weight_of, Stage}
use Rattle.rh_otp_gathers.proofs.Tokens.{Token, up, go, hi, up_of, go_of, hi_of, total, Drawn, DrawnAs, drawn_as}

-- ---- one step

goes_on : {b : SystemView} {g : Gathering b} (weight : ℕ) (u : SystemView) (f : Stage g (suc weight) u) (e : Envelope) (left : List Envelope)
    → Taken e u.messages left → Stage g weight (arrived e.to e.message (without u left))
goes_on {b} {g} weight u f e left taken =
    subst (λ (x : Envelope). Stage g weight (arrived x.to x.message (without u left))) (sym at.is) (by at.token at.drawn)
  where
    at : DrawnAs (letter b) e f.tokens left
    at = drawn_as (letter b) e f.tokens left (subst (λ (l : List Envelope). Taken e l left) (ap (λ (z : SystemView). z.messages) f.same) taken)

    by : (t : Token) → Drawn t f.tokens at.rest → Stage g weight (arrived (letter b t).to (letter b t).message (without u left))
    by (up m x) drawn = hears_up weight u f m x at.rest left drawn at.left_so
    by (go m) drawn = hears_go weight u f m at.rest left drawn at.left_so
    by (hi k m) drawn = hears_hi weight u f k m at.rest left drawn at.left_so

-- ---- who waits still is to be told of somebody

no_tokens : (b : SystemView) (tokens : List Token) → map (letter b) tokens ≡ [] → tokens ≡ []
no_tokens b [] none = refl
no_tokens b (t ∷ tokens) none = absurd (let long : suc (length (map (letter b) tokens)) ≡ 0 = ap length none in omega (arith, long))

light : (b : SystemView) (tokens : List Token) (more : ℕ) → total (weight_of b) tokens + more ≡ 0 → tokens ≡ []
light b [] more none = refl
light b (t ∷ tokens) more none = absurd (by t none)
  where
    by : (t : Token) → (weight_of b t + total (weight_of b) tokens) + more ≡ 0 → ⊥
    by (up m x) is = omega (arith, is)
    by (go m) is = omega (arith, is)
    by (hi k m) is = omega (arith, is)

module _ {b : SystemView} {g : Gathering b} (weight : ℕ) (u : SystemView) (f : Stage g weight u) (none : f.tokens ≡ []) where
  -- nobody waits any more
  no_waits : (m : Node) {left later : List Node} {c : Option Cell} → Waits b m left later c (marks b f.tokens f.ups f.gone f.holders m) → ⊥
  no_waits m w =
      some_up (node_at b m) [] w.ms w.os w.waits
      (λ x. subst (λ (l : List Token). more_if (is_in x w.ms) 0 + more_if (is_in x w.os) 0 ≤ total (up_of m x) l) none (w.covers x)) refl

  pub none_waiting : (m : Node) → count_of m f.waiting ≡ 0
  none_waiting m = by (count_of m f.waiting) refl
    where
      by : (k : ℕ) → count_of m f.waiting ≡ k → k ≡ 0
      by zero is = refl
      by (suc k) is =
          absurd (how at.how)
        where
          within : 1 ≤ count_of m g.nodes
          within = let all : count_of m f.waiting + count_of m f.ups ≡ count_of m g.nodes = f.each m in omega (arith, all, is)

          at : At b m (cell_at u m.0) (marks b f.tokens f.ups f.gone f.holders m)
          at = f.at m within

          not_one : count_of m f.ups ≡ 1 → ⊥
          not_one one =
              let all : count_of m f.waiting + count_of m f.ups ≡ count_of m g.nodes = f.each m in
              let single : count_of m g.nodes ≤ 1 = g.single m in
              omega (arith, all, single, is, one)

          how : Waits b m at.left at.later (cell_at u m.0) (marks b f.tokens f.ups f.gone f.holders m)
              ⊎ (Joined b m at.left at.later (cell_at u m.0) (marks b f.tokens f.ups f.gone f.holders m)
              ⊎ Gone b m at.left at.later (cell_at u m.0) (marks b f.tokens f.ups f.gone f.holders m)) → ⊥
          how (inl w) = no_waits m w
          how (inr (inl j)) = not_one j.ups
          how (inr (inr o)) = not_one o.ups

  pub all_up : (m : Node) → count_of m f.ups ≡ count_of m g.nodes
  all_up m =
      let all : count_of m f.waiting + count_of m f.ups ≡ count_of m g.nodes = f.each m in
      let no : count_of m f.waiting ≡ 0 = none_waiting m in
      omega (arith, all, no)

  -- a node with a dist_ac is gone
  pub is_gone : (m : Node) → (within : 1 ≤ count_of m g.nodes) → has_dist_at b m ≡ true
      → Gone b m (f.at m within).left (f.at m within).later (cell_at u m.0) (marks b f.tokens f.ups f.gone f.holders m)
  is_gone m within has = by (f.at m within).how
    where
      by : Waits b m (f.at m within).left (f.at m within).later (cell_at u m.0) (marks b f.tokens f.ups f.gone f.holders m)
          ⊎ (Joined b m (f.at m within).left (f.at m within).later (cell_at u m.0) (marks b f.tokens f.ups f.gone f.holders m)
          ⊎ Gone b m (f.at m within).left (f.at m within).later (cell_at u m.0) (marks b f.tokens f.ups f.gone f.holders m))
          → Gone b m (f.at m within).left (f.at m within).later (cell_at u m.0) (marks b f.tokens f.ups f.gone f.holders m)
      by (inl w) = absurd (no_waits m w)
      by (inr (inl j)) =
          absurd (let one : total (go_of m) f.tokens ≡ one_if (has_dist_at b m) = j.going in
          let is : one_if (has_dist_at b m) ≡ 1 = ap one_if has in
          let no : total (go_of m) f.tokens ≡ 0 = ap (total (go_of m)) none in
          omega (arith, one, is, no))
      by (inr (inr o)) = o

  -- and all have introduced themselves to it
  pub all_came : (m : Node) → (within : 1 ≤ count_of m g.nodes) → has_dist_at b m ≡ true → Ended (f.at m within).later (f.at m within).left
  all_came m within has =
      ended_by (f.at m within).later (f.at m within).left (is_gone m within has).unmet (λ x.
      (let all : total (hi_of x m) f.tokens + unsent (count_of x f.gone) (count_of x (friends b m)) + count_of x (f.at m within).left ≡ count_of x (f.at m within).later = (f.at m within).counts x in
      let no : total (hi_of x m) f.tokens ≡ 0 = ap (total (hi_of x m)) none in
      let sent : unsent (count_of x f.gone) (count_of x (friends b m)) ≡ 0 = sent_all x in
      let same : count_of x (f.at m within).left ≡ count_of x (f.at m within).later = omega (arith, all, no, sent) in
      same))
    where
      sent_all : (x : Node) → unsent (count_of x f.gone) (count_of x (friends b m)) ≡ 0
      sent_all x = by (count_of x (friends b m)) refl
        where
          by : (k : ℕ) → count_of x (friends b m) ≡ k → unsent (count_of x f.gone) (count_of x (friends b m)) ≡ 0
          by zero is = ap (unsent (count_of x f.gone)) is ∙ nought (count_of x f.gone)
            where
              nought : (n : ℕ) → unsent n 0 ≡ 0
              nought zero = refl
              nought (suc n) = refl
          by (suc k) is =
              ap (λ (n : ℕ). unsent n (count_of x (friends b m))) (is_gone x (g.sees m x within some).1 (g.sees m x within some).0.1).gone
            where
              some : 1 ≤ count_of x (the_others m b)
              some =
                  let same : count_of x (friends b m) ≡ count_of x (the_others m b) = ap (count_of x) (friends_so b m has) in
                  omega (arith, same, is)

-- ---- the end

-- a dist_ac that knows all others
abbrev pub last_dist : SystemView → Node → DistView → DistView
last_dist b m d = unwatched d (learn_all (told_in b) (the_others m b) (known_first m d)) [] []

-- a node that is up, with such a dist_ac, if it has one
abbrev pub last_live : SystemView → Node → LiveView
last_live b m = record (joined (node_at b m)) { dist = option_map (last_dist b m) (node_at b m).dist }

-- but for the nodes and the order in which they have joined all of it is known
abbrev pub last_of : SystemView → DraftView Cell → List Node → SystemView
last_of b nodes ups = record b {
  nodes = nodes;
  messages = [];
  locks = [];
  slow = b.slow ++ map slow.Boot ups;
  events = b.events ++ map event.Up ups;
}

module _ {b : SystemView} {g : Gathering b} (u : SystemView) (f : Stage g 0 u) where
  none : f.tokens ≡ []
  none = light b f.tokens (total (later_weight b) f.waiting) f.weighs

  pub ends_up : (m : Node) → count_of m f.ups ≡ count_of m g.nodes
  ends_up m = all_up 0 u f none m

  pub ends_as : (m : Node) → 1 ≤ count_of m g.nodes → cell_at u m.0 ≡ Some (cell.Node (last_live b m))
  ends_as m within = by (cases_Bool (has_dist_at b m))
    where
      at : At b m (cell_at u m.0) (marks b f.tokens f.ups f.gone f.holders m)
      at = f.at m within

      plain : Waits b m at.left at.later (cell_at u m.0) (marks b f.tokens f.ups f.gone f.holders m)
          ⊎ (Joined b m at.left at.later (cell_at u m.0) (marks b f.tokens f.ups f.gone f.holders m)
          ⊎ Gone b m at.left at.later (cell_at u m.0) (marks b f.tokens f.ups f.gone f.holders m))
          → has_dist_at b m ≡ false → cell_at u m.0 ≡ Some (cell.Node (last_live b m))
      plain (inl w) has = absurd (no_waits 0 u f none m w)
      plain (inr (inl j)) has =
          let no : (node_at b m).dist ≡ None = g.none m within has in
          j.here
          ∙ (λ i. Some (cell.Node (record (joined (node_at b m)) { dist = option_map (λ (d : DistView). early d (words (told_in b) at.left)) (no i) })))
          ∙ (λ i. Some (cell.Node (record (joined (node_at b m)) { dist = option_map (last_dist b m) (sym no i) })))
      plain (inr (inr o)) has = absurd (true_not_false (sym o.has_dist ∙ has))
        where
          true_not_false : true ≡ false → ⊥
          true_not_false is = let one : one_if true ≡ one_if false = ap one_if is in omega (arith, one)

      by : (has_dist_at b m ≡ true) ⊎ (has_dist_at b m ≡ false) → cell_at u m.0 ≡ Some (cell.Node (last_live b m))
      by (inr has) = plain at.how has
      by (inl has) =
          let o : Gone b m at.left at.later (cell_at u m.0) (marks b f.tokens f.ups f.gone f.holders m) = is_gone 0 u f none m within has in
          let end : Ended at.later at.left = all_came 0 u f none m within has in
          let all : learn_all (told_in b) [] o.learnt ≡ learn_all (told_in b) (the_others m b) (known_first m o.dist) =
          subst (λ (l : List Node). learn_all (told_in b) l o.learnt ≡ learn_all (told_in b) (the_others m b) (known_first m o.dist)) end.all_came o.leads in
          o.here
          ∙ (λ i. Some (cell.Node (live_waiting (joined (node_at b m)) o.dist o.learnt (end.all_came i) (words (told_in b) (end.none_left i)))))
          ∙ ap (λ (l : Learnt). Some (cell.Node (live_waiting (joined (node_at b m)) o.dist l [] []))) all
          ∙ (λ i. Some (cell.Node (record (joined (node_at b m)) { dist = option_map (last_dist b m) (sym o.has i) })))

  -- nobody has a share of the lock
  holds_none : (m : Node) → 1 ≤ count_of m g.nodes → count_of m f.holders ≡ 0
  holds_none m within = by at.how (cases_Bool (has_dist_at b m))
    where
      at : At b m (cell_at u m.0) (marks b f.tokens f.ups f.gone f.holders m)
      at = f.at m within

      by : Waits b m at.left at.later (cell_at u m.0) (marks b f.tokens f.ups f.gone f.holders m)
          ⊎ (Joined b m at.left at.later (cell_at u m.0) (marks b f.tokens f.ups f.gone f.holders m)
          ⊎ Gone b m at.left at.later (cell_at u m.0) (marks b f.tokens f.ups f.gone f.holders m))
          → (has_dist_at b m ≡ true) ⊎ (has_dist_at b m ≡ false) → count_of m f.holders ≡ 0
      by (inl w) c = w.holds
      by (inr (inl j)) c = j.holds
      by (inr (inr o)) (inl has) = o.holds (all_came 0 u f none m within has).all_came
      by (inr (inr o)) (inr has) =
          absurd (let one : one_if true ≡ one_if false = ap one_if (sym o.has_dist ∙ has) in omega (arith, one))

  pub no_locks : u.locks ≡ []
  no_locks = by u.locks f.owned
    where
      by : (rows : List Held) → All (IsOwned b f.holders) rows → rows ≡ []
      by [] owned = refl
      by (h ∷ rows) owned =
          absurd (let some : 1 ≤ count_of (first_of h rows owned).1 f.holders = (first_of h rows owned).3 in
          let no : count_of (first_of h rows owned).1 f.holders ≡ 0 =
          holds_none (first_of h rows owned).1 (f.held (first_of h rows owned).1 (first_of h rows owned).3) in
          omega (arith, some, no))
        where
          first_of : (h : Held) (rows : List Held) → All (IsOwned b f.holders) (h ∷ rows) → IsOwned b f.holders h
          first_of h rows owned = All-head (IsOwned b f.holders) h rows owned

  pub ends_so : u ≡ last_of b u.nodes f.ups
  ends_so = f.same ∙ (λ i. record b {
    nodes = u.nodes;
    messages = map (letter b) (none i);
    locks = no_locks i;
    slow = b.slow ++ map slow.Boot f.ups;
    events = b.events ++ map event.Up f.ups;
  })

-- ---- they are alike

same_times : {A : Type 0} (f : Node → A) (q : A → Bool) (m : Node)
    → ((x : Node) → q (f x) ≡ (m.0 == x.0)) → (ups more : List Node) → count_of m ups ≡ count_of m more → filter q (map f ups) ≡ filter q (map f more)
same_times {A} f q m tests ups more same = as_many ups ∙ ap copies same ∙ sym (as_many more)
  where
    copies : ℕ → List A
    copies zero = []
    copies (suc k) = f m ∷ copies k

    as_many : (nodes : List Node) → filter q (map f nodes) ≡ copies (count_of m nodes)
    as_many [] = refl
    as_many (x ∷ nodes) = ap (λ (c : Bool). cond c (f x ∷ filter q (map f nodes)) (filter q (map f nodes))) (tests x) ∙ by (cases_eq m.0 x.0) (as_many nodes)
      where
        by : (m.0 ≡ x.0) ⊎ (m.0 ≢ x.0) → filter q (map f nodes) ≡ copies (count_of m nodes)
            → cond (m.0 == x.0) (f x ∷ filter q (map f nodes)) (filter q (map f nodes)) ≡ copies (more_if (x.0 == m.0) (count_of m nodes))
        by (inl one) rest =
            ap (λ (c : Bool). cond c (f x ∷ filter q (map f nodes)) (filter q (map f nodes))) (eq-eqb m.0 x.0 one)
            ∙ (λ i. f (sym (same_node m x one) i) ∷ rest i)
            ∙ sym (ap (λ (c : Bool). copies (more_if c (count_of m nodes))) (eq-eqb x.0 m.0 (sym one)))
        by (inr other) rest =
            ap (λ (c : Bool). cond c (f x ∷ filter q (map f nodes)) (filter q (map f nodes))) (ne_eqb m.0 x.0 other)
            ∙ rest
            ∙ sym (ap (λ (c : Bool). copies (more_if c (count_of m nodes))) (ne_eqb x.0 m.0 (λ is. other (sym is))))

none_of : {A : Type 0} (f : Node → A) (q : A → Bool) → ((x : Node) → q (f x) ≡ false) → (nodes : List Node) → filter q (map f nodes) ≡ []
none_of f q fails [] = refl
none_of f q fails (x ∷ nodes) =
    ap (λ (c : Bool). cond c (f x ∷ filter q (map f nodes)) (filter q (map f nodes))) (fails x) ∙ none_of f q fails nodes

pub same_of_each : {A : Type 0} (owner : A → Option Node) (f : Node → A) → ((x : Node) → owner (f x) ≡ Some x) → (first : List A)
    (ups more : List Node) → ((m : Node) → count_of m ups ≡ count_of m more) → SameOfEach owner (first ++ map f ups) (first ++ map f more)
same_of_each owner f is first ups more same None =
    filter-append (λ a. is_owner None (owner a)) first (map f ups)
    ∙ ap (λ l. of_owner owner None first ++ l)
    (none_of f (λ a. is_owner None (owner a)) (λ x. ap (is_owner None) (is x)) ups
    ∙ sym (none_of f (λ a. is_owner None (owner a)) (λ x. ap (is_owner None) (is x)) more))
    ∙ sym (filter-append (λ a. is_owner None (owner a)) first (map f more))
same_of_each owner f is first ups more same (Some m) =
    filter-append (λ a. is_owner (Some m) (owner a)) first (map f ups)
    ∙ ap (λ l. of_owner owner (Some m) first ++ l)
    (same_times f (λ a. is_owner (Some m) (owner a)) m (λ x. ap (is_owner (Some m)) (is x)) ups more (same m))
    ∙ sym (filter-append (λ a. is_owner (Some m) (owner a)) first (map f more))

alike_but_ups : (b : SystemView) (nodes : DraftView Cell) (ups more : List Node) → ((m : Node) → count_of m ups ≡ count_of m more)
    → AreAlike (last_of b nodes ups) (last_of b nodes more)
alike_but_ups b nodes ups more same = record {
  cluster = refl;
  files = refl;
  nodes = refl;
  clock = refl;
  step = refl;
  last_call = refl;
  alive = refl;
  links = refl;
  locks = refl;
  calls = refl;
  asleep = refl;
  told = refl;
  answers = λ pair. refl;
  is_ticking = refl;
  ends_soon = refl;
  messages = λ pair. refl;
  timers = λ o. refl;
  slow = same_of_each node_of_slow slow.Boot (λ x. refl) b.slow ups more same;
  events = same_of_each node_told event.Up (λ x. refl) b.events ups more same;
}

end_alike : {b : SystemView} {g : Gathering b} (u t : SystemView) → Stage g 0 u → Stage g 0 t → AreAlike u t
end_alike {b} {g} u t f h =
    subst (λ (x : SystemView). AreAlike x t) (sym (ends_so u f))
    (subst (λ (x : SystemView). AreAlike (last_of b u.nodes f.ups) x) (sym (ends_so t h))
    (subst (λ (x : DraftView Cell). AreAlike (last_of b u.nodes f.ups) (last_of b x h.ups)) nodes_same
    (alike_but_ups b u.nodes f.ups h.ups (λ m. ends_up u f m ∙ sym (ends_up t h m)))))
  where
    at : (m : Node) (k : ℕ) → count_of m g.nodes ≡ k → cell_at u m.0 ≡ cell_at t m.0
    at m zero out = f.others m out ∙ sym (h.others m out)
    at m (suc k) is =
        let within : 1 ≤ count_of m g.nodes = omega (arith, is) in
        ends_as u f m within ∙ sym (ends_as t h m within)

    cells_same : u.nodes.cells ≡ t.nodes.cells
    cells_same = same_lists u.nodes.cells t.nodes.cells (λ k. at (record { 0 = k }) (count_of (record { 0 = k }) g.nodes) refl)

    nodes_same : u.nodes ≡ t.nodes
    nodes_same = λ i. record { base = (f.base ∙ sym h.base) i; cells = cells_same i }

some_weight : {b : SystemView} {g : Gathering b} (k : ℕ) (u : SystemView) → Stage g (suc k) u → u.messages ≡ [] → ⊥
some_weight {b} {g} k u f none = by f.waiting refl
  where
    no : f.tokens ≡ []
    no = no_tokens b f.tokens (sym (ap (λ (z : SystemView). z.messages) f.same) ∙ none)

    by : (waiting : List Node) → f.waiting ≡ waiting → ⊥
    by [] is =
        let all : total (weight_of b) f.tokens + total (later_weight b) f.waiting ≡ suc k = f.weighs in
        let one : total (weight_of b) f.tokens ≡ 0 = ap (total (weight_of b)) no in
        let two : total (later_weight b) f.waiting ≡ 0 = ap (total (later_weight b)) is in
        omega (arith, all, one, two)
    by (x ∷ waiting) is =
        let none_there : count_of x f.waiting ≡ 0 = none_waiting (suc k) u f no x in
        let one : count_of x f.waiting ≡ count_of x (x ∷ waiting) = ap (count_of x) is in
        let two : count_of x (x ∷ waiting) ≡ suc (count_of x waiting) = counts_itself x waiting in
        omega (arith, none_there, one, two)

-- every order leads there
pub all_steady : {b : SystemView} (g : Gathering b) → IsSteady (Stage g)
all_steady g = record {
  some = λ k u f none. some_weight k u f none;
  on = λ k u e left f taken. goes_on k u f e left taken;
  same = λ u t f h. end_alike u t f h;
}
