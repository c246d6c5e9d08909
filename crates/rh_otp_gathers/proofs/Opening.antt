-- Nodes that gather, at the beginning: what is on its way, and what they come to.
use Rattle.std.proofs.Common.{◌≡◌, ◌≢◌, ◌<◌, ◌≤◌, ◌⊎◌, ◌+◌, ◌==◌, ◌&&◌, ◌||◌, ℕ, suc, Bool, true, false, cond, List, [], ◌∷◌, filter, map, length, replicate, slice_get, unwrap_or, is_some, Option, Some, None, refl, sym, ap, subst, ◌∙◌, inl, inr, arith}
use Rattle.std.specs.Option.{option_map, option_and_then}
use Rattle.std.specs.Prelude.{All, if◌then◌else◌}
use Rattle.std.proofs.Math.Bool.{and-false, and-true, or-true, or-false}
use Rattle.std.proofs.lemmas.Bool.{cases_eq, eq-eqb, ne_eqb}
use Rattle.std.proofs.lemmas.List.{append-nil}
use Rattle.std.proofs.lemmas.List.Elements.{All-nil, All-cons, All-head, All-tail}
use Rattle.std.proofs.lemmas.Option.{none-some, same_Some}
use Rattle.rh_model.specs.ClusterView.{is_in, node_count, app_count}
use Rattle.rh_model.specs.declared.node.Node.{Node}
use Rattle.rh_otp_model.specs.declared.output.Envelope.{Envelope}
use Rattle.rh_otp_dist.specs.State.{DistView, beginning}
use Rattle.rh_otp_dist.specs.declared.state.Stand.TheVariants as stand
use Rattle.rh_otp_net.specs.Links.{linked_with}
use Rattle.rh_otp_node.specs.declared.node.Phase.{Phase}
use Rattle.rh_otp_node.specs.declared.node.Phase.TheVariants as phase
use Rattle.rh_otp_node.specs.Live.{LiveView, never_begun, own_flags, is_up, is_down}
use Rattle.rh_otp_system.specs.declared.cell.Cell.{Cell}
use Rattle.rh_otp_system.specs.declared.cell.Cell.TheVariants as cell
use Rattle.rh_otp_system.specs.Moves.{Reaches}
use Rattle.rh_otp_system.specs.State.{SystemView, live_in, live_at, node_at, own_at, has_dist_at}
use Rattle.rh_otp_system.specs.Working as working
use Rattle.rh_otp_laws.specs.Acting.{IsThere}
use Rattle.rh_otp_crashes.proofs.Crossing.{same_node}
use Rattle.rh_otp_crashes.proofs.Turning.{node_is}
use Rattle.rh_otp_joins.proofs.Arriving.{steady_leads, steady_ends}
use Rattle.rh_otp_joins.proofs.Going.{the_others, known_first}
use Rattle.rh_otp_joins.proofs.Introducing.{Learnt, learn_all}
use Rattle.rh_otp_joins.proofs.Lists.{more_if, count_of, in_counted, counted_in_list}
use Rattle.rh_otp_joins.proofs.Seeing.{seen_linked}
use Rattle.rh_otp_joins.proofs.Stages.{cell_there, allow_in}
use Rattle.rh_otp_gathers.specs.Gathers.{times, is_node_up, tellings, IsTelling, one_if, Gathers, AllGather, KnowsAll, learnt_of, IsGathered, HaveGathered, NodesThatGatherComeToOneState}
use Rattle.rh_otp_gathers.proofs.Going.{early}
use Rattle.rh_otp_gathers.proofs.Knowing.{learnt_known, learnt_count, learnt_runs, is_some_count, in_count, learnt_rows, learnt_may, rows_first, may_first}
use Rattle.rh_otp_gathers.proofs.Settling.{last_dist, last_live, last_of, ends_up, ends_as, ends_so, no_locks, all_steady}
use Rattle.rh_otp_gathers.proofs.Stages.{told_in, friends, letter, Gathering, IsOwned, later_weight, weight_of, IsOf, Stage}
use Rattle.rh_otp_gathers.proofs.Tokens.{Token, up, up_of, go_of, hi_of, total}

-- ---- how often

pub counts_so : (m : Node) (nodes : List Node) → count_of m nodes ≡ times m nodes
counts_so m [] = refl
counts_so m (x ∷ nodes) = by (x.0 == m.0) (counts_so m nodes)
  where
    by : (c : Bool) → count_of m nodes ≡ times m nodes
        → more_if c (count_of m nodes) ≡ length (cond c (x ∷ filter (λ (y : Node). y.0 == m.0) nodes) (filter (λ (y : Node). y.0 == m.0) nodes))
    by true same = ap suc same
    by false same = same

-- of those that have a dist_ac
count_dists : (s : SystemView) (x : Node) (nodes : List Node)
    → count_of x (working.dists_of s nodes) ≡ (if has_dist_at s x then count_of x nodes else 0)
count_dists s x [] = by (has_dist_at s x)
  where
    by : (c : Bool) → ◌≡◌ {A = ℕ} 0 (if c then 0 else 0)
    by true = refl
    by false = refl
count_dists s x (y ∷ nodes) = by (cases_eq y.0 x.0) (count_dists s x nodes)
  where
    rest : List Node
    rest = working.dists_of s nodes

    here : (c : Bool) → y.0 ≡ x.0 → count_of x rest ≡ (if c then count_of x nodes else 0)
        → count_of x (cond c (y ∷ rest) rest) ≡ (if c then more_if (y.0 == x.0) (count_of x nodes) else 0)
    here true is same = ap (more_if (y.0 == x.0)) same
    here false is same = same

    other : (c d : Bool) → (y.0 == x.0) ≡ false → count_of x rest ≡ (if d then count_of x nodes else 0)
        → count_of x (cond c (y ∷ rest) rest) ≡ (if d then more_if (y.0 == x.0) (count_of x nodes) else 0)
    other true true apart same =
        ap (λ (e : Bool). more_if e (count_of x rest)) apart ∙ same ∙ sym (ap (λ (e : Bool). more_if e (count_of x nodes)) apart)
    other true false apart same = ap (λ (e : Bool). more_if e (count_of x rest)) apart ∙ same
    other false true apart same = same ∙ sym (ap (λ (e : Bool). more_if e (count_of x nodes)) apart)
    other false false apart same = same

    by : (y.0 ≡ x.0) ⊎ (y.0 ≢ x.0) → count_of x rest ≡ (if has_dist_at s x then count_of x nodes else 0)
        → count_of x (cond (has_dist_at s y) (y ∷ rest) rest) ≡ (if has_dist_at s x then more_if (y.0 == x.0) (count_of x nodes) else 0)
    by (inl is) same =
        ap (λ (z : Node). count_of x (cond (has_dist_at s z) (y ∷ rest) rest)) (same_node y x is) ∙ here (has_dist_at s x) is same
    by (inr apart) same = other (has_dist_at s y) (has_dist_at s x) (ne_eqb y.0 x.0 apart) same

-- ---- what is on its way

-- the tellings as they are
record Ups (s : SystemView) (messages : List Envelope) : Type 0 where
  tokens : List Token
  are : messages ≡ map (letter s) tokens
  known : All (IsOf s.alive) tokens
  going : (m : Node) → total (go_of m) tokens ≡ 0
  sent : (k m : Node) → total (hi_of k m) tokens ≡ 0
  hears : (m x : Node) → total (up_of m x) tokens ≡ tellings m x messages

ups_of : (s : SystemView) (messages : List Envelope) → All (IsTelling s) messages → Ups s messages
ups_of s [] all = record {
  tokens = [];
  are = refl;
  known = All-nil (IsOf s.alive);
  going = λ m. refl;
  sent = λ k m. refl;
  hears = λ m x. refl;
}
ups_of s (e ∷ messages) all = by (ups_of s messages (All-tail (IsTelling s) e messages all))
  where
    first : IsTelling s e
    first = All-head (IsTelling s) e messages all

    by : Ups s messages → Ups s (e ∷ messages)
    by rest = record {
      tokens = up first.node first.other ∷ rest.tokens;
      are = λ i. first.is i ∷ rest.are i;
      known = All-cons (IsOf s.alive) (up first.node first.other) rest.tokens
          (subst (λ (k : ℕ). 1 ≤ k) (sym (counts_so first.node s.alive)) first.alive) rest.known;
      going = λ m. (let none : total (go_of m) rest.tokens ≡ 0 = rest.going m in omega (arith, none));
      sent = λ k m. (let none : total (hi_of k m) rest.tokens ≡ 0 = rest.sent k m in omega (arith, none));
      hears = λ m x.
          one (first.node.0 == m.0 && first.other.0 == x.0) e (filter (λ (y : Envelope). y.to.node.0 == m.0 && is_node_up x y.message) messages)
          (total (up_of m x) rest.tokens) (rest.hears m x)
          ∙ ap (λ (y : Envelope). length (cond (y.to.node.0 == m.0 && is_node_up x y.message)
          (e ∷ filter (λ (y : Envelope). y.to.node.0 == m.0 && is_node_up x y.message) messages)
          (filter (λ (y : Envelope). y.to.node.0 == m.0 && is_node_up x y.message) messages))) (sym first.is);
    }
      where
        one : (c : Bool) (e : Envelope) (more : List Envelope) (k : ℕ) → k ≡ length more → more_if c 0 + k ≡ length (cond c (e ∷ more) more)
        one true e more k same = omega (arith, same)
        one false e more k same = omega (arith, same)

-- ---- where it begins

module _ (s : SystemView) (all : AllGather s) where
  of_alive : (m : Node) → 1 ≤ count_of m s.alive → Gathers m s
  of_alive m within = all.each m (subst (λ (k : ℕ). 1 ≤ k) (counts_so m s.alive) within)

  sees_so : (m x : Node) → 1 ≤ count_of m s.alive → x.0 ≢ m.0 → count_of x (linked_with m s.links) ≡ count_of x s.alive
  sees_so m x within apart = counts_so x (linked_with m s.links) ∙ (of_alive m within).sees x apart ∙ sym (counts_so x s.alive)

  not_itself : (m : Node) → 1 ≤ count_of m s.alive → count_of m (linked_with m s.links) ≡ 0
  not_itself m within = counts_so m (linked_with m s.links) ∙ (of_alive m within).not_itself

  others_count : (m x : Node) → 1 ≤ count_of m s.alive
      → count_of x (the_others m s) ≡ (if has_dist_at s x then count_of x (linked_with m s.links) else 0)
  others_count m x within = count_dists s x (linked_with m s.links)

  here_at : (m : Node) → 1 ≤ count_of m s.alive → live_at s m ≡ Some (node_at s m)
  here_at m within =
      let there : IsThere m s = (of_alive m within).there in
      there.1 ∙ ap Some (sym (node_is s m there.0 there.1))

  some_if : (c : Bool) (k : ℕ) → 1 ≤ (if c then k else 0) → (c ≡ true) × (1 ≤ k)
  some_if true k some = (refl, some)
  some_if false k some = absurd (omega (arith, some))

  other_than : (m x : Node) → 1 ≤ count_of m s.alive → 1 ≤ count_of x (linked_with m s.links) → x.0 ≢ m.0
  other_than m x within among is =
      let none : count_of m (linked_with m s.links) ≡ 0 = not_itself m within in
      let same : count_of x (linked_with m s.links) ≡ count_of m (linked_with m s.links) =
      ap (λ (y : Node). count_of y (linked_with m s.links)) (same_node x m is) in
      omega (arith, among, none, same)

  single : (m : Node) → count_of m s.alive ≤ 1
  single m = subst (λ (k : ℕ). k ≤ 1) (sym (counts_so m s.alive)) (all.once m)

  -- its dist_ac as it begins
  abbrev beginning_of : Node → DistView
  beginning_of m = beginning (node_count s.cluster) (app_count s.cluster) m (own_flags s.cluster (own_at s m) m)

  pub gathering : Gathering s
  gathering = record {
    nodes = s.alive;
    single = single;
    there = here_at;
    waits = λ m within. (of_alive m within).phase;
    dist = λ m within has. (
      beginning_of m,
      (of_alive m within).fresh ∙ ap (λ (c : Bool). cond c (Some (beginning_of m)) None) has,
    );
    none = λ m within has. (of_alive m within).fresh ∙ ap (λ (c : Bool). cond c (Some (beginning_of m)) None) has;
    sees = λ m x within among.
        (let some : (has_dist_at s x ≡ true) × (1 ≤ count_of x (linked_with m s.links)) =
        some_if (has_dist_at s x) (count_of x (linked_with m s.links)) (subst (λ (k : ℕ). 1 ≤ k) (others_count m x within) among) in
        let apart : x.0 ≢ m.0 = other_than m x within some.1 in
        let alive : 1 ≤ count_of x s.alive = subst (λ (k : ℕ). 1 ≤ k) (sees_so m x within apart) some.1 in (
          (
            (
              apart,
              ap (λ (p : Phase). if is_down p then false else true) (of_alive x alive).phase,
              seen_linked m x s.links some.1,
            ),
            some.0,
          ),
          alive,
        ));
    once = λ m x within. once_by m x within (cases_eq x.0 m.0);
    both_ways = λ k m within within_too has. ways k m within within_too has (cases_eq k.0 m.0);
  }
    where
      once_by : (m x : Node) → 1 ≤ count_of m s.alive → (x.0 ≡ m.0) ⊎ (x.0 ≢ m.0) → count_of x (the_others m s) ≤ 1
      once_by m x within at = subst (λ (k : ℕ). k ≤ 1) (sym (others_count m x within)) (less (has_dist_at s x) at)
        where
          most : (x.0 ≡ m.0) ⊎ (x.0 ≢ m.0) → count_of x (linked_with m s.links) ≤ 1
          most (inl is) =
              let none : count_of m (linked_with m s.links) ≡ 0 = not_itself m within in
              let same : count_of x (linked_with m s.links) ≡ count_of m (linked_with m s.links) =
              ap (λ (y : Node). count_of y (linked_with m s.links)) (same_node x m is) in
              omega (arith, none, same)
          most (inr apart) = subst (λ (k : ℕ). k ≤ 1) (sym (sees_so m x within apart)) (single x)

          less : (c : Bool) → (x.0 ≡ m.0) ⊎ (x.0 ≢ m.0) → (if c then count_of x (linked_with m s.links) else 0) ≤ 1
          less true at = most at
          less false at = omega arith

      ways : (k m : Node) → 1 ≤ count_of k s.alive → 1 ≤ count_of m s.alive → has_dist_at s k ≡ true → (k.0 ≡ m.0) ⊎ (k.0 ≢ m.0)
          → count_of m (the_others k s) ≡ count_of k (friends s m)
      ways k m within within_too has at = others_count k m within ∙ by (has_dist_at s m) ∙ sym friends_count
        where
          friends_count : count_of k (friends s m) ≡ (if has_dist_at s m then count_of k (linked_with m s.links) else 0)
          friends_count = by_dist (has_dist_at s m)
            where
              by_dist : (c : Bool) → count_of k (if c then the_others m s else []) ≡ (if c then count_of k (linked_with m s.links) else 0)
              by_dist true = others_count m k within_too ∙ ap (λ (c : Bool). if c then count_of k (linked_with m s.links) else 0) has
              by_dist false = refl

          same : (k.0 ≡ m.0) ⊎ (k.0 ≢ m.0) → count_of m (linked_with k s.links) ≡ count_of k (linked_with m s.links)
          same (inl is) =
              subst (λ (y : Node). count_of y (linked_with k s.links) ≡ count_of k (linked_with y s.links)) (same_node k m is) refl
          same (inr apart) =
              let one : count_of m (linked_with k s.links) ≡ count_of m s.alive = sees_so k m within (λ is. apart (sym is)) in
              let other : count_of k (linked_with m s.links) ≡ count_of k s.alive = sees_so m k within_too apart in
              let less : count_of m s.alive ≤ 1 = single m in
              let less_too : count_of k s.alive ≤ 1 = single k in
              omega (arith, one, other, less, less_too, within, within_too)

          by : (c : Bool) → (if c then count_of m (linked_with k s.links) else 0) ≡ (if c then count_of k (linked_with m s.links) else 0)
          by true = same at
          by false = refl

  -- ---- the first stage

  first_ups : Ups s s.messages
  first_ups = ups_of s s.messages all.messages

  abbrev first_weight : ℕ
  first_weight = total (weight_of s) first_ups.tokens + total (later_weight s) s.alive

  one_more : (c : Bool) → more_if c 0 ≡ one_if c
  one_more true = refl
  one_more false = refl

  fresh_so : (m : Node) (c : Bool) (d : DistView) → (node_at s m).dist ≡ cond c (Some (early d [])) None
      → (node_at s m).dist ≡ option_map (λ (e : DistView). early e []) (node_at s m).dist
  fresh_so m true d is = is ∙ sym (ap (option_map (λ (e : DistView). early e [])) is)
  fresh_so m false d is = is ∙ sym (ap (option_map (λ (e : DistView). early e [])) is)

  first_stage : Stage gathering first_weight s
  unfolding gathering
  first_stage = record {
    tokens = first_ups.tokens;
    waiting = s.alive;
    ups = [];
    gone = [];
    holders = [];
    weighs = refl;
    same = λ i. record s {
      messages = first_ups.are i;
      slow = sym (append-nil s.slow) i;
      events = sym (append-nil s.events) i;
    };
    base = refl;
    known = first_ups.known;
    each = λ m. omega arith;
    held = λ m some. absurd (omega (arith, some));
    owned = subst (All (IsOwned s [])) (sym all.locks) (All-nil (IsOwned s []));
    others = λ m none. refl;
    at = λ m within. record {
      left = [];
      later = friends s m;
      counts = λ x.
          (let none : total (hi_of x m) first_ups.tokens ≡ 0 = first_ups.sent x m in
          omega (arith, none));
      within = λ x. omega arith;
      how = inl (record {
        ms = (node_at s m).mandatory;
        os = (node_at s m).optional;
        waits = (of_alive m within).waits;
        covers = λ x. covers m x within;
        here =
            cell_there s m (node_at s m) (here_at m within)
            ∙ (λ i. Some (cell.Node (record (node_at s m) { dist = fresh_so m (has_dist_at s m) (beginning_of m) (of_alive m within).fresh i })));
        all = refl;
        ups = refl;
        gone = refl;
        holds = refl;
        going = first_ups.going m;
      });
    };
  }
    where
      covers : (m x : Node) → 1 ≤ count_of m s.alive
          → more_if (is_in x (node_at s m).mandatory) 0 + more_if (is_in x (node_at s m).optional) 0 ≤ total (up_of m x) first_ups.tokens
      covers m x within =
          let told : one_if (is_in x (node_at s m).mandatory) + one_if (is_in x (node_at s m).optional) ≤ tellings m x s.messages = (of_alive m within).told x in
          let one : more_if (is_in x (node_at s m).mandatory) 0 ≡ one_if (is_in x (node_at s m).mandatory) = one_more (is_in x (node_at s m).mandatory) in
          let two : more_if (is_in x (node_at s m).optional) 0 ≡ one_if (is_in x (node_at s m).optional) = one_more (is_in x (node_at s m).optional) in
          let hears : total (up_of m x) first_ups.tokens ≡ tellings m x s.messages = first_ups.hears m x in
          omega (arith, told, one, two, hears)

  -- ---- what a dist_ac knows at the end

  knows : (m x : Node) → 1 ≤ count_of m s.alive → x.0 ≢ m.0 → is_in x (the_others m s) ≡ (is_in x s.alive && has_dist_at s x)
  knows m x within apart =
      in_count x (the_others m s) ∙ ap is_some_count (others_count m x within) ∙ by (has_dist_at s x)
    where
      by : (c : Bool) → is_some_count (if c then count_of x (linked_with m s.links) else 0) ≡ (is_in x s.alive && c)
      by true = ap is_some_count (sees_so m x within apart) ∙ sym (in_count x s.alive) ∙ sym (and-true (is_in x s.alive))
      by false = sym (and-false (is_in x s.alive))

  -- what it learns of one of these
  told_so : (x : Node) → is_in x s.alive ≡ true → has_dist_at s x ≡ true → x.0 < node_count s.cluster
      → (told_in s).allow x ≡ own_flags s.cluster (own_at s x) x
  told_so x alive has within =
      ap (allow_in x) ((of_alive x (counted_in_list x s.alive alive)).fresh ∙ ap (λ (c : Bool). cond c (Some (beginning_of x)) None) has)
      ∙ ap (λ (row : Option (List Bool)). unwrap_or row [])
      (may_first (node_count s.cluster) (app_count s.cluster) x x (own_flags s.cluster (own_at s x) x) within
      ∙ ap (λ (c : Bool). cond c (Some (own_flags s.cluster (own_at s x) x)) (Some (replicate (app_count s.cluster) false))) (eq-eqb x.0 x.0 refl))

  module _ (m : Node) (within : 1 ≤ count_of m s.alive) (has : has_dist_at s m ≡ true) where
    abbrev learnt : Learnt
    learnt = learn_all (told_in s) (the_others m s) (known_first m (beginning_of m))

    rows_so : length learnt.may ≡ node_count s.cluster
    rows_so =
        learnt_rows (told_in s) (the_others m s) (known_first m (beginning_of m))
        ∙ rows_first (node_count s.cluster) (app_count s.cluster) m (own_flags s.cluster (own_at s m) m)

    may_so : (x : Node) → x.0 < node_count s.cluster → slice_get learnt.may x.0 ≡ Some (learnt_of s x)
    may_so x inside =
        learnt_may (told_in s) x (the_others m s) (known_first m (beginning_of m))
        (let rows : length (beginning_of m).may ≡ node_count s.cluster =
        rows_first (node_count s.cluster) (app_count s.cluster) m (own_flags s.cluster (own_at s m) m) in
        omega (arith, rows, inside))
        ∙ ap (cond (is_in x (the_others m s)) (Some ((told_in s).allow x)))
        (may_first (node_count s.cluster) (app_count s.cluster) m x (own_flags s.cluster (own_at s m) m) inside)
        ∙ by (cases_eq x.0 m.0)
      where
        nothing : List Bool
        nothing = replicate (app_count s.cluster) false

        own : Node → List Bool
        own y = own_flags s.cluster (own_at s y) y

        not_other : is_in m (the_others m s) ≡ false
        not_other =
            in_count m (the_others m s)
            ∙ ap is_some_count (others_count m m within)
            ∙ ap (λ (k : ℕ). is_some_count (if has_dist_at s m then k else 0)) (not_itself m within)
            ∙ none (has_dist_at s m)
          where
            none : (c : Bool) → is_some_count (if c then 0 else 0) ≡ false
            none true = refl
            none false = refl

        other : (c d : Bool) → is_in x s.alive ≡ c → has_dist_at s x ≡ d
            → cond (c && d) (Some ((told_in s).allow x)) (Some nothing) ≡ Some (if c && d then own x else nothing)
        other true true alive has_too = ap Some (told_so x alive has_too inside)
        other true false alive has_too = refl
        other false d alive has_too = refl

        by : (x.0 ≡ m.0) ⊎ (x.0 ≢ m.0)
            → cond (is_in x (the_others m s)) (Some ((told_in s).allow x)) (cond (x.0 == m.0) (Some (own m)) (Some nothing))
            ≡ Some (learnt_of s x)
        by (inl is) =
            (λ i. cond (is_in (same_node x m is i) (the_others m s)) (Some ((told_in s).allow x))
            (cond (eq-eqb x.0 m.0 is i) (Some (own m)) (Some nothing)))
            ∙ ap (λ (c : Bool). cond c (Some ((told_in s).allow x)) (Some (own m))) not_other
            ∙ (λ i. Some (if sym (in_counted m s.alive within) i && sym has i then own m else nothing))
            ∙ ap (λ (y : Node). Some (learnt_of s y)) (sym (same_node x m is))
        by (inr apart) =
            (λ i. cond (knows m x within apart i) (Some ((told_in s).allow x))
            (cond (ne_eqb x.0 m.0 apart i) (Some (own m)) (Some nothing)))
            ∙ other (is_in x s.alive) (has_dist_at s x) refl refl

    runs_so : learnt.runs ≡ []
    runs_so = learnt_runs s (the_others m s) (known_first m (beginning_of m)) refl

    knows_all : KnowsAll m s (last_dist s m (beginning_of m))
    knows_all = record {
      idle = refl;
      synchronised = refl;
      mail = refl;
      runs = runs_so;
      itself =
          learnt_known (told_in s) m (the_others m s) (known_first m (beginning_of m))
          ∙ ap (λ (c : Bool). is_in m (the_others m s) || (c || false)) (eq-eqb m.0 m.0 refl)
          ∙ or-true (is_in m (the_others m s));
      known = λ x apart.
          learnt_known (told_in s) x (the_others m s) (known_first m (beginning_of m))
          ∙ ap (λ (c : Bool). is_in x (the_others m s) || (c || false)) (ne_eqb x.0 m.0 apart)
          ∙ or-false (is_in x (the_others m s))
          ∙ knows m x within apart;
      once = λ x apart.
          (let same : count_of x learnt.known ≡ times x learnt.known = counts_so x learnt.known in
          let all : count_of x learnt.known ≡ count_of x (the_others m s) + count_of x (m ∷ []) =
          learnt_count (told_in s) x (the_others m s) (known_first m (beginning_of m)) in
          let none : count_of x (m ∷ []) ≡ 0 = ap (λ (c : Bool). more_if c 0) (ne_eqb m.0 x.0 (λ is. apart (sym is))) in
          let others : count_of x (the_others m s) ≡ (if has_dist_at s x then times x s.alive else 0) =
          others_count m x within
          ∙ ap (λ (k : ℕ). if has_dist_at s x then k else 0) (sees_so m x within apart ∙ counts_so x s.alive) in
          omega (arith, same, all, none, others));
      rows = rows_so;
      may = may_so;
      rest = λ i. record (beginning_of m) {
        stand = stand.Idle;
        is_synchronised = true;
        known = learnt.known;
        remote_started = runs_so i;
        may = learnt.may;
      };
    }

  module _ (t : SystemView) (f : Stage gathering 0 t) where
    pub have_gathered : HaveGathered s t
    unfolding gathering
    have_gathered = record {
      messages = ap (λ (z : SystemView). z.messages) so;
      locks = no_locks t f;
      alive = ap (λ (z : SystemView). z.alive) so;
      links = ap (λ (z : SystemView). z.links) so;
      calls = ap (λ (z : SystemView). z.calls) so;
      joined = f.ups;
      all = λ m. sym (counts_so m f.ups) ∙ ends_up t f m ∙ counts_so m s.alive;
      events = ap (λ (z : SystemView). z.events) so;
      slow = ap (λ (z : SystemView). z.slow) so;
      each = λ m within. joined_so m (subst (λ (k : ℕ). 1 ≤ k) (sym (counts_so m s.alive)) within);
      others = λ m none.
          ap (λ (c : Option Cell). unwrap_or (option_and_then live_in c) never_begun) (f.others m (counts_so m s.alive ∙ none));
      rest = so ∙ (λ i. record s {
        nodes = t.nodes;
        messages = [];
        locks = sym all.locks i;
        slow = sym (ap (λ (z : SystemView). z.slow) so) i;
        events = sym (ap (λ (z : SystemView). z.events) so) i;
      });
    }
      where
        so : t ≡ last_of s t.nodes f.ups
        so = ends_so t f

        joined_so : (m : Node) → 1 ≤ count_of m s.alive → IsGathered m s t
        joined_so m within = record {
          up = ap is_up is;
          life = ap (λ (v : LiveView). v.life) is;
          has = ap (λ (v : LiveView). is_some v.dist) is
              ∙ ap (λ (o : Option DistView). is_some (option_map (last_dist s m) o)) (of_alive m within).fresh
              ∙ by (has_dist_at s m);
          dist = λ d here.
              known (has_dist_at s m) refl d
              (sym (ap (option_map (last_dist s m)) (of_alive m within).fresh) ∙ sym (ap (λ (v : LiveView). v.dist) is) ∙ here);
          rest = is ∙ (λ i. record (node_at s m) {
            mandatory = [];
            optional = [];
            phase = phase.Up;
            dist = sym (ap (λ (v : LiveView). v.dist) is) i;
          });
        }
          where
            is : node_at t m ≡ last_live s m
            is = ap (λ (c : Option Cell). unwrap_or (option_and_then live_in c) never_begun) (ends_as t f m within)

            by : (c : Bool) → is_some (option_map (last_dist s m) (cond c (Some (beginning_of m)) None)) ≡ c
            by true = refl
            by false = refl

            known : (c : Bool) → has_dist_at s m ≡ c → (d : DistView) → option_map (last_dist s m) (cond c (Some (beginning_of m)) None) ≡ Some d
                → KnowsAll m s d
            known true has d same = subst (KnowsAll m s) (same_Some (last_dist s m (beginning_of m)) d same) (knows_all m within has)
            known false has d no_one = absurd (none-some d no_one)

-- every order leads to one state
pub gathers : NodesThatGatherComeToOneState
gathers s all =
    let g : Gathering s = gathering s all in
    let end : (t : SystemView) × Reaches s t × Stage g 0 t = steady_ends (all_steady g) (first_weight s all) s (first_stage s all) in (
      first_weight s all,
      end.0,
      steady_leads (all_steady g) (first_weight s all) s end.0 (first_stage s all) end.2,
      end.1,
      have_gathered s all end.0 end.2,
    )
