-- Where nothing is left to move all has come to one state.
use Rattle.std.proofs.Common.{◌≡◌, ◌≢◌, ◌≤◌, ◌⊎◌, ◌+◌, ◌++◌, ℕ, zero, suc, Bool, true, false, not, cond, List, [], ◌∷◌, map, filter, Option, Some, None, refl, sym, ap, subst, ◌∙◌, inl, inr, arith, ◌==◌, ◌&&◌}
use Rattle.std.specs.Prelude.{All, reverse}
use Rattle.std.proofs.Math.Bool.{and-false}
use Rattle.std.proofs.lemmas.Bool.{cases_eq, false≢true, eq-eqb, eqb-true}
use Rattle.std.proofs.lemmas.List.{append-nil}
use Rattle.std.proofs.lemmas.List.Elements.{All-head}
use Rattle.rh_history.specs.Draft.{DraftView}
use Rattle.rh_model.specs.ClusterView.{boot_of}
use Rattle.rh_model.specs.declared.node.App.{App}
use Rattle.rh_model.specs.declared.node.Node.{Node}
use Rattle.rh_model.specs.declared.settings.Restart.{Restart}
use Rattle.rh_otp_model.specs.declared.output.Event.{Event}
use Rattle.rh_otp_model.specs.Own.{controls}
use Rattle.rh_otp_net.specs.declared.locks.Held.{Held}
use Rattle.rh_otp_system.specs.declared.cell.Cell.{Cell}
use Rattle.rh_otp_system.specs.declared.cell.Cell.TheVariants as cell
use Rattle.rh_otp_system.specs.declared.slow.Slow.TheVariants as slow
use Rattle.rh_otp_system.specs.State.{SystemView, own_at}
use Rattle.rh_otp_orders.specs.Orders.{AreAlike, of_owner, node_told}
use Rattle.rh_otp_orders.proofs.Same.{cell_at}
use Rattle.rh_otp_crashes.proofs.Crossing.{same_node}
use Rattle.rh_otp_joins.proofs.Lists.{count_of}
use Rattle.rh_otp_joins.proofs.Settling.{same_lists}
use Rattle.rh_otp_gathers.specs.Gathers.{times}
use Rattle.rh_otp_gathers.proofs.Opening.{counts_so}
use Rattle.rh_otp_gathers.proofs.Tokens.{total}
use Rattle.rh_otp_together.specs.Booted.{rows_of}
use Rattle.rh_otp_together.specs.Together.{boots_at, strangers_of, BootTogether}
use Rattle.rh_otp_together.proofs.Apps.{tally, tally_rows, tally_itself, no_rows}
use Rattle.rh_otp_together.proofs.Forms.{How, over, Far, live, Fine, letter, onto, dists, pends_by, told_by, is_standing, news_of, tale, Token}
use Rattle.rh_otp_together.proofs.Needs.{each_of}
use Rattle.rh_otp_together.proofs.Passing.{so_of_one, tally_passing, all_pass, passing_same, rows_marked, tally_apps}
use Rattle.rh_otp_together.proofs.Queues.{onto_reverse, filter_turned}
use Rattle.rh_otp_together.proofs.Stages.{IsHeld, got, asked_of, told_of, Stage, heard, row_app, AreStrange}
use Rattle.rh_otp_together.proofs.Stuck.{IsOver, over_there, no_tokens, none_waiting, tally_onto, filter_onto}

onto_onto : {A : Type 0} (d l r : List A) → onto (onto d l) r ≡ onto l (d ++ r)
onto_onto [] l r = refl
onto_onto (x ∷ d) l r = onto_onto d (x ∷ l) r

turned_back : {A : Type 0} (d l : List A) → l ≡ onto d [] → d ≡ onto l []
turned_back {A} d l is = sym (append-nil d) ∙ sym (onto_onto d [] []) ∙ ap (λ (x : List A). onto x []) (sym is)

module _ {b : SystemView} (g : BootTogether b) where
  -- all of its list has started, here or elsewhere, in the order of the list
  abbrev pub last : Node → Far
  last m = record {
    done = onto (boot_of b.cluster m) [];
    how = over;
    rest = [];
    ran = [];
    rows = rows_of b m g.at g.apps;
    mail = [];
  }

  -- how often one stands there that the node boots
  abbrev owned : Node → App → ℕ
  owned m a = cond (boots_at b m a) (tally a g.apps) 0

  module _ {u : SystemView} (f : Stage b g.at 0 u) where
    module _ (m : Node) (alive : 1 ≤ count_of m b.alive) where
      ends : IsOver (f.far m)
      ends = over_there f m alive

      fine : Fine b g.at m (record (f.far m) { how = over })
      fine = subst (Fine b g.at m) (λ i. record (f.far m) { how = ends.how i }) (f.fine m alive)

      no_rest : (f.far m).rest ≡ []
      no_rest = fine.so

      booted_all : filter (boots_at b m) g.apps ≡ onto (dists b g.at m (f.far m).done) []
      booted_all =
          sym (each_of g m alive).distributed
          ∙ ap (λ (l : List (App × Restart)). filter (controls (own_at b m)) (map (λ (row : App × Restart). row.0) l))
          (fine.boots ∙ ap (onto (f.far m).done) no_rest)
          ∙ filter_onto (controls (own_at b m)) (f.far m).done []

      -- it has told of all that it boots, and of the last one last
      told_so : told_of b g.at m (f.far m) ≡ onto (filter (boots_at b m) g.apps) []
      told_so =
          (λ i. told_of b g.at m (record (f.far m) { how = ends.how i; ran = ends.ran i }))
          ∙ turned_back (dists b g.at m (f.far m).done) (filter (boots_at b m) g.apps) booted_all

      decided_all : (c : App) → tally c (dists b g.at m (f.far m).done) ≡ owned m c
      decided_all c =
          let both : tally c (filter (boots_at b m) g.apps) ≡ tally c (dists b g.at m (f.far m).done) + 0 = ap (tally c) booted_all
          ∙ tally_onto c (dists b g.at m (f.far m).done) [] in
          let passes : tally c (filter (boots_at b m) g.apps) ≡ owned m c = tally_passing (boots_at b m) c g.apps in
          (let same : tally c (dists b g.at m (f.far m).done) ≡ owned m c = omega (arith, both, passes) in same)

      asked_all : (c : App) → tally c (asked_of b g.at m (f.far m)) ≡ owned m c
      asked_all c =
          ap (λ (x : How). tally c (asked_of b g.at m (record (f.far m) { how = x }))) ends.how ∙ decided_all c

      told_all : (c : App) → tally c (told_of b g.at m (f.far m)) ≡ owned m c
      told_all c =
          (λ i. tally c (told_of b g.at m (record (f.far m) { how = ends.how i; ran = ends.ran i }))) ∙ decided_all c

    no_mail : (m : Node) → 1 ≤ count_of m b.alive → (f.far m).mail ≡ []
    no_mail m alive = (fine m alive).mail

    nothing_told : (c : App) (d : Bool) (m : Node) → tally c (told_by b g.at m d []) ≡ 0
    nothing_told c true m = refl
    nothing_told c false m = refl

    -- the news of an application stays, where the node doesn't boot it
    strange_rows : (m : Node) (a : App) → 1 ≤ count_of m b.alive
        → tally_rows a (f.far m).rows ≡ cond (not (boots_at b m a)) (tally a g.apps) 0
    strange_rows m a alive = by (cases_eq (g.at a).0 m.0) (count_of (g.at a) b.alive) refl (tally a g.apps) refl
      where
        IsRunner : App → Type 0
        IsRunner c = (1 ≤ times (g.at c) b.alive) × (boots_at b (g.at c) c ≡ true)

        none : (c : Bool) → ◌≡◌ {A = ℕ} (cond c 0 0) 0
        none true = refl
        none false = refl

        split : (c : Bool) (j k : ℕ) → j + cond c k 0 ≡ k → j ≡ cond (not c) k 0
        split true j k is = omega (arith, is)
        split false j k is = omega (arith, is)

        all : (g.at a).0 ≢ m.0 → tally_rows a (f.far m).rows ≤ tally a (told_of b g.at (g.at a) (f.far (g.at a)))
        all other = let both : got f.tokens (f.far m) m a + tally a (asked_of b g.at m (f.far m))
            ≡ tally a (told_of b g.at (g.at a) (f.far (g.at a))) = f.away m a alive other in
            omega (arith, both)

        by : ((g.at a).0 ≡ m.0) ⊎ ((g.at a).0 ≢ m.0) → (j : ℕ) → count_of (g.at a) b.alive ≡ j → (k : ℕ) → tally a g.apps ≡ k
            → tally_rows a (f.far m).rows ≡ cond (not (boots_at b m a)) (tally a g.apps) 0
        by (inl mine) j at_it k is =
            (let no_news : got f.tokens (f.far m) m a ≡ 0 = f.home m a alive mine in
            let no_row : tally_rows a (f.far m).rows ≡ 0 = omega (arith, no_news) in no_row)
            ∙ sym (its k is)
          where
            its : (k : ℕ) → tally a g.apps ≡ k → cond (not (boots_at b m a)) (tally a g.apps) 0 ≡ 0
            its zero is = ap (λ (i : ℕ). cond (not (boots_at b m a)) i 0) is ∙ none (not (boots_at b m a))
            its (suc k) is =
                ap (λ (c : Bool). cond (not c) (tally a g.apps) 0)
                (ap (λ (x : Node). boots_at b x a) (sym (same_node (g.at a) m mine))
                ∙ (so_of_one IsRunner a g.apps g.runners (omega (arith, is))).1)
        by (inr other) zero at_it k is =
            (let no_told : tally a (told_of b g.at (g.at a) (f.far (g.at a))) ≡ 0 =
            ap (λ (l : List App). tally a
            (told_by b g.at (g.at a) (pends_by b g.at (g.at a) (f.far (g.at a)).how (f.far (g.at a)).ran) l)) (f.unmoved (g.at a) at_it)
            ∙ nothing_told a (pends_by b g.at (g.at a) (f.far (g.at a)).how (f.far (g.at a)).ran) (g.at a) in
            let less : tally_rows a (f.far m).rows ≤ tally a (told_of b g.at (g.at a) (f.far (g.at a))) = all other in
            let no_row : tally_rows a (f.far m).rows ≡ 0 = omega (arith, no_told, less) in no_row)
            ∙ sym (ap (λ (i : ℕ). cond (not (boots_at b m a)) i 0) (out k is) ∙ none (not (boots_at b m a)))
          where
            out : (k : ℕ) → tally a g.apps ≡ k → tally a g.apps ≡ 0
            out zero is = is
            out (suc k) is =
                let some : 1 ≤ times (g.at a) b.alive = (so_of_one IsRunner a g.apps g.runners (omega (arith, is))).0 in
                let same : count_of (g.at a) b.alive ≡ times (g.at a) b.alive = counts_so (g.at a) b.alive in
                absurd (omega (arith, some, same, at_it))
        by (inr other) (suc j) at_it zero is =
            (let told : tally a (told_of b g.at (g.at a) (f.far (g.at a))) ≡ owned (g.at a) a =
            told_all (g.at a) (omega (arith, at_it)) a in
            let nought : owned (g.at a) a ≡ 0 = ap (λ (i : ℕ). cond (boots_at b (g.at a) a) i 0) is ∙ none (boots_at b (g.at a) a) in
            let less : tally_rows a (f.far m).rows ≤ tally a (told_of b g.at (g.at a) (f.far (g.at a))) = all other in
            let no_row : tally_rows a (f.far m).rows ≡ 0 = omega (arith, told, nought, less) in no_row)
            ∙ sym (ap (λ (i : ℕ). cond (not (boots_at b m a)) i 0) is ∙ none (not (boots_at b m a)))
        by (inr other) (suc j) at_it (suc k) is =
            split (boots_at b m a) (tally_rows a (f.far m).rows) (tally a g.apps)
            (let both : got f.tokens (f.far m) m a + tally a (asked_of b g.at m (f.far m))
            ≡ tally a (told_of b g.at (g.at a) (f.far (g.at a))) = f.away m a alive other in
            let no_news : total (news_of m a) f.tokens ≡ 0 = ap (total (news_of m a)) (no_tokens f) in
            let mailed : tally a (f.far m).mail ≡ 0 = ap (tally a) (no_mail m alive) in
            let mine : tally a (asked_of b g.at m (f.far m)) ≡ owned m a = asked_all m alive a in
            let told : tally a (told_of b g.at (g.at a) (f.far (g.at a))) ≡ owned (g.at a) a =
            told_all (g.at a) (omega (arith, at_it)) a in
            let theirs : owned (g.at a) a ≡ tally a g.apps =
            ap (λ (c : Bool). cond c (tally a g.apps) 0) (so_of_one IsRunner a g.apps g.runners (omega (arith, is))).1 in
            (let same : tally_rows a (f.far m).rows + owned m a ≡ tally a g.apps =
            omega (arith, both, no_news, mailed, mine, told, theirs) in same))

    -- those that it doesn't boot one node has started, in their order, so the rows stand the other way round
    module _ (m : Node) (alive : 1 ≤ count_of m b.alive) (z : App) (l : List App) (is : strangers_of b m g.apps ≡ z ∷ l) where
      abbrev n : Node
      n = g.at z

      abbrev is_strange : App → Bool
      is_strange a = not (boots_at b m a)

      abbrev IsRunner : App → Type 0
      IsRunner c = (1 ≤ times (g.at c) b.alive) × (boots_at b (g.at c) c ≡ true)

      -- of all those that it doesn't boot, and of no others
      abbrev q : App → Bool
      q a = is_strange a && (g.at a).0 == n.0

      -- one of all that passes no test but this
      standing : (a : App) → 1 ≤ tally a (strangers_of b m g.apps) → (is_strange a ≡ true) × (1 ≤ tally a g.apps)
      standing a some = by (is_strange a) (subst (λ (j : ℕ). 1 ≤ j) (tally_passing is_strange a g.apps) some)
        where
          by : (c : Bool) → 1 ≤ cond c (tally a g.apps) 0 → (c ≡ true) × (1 ≤ tally a g.apps)
          by true there_is = (refl, there_is)
          by false there_is = absurd (omega (arith, there_is))

      among : (a : App) → is_strange a ≡ true → 1 ≤ tally a g.apps → 1 ≤ tally a (strangers_of b m g.apps)
      among a strange some =
          let all : tally a (strangers_of b m g.apps) ≡ tally a g.apps =
          tally_passing is_strange a g.apps ∙ ap (λ (c : Bool). cond c (tally a g.apps) 0) strange in
          omega (arith, all, some)

      first_one : 1 ≤ tally z (strangers_of b m g.apps)
      first_one = let one : tally z (strangers_of b m g.apps) ≡ suc (tally z l) = ap (tally z) is ∙ tally_itself z l in omega (arith, one)

      first : (is_strange z ≡ true) × (1 ≤ tally z g.apps)
      first = standing z first_one

      runs : (a : App) → 1 ≤ tally a g.apps → IsRunner a
      runs a some = so_of_one IsRunner a g.apps g.runners some

      one_place : (a : App) → is_strange a ≡ true → 1 ≤ tally a g.apps → n.0 ≡ (g.at a).0
      one_place a strange some =
          so_of_one (λ (c : App). n.0 ≡ (g.at c).0) a (strangers_of b m g.apps)
          (so_of_one (λ (d : App). All (λ (c : App). (g.at d).0 ≡ (g.at c).0) (strangers_of b m g.apps)) z (strangers_of b m g.apps)
          (each_of g m alive).strangers first_one)
          (among a strange some)

      passes : (a : App) → is_strange a ≡ true → 1 ≤ tally a g.apps → q a ≡ true
      passes a strange some = λ i. strange i && eq-eqb (g.at a).0 n.0 (sym (one_place a strange some)) i

      there_is : 1 ≤ count_of n b.alive
      there_is = subst (λ (j : ℕ). 1 ≤ j) (sym (counts_so n b.alive)) (runs z first.1).0

      apart : n.0 ≢ m.0
      apart same =
          false≢true (sym (ap not (ap (λ (x : Node). boots_at b x z) (sym (same_node n m same)) ∙ (runs z first.1).1)) ∙ first.0)

      strange : AreStrange b g.at m n q
      strange c so = by (boots_at b m c) refl so
        where
          by : (d : Bool) → boots_at b m c ≡ d → (not d && (g.at c).0 == n.0) ≡ true → ((g.at c).0 ≡ n.0) × (boots_at b m c ≡ false)
          by true boots both = absurd (false≢true both)
          by false boots both = (eqb-true (g.at c).0 n.0 both, boots)

      each_row : (a : App) → 1 ≤ tally a (map row_app (f.far m).rows) → q a ≡ true
      each_row a some = by (is_strange a) refl
          (let rows : tally a (map row_app (f.far m).rows) ≡ cond (is_strange a) (tally a g.apps) 0 =
          tally_apps a (f.far m).rows ∙ strange_rows m a alive in
          subst (λ (j : ℕ). 1 ≤ j) rows some)
        where
          by : (c : Bool) → is_strange a ≡ c → 1 ≤ cond c (tally a g.apps) 0 → q a ≡ true
          by true is there_are = passes a is there_are
          by false is there_are = absurd (omega (arith, there_are))

      all_theirs : (a : App) → 1 ≤ tally a g.apps → (boots_at b n a && q a) ≡ is_strange a
      all_theirs a some = by (is_strange a) refl
        where
          by : (c : Bool) → is_strange a ≡ c → (boots_at b n a && q a) ≡ is_strange a
          by true is =
              let there : boots_at b n a ≡ true =
              ap (λ (x : Node). boots_at b x a) (same_node n (g.at a) (one_place a is some)) ∙ (runs a some).1 in
              (λ i. there i && passes a is some i) ∙ sym is
          by false is =
              ap (λ (c : Bool). boots_at b n a && (c && (g.at a).0 == n.0)) is ∙ and-false (boots_at b n a) ∙ sym is

      apps_so : map row_app (f.far m).rows ≡ reverse (strangers_of b m g.apps)
      apps_so =
          sym (all_pass q (map row_app (f.far m).rows) each_row)
          ∙ sym (onto_so (no_tokens f) (no_mail m alive))
          ∙ f.order m n q alive apart strange
          ∙ ap (filter q) (told_so n there_is)
          ∙ filter_turned q (filter (boots_at b n) g.apps) []
          ∙ ap (λ (y : List App). onto y []) (passing_same (boots_at b n) q is_strange g.apps all_theirs)
          ∙ onto_reverse (strangers_of b m g.apps) []
          ∙ append-nil (reverse (strangers_of b m g.apps))
        where
          onto_so : {tokens : List Token} {mail : List App} → tokens ≡ [] → mail ≡ []
              → onto (heard m q tokens) (filter q (onto mail (map row_app (f.far m).rows))) ≡ filter q (map row_app (f.far m).rows)
          onto_so none no_letters = λ i. onto (heard m q (none i)) (filter q (onto (no_letters i) (map row_app (f.far m).rows)))

    left_rows : (m : Node) → 1 ≤ count_of m b.alive → (f.far m).rows ≡ rows_of b m g.at g.apps
    left_rows m alive = by (strangers_of b m g.apps) refl
      where
        rows_at : List App → List (App × Node)
        rows_at apps = map (λ (a : App). (a, g.at a)) (reverse apps)

        by : (l : List App) → strangers_of b m g.apps ≡ l → (f.far m).rows ≡ rows_of b m g.at g.apps
        by [] is =
            no_rows (f.far m).rows
            (λ a. strange_rows m a alive ∙ sym (tally_passing (λ (c : App). not (boots_at b m c)) a g.apps) ∙ ap (tally a) is)
            ∙ sym (ap rows_at is)
        by (z ∷ l) is =
            rows_marked g.at (f.far m).rows (f.fine m alive).marked ∙ ap (map (λ (a : App). (a, g.at a))) (apps_so m alive z l is)

    pub far_so : (m : Node) → 1 ≤ count_of m b.alive → f.far m ≡ last m
    far_so m alive = λ i. record {
      done = turned_back (f.far m).done (boot_of b.cluster m) ((fine m alive).boots ∙ ap (onto (f.far m).done) (no_rest m alive)) i;
      how = (ends m alive).how i;
      rest = no_rest m alive i;
      ran = (ends m alive).ran i;
      rows = left_rows m alive i;
      mail = no_mail m alive i;
    }

    pub no_locks : u.locks ≡ []
    no_locks = by u.locks f.locks
      where
        by : (rows : List Held) → All (IsHeld b f.far) rows → rows ≡ []
        by [] all = refl
        by (x ∷ rows) all =
            let one : IsHeld b f.far x = All-head (IsHeld b f.far) x rows all in
            absurd (false≢true (ap is_standing (sym (ends one.node one.alive).how) ∙ one.standing))

    -- but for the nodes and what was seen all of it is known
    pub ends_so : u ≡ record b { nodes = u.nodes; messages = []; slow = []; locks = []; events = u.events }
    ends_so = f.same ∙ (λ i. record b {
      nodes = u.nodes;
      messages = map (letter b g.at) (no_tokens f i);
      slow = map slow.Boot (none_waiting f i);
      locks = no_locks i;
      events = u.events;
    })

    pub cell_so : (m : Node) → 1 ≤ count_of m b.alive → cell_at u m.0 ≡ Some (cell.Node (live b g.at m (last m)))
    cell_so m alive = f.here m alive ∙ ap (λ (x : Far). Some (cell.Node (live b g.at m x))) (far_so m alive)

  -- ---- they are alike

  alike_but_events : (nodes : DraftView Cell) (xs ys : List Event) → ((o : Option Node) → of_owner node_told o xs ≡ of_owner node_told o ys)
      → AreAlike (record b { nodes = nodes; messages = []; slow = []; locks = []; events = xs })
      (record b { nodes = nodes; messages = []; slow = []; locks = []; events = ys })
  alike_but_events nodes xs ys same = record {
    cluster = refl;
    files = refl;
    nodes = refl;
    clock = refl;
    step = refl;
    last_call = refl;
    alive = refl;
    links = refl;
    locks = refl;
    calls = refl;
    asleep = refl;
    told = refl;
    answers = λ pair. refl;
    is_ticking = refl;
    ends_soon = refl;
    messages = λ pair. refl;
    timers = λ o. refl;
    slow = λ o. refl;
    events = same;
  }

  pub end_alike : (u t : SystemView) → Stage b g.at 0 u → Stage b g.at 0 t → AreAlike u t
  end_alike u t f k =
      subst (λ (x : SystemView). AreAlike x t) (sym (ends_so f))
      (subst (λ (x : SystemView). AreAlike (record b { nodes = u.nodes; messages = []; slow = []; locks = []; events = u.events }) x)
      (sym (ends_so k))
      (subst (λ (x : DraftView Cell). AreAlike (record b { nodes = u.nodes; messages = []; slow = []; locks = []; events = u.events })
      (record b { nodes = x; messages = []; slow = []; locks = []; events = t.events })) nodes_same
      (alike_but_events u.nodes u.events t.events events_same)))
    where
      at : (m : Node) (j : ℕ) → count_of m b.alive ≡ j → cell_at u m.0 ≡ cell_at t m.0
      at m zero out = f.others m out ∙ sym (k.others m out)
      at m (suc j) is =
          let alive : 1 ≤ count_of m b.alive = omega (arith, is) in
          cell_so f m alive ∙ sym (cell_so k m alive)

      nodes_same : u.nodes ≡ t.nodes
      nodes_same = λ i. record {
        base = (f.base ∙ sym k.base) i;
        cells = same_lists u.nodes.cells t.nodes.cells (λ n. at (record { 0 = n }) (count_of (record { 0 = n }) b.alive) refl) i;
      }

      told_at : (m : Node) (j : ℕ) → count_of m b.alive ≡ j → of_owner node_told (Some m) u.events ≡ of_owner node_told (Some m) t.events
      told_at m zero out = f.strangers m out ∙ sym (k.strangers m out)
      told_at m (suc j) is =
          let alive : 1 ≤ count_of m b.alive = omega (arith, is) in
          f.events m alive
          ∙ ap (λ (x : Far). of_owner node_told (Some m) b.events ++ tale b g.at m x.how x.done) (far_so f m alive ∙ sym (far_so k m alive))
          ∙ sym (k.events m alive)

      events_same : (o : Option Node) → of_owner node_told o u.events ≡ of_owner node_told o t.events
      events_same None = f.nobodys ∙ sym k.nobodys
      events_same (Some m) = told_at m (count_of m b.alive) refl
