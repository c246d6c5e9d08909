-- Where nothing moves no dist_ac waits: all that boot scripts start has started.
use Rattle.std.proofs.Common.{◌≡◌, ◌≢◌, ◌≤◌, ◌<◌, ◌⊎◌, ◌+◌, ◌++◌, ◌==◌, ℕ, zero, suc, Bool, true, false, cond, List, [], ◌∷◌, map, filter, refl, sym, ap, subst, ◌∙◌, inl, inr, append_assoc, arith}
use Rattle.std.specs.Prelude.{All}
use Rattle.std.proofs.lemmas.Bool.{eq-eqb, false≢true}
use Rattle.std.proofs.lemmas.List.Elements.{All-head}
use Rattle.rh_model.specs.declared.node.App.{App}
use Rattle.rh_model.specs.declared.node.Node.{Node}
use Rattle.rh_model.specs.declared.settings.Restart.{Restart}
use Rattle.rh_otp_model.specs.Own.{controls}
use Rattle.rh_otp_system.specs.State.{SystemView, own_at}
use Rattle.rh_otp_joins.proofs.Lists.{more_if, count_of}
use Rattle.rh_otp_gathers.specs.Gathers.{times}
use Rattle.rh_otp_gathers.proofs.Opening.{counts_so}
use Rattle.rh_otp_gathers.proofs.Tokens.{total, TakenOut, take_out}
use Rattle.rh_otp_together.specs.Together.{boots_at, BootTogether}
use Rattle.rh_otp_together.proofs.Apps.{same_app, tally, tally_rows, tally_itself}
use Rattle.rh_otp_together.proofs.Forms.{How, unbegun, asks, requests, stands, starts, learns, reports, answered, over, Far, Fine, Token, start, request, yes, there, report, answer, ran, news, node_of, onto, current, is_dist, is_mine, dists, asked_by, is_inner, is_voice, news_of, token_weight, voices, inners, costs, telling_weight, weight_by, ran_weight, weight}
use Rattle.rh_otp_together.proofs.Lives.{unasked}
use Rattle.rh_otp_together.proofs.Needs.{each_of}
use Rattle.rh_otp_together.proofs.Passing.{so_of_one, tally_passing, place_in, stands_before}
use Rattle.rh_otp_together.proofs.Stages.{is_unbegun, got, asked_of, told_of, IsOf, Stage, total_same}

-- ---- lists

pub tally_onto : (c : App) (d l : List App) → tally c (onto d l) ≡ tally c d + tally c l
tally_onto c [] l = omega arith
tally_onto c (x ∷ d) l = by (x.0 == c.0) (tally_onto c d (x ∷ l))
  where
    by : (e : Bool) → tally c (onto d (x ∷ l)) ≡ tally c d + more_if e (tally c l) → tally c (onto d (x ∷ l))
        ≡ more_if e (tally c d) + tally c l
    by true is = omega (arith, is)
    by false is = is

pub filter_onto : (q : App → Bool) (done l : List (App × Restart))
    → filter q (map (λ (row : App × Restart). row.0) (onto done l))
    ≡ onto (filter q (map (λ (row : App × Restart). row.0) done)) (filter q (map (λ (row : App × Restart). row.0) l))
filter_onto q [] l = refl
filter_onto q (y ∷ done) l = filter_onto q done (y ∷ l) ∙ by (q y.0)
  where
    by : (c : Bool) → onto (filter q (map (λ (row : App × Restart). row.0) done))
        (cond c (y.0 ∷ filter q (map (λ (row : App × Restart). row.0) l)) (filter q (map (λ (row : App × Restart). row.0) l)))
        ≡ onto (cond c (y.0 ∷ filter q (map (λ (row : App × Restart). row.0) done))
        (filter q (map (λ (row : App × Restart). row.0) done))) (filter q (map (λ (row : App × Restart). row.0) l))
    by true = refl
    by false = refl

-- what stands in front of a list is turned round
onto_so : {A : Type 0} (d l : List A) → onto d l ≡ onto d [] ++ l
onto_so [] l = refl
onto_so {A} (x ∷ d) l =
    onto_so d (x ∷ l) ∙ sym (append_assoc (onto d []) (x ∷ []) l) ∙ ap (λ (y : List A). y ++ l) (sym (onto_so d (x ∷ [])))

-- ---- weights

some_cost : (c d : Bool) (k : ℕ) → cond c (1 + cond d (4 + k) 3) 3 ≡ 0 → ⊥
some_cost true true k is = omega (arith, is)
some_cost true false k is = omega (arith, is)
some_cost false d k is = omega (arith, is)

some_request : (d : Bool) (k : ℕ) → cond d (4 + k) 3 ≡ 0 → ⊥
some_request true k is = omega (arith, is)
some_request false k is = omega (arith, is)

over_at : (b : SystemView) (at : App → Node) (m : Node) (how : How) → weight_by b at m how ≡ 0 → how ≡ over
over_at b at m unbegun is = absurd (omega (arith, is))
over_at b at m (asks a r) is = absurd (some_cost (is_dist b at m a) (is_mine b at m a) (telling_weight b at m) is)
over_at b at m (requests a r) is = absurd (some_request (is_mine b at m a) (telling_weight b at m) is)
over_at b at m (stands a r) is = absurd (omega (arith, is))
over_at b at m (starts a r) is = absurd (omega (arith, is))
over_at b at m (learns a r) is = absurd (omega (arith, is))
over_at b at m (reports a r) is = absurd (omega (arith, is))
over_at b at m answered is = absurd (omega (arith, is))
over_at b at m over is = refl

none_ran_at : (b : SystemView) (at : App → Node) (m : Node) (apps : List App) → ran_weight b at m apps ≡ 0 → apps ≡ []
none_ran_at b at m [] is = refl
none_ran_at b at m (a ∷ l) is = absurd (omega (arith, is))

-- ---- at the end

-- a script is over, and nobody is to be told of a start
pub record IsOver (k : Far) : Type 0 where
  pub how : k.how ≡ over
  pub ran : k.ran ≡ []

pub over_there : {b : SystemView} {at : App → Node} {u : SystemView} (f : Stage b at 0 u) (m : Node) → 1 ≤ count_of m b.alive
    → IsOver (f.far m)
over_there {b} {at} f m alive =
    let all : total (λ (k : Node). weight b at k (f.far k)) b.alive + total token_weight f.tokens ≡ 0 = f.weighs in
    let out : TakenOut m b.alive = take_out m b.alive alive in
    let sum : total (λ (k : Node). weight b at k (f.far k)) b.alive
    ≡ weight b at m (f.far m) + total (λ (k : Node). weight b at k (f.far k)) out.rest =
    out.totals (λ (k : Node). weight b at k (f.far k)) in
    record {
      how = over_at b at m (f.far m).how (let nought : weight_by b at m (f.far m).how ≡ 0 = omega (arith, all, sum) in nought);
      ran = none_ran_at b at m (f.far m).ran (let nought : ran_weight b at m (f.far m).ran ≡ 0 = omega (arith, all, sum) in nought);
    }

pub no_tokens : {b : SystemView} {at : App → Node} {u : SystemView} (f : Stage b at 0 u) → f.tokens ≡ []
no_tokens {b} {at} f = by f.tokens refl
  where
    passes_none : (p : Token → Bool) (t : Token) (l : List Token) → f.tokens ≡ t ∷ l → p t ≡ true → filter p f.tokens ≡ [] → ⊥
    passes_none p t l is passes none =
        let some : t ∷ filter p l ≡ [] =
        sym (ap (λ (c : Bool). cond c (t ∷ filter p l) (filter p l)) passes) ∙ ap (filter p) (sym is) ∙ none in
        cc

    alive_of : (t : Token) (l : List Token) → f.tokens ≡ t ∷ l → 1 ≤ count_of (node_of t) b.alive
    alive_of t l is = All-head (IsOf b) t l (subst (All (IsOf b)) is f.known)

    silent : (m : Node) → 1 ≤ count_of m b.alive → filter (is_voice m) f.tokens ≡ []
    silent m alive = f.voiced m alive ∙ ap (voices m) (over_there f m alive).how

    no_inner : (m : Node) → 1 ≤ count_of m b.alive → filter (is_inner m) f.tokens ≡ []
    no_inner m alive = f.inner m alive ∙ (λ i. inners m ((over_there f m alive).how i) ((over_there f m alive).ran i))

    one : (t : Token) (l : List Token) → f.tokens ≡ t ∷ l → ⊥
    one (start m a r) l is = passes_none (is_voice m) (start m a r) l is (eq-eqb m.0 m.0 refl) (silent m (alive_of (start m a r) l is))
    one (request m a) l is = passes_none (is_inner m) (request m a) l is (eq-eqb m.0 m.0 refl) (no_inner m (alive_of (request m a) l is))
    one (yes m a) l is = passes_none (is_voice m) (yes m a) l is (eq-eqb m.0 m.0 refl) (silent m (alive_of (yes m a) l is))
    one (there m a) l is = passes_none (is_voice m) (there m a) l is (eq-eqb m.0 m.0 refl) (silent m (alive_of (there m a) l is))
    one (report m a) l is = passes_none (is_voice m) (report m a) l is (eq-eqb m.0 m.0 refl) (silent m (alive_of (report m a) l is))
    one (answer m) l is = passes_none (is_voice m) (answer m) l is (eq-eqb m.0 m.0 refl) (silent m (alive_of (answer m) l is))
    one (ran m a) l is = passes_none (is_inner m) (ran m a) l is (eq-eqb m.0 m.0 refl) (no_inner m (alive_of (ran m a) l is))
    one (news m a) l is =
        let all : total (λ (k : Node). weight b at k (f.far k)) b.alive + total token_weight f.tokens ≡ 0 = f.weighs in
        let some : total token_weight f.tokens ≡ 1 + total token_weight l = ap (total token_weight) is in
        omega (arith, all, some)

    by : (l : List Token) → f.tokens ≡ l → f.tokens ≡ []
    by [] is = is
    by (t ∷ l) is = absurd (one t l is)

pub none_waiting : {b : SystemView} {at : App → Node} {u : SystemView} (f : Stage b at 0 u) → f.waiting ≡ []
none_waiting {b} {at} f = by f.waiting refl
  where
    some_alive : (c : Bool) (j : ℕ) → 1 ≤ cond c j 0 → (c ≡ true) × (1 ≤ j)
    some_alive true j some = (refl, some)
    some_alive false j some = absurd (omega (arith, some))

    by : (l : List Node) → f.waiting ≡ l → f.waiting ≡ []
    by [] is = is
    by (m ∷ l) is =
        let count : count_of m f.waiting ≡ suc (count_of m l) = ap (count_of m) is
        ∙ ap (λ (c : Bool). more_if c (count_of m l)) (eq-eqb m.0 m.0 refl) in
        let so : count_of m f.waiting ≡ cond (is_unbegun (f.far m).how) (count_of m b.alive) 0 = f.slow m in
        let both : (is_unbegun (f.far m).how ≡ true) × (1 ≤ count_of m b.alive) =
        some_alive (is_unbegun (f.far m).how) (count_of m b.alive) (omega (arith, count, so)) in
        absurd (false≢true (ap is_unbegun (sym (over_there f m both.1).how) ∙ both.0))

-- ---- where nothing is left to move

module _ {b : SystemView} (g : BootTogether b) {left : ℕ} {u : SystemView} (f : Stage b g.at left u) (none : f.tokens ≡ [])
    (begun : f.waiting ≡ []) where
  none_ran : (m : Node) → 1 ≤ count_of m b.alive → (f.far m).ran ≡ []
  none_ran m alive = by (f.far m).ran (sym (f.inner m alive) ∙ ap (filter (is_inner m)) none)
    where
      by : (apps : List App) → inners m (f.far m).how apps ≡ [] → apps ≡ []
      by [] is = refl
      by (a ∷ l) is = absurd (cc)

  -- a script is over, or its node's dist_ac waits
  stands_or_over : (m : Node) → 1 ≤ count_of m b.alive → ((f.far m).how ≡ over) ⊎ ((a : App) × (r : Restart) × ((f.far m).how ≡ stands a r))
  stands_or_over m alive = by (f.far m).how refl
    where
      silent : (how : How) → (f.far m).how ≡ how → voices m how ≡ []
      silent how is = ap (voices m) (sym is) ∙ sym (f.voiced m alive) ∙ ap (filter (is_voice m)) none

      by : (how : How) → (f.far m).how ≡ how → ((f.far m).how ≡ over) ⊎ ((a : App) × (r : Restart) × ((f.far m).how ≡ stands a r))
      by unbegun is =
          absurd (let so : count_of m f.waiting ≡ count_of m b.alive = f.slow m
          ∙ ap (λ (x : How). cond (is_unbegun x) (count_of m b.alive) 0) is in
          let no_one : count_of m f.waiting ≡ 0 = ap (count_of m) begun in
          omega (arith, so, no_one, alive))
      by (asks a r) is = let no_one : start m a r ∷ [] ≡ [] = silent (asks a r) is in absurd (cc)
      by (requests a r) is =
          let no_one : request m a ∷ [] ≡ [] =
          (λ i. inners m (sym is i) (sym (none_ran m alive) i)) ∙ sym (f.inner m alive) ∙ ap (filter (is_inner m)) none in absurd (cc)
      by (stands a r) is = inr (a, r, is)
      by (starts a r) is = let no_one : yes m a ∷ [] ≡ [] = silent (starts a r) is in absurd (cc)
      by (learns a r) is = let no_one : there m a ∷ [] ≡ [] = silent (learns a r) is in absurd (cc)
      by (reports a r) is = let no_one : report m a ∷ [] ≡ [] = silent (reports a r) is in absurd (cc)
      by answered is = let no_one : answer m ∷ [] ≡ [] = silent answered is in absurd (cc)
      by over is = inl is

  abbrev decided : Node → List App
  decided m = dists b g.at m (f.far m).done

  abbrev ahead : Node → List App
  ahead m = filter (controls (own_at b m)) (map (λ (row : App × Restart). row.0) (current (f.far m).how (f.far m).rest))

  own_so : (m : Node) → 1 ≤ count_of m b.alive → filter (boots_at b m) g.apps ≡ onto (decided m) (ahead m)
  own_so m alive =
      sym (each_of g m alive).distributed
      ∙ ap (λ (l : List (App × Restart)). filter (controls (own_at b m)) (map (λ (row : App × Restart). row.0) l)) (f.fine m alive).boots
      ∙ filter_onto (controls (own_at b m)) (f.far m).done (current (f.far m).how (f.far m).rest)

  -- where a dist_ac waits, the application is the next of those that its node boots
  record Next (m : Node) (a : App) : Type 0 where
    later : List App
    is : filter (boots_at b m) g.apps ≡ onto (decided m) (a ∷ later)
    other : (g.at a).0 ≢ m.0
    mail : tally a (f.far m).mail ≡ 0
    rows : tally_rows a (f.far m).rows ≡ 0
    asked : tally a (asked_of b g.at m (f.far m)) ≡ 0

  next_of : (m : Node) (a : App) (r : Restart) → 1 ≤ count_of m b.alive → (f.far m).how ≡ stands a r → Next m a
  next_of m a r alive is = record {
    later = filter (controls (own_at b m)) (map (λ (row : App × Restart). row.0) (f.far m).rest);
    is = own_so m alive
        ∙ ap (λ (x : How). onto (decided m)
        (filter (controls (own_at b m)) (map (λ (row : App × Restart). row.0) (current x (f.far m).rest)))) is
        ∙ ap (λ (c : Bool). onto (decided m)
        (cond c (a ∷ filter (controls (own_at b m)) (map (λ (row : App × Restart). row.0) (f.far m).rest))
        (filter (controls (own_at b m)) (map (λ (row : App × Restart). row.0) (f.far m).rest)))) fine.so.0;
    other = fine.so.1;
    mail = fine.mail;
    rows = fine.awaited;
    asked = ap (λ (x : How). tally a (asked_by b g.at m x (f.far m).done)) is ∙ unasked b m g.at a (f.far m).done fine.order.0;
  }
    where
      fine : Fine b g.at m (record (f.far m) { how = stands a r })
      fine = subst (Fine b g.at m) (λ i. record (f.far m) { how = is i }) (f.fine m alive)

  -- so the node that is to start it hasn't decided of it
  not_there : (m : Node) (a : App) → 1 ≤ count_of m b.alive → Next m a → tally a (told_of b g.at (g.at a) (f.far (g.at a))) ≡ 0
  not_there m a alive n =
      let all : got f.tokens (f.far m) m a + tally a (asked_of b g.at m (f.far m)) ≡ tally a (told_of b g.at (g.at a) (f.far (g.at a))) =
      f.away m a alive n.other in
      let no_news : total (news_of m a) f.tokens ≡ 0 = ap (total (news_of m a)) none in
      let mail : tally a (f.far m).mail ≡ 0 = n.mail in
      let rows : tally_rows a (f.far m).rows ≡ 0 = n.rows in
      let asked : tally a (asked_of b g.at m (f.far m)) ≡ 0 = n.asked in
      let so : tally a (told_of b g.at (g.at a) (f.far (g.at a))) ≡ 0 = omega (arith, all, no_news, mail, rows, asked) in
      so

  -- it is one of all, and its node boots it
  shared : (m : Node) (a : App) → Next m a → (boots_at b m a ≡ true) × (1 ≤ tally a g.apps)
  shared m a n = by (boots_at b m a) refl
    where
      some : 1 ≤ tally a (filter (boots_at b m) g.apps)
      some =
          let mine : tally a (filter (boots_at b m) g.apps) ≡ tally a (decided m) + tally a (a ∷ n.later) = ap (tally a) n.is
          ∙ tally_onto a (decided m) (a ∷ n.later) in
          let one : tally a (a ∷ n.later) ≡ suc (tally a n.later) = tally_itself a n.later in
          omega (arith, mine, one)

      by : (c : Bool) → boots_at b m a ≡ c → (boots_at b m a ≡ true) × (1 ≤ tally a g.apps)
      by true is =
          let all : tally a (filter (boots_at b m) g.apps) ≡ tally a g.apps =
          tally_passing (boots_at b m) a g.apps ∙ ap (λ (c : Bool). cond c (tally a g.apps) 0) is in
          (is, (let there : 1 ≤ tally a g.apps = omega (arith, some, all) in there))
      by false is =
          let none : tally a (filter (boots_at b m) g.apps) ≡ 0 =
          tally_passing (boots_at b m) a g.apps ∙ ap (λ (c : Bool). cond c (tally a g.apps) 0) is in
          absurd (omega (arith, some, none))

  runner : (m : Node) (a : App) → Next m a → (1 ≤ times (g.at a) b.alive) × (boots_at b (g.at a) a ≡ true)
  runner m a n = so_of_one (λ (c : App). (1 ≤ times (g.at c) b.alive) × (boots_at b (g.at c) c ≡ true)) a g.apps g.runners
      (shared m a n).1

  -- the one that waits for the first of all would have none to wait for
  stuck : (most : ℕ) (m : Node) (a : App) (r : Restart) → 1 ≤ count_of m b.alive → (f.far m).how ≡ stands a r → place_in g.apps a < most
      → ⊥
  stuck zero m a r alive is less = omega (arith, less)
  stuck (suc most) m a r alive is less =
      by (stands_or_over x there_is)
      (λ c q stands_so sooner. stuck most x c q there_is stands_so sooner)
    where
      n : Next m a
      n = next_of m a r alive is

      x : Node
      x = g.at a

      there_is : 1 ≤ count_of x b.alive
      there_is = subst (λ (j : ℕ). 1 ≤ j) (sym (counts_so x b.alive)) (runner m a n).0

      undecided : (how : How) → (f.far x).how ≡ how → told_of b g.at x (record (f.far x) { how = how; ran = [] }) ≡ decided x
          → tally a (decided x) ≡ 0
      undecided how how_is same =
          ap (tally a) (sym same)
          ∙ (λ i. tally a (told_of b g.at x (record (f.far x) { how = sym how_is i; ran = sym (none_ran x there_is) i })))
          ∙ not_there m a alive n

      by : ((f.far x).how ≡ over) ⊎ ((c : App) × (q : Restart) × ((f.far x).how ≡ stands c q))
          → ((c : App) (q : Restart) → (f.far x).how ≡ stands c q → place_in g.apps c < most → ⊥) → ⊥
      by (inl ended) rest =
          let fine : Fine b g.at x (record (f.far x) { how = over }) =
          subst (Fine b g.at x) (λ i. record (f.far x) { how = ended i }) (f.fine x there_is) in
          let at_end : (f.far x).rest ≡ [] = fine.so in
          let all : filter (boots_at b x) g.apps ≡ onto (decided x) [] =
          own_so x there_is
          ∙ (λ i. onto (decided x)
          (filter (controls (own_at b x)) (map (λ (row : App × Restart). row.0) (current (ended i) (at_end i))))) in
          let theirs : tally a (filter (boots_at b x) g.apps) ≡ tally a (decided x) + 0 = ap (tally a) all
          ∙ tally_onto a (decided x) [] in
          let passes : tally a (filter (boots_at b x) g.apps) ≡ tally a g.apps =
          tally_passing (boots_at b x) a g.apps ∙ ap (λ (c : Bool). cond c (tally a g.apps) 0) (runner m a n).1 in
          let some : 1 ≤ tally a g.apps = (shared m a n).1 in
          let nothing : tally a (decided x) ≡ 0 = undecided over ended refl in
          omega (arith, theirs, passes, some, nothing)
      by (inr (c, q, stands_so)) rest = rest c q stands_so (let sooner : place_in g.apps c < place_in g.apps a = before in
          omega (arith, sooner, less))
        where
          n2 : Next x c
          n2 = next_of x c q there_is stands_so

          nothing : tally a (onto (decided x) []) ≡ 0
          nothing =
              let none : tally a (decided x) ≡ 0 = undecided (stands c q) stands_so refl in
              let turned : tally a (onto (decided x) []) ≡ tally a (decided x) + 0 = tally_onto a (decided x) [] in
              (let same : tally a (onto (decided x) []) ≡ 0 = omega (arith, none, turned) in same)

          before : place_in g.apps c < place_in g.apps a
          before = stands_before (boots_at b x) c a g.apps (onto (decided x) []) n2.later (n2.is ∙ onto_so (decided x) (c ∷ n2.later))
              (shared x c n2).0 (runner m a n).1 nothing (λ same. n2.other (ap (λ (y : App). (g.at y).0) (same_app c a same)))

  all_over : (m : Node) → 1 ≤ count_of m b.alive → (f.far m).how ≡ over
  all_over m alive = by (stands_or_over m alive)
    where
      by : ((f.far m).how ≡ over) ⊎ ((a : App) × (r : Restart) × ((f.far m).how ≡ stands a r)) → (f.far m).how ≡ over
      by (inl is) = is
      by (inr (a, r, is)) = absurd (stuck (suc (place_in g.apps a)) m a r alive is (omega arith))

  -- so nothing is left to do
  pub none_left : left ≡ 0
  none_left =
      let all : total (λ (k : Node). weight b g.at k (f.far k)) b.alive + total token_weight f.tokens ≡ left = f.weighs in
      let no_tokens_left : total token_weight f.tokens ≡ 0 = ap (total token_weight) none in
      let no_weight : total (λ (k : Node). weight b g.at k (f.far k)) b.alive ≡ total (λ (k : Node). 0) b.alive =
      total_same (λ (k : Node). weight b g.at k (f.far k)) (λ (k : Node). 0) b.alive light in
      let nought : total (λ (k : Node). 0) b.alive ≡ 0 = no_total b.alive in
      omega (arith, all, no_tokens_left, no_weight, nought)
    where
      no_total : (nodes : List Node) → total (λ (k : Node). 0) nodes ≡ 0
      no_total [] = refl
      no_total (x ∷ nodes) = let rest : total (λ (k : Node). 0) nodes ≡ 0 = no_total nodes in omega (arith, rest)

      light : (m : Node) → 1 ≤ count_of m b.alive → weight b g.at m (f.far m) ≡ 0
      light m alive =
          let ended : (f.far m).how ≡ over = all_over m alive in
          let fine : Fine b g.at m (record (f.far m) { how = over }) =
          subst (Fine b g.at m) (λ i. record (f.far m) { how = ended i }) (f.fine m alive) in
          let at_end : (f.far m).rest ≡ [] = fine.so in
          (λ i. weight_by b g.at m (ended i) + costs b g.at m (at_end i) + ran_weight b g.at m (none_ran m alive i))
