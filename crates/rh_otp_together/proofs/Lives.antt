-- What nodes are like at each stage: who is alive, in which life, what is held, and how often each start is told of.
use Rattle.std.proofs.Common.{◌≡◌, ◌≢◌, ◌≤◌, ◌⊎◌, ◌+◌, ◌++◌, ◌==◌, ◌&&◌, ◌||◌, ℕ, zero, suc, Bool, true, false, not, cond, unwrap_or, List, [], ◌∷◌, map, Option, refl, sym, ap, subst, ◌∙◌, inl, inr, arith}
use Rattle.std.specs.List.{list_any}
use Rattle.std.specs.Option.{option_and_then}
use Rattle.std.specs.Prelude.{All}
use Rattle.std.proofs.Math.Bool.{and-false}
use Rattle.std.proofs.lemmas.Bool.{cases_eq, eq-eqb, ne_eqb}
use Rattle.std.proofs.lemmas.List.Elements.{All-nil, All-cons, All-append, All-head, All-tail, All-weaker}
use Rattle.rh_model.specs.declared.node.App.{App}
use Rattle.rh_model.specs.declared.node.Node.{Node}
use Rattle.rh_model.specs.declared.settings.Restart.{Restart}
use Rattle.rh_otp_model.specs.declared.output.Requester.TheVariants.{Alone}
use Rattle.rh_otp_model.specs.declared.process.Process.{Process}
use Rattle.rh_otp_model.specs.declared.process.Role.TheVariants as role
use Rattle.rh_otp_dist.specs.Attempts.{has_app}
use Rattle.rh_otp_net.specs.Alike.{is_process, is_requester}
use Rattle.rh_otp_net.specs.declared.locks.Held.{Held}
use Rattle.rh_otp_net.specs.Locks.{is_others, is_free, freed}
use Rattle.rh_otp_node.specs.Live.{LiveView, never_begun, is_alive}
use Rattle.rh_otp_system.specs.declared.cell.Cell.{Cell}
use Rattle.rh_otp_system.specs.State.{SystemView, live_in, node_at, is_alive_at}
use Rattle.rh_otp_crashes.proofs.Crossing.{same_node}
use Rattle.rh_otp_joins.proofs.Lists.{more_if, count_of}
use Rattle.rh_otp_together.specs.Together.{InOrder, BootTogether}
use Rattle.rh_otp_together.proofs.Apps.{tally, none_tallied, tallied_none}
use Rattle.rh_otp_together.proofs.Forms.{How, unbegun, asks, requests, stands, starts, learns, reports, answered, over, Far, live, Fine, app_of, current, is_dist, dists, asked_by, told_by, is_standing}
use Rattle.rh_otp_together.proofs.Finishing.{once_more}
use Rattle.rh_otp_together.proofs.Passing.{passing_few}
use Rattle.rh_otp_together.proofs.Stages.{IsHeld, the_lock, got, asked_of, told_of, Stage, changed, changed_here, changed_other}

-- ---- who is alive

module _ {b : SystemView} (g : BootTogether b) {left : ℕ} {u : SystemView} (f : Stage b g.at left u) where
  pub node_so : (k : Node) → 1 ≤ count_of k b.alive → node_at u k ≡ live b g.at k (f.far k)
  node_so k alive = ap (λ (o : Option Cell). unwrap_or (option_and_then live_in o) never_begun) (f.here k alive)

  pub node_else : (k : Node) → count_of k b.alive ≡ 0 → node_at u k ≡ node_at b k
  node_else k none = ap (λ (o : Option Cell). unwrap_or (option_and_then live_in o) never_begun) (f.others k none)

  pub lives_so : (k : Node) → (node_at u k).life ≡ (node_at b k).life
  lives_so k = by (count_of k b.alive) refl
    where
      by : (j : ℕ) → count_of k b.alive ≡ j → (node_at u k).life ≡ (node_at b k).life
      by zero is = ap (λ (v : LiveView). v.life) (node_else k is)
      by (suc j) is = ap (λ (v : LiveView). v.life) (node_so k (omega (arith, is)))

  pub awake_so : (k : Node) → is_alive_at u k ≡ is_alive_at b k
  awake_so k = by (count_of k b.alive) refl
    where
      by : (j : ℕ) → count_of k b.alive ≡ j → is_alive_at u k ≡ is_alive_at b k
      by zero is = ap is_alive (node_else k is)
      by (suc j) is = ap is_alive (node_so k (omega (arith, is)))

-- ---- locks

itself : (n : Node) (life : ℕ) → is_requester (Alone (record { role = role.DistAc; node = n; life = life }))
    (Alone (record { role = role.DistAc; node = n; life = life })) ≡ true
itself n life = (λ i. eq-eqb n.0 n.0 refl i && eq-eqb life life refl i)

-- nobody else has the lock of the node
pub own_is_free : (b : SystemView) (far : Node → Far) (m : Node) (rows : List Held) → All (IsHeld b far) rows
    → is_free (Alone (record { role = role.DistAc; node = m; life = (node_at b m).life })) (m ∷ []) rows ≡ true
own_is_free b far m rows all = ap not (none rows all)
  where
    p : Process
    p = record { role = role.DistAc; node = m; life = (node_at b m).life }

    one : (x : Held) → IsHeld b far x → is_others (Alone p) (m ∷ []) x ≡ false
    one x is = ap (is_others (Alone p) (m ∷ [])) is.is ∙ by (cases_eq is.node.0 m.0)
      where
        by : (is.node.0 ≡ m.0) ⊎ (is.node.0 ≢ m.0) → is_others (Alone p) (m ∷ []) (the_lock is.node (node_at b is.node).life) ≡ false
        by (inl same) =
            ap (λ (n : Node). is_others (Alone p) (m ∷ []) (the_lock n (node_at b n).life)) (same_node is.node m same)
            ∙ ap (λ (c : Bool). (m.0 == m.0 || false) && not c) (itself m (node_at b m).life)
            ∙ and-false (m.0 == m.0 || false)
        by (inr other) = ap (λ (c : Bool). (c || false) && not
            (is_requester (Alone (record { role = role.DistAc; node = is.node; life = (node_at b is.node).life })) (Alone p)))
            (ne_eqb is.node.0 m.0 other)

    none : (l : List Held) → All (IsHeld b far) l → list_any (is_others (Alone p) (m ∷ [])) l ≡ false
    none [] all = refl
    none (x ∷ l) all =
        ap (λ (c : Bool). c || list_any (is_others (Alone p) (m ∷ [])) l) (one x (All-head (IsHeld b far) x l all))
        ∙ none l (All-tail (IsHeld b far) x l all)

-- it waits, and has it
pub held_more : (b : SystemView) (far : Node → Far) (m : Node) (next : Far) (rows : List Held) → 1 ≤ count_of m b.alive
    → is_standing next.how ≡ true → All (IsHeld b far) rows → All (IsHeld b (changed m far next))
    (rows ++ the_lock m (node_at b m).life ∷ [])
held_more b far m next rows alive waits all =
    All-append (IsHeld b (changed m far next)) rows (the_lock m (node_at b m).life ∷ [])
    (All-weaker (IsHeld b far) (IsHeld b (changed m far next)) keep rows all)
    (All-cons (IsHeld b (changed m far next)) (the_lock m (node_at b m).life) [] (record {
      node = m;
      alive = alive;
      standing = ap (λ (x : Far). is_standing x.how) (changed_here m far next m refl) ∙ waits;
      is = refl;
    }) (All-nil (IsHeld b (changed m far next))))
  where
    keep : (x : Held) → IsHeld b far x → IsHeld b (changed m far next) x
    keep x is = record { node = is.node; alive = is.alive; standing = by (cases_eq is.node.0 m.0); is = is.is }
      where
        by : (is.node.0 ≡ m.0) ⊎ (is.node.0 ≢ m.0) → is_standing (changed m far next is.node).how ≡ true
        by (inl same) = ap (λ (y : Far). is_standing y.how) (changed_here m far next is.node same) ∙ waits
        by (inr other) = ap (λ (y : Far). is_standing y.how) (changed_other m far next is.node other) ∙ is.standing

-- it has it no more
freed_one : (b : SystemView) (far : Node → Far) (m : Node) (next : Far) (x : Held) (rows : List Held)
    → (x ≡ the_lock m (node_at b m).life) ⊎ IsHeld b far x
    → All (IsHeld b (changed m far next))
    (freed (Alone (record { role = role.DistAc; node = m; life = (node_at b m).life }))
    (record { role = role.DistAc; node = m; life = (node_at b m).life }) rows)
    → All (IsHeld b (changed m far next))
    (freed (Alone (record { role = role.DistAc; node = m; life = (node_at b m).life }))
    (record { role = role.DistAc; node = m; life = (node_at b m).life }) (x ∷ rows))
freed_one b far m next x rows kind rest = by kind
  where
    p : Process
    p = record { role = role.DistAc; node = m; life = (node_at b m).life }

    keeps : Held → Bool
    keeps h = not (is_requester h.requester (Alone p) && is_process h.owner p)

    own_gone : (y : Held) → y ≡ the_lock m (node_at b m).life
        → All (IsHeld b (changed m far next)) (cond (keeps y) (y ∷ freed (Alone p) p rows) (freed (Alone p) p rows))
    own_gone y is =
        subst (λ (c : Bool). All (IsHeld b (changed m far next)) (cond c (y ∷ freed (Alone p) p rows) (freed (Alone p) p rows)))
        (sym (ap keeps is ∙ ap not (λ i. itself m (node_at b m).life i && itself m (node_at b m).life i))) rest

    stays : (c : Bool) → IsHeld b (changed m far next) x → All (IsHeld b (changed m far next))
        (cond c (x ∷ freed (Alone p) p rows) (freed (Alone p) p rows))
    stays true is = All-cons (IsHeld b (changed m far next)) x (freed (Alone p) p rows) is rest
    stays false is = rest

    by : (x ≡ the_lock m (node_at b m).life) ⊎ IsHeld b far x
        → All (IsHeld b (changed m far next)) (cond (keeps x) (x ∷ freed (Alone p) p rows) (freed (Alone p) p rows))
    by (inl own) = own_gone x own
    by (inr is) = at (cases_eq is.node.0 m.0)
      where
        at : (is.node.0 ≡ m.0) ⊎ (is.node.0 ≢ m.0) → All (IsHeld b (changed m far next))
            (cond (keeps x) (x ∷ freed (Alone p) p rows) (freed (Alone p) p rows))
        at (inl same) = own_gone x (is.is ∙ ap (λ (n : Node). the_lock n (node_at b n).life) (same_node is.node m same))
        at (inr other) = stays (keeps x) (record {
          node = is.node;
          alive = is.alive;
          standing = ap (λ (y : Far). is_standing y.how) (changed_other m far next is.node other) ∙ is.standing;
          is = is.is;
        })

pub held_then : (b : SystemView) (far : Node → Far) (m : Node) (next : Far) (rows : List Held)
    → All (λ (x : Held). (x ≡ the_lock m (node_at b m).life) ⊎ IsHeld b far x) rows
    → All (IsHeld b (changed m far next))
    (freed (Alone (record { role = role.DistAc; node = m; life = (node_at b m).life }))
    (record { role = role.DistAc; node = m; life = (node_at b m).life }) rows)
held_then b far m next [] all = All-nil (IsHeld b (changed m far next))
held_then b far m next (x ∷ rows) all =
    freed_one b far m next x rows (All-head (λ (y : Held). (y ≡ the_lock m (node_at b m).life) ⊎ IsHeld b far y) x rows all)
    (held_then b far m next rows (All-tail (λ (y : Held). (y ≡ the_lock m (node_at b m).life) ⊎ IsHeld b far y) x rows all))

-- ---- how often it was asked for, and told of

-- what isn't over was not asked for
pub unasked : (b : SystemView) (m : Node) (at : App → Node) (a : App) (done : List (App × Restart)) → has_app a (map app_of done) ≡ false
    → tally a (dists b at m done) ≡ 0
unasked b m at a done new =
    let none : tally a (map app_of done) ≡ 0 = none_tallied a (map app_of done) new in
    let less : tally a (dists b at m done) ≤ tally a (map app_of done) = passing_few (is_dist b at m) a (map app_of done) in
    omega (arith, none, less)

module _ (b : SystemView) (at : App → Node) (m : Node) (k : Far) (fine : Fine b at m k) where
  of_dists : (c : App) → tally c (dists b at m k.done) ≤ 1
  of_dists c =
      let less : tally c (dists b at m k.done) ≤ tally c (map app_of k.done) = passing_few (is_dist b at m) c (map app_of k.done) in
      let few : tally c (map app_of k.done) ≤ 1 = fine.single c in
      omega (arith, less, few)

  -- each was asked for once
  pub asked_once : (c : App) → tally c (asked_of b at m k) ≤ 1
  asked_once c = by k.how fine.order
    where
      one_more : (a : App) → has_app a (map app_of k.done) ≡ false → tally c (a ∷ dists b at m k.done) ≤ 1
      one_more a new = once_more a (dists b at m k.done) (tallied_none a (dists b at m k.done) (unasked b m at a k.done new)) of_dists c

      either : (a : App) (d : Bool) → has_app a (map app_of k.done) ≡ false
          → tally c (cond d (a ∷ dists b at m k.done) (dists b at m k.done)) ≤ 1
      either a true new = one_more a new
      either a false new = of_dists c

      by : (how : How) → InOrder b m (map app_of k.done) (current how k.rest) → tally c (asked_by b at m how k.done) ≤ 1
      by unbegun order = of_dists c
      by (asks a r) order = of_dists c
      by (requests a r) order = of_dists c
      by (stands a r) order = of_dists c
      by (starts a r) order = one_more a order.0
      by (learns a r) order = one_more a order.0
      by (reports a r) order = either a (is_dist b at m a) order.0
      by answered order = of_dists c
      by over order = of_dists c

  behind_less : (c : App) (d : Bool) (l : List App) → tally c l ≤ 1 → tally c (told_by b at m d l) ≤ tally c l
  behind_less c true [] few = omega arith
  behind_less c true (x ∷ l) few = by (x.0 == c.0)
    where
      by : (e : Bool) → tally c l ≤ more_if e (tally c l)
      by true = omega arith
      by false = omega arith
  behind_less c false l few = omega arith

  pub told_less : (c : App) → tally c (told_of b at m k) ≤ tally c (asked_of b at m k)
  told_less c = behind_less c _ (asked_of b at m k) (asked_once c)

  pub told_once : (c : App) → tally c (told_of b at m k) ≤ 1
  told_once c =
      let less : tally c (told_of b at m k) ≤ tally c (asked_of b at m k) = told_less c in
      let few : tally c (asked_of b at m k) ≤ 1 = asked_once c in
      omega (arith, less, few)

-- each start is told of once
pub told_of_once : {b : SystemView} (g : BootTogether b) {left : ℕ} {u : SystemView} (f : Stage b g.at left u) (n : Node) (c : App)
    → tally c (told_of b g.at n (f.far n)) ≤ 1
told_of_once {b} g f n c = by (count_of n b.alive) refl
  where
    none : (d : Bool) (l : List App) → l ≡ [] → tally c (told_by b g.at n d l) ≤ 1
    none d l is = subst (λ (x : List App). tally c (told_by b g.at n d x) ≤ 1) (sym is) (nought d)
      where
        nought : (d : Bool) → tally c (told_by b g.at n d []) ≤ 1
        nought true = omega arith
        nought false = omega arith

    by : (j : ℕ) → count_of n b.alive ≡ j → tally c (told_of b g.at n (f.far n)) ≤ 1
    by zero is = none _ (asked_of b g.at n (f.far n)) (f.unmoved n is)
    by (suc j) is = told_once b g.at n (f.far n) (f.fine n (omega (arith, is))) c

-- what has come of others wasn't asked for yet, and has come once
pub came_once : {b : SystemView} (g : BootTogether b) {left : ℕ} {u : SystemView} (f : Stage b g.at left u) (m : Node) (a : App)
    → 1 ≤ count_of m b.alive → 1 ≤ got f.tokens (f.far m) m a
    → ((g.at a).0 ≢ m.0) × (got f.tokens (f.far m) m a ≡ 1) × (tally a (asked_of b g.at m (f.far m)) ≡ 0)
came_once {b} g f m a alive some = by (cases_eq (g.at a).0 m.0)
  where
    by : ((g.at a).0 ≡ m.0) ⊎ ((g.at a).0 ≢ m.0)
        → ((g.at a).0 ≢ m.0) × (got f.tokens (f.far m) m a ≡ 1) × (tally a (asked_of b g.at m (f.far m)) ≡ 0)
    by (inl home) = absurd (let none : got f.tokens (f.far m) m a ≡ 0 = f.home m a alive home in omega (arith, none, some))
    by (inr other) =
        let all : got f.tokens (f.far m) m a + tally a (asked_of b g.at m (f.far m))
        ≡ tally a (told_of b g.at (g.at a) (f.far (g.at a))) = f.away m a alive other in
        let few : tally a (told_of b g.at (g.at a) (f.far (g.at a))) ≤ 1 = told_of_once g f (g.at a) a in (
          other,
          (let one : got f.tokens (f.far m) m a ≡ 1 = omega (arith, all, few, some) in one),
          (let none : tally a (asked_of b g.at m (f.far m)) ≡ 0 = omega (arith, all, few, some) in none),
        )
