-- Every order leads to one state, in which each script has come to its end.
use Rattle.std.proofs.Common.{◌≡◌, ◌≤◌, ◌<◌, ◌⊎◌, ◌+◌, ◌==◌, ◌++◌, ℕ, zero, suc, Bool, true, false, cond, nat_lt, is_some, List, [], ◌∷◌, map, filter, length, Option, Some, unwrap_or, refl, sym, ap, subst, ◌∙◌, inl, inr, append_assoc, arith}
use Rattle.std.specs.Option.{option_map}
use Rattle.std.specs.Prelude.{All, find}
use Rattle.std.proofs.lemmas.Bool.{cases_Bool, eq-eqb, eqb-true}
use Rattle.std.proofs.lemmas.Option.{same_Some}
use Rattle.std.proofs.lemmas.List.{append-nil}
use Rattle.std.proofs.lemmas.List.Elements.{All-nil, All-cons, All-weaker}
use Rattle.rh_model.specs.ClusterView.{boot_of, node_count}
use Rattle.rh_model.specs.declared.node.App.{App}
use Rattle.rh_model.specs.declared.node.Node.{Node}
use Rattle.rh_model.specs.declared.settings.Restart.{Restart}
use Rattle.rh_otp_model.specs.declared.output.Envelope.{Envelope}
use Rattle.rh_otp_model.specs.declared.message.Message.{Message}
use Rattle.rh_otp_model.specs.declared.output.Event.{Event}
use Rattle.rh_otp_model.specs.declared.output.Event.TheVariants as event
use Rattle.rh_otp_model.specs.declared.process.StartType.TheVariants.{Normal}
use Rattle.rh_otp_model.specs.Rows.{is_of, keyfind, has_row}
use Rattle.rh_otp_dist.specs.declared.state.Stand.TheVariants as stand
use Rattle.rh_otp_dist.specs.State.{DistView, beginning}
use Rattle.rh_otp_dist.specs.Waiting.{takes}
use Rattle.rh_otp_node.specs.Live.{LiveView}
use Rattle.rh_otp_system.specs.declared.moves.Move.TheVariants as move
use Rattle.rh_otp_system.specs.declared.slow.Slow.{Slow}
use Rattle.rh_otp_system.specs.declared.slow.Slow.TheVariants as slow
use Rattle.rh_otp_system.specs.Moves.{Delivers, Reaches, here, behind_one, IsSettled, made}
use Rattle.rh_otp_system.specs.State.{SystemView, node_at}
use Rattle.rh_otp_orders.specs.Orders.{of_owner, node_told}
use Rattle.rh_otp_crashes.specs.Crashes.{IsUnoccupied}
use Rattle.rh_otp_joins.specs.Leading.{LeadsTo}
use Rattle.rh_otp_joins.proofs.Lists.{more_if, count_of}
use Rattle.rh_otp_gathers.proofs.Opening.{counts_so}
use Rattle.rh_otp_together.specs.Together.{BootTogether}
use Rattle.rh_otp_together.specs.Booted.{place_there, told_there, rows_of, HasBooted, HaveBooted, BootScriptsComeToOneState}
use Rattle.rh_otp_together.proofs.Apps.{same_app, tally}
use Rattle.rh_otp_together.proofs.Beginning.{first_stage, first_weight}
use Rattle.rh_otp_together.proofs.Ending.{last, far_so, ends_so, no_locks, end_alike}
use Rattle.rh_otp_together.proofs.Forms.{over, Far, live, Token, letter, onto, app_of, starts_here, place_for, dist_of, tale, tale_of}
use Rattle.rh_otp_together.proofs.Going.{length_onto}
use Rattle.rh_otp_together.proofs.Leading.{Further, moves_on, slow_so, messages_so}
use Rattle.rh_otp_together.proofs.Lives.{node_so, node_else}
use Rattle.rh_otp_together.proofs.Stages.{Stage}
use Rattle.rh_otp_together.proofs.Stuck.{none_left, tally_onto}

-- ---- a list that has started

map_onto : (d l : List (App × Restart)) → map app_of (onto d l) ≡ onto (map app_of d) (map app_of l)
map_onto [] l = refl
map_onto (x ∷ d) l = map_onto d (x ∷ l)

found_placed : {T : Type 0} (f : App → T) (a : App) (done : List (App × Restart)) → 1 ≤ tally a (map app_of done)
    → keyfind a (map (λ (row : App × Restart). (row.0, f row.0)) done) ≡ Some (f a)
found_placed f a [] some = absurd (omega (arith, some))
found_placed {T} f a (row ∷ done) some = by (cases_Bool (row.0.0 == a.0)) some (found_placed f a done)
  where
    rows : List (App × T)
    rows = map (λ (r : App × Restart). (r.0, f r.0)) done

    by : ((row.0.0 == a.0) ≡ true) ⊎ ((row.0.0 == a.0) ≡ false) → 1 ≤ more_if (row.0.0 == a.0) (tally a (map app_of done))
        → (1 ≤ tally a (map app_of done) → keyfind a (map (λ (r : App × Restart). (r.0, f r.0)) done) ≡ Some (f a))
        → keyfind a ((row.0, f row.0) ∷ map (λ (r : App × Restart). (r.0, f r.0)) done) ≡ Some (f a)
    by (inl is) some rest =
        ap (λ (c : Bool). option_map (λ (r : App × T). r.1) (cond c (Some (row.0, f row.0)) (find (is_of a) rows))) is
        ∙ ap (λ (b : App). Some (f b)) (same_app row.0 a (eqb-true row.0.0 a.0 is))
    by (inr other) some rest =
        let more : more_if (row.0.0 == a.0) (tally a (map app_of done)) ≡ tally a (map app_of done) =
        ap (λ (c : Bool). more_if c (tally a (map app_of done))) other in
        ap (λ (c : Bool). option_map (λ (r : App × T). r.1) (cond c (Some (row.0, f row.0)) (find (is_of a) rows))) other
        ∙ rest (omega (arith, some, more))

-- any row will do
row_placed : {T : Type 0} (f : App × Restart → T) (a : App) (done : List (App × Restart)) → 1 ≤ tally a (map app_of done)
    → has_row a (map (λ (row : App × Restart). (row.0, f row)) done) ≡ true
row_placed f a [] some = absurd (omega (arith, some))
row_placed {T} f a (row ∷ done) some = by (row.0.0 == a.0) some (row_placed f a done)
  where
    rows : List (App × T)
    rows = map (λ (r : App × Restart). (r.0, f r)) done

    by : (c : Bool) → 1 ≤ more_if c (tally a (map app_of done))
        → (1 ≤ tally a (map app_of done) → has_row a (map (λ (r : App × Restart). (r.0, f r)) done) ≡ true)
        → is_some (option_map (λ (r : App × T). r.1) (cond c (Some (row.0, f row)) (find (is_of a) rows))) ≡ true
    by true some rest = refl
    by false some rest = rest some

each_row : (l : List (App × Restart)) → All (λ (row : App × Restart). 1 ≤ tally row.0 (map app_of l)) l
each_row [] = All-nil (λ (row : App × Restart). 1 ≤ tally row.0 [])
each_row (x ∷ l) =
    All-cons (λ (row : App × Restart). 1 ≤ tally row.0 (x.0 ∷ map app_of l)) x l
    (subst (λ (c : Bool). 1 ≤ more_if c (tally x.0 (map app_of l))) (sym (eq-eqb x.0.0 x.0.0 refl)) (omega arith))
    (All-weaker (λ (row : App × Restart). 1 ≤ tally row.0 (map app_of l)) (λ (row : App × Restart). 1 ≤ tally row.0 (x.0 ∷ map app_of l))
    (λ row some. more (x.0.0 == row.0.0) (tally row.0 (map app_of l)) some) l (each_row l))
  where
    more : (c : Bool) (j : ℕ) → 1 ≤ j → 1 ≤ more_if c j
    more true j some = omega (arith, some)
    more false j some = some

-- ---- what was told of it

module _ (b : SystemView) (at : App → Node) (m : Node) where
  tale_onto : (d l : List (App × Restart)) → tale_of b at m (onto d l)
      ≡ tale_of b at m l ++ map (λ (row : App × Restart). event.Started row.0 m Normal)
      (filter (λ (row : App × Restart). starts_here b at m row.0) d)
  tale_onto [] l = sym (append-nil (tale_of b at m l))
  tale_onto (x ∷ d) l =
      tale_onto d (x ∷ l)
      ∙ append_assoc (tale_of b at m l) (cond (starts_here b at m x.0) (event.Started x.0 m Normal ∷ []) [])
      (map (λ (row : App × Restart). event.Started row.0 m Normal) more)
      ∙ ap (λ (es : List Event). tale_of b at m l ++ es) (by (starts_here b at m x.0))
    where
      more : List (App × Restart)
      more = filter (λ (row : App × Restart). starts_here b at m row.0) d

      by : (c : Bool) → cond c (event.Started x.0 m Normal ∷ []) [] ++ map (λ (row : App × Restart). event.Started row.0 m Normal) more
          ≡ map (λ (row : App × Restart). event.Started row.0 m Normal) (cond c (x ∷ more) more)
      by true = refl
      by false = refl

  told_all : tale b at m over (onto (boot_of b.cluster m) []) ≡ told_there b at m
  told_all =
      ap (λ (es : List Event). es ++ cond (nat_lt m.0 (node_count b.cluster)) (event.Booted m ∷ []) []) (tale_onto (boot_of b.cluster m) [])

module _ {b : SystemView} (g : BootTogether b) where
  -- ---- something moves

  one_moves : (left : ℕ) (u : SystemView) → Stage b g.at (suc left) u → (v : SystemView) × Delivers u v
  one_moves left u f = by_tokens f.tokens refl
    where
      by_waiting : f.tokens ≡ [] → (l : List Node) → f.waiting ≡ l → (v : SystemView) × Delivers u v
      by_waiting none [] is = absurd (let no_more : suc left ≡ 0 = none_left g f none is in omega (arith, no_more))
      by_waiting none (m ∷ l) is = (
        made (move.Slow 0) u,
        (
          move.Slow 0,
          (
            messages_so g f ∙ ap (map (letter b g.at)) none,
            subst (λ (x : List Slow). 0 < length x) (sym (slow_so g f ∙ ap (map slow.Boot) is)) (omega arith),
          ),
          refl,
        ),
      )

      by_tokens : (l : List Token) → f.tokens ≡ l → (v : SystemView) × Delivers u v
      by_tokens [] is = by_waiting is f.waiting refl
      by_tokens (t ∷ l) is = (
        made (move.Deliver 0) u,
        (
          move.Deliver 0,
          subst (λ (x : List Envelope). 0 < length x) (sym (messages_so g f ∙ ap (map (letter b g.at)) is)) (omega arith),
          refl,
        ),
      )

  one_less : (left : ℕ) (u v : SystemView) → Stage b g.at (suc left) u → Delivers u v → Stage b g.at left v
  one_less left u v f one =
      let on : Further b g.at (suc left) v = moves_on g (suc left) u v f one in
      let is : suc left ≡ suc on.rest = on.is in
      subst (λ (k : ℕ). Stage b g.at k v) (let same : on.rest ≡ left = omega (arith, is) in same) on.stage

  leads : (left : ℕ) (u t : SystemView) → Stage b g.at left u → Stage b g.at 0 t → LeadsTo left u t
  leads zero u t f end = end_alike g u t f end
  leads (suc left) u t f end = (one_moves left u f, λ v one. leads left v t (one_less left u v f one) end)

  ends : (left : ℕ) (u : SystemView) → Stage b g.at left u → (t : SystemView) × Reaches u t × Stage b g.at 0 t
  ends zero u f = (u, here u, f)
  ends (suc left) u f =
      let one : (v : SystemView) × Delivers u v = one_moves left u f in
      let rest : (t : SystemView) × Reaches one.0 t × Stage b g.at 0 t = ends left one.0 (one_less left u one.0 f one.1) in
      (rest.0, behind_one u one.0 rest.0 one.1 rest.1, rest.2)

  settled : (t : SystemView) → Stage b g.at 0 t → IsSettled t
  settled t f next possible =
      let on : Further b g.at 0 (made next t) = moves_on g 0 t (made next t) f (next, possible, refl) in
      let is : 0 ≡ suc on.rest = on.is in
      omega (arith, is)

  -- ---- what it comes to

  booted : (t : SystemView) → Stage b g.at 0 t → HaveBooted g.apps g.at b t
  booted t f = record {
    each = λ m some. at m (subst (λ (k : ℕ). 1 ≤ k) (sym (counts_so m b.alive)) some);
    messages = ap (λ (x : SystemView). x.messages) (ends_so g f);
    slow = ap (λ (x : SystemView). x.slow) (ends_so g f);
    locks = no_locks g f;
    others = λ m none. node_else g f m (counts_so m b.alive ∙ none);
    strangers = λ m none. f.strangers m (counts_so m b.alive ∙ none);
    nobody = f.nobodys;
    rest = ends_so g f;
  }
    where
      at : (m : Node) → 1 ≤ count_of m b.alive → HasBooted g.apps g.at m b t
      at m alive = record {
        place =
            ap (λ (v : LiveView). v.place) is
            ∙ (let many : length (onto boots []) ≡ length boots + 0 = length_onto boots [] in
            let same : length (onto boots []) + 1 ≡ length boots + 1 = omega (arith, many) in same);
        runs = All-weaker (λ (row : App × Restart). 1 ≤ tally row.0 (map app_of boots))
            (λ (row : App × Restart). keyfind row.0 (node_at t m).controller.running ≡ Some (place_there b g.at m row.0))
            (λ row some.
            ap (λ (v : LiveView). keyfind row.0 v.controller.running) is
            ∙ found_placed (place_for b g.at m) row.0 (onto boots []) (still row.0 some)) boots (each_row boots);
        idle = λ d has.
            subst (λ (e : DistView). (e.stand ≡ stand.Idle) × (e.mail ≡ [])
            × (e.remote_started ≡ rows_of b m g.at g.apps))
            (same_Some (dist_of b g.at m (last g m)) d (sym (ap (λ (v : LiveView). v.dist) is) ∙ has)) (refl, refl, refl);
        started = All-weaker (λ (row : App × Restart). 1 ≤ tally row.0 (map app_of boots))
            (λ (row : App × Restart). has_row row.0 (node_at t m).controller.started ≡ true)
            (λ row some.
            ap (λ (v : LiveView). has_row row.0 v.controller.started) is
            ∙ row_placed (λ (r : App × Restart). Some r.1) row.0 (onto boots []) (still row.0 some)) boots (each_row boots);
        unoccupied = λ d e had has none.
            subst IsUnoccupied (same_Some (dist_of b g.at m (last g m)) e (sym (ap (λ (v : LiveView). v.dist) is) ∙ has)) (record {
              stand = inl refl;
              mail = All-nil (λ (x : Message). takes stand.Idle x ≡ false);
              permits = ap (λ (o : Option DistView). (unwrap_or o (beginning 0 0 m [])).p_reqs) had ∙ none;
              parked = refl;
            });
        rest = subst (λ (v : LiveView). v ≡ record (node_at b m) {
          place = v.place;
          controller = v.controller;
          dist = v.dist;
          kinds = v.kinds;
        }) (sym is) refl;
        told = f.events m alive
            ∙ ap (λ (x : Far). of_owner node_told (Some m) b.events ++ tale b g.at m x.how x.done) (far_so g f m alive)
            ∙ ap (λ (es : List Event). of_owner node_told (Some m) b.events ++ es) (told_all b g.at m);
      }
        where
          boots : List (App × Restart)
          boots = boot_of b.cluster m

          is : node_at t m ≡ live b g.at m (last g m)
          is = node_so g f m alive ∙ ap (live b g.at m) (far_so g f m alive)

          still : (a : App) → 1 ≤ tally a (map app_of boots) → 1 ≤ tally a (map app_of (onto boots []))
          still a some =
              let turned : tally a (map app_of (onto boots [])) ≡ tally a (map app_of boots) + 0 =
              ap (tally a) (map_onto boots []) ∙ tally_onto a (map app_of boots) [] in
              omega (arith, some, turned)

pub come_to_one : BootScriptsComeToOneState
come_to_one s g =
    let end : (t : SystemView) × Reaches s t × Stage s g.at 0 t = ends g (first_weight g) s (first_stage g) in (
      first_weight g,
      end.0,
      leads g (first_weight g) s end.0 (first_stage g) end.2,
      end.1,
      settled g end.0 end.2,
      booted g end.0 end.2,
    )
