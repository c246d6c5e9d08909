-- Two systems that are alike, but for what no node reads, go on so.
use Rattle.std.proofs.Common.{◌≡◌, ◌++◌, not, ℕ, Bool, true, false, List, [], ◌∷◌, map, filter, slice_get, Option, Some, None, refl, sym, ap, subst, ◌∙◌, inl, inr}
use Rattle.rh_history.specs.Draft.{DraftView}
use Rattle.rh_model.specs.declared.node.App.{App}
use Rattle.rh_model.specs.declared.node.Node.{Node}
use Rattle.rh_otp_model.specs.declared.output.Requester.TheVariants.{Sync, Alone}
use Rattle.rh_otp_model.specs.declared.process.Role.TheVariants as role
use Rattle.rh_otp_model.specs.declared.wait.Wait.{Wait}
use Rattle.rh_otp_net.specs.declared.order.Order.{Order}
use Rattle.rh_otp_net.specs.Locks.{is_free}
use Rattle.rh_otp_net.specs.Timers as timers
use Rattle.rh_otp_node.specs.Live.{LiveView, is_alive, begun}
use Rattle.rh_otp_system.specs.declared.calls.Ask.{Ask}
use Rattle.rh_otp_system.specs.declared.calls.Call.{Call}
use Rattle.rh_otp_system.specs.declared.calls.Stage.{Stage}
use Rattle.rh_otp_system.specs.declared.calls.Stage.TheVariants as stage
use Rattle.rh_otp_system.specs.declared.cell.Cell.{Cell}
use Rattle.rh_otp_system.specs.Calls.{process_of}
use Rattle.rh_otp_system.specs.Doing as doing
use Rattle.rh_otp_system.specs.Moves.{made, settled, is_settled_by, IsPossible, Delivers}
use Rattle.rh_otp_system.specs.Resting as resting
use Rattle.rh_otp_system.specs.State.{SystemView, live_at, node_at, own_at, wait_at, is_alive_at}
use Rattle.rh_otp_system.specs.Working.{lock_in}
use Rattle.rh_otp_laws.specs.Acting.{IsThere, IsReached}
use Rattle.rh_otp_laws.specs.Time.{message_of}
use Rattle.rh_otp_laws.proofs.Beginning.{begun_there}
use Rattle.rh_otp_laws.proofs.Time.{due_fire}
use Rattle.rh_otp_orders.specs.Confluence.{Moves, none, one_more}
use Rattle.rh_otp_orders.specs.Orders.{AreAlike}
use Rattle.rh_otp_orders.proofs.Changing.{live_of}
use Rattle.rh_otp_orders.proofs.Confluence.{alike_and_alike, reached_by, rest_is_alike}
use Rattle.rh_otp_orders.proofs.Moving.{IsAliveListed, go_alike, reached_order}
use Rattle.rh_otp_orders.proofs.Reaching.{alike_back, order_too}
use Rattle.rh_otp_commands.specs.Commands.{SettlesAlike}
use Rattle.rh_otp_commands.proofs.Alike.{alike_afresh}
use Rattle.rh_otp_commands.proofs.Beginning.{begin_alike}
use Rattle.rh_otp_commands.proofs.Booting.{waits}
use Rattle.rh_otp_commands.proofs.Firing.{same_next}
use Rattle.rh_otp_commands.proofs.Settling.{afresh, afresh_reached, Both, IsMadeToo, both_settle}
use Rattle.rh_otp_commands.proofs.Ticking.{GoesOn, over_alike, begin_ticking}
use Rattle.rh_otp_rehearsals.proofs.Asking.{asks}
use Rattle.rh_otp_rehearsals.proofs.Moving.{ends, comes_twins, moves_both, possible_too}
use Rattle.rh_otp_rehearsals.proofs.Twins.{SameCell, dressed, Twins, Between, between_of, twin_between, twin_node, twin_process, twins_by, twins_written, twins_begin}

-- ---- what a command begins with

begins_at : (n : Node) (s t : SystemView) → Twins s t → Twins (doing.begun_at n s) (doing.begun_at n t)
begins_at n s t g =
    let h : Twins (doing.begun_in n s) (doing.begun_in n t) =
    twins_written n _ _ s t
    (ap (λ (v : LiveView). begun s.cluster (own_at s n) n v) (twin_node s t n g)
    ∙ sym (ap (λ (u : SystemView). begun u.cluster (own_at u n) n (node_at t n)) g.is)) g in
    twins_by (between_of (doing.begun_at n s)) (between_of (doing.begun_at n t)) (doing.begun_in n s) (doing.begun_in n t)
    (λ i. record (twin_between s t g i) { alive = (twin_between s t g i).alive ++ n ∷ [] }) h

boots : (n : Node) (s t : SystemView) → IsThere n s → Twins s t → Twins (doing.booted n s) (doing.booted n t)
unfolding doing.booted
boots n s t there g =
    let more : Twins (doing.begun_at n s) (doing.begun_at n t) = begins_at n s t g in
    let alive : is_alive_at (doing.begun_at n s) n ≡ true = ap is_alive (begun_there s n there.0 there.1) in
    subst (λ (w : Wait). Twins (doing.booted n s) (doing.waited w n (doing.begun_at n t))) (sym (ap (λ (u : SystemView). wait_at u n) g.is))
    (comes_twins more (waits (wait_at s n) (twins_begin n false 0 (doing.begun_at n s) (doing.begun_at n t) more alive)))

fires : (due : ℕ) (s t : SystemView) → Twins s t → Twins (doing.fired_next due s) (doing.fired_next due t)
fires due s t g =
    subst (λ (x : SystemView). Twins x (doing.fired_next due t)) (sym (due_fire s due))
    (subst (Twins (fired_so s)) (sym (due_fire t due))
    (twins_by (between_of (fired_so s)) (between_of (fired_so t)) s t (sym (ap (λ (u : SystemView). between_of (fired_so u)) g.is)) g))
  where
    fired_so : SystemView → SystemView
    fired_so u = record u { clock = due; timers = timers.left u.timers; messages = u.messages ++ map message_of (timers.fired u.timers) }

-- ---- between commands

same_held_at : (o : Option (List Node)) (s t : SystemView) → Twins s t → resting.held_back_at o s ≡ resting.held_back_at o t
same_held_at None s t g = refl
same_held_at (Some nodes) s t g = ap (λ (x : Between). not (is_free Sync nodes x.locks)) (twin_between s t g)

same_held : (n : Node) (s t : SystemView) → Twins s t → resting.held_back n s ≡ resting.held_back n t
same_held n s t g =
    same_held_at (lock_in (node_at s n).dist) s t g ∙ ap (λ (v : LiveView). resting.held_back_at (lock_in v.dist) t) (twin_node s t n g)

same_call_held : (w : Stage) (call : Call) (s t : SystemView) → Twins s t
    → resting.call_held_back_in w call s ≡ resting.call_held_back_in w call t
same_call_held (stage.Lock nodes) call s t g =
    ap (λ (x : Between). not (is_free (Alone (process_of call)) nodes x.locks)) (twin_between s t g)
same_call_held w call s t g = refl

rests : (s t : SystemView) → Twins s t → Twins (resting.rested s) (resting.rested t)
unfolding resting.rested
rests s t g =
    twins_by (between_of (resting.rested s)) (between_of (resting.rested t)) s t
    (λ i. record (twin_between s t g i) {
      asleep =
          map (λ n. twin_process s t n role.DistAc g i) (filter (λ n. same_held n s t g i) (twin_between s t g i).alive)
          ++ map process_of (filter (λ call. same_call_held call.stage call s t g i) (twin_between s t g i).calls);
    }) g

forgets : (s t : SystemView) → Twins s t → Twins (resting.forgotten s) (resting.forgotten t)
unfolding resting.forgotten
forgets s t g =
    twins_by (between_of (resting.forgotten s)) (between_of (resting.forgotten t)) s t
    (sym (ap (λ (u : SystemView). between_of (resting.forgotten u)) g.is)) g

writes_clock : (clock : SystemView → ℕ) (ticking : Bool) (s t : SystemView) → clock s ≡ clock t → Twins s t
    → Twins (record s { clock = clock s; is_ticking = ticking }) (record t { clock = clock t; is_ticking = ticking })
writes_clock clock ticking s t same g =
    twins_by (between_of (record s { clock = clock s; is_ticking = ticking })) (between_of
    (record t { clock = clock t; is_ticking = ticking })) s t
    (λ i. record (twin_between s t g i) { clock = same i; is_ticking = ticking }) g

counts_afresh : (s t : SystemView) → Twins s t → Twins (afresh s) (afresh t)
counts_afresh s t g =
    twins_by (between_of (afresh s)) (between_of (afresh t)) s t (sym (ap (λ (u : SystemView). between_of (afresh u)) g.is)) g

same_back : (c d : Option Cell) → SameCell c d → SameCell d c
same_back c d (inl same) = inl (sym same)
same_back c d (inr both) = inr (both.1, both.0, both.3, both.2)

pub twins_back : (s t : SystemView) → Twins s t → Twins t s
twins_back s t g =
    record { cells = λ k. same_back _ _ (g.cells k); is = λ i. dressed s.nodes s.told (sym g.is i) }

-- ---- alike, but for what no node reads

same_live : (s x : SystemView) (n : Node) → AreAlike s x → live_at x n ≡ live_at s n
same_live s x n same = sym (ap (λ (nodes : DraftView Cell). live_of (slice_get nodes.cells n.0)) same.nodes)

abbrev pub Resembles : SystemView → SystemView → Type 0
Resembles s t = (x : SystemView) × AreAlike s x × Twins x t

pub resembles_boots : (n : Node) (s t : SystemView) → IsThere n s → Resembles s t → Resembles (doing.booted n s) (doing.booted n t)
resembles_boots n s t there (x, same, twins) =
    let there_too : IsThere n x = (there.0, same_live s x n same ∙ there.1) in
    (doing.booted n x, (begin_alike s x same).boots n there, boots n x t there_too twins)

pub resembles_crashes : (n : Node) (s t : SystemView) → Resembles s t → Resembles (resting.crashed n s) (resting.crashed n t)
resembles_crashes n s t (x, same, twins) = (resting.crashed n x, (begin_alike s x same).crashes n, ends n x t twins)

pub resembles_calls : (asked : Ask) (n : Node) (a : App) (s t : SystemView) → Resembles s t
    → Resembles (doing.called asked n a s) (doing.called asked n a t)
resembles_calls asked n a s t (x, same, twins) =
    (doing.called asked n a x, (begin_alike s x same).calls asked n a, asks asked n a x t twins)

resembles_fires : (due : ℕ) (s t : SystemView) → Resembles s t → Resembles (doing.fired_next due s) (doing.fired_next due t)
resembles_fires due s t (x, same, twins) = (doing.fired_next due x, (begin_alike s x same).fires due, fires due x t twins)

pub resembles_rests : (s t : SystemView) → Resembles s t → Resembles (resting.rested s) (resting.rested t)
resembles_rests s t (x, same, twins) = (resting.rested x, (begin_alike s x same).rests, rests x t twins)

pub resembles_forgets : (s t : SystemView) → Resembles s t → Resembles (resting.forgotten s) (resting.forgotten t)
resembles_forgets s t (x, same, twins) = (resting.forgotten x, (begin_alike s x same).forgets, forgets x t twins)

-- ---- what the other makes can be made of the one

made_too : (n : ℕ) (s t t' : SystemView) → Resembles s t → IsReached s → Moves n t t' → IsMadeToo Resembles n s t'
made_too _ s _ _ (x, same, twins) reached (none t) = record {
  end = s;
  run = none s;
  reached = reached;
  same = (x, same, twins);
  rest = λ at. rest_is_alike x s (alike_back s x same) reached (λ next possible. at next (possible_too next x t twins possible));
}
made_too _ s _ _ (x, same, twins) reached (one_more n t u' t' (next, possible, is) rest) =
    let listed : IsAliveListed x = order_too s x same (reached_order s reached) in
    let possible_x : IsPossible x next = possible_too next t x (twins_back x t twins) possible in
    let on : (u : SystemView) × Delivers s u × AreAlike (made next x) u =
    go_alike x s (made next x) (alike_back s x same) listed (next, possible_x, refl) in
    let both : Twins (made next x) u' = subst (Twins (made next x)) (sym is) (moves_both next x t twins listed possible_x) in
    let more : IsMadeToo Resembles n on.0 t' =
    made_too n on.0 u' t' (made next x, alike_back (made next x) on.0 on.2, both) (reached_by s on.0 on.1 reached) rest in
    record {
      end = more.end;
      run = one_more n s on.0 more.end on.1 more.run;
      reached = more.reached;
      same = more.same;
      rest = more.rest;
    }

joins : (u v w : SystemView) → AreAlike u v → Resembles v w → Resembles u w
joins u v w alike (x, same, twins) = (x, alike_and_alike u v x alike same, twins)

pub settle_both : (s t : SystemView) (most : ℕ) (one other : Order) → IsReached s → Resembles s t → SettlesAlike s
    → Both Resembles (is_settled_by most one s) (is_settled_by most other t) (settled most one s) (settled most other t)
settle_both s t most one other reached (x, same, twins) every =
    both_settle Resembles joins s t most one other every
    (λ n t' run. made_too n (afresh s) (afresh t) t' (afresh x, alike_afresh s x same, counts_afresh x t twins)
    (afresh_reached s reached) run)

pub resembles_goes_on : GoesOn Resembles
resembles_goes_on = record {
  settles = settle_both;
  next = λ s t g. same_next s.timers g.0.timers g.1.timers ∙ ap (λ (y : Between). timers.next_due y.timers) (twin_between g.0 t g.2);
  fires = resembles_fires;
  begins = λ s t g. (
    record g.0 { is_ticking = true },
    begin_ticking s g.0 g.1,
    writes_clock (λ (u : SystemView). u.clock) true g.0 t (ap (λ (y : Between). y.clock) (twin_between g.0 t g.2)) g.2,
  );
  over = λ end s t g. (
    record g.0 { clock = end; is_ticking = false },
    over_alike end s g.0 g.1,
    writes_clock (λ (u : SystemView). end) false g.0 t refl g.2,
  );
}
