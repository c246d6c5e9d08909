-- Starts of a distributed application that runs nowhere, at the best node, are answered alike, and both are at rest again.
use Rattle.std.proofs.Common.{◌≡◌, ◌≢◌, ◌<◌, ◌+◌, ◌*◌, ◌-◌, ◌^◌, ◌&&◌, ◌||◌, ℕ, Bool, true, false, not, cond, nat_lt, find, List, [], ◌∷◌, length, Some, None, refl, sym, ap, subst, ◌∙◌, inl, inr, arith}
use Rattle.std.specs.List.{list_all}
use Rattle.std.specs.Prelude.{All}
use Rattle.std.proofs.lemmas.Bool.{and_left, and_parts, false≢true, lt-ltb}
use Rattle.std.proofs.lemmas.List.{length-set}
use Rattle.std.proofs.lemmas.List.Elements.{All-nil, All-cons, All-weaker}
use Rattle.std.proofs.lemmas.Option.{same_Some}
use Rattle.rh_model.specs.ClusterView.{node_count, deps_of}
use Rattle.rh_model.specs.declared.node.App.{App}
use Rattle.rh_model.specs.declared.node.Node.{Node}
use Rattle.rh_model.specs.declared.settings.Dep.{Dep}
use Rattle.rh_model.specs.declared.settings.Restart.{Restart}
use Rattle.rh_rules.specs.declared.event.Event.TheVariants as event
use Rattle.rh_rules.specs.declared.notice.Notice.{Notice}
use Rattle.rh_rules.specs.declared.notice.Notice.TheVariants as notice
use Rattle.rh_rules.specs.declared.refusal.Refusal.TheVariants.{NotListed, AlreadyStarted}
use Rattle.rh_rules.specs.Placing.{dep_runs, deps_run, missing_dep}
use Rattle.rh_rules.specs.Refusals.{refused, dep_tests, first_that_applies}
use Rattle.rh_state.specs.declared.status.Kind.TheVariants as kind
use Rattle.rh_state.specs.StateView.{StateView, mode_of}
use Rattle.rh_trace.proofs.NextMoves.{up_within}
use Rattle.rh_calls.specs.declared.call.Call.TheVariants as call
use Rattle.rh_calls.specs.declared.call.Reply.TheVariants as reply
use Rattle.rh_trail.specs.Lone.{served}
use Rattle.rh_otp_sim.specs.Calls.{made_by}
use Rattle.rh_trail.specs.SimView.{SimView, state_of}
use Rattle.rh_otp_controller.specs.Calls.{is_here}
use Rattle.rh_otp_controller.specs.State.{ControllerView}
use Rattle.rh_otp_model.specs.declared.message.Message.{Message}
use Rattle.rh_otp_model.specs.declared.output.Envelope.{Envelope}
use Rattle.rh_otp_model.specs.declared.output.Event.TheVariants as seen
use Rattle.rh_otp_model.specs.declared.process.StartType.TheVariants.{Normal}
use Rattle.rh_otp_model.specs.Rows.{keyfind}
use Rattle.rh_otp_dist.specs.declared.state.Stand.TheVariants as stand
use Rattle.rh_otp_dist.specs.State.{DistView, is_among}
use Rattle.rh_otp_dist.specs.Waiting.{takes}
use Rattle.rh_otp_net.specs.declared.locks.Held.{Held}
use Rattle.rh_otp_net.specs.declared.order.Order.{Order}
use Rattle.rh_otp_net.specs.Order.{next_order}
use Rattle.rh_otp_node.specs.declared.node.Phase.{Phase}
use Rattle.rh_otp_node.specs.Live.{LiveView, is_down, is_ending}
use Rattle.rh_otp_sim.specs.declared.lines.Line.TheVariants as line
use Rattle.rh_otp_sim.specs.Acting.{acted, acted_at_once, is_acted, is_quiet_at_once, most_moves, called_if}
use Rattle.rh_otp_sim.specs.Refusing.{phase_in}
use Rattle.rh_otp_sim.specs.Sim.{LiveSimView, net_in}
use Rattle.rh_otp_sim.specs.Stepping.{happened}
use Rattle.rh_otp_system.specs.declared.calls.Ask.TheVariants as ask
use Rattle.rh_otp_system.specs.declared.calls.Call.{Call}
use Rattle.rh_otp_system.specs.declared.calls.Stage.TheVariants as stage
use Rattle.rh_otp_system.specs.declared.cell.Cell.TheVariants as cell
use Rattle.rh_otp_system.specs.Doing.{called}
use Rattle.rh_otp_system.specs.Moves.{IsQuiet, here, is_to_end, moved, settled, is_quiet_behind, is_settled_by}
use Rattle.rh_otp_system.specs.Resting.{forgotten, rested, open_of}
use Rattle.rh_otp_system.specs.State.{SystemView, node_at, is_alive_at}
use Rattle.rh_otp_system.proofs.Moving.{settles}
use Rattle.rh_otp_laws.specs.Acting.{IsReached, later, acts, calls, rests, takes_up}
use Rattle.rh_otp_laws.proofs.Commands.{commands_reached}
use Rattle.rh_otp_laws.proofs.Hanging.{settled_stays_so}
use Rattle.rh_otp_laws.proofs.Nodes.{as_it_was_or_written, node_written, same_of_all}
use Rattle.rh_otp_orders.specs.Orders.{is_call}
use Rattle.rh_otp_crashes.specs.Crashes.{IsUnoccupied}
use Rattle.rh_otp_stops.proofs.Stopping.{there_is}
use Rattle.rh_otp_locks.proofs.Locks.{none_at_rest, none_of_calls}
use Rattle.rh_otp_begins.proofs.Running.{IsNews, Running}
use Rattle.rh_agreement.specs.Telling.{GoTogether}
use Rattle.rh_agreement.specs.Laws.{IsAnsweredAlike, HasRoom}
use Rattle.rh_agreement.specs.Resting.{AreBothAtRest, AreAlwaysAtRest, held}
use Rattle.rh_agreement.proofs.Always.{GoesOn}
use Rattle.rh_agreement.proofs.Rest.{AreIdle, IsOver, idle_at_rest, nobody_there}
use Rattle.rh_agreement_calls.proofs.ByHand.{by_hand, not_refused}
use Rattle.rh_agreement_calls.proofs.CallAlike.{up_is_alive}
use Rattle.rh_agreement_calls.proofs.Controlling.{well_answered}
use Rattle.rh_agreement_calls.proofs.Moving.{done, at_first, request_of, with_one, called_so, one_moves, one_is_quiet}
use Rattle.rh_agreement_calls.proofs.StartTold.{happened_start, start_text}
use Rattle.rh_agreement_spread.specs.Starts.{CanBePlaced, CanBePlacedLive, StartsWhereItIsPlacedAreAnsweredAlike}
use Rattle.rh_agreement_spread.proofs.Alike.{Comes, well, comes_alike, goes_on}
use Rattle.rh_agreement_spread.proofs.Following.{owed}
use Rattle.rh_agreement_spread.proofs.Placed as manual
use Rattle.rh_agreement_spread.proofs.Running.{IsSaid, runs, answers, is_news, Follows, ends_not, follow_on, quiet_soon}
use Rattle.rh_agreement_spread.proofs.Speaking.{lives_in}
use Rattle.rh_agreement_spread.proofs.Starting as starting
use Rattle.rh_agreement_spread.proofs.Summing.{sum_of}

pub few_calls : (last : ℕ) → last < 4000000000 → last < 2 ^ 32 - 1
few_calls last few = omega (arith, few)

none_owed : (k : ℕ) → k ≡ 0 → k ≡ 1 → ⊥
none_owed k none one = omega (arith, none, one)

-- where all that an application needs runs, nothing is missing
pub none_missing : (s : StateView) (n : Node) (deps : List Dep) → list_all (dep_runs s n) deps ≡ true
    → find (λ (d : Dep). not (dep_runs s n d)) deps ≡ None
none_missing s n [] all = refl
none_missing s n (d ∷ deps) all =
    let parts = and_parts (dep_runs s n d) _ all in
    (λ i. cond (not (parts.0 i)) (Some d) (find (λ (x : Dep). not (dep_runs s n x)) deps)) ∙ none_missing s n deps parts.1

module _ (sim : SimView) (l : LiveSimView) (n : Node) (a : App) (restart : Restart) (together : GoTogether sim l) (room : HasRoom sim l)
    (at_rest : AreBothAtRest sim l) (can : CanBePlaced (state_of sim) n a) (live_can : CanBePlacedLive l n a) where
  abbrev s : StateView
  s = state_of sim

  -- ---- by the manual's rules

  within : n.0 < node_count s.cluster
  within = up_within s n at_rest.valid.sound.shaped.modes can.up

  nothing_missing : missing_dep s n a ≡ None
  unfolding missing_dep deps_run
  nothing_missing = none_missing s n (deps_of s.cluster a) can.needs

  start_fine : refused s (event.Start n a restart) ≡ None
  unfolding refused
  start_fine =
      by_hand s n a within can.app can.up _
      ∙ (λ i. cond (not (can.listed i)) (Some NotListed)
      (cond (can.off i) (Some AlreadyStarted) (first_that_applies (dep_tests (nothing_missing i)))))

  -- ---- on live nodes

  idle : AreIdle (held l)
  idle = idle_at_rest l at_rest.reached at_rest.rest

  alive : is_alive_at (held l) n ≡ true
  unfolding forgotten
  alive = up_is_alive (phase_in l n) (mode_of s n) (together.now.modes n within) can.up

  free_at : (d : DistView) → (node_at (held l) n).dist ≡ Some d → IsUnoccupied d
  free_at d has = idle.dists n d alive has

  nobody_locks : (held l).locks ≡ []
  nobody_locks = none_at_rest (held l) at_rest.reached at_rest.rest

  abbrev base : SystemView
  base = starting.base l n a restart alive live_can free_at nobody_locks

  abbrev c : Call
  c = starting.c l n a restart alive live_can free_at nobody_locks

  abbrev first : SystemView
  first = starting.first l n a restart alive live_can free_at nobody_locks

  abbrev new : LiveView
  new = starting.new l n a restart alive live_can free_at nobody_locks

  abbrev next : DistView
  next = starting.next l n a restart alive live_can free_at nobody_locks

  abbrev d : DistView
  d = starting.d l n a restart alive live_can free_at nobody_locks

  abbrev spoken : SystemView
  spoken = starting.spoken l n a restart alive live_can free_at nobody_locks

  abbrev kept : ControllerView
  kept = starting.kept l n a restart alive live_can free_at nobody_locks

  abbrev most : ℕ
  most = length d.known

  kept_stays : kept.is_ending ≡ false
  kept_stays = starting.stays l n a restart alive live_can free_at nobody_locks

  free : IsUnoccupied d
  free = starting.free l n a restart alive live_can free_at nobody_locks

  has_dist : (node_at (held l) n).dist ≡ Some d
  unfolding forgotten
  has_dist = (starting.chosen l n a restart alive live_can free_at nobody_locks).has

  new_there : node_at spoken n ≡ new
  new_there = node_written first n (node_at (held l) n) new (starting.there l n a restart alive live_can free_at nobody_locks)

  dist_so : (e : DistView) → (node_at spoken n).dist ≡ Some e → next ≡ e
  dist_so e has = same_Some next e (sym (ap (λ (v : LiveView). v.dist) new_there) ∙ has)

  next_free : IsUnoccupied next
  next_free = record {
    stand = inl refl;
    mail = All-nil (λ (m : Message). takes stand.Idle m ≡ false);
    permits = free.permits;
    parked = free.parked;
  }

  same_alive : (m : Node) → is_alive_at spoken m ≡ is_alive_at base m
  same_alive m = ap (λ (p : Phase). cond (is_down p) false true) (same_of_all (λ (v : LiveView). v.phase) first n m new refl)

  dists_then : (m : Node) (e : DistView) → is_alive_at spoken m ≡ true → (node_at spoken m).dist ≡ Some e → IsUnoccupied e
  dists_then m e up has = elim (as_it_was_or_written first n m new) [
    | inl was ↦ idle.dists m e (sym (same_alive m) ∙ up) (sym (ap (λ (v : LiveView). v.dist) was) ∙ has)
    | inr is ↦ subst IsUnoccupied (same_Some next e (sym (ap (λ (v : LiveView). v.dist) is.1) ∙ has)) next_free
  ]

  ends_then : (m : Node) → is_alive_at spoken m ≡ true → is_to_end m spoken ≡ false
  unfolding forgotten
  ends_then m up = elim (as_it_was_or_written first n m new) [
    | inl was ↦ ap (λ (v : LiveView). is_ending v && not v.is_stopped) was ∙ idle.ends m (sym (same_alive m) ∙ up)
    | inr is ↦ and_left (is_ending (node_at spoken m)) _ (ap is_ending is.1 ∙ kept_stays)
  ]

  no_locks : All (λ (h : Held). is_call h.owner.role ≡ false) spoken.locks
  no_locks = none_of_calls (held l) at_rest.reached at_rest.rest

  said : All (IsSaid (lives_in base) c) spoken.messages
  said =
      All-cons (IsSaid (lives_in base) c) (well_answered n (node_at (held l) n) (starting.caller l n a restart alive live_can free_at nobody_locks))
      (starting.run_message l n a restart alive live_can free_at nobody_locks ∷ []) answers
      (All-cons (IsSaid (lives_in base) c) (starting.run_message l n a restart alive live_can free_at nobody_locks) [] runs
      (All-nil (IsSaid (lives_in base) c)))

  still : Running (lives_in base) c None spoken
  still = record {
    still = record {
      messages = refl;
      slow = refl;
      dists = dists_then;
      ends = λ m up may. ends_then m up;
      later = λ soon. absurd (false≢true soon);
      listed = λ m among. same_alive m ∙ idle.listed m among;
      same_lives = λ m. same_of_all (λ (v : LiveView). v.life) first n m new refl;
      stage = stage.Controller;
      calls = refl;
      waits = λ call q. refl;
      life = refl;
      locks = no_locks;
    };
    kinds = All-weaker (IsSaid (lives_in base) c) (IsNews (lives_in base) c None) (λ e is. is_news e is) spoken.messages said;
    takeovers = λ e has. ap (λ (x : DistView). x.t_reqs) (sym (dist_so e has)) ∙ live_can.sees_all.takeovers d has_dist;
    sees = λ e has m among up.
        live_can.sees_all.sees d has_dist m (ap (λ (x : DistView). is_among m x.known) (dist_so e has) ∙ among) (sym (same_alive m) ∙ up);
  }

  nowhere : (m : Node) → m.0 ≢ n.0 → is_alive_at spoken m ≡ true → is_here (keyfind a (node_at spoken m).controller.running) ≡ false
  unfolding forgotten
  nowhere m other up = elim (as_it_was_or_written first n m new) [
    | inl was ↦ ap (λ (v : LiveView). is_here (keyfind a v.controller.running)) was
        ∙ live_can.nowhere m other (sym (same_alive m) ∙ up)
    | inr is ↦ absurd (other is.0)
  ]

  abbrev FollowsHere : SystemView → Type 0
  FollowsHere = Follows (lives_in base) c most base (seen.Started a n Normal ∷ []) kept alive kept_stays

  first_follows : FollowsHere spoken
  first_follows = record {
    still = still;
    said = said;
    few = λ e has.
        let same : length e.known ≡ most = ap (λ (x : DistView). length x.known) (sym (dist_so e has)) in
        omega (arith, same);
    cluster = refl;
    files = refl;
    soon = refl;
    clock = refl;
    count = length-set base.nodes.cells n.0 (cell.Node new);
    phases = λ k. same_of_all (λ (v : LiveView). v.phase) first n k new refl;
    node = ap (λ (v : LiveView). v.controller) new_there;
    nowhere = nowhere;
    awaits = inl (refl, refl, refl);
  }

  -- ---- what comes of it

  first_so : base ≡ at_first base
  unfolding forgotten
  first_so = λ i. record base { calls = at_rest.rest.calls i }

  begins_so : called_if (ask.Start restart) n a base ≡ with_one (request_of c) first
  unfolding forgotten
  begins_so =
      ap (λ (b : Bool). cond b (called (ask.Start restart) n a base) base)
      (lt-ltb base.last_call (2 ^ 32 - 1) (few_calls base.last_call room.calls))
      ∙ ap (called (ask.Start restart) n a) first_so
      ∙ called_so base (ask.Start restart) n a refl

  abbrev asked_message : Envelope
  asked_message = starting.asked_message l n a restart alive live_can free_at nobody_locks

  abbrev reply_message : Envelope
  reply_message = starting.reply_message l n a restart alive live_can free_at nobody_locks

  abbrev begun_message : Envelope
  begun_message = starting.begun_message l n a restart alive live_can free_at nobody_locks

  abbrev requested : SystemView
  requested = starting.requested l n a restart alive live_can free_at nobody_locks

  abbrev replied : SystemView
  replied = starting.replied l n a restart alive live_can free_at nobody_locks

  abbrev begun : SystemView
  begun = starting.begun l n a restart alive live_can free_at nobody_locks

  abbrev o1 : Order
  o1 = next_order l.order

  abbrev o2 : Order
  o2 = next_order o1

  abbrev o3 : Order
  o3 = next_order o2

  abbrev o4 : Order
  o4 = next_order o3

  abbrev over : SystemView
  over = settled 999996 o4 spoken

  moves_so : settled most_moves l.order (called_if (ask.Start restart) n a base) ≡ over
  moves_so =
      ap (λ (t : SystemView). moved most_moves l.order (record t { answers = [] })) begins_so
      ∙ one_moves (request_of c) first 999999 l.order
      ∙ ap (moved 999999 o1) (starting.asks_so l n a restart alive live_can free_at nobody_locks)
      ∙ one_moves asked_message requested 999998 o1
      ∙ ap (moved 999998 o2) (starting.replies_so l n a restart alive live_can free_at nobody_locks)
      ∙ one_moves reply_message replied 999997 o2
      ∙ ap (moved 999997 o3) (starting.begins_so l n a restart alive live_can free_at nobody_locks)
      ∙ one_moves begun_message begun 999996 o3
      ∙ ap (moved 999996 o4) (starting.ends_so l n a restart alive live_can free_at nobody_locks)

  few : 2 * most + 6 < most_moves
  few = (starting.chosen l n a restart alive live_can free_at nobody_locks).few

  quiet_so : is_quiet_behind 999996 o4 spoken ≡ true
  quiet_so =
      quiet_soon (lives_in base) c most base (seen.Started a n Normal ∷ []) kept alive kept_stays 999996 o4 spoken first_follows
      (omega (arith, few))

  quiet : is_settled_by most_moves l.order (called_if (ask.Start restart) n a base) ≡ true
  quiet =
      ap (λ (t : SystemView). is_quiet_behind most_moves l.order (record t { answers = [] })) begins_so
      ∙ one_is_quiet (request_of c) first 999999 l.order
      ∙ ap (is_quiet_behind 999999 o1) (starting.asks_so l n a restart alive live_can free_at nobody_locks)
      ∙ one_is_quiet asked_message requested 999998 o1
      ∙ ap (is_quiet_behind 999998 o2) (starting.replies_so l n a restart alive live_can free_at nobody_locks)
      ∙ one_is_quiet reply_message replied 999997 o2
      ∙ ap (is_quiet_behind 999997 o3) (starting.begins_so l n a restart alive live_can free_at nobody_locks)
      ∙ one_is_quiet begun_message begun 999996 o3
      ∙ ap (is_quiet_behind 999996 o4) (starting.ends_so l n a restart alive live_can free_at nobody_locks)
      ∙ quiet_so

  follows : FollowsHere over
  follows =
      follow_on (lives_in base) c most base (seen.Started a n Normal ∷ []) kept alive kept_stays spoken over (settles 999996 o4 spoken).0
      first_follows

  is_quiet : IsQuiet over
  is_quiet = (settled_stays_so over over ((settles 999996 o4 spoken).1 quiet_so) (here over)).0

  none_left : sum_of owed over.messages ≡ 0
  none_left = ap (sum_of owed) is_quiet.0

  over_so : (over.calls ≡ done c ∷ []) × (over.events ≡ seen.Started a n Normal ∷ seen.Answered c.number ∷ [])
  over_so = elim follows.awaits [
    | inl on ↦ absurd (none_owed (sum_of owed over.messages) none_left on.2)
    | inr is ↦ (is.0, is.1)
  ]

  -- ---- live nodes are at rest again

  base_reached : IsReached base
  unfolding forgotten
  base_reached =
      later (held l) base at_rest.reached (takes_up (held l) l.history.now (net_in l).told false (refl, refl) (λ m. inl refl))

  called_reached : (b : Bool) → IsReached (cond b (called (ask.Start restart) n a base) base)
  called_reached true = later base (called (ask.Start restart) n a base) base_reached (acts base _ (calls base (ask.Start restart) n a))
  called_reached false = base_reached

  reached : IsReached (rested over)
  reached =
      let start : SystemView = called_if (ask.Start restart) n a base in
      later over (rested over)
      (subst IsReached moves_so
      (commands_reached.settles_there most_moves l.order start (called_reached (nat_lt base.last_call (2 ^ 32 - 1)))))
      (rests over)

  alive_over : (m : Node) → is_alive_at over m ≡ is_alive_at base m
  alive_over m = ap (λ (p : Phase). cond (is_down p) false true) (follows.phases m)

  inside : node_count l.cluster < length base.nodes.cells
  unfolding forgotten
  inside = together.now.cells

  ends_over : (m : Node) → is_alive_at over m ≡ true → (is_ending (node_at over m) && not (node_at over m).is_stopped) ≡ false
  ends_over m up =
      sym (ap (λ (soon : Bool). is_ending (node_at over m) && (soon || not (node_at over m).is_stopped)) follows.soon)
      ∙ ends_not (lives_in base) c most base (seen.Started a n Normal ∷ []) kept alive kept_stays over follows m up

  is_over : IsOver l (rested over)
  unfolding rested forgotten
  is_over = record {
    inside = subst (λ (count : ℕ). node_count l.cluster < count) (sym follows.count) inside;
    idle = record {
      calls = ap open_of over_so.0;
      listed = follows.still.still.listed;
      dists = follows.still.still.dists;
      ends = ends_over;
    };
    reached = reached;
    is_quiet = is_quiet;
    cluster = follows.cluster;
    files = follows.files;
    nobody = λ m there. alive_over m ∙ nobody_there l at_rest.reached m there;
  }

  -- ---- so both answer alike

  runs_then : is_here (keyfind a (node_at over n).controller.running) ≡ true
  runs_then =
      ap (λ (x : ControllerView). is_here (keyfind a x.running)) follows.node
      ∙ starting.is_running l n a restart alive live_can free_at nobody_locks

  happens : happened (net_in l) (rested over) ≡ well (line.Started a n Normal ∷ [])
  unfolding forgotten rested
  happens =
      happened_start (net_in l) base (rested over) n a restart (node_at over n) refl (there_is over n (alive_over n
      ∙ alive)) (alive_over n ∙ alive)
      runs_then over_so.0 over_so.1

  abbrev notes : List Notice
  notes = notice.Started a n kind.Normal None ∷ []

  it_comes : Comes sim l (event.Start n a restart) notes (line.Started a n Normal ∷ [])
  unfolding acted acted_at_once is_acted is_quiet_at_once forgotten rested
  it_comes = record {
    fine = start_fine;
    live_fine = not_refused sim l (event.Start n a restart) together refl start_fine;
    then = manual.then s n a restart at_rest.valid within can;
    comes = manual.only_starts s n a restart at_rest.valid within can sim.pick;
    cluster = refl;
    time = refl;
    modes = refl;
    begun = refl;
    last = rested over;
    runs = ap rested moves_so;
    ends = quiet;
    over = is_over;
    clock = follows.clock;
    phases = λ k. follows.phases k;
    lives = λ k. follows.still.still.same_lives k;
    happens = happens;
    same_text = start_text l.cluster l n a refl;
  }

  abbrev Alike : Type 0
  Alike = IsAnsweredAlike (call.Step (event.Start n a restart)) sim l
      × GoTogether (served sim (call.Step (event.Start n a restart))).sim (made_by (call.Step (event.Start n a restart)) l)
      × AreBothAtRest (served sim (call.Step (event.Start n a restart))).sim (made_by (call.Step (event.Start n a restart)) l)
      × ((served sim (call.Step (event.Start n a restart))).reply ≡ reply.Done notes)

  start_alike : Alike
  start_alike = comes_alike sim l (event.Start n a restart) notes (line.Started a n Normal ∷ []) together room at_rest it_comes

  pub start_on : AreAlwaysAtRest sim l → GoesOn (call.Step (event.Start n a restart)) sim l
  start_on = goes_on sim l (event.Start n a restart) notes (line.Started a n Normal ∷ []) together room at_rest it_comes

pub starts_alike : StartsWhereItIsPlacedAreAnsweredAlike
starts_alike sim l n a restart together room at_rest can live_can = start_alike sim l n a restart together room at_rest can live_can
