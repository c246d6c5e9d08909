-- Takeovers by a call are answered alike where the application moves, and both are at rest again.
use Rattle.std.proofs.Common.{◌≡◌, ◌<◌, ◌&&◌, ◌||◌, ℕ, Bool, true, false, not, cond, [], ◌∷◌, length, Some, refl, sym, ap, subst, ◌∙◌, inl, inr, arith}
use Rattle.rh_model.specs.ClusterView.{node_count}
use Rattle.rh_model.specs.declared.node.App.{App}
use Rattle.rh_model.specs.declared.node.Node.{Node}
use Rattle.rh_model.specs.declared.settings.Restart.{Restart}
use Rattle.rh_rules.specs.declared.event.Event.{Event}
use Rattle.rh_rules.specs.declared.event.Event.TheVariants as event
use Rattle.rh_calls.specs.declared.call.Call.TheVariants as call
use Rattle.rh_calls.specs.declared.call.Reply.TheVariants as reply
use Rattle.rh_state.specs.StateView.{StateView, mode_of}
use Rattle.rh_trail.specs.Lone.{served}
use Rattle.rh_trail.specs.SimView.{SimView, state_of}
use Rattle.rh_otp_model.specs.declared.output.Envelope.{Envelope}
use Rattle.rh_otp_dist.specs.State.{DistView}
use Rattle.rh_otp_net.specs.declared.order.Order.{Order}
use Rattle.rh_otp_net.specs.Order.{next_order}
use Rattle.rh_otp_node.specs.declared.node.Phase.{Phase}
use Rattle.rh_otp_node.specs.Live.{is_down, is_ending}
use Rattle.rh_otp_sim.specs.Acting.{acted, acted_at_once, is_acted, is_quiet_at_once, most_moves, called_if}
use Rattle.rh_otp_sim.specs.Calls.{made_by}
use Rattle.rh_otp_sim.specs.Refusing.{phase_in}
use Rattle.rh_otp_sim.specs.Sim.{LiveSimView, net_in}
use Rattle.rh_otp_sim.specs.Stepping.{happened}
use Rattle.rh_otp_system.specs.declared.calls.Ask.TheVariants as ask
use Rattle.rh_otp_system.specs.declared.calls.Call.{Call}
use Rattle.rh_otp_system.specs.Moves.{IsQuiet, here, moved, settled, is_quiet_behind, is_settled_by}
use Rattle.rh_otp_system.specs.Resting.{forgotten, rested, open_of}
use Rattle.rh_otp_system.specs.State.{SystemView, node_at, is_alive_at}
use Rattle.rh_otp_system.proofs.Moving.{settles}
use Rattle.rh_otp_laws.specs.Acting.{IsReached}
use Rattle.rh_otp_laws.proofs.Hanging.{settled_stays_so}
use Rattle.rh_otp_crashes.specs.Crashes.{IsUnoccupied}
use Rattle.rh_otp_locks.proofs.Locks.{none_at_rest}
use Rattle.rh_otp_stops.proofs.Answering.{at_stage}
use Rattle.rh_agreement.specs.Telling.{GoTogether}
use Rattle.rh_agreement.specs.Laws.{IsAnsweredAlike, HasRoom}
use Rattle.rh_agreement.specs.Resting.{AreBothAtRest, AreAlwaysAtRest, held}
use Rattle.rh_agreement.proofs.Always.{GoesOn}
use Rattle.rh_agreement.proofs.Rest.{AreIdle, IsOver, idle_at_rest, nobody_there}
use Rattle.rh_agreement_calls.proofs.ByHand.{not_refused}
use Rattle.rh_agreement_calls.proofs.CallAlike.{up_is_alive}
use Rattle.rh_agreement_calls.proofs.Moving.{done, with_one, one_moves, one_is_quiet}
use Rattle.rh_agreement_spread.proofs.Alike.{Comes, well, comes_alike, goes_on}
use Rattle.rh_agreement_spread.proofs.Following.{owed}
use Rattle.rh_agreement_spread.proofs.Summing.{sum_of}
use Rattle.rh_agreement_takeovers.specs.Takeovers.{CanBeTakenOver, CanBeTakenOverLive, TakeoversAreAnsweredAlike}
use Rattle.rh_agreement_takeovers.proofs.Beginning as begins
use Rattle.rh_agreement_takeovers.proofs.Coming.{follow_on, quiet_soon, ends_not}
use Rattle.rh_agreement_takeovers.proofs.Following.{answers, Giver, Shown, Follows, Stops, told_at, learnt_at}
use Rattle.rh_agreement_takeovers.proofs.Following as on
use Rattle.rh_agreement_takeovers.proofs.Moved as manual
use Rattle.rh_agreement_takeovers.proofs.Spoken as behind
use Rattle.rh_agreement_takeovers.proofs.Told.{moved_lines, happened_so, moved_text}

module _ (sim : SimView) (l : LiveSimView) (n at : Node) (a : App) (restart : Restart) (together : GoTogether sim l)
    (room : HasRoom sim l) (at_rest : AreBothAtRest sim l) (can : CanBeTakenOver (state_of sim) n at a)
    (live_can : CanBeTakenOverLive l n at a) where
  abbrev s : StateView
  s = state_of sim

  abbrev e : Event
  e = event.Takeover n a restart

  within : n.0 < node_count s.cluster
  within = manual.within s n at a restart at_rest.valid can

  -- ---- where it begins

  idle : AreIdle (held l)
  idle = idle_at_rest l at_rest.reached at_rest.rest

  alive : is_alive_at (held l) n ≡ true
  unfolding forgotten
  alive = up_is_alive (phase_in l n) (mode_of s n) (together.now.modes n within) can.up

  nobody_locks : (held l).locks ≡ []
  nobody_locks = none_at_rest (held l) at_rest.reached at_rest.rest

  abbrev free_at : (d : DistView) → (node_at (held l) n).dist ≡ Some d → IsUnoccupied d
  free_at = behind.free_at l n at a restart idle nobody_locks alive can.other live_can

  abbrev base : SystemView
  base = begins.base l n at a restart alive live_can free_at nobody_locks

  abbrev lives : Node → ℕ
  lives = begins.lives l n at a restart alive live_can free_at nobody_locks

  abbrev c : Call
  c = begins.c l n at a restart alive live_can free_at nobody_locks

  abbrev first : SystemView
  first = begins.first l n at a restart alive live_can free_at nobody_locks

  abbrev spoken : SystemView
  spoken = begins.spoken l n at a restart alive live_can free_at nobody_locks

  abbrev giver : Giver base c at
  giver = behind.giver l n at a restart idle nobody_locks alive can.other live_can

  abbrev FollowsHere : SystemView → Type 0
  FollowsHere = Follows lives c at base alive giver

  -- ---- what comes of it

  abbrev question : Envelope
  question = begins.question l n at a restart alive live_can free_at nobody_locks

  begins_so : called_if (ask.Takeover restart) n a base ≡ with_one question first
  begins_so = begins.calls_so l n at a restart alive live_can free_at nobody_locks at_rest.rest.calls room.calls

  abbrev o1 : Order
  o1 = next_order l.order

  abbrev o2 : Order
  o2 = next_order o1

  abbrev o3 : Order
  o3 = next_order o2

  abbrev o4 : Order
  o4 = next_order o3

  abbrev o5 : Order
  o5 = next_order o4

  abbrev o6 : Order
  o6 = next_order o5

  abbrev last : SystemView
  last = settled 999994 o6 spoken

  abbrev named : Envelope
  named = begins.named l n at a restart alive live_can free_at nobody_locks

  abbrev naming : SystemView
  naming = begins.naming l n at a restart alive live_can free_at nobody_locks

  abbrev request : Envelope
  request = begins.request l n at a restart alive live_can free_at nobody_locks

  abbrev locked : SystemView
  locked = begins.locked l n at a restart alive live_can free_at nobody_locks

  abbrev order : Envelope
  order = begins.order l n at a restart alive live_can free_at nobody_locks

  abbrev ordered : SystemView
  ordered = begins.ordered l n at a restart alive live_can free_at nobody_locks

  abbrev report : Envelope
  report = begins.report l n at a restart alive live_can free_at nobody_locks

  abbrev begun : SystemView
  begun = begins.begun l n at a restart alive live_can free_at nobody_locks

  abbrev own_news : Envelope
  own_news = begins.news l n at a restart alive live_can free_at nobody_locks

  abbrev running : SystemView
  running = begins.running l n at a restart alive live_can free_at nobody_locks

  moves_so : settled most_moves l.order (called_if (ask.Takeover restart) n a base) ≡ last
  moves_so =
      ap (λ (t : SystemView). moved most_moves l.order (record t { answers = [] })) begins_so
      ∙ one_moves question first 999999 l.order
      ∙ ap (moved 999999 o1) (begins.names_so l n at a restart alive live_can free_at nobody_locks)
      ∙ one_moves named naming 999998 o1
      ∙ ap (moved 999998 o2) (begins.locks_so l n at a restart alive live_can free_at nobody_locks)
      ∙ one_moves request locked 999997 o2
      ∙ ap (moved 999997 o3) (begins.orders_so l n at a restart alive live_can free_at nobody_locks)
      ∙ one_moves order ordered 999996 o3
      ∙ ap (moved 999996 o4) (begins.starts_so l n at a restart alive live_can free_at nobody_locks)
      ∙ one_moves report begun 999995 o4
      ∙ ap (moved 999995 o5) (begins.reports_so l n at a restart alive live_can free_at nobody_locks)
      ∙ one_moves own_news running 999994 o5
      ∙ ap (moved 999994 o6) (begins.speaks_so l n at a restart alive live_can free_at nobody_locks)

  quiet_so : is_quiet_behind 999994 o6 spoken ≡ true
  quiet_so = quiet_soon lives c at base alive giver 999994 o6 spoken
      (behind.first_follows l n at a restart idle nobody_locks alive can.other live_can)
      (behind.costs l n at a restart idle nobody_locks alive can.other live_can)

  quiet : is_settled_by most_moves l.order (called_if (ask.Takeover restart) n a base) ≡ true
  quiet =
      ap (λ (t : SystemView). is_quiet_behind most_moves l.order (record t { answers = [] })) begins_so
      ∙ one_is_quiet question first 999999 l.order
      ∙ ap (is_quiet_behind 999999 o1) (begins.names_so l n at a restart alive live_can free_at nobody_locks)
      ∙ one_is_quiet named naming 999998 o1
      ∙ ap (is_quiet_behind 999998 o2) (begins.locks_so l n at a restart alive live_can free_at nobody_locks)
      ∙ one_is_quiet request locked 999997 o2
      ∙ ap (is_quiet_behind 999997 o3) (begins.orders_so l n at a restart alive live_can free_at nobody_locks)
      ∙ one_is_quiet order ordered 999996 o3
      ∙ ap (is_quiet_behind 999996 o4) (begins.starts_so l n at a restart alive live_can free_at nobody_locks)
      ∙ one_is_quiet report begun 999995 o4
      ∙ ap (is_quiet_behind 999995 o5) (begins.reports_so l n at a restart alive live_can free_at nobody_locks)
      ∙ one_is_quiet own_news running 999994 o5
      ∙ ap (is_quiet_behind 999994 o6) (begins.speaks_so l n at a restart alive live_can free_at nobody_locks)
      ∙ quiet_so

  follows : FollowsHere last
  follows = follow_on lives c at base alive giver spoken last (settles 999994 o6 spoken).0
      (behind.first_follows l n at a restart idle nobody_locks alive can.other live_can)

  is_quiet : IsQuiet last
  is_quiet = (settled_stays_so last last ((settles 999994 o6 spoken).1 quiet_so) (here last)).0

  none_left : (f : Envelope → ℕ) → sum_of f last.messages ≡ 0
  none_left f = ap (sum_of f) is_quiet.0

  -- the call was answered, and the application has stopped where it ran
  over_so : (last.calls ≡ done c ∷ []) × Shown c at true true last.events
  over_so = by follows.is_answered follows.has_stopped follows.calls follows.owes follows.shown follows.stops
    where
      none_owed : (k : ℕ) → k ≡ 0 → k ≡ 1 → ⊥
      none_owed k none one = omega (arith, none, one)

      none_some : (k : ℕ) → k ≡ 0 → 0 < k → ⊥
      none_some k none some = omega (arith, none, some)

      by : (answered stopped : Bool) → last.calls ≡ at_stage c (on.stage_of lives c at base alive giver answered) ∷ []
          → sum_of owed last.messages ≡ cond answered 0 1 → Shown c at answered stopped last.events
          → Stops lives c at base alive giver stopped last → (last.calls ≡ done c ∷ []) × Shown c at true true last.events
      by false stopped is owes shown stops = absurd (none_owed (sum_of owed last.messages) (none_left owed) owes)
      by true false is owes shown stops = elim stops.soon [
        | inl learnt ↦ absurd (none_some (sum_of (learnt_at at) last.messages) (none_left (learnt_at at)) learnt)
        | inr told ↦ absurd (none_some (sum_of (told_at at) last.messages) (none_left (told_at at)) told.0)
      ]
      by true true is owes shown stops = (is, shown)

  -- ---- live nodes are at rest again

  reached : IsReached (rested last)
  reached = begins.reached_so l n at a restart alive live_can free_at nobody_locks at_rest.reached last moves_so

  alive_over : (m : Node) → is_alive_at last m ≡ is_alive_at base m
  alive_over m = ap (λ (p : Phase). cond (is_down p) false true) (follows.phases m)

  inside : node_count l.cluster < length base.nodes.cells
  unfolding forgotten
  inside = together.now.cells

  ends_over : (m : Node) → is_alive_at last m ≡ true → (is_ending (node_at last m) && not (node_at last m).is_stopped) ≡ false
  ends_over m up =
      sym (ap (λ (soon : Bool). is_ending (node_at last m) && (soon || not (node_at last m).is_stopped)) follows.still.still.soon)
      ∙ ends_not lives c at base alive giver last follows m up

  is_over : IsOver l (rested last)
  unfolding rested forgotten
  is_over = record {
    inside = subst (λ (count : ℕ). node_count l.cluster < count) (sym follows.count) inside;
    idle = record {
      calls = ap open_of over_so.0;
      listed = follows.still.still.waits.listed;
      dists = follows.still.still.waits.dists;
      ends = ends_over;
    };
    reached = reached;
    is_quiet = is_quiet;
    cluster = follows.cluster;
    files = follows.files;
    nobody = λ m there. alive_over m ∙ nobody_there l at_rest.reached m there;
  }

  -- ---- so both answer alike

  happens : happened (net_in l) (rested last) ≡ well (moved_lines a n at)
  unfolding forgotten rested
  happens = happened_so (net_in l) (rested last) n at a c refl refl over_so.0 over_so.1

  it_comes : Comes sim l e (manual.notes s n at a restart at_rest.valid can) (moved_lines a n at)
  unfolding acted acted_at_once is_acted is_quiet_at_once forgotten rested
  it_comes = record {
    fine = manual.fine s n at a restart at_rest.valid can;
    live_fine = not_refused sim l e together refl (manual.fine s n at a restart at_rest.valid can);
    then = manual.then s n at a restart at_rest.valid can;
    comes = manual.only_moves s n at a restart at_rest.valid can sim.pick;
    cluster = refl;
    time = refl;
    modes = refl;
    begun = refl;
    last = rested last;
    runs = ap rested moves_so;
    ends = quiet;
    over = is_over;
    clock = follows.clock;
    phases = λ k. follows.phases k;
    lives = λ k. follows.still.still.waits.same_lives k;
    happens = happens;
    same_text = moved_text l.cluster l n at a refl;
  }

  abbrev Alike : Type 0
  Alike = IsAnsweredAlike (call.Step e) sim l × GoTogether (served sim (call.Step e)).sim (made_by (call.Step e) l)
      × AreBothAtRest (served sim (call.Step e)).sim (made_by (call.Step e) l)
      × ((served sim (call.Step e)).reply ≡ reply.Done (manual.notes s n at a restart at_rest.valid can))

  takeover_alike : Alike
  takeover_alike =
      comes_alike sim l e (manual.notes s n at a restart at_rest.valid can) (moved_lines a n at) together room at_rest it_comes

  pub takeover_on : AreAlwaysAtRest sim l → GoesOn (call.Step e) sim l
  takeover_on = goes_on sim l e (manual.notes s n at a restart at_rest.valid can) (moved_lines a n at) together room at_rest it_comes

pub takeovers_alike : TakeoversAreAnsweredAlike
takeovers_alike sim l n at a restart together room at_rest can live_can =
    takeover_alike sim l n at a restart together room at_rest can live_can
