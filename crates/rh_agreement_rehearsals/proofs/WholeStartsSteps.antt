-- A boot of a whole cold start that isn't the last one: it meets its own law, and leads to where the next one does.
use Rattle.std.proofs.Common.{◌≡◌, ◌≢◌, ◌<◌, ◌≤◌, ◌+◌, ◌*◌, ◌++◌, ◌==◌, ℕ, zero, suc, Bool, true, false, cond, not, nat_le, List, [], ◌∷◌, length, Some, None, refl, sym, ap, subst, ◌∙◌, inl, inr, arith}
use Rattle.std.proofs.lemmas.Bool.{cases_eq, lt-ltb, ltb-true}
use Rattle.std.proofs.lemmas.List.{length_push}
use Rattle.rh_model.specs.ClusterView.{ClusterView, IsWithin, node_count, sync_wait_of}
use Rattle.rh_model.specs.declared.limits.TheConstants.{MAX_NODES, FIRST_PROFILE_NODES}
use Rattle.rh_model.specs.declared.node.App.{App}
use Rattle.rh_model.specs.declared.node.Node.{Node}
use Rattle.rh_model.specs.declared.settings.SyncWait.TheVariants.{Unset}
use Rattle.rh_rules.specs.declared.event.Event.{Event}
use Rattle.rh_rules.specs.declared.event.Event.TheVariants as event
use Rattle.rh_rules.specs.declared.refusal.Refusal.TheVariants.{UnknownNode, AlreadyAlive, IncarnationLimit}
use Rattle.rh_rules.specs.NodesStart.{booted as manual_booted, is_ready}
use Rattle.rh_rules.specs.Refusals.{refused}
use Rattle.rh_rules.specs.Steps.{Outcome}
use Rattle.rh_calls.specs.declared.call.Call.TheVariants as call
use Rattle.rh_calls.specs.declared.call.Reply.TheVariants as reply
use Rattle.rh_refusals.proofs.Accepted.{CanBoot, accepted_boot}
use Rattle.rh_state.specs.declared.status.Mode.TheVariants as mode
use Rattle.rh_state.specs.declared.status.Standing.TheVariants.{Quiet}
use Rattle.rh_state.specs.StateView.{StateView, mode_of, standing_of}
use Rattle.rh_step.specs.Runs.{step}
use Rattle.rh_trail.specs.Lone.{Served, served, with_event}
use Rattle.rh_trail.specs.SimView.{SimView, state_of}
use Rattle.rh_trail.proofs.Histories.{state_last}
use Rattle.rh_otp_model.specs.declared.wait.OwnFile.{OwnFile}
use Rattle.rh_otp_net.specs.Links.{linked_with}
use Rattle.rh_otp_node.specs.Live.{LiveView, never_begun, is_down}
use Rattle.rh_otp_sim.specs.Acting.{most_moves}
use Rattle.rh_otp_sim.specs.Calls.{made_by}
use Rattle.rh_otp_sim.specs.Refusing.{node_in, refusal_of}
use Rattle.rh_otp_sim.specs.Sim.{LiveSimView, net_in}
use Rattle.rh_otp_system.specs.Resting.{forgotten}
use Rattle.rh_otp_system.specs.State.{is_alive_at}
use Rattle.rh_otp_laws.specs.Acting.{IsThere}
use Rattle.rh_otp_crashes.proofs.Crossing.{same_node}
use Rattle.rh_otp_waits.specs.Waits.{WaitsOn, is_listed}
use Rattle.rh_otp_waits.proofs.Together.{starts}
use Rattle.rh_otp_gathers.specs.Gathers.{times}
use Rattle.rh_otp_colds.specs.Colds.{HasBegun}
use Rattle.rh_otp_colds.proofs.Starting.{there_so, is_there_so, lists_other, dead_so, all_wait}
use Rattle.rh_agreement.specs.Telling.{GoTogether, mode_of_phase}
use Rattle.rh_agreement.specs.Laws.{HasRoom}
use Rattle.rh_agreement.specs.Resting.{AreAlwaysAtRest, held}
use Rattle.rh_agreement.proofs.Always.{GoesOn}
use Rattle.rh_agreement.proofs.Refusing.{nodes_events_alike}
use Rattle.rh_agreement.proofs.Stepping.{manual, live_made}
use Rattle.rh_agreement_boots.specs.Boots.{StayInTouch, IsBootedAlike}
use Rattle.rh_agreement_boots.specs.Waiting.{BeginsAndWaitsOn, entry_count}
use Rattle.rh_agreement_boots.proofs.BootAlike.{waiting_alike, goes_on_if}
use Rattle.rh_agreement_boots.proofs.Counting.{come_to_an_end}
use Rattle.rh_agreement_boots.proofs.Ready.{only_waits}
use Rattle.rh_agreement_boots.proofs.Waiting.{IsBooted}
use Rattle.rh_agreement_boots.proofs.Waiting as waiting
use Rattle.rh_agreement_rehearsals.proofs.WholeStartsBehind.{HaveBegun, then, one_more}
use Rattle.rh_agreement_rehearsals.proofs.WholeStartsNodes.{IsNext, few_nodes}
use Rattle.rh_agreement_rehearsals.proofs.WholeStartsUnready.{unready, still_quiet}

-- ---- how far a cold start is

-- So far these nodes have begun, in this order, and each boot has led to where both are at rest. By the manual's rules there are as many
-- steps, and no application is to run; live nodes that are alive stay in touch.
pub record SoFar (c : ClusterView) (files : List OwnFile) (done : List Node) (sim : SimView) (l : LiveSimView) : Type 0 where
  pub together : GoTogether sim l
  pub rest : AreAlwaysAtRest sim l
  pub touch : StayInTouch l
  pub begun : HaveBegun c files done l
  pub steps : sim.cursor ≡ length done
  pub quiet : (a : App) → standing_of (state_of sim) a ≡ Quiet

few_of_profile : (b : Bool) → cond b MAX_NODES FIRST_PROFILE_NODES ≤ 64
few_of_profile true = omega arith
few_of_profile false = omega arith

module _ (c : ClusterView) (files : List OwnFile) (done : List Node) (sim : SimView) (l : LiveSimView) (within : IsWithin c)
    (so : SoFar c files done sim l) where
  -- ---- how many they are

  alive_inside : (m : Node) → node_count c ≤ m.0 → times m (held l).alive ≡ 0
  alive_inside m past = by (times m (held l).alive) refl
    where
      by : (k : ℕ) → times m (held l).alive ≡ k → times m (held l).alive ≡ 0
      by zero none = none
      by (suc k) some =
          let there : IsThere m (held l) = (so.begun.cold.begun m (omega (arith, some))).there in
          let node : m.0 < node_count c =
          ltb-true m.0 (node_count c) (sym (so.begun.nodes m) ∙ there_so (held l) m there) in
          absurd (omega (arith, past, node))

  few_alive : length (held l).alive ≤ node_count c
  few_alive = few_nodes (node_count c) (held l).alive so.begun.cold.once alive_inside

  -- each is connected with so many
  few_links : (m : Node) → length (linked_with m (held l).links) ≤ node_count c
  few_links m = by (times m (held l).alive) refl
    where
      by : (k : ℕ) → times m (held l).alive ≡ k → length (linked_with m (held l).links) ≤ node_count c
      by zero none = omega (arith, ap length (so.begun.cold.unseen m none))
      by (suc k) some = few_nodes (node_count c) (linked_with m (held l).links) (λ x. (seen x).0) (λ x. (seen x).1)
        where
          b : HasBegun m (held l)
          b = so.begun.cold.begun m (omega (arith, some))

          seen : (x : Node) → (times x (linked_with m (held l).links) ≤ 1)
              × (node_count c ≤ x.0 → times x (linked_with m (held l).links) ≡ 0)
          seen x = elim (cases_eq x.0 m.0) [
            | inl is ↦
                let none : times x (linked_with m (held l).links) ≡ 0 =
                ap (λ (y : Node). times y (linked_with m (held l).links)) (same_node x m is) ∙ b.not_itself in
                (omega (arith, none), λ past. none)
            | inr other ↦ (
              omega (arith, b.sees x other, so.begun.cold.once x),
              λ past. b.sees x other ∙ alive_inside x past,
            )
          ]

  -- one step more can be made
  pub room : HasRoom sim l
  room = record {
    steps = omega (
      arith,
      so.steps,
      few_alive,
      ap length so.begun.alive,
      within.few_nodes,
      few_of_profile (c.profile == 2),
    );
    calls = omega (arith, so.begun.calls);
  }

  pub cluster_s : (state_of sim).cluster ≡ c
  cluster_s = sym so.together.now.cluster ∙ so.begun.cluster

  pub there_at : (m : Node) → m.0 < node_count c → IsThere m (held l)
  there_at m inside = is_there_so (held l) m (so.begun.nodes m ∙ lt-ltb m.0 (node_count c) inside)

  pub down_at : (m : Node) → times m done ≡ 0 → is_alive_at (held l) m ≡ false
  down_at m new = dead_so (held l) so.begun.cold m (ap (times m) so.begun.alive ∙ new)

  module _ (n last : Node) (is : IsNext (node_count c) done n last)
      (waits : (m : Node) → m.0 < node_count c → sync_wait_of c m ≢ Unset)
      (few : (m : Node) → 3 * entry_count c m + entry_count c m * ((entry_count c m + 1) * (node_count c + 1)) < most_moves) where
    abbrev this : Event
    this = event.Boot n

    unlisted : (m : Node) → times m done ≡ 0 → times m (held l).alive ≡ 0
    unlisted m new = ap (times m) so.begun.alive ∙ new

    never : (m : Node) → times m done ≡ 0 → node_in l m ≡ never_begun
    unfolding forgotten
    never m new = so.begun.cold.new m (unlisted m new)

    there : IsThere n (held l)
    there = there_at n is.inside

    there_too : IsThere last (held l)
    there_too = there_at last is.inside_too

    down : is_alive_at (held l) n ≡ false
    down = down_at n is.new

    down_too : is_alive_at (held l) last ≡ false
    down_too = down_at last is.new_too

    inside_l : n.0 < node_count l.cluster
    inside_l = subst (λ (d : ClusterView). n.0 < node_count d) (sym so.begun.cluster) is.inside

    -- ---- neither refuses the boot

    live_fine : refusal_of (net_in l).clock this l ≡ None
    live_fine =
        (λ i. cond (not (lt-ltb n.0 (node_count l.cluster) inside_l i)) (Some UnknownNode)
        (cond (not (is_down (never n is.new i).phase)) (Some AlreadyAlive)
        (cond (nat_le 9999 (never n is.new i).life) (Some IncarnationLimit) None)))

    fine : refused (state_of sim) this ≡ None
    fine = sym (nodes_events_alike sim l this so.together refl) ∙ live_fine

    can : CanBoot (state_of sim) n
    can = accepted_boot (state_of sim) n fine

    -- ---- it meets its law

    last_down : mode_of (state_of sim) last ≡ mode.Down
    last_down =
        sym (so.together.now.modes last (subst (λ (d : ClusterView). last.0 < node_count d) (sym cluster_s) is.inside_too))
        ∙ ap (λ (v : LiveView). mode_of_phase v.phase) (never last is.new_too)

    lists : (m : Node) → m.0 < node_count c → m.0 ≢ last.0 → is_listed c m last ≡ true
    unfolding forgotten
    lists m inside other =
        subst (λ (d : ClusterView). is_listed d m last ≡ true) so.begun.cluster
        (lists_other (held l) m last so.begun.cold.names (there_at m inside) there_too (λ same. other (sym same)))

    none_ready : (m : Node) → is_ready (manual_booted (state_of sim) n) m ≡ false
    none_ready =
        unready (state_of sim) n last so.rest.now.valid can last_down is.apart
        (subst (λ (d : ClusterView). (m : Node) → m.0 < node_count d → sync_wait_of d m ≢ Unset) (sym cluster_s) waits)
        (subst (λ (d : ClusterView). (m : Node) → m.0 < node_count d → m.0 ≢ last.0 → is_listed d m last ≡ true) (sym cluster_s) lists)

    waits_on : WaitsOn n (held l)
    waits_on =
        (starts (held l) n last so.rest.now.reached (all_wait (held l) so.begun.cold) there down there_too down_too is.apart).waits

    begins : BeginsAndWaitsOn n sim l
    begins = record {
      unready = none_ready;
      waits = waits_on;
      touch = so.touch;
      few = come_to_an_end l n (node_count c) there waits_on (so.begun.cold.unseen n (unlisted n is.new)) (λ m other. few_links m)
          (subst (λ (d : ClusterView).
          3 * entry_count d n + entry_count d n * ((entry_count d n + 1) * (node_count c + 1)) < most_moves)
          (sym so.begun.cluster) (few n));
      there = λ _. there;
    }

    booted_alike : IsBootedAlike n sim l
    booted_alike = waiting_alike sim l n so.together room so.rest.now begins

    pub goes_on : GoesOn (call.Step this) sim l
    goes_on = goes_on_if sim l n so.together room so.rest booted_alike (λ fine. begins)

    pub answer : (served sim (call.Step this)).reply ≡ reply.Done []
    answer = booted_alike.3 fine

    -- ---- what it leads to

    on_live : IsBooted l n
    on_live = record {
      reached = so.rest.now.reached;
      rest = so.rest.now.rest;
      waits = waits_on;
      touch = so.touch;
      there = there;
      within = inside_l;
      lives = omega (arith, ap (λ (v : LiveView). v.life) (never n is.new));
      few = begins.few;
    }

    abbrev live_then : LiveSimView
    live_then = then c files done l n last on_live so.together.now.cells so.begun there_too down_too is.apart

    made_so : made_by (call.Step this) l ≡ live_then
    made_so = live_made sim l this so.together room live_fine ∙ waiting.steps_so l n on_live

    begun_then : HaveBegun c files (done ++ n ∷ []) (made_by (call.Step this) l)
    begun_then =
        subst (HaveBegun c files (done ++ n ∷ [])) (sym made_so)
        (one_more c files done l n last on_live so.together.now.cells so.begun there_too down_too is.apart)

    served_so : (served sim (call.Step this)).sim ≡ with_event sim this
    served_so = ap (λ (v : Served). v.sim) (manual sim this fine room.steps)

    state_then : state_of (with_event sim this) ≡ manual_booted (state_of sim) n
    unfolding step
    state_then =
        state_last sim.cluster sim.pick sim.trail sim.cursor this so.together.within
        ∙ ap (λ (o : Outcome). o.state) (only_waits (state_of sim) n so.rest.now.valid can none_ready sim.pick)

    quiet_then : (a : App) → standing_of (state_of (with_event sim this)) a ≡ Quiet
    quiet_then a = ap (λ (s : StateView). standing_of s a) state_then ∙ still_quiet (state_of sim) n so.quiet a

    pub so_far : SoFar c files (done ++ n ∷ []) (served sim (call.Step this)).sim (made_by (call.Step this) l)
    so_far = record {
      together = goes_on.together;
      rest = goes_on.rest;
      touch = booted_alike.4;
      begun = begun_then;
      steps = ap (λ (s : SimView). s.cursor) served_so ∙ omega (arith, so.steps, length_push done n);
      quiet = subst (λ (s : SimView). (a : App) → standing_of (state_of s) a ≡ Quiet) (sym served_so) quiet_then;
    }
