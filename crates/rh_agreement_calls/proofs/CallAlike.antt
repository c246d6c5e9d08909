-- A call that live nodes answer at once, and behind which nodes are as they were, is answered alike, and both are at rest again.
use Rattle.std.proofs.Common.{◌≡◌, ◌<◌, ◌≤◌, ◌-◌, ◌^◌, ℕ, Bool, true, false, cond, nat_lt, List, [], ◌∷◌, length, slice_get, slice_index, unwrap_or, Option, None, refl, sym, ap, subst, ◌∙◌, inl, arith}
use Rattle.std.specs.Option.{option_and_then}
use Rattle.std.proofs.lemmas.Bool.{lt-ltb, true≢false}
use Rattle.std.proofs.lemmas.List.{length-set}
use Rattle.rh_model.specs.ClusterView.{ClusterView, node_count}
use Rattle.rh_model.specs.declared.node.App.{App}
use Rattle.rh_model.specs.declared.node.Node.{Node}
use Rattle.rh_rules.specs.declared.event.Event.{Event}
use Rattle.rh_rules.specs.declared.notice.Notice.{Notice}
use Rattle.rh_rules.specs.Refusals.{refused}
use Rattle.rh_rules.specs.Steps.{Outcome, outcome, next}
use Rattle.rh_calls.specs.declared.call.Call.TheVariants as call
use Rattle.rh_calls.specs.declared.call.Reply.TheVariants as reply
use Rattle.rh_script.specs.Answers.{answer_text}
use Rattle.rh_state.specs.declared.status.Mode.{Mode}
use Rattle.rh_state.specs.declared.status.Mode.TheVariants as mode
use Rattle.rh_state.specs.Limits.{incarnation_limit}
use Rattle.rh_state.specs.StateView.{StateView, mode_of, incarnation_of, is_up}
use Rattle.rh_step.specs.Runs.{step}
use Rattle.rh_trail.specs.Lone.{Served, served}
use Rattle.rh_trail.specs.SimView.{SimView, state_of}
use Rattle.rh_otp_model.specs.declared.output.Event.{Event as Seen}
use Rattle.rh_otp_node.specs.declared.node.Phase.{Phase}
use Rattle.rh_otp_node.specs.declared.node.Phase.TheVariants as phase
use Rattle.rh_otp_node.specs.Live.{LiveView, never_begun, is_down, is_ending}
use Rattle.rh_otp_sim.specs.declared.calls.LiveReply.TheVariants as live_reply
use Rattle.rh_otp_sim.specs.declared.lines.Answer.TheVariants.{Told}
use Rattle.rh_otp_sim.specs.declared.lines.Line.{Line}
use Rattle.rh_otp_sim.specs.declared.stepping.Outcome.TheVariants as live
use Rattle.rh_otp_sim.specs.declared.verdict.Verdict.TheVariants as verdict
use Rattle.rh_otp_sim.specs.Acting.{most_moves, called_if}
use Rattle.rh_otp_sim.specs.Calls.{made_by}
use Rattle.rh_otp_sim.specs.Refusing.{refusal_of, phase_in, life_in}
use Rattle.rh_otp_sim.specs.Sim.{LiveSimView, net_in}
use Rattle.rh_otp_sim.specs.Sim.{live_in as live_at_node}
use Rattle.rh_otp_sim.specs.Stepping.{happened, net_behind, cells_behind, system_with, ends_with, outcome_with, with_step, stepped_with}
use Rattle.rh_otp_sim.specs.Views.{HappenedView}
use Rattle.rh_otp_system.specs.declared.calls.Ask.{Ask}
use Rattle.rh_otp_system.specs.declared.calls.Call.{Call}
use Rattle.rh_otp_system.specs.declared.cell.Cell.{Cell}
use Rattle.rh_otp_system.specs.declared.cell.Cell.TheVariants as cell
use Rattle.rh_otp_system.specs.Calls.{is_takeover}
use Rattle.rh_otp_system.specs.Doing.{called}
use Rattle.rh_otp_system.specs.Moves.{settled, is_settled_by, is_to_end}
use Rattle.rh_otp_system.specs.Resting.{forgotten, rested}
use Rattle.rh_otp_system.specs.State.{SystemView, live_in, node_at, is_alive_at}
use Rattle.rh_otp_system.specs.Views.{NetView}
use Rattle.rh_otp_laws.specs.Acting.{IsReached, later, acts, calls, rests, takes_up}
use Rattle.rh_otp_laws.proofs.Commands.{commands_reached}
use Rattle.rh_otp_laws.proofs.Nodes.{same_of_all}
use Rattle.rh_otp_text.specs.Replies.{reply_text}
use Rattle.rh_agreement.specs.Telling.{TellTheSame, GoTogether, mode_of_phase}
use Rattle.rh_agreement.specs.Laws.{IsAnsweredAlike, HasRoom}
use Rattle.rh_agreement.specs.Resting.{AreBothAtRest, AreAlwaysAtRest, held}
use Rattle.rh_agreement.proofs.Always.{GoesOn, accepted_rest}
use Rattle.rh_agreement.proofs.Peace.{both_rest}
use Rattle.rh_agreement.proofs.Rest.{AreIdle, IsOver, idle_at_rest, nobody_there}
use Rattle.rh_agreement.proofs.Stepping.{written, net_so, node_so, manual, live_made, made_alike}
use Rattle.rh_agreement_calls.proofs.Moving.{CanAnswer, at_first, call_at, request_of, calling, with_one, called_so}
use Rattle.rh_agreement_calls.proofs.Moving as moving

-- a node that is up by the manual's rules is alive
pub up_is_alive : (p : Phase) (far : Mode) → mode_of_phase p ≡ far → is_up far ≡ true → cond (is_down p) false true ≡ true
up_is_alive phase.Down far is up = absurd (true≢false (sym (ap is_up is ∙ up)))
up_is_alive phase.Waiting far is up = refl
up_is_alive phase.Up far is up = refl

few_calls : (last : ℕ) → last < 4000000000 → last < 2 ^ 32 - 1
few_calls last few = omega (arith, few)

-- The event calls so at live nodes; and by the manual's rules this is told of it and no more, and nodes, the clock and the cluster are as
-- they were.
pub record Calls (sim : SimView) (l : LiveSimView) (n : Node) (a : App) (e : Event) (note : Notice) : Type 0 where
  pub asked : Ask
  pub apart : is_takeover asked ≡ false
  pub fine : refused (state_of sim) e ≡ None
  pub live_fine : refusal_of (net_in l).clock e l ≡ None
  pub then : StateView
  pub comes : next (state_of sim) e sim.pick ≡ outcome then (note ∷ [])
  pub cluster : then.cluster ≡ (state_of sim).cluster
  pub time : then.time ≡ (state_of sim).time
  pub modes : then.modes ≡ (state_of sim).modes
  pub begun : then.incarnations ≡ (state_of sim).incarnations
  pub soon : Bool
  pub runs : system_with (net_in l) e l
      ≡ rested (settled most_moves l.order (called_if asked n a (record (held l) { ends_soon = soon })))
  pub ends : ends_with (net_in l) e l
      ≡ is_settled_by most_moves l.order (called_if asked n a (record (held l) { ends_soon = soon }))
  pub none_ends : (m : Node) → is_alive_at (held l) m ≡ true → is_to_end m (record (held l) { ends_soon = soon }) ≡ false

module _ (sim : SimView) (l : LiveSimView) (n : Node) (a : App) (e : Event) (note : Notice) (together : GoTogether sim l)
    (room : HasRoom sim l) (at_rest : AreBothAtRest sim l) (inside : n.0 < node_count (state_of sim).cluster)
    (up : is_up (mode_of (state_of sim) n) ≡ true) (how : Calls sim l n a e note) where
  -- ---- where it begins

  abbrev pub base : SystemView
  base = record (held l) { ends_soon = how.soon }

  abbrev pub c : Call
  c = call_at base how.asked n a

  idle : AreIdle (held l)
  idle = idle_at_rest l at_rest.reached at_rest.rest

  pub alive : is_alive_at (held l) n ≡ true
  unfolding forgotten
  alive = up_is_alive (phase_in l n) (mode_of (state_of sim) n) (together.now.modes n inside) up

  pub can_answer : (new : LiveView) → new.phase ≡ (node_at base n).phase → new.life ≡ (node_at base n).life
      → new.dist ≡ (node_at base n).dist
      → is_ending new ≡ false → CanAnswer base n new
  can_answer new phase life dist stays = record {
    alive = alive;
    phase = phase;
    life = life;
    dist = dist;
    stays = stays;
    listed = idle.listed;
    dists = idle.dists;
    ends = how.none_ends;
  }

  first_so : base ≡ at_first base
  unfolding forgotten
  first_so = λ i. record base { calls = at_rest.rest.calls i }

  pub begins_so : called_if how.asked n a base ≡ with_one (request_of c) (calling base c)
  unfolding forgotten
  begins_so =
      ap (λ (b : Bool). cond b (called how.asked n a base) base) (lt-ltb base.last_call (2 ^ 32 - 1) (few_calls base.last_call room.calls))
      ∙ ap (called how.asked n a) first_so
      ∙ called_so base how.asked n a how.apart

  -- ---- where it is answered

  module _ (new : LiveView) (seen : List Seen) (can : CanAnswer base n new) where
    abbrev pub over : SystemView
    over = moving.over base how.asked n a new seen can

    abbrev pub last : SystemView
    last = rested over

    module _ (what : Line) (moves_so : settled most_moves l.order (called_if how.asked n a base) ≡ over)
        (quiet : is_settled_by most_moves l.order (called_if how.asked n a base) ≡ true)
        (happens : happened (net_in l) last ≡ record { answer = Told verdict.Done; lines = what ∷ [] })
        (same_text : answer_text l.cluster (reply.Done (note ∷ []))
        ≡ reply_text l (live_reply.Step (live.Done (record { answer = Told verdict.Done; lines = what ∷ [] })))) where
      runs : system_with (net_in l) e l ≡ last
      runs = how.runs ∙ ap rested moves_so

      ends : ends_with (net_in l) e l ≡ true
      ends = how.ends ∙ quiet

      steps_so : stepped_with (net_in l) e l ≡ with_step (cells_behind (net_in l) (node_count l.cluster) last) l
      steps_so =
          ap (λ (b : Bool). cond b (with_step (cells_behind (net_in l) (node_count l.cluster) (system_with (net_in l) e l)) l) l) ends
          ∙ ap (λ (t : SystemView). with_step (cells_behind (net_in l) (node_count l.cluster) t) l) runs

      comes_to : outcome_with (net_in l) e l ≡ live.Done (happened (net_in l) last)
      comes_to =
          ap (λ (b : Bool). cond b (live.Done (happened (net_in l) (system_with (net_in l) e l))) live.Endless) ends
          ∙ ap (λ (t : SystemView). live.Done (happened (net_in l) t)) runs

      -- ---- live nodes are at rest again

      base_reached : IsReached base
      unfolding forgotten
      base_reached =
          later (held l) base at_rest.reached (takes_up (held l) l.history.now (net_in l).told how.soon (refl, refl) (λ m. inl refl))

      called_reached : (b : Bool) → IsReached (cond b (called how.asked n a base) base)
      called_reached true = later base (called how.asked n a base) base_reached (acts base _ (calls base how.asked n a))
      called_reached false = base_reached

      reached : IsReached last
      reached =
          let start : SystemView = called_if how.asked n a base in
          later over (rested over)
          (subst IsReached moves_so
          (commands_reached.settles_there most_moves l.order start (called_reached (nat_lt base.last_call (2 ^ 32 - 1)))))
          (rests over)

      alive_so : (m : Node) → is_alive_at over m ≡ is_alive_at (held l) m
      alive_so m = moving.alive_so base how.asked n a new seen can m

      inside_then : node_count l.cluster < length last.nodes.cells
      unfolding rested forgotten
      inside_then =
          subst (λ (count : ℕ). node_count l.cluster < count) (sym (length-set base.nodes.cells n.0 (cell.Node new))) together.now.cells

      is_over : IsOver l last
      unfolding rested forgotten
      is_over = record {
        inside = inside_then;
        idle = record {
          calls = refl;
          listed = λ m among. alive_so m ∙ idle.listed m among;
          dists = λ m d is has. moving.dists_so base how.asked n a new seen can m d is has;
          ends = λ m is. moving.ends_on base how.asked n a new seen can false m (idle.ends m (sym (alive_so m) ∙ is));
        };
        reached = reached;
        is_quiet = (refl, refl);
        cluster = refl;
        files = refl;
        nobody = λ m there. alive_so m ∙ nobody_there l at_rest.reached m there;
      }

      -- ---- both tell the same behind it

      abbrev cells : List Cell
      cells = written l last.nodes.cells (net_behind (net_in l) last) is_over.inside

      clock_so : (net_in (with_step cells l)).clock ≡ (net_in l).clock
      unfolding forgotten rested
      clock_so = ap (λ (v : NetView). v.clock) (net_so l last.nodes.cells (net_behind (net_in l) last) is_over.inside)

      same_there : {A : Type 0} (f : LiveView → A) → f new ≡ f (node_at base n) → (m : Node) → f (node_at over m) ≡ f (node_at base m)
      same_there f same m = same_of_all f (calling base c) n m new same

      module _ (k : Node) (known : k.0 < node_count (state_of sim).cluster) where
        node_then : live_at_node (with_step cells l) k ≡ option_and_then live_in (slice_get last.nodes.cells k.0)
        node_then =
            node_so l last.nodes.cells (net_behind (net_in l) last) is_over.inside k
            (subst (λ (d : ClusterView). k.0 < node_count d) (sym together.now.cluster) known)

        mode_then : mode_of_phase (phase_in (with_step cells l) k) ≡ mode_of how.then k
        unfolding forgotten rested
        mode_then =
            ap (λ (o : Option LiveView). mode_of_phase (unwrap_or o never_begun).phase) node_then
            ∙ ap mode_of_phase (same_there (λ (v : LiveView). v.phase) can.phase k)
            ∙ together.now.modes k known
            ∙ sym (ap (λ (modes : List Mode). unwrap_or (slice_get modes k.0) mode.Down) how.modes)

        begun_then : life_in (with_step cells l) k ≡ incarnation_of how.then k
        unfolding forgotten rested
        begun_then =
            ap (λ (o : Option LiveView). (unwrap_or o never_begun).life) node_then
            ∙ same_there (λ (v : LiveView). v.life) can.life k
            ∙ together.now.begun k known
            ∙ sym (ap (λ (counts : List ℕ). slice_index counts k.0) how.begun)

      known_then : (k : Node) → k.0 < node_count how.then.cluster → k.0 < node_count (state_of sim).cluster
      known_then k known = subst (λ (d : ClusterView). k.0 < node_count d) how.cluster known

      tells : TellTheSame how.then (with_step cells l)
      tells = record {
        cluster = together.now.cluster ∙ sym how.cluster;
        clock = clock_so ∙ together.now.clock ∙ sym how.time;
        modes = λ k known. mode_then k (known_then k known);
        begun = λ k known. begun_then k (known_then k known);
        limited = λ k known.
            subst (λ (count : ℕ). count ≤ incarnation_limit) (sym (ap (λ (counts : List ℕ). slice_index counts k.0) how.begun))
            (together.now.limited k (known_then k known));
        cells = subst (λ (count : ℕ). node_count l.cluster < count)
            (sym (length-set last.nodes.cells (node_count l.cluster) (cell.Net (net_behind (net_in l) last)))) is_over.inside;
      }

      -- ---- and answer it alike

      outcome_so : (p : Outcome) → next (state_of sim) e sim.pick ≡ p
          → (step sim.pick (state_of sim) e ≡ p.state) × ((next (state_of sim) e sim.pick).notices ≡ p.notices)
      unfolding step
      outcome_so p is = (ap (λ (o : Outcome). o.state) is, ap (λ (o : Outcome). o.notices) is)

      comes_so : (step sim.pick (state_of sim) e ≡ how.then) × ((next (state_of sim) e sim.pick).notices ≡ note ∷ [])
      comes_so = outcome_so _ how.comes

      text : answer_text sim.cluster (reply.Done (next (state_of sim) e sim.pick).notices)
          ≡ reply_text (with_step cells l) (live_reply.Step (live.Done (happened (net_in l) last)))
      unfolding reply_text
      text =
          ap (λ (notices : List Notice). answer_text sim.cluster (reply.Done notices)) comes_so.1
          ∙ ap (λ (d : ClusterView). answer_text d (reply.Done (note ∷ []))) (sym together.cluster)
          ∙ same_text
          ∙ ap (λ (h : HappenedView). reply_text (with_step cells l) (live_reply.Step (live.Done h))) (sym happens)

      told : TellTheSame (step sim.pick (state_of sim) e) (with_step cells l)
      told = subst (λ (t : StateView). TellTheSame t (with_step cells l)) (sym comes_so.0) tells

      alike : IsAnsweredAlike (call.Step e) sim l × GoTogether (served sim (call.Step e)).sim (made_by (call.Step e) l)
      alike = made_alike sim l e cells (happened (net_in l) last) together room how.fine how.live_fine steps_so comes_to told text

      pub called_alike : IsAnsweredAlike (call.Step e) sim l
          × GoTogether (served sim (call.Step e)).sim (made_by (call.Step e) l)
          × AreBothAtRest (served sim (call.Step e)).sim (made_by (call.Step e) l)
          × ((served sim (call.Step e)).reply ≡ reply.Done (note ∷ []))
      called_alike = (
        alike.0,
        alike.1,
        both_rest sim l e last together room at_rest how.fine how.live_fine steps_so is_over,
        ap (λ (v : Served). v.reply) (manual sim e how.fine room.steps) ∙ ap reply.Done comes_so.1,
      )

      -- and so on
      pub goes_on : AreAlwaysAtRest sim l → GoesOn (call.Step e) sim l
      goes_on rest = record {
        alike = alike.0;
        together = alike.1;
        rest = accepted_rest sim l e cells together room rest how.fine (live_made sim l e together room how.live_fine ∙ steps_so)
            called_alike.2;
      }
