-- The first node that begins waits on, where no node is alive: so its boot is answered alike.
use Rattle.std.proofs.Common.{◌≡◌, ◌≢◌, ◌<◌, ◌+◌, ◌++◌, ◌&&◌, ◌||◌, ◌==◌, ℕ, Bool, true, false, cond, List, [], ◌∷◌, length, unwrap_or, Option, None, refl, sym, ap, subst, ◌∙◌, inl, inr, arith}
use Rattle.std.specs.List.{list_all}
use Rattle.std.proofs.lemmas.Bool.{cases_eq, cases_lt, and_left, eq-eqb, eqb-false, or_left, true≢false, false≢true}
use Rattle.std.proofs.lemmas.Option.{slice_get_past}
use Rattle.rh_model.specs.ClusterView.{ClusterView, node_count, numbered, is_in, mandatory_of, optional_of, sync_wait_of}
use Rattle.rh_model.specs.declared.node.Node.{Node}
use Rattle.rh_model.specs.declared.settings.SyncWait.{SyncWait}
use Rattle.rh_model.specs.declared.settings.SyncWait.TheVariants.{Unset, After, Forever}
use Rattle.rh_rules.specs.declared.event.Event.TheVariants as event
use Rattle.rh_rules.specs.NodesStart.{booted as manual_booted, all_alive, has_others, is_ready}
use Rattle.rh_rules.specs.Refusals.{refused}
use Rattle.rh_refusals.proofs.Accepted.{CanBoot, accepted_boot}
use Rattle.rh_state.specs.declared.status.Mode.{Mode}
use Rattle.rh_state.specs.declared.status.Mode.TheVariants as mode
use Rattle.rh_state.specs.Shape.{IsShaped}
use Rattle.rh_state.specs.StateView.{StateView, mode_of, is_alive as is_mode_alive, is_waiting}
use Rattle.rh_trail.specs.SimView.{SimView, state_of}
use Rattle.rh_otp_net.specs.declared.timers.Timer.{Timer}
use Rattle.rh_otp_node.specs.declared.node.Phase.{Phase}
use Rattle.rh_otp_node.specs.declared.node.Phase.TheVariants as phase
use Rattle.rh_otp_node.specs.Kernel.{is_some_node, waits as still_waits}
use Rattle.rh_otp_node.specs.Live.{LiveView, is_alive, is_down}
use Rattle.rh_otp_sim.specs.Acting.{most_moves}
use Rattle.rh_otp_sim.specs.Refusing.{phase_in}
use Rattle.rh_otp_sim.specs.Sim.{LiveSimView, net_in}
use Rattle.rh_otp_sim.specs.Stepping.{begun}
use Rattle.rh_otp_system.specs.Connecting.{with_up, reach}
use Rattle.rh_otp_system.specs.Doing.{begun_at, all_seen}
use Rattle.rh_otp_system.specs.Resting.{forgotten}
use Rattle.rh_otp_system.specs.State.{SystemView, node_at, is_alive_at}
use Rattle.rh_otp_laws.specs.Acting.{IsThere}
use Rattle.rh_otp_laws.proofs.Beginning.{begun_there}
use Rattle.rh_otp_laws.proofs.Nodes.{others_same}
use Rattle.rh_agreement.specs.Resting.{AreBothAtRest, held}
use Rattle.rh_agreement.specs.Telling.{TellTheSame, GoTogether, mode_of_phase}
use Rattle.rh_agreement_boots.specs.Boots.{StayInTouch, BeginsToWait, FirstBootsAreAnsweredAlike}
use Rattle.rh_agreement_boots.specs.Waiting.{begun_to_wait, BeginsAndWaitsOn}
use Rattle.rh_agreement_boots.proofs.Begun.{with_timers, seen_at_first, only_sees}
use Rattle.rh_agreement_boots.proofs.BootAlike.{boots_if}
use Rattle.rh_agreement_boots.proofs.Ready.{mode_here, mode_there, cluster_so}

-- ---- no node is alive by the manual's rules

-- where no live node is, and both tell the same
none_alive : (s : StateView) (l : LiveSimView) → TellTheSame s l → IsShaped s → ((m : Node) → phase_in l m ≡ phase.Down) → (m : Node)
    → is_mode_alive (mode_of s m) ≡ false
none_alive s l told shape alone m = elim (cases_lt m.0 (node_count s.cluster)) [
  | inl inside ↦ ap is_mode_alive (sym (told.modes m inside) ∙ ap mode_of_phase (alone m))
  | inr past ↦ ap (λ (o : Option Mode). is_mode_alive (unwrap_or o mode.Down))
      (slice_get_past s.modes m.0 (omega (arith, past, shape.modes)))
]

not_waiting : (far : Mode) → is_mode_alive far ≡ false → is_waiting far ≡ false
not_waiting mode.Down down = refl
not_waiting mode.Waiting down = down
not_waiting mode.Up down = refl

-- its lists name a node
some_of : (s : StateView) (one two : List Node) → list_all (λ (m : Node). is_mode_alive (mode_of s m)) (one ++ two) ≡ false
    → (is_some_node one || is_some_node two) ≡ true
some_of s [] [] is = absurd (true≢false is)
some_of s [] (m ∷ two) is = refl
some_of s (m ∷ one) two is = refl

some_named : (s : StateView) (n : Node) (wait : SyncWait) → has_others s n wait ≡ false
    → (is_some_node (mandatory_of s.cluster n) || is_some_node (optional_of s.cluster n)) ≡ true
unfolding all_alive
some_named s n Unset is = absurd (true≢false is)
some_named s n (After ms) is = some_of s (mandatory_of s.cluster n) (optional_of s.cluster n) is
some_named s n Forever is = some_of s (mandatory_of s.cluster n) (optional_of s.cluster n) is

-- ---- whom it lacks

both_false : (p q : Bool) → (p || q) ≡ false → (p ≡ false) × (q ≡ false)
both_false true q is = absurd (true≢false is)
both_false false q is = (refl, is)

in_neither : (n : Node) (one two : List Node) → is_in n (one ++ two) ≡ false → (is_in n one ≡ false) × (is_in n two ≡ false)
in_neither n [] two is = (refl, is)
in_neither n (m ∷ one) two is =
    let apart : ((n.0 == m.0) ≡ false) × (is_in n (one ++ two) ≡ false) = both_false (n.0 == m.0) (is_in n (one ++ two)) is in
    let more : (is_in n one ≡ false) × (is_in n two ≡ false) = in_neither n one two apart.1 in (λ i. apart.0 i || more.0 i, more.1)

-- a node that isn't in the list isn't its first
not_first : (n m : Node) (nodes : List Node) → is_in n (m ∷ nodes) ≡ false → m.0 ≢ n.0
not_first n m nodes apart same = eqb-false n.0 m.0 (both_false (n.0 == m.0) (is_in n nodes) apart).0 (sym same)

abbrev IsLacking : Node → List Node → List Node → Type 0
IsLacking n one two = (m : Node) × ((is_in m one || is_in m two) ≡ true) × (m.0 ≢ n.0)

some_other : (n : Node) (one two : List Node) → (is_some_node one || is_some_node two) ≡ true → is_in n one ≡ false → is_in n two ≡ false
    → IsLacking n one two
some_other n [] [] some in_one in_two = absurd (false≢true some)
some_other n [] (m ∷ two) some in_one in_two = (m, or_left (m.0 == m.0) (is_in m two) (eq-eqb m.0 m.0 refl), not_first n m two in_two)
some_other n (m ∷ one) two some in_one in_two =
    (m, or_left (is_in m (m ∷ one)) (is_in m two) (or_left (m.0 == m.0) (is_in m one) (eq-eqb m.0 m.0 refl)), not_first n m one in_one)

-- none of its lists is alive
none_seen : (n : Node) (nodes : List Node) (s : SystemView) → is_in n nodes ≡ false → ((m : Node) → m.0 ≢ n.0 → is_alive_at s m ≡ false)
    → all_seen n nodes s ≡ s
none_seen n [] s apart dead = refl
none_seen n (m ∷ nodes) s apart dead =
    ap (λ (b : Bool). all_seen n nodes (cond b (with_up n m (reach n m s)) s)) (dead m (not_first n m nodes apart))
    ∙ none_seen n nodes s (both_false (n.0 == m.0) (is_in n nodes) apart).1 dead

-- ---- no live node is alive

none_live : (l : LiveSimView) → ((m : Node) → phase_in l m ≡ phase.Down) → (m : Node) → is_alive_at (held l) m ≡ false
unfolding forgotten
none_live l alone m = ap (λ (p : Phase). cond (is_down p) false true) (alone m)

none_in_touch : (l : LiveSimView) → ((m : Node) → phase_in l m ≡ phase.Down) → StayInTouch l
none_in_touch l alone = record {
  see = λ m k alive. absurd (false≢true (sym (none_live l alone m) ∙ alive));
  stay = λ m alive. absurd (false≢true (sym (none_live l alone m) ∙ alive));
}

-- ---- so it waits on

module _ (sim : SimView) (l : LiveSimView) (n : Node) (together : GoTogether sim l) (at_rest : AreBothAtRest sim l)
    (begins : BeginsToWait n sim l) (fine : refused (state_of sim) (event.Boot n) ≡ None) where
  abbrev s : StateView
  s = state_of sim

  can : CanBoot s n
  can = accepted_boot s n fine

  abbrev behind : StateView
  behind = manual_booted s n

  alone : (m : Node) → is_mode_alive (mode_of s m) ≡ false
  alone = none_alive s l together.now at_rest.valid.sound.shaped begins.alone

  none_ready : (m : Node) → is_ready behind m ≡ false
  unfolding is_ready
  none_ready m = elim (cases_eq m.0 n.0) [
    | inl here ↦ ap (λ (k : ℕ). is_ready behind (numbered k)) here ∙ begins.waits
    | inr other ↦ and_left _ _ (ap is_waiting (mode_there s n at_rest.valid can m other) ∙ not_waiting (mode_of s m) (alone m))
  ]

  -- it waits for some node
  names_some : (is_some_node (mandatory_of l.cluster n) || is_some_node (optional_of l.cluster n)) ≡ true
  unfolding is_ready
  names_some =
      let none : has_others behind n (sync_wait_of behind.cluster n) ≡ false =
      sym (ap (λ (b : Bool). b && has_others behind n (sync_wait_of behind.cluster n))
      (ap is_waiting (mode_here s n at_rest.valid can n refl))) ∙ begins.waits in
      subst (λ (c : ClusterView). (is_some_node (mandatory_of c n) || is_some_node (optional_of c n)) ≡ true)
      (cluster_so s n at_rest.valid can ∙ sym together.now.cluster) (some_named behind n (sync_wait_of behind.cluster n) none)

  apart : (is_in n (mandatory_of l.cluster n) ≡ false) × (is_in n (optional_of l.cluster n) ≡ false)
  apart = in_neither n (mandatory_of l.cluster n) (optional_of l.cluster n) begins.others

  lacking : IsLacking n (mandatory_of l.cluster n) (optional_of l.cluster n)
  lacking = some_other n (mandatory_of l.cluster n) (optional_of l.cluster n) names_some apart.0 apart.1

  within : n.0 < node_count l.cluster
  within = subst (λ (c : ClusterView). n.0 < node_count c) (sym together.now.cluster) can.node

  there : IsThere n (held l)
  there = begins.there within

  -- ---- on live nodes nothing comes of it

  abbrev first : SystemView
  first = begun (net_in l) (event.Boot n) l

  abbrev b : SystemView
  b = begun_at n first

  dead : (m : Node) → is_alive_at (held l) m ≡ false
  dead = none_live l begins.alone

  sees_none : seen_at_first n first ≡ b
  unfolding forgotten
  sees_none =
      let dead_there : (m : Node) → m.0 ≢ n.0 → is_alive_at b m ≡ false = λ m other. ap is_alive (others_same first n m _ other) ∙ dead m in
      let is : node_at b n ≡ _ = begun_there first n there.0 there.1 in
      ap (all_seen n (node_at b n).optional)
      (none_seen n (node_at b n).mandatory b (ap (λ (v : LiveView). is_in n v.mandatory) is ∙ apart.0) dead_there)
      ∙ none_seen n (node_at b n).optional b (ap (λ (v : LiveView). is_in n v.optional) is ∙ apart.1) dead_there

  only_timers : (timers : List Timer) × (begun_to_wait n l ≡ with_timers timers b)
  unfolding forgotten
  only_timers =
      let still : still_waits (node_at (seen_at_first n first) n) ≡ true =
      ap (λ (t : SystemView). still_waits (node_at t n)) sees_none ∙ ap still_waits (begun_there first n there.0 there.1) ∙ names_some in
      let set : (timers : List Timer) × (begun_to_wait n l ≡ with_timers timers (seen_at_first n first)) =
      only_sees n first still begins.live_waits in
      (set.0, set.1 ∙ ap (with_timers set.0) sees_none)

  nothing_comes : length (begun_to_wait n l).messages + length (begun_to_wait n l).slow ≡ 0
  unfolding forgotten
  nothing_comes = ap (λ (t : SystemView). length t.messages + length t.slow) only_timers.1

  pub waits_on : BeginsAndWaitsOn n sim l
  unfolding forgotten
  waits_on = record {
    unready = none_ready;
    waits = record {
      down = dead n;
      file = begins.live_waits;
      names = λ m alive. absurd (false≢true (sym (dead m) ∙ alive));
      lacks = lacking.0;
      lacking = lacking.1;
      not_itself = lacking.2;
      not_there = dead lacking.0;
      others = λ m alive. absurd (false≢true (sym (dead m) ∙ alive));
    };
    touch = none_in_touch l begins.alone;
    few = subst (λ (count : ℕ). count < most_moves) (sym nothing_comes) (omega arith);
    there = begins.there;
  }

pub first_alike : FirstBootsAreAnsweredAlike
first_alike sim l n together room at_rest begins =
    boots_if sim l n together room at_rest (none_in_touch l begins.alone) (waits_on sim l n together at_rest begins)
