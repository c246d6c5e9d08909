-- A whole cold start is answered alike, boot by boot, and so is what comes behind it.
use Rattle.std.proofs.Common.{◌≡◌, ◌≢◌, ◌<◌, ◌≤◌, ◌+◌, ◌++◌, ◌∙◌, ℕ, zero, suc, not, nat_lt, true, false, List, [], ◌∷◌, replicate, slice_get, unwrap_or, refl, sym, ap, subst, inl, inr, arith}
use Rattle.std.specs.Prelude.{All}
use Rattle.std.proofs.lemmas.Bool.{false≢true}
use Rattle.std.proofs.lemmas.List.{append-nil, append_assoc}
use Rattle.std.proofs.lemmas.List.Elements.{All-nil, All-cons}
use Rattle.rh_model.specs.ClusterView.{ClusterView, app_count, node_count}
use Rattle.rh_model.specs.declared.node.App.{App}
use Rattle.rh_model.specs.declared.node.Node.{Node}
use Rattle.rh_rules.specs.Course.{is_local}
use Rattle.rh_rules.specs.declared.event.Event.TheVariants as event
use Rattle.rh_rules.specs.declared.pick.Pick.{Pick}
use Rattle.rh_calls.specs.declared.call.Call.{Call}
use Rattle.rh_calls.specs.declared.call.Call.TheVariants as call
use Rattle.rh_calls.specs.declared.call.Reply.{Reply}
use Rattle.rh_calls.specs.declared.call.Reply.TheVariants as reply
use Rattle.rh_state.specs.declared.status.Standing.TheVariants.{Quiet}
use Rattle.rh_step_laws.specs.Laws.{boots}
use Rattle.rh_start_laws.specs.Starts.{StartsInOrder}
use Rattle.rh_trail.specs.Lone.{opened, replies, served, sim_after}
use Rattle.rh_trail.specs.SimView.{SimView}
use Rattle.rh_otp_model.specs.declared.wait.OwnFile.{OwnFile}
use Rattle.rh_otp_model.specs.Own.{controls}
use Rattle.rh_otp_net.specs.declared.order.Order.{Order}
use Rattle.rh_otp_node.specs.Live.{is_alive}
use Rattle.rh_otp_sim.specs.Calls.{made_by}
use Rattle.rh_otp_sim.specs.Sim.{LiveSimView, first_net}
use Rattle.rh_otp_sim.specs.Sim.{opened as live_opened}
use Rattle.rh_otp_system.specs.Resting.{forgotten, open_of}
use Rattle.rh_otp_system.specs.State.{own_at, is_alive_at}
use Rattle.rh_otp_system.specs.Views.{NetView}
use Rattle.rh_otp_laws.specs.Acting.{IsNew}
use Rattle.rh_otp_crashes.proofs.Turning.{own_in}
use Rattle.rh_otp_gathers.specs.Gathers.{times, one_if}
use Rattle.rh_otp_colds.specs.Colds.{is_there}
use Rattle.rh_otp_colds.specs.Wholes.{IsLeft}
use Rattle.rh_otp_colds.proofs.Last.{can_still, still_at}
use Rattle.rh_otp_colds.proofs.Starting.{there_so, waits_so, new_cold}
use Rattle.rh_agreement.specs.Resting.{AreAnsweredAlike, held}
use Rattle.rh_agreement.proofs.Always.{GoesOn}
use Rattle.rh_agreement.proofs.AtFirst.{begin_at_rest, none_begun}
use Rattle.rh_agreement.proofs.Beginning.{begin_together, net_so}
use Rattle.rh_agreement_colds.specs.Colds.{IsAnsweredInSomeOrder, StartsCold}
use Rattle.rh_agreement_colds.proofs.Calls.{GoesOnInSomeOrder, cold_on}
use Rattle.rh_agreement_rehearsals.specs.ColdStarts.{AreAnsweredUpToOrder}
use Rattle.rh_agreement_rehearsals.specs.WholeStarts.{boots_of, live_behind, IsWholeStart, IsStartedAlike}
use Rattle.rh_agreement_rehearsals.specs.WholeStarts.{WholeStartsAreAnsweredAlike, RehearsalsBehindAColdStart}
use Rattle.rh_agreement_rehearsals.proofs.ColdStarts.{cold_calls_alike}
use Rattle.rh_agreement_rehearsals.proofs.WholeStartsBehind.{HaveBegun}
use Rattle.rh_agreement_rehearsals.proofs.WholeStartsNodes.{IsNext, IsOneLeft, is_next, is_one_left, times_here}
use Rattle.rh_agreement_rehearsals.proofs.WholeStartsSteps.{SoFar, room, there_at, down_at, goes_on, answer, so_far}

-- ---- where no node has begun

all_quiet : (count i : ℕ) → unwrap_or (slice_get (replicate count Quiet) i) Quiet ≡ Quiet
all_quiet zero i = refl
all_quiet (suc count) zero = refl
all_quiet (suc count) (suc i) = all_quiet count i

-- such boots are answered by `ok` alone, and lead to where the next one is to begin
record AreBooted (c : ClusterView) (files : List OwnFile) (done rest : List Node) (sim : SimView) (l : LiveSimView) : Type 0 where
  alike : AreAnsweredAlike (boots_of rest) sim l
  alone : All (λ (r : Reply). r ≡ reply.Done []) (replies sim (boots_of rest))
  then : SoFar c files (done ++ rest) (sim_after sim (boots_of rest)) (live_behind l (boots_of rest))

module _ (c : ClusterView) (pick : Pick) (files : List OwnFile) (order : Order) (first : List Node) (last : Node)
    (w : IsWholeStart c files order first last) where
  abbrev live_first : LiveSimView
  live_first = live_opened c files order

  is_new : IsNew (held live_first)
  unfolding forgotten
  is_new = record {
    nodes = λ m. none_begun (node_count c) m.0 first_net;
    alive = ap (λ (v : NetView). v.alive) (net_so c files order);
    links = ap (λ (v : NetView). v.links) (net_so c files order);
    locks = ap (λ (v : NetView). v.locks) (net_so c files order);
    timers = ap (λ (v : NetView). v.timers) (net_so c files order);
    calls = ap (λ (v : NetView). open_of v.calls) (net_so c files order);
    messages = refl;
    slow = refl;
  }

  none_yet : HaveBegun c files [] live_first
  unfolding forgotten
  none_yet = record {
    cold = new_cold (held live_first) is_new w.together.names;
    alive = is_new.alive;
    nodes = w.together.can.nodes;
    cluster = refl;
    files = refl;
    calls = ap (λ (v : NetView). v.last_call) (net_so c files order);
    told = ap (λ (v : NetView). v.told) (net_so c files order);
  }

  begins : SoFar c files [] (opened c pick) live_first
  unfolding forgotten
  begins = record {
    together = begin_together c pick files order;
    rest = begin_at_rest c pick files order w.within w.later;
    touch = record {
      see = λ m k alive. absurd (nobody m alive);
      stay = λ m alive. absurd (nobody m alive);
    };
    begun = none_yet;
    steps = refl;
    quiet = λ a. all_quiet (app_count c) a.0;
  }
    where
      nobody : (m : Node) → is_alive_at (held live_first) m ≡ true → ⊥
      nobody m alive = false≢true (sym (ap is_alive (is_new.nodes m)) ∙ alive)

  -- ---- all but the last one

  boots_on : (done rest : List Node) (sim : SimView) (l : LiveSimView) → SoFar c files done sim l
      → ((m : Node) → times m (done ++ rest ++ last ∷ []) ≡ one_if (nat_lt m.0 (node_count c))) → AreBooted c files done rest sim l
  boots_on done [] sim l so once = record {
    alike = tt;
    alone = All-nil (λ (r : Reply). r ≡ reply.Done []);
    then = subst (λ (all : List Node). SoFar c files all sim l) (sym (append-nil done)) so;
  }
  boots_on done (n ∷ rest) sim l so once =
      let s : SimView = (served sim (call.Step (event.Boot n))).sim in
      let k : LiveSimView = made_by (call.Step (event.Boot n)) l in
      let is : IsNext (node_count c) done n last = is_next (node_count c) done rest n last once in
      let one : GoesOn (call.Step (event.Boot n)) sim l =
      goes_on c files done sim l w.within so n last is w.together.waits w.together.few in
      let told : (served sim (call.Step (event.Boot n))).reply ≡ reply.Done [] =
      answer c files done sim l w.within so n last is w.together.waits w.together.few in
      let next : SoFar c files (done ++ n ∷ []) s k = so_far c files done sim l w.within so n last is w.together.waits w.together.few in
      let same : done ++ n ∷ [] ++ rest ≡ done ++ (n ∷ rest) = append_assoc done (n ∷ []) rest in
      let more : AreBooted c files (done ++ n ∷ []) rest s k =
      boots_on (done ++ n ∷ []) rest s k next (λ m. ap (λ (all : List Node). times m (all ++ last ∷ [])) same ∙ once m) in
      record {
        alike = (one.alike, more.alike);
        alone = All-cons (λ (r : Reply). r ≡ reply.Done []) (served sim (call.Step (event.Boot n))).reply (replies s (boots_of rest)) told
            more.alone;
        then = subst (λ (all : List Node). SoFar c files all (sim_after s (boots_of rest)) (live_behind k (boots_of rest))) same more.then;
      }

  -- ---- the last one

  abbrev sim : SimView
  sim = sim_after (opened c pick) (boots_of first)

  abbrev l : LiveSimView
  l = live_behind live_first (boots_of first)

  all_but_last : AreBooted c files [] first (opened c pick) live_first
  all_but_last = boots_on [] first (opened c pick) live_first begins w.once

  so : SoFar c files first sim l
  so = all_but_last.then

  left : IsOneLeft (node_count c) first last
  left = is_one_left (node_count c) first last w.once

  alive_of : (m : Node) → 1 ≤ times m first → is_alive_at (held l) m ≡ true
  alive_of m some = waits_so (held l) so.begun.cold m (subst (λ (all : List Node). 1 ≤ times m all) (sym so.begun.alive) some)

  one_of : (nodes : List Node) → nodes ≢ [] → (m : Node) × (1 ≤ times m nodes)
  one_of [] some = absurd (some refl)
  one_of (m ∷ nodes) some = (m, omega (arith, times_here m m nodes refl))

  is_left : IsLeft last (held l)
  is_left = record {
    there = there_at c files first sim l w.within so last left.inside;
    down = down_at c files first sim l w.within so last left.new;
    others = λ m there other.
        alive_of m (left.others m (sym (so.begun.nodes m) ∙ there_so (held l) m there) other);
    other = (one_of first w.some).0;
    alive = alive_of (one_of first w.some).0 (one_of first w.some).1;
  }

  -- ---- the files are as they were

  cluster_so : sim.cluster ≡ c
  cluster_so = sym so.together.cluster ∙ so.begun.cluster

  cluster_held : (held l).cluster ≡ (held live_first).cluster
  unfolding forgotten
  cluster_held = so.begun.cluster

  files_held : (held l).files ≡ (held live_first).files
  unfolding forgotten
  files_held = so.begun.files

  there_held : (m : Node) → is_there (held l) m ≡ is_there (held live_first) m
  unfolding forgotten
  there_held m = so.begun.nodes m ∙ sym (w.together.can.nodes m)

  in_order : (d : ClusterView) → c ≡ d → (o : StartsInOrder d) × (o.at ≡ w.together.order.at)
  in_order d same =
      subst (λ (e : ClusterView). (o : StartsInOrder e) × (o.at ≡ w.together.order.at)) same (w.together.order, refl)

  starts_cold : StartsCold last sim l
  starts_cold = record {
    quiet = so.quiet;
    order = ordered.0;
    cold = so.begun.cold;
    can = can_still (held live_first) (held l) cluster_held files_held there_held w.together.can;
    left = is_left;
    untold = so.begun.told;
    ends = w.ends;
    own = own;
    at = λ m a boots_it spread.
        (λ i. (ordered.1 i a).0)
        ∙ at m a boots_it spread
        ∙ (λ i. (sym (still_at (held live_first) (held l) cluster_held files_held there_held w.together.can) i a).0);
  }
    where
      ordered : (o : StartsInOrder sim.cluster) × (o.at ≡ w.together.order.at)
      ordered = in_order sim.cluster (sym cluster_so)

      own : (m : Node) (a : App) → m.0 < node_count sim.cluster → boots sim.cluster m a ≡ true
          → controls (own_at (held l) m) a ≡ not (is_local sim.cluster a)
      own =
          subst (λ (d : ClusterView). (m : Node) (a : App) → m.0 < node_count d → boots d m a ≡ true
          → controls (own_at (held l) m) a ≡ not (is_local d a)) (sym cluster_so)
          (λ m a inside boots_it. ap (λ (all : List OwnFile). controls (own_in all m) a) files_held ∙ w.together.own m a inside boots_it)

      at : (m : Node) (a : App) → boots sim.cluster m a ≡ true → is_local sim.cluster a ≡ false
          → (w.together.order.at a).0 ≡ (w.together.can.at a).0
      at =
          subst (λ (d : ClusterView). (m : Node) (a : App) → boots d m a ≡ true → is_local d a ≡ false
          → (w.together.order.at a).0 ≡ (w.together.can.at a).0) (sym cluster_so) w.together.at

  comes_up : GoesOnInSomeOrder (call.Step (event.Boot last)) sim l
  comes_up = cold_on sim l last so.together (room c files first sim l w.within so) so.rest starts_cold

-- ---- the laws

-- what a list of boots leads to, with one more
sim_last : (sim : SimView) (first : List Node) (last : Node)
    → sim_after sim (boots_of (first ++ last ∷ [])) ≡ (served (sim_after sim (boots_of first)) (call.Step (event.Boot last))).sim
sim_last sim [] last = refl
sim_last sim (n ∷ first) last = sim_last (served sim (call.Step (event.Boot n))).sim first last

live_last : (l : LiveSimView) (first : List Node) (last : Node)
    → live_behind l (boots_of (first ++ last ∷ [])) ≡ made_by (call.Step (event.Boot last)) (live_behind l (boots_of first))
live_last l [] last = refl
live_last l (n ∷ first) last = live_last (made_by (call.Step (event.Boot n)) l) first last

-- what comes behind such boots is answered as it is behind them
then_answered : (calls : List Call) (first : List Node) (last : Node) (sim : SimView) (l : LiveSimView)
    → AreAnsweredAlike (boots_of first) sim l
    → IsAnsweredInSomeOrder (call.Step (event.Boot last)) (sim_after sim (boots_of first)) (live_behind l (boots_of first))
    → AreAnsweredUpToOrder calls (sim_after sim (boots_of (first ++ last ∷ []))) (live_behind l (boots_of (first ++ last ∷ [])))
    → AreAnsweredUpToOrder (boots_of (first ++ last ∷ []) ++ calls) sim l
then_answered calls [] last sim l alike coming behind = (inr coming, behind)
then_answered calls (n ∷ first) last sim l alike coming behind = (
  inl alike.0,
  then_answered calls first last (served sim (call.Step (event.Boot n))).sim (made_by (call.Step (event.Boot n)) l) alike.1 coming behind,
)

pub whole_starts_alike : WholeStartsAreAnsweredAlike
whole_starts_alike c pick files order first last w = record {
  waiting = (all_but_last c pick files order first last w).alike;
  alone = (all_but_last c pick files order first last w).alone;
  coming = (comes_up c pick files order first last w).alike;
  together = rw (sim_last (opened c pick) first last, live_last (live_opened c files order) first last)
      (comes_up c pick files order first last w).together;
  rest = rw (sim_last (opened c pick) first last, live_last (live_opened c files order) first last)
      (comes_up c pick files order first last w).rest;
}

pub rehearsals_alike : RehearsalsBehindAColdStart
rehearsals_alike c pick files order first last calls w all =
    let started : IsStartedAlike first last (opened c pick) (live_opened c files order) =
    whole_starts_alike c pick files order first last w in
    then_answered calls first last (opened c pick) (live_opened c files order) started.waiting started.coming
    (cold_calls_alike (sim_after (opened c pick) (boots_of (first ++ last ∷ [])))
    (live_behind (live_opened c files order) (boots_of (first ++ last ∷ []))) calls started.together started.rest all)
