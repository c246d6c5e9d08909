-- Where no node has begun both are at rest.
use Rattle.std.proofs.Common.{◌≡◌, ◌<◌, ◌≤◌, ◌++◌, ◌∙◌, ℕ, zero, suc, List, [], ◌∷◌, length, replicate, slice_get, unwrap_or, refl, sym, ap, arith}
use Rattle.std.specs.Option.{option_and_then}
use Rattle.rh_model.specs.ClusterView.{ClusterView, IsWithin, node_count}
use Rattle.rh_model.specs.declared.node.Node.{Node}
use Rattle.rh_rules.specs.declared.pick.Pick.{Pick}
use Rattle.rh_trail.specs.Lone.{opened}
use Rattle.rh_otp_model.specs.declared.wait.OwnFile.{OwnFile}
use Rattle.rh_otp_net.specs.declared.order.Order.{Order}
use Rattle.rh_otp_node.specs.Live.{never_begun, is_alive}
use Rattle.rh_otp_sim.specs.Sim.{LiveSimView, first_net, at_step_of}
use Rattle.rh_otp_sim.specs.Sim.{opened as live_opened}
use Rattle.rh_otp_system.specs.declared.cell.Cell.TheVariants as cell
use Rattle.rh_otp_system.specs.Moves.{IsSettled}
use Rattle.rh_otp_system.specs.Resting.{forgotten, open_of}
use Rattle.rh_otp_system.specs.State.{live_in, node_at}
use Rattle.rh_otp_system.specs.Views.{NetView}
use Rattle.rh_agreement.proofs.Beginning.{net_so}
use Rattle.std.proofs.lemmas.Bool.{false≢true}
use Rattle.std.proofs.lemmas.Option.{none-some}
use Rattle.rh_trail.proofs.Histories.{opened_valid}
use Rattle.rh_otp_system.specs.declared.calls.Call.{Call}
use Rattle.rh_otp_system.specs.declared.moves.Move.TheVariants as move
use Rattle.rh_otp_laws.specs.Acting.{IsNew, new}
use Rattle.rh_otp_crashes.specs.Crashes.{FailOverLater}
use Rattle.rh_agreement.specs.Resting.{AreBothAtRest, held, RehearsalsBeginAtRest}
use Rattle.rh_agreement.specs.Telling.{at_step}

pub none_begun : (count k : ℕ) (net : NetView)
    → unwrap_or (option_and_then live_in (slice_get (replicate count (cell.Node never_begun) ++ cell.Net net ∷ []) k)) never_begun ≡ never_begun
none_begun zero zero net = refl
none_begun zero (suc k) net = refl
none_begun (suc count) zero net = refl
none_begun (suc count) (suc k) net = none_begun count k net

module _ (c : ClusterView) (pick : Pick) (files : List OwnFile) (order : Order) (within : IsWithin c) (later : FailOverLater (held (live_opened c files order))) where
  abbrev first_live : LiveSimView
  first_live = live_opened c files order

  none_there : (n : Node) → node_at (held first_live) n ≡ never_begun
  unfolding forgotten
  none_there n = none_begun (node_count c) n.0 first_net

  is_new : IsNew (held first_live)
  unfolding forgotten
  is_new = record {
    nodes = none_there;
    alive = ap (λ (v : NetView). v.alive) (net_so c files order);
    links = ap (λ (v : NetView). v.links) (net_so c files order);
    locks = ap (λ (v : NetView). v.locks) (net_so c files order);
    timers = ap (λ (v : NetView). v.timers) (net_so c files order);
    calls = ap (λ (v : NetView). open_of v.calls) (net_so c files order);
    messages = refl;
    slow = refl;
  }

  nothing_there : {A : Type 0} (xs : List A) (k : ℕ) → xs ≡ [] → k < length xs → ⊥
  nothing_there xs k none inside = let empty : length xs ≡ 0 = ap length none in omega (arith, empty, inside)

  first_settled : IsSettled (held first_live)
  first_settled (move.Deliver k) possible = nothing_there (held first_live).messages k is_new.messages possible
  first_settled (move.Slow k) possible = nothing_there (held first_live).slow k is_new.slow possible.1
  first_settled (move.Lock n) possible =
      none-some n (sym (ap (λ (nodes : List Node). slice_get nodes possible.1.0) is_new.alive) ∙ possible.1.1)
  first_settled (move.Call k) possible =
      none-some possible.1.0 (sym (ap (λ (calls : List Call). slice_get calls k) is_new.calls) ∙ possible.1.1)
  first_settled (move.End n) possible =
      none-some n (sym (ap (λ (nodes : List Node). slice_get nodes possible.1.0) is_new.alive) ∙ possible.1.1)

  pub first_rest : AreBothAtRest (opened c pick) first_live
  first_rest = record {
    valid = opened_valid c pick within 0;
    reached = new (held first_live) is_new;
    rest = record {
      settled = first_settled;
      calls = is_new.calls;
      dists = λ n d alive has. absurd (false≢true (sym (ap is_alive (none_there n)) ∙ alive));
    };
    later = later;
  }

  -- and so behind each number of steps
  always_rest : (k : ℕ) → k ≤ 0 → AreBothAtRest (at_step k (opened c pick)) (at_step_of k first_live)
  always_rest zero none = first_rest
  always_rest (suc k) none = absurd (omega (arith, none))

pub begin_at_rest : RehearsalsBeginAtRest
begin_at_rest c pick files order within later =
    record { now = first_rest c pick files order within later; always = always_rest c pick files order within later }
