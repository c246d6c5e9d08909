-- Where no node has begun both tell the same.
use Rattle.std.proofs.Common.{◌≡◌, ◌≤◌, ◌<◌, ◌+◌, ℕ, zero, suc, List, [], ◌∷◌, ◌++◌, length, replicate, slice_get, unwrap_or, Option, Some, refl, sym, ap, subst, ◌∙◌, arith}
use Rattle.std.specs.Option.{option_and_then}
use Rattle.std.proofs.lemmas.List.{get_or-replicate, length-replicate, length_push}
use Rattle.rh_model.specs.ClusterView.{ClusterView, node_count}
use Rattle.rh_model.specs.declared.node.Node.{Node}
use Rattle.rh_rules.specs.declared.pick.Pick.{Pick}
use Rattle.rh_state.specs.declared.status.Mode.TheVariants as mode
use Rattle.rh_state.specs.First.{first}
use Rattle.rh_state.specs.Limits.{incarnation_limit}
use Rattle.rh_state.specs.StateView.{incarnation_of}
use Rattle.rh_trail.specs.Lone.{opened}
use Rattle.rh_trail.specs.SimView.{state_of}
use Rattle.rh_otp_model.specs.declared.wait.OwnFile.{OwnFile}
use Rattle.rh_otp_net.specs.declared.order.Order.{Order}
use Rattle.rh_otp_node.specs.Live.{never_begun}
use Rattle.rh_otp_sim.specs.Sim.{LiveSimView, first_net, net_in, net_of_cell, at_step_of}
use Rattle.rh_otp_sim.specs.Sim.{opened as live_opened}
use Rattle.rh_otp_system.specs.declared.cell.Cell.{Cell}
use Rattle.rh_otp_system.specs.declared.cell.Cell.TheVariants as cell
use Rattle.rh_otp_system.specs.State.{live_in}
use Rattle.rh_agreement.specs.Telling.{TellTheSame, at_step, mode_of_phase}
use Rattle.rh_agreement.specs.Laws.{RehearsalsBeginTogether}

at_replicate : {A : Type 0} (count i : ℕ) (x : A) → unwrap_or (slice_get (replicate count x) i) x ≡ x
at_replicate zero i x = refl
at_replicate (suc count) zero x = refl
at_replicate (suc count) (suc i) x = at_replicate count i x

-- the first cells, and the one behind them
one_of_first : (count i : ℕ) (x y : Cell) → i < count → slice_get (replicate count x ++ y ∷ []) i ≡ Some x
one_of_first zero i x y within = absurd (omega (arith, within))
one_of_first (suc count) zero x y within = refl
one_of_first (suc count) (suc i) x y within = one_of_first count i x y (omega (arith, within))

last_of_all : (count : ℕ) (x y : Cell) → slice_get (replicate count x ++ y ∷ []) count ≡ Some y
last_of_all zero x y = refl
last_of_all (suc count) x y = last_of_all count x y

module _ (c : ClusterView) (files : List OwnFile) (order : Order) where
  abbrev live : LiveSimView
  live = live_opened c files order

  pub net_so : net_in live ≡ first_net
  net_so = ap net_of_cell (last_of_all (node_count c) (cell.Node never_begun) (cell.Net first_net))

  node_so : (n : Node) → n.0 < node_count c → slice_get live.history.now n.0 ≡ Some (cell.Node never_begun)
  node_so n within = one_of_first (node_count c) n.0 (cell.Node never_begun) (cell.Net first_net) within

  never : (n : Node) → n.0 < node_count c → incarnation_of (first c) n ≡ 0
  never n within = get_or-replicate (node_count c) n.0 0 0 within

  told : TellTheSame (first c) live
  told = record {
    cluster = refl;
    clock = ap (λ v. v.clock) net_so;
    modes = λ n within.
        ap (λ (o : Option Cell). mode_of_phase (unwrap_or (option_and_then live_in o) never_begun).phase) (node_so n within)
        ∙ sym (at_replicate (node_count c) n.0 mode.Down);
    begun = λ n within.
        ap (λ (o : Option Cell). (unwrap_or (option_and_then live_in o) never_begun).life) (node_so n within) ∙ sym (never n within);
    limited = λ n within. subst (λ (k : ℕ). k ≤ incarnation_limit) (sym (never n within)) (omega arith);
    cells =
        let many : length live.history.now ≡ length (replicate (node_count c) (cell.Node never_begun)) + 1 =
        length_push (replicate (node_count c) (cell.Node never_begun)) (cell.Net first_net) in
        omega (arith, many, length-replicate (node_count c) (cell.Node never_begun));
  }

  -- behind no step it is the same
  always : (pick : Pick) (k : ℕ) → k ≤ 0 → TellTheSame (state_of (at_step k (opened c pick))) (at_step_of k live)
  always pick zero none = told
  always pick (suc k) none = absurd (omega (arith, none))

pub begin_together : RehearsalsBeginTogether
begin_together c pick files order = record {
  cluster = refl;
  now = told c files order;
  always = always c files order pick;
  done = refl;
  steps = refl;
  within = omega arith;
}
