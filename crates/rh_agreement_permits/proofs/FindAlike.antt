-- Permits of a distributed application that runs elsewhere, and is called nowhere, are answered alike, and both are at rest again.
use Rattle.std.proofs.Common.{◌≡◌, ◌<◌, ◌+◌, ◌++◌, ℕ, Bool, true, false, List, [], ◌∷◌, length, Some, refl, ap, ◌∙◌, inl, arith}
use Rattle.std.specs.Prelude.{All}
use Rattle.std.proofs.lemmas.List.Elements.{All-nil, All-cons}
use Rattle.rh_model.specs.declared.node.App.{App}
use Rattle.rh_model.specs.declared.node.Node.{Node}
use Rattle.rh_rules.specs.declared.event.Event.TheVariants as event
use Rattle.rh_state.specs.StateView.{StateView}
use Rattle.rh_trail.specs.SimView.{SimView, state_of}
use Rattle.rh_calls.specs.declared.call.Call.TheVariants as call
use Rattle.rh_otp_model.specs.declared.fault.Outcome.TheVariants as outcome
use Rattle.rh_otp_model.specs.declared.message.Message.{Message}
use Rattle.rh_otp_model.specs.declared.message.Message.TheVariants as message
use Rattle.rh_otp_model.specs.declared.output.Envelope.{Envelope}
use Rattle.rh_otp_dist.specs.declared.state.Stand.TheVariants as stand
use Rattle.rh_otp_dist.specs.Choosing.{backwards}
use Rattle.rh_otp_dist.specs.State.{DistView, TurnView}
use Rattle.rh_otp_dist.specs.Calls.{permit}
use Rattle.rh_otp_dist.specs.Waiting.{takes}
use Rattle.rh_otp_sim.specs.Acting.{most_moves}
use Rattle.rh_otp_sim.specs.Sim.{LiveSimView}
use Rattle.rh_otp_system.specs.declared.calls.Call.{Call}
use Rattle.rh_otp_system.specs.Calling.{is_only_loaded}
use Rattle.rh_otp_system.specs.Resting.{forgotten}
use Rattle.rh_otp_system.specs.State.{SystemView, node_at, own_at}
use Rattle.rh_otp_crashes.specs.Crashes.{IsUnoccupied}
use Rattle.rh_otp_crashes.proofs.Turning.{weighing}
use Rattle.rh_otp_system.specs.Calls.{process_of}
use Rattle.rh_otp_permits.specs.Permits.{is_begun}
use Rattle.rh_otp_permits.proofs.Asking.{first_answer}
use Rattle.rh_otp_permits.proofs.Noting.{answer_of}
use Rattle.rh_agreement.specs.Telling.{GoTogether}
use Rattle.rh_agreement.specs.Laws.{HasRoom}
use Rattle.rh_agreement.specs.Resting.{AreBothAtRest, AreAlwaysAtRest, held}
use Rattle.rh_agreement.proofs.Always.{GoesOn}
use Rattle.rh_agreement_spread.specs.Stops.{IsLeftAlike}
use Rattle.rh_agreement_spread.proofs.Alike.{Comes, comes_alike, goes_on}
use Rattle.rh_agreement_permits.specs.Permits.{ChangesNoMore}
use Rattle.rh_agreement_permits.specs.Elsewhere.{FindsElsewhereLive, PermitsWhereItRunsElsewhereAreAnsweredAlike}
use Rattle.rh_agreement_permits.proofs.Noted.{asked_so}
use Rattle.rh_agreement_permits.proofs.Noted as noted
use Rattle.rh_agreement_permits.proofs.Notes.{IsSaid, answers, learns, learned}
use Rattle.rh_agreement_permits.proofs.Permitting.{Begins}
use Rattle.rh_agreement_permits.proofs.Permitting as permitting
use Rattle.rh_agreement_permits.proofs.Setting.{Asks, turn_of, all_sends}
use Rattle.std.proofs.lemmas.List.{append_assoc}
use Rattle.rh_otp_controller.specs.Calls.{is_here}
use Rattle.rh_otp_crashes.proofs.Posting.{posts}
use Rattle.rh_otp_model.specs.declared.output.Output.TheVariants as output
use Rattle.rh_otp_model.specs.Rows.{keyfind}
use Rattle.rh_otp_moves.specs.Elsewhere.{IsFoundThen}
use Rattle.rh_otp_moves.proofs.Finding.{found_over, finds_it}
use Rattle.rh_otp_moves.proofs.Permit.{permit_looks}

module _ (sim : SimView) (l : LiveSimView) (n : Node) (a : App) (together : GoTogether sim l) (room : HasRoom sim l)
    (at_rest : AreBothAtRest sim l) (can : ChangesNoMore (state_of sim) n a true) (live_can : FindsElsewhereLive l n a) where
  abbrev s : StateView
  s = state_of sim

  abbrev begins : Begins sim l n a
  begins = record {
    together = together;
    room = room;
    at_rest = at_rest;
    app = can.app;
    up = can.up;
    own = live_can.own;
    stays = live_can.stays;
    synchronised = live_can.finds.sees_list.synchronised;
  }

  abbrev told : Call
  told = permitting.told true begins

  abbrev asked : SystemView
  asked = permitting.asked true begins

  abbrev lives : Node → ℕ
  lives = permitting.lives true begins

  -- ---- its dist_ac's turn

  abbrev d : DistView
  d = live_can.dist

  asks : Asks lives told asked (permitting.asked_node true begins) d
  asks = asked_so true begins d live_can.has live_can.takes_all live_can.finds.sees_list.sees

  has : (node_at (held l) n).dist ≡ Some d
  unfolding forgotten
  has = live_can.has

  live_begun : is_begun a (node_at (held l) n).controller ≡ true
  unfolding forgotten
  live_begun = live_can.begun

  only_no : permitting.only true begins ≡ false
  only_no = ap (λ (b : Bool). is_only_loaded (first_answer b)) live_begun

  found_then : IsFoundThen (own_at (held l) n) n a d
  found_then = live_can.finds.finds d has live_can.takes_all

  abbrev j : Node
  j = found_then.elsewhere.at

  abbrev over_turn : TurnView
  over_turn = found_over a j (process_of told) (turn_of lives told asked d)

  sets : (w : ℕ) → permit a true (permitting.only true begins) (process_of told) (weighing w (turn_of lives told asked d))
      ≡ weighing w over_turn
  sets w =
      ap (λ (b : Bool). permit a true b (process_of told) (weighing w (turn_of lives told asked d))) only_no
      ∙ permit_looks a (process_of told) (weighing w (turn_of lives told asked d)) found_then.not_here
      ∙ finds_it a j (process_of told) (weighing w (turn_of lives told asked d)) found_then.elsewhere.found

  abbrev lasts : List Envelope
  lasts = learned lives told j ∷ answer_of lives told outcome.Done ∷ []

  says : over_turn.out ≡ posts n (message.NewPermission n a true false) (backwards (own_at (held l) n) a) ++ all_sends lasts
  says =
      append_assoc (posts n (message.NewPermission n a true false) (backwards (own_at (held l) n) a))
      (output.Send (learned lives told j) ∷ []) (output.Send (answer_of lives told outcome.Done) ∷ [])

  last_kinds : All (IsSaid lives told true false true) lasts
  last_kinds =
      All-cons (IsSaid lives told true false true) (learned lives told j) (answer_of lives told outcome.Done ∷ []) (learns refl j)
      (All-cons (IsSaid lives told true false true) (answer_of lives told outcome.Done) [] answers
      (All-nil (IsSaid lives told true false true)))

  over_free : IsUnoccupied over_turn.state
  over_free = record {
    stand = inl refl;
    mail = All-nil (λ (m : Message). takes stand.Idle m ≡ false);
    permits = asks.free.permits;
    parked = asks.free.parked;
  }

  live_runs_not : is_here (keyfind a (node_at (held l) n).controller.running) ≡ false
  unfolding forgotten
  live_runs_not = live_can.runs_not

  short : length (backwards (own_at (held l) n) a) + 5 < most_moves
  short = live_can.few

  it_comes : Comes sim l (event.Permit n a true) [] []
  it_comes =
      noted.it_comes true false true begins can asks over_turn lasts sets says over_free refl last_kinds refl (omega (arith, short))
      (λ is. live_runs_not)

  find_alike : IsLeftAlike (event.Permit n a true) sim l
  find_alike = comes_alike sim l (event.Permit n a true) [] [] together room at_rest it_comes

  pub find_on : AreAlwaysAtRest sim l → GoesOn (call.Step (event.Permit n a true)) sim l
  find_on = goes_on sim l (event.Permit n a true) [] [] together room at_rest it_comes

pub finds_alike : PermitsWhereItRunsElsewhereAreAnsweredAlike
finds_alike sim l n a together room at_rest can live_can = find_alike sim l n a together room at_rest can live_can
