-- Permissions of a distributed application that change nothing else are answered alike, and both are at rest again.
use Rattle.std.proofs.Common.{◌≡◌, ◌<◌, ◌+◌, ℕ, Bool, true, false, [], ◌∷◌, length, Some, refl, sym, inl, inr, arith}
use Rattle.std.proofs.lemmas.Bool.{false≢true}
use Rattle.std.proofs.lemmas.List.Elements.{All-nil, All-cons}
use Rattle.rh_model.specs.declared.node.App.{App}
use Rattle.rh_model.specs.declared.node.Node.{Node}
use Rattle.rh_rules.specs.declared.event.Event.TheVariants as event
use Rattle.rh_state.specs.StateView.{StateView}
use Rattle.rh_trail.specs.SimView.{SimView, state_of}
use Rattle.rh_calls.specs.declared.call.Call.TheVariants as call
use Rattle.rh_otp_model.specs.declared.fault.Outcome.TheVariants as outcome
use Rattle.rh_otp_model.specs.declared.message.Message.{Message}
use Rattle.rh_otp_model.specs.declared.output.Envelope.{Envelope}
use Rattle.rh_otp_dist.specs.declared.state.Stand.TheVariants as stand
use Rattle.rh_otp_dist.specs.Choosing.{backwards}
use Rattle.rh_otp_dist.specs.State.{DistView, TurnView, standing_of}
use Rattle.rh_otp_dist.specs.Calls.{permit}
use Rattle.rh_otp_dist.specs.Told.{is_local}
use Rattle.rh_otp_dist.specs.Waiting.{takes}
use Rattle.rh_otp_sim.specs.Acting.{most_moves}
use Rattle.rh_otp_sim.specs.Sim.{LiveSimView}
use Rattle.rh_otp_system.specs.declared.calls.Call.{Call}
use Rattle.rh_otp_system.specs.Calling.{is_only_loaded}
use Rattle.rh_otp_system.specs.Resting.{forgotten}
use Rattle.rh_otp_system.specs.State.{SystemView, node_at, own_at}
use Rattle.rh_otp_crashes.specs.Crashes.{IsUnoccupied}
use Rattle.rh_otp_crashes.proofs.Turning.{weighing}
use Rattle.rh_otp_system.specs.Calls.{process_of}
use Rattle.rh_otp_permits.specs.Permits.{ChangesNothing, is_begun}
use Rattle.rh_otp_permits.proofs.Asking.{IsQuiet as ChangesAlone, first_answer, permitted_over, permits_so}
use Rattle.rh_otp_permits.proofs.Noting.{answer_of}
use Rattle.rh_agreement.specs.Telling.{GoTogether}
use Rattle.rh_agreement.specs.Laws.{HasRoom}
use Rattle.rh_agreement.specs.Resting.{AreBothAtRest, AreAlwaysAtRest, held}
use Rattle.rh_agreement.proofs.Always.{GoesOn}
use Rattle.rh_agreement_spread.specs.Stops.{IsLeftAlike}
use Rattle.rh_agreement_spread.proofs.Alike.{Comes, comes_alike, goes_on}
use Rattle.rh_agreement_permits.specs.Permits.{ChangesNoMore, NotesAloneLive, PermitsAloneAreAnsweredAlike}
use Rattle.rh_agreement_permits.proofs.Notes.{IsSaid, answers}
use Rattle.rh_agreement_permits.proofs.Permitting.{Begins}
use Rattle.rh_agreement_permits.proofs.Noted.{asked_so}
use Rattle.rh_agreement_permits.proofs.Noted as noted
use Rattle.rh_agreement_permits.proofs.Permitting as permitting
use Rattle.rh_agreement_permits.proofs.Setting.{Asks, turn_of}

only_so : (begun : Bool) → begun ≡ false → is_only_loaded (first_answer begun) ≡ true
only_so false is = refl
only_so true is = absurd (false≢true (sym is))

module _ (sim : SimView) (l : LiveSimView) (n : Node) (a : App) (allow : Bool) (together : GoTogether sim l) (room : HasRoom sim l)
    (at_rest : AreBothAtRest sim l) (can : ChangesNoMore (state_of sim) n a allow) (live_can : NotesAloneLive l n a allow) where
  abbrev s : StateView
  s = state_of sim

  abbrev begins : Begins sim l n a
  begins = record {
    together = together;
    room = room;
    at_rest = at_rest;
    app = can.app;
    up = can.up;
    own = live_can.own;
    stays = live_can.stays;
    synchronised = live_can.notes.synchronised;
  }

  abbrev told : Call
  told = permitting.told allow begins

  abbrev asked : SystemView
  asked = permitting.asked allow begins

  abbrev lives : Node → ℕ
  lives = permitting.lives allow begins

  -- ---- its dist_ac's turn

  abbrev d : DistView
  d = live_can.dist

  asks : Asks lives told asked (permitting.asked_node allow begins) d
  asks = asked_so allow begins d live_can.has live_can.takes_all live_can.notes.sees

  has : (node_at (held l) n).dist ≡ Some d
  unfolding forgotten
  has = live_can.has

  changes : ChangesNothing allow a (node_at (held l) n).controller d
  changes = live_can.notes.notes d has live_can.takes_all

  alone : ChangesAlone allow (permitting.only allow begins) (standing_of d a)
  alone = elim changes.quiet [
    | inl unbegun ↦ inl (only_so (is_begun a (node_at (held l) n).controller) unbegun)
    | inr either ↦ inr either
  ]

  abbrev his : Bool
  his = is_local (standing_of d a)

  abbrev over_turn : TurnView
  over_turn = permitted_over a allow (process_of told) (turn_of lives told asked d)

  sets : (w : ℕ) → permit a allow (permitting.only allow begins) (process_of told) (weighing w (turn_of lives told asked d))
      ≡ weighing w over_turn
  sets w = permits_so a allow (permitting.only allow begins) (process_of told) (weighing w (turn_of lives told asked d)) alone

  abbrev answer : Envelope
  answer = answer_of lives told outcome.Done

  over_free : IsUnoccupied over_turn.state
  over_free = record {
    stand = inl refl;
    mail = All-nil (λ (m : Message). takes stand.Idle m ≡ false);
    permits = asks.free.permits;
    parked = asks.free.parked;
  }

  short : length (backwards (own_at (held l) n) a) + 4 < most_moves
  short = live_can.few

  it_comes : Comes sim l (event.Permit n a allow) [] []
  it_comes =
      noted.it_comes allow his false begins can asks over_turn (answer ∷ []) sets refl over_free changes.not_here
      (All-cons (IsSaid lives told allow his false) answer [] answers (All-nil (IsSaid lives told allow his false))) refl
      (omega (arith, short)) (λ no. absurd (false≢true no))

  permit_alike : IsLeftAlike (event.Permit n a allow) sim l
  permit_alike = comes_alike sim l (event.Permit n a allow) [] [] together room at_rest it_comes

  pub permit_on : AreAlwaysAtRest sim l → GoesOn (call.Step (event.Permit n a allow)) sim l
  permit_on = goes_on sim l (event.Permit n a allow) [] [] together room at_rest it_comes

pub permits_alike : PermitsAloneAreAnsweredAlike
permits_alike sim l n a allow together room at_rest can live_can = permit_alike sim l n a allow together room at_rest can live_can
