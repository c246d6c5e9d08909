-- A worked row of calls one after the other: a start at the first of two nodes, forbids at the second one and at the first one, by which the
-- application stops, and a permit by which it starts there again.
use Rattle.std.proofs.Common.{false, true, None, List, [], ◌∷◌, refl, sym, subst, inl, inr}
use Rattle.rh_model.specs.declared.settings.Restart.TheVariants.{Temporary}
use Rattle.rh_rules.specs.declared.event.Event.TheVariants as event
use Rattle.rh_calls.specs.declared.call.Call.{Call}
use Rattle.rh_calls.specs.declared.call.Call.TheVariants as call
use Rattle.rh_state.specs.StateView.{StateView}
use Rattle.rh_otp_sim.specs.Sim.{LiveSimView}
use Rattle.rh_agreement.specs.Resting.{AreAnsweredAlike}
use Rattle.rh_agreement_spread.proofs.RowsPair.{a, b, web}
use Rattle.rh_agreement_spread.proofs.RowsTwo.{sim_two, live_two, together_two}
use Rattle.rh_agreement_spread.proofs.RowsTwoCalls.{state_so, live_is, room_two, room_three, can_place, can_place_live}
use Rattle.rh_agreement_takeovers.proofs.RowsCalls.{always_two}
use Rattle.rh_agreement_permits.specs.Permits.{ChangesNoMore, NotesAloneLive}
use Rattle.rh_agreement_permits.specs.Stops.{CanRunThereAlone, StopsThereLive}
use Rattle.rh_agreement_permits.proofs.Rows.{notes_then, notes_live_then, alone_then, stops_then, four_so, four_is, room_four}
use Rattle.rh_agreement_grants.specs.Grants.{StartsOncePermitted, StartsOncePermittedLive}
use Rattle.rh_agreement_grants.proofs.Calls.{calls_and_grants_alike}
use Rattle.rh_agreement_grants.proofs.Rows.{five_so, five_is, room_five, grants_then, grants_live}

abbrev calls : List Call
calls =
    call.Step (event.Start a web Temporary) ∷ call.Step (event.Permit b web false) ∷ call.Step (event.Permit a web false)
    ∷ call.Step (event.Permit a web true) ∷ []

row : AreAnsweredAlike calls sim_two live_two
row = calls_and_grants_alike sim_two live_two calls together_two always_two (
  inr (inr (inl (room_two, inl (can_place, can_place_live)))),
  (
    inr (inl (
      room_three,
      inl (
        subst (λ (s : StateView). ChangesNoMore s b web false) (sym state_so) notes_then,
        subst (λ (l : LiveSimView). NotesAloneLive l b web false) (sym live_is) notes_live_then,
      ),
    )),
    (
      inr (inl (
        room_four,
        inr (inr (
          refl,
          subst (λ (s : StateView). CanRunThereAlone s a web) (sym four_so) alone_then,
          subst (λ (l : LiveSimView). StopsThereLive l a web) (sym four_is) stops_then,
        )),
      )),
      (
        inl (
          room_five,
          (
            refl,
            inl (
              (None, subst (λ (s : StateView). StartsOncePermitted s a web None) (sym five_so) grants_then),
              subst (λ (l : LiveSimView). StartsOncePermittedLive l a web) (sym five_is) grants_live,
            ),
          ),
        ),
        tt,
      ),
    ),
  ),
)
