use Rattle.std.proofs.Common.{◌≡◌, ◌==◌, drop, find, option_map, unwrap_or, []}
use Rattle.rh_otp_model.specs.Own.{EntryView}
use Rattle.rh_otp_dist.specs.Choosing.{places_of}
use Rattle.rh_otp_dist.proofs.reading.places_of.Given as goal

abbrev pub invariant-loop-entry : goal.invariant-loop-entry
invariant-loop-entry l =
    unwrap_or (option_map (λ (e : EntryView). e.places) (find (λ (e : EntryView). e.app.0 == l.app.0) (drop l.entry-index l.entry-items))) []
    ≡ places_of l.own l.app
