use Rattle.std.proofs.Common.{◌≡◌, ◌==◌, drop}
use Rattle.std.specs.List.{list_any}
use Rattle.rh_otp_model.specs.Own.{EntryView}
use Rattle.rh_otp_model.proofs.own.has_entry.Given as goal

abbrev pub invariant-loop-entry : goal.invariant-loop-entry
invariant-loop-entry l = list_any (λ (e : EntryView). e.app.0 == l.app.0) (drop l.entry-index l.entries) ≡ list_any (λ (e : EntryView). e.app.0 == l.app.0) l.entries
