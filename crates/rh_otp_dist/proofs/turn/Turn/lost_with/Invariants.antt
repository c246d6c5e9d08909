use Rattle.std.proofs.Common.{◌≡◌, ◌++◌, drop, filter, map}
use Rattle.rh_otp_model.specs.Own.{EntryView}
use Rattle.rh_otp_dist.specs.Down.{is_lost, lost_with}
use Rattle.rh_otp_dist.proofs.turn.Turn.lost_with.Given as goal

abbrev pub invariant-loop-entry : goal.invariant-loop-entry
invariant-loop-entry l =
    l.rows.items ++ map (λ (e : EntryView). (e.app, e.timeout)) (filter (λ (e : EntryView). is_lost l.node l.self e.app) (drop l.entry-index l.entry-items))
    ≡ lost_with l.node l.self
