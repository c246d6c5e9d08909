-- What is known of asks behind the lists that were tried (ours).
use Rattle.std.specs.Prelude.{ℕ, ◌+◌, nat_lt, nat_le, List, [], ◌∷◌, map, fold, Bool, ◌&&◌, ◌||◌, is_some, Option, Some, None, if◌then◌else◌}
use Rattle.std.specs.List.{list_all}
use Rattle.rh_rules.specs.declared.event.Event.{Event}
use Rattle.rh_explore_text.specs.Asks.{AskView}
use Rattle.rh_otp_report.specs.Report.{report_of}
use Rattle.rh_otp_report.specs.Views.{ReportView}
use Rattle.rh_otp_explore.specs.Asking.{holds_in}
use Rattle.rh_otp_explore.specs.Listing.{Behind}

-- a list of events, and what is told of the live nodes behind it
pub record FailureView : Type 0 where
  pub events : List Event
  pub report : ReportView

-- what is asked, and the first list behind which it doesn't hold, if there was one
pub record AskedView : Type 0 where
  pub ask : AskView
  pub first : Option FailureView

-- how many lists were tried, and what is known of each ask
pub record TallyView : Type 0 where
  pub lists : ℕ
  pub asked : List AskedView

abbrev pub has_failed : AskedView → Bool
has_failed q = is_some q.first

-- one list at least is tried, and then no more than so many, and none behind that by which the last ask has failed
abbrev pub is_over : ℕ → TallyView → Bool
is_over states t = nat_lt 0 t.lists && (nat_le states t.lists || list_all has_failed t.asked)

abbrev pub failure_of : Behind → FailureView
failure_of b = record { events = b.events; report = report_of b.sim }

abbrev pub first_by : AskView → Behind → Option FailureView → Option FailureView
first_by q b (Some failure) = Some failure
first_by q b None = if holds_in q b.sim then None else Some (failure_of b)

-- an ask behind a list more
abbrev pub judged : Behind → AskedView → AskedView
judged b q = record q { first = first_by q.ask b q.first }

-- a list more is tried, if it isn't over
abbrev pub tallied : ℕ → TallyView → Behind → TallyView
tallied states t b = if is_over states t then t else record { lists = t.lists + 1; asked = map (judged b) t.asked }

abbrev pub all_tallied : ℕ → TallyView → List Behind → TallyView
all_tallied states t bs = fold (tallied states) t bs

-- before the first list
abbrev pub not_failed : AskView → AskedView
not_failed q = record { ask = q; first = None }

abbrev pub nothing_tried : List AskView → TallyView
nothing_tried asks = record { lists = 0; asked = map not_failed asks }
