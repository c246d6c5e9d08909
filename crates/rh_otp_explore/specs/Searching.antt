-- What a search on live nodes answers (ours).
use Rattle.std.specs.Prelude.{◌≡◌, ◌⊎◌, ◌≤◌, ◌<◌, ℕ, suc, List, [], map, length, take, Bool, true, false, not, Option}
use Rattle.std.specs.List.{find, list_all}
use Rattle.std.specs.Option.{option_map}
use Rattle.rh_explore.specs.declared.bounds.Covered.{Covered}
use Rattle.rh_explore.specs.declared.bounds.Covered.TheVariants as covered
use Rattle.rh_explore_text.specs.Asks.{AskView}
use Rattle.rh_otp_sim.specs.Sim.{LiveSimView, without_past}
use Rattle.rh_otp_explore.specs.Asking.{holds_in}
use Rattle.rh_otp_explore.specs.Listing.{Scope, Behind, level, up_to}
use Rattle.rh_otp_explore.specs.Tallying.{AskedView, FailureView, failure_of, has_failed}

-- the list without events, behind a base
abbrev pub at_base : LiveSimView → Behind
at_base base = record { events = []; sim = without_past base }

-- ---- what an ask comes to

abbrev pub fails_behind : AskView → Behind → Bool
fails_behind q b = not (holds_in q b.sim)

-- the first of these lists behind which it doesn't hold, if there is one, with what is told there
abbrev pub first_failing : AskView → List Behind → Option FailureView
first_failing q tried = option_map failure_of (find (fails_behind q) tried)

abbrev pub asked_of : List Behind → AskView → AskedView
asked_of tried q = record { ask = q; first = first_failing q tried }

-- ---- which lists were tried

-- what is told of a search: how many lists were tried, of which lengths all were, and what is known of each ask
pub record LiveExploredView : Type 0 where
  pub lists : ℕ
  pub covered : Covered
  pub asked : List AskedView

-- the lists that were tried: so many of those that may come, shorter ones first
abbrev pub tried : Scope → ℕ → Behind → LiveExploredView → List Behind
tried w steps b x = take x.lists (up_to w steps b)

-- all of the told lengths were: of any, where no list has so many events; or of at most so many events, and none was that is longer by two
abbrev pub IsCovered : Scope → ℕ → Behind → ℕ → Covered → Type 0
IsCovered w steps b lists covered.All = (n : ℕ) × (n ≤ steps) × (level w n b ≡ []) × (length (up_to w n b) ≤ lists)
IsCovered w steps b lists (covered.UpTo n) =
    (n ≤ steps) × (length (up_to w n b) ≤ lists) × (lists ≤ length (up_to w (suc n) b))

-- all lists within the bound of steps were
abbrev pub CoversAll : ℕ → Covered → Type 0
CoversAll steps covered.All = Unit {0}
CoversAll steps (covered.UpTo n) = steps ≤ n

-- has each ask failed behind one of these lists?
abbrev pub all_failed : List AskView → List Behind → Bool
all_failed asks lists = list_all has_failed (map (asked_of lists) asks)

-- so many were tried as there may be, or each ask has failed
abbrev pub IsEnough : ℕ → LiveExploredView → Type 0
IsEnough most x = (most ≤ x.lists) ⊎ (list_all has_failed x.asked ≡ true)

-- ---- the whole

-- What a search answers behind a base, of lists of at most so many events, and of so many lists at most. The lists are tried in their order,
-- one at least; of each ask it is told which is the first behind which it doesn't hold; none is tried once each has failed; and all of the
-- told lengths were tried, which are all within the bound unless what was tried was enough.
pub record IsLiveAnswer (w : Scope) (base : LiveSimView) (steps most : ℕ) (asks : List AskView) (x : LiveExploredView) : Type 0 where
  pub some : 0 < x.lists
  pub few : (x.lists ≤ most) ⊎ (x.lists ≡ 1)
  pub there : x.lists ≤ length (up_to w steps (at_base base))
  pub asked : x.asked ≡ map (asked_of (tried w steps (at_base base) x)) asks
  pub prompt : (k : ℕ) → 0 < k → k < x.lists → all_failed asks (take k (up_to w steps (at_base base))) ≡ false
  pub covered : IsCovered w steps (at_base base) x.lists x.covered
  pub whole : (IsEnough most x → ⊥) → CoversAll steps x.covered
