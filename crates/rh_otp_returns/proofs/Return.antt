-- Where a node that comes back has joined, its boot script begins while all else is at rest: so the whole boot ends alike.
use Rattle.std.proofs.Common.{◌≡◌, ◌<◌, ◌==◌, Bool, true, List, [], ◌∷◌, length, filter, map, Some, sym, ap, subst, ◌∙◌}
use Rattle.std.specs.List.{range_with_len}
use Rattle.std.specs.Prelude.{All}
use Rattle.std.proofs.lemmas.Bool.{or_right}
use Rattle.std.proofs.lemmas.List.Elements.{All-nil, All-cons}
use Rattle.rh_model.specs.ClusterView.{ClusterView, numbered, boot_of}
use Rattle.rh_model.specs.declared.node.App.{App}
use Rattle.rh_model.specs.declared.node.Node.{Node}
use Rattle.rh_model.specs.declared.settings.Restart.{Restart}
use Rattle.rh_otp_model.specs.declared.wait.OwnFile.{OwnFile}
use Rattle.rh_otp_model.specs.Own.{EntryView}
use Rattle.rh_otp_controller.specs.State.{ControllerView}
use Rattle.rh_otp_dist.specs.Choosing.{backwards}
use Rattle.rh_otp_dist.specs.State.{DistView, may_run, permitted, is_among}
use Rattle.rh_otp_net.specs.Links.{are_linked}
use Rattle.rh_otp_system.specs.declared.slow.Slow.TheVariants.{Boot}
use Rattle.rh_otp_system.specs.Doing.{booted}
use Rattle.rh_otp_system.specs.Moves.{settled}
use Rattle.rh_otp_system.specs.State.{SystemView, node_at, own_at, is_alive_at}
use Rattle.rh_otp_system.proofs.Moving.{settles}
use Rattle.rh_otp_laws.specs.Acting.{IsReached}
use Rattle.rh_otp_orders.specs.Confluence.{EveryOrderEndsAlike}
use Rattle.rh_otp_crashes.specs.Crashes.{FailOverLater}
use Rattle.rh_otp_crashes.proofs.Turning.{own_in}
use Rattle.rh_otp_stops.specs.Stops.{EndsAlike}
use Rattle.rh_otp_starts.specs.Elsewhere.{candidates_at}
use Rattle.rh_otp_scripts.specs.Scripts.{HasNoTuple, SeesRunners, BootsAlone, CanBoot}
use Rattle.rh_otp_scripts.proofs.Script.{scripts_alike}
use Rattle.rh_otp_joins.specs.Joins.{HasJoined, uncounted}
use Rattle.rh_otp_joins.proofs.Ending.{ends_as_boot_does}
use Rattle.rh_otp_joins.proofs.Lists.{counted_in_list, passes}
use Rattle.rh_otp_joins.proofs.Stages.{up_alive}
use Rattle.rh_otp_returns.specs.Returns.{CanBootThere, ReturnsEndAlike}

-- a node that is among those of a list that pass a test passes it
passes_it : (p : Node → Bool) (m : Node) (nodes : List Node) → is_among m (filter p nodes) ≡ true → p m ≡ true
passes_it p m nodes among = passes p m nodes (counted_in_list m (filter p nodes) among)

-- each of the list that may run it, as a dist_ac knows, may run it
pub candidate_may : (s : SystemView) (n m : Node) (a : App) (d : DistView) → is_among m (candidates_at (own_at s n) a d) ≡ true
    → may_run d m a ≡ true
candidate_may s n m a d among =
    passes_it (λ (k : Node). may_run d k a) m (map numbered (range_with_len 0 (length d.may)))
    (passes_it (λ (k : Node). is_among k (permitted d a)) m (backwards (own_at s n) a) among)

-- what holds of each row holds of all
pub all_rows : (P : App × Restart → Type 0) (rows : List (App × Restart)) → ((row : App × Restart) → P row) → All P rows
all_rows P [] each = All-nil P
all_rows P (row ∷ rows) each = All-cons P row rows (each row) (all_rows P rows each)

-- nothing is left but the boot script
boots_alone : (n : Node) (s t : SystemView) → HasJoined n s t → t.slow ≡ Boot n ∷ [] → BootsAlone n t
boots_alone n s t f slow = record {
  messages = f.messages;
  slow = slow;
  calls = f.calls;
  locks = f.locks;
  dists = f.dists;
  ends = f.ends;
}

-- what its boot list names has the same lists where nothing of the files and of the cluster has changed
pub lists_still : (n : Node) (s t : SystemView) → t.files ≡ s.files → t.cluster ≡ s.cluster → CanBootThere n s → CanBootThere n t
lists_still n s t files cluster can =
    subst (λ (own_files : List OwnFile). All (λ (row : App × Restart). HasNoTuple (own_in own_files n) row.0) (boot_of t.cluster n))
    (sym files)
    (subst (λ (c : ClusterView). All (λ (row : App × Restart). HasNoTuple (own_at s n) row.0) (boot_of c n)) (sym cluster) can)

can_boot : (n : Node) (s t : SystemView) → HasJoined n s t → CanBootThere n s → CanBoot n t
can_boot n s t f can = record {
  alive = alive;
  requests = ap (λ (c : ControllerView). c.start_req) f.controller;
  sees_all = f.can_tell.sees_all;
  runners = λ d has. all_rows (λ (row : App × Restart). SeesRunners n row.0 d t) (boot_of t.cluster n) (λ row. runner d has row.0);
  lists = lists_still n s t f.files f.cluster can;
}
  where
    alive : is_alive_at t n ≡ true
    alive = up_alive (node_at t n) f.is_up

    runner : (d : DistView) → (node_at t n).dist ≡ Some d → (a : App) → SeesRunners n a d t
    runner d has a m apart among =
        let there : is_alive_at t m ≡ true = f.runners d m a has apart (candidate_may t n m a d among) in
        (there, or_right (n.0 == m.0) (are_linked n m t.links) (f.sees n m alive there (λ same. apart (sym same))))

pub fails_later : (s t : SystemView) → t.files ≡ s.files → t.ends_soon ≡ s.ends_soon → (s.ends_soon ≡ true → FailOverLater s)
    → t.ends_soon ≡ true → FailOverLater t
fails_later s t files ends_soon later soon =
    λ m. subst (λ (own_files : List OwnFile). All (λ (e : EntryView). 0 < e.timeout) (own_in own_files m).entries) (sym files)
    (later (sym ends_soon ∙ soon) m)

-- and so by any two orders that `settle` is told
pub by_any_two : (s : SystemView) → EveryOrderEndsAlike (uncounted s) → EndsAlike (uncounted s)
by_any_two s ends = (
  ends,
  λ most one other quiet quiet_too.
      ends.alike (settled most one s) (settled most other s) (settles most one s).0 ((settles most one s).1 quiet) (settles most other s).0
      ((settles most other s).1 quiet_too),
)

-- ---- the law

pub returns_alike : ReturnsEndAlike
returns_alike s n reached rest back can later = by_any_two (booted n s) ends
  where
    all : (t : SystemView) × IsReached t × HasJoined n s t × (t.slow ≡ Boot n ∷ [])
        × (EveryOrderEndsAlike t → EveryOrderEndsAlike (uncounted (booted n s)))
    all = ends_as_boot_does s n reached rest back

    t : SystemView
    t = all.0

    ends : EveryOrderEndsAlike (uncounted (booted n s))
    ends =
        all.4
        (scripts_alike t n all.1 (boots_alone n s t all.2 all.3) (can_boot n s t all.2 can)
        (fails_later s t all.2.files all.2.ends_soon later)).0
