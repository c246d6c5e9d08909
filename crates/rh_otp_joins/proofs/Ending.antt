-- Where a node comes back, every order ends alike if every order of what its boot script does ends alike.
use Rattle.std.proofs.Common.{◌≡◌, ℕ, [], ◌∷◌, refl, sym, subst}
use Rattle.std.proofs.lemmas.List.Elements.{All-nil}
use Rattle.rh_model.specs.declared.node.Node.{Node}
use Rattle.rh_otp_system.specs.declared.slow.Slow.TheVariants.{Boot}
use Rattle.rh_otp_system.specs.Doing.{booted}
use Rattle.rh_otp_system.specs.Moves.{Reaches, here, behind_one}
use Rattle.rh_otp_system.specs.State.{SystemView}
use Rattle.rh_otp_laws.specs.Acting.{IsReached, acts, begins, later, settles}
use Rattle.rh_otp_orders.specs.Confluence.{EveryOrderEndsAlike}
use Rattle.rh_otp_orders.proofs.Confluence.{reached_by}
use Rattle.rh_otp_joins.specs.Joins.{IsDoneAlready, HasJoined, uncounted, JoinsEndAsBootsDo}
use Rattle.rh_otp_joins.specs.Leading.{LeadsTo}
use Rattle.rh_otp_joins.proofs.Idling.{fronted, there_already, drained}
use Rattle.rh_otp_joins.proofs.Leading.{ends_alike}
use Rattle.rh_otp_joins.proofs.Returning.{comes_back}

-- the same, where the connections have come about
abbrev without_connects : Node → SystemView → SystemView
without_connects n t = record t { slow = Boot n ∷ [] }

joined_without : (n : Node) (s t : SystemView) → HasJoined n s t → HasJoined n s (without_connects n t)
joined_without n s t f = record {
  cluster = f.cluster;
  files = f.files;
  alive = f.alive;
  is_up = f.is_up;
  place = f.place;
  controller = f.controller;
  synchronised = f.synchronised;
  runners = f.runners;
  dists = f.dists;
  ready = f.ready;
  others = f.others;
  ends = f.ends;
  ends_soon = f.ends_soon;
  messages = f.messages;
  connects = [];
  slow = refl;
  done = All-nil (IsDoneAlready (without_connects n t));
  calls = f.calls;
  locks = f.locks;
  events = f.events;
  sees = f.sees;
  can_tell = record {
    sees_all = record { takeovers = f.can_tell.sees_all.takeovers; sees = f.can_tell.sees_all.sees };
    ends = f.can_tell.ends;
  };
}

pub reached_there : (s t : SystemView) → Reaches s t → IsReached s → IsReached t
reached_there _ _ (here s) reached = reached
reached_there _ _ (behind_one s t u one rest) reached = reached_there t u rest (reached_by s t one reached)

pub ends_as_boot_does : JoinsEndAsBootsDo
ends_as_boot_does s n reached rest back = (
  last,
  drained f.connects last (subst IsReached t_so t_reached) f.messages f.done,
  joined_without n s t f,
  refl,
  λ ends.
      ends_alike weight first t first_reached leads
      (subst EveryOrderEndsAlike (sym t_so)
      (there_already last f.connects (drained f.connects last (subst IsReached t_so t_reached) f.messages f.done) f.done ends)),
)
  where
    first : SystemView
    first = uncounted (booted n s)

    all : (k : ℕ) × (t : SystemView) × LeadsTo k first t × Reaches first t × HasJoined n s t
    all = comes_back s n reached rest back

    weight : ℕ
    weight = all.0

    t : SystemView
    t = all.1

    leads : LeadsTo weight first t
    leads = all.2

    f : HasJoined n s t
    f = all.4

    last : SystemView
    last = without_connects n t

    t_so : t ≡ fronted f.connects last
    t_so = λ i. record t { slow = f.slow i }

    first_reached : IsReached first
    first_reached =
        later (booted n s) first (later s (booted n s) reached (acts s (booted n s) (begins s n back.there back.down))) (settles (booted n s))

    t_reached : IsReached t
    t_reached = reached_there first t all.3 first_reached
