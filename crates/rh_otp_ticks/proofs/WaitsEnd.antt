-- A wait that ends by its time while a mandatory node isn't there: the end of the wait is all that can come, and it ends the node as a
-- crash does.
use Rattle.std.proofs.Common.{◌≡◌, ◌++◌, Bool, cond, List, [], ◌∷◌, map, refl, sym, ap, subst, ◌∙◌, inl, inr}
use Rattle.std.proofs.lemmas.List.Elements.{All-nil, All-cons}
use Rattle.rh_model.specs.declared.node.Node.{Node}
use Rattle.rh_otp_model.specs.declared.message.Message.TheVariants as message
use Rattle.rh_otp_model.specs.declared.output.Envelope.{Envelope}
use Rattle.rh_otp_model.specs.declared.process.Process.{Process}
use Rattle.rh_otp_model.specs.declared.process.Role.TheVariants as role
use Rattle.rh_otp_model.specs.Processes.{process_at}
use Rattle.rh_otp_net.specs.Timers as timers
use Rattle.rh_otp_system.specs.Delivering.{arrived}
use Rattle.rh_otp_system.specs.Doing.{fired_next}
use Rattle.rh_otp_system.specs.Ending.{ended}
use Rattle.rh_otp_system.specs.Joining.{join, timed_out}
use Rattle.rh_otp_system.specs.Moves.{Delivers, Reaches, IsSettled, IsQuiet, here, settled}
use Rattle.rh_otp_system.proofs.Moving.{settles as settles_at}
use Rattle.rh_otp_system.specs.Resting.{crashed}
use Rattle.rh_otp_system.specs.State.{SystemView, process_in}
use Rattle.rh_otp_laws.specs.Acting.{IsReached, later, fires}
use Rattle.rh_otp_laws.specs.Time.{message_of}
use Rattle.rh_otp_laws.proofs.Hanging.{settled_stays_so}
use Rattle.rh_otp_laws.proofs.Time.{due_fire}
use Rattle.rh_otp_orders.specs.Confluence.{EveryOrderEndsAlike}
use Rattle.rh_otp_orders.proofs.Confluence.{reached_by, orderly_alike}
use Rattle.rh_otp_orders.proofs.Moving.{reached_order}
use Rattle.rh_otp_orders.proofs.Taking.{Taken, taken_arrives}
use Rattle.rh_otp_commands.specs.Commands.{SettlesAlike}
use Rattle.rh_otp_crashes.specs.Crashes.{AreAtRest, FailOverLater}
use Rattle.rh_otp_crashes.proofs.Crash.{lives_of, none_ends, falls_out}
use Rattle.rh_otp_crashes.proofs.Falling.{Fallout, orderly}
use Rattle.rh_otp_crashes.proofs.Peace.{AtEase, AtPeace, Delivered, at_ease, here_in, without, only_messages, arrives_alive, delivers}
use Rattle.rh_otp_ticks.specs.WaitsEnd.{WaitEnds, HasEnded, WaitsThatEndNodesEndAlike, WaitsThatEndNodesDoNoMore}
use Rattle.rh_otp_ticks.proofs.Forgetting.{forgetting, forgets_first, rest_still, forgotten_reached}
use Rattle.rh_otp_ticks.proofs.InTime.{ends_in_time, fallout_in_time}
use Rattle.rh_otp_ticks.proofs.Leading.{IsOnlyMove, behind_it, leads_alike}
use Rattle.rh_otp_ticks.proofs.Timely.{at_time}
use Rattle.rh_otp_ticks.proofs.Untold.{Ends, it_ends, ends_still, all_move, fall_on}

-- the one message that there is
only_taken : (e m : Envelope) (left : List Envelope) → Taken m (e ∷ []) left → left ≡ []
only_taken e m left (inl is) = is.1
only_taken e m left (inr behind) = absurd behind.3

module _ (s : SystemView) (n : Node) (reached : IsReached s) (rest : AreAtRest s) (timed : FailOverLater s) (wait : WaitEnds n s) where
  -- the clock stands at that moment
  abbrev pub then : SystemView
  then = at_time wait.due (timers.left s.timers) s.answers s

  -- its wait is over, and all else as it was
  abbrev pub alone : SystemView
  alone = without then []

  abbrev pub to : Process
  to = process_in s n role.KernelConfig

  abbrev pub over : Envelope
  over = message_of (record { due = wait.due; step = wait.step; to = to; message = message.Timeout })

  abbrev pub fired_then : SystemView
  fired_then = without then (over ∷ [])

  none : IsQuiet s
  none = (settled_stays_so s s rest.settled (here s)).0

  pub fires_so : fired_next wait.due s ≡ fired_then
  fires_so = due_fire s wait.due ∙ (λ i. without then (none.0 i ++ map message_of (wait.alone i)))

  pub fired_reached : IsReached (fired_next wait.due s)
  fired_reached = later s (fired_next wait.due s) reached (fires s wait.due wait.step wait.next)

  -- ---- it is all that can come

  peace : AtPeace AtEase (λ (e : Envelope). e ≡ over) (lives_of s) fired_then
  peace = record {
    messages = All-cons (λ (e : Envelope). e ≡ over) over [] refl (All-nil (λ (e : Envelope). e ≡ over));
    slow = none.1;
    calls = rest.calls;
    calm = at_ease;
    dists = rest.dists;
    ends = λ m alive. none_ends s m reached rest.settled alive;
    listed = reached_order s reached;
    same_lives = λ m. refl;
  }

  arrives_so : arrived to message.Timeout alone ≡ ended n alone
  arrives_so =
      arrives_alive to message.Timeout alone wait.alive refl
      ∙ ap (λ (b : Bool). cond b alone (timed_out n alone)) wait.waits
      ∙ ap (λ (b : Bool). cond b (ended n alone) (join n alone)) wait.lacks

  -- the node ends
  abbrev pub gone : SystemView
  gone = ended n alone

  comes : (m : Envelope) (left : List Envelope) → m ≡ over → left ≡ [] → arrived m.to m.message (without fired_then left) ≡ gone
  comes m left is empty = (λ i. arrived (is i).to (is i).message (without then (empty i))) ∙ arrives_so

  only : (t : SystemView) → Delivers fired_then t → t ≡ gone
  only t one =
      let d : Delivered AtEase (λ (e : Envelope). e ≡ over) (lives_of s) fired_then t = only_messages fired_then t peace one in
      d.is ∙ comes d.message d.left d.kind (only_taken over d.message d.left d.taken)

  pub only_move : IsOnlyMove fired_then gone
  only_move = (
    subst (Delivers fired_then) arrives_so
        (delivers over fired_then (arrived to message.Timeout alone) (taken_arrives fired_then over [] (inl (refl, refl)))),
    only,
  )

  -- ---- what comes of that

  abbrev pub of_gone : Process
  of_gone = process_at (here_in (lives_of s) n) role.DistAc

  pub gone_so : gone ≡ at_time wait.due (timers.left s.timers) s.answers (crashed n s)
  gone_so =
      (λ i. ended n (without then (sym none.0 i))) ∙ ends_in_time wait.due (timers.left s.timers) s.answers n s

  pub fallout : Fallout (lives_of s) of_gone gone
  fallout =
      subst (Fallout (lives_of s) of_gone) (sym gone_so)
      (fallout_in_time wait.due (timers.left s.timers) s.answers (crashed n s) (falls_out s n reached rest timed))

  pub gone_reached : IsReached gone
  gone_reached = reached_by fired_then gone only_move.0 (subst IsReached fires_so fired_reached)

  pub every : EveryOrderEndsAlike (fired_next wait.due s)
  every =
      subst EveryOrderEndsAlike (sym fires_so)
      (leads_alike fired_then gone only_move (orderly_alike gone gone_reached (orderly gone fallout)))

  -- ---- what it comes to

  gone_ends : Ends n then gone
  gone_ends =
      let so : Ends n alone gone = it_ends n alone in
      record {
        cluster = so.cluster;
        files = so.files;
        soon = so.soon;
        clock = so.clock;
        events = so.events;
        count = so.count;
        itself = so.itself;
        others = so.others;
        lives = so.lives;
      }

  module _ (t : SystemView) (reaches : Reaches (fired_next wait.due s) t) (at : IsSettled t) where
    pub behind : Reaches gone t
    behind = behind_it fired_then gone t only_move (subst (λ (x : SystemView). Reaches x t) fires_so reaches) at

    pub has_fallen : Fallout (lives_of s) of_gone t
    has_fallen = fall_on gone t behind fallout

    pub ends : Ends n then t
    ends = ends_still n then gone t gone_ends (all_move gone t behind fallout)

    pub comes_to : HasEnded n s wait.due t
    comes_to = record {
      down = ends.itself;
      told = ends.events;
      others = ends.others;
      lives = ends.lives;
      cluster = ends.cluster;
      files = ends.files;
      clock = ends.clock;
      rest = record { settled = at; calls = has_fallen.peace.calls; dists = has_fallen.peace.dists };
    }

-- ---- the laws

-- by no answers it is the same
unfoldable pub still : (n : Node) (s : SystemView) → WaitEnds n s → WaitEnds n (forgetting s)
still n s wait = record {
  due = wait.due;
  step = wait.step;
  next = wait.next;
  alone = wait.alone;
  alive = wait.alive;
  waits = wait.waits;
  lacks = wait.lacks;
}

pub wait_settles_alike : (s : SystemView) (n : Node) → IsReached s → AreAtRest s → FailOverLater s → (wait : WaitEnds n s)
    → SettlesAlike (fired_next wait.due s)
unfolding still
wait_settles_alike s n reached rest timed wait =
    subst EveryOrderEndsAlike (forgets_first wait.due s)
    (every (forgetting s) n (forgotten_reached s reached) (rest_still s rest) timed (still n s wait))

pub waits_end_alike : WaitsThatEndNodesEndAlike
waits_end_alike s n reached rest timed wait =
    let t : SystemView = fired_next wait.due s in (
      every s n reached rest timed wait,
      λ most one other quiet quiet_too.
          (wait_settles_alike s n reached rest timed wait).alike (settled most one t) (settled most other t) (settles_at most one t).0
          ((settles_at most one t).1 quiet) (settles_at most other t).0 ((settles_at most other t).1 quiet_too),
    )

pub waits_do_no_more : WaitsThatEndNodesDoNoMore
waits_do_no_more s n reached rest timed wait t reaches at = comes_to s n reached rest timed wait t reaches at
