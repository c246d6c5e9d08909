-- A node ends the same at another time, with other timers, and with other answers counted.
use Rattle.std.proofs.Common.{◌≡◌, ◌&&◌, ℕ, Bool, true, false, cond, List, [], ◌∷◌, refl, ap, ◌∙◌}
use Rattle.rh_model.specs.declared.node.Node.{Node}
use Rattle.rh_otp_model.specs.declared.process.Process.{Process}
use Rattle.rh_otp_net.specs.declared.timers.Timer.{Timer}
use Rattle.rh_otp_net.specs.Links as links
use Rattle.rh_otp_system.specs.declared.slow.Answered.{Answered}
use Rattle.rh_otp_system.specs.Ending.{down_told, downs_told, told_down, taken_down, unlinked, ended}
use Rattle.rh_otp_system.specs.Sending.{told}
use Rattle.rh_otp_system.specs.State.{SystemView, has_dist_at}
use Rattle.rh_otp_crashes.proofs.Falling.{Fallout}
use Rattle.rh_otp_ticks.proofs.Timely.{at_time}

module _ (time : ℕ) (timers : List Timer) (answers : List Answered) where
  abbrev then : SystemView → SystemView
  then s = at_time time timers answers s

  told_in_time : (n m : Node) (b : Bool) (s : SystemView)
      → cond b (told_down n m (then s)) (then s) ≡ then (cond b (told_down n m s) s)
  told_in_time n m true s = refl
  told_in_time n m false s = refl

  one_in_time : (n m : Node) (s : SystemView) → down_told n m (then s) ≡ then (down_told n m s)
  unfolding down_told
  one_in_time n m s = told_in_time n m (has_dist_at s m && links.are_linked n m s.links) s

  all_in_time : (n : Node) (nodes : List Node) (s : SystemView) → downs_told n nodes (then s) ≡ then (downs_told n nodes s)
  all_in_time n [] s = refl
  all_in_time n (m ∷ nodes) s = ap (downs_told n nodes) (one_in_time n m s) ∙ all_in_time n nodes (down_told n m s)

  pub ends_in_time : (n : Node) (s : SystemView) → ended n (then s) ≡ then (ended n s)
  unfolding ended taken_down told
  ends_in_time n s = ap (unlinked n) (all_in_time n (taken_down n s).alive (taken_down n s))

  -- what comes of it does, too
  pub fallout_in_time : {lives : Node → ℕ} {gone : Process} (s : SystemView) → Fallout lives gone s → Fallout lives gone (then s)
  fallout_in_time s f = record {
    peace = record {
      messages = f.peace.messages;
      slow = f.peace.slow;
      calls = f.peace.calls;
      calm = f.peace.calm;
      dists = f.peace.dists;
      ends = f.peace.ends;
      listed = f.peace.listed;
      same_lives = f.peace.same_lives;
    };
    later = f.later;
  }
