-- What stands throughout a command: it is reached, each node has its cell, and no node is alive in the cell of what is between them.
use Rattle.std.proofs.Common.{◌≡◌, ◌≢◌, ◌<◌, ◌≤◌, ℕ, false, List, [], Some, sym, ap, subst, ◌∙◌, arith}
use Rattle.rh_model.specs.ClusterView.{ClusterView, node_count, numbered}
use Rattle.rh_model.specs.declared.node.App.{App}
use Rattle.rh_model.specs.declared.node.Node.{Node}
use Rattle.rh_otp_model.specs.declared.wait.OwnFile.{OwnFile}
use Rattle.rh_otp_net.specs.Timers.{next_due}
use Rattle.rh_otp_node.specs.Live.{begun}
use Rattle.rh_otp_system.specs.declared.calls.Ask.{Ask}
use Rattle.rh_otp_system.specs.declared.moves.Move.{Move}
use Rattle.rh_otp_system.specs.Doing.{begun_at, booted, called, fired_next}
use Rattle.rh_otp_system.specs.Moves.{made, IsPossible}
use Rattle.rh_otp_system.specs.Resting.{crashed, rested, forgotten}
use Rattle.rh_otp_system.specs.State.{SystemView, node_at, own_at, is_alive_at}
use Rattle.rh_otp_laws.specs.Acting.{IsThere, moves, begins, crashes, calls, acts, fires, passes, ticks, settles, rests, forgets, IsReached, later, IsNoneDueBefore}
use Rattle.rh_otp_laws.proofs.Beginning.{boots, calls_on}
use Rattle.rh_otp_laws.proofs.Commands.{StaysOn}
use Rattle.rh_otp_laws.proofs.Lives.{none_begins, moved_none, lives_counted}
use Rattle.rh_otp_laws.proofs.Moving.{ends, made_by_turn}
use Rattle.rh_otp_laws.proofs.Reached.{rested_noted, forgotten_noted}
use Rattle.rh_otp_laws.proofs.Time.{due_fire}
use Rattle.rh_otp_reached.proofs.Cells.{IsOf, of_written, of_turn}

-- the number behind those of the nodes
abbrev pub beyond : ClusterView → Node
beyond c = numbered (node_count c)

pub record Stands (c : ClusterView) (files : List OwnFile) (s : SystemView) : Type 0 where
  pub reached : IsReached s
  pub whole : IsOf c files s
  pub none_beyond : is_alive_at s (beyond c) ≡ false

-- ---- moves, and time that passes

moved_stands : (c : ClusterView) (files : List OwnFile) (s : SystemView) (next : Move) → IsPossible s next → Stands c files s
    → Stands c files (made next s)
moved_stands c files s next possible p = record {
  reached = later s (made next s) p.reached (acts s (made next s) (moves s next possible));
  whole = of_turn c files _ _ _ (made_by_turn (numbered 0) next s) p.whole;
  none_beyond = (moved_none s next (beyond c)).1 p.none_beyond;
}

fired_stands : (c : ClusterView) (files : List OwnFile) (s : SystemView) (due step : ℕ) → next_due s.timers ≡ Some (due, step)
    → Stands c files s → Stands c files (fired_next due s)
fired_stands c files s due step next p = record {
  reached = later s (fired_next due s) p.reached (fires s due step next);
  whole = subst (IsOf c files) (sym (due_fire s due)) p.whole;
  none_beyond = ap (λ (t : SystemView). is_alive_at t (beyond c)) (due_fire s due) ∙ p.none_beyond;
}

passed_stands : (c : ClusterView) (files : List OwnFile) (s : SystemView) (time : ℕ) → s.clock ≤ time → IsNoneDueBefore time s.timers
    → Stands c files s → Stands c files (record s { clock = time })
passed_stands c files s time on none p = record {
  reached = later s (record s { clock = time }) p.reached (passes s time on none);
  whole = p.whole;
  none_beyond = p.none_beyond;
}

pub stands_on : (c : ClusterView) (files : List OwnFile) → StaysOn (Stands c files)
stands_on c files = record {
  moves = moved_stands c files;
  fires = fired_stands c files;
  passes = passed_stands c files;
  ticks = λ s ticking p. record {
    reached = later s (record s { is_ticking = ticking }) p.reached (ticks s ticking);
    whole = p.whole;
    none_beyond = p.none_beyond;
  };
  settles = λ s p. record {
    reached = later s (record s { answers = [] }) p.reached (settles s);
    whole = p.whole;
    none_beyond = p.none_beyond;
  };
}

-- ---- what a command begins with

pub crashed_stands : (c : ClusterView) (files : List OwnFile) (n : Node) (s : SystemView) → Stands c files s → Stands c files (crashed n s)
crashed_stands c files n s p = record {
  reached = later s (crashed n s) p.reached (acts s (crashed n s) (crashes s n));
  whole = of_turn c files n s (crashed n s) (ends n s) p.whole;
  none_beyond = (none_begins n s (crashed n s) (ends n s) (beyond c)).1 p.none_beyond;
}

pub called_stands : (c : ClusterView) (files : List OwnFile) (a : Ask) (n : Node) (app : App) (s : SystemView) → Stands c files s
    → Stands c files (called a n app s)
called_stands c files a n app s p = record {
  reached = later s (called a n app s) p.reached (acts s (called a n app s) (calls s a n app));
  whole = of_turn c files n s (called a n app s) (calls_on n a n app s) p.whole;
  none_beyond = (none_begins n s (called a n app s) (calls_on n a n app s) (beyond c)).1 p.none_beyond;
}

of_begun : (c : ClusterView) (files : List OwnFile) (n : Node) (s : SystemView) → IsOf c files s → IsOf c files (begun_at n s)
of_begun c files n s is = of_written c files s n (begun s.cluster (own_at s n) n (node_at s n)) is

pub booted_stands : (c : ClusterView) (files : List OwnFile) (n : Node) (s : SystemView) → n.0 < node_count c → is_alive_at s n ≡ false
    → Stands c files s → Stands c files (booted n s)
booted_stands c files n s within down p =
    let there : IsThere n s = p.whole.2.nodes n within in
    let other : (beyond c).0 ≢ n.0 = λ same. absurd (omega (arith, same, within)) in
    record {
      reached = later s (booted n s) p.reached (acts s (booted n s) (begins s n there down));
      whole = of_turn c files n (begun_at n s) (booted n s) (boots s n there.0 there.1) (of_begun c files n s p.whole);
      none_beyond = (lives_counted.others s n (beyond c) there other).1 p.none_beyond;
    }

-- ---- a command is over, and the next begins

of_rested : (c : ClusterView) (files : List OwnFile) (s : SystemView) → IsOf c files s → IsOf c files (rested s)
unfolding rested
of_rested c files s is = is

pub rested_stands : (c : ClusterView) (files : List OwnFile) (s : SystemView) → Stands c files s → Stands c files (rested s)
rested_stands c files s p = record {
  reached = later s (rested s) p.reached (rests s);
  whole = of_rested c files s p.whole;
  none_beyond = (rested_noted s).nodes (beyond c) ∙ p.none_beyond;
}

of_forgotten : (c : ClusterView) (files : List OwnFile) (s : SystemView) → IsOf c files s → IsOf c files (forgotten s)
unfolding forgotten
of_forgotten c files s is = is

pub forgotten_stands : (c : ClusterView) (files : List OwnFile) (s : SystemView) → Stands c files s → Stands c files (forgotten s)
forgotten_stands c files s p = record {
  reached = later s (forgotten s) p.reached (forgets s);
  whole = of_forgotten c files s p.whole;
  none_beyond = (forgotten_noted s).nodes (beyond c) ∙ p.none_beyond;
}
