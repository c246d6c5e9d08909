-- Boot scripts of several nodes that begin at once end alike.
use Rattle.std.proofs.Common.{◌≡◌, ◌≤◌, ◌+◌, ℕ, List, [], subst, arith}
use Rattle.rh_otp_system.specs.declared.slow.Answered.{Answered}
use Rattle.rh_otp_system.specs.Moves.{Reaches, IsSettled, settled}
use Rattle.rh_otp_system.specs.State.{SystemView}
use Rattle.rh_otp_system.proofs.Moving.{settles}
use Rattle.rh_otp_orders.specs.Confluence.{Moves}
use Rattle.rh_otp_orders.specs.Orders.{AreAlike}
use Rattle.rh_model.specs.declared.node.App.{App}
use Rattle.rh_model.specs.declared.node.Node.{Node}
use Rattle.rh_otp_together.specs.Together.{IsToBoot, BootTogether, BootScriptsEndAlikeTogether}
use Rattle.rh_otp_together.proofs.Beginning.{first_stage, first_weight}
use Rattle.rh_otp_together.proofs.Ending.{end_alike}
use Rattle.rh_otp_together.proofs.Leading.{Behind, by_moves, by_reach, rests}
use Rattle.rh_otp_together.proofs.Stages.{Stage}

-- whatever is reached and at rest is at the end
at_end : {s : SystemView} (g : BootTogether s) (t : SystemView) → Reaches s t → IsSettled t → Stage s g.at 0 t
at_end {s} g t to_t at_t =
    let there : (rest : ℕ) × Stage s g.at rest t = by_reach g (first_weight g) s t to_t (first_stage g) in
    subst (λ (k : ℕ). Stage s g.at k t) (rests g there.0 t there.1 at_t) there.1

ends_same : {s : SystemView} (g : BootTogether s) (t u : SystemView) → Reaches s t → IsSettled t → Reaches s u → IsSettled u → AreAlike t u
ends_same g t u to_t at_t to_u at_u = end_alike g t u (at_end g t to_t at_t) (at_end g u to_u at_u)

-- whoever has answered whom before
boots_so : {apps : List App} {at : App → Node} (m : Node) (s : SystemView) (answers : List Answered) → IsToBoot apps at m s
    → IsToBoot apps at m (record s { answers = answers })
boots_so m s answers e = record {
  there = e.there;
  up = e.up;
  place = e.place;
  controller = e.controller;
  has_dist = e.has_dist;
  dist = e.dist;
  has = e.has;
  blank = e.blank;
  known = e.known;
  sees = e.sees;
  in_order = e.in_order;
  short = e.short;
  distributed = e.distributed;
  leaves = e.leaves;
  strangers = e.strangers;
}

with_answers : (s : SystemView) (answers : List Answered) → BootTogether s → BootTogether (record s { answers = answers })
with_answers s answers g = record {
  once = g.once;
  apps = g.apps;
  at = g.at;
  each = λ m alive. boots_so m s answers (g.each m alive);
  runners = g.runners;
  nodes = g.nodes;
  slow = g.slow;
  all = g.all;
  messages = g.messages;
  calls = g.calls;
  locks = g.locks;
}

pub together_alike : BootScriptsEndAlikeTogether
together_alike s g = (
  record {
    alike = λ t u to_t at_t to_u at_u. ends_same g t u to_t at_t to_u at_u;
    no_longer = λ n k t u run at other. bound n k t u run at other;
  },
  λ most one other quiet quiet_too.
      ends_same (with_answers s [] g) (settled most one s) (settled most other s) (settles most one s).0 ((settles most one s).1 quiet)
      (settles most other s).0 ((settles most other s).1 quiet_too),
)
  where
    bound : (n k : ℕ) (t u : SystemView) → Moves n s t → IsSettled t → Moves k s u → k ≤ n
    bound n k t u run at other =
        let one : Behind g (first_weight g) n t = by_moves g n (first_weight g) s t run (first_stage g) in
        let two : Behind g (first_weight g) k u = by_moves g k (first_weight g) s u other (first_stage g) in
        let none : one.rest ≡ 0 = rests g one.rest t one.stage at in
        let is_one : first_weight g ≡ n + one.rest = one.is in
        let is_two : first_weight g ≡ k + two.rest = two.is in
        omega (arith, none, is_one, is_two)
