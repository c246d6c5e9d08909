-- Systems that are alike stay so where the same is written in both.
use Rattle.std.proofs.Common.{◌≡◌, ℕ, Bool, List, [], refl, ap}
use Rattle.rh_history.specs.Draft.{DraftView}
use Rattle.rh_model.specs.declared.node.Node.{Node}
use Rattle.rh_otp_model.specs.declared.process.Process.{Process}
use Rattle.rh_otp_net.specs.declared.timers.Timer.{Timer}
use Rattle.rh_otp_system.specs.declared.calls.Call.{Call}
use Rattle.rh_otp_system.specs.declared.cell.Cell.{Cell}
use Rattle.rh_otp_system.specs.State.{SystemView}
use Rattle.rh_otp_orders.specs.Orders.{AreAlike, SameOfEach, node_of_timer}

-- what a command begins with writes, but for lists of which the order between nodes counts for nothing
pub record Written : Type 0 where
  pub nodes : DraftView Cell
  pub clock : ℕ
  pub step : ℕ
  pub last_call : ℕ
  pub alive : List Node
  pub calls : List Call
  pub asleep : List Process
  pub is_ticking : Bool

abbrev pub written_of : SystemView → Written
written_of s = record {
  nodes = s.nodes;
  clock = s.clock;
  step = s.step;
  last_call = s.last_call;
  alive = s.alive;
  calls = s.calls;
  asleep = s.asleep;
  is_ticking = s.is_ticking;
}

-- the system with this written
abbrev pub rewritten : Written → SystemView → SystemView
rewritten w s = record s {
  nodes = w.nodes;
  clock = w.clock;
  step = w.step;
  last_call = w.last_call;
  alive = w.alive;
  calls = w.calls;
  asleep = w.asleep;
  is_ticking = w.is_ticking;
}

pub written_alike : (v w : Written) (s t : SystemView) → v ≡ w → AreAlike s t → AreAlike (rewritten v s) (rewritten w t)
written_alike v w s t same g = record {
  cluster = g.cluster;
  files = g.files;
  nodes = ap (λ (x : Written). x.nodes) same;
  clock = ap (λ (x : Written). x.clock) same;
  step = ap (λ (x : Written). x.step) same;
  last_call = ap (λ (x : Written). x.last_call) same;
  alive = ap (λ (x : Written). x.alive) same;
  links = g.links;
  locks = g.locks;
  calls = ap (λ (x : Written). x.calls) same;
  asleep = ap (λ (x : Written). x.asleep) same;
  told = g.told;
  answers = g.answers;
  is_ticking = ap (λ (x : Written). x.is_ticking) same;
  ends_soon = g.ends_soon;
  messages = g.messages;
  timers = g.timers;
  slow = g.slow;
  events = g.events;
}

pub alike_with_timers : (xs ys : List Timer) (s t : SystemView) → SameOfEach node_of_timer xs ys → AreAlike s t
    → AreAlike (record s { timers = xs }) (record t { timers = ys })
alike_with_timers xs ys s t same g = record {
  cluster = g.cluster;
  files = g.files;
  nodes = g.nodes;
  clock = g.clock;
  step = g.step;
  last_call = g.last_call;
  alive = g.alive;
  links = g.links;
  locks = g.locks;
  calls = g.calls;
  asleep = g.asleep;
  told = g.told;
  answers = g.answers;
  is_ticking = g.is_ticking;
  ends_soon = g.ends_soon;
  messages = g.messages;
  timers = same;
  slow = g.slow;
  events = g.events;
}

-- where answers are counted from nothing
pub alike_afresh : (s t : SystemView) → AreAlike s t → AreAlike (record s { answers = [] }) (record t { answers = [] })
alike_afresh s t g = record {
  cluster = g.cluster;
  files = g.files;
  nodes = g.nodes;
  clock = g.clock;
  step = g.step;
  last_call = g.last_call;
  alive = g.alive;
  links = g.links;
  locks = g.locks;
  calls = g.calls;
  asleep = g.asleep;
  told = g.told;
  answers = λ pair. refl;
  is_ticking = g.is_ticking;
  ends_soon = g.ends_soon;
  messages = g.messages;
  timers = g.timers;
  slow = g.slow;
  events = g.events;
}
