-- A node ends: it is down, and an observer has seen its end. Of what comes of that nothing else is told, and of each other node it stays
-- how far it is and how often it has begun.
use Rattle.std.proofs.Common.{◌≡◌, ◌≢◌, ◌⊎◌, ◌++◌, ◌&&◌, ℕ, Bool, true, false, cond, List, [], ◌∷◌, length, Option, Some, None, refl, sym, ap, subst, ◌∙◌, inl, inr}
use Rattle.std.proofs.lemmas.Bool.{cases_Bool}
use Rattle.std.proofs.lemmas.List.{length-set}
use Rattle.rh_model.specs.declared.node.App.{App}
use Rattle.rh_model.specs.declared.node.Node.{Node}
use Rattle.rh_otp_model.specs.declared.message.Change.TheVariants as change
use Rattle.rh_otp_model.specs.declared.message.Message.TheVariants as message
use Rattle.rh_otp_model.specs.declared.output.Envelope.{Envelope}
use Rattle.rh_otp_model.specs.declared.output.Event.TheVariants as event
use Rattle.rh_otp_model.specs.declared.process.Process.{Process}
use Rattle.rh_otp_dist.specs.Outside as outside
use Rattle.rh_otp_dist.specs.State.{DistView}
use Rattle.rh_otp_net.specs.declared.timers.Timer.{Timer}
use Rattle.rh_otp_net.specs.Links as links
use Rattle.rh_otp_node.specs.declared.node.Phase.{Phase}
use Rattle.rh_otp_node.specs.Live.{LiveView, is_down}
use Rattle.rh_otp_node.specs.Remote.{with_change, without_monitors}
use Rattle.rh_otp_system.specs.declared.cell.Cell.TheVariants as cell
use Rattle.rh_otp_system.specs.Delivering.{arrived, controlled}
use Rattle.rh_otp_system.specs.Ending.{down_told, downs_told, told_down, taken_down, ended}
use Rattle.rh_otp_system.specs.Moves.{Delivers, Reaches, here, behind_one}
use Rattle.rh_otp_system.specs.Sending.{told}
use Rattle.rh_otp_system.specs.State.{SystemView, live_at, node_at, with_node, has_dist_at, is_alive_at}
use Rattle.rh_otp_system.specs.Working.{mailed}
use Rattle.rh_otp_laws.proofs.Lives.{is_down as is_down_there, others_stand}
use Rattle.rh_otp_laws.proofs.Nodes.{alive_is_there, same_of_all}
use Rattle.rh_otp_crashes.proofs.Deeds.{turns, cleared, comes_so}
use Rattle.rh_otp_crashes.proofs.Downing.{no_more}
use Rattle.rh_otp_crashes.proofs.Falling.{IsFallout, tells, clears, Fallout, end_told, goes_on}
use Rattle.rh_otp_crashes.proofs.Peace.{AtEase, Delivered, here_in, without, only_messages, arrives_alive, arrives_dead, turned_so}
use Rattle.rh_otp_crashes.proofs.Turning.{Turned, node_is}

-- ---- what is told stays

-- the file, the clock, what an observer has seen, and of each node how far it is and how often it has begun
pub record Kept (s t : SystemView) : Type 0 where
  pub cluster : t.cluster ≡ s.cluster
  pub files : t.files ≡ s.files
  pub soon : t.ends_soon ≡ s.ends_soon
  pub clock : t.clock ≡ s.clock
  pub events : t.events ≡ s.events
  pub count : length t.nodes.cells ≡ length s.nodes.cells
  pub phases : (k : Node) → (node_at t k).phase ≡ (node_at s k).phase
  pub lives : (k : Node) → (node_at t k).life ≡ (node_at s k).life

nothing : (s : SystemView) → Kept s s
nothing s = record {
  cluster = refl;
  files = refl;
  soon = refl;
  clock = refl;
  events = refl;
  count = refl;
  phases = λ k. refl;
  lives = λ k. refl;
}

both : (s t u : SystemView) → Kept s t → Kept t u → Kept s u
both s t u p q = record {
  cluster = q.cluster ∙ p.cluster;
  files = q.files ∙ p.files;
  soon = q.soon ∙ p.soon;
  clock = q.clock ∙ p.clock;
  events = q.events ∙ p.events;
  count = q.count ∙ p.count;
  phases = λ k. q.phases k ∙ p.phases k;
  lives = λ k. q.lives k ∙ p.lives k;
}

-- a node is written that is as far, in the same life; messages and timers are others
written : (m : Node) (w : LiveView) (s : SystemView) (messages : List Envelope) (timers : List Timer)
    → w.phase ≡ (node_at s m).phase → w.life ≡ (node_at s m).life
    → Kept s (record (with_node m w s) { messages = messages; timers = timers })
written m w s messages timers phase life = record {
  cluster = refl;
  files = refl;
  soon = refl;
  clock = refl;
  events = refl;
  count = length-set s.nodes.cells m.0 (cell.Node w);
  phases = λ k. same_of_all (λ (v : LiveView). v.phase) s m k w phase;
  lives = λ k. same_of_all (λ (v : LiveView). v.life) s m k w life;
}

-- ---- a message arrives

-- a dist_ac is told of the end
hears : {lives : Node → ℕ} {gone : Process} (m : Node) (s : SystemView) → Fallout lives gone s → is_alive_at s m ≡ true
    → Kept s (mailed m (message.NodeDown gone.node) s)
hears {lives} {gone} m s f alive =
    let at : (v : LiveView) × (live_at s m ≡ Some v) = alive_is_there s m alive in
    let here : node_at s m ≡ at.0 = node_is s m at.0 at.1 in
    let life : at.0.life ≡ lives m = sym (ap (λ (v : LiveView). v.life) here) ∙ f.peace.same_lives m in
    let d : Turned (IsFallout lives gone) s.cluster s.files m (lives m) (message.NodeDown gone.node) (node_at s m).dist =
    turns (IsFallout lives gone) s.cluster s.files m (lives m) gone.node (node_at s m).dist (λ a. clears m a)
    (λ d has. f.peace.dists m d alive has) (f.later m) in
    subst (Kept s)
    (sym (turned_so m (message.NodeDown gone.node) s s at.0 (node_at s m).dist d at.1 (sym (ap (λ (v : LiveView). v.dist) here)) life refl
    refl))
    (written m (record at.0 { dist = d.next }) s _ _ (sym (ap (λ (v : LiveView). v.phase) here))
    (sym (ap (λ (v : LiveView). v.life) here)))

-- a controller hears that an application runs nowhere
learns : (m : Node) (a : App) (s : SystemView) → is_alive_at s m ≡ true → Kept s (controlled m (message.Change a change.NotRunning) s)
learns m a s alive =
    let at : (v : LiveView) × (live_at s m ≡ Some v) = alive_is_there s m alive in
    let here : node_at s m ≡ at.0 = node_is s m at.0 at.1 in
    subst (Kept s) (sym (comes_so m a s at.0 at.1))
    (written m (record at.0 { controller = cleared a at.0.controller }) s s.messages s.timers (sym (ap (λ (v : LiveView). v.phase) here))
    (sym (ap (λ (v : LiveView). v.life) here)))

-- what comes to a node that isn't alive is lost
arrives : {lives : Node → ℕ} {gone : Process} (e : Envelope) (s : SystemView) → IsFallout lives gone e → Fallout lives gone s
    → Kept s (arrived e.to e.message s)
arrives {lives} {gone} _ s (tells m) f = by (cases_Bool (is_alive_at s m))
  where
    e : Envelope
    e = end_told lives gone m

    by : (is_alive_at s m ≡ true) ⊎ (is_alive_at s m ≡ false) → Kept s (arrived e.to e.message s)
    by (inl alive) = subst (Kept s) (sym (arrives_alive e.to e.message s alive (f.peace.same_lives m))) (hears m s f alive)
    by (inr dead) = subst (Kept s) (sym (arrives_dead e.to e.message s dead)) (nothing s)
arrives {lives} {gone} _ s (clears m a) f = by (cases_Bool (is_alive_at s m))
  where
    e : Envelope
    e = no_more (here_in lives m) a

    by : (is_alive_at s m ≡ true) ⊎ (is_alive_at s m ≡ false) → Kept s (arrived e.to e.message s)
    by (inl alive) = subst (Kept s) (sym (arrives_alive e.to e.message s alive (f.peace.same_lives m))) (learns m a s alive)
    by (inr dead) = subst (Kept s) (sym (arrives_dead e.to e.message s dead)) (nothing s)

-- ---- moves

moves : {lives : Node → ℕ} {gone : Process} (s t : SystemView) → Fallout lives gone s → Delivers s t → Kept s t
moves {lives} {gone} s t f one =
    let d : Delivered AtEase (IsFallout lives gone) lives s t = only_messages s t f.peace one in
    let left : SystemView = without s d.left in
    let rest : Kept left (arrived d.message.to d.message.message left) =
    arrives d.message left d.kind (record { peace = d.still; later = f.later }) in
    subst (Kept s) (sym d.is) (record {
      cluster = rest.cluster;
      files = rest.files;
      soon = rest.soon;
      clock = rest.clock;
      events = rest.events;
      count = rest.count;
      phases = rest.phases;
      lives = rest.lives;
    })

pub all_move : {lives : Node → ℕ} {gone : Process} (s t : SystemView) → Reaches s t → Fallout lives gone s → Kept s t
all_move _ _ (here s) f = nothing s
all_move _ _ (behind_one s t u one rest) f = both s t u (moves s t f one) (all_move t u rest (goes_on s t f one))

pub fall_on : {lives : Node → ℕ} {gone : Process} (s t : SystemView) → Reaches s t → Fallout lives gone s → Fallout lives gone t
fall_on _ _ (here s) f = f
fall_on _ _ (behind_one s t u one rest) f = fall_on t u rest (goes_on s t f one)

-- ---- the end itself

phase_kept : (n : Node) (v : LiveView) (o : Option DistView) → (with_change (outside.without_monitors n) o v).phase ≡ v.phase
phase_kept n v None = refl
phase_kept n v (Some d) = refl

life_kept : (n : Node) (v : LiveView) (o : Option DistView) → (with_change (outside.without_monitors n) o v).life ≡ v.life
life_kept n v None = refl
life_kept n v (Some d) = refl

told_by : (n m : Node) (b : Bool) (s : SystemView) → Kept s (cond b (told_down n m s) s)
told_by n m false s = nothing s
told_by n m true s =
    written m (without_monitors n (node_at s m)) s _ s.timers (phase_kept n (node_at s m) (node_at s m).dist)
    (life_kept n (node_at s m) (node_at s m).dist)

one_told : (n m : Node) (s : SystemView) → Kept s (down_told n m s)
unfolding down_told
one_told n m s = told_by n m (has_dist_at s m && links.are_linked n m s.links) s

all_told : (n : Node) (nodes : List Node) (s : SystemView) → Kept s (downs_told n nodes s)
all_told n [] s = nothing s
all_told n (m ∷ nodes) s =
    both s (down_told n m s) (downs_told n nodes (down_told n m s)) (one_told n m s) (all_told n nodes (down_told n m s))

-- the node is down, an observer has seen its end, and all else that is told is as it was
pub record Ends (n : Node) (s t : SystemView) : Type 0 where
  pub cluster : t.cluster ≡ s.cluster
  pub files : t.files ≡ s.files
  pub soon : t.ends_soon ≡ s.ends_soon
  pub clock : t.clock ≡ s.clock
  pub events : t.events ≡ s.events ++ event.Ended n ∷ []
  pub count : length t.nodes.cells ≡ length s.nodes.cells
  pub itself : is_alive_at t n ≡ false
  pub others : (k : Node) → k.0 ≢ n.0 → (node_at t k).phase ≡ (node_at s k).phase
  pub lives : (k : Node) → (node_at t k).life ≡ (node_at s k).life

pub ends_still : (n : Node) (s t u : SystemView) → Ends n s t → Kept t u → Ends n s u
ends_still n s t u p q = record {
  cluster = q.cluster ∙ p.cluster;
  files = q.files ∙ p.files;
  soon = q.soon ∙ p.soon;
  clock = q.clock ∙ p.clock;
  events = q.events ∙ p.events;
  count = q.count ∙ p.count;
  itself = ap (λ (x : Phase). cond (is_down x) false true) (q.phases n) ∙ p.itself;
  others = λ k other. q.phases k ∙ p.others k other;
  lives = λ k. q.lives k ∙ p.lives k;
}

falls : (n : Node) (s : SystemView) → Ends n s (taken_down n s)
unfolding taken_down told
falls n s = record {
  cluster = refl;
  files = refl;
  soon = refl;
  clock = refl;
  events = refl;
  count = length-set s.nodes.cells n.0 _;
  itself = is_down_there n s;
  others = λ k other. ap (λ (v : LiveView). v.phase) (others_stand n k s other);
  lives = λ k. same_of_all (λ (v : LiveView). v.life) s n k _ refl;
}

pub it_ends : (n : Node) (s : SystemView) → Ends n s (ended n s)
unfolding ended
it_ends n s =
    let gone : SystemView = taken_down n s in
    let over : Ends n s (downs_told n gone.alive gone) =
    ends_still n s gone (downs_told n gone.alive gone) (falls n s) (all_told n gone.alive gone) in
    record {
      cluster = over.cluster;
      files = over.files;
      soon = over.soon;
      clock = over.clock;
      events = over.events;
      count = over.count;
      itself = over.itself;
      others = over.others;
      lives = over.lives;
    }
