-- How far a node is that introduces itself to others: what is on its way, what has come, and what that has changed.
use Rattle.std.proofs.Common.{◌≡◌, ◌≢◌, ◌≤◌, ◌+◌, ◌==◌, ◌&&◌, ℕ, suc, Bool, true, false, not, cond, List, [], ◌∷◌, map, slice_get, unwrap_or, Option, Some, None, refl, ap, ◌∙◌, arith}
use Rattle.std.specs.Option.{option_map, option_and_then}
use Rattle.std.specs.Prelude.{All}
use Rattle.std.proofs.lemmas.Bool.{false≢true}
use Rattle.std.proofs.lemmas.List.Elements.{All-nil, All-cons}
use Rattle.std.proofs.lemmas.Option.{none-some, same_Some}
use Rattle.rh_model.specs.declared.node.Node.{Node}
use Rattle.rh_otp_model.specs.declared.message.Message.TheVariants as message
use Rattle.rh_otp_model.specs.declared.output.Envelope.{Envelope}
use Rattle.rh_otp_model.specs.declared.output.Requester.TheVariants.{Sync}
use Rattle.rh_otp_model.specs.declared.process.Role.TheVariants as role
use Rattle.rh_otp_model.specs.Flags.{has_any}
use Rattle.rh_otp_model.specs.Processes.{process_at}
use Rattle.rh_otp_dist.specs.declared.state.Stand.TheVariants as stand
use Rattle.rh_otp_dist.specs.State.{DistView}
use Rattle.rh_otp_dist.specs.Told.{local_flags}
use Rattle.rh_otp_net.specs.declared.locks.Held.{Held}
use Rattle.rh_otp_net.specs.Links.{are_linked}
use Rattle.rh_otp_net.specs.Locks.{freed}
use Rattle.rh_otp_node.specs.declared.node.Phase.{Phase}
use Rattle.rh_otp_node.specs.declared.node.Phase.TheVariants as phase
use Rattle.rh_otp_node.specs.Live.{LiveView, never_begun, here_of, is_alive, is_up, is_down, is_phase_up}
use Rattle.rh_otp_system.specs.declared.cell.Cell.{Cell}
use Rattle.rh_otp_system.specs.declared.cell.Cell.TheVariants as cell
use Rattle.rh_otp_system.specs.declared.slow.Answered.{Answered}
use Rattle.rh_otp_system.specs.State.{SystemView, live_in, live_at, node_at, has_dist_at, process_in}
use Rattle.rh_otp_system.specs.Working.{answer_count}
use Rattle.rh_otp_orders.proofs.Same.{cell_at}
use Rattle.rh_otp_joins.proofs.Answering.{met, counted_by}
use Rattle.rh_otp_joins.proofs.Introducing.{Told, word, Learnt, learn_all, live_waiting, locks_while, IsNear}
use Rattle.rh_otp_joins.proofs.Lists.{count_of, counts_itself, more_if}
use Rattle.rh_otp_joins.proofs.Mailing.{words, Unmet}
use Rattle.rh_otp_joins.proofs.Tokens.{Token, up, asks, tells, asked_of, told_of, total}

-- ---- what each node tells

abbrev pub allow_in : Node → Option DistView → List Bool
allow_in m None = []
allow_in m (Some d) = unwrap_or (slice_get d.may m.0) []

abbrev pub flags_in : Option DistView → List Bool
flags_in None = []
flags_in (Some d) = local_flags d

abbrev pub told_in : SystemView → Told
told_in b = record { allow = λ m. allow_in m (node_at b m).dist; flags = λ m. flags_in (node_at b m).dist }

-- ---- where it begins

-- another node: it is alive, its dist_ac takes whatever comes, and both are connected
pub record Other (n m : Node) (b : SystemView) : Type 0 where
  pub live : LiveView
  pub dist : DistView
  pub there : live_at b m ≡ Some live
  pub has : live.dist ≡ Some dist
  pub stands : dist.stand ≡ stand.Idle
  pub mail : dist.mail ≡ []
  pub alive : is_alive live ≡ true
  pub has_dist : has_dist_at b m ≡ true
  pub apart : m.0 ≢ n.0
  pub to : are_linked n m b.links ≡ true
  pub from : are_linked m n b.links ≡ true

-- The node is up and introduces itself to these, with what it may run, and the lock at some nodes.
pub record Opening (n : Node) (nodes : List Node) (b : SystemView) : Type 0 where
  pub live : LiveView
  pub dist : DistView
  pub held : List Held
  pub allowed : List Bool
  pub started : List Bool
  pub there : live_at b n ≡ Some live
  pub is_up_there : is_up live ≡ true
  pub has_dist : has_dist_at b n ≡ true
  pub free : freed Sync (process_at (here_of n live) role.DistAc) held ≡ []
  pub none : has_any started ≡ false
  pub once : (m : Node) → count_of m nodes ≤ 1
  pub others : (m : Node) → 1 ≤ count_of m nodes → Other n m b
  pub answers : b.answers ≡ []

-- what it knows then
abbrev pub first : (n : Node) {nodes : List Node} {b : SystemView} → Opening n nodes b → Learnt
first n g = record { known = n ∷ []; runs = []; may = g.dist.may }

-- the messages
abbrev pub letter : (n : Node) {nodes : List Node} (b : SystemView) → Opening n nodes b → Token → Envelope
letter n b g (up x) = record {
  from = process_in b n role.NetKernel;
  to = process_in b n role.KernelConfig;
  message = message.NodeUp x;
}
letter n b g (asks m) = record {
  from = process_in b n role.DistAc;
  to = process_in b m role.DistAc;
  message = message.NewNode n g.allowed g.started;
}
letter n b g (tells m) = record {
  from = process_in b m role.DistAc;
  to = process_in b n role.DistAc;
  message = word (told_in b) m;
}

abbrev pub counted_at : Node → Node → Option DistView → List Answered
counted_at n m None = []
counted_at n m (Some d) = counted_by m n d

-- how often the answer to the node counts for this pair
abbrev pub counted_in : Node → SystemView → Answered → Token → ℕ
counted_in n b p (asks m) = answer_count (counted_at n m (node_at b m).dist) p
counted_in n b p t = 0

-- another node that was introduced to
abbrev pub met_in : Node → List Bool → LiveView → LiveView
met_in n allowed v = record v { dist = option_map (met n allowed) v.dist }

-- it is one of them, and the introduction to it isn't on its way any more
abbrev pub is_met : Node → List Node → List Token → Bool
is_met m nodes tokens = not (count_of m nodes == 0) && (total (asked_of m) tokens == 0)

-- ---- how far it is

-- What is on its way (`tokens`), what the node waits for still (`later`) and what of that has come before its turn (`left`).
pub record Stage (n : Node) (nodes : List Node) (b : SystemView) (g : Opening n nodes b) (tokens : List Token) (u : SystemView) : Type 0 where
  pub learnt : Learnt
  pub later : List Node
  pub left : List Node
  pub leads : learn_all (told_in b) later learnt ≡ learn_all (told_in b) nodes (first n g)
  pub counts : (m : Node) → total (asked_of m) tokens + total (told_of m) tokens + count_of m left ≡ count_of m later
  pub within : (m : Node) → count_of m later ≤ count_of m nodes
  pub unmet : Unmet later left
  pub same : u ≡ record b {
    nodes = u.nodes;
    messages = map (letter n b g) tokens;
    locks = locks_while g.held later;
    answers = u.answers;
  }
  pub base : u.nodes.base ≡ b.nodes.base
  pub here : cell_at u n.0 ≡ Some (cell.Node (live_waiting g.live g.dist learnt later (words (told_in b) left)))
  pub cells : (m : Node) → m.0 ≢ n.0
      → cell_at u m.0 ≡ cond (is_met m nodes tokens) (Some (cell.Node (met_in n g.allowed (node_at b m)))) (cell_at b m.0)
  pub answers : (p : Answered) → answer_count u.answers p + total (counted_in n b p) tokens ≡ total (counted_in n b p) (map asks nodes)

-- ---- what is seen of it

abbrev pub node_of : Option Cell → LiveView
node_of o = unwrap_or (option_and_then live_in o) never_begun

cell_by : (o : Option Cell) (w : LiveView) → option_and_then live_in o ≡ Some w → o ≡ Some (cell.Node w)
cell_by None w is = absurd (none-some w is)
cell_by (Some (cell.Node v)) w is = ap (λ (x : LiveView). Some (cell.Node x)) (same_Some v w is)
cell_by (Some (cell.Net net)) w is = absurd (none-some w is)

-- a node that is there has a cell
pub cell_there : (s : SystemView) (m : Node) (w : LiveView) → live_at s m ≡ Some w → cell_at s m.0 ≡ Some (cell.Node w)
cell_there s m w is = cell_by (cell_at s m.0) w is

up_alive_by : (p : Phase) → is_phase_up p ≡ true → cond (is_down p) false true ≡ true
up_alive_by phase.Up is = refl
up_alive_by phase.Down is = absurd (false≢true is)
up_alive_by phase.Waiting is = absurd (false≢true is)

pub up_alive : (v : LiveView) → is_up v ≡ true → is_alive v ≡ true
up_alive v is = up_alive_by v.phase is

-- what is the same of another node as it meets this one is so of it whether it has or not
pub still : {n : Node} {nodes : List Node} {b : SystemView} {g : Opening n nodes b} {tokens : List Token} {A : Type 0} (h : LiveView → A)
    (u : SystemView) → Stage n nodes b g tokens u → (m : Node) → m.0 ≢ n.0
    → ((v : LiveView) → h (met_in n g.allowed v) ≡ h v) → h (node_at u m) ≡ h (node_at b m)
still {n} {nodes} {b} {g} {tokens} {A} h u f m apart same =
    ap (λ (o : Option Cell). h (node_of o)) (f.cells m apart) ∙ by (is_met m nodes tokens)
  where
    by : (met_now : Bool) → h (node_of (cond met_now (Some (cell.Node (met_in n g.allowed (node_at b m)))) (cell_at b m.0))) ≡ h (node_at b m)
    by true = same (node_at b m)
    by false = refl

-- what holds of each node that stands in the list holds of all of it
pub all_of : (P : Node → Type 0) (nodes : List Node) → ((m : Node) → 1 ≤ count_of m nodes → P m) → All P nodes
all_of P [] each = All-nil P
all_of P (x ∷ nodes) each =
    All-cons P x nodes (each x (let one : count_of x (x ∷ nodes) ≡ suc (count_of x nodes) = counts_itself x nodes in omega (arith, one)))
    (all_of P nodes (λ m within. each m (more (x.0 == m.0) (count_of m nodes) within)))
  where
    more : (c : Bool) (k : ℕ) → 1 ≤ k → 1 ≤ more_if c k
    more true k within = omega (arith, within)
    more false k within = within

pub all_near : {n : Node} {nodes : List Node} {b : SystemView} {g : Opening n nodes b} {tokens : List Token} (u : SystemView)
    → (f : Stage n nodes b g tokens u) → All (IsNear n u) f.later
all_near {n} {nodes} {b} {g} u f =
    all_of (IsNear n u) f.later (λ m among.
    (let other : Other n m b = g.others m (let less : count_of m f.later ≤ count_of m nodes = f.within m in omega (arith, among, less)) in (
      other.apart,
      still is_alive u f m other.apart (λ v. refl)
          ∙ ap (λ (o : Option LiveView). is_alive (unwrap_or o never_begun)) other.there ∙ other.alive,
      ap (λ (s : SystemView). are_linked n m s.links) f.same ∙ other.to,
    )))
