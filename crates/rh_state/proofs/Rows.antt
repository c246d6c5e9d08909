-- States computed from the definitions.
use Rattle.std.proofs.Common.{◌≡◌, ℕ, Bool, true, false, Some, None, List, [], ◌∷◌, replicate, refl}
use Rattle.rh_model.specs.ClusterView.{ClusterView, NodeView, AppView, numbered, app_numbered}
use Rattle.rh_model.proofs.PlainNode.{plain_node}
use Rattle.rh_model.specs.Limits.{node_limit, app_limit}
use Rattle.rh_model.specs.declared.node.App.{App}
use Rattle.rh_arena.specs.Words.{Words, unlinked, next_of}
use Rattle.rh_arena.specs.Linking.{pushed, removed}
use Rattle.rh_arena.specs.Lists.{listed}
use Rattle.rh_arena.specs.declared.change.Change.TheVariants.{Count}
use Rattle.rh_arena.specs.Exchange as links
use Rattle.rh_wheel.specs.Stored as wheel
use Rattle.rh_state.specs.declared.status.Mode.TheVariants.{Down, Up}
use Rattle.rh_state.specs.declared.status.Kind.TheVariants as kind
use Rattle.rh_state.specs.declared.status.Place.TheVariants.{Off, InRunning, InWaiting}
use Rattle.rh_state.specs.declared.status.Timer.TheVariants.{Sync, Failover}
use Rattle.rh_state.specs.declared.edit.Change.TheVariants.{Now, Mode, Allowed}
use Rattle.rh_state.specs.declared.edit.Edit.{Edit}
use Rattle.rh_state.specs.declared.edit.Edit.TheVariants.{Links, Part}
use Rattle.rh_state.specs.Edits.{put, had, exchange, turned, is_done}
use Rattle.rh_state.specs.First.{first, configured}
use Rattle.rh_state.specs.Numbers.{nodes_of, apps_of}
use Rattle.rh_state.specs.Setters.{with_mode, with_incarnation, with_kind, with_running, with_waiting, with_timer, without_due, unlisted}
use Rattle.rh_state.specs.StateView.{StateView, mode_of, incarnation_of, running_at, running_count, place_of, next_in_list, kind_of, is_allowed, due_of}
use Rattle.rh_state.specs.StateView.{earliest}
use Rattle.rh_state.specs.Timers.{timer_numbered, number_of}
use Rattle.rh_state.specs.Pairs.{pair_number, app_of_pair, waiting_list, running_in, waiting_in}
use Rattle.rh_state.specs.Stored.{Stored, read}

abbrev node : List Bool → NodeView
node permissions = record plain_node { permissions = permissions }

abbrev app : AppView
app = record { deps = []; start_arg = None; phases = false; spread = None }

-- two nodes, and four applications, the last of which isn't permitted at the second node
abbrev cluster : ClusterView
cluster = record {
  profile = 1;
  node_names = (97 ∷ []) ∷ (98 ∷ []) ∷ [];
  app_names = (97 ∷ []) ∷ (98 ∷ []) ∷ (99 ∷ []) ∷ (100 ∷ []) ∷ [];
  platform_names = [];
  nodes = node (true ∷ true ∷ true ∷ true ∷ []) ∷ node (true ∷ true ∷ true ∷ false ∷ []) ∷ [];
  apps = app ∷ app ∷ app ∷ app ∷ [];
}

abbrev a : ℕ → App
a = app_numbered

-- a cluster of as many nodes and applications as there may be
abbrev largest : ClusterView
largest = record { profile = 2; node_names = replicate (node_limit 2) []; app_names = replicate (app_limit 2) []; platform_names = []; nodes = []; apps = [] }

-- its last pair, its last list and its last timer
last_numbers : (pair_number largest (numbered 63) (a 127) ≡ 8191) × (waiting_list largest (numbered 63) ≡ 127) × (number_of largest (Failover (a 127)) ≡ 191)
last_numbers = (refl, refl, refl)

-- at node 1 applications 2, 0 and 1 run, and 3 waits
abbrev started : StateView
started = with_waiting (with_running (with_running (with_running (first cluster) (numbered 1) (a 2)) (numbered 1) (a 0)) (numbered 1) (a 1)) (numbered 1) (a 3)

first_is_down : mode_of (first cluster) (numbered 1) ≡ Down
first_is_down = refl

permitted : is_allowed (first cluster) (numbered 0) (a 3) ≡ true
unfolding configured nodes_of apps_of
permitted = refl

not_permitted : is_allowed (first cluster) (numbered 1) (a 3) ≡ false
unfolding configured nodes_of apps_of
not_permitted = refl

in_order_of_starting : running_at started (numbered 1) ≡ a 2 ∷ a 0 ∷ a 1 ∷ []
in_order_of_starting = refl

none_elsewhere : running_count started (numbered 0) ≡ 0
none_elsewhere = refl

runs : place_of started (numbered 1) (a 0) ≡ InRunning
runs = refl

waits : place_of started (numbered 1) (a 3) ≡ InWaiting
waits = refl

off : place_of started (numbered 0) (a 3) ≡ Off
off = refl

next_of_first : next_in_list started (numbered 1) (a 2) ≡ Some (a 0)
next_of_first = refl

next_of_last : next_in_list started (numbered 1) (a 1) ≡ None
next_of_last = refl

next_of_none : next_in_list started (numbered 0) (a 1) ≡ None
next_of_none = refl

-- the middle one of three is taken out
next_after_unlisting : next_in_list (unlisted started (numbered 1) (a 0)) (numbered 1) (a 2) ≡ Some (a 1)
next_after_unlisting = refl

off_after_unlisting : place_of (unlisted started (numbered 1) (a 3)) (numbered 1) (a 3) ≡ Off
off_after_unlisting = refl

-- the start kind stays when the application is taken out
kind_after_unlisting : kind_of (unlisted (with_kind started (numbered 1) (a 0) (kind.Takeover (numbered 0))) (numbered 1) (a 0)) (numbered 1) (a 0)
    ≡ kind.Takeover (numbered 0)
kind_after_unlisting = refl

up : mode_of (with_mode started (numbered 1) Up) (numbered 1) ≡ Up
up = refl

other_stays_down : mode_of (with_mode started (numbered 1) Up) (numbered 0) ≡ Down
other_stays_down = refl

started_twice : incarnation_of (with_incarnation started (numbered 0) 2) (numbered 0) ≡ 2
started_twice = refl

-- the pairs of two nodes and four applications: eight entries and four lists
pair : pair_number cluster (numbered 1) (a 2) ≡ 6
pair = refl

pair_of : app_of_pair cluster (numbered 1) 6 ≡ a 2
pair_of = refl

list_of_waiting : waiting_list cluster (numbered 1) ≡ 3
list_of_waiting = refl

-- what is kept with such lists
abbrev kept : wheel.Stored → Words → Stored
kept timers links = record {
  cluster = cluster;
  time = 0;
  modes = Down ∷ Down ∷ [];
  incarnations = 0 ∷ 0 ∷ [];
  links = links;
  restarts = [];
  kinds = [];
  allowed = [];
  standings = [];
  wheel = timers;
}

-- in list 1, of what runs at node 1, stand pairs 6, 4 and 5, and in list 3, of what waits there, pair 7
abbrev linked : Words
linked = pushed (pushed (pushed (pushed (unlinked 8 4) 1 6) 1 4) 1 5) 3 7

none_runs_at_first : (t : wheel.Stored) → (read (kept t (unlinked 8 4))).running ≡ (first cluster).running
unfolding read running_in nodes_of listed
none_runs_at_first t = refl

none_waits_at_first : (t : wheel.Stored) → (read (kept t (unlinked 8 4))).waiting ≡ (first cluster).waiting
unfolding read waiting_in nodes_of listed
none_waits_at_first t = refl

running_read : (t : wheel.Stored) → (read (kept t linked)).running ≡ started.running
unfolding read running_in nodes_of listed
running_read t = refl

waiting_read : (t : wheel.Stored) → (read (kept t linked)).waiting ≡ started.waiting
unfolding read waiting_in nodes_of listed
waiting_read t = refl

-- the pair in the middle is taken out, and then the only one that waits
running_read_without : (t : wheel.Stored) → (read (kept t (removed linked 1 4))).running ≡ (unlisted started (numbered 1) (a 0)).running
unfolding read running_in nodes_of listed
running_read_without t = refl

waiting_read_without : (t : wheel.Stored) → (read (kept t (removed linked 3 7))).waiting ≡ (unlisted started (numbered 1) (a 3)).waiting
unfolding read waiting_in nodes_of listed
waiting_read_without t = refl

-- a pair that was taken out keeps its link, and none is read behind it
link_kept : next_of (removed linked 1 4) 4 ≡ Some 5
link_kept = refl

none_read_behind : (t : wheel.Stored) → next_in_list (read (kept t (removed linked 1 4))) (numbered 1) (a 0) ≡ None
unfolding read running_in waiting_in nodes_of listed
none_read_behind t = refl

-- the failover timers of applications 1 and 0 are due together, set in this order, and the sync timer of node 1 before them
abbrev timed : StateView
timed = with_timer (with_timer (with_timer started 100 (Failover (a 1))) 100 (Failover (a 0))) 36 (Sync (numbered 1))

firing_order : timed.timers ≡ (36, Sync (numbered 1)) ∷ (100, Failover (a 1)) ∷ (100, Failover (a 0)) ∷ []
firing_order = refl

first_timer : earliest timed ≡ Some (36, Sync (numbered 1))
first_timer = refl

-- a node and an application of one number have different timers
due : due_of timed (Failover (a 1)) ≡ Some 100
due = refl

not_set : due_of timed (Sync (numbered 0)) ≡ None
not_set = refl

cancelled : (without_due timed (Failover (a 1))).timers ≡ (36, Sync (numbered 1)) ∷ (100, Failover (a 0)) ∷ []
cancelled = refl

-- node timers come before those of applications
last_number : number_of cluster (Failover (a 3)) ≡ 5
last_number = refl

last_numbered : timer_numbered cluster 5 ≡ Failover (a 3)
last_numbered = refl

node_numbered : timer_numbered cluster 1 ≡ Sync (numbered 1)
node_numbered = refl

-- what is kept once node 1 is up at 36 milliseconds
abbrev risen : Stored
risen = record (kept (wheel.unarmed 6) linked) { time = 36; modes = Down ∷ Up ∷ []; allowed = (true ∷ false ∷ []) ∷ [] }

-- the change of time is taken back, and its edit has the later time then
time_back : (exchange risen (Part true (Now 0))).time ≡ 0
unfolding exchange
time_back = refl

time_turned : turned risen (Part true (Now 0)) ≡ Part false (Now 36)
unfolding turned
time_turned = refl

-- and made again
time_forth : exchange (exchange risen (Part true (Now 0))) (turned risen (Part true (Now 0))) ≡ risen
unfolding exchange turned
time_forth = refl

mode_back : put risen (Mode (numbered 1) Down) ≡ record risen { modes = Down ∷ Down ∷ [] }
mode_back = refl

mode_had : had risen (Mode (numbered 1) Down) ≡ Mode (numbered 1) Up
mode_had = refl

mode_forth : put (put risen (Mode (numbered 1) Down)) (had risen (Mode (numbered 1) Down)) ≡ risen
mode_forth = refl

-- a node that isn't there has no mode, and its edit keeps the value
no_mode : put risen (Mode (numbered 2) Up) ≡ risen
no_mode = refl

no_mode_had : had risen (Mode (numbered 2) Up) ≡ Mode (numbered 2) Up
no_mode_had = refl

cell_put : (put risen (Allowed (numbered 0) (a 1) true)).allowed ≡ (true ∷ true ∷ []) ∷ []
cell_put = refl

cell_had : had risen (Allowed (numbered 0) (a 1) true) ≡ Allowed (numbered 0) (a 1) false
cell_had = refl

-- an edit that names a word twice is taken back too
abbrev counted : Edit
counted = Links (record { is_done = false; changes = Count 1 7 ∷ Count 1 9 ∷ [] })

later_count : (exchange risen counted).links.count ≡ 0 ∷ 9 ∷ 0 ∷ 1 ∷ []
unfolding exchange links.exchange
later_count = refl

both_counts_back : exchange (exchange risen counted) (turned risen counted) ≡ risen
unfolding exchange turned links.exchange links.turned
both_counts_back = refl

counted_turns : is_done (turned risen counted) ≡ true
unfolding turned links.turned
counted_turns = refl
