-- Which events can't be given to a node (ours). What a live node answers to a call isn't refused here: it is an answer.
use Rattle.std.specs.Prelude.{ℕ, ◌+◌, nat_lt, nat_le, List, [], ◌∷◌, ◌==◌, ◌&&◌, ◌||◌, not, map, filter, Bool, true, false, Option, Some, None, is_some, unwrap_or, if◌then◌else◌}
use Rattle.std.specs.List.{range_with_len}
use Rattle.rh_model.specs.ClusterView.{node_count, app_count, numbered, spread_of, group_of}
use Rattle.rh_model.specs.declared.node.App.{App}
use Rattle.rh_model.specs.declared.node.Node.{Node}
use Rattle.rh_rules.specs.declared.event.Event.{Event}
use Rattle.rh_rules.specs.declared.event.Event.TheVariants as event
use Rattle.rh_rules.specs.declared.refusal.Refusal.{Refusal}
use Rattle.rh_rules.specs.declared.refusal.Refusal.TheVariants as refusal
use Rattle.rh_otp_node.specs.declared.node.Phase.{Phase}
use Rattle.rh_otp_node.specs.Live.{LiveView, never_begun, is_down, is_phase_up}
use Rattle.rh_otp_sim.specs.Sim.{LiveSimView, live_in}

-- a node, or one that has never begun for a number that no node has
abbrev pub node_in : LiveSimView → Node → LiveView
node_in sim n = unwrap_or (live_in sim n) never_begun

abbrev pub phase_in : LiveSimView → Node → Phase
phase_in sim n = (node_in sim n).phase

abbrev pub life_in : LiveSimView → Node → ℕ
life_in sim n = (node_in sim n).life

-- is its wait for others over?
abbrev pub is_up_in : LiveSimView → Node → Bool
is_up_in sim n = is_phase_up (phase_in sim n)

abbrev pub has_node : LiveSimView → Node → Bool
has_node sim n = nat_lt n.0 (node_count sim.cluster)

abbrev pub has_app : LiveSimView → App → Bool
has_app sim a = nat_lt a.0 (app_count sim.cluster)

abbrev pub is_distributed : LiveSimView → App → Bool
is_distributed sim a = has_app sim a && is_some (spread_of sim.cluster a)

-- is the node up, and one of the application's list?
abbrev pub is_host : LiveSimView → App → Node → Bool
is_host sim a n = is_up_in sim n && has_app sim a && is_some (group_of sim.cluster a n)

-- the nodes of the application's list that are up, in the order of the file
abbrev pub hosts : LiveSimView → App → List Node
hosts sim a = filter (is_host sim a) (map numbered (range_with_len 0 (node_count sim.cluster)))

abbrev pub is_some_node : List Node → Bool
is_some_node [] = false
is_some_node (n ∷ nodes) = true

-- is a node of the application's list up?
abbrev pub has_host : LiveSimView → App → Bool
has_host sim a = is_some_node (hosts sim a)

-- why a node can't begin; one may begin 9,999 times
abbrev pub refuse_boot : Node → LiveSimView → Option Refusal
refuse_boot n sim =
    if not (has_node sim n) then Some refusal.UnknownNode
    else if not (is_down (phase_in sim n)) then Some refusal.AlreadyAlive
    else if nat_le 9999 (life_in sim n) then Some refusal.IncarnationLimit
    else None

-- why it can't end
abbrev pub refuse_crash : Node → LiveSimView → Option Refusal
refuse_crash n sim =
    if not (has_node sim n) then Some refusal.UnknownNode
    else if is_down (phase_in sim n) then Some refusal.NotAlive
    else None

-- why so much time can't pass: the clock goes to 10^12 milliseconds
abbrev pub refuse_tick : ℕ → ℕ → Option Refusal
refuse_tick clock ms =
    if ms == 0 then Some refusal.ZeroTick
    else if nat_lt 1000000000000 (clock + ms) then Some refusal.TimeLimit
    else None

-- why an operator can't call there
abbrev pub refuse_call : Node → App → LiveSimView → Option Refusal
refuse_call n a sim =
    if not (has_node sim n) then Some refusal.UnknownNode
    else if not (has_app sim a) then Some refusal.UnknownApp
    else if not (is_up_in sim n) then Some refusal.NodeNotUp
    else None

-- why an operator can't call at all nodes of an application; where none of them is up it is for this
abbrev pub refuse_all : App → Refusal → LiveSimView → Option Refusal
refuse_all a nobody sim =
    if not (has_app sim a) then Some refusal.UnknownApp
    else if not (is_distributed sim a) then Some refusal.NotDistributed
    else if has_host sim a then None
    else Some nobody

-- why the state refuses an event, if it does
abbrev pub refusal_of : ℕ → Event → LiveSimView → Option Refusal
refusal_of clock (event.Boot n) sim = refuse_boot n sim
refusal_of clock (event.Crash n) sim = refuse_crash n sim
refusal_of clock (event.Tick ms) sim = refuse_tick clock ms
refusal_of clock (event.Start n a restart) sim = refuse_call n a sim
refusal_of clock (event.Stop n a) sim = refuse_call n a sim
refusal_of clock (event.Permit n a allow) sim = refuse_call n a sim
refusal_of clock (event.Takeover n a restart) sim = refuse_call n a sim
refusal_of clock (event.Exit n a normal) sim = refuse_call n a sim
refusal_of clock (event.StartAll a restart) sim = refuse_all a refusal.NodeNotUp sim
refusal_of clock (event.StopAll a) sim = refuse_all a refusal.NeverStarted sim

-- are there too many steps or calls?
abbrev pub is_full : ℕ → LiveSimView → Bool
is_full last_call sim = nat_le 65535 sim.history.cursor || nat_le 4000000000 last_call

abbrev pub or_full : Bool → Option Refusal → Option Refusal
or_full full (Some why) = Some why
or_full full None = if full then Some refusal.TrailFull else None

-- why an event is refused, if it is: by the state, or since there are too many steps or calls
abbrev pub refused : ℕ → ℕ → Event → LiveSimView → Option Refusal
refused clock last_call e sim = or_full (is_full last_call sim) (refusal_of clock e sim)
