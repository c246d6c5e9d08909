-- Behind a change the ready nodes come up one after the other, and then the applications settle as they may.
use Rattle.std.proofs.Common.{◌≡◌, Bool, true, false, cond, List, [], ◌∷◌, fold, refl}
use Rattle.rh_model.specs.declared.node.Node.{Node}
use Rattle.rh_state.specs.Numbers.{nodes_of}
use Rattle.rh_rules.specs.declared.pick.Pick.{Pick}
use Rattle.rh_rules.specs.Course.{Course}
use Rattle.rh_rules.specs.Settling.{settled}
use Rattle.rh_trace.specs.Validity.{IsSound}
use Rattle.rh_rules.specs.NodesStart.{is_ready, come_up, come_up_if_ready, ready_come_up}
use Rattle.rh_rules.specs.Steps.{ComeUp, no_node, ready, not_ready, ComesOf}
use Rattle.rh_settle.proofs.SettlingLaws.{settles_by_pick}
use Rattle.rh_events.proofs.SoundComingUp.{sound_ready_come_up}

-- the nodes of a list come up, each if it is ready
pub each_comes_up : (ns : List Node) (o : Course) → ComeUp ns o (fold come_up_if_ready o ns)
unfolding come_up_if_ready
each_comes_up [] o = no_node o
each_comes_up (n ∷ ns) o = by (is_ready o.state n) refl (each_comes_up ns (come_up o n)) (each_comes_up ns o)
  where
    by : (b : Bool) → is_ready o.state n ≡ b → ComeUp ns (come_up o n) (fold come_up_if_ready (come_up o n) ns) → ComeUp ns o (fold come_up_if_ready o ns)
        → ComeUp (n ∷ ns) o (fold come_up_if_ready (cond b (come_up o n) o) ns)
    by true is up stay = ready n ns o _ is up
    by false is up stay = not_ready n ns o _ is stay

-- so all nodes
pub all_come_up : (o : Course) → ComeUp (nodes_of o.state.cluster) o (ready_come_up o)
unfolding ready_come_up
all_come_up o = each_comes_up (nodes_of o.state.cluster) o

-- what follows by the pick is one of the courses that may follow
pub comes_of : (pick : Pick) (changed : Course) → IsSound changed.state → ComesOf changed (settled pick (ready_come_up changed))
comes_of pick changed sound = record {
  risen = ready_come_up changed;
  rises = all_come_up changed;
  settles = settles_by_pick pick (ready_come_up changed) (sound_ready_come_up changed sound).shaped;
}
