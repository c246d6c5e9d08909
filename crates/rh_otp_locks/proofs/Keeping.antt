-- What leaves all that locks are held for as it is, and takes none: what is sent and told, connected and monitored.
use Rattle.std.proofs.Common.{◌≡◌, ◌++◌, ◌==◌, ◌+◌, ◌^◌, ◌&&◌, nat_lt, ℕ, Bool, true, false, cond, not, List, [], ◌∷◌, Option, Some, None, refl, sym, ap, ◌∙◌, inl, inr, slice_get}
use Rattle.std.specs.Option.{option_map}
use Rattle.rh_model.specs.declared.node.Node.{Node}
use Rattle.rh_otp_model.specs.declared.message.Message.{Message}
use Rattle.rh_otp_model.specs.declared.output.Envelope.{Envelope}
use Rattle.rh_otp_model.specs.declared.output.Event.{Event}
use Rattle.rh_otp_model.specs.declared.output.Event.TheVariants as event
use Rattle.rh_otp_model.specs.declared.output.Output.{Output}
use Rattle.rh_otp_model.specs.declared.output.Output.TheVariants as output
use Rattle.rh_otp_model.specs.declared.output.Requester.{Requester}
use Rattle.rh_otp_model.specs.declared.process.Process.{Process}
use Rattle.rh_otp_dist.specs.declared.state.Stand.{Stand}
use Rattle.rh_otp_dist.specs.Outside as outside
use Rattle.rh_otp_dist.specs.State.{DistView}
use Rattle.rh_otp_net.specs.declared.links.Link.{Link}
use Rattle.rh_otp_net.specs.declared.locks.Held.{Held}
use Rattle.rh_otp_net.specs.Alike.{is_process, is_requester}
use Rattle.rh_otp_net.specs.Links as links
use Rattle.rh_otp_node.specs.Live.{LiveView, is_alive, with_kind}
use Rattle.rh_otp_node.specs.Remote as remote
use Rattle.rh_otp_system.specs.declared.calls.Call.{Call}
use Rattle.rh_otp_system.specs.declared.slow.Answered.{Answered}
use Rattle.rh_otp_system.specs.declared.slow.Slow.{Slow}
use Rattle.rh_otp_system.specs.Connecting as connecting
use Rattle.rh_otp_system.specs.Outputs.{free, carried_out, all_carried_out}
use Rattle.rh_otp_system.specs.Sending.{observed, told, with_event, with_timer, after}
use Rattle.rh_otp_system.specs.State.{SystemView, node_at, with_node, is_alive_at, has_dist_at, lives}
use Rattle.rh_otp_system.specs.Working as working
use Rattle.rh_otp_laws.proofs.Lists.{IsAt, filtered}
use Rattle.rh_otp_laws.proofs.Nodes.{same_of_all}
use Rattle.rh_otp_laws.proofs.Turn.{LivesOn}
use Rattle.rh_otp_locks.specs.Holding.{IsForCall, IsHeldFor}

-- each lock is held for something
abbrev pub Holds : SystemView → Type 0
Holds s = (h : Held) → IsAt h s.locks → IsHeldFor s h

abbrev pub stand_of : LiveView → Option Stand
stand_of v = option_map (λ (d : DistView). d.stand) v.dist

-- the node is in the same life, alive where it was, and its dist_ac stands where it stood
pub record StandsOn (v w : LiveView) : Type 0 where
  pub life : w.life ≡ v.life
  pub alive : is_alive w ≡ is_alive v
  pub stand : stand_of w ≡ stand_of v

pub stands_still : (v : LiveView) → StandsOn v v
stands_still v = record { life = refl; alive = refl; stand = refl }

pub stands_then : (u v w : LiveView) → StandsOn u v → StandsOn v w → StandsOn u w
stands_then u v w p q = record { life = q.life ∙ p.life; alive = q.alive ∙ p.alive; stand = q.stand ∙ p.stand }

-- no lock is taken, calls stay as they are, and so does of all nodes what locks are held for
pub record Keeps (s t : SystemView) : Type 0 where
  pub locks : (h : Held) → IsAt h t.locks → IsAt h s.locks
  pub calls : t.calls ≡ s.calls
  pub nodes : (m : Node) → StandsOn (node_at s m) (node_at t m)

-- ---- what a lock is held for stays where these stay

-- who is there still is
pub lives_still : (s t : SystemView) (p : Process) → LivesOn (node_at s p.node) (node_at t p.node) → lives s p ≡ true → lives t p ≡ true
lives_still s t p on is = (λ i. on.1 i && (on.0 i == p.life)) ∙ is

pub call_still : (s t : SystemView) (h : Held) → t.calls ≡ s.calls → IsForCall s h → IsForCall t h
call_still s t h calls c = record {
  place = c.place;
  call = c.call;
  is_there = ap (λ (l : List Call). slice_get l c.place) calls ∙ c.is_there;
  waits = c.waits;
  owner = c.owner;
  name = c.name;
}

pub held_still : (s t : SystemView) (h : Held) → t.calls ≡ s.calls → StandsOn (node_at s h.owner.node) (node_at t h.owner.node)
    → IsHeldFor s h → IsHeldFor t h
held_still s t h calls on held = record {
  there = lives_still s t h.owner (on.life, on.alive) held.there;
  what = elim held.what [
    | inl c ↦ inl (call_still s t h calls c)
    | inr d ↦ inr (record { role = d.role; at = d.at; stands = on.stand ∙ d.stands; needs = d.needs })
  ];
}

pub keeps_held : (s t : SystemView) → Keeps s t → Holds s → Holds t
keeps_held s t keeps holds h at = held_still s t h keeps.calls (keeps.nodes h.owner.node) (holds h (keeps.locks h at))

-- ---- what keeps it all

pub nothing : (s : SystemView) → Keeps s s
nothing s = record { locks = λ h at. at; calls = refl; nodes = λ m. stands_still (node_at s m) }

infixl 5 ◌then◌
pub ◌then◌ : {s t u : SystemView} → Keeps s t → Keeps t u → Keeps s u
◌then◌ {s} {t} {u} p q = record {
  locks = λ h at. p.locks h (q.locks h at);
  calls = q.calls ∙ p.calls;
  nodes = λ m. stands_then (node_at s m) (node_at t m) (node_at u m) (p.nodes m) (q.nodes m);
}

pub either : (b : Bool) (x y s : SystemView) → Keeps s x → Keeps s y → Keeps s (cond b x y)
either true x y s p q = p
either false x y s p q = q

pub wrote : (s : SystemView) (n : Node) (w : LiveView) → StandsOn (node_at s n) w → Keeps s (with_node n w s)
wrote s n w on = record {
  locks = λ h at. at;
  calls = refl;
  nodes = λ m. record {
    life = same_of_all (λ (v : LiveView). v.life) s n m w on.life;
    alive = same_of_all is_alive s n m w on.alive;
    stand = same_of_all stand_of s n m w on.stand;
  };
}

pub put : (s : SystemView) (more : List Envelope) → Keeps s (record s { messages = s.messages ++ more })
put s more = record { locks = λ h at. at; calls = refl; nodes = λ m. stands_still (node_at s m) }

seen : (s : SystemView) (e : Event) → Keeps s (with_event e s)
seen s e = record { locks = λ h at. at; calls = refl; nodes = λ m. stands_still (node_at s m) }

set : (s : SystemView) (due : ℕ) (to : Process) (m : Message) → Keeps s (with_timer due to m s)
set s due to m = record { locks = λ h at. at; calls = refl; nodes = λ m. stands_still (node_at s m) }

pub linked : (s : SystemView) (links : List Link) → Keeps s (record s { links = links })
linked s links = record { locks = λ h at. at; calls = refl; nodes = λ m. stands_still (node_at s m) }

pub slowed : (s : SystemView) (slow : List Slow) → Keeps s (record s { slow = slow })
slowed s slow = record { locks = λ h at. at; calls = refl; nodes = λ m. stands_still (node_at s m) }

pub answered : (s : SystemView) (answers : List Answered) → Keeps s (record s { answers = answers })
answered s answers = record { locks = λ h at. at; calls = refl; nodes = λ m. stands_still (node_at s m) }

pub freed : (s : SystemView) (r : Requester) (p : Process) → Keeps s (free r p s)
freed s r p = record {
  locks = λ h at. (filtered (λ (k : Held). not (is_requester k.requester r && is_process k.owner p)) h s.locks at).0;
  calls = refl;
  nodes = λ m. stands_still (node_at s m);
}

-- ---- Sending

observes : (e : Event) (s : SystemView) → Keeps s (observed e s)
observes (event.Started a m kind) s =
    wrote s m (with_kind a kind (node_at s m)) (record { life = refl; alive = refl; stand = refl })
observes e s = nothing s

pub tells : (e : Event) (s : SystemView) → Keeps s (told e s)
unfolding told
tells e s = observes e s then seen (observed e s) e

pub sets : (time : ℕ) (to : Process) (m : Message) (s : SystemView) → Keeps s (after time to m s)
unfolding after
sets time to m s =
    either (time == 0) _ _ s (put s _)
    (either (nat_lt 4294967295 time) _ _ s (nothing s)
    (either (nat_lt (s.clock + time) (2 ^ 64)) _ _ s (set s (s.clock + time) to m) (nothing s)))

-- ---- Connecting

tells_up : (one two : Node) (s : SystemView) → Keeps s (connecting.tell_up one two s)
tells_up one two s = either (connecting.waits_in (node_at s one).phase) _ _ s (put s _) (nothing s)

links_two : (one two : Node) (s : SystemView) → Keeps s (connecting.link one two s)
links_two one two s = linked s _ then tells_up one two _ then tells_up two one _

slow_links : (more : List Link) (s : SystemView) → Keeps s (connecting.with_slow_links more s)
slow_links [] s = nothing s
slow_links (l ∷ more) s = slowed s _ then slow_links more _

pub connects : (one two : Node) (s : SystemView) → Keeps s (connecting.connect one two s)
unfolding connecting.connect
connects one two s =
    either (links.are_linked one two s.links) _ _ s (nothing s)
    (links_two one two s then slow_links (links.to_connect one two s.links) _)

pub reaches : (one two : Node) (s : SystemView) → Keeps s (connecting.reach one two s)
reaches one two s = either (one.0 == two.0) _ _ s (nothing s) (connects one two s)

sends_reached : (n to : Node) (m : Message) (s : SystemView) → Keeps s (connecting.send_reached n to m s)
sends_reached n to m s = either (has_dist_at s to) _ _ s (put s _) (nothing s)

sends_to_dist : (n to : Node) (m : Message) (s : SystemView) → Keeps s (connecting.send_to_dist n to m s)
sends_to_dist n to m s =
    either (is_alive_at s to) _ _ s (reaches n to s then sends_reached n to m (connecting.reach n to s)) (nothing s)

-- a change of a dist_ac that leaves it where it stands
pub changed : (f : DistView → DistView) → ((d : DistView) → (f d).stand ≡ d.stand) → (o : Option DistView) (v : LiveView) → v.dist ≡ o
    → StandsOn v (remote.with_change f o v)
changed f same None v is = stands_still v
changed f same (Some d) v is = record {
  life = refl;
  alive = refl;
  stand = ap Some (same d) ∙ sym (ap (option_map (λ (e : DistView). e.stand)) is);
}

monitors : (n other : Node) (s : SystemView) → Keeps s (connecting.monitor n other s)
monitors n other s =
    let near : SystemView = connecting.reach n other s in
    either (is_alive_at s other) _ _ s
    (reaches n other s then wrote near n _ (changed (outside.with_monitor other) (λ d. refl) (node_at near n).dist (node_at near n) refl))
    (put s _)

-- ---- Outputs

carries_out : (n : Node) (o : Output) (s : SystemView) → Keeps s (carried_out n o s)
carries_out n (output.Send e) s = put s _
carries_out n (output.Tell e) s = tells e s
carries_out n (output.ToDist to m) s = sends_to_dist n to m s
carries_out n (output.Monitor other) s = monitors n other s
carries_out n (output.Free requester owner) s = freed s requester owner
carries_out n (output.After time m) s = sets time _ m s

pub carries_all_out : (n : Node) (outputs : List Output) (s : SystemView) → Keeps s (all_carried_out n outputs s)
carries_all_out n [] s = nothing s
carries_all_out n (o ∷ outputs) s = carries_out n o s then carries_all_out n outputs _

-- a turn of another process than its dist_ac
pub acts : (n : Node) (pair : LiveView × List Output) (s : SystemView) → StandsOn (node_at s n) pair.0 → Keeps s (working.behind n pair s)
acts n pair s on = wrote s n pair.0 on then carries_all_out n pair.1 _
