-- A node that begins connects with each node of its lists that is alive, and changes nothing else but what is on its way.
use Rattle.std.proofs.Common.{◌≡◌, ◌≢◌, ◌⊎◌, ◌==◌, ◌++◌, ℕ, Bool, true, false, cond, List, [], ◌∷◌, Option, Some, None, refl, sym, ap, subst, ◌∙◌, inl, inr}
use Rattle.std.proofs.lemmas.Bool.{or_cases, eqb-true, ne_eqb, false≢true}
use Rattle.rh_model.specs.ClusterView.{is_in}
use Rattle.rh_model.specs.declared.node.Node.{Node}
use Rattle.rh_otp_model.specs.declared.message.Message.TheVariants as message
use Rattle.rh_otp_model.specs.declared.process.Role.TheVariants as role
use Rattle.rh_otp_net.specs.declared.links.Link.{Link}
use Rattle.rh_otp_net.specs.Links as links
use Rattle.rh_otp_system.specs.Connecting as connecting
use Rattle.rh_otp_system.specs.Doing.{seen_at_once, all_seen, with_timeout}
use Rattle.rh_otp_system.specs.State.{SystemView, node_at, is_alive_at, process_in}
use Rattle.rh_otp_crashes.proofs.Crossing.{same_node}
use Rattle.rh_otp_waits.proofs.Growing.{Grows, same, ◌past◌, either, grows_up, grows_slow_links, grows_reach, grows_after}
use Rattle.rh_otp_waits.proofs.Linking.{linked_last}

-- ---- all else stays

-- without connections and timers, and without what is on its way
abbrev pub bare : SystemView → SystemView
bare s = record s { links = []; timers = []; messages = []; slow = [] }

abbrev pub Bare : SystemView → SystemView → Type 0
Bare s t = bare t ≡ bare s

bare_if : (b : Bool) (x y s : SystemView) → Bare s x → Bare s y → Bare s (cond b x y)
bare_if true x y s p q = p
bare_if false x y s p q = q

bare_up : (one two : Node) (s : SystemView) → Bare s (connecting.tell_up one two s)
bare_up one two s = bare_if (connecting.waits_in (node_at s one).phase) _ _ s refl refl

bare_slow_links : (more : List Link) (s : SystemView) → Bare s (connecting.with_slow_links more s)
bare_slow_links [] s = refl
bare_slow_links (l ∷ more) s = bare_slow_links more _

bare_link : (one two : Node) (s : SystemView) → Bare s (connecting.link one two s)
bare_link one two s = bare_up two one _ ∙ bare_up one two _

bare_connect : (one two : Node) (s : SystemView) → Bare s (connecting.connect one two s)
unfolding connecting.connect
bare_connect one two s =
    bare_if (links.are_linked one two s.links) _ _ s refl (bare_slow_links (links.to_connect one two s.links) _ ∙ bare_link one two s)

bare_seen : (n other : Node) (s : SystemView) → Bare s (seen_at_once n other s)
bare_seen n other s = bare_if (is_alive_at s other) _ _ s (bare_if (n.0 == other.0) _ _ s refl (bare_connect n other s)) refl

pub bare_all_seen : (n : Node) (others : List Node) (s : SystemView) → Bare s (all_seen n others s)
bare_all_seen n [] s = refl
bare_all_seen n (other ∷ others) s = bare_all_seen n others (seen_at_once n other s) ∙ bare_seen n other s

-- so each node is alive as it was
pub bare_alive : (s t : SystemView) (m : Node) → Bare s t → is_alive_at t m ≡ is_alive_at s m
bare_alive s t m is = ap (λ (x : SystemView). is_alive_at x m) is

-- ---- nobody is disconnected

grows_seen_at_once : (n other : Node) (s : SystemView) → Grows s (seen_at_once n other s)
grows_seen_at_once n other s = either (is_alive_at s other) _ _ s (grows_reach n other s) same

pub grows_all_seen : (n : Node) (others : List Node) (s : SystemView) → Grows s (all_seen n others s)
grows_all_seen n [] s = same
grows_all_seen n (other ∷ others) s = grows_all_seen n others (seen_at_once n other s) past grows_seen_at_once n other s

pub grows_timeout : (n : Node) (time : Option ℕ) (s : SystemView) → Grows s (with_timeout n time s)
grows_timeout n None s = same
grows_timeout n (Some time) s = grows_after time (process_in s n role.KernelConfig) message.Timeout s

-- ---- each that is alive is connected

connected : (one two : Node) (s : SystemView) → links.are_linked one two (connecting.connect one two s).links ≡ true
unfolding connecting.connect
connected one two s = by (links.are_linked one two s.links) refl
  where
    added : SystemView
    added = record s { links = s.links ++ links.link one two ∷ [] }

    by : (b : Bool) → links.are_linked one two s.links ≡ b
        → links.are_linked one two
        (cond b s (connecting.with_slow_links (links.to_connect one two s.links) (connecting.link one two s))).links ≡ true
    by true is = is
    by false is =
        (grows_slow_links (links.to_connect one two s.links) (connecting.link one two s)
        past grows_up two one (connecting.tell_up one two added) past grows_up one two added).linked one two (linked_last one two s.links)

seen_linked : (n other : Node) (s : SystemView) → is_alive_at s other ≡ true → n.0 ≢ other.0
    → links.are_linked n other (seen_at_once n other s).links ≡ true
seen_linked n other s alive apart =
    (λ i. links.are_linked n other
    (cond (alive i) (connecting.with_up n other
    (cond (ne_eqb n.0 other.0 apart i) s (connecting.connect n other s))) s).links)
    ∙ connected n other s

pub named_linked : (n m : Node) (others : List Node) (s : SystemView) → is_in m others ≡ true → is_alive_at s m ≡ true → n.0 ≢ m.0
    → links.are_linked n m (all_seen n others s).links ≡ true
named_linked n m [] s among alive apart = absurd (false≢true among)
named_linked n m (other ∷ others) s among alive apart =
    by (or_cases (m.0 == other.0) (is_in m others) among)
    (λ later. named_linked n m others next later (bare_alive s next m (bare_seen n other s) ∙ alive) apart)
  where
    next : SystemView
    next = seen_at_once n other s

    by : ((m.0 == other.0) ≡ true) ⊎ (is_in m others ≡ true)
        → (is_in m others ≡ true → links.are_linked n m (all_seen n others next).links ≡ true)
        → links.are_linked n m (all_seen n others next).links ≡ true
    by (inl here) rest =
        let is : other ≡ m = same_node other m (sym (eqb-true m.0 other.0 here)) in
        (grows_all_seen n others next).linked n m
        (subst (λ (k : Node). links.are_linked n m (seen_at_once n k s).links ≡ true) (sym is) (seen_linked n m s alive apart))
    by (inr later) rest = rest later
