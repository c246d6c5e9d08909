-- A dist_ac at work on its mailbox takes no lock that it keeps for nothing.
use Rattle.std.proofs.Common.{◌≡◌, ◌++◌, ℕ, zero, suc, Bool, true, false, cond, List, [], ◌∷◌, is_some, Option, Some, None, refl, sym, ap, subst, ◌∙◌}
use Rattle.std.specs.Option.{option_map}
use Rattle.std.proofs.lemmas.Bool.{false≢true}
use Rattle.std.proofs.lemmas.Option.{same_Some}
use Rattle.rh_model.specs.declared.node.App.{App}
use Rattle.rh_model.specs.declared.node.Node.{Node}
use Rattle.rh_otp_model.specs.declared.message.Message.{Message}
use Rattle.rh_otp_model.specs.declared.output.Requester.{Requester}
use Rattle.rh_otp_model.specs.declared.output.Requester.TheVariants.{Sync, Alone}
use Rattle.rh_otp_model.specs.declared.process.Process.{Process}
use Rattle.rh_otp_model.specs.declared.process.Role.TheVariants as role
use Rattle.rh_otp_dist.specs.declared.outside.Need.{Need}
use Rattle.rh_otp_dist.specs.declared.outside.Need.TheVariants as need
use Rattle.rh_otp_dist.specs.declared.state.Stand.{Stand}
use Rattle.rh_otp_dist.specs.declared.state.Stand.TheVariants as stand
use Rattle.rh_otp_dist.specs.declared.turn.Asked.{Asked}
use Rattle.rh_otp_dist.specs.Outside as outside
use Rattle.rh_otp_dist.specs.Received.{next_mail}
use Rattle.rh_otp_dist.specs.State.{TurnView, DistView}
use Rattle.rh_otp_net.specs.declared.locks.Held.{Held}
use Rattle.rh_otp_net.specs.Links as links
use Rattle.rh_otp_net.specs.Locks.{is_free, held_at, taken}
use Rattle.rh_otp_node.specs.Remote as remote
use Rattle.rh_otp_node.specs.Turns.{dist_turn, handled_if, handled_by, handled_with, introduced_by, introduced_with}
use Rattle.rh_otp_system.specs.Moves as moves
use Rattle.rh_otp_system.specs.State.{SystemView, node_at, with_node, own_at, is_alive_at, process_in}
use Rattle.rh_otp_system.specs.Working as working
use Rattle.rh_otp_laws.proofs.Lists.{IsAt}
use Rattle.rh_otp_locks.specs.Holding.{stand_at, IsNeeded}
use Rattle.rh_otp_locks.proofs.Keeping.{Holds, Keeps, stands_still, keeps_held, wrote, answered, changed, acts}
use Rattle.rh_otp_locks.proofs.Resuming.{IsDone, none_needed, introduces_done, handled_done, is_own_lock, is_lock, AsksForOwn, asks_own, asks_all, request_done, gone_idle}
use Rattle.rh_otp_locks.proofs.Turning.{IsFine, IsTurned, turned, all_fine, taken_fine}

-- the node is alive, and each lock is held for something
pub record IsWell (n : Node) (s : SystemView) : Type 0 where
  pub alive : is_alive_at s n ≡ true
  pub holds : Holds s

pub well_if : (n : Node) (b : Bool) (x y : SystemView) → IsWell n x → IsWell n y → IsWell n (cond b x y)
well_if n true x y one other = one
well_if n false x y one other = other

pub well_by : (n : Node) (s t : SystemView) → Keeps s t → IsWell n s → IsWell n t
well_by n s t keeps is = record { alive = (keeps.nodes n).alive ∙ is.alive; holds = keeps_held s t keeps is.holds }

turned_well : (n : Node) (w : Stand) (t : SystemView) → IsTurned n w t → IsWell n t
turned_well n w t is = record { alive = is.alive; holds = is.holds }

-- a lock that isn't free isn't taken
not_taken : (r : Requester) (p : Process) (nodes : List Node) (rows : List Held) → is_free r nodes rows ≡ false
    → taken r p nodes rows ≡ rows
not_taken r p nodes rows not_free = ap (λ (b : Bool). cond b (rows ++ held_at r p nodes) rows) not_free

-- ---- a turn

-- what the dist_ac of a node asks of its turn
abbrev turn_at : Node → Asked → SystemView → DistView → TurnView
turn_at n asked s d = dist_turn s.cluster (own_at s n) n asked (node_at s n) d

-- behind the message that it takes next
abbrev behind_next : Node → Asked → SystemView → DistView → TurnView
behind_next n asked s d = handled_if (next_mail d) (turn_at n asked s d)

next_fine : (n : Node) (asked : Asked) (s : SystemView) (d : DistView) → (node_at s n).dist ≡ Some d → Holds s
    → (h : Held) → IsAt h s.locks → IsFine n (behind_next n asked s d) s h
next_fine n asked s d has holds =
    all_fine n (behind_next n asked s d) s d has
    (λ r needed. handled_done (next_mail d) r (process_in s n role.DistAc) (turn_at n asked s d) refl needed refl) holds

turns_with : (n : Node) (asked : Asked) (s : SystemView) (o : Option DistView) → (node_at s n).dist ≡ o → IsWell n s
    → IsWell n (working.behind n (handled_with s.cluster (own_at s n) n asked (node_at s n) o) s)
turns_with n asked s None has is = well_by n s _ (acts n (node_at s n, []) s (stands_still (node_at s n))) is
turns_with n asked s (Some d) has is =
    let u : TurnView = behind_next n asked s d in
    turned_well n u.state.stand _ (turned n u s s.locks is.alive (next_fine n asked s d has is.holds))

-- the turn, where it asks for no lock
turns : (n : Node) (has_lock burning : Bool) (s : SystemView) → IsWell n s → IsWell n (working.behind_turn n has_lock burning s)
unfolding handled_by
turns n has_lock burning s is = turns_with n (working.asked_at n has_lock burning s) s (node_at s n).dist refl is

-- ---- the lock of its own node

own_turns : (n : Node) (asked : Asked) (s : SystemView) (o : Option DistView) → (node_at s n).dist ≡ o
    → is_own_lock (remote.need_in o) ≡ true → asked.has_lock ≡ working.own_lock n s → IsWell n s
    → IsWell n (working.behind n (handled_with s.cluster (own_at s n) n asked (node_at s n) o) (working.with_own_lock n s))
own_turns n asked s None has asks told is = absurd (false≢true asks)
own_turns n asked s (Some d) has asks told is =
    let u : TurnView = behind_next n asked s d in
    let request : AsksForOwn d = asks_own (next_mail d) d refl asks in
    turned_well n u.state.stand _
    (turned n u s (working.with_own_lock n s).locks is.alive
    (taken_fine (working.own_lock n s) n u s (Alone (process_in s n role.DistAc)) (n ∷ [])
    (λ free. request_done (process_in s n role.DistAc) (turn_at n asked s d) request (told ∙ free) refl)
    (next_fine n asked s d has is.holds)))

turns_with_lock : (n : Node) (s : SystemView) → is_own_lock (working.need_at s n) ≡ true → IsWell n s
    → IsWell n (working.behind_turn n (working.own_lock n s) false (working.with_own_lock n s))
unfolding handled_by
turns_with_lock n s asks is =
    own_turns n (working.asked_at n (working.own_lock n s) false s) s (node_at s n).dist refl asks refl is

-- ---- the lock of all that synchronise

introduces_with : (n : Node) (others : List Node) (s : SystemView) (l : List Held) (o : Option DistView) → (node_at s n).dist ≡ o
    → is_alive_at s n ≡ true
    → ((u : TurnView) → IsDone Sync (process_in s n role.DistAc) u → (h : Held) → IsAt h l → IsFine n u s h) → is_some o ≡ true
    → IsWell n (working.behind n (introduced_with s.cluster (own_at s n) n others (node_at s n) o) (record s { locks = l }))
introduces_with n others s l None has alive fine some = absurd (false≢true some)
introduces_with n others s l (Some d) has alive fine some =
    let t : TurnView = turn_at n (record { weight = 0; has_lock = false; burns = false }) s d in
    let u : TurnView = outside.introduced_to others t in
    turned_well n u.state.stand _
    (turned n u s l alive (fine u (introduces_done others (process_in s n role.DistAc) t refl)))

introduces : (n : Node) (s : SystemView) (l : List Held) (d : DistView) → (node_at s n).dist ≡ Some d → is_alive_at s n ≡ true
    → ((u : TurnView) → IsDone Sync (process_in s n role.DistAc) u → (h : Held) → IsAt h l → IsFine n u s h)
    → IsWell n (working.introduced n (record s { locks = l }))
unfolding introduced_by
introduces n s l d has alive fine =
    introduces_with n (working.dists_of s (links.linked_with n s.links)) s l (node_at s n).dist refl alive fine (ap is_some has)

-- where it waits for the lock, it takes it if it is free
takes_at : (n : Node) (nodes alive : List Node) (s : SystemView) (d : DistView) → (node_at s n).dist ≡ Some d
    → d.stand ≡ stand.ForLock nodes → IsWell n s → IsWell n (working.take_lock_at n alive s)
takes_at n nodes alive s d has stands is = by (is_free Sync alive s.locks) refl
  where
    -- it needed none before
    nothing_needed : (r : Requester) (u : TurnView) → IsNeeded r (process_in s n role.DistAc) d.stand
        → IsDone r (process_in s n role.DistAc) u
    nothing_needed r u needed =
        absurd (none_needed r (process_in s n role.DistAc) (stand.ForLock nodes) refl refl
        (subst (λ (w : Stand). IsNeeded r (process_in s n role.DistAc) w) stands needed))

    by : (b : Bool) → is_free Sync alive s.locks ≡ b
        → IsWell n (cond b (working.introduced n (working.with_sync_lock n alive s)) (working.with_sync_lock n alive s))
    by true free =
        introduces n s (working.with_sync_lock n alive s).locks d has is.alive
        (λ u done. taken_fine (is_free Sync alive s.locks) n u s Sync alive (λ free_too. done)
        (all_fine n u s d has (λ r needed. nothing_needed r u needed) is.holds))
    by false not_free =
        subst (λ (l : List Held). IsWell n (record s { locks = l }))
        (sym (not_taken Sync (process_in s n role.DistAc) alive s.locks not_free)) is

takes_by : (n : Node) (s : SystemView) (d : DistView) (w : Stand) → (node_at s n).dist ≡ Some d → d.stand ≡ w → IsWell n s
    → IsWell n (working.take_lock_of n (option_map (working.alive_of s) (working.lock_of w)) s)
takes_by n s d (stand.ForLock nodes) has stands is = takes_at n nodes (working.alive_of s nodes) s d has stands is
takes_by n s d w has stands is = is

takes_in : (n : Node) (s : SystemView) (o : Option DistView) → (node_at s n).dist ≡ o → IsWell n s
    → IsWell n (working.take_lock_of n (option_map (working.alive_of s) (working.lock_in o)) s)
takes_in n s None has is = is
takes_in n s (Some d) has is = takes_by n s d d.stand has refl is

pub takes_lock : (n : Node) (s : SystemView) → IsWell n s → IsWell n (working.take_lock n s)
unfolding working.take_lock
takes_lock n s is = takes_in n s (node_at s n).dist refl is

-- ---- where its node's wait is over

-- it stood nowhere, so it had no lock
asks_in : (n : Node) (nodes : List Node) (s : SystemView) (o : Option DistView) → (node_at s n).dist ≡ o
    → stand_at s n ≡ Some stand.Idle → IsWell n s
    → IsWell n (with_node n (remote.with_change (outside.at_lock nodes) o (node_at s n)) s)
asks_in n nodes s None has idle is = well_by n s _ (wrote s n (node_at s n) (stands_still (node_at s n))) is
asks_in n nodes s (Some d) has idle is =
    let u : TurnView = turn_at n (record { weight = 0; has_lock = false; burns = false }) s (outside.at_lock nodes d) in
    let stands : Some d.stand ≡ Some stand.Idle = sym (ap (option_map (λ (e : DistView). e.stand)) has) ∙ idle in
    turned_well n u.state.stand _
    (turned n u s s.locks is.alive
    (all_fine n u s d has
    (λ r needed. absurd (none_needed r (process_in s n role.DistAc) stand.Idle refl refl
    (subst (λ (w : Stand). IsNeeded r (process_in s n role.DistAc) w) (same_Some d.stand stand.Idle stands) needed))) is.holds))

goes : (n : Node) (s : SystemView) → stand_at s n ≡ Some stand.Idle → IsWell n s → IsWell n (working.gone n s)
unfolding working.gone
goes n s idle is =
    takes_lock n (working.waiting_at n (working.around s n) s) (asks_in n (working.around s n) s (node_at s n).dist refl idle is)

all_turns : (n : Node) (asked : Asked) (s : SystemView) (o : Option DistView) → (node_at s n).dist ≡ o → is_lock (remote.need_in o) ≡ true
    → IsWell n s → IsTurned n stand.Idle (working.behind n (handled_with s.cluster (own_at s n) n asked (node_at s n) o) s)
all_turns n asked s None has asks is = absurd (false≢true asks)
all_turns n asked s (Some d) has asks is =
    let u : TurnView = behind_next n asked s d in
    subst (λ (w : Stand). IsTurned n w (working.behind n (handled_with s.cluster (own_at s n) n asked (node_at s n) (Some d)) s))
    (gone_idle (turn_at n asked s d) (asks_all (next_mail d) d refl asks))
    (turned n u s s.locks is.alive (next_fine n asked s d has is.holds))

turns_and_goes : (n : Node) (s : SystemView) → is_lock (working.need_at s n) ≡ true → IsWell n s
    → IsWell n (working.gone n (working.behind_turn n false false s))
unfolding handled_by
turns_and_goes n s asks is =
    let t : SystemView = working.behind_turn n false false s in
    let so : IsTurned n stand.Idle t = all_turns n (working.asked_at n false false s) s (node_at s n).dist refl asks is in
    goes n t so.stands (turned_well n stand.Idle t so)

-- ---- its mailbox

handles_for : (n : Node) (w : Need) (s : SystemView) → working.need_at s n ≡ w → IsWell n s
    → IsWell n (working.handled_for n w (working.asked_for n w s) s)
handles_for n need.OwnLock s asks is = turns_with_lock n s (ap is_own_lock asks) is
handles_for n need.Lock s asks is = turns_and_goes n s (ap is_lock asks) is
handles_for n (need.Answer other a) s asks is =
    turns n false _ (working.prepared n (need.Answer other a) s) (well_by n s _ (answered s _) is)
handles_for n need.Nothing s asks is = turns n false false s is

handles : (n : Node) (s : SystemView) → IsWell n s → IsWell n (working.handled n s)
unfolding working.handled
handles n s is = handles_for n (working.need_at s n) s refl is

works_for : (k : ℕ) (n : Node) (s : SystemView) → IsWell n s → IsWell n (working.work_for k n s)
works_for zero n s is = is
works_for (suc k) n s is = well_if n (working.has_next_at s n) _ _ (works_for k n (working.handled n s) (handles n s is)) is

pub works : (n : Node) (s : SystemView) → IsWell n s → IsWell n (working.work n s)
unfolding working.work
works n s is = works_for (working.mail_count_at s n) n s is

pub gets_mail : (n : Node) (m : Message) (s : SystemView) → IsWell n s → IsWell n (working.mailed n m s)
unfolding working.mailed
gets_mail n m s is =
    works n (working.with_mail n m s)
    (well_by n s _ (wrote s n _ (changed (outside.with_message m) (λ d. refl) (node_at s n).dist (node_at s n) refl)) is)

-- ---- it goes on with a lock

sent_again_stands : (apps : List App) (d : DistView) → (outside.sent_again apps d).stand ≡ d.stand
sent_again_stands [] d = refl
sent_again_stands (a ∷ apps) d = refl

pub goes_on_locked : (n : Node) (s : SystemView) → IsWell n s → IsWell n (moves.locked n s)
goes_on_locked n s is =
    works n _ (well_if n (moves.can_take_lock n s) _ _ (takes_lock n s is)
    (well_by n s _ (wrote s n _ (changed outside.unparked (λ d. sent_again_stands d.parked d) (node_at s n).dist (node_at s n) refl)) is))
