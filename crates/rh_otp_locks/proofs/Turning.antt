-- Behind a turn of a dist_ac each lock is held for something, if all that it had before it are needed behind it, or freed.
use Rattle.std.proofs.Common.{◌≡◌, ◌≢◌, ◌⊎◌, ◌++◌, ◌==◌, ◌&&◌, ℕ, zero, suc, Bool, true, false, cond, not, List, [], ◌∷◌, Some, slice_get, refl, sym, ap, subst, ◌∙◌, inl, inr}
use Rattle.std.specs.Option.{option_map}
use Rattle.std.proofs.lemmas.Bool.{false≢true, cases_eq, eqb-true, eq-eqb, and_parts, and_from, not-true}
use Rattle.std.proofs.lemmas.Option.{none-some, same_Some}
use Rattle.rh_model.specs.declared.node.Node.{Node}
use Rattle.rh_otp_model.specs.declared.output.Output.{Output}
use Rattle.rh_otp_model.specs.declared.output.Output.TheVariants as output
use Rattle.rh_otp_model.specs.declared.output.Requester.{Requester}
use Rattle.rh_otp_model.specs.declared.output.Requester.TheVariants.{Sync, Alone}
use Rattle.rh_otp_model.specs.declared.process.Process.{Process}
use Rattle.rh_otp_model.specs.declared.process.Role.TheVariants as role
use Rattle.rh_otp_dist.specs.declared.state.Stand.{Stand}
use Rattle.rh_otp_dist.specs.State.{TurnView, DistView}
use Rattle.rh_otp_net.specs.declared.locks.Held.{Held}
use Rattle.rh_otp_net.specs.Alike.{is_process, is_requester}
use Rattle.rh_otp_net.specs.Locks.{held_at}
use Rattle.rh_otp_node.specs.Live.{LiveView, is_alive}
use Rattle.rh_otp_system.specs.Outputs.{carried_out, all_carried_out}
use Rattle.rh_otp_system.specs.State.{SystemView, live_at, node_at, with_node, is_alive_at, process_in, lives_in, lives}
use Rattle.rh_otp_system.specs.Working as working
use Rattle.rh_otp_laws.proofs.Alike.{process_itself}
use Rattle.rh_otp_laws.proofs.Lists.{IsAt, filtered, in_either}
use Rattle.rh_otp_laws.proofs.Lives.{all_live_on}
use Rattle.rh_otp_laws.proofs.Nodes.{node_written, same_number, others_same, alive_is_there}
use Rattle.rh_otp_locks.specs.Holding.{stand_at, IsNeeded, IsForCall, IsForDist, IsHeldFor}
use Rattle.rh_otp_locks.proofs.Keeping.{Holds, Keeps, stand_of, lives_still, call_still, held_still, carries_all_out}
use Rattle.rh_otp_locks.proofs.Resuming.{IsDone}
use Rattle.rh_otp_locks.proofs.Starting.{IsLast}

-- ---- a lock that was freed last isn't held

pub requester_itself : (r : Requester) → is_requester r r ≡ true
requester_itself Sync = refl
requester_itself (Alone p) = process_itself p

carried_behind : (n : Node) (outs : List Output) (o : Output) (s : SystemView)
    → all_carried_out n (outs ++ o ∷ []) s ≡ carried_out n o (all_carried_out n outs s)
carried_behind n [] o s = refl
carried_behind n (p ∷ outs) o s = carried_behind n outs o (carried_out n p s)

freed_gone : (n : Node) (h : Held) (outs : List Output) (s : SystemView) → IsLast (output.Free h.requester h.owner) outs
    → IsAt h (all_carried_out n outs s).locks → ⊥
freed_gone n h outs s last at =
    let before : SystemView = all_carried_out n last.0 s in
    let same : all_carried_out n outs s ≡ carried_out n (output.Free h.requester h.owner) before =
    ap (λ (l : List Output). all_carried_out n l s) last.1 ∙ carried_behind n last.0 (output.Free h.requester h.owner) s in
    let kept : not (is_requester h.requester h.requester && is_process h.owner h.owner) ≡ true =
    (filtered (λ (k : Held). not (is_requester k.requester h.requester && is_process k.owner h.owner)) h before.locks
    (subst (λ (t : SystemView). IsAt h t.locks) same at)).1 in
    false≢true (sym (not-true (is_requester h.requester h.requester && is_process h.owner h.owner) kept)
    ∙ and_from (is_requester h.requester h.requester) (is_process h.owner h.owner) (requester_itself h.requester) (process_itself h.owner))

-- ---- the locks before a turn

-- A lock before a turn of the node's dist_ac: another process has it for something, or the dist_ac, which needs it behind the turn or has
-- freed it.
abbrev pub IsFine : Node → TurnView → SystemView → Held → Type 0
IsFine n u s h =
    (IsHeldFor s h × (IsForCall s h ⊎ (h.owner.node.0 ≢ n.0)))
    ⊎ ((h.owner ≡ process_in s n role.DistAc) × IsDone h.requester h.owner u)

-- behind a turn the node is alive, its dist_ac stands so, and each lock is held for something
pub record IsTurned (n : Node) (w : Stand) (t : SystemView) : Type 0 where
  pub alive : is_alive_at t n ≡ true
  pub stands : stand_at t n ≡ Some w
  pub holds : Holds t

-- the node behind the turn itself, before what was done in it
abbrev turned_to : Node → TurnView → SystemView → LiveView
turned_to n u s = record (node_at s n) { dist = Some u.state }

held_behind : (n : Node) (u : TurnView) (s : SystemView) (l : List Held) (h : Held) (v : LiveView) → live_at s n ≡ Some v
    → is_alive_at s n ≡ true → (IsLast (output.Free h.requester h.owner) u.out → ⊥) → IsFine n u s h
    → IsHeldFor (with_node n (turned_to n u s) (record s { locks = l })) h
held_behind n u s l h v there alive not_freed (inl (held, inl call)) =
    let t : SystemView = with_node n (turned_to n u s) (record s { locks = l }) in
    record {
      there = lives_still s t h.owner (all_live_on s n h.owner.node (turned_to n u s) (refl, refl)) held.there;
      what = inl (call_still s t h refl call);
    }
held_behind n u s l h v there alive not_freed (inl (held, inr other)) =
    let t : SystemView = with_node n (turned_to n u s) (record s { locks = l }) in
    let same : node_at t h.owner.node ≡ node_at s h.owner.node = others_same s n h.owner.node (turned_to n u s) other in
    held_still s t h refl
    (record { life = ap (λ (w : LiveView). w.life) same; alive = ap is_alive same; stand = ap stand_of same }) held
held_behind n u s l h v there alive not_freed (inr (own, inr last)) = absurd (not_freed last)
held_behind n u s l h v there alive not_freed (inr (own, inl needed)) =
    let t : SystemView = with_node n (turned_to n u s) (record s { locks = l }) in
    let is : node_at t n ≡ turned_to n u s = node_written s n v (turned_to n u s) there in
    record {
      there = ap (lives t) own ∙ ap (lives_in (node_at s n).life) is
          ∙ and_from (is_alive_at s n) ((node_at s n).life == (node_at s n).life) alive (eq-eqb (node_at s n).life (node_at s n).life refl);
      what = inr (record {
        role = ap (λ (p : Process). p.role) own;
        at = u.state.stand;
        stands = ap (λ (p : Process). stand_at t p.node) own ∙ ap stand_of is;
        needs = needed;
      });
    }

-- the turn, with these locks before it
pub turned : (n : Node) (u : TurnView) (s : SystemView) (l : List Held) → is_alive_at s n ≡ true → ((h : Held) → IsAt h l → IsFine n u s h)
    → IsTurned n u.state.stand (working.behind n (turned_to n u s, u.out) (record s { locks = l }))
turned n u s l alive fine =
    let written : SystemView = with_node n (turned_to n u s) (record s { locks = l }) in
    let t : SystemView = all_carried_out n u.out written in
    let keeps : Keeps written t = carries_all_out n u.out written in
    let there : (v : LiveView) × (live_at s n ≡ Some v) = alive_is_there s n alive in
    let is : node_at written n ≡ turned_to n u s = node_written s n there.0 (turned_to n u s) there.1 in
    record {
      alive = (keeps.nodes n).alive ∙ ap is_alive is ∙ alive;
      stands = (keeps.nodes n).stand ∙ ap stand_of is;
      holds = λ h at.
          held_still written t h keeps.calls (keeps.nodes h.owner.node)
          (held_behind n u s l h there.0 there.1 alive (λ last. freed_gone n h u.out written last at) (fine h (keeps.locks h at)));
    }

-- ---- that they are so

-- the owner is the dist_ac of this node in its life now
own_is : (n : Node) (s : SystemView) (h : Held) → lives s h.owner ≡ true → h.owner.role ≡ role.DistAc → h.owner.node.0 ≡ n.0
    → h.owner ≡ process_in s n role.DistAc
own_is n s h there is here =
    let life : (node_at s h.owner.node).life ≡ h.owner.life =
    eqb-true (node_at s h.owner.node).life h.owner.life (and_parts (is_alive_at s h.owner.node) _ there).1 in
    let now : h.owner.life ≡ (node_at s n).life = sym life ∙ ap (λ (v : LiveView). v.life) (same_number s h.owner.node n here) in
    λ i. record { role = is i; node = record { 0 = here i }; life = now i }

-- where the dist_ac needs behind the turn what it needed before it, or has freed it
pub all_fine : (n : Node) (u : TurnView) (s : SystemView) (d : DistView) → (node_at s n).dist ≡ Some d
    → ((r : Requester) → IsNeeded r (process_in s n role.DistAc) d.stand → IsDone r (process_in s n role.DistAc) u)
    → Holds s → (h : Held) → IsAt h s.locks → IsFine n u s h
all_fine n u s d has done holds h at = go (holds h at).what
  where
    go : IsForCall s h ⊎ IsForDist s h → IsFine n u s h
    go (inl call) = inl (holds h at, inl call)
    go (inr dist) = elim (cases_eq h.owner.node.0 n.0) [
      | inl here ↦
          let own : h.owner ≡ process_in s n role.DistAc = own_is n s h (holds h at).there dist.role here in
          let stands : dist.at ≡ d.stand =
          same_Some dist.at d.stand
          (sym dist.stands ∙ ap stand_of (same_number s h.owner.node n here) ∙ ap (option_map (λ (e : DistView). e.stand)) has) in
          let needs : IsNeeded h.requester (process_in s n role.DistAc) d.stand =
          subst (λ (w : Stand). IsNeeded h.requester (process_in s n role.DistAc) w) stands
          (subst (λ (p : Process). IsNeeded h.requester p dist.at) own dist.needs) in
          inr (own, subst (λ (p : Process). IsDone h.requester p u) (sym own) (done h.requester needs))
      | inr other ↦ inl (holds h at, inr other)
    ]

-- the rows of a lock that is taken
pub held_by : (r : Requester) (p : Process) (nodes : List Node) (h : Held) (place : ℕ) → slice_get (held_at r p nodes) place ≡ Some h
    → (h.requester ≡ r) × (h.owner ≡ p)
held_by r p [] h place at = absurd (none-some h at)
held_by r p (n ∷ nodes) h zero at =
    let same : record { node = n; requester = r; owner = p } ≡ h = same_Some _ h at in
    (sym (ap (λ (k : Held). k.requester) same), sym (ap (λ (k : Held). k.owner) same))
held_by r p (n ∷ nodes) h (suc place) at = held_by r p nodes h place at

-- and so are those that it takes before it, if they are needed behind the turn, or freed
pub taken_fine : (b : Bool) (n : Node) (u : TurnView) (s : SystemView) (r : Requester) (nodes : List Node)
    → (b ≡ true → IsDone r (process_in s n role.DistAc) u)
    → ((h : Held) → IsAt h s.locks → IsFine n u s h)
    → (h : Held) → IsAt h (cond b (s.locks ++ held_at r (process_in s n role.DistAc) nodes) s.locks) → IsFine n u s h
taken_fine false n u s r nodes done fine h at = fine h at
taken_fine true n u s r nodes done fine h at =
    elim (in_either h s.locks (held_at r (process_in s n role.DistAc) nodes) at.0 at.1) [
      | inl before ↦ fine h before
      | inr new ↦
          let by : (h.requester ≡ r) × (h.owner ≡ process_in s n role.DistAc) =
          held_by r (process_in s n role.DistAc) nodes h new.0 new.1 in
          inr (
            by.1,
            subst (λ (p : Process). IsDone h.requester p u) (sym by.1)
                (subst (λ (q : Requester). IsDone q (process_in s n role.DistAc) u) (sym by.0) (done refl)),
          )
    ]
