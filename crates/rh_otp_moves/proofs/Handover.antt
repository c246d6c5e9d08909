-- A call that forbids a distributed application by which that moves to another node, where nodes were at rest.
use Rattle.std.proofs.Common.{◌≡◌, ◌≢◌, ◌++◌, ◌==◌, ◌&&◌, ◌||◌, ℕ, Bool, true, false, not, cond, List, [], ◌∷◌, Some, refl, sym, ap, subst, ◌∙◌, inl, inr}
use Rattle.std.specs.Prelude.{filter, map}
use Rattle.std.proofs.lemmas.Bool.{false≢true}
use Rattle.std.proofs.lemmas.List.Elements.{filter_passes}
use Rattle.std.proofs.lemmas.Option.{same_Some}
use Rattle.rh_model.specs.declared.node.App.{App}
use Rattle.rh_model.specs.declared.node.Node.{Node}
use Rattle.rh_otp_model.specs.declared.message.Message.{Message}
use Rattle.rh_otp_model.specs.declared.message.Message.TheVariants as message
use Rattle.rh_otp_model.specs.declared.output.Envelope.{Envelope}
use Rattle.rh_otp_model.specs.declared.process.Process.{Process}
use Rattle.rh_otp_model.specs.declared.wait.OwnFile.{OwnFile}
use Rattle.rh_otp_model.specs.Own.{controls}
use Rattle.rh_otp_dist.specs.declared.state.Stand.TheVariants as stand
use Rattle.rh_otp_dist.specs.declared.state.Standing.{Standing}
use Rattle.rh_otp_dist.specs.Calls.{forbid_here, permit_by}
use Rattle.rh_otp_dist.specs.Calls as dist
use Rattle.rh_otp_dist.specs.Choosing.{backwards}
use Rattle.rh_otp_dist.specs.State.{DistView, TurnView, is_among, may_run, permitted, standing_of, with_permission, with_state}
use Rattle.rh_otp_dist.specs.Told.{is_local, with_waits}
use Rattle.rh_otp_net.specs.Links.{are_linked}
use Rattle.rh_otp_node.specs.Live.{LiveView, is_alive}
use Rattle.rh_otp_system.specs.declared.calls.Ask.TheVariants as ask
use Rattle.rh_otp_system.specs.declared.calls.Call.{Call}
use Rattle.rh_otp_system.specs.declared.calls.Stage.TheVariants as stage
use Rattle.rh_otp_system.specs.declared.slow.Answered.{Answered}
use Rattle.rh_otp_system.specs.Calling.{is_only_loaded}
use Rattle.rh_otp_system.specs.Calls.{process_of}
use Rattle.rh_otp_system.specs.Delivering.{arrived}
use Rattle.rh_otp_system.specs.Doing.{call_of}
use Rattle.rh_otp_system.specs.State.{SystemView, has_dist_at, node_at, with_node, is_alive_at}
use Rattle.rh_otp_laws.proofs.Nodes.{others_same, same_of_all}
use Rattle.rh_otp_orders.specs.Confluence.{IsOrderly}
use Rattle.rh_otp_orders.proofs.Taking.{Taken}
use Rattle.rh_otp_crashes.specs.Crashes.{IsUnoccupied}
use Rattle.rh_otp_crashes.proofs.Crash.{lives_of}
use Rattle.rh_otp_crashes.proofs.Peace.{arrives_alive, without}
use Rattle.rh_otp_crashes.proofs.Posting.{posted_to, posts, mails, all_posted, sends}
use Rattle.rh_otp_crashes.proofs.Turning.{idle_comes, own_in, turn, weighing}
use Rattle.rh_otp_locks.proofs.Locks.{none_at_rest}
use Rattle.rh_otp_stops.proofs.Stopping.{there_is}
use Rattle.rh_otp_starts.proofs.Start.{over_before, asked_so, command_alike}
use Rattle.rh_otp_permits.proofs.Asking.{first_answer, its_permit, told_call}
use Rattle.rh_otp_moves.specs.Moving.{LeavesIt, TakesIt, NotesIt, ForbidsThatMoveEndAlike, told_of}
use Rattle.rh_otp_moves.proofs.Calling.{Asked, call_orderly}
use Rattle.rh_otp_moves.proofs.Taking.{asked_orderly}
use Rattle.rh_otp_moves.proofs.Holding.{Holding, IsHeldUp, holding_on}
use Rattle.rh_otp_moves.proofs.Handing.{Handed, its_note, linked, news}
use Rattle.rh_otp_moves.proofs.Splitting.{Split, all_notes, all_among, told_others, splits}
use Rattle.rh_otp_moves.proofs.Together.{moving_orderly}

-- ---- the dist_ac's turn

-- the others are told, and the call waits for a start
abbrev moves_over : App → Process → TurnView → TurnView
moves_over a p t = record t {
  state = record (with_permission t.here.node a false t.state) {
    p_reqs = (a, record { caller = p; nodes = permitted (with_permission t.here.node a false t.state) a }) ∷ t.state.p_reqs;
  };
  out = t.out ++ posts t.here.node (message.NewPermission t.here.node a false true) (backwards t.own a);
}

waits_for : (a : App) (p : Process) (m : Node) (l : List Node) (t : TurnView) → is_among m l ≡ true
    → forbid_here a p l t ≡ with_waits ((a, record { caller = p; nodes = l }) ∷ t.state.p_reqs) t
waits_for a p m [] t among = absurd (false≢true among)
waits_for a p m (n ∷ l) t among = refl

moves_so : (a : App) (p : Process) (m : Node) (t : TurnView) → LeavesIt t.here.node m a t.state
    → dist.permit a false false p t ≡ moves_over a p t
unfolding dist.permit
moves_so a p m t r =
    ap (permit_by a false false p (standing_of t.state a))
    (sends (message.NewPermission t.here.node a false (is_local (standing_of t.state a))) (backwards t.own a)
    (with_state (with_permission t.here.node a false t.state) t))
    ∙ ap (λ (st : Standing). permit_by a false false p st (told (is_local st))) r.local
    ∙ waits_for a p m (permitted (told true).state a) (told true) r.may
  where
    told : Bool → TurnView
    told his = record t {
      state = with_permission t.here.node a false t.state;
      out = t.out ++ posts t.here.node (message.NewPermission t.here.node a false his) (backwards t.own a);
    }

-- who gets it
mails_told : (lives : Node → ℕ) (s : SystemView) (n : Node) (x : Message) (nodes : List Node)
    → mails lives s n x nodes
    ≡ map (posted_to lives n x) (filter (λ (j : Node). not (j.0 == n.0) && (is_alive_at s j && has_dist_at s j)) nodes)
mails_told lives s n x [] = refl
mails_told lives s n x (m ∷ nodes) =
    by (m.0 == n.0) (is_alive_at s m && has_dist_at s m) (mails_told lives s n x nodes)
  where
    left : List Node
    left = filter (λ (j : Node). not (j.0 == n.0) && (is_alive_at s j && has_dist_at s j)) nodes

    by : (g h : Bool) → mails lives s n x nodes ≡ map (posted_to lives n x) left
        → cond g (mails lives s n x nodes) (cond h (posted_to lives n x m ∷ mails lives s n x nodes) (mails lives s n x nodes))
        ≡ map (posted_to lives n x) (cond (not g && h) (m ∷ left) left)
    by true h rest = rest
    by false true rest = ap (λ (l : List Envelope). posted_to lives n x m ∷ l) rest
    by false false rest = rest

-- what is so of both nodes before the call
record Can (c : Call) (b : SystemView) (m : Node) : Type 0 where
  other : m.0 ≢ c.node.0
  listed : controls (own_in b.files c.node) c.app ≡ true
  sees_list : (j : Node) → is_among j (backwards (own_in b.files c.node) c.app) ≡ true → is_alive_at b j ≡ true
      → (c.node.0 == j.0 || are_linked c.node j b.links) ≡ true
  once : filter (λ j. j.0 == m.0) (told_of c.node c.app b) ≡ m ∷ []
  takes : (d : DistView) → (node_at b m).dist ≡ Some d → d.stand ≡ stand.Idle → may_run d m c.app ≡ true
      → TakesIt (own_in b.files m) c.node m c.app d
  takeovers : (d : DistView) → (node_at b m).dist ≡ Some d → d.t_reqs ≡ []
  sees : (d : DistView) → (node_at b m).dist ≡ Some d → (j : Node) → is_among j d.known ≡ true → is_alive_at b j ≡ true
      → (m.0 == j.0 || are_linked m j b.links) ≡ true
  soon : b.ends_soon ≡ false
  others : (j : Node) (d : DistView) → j.0 ≢ m.0 → is_among j (told_of c.node c.app b) ≡ true → (node_at b j).dist ≡ Some d
      → NotesIt (own_in b.files j) j c.app d

move_orderly : {lives : Node → ℕ} {c : Call} {b : SystemView} {m : Node} (s : SystemView) (d : DistView)
    → Asked lives c false false b s → Can c b m → is_alive_at s c.node ≡ true → (node_at s c.node).dist ≡ Some d → d.stand ≡ stand.Idle
    → LeavesIt c.node m c.app d
    → IsOrderly (arrived (its_permit false false c).to (its_permit false false c).message (without s []))
move_orderly {lives} {c} {b} {m} s d f g alive has is r =
    moving_orderly next (linked (record {
      handed = handed;
      message = its_note lives asks m;
      link = news (record {
        takes = λ y there idle may. subst (λ (files : List OwnFile). TakesIt (own_in files m) n m a y) (sym files_so)
            (g.takes y (before m g.other y there) idle may);
        takeovers = λ y there. g.takeovers y (before m g.other y there);
        sees = λ y there j among up.
            ap (λ (z : SystemView). m.0 == j.0 || are_linked m j z.links) came
            ∙ ap (λ (linked : Bool). m.0 == j.0 || linked) (f.same_links m j)
            ∙ g.sees y (before m g.other y there) j among (sym (up_so j) ∙ up);
      });
      rest = parts.rest;
      taken = subst (λ (l : List Envelope). Taken (its_note lives asks m) l parts.rest) (sym sent_so) parts.taken;
      kinds = parts.kinds;
    }))
  where
    n : Node
    n = c.node

    a : App
    a = c.app

    p : Process
    p = process_of c

    asks : Call
    asks = told_call false false c

    told : List Node
    told = told_of n a b

    q : SystemView
    q = without s []

    next : SystemView
    next = arrived (its_permit false false c).to (its_permit false false c).message q

    free : IsUnoccupied d
    free = f.dists n d alive has

    t : TurnView
    t = turn s.cluster (own_in s.files n) n (lives n) d

    over : TurnView
    over = moves_over a p t

    new : LiveView
    new = record (node_at s n) { dist = Some over.state }

    written : SystemView
    written = with_node n new q

    y : Message
    y = message.NewPermission n a false true

    list : List Node
    list = backwards (own_in s.files n) a

    came : next ≡ record written { messages = mails lives written n y list }
    came =
        arrives_alive (its_permit false false c).to (its_permit false false c).message q alive (f.same_lives n ∙ sym f.life)
        ∙ idle_comes s.cluster s.files n (lives n) (its_permit false false c).message d over free is refl
        (λ w. moves_so a p m (weighing w t) (record { local = r.local; started = r.started; may = r.may })) q (node_at s n)
        (there_is s n alive) has (f.same_lives n) refl refl
        ∙ all_posted n y list written (λ j. same_of_all (λ (v : LiveView). v.life) s n j new refl ∙ f.same_lives j)
        (λ j among up.
        ap (λ (linked : Bool). n.0 == j.0 || linked) (f.same_links n j)
        ∙ g.sees_list j (ap (λ (files : List OwnFile). is_among j (backwards (own_in files n) a)) (sym f.files) ∙ among)
        (sym (same_of_all is_alive s n j new refl ∙ f.awake j) ∙ up))

    sent_so : next.messages ≡ all_notes lives asks told
    sent_so =
        ap (λ (z : SystemView). z.messages) came
        ∙ mails_told lives written n y list
        ∙ (λ i. map (posted_to lives n y) (filter (λ (j : Node). not (j.0 == n.0)
        && ((same_of_all is_alive s n j new refl ∙ f.awake j) i && (own_in (f.files i) j).has_dist)) (backwards (own_in (f.files i) n) a)))

    parts : Split lives asks m told (all_notes lives asks told)
    parts =
        splits told (told_others asks told (λ j. is_alive_at b j && has_dist_at b j) told (all_among told)
        (filter_passes (λ (j : Node). not (j.0 == n.0) && (is_alive_at b j && has_dist_at b j)) (backwards (own_in b.files n) a))) g.once

    hold : Holding lives asks m told next
    hold = holding_on n (mails lives written n y list) s.timers s.events new q next
        (record {
          slow = f.slow;
          soon = f.soon ∙ g.soon;
          dists = λ j x up there. inl (f.dists j x up there);
          ends = λ j up other. f.ends j up;
          among = f.among;
          same_lives = f.same_lives;
          stage = stage.DistAc;
          calls = f.calls;
          waits = λ call x. refl;
          life = f.life;
          tame = λ j x other up there. subst (λ (files : List OwnFile). NotesIt (own_in files j) j a x) (sym f.files)
              (g.others j x other.0 other.2 (sym (f.dist j) ∙ there));
        })
        (record {
          there = there_is s n alive;
          life = refl;
          phase = refl;
          ending = λ other. refl;
          stopped = λ other. refl;
          rest = λ x there. inr (
            refl,
            subst (IsHeldUp asks) (same_Some over.state x there) (record {
              idle = refl;
              mail = refl;
              parked = free.parked;
              started = r.started;
              wait = record { caller = p; nodes = permitted (with_permission n a false t.state) a };
              caller = refl;
              rows = ap (λ rows. (a, record { caller = p; nodes = permitted (with_permission n a false t.state) a }) ∷ rows) free.permits;
            }),
          );
          tame = λ other x there. absurd (other.1 refl);
        })
        came

    files_so : next.files ≡ b.files
    files_so = ap (λ (z : SystemView). z.files) came ∙ f.files

    up_so : (j : Node) → is_alive_at next j ≡ is_alive_at b j
    up_so j = ap (λ (z : SystemView). is_alive_at z j) came ∙ same_of_all is_alive s n j new refl ∙ f.awake j

    before : (j : Node) → j.0 ≢ n.0 → (x : DistView) → (node_at next j).dist ≡ Some x → (node_at b j).dist ≡ Some x
    before j other x there =
        sym (ap (λ (v : LiveView). v.dist)
        (ap (λ (z : SystemView). node_at z j) came ∙ others_same q n j new other ∙ f.others j other)) ∙ there

    handed : Handed lives asks m told next
    handed = record {
      hold = hold;
      listed = ap (λ (files : List OwnFile). controls (own_in files n) a) files_so ∙ g.listed;
      alive = ap (λ (z : SystemView). is_alive_at z n) came ∙ same_of_all is_alive s n n new refl ∙ alive;
      other = g.other;
    }

-- ---- the law

pub moves_alike : ForbidsThatMoveEndAlike
moves_alike s n a reached rest soon listed moves =
    command_alike (ask.Permit false) s n a refl reached rest
    (over_before s soon)
    (λ before f. call_orderly {c = c} (asked_so before c s) f refl none listed moves.sees_list.synchronised
    (λ t asked. so before t
    (subst (λ (begun : Bool). Asked (lives_of s) c false (is_only_loaded (first_answer begun)) (asked_so before c s) t) moves.begun asked)))
  where
    -- nobody has a lock where all are at rest
    none : s.locks ≡ []
    none = none_at_rest s reached rest

    c : Call
    c = call_of (ask.Permit false) n a s

    can : (before : List Answered) → Can c (asked_so before c s) moves.at
    can before = record {
      other = moves.other;
      listed = listed;
      sees_list = moves.sees_list.sees;
      once = moves.once;
      takes = moves.takes;
      takeovers = moves.sees_all.takeovers;
      sees = moves.sees_all.sees;
      soon = soon;
      others = moves.others;
    }

    so : {lives : Node → ℕ} (before : List Answered) (t : SystemView) → Asked lives c false false (asked_so before c s) t → IsOrderly t
    so before t asked = asked_orderly t asked (λ d alive has is.
        move_orderly t d asked (can before) alive has is (moves.leaves d (sym (asked.dist n) ∙ has) is))
