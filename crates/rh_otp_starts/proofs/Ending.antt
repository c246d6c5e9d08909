-- A node that goes on to its end behind a call, where nothing else was on its way: the others are told, and every order of what they do
-- ends alike.
use Rattle.std.proofs.Common.{◌≡◌, ◌≢◌, ◌⊎◌, ◌++◌, ◌==◌, ◌&&◌, ◌||◌, ℕ, Bool, true, false, not, cond, List, [], ◌∷◌, replicate, Option, Some, None, refl, sym, ap, subst, ◌∙◌, inl, inr}
use Rattle.std.specs.Prelude.{All}
use Rattle.std.proofs.lemmas.Bool.{eqb-false, not-true, false≢true}
use Rattle.std.proofs.lemmas.List.{append_assoc, append-nil}
use Rattle.std.proofs.lemmas.List.Elements.{All-nil, All-append, All-replicate}
use Rattle.std.proofs.lemmas.Option.{none-some, same_Some}
use Rattle.rh_model.specs.declared.node.Node.{Node}
use Rattle.rh_otp_model.specs.declared.message.Message.TheVariants as message
use Rattle.rh_otp_model.specs.declared.output.Envelope.{Envelope}
use Rattle.rh_otp_model.specs.declared.process.Process.{Process}
use Rattle.rh_otp_model.specs.declared.process.Role.TheVariants as role
use Rattle.rh_otp_model.specs.declared.wait.OwnFile.{OwnFile}
use Rattle.rh_otp_model.specs.Processes.{process_at}
use Rattle.rh_otp_dist.specs.Outside as outside
use Rattle.rh_otp_dist.specs.State.{DistView}
use Rattle.rh_otp_net.specs.Links as links
use Rattle.rh_otp_node.specs.Live.{LiveView, is_alive, is_ending}
use Rattle.rh_otp_node.specs.Remote.{with_change, without_monitors}
use Rattle.rh_otp_system.specs.declared.calls.Call.{Call}
use Rattle.rh_otp_system.specs.Ending.{down, downs_at, down_told, downs_told, told_down, taken_down, ended}
use Rattle.rh_otp_system.specs.Moves.{IsAmong}
use Rattle.rh_otp_system.specs.Resting.{crashed}
use Rattle.rh_otp_system.specs.Sending.{told}
use Rattle.rh_otp_system.specs.State.{SystemView, node_at, with_node, has_dist_at, is_alive_at}
use Rattle.rh_otp_laws.specs.Knowing.{EndsAlone}
use Rattle.rh_otp_laws.proofs.Crashing.{ends_alone}
use Rattle.rh_otp_laws.proofs.Lists.{filtered}
use Rattle.rh_otp_laws.proofs.Nodes.{same_of_all, same_number}
use Rattle.rh_otp_orders.specs.Confluence.{IsOrderly}
use Rattle.rh_otp_crashes.specs.Crashes.{IsUnoccupied}
use Rattle.rh_otp_crashes.proofs.Deeds.{AreLater}
use Rattle.rh_otp_crashes.proofs.Falling.{IsFallout, tells, end_told}
use Rattle.rh_otp_crashes.proofs.Peace.{here_in, at_ease}
use Rattle.rh_otp_crashes.proofs.Turning.{own_in}
use Rattle.rh_otp_starts.proofs.Alone.{Waits}
use Rattle.rh_otp_starts.proofs.Falling.{Falls, orderly}

-- ---- who is told

-- so much is as it was, and each message more tells a dist_ac of the end
pub record Told (lives : Node → ℕ) (gone : Process) (s t : SystemView) : Type 0 where
  pub files : t.files ≡ s.files
  pub soon : t.ends_soon ≡ s.ends_soon
  pub same_lives : (n : Node) → (node_at t n).life ≡ (node_at s n).life
  pub more : List Envelope
  pub behind : t.messages ≡ s.messages ++ more
  pub each : All (IsFallout lives gone) more

nobody : {lives : Node → ℕ} {gone : Process} (s : SystemView) → Told lives gone s s
nobody {lives} {gone} s = record {
  files = refl;
  soon = refl;
  same_lives = λ n. refl;
  more = [];
  behind = sym (append-nil s.messages);
  each = All-nil (IsFallout lives gone);
}

both : {lives : Node → ℕ} {gone : Process} (s t u : SystemView) → Told lives gone s t → Told lives gone t u → Told lives gone s u
both {lives} {gone} s t u p q = record {
  files = q.files ∙ p.files;
  soon = q.soon ∙ p.soon;
  same_lives = λ n. q.same_lives n ∙ p.same_lives n;
  more = p.more ++ q.more;
  behind = q.behind ∙ ap (λ (l : List Envelope). l ++ q.more) p.behind ∙ append_assoc s.messages p.more q.more;
  each = All-append (IsFallout lives gone) p.more q.more p.each q.each;
}

life_kept : (n : Node) (v : LiveView) (o : Option DistView) → (with_change (outside.without_monitors n) o v).life ≡ v.life
life_kept n v None = refl
life_kept n v (Some d) = refl

is_told : {lives : Node → ℕ} (n m : Node) (s : SystemView) → ((k : Node) → (node_at s k).life ≡ lives k)
    → Told lives (process_at (here_in lives n) role.DistAc) s (told_down n m s)
is_told {lives} n m s is =
    let gone : Process = process_at (here_in lives n) role.DistAc in
    let w : LiveView = without_monitors n (node_at s m) in
    let next : SystemView = with_node m w s in
    let same : (k : Node) → (node_at next k).life ≡ (node_at s k).life =
    λ k. same_of_all (λ (v : LiveView). v.life) s m k w (life_kept n (node_at s m) (node_at s m).dist) in
    let so : end_told lives gone m ≡ down m n next =
    (λ i. record {
      from = record { role = role.DistAc; node = n; life = sym (same n ∙ is n) i };
      to = record { role = role.DistAc; node = m; life = sym (same m ∙ is m) i };
      message = message.NodeDown n;
    }) in
    record {
      files = refl;
      soon = refl;
      same_lives = same;
      more = replicate (downs_at m n s) (down m n next);
      behind = refl;
      each = All-replicate (IsFallout lives gone) (downs_at m n s) (down m n next) (subst (IsFallout lives gone) so (tells m));
    }

told_by : {lives : Node → ℕ} (n m : Node) (b : Bool) (s : SystemView) → ((k : Node) → (node_at s k).life ≡ lives k)
    → Told lives (process_at (here_in lives n) role.DistAc) s (cond b (told_down n m s) s)
told_by n m true s is = is_told n m s is
told_by n m false s is = nobody s

one_told : {lives : Node → ℕ} (n m : Node) (s : SystemView) → ((k : Node) → (node_at s k).life ≡ lives k)
    → Told lives (process_at (here_in lives n) role.DistAc) s (down_told n m s)
unfolding down_told
one_told n m s is = told_by n m (has_dist_at s m && links.are_linked n m s.links) s is

all_told : {lives : Node → ℕ} (n : Node) (nodes : List Node) (s : SystemView) → ((k : Node) → (node_at s k).life ≡ lives k)
    → Told lives (process_at (here_in lives n) role.DistAc) s (downs_told n nodes s)
all_told n [] s is = nobody s
all_told {lives} n (m ∷ nodes) s is =
    let next : SystemView = down_told n m s in
    let first : Told lives (process_at (here_in lives n) role.DistAc) s next = one_told n m s is in
    both s next (downs_told n nodes next) first (all_told n nodes next (λ k. first.same_lives k ∙ is k))

-- ---- the node goes down

falls : {lives : Node → ℕ} {gone : Process} (n : Node) (s : SystemView) → Told lives gone s (taken_down n s)
unfolding taken_down told
falls {lives} {gone} n s = record {
  files = refl;
  soon = refl;
  same_lives = λ k. same_of_all (λ (v : LiveView). v.life) s n k _ refl;
  more = [];
  behind = sym (append-nil s.messages);
  each = All-nil (IsFallout lives gone);
}

pub end_tells : {lives : Node → ℕ} (n : Node) (s : SystemView) → ((k : Node) → (node_at s k).life ≡ lives k)
    → Told lives (process_at (here_in lives n) role.DistAc) s (crashed n s)
unfolding ended
end_tells {lives} n s is =
    let gone : SystemView = taken_down n s in
    let p : Process = process_at (here_in lives n) role.DistAc in
    let fallen : Told lives p s gone = falls n s in
    let over : Told lives p s (downs_told n gone.alive gone) =
    both s gone (downs_told n gone.alive gone) fallen (all_told n gone.alive gone (λ k. fallen.same_lives k ∙ is k)) in
    record {
      files = over.files;
      soon = over.soon;
      same_lives = over.same_lives;
      more = over.more;
      behind = over.behind;
      each = over.each;
    }

-- ---- the others

-- a node is as it was, or its dist_ac was told that it monitors this one no more
abbrev pub IsAsItWas : Node → LiveView → LiveView → Type 0
IsAsItWas n v w = (w ≡ v) ⊎ (w ≡ without_monitors n v)

pub kept : {A : Type 0} (f : LiveView → A) (n : Node) (v w : LiveView)
    → ((o : Option DistView) → f (with_change (outside.without_monitors n) o v) ≡ f v) → IsAsItWas n v w → f w ≡ f v
kept f n v w same (inl is) = ap f is
kept f n v w same (inr is) = ap f is ∙ same v.dist

pub alive_kept : (n : Node) (v : LiveView) (o : Option DistView) → is_alive (with_change (outside.without_monitors n) o v) ≡ is_alive v
alive_kept n v None = refl
alive_kept n v (Some d) = refl

pub ending_kept : (soon : Bool) (n : Node) (v : LiveView) (o : Option DistView)
    → (is_ending (with_change (outside.without_monitors n) o v) && (soon || not (with_change (outside.without_monitors n) o v).is_stopped))
    ≡ (is_ending v && (soon || not v.is_stopped))
ending_kept soon n v None = refl
ending_kept soon n v (Some d) = refl

unoccupied_by : (n : Node) (v : LiveView) (o : Option DistView) (d : DistView) → v.dist ≡ o
    → ((e : DistView) → o ≡ Some e → IsUnoccupied e) → (with_change (outside.without_monitors n) o v).dist ≡ Some d → IsUnoccupied d
unoccupied_by n v None d none free has = absurd (none-some d (sym none ∙ has))
unoccupied_by n v (Some e) d is free has =
    let so : IsUnoccupied e = free e refl in
    subst IsUnoccupied (same_Some (outside.without_monitors n e) d has)
    (record { stand = so.stand; mail = so.mail; permits = so.permits; parked = so.parked })

pub unoccupied : (n : Node) (v w : LiveView) (d : DistView) → IsAsItWas n v w → ((e : DistView) → v.dist ≡ Some e → IsUnoccupied e)
    → w.dist ≡ Some d → IsUnoccupied d
unoccupied n v w d (inl is) free has = free d (sym (ap (λ (x : LiveView). x.dist) is) ∙ has)
unoccupied n v w d (inr is) free has = unoccupied_by n v v.dist d refl free (sym (ap (λ (x : LiveView). x.dist) is) ∙ has)

-- ---- what comes of it

falls_out : {lives : Node → ℕ} {c : Call} {may_end : Bool} (s : SystemView) → Waits lives c may_end [] s
    → ((n : Node) → AreLater (own_in s.files n)) → Falls lives (process_at (here_in lives c.node) role.DistAc) c (crashed c.node s)
falls_out {lives} {c} s f timed = record {
  peace = record {
    messages = subst (All (IsFallout lives gone)) (sym (told_it.behind ∙ ap (λ (l : List Envelope). l ++ told_it.more) f.messages)) told_it.each;
    slow = alone.slow ∙ f.slow;
    calls = refl;
    calm = at_ease;
    dists = λ m d alive has.
        unoccupied n (node_at s m) (node_at t m) d (was m alive) (λ e had. f.dists m e (was_alive m alive) had) has;
    ends = λ m alive.
        ap (λ (soon : Bool). is_ending (node_at t m) && (soon || not (node_at t m).is_stopped)) told_it.soon
        ∙ kept (λ (v : LiveView). is_ending v && (s.ends_soon || not v.is_stopped)) n (node_at s m) (node_at t m)
        (ending_kept s.ends_soon n (node_at s m)) (was m alive)
        ∙ f.ends m (was_alive m alive) (λ may. another m alive);
    listed = λ m among. still m (filtered (is_other n) m s.alive (subst (IsAmong m) alone.alive among));
    same_lives = λ m. told_it.same_lives m ∙ f.same_lives m;
  };
  stage = f.stage;
  calls = alone.calls ∙ f.calls;
  waits = f.waits;
  later = λ m. subst (λ (files : List OwnFile). AreLater (own_in files m)) (sym told_it.files) (timed m);
}
  where
    n : Node
    n = c.node

    t : SystemView
    t = crashed n s

    gone : Process
    gone = process_at (here_in lives n) role.DistAc

    alone : EndsAlone n s t
    alone = ends_alone s n

    told_it : Told lives gone s t
    told_it = end_tells n s f.same_lives

    is_other : Node → Node → Bool
    is_other k m = not (m.0 == k.0)

    another : (m : Node) → is_alive_at t m ≡ true → m.0 ≢ n.0
    another m alive one = false≢true (sym alone.itself ∙ sym (ap is_alive (same_number t m n one)) ∙ alive)

    was : (m : Node) → is_alive_at t m ≡ true → IsAsItWas n (node_at s m) (node_at t m)
    was m alive = alone.others m (another m alive)

    was_alive : (m : Node) → is_alive_at t m ≡ true → is_alive_at s m ≡ true
    was_alive m alive = sym (kept is_alive n (node_at s m) (node_at t m) (alive_kept n (node_at s m)) (was m alive)) ∙ alive

    still : (m : Node) → IsAmong m s.alive × (is_other n m ≡ true) → is_alive_at t m ≡ true
    still m (among, other) =
        kept is_alive n (node_at s m) (node_at t m) (alive_kept n (node_at s m))
        (alone.others m (eqb-false m.0 n.0 (not-true (m.0 == n.0) other)))
        ∙ f.listed m among

pub fall_orderly : {lives : Node → ℕ} {c : Call} {may_end : Bool} (s : SystemView) → Waits lives c may_end [] s
    → ((n : Node) → AreLater (own_in s.files n)) → IsOrderly (ended c.node s)
fall_orderly {c = c} s f timed = orderly (crashed c.node s) (falls_out s f timed)
