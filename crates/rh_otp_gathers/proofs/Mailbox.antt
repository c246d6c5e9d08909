-- The dist_ac takes all of its mailbox that it waits for, while others have the lock of all that synchronise, too.
use Rattle.std.proofs.Common.{◌≡◌, ◌≤◌, ◌⊎◌, ◌+◌, ◌==◌, ℕ, zero, suc, Bool, cond, List, [], ◌∷◌, length, is_some, Some, refl, ap, subst, ◌∙◌, inl, inr, arith}
use Rattle.std.specs.Prelude.{All}
use Rattle.std.proofs.lemmas.List.Elements.{All-tail}
use Rattle.rh_model.specs.declared.node.Node.{Node}
use Rattle.rh_otp_model.specs.declared.message.Message.{Message}
use Rattle.rh_otp_dist.specs.Received.{next_mail}
use Rattle.rh_otp_dist.specs.State.{DistView}
use Rattle.rh_otp_dist.specs.Waiting.{takes}
use Rattle.rh_otp_net.specs.declared.locks.Held.{Held}
use Rattle.rh_otp_node.specs.Live.{LiveView}
use Rattle.rh_otp_node.specs.Remote as remote
use Rattle.rh_otp_system.specs.State.{SystemView, live_at, node_at}
use Rattle.rh_otp_system.specs.Working as working
use Rattle.rh_otp_laws.proofs.Nodes.{node_written}
use Rattle.rh_otp_crashes.proofs.Turning.{idles, none_next}
use Rattle.rh_otp_joins.proofs.Introducing.{Told, word, Learnt, learn, learn_all, waiting, live_waiting, IsNear}
use Rattle.rh_otp_joins.proofs.Lists.{count_of, FoundAt, NotFound, searched, at_place}
use Rattle.rh_otp_joins.proofs.Mailing.{words, Unmet, none_more, none_of_none, near_head, fewer_of, still_fewer, counted}
use Rattle.rh_otp_gathers.proofs.Learning.{sharing, takes_word}

-- what it waits for behind that, and what is left in its mailbox
pub record Learns (o : Told) (n : Node) (v : LiveView) (d : DistView) (held : List Held) (s : SystemView) (l : Learnt) (rest early : List Node)
    (t : SystemView) : Type 0 where
  pub learnt : Learnt
  pub later : List Node
  pub left : List Node
  pub is : t ≡ sharing n v d held learnt later (words o left) s
  pub leads : learn_all o later learnt ≡ learn_all o rest l
  pub counts : (m : Node) → count_of m left + count_of m rest ≡ count_of m early + count_of m later
  pub fewer : (m : Node) → count_of m later ≤ count_of m rest
  pub unmet : Unmet later left
  pub near : All (IsNear n s) later

pub nothing_done : (o : Told) (n : Node) (v : LiveView) (d : DistView) (held : List Held) (s : SystemView) (l : Learnt) (rest early : List Node)
    (t : SystemView) → All (IsNear n s) rest → Unmet rest early → t ≡ sharing n v d held l rest (words o early) s
    → Learns o n v d held s l rest early t
nothing_done o n v d held s l rest early t near unmet is = record {
  learnt = l;
  later = rest;
  left = early;
  is = is;
  leads = refl;
  counts = λ m. refl;
  fewer = λ m. omega arith;
  unmet = unmet;
  near = near;
}

pub learns : (o : Told) (n : Node) (v : LiveView) (d : DistView) (held : List Held) (s : SystemView) (w : LiveView) → live_at s n ≡ Some w
    → (k : ℕ) (l : Learnt) (rest early : List Node) → length early ≤ k
    → ((m : Node) → count_of m early ≤ count_of m rest) → All (IsNear n s) rest
    → Learns o n v d held s l rest early (working.work_for k n (sharing n v d held l rest (words o early) s))
learns o n v d held s w there k l [] early many within near =
    let none : early ≡ [] = none_of_none early within in
    nothing_done o n v d held s l [] early _ near none
    (idles k n (sharing n v d held l [] (words o early) s)
    (ap remote.has_next (node_written s n w (live_waiting v d l [] (words o early)) there)
    ∙ (λ i. is_some (next_mail (waiting d l [] (words o (none i)))))))
learns o n v d held s w there zero l (x ∷ xs) early many within near =
    nothing_done o n v d held s l (x ∷ xs) early _ near (ap (count_of x) (none_more 0 early many refl)) refl
learns o n v d held s w there (suc k) l (x ∷ xs) early many within near =
    by (searched (word o) (takes e.stand) x (λ m. refl) early)
    (λ rest less within_rest. learns o n v d held s w there k (learn o x l) xs rest less within_rest (All-tail (IsNear n s) x xs near))
  where
    e : DistView
    e = waiting d l (x ∷ xs) (words o early)

    t : SystemView
    t = sharing n v d held l (x ∷ xs) (words o early) s

    here : node_at t n ≡ live_waiting v d l (x ∷ xs) (words o early)
    here = node_written s n w (live_waiting v d l (x ∷ xs) (words o early)) there

    by : FoundAt (word o) (takes e.stand) x early ⊎ NotFound (word o) (takes e.stand) x early
        → ((left : List Node) → length left ≤ k → ((m : Node) → count_of m left ≤ count_of m xs)
        → Learns o n v d held s (learn o x l) xs left (working.work_for k n (sharing n v d held (learn o x l) xs (words o left) s)))
        → Learns o n v d held s l (x ∷ xs) early (working.work_for (suc k) n t)
    by (inl at) go =
        let next : next_mail e ≡ Some at.place = at_place (takes e.stand) (words o early) at.place at.found at.within in
        let one : working.work_for (suc k) n t ≡ working.work_for k n (sharing n v d held (learn o x l) xs (words o at.left) s) =
        ap (λ (b : Bool). cond b (working.work_for k n (working.handled n t)) t) (ap remote.has_next here ∙ ap is_some next)
        ∙ ap (working.work_for k n)
        (takes_word o n v d held l x xs (words o early) at.place s w there (near_head n s xs (All-tail (IsNear n s) x xs near)) next at.is
        ∙ ap (λ (mail : List Message). sharing n v d held (learn o x l) xs mail s) at.others) in
        let shorter : length early ≡ suc (length at.left) = at.shorter in
        let less : (m : Node) → count_of m at.left ≤ count_of m xs =
        λ m. fewer_of (x.0 == m.0) (count_of m at.left) (count_of m xs) (subst (λ (j : ℕ). j ≤ count_of m (x ∷ xs)) (at.counts m) (within m)) in
        let more : Learns o n v d held s (learn o x l) xs at.left (working.work_for k n (sharing n v d held (learn o x l) xs (words o at.left) s)) =
        go at.left (omega (arith, many, shorter)) less in
        record {
          learnt = more.learnt;
          later = more.later;
          left = more.left;
          is = one ∙ more.is;
          leads = more.leads;
          counts = λ m.
              counted (x.0 == m.0) (count_of m more.left) (count_of m xs) (count_of m early) (count_of m at.left) (count_of m more.later)
              (at.counts m) (more.counts m);
          fewer = λ m. still_fewer (x.0 == m.0) (count_of m more.later) (count_of m xs) (more.fewer m);
          unmet = more.unmet;
          near = more.near;
        }
    by (inr none) go =
        nothing_done o n v d held s l (x ∷ xs) early _ near none.none
        (idles (suc k) n t (ap remote.has_next here ∙ ap is_some (none_next (takes e.stand) (words o early) none.fails)))
