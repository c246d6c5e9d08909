-- The dist_ac takes all of its mailbox that it waits for: so far as what one node after the other has told has come.
use Rattle.std.proofs.Common.{◌≡◌, ◌≤◌, ◌⊎◌, ◌+◌, ◌==◌, ℕ, zero, suc, Bool, true, false, cond, List, [], ◌∷◌, map, length, is_some, Some, refl, ap, subst, ◌∙◌, inl, inr, arith}
use Rattle.std.specs.Prelude.{All}
use Rattle.std.proofs.lemmas.List.Elements.{All-head, All-tail}
use Rattle.rh_model.specs.declared.node.Node.{Node}
use Rattle.rh_otp_model.specs.declared.message.Message.{Message}
use Rattle.rh_otp_model.specs.declared.process.Role.TheVariants as role
use Rattle.rh_otp_model.specs.declared.output.Requester.TheVariants.{Sync}
use Rattle.rh_otp_model.specs.Processes.{process_at}
use Rattle.rh_otp_dist.specs.Received.{next_mail}
use Rattle.rh_otp_dist.specs.State.{DistView}
use Rattle.rh_otp_dist.specs.Waiting.{takes}
use Rattle.rh_otp_net.specs.declared.locks.Held.{Held}
use Rattle.rh_otp_net.specs.Locks.{freed}
use Rattle.rh_otp_node.specs.Live.{LiveView, here_of}
use Rattle.rh_otp_node.specs.Remote as remote
use Rattle.rh_otp_system.specs.State.{SystemView, live_at, node_at}
use Rattle.rh_otp_system.specs.Working as working
use Rattle.rh_otp_laws.proofs.Nodes.{node_written}
use Rattle.rh_otp_crashes.proofs.Turning.{none_next, idles}
use Rattle.rh_otp_joins.proofs.Introducing.{Told, word, Learnt, learn, learn_all, waiting, live_waiting, introducing, IsNear, near_next, takes_word}
use Rattle.rh_otp_joins.proofs.Lists.{more_if, count_of, counts_itself, FoundAt, NotFound, searched, at_place}

abbrev pub words : Told → List Node → List Message
words o nodes = map (word o) nodes

-- none is left of what it waits for
abbrev pub Unmet : List Node → List Node → Type 0
Unmet [] early = early ≡ []
Unmet (x ∷ xs) early = count_of x early ≡ 0

-- what it waits for behind that, and what is left in its mailbox
pub record Worked (o : Told) (n : Node) (v : LiveView) (d : DistView) (held : List Held) (s : SystemView) (l : Learnt) (rest early : List Node)
    (t : SystemView) : Type 0 where
  pub learnt : Learnt
  pub later : List Node
  pub left : List Node
  pub is : t ≡ introducing n v d held learnt later (words o left) s
  pub leads : learn_all o later learnt ≡ learn_all o rest l
  pub counts : (m : Node) → count_of m left + count_of m rest ≡ count_of m early + count_of m later
  pub fewer : (m : Node) → count_of m later ≤ count_of m rest
  pub unmet : Unmet later left
  pub near : All (IsNear n s) later

pub none_more : (k : ℕ) (nodes : List Node) → length nodes ≤ k → k ≡ 0 → nodes ≡ []
none_more k [] less is = refl
none_more k (x ∷ nodes) less is = absurd (omega (arith, less, is))

pub none_of_none : (nodes : List Node) → ((m : Node) → count_of m nodes ≤ 0) → nodes ≡ []
none_of_none [] none = refl
none_of_none (x ∷ nodes) none =
    let one : count_of x (x ∷ nodes) ≡ suc (count_of x nodes) = counts_itself x nodes in
    let less : count_of x (x ∷ nodes) ≤ 0 = none x in
    absurd (omega (arith, one, less))

pub near_head : (n : Node) (s : SystemView) (xs : List Node) → All (IsNear n s) xs → near_next n s xs
near_head n s [] near = tt
near_head n s (y ∷ ys) near = All-head (IsNear n s) y ys near

nothing_done : (o : Told) (n : Node) (v : LiveView) (d : DistView) (held : List Held) (s : SystemView) (l : Learnt) (rest early : List Node)
    (t : SystemView) → All (IsNear n s) rest → Unmet rest early → t ≡ introducing n v d held l rest (words o early) s
    → Worked o n v d held s l rest early t
nothing_done o n v d held s l rest early t near unmet is = record {
  learnt = l;
  later = rest;
  left = early;
  is = is;
  leads = refl;
  counts = λ m. refl;
  fewer = λ m. omega arith;
  unmet = unmet;
  near = near;
}

pub fewer_of : (b : Bool) (j k : ℕ) → more_if b j ≤ more_if b k → j ≤ k
fewer_of true j k less = omega (arith, less)
fewer_of false j k less = less

pub still_fewer : (b : Bool) (j k : ℕ) → j ≤ k → j ≤ more_if b k
still_fewer true j k less = omega (arith, less)
still_fewer false j k less = less

pub counted : (b : Bool) (left rest early at later : ℕ) → early ≡ more_if b at → left + rest ≡ at + later → left + more_if b rest ≡ early + later
counted true left rest early at later is same = omega (arith, is, same)
counted false left rest early at later is same = omega (arith, is, same)

pub works : (o : Told) (n : Node) (v : LiveView) (d : DistView) (held : List Held) (s : SystemView) (w : LiveView) → live_at s n ≡ Some w
    → freed Sync (process_at (here_of n v) role.DistAc) held ≡ [] → (k : ℕ) (l : Learnt) (rest early : List Node) → length early ≤ k
    → ((m : Node) → count_of m early ≤ count_of m rest) → All (IsNear n s) rest
    → Worked o n v d held s l rest early (working.work_for k n (introducing n v d held l rest (words o early) s))
works o n v d held s w there free k l [] early many within near =
    let none : early ≡ [] = none_of_none early within in
    nothing_done o n v d held s l [] early _ near none
    (idles k n (introducing n v d held l [] (words o early) s)
    (ap remote.has_next (node_written s n w (live_waiting v d l [] (words o early)) there)
    ∙ (λ i. is_some (next_mail (waiting d l [] (words o (none i)))))))
works o n v d held s w there free zero l (x ∷ xs) early many within near =
    nothing_done o n v d held s l (x ∷ xs) early _ near (ap (count_of x) (none_more 0 early many refl)) refl
works o n v d held s w there free (suc k) l (x ∷ xs) early many within near =
    by (searched (word o) (takes e.stand) x (λ m. refl) early)
    (λ rest less within_rest. works o n v d held s w there free k (learn o x l) xs rest less within_rest (All-tail (IsNear n s) x xs near))
  where
    e : DistView
    e = waiting d l (x ∷ xs) (words o early)

    t : SystemView
    t = introducing n v d held l (x ∷ xs) (words o early) s

    here : node_at t n ≡ live_waiting v d l (x ∷ xs) (words o early)
    here = node_written s n w (live_waiting v d l (x ∷ xs) (words o early)) there

    by : FoundAt (word o) (takes e.stand) x early ⊎ NotFound (word o) (takes e.stand) x early
        → ((left : List Node) → length left ≤ k → ((m : Node) → count_of m left ≤ count_of m xs)
        → Worked o n v d held s (learn o x l) xs left (working.work_for k n (introducing n v d held (learn o x l) xs (words o left) s)))
        → Worked o n v d held s l (x ∷ xs) early (working.work_for (suc k) n t)
    by (inl at) go =
        let next : next_mail e ≡ Some at.place = at_place (takes e.stand) (words o early) at.place at.found at.within in
        let one : working.work_for (suc k) n t ≡ working.work_for k n (introducing n v d held (learn o x l) xs (words o at.left) s) =
        ap (λ (b : Bool). cond b (working.work_for k n (working.handled n t)) t) (ap remote.has_next here ∙ ap is_some next)
        ∙ ap (working.work_for k n)
        (takes_word o n v d held l x xs (words o early) at.place s w there (near_head n s xs (All-tail (IsNear n s) x xs near)) free next at.is
        ∙ ap (λ (mail : List Message). introducing n v d held (learn o x l) xs mail s) at.others) in
        let shorter : length early ≡ suc (length at.left) = at.shorter in
        let less : (m : Node) → count_of m at.left ≤ count_of m xs =
        λ m. fewer_of (x.0 == m.0) (count_of m at.left) (count_of m xs) (subst (λ (j : ℕ). j ≤ count_of m (x ∷ xs)) (at.counts m) (within m)) in
        let more : Worked o n v d held s (learn o x l) xs at.left (working.work_for k n (introducing n v d held (learn o x l) xs (words o at.left) s)) =
        go at.left (omega (arith, many, shorter)) less in
        record {
          learnt = more.learnt;
          later = more.later;
          left = more.left;
          is = one ∙ more.is;
          leads = more.leads;
          counts = λ m.
              counted (x.0 == m.0) (count_of m more.left) (count_of m xs) (count_of m early) (count_of m at.left) (count_of m more.later)
              (at.counts m) (more.counts m);
          fewer = λ m. still_fewer (x.0 == m.0) (count_of m more.later) (count_of m xs) (more.fewer m);
          unmet = more.unmet;
          near = more.near;
        }
    by (inr none) go =
        nothing_done o n v d held s l (x ∷ xs) early _ near none.none
        (idles (suc k) n t (ap remote.has_next here ∙ ap is_some (none_next (takes e.stand) (words o early) none.fails)))
