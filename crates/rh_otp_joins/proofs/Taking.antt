-- What comes to the node that introduces itself: tellings of nodes that are up, which do nothing, and what others tell of themselves.
use Rattle.std.proofs.Common.{◌≡◌, ◌≤◌, ◌+◌, ◌++◌, ◌==◌, ◌&&◌, not, ℕ, Bool, true, false, cond, List, [], ◌∷◌, map, length, Option, Some, refl, sym, ap, subst, ◌∙◌, arith}
use Rattle.std.specs.Option.{option_and_then}
use Rattle.std.specs.Prelude.{All}
use Rattle.std.proofs.lemmas.List.{length-map, map-append}
use Rattle.rh_model.specs.declared.node.Node.{Node}
use Rattle.rh_otp_model.specs.declared.message.Message.{Message}
use Rattle.rh_otp_model.specs.declared.message.Message.TheVariants as message
use Rattle.rh_otp_model.specs.declared.output.Envelope.{Envelope}
use Rattle.rh_otp_dist.specs.Outside.{with_message}
use Rattle.rh_otp_dist.specs.State.{DistView}
use Rattle.rh_otp_node.specs.Live.{LiveView, is_alive, is_up}
use Rattle.rh_otp_node.specs.Remote as remote
use Rattle.rh_otp_system.specs.declared.cell.Cell.{Cell}
use Rattle.rh_otp_system.specs.declared.cell.Cell.TheVariants as cell
use Rattle.rh_otp_system.specs.Delivering.{arrived}
use Rattle.rh_otp_system.specs.Joining.{kernel_handled}
use Rattle.rh_otp_system.specs.State.{SystemView, live_in, live_at, node_at, with_node, is_alive_at}
use Rattle.rh_otp_system.specs.Working as working
use Rattle.rh_otp_system.specs.Working.{answer_count}
use Rattle.rh_otp_laws.proofs.Nodes.{node_written, written_elsewhere}
use Rattle.rh_otp_orders.proofs.Changing.{set_there}
use Rattle.rh_otp_orders.proofs.Same.{cell_at}
use Rattle.rh_otp_crashes.proofs.Peace.{without, arrives_alive}
use Rattle.rh_otp_crashes.proofs.Turning.{node_is, works_on}
use Rattle.rh_otp_joins.proofs.Introducing.{word, Learnt, waiting, live_waiting, locks_while, introducing, IsNear}
use Rattle.rh_otp_joins.proofs.Lists.{more_if, count_of}
use Rattle.rh_otp_joins.proofs.Mailing.{words, Worked, works}
use Rattle.rh_otp_joins.proofs.Stages.{told_in, Opening, letter, Stage, counted_in, met_in, up_alive, all_near}
use Rattle.rh_otp_joins.proofs.Tokens.{Token, up, tells, asked_of, told_of, total, Drawn, drawn_total}

-- ---- the node, as it waits

pub live_there : {n : Node} {nodes : List Node} {b : SystemView} {g : Opening n nodes b} {tokens : List Token} (u : SystemView)
    → (f : Stage n nodes b g tokens u)
    → live_at u n ≡ Some (live_waiting g.live g.dist f.learnt f.later (words (told_in b) f.left))
live_there u f = ap (λ (o : Option Cell). option_and_then live_in o) f.here

pub is_here : {n : Node} {nodes : List Node} {b : SystemView} {g : Opening n nodes b} {tokens : List Token} (u : SystemView)
    → (f : Stage n nodes b g tokens u)
    → node_at u n ≡ live_waiting g.live g.dist f.learnt f.later (words (told_in b) f.left)
is_here {n} {nodes} {b} {g} u f =
    node_is u n (live_waiting g.live g.dist f.learnt f.later (words (told_in b) f.left)) (live_there u f)

pub same_life : {n : Node} {nodes : List Node} {b : SystemView} {g : Opening n nodes b} {tokens : List Token} (u : SystemView)
    → Stage n nodes b g tokens u → (node_at u n).life ≡ (node_at b n).life
same_life {n} {nodes} {b} {g} u f =
    ap (λ (v : LiveView). v.life) (is_here u f) ∙ sym (ap (λ (v : LiveView). v.life) (node_is b n g.live g.there))

pub alive_here : {n : Node} {nodes : List Node} {b : SystemView} {g : Opening n nodes b} {tokens : List Token} (u : SystemView)
    → Stage n nodes b g tokens u → is_alive_at u n ≡ true
alive_here {n} {nodes} {b} {g} u f = ap is_alive (is_here u f) ∙ up_alive g.live g.is_up_there

-- ---- net_kernel tells of a node

-- whether it has met the node, where so many introductions to that are on their way
abbrev pub met_by : Node → List Node → ℕ → Bool
met_by m nodes k = not (count_of m nodes == 0) && (k == 0)

pub hears_up : {n : Node} {nodes : List Node} {b : SystemView} {g : Opening n nodes b} (x : Node) (tokens rest : List Token)
    (left : List Envelope) (u : SystemView) → Stage n nodes b g tokens u → Drawn (up x) tokens rest → left ≡ map (letter n b g) rest
    → Stage n nodes b g rest (arrived (letter n b g (up x)).to (letter n b g (up x)).message (without u left))
hears_up {n} {nodes} {b} {g} x tokens rest left u f drawn left_so =
    subst (Stage n nodes b g rest) (sym is) (record {
      learnt = f.learnt;
      later = f.later;
      left = f.left;
      leads = f.leads;
      counts = λ m.
          (let one : total (asked_of m) tokens ≡ 0 + total (asked_of m) rest = drawn_total (asked_of m) (up x) tokens rest drawn in
          let two : total (told_of m) tokens ≡ 0 + total (told_of m) rest = drawn_total (told_of m) (up x) tokens rest drawn in
          let all : total (asked_of m) tokens + total (told_of m) tokens + count_of m f.left ≡ count_of m f.later = f.counts m in
          omega (arith, one, two, all));
      within = f.within;
      unmet = f.unmet;
      same = λ i. record (f.same i) { messages = left_so i };
      base = f.base;
      here = f.here;
      cells = λ m apart.
          f.cells m apart
          ∙ ap (λ (k : ℕ). cond (met_by m nodes k) (Some (cell.Node (met_in n g.allowed (node_at b m)))) (cell_at b m.0))
          (let one : total (asked_of m) tokens ≡ 0 + total (asked_of m) rest = drawn_total (asked_of m) (up x) tokens rest drawn in
          let same : total (asked_of m) tokens ≡ total (asked_of m) rest = omega (arith, one) in same);
      answers = λ p.
          (let one : total (counted_in n b p) tokens ≡ 0 + total (counted_in n b p) rest =
          drawn_total (counted_in n b p) (up x) tokens rest drawn in
          ap (λ (k : ℕ). answer_count u.answers p + k)
          (let same : total (counted_in n b p) rest ≡ total (counted_in n b p) tokens = omega (arith, one) in same)
          ∙ f.answers p);
    })
  where
    s : SystemView
    s = without u left

    is : arrived (letter n b g (up x)).to (letter n b g (up x)).message s ≡ s
    is =
        arrives_alive (letter n b g (up x)).to (message.NodeUp x) s (alive_here u f) (same_life u f)
        ∙ ap (λ (c : Bool). cond c s (kernel_handled n (message.NodeUp x) s)) (ap is_up (is_here u f) ∙ g.is_up_there)

-- ---- another node tells of itself

pub mail_more : (d : DistView) (l : Learnt) (rest : List Node) (mail : List Message) (m : Message)
    → with_message m (waiting d l rest mail) ≡ waiting d l rest (mail ++ m ∷ [])
mail_more d l [] mail m = refl
mail_more d l (x ∷ xs) mail m = refl

pub mail_is : (d : DistView) (l : Learnt) (rest : List Node) (mail : List Message) → (waiting d l rest mail).mail ≡ mail
mail_is d l [] mail = refl
mail_is d l (x ∷ xs) mail = refl

pub count_more : (k m : Node) (nodes : List Node) → count_of k (nodes ++ m ∷ []) ≡ count_of k nodes + more_if (m.0 == k.0) 0
count_more k m [] = omega arith
count_more k m (x ∷ nodes) = by (x.0 == k.0) (count_more k m nodes)
  where
    by : (c : Bool) → count_of k (nodes ++ m ∷ []) ≡ count_of k nodes + more_if (m.0 == k.0) 0
        → more_if c (count_of k (nodes ++ m ∷ [])) ≡ more_if c (count_of k nodes) + more_if (m.0 == k.0) 0
    by true rest = omega (arith, rest)
    by false rest = rest

-- what comes of it
takes_it : {n : Node} {nodes : List Node} {b : SystemView} {g : Opening n nodes b} (m : Node) (tokens rest : List Token)
    (left : List Envelope) (u : SystemView) → (f : Stage n nodes b g tokens u) → Drawn (tells m) tokens rest
    → Worked (told_in b) n g.live g.dist g.held (without u left) f.learnt f.later (f.left ++ m ∷ [])
    (arrived (letter n b g (tells m)).to (letter n b g (tells m)).message (without u left))
unfolding working.work
takes_it {n} {nodes} {b} {g} m tokens rest left u f drawn =
    subst (Worked (told_in b) n g.live g.dist g.held s f.learnt f.later early) (sym is)
    (works (told_in b) n g.live g.dist g.held s old there g.free (working.mail_count_at q n) f.learnt f.later early
    (let one : working.mail_count_at q n ≡ length early = many in omega (arith, one)) within near)
  where
    s : SystemView
    s = without u left

    early : List Node
    early = f.left ++ m ∷ []

    old : LiveView
    old = live_waiting g.live g.dist f.learnt f.later (words (told_in b) f.left)

    there : live_at s n ≡ Some old
    there = live_there u f

    q : SystemView
    q = introducing n g.live g.dist g.held f.learnt f.later (words (told_in b) early) s

    near : All (IsNear n s) f.later
    near = all_near u f

    many : working.mail_count_at q n ≡ length early
    many =
        ap remote.mail_count (node_written s n old (live_waiting g.live g.dist f.learnt f.later (words (told_in b) early)) there)
        ∙ ap length (mail_is g.dist f.learnt f.later (words (told_in b) early))
        ∙ length-map early (word (told_in b))

    within : (k : Node) → count_of k early ≤ count_of k f.later
    within k =
        let one : total (told_of k) tokens ≡ more_if (m.0 == k.0) 0 + total (told_of k) rest = drawn_total (told_of k) (tells m) tokens rest drawn in
        let all : total (asked_of k) tokens + total (told_of k) tokens + count_of k f.left ≡ count_of k f.later = f.counts k in
        let more : count_of k early ≡ count_of k f.left + more_if (m.0 == k.0) 0 = count_more k m f.left in
        omega (arith, one, all, more)

    mail_so : with_message (word (told_in b) m) (waiting g.dist f.learnt f.later (words (told_in b) f.left))
        ≡ waiting g.dist f.learnt f.later (words (told_in b) early)
    mail_so =
        mail_more g.dist f.learnt f.later (words (told_in b) f.left) (word (told_in b) m)
        ∙ ap (waiting g.dist f.learnt f.later) (sym (map-append (word (told_in b)) f.left (m ∷ [])))

    is : arrived (letter n b g (tells m)).to (word (told_in b) m) s ≡ working.work_for (working.mail_count_at q n) n q
    is =
        arrives_alive (letter n b g (tells m)).to (word (told_in b) m) s (alive_here u f) (same_life u f)
        ∙ works_on n (word (told_in b) m) s old there
        ∙ (λ i. working.work n (with_node n (record g.live { dist = Some (mail_so i) })
        (record s { locks = ap (λ (z : SystemView). z.locks) f.same i })))

pub hears_told : {n : Node} {nodes : List Node} {b : SystemView} {g : Opening n nodes b} (m : Node) (tokens rest : List Token)
    (left : List Envelope) (u : SystemView) → Stage n nodes b g tokens u → Drawn (tells m) tokens rest → left ≡ map (letter n b g) rest
    → Stage n nodes b g rest (arrived (letter n b g (tells m)).to (letter n b g (tells m)).message (without u left))
hears_told {n} {nodes} {b} {g} m tokens rest left u f drawn left_so =
    subst (Stage n nodes b g rest) (sym w.is) (record {
      learnt = w.learnt;
      later = w.later;
      left = w.left;
      leads = w.leads ∙ f.leads;
      counts = λ k.
          (let one : total (asked_of k) tokens ≡ 0 + total (asked_of k) rest = drawn_total (asked_of k) (tells m) tokens rest drawn in
          let two : total (told_of k) tokens ≡ more_if (m.0 == k.0) 0 + total (told_of k) rest =
          drawn_total (told_of k) (tells m) tokens rest drawn in
          let all : total (asked_of k) tokens + total (told_of k) tokens + count_of k f.left ≡ count_of k f.later = f.counts k in
          let more : count_of k (f.left ++ m ∷ []) ≡ count_of k f.left + more_if (m.0 == k.0) 0 = count_more k m f.left in
          let worked : count_of k w.left + count_of k f.later ≡ count_of k (f.left ++ m ∷ []) + count_of k w.later = w.counts k in
          omega (arith, one, two, all, more, worked));
      within = λ k.
          (let one : count_of k w.later ≤ count_of k f.later = w.fewer k in
          let two : count_of k f.later ≤ count_of k nodes = f.within k in
          omega (arith, one, two));
      unmet = w.unmet;
      same = λ i. with_node n next (record (f.same i) { messages = left_so i; locks = locks_while g.held w.later });
      base = f.base;
      here = set_there u.nodes.cells n.0 (cell.Node old) (cell.Node next) f.here;
      cells = λ k apart.
          written_elsewhere u.nodes.cells n.0 k.0 (cell.Node next) apart
          ∙ f.cells k apart
          ∙ ap (λ (j : ℕ). cond (met_by k nodes j) (Some (cell.Node (met_in n g.allowed (node_at b k)))) (cell_at b k.0))
          (let one : total (asked_of k) tokens ≡ 0 + total (asked_of k) rest = drawn_total (asked_of k) (tells m) tokens rest drawn in
          let same : total (asked_of k) tokens ≡ total (asked_of k) rest = omega (arith, one) in same);
      answers = λ p.
          (let one : total (counted_in n b p) tokens ≡ 0 + total (counted_in n b p) rest =
          drawn_total (counted_in n b p) (tells m) tokens rest drawn in
          ap (λ (k : ℕ). answer_count u.answers p + k)
          (let same : total (counted_in n b p) rest ≡ total (counted_in n b p) tokens = omega (arith, one) in same)
          ∙ f.answers p);
    })
  where
    w : Worked (told_in b) n g.live g.dist g.held (without u left) f.learnt f.later (f.left ++ m ∷ [])
        (arrived (letter n b g (tells m)).to (letter n b g (tells m)).message (without u left))
    w = takes_it m tokens rest left u f drawn

    old : LiveView
    old = live_waiting g.live g.dist f.learnt f.later (words (told_in b) f.left)

    next : LiveView
    next = live_waiting g.live g.dist w.learnt w.later (words (told_in b) w.left)
