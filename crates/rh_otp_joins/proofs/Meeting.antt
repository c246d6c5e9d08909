-- An introduction comes to another node: it answers, and has met the node from then on.
use Rattle.std.proofs.Common.{◌≡◌, ◌≢◌, ◌≤◌, ◌⊎◌, ◌+◌, ◌++◌, ◌==◌, ◌&&◌, not, nat_le, ℕ, Bool, true, false, cond, List, [], ◌∷◌, map, unwrap_or, Option, Some, None, refl, sym, ap, subst, ◌∙◌, inl, inr, arith}
use Rattle.std.specs.Option.{option_map, option_and_then}
use Rattle.std.proofs.lemmas.Bool.{eq-eqb, ne_eqb, cases_eq}
use Rattle.std.proofs.lemmas.Bool.Decides.{nat_tests}
use Rattle.std.proofs.lemmas.List.{map-append}
use Rattle.std.proofs.Math.Bool.{and-false}
use Rattle.rh_model.specs.declared.node.Node.{Node}
use Rattle.rh_otp_model.specs.declared.message.Message.{Message}
use Rattle.rh_otp_model.specs.declared.message.Message.TheVariants as message
use Rattle.rh_otp_model.specs.declared.output.Envelope.{Envelope}
use Rattle.rh_otp_model.specs.declared.process.Role.TheVariants as role
use Rattle.rh_otp_model.specs.Processes.{process_at}
use Rattle.rh_otp_dist.specs.State.{DistView}
use Rattle.rh_otp_net.specs.Links.{are_linked}
use Rattle.rh_otp_node.specs.Live.{LiveView, never_begun, is_alive}
use Rattle.rh_otp_system.specs.declared.cell.Cell.{Cell}
use Rattle.rh_otp_system.specs.declared.cell.Cell.TheVariants as cell
use Rattle.rh_otp_system.specs.Delivering.{arrived}
use Rattle.rh_otp_system.specs.State.{SystemView, live_in, live_at, node_at, with_node, has_dist_at}
use Rattle.rh_otp_system.specs.Working.{answer_count, burns, pair_of}
use Rattle.rh_otp_laws.proofs.Nodes.{written_elsewhere}
use Rattle.rh_otp_orders.proofs.Changing.{set_there}
use Rattle.rh_otp_orders.proofs.Same.{cell_at}
use Rattle.rh_otp_crashes.proofs.Crossing.{same_node}
use Rattle.rh_otp_crashes.proofs.Peace.{without, arrives_alive}
use Rattle.rh_otp_crashes.proofs.Turning.{node_is}
use Rattle.rh_otp_joins.proofs.Answering.{met, counted_by, answer_of, answers_so}
use Rattle.rh_otp_joins.proofs.Lists.{more_if, count_of}
use Rattle.rh_otp_joins.proofs.Seldom.{answers_more, counts_once}
use Rattle.rh_otp_joins.proofs.Stages.{allow_in, flags_in, Other, Opening, letter, Stage, counted_at, counted_in, met_in, cell_there}
use Rattle.rh_otp_joins.proofs.Taking.{same_life, alive_here, met_by}
use Rattle.rh_otp_joins.proofs.Tokens.{Token, asks, tells, asked_of, told_of, total, total_more, Drawn, drawn_total}

-- ---- the bound of twenty isn't reached

-- all answers that there can be for the two count once at most
once_by : (n m : Node) (b : SystemView) (nodes : List Node) → total (counted_in n b (pair_of m n None)) (map asks nodes) ≤ count_of m nodes
once_by n m b [] = omega arith
once_by n m b (x ∷ nodes) =
    let rest : total (counted_in n b (pair_of m n None)) (map asks nodes) ≤ count_of m nodes = once_by n m b nodes in
    let one : answer_count (counted_at n x (node_at b x).dist) (pair_of m n None) ≤ more_if (x.0 == m.0) 0 = here (node_at b x).dist in
    add (x.0 == m.0) (answer_count (counted_at n x (node_at b x).dist) (pair_of m n None)) (total (counted_in n b (pair_of m n None)) (map asks nodes))
    (count_of m nodes) one rest
  where
    here : (o : Option DistView) → answer_count (counted_at n x o) (pair_of m n None) ≤ more_if (x.0 == m.0) 0
    here None = omega arith
    here (Some d) = counts_once x m n _

    add : (c : Bool) (j k l : ℕ) → j ≤ more_if c 0 → k ≤ l → j + k ≤ more_if c l
    add true j k l one rest = omega (arith, one, rest)
    add false j k l one rest = omega (arith, one, rest)

seldom : (k : ℕ) → k ≤ 1 → nat_le 20 k ≡ false
seldom k less = grind (arith, nat_tests, less)

-- ---- it comes

pub other_count : (m k : Node) → k.0 ≢ m.0 → more_if (m.0 == k.0) 0 ≡ 0
other_count m k apart = ap (λ (c : Bool). more_if c 0) (ne_eqb m.0 k.0 (λ same. apart (sym same)))

pub own_count : (m : Node) → more_if (m.0 == m.0) 0 ≡ 1
own_count m = ap (λ (c : Bool). more_if c 0) (eq-eqb m.0 m.0 refl)

pub meets : {n : Node} {nodes : List Node} {b : SystemView} {g : Opening n nodes b} (m : Node) (tokens rest : List Token)
    (left : List Envelope) (u : SystemView) → Stage n nodes b g tokens u → Drawn (asks m) tokens rest → left ≡ map (letter n b g) rest
    → Stage n nodes b g (rest ++ tells m ∷ []) (arrived (letter n b g (asks m)).to (letter n b g (asks m)).message (without u left))
meets {n} {nodes} {b} {g} m tokens rest left u f drawn left_so =
    subst (Stage n nodes b g more) (sym is) (record {
      learnt = f.learnt;
      later = f.later;
      left = f.left;
      leads = f.leads;
      counts = λ k.
          (let one : total (asked_of k) tokens ≡ more_if (m.0 == k.0) 0 + total (asked_of k) rest =
          drawn_total (asked_of k) (asks m) tokens rest drawn in
          let two : total (told_of k) tokens ≡ 0 + total (told_of k) rest = drawn_total (told_of k) (asks m) tokens rest drawn in
          let one_more : total (asked_of k) more ≡ total (asked_of k) rest + 0 = total_more (asked_of k) rest (tells m ∷ []) in
          let two_more : total (told_of k) more ≡ total (told_of k) rest + (more_if (m.0 == k.0) 0 + 0) =
          total_more (told_of k) rest (tells m ∷ []) in
          let all : total (asked_of k) tokens + total (told_of k) tokens + count_of k f.left ≡ count_of k f.later = f.counts k in
          omega (arith, one, two, one_more, two_more, all));
      within = f.within;
      unmet = f.unmet;
      same = λ i. record (with_node m next (f.same i)) { messages = messages_so i; answers = counted_by m n other.dist ++ u.answers };
      base = f.base;
      here = written_elsewhere u.nodes.cells m.0 n.0 (cell.Node next) (λ same. other.apart (sym same)) ∙ f.here;
      cells = λ k apart. cells_at k apart (cases_eq k.0 m.0);
      answers = λ p.
          (let one : total (counted_in n b p) tokens ≡ counted_in n b p (asks m) + total (counted_in n b p) rest =
          drawn_total (counted_in n b p) (asks m) tokens rest drawn in
          let one_more : total (counted_in n b p) more ≡ total (counted_in n b p) rest + 0 = total_more (counted_in n b p) rest (tells m ∷ []) in
          let both : answer_count (counted_by m n other.dist ++ u.answers) p ≡ answer_count (counted_by m n other.dist) p + answer_count u.answers p =
          answers_more (counted_by m n other.dist) u.answers p in
          let same : counted_in n b p (asks m) ≡ answer_count (counted_by m n other.dist) p =
          ap (λ (o : Option DistView). answer_count (counted_at n m o) p) dist_so in
          let all : answer_count u.answers p + total (counted_in n b p) tokens ≡ total (counted_in n b p) (map asks nodes) = f.answers p in
          omega (arith, one, one_more, both, same, all));
    })
  where
    more : List Token
    more = rest ++ tells m ∷ []

    s : SystemView
    s = without u left

    asked : total (asked_of m) tokens ≡ 1 + total (asked_of m) rest
    asked = drawn_total (asked_of m) (asks m) tokens rest drawn ∙ ap (λ (k : ℕ). k + total (asked_of m) rest) (own_count m)

    among : 1 ≤ count_of m nodes
    among =
        let all : total (asked_of m) tokens + total (told_of m) tokens + count_of m f.left ≡ count_of m f.later = f.counts m in
        let less : count_of m f.later ≤ count_of m nodes = f.within m in
        let one : total (asked_of m) tokens ≡ 1 + total (asked_of m) rest = asked in
        omega (arith, all, less, one)

    none_more : total (asked_of m) rest ≡ 0
    none_more =
        let all : total (asked_of m) tokens + total (told_of m) tokens + count_of m f.left ≡ count_of m f.later = f.counts m in
        let less : count_of m f.later ≤ count_of m nodes = f.within m in
        let one : total (asked_of m) tokens ≡ 1 + total (asked_of m) rest = asked in
        let once : count_of m nodes ≤ 1 = g.once m in
        omega (arith, all, less, one, once)

    other : Other n m b
    other = g.others m among

    at_first : node_at b m ≡ other.live
    at_first = node_is b m other.live other.there

    dist_so : (node_at b m).dist ≡ Some other.dist
    dist_so = ap (λ (v : LiveView). v.dist) at_first ∙ other.has

    next : LiveView
    next = record other.live { dist = Some (met n g.allowed other.dist) }

    not_yet : cell_at u m.0 ≡ Some (cell.Node other.live)
    not_yet =
        f.cells m other.apart
        ∙ ap (λ (k : ℕ). cond (met_by m nodes k) (Some (cell.Node (met_in n g.allowed (node_at b m)))) (cell_at b m.0)) asked
        ∙ ap (λ (c : Bool). cond (not (count_of m nodes == 0) && c) (Some (cell.Node (met_in n g.allowed (node_at b m)))) (cell_at b m.0))
        (ne_eqb (1 + total (asked_of m) rest) 0 (λ same. omega (arith, same)))
        ∙ ap (λ (c : Bool). cond c (Some (cell.Node (met_in n g.allowed (node_at b m)))) (cell_at b m.0)) (and-false (not (count_of m nodes == 0)))
        ∙ cell_there b m other.live other.there

    there : live_at s m ≡ Some other.live
    there = ap (λ (o : Option Cell). option_and_then live_in o) not_yet

    rare : burns (pair_of m n None) s ≡ false
    rare =
        let all : answer_count u.answers (pair_of m n None) + total (counted_in n b (pair_of m n None)) tokens
        ≡ total (counted_in n b (pair_of m n None)) (map asks nodes) = f.answers (pair_of m n None) in
        let most : total (counted_in n b (pair_of m n None)) (map asks nodes) ≤ count_of m nodes = once_by n m b nodes in
        let once : count_of m nodes ≤ 1 = g.once m in
        seldom (answer_count u.answers (pair_of m n None)) (omega (arith, all, most, once))

    over : SystemView
    over = record (with_node m next s) {
      messages = left ++ answer_of m n other.live other.dist s ∷ [];
      answers = counted_by m n other.dist ++ u.answers;
    }

    is : arrived (letter n b g (asks m)).to (letter n b g (asks m)).message s ≡ over
    is =
        arrives_alive (letter n b g (asks m)).to (letter n b g (asks m)).message s
        (ap (λ (o : Option LiveView). is_alive (unwrap_or o never_begun)) there ∙ other.alive)
        (ap (λ (o : Option LiveView). (unwrap_or o never_begun).life) there ∙ sym (ap (λ (v : LiveView). v.life) at_first))
        ∙ answers_so n m g.allowed g.started s other.live other.dist there other.has other.stands other.mail g.none rare
        (λ same. other.apart (sym same)) (alive_here u f) (ap (λ (z : SystemView). has_dist_at z n) f.same ∙ g.has_dist)
        (ap (λ (z : SystemView). are_linked m n z.links) f.same ∙ other.from)

    -- its answer
    answer_so : answer_of m n other.live other.dist s ≡ letter n b g (tells m)
    answer_so = λ i. record {
      from = process_at (record { node = m; life = (sym at_first i).life }) role.DistAc;
      to = process_at (record { node = n; life = same_life u f i }) role.DistAc;
      message = word_so (sym dist_so i);
    }
      where
        word_so : Option DistView → Message
        word_so o = message.NewNode m (allow_in m o) (flags_in o)

    messages_so : left ++ answer_of m n other.live other.dist s ∷ [] ≡ map (letter n b g) more
    messages_so = (λ i. left_so i ++ answer_so i ∷ []) ∙ sym (map-append (letter n b g) rest (tells m ∷ []))

    met_now : met_by m nodes (total (asked_of m) more) ≡ true
    met_now =
        ap (met_by m nodes)
        (let one_more : total (asked_of m) more ≡ total (asked_of m) rest + 0 = total_more (asked_of m) rest (tells m ∷ []) in
        let none : total (asked_of m) rest ≡ 0 = none_more in
        let now : total (asked_of m) more ≡ 0 = omega (arith, one_more, none) in
        now)
        ∙ ap (λ (c : Bool). not c && true)
        (ne_eqb (count_of m nodes) 0 (λ same. (let some : 1 ≤ count_of m nodes = among in omega (arith, same, some))))

    cells_here : cell_at over m.0
        ≡ cond (met_by m nodes (total (asked_of m) more)) (Some (cell.Node (met_in n g.allowed (node_at b m)))) (cell_at b m.0)
    cells_here =
        set_there u.nodes.cells m.0 (cell.Node other.live) (cell.Node next) not_yet
        ∙ (λ i. Some (cell.Node (record (sym at_first i) { dist = met_so i })))
        ∙ sym (ap (λ (c : Bool). cond c (Some (cell.Node (met_in n g.allowed (node_at b m)))) (cell_at b m.0)) met_now)
      where
        met_so : Some (met n g.allowed other.dist) ≡ option_map (met n g.allowed) (node_at b m).dist
        met_so = ap (option_map (met n g.allowed)) (sym dist_so)

    cells_at : (k : Node) → k.0 ≢ n.0 → (k.0 ≡ m.0) ⊎ (k.0 ≢ m.0)
        → cell_at over k.0
        ≡ cond (met_by k nodes (total (asked_of k) more)) (Some (cell.Node (met_in n g.allowed (node_at b k)))) (cell_at b k.0)
    cells_at k apart (inl same) =
        subst (λ (x : Node). cell_at over x.0
        ≡ cond (met_by x nodes (total (asked_of x) more)) (Some (cell.Node (met_in n g.allowed (node_at b x)))) (cell_at b x.0))
        (sym (same_node k m same)) cells_here
    cells_at k apart (inr differs) =
        written_elsewhere u.nodes.cells m.0 k.0 (cell.Node next) differs
        ∙ f.cells k apart
        ∙ ap (λ (j : ℕ). cond (met_by k nodes j) (Some (cell.Node (met_in n g.allowed (node_at b k)))) (cell_at b k.0))
        (let one : total (asked_of k) tokens ≡ more_if (m.0 == k.0) 0 + total (asked_of k) rest =
        drawn_total (asked_of k) (asks m) tokens rest drawn in
        let one_more : total (asked_of k) more ≡ total (asked_of k) rest + 0 = total_more (asked_of k) rest (tells m ∷ []) in
        let none : more_if (m.0 == k.0) 0 ≡ 0 = other_count m k differs in
        let same : total (asked_of k) tokens ≡ total (asked_of k) more = omega (arith, one, one_more, none) in
        same)
