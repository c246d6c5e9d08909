-- All steps taken back, or made again, one after the other: the records after one more.
use Rattle.std.proofs.Common.{◌≡◌, ◌≢◌, ℕ, zero, suc, ◌+◌, ◌-◌, ◌<◌, ◌≤◌, List, [], ◌∷◌, ◌++◌, length, take, drop, set, get_or, slice_set, Result, OnOk}
use Rattle.std.proofs.Common.{refl, sym, ap, ◌∙◌, arith}
use Rattle.std.proofs.lemmas.List.{length-take-le, length-drop, length-append, set-append_left, get_or_append_left}
use Rattle.rh_base.specs.Exchanges.{back, backed, forth, forthed}
use Rattle.rh_base.proofs.Exchanges.{BackLoop, back_loop, ForthLoop, forth_loop, length-backed}
use Rattle.rh_state.specs.declared.edit.Edit.{Edit}
use Rattle.rh_state.specs.Edits.{exchange, turned}
use Rattle.rh_calls.specs.declared.call.Call.TheVariants as call
use Rattle.rh_trail.specs.declared.sim.AtStart.{AtStart}
use Rattle.rh_trail.specs.declared.sim.AtEnd.{AtEnd}
use Rattle.rh_trail.specs.Chain.{backs, forths, chain, IsChain}
use Rattle.rh_trail.specs.Lone.{served, answered, undo_reply, redo_reply}
use Rattle.rh_trail.specs.SimView.{SimView, Held, record_at}
use Rattle.rh_trail.proofs.Chains.{chain_below, chain_above}
use Rattle.rh_trail.proofs.Moves.{went_back, back_to, went_forth, forth_to}

-- the records where those of the events from the k-th on are taken back
abbrev pub rewound : Held → ℕ → List (List Edit)
rewound s k = take k (take s.seen.cursor s.records) ++ backed (back exchange) (backed exchange turned) s.words (drop k (take s.seen.cursor s.records))
    ++ drop s.seen.cursor s.records

-- and where j more are made again
abbrev pub advanced : Held → ℕ → List (List Edit)
advanced s j = take s.seen.cursor s.records
    ++ (forthed (forth exchange) (forthed exchange turned) s.words (take j (drop s.seen.cursor s.records)) ++ drop j (drop s.seen.cursor s.records))

set_beyond : {X : Type 0} (p q : List X) (n j : ℕ) (y : X) → n ≡ length p + j → set (p ++ q) n y ≡ p ++ set q j y
set_beyond [] q n j y is = ap (λ k. set q k y) (let e : n ≡ j = omega (arith, is) in e)
set_beyond (x ∷ p) q zero j y is = absurd (omega (arith, is))
set_beyond (x ∷ p) q (suc n) j y is = ap (λ l. x ∷ l) (set_beyond p q n j y (omega (arith, is)))

get_beyond : {X : Type 0} (p q : List X) (n j : ℕ) (d : X) → n ≡ length p + j → get_or (p ++ q) n d ≡ get_or q j d
get_beyond [] q n j d is = ap (λ k. get_or q k d) (let e : n ≡ j = omega (arith, is) in e)
get_beyond (x ∷ p) q zero j d is = absurd (omega (arith, is))
get_beyond (x ∷ p) q (suc n) j d is = get_beyond p q n j d (omega (arith, is))

-- o is the simulation at the beginning, s the one that is reached, and t the next
module _ (o s t : Held) (h : IsChain o) (seen : s.seen ≡ record o.seen { cursor = s.seen.cursor })
    (chains : (k : ℕ) → k ≤ length o.seen.trail → chain s k ≡ chain o k) where
  module _ (r : Result ℕ AtStart) (within : s.seen.cursor ≤ o.seen.cursor) (some : s.seen.cursor ≢ 0)
      (words : s.words ≡ backs o.words (drop s.seen.cursor (take o.seen.cursor o.records))) (records : s.records ≡ rewound o s.seen.cursor)
      (answer : served s.seen call.Undo ≡ answered (undo_reply r) t.seen)
      (next_words : OnOk r (t.words ≡ chain s (s.seen.cursor - 1)))
      (next_records : OnOk r (t.records ≡ slice_set s.records (s.seen.cursor - 1) (backed exchange turned s.words (record_at s (s.seen.cursor - 1))))) where
    pub back_seen : t.seen ≡ record s.seen { cursor = s.seen.cursor - 1 }
    back_seen = back_to s.seen t.seen r some answer

    pub back_cursor : t.seen.cursor ≡ s.seen.cursor - 1
    back_cursor = ap (λ (v : SimView). v.cursor) back_seen

    pub back_seen_from : t.seen ≡ record o.seen { cursor = t.seen.cursor }
    back_seen_from =
        back_seen ∙ ap (λ (v : SimView). record v { cursor = s.seen.cursor - 1 }) seen ∙ ap (λ (k : ℕ). record o.seen { cursor = k }) (sym back_cursor)

    pub back_words : t.words ≡ backs o.words (drop t.seen.cursor (take o.seen.cursor o.records))
    back_words =
        went_back s.seen t.seen r (t.words ≡ chain s (s.seen.cursor - 1)) some answer next_words
        ∙ chains (s.seen.cursor - 1) (omega (arith, within, h.within))
        ∙ chain_below o.words o.records o.seen.cursor (s.seen.cursor - 1) (omega (arith, within))
        ∙ ap (λ k. backs o.words (drop k (take o.seen.cursor o.records))) (sym back_cursor)

    pub back_records : t.records ≡ rewound o t.seen.cursor
    back_records =
        let c : ℕ = s.seen.cursor in
        let cs : List (List Edit) = take o.seen.cursor o.records in
        let xs : List (List Edit) = take c cs ++ backed (back exchange) (backed exchange turned) o.words (drop c cs) in
        let rest : List (List Edit) = drop o.seen.cursor o.records in
        let long : length cs ≡ o.seen.cursor = length-take-le o.seen.cursor o.records (omega (arith, h.count, h.within)) in
        let many : length xs ≡ o.seen.cursor = omega (
          arith,
          long,
          within,
          length-append (take c cs) (backed (back exchange) (backed exchange turned) o.words (drop c cs)),
          length-take-le c cs (omega (arith, long, within)),
          length-backed (back exchange) (backed exchange turned) o.words (drop c cs),
          length-drop c cs,
        ) in
        let l : BackLoop (back exchange) (backed exchange turned) o.words cs s.words xs (c - 1) (get_or xs (c - 1) []) =
        back_loop (back exchange) (backed exchange turned) o.words cs s.words xs c (c - 1) (get_or xs (c - 1) []) [] (omega (arith, some))
        (omega (arith, long, within))
        words refl refl in
        went_back s.seen t.seen r (t.records ≡ slice_set s.records (c - 1) (backed exchange turned s.words (record_at s (c - 1)))) some answer next_records
        ∙ ap (λ (rs : List (List Edit)). set rs (c - 1) (backed exchange turned s.words (get_or rs (c - 1) []))) records
        ∙ ap (λ (x : List Edit). set (xs ++ rest) (c - 1) (backed exchange turned s.words x))
        (get_or_append_left xs rest [] (c - 1) (omega (arith, many, some, within)))
        ∙ set-append_left xs rest (c - 1) (backed exchange turned s.words (get_or xs (c - 1) [])) (omega (arith, many, some, within))
        ∙ ap (λ (ys : List (List Edit)). ys ++ rest) l.kept
        ∙ ap (rewound o) (sym back_cursor)

  module _ (r : Result ℕ AtEnd) (reached : o.seen.cursor ≤ s.seen.cursor) (within : s.seen.cursor < length o.seen.trail)
      (words : s.words ≡ forths o.words (take (s.seen.cursor - o.seen.cursor) (drop o.seen.cursor o.records)))
      (records : s.records ≡ advanced o (s.seen.cursor - o.seen.cursor))
      (answer : served s.seen call.Redo ≡ answered (redo_reply r) t.seen)
      (next_words : OnOk r (t.words ≡ chain s (s.seen.cursor + 1)))
      (next_records : OnOk r (t.records ≡ slice_set s.records s.seen.cursor (forthed exchange turned s.words (record_at s s.seen.cursor)))) where
    more : s.seen.cursor ≢ length s.seen.trail
    more = λ e. (let same : length s.seen.trail ≡ length o.seen.trail = ap (λ (v : SimView). length v.trail) seen in absurd (omega (arith, e, same, within)))

    pub forth_seen : t.seen ≡ record s.seen { cursor = s.seen.cursor + 1 }
    forth_seen = forth_to s.seen t.seen r more answer

    pub forth_cursor : t.seen.cursor ≡ s.seen.cursor + 1
    forth_cursor = ap (λ (v : SimView). v.cursor) forth_seen

    pub forth_seen_from : t.seen ≡ record o.seen { cursor = t.seen.cursor }
    forth_seen_from =
        forth_seen ∙ ap (λ (v : SimView). record v { cursor = s.seen.cursor + 1 }) seen ∙ ap (λ (k : ℕ). record o.seen { cursor = k }) (sym forth_cursor)

    pub forth_words : t.words ≡ forths o.words (take (t.seen.cursor - o.seen.cursor) (drop o.seen.cursor o.records))
    forth_words =
        went_forth s.seen t.seen r (t.words ≡ chain s (s.seen.cursor + 1)) more answer next_words
        ∙ chains (s.seen.cursor + 1) (omega (arith, within))
        ∙ chain_above o.words o.records o.seen.cursor (s.seen.cursor + 1) (t.seen.cursor - o.seen.cursor) (omega (arith, h.count, h.within))
        (omega (arith, forth_cursor, reached))

    pub forth_records : t.records ≡ advanced o (t.seen.cursor - o.seen.cursor)
    forth_records =
        let c : ℕ = s.seen.cursor in
        let j : ℕ = s.seen.cursor - o.seen.cursor in
        let cs : List (List Edit) = drop o.seen.cursor o.records in
        let xs : List (List Edit) = forthed (forth exchange) (forthed exchange turned) o.words (take j cs) ++ drop j cs in
        let front : List (List Edit) = take o.seen.cursor o.records in
        let long : length front ≡ o.seen.cursor = length-take-le o.seen.cursor o.records (omega (arith, h.count, h.within)) in
        let at : c ≡ length front + j = omega (arith, long, reached) in
        let l : ForthLoop (forth exchange) (forthed exchange turned) o.words cs s.words xs j (get_or xs j []) =
        forth_loop (forth exchange) (forthed exchange turned) o.words cs s.words xs j (get_or xs j []) []
        (omega (arith, length-drop o.seen.cursor o.records, h.count, within, reached))
        words refl refl in
        let e : j + 1 ≡ t.seen.cursor - o.seen.cursor = omega (arith, forth_cursor, reached) in
        went_forth s.seen t.seen r (t.records ≡ slice_set s.records c (forthed exchange turned s.words (record_at s c))) more answer next_records
        ∙ ap (λ (rs : List (List Edit)). set rs c (forthed exchange turned s.words (get_or rs c []))) records
        ∙ ap (λ (x : List Edit). set (front ++ xs) c (forthed exchange turned s.words x)) (get_beyond front xs c j [] at)
        ∙ set_beyond front xs c j (forthed exchange turned s.words (get_or xs j [])) at
        ∙ ap (λ (ys : List (List Edit)). front ++ ys) l.kept
        ∙ ap (advanced o) e
