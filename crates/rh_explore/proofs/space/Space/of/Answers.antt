use Rattle.std.proofs.Common.{◌≡◌, ◌∷◌, ◌++◌, [], ℕ, Bool, true, false, List, Option, None, length, map, replicate, sym, ap, ◌∙◌, subst, arith}
use Rattle.std.specs.Prelude.{Contains, MatchBool}
use Rattle.std.proofs.lemmas.List.{length-replicate}
use Rattle.rh_state.specs.Stored.{read}
use Rattle.rh_keys.specs.declared.key.Key.{Key}
use Rattle.rh_explore.specs.declared.space.Found.{Found}
use Rattle.rh_explore.specs.declared.search.Search.{Search}
use Rattle.rh_explore.specs.Exploring.{scope_of}
use Rattle.rh_explore.specs.Failures.{AreFirsts, FailThere, all_told}
use Rattle.rh_explore.specs.Families.{Knowing}
use Rattle.rh_explore.proofs.Begun.{first, kept_first}
use Rattle.rh_explore.proofs.FirstsTold.{none_asked, fails_within, firsts_more}
use Rattle.rh_explore.proofs.space.Space.of.Goals as goal

-- as many asks as there are
many : (firsts : List (Option ℕ)) (count : ℕ) → firsts ≡ replicate count None → length firsts ≡ count
many firsts count is = ap (λ (os : List (Option ℕ)). length os) is ∙ length-replicate count None

pub base_marks-requires-clause-known : goal.base_marks-requires-clause-known
base_marks-requires-clause-known c =
    ap (λ (k : Knowing). length k.firsts) c.known_so_far.ensures
    ∙ many c.in_ok-firsts.firsts.items (length c.args.search.now.asks.now) c.in_ok-firsts.ensures

pub push-requires-clause-fails : goal.push-requires-clause-fails
push-requires-clause-fails c =
    let s : Search = c.args.search.now in
    fails_within s.pick c.known_so_far.result.firsts.now c.in_ok-firsts.firsts.items s.asks.now (read s.base.now) c.in_ok-marks.marks.fails.items c.in_ok-marks.ensures.fails
    (many c.in_ok-firsts.firsts.items (length s.asks.now) c.in_ok-firsts.ensures)

-- the first key is new
first_added : (new : Bool) (keys : List (List ℕ)) (q : List ℕ) (M S : Type 0) → keys ≡ []
    → MatchBool new (Contains keys q → ⊥) (Contains keys q) → MatchBool new M S → M
first_added true keys q M S none is more = more
first_added false keys q M S none has same = let l = has.1 in absurd (omega (arith, l, ap (λ (ks : List (List ℕ)). length ks) none))

pub returns-clause-kept : goal.returns-clause-kept
returns-clause-kept c =
    let s : Search = c.args.search.now in
    let nothing = ap (map (λ (k : Key). k.bytes.items)) c.with_hasher.ensures.empty in
    let more = first_added c.in_ok-_new._new _ _ _ _ nothing c.in_ok-_new.ensures.new c.in_ok-_new.ensures.added in
    let w = scope_of s in
    let base = read s.base.now in
    let asks = s.asks.now in
    let fails = c.in_ok-marks.marks.fails.items in
    let none : c.in_ok-firsts.firsts.items ≡ replicate (length asks) None = c.in_ok-firsts.ensures in
    let known : c.known_so_far.result.firsts.now ≡ replicate (length asks) None = ap (λ (k : Knowing). k.firsts) c.known_so_far.ensures ∙ none in
    let there : FailThere s.pick (replicate (length asks) None) asks base fails =
    subst (λ (os : List (Option ℕ)). FailThere s.pick os asks base fails) known c.in_ok-marks.ensures.fails in
    let empty = c.new.ensures.items in
    let told = more.firsts ∙ (λ i. all_told (length (empty i)) (none i) fails) in
    kept_first w s.bounds asks c.push.new.self (more.found ∙ ap (λ (fs : List Found). fs ++ first ∷ []) empty)
    (more.keys
    ∙ (λ i. map (λ (k : Key). k.bytes.items) (c.with_hasher.ensures.empty i) ++ c.in_ok-marks.ensures.key i ∷ []))
    (subst (λ (os : List (Option ℕ)). AreFirsts s.pick os asks (base ∷ [])) (sym told)
    (firsts_more s.pick (replicate (length asks) None) asks [] base fails (none_asked s.pick asks) there))
    (omega (arith, more.bytes, ap (λ (q : List ℕ). length q) c.in_ok-marks.ensures.key))

pub returns-clause-found : goal.returns-clause-found
returns-clause-found c =
    let nothing = ap (map (λ (k : Key). k.bytes.items)) c.with_hasher.ensures.empty in
    let more = first_added c.in_ok-_new._new _ _ _ _ nothing c.in_ok-_new.ensures.new c.in_ok-_new.ensures.added in
    more.found ∙ ap (λ (fs : List Found). fs ++ first ∷ []) c.new.ensures.items
