use Rattle.std.proofs.Common.{◌≡◌, ◌++◌, ◌∷◌, [], length, take, List, ℕ, if◌then◌else◌, ap, ◌∙◌}
use Rattle.std.specs.Result.{is_ok}
use Rattle.rh_history.specs.declared.change.Change.{Change}
use Rattle.rh_history.specs.Records.{cut_at, begin_at}
use Rattle.rh_history.proofs.Cuts.{fewer_keep, fewer_are, cut_reach, cut_push, ends_push}
use Rattle.rh_history.proofs.records.Records.replace_from.Given.{Over}
use Rattle.rh_history.proofs.records.Records.replace_from.Goals as goal

pub start_of-end-requires : goal.start_of-end-requires
start_of-end-requires g c =
    cut_reach c.self.inside.ends.items c.as_slice.result.now c.self.inside.changes.items c.args.self.now c.args.count c.self.view_is
    (c.as_slice.ensures.value ∙ c.in_ok-reserve.ensures.items) c.requires

-- where the kept records end
begins : (g : Over) (c : goal.After-unwrap-2 g) → c.start_of-end.result ≡ begin_at 0 c.self.inside.ends.items c.args.count
begins g c = c.start_of-end.ensures ∙ ap (λ (ns : List ℕ). begin_at 0 ns c.args.count) (c.as_slice.ensures.value ∙ c.in_ok-reserve.ensures.items)

changes_are : (g : Over) (c : goal.After-unwrap-2 g) → c.append.new.self.items ≡ take c.start_of-end.result c.self.inside.changes.items ++ c.args.added.now.items
changes_are g c =
    c.append.ensures.items
    ∙ (λ i. if is_ok (c.unwrap.ensures i) then c.truncate.new.self.items ++ c.args.added.now.items else c.truncate.new.self.items)
    ∙ ap (λ (es : List (Change g.row.T.Denot)). es ++ c.args.added.now.items) (c.truncate.ensures.items ∙ ap (take c.start_of-end.result) c.in_ok-reserve-2.ensures.items)

ends_are : (g : Over) (c : goal.After-unwrap-2 g) → c.push.new.self.items
    ≡ take c.args.count c.self.inside.ends.items ++ length (take c.start_of-end.result c.self.inside.changes.items ++ c.args.added.now.items) ∷ []
ends_are g c =
    c.push.ensures.items
    ∙ (λ i. if is_ok (c.unwrap-2.ensures i) then c.truncate-2.new.self.items ++ c.len-2.result ∷ [] else c.truncate-2.new.self.items)
    ∙ (λ i. (c.truncate-2.ensures.items ∙ ap (take c.args.count) c.in_ok-reserve.ensures.items) i
    ++ (c.len-2.ensures ∙ c.append.new.self.ok.0 ∙ ap (λ (es : List (Change g.row.T.Denot)). length es) (changes_are g c)) i ∷ [])

pub invariant_of-self-2 : goal.invariant_of-self-2
invariant_of-self-2 g c = rw (ends_are g c, changes_are g c)
    (ends_push 0 (take c.args.count c.self.inside.ends.items) (take c.start_of-end.result c.self.inside.changes.items) c.args.added.now.items
    (fewer_keep c.self.inside.ends.items c.self.inside.changes.items c.args.self.now c.args.count c.start_of-end.result c.self.invariant c.self.view_is
    (begins g c)))

pub returns-clause-records : goal.returns-clause-records
returns-clause-records g c =
    (λ i. cut_at 0 (ends_are g c i) (changes_are g c i))
    ∙ cut_push 0 (take c.args.count c.self.inside.ends.items) (take c.start_of-end.result c.self.inside.changes.items) c.args.added.now.items
    (fewer_keep c.self.inside.ends.items c.self.inside.changes.items c.args.self.now c.args.count c.start_of-end.result c.self.invariant c.self.view_is
    (begins g c))
    ∙ ap (λ (rs : List (List (Change g.row.T.Denot))). rs ++ c.args.added.now.items ∷ [])
    (fewer_are c.self.inside.ends.items c.self.inside.changes.items c.args.self.now c.args.count c.start_of-end.result c.self.invariant c.self.view_is (begins g c))
