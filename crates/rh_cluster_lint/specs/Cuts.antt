-- A file in which what stands behind a place is taken out, and which can still be read (ours).
use Rattle.std.specs.Prelude.{ℕ, ◌+◌, List, [], ◌∷◌, ◌++◌, codes, take, nat_le, nat_lt, Bool, ◌&&◌, ◌||◌, ◌==◌, if◌then◌else◌}
use Rattle.rh_findings.specs.declared.scan.Standing.{Standing}
use Rattle.rh_findings.specs.declared.scan.Standing.TheVariants.{Between}
use Rattle.rh_findings.specs.Parts.{opens, closes, depth_behind}
use Rattle.rh_findings.specs.Scan.{behind, is_bare}
use Rattle.rh_cluster_lint.specs.Words.{is_tuple, is_headed}
use Rattle.rh_cluster_lint.specs.declared.cuts.Cut.{Cut}
use Rattle.rh_cluster_lint.specs.declared.cuts.Cut.TheVariants.{Headers, Lists, Applications, Boots}
use Rattle.rh_cluster_lint.specs.declared.cuts.TheConstants.{DEEPEST}

-- in so many lists and tuples a list or a tuple begins
abbrev pub begins : ℕ → Standing → ℕ → ℕ → Bool
begins wanted standing depth b = is_bare standing && opens b && (depth == wanted)

-- how deep a list or tuple is kept of which nothing is taken out but the list of this one: all of it, or down to that list
abbrev pub limit_in : List ℕ → ℕ → List ℕ → ℕ
limit_in name depth bytes = if is_tuple bytes && is_headed name bytes then depth else DEEPEST

-- behind a byte that is the first of these: it changes with each term, or with each parameter
abbrev pub limit_behind : Cut → Standing → ℕ → ℕ → List ℕ → ℕ → ℕ
limit_behind Boots standing depth limit bytes b = if begins 4 standing depth b then limit_in (codes "boot") 5 bytes else limit
limit_behind _ standing depth limit bytes b = if begins 0 standing depth b then limit_in (codes "application") 1 bytes else limit

-- how deep a byte may lie that is kept, before the place and behind it
abbrev pub kept_depth : Cut → Bool → ℕ → ℕ
kept_depth Applications is_before limit = if is_before then DEEPEST else limit
kept_depth Boots is_before limit = if is_before then DEEPEST else limit
kept_depth _ is_before limit = if is_before then limit else 1

-- a bracket is kept too that ends what is begun: so many lists and tuples are
abbrev pub is_kept : ℕ → Standing → ℕ → ℕ → ℕ → Bool
is_kept most standing depth begun b = nat_le depth most || (is_bare standing && closes b && (depth == begun))

-- what is left of a text that is left
abbrev pub left_from : Cut → ℕ → Standing → ℕ → ℕ → ℕ → ℕ → List ℕ → List ℕ
left_from cut place standing at depth begun limit [] = []
left_from cut place standing at depth begun limit (b ∷ bytes) =
    (if is_kept (kept_depth cut (nat_lt at place) limit) standing depth begun b then b ∷ [] else [])
    ++ left_from cut place (behind standing b) (at + 1) (depth_behind standing depth b)
    (if is_kept (kept_depth cut (nat_lt at place) limit) standing depth begun b then depth_behind standing depth b else begun)
    (limit_behind cut standing depth limit (b ∷ bytes) b) bytes

-- what is left of a text that is cut at a place
unfoldable pub left : Cut → ℕ → List ℕ → List ℕ
left cut place text = left_from cut place Between 0 0 0 DEEPEST text

-- a file of which all lists in terms are empty, so that the terms are there with their names
abbrev pub emptied : List ℕ → List ℕ
emptied text = left Lists 0 text

-- a file that is cut at a place: without what stands behind it in the lists of its term and of those behind, in those of applications,
-- or in those of parameters `boot`; in the first case without lists of applications before it, which may speak of what is taken out.
-- Or with the terms before it alone, of which all lists are empty.
unfoldable pub cut_at : Cut → ℕ → List ℕ → List ℕ
cut_at Headers place text = emptied (take place text)
cut_at cut place text = left cut place text
