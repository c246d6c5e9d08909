-- Which part of a refused cluster file is at fault (ours).
use Rattle.std.specs.Prelude.{ℕ, ◌+◌, ◌/◌, List, [], ◌∷◌, ◌++◌, codes, length, take, min, filter, Bool, false, not, ◌==◌, Option, Some, None, Result, Ok, Err, if◌then◌else◌}
use Rattle.std.specs.Option.{option_to_list}
use Rattle.rh_model.specs.ClusterView.{ClusterView}
use Rattle.rh_terms.specs.declared.fault.TermFault.{TermFault}
use Rattle.rh_terms.specs.declared.fault.TermFault.TheVariants as terms
use Rattle.rh_cluster.specs.declared.fault.ClusterFault.{ClusterFault}
use Rattle.rh_cluster.specs.declared.fault.ClusterFault.TheVariants as fault
use Rattle.rh_cluster.specs.ClusterOf.{cluster_of}
use Rattle.rh_findings.specs.declared.parts.Part.{Part}
use Rattle.rh_findings.specs.Parts.{parts_at}
use Rattle.rh_cluster_lint.specs.declared.blame.Step.{Step}
use Rattle.rh_cluster_lint.specs.declared.blame.TheConstants.{MOST_TRIED, MOST_READ}
use Rattle.rh_cluster_lint.specs.declared.cuts.Cut.{Cut}
use Rattle.rh_cluster_lint.specs.declared.cuts.Cut.TheVariants.{Headers, Lists, Applications, Boots}
use Rattle.rh_cluster_lint.specs.Cuts.{cut_at, emptied}
use Rattle.rh_cluster_lint.specs.Spans.{span, parts_in}
use Rattle.rh_cluster_lint.specs.Words.{is_headed}

-- the number of a fault's code, other for each fault of terms
abbrev pub term_number : TermFault → ℕ
term_number (terms.Syntax line) = 21
term_number (terms.Unsupported line) = 22
term_number terms.NotUtf8 = 23
term_number terms.TooDeep = 24
term_number terms.IntRange = 25
term_number terms.OutOfMemory = 26

abbrev pub number : ClusterFault → ℕ
number (fault.Term f) = term_number f
number fault.NoNodes = 2
number fault.TooMany = 3
number fault.DuplicateName = 4
number fault.UnknownName = 5
number fault.DuplicateInList = 6
number fault.DuplicateParameter = 7
number (fault.Mismatch node) = 8
number fault.BootNotListed = 9
number fault.BadValue = 10
number fault.BadName = 11
number fault.OutOfMemory = 12

-- it is refused with the fault of this number
abbrev pub has_number : ℕ → Result ClusterView ClusterFault → Bool
has_number code (Ok c) = false
has_number code (Err f) = number f == code

abbrev pub is_refused : ℕ → List ℕ → Bool
is_refused code text = has_number code (cluster_of text)

-- the file up to the end of a part, and up to where it begins. Cut there, a term has no dot where nothing stands behind it
abbrev pub dot : Cut → List ℕ
dot Headers = codes "."
dot _ = []

unfoldable pub up_to : Cut → List ℕ → Part → List ℕ
up_to cut text p = cut_at cut p.to text ++ dot cut

abbrev pub before : Cut → List ℕ → Part → List ℕ
before cut text p = cut_at cut p.from text

-- the first of these parts up to which the file is refused so, with its number among them
abbrev pub first_from : Cut → List ℕ → ℕ → ℕ → List Part → Option Step
first_from cut text code n [] = None
first_from cut text code n (p ∷ ps) = if is_refused code (up_to cut text p) then Some (record { part = p; number = n }) else first_from cut text code (n + 1) ps

-- unless the file is refused so up to where it begins
abbrev pub unless_before : Cut → List ℕ → ℕ → Option Step → Option Step
unless_before cut text code None = None
unless_before cut text code (Some s) = if is_refused code (before cut text s.part) then None else Some s

-- so many of some parts are looked at: fewer of a long file
abbrev pub tries : List ℕ → ℕ
tries text = min MOST_TRIED (MOST_READ / (length text + 1))

-- the one of these parts at which the fault is
unfoldable pub fault_among : Cut → List ℕ → ℕ → List Part → Option Step
fault_among cut text code ps = unless_before cut text code (first_from cut text code 1 (take (tries text) ps))

-- from a term on: it, the part of its list at which the fault is, and so on
abbrev pub narrowed : Cut → List ℕ → ℕ → Option Step → List ℕ → List Step
narrowed cut text code None depths = []
narrowed cut text code (Some s) [] = s ∷ []
narrowed cut text code (Some s) (depth ∷ depths) = s ∷ narrowed cut text code (fault_among cut text code (parts_in text depth s.part)) depths

-- a section or a key, a parameter, an element of its list, an element of the list of that
abbrev pub depths : List ℕ
depths = 2 ∷ 4 ∷ 6 ∷ 8 ∷ []

unfoldable pub way_among : Cut → List ℕ → ℕ → List Part → List Step
way_among cut text code ts = narrowed cut text code (fault_among cut text code ts) depths

abbrev pub is_application : List ℕ → Part → Bool
is_application text p = is_headed (codes "application") (span text p)

-- in the nodes, of which all names are known, or else in the applications
abbrev pub or_else : List Step → List Step → List Step
or_else xs ys = if length xs == 0 then ys else xs

unfoldable pub way_in_terms : List ℕ → ℕ → List Part → List Step
way_in_terms text code ts =
    or_else (way_among Lists text code (filter (λ p. not (is_application text p)) ts))
    (way_among Applications text code (filter (is_application text) ts))

-- C9 is looked for last, when all else is known
unfoldable pub way_in_lists : List ℕ → ClusterFault → List Part → List Step
way_in_lists text fault.BootNotListed ts = way_among Boots text (number fault.BootNotListed) ts
way_in_lists text f ts = way_in_terms text (number f) ts

-- the term at fault, where the names and shapes of terms are; else where it is in their lists; nothing of a file that is too long
unfoldable pub blamed : List ℕ → ClusterFault → List Step
blamed text f =
    if tries text == 0 then []
    else (if is_refused (number f) (emptied text) then option_to_list (fault_among Headers text (number f) (parts_at 0 text))
    else way_in_lists text f (parts_at 0 text))
