-- A file behind the line of the second profile is that of the same cluster in it.
use Rattle.std.proofs.Common.{◌≡◌, ℕ, ◌≤◌, ◌==◌, ◌||◌, not, Bool, true, false, cond, List, [], ◌∷◌, ◌++◌, length, drop, codes, pos, Option, Some, None, Result, Ok, Err}
use Rattle.std.proofs.Common.{unwrap_or, is_some, inr, refl, sym, ap, ◌∙◌, arith, nat_le}
use Rattle.std.specs.Str.{is_utf8, chars}
use lib.Utf8.{encode}
use Rattle.std.proofs.lemmas.Str.{IsUtf8-append, IsUtf8-from_is_utf8, is_utf8-from_IsUtf8}
use Rattle.std.proofs.lemmas.Bool.Decides.{nat_tests}
use Rattle.rh_base.specs.Tree.{Tree, Trees, atom, int, tuple, none, more, list_of_trees}
use Rattle.rh_terms.specs.declared.fault.Fault.{Fault}
use Rattle.rh_terms.specs.declared.fault.TermFault.{TermFault}
use Rattle.rh_terms.specs.declared.fault.TermFault.TheVariants as faults
use Rattle.rh_terms.specs.declared.nest.TheConstants.{MAX_DEPTH}
use Rattle.rh_terms.specs.Bytes.{past_blank}
use Rattle.rh_terms.specs.Grammar.{terms_of, terms_from, told}
use Rattle.rh_terms.specs.Spelling.{IsBlank, Spells, IsInside, AreSeparated, AreDotted}
use Rattle.rh_terms.proofs.Told.{told_read}
use Rattle.rh_terms.proofs.Whole.{text_spelled}
use Rattle.rh_model.specs.ClusterView.{ClusterView}
use Rattle.rh_model.specs.Names.{is_among}
use Rattle.rh_cluster.specs.declared.fault.ClusterFault.{ClusterFault}
use Rattle.rh_cluster.specs.declared.fault.ClusterFault.TheVariants as fault
use Rattle.rh_cluster.specs.Faults.{when, in_turn, unless}
use Rattle.rh_cluster.specs.NameRule.{is_name}
use Rattle.rh_cluster.specs.Shapes.{as_node, as_app, as_profile, as_entry, as_pair, as_tuple, as_atom, as_int}
use Rattle.rh_cluster.specs.Headers.{every_platform, node_names, app_names, new_name_faults, header_faults_by, header_faults, headers_stage}
use Rattle.rh_cluster.specs.Profile.{profile_named, profile_of, behind_profile}
use Rattle.rh_cluster.specs.ClusterOf.{faults_behind_headers, faults_in, cluster_view, cluster_of_terms, cluster_in, cluster_of}
use Rattle.rh_text_laws.specs.Profiles.{in_profile}
use Rattle.rh_text_laws.specs.ProfileFiles.{second_line, SecondProfileReadsSame}

-- ---- what is no fault in the first profile is none in the second
nil_both : {A : Type 0} (xs ys : List A) → xs ++ ys ≡ [] → (xs ≡ []) × (ys ≡ [])
nil_both [] ys e = (refl, e)
nil_both (x ∷ xs) ys e = absurd (cc e)

more_room : (most larger : ℕ) (taken : Bool) (earlier : List (List ℕ)) (name : List ℕ) → most ≤ larger → new_name_faults most taken earlier name ≡ []
    → new_name_faults larger taken earlier name ≡ []
unfolding new_name_faults
more_room most larger taken earlier name room clear =
    let parts = nil_both (when (not (is_name name)) fault.BadName ++ when (taken || is_among earlier name) fault.DuplicateName)
    (when (nat_le most (length earlier)) fault.TooMany) clear in
    (λ i. parts.0 i ++ (by (nat_le most (length earlier)) refl parts.1) i)
  where
    by : (b : Bool) → nat_le most (length earlier) ≡ b → when b fault.TooMany ≡ [] → when (nat_le larger (length earlier)) fault.TooMany ≡ []
    by true e empty = absurd (cc empty)
    by false e empty = let still : nat_le larger (length earlier) ≡ false = grind (arith, nat_tests, e, room) in ap (λ b. when b fault.TooMany) still

header_clear : (nodes apps : List (List ℕ)) (t : Tree) → header_faults 1 nodes apps t ≡ [] → header_faults 2 nodes apps t ≡ []
unfolding header_faults
header_clear nodes apps t = by (as_node t) (as_app t)
  where
    by : (node app : Option (List ℕ × Tree)) → header_faults_by 1 nodes apps node app ≡ [] → header_faults_by 2 nodes apps node app ≡ []
    by (Some node) app clear = more_room 32 64 false nodes node.0 (omega arith) clear
    by None (Some app) clear = more_room 64 128 (is_among every_platform app.0) apps app.0 (omega arith) clear
    by None None clear = clear

turns_clear : (f g : List Tree → Tree → List ClusterFault) → ((earlier : List Tree) (t : Tree) → f earlier t ≡ [] → g earlier t ≡ [])
    → (earlier ts : List Tree) → in_turn f earlier ts ≡ [] → in_turn g earlier ts ≡ []
turns_clear f g each earlier [] clear = refl
turns_clear f g each earlier (t ∷ ts) clear =
    let parts = nil_both (f earlier t) (in_turn f (earlier ++ t ∷ []) ts) clear in
    λ i. each earlier t parts.0 i ++ turns_clear f g each (earlier ++ t ∷ []) ts parts.1 i

headers_clear : (ts : List Tree) → headers_stage 1 ts ≡ [] → headers_stage 2 ts ≡ []
unfolding headers_stage
headers_clear ts clear =
    let parts = nil_both (in_turn (λ earlier t. header_faults 1 (node_names earlier) (app_names earlier) t) [] ts) (when (length (node_names ts) == 0) fault.NoNodes) clear in
    (λ i. turns_clear (λ earlier t. header_faults 1 (node_names earlier) (app_names earlier) t) (λ earlier t. header_faults 2 (node_names earlier) (app_names earlier) t)
    (λ earlier t. header_clear (node_names earlier) (app_names earlier) t) [] ts parts.0 i ++ parts.1 i)

faults_clear : (ts : List Tree) → faults_in 1 ts ≡ [] → faults_in 2 ts ≡ []
unfolding faults_in
faults_clear ts clear =
    let parts = nil_both (headers_stage 1 ts) (faults_behind_headers ts) clear in
    (λ i. headers_clear ts parts.0 i ++ parts.1 i)

-- ---- the cluster of the terms
record IsClear {A : Type 0} (fs : List ClusterFault) (x y : A) : Type 0 where
  none : fs ≡ []
  same : x ≡ y

clear : {A : Type 0} (fs : List ClusterFault) (x y : A) → unless fs x ≡ Ok y → IsClear fs x y
clear [] x y is = record { none = refl; same = cc is }
clear (f ∷ fs) x y is = absurd (cc is)

-- what is read of terms of which the first names this profile, or none
abbrev read_as : List Tree → List Tree → Option ℕ → Result ClusterView ClusterFault
read_as all others named =
    unless (faults_in (unwrap_or named 1) (cond (is_some named) others all)) (cluster_view (unwrap_or named 1) (cond (is_some named) others all))

-- behind a term that names the second profile
second_terms : (t : Tree) (ts : List Tree) (c : ClusterView) → as_profile t ≡ Some 2 → profile_named ts ≡ None → cluster_of_terms ts ≡ Ok c
    → cluster_of_terms (t ∷ ts) ≡ Ok (in_profile 2 c)
unfolding profile_of behind_profile cluster_of_terms cluster_view
second_terms t ts c is unnamed read =
    let free = clear (faults_in 1 ts) (cluster_view 1 ts) c (sym (ap (read_as ts (drop 1 ts)) unnamed) ∙ read) in
    ap (read_as (t ∷ ts) ts) is
    ∙ ap (λ fs. unless fs (cluster_view 2 ts)) (faults_clear ts free.none)
    ∙ ap (λ (v : ClusterView). Ok (in_profile 2 v)) free.same

-- ---- the text of that term
abbrev second_term : Tree
second_term = tuple (more (atom (codes "profile")) (more (int (pos 2)) none))

second_named : as_profile second_term ≡ Some 2
unfolding as_profile as_entry as_pair as_tuple as_atom as_int
second_named = refl

-- ---- a text behind the line of that term
utf8_second : (text : List ℕ) → is_utf8 text ≡ true → is_utf8 (second_line ++ text) ≡ true
unfolding is_utf8 chars encode
utf8_second text utf8 =
    is_utf8-from_IsUtf8 (second_line ++ text)
    (IsUtf8-append second_line text (IsUtf8-from_is_utf8 second_line refl) (IsUtf8-from_is_utf8 text utf8))

record IsRead (text : List ℕ) (ts : Trees) : Type 0 where
  utf8 : is_utf8 text ≡ true
  from : terms_from (past_blank text) ≡ Ok ts

is_read : (text : List ℕ) (ts : Trees) → terms_of text ≡ Ok ts → IsRead text ts
unfolding terms_of
is_read text ts read = by (is_utf8 text) refl (terms_from (past_blank text)) refl read
  where
    by : (b : Bool) → is_utf8 text ≡ b → (r : Result Trees Fault) → terms_from (past_blank text) ≡ r
        → cond b (told text r) (Err faults.NotUtf8) ≡ Ok ts → IsRead text ts
    by true e (Ok us) f h = record { utf8 = e; from = f ∙ cc h }
    by true e (Err us) f h = absurd (cc h)
    by false e r f h = absurd (cc h)

second_spelled : Spells MAX_DEPTH second_term (codes "{profile, 2}")
second_spelled =
    let numeral : AreSeparated 63 (more (int (pos 2)) none) (codes "2") =
    AreSeparated.last 63 (int (pos 2)) (codes "2") [] (Spells.integer 63 (codes "2") (omega arith) refl refl) IsBlank.nothing in
    let parts : AreSeparated 63 (more (atom (codes "profile")) (more (int (pos 2)) none)) (codes "profile, 2") =
    AreSeparated.comma 63 (atom (codes "profile")) (more (int (pos 2)) none) (codes "profile") [] (codes " ") (codes "2") (Spells.name 63 (codes "profile") refl refl) IsBlank.nothing
    (IsBlank.white 32 [] refl IsBlank.nothing) numeral in
    Spells.tuple_of 63 (more (atom (codes "profile")) (more (int (pos 2)) none)) (codes "profile, 2")
    (IsInside.some 63 (more (atom (codes "profile")) (more (int (pos 2)) none)) [] (codes "profile, 2") IsBlank.nothing parts)

behind_line : (ts : Trees) (text : List ℕ) → AreDotted ts text → AreDotted ts (10 ∷ text)
behind_line ts text (AreDotted.nothing a blank) = AreDotted.nothing (10 ∷ a) (IsBlank.white 10 a refl blank)
behind_line ts text (AreDotted.last_comment a line blank within) = AreDotted.last_comment (10 ∷ a) line (IsBlank.white 10 a refl blank) within
behind_line ts text (AreDotted.term t us a s b r blank spells between ends rest) = AreDotted.term t us (10 ∷ a) s b r (IsBlank.white 10 a refl blank) spells between ends rest

terms_second : (text : List ℕ) (ts : Trees) → terms_of text ≡ Ok ts → terms_of (second_line ++ text) ≡ Ok (more second_term ts)
terms_second text ts read =
    let is = is_read text ts read in
    told_read (second_line ++ text) (more second_term ts)
    (AreDotted.term second_term ts [] (codes "{profile, 2}") [] (10 ∷ text) IsBlank.nothing second_spelled IsBlank.nothing (inr refl)
    (behind_line ts text (text_spelled text (length (past_blank text)) ts is.from)))
    (utf8_second text is.utf8)

pub second_profile_reads_same : SecondProfileReadsSame
unfolding cluster_of
second_profile_reads_same text c unnamed is = by (terms_of text) refl is
  where
    by : (r : Result Trees TermFault) → terms_of text ≡ r → cluster_in r ≡ Ok c → cluster_in (terms_of (second_line ++ text)) ≡ Ok (in_profile 2 c)
    by (Ok ts) read clusters =
        ap cluster_in (terms_second text ts read) ∙ second_terms second_term (list_of_trees ts) c second_named (unnamed ts read) clusters
    by (Err f) read clusters = absurd (cc clusters)
