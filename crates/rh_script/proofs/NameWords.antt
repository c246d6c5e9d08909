-- The names of each cluster that is read can stand in a line.
use Rattle.std.proofs.Common.{◌≡◌, ◌≢◌, ◌<◌, ◌==◌, ◌&&◌, ◌||◌, ℕ, codes, not, Bool, true, false, cond, List, [], ◌∷◌, ◌++◌, length, nat_le, nat_lt, Option, Some, None, is_some, Result, Ok, Err}
use Rattle.std.proofs.Common.{refl, sym, ap, ◌∙◌, subst, arith}
use Rattle.std.specs.Prelude.{All}
use Rattle.std.specs.List.{list_all}
use Rattle.std.specs.Str.{IsUtf8, bytes_eq}
use Rattle.std.proofs.lemmas.Bool.Decides.{nat_tests}
use Rattle.std.proofs.lemmas.List.Elements.{All-nil, All-map}
use Rattle.std.proofs.lemmas.Option.{same_Some}
use Rattle.std.proofs.lemmas.Str.{is_utf8-from_IsUtf8}
use Rattle.rh_base.specs.Tree.{Tree, Trees, atom, int, text, list, tuple, none, more, list_of_trees}
use Rattle.rh_base.proofs.Elements.{none_left, none_right, All-cons_option}
use Rattle.rh_terms.specs.Grammar.{terms_of}
use Rattle.rh_terms.specs.declared.fault.TermFault.{TermFault}
use Rattle.rh_model.specs.ClusterView.{ClusterView}
use Rattle.rh_model.specs.Names.{is_among}
use Rattle.rh_model.specs.Limits.{node_limit, app_limit}
use Rattle.rh_cluster.specs.declared.fault.ClusterFault.{ClusterFault}
use Rattle.rh_cluster.specs.declared.fault.ClusterFault.TheVariants as fault
use Rattle.rh_cluster.specs.declared.name_rule.TheConstants.{LONGEST_NAME}
use Rattle.rh_cluster.specs.NameRule.{is_name, is_name_byte}
use Rattle.rh_cluster.specs.Shapes.{as_node, as_app, as_profile, as_headed, as_triple, as_tuple, as_atom, ◌>>=◌}
use Rattle.rh_cluster.specs.Faults.{in_turn, when, unless}
use Rattle.rh_cluster.specs.Headers.{every_platform, node_names, app_names, nodes_in, apps_in, new_name_faults, header_faults, header_faults_by, headers_stage}
use Rattle.rh_cluster.specs.ClusterOf.{faults_behind_headers, faults_in, cluster_view, cluster_of_terms, cluster_in, cluster_of}
use Rattle.rh_cluster.specs.Profile.{profile_of, behind_profile}
use Rattle.rh_cluster.proofs.NoFaults.{not_when}
use Rattle.rh_cluster.proofs.OneHeader.{no_node}
use Rattle.rh_script.specs.Laws.{IsWord, HasWords, IsUnbroken, HasUnbroken, ClustersHaveWords}
use Rattle.rh_script.proofs.Words.{each_passes, some_byte}
use Rattle.rh_script.proofs.AtomTexts.{HasTexts, HaveTexts, texts_read}

-- ---- by the rule of names

both : (a b : Bool) → (a && b) ≡ true → (a ≡ true) × (b ≡ true)
both true b h = (refl, h)
both false b h = cc

is_set : (b : Bool) → not b ≡ false → b ≡ true
is_set true h = refl
is_set false h = cc

is_unset : (b : Bool) → not b ≡ true → b ≡ false
is_unset true h = cc
is_unset false h = refl

above_space : (b : ℕ) → is_name_byte b ≡ true → 32 < b
above_space b h = let above : nat_lt 32 b ≡ true = (both (nat_lt 32 b) (not (b == 127)) h).0 in grind (arith, nat_tests, above)

no_space : (b : ℕ) → is_name_byte b ≡ true → b ≢ 32
no_space b h e = absurd (omega (arith, e, above_space b h))

no_end : (b : ℕ) → is_name_byte b ≡ true → (b ≢ 10) × (b ≢ 13)
no_end b h = (λ e. absurd (omega (arith, e, above_space b h)), λ e. absurd (omega (arith, e, above_space b h)))

abbrev IsName : List ℕ → Type 0
IsName name = IsWord name × IsUnbroken name

name_by_rule : (name : List ℕ) → IsUtf8 name → is_name name ≡ true → IsName name
unfolding is_name
name_by_rule name utf8 rule =
    let parts = both (not (length name == 0) && nat_le (length name) LONGEST_NAME) (list_all is_name_byte name) rule in
    let some = both (not (length name == 0)) (nat_le (length name) LONGEST_NAME) parts.0 in
    let word : IsWord name = record {
      text = is_utf8-from_IsUtf8 name utf8;
      some = some_byte name (is_unset (length name == 0) some.0);
      unparted = each_passes is_name_byte (λ b. b ≢ 32) no_space name parts.1;
    } in
    (word, each_passes is_name_byte (λ b. (b ≢ 10) × (b ≢ 13)) no_end name parts.1)

-- ---- the name of a term

atom_text : (t : Tree) (s : List ℕ) → HasTexts t → as_atom t ≡ Some s → IsUtf8 s
unfolding as_atom
atom_text (atom r) s utf8 e = subst (λ l. IsUtf8 l) (same_Some r s e) utf8
atom_text (int n) s utf8 e = cc
atom_text (text r) s utf8 e = cc
atom_text (list ts) s utf8 e = cc
atom_text (tuple ts) s utf8 e = cc

second_texts : (t : Tree) (p : Tree × Tree × Tree) → HasTexts t → as_triple t ≡ Some p → HasTexts p.1
unfolding as_triple as_tuple
second_texts (tuple (more a (more b (more c none)))) p utf8 e = subst (λ (q : Tree × Tree × Tree). HasTexts q.1) (same_Some (a, b, c) p e) utf8.1.0
second_texts (tuple none) p utf8 e = cc
second_texts (tuple (more a none)) p utf8 e = cc
second_texts (tuple (more a (more b none))) p utf8 e = cc
second_texts (tuple (more a (more b (more c (more d ts))))) p utf8 e = cc
second_texts (atom s) p utf8 e = cc
second_texts (int n) p utf8 e = cc
second_texts (text s) p utf8 e = cc
second_texts (list ts) p utf8 e = cc

headed_text : (word : List ℕ) (t : Tree) (x : List ℕ × Tree) → HasTexts t → as_headed word t ≡ Some x → IsUtf8 x.0
unfolding as_headed
headed_text word t x utf8 e = by (as_triple t) refl e
  where
    named : (second part : Tree) (o : Option (List ℕ)) → as_atom second ≡ o → HasTexts second → (o >>= λ name. Some (name, part)) ≡ Some x → IsUtf8 x.0
    named second part None is texts k = cc
    named second part (Some name) is texts k =
        subst (λ (y : List ℕ × Tree). IsUtf8 y.0) (same_Some (name, part) x k) (atom_text second name texts is)

    chosen : (second part : Tree) (b : Bool) → HasTexts second → cond b (as_atom second >>= λ name. Some (name, part)) None ≡ Some x → IsUtf8 x.0
    chosen second part true texts k = named second part (as_atom second) refl texts k
    chosen second part false texts k = cc

    headed : (p : Tree × Tree × Tree) (o : Option (List ℕ)) → HasTexts p.1
        → (o >>= λ head. cond (bytes_eq head word) (as_atom p.1 >>= λ name. Some (name, p.2)) None) ≡ Some x → IsUtf8 x.0
    headed p None texts k = cc
    headed p (Some head) texts k = chosen p.1 p.2 (bytes_eq head word) texts k

    by : (o : Option (Tree × Tree × Tree)) → as_triple t ≡ o
        → (o >>= λ p. as_atom p.0 >>= λ head. cond (bytes_eq head word) (as_atom p.1 >>= λ name. Some (name, p.2)) None) ≡ Some x → IsUtf8 x.0
    by None is k = cc
    by (Some p) is k = headed p (as_atom p.0) (second_texts t p utf8 is) k

-- ---- the names of terms whose headers have no fault

rule_kept : (most : ℕ) (reserved : Bool) (earlier : List (List ℕ)) (name : List ℕ) → new_name_faults most reserved earlier name ≡ [] → is_name name ≡ true
unfolding new_name_faults
rule_kept most reserved earlier name clean =
    let bad = when (not (is_name name)) fault.BadName in
    let taken = when (reserved || is_among earlier name) fault.DuplicateName in
    let many = when (nat_le most (length earlier)) fault.TooMany in
    is_set (is_name name) (not_when (not (is_name name)) fault.BadName (none_left bad taken (none_left (bad ++ taken) many clean)))

node_rule : (p : ℕ) (nodes apps : List (List ℕ)) (t : Tree) (x : List ℕ × Tree) → as_node t ≡ Some x → header_faults p nodes apps t ≡ []
    → is_name x.0 ≡ true
unfolding header_faults
node_rule p nodes apps t x is clean =
    rule_kept (node_limit p) false nodes x.0 (ap (λ (o : Option (List ℕ × Tree)). header_faults_by p nodes apps o (as_app t)) (sym is) ∙ clean)

app_rule : (p : ℕ) (nodes apps : List (List ℕ)) (t : Tree) (x : List ℕ × Tree) → as_app t ≡ Some x → header_faults p nodes apps t ≡ []
    → is_name x.0 ≡ true
unfolding header_faults
app_rule p nodes apps t x is clean =
    rule_kept (app_limit p) (is_among every_platform x.0) apps x.0 ((λ i. header_faults_by p nodes apps (sym (no_node t x is) i) (sym is i)) ∙ clean)

abbrev IsNamed : List ℕ × Tree → Type 0
IsNamed x = IsName x.0

all_named : (p : ℕ) (e : List Tree) (ts : Trees) → in_turn (λ earlier t. header_faults p (node_names earlier) (app_names earlier) t) e (list_of_trees ts) ≡ []
    → HaveTexts ts → All IsNamed (nodes_in (list_of_trees ts)) × All IsNamed (apps_in (list_of_trees ts))
all_named p e none no_fault utf8 = (All-nil IsNamed, All-nil IsNamed)
all_named p e (more t ts) no_fault utf8 =
    let here = none_left _ _ no_fault in
    let others = all_named p (e ++ t ∷ []) ts (none_right _ _ no_fault) utf8.1 in (
      All-cons_option IsNamed (as_node t) (nodes_in (list_of_trees ts))
          (λ x is. name_by_rule x.0 (headed_text (codes "node") t x utf8.0 is) (node_rule p (node_names e) (app_names e) t x is here)) others.0,
      All-cons_option IsNamed (as_app t) (apps_in (list_of_trees ts))
          (λ x is. name_by_rule x.0 (headed_text (codes "application") t x utf8.0 is) (app_rule p (node_names e) (app_names e) t x is here)) others.1,
    )

abbrev HasNames : ClusterView → Type 0
HasNames c = HasWords c × HasUnbroken c

view_has_names : (p : ℕ) (ts : Trees) → headers_stage p (list_of_trees ts) ≡ [] → HaveTexts ts → HasNames (cluster_view p (list_of_trees ts))
unfolding cluster_view headers_stage node_names app_names
view_has_names p ts no_fault utf8 =
    let named = all_named p [] ts (none_left _ _ no_fault) utf8 in
    let nodes : All IsName (node_names (list_of_trees ts)) = All-map IsName (λ (x : List ℕ × Tree). x.0) (nodes_in (list_of_trees ts)) named.0 in
    let apps : All IsName (app_names (list_of_trees ts)) = All-map IsName (λ (x : List ℕ × Tree). x.0) (apps_in (list_of_trees ts)) named.1 in
    let words : HasWords (cluster_view p (list_of_trees ts)) = record { nodes = λ k d h. (nodes k d h).0; apps = λ k d h. (apps k d h).0 } in
    let unbroken : HasUnbroken (cluster_view p (list_of_trees ts)) = record { nodes = λ k d h. (nodes k d h).1; apps = λ k d h. (apps k d h).1 } in
    (words, unbroken)

-- ---- the cluster of a text

abbrev read_as : ClusterView → Result ClusterView ClusterFault
read_as v = Ok v

same_ok : (v c : ClusterView) → read_as v ≡ read_as c → v ≡ c
same_ok v c e = cc

words_unless : (p : ℕ) (ts : Trees) (c : ClusterView) (faults : List ClusterFault) → faults_in p (list_of_trees ts) ≡ faults → HaveTexts ts
    → unless faults (cluster_view p (list_of_trees ts)) ≡ Ok c → HasNames c
unfolding faults_in
words_unless p ts c [] no_fault utf8 read =
    let headers = none_left (headers_stage p (list_of_trees ts)) (faults_behind_headers (list_of_trees ts)) no_fault in
    subst HasNames (same_ok (cluster_view p (list_of_trees ts)) c read) (view_has_names p ts headers utf8)
words_unless p ts c (f ∷ fs) some utf8 read = cc

-- the terms behind the one that names the profile, or all of them
words_of_terms : (ts : Trees) (c : ClusterView) → HaveTexts ts → cluster_of_terms (list_of_trees ts) ≡ Ok c → HasNames c
unfolding cluster_of_terms behind_profile
words_of_terms none c texts read = words_unless (profile_of []) none c (faults_in (profile_of []) []) refl texts read
words_of_terms (more t us) c texts read = chosen (profile_of (list_of_trees (more t us))) (is_some (as_profile t)) read
  where
    chosen : (p : ℕ) (b : Bool) → unless (faults_in p (cond b (list_of_trees us) (list_of_trees (more t us))))
        (cluster_view p (cond b (list_of_trees us) (list_of_trees (more t us)))) ≡ Ok c → HasNames c
    chosen p true read = words_unless p us c (faults_in p (list_of_trees us)) refl texts.1 read
    chosen p false read = words_unless p (more t us) c (faults_in p (list_of_trees (more t us))) refl texts read

words_read : (r : Result Trees TermFault) (c : ClusterView) → ((ts : Trees) → r ≡ Ok ts → HaveTexts ts) → cluster_in r ≡ Ok c → HasNames c
words_read (Ok ts) c texts read = words_of_terms ts c (texts ts refl) read
words_read (Err f) c texts read = cc

pub clusters_have_words : ClustersHaveWords
unfolding cluster_of
clusters_have_words bytes c read = words_read (terms_of bytes) c (texts_read bytes) read
