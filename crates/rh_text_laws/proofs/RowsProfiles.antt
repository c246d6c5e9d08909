-- Worked rows: what the laws of profiles ask is met, and is needed, computed from the definitions.
use Rattle.std.proofs.Common.{◌≡◌, [], ◌∷◌, true, false, None, refl, ℕ, Option, Result, Ok, Err, codes, sym, ap, ◌∙◌, Some, ◌++◌}
use Rattle.std.specs.Str.{is_utf8, chars}
use lib.Utf8.{encode}
use Rattle.rh_base.specs.Tree.{list_of_trees, Trees}
use Rattle.rh_terms.specs.declared.fault.TermFault.{TermFault}
use Rattle.rh_terms.specs.Bytes.{past}
use Rattle.rh_terms.specs.Tokens.{digits_at, integer_at, name_at}
use Rattle.rh_terms.specs.Grammar.{terms_of, dotted, dot_at, inside, terms_up_to, some_terms, next_at, term_by, word_at}
use Rattle.rh_cluster.specs.Shapes.{as_atom, as_tuple, as_int, as_pair, as_entry, as_profile}
use Rattle.rh_cluster.specs.Profile.{profile_named}
use Rattle.rh_rules.specs.declared.pick.Pick.TheVariants.{First}
use Rattle.rh_state.specs.declared.status.Mode.TheVariants.{Up}
use Rattle.rh_state.specs.declared.status.Standing.TheVariants.{Quiet, Running}
use Rattle.rh_state.specs.StateView.{StateView}
use Rattle.rh_state.specs.Numbers.{nodes_of, apps_of}
use Rattle.rh_rules.specs.Placing.{deps_run, is_operational, best, candidates}
use Rattle.rh_rules.specs.declared.notice.Notice.TheVariants.{Started, Stopped}
use Rattle.rh_rules.specs.Moves.{can_start, local_moves, placements, calls_away, takeovers}
use Rattle.rh_rules.specs.Settling.{next_moves, moved_by, all_moved}
use Rattle.rh_rules.specs.NodesStart.{is_ready, come_up_if_ready, ready_come_up}
use Rattle.rh_state.specs.declared.status.Kind.TheVariants as kind
use Rattle.rh_rules.specs.declared.event.Event.TheVariants.{Boot, Crash, Permit}
use Rattle.rh_rules.specs.ByHand.{permitted}
use Rattle.rh_events.proofs.Scene.{p, q, job, aid, lab, scene}
use Rattle.rh_rules.specs.Steps.{followed, next}
use Rattle.rh_trail.specs.Lone.{opened}
use Rattle.rh_calls.specs.declared.call.Call.TheVariants as call
use Rattle.rh_model.specs.declared.settings.SyncWait.TheVariants.{After}
use Rattle.rh_text_laws.specs.Profiles.{state_in, gives_back, NoneGivesBack}
use Rattle.rh_text_laws.specs.ProfileFiles.{NamesNoProfile, second_line}

-- job runs at q and waits at p, which is in an earlier group, and where it may not run
abbrev forbidden : StateView
forbidden = record (scene (Up ∷ Up ∷ []) ((aid ∷ []) ∷ (aid ∷ job ∷ []) ∷ []) ((job ∷ []) ∷ [] ∷ []) (Running q ∷ Quiet ∷ Quiet ∷ [])) {
  allowed = (false ∷ true ∷ true ∷ true ∷ true ∷ []) ∷ (true ∷ true ∷ true ∷ true ∷ true ∷ []) ∷ [];
}

-- a permission that is given back there is such a one; elsewhere, where it may run, it is none, and no crash is
gives_back_row : (gives_back forbidden (Permit p job true) ≡ true) × (gives_back forbidden (Permit p aid true) ≡ false)
    × (gives_back forbidden (Permit q job true) ≡ false) × (gives_back forbidden (Permit p job false) ≡ false) × (gives_back forbidden (Crash q) ≡ false)
gives_back_row = (refl, refl, refl, refl, refl)

-- and then the profiles tell different things: that none is given back is needed
first_row : (next forbidden (Permit p job true) First).notices ≡ []
unfolding permitted nodes_of apps_of is_ready come_up_if_ready ready_come_up is_operational deps_run best candidates can_start local_moves placements
    calls_away takeovers next_moves moved_by all_moved followed next
first_row = refl

second_row : (next (state_in 2 forbidden) (Permit p job true) First).notices ≡ Started job p (kind.Takeover q) None ∷ Stopped job q ∷ []
unfolding permitted nodes_of apps_of is_ready come_up_if_ready ready_come_up is_operational deps_run best candidates can_start local_moves placements
    calls_away takeovers next_moves moved_by all_moved followed next
second_row = refl

-- ---- calls that give none back, a permission that is taken among them
none_given_row : NoneGivesBack (opened (lab (After 500)) First) (call.Step (Boot p) ∷ call.Step (Permit p job false) ∷ call.Undo ∷ call.Look ∷ [])
none_given_row = (refl, (refl, (refl, (refl, tt))))

-- ---- a file that names no profile, and one that does
abbrev named_in : Result Trees TermFault → Option ℕ
named_in (Ok ts) = profile_named (list_of_trees ts)
named_in (Err f) = None

unnamed_row : NamesNoProfile (codes "{node, a, []}.\n")
unfolding is_utf8 chars encode terms_of dotted dot_at inside terms_up_to some_terms next_at term_by word_at name_at past integer_at digits_at
    as_profile as_entry as_pair as_tuple as_atom as_int
unnamed_row ts read = let none : named_in (terms_of (codes "{node, a, []}.\n")) ≡ None = refl in sym (ap named_in read) ∙ none

named_row : named_in (terms_of (second_line ++ codes "{node, a, []}.\n")) ≡ Some 2
unfolding is_utf8 chars encode terms_of dotted dot_at inside terms_up_to some_terms next_at term_by word_at name_at past integer_at digits_at
    as_profile as_entry as_pair as_tuple as_atom as_int
named_row = refl
