use Rattle.std.proofs.Common.{◌≡◌, ◌++◌, ◌∷◌, [], List, true, sym, ap, subst, ◌∙◌}
use Rattle.rh_model.specs.ClusterView.{ClusterView, IsWithin}
use Rattle.rh_rules.specs.declared.pick.Pick.{Pick}
use Rattle.rh_calls.specs.declared.call.Call.{Call}
use Rattle.rh_calls.specs.declared.call.Reply.{Reply}
use Rattle.rh_trail.specs.SimView.{SimView}
use Rattle.rh_trail.specs.Lone.{opened, served, sim_after}
use Rattle.rh_trail.specs.Laws.{is_refusal}
use Rattle.rh_room.specs.declared.pass.Entry.{Entry}
use Rattle.rh_room.specs.Legal.{IsLegal, calls}
use Rattle.rh_app.specs.Laws.{IsEntryReversible, IsLogReversible}
use Rattle.rh_cluster.proofs.ReadWithin.{clusters_within}
use Rattle.rh_trail.proofs.Reversals.{calls_reversible}
use Rattle.rh_app.proofs.laws.sessions_are_reversible.Goals as goal

abbrev head_or : Reply → List Reply → Reply
head_or d [] = d
head_or d (r ∷ rs) = r

abbrev tail_of : List Reply → List Reply
tail_of [] = []
tail_of (r ∷ rs) = rs

-- what a legal log has of a call is what a single caller is told there
told_there : (start : SimView) (earlier : List Entry) (e : Entry) (later : List Entry) → IsLegal start (earlier ++ e ∷ later)
    → e.reply ≡ (served (sim_after start (calls earlier)) e.call).reply
told_there start [] e later legal = ap (head_or e.reply) legal
told_there start (x ∷ xs) e later legal = told_there (served start x.call).sim xs e later (ap tail_of legal)

module _ (c : ClusterView) (pick : Pick) (within : IsWithin c) (log : List Entry) (legal : IsLegal (opened c pick) log) where
  entry_reversible : (earlier : List Entry) (e : Entry) (later : List Entry) → log ≡ earlier ++ e ∷ later
      → IsEntryReversible (sim_after (opened c pick) (calls earlier)) e
  entry_reversible earlier e later parted =
      let told = told_there (opened c pick) earlier e later (subst (λ (es : List Entry). IsLegal (opened c pick) es) parted legal) in
      let here = calls_reversible c pick (calls earlier) within in
      record {
        step = λ event notices call reply.
            here.steps event notices (ap (λ (k : Call). (served (sim_after (opened c pick) (calls earlier)) k).reply) (sym call) ∙ sym told ∙ reply);
        refused = λ refusal. here.refused e.call (subst (λ (r : Reply). is_refusal r ≡ true) told refusal);
      }

  log_reversible : IsLogReversible (opened c pick) log
  log_reversible = record {
    behind = λ earlier later parted. calls_reversible c pick (calls earlier) within;
    entries = entry_reversible;
  }

pub returns : goal.returns
returns c = λ bytes v pick log read legal. log_reversible v pick (clusters_within bytes v read) log legal
