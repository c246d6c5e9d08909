-- How far a part of a step went, put together from its own parts.
use Rattle.std.proofs.Common.{◌≡◌, List, [], ◌∷◌, ◌++◌, refl, sym, ap, ◌∙◌, append_assoc}
use Rattle.std.proofs.lemmas.List.{append-nil}
use Rattle.rh_base.specs.Exchanges.{back, forth}
use Rattle.rh_state.specs.declared.edit.Change.{Change}
use Rattle.rh_state.specs.declared.edit.Change.TheVariants.{Now, Mode, Incarnation, Allowed, Restart, Kind, Standing}
use Rattle.rh_state.specs.declared.edit.Edit.{Edit}
use Rattle.rh_state.specs.declared.edit.Edit.TheVariants.{Links, Timer, Part}
use Rattle.rh_state.specs.Edits.{exchange, put}
use Rattle.rh_state.specs.Formed.{IsFormed}
use Rattle.rh_state.specs.Stored.{Stored, read}
use Rattle.rh_state.proofs.Records.{grows_none, grows_one, grows_more}
use Rattle.rh_rules.specs.declared.notice.Notice.{Notice}
use Rattle.rh_trace.specs.Traces.{TraceView}
use Rattle.rh_trace.specs.Ways.{Tells, TellsNothing, LeadsBack, Goes}

tells_same : (old new : List Notice) → new ≡ old → Tells old new
tells_same old new is = record { more = []; is = is ∙ sym (append-nil old) }

pub tells_more : (a b c : List Notice) → Tells a b → Tells b c → Tells a c
tells_more a b c g h = record { more = g.more ++ h.more; is = h.is ∙ ap (λ l. l ++ h.more) g.is ∙ append_assoc a g.more h.more }

pub silent_more : (a b c : TraceView) → TellsNothing a b → TellsNothing b c → TellsNothing a c
silent_more a b c g h = record { notices = h.notices ∙ g.notices; marked = h.marked ∙ g.marked; freed = h.freed ∙ g.freed }

-- nothing happened
pub goes_none : (v : Stored) (trace : TraceView) → Goes v trace v trace
goes_none v trace = record { edits = grows_none v trace.edits; notices = tells_same trace.notices trace.notices refl }

-- a notice was told
pub goes_told : (v : Stored) (old new : TraceView) (n : Notice) → new.notices ≡ old.notices ++ n ∷ [] → new.edits ≡ old.edits → Goes v old v new
goes_told v old new n told same = record {
  edits = rw same (grows_none v old.edits);
  notices = record { more = n ∷ []; is = told };
}

-- notices were told
pub goes_told_more : (v : Stored) (old new : TraceView) → Tells old.notices new.notices → new.edits ≡ old.edits → Goes v old v new
goes_told_more v old new told same = record { edits = rw same (grows_none v old.edits); notices = told }

-- a pair was marked, or none is any longer
pub goes_marked : (v : Stored) (old new : TraceView) → new.notices ≡ old.notices → new.edits ≡ old.edits → Goes v old v new
goes_marked v old new same edits = record { edits = rw edits (grows_none v old.edits); notices = tells_same old.notices new.notices same }

-- a setter was called, and its edit kept
pub goes_one : (v w : Stored) (e : Edit) (old new : TraceView) → new.notices ≡ old.notices → new.edits ≡ old.edits ++ e ∷ [] → LeadsBack v e w
    → IsFormed v → IsFormed w → Goes v old w new
goes_one v w e old new same edits led before after = record {
  edits = grows_one v w e old.edits new.edits edits led.done led.exact before after;
  notices = tells_same old.notices new.notices same;
}

-- one part was made, and then another
pub goes_more : (u v w : Stored) (a b c : TraceView) → Goes u a v b → Goes v b w c → Goes u a w c
goes_more u v w a b c g h = record {
  edits = grows_more u v w a.edits b.edits c.edits g.edits h.edits;
  notices = tells_more a.notices b.notices c.notices g.notices h.notices;
}

-- the cluster stays the same
put_cluster : (w : Stored) (c : Change) → (put w c).cluster ≡ w.cluster
put_cluster w (Now time) = refl
put_cluster w (Mode n mode) = refl
put_cluster w (Incarnation n incarnation) = refl
put_cluster w (Allowed n a allow) = refl
put_cluster w (Restart n a restart) = refl
put_cluster w (Kind n a kind) = refl
put_cluster w (Standing a standing) = refl

pub exchange_cluster : (w : Stored) (e : Edit) → (exchange w e).cluster ≡ w.cluster
unfolding exchange
exchange_cluster w (Links e) = refl
exchange_cluster w (Timer e) = refl
exchange_cluster w (Part done c) = put_cluster w c

pub back_cluster : (w : Stored) (edits : List Edit) → (back exchange w edits).cluster ≡ w.cluster
back_cluster w [] = refl
back_cluster w (e ∷ edits) = exchange_cluster (back exchange w edits) e ∙ back_cluster w edits

pub forth_cluster : (w : Stored) (edits : List Edit) → (forth exchange w edits).cluster ≡ w.cluster
forth_cluster w [] = refl
forth_cluster w (e ∷ edits) = forth_cluster (exchange w e) edits ∙ exchange_cluster w e

pub goes_cluster : (v w : Stored) (old new : TraceView) → Goes v old w new → (read w).cluster ≡ (read v).cluster
unfolding read
goes_cluster v w old new g = sym (back_cluster w g.edits.added) ∙ ap (λ (x : Stored). x.cluster) g.edits.led.back
