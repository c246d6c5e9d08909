-- What is sent stands behind what is on its way.
use Rattle.std.proofs.Common.{◌≡◌, ◌++◌, List, [], refl, sym, ap, ◌∙◌}
use Rattle.std.proofs.lemmas.List.{append_assoc, append-nil}
use Rattle.rh_model.specs.declared.node.Node.{Node}
use Rattle.rh_otp_model.specs.declared.output.Envelope.{Envelope}
use Rattle.rh_otp_system.specs.State.{SystemView}
use Rattle.rh_otp_system.specs.Ending.{taken_down}
use Rattle.rh_otp_system.specs.Sending.{told}
use Rattle.rh_otp_laws.proofs.Turn.{Turn, nothing, both, wrote, noted, seen, put, set, linked, slowed, took, freed, called, answered, fell, unmonitored}

abbrev pub IsBehind : SystemView → SystemView → Type 0
IsBehind s t = (more : List Envelope) × (t.messages ≡ s.messages ++ more)

none_more : (messages : List Envelope) → (more : List Envelope) × (messages ≡ messages ++ more)
none_more messages = ([], sym (append-nil messages))

fell_same : (n : Node) (s : SystemView) → (taken_down n s).messages ≡ s.messages
unfolding taken_down told
fell_same n s = refl

pub sends_behind : (n : Node) (s t : SystemView) → Turn n s t → IsBehind s t
sends_behind n _ _ (nothing s) = none_more s.messages
sends_behind n _ _ (both s u t p q) =
    let first : IsBehind s u = sends_behind n s u p in
    let next : IsBehind u t = sends_behind n u t q in
    (first.0 ++ next.0, next.1 ∙ ap (λ (l : List Envelope). l ++ next.0) first.1 ∙ append_assoc s.messages first.0 next.0)
sends_behind n _ _ (wrote s v on) = none_more s.messages
sends_behind n _ _ (noted s m a kind) = none_more s.messages
sends_behind n _ _ (seen s e) = none_more s.messages
sends_behind n _ _ (put s more) = (more, refl)
sends_behind n _ _ (set s due to m later) = none_more s.messages
sends_behind n _ _ (linked s links) = none_more s.messages
sends_behind n _ _ (slowed s slow) = none_more s.messages
sends_behind n _ _ (took s r p nodes) = none_more s.messages
sends_behind n _ _ (freed s r p) = none_more s.messages
sends_behind n _ _ (called s calls last) = none_more s.messages
sends_behind n _ _ (answered s answers) = none_more s.messages
sends_behind n _ _ (fell s) = ([], fell_same n s ∙ sym (append-nil s.messages))
sends_behind n _ _ (unmonitored s m) = none_more s.messages
