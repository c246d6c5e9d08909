use Rattle.std.proofs.Common.{◌≡◌, ap, subst, ◌∙◌}
use Rattle.rh_calls.specs.declared.call.Call.TheVariants as call
use Rattle.rh_trail.specs.Chain.{IsChain}
use Rattle.rh_trail.specs.Laws.{is_refusal}
use Rattle.rh_trail.specs.Lone.{served}
use Rattle.rh_trail.specs.SimView.{Held}
use Rattle.rh_room.specs.declared.pass.Receipt.{Receipt}
use Rattle.rh_room.specs.Legal.{RoomView}
use Rattle.rh_app.proofs.Words.{served_back, refused_unless_done}
use Rattle.rh_app.proofs.laws.serve_step_and_own_undo.Goals as goal
use Rattle.rh_app.proofs.laws.serve_step_and_own_undo.Goals.{in-Done+in_ok-serve+in-Done-1, in-Done+in_ok-serve+in-Seen-1, in-Done+in_ok-serve+in-Refused-1, in_default}

pub returns-clause-words : goal.returns-clause-words
returns-clause-words c =
    let s : Held = c.args.room.now.sim in
    let chained : IsChain s = subst (λ (v : Held). IsChain v) c.sim.ensures.sim c.is_chained.ensures in
    let told : c.in_ok-receipt.receipt.reply ≡ (served s.seen (call.Step c.args.event)).reply = ap (λ (r : Receipt). r.reply) c.in_ok-receipt.ensures.receipt in
    elim c.match-receipt.branch [
      | in-Done+in_ok-serve+in-Done-1 w ↦
          ap (λ (r : RoomView). r.sim.words) w.room-is
          ∙ served_back s c.serve.new.self.sim w.serve-in-Done.new.self.sim chained c.args.event c.in_ok-receipt.receipt.reply w.in_ok-serve.field-0.reply told
          (ap is_refusal w.in-Done.is) c.in_ok-receipt.ensures.sim c.in_ok-receipt.ensures.chain
          (ap (λ (r : Receipt). r.reply) w.in_ok-serve.ensures.receipt) w.in_ok-serve.ensures.words
      | in-Done+in_ok-serve+in-Seen-1 w ↦
          ap (λ (r : RoomView). r.sim.words) w.room-is
          ∙ served_back s c.serve.new.self.sim w.serve-in-Done.new.self.sim chained c.args.event c.in_ok-receipt.receipt.reply w.in_ok-serve.field-0.reply told
          (ap is_refusal w.in-Done.is) c.in_ok-receipt.ensures.sim c.in_ok-receipt.ensures.chain
          (ap (λ (r : Receipt). r.reply) w.in_ok-serve.ensures.receipt) w.in_ok-serve.ensures.words
      | in-Done+in_ok-serve+in-Refused-1 w ↦
          ap (λ (r : RoomView). r.sim.words) w.room-is
          ∙ served_back s c.serve.new.self.sim w.serve-in-Done.new.self.sim chained c.args.event c.in_ok-receipt.receipt.reply w.in_ok-serve.field-0.reply told
          (ap is_refusal w.in-Done.is) c.in_ok-receipt.ensures.sim c.in_ok-receipt.ensures.chain
          (ap (λ (r : Receipt). r.reply) w.in_ok-serve.ensures.receipt) w.in_ok-serve.ensures.words
      | in_default w ↦
          ap (λ (r : RoomView). r.sim.words) w.room-is
          ∙ ap (λ (v : Held). v.words)
          (c.in_ok-receipt.ensures.whole (refused_unless_done s.seen c.args.event c.in_ok-receipt.receipt.reply told w.in_default.not-Done))
    ]
