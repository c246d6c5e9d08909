use Rattle.std.proofs.lemmas.Simd.{length-chunk}
use Rattle.rh_findings.proofs.Blocks.{places_fit, none_marked, some_marked}
use Rattle.rh_findings.proofs.plain.plain_of_block.Goals as goal

pub swizzle-alike : goal.swizzle-alike
swizzle-alike c = places_fit _ (length-chunk c.args.at 32 c.args.bytes.now c.requires)

pub returns-then-marks-eq0-clause-plain : goal.returns-then-marks-eq0-clause-plain
returns-then-marks-eq0-clause-plain c = none_marked c.args.bytes.now c.args.at c.requires c.type_inv.bytes c.if-marks-eq0.true

pub returns-else-marks-eq0-clause-within : goal.returns-else-marks-eq0-clause-within
returns-else-marks-eq0-clause-within c = (some_marked c.args.bytes.now c.args.at c.requires c.type_inv.bytes c.if-marks-eq0.false).0

pub returns-else-marks-eq0-clause-plain : goal.returns-else-marks-eq0-clause-plain
returns-else-marks-eq0-clause-plain c = (some_marked c.args.bytes.now c.args.at c.requires c.type_inv.bytes c.if-marks-eq0.false).1
