-- Worked rows: what is left of a file that is cut.
use Rattle.std.proofs.Common.{◌≡◌, codes, refl}
use Rattle.std.specs.Str.{chars, is_utf8, trim_start, trim_end}
use lib.Utf8.{encode}
use Rattle.rh_cluster_lint.specs.declared.cuts.Cut.TheVariants.{Headers, Lists, Applications, Boots}
use Rattle.rh_cluster_lint.specs.Cuts.{left, emptied, cut_at}

emptied_row : emptied (codes "{node, a, [{k, [x]}, '}']}. % c") ≡ codes "{node, a, []}. % c"
unfolding left
emptied_row = refl

-- the first term is 33 bytes
headers_row : cut_at Headers 33 (codes "{node, a, [{k, [x, y]}, {l, z}]}. {node, b, []}.") ≡ codes "{node, a, []}."
unfolding left cut_at
headers_row = refl

-- behind the x, which is the 17th byte; and behind the b, the 41st
lists_row : (cut_at Lists 17 (codes "{node, a, [{k, [x, y]}, {l, z}]}. {application, w, [v]}.") ≡ codes "{node, a, [{k, [x]}]}. {application, w, []}.")
    × (cut_at Lists 41 (codes "{application, w, [{m, []}]}. {node, a, [b, c]}.") ≡ codes "{application, w, []}. {node, a, [b]}.")
unfolding chars is_utf8 trim_start trim_end encode left cut_at
lists_row = (refl, refl)

-- behind the b, the 19th byte
applications_row : cut_at Applications 19 (codes "{application, w, [b, c]}. {node, a, [{k, [x]}]}. {application, v, [d]}.")
    ≡ codes "{application, w, [b]}. {node, a, [{k, [x]}]}. {application, v, []}."
unfolding chars is_utf8 trim_start trim_end encode left cut_at
applications_row = refl

-- behind the b, the 32nd byte
boots_row : cut_at Boots 32 (codes "{node, a, [{rehearse, [{boot, [b, c]}, {platform, [s]}]}]}. {node, d, [{rehearse, [{boot, [e]}]}]}.")
    ≡ codes "{node, a, [{rehearse, [{boot, [b]}, {platform, [s]}]}]}. {node, d, [{rehearse, [{boot, []}]}]}."
unfolding chars is_utf8 trim_start trim_end encode left cut_at
boots_row = refl
