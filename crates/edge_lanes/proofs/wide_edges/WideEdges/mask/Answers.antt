use Rattle.std.proofs.Common.{◌≡◌, ℕ, ℤ, bit_and, FitsSigned, w64, rules}
use Rattle.std.specs.Simd.Lanes.{mask_l}
use Rattle.std.proofs.lemmas.Int.{to_z-of_z}
use Rattle.cull_base.specs.Piece.{each_sample}
use Rattle.edge_lanes.specs.Inside.{wide_lines}
use Rattle.edge_lanes.specs.Lines.{Lines, inside_from, mask_of_all, moved_to}
use Rattle.edge_lanes.proofs.Masks.{mask_l-and_samples}
use Rattle.edge_lanes.proofs.wide_edges.WideEdges.mask.Goals as goal

joined : (e : Lines) (s t u a b d : ℤ) (j l m n : ℕ) → a ≡ moved_to e.first s j → b ≡ moved_to e.second t j → d ≡ moved_to e.third u j →
    l ≡ mask_l (each_sample (inside_from e.first a)) → m ≡ mask_l (each_sample (inside_from e.second b)) → n ≡ mask_l (each_sample (inside_from e.third d)) →
    bit_and (bit_and l m) n ≡ mask_of_all e s t u j
joined e s t u a b d j l m n ea eb ed el em en =
    rw (el, em, en, ea, eb, ed) (mask_l-and_samples (inside_from e.first (moved_to e.first s j)) (inside_from e.second (moved_to e.second t j)) (inside_from e.third (moved_to e.third u j)))

pub returns : goal.returns
returns c =
    let fs : FitsSigned w64 c.args.first = c.ranges.first in let ft : FitsSigned w64 c.args.second = c.ranges.second in let fu : FitsSigned w64 c.args.third = c.ranges.third in
    let ga : FitsSigned w64 c.subtile_start-first.result = search rules in
    let gb : FitsSigned w64 c.subtile_start-second.result = search rules in
    let gd : FitsSigned w64 c.subtile_start-third.result = search rules in
    joined (wide_lines c.args.self.now) c.args.first c.args.second c.args.third c.subtile_start-first.result c.subtile_start-second.result c.subtile_start-third.result c.args.j c.mask.result c.mask-2.result c.mask-3.result
    (simp to_z-of_z at c.subtile_start-first.ensures.value) (simp to_z-of_z at c.subtile_start-second.ensures.value) (simp to_z-of_z at c.subtile_start-third.ensures.value)
    (simp to_z-of_z at c.mask.ensures) (simp to_z-of_z at c.mask-2.ensures) (simp to_z-of_z at c.mask-3.ensures)
